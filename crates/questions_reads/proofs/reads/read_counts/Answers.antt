use Rattle.paper_rules.specs.Counts.{announced_fault}
use Rattle.paper_faults.specs.Fault.{leftmost}
use Rattle.paper_rules.specs.Counts.{limit_n1, limit_n2, meets}
use Rattle.paper_index.proofs.CountsMet.{counts-met}
use Rattle.paper_index.specs.Reads.{good_counts}
use Rattle.paper_record.specs.System.{is_count}
use borrow.Author.Tests.{eq-eqb, ne_eqb}
use mathlib.Core.Bool.{true, false, ◌&&◌}
use mathlib.Core.Path.{◌∙◌, ◌≡◌, refl, sym}
use Rattle.questions_reads.proofs.reads.read_counts.Goals as goal

pub returns-then-not-is_count : goal.returns-then-not-is_count
unfolding good_counts
returns-then-not-is_count c = rw (← c.field_at-f.ensures, ← c.count_of-a.ensures.value, ← c.is_count.ensures, c.if-not-is_count.true) refl

pub returns-then-not-is_count-2 : goal.returns-then-not-is_count-2
unfolding good_counts
returns-then-not-is_count-2 c = let q : is_count c.count_of-b.result ≡ false = sym c.is_count-2.ensures ∙ c.if-not-is_count-2.true in rw (← c.field_at-f.ensures, ← c.count_of-a.ensures.value, ← c.is_count.ensures, c.if-not-is_count.false, ← c.field_at-g.ensures, ← c.count_of-b.ensures.value, q) refl

pub returns-then-fault-ne0 : goal.returns-then-fault-ne0
unfolding good_counts
returns-then-fault-ne0 c = let q : is_count c.count_of-b.result ≡ true = sym c.is_count-2.ensures ∙ c.if-not-is_count-2.false in let a : c.announced-fault.result ≡ leftmost (announced_fault c.args.identifier c.number_of-n1.result c.number_of-n2.result) = c.announced-fault.ensures in let e : (meets (limit_n1 c.args.identifier) c.number_of-n1.result && meets (limit_n2 c.args.identifier c.number_of-n1.result) c.number_of-n2.result) ≡ false = rw (← counts-met c.args.identifier c.number_of-n1.result c.number_of-n2.result, ← a) (ne_eqb _ _ c.if-fault-ne0.true) in rw (← c.field_at-f.ensures, ← c.count_of-a.ensures.value, ← c.is_count.ensures, c.if-not-is_count.false, ← c.field_at-g.ensures, ← c.count_of-b.ensures.value, q, ← c.number_of-n1.ensures, ← c.number_of-n2.ensures, e) refl

pub returns : goal.returns
unfolding good_counts
returns c = let q : is_count c.count_of-b.result ≡ true = sym c.is_count-2.ensures ∙ c.if-not-is_count-2.false in let a : c.announced-fault.result ≡ leftmost (announced_fault c.args.identifier c.number_of-n1.result c.number_of-n2.result) = c.announced-fault.ensures in let e : (meets (limit_n1 c.args.identifier) c.number_of-n1.result && meets (limit_n2 c.args.identifier c.number_of-n1.result) c.number_of-n2.result) ≡ true = rw (← counts-met c.args.identifier c.number_of-n1.result c.number_of-n2.result, ← a) (eq-eqb _ _ c.if-fault-ne0.false) in rw (← c.field_at-f.ensures, ← c.count_of-a.ensures.value, ← c.is_count.ensures, c.if-not-is_count.false, ← c.field_at-g.ensures, ← c.count_of-b.ensures.value, q, ← c.number_of-n1.ensures, ← c.number_of-n2.ensures, e) refl
