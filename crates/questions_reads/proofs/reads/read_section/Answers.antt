use Rattle.paper_index.proofs.ReadsInOrder.{first-refused, first_read}
use Rattle.paper_index.proofs.SectionsRead.{read-there}
use Rattle.paper_index.specs.declared.types.SectionRead.{SectionRead}
use Rattle.paper_index.specs.Reads.{section_read}
use borrow.Author.Tests.{eq-eqb, ne_eqb}
use mathlib.Core.Path.{◌∙◌, ◌≡◌, ap, refl, sym}
use native.Mathlib.Omega.{arith}
use Rattle.questions_reads.proofs.reads.read_section.Goals as goal

pub returns-then-number-ne0 : goal.returns-then-number-ne0
unfolding section_read
returns-then-number-ne0 c = let h : c.first_refusal-number.result ≡ 0 → ⊥ = c.if-number-ne0.true in let e = first-refused c.args.entry.now c.args.row c.args.at c.args.identifier c.first_refusal-number.result c.first_refusal-number.ensures h in
    record {
      value = rw (e, ne_eqb _ _ h) refl;
      at_bound = λ z. absurd (h z);
    }

pub returns-then-section-eq0 : goal.returns-then-section-eq0
unfolding section_read
returns-then-section-eq0 c = let e = first_read c.args.entry.now c.args.row c.args.at c.args.identifier (sym c.first_refusal-number.ensures ∙ c.if-number-ne0.false) in
    record {
      value = rw (e, eq-eqb _ _ c.if-section-eq0.true) refl;
      at_bound = λ z. absurd (omega arith);
    }

pub returns : goal.returns
unfolding section_read
returns c = let e = first_read c.args.entry.now c.args.row c.args.at c.args.identifier (sym c.first_refusal-number.ensures ∙ c.if-number-ne0.false) in let q : c.read_record.result ≡ section_read c.args.entry.now c.args.row c.args.at c.args.identifier = rw (e, ne_eqb _ _ c.if-section-eq0.false) c.read_record.ensures in
    record {
      value = q;
      at_bound = λ z. read-there c.args.entry.now c.args.row c.args.at c.args.identifier (ap (λ (r : SectionRead). r.number) (sym q) ∙ z);
    }
