use Prim.Native.Nat.{◌*◌}
use Rattle.rules_flags.proofs.Headings.{below-same, passed_over, records-lent}
use Rattle.rules_flags.specs.Below.{letter_in}
use Rattle.paper_rules.specs.Flags.{records_over, rule17}
use Rattle.paper_faults.proofs.Leftmost.{leftmost-where}
use Rattle.paper_rules.specs.Ranging.{seen_of}
use borrow.Author.Tests.{le-ltb}
use mathlib.Core.Bool.{false}
use mathlib.Core.Path.{◌∙◌, ◌≡◌, sym}
use native.Mathlib.Omega.{arith}
use Rattle.rules_flags.proofs.flags.rule17.Goals as goal

pub returns-then-not-is_value : goal.returns-then-not-is_value
returns-then-not-is_value c = rw (sym c.is_value.ensures ∙ c.if-not-is_value.true)

pub has_letter-requires : goal.has_letter-requires
has_letter-requires c = (
  rw c.part-table.ensures (records-lent c.args.track c.args.ranges _ c.requires),
  c.heading_record-from.ensures.record_at,
)

pub returns-then-not-has_letter : goal.returns-then-not-has_letter
unfolding rule17
returns-then-not-has_letter c =
    let few = c.used-n.ensures.upper_bound in
    let s = seen_of c.args.before.now c.args.ranges in
    let same = below-same s c.args.track c.args.fs c.used-n.result few in
    let none : letter_in s.table (records_over c.args.track * 81) ≡ false =
    sym (rw (c.heading_record-from.ensures.value, c.part-table.ensures) at c.has_letter.ensures)
    ∙ c.if-not-has_letter.true in
    let past =
    passed_over s.bib s.bib001 s.table (records_over c.args.track * 81) c.args.fs
    c.used-n.result few none in
    rw (
      sym c.is_value.ensures ∙ c.if-not-is_value.false,
      leftmost-where,
      ← c.used-n.ensures.value,
      ← same,
      past,
      le-ltb c.used-n.result c.used-n.result (omega arith),
    )

pub first_fault-k-requires : goal.first_fault-k-requires
first_fault-k-requires c =
    record {
      whole_records = rw c.part-table.ensures (records-lent c.args.track c.args.ranges _ c.requires);
      record_at = (c.heading_record-from.ensures.record_at, c.used-n.ensures.upper_bound);
    }

pub returns : goal.returns
unfolding rule17
returns c =
    let few = c.used-n.ensures.upper_bound in
    let same =
    below-same (seen_of c.args.before.now c.args.ranges) c.args.track c.args.fs
    c.used-n.result few in
    rw (
      sym c.is_value.ensures ∙ c.if-not-is_value.false,
      leftmost-where,
      ← c.used-n.ensures.value,
      ← same,
    )
    (rw (
      c.first_fault-k.ensures,
      c.heading_record-from.ensures.value,
      c.part-table.ensures,
      c.part.ensures,
      c.part-2.ensures,
    ) at c.field_column.ensures)
