use Prim.Native.Nat.{ℕ}
use mathlib.Core.Path.{◌∙◌, ap}
use Rattle.paper_faults.specs.Fault.{column_at}
use Rattle.paper_rules.specs.Record.{field_column}
use Rattle.paper_faults.proofs.Leftmost.{leftmost-where}
use Rattle.paper_rules.specs.Headings.{rule13}
use Rattle.rules_section.proofs.headings.rule13.Goals as goal

pub returns-then-not-is_heading : goal.returns-then-not-is_heading
returns-then-not-is_heading c = rw (← c.is_heading.ensures, c.if-not-is_heading.true)

pub repeated_at-k-requires : goal.repeated_at-k-requires
repeated_at-k-requires c =
    record {
      whole = c.requires.whole;
      n_bound = c.used-n.ensures.upper_bound;
    }

pub returns : goal.returns
unfolding rule13
returns c =
    let c1 = c in
    rw (
      ← c1.is_heading.ensures,
      c1.if-not-is_heading.false,
      leftmost-where,
      ← c.used-n.ensures.value,
      ← c.part.ensures,
      ← c.part-2.ensures,
      ← c.part-3.ensures,
    )
    (c.field_column.ensures
    ∙ ap (λ (k : ℕ). column_at field_column k c.used-n.result)
    c.repeated_at-k.ensures)
