use Prim.Native.Nat.{◌-◌}
use Rattle.laws.proofs.Search.{scan-all, scan-done, scan-found, scan-next}
use Rattle.laws.specs.Search.{how_many}
use Rattle.paper_record.specs.Numbers.{is_number_at, value_fault, values_of}
use mathlib.Core.Path.{◌∙◌, ◌≡◌, refl, sym}
use native.Mathlib.Nat.{zero-add}
use native.Mathlib.Numerals.{add-one}
use native.Mathlib.Omega.{arith}
use Rattle.record_values.proofs.numbers.values_of.Goals as goal

pub loop-k-init : goal.loop-k-init
unfolding how_many
loop-k-init c = (scan-all 6, refl, omega arith)

pub returns-then-is_value_fault : goal.returns-then-is_value_fault
unfolding values_of value_fault
returns-then-is_value_fault c =
    rw (
      ← scan-found c.loop-k.invariant.0 (omega arith)
          (rw (← c.form_of_field-form.ensures.value) (sym c.is_value_fault.ensures ∙ c.if-is_value_fault.true)),
      ← c.loop-k.invariant.1,
    )

pub loop-k-preserved : goal.loop-k-preserved
unfolding value_fault how_many is_number_at
loop-k-preserved c = (
  scan-next c.loop-k.invariant.0 (omega arith)
      (rw (← c.form_of_field-form.ensures.value)
      (sym c.is_value_fault.ensures ∙ c.if-is_value_fault.false)),
  rw (
    add-one,
    c.number_at-count.ensures.value,
    c.form_of_field-form.ensures.value,
    zero-add,
    c.loop-k.invariant.1,
  ),
  omega (arith, c.loop-k.invariant.2, c.number_at-count.ensures.upper_bound),
)

pub returns : goal.returns
unfolding values_of
returns c =
    let e : c.loop-k.k ≡ 6 = omega (arith, c.loop-k.invariant.0.low) in
    rw (← scan-done c.loop-k.invariant.0 (omega arith), c.loop-k.invariant.1, e)
