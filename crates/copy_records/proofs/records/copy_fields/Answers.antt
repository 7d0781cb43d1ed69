use Rattle.paper_copy.proofs.WholeRecords.{field-pasted}
use Prim.Native.Nat.{ℕ}
use lib.Seq.{paste-zero}
use Prim.Native.Nat.{◌*◌, ◌+◌, ◌-◌}
use Rattle.paper_copy.specs.CopyField.{copy_field, number_in}
use Rattle.paper_copy.specs.Replaced.{mask, replaced}
use lib.Seq.{paste}
use mathlib.Core.List.{List}
use mathlib.Core.Path.{◌∙◌, ◌≡◌, refl}
use native.Mathlib.Omega.{arith}
use borrow.Author.Rules.{rules}
use Rattle.copy_records.proofs.records.copy_fields.Goals as goal

pub loop-k-init : goal.loop-k-init
loop-k-init c =
    let c3 = c in
    let a = c3.args in (
      c3.requires.whole_records,
      search rules,
      c3.requires.at_in_bounds.1.long,
      refl,
      paste-zero a.out.now a.at
          (replaced copy_field (mask (number_in a.table.now a.t a.role) 0 6) a.rec.now),
    )

pub is_number_field-number-requires : goal.is_number_field-number-requires
is_number_field-number-requires c = (c.loop-k.invariant.0, omega arith)

pub put_field-requires : goal.put_field-requires
put_field-requires c =
    let c4 = c in
    let c8 = c4 in
    let l = c4.loop-k.invariant.3 in let w = c8.requires.at_in_bounds.0 in omega arith

pub loop-k-preserved : goal.loop-k-preserved
loop-k-preserved c =
    let c4 = c in
    let c5 = c4 in
    let c7 = c5 in
    let c11 = c7 in
    let a = c11.args in
    let number = c4.is_number_field-number.result in
    let f = c5.field-f.result in
    let at = a.at + c7.loop-k.k * 11 in
    let put : ◌≡◌ {A = List ℕ} _ (paste _ at (copy_field number f) 11) = c.put_field.ensures in
    let l = c.put_field.auto.out in (
      c7.loop-k.invariant.0,
      omega arith,
      c7.loop-k.invariant.2,
      omega (arith, c7.loop-k.invariant.3),
      put
          ∙ (rw (c7.loop-k.invariant.4, c4.is_number_field-number.ensures, c5.field-f.ensures)
          (field-pasted (number_in a.table.now a.t a.role) a.rec.now c7.loop-k.invariant.2 a.out.now a.at
          c7.loop-k.k c11.requires.at_in_bounds.0 (omega arith))),
    )

pub returns : goal.returns
returns c = let e : ◌≡◌ c.loop-k.k 6 = omega arith in rw e at c.loop-k.invariant.4
