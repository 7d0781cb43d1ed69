-- Every used field of a value record is blank: what is searched is what is said plainly.
-- Assumes nothing.
use Prim.Native.Nat.{ℕ, ◌≤◌}
use mathlib.Core.Path.{◌≡◌, refl}
use mathlib.Core.Bool.{true, false, not}
use mathlib.Core.List.{List, []}
use native.Mathlib.Omega.{arith}
use lib.ListN.{get_or}
use borrow.Author.Tests.{leb-true, le-leb, le-ltb}
use Rattle.laws.proofs.Booleans.{differ}
use Rattle.laws.proofs.Counting.{first-before, first_past}
use Rattle.paper_number.specs.declared.types.Form.{Form}
use Rattle.paper_number.specs.declared.types.Form.TheVariants as Form
use Rattle.paper_record.specs.Fields.{in_field}
use Rattle.paper_record.specs.Numbers.{form_at, says_blank, value_fault}
use Rattle.paper_record.proofs.PlainValues.{unused-exactly}
use Rattle.paper_rules.specs.Values.{first_filled, BlankFieldsExactly}

pub blank-form : (x : Form) → not (says_blank x) ≡ false → x ≡ Form.Blank
blank-form Form.Blank e = refl
blank-form Form.Number e = differ e
blank-form Form.Malformed e = differ e

-- where no field is used, one is at fault exactly when it is filled
no_fault : (k : ℕ) (f : List ℕ) → value_fault true 0 k f ≡ not (says_blank (form_at f))
unfolding value_fault
no_fault k f = rw (le-ltb k 0 (omega arith))

pub blank-fields : BlankFieldsExactly
blank-fields used fs six = (
  λ e k l.
      let u : used ≤ first_filled fs = leb-true used (first_filled fs) e in
      let h = first-before (in_field (value_fault true 0) fs) 0 6 k (omega arith) (omega arith) (omega arith) in
      (unused-exactly (get_or fs k [])).0 (blank-form (form_at (get_or fs k [])) (rw (no_fault k (get_or fs k [])) at h)),
  λ h.
      le-leb used (first_filled fs)
      (first_past (in_field (value_fault true 0) fs) 0 6 used (omega arith) (omega arith)
      (λ k a l. rw (no_fault k (get_or fs k []), (unused-exactly (get_or fs k [])).1 (h k l)))),
)
