-- What is found of the fields of a value record goes by what they read to.
-- Assumes nothing.
use mathlib.Core.Path.{◌≡◌, refl}
use mathlib.Core.Bool.{Bool, true, false, cond, not}
use mathlib.Core.List.{List, []}
use Prim.Native.Nat.{ℕ, ◌<◌, ◌≤◌}
use native.Mathlib.Omega.{arith}
use lib.Dec.{ltb}
use lib.ListN.{get_or}
use Rattle.laws.specs.Search.{how_many}
use Rattle.laws.proofs.Search.{first-same, first_to, many-same}
use Rattle.paper_number.specs.declared.types.Form.{Form}
use Rattle.paper_number.specs.declared.types.Form.TheVariants.{Blank, Number, Malformed}
use Rattle.paper_number.specs.Reading.{read_field}
use Rattle.paper_record.specs.Fields.{in_field, first_field}
use Rattle.paper_record.specs.Numbers.{form_at, says_blank, no_value, value_fault, is_number_at, values_of}

-- a field that is not at fault is blank or a number
by_form : (m t : Bool) (x : Form) → cond t (no_value m x) (not (says_blank x)) ≡ false → no_value true x ≡ false
by_form m t Blank e = refl
by_form m t Number e = refl
by_form m true Malformed e = e
by_form m false Malformed e = e

pub fault-reads : (m : Bool) (used k : ℕ) (f : List ℕ) → value_fault m used k f ≡ false → no_value true (form_at f) ≡ false
unfolding value_fault
fault-reads m used k f e = by_form m (ltb k used) (form_at f) e

-- six fields that read like six others
module _ (a b : List (List ℕ)) (same : (k : ℕ) → k < 6 → read_field (get_or a k []) ≡ read_field (get_or b k [])) where
  pub fault-same : (m : Bool) (used k : ℕ) → k < 6 → in_field (value_fault m used) a k ≡ in_field (value_fault m used) b k
  unfolding value_fault
  fault-same m used k h = rw (same k h)

  number_same : (used k : ℕ) → k < 6 → in_field (is_number_at used) a k ≡ in_field (is_number_at used) b k
  unfolding is_number_at
  number_same used k h = rw (same k h)

  pub first-fault-same : (m : Bool) (used : ℕ) → first_field (value_fault m used) a ≡ first_field (value_fault m used) b
  first-fault-same m used =
      first-same (in_field (value_fault m used) a) (in_field (value_fault m used) b) 0 6
      (λ k l h. fault-same m used k (omega arith))

  pub values_same : (m : Bool) (used : ℕ) → values_of m used a ≡ values_of m used b
  unfolding values_of
  values_same m used =
      let k : ℕ = first_field (value_fault m used) b in
      let l : first_field (value_fault m used) b ≤ 6 = first_to (in_field (value_fault m used) b) 0 6 in
      let e : how_many (in_field (is_number_at used) a) 0 k ≡ how_many (in_field (is_number_at used) b) 0 k =
      many-same (in_field (is_number_at used) a) (in_field (is_number_at used) b) 0 k
      (λ j p h. number_same used j (omega arith)) in
      rw (first-fault-same m used, e)
