-- What the layers above use of the values of a record, without opening their definition.
-- Assumes nothing.
use mathlib.Core.Path.{◌≡◌, refl, ap}
use mathlib.Core.Bool.{Bool}
use mathlib.Core.List.{List}
use Prim.Native.Nat.{ℕ, ◌≤◌}
use native.Mathlib.Omega.{arith}
use Rattle.laws.specs.Search.{how_many}
use Rattle.laws.proofs.Search.{first_to, many-to}
use Rattle.paper_record.specs.Fields.{in_field, first_field}
use Rattle.paper_record.specs.Numbers.{value_fault, is_number_at, numbers_in, values_of}

module _ (optional : Bool) (used : ℕ) (fields : List (List ℕ)) where
  pub values-fault : (values_of optional used fields).fault ≡ first_field (value_fault optional used) fields
  unfolding values_of
  values-fault = refl

  -- where no field is at fault, the numbers are all numbers of the record
  pub values-numbers : (values_of optional used fields).fault ≡ 6
      → (values_of optional used fields).numbers ≡ numbers_in used fields
  unfolding values_of
  values-numbers none = ap (λ (k : ℕ). how_many (in_field (is_number_at used) fields) 0 k) none

  pub values-few : (values_of optional used fields).numbers ≤ 6
  unfolding values_of
  values-few =
      let k : ℕ = first_field (value_fault optional used) fields in
      let six : k ≤ 6 = first_to (in_field (value_fault optional used) fields) 0 6 in
      let few : how_many (in_field (is_number_at used) fields) 0 k ≤ k = many-to (in_field (is_number_at used) fields) 0 k in
      omega (arith, six, few)
