-- The first field at fault, found one by one. Assumes nothing.
use Prim.Native.Nat.{ℕ, ◌+◌, ◌<◌, ◌≤◌}
use mathlib.Core.Path.{◌≡◌, sym}
use mathlib.Core.Bool.{Bool, true, false}
use mathlib.Core.List.{List, []}
use native.Mathlib.Omega.{arith}
use lib.ListN.{get_or}
use Rattle.laws.proofs.Counting.{first-is}
use Rattle.laws.proofs.Search.{either, pass-first}
use Rattle.paper_record.specs.Fields.{first_field, in_field}

pub first-field : (test : ℕ → List ℕ → Bool) (fields : List (List ℕ)) (k : ℕ) → k ≤ 6
    → ((j : ℕ) → j < k → false ≡ test j (get_or fields j [])) → (k < 6 → true ≡ test k (get_or fields k []))
    → k ≡ first_field test fields
first-field test fields k most before here =
    either k 6
    (λ l. sym (first-is (in_field test fields) 0 6 k (omega arith) (omega arith) (sym (here l)) (λ j a b. sym (before j b))))
    (λ l. let e = pass-first (in_field test fields) 0 6 (λ j a b. sym (before j (omega arith))) in omega arith)
