-- Every entry of the table of names is a column of a name.
-- Assumes nothing.
use mathlib.Core.Path.{◌≡◌, ◌∙◌, refl, ap}
use mathlib.Core.Bool.{Bool, true, false, cond, not, ◌&&◌}
use mathlib.Core.List.{List, []}
use Prim.Native.Nat.{ℕ, ◌+◌, ◌*◌, ◌/◌, ◌%◌, ◌<◌, ◌≤◌}
use native.Mathlib.Nat.{add-zero}
use native.Mathlib.Omega.{arith}
use lib.Dec.{eqb, eqb→eq}
use lib.ListN.{get_or, get_or-eq_default}
use Rattle.laws.specs.Members.{join_of}
use Rattle.laws.specs.Search.{first}
use Rattle.laws.proofs.Table.{at}
use Rattle.paper_record.specs.Word.{equal_to}
use Rattle.paper_record.specs.Identifier.{OTHER, names, name_at, name_table, NamesLent, is_end}

-- the one test, computed for all entries
right : ℕ → ℕ → Bool
right p x = eqb x (get_or (name_at (p / 11)) (p % 11) 0)

pub name-at : (k i : ℕ) → k < OTHER → i < 11 → get_or name_table (11 * k + i) 0 ≡ get_or (name_at k) i 0
unfolding name_table join_of right
name-at k i h l =
    let q : (11 * k + i) / 11 ≡ k = omega arith in
    let m : (11 * k + i) % 11 ≡ i = omega arith in
    let e : get_or name_table (11 * k + i) 0 ≡ get_or (name_at ((11 * k + i) / 11)) ((11 * k + i) % 11) 0
    = eqb→eq _ _ (at right name_table tt (11 * k + i) (omega arith)) in
    rw (q, m) at e

pub name-read : {t : List ℕ} → NamesLent t → (k i : ℕ) → k < OTHER → i < 11
    → get_or t (11 * k + i) 0 ≡ get_or (name_at k) i 0
name-read lent k i h l = ap (λ (t : List ℕ). get_or t (11 * k + i) 0) lent.same ∙ name-at k i h l

pub name-begins : {t : List ℕ} → NamesLent t → (k : ℕ) → k < OTHER → get_or t (11 * k) 0 ≡ get_or (name_at k) 0 0
name-begins lent k h = rw (add-zero (11 * k)) at (name-read lent k 0 h (omega arith))

-- ---- the names that begin with END

three : (t u v : Bool) → eqb (cond (not t) 0 (cond (not u) 1 (cond (not v) 2 3))) 3 ≡ t && (u && v)
three true true true = refl
three true true false = refl
three true false v = refl
three false u v = refl

-- letter by letter
pub end-letters : (k : ℕ)
    → is_end k ≡ eqb (get_or (name_at k) 0 0) 69 && (eqb (get_or (name_at k) 1 0) 78 && eqb (get_or (name_at k) 2 0) 68)
unfolding is_end equal_to first
end-letters k = three (eqb (get_or (name_at k) 0 0) 69) (eqb (get_or (name_at k) 1 0) 78) (eqb (get_or (name_at k) 2 0) 68)

-- there is no name behind the last
pub no_end : (k : ℕ) → OTHER ≤ k → is_end k ≡ false
unfolding is_end equal_to first
no_end k h = let z : get_or names k [] ≡ [] = get_or-eq_default names [] h in rw z refl
