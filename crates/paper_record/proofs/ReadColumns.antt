-- Columns that are read one after the other are a part of the record.
-- Assumes nothing.
use mathlib.Core.Path.{◌≡◌, ◌∙◌, refl, ap}
use mathlib.Core.List.{List, [], ◌∷◌, ◌++◌}
use Prim.Native.Nat.{ℕ, zero, suc, ◌+◌, ◌≤◌, ◌<◌}
use native.Mathlib.Nat.{add-suc, add-zero}
use native.Mathlib.Omega.{arith}
use lib.ListN.{length, get_or, take, drop, get_or-eq_default}
use lib.Seq.{drop-cons, take_all}
use Rattle.paper_record.specs.Columns.{columns_at}
use Rattle.paper_record.specs.Fields.{field_at, fields_of}

-- w columns, read from the column i behind n
abbrev pub reads : List ℕ → ℕ → ℕ → ℕ → List ℕ
reads r n i zero = []
reads r n i (suc w) = get_or r (n + i) 0 ∷ reads r n (suc i) w

from : (r : List ℕ) (n i w : ℕ) → n + i + w ≤ length r → reads r n i w ≡ take w (drop (n + i) r)
from r n i zero h = refl
from r n i (suc w) h =
    let e : n + suc i ≡ suc (n + i) = add-suc n i in
    let rest : reads r n (suc i) w ≡ take w (drop (suc (n + i)) r) = rw (← e) (from r n (suc i) w (omega arith)) in
    rw (drop-cons r (n + i) 0 (omega arith)) (ap (λ (l : List ℕ). get_or r (n + i) 0 ∷ l) rest)

pub columns-read : (r : List ℕ) (n w : ℕ) → n + w ≤ length r → reads r n 0 w ≡ columns_at n w r
columns-read r n w h = let z : n + 0 ≡ n = add-zero n in rw z at (from r n 0 w (omega arith))

-- the field at k
pub field-of : (r : List ℕ) (k : ℕ) → k < 6 → get_or (fields_of r) k [] ≡ field_at r k
unfolding fields_of
field-of r zero h = refl
field-of r (suc zero) h = refl
field-of r (suc (suc zero)) h = refl
field-of r (suc (suc (suc zero))) h = refl
field-of r (suc (suc (suc (suc zero)))) h = refl
field-of r (suc (suc (suc (suc (suc zero))))) h = refl
field-of r (suc (suc (suc (suc (suc (suc k)))))) h = let none : ⊥ = omega arith in absurd none

-- there are no more than six
pub past-fields : (r : List ℕ) (k : ℕ) → 6 ≤ k → get_or (fields_of r) k [] ≡ []
unfolding fields_of
past-fields r k h = get_or-eq_default (fields_of r) [] h

-- two lists that are read whole, one behind the other
whole : (r : List ℕ) (w : ℕ) → length r ≡ w → reads r 0 0 w ≡ r
whole r w e = columns-read r 0 w (omega arith) ∙ take_all w r (omega arith)

pub both_read : (a b : List ℕ) (m n : ℕ) → length a ≡ m → length b ≡ n → reads a 0 0 m ++ reads b 0 0 n ≡ a ++ b
both_read a b m n d e = rw (whole a m d, whole b n e)
