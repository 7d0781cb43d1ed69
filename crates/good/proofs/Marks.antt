-- Laws of the marks of a record: the count that a field says, and records that follow one another. Assumes nothing.
use Prim.Native.Nat.{ℕ, suc, ◌+◌}
use mathlib.Core.Path.{◌≡◌, refl, sym, ap, subst}
use mathlib.Core.Bool.{true}
use mathlib.Core.List.{List, [], ◌∷◌, ◌++◌}
use native.Mathlib.Omega.{arith}
use lib.ListN.{length}
use Rattle.laws.proofs.Booleans.{differ}
use Rattle.laws.specs.Walk.{All}
use Rattle.paper_record.specs.Fields.{fields_of, n1, n2}
use Rattle.paper_record.specs.System.{count_of, is_count, number_of}
use Rattle.std.proofs.Common.{Option, Some, None}
use Rattle.paper_record.proofs.PlainDigits.{count-exactly}
use Rattle.paper_rules.specs.Counts.{count_n1, count_n2}
use Rattle.rules_plain.specs.Places.{Long}
use Rattle.good.specs.Parts.{Record}
use Rattle.good.specs.Marks.{Following, CountIs}

-- ---- counts

pub counted-says : (f : List ℕ) → is_count (count_of f) ≡ true → CountIs f (number_of (count_of f))
counted-says f e = (count-exactly 11 f (number_of (count_of f))).0 (by_count (count_of f) refl e)
  where
    by_count : (x : Option ℕ) → count_of f ≡ x → is_count x ≡ true → x ≡ Some (number_of x)
    by_count (Some n) q h = refl
    by_count None q h = differ (sym h)

pub says-as : (f : List ℕ) (m n : ℕ) → CountIs f m → m ≡ n → CountIs f n
says-as f m n s e = subst (λ (k : ℕ). CountIs f k) e s

pub says-number : (f : List ℕ) (n : ℕ) → CountIs f n → number_of (count_of f) ≡ n
says-number f n s = ap number_of ((count-exactly 11 f n).1 s)

pub says-count : (f : List ℕ) (n : ℕ) → CountIs f n → is_count (count_of f) ≡ true
says-count f n s = ap is_count ((count-exactly 11 f n).1 s)

pub counted1 : (r : Record) (n : ℕ) → CountIs (n1 (fields_of r)) n → count_n1 (fields_of r) ≡ n
counted1 r n s = says-number (n1 (fields_of r)) n s

pub counted2 : (r : Record) (n : ℕ) → CountIs (n2 (fields_of r)) n → count_n2 (fields_of r) ≡ n
counted2 r n s = says-number (n2 (fields_of r)) n s

-- ---- records that follow one another

pub following-append : (identification : List ℕ) (n : ℕ) (xs ys : List Record) → Following identification n xs
    → Following identification (n + length xs) ys → Following identification n (xs ++ ys)
unfolding Following
following-append identification n [] ys a b = let e : n + 0 ≡ n = omega arith in rw e at b
following-append identification n (x ∷ xs) ys a b =
    let e : n + suc (length xs) ≡ n + 1 + length xs = omega arith in
    (a.0, following-append identification (n + 1) xs ys a.1 (rw e at b))

pub following-left : (identification : List ℕ) (n : ℕ) (xs ys : List Record) → Following identification n (xs ++ ys)
    → Following identification n xs
unfolding Following
following-left identification n [] ys a = tt
following-left identification n (x ∷ xs) ys a = (a.0, following-left identification (n + 1) xs ys a.1)

pub following-right : (identification : List ℕ) (n : ℕ) (xs ys : List Record) → Following identification n (xs ++ ys)
    → Following identification (n + length xs) ys
unfolding Following
following-right identification n [] ys a = let e : n + 0 ≡ n = omega arith in rw e a
following-right identification n (x ∷ xs) ys a =
    let e : n + 1 + length xs ≡ n + suc (length xs) = omega arith in
    rw e at (following-right identification (n + 1) xs ys a.1)

pub following-as : (a b : List ℕ) (m n : ℕ) (rs : List Record) → a ≡ b → m ≡ n → Following a m rs → Following b n rs
following-as a b m n rs p q h = rw (p, q) at h

pub following-long : (i : List ℕ) (s : ℕ) (rs : List Record) → Following i s rs → All Long rs
unfolding Following
following-long i s [] f = tt
following-long i s (r ∷ rs) f = (f.0.whole, following-long i (s + 1) rs f.1)
