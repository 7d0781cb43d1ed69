-- Digits behind an opening parenthesis: what the search for their end says of each, and the number they make, digit by
-- digit, held against another that is small.
-- Assumes nothing.
use Prim.Native.Nat.{ℕ, ◌+◌, ◌-◌, ◌*◌, ◌<◌, ◌≤◌}
use mathlib.Core.Path.{◌≡◌, refl, sym, ◌∙◌}
use mathlib.Core.Bool.{Bool, true, false, not, ◌&&◌}
use mathlib.Core.List.{List, [], ◌∷◌}
use native.Mathlib.Omega.{arith}
use borrow.Author.Tests.{eq-eqb, ne_eqb, not-false}
use lib.Dec.{eqb}
use lib.ListN.{length, get_or, get_or-eq_default}
use Rattle.laws.specs.Members.{list_of}
use Rattle.laws.proofs.Search.{less, first_to}
use Rattle.laws.proofs.Counting.{first-before}
use Rattle.laws.proofs.Booleans.{and_none}
use Rattle.paper_number.specs.Grammar.{num, num_from}
use Rattle.paper_record.specs.Text.{is_digit}
use Rattle.paper_record.proofs.Within.{within-bounds}
use Rattle.paper_record.specs.Flags.{digit_behind, code_digits, code_digit, is_code}
use Rattle.paper_record.specs.PlainFlags.{TextColumns}

-- ---- the digits

module _ (x : List ℕ) where
  pub digits-few : code_digits x ≤ 54
  unfolding code_digits
  digits-few = first_to (λ j. not (digit_behind x j)) 0 54

  before : (j : ℕ) → j < code_digits x → j < 54 → not (digit_behind x j) ≡ false
  unfolding code_digits
  before j h l = first-before (λ j. not (digit_behind x j)) 0 54 j (omega arith) h (omega arith)

  pub digit-there : (j : ℕ) → j < code_digits x → is_digit (get_or x (j + 1) 0) ≡ true
  digit-there j h = let few = digits-few in not-false (digit_behind x j) (before j h (omega arith))

  pub digit_at : (j : ℕ) → j < code_digits x → (48 ≤ get_or x (j + 1) 0) × (get_or x (j + 1) 0 ≤ 57)
  digit_at j h = within-bounds 48 57 (get_or x (j + 1) 0) (digit-there j h)

-- digits up to column 65 leave no room for the point and the parenthesis
pub long-no-code : (x : List ℕ) → TextColumns x → 52 < code_digits x → is_code x ≡ false
unfolding is_code
long-no-code x t h =
    let long = t.long in
    let e : get_or x (code_digits x + 2) 0 ≡ 0 = get_or-eq_default x 0 (omega arith) in
    let z : eqb (get_or x (code_digits x + 2) 0) 41 ≡ false = ne_eqb (get_or x (code_digits x + 2) 0) 41 (λ q. omega arith) in
    let point = eqb (get_or x (code_digits x + 1) 0) 46 in
    and_none (eqb (get_or x 0 0) 40) _
    (and_none (not (eqb (code_digits x) 0)) _ (and_none point (eqb (get_or x (code_digits x + 2) 0) 41) z))

-- ---- their number

least : (a : ℕ) (ds : List ℕ) → a ≤ num_from a ds
least a [] = omega arith
least a (d ∷ ds) = let l = least (a * 10 + d) ds in omega arith

-- the first j of m digits make `number`, which has not passed n
pub record Saying (x : List ℕ) (m n number j : ℕ) : Type 0 where
  pub low : j ≤ m
  pub small : number ≤ n
  pub rest : num_from number (list_of (code_digit x) j (m - j)) ≡ num (list_of (code_digit x) 0 m)

pub saying-start : (x : List ℕ) (m n : ℕ) → Saying x m n 0 0
saying-start x m n = let z : m - 0 ≡ m = omega arith in record { low = omega arith; small = omega arith; rest = rw z }

module _ {x : List ℕ} {m n number j : ℕ} (s : Saying x m n number j) where
  step : j < m → num_from (number * 10 + code_digit x j) (list_of (code_digit x) (j + 1) (m - (j + 1)))
      ≡ num (list_of (code_digit x) 0 m)
  unfolding list_of
  step h = rw (less j m h) at s.rest

  pub saying-past : j < m → n < number * 10 + code_digit x j → false ≡ eqb n (num (list_of (code_digit x) 0 m))
  saying-past h p =
      let next = number * 10 + code_digit x j in
      let a : next ≤ num (list_of (code_digit x) 0 m) =
      rw (step h) at (least next (list_of (code_digit x) (j + 1) (m - (j + 1)))) in
      sym (ne_eqb n (num (list_of (code_digit x) 0 m)) (λ q. omega arith))

  pub saying-next : j < m → number * 10 + code_digit x j ≤ n → Saying x m n (number * 10 + code_digit x j) (j + 1)
  saying-next h p = record { low = omega arith; small = p; rest = step h }

  pub saying-done : m ≤ j → number ≡ num (list_of (code_digit x) 0 m)
  unfolding list_of
  saying-done h = let z : m - j ≡ 0 = omega arith in rw z at s.rest
