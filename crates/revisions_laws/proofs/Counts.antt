-- A count in eleven columns is read as it was meant, and has no leading zero.
-- Assumes nothing.
use Prim.Native.Nat.{ℕ, zero, suc, ◌+◌, ◌-◌, ◌*◌, ◌/◌, ◌%◌, ◌<◌, ◌≤◌}
use mathlib.Core.Path.{◌≡◌, refl, sym, ap, ◌∙◌}
use mathlib.Core.Bool.{Bool, true}
use mathlib.Core.List.{List, [], ◌∷◌}
use native.Mathlib.Omega.{arith}
use borrow.Author.Tests.{ne_eqb, le-leb, lt-leb}
use lib.ListN.{get_or}
use Rattle.laws.specs.Search.{first, how_many}
use Rattle.laws.proofs.Search.{either}
use Rattle.paper_record.specs.Plain.{CountSays}
use Rattle.paper_record.specs.System.{start_of}
use Rattle.paper_record.proofs.PlainDigits.{count-exactly}
use Rattle.paper_revisions.specs.Merging.{count_columns}
use Rattle.revisions_laws.specs.Counts.{ReadBack, CountRead}

-- a test that holds at one place holds at some
pub many-some : (f : ℕ → Bool) (i n k : ℕ) → i ≤ k → k < i + n → f k ≡ true → how_many f i n ≡ 0 → ⊥
unfolding how_many
many-some f i zero k l h t e = omega arith
many-some f i (suc n) k l h t e =
    either k (i + n) (λ m. many-some f i n k l m t (omega arith))
    (λ m.
    let z : i + n ≡ k = omega arith in
    let y = rw (ap f z ∙ t) at e in
    omega arith)

filled : (d : ℕ) → (48 + d ≡ 32) → ⊥
filled d e = omega arith

module _ (n : ℕ) where
  abbrev f : List ℕ
  f = count_columns n

  -- ---- one digit

  module _ (h : n < 10) where
    one-digit : CountSays 11 f n
    unfolding count_columns
    one-digit =
        let a : n % 10 < 10 = omega arith in
        record {
          lead = 10;
          digits = n % 10 ∷ [];
          each = (a, _);
          some = omega arith;
          wide = omega arith;
          same = rw (lt-leb 100 n (omega arith), lt-leb 10 n h) refl;
          number = omega arith;
        }

    one-starts : start_of 11 f ≡ 10
    unfolding count_columns first
    one-starts = rw (lt-leb 100 n (omega arith), lt-leb 10 n h, ne_eqb (48 + n % 10) 32 (filled (n % 10))) refl

    one-first : get_or f 10 0 ≡ 48 + n % 10
    unfolding count_columns
    one-first = refl

    one : ReadBack n
    one =
        record {
          reads = (count-exactly 11 f n).1 one-digit;
          leading = λ some e.
              let z = sym one-first ∙ sym (ap (λ (k : ℕ). get_or f k 0) one-starts) ∙ e in
              some (omega arith);
        }

  -- ---- two

  module _ (l : 10 ≤ n) (h : n < 100) where
    two_digits : CountSays 11 f n
    unfolding count_columns
    two_digits =
        let a : n / 10 % 10 < 10 = omega arith in
        let b : n % 10 < 10 = omega arith in
        record {
          lead = 9;
          digits = n / 10 % 10 ∷ n % 10 ∷ [];
          each = (a, (b, _));
          some = omega arith;
          wide = omega arith;
          same = rw (lt-leb 100 n h, le-leb 10 n l) refl;
          number = omega arith;
        }

    two-starts : start_of 11 f ≡ 9
    unfolding count_columns first
    two-starts = rw (lt-leb 100 n h, le-leb 10 n l, ne_eqb (48 + n / 10 % 10) 32 (filled (n / 10 % 10))) refl

    two-first : get_or f 9 0 ≡ 48 + n / 10 % 10
    unfolding count_columns
    two-first = rw (le-leb 10 n l) refl

    two : ReadBack n
    two =
        record {
          reads = (count-exactly 11 f n).1 two_digits;
          leading = λ some e.
              let z = sym two-first ∙ sym (ap (λ (k : ℕ). get_or f k 0) two-starts) ∙ e in
              absurd (omega arith);
        }

  -- ---- three

  module _ (l : 100 ≤ n) (h : n < 1000) where
    three-digits : CountSays 11 f n
    unfolding count_columns
    three-digits =
        let a : n / 100 % 10 < 10 = omega arith in
        let b : n / 10 % 10 < 10 = omega arith in
        let c : n % 10 < 10 = omega arith in
        let d : n / 100 % 10 ≡ n / 100 = omega arith in
        let e : n / 10 % 10 ≡ n / 10 - n / 100 * 10 = omega arith in
        record {
          lead = 8;
          digits = n / 100 % 10 ∷ n / 10 % 10 ∷ n % 10 ∷ [];
          each = (a, (b, (c, _)));
          some = omega arith;
          wide = omega arith;
          same = rw (le-leb 100 n l, le-leb 10 n (omega arith)) refl;
          number = omega arith;
        }

    three-starts : start_of 11 f ≡ 8
    unfolding count_columns first
    three-starts =
        rw (le-leb 100 n l, le-leb 10 n (omega arith), ne_eqb (48 + n / 100 % 10) 32 (filled (n / 100 % 10))) refl

    three-first : get_or f 8 0 ≡ 48 + n / 100 % 10
    unfolding count_columns
    three-first = rw (le-leb 100 n l) refl

    three : ReadBack n
    three =
        record {
          reads = (count-exactly 11 f n).1 three-digits;
          leading = λ some e.
              let z = sym three-first ∙ sym (ap (λ (k : ℕ). get_or f k 0) three-starts) ∙ e in
              absurd (omega arith);
        }

pub count-read : CountRead
count-read n h = either n 10 (one n) (λ l. either n 100 (two n l) (λ m. three n m h))
