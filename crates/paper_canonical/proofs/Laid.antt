-- The field of a layout: its digits, its number and its columns.
-- Assumes nothing.
use mathlib.Core.Path.{◌≡◌, refl, sym, ◌∙◌}
use mathlib.Core.Bool.{Bool, true, false}
use mathlib.Core.List.{◌++◌}
use Prim.Native.Nat.{ℕ, ◌+◌, ◌*◌, ◌^◌, ◌<◌, ◌≤◌}
use native.Mathlib.Omega.{arith}
use lib.ListN.{length}
use Rattle.paper_number.specs.Grammar.{Digits, num, sign_text}
use Rattle.paper_number.specs.Value.{digits_of}
use Rattle.std.specs.Prelude.{Option, Some, None}
use Rattle.paper_canonical.specs.declared.types.Exponent.{Exponent}
use Rattle.paper_canonical.specs.declared.types.Layout.{Layout}
use Rattle.paper_canonical.specs.Canonical.{columns, tail_columns}
use Rattle.paper_canonical.specs.Closed.{digits_n, shift, sign_of, tail_of, laid_out}
use Rattle.paper_canonical.specs.Storing.{one_if, exponent_columns, layout_columns}
use Rattle.paper_canonical.proofs.Digits.{digits_n-length, digits_n-digits, digits_n-num, digits_n-append}

module _ (a b v : ℕ) where
  split : digits_n a (shift b v) ++ digits_n b v ≡ digits_n (a + b) v
  split = sym (digits_n-append b a v)

  split-digits : Digits (digits_n a (shift b v) ++ digits_n b v)
  split-digits = rw split (digits_n-digits (a + b) v)

  split-num : v < 10 ^ (a + b) → num (digits_n a (shift b v) ++ digits_n b v) ≡ v
  split-num h = rw split (digits_n-num (a + b) v h)

  split-length : length (digits_n a (shift b v) ++ digits_n b v) ≡ a + b
  split-length = rw split (digits_n-length (a + b) v)

tail-columns : (x : Option Exponent) → tail_columns (tail_of x) ≡ exponent_columns x
tail-columns (Some e) = rw (digits_n-length e.long e.size) refl
tail-columns None = refl

pub sign-width : (n : Bool) → length (sign_text (sign_of n)) ≡ one_if n 1
sign-width true = refl
sign-width false = refl

pub one-if : (t : Bool) (n : ℕ) → one_if t n ≤ n
one-if true n = omega arith
one-if false n = omega arith

module _ (n : Bool) (c : ℕ) (p : Layout) where
  pub laid-whole : length (laid_out n c p).whole ≡ p.whole
  unfolding laid_out
  laid-whole = digits_n-length p.whole (shift p.part (c * 10 ^ p.zeros))

  pub laid-part : length (laid_out n c p).part ≡ p.part
  unfolding laid_out
  laid-part = digits_n-length p.part (c * 10 ^ p.zeros)

  pub laid-digits : Digits ((laid_out n c p).whole ++ (laid_out n c p).part)
  unfolding laid_out
  laid-digits = split-digits p.whole p.part (c * 10 ^ p.zeros)

  pub laid-length : length ((laid_out n c p).whole ++ (laid_out n c p).part) ≡ p.whole + p.part
  unfolding laid_out
  laid-length = split-length p.whole p.part (c * 10 ^ p.zeros)

  pub laid-num : c * 10 ^ p.zeros < 10 ^ (p.whole + p.part) → digits_of (laid_out n c p) ≡ c * 10 ^ p.zeros
  unfolding laid_out
  laid-num h = split-num p.whole p.part (c * 10 ^ p.zeros) h

  pub laid-columns : columns (laid_out n c p)
      ≡ length (sign_text (sign_of n)) + (p.whole + (1 + (p.part + exponent_columns p.exponent)))
  unfolding columns laid_out
  laid-columns =
      rw (
        digits_n-length p.whole (shift p.part (c * 10 ^ p.zeros)),
        digits_n-length p.part (c * 10 ^ p.zeros),
        tail-columns p.exponent,
      ) refl

  pub laid-wide : columns (laid_out n c p) ≡ layout_columns n p
  unfolding layout_columns
  laid-wide = laid-columns ∙ rw (sign-width n) refl
