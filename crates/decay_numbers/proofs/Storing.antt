-- What is stored part by part, one behind the other: how far it has come, and what is left.
-- Assumes nothing.
use Prim.Native.Nat.{ℕ, ◌+◌}
use mathlib.Core.Path.{◌≡◌, refl, sym, ap, ◌∙◌}
use mathlib.Core.List.{List, ◌++◌}
use native.Mathlib.Omega.{arith}
use lib.ListN.{length, length-append}
use Rattle.paper_decay_run.specs.Overlay.{overlay}
use Rattle.paper_decay_run.proofs.Overlay.{overlay-more, length-overlay}

-- `whole` is to be stored in x from `at` on; the buffer is y, and `rest` is left from `to` on
pub record Storing (x : List ℕ) (at : ℕ) (whole y : List ℕ) (to : ℕ) (rest : List ℕ) : Type 0 where
  pub bytes : overlay y to rest ≡ overlay x at whole
  pub end : to + length rest ≡ at + length whole
  pub long : length y ≡ length x

pub storing-begun : (x : List ℕ) (at : ℕ) (whole : List ℕ) → Storing x at whole x at whole
storing-begun x at whole = record { bytes = refl; end = refl; long = refl }

module _ {x : List ℕ} {at : ℕ} {whole y : List ℕ} {to : ℕ} {rest : List ℕ} (s : Storing x at whole y to rest) where
  -- a part of it
  pub storing-more : (a more z : List ℕ) (past : ℕ) → rest ≡ a ++ more → z ≡ overlay y to a → past ≡ to + length a
      → Storing x at whole z past more
  storing-more a more z past r e p =
      let n = length-append a more in
      let m : length rest ≡ length (a ++ more) = ap length r in
      record {
        bytes = (λ i. overlay (e i) (p i) more) ∙ overlay-more y to a more ∙ ap (overlay y to) (sym r) ∙ s.bytes;
        end = omega (arith, s.end);
        long = ap length e ∙ length-overlay y to a ∙ s.long;
      }

  -- all that is left
  pub storing-done : (a z : List ℕ) (past : ℕ) → rest ≡ a → z ≡ overlay y to a → past ≡ to + length a
      → (z ≡ overlay x at whole) × (past ≡ at + length whole)
  storing-done a z past r e p =
      let m : length rest ≡ length a = ap length r in
      (e ∙ ap (overlay y to) (sym r) ∙ s.bytes, omega (arith, s.end))
