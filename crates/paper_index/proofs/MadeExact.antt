-- What making answers and leaves is one of three, and nothing else is so.
-- Assumes nothing.
use Prim.Native.Nat.{ℕ, ◌*◌, ◌<◌, ◌≤◌}
use mathlib.Core.Path.{◌≡◌, refl, subst}
use mathlib.Core.Bool.{Bool, true, false}
use mathlib.Core.List.{List}
use borrow.Author.Tests.{eq-eqb, ne_eqb, eqb-true, eqb-false, ltb-true, ltb-false, lt-ltb, le-ltb}
use lib.Dec.{eqb, ltb}
use lib.ListN.{length}
use Rattle.paper_entry.specs.Judging.{judge_of}
use Rattle.paper_index.specs.declared.types.Made.{Made}
use Rattle.paper_index.specs.Making.{rows_in, made, stored_index}
use Rattle.paper_index.specs.Claims.{MadeSaid, MadeExactly}
use Rattle.paper_index.specs.Claims.MadeSaid.{refused, too_short, stored}

module _ (s t : List ℕ) where
  abbrev accepted : Bool
  accepted = eqb (judge_of s).refusal 0

  abbrev short : Bool
  short = ltb (length t) (5 * rows_in s)

  said : MadeSaid s t (made s (length t)) (stored_index s t)
  unfolding made stored_index
  said = by_tests accepted refl short refl
    where
      by_tests : (a : Bool) → accepted ≡ a → (b : Bool) → short ≡ b → MadeSaid s t (made s (length t)) (stored_index s t)
      by_tests false p b q = rw p (refused (eqb-false (judge_of s).refusal 0 p))
      by_tests true p true q =
          rw (p, q) (too_short (eqb-true (judge_of s).refusal 0 p) (ltb-true (length t) (5 * rows_in s) q))
      by_tests true p false q =
          rw (p, q) (stored (eqb-true (judge_of s).refusal 0 p) (ltb-false (length t) (5 * rows_in s) q))

  back : {m : Made} {after : List ℕ} → MadeSaid s t m after → (made s (length t) ≡ m) × (stored_index s t ≡ after)
  unfolding made stored_index
  back (refused h) = let e = ne_eqb (judge_of s).refusal 0 h in (rw e refl, rw e refl)
  back (too_short a h) =
      let e = eq-eqb (judge_of s).refusal 0 a in
      let f = lt-ltb (length t) (5 * rows_in s) h in
      (rw (e, f) refl, rw (e, f) refl)
  back (stored a h) =
      let e = eq-eqb (judge_of s).refusal 0 a in
      let f = le-ltb (length t) (5 * rows_in s) h in
      (rw (e, f) refl, rw (e, f) refl)

pub made-exactly : MadeExactly
made-exactly s t m after = (
  λ e.
      subst (λ (x : List ℕ). MadeSaid s t m x) e.1
      (subst (λ (x : Made). MadeSaid s t x (stored_index s t)) e.0 (said s t)),
  back s t,
)
