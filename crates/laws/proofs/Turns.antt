-- A loop that is a run of turns: what its invariant says, and what each turn keeps of it.
-- Assumes nothing.
use Prim.Native.Nat.{ℕ, ◌+◌, ◌-◌, ◌<◌, ◌≤◌}
use mathlib.Core.Path.{◌≡◌, ◌∙◌, refl, sym}
use native.Mathlib.Omega.{arith}
use Rattle.laws.specs.Turns.{Turn, go, out, run}
use Rattle.laws.proofs.Search.{less}

-- the loop whose result is to be `whole` has come to the state s at i, and goes up to e
pub record Run {S R : Type 0} (f : S → ℕ → Turn S R) (end : S → R) (whole : R) (s : S) (i e : ℕ) : Type 0 where
  pub low : i ≤ e
  pub rest : whole ≡ run f end s i (e - i)

pub run-all : {S R : Type 0} {f : S → ℕ → Turn S R} {end : S → R} {s : S} (n : ℕ) → Run f end (run f end s 0 n) s 0 n
run-all n = let z : n - 0 ≡ n = omega arith in record { low = omega arith; rest = rw z }

module _ {S R : Type 0} {f : S → ℕ → Turn S R} {end : S → R} {whole : R} {s : S} {i e : ℕ}
    (r : Run f end whole s i e) where
  -- after the last turn
  pub run-done : e ≤ i → end s ≡ whole
  unfolding run
  run-done h =
      let z : e - i ≡ 0 = omega arith in
      let u : run f end s i (e - i) ≡ end s = rw z refl in
      sym (r.rest ∙ u)

  -- a turn that gives the result
  pub run_out : {x : R} → i < e → f s i ≡ out x → x ≡ whole
  unfolding run
  run_out {x} h t = let u : run f end s i (e - i) ≡ x = rw (less i e h) (rw t refl) in sym (r.rest ∙ u)

  -- a turn that goes on
  pub run-next : {t : S} → i < e → f s i ≡ go t → Run f end whole t (i + 1) e
  unfolding run
  run-next {t} h g =
      let u : run f end s i (e - i) ≡ run f end t (i + 1) (e - (i + 1)) = rw (less i e h) (rw g refl) in
      record { low = omega arith; rest = r.rest ∙ u }
