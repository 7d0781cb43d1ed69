-- What the writer's promise comes to: the one canonical field, or that none exists.
-- Assumes nothing.
use mathlib.Core.Path.{◌≡◌, refl, sym, subst}
use mathlib.Core.Bool.{Bool, true, false, cond}
use mathlib.Core.List.{List}
use mathlib.Core.Logic.{◌↔◌}
use Rattle.std.specs.Prelude.{Ok, Err}
use Prim.Native.Nat.{ℕ, suc, ◌<◌}
use native.Mathlib.Omega.{arith}
use borrow.Author.Tests.{eq-eqb, lt-leb, eqb-true, leb-true, leb-false}
use lib.Dec.{eqb, leb}
use lib.ListN.{length}
use Rattle.paper_number.specs.declared.types.Decimal.{Decimal}
use Rattle.paper_number.specs.Value.{Normal}
use Rattle.paper_canonical.specs.declared.types.WriteError.TheVariants as E
use Rattle.paper_canonical.specs.Canonical.{NoField, Best}
use Rattle.paper_canonical.specs.Closed.{canonical_text, canonical_field}
use Rattle.paper_canonical.specs.Writing.{answered, stored_field, written, bytes, refusal_number}
use Rattle.paper_canonical.proofs.Theorems.{canonical-none, canonical-best}

not_done : {A : Type 0} (n : ℕ) → suc n ≡ 0 → A
not_done n e = absurd (omega arith)

module _ (l : List ℕ) (v : Decimal) (h : Normal v) where
  abbrev T : ℕ
  T = length (canonical_text v)

  done-by : (t u : Bool) → eqb (length l) 11 ≡ t → leb T (length l) ≡ u
      → refusal_number (cond t (cond u (Ok tt) (Err E.NoField)) (Err E.NotEleven)) ≡ 0
      → Best 11 v (cond t (cond u (canonical_field (length l) v) l) l)
  done-by true true e d q =
      let w = eqb-true (length l) 11 e in
      let k = leb-true T (length l) d in
      subst (λ (n : ℕ). Best 11 v (canonical_field n v)) (sym w) (canonical-best 11 v h (omega arith))
  done-by true false e d q = not_done 40 q
  done-by false u e d q = not_done 39 q

  -- done: the buffer holds what wins
  pub done-best : refusal_number (written l v) ≡ 0 → Best 11 v (bytes l v)
  unfolding written bytes answered stored_field
  done-best q = done-by (eqb (length l) 11) (leb T (length l)) refl refl q

  refused-by : (u : Bool) → leb T (length l) ≡ u → refusal_number (cond u (Ok tt) (Err E.NoField)) ≡ 41 → length l < T
  refused-by true d q = not_done 40 (sym q)
  refused-by false d q = leb-false T (length l) d

  -- refused by 41: exactly where no field of eleven columns reads to the value
  pub refused_none : length l ≡ 11 → (refusal_number (written l v) ≡ 41) ↔ NoField 11 v
  unfolding written answered
  refused_none w =
      let e = eq-eqb (length l) 11 w in (
        λ q. let k = refused-by (leb T (length l)) refl (rw e at q) in (canonical-none 11 v h).1 (omega arith),
        λ none. let k : 11 < T = (canonical-none 11 v h).0 none in rw (e, lt-leb T (length l) (omega arith)) refl,
      )
