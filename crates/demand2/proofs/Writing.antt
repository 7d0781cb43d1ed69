-- Writing comes to its canonical field, to 41 or to 40, and to nothing else.
-- Assumes nothing.
use Prim.Native.Nat.{ℕ}
use mathlib.Core.Path.{◌≡◌, refl, sym, ap, ◌∙◌, subst}
use mathlib.Core.Bool.{Bool, true, false}
use mathlib.Core.List.{List}
use native.Mathlib.Omega.{arith}
use borrow.Author.Tests.{eqb-true, eqb-false, leb-true, leb-false}
use lib.Dec.{eqb, leb}
use lib.IntN.{ℤ}
use lib.ListN.{length}
use Rattle.paper_number.specs.declared.types.Decimal.{Decimal}
use Rattle.paper_number.specs.declared.types.Reading.TheVariants.{Number}
use Rattle.paper_number.specs.Value.{Normal, Value, value_of}
use Rattle.paper_number.specs.Reading.{read_field}
use Rattle.paper_number.proofs.Laws.{value_found, value-one, reads-exactly}
use Rattle.paper_canonical.specs.Canonical.{Best}
use Rattle.paper_canonical.specs.Closed.{canonical_text}
use Rattle.paper_canonical.specs.Writing.{written, bytes, refusal_number}
use Rattle.paper_canonical.proofs.Laws.{canonical-one, canonical-best, best-one, none_reads, written-fits, written-wide}
use Rattle.paper_canonical.proofs.Laws.{written-short}
use Rattle.demand2.specs.Writing.{NoneReads, Writes, its_field, no_field, no_room, WrittenSo, WrittenAlone}
use Rattle.demand2.specs.Writing.{OneWins, RefusedExactly}

-- ---- a decimal in its normal form

module _ (v : Decimal) (l : List ℕ) where
  abbrev columns : ℕ
  columns = length (canonical_text v)

  writes : Normal v → Writes v l (refusal_number (written l v)) (bytes l v)
  writes h = by_tests (eqb (length l) 11) (leb columns 11) refl refl
    where
      by_tests : (t u : Bool) → eqb (length l) 11 ≡ t → leb columns 11 ≡ u → Writes v l (refusal_number (written l v)) (bytes l v)
      by_tests true true e d =
          let w = eqb-true (length l) 11 e in
          let k = leb-true columns 11 d in
          let (a, b) = written-fits l v w k in
          rw (a, b) (its_field _ w (canonical-best 11 v h k))
      by_tests true false e d =
          let w = eqb-true (length l) 11 e in
          let k = leb-false columns 11 d in
          let (a, b) = written-wide l v w (omega arith) in
          rw (a, b) (no_field w (none_reads 11 v (omega arith)))
      by_tests false u e d =
          let n = eqb-false (length l) 11 e in
          let (a, b) = written-short l v n in
          rw (a, b) (no_room n)

  -- ---- no two

  read_back : (m : List ℕ) → Best 11 v m → read_field m ≡ Number v
  read_back m b = (reads-exactly m v).1 b.reads

  one_way : {r q : ℕ} {m k : List ℕ} → Writes v l r m → Writes v l q k → (r ≡ q) × (m ≡ k)
  one_way (its_field x w b) (its_field y z c) = (refl, best-one 11 v x y b c)
  one_way (its_field x w b) (no_field z none) = absurd (none x b.wide (read_back x b))
  one_way (its_field x w b) (no_room z) = absurd (z w)
  one_way (no_field w none) (its_field y z c) = absurd (none y c.wide (read_back y c))
  one_way (no_field w none) (no_field z never) = (refl, refl)
  one_way (no_field w none) (no_room z) = absurd (z w)
  one_way (no_room w) (its_field y z c) = absurd (w z)
  one_way (no_room w) (no_field z none) = absurd (w z)
  one_way (no_room w) (no_room z) = (refl, refl)

  refused_none : {r : ℕ} {m : List ℕ} → Writes v l r m → r ≡ 41 → NoneReads v
  refused_none (its_field x w b) e = absurd (omega arith)
  refused_none (no_field w none) e = none
  refused_none (no_room w) e = absurd (omega arith)

-- ---- any sign, coefficient and power

module _ (negative : Bool) (a : ℕ) (p : ℤ) (v : Decimal) (h : Value negative a p v) where
  same : v ≡ value_of negative a p
  same = value-one negative a p v (value_of negative a p) h (value_found negative a p)

  so : (l : List ℕ) → Writes v l (refusal_number (written l (value_of negative a p))) (bytes l (value_of negative a p))
  so l = subst (λ (u : Decimal). Writes v l (refusal_number (written l u)) (bytes l u)) same (writes v l h.normal)

pub written_so : WrittenSo
written_so negative a p v h l = so negative a p v h l

pub written_alone : WrittenAlone
written_alone negative a p v h l r m x = one_way v l x (so negative a p v h l)

pub one_wins : OneWins
one_wins w v l e r =
    let s = r.spells in canonical-one w v r.field s.good (ap length s.same ∙ e) r.means

pub refused_exactly : RefusedExactly
refused_exactly negative a p v h l w = (
  refused_none v l (so negative a p v h l),
  λ none. sym (written_alone negative a p v h l 41 l (no_field w none)).0,
)
