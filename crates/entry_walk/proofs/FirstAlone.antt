-- No verdict but the judge's is the first in the order.
-- Assumes nothing.
use Prim.Native.Nat.{ℕ, ◌+◌, ◌/◌, ◌<◌}
use mathlib.Core.Path.{◌≡◌, refl, sym, ◌∙◌}
use mathlib.Core.List.{List}
use lib.ListN.{length}
use Rattle.laws.proofs.EitherWay.{no}
use Rattle.paper_faults.specs.First.{Foremost}
use Rattle.paper_faults.proofs.First.{none_found, one-first}
use Rattle.paper_entry.specs.declared.types.Verdict.{Verdict}
use Rattle.paper_entry.specs.Verdict.{refused}
use Rattle.paper_entry.specs.Judging.{judge_of}
use Rattle.entry_walk.specs.First.{found_at, NothingBefore, FirstAt, First, by_length, by_record, by_end, by_none}
use Rattle.entry_walk.specs.First.{FirstAlone}
use Rattle.entry_walk.proofs.FirstRefused.{refused_first}

-- ---- one record is the first

module _ (s : List ℕ) where
  foremost : (i n k : ℕ) → FirstAt s i n k → Foremost (found_at s) (length s / 81) i n k
  foremost i n k a = record { there = a.there; earlier = a.earlier; least = a.least }

  none_here : (i n k : ℕ) → FirstAt s i n k → (m : ℕ) → i < m → NothingBefore s m → ⊥
  none_here i n k a m l none = none_found (found_at s) i n k (foremost i n k a) m l none

  one-refusal : (i n k j m l : ℕ) → FirstAt s i n k → FirstAt s j m l
      → refused n (record { 0 = i + 1 }) k ≡ refused m (record { 0 = j + 1 }) l
  one-refusal i n k j m l a b =
      let (e, (f, g)) = one-first (found_at s) i n k j m l (foremost i n k a) (foremost j m l b) in
      rw (e, f, g) refl

  one-verdict : (v w : Verdict) → First s v → First s w → v ≡ w
  one-verdict v w (by_length e) (by_length f) = refl
  one-verdict v w (by_length e) (by_record j m l b) = no (sym e ∙ b.length-good)
  one-verdict v w (by_length e) (by_end b f) = no (sym e ∙ b.length-good)
  one-verdict v w (by_length e) (by_none b f) = no (sym e ∙ b.length-good)
  one-verdict v w (by_record i n k a) (by_length f) = no (sym f ∙ a.length-good)
  one-verdict v w (by_record i n k a) (by_record j m l b) = one-refusal i n k j m l a b
  one-verdict v w (by_record i n k a) (by_end b f) = absurd (none_here i n k a (length s / 81) a.there b.all)
  one-verdict v w (by_record i n k a) (by_none b f) = absurd (none_here i n k a (length s / 81) a.there b.all)
  one-verdict v w (by_end a e) (by_length f) = no (sym f ∙ a.length-good)
  one-verdict v w (by_end a e) (by_record j m l b) = absurd (none_here j m l b (length s / 81) b.there a.all)
  one-verdict v w (by_end a e) (by_end b f) = refl
  one-verdict v w (by_end a e) (by_none b f) = no (sym e ∙ f)
  one-verdict v w (by_none a e) (by_length f) = no (sym f ∙ a.length-good)
  one-verdict v w (by_none a e) (by_record j m l b) = absurd (none_here j m l b (length s / 81) b.there a.all)
  one-verdict v w (by_none a e) (by_end b f) = no (sym f ∙ e)
  one-verdict v w (by_none a e) (by_none b f) = refl

pub first_alone : FirstAlone
first_alone s v f = one-verdict s v (judge_of s) f (refused_first s)
