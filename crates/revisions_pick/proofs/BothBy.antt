-- What both calls answer first, by the two verdicts and then by the two accessions. Assumes nothing.
use Prim.Native.Nat.{ℕ, ◌≤◌}
use mathlib.Core.Path.{◌≡◌, refl, sym, ◌∙◌, ap}
use mathlib.Core.Bool.{Bool, true, false, cond, not}
use mathlib.Core.List.{List}
use native.Mathlib.Omega.{arith}
use lib.Dec.{eqb}
use lib.ListN.{length}
use borrow.Author.Tests.{eqb-true, eqb-false, not-true, not-false}
use Rattle.laws.proofs.Booleans.{and_left}
use Rattle.paper_entry.specs.declared.types.Verdict.{Verdict}
use Rattle.paper_entry.specs.Verdict.{length_good}
use Rattle.paper_entry.specs.Judging.{judge_of, Accepted}
use Rattle.paper_entry.specs.Answer.{first_of, is_refused, answer_of}
use Rattle.paper_entry.proofs.Lengths.{accepted-good, whole-records}
use Rattle.paper_revisions.specs.declared.types.Both.{Both}
use Rattle.paper_revisions.specs.Picking.{other_accession, both_refusals, beside_verdict, answer_of_both, both_of}
use Rattle.revisions_pick.specs.Among.{both_by, named_first, by_accession}

-- ---- the three tests of `both_of`, taken apart

module _ (v w : Verdict) where
  abbrev named : Bool → Bool → Both
  named p q =
      cond p (both_by (beside_verdict 60 v) 1) (cond q (both_by (beside_verdict 60 w) 2) (both_by (answer_of 0) 0))

  abbrev said : ℕ → Bool → Both
  said number p =
      both_by (cond (eqb number 60) (beside_verdict 60 (cond p v w)) (answer_of number)) (cond (eqb number 60) (cond p 1 2) 0)

  abbrev number : Bool → Bool → Bool → ℕ
  number p q o = cond p 60 (cond q 60 (cond o 61 0))

  by-verdict : (p q o : Bool) → ((named p q).answer.number ≡ 0 → ⊥) → named p q ≡ said (number p q o) p
  by-verdict true q o h = refl
  by-verdict false true o h = refl
  by-verdict false false o h = absurd (h refl)

  by-other : (p q o : Bool) → (named p q).answer.number ≡ 0 → by_accession o ≡ said (number p q o) p
  by-other true q o h = absurd (omega arith)
  by-other false true o h = absurd (omega arith)
  by-other false false true h = refl
  by-other false false false h = refl

  both-fine : (p q : Bool) → (named p q).answer.number ≡ 0 → (p ≡ false) × (q ≡ false)
  both-fine true q h = absurd (omega arith)
  both-fine false true h = absurd (omega arith)
  both-fine false false h = (refl, refl)

-- an accepted entry has a record
accepted-long : (s : List ℕ) → Accepted s → 81 ≤ length s
unfolding length_good
accepted-long s a =
    let n : ℕ = length s in
    let g = accepted-good s a in
    let some = not-true (eqb n 0) (and_left (not (eqb n 0)) _ g) in
    let z = eqb-false n 0 some in
    omega (arith, z, (whole-records n g).0)

-- ---- as the code meets them: the two verdicts, and what `named_first` makes of them

module _ (held revision : List ℕ) {v w : Verdict} (a : v ≡ judge_of held) (b : w ≡ judge_of revision) {x : Both}
    (e : x ≡ named_first v w) where
  -- one of the two is refused
  pub both-named : (x.answer.number ≡ 0 → ⊥) → x ≡ both_of held revision
  unfolding named_first both_of answer_of_both
  both-named h =
      rw (← a, ← b, e)
      (by-verdict v w (is_refused v) (is_refused w) (other_accession held revision)
      (λ z. h (ap (λ (y : Both). y.answer.number) e ∙ z)))

  none_named : x.answer.number ≡ 0 → (named_first v w).answer.number ≡ 0
  none_named h = ap (λ (y : Both). y.answer.number) (sym e) ∙ h

  -- neither is
  pub both-other : x.answer.number ≡ 0 → by_accession (other_accession held revision) ≡ both_of held revision
  unfolding named_first both_of answer_of_both
  both-other h =
      rw (← a, ← b) (by-other v w (is_refused v) (is_refused w) (other_accession held revision) (none_named h))

  pub both_long : x.answer.number ≡ 0 → (81 ≤ length held) × (81 ≤ length revision)
  unfolding named_first
  both_long h =
      let f = both-fine v w (is_refused v) (is_refused w) (none_named h) in
      let p : Accepted held = rw (← a) (eqb-true _ _ (not-false (eqb v.refusal 0) f.0)) in
      let q : Accepted revision = rw (← b) (eqb-true _ _ (not-false (eqb w.refusal 0) f.1)) in
      (accepted-long held p, accepted-long revision q)

-- the number of what both calls answer first
pub both-number : (held revision : List ℕ) → (both_of held revision).answer.number ≡ first_of (both_refusals held revision)
unfolding both_of answer_of_both
both-number held revision =
    let n : ℕ = first_of (both_refusals held revision) in by-test n (eqb n 60) refl
  where
    by-test : (n : ℕ) (t : Bool) → eqb n 60 ≡ t
        → (cond t (beside_verdict 60 (cond (is_refused (judge_of held)) (judge_of held) (judge_of revision))) (answer_of n)
        ).number ≡ n
    by-test n true e = sym (eqb-true n 60 e)
    by-test n false e = refl

-- both are accepted where nothing is refused
pub both-accepted : (held revision : List ℕ) → (both_of held revision).answer.number ≡ 0
    → Accepted held × Accepted revision
both-accepted held revision h =
    let z : first_of (both_refusals held revision) ≡ 0 = sym (both-number held revision) ∙ h in
    by-test (is_refused (judge_of held)) (is_refused (judge_of revision)) (other_accession held revision) refl refl z
  where
    by-test : (p q o : Bool) → is_refused (judge_of held) ≡ p → is_refused (judge_of revision) ≡ q
        → ◌≡◌ {A = ℕ} (cond p 60 (cond q 60 (cond o 61 0))) 0 → Accepted held × Accepted revision
    by-test true q o x y e = absurd (omega arith)
    by-test false true o x y e = absurd (omega arith)
    by-test false false o x y e = (
      eqb-true _ _ (not-false (eqb (judge_of held).refusal 0) x),
      eqb-true _ _ (not-false (eqb (judge_of revision).refusal 0) y),
    )
