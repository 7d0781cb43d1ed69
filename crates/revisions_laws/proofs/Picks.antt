-- What is answered where subentry n is asked for, and the part, in each case and in no other.
-- Assumes nothing.
use Prim.Native.Nat.{ℕ}
use mathlib.Core.Path.{◌≡◌, refl, sym, ap, subst, ◌∙◌}
use mathlib.Core.Bool.{Bool, true, false, cond, not, ◌||◌}
use mathlib.Core.List.{List, []}
use native.Mathlib.Omega.{arith}
use borrow.Author.Tests.{not-false, not-true}
use lib.Dec.{eqb}
use Rattle.laws.proofs.Booleans.{either-as, or_left, or_right}
use Rattle.paper_entry.specs.declared.types.Verdict.{Verdict}
use Rattle.paper_entry.specs.Judging.{judge_of}
use Rattle.paper_entry.specs.Answer.{is_refused, answer_of}
use Rattle.paper_revisions.specs.declared.types.Picked.{Picked}
use Rattle.paper_revisions.specs.Extents.{extent_of, has}
use Rattle.paper_revisions.specs.Picking.{in_revision, holder, other_accession, neither, is_gone, pick_refusal, beside_verdict}
use Rattle.paper_revisions.specs.Picking.{answer_of_both, part_of, no_part, picked, picked_bytes}
use Rattle.revisions_laws.specs.Picks.{Paired, one_of, beside, bare, without_part, with_part}
use Rattle.revisions_laws.specs.Picks.{PickSays, held_refused, revision_refused, accessions_differ, neither_has}
use Rattle.revisions_laws.specs.Picks.{gone, handed, PickSaid, PartHanded, of_one, of_none, PartSaid}
use Rattle.revisions_laws.proofs.Holders.{not-accepted, is-accepted, good, bad, accession-one, one-accession}
use Rattle.revisions_laws.proofs.Holders.{accession-other, other-accession, is-gone, gone-is, not-gone, gone-not, holds-is}
use Rattle.revisions_laws.proofs.Holders.{is_held}

-- ---- the answer by its tests

abbrev number_by : Bool → Bool → Bool → Bool → Bool → ℕ
number_by a b c d e = cond a 60 (cond b 60 (cond c 61 (cond d 32 (cond e 62 0))))

abbrev answer_by : Bool → Bool → Bool → Bool → Bool → Verdict → Verdict → Picked → Picked
answer_by a b c d e v w part =
    cond a (without_part (beside 60 v) 1)
    (cond b (without_part (beside 60 w) 2)
    (cond c (without_part (bare 61) 0) (cond d (without_part (bare 32) 0) (cond e (without_part (bare 62) 0) part))))

by_tests : (a b c d e : Bool) (v w : Verdict) (part : Picked)
    → cond (eqb (number_by a b c d e) 0) part
    (no_part
    (cond (eqb (number_by a b c d e) 60) (beside_verdict 60 (cond a v w)) (answer_of (number_by a b c d e)))
    (cond (eqb (number_by a b c d e) 60) (cond a 1 2) 0))
    ≡ answer_by a b c d e v w part
by_tests true b c d e v w part = refl
by_tests false true c d e v w part = refl
by_tests false false true d e v w part = refl
by_tests false false false true e v w part = refl
by_tests false false false false true v w part = refl
by_tests false false false false false v w part = refl

module _ (held revision : List ℕ) (n : ℕ) where
  abbrev which : Bool
  which = in_revision held revision n

  abbrev answer : Bool → Bool → Bool → Bool → Bool → Picked
  answer a b c d e =
      answer_by a b c d e (judge_of held) (judge_of revision) (with_part which (one_of held revision which) n)

  pick_is : picked held revision n
      ≡ answer (is_refused (judge_of held)) (is_refused (judge_of revision)) (other_accession held revision)
      (neither held revision n) (is_gone (holder held revision n) n)
  unfolding picked pick_refusal answer_of_both
  pick_is =
      by_tests (is_refused (judge_of held)) (is_refused (judge_of revision)) (other_accession held revision)
      (neither held revision n) (is_gone (holder held revision n) n) (judge_of held) (judge_of revision)
      (part_of which (extent_of (holder held revision n) n))

  pick-as : (a b c d e : Bool) → is_refused (judge_of held) ≡ a → is_refused (judge_of revision) ≡ b
      → other_accession held revision ≡ c → neither held revision n ≡ d → is_gone (holder held revision n) n ≡ e
      → picked held revision n ≡ answer a b c d e
  pick-as a b c d e p q r s t =
      pick_is
      ∙ ap (λ (x : Bool). answer x (is_refused (judge_of revision)) (other_accession held revision)
      (neither held revision n) (is_gone (holder held revision n) n)) p
      ∙ ap (λ (x : Bool). answer a x (other_accession held revision) (neither held revision n)
      (is_gone (holder held revision n) n)) q
      ∙ ap (λ (x : Bool). answer a b x (neither held revision n) (is_gone (holder held revision n) n)) r
      ∙ ap (λ (x : Bool). answer a b c x (is_gone (holder held revision n) n)) s
      ∙ ap (answer a b c d) t

  -- ---- each answer is said

  abbrev P : Picked → Type 0
  P = PickSays held revision n

  said : P (picked held revision n)
  said =
      subst P (sym pick_is)
      (either-as P (is_refused (judge_of held)) _ _ (λ p. held_refused (not-accepted held p))
      (λ p. either-as P (is_refused (judge_of revision)) _ _
      (λ q. revision_refused (is-accepted held p) (not-accepted revision q))
      (λ q. either-as P (other_accession held revision) _ _
      (λ r. accessions_differ (is-accepted held p) (is-accepted revision q) (accession-other held revision r))
      (λ r. both
      (record {
        held_good = is-accepted held p;
        revision_good = is-accepted revision q;
        accession = accession-one held revision r;
      })))))
    where
      both : Paired held revision
          → P
          (cond (neither held revision n) (without_part (bare 32) 0)
          (cond (is_gone (holder held revision n) n) (without_part (bare 62) 0)
          (with_part which (one_of held revision which) n)))
      both x =
          either-as P (neither held revision n) _ _
          (λ s.
          let z = not-true (has held n || has revision n) s in
          neither_has x (or_left (has held n) (has revision n) z) (or_right (has held n) (has revision n) z))
          (λ s.
          let h = is_held held revision n (not-false (has held n || has revision n) s) in
          either-as P (is_gone (holder held revision n) n) _ _
          (λ t. gone x which h (is-gone (holder held revision n) n t))
          (λ t. handed x which h (not-gone (holder held revision n) n t)))

  -- ---- and what is said is answered

  paired-as : (d e : Bool) → Paired held revision → neither held revision n ≡ d → is_gone (holder held revision n) n ≡ e
      → picked held revision n ≡ answer false false false d e
  paired-as d e x =
      pick-as false false false d e (good held x.held_good) (good revision x.revision_good)
      (one-accession held revision x.accession)

  answered : (p : Picked) → P p → picked held revision n ≡ p
  answered _ (held_refused d) = pick-as true _ _ _ _ (bad held d) refl refl refl refl
  answered _ (revision_refused a d) = pick-as false true _ _ _ (good held a) (bad revision d) refl refl refl
  answered _ (accessions_differ a b d) =
      pick-as false false true _ _ (good held a) (good revision b) (other-accession held revision d) refl refl
  answered _ (neither_has x h r) = paired-as true _ x (rw (h, r) refl) refl
  answered _ (gone x t h g) =
      let y = holds-is held revision n t h in
      paired-as false true x (ap not y.0)
      (gone-is (holder held revision n) n (rw y.1 g))
  answered _ (handed x t h g) =
      let y = holds-is held revision n t h in
      paired-as false false x (ap not y.0) (gone-not (holder held revision n) n (rw y.1 g))
      ∙ ap (λ (w : Bool). with_part w (one_of held revision w) n) y.1

  -- ---- the part

  numbered : (p : Picked) → picked held revision n ≡ p → (p.answer.number ≡ 0 → ⊥)
      → (picked held revision n).answer.number ≡ 0 → ⊥
  numbered p e d z = d (ap (λ (x : Picked). x.answer.number) (sym e) ∙ z)

  handed-part : (p : Picked) → picked held revision n ≡ p → P p
      → PartHanded held revision n (picked_bytes held revision p)
  handed-part p e (held_refused d) = of_none (numbered p e (λ z. omega arith))
  handed-part p e (revision_refused a d) = of_none (numbered p e (λ z. omega arith))
  handed-part p e (accessions_differ a b d) = of_none (numbered p e (λ z. omega arith))
  handed-part p e (neither_has x h r) = of_none (numbered p e (λ z. omega arith))
  handed-part p e (gone x t h g) = of_none (numbered p e (λ z. omega arith))
  handed-part p e (handed x t h g) = of_one x t h g

  no-part : (p : Picked) → P p → (p.answer.number ≡ 0 → ⊥) → picked_bytes held revision p ≡ []
  no-part p (held_refused d) z = refl
  no-part p (revision_refused a d) z = refl
  no-part p (accessions_differ a b d) z = refl
  no-part p (neither_has x h r) z = refl
  no-part p (gone x t h g) z = refl
  no-part p (handed x t h g) z = absurd (z refl)

  part-answered : (part : List ℕ) → PartHanded held revision n part
      → picked_bytes held revision (picked held revision n) ≡ part
  part-answered _ (of_one x t h g) = ap (picked_bytes held revision) (answered _ (handed x t h g))
  part-answered _ (of_none d) = no-part (picked held revision n) said d

pub pick-said : PickSaid
pick-said held revision n p = (λ e. subst (PickSays held revision n) e (said held revision n), answered held revision n p)

pub part-said : PartSaid
part-said held revision n part = (
  λ e.
      subst (PartHanded held revision n) e
      (handed-part held revision n (picked held revision n) refl (said held revision n)),
  part-answered held revision n part,
)
