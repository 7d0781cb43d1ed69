-- What is answered where the merge is asked for, and what the buffer then holds, in each case and in no other.
-- Assumes nothing.
use Prim.Native.Nat.{ℕ, ◌+◌}
use mathlib.Core.Path.{◌≡◌, refl, sym, ap, subst, ◌∙◌}
use mathlib.Core.Bool.{Bool, true, false, cond, ◌||◌}
use mathlib.Core.List.{List, ◌++◌}
use native.Mathlib.Omega.{arith}
use borrow.Author.Tests.{ltb-true, ltb-false, lt-ltb, le-ltb}
use lib.Dec.{eqb, ltb}
use lib.ListN.{length, take, drop, replicate, take-append-drop, length-replicate, get_or-replicate, get_or-append}
use lib.Seq.{take-append_seam, drop-append_seam, drop_at}
use Rattle.paper_record.proofs.PlainColumns.{columns-blank}
use Rattle.paper_entry.specs.declared.types.Verdict.{Verdict}
use Rattle.paper_entry.specs.Judging.{judge_of, Accepted}
use Rattle.paper_entry.specs.Answer.{is_refused, answer_of}
use Rattle.paper_revisions.specs.declared.types.Merged.{Merged}
use Rattle.paper_revisions.specs.Picking.{other_accession, beside_verdict, answer_of_both}
use Rattle.paper_revisions.specs.Merging.{merge_of, merge_refusal, merge_answer, merged, merged_into}
use Rattle.revisions_laws.specs.Picks.{Paired, beside, bare}
use Rattle.revisions_laws.specs.Merges.{Stored, Blanked, answered, MergeSays, held_refused, revision_refused}
use Rattle.revisions_laws.specs.Merges.{accessions_differ, too_short, merge_refused, merge_made, MergeSaid, Delivered}
use Rattle.revisions_laws.proofs.Holders.{not-accepted, is-accepted, good, bad, accession-one, one-accession}
use Rattle.revisions_laws.proofs.Holders.{accession-other, other-accession}

-- ---- the buffer

pub stored_is : (m out after : List ℕ) → Stored m out after → m ++ drop (length m) out ≡ after
stored_is m out after x =
    ap (λ (l : List ℕ). m ++ l) (sym x.behind) ∙ ap (λ (l : List ℕ). l ++ drop (length m) after) (sym x.front)
    ∙ take-append-drop (length m) after

pub is-stored : (m out : List ℕ) → Stored m out (m ++ drop (length m) out)
is-stored m out =
    record {
      front = take-append_seam m (drop (length m) out);
      behind = drop-append_seam m (drop (length m) out);
    }

pub blanked-is : (long : ℕ) (out after : List ℕ) → Blanked long out after → replicate long 32 ++ drop long out ≡ after
blanked-is long out after x =
    ap (λ (l : List ℕ). replicate long 32 ++ l) (sym x.behind)
    ∙ ap (λ (l : List ℕ). l ++ drop long after) (sym (columns-blank long after x.front))
    ∙ take-append-drop long after

pub is-blanked : (long : ℕ) (out : List ℕ) → Blanked long out (replicate long 32 ++ drop long out)
is-blanked long out =
    let e : length (replicate {A = ℕ} long 32) ≡ long = length-replicate long 32 in
    record {
      front = λ i h.
          get_or-append (replicate long 32) (drop long out) 0 i (omega arith) ∙ get_or-replicate long i 32 0 h;
      behind = drop_at (replicate long 32) (drop long out) long e;
    }

-- ---- the answer by its tests

abbrev number_by : Bool → Bool → Bool → Bool → Bool → ℕ
number_by a b c d e = cond a 60 (cond b 60 (cond c 61 (cond d 37 (cond e 63 0))))

-- what one refusal after the other gives, and what is left where none is
abbrev in_order : {A : Type 0} → Bool → Bool → Bool → Bool → Bool → A → A → A → A → A → A → A
in_order a b c d e x y z s t u = cond a x (cond b y (cond c z (cond d s (cond e t u))))

abbrev answer_by : Bool → Bool → Bool → Bool → Bool → Verdict → Verdict → Verdict → ℕ → Merged
answer_by a b c d e v w m long =
    in_order a b c d e (answered (beside 60 v) 1 0) (answered (beside 60 w) 2 0) (answered (bare 61) 0 0)
    (answered (bare 37) 0 0) (answered (beside 63 m) 0 long) (answered (bare 0) 0 long)

answer-by : (a b c d e : Bool) (v w m : Verdict) (long : ℕ)
    → answered
    (cond (eqb (number_by a b c d e) 63) (beside_verdict 63 m)
    (cond (eqb (number_by a b c d e) 60) (beside_verdict 60 (cond a v w)) (answer_of (number_by a b c d e))))
    (cond (eqb (number_by a b c d e) 60) (cond a 1 2) 0)
    (cond (eqb (number_by a b c d e) 0 || eqb (number_by a b c d e) 63) long 0)
    ≡ answer_by a b c d e v w m long
answer-by true b c d e v w m long = refl
answer-by false true c d e v w m long = refl
answer-by false false true d e v w m long = refl
answer-by false false false true e v w m long = refl
answer-by false false false false true v w m long = refl
answer-by false false false false false v w m long = refl

buffer-by : (a b c d e : Bool) (made blank out : List ℕ)
    → cond (eqb (number_by a b c d e) 0) made (cond (eqb (number_by a b c d e) 63) blank out)
    ≡ in_order a b c d e out out out out blank made
buffer-by true b c d e made blank out = refl
buffer-by false true c d e made blank out = refl
buffer-by false false true d e made blank out = refl
buffer-by false false false true e made blank out = refl
buffer-by false false false false true made blank out = refl
buffer-by false false false false false made blank out = refl

module _ (held revision out : List ℕ) where
  abbrev m : List ℕ
  m = merge_of held revision

  abbrev short : Bool
  short = ltb (length out) (length held + length revision)

  abbrev pair : Bool → Bool → Bool → Bool → Bool → Merged × List ℕ
  pair a b c d e = (
    answer_by a b c d e (judge_of held) (judge_of revision) (judge_of m) (length m),
    in_order a b c d e out out out out (replicate (length m) 32 ++ drop (length m) out) (m ++ drop (length m) out),
  )

  abbrev call : Merged × List ℕ
  call = (merged held revision (length out), merged_into held revision out)

  call-is : call
      ≡ pair (is_refused (judge_of held)) (is_refused (judge_of revision)) (other_accession held revision) short
      (is_refused (judge_of m))
  unfolding merged merged_into merge_refusal merge_answer answer_of_both
  call-is =
      let x =
      answer-by (is_refused (judge_of held)) (is_refused (judge_of revision)) (other_accession held revision) short
      (is_refused (judge_of m)) (judge_of held) (judge_of revision) (judge_of m) (length m) in
      let y =
      buffer-by (is_refused (judge_of held)) (is_refused (judge_of revision)) (other_accession held revision) short
      (is_refused (judge_of m)) (m ++ drop (length m) out) (replicate (length m) 32 ++ drop (length m) out) out in
      λ i. (x i, y i)

  call-as : (a b c d e : Bool) → is_refused (judge_of held) ≡ a → is_refused (judge_of revision) ≡ b
      → other_accession held revision ≡ c → short ≡ d → is_refused (judge_of m) ≡ e → call ≡ pair a b c d e
  call-as a b c d e p q r s t =
      call-is
      ∙ ap (λ (x : Bool). pair x (is_refused (judge_of revision)) (other_accession held revision) short
      (is_refused (judge_of m))) p
      ∙ ap (λ (x : Bool). pair a x (other_accession held revision) short (is_refused (judge_of m))) q
      ∙ ap (λ (x : Bool). pair a b x short (is_refused (judge_of m))) r
      ∙ ap (λ (x : Bool). pair a b c x (is_refused (judge_of m))) s
      ∙ ap (pair a b c d) t

  -- ---- each answer is said

  abbrev P : Merged × List ℕ → Type 0
  P x = MergeSays held revision out x.0 x.1

  said : P call
  said =
      by_tests (is_refused (judge_of held)) refl (is_refused (judge_of revision)) refl (other_accession held revision) refl
      short refl (is_refused (judge_of m)) refl
    where
      paired : is_refused (judge_of held) ≡ false → is_refused (judge_of revision) ≡ false
          → other_accession held revision ≡ false → Paired held revision
      paired p q r =
          record {
            held_good = is-accepted held p;
            revision_good = is-accepted revision q;
            accession = accession-one held revision r;
          }

      one : (a b c d e : Bool) → is_refused (judge_of held) ≡ a → is_refused (judge_of revision) ≡ b
          → other_accession held revision ≡ c → short ≡ d → is_refused (judge_of m) ≡ e → P (pair a b c d e)
      one true b c d e p q r s t = held_refused (not-accepted held p)
      one false true c d e p q r s t = revision_refused (is-accepted held p) (not-accepted revision q)
      one false false true d e p q r s t =
          accessions_differ (is-accepted held p) (is-accepted revision q) (accession-other held revision r)
      one false false false true e p q r s t =
          too_short (paired p q r) (ltb-true (length out) (length held + length revision) s)
      one false false false false true p q r s t =
          merge_refused (paired p q r) (ltb-false (length out) (length held + length revision) s) (not-accepted m t)
          (replicate (length m) 32 ++ drop (length m) out) (is-blanked (length m) out)
      one false false false false false p q r s t =
          merge_made (paired p q r) (ltb-false (length out) (length held + length revision) s) (is-accepted m t)
          (m ++ drop (length m) out) (is-stored m out)

      by_tests : (a : Bool) → is_refused (judge_of held) ≡ a → (b : Bool) → is_refused (judge_of revision) ≡ b
          → (c : Bool) → other_accession held revision ≡ c → (d : Bool) → short ≡ d
          → (e : Bool) → is_refused (judge_of m) ≡ e → P call
      by_tests a p b q c r d s e t = subst P (sym (call-as a b c d e p q r s t)) (one a b c d e p q r s t)

  -- ---- and what is said is answered

  paired-as : (d e : Bool) → Paired held revision → short ≡ d → is_refused (judge_of m) ≡ e
      → call ≡ pair false false false d e
  paired-as d e x =
      call-as false false false d e (good held x.held_good) (good revision x.revision_good)
      (one-accession held revision x.accession)

  told : (a : Merged) (after : List ℕ) → MergeSays held revision out a after → call ≡ (a, after)
  told _ _ (held_refused d) = call-as true _ _ _ _ (bad held d) refl refl refl refl
  told _ _ (revision_refused a d) = call-as false true _ _ _ (good held a) (bad revision d) refl refl refl
  told _ _ (accessions_differ a b d) =
      call-as false false true _ _ (good held a) (good revision b) (other-accession held revision d) refl refl
  told _ _ (too_short x l) = paired-as true _ x (lt-ltb (length out) (length held + length revision) l) refl
  told _ _ (merge_refused x l d after y) =
      paired-as false true x (le-ltb (length out) (length held + length revision) l) (bad m d)
      ∙ ap (λ (z : List ℕ). (answered (beside 63 (judge_of m)) 0 (length m), z)) (blanked-is (length m) out after y)
  told _ _ (merge_made x l g after y) =
      paired-as false false x (le-ltb (length out) (length held + length revision) l) (good m g)
      ∙ ap (λ (z : List ℕ). (answered (bare 0) 0 (length m), z)) (stored_is m out after y)

  kept : (a : Merged) (after : List ℕ) → MergeSays held revision out a after → a.answer.number ≡ 0
      → Accepted (take a.length after)
  kept _ _ (held_refused d) z = absurd (omega arith)
  kept _ _ (revision_refused a d) z = absurd (omega arith)
  kept _ _ (accessions_differ a b d) z = absurd (omega arith)
  kept _ _ (too_short x l) z = absurd (omega arith)
  kept _ _ (merge_refused x l d after y) z = absurd (omega arith)
  kept _ _ (merge_made x l g after y) z = rw y.front g

pub merge-said : MergeSaid
merge-said held revision out a after = (
  λ x.
      let e : call held revision out ≡ (a, after) = λ i. (x.0 i, x.1 i) in
      subst (λ (y : Merged × List ℕ). MergeSays held revision out y.0 y.1) e (said held revision out),
  λ y.
      let e = told held revision out a after y in
      (ap (λ (x : Merged × List ℕ). x.0) e, ap (λ (x : Merged × List ℕ). x.1) e),
)

pub delivered : Delivered
delivered held revision out =
    kept held revision out (merged held revision (length out)) (merged_into held revision out) (said held revision out)
