-- No answer about a held entry and its revision is lost: it comes back from the word and the lent numbers, and the merge from the
-- lent bytes.
-- Assumes nothing.
use Prim.Native.Nat.{ℕ, ◌^◌, ◌<◌}
use mathlib.Core.Path.{◌≡◌, refl, sym}
use mathlib.Core.Bool.{Bool, true, false}
use mathlib.Core.List.{List}
use native.Mathlib.Omega.{arith}
use borrow.Author.Tests.{eqb-false, ne_eqb}
use lib.Dec.{eqb}
use lib.ListN.{length}
use Rattle.laws.proofs.Booleans.{differ}
use Rattle.paper_record.proofs.PlainColumns.{columns-blank}
use Rattle.paper_entry.specs.Judging.{judge_of}
use Rattle.paper_revisions.specs.declared.types.Picked.{Picked}
use Rattle.paper_revisions.specs.declared.types.Merged.{Merged}
use Rattle.paper_revisions.specs.Picking.{picked}
use Rattle.paper_revisions.specs.Merging.{merge_of, merged, merged_into}
use Rattle.revisions_laws.specs.Picks.{beside, PickSays, held_refused, revision_refused, accessions_differ, neither_has}
use Rattle.revisions_laws.specs.Picks.{gone, handed}
use Rattle.revisions_laws.specs.Merges as merges
use Rattle.revisions_laws.proofs.Picks.{pick-said}
use Rattle.revisions_laws.proofs.Merges.{merge-said}
use Rattle.exports_words.specs.Words.{lent_after}
use Rattle.exports_back.proofs.Laws.{Fits, word_back, plain_fits, answer-fits}
use Rattle.exports_back.proofs.DoubleBack.{judge-alone}
use Rattle.exports_picks.specs.Picks.{naming, of_entry, is_written, picked_word, picked_stored, merged_word, merged_stored}
use Rattle.revisions_back.specs.Host.{picked_said, merged_said}
use Rattle.revisions_back.specs.Claims.{SubentryBack, MergeBack, Holding, BufferBack, SubentryKept, MergeKept}

-- ---- an answer that fits its word with what stands in the ordinal's place, and has no ordinal of its own

beside-fits : (s : List ℕ) (number which : ℕ) → number < 2 ^ 8 → which < 2 ^ 16
    → Fits (naming (beside number (judge_of s)) which)
beside-fits s number which h i =
    let near = (answer-fits s 31 (omega arith)).beside in
    record {
      number = h;
      beside = record { number = near.number; «record» = near.«record»; column = near.column; whose = i };
    }

part-told : (p : Picked) (part : List ℕ) → Fits (naming p.answer p.which) → p.answer.ordinal ≡ 0
    → ((p.answer.number ≡ 0 → ⊥) → (p.revision ≡ false) × ((p.first ≡ 0) × (p.length ≡ 0)))
    → picked_said (picked_word p) (picked_stored part p) ≡ p
unfolding picked_said picked_word picked_stored lent_after
part-told p part f alone none = by_number (eqb p.answer.number 0) refl
  where
    in-revision : (b : Bool) → eqb (of_entry b) 2 ≡ b
    in-revision true = refl
    in-revision false = refl

    own : naming p.answer 0 ≡ p.answer
    own t =
        record {
          number = p.answer.number;
          refusal = p.answer.refusal;
          «record» = p.answer.«record»;
          column = p.answer.column;
          ordinal = sym alone t;
        }

    by_number : (b : Bool) → eqb p.answer.number 0 ≡ b → picked_said (picked_word p) (picked_stored part p) ≡ p
    by_number true e =
        rw (word_back (naming p.answer p.which) f, e)
        (λ t. record {
          answer = own t;
          which = p.which;
          revision = in-revision p.revision t;
          first = p.first;
          length = p.length;
        })
    by_number false e =
        let z = none (eqb-false p.answer.number 0 e) in
        rw (word_back (naming p.answer p.which) f, e)
        (λ t. record {
          answer = own t;
          which = p.which;
          revision = sym z.0 t;
          first = sym z.1.0 t;
          length = sym z.1.1 t;
        })

merge-told : (m : Merged) (long : List ℕ) → Fits (naming m.answer m.which) → m.answer.ordinal ≡ 0
    → (is_written m.answer.number ≡ false → m.length ≡ 0) → merged_said (merged_word m) (merged_stored long m) ≡ m
unfolding merged_said merged_word merged_stored
merge-told m long f alone none = by_number (is_written m.answer.number) refl
  where
    own : naming m.answer 0 ≡ m.answer
    own t =
        record {
          number = m.answer.number;
          refusal = m.answer.refusal;
          «record» = m.answer.«record»;
          column = m.answer.column;
          ordinal = sym alone t;
        }

    by_number : (b : Bool) → is_written m.answer.number ≡ b → merged_said (merged_word m) (merged_stored long m) ≡ m
    by_number true e =
        rw (word_back (naming m.answer m.which) f, e)
        (λ t. record { answer = own t; which = m.which; length = m.length })
    by_number false e =
        rw (word_back (naming m.answer m.which) f, e)
        (λ t. record { answer = own t; which = m.which; length = sym (none e) t })

-- ---- a subentry

module _ (held revision part : List ℕ) (n : ℕ) where
  picked-told : (p : Picked) → PickSays held revision n p → picked_said (picked_word p) (picked_stored part p) ≡ p
  picked-told p (held_refused d) =
      part-told p part (beside-fits held 60 1 (omega arith) (omega arith)) (judge-alone held) (λ z. (refl, (refl, refl)))
  picked-told p (revision_refused a d) =
      part-told p part (beside-fits revision 60 2 (omega arith) (omega arith)) (judge-alone revision)
      (λ z. (refl, (refl, refl)))
  picked-told p (accessions_differ a b d) =
      part-told p part (plain_fits 61 (omega arith)) refl (λ z. (refl, (refl, refl)))
  picked-told p (neither_has x a b) =
      part-told p part (plain_fits 32 (omega arith)) refl (λ z. (refl, (refl, refl)))
  picked-told p (gone x which h g) =
      part-told p part (plain_fits 62 (omega arith)) refl (λ z. (refl, (refl, refl)))
  picked-told p (handed x which h g) =
      part-told p part (plain_fits 0 (omega arith)) refl (λ z. absurd (z refl))

pub subentry-back : SubentryBack
subentry-back held revision part n =
    picked-told held revision part n (picked held revision n) ((pick-said held revision n (picked held revision n)).0 refl)

pub subentry-kept : SubentryKept
unfolding picked_stored lent_after
subentry-kept held revision part n z = rw (ne_eqb (picked held revision n).answer.number 0 z) refl

-- ---- a merge

module _ (held revision out : List ℕ) where
  abbrev m : List ℕ
  m = merge_of held revision

  merged-told : (long : List ℕ) (a : Merged) (after : List ℕ) → merges.MergeSays held revision out a after
      → merged_said (merged_word a) (merged_stored long a) ≡ a
  merged-told long a after (merges.held_refused d) =
      merge-told a long (beside-fits held 60 1 (omega arith) (omega arith)) (judge-alone held) (λ e. refl)
  merged-told long a after (merges.revision_refused x d) =
      merge-told a long (beside-fits revision 60 2 (omega arith) (omega arith)) (judge-alone revision) (λ e. refl)
  merged-told long a after (merges.accessions_differ x y d) =
      merge-told a long (plain_fits 61 (omega arith)) refl (λ e. refl)
  merged-told long a after (merges.too_short x l) =
      merge-told a long (plain_fits 37 (omega arith)) refl (λ e. refl)
  merged-told long a after (merges.merge_refused x l d _ y) =
      merge-told a long (beside-fits m 63 0 (omega arith) (omega arith)) (judge-alone m) (λ e. differ e)
  merged-told long a after (merges.merge_made x l g _ y) =
      merge-told a long (plain_fits 0 (omega arith)) refl (λ e. differ e)

  holding : (a : Merged) (after : List ℕ) → merges.MergeSays held revision out a after → Holding held revision out a after
  holding a after (merges.held_refused d) =
      record { made = λ e. absurd (omega arith); refused = λ e. absurd (omega arith); behind = refl }
  holding a after (merges.revision_refused x d) =
      record { made = λ e. absurd (omega arith); refused = λ e. absurd (omega arith); behind = refl }
  holding a after (merges.accessions_differ x y d) =
      record { made = λ e. absurd (omega arith); refused = λ e. absurd (omega arith); behind = refl }
  holding a after (merges.too_short x l) =
      record { made = λ e. absurd (omega arith); refused = λ e. absurd (omega arith); behind = refl }
  holding a after (merges.merge_refused x l d _ y) =
      record {
        made = λ e. absurd (omega arith);
        refused = λ e. columns-blank (length m) after y.front;
        behind = y.behind;
      }
  holding a after (merges.merge_made x l g _ y) =
      record { made = λ e. y.front; refused = λ e. absurd (omega arith); behind = y.behind }

  kept : (a : Merged) (after : List ℕ) → merges.MergeSays held revision out a after
      → (a.answer.number ≡ 0 → ⊥) → (a.answer.number ≡ 63 → ⊥) → after ≡ out
  kept a after (merges.held_refused d) p q = refl
  kept a after (merges.revision_refused x d) p q = refl
  kept a after (merges.accessions_differ x y d) p q = refl
  kept a after (merges.too_short x l) p q = refl
  kept a after (merges.merge_refused x l d _ y) p q = absurd (q refl)
  kept a after (merges.merge_made x l g _ y) p q = absurd (p refl)

  said : merges.MergeSays held revision out (merged held revision (length out)) (merged_into held revision out)
  said = (merge-said held revision out (merged held revision (length out)) (merged_into held revision out)).0 (refl, refl)

pub merge-back : MergeBack
merge-back held revision out long = merged-told held revision out long _ _ (said held revision out)

pub buffer-back : BufferBack
buffer-back held revision out = holding held revision out _ _ (said held revision out)

pub merge-kept : MergeKept
unfolding merged_stored
merge-kept held revision out long p q =
    let a = merged held revision (length out) in (
      rw (ne_eqb a.answer.number 0 p, ne_eqb a.answer.number 63 q) refl,
      kept held revision out _ _ (said held revision out) p q,
    )
