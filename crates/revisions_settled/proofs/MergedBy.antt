-- What `merged` answers and `merged_into` leaves in the buffer, by the cases of the code.
-- Assumes nothing.
use Prim.Native.Nat.{ℕ, ◌+◌, ◌-◌, ◌≤◌}
use mathlib.Core.Path.{◌≡◌, refl, sym, ◌∙◌, ap}
use mathlib.Core.Bool.{Bool, true, false, cond}
use mathlib.Core.List.{List, [], ◌∷◌, ◌++◌}
use lib.Dec.{eqb, ltb}
use lib.ListN.{length, drop, replicate, length-replicate}
use lib.Seq.{drop-append_seam}
use borrow.Author.Tests.{ne_eqb, lt-ltb, le-ltb}
use native.Mathlib.Omega.{arith}
use Rattle.laws.proofs.Search.{either}
use Rattle.paper_number.specs.Grammar.{blanks}
use Rattle.paper_canonical.specs.Storing.{put}
use Rattle.paper_entry.specs.Judging.{judge_of}
use Rattle.paper_entry.specs.Answer.{Refusal, refusal, first_of, is_refused, answer_of}
use Rattle.paper_entry.proofs.Firsts.{first-given, none-given}
use Rattle.paper_revisions.specs.declared.types.Both.{Both}
use Rattle.paper_revisions.specs.declared.types.Merged.{Merged}
use Rattle.paper_revisions.specs.Picking.{other_accession, both_refusals, answer_of_both, both_of}
use Rattle.paper_revisions.specs.Merging.{merge_of, merge_refusal, merge_answer, merged, merged_into}
use Rattle.revisions_pick.proofs.BothBy.{both-number}
use Rattle.revisions_settled.specs.Settled.{no_merge, settled_by, kept_by}

-- the room that the held entry leaves
pub room-left : (held revision room : ℕ) → held ≤ room → ltb (room - held) revision ≡ ltb room (held + revision)
room-left held revision room h =
    either (room - held) revision
    (λ l. lt-ltb (room - held) revision l ∙ sym (lt-ltb room (held + revision) (omega arith)))
    (λ l. le-ltb (room - held) revision l ∙ sym (le-ltb room (held + revision) (omega arith)))

-- blanks at the front of a buffer
pub blanks-put : (out : List ℕ) (n : ℕ) → put out 0 (blanks n) ≡ replicate n 32 ++ drop n out
unfolding put
blanks-put out n =
    let z : 0 + length (blanks n) ≡ n = omega (arith, length-replicate {A = ℕ} n 32) in
    rw z refl

-- the refusals behind those of both calls
abbrev room_refusals : List ℕ → List ℕ → ℕ → List Refusal
room_refusals held revision room =
    refusal 37 (ltb room (length held + length revision))
    ∷ refusal 63 (is_refused (judge_of (merge_of held revision)))
    ∷ []

not-63 : (p q o : Bool) → eqb (cond p 60 (cond q 60 (cond o 61 0))) 63 ≡ false
not-63 true q o = refl
not-63 false true o = refl
not-63 false false true = refl
not-63 false false false = refl

module _ (held revision : List ℕ) {x : Both} (same : x ≡ both_of held revision) where
  abbrev m : List ℕ
  m = merge_of held revision

  first-number : x.answer.number ≡ first_of (both_refusals held revision)
  first-number = rw same (both-number held revision)

  first-not-63 : eqb (first_of (both_refusals held revision)) 63 ≡ false
  first-not-63 = not-63 (is_refused (judge_of held)) (is_refused (judge_of revision)) (other_accession held revision)

  -- ---- 60 and 61

  module _ (given : x.answer.number ≡ 0 → ⊥) where
    some : first_of (both_refusals held revision) ≡ 0 → ⊥
    some e = given (first-number ∙ e)

    refused-number : (room : ℕ) → merge_refusal held revision room ≡ first_of (both_refusals held revision)
    unfolding merge_refusal
    refused-number room = first-given (both_refusals held revision) (room_refusals held revision room) some

    pub merged-refused : (room : ℕ) → no_merge x.answer x.which ≡ merged held revision room
    unfolding merged merge_answer both_of
    merged-refused room = rw (same, refused-number room, first-not-63, ne_eqb _ 0 some) refl

    pub kept-refused : (out : List ℕ) → out ≡ merged_into held revision out
    unfolding merged_into
    kept-refused out = rw (refused-number (length out), first-not-63, ne_eqb _ 0 some) refl

  -- ---- both are accepted, of one accession

  module _ (none : x.answer.number ≡ 0) where
    room-number : (room : ℕ) → merge_refusal held revision room ≡ first_of (room_refusals held revision room)
    unfolding merge_refusal
    room-number room =
        none-given (both_refusals held revision) (room_refusals held revision room) refl (sym first-number ∙ none)

    module _ (room : ℕ) (short : ltb room (length held + length revision) ≡ true) where
      short-number : merge_refusal held revision room ≡ 37
      short-number = room-number room ∙ rw short refl

      pub merged-short : no_merge (answer_of 37) 0 ≡ merged held revision room
      unfolding merged merge_answer answer_of_both
      merged-short = rw short-number refl

    pub kept-short : (out : List ℕ) → ltb (length out) (length held + length revision) ≡ true
        → out ≡ merged_into held revision out
    unfolding merged_into
    kept-short out short = rw (short-number (length out) short) refl

    module _ (room : ℕ) (enough : ltb room (length held + length revision) ≡ false) where
      enough-number : merge_refusal held revision room ≡ cond (is_refused (judge_of (merge_of held revision))) 63 0
      enough-number = room-number room ∙ rw enough refl

      answer-settled : settled_by (judge_of (merge_of held revision)) (length (merge_of held revision))
          ≡ merged held revision room
      unfolding settled_by merged merge_answer answer_of_both
      answer-settled = by-test (is_refused (judge_of (merge_of held revision))) refl
        where
          by-test : (t : Bool) → is_refused (judge_of (merge_of held revision)) ≡ t
              → settled_by (judge_of (merge_of held revision)) (length (merge_of held revision)) ≡ merged held revision room
          by-test true e = rw (enough-number, e) refl
          by-test false e = rw (enough-number, e) refl

      pub merged-settled : {r : Merged}
          → r ≡ settled_by (judge_of (merge_of held revision)) (length (merge_of held revision)) → r ≡ merged held revision room
      merged-settled e = e ∙ answer-settled

    buffer-settled : (out : List ℕ) → ltb (length out) (length held + length revision) ≡ false
        → kept_by (judge_of (merge_of held revision)) (merge_of held revision ++ drop (length (merge_of held revision)) out)
        (length (merge_of held revision))
        ≡ merged_into held revision out
    unfolding kept_by merged_into
    buffer-settled out enough = by-test (is_refused (judge_of m)) refl
      where
        by-test : (t : Bool) → is_refused (judge_of (merge_of held revision)) ≡ t
            → kept_by (judge_of (merge_of held revision))
            (merge_of held revision ++ drop (length (merge_of held revision)) out) (length (merge_of held revision))
            ≡ merged_into held revision out
        by-test true e =
            rw (enough-number (length out) enough, e)
            (ap (λ (l : List ℕ). replicate (length m) 32 ++ l) (drop-append_seam m (drop (length m) out)))
        by-test false e = rw (enough-number (length out) enough, e) refl

    pub kept-settled : (out : List ℕ) → ltb (length out) (length held + length revision) ≡ false → {new : List ℕ}
        → new
        ≡ kept_by (judge_of (merge_of held revision)) (merge_of held revision ++ drop (length (merge_of held revision)) out)
        (length (merge_of held revision))
        → new ≡ merged_into held revision out
    kept-settled out enough e = e ∙ buffer-settled out enough
