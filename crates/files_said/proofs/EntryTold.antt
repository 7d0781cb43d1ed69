-- Where an entry begins in a file: it is refused, it does not end, or it is accepted and the file goes on behind it.
-- Assumes nothing.
use Prim.Native.Nat.{ℕ, ◌+◌, ◌-◌, ◌*◌, ◌/◌, ◌<◌, ◌≤◌}
use mathlib.Core.Path.{◌≡◌, refl, sym, ◌∙◌, ap, subst}
use mathlib.Core.Bool.{Bool, true, false}
use mathlib.Core.List.{List}
use native.Mathlib.Omega.{arith}
use lib.ListN.{length}
use lib.Seq.{take_all}
use Rattle.laws.specs.Blocks.{block_at}
use Rattle.laws.proofs.Search.{either}
use Rattle.paper_record.specs.Identifier.{ENTRY}
use Rattle.paper_rules.specs.Limits.{MOST-RECORDS}
use Rattle.laws.proofs.EitherWay.{no}
use Rattle.paper_entry.specs.declared.types.Verdict.{Verdict}
use Rattle.paper_entry.specs.Verdict.{refused, is_done}
use Rattle.paper_entry.specs.Judging.{judge_of, Accepted}
use Rattle.paper_entry.specs.Contexts.{context_at}
use Rattle.entry_walk.specs.First.{NothingBefore, FirstAt, First, by_length, by_record, by_end, by_none}
use Rattle.entry_walk.proofs.FirstRefused.{refused_first}
use Rattle.entry_walk.proofs.FirstAlone.{first_alone}
use Rattle.paper_entry.proofs.Lengths.{of-whole}
use Rattle.below.specs.Below.{Agrees, RecordsWhole}
use Rattle.below.proofs.Agree.{nothing-agree, cut-agree}
use Rattle.below.proofs.Below.{least-numbered, first-agree}
use Rattle.below.proofs.Behind.{behind-end}
use Rattle.paper_files.specs.File.{name_of, file_length_good}
use Rattle.files_shape.specs.Shape.{Begun}
use Rattle.files_said.specs.Said.{cut, record_at, There, FileSaid, in_entry, full, no_endentry}
use Rattle.files_said.proofs.Inside.{done-some}
use Rattle.files_said.proofs.Cuts.{cut-long, cut-count, cut-back, cut-accepted, accepted-cut}

-- something is said of the file
abbrev pub Told : List ℕ → Type 0
Told s = (v : Verdict) × FileSaid s v

module _ (s : List ℕ) (es : List (List ℕ)) (rest : List ℕ) (good : file_length_good (length s) ≡ true)
    (b : Begun s es rest) (begins : name_of (record_at rest 0) ≡ ENTRY)
    (next : (i : ℕ) → 0 < i → There rest i → Accepted (cut i rest) → Told s) where
  -- the first m records, which are enough to tell
  module _ (m : ℕ) (some : 1 ≤ m) (few : m ≤ MOST-RECORDS) (there : There rest m)
      (last : (judge_of (cut m rest)).refusal ≡ 16 → Told s) where
    -- what is first in them is first in those up to it
    refused-alone : (i n k : ℕ) → i + 1 ≤ m → FirstAt (cut m rest) i n k
        → judge_of (cut (i + 1) rest) ≡ refused n (record { 0 = i + 1 }) k
    refused-alone i n k l first =
        let part = cut (i + 1) rest in
        let inside : There rest (i + 1) = omega arith in
        let whole : RecordsWhole (length part) = record {
          records = i + 1;
          some = omega arith;
          most = omega arith;
          whole = cut-long rest (i + 1) inside;
        } in
        let agrees : Agrees (i + 1) (cut m rest) part =
        λ j h. cut-agree rest (i + 1) inside j h ∙ sym (cut-agree rest m there j (omega arith)) in
        sym (first_alone part (refused n (record { 0 = i + 1 }) k)
        (by_record i n k (first-agree (cut m rest) part i n k first whole agrees)))

    -- a record at fault: the entry may have ended before it
    at-record : (i n k : ℕ) → i + 1 ≤ m → FirstAt (cut m rest) i n k → Told s
    at-record i n k l first = by-test (is_done (context_at rest i).phase) refl
      where
        none : NothingBefore rest i
        none = nothing-agree i (cut m rest) rest (cut-back rest m there i (omega arith)) first.earlier

        by-test : (d : Bool) → is_done (context_at rest i).phase ≡ d → Told s
        by-test true q =
            next i (done-some rest i q) (omega arith) (cut-accepted rest i (omega arith) (omega arith) none q)
        by-test false q =
            let back : i + 1 - 1 ≡ i = omega arith in (
              _,
              in_entry es rest (i + 1) n k good b (omega arith) begins
                  (least-numbered (context_at (cut m rest) i) (block_at 81 (cut m rest) i) n k first.least)
                  (λ a. no (sym q ∙ accepted-cut rest i (omega arith)
                  (subst (λ (x : ℕ). Accepted (cut x rest)) back a)))
                  (refused-alone i n k l first),
            )

    by_first : (v : Verdict) → First (cut m rest) v → v ≡ judge_of (cut m rest) → Told s
    by_first v (by_length e) q = no (sym e ∙ of-whole (length (cut m rest)) m (cut-long rest m there) some few)
    by_first v (by_record i n k first) q =
        let h = first.there in
        let count = cut-count rest m there in
        at-record i n k (omega arith) first
    by_first v (by_end a e) q = last (ap (λ (x : Verdict). x.refusal) (sym q))
    by_first v (by_none a e) q = next m (omega arith) there (ap (λ (x : Verdict). x.refusal) (sym q))

    told : Told s
    told = by_first (judge_of (cut m rest)) (refused_first (cut m rest)) refl

  -- all of them, or as many as an entry may have
  pub entry-told : 81 ≤ length rest → length rest ≡ length rest / 81 * 81 → Told s
  entry-told some whole =
      either MOST-RECORDS (length rest / 81)
      (λ h.
      let r = record_at rest MOST-RECORDS in
      let e = behind-end r in
      told MOST-RECORDS (omega arith) (omega arith) (omega arith)
      (λ q. (_, full es rest e.number e.column good b (omega arith) q e.said)))
      (λ h.
      let m = length rest / 81 in
      let all : cut m rest ≡ rest = take_all (m * 81) rest (omega arith) in
      told m (omega arith) (omega arith) (omega arith)
      (λ q. (_, no_endentry es rest good b (ap (λ (x : List ℕ). (judge_of x).refusal) (sym all) ∙ q))))
