-- What the code's loop keeps: it has come to a record of an accepted entry, and the buffer holds the copy up to there.
-- Assumes nothing.
use Prim.Native.Nat.{ℕ, ◌+◌, ◌-◌, ◌*◌, ◌/◌, ◌<◌, ◌≤◌}
use mathlib.Core.Path.{◌≡◌, refl, sym, ◌∙◌, ap}
use mathlib.Core.List.{List}
use native.Mathlib.Omega.{arith}
use lib.ListN.{length, take, drop, length-drop, take-append-drop}
use lib.Seq.{paste, paste-zero, length-take-le, take_all, take-take}
use Rattle.laws.specs.Blocks.{block_at}
use Rattle.paper_copy.specs.Replaced.{replaced, mask}
use Rattle.paper_record.specs.Columns.{Whole}
use Rattle.paper_rules.specs.Limits.{MOST-RECORDS}
use Rattle.entry_step.specs.declared.step.Judge.{Judge}
use Rattle.entry_step.specs.declared.pass.Passed.{Passed}
use Rattle.paper_entry.specs.Judging.{Accepted}
use Rattle.entry_step.specs.ByRanges.{start_judge}
use Rattle.paper_entry.specs.Contexts.{context_at}
use Rattle.entry_step.specs.Pass.{Walking, PassedAt}
use Rattle.entry_ranges.proofs.Following.{range-kept}
use Rattle.paper_entry.proofs.Lengths.{whole-records}
use Rattle.entry_step.proofs.Walking.{walking_start, track-stands, context-stands, records-passed, walking-placed}
use Rattle.paper_rules.specs.State.{Context}
use Rattle.paper_rules.specs.Ranging.{Placed}
use Rattle.paper_rules.specs.declared.types.Range.{Range}
use Rattle.paper_rules.specs.Parts.{bytes_of, Lent}
use Rattle.rules_flags.specs.Lent.{WholeRecords}
use Rattle.rules_flags.proofs.Headings.{records-of}
use Rattle.paper_copy.specs.CopyField.{number_in, copy_field}
use Rattle.paper_copy.specs.Copy.{copy_record, copy_of}
use Rattle.paper_copy.specs.Call.{copied_into}
use Rattle.paper_copy.specs.Storing.{Room}
use Rattle.paper_copy.proofs.Demand.{passed, copy-long}
use Rattle.laws.proofs.Pasted.{paste_more}
use Rattle.paper_copy.proofs.RecordCopied.{record-copied}
use Rattle.paper_copy.proofs.CopiedBlocks.{copied-block}

-- the loop over n records has come to the record with the index i
pub record Copied (s lent : List ℕ) (n : ℕ) (j : Judge) (out : List ℕ) (i : ℕ) : Type 0 where
  pub accepted : Accepted s
  pub whole : length s ≡ n * 81
  pub few : n ≤ MOST-RECORDS
  pub fits : length s ≤ length lent
  pub long : length out ≡ length lent
  pub walking : Walking j s i
  pub same : out ≡ paste lent 0 (copy_of s) (i * 81)

pub copied-start : (s lent : List ℕ) → Room s lent → Copied s lent (length s / 81) start_judge lent 0
copied-start s lent h =
    let p = passed s h.accepted in
    let g = whole-records (length s) p.good in
    record {
      accepted = h.accepted;
      whole = g.0;
      few = g.1;
      fits = h.room;
      long = refl;
      walking = walking_start s p.good;
      same = paste-zero lent 0 (copy_of s);
    }

-- the record in hand, as the code takes it
abbrev record_at : List ℕ → ℕ → List ℕ
record_at s i = take (i * 81 + 81 - i * 81) (drop (i * 81) s)

record-at : (s : List ℕ) (i : ℕ) → record_at s i ≡ block_at 81 s i
record-at s i = let e : i * 81 + 81 - i * 81 ≡ 81 = omega arith in rw e

-- a range of records among the first i, in all bytes and in those before
bytes-before : (s : List ℕ) (g : Range) (i : ℕ) → length (take (i * 81) s) ≡ i * 81 → Placed g i
    → bytes_of s g ≡ bytes_of (take (i * 81) s) g
bytes-before s g i long p =
    ap (λ (x : List ℕ). bytes_of x g) (sym (take-append-drop (i * 81) s))
    ∙ range-kept (take (i * 81) s) (drop (i * 81) s) i long g p

-- one record more behind the copy of the first i
next-pasted : (s lent : List ℕ) (i : ℕ) → Accepted s → i < length s / 81
    → paste (paste lent 0 (copy_of s) (i * 81)) (i * 81) (copy_record (context_at s i) (block_at 81 s i)) 81
    ≡ paste lent 0 (copy_of s) ((i + 1) * 81)
next-pasted s lent i f l =
    let long = copy-long s (passed s f) in
    let new = copy_record (context_at s i) (block_at 81 s i) in
    let z : 0 + i * 81 ≡ i * 81 = omega arith in
    let e : i * 81 + 81 ≡ (i + 1) * 81 = omega arith in
    let same : take 81 new ≡ take 81 (drop (i * 81) (copy_of s)) =
    ap (take 81) (sym (copied-block s f i l)) ∙ take-take 81 81 (drop (i * 81) (copy_of s)) (omega arith) in
    ap (λ (at : ℕ). paste (paste lent 0 (copy_of s) (i * 81)) at new 81) (sym z)
    ∙ paste_more lent (copy_of s) new 0 (i * 81) 81 (omega arith) (omega arith) same
    ∙ ap (λ (m : ℕ). paste lent 0 (copy_of s) m) e

module _ {s lent : List ℕ} {n : ℕ} {j : Judge} {out : List ℕ} {i : ℕ} (k : Copied s lent n j out i) where
  pub copied-done : n ≤ i → out ≡ copied_into s lent
  copied-done h =
      let w = k.whole in
      let u = k.walking.upto in
      let e : i * 81 ≡ length s = omega arith in
      let long = copy-long s (passed s k.accepted) in
      let z : 0 + length s ≡ length s = omega arith in
      k.same ∙ rw (e, z, take_all (length s) (copy_of s) (omega arith))

  module _ (less : i < n) where
    pub copied-there : i < length s / 81
    copied-there = let w = k.whole in omega arith

    pub copied-whole : Whole (record_at s i)
    copied-whole =
        let w = k.whole in
        rw (record-at s i) (record { long = length-take-le 81 (drop (i * 81) s) (simp length-drop (omega arith)) })

    -- the heading records of the table in hand: whole records, and those that are seen there
    placed : Placed j.ranges.table i
    placed = rw (records-passed k.walking) at (walking-placed k.walking).table

    pub copied-lent : Lent s j.ranges.table
    copied-lent =
        let w = k.whole in
        let p = placed in
        let b = p.below in
        record { ordered = p.ordered; within = omega arith }

    pub copied-records : WholeRecords (bytes_of s j.ranges.table)
    copied-records = records-of s j.ranges.table copied-lent

    copied-table : bytes_of s j.ranges.table ≡ (context_at s i).seen.table
    copied-table =
        let w = k.whole in
        bytes-before s j.ranges.table i (length-take-le (i * 81) s (omega arith)) placed
        ∙ ap (λ (c : Context). c.seen.table) (context-stands k.walking)

    -- a record that is passed and stored
    pub copied_next : (x : Passed) → PassedAt x s i → (new : List ℕ)
        → new ≡ paste out (i * 81)
        (replaced copy_field (mask (number_in (bytes_of s j.ranges.table) j.track x.role) 0 6) (record_at s i)) 81
        → length new ≡ length out → Copied s lent n x.next new (i + 1)
    copied_next x p new e long =
        let role = ap (λ (y : Passed). y.role) p.same in
        let stored = record-copied (context_at s i) (block_at 81 s i) j.track (bytes_of s j.ranges.table) x.role
        (track-stands k.walking) copied-table role in
        record {
          accepted = k.accepted;
          whole = k.whole;
          few = k.few;
          fits = k.fits;
          long = long ∙ k.long;
          walking = p.walking;
          same =
              e
              ∙ rw (record-at s i, stored, k.same) (next-pasted s lent i k.accepted copied-there);
        }
