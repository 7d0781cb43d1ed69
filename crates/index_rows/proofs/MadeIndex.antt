-- What making leaves in a slice with room for the rows; and that a refused entry has no rows.
-- Assumes nothing.
use Prim.Native.Nat.{ℕ, ◌*◌, ◌≤◌}
use mathlib.Core.Path.{◌≡◌, refl, ap, ◌∙◌}
use mathlib.Core.List.{List}
use borrow.Author.Tests.{eq-eqb, le-ltb}
use lib.ListN.{length, drop}
use lib.Seq.{take_at, drop_at}
use Rattle.paper_entry.specs.declared.types.Verdict.{Verdict}
use Rattle.paper_entry.specs.Judging.{judge_of, Accepted}
use Rattle.entry_walk.specs.First.{First, by_length, by_record, by_end, by_none}
use Rattle.entry_walk.proofs.FirstRefused.{refused_first}
use Rattle.paper_index.specs.Rows.{index_of}
use Rattle.paper_index.specs.Making.{rows_in, making_refusal, made}
use Rattle.paper_index.proofs.Made.{index-stored}
use Rattle.index_rows.specs.Index.{IndexMade, RefusedRows}
use Rattle.index_rows.proofs.Found.{index-length}

not-refused : (s : List ℕ) (numbers : ℕ) → Accepted s → 5 * rows_in s ≤ numbers → making_refusal s numbers ≡ 0
not-refused s numbers a h = rw (eq-eqb (judge_of s).refusal 0 a, le-ltb numbers (5 * rows_in s) h)

pub index-made : IndexMade
unfolding made
index-made s t a h =
    let e = not-refused s (length t) a h in
    let long = index-length s a in
    let past = drop (length (index_of s)) t in (
      rw e,
      record {
        rows = rw (← index-stored s t e) (take_at (index_of s) past (5 * rows_in s) long);
        past =
            rw (← index-stored s t e)
            (drop_at (index_of s) past (5 * rows_in s) long ∙ ap (λ (k : ℕ). drop k t) long);
      },
    )

none-refused : (s : List ℕ) (v : Verdict) → First s v → (v.refusal ≡ 0 → ⊥) → v.totals.subentries ≡ 0
none-refused s v (by_length e) h = refl
none-refused s v (by_record i n k f) h = refl
none-refused s v (by_end f d) h = refl
none-refused s v (by_none f d) h = absurd (h refl)

pub refused-rows : RefusedRows
refused-rows s h = none-refused s (judge_of s) (refused_first s) h
