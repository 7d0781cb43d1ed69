-- The row of a subentry in an accepted entry, noted from system record to system record.
-- Assumes nothing.
use Prim.Native.Nat.{ℕ, suc, ◌+◌, ◌*◌, ◌/◌, ◌<◌, ◌≤◌}
use mathlib.Core.Path.{◌≡◌, refl, sym, ◌∙◌, ap}
use mathlib.Core.Bool.{true, false}
use mathlib.Core.List.{List, []}
use native.Mathlib.Omega.{arith}
use native.Mathlib.Numerals.{add-one}
use lib.ListN.{length, get_or}
use Rattle.laws.specs.Blocks.{block_at}
use Rattle.paper_record.specs.Places.{record_of}
use Rattle.paper_record.specs.Fields.{fields_of}
use Rattle.paper_record.specs.declared.types.RecordNo.{RecordNo}
use Rattle.paper_rules.specs.Roles.{opens_subentry}
use Rattle.paper_entry.specs.Judging.{Accepted}
use Rattle.paper_entry.specs.Contexts.{context_at, role_at}
use Rattle.entry_walk.proofs.AcceptedWalk.{walked}
use Rattle.entry_walk.proofs.Contexts.{records-at}
use Rattle.paper_questions.specs.declared.types.Row.{Row}
use Rattle.paper_questions.specs.Row.{empty_row, noted_in}
use Rattle.paper_questions.specs.Located.{row_at, row_of}
use Rattle.paper_questions.specs.Place.{fields_at, identifier_at}
use Rattle.paper_index.specs.Rows.{opened_to}
use Rattle.paper_questions.proofs.FoundRow.{found-row}
use Rattle.inside.proofs.RowWalked.{fields-at}
use Rattle.index_rows.proofs.Opened.{by-opening, hand-more, hand-same}
use Rattle.index_rows.proofs.RowsWalked.{row_first, row-noted}
use Rattle.system_records.specs.Next.{records_inside, hand_behind, system_due, DueAt, next_system, NextSystem, RowTo}
use Rattle.system_records.proofs.Following.{system-follows}

due-first : (s : List ℕ) → DueAt s 0
unfolding context_at system_due
due-first s = record { there = omega arith; due = refl }

none_first : (s : List ℕ) → (context_at s 0).track.subentry.number ≡ 0
unfolding context_at
none_first s = refl

pub row-begun : (s : List ℕ) (number : ℕ) → RowTo s number 0 0 (empty_row number)
row-begun s number =
    record { due = due-first s; in-hand = sym (none_first s); noted = sym (row_first s number) }

-- one system record and its section
module _ (s : List ℕ) (accepted : Accepted s) (i hand : ℕ) (due : DueAt s i)
    (in-hand : hand ≡ (context_at s i).track.subentry.number) (more : i < length s / 81) where
  abbrev at : RecordNo
  at = record { 0 = i + 1 }

  abbrev fs : List (List ℕ)
  fs = fields_at s at

  abbrev k : ℕ
  k = identifier_at s at

  -- where the next one stands
  abbrev there : ℕ
  there = i + 1 + records_inside k fs

  follows : NextSystem s i
  follows = system-follows s accepted i more due

  same-fields : fs ≡ fields_of (block_at 81 s i)
  same-fields = fields-at s i (omega arith) at (add-one i)

  pub same-role : role_at s i ≡ k
  same-role = follows.role ∙ rw same-fields

  there-is : next_system s i ≡ there
  there-is = rw same-fields refl

  pub hand-then : (context_at s (suc i)).track.subentry.number ≡ hand_behind k fs hand
  unfolding hand_behind
  hand-then =
      let w = walked s accepted in
      by-opening s i ((context_at s (suc i)).track.subentry.number ≡ hand_behind k fs hand)
      (λ o. (hand-more s (length s / 81) w (omega arith) i more o).0 ∙ rw (← same-role, o, same-fields) refl)
      (λ o. hand-same s (length s / 81) w (omega arith) i more o ∙ sym in-hand ∙ rw (← same-role, o) refl)

  pub due-there : DueAt s there
  due-there = rw there-is at follows.next

  pub hand-there : (context_at s there).track.subentry.number ≡ (context_at s (suc i)).track.subentry.number
  hand-there =
      rw there-is at follows.hand ∙ ap (λ (j : ℕ). (context_at s j).track.subentry.number) (add-one i)

  pub row-there : (number : ℕ) → row_at s number there ≡ row_at s number (suc i)
  row-there number = rw there-is at (follows.row number) ∙ ap (row_at s number) (add-one i)

  pub opened-there : opened_to s there ≡ opened_to s (suc i)
  opened-there = rw there-is at follows.opened ∙ ap (opened_to s) (add-one i)

-- what it leaves in a row
module _ (s : List ℕ) (accepted : Accepted s) (number i hand : ℕ) (x : Row) (before : RowTo s number i hand x)
    (more : i < length s / 81) where
  abbrev here : RecordNo
  here = record { 0 = i + 1 }

  row-then : row_at s number (suc i)
      ≡ noted_in x (hand_behind (identifier_at s here) (fields_at s here) hand) (identifier_at s here) here
  row-then =
      let h = hand-then s accepted i hand before.due before.in-hand more in
      let r = same-role s accepted i hand before.due before.in-hand more in
      row-noted s (length s / 81) (walked s accepted) (omega arith) number i more
      ∙ rw (h, r, records-at s i, before.noted) refl

  pub row-followed : RowTo s number (i + 1 + records_inside (identifier_at s here) (fields_at s here))
      (hand_behind (identifier_at s here) (fields_at s here) hand)
      (noted_in x (hand_behind (identifier_at s here) (fields_at s here) hand) (identifier_at s here) here)
  row-followed =
      let d = before.due in
      let e = before.in-hand in
      record {
        due = due-there s accepted i hand d e more;
        in-hand = sym (hand-there s accepted i hand d e more ∙ hand-then s accepted i hand d e more);
        noted = sym (row-there s accepted i hand d e more number ∙ row-then);
      }

-- behind the last record
pub row-ended : (s : List ℕ) → Accepted s → (number i hand : ℕ) (x : Row) → RowTo s number i hand x
    → length s / 81 ≤ i → x ≡ row_of s number
row-ended s accepted number i hand x r e =
    let there = r.due.there in
    let z : i ≡ length s / 81 = omega arith in
    r.noted ∙ ap (row_at s number) z ∙ sym (found-row s number accepted)
