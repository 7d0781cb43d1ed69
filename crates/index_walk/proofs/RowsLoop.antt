-- What the code's loop keeps: it has come to a record of an accepted entry, and the slice holds the rows of the subentries
-- that are open there, as they are noted so far. Assumes nothing.
use Prim.Native.Nat.{ℕ, suc, ◌+◌, ◌-◌, ◌*◌, ◌/◌, ◌<◌, ◌≤◌}
use mathlib.Core.Path.{◌≡◌, refl, sym, ◌∙◌, ap}
use mathlib.Core.Bool.{Bool, true, false, cond, ◌||◌}
use mathlib.Core.List.{List}
use native.Mathlib.Omega.{arith}
use native.Mathlib.Numerals.{add-one}
use lib.ListN.{length, length-append}
use lib.Seq.{paste}
use Rattle.laws.proofs.Booleans.{or-either}
use Rattle.paper_record.specs.Places.{record_of}
use Rattle.paper_record.specs.declared.types.RecordNo.{RecordNo}
use Rattle.paper_rules.specs.Limits.{MOST-RECORDS}
use Rattle.paper_rules.specs.Roles.{opens_subentry, opens_section}
use Rattle.paper_entry.specs.Judging.{Accepted}
use Rattle.paper_entry.specs.Contexts.{context_at, role_at}
use Rattle.paper_entry.proofs.Lengths.{accepted-good, whole-records}
use Rattle.entry_walk.proofs.AcceptedWalk.{walked}
use Rattle.entry_walk.proofs.Contexts.{records-at}
use Rattle.paper_questions.specs.declared.types.Row.{Row}
use Rattle.paper_questions.specs.Row.{empty_row, noted_in}
use Rattle.paper_questions.specs.Located.{row_at, row_of}
use Rattle.paper_questions.specs.Place.{fields_at, identifier_at}
use Rattle.paper_index.specs.Rows.{opened_to, rows_for, row_numbers, index_of}
use Rattle.paper_index.specs.Making.{over}
use Rattle.paper_index.proofs.RowLists.{rows-length, rows_same}
use Rattle.paper_index.proofs.Stored.{over-more, over-again}
use Rattle.index_rows.specs.Walk.{in_hand, rows_to}
use Rattle.index_rows.proofs.Opened.{opened-length, opened-rises, opened-more, opened-same, hand-more, hand-same}
use Rattle.index_rows.proofs.Opened.{last-in-hand, opened-start, by-opening}
use Rattle.index_rows.proofs.RowsWalked.{row-noted, row_plain, row_new, rows_more, rows_last, rows_before}
use Rattle.index_rows.proofs.RowsWalked.{rows-plain, section-open, rows-done}
use Rattle.index_noted.specs.Noting.{is_noted, row_behind, stored_behind, RoomBehind}
use Rattle.system_records.specs.Next.{DueAt, records_inside, hand_behind}
use Rattle.system_records.proofs.RowFollowed.{row-begun, same-role, hand-then, due-there, hand-there, row-there, opened-there}
use Rattle.index_walk.specs.Room.{IndexRoom, rows_behind}

-- the loop over n records has come to the system record with the index i, behind so many subentries
pub record Storing (s lent : List ℕ) (n hand rows : ℕ) (out : List ℕ) (row : Row) (i : ℕ) : Type 0 where
  pub given : IndexRoom s lent
  pub count : n ≡ length s / 81
  pub few : n ≤ MOST-RECORDS
  pub long : length out ≡ length lent
  pub due : DueAt s i
  pub in-hand : hand ≡ in_hand s i
  pub rows_are : rows ≡ length (opened_to s i)
  pub rows_few : rows ≤ i
  pub row_is : row ≡ row_at s (in_hand s i) i
  pub same : out ≡ over (rows_to s i) lent

none-opened : (s lent : List ℕ) → lent ≡ over (rows_to s 0) lent
unfolding opened_to rows_for
none-opened s lent = refl

none-in-hand : (s : List ℕ) → empty_row 0 ≡ row_at s (in_hand s 0) 0
unfolding context_at row_at
none-in-hand s = refl

pub storing-start : (s lent : List ℕ) → IndexRoom s lent → Storing s lent (length s / 81) 0 0 lent (empty_row 0) 0
storing-start s lent h =
    let good = accepted-good s h.accepted in
    record {
      given = h;
      count = refl;
      few = (whole-records (length s) good).1;
      long = refl;
      due = (row-begun s 0).due;
      in-hand = (row-begun s 0).in-hand;
      rows_are = sym (ap length (opened-start s));
      rows_few = omega arith;
      row_is = none-in-hand s;
      same = none-opened s lent;
    }

-- ---- the row in hand

module _ (s : List ℕ) (a : Accepted s) (i : ℕ) (h : i < length s / 81) where
  abbrev at : RecordNo
  at = record_of (context_at s i).track.records

  new_row : opens_subentry (role_at s i) ≡ true
      → noted_in (empty_row (in_hand s (suc i))) (in_hand s (suc i)) (role_at s i) at ≡ row_at s (in_hand s (suc i)) (suc i)
  new_row o =
      let n = length s / 81 in
      let w = walked s a in
      let x = hand-more s n w (omega arith) i h o in
      let b = x.1 in
      let c = x.0 in
      sym
      (row-noted s n w (omega arith) (in_hand s (suc i)) i h
      ∙ rw (row_new s n w (omega arith) (in_hand s (suc i)) i (omega arith) (omega arith)))

  same_row : opens_subentry (role_at s i) ≡ false
      → noted_in (row_at s (in_hand s i) i) (in_hand s (suc i)) (role_at s i) at ≡ row_at s (in_hand s (suc i)) (suc i)
  same_row o =
      let n = length s / 81 in
      let w = walked s a in
      let e = hand-same s n w (omega arith) i h o in
      rw e (rw e at (sym (row-noted s n w (omega arith) (in_hand s i) i h)))

  row-behind : row_behind (row_at s (in_hand s i) i) (in_hand s (suc i)) (role_at s i) at ≡ row_at s (in_hand s (suc i)) (suc i)
  unfolding row_behind
  row-behind = by_tests (opens_subentry (role_at s i)) refl (opens_section (role_at s i)) refl
    where
      by_tests : (b : Bool) → opens_subentry (role_at s i) ≡ b → (c : Bool) → opens_section (role_at s i) ≡ c
          → cond (c || b)
          (noted_in (cond b (empty_row (in_hand s (suc i))) (row_at s (in_hand s i) i)) (in_hand s (suc i)) (role_at s i) at)
          (row_at s (in_hand s i) i)
          ≡ row_at s (in_hand s (suc i)) (suc i)
      by_tests true o true e = new_row o
      by_tests true o false e = new_row o
      by_tests false o true e = same_row o
      by_tests false o false e =
          let n = length s / 81 in
          let w = walked s a in
          rw (hand-same s n w (omega arith) i h o) (sym (row_plain s n w (omega arith) (in_hand s i) i o e))

-- ---- the slice

-- so many rows before the last
last-place : (f : ℕ → Row) (xs : List ℕ) (rows : ℕ) → length xs + 1 ≡ rows → (rows - 1) * 5 ≡ length (rows_for f xs)
last-place f xs rows e = let l = rows-length f xs in omega arith

module _ (s : List ℕ) (a : Accepted s) (i : ℕ) (h : i < length s / 81) where
  abbrev rows : ℕ
  rows = (context_at s (suc i)).track.totals.subentries

  abbrev row : Row
  row = row_at s (in_hand s (suc i)) (suc i)

  -- there is room for the rows that are open behind a record
  rows-room : (t : List ℕ) → length (index_of s) ≤ length t → rows * 5 ≤ length t
  unfolding index_of
  rows-room t l =
      let n = length s / 81 in
      let u = opened-rises s (suc i) (n - suc i) in
      let z : suc i + (n - suc i) ≡ n = omega arith in
      let v = rw z at u in
      let k = rows-length (row_of s) (opened_to s n) in
      let m = opened-length s (suc i) in
      omega arith

  some-row : is_noted (role_at s i) ≡ true → 1 ≤ rows
  some-row e =
      let n = length s / 81 in
      let w = walked s a in
      let m = opened-length s (suc i) in
      or-either (opens_section (role_at s i)) (opens_subentry (role_at s i)) e
      (λ o.
      let b = section-open s n w (omega arith) i h o in
      let c = opened-rises s i 1 in
      let d = rw (add-one i) at c in
      omega arith)
      (λ o. let long = ap length (opened-more s i o) ∙ length-append (opened_to s i) _ in omega arith)

  module _ (lent : List ℕ) where
    store-new : opens_subentry (role_at s i) ≡ true
        → paste (over (rows_to s i) lent) ((rows - 1) * 5) (row_numbers row) 5 ≡ over (rows_to s (suc i)) lent
    store-new o =
        let n = length s / 81 in
        let w = walked s a in
        let long = ap length (opened-more s i o) ∙ length-append (opened_to s i) _ in
        let place = last-place (λ m. row_at s m i) (opened_to s i) rows (sym long ∙ opened-length s (suc i)) in
        rw (rows_more s n w (omega arith) i h o, place) (over-more (rows_to s i) lent row)

    store-last : opens_subentry (role_at s i) ≡ false → opens_section (role_at s i) ≡ true
        → paste (over (rows_to s i) lent) ((rows - 1) * 5) (row_numbers row) 5 ≡ over (rows_to s (suc i)) lent
    store-last o e =
        let n = length s / 81 in
        let w = walked s a in
        let (ms, f) = last-in-hand s n w (omega arith) i (omega arith) (section-open s n w (omega arith) i h e) in
        let long = ap length (opened-same s i o ∙ f) ∙ length-append ms _ in
        let place = last-place (λ m. row_at s m i) ms rows (sym long ∙ opened-length s (suc i)) in
        rw (rows_last s n w (omega arith) i h o ms f, rows_before s n w (omega arith) i ms f, place)
        (over-again (rows_for (λ m. row_at s m i) ms) lent row (row_at s (in_hand s i) i))

    stored-behind : stored_behind (over (rows_to s i) lent) rows row (role_at s i) ≡ over (rows_to s (suc i)) lent
    unfolding stored_behind
    stored-behind = by_tests (opens_subentry (role_at s i)) refl (opens_section (role_at s i)) refl
      where
        by_tests : (b : Bool) → opens_subentry (role_at s i) ≡ b → (c : Bool) → opens_section (role_at s i) ≡ c
            → cond (c || b) (paste (over (rows_to s i) lent) ((rows - 1) * 5) (row_numbers row) 5) (over (rows_to s i) lent)
            ≡ over (rows_to s (suc i)) lent
        by_tests true o true e = store-new o
        by_tests true o false e = store-new o
        by_tests false o true e = store-last o e
        by_tests false o false e =
            let n = length s / 81 in
            rw (rows-plain s n (walked s a) (omega arith) i o e)

-- ---- a turn

-- one more where the record opens a subentry
opened-behind : (s : List ℕ) (i rows : ℕ) → rows ≡ length (opened_to s i)
    → rows_behind (role_at s i) rows ≡ length (opened_to s (suc i))
unfolding rows_behind
opened-behind s i rows e =
    by-opening s i (rows_behind (role_at s i) rows ≡ length (opened_to s (suc i)))
    (λ o. rw (o, opened-more s i o, length-append (opened_to s i) _) (omega (arith, e)))
    (λ o. rw (o, opened-same s i o) e)

one_more : (identifier rows : ℕ) → rows_behind identifier rows ≤ rows + 1
unfolding rows_behind
one_more identifier rows = by-test (opens_subentry identifier)
  where
    by-test : (b : Bool) → cond b (rows + 1) rows ≤ rows + 1
    by-test true = omega arith
    by-test false = omega arith

module _ {s lent : List ℕ} {n hand rows : ℕ} {out : List ℕ} {row : Row} {i : ℕ}
    (k : Storing s lent n hand rows out row i) where
  pub storing-there : i < n → i < length s / 81
  storing-there h = let e = k.count in omega arith

  module _ (less : i < n) where
    abbrev here : RecordNo
    here = record { 0 = i + 1 }

    abbrev identifier : ℕ
    identifier = identifier_at s here

    abbrev hand-behind : ℕ
    hand-behind = hand_behind identifier (fields_at s here) hand

    abbrev there : ℕ
    there = i + 1 + records_inside identifier (fields_at s here)

    h : i < length s / 81
    h = storing-there less

    a : Accepted s
    a = k.given.accepted

    role_is : role_at s i ≡ identifier
    role_is = same-role s a i hand k.due k.in-hand h

    rows_behind_lem : rows_behind identifier rows ≡ (context_at s (suc i)).track.totals.subentries
    rows_behind_lem = rw (← role_is) (opened-behind s i rows k.rows_are ∙ opened-length s (suc i))

    pub storing-room : RoomBehind out (rows_behind identifier rows) identifier
    storing-room =
        let l = k.long in
        let r = k.given.room in
        rw (rows_behind_lem, ← role_is)
        (record { some = some-row s a i h; fits = λ e. rows-room s a i h out (omega arith) })

    pub storing-next : (next : Row) → next ≡ row_behind row hand-behind identifier here
        → (new : List ℕ) → new ≡ stored_behind out (rows_behind identifier rows) next identifier
        → length new ≡ length out
        → Storing s lent n hand-behind (rows_behind identifier rows) new next there
    storing-next next next-is new New-is long =
        let hand-is = hand-then s a i hand k.due k.in-hand h in
        let hand-same = hand-there s a i hand k.due k.in-hand h in
        let opened-same = opened-there s a i hand k.due k.in-hand h in
        let row_same = row-there s a i hand k.due k.in-hand h in
        let few = one_more identifier rows in
        let before = k.rows_few in
        let place : record_of (context_at s i).track.records ≡ here = rw (records-at s i) refl in
        let row-then : next ≡ row_at s (in_hand s (suc i)) (suc i) =
        next-is ∙ rw (← hand-is, ← role_is, k.row_is) (rw place at (row-behind s a i h)) in
        record {
          given = k.given;
          count = k.count;
          few = k.few;
          long = long ∙ k.long;
          due = due-there s a i hand k.due k.in-hand h;
          in-hand = sym (hand-same ∙ hand-is);
          rows_are = rows_behind_lem ∙ sym (ap length opened-same ∙ opened-length s (suc i));
          rows_few = omega arith;
          row_is = row-then ∙ sym (row_same _) ∙ ap (λ (m : ℕ). row_at s m there) (sym hand-same);
          same = New-is
              ∙ rw (rows_behind_lem, ← role_is, row-then, k.same) (stored-behind s a i h lent)
              ∙ ap (λ (xs : List ℕ). over xs lent) (sym (rows-kept opened-same row_same));
        }
      where
        rows-kept : opened_to s there ≡ opened_to s (suc i) → ((m : ℕ) → row_at s m there ≡ row_at s m (suc i))
            → rows_to s there ≡ rows_to s (suc i)
        rows-kept e f =
            rw e (rows_same (λ m. row_at s m there) (λ m. row_at s m (suc i)) (opened_to s (suc i)) (λ j l. f _))

  pub storing-done : n ≤ i → out ≡ over (index_of s) lent
  storing-done h =
      let e = k.count in
      let u = k.due.there in
      let z : i ≡ length s / 81 = omega arith in
      k.same ∙ rw (z, rows-done s k.given.accepted)
