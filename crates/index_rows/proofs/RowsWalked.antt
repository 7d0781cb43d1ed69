-- What a record leaves in the rows of the subentries that are open, on the way over an accepted entry: a row more, the
-- last row anew, or nothing; and behind the last record they are the index. Assumes nothing.
use Prim.Native.Nat.{ℕ, zero, suc, ◌+◌, ◌*◌, ◌-◌, ◌/◌, ◌<◌, ◌≤◌}
use mathlib.Core.Path.{◌≡◌, refl, sym, ap, ◌∙◌}
use mathlib.Core.Bool.{Bool, true, false, cond}
use mathlib.Core.List.{List, [], ◌∷◌, ◌++◌}
use native.Mathlib.Omega.{arith}
use borrow.Author.Tests.{eqb-true, ne_eqb}
use lib.Dec.{eqb}
use lib.ListN.{length, get_or, length-append}
use Rattle.laws.specs.Blocks.{block_at}
use Rattle.laws.proofs.Booleans.{or_left, or_right, or-either}
use Rattle.paper_record.specs.Fields.{fields_of}
use Rattle.paper_record.specs.Identifier.{BIB, COMMON, DATA}
use Rattle.paper_record.specs.Places.{record_of}
use Rattle.paper_record.specs.declared.types.RecordNo.{RecordNo}
use Rattle.paper_rules.specs.Roles.{opens_subentry, opens_section}
use Rattle.paper_entry.specs.Judging.{Accepted}
use Rattle.paper_entry.specs.Contexts.{context_at, role_at}
use Rattle.entry_walk.proofs.AcceptedWalk.{Walked}
use Rattle.paper_questions.specs.declared.types.Row.{Row}
use Rattle.paper_questions.specs.Row.{empty_row, noted, noted_in}
use Rattle.paper_questions.specs.Located.{subentry_in, noted_as, row_at, row_of}
use Rattle.paper_questions.proofs.FoundRow.{found-row}
use Rattle.inside.proofs.Nesting.{rank}
use Rattle.inside.proofs.RowFound.{nested-at}
use Rattle.inside.proofs.RowWalked.{number-of, row_next}
use Rattle.paper_index.specs.Rows.{number_at, opened_to, row_numbers, rows_for, index_of}
use Rattle.paper_index.proofs.RowLists.{rows-one, rows_same}
use Rattle.index_rows.specs.Walk.{in_hand, rows_to}
use Rattle.index_rows.proofs.Opened.{opened-more, opened-same, by-opening}
use Rattle.index_rows.proofs.Opened.{hand-more, hand-same, opened_up, others-smaller}

pub row_first : (s : List ℕ) (m : ℕ) → row_at s m 0 ≡ empty_row m
unfolding row_at
row_first s m = refl

rank-first : (s : List ℕ) → rank (context_at s 0).phase ≡ 0
unfolding context_at
rank-first s = refl

-- ---- a record in no row

-- of another subentry
other-number : (x : Row) (number role : ℕ) (at : RecordNo) → (number ≡ x.number → ⊥) → noted_in x number role at ≡ x
other-number x number role at h = rw (ne_eqb number x.number h)

-- that opens neither a subentry nor a section
other-role : (x : Row) (role : ℕ) (at : RecordNo) → opens_subentry role ≡ false → opens_section role ≡ false
    → noted x role at ≡ x
unfolding noted
other-role x role at o e =
    let f = or_right (eqb role BIB) _ e in
    rw (o, or_left (eqb role BIB) _ e, or_left (eqb role COMMON) _ f, or_right (eqb role COMMON) _ f)

either-row : (b : Bool) (x y : Row) → y ≡ x → cond b y x ≡ x
either-row true x y e = e
either-row false x y e = refl

module _ (s : List ℕ) (n : ℕ) (w : Walked s n) (fits : n * 81 ≤ length s) where
  -- the record is one of the subentry that is in hand behind it
  subentry-here : (i : ℕ) → i < n
      → subentry_in (context_at s i).track (role_at s i) (fields_of (block_at 81 s i)) ≡ in_hand s (suc i)
  unfolding subentry_in
  subentry-here i h =
      by-opening s i
      (subentry_in (context_at s i).track (role_at s i) (fields_of (block_at 81 s i)) ≡ in_hand s (suc i))
      (λ o. rw o (sym (hand-more s n w fits i h o).0))
      (λ o. rw o (sym (hand-same s n w fits i h o)))

  -- as the code notes it, by the number in hand behind it
  pub row-noted : (m i : ℕ) → i < n
      → row_at s m (suc i) ≡ noted_in (row_at s m i) (in_hand s (suc i)) (role_at s i) (record_of (context_at s i).track.records)
  unfolding noted_as
  row-noted m i h = row_next s m i ∙ rw (subentry-here i h)

  pub row_kept : (m i : ℕ) → i < n → (in_hand s (suc i) ≡ m → ⊥) → row_at s m (suc i) ≡ row_at s m i
  row_kept m i h ne =
      row-noted m i h
      ∙ other-number (row_at s m i) (in_hand s (suc i)) (role_at s i) _ (λ e. ne (e ∙ number-of s m i))

  pub row_plain : (m i : ℕ) → opens_subentry (role_at s i) ≡ false → opens_section (role_at s i) ≡ false
      → row_at s m (suc i) ≡ row_at s m i
  unfolding noted_as
  row_plain m i o e =
      let t = (context_at s i).track in
      row_next s m i
      ∙ either-row (eqb (subentry_in t (role_at s i) (fields_of (block_at 81 s i))) (row_at s m i).number) (row_at s m i) _
      (other-role (row_at s m i) (role_at s i) (record_of t.records) o e)

  hand-rises : (i : ℕ) → i < n → in_hand s i ≤ in_hand s (suc i)
  hand-rises i h =
      by-opening s i (in_hand s i ≤ in_hand s (suc i))
      (λ o. let x = hand-more s n w fits i h o in let a = x.0 in let b = x.1 in omega arith)
      (λ o. let x = hand-same s n w fits i h o in omega arith)

  -- a number above the one in hand has no record yet
  pub row_new : (m i : ℕ) → i ≤ n → in_hand s i < m → row_at s m i ≡ empty_row m
  row_new m zero h l = row_first s m
  row_new m (suc i) h l =
      let r = hand-rises i (omega arith) in
      row_kept m i (omega arith) (λ e. omega arith) ∙ row_new m i (omega arith) (omega arith)

  -- ---- all rows

  -- SUBENT and NOSUBENT
  pub rows_more : (i : ℕ) → i < n → opens_subentry (role_at s i) ≡ true
      → rows_to s (suc i) ≡ rows_to s i ++ row_numbers (row_at s (in_hand s (suc i)) (suc i))
  rows_more i h o =
      let x = hand-more s n w fits i h o in
      let above = x.1 in
      let same : rows_for (λ m. row_at s m (suc i)) (opened_to s i) ≡ rows_to s i =
      rows_same (λ m. row_at s m (suc i)) (λ m. row_at s m i) (opened_to s i)
      (λ k l.
      let u = opened_up s n w fits i (omega arith) k l in
      let e = x.0 in
      row_kept (get_or (opened_to s i) k 0) i h (λ q. omega arith)) in
      rw (opened-more s i o, x.0)
      (rows-one (λ m. row_at s m (suc i)) (opened_to s i) (number_at s i)
      ∙ ap (λ (l : List ℕ). l ++ row_numbers (row_at s (number_at s i) (suc i))) same)

  -- a record of the subentry in hand, the last of these
  pub rows_last : (i : ℕ) → i < n → opens_subentry (role_at s i) ≡ false → (ms : List ℕ)
      → opened_to s i ≡ ms ++ (in_hand s i ∷ [])
      → rows_to s (suc i) ≡ rows_for (λ m. row_at s m i) ms ++ row_numbers (row_at s (in_hand s (suc i)) (suc i))
  rows_last i h o ms e =
      let f = hand-same s n w fits i h o in
      let same : rows_for (λ m. row_at s m (suc i)) ms ≡ rows_for (λ m. row_at s m i) ms =
      rows_same (λ m. row_at s m (suc i)) (λ m. row_at s m i) ms
      (λ k l.
      let u = others-smaller s n w fits i (omega arith) ms e k l in
      row_kept (get_or ms k 0) i h (λ q. omega arith)) in
      rw (opened-same s i o, e, f)
      (rows-one (λ m. row_at s m (suc i)) ms (in_hand s i)
      ∙ ap (λ (l : List ℕ). l ++ row_numbers (row_at s (in_hand s i) (suc i))) same)

  pub rows_before : (i : ℕ) (ms : List ℕ) → opened_to s i ≡ ms ++ (in_hand s i ∷ [])
      → rows_to s i ≡ rows_for (λ m. row_at s m i) ms ++ row_numbers (row_at s (in_hand s i) i)
  rows_before i ms e = rw e (rows-one (λ m. row_at s m i) ms (in_hand s i))

  -- another record
  pub rows-plain : (i : ℕ) → opens_subentry (role_at s i) ≡ false → opens_section (role_at s i) ≡ false
      → rows_to s (suc i) ≡ rows_to s i
  rows-plain i o e =
      rw (opened-same s i o)
      (rows_same (λ m. row_at s m (suc i)) (λ m. row_at s m i) (opened_to s i) (λ k l. row_plain _ i o e))

  -- ---- a section stands in a subentry

  pub some-open : (i : ℕ) → i ≤ n → 1 ≤ rank (context_at s i).phase → 1 ≤ length (opened_to s i)
  some-open zero h r = let z = rank-first s in absurd (omega arith)
  some-open (suc i) h r =
      by-opening s i (1 ≤ length (opened_to s (suc i)))
      (λ o. let e = ap length (opened-more s i o) ∙ length-append (opened_to s i) (number_at s i ∷ []) in omega arith)
      (λ o.
      rw (opened-same s i o)
      (some-open i (omega arith) ((nested-at s n w fits i (omega arith)).begun o r)))

  pub section-open : (i : ℕ) → i < n → opens_section (role_at s i) ≡ true → 1 ≤ length (opened_to s i)
  section-open i h e =
      let x = nested-at s n w fits i h in
      some-open i (omega arith)
      (or-either (eqb (role_at s i) BIB) _ e
      (λ q. let z = x.bib (eqb-true (role_at s i) BIB q) in omega arith)
      (λ q.
      or-either (eqb (role_at s i) COMMON) _ q
      (λ q. let z = x.common (eqb-true (role_at s i) COMMON q) in omega arith)
      (λ q. let z = x.«data» (eqb-true (role_at s i) DATA q) in omega arith)))

-- ---- behind the last record

pub rows-done : (s : List ℕ) → Accepted s → rows_to s (length s / 81) ≡ index_of s
unfolding index_of
rows-done s a =
    rows_same (λ m. row_at s m (length s / 81)) (row_of s) (opened_to s (length s / 81)) (λ k l. sym (found-row s _ a))
