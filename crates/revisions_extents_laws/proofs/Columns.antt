-- Columns 72 to 74 of an accepted entry: what they say on each record, and that they never fall.
-- Assumes nothing.
use Rattle.paper_faults.specs.Fault.{faultless}
use Prim.Native.Nat.{ℕ, zero, suc, ◌+◌, ◌-◌, ◌/◌, ◌<◌, ◌≤◌}
use mathlib.Core.Path.{◌≡◌, refl, sym, ap, subst, ◌∙◌}
use mathlib.Core.Bool.{Bool, true, false, cond, not, ◌&&◌, ◌||◌}
use mathlib.Core.List.{List, []}
use native.Mathlib.Omega.{arith}
use native.Mathlib.Numerals.{add-one}
use borrow.Author.Tests.{eqb-true, leb-true}
use lib.Dec.{eqb, ltb, leb}
use lib.ListN.{length, get_or}
use Rattle.laws.specs.Blocks.{block_at}
use Rattle.laws.proofs.Booleans.{and_left, and_right, or-other, or-first}
use Rattle.laws.proofs.EitherWay.{no}
use Rattle.laws.proofs.Search.{either}
use Rattle.paper_record.specs.Fields.{fields_of}
use Rattle.paper_record.specs.Identifier.{ENTRY, SUBENT, NOSUBENT, ENDENTRY, identifier_of}
use Rattle.paper_rules.specs.declared.types.Phase.{Phase}
use Rattle.paper_rules.specs.declared.types.Phase.TheVariants.{Start, Opened, InSubentry, InBib, AfterBib, InCommon}
use Rattle.paper_rules.specs.declared.types.Phase.TheVariants.{AfterCommon, InData, AfterData, Between, Done}
use Rattle.paper_rules.specs.declared.types.Track.{Track}
use Rattle.paper_rules.specs.Roles.{NOT-DUE, opens_subentry}
use Rattle.paper_rules.specs.System.{number_due}
use Rattle.paper_rules.specs.Order.{fault_of}
use Rattle.paper_rules.proofs.DueRecords.{fine-due, fine-number}
use Rattle.paper_entry.specs.Verdict.{is_done}
use Rattle.paper_entry.specs.Due.{phase_after}
use Rattle.paper_entry.specs.Judging.{Accepted}
use Rattle.paper_entry.specs.Contexts.{context_at, role_at}
use Rattle.entry_walk.proofs.GoingOn.{go-fine}
use Rattle.entry_walk.proofs.AcceptedWalk.{Walked, walked}
use Rattle.inside.proofs.Nesting.{rank_below}
use Rattle.inside.proofs.RowFound.{nested-at, key-rises}
use Rattle.paper_index.specs.Rows.{number_at}
use Rattle.index_rows.specs.Walk.{in_hand}
use Rattle.index_rows.proofs.Opened.{hand-more, hand-same}
use Rattle.reasons_true.proofs.Long.{expected-long}
use Rattle.paper_revisions.specs.Extents.{subentry_at}
use Rattle.revisions_extents_laws.specs.Columns.{ColumnsSay, on_entry, on_end, inside, ColumnsSaid, ColumnsRise}
use Rattle.revisions_extents_laws.proofs.Digits.{number_for, fine-columns}
use Rattle.revisions_extents_laws.proofs.Places.{follows, ends, due-follows, comes, comes-after}

-- ---- two records, one behind the other, and what is due between them

-- ENTRY has none before it
entry_first : (p : Phase) (before : ℕ) → follows p ENTRY ≡ true → comes before p ≡ true → ⊥
entry_first Start before f c = no c
entry_first Opened before f c = no f
entry_first InSubentry before f c = no f
entry_first InBib before f c = no f
entry_first AfterBib before f c = no f
entry_first InCommon before f c = no f
entry_first AfterCommon before f c = no f
entry_first InData before f c = no f
entry_first AfterData before f c = no f
entry_first Between before f c = no f
entry_first Done before f c = no f

-- a number that is due is at most 998
due-most : (t : Track) (number : ℕ) → number_due t number ≡ true → number ≤ 998
due-most t number = by-test (eqb t.totals.subentries 0)
  where
    by-test : (a : Bool) → cond a (eqb number 1) (ltb t.subentry.number number && leb number 998) ≡ true
        → number ≤ 998
    by-test true h = let e : number ≡ 1 = eqb-true number 1 h in omega arith
    by-test false h = leb-true number 998 (and_right (ltb t.subentry.number number) (leb number 998) h)

module _ (s : List ℕ) (accepted : Accepted s) where
  abbrev n : ℕ
  n = length s / 81

  way : Walked s n
  way = walked s accepted

  fine-at : (i : ℕ) → i < n
      → fault_of (context_at s i).track (context_at s i).seen (role_at s i) (fields_of (block_at 81 s i)) (block_at 81 s i)
      ≡ faultless
  fine-at i h = (go-fine (context_at s i) i (block_at 81 s i) (context_at s (suc i)) (way.turns i h)).0

  due-at : (i : ℕ) → i < n → eqb (role_at s i) NOT-DUE ≡ false
  due-at i h = by-test (eqb (role_at s i) NOT-DUE) refl
    where
      by-test : (b : Bool) → eqb (role_at s i) NOT-DUE ≡ b → b ≡ false
      by-test true e =
          absurd (fine-due (context_at s i).track (context_at s i).seen (role_at s i) (fields_of (block_at 81 s i))
          (block_at 81 s i) (fine-at i h) (eqb-true (role_at s i) NOT-DUE e))
      by-test false e = refl

  pub follows-at : (i : ℕ) → i < n
      → (follows (context_at s i).phase (role_at s i) ≡ true) × (ends (role_at s i) ≡ true)
  follows-at i h =
      let f = follows (context_at s i).phase (role_at s i) in
      let e : (f && ends (role_at s i)) ≡ true =
      or-other (eqb (role_at s i) NOT-DUE) (f && ends (role_at s i))
      (due-follows (context_at s i).phase (context_at s i).track (identifier_of (get_or (fields_of (block_at 81 s i)) 0 [])))
      (due-at i h) in
      (and_left f (ends (role_at s i)) e, and_right f (ends (role_at s i)) e)

  pub phase-behind : (i : ℕ) → i < n → (context_at s (suc i)).phase ≡ phase_after (role_at s i)
  phase-behind i h = (nested-at s n way (omega arith) i h).behind

  pub comes-at : (i : ℕ) → i < n → comes (role_at s i) (context_at s (suc i)).phase ≡ true
  comes-at i h = rw (phase-behind i h) (comes-after (role_at s i))

  -- ---- ENTRY is the first record and no other, ENDENTRY the last and no other

  pub first_entry : 0 < n → role_at s 0 ≡ ENTRY
  unfolding context_at
  first_entry h = eqb-true (role_at s 0) ENTRY (follows-at 0 h).0

  pub entry-only : (i : ℕ) → i < n → role_at s i ≡ ENTRY → i ≡ 0
  entry-only zero h e = refl
  entry-only (suc i) h e =
      let f : follows (context_at s (suc i)).phase ENTRY ≡ true = rw (← e) (follows-at (suc i) h).0 in
      absurd (entry_first (context_at s (suc i)).phase (role_at s i) f (comes-at i (omega arith)))

  pub last_end : (i : ℕ) → suc i ≡ n → role_at s i ≡ ENDENTRY
  last_end i e =
      let d : is_done (context_at s (suc i)).phase ≡ true = rw e way.done in
      let f : is_done (phase_after (role_at s i)) ≡ true = rw (← phase-behind i (omega arith)) d in
      eqb-true (role_at s i) ENDENTRY (by-test (is_done (phase_after (role_at s i))) f (follows-at i (omega arith)).1)
    where
      by-test : (b : Bool) → b ≡ true → (not b || eqb (role_at s i) ENDENTRY) ≡ true → eqb (role_at s i) ENDENTRY ≡ true
      by-test true e h = h
      by-test false e h = no e

  pub end-only : (i : ℕ) → i < n → role_at s i ≡ ENDENTRY → suc i ≡ n
  unfolding phase_after
  end-only i h e =
      either (suc i) n
      (λ l.
      let p : (context_at s (suc i)).phase ≡ Done = phase-behind i h ∙ ap phase_after e in
      let f : follows Done (role_at s (suc i)) ≡ true =
      subst (λ (x : Phase). follows x (role_at s (suc i)) ≡ true) p (follows-at (suc i) l).0 in
      no f)
      (λ l. omega arith)

  -- ---- the number in hand

  pub hand-start : in_hand s 0 ≡ 0
  unfolding context_at
  hand-start = refl

  pub hand-most : (i : ℕ) → i ≤ n → in_hand s i ≤ 998
  hand-most zero h = let e = hand-start in omega arith
  hand-most (suc i) h = by-test (opens_subentry (role_at s i)) refl (hand-most i (omega arith))
    where
      by-test : (b : Bool) → opens_subentry (role_at s i) ≡ b → in_hand s i ≤ 998 → in_hand s (suc i) ≤ 998
      by-test true o before =
          let e = (hand-more s n way (omega arith) i (omega arith) o).0 in
          let m =
          due-most (context_at s i).track (number_at s i)
          (fine-number (context_at s i).track (context_at s i).seen (role_at s i) (fields_of (block_at 81 s i))
          (block_at 81 s i) (fine-at i (omega arith)) o) in
          omega arith
      by-test false o before = let e = hand-same s n way (omega arith) i (omega arith) o in omega arith

  pub hand-rises : (i j : ℕ) → i + j ≤ n → in_hand s i ≤ in_hand s (i + j)
  hand-rises i j h =
      let k = key-rises s n way (omega arith) i j h in
      let a = rank_below (context_at s (i + j)).phase in
      omega arith

  -- ---- the columns

  said_at : (i : ℕ) → i < n
      → subentry_at s i ≡ number_for (context_at s i).track (role_at s i) (fields_of (block_at 81 s i))
  unfolding subentry_at
  said_at i h =
      let most = hand-most i (omega arith) in
      fine-columns (context_at s i).track (context_at s i).seen (role_at s i) (fields_of (block_at 81 s i)) (block_at 81 s i)
      (fine-at i h) (expected-long s i (role_at s i) (omega arith)) (omega arith)

  -- on ENTRY there is no number yet
  entry-said : (i : ℕ) → i < n → role_at s i ≡ ENTRY → in_hand s (suc i) ≡ 0
  entry-said i h e =
      let z = entry-only i h e in
      hand-same s n way (omega arith) i h (rw e) ∙ ap (in_hand s) z ∙ hand-start

  -- on all but the last it is the one in hand behind the record
  pub said-behind : (i : ℕ) → suc i < n → subentry_at s i ≡ in_hand s (suc i)
  said-behind i h =
      by_tests (eqb (role_at s i) ENTRY) refl (opens_subentry (role_at s i)) refl (eqb (role_at s i) ENDENTRY) refl
      (said_at i (omega arith))
    where
      by_tests : (a : Bool) → eqb (role_at s i) ENTRY ≡ a → (b : Bool) → opens_subentry (role_at s i) ≡ b
          → (c : Bool) → eqb (role_at s i) ENDENTRY ≡ c
          → subentry_at s i ≡ cond a 0 (cond b (number_at s i) (cond c 999 (in_hand s i)))
          → subentry_at s i ≡ in_hand s (suc i)
      by_tests true p b q c r e = e ∙ sym (entry-said i (omega arith) (eqb-true (role_at s i) ENTRY p))
      by_tests false p true q c r e = e ∙ sym (hand-more s n way (omega arith) i (omega arith) q).0
      by_tests false p false q true r e =
          let l = end-only i (omega arith) (eqb-true (role_at s i) ENDENTRY r) in absurd (omega arith)
      by_tests false p false q false r e = e ∙ sym (hand-same s n way (omega arith) i (omega arith) q)

  pub said-entry : 1 < n → subentry_at s 0 ≡ 0
  said-entry h = said-behind 0 (omega arith) ∙ entry-said 0 (omega arith) (first_entry (omega arith))

  pub said-last : (i : ℕ) → suc i ≡ n → subentry_at s i ≡ 999
  said-last i h =
      let e : role_at s i ≡ ENDENTRY = last_end i h in
      said_at i (omega arith) ∙ ap (λ (role : ℕ). number_for (context_at s i).track role (fields_of (block_at 81 s i))) e

  -- SUBENT 001 is the second record
  second-opens : 1 < n → opens_subentry (role_at s 1) ≡ true
  unfolding phase_after
  second-opens h =
      let p : (context_at s 1).phase ≡ Opened = phase-behind 0 (omega arith) ∙ ap phase_after (first_entry (omega arith)) in
      let f : follows Opened (role_at s 1) ≡ true =
      subst (λ (x : Phase). follows x (role_at s 1) ≡ true) p (follows-at 1 h).0 in
      or-first (eqb (role_at s 1) SUBENT) (eqb (role_at s 1) NOSUBENT) f

  pub hand-some : (i : ℕ) → 1 ≤ i → i < n → 1 ≤ in_hand s (suc i)
  hand-some i l h =
      let a = hand-more s n way (omega arith) 1 (omega arith) (second-opens (omega arith)) in
      let b = a.0 in
      let c = a.1 in
      let z : 2 + (i - 1) ≡ suc i = omega arith in
      let r = hand-rises 2 (i - 1) (omega arith) in
      rw z at (the-least b c r)
    where
      the-least : in_hand s 2 ≡ number_at s 1 → in_hand s 1 < number_at s 1 → in_hand s 2 ≤ in_hand s (2 + (i - 1))
          → 1 ≤ in_hand s (2 + (i - 1))
      the-least b c r = omega arith

  pub columns-say : (i : ℕ) → i < n → ColumnsSay s i
  columns-say i h =
      either (suc i) n
      (λ l.
      either 0 i
      (λ m.
      let e = said-behind i l in
      let a = hand-some i m h in
      let b = hand-most (suc i) (omega arith) in
      inside m (omega arith) (omega arith) (omega arith) (e ∙ ap (in_hand s) (sym (add-one i))))
      (λ m.
      let z : i ≡ 0 = omega arith in
      let r : role_at s i ≡ ENTRY = rw z (first_entry (omega arith)) in
      on_entry z r (said-behind i l ∙ entry-said i h r)))
      (λ l.
      let e : suc i ≡ n = omega arith in
      on_end (omega arith) (last_end i e) (said-last i e))

  -- ENTRY, a subentry and ENDENTRY are three
  pub records-some : 2 < n
  unfolding context_at phase_after
  records-some =
      either 2 n (λ l. l)
      (λ l. absurd (by_count n refl l))
    where
      by_count : (m : ℕ) → m ≡ n → m ≤ 2 → ⊥
      by_count zero e l = no (ap (λ (k : ℕ). is_done (context_at s k).phase) e ∙ way.done)
      by_count (suc zero) e l =
          let a = last_end 0 e in
          let b = first_entry (omega arith) in
          omega arith
      by_count (suc (suc zero)) e l =
          let a = last_end 1 e in
          let b = second-opens (omega arith) in
          no (rw a at b)
      by_count (suc (suc (suc m))) e l = omega arith

  pub said-most : (i : ℕ) → suc i < n → subentry_at s i ≤ 998
  said-most i h =
      let e = said-behind i h in
      let b = hand-most (suc i) (omega arith) in
      omega arith

  pub said-inner : (i : ℕ) → 1 ≤ i → i < n → 1 ≤ subentry_at s i
  said-inner i l h =
      either (suc i) n
      (λ m.
      let e = said-behind i m in
      let b = hand-some i l h in
      omega arith)
      (λ m. let e = said-last i (omega arith) in omega arith)

  -- from one record to the next
  pub rise-next : (i : ℕ) → suc i < n → subentry_at s i ≤ subentry_at s (suc i)
  rise-next i h =
      let a = said-behind i h in
      let m = hand-most (suc i) (omega arith) in
      either (suc (suc i)) n
      (λ l.
      let b = said-behind (suc i) l in
      let r = hand-rises (suc i) 1 (omega arith) in
      let c : in_hand s (suc i + 1) ≡ in_hand s (suc (suc i)) = ap (in_hand s) (add-one (suc i)) in
      omega arith)
      (λ l. let b = said-last (suc i) (omega arith) in omega arith)

pub columns-said : ColumnsSaid
columns-said s accepted i h = columns-say s accepted i h

pub columns-rise : ColumnsRise
columns-rise s accepted i h = rw (add-one i) (rise-next s accepted i (omega arith))
