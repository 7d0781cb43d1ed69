-- The records of a table stand where line and column say: for an accepted entry, the record m of the row q lies q * k +
-- m records behind the first one of its table, it is in the entry, and its role is that of its row. Assumes nothing.
use Prim.Native.Nat.{ℕ, zero, suc, ◌+◌, ◌*◌, ◌-◌, ◌<◌, ◌≤◌}
use mathlib.Core.Path.{◌≡◌, refl}
use mathlib.Core.Bool.{Bool, true, false}
use mathlib.Core.List.{List}
use native.Mathlib.Omega.{arith}
use native.Mathlib.Nat.{zero-mul, suc-mul}
use native.Mathlib.Numerals.{add-one}
use borrow.Author.Tests.{le-leb}
use Rattle.laws.specs.Blocks.{block_at}
use Rattle.laws.proofs.Search.{either}
use Rattle.paper_record.specs.Places.{records_for}
use Rattle.paper_record.specs.Fields.{fields_of}
use Rattle.paper_record.specs.Identifier.{COMMON, DATA}
use Rattle.paper_rules.specs.declared.types.Phase.{Phase}
use Rattle.paper_rules.specs.State.{Context}
use Rattle.paper_rules.specs.Limits.{MOST-COLUMNS, MOST-LINES}
use Rattle.paper_rules.specs.Counts.{count_n1, count_n2}
use Rattle.paper_rules.proofs.DueRecords.{fine-common, fine-data}
use Rattle.paper_entry.specs.Due.{phase_after}
use Rattle.paper_entry.specs.Counted.{after_system, track_after}
use Rattle.paper_entry.specs.Next.{context_after}
use Rattle.paper_entry.specs.Judging.{role_of}
use Rattle.paper_entry.specs.Verdict.{is_done}
use Rattle.entry_walk.proofs.GoingOn.{go-fine}
use Rattle.paper_entry.specs.Contexts.{context_at, role_at}
use Rattle.entry_walk.proofs.AcceptedWalk.{Walked}
use Rattle.entry_walk.proofs.Laid.{phase_in, row_role, line_of, Laid, laid-role, laid_on, laid-over}

-- the last row that is read has the last line
row-unread : (q lines : ℕ) → 1 ≤ lines → q ≤ lines + 1 → line_of q ≤ lines
row-unread zero lines a h = a
row-unread (suc zero) lines a h = a
row-unread (suc (suc l)) lines a h = omega arith

not_done : (b : Bool) (p : Phase) → p ≡ phase_in b → is_done p ≡ true → ⊥
not_done true p e d = let z : ◌≡◌ {A = ℕ} 0 1 = (let f = rw e at d in cc) in omega arith
not_done false p e d = let z : ◌≡◌ {A = ℕ} 0 1 = (let f = rw e at d in cc) in omega arith

module _ (s : List ℕ) (n : ℕ) (w : Walked s n) (b : Bool) (number columns lines from : ℕ)
    (wide : 1 ≤ columns) (some : 1 ≤ lines) (begins : from ≤ n)
    (first : Laid b number columns lines 0 0 (context_at s from)) where
  abbrev LaidAt : ℕ → ℕ → ℕ → Type 0
  LaidAt q m i = Laid b number columns lines q m (context_at s i)

  -- inside a table the entry does not end
  more : (i q m : ℕ) → i ≤ n → LaidAt q m i → i < n
  more i q m h l =
      either i n (λ a. a)
      (λ a.
      let e : i ≡ n = omega arith in
      absurd (not_done b (context_at s n).phase (rw e at l.phase) w.done))

  -- the records of a row
  row_laid : (q : ℕ) → line_of q ≤ lines → (i : ℕ) → i ≤ n → LaidAt q 0 i
      → (m : ℕ) → m < records_for columns → (i + m < n) × LaidAt q m (i + m)
  row_laid q u i h l zero a =
      let e : i + 0 ≡ i = omega arith in
      rw e (more i q 0 h l, l)
  row_laid q u i h l (suc m) a =
      let (x, y) = row_laid q u i h l m (omega arith) in
      let e : i + suc m ≡ suc (i + m) = omega arith in
      let z : LaidAt q (suc m) (suc (i + m)) =
      rw (add-one m) at
      (laid_on b number columns lines q m (context_at s (i + m)) y u (i + m) (block_at 81 s (i + m))
      (context_at s (suc (i + m))) (w.turns (i + m) x) (omega arith)) in
      rw e (more (suc (i + m)) q (suc m) (omega arith) z, z)

  next_row : (q : ℕ) → line_of q ≤ lines → (i : ℕ) → i ≤ n → LaidAt q 0 i
      → (i + records_for columns ≤ n) × LaidAt (suc q) 0 (i + records_for columns)
  next_row q u i h l =
      let m = records_for columns - 1 in
      let (x, y) = row_laid q u i h l m (omega arith) in
      let e : i + records_for columns ≡ suc (i + m) = omega arith in
      let z : LaidAt (suc q) 0 (suc (i + m)) =
      laid-over b number columns lines q m (context_at s (i + m)) y u (i + m) (block_at 81 s (i + m))
      (context_at s (suc (i + m))) (w.turns (i + m) x) (omega arith) in
      rw e (x, z)

  rows-laid : (q : ℕ) → q ≤ lines + 2
      → (from + q * records_for columns ≤ n) × LaidAt q 0 (from + q * records_for columns)
  rows-laid zero h =
      let e : from + 0 * records_for columns ≡ from = omega (arith, zero-mul (records_for columns)) in
      rw e (begins, first)
  rows-laid (suc q) h =
      let (x, y) = rows-laid q (omega arith) in
      let e : from + suc q * records_for columns ≡ from + q * records_for columns + records_for columns =
      omega (arith, suc-mul q (records_for columns)) in
      rw e (next_row q (row-unread q lines some (omega arith)) (from + q * records_for columns) x y)

  -- THE LAY-OUT: record m of row q
  pub table-laid : (q m : ℕ) → q ≤ lines + 1 → m < records_for columns
      → (from + q * records_for columns + m < n)
      × (Laid b number columns lines q m (context_at s (from + q * records_for columns + m))
      × (role_at s (from + q * records_for columns + m) ≡ row_role b q))
  table-laid q m h a =
      let u = row-unread q lines some h in
      let (x, y) = rows-laid q (omega arith) in
      let i = from + q * records_for columns in
      let (z, l) = row_laid q u i x y m a in (
        z,
        (
          l,
          laid-role b number columns lines q m (context_at s (i + m)) l u (i + m) (block_at 81 s (i + m))
              (context_at s (suc (i + m))) (w.turns (i + m) z),
        ),
      )

-- ---- behind the section's own record

abbrev pub section_role : Bool → ℕ
section_role true = DATA
section_role false = COMMON

abbrev pub lines_of : Bool → List (List ℕ) → ℕ
lines_of true fs = count_n2 fs
lines_of false fs = 1

pub opened-data : (c : Context) (fs : List (List ℕ)) (r : List ℕ) → count_n1 fs ≤ MOST-COLUMNS → count_n2 fs ≤ MOST-LINES
    → Laid true c.track.subentry.number (count_n1 fs) (count_n2 fs) 0 0 (context_after c DATA fs r)
unfolding context_after phase_after track_after after_system
opened-data c fs r a b =
    rw (le-leb (count_n1 fs) MOST-COLUMNS a, le-leb (count_n2 fs) MOST-LINES b)
    (record {
      phase = refl;
      subentry = refl;
      kept = refl;
      last = refl;
      row = refl;
      line = refl;
      rest = omega arith;
    })

pub opened-common : (c : Context) (fs : List (List ℕ)) (r : List ℕ) → count_n1 fs ≤ MOST-COLUMNS
    → Laid false c.track.subentry.number (count_n1 fs) 1 0 0 (context_after c COMMON fs r)
unfolding context_after phase_after track_after after_system
opened-common c fs r a =
    rw (le-leb (count_n1 fs) MOST-COLUMNS a)
    (record {
      phase = refl;
      subentry = refl;
      kept = refl;
      last = refl;
      row = refl;
      line = refl;
      rest = omega arith;
    })

-- what a section's own record announces, and where the walk stands behind it
pub record Opened (b : Bool) (s : List ℕ) (i : ℕ) : Type 0 where
  pub columns-from : 1 ≤ count_n1 (fields_of (block_at 81 s i))
  pub columns-to : count_n1 (fields_of (block_at 81 s i)) ≤ MOST-COLUMNS
  pub lines_from : 1 ≤ lines_of b (fields_of (block_at 81 s i))
  pub lines-to : lines_of b (fields_of (block_at 81 s i)) ≤ MOST-LINES
  pub laid :
      Laid b (context_at s i).track.subentry.number (count_n1 (fields_of (block_at 81 s i)))
      (lines_of b (fields_of (block_at 81 s i))) 0 0 (context_at s (suc i))

pub opened : (b : Bool) (s : List ℕ) (n : ℕ) → Walked s n → (i : ℕ) → i < n → role_at s i ≡ section_role b → Opened b s i
opened b s n w i h e = by-section b e
  where
    c : Context
    c = context_at s i

    r : List ℕ
    r = block_at 81 s i

    by-section : (b : Bool) → role_of c r ≡ section_role b → Opened b s i
    by-section true e =
        let fine = go-fine c i r (context_at s (suc i)) (w.turns i h) in
        let f = fine-data c.track c.seen (role_of c r) (fields_of r) r fine.0 e in
        record {
          columns-from = f.0.0;
          columns-to = f.0.1;
          lines_from = f.1.0;
          lines-to = f.1.1;
          laid = rw (← fine.1, e) (opened-data c (fields_of r) r f.0.1 f.1.1);
        }
    by-section false e =
        let fine = go-fine c i r (context_at s (suc i)) (w.turns i h) in
        let f = fine-common c.track c.seen (role_of c r) (fields_of r) r fine.0 e in
        record {
          columns-from = f.0;
          columns-to = f.1;
          lines_from = omega arith;
          lines-to = omega arith;
          laid = rw (← fine.1, e) (opened-common c (fields_of r) r f.1);
        }
