-- The walk over a COMMON or DATA section, run by run: its rows, their marks, and the context behind the section.
-- Assumes nothing.
use Prim.Native.Nat.{ℕ, suc, ◌+◌, ◌-◌}
use mathlib.Core.Path.{◌≡◌, refl, ◌∙◌, ap}
use mathlib.Core.Bool.{Bool, true, false}
use mathlib.Core.List.{List, [], ◌∷◌, ◌++◌}
use native.Mathlib.Omega.{arith}
use lib.ListN.{length, length-append}
use Rattle.laws.specs.Blocks.{joined}
use Rattle.paper_record.specs.Places.{records_for}
use Rattle.paper_rules.specs.State.{Context}
use Rattle.rules_plain.specs.Places.{concat}
use Rattle.good.specs.Parts.{Record, Table, Section, present, absent, rows_of, table_records}
use Rattle.good.specs.Marks.{Following}
use Rattle.good.specs.Tables.{columns_of}
use Rattle.good.specs.Totals.{lines_in, numbers_of, numbers_of_lines}
use Rattle.good.proofs.Steps.{next}
use Rattle.good.proofs.Runs.{Run, after_run}
use Rattle.good.proofs.Moves.{Moved, moved_on, recount}
use Rattle.good.proofs.Marks.{following-append, following-as}
use Rattle.good.proofs.Systems.{identification_in}
use Rattle.good.proofs.RowPlaces.{RowAt, NoEnd}
use Rattle.good.proofs.Rows.{headings, units, values, role_for, end_for}
use Rattle.good.proofs.Rowwise.{BehindRow, count_row}
use Rattle.good.proofs.Units.{no_count}
use Rattle.good.proofs.Lines.{no_line, after_lines, LinesRun, lines_of, BehindLines}
use Rattle.good.proofs.FlagsByColumn.{kept_of, Keeps, LinesFit}
use Rattle.good.proofs.TableKinds.{open_for, no_for, phase_behind, last_for, Limits}
use Rattle.good.proofs.TableContexts.{TableOpened, common_behind, after-end, after_none}

-- ---- the section, piece by piece

abbrev pub heading_rows : Section Table → List Record
heading_rows (present t) = t.headings
heading_rows (absent r) = []

abbrev pub columns_in : Section Table → ℕ
columns_in (present t) = columns_of t
columns_in (absent r) = 0

-- no value is at fault under FLAG or DECAY-FLAG, over these bytes of the BIBs
abbrev pub FlagsTested : List ℕ → List ℕ → Section Table → Type 0
FlagsTested bib bib001 (present t) = LinesFit (kept_of bib bib001 t.headings) (columns_of t) t.lines
FlagsTested bib bib001 (absent r) = Unit {0}

pub flags-as : (bib bib001 bib' bib001' : List ℕ) (part : Section Table) → bib ≡ bib' → bib001 ≡ bib001'
    → FlagsTested bib bib001 part → FlagsTested bib' bib001' part
flags-as bib bib001 bib' bib001' part p q h = rw (p, q) at h

abbrev pub after_headings : Bool → Context → Table → Context
after_headings d c t = after_run (role_for headings d) (next c (open_for d) t.opening) t.headings

abbrev pub after_units : Bool → Context → Table → Context
after_units d c t = after_run (role_for units d) (after_headings d c t) t.units

abbrev pub after_rows : Bool → Context → Table → Context
after_rows d c t = after_lines d (after_units d c t) t.lines

unfoldable pub after_table : Bool → Context → Section Table → Context
after_table d c (present t) = next (after_rows d c t) (end_for d) t.ending
after_table d c (absent r) = next c (no_for d) r

-- The runs of a section, and the context behind each: all that both directions need of the walk over a table. From the
-- walk it is found run by run; from a good section it is built run by run; what follows from it is said once.
pub record Walked (d : Bool) (c : Context) (t : Table) (a b : ℕ) : Type 0 where
  pub limits : Limits d a b
  pub opened : TableOpened c (next c (open_for d) t.opening) d a (last_for d b)
  pub heads-long : length t.headings ≡ records_for a
  pub heads-run : Run NoEnd (role_for headings d) (next c (open_for d) t.opening) t.headings
  pub heads-at : RowAt (after_headings d c t) d units a (last_for d b) 1 a
  pub heads-behind : BehindRow (next c (open_for d) t.opening) (after_headings d c t) d headings t.headings
      (count_row no_count a t.headings)
  pub units-long : length t.units ≡ records_for a
  pub units-run : Run NoEnd (role_for units d) (after_headings d c t) t.units
  pub units-at : RowAt (after_units d c t) d values a (last_for d b) 1 a
  pub units-behind : BehindRow (after_headings d c t) (after_units d c t) d units t.units
      (count_row no_count a t.units)
  pub lines-many : 1 + length t.lines ≡ last_for d b + 1
  pub lines-run : LinesRun d a (after_units d c t) t.lines
  pub lines-behind : BehindLines (after_units d c t) (after_rows d c t) d a (last_for d b) 1 t.lines

-- what the lines are held against: both BIBs as they were before the section, and its heading records
pub keeps-rows : {d : Bool} {c e f g : Context} {n last k l : ℕ} {hs us : List Record} → TableOpened c e d n last
    → BehindRow e f d headings hs k → BehindRow f g d units us l
    → Keeps g (kept_of c.seen.bib c.seen.bib001 hs)
keeps-rows {hs = hs} o h u =
    record {
      bib = u.bib ∙ h.bib ∙ o.bib;
      bib001 = u.moved.bib001 ∙ h.moved.bib001 ∙ o.moved.bib001;
      table = u.part ∙ h.part ∙ ap (λ (x : List ℕ). x ++ joined hs) o.part;
    }

none-counted : (rest : ℕ) (rs : List Record) → count_row no_count rest rs ≡ 0
unfolding count_row
none-counted rest [] = refl
none-counted rest (r ∷ rs) = let e = none-counted (rest - 6) rs in omega arith

pub walked-moved : (d : Bool) (c : Context) (t : Table) (a b : ℕ) → Walked d c t a b
    → Moved c (after_rows d c t) (1 + length (rows_of t)) 0 (lines_of d (length t.lines)) (numbers_of_lines a t.lines)
walked-moved d c t a b w =
    let x = none-counted a t.headings in
    let y = none-counted a t.units in
    let m = length-append t.headings (t.units ++ concat t.lines) in
    let k = length-append t.units (concat t.lines) in
    recount (1 + length (rows_of t)) 0 (lines_of d (length t.lines)) (numbers_of_lines a t.lines)
    (moved_on w.opened.moved (moved_on w.heads-behind.moved
    (moved_on w.units-behind.moved w.lines-behind.moved)))
    (omega arith) refl (omega arith) (omega arith)

pub walked-section : (d : Bool) (c : Context) (t : Table) (a b : ℕ) → Walked d c t a b
    → (after_rows d c t).track.section ≡ length (rows_of t)
walked-section d c t a b w =
    let m = length-append t.headings (t.units ++ concat t.lines) in
    let k = length-append t.units (concat t.lines) in
    let x = w.opened.section in
    let y = w.heads-behind.section in
    let z = w.units-behind.section in
    let u = w.lines-behind.section in
    omega arith

-- the marks of all rows
pub walked-following : (d : Bool) (c : Context) (t : Table) (a b : ℕ) → Walked d c t a b → (i : List ℕ) (s : ℕ)
    → identification_in c ≡ i → c.track.subentry.records + 3 ≡ s
    → Following (identification_in (next c (open_for d) t.opening))
    ((next c (open_for d) t.opening).track.subentry.records + 2) t.headings
    → Following (identification_in (after_headings d c t)) ((after_headings d c t).track.subentry.records + 2) t.units
    → Following (identification_in (after_units d c t)) ((after_units d c t).track.subentry.records + 2)
    (concat t.lines)
    → Following i s (rows_of t)
walked-following d c t a b w i s e q f g h =
    let c1 = next c (open_for d) t.opening in
    let c2 = after_headings d c t in
    let c3 = after_units d c t in
    let o = w.opened.moved in
    let p = w.heads-behind.moved in
    let u = w.units-behind.moved in
    let x = o.records in
    let y = p.records in
    let z = u.records in
    following-append i s t.headings (t.units ++ concat t.lines)
    (following-as (identification_in c1) i (c1.track.subentry.records + 2) s t.headings
    (rw (o.accession, o.number) e) (omega arith) f)
    (following-append i (s + length t.headings) t.units (concat t.lines)
    (following-as (identification_in c2) i (c2.track.subentry.records + 2) (s + length t.headings) t.units
    (rw (p.accession, p.number, o.accession, o.number) e) (omega arith) g)
    (following-as (identification_in c3) i (c3.track.subentry.records + 2)
    (s + length t.headings + length t.units)
    (concat t.lines)
    (rw (u.accession, u.number, p.accession, p.number, o.accession, o.number) e) (omega arith) h))

-- ---- the context behind a section

pub record BehindTable (c e : Context) (d : Bool) (part : Section Table) : Type 0 where
  pub phase : e.phase ≡ phase_behind d
  pub moved : Moved c e (length (table_records part)) 0 (lines_of d (lines_in part)) (numbers_of part)
  pub bib : e.seen.bib ≡ c.seen.bib
  pub common : e.seen.common ≡ common_behind d (joined (heading_rows part)) c.seen.common

none-common : (d : Bool) (common : List ℕ) → (d ≡ false → common ≡ []) → common ≡ common_behind d (joined []) common
unfolding joined
none-common false common h = h refl
none-common true common h = refl

pub behind-none : (d : Bool) (c : Context) (r : Record) → (d ≡ false → c.seen.common ≡ [])
    → BehindTable c (after_table d c (absent r)) d (absent r)
unfolding after_table
behind-none d c r h =
    let a = after_none d c r in
    record {
      phase = a.phase;
      moved = recount 1 0 (lines_of d 0) 0 a.moved refl refl (no_line d) refl;
      bib = a.bib;
      common = a.kept ∙ none-common d c.seen.common h;
    }

kept-common : (d : Bool) (table common table' common' : List ℕ) → table ≡ table' → common ≡ common'
    → common_behind d table common ≡ common_behind d table' common'
kept-common false table common table' common' p q = p
kept-common true table common table' common' p q = q

pub walked-behind : (d : Bool) (c : Context) (t : Table) (b : ℕ) → Walked d c t (columns_of t) b
    → BehindTable c (after_table d c (present t)) d (present t)
unfolding after_table
walked-behind d c t b w =
    let e = after-end d (after_rows d c t) t.ending in
    let m = length-append (rows_of t) (t.ending ∷ []) in
    record {
      phase = e.phase;
      moved = recount (suc (length (rows_of t ++ (t.ending ∷ [])))) 0 (lines_of d (length t.lines))
          (numbers_of_lines (columns_of t) t.lines)
          (moved_on (walked-moved d c t (columns_of t) b w) e.moved) (omega arith) refl (omega arith) (omega arith);
      bib = e.bib ∙ w.lines-behind.bib ∙ w.units-behind.bib ∙ w.heads-behind.bib ∙ w.opened.bib;
      common =
          e.kept
          ∙ kept-common d (after_rows d c t).seen.table (after_rows d c t).seen.common (joined t.headings)
          c.seen.common
          (w.lines-behind.part ∙ w.units-behind.part ∙ w.heads-behind.part
          ∙ ap (λ (x : List ℕ). x ++ joined t.headings) w.opened.part)
          (w.lines-behind.common ∙ w.units-behind.common ∙ w.heads-behind.common ∙ w.opened.common);
    }
