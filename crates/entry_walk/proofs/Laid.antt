-- How a table is laid out in an accepted entry (document 01: "Tables: k heading records, k unit records, then value
-- records, k to a line"). Behind the record that opens COMMON or DATA the judge's own walk meets these records and no
-- others, and the counters of its track stand in step with the place that is worked out from line and column.
--
-- A table has rows: the headings, the units, then its lines; row 0, row 1, and row l + 1 for the line l. A row has k
-- records. `Laid` says that the context before a record stands at the record m of the row q.
-- Assumes nothing.
use Prim.Native.Nat.{ℕ, zero, suc, ◌+◌, ◌*◌, ◌-◌, ◌<◌, ◌≤◌}
use mathlib.Core.Path.{◌≡◌, refl, ◌∙◌}
use mathlib.Core.Bool.{Bool, true, false, cond}
use mathlib.Core.List.{List, []}
use native.Mathlib.Omega.{arith}
use lib.ListN.{get_or}
use borrow.Author.Tests.{le-leb, lt-leb, le-ltb}
use Rattle.laws.specs.Turns.{go}
use Rattle.paper_record.specs.Fields.{fields_of}
use Rattle.paper_record.specs.Identifier.{identifier_of, is_end}
use Rattle.paper_rules.specs.declared.types.Phase.{Phase}
use Rattle.paper_rules.specs.declared.types.Phase.TheVariants.{InCommon, InData}
use Rattle.paper_rules.specs.declared.types.Table.{Table}
use Rattle.paper_rules.specs.declared.types.Track.{Track}
use Rattle.paper_rules.specs.State.{Context, HEADINGS, UNITS, VALUES}
use Rattle.paper_rules.specs.Roles.{COMMON-HEADING, COMMON-UNIT, COMMON-VALUE, DATA-HEADING, DATA-UNIT, DATA-VALUE}
use Rattle.paper_rules.specs.Roles.{NOT-DUE}
use Rattle.paper_rules.specs.Role.{all_read, table_role, role_in}
use Rattle.paper_rules.specs.Values.{values_for}
use Rattle.paper_entry.specs.Tally.{headings_read, units_read, values_read}
use Rattle.paper_entry.specs.Counted.{after_inside, track_after}
use Rattle.paper_entry.specs.Due.{phase_after}
use Rattle.paper_entry.specs.Next.{context_after}
use Rattle.paper_entry.specs.Judging.{role_of, turn_of}
use Rattle.paper_rules.proofs.DueRecords.{fine-due}
use Rattle.entry_walk.proofs.GoingOn.{go-fine}
use Rattle.paper_entry.specs.Contexts.{behind}

-- ---- the two sections alike: DATA where b is true, else COMMON

abbrev pub phase_in : Bool → Phase
phase_in true = InData
phase_in false = InCommon

-- the role of a record in the row q
abbrev pub row_role : Bool → ℕ → ℕ
row_role true zero = DATA-HEADING
row_role true (suc zero) = DATA-UNIT
row_role true (suc (suc l)) = DATA-VALUE
row_role false zero = COMMON-HEADING
row_role false (suc zero) = COMMON-UNIT
row_role false (suc (suc l)) = COMMON-VALUE

-- the row and the line as the track has them; the line is the first until the units are read
abbrev pub row_of : ℕ → ℕ
row_of zero = HEADINGS
row_of (suc zero) = UNITS
row_of (suc (suc l)) = VALUES

abbrev pub line_of : ℕ → ℕ
line_of zero = 1
line_of (suc zero) = 1
line_of (suc (suc l)) = suc l

-- the context before the record m of the row q, in a table of so many columns and lines of the subentry n
pub record Laid (b : Bool) (n columns lines q m : ℕ) (c : Context) : Type 0 where
  pub phase : c.phase ≡ phase_in b
  pub subentry : c.track.subentry.number ≡ n
  pub kept : c.track.table.columns ≡ columns
  pub last : c.track.table.last.0 ≡ lines
  pub row : c.track.table.row ≡ row_of q
  pub line : c.track.table.line.0 ≡ line_of q
  pub rest : c.track.table.rest ≡ columns - m * 6

-- ---- the role

pub row-role : (b : Bool) (q : ℕ) (t : Track) (k : ℕ) → all_read t ≡ false → t.table.row ≡ row_of q
    → role_in (phase_in b) t k ≡ cond (is_end k) NOT-DUE (row_role b q)
unfolding role_in table_role
row-role true zero t k a e = rw (a, e)
row-role true (suc zero) t k a e = rw (a, e)
row-role true (suc (suc l)) t k a e = rw (a, e)
row-role false zero t k a e = rw (a, e)
row-role false (suc zero) t k a e = rw (a, e)
row-role false (suc (suc l)) t k a e = rw (a, e)

-- ---- the context behind

abbrev table_after : ℕ → Table → ℕ → Table
table_after zero x numbers = headings_read x
table_after (suc zero) x numbers = units_read x
table_after (suc (suc l)) x numbers = values_read x numbers

record Behind (b : Bool) (q numbers : ℕ) (c d : Context) : Type 0 where
  phase : d.phase ≡ phase_in b
  subentry : d.track.subentry.number ≡ c.track.subentry.number
  table : d.track.table ≡ table_after q c.track.table numbers

behind-row : (b : Bool) (q : ℕ) (c : Context) (fs : List (List ℕ)) (r : List ℕ)
    → Behind b q (values_for c.track (row_role b q) fs).numbers c (context_after c (row_role b q) fs r)
unfolding context_after phase_after track_after after_inside
behind-row true zero c fs r = record { phase = refl; subentry = refl; table = refl }
behind-row true (suc zero) c fs r = record { phase = refl; subentry = refl; table = refl }
behind-row true (suc (suc l)) c fs r = record { phase = refl; subentry = refl; table = refl }
behind-row false zero c fs r = record { phase = refl; subentry = refl; table = refl }
behind-row false (suc zero) c fs r = record { phase = refl; subentry = refl; table = refl }
behind-row false (suc (suc l)) c fs r = record { phase = refl; subentry = refl; table = refl }

-- the table behind the last record of a row, and behind another
record Over (q : ℕ) (x u : Table) : Type 0 where
  kept : u.columns ≡ x.columns
  last : u.last ≡ x.last
  row : u.row ≡ row_of (suc q)
  line : x.line.0 ≡ line_of q → u.line.0 ≡ line_of (suc q)
  rest : u.rest ≡ x.columns

record On (q : ℕ) (x u : Table) : Type 0 where
  kept : u.columns ≡ x.columns
  last : u.last ≡ x.last
  row : u.row ≡ row_of q
  line : u.line ≡ x.line
  rest : u.rest ≡ x.rest - 6

over-row : (q : ℕ) (x : Table) (numbers : ℕ) → x.rest ≤ 6 → Over q x (table_after q x numbers)
unfolding headings_read units_read values_read
over-row zero x numbers h =
    rw (le-leb x.rest 6 h) (record { kept = refl; last = refl; row = refl; line = λ e. e; rest = refl })
over-row (suc zero) x numbers h =
    rw (le-leb x.rest 6 h) (record { kept = refl; last = refl; row = refl; line = λ e. e; rest = refl })
over-row (suc (suc l)) x numbers h =
    rw (le-leb x.rest 6 h)
    (record { kept = refl; last = refl; row = refl; line = λ e. omega arith; rest = refl })

on_row : (q : ℕ) (x : Table) (numbers : ℕ) → 6 < x.rest → On q x (table_after q x numbers)
unfolding headings_read units_read values_read
on_row zero x numbers h =
    rw (lt-leb x.rest 6 h) (record { kept = refl; last = refl; row = refl; line = refl; rest = refl })
on_row (suc zero) x numbers h =
    rw (lt-leb x.rest 6 h) (record { kept = refl; last = refl; row = refl; line = refl; rest = refl })
on_row (suc (suc l)) x numbers h =
    rw (lt-leb x.rest 6 h) (record { kept = refl; last = refl; row = refl; line = refl; rest = refl })

-- ---- one record

module _ (b : Bool) (n columns lines q m : ℕ) (c : Context) (l : Laid b n columns lines q m c)
    (unread : line_of q ≤ lines) (i : ℕ) (r : List ℕ) (d : Context) (goes : turn_of c i r ≡ go d) where
  unread-all : all_read c.track ≡ false
  unread-all =
      le-ltb c.track.table.last.0 c.track.table.line.0 (omega (arith, l.last, l.line))

  -- it is one of its row
  pub laid-role : role_of c r ≡ row_role b q
  laid-role =
      let k = identifier_of (get_or (fields_of r) 0 []) in
      let e : role_of c r ≡ cond (is_end k) NOT-DUE (row_role b q) =
      rw l.phase (row-role b q c.track k unread-all l.row) in
      by-test (is_end k) e
    where
      by-test : (t : Bool) → role_of c r ≡ cond t NOT-DUE (row_role b q) → role_of c r ≡ row_role b q
      by-test true e = absurd (fine-due c.track c.seen (role_of c r) (fields_of r) r (go-fine c i r d goes).0 e)
      by-test false e = e

  abbrev read : ℕ
  read = (values_for c.track (row_role b q) (fields_of r)).numbers

  stands : Behind b q read c d
  stands =
      let e : behind c r ≡ d = (go-fine c i r d goes).1 in
      rw (← e, laid-role) (behind-row b q c (fields_of r) r)

  -- the next record of the row
  pub laid_on : m * 6 + 6 < columns → Laid b n columns lines q (m + 1) d
  laid_on h =
      let x = c.track.table in
      let s = stands in
      let o = on_row q x read (omega (arith, l.rest)) in
      let u : d.track.table ≡ table_after q x read = s.table in
      record {
        phase = s.phase;
        subentry = s.subentry ∙ l.subentry;
        kept = rw u (o.kept ∙ l.kept);
        last = rw u (rw o.last l.last);
        row = rw u o.row;
        line = rw u (rw o.line l.line);
        rest = rw u (o.rest ∙ omega (arith, l.rest));
      }

  -- the first record of the next row
  pub laid-over : columns ≤ m * 6 + 6 → Laid b n columns lines (suc q) 0 d
  laid-over h =
      let x = c.track.table in
      let s = stands in
      let o = over-row q x read (omega (arith, l.rest)) in
      let u : d.track.table ≡ table_after q x read = s.table in
      record {
        phase = s.phase;
        subentry = s.subentry ∙ l.subentry;
        kept = rw u (o.kept ∙ l.kept);
        last = rw u (rw o.last l.last);
        row = rw u o.row;
        line = rw u (o.line l.line);
        rest = rw u (o.rest ∙ omega (arith, l.kept));
      }
