-- Rows of a table: headings, units and lines, of COMMON and of DATA; the context behind a record of each.
-- Assumes nothing.
use Prim.Native.Nat.{ℕ, ◌+◌}
use mathlib.Core.Path.{◌≡◌, refl}
use mathlib.Core.Bool.{Bool, true, false, cond, ◌&&◌}
use mathlib.Core.List.{List, ◌++◌}
use native.Mathlib.Omega.{arith}
use lib.Dec.{eqb, leb}
use Rattle.paper_record.specs.Fields.{fields_of}
use Rattle.paper_record.specs.Identifier.{ENDCOMMON, ENDDATA}
use Rattle.paper_record.specs.declared.types.LineNo.{LineNo}
use Rattle.paper_rules.specs.declared.types.Phase.{Phase}
use Rattle.paper_rules.specs.declared.types.Phase.TheVariants.{InCommon, InData}
use Rattle.paper_rules.specs.State.{Context, HEADINGS, UNITS, VALUES}
use Rattle.paper_rules.specs.Roles.{COMMON-HEADING, COMMON-UNIT, COMMON-VALUE, DATA-HEADING, DATA-UNIT, DATA-VALUE}
use Rattle.paper_rules.specs.Values.{values_for}
use Rattle.paper_entry.specs.Next.{context_after}
use Rattle.paper_entry.specs.Due.{phase_after}
use Rattle.paper_entry.specs.Counted.{track_after, after_inside}
use Rattle.paper_entry.specs.Tally.{headings_read, units_read, values_read, next_row, same_row, next_line}
use Rattle.paper_entry.specs.Parts.{seen_after, part_after, bib_change, table_change}
use Rattle.good.specs.Parts.{Record}
use Rattle.good.proofs.Steps.{next}
use Rattle.good.proofs.Moves.{Moved, quiet}

-- ---- kinds of rows; of DATA where the Boolean is true, else of COMMON

pub data Kind : Type 0 where
  headings : Kind
  units : Kind
  values : Kind

abbrev pub row_no : Kind → ℕ
row_no headings = HEADINGS
row_no units = UNITS
row_no values = VALUES

abbrev pub role_for : Kind → Bool → ℕ
role_for headings false = COMMON-HEADING
role_for headings true = DATA-HEADING
role_for units false = COMMON-UNIT
role_for units true = DATA-UNIT
role_for values false = COMMON-VALUE
role_for values true = DATA-VALUE

abbrev pub end_for : Bool → ℕ
end_for false = ENDCOMMON
end_for true = ENDDATA

abbrev pub phase_for : Bool → Phase
phase_for false = InCommon
phase_for true = InData

abbrev pub next_kind : Kind → Kind
next_kind headings = units
next_kind units = values
next_kind values = values

abbrev pub line_after : Kind → LineNo → LineNo
line_after headings l = l
line_after units l = l
line_after values l = next_line l

-- ---- the context behind a record of a row

abbrev pub numbers_of : Kind → Bool → Context → Record → ℕ
numbers_of headings d c r = 0
numbers_of units d c r = 0
numbers_of values d c r = (values_for c.track (role_for values d) (fields_of r)).numbers

abbrev pub blank_behind : Kind → Bool → Context → Record → Bool
blank_behind headings d c r = true
blank_behind units d c r = true
blank_behind values d c r = c.track.table.blank && eqb (numbers_of values d c r) 0

-- a line of DATA ends here
abbrev pub lines_of : Kind → Bool → Bool → ℕ
lines_of headings d last = 0
lines_of units d last = 0
lines_of values false last = 0
lines_of values true last = cond last 1 0

abbrev pub joined_by : Kind → List ℕ → List ℕ → List ℕ
joined_by headings part r = part ++ r
joined_by units part r = part
joined_by values part r = part

abbrev pub last_of : Context → Bool
last_of c = leb c.track.table.rest 6

pub record RowStep (c e : Context) (d : Bool) (k : Kind) (r : Record) : Type 0 where
  pub phase : e.phase ≡ phase_for d
  pub table : e.track.table
      ≡ cond (last_of c) (next_row c.track.table (row_no (next_kind k)) (line_after k c.track.table.line))
      (same_row c.track.table (row_no k) (blank_behind k d c r))
  pub moved : Moved c e 1 0 (lines_of k d (last_of c)) (numbers_of k d c r)
  pub section : e.track.section ≡ c.track.section + 1
  pub part : e.seen.table ≡ joined_by k c.seen.table r
  pub bib : e.seen.bib ≡ c.seen.bib
  pub common : e.seen.common ≡ c.seen.common

pub row_step : (k : Kind) (d : Bool) (c : Context) (r : Record) → RowStep c (next c (role_for k d) r) d k r
unfolding context_after phase_after track_after after_inside headings_read units_read values_read seen_after part_after bib_change
    table_change
row_step headings false c r =
    record {
      phase = refl;
      table = refl;
      section = refl;
      part = refl;
      bib = refl;
      common = refl;
      moved = quiet refl refl refl refl refl;
    }
row_step headings true c r =
    record {
      phase = refl;
      table = refl;
      section = refl;
      part = refl;
      bib = refl;
      common = refl;
      moved = quiet refl refl refl refl refl;
    }
row_step units false c r =
    record {
      phase = refl;
      table = refl;
      section = refl;
      part = refl;
      bib = refl;
      common = refl;
      moved = quiet refl refl refl refl refl;
    }
row_step units true c r =
    record {
      phase = refl;
      table = refl;
      section = refl;
      part = refl;
      bib = refl;
      common = refl;
      moved = quiet refl refl refl refl refl;
    }
row_step values false c r =
    record {
      phase = refl;
      table = refl;
      section = refl;
      part = refl;
      bib = refl;
      common = refl;
      moved = record {
        accession = refl;
        number = refl;
        records = refl;
        subentries = refl;
        keywords = omega arith;
        lines = omega arith;
        numbers = refl;
        bib001 = refl;
        common001 = refl;
      };
    }
row_step values true c r =
    record {
      phase = refl;
      table = refl;
      section = refl;
      part = refl;
      bib = refl;
      common = refl;
      moved = record {
        accession = refl;
        number = refl;
        records = refl;
        subentries = refl;
        keywords = omega arith;
        lines = refl;
        numbers = refl;
        bib001 = refl;
        common001 = refl;
      };
    }
