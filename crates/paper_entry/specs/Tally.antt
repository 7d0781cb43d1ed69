-- What one record adds to the counts, by what it is.
use Rattle.std.specs.Prelude.{ℕ, ◌+◌, ◌-◌, Bool, true, cond, ◌&&◌, List, eqb, leb}
use Rattle.paper_record.specs.Word.{blank_to}
use Rattle.paper_record.specs.declared.types.LineNo.{LineNo}
use Rattle.paper_rules.specs.declared.types.Totals.{Totals}
use Rattle.paper_rules.specs.declared.types.Bib.{Bib}
use Rattle.paper_rules.specs.declared.types.Table.{Table}
use Rattle.paper_rules.specs.declared.types.Track.{Track}
use Rattle.paper_rules.specs.State.{HEADINGS, UNITS, VALUES, row_ends, with_totals, with_subentry, with_section, with_bib}
use Rattle.paper_rules.specs.State.{with_table}
use Rattle.paper_rules.specs.Roles.{DATA-VALUE}

-- one subentry more, one keyword more, so many lines and numbers more
abbrev pub one_subentry : Totals → Totals
one_subentry x =
    record { subentries = x.subentries + 1; keywords = x.keywords; lines = x.lines; numbers = x.numbers }

abbrev pub one_keyword : Totals → Totals
one_keyword x =
    record { subentries = x.subentries; keywords = x.keywords + 1; lines = x.lines; numbers = x.numbers }

abbrev pub more_numbers : Totals → ℕ → ℕ → Totals
more_numbers x lines numbers =
    record {
      subentries = x.subentries;
      keywords = x.keywords;
      lines = x.lines + lines;
      numbers = x.numbers + numbers;
    }

-- SUBENT or NOSUBENT with a number
abbrev pub open_subentry : Track → ℕ → Track
open_subentry t number =
    with_subentry (with_totals t (one_subentry t.totals)) (record { number = number; records = 0 })

abbrev pub open_bib : Track → ℕ → ℕ → Track
open_bib t keywords records =
    with_bib (with_section t 0) (record { keywords = keywords; records = records; met = 0 })

-- its first row are the headings; its first line is 1
abbrev pub new_table : ℕ → ℕ → Table
new_table columns last =
    record {
      columns = columns;
      last = record { 0 = last };
      row = HEADINGS;
      line = record { 0 = 1 };
      rest = columns;
      blank = true;
    }

abbrev pub open_table : Track → ℕ → ℕ → Track
open_table t columns last = with_table (with_section t 0) (new_table columns last)

-- one keyword met
abbrev pub one_met : Bib → Bib
one_met x = record { keywords = x.keywords; records = x.records; met = x.met + 1 }

unfoldable pub text_read : Track → List ℕ → Track
text_read t f = cond (blank_to 10 f) t (with_bib (with_totals t (one_keyword t.totals)) (one_met t.bib))

-- behind the last record of a row: the row, and the line, that come then
abbrev pub next_row : Table → ℕ → LineNo → Table
next_row x row line =
    record { columns = x.columns; last = x.last; row = row; line = line; rest = x.columns; blank = true }

-- behind another record of a row: six columns are done
abbrev pub same_row : Table → ℕ → Bool → Table
same_row x row blank =
    record { columns = x.columns; last = x.last; row = row; line = x.line; rest = x.rest - 6; blank = blank }

unfoldable pub headings_read : Table → Table
headings_read x = cond (leb x.rest 6) (next_row x UNITS x.line) (same_row x HEADINGS true)

unfoldable pub units_read : Table → Table
units_read x = cond (leb x.rest 6) (next_row x VALUES x.line) (same_row x UNITS true)

abbrev pub next_line : LineNo → LineNo
next_line l = record { 0 = l.0 + 1 }

unfoldable pub values_read : Table → ℕ → Table
values_read x numbers =
    cond (leb x.rest 6) (next_row x VALUES (next_line x.line))
    (same_row x VALUES (x.blank && eqb numbers 0))

-- "DATA lines": one ends with the last record of its row
abbrev pub lines_read : Track → ℕ → ℕ
lines_read t role = cond (eqb role DATA-VALUE && row_ends t) 1 0

abbrev pub numbers_read : Track → ℕ → ℕ → Track
numbers_read t role numbers =
    with_table (with_totals t (more_numbers t.totals (lines_read t role) numbers)) (values_read t.table numbers)
