-- What is counted after a record without fault, by its role.
use Rattle.std.specs.Prelude.{ℕ, ◌-◌, cond, List, [], eqb, get_or}
use Rattle.paper_record.specs.Expected.{accession_of}
use Rattle.paper_record.specs.Identifier.{ENTRY, BIB, COMMON, DATA}
use Rattle.paper_record.specs.System.{subentry_of, up_to}
use Rattle.paper_record.specs.Fields.{n1}
use Rattle.paper_rules.specs.declared.types.Track.{Track}
use Rattle.paper_rules.specs.Limits.{MOST-COLUMNS, MOST-LINES}
use Rattle.paper_rules.specs.State.{counted, with_accession, with_table}
use Rattle.paper_rules.specs.Roles.{TEXT, is_system, opens_subentry, is_heading, is_unit, is_value}
use Rattle.paper_rules.specs.Counts.{count_n1, count_n2}
use Rattle.paper_rules.specs.Values.{values_for}
use Rattle.paper_entry.specs.Tally.{open_subentry, open_bib, open_table, text_read, headings_read, units_read, numbers_read}

-- after a system record
unfoldable pub after_system : Track → ℕ → List (List ℕ) → List ℕ → Track
after_system t role fs r =
    cond (eqb role ENTRY) (with_accession t (accession_of r))
    (cond (opens_subentry role) (open_subentry t (subentry_of (n1 fs)))
    (cond (eqb role BIB) (open_bib t (count_n1 fs) (count_n2 fs))
    (cond (eqb role COMMON) (open_table t (up_to MOST-COLUMNS (count_n1 fs)) 1)
    (cond (eqb role DATA) (open_table t (up_to MOST-COLUMNS (count_n1 fs)) (up_to MOST-LINES (count_n2 fs))) t))))

-- after a record inside a section, with so many numbers in it
unfoldable pub after_inside : Track → ℕ → List (List ℕ) → ℕ → Track
after_inside t role fs numbers =
    cond (eqb role TEXT) (text_read t (get_or fs 0 []))
    (cond (is_heading role) (with_table t (headings_read t.table))
    (cond (is_unit role) (with_table t (units_read t.table))
    (cond (is_value role) (numbers_read t role numbers) t)))

unfoldable pub track_after : Track → ℕ → List (List ℕ) → List ℕ → Track
track_after t role fs r =
    cond (is_system role) (after_system (counted t) role fs r)
    (after_inside (counted t) role fs (values_for t role fs).numbers)
