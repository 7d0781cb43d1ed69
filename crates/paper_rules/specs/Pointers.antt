-- The rule for the pointers of DATA headings: refusal 14.
use Rattle.std.specs.Prelude.{ℕ, ◌+◌, ◌*◌, ◌/◌, ◌%◌, Bool, not, ◌&&◌, List, [], ◌++◌, eqb, get_or}
use Rattle.laws.specs.Members.{list_of, any_of}
use Rattle.paper_record.specs.Text.{is_blank}
use Rattle.paper_record.specs.Word.{pointer_of}
use Rattle.paper_rules.specs.declared.types.Track.{Track}
use Rattle.paper_rules.specs.State.{Seen, used}
use Rattle.paper_rules.specs.Record.{Fields, field_column}
use Rattle.paper_faults.specs.Fault.{Columns, columns_where}
use Rattle.paper_rules.specs.Text.{pointers_of}
use Rattle.paper_rules.specs.Earlier.{headings_in}

abbrev pub heading_pointer_at : List ℕ → ℕ → ℕ
heading_pointer_at part m = get_or part (m / 6 * 81 + m % 6 * 11 + 10) 0

unfoldable pub heading_pointers : List ℕ → List ℕ
heading_pointers part = list_of (heading_pointer_at part) 0 (headings_in part)

-- "A pointer on a DATA heading must occur in BIB column 11 of this subentry or 001, or on a heading of either one's
-- COMMON."
unfoldable pub pointers_for : List ℕ → List ℕ → List ℕ → List ℕ → List ℕ
pointers_for bib bib001 common common001 =
    pointers_of bib ++ (pointers_of bib001 ++ (heading_pointers common ++ heading_pointers common001))

abbrev pub pointer_lost : List ℕ → List ℕ → Bool
pointer_lost pointers f = not (is_blank (pointer_of f)) && not (any_of (eqb (pointer_of f)) pointers)

abbrev pub lost_at : List ℕ → Fields → ℕ → Bool
lost_at pointers fs k = pointer_lost pointers (get_or fs k [])

-- 14, "DATA pointer not found", column "field's first"
unfoldable pub rule14 : Seen → Track → Fields → Columns
rule14 s t fs =
    columns_where (lost_at (pointers_for s.bib s.bib001 s.common s.common001) fs) field_column (used t)
