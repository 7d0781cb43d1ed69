-- The records of a subentry in an accepted entry, by their columns 72 to 74 (document 01: "72-74 subentry"; "subentry 000
-- on ENTRY, 999 on ENDENTRY, else its own number"). That they are those from SUBENT to ENDSUBENT, or NOSUBENT alone, is
-- the law `extent-laid`.
use Rattle.std.specs.Prelude.{ℕ, ◌-◌, ◌*◌, ◌/◌, Bool, not, ◌&&◌, List, eqb, ltb, length, take, drop}
use Rattle.laws.specs.Search.{first}
use Rattle.laws.specs.Blocks.{block_at}
use Rattle.paper_record.specs.Text.{within}
use Rattle.paper_record.specs.Fields.{field_at}
use Rattle.paper_record.specs.System.{number_in}
use Rattle.paper_rules.specs.Limits.{LAST-SUBENTRY}
use Rattle.paper_revisions.specs.declared.types.Extent.{Extent}

-- the number in columns 72-74 of the record with the index i
unfoldable pub subentry_at : List ℕ → ℕ → ℕ
subentry_at s i = number_in (block_at 81 s i) 71 3

abbrev pub is_of : List ℕ → ℕ → ℕ → Bool
is_of s n i = eqb (subentry_at s i) n

abbrev pub is_other : List ℕ → ℕ → ℕ → Bool
is_other s n i = not (is_of s n i)

abbrev pub records_of : List ℕ → ℕ
records_of s = length s / 81

-- from the first record that says n up to the first behind it that does not
abbrev pub first_saying : List ℕ → ℕ → ℕ
first_saying s n = first (is_of s n) 0 (records_of s)

abbrev pub past_from : List ℕ → ℕ → ℕ → ℕ
past_from s n i = first (is_other s n) i (records_of s - i)

unfoldable pub extent_of : List ℕ → ℕ → Extent
extent_of s n = record { from = first_saying s n; past = past_from s n (first_saying s n) }

-- "has it": a subentry's number is 1 to 998
unfoldable pub has : List ℕ → ℕ → Bool
has s n = within 1 LAST-SUBENTRY n && ltb (extent_of s n).from (extent_of s n).past

abbrev pub bytes_of : List ℕ → Extent → List ℕ
bytes_of s e = take ((e.past - e.from) * 81) (drop (e.from * 81) s)

-- "Date: 3 blanks and YYYYMMDD": N2 of the record with the index i, as one number
unfoldable pub date_at : List ℕ → ℕ → ℕ
date_at s i = number_in (field_at (block_at 81 s i) 2) 3 8
