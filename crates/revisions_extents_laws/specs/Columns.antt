-- What columns 72 to 74 of an accepted entry say (document 01, "Nesting and counts"):
--
--   "Identification: the entry's accession throughout; subentry 000 on ENTRY, 999 on ENDENTRY, else its own number."
use Rattle.std.specs.Prelude.{ℕ, ◌+◌, ◌<◌, ◌≤◌, ◌≡◌, List}
use Rattle.paper_record.specs.Identifier.{ENTRY, ENDENTRY}
use Rattle.paper_entry.specs.Judging.{Accepted}
use Rattle.paper_entry.specs.Contexts.{context_at, role_at}
use Rattle.paper_revisions.specs.Extents.{records_of, subentry_at}

-- the number of the subentry to which the record with the index i belongs: the one in hand behind it, since SUBENT and
-- NOSUBENT belong to the subentry that they open
abbrev pub own_number : List ℕ → ℕ → ℕ
own_number s i = (context_at s (i + 1)).track.subentry.number

pub data ColumnsSay (s : List ℕ) (i : ℕ) : Type 0 where
  on_entry : i ≡ 0 → role_at s i ≡ ENTRY → subentry_at s i ≡ 0 → ColumnsSay s i
  on_end : i + 1 ≡ records_of s → role_at s i ≡ ENDENTRY → subentry_at s i ≡ 999 → ColumnsSay s i
  inside : 1 ≤ i → i + 1 < records_of s → 1 ≤ subentry_at s i → subentry_at s i ≤ 998 → subentry_at s i ≡ own_number s i
      → ColumnsSay s i

abbrev pub ColumnsSaid : Type 0
ColumnsSaid = (s : List ℕ) → Accepted s → (i : ℕ) → i < records_of s → ColumnsSay s i

-- "files are sorted by columns 67-79": they never fall
abbrev pub ColumnsRise : Type 0
ColumnsRise =
    (s : List ℕ) → Accepted s → (i : ℕ) → i + 1 < records_of s → subentry_at s i ≤ subentry_at s (i + 1)
