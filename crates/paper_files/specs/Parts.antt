-- The entries of a file as parts of the caller's file (document 02, M-100: "Demands 2 and 3 hold entry by entry"): an
-- entry is asked for by the byte that it begins with, and handed back with ENTRY first and ENDENTRY last. No rule is
-- made: a question about a part that is refused answers 31.
use Rattle.std.specs.Prelude.{ℕ, ◌+◌, ◌*◌, ◌/◌, Bool, cond, List, eqb, leb, ltb, length, take, drop}
use Rattle.laws.specs.Search.{first}
use Rattle.laws.specs.Blocks.{block_at}
use Rattle.paper_record.specs.Fields.{field_at}
use Rattle.paper_record.specs.Identifier.{Identifier, ENTRY, ENDENTRY, identifier_of}
use Rattle.paper_rules.specs.Limits.{MOST-RECORDS}

-- the record with the index i has the system identifier k
abbrev pub named_at : Identifier → List ℕ → ℕ → Bool
named_at k s i = eqb (identifier_of (field_at (block_at 81 s i) 0)) k

-- the whole records of these bytes, 20,000 at the most
abbrev pub few : ℕ → ℕ
few n = cond (leb n MOST-RECORDS) n MOST-RECORDS

abbrev pub records_of : List ℕ → ℕ
records_of s = few (length s / 81)

-- the index of the first ENDENTRY among them, or their count
abbrev pub end_of : List ℕ → ℕ
end_of s = first (named_at ENDENTRY s) 0 (records_of s)

-- how many records the entry has that begins with these bytes, from ENTRY up to and with the first ENDENTRY; 0 where
-- they do not begin with ENTRY, or no ENDENTRY follows
unfoldable pub entry_records : List ℕ → ℕ
entry_records s =
    cond (ltb 0 (records_of s))
    (cond (named_at ENTRY s 0) (cond (ltb (end_of s) (records_of s)) (end_of s + 1) 0) 0)
    0

-- how many bytes the entry has that begins with the byte `at` of the file
unfoldable pub entry_length : List ℕ → ℕ → ℕ
entry_length s at = entry_records (drop at s) * 81

-- the first byte of the part: `at`, or where none begins there the beginning of the file
unfoldable pub entry_first : List ℕ → ℕ → ℕ
entry_first s at = cond (eqb (entry_length s at) 0) 0 at

-- the entry itself; empty where none begins there
unfoldable pub entry_from : List ℕ → ℕ → List ℕ
entry_from s at = take (entry_length s at) (drop (entry_first s at) s)
