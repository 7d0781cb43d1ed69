-- What is handed out of a file as an entry, with no search: of records only. That the computed part is such, and no
-- other part is, are the statements at the end.
use Rattle.std.specs.Prelude.{ℕ, ◌+◌, ◌*◌, ◌<◌, ◌≤◌, ◌≡◌, List, [], length, take, drop}
use Rattle.laws.specs.Blocks.{block_at}
use Rattle.paper_record.specs.Fields.{field_at}
use Rattle.paper_record.specs.Identifier.{Identifier, ENTRY, ENDENTRY}
use Rattle.paper_record.specs.PlainNames.{Named}
use Rattle.paper_rules.specs.Limits.{MOST-RECORDS}
use Rattle.paper_files.specs.Parts.{entry_length, entry_first, entry_from}

-- columns 1 to 11 of the record with the index i are that name
abbrev pub RecordNamed : Identifier → List ℕ → ℕ → Type 0
RecordNamed k s i = Named (field_at (block_at 81 s i) 0) k

-- these bytes begin with an entry of n whole records: ENTRY first, ENDENTRY last, and no other is ENDENTRY
pub record Begins (s : List ℕ) (n : ℕ) : Type 0 where
  pub some : 1 ≤ n
  pub most : n ≤ MOST-RECORDS
  pub there : n * 81 ≤ length s
  pub first : RecordNamed ENTRY s 0
  pub last : (i : ℕ) → i + 1 ≡ n → RecordNamed ENDENTRY s i
  pub no_other : (i : ℕ) → i + 1 < n → RecordNamed ENDENTRY s i → ⊥

-- what is handed out for the byte `at` of a file: a part, and the byte that it begins with
pub data HandedOut (s : List ℕ) (at : ℕ) : List ℕ → ℕ → Type 0 where
  -- the entry that begins there
  an_entry : (n : ℕ) → Begins (drop at s) n → HandedOut s at (take (n * 81) (drop at s)) at
  -- nothing, exactly where none begins
  nothing : ((n : ℕ) → Begins (drop at s) n → ⊥) → HandedOut s at [] 0

-- the part is such
abbrev pub PartSaid : Type 0
PartSaid = (s : List ℕ) (at : ℕ) → HandedOut s at (entry_from s at) (entry_first s at)

-- and no other is
abbrev pub PartAlone : Type 0
PartAlone =
    (s : List ℕ) (at : ℕ) (part : List ℕ) (start : ℕ) → HandedOut s at part start
    → (part ≡ entry_from s at) × (start ≡ entry_first s at)

-- it is as long as the length that is answered
abbrev pub PartLong : Type 0
PartLong = (s : List ℕ) (at : ℕ) → length (entry_from s at) ≡ entry_length s at
