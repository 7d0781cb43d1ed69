-- The canonical copy of an entry (document 01):
--
--   "The canonical copy replaces each non-blank value field of COMMON and DATA by its canonical field and keeps every
--   other byte."
--
-- Document 02, M-105, of FLAG and DECAY-FLAG: "The copy leaves both kinds of column unaltered".
use Rattle.std.specs.Prelude.{ℕ, ◌/◌, Bool, false, List, [], length, get_or}
use Rattle.laws.specs.Blocks.{blocks, joined, block_at}
use Rattle.laws.specs.Copies.{copies, marks}
use Rattle.paper_copy.specs.Replaced.{replaced, mask}
use Rattle.paper_copy.specs.CopyField.{number_in, copy_field}
use Rattle.paper_record.specs.Fields.{field_at}
use Rattle.paper_rules.specs.State.{Context, start_context}
use Rattle.paper_entry.specs.Judging.{role_of, turn_of}

-- ---- number fields

-- the field k (counted from 0) of a record with this role is a number field in its context: every value field is one,
-- but for those under FLAG and DECAY-FLAG
unfoldable pub is_number_field : Context → ℕ → ℕ → Bool
is_number_field c role k = number_in c.seen.table c.track role k

-- which of a record's six fields are number fields
unfoldable pub mask_of : Context → List ℕ → List Bool
mask_of c r = mask (is_number_field c (role_of c r)) 0 6

-- the records of an entry
abbrev pub records_in : List ℕ → List (List ℕ)
records_in s = blocks 81 (length s / 81) s

-- the field k of the record with the index i is a number field of the entry
unfoldable pub number_field : List ℕ → ℕ → ℕ → Bool
number_field s i k = get_or (get_or (marks turn_of mask_of start_context 0 (records_in s)) i []) k false

-- that field's columns
abbrev pub field_in : List ℕ → ℕ → ℕ → List ℕ
field_in s i k = field_at (block_at 81 s i) k

-- ---- the copy

unfoldable pub copy_record : Context → List ℕ → List ℕ
copy_record c r = replaced copy_field (mask_of c r) r

-- each record as it is copied in its context
unfoldable pub copy_of : List ℕ → List ℕ
copy_of s = joined (copies turn_of copy_record start_context 0 (records_in s))
