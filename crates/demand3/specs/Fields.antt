-- The number fields of the copy (document 01):
--
--   "The canonical copy replaces each non-blank value field of COMMON and DATA by its canonical field and keeps every
--   other byte."
--
-- and, of FLAG and DECAY-FLAG (document 02, M-105):
--
--   "The copy leaves both kinds of column unaltered, and demand 3 treats them as bytes outside number fields."
--
-- Which fields are number fields is told in Flags (`NumberFields`), and that flags are kept (`FlagsKept`). Here it is
-- said by the plain definition of the canonical field, the best of all eleven bytes that read to the value (`Best`);
-- that every other byte is kept is `CopyPart` of copy.
use Rattle.std.specs.Prelude.{ℕ, ◌≡◌, true, List}
use Rattle.paper_number.specs.declared.types.Decimal.{Decimal}
use Rattle.paper_number.specs.declared.types.Reading.TheVariants.{Blank, Number}
use Rattle.paper_number.specs.Reading.{read_field}
use Rattle.paper_canonical.specs.Canonical.{Best}
use Rattle.paper_entry.specs.Judging.{Accepted}
use Rattle.paper_copy.specs.Copy.{number_field, field_in, copy_of}

abbrev pub CopyCanonical : Type 0
CopyCanonical =
    (s : List ℕ) → Accepted s → (i k : ℕ) → number_field s i k ≡ true → (v : Decimal)
    → read_field (field_in s i k) ≡ Number v → Best 11 v (field_in (copy_of s) i k)

abbrev pub CopyBlank : Type 0
CopyBlank =
    (s : List ℕ) → Accepted s → (i k : ℕ) → number_field s i k ≡ true → read_field (field_in s i k) ≡ Blank
    → field_in (copy_of s) i k ≡ field_in s i k
