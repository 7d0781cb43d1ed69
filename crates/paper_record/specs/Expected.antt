-- What is written in columns 67 to 79 and what is expected there (document 01, "Nesting and counts"):
--
--   "Identification: the entry's accession throughout; subentry 000 on ENTRY, 999 on ENDENTRY, else its own number.
--   Sequence 00001 on ENTRY, SUBENT and NOSUBENT, one more on each following record, 99999 on ENDSUBENT and ENDENTRY."
--
-- Here is how each is laid out; which one is expected where, the entry layer says. Both are compared with `equal_to`.
use Rattle.std.specs.Prelude.{ℕ, zero, suc, ◌+◌, ◌/◌, ◌%◌, ◌^◌, List, [], ◌∷◌, ◌++◌}
use Rattle.paper_record.specs.Columns.{columns_at}

-- ---- what is written

-- "67-71 accession"
abbrev pub accession_of : List ℕ → List ℕ
accession_of r = columns_at 66 5 r

-- "67-71 accession, 72-74 subentry"
abbrev pub identification_of : List ℕ → List ℕ
identification_of r = columns_at 66 8 r

-- "75-79 sequence"
abbrev pub sequence_of : List ℕ → List ℕ
sequence_of r = columns_at 74 5 r

-- ---- what is expected

-- the last w digits of a number
unfoldable pub in_digits : ℕ → ℕ → List ℕ
in_digits zero n = []
in_digits (suc w) n = (48 + n / 10 ^ w % 10) ∷ in_digits w n

-- an accession and a subentry's number
unfoldable pub identification_for : List ℕ → ℕ → List ℕ
identification_for accession number = accession ++ in_digits 3 number

-- the accession in ENTRY's N1; in SUBENT's and NOSUBENT's the accession, and the accession with the number
abbrev pub entry_accession : List ℕ → List ℕ
entry_accession f = columns_at 6 5 f

abbrev pub subent_accession : List ℕ → List ℕ
subent_accession f = columns_at 3 5 f

abbrev pub subent_identification : List ℕ → List ℕ
subent_identification f = columns_at 3 8 f
