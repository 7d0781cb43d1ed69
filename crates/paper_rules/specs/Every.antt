-- The rules for every record: refusals 2 to 6.
use Rattle.std.specs.Prelude.{ℕ, ◌+◌, cond, not, ◌||◌, List, eqb}
use Rattle.paper_record.specs.Columns.{has_line_feed}
use Rattle.paper_record.specs.Class.{not_permitted}
use Rattle.paper_record.specs.Fields.{n1}
use Rattle.paper_record.specs.Identifier.{ENTRY, ENDSUBENT, ENDENTRY}
use Rattle.paper_record.specs.Word.{equal_to}
use Rattle.paper_record.specs.Expected.{identification_of, sequence_of, in_digits, identification_for, entry_accession}
use Rattle.paper_record.specs.Expected.{subent_identification}
use Rattle.paper_rules.specs.declared.types.Track.{Track}
use Rattle.paper_rules.specs.Roles.{Role, NOT-DUE, opens_subentry}
use Rattle.paper_rules.specs.Record.{Record, Fields}
use Rattle.paper_faults.specs.Fault.{Columns, when, columns_where}

-- 2, "byte 81 not a line feed", column 81
unfoldable pub rule2 : Record → Columns
rule2 r = when (not (has_line_feed r)) 81

-- 3, "character not permitted", column "that one"
unfoldable pub rule3 : Record → Columns
rule3 r = columns_where (not_permitted r) (λ i. i + 1) 80

-- 4, "record not due by nesting or counts; also any system identifier inside BIB, one beginning with END inside
-- COMMON or DATA, NOSUBENT or ENDENTRY before a SUBENT, anything after ENDENTRY", column 1
unfoldable pub rule4 : Role → Columns
rule4 role = when (eqb role NOT-DUE) 1

-- "Identification: the entry's accession throughout; subentry 000 on ENTRY, 999 on ENDENTRY, else its own number."
-- "On ENTRY, SUBENT and NOSUBENT, number 5 compares bytes with the record's own N1 (on ENTRY then 000)."
unfoldable pub expected_identification : Track → Role → Fields → List ℕ
expected_identification t role fs =
    cond (eqb role ENTRY) (identification_for (entry_accession (n1 fs)) 0)
    (cond (opens_subentry role) (subent_identification (n1 fs))
    (cond (eqb role ENDENTRY) (identification_for t.accession 999)
    (identification_for t.accession t.subentry.number)))

-- 5, "wrong accession or subentry in 67-74", column 67
unfoldable pub rule5 : Track → Role → Fields → Record → Columns
rule5 t role fs r = when (not (equal_to 8 (identification_of r) (expected_identification t role fs))) 67

-- "Sequence 00001 on ENTRY, SUBENT and NOSUBENT, one more on each following record, 99999 on ENDSUBENT and ENDENTRY.":
-- SUBENT has 1, so many records stand behind it, and the record in hand is the next, so it has two more than they are
unfoldable pub expected_sequence : Track → Role → ℕ
expected_sequence t role =
    cond (eqb role ENTRY || opens_subentry role) 1
    (cond (eqb role ENDSUBENT || eqb role ENDENTRY) 99999 (t.subentry.records + 2))

-- 6, "wrong sequence", column 75
unfoldable pub rule6 : Track → Role → Record → Columns
rule6 t role r = when (not (equal_to 5 (sequence_of r) (in_digits 5 (expected_sequence t role)))) 75
