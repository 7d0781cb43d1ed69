-- The two records of a file that belong to no entry (document 02, M-100):
--
--   "TRANS carries seven blanks, a file identifier of four capitals or digits in columns 19-22 (004 prints five places;
--   four decides), and a date like ENTRY's; ENDTRANS carries the number of entries in N1. Their columns 67-79 are judged
--   only as characters."
--
-- So 5 and 6 are not made on them, and what else stands in them up to column 66 is free.
use Rattle.std.specs.Prelude.{ℕ, ◌+◌, Bool, not, cond, ◌&&◌, ◌||◌, List, [], ◌∷◌, ◌++◌, eqb, get_or}
use Rattle.laws.specs.Search.{first}
use Rattle.paper_record.specs.Text.{is_digit, is_capital}
use Rattle.paper_record.specs.Fields.{n1, n2}
use Rattle.paper_record.specs.Word.{blank_to}
use Rattle.paper_record.specs.Identifier.{TRANS, ENDTRANS}
use Rattle.paper_record.specs.System.{count_of, is_count, is_date}
use Rattle.paper_rules.specs.Roles.{Role}
use Rattle.paper_rules.specs.Record.{Record, Fields}
use Rattle.paper_faults.specs.Fault.{Columns, on, when, Finding, finding, first_fault, Checked}
use Rattle.paper_rules.specs.Every.{rule2, rule3, rule4}
use Rattle.paper_rules.specs.Counts.{count_n1}

-- ---- N1 of TRANS

-- no capital and no digit
abbrev pub no_mark : List ℕ → ℕ → Bool
no_mark f i = not (is_capital (get_or f i 0) || is_digit (get_or f i 0))

-- the n columns from i are capitals or digits
unfoldable pub marks_in : List ℕ → ℕ → ℕ → Bool
marks_in f i n = eqb (first (no_mark f) i n) (i + n)

-- "seven blanks, a file identifier of four capitals or digits in columns 19-22": N1 begins with column 12
unfoldable pub is_trans_n1 : List ℕ → Bool
is_trans_n1 f = blank_to 7 f && marks_in f 7 4

-- ---- the rules

-- 7, "system field not in its form", column 12 or 23
unfoldable pub trans_form : Fields → Columns
trans_form fs = when (not (is_trans_n1 (n1 fs))) 12 ++ when (not (is_date (n2 fs))) 23

unfoldable pub rule7_outside : Role → Fields → Columns
rule7_outside role fs =
    cond (eqb role TRANS) (trans_form fs)
    (on (eqb role ENDTRANS) (when (not (is_count (count_of (n1 fs)))) 12))

-- 8, "count out of range or untrue", column 12: "ENDTRANS carries the number of entries in N1"
unfoldable pub rule8_outside : ℕ → Role → Fields → Columns
rule8_outside entries role fs = on (eqb role ENDTRANS) (when (not (eqb (count_n1 fs) entries)) 12)

-- what the rules find on a record that belongs to no entry, with so many entries before it
abbrev pub outside_findings : ℕ → Role → Fields → Record → List Finding
outside_findings entries role fs r =
    finding 2 (rule2 r)
    ∷ finding 3 (rule3 r)
    ∷ finding 4 (rule4 role)
    ∷ finding 7 (rule7_outside role fs)
    ∷ finding 8 (rule8_outside entries role fs)
    ∷ []

unfoldable pub outside_fault : ℕ → Role → Fields → Record → Checked
outside_fault entries role fs r = first_fault (outside_findings entries role fs r)
