-- The verdict on an entry (document 01, "Refusal numbers and their order"):
--
--   "Accepted is 0 0 0 with four totals: subentries (NOSUBENT included), keywords, DATA lines, non-blank numbers. On
--   refusal the totals are 0."
--
-- and on a file of entries (document 02, M-100):
--
--   "The verdict gains the entry's ordinal (0 on acceptance, for 1 and 16, outside ENTRY to ENDENTRY and for single
--   entries)"
use Rattle.std.specs.Prelude.{ℕ, ◌*◌, ◌%◌, Bool, true, false, not, ◌&&◌, eqb, leb}
use Rattle.paper_record.specs.declared.types.RecordNo.{RecordNo}
use Rattle.paper_rules.specs.declared.types.Phase.{Phase}
use Rattle.paper_rules.specs.declared.types.Phase.TheVariants.{Start, Opened, InSubentry, InBib, AfterBib, InCommon}
use Rattle.paper_rules.specs.declared.types.Phase.TheVariants.{AfterCommon, InData, AfterData, Between, Done}
use Rattle.paper_rules.specs.declared.types.Totals.{Totals}
use Rattle.paper_rules.specs.State.{no_totals}
use Rattle.paper_rules.specs.Limits.{MOST-RECORDS}
use Rattle.paper_entry.specs.declared.types.Verdict.{Verdict}

-- ---- what a verdict says

-- a refusal inside the entry that has the ordinal
abbrev pub refused_within : ℕ → ℕ → RecordNo → ℕ → Verdict
refused_within ordinal refusal at column =
    record { refusal = refusal; «record» = at; column = column; totals = no_totals; ordinal = ordinal }

-- a refusal in no entry of a file, or of a single entry
abbrev pub refused : ℕ → RecordNo → ℕ → Verdict
refused refusal at column = refused_within 0 refusal at column

abbrev pub accepted : Totals → Verdict
accepted totals = record { refusal = 0; «record» = record { 0 = 0 }; column = 0; totals = totals; ordinal = 0 }

-- ---- where an entry ends, and how long it may be

abbrev pub is_done : Phase → Bool
is_done Start = false
is_done Opened = false
is_done InSubentry = false
is_done InBib = false
is_done AfterBib = false
is_done InCommon = false
is_done AfterCommon = false
is_done InData = false
is_done AfterData = false
is_done Between = false
is_done Done = true

-- 1, "length 0, not a multiple of 81, or over 1,620,000", column 0, record 0
unfoldable pub length_good : ℕ → Bool
length_good n = not (eqb n 0) && (eqb (n % 81) 0 && leb n (MOST-RECORDS * 81))
