-- The rules for the fields of system records: refusals 7 and 9. Counts have a rule of their own (Counts).
use Rattle.std.specs.Prelude.{ℕ, Bool, true, cond, not, ◌&&◌, ◌||◌, List, ◌++◌, eqb, ltb, leb}
use Rattle.paper_record.specs.Fields.{n1, n2}
use Rattle.paper_record.specs.Word.{equal_to}
use Rattle.paper_record.specs.Identifier.{ENTRY, is_end}
use Rattle.paper_record.specs.System.{count_of, is_count, is_date, is_entry_n1, is_subent_n1, subentry_of}
use Rattle.paper_record.specs.Expected.{subent_accession}
use Rattle.paper_rules.specs.declared.types.Track.{Track}
use Rattle.paper_rules.specs.Limits.{LAST-SUBENTRY}
use Rattle.paper_rules.specs.Roles.{Role, opens_subentry, opens_section}
use Rattle.paper_rules.specs.Record.{Fields}
use Rattle.paper_faults.specs.Fault.{Columns, when}

-- ---- the table of N1 and N2, each by its form

abbrev pub SystemForm : Type 0
SystemForm = ℕ

abbrev pub FREE : SystemForm
FREE = 0

abbrev pub ENTRY-N1 : SystemForm
ENTRY-N1 = 1

abbrev pub SUBENT-N1 : SystemForm
SUBENT-N1 = 2

abbrev pub DATE : SystemForm
DATE = 3

abbrev pub COUNT : SystemForm
COUNT = 4

unfoldable pub form_n1 : Role → SystemForm
form_n1 role =
    cond (eqb role ENTRY) ENTRY-N1
    (cond (opens_subentry role) SUBENT-N1
    (cond (opens_section role || is_end role) COUNT FREE))

unfoldable pub form_n2 : Role → SystemForm
form_n2 role =
    cond (eqb role ENTRY || opens_subentry role) DATE
    (cond (opens_section role) COUNT FREE)

unfoldable pub in_form : SystemForm → List ℕ → Bool
in_form form f =
    cond (eqb form ENTRY-N1) (is_entry_n1 f)
    (cond (eqb form SUBENT-N1) (is_subent_n1 f)
    (cond (eqb form DATE) (is_date f)
    (cond (eqb form COUNT) (is_count (count_of f)) true)))

-- 7, "system field not in its form", column 12 or 23
unfoldable pub rule7 : Role → Fields → Columns
rule7 role fs = when (not (in_form (form_n1 role) (n1 fs))) 12 ++ when (not (in_form (form_n2 role) (n2 fs))) 23

-- ---- subentry numbers

-- "The first subentry is SUBENT 001." "Later numbers rise strictly, up to 998."
abbrev pub number_due : Track → ℕ → Bool
number_due t number =
    cond (eqb t.totals.subentries 0) (eqb number 1)
    (ltb t.subentry.number number && leb number LAST-SUBENTRY)

-- the accession in N1 of SUBENT and NOSUBENT
abbrev pub accession_n1 : Fields → List ℕ
accession_n1 fs = subent_accession (n1 fs)

-- 9, "SUBENT/NOSUBENT: other accession, first not 001, not rising, 000 or 999", column 12
unfoldable pub rule9 : Track → Fields → Columns
rule9 t fs = when (not (equal_to 5 (accession_n1 fs) t.accession && number_due t (subentry_of (n1 fs)))) 12
