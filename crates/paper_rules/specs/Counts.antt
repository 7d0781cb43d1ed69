-- The rule for counts: refusal 8. Of a field that is no count, 7 comes first.
use Rattle.std.specs.Prelude.{ℕ, ◌*◌, ◌≤◌, ◌≡◌, Bool, cond, not, ◌&&◌, ◌||◌, ◌++◌, eqb, leb}
use Rattle.paper_record.specs.Text.{within}
use Rattle.paper_record.specs.Places.{records_for}
use Rattle.paper_record.specs.Fields.{n1, n2}
use Rattle.paper_record.specs.Identifier.{BIB, ENDBIB, COMMON, ENDSUBENT, ENDENTRY, is_end}
use Rattle.paper_record.specs.System.{count_of, number_of}
use Rattle.paper_rules.specs.declared.types.Track.{Track}
use Rattle.paper_rules.specs.declared.types.Limit.{Limit}
use Rattle.paper_rules.specs.declared.types.Limit.TheVariants.{AtLeast, Between}
use Rattle.paper_rules.specs.Limits.{MOST-COLUMNS, MOST-LINES}
use Rattle.paper_rules.specs.Roles.{Role, opens_section}
use Rattle.paper_rules.specs.Record.{Fields}
use Rattle.paper_faults.specs.Fault.{Columns, on, when}

abbrev pub count_n1 : Fields → ℕ
count_n1 fs = number_of (count_of (n1 fs))

abbrev pub count_n2 : Fields → ℕ
count_n2 fs = number_of (count_of (n2 fs))

-- "keywords, at least 1"; "columns, 1-18"
unfoldable pub limit_n1 : Role → Limit
limit_n1 role = cond (eqb role BIB) (AtLeast 1) (Between 1 MOST-COLUMNS)

abbrev pub exactly : ℕ → Limit
exactly n = Between n n

-- "records, at least N1"; "COMMON has exactly 3k records"; "lines, 1-20,000"
unfoldable pub limit_n2 : Role → ℕ → Limit
limit_n2 role n =
    cond (eqb role BIB) (AtLeast n)
    (cond (eqb role COMMON) (exactly (3 * records_for n))
    (Between 1 MOST-LINES))

-- a count of columns small enough for what it announces to be worked out
pub record Few (role n : ℕ) : Type 0 where
  pub columns : role ≡ COMMON → n ≤ MOST-COLUMNS

abbrev pub meets : Limit → ℕ → Bool
meets (AtLeast least) n = leb least n
meets (Between least greatest) n = within least greatest n

-- a section announces more or less than it may
unfoldable pub announced_fault : Role → ℕ → ℕ → Columns
announced_fault role a b = when (not (meets (limit_n1 role) a)) 12 ++ when (not (meets (limit_n2 role a) b)) 23

-- the count of an END record: "records between", on ENDENTRY "subentries, NOSUBENT included"
unfoldable pub true_count : Track → Role → ℕ
true_count t role =
    cond (eqb role ENDENTRY) t.totals.subentries
    (cond (eqb role ENDSUBENT) t.subentry.records t.section)

-- "keyword total judged on ENDBIB, column 12"
abbrev pub keywords_true : Track → Role → Bool
keywords_true t role = not (eqb role ENDBIB) || eqb t.bib.met t.bib.keywords

-- the count of an END record, and on ENDBIB that of the keywords, is the true one
abbrev pub count_true : Track → Role → ℕ → Bool
count_true t role n = eqb n (true_count t role) && keywords_true t role

-- 8, "count out of range or untrue (keyword total judged on ENDBIB, column 12)", column 12 or 23
unfoldable pub rule8 : Track → Role → Fields → Columns
rule8 t role fs =
    cond (opens_section role) (announced_fault role (count_n1 fs) (count_n2 fs))
    (on (is_end role) (when (not (count_true t role (count_n1 fs))) 12))
