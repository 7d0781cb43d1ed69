-- Why a record is refused (document 02, M-108):
--
--   "A small program shall print below the verdict: for 8 the announced and the true count (on ENDBIB its own before the
--   keywords), for 9 the previous subentry number (000 if none), for 13 record and column of the first equal heading, for
--   14 the pointer, for 5 and 6 the expected characters. [..] For 8 out of range it prints least and greatest, 0 for no
--   greatest, and for the other refusals the verdict alone."
use Rattle.std.specs.Prelude.{ℕ, ◌+◌, ◌-◌, ◌*◌, ◌/◌, ◌%◌, Bool, true, cond, List, [], ◌++◌, eqb, take, get_or, replicate, Option, Some, None}
use Rattle.laws.specs.Blocks.{block_at}
use Rattle.paper_record.specs.Places.{record_of, records_for}
use Rattle.paper_record.specs.Fields.{fields_of}
use Rattle.paper_record.specs.Identifier.{COMMON}
use Rattle.paper_record.specs.Expected.{in_digits}
use Rattle.paper_record.specs.Word.{pointer_of}
use Rattle.paper_rules.specs.declared.types.Track.{Track}
use Rattle.paper_rules.specs.declared.types.Range.{Range}
use Rattle.paper_rules.specs.declared.types.Ranges.{Ranges}
use Rattle.paper_rules.specs.declared.types.Limit.{Limit}
use Rattle.paper_rules.specs.declared.types.Limit.TheVariants.{AtLeast, Between}
use Rattle.paper_rules.specs.declared.types.HeadingPlace.{HeadingPlace}
use Rattle.paper_rules.specs.State.{Seen}
use Rattle.paper_rules.specs.Roles.{Role, opens_section}
use Rattle.paper_rules.specs.Record.{Fields, Record, field_column}
use Rattle.paper_rules.specs.Every.{expected_identification, expected_sequence}
use Rattle.paper_rules.specs.Counts.{count_n1, count_n2, limit_n1, limit_n2, true_count}
use Rattle.paper_rules.specs.Earlier.{earlier, equal_heading}
use Rattle.paper_entry.specs.declared.types.Verdict.{Verdict}
use Rattle.paper_entry.specs.Judging.{judge_of}
use Rattle.paper_entry.specs.Contexts.{context_at, role_at}
use Rattle.paper_reasons.specs.declared.types.Facts.{Facts}
use Rattle.paper_reasons.specs.declared.types.Facts.TheVariants.{Alone, Count, Range as Limits, Previous, Equal, Pointer, Expected}
use Rattle.paper_reasons.specs.declared.types.Reason.{Reason}
use Rattle.paper_reasons.specs.declared.types.Explained.{Explained}
use Rattle.paper_reasons.specs.Ranges.{ranges_at}

-- ---- the forms of a reason

abbrev pub no_characters : List ℕ
no_characters = replicate 8 32

abbrev pub stating : Facts → Reason
stating facts = record { facts = facts; characters = no_characters }

-- "for the other refusals the verdict alone"
abbrev pub nothing : Reason
nothing = stating Alone

-- the eight characters of an identification, the five of a sequence number with blanks behind them
abbrev pub expecting : List ℕ → Reason
expecting characters = record { facts = Expected; characters = take 8 (characters ++ no_characters) }

-- "least and greatest, 0 for no greatest"
abbrev pub limits_of : Limit → Facts
limits_of (AtLeast least) = Limits least 0
limits_of (Between least greatest) = Limits least greatest

-- ---- 8

-- what a section announces (its N1 and N2) out of range; but N2 of COMMON is a count, and 3k is the true one
unfoldable pub announced_facts : Role → ℕ → ℕ → ℕ → Facts
announced_facts role a b column =
    cond (eqb column 12) (limits_of (limit_n1 role))
    (cond (eqb role COMMON) (Count b (3 * records_for a)) (limits_of (limit_n2 role a)))

-- what an END record says (its N1), "on ENDBIB its own before the keywords"
unfoldable pub end_facts : Track → Role → ℕ → Facts
end_facts t role n =
    cond (eqb n (true_count t role)) (Count t.bib.keywords t.bib.met) (Count n (true_count t role))

unfoldable pub count_facts : Track → Role → Fields → ℕ → Facts
count_facts t role fs column =
    cond (opens_section role) (announced_facts role (count_n1 fs) (count_n2 fs) column) (end_facts t role (count_n1 fs))

-- ---- 13 and 14

-- the field of a column of the record, from 0
abbrev pub field_in : ℕ → ℕ
field_in column = (column - 1) / 11

-- the heading records of a section
abbrev pub heading_records : Ranges → ℕ → Range
heading_records g section = cond (eqb section 1) g.common001 (cond (eqb section 2) g.common g.table)

-- the record and the column of a heading, from its section and its column there
abbrev pub heading_place : Ranges → Option HeadingPlace → Facts
heading_place g (Some place) =
    Equal (record_of (record { 0 = (heading_records g place.section).from.0 + (place.column - 1) / 6 }))
    (field_column ((place.column - 1) % 6))
heading_place g None = Alone

-- "record and column of the first equal heading"
unfoldable pub equal_facts : Seen → Ranges → Fields → Record → ℕ → Facts
equal_facts s g fs r k =
    heading_place g (equal_heading (get_or fs k []) (earlier s.common001 s.common s.table r k))

-- ---- the reason of a refusal, with its number and column, at a record

-- the refusals that have one
unfoldable pub has_reason : ℕ → Bool
has_reason n =
    cond (eqb n 5) true
    (cond (eqb n 6) true
    (cond (eqb n 8) true
    (cond (eqb n 9) true
    (cond (eqb n 13) true (eqb n 14)))))

unfoldable pub reason_for : Track → Seen → Ranges → Role → Fields → Record → ℕ → ℕ → Reason
reason_for t s g role fs r number column =
    cond (eqb number 5) (expecting (expected_identification t role fs))
    (cond (eqb number 6) (expecting (in_digits 5 (expected_sequence t role)))
    (cond (eqb number 8) (stating (count_facts t role fs column))
    (cond (eqb number 9) (stating (Previous t.subentry.number))
    (cond (eqb number 13) (stating (equal_facts s g fs r (field_in column)))
    (cond (eqb number 14) (stating (Pointer (pointer_of (get_or fs (field_in column) []))))
    nothing)))))

-- at the record with the index i of an entry
abbrev pub reason_at : List ℕ → ℕ → ℕ → ℕ → Reason
reason_at s i number column =
    reason_for (context_at s i).track (context_at s i).seen (ranges_at s i) (role_at s i) (fields_of (block_at 81 s i))
    (block_at 81 s i) number column

-- of a verdict: 1 is at no record
abbrev pub reason_of : List ℕ → Verdict → Reason
reason_of s v = cond (eqb v.record.0 0) nothing (reason_at s (v.record.0 - 1) v.refusal v.column)

unfoldable pub explain : List ℕ → Explained
explain s = record { verdict = judge_of s; reason = reason_of s (judge_of s) }
