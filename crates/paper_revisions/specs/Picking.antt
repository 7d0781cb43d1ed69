-- Subentry n of whichever of the two holds it (document 02, M-109):
--
--   "Given the held entry and the revision, both accepted and with one accession, hand out subentry n as a part of
--   whichever of the two holds it: the only one that has it, or, where both do, the revision unless its date for n is
--   earlier. [..] Refusals: 60 either entry refused, the held one named first; 61 accessions differ; 32 neither has n; 62
--   the one to hand out is NOSUBENT"
use Rattle.std.specs.Prelude.{ℕ, ◌-◌, ◌*◌, Bool, false, cond, not, ◌&&◌, ◌||◌, List, [], ◌∷◌, ◌++◌, eqb, leb, length, take, drop}
use Rattle.laws.specs.Blocks.{block_at}
use Rattle.paper_record.specs.Word.{equal_to}
use Rattle.paper_record.specs.Fields.{field_at}
use Rattle.paper_record.specs.Expected.{accession_of}
use Rattle.paper_record.specs.Identifier.{NOSUBENT, identifier_of}
use Rattle.paper_entry.specs.declared.types.Answer.{Answer}
use Rattle.paper_entry.specs.declared.types.Verdict.{Verdict}
use Rattle.paper_entry.specs.Judging.{judge_of}
use Rattle.paper_entry.specs.Answer.{Refusal, refusal, first_of, is_refused, answer_of}
use Rattle.paper_revisions.specs.declared.types.Both.{Both}
use Rattle.paper_revisions.specs.declared.types.Extent.{Extent}
use Rattle.paper_revisions.specs.declared.types.Picked.{Picked}
use Rattle.paper_revisions.specs.Extents.{extent_of, has, date_at}

-- ---- which of the two

-- the date of the subentry n, that of its SUBENT or NOSUBENT record
abbrev pub date_of : List ℕ → ℕ → ℕ
date_of s n = date_at s (extent_of s n).from

-- "the only one that has it, or, where both do, the revision unless its date for n is earlier"
unfoldable pub in_revision : List ℕ → List ℕ → ℕ → Bool
in_revision held revision n = has revision n && (not (has held n) || leb (date_of held n) (date_of revision n))

-- the held one also where neither has it
abbrev pub holder : List ℕ → List ℕ → ℕ → List ℕ
holder held revision n = cond (in_revision held revision n) revision held

-- ---- refusals, in their order

-- "61 accessions differ"
abbrev pub other_accession : List ℕ → List ℕ → Bool
other_accession held revision = not (equal_to 5 (accession_of (block_at 81 held 0)) (accession_of (block_at 81 revision 0)))

-- "32 neither has n"
abbrev pub neither : List ℕ → List ℕ → ℕ → Bool
neither held revision n = not (has held n || has revision n)

-- "62 the one to hand out is NOSUBENT"
abbrev pub is_gone : List ℕ → ℕ → Bool
is_gone s n = eqb (identifier_of (field_at (block_at 81 s (extent_of s n).from) 0)) NOSUBENT

-- "60 either entry refused", then 61: both calls begin so
abbrev pub both_refusals : List ℕ → List ℕ → List Refusal
both_refusals held revision =
    refusal 60 (is_refused (judge_of held))
    ∷ refusal 60 (is_refused (judge_of revision))
    ∷ refusal 61 (other_accession held revision)
    ∷ []

unfoldable pub pick_refusal : List ℕ → List ℕ → ℕ → ℕ
pick_refusal held revision n =
    first_of
    (both_refusals held revision
    ++ (refusal 32 (neither held revision n) ∷ refusal 62 (is_gone (holder held revision n) n) ∷ []))

-- ---- what is answered

-- the refusal, record and column of a verdict beside a number
abbrev pub beside_verdict : ℕ → Verdict → Answer
beside_verdict number v =
    record { number = number; refusal = v.refusal; «record» = v.«record»; column = v.column; ordinal = v.ordinal }

-- "the held one named first": 1 the held entry, 2 the revision
abbrev pub refused_one : List ℕ → List ℕ → ℕ
refused_one held revision = cond (is_refused (judge_of held)) 1 2

abbrev pub verdict_of_one : List ℕ → List ℕ → Verdict
verdict_of_one held revision = cond (is_refused (judge_of held)) (judge_of held) (judge_of revision)

-- zeros beside any other number
unfoldable pub answer_of_both : List ℕ → List ℕ → ℕ → Answer
answer_of_both held revision number =
    cond (eqb number 60) (beside_verdict 60 (verdict_of_one held revision)) (answer_of number)

abbrev pub which_of_both : List ℕ → List ℕ → ℕ → ℕ
which_of_both held revision number = cond (eqb number 60) (refused_one held revision) 0

-- what both calls answer before they look for a subentry; no call of users, and plainly said by `PickSays` and `MergeSays`
unfoldable pub both_of : List ℕ → List ℕ → Both
both_of held revision =
    let number : ℕ = first_of (both_refusals held revision) in
    record { answer = answer_of_both held revision number; which = which_of_both held revision number }

abbrev pub part_of : Bool → Extent → Picked
part_of revision e =
    record {
      answer = answer_of 0;
      which = 0;
      revision = revision;
      first = e.from * 81;
      length = (e.past - e.from) * 81;
    }

abbrev pub no_part : Answer → ℕ → Picked
no_part a which = record { answer = a; which = which; revision = false; first = 0; length = 0 }

unfoldable pub picked : List ℕ → List ℕ → ℕ → Picked
picked held revision n =
    let number : ℕ = pick_refusal held revision n in
    cond (eqb number 0) (part_of (in_revision held revision n) (extent_of (holder held revision n) n))
    (no_part (answer_of_both held revision number) (which_of_both held revision number))

-- the part itself, of the one that holds it
abbrev pub picked_bytes : List ℕ → List ℕ → Picked → List ℕ
picked_bytes held revision p = take p.length (drop p.first (cond p.revision revision held))
