-- What is answered where subentry n is asked for, in each case and in no other (document 02, M-109):
--
--   "hand out subentry n as a part of whichever of the two holds it: the only one that has it, or, where both do, the
--   revision unless its date for n is earlier. [..] Refusals: 60 either entry refused, the held one named first; 61
--   accessions differ; 32 neither has n; 62 the one to hand out is NOSUBENT"
--
-- Written out in full: nothing that the code follows stands here but `has`, `extent_of` and `judge_of`.
use Rattle.std.specs.Prelude.{ℕ, ◌+◌, ◌-◌, ◌*◌, ◌≤◌, ◌<◌, ◌≡◌, Bool, true, false, cond, ◌||◌, ◌↔◌, List, [], get_or, take, drop}
use Rattle.laws.specs.Blocks.{block_at}
use Rattle.paper_record.specs.Fields.{field_at}
use Rattle.paper_record.specs.Identifier.{NOSUBENT}
use Rattle.paper_record.specs.PlainNames.{Named}
use Rattle.paper_entry.specs.declared.types.Answer.{Answer}
use Rattle.paper_entry.specs.declared.types.Verdict.{Verdict}
use Rattle.paper_entry.specs.Judging.{judge_of, Accepted}
use Rattle.paper_revisions.specs.declared.types.Picked.{Picked}
use Rattle.paper_revisions.specs.Extents.{extent_of, has}
use Rattle.paper_revisions.specs.Picking.{picked, picked_bytes}
use Rattle.revisions_laws.specs.Ends.{dated}

-- ---- the two entries

-- the five characters of ENTRY, columns 67 to 71
abbrev pub OneAccession : List ℕ → List ℕ → Type 0
OneAccession held revision = (k : ℕ) → k < 5 → get_or held (66 + k) 0 ≡ get_or revision (66 + k) 0

-- "both accepted and with one accession"
pub record Paired (held revision : List ℕ) : Type 0 where
  pub held_good : Accepted held
  pub revision_good : Accepted revision
  pub accession : OneAccession held revision

-- ---- which of them holds n: true the revision, false the held one

-- the date of SUBENT or NOSUBENT, the first record of n
abbrev pub dated_for : List ℕ → ℕ → ℕ
dated_for s n = dated s (extent_of s n).from

pub data Holds (held revision : List ℕ) (n : ℕ) : Bool → Type 0 where
  only_revision : has revision n ≡ true → has held n ≡ false → Holds held revision n true
  only_held : has held n ≡ true → has revision n ≡ false → Holds held revision n false
  not_earlier : has held n ≡ true → has revision n ≡ true → dated_for held n ≤ dated_for revision n
      → Holds held revision n true
  earlier : has held n ≡ true → has revision n ≡ true → dated_for revision n < dated_for held n
      → Holds held revision n false

-- one of the two holds what either has, and one alone
pub record OneHolds (held revision : List ℕ) (n : ℕ) : Type 0 where
  pub which : Bool
  pub holds : Holds held revision n which
  pub alone : (other : Bool) → Holds held revision n other → other ≡ which

abbrev pub OneHolder : Type 0
OneHolder =
    (held revision : List ℕ) (n : ℕ) → ((has held n || has revision n) ≡ true) ↔ OneHolds held revision n

abbrev pub one_of : List ℕ → List ℕ → Bool → List ℕ
one_of held revision which = cond which revision held

-- its first record is NOSUBENT
abbrev pub Gone : List ℕ → ℕ → Type 0
Gone s n = Named (field_at (block_at 81 s (extent_of s n).from) 0) NOSUBENT

-- ---- the answer

-- the refusal, record and column of an entry beside a number, or zeros
abbrev pub beside : ℕ → Verdict → Answer
beside number v =
    record { number = number; refusal = v.refusal; «record» = v.«record»; column = v.column; ordinal = v.ordinal }

abbrev pub bare : ℕ → Answer
bare number = record { number = number; refusal = 0; «record» = record { 0 = 0 }; column = 0; ordinal = 0 }

abbrev pub without_part : Answer → ℕ → Picked
without_part answer which = record { answer = answer; which = which; revision = false; first = 0; length = 0 }

-- the part by its first byte and its length
abbrev pub with_part : Bool → List ℕ → ℕ → Picked
with_part which s n =
    record {
      answer = bare 0;
      which = 0;
      revision = which;
      first = (extent_of s n).from * 81;
      length = ((extent_of s n).past - (extent_of s n).from) * 81;
    }

pub data PickSays (held revision : List ℕ) (n : ℕ) : Picked → Type 0 where
  held_refused : (Accepted held → ⊥) → PickSays held revision n (without_part (beside 60 (judge_of held)) 1)
  revision_refused : Accepted held → (Accepted revision → ⊥)
      → PickSays held revision n (without_part (beside 60 (judge_of revision)) 2)
  accessions_differ : Accepted held → Accepted revision → (OneAccession held revision → ⊥)
      → PickSays held revision n (without_part (bare 61) 0)
  neither_has : Paired held revision → has held n ≡ false → has revision n ≡ false
      → PickSays held revision n (without_part (bare 32) 0)
  gone : Paired held revision → (which : Bool) → Holds held revision n which → Gone (one_of held revision which) n
      → PickSays held revision n (without_part (bare 62) 0)
  handed : Paired held revision → (which : Bool) → Holds held revision n which
      → (Gone (one_of held revision which) n → ⊥)
      → PickSays held revision n (with_part which (one_of held revision which) n)

abbrev pub PickSaid : Type 0
PickSaid = (held revision : List ℕ) (n : ℕ) (p : Picked) → (picked held revision n ≡ p) ↔ PickSays held revision n p

-- ---- the part itself

-- all records of n in an entry
abbrev pub bytes_under : List ℕ → ℕ → List ℕ
bytes_under s n = take (((extent_of s n).past - (extent_of s n).from) * 81) (drop ((extent_of s n).from * 81) s)

-- those of the one that holds it; nothing where it is refused
pub data PartHanded (held revision : List ℕ) (n : ℕ) : List ℕ → Type 0 where
  of_one : Paired held revision → (which : Bool) → Holds held revision n which
      → (Gone (one_of held revision which) n → ⊥)
      → PartHanded held revision n (bytes_under (one_of held revision which) n)
  of_none : ((picked held revision n).answer.number ≡ 0 → ⊥) → PartHanded held revision n []

abbrev pub PartSaid : Type 0
PartSaid =
    (held revision : List ℕ) (n : ℕ) (part : List ℕ)
    → (picked_bytes held revision (picked held revision n) ≡ part) ↔ PartHanded held revision n part
