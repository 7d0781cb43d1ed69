-- What is said for 8, 9 and 14 (document 02, M-108).
use Rattle.std.specs.Prelude.{ℕ, ◌+◌, ◌*◌, ◌/◌, ◌<◌, ◌≡◌, List}
use Rattle.laws.specs.Blocks.{block_at}
use Rattle.paper_record.specs.Places.{records_for}
use Rattle.paper_record.specs.Fields.{fields_of, field_at}
use Rattle.paper_record.specs.Identifier.{BIB, ENDBIB, COMMON, ENDCOMMON, DATA, ENDDATA, ENDSUBENT, ENDENTRY}
use Rattle.paper_record.specs.Word.{pointer_of}
use Rattle.paper_rules.specs.declared.types.Track.{Track}
use Rattle.paper_rules.specs.Counts.{count_n1, count_n2}
use Rattle.paper_entry.specs.Verdict.{refused}
use Rattle.paper_entry.specs.Judging.{judge_of}
use Rattle.paper_entry.specs.Contexts.{context_at, role_at}
use Rattle.paper_reasons.specs.declared.types.Facts.{Facts}
use Rattle.paper_reasons.specs.declared.types.Facts.TheVariants.{Count, Range as Limits, Previous, Pointer}
use Rattle.paper_reasons.specs.Reason.{explain}

-- ---- 8

pub data Outside (least greatest n : ℕ) : Type 0 where
  too_few : n < least → Outside least greatest n
  too_many : greatest < n → Outside least greatest n

-- "for 8 the announced and the true count (on ENDBIB its own before the keywords) [..] For 8 out of range it prints least
-- and greatest, 0 for no greatest": by the kind of record and the column, a and b being N1 and N2 there
pub data CountSaid (t : Track) (a b : ℕ) : ℕ → ℕ → Facts → Type 0 where
  -- "keywords, at least 1"; "records, at least N1"
  bib_keywords : a < 1 → CountSaid t a b BIB 12 (Limits 1 0)
  bib-records : b < a → CountSaid t a b BIB 23 (Limits a 0)
  -- "columns, 1-18"; "COMMON has exactly 3k records"
  common_columns : Outside 1 18 a → CountSaid t a b COMMON 12 (Limits 1 18)
  common_records : (b ≡ 3 * records_for a → ⊥) → CountSaid t a b COMMON 23 (Count b (3 * records_for a))
  -- "columns, 1-18"; "lines, 1-20,000"
  data_columns : Outside 1 18 a → CountSaid t a b DATA 12 (Limits 1 18)
  data_lines : Outside 1 20000 b → CountSaid t a b DATA 23 (Limits 1 20000)
  -- "records between"
  end_bib : (a ≡ t.section → ⊥) → CountSaid t a b ENDBIB 12 (Count a t.section)
  end_common : (a ≡ t.section → ⊥) → CountSaid t a b ENDCOMMON 12 (Count a t.section)
  end_data : (a ≡ t.section → ⊥) → CountSaid t a b ENDDATA 12 (Count a t.section)
  end_subent : (a ≡ t.subentry.records → ⊥) → CountSaid t a b ENDSUBENT 12 (Count a t.subentry.records)
  -- "subentries, NOSUBENT included"
  end_entry : (a ≡ t.totals.subentries → ⊥) → CountSaid t a b ENDENTRY 12 (Count a t.totals.subentries)
  -- ENDBIB's own count is true: the keywords that BIB announced, and those met
  keywords : a ≡ t.section → (t.bib.keywords ≡ t.bib.met → ⊥)
      → CountSaid t a b ENDBIB 12 (Count t.bib.keywords t.bib.met)

abbrev pub Explained8 : Type 0
Explained8 =
    (s : List ℕ) (i k : ℕ) → judge_of s ≡ refused 8 (record { 0 = i + 1 }) k
    → CountSaid (context_at s i).track (count_n1 (fields_of (block_at 81 s i))) (count_n2 (fields_of (block_at 81 s i)))
    (role_at s i) k (explain s).reason.facts

-- and nothing else is so
abbrev pub OneCount : Type 0
OneCount =
    (t : Track) (a b role k : ℕ) (x y : Facts) → CountSaid t a b role k x → CountSaid t a b role k y → x ≡ y

-- ---- 9: the number of the subentry before

abbrev pub Explained9 : Type 0
Explained9 =
    (s : List ℕ) (i : ℕ) → judge_of s ≡ refused 9 (record { 0 = i + 1 }) 12
    → (explain s).reason.facts ≡ Previous (context_at s i).track.subentry.number

-- ---- 14: the pointer of the heading in that column

abbrev pub Explained14 : Type 0
Explained14 =
    (s : List ℕ) (i k : ℕ) → judge_of s ≡ refused 14 (record { 0 = i + 1 }) k
    → (explain s).reason.facts ≡ Pointer (pointer_of (field_at (block_at 81 s i) (k / 11)))
