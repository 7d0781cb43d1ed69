-- What is wrong at a text record that is refused with 10 or 11: in the plain words of rules_plain, over the records of
-- the entry between the BIB record and the refused one.
use Rattle.std.specs.Prelude.{ℕ, ◌+◌, ◌-◌, ◌/◌, ◌<◌, ◌≡◌, true, List, ◌↔◌, length}
use Rattle.laws.specs.Blocks.{block_at}
use Rattle.laws.specs.Members.{list_of}
use Rattle.paper_rules.specs.Record.{Record}
use Rattle.paper_rules.specs.Roles.{TEXT}
use Rattle.paper_rules.specs.Clean.{CleanEvery}
use Rattle.rules_plain.specs.Texts.{WrongKeyword, WrongPointer}
use Rattle.paper_entry.specs.Verdict.{refused, length_good}
use Rattle.paper_entry.specs.Judging.{judge_of}
use Rattle.paper_entry.specs.Contexts.{context_at, role_at}
use Rattle.entry_walk.specs.First.{NothingBefore}
use Rattle.refusal_table.specs.Table.{headings}
use Rattle.refusal_table.specs.KindOf.{fields_in, BehindBib, KindOf}

-- the records behind the one with the index j and before the one with the index i
abbrev pub records_between : List ℕ → ℕ → ℕ → List Record
records_between s j i = list_of (block_at 81 s) (j + 1) (i - (j + 1))

-- the record with the index i is a text record of the BIB that the record with the index `bib` opens, and this is wrong
-- at it behind the text records before it
pub record WrongText (Wrong : List Record → Record → Type 0) (s : List ℕ) (i : ℕ) : Type 0 where
  pub bib : ℕ
  pub behind : BehindBib s bib i
  pub wrong : Wrong (records_between s bib i) (block_at 81 s i)

-- ---- every refusal

-- "10 | keyword missing, malformed or repeated"; records are numbered from 1
abbrev pub TenSaid : Type 0
TenSaid =
    (s : List ℕ) (i k : ℕ) → judge_of s ≡ refused 10 (record { 0 = i + 1 }) k → WrongText WrongKeyword s i

-- "11 | bad pointer character (unused fields aside), or repeated under its keyword": on a text record, or on a heading
-- record
pub data PointerRefused (s : List ℕ) (i : ℕ) : Type 0 where
  in_text : WrongText WrongPointer s i → PointerRefused s i
  in_headings : (kind : ℕ) → headings kind ≡ true → KindOf s i kind → PointerRefused s i

abbrev pub ElevenSaid : Type 0
ElevenSaid =
    (s : List ℕ) (i k : ℕ) → judge_of s ≡ refused 11 (record { 0 = i + 1 }) k → PointerRefused s i

-- ---- and nothing that is wrong so passes

-- judging comes to the record with the index i, a text record is due there, and of the numbers for every record (2 to
-- 6) none is found
pub record TextDue (s : List ℕ) (i : ℕ) : Type 0 where
  pub length-good : length_good (length s) ≡ true
  pub there : i < length s / 81
  pub earlier : NothingBefore s i
  pub text : role_at s i ≡ TEXT
  pub every : CleanEvery (context_at s i).track TEXT (fields_in s i) (block_at 81 s i)

abbrev pub TenExactly : Type 0
TenExactly =
    (s : List ℕ) (i : ℕ) → TextDue s i
    → (judge_of s ≡ refused 10 (record { 0 = i + 1 }) 1) ↔ WrongText WrongKeyword s i

-- "within one record the lowest number"
abbrev pub ElevenExactly : Type 0
ElevenExactly =
    (s : List ℕ) (i : ℕ) → TextDue s i → (WrongText WrongKeyword s i → ⊥)
    → (judge_of s ≡ refused 11 (record { 0 = i + 1 }) 11) ↔ WrongText WrongPointer s i
