-- What is wrong at a heading that is refused with 13 or 14: said in the plain words of rules_plain, over records of the
-- entry that stand before it. The records that are held against, the field that is wrong and where the entry is refused
-- (`HeldAgainst`, `WrongField`, `DueThere`, `RefusedThere`) are the same for a value that is refused with 17
-- (FlagFaults).
use Rattle.std.specs.Prelude.{ℕ, ◌+◌, ◌/◌, ◌<◌, ◌≡◌, Bool, true, List, [], ◌∷◌, eqb, length}
use Rattle.laws.specs.Blocks.{block_at}
use Rattle.laws.specs.Walk.{All}
use Rattle.paper_record.specs.Fields.{field_at}
use Rattle.paper_rules.specs.Roles.{TEXT, DATA-HEADING, is_heading}
use Rattle.paper_rules.specs.Record.{Record}
use Rattle.paper_faults.specs.Least.{Before}
use Rattle.rules_plain.specs.Repeated.{RecordsBefore, SeenBefore, Repeated, Lost, FirstOf}
use Rattle.paper_entry.specs.Verdict.{refused, length_good}
use Rattle.paper_entry.specs.Judging.{judge_of}
use Rattle.paper_entry.specs.Contexts.{context_at, role_at}
use Rattle.entry_walk.specs.First.{NothingBefore}
use Rattle.refusal_table.specs.Table.{among, headings}
use Rattle.refusal_table.specs.KindOf.{KindOf}

-- a record of the entry before the one with the index i, of one of these kinds
pub record StandsBefore (s : List ℕ) (i : ℕ) (kinds : ℕ → Bool) (r : Record) : Type 0 where
  pub at : ℕ
  pub before : at < i
  pub same : r ≡ block_at 81 s at
  pub kind : ℕ
  pub one_of : kinds kind ≡ true
  pub is : KindOf s at kind

-- the records that the record with the index i, of headings or of values, is held against: text records and heading
-- records of the entry, those whose bytes are kept there. Whose BIB it is, this subentry's or that of 001, is not said
-- here: `accepted-exactly` in good fixes it.
pub record HeldAgainst (s : List ℕ) (i : ℕ) (b : RecordsBefore) : Type 0 where
  pub seen : SeenBefore (context_at s i).seen b
  pub bib001 : All (StandsBefore s i (among (TEXT ∷ []))) b.bib001
  pub bib : All (StandsBefore s i (among (TEXT ∷ []))) b.bib
  pub common001 : All (StandsBefore s i headings) b.common001
  pub common : All (StandsBefore s i headings) b.common
  pub table : All (StandsBefore s i headings) b.table

-- the record with the index i is of one of these kinds, headings or values, and the one that is due there; and this is
-- wrong at the used field whose first column is k
pub record WrongField (kinds : ℕ → Bool) (Wrong : ℕ → RecordsBefore → Record → ℕ → Type 0) (s : List ℕ) (i k : ℕ)
    : Type 0 where
  pub kind : ℕ
  pub one_of : kinds kind ≡ true
  pub is : KindOf s i kind
  pub due : role_at s i ≡ kind
  pub before : RecordsBefore
  pub held : HeldAgainst s i before
  pub wrong : FirstOf (context_at s i).track (Wrong kind before (block_at 81 s i)) k

-- in DATA more may repeat than in COMMON
abbrev pub RepeatedHeading : ℕ → RecordsBefore → Record → ℕ → Type 0
RepeatedHeading kind b r k = Repeated (eqb kind DATA-HEADING) b r k

-- "13 | heading repeated | field's first"; records are numbered from 1
abbrev pub ThirteenSaid : Type 0
ThirteenSaid =
    (s : List ℕ) (i k : ℕ) → judge_of s ≡ refused 13 (record { 0 = i + 1 }) k → WrongField headings RepeatedHeading s i k

-- "14 | DATA pointer not found | field's first"
abbrev pub LostHeading : ℕ → RecordsBefore → Record → ℕ → Type 0
LostHeading kind b r k = Lost b (field_at r k)

abbrev pub FourteenSaid : Type 0
FourteenSaid =
    (s : List ℕ) (i k : ℕ) → judge_of s ≡ refused 14 (record { 0 = i + 1 }) k
    → WrongField (among (DATA-HEADING ∷ [])) LostHeading s i k

-- ---- and no such heading passes; nor such a value (FlagFaults)

-- judging comes to the record with the index i, and one with such a role, of headings or of values, is due there
pub record DueThere (s : List ℕ) (i : ℕ) (due : ℕ → Bool) : Type 0 where
  pub length-good : length_good (length s) ≡ true
  pub there : i < length s / 81
  pub earlier : NothingBefore s i
  pub role : due (role_at s i) ≡ true

-- the entry is refused at the record with the index i, with the number n at the column k or with what comes before
-- them: "within one record the lowest number; within that the leftmost column"
pub record RefusedThere (s : List ℕ) (i n k : ℕ) : Type 0 where
  pub number : ℕ
  pub column : ℕ
  pub verdict : judge_of s ≡ refused number (record { 0 = i + 1 }) column
  pub no_later : Before number column n k

abbrev pub RepeatedRefused : Type 0
RepeatedRefused =
    (s : List ℕ) (i k : ℕ) → DueThere s i is_heading → WrongField headings RepeatedHeading s i k → RefusedThere s i 13 k

abbrev pub LostRefused : Type 0
LostRefused =
    (s : List ℕ) (i k : ℕ) → DueThere s i (λ role. eqb role DATA-HEADING)
    → WrongField (among (DATA-HEADING ∷ [])) LostHeading s i k → RefusedThere s i 14 k
