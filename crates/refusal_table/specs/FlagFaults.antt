-- What is wrong at a value that is refused with 17: said in the plain words of rules_plain, over records of the entry
-- that stand before it.
use Rattle.std.specs.Prelude.{ℕ, suc, ◌+◌, ◌*◌, ◌≤◌, ◌≡◌, true, List}
use Rattle.paper_record.specs.Fields.{field_at}
use Rattle.paper_record.specs.Identifier.{COMMON, DATA}
use Rattle.paper_rules.specs.declared.types.Track.{Track}
use Rattle.paper_rules.specs.Record.{Record}
use Rattle.paper_rules.specs.Roles.{is_value}
use Rattle.rules_plain.specs.Places.{cell}
use Rattle.rules_plain.specs.Repeated.{RecordsBefore}
use Rattle.rules_plain.specs.Flags.{CodeMet, WrongFlag, over_field}
use Rattle.paper_entry.specs.Verdict.{refused}
use Rattle.paper_entry.specs.Judging.{judge_of}
use Rattle.paper_entry.specs.Contexts.{context_at, role_at}
use Rattle.entry_walk.specs.First.{NothingBefore}
use Rattle.refusal_table.specs.Table.{values}
use Rattle.refusal_table.specs.KindOf.{announced_n2, InRow}
use Rattle.refusal_table.specs.HeadingFaults.{WrongField, DueThere, RefusedThere}

-- the value in the field k, in COMMON or in DATA, under the heading of its column
abbrev pub FlagValue : Track → ℕ → RecordsBefore → Record → ℕ → Type 0
FlagValue t kind b r k = WrongFlag (CodeMet b) (over_field b t k) (field_at r k)

-- "17 an exponent there, or a FLAG value without code, on the value record after 15, column as for 15"; records are
-- numbered from 1
abbrev pub SeventeenSaid : Type 0
SeventeenSaid =
    (s : List ℕ) (i k : ℕ) → judge_of s ≡ refused 17 (record { 0 = i + 1 }) k
    → WrongField values (FlagValue (context_at s i).track) s i k

-- and no such value passes
abbrev pub FlagRefused : Type 0
FlagRefused =
    (s : List ℕ) (i k : ℕ) → DueThere s i is_value → WrongField values (FlagValue (context_at s i).track) s i k
    → RefusedThere s i 17 k

-- ---- the heading over a value, by what a reader sees

-- the record with the index i is the record m, counted from 0, of the line of COMMON or of a line of DATA
pub data InLine (s : List ℕ) (i m : ℕ) : Type 0 where
  of_common : (j : ℕ) (x : InRow s COMMON j 2 i) → x.m ≡ m → InLine s i m
  of_data : (j line : ℕ) → 1 ≤ line → line ≤ announced_n2 s j → (x : InRow s DATA j (suc line) i) → x.m ≡ m
      → InLine s i m

-- a value record to which judging comes stands in a line, and each record of the line before it has six columns
abbrev pub OverFields : Type 0
OverFields =
    (s : List ℕ) (i : ℕ) → NothingBefore s i → is_value (role_at s i) ≡ true
    → (m : ℕ) × InLine s i m
    × ((b : RecordsBefore) (k : ℕ) → over_field b (context_at s i).track k ≡ cell b.table (m * 6 + k))
