-- The rule 17 finds exactly the values that are wrong under FLAG and DECAY-FLAG.
-- Assumes nothing.
use Prim.Native.Nat.{ℕ, ◌<◌}
use mathlib.Core.Path.{◌≡◌}
use mathlib.Core.Bool.{true}
use mathlib.Core.List.{List, ◌++◌}
use mathlib.Core.Logic.{◌↔◌, ◌⊎◌}
use lib.Dec.{eqb}
use Rattle.laws.specs.Blocks.{joined}
use Rattle.laws.specs.Members.{any_of}
use Rattle.laws.proofs.Members.{any_append}
use Rattle.paper_record.specs.Fields.{field_at, fields_of}
use Rattle.paper_record.proofs.ReadColumns.{field-of}
use Rattle.paper_rules.specs.declared.types.Track.{Track}
use Rattle.paper_rules.specs.State.{Seen, used}
use Rattle.paper_rules.specs.Record.{Record, field_column}
use Rattle.paper_rules.specs.Codes.{codes_of}
use Rattle.paper_rules.specs.Flags.{column_over, heading_over, flag_fault_at, rule17}
use Rattle.rules_plain.specs.Repeated.{RecordsBefore, SeenBefore, Finds}
use Rattle.rules_plain.specs.Flags.{CodeAmong, CodeMet, WrongFlag, over_field, CodesAre, FlagsExactly}
use Rattle.rules_plain.proofs.Rows.{heading-over}
use Rattle.rules_plain.proofs.Exactly.{either-met}
use Rattle.rules_plain.proofs.Somewhere.{columns-place, place-columns}
use Rattle.rules_plain.proofs.Repeated.{place-field, field-place}
use Rattle.rules_plain.proofs.FlagFields.{flag-wrong}
use Rattle.rules_plain.proofs.FlagCodes.{codes-met}

-- "in this subentry or 001"
pub both-codes : (bib bib001 : List ℕ) (Own First : ℕ → Type 0) → CodesAre (codes_of bib) Own
    → CodesAre (codes_of bib001) First → CodesAre (codes_of bib ++ codes_of bib001) (λ n. Own n ⊎ First n)
both-codes bib bib001 Own First own first n =
    rw (any_append (eqb n) (codes_of bib) (codes_of bib001))
    (either-met (any_of (eqb n) (codes_of bib)) (any_of (eqb n) (codes_of bib001)) (Own n) (First n) (own n) (first n))

module _ (s : Seen) (t : Track) (b : RecordsBefore) (r : Record) (seen : SeenBefore s b) where
  met : CodesAre (codes_of s.bib ++ codes_of s.bib001) (CodeMet b)
  met =
      rw (seen.bib, seen.bib001)
      (both-codes (joined b.bib) (joined b.bib001) (CodeAmong b.bib) (CodeAmong b.bib001)
      (codes-met b.bib seen.long_bib) (codes-met b.bib001 seen.long_bib001))

  abbrev WrongIn : ℕ → Type 0
  WrongIn k = WrongFlag (CodeMet b) (over_field b t k) (field_at r k)

  heading-as : (k : ℕ) → heading_over s.table t k ≡ over_field b t k
  heading-as k = rw seen.table (heading-over b.table (column_over t k) seen.long.table)

  wrong-field : (k : ℕ) → k < 6 → (flag_fault_at s t (fields_of r) k ≡ true) ↔ WrongIn k
  wrong-field k l =
      rw (field-of r k l, heading-as k)
      (flag-wrong (CodeMet b) s.bib s.bib001 (over_field b t k) (field_at r k) met)

  flags-find : Finds (rule17 s t (fields_of r)) t WrongIn
  unfolding rule17
  flags-find c = (
    λ h. place-field t (flag_fault_at s t (fields_of r)) WrongIn wrong-field c
        (columns-place (flag_fault_at s t (fields_of r)) field_column c 0 (used t) h),
    λ h. place-columns (flag_fault_at s t (fields_of r)) field_column c 0 (used t)
        (field-place t (flag_fault_at s t (fields_of r)) WrongIn wrong-field c h),
  )

pub flags-exactly : FlagsExactly
flags-exactly s t b r seen = flags-find s t b r seen
