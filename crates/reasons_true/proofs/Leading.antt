-- The sections are searched in the order of the entry: where one has records, it begins no later than the sections that
-- are searched behind it. Assumes nothing.
use Prim.Native.Nat.{ℕ, zero, suc, ◌*◌, ◌≤◌, ◌<◌}
use mathlib.Core.Path.{sym, subst}
use mathlib.Core.List.{List}
use native.Mathlib.Omega.{arith}
use lib.Dec.{eqb}
use lib.ListN.{length}
use Rattle.laws.specs.Blocks.{block_at}
use Rattle.paper_record.specs.Fields.{fields_of}
use Rattle.paper_record.specs.Identifier.{ENDCOMMON}
use Rattle.paper_record.specs.declared.types.Index.{Index}
use Rattle.paper_rules.specs.declared.types.Track.{Track}
use Rattle.paper_rules.specs.declared.types.Range.{Range}
use Rattle.paper_rules.specs.declared.types.Ranges.{Ranges}
use Rattle.paper_rules.specs.Roles.{opens_subentry}
use Rattle.paper_rules.specs.Ranging.{Placed, AllPlaced}
use Rattle.laws.proofs.EitherWay.{either_way}
use Rattle.paper_entry.specs.declared.types.Change.{Change}
use Rattle.paper_entry.specs.declared.types.Change.TheVariants.{Kept, Emptied, Begun, Joined}
use Rattle.paper_entry.specs.Parts.{table_change, ends001}
use Rattle.paper_entry.specs.Ranging.{range_after, common_after, ranges_after}
use Rattle.paper_entry.specs.Contexts.{context_at, role_at}
use Rattle.paper_reasons.specs.Ranges.{ranges_at}
use Rattle.paper_reasons.specs.Reason.{heading_records}
use Rattle.entry_walk.proofs.Contexts.{records-at}
use Rattle.reasons_true.proofs.Ranged.{ranged}

-- x has no record, or begins no later than y
abbrev Leads : Range → Range → Type 0
Leads x y = x.from.0 < x.past.0 → x.from.0 ≤ y.from.0

-- ---- one record

record InOrder (g : Ranges) : Type 0 where
  first : Leads g.common001 g.common
  second : Leads g.common g.table
  outer : Leads g.common001 g.table

-- a section never begins earlier than before
later : (change : Change) (g : Range) (i : Index) → Placed g i.0 → g.from.0 ≤ (range_after change g i).from.0
unfolding range_after
later Kept g i p = omega arith
later Emptied g i p = let a = p.ordered in let b = p.below in omega arith
later Begun g i p = let a = p.ordered in let b = p.below in omega arith
later Joined g i p = omega arith

further : (x y z : Range) → Leads x y → y.from.0 ≤ z.from.0 → Leads x z
further x y z h l some = let m = h some in omega arith

module _ (t : Track) (g : Ranges) (role : ℕ) (fs : List (List ℕ)) (p : AllPlaced g t.records.0) (o : InOrder g) where
  abbrev common : Range
  common = common_after g role t.records

  abbrev table : Range
  table = range_after (table_change role) g.table t.records

  -- what leads COMMON and the section in hand leads the new COMMON
  leads-common : (x : Range) → Placed x t.records.0 → Leads x g.common → Leads x g.table → Leads x common
  unfolding common_after range_after
  leads-common x q a b =
      either_way (Leads x) (opens_subentry role) _ _ (λ some. let m = q.ordered in let n = q.below in omega arith)
      (either_way (Leads x) (eqb role ENDCOMMON) g.table g.common b a)

  table-later : g.table.from.0 ≤ table.from.0
  table-later = later (table_change role) g.table t.records p.table

  common-leads : Leads common table
  unfolding common_after range_after
  common-leads =
      either_way (λ (x : Range). Leads x table) (opens_subentry role) _ _ (λ some. absurd (omega arith))
      (either_way (λ (x : Range). Leads x table) (eqb role ENDCOMMON) g.table g.common (λ some. table-later)
      (further g.common g.table table o.second table-later))

  order-next : InOrder (ranges_after g t role fs)
  unfolding ranges_after
  order-next =
      record {
        first = either_way (λ (x : Range). Leads x common) (ends001 t role) g.common g.common001
            (leads-common g.common p.common (λ some. omega arith) o.second)
            (leads-common g.common001 p.common001 o.first o.outer);
        second = common-leads;
        outer = either_way (λ (x : Range). Leads x table) (ends001 t role) g.common g.common001
            (further g.common g.table table o.second table-later)
            (further g.common001 g.table table o.outer table-later);
      }

-- ---- all records

in_order : (s : List ℕ) (i : ℕ) → i * 81 ≤ length s → InOrder (ranges_at s i)
unfolding ranges_at
in_order s zero h = record { first = λ some. omega arith; second = λ some. omega arith; outer = λ some. omega arith }
in_order s (suc i) h =
    let g = ranges_at s i in
    let t = (context_at s i).track in
    order-next t g (role_at s i) (fields_of (block_at 81 s i))
    (subst (λ (x : ℕ). AllPlaced g x) (sym (records-at s i)) (ranged s i (omega arith)).placed)
    (in_order s i (omega arith))

-- a section that is searched before another
pub section-leads : (s : List ℕ) (i : ℕ) → i * 81 ≤ length s → (x y : ℕ) → 1 ≤ x → x < y → y ≤ 3
    → (heading_records (ranges_at s i) x).from.0 < (heading_records (ranges_at s i) x).past.0
    → (heading_records (ranges_at s i) x).from.0 ≤ (heading_records (ranges_at s i) y).from.0
section-leads s i h (suc zero) (suc (suc zero)) a b c = (in_order s i h).first
section-leads s i h (suc zero) (suc (suc (suc zero))) a b c = (in_order s i h).outer
section-leads s i h (suc (suc zero)) (suc (suc (suc zero))) a b c = (in_order s i h).second
section-leads s i h zero y a b c = absurd (omega arith)
section-leads s i h (suc x) zero a b c = absurd (omega arith)
section-leads s i h (suc x) (suc zero) a b c = absurd (omega arith)
section-leads s i h (suc (suc x)) (suc (suc zero)) a b c = absurd (omega arith)
section-leads s i h (suc (suc (suc x))) (suc (suc (suc zero))) a b c = absurd (omega arith)
section-leads s i h (suc x) (suc (suc (suc (suc y)))) a b c = absurd (omega arith)
