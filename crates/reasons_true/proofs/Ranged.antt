-- The ranges of records before a record stand for the parts that may be looked back at there.
-- Assumes nothing.
use Prim.Native.Nat.{ℕ, zero, suc, ◌+◌, ◌*◌, ◌≤◌}
use mathlib.Core.Path.{◌≡◌, refl, sym, ◌∙◌, ap, subst}
use mathlib.Core.List.{List, [], ◌++◌}
use native.Mathlib.Omega.{arith}
use native.Mathlib.Numerals.{add-one}
use lib.ListN.{length, take, get_or}
use lib.Seq.{length-take-le, take-add}
use Rattle.laws.specs.Blocks.{block_at}
use Rattle.paper_record.specs.Fields.{fields_of}
use Rattle.paper_record.specs.Identifier.{identifier_of}
use Rattle.paper_rules.specs.State.{Seen}
use Rattle.paper_rules.specs.Ranging.{seen_of, Placed, AllPlaced}
use Rattle.paper_entry.specs.Parts.{seen_after}
use Rattle.paper_entry.specs.Ranging.{ranges_after}
use Rattle.paper_entry.specs.Next.{context_after}
use Rattle.paper_entry.specs.Contexts.{context_at, role_at}
use Rattle.paper_reasons.specs.Ranges.{ranges_at}
use Rattle.paper_reasons.specs.Reason.{heading_records}
use Rattle.entry_walk.proofs.Contexts.{count_next, records-at}
use Rattle.entry_ranges.proofs.Following.{Joins, all_placed, seen_next, reaches, joins-next}
use Rattle.reasons_true.proofs.Long.{block-long}

pub record Ranged (s : List ℕ) (i : ℕ) : Type 0 where
  pub seen : seen_of (take (i * 81) s) (ranges_at s i) ≡ (context_at s i).seen
  pub placed : AllPlaced (ranges_at s i) i
  pub joins : Joins (context_at s i).phase (context_at s i).track (ranges_at s i)

next-bytes : (s : List ℕ) (i : ℕ) → take (suc i * 81) s ≡ take (i * 81) s ++ block_at 81 s i
next-bytes s i =
    let e : suc i * 81 ≡ i * 81 + 81 = omega arith in
    ap (λ (k : ℕ). take k s) e ∙ take-add (i * 81) 81 s

ranged-next : (s : List ℕ) (i : ℕ) → (i + 1) * 81 ≤ length s → Ranged s i → Ranged s (suc i)
unfolding context_at context_after ranges_at
ranged-next s i h k =
    let c = context_at s i in
    let t = c.track in
    let g = ranges_at s i in
    let b = take (i * 81) s in
    let r = block_at 81 s i in
    let fs = fields_of r in
    let role = role_at s i in
    let n : t.records.0 ≡ i = records-at s i in
    let placed : AllPlaced g t.records.0 = subst (λ (x : ℕ). AllPlaced g x) (sym n) k.placed in
    let long : length b ≡ t.records.0 * 81 =
    length-take-le (i * 81) s (omega arith) ∙ ap (λ (x : ℕ). x * 81) (sym n) in
    record {
      seen = ap (λ (x : List ℕ). seen_of x (ranges_after g t role fs)) (next-bytes s i)
          ∙ seen_next t g role fs b r long (block-long s i h) placed
          (reaches c.phase t g (identifier_of (get_or fs 0 [])) (get_or fs 0 []) k.joins)
          ∙ ap (λ (x : Seen). seen_after x t role fs r) k.seen;
      placed = subst (λ (x : ℕ). AllPlaced (ranges_after g t role fs) x) (ap (λ (x : ℕ). x + 1) n ∙ add-one i)
          (all_placed t g role fs placed);
      joins = joins-next t g role fs r (count_next t role fs r);
    }

pub ranged : (s : List ℕ) (i : ℕ) → i * 81 ≤ length s → Ranged s i
unfolding context_at ranges_at
ranged s zero h =
    record {
      seen = refl;
      placed = omega arith;
      joins = record { bib = λ e. refl; under = λ e. refl; table = λ e q. refl };
    }
ranged s (suc i) h = ranged-next s i (omega arith) (ranged s i (omega arith))

-- the heading records of a section stand before the record
pub headings-placed : (s : List ℕ) (i : ℕ) → i * 81 ≤ length s → (section : ℕ) → 1 ≤ section → section ≤ 3
    → Placed (heading_records (ranges_at s i) section) i
headings-placed s i h zero a b = absurd (omega arith)
headings-placed s i h (suc zero) a b = (ranged s i h).placed.common001
headings-placed s i h (suc (suc zero)) a b = (ranged s i h).placed.common
headings-placed s i h (suc (suc (suc zero))) a b = (ranged s i h).placed.table
headings-placed s i h (suc (suc (suc (suc section)))) a b = absurd (omega arith)
