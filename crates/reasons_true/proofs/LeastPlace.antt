-- The first equal heading of the search is also the first of them in the entry.
-- Assumes nothing.
use Prim.Native.Nat.{ℕ, ◌*◌, ◌-◌, ◌/◌, ◌≤◌, ◌<◌}
use mathlib.Core.Path.{◌≡◌, refl}
use mathlib.Core.List.{List}
use mathlib.Core.Logic.{inl, inr}
use native.Mathlib.Omega.{arith}
use lib.ListN.{length}
use Rattle.laws.specs.Blocks.{block_at}
use Rattle.laws.proofs.Search.{either}
use Rattle.paper_record.specs.Fields.{field_at}
use Rattle.reasons_true.specs.Equal.{Searched, in_records, to_the_left, Earlier, FirstPlace, EqualLeast}
use Rattle.reasons_true.proofs.ReasonAt.{record-there}
use Rattle.reasons_true.proofs.Ranged.{headings-placed}
use Rattle.reasons_true.proofs.Leading.{section-leads}
use Rattle.reasons_true.proofs.Told.{equal-first}

not-later : (j f at field : ℕ) → Earlier j f at field → j ≤ at
not-later j f at field (inl l) = omega arith
not-later j f at field (inr (e, l)) = omega arith

module _ (s : List ℕ) (i k : ℕ) (here : i * 81 ≤ length s) where
  last-section : (q j f : ℕ) → Searched s i k q j f → q ≤ 3
  last-section x y z (in_records q j f a b from past c) = b
  last-section x y z (to_the_left f l) = omega arith

  -- what stands earlier than a heading of a section, and is searched in a later one, is of that section too
  of-section : (section at field q j f : ℕ) → Searched s i k section at field → Searched s i k q j f → section < q
      → j ≤ at → Searched s i k section j f
  of-section u v w x y z (in_records section at field a b from past c) (in_records q j f d e start end g) l m =
      let h = section-leads s i here section q a l e (omega arith) in
      in_records section j f a b (omega arith) (omega arith) g
  of-section u v w x y z (in_records section at field a b from past c) (to_the_left f d) l m =
      let o = (headings-placed s i here section a b).below in absurd (omega arith)
  of-section u v w x y z (to_the_left field d) h l m = let o = last-section x y z h in absurd (omega arith)

  least-place : (at field : ℕ) → FirstPlace s i k at field → (q j f : ℕ) → Searched s i k q j f
      → Earlier j f at field → field_at (block_at 81 s j) f ≡ field_at (block_at 81 s i) k → ⊥
  least-place at field x q j f h e same =
      let section = x.section in
      either q section (λ l. x.first q j f h (inl l) same)
      (λ m. either section q
      (λ l. x.first section j f (of-section section at field q j f x.searched h l (not-later j f at field e))
      (inr (refl, e)) same)
      (λ l. x.first q j f h (inr (omega arith, e)) same))

pub equal-least : EqualLeast
equal-least s i k at column e q =
    let there = record-there s i 13 k (omega arith) (omega arith) e in
    least-place s i (k / 11) (omega arith) (at.0 - 1) (column / 11) (equal-first s i k at column e q)
