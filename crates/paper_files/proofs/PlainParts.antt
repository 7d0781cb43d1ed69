-- The part that is computed is the one that is said plainly, and there is no other.
-- Assumes nothing.
use Prim.Native.Nat.{ℕ, zero, suc, ◌+◌, ◌*◌, ◌-◌, ◌<◌, ◌≤◌}
use mathlib.Core.Path.{◌≡◌, refl, sym}
use mathlib.Core.List.{List, []}
use native.Mathlib.Omega.{arith}
use borrow.Author.Tests.{eq-eqb, ne_eqb}
use lib.ListN.{length, take, drop, length-drop}
use lib.Seq.{length-take-le, take_all}
use Rattle.paper_files.specs.Parts.{entry_records, entry_length, entry_first, entry_from}
use Rattle.paper_files.specs.PlainParts.{HandedOut, an_entry, nothing, PartSaid, PartAlone, PartLong}
use Rattle.paper_files.proofs.EntryRecords.{begins-records, records-begins, records-there}

module _ (s : List ℕ) (at : ℕ) where
  -- an entry begins there
  pub first-begun : (entry_length s at ≡ 0 → ⊥) → entry_first s at ≡ at
  unfolding entry_first
  first-begun h = rw (ne_eqb (entry_length s at) 0 h)

  pub from-begun : (entry_length s at ≡ 0 → ⊥) → entry_from s at ≡ take (entry_length s at) (drop at s)
  unfolding entry_from
  from-begun h = rw (first-begun h)

  -- none does
  pub first-none : entry_length s at ≡ 0 → entry_first s at ≡ 0
  unfolding entry_first
  first-none e = rw (eq-eqb (entry_length s at) 0 e)

  pub from-none : entry_length s at ≡ 0 → entry_from s at ≡ []
  unfolding entry_from
  from-none e = rw e

-- all bytes from `at` on, as the code lends them
pub to_the_end : (s : List ℕ) (at : ℕ) → take (length s - at) (drop at s) ≡ drop at s
to_the_end s at = take_all (length s - at) (drop at s) (simp length-drop (omega arith))

-- the length, by the number of records
pub length-by : (s : List ℕ) (at n : ℕ) → entry_records (drop at s) ≡ n → entry_length s at ≡ n * 81
unfolding entry_length
length-by s at n e = rw e

pub length-there : (s : List ℕ) (at : ℕ) → entry_length s at + entry_first s at ≤ length s
length-there s at = by_number (entry_records (drop at s)) refl
  where
    by_number : (n : ℕ) → entry_records (drop at s) ≡ n → entry_length s at + entry_first s at ≤ length s
    by_number zero e = let l = length-by s at 0 e in rw (l, first-none s at l) (omega arith)
    by_number (suc n) e =
        let l = length-by s at (suc n) e in
        let t = rw (e, length-drop) at (records-there (drop at s)) in
        rw (first-begun s at (λ z. omega arith)) (omega arith)

-- behind the file's end none begins
pub length-past : (s : List ℕ) (at : ℕ) → length s < at → 0 ≡ entry_length s at
unfolding entry_length
length-past s at h = let t = rw length-drop at (records-there (drop at s)) in omega arith

-- a part as long as the length that is answered
pub part-long : PartLong
unfolding entry_from
part-long s at =
    let t = length-there s at in
    length-take-le (entry_length s at) (drop (entry_first s at) s) (simp length-drop (omega arith))

pub part-said : PartSaid
part-said s at = by_number (entry_records (drop at s)) refl
  where
    by_number : (n : ℕ) → entry_records (drop at s) ≡ n → HandedOut s at (entry_from s at) (entry_first s at)
    by_number zero e =
        let l = length-by s at 0 e in
        rw (from-none s at l, first-none s at l)
        (nothing (λ m b. let z = begins-records (drop at s) m b in let l = b.some in omega arith))
    by_number (suc n) e =
        let l = length-by s at (suc n) e in
        rw (from-begun s at (λ z. omega arith), first-begun s at (λ z. omega arith), l)
        (an_entry (suc n) (records-begins (drop at s) (suc n) e (omega arith)))

pub part-alone : PartAlone
part-alone s at part start (an_entry n b) =
    let l = length-by s at n (begins-records (drop at s) n b) in
    let some = b.some in (
      rw (← l) (sym (from-begun s at (λ z. omega arith))),
      sym (first-begun s at (λ z. omega arith)),
    )
part-alone s at part start (nothing none) = by_number (entry_records (drop at s)) refl
  where
    by_number : (n : ℕ) → entry_records (drop at s) ≡ n → ([] ≡ entry_from s at) × (0 ≡ entry_first s at)
    by_number zero e = let l = length-by s at 0 e in (sym (from-none s at l), sym (first-none s at l))
    by_number (suc n) e = absurd (none (suc n) (records-begins (drop at s) (suc n) e (omega arith)))
