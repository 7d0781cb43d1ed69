-- The records of a subentry are those whose columns 72 to 74 say its number, and no others.
-- Assumes nothing.
use Prim.Native.Nat.{ℕ, zero, suc, ◌+◌, ◌-◌, ◌<◌, ◌≤◌}
use mathlib.Core.Path.{◌≡◌, refl, sym, ◌∙◌}
use mathlib.Core.Bool.{true}
use mathlib.Core.List.{List}
use native.Mathlib.Omega.{arith}
use borrow.Author.Tests.{eqb-true, eqb-false, eq-eqb, ltb-true, lt-ltb, le-leb, not-true, not-false}
use lib.Dec.{ltb}
use Rattle.laws.proofs.Booleans.{differ, and_left, and_right, and_both}
use Rattle.laws.proofs.Search.{either, first-from, first_to}
use Rattle.laws.proofs.Counting.{first-before, first_holds}
use Rattle.paper_record.specs.Text.{within}
use Rattle.paper_record.proofs.Within.{within-bounds}
use Rattle.paper_rules.specs.Limits.{LAST-SUBENTRY}
use Rattle.paper_entry.specs.Judging.{Accepted}
use Rattle.paper_revisions.specs.Extents.{records_of, subentry_at, is_of, is_other, first_saying, past_from, extent_of, has}
use Rattle.paper_revisions.specs.Claims.{OfSubentry, ExtentWhole, ExtentOnly}
use Rattle.revisions_extents_laws.proofs.Columns.{rise-next}

-- ---- of any bytes

module _ (s : List ℕ) (n : ℕ) where
  pub from_is : (extent_of s n).from ≡ first_saying s n
  unfolding extent_of
  from_is = refl

  pub past_is : (extent_of s n).past ≡ past_from s n (first_saying s n)
  unfolding extent_of
  past_is = refl

  -- an extent lies inside the entry
  pub extent-in : ((extent_of s n).from ≤ (extent_of s n).past) × ((extent_of s n).past ≤ records_of s)
  extent-in =
      let a = first_to (is_of s n) 0 (records_of s) in
      let b = first-from (is_other s n) (first_saying s n) (records_of s - first_saying s n) in
      let c = first_to (is_other s n) (first_saying s n) (records_of s - first_saying s n) in
      rw (from_is, past_is) (b, omega arith)

  -- what "has it" says
  pub has-bounds : has s n ≡ true → ((1 ≤ n) × (n ≤ 998)) × ((extent_of s n).from < (extent_of s n).past)
  unfolding has
  has-bounds h =
      let e = extent_of s n in (
        within-bounds 1 LAST-SUBENTRY n (and_left (within 1 LAST-SUBENTRY n) (ltb e.from e.past) h),
        ltb-true e.from e.past (and_right (within 1 LAST-SUBENTRY n) (ltb e.from e.past) h),
      )

pub extent-only : ExtentOnly
extent-only s n i a b =
    let z = (extent-in s n).1 in
    let from = from_is s n in
    let past = past_is s n in
    let k = first_to (is_of s n) 0 (records_of s) in
    record {
      there = omega arith;
      said =
          eqb-true (subentry_at s i) n
          (not-false (is_of s n i)
          (first-before (is_other s n) (first_saying s n) (records_of s - first_saying s n) i (omega arith) (omega arith)
          (omega arith)));
    }

-- ---- of an accepted entry

module _ (s : List ℕ) (accepted : Accepted s) where
  -- the columns never fall
  pub said-rises : (i j : ℕ) → i + j < records_of s → subentry_at s i ≤ subentry_at s (i + j)
  said-rises i zero h = let e : i + 0 ≡ i = omega arith in rw e (omega arith)
  said-rises i (suc j) h =
      let e : i + suc j ≡ suc (i + j) = omega arith in
      let a = said-rises i j (omega arith) in
      let b = rise-next s accepted (i + j) (omega arith) in
      rw e (omega arith)

  pub said-upto : (i j : ℕ) → i ≤ j → j < records_of s → subentry_at s i ≤ subentry_at s j
  said-upto i j l h =
      let e : i + (j - i) ≡ j = omega arith in
      rw e at (said-rises i (j - i) (omega arith))

  module _ (n i : ℕ) (x : OfSubentry s n i) where
    from-upto : first_saying s n ≤ i
    from-upto =
        let h = x.there in
        either i (first_saying s n)
        (λ l.
        differ
        (sym (eq-eqb (subentry_at s i) n x.said)
        ∙ first-before (is_of s n) 0 (records_of s) i (omega arith) l (omega arith)))
        (λ l. l)

    from-said : subentry_at s (first_saying s n) ≡ n
    from-said =
        let h = x.there in
        let l = from-upto in
        eqb-true (subentry_at s (first_saying s n)) n (first_holds (is_of s n) 0 (records_of s) (omega arith))

    past-above : i < (extent_of s n).past
    past-above =
        let h = x.there in
        let l = from-upto in
        let e = from-said in
        let f = x.said in
        let past = past_is s n in
        let low = first-from (is_other s n) (first_saying s n) (records_of s - first_saying s n) in
        either i (extent_of s n).past (λ m. m)
        (λ m.
        let other =
        eqb-false (subentry_at s (extent_of s n).past) n
        (not-true (is_of s n (extent_of s n).past)
        (rw past (first_holds (is_other s n) (first_saying s n) (records_of s - first_saying s n) (omega arith)))) in
        let a = said-upto (first_saying s n) (extent_of s n).past (omega arith) (omega arith) in
        let b = said-upto (extent_of s n).past i m h in
        absurd (other (omega arith)))

  pub whole_of : (n i : ℕ) → OfSubentry s n i → ((extent_of s n).from ≤ i) × (i < (extent_of s n).past)
  whole_of n i x = (rw (from_is s n) (from-upto n i x), past-above n i x)

  -- the number of a record is that of a subentry
  pub said_has : (n i : ℕ) → OfSubentry s n i → 1 ≤ n → n ≤ 998 → has s n ≡ true
  unfolding has
  said_has n i x l h =
      let w = whole_of n i x in
      let a = w.0 in
      let b = w.1 in
      and_both (and_both (le-leb 1 n l) (le-leb n 998 h)) (lt-ltb (extent_of s n).from (extent_of s n).past (omega arith))

pub extent-whole : ExtentWhole
extent-whole s accepted n h i x = whole_of s accepted n i x
