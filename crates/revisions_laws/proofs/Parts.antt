-- The merge by its parts: what stands before subentry n, the subentry, what stands behind it.
-- Assumes nothing.
use Prim.Native.Nat.{ℕ, zero, suc, ◌+◌, ◌-◌, ◌*◌, ◌<◌, ◌≤◌}
use mathlib.Core.Path.{◌≡◌, refl, sym, ap, ◌∙◌}
use mathlib.Core.Bool.{Bool, true, false, cond, not, ◌&&◌, ◌||◌}
use mathlib.Core.List.{List, [], ◌++◌, append_assoc}
use native.Mathlib.Omega.{arith}
use borrow.Author.Tests.{le-leb, lt-ltb}
use lib.Dec.{leb, ltb}
use lib.ListN.{length}
use Rattle.laws.specs.Members.{join_of}
use Rattle.laws.proofs.EitherWay.{no}
use Rattle.laws.proofs.Search.{either}
use Rattle.paper_entry.specs.Judging.{Accepted}
use Rattle.paper_revisions.specs.Extents.{records_of, subentry_at, extent_of, has, bytes_of}
use Rattle.paper_revisions.specs.Picking.{date_of, in_revision, holder}
use Rattle.paper_revisions.specs.Merging.{present, chosen, how_many_of, entry_record, end_record, merge_of}
use Rattle.paper_revisions.specs.Claims.{MergeHolds}
use Rattle.revisions_extents_laws.proofs.Extents.{has-bounds}
use Rattle.revisions_extents_laws.proofs.Openers.{has-none}
use Rattle.revisions_laws.proofs.Records.{Each, each_none, each-weaker, each_both, each-join, part-long, each_part}
use Rattle.revisions_laws.proofs.Put.{accepted-whole, entry-long, end-long, entry-said, end-said}
use Rattle.revisions_laws.proofs.Finding.{found-has, found-bytes}

-- ---- lists joined

pub join-cut : {A : Type 0} (f : ℕ → List A) (i k m : ℕ) → join_of f i (k + m) ≡ join_of f i k ++ join_of f (i + k) m
unfolding join_of
join-cut f i zero m =
    let z : 0 + m ≡ m = omega arith in
    let y : i + 0 ≡ i = omega arith in
    rw (z, y) refl
join-cut f i (suc k) m =
    let z : suc k + m ≡ suc (k + m) = omega arith in
    let y : i + 1 + k ≡ i + suc k = omega arith in
    rw z (ap (λ (l : List _). f i ++ l) (join-cut f (i + 1) k m ∙ rw y refl)
    ∙ sym (append_assoc (f i) (join_of f (i + 1) k) (join_of f (i + suc k) m)))

-- ---- who has n

-- it holds of the holder of n whichever has it
pub holder-as : (P : List ℕ → Type 0) (held revision : List ℕ) (n : ℕ) → present held revision n ≡ true
    → (has revision n ≡ true → P revision) → (has held n ≡ true → P held) → P (holder held revision n)
unfolding in_revision
holder-as P held revision n =
    by_tests (has held n) (has revision n) (leb (date_of held n) (date_of revision n))
  where
    by_tests : (h r l : Bool) → (h || r) ≡ true → (r ≡ true → P revision) → (h ≡ true → P held)
        → P (cond (r && (not h || l)) revision held)
    by_tests true true true e x y = x refl
    by_tests true true false e x y = y refl
    by_tests true false l e x y = y refl
    by_tests false true l e x y = x refl
    by_tests false false l e x y = no e

-- ---- a subentry of the merge

pub chosen-some : (held revision : List ℕ) (n : ℕ) → present held revision n ≡ true
    → chosen held revision n ≡ bytes_of (holder held revision n) (extent_of (holder held revision n) n)
unfolding chosen
chosen-some held revision n h = rw h refl

pub chosen_none : (held revision : List ℕ) (n : ℕ) → present held revision n ≡ false → chosen held revision n ≡ []
unfolding chosen
chosen_none held revision n h = rw h refl

module _ (held revision : List ℕ) (a : Accepted held) (b : Accepted revision) where
  pub each_chosen : (n : ℕ) → Each (λ k. k ≡ n) (chosen held revision n)
  each_chosen n = by-test (present held revision n) refl
    where
      by-test : (t : Bool) → present held revision n ≡ t → Each (λ k. k ≡ n) (chosen held revision n)
      by-test true e =
          rw (chosen-some held revision n e)
          (holder-as (λ s. Each (λ k. k ≡ n) (bytes_of s (extent_of s n))) held revision n e
          (λ h. each_part revision n (accepted-whole revision b)) (λ h. each_part held n (accepted-whole held a)))
      by-test false e = rw (chosen_none held revision n e) (each_none (λ k. k ≡ n))

  -- it has a record where one of the two has it
  chosen-records : (n : ℕ) → present held revision n ≡ true → 0 < records_of (chosen held revision n)
  chosen-records n e =
      rw (chosen-some held revision n e)
      (holder-as (λ s. 0 < records_of (bytes_of s (extent_of s n))) held revision n e
      (λ h. part-some revision (accepted-whole revision b) h) (λ h. part-some held (accepted-whole held a) h))
    where
      part-some : (s : List ℕ) → length s ≡ records_of s * 81 → has s n ≡ true
          → 0 < records_of (bytes_of s (extent_of s n))
      part-some s w h =
          let x = (has-bounds s n h).1 in
          let l = part-long s n w in
          omega arith

  -- ---- around it

  abbrev before : ℕ → List ℕ
  before n = entry_record held revision ++ join_of (chosen held revision) 1 (n - 1)

  abbrev behind : ℕ → List ℕ
  behind n =
      join_of (chosen held revision) (n + 1) (998 - n) ++ end_record revision (how_many_of held revision)

  pub one-record : (P : ℕ → Type 0) (r : List ℕ) → length r ≡ 81 → P (subentry_at r 0) → Each P r
  one-record P r l x =
      record { whole = omega arith; said = λ i h. let z : i ≡ 0 = omega arith in rw z x }

  each-before : (n : ℕ) → 1 ≤ n → Each (λ k. k ≡ n → ⊥) (before n)
  each-before n h =
      let e = entry-said held revision a b in
      each_both (entry_record held revision) (join_of (chosen held revision) 1 (n - 1))
      (one-record (λ k. k ≡ n → ⊥) (entry_record held revision) (entry-long held revision a b) (λ z. omega arith))
      (each-join (chosen held revision) 1 (n - 1)
      (λ k l m. each-weaker (λ j e f. omega arith) (chosen held revision k) (each_chosen k)))

  each-behind : (n : ℕ) → n ≤ 998 → Each (λ k. k ≡ n → ⊥) (behind n)
  each-behind n h =
      let count = how_many_of held revision in
      let e = end-said held revision a b count in
      each_both (join_of (chosen held revision) (n + 1) (998 - n)) (end_record revision count)
      (each-join (chosen held revision) (n + 1) (998 - n)
      (λ k l m. each-weaker (λ j e f. omega arith) (chosen held revision k) (each_chosen k)))
      (one-record (λ k. k ≡ n → ⊥) (end_record revision count) (end-long held revision a b count) (λ z. omega arith))

  merge-cut : (n : ℕ) → 1 ≤ n → n ≤ 998 → merge_of held revision ≡ before n ++ (chosen held revision n ++ behind n)
  unfolding merge_of join_of
  merge-cut n l h =
      let f = chosen held revision in
      let end = end_record revision (how_many_of held revision) in
      let x : 998 ≡ n - 1 + suc (998 - n) = omega arith in
      let y : 1 + (n - 1) ≡ n = omega arith in
      let cut : join_of f 1 998 ≡ join_of f 1 (n - 1) ++ (f n ++ join_of f (n + 1) (998 - n)) =
      ap (join_of f 1) x ∙ join-cut f 1 (n - 1) (suc (998 - n))
      ∙ ap (λ (k : ℕ). join_of f 1 (n - 1) ++ (f k ++ join_of f (k + 1) (998 - n))) y in
      ap (λ (l : List ℕ). entry_record held revision ++ (l ++ end)) cut
      ∙ ap (λ (l : List ℕ). entry_record held revision ++ l)
      (append_assoc (join_of f 1 (n - 1)) (f n ++ join_of f (n + 1) (998 - n)) end
      ∙ ap (λ (l : List ℕ). join_of f 1 (n - 1) ++ l) (append_assoc (f n) (join_of f (n + 1) (998 - n)) end))
      ∙ sym (append_assoc (entry_record held revision) (join_of f 1 (n - 1)) (f n ++ behind n))

  -- ---- what is found in it

  inner-has : (n : ℕ) → 1 ≤ n → n ≤ 998 → has (merge_of held revision) n ≡ present held revision n
  inner-has n l h =
      rw (merge-cut n l h)
      (found-has n (before n) (chosen held revision n) (behind n) (each-before n l) (each_chosen n) (each-behind n h)
      ∙ rw (le-leb 1 n l, le-leb n 998 h) (by-test (present held revision n) refl))
    where
      by-test : (t : Bool) → present held revision n ≡ t → ltb 0 (records_of (chosen held revision n)) ≡ t
      by-test true e = lt-ltb 0 (records_of (chosen held revision n)) (chosen-records n e)
      by-test false e = rw (chosen_none held revision n e) refl

  pub merge-has : (n : ℕ) → has (merge_of held revision) n ≡ present held revision n
  merge-has n =
      either n 1
      (λ l.
      let z : n ≡ 0 = omega arith in
      rw (z, (has-none (merge_of held revision)).0, (has-none held).0, (has-none revision).0) refl)
      (λ l.
      either 998 n
      (λ h.
      rw ((has-none (merge_of held revision)).1 n h, (has-none held).1 n h, (has-none revision).1 n h) refl)
      (λ h. inner-has n l h))

  pub merge-bytes : (n : ℕ) → present held revision n ≡ true
      → bytes_of (merge_of held revision) (extent_of (merge_of held revision) n) ≡ chosen held revision n
  merge-bytes n e =
      let x = (has-bounds (merge_of held revision) n (merge-has n ∙ e)).0 in
      let l = x.0 in
      let h = x.1 in
      rw (merge-cut n l h)
      (found-bytes n (before n) (chosen held revision n) (behind n) (each-before n l) (each_chosen n) (each-behind n h)
      (chosen-records n e))

pub merge-holds : MergeHolds
merge-holds held revision a b n = (merge-has held revision a b n, merge-bytes held revision a b n)
