-- The extent of n in bytes of which one part says n on each record and the rest on none.
-- Assumes nothing.
use Prim.Native.Nat.{ℕ, ◌+◌, ◌-◌, ◌*◌, ◌<◌, ◌≤◌}
use mathlib.Core.Path.{◌≡◌, refl, sym, ap, ◌∙◌}
use mathlib.Core.Bool.{true, false, not, ◌&&◌}
use mathlib.Core.List.{List, ◌++◌}
use native.Mathlib.Omega.{arith}
use borrow.Author.Tests.{eq-eqb, ne_eqb, le-ltb, lt-ltb}
use lib.Dec.{ltb}
use lib.ListN.{length, take}
use lib.Seq.{take_at, drop_at}
use Rattle.laws.proofs.Search.{either, pass-first}
use Rattle.laws.proofs.Counting.{first-is}
use Rattle.paper_record.specs.Text.{within}
use Rattle.paper_revisions.specs.Extents.{records_of, subentry_at, is_of, is_other, first_saying, past_from, extent_of, has, bytes_of}
use Rattle.revisions_extents_laws.proofs.Extents.{from_is, past_is, extent-in}
use Rattle.revisions_laws.proofs.Records.{Each, said-front, said-behind, records-sum}

module _ (n : ℕ) (a p b : List ℕ) (x : Each (λ k. k ≡ n → ⊥) a) (y : Each (λ k. k ≡ n) p)
    (z : Each (λ k. k ≡ n → ⊥) b) where
  abbrev whole : List ℕ
  whole = a ++ (p ++ b)

  records-three : records_of whole ≡ records_of a + (records_of p + records_of b)
  records-three =
      let e = records-sum a (p ++ b) x.whole in
      let f = records-sum p b y.whole in
      omega arith

  on-front : (i : ℕ) → i < records_of a → is_of whole n i ≡ false
  on-front i h =
      ne_eqb (subentry_at whole i) n (λ e. x.said i h (sym (said-front a (p ++ b) i x.whole h) ∙ e))

  on-part : (i : ℕ) → i < records_of p → is_of whole n (records_of a + i) ≡ true
  on-part i h =
      eq-eqb (subentry_at whole (records_of a + i)) n
      (said-behind a (p ++ b) i x.whole ∙ said-front p b i y.whole h ∙ y.said i h)

  on-rest : (i : ℕ) → i < records_of b → is_of whole n (records_of a + (records_of p + i)) ≡ false
  on-rest i h =
      ne_eqb (subentry_at whole (records_of a + (records_of p + i))) n
      (λ e. z.said i h (sym (said-behind a (p ++ b) (records_of p + i) x.whole ∙ said-behind p b i y.whole) ∙ e))

  -- where the part has records, they are found
  pub found_from : 0 < records_of p → (extent_of whole n).from ≡ records_of a
  found_from h =
      let e = records-three in
      let u : records_of a + 0 ≡ records_of a = omega arith in
      from_is whole n
      ∙ first-is (is_of whole n) 0 (records_of whole) (records_of a) (omega arith) (omega arith)
      (rw u at (on-part 0 h)) (λ j l m. on-front j m)

  other-past : past_from whole n (records_of a) ≡ records_of a + records_of p
  other-past =
      let e = records-three in
      let inner : (j : ℕ) → records_of a ≤ j → j < records_of a + records_of p → is_other whole n j ≡ false =
      λ j l m.
      let u : records_of a + (j - records_of a) ≡ j = omega arith in
      ap not (rw u at (on-part (j - records_of a) (omega arith))) in
      either 0 (records_of b)
      (λ l.
      let u : records_of a + (records_of p + 0) ≡ records_of a + records_of p = omega arith in
      first-is (is_other whole n) (records_of a) (records_of whole - records_of a) (records_of a + records_of p) (omega arith)
      (omega arith) (ap not (rw u at (on-rest 0 l))) inner)
      (λ l.
      let u : records_of whole - records_of a ≡ records_of p = omega arith in
      rw u (pass-first (is_other whole n) (records_of a) (records_of p) inner))

  pub found-past : 0 < records_of p → (extent_of whole n).past ≡ records_of a + records_of p
  found-past h =
      let e : first_saying whole n ≡ records_of a = sym (from_is whole n) ∙ found_from h in
      past_is whole n
      ∙ ap (past_from whole n) e
      ∙ other-past

  -- where it has none, nothing is
  none_from : records_of p ≡ 0 → (extent_of whole n).from ≡ records_of whole
  none_from h =
      let e = records-three in
      let u : 0 + records_of whole ≡ records_of whole = omega arith in
      from_is whole n
      ∙ pass-first (is_of whole n) 0 (records_of whole)
      (λ j l m.
      either j (records_of a) (on-front j)
      (λ k.
      let v : records_of a + (records_of p + (j - records_of a)) ≡ j = omega arith in
      rw v at (on-rest (j - records_of a) (omega arith))))
      ∙ u

  pub found_some : ltb (extent_of whole n).from (extent_of whole n).past ≡ ltb 0 (records_of p)
  found_some =
      either 0 (records_of p)
      (λ h.
      let e = found_from h in
      let f = found-past h in
      lt-ltb (extent_of whole n).from (extent_of whole n).past (omega arith) ∙ sym (lt-ltb 0 (records_of p) h))
      (λ h.
      let e = none_from (omega arith) in
      let f = (extent-in whole n).1 in
      le-ltb (extent_of whole n).from (extent_of whole n).past (omega arith) ∙ sym (le-ltb 0 (records_of p) h))

  pub found-has : has whole n ≡ (within 1 998 n && ltb 0 (records_of p))
  unfolding has
  found-has = rw found_some

  pub found-bytes : 0 < records_of p → bytes_of whole (extent_of whole n) ≡ p
  found-bytes h =
      let e = x.whole in
      let f = y.whole in
      let u : (records_of a + records_of p - records_of a) * 81 ≡ length p = omega arith in
      rw (found_from h, found-past h, u)
      (ap (take (length p)) (drop_at a (p ++ b) (records_of a * 81) e) ∙ take_at p b (length p) refl)
