-- Number by number both cursors meet the subentry of that number, so that what is taken is the chosen one.
-- Assumes nothing.
use Prim.Native.Nat.{ℕ, zero, suc, ◌+◌, ◌-◌, ◌*◌, ◌≤◌}
use mathlib.Core.Path.{◌≡◌, refl, sym, ap, ◌∙◌}
use mathlib.Core.Bool.{Bool, true, false, cond}
use mathlib.Core.List.{List, [], ◌++◌, append_assoc}
use native.Mathlib.Omega.{arith}
use borrow.Author.Tests.{ltb-false}
use lib.Dec.{leb}
use Rattle.laws.specs.Search.{how_many}
use Rattle.laws.specs.Members.{join_of}
use Rattle.laws.proofs.Booleans.{differ}
use Rattle.laws.proofs.EitherWay.{no}
use Rattle.paper_entry.specs.Judging.{Accepted}
use Rattle.paper_revisions.specs.declared.types.Extent.{Extent}
use Rattle.paper_revisions.specs.Extents.{extent_of, has, bytes_of, date_at}
use Rattle.paper_revisions.specs.Taken.{some}
use Rattle.paper_revisions.specs.Picking.{in_revision}
use Rattle.paper_revisions.specs.Merging.{present, chosen, how_many_of, end_record, merge_of}
use Rattle.revisions_merging.specs.Cursors.{met_at, taken_of, counts_one, rest_from, merge_by_cursors}
use Rattle.revisions_extents_laws.specs.Order.{Cursor, Met}
use Rattle.revisions_extents_laws.proofs.Cursors.{cursor-starts, cursor-moves, cursor-meets}
use Rattle.revisions_cursors.specs.Claim.{CursorsMerge}

-- the first of the places counted
many-first : (f : ℕ → Bool) (i n : ℕ) → how_many f i (suc n) ≡ cond (f i) 1 0 + how_many f (i + 1) n
unfolding how_many
many-first f i zero =
    let z : i + 0 ≡ i = omega arith in
    rw z (omega arith)
many-first f i (suc n) =
    let z : i + suc n ≡ i + 1 + n = omega arith in
    let e : how_many f i (suc n) ≡ cond (f i) 1 0 + how_many f (i + 1) n = many-first f i n in
    rw (z, e) (omega arith)

-- ---- one number

extent-met : (s : List ℕ) (n p : ℕ) → Met s n p → has s n ≡ true → extent_of s n ≡ met_at s n p
extent-met s n p m h = λ i. record { from = m.from h i; past = m.past h i }

nothing-met : (s : List ℕ) (n p : ℕ) → Met s n p → has s n ≡ false → bytes_of s (met_at s n p) ≡ []
nothing-met s n p m h =
    let l = ltb-false p (met_at s n p).past (sym m.there ∙ h) in
    let z : ((met_at s n p).past - p) * 81 ≡ 0 = omega arith in
    rw z refl

module _ (held revision : List ℕ) (n i j : ℕ) (m : Met held n i) (k : Met revision n j) where
  abbrev d : Extent
  d = met_at held n i

  abbrev e : Extent
  e = met_at revision n j

  -- whichever is taken
  taken : (b : Bool) → (b ≡ true → has revision n ≡ true) → (b ≡ false → has held n ≡ true)
      → cond b (bytes_of revision e) (bytes_of held d)
      ≡ bytes_of (cond b revision held) (extent_of (cond b revision held) n)
  taken true r h = rw (extent-met revision n j k (r refl)) refl
  taken false r h = rw (extent-met held n i m (h refl)) refl

  by_tests : (a b : Bool) → has held n ≡ a → has revision n ≡ b
      → taken_of held revision d e ≡ chosen held revision n
  unfolding taken_of chosen in_revision
  by_tests true true h r =
      let x : some d ≡ true = sym m.there ∙ h in
      let y : some e ≡ true = sym k.there ∙ r in
      rw (h, r, x, y, m.from h, k.from r)
      (taken (leb (date_at held i) (date_at revision j)) (λ t. r) (λ t. h))
  by_tests true false h r =
      let y : some e ≡ false = sym k.there ∙ r in
      rw (h, r, y) (taken false (λ t. no t) (λ t. h))
  by_tests false true h r =
      let x : some d ≡ false = sym m.there ∙ h in
      let y : some e ≡ true = sym k.there ∙ r in
      rw (h, r, x, y) (taken true (λ t. r) (λ t. differ t))
  by_tests false false h r =
      let y : some e ≡ false = sym k.there ∙ r in
      rw (h, r, y) (nothing-met held n i m h)

  part-chosen : taken_of held revision (met_at held n i) (met_at revision n j) ≡ chosen held revision n
  part-chosen = by_tests (has held n) (has revision n) refl refl

  one-present : counts_one (met_at held n i) (met_at revision n j) ≡ cond (present held revision n) 1 0
  one-present = rw (m.there, k.there) refl

-- ---- all of them

module _ (held revision : List ℕ) (a : Accepted held) (b : Accepted revision) where
  rest : (k n i j count : ℕ) → 1 ≤ n → n + k ≤ 999 → Cursor held n i → Cursor revision n j
      → rest_from held revision k n i j count
      ≡ join_of (chosen held revision) n k ++ end_record revision (count + how_many (present held revision) n k)
  unfolding rest_from join_of how_many
  rest zero n i j count l h c d = let z : count + 0 ≡ count = omega arith in rw z refl
  rest (suc k) n i j count l h c d =
      let m = cursor-meets held a n i l (omega arith) c in
      let w = cursor-meets revision b n j l (omega arith) d in
      let one = one-present held revision n i j m w in
      let more = many-first (present held revision) n k in
      let z : count + cond (present held revision n) 1 0 + how_many (present held revision) (n + 1) k
      ≡ count + how_many (present held revision) n (suc k) = omega arith in
      rw (part-chosen held revision n i j m w)
      (ap (λ (x : List ℕ). chosen held revision n ++ x)
      (rest k (n + 1) (met_at held n i).past (met_at revision n j).past
      (count + counts_one (met_at held n i) (met_at revision n j)) (omega arith) (omega arith) (cursor-moves held a n i c)
      (cursor-moves revision b n j d)
      ∙ ap (λ (x : ℕ). join_of (chosen held revision) (n + 1) k ++ end_record revision x)
      (ap (λ (x : ℕ). count + x + how_many (present held revision) (n + 1) k) one ∙ z))
      ∙ sym (append_assoc (chosen held revision n) (join_of (chosen held revision) (n + 1) k)
      (end_record revision (count + how_many (present held revision) n (suc k)))))

pub cursors-merge : CursorsMerge
unfolding merge_by_cursors merge_of how_many_of
cursors-merge held revision a b =
    let z : 0 + how_many (present held revision) 1 998 ≡ how_many (present held revision) 1 998 = omega arith in
    rw (rest held revision a b 998 1 1 1 0 (omega arith) (omega arith) (cursor-starts held a) (cursor-starts revision b), z) refl
