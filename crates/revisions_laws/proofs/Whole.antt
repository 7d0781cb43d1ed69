-- The merge as a whole: how long it is, and an entry merged with itself.
-- Assumes nothing.
use Prim.Native.Nat.{ℕ, zero, suc, ◌+◌, ◌-◌, ◌*◌, ◌≤◌}
use mathlib.Core.Path.{◌≡◌, refl, sym, ap, ◌∙◌}
use mathlib.Core.Bool.{Bool, true, false, cond, not, ◌&&◌, ◌||◌}
use mathlib.Core.List.{List, [], ◌++◌, append_assoc}
use native.Mathlib.Omega.{arith}
use lib.Dec.{leb}
use lib.ListN.{length, take, drop, length-append, take-append-drop}
use lib.Seq.{take-append-add, drop-append-add, drop-drop}
use Rattle.laws.specs.Blocks.{block_at}
use Rattle.laws.specs.Members.{join_of}
use Rattle.laws.proofs.EitherWay.{either_way}
use Rattle.paper_rules.specs.Limits.{LAST-SUBENTRY}
use Rattle.paper_entry.specs.Judging.{Accepted}
use Rattle.paper_revisions.specs.Extents.{records_of, extent_of, has, bytes_of, date_at}
use Rattle.paper_revisions.specs.Picking.{in_revision}
use Rattle.paper_revisions.specs.Merging.{chosen, how_many_of, count_columns, entry_record, end_record, merge_of}
use Rattle.paper_revisions.specs.Claims.{MergeShort, MergeSelf}
use Rattle.revisions_extents_laws.specs.Order.{part_in}
use Rattle.revisions_extents_laws.proofs.Columns.{records-some}
use Rattle.revisions_extents_laws.proofs.Covered.{entry_whole}
use Rattle.revisions_laws.proofs.Put.{accepted-whole, block-long, entry-long, end-long}

-- ---- lists joined, place by place

join-short : (f g h : ℕ → List ℕ) → ((k : ℕ) → length (f k) ≤ length (g k) + length (h k)) → (i n : ℕ)
    → length (join_of f i n) ≤ length (join_of g i n) + length (join_of h i n)
unfolding join_of
join-short f g h l i zero = omega arith
join-short f g h l i (suc n) =
    let a = length-append (f i) (join_of f (i + 1) n) in
    let b = length-append (g i) (join_of g (i + 1) n) in
    let c = length-append (h i) (join_of h (i + 1) n) in
    let d = l i in
    let e = join-short f g h l (i + 1) n in
    omega arith

pub join-same : (f g : ℕ → List ℕ) → ((k : ℕ) → f k ≡ g k) → (i n : ℕ) → join_of f i n ≡ join_of g i n
unfolding join_of
join-same f g e i zero = refl
join-same f g e i (suc n) = rw (e i, join-same f g e (i + 1) n) refl

-- ---- its length

-- what is chosen is as long as what one of the two has
chosen-short : (held revision : List ℕ) (n : ℕ)
    → length (chosen held revision n) ≤ length (part_in held n) + length (part_in revision n)
unfolding chosen in_revision
chosen-short held revision n = by_tests (has held n) (has revision n) _
  where
    by_tests : (h r l : Bool)
        → length
        (cond (h || r)
        (bytes_of (cond (r && (not h || l)) revision held) (extent_of (cond (r && (not h || l)) revision held) n)) [])
        ≤ length (cond h (bytes_of held (extent_of held n)) []) + length (cond r (bytes_of revision (extent_of revision n)) [])
    by_tests true true true = omega arith
    by_tests true true false = omega arith
    by_tests true false l = omega arith
    by_tests false true l = omega arith
    by_tests false false l = omega arith

entry-sum : (s : List ℕ) → Accepted s → length s ≡ 81 + (length (join_of (part_in s) 1 LAST-SUBENTRY) + 81)
entry-sum s a =
    let some = records-some s a in
    let j = join_of (part_in s) 1 LAST-SUBENTRY in
    let last = block_at 81 s (records_of s - 1) in
    let x = block-long s a 0 (omega arith) in
    let y = block-long s a (records_of s - 1) (omega arith) in
    ap length (entry_whole s a) ∙ length-append (block_at 81 s 0) (j ++ last)
    ∙ ap (λ (k : ℕ). length (block_at 81 s 0) + k) (length-append j last)
    ∙ rw (x, y) refl

pub merge-short : MergeShort
unfolding merge_of
merge-short held revision a b =
    let count = how_many_of held revision in
    let j = join_of (chosen held revision) 1 LAST-SUBENTRY in
    let x = entry-long held revision a b in
    let y = end-long held revision a b count in
    let u = length-append (entry_record held revision) (j ++ end_record revision count) in
    let v = length-append j (end_record revision count) in
    let l = join-short (chosen held revision) (part_in held) (part_in revision) (chosen-short held revision) 1 LAST-SUBENTRY in
    let e = entry-sum held a in
    let f = entry-sum revision b in
    sums (length (entry_record held revision)) (length j) (length (end_record revision count)) (length held)
    (length revision) (length (join_of (part_in held) 1 LAST-SUBENTRY)) (length (join_of (part_in revision) 1 LAST-SUBENTRY))
    (length (merge_of held revision)) x y (u ∙ ap (λ (k : ℕ). length (entry_record held revision) + k) v) l e f
  where
    sums : (first inner last h r p q m : ℕ) → first ≡ 81 → last ≡ 81 → m ≡ first + (inner + last) → inner ≤ p + q
        → h ≡ 81 + (p + 81) → r ≡ 81 + (q + 81) → m ≤ h + r
    sums first inner last h r p q m x y z l e f = omega arith

-- ---- an entry merged with itself

chosen-itself : (s : List ℕ) (n : ℕ) → chosen s s n ≡ part_in s n
unfolding chosen
chosen-itself s n = by_tests (has s n) (in_revision s s n)
  where
    by_tests : (h r : Bool)
        → cond (h || h) (bytes_of (cond r s s) (extent_of (cond r s s) n)) [] ≡ cond h (bytes_of s (extent_of s n)) []
    by_tests true true = refl
    by_tests true false = refl
    by_tests false r = refl

-- columns put back where they stood
put_back : (r : List ℕ) → take 25 r ++ (take 8 (drop 25 r) ++ drop 33 r) ≡ r
put_back r =
    ap (λ (l : List ℕ). take 25 r ++ (take 8 (drop 25 r) ++ l)) (sym (drop-drop 8 25 r))
    ∙ ap (λ (l : List ℕ). take 25 r ++ l) (take-append-drop 8 (drop 25 r))
    ∙ take-append-drop 25 r

entry-itself : (s : List ℕ) → entry_record s s ≡ block_at 81 s 0
unfolding entry_record
entry-itself s =
    either_way (λ l. take 25 r ++ (take 8 (drop 25 (block_at 81 l 0)) ++ drop 33 r) ≡ r)
    (leb (date_at s 0) (date_at s 0)) s s (put_back r) (put_back r)
  where
    r : List ℕ
    r = block_at 81 s 0

pub merge-self : MergeSelf
unfolding merge_of end_record
merge-self s a =
    let some = records-some s a in
    let w = accepted-whole s a in
    let count = count_columns (how_many_of s s) in
    let j = join_of (part_in s) 1 LAST-SUBENTRY in
    let r = block_at 81 s (records_of s - 1) in
    let front = block_at 81 s 0 ++ j in
    let whole : s ≡ front ++ r = entry_whole s a ∙ sym (append_assoc (block_at 81 s 0) j r) in
    let x = block-long s a 0 (omega arith) in
    let e = entry-sum s a in
    let u = length-append (block_at 81 s 0) j in
    let long : (records_of s - 1) * 81 ≡ length front = omega arith in
    let before : take ((records_of s - 1) * 81 + 11) s ≡ front ++ take 11 r =
    ap (λ (k : ℕ). take (k + 11) s) long ∙ ap (take (length front + 11)) whole ∙ take-append-add front r 11 in
    let behind : drop ((records_of s - 1) * 81 + 22) s ≡ drop 22 r =
    ap (λ (k : ℕ). drop (k + 22) s) long ∙ ap (drop (length front + 22)) whole ∙ drop-append-add front r 22 in
    rw (entry-itself s, join-same (chosen s s) (part_in s) (chosen-itself s) 1 LAST-SUBENTRY, before, behind)
    (sym (append_assoc (block_at 81 s 0) j (take 11 r ++ (count ++ drop 22 r)))
    ∙ sym (append_assoc front (take 11 r) (count ++ drop 22 r)))
