-- What is stored of an entry: a part of it, records, and the two records around them.
-- Assumes nothing.
use Prim.Native.Nat.{ℕ, ◌+◌, ◌-◌, ◌*◌, ◌≤◌}
use mathlib.Core.Path.{◌≡◌, refl, sym, ◌∙◌, ap}
use mathlib.Core.Bool.{true, false}
use mathlib.Core.List.{List, ◌++◌, append_assoc}
use native.Mathlib.Omega.{arith}
use lib.Dec.{leb}
use lib.ListN.{length, take, drop, length-append, length-drop, take-append-drop}
use lib.Seq.{paste, length-take-le, take_all, take-append-le, take-append-add, drop-append-le, drop-append-add}
use lib.Seq.{drop-drop}
use Rattle.laws.proofs.Booleans.{either-as}
use Rattle.laws.specs.Blocks.{block_at}
use Rattle.paper_revisions.specs.declared.types.Extent.{Extent}
use Rattle.paper_revisions.specs.Extents.{records_of, bytes_of, date_at}
use Rattle.paper_revisions.specs.Taken.{Lies}
use Rattle.paper_revisions.specs.Merging.{count_columns, later_of, entry_record, end_record}

-- ---- a part

pub part-long : (s : List ℕ) (from n : ℕ) → from + n ≤ length s → length (take n (drop from s)) ≡ n
part-long s from n h = length-take-le n (drop from s) (simp length-drop (omega arith))

pub part-stored : (d new s : List ℕ) (at from n : ℕ) → from + n ≤ length s
    → new ≡ paste d at (take (from + n - from) (drop from s)) (length (take (from + n - from) (drop from s)))
    → new ≡ paste d at (take n (drop from s)) n
part-stored d new s at from n h e =
    let k : from + n - from ≡ n = omega arith in
    rw (k, part-long s from n h) at e

pub records-long : (s : List ℕ) (e : Extent) → Lies s e → length (bytes_of s e) ≡ (e.past - e.from) * 81
records-long s e l =
    let a = l.rises in
    let b = l.ends in
    part-long s (e.from * 81) ((e.past - e.from) * 81) (omega arith)

-- ---- a record with other bytes in some of its columns

module _ (r x : List ℕ) (w off n : ℕ) (wide : length r ≡ w) (long : length x ≡ n) (fits : off + n ≤ w) where
  abbrev over : List ℕ
  over = take off r ++ (x ++ drop (off + n) r)

  pub over-long : length (take off r ++ (x ++ drop (off + n) r)) ≡ w
  over-long =
      let a = length-take-le off r (omega arith) in
      simp (length-append, length-drop) (omega (arith, a, long, wide, fits))

  pub over-stored : (d : List ℕ) (at : ℕ) → at + w ≤ length d
      → paste (paste d at r w) (at + off) x n ≡ paste d at (take off r ++ (x ++ drop (off + n) r)) w
  over-stored d at room =
      let front : List ℕ = take at d in
      let a : length front ≡ at = length-take-le at d (omega arith) in
      let whole : take w r ≡ r = take_all w r (omega arith) in
      let head : length (front ++ r) ≡ at + w = length-append front r ∙ omega (arith, a, wide) in
      let before : take (at + off) (front ++ r ++ drop (at + w) d) ≡ front ++ take off r =
      take-append-le (at + off) (front ++ r) (drop (at + w) d) (omega (arith, head, fits))
      ∙ ap (λ (k : ℕ). take (k + off) (front ++ r)) (sym a)
      ∙ take-append-add front r off in
      let m : at + off + n ≡ length front + (off + n) = omega (arith, a) in
      let behind : drop (at + off + n) (front ++ r ++ drop (at + w) d) ≡ drop (off + n) r ++ drop (at + w) d =
      drop-append-le (at + off + n) (front ++ r) (drop (at + w) d) (omega (arith, head, fits))
      ∙ ap (λ (l : List ℕ). l ++ drop (at + w) d)
      (ap (λ (k : ℕ). drop k (front ++ r)) m ∙ drop-append-add front r (off + n)) in
      rw (whole, before, behind, take_all n x (omega (arith, long)), take_all w over (omega (arith, over-long)))
      (simp append_assoc)

-- ---- ENTRY

first-long : (s : List ℕ) → 81 ≤ length s → length (block_at 81 s 0) ≡ 81
first-long s h = part-long s 0 81 (omega arith)

date-in : (s : List ℕ) → 81 ≤ length s → take 8 (drop 25 (block_at 81 s 0)) ≡ take 8 (drop 25 s)
date-in s h =
    let r : List ℕ = take 81 s in
    let w : length r ≡ 81 = first-long s h in
    let b : 8 ≤ length (drop 25 r) = simp length-drop (omega (arith, w)) in
    sym (ap (λ (l : List ℕ). take 8 (drop 25 l)) (sym (take-append-drop 81 s))
    ∙ ap (take 8) (drop-append-le 25 r (drop 81 s) (omega (arith, w)))
    ∙ take-append-le 8 (drop 25 r) (drop 81 s) b)

pub entry-long : (held revision : List ℕ) → 81 ≤ length held → 81 ≤ length revision
    → length (entry_record held revision) ≡ 81
unfolding entry_record
entry-long held revision h k =
    let later : 81 ≤ length (later_of held revision) =
    either-as (λ l. 81 ≤ length l) (leb (date_at held 0) (date_at revision 0)) revision held (λ e. k) (λ e. h) in
    let w = first-long (later_of held revision) later in
    over-long (block_at 81 revision 0) (take 8 (drop 25 (block_at 81 (later_of held revision) 0))) 81 25 8
    (first-long revision k) (part-long (block_at 81 (later_of held revision) 0) 25 8 (omega (arith, w))) (omega arith)

pub later-stored : (d held revision : List ℕ) → 81 ≤ length held → 81 ≤ length revision → 81 ≤ length d
    → leb (date_at held 0) (date_at revision 0) ≡ false
    → paste (paste d 0 (take 81 (drop 0 revision)) 81) 25 (take 8 (drop 25 held)) 8 ≡ paste d 0 (entry_record held revision) 81
unfolding entry_record
later-stored d held revision h k room e =
    rw (e, date-in held h)
    (over-stored (block_at 81 revision 0) (take 8 (drop 25 held)) 81 25 8 (first-long revision k)
    (part-long held 25 8 (omega arith)) (omega arith) d 0 (omega arith))

pub same-stored : (d held revision : List ℕ) → leb (date_at held 0) (date_at revision 0) ≡ true
    → paste d 0 (take 81 (drop 0 revision)) 81 ≡ paste d 0 (entry_record held revision) 81
unfolding entry_record
same-stored d held revision e =
    let r : List ℕ = block_at 81 revision 0 in
    let rest : take 8 (drop 25 r) ++ drop 33 r ≡ drop 25 r =
    ap (λ (l : List ℕ). take 8 (drop 25 r) ++ l) (sym (drop-drop 8 25 r)) ∙ take-append-drop 8 (drop 25 r) in
    let whole : take 25 r ++ (take 8 (drop 25 r) ++ drop 33 r) ≡ r =
    ap (λ (l : List ℕ). take 25 r ++ l) rest ∙ take-append-drop 25 r in
    rw (e, whole) refl

-- ---- ENDENTRY

count_long : (n : ℕ) → length (count_columns n) ≡ 11
unfolding count_columns
count_long n = refl

last-long : (s : List ℕ) → 81 ≤ length s → length (block_at 81 s (records_of s - 1)) ≡ 81
last-long s h = part-long s ((records_of s - 1) * 81) 81 (omega arith)

pub end-long : (revision : List ℕ) (n : ℕ) → 81 ≤ length revision → length (end_record revision n) ≡ 81
unfolding end_record
end-long revision n h =
    over-long (block_at 81 revision (records_of revision - 1)) (count_columns n) 81 11 11 (last-long revision h)
    (count_long n) (omega arith)

pub end-stored : (d revision : List ℕ) (at n : ℕ) → 81 ≤ length revision → at + 81 ≤ length d
    → paste (paste d at (take 81 (drop ((records_of revision - 1) * 81) revision)) 81) (at + 11) (count_columns n) 11
    ≡ paste d at (end_record revision n) 81
unfolding end_record
end-stored d revision at n h room =
    over-stored (block_at 81 revision (records_of revision - 1)) (count_columns n) 81 11 11 (last-long revision h)
    (count_long n) (omega arith) d at room
