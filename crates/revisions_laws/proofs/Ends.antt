-- The first and the last record of a merge, and the count that it says.
-- Assumes nothing.
use Prim.Native.Nat.{ℕ, ◌+◌, ◌-◌, ◌*◌, ◌<◌, ◌≤◌}
use mathlib.Core.Path.{◌≡◌, refl, sym, ap, ◌∙◌}
use mathlib.Core.List.{List, ◌++◌, append_assoc}
use native.Mathlib.Omega.{arith}
use borrow.Author.Tests.{le-leb, lt-leb}
use lib.ListN.{length, get_or, take, drop, length-append}
use lib.Seq.{length-take-le, take_all, take_at, drop_at, get_or-take, get_or-drop}
use Rattle.laws.specs.Blocks.{block_at}
use Rattle.laws.specs.Members.{join_of}
use Rattle.laws.proofs.Search.{many-to, many-same}
use Rattle.std.proofs.Common.{Some}
use Rattle.paper_record.specs.Fields.{field_at, fields_of, n1}
use Rattle.paper_record.specs.System.{start_of, count_of}
use Rattle.paper_record.proofs.ReadColumns.{field-of}
use Rattle.paper_rules.specs.Limits.{LAST-SUBENTRY}
use Rattle.paper_entry.specs.Judging.{Accepted}
use Rattle.paper_revisions.specs.Extents.{records_of, subentry_at, has, date_at}
use Rattle.paper_revisions.specs.Merging.{present, chosen, how_many_of, count_columns, later_of, entry_record, end_record, merge_of}
use Rattle.revisions_extents_laws.proofs.Digits.{number_same}
use Rattle.revisions_extents_laws.proofs.Columns.{records-some, said-most, said-inner}
use Rattle.revisions_extents_laws.proofs.Extents.{said_has}
use Rattle.revisions_laws.specs.Counts.{either_has, TrueCount, MergeCount}
use Rattle.revisions_laws.specs.Ends.{dated, byte_at, EntryMerged, EndMerged, MergeEnds}
use Rattle.revisions_laws.proofs.Records.{Each, each_both, each-join, each-weaker, block-front, block-behind}
use Rattle.revisions_laws.proofs.Records.{records-sum, said-front, said-behind}
use Rattle.revisions_laws.proofs.Put.{put_in, put-before, put-here, put-behind, block-long, count_long, date-long}
use Rattle.revisions_laws.proofs.Put.{entry-long, end-long, entry-said, end-said}
use Rattle.revisions_laws.proofs.Parts.{each_chosen, one-record, merge-has}
use Rattle.revisions_laws.proofs.Counts.{many-some, count-read}

-- ---- bytes of records

-- N2 behind its three blanks is columns 26 to 33
pub date-is : (s : List ℕ) (i : ℕ) → date_at s i ≡ dated s i
unfolding date_at
date-is s i =
    number_same (field_at (block_at 81 s i) 2) (block_at 81 s i) 3 25 8
    (λ k l.
    let z : 22 + (3 + k) ≡ 25 + k = omega arith in
    get_or-take 11 (drop 22 (block_at 81 s i)) (3 + k) 0 (omega arith) ∙ get_or-drop 22 (block_at 81 s i) (3 + k) 0
    ∙ ap (λ (j : ℕ). get_or (block_at 81 s i) j 0) z)

byte-in : (s : List ℕ) (i k : ℕ) → k < 81 → byte_at s i k ≡ get_or (block_at 81 s i) k 0
byte-in s i k h = sym (get_or-take 81 (drop (i * 81) s) k 0 h ∙ get_or-drop (i * 81) s k 0)

module _ (held revision : List ℕ) (a : Accepted held) (b : Accepted revision) where
  abbrev m : List ℕ
  m = merge_of held revision

  abbrev entry : List ℕ
  entry = entry_record held revision

  abbrev inner : List ℕ
  inner = join_of (chosen held revision) 1 LAST-SUBENTRY

  abbrev end : List ℕ
  end = end_record revision (how_many_of held revision)

  abbrev Any : ℕ → Type 0
  Any k = k ≤ 998

  each-front : Each Any (entry ++ inner)
  each-front =
      let e = entry-said held revision a b in
      each_both entry inner
      (one-record held revision a b Any entry (entry-long held revision a b) (omega arith))
      (each-join (chosen held revision) 1 998
      (λ k l h. each-weaker (λ j e. omega arith) (chosen held revision k) (each_chosen held revision a b k)))

  in_two : m ≡ (entry ++ inner) ++ end
  unfolding merge_of
  in_two = sym (append_assoc entry inner end)

  pub merge-records : records_of m ≡ records_of (entry ++ inner) + 1
  merge-records =
      let l = end-long held revision a b (how_many_of held revision) in
      let r = records-sum (entry ++ inner) end each-front.whole in
      ap records_of in_two ∙ r ∙ (let z : records_of end ≡ 1 = omega arith in rw z refl)

  pub merge-long : length m ≡ records_of m * 81
  merge-long =
      let l = end-long held revision a b (how_many_of held revision) in
      let f = each-front.whole in
      let r = merge-records in
      let s = ap length in_two ∙ length-append (entry ++ inner) end in
      omega arith

  pub first_block : block_at 81 m 0 ≡ entry
  unfolding merge_of
  first_block =
      let l = entry-long held revision a b in
      block-front entry (inner ++ end) 0 (omega arith) ∙ take_all 81 entry (omega arith)

  pub behind-inner : drop (length m - 81) m ≡ end
  behind-inner =
      let l = end-long held revision a b (how_many_of held revision) in
      let s = ap length in_two ∙ length-append (entry ++ inner) end in
      let z : length (entry ++ inner) ≡ length m - 81 = omega arith in
      ap (drop (length m - 81)) in_two ∙ drop_at (entry ++ inner) end (length m - 81) z

  pub last_block : block_at 81 m (records_of m - 1) ≡ end
  last_block =
      let l = end-long held revision a b (how_many_of held revision) in
      let r = merge-records in
      let z : records_of m - 1 ≡ records_of (entry ++ inner) + 0 = omega arith in
      ap (block_at 81 m) z ∙ ap (λ (x : List ℕ). block_at 81 x (records_of (entry ++ inner) + 0)) in_two
      ∙ block-behind (entry ++ inner) end (records_of (entry ++ inner)) 0 each-front.whole
      ∙ take_all 81 end (omega arith)

  -- ---- ENTRY

  first_said : subentry_at m 0 ≡ 0
  unfolding merge_of
  first_said =
      let l = entry-long held revision a b in
      said-front entry (inner ++ end) 0 (omega arith) (omega arith) ∙ entry-said held revision a b

  abbrev r : List ℕ
  r = block_at 81 revision 0

  abbrev x : List ℕ
  x = take 8 (drop 25 (block_at 81 (later_of held revision) 0))

  r-long : length r ≡ 81
  r-long = let some = records-some revision b in block-long revision b 0 (omega arith)

  entry-is : entry ≡ put_in r 25 x 33
  unfolding entry_record
  entry-is = refl

  entry-byte : (k : ℕ) → k < 81 → byte_at m 0 k ≡ get_or (put_in r 25 x 33) k 0
  entry-byte k h = byte-in m 0 k h ∙ ap (λ (l : List ℕ). get_or l k 0) (first_block ∙ entry-is)

  entry-date : (s : List ℕ) → later_of held revision ≡ s → (k : ℕ) → 25 ≤ k → k < 33 → byte_at m 0 k ≡ byte_at s 0 k
  entry-date s e k l h =
      let d = date-long held revision a b in
      let w = r-long in
      let z : k ≡ 25 + (k - 25) = omega arith in
      entry-byte k (omega arith)
      ∙ ap (λ (j : ℕ). get_or (put_in r 25 x 33) j 0) z
      ∙ put-here r x 25 33 (omega arith) (omega arith) (k - 25) (omega arith)
      ∙ get_or-take 8 (drop 25 (block_at 81 (later_of held revision) 0)) (k - 25) 0 (omega arith)
      ∙ get_or-drop 25 (block_at 81 (later_of held revision) 0) (k - 25) 0
      ∙ ap (λ (j : ℕ). get_or (block_at 81 (later_of held revision) 0) j 0) (sym z)
      ∙ ap (λ (l : List ℕ). get_or (block_at 81 l 0) k 0) e
      ∙ sym (byte-in s 0 k (omega arith))

  pub entry-merged : EntryMerged held revision
  entry-merged =
      let d = date-long held revision a b in
      let w = r-long in
      record {
        before = λ k h.
            entry-byte k (omega arith) ∙ put-before r x 25 33 (omega arith) (omega arith) k h
            ∙ sym (byte-in revision 0 k (omega arith));
        behind = λ k l h.
            entry-byte k h ∙ put-behind r x 25 33 (omega arith) (omega arith) k l ∙ sym (byte-in revision 0 k h);
        date = λ l.
            entry-date revision
            (rw (date-is held 0, date-is revision 0, le-leb (dated held 0) (dated revision 0) l) refl);
        later = λ l.
            entry-date held
            (rw (date-is held 0, date-is revision 0, lt-leb (dated held 0) (dated revision 0) l) refl);
        subentry = first_said;
      }

  -- ---- ENDENTRY

  last-said : subentry_at m (records_of m - 1) ≡ 999
  last-said =
      let e = merge-records in
      let z : records_of m - 1 ≡ records_of (entry ++ inner) + 0 = omega arith in
      ap (subentry_at m) z ∙ ap (λ (l : List ℕ). subentry_at l (records_of (entry ++ inner) + 0)) in_two
      ∙ said-behind (entry ++ inner) end 0 each-front.whole
      ∙ end-said held revision a b (how_many_of held revision)

  abbrev q : List ℕ
  q = block_at 81 revision (records_of revision - 1)

  abbrev c : List ℕ
  c = count_columns (how_many_of held revision)

  pub q-long : length q ≡ 81
  q-long = let some = records-some revision b in block-long revision b (records_of revision - 1) (omega arith)

  pub end_is : end ≡ put_in q 11 c 22
  unfolding end_record
  end_is = refl

  end-byte : (k : ℕ) → k < 81 → byte_at m (records_of m - 1) k ≡ get_or (put_in q 11 c 22) k 0
  end-byte k h = byte-in m (records_of m - 1) k h ∙ ap (λ (l : List ℕ). get_or l k 0) (last_block ∙ end_is)

  pub end-merged : EndMerged held revision
  end-merged =
      let d = count_long (how_many_of held revision) in
      let w = q-long in
      record {
        before = λ k h.
            end-byte k (omega arith) ∙ put-before q c 11 22 (omega arith) (omega arith) k h
            ∙ sym (byte-in revision (records_of revision - 1) k (omega arith));
        behind = λ k l h.
            end-byte k h ∙ put-behind q c 11 22 (omega arith) (omega arith) k l
            ∙ sym (byte-in revision (records_of revision - 1) k h);
        subentry = last-said;
      }

  -- its N1
  end-count : n1 (fields_of (block_at 81 m (records_of m - 1))) ≡ c
  end-count =
      let d = count_long (how_many_of held revision) in
      let w = q-long in
      field-of (block_at 81 m (records_of m - 1)) 1 (omega arith)
      ∙ ap (λ (l : List ℕ). field_at l 1) (last_block ∙ end_is)
      ∙ ap (take 11) (drop_at (take 11 q) (c ++ drop 22 q) 11 (length-take-le 11 q (omega arith)))
      ∙ take_at c (drop 22 q) 11 d

  count-few : how_many_of held revision < 1000
  unfolding how_many_of
  count-few = let l = many-to (present held revision) 1 998 in omega arith

  -- the held entry has the subentry of its second record
  count-some : how_many_of held revision ≡ 0 → ⊥
  unfolding how_many_of
  count-some =
      let some = records-some held a in
      let n = subentry_at held 1 in
      let low = said-inner held a 1 (omega arith) (omega arith) in
      let high = said-most held a 1 (omega arith) in
      let h = said_has held a n 1 (record { there = omega arith; said = refl }) low high in
      many-some (present held revision) 1 998 n low (omega arith) (rw h refl)

  count-is : how_many_of held revision ≡ either_has held revision
  unfolding how_many_of
  count-is = refl

  pub true-count : TrueCount held revision
  true-count =
      record {
        written =
            ap count_of end-count ∙ (count-read (how_many_of held revision) count-few).reads ∙ ap Some count-is;
        leading = λ e.
            (count-read (how_many_of held revision) count-few).leading count-some
            (sym (ap (λ (l : List ℕ). get_or l (start_of 11 l) 0) end-count) ∙ e);
        own = many-same (has m) (present held revision) 1 998 (λ k l h. merge-has held revision a b k);
      }

pub merge-ends : MergeEnds
merge-ends held revision a b = (entry-merged held revision a b, end-merged held revision a b)

pub merge-count : MergeCount
merge-count held revision a b = true-count held revision a b
