-- Columns put into a record: the rest stays as it was. The ENTRY and ENDENTRY records of a merge.
-- Assumes nothing.
use Prim.Native.Nat.{ℕ, ◌+◌, ◌-◌, ◌*◌, ◌<◌, ◌≤◌}
use mathlib.Core.Path.{◌≡◌, refl, ap, ◌∙◌}
use mathlib.Core.Bool.{Bool, true, false, cond}
use mathlib.Core.List.{List, ◌++◌}
use native.Mathlib.Omega.{arith}
use lib.Dec.{leb}
use lib.ListN.{length, get_or, take, drop, length-append, length-drop, get_or-append}
use lib.Seq.{length-take-le, take_all, get_or-take, get_or-drop, get_or-append-add}
use Rattle.laws.specs.Blocks.{block_at}
use Rattle.paper_record.specs.System.{number_in}
use Rattle.paper_entry.specs.Judging.{Accepted}
use Rattle.paper_entry.proofs.Lengths.{accepted-good, whole-records}
use Rattle.paper_revisions.specs.Extents.{records_of, subentry_at, date_at}
use Rattle.paper_revisions.specs.Merging.{count_columns, later_of, entry_record, end_record}
use Rattle.revisions_extents_laws.proofs.Digits.{number_same}
use Rattle.revisions_extents_laws.proofs.Columns.{records-some, said-entry, said-last}

-- x stands behind the first m columns of r, which has as many columns as before
abbrev pub put_in : List ℕ → ℕ → List ℕ → ℕ → List ℕ
put_in r m x p = take m r ++ (x ++ drop p r)

module _ (r x : List ℕ) (m p : ℕ) (wide : m + length x ≡ p) (room : p ≤ length r) where
  front_long : length (take m r) ≡ m
  front_long = length-take-le m r (omega arith)

  pub put-long : length (put_in r m x p) ≡ length r
  put-long =
      let a = front_long in
      let b = length-append (take m r) (x ++ drop p r) in
      let c = length-append x (drop p r) in
      let d = length-drop p r in
      omega arith

  pub put-before : (i : ℕ) → i < m → get_or (put_in r m x p) i 0 ≡ get_or r i 0
  put-before i h =
      let a = front_long in
      get_or-append (take m r) (x ++ drop p r) 0 i (omega arith) ∙ get_or-take m r i 0 h

  pub put-here : (i : ℕ) → i < length x → get_or (put_in r m x p) (m + i) 0 ≡ get_or x i 0
  put-here i h =
      let a = front_long in
      let z : m + i ≡ length (take m r) + i = omega arith in
      ap (λ (k : ℕ). get_or (put_in r m x p) k 0) z ∙ get_or-append-add (take m r) (x ++ drop p r) i 0
      ∙ get_or-append x (drop p r) 0 i h

  pub put-behind : (i : ℕ) → p ≤ i → get_or (put_in r m x p) i 0 ≡ get_or r i 0
  put-behind i h =
      let a = front_long in
      let z : i ≡ length (take m r) + (length x + (i - p)) = omega arith in
      let y : p + (i - p) ≡ i = omega arith in
      ap (λ (k : ℕ). get_or (put_in r m x p) k 0) z
      ∙ get_or-append-add (take m r) (x ++ drop p r) (length x + (i - p)) 0
      ∙ get_or-append-add x (drop p r) (i - p) 0
      ∙ get_or-drop p r (i - p) 0
      ∙ ap (λ (k : ℕ). get_or r k 0) y

-- ---- records of an accepted entry

pub accepted-whole : (s : List ℕ) → Accepted s → length s ≡ records_of s * 81
accepted-whole s a = (whole-records (length s) (accepted-good s a)).0

pub block-long : (s : List ℕ) → Accepted s → (i : ℕ) → i < records_of s → length (block_at 81 s i) ≡ 81
block-long s a i h =
    let e = accepted-whole s a in
    let d = length-drop (i * 81) s in
    length-take-le 81 (drop (i * 81) s) (omega arith)

pub count_long : (n : ℕ) → length (count_columns n) ≡ 11
unfolding count_columns
count_long n = refl

module _ (held revision : List ℕ) (a : Accepted held) (b : Accepted revision) where
  -- eight digits of one of the two
  pub date-long : length (take 8 (drop 25 (block_at 81 (later_of held revision) 0))) ≡ 8
  date-long = by-test (leb (date_at held 0) (date_at revision 0))
    where
      by-test : (t : Bool) → length (take 8 (drop 25 (block_at 81 (cond t revision held) 0))) ≡ 8
      by-test true =
          let some = records-some revision b in
          let l = block-long revision b 0 (omega arith) in
          let d = length-drop 25 (block_at 81 revision 0) in
          length-take-le 8 (drop 25 (block_at 81 revision 0)) (omega arith)
      by-test false =
          let some = records-some held a in
          let l = block-long held a 0 (omega arith) in
          let d = length-drop 25 (block_at 81 held 0) in
          length-take-le 8 (drop 25 (block_at 81 held 0)) (omega arith)

  first-long : length (block_at 81 revision 0) ≡ 81
  first-long = let some = records-some revision b in block-long revision b 0 (omega arith)

  last-long : length (block_at 81 revision (records_of revision - 1)) ≡ 81
  last-long = let some = records-some revision b in block-long revision b (records_of revision - 1) (omega arith)

  pub entry-long : length (entry_record held revision) ≡ 81
  unfolding entry_record
  entry-long =
      let d = date-long in
      let l = first-long in
      put-long (block_at 81 revision 0) (take 8 (drop 25 (block_at 81 (later_of held revision) 0))) 25 33 (omega arith)
      (omega arith)
      ∙ l

  pub end-long : (n : ℕ) → length (end_record revision n) ≡ 81
  unfolding end_record
  end-long n =
      let d = count_long n in
      let l = last-long in
      put-long (block_at 81 revision (records_of revision - 1)) (count_columns n) 11 22 (omega arith) (omega arith) ∙ l

  -- one record that says what another one says
  same-said : (r t : List ℕ) → ((k : ℕ) → 71 ≤ k → get_or r k 0 ≡ get_or t k 0) → number_in r 71 3 ≡ number_in t 71 3
  same-said r t h = number_same r t 71 71 3 (λ k l. h (71 + k) (omega arith))

  pub entry-said : subentry_at (entry_record held revision) 0 ≡ 0
  unfolding entry_record subentry_at
  entry-said =
      let some = records-some revision b in
      let d = date-long in
      let l = first-long in
      let r = block_at 81 revision 0 in
      let x = take 8 (drop 25 (block_at 81 (later_of held revision) 0)) in
      let long : length (put_in r 25 x 33) ≡ 81 = put-long r x 25 33 (omega arith) (omega arith) ∙ l in
      ap (λ (t : List ℕ). number_in t 71 3) (take_all 81 (put_in r 25 x 33) (omega arith))
      ∙ same-said (put_in r 25 x 33) r (λ k h. put-behind r x 25 33 (omega arith) (omega arith) k (omega arith))
      ∙ said-entry revision b (omega arith)

  pub end-said : (n : ℕ) → subentry_at (end_record revision n) 0 ≡ 999
  unfolding end_record subentry_at
  end-said n =
      let some = records-some revision b in
      let d = count_long n in
      let l = last-long in
      let r = block_at 81 revision (records_of revision - 1) in
      let x = count_columns n in
      let long : length (put_in r 11 x 22) ≡ 81 = put-long r x 11 22 (omega arith) (omega arith) ∙ l in
      ap (λ (t : List ℕ). number_in t 71 3) (take_all 81 (put_in r 11 x 22) (omega arith))
      ∙ same-said (put_in r 11 x 22) r (λ k h. put-behind r x 11 22 (omega arith) (omega arith) k (omega arith))
      ∙ said-last revision b (records_of revision - 1) (omega arith)
