-- Two lines that are equal outside their energies: each column and each rule but 72 and 76 is the same.
-- Assumes nothing.
use Prim.Native.Nat.{ℕ, zero, suc, ◌+◌, ◌-◌, ◌<◌, ◌≤◌}
use mathlib.Core.Path.{◌≡◌, refl, sym, ◌∙◌, ap}
use mathlib.Core.List.{List}
use native.Mathlib.Omega.{arith}
use lib.Dec.{eqb}
use lib.ListN.{take, drop, get_or}
use lib.Seq.{drop-drop, get_or-take, get_or-drop}
use Rattle.laws.proofs.Search.{first-same}
use Rattle.paper_record.specs.Columns.{columns_at}
use Rattle.paper_record.specs.System.{no_digit_at, digits_in, number_in}
use Rattle.paper_cinda.specs.Rules.{rule71, rule73, rule74, rule75, rule77, good_z, good_mass, good_isomer, is_many}
use Rattle.paper_cinda.specs.Rules.{good_block, good_date}
use Rattle.paper_cinda.proofs.Lines.{part-of-taken}

-- columns behind the first m
part-of-rest : (n w m : ℕ) (l : List ℕ) → m ≤ n → columns_at (n - m) w (drop m l) ≡ columns_at n w l
part-of-rest n w m l h =
    let e : m + (n - m) ≡ n = omega arith in
    ap (take w) (drop-drop (n - m) m l ∙ ap (λ (k : ℕ). drop k l) e)

byte-of-rest : (n m : ℕ) (l : List ℕ) → m ≤ n → get_or (drop m l) (n - m) 0 ≡ get_or l n 0
byte-of-rest n m l h =
    let e : m + (n - m) ≡ n = omega arith in
    get_or-drop m l (n - m) 0 ∙ ap (λ (k : ℕ). get_or l k 0) e

pub record SameOutside (l m : List ℕ) : Type 0 where
  pub front : take 41 l ≡ take 41 m
  pub behind : drop 55 l ≡ drop 55 m

-- digits by their bytes
module _ (l m : List ℕ) where
  digits_same : (i n : ℕ) → ((k : ℕ) → i ≤ k → k < i + n → get_or l k 0 ≡ get_or m k 0) → digits_in l i n ≡ digits_in m i n
  unfolding digits_in
  digits_same i n h =
      ap (λ (x : ℕ). eqb x (i + n)) (first-same (no_digit_at l) (no_digit_at m) i n (λ k a b. rw (h k a b)))

  number_same : (i n : ℕ) → ((k : ℕ) → i ≤ k → k < i + n → get_or l k 0 ≡ get_or m k 0) → number_in l i n ≡ number_in m i n
  unfolding number_in
  number_same i zero h = refl
  number_same i (suc n) h =
      rw (number_same i n (λ k a b. h k a (omega arith)), h (i + n) (omega arith) (omega arith))

module _ (l m : List ℕ) (same : SameOutside l m) where
  pub byte-before : (p : ℕ) → p < 41 → get_or l p 0 ≡ get_or m p 0
  byte-before p h =
      sym (get_or-take 41 l p 0 h) ∙ ap (λ (x : List ℕ). get_or x p 0) same.front ∙ get_or-take 41 m p 0 h

  pub byte-behind : (p : ℕ) → 55 ≤ p → get_or l p 0 ≡ get_or m p 0
  byte-behind p h =
      sym (byte-of-rest p 55 l h) ∙ ap (λ (x : List ℕ). get_or x (p - 55) 0) same.behind ∙ byte-of-rest p 55 m h

  pub columns-before : (n w : ℕ) → n + w ≤ 41 → columns_at n w l ≡ columns_at n w m
  columns-before n w h =
      sym (part-of-taken n w 41 l h) ∙ ap (columns_at n w) same.front ∙ part-of-taken n w 41 m h

  pub columns-behind : (n w : ℕ) → 55 ≤ n → columns_at n w l ≡ columns_at n w m
  columns-behind n w h =
      sym (part-of-rest n w 55 l h) ∙ ap (columns_at (n - 55) w) same.behind ∙ part-of-rest n w 55 m h

  pub number_behind : (i n : ℕ) → 55 ≤ i → number_in l i n ≡ number_in m i n
  number_behind i n h = number_same l m i n (λ k a b. byte-behind k (omega arith))

  -- ---- the rules

  pub same71 : rule71 l ≡ rule71 m
  unfolding rule71
  same71 = rw (byte-behind 125 (omega arith))

  pub same73 : rule73 l ≡ rule73 m
  unfolding rule73
  same73 = rw (byte-before 0 (omega arith))

  pub many-same : is_many l ≡ is_many m
  unfolding is_many
  many-same = rw (columns-before 4 3 (omega arith))

  z-same : good_z l ≡ good_z m
  unfolding good_z
  z-same = rw (many-same, columns-before 1 3 (omega arith))

  mass-same : good_mass l ≡ good_mass m
  unfolding good_mass
  mass-same = rw (many-same, columns-before 4 3 (omega arith))

  isomer-same : good_isomer l ≡ good_isomer m
  unfolding good_isomer
  isomer-same = rw (byte-before 7 (omega arith))

  pub same74 : rule74 l ≡ rule74 m
  unfolding rule74
  same74 = rw (z-same, mass-same, isomer-same)

  block_same : good_block l ≡ good_block m
  unfolding good_block
  block_same = rw (byte-before 33 (omega arith), columns-before 34 3 (omega arith))

  pub same75 : rule75 l ≡ rule75 m
  unfolding rule75
  same75 = rw (block_same, columns-before 37 2 (omega arith))

  date-same : good_date l ≡ good_date m
  unfolding good_date
  date-same =
      rw (digits_same l m 79 6 (λ k a b. byte-behind k (omega arith)), number_behind 83 2 (omega arith))

  pub same77 : rule77 l ≡ rule77 m
  unfolding rule77
  same77 = rw date-same
