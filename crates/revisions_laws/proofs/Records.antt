-- Whole records, one part behind the other, and what columns 72 to 74 say on each.
-- Assumes nothing.
use Prim.Native.Nat.{ℕ, zero, suc, ◌+◌, ◌-◌, ◌*◌, ◌<◌, ◌≤◌}
use mathlib.Core.Path.{◌≡◌, ap, ◌∙◌}
use mathlib.Core.List.{List, [], ◌++◌}
use native.Mathlib.Omega.{arith}
use lib.ListN.{length, take, drop, length-append, length-drop}
use lib.Seq.{length-take-le, take-append-le, drop-append-le, drop-append-add, take-take, take-add, drop_at, drop-drop}
use Rattle.laws.specs.Blocks.{block_at}
use Rattle.laws.specs.Members.{join_of}
use Rattle.laws.proofs.Search.{either}
use Rattle.paper_record.specs.System.{number_in}
use Rattle.paper_revisions.specs.Extents.{records_of, subentry_at, extent_of, bytes_of}
use Rattle.revisions_extents_laws.proofs.Extents.{extent-only, extent-in}

-- whole records, of which each says a number that is such
pub record Each (P : ℕ → Type 0) (l : List ℕ) : Type 0 where
  pub whole : length l ≡ records_of l * 81
  pub said : (i : ℕ) → i < records_of l → P (subentry_at l i)

pub each_none : (P : ℕ → Type 0) → Each P []
each_none P = record { whole = omega arith; said = λ i h. absurd (omega arith) }

pub each-weaker : {P Q : ℕ → Type 0} → ((k : ℕ) → P k → Q k) → (l : List ℕ) → Each P l → Each Q l
each-weaker w l x = record { whole = x.whole; said = λ i h. w (subentry_at l i) (x.said i h) }

-- ---- two parts

pub block-front : (a b : List ℕ) (i : ℕ) → (i + 1) * 81 ≤ length a → block_at 81 (a ++ b) i ≡ block_at 81 a i
block-front a b i h =
    let d = length-drop (i * 81) a in
    ap (take 81) (drop-append-le (i * 81) a b (omega arith)) ∙ take-append-le 81 (drop (i * 81) a) b (omega arith)

pub block-behind : (a b : List ℕ) (k i : ℕ) → length a ≡ k * 81 → block_at 81 (a ++ b) (k + i) ≡ block_at 81 b i
block-behind a b k i h =
    let z : (k + i) * 81 ≡ length a + i * 81 = omega arith in
    ap (λ (j : ℕ). take 81 (drop j (a ++ b))) z ∙ ap (take 81) (drop-append-add a b (i * 81))

pub said-front : (a b : List ℕ) (i : ℕ) → length a ≡ records_of a * 81 → i < records_of a
    → subentry_at (a ++ b) i ≡ subentry_at a i
unfolding subentry_at
said-front a b i e h = ap (λ (r : List ℕ). number_in r 71 3) (block-front a b i (omega arith))

pub said-behind : (a b : List ℕ) (i : ℕ) → length a ≡ records_of a * 81
    → subentry_at (a ++ b) (records_of a + i) ≡ subentry_at b i
unfolding subentry_at
said-behind a b i e = ap (λ (r : List ℕ). number_in r 71 3) (block-behind a b (records_of a) i e)

pub records-sum : (a b : List ℕ) → length a ≡ records_of a * 81 → records_of (a ++ b) ≡ records_of a + records_of b
records-sum a b e = let l = length-append a b in omega arith

pub each_both : {P : ℕ → Type 0} (a b : List ℕ) → Each P a → Each P b → Each P (a ++ b)
each_both {P} a b x y =
    let e = x.whole in
    let f = y.whole in
    let l = length-append a b in
    let r = records-sum a b e in
    record {
      whole = omega arith;
      said = λ i h.
          either i (records_of a)
          (λ m. rw (said-front a b i e m) (x.said i m))
          (λ m.
          let z : i ≡ records_of a + (i - records_of a) = omega arith in
          rw (z, said-behind a b (i - records_of a) e) (y.said (i - records_of a) (omega arith)));
    }

pub each-join : {P : ℕ → Type 0} (f : ℕ → List ℕ) (i n : ℕ) → ((k : ℕ) → i ≤ k → k < i + n → Each P (f k))
    → Each P (join_of f i n)
unfolding join_of
each-join {P} f i zero h = each_none P
each-join f i (suc n) h =
    each_both (f i) (join_of f (i + 1) n) (h i (omega arith) (omega arith))
    (each-join f (i + 1) n (λ k a b. h k (omega arith) (omega arith)))

-- ---- the part of an entry that its extent shows

pub part-long : (s : List ℕ) (n : ℕ) → length s ≡ records_of s * 81
    → length (bytes_of s (extent_of s n)) ≡ ((extent_of s n).past - (extent_of s n).from) * 81
part-long s n e =
    let x = extent-in s n in
    let a = x.0 in
    let b = x.1 in
    let d = length-drop ((extent_of s n).from * 81) s in
    length-take-le (((extent_of s n).past - (extent_of s n).from) * 81) (drop ((extent_of s n).from * 81) s) (omega arith)

-- a record inside a part
part-block : (s : List ℕ) (from e i : ℕ) → (from + e) * 81 ≤ length s → i < e
    → block_at 81 (take (e * 81) (drop (from * 81) s)) i ≡ block_at 81 s (from + i)
part-block s from e i fits h =
    let l = drop (from * 81) s in
    let w = (e - i) * 81 in
    let d = length-drop (from * 81) s in
    let x : e * 81 ≡ i * 81 + w = omega arith in
    let y : from * 81 + i * 81 ≡ (from + i) * 81 = omega arith in
    let here : drop (i * 81) (take (e * 81) l) ≡ take w (drop (i * 81) l) =
    ap (λ (k : ℕ). drop (i * 81) (take k l)) x ∙ ap (drop (i * 81)) (take-add (i * 81) w l)
    ∙ drop_at (take (i * 81) l) (take w (drop (i * 81) l)) (i * 81) (length-take-le (i * 81) l (omega arith)) in
    ap (take 81) here ∙ take-take 81 w (drop (i * 81) l) (omega arith)
    ∙ ap (take 81) (drop-drop (i * 81) (from * 81) s ∙ ap (λ (k : ℕ). drop k s) y)

pub each_part : (s : List ℕ) (n : ℕ) → length s ≡ records_of s * 81 → Each (λ k. k ≡ n) (bytes_of s (extent_of s n))
unfolding subentry_at
each_part s n e =
    let from = (extent_of s n).from in
    let many = (extent_of s n).past - from in
    let x = extent-in s n in
    let a = x.0 in
    let b = x.1 in
    let long = part-long s n e in
    record {
      whole = omega arith;
      said = λ i h.
          ap (λ (r : List ℕ). number_in r 71 3) (part-block s from many i (omega arith) (omega arith))
          ∙ (extent-only s n (from + i) (omega arith) (omega arith)).said;
    }
