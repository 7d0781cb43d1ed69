-- Lines written back are stored part by part: the four parts of a line, and line behind line.
-- Assumes nothing.
use Prim.Native.Nat.{ℕ, ◌+◌, ◌-◌, ◌*◌, ◌<◌, ◌≤◌}
use mathlib.Core.Path.{◌≡◌, refl, sym, ◌∙◌, ap}
use mathlib.Core.List.{List, ◌++◌}
use native.Mathlib.Omega.{arith}
use lib.ListN.{length, take, drop, length-drop}
use lib.Seq.{paste, paste-zero, length-take-le, take_all, take-take}
use Rattle.laws.proofs.Pasted.{paste_more}
use Rattle.paper_record.specs.Columns.{columns_at}
use Rattle.paper_canonical.specs.Replacing.{canonical}
use Rattle.paper_cinda.specs.Layout.{LINE, lines_count, line_at}
use Rattle.paper_cinda.specs.Back.{line_back, lines_back}
use Rattle.cinda_back_laws.proofs.Back.{whole_length, back_at}
use Rattle.cinda_back_laws.proofs.LineBack.{back-front, back-least, back-greatest, back-behind, back-length}

-- what is stored of a list are its first n elements
same-front : (d x y : List ℕ) (at n : ℕ) → take n x ≡ take n y → paste d at x n ≡ paste d at y n
same-front d x y at n e = ap (λ (z : List ℕ). take at d ++ z ++ drop (at + n) d) e

-- ---- a line

module _ (d l : List ℕ) (at : ℕ) (room : at + LINE ≤ length d) (long : length l ≡ LINE) where
  abbrev back : List ℕ
  back = line_back l

  back_long : length (line_back l) ≡ LINE
  back_long = back-length l (omega arith) ∙ long

  front : paste d at (columns_at 0 41 l) 41 ≡ paste d at (line_back l) 41
  front =
      same-front d (columns_at 0 41 l) back at 41
      (take-take 41 41 l (omega arith) ∙ sym (back-front l (omega arith)))

  -- one part more behind the first m columns
  part : (m n : ℕ) (y : List ℕ) → m + n ≤ LINE → columns_at m n (line_back l) ≡ y
      → paste (paste d at (line_back l) m) (at + m) y n ≡ paste d at (line_back l) (m + n)
  part m n y h e =
      let w = back_long in
      paste_more d back y at m n (omega arith) (omega arith)
      (ap (take n) (sym e) ∙ take-take n n (drop m back) (omega arith))

  behind : columns_at 55 71 (line_back l) ≡ columns_at 55 71 l
  behind = ap (take 71) (back-behind l (omega arith))

  pub line-stored : (d1 d2 d3 d4 : List ℕ)
      → d1 ≡ paste d at (columns_at 0 41 l) 41
      → d2 ≡ paste d1 (at + 41) (canonical (columns_at 41 7 l)) 7
      → d3 ≡ paste d2 (at + 48) (canonical (columns_at 48 7 l)) 7
      → d4 ≡ paste d3 (at + 55) (columns_at 55 71 l) 71
      → d4 ≡ paste d at (line_back l) LINE
  line-stored d1 d2 d3 d4 e1 e2 e3 e4 =
      let f1 : d1 ≡ paste d at back 41 = e1 ∙ front in
      let f2 : d2 ≡ paste d at back 48 =
      e2 ∙ rw f1 (part 41 7 (canonical (columns_at 41 7 l)) (omega arith) (back-least l (omega arith))) in
      let f3 : d3 ≡ paste d at back 55 =
      e3 ∙ rw f2 (part 48 7 (canonical (columns_at 48 7 l)) (omega arith) (back-greatest l (omega arith))) in
      e4 ∙ rw f3 (part 55 71 (columns_at 55 71 l) (omega arith) behind)

-- ---- the columns that are lent to the writer

pub lent-columns : (l : List ℕ) (from n : ℕ) → from + n ≤ length l
    → (take (from + n - from) (drop from l) ≡ columns_at from n l) × (length (columns_at from n l) ≡ n)
lent-columns l from n h =
    let e : from + n - from ≡ n = omega arith in
    (rw e, length-take-le n (drop from l) (simp length-drop (omega arith)))

-- stored as they are, or as f makes them
pub columns-stored : (f : List ℕ → List ℕ) (d new l : List ℕ) (at from n : ℕ) → from + n ≤ length l
    → new ≡ paste d at (f (take (from + n - from) (drop from l))) (length (take (from + n - from) (drop from l)))
    → new ≡ paste d at (f (columns_at from n l)) n
columns-stored f d new l at from n h e = let (same, wide) = lent-columns l from n h in rw (same, wide) at e

-- ---- all lines

-- the first i of n lines are stored
pub record Stored (s lent : List ℕ) (n : ℕ) (out : List ℕ) (i : ℕ) : Type 0 where
  pub many : n ≡ lines_count s
  pub whole : length s ≡ n * LINE
  pub fits : length s ≤ length lent
  pub upto : i ≤ n
  pub long : length out ≡ length lent
  pub same : out ≡ paste lent 0 (lines_back s) (i * LINE)

pub stored-none : (s lent : List ℕ) → length s ≡ lines_count s * LINE → length s ≤ length lent
    → Stored s lent (lines_count s) lent 0
stored-none s lent whole fits =
    record {
      many = refl;
      whole = whole;
      fits = fits;
      upto = omega arith;
      long = refl;
      same = paste-zero lent 0 (lines_back s);
    }

module _ {s lent : List ℕ} {n : ℕ} {out : List ℕ} {i : ℕ} (k : Stored s lent n out i) where
  whole-there : length s ≡ lines_count s * LINE
  whole-there = rw k.many at k.whole

  back_whole : length (lines_back s) ≡ length s
  back_whole = whole_length s whole-there

  pub stored-all : n ≤ i → out ≡ lines_back s ++ drop (length s) lent
  stored-all h =
      let w = k.whole in
      let u = k.upto in
      let b = back_whole in
      let e : i * LINE ≡ length s = omega arith in
      let z : 0 + length s ≡ length s = omega arith in
      k.same ∙ rw (e, z, take_all (length s) (lines_back s) (omega arith)) refl

  -- one line more behind them
  next-line : i < n
      → paste (paste lent 0 (lines_back s) (i * LINE)) (i * LINE) (line_back (line_at s i)) LINE
      ≡ paste lent 0 (lines_back s) ((i + 1) * LINE)
  next-line h =
      let w = k.whole in
      let b = back_whole in
      let m = k.many in
      let new = line_back (line_at s i) in
      let z : 0 + i * LINE ≡ i * LINE = omega arith in
      let e : i * LINE + LINE ≡ (i + 1) * LINE = omega arith in
      let there : line_at (lines_back s) i ≡ new = back_at s whole-there i (omega arith) in
      let same : take LINE new ≡ take LINE (drop (i * LINE) (lines_back s)) =
      ap (take LINE) (sym there) ∙ take-take LINE LINE (drop (i * LINE) (lines_back s)) (omega arith) in
      ap (λ (at : ℕ). paste (paste lent 0 (lines_back s) (i * LINE)) at new LINE) (sym z)
      ∙ paste_more lent (lines_back s) new 0 (i * LINE) LINE (omega arith) (omega arith) same
      ∙ ap (λ (m : ℕ). paste lent 0 (lines_back s) m) e

  pub stored_next : i < n → (new : List ℕ)
      → new ≡ paste out (i * LINE) (line_back (take (i * LINE + LINE - i * LINE) (drop (i * LINE) s))) LINE
      → length new ≡ length out → Stored s lent n new (i + 1)
  stored_next h new e long =
      let lent-line : i * LINE + LINE - i * LINE ≡ LINE = omega arith in
      record {
        many = k.many;
        whole = k.whole;
        fits = k.fits;
        upto = omega arith;
        long = long ∙ k.long;
        same = e ∙ rw (lent-line, k.same) (next-line h);
      }
