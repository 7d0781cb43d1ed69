-- Lines written back: each line is its own line written back, so they are good, keep what is no energy, read alike, and are
-- their own writing.
-- Assumes nothing.
use Prim.Native.Nat.{ℕ, zero, suc, ◌+◌, ◌*◌, ◌/◌, ◌%◌, ◌<◌, ◌≤◌}
use mathlib.Core.Path.{◌≡◌, refl, sym, ◌∙◌, ap}
use mathlib.Core.List.{List, [], ◌∷◌, map}
use native.Mathlib.Omega.{arith}
use lib.ListN.{length, drop, get_or, length-map}
use lib.Seq.{get_or-take, get_or-drop}
use Rattle.laws.specs.Walk.{All}
use Rattle.laws.specs.Blocks.{blocks}
use Rattle.laws.proofs.Blocks.{blocks-joined, length-joined, blocks-wide, length-blocks, block-at}
use Rattle.paper_number.specs.declared.types.Decimal.{Decimal}
use Rattle.paper_number.specs.declared.types.Reading.TheVariants.{Blank, Number}
use Rattle.paper_number.specs.Reading.{read_field}
use Rattle.paper_canonical.specs.Canonical.{Best}
use Rattle.paper_canonical.specs.Replacing.{canonical}
use Rattle.paper_canonical.proofs.Laws.{canonical-best, number-normal, number_fits}
use Rattle.paper_cinda.specs.Layout.{LINE, energy_at, lines_count, line_at, lines_in}
use Rattle.paper_cinda.specs.Check.{GoodLines}
use Rattle.paper_cinda.specs.Back.{line_back, lines_back}
use Rattle.cinda_back_laws.specs.Alike.{IsEnergy, a_least, a_greatest, Outside, before_energies}
use Rattle.cinda_back_laws.specs.Alike.{behind_energies}
use Rattle.cinda_back_laws.specs.Back.{BackLength, BackGood, BackKept, BackParts, BackCanonical, BackBlank}
use Rattle.cinda_back_laws.specs.Back.{BackReads, BackAgain}
use Rattle.cinda_back_laws.proofs.LineBack as Line
use Rattle.cinda_back_laws.proofs.SameOutside.{SameOutside, byte-before, byte-behind}
use Rattle.cinda_back_laws.proofs.GoodLine.{good-long, back-outside, back-reads-least, back-reads-greatest}
use Rattle.cinda_back_laws.proofs.GoodLine.{back-fine, back-again-line}
use Rattle.cinda_back_laws.proofs.GoodFile.{FineLine, Lined, lined, lined-check, good-said, fine-at}

-- ---- lists of lines

abbrev Whole-line : List ℕ → Type 0
Whole-line l = length l ≡ LINE

map-wide : (rs : List (List ℕ)) → All Whole-line rs → All Whole-line (map line_back rs)
map-wide [] h = tt
map-wide (r ∷ rs) h =
    let e : length r ≡ LINE = h.0 in
    (Line.back-length r (omega arith) ∙ e, map-wide rs h.1)

map-fine : (rs : List (List ℕ)) → All FineLine rs → All FineLine (map line_back rs)
map-fine [] h = tt
map-fine (r ∷ rs) h = (back-fine r h.0, map-fine rs h.1)

map-again : (rs : List (List ℕ)) → All FineLine rs → map line_back (map line_back rs) ≡ map line_back rs
map-again [] h = refl
map-again (r ∷ rs) h = rw (back-again-line r h.0, map-again rs h.1)

pub map_at : (rs : List (List ℕ)) (i : ℕ) → i < length rs → get_or (map line_back rs) i [] ≡ line_back (get_or rs i [])
map_at [] i h = absurd (omega arith)
map_at (r ∷ rs) zero h = refl
map_at (r ∷ rs) (suc i) h = map_at rs i (omega arith)

-- ---- whole lines, good or not

module _ (s : List ℕ) (whole : length s ≡ lines_count s * LINE) where
  wides : All Whole-line (map line_back (lines_in s))
  wides = map-wide (lines_in s) (blocks-wide LINE (lines_count s) s whole)

  many : length (map line_back (lines_in s)) ≡ lines_count s
  many = length-map (lines_in s) line_back ∙ length-blocks LINE (lines_count s) s

  pub whole_length : length (lines_back s) ≡ length s
  unfolding lines_back
  whole_length = length-joined LINE (map line_back (lines_in s)) wides ∙ rw many (sym whole)

  rows : blocks LINE (lines_count s) (lines_back s) ≡ map line_back (lines_in s)
  unfolding lines_back
  rows = rw many at (blocks-joined LINE (map line_back (lines_in s)) wides)

  -- its lines are the lines, each written back
  pub back-lines : lines_in (lines_back s) ≡ map line_back (lines_in s)
  back-lines = rw whole_length rows

  pub back_at : (i : ℕ) → i < lines_count s → line_at (lines_back s) i ≡ line_back (line_at s i)
  back_at i h =
      let n = lines_count s in
      sym (block-at LINE n (lines_back s) i h)
      ∙ ap (λ (rs : List (List ℕ)). get_or rs i []) rows
      ∙ map_at (lines_in s) i (rw (length-blocks LINE n s) h)
      ∙ ap line_back (block-at LINE n s i h)

-- the byte p of lines by its line
pub byte_at : (s : List ℕ) (p : ℕ) → get_or (line_at s (p / LINE)) (p % LINE) 0 ≡ get_or s p 0
byte_at s p =
    let e : p / LINE * LINE + p % LINE ≡ p = omega arith in
    get_or-take LINE (drop (p / LINE * LINE) s) (p % LINE) 0 (omega arith)
    ∙ get_or-drop (p / LINE * LINE) s (p % LINE) 0
    ∙ ap (λ (k : ℕ). get_or s k 0) e

pub line-of : (s : List ℕ) (p : ℕ) → length s ≡ lines_count s * LINE → p < length s → p / LINE < lines_count s
line-of s p whole h = omega arith

-- ---- two files whose lines are equal outside energies, byte by byte

pub outside-bytes : (s t : List ℕ) (p : ℕ) → Outside p → SameOutside (line_at s (p / LINE)) (line_at t (p / LINE))
    → get_or s p 0 ≡ get_or t p 0
outside-bytes s t p (before_energies h) o =
    sym (byte_at s p) ∙ byte-before (line_at s (p / LINE)) (line_at t (p / LINE)) o (p % LINE) (omega arith) ∙ byte_at t p
outside-bytes s t p (behind_energies h) o =
    sym (byte_at s p) ∙ byte-behind (line_at s (p / LINE)) (line_at t (p / LINE)) o (p % LINE) (omega arith) ∙ byte_at t p

-- ---- the canonical field of an energy

best_of : (f : List ℕ) (w : ℕ) (v : Decimal) → length f ≡ w → read_field f ≡ Number v → Best w v (canonical f)
unfolding canonical
best_of f w v long e =
    let fits = number_fits f v e in
    rw (e, long) (canonical-best w v (number-normal f v e) (rw (← long) fits))

blank-stays : (f : List ℕ) → read_field f ≡ Blank → canonical f ≡ f
unfolding canonical
blank-stays f e = rw e refl

-- ---- good lines

pub back-length : BackLength
back-length s g = whole_length s (lined s g).whole

pub back-good : BackGood
back-good s g =
    let p = lined s g in
    lined-check (lines_back s) (rw (whole_length s p.whole) p.good)
    (rw (back-lines s p.whole) (map-fine (lines_in s) p.fine))
    ∙ sym (good-said s g)

pub back-lined : (s : List ℕ) → GoodLines s → Lined (lines_back s)
back-lined s g = lined (lines_back s) (record { good = rw (back-good s g) g.good })

module _ (s : List ℕ) (g : GoodLines s) (i : ℕ) (h : i < lines_count s) where
  pub fine-line : FineLine (line_at s i)
  fine-line = fine-at s (lined s g) i h

  pub written-line : line_at (lines_back s) i ≡ line_back (line_at s i)
  written-line = back_at s (lined s g).whole i h

  pub line-outside : SameOutside (line_at (lines_back s) i) (line_at s i)
  line-outside = rw written-line (back-outside (line_at s i) fine-line)

  long-line : 55 ≤ length (line_at s i)
  long-line = let l = good-long (line_at s i) fine-line in omega arith

  pub energy-back : (k : ℕ) → IsEnergy k
      → energy_at (line_at (lines_back s) i) k ≡ canonical (energy_at (line_at s i) k)
  energy-back k (a_least e) = rw (e, written-line) (Line.back-least (line_at s i) long-line)
  energy-back k (a_greatest e) = rw (e, written-line) (Line.back-greatest (line_at s i) long-line)

  seven : (k : ℕ) → IsEnergy k → length (energy_at (line_at s i) k) ≡ 7
  seven k (a_least e) = rw e (Line.wide (line_at s i) 41 7 (let l = long-line in omega arith))
  seven k (a_greatest e) = rw e (Line.wide (line_at s i) 48 7 (let l = long-line in omega arith))

pub back-kept : BackKept
back-kept s g p h o = outside-bytes (lines_back s) s p o (line-outside s g (p / LINE) (line-of s p (lined s g).whole h))

pub back-parts : BackParts
back-parts s g i h = let o = line-outside s g i h in (o.front, o.behind)

pub back-canonical : BackCanonical
back-canonical s g i k h a v e =
    rw (energy-back s g i h k a) (best_of (energy_at (line_at s i) k) 7 v (seven s g i h k a) e)

pub back-blank : BackBlank
back-blank s g i k h a e = rw (energy-back s g i h k a) (blank-stays (energy_at (line_at s i) k) e)

pub back-reads : BackReads
back-reads s g i k h (a_least e) = rw (e, written-line s g i h) (back-reads-least (line_at s i) (fine-line s g i h))
back-reads s g i k h (a_greatest e) = rw (e, written-line s g i h) (back-reads-greatest (line_at s i) (fine-line s g i h))

again : (s : List ℕ) → map line_back (lines_in (lines_back s)) ≡ map line_back (lines_in s)
    → lines_back (lines_back s) ≡ lines_back s
unfolding lines_back
again s e = rw e

pub back-again : BackAgain
back-again s g =
    let p = lined s g in
    again s (rw (back-lines s p.whole) (map-again (lines_in s) p.fine))
