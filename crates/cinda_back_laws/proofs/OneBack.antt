-- When two good files have the same writing.
-- Assumes nothing.
use Prim.Native.Nat.{ℕ, ◌+◌, ◌*◌, ◌/◌, ◌%◌, ◌<◌}
use mathlib.Core.Path.{◌≡◌, refl, sym, ◌∙◌, ap}
use mathlib.Core.Bool.{true, false}
use mathlib.Core.List.{List, [], map}
use native.Mathlib.Omega.{arith}
use lib.ListN.{length, take, drop, get_or, length-map, length-drop}
use lib.Seq.{get_or-take, get_or-drop, ext_get_or, length-take-le}
use Rattle.laws.proofs.Blocks.{length-blocks, block-at}
use Rattle.paper_number.specs.declared.types.Decimal.{Decimal}
use Rattle.paper_number.specs.declared.types.Reading.{Reading}
use Rattle.paper_number.specs.declared.types.Reading.TheVariants.{Blank, Number, Refused}
use Rattle.paper_number.specs.Form.{form_of}
use Rattle.paper_record.specs.Numbers.{no_value}
use Rattle.paper_cinda.specs.Layout.{LINE, lines_count, line_at, lines_in}
use Rattle.paper_cinda.specs.Check.{GoodLines}
use Rattle.paper_cinda.specs.Back.{line_back, lines_back}
use Rattle.cinda_back_laws.specs.Alike.{IsEnergy, a_least, a_greatest, read_at, Outside, before_energies}
use Rattle.cinda_back_laws.specs.Alike.{behind_energies, SameLines}
use Rattle.cinda_back_laws.specs.Back.{OneBack}
use Rattle.cinda_back_laws.proofs.GoodLine.{AlikeLines, good-least, good-greatest, one_line, line-alike}
use Rattle.cinda_back_laws.proofs.GoodFile.{lined}
use Rattle.cinda_back_laws.proofs.Back.{map_at, byte_at, line-of, outside-bytes, back-length, fine-line}
use Rattle.cinda_back_laws.proofs.Back.{written-line}

-- "blank in the same ones and equal in decimals" say together that each energy reads alike
read_alike : (x y : Reading) → no_value true (form_of x) ≡ false → no_value true (form_of y) ≡ false
    → (x ≡ Blank → y ≡ Blank) → (y ≡ Blank → x ≡ Blank)
    → ((v w : Decimal) → x ≡ Number v → y ≡ Number w → v ≡ w) → x ≡ y
read_alike Blank y p q a b d = sym (a refl)
read_alike (Number v) Blank p q a b d = b refl
read_alike (Number v) (Number w) p q a b d = ap Number (d v w refl refl)
read_alike (Number v) (Refused n) p q a b d = let z : ◌≡◌ {A = ℕ} 0 1 = cc in absurd (omega arith)
read_alike (Refused n) y p q a b d = let z : ◌≡◌ {A = ℕ} 0 1 = cc in absurd (omega arith)

same-value : {v w : Decimal} → Number v ≡ Number w → v ≡ w
same-value e = cc

good-energy : (s : List ℕ) → GoodLines s → (i k : ℕ) → i < lines_count s → IsEnergy k
    → no_value true (form_of (read_at s i k)) ≡ false
good-energy s g i k h (a_least e) = rw e (good-least (line_at s i) (fine-line s g i h))
good-energy s g i k h (a_greatest e) = rw e (good-greatest (line_at s i) (fine-line s g i h))

module _ (s t : List ℕ) (g : GoodLines s) (f : GoodLines t) (long : length s ≡ length t) where
  count : lines_count t ≡ lines_count s
  count = rw long

  there : (i : ℕ) → i < lines_count s → i < lines_count t
  there i h = rw count h

  -- ---- from the writing to the files

  line_same : lines_back s ≡ lines_back t → (i : ℕ) → i < lines_count s → AlikeLines (line_at s i) (line_at t i)
  line_same e i h =
      line-alike (line_at s i) (line_at t i) (fine-line s g i h) (fine-line t f i (there i h))
      (sym (written-line s g i h) ∙ rw e (written-line t f i (there i h)))

  reads-alike : lines_back s ≡ lines_back t → (i k : ℕ) → i < lines_count s → IsEnergy k → read_at s i k ≡ read_at t i k
  reads-alike e i k h (a_least a) = rw a (line_same e i h).least
  reads-alike e i k h (a_greatest a) = rw a (line_same e i h).greatest

  files-of-one : lines_back s ≡ lines_back t → SameLines s t
  files-of-one e =
      record {
        long = long;
        outside = λ p h o. outside-bytes s t p o (line_same e (p / LINE) (line-of s p (lined s g).whole h)).outside;
        blanks = λ i k h a. (λ b. sym (reads-alike e i k h a) ∙ b, λ b. reads-alike e i k h a ∙ b);
        decimals = λ i k h a v w x y. same-value (sym x ∙ reads-alike e i k h a ∙ y);
      }

  -- ---- and from the files to the writing

  module _ (same : SameLines s t) where
    whole : length s ≡ lines_count s * LINE
    whole = (lined s g).whole

    line-long : (u : List ℕ) → length u ≡ length s → (i : ℕ) → i < lines_count s → length (line_at u i) ≡ LINE
    line-long u e i h =
        let w = whole in
        length-take-le LINE (drop (i * LINE) u) (simp length-drop (omega arith))

    -- a byte of the line i that is in no energy
    byte-same : (i j : ℕ) → i < lines_count s → j < LINE → Outside (i * LINE + j)
        → get_or (line_at s i) j 0 ≡ get_or (line_at t i) j 0
    byte-same i j h l o =
        let w = whole in
        let pi : (i * LINE + j) / LINE ≡ i = omega arith in
        let pj : (i * LINE + j) % LINE ≡ j = omega arith in
        let here = same.outside (i * LINE + j) (omega arith) o in
        (let x = byte_at s (i * LINE + j) in rw (pi, pj) at x) ∙ here
        ∙ sym (let x = byte_at t (i * LINE + j) in rw (pi, pj) at x)

    front_same : (i : ℕ) → i < lines_count s → take 41 (line_at s i) ≡ take 41 (line_at t i)
    front_same i h =
        let a = line-long s refl i h in
        let b = line-long t (sym long) i h in
        let x : length (take 41 (line_at s i)) ≡ 41 = length-take-le 41 (line_at s i) (omega arith) in
        let y : length (take 41 (line_at t i)) ≡ 41 = length-take-le 41 (line_at t i) (omega arith) in
        ext_get_or 0 (take 41 (line_at s i)) (take 41 (line_at t i)) (x ∙ sym y)
        (λ j l.
        let m : j < 41 = rw x at l in
        let o : (i * LINE + j) % LINE + 1 < 42 = omega arith in
        rw (get_or-take 41 (line_at s i) j 0 m, get_or-take 41 (line_at t i) j 0 m)
        (byte-same i j h (omega arith) (before_energies o)))

    behind-same : (i : ℕ) → i < lines_count s → drop 55 (line_at s i) ≡ drop 55 (line_at t i)
    behind-same i h =
        let a = line-long s refl i h in
        let b = line-long t (sym long) i h in
        let x : length (drop 55 (line_at s i)) ≡ 71 = length-drop 55 (line_at s i) ∙ omega arith in
        let y : length (drop 55 (line_at t i)) ≡ 71 = length-drop 55 (line_at t i) ∙ omega arith in
        ext_get_or 0 (drop 55 (line_at s i)) (drop 55 (line_at t i)) (x ∙ sym y)
        (λ j l.
        let m : j < 71 = rw x at l in
        let o : 55 < (i * LINE + (55 + j)) % LINE + 1 = omega arith in
        rw (get_or-drop 55 (line_at s i) j 0, get_or-drop 55 (line_at t i) j 0)
        (byte-same i (55 + j) h (omega arith) (behind_energies o)))

    energy-same : (i k : ℕ) → i < lines_count s → IsEnergy k → read_at s i k ≡ read_at t i k
    energy-same i k h a =
        read_alike (read_at s i k) (read_at t i k) (good-energy s g i k h a) (good-energy t f i k (there i h) a)
        (same.blanks i k h a).0 (same.blanks i k h a).1 (same.decimals i k h a)

    lines_same : (i : ℕ) → i < lines_count s → line_back (line_at s i) ≡ line_back (line_at t i)
    lines_same i h =
        one_line (line_at s i) (line_at t i) (fine-line s g i h) (fine-line t f i (there i h))
        (record {
          outside = record { front = front_same i h; behind = behind-same i h };
          least = energy-same i 42 h (a_least refl);
          greatest = energy-same i 49 h (a_greatest refl);
        })

    many : (u : List ℕ) → length (map line_back (lines_in u)) ≡ lines_count u
    many u = length-map (lines_in u) line_back ∙ length-blocks LINE (lines_count u) u

    row_at : (u : List ℕ) (i : ℕ) → i < lines_count u → get_or (map line_back (lines_in u)) i [] ≡ line_back (line_at u i)
    row_at u i h =
        map_at (lines_in u) i (rw (length-blocks LINE (lines_count u) u) h)
        ∙ ap line_back (block-at LINE (lines_count u) u i h)

    rows_same : map line_back (lines_in s) ≡ map line_back (lines_in t)
    rows_same =
        ext_get_or [] (map line_back (lines_in s)) (map line_back (lines_in t)) (many s ∙ sym count ∙ sym (many t))
        (λ i l.
        let h : i < lines_count s = rw (many s) at l in
        row_at s i h ∙ lines_same i h ∙ sym (row_at t i (there i h)))

    one-of-files : lines_back s ≡ lines_back t
    unfolding lines_back
    one-of-files = rw rows_same

pub one-back : OneBack
one-back s t g f = (
  λ e. files-of-one s t g f (sym (back-length s g) ∙ ap length e ∙ back-length t f) e,
  λ same. one-of-files s t g f same.long same,
)
