-- A list that holds a byte of no field's is malformed: from such a byte the reading goes to `Bad`, and stays there.
-- Assumes nothing.
use mathlib.Core.Path.{◌≡◌, refl, ap, ◌∙◌}
use mathlib.Core.List.{List, [], ◌∷◌}
use Prim.Native.Nat.{ℕ, zero, suc, ◌<◌}
use native.Mathlib.Nat.{le_of_suc-le-suc, not-suc-le-zero}
use mathlib.Core.Bool.{false}
use lib.ListN.{length, get_or}
use Rattle.paper_number.specs.declared.types.Reading.TheVariants.{Refused}
use Rattle.paper_number.specs.Grammar.{Letter, blank, digit, point, sign, mark}
use Rattle.paper_number.specs.Reading.{other, column, column_of, Scan, Lead, Signed, Whole, Point, Fraction, Gap, Mark}
use Rattle.paper_number.specs.Reading.{MarkGap, PowerSign, Power, Bad, scan_step, scan_of, finish}
use Rattle.paper_number.proofs.Bytes.{Seen, a_blank, a_digit, a_point, a-sign, a-mark, no_such, seen}

pub scan-bad : (l : List ℕ) → scan_of Bad l ≡ Bad
scan-bad [] = refl
scan-bad (b ∷ l) = scan-bad l

pub bad-says : finish Bad ≡ Refused 15
unfolding finish
bad-says = refl

other-bad : (s : Scan) → scan_step s (column other 0 false) ≡ Bad
other-bad Lead = refl
other-bad (Signed n) = refl
other-bad (Whole n c) = refl
other-bad (Point n) = refl
other-bad (Fraction m) = refl
other-bad (Gap m) = refl
other-bad (Mark m) = refl
other-bad (MarkGap m) = refl
other-bad (PowerSign m s) = refl
other-bad (Power m s e) = refl
other-bad Bad = refl

pub letters : (l : List ℕ) (s : Scan) → (finish (scan_of s l) ≡ Refused 15 → ⊥)
    → (i : ℕ) → i < length l → Letter (get_or l i 0)
letters [] s h i m = absurd (not-suc-le-zero m)
letters (b ∷ l) s h zero m = by-seen (seen b)
  where
    by-seen : Seen b → Letter b
    by-seen (a_blank e) = blank e
    by-seen (a_digit d n e k) = digit d n e
    by-seen (a_point e) = point e
    by-seen (a-sign g e k) = sign g e
    by-seen (a-mark e) = mark e
    by-seen (no_such k) =
        absurd (h (ap (λ (x : Scan). finish (scan_of x l)) (rw k (other-bad s)) ∙ ap finish (scan-bad l) ∙ bad-says))
letters (b ∷ l) s h (suc i) m = letters l (scan_step s (column_of b)) h i (le_of_suc-le-suc m)
