-- The tables follow the reading: the number of the place behind each column.
-- Assumes nothing.
use mathlib.Core.Path.{◌≡◌, refl, ◌∙◌}
use mathlib.Core.List.{List, [], ◌∷◌}
use Prim.Native.Nat.{ℕ, zero, suc, ◌+◌, ◌*◌, ◌<◌}
use native.Mathlib.Nat.{zero-add, le_of_suc-le-suc, not-suc-le-zero}
use native.Mathlib.Numerals.{add-one}
use native.Mathlib.Omega.{arith}
use lib.ListN.{length, get_or, take}
use Rattle.laws.specs.Members.{list_of}
use Rattle.laws.proofs.Members.{list_at}
use Rattle.paper_number.specs.Reading as R
use Rattle.paper_number.specs.Reading.{Kind, Column, column_of, Scan, Lead, Signed, Whole, Point, Fraction, Gap, Mark}
use Rattle.paper_number.specs.Reading.{MarkGap, PowerSign, Power, Bad, scan_step, scan_of, finish}
use Rattle.paper_number.specs.Form.{form_of, kind_number, place_number, kind_table, next_table, form_at_end}
use Rattle.paper_number.proofs.Bytes.{on-each}

-- ---- the kinds

kind-small : (k : Kind) → kind_number k < 6
kind-small R.blank = omega arith
kind-small R.digit = omega arith
kind-small R.point = omega arith
kind-small R.sign = omega arith
kind-small R.mark = omega arith
kind-small R.other = omega arith

kind_at : (b : ℕ) → b < 256 → get_or kind_table b 0 ≡ kind_number (column_of b).kind
unfolding kind_table
kind_at b h = list_at _ 0 256 b 0 h ∙ rw (zero-add b) refl

pub kind-below : (b : ℕ) → b < 256 → get_or kind_table b 0 < 6
kind-below b h = rw (kind_at b h) (kind-small (column_of b).kind)

-- ---- the places

pub place-small : (t : Scan) → place_number t < 11
place-small Lead = omega arith
place-small (Signed n) = omega arith
place-small (Whole n c) = omega arith
place-small (Point n) = omega arith
place-small (Fraction m) = omega arith
place-small (Gap m) = omega arith
place-small (Mark m) = omega arith
place-small (MarkGap m) = omega arith
place-small (PowerSign m s) = omega arith
place-small (Power m s e) = omega arith
place-small Bad = omega arith

-- from place n the kind k leads to t
abbrev LeadsTo : ℕ → Kind → Scan → Type 0
LeadsTo n k t = get_or next_table (n * 8 + kind_number k) 0 ≡ place_number t

leads-bad : (k : Kind) → LeadsTo 10 k Bad
unfolding next_table list_of
leads-bad R.blank = refl
leads-bad R.digit = refl
leads-bad R.point = refl
leads-bad R.sign = refl
leads-bad R.mark = refl
leads-bad R.other = refl

leads : (t : Scan) (k : Column) → LeadsTo (place_number t) k.kind (scan_step t k)
unfolding next_table list_of
leads Lead k = on-each (LeadsTo 0) k.kind refl refl refl refl refl refl
leads (Signed n) k = on-each (LeadsTo 1) k.kind refl refl refl refl refl refl
leads (Whole n c) k = on-each (LeadsTo 2) k.kind refl refl refl refl refl refl
leads (Point n) k = on-each (LeadsTo 3) k.kind refl refl refl refl refl refl
leads (Fraction m) k = on-each (LeadsTo 4) k.kind refl refl refl refl refl refl
leads (Gap m) k = on-each (LeadsTo 5) k.kind refl refl refl refl refl refl
leads (Mark m) k = on-each (LeadsTo 6) k.kind refl refl refl refl refl refl
leads (MarkGap m) k = on-each (LeadsTo 7) k.kind refl refl refl refl refl refl
leads (PowerSign m s) k = on-each (LeadsTo 8) k.kind refl refl refl refl refl refl
leads (Power m s e) k = on-each (LeadsTo 9) k.kind refl refl refl refl refl refl
leads Bad k = leads-bad k.kind

pub next-right : (t : Scan) (b : ℕ) → b < 256
    → get_or next_table (place_number t * 8 + get_or kind_table b 0) 0 ≡ place_number (scan_step t (column_of b))
next-right t b h = rw (kind_at b h) (leads t (column_of b))

-- ---- the columns

scan-suc : (s : List ℕ) (t : Scan) (i : ℕ) → i < length s
    → scan_of t (take (suc i) s) ≡ scan_step (scan_of t (take i s)) (column_of (get_or s i 0))
scan-suc [] t i h = absurd (not-suc-le-zero h)
scan-suc (b ∷ s) t zero h = refl
scan-suc (b ∷ s) t (suc i) h = scan-suc s (scan_step t (column_of b)) i (le_of_suc-le-suc h)

pub scan-take : (s : List ℕ) (t : Scan) (i : ℕ) → i < length s
    → scan_of t (take (i + 1) s) ≡ scan_step (scan_of t (take i s)) (column_of (get_or s i 0))
scan-take s t i h = rw (add-one i) (scan-suc s t i h)

pub ends : (t : Scan) → form_at_end (place_number t) ≡ form_of (finish t)
unfolding finish
ends Lead = refl
ends (Signed n) = refl
ends (Whole n c) = refl
ends (Point n) = refl
ends (Fraction m) = refl
ends (Gap m) = refl
ends (Mark m) = refl
ends (MarkGap m) = refl
ends (PowerSign m s) = refl
ends (Power m s e) = refl
ends Bad = refl
