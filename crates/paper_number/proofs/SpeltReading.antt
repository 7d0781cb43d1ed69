-- What is spelt where the reading ends says what the reading says, and has as many digits.
-- Assumes nothing.
use mathlib.Core.Path.{◌≡◌, refl}
use mathlib.Core.List.{List}
use Prim.Native.Nat.{ℕ}
use Rattle.paper_number.specs.Reading.{Scan, Lead, Signed, Whole, Point, Fraction, Gap, Mark, MarkGap, PowerSign, Power, Bad}
use Rattle.paper_number.specs.Reading.{scan_of, finish, read_field}
use Rattle.paper_number.specs.Digits.{digit_count_at, digit_count}
use Rattle.paper_number.specs.Walk.{spelt_at, spelt}
use Rattle.paper_number.specs.Spelt.{reading_of, digits_spelt}

says_at : (t : Scan) → reading_of (spelt_at t) ≡ finish t
unfolding spelt_at finish
says_at Lead = refl
says_at (Signed n) = refl
says_at (Whole n c) = refl
says_at (Point n) = refl
says_at (Fraction m) = refl
says_at (Gap m) = refl
says_at (Mark m) = refl
says_at (MarkGap m) = refl
says_at (PowerSign m s) = refl
says_at (Power m s e) = refl
says_at Bad = refl

digits-at : (t : Scan) → digits_spelt (spelt_at t) ≡ digit_count_at t
unfolding spelt_at
digits-at Lead = refl
digits-at (Signed n) = refl
digits-at (Whole n c) = refl
digits-at (Point n) = refl
digits-at (Fraction m) = refl
digits-at (Gap m) = refl
digits-at (Mark m) = refl
digits-at (MarkGap m) = refl
digits-at (PowerSign m s) = refl
digits-at (Power m s e) = refl
digits-at Bad = refl

pub spelt-says : (l : List ℕ) → reading_of (spelt l) ≡ read_field l
unfolding spelt read_field
spelt-says l = says_at (scan_of Lead l)

pub spelt-digits : (l : List ℕ) → digits_spelt (spelt l) ≡ digit_count l
unfolding spelt digit_count
spelt-digits l = digits-at (scan_of Lead l)
