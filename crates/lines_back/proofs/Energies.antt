-- An energy of a good line comes back from the eight numbers that are stored of it, whatever stood there before.
-- Assumes nothing.
use Prim.Native.Nat.{ℕ, ◌≤◌}
use mathlib.Core.Path.{◌≡◌, refl, sym, ap, ◌∙◌}
use mathlib.Core.Bool.{true}
use mathlib.Core.List.{List}
use native.Mathlib.Omega.{arith}
use lib.ListN.{length}
use Rattle.paper_number.specs.declared.types.Decimal.{Decimal}
use Rattle.paper_number.specs.declared.types.Reading.{Reading}
use Rattle.paper_number.specs.declared.types.Reading.TheVariants.{Blank, Number}
use Rattle.paper_number.specs.Value.{blank, number}
use Rattle.paper_number.specs.Reading.{read_field}
use Rattle.paper_number.specs.Digits.{digit_count, field_read}
use Rattle.paper_number.proofs.Laws.{says_exactly, read-bounds}
use Rattle.paper_number.proofs.DigitLaws.{digits-unsaid}
use Rattle.paper_number.proofs.Sums.{lt-le}
use Rattle.paper_record.specs.Plain.{NumberOrBlank, a_number, a_blank}
use Rattle.exports_values.specs.Values.{value_numbers, reading_stored}
use Rattle.exports_values.proofs.Numbers.{numbers-back}
use Rattle.lines_back.specs.Host.{energy_in}

unlike : {v : Decimal} → Blank ≡ Number v → ⊥
unlike z = let y : ◌≡◌ {A = ℕ} 0 1 = cc in absurd (omega arith)

pub energy-back : (before l : List ℕ) → length l ≤ 7 → NumberOrBlank true l
    → energy_in (reading_stored before (field_read l)) ≡ field_read l
unfolding reading_stored field_read value_numbers
energy-back before l few (a_number (v, r)) =
    let e : read_field l ≡ Number v = (says_exactly l (Number v)).1 (number r) in
    let b = read-bounds 11 l v (omega arith) (omega arith) e in
    let back = numbers-back v (digit_count l) b.least (lt-le v.power 99999999 b.most) in
    rw e (ap (λ (r : Reading). record { reading = r; digits = digit_count l }) back)
energy-back before l few (a_blank o b) =
    let e : read_field l ≡ Blank = (says_exactly l Blank).1 (blank b) in
    let none : digit_count l ≡ 0 = digits-unsaid l (λ v q. unlike (sym e ∙ q)) in
    rw (e, none) refl
