-- A good line says what is computed of it, and no line says two things.
-- Assumes nothing.
use Prim.Native.Nat.{ℕ, zero, suc, ◌<◌, ◌≤◌}
use mathlib.Core.Path.{◌≡◌, refl, sym, ap, subst, ◌∙◌}
use mathlib.Core.Bool.{Bool, true, false, cond}
use mathlib.Core.List.{List, [], ◌∷◌}
use native.Mathlib.Omega.{arith}
use lib.ListN.{length, get_or}
use Rattle.laws.proofs.Booleans.{differ}
use Rattle.paper_number.specs.declared.types.FieldRead.{FieldRead}
use Rattle.paper_number.specs.declared.types.Reading.{Reading}
use Rattle.paper_number.specs.declared.types.Reading.TheVariants as R
use Rattle.paper_number.specs.Grammar.{Field, Spells}
use Rattle.paper_number.specs.Value.{Says, blank, number, malformed, meaning, digits_of, power_of}
use Rattle.paper_number.specs.Grammar.{minus}
use Rattle.paper_number.specs.Reading.{read_field}
use Rattle.paper_number.specs.Digits.{digit_count, field_read}
use Rattle.paper_number.proofs.Laws.{value_found, reads-exactly, says_exactly, says-once}
use Rattle.paper_number.proofs.DigitLaws as D
use Rattle.paper_record.specs.Text.{text}
use Rattle.paper_record.specs.System.{number_of, number_in}
use Rattle.paper_record.specs.Plain.{DigitsSay, CountSays}
use Rattle.paper_record.proofs.PlainColumns.{all_there, taken-exactly}
use Rattle.paper_record.proofs.PlainDigits.{digits-exactly, count-exactly}
use Rattle.paper_cinda.specs.declared.types.Mass.{Mass}
use Rattle.paper_cinda.specs.declared.types.Mass.TheVariants.{Number, Many}
use Rattle.paper_cinda.specs.Rules.{is_many}
use Rattle.paper_cinda.specs.Apart.{integer_at, mass_of, line_of}
use Rattle.cinda_laws.specs.Plain.{in_columns, IntegerAt, ManyHeld, NinesHeld, ZedHeld, where_many, elsewhere}
use Rattle.cinda_laws.specs.Plain.{MassHeld, all_many, an_integer}
use Rattle.cinda_laws.specs.Apart.{ZedSays, of_many, of_one, MassSays, many, one, WrittenSays, spelt, unspelt}
use Rattle.cinda_laws.specs.Apart.{EnergySays, LineSaid, OneLine}
use Rattle.cinda_laws.proofs.Exactly.{many-exactly, nines-same}

-- ---- integers and digits

-- columns say one integer
one-count : (w : ℕ) (f : List ℕ) (m n : ℕ) → CountSays w f m → CountSays w f n → m ≡ n
one-count w f m n x y = ap number_of (sym ((count-exactly w f m).1 x) ∙ (count-exactly w f n).1 y)

integer-is : (l : List ℕ) (k w m : ℕ) → CountSays w (in_columns l k w) m → integer_at l k w ≡ m
integer-is l k w m x = ap number_of ((count-exactly w (in_columns l k w) m).1 x)

integer-says : (l : List ℕ) (k w : ℕ) → IntegerAt l k w → CountSays w (in_columns l k w) (integer_at l k w)
integer-says l k w (m, x) = subst (λ (y : ℕ). CountSays w (in_columns l k w) y) (sym (integer-is l k w m x)) x

digits-say : (f : List ℕ) (i n m : ℕ) → DigitsSay f i n m → DigitsSay f i n (number_in f i n)
digits-say f i n m x = subst (λ (y : ℕ). DigitsSay f i n y) (sym ((digits-exactly f i n m).1 x).1) x

one_number : (f : List ℕ) (i n m k : ℕ) → DigitsSay f i n m → DigitsSay f i n k → m ≡ k
one_number f i n m k x y = sym ((digits-exactly f i n m).1 x).1 ∙ ((digits-exactly f i n k).1 y).1

-- ---- Z

nines-count : (l : List ℕ) → NinesHeld l → CountSays 3 (in_columns l 2 3) 999
nines-count l h =
    let same = nines-same l h in
    let wide : 3 ≤ length (in_columns l 2 3) =
    all_there 3 (in_columns l 2 3) (λ i k. subst (λ (x : ℕ). 1 ≤ x) (sym (same i k)) (nine i k)) in
    record {
      lead = 0;
      digits = 9 ∷ 9 ∷ 9 ∷ [];
      each = (omega arith, (omega arith, (omega arith, tt)));
      some = omega arith;
      wide = refl;
      same = (taken-exactly 3 (in_columns l 2 3) (text "999") wide (omega arith)).0 same;
      number = refl;
    }
  where
    nine : (i : ℕ) → i < 3 → 1 ≤ get_or (text "999") i 0
    nine zero k = omega arith
    nine (suc zero) k = omega arith
    nine (suc (suc zero)) k = omega arith
    nine (suc (suc (suc i))) k = absurd (omega arith)

zed-says : (l : List ℕ) → ZedHeld l → ZedSays l (integer_at l 2 3)
zed-says l (where_many m n) =
    subst (λ (x : ℕ). ZedSays l x) (sym (integer-is l 2 3 999 (nines-count l n))) (of_many m)
zed-says l (elsewhere h i) = of_one (integer_at l 2 3) h (integer-says l 2 3 i)

one-zed : (l : List ℕ) {x y : ℕ} → ZedSays l x → ZedSays l y → x ≡ y
one-zed l (of_many m) (of_many n) = refl
one-zed l (of_many m) (of_one y h d) = absurd (h m)
one-zed l (of_one x g c) (of_many n) = absurd (g n)
one-zed l (of_one x g c) (of_one y h d) = one-count 3 (in_columns l 2 3) x y c d

-- ---- A

mass-says : (l : List ℕ) → MassHeld l → MassSays l (mass_of l)
mass-says l g = by-test (is_many l) refl
  where
    integer : (ManyHeld l → ⊥) → MassHeld l → IntegerAt l 5 3
    integer h (all_many m) = absurd (h m)
    integer h (an_integer i) = i

    by-test : (b : Bool) → is_many l ≡ b → MassSays l (cond b Many (Number (integer_at l 5 3)))
    by-test true e = many ((many-exactly l).0 e)
    by-test false e =
        let h : ManyHeld l → ⊥ = λ m. differ (sym ((many-exactly l).1 m) ∙ e) in
        one (integer_at l 5 3) h (integer-says l 5 3 (integer h g))

one-mass : (l : List ℕ) {x y : Mass} → MassSays l x → MassSays l y → x ≡ y
one-mass l (many m) (many n) = refl
one-mass l (many m) (one y h d) = absurd (h m)
one-mass l (one x g c) (many n) = absurd (g n)
one-mass l (one x g c) (one y h d) = ap Number (one-count 3 (in_columns l 5 3) x y c d)

-- ---- energies

module _ (f : List ℕ) where
  -- what is spelt is a number
  spelt-number : (g : Field) → Spells f g → read_field f ≡ R.Number (meaning g)
  spelt-number g s =
      (reads-exactly f (meaning g)).1
      (record { field = g; spells = s; means = value_found (minus g.sign) (digits_of g) (power_of g) })

  none_written : ((g : Field) → Spells f g → ⊥) → WrittenSays f (digit_count f)
  none_written none = subst (λ (x : ℕ). WrittenSays f x) (sym (D.digits-none f none)) (unspelt none)

  written-says : {r : Reading} → Says f r → read_field f ≡ r → WrittenSays f (digit_count f)
  written-says (blank b) e =
      none_written (λ g s. let n = spelt-number g s in let z : ◌≡◌ {A = ℕ} 0 1 = cc in absurd (omega arith))
  written-says (number r) e =
      spelt r.field (digit_count f) r.spells
      ((D.digits-exactly f r.field r.spells (digit_count f)).0 refl)
  written-says (malformed b n) e =
      none_written (λ g s. let n = spelt-number g s in let z : ◌≡◌ {A = ℕ} 0 1 = cc in absurd (omega arith))

  energy-says : EnergySays f (field_read f)
  unfolding field_read
  energy-says =
      let s = (says_exactly f (read_field f)).0 refl in
      record { value = s; written_digits = written-says s refl }

  written_is : {n : ℕ} → WrittenSays f n → digit_count f ≡ n
  written_is (spelt g n s d) = (D.digits-exactly f g s n).1 d
  written_is (unspelt none) = D.digits-none f none

  one-energy : (x y : FieldRead) → EnergySays f x → EnergySays f y → x ≡ y
  one-energy x y a b =
      let v = says-once f x.reading y.reading a.value b.value in
      let d = sym (written_is a.written_digits) ∙ written_is b.written_digits in
      λ i. record { reading = v i; digits = d i }

-- ---- the line

pub line-said : LineSaid
unfolding line_of
line-said l g =
    record {
      operation_is = refl;
      z_is = zed-says l g.zed;
      mass_is = mass-says l g.mass;
      isomer_is = refl;
      area_is = refl;
      block_is = integer-says l 35 3 g.block.number;
      sequence_is = integer-says l 38 2 g.sequence;
      work_is = refl;
      reader_is = refl;
      least_is = energy-says (in_columns l 42 7);
      greatest_is = energy-says (in_columns l 49 7);
      hierarchy_is = refl;
      kind_is = refl;
      year_is = digits-say l 79 4 g.date.year g.date.of_year;
      month_is = digits-say l 83 2 g.date.month g.date.of_month;
    }

pub one_line : OneLine
one_line l x y a b =
    let operation = a.operation_is ∙ sym b.operation_is in
    let z = one-zed l a.z_is b.z_is in
    let mass = one-mass l a.mass_is b.mass_is in
    let isomer = a.isomer_is ∙ sym b.isomer_is in
    let area = a.area_is ∙ sym b.area_is in
    let block = one-count 3 (in_columns l 35 3) x.block y.block a.block_is b.block_is in
    let sequence = one-count 2 (in_columns l 38 2) x.sequence y.sequence a.sequence_is b.sequence_is in
    let work = a.work_is ∙ sym b.work_is in
    let reader = a.reader_is ∙ sym b.reader_is in
    let least = one-energy (in_columns l 42 7) x.least y.least a.least_is b.least_is in
    let greatest = one-energy (in_columns l 49 7) x.greatest y.greatest a.greatest_is b.greatest_is in
    let hierarchy = a.hierarchy_is ∙ sym b.hierarchy_is in
    let kind = a.kind_is ∙ sym b.kind_is in
    let year = one_number l 79 4 x.year y.year a.year_is b.year_is in
    let month = one_number l 83 2 x.month y.month a.month_is b.month_is in
    λ i. record {
      operation = operation i;
      z = z i;
      mass = mass i;
      isomer = isomer i;
      area = area i;
      block = block i;
      sequence = sequence i;
      work = work i;
      reader = reader i;
      least = least i;
      greatest = greatest i;
      hierarchy = hierarchy i;
      kind = kind i;
      year = year i;
      month = month i;
    }
