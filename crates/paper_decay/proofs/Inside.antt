-- The characters of a field: no blank, no comma, no closing parenthesis.
-- Assumes nothing.
use mathlib.Core.Path.{◌≡◌, refl, subst}
use mathlib.Core.Bool.{Bool, true, false, cond}
use mathlib.Core.List.{List, [], ◌∷◌}
use Prim.Native.Nat.{ℕ, suc, ◌<◌, ◌≤◌}
use native.Mathlib.Omega.{arith}
use borrow.Author.Tests.{eqb-true}
use lib.Dec.{eqb}
use lib.ListN.{length, get_or}
use Rattle.laws.specs.Walk.{All}
use Rattle.paper_number.specs.declared.types.Decimal.{Decimal}
use Rattle.paper_number.specs.declared.types.Reading.TheVariants.{Number, Refused}
use Rattle.paper_number.specs.Grammar.{Letter, blank, digit, point, sign, mark, sign_byte}
use Rattle.paper_number.specs.Reading.{Lead, scan_of, finish, read_field}
use Rattle.paper_number.proofs.Letters.{letters}
use Rattle.paper_record.specs.Text.{is_capital, is_digit}
use Rattle.paper_record.proofs.Within.{within-bounds}
use Rattle.paper_decay.specs.Characters.{is_type}
use Rattle.paper_decay.specs.Numerals.{Filled, Numeral}
use Rattle.paper_decay.specs.Code.{Sort, half_life, types, energies, abundance, Capital, OneType, split, Slashed, Fits}
use Rattle.paper_decay.proofs.Cuts.{all_append, all_map}

abbrev pub Inside : ℕ → Type 0
Inside b = (b ≡ 32 → ⊥) × ((b ≡ 41 → ⊥) × (b ≡ 44 → ⊥))

inside-from : (b : ℕ) → 45 ≤ b → Inside b
inside-from b h = (λ e. omega arith, (λ e. omega arith, λ e. omega arith))

inside-43 : (b : ℕ) → b ≡ 43 → Inside b
inside-43 b h = (λ e. omega arith, (λ e. omega arith, λ e. omega arith))

pub capital-inside : (b : ℕ) → Capital b → Inside b
capital-inside b h = let (l, u) = within-bounds 65 90 b h in inside-from b (omega arith)

-- ---- types

type-by : (b : ℕ) (p q r : Bool) → is_capital b ≡ p → is_digit b ≡ q → eqb b 43 ≡ r
    → cond p true (cond q true (cond r true (eqb b 45))) ≡ true → Inside b
type-by b true q r e f g h = capital-inside b e
type-by b false true r e f g h = let (l, u) = within-bounds 48 57 b f in inside-from b (omega arith)
type-by b false false true e f g h = inside-43 b (eqb-true b 43 g)
type-by b false false false e f g h = let z : b ≡ 45 = eqb-true b 45 h in inside-from b (omega arith)

pub type-inside : (b : ℕ) → is_type b ≡ true → Inside b
unfolding is_type
type-inside b h = type-by b (is_capital b) (is_digit b) (eqb b 43) refl refl refl h

-- ---- numbers

sign-inside : (g : Bool) (b : ℕ) → b ≡ sign_byte g → Inside b
sign-inside true b e = inside-from b (omega arith)
sign-inside false b e = inside-43 b e

letter-inside : (b : ℕ) → Filled b → Letter b → Inside b
letter-inside b h (blank e) = absurd (h e)
letter-inside b h (digit d l e) = inside-from b (omega arith)
letter-inside b h (point e) = inside-from b (omega arith)
letter-inside b h (sign g e) = sign-inside g b e
letter-inside b h (mark e) = inside-from b (omega arith)

-- a number's characters are those of numbers
pub all-at : (P : ℕ → Type 0) (l : List ℕ) → ((i : ℕ) → i < length l → P (get_or l i 0)) → All P l
all-at P [] h = tt
all-at P (b ∷ l) h = (h 0 (omega arith), all-at P l (λ i k. h (suc i) (omega arith)))

not-refused : (l : List ℕ) (v : Decimal) → read_field l ≡ Number v → finish (scan_of Lead l) ≡ Refused 15 → ⊥
unfolding read_field
not-refused l v e f = let z : ◌≡◌ {A = ℕ} 0 1 = cc in absurd (omega arith)

pub numeral-letters : (l : List ℕ) → Numeral l → All Letter l
numeral-letters l n = all-at Letter l (letters l Lead (not-refused l n.value n.reads))

both : (l : List ℕ) → All Filled l → All Letter l → All Inside l
both [] h k = tt
both (b ∷ l) h k = (letter-inside b h.0 k.0, both l h.1 k.1)

pub numeral-inside : (l : List ℕ) → Numeral l → All Inside l
numeral-inside l n = both l n.bare (numeral-letters l n)

-- ---- words with slashes between them

split-inside : (ws : List (List ℕ)) → All (All Inside) ws → All Inside (split 47 ws)
split-inside [] h = tt
split-inside (w ∷ []) h = h.0
split-inside (w ∷ x ∷ ws) h =
    all_append Inside w (47 ∷ split 47 (x ∷ ws)) h.0 (inside-from 47 (omega arith), split-inside (x ∷ ws) h.1)

slashed-inside : (W : List ℕ → Type 0) (l : List ℕ) → ((w : List ℕ) → W w → All Inside w) → Slashed W l → All Inside l
slashed-inside W l f s = subst (All Inside) s.same (split-inside s.words (all_map W (All Inside) s.words f s.each))

one-type-inside : (w : List ℕ) → OneType w → All Inside w
one-type-inside w h = all_map (λ b. is_type b ≡ true) Inside w type-inside h.0

-- ---- each place

pub fits-inside : (s : Sort) (l : List ℕ) → Fits s l → All Inside l
fits-inside half_life l h =
    subst (All Inside) h.same
    (all_append Inside h.number h.unit (numeral-inside h.number h.numeral)
    (all_map Capital Inside h.unit capital-inside h.capitals.capitals))
fits-inside types l h = slashed-inside OneType l one-type-inside h
fits-inside energies l h = slashed-inside Numeral l numeral-inside h
fits-inside abundance l h = numeral-inside l h
