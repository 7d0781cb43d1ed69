-- A field of a good code: its run by the place's number is its run by the place's sort.
-- Assumes nothing.
use mathlib.Core.Path.{◌≡◌, refl, sym, ap, ◌∙◌}
use mathlib.Core.List.{List, [], ◌∷◌, ◌++◌, map}
use mathlib.Core.Logic.{inl, inr}
use Prim.Native.Nat.{ℕ, zero, suc, ◌≤◌}
use native.Mathlib.Omega.{arith}
use borrow.Author.Tests.{ne_eqb, le-leb}
use lib.ListN.{length, length-replicate}
use lib.Seq.{take_at, drop_at}
use Rattle.laws.specs.Walk.{All}
use Rattle.paper_number.specs.Grammar.{blanks}
use Rattle.paper_number.specs.Reading.{read_field, finish}
use Rattle.paper_decay.specs.Numerals.{Numeral}
use Rattle.paper_decay.specs.Code.{Sort, half_life, types, energies, abundance, HalfLife, split, Fits, EmptyOr}
use Rattle.paper_decay.specs.Fields.{number_of, unit_of, words_of, cut_at, canonical_number, canonical_said}
use Rattle.paper_decay.proofs.Cuts.{Stops, Blank, no-first}
use Rattle.paper_decay.proofs.Inside.{fits-inside}
use Rattle.paper_decay.proofs.Words.{half-once, words-some}
use Rattle.paper_decay.proofs.Run.{words-of, fits-some}
use Rattle.paper_decay_run.specs.Run.{run_number, run_said, lead_of, run_field}

-- ---- numbers

number-few : (l : List ℕ) → length l ≤ 11 → run_number l ≡ canonical_number l
unfolding run_number
number-few l h = rw (le-leb (length l) 11 h) refl

numbers-few : (ws : List (List ℕ)) → All Numeral ws → map run_number ws ≡ map canonical_number ws
numbers-few [] h = refl
numbers-few (w ∷ ws) h = λ i. number-few w h.0.few i ∷ numbers-few ws h.1 i

-- ---- what a place says

-- as the scan counts the places
abbrev pub place_of : Sort → ℕ
place_of half_life = 1
place_of types = 2
place_of energies = 3
place_of abundance = 4

pub half-few : (l : List ℕ) → HalfLife l → length (number_of l) ≤ 11
half-few l h =
    let e : number_of l ≡ h.number =
    ap number_of (sym h.same) ∙ (half-once h.number h.unit h.numeral h.capitals).0 in
    let n : length (number_of l) ≡ length h.number = ap length e in
    let f = h.numeral.few in
    omega arith

fits-run : (s : Sort) (l : List ℕ) → Fits s l → run_said (place_of s) l ≡ canonical_said s l
unfolding run_said
fits-run half_life l h = ap (λ (m : List ℕ). m ++ unit_of l) (number-few (number_of l) (half-few l h))
fits-run types l h = refl
fits-run energies l h =
    let e : words_of l ≡ cut_at 47 l = words-some l (fits-some energies l h) in
    let w : cut_at 47 l ≡ h.words = sym e ∙ words-of l h in
    ap (λ (ws : List (List ℕ)). split 47 (map run_number ws)) w
    ∙ ap (split 47) (numbers-few h.words h.each)
    ∙ ap (λ (ws : List (List ℕ)). split 47 (map canonical_number ws)) (sym (words-of l h))
fits-run abundance l h = number-few l h.few

empty-run : (s : Sort) → run_said (place_of s) [] ≡ canonical_said s []
unfolding run_said run_number canonical_number read_field finish
empty-run half_life = refl
empty-run types = refl
empty-run energies = refl
empty-run abundance = refl

pub said-run : (s : Sort) (l : List ℕ) → EmptyOr (Fits s) l → run_said (place_of s) l ≡ canonical_said s l
said-run s l (inl e) = ap (run_said (place_of s)) e ∙ empty-run s ∙ ap (canonical_said s) (sym e)
said-run s l (inr h) = fits-run s l h

-- ---- with the blanks at the field's beginning

lead-none : (l : List ℕ) → Stops Blank l → lead_of l ≡ 0
unfolding lead_of
lead-none [] h = refl
lead-none (b ∷ l) h = rw (ne_eqb b 32 h) refl

pub lead-blanks : (n : ℕ) (l : List ℕ) → Stops Blank l → lead_of (blanks n ++ l) ≡ n
unfolding lead_of
lead-blanks zero l h = lead-none l h
lead-blanks (suc n) l h = let e = lead-blanks n l h in omega arith

field_cut : (place n : ℕ) (l : List ℕ) → Stops Blank l → run_field place (blanks n ++ l) ≡ blanks n ++ run_said place l
unfolding run_field
field_cut place n l h =
    let k : length (blanks n) ≡ n = length-replicate n 32 in
    rw (lead-blanks n l h, take_at (blanks n) l n k, drop_at (blanks n) l n k) refl

pub said-stops : (s : Sort) (l : List ℕ) → EmptyOr (Fits s) l → Stops Blank l
said-stops s [] h = tt
said-stops s (b ∷ l) (inl e) = no-first b l (sym e)
said-stops s (b ∷ l) (inr h) = (fits-inside s (b ∷ l) h).0.0

pub field-run : (s : Sort) (n : ℕ) (l : List ℕ) → EmptyOr (Fits s) l
    → run_field (place_of s) (blanks n ++ l) ≡ blanks n ++ canonical_said s l
field-run s n l h =
    field_cut (place_of s) n l (said-stops s l h) ∙ ap (λ (m : List ℕ). blanks n ++ m) (said-run s l h)
