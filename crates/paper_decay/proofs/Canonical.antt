-- The numbers of a run are canonical, and its blanks those of the code.
-- Assumes nothing.
use mathlib.Core.Path.{◌≡◌, refl, sym, ap, ◌∙◌, subst}
use mathlib.Core.List.{List, [], ◌∷◌, ◌++◌, map}
use mathlib.Core.Logic.{inl, inr}
use Prim.Native.Nat.{ℕ, ◌-◌, ◌≤◌}
use native.Mathlib.Omega.{arith}
use lib.ListN.{length}
use Rattle.laws.specs.Walk.{All}
use Rattle.paper_number.specs.declared.types.Decimal.{Decimal}
use Rattle.paper_number.specs.declared.types.Reading.TheVariants.{Number}
use Rattle.paper_number.specs.Grammar.{blanks}
use Rattle.paper_number.specs.Reading.{read_field, finish}
use Rattle.paper_canonical.specs.Canonical.{Best}
use Rattle.paper_canonical.specs.Closed.{canonical_text, canonical_field}
use Rattle.paper_canonical.proofs.Laws.{canonical-best, text-reads, number-normal, number_fits}
use Rattle.paper_decay.specs.Numerals.{Numeral}
use Rattle.paper_decay.specs.Code.{Sort, half_life, types, energies, abundance, after, Place, Fits, EmptyOr, Fitting, Code, Good}
use Rattle.paper_decay.specs.Fields.{number_of, words_of, canonical_number, canonical_said, canonical_places, canonical_code}
use Rattle.paper_decay.specs.Claims.{BestText, BestIn, AllBest, RunCanonical, RunKept}
use Rattle.paper_decay.proofs.Words.{half-once, energies-once}
use Rattle.paper_decay.proofs.Run.{canonical-as, canonical-numeral, all-canonical, energies-as, half-as, empty-canonical}

-- ---- a number

text-best : (v : Decimal) → Best 11 v (canonical_field 11 v) → Best 11 v (blanks (11 - length (canonical_text v)) ++ canonical_text v)
unfolding canonical_field
text-best v b = b

canonical-text : (l : List ℕ) (n : Numeral l) → BestText (canonical_text n.value)
canonical-text l n u e =
    let v = n.value in
    let h = number-normal l v n.reads in
    let k = number_fits l v n.reads in
    let q : Number v ≡ Number u = sym (text-reads v h) ∙ e in
    let same : v ≡ u = cc in
    let b = text-best v (canonical-best 11 v h (omega (arith, k, n.few))) in
    subst (λ (w : Decimal). Best 11 w (blanks (11 - length (canonical_text v)) ++ canonical_text v)) same b

number-best : (l : List ℕ) → Numeral l → BestText (canonical_number l)
number-best l n = subst BestText (sym (canonical-as l n)) (canonical-text l n)

-- no characters are no number
none-best : BestText []
unfolding read_field finish
none-best v e = let z : ◌≡◌ {A = ℕ} 0 1 = cc in absurd (omega arith)

numbers-best : (ws : List (List ℕ)) → All Numeral ws → All BestText (map canonical_number ws)
numbers-best [] h = tt
numbers-best (w ∷ ws) h = (number-best w h.0, numbers-best ws h.1)

-- ---- a place

fits-best : (s : Sort) (l : List ℕ) → Fits s l → BestIn s (canonical_said s l)
fits-best half_life l h =
    let n = canonical_number h.number in
    let (p, q) = half-once n h.unit (canonical-numeral h.number h.numeral) h.capitals in
    let e : number_of (canonical_said half_life l) ≡ n = ap number_of (half-as l h) ∙ p in
    subst BestText (sym e) (number-best h.number h.numeral)
fits-best types l h = tt
fits-best energies l h =
    let ws = map canonical_number h.words in
    let e : words_of (canonical_said energies l) ≡ ws =
    ap words_of (energies-as l h) ∙ energies-once ws (all-canonical h.words h.each) in
    subst (All BestText) (sym e) (numbers-best h.words h.each)
fits-best abundance l h = number-best l h

empty-best : (s : Sort) → BestIn s []
empty-best half_life = none-best
empty-best types = tt
empty-best energies = tt
empty-best abundance = none-best

said-best : (s : Sort) (l : List ℕ) → EmptyOr (Fits s) l → BestIn s (canonical_said s l)
said-best s l (inl e) = subst (BestIn s) (sym (ap (canonical_said s) e ∙ empty-canonical s)) (empty-best s)
said-best s l (inr f) = fits-best s l f

-- ---- the places

all-best : (s : Sort) (ps : List Place) → Fitting s ps → AllBest s (canonical_places s ps)
all-best s [] h = tt
all-best s (p ∷ ps) h = (said-best s p.said h.0, all-best (after s) ps h.1)

pub run-canonical : RunCanonical
unfolding canonical_code
run-canonical c g = all-best half_life c.places g.places.fitting

leads-kept : (s : Sort) (ps : List Place) → map (λ (p : Place). p.lead) (canonical_places s ps) ≡ map (λ (p : Place). p.lead) ps
leads-kept s [] = refl
leads-kept s (p ∷ ps) = ap (λ (ks : List ℕ). p.lead ∷ ks) (leads-kept (after s) ps)

pub run-kept : RunKept
unfolding canonical_code
run-kept c = ap (λ (ks : List ℕ). c.lead ∷ ks) (leads-kept half_life c.places)
