-- A run is made from the fields of its code and the blanks alone, so that two codes have one run exactly where these are
-- the same.
-- Assumes nothing.
use mathlib.Core.Path.{◌≡◌, refl, sym, ap, ◌∙◌, subst}
use mathlib.Core.List.{List, [], ◌∷◌, ◌++◌, map}
use mathlib.Core.Logic.{inl, inr}
use Prim.Native.Nat.{ℕ}
use Rattle.laws.specs.Walk.{All}
use Rattle.paper_number.specs.declared.types.Reading.{Reading}
use Rattle.paper_number.specs.declared.types.Reading.TheVariants.{Blank, Number, Refused}
use Rattle.paper_number.specs.Reading.{read_field, finish}
use Rattle.paper_canonical.specs.Closed.{canonical_text}
use Rattle.paper_decay.specs.Numerals.{Numeral}
use Rattle.paper_decay.specs.Code.{half_life, types, energies, abundance, Place, split, Fits, EmptyOr, Fitting, Code, write, Good}
use Rattle.paper_decay.specs.Fields.{number_of, unit_of, words_of, Group, groups_of, Fields, fields_from, fields_of}
use Rattle.paper_decay.specs.Fields.{canonical_number, canonical_said, canonical_places, canonical_code, run_of}
use Rattle.paper_decay.specs.Claims.{leads_of, OneRun}
use Rattle.paper_decay.proofs.Words.{half-once, types-once}
use Rattle.paper_decay.proofs.Once.{spelt-once}
use Rattle.paper_decay.proofs.Run.{canonical-as, words-of, empty-canonical, run-good}
use Rattle.paper_decay.proofs.Canonical.{run-kept}

-- ---- the run's code by fields and blanks

-- no number has no characters
abbrev text_by : Reading → List ℕ
text_by Blank = []
text_by (Number v) = canonical_text v
text_by (Refused n) = []

abbrev place : ℕ → List ℕ → Place
place k l = record { lead = k; said = l }

abbrev energies_by : List Reading → List ℕ
energies_by rs = split 47 (map text_by rs)

abbrev places_by : List ℕ → List Group → List Place
places_by [] gs = []
places_by (k ∷ ks) [] = []
places_by (k ∷ []) (g ∷ gs) = place k (split 47 g.types) ∷ []
places_by (k ∷ m ∷ []) (g ∷ gs) = place k (split 47 g.types) ∷ place m (energies_by g.energies) ∷ []
places_by (k ∷ m ∷ n ∷ ks) (g ∷ gs) =
    place k (split 47 g.types) ∷ place m (energies_by g.energies) ∷ place n (text_by g.abundance) ∷ places_by ks gs

abbrev all_by : List ℕ → Fields → List Place
all_by [] f = []
all_by (k ∷ ks) f = place k (text_by f.half ++ f.unit) ∷ places_by ks f.groups

abbrev code_by : Fields → List ℕ → Code
code_by f [] = record { flag = f.flag; lead = 0; nuclide = f.nuclide; places = [] }
code_by f (k ∷ ks) = record { flag = f.flag; lead = k; nuclide = f.nuclide; places = all_by ks f }

-- ---- a number

none-by : text_by (read_field []) ≡ []
unfolding read_field finish
none-by = refl

number_by : (l : List ℕ) → EmptyOr Numeral l → canonical_number l ≡ text_by (read_field l)
number_by l (inl e) =
    ap canonical_number e ∙ empty-canonical abundance ∙ sym none-by ∙ ap (λ (m : List ℕ). text_by (read_field m)) (sym e)
number_by l (inr n) = canonical-as l n ∙ ap text_by (sym n.reads)

numbers-by : (ws : List (List ℕ)) → All Numeral ws → map canonical_number ws ≡ map text_by (map read_field ws)
numbers-by [] h = refl
numbers-by (w ∷ ws) h = λ i. number_by w (inr h.0) i ∷ numbers-by ws h.1 i

-- ---- a place

half-number : (l : List ℕ) → EmptyOr (Fits half_life) l → EmptyOr Numeral (number_of l)
half-number l (inl e) = inl (ap number_of e)
half-number l (inr h) =
    let (p, q) = half-once h.number h.unit h.numeral h.capitals in
    let e : number_of l ≡ h.number = ap number_of (sym h.same) ∙ p in
    inr (subst Numeral (sym e) h.numeral)

half-by : (l : List ℕ) → EmptyOr (Fits half_life) l → canonical_said half_life l ≡ text_by (read_field (number_of l)) ++ unit_of l
half-by l h = ap (λ (m : List ℕ). m ++ unit_of l) (number_by (number_of l) (half-number l h))

types-by : (l : List ℕ) → EmptyOr (Fits types) l → l ≡ split 47 (words_of l)
types-by l (inl e) = e ∙ ap (λ (m : List ℕ). split 47 (words_of m)) (sym e)
types-by l (inr s) =
    sym s.same ∙ ap (split 47) (sym (types-once s.words s.each)) ∙ ap (λ (m : List ℕ). split 47 (words_of m)) s.same

energies-numerals : (l : List ℕ) → EmptyOr (Fits energies) l → All Numeral (words_of l)
energies-numerals l (inl e) = subst (λ (m : List ℕ). All Numeral (words_of m)) (sym e) tt
energies-numerals l (inr s) = subst (All Numeral) (sym (words-of l s)) s.each

energies-by : (l : List ℕ) → EmptyOr (Fits energies) l → canonical_said energies l ≡ energies_by (map read_field (words_of l))
energies-by l h = ap (split 47) (numbers-by (words_of l) (energies-numerals l h))

-- ---- the places

abbrev leads : List Place → List ℕ
leads ps = map (λ (p : Place). p.lead) ps

groups-by : (ps : List Place) → Fitting types ps → canonical_places types ps ≡ places_by (leads ps) (groups_of ps)
groups-by [] h = refl
groups-by (t ∷ []) h = λ i. place t.lead (types-by t.said h.0 i) ∷ []
groups-by (t ∷ e ∷ []) h =
    λ i. place t.lead (types-by t.said h.0 i) ∷ place e.lead (energies-by e.said h.1.0 i) ∷ []
groups-by (t ∷ e ∷ a ∷ ps) h =
    λ i.
    place t.lead (types-by t.said h.0 i)
    ∷ place e.lead (energies-by e.said h.1.0 i)
    ∷ place a.lead (number_by a.said h.1.1.0 i)
    ∷ groups-by ps h.1.1.1 i

code_by_lem : (c : Code) → Good c → canonical_code c ≡ code_by (fields_of c) (leads_of c)
unfolding canonical_code fields_of
code_by_lem c g = by c.places g.places.fitting
  where
    by : (ps : List Place) → Fitting half_life ps
        → ◌≡◌ {A = Code} (record { flag = c.flag; lead = c.lead; nuclide = c.nuclide; places = canonical_places half_life ps })
        (code_by (fields_from c.flag c.nuclide ps) (c.lead ∷ leads ps))
    by [] h = refl
    by (p ∷ ps) h =
        λ i.
        record {
          flag = c.flag;
          lead = c.lead;
          nuclide = c.nuclide;
          places = place p.lead (half-by p.said h.0 i) ∷ groups-by ps h.1 i;
        }

-- ---- the law

one_code : (c d : Code) → Good c → Good d → run_of c ≡ run_of d → canonical_code c ≡ canonical_code d
unfolding run_of
one_code c d g h e =
    spelt-once (write (canonical_code d)) (canonical_code c) (canonical_code d) (record { good = (run-good c g).0; same = e })
    (record { good = (run-good d h).0; same = refl })

pub one-run : OneRun
unfolding run_of
one-run c d g h = (
  λ e.
      let q = one_code c d g h e in
      (sym (run-good c g).1 ∙ ap fields_of q ∙ (run-good d h).1, sym (run-kept c) ∙ ap leads_of q ∙ run-kept d),
  λ e.
      let (f, k) = e in
      ap write (code_by_lem c g ∙ (λ i. code_by (f i) (k i)) ∙ sym (code_by_lem d h)),
)
