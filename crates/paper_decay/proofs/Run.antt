-- The run of a code is a code with the same fields, and no longer.
-- Assumes nothing.
use mathlib.Core.Path.{◌≡◌, refl, sym, ap, ◌∙◌, subst}
use mathlib.Core.List.{List, [], ◌∷◌, ◌++◌, map}
use mathlib.Core.Logic.{inl, inr}
use Prim.Native.Nat.{ℕ, ◌+◌, ◌≤◌}
use native.Mathlib.Omega.{arith}
use lib.ListN.{length, length-append}
use Rattle.laws.specs.Walk.{All}
use Rattle.paper_number.specs.declared.types.Reading.{Reading}
use Rattle.paper_number.specs.Grammar.{blanks}
use Rattle.paper_number.specs.Reading.{read_field, finish}
use Rattle.paper_canonical.specs.Closed.{canonical_text}
use Rattle.paper_canonical.proofs.Laws.{text-no-blank, text-reads, number-normal, number_fits}
use Rattle.paper_decay.specs.Numerals.{Filled, Numeral}
use Rattle.paper_decay.specs.Code.{Sort, half_life, types, energies, abundance, after, Place, places_text, HalfLife}
use Rattle.paper_decay.specs.Code.{split, Slashed, OneType, Fits, EmptyOr, Fitting, EndsFilled, GroupsFilled, GoodPlaces}
use Rattle.paper_decay.specs.Code.{Code, flag_text, nuclide_text, write, Good}
use Rattle.paper_decay.specs.Fields.{number_of, unit_of, words_of, group, groups_of, fields_from, fields_of}
use Rattle.paper_decay.specs.Fields.{canonical_by, canonical_number, canonical_said, canonical_places, canonical_code, run_of}
use Rattle.paper_decay.specs.Claims.{RunGood, RunShort}
use Rattle.paper_decay.proofs.Inside.{all-at}
use Rattle.paper_decay.proofs.Words.{half-once, energies-once, numeral-some, split-some}

-- ---- a number

pub canonical-as : (l : List ℕ) (n : Numeral l) → canonical_number l ≡ canonical_text n.value
unfolding canonical_number
canonical-as l n = ap (λ (r : Reading). canonical_by r l) n.reads

text-numeral : (l : List ℕ) (n : Numeral l) → Numeral (canonical_text n.value)
text-numeral l n =
    let v = n.value in
    record {
      few = omega (arith, number_fits l v n.reads, n.few);
      bare = all-at Filled (canonical_text v) (text-no-blank v);
      value = v;
      reads = text-reads v (number-normal l v n.reads);
    }

pub canonical-numeral : (l : List ℕ) → Numeral l → Numeral (canonical_number l)
canonical-numeral l n = subst Numeral (sym (canonical-as l n)) (text-numeral l n)

pub canonical-same : (l : List ℕ) → Numeral l → read_field (canonical_number l) ≡ read_field l
canonical-same l n =
    ap read_field (canonical-as l n) ∙ text-reads n.value (number-normal l n.value n.reads) ∙ sym n.reads

pub canonical-short : (l : List ℕ) → Numeral l → length (canonical_number l) ≤ length l
canonical-short l n = let e = canonical-as l n in let k = number_fits l n.value n.reads in rw e k

-- ---- numbers between slashes

pub all-canonical : (ws : List (List ℕ)) → All Numeral ws → All Numeral (map canonical_number ws)
all-canonical [] h = tt
all-canonical (w ∷ ws) h = (canonical-numeral w h.0, all-canonical ws h.1)

some-canonical : (ws : List (List ℕ)) → 1 ≤ length ws → 1 ≤ length (map canonical_number ws)
some-canonical [] h = h
some-canonical (w ∷ ws) h = omega arith

all_same : (ws : List (List ℕ)) → All Numeral ws → map read_field (map canonical_number ws) ≡ map read_field ws
all_same [] h = refl
all_same (w ∷ ws) h = λ i. canonical-same w h.0 i ∷ all_same ws h.1 i

split-short : (ws : List (List ℕ)) → All Numeral ws → length (split 47 (map canonical_number ws)) ≤ length (split 47 ws)
split-short [] h = omega arith
split-short (w ∷ []) h = canonical-short w h.0
split-short (w ∷ x ∷ ws) h =
    let a = canonical-short w h.0 in
    let b = split-short (x ∷ ws) h.1 in
    let p = length-append w (47 ∷ split 47 (x ∷ ws)) in
    let q = length-append (canonical_number w) (47 ∷ split 47 (map canonical_number (x ∷ ws))) in
    omega arith

pub words-of : (l : List ℕ) (s : Slashed Numeral l) → words_of l ≡ s.words
words-of l s = ap words_of (sym s.same) ∙ energies-once s.words s.each

-- what the run has in place of energies
pub energies-as : (l : List ℕ) (s : Slashed Numeral l) → canonical_said energies l ≡ split 47 (map canonical_number s.words)
energies-as l s = ap (λ (ws : List (List ℕ)). split 47 (map canonical_number ws)) (words-of l s)

pub half-as : (l : List ℕ) (h : HalfLife l) → canonical_said half_life l ≡ canonical_number h.number ++ h.unit
half-as l h =
    let (p, q) = half-once h.number h.unit h.numeral h.capitals in
    let e : number_of l ≡ h.number = ap number_of (sym h.same) ∙ p in
    let f : unit_of l ≡ h.unit = ap unit_of (sym h.same) ∙ q in
    λ i. canonical_number (e i) ++ f i

-- ---- a place

pub fits-canonical : (s : Sort) (l : List ℕ) → Fits s l → Fits s (canonical_said s l)
fits-canonical half_life l h =
    record {
      number = canonical_number h.number;
      unit = h.unit;
      numeral = canonical-numeral h.number h.numeral;
      capitals = h.capitals;
      same = sym (half-as l h);
    }
fits-canonical types l h = h
fits-canonical energies l h =
    record {
      words = map canonical_number h.words;
      some = some-canonical h.words h.some;
      each = all-canonical h.words h.each;
      same = sym (energies-as l h);
    }
fits-canonical abundance l h = canonical-numeral l h

-- a filled place has a character
slashed-some : (W : List ℕ → Type 0) (ws : List (List ℕ)) → ((w : List ℕ) → W w → 1 ≤ length w) → 1 ≤ length ws → All W ws
    → 1 ≤ length (split 47 ws)
slashed-some W [] f n h = absurd (omega arith)
slashed-some W (w ∷ ws) f n h = split-some w ws (f w h.0)

pub fits-some : (s : Sort) (l : List ℕ) → Fits s l → 1 ≤ length l
fits-some half_life l h =
    let e = h.same in
    let n = length-append h.number h.unit in
    let k = h.capitals.some in
    rw (← e) (omega arith)
fits-some types l h = subst (λ (m : List ℕ). 1 ≤ length m) h.same (slashed-some OneType h.words (λ w k. k.1) h.some h.each)
fits-some energies l h =
    subst (λ (m : List ℕ). 1 ≤ length m) h.same (slashed-some Numeral h.words numeral-some h.some h.each)
fits-some abundance l h = numeral-some l h

-- an empty place stays empty
pub empty-canonical : (s : Sort) → canonical_said s [] ≡ []
unfolding canonical_number read_field finish
empty-canonical half_life = refl
empty-canonical types = refl
empty-canonical energies = refl
empty-canonical abundance = refl

pub said-canonical : (s : Sort) (l : List ℕ) → EmptyOr (Fits s) l → EmptyOr (Fits s) (canonical_said s l)
said-canonical s l (inl e) = inl (ap (canonical_said s) e ∙ empty-canonical s)
said-canonical s l (inr f) = inr (fits-canonical s l f)

pub said-filled : (s : Sort) (l : List ℕ) → EmptyOr (Fits s) l → canonical_said s l ≡ [] → l ≡ []
said-filled s l (inl e) z = e
said-filled s l (inr f) z =
    let k = fits-some s (canonical_said s l) (fits-canonical s l f) in
    let n : length (canonical_said s l) ≡ 0 = ap length z in
    absurd (omega arith)

fits-short : (s : Sort) (l : List ℕ) → Fits s l → length (canonical_said s l) ≤ length l
fits-short half_life l h =
    let a = canonical-short h.number h.numeral in
    let p = length-append (canonical_number h.number) h.unit in
    let q = length-append h.number h.unit in
    let e : length (canonical_said half_life l) ≡ length (canonical_number h.number ++ h.unit) = ap length (half-as l h) in
    let f : length (h.number ++ h.unit) ≡ length l = ap length h.same in
    omega arith
fits-short types l h = omega arith
fits-short energies l h =
    let a = split-short h.words h.each in
    let e : length (canonical_said energies l) ≡ length (split 47 (map canonical_number h.words)) = ap length (energies-as l h) in
    let f : length (split 47 h.words) ≡ length l = ap length h.same in
    omega arith
fits-short abundance l h = canonical-short l h

said-short : (s : Sort) (l : List ℕ) → EmptyOr (Fits s) l → length (canonical_said s l) ≤ length l
said-short s l (inl e) =
    let n : length (canonical_said s l) ≡ 0 = ap (λ (m : List ℕ). length (canonical_said s m)) e ∙ ap length (empty-canonical s) in
    omega arith
said-short s l (inr f) = fits-short s l f

-- ---- the places

fitting-run : (s : Sort) (ps : List Place) → Fitting s ps → Fitting s (canonical_places s ps)
fitting-run s [] h = tt
fitting-run s (p ∷ ps) h = (said-canonical s p.said h.0, fitting-run (after s) ps h.1)

last-run : (s : Sort) (ps : List Place) → Fitting s ps → EndsFilled ps → EndsFilled (canonical_places s ps)
last-run s [] h k = tt
last-run s (p ∷ []) h k = λ e. k (said-filled s p.said h.0 e)
last-run s (p ∷ q ∷ ps) h k = last-run (after s) (q ∷ ps) h.1 k

groups-run : (ps : List Place) → Fitting types ps → GroupsFilled ps → GroupsFilled (canonical_places types ps)
groups-run [] h k = tt
groups-run (t ∷ []) h k = tt
groups-run (t ∷ e ∷ []) h k = tt
groups-run (t ∷ e ∷ a ∷ ps) h k = (
  λ z. k.0 (
    said-filled types t.said h.0 z.0,
    (said-filled energies e.said h.1.0 z.1.0, said-filled abundance a.said h.1.1.0 z.1.1),
  ),
  groups-run ps h.1.1.1 k.1,
)

places-run : (ps : List Place) → GoodPlaces ps → GoodPlaces (canonical_places half_life ps)
places-run [] g = record { fitting = tt; last = tt; groups = tt }
places-run (p ∷ ps) g =
    record {
      fitting = fitting-run half_life (p ∷ ps) g.fitting;
      last = last-run half_life (p ∷ ps) g.fitting g.last;
      groups = groups-run ps g.fitting.1 g.groups;
    }

-- ---- the fields

energies-same : (l : List ℕ) → EmptyOr (Fits energies) l
    → map read_field (words_of (canonical_said energies l)) ≡ map read_field (words_of l)
energies-same l (inl e) = rw e refl
energies-same l (inr f) =
    let c = all-canonical f.words f.each in
    ap (λ (m : List ℕ). map read_field (words_of m)) (energies-as l f)
    ∙ ap (map read_field) (energies-once (map canonical_number f.words) c)
    ∙ all_same f.words f.each
    ∙ ap (map read_field) (sym (words-of l f))

abundance-same : (l : List ℕ) → EmptyOr (Fits abundance) l → read_field (canonical_said abundance l) ≡ read_field l
abundance-same l (inl e) = ap (λ (m : List ℕ). read_field (canonical_said abundance m)) e ∙ ap read_field (empty-canonical abundance ∙ sym e)
abundance-same l (inr f) = canonical-same l f

group-same : (t e a : List ℕ) → EmptyOr (Fits energies) e → EmptyOr (Fits abundance) a
    → group t (canonical_said energies e) (canonical_said abundance a) ≡ group t e a
group-same t e a h k =
    λ i. record { types = words_of t; energies = energies-same e h i; abundance = abundance-same a k i }

groups-same : (ps : List Place) → Fitting types ps → groups_of (canonical_places types ps) ≡ groups_of ps
groups-same [] h = refl
groups-same (t ∷ []) h = refl
groups-same (t ∷ e ∷ []) h = λ i. record { types = words_of t.said; energies = energies-same e.said h.1.0 i; abundance = read_field [] } ∷ []
groups-same (t ∷ e ∷ a ∷ ps) h =
    λ i. group-same t.said e.said a.said h.1.0 h.1.1.0 i ∷ groups-same ps h.1.1.1 i

-- number and unit of the run's half-life
half-same : (l : List ℕ) → EmptyOr (Fits half_life) l
    → (read_field (number_of (canonical_said half_life l)) ≡ read_field (number_of l)) × (unit_of (canonical_said half_life l) ≡ unit_of l)
half-same l (inl e) =
    let z : canonical_said half_life l ≡ l = ap (canonical_said half_life) e ∙ empty-canonical half_life ∙ sym e in
    (ap (λ (m : List ℕ). read_field (number_of m)) z, ap unit_of z)
half-same l (inr h) =
    let n = h.number in
    let u = h.unit in
    let (p, q) = half-once n u h.numeral h.capitals in
    let (r, s) = half-once (canonical_number n) u (canonical-numeral n h.numeral) h.capitals in
    let e = half-as l h in (
      ap (λ (m : List ℕ). read_field (number_of m)) e ∙ ap read_field r ∙ canonical-same n h.numeral
          ∙ ap read_field (sym p) ∙ ap (λ (m : List ℕ). read_field (number_of m)) h.same,
      ap unit_of e ∙ s ∙ sym q ∙ ap unit_of h.same,
    )

fields-same : (c : Code) → Good c → fields_of (canonical_code c) ≡ fields_of c
unfolding fields_of canonical_code
fields-same c g = by-places c.places g.places.fitting
  where
    by-places : (ps : List Place) → Fitting half_life ps
        → fields_from c.flag c.nuclide (canonical_places half_life ps) ≡ fields_from c.flag c.nuclide ps
    by-places [] h = refl
    by-places (p ∷ ps) h =
        let (x, y) = half-same p.said h.0 in
        λ i. record { flag = c.flag; nuclide = c.nuclide; half = x i; unit = y i; groups = groups-same ps h.1 i }

-- ---- the laws

good-run : (c : Code) → Good c → Good (canonical_code c)
unfolding canonical_code
good-run c g =
    record { flag = g.flag; flag_few = g.flag_few; nuclide = g.nuclide; places = places-run c.places g.places }

pub run-good : RunGood
run-good c g = (good-run c g, fields-same c g)

behind : (a b c : List ℕ) → length b ≤ length c → length (a ++ b) ≤ length (a ++ c)
behind a b c h = let p = length-append a b in let q = length-append a c in omega arith

places-short : (s : Sort) (ps : List Place) → Fitting s ps → length (places_text (canonical_places s ps)) ≤ length (places_text ps)
places-short s [] h = omega arith
places-short s (p ∷ ps) h =
    let a = said-short s p.said h.0 in
    let b = places-short (after s) ps h.1 in
    let x = canonical_said s p.said in
    let y = places_text (canonical_places (after s) ps) in
    let q = length-append x y in
    let r = length-append p.said (places_text ps) in
    let k : length (x ++ y) ≤ length (p.said ++ places_text ps) = omega arith in
    let m = behind (blanks p.lead) (x ++ y) (p.said ++ places_text ps) k in
    omega arith

pub run_short : RunShort
unfolding run_of write canonical_code
run_short c g =
    let a = places_text (canonical_places half_life c.places) in
    let b = places_text c.places in
    let k : length a ≤ length b = places-short half_life c.places g.places.fitting in
    let p = length-append a (41 ∷ []) in
    let q = length-append b (41 ∷ []) in
    let m : length (a ++ (41 ∷ [])) ≤ length (b ++ (41 ∷ [])) = omega arith in
    let x = nuclide_text c.nuclide in
    let n = behind x (a ++ (41 ∷ [])) (b ++ (41 ∷ [])) m in
    let o = behind (blanks c.lead) (x ++ (a ++ (41 ∷ []))) (x ++ (b ++ (41 ∷ []))) n in
    behind (40 ∷ []) (flag_text c.flag ++ (blanks c.lead ++ (x ++ (a ++ (41 ∷ [])))))
    (flag_text c.flag ++ (blanks c.lead ++ (x ++ (b ++ (41 ∷ [])))))
    (behind (flag_text c.flag) (blanks c.lead ++ (x ++ (a ++ (41 ∷ [])))) (blanks c.lead ++ (x ++ (b ++ (41 ∷ [])))) o)
