-- The run of a good code's characters is the code's run: the commas cut it into its head and its places.
-- Assumes nothing.
use mathlib.Core.Path.{◌≡◌, refl, sym, ap, ◌∙◌}
use mathlib.Core.List.{List, [], ◌∷◌, ◌++◌, map, append_assoc, append-nil}
use mathlib.Core.Logic.{inl, inr}
use Prim.Native.Nat.{ℕ, zero, suc, ◌-◌, ◌≤◌}
use native.Mathlib.Omega.{arith}
use lib.ListN.{length, length-append}
use lib.Seq.{take_at, drop_at}
use Rattle.laws.specs.Walk.{All}
use Rattle.paper_number.specs.Grammar.{blanks, Digits, digits_text}
use Rattle.paper_decay.specs.Code.{Isomer, unsaid, ground_state, metastable, first, second, isomer_text, Nuclide, nuclide_text}
use Rattle.paper_decay.specs.Code.{GoodNuclide, Capital, Sort, half_life, types, energies, abundance, after, Place, places_text}
use Rattle.paper_decay.specs.Code.{split, Fits, EmptyOr, Fitting, Code, flag_text, write, Good}
use Rattle.paper_decay.specs.Fields.{cut_at, canonical_places, canonical_code, run_of}
use Rattle.paper_decay.proofs.Cuts.{no-first, all_append, all_map, Figure, figures}
use Rattle.paper_decay.proofs.Inside.{Inside, capital-inside, fits-inside}
use Rattle.paper_decay.proofs.Words.{Not, cut-split}
use Rattle.paper_decay_run.specs.Run.{run_said, lead_of, run_field, next_field, run_fields, without_last, last_of, fields_in}
use Rattle.paper_decay_run.specs.Run.{run_piece, run_text}
use Rattle.paper_decay_run.specs.Claims.{RunRight}
use Rattle.paper_decay_run.proofs.Fields.{place_of, field-run}

-- ---- the last character

before_last : (l : List ℕ) (b : ℕ) → length l ≡ length (l ++ (b ∷ [])) - 1
before_last l b = let n = length-append l (b ∷ []) in omega arith

pub without-last : (l : List ℕ) (b : ℕ) → without_last (l ++ (b ∷ [])) ≡ l
without-last l b = take_at l (b ∷ []) (length (l ++ (b ∷ [])) - 1) (before_last l b)

pub last-alone : (l : List ℕ) (b : ℕ) → last_of (l ++ (b ∷ [])) ≡ b ∷ []
last-alone l b = drop_at l (b ∷ []) (length (l ++ (b ∷ [])) - 1) (before_last l b)

-- ---- a code's characters between the commas

abbrev pub head_text : Code → List ℕ
head_text c = 40 ∷ (flag_text c.flag ++ (blanks c.lead ++ nuclide_text c.nuclide))

abbrev pub place_text : Place → List ℕ
place_text p = blanks p.lead ++ p.said

split_places : (h : List ℕ) (ps : List Place) → split 44 (h ∷ map place_text ps) ≡ h ++ places_text ps
split_places h [] = sym (append-nil h)
split_places h (p ∷ ps) =
    ap (λ (l : List ℕ). h ++ (44 ∷ l))
    (split_places (place_text p) ps ∙ append_assoc (blanks p.lead) p.said (places_text ps))

write-fields : (c : Code) → write c ≡ split 44 (head_text c ∷ map place_text c.places) ++ (41 ∷ [])
unfolding write
write-fields c =
    let f = flag_text c.flag in
    let b = blanks c.lead in
    let n = nuclide_text c.nuclide in
    let p = places_text c.places in
    ap (λ (l : List ℕ). 40 ∷ (f ++ l))
    (ap (λ (l : List ℕ). b ++ l) (sym (append_assoc n p (41 ∷ []))) ∙ sym (append_assoc b (n ++ p) (41 ∷ []))
    ∙ ap (λ (l : List ℕ). l ++ (41 ∷ [])) (sym (append_assoc b n p)))
    ∙ ap (λ (l : List ℕ). 40 ∷ l) (sym (append_assoc f ((b ++ n) ++ p) (41 ∷ [])))
    ∙ ap (λ (l : List ℕ). 40 ∷ (l ++ (41 ∷ []))) (sym (append_assoc f (b ++ n) p))
    ∙ ap (λ (l : List ℕ). l ++ (41 ∷ [])) (sym (split_places (head_text c) c.places))

-- ---- no field has a comma

abbrev Bare : ℕ → Type 0
Bare b = Not 44 b

inside-bare : (b : ℕ) → Inside b → Bare b
inside-bare b h = h.1.1

figure-bare : (b : ℕ) → Figure b → Bare b
figure-bare b h e = let l = h.0 in omega arith

digits-bare : (ds : List ℕ) → Digits ds → All Bare (digits_text ds)
digits-bare ds h = all_map Figure Bare (digits_text ds) figure-bare (figures ds h)

blanks-bare : (n : ℕ) → All Bare (blanks n)
blanks-bare zero = tt
blanks-bare (suc n) = (λ e. omega arith, blanks-bare n)

not-comma : (b : ℕ) → 45 ≤ b → Bare b
not-comma b h e = omega arith

isomer-bare : (x : Isomer) → All Bare (isomer_text x)
isomer-bare unsaid = tt
isomer-bare ground_state = (not-comma 45 (omega arith), (not-comma 71 (omega arith), tt))
isomer-bare metastable = (not-comma 45 (omega arith), (not-comma 77 (omega arith), tt))
isomer-bare first = (not-comma 45 (omega arith), (not-comma 77 (omega arith), (not-comma 49 (omega arith), tt)))
isomer-bare second = (not-comma 45 (omega arith), (not-comma 77 (omega arith), (not-comma 50 (omega arith), tt)))

nuclide-bare : (n : Nuclide) → GoodNuclide n → All Bare (nuclide_text n)
nuclide-bare n g =
    let a = digits_text n.a ++ isomer_text n.isomer in
    let hyphen = not-comma 45 (omega arith) in
    let s = all_map Capital Bare n.symbol (λ b h. inside-bare b (capital-inside b h)) g.symbol in
    all_append Bare (digits_text n.z) (45 ∷ (n.symbol ++ (45 ∷ a))) (digits-bare n.z g.z.digits) (
      hyphen,
      all_append Bare n.symbol (45 ∷ a) s (
        hyphen,
        all_append Bare (digits_text n.a) (isomer_text n.isomer) (digits-bare n.a g.a.digits) (isomer-bare n.isomer),
      ),
    )

flag-bare : (ds : List ℕ) → Digits ds → All Bare (flag_text ds)
flag-bare [] h = tt
flag-bare (d ∷ ds) h = (
  λ e. omega arith,
  all_append Bare (digits_text (d ∷ ds)) (46 ∷ 41 ∷ []) (digits-bare (d ∷ ds) h)
      (not-comma 46 (omega arith), (λ e. omega arith, tt)),
)

head-bare : (c : Code) → Good c → All Bare (head_text c)
head-bare c g = (
  λ e. omega arith,
  all_append Bare (flag_text c.flag) (blanks c.lead ++ nuclide_text c.nuclide) (flag-bare c.flag g.flag)
      (all_append Bare (blanks c.lead) (nuclide_text c.nuclide) (blanks-bare c.lead) (nuclide-bare c.nuclide g.nuclide)),
)

said-bare : (s : Sort) (l : List ℕ) → EmptyOr (Fits s) l → All Bare l
said-bare s [] h = tt
said-bare s (b ∷ l) (inl e) = no-first b l (sym e)
said-bare s (b ∷ l) (inr h) = all_map Inside Bare (b ∷ l) inside-bare (fits-inside s (b ∷ l) h)

places-bare : (s : Sort) (ps : List Place) → Fitting s ps → All (All Bare) (map place_text ps)
places-bare s [] h = tt
places-bare s (p ∷ ps) h = (
  all_append Bare (blanks p.lead) p.said (blanks-bare p.lead) (said-bare s p.said h.0),
  places-bare (after s) ps h.1,
)

pub fields-of : (c : Code) → Good c → fields_in (write c) ≡ head_text c ∷ map place_text c.places
fields-of c g =
    let w = split 44 (head_text c ∷ map place_text c.places) in
    ap fields_in (write-fields c)
    ∙ ap (cut_at 44) (without-last w 41)
    ∙ cut-split 44 (head_text c) (map place_text c.places) (head-bare c g) (places-bare half_life c.places g.places.fitting)

-- ---- the fields one by one

next_place : (s : Sort) → next_field (place_of s) ≡ place_of (after s)
next_place half_life = refl
next_place types = refl
next_place energies = refl
next_place abundance = refl

places-run : (s : Sort) (ps : List Place) → Fitting s ps
    → run_fields (place_of s) (map place_text ps) ≡ map place_text (canonical_places s ps)
places-run s [] h = refl
places-run s (p ∷ ps) h =
    let e : run_fields (next_field (place_of s)) (map place_text ps) ≡ map place_text (canonical_places (after s) ps) =
    ap (λ (k : ℕ). run_fields k (map place_text ps)) (next_place s) ∙ places-run (after s) ps h.1 in
    λ i. field-run s p.lead p.said h.0 i ∷ e i

-- flag and nuclide stay
head-run : (l : List ℕ) → run_field 0 (40 ∷ l) ≡ 40 ∷ l
unfolding run_field run_said lead_of
head-run l = refl

-- ---- the law

pub run-right : RunRight
unfolding run_text run_piece run_of canonical_code
run-right c g =
    let h = head_text c in
    let ps = c.places in
    let e : run_fields 0 (fields_in (write c)) ≡ h ∷ map place_text (canonical_places half_life ps) =
    ap (run_fields 0) (fields-of c g)
    ∙ (λ i. head-run (flag_text c.flag ++ (blanks c.lead ++ nuclide_text c.nuclide)) i
    ∷ places-run half_life ps g.places.fitting i) in
    let f : last_of (write c) ≡ 41 ∷ [] = ap last_of (write-fields c) ∙ last-alone (split 44 (h ∷ map place_text ps)) 41 in
    (λ i. split 44 (e i) ++ f i) ∙ sym (write-fields (canonical_code c))
