-- Every value of a code comes back from its eight numbers: it is blank, or a number of at most eleven characters.
-- Assumes nothing.
use Prim.Native.Nat.{ℕ, zero, suc}
use mathlib.Core.Path.{◌≡◌, refl, sym, ap, ◌∙◌, subst}
use mathlib.Core.List.{List, [], ◌∷◌, map}
use mathlib.Core.Logic.{inl, inr}
use native.Mathlib.Omega.{arith}
use lib.IntN.{pos, neg_ℤ}
use lib.ListN.{get_or}
use lib.Signed.{◌≤ℤ◌}
use Rattle.laws.specs.Walk.{All}
use Rattle.paper_number.specs.declared.types.Reading.{Reading}
use Rattle.paper_number.specs.declared.types.Reading.TheVariants.{Blank, Number, Refused}
use Rattle.paper_number.specs.Reading.{read_field}
use Rattle.paper_number.proofs.Laws.{read-bounds}
use Rattle.paper_number.proofs.Sums.{lt-le}
use Rattle.paper_decay.specs.Numerals.{Numeral}
use Rattle.paper_decay.specs.Code.{half_life, energies, Place, Fits, EmptyOr, Fitting, behind_first, Code, Good}
use Rattle.paper_decay.specs.Fields.{number_of, words_of, Group as CodeGroup, group, fields_of}
use Rattle.paper_decay.proofs.Words.{half-once, energies-once}
use Rattle.paper_decay_fields.specs.Claims.{NO-FIELDS, code_group}
use Rattle.paper_decay_fields.proofs.Fields.{none-blank, said_at, three, group_at, group-fits, behind-fits, half-field, groups-field}
use Rattle.exports_values.specs.Values.{reading_stored, value_in}
use Rattle.exports_values.proofs.Numbers.{numbers-back}
use Rattle.exports_fields.specs.Parts.{value_stored}

-- what comes back
abbrev pub Told : Reading → Type 0
Told Blank = Unit {0}
Told (Number v) = (neg_ℤ (pos 100000000) ≤ℤ v.power) × (v.power ≤ℤ pos 99999999)
Told (Refused n) = ⊥

pub value-told : (r : Reading) → Told r → value_in (value_stored r) ≡ r
unfolding value_stored reading_stored
value-told Blank h = refl
value-told (Number v) h = numbers-back v 0 h.0 h.1
value-told (Refused n) h = absurd h

-- ---- what a field of a code says

numeral-told : (l : List ℕ) → EmptyOr Numeral l → Told (read_field l)
numeral-told l (inl e) = subst Told (sym (ap read_field e ∙ none-blank)) tt
numeral-told l (inr n) =
    let b = read-bounds 11 l n.value (omega arith) n.few n.reads in
    subst Told (sym n.reads) (b.least, lt-le n.value.power 99999999 b.most)

half-numeral : (l : List ℕ) → EmptyOr (Fits half_life) l → EmptyOr Numeral (number_of l)
half-numeral l (inl e) = inl (ap number_of e)
half-numeral l (inr h) =
    let e : number_of l ≡ h.number =
    ap number_of (sym h.same) ∙ (half-once h.number h.unit h.numeral h.capitals).0 in
    inr (subst Numeral (sym e) h.numeral)

first_said : (ps : List Place) → Fitting half_life ps → EmptyOr (Fits half_life) (said_at ps 0)
first_said [] h = inl refl
first_said (p ∷ ps) h = h.0

pub half-told : (c : Code) → Good c → Told (fields_of c).half
unfolding fields_of
half-told c g =
    let ps = c.places in
    subst Told (half-field c.flag c.nuclide ps)
    (numeral-told (number_of (said_at ps 0)) (half-numeral (said_at ps 0) (first_said ps g.places.fitting)))

-- ---- and a group

pub group-is : (c : Code) (k : ℕ)
    → let ps = behind_first c.places in
    code_group c k ≡ group (said_at ps (three k)) (said_at ps (suc (three k))) (said_at ps (suc (suc (three k))))
unfolding fields_of
group-is c k =
    let ps = behind_first c.places in
    ap (λ (gs : List CodeGroup). get_or gs k NO-FIELDS) (sym (groups-field c.flag c.nuclide c.places)) ∙ group_at ps k

pub abundance-told : (c : Code) → Good c → (k : ℕ) → Told (code_group c k).abundance
abundance-told c g k =
    let ps = behind_first c.places in
    subst (λ (x : CodeGroup). Told x.abundance) (sym (group-is c k))
    (numeral-told (said_at ps (suc (suc (three k))))
    (group-fits ps k (behind-fits c.places g.places.fitting)).abundant)

each-told : (ws : List (List ℕ)) (i : ℕ) → All Numeral ws → Told (get_or (map read_field ws) i Blank)
each-told [] i h = tt
each-told (w ∷ ws) zero h = numeral-told w (inr h.0)
each-told (w ∷ ws) (suc i) h = each-told ws i h.1

energies-told : (l : List ℕ) (i : ℕ) → EmptyOr (Fits energies) l → Told (get_or (map read_field (words_of l)) i Blank)
energies-told l i (inl e) = subst (λ (m : List ℕ). Told (get_or (map read_field (words_of m)) i Blank)) (sym e) tt
energies-told l i (inr s) =
    let e : words_of l ≡ s.words = ap words_of (sym s.same) ∙ energies-once s.words s.each in
    subst (λ (ws : List (List ℕ)). Told (get_or (map read_field ws) i Blank)) (sym e) (each-told s.words i s.each)

pub energy-told : (c : Code) → Good c → (k i : ℕ) → Told (get_or (code_group c k).energies i Blank)
energy-told c g k i =
    let ps = behind_first c.places in
    subst (λ (x : CodeGroup). Told (get_or x.energies i Blank)) (sym (group-is c k))
    (energies-told (said_at ps (suc (three k))) i
    (group-fits ps k (behind-fits c.places g.places.fitting)).energetic)
