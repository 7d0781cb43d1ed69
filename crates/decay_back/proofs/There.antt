-- The words for groups, types and energies: 1 for each that is counted, since none of a code is empty, and 0 for all else.
-- Assumes nothing.
use Prim.Native.Nat.{ℕ, zero, suc, ◌+◌, ◌-◌, ◌≤◌, ◌<◌}
use mathlib.Core.Path.{◌≡◌, refl, sym, ap, ◌∙◌}
use mathlib.Core.Bool.{Bool, true, false, cond, ◌&&◌}
use mathlib.Core.List.{List, [], ◌∷◌, map}
use mathlib.Core.Logic.{inl, inr}
use native.Mathlib.Omega.{arith}
use borrow.Author.Tests.{ne_eqb, eqb-true, leb-true, leb-false}
use lib.Dec.{eqb, leb}
use lib.ListN.{length, get_or, take, drop, length-map}
use Rattle.laws.specs.Walk.{All}
use Rattle.laws.proofs.Booleans.{and_left, and_right}
use Rattle.paper_number.specs.declared.types.Decimal.{Decimal}
use Rattle.paper_number.specs.declared.types.Reading.TheVariants.{Blank, Number}
use Rattle.paper_number.specs.Reading.{read_field}
use Rattle.paper_decay.specs.Numerals.{Numeral}
use Rattle.paper_decay.specs.Code.{types, energies, Place, OneType, Fits, EmptyOr, EndsFilled, GroupsFilled, behind_first}
use Rattle.paper_decay.specs.Code.{Code, Spells}
use Rattle.paper_decay.specs.Fields.{words_of, Group as CodeGroup, groups_of, fields_of}
use Rattle.paper_decay.proofs.Words.{types-once, energies-once}
use Rattle.paper_decay_fields.specs.declared.types.Part.{Part}
use Rattle.paper_decay_fields.specs.declared.types.NumberPart.{NumberPart}
use Rattle.paper_decay_fields.specs.declared.types.Group.{Group}
use Rattle.paper_decay_fields.specs.Parts.{NO-PART, text_in}
use Rattle.paper_decay_fields.specs.Asked.{is_code, NO-GROUP, has_group, head_of, group_of, type_of, energy_of}
use Rattle.paper_decay_fields.specs.Claims.{code_group, Holds}
use Rattle.paper_decay_fields.proofs.Absent.{none_at_zero, none-behind}
use Rattle.paper_decay_fields.proofs.Codes.{code_of}
use Rattle.paper_decay_fields.proofs.Fields.{none-blank, said_at, three, Three, group-fits, behind-fits, groups-field}
use Rattle.paper_decay_fields.proofs.Heads.{head-right}
use Rattle.paper_decay_fields.proofs.Groups.{groups-right}
use Rattle.paper_decay_fields.proofs.Lying.{parts_in}
use Rattle.exports_fields.specs.Parts.{part_word}
use Rattle.exports_fields.specs.Groups.{is_empty, group_word}
use Rattle.decay_back.specs.Claims.{GroupThere, TypeThere, EnergyThere}
use Rattle.decay_back.proofs.Told.{group-is}

-- ---- no group, or one of a code

data Where (l : List ℕ) (k : ℕ) : Type 0 where
  none : group_of l k ≡ NO-GROUP → (1 ≤ k → k ≤ (head_of l).groups → ⊥) → Where l k
  some : (c : Code) → Spells l c → (m : ℕ) → k ≡ m + 1 → Where l k

-- none counts nothing
nothing : (n i : ℕ) → n ≡ 0 → 1 ≤ i → i ≤ n → ⊥
nothing n i e h j = absurd (omega arith)

where-of : (l : List ℕ) (k : ℕ) → Where l k
unfolding head_of group_of has_group
where-of l k = by_code (is_code l) refl k
  where
    by_code : (b : Bool) → is_code l ≡ b → (k : ℕ) → Where l k
    by_code false e k = none (rw e refl) (nothing (head_of l).groups k (rw e refl))
    by_code true e zero = none (none_at_zero l 0 0).group (λ h j. omega arith)
    by_code true e (suc m) = let (c, s) = code_of l e in some c s m (omega arith)

-- ---- what is empty

unlike : {v : Decimal} → Number v ≡ Blank → ⊥
unlike z = let y : ◌≡◌ {A = ℕ} 1 0 = cc in absurd (omega arith)

empty-text : (l : List ℕ) (p : Part) → p.length ≡ 0 → text_in l p ≡ []
empty-text l p e = ap (λ (n : ℕ). take n (drop p.first l)) e

-- a number without characters is blank
empty-blank : (l : List ℕ) (n : NumberPart) → Holds l n → n.part.length ≡ 0 → n.value ≡ Blank
empty-blank l n h e = h.reads ∙ ap read_field (empty-text l n.part e) ∙ none-blank

blank-empty : (l : List ℕ) → EmptyOr Numeral l → read_field l ≡ Blank → l ≡ []
blank-empty l (inl e) b = e
blank-empty l (inr n) b = absurd (unlike (sym n.reads ∙ b))

no-types : (l : List ℕ) → EmptyOr (Fits types) l → length (words_of l) ≡ 0 → l ≡ []
no-types l (inl e) z = e
no-types l (inr s) z =
    let e : length (words_of l) ≡ length s.words =
    ap (λ (m : List ℕ). length (words_of m)) (sym s.same) ∙ ap length (types-once s.words s.each) in
    let h = s.some in
    absurd (omega arith)

no-energies : (l : List ℕ) → EmptyOr (Fits energies) l → length (words_of l) ≡ 0 → l ≡ []
no-energies l (inl e) z = e
no-energies l (inr s) z =
    let e : length (words_of l) ≡ length s.words =
    ap (λ (m : List ℕ). length (words_of m)) (sym s.same) ∙ ap length (energies-once s.words s.each) in
    let h = s.some in
    absurd (omega arith)

-- ---- no group of a code is empty

last-behind : (ps : List Place) → EndsFilled ps → EndsFilled (behind_first ps)
last-behind [] h = tt
last-behind (p ∷ []) h = tt
last-behind (p ∷ q ∷ ps) h = h

last_on : (t e a : Place) (ps : List Place) → EndsFilled (t ∷ e ∷ a ∷ ps) → EndsFilled ps
last_on t e a [] h = tt
last_on t e a (p ∷ ps) h = h

group-filled : (ps : List Place) (m : ℕ) → GroupsFilled ps → EndsFilled ps → m < length (groups_of ps)
    → said_at ps (three m) ≡ [] → said_at ps (suc (three m)) ≡ [] → said_at ps (suc (suc (three m))) ≡ [] → ⊥
group-filled [] m g h i x y z = absurd (omega arith)
group-filled (t ∷ []) zero g h i x y z = h x
group-filled (t ∷ []) (suc m) g h i x y z = absurd (omega arith)
group-filled (t ∷ e ∷ []) zero g h i x y z = h y
group-filled (t ∷ e ∷ []) (suc m) g h i x y z = absurd (omega arith)
group-filled (t ∷ e ∷ a ∷ ps) zero g h i x y z = g.0 (x, (y, z))
group-filled (t ∷ e ∷ a ∷ ps) (suc m) g h i x y z =
    group-filled ps m g.1 (last_on t e a ps h) (omega arith) x y z

module _ (l : List ℕ) (c : Code) (s : Spells l c) (m : ℕ) where
  abbrev ps : List Place
  ps = behind_first c.places

  fits : Three (said_at ps (three m)) (said_at ps (suc (three m))) (said_at ps (suc (suc (three m))))
  fits = group-fits ps m (behind-fits c.places s.good.places.fitting)

  counted : m < (head_of l).groups → m < length (groups_of ps)
  unfolding fields_of
  counted h =
      let e = (head-right l c s).groups in
      let f = ap length (groups-field c.flag c.nuclide c.places) in
      omega arith

  not-empty : m < (head_of l).groups → is_empty (group_of l (m + 1)) ≡ true → ⊥
  unfolding is_empty
  not-empty h e =
      let g = group_of l (m + 1) in
      let r = groups-right l c s m in
      let rest = and_right (eqb g.types 0) _ e in
      let ts = eqb-true g.types 0 (and_left (eqb g.types 0) _ e) in
      let es = eqb-true g.energies 0 (and_left (eqb g.energies 0) _ rest) in
      let long = eqb-true g.abundance.part.length 0 (and_right (eqb g.energies 0) _ rest) in
      let blank = empty-blank l g.abundance ((parts_in l).abundance (m + 1)) long in
      let is = group-is c m in
      let t : length (words_of (said_at ps (three m))) ≡ 0 =
      ap (λ (x : CodeGroup). length x.types) (sym is) ∙ sym r.types ∙ ts in
      let n : length (words_of (said_at ps (suc (three m)))) ≡ 0 =
      sym (length-map (words_of (said_at ps (suc (three m)))) read_field)
      ∙ ap (λ (x : CodeGroup). length x.energies) (sym is)
      ∙ sym r.energies
      ∙ es in
      let a : read_field (said_at ps (suc (suc (three m)))) ≡ Blank =
      ap (λ (x : CodeGroup). x.abundance) (sym is) ∙ sym r.abundance ∙ blank in
      group-filled ps m s.good.places.groups (last-behind c.places s.good.places.last) (counted h)
      (no-types _ fits.typed t) (no-energies _ fits.energetic n) (blank-empty _ fits.abundant a)

  -- ---- nor a type

  one_type : (ws : List (List ℕ)) (i : ℕ) → All OneType ws → i < length ws → get_or ws i [] ≡ [] → ⊥
  one_type [] i h n e = absurd (omega arith)
  one_type (w ∷ ws) zero h n e =
      let long : length w ≡ 0 = ap length e in
      let q = h.0.1 in
      absurd (omega arith)
  one_type (w ∷ ws) (suc i) h n e = one_type ws i h.1 (omega arith) e

  said-type : (t : List ℕ) (i : ℕ) → EmptyOr (Fits types) t → i < length (words_of t) → get_or (words_of t) i [] ≡ [] → ⊥
  said-type t i (inl e) n z =
      let none : length (words_of t) ≡ 0 = ap (λ (x : List ℕ). length (words_of x)) e in
      absurd (omega arith)
  said-type t i (inr s) n z =
      let e : words_of t ≡ s.words = ap words_of (sym s.same) ∙ types-once s.words s.each in
      one_type s.words i s.each (rw (← e) n) (rw (← e) z)

  type-filled : (i : ℕ) → i < (group_of l (m + 1)).types → (type_of l (m + 1) (i + 1)).length ≡ 0 → ⊥
  type-filled i h e =
      let r = groups-right l c s m in
      let is = group-is c m in
      let n : length (code_group c m).types ≡ length (words_of (said_at ps (three m))) =
      ap (λ (x : CodeGroup). length x.types) is in
      let q = r.types in
      let z : get_or (words_of (said_at ps (three m))) i [] ≡ [] =
      ap (λ (x : CodeGroup). get_or x.types i []) (sym is)
      ∙ sym (r.each_type i)
      ∙ empty-text l (type_of l (m + 1) (i + 1)) e in
      said-type (said_at ps (three m)) i fits.typed (omega arith) z

  -- ---- nor an energy

  one-energy : (ws : List (List ℕ)) (i : ℕ) → All Numeral ws → i < length ws → get_or (map read_field ws) i Blank ≡ Blank → ⊥
  one-energy [] i h n e = absurd (omega arith)
  one-energy (w ∷ ws) zero h n e = unlike (sym h.0.reads ∙ e)
  one-energy (w ∷ ws) (suc i) h n e = one-energy ws i h.1 (omega arith) e

  said-energy : (t : List ℕ) (i : ℕ) → EmptyOr (Fits energies) t → i < length (words_of t)
      → get_or (map read_field (words_of t)) i Blank ≡ Blank → ⊥
  said-energy t i (inl e) n z =
      let none : length (words_of t) ≡ 0 = ap (λ (x : List ℕ). length (words_of x)) e in
      absurd (omega arith)
  said-energy t i (inr s) n z =
      let e : words_of t ≡ s.words = ap words_of (sym s.same) ∙ energies-once s.words s.each in
      one-energy s.words i s.each (rw (← e) n) (rw (← e) z)

  energy-filled : (i : ℕ) → i < (group_of l (m + 1)).energies → (energy_of l (m + 1) (i + 1)).part.length ≡ 0 → ⊥
  energy-filled i h e =
      let r = groups-right l c s m in
      let is = group-is c m in
      let n : length (code_group c m).energies ≡ length (words_of (said_at ps (suc (three m)))) =
      ap (λ (x : CodeGroup). length x.energies) is ∙ length-map (words_of (said_at ps (suc (three m)))) read_field in
      let q = r.energies in
      let z : get_or (map read_field (words_of (said_at ps (suc (three m))))) i Blank ≡ Blank =
      ap (λ (x : CodeGroup). get_or x.energies i Blank) (sym is)
      ∙ sym (r.each_energy i)
      ∙ empty-blank l (energy_of l (m + 1) (i + 1)) ((parts_in l).each_energy (m + 1) (i + 1)) e in
      said-energy (said_at ps (suc (three m))) i fits.energetic (omega arith) z

-- ---- the words

-- where there is none
no-group : group_word NO-GROUP ≡ 0
unfolding group_word is_empty
no-group = refl

no-part : part_word NO-PART ≡ 0
unfolding part_word
no-part = refl

part-word : (p : Part) → (p.length ≡ 0 → ⊥) → part_word p ≡ 1
unfolding part_word
part-word p h = rw (ne_eqb p.length 0 h) refl

group-word : (g : Group) → (is_empty g ≡ true → ⊥) → group_word g ≡ 1
unfolding group_word
group-word g h = by-test (is_empty g) h
  where
    by-test : (b : Bool) → (b ≡ true → ⊥) → ◌≡◌ {A = ℕ} (cond b 0 1) 1
    by-test true h = absurd (h refl)
    by-test false h = refl

-- counted from 1: the one before
before : (i : ℕ) → 1 ≤ i → i ≡ i - 1 + 1
before i h = omega arith

below : (i n : ℕ) → 1 ≤ i → i ≤ n → i - 1 < n
below i n h j = omega arith

-- 1 from 1 to n, 0 at 0 and behind n
counted-word : (word : ℕ → ℕ) (n : ℕ) → word 0 ≡ 0 → ((i : ℕ) → n < i → word i ≡ 0)
    → ((i : ℕ) → 1 ≤ i → i ≤ n → word i ≡ 1) → (i : ℕ) → word i ≡ cond (leb 1 i && leb i n) 1 0
counted-word word n zeroth behind there i = by_tests (leb 1 i) refl (leb i n) refl
  where
    by_tests : (a : Bool) → leb 1 i ≡ a → (b : Bool) → leb i n ≡ b → word i ≡ cond (a && b) 1 0
    by_tests false e b f =
        let z : i < 1 = leb-false 1 i e in
        let o : i ≡ 0 = omega arith in
        ap word o ∙ zeroth
    by_tests true e false f = behind i (leb-false i n f)
    by_tests true e true f = there i (leb-true 1 i e) (leb-true i n f)

pub group-there : GroupThere
group-there l k =
    counted-word (λ (k : ℕ). group_word (group_of l k)) (head_of l).groups
    (ap group_word (none_at_zero l 0 0).group ∙ no-group)
    (λ i h. ap group_word ((none-behind l i 0).group h) ∙ no-group) (λ i h j. there i h j (where-of l i)) k
  where
    there : (i : ℕ) → 1 ≤ i → i ≤ (head_of l).groups → Where l i → group_word (group_of l i) ≡ 1
    there i h j (none e f) = absurd (f h j)
    there i h j (some c s m q) =
        ap (λ (k : ℕ). group_word (group_of l k)) q
        ∙ group-word (group_of l (m + 1)) (not-empty l c s m (omega arith))

pub type-there : TypeThere
type-there l k i =
    counted-word (λ (i : ℕ). part_word (type_of l k i)) (group_of l k).types
    (ap part_word (none_at_zero l k 0).type ∙ no-part) (λ i h. ap part_word ((none-behind l k i).type h) ∙ no-part)
    (λ i h j. there i h j (where-of l k)) i
  where
    there : (i : ℕ) → 1 ≤ i → i ≤ (group_of l k).types → Where l k → part_word (type_of l k i) ≡ 1
    there i h j (none e f) = absurd (nothing _ i (ap (λ (g : Group). g.types) e) h j)
    there i h j (some c s m q) =
        let o = before i h in
        let w = ap (λ (k : ℕ). (group_of l k).types) q in
        let b : i - 1 < (group_of l (m + 1)).types = below i _ h (rw (← w) j) in
        (λ t. part_word (type_of l (q t) (o t))) ∙ part-word (type_of l (m + 1) (i - 1 + 1)) (type-filled l c s m (i - 1) b)

pub energy-there : EnergyThere
energy-there l k i =
    counted-word (λ (i : ℕ). part_word (energy_of l k i).part) (group_of l k).energies
    (ap (λ (n : NumberPart). part_word n.part) (none_at_zero l k 0).energy ∙ no-part)
    (λ i h. ap (λ (n : NumberPart). part_word n.part) ((none-behind l k i).energy h) ∙ no-part)
    (λ i h j. there i h j (where-of l k)) i
  where
    there : (i : ℕ) → 1 ≤ i → i ≤ (group_of l k).energies → Where l k → part_word (energy_of l k i).part ≡ 1
    there i h j (none e f) = absurd (nothing _ i (ap (λ (g : Group). g.energies) e) h j)
    there i h j (some c s m q) =
        let o = before i h in
        let w = ap (λ (k : ℕ). (group_of l k).energies) q in
        let b : i - 1 < (group_of l (m + 1)).energies = below i _ h (rw (← w) j) in
        (λ t. part_word (energy_of l (q t) (o t)).part)
        ∙ part-word (energy_of l (m + 1) (i - 1 + 1)).part (energy-filled l c s m (i - 1) b)
