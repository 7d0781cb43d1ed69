-- The groups of a code's characters, their types, energies and abundance, are the code's.
-- Assumes nothing.
use mathlib.Core.Path.{◌≡◌, refl, sym, ap, ◌∙◌, subst}
use mathlib.Core.Bool.{Bool, true, false, cond, ◌&&◌}
use mathlib.Core.List.{List, [], ◌∷◌, map}
use mathlib.Core.Logic.{◌⊎◌, inl, inr}
use Prim.Native.Nat.{ℕ, zero, suc, ◌+◌, ◌-◌, ◌≤◌}
use native.Mathlib.Omega.{arith}
use borrow.Author.Tests.{le-leb, leb-false}
use lib.Dec.{leb}
use lib.ListN.{length, get_or, get_or-eq_default, get_or-map}
use Rattle.laws.specs.Walk.{All}
use Rattle.paper_number.specs.declared.types.Reading.{Reading}
use Rattle.paper_number.specs.declared.types.Reading.TheVariants.{Blank}
use Rattle.paper_number.specs.Reading.{read_field}
use Rattle.paper_record.specs.Text.{within}
use Rattle.paper_decay.specs.Numerals.{Numeral}
use Rattle.paper_decay.specs.Code.{types, energies, abundance, Fits, EmptyOr, behind_first, Code, write, Good}
use Rattle.paper_decay.specs.Fields.{words_of, Group as CodeGroup, group, groups_of, fields_of}
use Rattle.paper_decay.proofs.Run.{words-of}
use Rattle.paper_decay_fields.specs.declared.types.Group.{Group}
use Rattle.paper_decay_fields.specs.Parts.{NO-PART, or_none, text_in, word_in, words_in, field_at, number_in}
use Rattle.paper_decay_fields.specs.Asked.{is_code, NO-NUMBER, groups_in, types_at, energies_at, abundance_at, has_group, NO-GROUP}
use Rattle.paper_decay_fields.specs.Asked.{group_of, type_of, energy_of}
use Rattle.paper_decay_fields.specs.Claims.{NO-FIELDS, code_group, GroupSays, GroupsRight}
use Rattle.paper_decay_fields.proofs.Words.{Whole, text-none, word-in-whole, words_count, slashed-text, field-whole}
use Rattle.paper_decay_fields.proofs.Codes.{is-code}
use Rattle.paper_decay_fields.proofs.Fields.{none-blank, said_at, place-text, three, three-is, said-behind, group_at, Three}
use Rattle.paper_decay_fields.proofs.Fields.{group-fits, behind-fits, length-map, groups-count, groups-field}
use Rattle.paper_decay_fields.proofs.Heads.{number-value}

-- ---- the places of a group

-- what the three places of the group k + 1 say
abbrev pub types_said : Code → ℕ → List ℕ
types_said c k = said_at (behind_first c.places) (three k)

abbrev pub energies_said : Code → ℕ → List ℕ
energies_said c k = said_at (behind_first c.places) (suc (three k))

abbrev pub abundance_said : Code → ℕ → List ℕ
abundance_said c k = said_at (behind_first c.places) (suc (suc (three k)))

behind-text : (c : Code) → Good c → (n j : ℕ) → n ≡ suc (suc j)
    → text_in (write c) (field_at (write c) n) ≡ said_at (behind_first c.places) j
behind-text c g n j e =
    ap (λ (k : ℕ). text_in (write c) (field_at (write c) k)) e ∙ place-text c g (suc j) ∙ said-behind c.places j

pub types-text : (c : Code) → Good c → (k : ℕ) → text_in (write c) (types_at (write c) (suc k)) ≡ types_said c k
types-text c g k = behind-text c g _ (three k) (omega (arith, three-is k))

pub energies-text : (c : Code) → Good c → (k : ℕ) → text_in (write c) (energies_at (write c) (suc k)) ≡ energies_said c k
energies-text c g k = behind-text c g _ (suc (three k)) (omega (arith, three-is k))

pub abundance-text : (c : Code) → Good c → (k : ℕ) → text_in (write c) (abundance_at (write c) (suc k)) ≡ abundance_said c k
abundance-text c g k = behind-text c g _ (suc (suc (three k))) (omega (arith, three-is k))

group-is : (c : Code) (k : ℕ) → code_group c k ≡ group (types_said c k) (energies_said c k) (abundance_said c k)
unfolding fields_of
group-is c k =
    ap (λ (gs : List CodeGroup). get_or gs k NO-FIELDS) (sym (groups-field c.flag c.nuclide c.places))
    ∙ group_at (behind_first c.places) k

pub said_fits : (c : Code) → Good c → (k : ℕ) → Three (types_said c k) (energies_said c k) (abundance_said c k)
said_fits c g k = group-fits (behind_first c.places) k (behind-fits c.places g.places.fitting)

-- ---- no group behind the last

within-not : (n k : ℕ) → within 1 n (suc k) ≡ false → n ≤ k
within-not n k e =
    let f : (leb 1 (suc k) && leb (suc k) n) ≡ leb (suc k) n =
    ap (λ (t : Bool). t && leb (suc k) n) (le-leb 1 (suc k) (omega arith)) in
    let h = leb-false (suc k) n (sym f ∙ e) in
    omega arith

group-none : (c : Code) → Good c → (k : ℕ) → has_group (write c) (suc k) ≡ false → code_group c k ≡ NO-FIELDS
unfolding has_group fields_of
group-none c g k e =
    let i : is_code (write c) ≡ true = is-code (write c) c (record { good = g; same = refl }) in
    let w : within 1 (groups_in (write c)) (suc k) ≡ false =
    ap (λ (t : Bool). t && within 1 (groups_in (write c)) (suc k)) (sym i) ∙ e in
    let n = within-not (groups_in (write c)) k w in
    let m = groups-count c g in
    let o : length (groups_of (behind_first c.places)) ≤ k = omega arith in
    ap (λ (gs : List CodeGroup). get_or gs k NO-FIELDS) (sym (groups-field c.flag c.nuclide c.places))
    ∙ get_or-eq_default (groups_of (behind_first c.places)) NO-FIELDS o

-- either there is no such group, or the test of the word fails
either-not : (a b : Bool) → (a && b) ≡ false → (a ≡ false) ⊎ (b ≡ false)
either-not true b e = inr e
either-not false b e = inl refl

-- ---- types

types-count : (c : Code) → Good c → (k : ℕ)
    → words_in 47 (write c) (types_at (write c) (suc k)) ≡ length (code_group c k).types
types-count c g k =
    words_count (write c) (types_at (write c) (suc k)) (field-whole (write c) _)
    ∙ ap (λ (l : List ℕ). length (words_of l)) (types-text c g k)
    ∙ ap (λ (x : CodeGroup). length x.types) (sym (group-is c k))

type-text : (c : Code) → Good c → (k i : ℕ)
    → text_in (write c) (word_in 47 (write c) (types_at (write c) (suc k)) i) ≡ get_or (code_group c k).types i []
type-text c g k i =
    slashed-text (write c) (types_at (write c) (suc k)) i
    ∙ ap (λ (l : List ℕ). get_or (words_of l) i []) (types-text c g k)
    ∙ ap (λ (x : CodeGroup). get_or x.types i []) (sym (group-is c k))

no-type : (c : Code) → Good c → (k i : ℕ)
    → (has_group (write c) (suc k) && within 1 (words_in 47 (write c) (types_at (write c) (suc k))) (suc i)) ≡ false
    → get_or (code_group c k).types i [] ≡ []
no-type c g k i e = by-test (either-not (has_group (write c) (suc k)) _ e)
  where
    by-test : (has_group (write c) (suc k) ≡ false) ⊎ (within 1 (words_in 47 (write c) (types_at (write c) (suc k))) (suc i) ≡ false)
        → get_or (code_group c k).types i [] ≡ []
    by-test (inl h) = ap (λ (x : CodeGroup). get_or x.types i []) (group-none c g k h)
    by-test (inr h) =
        let n = within-not (words_in 47 (write c) (types_at (write c) (suc k))) i h in
        let m = types-count c g k in
        let o : length (code_group c k).types ≤ i = omega arith in
        get_or-eq_default (code_group c k).types [] o

each_type : (c : Code) → Good c → (k i : ℕ)
    → text_in (write c) (type_of (write c) (suc k) (suc i)) ≡ get_or (code_group c k).types i []
unfolding type_of
each_type c g k i =
    by-test (has_group (write c) (suc k) && within 1 (words_in 47 (write c) (types_at (write c) (suc k))) (suc i)) refl
  where
    by-test : (t : Bool) → (has_group (write c) (suc k) && within 1 (words_in 47 (write c) (types_at (write c) (suc k))) (suc i)) ≡ t
        → text_in (write c) (cond t (or_none (word_in 47 (write c) (types_at (write c) (suc k)) (suc i - 1))) NO-PART)
        ≡ get_or (code_group c k).types i []
    by-test true e =
        let j : suc i - 1 ≡ i = omega arith in
        text-none (write c) (word_in 47 (write c) (types_at (write c) (suc k)) (suc i - 1))
        ∙ ap (λ (n : ℕ). text_in (write c) (word_in 47 (write c) (types_at (write c) (suc k)) n)) j
        ∙ type-text c g k i
    by-test false e = sym (no-type c g k i e)

-- ---- energies

energies-count : (c : Code) → Good c → (k : ℕ)
    → words_in 47 (write c) (energies_at (write c) (suc k)) ≡ length (code_group c k).energies
energies-count c g k =
    words_count (write c) (energies_at (write c) (suc k)) (field-whole (write c) _)
    ∙ ap (λ (l : List ℕ). length (words_of l)) (energies-text c g k)
    ∙ sym (length-map read_field (words_of (energies_said c k)))
    ∙ ap (λ (x : CodeGroup). length x.energies) (sym (group-is c k))

energy-text : (c : Code) → Good c → (k i : ℕ)
    → text_in (write c) (word_in 47 (write c) (energies_at (write c) (suc k)) i) ≡ get_or (words_of (energies_said c k)) i []
energy-text c g k i =
    slashed-text (write c) (energies_at (write c) (suc k)) i
    ∙ ap (λ (l : List ℕ). get_or (words_of l) i []) (energies-text c g k)

-- "at most eleven characters"
few-at : (ws : List (List ℕ)) (i : ℕ) → All Numeral ws → length (get_or ws i []) ≤ 11
few-at [] i h = omega arith
few-at (w ∷ ws) zero h = h.0.few
few-at (w ∷ ws) (suc i) h = few-at ws i h.1

energies-few : (l : List ℕ) (i : ℕ) → EmptyOr (Fits energies) l → length (get_or (words_of l) i []) ≤ 11
energies-few l i (inl e) =
    let n : length (get_or (words_of l) i []) ≡ 0 = ap (λ (m : List ℕ). length (get_or (words_of m) i [])) e in
    omega arith
energies-few l i (inr s) =
    let e : length (get_or (words_of l) i []) ≡ length (get_or s.words i []) =
    ap (λ (ws : List (List ℕ)). length (get_or ws i [])) (words-of l s) in
    let f = few-at s.words i s.each in
    omega arith

pub energy-few : (c : Code) → Good c → (k i : ℕ) → (word_in 47 (write c) (energies_at (write c) (suc k)) i).length ≤ 11
energy-few c g k i =
    let w = word-in-whole 47 (write c) (energies_at (write c) (suc k)) i in
    let e : length (text_in (write c) (word_in 47 (write c) (energies_at (write c) (suc k)) i))
    ≡ length (get_or (words_of (energies_said c k)) i []) = ap length (energy-text c g k i) in
    let f = energies-few (energies_said c k) i (said_fits c g k).energetic in
    omega arith

energy-value : (c : Code) → Good c → (k i : ℕ)
    → (number_in (write c) (word_in 47 (write c) (energies_at (write c) (suc k)) i)).value ≡ get_or (code_group c k).energies i Blank
energy-value c g k i =
    let ws = words_of (energies_said c k) in
    number-value (write c) (word_in 47 (write c) (energies_at (write c) (suc k)) i) (energy-few c g k i)
    ∙ ap read_field (energy-text c g k i)
    ∙ sym (get_or-map read_field ws i [])
    ∙ ap (λ (r : Reading). get_or (map read_field ws) i r) none-blank
    ∙ ap (λ (x : CodeGroup). get_or x.energies i Blank) (sym (group-is c k))

no-energy : (c : Code) → Good c → (k i : ℕ)
    → (has_group (write c) (suc k) && within 1 (words_in 47 (write c) (energies_at (write c) (suc k))) (suc i)) ≡ false
    → get_or (code_group c k).energies i Blank ≡ Blank
no-energy c g k i e = by-test (either-not (has_group (write c) (suc k)) _ e)
  where
    by-test : (has_group (write c) (suc k) ≡ false)
        ⊎ (within 1 (words_in 47 (write c) (energies_at (write c) (suc k))) (suc i) ≡ false)
        → get_or (code_group c k).energies i Blank ≡ Blank
    by-test (inl h) = ap (λ (x : CodeGroup). get_or x.energies i Blank) (group-none c g k h)
    by-test (inr h) =
        let n = within-not (words_in 47 (write c) (energies_at (write c) (suc k))) i h in
        let m = energies-count c g k in
        let o : length (code_group c k).energies ≤ i = omega arith in
        get_or-eq_default (code_group c k).energies Blank o

each_energy : (c : Code) → Good c → (k i : ℕ)
    → (energy_of (write c) (suc k) (suc i)).value ≡ get_or (code_group c k).energies i Blank
unfolding energy_of
each_energy c g k i =
    by-test (has_group (write c) (suc k) && within 1 (words_in 47 (write c) (energies_at (write c) (suc k))) (suc i)) refl
  where
    by-test : (t : Bool) → (has_group (write c) (suc k) && within 1 (words_in 47 (write c) (energies_at (write c) (suc k))) (suc i)) ≡ t
        → (cond t (number_in (write c) (word_in 47 (write c) (energies_at (write c) (suc k)) (suc i - 1))) NO-NUMBER).value
        ≡ get_or (code_group c k).energies i Blank
    by-test true e =
        let j : suc i - 1 ≡ i = omega arith in
        ap (λ (n : ℕ). (number_in (write c) (word_in 47 (write c) (energies_at (write c) (suc k)) n)).value) j ∙ energy-value c g k i
    by-test false e = sym (no-energy c g k i e)

-- ---- the abundance

pub abundance-few : (c : Code) → Good c → (k : ℕ) → (abundance_at (write c) (suc k)).length ≤ 11
abundance-few c g k =
    let w : Whole (write c) (abundance_at (write c) (suc k)) = field-whole (write c) _ in
    let e : length (text_in (write c) (abundance_at (write c) (suc k))) ≡ length (abundance_said c k) =
    ap length (abundance-text c g k) in
    let f = by_said (said_fits c g k).abundant in
    omega arith
  where
    by_said : EmptyOr (Fits abundance) (abundance_said c k) → length (abundance_said c k) ≤ 11
    by_said (inl e) = let n : length (abundance_said c k) ≡ 0 = ap length e in omega arith
    by_said (inr n) = n.few

abundance-value : (c : Code) → Good c → (k : ℕ)
    → (number_in (write c) (abundance_at (write c) (suc k))).value ≡ (code_group c k).abundance
abundance-value c g k =
    number-value (write c) (abundance_at (write c) (suc k)) (abundance-few c g k)
    ∙ ap read_field (abundance-text c g k)
    ∙ ap (λ (x : CodeGroup). x.abundance) (sym (group-is c k))

-- ---- the law

abbrev Said : Code → ℕ → Group → Type 0
Said c k x =
    (x.types ≡ length (code_group c k).types)
    × ((x.energies ≡ length (code_group c k).energies) × (x.abundance.value ≡ (code_group c k).abundance))

group-said : (c : Code) → Good c → (k : ℕ) → Said c k (group_of (write c) (suc k))
unfolding group_of
group-said c g k = by-test (has_group (write c) (suc k)) refl
  where
    by-test : (t : Bool) → has_group (write c) (suc k) ≡ t
        → Said c k
        (cond t
        (record {
          types = words_in 47 (write c) (types_at (write c) (suc k));
          energies = words_in 47 (write c) (energies_at (write c) (suc k));
          abundance = number_in (write c) (abundance_at (write c) (suc k));
        })
        NO-GROUP)
    by-test true e = (types-count c g k, (energies-count c g k, abundance-value c g k))
    by-test false e =
        let n = sym (group-none c g k e) in (
          ap (λ (x : CodeGroup). length x.types) n,
          (ap (λ (x : CodeGroup). length x.energies) n, ap (λ (x : CodeGroup). x.abundance) n),
        )

group-says : (c : Code) → Good c → (k : ℕ) → GroupSays (write c) c k
group-says c g k =
    let l = write c in
    let s : k + 1 ≡ suc k = omega arith in
    let (t, (e, a)) = group-said c g k in
    record {
      types = ap (λ (n : ℕ). (group_of l n).types) s ∙ t;
      energies = ap (λ (n : ℕ). (group_of l n).energies) s ∙ e;
      abundance = ap (λ (n : ℕ). (group_of l n).abundance.value) s ∙ a;
      each_type = λ i.
          let j : i + 1 ≡ suc i = omega arith in
          (λ h. text_in l (type_of l (s h) (j h))) ∙ each_type c g k i;
      each_energy = λ i.
          let j : i + 1 ≡ suc i = omega arith in
          (λ h. (energy_of l (s h) (j h)).value) ∙ each_energy c g k i;
    }

pub groups-right : GroupsRight
groups-right l c s k = subst (λ (m : List ℕ). GroupSays m c k) s.same (group-says c s.good k)
