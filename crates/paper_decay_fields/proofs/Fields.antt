-- The fields of a code's characters are its head and what its places say, blanks left out.
-- Assumes nothing.
use mathlib.Core.Path.{◌≡◌, refl, ap, ◌∙◌}
use mathlib.Core.List.{List, [], ◌∷◌, ◌++◌, map}
use mathlib.Core.Logic.{inl}
use Prim.Native.Nat.{ℕ, zero, suc, ◌*◌, ◌/◌}
use native.Mathlib.Omega.{arith}
use lib.ListN.{length, get_or, drop, length-replicate}
use lib.Seq.{drop_at}
use Rattle.paper_number.specs.declared.types.Reading.TheVariants.{Blank}
use Rattle.paper_number.specs.Grammar.{blanks}
use Rattle.paper_number.specs.Reading.{finish, read_field}
use Rattle.paper_decay.specs.Code.{Sort, half_life, types, energies, abundance, after, Place, Fits, EmptyOr, Fitting, behind_first}
use Rattle.paper_decay.specs.Code.{Nuclide, Code, write, Good}
use Rattle.paper_decay.specs.Fields.{number_of, unit_of, group, groups_of, fields_from}
use Rattle.paper_decay.proofs.Cuts.{Stops, Blank as IsBlank}
use Rattle.paper_decay_run.specs.Run.{lead_of}
use Rattle.paper_decay_run.proofs.Fields.{lead-blanks, said-stops}
use Rattle.paper_decay_run.proofs.Codes.{head_text, place_text, fields-of}
use Rattle.paper_decay_fields.specs.Parts.{text_in, field_at}
use Rattle.paper_decay_fields.specs.Asked.{groups_in}
use Rattle.paper_decay_fields.specs.Claims.{NO-FIELDS}
use Rattle.paper_decay_fields.proofs.Words.{unled, field-text}

-- nothing reads to a blank
pub none-blank : read_field [] ≡ Blank
unfolding read_field finish
none-blank = refl

pub unled-blanks : (n : ℕ) (l : List ℕ) → Stops IsBlank l → unled (blanks n ++ l) ≡ l
unled-blanks n l h =
    ap (λ (k : ℕ). drop k (blanks n ++ l)) (lead-blanks n l h) ∙ drop_at (blanks n) l n (length-replicate n 32)

-- ---- what the places say

-- empty where there is none
abbrev pub said_at : List Place → ℕ → List ℕ
said_at [] j = []
said_at (p ∷ ps) zero = p.said
said_at (p ∷ ps) (suc j) = said_at ps j

unled-none : unled [] ≡ []
unfolding lead_of
unled-none = refl

unled-places : (s : Sort) (ps : List Place) (j : ℕ) → Fitting s ps → unled (get_or (map place_text ps) j []) ≡ said_at ps j
unled-places s [] j h = unled-none
unled-places s (p ∷ ps) zero h = unled-blanks p.lead p.said (said-stops s p.said h.0)
unled-places s (p ∷ ps) (suc j) h = unled-places (after s) ps j h.1

unled-head : (c : Code) → unled (head_text c) ≡ head_text c
unfolding lead_of
unled-head c = refl

pub head-text : (c : Code) → Good c → text_in (write c) (field_at (write c) 0) ≡ head_text c
head-text c g =
    field-text (write c) 0 ∙ ap (λ (ws : List (List ℕ)). unled (get_or ws 0 [])) (fields-of c g) ∙ unled-head c

pub place-text : (c : Code) → Good c → (j : ℕ) → text_in (write c) (field_at (write c) (suc j)) ≡ said_at c.places j
place-text c g j =
    field-text (write c) (suc j)
    ∙ ap (λ (ws : List (List ℕ)). unled (get_or ws (suc j) [])) (fields-of c g)
    ∙ unled-places half_life c.places j g.places.fitting

-- ---- three places each

abbrev pub three : ℕ → ℕ
three zero = 0
three (suc k) = suc (suc (suc (three k)))

pub three-is : (k : ℕ) → three k ≡ 3 * k
three-is zero = refl
three-is (suc k) = let e = three-is k in omega arith

pub said-behind : (ps : List Place) (j : ℕ) → said_at ps (suc j) ≡ said_at (behind_first ps) j
said-behind [] j = refl
said-behind (p ∷ ps) j = refl

pub group_at : (ps : List Place) (k : ℕ)
    → get_or (groups_of ps) k NO-FIELDS
    ≡ group (said_at ps (three k)) (said_at ps (suc (three k))) (said_at ps (suc (suc (three k))))
unfolding read_field finish
group_at [] k = refl
group_at (t ∷ []) zero = refl
group_at (t ∷ []) (suc k) = refl
group_at (t ∷ e ∷ []) zero = refl
group_at (t ∷ e ∷ []) (suc k) = refl
group_at (t ∷ e ∷ a ∷ ps) zero = refl
group_at (t ∷ e ∷ a ∷ ps) (suc k) = group_at ps k

-- what the places of a group may say
pub record Three (t e a : List ℕ) : Type 0 where
  pub typed : EmptyOr (Fits types) t
  pub energetic : EmptyOr (Fits energies) e
  pub abundant : EmptyOr (Fits abundance) a

pub group-fits : (ps : List Place) (k : ℕ) → Fitting types ps
    → Three (said_at ps (three k)) (said_at ps (suc (three k))) (said_at ps (suc (suc (three k))))
group-fits [] k h = record { typed = inl refl; energetic = inl refl; abundant = inl refl }
group-fits (t ∷ []) zero h = record { typed = h.0; energetic = inl refl; abundant = inl refl }
group-fits (t ∷ []) (suc k) h = record { typed = inl refl; energetic = inl refl; abundant = inl refl }
group-fits (t ∷ e ∷ []) zero h = record { typed = h.0; energetic = h.1.0; abundant = inl refl }
group-fits (t ∷ e ∷ []) (suc k) h = record { typed = inl refl; energetic = inl refl; abundant = inl refl }
group-fits (t ∷ e ∷ a ∷ ps) zero h = record { typed = h.0; energetic = h.1.0; abundant = h.1.1.0 }
group-fits (t ∷ e ∷ a ∷ ps) (suc k) h = group-fits ps k h.1.1.1

pub behind-fits : (ps : List Place) → Fitting half_life ps → Fitting types (behind_first ps)
behind-fits [] h = tt
behind-fits (p ∷ ps) h = h.1

-- ---- how many groups there are

pub length-map : {A B : Type 0} (f : A → B) (l : List A) → length (map f l) ≡ length l
length-map f [] = refl
length-map f (x ∷ l) = ap suc (length-map f l)

groups-behind : (ps : List Place) → suc (suc (length ps)) / 3 ≡ length (groups_of ps)
groups-behind [] = refl
groups-behind (t ∷ []) = refl
groups-behind (t ∷ e ∷ []) = refl
groups-behind (t ∷ e ∷ a ∷ ps) = let h = groups-behind ps in omega arith

groups-length : (ps : List Place) → suc (length ps) / 3 ≡ length (groups_of (behind_first ps))
groups-length [] = refl
groups-length (p ∷ ps) = groups-behind ps

pub groups-count : (c : Code) → Good c → groups_in (write c) ≡ length (groups_of (behind_first c.places))
unfolding groups_in
groups-count c g =
    let n = ap length (fields-of c g) in
    let m = length-map place_text c.places in
    let h = groups-length c.places in
    omega arith

-- ---- the code's own fields

pub half-field : (f : List ℕ) (n : Nuclide) (ps : List Place) → read_field (number_of (said_at ps 0)) ≡ (fields_from f n ps).half
half-field f n [] = none-blank
half-field f n (p ∷ ps) = refl

pub unit-field : (f : List ℕ) (n : Nuclide) (ps : List Place) → unit_of (said_at ps 0) ≡ (fields_from f n ps).unit
unit-field f n [] = refl
unit-field f n (p ∷ ps) = refl

pub groups-field : (f : List ℕ) (n : Nuclide) (ps : List Place) → groups_of (behind_first ps) ≡ (fields_from f n ps).groups
groups-field f n [] = refl
groups-field f n (p ∷ ps) = refl

pub flag-field : (f : List ℕ) (n : Nuclide) (ps : List Place) → f ≡ (fields_from f n ps).flag
flag-field f n [] = refl
flag-field f n (p ∷ ps) = refl

pub nuclide-field : (f : List ℕ) (n : Nuclide) (ps : List Place) → n ≡ (fields_from f n ps).nuclide
nuclide-field f n [] = refl
nuclide-field f n (p ∷ ps) = refl
