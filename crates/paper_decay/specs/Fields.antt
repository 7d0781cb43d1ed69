-- The fields of a code, and its run (document 02, M-106): "numbers save the flag by their canonical field's characters,
-- the rest as it was; the run reads to the same fields".
use Rattle.std.specs.Prelude.{Bool, true, false, List, [], ◌∷◌, ◌++◌, map, ℕ, eqb, take, drop}
use Rattle.paper_number.specs.declared.types.Reading.{Reading}
use Rattle.paper_number.specs.declared.types.Reading.TheVariants.{Blank, Number, Refused}
use Rattle.paper_number.specs.Reading.{read_field}
use Rattle.paper_canonical.specs.Canonical.{one_more}
use Rattle.paper_canonical.specs.Closed.{canonical_text}
use Rattle.paper_record.specs.Text.{is_capital}
use Rattle.paper_decay.specs.Code.{Sort, half_life, types, energies, abundance, after, Place, split, Nuclide, Code, write}

-- ---- the cuts

-- how many characters stand before the capitals at the end
abbrev pub front : List ℕ → ℕ
front [] = 0
front (b ∷ l) = one_more (front l) (is_capital b)

abbrev pub number_of : List ℕ → List ℕ
number_of l = take (front l) l

abbrev pub unit_of : List ℕ → List ℕ
unit_of l = drop (front l) l

-- a character more before the first word
abbrev pub longer : ℕ → List (List ℕ) → List (List ℕ)
longer b [] = (b ∷ []) ∷ []
longer b (w ∷ ws) = (b ∷ w) ∷ ws

-- a character before what follows: it ends a word, or is one of the first
abbrev pub cut_step : Bool → ℕ → List (List ℕ) → List (List ℕ)
cut_step true b ws = [] ∷ ws
cut_step false b ws = longer b ws

-- the words between the places of a character, one more than it has places
abbrev pub cut_at : ℕ → List ℕ → List (List ℕ)
cut_at c [] = [] ∷ []
cut_at c (b ∷ l) = cut_step (eqb b c) b (cut_at c l)

-- the words between the slashes; an empty place has none
abbrev pub words_of : List ℕ → List (List ℕ)
words_of [] = []
words_of (b ∷ l) = cut_at 47 (b ∷ l)

-- ---- the fields

pub record Group : Type 0 where
  pub types : List (List ℕ)
  pub energies : List Reading
  pub abundance : Reading

abbrev pub group : List ℕ → List ℕ → List ℕ → Group
group t e a = record { types = words_of t; energies = map read_field (words_of e); abundance = read_field a }

-- three places each; at the end of a code places are left out
abbrev pub groups_of : List Place → List Group
groups_of [] = []
groups_of (t ∷ []) = group t.said [] [] ∷ []
groups_of (t ∷ e ∷ []) = group t.said e.said [] ∷ []
groups_of (t ∷ e ∷ a ∷ ps) = group t.said e.said a.said ∷ groups_of ps

pub record Fields : Type 0 where
  pub flag : List ℕ
  pub nuclide : Nuclide
  pub half : Reading
  pub unit : List ℕ
  pub groups : List Group

abbrev pub fields_from : List ℕ → Nuclide → List Place → Fields
fields_from f n [] = record { flag = f; nuclide = n; half = Blank; unit = []; groups = [] }
fields_from f n (h ∷ ps) =
    record { flag = f; nuclide = n; half = read_field (number_of h.said); unit = unit_of h.said; groups = groups_of ps }

unfoldable pub fields_of : Code → Fields
fields_of c = fields_from c.flag c.nuclide c.places

-- ---- the run

-- the canonical characters of what is read; what is no number stays
abbrev pub canonical_by : Reading → List ℕ → List ℕ
canonical_by Blank l = l
canonical_by (Number v) l = canonical_text v
canonical_by (Refused n) l = l

unfoldable pub canonical_number : List ℕ → List ℕ
canonical_number l = canonical_by (read_field l) l

abbrev pub canonical_said : Sort → List ℕ → List ℕ
canonical_said half_life l = canonical_number (number_of l) ++ unit_of l
canonical_said types l = l
canonical_said energies l = split 47 (map canonical_number (words_of l))
canonical_said abundance l = canonical_number l

abbrev pub canonical_places : Sort → List Place → List Place
canonical_places s [] = []
canonical_places s (p ∷ ps) = record { lead = p.lead; said = canonical_said s p.said } ∷ canonical_places (after s) ps

unfoldable pub canonical_code : Code → Code
canonical_code c =
    record { flag = c.flag; lead = c.lead; nuclide = c.nuclide; places = canonical_places half_life c.places }

unfoldable pub run_of : Code → List ℕ
run_of c = write (canonical_code c)
