-- What is asked of a code's characters, its run among them (document 02, M-106): "the run reads to the same fields".
-- Groups, types and energies are numbered from 1.
use Rattle.std.specs.Prelude.{Bool, false, cond, ◌&&◌, List, ℕ, ◌+◌, ◌-◌, ◌*◌, ◌/◌, eqb, length}
use Rattle.paper_number.specs.declared.types.Reading.TheVariants.{Blank}
use Rattle.paper_record.specs.Text.{within}
use Rattle.paper_decay.specs.Scan.{fresh, scan_text}
use Rattle.paper_decay.specs.declared.types.Stop.{Stop}
use Rattle.paper_decay_run.specs.Run.{fields_in}
use Rattle.paper_decay_fields.specs.declared.types.Part.{Part}
use Rattle.paper_decay_fields.specs.declared.types.NumberPart.{NumberPart}
use Rattle.paper_decay_fields.specs.declared.types.Head.{Head}
use Rattle.paper_decay_fields.specs.declared.types.Group.{Group}
use Rattle.paper_decay_fields.specs.Parts.{NO-PART, or_none, word_in, words_in, field_at, number_in, flag_at, nuclide_at, half_at, unit_at}

-- ---- is it a code

abbrev pub read : List ℕ → Stop
read l = scan_text l (fresh 0 false)

-- it closes at its last character
unfoldable pub is_code : List ℕ → Bool
is_code l = eqb (read l).scan.place 5 && eqb ((read l).at + 1) (length l)

-- how many characters stand before the first that no code has there; if a whole code stands in front, that is the
-- character behind it
unfoldable pub goes_to : List ℕ → ℕ
goes_to l = cond (eqb (read l).scan.place 5) ((read l).at + 1) (read l).at

-- ---- flag, nuclide, half-life and unit

abbrev pub NO-NUMBER : NumberPart
NO-NUMBER = record { part = NO-PART; value = Blank }

-- the head and the half-life are two fields, so that three go to each group and a group that is begun counts
unfoldable pub groups_in : List ℕ → ℕ
groups_in l = length (fields_in l) / 3

abbrev pub head_in : List ℕ → Head
head_in l =
    record {
      number = 0;
      at = 0;
      flag = or_none (flag_at l);
      z = or_none (word_in 45 l (nuclide_at l) 0);
      symbol = or_none (word_in 45 l (nuclide_at l) 1);
      a = or_none (word_in 45 l (nuclide_at l) 2);
      isomer = or_none (word_in 45 l (nuclide_at l) 3);
      half = number_in l (half_at l);
      unit = or_none (unit_at l);
      groups = groups_in l;
    }

abbrev pub no_head : ℕ → Head
no_head at =
    record {
      number = 50;
      at = at;
      flag = NO-PART;
      z = NO-PART;
      symbol = NO-PART;
      a = NO-PART;
      isomer = NO-PART;
      half = NO-NUMBER;
      unit = NO-PART;
      groups = 0;
    }

unfoldable pub head_of : List ℕ → Head
head_of l = cond (is_code l) (head_in l) (no_head (goes_to l))

-- ---- groups

-- "types, energies and abundance": the group k has the fields 3k - 1, 3k and 3k + 1
abbrev pub types_at : List ℕ → ℕ → Part
types_at l k = field_at l (3 * k - 1)

abbrev pub energies_at : List ℕ → ℕ → Part
energies_at l k = field_at l (3 * k)

abbrev pub abundance_at : List ℕ → ℕ → Part
abundance_at l k = field_at l (3 * k + 1)

unfoldable pub has_group : List ℕ → ℕ → Bool
has_group l k = is_code l && within 1 (groups_in l) k

abbrev pub NO-GROUP : Group
NO-GROUP = record { types = 0; energies = 0; abundance = NO-NUMBER }

unfoldable pub group_of : List ℕ → ℕ → Group
group_of l k =
    cond (has_group l k)
    (record {
      types = words_in 47 l (types_at l k);
      energies = words_in 47 l (energies_at l k);
      abundance = number_in l (abundance_at l k);
    })
    NO-GROUP

-- the type i and the energy i of the group k
unfoldable pub type_of : List ℕ → ℕ → ℕ → Part
type_of l k i =
    cond (has_group l k && within 1 (words_in 47 l (types_at l k)) i) (or_none (word_in 47 l (types_at l k) (i - 1))) NO-PART

unfoldable pub energy_of : List ℕ → ℕ → ℕ → NumberPart
energy_of l k i =
    cond (has_group l k && within 1 (words_in 47 l (energies_at l k)) i)
    (number_in l (word_in 47 l (energies_at l k) (i - 1)))
    NO-NUMBER
