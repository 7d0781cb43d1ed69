-- What a host does with the word and the arrays of a call about a code: the answer that they say.
use Rattle.std.specs.Prelude.{ℕ, ◌+◌, ◌/◌, ◌%◌, ◌^◌, cond, List, eqb, get_or}
use Rattle.paper_decay_fields.specs.declared.types.Part.{Part}
use Rattle.paper_decay_fields.specs.declared.types.NumberPart.{NumberPart}
use Rattle.paper_decay_fields.specs.declared.types.Head.{Head}
use Rattle.paper_decay_fields.specs.declared.types.Group.{Group}
use Rattle.paper_decay_fields.specs.Parts.{part, NO-PART}
use Rattle.paper_decay_fields.specs.Asked.{NO-NUMBER}
use Rattle.paper_codes.specs.declared.types.CodeAnswer.{CodeAnswer}
use Rattle.exports_words.specs.Words.{answer_in}
use Rattle.exports_values.specs.Values.{value_in}

-- ---- fields

-- a place, two numbers from the k-th on
abbrev pub place_in : List ℕ → ℕ → Part
place_in xs k = part (get_or xs k 0) (get_or xs (k + 1) 0)

abbrev pub number_part_in : Part → List ℕ → NumberPart
number_part_in p value = record { part = p; value = value_in value }

-- a refused head has its number and its place alone
unfoldable pub head_said : ℕ → List ℕ → List ℕ → Head
head_said w xs half =
    cond (eqb (w % 2 ^ 8) 0)
    (record {
      number = 0;
      at = 0;
      flag = place_in xs 0;
      z = place_in xs 2;
      symbol = place_in xs 4;
      a = place_in xs 6;
      isomer = place_in xs 8;
      half = number_part_in (place_in xs 10) half;
      unit = place_in xs 12;
      groups = get_or xs 14 0;
    })
    (record {
      number = w % 2 ^ 8;
      at = w / 2 ^ 24;
      flag = NO-PART;
      z = NO-PART;
      symbol = NO-PART;
      a = NO-PART;
      isomer = NO-PART;
      half = NO-NUMBER;
      unit = NO-PART;
      groups = 0;
    })

abbrev pub group_said : List ℕ → List ℕ → Group
group_said xs abundance =
    record { types = get_or xs 0 0; energies = get_or xs 1 0; abundance = number_part_in (place_in xs 2) abundance }

-- ---- a code: its run stands in the bytes that were lent

unfoldable pub code_said : ℕ → List ℕ → CodeAnswer
code_said w xs = record { answer = answer_in w; length = cond (eqb (answer_in w).number 0) (get_or xs 0 0) 0 }
