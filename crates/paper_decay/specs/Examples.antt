-- The manuals' own codes (000, ch. 8; 004, appendix B), and one of them with more digits in its numbers: one table, one
-- statement, computed.
use Rattle.std.specs.Prelude.{◌≡◌, refl, Bool, true, false, ◌&&◌, List, [], ◌∷◌, map, ℕ, ◌+◌, eqb, length}
use Prim.Native.String.{String}
use Rattle.laws.specs.Turns.{run}
use Rattle.paper_number.specs.Grammar as Number
use Rattle.paper_number.specs.Value.{trim_from, trim, value_of}
use Rattle.paper_number.specs.Reading.{finish, read_field}
use Rattle.paper_number.specs.Count.{count_from, count}
use Rattle.paper_canonical.specs.Closed.{digits_n, shift, layout_up, layout_down, laid_out, shortest, canonical_text}
use Rattle.paper_record.specs.Text.{text}
use Rattle.paper_decay.specs.Characters.{is_type}
use Rattle.paper_decay.specs.Scan.{need_of, next_of, number_next, number_whole, number_more, digits_next}
use Rattle.paper_decay.specs.Scan.{flag_digits, before_nuclide, flag_step, digits_step, symbol_step, nuclide_step, head_step}
use Rattle.paper_decay.specs.Scan.{unit_step, mark_step, behind_number, half_number_step, half_step, type_step, numbers_step}
use Rattle.paper_decay.specs.Scan.{place_step, field_step, inside_step, head_whole, is_whole, is_empty, is_flag_point}
use Rattle.paper_decay.specs.Scan.{close_step, next_place, comma_step, step_of, text_turn, fresh, scan_text}
use Rattle.paper_decay.specs.Code.{Isomer, unsaid, ground_state, metastable, Nuclide, Place, Code, write}
use Rattle.paper_decay.specs.Fields.{canonical_number, canonical_code, run_of}

abbrev nuclide : List ℕ → String → List ℕ → Isomer → Nuclide
nuclide z s a x = record { z = z; symbol = text s; a = a; isomer = x }

-- without blanks before it, and with one
abbrev bare : String → Place
bare s = record { lead = 0; said = text s }

abbrev spaced : String → Place
spaced s = record { lead = 1; said = text s }

abbrev made : List ℕ → Nuclide → List Place → Code
made f n ps = record { flag = f; lead = 0; nuclide = n; places = ps }

-- what is written, its parts, and its run
pub record Row : Type 0 where
  pub said : String
  pub parts : Code
  pub becomes : String

abbrev row : String → String → Code → Row
row s r c = record { said = s; parts = c; becomes = r }

abbrev pub rows : List Row
rows =
    row "(40-ZR-89-M)" "(40-ZR-89-M)" (made [] (nuclide (4 ∷ 0 ∷ []) "ZR" (8 ∷ 9 ∷ []) metastable) [])
    ∷ row "(60-ND-140,3.3D)" "(60-ND-140,3.3D)" (made [] (nuclide (6 ∷ 0 ∷ []) "ND" (1 ∷ 4 ∷ 0 ∷ []) unsaid) (bare "3.3D" ∷ []))
    ∷ row "(59-PR-140, ,B+/EC, ,0.500)" "(59-PR-140, ,B+/EC, ,.5)"
    (made [] (nuclide (5 ∷ 9 ∷ []) "PR" (1 ∷ 4 ∷ 0 ∷ []) unsaid)
    (spaced "" ∷ bare "B+/EC" ∷ spaced "" ∷ bare "0.500" ∷ []))
    ∷ row "(25-MN-50-G, 0.286SEC, B+, 6610.)" "(25-MN-50-G, .286SEC, B+, 6610.)"
    (made [] (nuclide (2 ∷ 5 ∷ []) "MN" (5 ∷ 0 ∷ []) ground_state) (spaced "0.286SEC" ∷ spaced "B+" ∷ spaced "6610." ∷ []))
    ∷ row "(25-MN-50-M,1.76MIN,DG,785.,,B+)" "(25-MN-50-M,1.76MIN,DG,785.,,B+)"
    (made [] (nuclide (2 ∷ 5 ∷ []) "MN" (5 ∷ 0 ∷ []) metastable)
    (bare "1.76MIN" ∷ bare "DG" ∷ bare "785." ∷ bare "" ∷ bare "B+" ∷ []))
    ∷ row "((1.)60-ND-138,5.04HR,DG,328.,0.065)" "((1.)60-ND-138,5.04HR,DG,328.,.065)"
    (made (1 ∷ []) (nuclide (6 ∷ 0 ∷ []) "ND" (1 ∷ 3 ∷ 8 ∷ []) unsaid)
    (bare "5.04HR" ∷ bare "DG" ∷ bare "328." ∷ bare "0.065" ∷ []))
    ∷ row "(60-ND-139-M,5.5HR,DG,708./738.,0.64)" "(60-ND-139-M,5.5HR,DG,708./738.,.64)"
    (made [] (nuclide (6 ∷ 0 ∷ []) "ND" (1 ∷ 3 ∷ 9 ∷ []) metastable)
    (bare "5.5HR" ∷ bare "DG" ∷ bare "708./738." ∷ bare "0.64" ∷ []))
    ∷ row "(60-ND-139-M,05.50HR,DG,0708./738.0,0.640)" "(60-ND-139-M,5.5HR,DG,708./738.,.64)"
    (made [] (nuclide (6 ∷ 0 ∷ []) "ND" (1 ∷ 3 ∷ 9 ∷ []) metastable)
    (bare "05.50HR" ∷ bare "DG" ∷ bare "0708./738.0" ∷ bare "0.640" ∷ []))
    ∷ []

abbrev wrote : Row → List ℕ
wrote r = write r.parts

abbrev said : Row → List ℕ
said r = text r.said

-- the scan closes the text at its last character
abbrev closes : Row → Bool
closes r =
    eqb (scan_text (said r) (fresh 0 false)).scan.place 5
    && eqb ((scan_text (said r) (fresh 0 false)).at + 1) (length (said r))

abbrev yes : Row → Bool
yes r = true

abbrev ran : Row → List ℕ
ran r = run_of r.parts

abbrev runs : Row → List ℕ
runs r = text r.becomes

pub runs_right : map ran rows ≡ map runs rows
unfolding run_of canonical_code canonical_number write finish read_field trim_from trim value_of Number.write count_from count digits_n shift
    layout_up layout_down laid_out shortest canonical_text
runs_right = refl

pub rows_right : (map wrote rows ≡ map said rows) × (map closes rows ≡ map yes rows)
unfolding write run scan_text text_turn step_of comma_step close_step is_flag_point inside_step field_step place_step head_step flag_step
    before_nuclide nuclide_step digits_step symbol_step flag_digits digits_next half_step half_number_step behind_number mark_step unit_step
    type_step numbers_step number_more number_next number_whole need_of next_of is_whole is_empty head_whole next_place is_type
rows_right = (refl, refl)
