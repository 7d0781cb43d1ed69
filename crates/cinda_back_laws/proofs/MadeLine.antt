-- A made line, checked and written back by computing.
-- Assumes nothing.
use Rattle.paper_faults.specs.Fault.{faultless}
use Prim.Native.Nat.{ℕ, ◌+◌, ◌<◌}
use mathlib.Core.Path.{◌≡◌, refl, sym, ◌∙◌, ap}
use mathlib.Core.Bool.{true}
use mathlib.Core.List.{[]}
use lib.ListN.{take, get_or}
use lib.Seq.{get_or-take}
use Rattle.laws.specs.Search.{first}
use Rattle.laws.specs.Members.{any_of}
use Rattle.laws.specs.Blocks.{blocks, joined}
use Rattle.laws.proofs.Table.{at}
use Rattle.paper_faults.proofs.NoColumns.{none-where}
use Rattle.paper_number.specs.Reading.{read_field, finish}
use Rattle.paper_number.specs.Value.{trim_from, trim, value_of}
use Rattle.paper_number.specs.Grammar.{write}
use Rattle.paper_number.specs.Count.{count_from, count}
use Rattle.paper_number.specs.Digits.{digit_count, field_read}
use Rattle.paper_canonical.specs.Replacing.{canonical}
use Rattle.paper_canonical.specs.Closed.{digits_n, shift, layout_up, layout_down, laid_out, shortest, canonical_text}
use Rattle.paper_canonical.specs.Closed.{canonical_field}
use Rattle.paper_record.specs.Class.{is_permitted, not_permitted}
use Rattle.paper_record.specs.Word.{equal_to}
use Rattle.paper_record.specs.System.{digits_in, number_in, integer_of}
use Rattle.paper_record.proofs.NumberFields.{true_of}
use Rattle.paper_cinda.specs.declared.types.LinesAnswer.{LinesAnswer}
use Rattle.paper_cinda.specs.Rules.{rule71, rule72, rule73, rule74, rule75, rule76, rule77, is_operation, is_many, good_z}
use Rattle.paper_cinda.specs.Rules.{good_mass, good_isomer, good_block, good_date, line_fault}
use Rattle.paper_cinda.specs.Check.{good_length, GoodLines}
use Rattle.paper_cinda.specs.Apart.{line_of}
use Rattle.paper_cinda.specs.Back.{line_back, lines_back}
use Rattle.cinda_back_laws.specs.Back.{made_line, made_back, CountLeftOut}
use Rattle.cinda_back_laws.proofs.GoodLine.{none-fine}
use Rattle.cinda_back_laws.proofs.GoodFile.{lined-check}

letters : (k : ℕ) → k < 125 → is_permitted (get_or made_line k 0) ≡ true
unfolding is_permitted any_of
letters k h =
    ap is_permitted (sym (get_or-take 125 made_line k 0 h))
    ∙ true_of (is_permitted (get_or (take 125 made_line) k 0)) (at (λ j b. is_permitted b) (take 125 made_line) tt k h)

characters : rule72 made_line ≡ []
unfolding rule72
characters = none-where (not_permitted made_line) (λ i. i + 1) 125 (λ k h. rw (letters k h) refl)

fine : line_fault made_line ≡ faultless
unfolding rule71 rule73 rule74 rule75 rule76 rule77 is_operation is_many good_z good_mass good_isomer good_block good_date
    first trim_from trim value_of finish read_field equal_to digits_in number_in integer_of
fine =
    none-fine made_line
    (record {
      none71 = refl;
      none72 = characters;
      none73 = refl;
      none74 = refl;
      none75 = refl;
      none76 = refl;
      none77 = refl;
    })

good : GoodLines made_line
unfolding blocks good_length
good = record { good = ap (λ (x : LinesAnswer). x.number) (lined-check made_line refl (fine, tt)) }

back : lines_back made_line ≡ made_back
unfolding lines_back line_back joined blocks read_field finish trim_from trim value_of write count_from count canonical digits_n shift
    layout_up laid_out layout_down shortest canonical_text canonical_field
back = refl

pub count_left_out : CountLeftOut
unfolding line_of field_read digit_count finish trim_from trim count_from count
count_left_out = record { good = good; back = back; two = refl; one = refl }
