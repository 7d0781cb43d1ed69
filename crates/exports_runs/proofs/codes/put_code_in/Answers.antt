use Prim.Native.Nat.{ℕ}
use mathlib.Core.Path.{◌≡◌, sym, ap, ◌∙◌}
use mathlib.Core.List.{[], ◌∷◌}
use Rattle.paper_codes.specs.Asked.{answer_in}
use Rattle.exports_words.specs.Words.{lent_after}
use Rattle.exports_parts.specs.Questions.{number_stored}
use Rattle.exports_runs.specs.Codes.{code_word, length_stored}
use Rattle.exports_runs.proofs.Rooms.{number-in}
use Rattle.exports_runs.proofs.codes.put_code_in.Goals as goal

pub returns : goal.returns
unfolding code_word length_stored number_stored
returns c =
    let d = c in
    let g = d.args in
    let a = d.in_hand-answer.ensures in
    let p = c.put_number.ensures in
    let n : d.in_hand-answer.result.number ≡ (answer_in 0 g.x).number = a.number_value ∙ sym (number-in 0 g.x) in
    record {
      value = p.value ∙ a.result_value;
      long_after = p.out_after ∙ ap (λ (n : ℕ). lent_after n g.long.now (g.x.length ∷ [])) n;
    }
