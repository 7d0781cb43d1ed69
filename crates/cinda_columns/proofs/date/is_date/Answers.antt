use Rattle.cinda_columns.proofs.Shifted.{digits-in-part}
use Rattle.paper_cinda.specs.Rules.{good_date}
use Rattle.paper_record.specs.System.{digits_in}
use mathlib.Core.Path.{◌≡◌, ◌∙◌, refl}
use native.Mathlib.Omega.{arith}
use Rattle.cinda_columns.proofs.date.is_date.Goals as goal

pub returns-then-digits_in : goal.returns-then-digits_in
unfolding good_date
returns-then-digits_in c =
    let l = c.args.line.now in
    let d : c.digits_in.result ≡ digits_in l 79 6 = c.digits_in.ensures
    ∙ rw c.field-f.ensures (digits-in-part 79 11 l 0 6 (omega arith)) in
    rw (← d, c.if-digits_in.true, ← c.month_of.ensures) c.is_within.ensures

pub returns-else-digits_in : goal.returns-else-digits_in
unfolding good_date
returns-else-digits_in c =
    let l = c.args.line.now in
    let d : c.digits_in.result ≡ digits_in l 79 6 = c.digits_in.ensures
    ∙ rw c.field-f.ensures (digits-in-part 79 11 l 0 6 (omega arith)) in
    rw (← d, c.if-digits_in.false) refl
