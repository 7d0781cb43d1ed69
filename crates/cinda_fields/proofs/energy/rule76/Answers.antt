use Rattle.paper_cinda.specs.Rules.{rule76}
use Rattle.paper_record.specs.Numbers.{form_at, no_value}
use Rattle.paper_cinda.specs.Layout.{energy_at}
use mathlib.Core.Bool.{true}
use mathlib.Core.Path.{◌≡◌, refl}
use Rattle.cinda_fields.proofs.energy.rule76.Goals as goal

pub returns-then-is_bad_energy : goal.returns-then-is_bad_energy
unfolding rule76
returns-then-is_bad_energy c = rw (← c.is_bad_energy.ensures, c.if-is_bad_energy.true) refl

pub returns-then-is_bad_energy-2 : goal.returns-then-is_bad_energy-2
unfolding rule76
returns-then-is_bad_energy-2 c =
    let l = c.args.line.now in
    let e : c.is_bad_energy-2.result ≡ no_value true (form_at (energy_at l 49)) = c.is_bad_energy-2.ensures in
    rw (← c.is_bad_energy.ensures, c.if-is_bad_energy.false, ← e, c.if-is_bad_energy-2.true) refl

pub returns : goal.returns
unfolding rule76
returns c =
    let l = c.args.line.now in
    let e : c.is_bad_energy-2.result ≡ no_value true (form_at (energy_at l 49)) = c.is_bad_energy-2.ensures in
    rw (← c.is_bad_energy.ensures, c.if-is_bad_energy.false, ← e, c.if-is_bad_energy-2.false) refl
