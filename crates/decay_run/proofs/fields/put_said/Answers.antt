use mathlib.Core.Path.{◌≡◌}
use mathlib.Core.Bool.{true}
use borrow.Author.Tests.{eq-eqb, ne_eqb}
use lib.Dec.{eqb}
use Rattle.paper_decay_run.specs.Run.{run_said}
use Rattle.decay_run.proofs.fields.put_said.Goals as goal

pub returns-then-place-eq1 : goal.returns-then-place-eq1
unfolding run_said
returns-then-place-eq1 c =
    let one : eqb c.args.place 1 ≡ true = eq-eqb _ _ c.if-place-eq1.true in
    record {
      out_after = rw one c.put_half.ensures.out_after;
      value = rw one c.put_half.ensures.value;
    }

pub returns-then-place-eq3 : goal.returns-then-place-eq3
unfolding run_said
returns-then-place-eq3 c =
    let three : eqb c.args.place 3 ≡ true = eq-eqb _ _ c.if-place-eq3.true in
    record {
      out_after = rw (ne_eqb _ _ c.if-place-eq1.false, three) c.put_energies.ensures.out_after;
      value = rw (ne_eqb _ _ c.if-place-eq1.false, three) c.put_energies.ensures.value;
    }

pub returns-then-place-eq4 : goal.returns-then-place-eq4
unfolding run_said
returns-then-place-eq4 c =
    let four : eqb c.args.place 4 ≡ true = eq-eqb _ _ c.if-place-eq4.true in
    record {
      out_after = rw (ne_eqb _ _ c.if-place-eq1.false, ne_eqb _ _ c.if-place-eq3.false, four) c.put_number.ensures.out_after;
      value = rw (ne_eqb _ _ c.if-place-eq1.false, ne_eqb _ _ c.if-place-eq3.false, four) c.put_number.ensures.value;
    }

pub returns : goal.returns
unfolding run_said
returns c =
    record {
      out_after = rw (ne_eqb _ _ c.if-place-eq1.false, ne_eqb _ _ c.if-place-eq3.false, ne_eqb _ _ c.if-place-eq4.false) c.put_kept.ensures.out_after;
      value = rw (ne_eqb _ _ c.if-place-eq1.false, ne_eqb _ _ c.if-place-eq3.false, ne_eqb _ _ c.if-place-eq4.false) c.put_kept.ensures.value;
    }
