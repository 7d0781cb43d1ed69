use mathlib.Core.Path.{◌≡◌, ap, sym, ◌∙◌}
use native.Mathlib.Omega.{arith}
use lib.Seq.{take-length}
use Rattle.paper_decay.specs.Fields.{front}
use Rattle.decay_words.proofs.Cutting.{front-stop, front_less}
use Rattle.decay_words.proofs.words.front_of.Goals as goal

pub loop-n-init : goal.loop-n-init
loop-n-init c = (omega arith, sym (ap front (take-length c.args.text.now)))

pub returns-then-not-is_capital : goal.returns-then-not-is_capital
returns-then-not-is_capital c =
    let text = c.args.text.now in
    let n = c.loop-n.n in
    let inv = c.loop-n.invariant in
    let e = front-stop text n (omega arith) inv.0 (sym c.is_capital.ensures ∙ c.if-not-is_capital.true) in
    record {
      value = sym (inv.1 ∙ e);
      upper_bound = inv.0;
    }

pub loop-n-preserved : goal.loop-n-preserved
loop-n-preserved c =
    let text = c.args.text.now in
    let n = c.loop-n.n in
    let inv = c.loop-n.invariant in
    let e = front_less text n (omega arith) inv.0 (sym c.is_capital.ensures ∙ c.if-not-is_capital.false) in
    (omega arith, inv.1 ∙ e)

pub returns : goal.returns
returns c =
    let n = c.loop-n.n in
    let z : n ≡ 0 = omega arith in
    record {
      value = sym (rw z at c.loop-n.invariant.1);
      upper_bound = omega arith;
    }
