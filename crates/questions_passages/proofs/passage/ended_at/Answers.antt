use Prim.Native.Nat.{◌-◌}
use Rattle.laws.proofs.Search.{scan-upto, scan-done, scan-found, scan-next}
use Rattle.paper_index.specs.PassageAnswers.{ended_at}
use Rattle.paper_questions.specs.Passage.{begins}
use borrow.Author.Tests.{le-ltb, lt-ltb}
use mathlib.Core.Path.{◌∙◌, refl, sym}
use native.Mathlib.Omega.{arith}
use Rattle.questions_passages.proofs.passage.ended_at.Goals as goal

pub returns-then-p-n : goal.returns-then-p-n
unfolding ended_at
returns-then-p-n c =
    record {
      value = rw (le-ltb c.args.p c.args.n (omega arith)) refl;
      lower_bound = omega arith;
      upper_bound = omega arith;
    }

pub loop-past-init : goal.loop-past-init
unfolding ended_at
loop-past-init c = (omega arith, rw (lt-ltb c.args.p c.args.n (omega arith)) (scan-upto c.args.n (omega arith)))

pub returns-then-begins : goal.returns-then-begins
returns-then-begins c =
    record {
      value = scan-found c.loop-past.invariant.1 (omega arith) (rw (← c.text_at-f.ensures) (sym c.begins.ensures ∙ c.if-begins.true));
      lower_bound = omega arith;
      upper_bound = omega arith;
    }

pub loop-past-preserved : goal.loop-past-preserved
loop-past-preserved c = (omega arith, scan-next c.loop-past.invariant.1 (omega arith) (rw (← c.text_at-f.ensures) (sym c.begins.ensures ∙ c.if-begins.false)))

pub returns : goal.returns
returns c =
    record {
      value = scan-done c.loop-past.invariant.1 (omega arith);
      lower_bound = omega arith;
      upper_bound = omega arith;
    }
