use Prim.Native.Nat.{◌-◌}
use Rattle.laws.proofs.Search.{scan-all, scan-done, scan-found, scan-next}
use Rattle.paper_index.specs.PassageAnswers.{begun_at, is_under}
use mathlib.Core.Path.{◌∙◌, refl, sym}
use native.Mathlib.Numerals.{add-one}
use native.Mathlib.Omega.{arith}
use Rattle.questions_passages.proofs.passage.begun_at.Goals as goal

pub loop-i-init : goal.loop-i-init
unfolding begun_at is_under
loop-i-init c = (refl, scan-all _)

pub returns-then-is_begun : goal.returns-then-is_begun
unfolding is_under
returns-then-is_begun c =
    record {
      value = scan-found c.loop-i.invariant.1 (omega arith) (rw (← c.loop-i.invariant.0, ← c.text_at-f.ensures, ← c.is_under-under.ensures) (sym c.is_begun.ensures ∙ c.if-is_begun.true));
      upper_bound = omega arith;
    }

pub loop-i-preserved : goal.loop-i-preserved
unfolding is_under
loop-i-preserved c = (rw (add-one, ← c.loop-i.invariant.0, ← c.text_at-f.ensures) c.is_under-under.ensures, scan-next c.loop-i.invariant.1 (omega arith) (rw (← c.loop-i.invariant.0, ← c.text_at-f.ensures, ← c.is_under-under.ensures) (sym c.is_begun.ensures ∙ c.if-is_begun.false)))

pub returns : goal.returns
returns c =
    record {
      value = scan-done c.loop-i.invariant.1 (omega arith);
      upper_bound = omega arith;
    }
