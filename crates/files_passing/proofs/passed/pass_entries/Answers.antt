use Rattle.paper_files.proofs.PlainParts.{first-begun}
use Rattle.files_passing.proofs.Passing.{passing-start, passing-stopped, passing-more, passing-done}
use Prim.Native.Nat.{◌-◌}
use mathlib.Core.Path.{◌∙◌, sym}
use native.Mathlib.Omega.{arith}
use borrow.Author.Rules.{rules}
use Rattle.files_passing.proofs.passed.pass_entries.Goals as goal

pub loop-entries-init : goal.loop-entries-init
loop-entries-init c = passing-start _ _

pub returns-then-n-eq0 : goal.returns-then-n-eq0
returns-then-n-eq0 c =
    let k = c.loop-entries.invariant in
    record {
      value = passing-stopped _ k (sym c.entry_length-n.ensures.value ∙ c.if-n-eq0.true);
      at_bound = k.inside;
    }

pub overflow_add-at : goal.overflow_add-at
overflow_add-at c = let e = c.entry_length-n.ensures in let f = first-begun _ _ (λ z. c.if-n-eq0.false (e.value ∙ z)) in let u = e.at_in_bounds in search rules

pub loop-entries-preserved : goal.loop-entries-preserved
loop-entries-preserved c = let e = c.entry_length-n.ensures in passing-more _ c.loop-entries.invariant _ e.value c.if-n-eq0.false e.at_in_bounds c.loop-entries-test.true

pub returns : goal.returns
returns c = let k = c.loop-entries.invariant in
    record {
      value = passing-done _ k (λ h. omega arith);
      at_bound = k.inside;
    }
