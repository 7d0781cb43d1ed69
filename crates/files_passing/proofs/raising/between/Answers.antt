use Rattle.files_passing.proofs.Between.{none_between, none-behind, all-behind}
use mathlib.Core.Path.{refl}
use Rattle.files_passing.proofs.raising.between.Goals as goal

pub returns-then-past-first : goal.returns-then-past-first
returns-then-past-first c = none_between _ _ _ c.if-past-first.true

pub returns-then-n-first : goal.returns-then-n-first
returns-then-n-first c = none-behind _ _ _ c.if-n-first.true

pub returns-then-n-past : goal.returns-then-n-past
returns-then-n-past c = all-behind _ _ _ c.if-n-past.true

pub returns : goal.returns
returns c = refl
