use Rattle.files_step.proofs.Over.{outside-gone}
use Rattle.files_step.proofs.Along.{record-whole}
use mathlib.Core.Path.{◌∙◌, sym}
use native.Mathlib.Nat.{add-sub_cancel_left}
use native.Mathlib.Omega.{arith}
use borrow.Author.Rules.{rules}
use Rattle.files_step.proofs.step.onward.Goals as goal

pub overflow_mul-from : goal.overflow_mul-from
overflow_mul-from c = let w = c.requires.along.whole in let t = c.requires.there in let f = c.requires.along.few in search rules

pub overflow_add-past : goal.overflow_add-past
overflow_add-past c = let w = c.requires.along.whole in let t = c.requires.there in let f = c.requires.along.few in search rules

pub slice_bounds-role_of-end : goal.slice_bounds-role_of-end
slice_bounds-role_of-end c = let w = c.requires.along.whole in let t = c.requires.there in search rules

pub role_of-role-requires : goal.role_of-role-requires
role_of-role-requires c =
    rw add-sub_cancel_left (record-whole c.requires.along c.requires.there)

pub over_entry-requires : goal.over_entry-requires
over_entry-requires c =
    record {
      ahead = c.requires;
      records_value = rw add-sub_cancel_left at (sym c.role_of-role.ensures ∙ c.if-role-eq-OF_ENTRY.true);
    }

pub returns-then-role-eq-OF_ENTRY : goal.returns-then-role-eq-OF_ENTRY
returns-then-role-eq-OF_ENTRY c = c.over_entry.ensures

pub slice_bounds-step_outside-end : goal.slice_bounds-step_outside-end
slice_bounds-step_outside-end c = let w = c.requires.along.whole in let t = c.requires.there in search rules

pub step_outside-requires : goal.step_outside-requires
step_outside-requires c =
    record {
      whole = rw add-sub_cancel_left (record-whole c.requires.along c.requires.there);
      records_bound = omega (arith, c.requires.there, c.requires.along.few);
    }

pub returns : goal.returns
returns c = outside-gone c.requires c.role_of-role.result (rw add-sub_cancel_left at c.role_of-role.ensures) c.if-role-eq-OF_ENTRY.false c.step_outside.result (rw add-sub_cancel_left at c.step_outside.ensures)
