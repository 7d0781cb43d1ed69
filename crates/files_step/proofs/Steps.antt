-- A record of an entry takes the step of its judge, any other that outside entries.
-- Assumes nothing.
use Rattle.std.specs.Prelude.{Ok, Err}
use Prim.Native.Nat.{ℕ, ◌<◌}
use mathlib.Core.Path.{◌≡◌, refl, sym, ◌∙◌}
use mathlib.Core.List.{List}
use borrow.Author.Tests.{ne_eqb}
use Rattle.paper_rules.specs.Roles.{Role}
use Rattle.paper_faults.specs.Fault.{first_fault, Checked}
use Rattle.paper_rules.specs.Limits.{MOST-RECORDS}
use Rattle.paper_rules.specs.Order.{fault_of}
use Rattle.entry_step.specs.ByRanges.{context_of as entry_of, step_for as entry_step, step_as, step_of}
use Rattle.entry_walk.specs.First.{found_in}
use Rattle.paper_files.specs.Outside.{outside_fault}
use Rattle.paper_files.specs.File.{OF-ENTRY, file_role, file_findings}
use Rattle.paper_files.specs.Numbers.{numbers_of}
use Rattle.paper_files.proofs.Roles.{role-numbers, role-room}
use Rattle.files_state.specs.declared.state.File.{File}
use Rattle.files_state.specs.ByNumbers.{context_of, behind_state, judge_behind, next_state, step_for, entered, step_entry}
use Rattle.files_state.specs.ByNumbers.{step_outside, file_step_of, own_records}

module _ (before : List ℕ) (f : File) (r : List ℕ) (role : Role)
    (same : role ≡ file_role (numbers_of f.stage f.entries f.judge.track.records) r) where
  role-here : file_role (context_of before f) r ≡ role
  role-here = role-numbers (context_of before f) r ∙ sym same

  pub entry-few : role ≡ OF-ENTRY → own_records f < MOST-RECORDS
  entry-few e = role-room (context_of before f) r (role-here ∙ e)

  pub entry-step : role ≡ OF-ENTRY → step_entry before f r ≡ file_step_of before f r
  unfolding file_step_of next_state file_findings step_entry step_of step_as fault_of
  entry-step e = rw (role-here, e) (by-fault (first_fault (found_in (entry_of before f.judge) r)))
    where
      by-fault : (x : Checked)
          → let n = judge_behind before f.judge r in
          entered f (entry_step x n) ≡ step_for x f (behind_state f n)
      by-fault (Ok u) = refl
      by-fault (Err fault) = refl

  pub outside-step : (role ≡ OF-ENTRY → ⊥) → step_outside role f r ≡ file_step_of before f r
  unfolding file_step_of next_state file_findings step_outside outside_fault
  outside-step e = rw (role-here, ne_eqb _ _ e) refl
