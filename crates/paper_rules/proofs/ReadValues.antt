-- What is read of a value record: its first field at fault, and its numbers.
-- Assumes nothing.
use Prim.Native.Nat.{ℕ, ◌≤◌}
use mathlib.Core.Path.{◌≡◌, ◌∙◌, ap}
use mathlib.Core.Bool.{true}
use mathlib.Core.List.{List}
use native.Mathlib.Omega.{arith}
use Rattle.paper_record.specs.Fields.{first_field}
use Rattle.paper_record.specs.Numbers.{value_fault}
use Rattle.paper_record.specs.declared.types.Values.{Values}
use Rattle.paper_record.proofs.FoundValues.{values-fault, values-few}
use Rattle.paper_rules.specs.declared.types.Track.{Track}
use Rattle.paper_rules.specs.State.{used}
use Rattle.paper_rules.specs.Roles.{is_value}
use Rattle.paper_rules.specs.Values.{optional, values_for}
use Rattle.laws.proofs.EitherWay.{either_way}

pub fault-read : (t : Track) (role : ℕ) (fs : List (List ℕ)) (values : Values) → values ≡ values_for t role fs
    → is_value role ≡ true → values.fault ≡ first_field (value_fault (optional role) (used t)) fs
unfolding values_for
fault-read t role fs values e is =
    ap (λ (v : Values). v.fault) (rw is at e) ∙ values-fault (optional role) (used t) fs

-- and how many numbers, six at most
pub numbers-few : (t : Track) (role : ℕ) (fs : List (List ℕ)) → (values_for t role fs).numbers ≤ 6
unfolding values_for
numbers-few t role fs =
    either_way (λ (v : Values). v.numbers ≤ 6) (is_value role) _ _ (values-few (optional role) (used t) fs)
    (omega arith)
