use Prim.Native.Nat.{◌≤◌}
use Rattle.laws.proofs.Search.{Scan}
use Rattle.laws.specs.Search.{how_many}
use Rattle.paper_record.specs.Fields.{first_field, in_field}
use Rattle.paper_record.specs.Numbers.{is_number_at, value_fault}
use mathlib.Core.Path.{◌≡◌}
use Rattle.record_values.proofs.numbers.values_of.Given as goal

abbrev pub invariant-loop-k : goal.invariant-loop-k
invariant-loop-k l =
    Scan (in_field (value_fault l.optional l.used) l.fn.fields)
    (first_field (value_fault l.optional l.used) l.fn.fields) l.k 6 × (l.count ≡ how_many (in_field (is_number_at l.used) l.fn.fields) 0 l.k)
    × (l.count ≤ l.k)
