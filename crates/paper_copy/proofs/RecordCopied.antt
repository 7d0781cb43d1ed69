-- The copy of a record by its role, the track before it and the headings of its table is its copy in the context.
-- Assumes nothing.
use Prim.Native.Nat.{ℕ}
use mathlib.Core.Path.{◌≡◌}
use mathlib.Core.List.{List}
use Rattle.paper_rules.specs.declared.types.Track.{Track}
use Rattle.paper_rules.specs.State.{Context}
use Rattle.paper_entry.specs.Judging.{role_of}
use Rattle.paper_copy.specs.Replaced.{replaced, mask}
use Rattle.paper_copy.specs.CopyField.{number_in, copy_field}
use Rattle.paper_copy.specs.Copy.{is_number_field, mask_of, copy_record}

-- what the code stores for a record is its copy in the context
pub record-copied : (c : Context) (r : List ℕ) (t : Track) (table : List ℕ) (role : ℕ)
    → t ≡ c.track → table ≡ c.seen.table → role ≡ role_of c r
    → replaced copy_field (mask (number_in table t role) 0 6) r ≡ copy_record c r
unfolding copy_record mask_of is_number_field
record-copied c r t table role e g f = rw (e, g, f)
