-- What a record of a file is goes by numbers alone; and a record of an entry has room in it.
-- Assumes nothing.
use Prim.Native.Nat.{ℕ, ◌<◌}
use mathlib.Core.Path.{◌≡◌, refl}
use mathlib.Core.Bool.{Bool, true, false, cond}
use mathlib.Core.List.{List}
use native.Mathlib.Omega.{arith}
use borrow.Author.Tests.{eqb-true, leb-false, lt-leb}
use lib.Dec.{eqb}
use Rattle.paper_record.specs.Identifier.{TRANS, ENDTRANS}
use Rattle.paper_rules.specs.Roles.{NOT-DUE}
use Rattle.paper_rules.specs.Limits.{MOST-RECORDS}
use Rattle.paper_files.specs.declared.types.Stage.{Stage}
use Rattle.paper_files.specs.declared.types.Stage.TheVariants.{Before, Within, Behind}
use Rattle.paper_files.specs.File.{FileContext, OF-ENTRY, name_of, closes, is_full, file_role_in, file_role}
use Rattle.paper_files.specs.Numbers.{numbers_of}

-- a full entry has no room
not_full : (a b : Bool) → cond a ENDTRANS (cond b NOT-DUE OF-ENTRY) ≡ OF-ENTRY → b ≡ false
not_full true b e = absurd (omega arith)
not_full false true e = absurd (omega arith)
not_full false false e = refl

only-trans : (a : Bool) → cond a TRANS NOT-DUE ≡ OF-ENTRY → ⊥
only-trans true e = omega arith
only-trans false e = omega arith

module _ (c : FileContext) (r : List ℕ) where
  pub role-numbers : file_role c r ≡ file_role (numbers_of c.stage c.entries c.entry.track.records) r
  unfolding file_role
  role-numbers = by-stage c.stage
    where
      by-stage : (x : Stage)
          → file_role_in x c (name_of r)
          ≡ file_role_in x (numbers_of c.stage c.entries c.entry.track.records) (name_of r)
      by-stage Before = refl
      by-stage Within = refl
      by-stage Behind = refl

  pub role-room : file_role c r ≡ OF-ENTRY → c.entry.track.records.0 < MOST-RECORDS
  unfolding file_role
  role-room e = by-stage c.stage e
    where
      by-stage : (x : Stage) → file_role_in x c (name_of r) ≡ OF-ENTRY → c.entry.track.records.0 < MOST-RECORDS
      by-stage Before e = absurd (only-trans (eqb (name_of r) TRANS) e)
      by-stage Within e =
          leb-false MOST-RECORDS c.entry.track.records.0 (not_full (closes c (name_of r)) (is_full c) e)
      by-stage Behind e = absurd (omega arith)

  -- a record of an entry stands between TRANS and ENDTRANS
  pub role-stage : file_role c r ≡ OF-ENTRY → c.stage ≡ Within
  unfolding file_role
  role-stage e = by-stage c.stage refl e
    where
      by-stage : (x : Stage) → c.stage ≡ x → file_role_in x c (name_of r) ≡ OF-ENTRY → x ≡ Within
      by-stage Before q e = absurd (only-trans (eqb (name_of r) TRANS) e)
      by-stage Within q e = refl
      by-stage Behind q e = absurd (omega arith)

  -- and so does every further record that it has room for
  pub role-on : c.stage ≡ Within → c.entry.track.records.0 < MOST-RECORDS
      → (c.entry.track.records.0 ≡ 0 → file_role c r ≡ OF-ENTRY) → file_role c r ≡ OF-ENTRY
  unfolding file_role
  role-on stage room first = by-own (eqb c.entry.track.records.0 0) refl
    where
      by-own : (t : Bool) → eqb c.entry.track.records.0 0 ≡ t → file_role_in c.stage c (name_of r) ≡ OF-ENTRY
      by-own true e = first (eqb-true c.entry.track.records.0 0 e)
      by-own false e = rw (stage, e, lt-leb MOST-RECORDS c.entry.track.records.0 room) refl
