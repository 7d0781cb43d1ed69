-- What is counted after a record: one record more, and no more of anything than the records allow.
-- Assumes nothing.
use Prim.Native.Nat.{ℕ, ◌+◌, ◌<◌, ◌≤◌}
use mathlib.Core.Path.{◌≡◌, refl}
use mathlib.Core.Bool.{◌&&◌}
use mathlib.Core.List.{List, []}
use native.Mathlib.Omega.{arith}
use lib.Dec.{eqb, leb}
use lib.ListN.{get_or}
use Rattle.paper_record.specs.Identifier.{ENTRY, BIB, COMMON, DATA}
use Rattle.paper_record.specs.Word.{blank_to}
use Rattle.paper_rules.specs.declared.types.Table.{Table}
use Rattle.paper_rules.specs.declared.types.Track.{Track}
use Rattle.paper_rules.specs.Limits.{MOST-RECORDS}
use Rattle.paper_rules.specs.State.{counted, row_ends}
use Rattle.paper_rules.specs.Ranging.{Bounded}
use Rattle.paper_rules.specs.Roles.{TEXT, DATA-VALUE, is_system, opens_subentry, is_heading, is_unit, is_value}
use Rattle.paper_rules.specs.Values.{values_for}
use Rattle.laws.proofs.EitherWay.{either_way}
use Rattle.paper_rules.proofs.ReadValues.{numbers-few}
use Rattle.paper_entry.specs.Tally.{headings_read, units_read, values_read, lines_read, text_read}
use Rattle.paper_entry.specs.Claims.{SubentriesCounted}
use Rattle.paper_entry.specs.Counted.{after_system, after_inside, track_after}

-- the track u is one that may follow t
pub record Follows (t u : Track) : Type 0 where
  pub records : u.records.0 ≡ t.records.0 + 1
  pub bounded : Bounded u

module _ (t : Track) (b : Bounded t) (few : t.records.0 < MOST-RECORDS) where
  line-headings : (headings_read t.table).line.0 ≤ t.table.line.0 + 1
  unfolding headings_read
  line-headings =
      either_way (λ (x : Table). x.line.0 ≤ t.table.line.0 + 1) (leb t.table.rest 6) _ _ (omega arith)
      (omega arith)

  line-units : (units_read t.table).line.0 ≤ t.table.line.0 + 1
  unfolding units_read
  line-units =
      either_way (λ (x : Table). x.line.0 ≤ t.table.line.0 + 1) (leb t.table.rest 6) _ _ (omega arith)
      (omega arith)

  line-values : (n : ℕ) → (values_read t.table n).line.0 ≤ t.table.line.0 + 1
  unfolding values_read
  line-values n =
      either_way (λ (x : Table). x.line.0 ≤ t.table.line.0 + 1) (leb t.table.rest 6) _ _ (omega arith)
      (omega arith)

  lines-one : (role : ℕ) → lines_read (counted t) role ≤ 1
  lines-one role = either_way (λ (n : ℕ). n ≤ 1) (eqb role DATA-VALUE && row_ends t) 1 0 (omega arith) (omega arith)

  pub counted-follows : Follows t (counted t)
  counted-follows = omega arith

  system-follows : (role : ℕ) (fs : List (List ℕ)) (r : List ℕ) → Follows t (after_system (counted t) role fs r)
  unfolding after_system
  system-follows role fs r =
      either_way (Follows t) (eqb role ENTRY) _ _ (omega arith)
      (either_way (Follows t) (opens_subentry role) _ _ (omega arith)
      (either_way (Follows t) (eqb role BIB) _ _ (omega arith)
      (either_way (Follows t) (eqb role COMMON) _ _ (omega arith)
      (either_way (Follows t) (eqb role DATA) _ _ (omega arith) counted-follows))))

  inside-follows : (role : ℕ) (fs : List (List ℕ)) (n : ℕ) → n ≤ 6 → Follows t (after_inside (counted t) role fs n)
  unfolding after_inside text_read
  inside-follows role fs n six =
      let one = lines-one role in
      let headings = line-headings in
      let units = line-units in
      let values = line-values n in
      either_way (Follows t) (eqb role TEXT) _ _
      (either_way (Follows t) (blank_to 10 (get_or fs 0 [])) _ _ counted-follows (omega arith))
      (either_way (Follows t) (is_heading role) _ _ (omega arith)
      (either_way (Follows t) (is_unit role) _ _ (omega arith)
      (either_way (Follows t) (is_value role) _ _ (omega arith) counted-follows)))

  pub track-follows : (role : ℕ) (fs : List (List ℕ)) (r : List ℕ) → Follows t (track_after t role fs r)
  unfolding track_after
  track-follows role fs r =
      either_way (Follows t) (is_system role) _ _ (system-follows role fs r)
      (inside-follows role fs (values_for t role fs).numbers (numbers-few t role fs))

pub subentries-counted : SubentriesCounted
unfolding track_after after_system
subentries-counted = (λ t fs r. refl, λ t fs r. refl)
