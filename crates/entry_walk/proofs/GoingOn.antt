-- The judge's turn at a record: it goes on exactly where no rule is broken, and hands out nothing but refusals. Behind
-- a value record the context goes by what the fields read to.
-- Assumes nothing.
use Rattle.std.specs.Prelude.{Ok, Err}
use Rattle.paper_faults.specs.Fault.{Checked, faultless}
use mathlib.Core.Path.{◌≡◌, refl, ap}
use mathlib.Core.Bool.{Bool, true, false, cond}
use mathlib.Core.List.{List, []}
use Prim.Native.Nat.{ℕ, ◌<◌}
use native.Mathlib.Omega.{arith}
use lib.ListN.{get_or}
use Rattle.laws.specs.Turns.{go, out}
use Rattle.laws.specs.Copies.{Passing}
use Rattle.paper_number.specs.Reading.{read_field}
use Rattle.paper_record.specs.Places.{record_of}
use Rattle.paper_record.specs.Fields.{fields_of}
use Rattle.paper_rules.specs.State.{Context, used}
use Rattle.paper_rules.specs.Roles.{COMMON-VALUE, DATA-VALUE, is_value}
use Rattle.paper_rules.specs.Values.{optional, values_for}
use Rattle.paper_rules.specs.Order.{fault_of}
use Rattle.paper_entry.specs.declared.types.Verdict.{Verdict}
use Rattle.paper_entry.specs.Counted.{track_after, after_inside}
use Rattle.paper_entry.specs.Parts.{part_after, bib_change, under_change, table_change, seen_after}
use Rattle.paper_entry.specs.Next.{context_after}
use Rattle.paper_entry.specs.Judging.{role_of, on_fault, turn_as, turn_of, end_of}
use Rattle.paper_entry.specs.Verdict.{accepted, refused, is_done}
use Rattle.paper_record.proofs.Readings.{values_same}
use Rattle.paper_rules.proofs.ByKind.{of_values}
use Rattle.paper_rules.proofs.Least.{fault-bounds}

pub go-fine : Passing turn_of
    (λ c i r d. (fault_of c.track c.seen (role_of c r) (fields_of r) r ≡ faultless)
    × (context_after c (role_of c r) (fields_of r) r ≡ d))
unfolding turn_of turn_as
go-fine c i r d h = by-fault (fault_of c.track c.seen (role_of c r) (fields_of r) r) h
  where
    by-fault : (x : Checked)
        → on_fault (record_of c.track.records) x (context_after c (role_of c r) (fields_of r) r) ≡ go d
        → (x ≡ faultless) × (context_after c (role_of c r) (fields_of r) r ≡ d)
    by-fault (Ok u) e = (refl, cc)
    by-fault (Err fault) e = let z : ◌≡◌ {A = ℕ} 0 1 = cc in absurd (omega arith)

pub fine-go : (c : Context) (i : ℕ) (r : List ℕ) (role : ℕ) → role_of c r ≡ role
    → fault_of c.track c.seen role (fields_of r) r ≡ faultless
    → turn_of c i r ≡ go (context_after c role (fields_of r) r)
unfolding turn_of turn_as
fine-go c i r role e h = rw (e, h)

-- a walk that ends without refusal has met the end of the entry
pub done-of : (c : Context) → (end_of c).refusal ≡ 0 → is_done c.phase ≡ true
unfolding end_of
done-of c e = by-test (is_done c.phase) e
  where
    by-test : (b : Bool)
        → (cond b (accepted c.track.totals) (refused 16 (record_of c.track.records) 0)).refusal ≡ 0 → b ≡ true
    by-test true h = refl
    by-test false h = absurd (omega arith)

-- what a turn hands out is a refusal
pub out-refused : (c : Context) (i : ℕ) (r : List ℕ) (v : Verdict) → turn_of c i r ≡ out v → v.refusal ≡ 0 → ⊥
unfolding turn_of turn_as
out-refused c i r v e z = by-fault (fault_of c.track c.seen (role_of c r) (fields_of r) r) refl e
  where
    by-fault : (x : Checked) → fault_of c.track c.seen (role_of c r) (fields_of r) r ≡ x
        → on_fault (record_of c.track.records) x (context_after c (role_of c r) (fields_of r) r) ≡ out v → ⊥
    by-fault (Ok u) q h = let z : ◌≡◌ {A = ℕ} 0 1 = cc in omega arith
    by-fault (Err fault) q h =
        let w : refused fault.number (record_of c.track.records) fault.column ≡ v = cc in
        let m : fault.number ≡ v.refusal = ap (λ (x : Verdict). x.refusal) w in
        let b = (fault-bounds c.track c.seen (role_of c r) (fields_of r) r fault.number fault.column q).above in
        omega arith

module _ (c : Context) (r t : List ℕ)
    (reads : (k : ℕ) → k < 6 → read_field (get_or (fields_of t) k []) ≡ read_field (get_or (fields_of r) k [])) where
  values-for : (role : ℕ) → values_for c.track role (fields_of t) ≡ values_for c.track role (fields_of r)
  unfolding values_for
  values-for role = rw (values_same (fields_of t) (fields_of r) reads (optional role) (used c.track))

  pub next-alike : (role : ℕ) → is_value role ≡ true
      → context_after c role (fields_of t) t ≡ context_after c role (fields_of r) r
  unfolding context_after track_after after_inside seen_after part_after bib_change under_change table_change
  next-alike =
      of_values (λ role. context_after c role (fields_of t) t ≡ context_after c role (fields_of r) r)
      (rw (values-for COMMON-VALUE)) (rw (values-for DATA-VALUE))
