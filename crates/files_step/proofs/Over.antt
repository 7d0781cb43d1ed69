-- What the loop over the records of an entry keeps, and what it comes to. Assumes nothing.
use Rattle.std.specs.Prelude.{Result, Ok, Err}
use Rattle.paper_faults.specs.declared.types.Fault.{Fault}
use Rattle.paper_faults.specs.Fault.{Checked, fault_at, faultless}
use Prim.Native.Nat.{ℕ, ◌+◌, ◌*◌, ◌/◌, ◌<◌, ◌≤◌}
use mathlib.Core.Path.{◌≡◌, refl, sym, ◌∙◌, ap, subst}
use mathlib.Core.Bool.{Bool, true, false, cond}
use mathlib.Core.List.{List, ◌++◌}
use native.Mathlib.Omega.{arith}
use lib.ListN.{length}
use Rattle.laws.specs.Blocks.{block_at}
use Rattle.laws.proofs.Search.{either}
use Rattle.paper_rules.specs.Limits.{MOST-RECORDS}
use Rattle.paper_rules.specs.Ranging.{Stands}
use Rattle.paper_entry.specs.Verdict.{is_done}
use Rattle.entry_step.specs.declared.step.Judge.{Judge}
use Rattle.entry_step.specs.ByRanges.{step_of, Ready}
use Rattle.paper_files.specs.declared.types.Stage.TheVariants.{Within}
use Rattle.paper_files.specs.File.{OF-ENTRY, file_role, file_fault}
use Rattle.paper_files.specs.Numbers.{numbers_of}
use Rattle.paper_files.proofs.Roles.{role-numbers, role-room, role-stage, role-on}
use Rattle.files_state.specs.declared.state.File.{File}
use Rattle.files_state.specs.declared.state.FileStep.{FileStep}
use Rattle.files_state.specs.ByNumbers.{context_of, state_on, within_state, ended_state, behind_state, onwards}
use Rattle.files_state.specs.ByNumbers.{entered, step_entry, step_outside, file_step_of, next_state, own_bytes, Room, FileReady}
use Rattle.files_step.specs.Along.{Along, Ahead, Gone}
use Rattle.files_state.proofs.Sums.{room}
use Rattle.files_step.proofs.Steps.{entry-step, outside-step}
use Rattle.files_step.proofs.Along.{along-ready, along-next}

-- what a record is by the numbers of a state and a judge
abbrev pub role_by : File → Judge → List ℕ → ℕ
role_by f j r = file_role (numbers_of f.stage f.entries j.track.records) r

-- from the state f the loop has come to the record with the index i, and the judge j
pub record Over (s : List ℕ) (f : File) (i : ℕ) (j : Judge) : Type 0 where
  pub along : Along s i (state_on f i j)
  pub begun : f.records.0 < length s / 81
  pub upto : f.records.0 ≤ i
  pub within : f.stage ≡ Within
  -- the first record is one of an entry, and has room in it
  pub room : f.records.0 ≡ i → j.track.records.0 < MOST-RECORDS
  pub first : j.track.records.0 ≡ 0 → role_by f j (block_at 81 s i) ≡ OF-ENTRY

pub over-start : (s : List ℕ) (f : File) → Ahead s f → role_by f f.judge (block_at 81 s f.records.0) ≡ OF-ENTRY
    → Over s f f.records.0 f.judge
over-start s f a e =
    let c = numbers_of f.stage f.entries f.judge.track.records in
    record {
      along = a.along;
      begun = a.there;
      upto = omega arith;
      within = role-stage c (block_at 81 s f.records.0) e;
      room = λ q. role-room c (block_at 81 s f.records.0) e;
      first = λ q. e;
    }

module _ {s : List ℕ} {f : File} {i : ℕ} {j : Judge} (o : Over s f i j) where
  abbrev here : File
  here = state_on f i j

  -- the entry has 20,000 records
  pub over-full : MOST-RECORDS ≤ j.track.records.0 → Gone faultless s f (state_on f i j)
  over-full h = (
    o.along,
    either f.records.0 i (λ l. l)
        (λ m. let u = o.upto in let z = o.room (omega arith) in absurd (omega arith)),
  )

  -- the file has no further record
  pub over_done : length s / 81 ≤ i → Gone faultless s f (state_on f i j)
  over_done h = let b = o.begun in (o.along, omega arith)

  -- one record
  module _ (there : i < length s / 81) (few : j.track.records.0 < MOST-RECORDS) where
    abbrev before : List ℕ
    before = own_bytes s i here

    abbrev rec : List ℕ
    rec = block_at 81 s i

    ready : FileReady here before rec
    ready = along-ready o.along there

    pub over-ready : Ready j (own_bytes s i (state_on f i j)) (block_at 81 s i)
    over-ready = record { stands = ready.stands; few = few; whole = ready.whole }

    role : OF-ENTRY ≡ role_by f j rec
    role = sym (role-on (numbers_of f.stage f.entries j.track.records) rec o.within few o.first)

    step : step_entry before here rec ≡ file_step_of before here rec
    step = entry-step before here rec OF-ENTRY role refl

    module _ (x : Result Judge Fault) (same : x ≡ step_of (own_bytes s i (state_on f i j)) j (block_at 81 s i)) where
      stepped : step_entry before here rec ≡ entered here x
      unfolding step_entry
      stepped = ap (entered here) (sym same)

      pub over-fault : (fault : Fault) → x ≡ Err fault → Gone (Err fault) s f (state_on f i j)
      unfolding file_step_of
      over-fault fault e =
          let told : step_entry before here rec ≡ entered here (Err fault) = stepped ∙ ap (entered here) e in
          (record { along = o.along; there = there }, ap (λ (y : FileStep). y.fault) (sym step ∙ told))

      module _ (y : Judge) (e : x ≡ Ok y)
          (stands : Stands y.track y.ranges (own_bytes s i (state_on f i j) ++ block_at 81 s i)) where
        moved : step_entry before here rec ≡ entered here (Ok y)
        moved = stepped ∙ ap (entered here) e

        next : Along s (i + 1) (behind_state here y)
        next =
            subst (λ (g : File). Along s (i + 1) g) (ap (λ (z : FileStep). z.next) moved)
            (along-next o.along there (step_entry before here rec) step (ap (λ (z : FileStep). z.fault) moved))

        pub over-room : Room (state_on f i j) y
        over-room = room here before rec ready y stands

        -- the entry ends
        pub over-ended : is_done y.phase ≡ true → Gone faultless s f (behind_state (state_on f i j) y)
        unfolding behind_state
        over-ended d =
            let u = o.upto in
            rw d (rw d at next, omega arith)

        -- it goes on
        pub over-next : is_done y.phase ≡ false → Over s f (i + 1) y
        unfolding behind_state
        over-next d =
            let u = o.upto in
            let w = over-room.own in
            record {
              along = rw d at next;
              begun = o.begun;
              upto = omega arith;
              within = o.within;
              room = λ q. absurd (omega arith);
              first = λ q. absurd (omega arith);
            }

-- ---- a record that belongs to no entry

module _ {s : List ℕ} {f : File} (a : Ahead s f) (role : ℕ)
    (named : role ≡ role_by f f.judge (block_at 81 s f.records.0)) (other : role ≡ OF-ENTRY → ⊥)
    (x : FileStep) (same : x ≡ step_outside role f (block_at 81 s f.records.0)) where
  abbrev record-here : List ℕ
  record-here = block_at 81 s f.records.0

  abbrev own-here : List ℕ
  own-here = own_bytes s f.records.0 f

  as_said : x ≡ file_step_of own-here f record-here
  as_said = same ∙ outside-step own-here f record-here role named other

  fault-said : x.fault ≡ file_fault (context_of own-here f) record-here
  unfolding file_step_of
  fault-said = ap (λ (y : FileStep). y.fault) as_said

  stays : (number column : ℕ) → x.fault ≡ fault_at number column → x.next ≡ f
  unfolding file_step_of
  stays number column e =
      ap (λ (y : FileStep). y.next) as_said
      ∙ ap (λ (y : Checked). onwards y f (next_state own-here f record-here)) (sym fault-said ∙ e)

  pub outside-gone : Gone x.fault s f x.next
  outside-gone = by-fault x.fault refl
    where
      by-fault : (y : Checked) → x.fault ≡ y → Gone y s f x.next
      by-fault (Ok u) e =
          let n = along-next a.along a.there x as_said e in
          let c = n.counted in
          (subst (λ (k : ℕ). Along s k x.next) (sym c) n, omega arith)
      by-fault (Err fault) e = rw (stays fault.number fault.column e) (a, sym fault-said ∙ e)
