-- Every verdict on a file fits its word: a refusal is 1 to 17, at a record up to 200,001, a column up to 81, in an entry
-- whose ordinal 16 bits can say.
-- Assumes nothing.
use Rattle.std.specs.Prelude.{Ok, Err}
use Prim.Native.Nat.{ℕ, ◌+◌, ◌*◌, ◌/◌, ◌%◌, ◌^◌, ◌<◌, ◌≤◌}
use mathlib.Core.Path.{◌≡◌, refl}
use mathlib.Core.Bool.{Bool, true, false, cond, not, ◌&&◌}
use mathlib.Core.List.{List, [], ◌∷◌}
use mathlib.Core.Logic.{◌⊎◌, inl, inr}
use native.Mathlib.Omega.{arith}
use borrow.Author.Tests.{leb-true}
use lib.Dec.{eqb, leb}
use lib.ListN.{length}
use Rattle.laws.specs.Turns.{after}
use Rattle.laws.specs.Walk.{walk}
use Rattle.laws.specs.Blocks.{blocks}
use Rattle.laws.proofs.Blocks.{length-blocks}
use Rattle.laws.proofs.Booleans.{and_right}
use Rattle.paper_record.specs.Places.{record_of}
use Rattle.paper_record.specs.Fields.{fields_of}
use Rattle.paper_record.specs.Identifier.{TRANS}
use Rattle.paper_faults.specs.Fault.{Finding, first_fault, Checked, fault_at, faultless}
use Rattle.paper_rules.specs.State.{Context}
use Rattle.laws.proofs.EitherWay.{either_way}
use Rattle.paper_rules.specs.Order.{fault_of}
use Rattle.paper_rules.specs.Rising.{FaultBounds}
use Rattle.paper_rules.proofs.Rising.{findings-rise}
use Rattle.paper_faults.proofs.Least.{first-least, first-bounds}
use Rattle.paper_rules.proofs.DueRecords.{fine-due}
use Rattle.paper_entry.specs.Verdict.{refused, refused_within, is_done}
use Rattle.paper_entry.specs.Next.{context_after}
use Rattle.paper_entry.specs.Judging.{role_of}
use Rattle.paper_entry.specs.Contexts.{behind}
use Rattle.entry_walk.specs.First.{found_in}
use Rattle.entry_walk.proofs.Contexts.{count_next}
use Rattle.paper_files.specs.Outside.{outside_findings}
use Rattle.paper_files.specs.declared.types.Stage.TheVariants.{Within, Behind}
use Rattle.paper_files.specs.File.{FileContext, MOST-IN-FILE, start_file, OF-ENTRY, file_role, file_findings, file_fault}
use Rattle.paper_files.specs.File.{is_between, begins, ordinal_of, at_stage, ended_entry, within_entry, behind_entry, file_after}
use Rattle.paper_files.specs.File.{on_file_fault, file_turn, is_behind, file_end, file_length_good, judge_file}
use Rattle.files_said.proofs.Outside.{outside-rises}
use Rattle.exports_back.proofs.Sizes.{NearRefusal, Fitting, accepting, refusing}
use Rattle.files_back.proofs.Ranks.{least, leads-on, done-four}

-- where the judge of a file stands with m records before the end: four records at least for every entry that has ended
pub record Sized (f : FileContext) (m : ℕ) : Type 0 where
  pub few : f.records.0 + m ≤ MOST-IN-FILE
  pub ranked : least f.entry.phase ≤ f.entry.track.records.0
  pub room : f.entries * 4 + f.entry.track.records.0 ≤ f.records.0

-- ---- the fault of a record is in its bounds

fault-bounds : (f : FileContext) (r : List ℕ) (n k : ℕ) → file_fault f r ≡ fault_at n k → FaultBounds n k
unfolding file_findings
fault-bounds f r n k = by-test (eqb (file_role f r) OF-ENTRY)
  where
    inside : List Finding
    inside = found_in f.entry r

    outside : List Finding
    outside = outside_findings f.entries (file_role f r) (fields_of r) r

    by-test : (b : Bool) → first_fault (cond b inside outside) ≡ fault_at n k → FaultBounds n k
    by-test true e =
        let s = findings-rise f.entry.track f.entry.seen (role_of f.entry r) (fields_of r) r in
        first-bounds 1 inside s n k (first-least 1 inside s n k e)
    by-test false e =
        let s = outside-rises f.entries (file_role f r) (fields_of r) r in
        first-bounds 1 outside s n k (first-least 1 outside s n k e)

-- ---- behind a record without fault

module _ (f : FileContext) (r : List ℕ) (m : ℕ) (z : Sized f (m + 1)) where
  abbrev next : Context
  next = behind f.entry r

  counted : next.track.records.0 ≡ f.entry.track.records.0 + 1
  unfolding context_after
  counted = count_next f.entry.track (role_of f.entry r) (fields_of r) r

  further : first_fault (found_in f.entry r) ≡ faultless → least next.phase ≤ least f.entry.phase + 1
  unfolding context_after fault_of
  further e =
      leads-on f.entry.phase f.entry.track _
      (fine-due f.entry.track f.entry.seen (role_of f.entry r) (fields_of r) r e)

  stage-sized : Sized (at_stage f Within) m × Sized (at_stage f Behind) m
  stage-sized =
      let a = z.few in
      let b = z.room in (
        record { few = omega arith; ranked = omega arith; room = omega arith },
        record { few = omega arith; ranked = omega arith; room = omega arith },
      )

  entry-sized : first_fault (found_in f.entry r) ≡ faultless → Sized (behind_entry f next) m
  unfolding behind_entry
  entry-sized e = by-test (is_done next.phase) refl
    where
      by-test : (b : Bool) → is_done next.phase ≡ b
          → Sized (cond b (ended_entry f next.track.totals) (within_entry f next)) m
      by-test true q =
          let a = further e in
          let b = z.ranked in
          let c = counted in
          let d = done-four next.phase q in
          let g = z.few in
          let h = z.room in
          record { few = omega arith; ranked = omega arith; room = omega arith }
      by-test false q =
          let a = further e in
          let b = z.ranked in
          let c = counted in
          let g = z.few in
          let h = z.room in
          record { few = omega arith; ranked = omega arith; room = omega arith }

  pub sized-next : file_fault f r ≡ faultless → Sized (file_after f r) m
  unfolding file_findings file_after
  sized-next = by-test (eqb (file_role f r) OF-ENTRY)
    where
      by-test : (b : Bool)
          → first_fault (cond b (found_in f.entry r) (outside_findings f.entries (file_role f r) (fields_of r) r)) ≡ faultless
          → Sized (cond b (behind_entry f next) (cond (eqb (file_role f r) TRANS) (at_stage f Within) (at_stage f Behind))) m
      by-test true e = entry-sized e
      by-test false e =
          either_way (λ g. Sized g m) (eqb (file_role f r) TRANS) _ _ stage-sized.0 stage-sized.1

-- ---- the verdict

ordinal-few : (f : FileContext) (r : List ℕ) → ordinal_of f r ≤ f.entries + 1
unfolding ordinal_of
ordinal-few f r =
    either_way (λ n. n ≤ f.entries + 1) (is_between f && not (begins f r)) _ _ (omega arith) (omega arith)

fits : (f : FileContext) (m : ℕ) → Sized f m → (o n k : ℕ) → o ≤ f.entries + 1 → FaultBounds n k ⊎ ((n ≡ 16) × (k ≡ 0))
    → Fitting (refused_within o n (record_of f.records) k)
fits f m z o n k h x =
    let a = z.few in
    let b = z.room in
    let (some, number, column) = bounds x in
    refusing o n (record_of f.records) k some
    (record { number = number; «record» = omega arith; column = column; whose = omega arith })
  where
    bounds : FaultBounds n k ⊎ ((n ≡ 16) × (k ≡ 0)) → (0 < n) × (n < 2 ^ 8) × (k < 2 ^ 8)
    bounds (inl b) =
        let p = b.above in
        let q = b.to_last in
        let r = b.to_column in
        (omega arith, omega arith, omega arith)
    bounds (inr b) = let p = b.0 in let q = b.1 in (omega arith, omega arith, omega arith)

end_fits : (f : FileContext) (m : ℕ) → Sized f m → Fitting (file_end f)
unfolding file_end
end_fits f m z =
    either_way Fitting (is_behind f.stage) _ _ (accepting f.totals)
    (fits f m z 0 16 0 (omega arith) (inr (refl, refl)))

walk-fits : (rs : List (List ℕ)) (f : FileContext) (i : ℕ) → Sized f (length rs) → Fitting (walk file_turn file_end f i rs)
unfolding walk file_turn
walk-fits [] f i z = end_fits f 0 z
walk-fits (r ∷ rs) f i z = by-fault (file_fault f r) refl (λ g h. walk-fits rs g (i + 1) h)
  where
    sized : Sized f (length rs + 1)
    sized = let a = z.few in record { few = omega arith; ranked = z.ranked; room = z.room }

    by-fault : (x : Checked) → file_fault f r ≡ x
        → ((g : FileContext) → Sized g (length rs) → Fitting (walk file_turn file_end g (i + 1) rs))
        → Fitting (after (on_file_fault (ordinal_of f r) (record_of f.records) x (file_after f r))
        (λ g. walk file_turn file_end g (i + 1) rs))
    by-fault (Ok u) e next = next (file_after f r) (sized-next f r (length rs) sized e)
    by-fault (Err fault) e next =
        fits f (length rs + 1) sized (ordinal_of f r) fault.number fault.column (ordinal-few f r) (inl (fault-bounds f r fault.number fault.column e))

few-records : (n : ℕ) → file_length_good n ≡ true → n / 81 ≤ MOST-IN-FILE
unfolding file_length_good
few-records n e =
    let h = leb-true n (MOST-IN-FILE * 81)
    (and_right (eqb (n % 81) 0) _ (and_right (not (eqb n 0)) _ e)) in
    omega arith

-- every verdict fits
pub file-fits : (s : List ℕ) → Fitting (judge_file s)
unfolding judge_file
file-fits s = by-test (file_length_good (length s)) refl
  where
    by-test : (b : Bool) → file_length_good (length s) ≡ b
        → Fitting
        (cond b (walk file_turn file_end start_file 0 (blocks 81 (length s / 81) s)) (refused 1 (record { 0 = 0 }) 0))
    by-test true e =
        let n = few-records (length s) e in
        walk-fits (blocks 81 (length s / 81) s) start_file 0
        (record {
          few = rw (length-blocks 81 (length s / 81) s) (omega arith);
          ranked = omega arith;
          room = omega arith;
        })
    by-test false e =
        refusing 0 1 (record { 0 = 0 }) 0 (omega arith)
        (record { number = omega arith; «record» = omega arith; column = omega arith; whose = omega arith })
