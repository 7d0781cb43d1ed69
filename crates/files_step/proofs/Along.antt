-- What the loop over a file keeps: the state stands before the record in hand, and the walk of the definitions that is
-- left from its context comes to the verdict. Assumes nothing.
use Rattle.std.specs.Prelude.{Err}
use Rattle.paper_faults.specs.declared.types.Fault.{Fault}
use Rattle.paper_faults.specs.Fault.{Checked, faultless}
use Prim.Native.Nat.{ℕ, ◌+◌, ◌*◌, ◌-◌, ◌/◌, ◌<◌, ◌≤◌}
use mathlib.Core.Path.{◌≡◌, refl, sym, ◌∙◌, ap, subst}
use mathlib.Core.Bool.{Bool, true, false, cond}
use mathlib.Core.List.{List, [], ◌++◌}
use native.Mathlib.Omega.{arith}
use borrow.Author.Tests.{eqb-true}
use lib.Dec.{eqb}
use lib.ListN.{length, take, drop, length-append, length-drop}
use lib.Seq.{take-add, drop-drop, length-take-le}
use Rattle.laws.specs.Turns.{Turn}
use Rattle.laws.specs.Blocks.{block_at}
use Rattle.laws.proofs.Blocks.{run-walk}
use Rattle.laws.proofs.Turns.{Run, run-all, run-next, run_out, run-done}
use Rattle.paper_record.specs.Columns.{Whole}
use Rattle.paper_record.specs.Places.{record_of}
use Rattle.paper_record.specs.declared.types.RecordNo.{RecordNo}
use Rattle.paper_entry.specs.declared.types.Verdict.{Verdict}
use Rattle.paper_entry.specs.Verdict.{refused_within}
use Rattle.paper_entry.proofs.Lengths.{whole-up-to}
use Rattle.entry_step.proofs.Stepping.{stood-start}
use Rattle.paper_files.specs.File.{FileContext, MOST-IN-FILE, start_file, file_fault, file_after, ordinal_of, file_turn}
use Rattle.paper_files.specs.File.{file_end, file_length_good, judge_file}
use Rattle.files_state.specs.declared.state.File.{File}
use Rattle.files_state.specs.declared.state.FileStep.{FileStep}
use Rattle.files_state.specs.ByNumbers.{context_of, start_state, next_state, onwards, file_step_of, own_records}
use Rattle.files_state.specs.ByNumbers.{own_bytes, FileReady}
use Rattle.files_step.specs.Along.{turn_at, Along, Ahead}
use Rattle.files_step.proofs.Onward.{FileNext, own_part, state-next}

-- ---- the bytes of the entry in hand

-- one record more, from k on to k + 1
one_more : (s : List ℕ) (i k m : ℕ) → k ≤ i → m ≡ k + 1
    → take (m * 81) (drop ((i + 1 - m) * 81) s) ≡ take (k * 81) (drop ((i - k) * 81) s) ++ block_at 81 s i
one_more s i k m l e =
    let a : m * 81 ≡ k * 81 + 81 = omega arith in
    let b : i + 1 - m ≡ i - k = omega arith in
    let d : (i - k) * 81 + k * 81 ≡ i * 81 = omega arith in
    let t = drop ((i - k) * 81) s in
    rw (a, b) (take-add (k * 81) 81 t ∙ rw (drop-drop (k * 81) ((i - k) * 81) s, d))

-- ---- the loop

pub along-start : (s : List ℕ) → file_length_good (length s) ≡ true → Along s 0 start_state
unfolding judge_file file_length_good
along-start s e =
    let g = whole-up-to MOST-IN-FILE (length s) e in
    record {
      whole = g.0;
      few = g.1;
      counted = refl;
      stood = record { stood = stood-start; sane = omega arith };
      rest = rw (e, ← run-walk file_turn file_end 81 s (length s / 81) start_file) (run-all (length s / 81));
    }

module _ {s : List ℕ} {i : ℕ} {f : File} (a : Along s i f) where
  pub own-few : own_records f ≤ i
  own-few = let l = a.stood.sane.own in let e = a.counted in omega arith

  -- the bytes of the entry in hand as the loop lends them, from the byte where the entry begins
  pub own-lent : (k : ℕ) → k ≡ own_records f * 81 → take (i * 81 - (i * 81 - k)) (drop (i * 81 - k) s) ≡ own_bytes s i f
  own-lent k e =
      let l = own-few in
      let x : i * 81 - (i * 81 - k) ≡ own_records f * 81 = omega arith in
      let y : i * 81 - k ≡ (i - own_records f) * 81 = omega arith in
      rw (x, y)

  -- behind the last record
  pub along-done : length s / 81 ≤ i → file_end (context_of [] f) ≡ judge_file s
  unfolding file_end
  along-done l = run-done a.rest l

  -- one record
  module _ (there : i < length s / 81) where
    abbrev before : List ℕ
    before = own_bytes s i f

    abbrev rec : List ℕ
    rec = block_at 81 s i

    here : f.records.0 < MOST-IN-FILE
    here = let e = a.counted in let m = a.few in omega arith

    pub record-whole : Whole (block_at 81 s i)
    record-whole =
        let w = a.whole in
        record { long = length-take-le 81 (drop (i * 81) s) (simp length-drop (omega arith)) }

    pub along-ready : FileReady f (own_bytes s i f) (block_at 81 s i)
    along-ready =
        record { stands = a.stood.stood.stands; sane = a.stood.sane; few = here; whole = record-whole }

    next-own : (g : File) (c : FileContext) → FileNext f g (before ++ rec) c
        → own_part g (before ++ rec) ≡ own_bytes s (i + 1) g
    next-own g c n = by-test (eqb (own_records g) 0) refl
      where
        by-test : (t : Bool) → eqb (own_records g) 0 ≡ t → cond t [] (before ++ rec) ≡ own_bytes s (i + 1) g
        by-test true e = let z : own_records g ≡ 0 = eqb-true _ _ e in rw z refl
        by-test false e =
            let w = rw e at n.stood.stood.stands.long in
            let x : length (before ++ rec) ≡ length before + length rec = length-append before rec in
            let y = a.stood.stood.stands.long in
            let v = record-whole.long in
            sym (one_more s i (own_records f) (own_records g) own-few (omega arith))

    -- a record at fault is the verdict
    pub along-out : {fault : Fault} {ordinal : ℕ} {at : RecordNo}
        → file_fault (context_of (own_bytes s i f) f) (block_at 81 s i) ≡ Err fault
        → ordinal ≡ ordinal_of (context_of [] f) (block_at 81 s i) → at ≡ record_of f.records
        → refused_within ordinal fault.number at fault.column ≡ judge_file s
    unfolding file_turn ordinal_of
    along-out e o n = rw (o, n) (run_out a.rest there (rw e refl))

    pub along-ahead : Ahead s f
    along-ahead =
        let e = a.counted in
        record { along = subst (λ (k : ℕ). Along s k f) (sym e) a; there = omega arith }

    module _ (x : FileStep) (same : x ≡ file_step_of (own_bytes s i f) f (block_at 81 s i)) where
      found : x.fault ≡ file_fault (context_of before f) rec
      unfolding file_step_of
      found = ap (λ (y : FileStep). y.fault) same

      moved : x.fault ≡ faultless → x.next ≡ next_state before f rec
      unfolding file_step_of
      moved e =
          ap (λ (y : FileStep). y.next) same
          ∙ ap (λ (y : Checked). onwards y f (next_state before f rec)) (sym found ∙ e)

      pub along-next : x.fault ≡ faultless → Along s (i + 1) x.next
      unfolding file_turn
      along-next e =
          let n = state-next before rec f a.stood here record-whole in
          let g = next_state before f rec in
          let c = file_after (context_of before f) rec in
          let own = next-own g c n in
          let k = n.counted in
          let o = a.counted in
          rw (moved e)
          (record {
            whole = a.whole;
            few = a.few;
            counted = omega arith;
            stood = rw own at n.stood;
            rest = run-next a.rest there (rw (sym found ∙ e, ← n.same, own) refl);
          })
