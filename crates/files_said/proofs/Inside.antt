-- The records of an entry in a file: as long as nothing is found on them, the entry in hand has the context that it has
-- alone; and where it is done, it is counted with its totals.
-- Assumes nothing.
use Prim.Native.Nat.{ℕ, zero, suc, ◌+◌, ◌*◌, ◌<◌, ◌≤◌}
use mathlib.Core.Path.{◌≡◌, refl, sym, ◌∙◌, ap}
use mathlib.Core.Bool.{Bool, true, false}
use mathlib.Core.List.{List}
use native.Mathlib.Omega.{arith}
use native.Mathlib.Nat.{zero-mul}
use native.Mathlib.Numerals.{add-one}
use lib.ListN.{length, drop, length-drop}
use Rattle.laws.specs.Turns.{go}
use Rattle.laws.specs.Blocks.{block_at}
use Rattle.laws.proofs.Blocks.{next-block}
use Rattle.paper_record.specs.Fields.{fields_of}
use Rattle.paper_record.specs.Identifier.{ENTRY, ENDTRANS}
use Rattle.paper_faults.specs.Fault.{first_fault, fault_at, faultless}
use Rattle.paper_rules.specs.declared.types.Totals.{Totals}
use Rattle.paper_rules.specs.State.{Context, start_context}
use Rattle.paper_rules.specs.Limits.{MOST-RECORDS}
use Rattle.laws.proofs.EitherWay.{no}
use Rattle.paper_rules.specs.Order.{fault_of}
use Rattle.paper_faults.specs.Least.{Nothing, Least}
use Rattle.paper_rules.proofs.FaultSaid.{nothing-fine, least-fault}
use Rattle.paper_entry.specs.Verdict.{is_done, refused_within}
use Rattle.paper_entry.specs.Judging.{role_of}
use Rattle.paper_entry.specs.Contexts.{context_at}
use Rattle.entry_walk.specs.First.{found_in, found_at, NothingBefore}
use Rattle.entry_walk.proofs.Contexts.{records-at, context-start, context-after}
use Rattle.below.proofs.Behind.{found-behind}
use Rattle.paper_files.specs.File.{FileContext, OF-ENTRY, name_of, closes, file_role, ordinal_of, added, ended_entry}
use Rattle.paper_files.specs.File.{behind_entry, file_turn}
use Rattle.files_said.proofs.Onward.{onward, onward-go, onward-out}
use Rattle.files_said.proofs.Turns.{standing, inside-go, inside-out, open-inside, open-else, role-inside}
use Rattle.files_said.proofs.Turns.{ordinal-inside, ordinal-begun}

-- what is found on a record in its context, as its first fault
module _ (c : Context) (r : List ℕ) where
  found_none : Nothing (found_in c r) → first_fault (found_in c r) ≡ faultless
  unfolding fault_of
  found_none h = nothing-fine c.track c.seen (role_of c r) (fields_of r) r h

  found-least : (n k : ℕ) → Least (found_in c r) n k → first_fault (found_in c r) ≡ fault_at n k
  unfolding fault_of
  found-least n k l = least-fault c.track c.seen (role_of c r) (fields_of r) r n k l

-- the context behind a record that is not the last, and behind the last
behind-one : (f : FileContext) (c : Context) → is_done c.phase ≡ false
    → behind_entry f c
    ≡ record {
      stage = f.stage;
      records = record { 0 = f.records.0 + 1 };
      entries = f.entries;
      totals = f.totals;
      entry = c;
    }
unfolding behind_entry
behind-one f c e = rw e refl

behind_last : (f : FileContext) (c : Context) → is_done c.phase ≡ true
    → behind_entry f c ≡ ended_entry f c.track.totals
unfolding behind_entry
behind_last f c e = rw e refl

-- an entry is done behind some record
pub done-some : (w : List ℕ) (i : ℕ) → is_done (context_at w i).phase ≡ true → 0 < i
done-some w zero done = no (sym (ap (λ (c : Context). is_done c.phase) (context-start w)) ∙ done)
done-some w (suc i) done = omega arith

-- an entry stands at the beginning of w, behind n records and e entries that come to t
module _ (w : List ℕ) (n e : ℕ) (t : Totals) (begins : name_of (block_at 81 w 0) ≡ ENTRY) where
  -- before its record with the index i
  abbrev at : ℕ → FileContext
  at i = standing (n + i) e t (context_at w i)

  still_open : (i : ℕ) → closes (at i) (name_of (block_at 81 w i)) ≡ false
  still_open zero =
      open-else (n + 0) e t (context_at w 0) (block_at 81 w 0)
      (λ h z. let x : ◌≡◌ {A = ℕ} ENTRY ENDTRANS = sym begins ∙ z in omega arith)
  still_open (suc i) =
      let z = records-at w (suc i) in
      open-inside (n + suc i) e t (context_at w (suc i)) (block_at 81 w (suc i)) (omega arith)

  ordinal-at : (i : ℕ) → ordinal_of (at i) (block_at 81 w i) ≡ e + 1
  ordinal-at zero = ordinal-begun (n + 0) e t (context_at w 0) (block_at 81 w 0) begins
  ordinal-at (suc i) =
      let z = records-at w (suc i) in
      ordinal-inside (n + suc i) e t (context_at w (suc i)) (block_at 81 w (suc i)) (omega arith)

  role-at : (i : ℕ) → i < MOST-RECORDS → file_role (at i) (block_at 81 w i) ≡ OF-ENTRY
  role-at i h =
      let z = records-at w i in
      role-inside (n + i) e t (context_at w i) (block_at 81 w i) (still_open i) (omega arith)

  turn_at : (i : ℕ) → i < MOST-RECORDS → Nothing (found_at w i)
      → file_turn (at i) 0 (block_at 81 w i) ≡ go (behind_entry (at i) (context_at w (suc i)))
  turn_at i h none =
      rw (context-after w i)
      (inside-go (at i) (block_at 81 w i) (role-at i h) (found_none (context_at w i) (block_at 81 w i) none))

  -- nothing is found on a record, so the entry is not done before it
  not_done : (i : ℕ) → Nothing (found_at w i) → is_done (context_at w i).phase ≡ false
  not_done i none = by-test (is_done (context_at w i).phase) refl
    where
      by-test : (b : Bool) → is_done (context_at w i).phase ≡ b → is_done (context_at w i).phase ≡ false
      by-test true q = absurd (found-behind (context_at w i) (block_at 81 w i) q none)
      by-test false q = q

  some_left : (i : ℕ) → suc i * 81 ≤ length w → 81 ≤ length (drop (i * 81) w)
  some_left i h = simp length-drop (omega arith)

  -- over the record with the index i
  over : (i : ℕ) (g : FileContext) → suc i * 81 ≤ length w → file_turn (at i) 0 (block_at 81 w i) ≡ go g
      → onward (at i) (drop (i * 81) w) ≡ onward g (drop (suc i * 81) w)
  over i g h p =
      onward-go (at i) (drop (i * 81) w) (some_left i h) g p
      ∙ ap (λ (x : List ℕ). onward g x) (rw (add-one i) at (next-block 81 i w))

  from_start : at 0 ≡ standing n e t start_context
  from_start = let z : n + 0 ≡ n = omega arith in rw (z, context-start w) refl

  -- its first i records, as long as it is not done
  pub passed : (i : ℕ) → NothingBefore w i → i * 81 ≤ length w → i ≤ MOST-RECORDS
      → is_done (context_at w i).phase ≡ false
      → onward (standing n e t start_context) w ≡ onward (standing (n + i) e t (context_at w i)) (drop (i * 81) w)
  passed zero none long few unended =
      rw (zero-mul 81) (ap (λ (f : FileContext). onward f w) (sym from_start))
  passed (suc i) none long few unended =
      passed i (λ j l. none j (omega arith)) (omega arith) (omega arith) (not_done i (none i (omega arith)))
      ∙ over i (at (suc i)) long (turn_at i (omega arith) (none i (omega arith)) ∙ ap go next)
    where
      next : behind_entry (at i) (context_at w (suc i)) ≡ at (suc i)
      next = let z : n + i + 1 ≡ n + suc i = omega arith in behind-one (at i) (context_at w (suc i)) unended ∙ rw z refl

  -- all of them, where it is done
  pub ended : (i : ℕ) → NothingBefore w i → i * 81 ≤ length w → i ≤ MOST-RECORDS
      → is_done (context_at w i).phase ≡ true
      → onward (standing n e t start_context) w
      ≡ onward (standing (n + i) (e + 1) (added t (context_at w i).track.totals) start_context) (drop (i * 81) w)
  ended zero none long few done = let z = done-some w zero done in absurd (omega arith)
  ended (suc i) none long few done =
      passed i (λ j l. none j (omega arith)) (omega arith) (omega arith) (not_done i (none i (omega arith)))
      ∙ over i last long (turn_at i (omega arith) (none i (omega arith)) ∙ ap go next)
    where
      last : FileContext
      last = standing (n + suc i) (e + 1) (added t (context_at w (suc i)).track.totals) start_context

      next : behind_entry (at i) (context_at w (suc i)) ≡ last
      next = let z : n + i + 1 ≡ n + suc i = omega arith in behind_last (at i) (context_at w (suc i)) done ∙ rw z refl

  -- a fault on its record with the index i
  pub refused-inside : (i m k : ℕ) → NothingBefore w i → suc i * 81 ≤ length w → i < MOST-RECORDS
      → is_done (context_at w i).phase ≡ false → Least (found_at w i) m k
      → onward (standing n e t start_context) w ≡ refused_within (e + 1) m (record { 0 = n + i + 1 }) k
  refused-inside i m k none long few unended least =
      passed i none (omega arith) (omega arith) unended
      ∙ onward-out (at i) (drop (i * 81) w) (some_left i long) (refused_within (e + 1) m (record { 0 = n + i + 1 }) k)
      (inside-out (at i) (block_at 81 w i) (e + 1) m k (role-at i few) (ordinal-at i)
      (found-least (context_at w i) (block_at 81 w i) m k least))
