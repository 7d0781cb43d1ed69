-- What code j of a passage comes to, case by case.
-- Assumes nothing.
use mathlib.Core.Path.{◌≡◌, refl}
use mathlib.Core.Bool.{Bool, true, false, cond}
use mathlib.Core.List.{List}
use Prim.Native.Nat.{ℕ, ◌<◌, ◌≤◌}
use native.Mathlib.Omega.{arith}
use borrow.Author.Tests.{eq-eqb, ne_eqb, lt-ltb, le-ltb}
use lib.Dec.{eqb, ltb}
use lib.ListN.{length}
use lib.Seq.{paste}
use Rattle.paper_decay.specs.Records.{said, scan_records}
use Rattle.laws.proofs.Search.{either}
use Rattle.paper_codes.proofs.Closed.{scan-reaches}
use Rattle.paper_codes.specs.declared.types.CodeIn.{CodeIn}
use Rattle.paper_codes.specs.Opening.{records_of, opening_of}
use Rattle.paper_codes.specs.Asked.{coded_in, run_in, code_is, code_in, stored_in}

module _ (p : List ℕ) (j : ℕ) where
  pub coded-there : opening_of p j < records_of p → coded_in p j ≡ scan_records p (opening_of p j) (records_of p)
  unfolding coded_in
  coded-there h = rw (lt-ltb (opening_of p j) (records_of p) h) refl

  pub coded_none : records_of p ≤ opening_of p j → coded_in p j ≡ said 36 0 0
  unfolding coded_in
  coded_none h = rw (le-ltb (opening_of p j) (records_of p) h) refl

  pub in-refused : (room : ℕ) → ((coded_in p j).number ≡ 0 → ⊥)
      → code_in p j room ≡ code_is (coded_in p j).number (coded_in p j).at (coded_in p j).column 0
  unfolding code_in
  in-refused room h = rw (ne_eqb (coded_in p j).number 0 h) refl

  pub in-short : (room : ℕ) → (coded_in p j).number ≡ 0 → room < length (run_in p j) → code_in p j room ≡ code_is 52 0 0 0
  unfolding code_in
  in-short room z h = rw (eq-eqb (coded_in p j).number 0 z, lt-ltb room (length (run_in p j)) h) refl

  pub in-closed : (room : ℕ) → (coded_in p j).number ≡ 0 → length (run_in p j) ≤ room
      → code_in p j room ≡ code_is 0 0 0 (length (run_in p j))
  unfolding code_in
  in-closed room z h = rw (eq-eqb (coded_in p j).number 0 z, le-ltb room (length (run_in p j)) h) refl

  pub stored_refused : (x : List ℕ) → ((code_in p j (length x)).number ≡ 0 → ⊥) → stored_in p j x ≡ x
  unfolding stored_in
  stored_refused x h = rw (ne_eqb (code_in p j (length x)).number 0 h) refl

  pub stored-closed : (x : List ℕ) → (code_in p j (length x)).number ≡ 0
      → stored_in p j x ≡ paste x 0 (run_in p j) (length (run_in p j))
  unfolding stored_in
  stored-closed x z = rw (eq-eqb (code_in p j (length x)).number 0 z) refl

  -- ---- its place

  coded-to : ((coded_in p j).at ≤ records_of p) × ((coded_in p j).column ≤ 67)
  coded-to =
      either (opening_of p j) (records_of p)
      (λ h.
      let x = scan-reaches p (opening_of p j) (records_of p) (omega arith) in
      rw (coded-there h) (x.at_most, x.wide))
      (λ h. rw (coded_none h) (omega arith, omega arith))

  -- no further than the record behind the passage, in a column that a record has
  pub in-reaches : (room : ℕ) → ((code_in p j room).at ≤ records_of p) × ((code_in p j room).column ≤ 67)
  unfolding code_in
  in-reaches room = by_tests (eqb (coded_in p j).number 0) (ltb room (length (run_in p j)))
    where
      by_tests : (a b : Bool)
          → let x : CodeIn =
          cond a (cond b (code_is 52 0 0 0) (code_is 0 0 0 (length (run_in p j))))
          (code_is (coded_in p j).number (coded_in p j).at (coded_in p j).column 0) in
          (x.at ≤ records_of p) × (x.column ≤ 67)
      by_tests true true = (omega arith, omega arith)
      by_tests true false = (omega arith, omega arith)
      by_tests false b = coded-to
