-- A code from the record that opens it, and what is stored of it.
-- Assumes nothing.
use mathlib.Core.Path.{◌≡◌, refl, sym, ap, ◌∙◌}
use mathlib.Core.Bool.{Bool, true, false, cond}
use mathlib.Core.List.{List, [], ◌++◌}
use Prim.Native.Nat.{ℕ, ◌+◌, ◌-◌, ◌*◌, ◌<◌, ◌≤◌}
use native.Mathlib.Omega.{arith}
use borrow.Author.Tests.{ltb-true}
use lib.Dec.{ltb}
use lib.ListN.{length}
use Rattle.paper_decay.specs.declared.types.Coded.{Coded}
use Rattle.paper_decay.specs.Records.{said, scan_records, Records}
use Rattle.paper_decay_run.specs.Text.{code_text}
use Rattle.paper_decay_run.specs.Run.{run_text, run_records}
use Rattle.paper_decay_run.specs.Overlay.{overlay}
use Rattle.paper_decay_run.proofs.Overlay.{overlay-empty, overlay-fits}
use Rattle.paper_decay_run.proofs.Texts.{records-run}
use Rattle.paper_codes.specs.declared.types.CodeIn.{CodeIn}
use Rattle.paper_codes.specs.Opening.{records_of, opening_of}
use Rattle.paper_codes.specs.Asked.{coded_in, run_in, code_is, code_in, stored_in}
use Rattle.paper_codes.proofs.Answers.{in-refused, in-short, in-closed, stored_refused, stored-closed}
use Rattle.paper_codes.proofs.Closed.{scan-closes}

-- the code that a record opens, as `coded_from` says it
abbrev pub coded_from : List ℕ → ℕ → Coded
coded_from p first = cond (ltb first (records_of p)) (scan_records p first (records_of p)) (said 36 0 0)

-- where it is closed there is such a record
record Shut (p : List ℕ) (first : ℕ) : Type 0 where
  records : Records p first (records_of p)
  coded : coded_from p first ≡ scan_records p first (records_of p)
  closed : (scan_records p first (records_of p)).number ≡ 0

shut : (p : List ℕ) (first : ℕ) → (coded_from p first).number ≡ 0 → Shut p first
shut p first z = by-test (ltb first (records_of p)) refl z
  where
    by-test : (b : Bool) → ltb first (records_of p) ≡ b
        → (cond b (scan_records p first (records_of p)) (said 36 0 0)).number ≡ 0 → Shut p first
    by-test false q y = absurd (omega arith)
    by-test true q y =
        let h = ltb-true first (records_of p) q in
        record { records = record { ordered = omega arith; whole = omega arith }; coded = rw q refl; closed = y }

-- what the run's loop asks: the last record is one of the passage's, and the column one of its text's
pub record Asks (p : List ℕ) (first : ℕ) (x : Coded) : Type 0 where
  pub whole : (x.at + 1) * 81 ≤ length p
  pub ordered : first ≤ x.at
  pub column_from : 12 ≤ x.column
  pub column_to : x.column ≤ 66

shut-asks : (p : List ℕ) (first : ℕ) → Shut p first → Asks p first (coded_from p first)
shut-asks p first s =
    let c = scan-closes p first (records_of p) s.records s.closed in
    let w = s.records.whole in
    let h = c.high in
    rw s.coded (record {
      whole = omega arith;
      ordered = c.low;
      column_from = c.column_from;
      column_to = c.column_to;
    })

module _ (p : List ℕ) (j first : ℕ) (x : Coded) (opened : first ≡ opening_of p j) (is : x ≡ coded_from p first) where
  abbrev run : List ℕ
  run = run_records 0 p first (x.at - first) x.column

  pub is-coded : x ≡ coded_in p j
  unfolding coded_in
  is-coded = is ∙ ap (coded_from p) opened

  pub asked-for : x.number ≡ 0 → Asks p first x
  asked-for z =
      rw is (shut-asks p first (shut p first (ap (λ (y : Coded). y.number) (sym is) ∙ z)))

  -- record by record the run is the one that is asked for
  run_is : x.number ≡ 0 → run ≡ run_in p j
  unfolding run_in
  run_is z =
      let s = shut p first (ap (λ (y : Coded). y.number) (sym is) ∙ z) in
      let e : x ≡ scan_records p first (records_of p) = is ∙ s.coded in
      let a : run ≡ run_text (code_text p first x) = rw e (records-run p first (records_of p) s.records s.closed) in
      a ∙ rw (is-coded, opened) refl

  zero-coded : x.number ≡ 0 → (coded_in p j).number ≡ 0
  zero-coded z = ap (λ (y : Coded). y.number) (sym is-coded) ∙ z

  -- a refused code: nothing is stored
  pub refused : (y : List ℕ) → (x.number ≡ 0 → ⊥)
      → (code_is x.number x.at x.column 0 ≡ code_in p j (length y)) × (y ≡ stored_in p j y)
  refused y h =
      let g : (coded_in p j).number ≡ 0 → ⊥ = λ z. h (ap (λ (k : Coded). k.number) is-coded ∙ z) in
      let e = in-refused p j (length y) g in (
        rw is-coded (sym e),
        sym (stored_refused p j y (λ z. g (ap (λ (k : CodeIn). k.number) (sym e) ∙ z))),
      )

  -- behind the walk over an empty part, which gives the run's length: no room for the run, and nothing is stored
  pub short : (e y : List ℕ) (n : ℕ) → x.number ≡ 0 → e ≡ overlay [] 0 run → n ≡ length run
      → length (e ++ y) < n → (code_is 52 0 0 0 ≡ code_in p j (length y)) × (e ++ y ≡ stored_in p j y)
  short e y n z q long h =
      let none : e ≡ [] = q ∙ overlay-empty 0 run in
      let l : length (e ++ y) ≡ length y = rw none refl in
      let r = run_is z in
      let g : length y < length (run_in p j) = rw (← r) (omega arith) in
      let o = in-short p j (length y) (zero-coded z) g in
      let v : (code_in p j (length y)).number ≡ 0 → ⊥ =
      λ w. let k : ◌≡◌ {A = ℕ} 52 0 = ap (λ (m : CodeIn). m.number) (sym o) ∙ w in absurd (omega arith) in
      (sym o, rw none (sym (stored_refused p j y v)))

  -- the run in front
  pub stored : (e y w : List ℕ) (n m : ℕ) → x.number ≡ 0 → e ≡ overlay [] 0 run
      → n ≡ length run → n ≤ length (e ++ y) → w ≡ overlay (e ++ y) 0 run → m ≡ length run
      → (code_is 0 0 0 m ≡ code_in p j (length y)) × (w ≡ stored_in p j y)
  stored e y w n m z q long h put is-long =
      let none : e ≡ [] = q ∙ overlay-empty 0 run in
      let l : length (e ++ y) ≡ length y = rw none refl in
      let r = run_is z in
      let k : length run ≡ length (run_in p j) = ap length r in
      let o = in-closed p j (length y) (zero-coded z) (omega arith) in
      let s : overlay (e ++ y) 0 run ≡ overlay y 0 run = rw none refl in
      let f = overlay-fits y 0 run (omega arith) in
      (rw (is-long, k) (sym o), put ∙ s ∙ f ∙ rw r (sym (stored-closed p j y (ap (λ (b : CodeIn). b.number) o))))
