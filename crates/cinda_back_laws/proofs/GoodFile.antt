-- Good lines: one or more, whole, and each without a fault; the answer about them is 0 with no line and no column.
-- Assumes nothing.
use Rattle.std.specs.Prelude.{Ok, Err}
use Rattle.paper_faults.specs.Fault.{Checked, fault_at, faultless}
use Prim.Native.Nat.{ℕ, ◌+◌, ◌*◌, ◌<◌, ◌≤◌}
use mathlib.Core.Path.{◌≡◌, refl}
use mathlib.Core.Bool.{Bool, true, false, cond}
use mathlib.Core.List.{List, [], ◌∷◌}
use native.Mathlib.Omega.{arith}
use lib.ListN.{length}
use Rattle.laws.specs.Turns.{Turn, go, out, after}
use Rattle.laws.specs.Walk.{walk, Goes, All}
use Rattle.laws.proofs.Walk.{goes-walk, walk-goes, all-at}
use Rattle.laws.proofs.Blocks.{length-blocks, block-at}
use Rattle.paper_faults.proofs.Least.{first-least, first-bounds}
use Rattle.paper_cinda.specs.declared.types.LinesAnswer.{LinesAnswer}
use Rattle.paper_cinda.specs.Layout.{LINE, lines_count, line_at, lines_in}
use Rattle.paper_cinda.specs.Rules.{findings, line_fault}
use Rattle.paper_cinda.specs.Check.{good_length, said_of, said_at, on_fault, line_turn, all_passed, check_of, GoodLines}
use Rattle.paper_cinda.proofs.Rising.{findings-rise}
use Rattle.paper_cinda.proofs.Lines.{whole-lines}

-- ---- one line

abbrev pub FineLine : List ℕ → Type 0
FineLine l = line_fault l ≡ faultless

-- the number of a fault
pub fault-number : (l : List ℕ) (n k : ℕ) → line_fault l ≡ fault_at n k → (70 < n) × (n ≤ 77)
unfolding line_fault
fault-number l n k e =
    let b = first-bounds 70 (findings l) (findings-rise l) n k (first-least 70 (findings l) (findings-rise l) n k e) in
    (b.above, b.to_last)

-- a turn hands out no number but these
turn-number : (u : Unit {0}) (i : ℕ) (l : List ℕ) (v : LinesAnswer) → line_turn u i l ≡ out v
    → (70 < v.number) × (v.number ≤ 77)
unfolding line_turn
turn-number u i l v e = by-fault (line_fault l) refl e
  where
    by-fault : (f : Checked) → line_fault l ≡ f → on_fault i f ≡ out v → (70 < v.number) × (v.number ≤ 77)
    by-fault (Ok u) q h = let z : ◌≡◌ {A = ℕ} 0 1 = cc in absurd (omega arith)
    by-fault (Err fault) q h =
        let same : v ≡ said_at fault.number (i + 1) fault.column = cc in
        rw same (fault-number l fault.number fault.column q)

turn-fine : (u : Unit {0}) (i : ℕ) (l : List ℕ) (d : Unit {0}) → line_turn u i l ≡ go d → FineLine l
unfolding line_turn
turn-fine u i l d e = by-fault (line_fault l) e refl
  where
    by-fault : (f : Checked) → on_fault i f ≡ go d → line_fault l ≡ f → line_fault l ≡ faultless
    by-fault (Ok u) h q = q
    by-fault (Err fault) h q = let z : ◌≡◌ {A = ℕ} 0 1 = cc in absurd (omega arith)

fine-turn : (i : ℕ) (l : List ℕ) → FineLine l → line_turn tt i l ≡ go tt
unfolding line_turn
fine-turn i l e = rw e refl

-- ---- a list of lines

goes-fine : (c : Unit {0}) (i : ℕ) (rs : List (List ℕ)) (z : Unit {0}) → Goes line_turn c i rs z → All FineLine rs
goes-fine c i [] z g = tt
goes-fine c i (r ∷ rs) z g = (turn-fine c i r g.0 g.1, goes-fine g.0 (i + 1) rs z g.2)

fine-goes : (i : ℕ) (rs : List (List ℕ)) → All FineLine rs → Goes line_turn tt i rs tt
fine-goes i [] h = refl
fine-goes i (r ∷ rs) h = (tt, fine-turn i r h.0, fine-goes (i + 1) rs h.1)

abbrev No-fault : LinesAnswer → Type 0
No-fault v = v.number ≡ 0

never : (c : Unit {0}) (i : ℕ) (r : List ℕ) (v : LinesAnswer) → line_turn c i r ≡ out v → No-fault v → ⊥
never c i r v e h = let b = (turn-number c i r v e).0 in omega arith

walk_fine : (rs : List (List ℕ)) → No-fault (walk line_turn all_passed tt 0 rs) → All FineLine rs
walk_fine rs h =
    let (z, g) = walk-goes line_turn No-fault never all_passed tt 0 rs h in
    goes-fine tt 0 rs z g

fine-walk : (rs : List (List ℕ)) → All FineLine rs → walk line_turn all_passed tt 0 rs ≡ said_of 0
fine-walk rs h = goes-walk line_turn all_passed tt 0 rs tt (fine-goes 0 rs h)

-- ---- a file

pub record Lined (s : List ℕ) : Type 0 where
  pub good : good_length (length s) ≡ true
  pub whole : length s ≡ lines_count s * LINE
  pub fine : All FineLine (lines_in s)

checked : (s : List ℕ) → (check_of s).number ≡ 0 → (good_length (length s) ≡ true) × All FineLine (lines_in s)
unfolding check_of
checked s e = by-test (good_length (length s)) refl e
  where
    by-test : (b : Bool) → good_length (length s) ≡ b
        → (cond b (walk line_turn all_passed tt 0 (lines_in s)) (said_of 70)).number ≡ 0
        → (good_length (length s) ≡ true) × All FineLine (lines_in s)
    by-test true q h = (q, walk_fine (lines_in s) h)
    by-test false q h = absurd (omega arith)

pub lined : (s : List ℕ) → GoodLines s → Lined s
lined s g =
    let (good, fine) = checked s g.good in
    record { good = good; whole = (whole-lines (length s) good).whole; fine = fine }

pub lined-check : (s : List ℕ) → good_length (length s) ≡ true → All FineLine (lines_in s) → check_of s ≡ said_of 0
unfolding check_of
lined-check s good fine = rw (good, fine-walk (lines_in s) fine) refl

-- a good answer is 0, with line 0 and column 0
pub good-said : (s : List ℕ) → GoodLines s → check_of s ≡ said_of 0
good-said s g = let p = lined s g in lined-check s p.good p.fine

pub fine-at : (s : List ℕ) → Lined s → (i : ℕ) → i < lines_count s → FineLine (line_at s i)
fine-at s p i h =
    let n = lines_count s in
    rw (← block-at LINE n s i h) (all-at FineLine [] (lines_in s) p.fine i (rw (length-blocks LINE n s) h))

-- ---- lines that are not good: 70 to 77

walk-number : (c : Unit {0}) (i : ℕ) (rs : List (List ℕ)) → ((walk line_turn all_passed c i rs).number ≡ 0 → ⊥)
    → (70 < (walk line_turn all_passed c i rs).number) × ((walk line_turn all_passed c i rs).number ≤ 77)
unfolding walk
walk-number c i [] n = absurd (n refl)
walk-number c i (r ∷ rs) n = by_turn (line_turn c i r) refl n (λ d. walk-number d (i + 1) rs)
  where
    by_turn : (t : Turn (Unit {0}) LinesAnswer) → line_turn c i r ≡ t
        → ((after t (λ d. walk line_turn all_passed d (i + 1) rs)).number ≡ 0 → ⊥)
        → ((d : Unit {0}) → ((walk line_turn all_passed d (i + 1) rs).number ≡ 0 → ⊥)
        → (70 < (walk line_turn all_passed d (i + 1) rs).number) × ((walk line_turn all_passed d (i + 1) rs).number ≤ 77))
        → (70 < (after t (λ d. walk line_turn all_passed d (i + 1) rs)).number)
        × ((after t (λ d. walk line_turn all_passed d (i + 1) rs)).number ≤ 77)
    by_turn (go d) e m next = next d m
    by_turn (out v) e m next = turn-number c i r v e

check-bounds : (s : List ℕ) → ((check_of s).number ≡ 0 → ⊥) → (70 ≤ (check_of s).number) × ((check_of s).number ≤ 77)
unfolding check_of
check-bounds s n = by-test (good_length (length s)) n
  where
    by-test : (b : Bool) → ((cond b (walk line_turn all_passed tt 0 (lines_in s)) (said_of 70)).number ≡ 0 → ⊥)
        → (70 ≤ (cond b (walk line_turn all_passed tt 0 (lines_in s)) (said_of 70)).number)
        × ((cond b (walk line_turn all_passed tt 0 (lines_in s)) (said_of 70)).number ≤ 77)
    by-test true m = let (a, b) = walk-number tt 0 (lines_in s) m in (omega arith, b)
    by-test false m = (omega arith, omega arith)

pub check-number : (s : List ℕ) → (GoodLines s → ⊥) → (70 ≤ (check_of s).number) × ((check_of s).number ≤ 77)
check-number s n = check-bounds s (λ e. n (record { good = e }))
