-- What the call answers and leaves, by its cases.
-- Assumes nothing.
use Prim.Native.Nat.{ℕ, ◌<◌}
use mathlib.Core.Path.{◌≡◌, refl, ap, subst}
use mathlib.Core.Bool.{Bool, true, false}
use mathlib.Core.List.{List}
use native.Mathlib.Omega.{arith}
use borrow.Author.Tests.{eqb-true, eqb-false, leb-true, leb-false}
use lib.Dec.{eqb, leb}
use lib.ListN.{length, drop}
use lib.Seq.{take_at, drop_at}
use Rattle.paper_cinda.specs.declared.types.LinesAnswer.{LinesAnswer}
use Rattle.paper_cinda.specs.Check.{check_of, GoodLines}
use Rattle.paper_cinda.specs.Back.{lines_back, written}
use Rattle.paper_cinda.proofs.Written.{when-good, when-short, when-refused, stored_lines, stored-nothing}
use Rattle.cinda_back_laws.specs.Made.{BackMade, BackRefused, Answered, all_written, too_short, not_good}
use Rattle.cinda_back_laws.specs.Made.{WrittenExactly, ShortExactly}
use Rattle.cinda_back_laws.proofs.GoodFile.{check-number}
use Rattle.cinda_back_laws.proofs.Back.{back-length}

-- ---- the answer, by its cases

module _ (s : List ℕ) (room : ℕ) where
  is-answered : Answered s room (written s room)
  is-answered = by-test (eqb (check_of s).number 0) refl (leb (length s) room) refl
    where
      by-test : (a : Bool) → eqb (check_of s).number 0 ≡ a → (b : Bool) → leb (length s) room ≡ b
          → Answered s room (written s room)
      by-test true p true q =
          let g : GoodLines s = record { good = eqb-true (check_of s).number 0 p } in
          let h = leb-true (length s) room q in
          rw (when-good s room g.good h) (all_written g h)
      by-test true p false q =
          let g : GoodLines s = record { good = eqb-true (check_of s).number 0 p } in
          let h = leb-false (length s) room q in
          rw (when-short s room g.good h) (too_short g h)
      by-test false p b q =
          let n : GoodLines s → ⊥ = λ g. eqb-false (check_of s).number 0 p g.good in
          rw (when-refused s room (λ e. n (record { good = e }))) (not_good n)

  said : {a : LinesAnswer} → Answered s room a → written s room ≡ a
  said (all_written g h) = when-good s room g.good h
  said (too_short g h) = when-short s room g.good h
  said (not_good n) = when-refused s room (λ e. n (record { good = e }))

  short-of : {a : LinesAnswer} → Answered s room a → a.number ≡ 37 → GoodLines s × (room < length s)
  short-of (all_written g h) e = absurd (omega arith)
  short-of (too_short g h) e = (g, h)
  short-of (not_good n) e = let h = (check-number s n).0 in absurd (omega arith)

pub written-exactly : WrittenExactly
written-exactly s room a = (λ e. subst (Answered s room) e (is-answered s room), said s room)

pub short-exactly : ShortExactly
short-exactly s room = (
  λ e. short-of s room (is-answered s room) e,
  λ h. ap (λ (a : LinesAnswer). a.number) (when-short s room h.0.good h.1),
)

-- ---- the buffer

pub back-made : BackMade
back-made s out g h =
    let e = back-length s g in
    record {
      answer = when-good s (length out) g.good h;
      lines = rw (stored_lines s out g.good h) (take_at (lines_back s) (drop (length s) out) (length s) e);
      behind = rw (stored_lines s out g.good h) (drop_at (lines_back s) (drop (length s) out) (length s) e);
    }

pub back-refused : BackRefused
back-refused = stored-nothing
