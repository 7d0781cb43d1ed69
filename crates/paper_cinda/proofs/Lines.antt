-- Where lines stand: a good length is that of whole lines; a line that is asked for and not refused is one of them, and each
-- part of it lies inside.
-- Assumes nothing.
use Prim.Native.Nat.{ℕ, zero, suc, ◌+◌, ◌-◌, ◌*◌, ◌/◌, ◌%◌, ◌≤◌}
use mathlib.Core.Path.{◌≡◌, refl, sym, ap, ◌∙◌}
use mathlib.Core.Bool.{Bool, true, false, cond}
use mathlib.Core.List.{List, [], ◌∷◌}
use native.Mathlib.Omega.{arith}
use borrow.Author.Tests.{eqb-true, eqb-false, leb-true}
use lib.Dec.{eqb, leb}
use lib.ListN.{length, take, drop}
use lib.Seq.{take-take, drop-drop}
use Rattle.laws.proofs.Booleans.{differ, and_left, and_right}
use Rattle.laws.proofs.Search.{either}
use Rattle.paper_record.specs.Columns.{columns_at}
use Rattle.paper_cinda.specs.declared.types.CindaNo.{CindaNo}
use Rattle.paper_cinda.specs.declared.types.Piece.{Piece}
use Rattle.paper_cinda.specs.declared.types.Piece.TheVariants.{Whole, Reaction, Quantity, Institute, Reference, Comment}
use Rattle.paper_cinda.specs.Layout.{LINE, MOST-CINDA, lines_count, line_at}
use Rattle.paper_cinda.specs.Check.{good_length, said_of, check_of}
use Rattle.paper_cinda.specs.Apart.{has_line, asked_for}
use Rattle.paper_cinda.specs.Pieces.{piece_column, piece_width, piece_asked}

-- ---- "70 length (none, not whole lines, too many)"

pub record WholeLength (bytes : ℕ) : Type 0 where
  pub some : 1 ≤ bytes / LINE
  pub most : bytes / LINE ≤ MOST-CINDA
  pub whole : bytes ≡ bytes / LINE * LINE

pub whole-lines : (n : ℕ) → good_length n ≡ true → WholeLength n
unfolding good_length
whole-lines n e = by_tests (eqb n 0) (eqb (n % 126) 0) (leb n 2520000) refl refl refl e
  where
    by_tests : (a b c : Bool) → eqb n 0 ≡ a → eqb (n % 126) 0 ≡ b → leb n 2520000 ≡ c
        → cond a false (cond b c false) ≡ true → WholeLength n
    by_tests true b c p q r e = differ (sym e)
    by_tests false false c p q r e = differ (sym e)
    by_tests false true false p q r e = differ (sym e)
    by_tests false true true p q r e =
        let x = eqb-false n 0 p in
        let y = eqb-true (n % 126) 0 q in
        let z = leb-true n 2520000 r in
        record {
          some = either 0 (n / 126) (λ h. h) (λ h. absurd (x (omega arith)));
          most = omega arith;
          whole = omega arith;
        }

-- ---- a line that is there

pub record There (s : List ℕ) (n : CindaNo) : Type 0 where
  pub from_one : 1 ≤ n.0
  pub to_last : n.0 ≤ lines_count s

pub line-there : (s : List ℕ) (n : CindaNo) → has_line s n ≡ true → There s n
line-there s n h =
    record {
      from_one = leb-true 1 n.0 (and_left (leb 1 n.0) (leb n.0 (lines_count s)) h);
      to_last = leb-true n.0 (lines_count s) (and_right (leb 1 n.0) (leb n.0 (lines_count s)) h);
    }

pub asked-there : (s : List ℕ) (n : CindaNo) → (asked_for s n).number ≡ 0 → There s n
unfolding asked_for
asked-there s n e = by-check (eqb (check_of s).number 0) refl e
  where
    by_line : (b : Bool) → has_line s n ≡ b → (cond b (said_of 0) (said_of 34)).number ≡ 0 → There s n
    by_line true h e = line-there s n h
    by_line false h e = absurd (omega arith)

    by-check : (b : Bool) → eqb (check_of s).number 0 ≡ b
        → (cond b (cond (has_line s n) (said_of 0) (said_of 34)) (check_of s)).number ≡ 0 → There s n
    by-check true h e = by_line (has_line s n) refl e
    by-check false h e = absurd (eqb-false (check_of s).number 0 h e)

-- ---- its columns

-- columns of the first m
pub part-of-taken : (n w m : ℕ) (l : List ℕ) → n + w ≤ m → columns_at n w (take m l) ≡ columns_at n w l
part-of-taken zero w m l h = take-take w m l (omega arith)
part-of-taken (suc n) w zero l h = absurd (omega arith)
part-of-taken (suc n) w (suc m) [] h = refl
part-of-taken (suc n) w (suc m) (x ∷ l) h = part-of-taken n w m l (omega arith)

-- by their place in the lines
pub in_line : (s : List ℕ) (i j w : ℕ) → j + w ≤ LINE → take w (drop (i * LINE + j) s) ≡ columns_at j w (line_at s i)
in_line s i j w h =
    ap (take w) (sym (drop-drop j (i * LINE) s)) ∙ sym (part-of-taken j w LINE (drop (i * LINE) s) h)

-- ---- its parts

pub piece-room : (p : Piece) → (1 ≤ piece_column p) × (piece_column p - 1 + piece_width p ≤ LINE)
piece-room Whole = (omega arith, omega arith)
piece-room Reaction = (omega arith, omega arith)
piece-room Quantity = (omega arith, omega arith)
piece-room Institute = (omega arith, omega arith)
piece-room Reference = (omega arith, omega arith)
piece-room Comment = (omega arith, omega arith)

pub piece-lies : (s : List ℕ) (n : CindaNo) (p : Piece)
    → (piece_asked s n p).first + (piece_asked s n p).length ≤ length s
unfolding piece_asked
piece-lies s n p = by-test (eqb (asked_for s n).number 0) refl
  where
    by-test : (b : Bool) → eqb (asked_for s n).number 0 ≡ b
        → cond b ((n.0 - 1) * LINE + (piece_column p - 1)) 0 + cond b (piece_width p) 0 ≤ length s
    by-test true e =
        let t = asked-there s n (eqb-true _ 0 e) in
        let a = t.from_one in
        let z = t.to_last in
        let w = (piece-room p).1 in
        omega arith
    by-test false e = omega arith
