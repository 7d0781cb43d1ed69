-- Lines written back, taken apart and asked for: every answer is the same, but for the count of digits.
-- Assumes nothing.
use Rattle.paper_faults.specs.Fault.{faultless}
use Prim.Native.Nat.{ℕ, ◌+◌, ◌-◌, ◌*◌, ◌<◌, ◌≤◌}
use mathlib.Core.Path.{◌≡◌, refl, sym, ◌∙◌}
use mathlib.Core.Bool.{Bool, true, false, cond}
use mathlib.Core.Logic.{◌⊎◌, inl, inr}
use mathlib.Core.List.{List}
use native.Mathlib.Omega.{arith}
use borrow.Author.Tests.{eqb-true}
use lib.Dec.{eqb}
use lib.ListN.{take, drop}
use Rattle.paper_number.specs.Digits.{field_read}
use Rattle.paper_record.specs.Columns.{columns_at}
use Rattle.paper_cinda.specs.declared.types.CindaNo.{CindaNo}
use Rattle.paper_cinda.specs.declared.types.Piece.{Piece}
use Rattle.paper_cinda.specs.declared.types.Piece.TheVariants.{Whole, Reaction, Quantity, Institute, Reference, Comment}
use Rattle.paper_cinda.specs.Layout.{LINE, lines_count, line_at}
use Rattle.paper_cinda.specs.Rules.{line_fault}
use Rattle.paper_cinda.specs.Check.{GoodLines}
use Rattle.paper_cinda.specs.Apart.{line_of, asked_for, line_asked, no_line}
use Rattle.paper_cinda.specs.Pieces.{piece_column, piece_width, piece_asked, piece_in}
use Rattle.paper_cinda.specs.Back.{line_back, lines_back}
use Rattle.paper_cinda.proofs.Lines.{asked-there, in_line, piece-room}
use Rattle.cinda_back_laws.specs.Alike.{SameLine}
use Rattle.cinda_back_laws.specs.Back.{BackLine, BackAsked, BackPieces, BackTexts}
use Rattle.cinda_back_laws.proofs.SameOutside.{SameOutside, byte-before, byte-behind, columns-before}
use Rattle.cinda_back_laws.proofs.SameOutside.{columns-behind, number_behind, many-same}
use Rattle.cinda_back_laws.proofs.GoodLine.{AlikeLines}
use Rattle.cinda_back_laws.proofs.GoodLine.{back-outside, back-reads-least, back-reads-greatest}
use Rattle.cinda_back_laws.proofs.Back.{back-length, back-good, fine-line, written-line, line-outside}

-- ---- a line taken apart

-- lines that are equal outside their energies, which read alike
apart-same : (l m : List ℕ) → AlikeLines l m → SameLine (line_of l) (line_of m)
unfolding line_of field_read
apart-same l m a =
    let o = a.outside in
    record {
      operation = byte-before l m o 0 (omega arith);
      z = rw (columns-before l m o 1 3 (omega arith));
      mass = rw (many-same l m o, columns-before l m o 4 3 (omega arith));
      isomer = byte-before l m o 7 (omega arith);
      area = byte-before l m o 33 (omega arith);
      block = rw (columns-before l m o 34 3 (omega arith));
      sequence = rw (columns-before l m o 37 2 (omega arith));
      work = byte-before l m o 39 (omega arith);
      reader = byte-before l m o 40 (omega arith);
      least = a.least;
      greatest = a.greatest;
      hierarchy = byte-behind l m o 55 (omega arith);
      kind = byte-behind l m o 56 (omega arith);
      year = number_behind l m o 79 4 (omega arith);
      month = number_behind l m o 83 2 (omega arith);
    }

back-alike : (l : List ℕ) → line_fault l ≡ faultless → AlikeLines (line_back l) l
back-alike l fine =
    record {
      outside = back-outside l fine;
      least = back-reads-least l fine;
      greatest = back-reads-greatest l fine;
    }

pub back-line : BackLine
back-line s g i h =
    rw (written-line s g i h) (apart-same (line_back (line_at s i)) (line_at s i) (back-alike (line_at s i) (fine-line s g i h)))

-- ---- the question for a line

pub asked-same : (s : List ℕ) → GoodLines s → (n : CindaNo) → asked_for (lines_back s) n ≡ asked_for s n
unfolding asked_for
asked-same s g n = rw (back-good s g, back-length s g)

-- an answered question is for one of the lines
there : (s : List ℕ) (n : CindaNo) → (asked_for s n).number ≡ 0 → n.0 - 1 < lines_count s
there s n e =
    let t = asked-there s n e in
    let a = t.from_one in
    let b = t.to_last in
    omega arith

no-line-same : SameLine no_line no_line
no-line-same =
    record {
      operation = refl;
      z = refl;
      mass = refl;
      isomer = refl;
      area = refl;
      block = refl;
      sequence = refl;
      work = refl;
      reader = refl;
      least = refl;
      greatest = refl;
      hierarchy = refl;
      kind = refl;
      year = refl;
      month = refl;
    }

pub back-asked : BackAsked
unfolding line_asked
back-asked s g n =
    let e = asked-same s g n in
    record { answer = e; line = rw e (by-test (eqb (asked_for s n).number 0) refl) }
  where
    by-test : (b : Bool) → eqb (asked_for s n).number 0 ≡ b
        → SameLine (cond b (line_of (line_at (lines_back s) (n.0 - 1))) no_line) (cond b (line_of (line_at s (n.0 - 1))) no_line)
    by-test true q = back-line s g (n.0 - 1) (there s n (eqb-true (asked_for s n).number 0 q))
    by-test false q = no-line-same

-- ---- the parts of a line

pub back-pieces : BackPieces
unfolding piece_asked
back-pieces s g n p = rw (asked-same s g n)

-- each text stands before the energies or behind them
text-place : (p : Piece) → (p ≡ Whole → ⊥)
    → ((piece_column p - 1 + piece_width p ≤ 41) ⊎ (55 ≤ piece_column p - 1))
text-place Whole h = absurd (h refl)
text-place Reaction h = inl (omega arith)
text-place Quantity h = inl (omega arith)
text-place Institute h = inl (omega arith)
text-place Reference h = inr (omega arith)
text-place Comment h = inr (omega arith)

columns-same : (l m : List ℕ) (j w : ℕ) → SameOutside l m → ((j + w ≤ 41) ⊎ (55 ≤ j)) → columns_at j w l ≡ columns_at j w m
columns-same l m j w o (inl h) = columns-before l m o j w h
columns-same l m j w o (inr h) = columns-behind l m o j w h

text_same : (s : List ℕ) → GoodLines s → (i : ℕ) → i < lines_count s → (p : Piece) → (p ≡ Whole → ⊥)
    → take (piece_width p) (drop (i * LINE + (piece_column p - 1)) (lines_back s))
    ≡ take (piece_width p) (drop (i * LINE + (piece_column p - 1)) s)
text_same s g i h p t =
    in_line (lines_back s) i (piece_column p - 1) (piece_width p) (piece-room p).1
    ∙ columns-same (line_at (lines_back s) i) (line_at s i) (piece_column p - 1) (piece_width p) (line-outside s g i h)
    (text-place p t)
    ∙ sym (in_line s i (piece_column p - 1) (piece_width p) (piece-room p).1)

part_same : (s : List ℕ) → GoodLines s → (n : CindaNo) (p : Piece) → (p ≡ Whole → ⊥)
    → piece_in (lines_back s) (piece_asked s n p) ≡ piece_in s (piece_asked s n p)
unfolding piece_asked
part_same s g n p t = by-test (eqb (asked_for s n).number 0) refl
  where
    by-test : (b : Bool) → eqb (asked_for s n).number 0 ≡ b
        → take (cond b (piece_width p) 0) (drop (cond b ((n.0 - 1) * LINE + (piece_column p - 1)) 0) (lines_back s))
        ≡ take (cond b (piece_width p) 0) (drop (cond b ((n.0 - 1) * LINE + (piece_column p - 1)) 0) s)
    by-test true q = text_same s g (n.0 - 1) (there s n (eqb-true (asked_for s n).number 0 q)) p t
    by-test false q = refl

pub back-texts : BackTexts
back-texts s g n p t = rw (back-pieces s g n p) (part_same s g n p t)
