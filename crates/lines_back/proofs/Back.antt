-- No answer about lines is lost: it comes back from the word and the lent arrays, whatever stood in the arrays before.
-- Assumes nothing.
use Prim.Native.Nat.{ℕ, ◌-◌, ◌<◌, ◌≤◌}
use mathlib.Core.Path.{◌≡◌, refl, sym, ap, ◌∙◌}
use mathlib.Core.Bool.{Bool, true, false, cond}
use mathlib.Core.List.{List}
use native.Mathlib.Omega.{arith}
use borrow.Author.Tests.{eqb-true, eqb-false, leb-true}
use lib.Dec.{eqb, leb}
use lib.ListN.{length, drop, length-take}
use Rattle.laws.proofs.Booleans.{and_left, and_right}
use Rattle.laws.proofs.EitherWay.{either_way}
use Rattle.paper_cinda.specs.declared.types.CindaNo.{CindaNo}
use Rattle.paper_cinda.specs.declared.types.LinesAnswer.{LinesAnswer}
use Rattle.paper_cinda.specs.declared.types.Mass.{Mass}
use Rattle.paper_cinda.specs.declared.types.Mass.TheVariants.{Number, Many}
use Rattle.paper_cinda.specs.declared.types.Line.{Line}
use Rattle.paper_cinda.specs.declared.types.Piece.{Piece}
use Rattle.paper_cinda.specs.declared.types.Piece.TheVariants.{Whole, Reaction, Quantity, Institute, Reference, Comment}
use Rattle.paper_cinda.specs.Layout.{lines_count, line_at, energy_at}
use Rattle.paper_cinda.specs.Check.{said_of, check_of}
use Rattle.paper_cinda.specs.Apart.{mass_answer, line_of, no_line, has_line, asked_for, line_asked}
use Rattle.paper_cinda.specs.Pieces.{piece_asked}
use Rattle.paper_cinda.specs.Back.{written}
use Rattle.cinda_laws.specs.Said.{LinesBounds}
use Rattle.cinda_laws.proofs.Lines.{lines-count}
use Rattle.cinda_laws.proofs.Answers.{good-exactly, bounds_of}
use Rattle.exports_words.specs.Words.{lent_after}
use Rattle.exports_values.specs.Values.{reading_stored}
use Rattle.exports_lines.specs.Lines.{lines_word, line_numbers, numbers_stored, energy_stored}
use Rattle.exports_lines.specs.Pieces.{pieces_stored}
use Rattle.lines_back.specs.Host.{said_in, energy_in, line_in, line_answer_in, piece_answer_in}
use Rattle.lines_back.specs.Claims.{CheckBack, LineBack, PieceBack, WrittenBack}
use Rattle.lines_back.proofs.Words.{said-back}
use Rattle.lines_back.proofs.Energies.{energy-back}

-- ---- each answer is small

alone : (n : ℕ) → n ≤ 77 → LinesBounds (said_of n)
alone n h = record { number = h; line = omega arith; column = omega arith }

asked-bounds : (s : List ℕ) (n : CindaNo) → LinesBounds (asked_for s n)
unfolding asked_for
asked-bounds s n =
    either_way LinesBounds (eqb (check_of s).number 0) _ _
    (either_way LinesBounds (has_line s n) _ _ (alone 0 (omega arith)) (alone 34 (omega arith)))
    (bounds_of s)

written-bounds : (s : List ℕ) (room : ℕ) → LinesBounds (written s room)
unfolding written
written-bounds s room =
    either_way LinesBounds (eqb (check_of s).number 0) _ _
    (either_way LinesBounds (leb (length s) room) _ _ (alone 0 (omega arith)) (alone 37 (omega arith)))
    (bounds_of s)

pub check-back : CheckBack
check-back s = said-back (check_of s) (bounds_of s)

pub written_back : WrittenBack
written_back s room = said-back (written s room) (written-bounds s room)

-- ---- the pieces

pub piece_back : PieceBack
unfolding piece_answer_in pieces_stored piece_asked lent_after
piece_back s before n p = by_number (eqb (asked_for s n).number 0) refl p
  where
    back : said_in (lines_word (asked_for s n)) ≡ asked_for s n
    back = said-back (asked_for s n) (asked-bounds s n)

    by_number : (b : Bool) → eqb (asked_for s n).number 0 ≡ b → (p : Piece)
        → piece_answer_in (lines_word (asked_for s n)) (pieces_stored before s n) p ≡ piece_asked s n p
    by_number true e Whole = rw (back, e) refl
    by_number true e Reaction = rw (back, e) refl
    by_number true e Quantity = rw (back, e) refl
    by_number true e Institute = rw (back, e) refl
    by_number true e Reference = rw (back, e) refl
    by_number true e Comment = rw (back, e) refl
    by_number false e p = rw (back, e) refl

-- ---- the line

mass-back : (m : Mass) → cond (eqb (mass_answer m).many 1) Many (Number (mass_answer m).number) ≡ m
mass-back (Number a) = refl
mass-back Many = refl

energy-few : (l : List ℕ) (k : ℕ) → length (energy_at l k) ≤ 7
energy-few l k = simp length-take (omega arith)

line_kept : (l : Line) (least greatest : List ℕ) → energy_in (reading_stored least l.least) ≡ l.least
    → energy_in (reading_stored greatest l.greatest) ≡ l.greatest
    → line_in (line_numbers l) (reading_stored least l.least) (reading_stored greatest l.greatest) ≡ l
line_kept l least greatest e f =
    λ t. record {
      operation = l.operation;
      z = l.z;
      mass = mass-back l.mass t;
      isomer = l.isomer;
      area = l.area;
      block = l.block;
      sequence = l.sequence;
      work = l.work;
      reader = l.reader;
      least = e t;
      greatest = f t;
      hierarchy = l.hierarchy;
      kind = l.kind;
      year = l.year;
      month = l.month;
    }

-- where a line is answered, the lines are good and it is one of them
record Answered (s : List ℕ) (n : CindaNo) : Type 0 where
  good : (check_of s).number ≡ 0
  there : n.0 - 1 < lines_count s

index-there : (n many : ℕ) → 1 ≤ n → n ≤ many → n - 1 < many
index-there n many h i = omega arith

answered : (s : List ℕ) (n : CindaNo) → (asked_for s n).number ≡ 0 → Answered s n
unfolding asked_for
answered s n z = by (eqb (check_of s).number 0) refl (has_line s n) refl z
  where
    by : (a : Bool) → eqb (check_of s).number 0 ≡ a → (b : Bool) → has_line s n ≡ b
        → (cond a (cond b (said_of 0) (said_of 34)) (check_of s)).number ≡ 0 → Answered s n
    by true e true h z =
        let some = leb-true 1 n.0 (and_left (leb 1 n.0) (leb n.0 (lines_count s)) h) in
        let most = leb-true n.0 (lines_count s) (and_right (leb 1 n.0) (leb n.0 (lines_count s)) h) in
        record { good = eqb-true (check_of s).number 0 e; there = index-there n.0 (lines_count s) some most }
    by true e false h z = absurd (omega (arith, z))
    by false e b h z = absurd (eqb-false (check_of s).number 0 e z)

line-said : (s least greatest : List ℕ) (n : CindaNo) → (asked_for s n).number ≡ 0
    → let l = line_of (line_at s (n.0 - 1)) in
    line_in (line_numbers l) (reading_stored least l.least) (reading_stored greatest l.greatest) ≡ l
unfolding line_of
line-said s least greatest n z =
    let a = answered s n z in
    let l = line_at s (n.0 - 1) in
    let g = (good-exactly s).0 (record { good = a.good }) in
    let good = g.each (n.0 - 1) (rw (← lines-count s g.whole) a.there) in
    line_kept (line_of l) least greatest (energy-back least (energy_at l 42) (energy-few l 42) good.least)
    (energy-back greatest (energy_at l 49) (energy-few l 49) good.greatest)

pub line-back : LineBack
unfolding line_answer_in line_asked numbers_stored energy_stored lent_after
line-back s numbers least greatest n = by_number (eqb (asked_for s n).number 0) refl
  where
    back : said_in (lines_word (asked_for s n)) ≡ asked_for s n
    back = said-back (asked_for s n) (asked-bounds s n)

    by_number : (b : Bool) → eqb (asked_for s n).number 0 ≡ b
        → let a = line_asked s n in
        line_answer_in (lines_word a.answer) (numbers_stored numbers a) (energy_stored least a.answer a.line.least)
        (energy_stored greatest a.answer a.line.greatest)
        ≡ a
    by_number true e =
        rw (back, e)
        (ap (λ (l : Line). record { answer = asked_for s n; line = l })
        (line-said s least greatest n (eqb-true (asked_for s n).number 0 e)))
    by_number false e = rw (back, e) refl
