-- No answer of a call about doubles is lost: it comes back from the word, the lent place and the value call's decimal.
-- Assumes nothing.
use Rattle.std.specs.Prelude.{Ok, Err}
use Rattle.paper_faults.specs.Fault.{Checked}
use Prim.Native.Nat.{ℕ, ◌+◌, ◌*◌, ◌/◌, ◌%◌, ◌^◌, ◌<◌, ◌≤◌}
use mathlib.Core.Path.{◌≡◌, refl, sym, ap, ◌∙◌}
use mathlib.Core.Bool.{Bool, true, false, cond, not}
use mathlib.Core.List.{List, [], ◌∷◌, ◌++◌}
use native.Mathlib.Omega.{arith}
use borrow.Author.Tests.{eqb-true, eqb-false, ne_eqb}
use lib.Dec.{eqb}
use lib.ListN.{length}
use lib.Ieee.{Float}
use Rattle.laws.specs.Turns.{after}
use Rattle.laws.specs.Walk.{walk}
use Rattle.laws.specs.Blocks.{blocks}
use Rattle.paper_number.specs.declared.types.Reading.{Reading}
use Rattle.paper_number.specs.declared.types.Reading.TheVariants as R
use Rattle.paper_number.specs.Value.{Says, malformed}
use Rattle.paper_number.specs.Reading.{read_field, read_number}
use Rattle.paper_number.specs.declared.types.FieldRead.{FieldRead}
use Rattle.paper_number.specs.Digits.{digit_count, field_read, number_read}
use Rattle.paper_number.proofs.Laws.{says_exactly, eleven-read, others-refused}
use Rattle.paper_number.proofs.DigitLaws.{digits-most}
use Rattle.paper_record.specs.declared.types.LineNo.{LineNo}
use Rattle.paper_record.specs.Places.{record_of, place_of}
use Rattle.paper_record.specs.Fields.{fields_of}
use Rattle.paper_rules.specs.State.{Context, start_context}
use Rattle.paper_rules.specs.Order.{fault_of}
use Rattle.laws.proofs.EitherWay.{either_way}
use Rattle.paper_entry.specs.declared.types.Answer.{Answer}
use Rattle.paper_entry.specs.declared.types.Verdict.{Verdict}
use Rattle.paper_entry.specs.Verdict.{refused, accepted, is_done, length_good}
use Rattle.paper_entry.specs.Next.{context_after}
use Rattle.paper_entry.specs.Judging.{role_of, on_fault, turn_as, turn_of, end_of, judge_of}
use Rattle.paper_entry.specs.Answer.{refusal, first_of}
use Rattle.paper_entry.proofs.Answers.{answer-number}
use Rattle.paper_questions.specs.declared.types.Row.{Row}
use Rattle.paper_questions.specs.declared.types.ValueAnswer.{ValueAnswer}
use Rattle.paper_questions.specs.Located.{row_of}
use Rattle.paper_questions.specs.Place.{shape_of, field_of}
use Rattle.paper_questions.specs.Refused.{section_in, value_refusal, section_refusals, no_line, no_column}
use Rattle.paper_questions.specs.ValueAnswers.{value_by}
use Rattle.paper_questions.specs.Ask.{value_asked}
use Rattle.paper_questions.proofs.ValuePlaces.{value-field}
use Rattle.paper_index.specs.Reads.{read_refusals, table_identifier, good_value}
use Rattle.paper_index.specs.TableAnswers.{value_from_row}
use Rattle.paper_index.specs.ByIndex.{row_in, rows_before, row_refusal, refused_value, value_by_index}
use Rattle.paper_double.specs.declared.types.Simple.{Simple}
use Rattle.paper_double.specs.declared.types.Simple.TheVariants.{Blank, Double, Outside}
use Rattle.paper_double.specs.Double.{is_simple, double_of, simple_of, doubled, simple_said}
use Rattle.paper_double_asking.specs.Ask.{as_double, double_asked, double_by_index}
use Rattle.exports_words.specs.Words.{answer_word, answer_in}
use Rattle.exports_values.specs.Values.{reading_answer}
use Rattle.exports_simple.specs.Doubles.{word_with, double_word, double_stored}
use Rattle.exports_back.specs.DoubleClaims.{stored_in, kind_in, CallSays, DoubleBack, IndexDoubleBack}
use Rattle.exports_back.specs.DoubleClaims.{FieldDoubleBack, simple_by, double_answer_in, DoubleWhole, IndexDoubleWhole}
use Rattle.exports_back.specs.DoubleClaims.{FieldDoubleWhole}
use Rattle.exports_back.proofs.Laws.{Fits, word_back, plain_fits, answer-fits, reading-back}
use Rattle.exports_back.proofs.Refusals.{one, section-numbered}
use Rattle.exports_back.proofs.ValuesBack.{field-wide, value-back}
use Rattle.exports_back.proofs.IndexBack.{numbered-row, numbered-reads, index-value-back}

-- ---- a single entry has no ordinal

walk-alone : (rs : List (List ℕ)) (c : Context) (i : ℕ) → (walk turn_of end_of c i rs).ordinal ≡ 0
unfolding walk turn_of turn_as end_of
walk-alone [] c i =
    either_way (λ (v : Verdict). v.ordinal ≡ 0) (is_done c.phase) (accepted c.track.totals)
    (refused 16 (record_of c.track.records) 0) refl refl
walk-alone (r ∷ rs) c i =
    by-fault (fault_of c.track c.seen (role_of c r) (fields_of r) r) (λ d. walk-alone rs d (i + 1))
  where
    by-fault : (x : Checked) → ((d : Context) → (walk turn_of end_of d (i + 1) rs).ordinal ≡ 0)
        → (after (on_fault (record_of c.track.records) x (context_after c (role_of c r) (fields_of r) r))
        (λ d. walk turn_of end_of d (i + 1) rs)).ordinal
        ≡ 0
    by-fault (Ok u) rest = rest _
    by-fault (Err fault) rest = refl

pub judge-alone : (s : List ℕ) → (judge_of s).ordinal ≡ 0
unfolding judge_of
judge-alone s =
    let rs = blocks 81 (length s / 81) s in
    either_way (λ (v : Verdict). v.ordinal ≡ 0) (length_good (length s)) (walk turn_of end_of start_context 0 rs)
    (refused 1 (record { 0 = 0 }) 0) (walk-alone rs start_context 0) refl

-- ---- an answer that has room for the three and the digits beside it, and is blank where it is refused

pub record Rooms (a : Answer) (x : Simple) (digits : ℕ) : Type 0 where
  pub fits : Fits a
  pub alone : a.ordinal ≡ 0
  pub few : digits ≤ 10
  pub refused : (a.number ≡ 0 → ⊥) → x ≡ Blank

kind-few : (x : Simple) → (simple_said x).kind ≤ 2
kind-few Blank = omega arith
kind-few (Double x) = omega arith
kind-few (Outside d) = omega arith

-- the two numbers in the ordinal's bits
module _ (w k d : ℕ) (h : w / 281474976710656 % 65536 ≡ k + 256 * d) (i : k < 256) (j : d < 256) where
  lower-bits : w / 281474976710656 % 256 ≡ k
  lower-bits = omega arith

  upper-bits : w / 72057594037927936 % 256 ≡ d
  upper-bits = omega arith

room : (k d : ℕ) → k ≤ 2 → d ≤ 10 → k + 2 ^ 8 * d < 2 ^ 16
room k d h i = omega arith

is-blank : (x : Simple) → (simple_said x).kind ≡ 0 → x ≡ Blank
is-blank Blank e = refl
is-blank (Double x) e = absurd (omega arith)
is-blank (Outside d) e = absurd (omega arith)

is-double : (before : List Float) (x : Simple) → (simple_said x).kind ≡ 1
    → (length (double_stored before x) ≡ 1) × (x ≡ Double (stored_in (double_stored before x)))
is-double before Blank e = absurd (omega arith)
is-double before (Double x) e = (refl, refl)
is-double before (Outside d) e = absurd (omega arith)

is-kept : (before : List Float) (x : Simple) → ((simple_said x).kind ≡ 1 → ⊥) → double_stored before x ≡ before
is-kept before Blank h = refl
is-kept before (Double x) h = absurd (h refl)
is-kept before (Outside d) h = refl

pub says : (before : List Float) (a : Answer) (x : Simple) (digits : ℕ) → Rooms a x digits
    → CallSays (word_with a x digits) before (double_stored before x) (record { answer = a; value = x; digits = digits })
unfolding answer_in
says before a x digits h =
    record {
      answered = answered;
      kind = kind;
      counted = upper-bits w k digits bits few ten;
      blank = λ e. is-blank x (sym kind ∙ e);
      double = λ e. is-double before x (sym kind ∙ e);
      kept = λ q. is-kept before x (λ e. q (kind ∙ e));
      refused = λ q. ap (double_stored before) (h.refused (λ e. q (ap (λ (y : Answer). y.number) answered ∙ e)));
    }
  where
    beside : Answer → ℕ → Answer
    beside y o =
        record { number = y.number; refusal = y.refusal; «record» = y.«record»; column = y.column; ordinal = o }

    k : ℕ
    k = (simple_said x).kind

    w : ℕ
    w = answer_word (beside a (k + 2 ^ 8 * digits))

    back : answer_in w ≡ beside a (k + 2 ^ 8 * digits)
    back =
        word_back (beside a (k + 2 ^ 8 * digits))
        (record {
          number = h.fits.number;
          beside = record {
            number = h.fits.beside.number;
            «record» = h.fits.beside.«record»;
            column = h.fits.beside.column;
            whose = room k digits (kind-few x) h.few;
          };
        })

    answered : beside (answer_in w) 0 ≡ a
    answered = ap (λ (y : Answer). beside y 0) back ∙ ap (λ (o : ℕ). beside a o) (sym h.alone)

    few : k < 256
    few = omega (arith, kind-few x)

    ten : digits < 256
    ten = omega (arith, h.few)

    bits : w / 281474976710656 % 65536 ≡ k + 256 * digits
    bits = ap (λ (y : Answer). y.ordinal) back

    kind : kind_in w ≡ k
    kind = lower-bits w k digits bits few ten

-- ---- the three answers

digits-few : (b : Bool) (l : List ℕ) → length l ≡ 11 → cond b (digit_count l) 0 ≤ 10
digits-few b l w = either_way (λ (n : ℕ). n ≤ 10) b (digit_count l) 0 (digits-most l w) (omega arith)

abbrev RoomsOf : ValueAnswer → Type 0
RoomsOf v = Rooms v.answer (doubled v.value) v.digits

module _ (s : List ℕ) (line : LineNo) (column : ℕ) where
  asked-rooms : (n section : ℕ) → RoomsOf (value_asked s n section line column)
  unfolding value_asked value_by value_refusal field_read
  asked-rooms n section =
      let x = row_of s n in
      let at = section_in x section in
      let shape = shape_of s section at in
      let last = refusal 34 (no_line shape line) ∷ refusal 35 (no_column shape column) ∷ [] in
      let place = place_of at shape.columns line column in
      let number = first_of (section_refusals s (judge_of s) x at ++ last) in
      let h =
      section-numbered s x at last (one 34 (omega arith) (omega arith), (one 35 (omega arith) (omega arith), tt)) in
      record {
        fits = answer-fits s number h.few;
        alone = either_way (λ (a : Answer). a.ordinal ≡ 0) (eqb number 31) _ _ (judge-alone s) refl;
        few = digits-few (eqb number 0) (field_of s place) (field-wide s place (value-field at shape.columns line column));
        refused = λ h. rw (ne_eqb number 0 (λ z. h (answer-number (judge_of s) number ∙ z))) refl;
      }

  row-rooms : (x : Row) (section : ℕ) → RoomsOf (value_from_row s x section line column)
  unfolding value_from_row field_read
  row-rooms x section =
      let at = section_in x section in
      let shape = shape_of s section at in
      let place = place_of at shape.columns line column in
      let last =
      refusal 34 (no_line shape line) ∷ refusal 35 (no_column shape column)
      ∷ refusal 39 (not (good_value s section place (field_read (field_of s place)).reading)) ∷ [] in
      let number = first_of (read_refusals s x at (table_identifier section) ++ last) in
      let h =
      numbered-reads s x at (table_identifier section) last (
        one 34 (omega arith) (omega arith),
        (one 35 (omega arith) (omega arith), (one 39 (omega arith) (omega arith), tt)),
      ) in
      record {
        fits = plain_fits number h.few;
        alone = refl;
        few = digits-few (eqb number 0) (field_of s place) (field-wide s place (value-field at shape.columns line column));
        refused = λ h. rw (ne_eqb number 0 h) refl;
      }

  index-rooms : (t : List ℕ) (n section : ℕ) → RoomsOf (value_by_index s t n section line column)
  unfolding value_by_index
  index-rooms t n section =
      either_way RoomsOf (eqb (row_refusal t n) 0) (value_from_row s (row_in t (rows_before t n)) section line column)
      (refused_value (row_refusal t n)) (row-rooms (row_in t (rows_before t n)) section)
      (record {
        fits = plain_fits (row_refusal t n) (numbered-row t n).few;
        alone = refl;
        few = omega arith;
        refused = λ h. refl;
      })

-- a field in hand
said-rooms : (digits : ℕ) (l : List ℕ) (r : Reading) → Says l r → digits ≤ 10 → Rooms (reading_answer r) (doubled r) digits
unfolding reading_answer
said-rooms digits l R.Blank h few =
    record { fits = plain_fits 0 (omega arith); alone = refl; few = few; refused = λ q. refl }
said-rooms digits l (R.Number d) h few =
    record { fits = plain_fits 0 (omega arith); alone = refl; few = few; refused = λ q. absurd (q refl) }
said-rooms digits l (R.Refused n) (malformed x y) few =
    record { fits = plain_fits n (omega arith); alone = refl; few = few; refused = λ q. refl }

field-rooms : (l : List ℕ) → Rooms (reading_answer (number_read l).reading) (doubled (number_read l).reading) (number_read l).digits
unfolding number_read reading_answer
field-rooms l = by_length (eqb (length l) 11) refl
  where
    by_length : (t : Bool) → eqb (length l) 11 ≡ t
        → Rooms (reading_answer (read_number l)) (doubled (read_number l)) (cond t (digit_count l) 0)
    by_length true e =
        let w = eqb-true (length l) 11 e in
        rw (eleven-read l w) (said-rooms (digit_count l) l (read_field l) ((says_exactly l (read_field l)).0 refl) (digits-most l w))
    by_length false e =
        rw (others-refused l (eqb-false (length l) 11 e))
        (record { fits = plain_fits 40 (omega arith); alone = refl; few = omega arith; refused = λ q. refl })

-- THE THEOREMS
pub double-back : DoubleBack
unfolding double_asked
double-back s before n section line column = says before _ _ _ (asked-rooms s line column n section)

pub index-double-back : IndexDoubleBack
unfolding double_by_index
index-double-back s t before n section line column = says before _ _ _ (index-rooms s line column t n section)

pub field-double-back : FieldDoubleBack
field-double-back l before = says before _ _ _ (field-rooms l)

-- ---- all of it

three_back : (old : List Float) (r : Reading)
    → simple_by (simple_said (doubled r)).kind (stored_in (double_stored old (doubled r))) r ≡ doubled r
unfolding simple_of
three_back old R.Blank = refl
three_back old (R.Number d) = by-test (is_simple d)
  where
    by-test : (t : Bool)
        → let x = cond t (Double (double_of d)) (Outside d) in
        simple_by (simple_said x).kind (stored_in (double_stored old x)) (R.Number d) ≡ x
    by-test true = refl
    by-test false = refl
three_back old (R.Refused n) = refl

all_back : (old : List Float) (a : Answer) (r : Reading) (digits : ℕ) → Rooms a (doubled r) digits
    → double_answer_in (word_with a (doubled r) digits) (double_stored old (doubled r)) r
    ≡ record { answer = a; value = doubled r; digits = digits }
all_back old a r digits h =
    let y = says old a (doubled r) digits h in
    λ i. record {
      answer = y.answered i;
      value = (ap (λ (k : ℕ). simple_by k (stored_in (double_stored old (doubled r))) r) y.kind ∙ three_back old r) i;
      digits = y.counted i;
    }

pub double-whole : DoubleWhole
unfolding double_asked
double-whole s before old n section line column =
    let v = value_asked s n section line column in
    ap (λ (z : ValueAnswer). double_answer_in (double_word (as_double v)) (double_stored old (doubled v.value)) z.value)
    (value-back s before n section line column)
    ∙ all_back old v.answer v.value v.digits (asked-rooms s line column n section)

pub index-double-whole : IndexDoubleWhole
unfolding double_by_index
index-double-whole s t before old n section line column =
    let v = value_by_index s t n section line column in
    ap (λ (z : ValueAnswer). double_answer_in (double_word (as_double v)) (double_stored old (doubled v.value)) z.value)
    (index-value-back s t before n section line column)
    ∙ all_back old v.answer v.value v.digits (index-rooms s line column t n section)

pub field-double-whole : FieldDoubleWhole
field-double-whole l before old =
    let f = number_read l in
    let x = doubled f.reading in
    ap
    (λ (z : FieldRead).
    double_answer_in (word_with (reading_answer f.reading) x f.digits) (double_stored old x) z.reading)
    (reading-back l before)
    ∙ all_back old (reading_answer f.reading) f.reading f.digits (field-rooms l)
