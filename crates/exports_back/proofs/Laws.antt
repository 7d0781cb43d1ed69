-- No answer is lost: it comes back from the word and the lent array, whatever stood in the array before.
-- Assumes nothing.
use mathlib.Core.Path.{◌≡◌, refl, sym, ap, ◌∙◌}
use mathlib.Core.Bool.{Bool, true, false, cond}
use mathlib.Core.List.{List}
use Prim.Native.Nat.{ℕ, ◌+◌, ◌*◌, ◌/◌, ◌%◌, ◌^◌, ◌<◌}
use native.Mathlib.Omega.{arith}
use borrow.Author.Tests.{eqb-true, eqb-false, ne_eqb}
use lib.Dec.{eqb}
use lib.IntN.{pos, neg_ℤ}
use lib.ListN.{length}
use lib.Signed.{◌≤ℤ◌}
use Rattle.paper_number.specs.declared.types.Decimal.{Decimal}
use Rattle.paper_number.specs.declared.types.Reading.{Reading}
use Rattle.paper_number.specs.declared.types.Reading.TheVariants.{Blank, Number, Refused}
use Rattle.paper_number.specs.Value.{Says, blank, number, malformed}
use Rattle.paper_number.specs.Reading.{read_field, read_number}
use Rattle.paper_number.proofs.Laws.{read-bounds-eleven, reads-exactly, says_exactly, eleven-read, others-refused}
use Rattle.paper_number.specs.declared.types.FieldRead.{FieldRead}
use Rattle.paper_number.specs.Digits.{digit_count, number_read}
use Rattle.paper_number.proofs.DigitLaws.{digits-unsaid}
use Rattle.paper_record.specs.declared.types.RecordNo.{RecordNo}
use Rattle.paper_rules.specs.declared.types.Totals.{Totals}
use Rattle.laws.proofs.EitherWay.{either_way}
use Rattle.paper_entry.specs.declared.types.Answer.{Answer}
use Rattle.paper_entry.specs.declared.types.Verdict.{Verdict}
use Rattle.paper_entry.specs.Answer.{answer_of, answer_for}
use Rattle.paper_entry.specs.Verdict.{refused_within, accepted}
use Rattle.paper_entry.specs.Judging.{judge_of}
use Rattle.exports_words.specs.Words.{answer_word, answer_in, lent_after}
use Rattle.exports_values.specs.Values.{value_numbers, reading_answer, reading_stored, reading_in}
use Rattle.exports_verdicts.specs.Verdicts.{verdict_answer, totals_numbers, verdict_in}
use Rattle.paper_reasons.specs.Reason.{explain}
use Rattle.exports_facts.proofs.FactsBack.{facts-back}
use Rattle.exports_back.specs.Claims.{ReadingBack, VerdictBack, ExplainedBack}
use Rattle.exports_back.proofs.Sizes.{NearRefusal, Fitting, accepting, refusing, judge-fits}
use Rattle.exports_values.proofs.Numbers.{numbers-back}

-- ---- words

-- an answer that fits its rooms
pub record Fits (a : Answer) : Type 0 where
  pub number : a.number < 2 ^ 8
  pub beside : NearRefusal a.ordinal a.refusal a.«record» a.column

-- the numbers in the rooms
module _ (a b c d e : ℕ) (h : a < 256) (i : b < 256) (j : c < 256) (k : d < 16777216) (l : e < 65536) where
  abbrev full : ℕ
  full = a + 256 * (b + 256 * (c + 256 * (d + 16777216 * e)))

  room-1 : full % 256 ≡ a
  room-1 = omega arith

  room-2 : full / 256 % 256 ≡ b
  room-2 = omega arith

  room-3 : full / 65536 % 256 ≡ c
  room-3 = omega arith

  room-4 : full / 16777216 % 16777216 ≡ d
  room-4 = omega arith

  room-5 : full / 281474976710656 % 65536 ≡ e
  room-5 = omega arith

  room-six : e ≡ 0 → full < 281474976710656
  room-six z = omega arith

-- what fits is what its room holds
held_in : (d e : ℕ) → d < 16777216 → e < 65536 → (d % 16777216 ≡ d) × (e % 65536 ≡ e)
held_in d e k l = (omega arith, omega arith)

pub word_back : (a : Answer) → Fits a → answer_in (answer_word a) ≡ a
unfolding answer_in answer_word
word_back a h =
    let n = a.number in
    let r = a.refusal in
    let k = a.column in
    let m = a.«record».0 in
    let x = h.number in
    let y = h.beside.number in
    let z = h.beside.column in
    let u = h.beside.«record» in
    let o = a.ordinal in
    let w = h.beside.whose in
    let held = held_in m o u w in
    rw (
      held.0,
      held.1,
      room-1 n r k m o x y z u w,
      room-2 n r k m o x y z u w,
      room-3 n r k m o x y z u w,
      room-4 n r k m o x y z u w,
      room-5 n r k m o x y z u w,
    ) refl

-- about a single entry the bits from 48 on are 0
pub word_room : (a : Answer) → Fits a → a.ordinal ≡ 0 → answer_word a < 2 ^ 48
unfolding answer_word
word_room a h none =
    let held = held_in a.«record».0 a.ordinal h.beside.«record» h.beside.whose in
    rw (held.0, held.1)
    (room-six a.number a.refusal a.column a.«record».0 a.ordinal h.number h.beside.number
    h.beside.column h.beside.«record» h.beside.whose none)

pub plain_fits : (n : ℕ) → n < 2 ^ 8 → Fits (answer_of n)
plain_fits n h =
    record {
      number = h;
      beside = record { number = omega arith; «record» = omega arith; column = omega arith; whose = omega arith };
    }

-- what stands beside a number, by the verdict on an entry
near_of : {v : Verdict} → Fitting v → NearRefusal v.ordinal v.refusal v.«record» v.column
near_of (accepting t) =
    record { number = omega arith; «record» = omega arith; column = omega arith; whose = omega arith }
near_of (refusing o n at k z h) = h

-- whatever verdict fits
pub beside-fits : (v : Verdict) → Fitting v → (n : ℕ) → n < 2 ^ 8 → Fits (answer_for v n)
beside-fits v f n h =
    either_way Fits (eqb n 31) _ _ (record { number = omega arith; beside = near_of f }) (plain_fits n h)

pub answer-fits : (s : List ℕ) (n : ℕ) → n < 2 ^ 8 → Fits (answer_for (judge_of s) n)
answer-fits s n h = beside-fits (judge_of s) (judge-fits s) n h

-- ---- readings

-- what comes back
abbrev pub Held : ℕ → Reading → Type 0
Held digits Blank = digits ≡ 0
Held digits (Number v) = (neg_ℤ (pos 100000000) ≤ℤ v.power) × (v.power ≤ℤ pos 99999999)
Held digits (Refused n) = ((0 < n) × (n < 2 ^ 8)) × (digits ≡ 0)

abbrev field : Reading → ℕ → FieldRead
field r digits = record { reading = r; digits = digits }

refused-held : (n : ℕ) (xs : List ℕ) → 0 < n → n < 2 ^ 8 → reading_in (answer_word (answer_of n)) xs ≡ field (Refused n) 0
unfolding reading_in
refused-held n xs z h = rw (word_back (answer_of n) (plain_fits n h), ne_eqb n 0 (λ e. omega arith)) refl

pub held_back : (before : List ℕ) (digits : ℕ) (r : Reading) → Held digits r
    → reading_in (answer_word (reading_answer r)) (reading_stored before (field r digits)) ≡ field r digits
unfolding reading_in reading_answer reading_stored value_numbers answer_in answer_word
held_back before digits Blank h = rw h refl
held_back before digits (Number v) h = ap (λ (r : Reading). field r digits) (numbers-back v digits h.0 h.1)
held_back before digits (Refused n) h = rw h.1 (refused-held n before h.0.0 h.0.1)

-- every reading of eleven columns is held, with the count beside it
pub held : (l : List ℕ) → length l ≡ 11 → (r : Reading) → read_field l ≡ r → Says l r → Held (digit_count l) r
held l w Blank e x = digits-unsaid l (λ v q. unlike (sym e ∙ q))
  where
    unlike : {v : Decimal} → Blank ≡ Number v → ⊥
    unlike z = let y : ◌≡◌ {A = ℕ} 0 1 = cc in absurd (omega arith)
held l w (Number v) e (number x) =
    let b = read-bounds-eleven l v w ((reads-exactly l v).1 x) in
    (b.1, b.2)
held l w (Refused n) e (malformed x y) =
    ((omega arith, omega arith), digits-unsaid l (λ v q. y v ((reads-exactly l v).0 q)))

-- what a slice says comes back
pub reading-back : ReadingBack
unfolding number_read
reading-back l before = by_length (eqb (length l) 11) refl
  where
    by_length : (t : Bool) → eqb (length l) 11 ≡ t
        → reading_in (answer_word (reading_answer (read_number l)))
        (reading_stored before (field (read_number l) (cond t (digit_count l) 0)))
        ≡ field (read_number l) (cond t (digit_count l) 0)
    by_length true e =
        let w = eqb-true (length l) 11 e in
        rw (eleven-read l w)
        (held_back before (digit_count l) (read_field l) (held l w (read_field l) refl ((says_exactly l (read_field l)).0 refl)))
    by_length false e =
        rw (others-refused l (eqb-false (length l) 11 e))
        (held_back before 0 (Refused 40) ((omega arith, omega arith), refl))

-- ---- verdicts

-- the answer of a refused verdict
abbrev refused_answer : ℕ → ℕ → RecordNo → ℕ → Answer
refused_answer o n at k = record { number = n; refusal = n; «record» = at; column = k; ordinal = o }

answer-refused : (o n : ℕ) (at : RecordNo) (k : ℕ) → 0 < n
    → verdict_answer (refused_within o n at k) ≡ refused_answer o n at k
unfolding verdict_answer
answer-refused o n at k z = rw (ne_eqb n 0 (λ e. omega arith)) refl

refused-in : (o n : ℕ) (at : RecordNo) (k : ℕ) → 0 < n → NearRefusal o n at k → (xs : List ℕ)
    → verdict_in (answer_word (refused_answer o n at k)) xs ≡ refused_within o n at k
unfolding verdict_in
refused-in o n at k z h xs =
    rw (
      word_back (refused_answer o n at k) (record { number = h.number; beside = h }),
      ne_eqb n 0 (λ e. omega arith),
    ) refl

accepted-back : (before : List ℕ) (t : Totals)
    → verdict_in (answer_word (verdict_answer (accepted t))) (lent_after 0 before (totals_numbers t)) ≡ accepted t
unfolding verdict_in verdict_answer answer_in answer_word lent_after totals_numbers
accepted-back before t = refl

pub fitting-back : (before : List ℕ) {v : Verdict} → Fitting v
    → verdict_in (answer_word (verdict_answer v)) (lent_after v.refusal before (totals_numbers v.totals)) ≡ v
fitting-back before (accepting t) = accepted-back before t
fitting-back before (refusing o n at k z h) = rw (answer-refused o n at k z) (refused-in o n at k z h _)

-- the verdict on an entry comes back
pub verdict-back : VerdictBack
verdict-back s before = fitting-back before (judge-fits s)

-- and with its reason
pub explained-back : ExplainedBack
unfolding explain
explained-back s before =
    λ k. record {
      verdict = verdict-back s before k;
      reason = record { facts = facts-back (explain s).reason.facts k; characters = (explain s).reason.characters };
    }
