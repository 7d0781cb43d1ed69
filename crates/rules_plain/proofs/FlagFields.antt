-- A value under FLAG or DECAY-FLAG is at fault exactly where it is said to be wrong, and at none where it fits: of one
-- field and its heading, whatever the codes are.
-- Assumes nothing.
use Prim.Native.Nat.{ℕ}
use mathlib.Core.Path.{◌≡◌, refl, sym, ◌∙◌, ap}
use mathlib.Core.Bool.{Bool, true, false, not, ◌&&◌, ◌||◌}
use mathlib.Core.List.{List, ◌++◌}
use mathlib.Core.Logic.{◌↔◌}
use borrow.Author.Tests.{eqb-true, eq-eqb, not-true}
use lib.Dec.{eqb}
use lib.ListN.{get_or}
use Rattle.laws.specs.Members.{any_of}
use Rattle.laws.proofs.Booleans.{differ, and_left, and_right, or-first, or-second, or-either}
use Rattle.paper_record.specs.Text.{text}
use Rattle.paper_number.specs.declared.types.Decimal.{Decimal}
use Rattle.paper_number.specs.declared.types.Reading.{Reading}
use Rattle.paper_number.specs.declared.types.Reading.TheVariants.{Blank, Number, Refused}
use Rattle.paper_number.specs.Form.{form_of}
use Rattle.paper_number.specs.Reading.{read_field}
use Rattle.paper_number.specs.declared.types.WholeRead.{WholeRead}
use Rattle.paper_number.specs.declared.types.WholeRead.TheVariants as W
use Rattle.paper_number.specs.Whole.{has_exponent, whole_read, whole_is}
use Rattle.paper_number.proofs.WholeTold.{tells_number, tells_exponent, exponent-told, number-told}
use Rattle.paper_number.proofs.WholeLaws.{exponent-exactly, whole-exactly}
use Rattle.paper_record.proofs.FlagWords.{flag-columns, decay-columns, either-word}
use Rattle.paper_record.specs.Numbers.{form_at, says_number}
use Rattle.paper_record.specs.Flags.{is_flag, is_decay_flag, is_flag_heading}
use Rattle.paper_rules.specs.Codes.{codes_of}
use Rattle.paper_rules.specs.Flags.{has_code, flag_wrong, flag_fault}
use Rattle.rules_plain.specs.Places.{Some}
use Rattle.rules_plain.specs.Flags.{FlagWord, FlagHeading, flag, decay_flag, whole_value, WrongFlag, raised}
use Rattle.rules_plain.specs.Flags.{no_code, FlagFits, CodesAre, FlagWrongExactly, FlagFitsExactly}
use Rattle.rules_plain.proofs.Exactly.{false-where}
use Rattle.rules_plain.proofs.Somewhere.{at_some, some_at, any-exactly}

-- ---- words

pub word-exactly : (h : List ℕ) → (is_flag h ≡ true) ↔ FlagWord h
word-exactly = flag-columns

pub heading-exactly : (h : List ℕ) → (is_flag_heading h ≡ true) ↔ FlagHeading h
heading-exactly h = (
  λ e. or-either (is_flag h) (is_decay_flag h) (sym (either-word h) ∙ e)
      (λ a. flag ((word-exactly h).0 a))
      (λ a. decay_flag ((decay-columns h).0 a)),
  λ x. either-word h ∙ by_word x,
)
  where
    by_word : FlagHeading h → (is_flag h || is_decay_flag h) ≡ true
    by_word (flag a) = or-first (is_flag h) (is_decay_flag h) ((word-exactly h).1 a)
    by_word (decay_flag a) = or-second (is_flag h) (is_decay_flag h) ((decay-columns h).1 a)

-- ---- numbers

number-of : (r : Reading) → says_number (form_of r) ≡ true → (v : Decimal) × (r ≡ Number v)
number-of Blank e = differ (sym e)
number-of (Number v) e = (v, refl)
number-of (Refused n) e = differ (sym e)

same : (v w : Decimal) → Number v ≡ Number w → v ≡ w
same v w e = cc

-- what has an exponent is a number
told-number : (w : WholeRead) → tells_exponent w ≡ true → tells_number w ≡ true
told-number W.NoNumber e = differ (sym e)
told-number W.Raised e = refl
told-number W.Broken e = refl
told-number (W.Whole v) e = refl

raised-number : (f : List ℕ) → has_exponent f ≡ true → says_number (form_at f) ≡ true
raised-number f e =
    number-told f says_number refl refl refl ∙ told-number (whole_read f) (sym (exponent-told f) ∙ e)

-- ---- a value and the codes

module _ (Met : ℕ → Type 0) (bib bib001 h f : List ℕ) (met : CodesAre (codes_of bib ++ codes_of bib001) Met) where
  abbrev codes : List ℕ
  codes = codes_of bib ++ codes_of bib001

  among : (n : ℕ) → (any_of (eqb n) codes ≡ true) ↔ Some (λ m. n ≡ m) codes
  among n = any-exactly (eqb n) (λ m. n ≡ m) (λ m. (eqb-true n m, eq-eqb n m)) codes

  matching : (has_code bib bib001 f ≡ true) ↔ Some (λ n. whole_is f n ≡ true) codes
  unfolding has_code
  matching = any-exactly (whole_is f) (λ n. whole_is f n ≡ true) (λ n. (λ e. e, λ e. e)) codes

  -- the value is that of a code
  coded-met : has_code bib bib001 f ≡ true → (n : ℕ) × Met n × (read_field f ≡ Number (whole_value n))
  coded-met e =
      let (m, l, w) = some_at (λ n. whole_is f n ≡ true) 0 codes (matching.0 e) in
      let n = get_or codes m 0 in
      (n, (met n).0 ((among n).1 (at_some (λ k. n ≡ k) 0 codes m l refl)), ((whole-exactly f n).0 w).1)

  met-coded : (n : ℕ) → Met n → has_exponent f ≡ false → read_field f ≡ Number (whole_value n)
      → has_code bib bib001 f ≡ true
  met-coded n x e q =
      let (m, l, w) = some_at (λ k. n ≡ k) 0 codes ((among n).0 ((met n).1 x)) in
      let here : whole_is f (get_or codes m 0) ≡ true = rw (← w) ((whole-exactly f n).1 (e, q)) in
      matching.1 (at_some (λ n. whole_is f n ≡ true) 0 codes m l here)

  -- ---- wrong

  -- a number under FLAG without code
  missed-fault : FlagWord h → (v : Decimal) → read_field f ≡ Number v → has_code bib bib001 f ≡ false
      → flag_fault bib bib001 h f ≡ true
  unfolding flag_wrong
  missed-fault word v says none =
      let number : says_number (form_at f) ≡ true = ap (λ (r : Reading). says_number (form_of r)) says in
      rw ((heading-exactly h).1 (flag word), number, (word-exactly h).1 word, none)
      (or-second (has_exponent f) true refl)

  said-wrong : WrongFlag Met h f → flag_fault bib bib001 h f ≡ true
  unfolding flag_wrong
  said-wrong (raised heading r) =
      let e = (exponent-exactly f).1 r in
      rw ((heading-exactly h).1 heading, raised-number f e, e) refl
  said-wrong (no_code word v says missed) = missed-fault word v says (by-test (has_code bib bib001 f) refl)
    where
      by-test : (b : Bool) → has_code bib bib001 f ≡ b → b ≡ false
      by-test true e = let (n, x, q) = coded-met e in absurd (missed n x (same v (whole_value n) (sym says ∙ q)))
      by-test false e = refl

  wrong-said : flag_fault bib bib001 h f ≡ true → WrongFlag Met h f
  unfolding flag_wrong
  wrong-said e =
      let missed = is_flag h && not (has_code bib bib001 f) in
      let number = says_number (form_at f) in
      let heading = and_left (is_flag_heading h) (number && (has_exponent f || missed)) e in
      let rest = and_right (is_flag_heading h) (number && (has_exponent f || missed)) e in
      let (v, says) = number-of (read_field f) (and_left number (has_exponent f || missed) rest) in
      by-test (has_exponent f) refl (and_right number (has_exponent f || missed) rest) heading v says
    where
      by-test : (b : Bool) → has_exponent f ≡ b → (b || (is_flag h && not (has_code bib bib001 f))) ≡ true
          → is_flag_heading h ≡ true → (v : Decimal) → read_field f ≡ Number v → WrongFlag Met h f
      by-test true p e heading v says = raised ((heading-exactly h).0 heading) ((exponent-exactly f).0 p)
      by-test false p e heading v says =
          no_code ((word-exactly h).0 (and_left (is_flag h) (not (has_code bib bib001 f)) e)) v says
          (λ n x q.
          differ
          (sym (met-coded n x p (says ∙ ap Number q))
          ∙ not-true (has_code bib bib001 f) (and_right (is_flag h) (not (has_code bib bib001 f)) e)))

  -- ---- and right

  fault-fits : flag_fault bib bib001 h f ≡ false → FlagFits Met h f
  fault-fits e =
      record {
        no_exponent = λ heading r. differ (sym (said-wrong (raised heading r)) ∙ e);
        coded = λ word v says. by-test word v says (has_code bib bib001 f) refl;
      }
    where
      by-test : FlagWord h → (v : Decimal) → read_field f ≡ Number v → (b : Bool) → has_code bib bib001 f ≡ b
          → (n : ℕ) × Met n × (v ≡ whole_value n)
      by-test word v says true c =
          let (n, x, q) = coded-met c in
          (n, x, same v (whole_value n) (sym says ∙ q))
      by-test word v says false c = differ (sym (missed-fault word v says c) ∙ e)

  fits-fault : FlagFits Met h f → flag_fault bib bib001 h f ≡ false
  fits-fault x = false-where (flag_fault bib bib001 h f) (wrong-said, said-wrong) (λ w. by_way w)
    where
      by_way : WrongFlag Met h f → ⊥
      by_way (raised heading r) = x.no_exponent heading r
      by_way (no_code word v says missed) = let (n, m, q) = x.coded word v says in missed n m q

pub flag-wrong : (Met : ℕ → Type 0) → FlagWrongExactly Met
flag-wrong Met bib bib001 h f met = (wrong-said Met bib bib001 h f met, said-wrong Met bib bib001 h f met)

pub flag-fits : (Met : ℕ → Type 0) → FlagFitsExactly Met
flag-fits Met bib bib001 h f met = (fault-fits Met bib bib001 h f met, fits-fault Met bib bib001 h f met)
