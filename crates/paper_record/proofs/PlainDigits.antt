-- Digits, counts, dates and accessions: what is computed is what is said plainly.
-- Assumes nothing.
use Prim.Native.Nat.{ℕ, zero, suc, ◌+◌, ◌-◌, ◌*◌, ◌<◌, ◌≤◌}
use mathlib.Core.Path.{◌≡◌, refl, sym, ap, ◌∙◌, subst}
use mathlib.Core.Bool.{Bool, true, false, cond, not, ◌&&◌, ◌||◌}
use mathlib.Core.List.{List, [], ◌∷◌, ◌++◌}
use native.Mathlib.Omega.{arith}
use native.Mathlib.Nat.{add-zero}
use lib.Dec.{eqb, leb}
use lib.ListN.{length, get_or, take, drop, length-append, length-drop, length-replicate}
use lib.Seq.{get_or-take, get_or-drop, take-suc, take-take, take-add, take_at, drop_at, ext_get_or}
use borrow.Author.Tests.{eqb-true, eqb-false, eq-eqb, ne_eqb, leb-true, le-leb, not-false}
use Rattle.laws.specs.Search.{first}
use Rattle.laws.proofs.Booleans.{differ, and_left, and_right, or-other, and_both, or-first, or-second}
use Rattle.laws.proofs.Counting.{first-before, first-is}
use Rattle.laws.proofs.Search.{either, first-pass, first_to, pass-first}
use Rattle.paper_number.specs.Grammar.{blanks, Digits, digits_text, num}
use Rattle.paper_number.proofs.Reach.{text-append, num_from-append, digits_append}
use Rattle.paper_record.specs.Text.{within, is_digit, is_capital}
use Rattle.paper_record.specs.Columns.{columns_at}
use Rattle.std.proofs.Common.{Some, None}
use Rattle.paper_record.specs.Word.{blank_at, filled_at, blank_to}
use Rattle.paper_record.specs.System.{no_digit_at, digits_in, digit_of, number_in, start_of, integer_of, is_date}
use Rattle.paper_record.specs.System.{is_accession, is_entry_n1, is_subent_n1, subentry_of}
use Rattle.paper_record.specs.Plain.{DigitsSay, CountSays, Date, CapitalOrDigit, a_capital, a_digit, Accession, EntryN1}
use Rattle.paper_record.specs.Plain.{SubentN1, DigitsExactly, CountExactly, DateExactly, MarkExactly, EntryExactly}
use Rattle.paper_record.specs.Plain.{SubentExactly}
use Rattle.paper_record.proofs.PlainColumns.{there, columns-blank, blank-columns}
use Rattle.paper_record.proofs.PlainColumns.{blank-exactly}

-- ---- digits, column by column

abbrev Digital : List ℕ → ℕ → ℕ → Type 0
Digital f i n = (j : ℕ) → j < n → (48 ≤ get_or f (i + j) 0) × (get_or f (i + j) 0 ≤ 57)

digits-at : (f : List ℕ) (i n : ℕ) → digits_in f i n ≡ true → Digital f i n
unfolding digits_in
digits-at f i n e j l =
    let b = get_or f (i + j) 0 in
    let a = eqb-true (first (no_digit_at f) i n) (i + n) e in
    let d = not-false (is_digit b) (first-pass (no_digit_at f) i n a (i + j) (omega arith) (omega arith)) in
    (leb-true 48 b (and_left (leb 48 b) (leb b 57) d), leb-true b 57 (and_right (leb 48 b) (leb b 57) d))

at-digits : (f : List ℕ) (i n : ℕ) → Digital f i n → digits_in f i n ≡ true
unfolding digits_in
at-digits f i n h =
    eq-eqb (first (no_digit_at f) i n) (i + n) (pass-first (no_digit_at f) i n (λ k a b. one k a b))
  where
    one : (k : ℕ) → i ≤ k → k < i + n → no_digit_at f k ≡ false
    one k a b =
        let z : i + (k - i) ≡ k = omega arith in
        let d : (48 ≤ get_or f k 0) × (get_or f k 0 ≤ 57) = rw z at (h (k - i) (omega arith)) in
        ap not (and_both (le-leb 48 (get_or f k 0) d.0) (le-leb (get_or f k 0) 57 d.1))

part-digits : (f : List ℕ) (i n k w : ℕ) → k + w ≤ n → Digital f i n → Digital f (i + k) w
part-digits f i n k w l h j p = let z : i + k + j ≡ i + (k + j) = omega arith in rw z (h (k + j) (omega arith))

join-digits : (f : List ℕ) (i a b : ℕ) → Digital f i a → Digital f (i + a) b → Digital f i (a + b)
join-digits f i a b h k j l =
    either j a (λ p. h j p)
    (λ p. let z : i + j ≡ i + a + (j - a) = omega arith in rw z (k (j - a) (omega arith)))

-- ---- digits and their number

says : (f : List ℕ) (i n : ℕ) → Digital f i n → DigitsSay f i n (number_in f i n)
unfolding number_in
says f i zero h = record { digits = []; each = tt; wide = refl; same = refl; number = refl }
says f i (suc n) h =
    let x = says f i n (λ j l. h j (omega arith)) in
    let b : ℕ = get_or f (i + n) 0 in
    let d : ℕ = digit_of b in
    let p = h n (omega arith) in
    let z : b ≡ 48 + d = omega (arith, p.0) in
    let w : n < length (drop i f) = rw length-drop (let l = there f (i + n) (omega (arith, p.0)) in omega arith) in
    record {
      digits = x.digits ++ (d ∷ []);
      each = digits_append x.digits (d ∷ []) x.each (omega (arith, p.1), tt);
      wide = length-append x.digits (d ∷ []) ∙ (let y = x.wide in omega arith);
      same =
          take-suc (drop i f) n 0 w
          ∙ ap (λ (y : List ℕ). y ++ (get_or (drop i f) n 0 ∷ [])) x.same
          ∙ ap (λ (k : ℕ). digits_text x.digits ++ (k ∷ [])) (get_or-drop i f n 0 ∙ z)
          ∙ sym (text-append x.digits (d ∷ []));
      number = num_from-append 0 x.digits (d ∷ []) ∙ ap (λ (k : ℕ). k * 10 + d) x.number;
    }

text_at : (ds : List ℕ) (j : ℕ) → j < length ds → get_or (digits_text ds) j 0 ≡ 48 + get_or ds j 0
text_at [] j l = absurd (omega arith)
text_at (d ∷ ds) zero l = refl
text_at (d ∷ ds) (suc j) l = text_at ds j (omega arith)

digit_at : (ds : List ℕ) → Digits ds → (j : ℕ) → j < length ds → get_or ds j 0 < 10
digit_at [] h j l = absurd (omega arith)
digit_at (d ∷ ds) h zero l = h.0
digit_at (d ∷ ds) h (suc j) l = digit_at ds h.1 j (omega arith)

module _ (f : List ℕ) (i n : ℕ) where
  said_at : (m : ℕ) (x : DigitsSay f i n m) (j : ℕ) → j < n → get_or f (i + j) 0 ≡ 48 + get_or x.digits j 0
  said_at m x j l =
      let y = x.wide in
      sym (get_or-drop i f j 0) ∙ sym (get_or-take n (drop i f) j 0 l) ∙ ap (λ (t : List ℕ). get_or t j 0) x.same
      ∙ text_at x.digits j (omega arith)

  digital : (m : ℕ) → DigitsSay f i n m → Digital f i n
  digital m x j l =
      let y = x.wide in
      let e = said_at m x j l in
      let d = digit_at x.digits x.each j (omega arith) in
      (omega arith, omega arith)

  -- columns say one number
  one_number : (m k : ℕ) → DigitsSay f i n m → DigitsSay f i n k → m ≡ k
  one_number m k x y =
      let p = x.wide in
      let q = y.wide in
      let e : x.digits ≡ y.digits =
      ext_get_or 0 x.digits y.digits (p ∙ sym q)
      (λ j l.
      let h : j < n = omega arith in
      let a = said_at m x j h in
      let b = said_at k y j h in
      omega arith) in
      sym x.number ∙ ap (λ (ds : List ℕ). num ds) e ∙ y.number

pub digits-exactly : DigitsExactly
digits-exactly f i n m = (
  λ h. subst (λ (k : ℕ). DigitsSay f i n k) h.1 (says f i n (digits-at f i n h.0)),
  λ x.
      let h = digital f i n m x in
      (at-digits f i n h, one_number f i n (number_in f i n) m (says f i n h) x),
)

-- ---- counts

count-said : (w : ℕ) (f : List ℕ) (m : ℕ) → integer_of w f ≡ Some m → CountSays w f m
unfolding integer_of
count-said w f m e =
    by_tests (eqb (start_of w f) w) (digits_in f (start_of w f) (w - start_of w f)) refl refl e
  where
    by_tests : (a b : Bool) → eqb (start_of w f) w ≡ a → digits_in f (start_of w f) (w - start_of w f) ≡ b
        → cond a None (cond b (Some (number_in f (start_of w f) (w - start_of w f))) None) ≡ Some m → CountSays w f m
    by_tests true b p q e = let z : ◌≡◌ {A = ℕ} 0 1 = cc in absurd (omega arith)
    by_tests false false p q e = let z : ◌≡◌ {A = ℕ} 0 1 = cc in absurd (omega arith)
    by_tests false true p q e =
        let s : ℕ = start_of w f in
        let k : number_in f s (w - s) ≡ m = cc in
        let x = (digits-exactly f s (w - s) m).0 (q, k) in
        let u : s ≤ 0 + (w - 0) = first_to (filled_at f) 0 (w - 0) in
        let v = eqb-false s w p in
        let t : s < w = either s w (λ l. l) (λ l. absurd (v (omega arith))) in
        let y = x.wide in
        let z : w ≡ s + (w - s) = omega arith in
        let blank : take s f ≡ blanks s =
        columns-blank s f
        (λ j l. eqb-true (get_or f j 0) 32
        (not-false (blank_at f j) (first-before (filled_at f) 0 (w - 0) j (omega arith) l (omega arith)))) in
        record {
          lead = s;
          digits = x.digits;
          each = x.each;
          some = omega arith;
          wide = omega arith;
          same =
              ap (λ (j : ℕ). take j f) z ∙ take-add s (w - s) f
              ∙ ap (λ (l : List ℕ). l ++ columns_at s (w - s) f) blank ∙ ap (λ (l : List ℕ). blanks s ++ l) x.same;
          number = x.number;
        }

-- of a count: its blanks, and its digits behind them
module _ (w : ℕ) (f : List ℕ) (m : ℕ) (x : CountSays w f m) where
  abbrev leads : ℕ
  leads = x.lead

  abbrev many : ℕ
  many = length x.digits

  whole : take (leads + many) f ≡ blanks leads ++ digits_text x.digits
  whole = ap (λ (j : ℕ). take j f) x.wide ∙ x.same

  count-blank : take leads f ≡ blanks leads
  count-blank =
      sym (take-take leads (leads + many) f (omega arith)) ∙ ap (λ (l : List ℕ). take leads l) whole
      ∙ take_at (blanks leads) (digits_text x.digits) leads (length-replicate leads 32)

  count-digits : DigitsSay f leads many m
  count-digits =
      record {
        digits = x.digits;
        each = x.each;
        wide = refl;
        same =
            sym (drop_at (take leads f) (columns_at leads many f) leads
            (ap (λ (l : List ℕ). length l) count-blank ∙ length-replicate leads 32))
            ∙ ap (λ (l : List ℕ). drop leads l) (sym (take-add leads many f) ∙ whole)
            ∙ drop_at (blanks leads) (digits_text x.digits) leads (length-replicate leads 32);
        number = x.number;
      }

  -- the first filled column is the first digit
  count-starts : start_of w f ≡ leads
  count-starts =
      let y = x.wide in
      let s = x.some in
      let d : 48 ≤ get_or f leads 0 = rw (add-zero leads) at (digital f leads many m count-digits 0 (omega arith)).0 in
      let t : filled_at f leads ≡ true = ap not (ne_eqb (get_or f leads 0) 32 (λ z. omega arith)) in
      first-is (filled_at f) 0 (w - 0) leads (omega arith) (omega arith) t
      (λ k a b. ap not (eq-eqb (get_or f k 0) 32 (blank-columns leads f count-blank k b)))

at-start : (w : ℕ) (f : List ℕ) (m s n : ℕ) → start_of w f ≡ s → w - s ≡ n → eqb s w ≡ false → digits_in f s n ≡ true
    → number_in f s n ≡ m → integer_of w f ≡ Some m
unfolding integer_of
at-start w f m s n a b c d e = rw (a, b, c, d, e)

said-count : (w : ℕ) (f : List ℕ) (m : ℕ) → CountSays w f m → integer_of w f ≡ Some m
said-count w f m x =
    let y = x.wide in
    let s = x.some in
    let d = (digits-exactly f x.lead (length x.digits) m).1 (count-digits w f m x) in
    at-start w f m x.lead (length x.digits) (count-starts w f m x) (omega arith)
    (ne_eqb x.lead w (λ z. omega arith)) d.0 d.1

pub count-exactly : CountExactly
count-exactly w f m = (count-said w f m, said-count w f m)

-- ---- dates

three : (a b c : Bool) → (a && b && c) ≡ true → (a ≡ true) × (b ≡ true) × (c ≡ true)
three true true true e = (refl, refl, refl)
three true true false e = differ (sym e)
three true false c e = differ (sym e)
three false b c e = differ (sym e)

four : (a b c d : Bool) → (a && b && c && d) ≡ true → (a ≡ true) × (b ≡ true) × (c ≡ true) × (d ≡ true)
four true true true true e = (refl, refl, refl, refl)
four true true true false e = differ (sym e)
four true true false d e = differ (sym e)
four true false c d e = differ (sym e)
four false b c d e = differ (sym e)

all_three : (a b c : Bool) → a ≡ true → b ≡ true → c ≡ true → (a && b && c) ≡ true
all_three a b c p q r = rw (p, q, r)

all-four : (a b c d : Bool) → a ≡ true → b ≡ true → c ≡ true → d ≡ true → (a && b && c && d) ≡ true
all-four a b c d p q r s = rw (p, q, r, s)

date-said : (f : List ℕ) → is_date f ≡ true → Date f
unfolding is_date
date-said f e =
    let m : ℕ = number_in f 7 2 in
    let d : ℕ = number_in f 9 2 in
    let t = four (blank_to 3 f) (digits_in f 3 8) (within 1 12 m) (within 1 31 d) e in
    let h = digits-at f 3 8 t.1 in
    record {
      year = number_in f 3 4;
      month = m;
      day = d;
      blank = (blank-exactly 3 f).0 t.0;
      of_year = says f 3 4 (part-digits f 3 8 0 4 (omega arith) h);
      of_month = says f 7 2 (part-digits f 3 8 4 2 (omega arith) h);
      of_day = says f 9 2 (part-digits f 3 8 6 2 (omega arith) h);
      month_from = leb-true 1 m (and_left (leb 1 m) (leb m 12) t.2);
      month_to = leb-true m 12 (and_right (leb 1 m) (leb m 12) t.2);
      day_from = leb-true 1 d (and_left (leb 1 d) (leb d 31) t.3);
      day_to = leb-true d 31 (and_right (leb 1 d) (leb d 31) t.3);
    }

in-range : (low high n m : ℕ) → n ≡ m → low ≤ m → m ≤ high → within low high n ≡ true
in-range low high n m e p q = rw e (and_both (le-leb low m p) (le-leb m high q))

said-date : (f : List ℕ) → Date f → is_date f ≡ true
unfolding is_date
said-date f x =
    let m = (digits-exactly f 7 2 x.month).1 x.of_month in
    let d = (digits-exactly f 9 2 x.day).1 x.of_day in
    all-four (blank_to 3 f) (digits_in f 3 8) (within 1 12 (number_in f 7 2)) (within 1 31 (number_in f 9 2))
    ((blank-exactly 3 f).1 x.blank)
    (at-digits f 3 8
    (join-digits f 3 4 4 (digital f 3 4 x.year x.of_year)
    (join-digits f 7 2 2 (digital f 7 2 x.month x.of_month) (digital f 9 2 x.day x.of_day))))
    (in-range 1 12 (number_in f 7 2) x.month m.1 x.month_from x.month_to)
    (in-range 1 31 (number_in f 9 2) x.day d.1 x.day_from x.day_to)

pub date-exactly : DateExactly
date-exactly f = (date-said f, said-date f)

-- ---- N1 of ENTRY, SUBENT and NOSUBENT

first_said : (b : ℕ) (t : Bool) → is_capital b ≡ t → (is_capital b || is_digit b) ≡ true → CapitalOrDigit b
first_said b true q e =
    a_capital (leb-true 65 b (and_left (leb 65 b) (leb b 90) q)) (leb-true b 90 (and_right (leb 65 b) (leb b 90) q))
first_said b false q e =
    let d = or-other (is_capital b) (is_digit b) e q in
    a_digit (leb-true 48 b (and_left (leb 48 b) (leb b 57) d)) (leb-true b 57 (and_right (leb 48 b) (leb b 57) d))

said-first : (b : ℕ) → CapitalOrDigit b → (is_capital b || is_digit b) ≡ true
said-first b (a_capital p q) = or-first (is_capital b) (is_digit b) (in-range 65 90 b b refl p q)
said-first b (a_digit p q) = or-second (is_capital b) (is_digit b) (in-range 48 57 b b refl p q)

pub mark-exactly : MarkExactly
mark-exactly b = (first_said b (is_capital b) refl, said-first b)

accession-said : (f : List ℕ) (i : ℕ) → is_accession f i ≡ true → Accession f i
unfolding is_accession
accession-said f i e =
    let b : ℕ = get_or f i 0 in
    let a = and_left (is_capital b || is_digit b) (digits_in f (i + 1) 4) e in
    let d = and_right (is_capital b || is_digit b) (digits_in f (i + 1) 4) e in
    record {
      serial = number_in f (i + 1) 4;
      first = first_said b (is_capital b) refl a;
      digits = says f (i + 1) 4 (digits-at f (i + 1) 4 d);
    }

said-accession : (f : List ℕ) (i : ℕ) → Accession f i → is_accession f i ≡ true
unfolding is_accession
said-accession f i x =
    and_both (said-first (get_or f i 0) x.first) ((digits-exactly f (i + 1) 4 x.serial).1 x.digits).0

pub entry-exactly : EntryExactly
unfolding is_entry_n1
entry-exactly f = (
  λ e. record {
    blank = (blank-exactly 6 f).0 (and_left (blank_to 6 f) (is_accession f 6) e);
    accession = accession-said f 6 (and_right (blank_to 6 f) (is_accession f 6) e);
  },
  λ x. and_both ((blank-exactly 6 f).1 x.blank) (said-accession f 6 x.accession),
)

subent-said : (f : List ℕ) (n : ℕ) → is_subent_n1 f ≡ true → subentry_of f ≡ n → SubentN1 f n
unfolding is_subent_n1 subentry_of
subent-said f n e q =
    let t = three (blank_to 3 f) (is_accession f 3) (digits_in f 8 3) e in
    record {
      blank = (blank-exactly 3 f).0 t.0;
      accession = accession-said f 3 t.1;
      digits = (digits-exactly f 8 3 n).0 (t.2, q);
    }

said-subent : (f : List ℕ) (n : ℕ) → SubentN1 f n → (is_subent_n1 f ≡ true) × (subentry_of f ≡ n)
unfolding is_subent_n1 subentry_of
said-subent f n x =
    let d = (digits-exactly f 8 3 n).1 x.digits in (
      all_three (blank_to 3 f) (is_accession f 3) (digits_in f 8 3) ((blank-exactly 3 f).1 x.blank)
          (said-accession f 3 x.accession) d.0,
      d.1,
    )

pub subent-exactly : SubentExactly
subent-exactly f n = (λ h. subent-said f n h.0 h.1, said-subent f n)
