-- What the rules ask of TRANS and ENDTRANS is what is said of them plainly. Assumes nothing.
use Prim.Native.Nat.{ℕ, ◌+◌, ◌-◌, ◌<◌, ◌≤◌}
use mathlib.Core.Path.{◌≡◌, refl, sym, ap, subst}
use mathlib.Core.Bool.{true, false, not, ◌||◌}
use mathlib.Core.List.{List, []}
use native.Mathlib.Omega.{arith}
use borrow.Author.Tests.{eqb-true, eq-eqb, ne_eqb, not-false}
use lib.Dec.{eqb}
use lib.ListN.{length, get_or}
use Rattle.laws.specs.Search.{first}
use Rattle.laws.proofs.Search.{pass-first}
use Rattle.laws.proofs.Counting.{first-before}
use Rattle.laws.proofs.Booleans.{and_left, and_right, and_both}
use Rattle.laws.proofs.Walk.{all-at}
use Rattle.paper_record.specs.Columns.{has_line_feed}
use Rattle.paper_record.specs.Fields.{fields_of, field_at, n1, n2}
use Rattle.paper_record.specs.Text.{is_capital, is_digit}
use Rattle.paper_record.proofs.ReadColumns.{field-of}
use Rattle.paper_record.specs.Class.{is_permitted, not_permitted}
use Rattle.paper_record.specs.Word.{blank_to}
use Rattle.paper_record.specs.Identifier.{TRANS, ENDTRANS, OTHER}
use Rattle.paper_record.specs.PlainNames.{Named}
use Rattle.paper_record.proofs.PlainNames.{name-exactly}
use Rattle.std.proofs.Common.{Option, Some, None}
use Rattle.paper_record.specs.System.{count_of, is_count, number_of, is_date}
use Rattle.paper_record.specs.Plain.{CapitalOrDigit, CountSays}
use Rattle.paper_record.proofs.PlainColumns.{blank-exactly}
use Rattle.paper_record.proofs.PlainDigits.{count-exactly, date-exactly, mark-exactly}
use Rattle.paper_rules.specs.Roles.{NOT-DUE}
use Rattle.paper_faults.specs.Fault.{Finding}
use Rattle.laws.proofs.EitherWay.{no}
use Rattle.paper_rules.specs.Every.{rule2, rule3, rule4}
use Rattle.paper_rules.specs.Counts.{count_n1}
use Rattle.paper_faults.specs.Least.{no_finding}
use Rattle.paper_faults.proofs.NoColumns.{when-none, none-when, whens-none, where-none, none-where}
use Rattle.paper_faults.proofs.Least.{Empty}
use Rattle.paper_files.specs.Outside.{no_mark, marks_in, is_trans_n1, trans_form, rule7_outside, rule8_outside}
use Rattle.paper_files.specs.Outside.{outside_findings}
use Rattle.files_shape.specs.Shape.{GoodOutside}
use Rattle.files_shape.specs.PlainShape.{Outer, TransN1, GoodTrans, GoodEndtrans, TransExactly, EndtransExactly}

-- ---- N1 of TRANS

marks-said : (f : List ℕ) → marks_in f 7 4 ≡ true → (i : ℕ) → i < 4 → CapitalOrDigit (get_or f (7 + i) 0)
unfolding marks_in
marks-said f e i l =
    let z = eqb-true (first (no_mark f) 7 4) 11 e in
    (mark-exactly (get_or f (7 + i) 0)).0
    (not-false (is_capital (get_or f (7 + i) 0) || is_digit (get_or f (7 + i) 0))
    (first-before (no_mark f) 7 4 (7 + i) (omega arith) (omega arith) (omega arith)))

said-marks : (f : List ℕ) → ((i : ℕ) → i < 4 → CapitalOrDigit (get_or f (7 + i) 0)) → marks_in f 7 4 ≡ true
unfolding marks_in
said-marks f h = eq-eqb (first (no_mark f) 7 4) 11 (pass-first (no_mark f) 7 4 (λ k a b. at_mark k a b))
  where
    at_mark : (k : ℕ) → 7 ≤ k → k < 7 + 4 → no_mark f k ≡ false
    at_mark k a b =
        let e : 7 + (k - 7) ≡ k = omega arith in
        let m = (mark-exactly (get_or f k 0)).1 (subst (λ (j : ℕ). CapitalOrDigit (get_or f j 0)) e (h (k - 7) (omega arith))) in
        rw m refl

trans-said : (f : List ℕ) → is_trans_n1 f ≡ true → TransN1 f
unfolding is_trans_n1
trans-said f e =
    record {
      blank = (blank-exactly 7 f).0 (and_left (blank_to 7 f) (marks_in f 7 4) e);
      identifier = marks-said f (and_right (blank_to 7 f) (marks_in f 7 4) e);
    }

said-trans : (f : List ℕ) → TransN1 f → is_trans_n1 f ≡ true
unfolding is_trans_n1
said-trans f x = and_both ((blank-exactly 7 f).1 x.blank) (said-marks f x.identifier)

-- ---- what every record has

module _ (name entries : ℕ) (r : List ℕ) (known : name < OTHER) where
  abbrev found : List Finding
  found = outside_findings entries name (fields_of r) r

  outer-said : GoodOutside name entries r → Outer name r
  unfolding rule2 rule3
  outer-said g =
      record {
        whole = g.whole;
        line_feed = not-false (has_line_feed r) (when-none (not (has_line_feed r)) 81 (g.nothing 0 (omega arith)));
        permitted = λ i l.
            not-false (is_permitted (get_or r i 0))
            (where-none (not_permitted r) (λ i. i + 1) 80 (g.nothing 1 (omega arith)) i l);
        named =
            subst (λ (f : List ℕ). Named f name) (field-of r 0 (omega arith))
            ((name-exactly (get_or (fields_of r) 0 []) name known).0 g.named);
      }

  said-outer : Outer name r → rule7_outside name (fields_of r) ≡ [] → rule8_outside entries name (fields_of r) ≡ []
      → GoodOutside name entries r
  unfolding rule2 rule3 rule4
  said-outer o seven eight =
      record {
        whole = o.whole;
        named =
            (name-exactly (get_or (fields_of r) 0 []) name known).1
            (subst (λ (f : List ℕ). Named f name) (sym (field-of r 0 (omega arith))) o.named);
        nothing = all-at Empty no_finding found (two, (three, (four, (seven, (eight, tt)))));
      }
    where
      two : rule2 r ≡ []
      two = none-when (not (has_line_feed r)) 81 (rw o.line_feed refl)

      three : rule3 r ≡ []
      three = none-where (not_permitted r) (λ i. i + 1) 80 (λ k l. rw (o.permitted k l) refl)

      four : rule4 name ≡ []
      four = none-when (eqb name NOT-DUE) 1 (ne_eqb name NOT-DUE (λ e. omega arith))

-- ---- TRANS

pub trans-exactly : TransExactly
unfolding rule7_outside rule8_outside trans_form
trans-exactly entries r = (
  λ g.
      let fs = fields_of r in
      let w = whens-none (not (is_trans_n1 (n1 fs))) (not (is_date (n2 fs))) 12 23 (g.nothing 3 (omega arith)) in
      record {
        outer = outer-said TRANS entries r (omega arith) g;
        numbered = rw (field-of r 1 (omega arith)) at (trans-said (n1 fs) (not-false (is_trans_n1 (n1 fs)) w.0));
        dated = rw (field-of r 2 (omega arith)) at ((date-exactly (n2 fs)).0 (not-false (is_date (n2 fs)) w.1));
      },
  λ g.
      said-outer TRANS entries r (omega arith) g.outer
      (rw (
        field-of r 1 (omega arith),
        field-of r 2 (omega arith),
        said-trans (field_at r 1) g.numbered,
        (date-exactly (field_at r 2)).1 g.dated,
      ) refl) refl,
)

-- ---- ENDTRANS

a_count : (f : List ℕ) (n : ℕ) → is_count (count_of f) ≡ true → number_of (count_of f) ≡ n → CountSays 11 f n
a_count f n e q = (count-exactly 11 f n).0 (by_count (count_of f) e q)
  where
    by_count : (x : Option ℕ) → is_count x ≡ true → number_of x ≡ n → x ≡ Some n
    by_count (Some m) h z = ap Some z
    by_count None h z = no h

pub endtrans-exactly : EndtransExactly
unfolding rule7_outside rule8_outside
endtrans-exactly entries r = (
  λ g.
      let fs = fields_of r in
      let form = not-false (is_count (count_of (n1 fs)))
      (when-none (not (is_count (count_of (n1 fs)))) 12 (g.nothing 3 (omega arith))) in
      let count = eqb-true (count_n1 fs) entries
      (not-false (eqb (count_n1 fs) entries) (when-none (not (eqb (count_n1 fs) entries)) 12 (g.nothing 4 (omega arith)))) in
      record {
        outer = outer-said ENDTRANS entries r (omega arith) g;
        counted = rw (field-of r 1 (omega arith)) at (a_count (n1 fs) entries form count);
      },
  λ g.
      let e : count_of (field_at r 1) ≡ Some entries = (count-exactly 11 (field_at r 1) entries).1 g.counted in
      said-outer ENDTRANS entries r (omega arith) g.outer (rw (field-of r 1 (omega arith), e) refl)
      (rw (field-of r 1 (omega arith), e, eq-eqb entries entries refl) refl),
)
