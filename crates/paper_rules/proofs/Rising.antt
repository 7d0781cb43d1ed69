-- The findings of every record stand by rising numbers, each with its columns from left to right, within the paper's
-- bounds: rule by rule, then row by row.
-- Assumes nothing.
use Prim.Native.Nat.{ℕ, ◌+◌, ◌<◌, ◌≤◌}
use mathlib.Core.Bool.{Bool, cond, not, ◌&&◌, ◌||◌}
use mathlib.Core.List.{List, []}
use native.Mathlib.Omega.{arith}
use lib.Dec.{eqb}
use lib.ListN.{get_or}
use Rattle.paper_record.specs.Class.{not_permitted}
use Rattle.paper_record.specs.Columns.{has_line_feed}
use Rattle.paper_record.specs.Fields.{n1, n2}
use Rattle.paper_record.specs.Expected.{identification_of, sequence_of, in_digits}
use Rattle.paper_record.specs.Identifier.{is_end}
use Rattle.paper_record.specs.System.{subentry_of}
use Rattle.paper_record.specs.Word.{equal_to}
use Rattle.paper_record.specs.Faults.{bad_pointer}
use Rattle.paper_rules.specs.declared.types.Track.{Track}
use Rattle.paper_rules.specs.State.{Seen, used}
use Rattle.paper_rules.specs.Roles.{TEXT, DATA-HEADING, NOT-DUE, is_system, opens_subentry, opens_section, is_heading}
use Rattle.paper_rules.specs.Roles.{is_unit, is_value}
use Rattle.paper_faults.specs.Fault.{columns_where, on}
use Rattle.paper_rules.specs.Record.{field_column, pointer_column}
use Rattle.paper_rules.specs.Every.{rule2, rule3, rule4, expected_identification, rule5, expected_sequence, rule6}
use Rattle.paper_rules.specs.System.{form_n1, form_n2, in_form, rule7, accession_n1, number_due, rule9}
use Rattle.paper_rules.specs.Counts.{count_n1, count_n2, limit_n1, limit_n2, meets, announced_fault, count_true, rule8}
use Rattle.paper_rules.specs.Text.{keyword_fault, rule10, pointer_repeated, rule11_text}
use Rattle.paper_rules.specs.Headings.{rule11_heading, rule12_heading, rule12_unit, rule13}
use Rattle.paper_rules.specs.Pointers.{rule14}
use Rattle.paper_rules.specs.Values.{line_blank, rule15}
use Rattle.paper_rules.specs.Flags.{rule17}
use Rattle.laws.proofs.EitherWay.{either_way}
use Rattle.paper_rules.proofs.FewUsed.{used-few}
use Rattle.paper_rules.specs.Order.{findings}
use Rattle.paper_rules.specs.Rising.{LAST-RULE, LAST-COLUMN}
use Rattle.paper_faults.specs.Rising.{Rising, Sorted, no_more, also}
use Rattle.paper_faults.proofs.Rising.{when-rising, on-rising, before-rising, where-rising}
use Rattle.paper_rules.specs.Rising.{FindingsRise}

-- ---- columns from left to right

-- of the first n fields
fields-rising : (test : ℕ → Bool) (n : ℕ) → n ≤ 6 → Rising LAST-COLUMN 1 (columns_where test field_column n)
fields-rising test n h =
    where-rising test field_column (λ k. omega arith) n (omega arith) (λ k l. omega arith)

pointers-rising : (test : ℕ → Bool) → Rising LAST-COLUMN 1 (columns_where test pointer_column 6)
pointers-rising test =
    where-rising test pointer_column (λ k. omega arith) 6 (omega arith) (λ k l. omega arith)

-- ---- the rules

pub rising2 : (r : List ℕ) → Rising LAST-COLUMN 1 (rule2 r)
unfolding rule2
rising2 r = when-rising (not (has_line_feed r)) 1 81 (omega arith) (omega arith)

pub rising3 : (r : List ℕ) → Rising LAST-COLUMN 1 (rule3 r)
unfolding rule3
rising3 r = where-rising (not_permitted r) (λ i. i + 1) (λ k. omega arith) 80 (omega arith) (λ k l. omega arith)

pub rising4 : (role : ℕ) → Rising LAST-COLUMN 1 (rule4 role)
unfolding rule4
rising4 role = when-rising (eqb role NOT-DUE) 1 1 (omega arith) (omega arith)

module _ (t : Track) (s : Seen) (role : ℕ) (fs : List (List ℕ)) (r : List ℕ) where
  rising5 : Rising LAST-COLUMN 1 (rule5 t role fs r)
  unfolding rule5
  rising5 =
      when-rising (not (equal_to 8 (identification_of r) (expected_identification t role fs))) 1 67
      (omega arith) (omega arith)

  rising6 : Rising LAST-COLUMN 1 (rule6 t role r)
  unfolding rule6
  rising6 =
      when-rising (not (equal_to 5 (sequence_of r) (in_digits 5 (expected_sequence t role)))) 1 75
      (omega arith) (omega arith)

  rising7 : Rising LAST-COLUMN 1 (rule7 role fs)
  unfolding rule7
  rising7 =
      before-rising (not (in_form (form_n1 role) (n1 fs))) 1 12 _ (omega arith) (omega arith)
      (when-rising (not (in_form (form_n2 role) (n2 fs))) 12 23 (omega arith) (omega arith))

  announced-rising : (a b : ℕ) → Rising LAST-COLUMN 1 (announced_fault role a b)
  unfolding announced_fault
  announced-rising a b =
      before-rising (not (meets (limit_n1 role) a)) 1 12 _ (omega arith) (omega arith)
      (when-rising (not (meets (limit_n2 role a) b)) 12 23 (omega arith) (omega arith))

  rising8 : Rising LAST-COLUMN 1 (rule8 t role fs)
  unfolding rule8
  rising8 =
      either_way (Rising LAST-COLUMN 1) (opens_section role) _ _ (announced-rising (count_n1 fs) (count_n2 fs))
      (on-rising (is_end role) _ (when-rising (not (count_true t role (count_n1 fs))) 1 12 (omega arith) (omega arith)))

  rising9 : Rising LAST-COLUMN 1 (rule9 t fs)
  unfolding rule9
  rising9 =
      when-rising (not (equal_to 5 (accession_n1 fs) t.accession && number_due t (subentry_of (n1 fs)))) 1 12
      (omega arith) (omega arith)

  rising10 : Rising LAST-COLUMN 1 (rule10 s.bib t fs)
  unfolding rule10
  rising10 = when-rising (keyword_fault s.bib t (get_or fs 0 [])) 1 1 (omega arith) (omega arith)

  rising11-text : Rising LAST-COLUMN 1 (rule11_text s.under fs)
  unfolding rule11_text
  rising11-text =
      when-rising (bad_pointer (get_or fs 0 []) || pointer_repeated s.under (get_or fs 0 [])) 1 11
      (omega arith) (omega arith)

  rising11-heading : Rising LAST-COLUMN 1 (rule11_heading t fs)
  unfolding rule11_heading
  rising11-heading = pointers-rising _

  rising12-heading : Rising LAST-COLUMN 1 (rule12_heading t fs)
  unfolding rule12_heading
  rising12-heading = fields-rising _ 6 (omega arith)

  rising12-unit : Rising LAST-COLUMN 1 (rule12_unit t fs)
  unfolding rule12_unit
  rising12-unit = fields-rising _ 6 (omega arith)

  rising13 : Rising LAST-COLUMN 1 (rule13 s t role fs r)
  unfolding rule13
  rising13 = fields-rising _ (used t) (used-few t)

  rising14 : Rising LAST-COLUMN 1 (rule14 s t fs)
  unfolding rule14
  rising14 = fields-rising _ (used t) (used-few t)

  rising15 : Rising LAST-COLUMN 1 (rule15 t role fs)
  unfolding rule15
  rising15 = before-rising (line_blank t role fs) 1 1 _ (omega arith) (omega arith) (fields-rising _ 6 (omega arith))

  rising17 : Rising LAST-COLUMN 1 (rule17 s t fs)
  unfolding rule17
  rising17 = fields-rising _ (used t) (used-few t)

  -- 11 and 12 are each made on two kinds of records
  rising11 : Rising LAST-COLUMN 1 (cond (eqb role TEXT) (rule11_text s.under fs) (on (is_heading role) (rule11_heading t fs)))
  rising11 =
      either_way (Rising LAST-COLUMN 1) (eqb role TEXT) _ _ rising11-text (on-rising (is_heading role) _ rising11-heading)

  rising12 : Rising LAST-COLUMN 1 (cond (is_heading role) (rule12_heading t fs) (on (is_unit role) (rule12_unit t fs)))
  rising12 = either_way (Rising LAST-COLUMN 1) (is_heading role) _ _ rising12-heading (on-rising (is_unit role) _ rising12-unit)

  -- ---- the rows, in their order

  next : (n : ℕ) → n < n + 1
  next n = omega arith

  behind-15 : 15 < 17
  behind-15 = omega arith

  last : 17 ≤ LAST-RULE
  last = omega arith

  rows : Sorted LAST-RULE LAST-COLUMN 1 (findings t s role fs r)
  rows =
      also (next 1) (rising2 r)
      (also (next 2) (rising3 r)
      (also (next 3) (rising4 role)
      (also (next 4) rising5
      (also (next 5) rising6
      (also (next 6) (on-rising (is_system role) _ rising7)
      (also (next 7) (on-rising (is_system role) _ rising8)
      (also (next 8) (on-rising (opens_subentry role) _ rising9)
      (also (next 9) (on-rising (eqb role TEXT) _ rising10)
      (also (next 10) rising11
      (also (next 11) rising12
      (also (next 12) (on-rising (is_heading role) _ rising13)
      (also (next 13) (on-rising (eqb role DATA-HEADING) _ rising14)
      (also (next 14) (on-rising (is_value role) _ rising15)
      (also behind-15 (on-rising (is_value role) _ rising17) (no_more last)))))))))))))))

pub findings-rise : FindingsRise
findings-rise = rows
