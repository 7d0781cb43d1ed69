-- All that the rules find on a record stands in the table, on its role: rule by rule, and so the least of it.
-- Assumes nothing.
use Prim.Native.Nat.{ℕ, ◌+◌, ◌<◌, ◌≤◌}
use mathlib.Core.Path.{◌≡◌, refl, subst}
use mathlib.Core.Bool.{Bool, true, false, not, ◌&&◌, ◌||◌}
use mathlib.Core.List.{List, [], ◌∷◌}
use mathlib.Core.Logic.{inl, inr}
use native.Mathlib.Omega.{arith}
use borrow.Author.Tests.{eqb-true, le-leb, ltb-true}
use lib.Dec.{eqb}
use lib.ListN.{length, get_or}
use Rattle.laws.specs.Members.{any_of}
use Rattle.laws.specs.Search.{first}
use Rattle.laws.specs.Walk.{All}
use Rattle.laws.proofs.Booleans.{either-as}
use Rattle.laws.proofs.Walk.{all-at}
use Rattle.paper_record.specs.Class.{not_permitted}
use Rattle.paper_record.specs.Columns.{has_line_feed}
use Rattle.paper_record.specs.Fields.{n1, n2}
use Rattle.paper_record.specs.Text.{within}
use Rattle.paper_record.specs.Expected.{identification_of, sequence_of, in_digits}
use Rattle.paper_record.specs.Identifier.{SUBENT, NOSUBENT, TRANS, is_end}
use Rattle.paper_record.specs.System.{subentry_of}
use Rattle.paper_record.specs.Word.{equal_to}
use Rattle.paper_record.specs.Faults.{bad_pointer}
use Rattle.paper_rules.specs.declared.types.Track.{Track}
use Rattle.paper_rules.specs.State.{Seen, used}
use Rattle.paper_rules.specs.Roles.{TEXT, DATA-HEADING, NOT-DUE, is_system, opens_subentry, opens_section, is_heading}
use Rattle.paper_rules.specs.Roles.{is_unit, is_value}
use Rattle.paper_faults.specs.Fault.{Finding, when}
use Rattle.paper_rules.specs.Record.{field_column, pointer_column}
use Rattle.laws.proofs.EitherWay.{no}
use Rattle.paper_rules.specs.Every.{rule2, rule3, rule4, expected_identification, rule5, expected_sequence, rule6}
use Rattle.paper_rules.specs.System.{FREE, form_n1, form_n2, in_form, rule7, accession_n1, number_due, rule9}
use Rattle.paper_rules.specs.Counts.{count_n1, count_n2, limit_n1, limit_n2, meets, announced_fault, count_true, rule8}
use Rattle.paper_rules.specs.Text.{keyword_fault, rule10, pointer_repeated, rule11_text}
use Rattle.paper_rules.specs.Headings.{rule11_heading, rule12_heading, rule12_unit, rule13}
use Rattle.paper_rules.specs.Pointers.{rule14}
use Rattle.paper_rules.specs.Values.{line_blank, rule15}
use Rattle.paper_rules.specs.Flags.{rule17}
use Rattle.paper_rules.specs.Order.{findings}
use Rattle.paper_faults.specs.Least.{Before, no_finding, Least}
use Rattle.paper_rules.proofs.FewUsed.{used-few}
use Rattle.paper_rules.proofs.ByKind.{of_two, of-headings, of-units, of_values}
use Rattle.refusal_table.specs.Table.{every_due, with_n1, with_n2, counted_n1, counted_n2, headings, headings_and_units}
use Rattle.refusal_table.specs.Table.{values, among, fields_first, fields_eleventh, refusals, no_row, TableAllows}
use Rattle.refusal_table.proofs.Columns.{Each, each-when, each_on, each_append, each-where, each-leftmost}
use Rattle.refusal_table.proofs.Columns.{computed, brought}

-- ---- kinds and columns of the table, each by one computed test

system-below : (role : ℕ) → is_system role ≡ true → role < TRANS
system-below role h = ltb-true role TRANS h

-- a form that is asked for
asked : (form : ℕ) (f : List ℕ) (b : Bool) → (eqb form FREE || b) ≡ true → not (in_form form f) ≡ true → b ≡ true
unfolding in_form
asked form f b e h = by-test (eqb form FREE) refl e
  where
    by-test : (t : Bool) → eqb form FREE ≡ t → (t || b) ≡ true → b ≡ true
    by-test true p q = no (subst (λ (x : ℕ). not (in_form x f) ≡ true) (eqb-true form FREE p) h)
    by-test false p q = q

n1-kinds : (role : ℕ) → is_system role ≡ true → (eqb (form_n1 role) FREE || with_n1 role) ≡ true
unfolding form_n1 is_end equal_to first any_of
n1-kinds role h =
    computed (λ k. eqb (form_n1 k) FREE || with_n1 k) TRANS tt refl role (system-below role h)

n2-kinds : (role : ℕ) → is_system role ≡ true → (eqb (form_n2 role) FREE || with_n2 role) ≡ true
unfolding form_n2 is_end equal_to first any_of
n2-kinds role h =
    computed (λ k. eqb (form_n2 k) FREE || with_n2 k) TRANS tt refl role (system-below role h)

section-kinds : (role : ℕ) → is_system role ≡ true → opens_section role ≡ true → counted_n2 role ≡ true
unfolding any_of
section-kinds role h o =
    brought (opens_section role) (counted_n2 role)
    (computed (λ k. not (opens_section k) || counted_n2 k) TRANS tt refl role (system-below role h)) o

section-kinds-too : (role : ℕ) → is_system role ≡ true → opens_section role ≡ true → counted_n1 role ≡ true
unfolding any_of
section-kinds-too role h o =
    brought (opens_section role) (counted_n1 role)
    (computed (λ k. not (opens_section k) || counted_n1 k) TRANS tt refl role (system-below role h)) o

end-kinds : (role : ℕ) → is_system role ≡ true → is_end role ≡ true → counted_n1 role ≡ true
unfolding is_end equal_to first any_of
end-kinds role h o =
    brought (is_end role) (counted_n1 role)
    (computed (λ k. not (is_end k) || counted_n1 k) TRANS tt refl role (system-below role h)) o

subentry-kinds : (role : ℕ) → opens_subentry role ≡ true → among (SUBENT ∷ NOSUBENT ∷ []) role ≡ true
unfolding any_of
subentry-kinds = of_two SUBENT NOSUBENT (λ k. among (SUBENT ∷ NOSUBENT ∷ []) k ≡ true) refl refl

pub one-kind : (k role : ℕ) → eqb role k ≡ true → among (k ∷ []) role ≡ true
unfolding any_of
one-kind k role h = rw h

pub heading-kinds : (role : ℕ) → is_heading role ≡ true → headings role ≡ true
unfolding any_of
heading-kinds = of-headings (λ k. headings k ≡ true) refl refl

heading-or-unit : (role : ℕ) → is_heading role ≡ true → headings_and_units role ≡ true
unfolding any_of
heading-or-unit = of-headings (λ k. headings_and_units k ≡ true) refl refl

unit-kinds : (role : ℕ) → is_unit role ≡ true → headings_and_units role ≡ true
unfolding any_of
unit-kinds = of-units (λ k. headings_and_units k ≡ true) refl refl

pub value-kinds : (role : ℕ) → is_value role ≡ true → values role ≡ true
unfolding any_of
value-kinds = of_values (λ k. values k ≡ true) refl refl

field-first : (j : ℕ) → j < 6 → fields_first (field_column j) ≡ true
unfolding any_of
field-first j h = computed (λ k. fields_first (field_column k)) 6 tt refl j h

field-eleventh : (j : ℕ) → j < 6 → fields_eleventh (pointer_column j) ≡ true
unfolding any_of
field-eleventh j h = computed (λ k. fields_eleventh (pointer_column k)) 6 tt refl j h

any-character : (j : ℕ) → j < 80 → within 1 80 (j + 1) ≡ true
any-character j h =
    let a : 1 ≤ j + 1 = omega arith in
    let b : j + 1 ≤ 80 = omega arith in
    rw (le-leb 1 (j + 1) a, le-leb (j + 1) 80 b)

-- ---- rule by rule

-- the row with this place in the table
in_row : (at : ℕ) → at < 18 → (kind k : ℕ) → (get_or refusals at no_row).kinds kind ≡ true
    → (get_or refusals at no_row).columns k ≡ true → TableAllows (get_or refusals at no_row).number kind k
in_row at h kind k a b = record { at = at; there = h; number = refl; on = a; column = b }

module _ (t : Track) (s : Seen) (role : ℕ) (fs : List (List ℕ)) (r : List ℕ) where
  -- above 4 a record is due
  abbrev Found : ℕ → ℕ → Type 0
  Found n k = (4 < n → every_due role ≡ true) → TableAllows n role k

  found2 : Each (Found 2) (rule2 r)
  unfolding rule2 any_of
  found2 = each-when (Found 2) (not (has_line_feed r)) 81 (λ e d. in_row 0 (omega arith) role 81 refl refl)

  found3 : Each (Found 3) (rule3 r)
  unfolding rule3
  found3 =
      each-where (Found 3) (not_permitted r) (λ i. i + 1) 80
      (λ j l d. in_row 1 (omega arith) role (j + 1) refl (any-character j l))

  found4 : Each (Found 4) (rule4 role)
  unfolding rule4 any_of
  found4 = each-when (Found 4) (eqb role NOT-DUE) 1 (λ e d. in_row 2 (omega arith) role 1 e refl)

  found5 : Each (Found 5) (rule5 t role fs r)
  unfolding rule5 any_of
  found5 =
      each-when (Found 5) (not (equal_to 8 (identification_of r) (expected_identification t role fs))) 67
      (λ e d. in_row 3 (omega arith) role 67 (d (omega arith)) refl)

  found6 : Each (Found 6) (rule6 t role r)
  unfolding rule6 any_of
  found6 =
      each-when (Found 6) (not (equal_to 5 (sequence_of r) (in_digits 5 (expected_sequence t role)))) 75
      (λ e d. in_row 4 (omega arith) role 75 (d (omega arith)) refl)

  found7 : is_system role ≡ true → Each (Found 7) (rule7 role fs)
  unfolding rule7 any_of
  found7 h =
      each_append (Found 7) (when (not (in_form (form_n1 role) (n1 fs))) 12) _
      (each-when (Found 7) (not (in_form (form_n1 role) (n1 fs))) 12
      (λ e d. in_row 5 (omega arith) role 12 (asked (form_n1 role) (n1 fs) (with_n1 role) (n1-kinds role h) e) refl))
      (each-when (Found 7) (not (in_form (form_n2 role) (n2 fs))) 23
      (λ e d. in_row 6 (omega arith) role 23 (asked (form_n2 role) (n2 fs) (with_n2 role) (n2-kinds role h) e) refl))

  announced : is_system role ≡ true → opens_section role ≡ true → (a b : ℕ) → Each (Found 8) (announced_fault role a b)
  unfolding announced_fault any_of
  announced h o a b =
      each_append (Found 8) (when (not (meets (limit_n1 role) a)) 12) _
      (each-when (Found 8) (not (meets (limit_n1 role) a)) 12
      (λ e d. in_row 7 (omega arith) role 12 (section-kinds-too role h o) refl))
      (each-when (Found 8) (not (meets (limit_n2 role a) b)) 23
      (λ e d. in_row 8 (omega arith) role 23 (section-kinds role h o) refl))

  found8 : is_system role ≡ true → Each (Found 8) (rule8 t role fs)
  unfolding rule8 any_of
  found8 h =
      either-as (Each (Found 8)) (opens_section role) _ _ (λ o. announced h o (count_n1 fs) (count_n2 fs))
      (λ o. each_on (Found 8) (is_end role) _
      (λ x. each-when (Found 8) (not (count_true t role (count_n1 fs))) 12
      (λ e d. in_row 7 (omega arith) role 12 (end-kinds role h x) refl)))

  found9 : opens_subentry role ≡ true → Each (Found 9) (rule9 t fs)
  unfolding rule9 any_of
  found9 h =
      each-when (Found 9)
      (not (equal_to 5 (accession_n1 fs) t.accession && number_due t (subentry_of (n1 fs)))) 12
      (λ e d. in_row 9 (omega arith) role 12 (subentry-kinds role h) refl)

  found10 : eqb role TEXT ≡ true → Each (Found 10) (rule10 s.bib t fs)
  unfolding rule10 any_of
  found10 h =
      each-when (Found 10) (keyword_fault s.bib t (get_or fs 0 [])) 1
      (λ e d. in_row 10 (omega arith) role 1 (one-kind TEXT role h) refl)

  found11-text : eqb role TEXT ≡ true → Each (Found 11) (rule11_text s.under fs)
  unfolding rule11_text any_of
  found11-text h =
      each-when (Found 11) (bad_pointer (get_or fs 0 []) || pointer_repeated s.under (get_or fs 0 [])) 11
      (λ e d. in_row 11 (omega arith) role 11 (one-kind TEXT role h) refl)

  found11-heading : is_heading role ≡ true → Each (Found 11) (rule11_heading t fs)
  unfolding rule11_heading
  found11-heading h =
      each-where (Found 11) _ pointer_column 6
      (λ j l d. in_row 12 (omega arith) role (pointer_column j) (heading-kinds role h) (field-eleventh j l))

  found12-heading : is_heading role ≡ true → Each (Found 12) (rule12_heading t fs)
  unfolding rule12_heading
  found12-heading h =
      each-where (Found 12) _ field_column 6
      (λ j l d. in_row 13 (omega arith) role (field_column j) (heading-or-unit role h) (field-first j l))

  found12-unit : is_unit role ≡ true → Each (Found 12) (rule12_unit t fs)
  unfolding rule12_unit
  found12-unit h =
      each-where (Found 12) _ field_column 6
      (λ j l d. in_row 13 (omega arith) role (field_column j) (unit-kinds role h) (field-first j l))

  in-used : (j : ℕ) → j < used t → j < 6
  in-used j l = let h = used-few t in omega arith

  found13 : is_heading role ≡ true → Each (Found 13) (rule13 s t role fs r)
  unfolding rule13
  found13 h =
      each-where (Found 13) _ field_column (used t)
      (λ j l d. in_row 14 (omega arith) role (field_column j) (heading-kinds role h) (field-first j (in-used j l)))

  found14 : eqb role DATA-HEADING ≡ true → Each (Found 14) (rule14 s t fs)
  unfolding rule14
  found14 h =
      each-where (Found 14) _ field_column (used t)
      (λ j l d.
      in_row 15 (omega arith) role (field_column j) (one-kind DATA-HEADING role h) (field-first j (in-used j l)))

  found15 : is_value role ≡ true → Each (Found 15) (rule15 t role fs)
  unfolding rule15 any_of
  found15 h =
      each_append (Found 15) (when (line_blank t role fs) 1) _
      (each-when (Found 15) (line_blank t role fs) 1
      (λ e d. in_row 16 (omega arith) role 1 (value-kinds role h) refl))
      (each-where (Found 15) _ field_column 6
      (λ j l d. in_row 16 (omega arith) role (field_column j) (value-kinds role h) (field-first j l)))

  found17 : is_value role ≡ true → Each (Found 17) (rule17 s t fs)
  unfolding rule17
  found17 h =
      each-where (Found 17) _ field_column (used t)
      (λ j l d. in_row 17 (omega arith) role (field_column j) (value-kinds role h) (field-first j (in-used j l)))

  -- ---- all that is found

  abbrev InTable : Finding → Type 0
  InTable f = Each (Found f.number) f.columns

  all_found : All InTable (findings t s role fs r)
  all_found = (
    found2,
    (
      found3,
      (
        found4,
        (
          found5,
          (
            found6,
            (
              each_on (Found 7) (is_system role) _ found7,
              (
                each_on (Found 8) (is_system role) _ found8,
                (
                  each_on (Found 9) (opens_subentry role) _ found9,
                  (
                    each_on (Found 10) (eqb role TEXT) _ found10,
                    (
                      either-as (Each (Found 11)) (eqb role TEXT) _ _ found11-text
                          (λ h. each_on (Found 11) (is_heading role) _ found11-heading),
                      (
                        either-as (Each (Found 12)) (is_heading role) _ _ found12-heading
                            (λ h. each_on (Found 12) (is_unit role) _ found12-unit),
                        (
                          each_on (Found 13) (is_heading role) _ found13,
                          (
                            each_on (Found 14) (eqb role DATA-HEADING) _ found14,
                            (
                              each_on (Found 15) (is_value role) _ found15,
                              (each_on (Found 17) (is_value role) _ found17, tt),
                            ),
                          ),
                        ),
                      ),
                    ),
                  ),
                ),
              ),
            ),
          ),
        ),
      ),
    ),
  )

  -- a record that is not due has 4 among what is found, so nothing above 4 is the least
  low : (n k : ℕ) → Before n k 4 1 → 4 < n → ⊥
  low n k (inl a) h = omega arith
  low n k (inr a) h = let z = a.0 in omega arith

  due-above : (n k : ℕ) → Least (findings t s role fs r) n k → 4 < n → every_due role ≡ true
  unfolding rule4
  due-above n k l h =
      let a : 2 < 15 = omega arith in
      by-test (eqb role NOT-DUE) (l.least 2 0 a)
    where
      by-test : (b : Bool) → (0 < length (when b 1) → Before n k 4 (get_or (when b 1) 0 0)) → not b ≡ true
      by-test true f = let a : 0 < 1 = omega arith in absurd (low n k (f a) h)
      by-test false f = refl

  -- the least of what is found stands in the table
  pub least-stands : (n k : ℕ) → Least (findings t s role fs r) n k → TableAllows n role k
  least-stands n k l =
      let f = get_or (findings t s role fs r) l.at no_finding in
      let each : InTable f = all-at InTable no_finding (findings t s role fs r) all_found l.at l.there in
      let here : Found f.number k = each-leftmost (Found f.number) f.columns k each l.column l.some in
      let there : Found n k = subst (λ (m : ℕ). Found m k) l.number here in
      there (due-above n k l)
