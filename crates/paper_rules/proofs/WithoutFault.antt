-- A record without fault: what the rules for every record, and those for a value record, then say of it. And a value
-- record goes by what it reads to: one that reads alike, with permitted characters, is judged alike.
-- Assumes nothing.
use mathlib.Core.Path.{◌≡◌, refl, sym, ap, ◌∙◌}
use mathlib.Core.Bool.{Bool, true, false, not}
use mathlib.Core.List.{List, []}
use Prim.Native.Nat.{ℕ, zero, suc, ◌+◌, ◌<◌, ◌≤◌}
use native.Mathlib.Omega.{arith}
use borrow.Author.Tests.{eqb-true, not-false}
use lib.ListN.{length, drop, get_or, get_or-eq_default}
use lib.Seq.{drop-drop, get_or-drop}
use Rattle.laws.proofs.Search.{either}
use Rattle.paper_number.specs.Reading.{read_field}
use Rattle.paper_record.specs.Columns.{has_line_feed}
use Rattle.paper_record.specs.Class.{is_permitted, not_permitted}
use Rattle.paper_record.specs.Fields.{in_field, fields_of}
use Rattle.paper_record.specs.Numbers.{form_at, no_value, value_fault}
use Rattle.paper_rules.specs.declared.types.Track.{Track}
use Rattle.paper_rules.specs.State.{Seen, used}
use Rattle.paper_rules.specs.Roles.{COMMON-VALUE, DATA-VALUE, is_value}
use Rattle.paper_faults.specs.Fault.{when, columns_from, columns_where, first_fault, faultless}
use Rattle.paper_rules.specs.Record.{field_column}
use Rattle.paper_rules.specs.Every.{rule2, rule3, rule5, rule6, expected_identification}
use Rattle.paper_rules.specs.Values.{optional, line_blank, rule15}
use Rattle.paper_record.specs.Flags.{is_flag_heading}
use Rattle.paper_rules.specs.Flags.{heading_over, flag_column, flag_fault_at, rule17}
use Rattle.paper_rules.specs.Order.{findings, fault_of}
use Rattle.paper_rules.specs.Clean.{Clean}
use Rattle.paper_record.proofs.Readings.{fault-reads, fault-same, first-fault-same}
use Rattle.paper_rules.proofs.FewUsed.{used-few}
use Rattle.paper_faults.proofs.NoColumns.{when-none, append-none, where-none}
use Rattle.paper_rules.proofs.ByKind.{of_values}
use Rattle.paper_rules.proofs.Clean.{fine-clean}

-- the columns go by the test alone
where-same : (f g : ℕ → Bool) (column : ℕ → ℕ) (i n : ℕ) → ((k : ℕ) → i ≤ k → k < i + n → f k ≡ g k)
    → columns_from f column i n ≡ columns_from g column i n
unfolding columns_from
where-same f g column i zero h = refl
where-same f g column i (suc n) h =
    rw (h i (omega arith) (omega arith), where-same f g column (i + 1) n (λ k a b. h k (omega arith) (omega arith)))

-- a byte that is not 0 is there
there : (r : List ℕ) (n x : ℕ) → get_or r n 0 ≡ suc x → n < length r
there r n x e =
    either n (length r) (λ l. l) (λ l. let z : get_or r n 0 ≡ 0 = get_or-eq_default r 0 l in absurd (omega arith))

module _ (track : Track) (seen : Seen) (role : ℕ) (fs : List (List ℕ)) (r : List ℕ)
    (fine : fault_of track seen role fs r ≡ faultless) where
  clean : Clean track seen role fs r
  clean = fine-clean track seen role fs r fine

  -- 2: byte 81 is a line feed, so it is there
  pub fine-long : 80 < length r
  unfolding rule2
  fine-long =
      there r 80 9
      (eqb-true (get_or r 80 0) 10 (not-false (has_line_feed r) (when-none (not (has_line_feed r)) 81 clean.every.two)))

  -- 3: every character is permitted
  pub fine-permitted : (i : ℕ) → i < 80 → is_permitted (get_or r i 0) ≡ true
  unfolding rule3
  fine-permitted i h =
      not-false (is_permitted (get_or r i 0)) (where-none (not_permitted r) (λ k. k + 1) 80 clean.every.three i h)

  -- 15: on a value record every field is blank or a number
  pub fine-reads : is_value role ≡ true → (k : ℕ) → k < 6 → no_value true (form_at (get_or fs k [])) ≡ false
  unfolding rule15
  fine-reads e k h =
      let (line, fields) = append-none (when (line_blank track role fs) 1) _ (clean.fifteen e) in
      fault-reads (optional role) (used track) k (get_or fs k [])
      (where-none (in_field (value_fault (optional role) (used track)) fs) field_column 6 fields k h)

-- ---- judged alike

-- two records of permitted characters
pub permitted-alike : (r t : List ℕ) → ((i : ℕ) → i < 80 → is_permitted (get_or r i 0) ≡ true)
    → ((i : ℕ) → i < 80 → is_permitted (get_or t i 0) ≡ true) → rule3 t ≡ rule3 r
unfolding rule3
permitted-alike r t p q =
    where-same (not_permitted t) (not_permitted r) (λ k. k + 1) 0 80
    (λ k a b. rw (q k (omega arith), p k (omega arith)))

module _ (track : Track) (seen : Seen) (r t : List ℕ) (letters : rule3 t ≡ rule3 r) (behind : drop 66 t ≡ drop 66 r)
    (reads : (k : ℕ) → k < 6 → read_field (get_or (fields_of t) k []) ≡ read_field (get_or (fields_of r) k [])) where
  rule2-same : rule2 t ≡ rule2 r
  unfolding rule2
  rule2-same =
      let e : get_or t 80 0 ≡ get_or r 80 0 =
      sym (get_or-drop 66 t 14 0) ∙ ap (λ (l : List ℕ). get_or l 14 0) behind ∙ get_or-drop 66 r 14 0 in
      rw e

  rule5-same : (role : ℕ) → is_value role ≡ true → rule5 track role (fields_of t) t ≡ rule5 track role (fields_of r) r
  unfolding rule5 expected_identification
  rule5-same =
      of_values (λ role. rule5 track role (fields_of t) t ≡ rule5 track role (fields_of r) r) (rw behind) (rw behind)

  rule6-same : (role : ℕ) → rule6 track role t ≡ rule6 track role r
  unfolding rule6
  rule6-same role =
      let e : drop 74 t ≡ drop 74 r = sym (drop-drop 8 66 t) ∙ ap (drop 8) behind ∙ drop-drop 8 66 r in
      rw e

  line_same : (role : ℕ) → line_blank track role (fields_of t) ≡ line_blank track role (fields_of r)
  line_same role = rw (first-fault-same (fields_of t) (fields_of r) reads true 0)

  columns-same : (role : ℕ)
      → columns_where (in_field (value_fault (optional role) (used track)) (fields_of t)) field_column 6
      ≡ columns_where (in_field (value_fault (optional role) (used track)) (fields_of r)) field_column 6
  columns-same role =
      where-same _ _ field_column 0 6
      (λ k l h. fault-same (fields_of t) (fields_of r) reads (optional role) (used track) k (omega arith))

  rule15-same : (role : ℕ) → rule15 track role (fields_of t) ≡ rule15 track role (fields_of r)
  unfolding rule15
  rule15-same role = rw (line_same role, columns-same role)

  -- where no field under a flag is another one, the rule for flags finds the same
  flag_same : (k : ℕ) → (flag_column seen.table track k ≡ true → get_or (fields_of t) k [] ≡ get_or (fields_of r) k [])
      → flag_fault_at seen track (fields_of t) k ≡ flag_fault_at seen track (fields_of r) k
  unfolding flag_column
  flag_same k same = by-test (is_flag_heading (heading_over seen.table track k)) refl
    where
      by-test : (b : Bool) → is_flag_heading (heading_over seen.table track k) ≡ b
          → flag_fault_at seen track (fields_of t) k ≡ flag_fault_at seen track (fields_of r) k
      by-test true e = rw (same e)
      by-test false e = rw e

  module _ (flags : (k : ℕ) → k < 6 → flag_column seen.table track k ≡ true
      → get_or (fields_of t) k [] ≡ get_or (fields_of r) k []) where
    rule17-same : rule17 seen track (fields_of t) ≡ rule17 seen track (fields_of r)
    unfolding rule17
    rule17-same =
        let few = used-few track in
        where-same _ _ field_column 0 (used track)
        (λ k l h. flag_same k (flags k (omega arith)))

    pub judged-alike : (role : ℕ) → is_value role ≡ true
        → fault_of track seen role (fields_of t) t ≡ fault_of track seen role (fields_of r) r
    unfolding fault_of
    judged-alike role e =
        of_values (λ role. first_fault (findings track seen role (fields_of t) t)
        ≡ first_fault (findings track seen role (fields_of r) r))
        (rw (
          rule2-same,
          letters,
          rule5-same COMMON-VALUE refl,
          rule6-same COMMON-VALUE,
          rule15-same COMMON-VALUE,
          rule17-same,
        ))
        (rw (
          rule2-same,
          letters,
          rule5-same DATA-VALUE refl,
          rule6-same DATA-VALUE,
          rule15-same DATA-VALUE,
          rule17-same,
        )) role e
