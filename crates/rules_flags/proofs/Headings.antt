-- Headings over flags: where one stands in whole records, and what its first letter tells.
-- Assumes nothing.
use Prim.Native.Nat.{ℕ, zero, suc, ◌+◌, ◌-◌, ◌*◌, ◌/◌, ◌%◌, ◌<◌, ◌≤◌}
use mathlib.Core.Path.{◌≡◌, sym, ◌∙◌, ap}
use mathlib.Core.Bool.{Bool, true, false, ◌||◌}
use mathlib.Core.List.{List, []}
use native.Mathlib.Omega.{arith}
use lib.ListN.{length, get_or, take, drop, length-drop, drop_of_length-le, get_or-eq_default}
use lib.Seq.{get_or-take, get_or-drop, length-take-le}
use Rattle.laws.specs.Search.{first}
use Rattle.laws.proofs.Search.{either, first-same, pass-first}
use Rattle.laws.proofs.Booleans.{differ, or_left, or_right}
use Rattle.paper_record.specs.Columns.{columns_at}
use Rattle.paper_record.specs.Flags.{is_flag_heading}
use Rattle.paper_record.proofs.FlagWords.{no-columns, no-letter}
use Rattle.paper_rules.specs.declared.types.Track.{Track}
use Rattle.paper_rules.specs.declared.types.Range.{Range}
use Rattle.paper_rules.specs.declared.types.Ranges.{Ranges}
use Rattle.paper_rules.specs.Parts.{bytes_of, Lent}
use Rattle.paper_rules.specs.Ranging.{Stands}
use Rattle.paper_rules.specs.Earlier.{heading_at}
use Rattle.paper_rules.specs.State.{Seen}
use Rattle.paper_rules.specs.Flags.{records_over, flag_fault, flag_fault_at}
use Rattle.rules_flags.specs.Below.{fault_below, starts_flag, letter_in}
use Rattle.rules_flags.specs.Lent.{WholeRecords, Room, RecordAt}

-- ---- places

-- a heading that starts in whole records ends there
field_room : (q k count : ℕ) → k < 6 → q * 81 + k * 11 < count * 81 → q * 81 + k * 11 + 11 ≤ count * 81
field_room q k count few l = either q count (λ h. omega arith) (λ h. absurd (omega arith))

-- and a record that starts there has all its fields there
starts-inside : (q k count : ℕ) → k < 6 → q * 81 < count * 81 → q * 81 + k * 11 < count * 81
starts-inside q k count few l = either q count (λ h. omega arith) (λ h. absurd (omega arith))

pub starts-there : (table : List ℕ) (from k : ℕ) → WholeRecords table → RecordAt from → from < length table → k < 6
    → from + k * 11 < length table
starts-there table from k w r l few =
    let e = w.whole in
    let p = r.place in
    let h = starts-inside r.count k w.count few (omega arith) in
    omega arith

pub heading-room : (table : List ℕ) (from k : ℕ) → WholeRecords table → RecordAt from → k < 6
    → Room table (from + k * 11)
heading-room table from k w r few =
    record {
      near = λ l.
          let e = w.whole in
          let p = r.place in
          let h = field_room r.count k w.count few (omega arith) in
          omega arith;
    }

-- the heading of a column, by its record
pub heading-of : (table : List ℕ) (q k : ℕ) → k < 6 → heading_at table (q * 6 + k) ≡ columns_at (q * 81 + k * 11) 11 table
heading-of table q k few =
    let e : (q * 6 + k) / 6 * 81 + (q * 6 + k) % 6 * 11 ≡ q * 81 + k * 11 = omega arith in
    ap (λ (at : ℕ). columns_at at 11 table) e

-- the parts that are kept are whole records
pub records-of : (before : List ℕ) (g : Range) → Lent before g → WholeRecords (bytes_of before g)
records-of before g h =
    let a = h.ordered in
    let l = h.within in
    let from = g.from.0 in
    let past = g.past.0 in
    record {
      count = past - from;
      whole =
          length-take-le (past * 81 - from * 81) (drop (from * 81) before) (simp length-drop (omega arith))
          ∙ omega arith;
    }

pub records-lent : (t : Track) (g : Ranges) (before : List ℕ) → Stands t g before
    → WholeRecords (bytes_of before g.table)
records-lent t g before s =
    let p = s.placed.table in
    let b = p.below in
    let l = s.long in
    records-of before g.table (record { ordered = p.ordered; within = omega arith })

-- ---- words

-- behind the table there is none
pub none-behind : (table : List ℕ) (at : ℕ) → length table ≤ at → is_flag_heading (columns_at at 11 table) ≡ false
none-behind table at l = ap (λ (x : List ℕ). is_flag_heading (take 11 x)) (drop_of_length-le table l) ∙ no-columns

pub flag-there : (table : List ℕ) (at : ℕ) → is_flag_heading (columns_at at 11 table) ≡ true → at < length table
flag-there table at e = either at (length table) (λ l. l) (λ l. differ (sym e ∙ none-behind table at l))

-- the first letter of a heading
pub letter-of : (table : List ℕ) (at : ℕ) → get_or (columns_at at 11 table) 0 0 ≡ get_or table at 0
letter-of table at =
    let z : at + 0 ≡ at = omega arith in
    get_or-take 11 (drop at table) 0 0 (omega arith) ∙ get_or-drop at table 0 0 ∙ ap (λ (k : ℕ). get_or table k 0) z

-- ---- the rule by places and by columns

pub below-same : (s : Seen) (t : Track) (fs : List (List ℕ)) (n : ℕ) → n ≤ 6
    → first (fault_below s.bib s.bib001 s.table (records_over t * 81) fs) 0 n ≡ first (flag_fault_at s t fs) 0 n
below-same s t fs n few =
    first-same (fault_below s.bib s.bib001 s.table (records_over t * 81) fs) (flag_fault_at s t fs) 0 n
    (λ k l h.
    ap (λ (x : List ℕ). flag_fault s.bib s.bib001 x (get_or fs k []))
    (sym (heading-of s.table (records_over t) k (omega arith))))

-- where no heading starts with a letter of the two words, no field is at fault
no-letter-at : (table : List ℕ) (from : ℕ) → letter_in table from ≡ false → (k : ℕ) → k < 6
    → starts_flag (get_or table (from + k * 11) 0) ≡ false
unfolding letter_in
no-letter-at table from e k l = at k l
  where
    letter : ℕ → Bool
    letter i = starts_flag (get_or table i 0)

    from2 : (letter (from + 22) || (letter (from + 33) || (letter (from + 44) || letter (from + 55)))) ≡ false
    from2 = or_right (letter (from + 11)) _ (or_right (letter from) _ e)

    from4 : (letter (from + 44) || letter (from + 55)) ≡ false
    from4 = or_right (letter (from + 33)) _ (or_right (letter (from + 22)) _ from2)

    here : (i j : ℕ) → i ≡ j → letter i ≡ false → letter j ≡ false
    here i j q h = rw (← q) h

    at : (k : ℕ) → k < 6 → letter (from + k * 11) ≡ false
    at zero l = here from _ (omega arith) (or_left (letter from) _ e)
    at (suc zero) l = here (from + 11) _ (omega arith) (or_left (letter (from + 11)) _ (or_right (letter from) _ e))
    at (suc (suc zero)) l = here (from + 22) _ (omega arith) (or_left (letter (from + 22)) _ from2)
    at (suc (suc (suc zero))) l =
        here (from + 33) _ (omega arith) (or_left (letter (from + 33)) _ (or_right (letter (from + 22)) _ from2))
    at (suc (suc (suc (suc zero)))) l = here (from + 44) _ (omega arith) (or_left (letter (from + 44)) _ from4)
    at (suc (suc (suc (suc (suc zero))))) l =
        here (from + 55) _ (omega arith) (or_right (letter (from + 44)) _ from4)
    at (suc (suc (suc (suc (suc (suc k)))))) l = absurd (omega arith)

pub passed_over : (bib bib001 table : List ℕ) (from : ℕ) (fs : List (List ℕ)) (n : ℕ) → n ≤ 6
    → letter_in table from ≡ false → first (fault_below bib bib001 table from fs) 0 n ≡ n
passed_over bib bib001 table from fs n few e =
    let z : 0 + n ≡ n = omega arith in
    pass-first (fault_below bib bib001 table from fs) 0 n
    (λ k a l.
    let other = no-letter (columns_at (from + k * 11) 11 table)
    (rw (letter-of table (from + k * 11)) (no-letter-at table from e k (omega arith))) in
    rw other)
    ∙ z

-- behind the table there are no letters
pub none-starts : (table : List ℕ) (from : ℕ) → length table ≤ from → letter_in table from ≡ false
unfolding letter_in
none-starts table from l =
    let none : (i : ℕ) → length table ≤ i → get_or table i 0 ≡ 0 = λ i h. get_or-eq_default table 0 h in
    rw (
      none from l,
      none (from + 11) (omega arith),
      none (from + 22) (omega arith),
      none (from + 33) (omega arith),
      none (from + 44) (omega arith),
      none (from + 55) (omega arith),
    )
