-- The row of a subentry is the same in the copy, and the records that it names are unchanged.
-- Assumes nothing.
use Prim.Native.Nat.{ℕ, zero, suc, ◌+◌, ◌/◌, ◌<◌, ◌≤◌}
use mathlib.Core.Path.{◌≡◌, refl, sym, ◌∙◌, ap}
use mathlib.Core.Bool.{Bool, true, false, cond}
use mathlib.Core.List.{List}
use native.Mathlib.Omega.{arith}
use native.Mathlib.Numerals.{add-one}
use lib.Dec.{eqb}
use lib.ListN.{length}
use Rattle.laws.specs.Blocks.{block_at}
use Rattle.laws.specs.Copies.{Passing}
use Rattle.paper_record.specs.Places.{record_of}
use Rattle.paper_record.specs.Fields.{fields_of}
use Rattle.paper_record.specs.Identifier.{BIB, COMMON, DATA}
use Rattle.paper_record.specs.declared.types.RecordNo.{RecordNo}
use Rattle.paper_rules.specs.declared.types.Track.{Track}
use Rattle.paper_rules.specs.Roles.{opens_subentry, is_value}
use Rattle.paper_rules.proofs.ByKind.{of_values}
use Rattle.paper_entry.specs.Judging.{role_of, turn_of, Accepted}
use Rattle.paper_entry.specs.Contexts.{context_at, role_at}
use Rattle.entry_walk.proofs.Contexts.{records-at}
use Rattle.paper_questions.specs.declared.types.Row.{Row}
use Rattle.paper_questions.specs.Row.{NONE, with_first_at, with_bib_at, with_common_at, with_data_at, noted}
use Rattle.paper_questions.specs.Located.{subentry_in, noted_as, note_of, row_at, row_of}
use Rattle.paper_questions.specs.Place.{COMMON-SECTION, DATA-SECTION, fields_at, shape_of}
use Rattle.paper_questions.specs.Refused.{section_in}
use Rattle.entry_walk.proofs.AcceptedWalk.{walked}
use Rattle.paper_questions.proofs.FoundRow.{found-row}
use Rattle.paper_copy.specs.Copy.{copy_record, copy_of}
use Rattle.paper_copy.proofs.FaithfulRecords.{role_kept, not-copied}
use Rattle.paper_copy.proofs.Demand.{passed, copy-long, copy-accepted}
use Rattle.paper_copy.proofs.CopiedBlocks.{copied-block}
use Rattle.demand3.proofs.CopiedRecords.{copied-context, fields-kept}

-- a value record leaves nothing in a row
value-noted : (x : Row) (at : RecordNo) (role : ℕ) → is_value role ≡ true → noted x role at ≡ x
unfolding noted
value-noted x at = of_values (λ role. noted x role at ≡ x) refl refl

none-noted : (t : Track) (fs : List (List ℕ)) (x : Row) (role : ℕ) → is_value role ≡ true → noted_as t role fs x ≡ x
unfolding noted_as
none-noted t fs x role e =
    rw (value-noted x (record_of t.records) role e) (either_way (eqb (subentry_in t role fs) x.number))
  where
    either_way : (b : Bool) → cond b x x ≡ x
    either_way true = refl
    either_way false = refl

note-kept : Passing turn_of (λ c i r d. (x : Row) → note_of c (copy_record c r) x ≡ note_of c r x)
note-kept c i r d h x = by-test (is_value (role_of c r)) refl
  where
    by-test : (b : Bool) → is_value (role_of c r) ≡ b → note_of c (copy_record c r) x ≡ note_of c r x
    by-test true e =
        let k : is_value (role_of c (copy_record c r)) ≡ true = rw (role_kept c i r d h) e in
        none-noted c.track (fields_of (copy_record c r)) x (role_of c (copy_record c r)) k
        ∙ sym (none-noted c.track (fields_of r) x (role_of c r) e)
    by-test false e = rw (not-copied c r e)

module _ (s : List ℕ) (accepted : Accepted s) where
  rows_same : (number i : ℕ) → i ≤ length s / 81 → row_at (copy_of s) number i ≡ row_at s number i
  unfolding row_at
  rows_same number zero l = refl
  rows_same number (suc i) l =
      let c = context_at s i in
      let r = block_at 81 s i in
      rw (
        rows_same number i (omega arith),
        copied-context s accepted i (omega arith),
        copied-block s accepted i (omega arith),
      )
      (note-kept c i r (context_at s (suc i)) ((walked s accepted).turns i (omega arith)) (row_at s number i))

  pub copied-row : (number : ℕ) → row_of (copy_of s) number ≡ row_of s number
  copied-row number =
      let again : Accepted (copy_of s) = rw (copy-accepted s accepted) accepted in
      let long = copy-long s (passed s accepted) in
      found-row (copy_of s) number again
      ∙ (rw long (rows_same number (length s / 81) (omega arith)))
      ∙ sym (found-row s number accepted)

  -- a record of the entry that the copy has unchanged, or none
  abbrev Unchanged : RecordNo → Type 0
  Unchanged at = fields_at (copy_of s) at ≡ fields_at s at

  pub record Kept (x : Row) : Type 0 where
    pub first : Unchanged x.first
    pub bib : Unchanged x.bib
    pub common : Unchanged x.common
    pub «data» : Unchanged x.«data»

  none_kept : Unchanged NONE
  unfolding fields_at
  none_kept = refl

  kept-noted : (x : Row) (role : ℕ) (at : RecordNo) → Kept x → Unchanged at → Kept (noted x role at)
  unfolding noted
  kept-noted x role at m h = by-test (opens_subentry role) (eqb role BIB) (eqb role COMMON) (eqb role DATA)
    where
      by-test : (a b c d : Bool)
          → Kept (cond a (with_first_at x at) (cond b (with_bib_at x at) (cond c (with_common_at x at) (cond d (with_data_at x at) x))))
      by-test true b c d = record { first = h; bib = m.bib; common = m.common; «data» = m.«data» }
      by-test false true c d = record { first = m.first; bib = h; common = m.common; «data» = m.«data» }
      by-test false false true d = record { first = m.first; bib = m.bib; common = h; «data» = m.«data» }
      by-test false false false true = record { first = m.first; bib = m.bib; common = m.common; «data» = h }
      by-test false false false false = m

  kept-note : (x : Row) (i : ℕ) → i < length s / 81 → Kept x → Kept (note_of (context_at s i) (block_at 81 s i) x)
  unfolding noted_as
  kept-note x i l m = by-role (is_value (role_at s i)) refl
    where
      by_number : (b : Bool) (y : Row) → Kept y → Kept (cond b y x)
      by_number true y k = k
      by_number false y k = m

      by-role : (b : Bool) → is_value (role_at s i) ≡ b → Kept (note_of (context_at s i) (block_at 81 s i) x)
      by-role true e = rw (none-noted (context_at s i).track (fields_of (block_at 81 s i)) x (role_at s i) e) m
      by-role false e =
          let at = record_of (context_at s i).track.records in
          let q : at.0 ≡ suc i = ap (λ (k : ℕ). k + 1) (records-at s i) ∙ add-one i in
          by_number (eqb (subentry_in (context_at s i).track (role_at s i) (fields_of (block_at 81 s i))) x.number)
          (noted x (role_at s i) at) (kept-noted x (role_at s i) at m (fields-kept s accepted i l e at q))

  kept-rows : (number i : ℕ) → i ≤ length s / 81 → Kept (row_at s number i)
  unfolding row_at
  kept-rows number zero l = record { first = none_kept; bib = none_kept; common = none_kept; «data» = none_kept }
  kept-rows number (suc i) l = kept-note (row_at s number i) i (omega arith) (kept-rows number i (omega arith))

  pub row_kept : (number : ℕ) → Kept (row_of s number)
  row_kept number = rw (found-row s number accepted) (kept-rows number (length s / 81) (omega arith))

  pub section-kept : (number section : ℕ) → Unchanged (section_in (row_of s number) section)
  section-kept number section = by-test (eqb section COMMON-SECTION) (eqb section DATA-SECTION)
    where
      by-test : (a b : Bool) → Unchanged (cond a (row_of s number).common (cond b (row_of s number).«data» NONE))
      by-test true b = (row_kept number).common
      by-test false true = (row_kept number).«data»
      by-test false false = none_kept

  pub shape-kept : (number section : ℕ)
      → shape_of (copy_of s) section (section_in (row_of s number) section)
      ≡ shape_of s section (section_in (row_of s number) section)
  unfolding shape_of
  shape-kept number section = rw (section-kept number section)
