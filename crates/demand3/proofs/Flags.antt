-- Number fields are the value fields that are not under FLAG or DECAY-FLAG, and those under them are copied as they
-- are.
-- Assumes nothing.
use Prim.Native.Nat.{ℕ, suc, ◌<◌}
use mathlib.Core.Path.{◌≡◌, refl, sym, ◌∙◌, ap}
use mathlib.Core.Bool.{Bool, true, false, not}
use mathlib.Core.List.{List}
use native.Mathlib.Omega.{arith}
use borrow.Author.Tests.{ltb-true, lt-ltb, not-true}
use lib.Dec.{ltb}
use lib.ListN.{get_or, get_or-eq_default}
use Rattle.laws.specs.Blocks.{block_at}
use Rattle.laws.proofs.Search.{either}
use Rattle.laws.proofs.Booleans.{differ, and_left, and_right, and_both}
use Rattle.paper_record.specs.Fields.{field_at}
use Rattle.paper_rules.specs.State.{Context, used}
use Rattle.paper_rules.specs.Roles.{is_value}
use Rattle.paper_rules.proofs.FewUsed.{used-few}
use Rattle.paper_rules.specs.Flags.{heading_over, flag_column}
use Rattle.rules_plain.specs.Flags.{FlagHeading}
use Rattle.rules_plain.proofs.FlagFields.{heading-exactly}
use Rattle.paper_entry.specs.Judging.{Accepted}
use Rattle.paper_entry.specs.Contexts.{context_at, role_at}
use Rattle.entry_walk.proofs.AcceptedWalk.{walked}
use Rattle.paper_copy.specs.Replaced.{Each}
use Rattle.paper_copy.specs.CopyField.{value_field, copy_field}
use Rattle.paper_copy.specs.Copy.{is_number_field, mask_of, copy_record, number_field, field_in, copy_of}
use Rattle.paper_copy.proofs.CanonicalFields.{Fit, copied-field}
use Rattle.paper_copy.proofs.FaithfulRecords.{length-mask-of, mask-of-at, mask-flags, fits}
use Rattle.paper_copy.proofs.CopiedBlocks.{copied-block}
use Rattle.demand3.specs.Flags.{ValueAt, NumberAt, NumberFields, FlagsKept}
use Rattle.demand3.proofs.CopiedFields.{row_of, mask_is}

-- ---- one field in its context

flag-heading : (c : Context) (k : ℕ) → (flag_column c.seen.table c.track k ≡ true)
    → FlagHeading (heading_over c.seen.table c.track k)
unfolding flag_column
flag-heading c k e = (heading-exactly (heading_over c.seen.table c.track k)).0 e

heading-flag : (c : Context) (k : ℕ) → FlagHeading (heading_over c.seen.table c.track k)
    → flag_column c.seen.table c.track k ≡ true
unfolding flag_column
heading-flag c k h = (heading-exactly (heading_over c.seen.table c.track k)).1 h

record Field (c : Context) (role k : ℕ) : Type 0 where
  value : is_value role ≡ true
  in_use : k < used c.track
  no_flag : FlagHeading (heading_over c.seen.table c.track k) → ⊥

number-field : (c : Context) (role k : ℕ) → is_number_field c role k ≡ true → Field c role k
unfolding is_number_field
number-field c role k e =
    let v = value_field c.track role k in
    let f = flag_column c.seen.table c.track k in
    let both = and_left v (not f) e in
    record {
      value = and_left (is_value role) (ltb k (used c.track)) both;
      in_use = ltb-true k (used c.track) (and_right (is_value role) (ltb k (used c.track)) both);
      no_flag = λ h. differ (sym (heading-flag c k h) ∙ not-true f (and_right v (not f) e));
    }

field-number : (c : Context) (role k : ℕ) → Field c role k → is_number_field c role k ≡ true
unfolding is_number_field
field-number c role k h =
    and_both (and_both h.value (lt-ltb k (used c.track) h.in_use))
    (by-test (flag_column c.seen.table c.track k) refl)
  where
    by-test : (b : Bool) → flag_column c.seen.table c.track k ≡ b → not b ≡ true
    by-test true e = absurd (h.no_flag (flag-heading c k e))
    by-test false e = refl

-- ---- of an entry

module _ (s : List ℕ) (accepted : Accepted s) (i k : ℕ) where
  in-mask : get_or (mask_of (context_at s i) (block_at 81 s i)) k false ≡ true → k < 6
  in-mask e =
      let six = length-mask-of (context_at s i) (block_at 81 s i) in
      either k 6 (λ l. l)
      (λ l. differ (sym e ∙ get_or-eq_default (mask_of (context_at s i) (block_at 81 s i)) false (rw six l)))

  at-number : NumberAt s i k → number_field s i k ≡ true
  at-number h =
      let v = h.value in
      let few = used-few (context_at s i).track in
      let u = v.in_use in
      mask_is s accepted i k v.there
      ∙ mask-of-at (context_at s i) (block_at 81 s i) k (omega arith)
      ∙ field-number (context_at s i) (role_at s i) k
      (record { value = v.value; in_use = v.in_use; no_flag = h.no_flag })

  number_at : number_field s i k ≡ true → NumberAt s i k
  number_at e =
      let l = row_of s accepted i k e in
      let here = sym (mask_is s accepted i k l) ∙ e in
      let f = number-field (context_at s i) (role_at s i) k
      (sym (mask-of-at (context_at s i) (block_at 81 s i) k (in-mask here)) ∙ here) in
      record { value = record { there = l; value = f.value; in_use = f.in_use }; no_flag = f.no_flag }

  flag-kept : ValueAt s i k → FlagHeading (heading_over (context_at s i).seen.table (context_at s i).track k)
      → field_in (copy_of s) i k ≡ field_in s i k
  unfolding copy_record
  flag-kept v h =
      let c = context_at s i in
      let r = block_at 81 s i in
      let few = used-few c.track in
      let u = v.in_use in
      let six = length-mask-of c r in
      let column : k < 6 = omega arith in
      let fit : Each Fit (mask_of c r) r = fits c i r (context_at s (suc i)) ((walked s accepted).turns i v.there) in
      ap (λ (x : List ℕ). field_at x k) (copied-block s accepted i v.there)
      ∙ copied-field (mask_of c r) r fit k (rw six column)
      ∙ ap (λ (b : Bool). copy_field b (field_at r k)) (mask-flags c r k column (heading-flag c k h))

pub number-fields : NumberFields
number-fields s accepted i k = (number_at s accepted i k, at-number s accepted i k)

pub flags-kept : FlagsKept
flags-kept s accepted i k v h = flag-kept s accepted i k v h
