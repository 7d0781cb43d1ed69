-- The judge's turn at a copied record: it goes on to the same context, and the copy of a record is faithful to it. Of
-- the rules only 2, 3, 5, 6, 15 and 17 are met here, and these by their laws.
-- Assumes nothing.
use Rattle.paper_faults.specs.Fault.{faultless}
use Prim.Native.Nat.{ℕ, ◌+◌, ◌*◌, ◌<◌}
use mathlib.Core.Path.{◌≡◌, refl, sym, ◌∙◌, ap}
use mathlib.Core.Bool.{Bool, true, false, not}
use mathlib.Core.List.{List, []}
use native.Mathlib.Omega.{arith}
use lib.Dec.{ltb}
use lib.ListN.{length, drop, get_or, length-drop}
use lib.Seq.{length-take-le}
use Rattle.laws.specs.Turns.{go}
use Rattle.laws.specs.Copies.{Passing, Passing2, Faithful}
use Rattle.paper_copy.specs.Replaced.{replaced, Each, FieldsAlike}
use Rattle.paper_copy.proofs.Replaced.{each_of, length-mask, mask_at}
use Rattle.paper_copy.proofs.WholeRecords.{none-copied}
use Rattle.laws.proofs.Booleans.{and_left, and_none}
use Rattle.paper_number.specs.Reading.{read_field}
use Rattle.paper_record.specs.Class.{is_permitted}
use Rattle.paper_record.specs.Fields.{field_at, fields_of}
use Rattle.paper_record.specs.Identifier.{identifier_of}
use Rattle.paper_record.proofs.ReadColumns.{field-of}
use Rattle.paper_rules.specs.State.{Context, used}
use Rattle.paper_rules.specs.Roles.{is_value}
use Rattle.paper_rules.specs.Role.{role_in}
use Rattle.paper_rules.specs.Every.{rule3}
use Rattle.paper_rules.specs.Order.{fault_of}
use Rattle.paper_entry.specs.Next.{context_after}
use Rattle.paper_entry.specs.Judging.{role_of, turn_of}
use Rattle.paper_rules.specs.Flags.{flag_column}
use Rattle.paper_copy.specs.CopyField.{value_field, copy_field}
use Rattle.paper_copy.specs.Copy.{is_number_field, mask_of, copy_record}
use Rattle.paper_copy.specs.Demand.{AlikeField}
use Rattle.paper_rules.proofs.WithoutFault.{fine-long, fine-permitted, fine-reads, permitted-alike, judged-alike}
use Rattle.entry_walk.proofs.GoingOn.{go-fine, fine-go, next-alike}
use Rattle.paper_copy.proofs.CanonicalFields.{Fit, copied-length, copied-field, copied-past, copied-reads}
use Rattle.paper_copy.proofs.CanonicalFields.{copied-identifier, copied-once, alike-copied, copied-alike}
use Rattle.paper_copy.proofs.CanonicalFields.{copied-letters}

-- ---- the six marks of a record

pub length-mask-of : (c : Context) (r : List ℕ) → length (mask_of c r) ≡ 6
unfolding mask_of
length-mask-of c r = length-mask (is_number_field c (role_of c r)) 0 6

pub mask-of-at : (c : Context) (r : List ℕ) (k : ℕ) → k < 6 → get_or (mask_of c r) k false ≡ is_number_field c (role_of c r) k
unfolding mask_of
mask-of-at c r k h =
    let e : 0 + k ≡ k = omega arith in
    mask_at (is_number_field c (role_of c r)) false 6 0 k h ∙ ap (is_number_field c (role_of c r)) e

-- only a value record has number fields
value_of : (c : Context) (role k : ℕ) → is_number_field c role k ≡ true → is_value role ≡ true
unfolding is_number_field
value_of c role k e =
    and_left (is_value role) (ltb k (used c.track))
    (and_left (value_field c.track role k) (not (flag_column c.seen.table c.track k)) e)

-- and none of them is under a flag
no_flag : (c : Context) (role k : ℕ) → flag_column c.seen.table c.track k ≡ true
    → is_number_field c role k ≡ false
unfolding is_number_field
no_flag c role k e = and_none (value_field c.track role k) (not (flag_column c.seen.table c.track k)) (rw e refl)

no_number : (c : Context) (role : ℕ) → is_value role ≡ false → (k : ℕ) → is_number_field c role k ≡ false
unfolding is_number_field
no_number c role e k = rw e refl

pub not-copied : (c : Context) (r : List ℕ) → is_value (role_of c r) ≡ false → copy_record c r ≡ r
unfolding copy_record
not-copied c r e =
    none-copied (mask_of c r) r
    (λ k l.
    let six = length-mask-of c r in
    mask-of-at c r k (omega arith) ∙ no_number c (role_of c r) e k)

-- a field under a flag has no mark
pub mask-flags : (c : Context) (r : List ℕ) (k : ℕ) → k < 6 → flag_column c.seen.table c.track k ≡ true
    → get_or (mask_of c r) k false ≡ false
mask-flags c r k l e = mask-of-at c r k l ∙ no_flag c (role_of c r) k e

-- ---- an accepted record

fine : Passing turn_of (λ c i r d. fault_of c.track c.seen (role_of c r) (fields_of r) r ≡ faultless)
fine c i r d h = (go-fine c i r d h).0

long : Passing turn_of (λ c i r d. 80 < length r)
long c i r d h = fine-long c.track c.seen (role_of c r) (fields_of r) r (fine c i r d h)

-- its fields are fit to be copied
pub fits : Passing turn_of (λ c i r d. Each Fit (mask_of c r) r)
fits c i r d h =
    let there : 80 < length r = long c i r d h in
    let six : length (mask_of c r) ≡ 6 = length-mask-of c r in
    each_of Fit false (mask_of c r) r
    (λ k l.
    let few : k < 6 = omega arith in
    record {
      wide = length-take-le 11 (drop (k * 11) r) (simp length-drop (omega arith));
      good = λ e.
          let value = value_of c (role_of c r) k (sym (mask-of-at c r k few) ∙ e) in
          rw (field-of r k few) at (fine-reads c.track c.seen (role_of c r) (fields_of r) r
          (fine c i r d h) value k few);
    })

-- ---- its copy

module _ (c : Context) (ms : List Bool) (r : List ℕ) (six : length ms ≡ 6) (there : 80 < length r)
    (fit : Each Fit ms r)
    (flags : (k : ℕ) → k < 6 → flag_column c.seen.table c.track k ≡ true → get_or ms k false ≡ false) where
  abbrev new : List ℕ
  new = replaced copy_field ms r

  role_same : role_of c (replaced copy_field ms r) ≡ role_of c r
  role_same =
      let e : identifier_of (get_or (fields_of new) 0 []) ≡ identifier_of (get_or (fields_of r) 0 []) =
      rw (field-of new 0 (omega arith), field-of r 0 (omega arith)) (copied-identifier ms r fit) in
      ap (role_in c.phase c.track) e

  reads_same : (k : ℕ) → k < 6 → read_field (get_or (fields_of new) k []) ≡ read_field (get_or (fields_of r) k [])
  reads_same k l = rw (field-of new k l, field-of r k l) (copied-reads ms r fit k)

  letters-same : ((i : ℕ) → i < 80 → is_permitted (get_or r i 0) ≡ true) → rule3 new ≡ rule3 r
  letters-same p = permitted-alike r new p (copied-letters ms r (omega arith) fit 80 p)

  -- a field under a flag stands as it was
  flag-kept : (k : ℕ) → k < 6 → flag_column c.seen.table c.track k ≡ true
      → get_or (fields_of new) k [] ≡ get_or (fields_of r) k []
  flag-kept k h e =
      field-of new k h ∙ copied-field ms r fit k (omega arith)
      ∙ ap (λ (b : Bool). copy_field b (field_at r k)) (flags k h e) ∙ sym (field-of r k h)

  -- a value record: no fault before, none now, and the same context next
  value-kept : (i : ℕ) → is_value (role_of c r) ≡ true → fault_of c.track c.seen (role_of c r) (fields_of r) r ≡ faultless
      → turn_of c i (replaced copy_field ms r) ≡ go (context_after c (role_of c r) (fields_of r) r)
  value-kept i value e =
      let role = role_of c r in
      let letters = letters-same (fine-permitted c.track c.seen role (fields_of r) r e) in
      let behind = copied-past ms r fit 66 (omega arith) in
      fine-go c i new role role_same (judged-alike c.track c.seen r new letters behind reads_same flag-kept role value ∙ e)
      ∙ ap go (next-alike c r new reads_same role value)

pub role_kept : Passing turn_of (λ c i r d. role_of c (copy_record c r) ≡ role_of c r)
unfolding copy_record
role_kept c i r d h =
    role_same c (mask_of c r) r (length-mask-of c r) (long c i r d h) (fits c i r d h) (mask-flags c r)

-- the first field bears the same identifier
pub identifier-kept : Passing turn_of (λ c i r d. identifier_of (field_at (copy_record c r) 0) ≡ identifier_of (field_at r 0))
unfolding copy_record
identifier-kept c i r d h = copied-identifier (mask_of c r) r (fits c i r d h)

pub mask-kept : Passing turn_of (λ c i r d. mask_of c (copy_record c r) ≡ mask_of c r)
unfolding mask_of
mask-kept c i r d h = rw (role_kept c i r d h)

-- each field reads as before
pub reads_kept : Passing turn_of (λ c i r d. (k : ℕ) → read_field (field_at (copy_record c r) k) ≡ read_field (field_at r k))
unfolding copy_record
reads_kept c i r d h = copied-reads (mask_of c r) r (fits c i r d h)

-- the turn goes on to the same context
value_keeps : Passing turn_of (λ c i r d. is_value (role_of c r) ≡ true
    → turn_of c i (copy_record c r) ≡ go (context_after c (role_of c r) (fields_of r) r))
unfolding copy_record
value_keeps c i r d h e =
    value-kept c (mask_of c r) r (length-mask-of c r) (long c i r d h) (fits c i r d h) (mask-flags c r) i e
    (fine c i r d h)

keeps : Passing turn_of (λ c i r d. turn_of c i (copy_record c r) ≡ go d)
keeps c i r d h = by-test (is_value (role_of c r)) refl
  where
    by-test : (t : Bool) → is_value (role_of c r) ≡ t → turn_of c i (copy_record c r) ≡ go d
    by-test true e = value_keeps c i r d h e ∙ ap go (go-fine c i r d h).1
    by-test false e = rw (not-copied c r e) h

once : Passing turn_of (λ c i r d. copy_record c (copy_record c r) ≡ copy_record c r)
unfolding copy_record
once c i r d h = rw (mask-kept c i r d h) (copied-once (mask_of c r) r (fits c i r d h))

size : Passing turn_of (λ c i r d. length (copy_record c r) ≡ length r)
unfolding copy_record
size c i r d h =
    let there : 80 < length r = long c i r d h in
    let six = length-mask-of c r in
    copied-length (mask_of c r) r (fits c i r d h) (omega arith)

one : Passing2 turn_of
    (λ c r t. mask_of c r ≡ mask_of c t → FieldsAlike AlikeField (mask_of c r) r t → copy_record c r ≡ copy_record c t)
unfolding copy_record
one c i r t d e g h m a = rw (← m) (alike-copied (mask_of c r) r t (fits c i r d g) (rw m (fits c i t e h)) a)

opened : (c : Context) (r : List ℕ) → copy_record c r ≡ replaced copy_field (mask_of c r) r
unfolding copy_record
opened c r = refl

back : Passing2 turn_of
    (λ c r t. copy_record c r ≡ copy_record c t → (mask_of c r ≡ mask_of c t) × FieldsAlike AlikeField (mask_of c r) r t)
back c i r t d e g h q =
    let m : mask_of c r ≡ mask_of c t = sym (mask-kept c i r d g) ∙ ap (mask_of c) q ∙ mask-kept c i t e h in (
      m,
      copied-alike (mask_of c r) r t (fits c i r d g) (rw m (fits c i t e h))
          (sym (opened c r) ∙ q ∙ opened c t ∙ rw m),
    )

-- all that demand 3 rests on
pub faithful : Faithful turn_of copy_record mask_of (FieldsAlike AlikeField)
faithful = record { keeps = keeps; once = once; size = size; one = one; back = back }
