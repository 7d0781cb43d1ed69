-- How many characters are expected: eight of an identification, five of a sequence number. The accession that is kept
-- has five in every context of whole records.
-- Assumes nothing.
use Prim.Native.Nat.{ℕ, zero, suc, ◌+◌, ◌*◌, ◌≤◌}
use mathlib.Core.Path.{◌≡◌, refl, ◌∙◌, ap}
use mathlib.Core.List.{List, []}
use native.Mathlib.Omega.{arith}
use lib.Dec.{eqb}
use lib.ListN.{length, drop, get_or, length-append, length-drop}
use lib.Seq.{length-take-le}
use Rattle.laws.specs.Blocks.{block_at}
use Rattle.paper_record.specs.Columns.{columns_at}
use Rattle.paper_record.specs.Fields.{fields_of, n1}
use Rattle.paper_record.specs.Identifier.{ENTRY, BIB, COMMON, DATA, ENDENTRY}
use Rattle.paper_record.specs.Word.{blank_to}
use Rattle.paper_record.specs.Expected.{in_digits, identification_for, entry_accession}
use Rattle.paper_record.proofs.ReadColumns.{field-of}
use Rattle.paper_rules.specs.declared.types.Track.{Track}
use Rattle.paper_rules.specs.Roles.{TEXT, is_system, opens_subentry, is_heading, is_unit, is_value}
use Rattle.paper_rules.specs.Every.{expected_identification}
use Rattle.laws.proofs.EitherWay.{either_way}
use Rattle.paper_entry.specs.Counted.{track_after, after_system, after_inside}
use Rattle.paper_entry.specs.Tally.{text_read}
use Rattle.paper_entry.specs.Next.{context_after}
use Rattle.paper_entry.specs.Judging.{role_of}
use Rattle.paper_entry.specs.Contexts.{context_at}

-- ---- columns and digits

pub columns-long : (n w : ℕ) (r : List ℕ) → n + w ≤ length r → length (columns_at n w r) ≡ w
columns-long n w r h = length-take-le w (drop n r) (simp length-drop (omega arith))

pub block-long : (s : List ℕ) (i : ℕ) → (i + 1) * 81 ≤ length s → length (block_at 81 s i) ≡ 81
block-long s i h = columns-long (i * 81) 81 s (omega arith)

pub digits_long : (w n : ℕ) → length (in_digits w n) ≡ w
unfolding in_digits
digits_long zero n = refl
digits_long (suc w) n = ap suc (digits_long w n)

n1-long : (r : List ℕ) → length r ≡ 81 → length (n1 (fields_of r)) ≡ 11
n1-long r h = ap length (field-of r 1 (omega arith)) ∙ columns-long (1 * 11) 11 r (omega arith)

-- ---- the accession that is kept

accession-next : (t : Track) (role : ℕ) (fs : List (List ℕ)) (r : List ℕ) → length r ≡ 81 → length t.accession ≡ 5
    → length (track_after t role fs r).accession ≡ 5
unfolding track_after after_system after_inside text_read
accession-next t role fs r wide h =
    either_way P (is_system role) _ _
    (either_way P (eqb role ENTRY) _ _ (columns-long 66 5 r (omega arith))
    (either_way P (opens_subentry role) _ _ h
    (either_way P (eqb role BIB) _ _ h
    (either_way P (eqb role COMMON) _ _ h (either_way P (eqb role DATA) _ _ h h)))))
    (either_way P (eqb role TEXT) _ _ (either_way P (blank_to 10 (get_or fs 0 [])) _ _ h h)
    (either_way P (is_heading role) _ _ h
    (either_way P (is_unit role) _ _ h (either_way P (is_value role) _ _ h h))))
  where
    P : Track → Type 0
    P u = length u.accession ≡ 5

pub accession-long : (s : List ℕ) (i : ℕ) → i * 81 ≤ length s → length (context_at s i).track.accession ≡ 5
unfolding context_at context_after
accession-long s zero h = refl
accession-long s (suc i) h =
    let c = context_at s i in
    let r = block_at 81 s i in
    accession-next c.track (role_of c r) (fields_of r) r (block-long s i (omega arith))
    (accession-long s i (omega arith))

-- ---- what is expected

for-long : (a : List ℕ) (n : ℕ) → length a ≡ 5 → length (identification_for a n) ≡ 8
unfolding identification_for
for-long a n h =
    let d = digits_long 3 n in
    length-append a (in_digits 3 n) ∙ omega arith

fields-long : (t : Track) (role : ℕ) (fs : List (List ℕ)) → length t.accession ≡ 5 → length (n1 fs) ≡ 11
    → length (expected_identification t role fs) ≡ 8
unfolding expected_identification
fields-long t role fs a f =
    either_way P (eqb role ENTRY) _ _ (for-long (entry_accession (n1 fs)) 0 (columns-long 6 5 (n1 fs) (omega arith)))
    (either_way P (opens_subentry role) _ _ (columns-long 3 8 (n1 fs) (omega arith))
    (either_way P (eqb role ENDENTRY) _ _ (for-long t.accession 999 a)
    (for-long t.accession t.subentry.number a)))
  where
    P : List ℕ → Type 0
    P x = length x ≡ 8

pub expected-long : (s : List ℕ) (i role : ℕ) → (i + 1) * 81 ≤ length s
    → length (expected_identification (context_at s i).track role (fields_of (block_at 81 s i))) ≡ 8
expected-long s i role h =
    fields-long (context_at s i).track role (fields_of (block_at 81 s i)) (accession-long s i (omega arith))
    (n1-long (block_at 81 s i) (block-long s i h))
