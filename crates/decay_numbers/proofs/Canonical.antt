-- The canonical characters of a value are its canonical field without the blanks in front, and the run of a number goes by
-- what it reads to.
-- Assumes nothing.
use Prim.Native.Nat.{ℕ, zero, suc, ◌-◌, ◌<◌, ◌≤◌}
use mathlib.Core.Path.{◌≡◌, refl}
use mathlib.Core.List.{List, [], ◌∷◌, ◌++◌}
use native.Mathlib.Omega.{arith}
use borrow.Author.Tests.{ne_eqb, le-leb, lt-leb}
use lib.ListN.{length, get_or, length-replicate}
use lib.Seq.{take-length, drop_at}
use Rattle.paper_number.specs.declared.types.Decimal.{Decimal}
use Rattle.paper_number.specs.declared.types.Reading.{Reading}
use Rattle.paper_number.specs.declared.types.Reading.TheVariants.{Number}
use Rattle.paper_number.specs.Grammar.{blanks}
use Rattle.paper_number.specs.Value.{value_of}
use Rattle.paper_number.specs.Reading.{read_field}
use Rattle.paper_canonical.specs.Closed.{canonical_text, canonical_field}
use Rattle.paper_canonical.specs.Writing.{stored_field}
use Rattle.paper_canonical.proofs.Laws.{text-no-blank, number-normal}
use Rattle.paper_canonical.proofs.WriteBack.{value-of-normal}
use Rattle.paper_decay.specs.Fields.{canonical_by, canonical_number}
use Rattle.paper_decay_run.specs.Run.{run_number, lead_of}
use Rattle.decay_numbers.proofs.Words.{between}

-- ---- blanks in front

no_lead : (l : List ℕ) → ((i : ℕ) → i < length l → get_or l i 0 ≡ 32 → ⊥) → lead_of l ≡ 0
unfolding lead_of
no_lead [] h = refl
no_lead (b ∷ l) h = rw (ne_eqb b 32 (h 0 (omega arith))) refl

lead-blanks : (k : ℕ) (l : List ℕ) → lead_of l ≡ 0 → lead_of (blanks k ++ l) ≡ k
unfolding lead_of
lead-blanks zero l e = e
lead-blanks (suc k) l e = let r = lead-blanks k l e in omega arith

pub lead-field : (v : Decimal) → lead_of (canonical_field 11 v) ≡ 11 - length (canonical_text v)
unfolding canonical_field
lead-field v = lead-blanks (11 - length (canonical_text v)) (canonical_text v) (no_lead (canonical_text v) (text-no-blank v))

pub text-behind : (v : Decimal) → length (canonical_text v) ≤ 11
    → between (canonical_field 11 v) (lead_of (canonical_field 11 v)) 11 ≡ canonical_text v
unfolding canonical_field
text-behind v h =
    let k = 11 - length (canonical_text v) in
    let z : 11 - k ≡ length (canonical_text v) = omega arith in
    rw (lead-field v, drop_at (blanks k) (canonical_text v) k (length-replicate k 32), z, take-length (canonical_text v)) refl

-- eleven blanks, and the value stored there
pub stored-eleven : (v : Decimal) → length (canonical_text v) ≤ 11 → stored_field (blanks 11) v ≡ canonical_field 11 v
unfolding stored_field
stored-eleven v h = rw (le-leb _ _ h) refl

-- ---- the run of a number

pub run_long : (l : List ℕ) → 11 < length l → l ≡ run_number l
unfolding run_number
run_long l h = rw (lt-leb _ _ h) refl

pub run-read : (l : List ℕ) (r : Reading) → length l ≤ 11 → read_field l ≡ r → canonical_by r l ≡ run_number l
unfolding run_number canonical_number
run-read l r h e = rw (le-leb _ _ h, e) refl

-- the value of what is read
pub value_read : (l : List ℕ) (v : Decimal) → read_field l ≡ Number v → value_of v.negative v.coefficient v.power ≡ v
value_read l v e = value-of-normal v (number-normal l v e)
