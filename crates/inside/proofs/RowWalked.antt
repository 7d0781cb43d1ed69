-- The row of a subentry along the walk over an accepted entry: what stays of it from one record to the next, and the
-- records that it names. Assumes nothing.
use Prim.Native.Nat.{ℕ, zero, suc, ◌*◌, ◌-◌, ◌≤◌}
use mathlib.Core.Path.{◌≡◌, refl, ◌∙◌}
use mathlib.Core.List.{List}
use native.Mathlib.Omega.{arith}
use lib.ListN.{length}
use borrow.Author.Tests.{ne_eqb, le-leb}
use Rattle.laws.specs.Blocks.{block_at}
use Rattle.paper_record.specs.Fields.{fields_of}
use Rattle.paper_record.specs.declared.types.RecordNo.{RecordNo}
use Rattle.paper_entry.specs.Judging.{role_of}
use Rattle.paper_entry.specs.Contexts.{context_at, role_at}
use Rattle.paper_questions.specs.Located.{noted_as, row_at}
use Rattle.paper_questions.specs.Place.{fields_at}
use Rattle.paper_questions.proofs.RowChanges.{number-stays}

pub number-of : (s : List ℕ) (number i : ℕ) → (row_at s number i).number ≡ number
unfolding row_at
number-of s number zero = refl
number-of s number (suc i) =
    let c = context_at s i in
    let r = block_at 81 s i in
    number-stays c.track (role_of c r) (fields_of r) (row_at s number i) ∙ number-of s number i

pub row_next : (s : List ℕ) (number i : ℕ)
    → row_at s number (suc i)
    ≡ noted_as (context_at s i).track (role_at s i) (fields_of (block_at 81 s i)) (row_at s number i)
unfolding row_at
row_next s number i = refl

-- the record with the index i, by its number
pub fields-at : (s : List ℕ) (i : ℕ) → suc i * 81 ≤ length s → (at : RecordNo) → at.0 ≡ suc i
    → fields_at s at ≡ fields_of (block_at 81 s i)
unfolding fields_at
fields-at s i h at e =
    let z : at.0 - 1 ≡ i = omega arith in
    rw (ne_eqb at.0 0 (λ q. omega arith), le-leb (at.0 * 81) (length s) (omega arith), z)
