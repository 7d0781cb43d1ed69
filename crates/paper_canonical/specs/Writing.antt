-- What writing answers, and what the buffer then holds (document 01):
--
--   "Writing: 40 buffer not eleven bytes, 41 no field reads to the value. A refused call stores nothing."
use Rattle.std.specs.Prelude.{cond, List, ℕ, leb, eqb, length, Result, Ok, Err}
use Rattle.paper_number.specs.declared.types.Decimal.{Decimal}
use Rattle.paper_canonical.specs.declared.types.WriteError.{WriteError}
use Rattle.paper_canonical.specs.declared.types.WriteError.TheVariants.{NotEleven, NoField}
use Rattle.paper_canonical.specs.Closed.{canonical_text, canonical_field}

-- what a call answers
abbrev pub Written : Type 0
Written = Result (Unit {0}) WriteError

-- into a buffer of any width
unfoldable pub answered : List ℕ → Decimal → Written
answered l v = cond (leb (length (canonical_text v)) (length l)) (Ok tt) (Err NoField)

unfoldable pub stored_field : List ℕ → Decimal → List ℕ
stored_field l v = cond (leb (length (canonical_text v)) (length l)) (canonical_field (length l) v) l

-- into one that has to be of eleven bytes
unfoldable pub written : List ℕ → Decimal → Written
written l v = cond (eqb (length l) 11) (answered l v) (Err NotEleven)

unfoldable pub bytes : List ℕ → Decimal → List ℕ
bytes l v = cond (eqb (length l) 11) (stored_field l v) l

-- document 01's number for each refusal,
abbrev pub error_number : WriteError → ℕ
error_number NotEleven = 40
error_number NoField = 41

-- and for each answer: 0 done
abbrev pub refusal_number : Written → ℕ
refusal_number (Ok done) = 0
refusal_number (Err e) = error_number e

unfoldable pub writing_refusal : List ℕ → Decimal → ℕ
writing_refusal l v = cond (eqb (length l) 11) (cond (leb (length (canonical_text v)) 11) 0 41) 40
