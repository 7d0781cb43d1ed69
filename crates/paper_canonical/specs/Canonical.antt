-- The canonical field of a value (document 01, "Canonical field"):
--
--   "Of all fields reading to the value: the one with fewest columns from first to last non-blank; among equals,
--   without exponent; then without E; then with most digits before the point; right-adjusted. That exactly one field
--   wins is proved."
--
-- The five keys, the order that they make, and what wins. How it is found is another matter (Closed.antt).
use Rattle.std.specs.Prelude.{◌≡◌, Bool, true, false, cond, List, [], ◌∷◌, ◌⊎◌, ℕ, zero, suc, ◌+◌, ◌<◌, eqb, length}
use Rattle.paper_number.specs.declared.types.Decimal.{Decimal}
use Rattle.paper_number.specs.Grammar.{sign_text, by_sign, by_mark, by_bare, open_text, Tail, plain, power, Field, write}
use Rattle.paper_number.specs.Grammar.{GoodField}
use Rattle.paper_number.specs.Value.{Means, Reads}

-- ---- the five keys

-- "columns from first to last non-blank"
abbrev pub tail_columns : Tail → ℕ
tail_columns (plain k) = 0
tail_columns (power o ds) = length (open_text o) + length ds

unfoldable pub columns : Field → ℕ
columns f = length (sign_text f.sign) + (length f.whole + (1 + (length f.part + tail_columns f.tail)))

-- "without exponent": 0 without, 1 with
abbrev pub exponents : Tail → ℕ
exponents (plain k) = 0
exponents (power o ds) = 1

-- "without E": 0 without, 1 with
abbrev pub marks_e : Tail → ℕ
marks_e (plain k) = 0
marks_e (power (by_sign k g) ds) = 0
marks_e (power (by_mark k g) ds) = 1
marks_e (power (by_bare k j) ds) = 1

-- "digits before the point" are `length f.whole`; "right-adjusted" is no blank behind
abbrev pub blanks_behind : Tail → ℕ
blanks_behind (plain k) = k
blanks_behind (power o ds) = 0

-- ---- their order

-- fewer; "among equals", by the keys that follow
abbrev pub Fewer : ℕ → ℕ → Type 0 → Type 0
Fewer a b rest = (a < b) ⊎ ((a ≡ b) × rest)

-- f comes before g
unfoldable pub Ahead : Field → Field → Type 0
Ahead f g =
    Fewer (columns f) (columns g)
    (Fewer (exponents f.tail) (exponents g.tail)
    (Fewer (marks_e f.tail) (marks_e g.tail)
    (Fewer (length g.whole) (length f.whole)
    (blanks_behind f.tail < blanks_behind g.tail))))

-- ---- what wins

-- f is a field of w columns that reads to v, and comes before all others: "of all fields reading to the value"
pub record Canonical (w : ℕ) (v : Decimal) (f : Field) : Type 0 where
  pub good : GoodField f
  pub wide : length (write f) ≡ w
  pub says : Means f v
  pub first : (g : Field) → GoodField g → length (write g) ≡ w → Means g v → (write g ≡ write f) ⊎ Ahead f g

-- "exactly one field wins": the law `canonical-one`
pub record ExactlyOne (w : ℕ) (v : Decimal) : Type 0 where
  pub field : Field
  pub wins : Canonical w v field
  pub alone : (g : Field) → Canonical w v g → write g ≡ write field

-- "no field reads to the value": the law `canonical-none`
abbrev pub NoField : ℕ → Decimal → Type 0
NoField w v = (g : Field) → GoodField g → length (write g) ≡ w → Means g v → ⊥

-- ---- the same of bytes

-- of all lists of w bytes that read to v, l comes before every other one. What is claimed of writing and of the copy is
-- said by this one: the canonical field is such (`canonical-best`), and nothing else is (`best-one`)
pub record Best (w : ℕ) (v : Decimal) (l : List ℕ) : Type 0 where
  pub wide : length l ≡ w
  pub reads : Reads l v
  pub first : (m : List ℕ) → length m ≡ w → (r : Reads m v) → (m ≡ l) ⊎ Ahead reads.field r.field

-- "columns from first to last non-blank" of bytes; that a field has as many is the law `columns-span`
abbrev pub past_blanks : List ℕ → List ℕ
past_blanks [] = []
past_blanks (b ∷ l) = cond (eqb b 32) (past_blanks l) (b ∷ l)

-- one column more, unless that and all behind it are blank
abbrev pub one_more : ℕ → Bool → ℕ
one_more zero true = 0
one_more zero false = 1
one_more (suc n) blank = suc (suc n)

abbrev pub up_to_last : List ℕ → ℕ
up_to_last [] = 0
up_to_last (b ∷ l) = one_more (up_to_last l) (eqb b 32)

abbrev pub span : List ℕ → ℕ
span l = up_to_last (past_blanks l)
