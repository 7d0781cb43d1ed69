-- Whether a field has an exponent, and the whole number that it says without one (document 02, M-105):
--
--   "it matches by exact value. A non-blank FLAG or DECAY-FLAG value, in COMMON or DATA, must have no exponent."
--
-- The first part says it of a field of the grammar, the rest how it is worked out; that both agree are the laws
-- `exponent-exactly` and `whole-exactly`.
use Rattle.std.specs.Prelude.{Bool, true, false, cond, not, ◌&&◌, List, ℕ, zero, suc, ◌/◌, ◌%◌, ◌^◌, ◌<◌, eqb, is_some}
use Rattle.paper_number.specs.Grammar.{Tail, plain, power}
use Rattle.paper_number.specs.declared.types.Spelt.{Spelt}
use Rattle.paper_number.specs.declared.types.Spelt.TheVariants as S
use Rattle.paper_number.specs.Walk.{spelt}
use Rattle.paper_number.specs.declared.types.WholeRead.{WholeRead}
use Rattle.paper_number.specs.declared.types.WholeRead.TheVariants.{NoNumber, Raised, Broken, Whole}

-- ---- "must have no exponent": none written, be it zero

-- of a field of the grammar
abbrev pub is_raised : Tail → Bool
is_raised (plain k) = false
is_raised (power o ds) = true

-- of what is spelt; what is no field has none
abbrev pub spells_exponent : Spelt → Bool
spells_exponent S.Blank = false
spells_exponent S.Malformed = false
spells_exponent (S.Number n) = is_some n.exponent

unfoldable pub has_exponent : List ℕ → Bool
has_exponent l = spells_exponent (spelt l)

-- ---- "by exact value": the whole number that is said

-- a number below zero; -.0 is zero
abbrev pub below_zero : Bool → ℕ → Bool
below_zero negative number = negative && not (eqb number 0)

-- so many of the digits stand behind the point: they have to be zeros
unfoldable pub whole_from : ℕ → ℕ → WholeRead
whole_from zero v = Whole v
whole_from (suc p) v = cond (eqb (v % 10) 0) (whole_from p (v / 10)) Broken

abbrev pub whole_of : Spelt → WholeRead
whole_of S.Blank = NoNumber
whole_of S.Malformed = NoNumber
whole_of (S.Number n) =
    cond (is_some n.exponent) Raised
    (cond (below_zero n.negative n.number) Broken
    (whole_from n.places n.number))

unfoldable pub whole_read : List ℕ → WholeRead
whole_read l = whole_of (spelt l)

-- it says the whole number n: 1., 01. and +1.0 say 1, and 2.5 or -2. none
abbrev pub says_whole : WholeRead → ℕ → Bool
says_whole NoNumber n = false
says_whole Raised n = false
says_whole Broken n = false
says_whole (Whole v) n = eqb v n

unfoldable pub whole_is : List ℕ → ℕ → Bool
whole_is l n = says_whole (whole_read l) n

-- no more digits than eleven columns have
pub record Short (n : ℕ) : Type 0 where
  pub few : n < 10 ^ 11

-- a whole number has no more
abbrev pub Few : WholeRead → Type 0
Few NoNumber = Unit {0}
Few Raised = Unit {0}
Few Broken = Unit {0}
Few (Whole v) = Short v
