-- Every double that is given is a number: it is a fraction, rounded.
-- Assumes nothing.
use mathlib.Core.Path.{◌≡◌, refl, sym, subst}
use mathlib.Core.Bool.{Bool, true, false, cond, not}
use mathlib.Core.List.{List}
use Prim.Native.Nat.{ℕ, zero, suc, ◌+◌, ◌-◌, ◌*◌, ◌/◌, ◌%◌, ◌^◌, compare}
use lib.Dec.{T, ltb}
use lib.Ieee.{Float, inf, Format, binary64, prec, emax, low, size, nearest, odd, units, round, is_nan}
use Rattle.paper_number.specs.declared.types.Decimal.{Decimal}
use Rattle.paper_number.specs.declared.types.Reading.{Reading}
use Rattle.paper_number.specs.declared.types.Reading.TheVariants as R
use Rattle.paper_record.specs.declared.types.LineNo.{LineNo}
use Rattle.paper_questions.specs.Ask.{value_asked}
use Rattle.paper_double.specs.declared.types.Simple.{Simple}
use Rattle.paper_double.specs.Double.{is_simple, simple_of, doubled}
use Rattle.paper_double_asking.specs.declared.types.DoubleAnswer.{DoubleAnswer}
use Rattle.paper_double_asking.specs.Ask.{double_asked}
use Rattle.paper_double.specs.Claims.{over, under}
use Rattle.paper_double.proofs.Doubles.{rounded-once, outside-exactly}
use Rattle.double_cases.specs.Numbers.{is_number}

odd_number : (d : ℕ) (s : Bool) (q k l : ℕ) → T (not (is_nan (odd d s q k l)))
unfolding odd is_nan
odd_number d s zero k l = tt
odd_number d s (suc q) k l = tt

either_number : (t : Bool) (x : Float) (s : Bool) → T (not (is_nan x)) → T (not (is_nan (cond t x (inf s))))
unfolding is_nan
either_number true x s h = h
either_number false x s h = tt

units_number : (f : Format) (s : Bool) (q k : ℕ) → T (not (is_nan (units f s q k)))
unfolding units
units_number f s q k =
    either_number (ltb (q * 2 ^ k) (2 ^ (low f + suc (emax f)))) (odd (suc (prec f)) s q k (low f)) s
    (odd_number (suc (prec f)) s q k (low f))

round_number : (s : Bool) (num den : ℕ) → T (not (is_nan (round binary64 s num den)))
unfolding round
round_number s num den =
    let n = num * 2 ^ low binary64 in
    let k = size (n / den) - prec binary64 in
    let u = den * 2 ^ k in
    units_number binary64 s (nearest (n / u) (compare (n % u * 2) u)) k

simple-number : (d : Decimal) → T (is_number (simple_of d))
simple-number d = by-test (is_simple d) refl
  where
    by-test : (t : Bool) → is_simple d ≡ t → T (is_number (simple_of d))
    by-test true e =
        subst (λ (v : Simple). T (is_number v)) (sym (rounded-once d e))
        (round_number d.negative (over d.coefficient d.power) (under d.power))
    by-test false e = subst (λ (v : Simple). T (is_number v)) (sym ((outside-exactly d d).1 (e, refl))) tt

pub given-number : (said : Reading) → T (is_number (doubled said))
given-number R.Blank = tt
given-number (R.Number d) = simple-number d
given-number (R.Refused n) = tt

pub asked-number : (s : List ℕ) (n section : ℕ) (line : LineNo) (column : ℕ) (a : DoubleAnswer)
    → a ≡ double_asked s n section line column → T (is_number a.value)
unfolding double_asked
asked-number s n section line column a e =
    subst (λ (b : DoubleAnswer). T (is_number b.value)) (sym e) (given-number (value_asked s n section line column).value)
