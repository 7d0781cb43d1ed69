use mathlib.Core.Path.{sym}
use Prim.Native.Nat.{◌+◌}
use Rattle.std.proofs.Common.{arith, None, Some}
use Rattle.paper_number.specs.Reading.{Signed}
use Rattle.paper_number.specs.Walk.{Points}
use Rattle.paper_number.proofs.Tens.{ten-le}
use Rattle.paper_number.proofs.Steps.{field-bad, field-tail}
use Rattle.number_spelling.proofs.spell.number_from.Goals as goal

pub returns-in_err-front : goal.returns-in_err-front
returns-in_err-front c =
    let s = c.args.s.now in
    let i = c.args.i in
    let p : Points s (i + c.past_sign.result) (λ g. Signed g) None = c.in_err-front.ensures in
    rw c.from_residual.ensures
    (record { spelt = sym (field-bad s i c.requires.0 c.requires.2 (rw c.past_sign.ensures at p)); small = tt })

pub returns-in_err-exponent : goal.returns-in_err-exponent
returns-in_err-exponent c =
    let s = c.args.s.now in
    let i = c.args.i in
    let f = c.in_ok-front.front in
    let p : Points s (i + c.past_sign.result) (λ g. Signed g) (Some f) = c.in_ok-front.ensures in
    rw c.from_residual-in_err-exponent.ensures
    (
    record {
      spelt =
          sym (field-tail s i c.requires.0 c.requires.2 f c.in_fraction-digits.result None (rw c.past_sign.ensures at p)
          c.in_fraction-digits.ensures c.in_err-exponent.ensures);
      small = tt;
    }
    )

pub returns : goal.returns
returns c =
    let s = c.args.s.now in
    let i = c.args.i in
    let f = c.in_ok-front.front in
    let d = c.in_fraction-digits.ensures in
    let p : Points s (i + c.past_sign.result) (λ g. Signed g) (Some f) = c.in_ok-front.ensures in
    let w = ten-le {i = c.in_fraction-digits.result.at} {j = 11} (omega (arith, d.inside, c.requires.1)) in
    record {
      spelt =
          sym (field-tail s i c.requires.0 c.requires.2 f c.in_fraction-digits.result _ (rw c.past_sign.ensures at p)
          d c.in_ok-exponent.ensures);
      small =
          record {
            number = omega (arith, d.number, w);
            places = omega (arith, d.places, d.inside, c.requires.1);
            size = c.in_ok-exponent.ensures.small;
          };
    }
