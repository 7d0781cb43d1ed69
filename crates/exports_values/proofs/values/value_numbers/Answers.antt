use mathlib.Core.Path.{◌≡◌, refl, ap, ◌∙◌}
use Rattle.paper_canonical.proofs.Numbers.{flat-power}
use Rattle.exports_values.specs.Values.{twos, value_numbers}
use Rattle.exports_values.proofs.values.value_numbers.Goals as goal

pub returns : goal.returns
unfolding value_numbers
returns c =
    let v = c.args.v in
    let flat = flat-power v.power (record { sfits = c.struct_told-1.given.1.1.0.1 }) in
    let power : c.twos-raised.result ≡ twos v.power = c.twos-raised.ensures ∙ ap twos flat in
    rw (c.bit-sign.ensures, power) refl
