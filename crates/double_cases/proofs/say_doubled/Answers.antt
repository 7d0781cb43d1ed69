use mathlib.Core.Path.{sym, subst}
use lib.Dec.{T}
use Rattle.paper_double.specs.declared.types.Simple.{Simple}
use Rattle.double_cases.specs.Numbers.{is_number}
use Rattle.double_cases.proofs.Given.{given-number}
use Rattle.double_cases.proofs.say_doubled.Goals as goal

pub say_simple-requires : goal.say_simple-requires
say_simple-requires c =
    subst (λ (v : Simple). T (is_number v)) (sym c.doubled-value.ensures.value) (given-number c.args.reading)

pub returns : goal.returns
returns c = tt
