use mathlib.Core.Path.{subst}
use lib.Dec.{T}
use Rattle.paper_double.specs.declared.types.Simple.{Simple}
use Rattle.double_cases.specs.Numbers.{is_number}
use Rattle.double_cases.proofs.say_simple.Goals as goal

pub say_double-requires : goal.say_double-requires
say_double-requires c =
    subst (λ (v : Simple). T (is_number v)) c.in-Double.is c.requires

pub returns-in-Blank : goal.returns-in-Blank
returns-in-Blank c = tt

pub returns-in-Double : goal.returns-in-Double
returns-in-Double c = tt

pub returns-in-Outside : goal.returns-in-Outside
returns-in-Outside c = tt
