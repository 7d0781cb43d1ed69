use Rattle.double_cases.proofs.Given.{asked-number}
use Rattle.double_cases.proofs.ask_double.Goals as goal

pub say_asked-requires : goal.say_asked-requires
say_asked-requires c = asked-number _ _ _ _ _ _ c.double-asked.ensures.value

pub returns : goal.returns
returns c = tt
