use mathlib.Core.Path.{◌∙◌, ap}
use Rattle.paper_record.specs.Identifier.{identifier_of}
use Rattle.questions_system.proofs.system.system_at.Goals as goal

pub returns : goal.returns
returns c =
    let found = c.identifier_of-identifier.ensures ∙ ap identifier_of c.field_at-f.ensures in
    record {
      identifier_value = found;
      hand_value = rw (← found) c.hand_behind-behind.ensures;
      inside_value = rw (← found) c.records_inside-inside.ensures.value;
      inside_bound = c.records_inside-inside.ensures.upper_bound;
    }
