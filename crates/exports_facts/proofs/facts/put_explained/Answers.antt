use mathlib.Core.Path.{refl}
use Rattle.exports_facts.proofs.facts.put_explained.Goals as goal

pub returns : goal.returns
returns c =
    record {
      value = c.put_verdict.ensures.value;
      totals_after = c.put_verdict.ensures.out_after;
      facts_after = c.facts_numbers.ensures;
      characters_after = refl;
    }
