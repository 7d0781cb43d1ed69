use Rattle.paper_reasons.specs.File.{explain_file}
use Rattle.exports_reasons.proofs.explaining.x4_explain_file.Goals as goal

pub returns : goal.returns
unfolding explain_file
returns c =
    record {
      value = rw c.explain_file-e.ensures at c.put_explained.ensures.value;
      totals_after = rw c.explain_file-e.ensures at c.put_explained.ensures.totals_after;
      facts_after = rw c.explain_file-e.ensures at c.put_explained.ensures.facts_after;
      characters_after = rw c.explain_file-e.ensures at c.put_explained.ensures.characters_after;
    }
