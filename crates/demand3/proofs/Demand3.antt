-- Demand 3 holds.
-- Assumes nothing.
use Rattle.inside.proofs.Answered.{value-answered, heading-answered, unit-answered}
use Rattle.inside.proofs.PassageAnswered.{passage-answered, one_passage, begun-inside}
use Rattle.inside.proofs.Asked.{value-asked, heading-asked, unit-asked}
use Rattle.inside.proofs.PassageAsked.{passage-asked}
use Rattle.paper_copy.proofs.Made.{copy-made}
use Rattle.paper_copy.proofs.Demand.{copy-accepted, copy-again, one_copy}
use Rattle.paper_copy.proofs.Unchanged.{copy-part}
use Rattle.demand3.specs.Demand3.{Demand3}
use Rattle.demand3.proofs.CopiedFields.{copy-canonical, copy-blank}
use Rattle.demand3.proofs.Values.{same_values, count_left_out}
use Rattle.demand3.proofs.Headings.{same_headings, same_units}
use Rattle.demand3.proofs.Passages.{same_passages}

pub demand3 : Demand3
demand3 =
    record {
      values = value-answered;
      headings = heading-answered;
      units = unit-answered;
      passages = passage-answered;
      values_only = value-asked;
      headings_only = heading-asked;
      units_only = unit-asked;
      passages_only = passage-asked;
      one_passage = one_passage;
      each_passage = begun-inside;
      made = copy-made;
      canonical = copy-canonical;
      blank = copy-blank;
      other_bytes = copy-part;
      accepted = copy-accepted;
      same_values = same_values;
      count_left_out = count_left_out;
      same_headings = same_headings;
      same_units = same_units;
      same_passages = same_passages;
      again = copy-again;
      one_copy = one_copy;
    }
