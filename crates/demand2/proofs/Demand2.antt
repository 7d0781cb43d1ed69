-- Demand 2 holds.
-- Assumes nothing.
use Rattle.paper_number.proofs.Laws as Number
use Rattle.paper_canonical.specs.Marked as Marked
use Rattle.paper_canonical.proofs.Laws as Canonical
use Rattle.paper_record.proofs.PlainValues.{number-exactly}
use Rattle.entry_walk.proofs.FirstRefused.{refused_first}
use Rattle.entry_walk.proofs.FirstAlone.{first_alone}
use Rattle.refusal_table.proofs.Listed.{refusals_listed, length_first}
use Rattle.refusal_table.proofs.TextFaults.{ten_said, eleven_said}
use Rattle.refusal_table.proofs.TextsExactly.{ten_exactly, eleven_exactly}
use Rattle.refusal_table.proofs.HeadingFaults.{thirteen_said, fourteen_said, repeated_refused, lost_refused}
use Rattle.refusal_table.proofs.FlagFaults.{seventeen_said, flag_refused}
use Rattle.refusal_table.proofs.ValueLines.{over_fields}
use Rattle.good.proofs.Theorems.{accepted_exactly, good-accepted}
use Rattle.inside.proofs.Placed.{value_placed, heading_placed, unit_placed}
use Rattle.inside.proofs.PassageAnswered.{passage-answered, one_passage}
use Rattle.answered_tables.proofs.Answers.{value_of_table, heading_of_table, unit_of_table}
use Rattle.answered_tables.proofs.Passages.{passage_of_bib}
use Rattle.demand2.specs.Demand2.{Demand2}
use Rattle.demand2.proofs.Writing.{written_so, written_alone, one_wins, refused_exactly}

pub demand2 : Demand2
demand2 =
    record {
      accepted_exactly = accepted_exactly;
      refused_first = refused_first;
      first_alone = first_alone;
      refusals_listed = refusals_listed;
      length_first = length_first;
      ten_said = ten_said;
      eleven_said = eleven_said;
      ten_exactly = ten_exactly;
      eleven_exactly = eleven_exactly;
      thirteen_said = thirteen_said;
      fourteen_said = fourteen_said;
      repeated_refused = repeated_refused;
      lost_refused = lost_refused;
      seventeen_said = seventeen_said;
      flag_refused = flag_refused;
      over_fields = over_fields;
      totals = good-accepted;
      numbers = number-exactly;
      value_of_table = value_of_table;
      heading_of_table = heading_of_table;
      unit_of_table = unit_of_table;
      passage_of_bib = passage_of_bib;
      value_placed = value_placed;
      heading_placed = heading_placed;
      unit_placed = unit_placed;
      passage_placed = passage-answered;
      one_passage = one_passage;
      says_exactly = Number.says_exactly;
      one_field = Number.spelt-once;
      a_value = Number.value_found;
      one_value = Number.value-one;
      eleven = Number.eleven-read;
      not_eleven = Number.others-refused;
      written_so = written_so;
      written_alone = written_alone;
      one_best = Canonical.best-one;
      one_wins = one_wins;
      closed_form = Canonical.closed_form;
      columns_span = Canonical.columns_span;
      refused_exactly = refused_exactly;
      marked_right = Marked.marked_right;
    }
