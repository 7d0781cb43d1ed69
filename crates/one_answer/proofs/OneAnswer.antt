-- Every promise is an equation between the answer and a definition, and so is that of a lent buffer's final bytes; a part
-- has its place besides.
-- Assumes nothing.
use mathlib.Core.Path.{◌≡◌, ◌∙◌, ap}
use Rattle.laws.proofs.Promise.{one_answer}
use Rattle.laws.proofs.PartPlace.{one_place}
use Rattle.walker.specs.declared.walker.Walker.{Walker}
use Rattle.one_answer.specs.OneAnswer.{OneAnswer}

-- a walker is its entry and its walk
one-walker : (x y : Walker) → x.entry ≡ y.entry → x.walk ≡ y.walk → x ≡ y
one-walker x y p q =
    ap (λ e. record { entry = e; walk = x.walk }) p ∙ ap (λ k. record { entry = y.entry; walk = k }) q

pub one-answers : OneAnswer
one-answers =
    record {
      read-field = λ κs a x y s t p q. one_answer p.0 q.0;
      read_digits = λ κs a x y s t p q. one_answer p.0 q.0;
      read_number = λ κs a x y s t p q. one_answer p.0 q.0;
      write_number = λ κs a x y s t p q. (one_answer p.0 q.0, one_answer p.1.0 q.1.0);
      judge = λ κs a x y s t p q. one_answer p q;
      value = λ κs a x y s t p q. one_answer p.0 q.0;
      heading = λ κs a x y s t p q. one_answer p q;
      unit = λ κs a x y s t p q. one_answer p q;
      passage = λ κs a x y s t p q. one_answer p q;
      heading_part = λ κs a x y s t p q. (one_place p.0 q.0, one_answer p.1 q.1);
      unit_part = λ κs a x y s t p q. (one_place p.0 q.0, one_answer p.1 q.1);
      passage_part = λ κs a x y s t p q. (one_place p.0 q.0, one_answer p.1 q.1);
      copy = λ κs a x y s t p q. (one_answer p.0 q.0, one_answer p.1 q.1);
      judge-file = λ κs a x y s t p q. one_answer p q;
      entry-records = λ κs a x y s t p q. one_answer p.0 q.0;
      entry_length = λ κs a x y s t p q. one_answer p.0 q.0;
      entry-from = λ κs a x y s t p q. (one_place p.0 q.0, one_answer p.1 q.1);
      copy_file = λ κs a x y s t p q. (one_answer p.0 q.0, one_answer p.1 q.1);
      explain = λ κs a x y s t p q. one_answer p q;
      explain-file = λ κs a x y s t p q. one_answer p q;
      x4_version = λ κs a x y s t p q. one_answer p q;
      x4_judge = λ κs a x y s t p q. (one_answer p.0 q.0, one_answer p.1 q.1);
      x4_read_number = λ κs a x y s t p q. (one_answer p.0 q.0, one_answer p.1 q.1);
      x4_write_number = λ κs a x y s t p q. (one_answer p.0 q.0, one_answer p.1 q.1);
      x4_value = λ κs a x y s t p q. (one_answer p.0 q.0, one_answer p.1 q.1);
      x4_heading = λ κs a x y s t p q. (one_answer p.0 q.0, one_answer p.1 q.1);
      x4_unit = λ κs a x y s t p q. (one_answer p.0 q.0, one_answer p.1 q.1);
      x4_passage = λ κs a x y s t p q. (one_answer p.0 q.0, one_answer p.1 q.1);
      x4_copy = λ κs a x y s t p q. (one_answer p.0 q.0, one_answer p.1 q.1);
      x4_judge_file = λ κs a x y s t p q. (one_answer p.0 q.0, one_answer p.1 q.1);
      x4_entry_length = λ κs a x y s t p q. one_answer p q;
      x4_copy_file = λ κs a x y s t p q. (one_answer p.0 q.0, one_answer p.1 q.1);
      x4_explain = λ κs a x y s t p q. (one_answer p.0 q.0, one_answer p.1.0 q.1.0);
      x4_explain_facts = λ κs a x y s t p q. (one_answer p.0 q.0, one_answer p.1.1.0 q.1.1.0);
      x4_explain_characters = λ κs a x y s t p q. (one_answer p.0 q.0, one_answer p.1.1.1 q.1.1.1);
      x4_explain_file = λ κs a x y s t p q. (one_answer p.0 q.0, one_answer p.1.0 q.1.0);
      x4_explain_file_facts = λ κs a x y s t p q. (one_answer p.0 q.0, one_answer p.1.1.0 q.1.1.0);
      x4_explain_file_characters = λ κs a x y s t p q. (one_answer p.0 q.0, one_answer p.1.1.1 q.1.1.1);
      value-from-row = λ κs a x y s t p q. one_answer p q;
      heading-from-row = λ κs a x y s t p q. one_answer p q;
      unit-from-row = λ κs a x y s t p q. one_answer p q;
      passage-from-row = λ κs a x y s t p q. one_answer p q;
      make_index = λ κs a x y s t p q. (one_answer p.0 q.0, one_answer p.1 q.1);
      find_row = λ κs a x y s t p q. one_answer p q;
      value-by-index = λ κs a x y s t p q. one_answer p q;
      heading-by-index = λ κs a x y s t p q. one_answer p q;
      unit-by-index = λ κs a x y s t p q. one_answer p q;
      passage-by-index = λ κs a x y s t p q. one_answer p q;
      heading_part_by_index = λ κs a x y s t p q. (one_place p.0 q.0, one_answer p.1 q.1);
      unit_part_by_index = λ κs a x y s t p q. (one_place p.0 q.0, one_answer p.1 q.1);
      passage_part_by_index = λ κs a x y s t p q. (one_place p.0 q.0, one_answer p.1 q.1);
      x4_index = λ κs a x y s t p q. (one_answer p.0 q.0, one_answer p.1.0 q.1.0);
      x4_index_rows = λ κs a x y s t p q. (one_answer p.0 q.0, one_answer p.1.1 q.1.1);
      x4_index_row = λ κs a x y s t p q. (one_answer p.0 q.0, one_answer p.1 q.1);
      x4_index_value = λ κs a x y s t p q. (one_answer p.0 q.0, one_answer p.1 q.1);
      x4_index_heading = λ κs a x y s t p q. (one_answer p.0 q.0, one_answer p.1 q.1);
      x4_index_unit = λ κs a x y s t p q. (one_answer p.0 q.0, one_answer p.1 q.1);
      x4_index_passage = λ κs a x y s t p q. (one_answer p.0 q.0, one_answer p.1 q.1);
      start-from-row = λ κs a x y s t p q. one_answer p q;
      start_walk = λ κs a x y s t p q. one_answer p q;
      one_on = λ κs a x y s t p q. one_answer p.0 q.0;
      walker_new = λ κs a x y s t p q. one-walker x y (one_answer p.0 q.0) (one_answer p.1 q.1);
      walker_next = λ κs a x y s t p q. (one_answer p.1.0 q.1.0, one_answer p.0 q.0);
      x4_walk = λ κs a x y s t p q. (one_answer p.0 q.0, one_answer p.1 q.1);
      x4_walk_next = λ κs a x y s t p q. (one_answer p.0 q.0, one_answer p.1.0 q.1.0);
      x4_walk_next_place = λ κs a x y s t p q. (one_answer p.0 q.0, one_answer p.1.1.0 q.1.1.0);
      x4_walk_next_value = λ κs a x y s t p q. (one_answer p.0 q.0, one_answer p.1.1.1 q.1.1.1);
      doubled = λ κs a x y s t p q. one_answer p.0 q.0;
      double = λ κs a x y s t p q. one_answer p.0 q.0;
      double-from-row = λ κs a x y s t p q. one_answer p.0 q.0;
      double-by-index = λ κs a x y s t p q. one_answer p.0 q.0;
      x4_double = λ κs a x y s t p q. (one_answer p.0 q.0, one_answer p.1 q.1);
      x4_index_double = λ κs a x y s t p q. (one_answer p.0 q.0, one_answer p.1 q.1);
      x4_read_double = λ κs a x y s t p q. (one_answer p.0 q.0, one_answer p.1 q.1);
      x4_as_double = λ κs a x y s t p q. one_answer p q;
      x4_as_double_kind = λ κs a x y s t p q. one_answer p q;
      check_lines = λ κs a x y s t p q. one_answer p q;
      line = λ κs a x y s t p q. one_answer p q;
      piece = λ κs a x y s t p q. one_answer p q;
      piece_part = λ κs a x y s t p q. (one_place p.0 q.0, one_answer p.1 q.1);
      write_back = λ κs a x y s t p q. (one_answer p.0 q.0, one_answer p.1 q.1);
      x4_cinda_check = λ κs a x y s t p q. one_answer p q;
      x4_cinda_line = λ κs a x y s t p q. (one_answer p.0 q.0, one_answer p.1.0 q.1.0);
      x4_cinda_line_least = λ κs a x y s t p q. (one_answer p.0 q.0, one_answer p.1.1.0 q.1.1.0);
      x4_cinda_line_greatest = λ κs a x y s t p q. (one_answer p.0 q.0, one_answer p.1.1.1 q.1.1.1);
      x4_cinda_pieces = λ κs a x y s t p q. (one_answer p.0 q.0, one_answer p.1 q.1);
      x4_cinda_back = λ κs a x y s t p q. (one_answer p.0 q.0, one_answer p.1 q.1);
      code = λ κs a x y s t p q. (one_answer p.0 q.0, one_answer p.1 q.1);
      code-in = λ κs a x y s t p q. (one_answer p.0 q.0, one_answer p.1 q.1);
      code_head = λ κs a x y s t p q. one_answer p q;
      code-group = λ κs a x y s t p q. one_answer p q;
      code_type = λ κs a x y s t p q. one_answer p q;
      code_energy = λ κs a x y s t p q. one_answer p q;
      x4_decay = λ κs a x y s t p q. (one_answer p.0 q.0, one_answer p.1.0 q.1.0);
      x4_decay_length = λ κs a x y s t p q. (one_answer p.0 q.0, one_answer p.1.1 q.1.1);
      x4_decay_in = λ κs a x y s t p q. (one_answer p.0 q.0, one_answer p.1.0 q.1.0);
      x4_decay_in_length = λ κs a x y s t p q. (one_answer p.0 q.0, one_answer p.1.1 q.1.1);
      x4_decay_head = λ κs a x y s t p q. (one_answer p.0 q.0, one_answer p.1.0 q.1.0);
      x4_decay_head_half = λ κs a x y s t p q. (one_answer p.0 q.0, one_answer p.1.1 q.1.1);
      x4_decay_group = λ κs a x y s t p q. (one_answer p.0 q.0, one_answer p.1.0 q.1.0);
      x4_decay_group_abundance = λ κs a x y s t p q. (one_answer p.0 q.0, one_answer p.1.1 q.1.1);
      x4_decay_type = λ κs a x y s t p q. (one_answer p.0 q.0, one_answer p.1 q.1);
      x4_decay_energy = λ κs a x y s t p q. (one_answer p.0 q.0, one_answer p.1.0 q.1.0);
      x4_decay_energy_value = λ κs a x y s t p q. (one_answer p.0 q.0, one_answer p.1.1 q.1.1);
      subentry = λ κs a x y s t p q. one_answer p q;
      subentry_part = λ κs a x y s t p q. (one_place p.0 q.0, one_answer p.1 q.1);
      merge = λ κs a x y s t p q. (one_answer p.0 q.0, one_answer p.1 q.1);
      x4_subentry = λ κs a x y s t p q. (one_answer p.0 q.0, one_answer p.1 q.1);
      x4_merge = λ κs a x y s t p q. (one_answer p.0 q.0, one_answer p.1.0 q.1.0);
      x4_merge_length = λ κs a x y s t p q. (one_answer p.0 q.0, one_answer p.1.1 q.1.1);
    }
