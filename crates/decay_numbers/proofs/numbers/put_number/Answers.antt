use mathlib.Core.Path.{◌∙◌, sym}
use native.Mathlib.Omega.{arith}
use Rattle.paper_canonical.proofs.Laws.{number_fits}
use Rattle.decay_numbers.proofs.Canonical.{run_long, run-read, value_read}
use Rattle.decay_numbers.proofs.numbers.put_number.Goals as goal

pub returns-then-text-gt11 : goal.returns-then-text-gt11
returns-then-text-gt11 c =
    record {
      out_after = rw (← run_long _ c.if-text-gt11.true) c.put_kept.ensures.out_after;
      value = rw (← run_long _ c.if-text-gt11.true) c.put_kept.ensures.value;
    }

pub put_value-requires : goal.put_value-requires
put_value-requires c =
    let says = sym c.read_narrow-r.ensures ∙ c.in-Number.is in
    let k = number_fits _ _ says in
    record {
      power_len_bound = rw (value_read _ _ says) (omega arith);
      power_bound = rw (value_read _ _ says) (omega arith);
    }

pub returns-in-Blank : goal.returns-in-Blank
returns-in-Blank c =
    let says = sym c.read_narrow-r.ensures ∙ c.in-Blank.is in
    record {
      out_after = rw (← run-read _ _ (omega arith) says) c.put_kept-in-Blank.ensures.out_after;
      value = rw (← run-read _ _ (omega arith) says) c.put_kept-in-Blank.ensures.value;
    }

pub returns-in-Number : goal.returns-in-Number
returns-in-Number c =
    let says = sym c.read_narrow-r.ensures ∙ c.in-Number.is in
    record {
      out_after = rw (← run-read _ _ (omega arith) says, ← value_read _ _ says) c.put_value.ensures.out_after;
      value = rw (← run-read _ _ (omega arith) says, ← value_read _ _ says) c.put_value.ensures.value;
    }

pub returns-in-Refused : goal.returns-in-Refused
returns-in-Refused c =
    let says = sym c.read_narrow-r.ensures ∙ c.in-Refused.is in
    record {
      out_after = rw (← run-read _ _ (omega arith) says) c.put_kept-in-Refused.ensures.out_after;
      value = rw (← run-read _ _ (omega arith) says) c.put_kept-in-Refused.ensures.value;
    }
