use Prim.Native.Nat.{ℕ}
use mathlib.Core.Path.{ap}
use Rattle.laws.proofs.Promise.{said-too}
use Rattle.std.proofs.Common.{Some}
use Rattle.paper_record.specs.System.{count_answer, integer_of}
use borrow.Author.Tests.{eq-eqb, ne_eqb}
use Rattle.record.proofs.system.count_of.Goals as goal

pub returns-then-start-eq11 : goal.returns-then-start-eq11
unfolding integer_of
returns-then-start-eq11 c =
    let both = said-too count_answer (rw (← c.filled_from-start.ensures.value, eq-eqb _ _ c.if-start-eq11.true)) in
    record { value = both.0; result_value = both.1 }

pub returns-then-not-digits_in : goal.returns-then-not-digits_in
unfolding integer_of
returns-then-not-digits_in c =
    let both = said-too count_answer (rw (
      ← c.filled_from-start.ensures.value,
      ne_eqb _ _
          c.if-start-eq11.false,
      ← c.digits_in.ensures,
      c.if-not-digits_in.true,
    )) in
    record { value = both.0; result_value = both.1 }

pub returns : goal.returns
unfolding integer_of
returns c =
    let both = said-too count_answer (rw (
      ← c.filled_from-start.ensures.value,
      ne_eqb _ _
          c.if-start-eq11.false,
      ← c.digits_in.ensures,
      c.if-not-digits_in.false,
    ) (ap (λ (n : ℕ). Some n) c.number_in-number.ensures.value)) in
    record { value = both.0; result_value = both.1 }
