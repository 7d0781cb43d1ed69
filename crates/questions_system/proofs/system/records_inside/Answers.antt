use Rattle.system_records.specs.Next.{records_inside}
use borrow.Author.Tests.{eq-eqb, ne_eqb}
use mathlib.Core.Path.{refl}
use native.Mathlib.Omega.{arith}
use Rattle.questions_system.proofs.system.records_inside.Goals as goal

pub returns-then-identifier-eq-BIB : goal.returns-then-identifier-eq-BIB
unfolding records_inside
returns-then-identifier-eq-BIB c =
    let few = c.count_to.ensures.upper_bound in
    record {
      value = rw (eq-eqb _ _ c.if-identifier-eq-BIB.true, ← c.field_at-b.ensures) c.count_to.ensures.value;
      upper_bound = omega (arith, few);
    }

pub returns-then-identifier-eq-COMMON : goal.returns-then-identifier-eq-COMMON
unfolding records_inside
returns-then-identifier-eq-COMMON c =
    record {
      value = rw (
        ne_eqb _ _ c.if-identifier-eq-BIB.false,
        eq-eqb _ _ c.if-identifier-eq-COMMON.true,
        ← c.field_at-a.ensures,
        ← c.count_to-columns.ensures.value,
      ) c.table_records.ensures.value;
      upper_bound = c.table_records.ensures.upper_bound;
    }

pub returns-then-identifier-eq-DATA : goal.returns-then-identifier-eq-DATA
unfolding records_inside
returns-then-identifier-eq-DATA c =
    record {
      value = rw (
        ne_eqb _ _ c.if-identifier-eq-BIB.false,
        ne_eqb _ _ c.if-identifier-eq-COMMON.false,
        eq-eqb _ _ c.if-identifier-eq-DATA.true,
        ← c.field_at-a.ensures,
        ← c.field_at-b.ensures,
        ← c.count_to-columns.ensures.value,
        ← c.count_to-lines.ensures.value,
      ) c.table_records-then-identifier-eq-DATA.ensures.value;
      upper_bound = c.table_records-then-identifier-eq-DATA.ensures.upper_bound;
    }

pub returns : goal.returns
unfolding records_inside
returns c =
    record {
      value = rw (
        ne_eqb _ _ c.if-identifier-eq-BIB.false,
        ne_eqb _ _ c.if-identifier-eq-COMMON.false,
        ne_eqb _ _ c.if-identifier-eq-DATA.false,
      ) refl;
      upper_bound = omega arith;
    }
