use borrow.Author.Tests.{eq-eqb, ne_eqb}
use mathlib.Core.Path.{refl}
use native.Mathlib.Omega.{arith}
use Rattle.questions_places.proofs.place.shape_from.Goals as goal

pub returns-then-section-eq-COMMON_SECTION : goal.returns-then-section-eq-COMMON_SECTION
returns-then-section-eq-COMMON_SECTION c =
    record {
      value = rw (eq-eqb _ _ c.if-section-eq-COMMON_SECTION.true, ← c.up_to-columns.ensures.value) refl;
      columns_bound = c.up_to-columns.ensures.upper_bound;
      lines_bound = omega arith;
    }

pub returns : goal.returns
returns c =
    record {
      value = rw (ne_eqb _ _ c.if-section-eq-COMMON_SECTION.false, ← c.up_to-columns.ensures.value, ← c.up_to-lines.ensures.value) refl;
      columns_bound = c.up_to-columns.ensures.upper_bound;
      lines_bound = c.up_to-lines.ensures.upper_bound;
    }
