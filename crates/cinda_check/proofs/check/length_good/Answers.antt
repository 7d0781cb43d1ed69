use Rattle.paper_cinda.specs.Check.{good_length}
use borrow.Author.Tests.{eq-eqb, ne_eqb}
use mathlib.Core.Path.{◌≡◌, ◌∙◌, refl, sym}
use native.Mathlib.Omega.{arith}
use Prim.Native.Nat.{ℕ}
use Rattle.cinda_check.proofs.check.length_good.Goals as goal
use Rattle.cinda_check.proofs.check.length_good.Goals.{then-bytes-ne0, else-bytes-ne0}

pub returns-then-bytes-eq0 : goal.returns-then-bytes-eq0
unfolding good_length
returns-then-bytes-eq0 c =
    elim c.if-bytes-ne0.branch [
      | then-bytes-ne0 w ↦
          let e = sym w.value-is ∙ c.if-bytes-eq0.true in
          rw (ne_eqb _ _ w.if-bytes-ne0.true, e) refl
      | else-bytes-ne0 w ↦
          let e = sym w.value-is ∙ c.if-bytes-eq0.true in
          let z : ◌≡◌ {A = ℕ} 0 1 = cc in absurd (omega arith)
    ]

pub returns-else-bytes-eq0 : goal.returns-else-bytes-eq0
unfolding good_length
returns-else-bytes-eq0 c =
    elim c.if-bytes-ne0.branch [
      | then-bytes-ne0 w ↦
          let e = sym w.value-is ∙ c.if-bytes-eq0.false in
          rw (ne_eqb _ _ w.if-bytes-ne0.true, e, c.if-bytes-eq0.false) refl
      | else-bytes-ne0 w ↦ rw (eq-eqb _ _ w.if-bytes-ne0.false, c.if-bytes-eq0.false) refl
    ]
