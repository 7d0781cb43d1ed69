use Rattle.std.proofs.lemmas.Bool.{false≢true}
use Rattle.paper_record.proofs.NameTable.{end-letters, name-begins, name-read, no_end}
use Rattle.paper_record.specs.Identifier.{NamesLent}
use borrow.Author.Tests.{eq-eqb, ne_eqb}
use mathlib.Core.Path.{◌∙◌, refl, sym}
use native.Mathlib.Omega.{arith}
use Rattle.record_names.proofs.identifier.Names.is_end.Goals.{then-self-at-eq69, else-self-at-eq69}
use Rattle.record_names.proofs.identifier.Names.is_end.Goals as goal

pub returns-then-k-ge-OTHER : goal.returns-then-k-ge-OTHER
returns-then-k-ge-OTHER c = sym (no_end _ c.if-k-ge-OTHER.true)

pub returns-then-self-at-eq78 : goal.returns-then-self-at-eq78
returns-then-self-at-eq78 c =
    let k = c.args.k in
    let same : NamesLent c.args.self.now.columns.now = record { same = c.args.self.now.same } in
    let first = name-begins same k (omega arith) in
    let second = name-read same k 1 (omega arith) (omega arith) in
    let third = name-read same k 2 (omega arith) (omega arith) in
    elim c.if-self-at-eq69.branch [
      | then-self-at-eq69 w ↦
          rw (
            end-letters k,
            ← first,
            ← second,
            ← third,
            eq-eqb _ _ w.if-self-at-eq69.true,
            sym w.value-is ∙ c.if-self-at-eq78.true,
          ) refl
      | else-self-at-eq69 w ↦ absurd (false≢true (sym (ne_eqb _ _ w.if-self-at-eq69.false) ∙ sym w.value-is ∙ c.if-self-at-eq78.true))
    ]

pub returns-else-self-at-eq78 : goal.returns-else-self-at-eq78
returns-else-self-at-eq78 c =
    let k = c.args.k in
    let same : NamesLent c.args.self.now.columns.now = record { same = c.args.self.now.same } in
    let first = name-begins same k (omega arith) in
    let second = name-read same k 1 (omega arith) (omega arith) in
    elim c.if-self-at-eq69.branch [
      | then-self-at-eq69 w ↦
          rw (
            c.if-self-at-eq78.false,
            end-letters k,
            ← first,
            ← second,
            eq-eqb _ _ w.if-self-at-eq69.true,
            sym w.value-is ∙ c.if-self-at-eq78.false,
          ) refl
      | else-self-at-eq69 w ↦
          rw (c.if-self-at-eq78.false, end-letters k, ← first, ne_eqb _ _ w.if-self-at-eq69.false) refl
    ]
