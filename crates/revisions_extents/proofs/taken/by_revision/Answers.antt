use Rattle.paper_revisions.proofs.ExtentLies.{first-inside}
use Rattle.paper_revisions.specs.Extents.{date_at}
use mathlib.Core.Path.{◌≡◌, ◌∙◌, refl, sym}
use native.Mathlib.Omega.{arith}
use Rattle.revisions_extents.proofs.taken.by_revision.Goals as goal

pub returns-then-not-some : goal.returns-then-not-some
returns-then-not-some c = rw (← c.some.ensures, c.if-not-some.true) refl

pub returns-then-not-some-2 : goal.returns-then-not-some-2
returns-then-not-some-2 c =
    rw (
      ← c.some.ensures,
      c.if-not-some.false,
      ← c.some-2.ensures,
      c.if-not-some-2.true,
    )
    refl

pub date_at-old-requires : goal.date_at-old-requires
date_at-old-requires c =
    let s = c in
    let there = sym c.some-2.ensures ∙ c.if-not-some-2.false in
    omega (arith, first-inside s.args.held.now s.args.d s.requires.lies there)

pub date_at-new-requires : goal.date_at-new-requires
date_at-new-requires c =
    let s = c in
    let there = sym c.some.ensures ∙ c.if-not-some.false in
    omega (arith, first-inside s.args.revision.now s.args.e s.requires.lies_2 there)

pub returns : goal.returns
returns c =
    let a = c.args in
    let h = c in
    let r = h in
    let before : c.date_at-old.result ≡ date_at a.held.now a.d.from = c.date_at-old.ensures in
    let behind : c.date_at-new.result ≡ date_at a.revision.now a.e.from = c.date_at-new.ensures in
    rw (
      ← r.some.ensures,
      h.if-not-some.false,
      ← h.some-2.ensures,
      c.if-not-some-2.false,
      before,
      behind,
    )
    refl
