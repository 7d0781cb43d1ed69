use native.Mathlib.Omega.{arith}
use borrow.Author.Tests.{eq-eqb, ne_eqb, lt-ltb, le-ltb}
use mathlib.Core.Path.{◌≡◌, refl}
use Rattle.paper_decay.specs.Scan.{number_next, next_of}
use Rattle.decay_states.proofs.Places.{next-place}
use Rattle.decay_states.proofs.numbers.number_next.Goals as goal

pub returns-then-b-eq32 : goal.returns-then-b-eq32
unfolding number_next
returns-then-b-eq32 c = rw (eq-eqb _ _ c.if-b-eq32.true) refl

pub returns-then-inner-gt10 : goal.returns-then-inner-gt10
unfolding number_next
returns-then-inner-gt10 c = rw (ne_eqb _ _ c.if-b-eq32.false, lt-ltb _ _ c.if-inner-gt10.true) refl

pub returns-then-count-gt10 : goal.returns-then-count-gt10
unfolding number_next
returns-then-count-gt10 c = rw (ne_eqb _ _ c.if-b-eq32.false, le-ltb _ _ c.if-inner-gt10.false, lt-ltb _ _ c.if-count-gt10.true) refl

pub returns-then-count-need-gt10 : goal.returns-then-count-need-gt10
unfolding number_next
returns-then-count-need-gt10 c =
    let args = c.args in
    let e : c.next_place-next.result ≡ next_of args.inner args.b =
    next-place args.inner args.b (omega arith) c.next_place-next.ensures in
    rw (
      ne_eqb _ _ c.if-b-eq32.false,
      le-ltb _ _ c.if-inner-gt10.false,
      le-ltb _ _ c.if-count-gt10.false,
      ← e,
      ← c.need_of-need.ensures.0,
      lt-ltb _ _ c.if-count-need-gt10.true,
    ) refl

pub returns : goal.returns
unfolding number_next
returns c =
    let args = c.args in
    let e : c.next_place-next.result ≡ next_of args.inner args.b =
    next-place args.inner args.b (omega arith) c.next_place-next.ensures in
    rw (
      ne_eqb _ _ c.if-b-eq32.false,
      le-ltb _ _ c.if-inner-gt10.false,
      le-ltb _ _ c.if-count-gt10.false,
      ← e,
      ← c.need_of-need.ensures.0,
      le-ltb _ _ c.if-count-need-gt10.false,
    ) refl
