use borrow.Author.Tests.{lt-ltb, le-ltb}
use mathlib.Core.Path.{refl}
use Rattle.paper_decay.specs.Scan.{head_step}
use Rattle.decay_nuclide.proofs.nuclide.in_head.Goals as goal

pub returns-then-inner-lt5 : goal.returns-then-inner-lt5
unfolding head_step
returns-then-inner-lt5 c = rw (c.in_flag.ensures, lt-ltb _ _ c.if-inner-lt5.true) refl

pub returns : goal.returns
unfolding head_step
returns c = rw (c.in_nuclide.ensures, le-ltb _ _ c.if-inner-lt5.false) refl
