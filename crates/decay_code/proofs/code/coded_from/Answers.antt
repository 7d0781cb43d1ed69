use mathlib.Core.Path.{refl}
use borrow.Author.Tests.{lt-ltb, le-ltb}
use Rattle.decay_code.proofs.code.coded_from.Goals as goal

pub returns-then-first-n : goal.returns-then-first-n
returns-then-first-n c =
    rw (lt-ltb _ _ c.if-first-n.true) c.scan_records.ensures

pub returns : goal.returns
returns c = rw (le-ltb _ _ c.if-first-n.false) refl
