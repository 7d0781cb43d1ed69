use Rattle.record.proofs.Found.{permitted-first}
use Prim.Native.Nat.{◌+◌}
use Rattle.paper_record.specs.Class.{not_permitted}
use Rattle.paper_faults.proofs.Leftmost.{leftmost-where}
use Rattle.paper_rules.specs.Every.{rule3}
use borrow.Author.Tests.{le-ltb, lt-ltb}
use Rattle.rules_every.proofs.every.rule3.Goals as goal

pub returns-then-n-lt80 : goal.returns-then-n-lt80
unfolding rule3
returns-then-n-lt80 c =
    rw (
      leftmost-where (not_permitted _) (λ i. i + 1) 80,
      ← permitted-first _,
      ← c.permitted_to-n.ensures,
      lt-ltb _ _ c.if-n-lt80.true,
    )

pub returns : goal.returns
unfolding rule3
returns c =
    rw (
      leftmost-where (not_permitted _) (λ i. i + 1) 80,
      ← permitted-first _,
      ← c.permitted_to-n.ensures,
      le-ltb _ _ c.if-n-lt80.false,
    )
