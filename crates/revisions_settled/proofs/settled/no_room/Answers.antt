use Prim.Native.Nat.{◌+◌}
use mathlib.Core.Path.{sym}
use native.Mathlib.Omega.{arith}
use borrow.Author.Tests.{lt-ltb}
use Rattle.revisions_settled.proofs.MergedBy.{room-left}
use Rattle.revisions_settled.proofs.settled.no_room.Goals as goal

pub returns-then-room-held : goal.returns-then-room-held
returns-then-room-held c =
    let a = c.args in
    sym (lt-ltb a.room (a.held + a.revision) (omega arith))

pub returns : goal.returns
returns c =
    let a = c.args in
    room-left a.held a.revision a.room (omega arith)
