-- "a walker that keeps the entry and its place in it, giving the next value with line and column" (document 02, M-112)
use Rattle.paper_walk.specs.declared.types.Walk.{Walk}
use Rattle.paper_walk.specs.declared.types.Step.{Step}
use Rattle.paper_walk.specs.Walk.{step_of}
use Rattle.walker.specs.declared.walker.Walker.{Walker}

-- the walker with the same entry, at another place
abbrev pub moved_to : Walker → Walk → Walker
moved_to w k = record { entry = w.entry; walk = k }

-- what it gives next, and where it stands then
abbrev pub next_of : Walker → Step
next_of w = step_of w.entry.now w.walk
