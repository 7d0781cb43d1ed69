use Rattle.std.proofs.Common.{◌≡◌, ◌-◌, ◌≤◌, length, take}
use Rattle.std.specs.Io.KnownBytes.{Consumes}
use Rattle.program_text.proofs.read_full.Given as goal

-- What stands in front of `used` is what the reader has given.
abbrev pub invariant-loop-used : goal.invariant-loop-used
invariant-loop-used g l =
    (length l.buffer ≡ length l.initial.buffer) × (l.used ≤ length l.buffer)
    × Consumes (g.R.Read.remaining l.initial.reader) (g.R.Read.remaining l.reader) (take l.used l.buffer)

abbrev pub decreases-loop-used : goal.decreases-loop-used
decreases-loop-used g l = length l.buffer - l.used
