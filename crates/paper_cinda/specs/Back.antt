-- Lines written back (document 02, M-113): "writing back puts their canonical field and keeps every other byte", and "37
-- buffer shorter than the lines". A refused call stores nothing (document 01).
use Rattle.std.specs.Prelude.{ℕ, cond, List, ◌++◌, map, eqb, leb, length, take, drop}
use Rattle.laws.specs.Blocks.{joined}
use Rattle.paper_canonical.specs.Replacing.{canonical}
use Rattle.paper_cinda.specs.declared.types.LinesAnswer.{LinesAnswer}
use Rattle.paper_cinda.specs.Layout.{energy_at, lines_in}
use Rattle.paper_cinda.specs.Check.{said_of, check_of}

-- columns 42-48 and 49-55 as their canonical fields of seven columns
unfoldable pub line_back : List ℕ → List ℕ
line_back l = take 41 l ++ (canonical (energy_at l 42) ++ (canonical (energy_at l 49) ++ drop 55 l))

unfoldable pub lines_back : List ℕ → List ℕ
lines_back s = joined (map line_back (lines_in s))

-- ---- the call

-- 70 to 77 where the lines are refused, with line and column; then 37
unfoldable pub written : List ℕ → ℕ → LinesAnswer
written s room = cond (eqb (check_of s).number 0) (cond (leb (length s) room) (said_of 0) (said_of 37)) (check_of s)

-- the buffer after the call: the lines, and behind them what stood there
unfoldable pub stored : List ℕ → List ℕ → List ℕ
stored s out = cond (eqb (written s (length out)).number 0) (lines_back s ++ drop (length s) out) out
