-- A line that stands in the lines, as it is lent.
-- Assumes nothing.
use Prim.Native.Nat.{ℕ, ◌+◌, ◌-◌, ◌*◌}
use mathlib.Core.Path.{◌≡◌}
use mathlib.Core.List.{List}
use native.Mathlib.Omega.{arith}
use lib.ListN.{length, take, drop}
use Rattle.paper_cinda.specs.declared.types.CindaNo.{CindaNo}
use Rattle.paper_cinda.specs.Layout.{LINE, line_at}
use Rattle.paper_cinda.proofs.Lines.{There}
use Rattle.cinda_back_walk.proofs.LinesStored.{lent-columns}

pub line-lent : (s : List ℕ) (n : CindaNo) → There s n
    → (take ((n.0 - 1) * LINE + LINE - (n.0 - 1) * LINE) (drop ((n.0 - 1) * LINE) s) ≡ line_at s (n.0 - 1))
    × (length (line_at s (n.0 - 1)) ≡ LINE)
line-lent s n t =
    let a = t.from_one in
    let z = t.to_last in
    lent-columns s ((n.0 - 1) * LINE) LINE (omega arith)
