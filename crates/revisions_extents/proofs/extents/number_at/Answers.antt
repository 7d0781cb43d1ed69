use Prim.Native.Nat.{ℕ, ◌+◌, ◌<◌}
use Rattle.laws.specs.Blocks.{block_at}
use Rattle.paper_record.specs.Columns.{columns_at}
use Rattle.paper_record.specs.System.{number_in, subentry_of}
use Rattle.paper_revisions.specs.Extents.{subentry_at}
use lib.ListN.{get_or, drop}
use lib.Seq.{get_or-drop, get_or-take}
use mathlib.Core.List.{List}
use mathlib.Core.Path.{◌≡◌, ◌∙◌}
use native.Mathlib.Nat.{add-sub_cancel_left}
use native.Mathlib.Omega.{arith}
use Rattle.revisions_extents.proofs.extents.number_at.Goals as goal

-- columns 72 to 74 are the last three of the eleven from 64 on
last-three : (r : List ℕ) → subentry_of (columns_at 63 11 r) ≡ number_in r 71 3
unfolding subentry_of number_in
last-three r = rw (there 8 (omega arith), there 9 (omega arith), there 10 (omega arith))
  where
    there : (j : ℕ) → j < 11 → get_or (columns_at 63 11 r) j 0 ≡ get_or r (63 + j) 0
    there j h = get_or-take 11 (drop 63 r) j 0 h ∙ get_or-drop 63 r j 0

pub returns : goal.returns
unfolding subentry_at
returns c =
    let s = c.args.entry.now in
    let i = c.args.i in
    c.subentry_of.ensures.value
    ∙ rw (c.field-f.ensures, add-sub_cancel_left) (last-three (block_at 81 s i))
