-- The bytes that judging has kept are those of one list of records only. Assumes nothing.
use Prim.Native.Nat.{ℕ, ◌*◌}
use mathlib.Core.Path.{◌≡◌, sym, ◌∙◌, ap}
use mathlib.Core.List.{List}
use native.Mathlib.Omega.{arith}
use lib.ListN.{length}
use Rattle.laws.specs.Blocks.{blocks, joined}
use Rattle.laws.specs.Walk.{All}
use Rattle.laws.proofs.Blocks.{blocks-joined, length-joined}
use Rattle.paper_rules.specs.Record.{Record}
use Rattle.rules_plain.specs.Places.{Long}
use Rattle.rules_plain.specs.Repeated.{RecordsBefore, OneBefore}

pub one_list : (rs qs : List Record) → All Long rs → All Long qs → joined rs ≡ joined qs → rs ≡ qs
one_list rs qs a b e =
    let x : length (joined rs) ≡ length rs * 81 = length-joined 81 rs a in
    let y : length (joined qs) ≡ length qs * 81 = length-joined 81 qs b in
    let z : length (joined rs) ≡ length (joined qs) = ap length e in
    let n : length rs ≡ length qs = omega arith in
    sym (blocks-joined 81 rs a) ∙ ap (λ (m : ℕ). blocks 81 m (joined rs)) n ∙ ap (blocks 81 (length qs)) e
    ∙ blocks-joined 81 qs b

made : List Record → List Record → List Record → List Record → List Record → RecordsBefore
made bib001 bib common001 common table =
    record { bib001 = bib001; bib = bib; common001 = common001; common = common; table = table }

pub one-before : OneBefore
unfolding made
one-before s b c p q =
    let e1 = one_list b.bib001 c.bib001 p.long_bib001 q.long_bib001 (sym p.bib001 ∙ q.bib001) in
    let e2 = one_list b.bib c.bib p.long_bib q.long_bib (sym p.bib ∙ q.bib) in
    let e3 =
    one_list b.common001 c.common001 p.long.common001 q.long.common001
    (sym p.common001 ∙ q.common001) in
    let e4 = one_list b.common c.common p.long.common q.long.common (sym p.common ∙ q.common) in
    let e5 = one_list b.table c.table p.long.table q.long.table (sym p.table ∙ q.table) in
    let same : made b.bib001 b.bib b.common001 b.common b.table
    ≡ made c.bib001 c.bib c.common001 c.common c.table = rw (e1, e2, e3, e4, e5) in
    same
