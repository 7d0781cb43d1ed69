use Prim.Native.Nat.{◌*◌}
use native.Mathlib.Omega.{arith}
use lib.ListN.{length-set}
use Rattle.index_store.proofs.FiveStored.{five-stored}
use Rattle.index_store.proofs.store.put_row.Goals as goal

pub bounds-index-at-2 : goal.bounds-index-at-2
bounds-index-at-2 c = simp length-set (omega (arith, c.requires))

pub bounds-index-at-3 : goal.bounds-index-at-3
bounds-index-at-3 c = simp length-set (omega (arith, c.requires))

pub bounds-index-at-4 : goal.bounds-index-at-4
bounds-index-at-4 c = simp length-set (omega (arith, c.requires))

pub bounds-index-at-5 : goal.bounds-index-at-5
bounds-index-at-5 c = simp length-set (omega (arith, c.requires))

pub returns : goal.returns
returns c =
    let a = c.args in
    let x = a.row in
    five-stored a.index.now (a.before * 5) x.number x.first.0 x.bib.0 x.common.0 x.data.0
    c.requires
