-- The verdict on an accepted entry has what is counted behind its last record.
-- Assumes nothing.
use Prim.Native.Nat.{ℕ, ◌/◌}
use mathlib.Core.Path.{◌≡◌, sym}
use mathlib.Core.List.{List}
use lib.ListN.{length}
use Rattle.laws.specs.Blocks.{block_at}
use Rattle.paper_record.specs.Fields.{fields_of}
use Rattle.paper_rules.proofs.Least.{fault-none}
use Rattle.paper_entry.specs.Judging.{role_of, judge_of, Accepted}
use Rattle.paper_entry.specs.Verdict.{accepted}
use Rattle.paper_entry.specs.Contexts.{context_at}
use Rattle.paper_entry.proofs.Lengths.{accepted-good}
use Rattle.entry_walk.specs.First.{by_none}
use Rattle.entry_walk.proofs.GoingOn.{go-fine}
use Rattle.entry_walk.proofs.FirstAlone.{first_alone}
use Rattle.entry_walk.proofs.AcceptedWalk.{walked}

pub judge-totals : (s : List ℕ) → Accepted s → judge_of s ≡ accepted (context_at s (length s / 81)).track.totals
judge-totals s a =
    let w = walked s a in
    sym
    (first_alone s _
    (by_none
    (record {
      length-good = accepted-good s a;
      all = λ j l.
          let c = context_at s j in
          let r = block_at 81 s j in
          fault-none c.track c.seen (role_of c r) (fields_of r) r (go-fine c j r _ (w.turns j l)).0;
    })
    w.done))
