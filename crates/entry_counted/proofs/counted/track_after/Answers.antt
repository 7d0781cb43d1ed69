use Rattle.paper_entry.proofs.Counting.{counted-follows}
use Rattle.paper_rules.proofs.ReadValues.{numbers-few}
use Rattle.paper_entry.specs.Counted.{track_after}
use Rattle.entry_counted.proofs.counted.track_after.Goals as goal

pub after_system-requires : goal.after_system-requires
after_system-requires c =
    record {
      bounded = rw c.counted-u.ensures (counted-follows _ c.requires.bounded
          c.requires.records_bound).bounded;
      whole = c.requires.whole;
    }

pub returns-then-is_system : goal.returns-then-is_system
unfolding track_after
returns-then-is_system c =
    rw (← c.is_system.ensures, c.if-is_system.true, ← c.counted-u.ensures)
    c.after_system.ensures

pub after_inside-requires : goal.after_inside-requires
after_inside-requires c =
    record {
      bounded = rw c.counted-u.ensures (counted-follows _ c.requires.bounded
          c.requires.records_bound).bounded;
      numbers_bound = rw c.requires.values_value
          (numbers-few _ _ _);
    }

pub returns : goal.returns
unfolding track_after
returns c =
    rw (
      ← c.is_system.ensures,
      c.if-is_system.false,
      ← c.counted-u.ensures,
      ← c.requires.values_value,
    ) c.after_inside.ensures
