-- The context after a record without fault, by its role: what is due, what is counted, what may be looked back at.
use Rattle.std.specs.Prelude.{ℕ, List}
use Rattle.paper_rules.specs.State.{Context}
use Rattle.paper_entry.specs.Counted.{track_after}
use Rattle.paper_entry.specs.Due.{phase_after}
use Rattle.paper_entry.specs.Parts.{seen_after}

unfoldable pub context_after : Context → ℕ → List (List ℕ) → List ℕ → Context
context_after c role fs r =
    record {
      phase = phase_after role;
      track = track_after c.track role fs r;
      seen = seen_after c.seen c.track role fs r;
    }
