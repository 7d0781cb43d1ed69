-- Of a refusal that has no reason nothing is said.
-- Assumes nothing.
use Prim.Native.Nat.{ℕ}
use mathlib.Core.Path.{◌≡◌, refl}
use mathlib.Core.Bool.{Bool, true, false, cond}
use lib.Dec.{eqb}
use Rattle.laws.proofs.Booleans.{differ}
use Rattle.paper_rules.specs.declared.types.Track.{Track}
use Rattle.paper_rules.specs.declared.types.Ranges.{Ranges}
use Rattle.paper_rules.specs.State.{Seen}
use Rattle.paper_rules.specs.Record.{Fields, Record}
use Rattle.paper_reasons.specs.declared.types.Reason.{Reason}
use Rattle.paper_reasons.specs.Reason.{nothing, has_reason, reason_for}

by_cases : (a b c d e f : Bool) (u v w x y z n : Reason)
    → cond a true (cond b true (cond c true (cond d true (cond e true f)))) ≡ false
    → cond a u (cond b v (cond c w (cond d x (cond e y (cond f z n))))) ≡ n
by_cases true b c d e f u v w x y z n h = differ h
by_cases false true c d e f u v w x y z n h = differ h
by_cases false false true d e f u v w x y z n h = differ h
by_cases false false false true e f u v w x y z n h = differ h
by_cases false false false false true f u v w x y z n h = differ h
by_cases false false false false false true u v w x y z n h = differ h
by_cases false false false false false false u v w x y z n h = refl

pub reason-none : (t : Track) (s : Seen) (g : Ranges) (role : ℕ) (fs : Fields) (r : Record) (n k : ℕ)
    → has_reason n ≡ false → reason_for t s g role fs r n k ≡ nothing
unfolding has_reason reason_for
reason-none t s g role fs r n k h =
    by_cases (eqb n 5) (eqb n 6) (eqb n 8) (eqb n 9) (eqb n 13) (eqb n 14) _ _ _ _ _ _ _ h
