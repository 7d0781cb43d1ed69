use Prim.Native.Nat.{◌-◌, ◌≤◌}
use Rattle.laws.proofs.Search.{Scan}
use Rattle.paper_record.specs.Word.{filled_at, filled_from}
use Rattle.record_words.proofs.word.filled_from.Given as goal

abbrev pub invariant-loop-i : goal.invariant-loop-i
invariant-loop-i l = (l.w ≤ 11) × Scan (filled_at l.f) (filled_from l.w l.f l.from) l.i l.w
