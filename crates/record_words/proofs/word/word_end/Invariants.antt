use Prim.Native.Nat.{◌-◌}
use Rattle.laws.proofs.Search.{Scan}
use Rattle.paper_record.specs.Word.{blank_at, word_end}
use Rattle.record_words.proofs.word.word_end.Given as goal

abbrev pub invariant-loop-i : goal.invariant-loop-i
invariant-loop-i l = Scan (blank_at l.fn.f) (word_end 10 l.fn.f) l.i 10
