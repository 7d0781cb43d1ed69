use Rattle.paper_record.specs.Word.{is_word}
use borrow.Author.Tests.{eq-eqb, ne_eqb}
use lib.Dec.{eqb}
use mathlib.Core.Path.{ap}
use Prim.Native.Nat.{ℕ}
use Rattle.record_words.proofs.word.is_word.Goals as goal

pub returns-then-end-ne0 : goal.returns-then-end-ne0
unfolding is_word
returns-then-end-ne0 c =
    rw (← c.word_end-end.ensures.value, ne_eqb _ _ c.if-end-ne0.true)
    (ap (λ (t : ℕ). eqb t 10) c.filled_from.ensures.value)

pub returns-else-end-ne0 : goal.returns-else-end-ne0
unfolding is_word
returns-else-end-ne0 c = rw (← c.word_end-end.ensures.value, eq-eqb _ _ c.if-end-ne0.false)
