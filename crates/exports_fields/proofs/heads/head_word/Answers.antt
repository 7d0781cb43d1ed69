use mathlib.Core.Path.{refl}
use borrow.Author.Tests.{lt-ltb, le-ltb}
use Rattle.exports_fields.specs.Heads.{MOST, head_word}
use Rattle.exports_fields.proofs.heads.head_word.Goals as goal

pub returns-then-at-lt1099511627775 : goal.returns-then-at-lt1099511627775
unfolding head_word
returns-then-at-lt1099511627775 c = rw (lt-ltb c.args.h.at MOST c.if-at-lt1099511627775.true) refl

pub returns : goal.returns
unfolding head_word
returns c = rw (le-ltb c.args.h.at MOST c.if-at-lt1099511627775.false) refl
