use Prim.Native.Nat.{◌+◌}
use Rattle.paper_record.specs.Word.{eight_at}
use Rattle.std.proofs.Common.{◌≡◌, arith}
use Rattle.record_words.proofs.word.eight_columns.Goals as goal

pub returns : goal.returns
unfolding eight_at
returns c =
    let at = c.args.at in
    let e5 : at + 4 + 1 ≡ at + 5 = omega arith in
    let e6 : at + 4 + 2 ≡ at + 6 = omega arith in
    let e7 : at + 4 + 3 ≡ at + 7 = omega arith in
    rw (e5, e6, e7) (omega arith)
