use mathlib.Core.Path.{refl}
use Rattle.paper_record.proofs.ReadColumns.{both_read}
use Rattle.paper_record.specs.Expected.{identification_for, in_digits}
use Rattle.std.proofs.Common.{rules}
use Rattle.record_expected.proofs.expected.identification_for.Goals as goal

pub returns : goal.returns
unfolding identification_for in_digits
returns c = rw c.five_digits-d.ensures (both_read c.args.a (in_digits 3 c.args.n) 5 3 (search rules) refl)
