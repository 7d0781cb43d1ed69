-- What is found on TRANS or ENDTRANS stands by rising numbers, as on a record of an entry: so the first fault is the
-- least.
-- Assumes nothing.
use Prim.Native.Nat.{ℕ, ◌<◌}
use mathlib.Core.Bool.{not}
use mathlib.Core.List.{List}
use native.Mathlib.Omega.{arith}
use lib.Dec.{eqb}
use Rattle.paper_record.specs.Fields.{n1, n2}
use Rattle.paper_record.specs.Identifier.{TRANS, ENDTRANS}
use Rattle.paper_record.specs.System.{count_of, is_count, is_date}
use Rattle.laws.proofs.EitherWay.{either_way}
use Rattle.paper_rules.specs.Counts.{count_n1}
use Rattle.paper_rules.specs.Rising.{LAST-RULE, LAST-COLUMN}
use Rattle.paper_faults.specs.Rising.{Rising, Sorted, no_more, also}
use Rattle.paper_faults.proofs.Rising.{when-rising, on-rising, before-rising}
use Rattle.paper_rules.proofs.Rising.{rising2, rising3, rising4}
use Rattle.paper_files.specs.Outside.{is_trans_n1, trans_form, rule7_outside, rule8_outside, outside_findings}

module _ (entries role : ℕ) (fs : List (List ℕ)) (r : List ℕ) where
  rising7 : Rising LAST-COLUMN 1 (rule7_outside role fs)
  unfolding rule7_outside trans_form
  rising7 =
      either_way (Rising LAST-COLUMN 1) (eqb role TRANS) _ _
      (before-rising (not (is_trans_n1 (n1 fs))) 1 12 _ (omega arith) (omega arith)
      (when-rising (not (is_date (n2 fs))) 12 23 (omega arith) (omega arith)))
      (on-rising (eqb role ENDTRANS) _
      (when-rising (not (is_count (count_of (n1 fs)))) 1 12 (omega arith) (omega arith)))

  rising8 : Rising LAST-COLUMN 1 (rule8_outside entries role fs)
  unfolding rule8_outside
  rising8 =
      on-rising (eqb role ENDTRANS) _
      (when-rising (not (eqb (count_n1 fs) entries)) 1 12 (omega arith) (omega arith))

  low : (a b : ℕ) → a < b → a < b
  low a b h = h

  pub outside-rises : Sorted LAST-RULE LAST-COLUMN 1 (outside_findings entries role fs r)
  outside-rises =
      also (low 1 2 (omega arith)) (rising2 r)
      (also (low 2 3 (omega arith)) (rising3 r)
      (also (low 3 4 (omega arith)) (rising4 role)
      (also (low 4 7 (omega arith)) rising7 (also (low 7 8 (omega arith)) rising8 (no_more {a = 8} (omega arith))))))
