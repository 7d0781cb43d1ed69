-- Where a code in its records closes: in one of the records, in columns 12 to 66. Where it is refused: no further than
-- the record behind them.
-- Assumes nothing.
use mathlib.Core.Path.{◌≡◌, refl, sym}
use mathlib.Core.Bool.{Bool, true, false, cond}
use mathlib.Core.List.{List}
use Prim.Native.Nat.{ℕ, zero, suc, ◌+◌, ◌-◌, ◌*◌, ◌<◌, ◌≤◌}
use native.Mathlib.Omega.{arith}
use borrow.Author.Tests.{eqb-true, eqb-false, leb-false}
use lib.Dec.{eqb}
use lib.ListN.{length, get_or, take, drop, length-take}
use native.Mathlib.Nat.{min-le_left, min-le_right}
use Rattle.laws.proofs.Booleans.{differ}
use Rattle.laws.specs.Turns.{go, out, after, run}
use Rattle.paper_decay.specs.declared.types.Scan.{Scan}
use Rattle.paper_decay.specs.declared.types.Stop.{Stop}
use Rattle.paper_decay.specs.declared.types.Coded.{Coded}
use Rattle.paper_decay.specs.declared.types.Turned.{Turned}
use Rattle.paper_decay.specs.Scan.{fresh, step_of, stopped, stop, text_turn, end_at, scan_text}
use Rattle.paper_decay.specs.Records.{text_at, filled_to, said, turned_out, turned_on, behind_text, turned_of, as_turn, record_turn, ended}
use Rattle.paper_decay.specs.Records.{scan_records, Records}

take_short : (k : ℕ) (l : List ℕ) → length (take k l) ≤ k
take_short k l = rw (length-take k l) (min-le_left k (length l))

take-shorter : (k : ℕ) (l : List ℕ) → length (take k l) ≤ length l
take-shorter k l = rw (length-take k l) (min-le_right k (length l))

-- ---- a text that closes a code does so before its end

run_inside : (l : List ℕ) (n : ℕ) (s : Scan) (i : ℕ) → (s.place ≡ 5 → ⊥) → i + n ≡ length l
    → (run (text_turn l) (end_at l) s i n).scan.place ≡ 5 → (run (text_turn l) (end_at l) s i n).at < length l
unfolding run text_turn
run_inside l zero s i h e z = absurd (h z)
run_inside l (suc n) s i h e z =
    by-stopped (step_of s (get_or l i 0)) (λ t g. run_inside l n t (i + 1) g (omega arith)) (stopped (step_of s (get_or l i 0))) refl z
  where
    by-stopped : (t : Scan)
        → ((t : Scan) → (t.place ≡ 5 → ⊥) → (run (text_turn l) (end_at l) t (i + 1) n).scan.place ≡ 5
        → (run (text_turn l) (end_at l) t (i + 1) n).at < length l)
        → (b : Bool) → stopped t ≡ b
        → (after (cond b (out (stop t i)) (go t)) (λ t. run (text_turn l) (end_at l) t (i + 1) n)).scan.place ≡ 5
        → (after (cond b (out (stop t i)) (go t)) (λ t. run (text_turn l) (end_at l) t (i + 1) n)).at < length l
    by-stopped t ih true f y = omega arith
    by-stopped t ih false f y = let g = leb-false 5 t.place f in ih t (λ w. omega arith) y

text-inside : (l : List ℕ) (s : Scan) → (s.place ≡ 5 → ⊥) → (scan_text l s).scan.place ≡ 5 → (scan_text l s).at < length l
unfolding scan_text
text-inside l s h z = run_inside l (length l) s 0 h (omega arith) z

run-to : (l : List ℕ) (n : ℕ) (s : Scan) (i : ℕ) → i + n ≡ length l → (run (text_turn l) (end_at l) s i n).at ≤ length l
unfolding run text_turn
run-to l zero s i e = omega arith
run-to l (suc n) s i e =
    by-stopped (step_of s (get_or l i 0)) (λ t. run-to l n t (i + 1) (omega arith)) (stopped (step_of s (get_or l i 0)))
  where
    by-stopped : (t : Scan) → ((t : Scan) → (run (text_turn l) (end_at l) t (i + 1) n).at ≤ length l) → (b : Bool)
        → (after (cond b (out (stop t i)) (go t)) (λ t. run (text_turn l) (end_at l) t (i + 1) n)).at ≤ length l
    by-stopped t ih true = omega arith
    by-stopped t ih false = ih t

text-to : (l : List ℕ) (s : Scan) → (scan_text l s).at ≤ length l
unfolding scan_text
text-to l s = run-to l (length l) s 0 (omega arith)

filled-to : (l : List ℕ) → filled_to l ≤ length l
unfolding filled_to
filled-to l = omega arith

-- ---- a record

-- 0, 50 or 51
pub data Said (n : ℕ) : Type 0 where
  closed : n ≡ 0 → Said n
  impossible : n ≡ 50 → Said n
  broken : n ≡ 51 → Said n

-- what a record gives, where it closes the code or goes on with it
record Placed (i : ℕ) (t : Turned) : Type 0 where
  onward : t.going ≡ true → t.scan.place ≡ 5 → ⊥
  here : t.going ≡ false → t.coded.at ≡ i
  wide : t.going ≡ false → t.coded.column ≤ 67
  said-so : t.going ≡ false → Said t.coded.number
  column_from : t.going ≡ false → t.coded.number ≡ 0 → 12 ≤ t.coded.column
  column_to : t.going ≡ false → t.coded.number ≡ 0 → t.coded.column ≤ 66

refused-placed : (i n column : ℕ) → (n ≡ 0 → ⊥) → Said n → column ≤ 67 → Placed i (turned_out (said n i column))
refused-placed i n column h k w =
    record {
      onward = λ e. differ (sym e);
      here = λ e. refl;
      wide = λ e. w;
      said-so = λ e. k;
      column_from = λ e z. absurd (h z);
      column_to = λ e z. absurd (h z);
    }

behind-placed : (x : Stop) (i filled last : ℕ) → (x.scan.place ≡ 5 → x.at < 55) → x.at ≤ 55 → filled ≤ 55
    → Placed i (behind_text x i filled last)
unfolding behind_text
behind-placed x i filled last h far full = by_tests (eqb x.scan.place 5) (eqb x.scan.place 6) (eqb last 44) refl
  where
    by_tests : (a b c : Bool) → eqb x.scan.place 5 ≡ a
        → Placed i (cond a (turned_out (said 0 i (x.at + 12))) (cond b (turned_out (said 50 i (x.at + 12)))
        (cond c (turned_on x.scan) (turned_out (said 51 i (filled + 11))))))
    by_tests true b c q =
        let g = h (eqb-true x.scan.place 5 q) in
        record {
          onward = λ e. differ (sym e);
          here = λ e. refl;
          wide = λ e. omega arith;
          said-so = λ e. closed refl;
          column_from = λ e z. omega arith;
          column_to = λ e z. omega arith;
        }
    by_tests false true c q = refused-placed i 50 (x.at + 12) (λ z. omega arith) (impossible refl) (omega arith)
    by_tests false false true q =
        record {
          onward = λ e. eqb-false x.scan.place 5 q;
          here = λ e. differ e;
          wide = λ e. differ e;
          said-so = λ e. differ e;
          column_from = λ e. differ e;
          column_to = λ e. differ e;
        }
    by_tests false false false q = refused-placed i 51 (filled + 11) (λ z. omega arith) (broken refl) (omega arith)

turned-placed : (c : Scan) (l : List ℕ) (i : ℕ) → length l ≤ 55 → (c.place ≡ 5 → ⊥) → Placed i (turned_of c l i)
unfolding turned_of
turned-placed c l i n h = by-filled (eqb (filled_to l) 0)
  where
    x : Stop
    x = scan_text (take (filled_to l) l) c

    inside : x.scan.place ≡ 5 → x.at < 55
    inside z =
        let a = text-inside (take (filled_to l) l) c h z in
        let b = take-shorter (filled_to l) l in
        omega arith

    by-filled : (b : Bool) → Placed i (cond b (turned_out (said 50 i 12)) (behind_text x i (filled_to l) (get_or l (filled_to l - 1) 0)))
    by-filled true = refused-placed i 50 12 (λ z. omega arith) (impossible refl) (omega arith)
    by-filled false = behind-placed x i (filled_to l) (get_or l (filled_to l - 1) 0) inside
        (let a = text-to (take (filled_to l) l) c in let b = take-shorter (filled_to l) l in omega arith)
        (let a = filled-to l in omega arith)

-- ---- the records

-- the code closes in a record from one index up to another, in columns 12 to 66
pub record Closes (from past : ℕ) (x : Coded) : Type 0 where
  pub low : from ≤ x.at
  pub high : x.at < past
  pub column_from : 12 ≤ x.column
  pub column_to : x.column ≤ 66

run-closes : (s : List ℕ) (past n : ℕ) (c : Scan) (i : ℕ) → i + n ≡ past → (c.place ≡ 5 → ⊥)
    → (run (record_turn s) (ended past) c i n).number ≡ 0 → Closes i past (run (record_turn s) (ended past) c i n)
unfolding run record_turn
run-closes s past zero c i e h z = absurd (omega arith)
run-closes s past (suc n) c i e h z =
    by_turn (turned_of c (text_at s i) i) (turned-placed c (text_at s i) i (take_short 55 (drop (i * 81 + 11) s)) h)
    (λ d g. run-closes s past n d (i + 1) (omega arith) g) z
  where
    by-going : (t : Turned) (b : Bool) → t.going ≡ b → Placed i t
        → ((d : Scan) → (d.place ≡ 5 → ⊥) → (run (record_turn s) (ended past) d (i + 1) n).number ≡ 0
        → Closes (i + 1) past (run (record_turn s) (ended past) d (i + 1) n))
        → (after (cond b (go t.scan) (out t.coded)) (λ d. run (record_turn s) (ended past) d (i + 1) n)).number ≡ 0
        → Closes i past (after (cond b (go t.scan) (out t.coded)) (λ d. run (record_turn s) (ended past) d (i + 1) n))
    by-going t true q p ih y =
        let r = ih t.scan (p.onward q) y in
        let l = r.low in
        record { low = omega arith; high = r.high; column_from = r.column_from; column_to = r.column_to }
    by-going t false q p ih y =
        let w = p.here q in
        record { low = omega arith; high = omega arith; column_from = p.column_from q y; column_to = p.column_to q y }

    by_turn : (t : Turned) → Placed i t
        → ((d : Scan) → (d.place ≡ 5 → ⊥) → (run (record_turn s) (ended past) d (i + 1) n).number ≡ 0
        → Closes (i + 1) past (run (record_turn s) (ended past) d (i + 1) n))
        → (after (as_turn t) (λ d. run (record_turn s) (ended past) d (i + 1) n)).number ≡ 0
        → Closes i past (after (as_turn t) (λ d. run (record_turn s) (ended past) d (i + 1) n))
    by_turn t p ih y = by-going t t.going refl p ih y

-- and where it is refused: in a record up to the one behind the last, in a column that a record has
pub record Reaches (past : ℕ) (x : Coded) : Type 0 where
  pub at_most : x.at ≤ past
  pub wide : x.column ≤ 67
  pub said-so : Said x.number

run-reaches : (s : List ℕ) (past n : ℕ) (c : Scan) (i : ℕ) → i + n ≡ past → (c.place ≡ 5 → ⊥)
    → Reaches past (run (record_turn s) (ended past) c i n)
unfolding run record_turn
run-reaches s past zero c i e h = record { at_most = omega arith; wide = omega arith; said-so = impossible refl }
run-reaches s past (suc n) c i e h =
    let t = turned_of c (text_at s i) i in
    by-going t t.going refl (turned-placed c (text_at s i) i (take_short 55 (drop (i * 81 + 11) s)) h)
    (λ d g. run-reaches s past n d (i + 1) (omega arith) g)
  where
    by-going : (t : Turned) (b : Bool) → t.going ≡ b → Placed i t
        → ((d : Scan) → (d.place ≡ 5 → ⊥) → Reaches past (run (record_turn s) (ended past) d (i + 1) n))
        → Reaches past (after (cond b (go t.scan) (out t.coded)) (λ d. run (record_turn s) (ended past) d (i + 1) n))
    by-going t true q p ih = ih t.scan (p.onward q)
    by-going t false q p ih = let w = p.here q in record { at_most = omega arith; wide = p.wide q; said-so = p.said-so q }

pub scan-reaches : (s : List ℕ) (from past : ℕ) → from ≤ past → Reaches past (scan_records s from past)
unfolding scan_records
scan-reaches s from past o =
    run-reaches s past (past - from) (fresh 0 false) from (omega arith) (λ y. omega arith)

pub scan-closes : (s : List ℕ) (from past : ℕ) → Records s from past → (scan_records s from past).number ≡ 0
    → Closes from past (scan_records s from past)
unfolding scan_records
scan-closes s from past r z =
    let o = r.ordered in
    run-closes s past (past - from) (fresh 0 false) from (omega arith) (λ y. omega arith) z
