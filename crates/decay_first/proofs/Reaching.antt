-- The records that the code goes on in: where the scan stands behind them.
-- Assumes nothing.
use mathlib.Core.Path.{◌≡◌, refl, sym, ap, ◌∙◌, subst}
use mathlib.Core.Bool.{Bool, true, false}
use mathlib.Core.List.{List, [], ◌∷◌, ◌++◌, append_assoc}
use Prim.Native.Nat.{ℕ, zero, suc, ◌+◌, ◌-◌, ◌*◌, ◌≤◌, ◌<◌}
use native.Mathlib.Omega.{arith}
use borrow.Author.Tests.{ltb-true, ltb-false}
use lib.Dec.{ltb}
use lib.ListN.{length}
use Rattle.laws.specs.Turns.{run}
use Rattle.paper_decay.specs.declared.types.Scan.{Scan}
use Rattle.paper_decay.specs.Records.{record_turn, ended as ended_at, scan_records, Records}
use Rattle.paper_decay.specs.Code.{Viable}
use Rattle.paper_decay.proofs.Steps.{steps, steps-append}
use Rattle.paper_decay.proofs.Stopping.{going-viable, viable-going}
use Rattle.paper_decay.proofs.Found.{run_on}
use Rattle.paper_decay_run.specs.Text.{filled_text, filled_texts, text_to, read_to}
use Rattle.decay_first.specs.Faults.{Breaks, Reached}
use Rattle.decay_first.proofs.Columns.{Stands, cut, body-text, texts-more}
use Rattle.decay_first.proofs.Begins.{start, start-going, part-viable, comma-unclosed}
use Rattle.decay_first.proofs.Turning.{turn_on}

-- ---- where the scan stands before a record

abbrev pub state_at : List ℕ → ℕ → ℕ → Scan
state_at s from at = steps start (filled_texts s from (at - from))

-- what stands in the records before the next one
next-texts : (s : List ℕ) (from i : ℕ) → from ≤ i
    → filled_texts s from (i + 1 - from) ≡ filled_texts s from (i - from) ++ filled_text s i
next-texts s from i h =
    let e : i + 1 - from ≡ suc (i - from) = omega arith in
    let f : from + (i - from) ≡ i = omega arith in
    ap (filled_texts s from) e ∙ texts-more (i - from) s from
    ∙ ap (λ (j : ℕ). filled_texts s from (i - from) ++ filled_text s j) f

pub next-state : (s : List ℕ) (from i : ℕ) → from ≤ i → steps (state_at s from i) (filled_text s i) ≡ state_at s from (i + 1)
next-state s from i h =
    sym (steps-append (filled_texts s from (i - from)) (filled_text s i) start) ∙ ap (steps start) (sym (next-texts s from i h))

pub read-state : (s : List ℕ) (from at column : ℕ) → steps start (read_to s from at column) ≡ steps (state_at s from at) (text_to s at column)
read-state s from at column = steps-append (filled_texts s from (at - from)) (text_to s at column) start

no-texts : (s : List ℕ) (from : ℕ) → filled_texts s from (from - from) ≡ []
no-texts s from = let e : from - from ≡ 0 = omega arith in ap (filled_texts s from) e

-- ---- what is reached, the scan reaches

reached-before : (s : List ℕ) (from i : ℕ) → from ≤ i → Reached s from (i + 1) → Reached s from i
reached-before s from i h r =
    record {
      ordered = h;
      breaks = λ j a b. r.breaks j a (omega arith);
      begins = part-viable (filled_texts s from (i - from)) (filled_text s i) (subst Viable (next-texts s from i h) r.begins);
    }

-- behind a comma no code is closed
break-going : (s : List ℕ) (from i : ℕ) → from ≤ i → Stands s i → Breaks s i → Viable (filled_texts s from (i + 1 - from))
    → (state_at s from (i + 1)).place < 5
break-going s from i h w b v =
    let k = cut s i b.column w b.last in
    let e : k.last ≡ 44 = sym k.char ∙ b.comma in
    let t = filled_texts s from (i - from) in
    let f : filled_texts s from (i + 1 - from) ≡ (t ++ k.before) ++ (44 ∷ []) =
    next-texts s from i h ∙ ap (λ (l : List ℕ). t ++ l) (body-text s i b.column k ∙ ap (λ (x : ℕ). k.before ++ (x ∷ [])) e)
    ∙ sym (append_assoc t k.before (44 ∷ [])) in
    viable-going (filled_texts s from (i + 1 - from)) v (comma-unclosed (filled_texts s from (i + 1 - from)) (t ++ k.before) (sym f))

first-going : (s : List ℕ) (from : ℕ) → (state_at s from from).place < 5
unfolding steps
first-going s from = subst (λ (l : List ℕ). (steps start l).place < 5) (sym (no-texts s from)) start-going

reached-going : (k : ℕ) (s : List ℕ) (from at : ℕ) → from + k ≡ at → at * 81 ≤ length s → Reached s from at
    → (state_at s from at).place < 5
reached-going zero s from at e w r =
    let z : from ≡ at = omega arith in
    subst (λ (j : ℕ). (state_at s from j).place < 5) z (first-going s from)
reached-going (suc k) s from at e w r =
    let i = from + k in
    let z : i + 1 ≡ at = omega arith in
    subst (λ (j : ℕ). (state_at s from j).place < 5) z
    (break-going s from i (omega arith) (omega arith) (r.breaks i (omega arith) (omega arith))
    (subst (λ (j : ℕ). Viable (filled_texts s from (j - from))) (sym z) r.begins))

pub going : (s : List ℕ) (from at : ℕ) → at * 81 ≤ length s → Reached s from at → (state_at s from at).place < 5
going s from at w r = reached-going (at - from) s from at (let o = r.ordered in omega arith) w r

reached-run : (k : ℕ) (s : List ℕ) (from past at n : ℕ) → from + k ≡ at → at * 81 ≤ length s → Reached s from at
    → run (record_turn s) (ended_at past) start from (k + n) ≡ run (record_turn s) (ended_at past) (state_at s from at) at n
unfolding steps
reached-run zero s from past at n e w r =
    let z : from ≡ at = omega arith in
    let m : 0 + n ≡ n = omega arith in
    ap (run (record_turn s) (ended_at past) start from) m
    ∙ ap (λ (l : List ℕ). run (record_turn s) (ended_at past) (steps start l) from n) (sym (no-texts s from))
    ∙ ap (λ (j : ℕ). run (record_turn s) (ended_at past) (state_at s from j) j n) z
reached-run (suc k) s from past at n e w r =
    let i = from + k in
    let z : i + 1 ≡ at = omega arith in
    let m : suc k + n ≡ k + suc n = omega arith in
    let o : from ≤ i = omega arith in
    let q : Reached s from (i + 1) = subst (Reached s from) (sym z) r in
    let p : Reached s from i = reached-before s from i o q in
    let g : (state_at s from i).place < 5 = going s from i (omega arith) p in
    let y : steps (state_at s from i) (filled_text s i) ≡ state_at s from (i + 1) = next-state s from i o in
    let x : (steps (state_at s from i) (filled_text s i)).place < 5 =
    subst (λ (c : Scan). c.place < 5) (sym y) (going s from (i + 1) (omega arith) q) in
    let t = turn_on s i (omega arith) (state_at s from i) g (r.breaks i o (omega arith)) x in
    ap (run (record_turn s) (ended_at past) start from) m
    ∙ reached-run k s from past i (suc n) refl (omega arith) p
    ∙ run_on s past (state_at s from i) (steps (state_at s from i) (filled_text s i)) i n t
    ∙ ap (λ (c : Scan). run (record_turn s) (ended_at past) c (i + 1) n) y
    ∙ ap (λ (j : ℕ). run (record_turn s) (ended_at past) (state_at s from j) j n) z

-- the scan of the records is its run from the record that is reached
pub from-there : (s : List ℕ) (from past at : ℕ) → Records s from past → Reached s from at → at ≤ past
    → scan_records s from past ≡ run (record_turn s) (ended_at past) (state_at s from at) at (past - at)
unfolding scan_records
from-there s from past at h r l =
    let o = r.ordered in
    let w = h.whole in
    let e : past - from ≡ (at - from) + (past - at) = omega arith in
    ap (run (record_turn s) (ended_at past) start from) e
    ∙ reached-run (at - from) s from past at (past - at) (omega arith) (omega arith) r

-- ---- and what the scan reaches is reached

pub no-records : (s : List ℕ) (from : ℕ) → Reached s from from
no-records s from =
    record {
      ordered = omega arith;
      breaks = λ i a b. absurd (omega arith);
      begins = going-viable (filled_texts s from (from - from)) (first-going s from);
    }

pub reached-next : (s : List ℕ) (from i : ℕ) → Reached s from i → Breaks s i → (state_at s from (i + 1)).place < 5 → Reached s from (i + 1)
reached-next s from i r b g =
    let o = r.ordered in
    record {
      ordered = omega arith;
      breaks = λ j a l. by_last (ltb j i) refl a l;
      begins = going-viable (filled_texts s from (i + 1 - from)) g;
    }
  where
    by_last : {j : ℕ} (p : Bool) → ltb j i ≡ p → from ≤ j → j < i + 1 → Breaks s j
    by_last {j} true e a l = r.breaks j a (ltb-true j i e)
    by_last {j} false e a l =
        let m = ltb-false j i e in
        let z : i ≡ j = omega arith in
        subst (Breaks s) z b
