-- The first met of 50 and 51 over the records.
-- Assumes nothing.
use mathlib.Core.Path.{◌≡◌, refl, sym, ap, ◌∙◌, subst}
use mathlib.Core.List.{List}
use mathlib.Core.Logic.{◌⊎◌, inl, inr}
use Prim.Native.Nat.{ℕ, zero, suc, ◌+◌, ◌-◌, ◌*◌, ◌≤◌, ◌<◌}
use native.Mathlib.Omega.{arith}
use lib.ListN.{length}
use Rattle.laws.specs.Turns.{out, run}
use Rattle.paper_decay.specs.declared.types.Scan.{Scan}
use Rattle.paper_decay.specs.declared.types.Coded.{Coded}
use Rattle.paper_decay.specs.Scan.{nowhere}
use Rattle.paper_decay.specs.Records.{said, record_turn, ended as ended_at, scan_records, Records}
use Rattle.paper_decay.proofs.Steps.{steps}
use Rattle.paper_decay.proofs.Stopping.{viable-not, going-viable, going-unclosed, viable-going, none-nowhere}
use Rattle.paper_decay.specs.Laid.{CodeLaid}
use Rattle.paper_decay.proofs.Found.{run_out, run_on, found-exactly}
use Rattle.paper_decay_run.specs.Text.{filled_text, text_to, read_to}
use Rattle.decay_first.specs.Faults.{char_at, LastFilled, Reached, NoneThere, Fault50, character, blank, ended}
use Rattle.decay_first.specs.Faults.{Fault51}
use Rattle.decay_first.specs.Claims.{MetFirst, Fault, fifty, fifty_one, Faulty, MetAlone}
use Rattle.decay_first.proofs.Columns.{Stands}
use Rattle.decay_first.proofs.Begins.{start}
use Rattle.decay_first.proofs.Turning.{turn-blank, turn-50, turn-51, turn_on, Met, closes, empty, stops, other, onward, met}
use Rattle.decay_first.proofs.Reaching.{state_at, next-state, read-state, going, from-there, no-records, reached-next}

-- ---- from the paper's words to the scan

out-there : (s : List ℕ) (from past at : ℕ) (x : Coded) → Records s from past → Reached s from at → at < past
    → (Stands s at → (state_at s from at).place < 5 → record_turn s (state_at s from at) at ≡ out x) → scan_records s from past ≡ x
out-there s from past at x h r l f =
    let w = h.whole in
    let e : past - at ≡ suc (past - at - 1) = omega arith in
    from-there s from past at h r (omega arith)
    ∙ ap (run (record_turn s) (ended_at past) (state_at s from at) at) e
    ∙ run_out s past (state_at s from at) at (past - at - 1) x (f (omega arith) (going s from at (omega arith) r))

end-there : (s : List ℕ) (from past : ℕ) → Records s from past → Reached s from past → scan_records s from past ≡ said 50 past 0
unfolding run
end-there s from past h r =
    let z : past - past ≡ 0 = omega arith in
    from-there s from past past h r (omega arith) ∙ ap (run (record_turn s) (ended_at past) (state_at s from past) past) z

there-50 : (s : List ℕ) (from past at column : ℕ) → Records s from past → Fault50 s from past at column
    → scan_records s from past ≡ said 50 at column
there-50 s from past at column h (character r l n) =
    out-there s from past at (said 50 at column) h r l
    (λ w g. turn-50 s at w (state_at s from at) g column n.last n.low n.ends n.high
    (subst (λ (c : Scan). c.place < 5) (read-state s from at (column - 1))
    (viable-going (read_to s from at (column - 1)) n.begins n.unclosed))
    (sym (read-state s from at column) ∙ none-nowhere (read_to s from at column) n.none))
there-50 s from past at column h (blank r l b e) =
    out-there s from past at (said 50 at column) h r l
    (λ w g. turn-blank s at w (state_at s from at) g b ∙ ap (λ (d : ℕ). out (said 50 at d)) (sym e))
there-50 s from past at column h (ended r e f) =
    end-there s from past h (subst (Reached s from) e r) ∙ (λ i. said 50 (sym e i) (sym f i))

there-51 : (s : List ℕ) (from past at column : ℕ) → Records s from past → Fault51 s from past at column
    → scan_records s from past ≡ said 51 at column
there-51 s from past at column h f =
    out-there s from past at (said 51 at column) h f.reached f.inside
    (λ w g. turn-51 s at w (state_at s from at) g column f.last f.other
    (subst (λ (c : Scan). c.place < 5) (read-state s from at column)
    (viable-going (read_to s from at column) f.begins f.unclosed)))

-- ---- from the scan to the paper's words

data Result (s : List ℕ) (from past : ℕ) (x : Coded) : Type 0 where
  found : x.number ≡ 0 → Result s from past x
  is-50 : (at column : ℕ) → x ≡ said 50 at column → Fault50 s from past at column → Result s from past x
  is-51 : (at column : ℕ) → x ≡ said 51 at column → Fault51 s from past at column → Result s from past x

none-there : (s : List ℕ) (from at column last : ℕ) → 12 ≤ column → LastFilled s at last → column ≤ last
    → (steps (state_at s from at) (text_to s at (column - 1))).place < 5 → steps (state_at s from at) (text_to s at column) ≡ nowhere
    → NoneThere s from at column
none-there s from at column last a f m p q =
    let g : (steps start (read_to s from at (column - 1))).place < 5 =
    subst (λ (c : Scan). c.place < 5) (sym (read-state s from at (column - 1))) p in
    record {
      low = a;
      last = last;
      ends = f;
      high = m;
      begins = going-viable (read_to s from at (column - 1)) g;
      unclosed = going-unclosed (read_to s from at (column - 1)) g;
      none = λ v. viable-not (read_to s from at column) v (read-state s from at column ∙ q);
    }

break-there : (s : List ℕ) (from past at column : ℕ) → Reached s from at → at < past → LastFilled s at column
    → (char_at s at column ≡ 44 → ⊥) → (steps (state_at s from at) (text_to s at column)).place < 5 → Fault51 s from past at column
break-there s from past at column r l f n p =
    let g : (steps start (read_to s from at column)).place < 5 =
    subst (λ (c : Scan). c.place < 5) (sym (read-state s from at column)) p in
    record {
      reached = r;
      inside = l;
      last = f;
      other = n;
      begins = going-viable (read_to s from at column) g;
      unclosed = going-unclosed (read_to s from at column) g;
    }

-- in each record one of the three is met, or the code goes on
results : (n : ℕ) (s : List ℕ) (from past i : ℕ) → past * 81 ≤ length s → i + n ≡ past → Reached s from i
    → Result s from past (run (record_turn s) (ended_at past) (state_at s from i) i n)
unfolding run
results zero s from past i w e r =
    let z : i ≡ past = omega arith in
    is-50 past 0 refl (ended (subst (Reached s from) z r) refl refl)
results (suc n) s from past i w e r =
    by-met (λ q. results n s from past (i + 1) w (omega arith) q) (met s i stands c g)
  where
    c : Scan
    c = state_at s from i

    l : i < past
    l = omega arith

    stands : Stands s i
    stands = omega arith

    g : c.place < 5
    g = going s from i (omega arith) r

    out-is : (x : Coded) → record_turn s c i ≡ out x → run (record_turn s) (ended_at past) c i (suc n) ≡ x
    out-is x t = run_out s past c i n x t

    by-met : (Reached s from (i + 1) → Result s from past (run (record_turn s) (ended_at past) (state_at s from (i + 1)) (i + 1) n))
        → Met s i c → Result s from past (run (record_turn s) (ended_at past) c i (suc n))
    by-met ih (closes column t) = found (ap (λ (x : Coded). x.number) (out-is (said 0 i column) t))
    by-met ih (empty b) =
        is-50 i 12 (out-is (said 50 i 12) (turn-blank s i stands c g b)) (blank r l b refl)
    by-met ih (stops column last a f m p q) =
        is-50 i column (out-is (said 50 i column) (turn-50 s i stands c g column last a f m p q))
        (character r l (none-there s from i column last a f m p q))
    by-met ih (other column f k p) =
        is-51 i column (out-is (said 51 i column) (turn-51 s i stands c g column f k p))
        (break-there s from past i column r l f k p)
    by-met ih (onward b p) =
        let y : steps c (filled_text s i) ≡ state_at s from (i + 1) = next-state s from i r.ordered in
        let t = turn_on s i stands c g b p in
        subst (Result s from past)
        (sym (run_on s past c (steps c (filled_text s i)) i n t ∙ ap (λ (d : Scan). run (record_turn s) (ended_at past) d (i + 1) n) y))
        (ih (reached-next s from i r b (subst (λ (d : Scan). d.place < 5) y p)))

result : (s : List ℕ) (from past : ℕ) → Records s from past → Result s from past (scan_records s from past)
result s from past h =
    let o = h.ordered in
    subst (Result s from past) (sym (from-there s from past from h (no-records s from) o))
    (results (past - from) s from past from h.whole (omega arith) (no-records s from))

-- ---- the laws

said-50 : (s : List ℕ) (from past : ℕ) → Records s from past → (at column : ℕ) → scan_records s from past ≡ said 50 at column
    → Fault50 s from past at column
said-50 s from past h at column e = by_result (result s from past h)
  where
    by_result : Result s from past (scan_records s from past) → Fault50 s from past at column
    by_result (found f) =
        let z : ◌≡◌ {A = ℕ} 50 0 = ap (λ (x : Coded). x.number) (sym e) ∙ f in
        absurd (omega arith)
    by_result (is-50 a c f k) =
        let y : said 50 a c ≡ said 50 at column = sym f ∙ e in
        subst (λ (x : Coded). Fault50 s from past x.at x.column) y k
    by_result (is-51 a c f k) =
        let z : ◌≡◌ {A = ℕ} 50 51 = ap (λ (x : Coded). x.number) (sym e ∙ f) in
        absurd (omega arith)

said-51 : (s : List ℕ) (from past : ℕ) → Records s from past → (at column : ℕ) → scan_records s from past ≡ said 51 at column
    → Fault51 s from past at column
said-51 s from past h at column e = by_result (result s from past h)
  where
    by_result : Result s from past (scan_records s from past) → Fault51 s from past at column
    by_result (found f) =
        let z : ◌≡◌ {A = ℕ} 51 0 = ap (λ (x : Coded). x.number) (sym e) ∙ f in
        absurd (omega arith)
    by_result (is-50 a c f k) =
        let z : ◌≡◌ {A = ℕ} 51 50 = ap (λ (x : Coded). x.number) (sym e ∙ f) in
        absurd (omega arith)
    by_result (is-51 a c f k) =
        let y : said 51 a c ≡ said 51 at column = sym f ∙ e in
        subst (λ (x : Coded). Fault51 s from past x.at x.column) y k

pub met-first : MetFirst
met-first s from past h at column = (
  (said-50 s from past h at column, there-50 s from past at column h),
  (said-51 s from past h at column, there-51 s from past at column h),
)

pub fault-said : (s : List ℕ) (from past number at column : ℕ) → Records s from past → Fault s from past number at column
    → scan_records s from past ≡ said number at column
fault-said s from past number at column h (fifty e f) =
    there-50 s from past at column h f ∙ ap (λ (n : ℕ). said n at column) (sym e)
fault-said s from past number at column h (fifty_one e f) =
    there-51 s from past at column h f ∙ ap (λ (n : ℕ). said n at column) (sym e)

fault-number : (s : List ℕ) (from past number at column : ℕ) → Fault s from past number at column → number ≡ 0 → ⊥
fault-number s from past number at column (fifty e f) z = omega arith
fault-number s from past number at column (fifty_one e f) z = omega arith

pub met-alone : MetAlone
met-alone s from past h =
    record {
      some = by_result (result s from past h);
      apart = λ c f.
          let e = fault-said s from past f.number f.at f.column h f.fault in
          let z = (found-exactly s from past h).1 c in
          fault-number s from past f.number f.at f.column f.fault (sym (ap (λ (x : Coded). x.number) e) ∙ z);
      once = λ a b.
          let e : said a.number a.at a.column ≡ said b.number b.at b.column =
          sym (fault-said s from past a.number a.at a.column h a.fault)
          ∙ fault-said s from past b.number b.at b.column h b.fault in (
            ap (λ (x : Coded). x.number) e,
            (ap (λ (x : Coded). x.at) e, ap (λ (x : Coded). x.column) e),
          );
    }
  where
    by_result : Result s from past (scan_records s from past) → CodeLaid s from past ⊎ Faulty s from past
    by_result (found e) = inl ((found-exactly s from past h).0 e)
    by_result (is-50 a c e f) = inr (record { number = 50; at = a; column = c; fault = fifty refl f })
    by_result (is-51 a c e f) = inr (record { number = 51; at = a; column = c; fault = fifty_one refl f })
