-- The characters that are taken from the records of a code are the code's, and each record before the last ends in a comma.
-- Assumes nothing.
use mathlib.Core.Path.{◌≡◌, sym, ap, ◌∙◌, subst}
use mathlib.Core.Bool.{false}
use mathlib.Core.List.{List, [], ◌∷◌, ◌++◌, append_assoc}
use Prim.Native.Nat.{ℕ, zero, suc, ◌+◌, ◌-◌, ◌<◌}
use native.Mathlib.Nat.{add-zero}
use native.Mathlib.Omega.{arith}
use lib.ListN.{take}
use lib.Seq.{take-append-add}
use Rattle.laws.specs.Turns.{run}
use Rattle.laws.specs.Members.{list_of}
use Rattle.paper_number.specs.Grammar.{blanks}
use Rattle.paper_decay.specs.declared.types.Scan.{Scan}
use Rattle.paper_decay.specs.declared.types.Coded.{Coded}
use Rattle.paper_decay.specs.Scan.{fresh}
use Rattle.paper_decay.specs.Code.{write}
use Rattle.paper_decay.specs.Records.{text_at, filled_to, said, record_turn, ended, scan_records}
use Rattle.paper_decay.specs.Laid.{texts_of, Laid, ends, breaks}
use Rattle.paper_decay.proofs.Steps.{steps, steps-append}
use Rattle.paper_decay.proofs.Spelling.{code-sound}
use Rattle.paper_decay.proofs.Ends.{filled-last}
use Rattle.paper_decay.proofs.Found.{Outcome, closed, refused, onward, outcome, out-turn, on-turn, run_out, run_on, laid-once}
use Rattle.paper_decay_run.specs.Text.{filled_text, filled_texts, text_to, code_text}
use Rattle.paper_decay_run.specs.Run.{run_piece, run_text, run_records}
use Rattle.paper_decay_run.specs.Claims.{TextRight, RecordsRun}
use Rattle.paper_decay_run.proofs.Pieces.{Commas, records-piece}

-- the records before the one that closes the code, and the characters of all
abbrev reached_text : List ℕ → ℕ → ℕ → ℕ → List ℕ
reached_text s i k column = filled_texts s i k ++ text_to s (i + k) column

record Reached (s : List ℕ) (c : Scan) (i n : ℕ) (r : Coded) : Type 0 where
  before : ℕ
  index : r.at ≡ i + before
  commas : Commas s i before
  laid : Laid (list_of (text_at s) i n) (reached_text s i before r.column)
  closes : (steps c (reached_text s i before r.column)).place ≡ 5

-- ---- the record that closes the code

reached-here : (s : List ℕ) (c : Scan) (i n : ℕ) (m rest : List ℕ) (column : ℕ) → m ++ rest ≡ text_at s i
    → (steps c m).place ≡ 5 → text_to s i column ≡ m → Reached s c i (suc n) (said 0 i column)
unfolding list_of
reached-here s c i n m rest column q z f =
    let e : m ≡ text_to s (i + 0) column = sym f ∙ ap (λ (j : ℕ). text_to s j column) (sym (add-zero i)) in
    let rs = list_of (text_at s) (i + 1) n in
    record {
      before = 0;
      index = sym (add-zero i);
      commas = tt;
      laid = subst (Laid (text_at s i ∷ rs)) e (subst (λ (x : List ℕ). Laid (x ∷ rs) m) q (ends m rest rs));
      closes = ap (λ (x : List ℕ). (steps c x).place) (sym e) ∙ z;
    }

-- ---- a record that breaks it

filled-comma : (s t : List ℕ) (i k : ℕ) → t ++ (44 ∷ blanks k) ≡ text_at s i → t ++ (44 ∷ []) ≡ filled_text s i
filled-comma s t i k q =
    let l = t ++ (44 ∷ blanks k) in
    let e : take (filled_to l) l ≡ t ++ (44 ∷ []) =
    ap (λ (n : ℕ). take n l) (filled-last t 44 k (λ z. omega arith)) ∙ take-append-add t (44 ∷ blanks k) 1 in
    sym e ∙ ap (λ (x : List ℕ). take (filled_to x) x) q

laid_on : (c : Scan) (l t m : List ℕ) (k : ℕ) (qs : List (List ℕ)) → t ++ (44 ∷ blanks k) ≡ l
    → (steps c (t ++ (44 ∷ []))).place < 5 → Laid qs m → (steps (steps c (t ++ (44 ∷ []))) m).place ≡ 5
    → Laid (l ∷ qs) (t ++ (44 ∷ []) ++ m)
unfolding steps
laid_on c l t [] k qs e h y z = absurd (omega arith)
laid_on c l t (b ∷ u) k qs e h y z =
    subst (Laid (l ∷ qs)) (sym (append_assoc t (44 ∷ []) (b ∷ u)))
    (subst (λ (x : List ℕ). Laid (x ∷ qs) (t ++ (44 ∷ b ∷ u))) e (breaks t k b u qs y))

reached-on : (s : List ℕ) (c : Scan) (i n : ℕ) (t : List ℕ) (k : ℕ) (r : Coded) → t ++ (44 ∷ blanks k) ≡ text_at s i
    → (steps c (t ++ (44 ∷ []))).place < 5 → Reached s (steps c (t ++ (44 ∷ []))) (i + 1) n r → Reached s c i (suc n) r
unfolding list_of
reached-on s c i n t k r q h p =
    let j = p.before in
    let x = p.index in
    let m = reached_text s (i + 1) j r.column in
    let z : i + 1 + j ≡ i + suc j = omega arith in
    let f = filled-comma s t i k q in
    let e : t ++ (44 ∷ []) ++ m ≡ reached_text s i (suc j) r.column =
    ap (λ (l : List ℕ). l ++ m) f
    ∙ sym (append_assoc (filled_text s i) (filled_texts s (i + 1) j) (text_to s (i + 1 + j) r.column))
    ∙ ap (λ (o : ℕ). filled_text s i ++ filled_texts s (i + 1) j ++ text_to s o r.column) z in
    record {
      before = suc j;
      index = omega arith;
      commas = (record { before = t; same = f }, p.commas);
      laid = subst (Laid (text_at s i ∷ list_of (text_at s) (i + 1) n)) e
          (laid_on c (text_at s i) t m k (list_of (text_at s) (i + 1) n) q h p.laid p.closes);
      closes = ap (λ (l : List ℕ). (steps c l).place) (sym e)
          ∙ ap (λ (d : Scan). d.place) (steps-append (t ++ (44 ∷ [])) m c) ∙ p.closes;
    }

-- ---- over the records

reached : (n : ℕ) (s : List ℕ) (past : ℕ) (c : Scan) (i : ℕ) → c.place < 5
    → (run (record_turn s) (ended past) c i n).number ≡ 0 → Reached s c i n (run (record_turn s) (ended past) c i n)
unfolding run
reached zero s past c i h e = absurd (omega arith)
reached (suc n) s past c i h e = by-outcome (λ d g f. reached n s past d (i + 1) g f) (outcome c (text_at s i) i h)
  where
    by-outcome : ((d : Scan) → d.place < 5 → (run (record_turn s) (ended past) d (i + 1) n).number ≡ 0
        → Reached s d (i + 1) n (run (record_turn s) (ended past) d (i + 1) n))
        → Outcome c (text_at s i) i → Reached s c i (suc n) (run (record_turn s) (ended past) c i (suc n))
    by-outcome ih (closed m rest column q z f t) =
        let r = run_out s past c i n (said 0 i column) (out-turn s c i (said 0 i column) t) in
        subst (Reached s c i (suc n)) (sym r) (reached-here s c i n m rest column q z f)
    by-outcome ih (refused k column z t) =
        let r = run_out s past c i n (said k i column) (out-turn s c i (said k i column) t) in
        absurd (z (sym (ap (λ (x : Coded). x.number) r) ∙ e))
    by-outcome ih (onward t k q z w) =
        let d = steps c (t ++ (44 ∷ [])) in
        let r = run_on s past c d i n (on-turn s c d i w) in
        subst (Reached s c i (suc n)) (sym r)
        (reached-on s c i n t k (run (record_turn s) (ended past) d (i + 1) n) q z
        (ih d z (sym (ap (λ (x : Coded). x.number) r) ∙ e)))

scan-reached : (s : List ℕ) (from past : ℕ) → (scan_records s from past).number ≡ 0
    → Reached s (fresh 0 false) from (past - from) (scan_records s from past)
unfolding scan_records
scan-reached s from past e = reached (past - from) s past (fresh 0 false) from (omega arith) e

-- ---- the laws

text-reached : (s : List ℕ) (c : Scan) (i n : ℕ) (r : Coded) (p : Reached s c i n r)
    → reached_text s i p.before r.column ≡ code_text s i r
unfolding code_text
text-reached s c i n r p =
    let x = p.index in
    let z : p.before ≡ r.at - i = omega arith in
    λ j. filled_texts s i (z j) ++ text_to s (sym x j) r.column

pub text-right : TextRight
text-right s from past h e c g l =
    let r = scan_records s from past in
    let p = scan-reached s from past e in
    let t = reached_text s from p.before r.column in
    let d = code-sound t p.closes in
    let w = d.spells in
    let m : Laid (texts_of s from past) (write d.code) = subst (Laid (texts_of s from past)) (sym w.same) p.laid in
    let z : d.code ≡ c = laid-once (texts_of s from past) d.code c w.good g m l in
    sym (text-reached s (fresh 0 false) from (past - from) r p) ∙ sym w.same ∙ ap write z

pub records-run : RecordsRun
unfolding run_text
records-run s from past h e =
    let r = scan_records s from past in
    let p = scan-reached s from past e in
    let x = p.index in
    let z : r.at - from ≡ p.before = omega arith in
    ap (λ (k : ℕ). run_records 0 s from k r.column) z
    ∙ records-piece p.before 0 s from r.column p.commas
    ∙ ap (run_piece 0) (text-reached s (fresh 0 false) from (past - from) r p)
