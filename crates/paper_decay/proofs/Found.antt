-- A code in its records: the scan over them closes exactly where a code is laid out in them.
-- Assumes nothing.
use mathlib.Core.Path.{◌≡◌, refl, sym, ap, ◌∙◌, subst}
use mathlib.Core.Bool.{Bool, true, false, cond, not}
use mathlib.Core.List.{List, [], ◌∷◌, ◌++◌, append_assoc, append-nil}
use mathlib.Core.Logic.{◌⊎◌, inl, inr}
use Prim.Native.Nat.{ℕ, zero, suc, ◌+◌, ◌-◌, ◌<◌}
use native.Mathlib.Omega.{arith}
use borrow.Author.Tests.{eq-eqb, ne_eqb, eqb-true, eqb-false, leb-true, leb-false}
use lib.Dec.{eqb}
use lib.ListN.{length, get_or, take, drop, take-append-drop, length-append}
use lib.Seq.{take-append_seam, take-append-add, take-append-le, get_or-append_seam}
use Rattle.laws.specs.Turns.{go, out, run}
use Rattle.laws.specs.Members.{list_of}
use Rattle.paper_number.specs.Grammar.{blanks}
use Rattle.paper_decay.specs.declared.types.Scan.{Scan}
use Rattle.paper_decay.specs.declared.types.Stop.{Stop}
use Rattle.paper_decay.specs.declared.types.Coded.{Coded}
use Rattle.paper_decay.specs.declared.types.Turned.{Turned}
use Rattle.paper_decay.specs.Scan.{fresh, step_of, stopped, stop}
use Rattle.paper_decay.specs.Code.{write}
use Rattle.paper_decay.specs.Records.{text_at, filled_to, said, turned_out, turned_on, behind_text, turned_of, as_turn, record_turn}
use Rattle.paper_decay.specs.Records.{ended, scan_records}
use Rattle.paper_decay.specs.Laid.{texts_of, Laid, ends, breaks}
use Rattle.paper_canonical.proofs.Digits.{append_inj}
use Rattle.laws.proofs.Booleans.{differ}
use Rattle.paper_decay.specs.Claims.{FoundExactly, LaidOnce}
use Rattle.paper_decay.proofs.Cuts.{no-first}
use Rattle.paper_decay.proofs.Once.{spelt-once}
use Rattle.paper_decay.proofs.Steps.{steps, steps-append, nowhere-steps}
use Rattle.paper_decay.proofs.Closing.{not-closed, closed-end}
use Rattle.paper_decay.proofs.Heads.{code-close}
use Rattle.paper_decay.proofs.Spelling.{code-sound}
use Rattle.paper_decay.proofs.Closed.{scan_from, text-from, Settled, step-settled, from-shut, shut-from}
use Rattle.paper_decay.proofs.Stopping.{past, closed-over, settled-steps}
use Rattle.paper_decay.proofs.Shutting.{Shutting, shutting}
use Rattle.paper_decay.proofs.Ends.{filled_none, filled-last, Last, Bare, last_of}

-- ---- Laid, with equations in place of indices

data Lay (rs : List (List ℕ)) (m : List ℕ) : Type 0 where
  ending : (t rest : List ℕ) (qs : List (List ℕ)) → (t ++ rest) ∷ qs ≡ rs → t ≡ m → Lay rs m
  breaking : (t : List ℕ) (k b : ℕ) (u : List ℕ) (qs : List (List ℕ)) → Laid qs (b ∷ u)
      → (t ++ (44 ∷ blanks k)) ∷ qs ≡ rs → t ++ (44 ∷ b ∷ u) ≡ m → Lay rs m

lay : (rs : List (List ℕ)) (m : List ℕ) → Laid rs m → Lay rs m
lay _ _ (ends t rest qs) = ending t rest qs refl refl
lay _ _ (breaks t k b u qs l) = breaking t k b u qs l refl refl

-- ---- a text that does not stop the scan

pub from-going : (l : List ℕ) (s : Scan) (i : ℕ) → s.place < 5 → (scan_from s l i).scan.place < 5 → (scan_from s l i).scan ≡ steps s l
unfolding scan_from steps
from-going [] s i h g = refl
from-going (b ∷ l) s i h g = by-stopped (λ c f. from-going l (step_of s b) (i + 1) c f) (stopped (step_of s b)) refl g
  where
    by-stopped : ((step_of s b).place < 5 → (scan_from (step_of s b) l (i + 1)).scan.place < 5
        → (scan_from (step_of s b) l (i + 1)).scan ≡ steps (step_of s b) l)
        → (p : Bool) → stopped (step_of s b) ≡ p
        → (cond p (stop (step_of s b) i) (scan_from (step_of s b) l (i + 1))).scan.place < 5
        → (cond p (stop (step_of s b) i) (scan_from (step_of s b) l (i + 1))).scan ≡ steps (step_of s b) l
    by-stopped ih true f c = let d = leb-true 5 (step_of s b).place f in absurd (omega arith)
    by-stopped ih false f c = ih (leb-false 5 (step_of s b).place f) c

pub going-from : (l : List ℕ) (s : Scan) (i : ℕ) → s.place < 5 → (steps s l).place < 5 → (scan_from s l i).scan ≡ steps s l
unfolding scan_from steps
going-from [] s i h g = refl
going-from (b ∷ l) s i h g =
    by-stopped (λ c. going-from l (step_of s b) (i + 1) c g) (stopped (step_of s b)) refl (step-settled s b h)
  where
    by-stopped : ((step_of s b).place < 5 → (scan_from (step_of s b) l (i + 1)).scan ≡ steps (step_of s b) l)
        → (p : Bool) → stopped (step_of s b) ≡ p → Settled (step_of s b)
        → (cond p (stop (step_of s b) i) (scan_from (step_of s b) l (i + 1))).scan ≡ steps (step_of s b) l
    by-stopped ih false f c = ih (leb-false 5 (step_of s b).place f)
    by-stopped ih true f (inl c) = let d = leb-true 5 (step_of s b).place f in absurd (omega arith)
    by-stopped ih true f (inr (inl c)) =
        past (steps (step_of s b) l) (ap (λ (x : Scan). steps x l) c ∙ nowhere-steps l) g
    by-stopped ih true f (inr (inr c)) = closed-over l (subst (λ (x : Scan). (steps x l).place < 5) c g)

pub from_settled : (l : List ℕ) (s : Scan) (i : ℕ) → s.place < 5 → Settled (scan_from s l i).scan
unfolding scan_from
from_settled [] s i h = inl h
from_settled (b ∷ l) s i h =
    by-stopped (λ c. from_settled l (step_of s b) (i + 1) c) (stopped (step_of s b)) refl (step-settled s b h)
  where
    by-stopped : ((step_of s b).place < 5 → Settled (scan_from (step_of s b) l (i + 1)).scan)
        → (p : Bool) → stopped (step_of s b) ≡ p → Settled (step_of s b)
        → Settled (cond p (stop (step_of s b) i) (scan_from (step_of s b) l (i + 1))).scan
    by-stopped ih true f c = c
    by-stopped ih false f c = ih (leb-false 5 (step_of s b).place f)

-- ---- one record

pub turned-blank : (c : Scan) (k i : ℕ) → turned_of c (blanks k) i ≡ turned_out (said 50 i 12)
unfolding turned_of
turned-blank c k i = rw (filled_none k) refl

pub turned-last : (c : Scan) (t : List ℕ) (x k i : ℕ) → (x ≡ 32 → ⊥)
    → turned_of c (t ++ (x ∷ blanks k)) i ≡ behind_text (scan_from c (t ++ (x ∷ [])) 0) i (length t + 1) x
unfolding turned_of
turned-last c t x k i h =
    let l = t ++ (x ∷ blanks k) in
    let e : filled_to l ≡ length t + 1 = filled-last t x k h in
    let p : take (length t + 1) l ≡ t ++ (x ∷ []) = take-append-add t (x ∷ blanks k) 1 in
    let z : length t + 1 - 1 ≡ length t = omega arith in
    let q : get_or l (length t + 1 - 1) 0 ≡ x = ap (λ (j : ℕ). get_or l j 0) z ∙ get_or-append_seam t x (blanks k) 0 in
    rw (e, ne_eqb (length t + 1) 0 (λ y. omega arith), p, q, text-from (t ++ (x ∷ [])) c) refl

pub text-5 : (x : Stop) (at filled last : ℕ) → x.scan.place ≡ 5 → behind_text x at filled last ≡ turned_out (said 0 at (x.at + 12))
unfolding behind_text
text-5 x at filled last e = rw (eq-eqb x.scan.place 5 e) refl

pub text-6 : (x : Stop) (at filled last : ℕ) → x.scan.place ≡ 6 → behind_text x at filled last ≡ turned_out (said 50 at (x.at + 12))
unfolding behind_text
text-6 x at filled last e =
    rw (ne_eqb x.scan.place 5 (λ z. omega arith), eq-eqb x.scan.place 6 e) refl

text-on : (x : Stop) (at filled : ℕ) → x.scan.place < 5 → behind_text x at filled 44 ≡ turned_on x.scan
unfolding behind_text
text-on x at filled h = rw (ne_eqb x.scan.place 5 (λ z. omega arith), ne_eqb x.scan.place 6 (λ z. omega arith)) refl

pub text-51 : (x : Stop) (at filled last : ℕ) → x.scan.place < 5 → (last ≡ 44 → ⊥)
    → behind_text x at filled last ≡ turned_out (said 51 at (filled + 11))
unfolding behind_text
text-51 x at filled last h n =
    rw (ne_eqb x.scan.place 5 (λ z. omega arith), ne_eqb x.scan.place 6 (λ z. omega arith), ne_eqb last 44 n) refl

-- what a record gives
pub data Outcome (c : Scan) (l : List ℕ) (i : ℕ) : Type 0 where
  closed : (m rest : List ℕ) (column : ℕ) → m ++ rest ≡ l → (steps c m).place ≡ 5 → take (column - 11) l ≡ m
      → turned_of c l i ≡ turned_out (said 0 i column) → Outcome c l i
  refused : (n column : ℕ) → (n ≡ 0 → ⊥) → turned_of c l i ≡ turned_out (said n i column) → Outcome c l i
  onward : (t : List ℕ) (k : ℕ) → t ++ (44 ∷ blanks k) ≡ l → (steps c (t ++ (44 ∷ []))).place < 5
      → turned_of c l i ≡ turned_on (steps c (t ++ (44 ∷ []))) → Outcome c l i

last-outcome : (c : Scan) (t : List ℕ) (x k i : ℕ) → (x ≡ 32 → ⊥) → c.place < 5 → Outcome c (t ++ (x ∷ blanks k)) i
last-outcome c t x k i h n = by-settled (from_settled (t ++ (x ∷ [])) c 0 n) (eqb x 44) refl
  where
    q : turned_of c (t ++ (x ∷ blanks k)) i ≡ behind_text (scan_from c (t ++ (x ∷ [])) 0) i (length t + 1) x
    q = turned-last c t x k i h

    by-settled : Settled (scan_from c (t ++ (x ∷ [])) 0).scan → (p : Bool) → eqb x 44 ≡ p → Outcome c (t ++ (x ∷ blanks k)) i
    by-settled (inl g) true e =
        let z : x ≡ 44 = eqb-true x 44 e in
        let s = from-going (t ++ (x ∷ [])) c 0 n g in
        let y = scan_from c (t ++ (x ∷ [])) 0 in
        let w : turned_of c (t ++ (x ∷ blanks k)) i ≡ turned_on (steps c (t ++ (x ∷ []))) =
        q ∙ ap (behind_text y i (length t + 1)) z ∙ text-on y i (length t + 1) g ∙ ap turned_on s in
        onward t k (ap (λ (b : ℕ). t ++ (b ∷ blanks k)) (sym z))
        (subst (λ (b : ℕ). (steps c (t ++ (b ∷ []))).place < 5) z (subst (λ (r : Scan). r.place < 5) s g))
        (w ∙ ap (λ (b : ℕ). turned_on (steps c (t ++ (b ∷ [])))) z)
    by-settled (inl g) false e =
        refused 51 (length t + 1 + 11) (λ z. omega arith)
        (q ∙ text-51 (scan_from c (t ++ (x ∷ [])) 0) i (length t + 1) x g (eqb-false x 44 e))
    by-settled (inr (inl g)) p e =
        refused 50 ((scan_from c (t ++ (x ∷ [])) 0).at + 12) (λ z. omega arith)
        (q ∙ text-6 (scan_from c (t ++ (x ∷ [])) 0) i (length t + 1) x (ap (λ (r : Scan). r.place) g))
    by-settled (inr (inr g)) p e =
        let y : (scan_from c (t ++ (x ∷ [])) 0).scan.place ≡ 5 = ap (λ (r : Scan). r.place) g in
        let s = from-shut (t ++ (x ∷ [])) c 0 n y in
        let w = t ++ (x ∷ []) in
        let p = s.place in
        let v : (scan_from c w 0).at + 12 - 11 ≡ s.count = omega arith in
        closed (take s.count w) (drop s.count w ++ blanks k) ((scan_from c w 0).at + 12)
        (sym (append_assoc (take s.count w) (drop s.count w) (blanks k))
        ∙ ap (λ (r : List ℕ). r ++ blanks k) (take-append-drop s.count w)
        ∙ append_assoc t (x ∷ []) (blanks k))
        s.closes
        (ap (λ (j : ℕ). take j (t ++ (x ∷ blanks k))) v
        ∙ ap (take s.count) (sym (append_assoc t (x ∷ []) (blanks k)))
        ∙ take-append-le s.count w (blanks k) s.few)
        (q ∙ text-5 (scan_from c w 0) i (length t + 1) x y)

pub outcome : (c : Scan) (l : List ℕ) (i : ℕ) → c.place < 5 → Outcome c l i
outcome c l i n = by_last (last_of l)
  where
    by_last : Bare l ⊎ Last l → Outcome c l i
    by_last (inl r) = refused 50 12 (λ z. omega arith) (ap (λ (m : List ℕ). turned_of c m i) (sym r.same) ∙ turned-blank c r.wide i)
    by_last (inr r) =
        subst (λ (m : List ℕ). Outcome c m i) r.same (last-outcome c r.before r.last r.rest i r.filled n)

-- ---- over the records

record Lying (c : Scan) (rs : List (List ℕ)) : Type 0 where
  text : List ℕ
  laid : Laid rs text
  closes : (steps c text).place ≡ 5

lies-on : (c : Scan) (l t : List ℕ) (k : ℕ) (qs : List (List ℕ)) → t ++ (44 ∷ blanks k) ≡ l
    → (steps c (t ++ (44 ∷ []))).place < 5 → Lying (steps c (t ++ (44 ∷ []))) qs → Lying c (l ∷ qs)
unfolding steps
lies-on c l t k qs e h r = by-text r.text r.laid r.closes
  where
    by-text : (m : List ℕ) → Laid qs m → (steps (steps c (t ++ (44 ∷ []))) m).place ≡ 5 → Lying c (l ∷ qs)
    by-text [] y z = absurd (omega arith)
    by-text (b ∷ u) y z =
        record {
          text = t ++ (44 ∷ b ∷ u);
          laid = subst (λ (m : List ℕ). Laid (m ∷ qs) (t ++ (44 ∷ b ∷ u))) e (breaks t k b u qs y);
          closes = ap (λ (m : List ℕ). (steps c m).place) (sym (append_assoc t (44 ∷ []) (b ∷ u)))
              ∙ ap (λ (x : Scan). x.place) (steps-append (t ++ (44 ∷ [])) (b ∷ u) c) ∙ z;
        }

pub out-turn : (s : List ℕ) (c : Scan) (i : ℕ) (x : Coded) → turned_of c (text_at s i) i ≡ turned_out x → record_turn s c i ≡ out x
unfolding record_turn
out-turn s c i x e = ap as_turn e

pub on-turn : (s : List ℕ) (c d : Scan) (i : ℕ) → turned_of c (text_at s i) i ≡ turned_on d → record_turn s c i ≡ go d
unfolding record_turn
on-turn s c d i e = ap as_turn e

pub run_out : (s : List ℕ) (past : ℕ) (c : Scan) (i n : ℕ) (x : Coded) → record_turn s c i ≡ out x
    → run (record_turn s) (ended past) c i (suc n) ≡ x
unfolding run
run_out s past c i n x e = rw e refl

pub run_on : (s : List ℕ) (past : ℕ) (c d : Scan) (i n : ℕ) → record_turn s c i ≡ go d
    → run (record_turn s) (ended past) c i (suc n) ≡ run (record_turn s) (ended past) d (i + 1) n
unfolding run
run_on s past c d i n e = rw e refl

found-lies : (n : ℕ) (s : List ℕ) (past : ℕ) (c : Scan) (i : ℕ) → c.place < 5
    → (run (record_turn s) (ended past) c i n).number ≡ 0 → Lying c (list_of (text_at s) i n)
unfolding run list_of
found-lies zero s past c i h e = absurd (omega arith)
found-lies (suc n) s past c i h e =
    by-outcome (λ d g f. found-lies n s past d (i + 1) g f) (outcome c (text_at s i) i h)
  where
    by-outcome : ((d : Scan) → d.place < 5 → (run (record_turn s) (ended past) d (i + 1) n).number ≡ 0
        → Lying d (list_of (text_at s) (i + 1) n))
        → Outcome c (text_at s i) i → Lying c (text_at s i ∷ list_of (text_at s) (i + 1) n)
    by-outcome ih (closed m rest column q z f t) =
        record {
          text = m;
          laid = subst (λ (x : List ℕ). Laid (x ∷ list_of (text_at s) (i + 1) n) m) q (ends m rest (list_of (text_at s) (i + 1) n));
          closes = z;
        }
    by-outcome ih (refused k column z t) =
        let r = run_out s past c i n (said k i column) (out-turn s c i (said k i column) t) in
        absurd (z (sym (ap (λ (x : Coded). x.number) r) ∙ e))
    by-outcome ih (onward t k q z w) =
        let d = steps c (t ++ (44 ∷ [])) in
        let r = run_on s past c d i n (on-turn s c d i w) in
        lies-on c (text_at s i) t k (list_of (text_at s) (i + 1) n) q z
        (ih d z (sym (ap (λ (x : Coded). x.number) r) ∙ e))

-- ---- and back

-- a text that begins with what closes the scan
shut_by : (c : Scan) (t q e : List ℕ) → t ++ q ≡ e → c.place < 5 → (steps c t).place ≡ 5 → (scan_from c e 0).scan.place ≡ 5
shut_by c t q e f h z =
    let n = length-append t q in
    let m : length (t ++ q) ≡ length e = ap length f in
    let k : take (length t) e ≡ t = ap (take (length t)) (sym f) ∙ take-append_seam t q in
    (shut-from e c 0 (length t) h (omega arith) (ap (λ (x : List ℕ). (steps c x).place) k ∙ z)).0

shut-last : (c : Scan) (t q b : List ℕ) (x k i : ℕ) → (x ≡ 32 → ⊥) → t ++ q ≡ b ++ (x ∷ []) → c.place < 5 → (steps c t).place ≡ 5
    → (column : ℕ) × (turned_of c (b ++ (x ∷ blanks k)) i ≡ turned_out (said 0 i column))
shut-last c t q b x k i n f h z =
    let e = b ++ (x ∷ []) in
    ((scan_from c e 0).at + 12, turned-last c b x k i n ∙ text-5 (scan_from c e 0) i (length b + 1) x (shut_by c t q e f h z))

shut-record : (c : Scan) (t rest : List ℕ) (i : ℕ) → c.place < 5 → (steps c t).place ≡ 5
    → (column : ℕ) × (turned_of c (t ++ rest) i ≡ turned_out (said 0 i column))
shut-record c t rest i h z = by_last (last_of rest) (shutting t c h z)
  where
    by_last : Bare rest ⊎ Last rest → Shutting t → (column : ℕ) × (turned_of c (t ++ rest) i ≡ turned_out (said 0 i column))
    by_last (inl r) s =
        let e : t ++ rest ≡ s.before ++ (41 ∷ blanks r.wide) =
        ap (λ (x : List ℕ). t ++ x) (sym r.same) ∙ ap (λ (x : List ℕ). x ++ blanks r.wide) (sym s.same)
        ∙ append_assoc s.before (41 ∷ []) (blanks r.wide) in
        let (column, q) = shut-last c t [] s.before 41 r.wide i (λ y. omega arith) (append-nil t ∙ sym s.same) h z in
        (column, ap (λ (x : List ℕ). turned_of c x i) e ∙ q)
    by_last (inr r) s =
        let e : t ++ rest ≡ (t ++ r.before) ++ (r.last ∷ blanks r.rest) =
        ap (λ (x : List ℕ). t ++ x) (sym r.same) ∙ sym (append_assoc t r.before (r.last ∷ blanks r.rest)) in
        let (column, q) = shut-last c t (r.before ++ (r.last ∷ [])) (t ++ r.before) r.last r.rest i r.filled
        (sym (append_assoc t r.before (r.last ∷ []))) h z in
        (column, ap (λ (x : List ℕ). turned_of c x i) e ∙ q)

-- a break: the scan goes on
break-going : (c : Scan) (t u : List ℕ) (b : ℕ) → c.place < 5 → (steps c (t ++ (44 ∷ b ∷ u))).place ≡ 5
    → ((steps c (t ++ (44 ∷ []))).place < 5) × ((steps (steps c (t ++ (44 ∷ []))) (b ∷ u)).place ≡ 5)
break-going c t u b h z = (by-settled (settled-steps (t ++ (44 ∷ [])) c (inl h)), f)
  where
    f : (steps (steps c (t ++ (44 ∷ []))) (b ∷ u)).place ≡ 5
    f =
        ap (λ (x : Scan). x.place)
        (sym (steps-append (t ++ (44 ∷ [])) (b ∷ u) c) ∙ ap (steps c) (append_assoc t (44 ∷ []) (b ∷ u))) ∙ z

    by-settled : Settled (steps c (t ++ (44 ∷ []))) → (steps c (t ++ (44 ∷ []))).place < 5
    by-settled (inl g) = g
    by-settled (inr (inl g)) =
        not-closed (steps (steps c (t ++ (44 ∷ []))) (b ∷ u)) (ap (λ (x : Scan). steps x (b ∷ u)) g ∙ nowhere-steps (b ∷ u)) f
    by-settled (inr (inr g)) =
        no-first b u (sym (closed-end (b ∷ u) (ap (λ (x : Scan). (steps x (b ∷ u)).place) (sym g) ∙ f)))

pub break-record : (c : Scan) (t : List ℕ) (k i : ℕ) → c.place < 5 → (steps c (t ++ (44 ∷ []))).place < 5
    → turned_of c (t ++ (44 ∷ blanks k)) i ≡ turned_on (steps c (t ++ (44 ∷ [])))
break-record c t k i h g =
    let e = t ++ (44 ∷ []) in
    let s = going-from e c 0 h g in
    turned-last c t 44 k i (λ y. omega arith)
    ∙ text-on (scan_from c e 0) i (length t + 1) (subst (λ (x : Scan). x.place < 5) (sym s) g)
    ∙ ap turned_on s

no-records : {X : Type 0} (l : List ℕ) (qs : List (List ℕ)) → l ∷ qs ≡ [] → X
no-records l qs e = let z : ◌≡◌ {A = ℕ} 0 1 = cc in absurd (omega arith)

lies-found : (n : ℕ) (s : List ℕ) (past : ℕ) (c : Scan) (i : ℕ) (m : List ℕ) → c.place < 5 → Laid (list_of (text_at s) i n) m
    → (steps c m).place ≡ 5 → (run (record_turn s) (ended past) c i n).number ≡ 0
unfolding list_of
lies-found zero s past c i m h l z = by-lay (lay [] m l)
  where
    by-lay : Lay [] m → (run (record_turn s) (ended past) c i 0).number ≡ 0
    by-lay (ending t rest qs e f) = no-records (t ++ rest) qs e
    by-lay (breaking t k b u qs y e f) = no-records (t ++ (44 ∷ blanks k)) qs e
lies-found (suc n) s past c i m h l z =
    by-lay (λ d u g y w. lies-found n s past d (i + 1) u g y w) (lay (text_at s i ∷ list_of (text_at s) (i + 1) n) m l)
  where
    by-lay : ((d : Scan) (u : List ℕ) → d.place < 5 → Laid (list_of (text_at s) (i + 1) n) u → (steps d u).place ≡ 5
        → (run (record_turn s) (ended past) d (i + 1) n).number ≡ 0)
        → Lay (text_at s i ∷ list_of (text_at s) (i + 1) n) m → (run (record_turn s) (ended past) c i (suc n)).number ≡ 0
    by-lay ih (ending t rest qs e f) =
        let a : t ++ rest ≡ text_at s i = cc in
        let (column, q) = shut-record c t rest i h (ap (λ (x : List ℕ). (steps c x).place) f ∙ z) in
        let w = ap (λ (x : List ℕ). turned_of c x i) (sym a) ∙ q in
        ap (λ (x : Coded). x.number) (run_out s past c i n (said 0 i column) (out-turn s c i (said 0 i column) w))
    by-lay ih (breaking t k b u qs y e f) =
        let a : t ++ (44 ∷ blanks k) ≡ text_at s i = cc in
        let r : qs ≡ list_of (text_at s) (i + 1) n = cc in
        let (g, v) = break-going c t u b h (ap (λ (x : List ℕ). (steps c x).place) f ∙ z) in
        let d = steps c (t ++ (44 ∷ [])) in
        let w = ap (λ (x : List ℕ). turned_of c x i) (sym a) ∙ break-record c t k i h g in
        ap (λ (x : Coded). x.number) (run_on s past c d i n (on-turn s c d i w))
        ∙ ih d (b ∷ u) g (subst (λ (x : List (List ℕ)). Laid x (b ∷ u)) r y) v

-- ---- the law

pub found-exactly : FoundExactly
unfolding scan_records
found-exactly s from past h = (
  λ e.
      let r = found-lies (past - from) s past (fresh 0 false) from (omega arith) e in
      let c = code-sound r.text r.closes in
      let p = c.spells in
      record { code = c.code; good = p.good; laid = subst (Laid (texts_of s from past)) (sym p.same) r.laid },
  λ c.
      lies-found (past - from) s past (fresh 0 false) from (write c.code) (omega arith) c.laid
      (ap (λ (x : Scan). x.place) (code-close c.code c.good)),
)

-- ---- one code only is laid out in records

-- of two beginnings of one text that close the scan, none is longer
first-once : (t v r w : List ℕ) (s : Scan) → s.place < 5 → t ++ r ≡ v ++ w → (steps s t).place ≡ 5 → (steps s v).place ≡ 5 → t ≡ v
unfolding steps
first-once [] v r w s h e x y = absurd (omega arith)
first-once (b ∷ t) [] r w s h e x y = absurd (omega arith)
first-once (b ∷ t) (c ∷ v) r w s h e x y =
    by-step (λ g. first-once t v r w (step_of s b) g tail x z) (step-settled s b h)
  where
    same : b ≡ c
    same = cc

    tail : t ++ r ≡ v ++ w
    tail = cc

    z : (steps (step_of s b) v).place ≡ 5
    z = ap (λ (k : ℕ). (steps (step_of s k) v).place) same ∙ y

    by-step : ((step_of s b).place < 5 → t ≡ v) → Settled (step_of s b) → b ∷ t ≡ c ∷ v
    by-step ih (inl g) = λ i. same i ∷ ih g i
    by-step ih (inr (inl g)) = not-closed (steps (step_of s b) t) (ap (λ (k : Scan). steps k t) g ∙ nowhere-steps t) x
    by-step ih (inr (inr g)) =
        let p = closed-end t (ap (λ (k : Scan). (steps k t).place) (sym g) ∙ x) in
        let q = closed-end v (ap (λ (k : Scan). (steps k v).place) (sym g) ∙ z) in
        let o : t ≡ v = p ∙ sym q in
        λ i. same i ∷ o i

-- a record that closes the code does not break it
not-both : {X : Type 0} (s : Scan) (t r v u l : List ℕ) (k b : ℕ) → s.place < 5 → t ++ r ≡ l → (steps s t).place ≡ 5
    → v ++ (44 ∷ blanks k) ≡ l → (steps s (v ++ (44 ∷ b ∷ u))).place ≡ 5 → X
not-both s t r v u l k b h e x f y =
    let (column, p) = shut-record s t r 0 h x in
    let (g, z) = break-going s v u b h y in
    let q = break-record s v k 0 h g in
    let o : turned_out (said 0 0 column) ≡ turned_on (steps s (v ++ (44 ∷ []))) =
    sym p ∙ ap (λ (m : List ℕ). turned_of s m 0) (e ∙ sym f) ∙ q in
    differ (sym (ap (λ (w : Turned). w.going) o))

-- a record breaks in one place
break-once : (t v : List ℕ) (j k : ℕ) → t ++ (44 ∷ blanks j) ≡ v ++ (44 ∷ blanks k) → t ≡ v
break-once t v j k e =
    let p = filled-last t 44 j (λ z. omega arith) in
    let q = filled-last v 44 k (λ z. omega arith) in
    let n : filled_to (t ++ (44 ∷ blanks j)) ≡ filled_to (v ++ (44 ∷ blanks k)) = ap filled_to e in
    (append_inj t (44 ∷ blanks j) v (44 ∷ blanks k) (omega arith) e).0

lies-once : (rs : List (List ℕ)) (s : Scan) (m n : List ℕ) → s.place < 5 → Laid rs m → (steps s m).place ≡ 5 → Laid rs n
    → (steps s n).place ≡ 5 → m ≡ n
lies-once [] s m n h a x b y = by-lay (lay [] m a)
  where
    by-lay : Lay [] m → m ≡ n
    by-lay (ending t r qs e f) = no-records (t ++ r) qs e
    by-lay (breaking t k c u qs l e f) = no-records (t ++ (44 ∷ blanks k)) qs e
lies-once (l ∷ rs) s m n h a x b y =
    by-lays (λ d u w g p v q z. lies-once rs d u w g p v q z) (lay (l ∷ rs) m a) (lay (l ∷ rs) n b)
  where
    by-lays : ((d : Scan) (u w : List ℕ) → d.place < 5 → Laid rs u → (steps d u).place ≡ 5 → Laid rs w → (steps d w).place ≡ 5 → u ≡ w)
        → Lay (l ∷ rs) m → Lay (l ∷ rs) n → m ≡ n
    by-lays ih (ending t r qs e f) (ending v w ps d g) =
        let o : t ++ r ≡ v ++ w = cc in
        sym f ∙ first-once t v r w s h o (ap (λ (z : List ℕ). (steps s z).place) f ∙ x) (ap (λ (z : List ℕ). (steps s z).place) g ∙ y) ∙ g
    by-lays ih (ending t r qs e f) (breaking v k c u ps p d g) =
        let o : t ++ r ≡ l = cc in
        let i : v ++ (44 ∷ blanks k) ≡ l = cc in
        not-both s t r v u l k c h o (ap (λ (z : List ℕ). (steps s z).place) f ∙ x) i (ap (λ (z : List ℕ). (steps s z).place) g ∙ y)
    by-lays ih (breaking v k c u ps p d g) (ending t r qs e f) =
        let o : t ++ r ≡ l = cc in
        let i : v ++ (44 ∷ blanks k) ≡ l = cc in
        not-both s t r v u l k c h o (ap (λ (z : List ℕ). (steps s z).place) f ∙ y) i (ap (λ (z : List ℕ). (steps s z).place) g ∙ x)
    by-lays ih (breaking t j c u qs p e f) (breaking v k d w ps q i g) =
        let o : t ++ (44 ∷ blanks j) ≡ v ++ (44 ∷ blanks k) = cc in
        let a₁ : qs ≡ rs = cc in
        let a₂ : ps ≡ rs = cc in
        let z : t ≡ v = break-once t v j k o in
        let (g₁, x₁) = break-going s t u c h (ap (λ (r : List ℕ). (steps s r).place) f ∙ x) in
        let (g₂, y₁) = break-going s v w d h (ap (λ (r : List ℕ). (steps s r).place) g ∙ y) in
        let y₂ : (steps (steps s (t ++ (44 ∷ []))) (d ∷ w)).place ≡ 5 =
        ap (λ (r : List ℕ). (steps (steps s (r ++ (44 ∷ []))) (d ∷ w)).place) z ∙ y₁ in
        let k₁ : c ∷ u ≡ d ∷ w = ih (steps s (t ++ (44 ∷ []))) (c ∷ u) (d ∷ w) g₁
        (subst (λ (r : List (List ℕ)). Laid r (c ∷ u)) a₁ p) x₁ (subst (λ (r : List (List ℕ)). Laid r (d ∷ w)) a₂ q) y₂ in
        sym f ∙ (λ r. z r ++ (44 ∷ k₁ r)) ∙ g

pub laid-once : LaidOnce
laid-once rs c d g h a b =
    let e : write c ≡ write d =
    lies-once rs (fresh 0 false) (write c) (write d) (omega arith) a (ap (λ (x : Scan). x.place) (code-close c g)) b
    (ap (λ (x : Scan). x.place) (code-close d h)) in
    spelt-once (write d) c d (record { good = g; same = e }) (record { good = h; same = refl })
