-- The run of texts that end in a comma, and of one more behind them, is run text by text.
-- Assumes nothing.
use mathlib.Core.Path.{◌≡◌, refl, sym, ap, ◌∙◌, subst}
use mathlib.Core.List.{List, [], ◌∷◌, ◌++◌, append_assoc, append-nil}
use Prim.Native.Nat.{ℕ, zero, suc, ◌+◌, ◌-◌, ◌≤◌}
use native.Mathlib.Nat.{add-zero}
use native.Mathlib.Omega.{arith}
use lib.ListN.{length, take, drop, length-append}
use lib.Seq.{take-append-add, drop-append-add}
use Rattle.paper_decay.specs.Code.{split}
use Rattle.paper_decay.specs.Fields.{cut_at}
use Rattle.paper_decay_run.specs.Text.{filled_text, filled_texts, text_to}
use Rattle.paper_decay_run.specs.Run.{run_field, next_field, run_fields, field_behind, without_last, last_of, fields_in, run_piece, run_records}
use Rattle.paper_decay_run.proofs.Cutting.{cut-some, cut-append, split-append}
use Rattle.paper_decay_run.proofs.Shorter.{run-shorter}
use Rattle.paper_decay_run.proofs.Codes.{without-last, last-alone}

-- ---- fields behind fields

fields-append : (place : ℕ) (fs gs : List (List ℕ))
    → run_fields place (fs ++ gs) ≡ run_fields place fs ++ run_fields (field_behind place fs) gs
fields-append place [] gs = refl
fields-append place (f ∷ fs) gs = ap (λ (r : List (List ℕ)). run_field place f ∷ r) (fields-append (next_field place) fs gs)

length_fields : (place : ℕ) (fs : List (List ℕ)) → length (run_fields place fs) ≡ length fs
length_fields place [] = refl
length_fields place (f ∷ fs) = ap suc (length_fields (next_field place) fs)

-- ---- a text behind a comma

-- a text that ends in a comma
pub record Breaks (l : List ℕ) : Type 0 where
  pub before : List ℕ
  pub same : before ++ (44 ∷ []) ≡ l

-- from where the last character of both is cut
both-last : (t b : List ℕ) → 1 ≤ length b → length (t ++ (44 ∷ []) ++ b) - 1 ≡ length (t ++ (44 ∷ [])) + (length b - 1)
both-last t b h = let n = length-append (t ++ (44 ∷ [])) b in omega arith

both-fields : (t b : List ℕ) → 1 ≤ length b → fields_in (t ++ (44 ∷ []) ++ b) ≡ cut_at 44 t ++ fields_in b
both-fields t b h =
    ap (λ (n : ℕ). cut_at 44 (take n (t ++ (44 ∷ []) ++ b))) (both-last t b h)
    ∙ ap (cut_at 44) (take-append-add (t ++ (44 ∷ [])) b (length b - 1) ∙ append_assoc t (44 ∷ []) (without_last b))
    ∙ cut-append 44 t (without_last b)

both_ends : (t b : List ℕ) → 1 ≤ length b → last_of (t ++ (44 ∷ []) ++ b) ≡ last_of b
both_ends t b h =
    ap (λ (n : ℕ). drop n (t ++ (44 ∷ []) ++ b)) (both-last t b h) ∙ drop-append-add (t ++ (44 ∷ [])) b (length b - 1)

comma-piece : (place : ℕ) (t : List ℕ) → run_piece place (t ++ (44 ∷ [])) ≡ split 44 (run_fields place (cut_at 44 t)) ++ (44 ∷ [])
unfolding run_piece
comma-piece place t =
    let e = without-last t 44 in
    let f = last-alone t 44 in
    λ i. split 44 (run_fields place (cut_at 44 (e i))) ++ f i

comma-behind : (place : ℕ) (t : List ℕ) → field_behind place (fields_in (t ++ (44 ∷ []))) ≡ field_behind place (cut_at 44 t)
comma-behind place t = ap (λ (l : List ℕ). field_behind place (cut_at 44 l)) (without-last t 44)

some_more : (place : ℕ) (t b : List ℕ) → 1 ≤ length b
    → run_piece place (t ++ (44 ∷ []) ++ b) ≡ run_piece place (t ++ (44 ∷ [])) ++ run_piece (field_behind place (cut_at 44 t)) b
unfolding run_piece
some_more place t b h =
    let n = field_behind place (cut_at 44 t) in
    let x = run_fields place (cut_at 44 t) in
    let y = run_fields n (fields_in b) in
    let p = length_fields place (cut_at 44 t) in
    let q = length_fields n (fields_in b) in
    let k = cut-some 44 t in
    let m = cut-some 44 (without_last b) in
    let e : split 44 (run_fields place (fields_in (t ++ (44 ∷ []) ++ b))) ≡ split 44 x ++ (44 ∷ split 44 y) =
    ap (λ (fs : List (List ℕ)). split 44 (run_fields place fs)) (both-fields t b h)
    ∙ ap (split 44) (fields-append place (cut_at 44 t) (fields_in b))
    ∙ split-append 44 x y (omega arith) (omega arith) in
    let f = both_ends t b h in
    let g : run_piece place (t ++ (44 ∷ [])) ≡ split 44 x ++ (44 ∷ []) = comma-piece place t in
    (λ i. e i ++ f i)
    ∙ append_assoc (split 44 x) (44 ∷ split 44 y) (last_of b)
    ∙ sym (append_assoc (split 44 x) (44 ∷ []) (split 44 y ++ last_of b))
    ∙ ap (λ (l : List ℕ). l ++ (split 44 y ++ last_of b)) (sym g)

-- nothing has no run
piece-none : (place : ℕ) → run_piece place [] ≡ []
piece-none place = none-long (run_piece place []) (run-shorter place [])
  where
    none-long : (l : List ℕ) → length l ≤ 0 → l ≡ []
    none-long [] h = refl
    none-long (b ∷ l) h = absurd (omega arith)

pub piece-more : (place : ℕ) (a b : List ℕ) → Breaks a
    → run_piece place (a ++ b) ≡ run_piece place a ++ run_piece (field_behind place (fields_in a)) b
piece-more place a [] h =
    ap (run_piece place) (append-nil a)
    ∙ sym (ap (λ (l : List ℕ). run_piece place a ++ l) (piece-none (field_behind place (fields_in a))) ∙ append-nil (run_piece place a))
piece-more place a (x ∷ b) h =
    let t = h.before in
    subst (λ (l : List ℕ). run_piece place (l ++ (x ∷ b)) ≡ run_piece place l ++ run_piece (field_behind place (fields_in l)) (x ∷ b)) h.same
    (some_more place t (x ∷ b) (omega arith)
    ∙ ap (λ (n : ℕ). run_piece place (t ++ (44 ∷ [])) ++ run_piece n (x ∷ b)) (sym (comma-behind place t)))

-- ---- records

abbrev pub Commas : List ℕ → ℕ → ℕ → Type 0
Commas s i zero = Unit {0}
Commas s i (suc k) = Breaks (filled_text s i) × Commas s (i + 1) k

pub records-piece : (k place : ℕ) (s : List ℕ) (i column : ℕ) → Commas s i k
    → run_records place s i k column ≡ run_piece place (filled_texts s i k ++ text_to s (i + k) column)
unfolding run_records
records-piece zero place s i column h = ap (λ (j : ℕ). run_piece place (text_to s j column)) (sym (add-zero i))
records-piece (suc k) place s i column h =
    let l = filled_text s i in
    let n = field_behind place (fields_in l) in
    let m = filled_texts s (i + 1) k in
    let z : i + 1 + k ≡ i + suc k = omega arith in
    ap (λ (r : List ℕ). run_piece place l ++ r) (records-piece k n s (i + 1) column h.1)
    ∙ sym (piece-more place l (m ++ text_to s (i + 1 + k) column) h.0)
    ∙ ap (run_piece place) (sym (append_assoc l m (text_to s (i + 1 + k) column)))
    ∙ ap (λ (j : ℕ). run_piece place (l ++ m ++ text_to s j column)) z
