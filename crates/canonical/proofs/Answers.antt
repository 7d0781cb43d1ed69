-- From what the code worked out to what it promises.
-- Assumes nothing.
use mathlib.Core.Path.{◌≡◌, refl, sym, ap, ◌∙◌}
use mathlib.Core.Bool.{Bool, true, false, cond}
use mathlib.Core.List.{List, ◌++◌}
use Prim.Native.Nat.{ℕ, ◌-◌, ◌<◌, ◌≤◌}
use Rattle.std.specs.Prelude.{Ok, Err}
use borrow.Author.Tests.{le-leb, lt-leb, eq-eqb, ne_eqb, eqb-true}
use lib.Dec.{leb, eqb}
use lib.ListN.{length}
use lib.IntN.{ℤ}
use Rattle.paper_number.specs.declared.types.Decimal.{Decimal}
use Rattle.paper_number.specs.Grammar.{blanks, write}
use Rattle.paper_number.specs.Value.{value_of}
use Rattle.paper_number.proofs.Laws.{value_found}
use Rattle.paper_canonical.specs.declared.types.Prepared.{Prepared}
use Rattle.paper_canonical.specs.declared.types.WriteError.TheVariants.{NotEleven, NoField}
use Rattle.paper_canonical.specs.Closed.{laid_out, shortest}
use Rattle.paper_canonical.specs.Closed.{canonical_text, canonical_field}
use Rattle.paper_canonical.specs.Storing.{prepared_of, layout_columns, field_text}
use Rattle.paper_canonical.specs.Writing.{Written, answered, stored_field, written, bytes, refusal_number, writing_refusal}
use Rattle.paper_canonical.proofs.Layouts.{text-layout}

-- ---- what is answered and stored

module _ (l : List ℕ) (n : Bool) (c : ℕ) (p : ℤ) (q : Prepared) (e : q ≡ prepared_of (value_of n c p)) where
  abbrev v : Decimal
  v = value_of n c p

  long : length (canonical_text v) ≡ layout_columns q.negative q.layout
  long =
      text-layout v (value_found n c p).normal
      ∙ ap (λ (r : Prepared). layout_columns r.negative r.layout) (sym e)

  pub refused-wide : length l < layout_columns q.negative q.layout → (Err NoField ≡ answered l v)
      × (l ≡ stored_field l v)
  unfolding answered stored_field
  refused-wide h =
      let t = lt-leb (length (canonical_text v)) (length l) (rw long h) in
      (rw t refl, rw t refl)

  form : field_text (length l) q.negative q.coefficient q.layout ≡ canonical_field (length l) v
  unfolding canonical_field canonical_text shortest
  form =
      ap (λ (k : ℕ). blanks (length l - k) ++ write (laid_out q.negative q.coefficient q.layout)) (sym long)
      ∙ ap (λ (r : Prepared). blanks (length l - length (canonical_text v))
      ++ write (laid_out r.negative r.coefficient r.layout)) e

  pub done-wide : (m : List ℕ) → layout_columns q.negative q.layout ≤ length l
      → m ≡ field_text (length l) q.negative q.coefficient q.layout
      → (Ok tt ≡ answered l v) × (m ≡ stored_field l v)
  unfolding answered stored_field
  done-wide m h f =
      let t = le-leb (length (canonical_text v)) (length l) (rw long h) in
      (rw t refl, rw t (f ∙ form))

-- ---- eleven bytes

-- the answer's number is document 01's
number-of : (l : List ℕ) (v : Decimal) → refusal_number (written l v) ≡ writing_refusal l v
unfolding written answered writing_refusal
number-of l v = by (eqb (length l) 11) refl (leb (length (canonical_text v)) (length l)) refl
  where
    by : (t : Bool) → eqb (length l) 11 ≡ t → (u : Bool) → leb (length (canonical_text v)) (length l) ≡ u
        → refusal_number (cond t (cond u (Ok tt) (Err NoField)) (Err NotEleven))
        ≡ cond t (cond (leb (length (canonical_text v)) 11) 0 41) 40
    by false e u d = refl
    by true e u d =
        rw (ap (λ (n : ℕ). leb (length (canonical_text v)) n) (sym (eqb-true (length l) 11 e)) ∙ d) (either u)
      where
        either : (u : Bool) → refusal_number (cond u (Ok tt) (Err NoField)) ≡ cond u 0 41
        either true = refl
        either false = refl

module _ (l : List ℕ) (v : Decimal) where
  pub not_eleven : (length l ≡ 11 → ⊥) → (Err NotEleven ≡ written l v) × (l ≡ bytes l v)
  unfolding written bytes
  not_eleven h = let e = ne_eqb (length l) 11 h in (rw e refl, rw e refl)

  pub in-eleven : (r : Written) (m : List ℕ) → length l ≡ 11 → (r ≡ answered l v) × (m ≡ stored_field l v)
      → (r ≡ written l v) × (m ≡ bytes l v)
  unfolding written bytes
  in-eleven r m h q = let e = eq-eqb (length l) 11 h in (rw e q.0, rw e q.1)

  pub answer-number : (r : Written) → r ≡ written l v → refusal_number r ≡ writing_refusal l v
  answer-number r e = ap refusal_number e ∙ number-of l v
