-- The theorems of the canonical field, for every value and every width (document 01, "Canonical field").
-- Assumes nothing.
use mathlib.Core.Path.{◌≡◌, sym, ap, ◌∙◌}
use mathlib.Core.List.{List, ◌∷◌, ◌++◌, append_assoc}
use mathlib.Core.Logic.{inl, inr, ⊎_elim, ◌↔◌}
use Prim.Native.Nat.{ℕ, zero, suc, ◌+◌, ◌-◌, ◌<◌, ◌≤◌}
use native.Mathlib.Nat.{zero-add, suc-add}
use native.Mathlib.Decide.{dec_lt}
use native.Mathlib.Omega.{arith}
use lib.ListN.{length}
use Rattle.paper_number.specs.declared.types.Decimal.{Decimal}
use Rattle.paper_number.specs.Grammar.{blanks, Field, write, GoodField}
use Rattle.paper_number.specs.Value.{Normal, Means}
use Rattle.paper_canonical.specs.Canonical.{Canonical, ExactlyOne, NoField, Best}
use Rattle.paper_canonical.specs.Closed.{canonical_text, canonical_field}
use Rattle.paper_canonical.proofs.Winner.{placed, placed-text, field-length, closed-wins, none-shorter}
use Rattle.paper_canonical.proofs.Winner.{alone, never_both}

-- where some field reads to the value, the closed form is no wider
pub canonical-fits : (w : ℕ) (v : Decimal) (g : Field) → GoodField g → length (write g) ≡ w → Means g v
    → length (canonical_text v) ≤ w
canonical-fits w v g good wg e = by (dec_lt w (length (canonical_text v)))
  where
    by : Dec (w < length (canonical_text v)) → length (canonical_text v) ≤ w
    by (yes l) = absurd (none-shorter w v e.normal l g good wg e)
    by (no l) = omega arith

-- "That exactly one field wins is proved": of every value that some field of w columns reads to
pub canonical-one : (w : ℕ) (v : Decimal) (g : Field) → GoodField g → length (write g) ≡ w → Means g v → ExactlyOne w v
canonical-one w v g good wg e =
    let c = closed-wins w v e.normal (canonical-fits w v g good wg e) in
    record { field = placed w v; wins = c; alone = λ f d. alone w v f (placed w v) d c }

-- the closed form wins: whatever wins is written like it
pub closed_form : (w : ℕ) (v : Decimal) (f : Field) → Canonical w v f → write f ≡ canonical_field w v
closed_form w v f c =
    let h = c.says.normal in
    let l = canonical-fits w v f c.good c.wide c.says in
    alone w v f (placed w v) c (closed-wins w v h l) ∙ placed-text w v

-- of bytes too, no two win
pub best-one : (w : ℕ) (v : Decimal) (l m : List ℕ) → Best w v l → Best w v m → l ≡ m
best-one w v l m a b =
    ⊎_elim (λ e. sym e)
    (λ p. ⊎_elim (λ e. e) (λ q. absurd (never_both a.reads.field b.reads.field p q))
    (b.first l a.wide a.reads))
    (a.first m b.wide b.reads)

-- no field reads to the value exactly when the closed form is wider
pub canonical-none : (w : ℕ) (v : Decimal) → Normal v → NoField w v ↔ (w < length (canonical_text v))
canonical-none w v h = (λ none. by none (dec_lt w (length (canonical_text v))), λ l. none-shorter w v h l)
  where
    by : NoField w v → Dec (w < length (canonical_text v)) → w < length (canonical_text v)
    by none (yes l) = l
    by none (no l) =
        let c = closed-wins w v h (let k : length (canonical_text v) ≤ w = omega arith in k) in
        absurd (none (placed w v) c.good c.wide c.says)

-- the same of columns
pub canonical-best : (w : ℕ) (v : Decimal) → Normal v → length (canonical_text v) ≤ w → Best w v (canonical_field w v)
canonical-best w v h l =
    let c = closed-wins w v h l in
    let e = placed-text w v in
    record {
      wide = field-length w v h l;
      reads = record { field = placed w v; spells = record { good = c.good; same = e }; means = c.says };
      first = λ m wm r.
          let s = r.spells in
          ⊎_elim (λ q. inl (sym s.same ∙ q ∙ e)) (λ a. inr a)
          (c.first r.field s.good (ap length s.same ∙ wm) r.means);
    }

blanks-add : (k n : ℕ) → blanks (k + n) ≡ blanks k ++ blanks n
blanks-add zero n = ap blanks (zero-add n)
blanks-add (suc k) n = rw (suc-add k n) (ap (λ (l : List ℕ). 32 ∷ l) (blanks-add k n))

-- in more columns it stands behind more blanks
pub wider : (k w : ℕ) (v : Decimal) → length (canonical_text v) ≤ w
    → canonical_field (k + w) v ≡ blanks k ++ canonical_field w v
unfolding canonical_field
wider k w v l =
    let n = length (canonical_text v) in
    let e : k + w - n ≡ k + (w - n) = omega arith in
    rw (e, blanks-add k (w - n)) (append_assoc (blanks k) (blanks (w - n)) (canonical_text v))
