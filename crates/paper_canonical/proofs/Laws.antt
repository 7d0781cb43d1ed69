-- The laws of canonical fields, which the layers above cite by these names.
-- Assumes nothing.
use mathlib.Core.Path.{◌≡◌, refl, sym, ap, ◌∙◌}
use mathlib.Core.List.{List, ◌++◌}
use mathlib.Core.Logic.{◌↔◌}
use Prim.Native.Nat.{ℕ, ◌+◌, ◌-◌, ◌<◌, ◌≤◌}
use native.Mathlib.Omega.{arith}
use borrow.Author.Tests.{ne_eqb, le-leb, lt-leb}
use lib.ListN.{length, get_or}
use Rattle.paper_number.specs.declared.types.Decimal.{Decimal}
use Rattle.paper_number.specs.declared.types.Reading.{Reading}
use Rattle.paper_number.specs.declared.types.Reading.TheVariants.{Blank, Number}
use Rattle.paper_number.specs.declared.types.Reading.TheVariants as R
use Rattle.paper_number.specs.Grammar.{blanks, Letter}
use Rattle.paper_number.specs.Value.{Normal, value_of}
use Rattle.paper_number.specs.Reading.{read_field}
use Rattle.paper_number.proofs.Laws.{value_found, reads-exactly, blank-read, number-letters}
use Rattle.paper_canonical.specs.Closed.{canonical_text, canonical_field}
use Rattle.paper_canonical.specs.Replacing.{replaced_by, canonical, Formed}
use Rattle.paper_canonical.specs.Claims.{CanonicalOne, ClosedForm, CanonicalNone, CanonicalBest, BestOne, ColumnsSpan}
use Rattle.paper_canonical.specs.Claims.{WrittenBest, WrittenNone}
use Rattle.paper_canonical.specs.Writing.{answered, stored_field, written, bytes, refusal_number}
use Rattle.paper_canonical.proofs.Theorems as Theorems
use Rattle.paper_canonical.proofs.Characters as Characters
use Rattle.paper_canonical.proofs.Promises as Promises

-- ---- what wins, for every value and every width

-- "That exactly one field wins is proved": of every value that some field of w columns reads to
pub canonical-one : CanonicalOne
canonical-one w v g good wide means = Theorems.canonical-one w v g good wide means

-- what wins is the closed form
pub closed_form : ClosedForm
closed_form w v f c = Theorems.closed_form w v f c

-- no field reads to the value exactly when the closed form is wider
pub canonical-none : CanonicalNone
canonical-none w v h = Theorems.canonical-none w v h

-- the closed form is ahead of all columns that read to the value
pub canonical-best : CanonicalBest
canonical-best w v h l = Theorems.canonical-best w v h l

-- of bytes, no two win
pub best-one : BestOne
best-one w v l m a b = Theorems.best-one w v l m a b

-- the columns of a field are those of its bytes, from first to last non-blank
pub columns_span : ColumnsSpan
columns_span f h = Characters.columns_span f h

-- ---- the canonical text of a value

-- it has two characters at least, none of them blank
pub text-two : (v : Decimal) → Normal v → 2 ≤ length (canonical_text v)
text-two v h = Characters.two v h

pub text-no-blank : (v : Decimal) (i : ℕ) → i < length (canonical_text v) → get_or (canonical_text v) i 0 ≡ 32 → ⊥
text-no-blank v i h e = Characters.no-blank v i h e

-- ---- the canonical field of a value

-- it reads to the value
pub canonical-reads : (w : ℕ) (v : Decimal) → Normal v → length (canonical_text v) ≤ w
    → read_field (canonical_field w v) ≡ Number v
canonical-reads w v h l = (reads-exactly (canonical_field w v) v).1 (Theorems.canonical-best w v h l).reads

-- so does the text alone
pub text-reads : (v : Decimal) → Normal v → read_field (canonical_text v) ≡ Number v
unfolding canonical_field
text-reads v h =
    let n = length (canonical_text v) in
    let z : n - n ≡ 0 = omega arith in
    ap (λ (k : ℕ). read_field (blanks k ++ canonical_text v)) (sym z) ∙ canonical-reads n v h (omega arith)

-- where columns read to a value, it has a canonical field of as many
pub number-normal : (l : List ℕ) (v : Decimal) → read_field l ≡ Number v → Normal v
number-normal l v e = ((reads-exactly l v).0 e).means.normal

pub number_fits : (l : List ℕ) (v : Decimal) → read_field l ≡ Number v → length (canonical_text v) ≤ length l
number_fits l v e =
    let r = (reads-exactly l v).0 e in
    let s = r.spells in
    Theorems.canonical-fits (length l) v r.field s.good (ap length s.same) r.means

-- and where none of w columns exists, no columns read to it
pub none_reads : (w : ℕ) (v : Decimal) → w < length (canonical_text v) → (l : List ℕ) → length l ≡ w
    → read_field l ≡ Number v → ⊥
none_reads w v h l e r = let k = number_fits l v r in omega arith

-- in more columns it stands behind more blanks
pub canonical-wider : (k w : ℕ) (v : Decimal) → length (canonical_text v) ≤ w
    → canonical_field (k + w) v ≡ blanks k ++ canonical_field w v
canonical-wider k w v h = Theorems.wider k w v h

-- ---- writing

-- "Writing a decimal" that is done leaves its one canonical field in the buffer
pub written-best : WrittenBest
written-best l negative a p e = Promises.done-best l (value_of negative a p) (value_found negative a p).normal e

-- "41 no field reads to the value", and no other
pub written_none : WrittenNone
written_none l negative a p w = Promises.refused_none l (value_of negative a p) (value_found negative a p).normal w

-- by the buffer's length and the text's: done; 41; 40. "A refused call stores nothing."
pub written-fits : (l : List ℕ) (v : Decimal) → length l ≡ 11 → length (canonical_text v) ≤ 11
    → (refusal_number (written l v) ≡ 0) × (bytes l v ≡ canonical_field 11 v)
unfolding written bytes answered stored_field
written-fits l v w h = rw (w, le-leb (length (canonical_text v)) 11 h) (refl, refl)

pub written-wide : (l : List ℕ) (v : Decimal) → length l ≡ 11 → 11 < length (canonical_text v)
    → (refusal_number (written l v) ≡ 41) × (bytes l v ≡ l)
unfolding written bytes answered stored_field
written-wide l v w h = rw (w, lt-leb (length (canonical_text v)) 11 h) (refl, refl)

pub written-short : (l : List ℕ) (v : Decimal) → (length l ≡ 11 → ⊥) → (refusal_number (written l v) ≡ 40) × (bytes l v ≡ l)
unfolding written bytes
written-short l v w = rw (ne_eqb (length l) 11 w) (refl, refl)

-- ---- the canonical field of a field: of all columns, whatever they hold

module _ (l : List ℕ) where
  same-reading : (r : Reading) → read_field l ≡ r
      → (length (replaced_by l r) ≡ length l) × (read_field (replaced_by l r) ≡ read_field l)
  same-reading Blank e = (refl, refl)
  same-reading (Number v) e =
      let h = number-normal l v e in
      let k = number_fits l v e in
      ((Theorems.canonical-best (length l) v h k).wide, canonical-reads (length l) v h k ∙ sym e)
  same-reading (R.Refused n) e = (refl, refl)

  -- it has as many columns
  pub canonical-length : length (canonical l) ≡ length l
  unfolding canonical
  canonical-length = (same-reading (read_field l) refl).0

  -- it reads as the field does
  pub canonical-same : read_field (canonical l) ≡ read_field l
  unfolding canonical
  canonical-same = (same-reading (read_field l) refl).1

  -- that of a number is not blank
  pub canonical-filled : (v : Decimal) → read_field l ≡ Number v → canonical l ≡ blanks (length (canonical l)) → ⊥
  canonical-filled v e b =
      let q = sym ((blank-read (canonical l)).1 b) ∙ canonical-same ∙ e in
      let z : ◌≡◌ {A = ℕ} 0 1 = cc in
      omega arith

  -- it holds permitted characters only: blanks, digits, a point, signs (and E)
  pub canonical-letters : Formed (read_field l) → (i : ℕ) → i < length l → Letter (get_or (canonical l) i 0)
  canonical-letters f i h =
      number-letters (canonical l) (λ e. formed (read_field l) f (sym canonical-same ∙ e)) i (rw canonical-length h)
    where
      formed : (r : Reading) → Formed r → r ≡ R.Refused 15 → ⊥
      formed Blank f e = let z : ◌≡◌ {A = ℕ} 0 1 = cc in omega arith
      formed (Number v) f e = let z : ◌≡◌ {A = ℕ} 0 1 = cc in omega arith
      formed (R.Refused n) f e = f

stays : (l : List ℕ) (r : Reading) → read_field l ≡ r → replaced_by l r ≡ l → canonical l ≡ l
unfolding canonical
stays l r e q = rw e q

number_is : (l : List ℕ) (v : Decimal) → read_field l ≡ Number v → canonical l ≡ canonical_field (length l) v
unfolding canonical
number_is l v e = rw e refl

-- fields that read alike have one canonical field
pub canonical-alike : (l m : List ℕ) → length l ≡ length m → Formed (read_field l) → read_field l ≡ read_field m
    → canonical l ≡ canonical m
canonical-alike l m w f e = by (read_field l) f refl
  where
    by : (r : Reading) → Formed r → read_field l ≡ r → canonical l ≡ canonical m
    by Blank f h =
        stays l Blank h refl ∙ (blank-read l).0 h ∙ ap blanks w ∙ sym ((blank-read m).0 (sym e ∙ h))
        ∙ sym (stays m Blank (sym e ∙ h) refl)
    by (Number v) f h =
        number_is l v h ∙ ap (λ (n : ℕ). canonical_field n v) w ∙ sym (number_is m v (sym e ∙ h))
    by (R.Refused n) f h = absurd f

-- two numbers of as many columns have one canonical field exactly when their decimals are equal
pub canonical-equal : (l m : List ℕ) (v u : Decimal) → length l ≡ length m → read_field l ≡ Number v
    → read_field m ≡ Number u → (canonical l ≡ canonical m) ↔ (v ≡ u)
canonical-equal l m v u w e f = (
  λ q. let r = sym e ∙ (sym (canonical-same l) ∙ ap read_field q ∙ canonical-same m) ∙ f in value-is r,
  λ q. number_is l v e ∙ rw (w, q) refl ∙ sym (number_is m u f),
)
  where
    value-is : Number v ≡ Number u → v ≡ u
    value-is e = cc

-- canonical of canonical is itself
pub canonical-again : (l : List ℕ) → canonical (canonical l) ≡ canonical l
canonical-again l = by (read_field l) refl
  where
    by : (r : Reading) → read_field l ≡ r → canonical (canonical l) ≡ canonical l
    by Blank e = ap canonical (stays l Blank e refl)
    by (Number v) e =
        number_is (canonical l) v (canonical-same l ∙ e) ∙ ap (λ (n : ℕ). canonical_field n v) (canonical-length l)
        ∙ sym (number_is l v e)
    by (R.Refused n) e = ap canonical (stays l (R.Refused n) e refl)
