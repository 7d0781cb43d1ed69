-- The reading and the grammar agree: each list is blank, a field with its value, or neither.
-- Assumes nothing.
use mathlib.Core.Path.{◌≡◌, refl, sym, ap, ◌∙◌}
use mathlib.Core.List.{List, [], append-nil}
use Prim.Native.Nat.{ℕ}
use native.Mathlib.Omega.{arith}
use lib.IntN.{pos, ◌-ℤ◌}
use lib.ListN.{length, length-replicate}
use Rattle.paper_number.specs.declared.types.Decimal.{Decimal}
use Rattle.paper_number.specs.declared.types.Reading.{Reading}
use Rattle.paper_number.specs.declared.types.Reading.TheVariants.{Blank, Number, Refused}
use Rattle.paper_number.specs.Grammar.{blanks, Tail, plain}
use Rattle.paper_number.specs.Value.{exponent_of, value_of, Reads, Says, blank, number, malformed}
use Rattle.paper_number.specs.Reading.{Mantissa, Scan, Lead, Signed, Whole, Point, Fraction, Gap, Mark, MarkGap}
use Rattle.paper_number.specs.Reading.{PowerSign, Power, Bad, scan_of, finish, read_field}
use Rattle.paper_number.proofs.Equation.{found, one}
use Rattle.paper_number.proofs.Reach.{Reach, reached}
use Rattle.paper_number.proofs.Ended.{Ended, ended-gap, ended-fraction, ended-power}
use Rattle.paper_number.proofs.Follow.{scan-lead, reads-field}

-- ---- a list that reads to a number is a field of that value

ended-reads : (l : List ℕ) (m : Mantissa) (t : Tail) → Ended l m t
    → Reads l (value_of m.negative m.number (exponent_of t -ℤ pos m.places))
ended-reads l m t x =
    record {
      field = x.field;
      spells = x.spells;
      means = rw (← x.sign, ← x.number, ← x.places, ← x.tail) (found _ _ _);
    }

-- ---- a field reads to its value, and to no other

pub reads-number : {l : List ℕ} {v : Decimal} → Reads l v → read_field l ≡ Number v
reads-number {l} {v} r =
    ap read_field (sym r.spells.same) ∙ reads-field r.field r.spells.good
    ∙ ap Number (one (found _ _ _) r.means)

-- ---- a blank list

reads-blank : {l : List ℕ} → l ≡ blanks (length l) → read_field l ≡ Blank
unfolding read_field finish
reads-blank {l} e =
    ap (λ (x : List ℕ). finish (scan_of Lead x)) (e ∙ sym (append-nil (blanks (length l))))
    ∙ ap finish (scan-lead (length l) [])

as_long : {l : List ℕ} (n : ℕ) → l ≡ blanks n → l ≡ blanks (length l)
as_long {l} n e = e ∙ ap blanks (sym (ap length e ∙ length-replicate n 32))

-- ---- each list

-- a reading that is refused is neither blank nor a number
refused : {l : List ℕ} → read_field l ≡ Refused 15 → Says l (Refused 15)
refused {l} e =
    malformed
    (λ b. let q = reads-blank b in let z : ◌≡◌ {A = ℕ} 0 1 = cc in omega arith)
    (λ v r. let q = reads-number r in let z : ◌≡◌ {A = ℕ} 0 1 = cc in omega arith)

says_at : {l : List ℕ} (s : Scan) → Reach l s → read_field l ≡ finish s → Says l (finish s)
unfolding finish
says_at Lead (n, e) q = blank (as_long n e)
says_at (Signed g) r q = refused q
says_at (Whole g c) r q = refused q
says_at (Point g) r q = refused q
says_at {l} (Fraction m) r q = number (ended-reads l m (plain 0) (ended-fraction l m r))
says_at {l} (Gap m) (k, r) q = number (ended-reads l m (plain k) (ended-gap l m k r))
says_at (Mark m) r q = refused q
says_at (MarkGap m) r q = refused q
says_at (PowerSign m s) r q = refused q
says_at {l} (Power m s e) r q = rw (← r.sense, ← r.number) (number (ended-reads l m _ (ended-power l m s e r)))
says_at Bad r q = refused q

pub says : (l : List ℕ) → Says l (read_field l)
unfolding read_field
says l = says_at (scan_of Lead l) (reached l) refl

pub said-so : {l : List ℕ} {r : Reading} → Says l r → read_field l ≡ r
said-so (blank e) = reads-blank e
said-so (number r) = reads-number r
said-so {l} (malformed b n) = neither (says l)
  where
    neither : {r : Reading} → Says l r → r ≡ Refused 15
    neither (blank e) = absurd (b e)
    neither (number r) = absurd (n _ r)
    neither (malformed x y) = refl
