-- A field is cut in one way: number and unit, and words between slashes.
-- Assumes nothing.
use mathlib.Core.Path.{◌≡◌, refl, sym, ap, ◌∙◌, subst}
use mathlib.Core.Bool.{Bool, true, false}
use mathlib.Core.List.{List, [], ◌∷◌, ◌++◌}
use Prim.Native.Nat.{ℕ, ◌+◌, ◌<◌, ◌≤◌}
use native.Mathlib.Omega.{arith}
use borrow.Author.Tests.{eq-eqb, ne_eqb, lt-leb}
use lib.ListN.{length, take, drop}
use lib.Seq.{take-append_seam, drop-append_seam}
use Rattle.laws.specs.Walk.{All}
use Rattle.laws.proofs.Booleans.{differ}
use Rattle.paper_number.specs.declared.types.Decimal.{Decimal}
use Rattle.paper_number.specs.declared.types.Reading.TheVariants.{Number}
use Rattle.paper_number.specs.Grammar.{Letter, blank, digit, point, sign, mark, sign_byte}
use Rattle.paper_number.specs.Reading as R
use Rattle.paper_number.specs.Reading.{column_of, scan_step, scan_of, finish, read_field, Lead, Signed, Whole, Point}
use Rattle.paper_number.specs.Reading.{Fraction, Gap, Mark, MarkGap, PowerSign, Power, Bad}
use Rattle.paper_record.specs.Text.{is_capital}
use Rattle.paper_decay.specs.Characters.{is_type}
use Rattle.paper_decay.specs.Numerals.{Filled, Numeral}
use Rattle.paper_decay.specs.Code.{Capital, OneType, split}
use Rattle.paper_decay.specs.Fields.{front, cut_at, words_of}
use Rattle.paper_decay.specs.Claims.{HalfOnce, TypesOnce, EnergiesOnce}
use Rattle.paper_decay.proofs.Cuts.{all_map}
use Rattle.paper_decay.proofs.Inside.{numeral-letters}

-- ---- a number ends in no capital

abbrev EndsLow : List ℕ → Type 0
EndsLow [] = ⊥
EndsLow (b ∷ []) = is_capital b ≡ false
EndsLow (b ∷ c ∷ l) = EndsLow (c ∷ l)

low-capital : (b : ℕ) → b < 65 → is_capital b ≡ false
low-capital b h = rw (lt-leb 65 b h) refl

-- an E at the end leaves the exponent without digits
mark-lost : (t : R.Scan) (v : Decimal) → finish (scan_step t (R.column R.mark 0 false)) ≡ Number v → ⊥
unfolding finish
mark-lost Lead v e = let z : ◌≡◌ {A = ℕ} 0 1 = cc in omega arith
mark-lost (Signed n) v e = let z : ◌≡◌ {A = ℕ} 0 1 = cc in omega arith
mark-lost (Whole n c) v e = let z : ◌≡◌ {A = ℕ} 0 1 = cc in omega arith
mark-lost (Point n) v e = let z : ◌≡◌ {A = ℕ} 0 1 = cc in omega arith
mark-lost (Fraction x) v e = let z : ◌≡◌ {A = ℕ} 0 1 = cc in omega arith
mark-lost (Gap x) v e = let z : ◌≡◌ {A = ℕ} 0 1 = cc in omega arith
mark-lost (Mark x) v e = let z : ◌≡◌ {A = ℕ} 0 1 = cc in omega arith
mark-lost (MarkGap x) v e = let z : ◌≡◌ {A = ℕ} 0 1 = cc in omega arith
mark-lost (PowerSign x s) v e = let z : ◌≡◌ {A = ℕ} 0 1 = cc in omega arith
mark-lost (Power x s k) v e = let z : ◌≡◌ {A = ℕ} 0 1 = cc in omega arith
mark-lost Bad v e = let z : ◌≡◌ {A = ℕ} 0 1 = cc in omega arith

pub sign_low : (g : Bool) (b : ℕ) → b ≡ sign_byte g → b < 65
sign_low true b e = omega arith
sign_low false b e = omega arith

last-low : (t : R.Scan) (b : ℕ) (v : Decimal) → finish (scan_step t (column_of b)) ≡ Number v → Filled b → Letter b
    → is_capital b ≡ false
last-low t b v e h (blank q) = absurd (h q)
last-low t b v e h (digit d l q) = low-capital b (omega arith)
last-low t b v e h (point q) = low-capital b (omega arith)
last-low t b v e h (sign g q) = low-capital b (sign_low g b q)
last-low t b v e h (mark q) =
    absurd (mark-lost t v (subst (λ (k : ℕ). finish (scan_step t (column_of k)) ≡ Number v) q e))

ends_low : (l : List ℕ) (t : R.Scan) (b : ℕ) (v : Decimal) → finish (scan_of t (b ∷ l)) ≡ Number v → All Filled (b ∷ l)
    → All Letter (b ∷ l) → EndsLow (b ∷ l)
ends_low [] t b v e h k = last-low t b v e h.0 k.0
ends_low (c ∷ l) t b v e h k = ends_low l (scan_step t (column_of b)) c v e h.1 k.1

-- nothing is no number
pub none-numeral : Numeral [] → ⊥
unfolding read_field finish
none-numeral n = let e = n.reads in let z : ◌≡◌ {A = ℕ} 0 1 = cc in omega arith

numeral-low : (l : List ℕ) → Numeral l → EndsLow l
unfolding read_field
numeral-low [] n = none-numeral n
numeral-low (b ∷ l) n = ends_low l Lead b n.value n.reads n.bare (numeral-letters (b ∷ l) n)

-- ---- number and unit

front-capitals : (u : List ℕ) → All Capital u → front u ≡ 0
front-capitals [] h = refl
front-capitals (b ∷ u) h = rw (front-capitals u h.1, h.0) refl

front_low : (n u : List ℕ) → EndsLow n → front u ≡ 0 → front (n ++ u) ≡ length n
front_low [] u h e = absurd h
front_low (b ∷ []) u h e = rw (e, h) refl
front_low (b ∷ c ∷ l) u h e = rw (front_low (c ∷ l) u h e) refl

pub half-once : HalfOnce
half-once n u h g =
    let e : front (n ++ u) ≡ length n = front_low n u (numeral-low n h) (front-capitals u g.capitals) in
    (ap (λ (k : ℕ). take k (n ++ u)) e ∙ take-append_seam n u, ap (λ (k : ℕ). drop k (n ++ u)) e ∙ drop-append_seam n u)

-- ---- words between slashes

abbrev pub NoSlash : ℕ → Type 0
NoSlash b = b ≡ 47 → ⊥

abbrev pub Solid : List ℕ → Type 0
Solid w = All NoSlash w × (1 ≤ length w)

abbrev pub Not : ℕ → ℕ → Type 0
Not c b = b ≡ c → ⊥

pub cut-first : (c : ℕ) (w l : List ℕ) → All (Not c) w → cut_at c (w ++ (c ∷ l)) ≡ w ∷ cut_at c l
cut-first c [] l h = rw (eq-eqb c c refl) refl
cut-first c (b ∷ w) l h = rw (ne_eqb b c h.0, cut-first c w l h.1) refl

pub cut-whole : (c : ℕ) (w : List ℕ) → All (Not c) w → cut_at c w ≡ w ∷ []
cut-whole c [] h = refl
cut-whole c (b ∷ w) h = rw (ne_eqb b c h.0, cut-whole c w h.1) refl

pub cut-split : (c : ℕ) (w : List ℕ) (ws : List (List ℕ)) → All (Not c) w → All (All (Not c)) ws
    → cut_at c (split c (w ∷ ws)) ≡ w ∷ ws
cut-split c w [] h k = cut-whole c w h
cut-split c w (x ∷ ws) h k =
    cut-first c w (split c (x ∷ ws)) h ∙ ap (λ (r : List (List ℕ)). w ∷ r) (cut-split c x ws k.0 k.1)

pub words-some : (l : List ℕ) → 1 ≤ length l → words_of l ≡ cut_at 47 l
words-some [] h = absurd (omega arith)
words-some (b ∷ l) h = refl

pub split-some : (w : List ℕ) (ws : List (List ℕ)) → 1 ≤ length w → 1 ≤ length (split 47 (w ∷ ws))
split-some w [] h = h
split-some [] (x ∷ ws) h = absurd (omega arith)
split-some (b ∷ w) (x ∷ ws) h = omega arith

pub words-once : (ws : List (List ℕ)) → All Solid ws → words_of (split 47 ws) ≡ ws
words-once [] h = refl
words-once (w ∷ ws) h =
    words-some (split 47 (w ∷ ws)) (split-some w ws h.0.1) ∙ cut-split 47 w ws h.0.0 (all_map Solid (All NoSlash) ws (λ x k. k.0) h.1)

type-slash : (b : ℕ) → is_type b ≡ true → NoSlash b
unfolding is_type
type-slash b h e = let z : false ≡ true = subst (λ (k : ℕ). is_type k ≡ true) e h in differ (sym z)

pub type-solid : (w : List ℕ) → OneType w → Solid w
type-solid w h = (all_map (λ b. is_type b ≡ true) NoSlash w type-slash h.0, h.1)

sign-slash : (g : Bool) (b : ℕ) → b ≡ sign_byte g → NoSlash b
sign-slash true b e f = omega arith
sign-slash false b e f = omega arith

letter-slash : (b : ℕ) → Letter b → NoSlash b
letter-slash b (blank e) f = omega arith
letter-slash b (digit d l e) f = omega arith
letter-slash b (point e) f = omega arith
letter-slash b (sign g e) f = sign-slash g b e f
letter-slash b (mark e) f = omega arith

pub numeral-some : (l : List ℕ) → Numeral l → 1 ≤ length l
numeral-some [] n = absurd (none-numeral n)
numeral-some (b ∷ l) n = omega arith

pub numeral-solid : (w : List ℕ) → Numeral w → Solid w
numeral-solid w n = (all_map Letter NoSlash w letter-slash (numeral-letters w n), numeral-some w n)

pub types-once : TypesOnce
types-once ws h = words-once ws (all_map OneType Solid ws type-solid h)

pub energies-once : EnergiesOnce
energies-once ws h = words-once ws (all_map Numeral Solid ws numeral-solid h)
