-- A text is one code only: commas and hyphens cut it in one way.
-- Assumes nothing.
use mathlib.Core.Path.{◌≡◌, refl, sym, ap, ◌∙◌, subst}
use mathlib.Core.List.{List, [], ◌∷◌, ◌++◌, append_assoc}
use mathlib.Core.Logic.{◌⊎◌, inl, inr}
use Prim.Native.Nat.{ℕ, zero, suc, ◌+◌, ◌≤◌}
use native.Mathlib.Omega.{arith}
use lib.ListN.{length}
use Rattle.laws.specs.Walk.{All}
use Rattle.laws.proofs.Booleans.{differ}
use Rattle.paper_number.specs.Grammar.{blanks, Digits, digits_text}
use Rattle.paper_decay.specs.Code.{Isomer, unsaid, ground_state, metastable, first, second, isomer_text, Nuclide, nuclide_text}
use Rattle.paper_decay.specs.Code.{Capital, GoodNuclide, Sort, after, Place, places_text, Fits, EmptyOr, Fitting}
use Rattle.paper_decay.specs.Code.{Code, flag_text, write, Good}
use Rattle.paper_decay.specs.Claims.{SpeltOnce}
use Rattle.paper_decay.proofs.Cuts.{Stops, no-first, cut-once, Blank, blanks-once, Figure, digits-once}
use Rattle.paper_decay.proofs.Inside.{Inside, fits-inside}

-- ---- what stands behind the nuclide begins with a comma or a closing parenthesis

abbrev Low : List ℕ → Type 0
Low [] = ⊥
Low (x ∷ r) = (x ≡ 41) ⊎ (x ≡ 44)

abbrev pub rest : List Place → List ℕ
rest ps = places_text ps ++ (41 ∷ [])

rest-low : (ps : List Place) → Low (rest ps)
rest-low [] = inl refl
rest-low (p ∷ ps) = inr refl

low-stops : (P : ℕ → Type 0) → (P 41 → ⊥) → (P 44 → ⊥) → (r : List ℕ) → Low r → Stops P r
low-stops P h k [] l = tt
low-stops P h k (x ∷ r) (inl e) = λ p. h (subst P e p)
low-stops P h k (x ∷ r) (inr e) = λ p. k (subst P e p)

-- ---- the places

-- each place has the characters of a field
abbrev Apart : List Place → Type 0
Apart ps = All (λ (p : Place). All Inside p.said) ps

fitting-apart : (s : Sort) (ps : List Place) → Fitting s ps → Apart ps
fitting-apart s [] h = tt
fitting-apart s (p ∷ ps) h = (by_said h.0, fitting-apart (after s) ps h.1)
  where
    by_said : EmptyOr (Fits s) p.said → All Inside p.said
    by_said (inl e) = subst (All Inside) (sym e) tt
    by_said (inr f) = fits-inside s p.said f

-- a field does not begin with a blank, nor does what follows
said-stops : (l : List ℕ) (ps : List Place) → All Inside l → Stops Blank (l ++ rest ps)
said-stops [] ps h = low-stops Blank (λ e. omega arith) (λ e. omega arith) (rest ps) (rest-low ps)
said-stops (b ∷ l) ps h = h.0.0

rest-stops : (ps : List Place) → Stops Inside (rest ps)
rest-stops ps = low-stops Inside (λ p. p.1.0 refl) (λ p. p.1.1 refl) (rest ps) (rest-low ps)

pub rest-cut : (p : Place) (ps : List Place) → rest (p ∷ ps) ≡ 44 ∷ (blanks p.lead ++ (p.said ++ rest ps))
rest-cut p ps =
    ap (λ (l : List ℕ). 44 ∷ l)
    (append_assoc (blanks p.lead) (p.said ++ places_text ps) (41 ∷ [])
    ∙ ap (λ (l : List ℕ). blanks p.lead ++ l) (append_assoc p.said (places_text ps) (41 ∷ [])))

places-once : (ps qs : List Place) → Apart ps → Apart qs → rest ps ≡ rest qs → ps ≡ qs
places-once [] [] h k e = refl
places-once [] (q ∷ qs) h k e =
    let f : 41 ∷ [] ≡ 44 ∷ (blanks q.lead ++ (q.said ++ rest qs)) = e ∙ rest-cut q qs in
    let z : ◌≡◌ {A = ℕ} 41 44 = cc in
    absurd (omega arith)
places-once (p ∷ ps) [] h k e =
    let f : 44 ∷ (blanks p.lead ++ (p.said ++ rest ps)) ≡ 41 ∷ [] = sym (rest-cut p ps) ∙ e in
    let z : ◌≡◌ {A = ℕ} 44 41 = cc in
    absurd (omega arith)
places-once (p ∷ ps) (q ∷ qs) h k e =
    let f : 44 ∷ (blanks p.lead ++ (p.said ++ rest ps)) ≡ 44 ∷ (blanks q.lead ++ (q.said ++ rest qs)) =
    sym (rest-cut p ps) ∙ e ∙ rest-cut q qs in
    let g : blanks p.lead ++ (p.said ++ rest ps) ≡ blanks q.lead ++ (q.said ++ rest qs) = cc in
    let (x, y) = blanks-once p.lead q.lead (p.said ++ rest ps) (q.said ++ rest qs) (said-stops p.said ps h.0)
    (said-stops q.said qs k.0) g in
    let (u, v) = cut-once Inside p.said q.said (rest ps) (rest qs) h.0 k.0 (rest-stops ps) (rest-stops qs) y in
    same-cons p q ps qs x u (places-once ps qs h.1 k.1 v)
  where
    same-cons : (p q : Place) (ps qs : List Place) → p.lead ≡ q.lead → p.said ≡ q.said → ps ≡ qs
        → ◌≡◌ {A = List Place} (p ∷ ps) (q ∷ qs)
    same-cons p q ps qs x u v = λ i. record { lead = x i; said = u i } ∷ v i

-- no such character is a hyphen or a digit
not-from-45 : (x n : ℕ) → 45 ≤ n → (x ≡ 41) ⊎ (x ≡ 44) → x ≡ n → ⊥
not-from-45 x n h (inl e) z = omega arith
not-from-45 x n h (inr e) z = omega arith

not-45 : (x : ℕ) → (x ≡ 41) ⊎ (x ≡ 44) → x ≡ 45 → ⊥
not-45 x h z = not-from-45 x 45 (omega arith) h z

not-49 : (x : ℕ) → (x ≡ 41) ⊎ (x ≡ 44) → x ≡ 49 → ⊥
not-49 x h z = not-from-45 x 49 (omega arith) h z

not-50 : (x : ℕ) → (x ≡ 41) ⊎ (x ≡ 44) → x ≡ 50 → ⊥
not-50 x h z = not-from-45 x 50 (omega arith) h z

-- ---- the isomer

isomer-once : (x y : Isomer) (r s : List ℕ) → Low r → Low s → isomer_text x ++ r ≡ isomer_text y ++ s → (x ≡ y) × (r ≡ s)
isomer-once x y [] s hr hs e = absurd hr
isomer-once x y (p ∷ r) [] hr hs e = absurd hs
isomer-once unsaid unsaid (p ∷ r) (q ∷ s) hr hs e = (refl, e)
isomer-once unsaid ground_state (p ∷ r) (q ∷ s) hr hs e = let z : p ≡ 45 = cc in absurd (not-45 p hr z)
isomer-once unsaid metastable (p ∷ r) (q ∷ s) hr hs e = let z : p ≡ 45 = cc in absurd (not-45 p hr z)
isomer-once unsaid first (p ∷ r) (q ∷ s) hr hs e = let z : p ≡ 45 = cc in absurd (not-45 p hr z)
isomer-once unsaid second (p ∷ r) (q ∷ s) hr hs e = let z : p ≡ 45 = cc in absurd (not-45 p hr z)
isomer-once ground_state unsaid (p ∷ r) (q ∷ s) hr hs e = let z : q ≡ 45 = cc in absurd (not-45 q hs z)
isomer-once ground_state ground_state (p ∷ r) (q ∷ s) hr hs e = (refl, cc)
isomer-once ground_state metastable (p ∷ r) (q ∷ s) hr hs e = let z : ◌≡◌ {A = ℕ} 71 77 = cc in absurd (omega arith)
isomer-once ground_state first (p ∷ r) (q ∷ s) hr hs e = let z : ◌≡◌ {A = ℕ} 71 77 = cc in absurd (omega arith)
isomer-once ground_state second (p ∷ r) (q ∷ s) hr hs e = let z : ◌≡◌ {A = ℕ} 71 77 = cc in absurd (omega arith)
isomer-once metastable unsaid (p ∷ r) (q ∷ s) hr hs e = let z : q ≡ 45 = cc in absurd (not-45 q hs z)
isomer-once metastable ground_state (p ∷ r) (q ∷ s) hr hs e = let z : ◌≡◌ {A = ℕ} 77 71 = cc in absurd (omega arith)
isomer-once metastable metastable (p ∷ r) (q ∷ s) hr hs e = (refl, cc)
isomer-once metastable first (p ∷ r) (q ∷ s) hr hs e = let z : p ≡ 49 = cc in absurd (not-49 p hr z)
isomer-once metastable second (p ∷ r) (q ∷ s) hr hs e = let z : p ≡ 50 = cc in absurd (not-50 p hr z)
isomer-once first unsaid (p ∷ r) (q ∷ s) hr hs e = let z : q ≡ 45 = cc in absurd (not-45 q hs z)
isomer-once first ground_state (p ∷ r) (q ∷ s) hr hs e = let z : ◌≡◌ {A = ℕ} 77 71 = cc in absurd (omega arith)
isomer-once first metastable (p ∷ r) (q ∷ s) hr hs e = let z : q ≡ 49 = cc in absurd (not-49 q hs z)
isomer-once first first (p ∷ r) (q ∷ s) hr hs e = (refl, cc)
isomer-once first second (p ∷ r) (q ∷ s) hr hs e = let z : ◌≡◌ {A = ℕ} 49 50 = cc in absurd (omega arith)
isomer-once second unsaid (p ∷ r) (q ∷ s) hr hs e = let z : q ≡ 45 = cc in absurd (not-45 q hs z)
isomer-once second ground_state (p ∷ r) (q ∷ s) hr hs e = let z : ◌≡◌ {A = ℕ} 77 71 = cc in absurd (omega arith)
isomer-once second metastable (p ∷ r) (q ∷ s) hr hs e = let z : q ≡ 50 = cc in absurd (not-50 q hs z)
isomer-once second first (p ∷ r) (q ∷ s) hr hs e = let z : ◌≡◌ {A = ℕ} 50 49 = cc in absurd (omega arith)
isomer-once second second (p ∷ r) (q ∷ s) hr hs e = (refl, cc)

isomer-stops : (x : Isomer) (r : List ℕ) → Low r → Stops Figure (isomer_text x ++ r)
isomer-stops unsaid r h = low-stops Figure (λ p. omega (arith, p.0)) (λ p. omega (arith, p.0)) r h
isomer-stops ground_state r h = λ p. omega (arith, p.0)
isomer-stops metastable r h = λ p. omega (arith, p.0)
isomer-stops first r h = λ p. omega (arith, p.0)
isomer-stops second r h = λ p. omega (arith, p.0)

-- ---- the nuclide

-- its characters and what follows, bracketed to the right
abbrev pub nuclide_then : Nuclide → List ℕ → List ℕ
nuclide_then n r = digits_text n.z ++ (45 ∷ (n.symbol ++ (45 ∷ (digits_text n.a ++ (isomer_text n.isomer ++ r)))))

nuclide-cut : (n : Nuclide) (r : List ℕ) → nuclide_text n ++ r ≡ nuclide_then n r
nuclide-cut n r =
    append_assoc (digits_text n.z) (45 ∷ (n.symbol ++ (45 ∷ (digits_text n.a ++ isomer_text n.isomer)))) r
    ∙ ap (λ (l : List ℕ). digits_text n.z ++ (45 ∷ l))
    (append_assoc n.symbol (45 ∷ (digits_text n.a ++ isomer_text n.isomer)) r
    ∙ ap (λ (l : List ℕ). n.symbol ++ (45 ∷ l)) (append_assoc (digits_text n.a) (isomer_text n.isomer) r))

hyphen-capital : Capital 45 → ⊥
hyphen-capital e = differ (sym e)

nuclide-once : (m n : Nuclide) (r s : List ℕ) → GoodNuclide m → GoodNuclide n → Low r → Low s
    → nuclide_then m r ≡ nuclide_then n s → (m ≡ n) × (r ≡ s)
nuclide-once m n r s gm gn hr hs e =
    let am = digits_text m.a ++ (isomer_text m.isomer ++ r) in
    let an = digits_text n.a ++ (isomer_text n.isomer ++ s) in
    let (z, f) = digits-once m.z n.z (45 ∷ (m.symbol ++ (45 ∷ am))) (45 ∷ (n.symbol ++ (45 ∷ an)))
    gm.z.digits gn.z.digits (λ p. omega (arith, p.0)) (λ p. omega (arith, p.0)) e in
    let f₁ : m.symbol ++ (45 ∷ am) ≡ n.symbol ++ (45 ∷ an) = cc in
    let (y, g) = cut-once Capital m.symbol n.symbol (45 ∷ am) (45 ∷ an) gm.symbol gn.symbol
    hyphen-capital hyphen-capital f₁ in
    let g₁ : am ≡ an = cc in
    let (a, h) = digits-once m.a n.a (isomer_text m.isomer ++ r) (isomer_text n.isomer ++ s)
    gm.a.digits gn.a.digits (isomer-stops m.isomer r hr) (isomer-stops n.isomer s hs) g₁ in
    let (x, k) = isomer-once m.isomer n.isomer r s hr hs h in
    (λ i. record { z = z i; symbol = y i; a = a i; isomer = x i }, k)

-- ---- before the nuclide

-- it begins with a digit
pub first-digit : (ds r : List ℕ) (P : ℕ → Type 0) → 1 ≤ length ds → ((d : ℕ) → P (48 + d) → ⊥) → Stops P (digits_text ds ++ r)
first-digit [] r P h f = absurd (omega arith)
first-digit (d ∷ ds) r P h f = f d

unfoldable pub core : Code → List ℕ
core c = blanks c.lead ++ nuclide_then c.nuclide (rest c.places)

open-stops : (n : ℕ) (l : List ℕ) → Stops (λ b. b ≡ 40) l → Stops (λ b. b ≡ 40) (blanks n ++ l)
open-stops zero l h = h
open-stops (suc n) l h = λ e. omega arith

pub core-stops : (c : Code) → Good c → Stops (λ b. b ≡ 40) (core c)
unfolding core
core-stops c g =
    open-stops c.lead (nuclide_then c.nuclide (rest c.places))
    (first-digit c.nuclide.z _ (λ b. b ≡ 40) g.nuclide.z.some (λ d e. omega arith))

core-once : (c d : Code) → Good c → Good d → core c ≡ core d
    → (c.lead ≡ d.lead) × ((c.nuclide ≡ d.nuclide) × (c.places ≡ d.places))
unfolding core
core-once c d g h e =
    let rc = rest c.places in
    let rd = rest d.places in
    let (l, f) = blanks-once c.lead d.lead (nuclide_then c.nuclide rc) (nuclide_then d.nuclide rd)
    (first-digit c.nuclide.z _ Blank g.nuclide.z.some (λ k q. omega arith))
    (first-digit d.nuclide.z _ Blank h.nuclide.z.some (λ k q. omega arith)) e in
    let (n, k) = nuclide-once c.nuclide d.nuclide rc rd g.nuclide h.nuclide (rest-low c.places)
    (rest-low d.places) f in (
      l,
      (
        n,
        places-once c.places d.places (fitting-apart _ c.places g.places.fitting)
            (fitting-apart _ d.places h.places.fitting) k,
      ),
    )

-- ---- the flag

unfoldable pub flag_then : List ℕ → List ℕ → List ℕ
flag_then [] r = r
flag_then (d ∷ ds) r = 40 ∷ (digits_text (d ∷ ds) ++ (46 ∷ 41 ∷ r))

flag-cut : (f r : List ℕ) → flag_text f ++ r ≡ flag_then f r
unfolding flag_then
flag-cut [] r = refl
flag-cut (d ∷ ds) r = ap (λ (l : List ℕ). 40 ∷ l) (append_assoc (digits_text (d ∷ ds)) (46 ∷ 41 ∷ []) r)

flag-once : (f g r s : List ℕ) → Digits f → Digits g → Stops (λ b. b ≡ 40) r → Stops (λ b. b ≡ 40) s
    → flag_then f r ≡ flag_then g s → (f ≡ g) × (r ≡ s)
unfolding flag_then
flag-once [] [] r s hf hg hr hs e = (refl, e)
flag-once [] (d ∷ ds) [] s hf hg hr hs e = no-first 40 _ e
flag-once [] (d ∷ ds) (x ∷ r) s hf hg hr hs e = let z : x ≡ 40 = cc in absurd (hr z)
flag-once (d ∷ ds) [] r [] hf hg hr hs e = no-first 40 _ (sym e)
flag-once (d ∷ ds) [] r (y ∷ s) hf hg hr hs e = let z : y ≡ 40 = cc in absurd (hs z)
flag-once (d ∷ ds) (c ∷ cs) r s hf hg hr hs e =
    let k : digits_text (d ∷ ds) ++ (46 ∷ 41 ∷ r) ≡ digits_text (c ∷ cs) ++ (46 ∷ 41 ∷ s) = cc in
    let (p, q) = digits-once (d ∷ ds) (c ∷ cs) (46 ∷ 41 ∷ r) (46 ∷ 41 ∷ s) hf hg (λ p. omega (arith, p.0))
    (λ p. omega (arith, p.0)) k in
    (p, cc)

-- ---- the law

pub write-cut : (c : Code) → write c ≡ 40 ∷ flag_then c.flag (core c)
unfolding write core
write-cut c =
    ap (λ (l : List ℕ). 40 ∷ l)
    (ap (λ (l : List ℕ). flag_text c.flag ++ (blanks c.lead ++ l)) (nuclide-cut c.nuclide (rest c.places))
    ∙ flag-cut c.flag (blanks c.lead ++ nuclide_then c.nuclide (rest c.places)))

pub spelt-once : SpeltOnce
spelt-once l c d x y =
    let e : 40 ∷ flag_then c.flag (core c) ≡ 40 ∷ flag_then d.flag (core d) =
    sym (write-cut c) ∙ x.same ∙ sym y.same ∙ write-cut d in
    let f : flag_then c.flag (core c) ≡ flag_then d.flag (core d) = cc in
    let (p, q) = flag-once c.flag d.flag (core c) (core d) x.good.flag y.good.flag (core-stops c x.good)
    (core-stops d y.good) f in
    let (u, (v, w)) = core-once c d x.good y.good q in
    λ i. record { flag = p i; lead = u i; nuclide = v i; places = w i }
