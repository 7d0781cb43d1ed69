-- What a faithful copy cannot change: the way through the contexts, the result, the marks. A list and its copy are gone
-- over in the SAME contexts, which is why each law is a short induction.
-- Rests on the laws of the machine and the copy (`Faithful`) that stand in the parameters.
use Prim.Native.Nat.{ℕ, zero, suc, ◌+◌, ◌*◌, ◌<◌}
use mathlib.Core.Path.{◌≡◌, refl, sym, ◌∙◌, ap}
use mathlib.Core.List.{List, [], ◌∷◌}
use native.Mathlib.Omega.{arith}
use lib.ListN.{length, get_or}
use Rattle.laws.specs.Turns.{Turn, go, out}
use Rattle.laws.specs.Walk.{walk, Goes, All}
use Rattle.laws.specs.Blocks.{blocks, joined}
use Rattle.laws.specs.Copies.{onward, copies, marks, Alikes, Passing, Faithful}
use Rattle.laws.proofs.Walk.{goes-walk}
use Rattle.laws.proofs.Blocks.{blocks-joined, length-joined, blocks-wide, length-blocks}

heads : {A : Type 0} {x y : A} {xs ys : List A} → x ∷ xs ≡ y ∷ ys → x ≡ y
heads e = cc

tails : {A : Type 0} {x y : A} {xs ys : List A} → x ∷ xs ≡ y ∷ ys → xs ≡ ys
tails e = cc

nil-cons : {A : Type 0} {x : A} {xs : List A} → [] ≡ x ∷ xs → ⊥
nil-cons e = let z : ◌≡◌ {A = ℕ} 0 1 = cc in omega arith

-- ---- marks

module _ {A C R M : Type 0} (turn : C → ℕ → A → Turn C R) (mark : C → A → M) where
  pub length-marks : (c : C) (i : ℕ) (rs : List A) (z : C) → Goes turn c i rs z
      → length (marks turn mark c i rs) ≡ length rs
  unfolding marks
  length-marks c i [] z g = refl
  length-marks c i (r ∷ rs) z g = rw g.1 (ap suc (length-marks g.0 (i + 1) rs z g.2))

  -- a property of each mark
  pub marks-each : (P : M → Type 0) → ((c : C) (r : A) → P (mark c r)) → (c : C) (i : ℕ) (rs : List A)
      → All P (marks turn mark c i rs)
  unfolding marks
  marks-each P h c i [] = tt
  marks-each P h c i (r ∷ rs) = (h c r, by_turn (turn c i r) (λ d. marks-each P h d (i + 1) rs))
    where
      by_turn : (t : Turn C R) → ((d : C) → All P (marks turn mark d (i + 1) rs))
          → All P (onward {B = List M} t (λ d. marks turn mark d (i + 1) rs) [])
      by_turn (go d) next = next d
      by_turn (out v) next = tt

  -- what holds of each element from which a turn goes on, by its mark
  pub marks-hold : (P : M → A → Type 0) → Passing turn (λ c i r d. P (mark c r) r)
      → (c : C) (i : ℕ) (rs : List A) (z : C) → Goes turn c i rs z
      → Alikes (λ m r t. P m r) (marks turn mark c i rs) rs rs
  unfolding marks
  marks-hold P h c i [] z g = tt
  marks-hold P h c i (r ∷ rs) z g = rw g.1 (h c i r g.0 g.1, marks-hold P h g.0 (i + 1) rs z g.2)

-- ---- lists of records

module _ {C R M : Type 0} {turn : C → ℕ → List ℕ → Turn C R} {copy : C → List ℕ → List ℕ}
    {mark : C → List ℕ → M} {alike : M → List ℕ → List ℕ → Type 0} (faithful : Faithful turn copy mark alike) where
  -- the copy goes through the same contexts
  pub copies-go : (c : C) (i : ℕ) (rs : List (List ℕ)) (z : C) → Goes turn c i rs z
      → Goes turn c i (copies turn copy c i rs) z
  unfolding copies
  copies-go c i [] z g = g
  copies-go c i (r ∷ rs) z g =
      rw g.1 (g.0, faithful.keeps c i r g.0 g.1, copies-go g.0 (i + 1) rs z g.2)

  -- and comes to the same result
  pub copies-walk : (end : C → R) (c : C) (i : ℕ) (rs : List (List ℕ)) (z : C) → Goes turn c i rs z
      → walk turn end c i (copies turn copy c i rs) ≡ walk turn end c i rs
  copies-walk end c i rs z g =
      goes-walk turn end c i (copies turn copy c i rs) z (copies-go c i rs z g) ∙ sym (goes-walk turn end c i rs z g)

  pub length-copies : (c : C) (i : ℕ) (rs : List (List ℕ)) (z : C) → Goes turn c i rs z
      → length (copies turn copy c i rs) ≡ length rs
  unfolding copies
  length-copies c i [] z g = refl
  length-copies c i (r ∷ rs) z g = rw g.1 (ap suc (length-copies g.0 (i + 1) rs z g.2))

  pub copies-wide : (w : ℕ) (c : C) (i : ℕ) (rs : List (List ℕ)) (z : C) → Goes turn c i rs z
      → All (λ r. length r ≡ w) rs → All (λ r. length r ≡ w) (copies turn copy c i rs)
  unfolding copies
  copies-wide w c i [] z g h = tt
  copies-wide w c i (r ∷ rs) z g h =
      rw g.1
      (faithful.size c i r g.0 g.1 ∙ h.0, copies-wide w g.0 (i + 1) rs z g.2 h.1)

  -- another mark that the copy of a record keeps
  pub copies-marks : {N : Type 0} (note : C → List ℕ → N) → Passing turn (λ c i r d. note c (copy c r) ≡ note c r)
      → (c : C) (i : ℕ) (rs : List (List ℕ)) (z : C) → Goes turn c i rs z
      → marks turn note c i (copies turn copy c i rs) ≡ marks turn note c i rs
  unfolding copies marks
  copies-marks note h c i [] z g = refl
  copies-marks note h c i (r ∷ rs) z g =
      rw g.1
      (rw (faithful.keeps c i r g.0 g.1)
      (rw (h c i r g.0 g.1, copies-marks note h g.0 (i + 1) rs z g.2)))

  -- what holds between the copy of each record and the record
  pub copies_at : (P : List ℕ → List ℕ → Type 0) → Passing turn (λ c i r d. P (copy c r) r)
      → (c : C) (i : ℕ) (rs : List (List ℕ)) (z : C) → Goes turn c i rs z
      → (j : ℕ) → j < length rs → P (get_or (copies turn copy c i rs) j []) (get_or rs j [])
  unfolding copies
  copies_at P h c i [] z g j l = absurd (omega arith)
  copies_at P h c i (r ∷ rs) z g zero l = h c i r g.0 g.1
  copies_at P h c i (r ∷ rs) z g (suc j) l = rw g.1 (copies_at P h g.0 (i + 1) rs z g.2 j (omega arith))

  -- the copy of the copy is the copy
  pub copies-twice : (c : C) (i : ℕ) (rs : List (List ℕ)) (z : C) → Goes turn c i rs z
      → copies turn copy c i (copies turn copy c i rs) ≡ copies turn copy c i rs
  unfolding copies
  copies-twice c i [] z g = refl
  copies-twice c i (r ∷ rs) z g =
      rw g.1
      (rw (faithful.keeps c i r g.0 g.1)
      (rw (faithful.once c i r g.0 g.1, copies-twice g.0 (i + 1) rs z g.2)))

  -- equal copies lead on to equal contexts, so two lists with one copy are gone over in one context
  next-same : (c : C) (i : ℕ) (r t : List ℕ) (d e : C) → turn c i r ≡ go d → turn c i t ≡ go e
      → copy c r ≡ copy c t → d ≡ e
  next-same c i r t d e p q h =
      let x : turn c i (copy c r) ≡ go d = faithful.keeps c i r d p in
      let y : turn c i (copy c t) ≡ go e = faithful.keeps c i t e q in
      let w : turn c i (copy c r) ≡ go e = rw h y in
      cc

  -- two lists whose elements have the same marks and are alike have one copy
  pub alike-copies : (c : C) (i : ℕ) (rs ts : List (List ℕ)) (z y : C) → Goes turn c i rs z → Goes turn c i ts y
      → marks turn mark c i rs ≡ marks turn mark c i ts → Alikes alike (marks turn mark c i rs) rs ts
      → copies turn copy c i rs ≡ copies turn copy c i ts
  unfolding copies marks
  alike-copies c i [] [] z y g h m a = refl
  alike-copies c i [] (t ∷ ts) z y g h m a = absurd a
  alike-copies c i (r ∷ rs) [] z y g h m a = absurd a
  alike-copies c i (r ∷ rs) (t ∷ ts) z y g h m a =
      let n : mark c r ∷ marks turn mark g.0 (i + 1) rs ≡ mark c t ∷ marks turn mark h.0 (i + 1) ts =
      rw (g.1, h.1) at m in
      let b : Alikes alike (marks turn mark g.0 (i + 1) rs) rs ts = rw g.1 at a.1 in
      let same : copy c r ≡ copy c t = faithful.one c i r t g.0 h.0 g.1 h.1 (heads n) a.0 in
      let next : g.0 ≡ h.0 = next-same c i r t g.0 h.0 g.1 h.1 same in
      let rest : copies turn copy g.0 (i + 1) rs ≡ copies turn copy g.0 (i + 1) ts =
      alike-copies g.0 (i + 1) rs ts z y g.2 (rw next h.2) (tails n ∙ rw next) b in
      rw (g.1, h.1, same, rest, next)

  -- and the other way round
  pub copies-alike : (c : C) (i : ℕ) (rs ts : List (List ℕ)) (z y : C) → Goes turn c i rs z → Goes turn c i ts y
      → copies turn copy c i rs ≡ copies turn copy c i ts
      → (marks turn mark c i rs ≡ marks turn mark c i ts) × Alikes alike (marks turn mark c i rs) rs ts
  unfolding copies marks
  copies-alike c i [] [] z y g h e = (refl, tt)
  copies-alike c i [] (t ∷ ts) z y g h e = absurd (nil-cons e)
  copies-alike c i (r ∷ rs) [] z y g h e = absurd (nil-cons (sym e))
  copies-alike c i (r ∷ rs) (t ∷ ts) z y g h e =
      let n : copy c r ∷ copies turn copy g.0 (i + 1) rs ≡ copy c t ∷ copies turn copy h.0 (i + 1) ts =
      rw (g.1, h.1) at e in
      let (m, a) = faithful.back c i r t g.0 h.0 g.1 h.1 (heads n) in
      let next : g.0 ≡ h.0 = next-same c i r t g.0 h.0 g.1 h.1 (heads n) in
      let (ms, bs) = copies-alike g.0 (i + 1) rs ts z y g.2 (rw next h.2) (tails n ∙ rw next) in
      rw (g.1, h.1) (rw (m, ms, next), (a, bs))

  -- ---- the same for n records of w bytes, one behind the other

  module _ (start : C) (w n : ℕ) where
    abbrev rows : List ℕ → List (List ℕ)
    rows s = blocks w n s

    abbrev copied : List ℕ → List ℕ
    copied s = joined (copies turn copy start 0 (rows s))

    module _ (s : List ℕ) (whole : length s ≡ n * w) (z : C) (goes : Goes turn start 0 (rows s) z) where
      wide : All (λ r. length r ≡ w) (copies turn copy start 0 (rows s))
      wide = copies-wide w start 0 (rows s) z goes (blocks-wide w n s whole)

      long : length (copies turn copy start 0 (rows s)) ≡ n
      long = length-copies start 0 (rows s) z goes ∙ length-blocks w n s

      pub rows-copied : blocks w n (joined (copies turn copy start 0 (blocks w n s)))
          ≡ copies turn copy start 0 (blocks w n s)
      rows-copied = rw long at (blocks-joined w (copies turn copy start 0 (rows s)) wide)

      pub length-copied : length (joined (copies turn copy start 0 (blocks w n s))) ≡ length s
      length-copied = length-joined w (copies turn copy start 0 (rows s)) wide ∙ rw (long, whole)

-- ---- by the index

module _ {A M : Type 0} (alike : M → A → A → Type 0) (m₀ : M) (a₀ : A) where
  pub alikes-at : (ms : List M) (rs ts : List A) → Alikes alike ms rs ts
      → (i : ℕ) → i < length ms → alike (get_or ms i m₀) (get_or rs i a₀) (get_or ts i a₀)
  alikes-at [] rs ts h i l = absurd (omega arith)
  alikes-at (m ∷ ms) [] ts h i l = absurd h
  alikes-at (m ∷ ms) (r ∷ rs) [] h i l = absurd h
  alikes-at (m ∷ ms) (r ∷ rs) (t ∷ ts) h zero l = h.0
  alikes-at (m ∷ ms) (r ∷ rs) (t ∷ ts) h (suc i) l = alikes-at ms rs ts h.1 i (omega arith)

  pub at-alikes : (ms : List M) (rs ts : List A) → length rs ≡ length ms → length ts ≡ length ms
      → ((i : ℕ) → i < length ms → alike (get_or ms i m₀) (get_or rs i a₀) (get_or ts i a₀)) → Alikes alike ms rs ts
  at-alikes [] [] [] p q h = tt
  at-alikes [] [] (t ∷ ts) p q h = absurd (omega arith)
  at-alikes [] (r ∷ rs) ts p q h = absurd (omega arith)
  at-alikes (m ∷ ms) [] ts p q h = absurd (omega arith)
  at-alikes (m ∷ ms) (r ∷ rs) [] p q h = absurd (omega arith)
  at-alikes (m ∷ ms) (r ∷ rs) (t ∷ ts) p q h =
      (h 0 (omega arith), at-alikes ms rs ts (omega arith) (omega arith) (λ i l. h (suc i) (omega arith)))
