-- The search hands back the first place with an equal heading, and nothing where there is none.
-- Assumes nothing.
use Prim.Native.Nat.{ℕ, ◌+◌, ◌-◌, ◌<◌, ◌≤◌}
use Rattle.std.specs.Prelude.{Option, Some, None}
use mathlib.Core.Path.{◌≡◌, refl, sym, ◌∙◌, ap, subst}
use mathlib.Core.Bool.{Bool, true, false}
use mathlib.Core.List.{List, []}
use mathlib.Core.Logic.{inl, inr}
use native.Mathlib.Omega.{arith}
use lib.ListN.{length, get_or}
use Rattle.laws.proofs.Booleans.{differ}
use Rattle.laws.proofs.Search.{either}
use Rattle.paper_record.proofs.PlainColumns.{equal-exactly}
use Rattle.paper_rules.specs.Record.{Record}
use Rattle.paper_rules.specs.declared.types.HeadingPlace.{HeadingPlace}
use Rattle.paper_rules.specs.Earlier.{place_at, equal_heading}
use Rattle.rules_plain.specs.Repeated.{RecordsBefore, headings_on, table_so_far}
use Rattle.rules_plain.specs.Found.{headings_of_section, EqualAt, Sooner, FirstEqual, searched, FoundExactly}
use Rattle.rules_plain.specs.Found.{NothingExactly}
use Rattle.rules_plain.proofs.SearchEnd.{NoneIn, FirstIn, SearchEnd, in-first, in-second, in-third, in-none}
use Rattle.rules_plain.proofs.SearchEnd.{search-end}

abbrev is_found : Option HeadingPlace → Bool
is_found (Some place) = true
is_found None = false

abbrev section_in : Option HeadingPlace → ℕ
section_in (Some place) = place.section
section_in None = 0

abbrev column_in : Option HeadingPlace → ℕ
column_in (Some place) = place.column
column_in None = 0

module _ (f : List ℕ) (b : RecordsBefore) (r : Record) (k : ℕ) where
  abbrev Equal : ℕ → ℕ → Type 0
  Equal section column = EqualAt f b r k section column

  abbrev First : ℕ → ℕ → Type 0
  First section column = FirstEqual f b r k section column

  -- ---- one section

  equal-at : (s m : ℕ) → 1 ≤ s → s ≤ 3 → FirstIn f (headings_of_section b r k s) m → Equal s (m + 1)
  equal-at s m from to h =
      let l = h.there in
      let z : m + 1 - 1 ≡ m = omega arith in
      record {
        section_from = from;
        section_to = to;
        column_from = omega arith;
        column_to = omega arith;
        same = rw z ((equal-exactly 11 f (get_or (headings_of_section b r k s) m [])).0 h.equal);
      }

  none_equal : (s n : ℕ) → NoneIn f (headings_of_section b r k s) n → (c : ℕ) → c ≤ n → Equal s c → ⊥
  none_equal s n h c l e =
      let p = e.column_from in
      let x : List ℕ = get_or (headings_of_section b r k s) (c - 1) [] in
      differ (sym ((equal-exactly 11 f x).1 e.same) ∙ h (c - 1) (omega arith))

  abbrev NoneThere : ℕ → Type 0
  NoneThere s = NoneIn f (headings_of_section b r k s) (length (headings_of_section b r k s))

  none-there : (s : ℕ) → NoneThere s → (c : ℕ) → Equal s c → ⊥
  none-there s h c e = none_equal s (length (headings_of_section b r k s)) h c e.column_to e

  -- ---- section by section

  first-equal : (s m : ℕ) → 1 ≤ s → s ≤ 3 → ((q : ℕ) → 1 ≤ q → q < s → NoneThere q)
      → FirstIn f (headings_of_section b r k s) m → First s (m + 1)
  first-equal s m from to before h = record { equal = equal-at s m from to h; first = no-sooner }
    where
      no-sooner : (q c : ℕ) → Sooner q c s (m + 1) → Equal q c → ⊥
      no-sooner q c (inl l) e = none-there q (before q e.section_from l) c e
      no-sooner q c (inr p) e =
          let l = p.1 in
          none_equal s m h.none c (omega arith) (subst (λ (x : ℕ). Equal x c) p.0 e)

  -- two first places are one
  one-first : (s c q d : ℕ) → First s c → First q d → (s ≡ q) × (c ≡ d)
  one-first s c q d g h =
      either s q (λ l. absurd (h.first s c (inl l) g.equal))
      (λ l. either q s (λ m. absurd (g.first q d (inl m) h.equal))
      (λ m. let z : s ≡ q = omega arith in (z, same-column z)))
    where
      same-column : s ≡ q → c ≡ d
      same-column z =
          either c d (λ l. absurd (h.first s c (inr (z, l)) g.equal))
          (λ l. either d c (λ m. absurd (g.first q d (inr (sym z, m)) h.equal)) (λ m. omega arith))

  -- ---- what the search hands back

  data Said : Option HeadingPlace → Type 0 where
    said-first : (s c : ℕ) → First s c → Said (Some (place_at s c))
    said-nothing : ((s c : ℕ) → Equal s c → ⊥) → Said None

  said : (found : Option HeadingPlace) → SearchEnd f (headings_on b.common001) (headings_on b.common) (table_so_far b r k) found
      → Said found
  said found (in-first m h) =
      said-first 1 (m + 1) (first-equal 1 m (omega arith) (omega arith) (λ q a l. absurd (omega arith)) h)
  said found (in-second n m h) =
      said-first 2 (m + 1)
      (first-equal 2 m (omega arith) (omega arith) (λ q a l. let z : 1 ≡ q = omega arith in subst NoneThere z n) h)
  said found (in-third n p m h) =
      said-first 3 (m + 1)
      (first-equal 3 m (omega arith) (omega arith)
      (λ q a l.
      either q 2 (λ m. let z : 1 ≡ q = omega arith in subst NoneThere z n)
      (λ m. let z : 2 ≡ q = omega arith in subst NoneThere z p)) h)
  said found (in-none n p o) =
      said-nothing
      (λ q c e.
      let a = e.section_from in
      let l = e.section_to in
      none-there q
      (either q 2 (λ m. let z : 1 ≡ q = omega arith in subst NoneThere z n)
      (λ m.
      either q 3 (λ l. let z : 2 ≡ q = omega arith in subst NoneThere z p)
      (λ m. let z : 3 ≡ q = omega arith in subst NoneThere z o))) c e)

  said_at : (found : Option HeadingPlace) → Said found → (s c : ℕ) → found ≡ Some (place_at s c) → First s c
  said_at found (said-first q d h) s c e =
      subst (λ (x : ℕ). First s x) (ap column_in e) (subst (λ (x : ℕ). First x d) (ap section_in e) h)
  said_at found (said-nothing n) s c e = differ (sym (ap is_found e))

  at-said : (found : Option HeadingPlace) → Said found → (s c : ℕ) → First s c → found ≡ Some (place_at s c)
  at-said found (said-first q d h) s c g = let (x, y) = one-first q d s c h g in rw (x, y)
  at-said found (said-nothing n) s c g = absurd (n s c g.equal)

  said-none : (found : Option HeadingPlace) → Said found → found ≡ None → (s c : ℕ) → Equal s c → ⊥
  said-none found (said-first q d h) e = differ (ap is_found e)
  said-none found (said-nothing n) e = n

  none_said : (found : Option HeadingPlace) → Said found → ((s c : ℕ) → Equal s c → ⊥) → found ≡ None
  none_said found (said-first q d h) n = absurd (n q d h.equal)
  none_said found (said-nothing n) g = refl

pub found-exactly : FoundExactly
found-exactly f b r k long few s c =
    let x = equal_heading f (searched b r k) in
    let h = said f b r k x (search-end f b r k long few) in
    (said_at f b r k x h s c, at-said f b r k x h s c)

pub nothing-exactly : NothingExactly
nothing-exactly f b r k long few =
    let x = equal_heading f (searched b r k) in
    let h = said f b r k x (search-end f b r k long few) in
    (said-none f b r k x h, none_said f b r k x h)
