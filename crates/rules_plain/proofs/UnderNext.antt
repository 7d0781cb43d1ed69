-- The records under the keyword in hand, one text record further on.
-- Assumes nothing.
use Prim.Native.Nat.{ℕ, ◌+◌, ◌<◌}
use mathlib.Core.Path.{◌≡◌, sym, ◌∙◌, ap, subst}
use mathlib.Core.List.{List, [], ◌∷◌, ◌++◌}
use native.Mathlib.Omega.{arith}
use lib.ListN.{length, length-append, get_or-append}
use lib.Seq.{drop-append-le, drop-append_seam, get_or-append_seam}
use Rattle.laws.proofs.Search.{either}
use Rattle.paper_rules.specs.Record.{Record}
use Rattle.rules_plain.specs.Texts.{NoKeyword, earlier, UnderKeyword, from_keyword, no_keyword}

-- before the first
pub under_none : UnderKeyword [] []
under_none = no_keyword (λ m l. absurd (omega arith))

module _ (rs : List Record) (r : Record) where
  one_more : length (rs ++ (r ∷ [])) ≡ length rs + 1
  one_more = length-append rs (r ∷ [])

  kept : (m : ℕ) → m < length rs → earlier (rs ++ (r ∷ [])) m ≡ earlier rs m
  kept m l = get_or-append rs (r ∷ []) [] m l

  -- what holds of those before and of the new one
  each : (P : Record → Type 0) (m : ℕ) → (m < length rs → P (earlier rs m)) → P r → m < length (rs ++ (r ∷ []))
      → P (earlier (rs ++ (r ∷ [])) m)
  each P m old new l =
      let n = one_more in
      either m (length rs) (λ a. subst P (sym (kept m a)) (old a))
      (λ a.
      let e : m ≡ length rs = omega arith in
      subst P (sym (ap (λ (k : ℕ). earlier (rs ++ (r ∷ [])) k) e ∙ get_or-append_seam rs r [] [])) new)

  -- without a keyword it joins them
  pub under-joins : (under : List Record) → UnderKeyword rs under → NoKeyword r
      → UnderKeyword (rs ++ (r ∷ [])) (under ++ (r ∷ []))
  under-joins under (from_keyword k l n behind) blank =
      let o = one_more in
      subst (λ (u : List Record). UnderKeyword (rs ++ (r ∷ [])) u) (drop-append-le k rs (r ∷ []) (omega arith))
      (from_keyword k (omega arith) (λ b. n (subst NoKeyword (kept k l) b))
      (λ m a b. each NoKeyword m (λ c. behind m a c) blank b))
  under-joins under (no_keyword all) blank = no_keyword (λ m l. each NoKeyword m (all m) blank l)

  -- with one it begins them anew
  pub under-begins : (NoKeyword r → ⊥) → UnderKeyword (rs ++ (r ∷ [])) (r ∷ [])
  under-begins n =
      let o = one_more in
      subst (λ (u : List Record). UnderKeyword (rs ++ (r ∷ [])) u) (drop-append_seam rs (r ∷ []))
      (from_keyword (length rs) (omega arith) (λ b. n (subst NoKeyword (get_or-append_seam rs r [] []) b))
      (λ m a b. absurd (omega arith)))
