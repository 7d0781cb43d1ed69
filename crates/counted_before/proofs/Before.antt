-- What the context holds of the last record of a kind: what that record says, and what is counted behind it.
-- Assumes nothing.
use Prim.Native.Nat.{ℕ, zero, suc, ◌+◌, ◌-◌, ◌<◌}
use mathlib.Core.Path.{◌≡◌, refl, ◌∙◌, ap, subst}
use mathlib.Core.Bool.{Bool, true, false, cond}
use mathlib.Core.List.{List}
use native.Mathlib.Omega.{arith}
use native.Mathlib.Numerals.{add-one}
use Rattle.laws.specs.Blocks.{block_at}
use Rattle.laws.proofs.Booleans.{either-as}
use Rattle.paper_record.specs.Fields.{fields_of, n1}
use Rattle.paper_record.specs.System.{subentry_of}
use Rattle.paper_rules.specs.Roles.{opens_subentry, opens_section}
use Rattle.paper_rules.specs.Counts.{count_n1}
use Rattle.paper_entry.specs.Next.{context_after}
use Rattle.paper_entry.specs.Contexts.{context_at, role_at}
use Rattle.counted_before.specs.Before.{is_bib, LastBefore, how_many, SectionBetween, SubentryBetween}
use Rattle.counted_before.specs.Before.{SubentriesBefore, KeywordsAnnounced, keyword_at, KeywordsMet, NumberBefore}
use Rattle.counted_before.specs.Before.{NoneBefore}
use Rattle.counted_before.proofs.OneRecord.{subentry-new, subentry-same, section-new, section-same, bib-new}
use Rattle.counted_before.proofs.OneRecord.{keywords-next, met_next}

-- ---- from the last record of a kind on

module _ (s : List ℕ) (kind : ℕ → Bool) (P : ℕ → Type 0)
    (next : (m : ℕ) → kind (role_at s m) ≡ false → P m → P (suc m)) where
  further : (j n : ℕ) → P (suc j) → ((m : ℕ) → j < m → m < suc (j + n) → kind (role_at s m) ≡ false)
      → P (suc (j + n))
  further j zero p h = let z : j ≡ j + 0 = omega arith in subst (λ (x : ℕ). P (suc x)) z p
  further j (suc n) p h =
      let z : suc (j + n) ≡ j + suc n = omega arith in
      subst (λ (x : ℕ). P (suc x)) z
      (next (suc (j + n)) (h (suc (j + n)) (omega arith) (omega arith))
      (further j n p (λ m a b. h m a (omega arith))))

  from_last : (i j : ℕ) → LastBefore kind s i j → P (suc j) → P i
  from_last i j l p =
      let b = l.before in
      let z : suc (j + (i - (j + 1))) ≡ i = omega arith in
      subst P z (further j (i - (j + 1)) p (λ m a c. l.last m a (omega arith)))

-- ---- 8

pub section-between : SectionBetween
unfolding context_at context_after
section-between s i j l =
    from_last s opens_section (λ m. j + 1 + (context_at s m).track.section ≡ m)
    (λ m k e.
    let f : (context_at s (suc m)).track.section ≡ (context_at s m).track.section + 1 = section-same _ _ _ _ k in
    omega arith) i j l
    (let f : (context_at s (suc j)).track.section ≡ 0 = section-new _ _ _ _ l.is in omega arith)

pub subentry-between : SubentryBetween
unfolding context_at context_after
subentry-between s i j l =
    from_last s opens_subentry (λ m. j + 1 + (context_at s m).track.subentry.records ≡ m)
    (λ m k e.
    let f : (context_at s (suc m)).track.subentry.records ≡ (context_at s m).track.subentry.records + 1 =
    (subentry-same _ _ _ _ k).records in
    omega arith) i j l
    (let f : (context_at s (suc j)).track.subentry.records ≡ 0 = (subentry-new _ _ _ _ l.is).records in omega arith)

pub subentries-before : SubentriesBefore
unfolding context_at context_after how_many
subentries-before s zero = refl
subentries-before s (suc i) =
    let t = (context_at s i).track in
    either-as (λ (x : ℕ). (context_at s (suc i)).track.totals.subentries ≡ x) (opens_subentry (role_at s i)) _ _
    (λ q. (subentry-new t _ _ _ q).total ∙ ap (λ (x : ℕ). x + 1) (subentries-before s i))
    (λ q. (subentry-same t _ _ _ q).total ∙ subentries-before s i)

pub keywords-announced : KeywordsAnnounced
unfolding context_at context_after
keywords-announced s i j l =
    from_last s is_bib (λ m. (context_at s m).track.bib.keywords ≡ count_n1 (fields_of (block_at 81 s j)))
    (λ m k e. keywords-next (context_at s m).track _ _ _ k ∙ e) i j l
    (bib-new (context_at s j).track _ _ _ l.is).keywords

one_more : (b : Bool) (h x y z : ℕ) → h + x ≡ y → z ≡ cond b (x + 1) x → h + z ≡ cond b (y + 1) y
one_more true h x y z p q = omega arith
one_more false h x y z p q = omega arith

pub keywords-met : KeywordsMet
unfolding context_at context_after how_many
keywords-met s i j l =
    from_last s is_bib (λ m. how_many (keyword_at s) (j + 1) + (context_at s m).track.bib.met ≡ how_many (keyword_at s) m)
    (λ m k e. one_more (keyword_at s m) _ _ _ _ e (met_next (context_at s m).track _ _ _ k)) i j l
    (let f : (context_at s (suc j)).track.bib.met ≡ 0 = (bib-new _ _ _ _ l.is).met in
    let z : how_many (keyword_at s) (j + 1) ≡ how_many (keyword_at s) (suc j) = ap (how_many (keyword_at s)) (add-one j) in
    ap (λ (x : ℕ). how_many (keyword_at s) (j + 1) + x) f ∙ omega arith)

-- ---- 9

pub number-before : NumberBefore
unfolding context_at context_after
number-before s i j l =
    from_last s opens_subentry
    (λ m. (context_at s m).track.subentry.number ≡ subentry_of (n1 (fields_of (block_at 81 s j))))
    (λ m k e. (subentry-same (context_at s m).track _ _ _ k).number ∙ e) i j l
    (subentry-new (context_at s j).track _ _ _ l.is).number

pub none_before : NoneBefore
unfolding context_at context_after
none_before s zero h = refl
none_before s (suc i) h =
    (subentry-same (context_at s i).track _ _ _ (h i (omega arith))).number
    ∙ none_before s i (λ m l. h m (omega arith))
