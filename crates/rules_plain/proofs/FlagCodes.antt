-- The codes of text records are those that are said over the records: under FLAG, from column 12 on.
-- Assumes nothing.
use Prim.Native.Nat.{ℕ, zero, suc, ◌*◌, ◌/◌, ◌<◌, ◌≤◌}
use mathlib.Core.Path.{◌≡◌, refl, sym, ◌∙◌, ap, subst}
use mathlib.Core.Bool.{Bool, true, false, cond}
use mathlib.Core.List.{List, [], ◌∷◌}
use mathlib.Core.Logic.{◌↔◌, ◌⊎◌, inl, inr}
use native.Mathlib.Omega.{arith}
use lib.Dec.{eqb}
use lib.ListN.{length, drop, length-drop}
use lib.Seq.{length-take-le}
use Rattle.laws.specs.Blocks.{joined}
use Rattle.laws.specs.Members.{any_of}
use Rattle.laws.specs.Walk.{All}
use Rattle.laws.proofs.Blocks.{blocks-joined, length-joined}
use Rattle.laws.proofs.Booleans.{differ}
use Rattle.laws.proofs.Members.{any_append}
use Rattle.paper_record.specs.Word.{blank_to}
use Rattle.paper_record.proofs.PlainColumns.{blank-exactly, blank-columns}
use Rattle.paper_record.specs.Flags.{is_flag, is_code, code_number}
use Rattle.paper_record.specs.PlainFlags.{Code, TextColumns}
use Rattle.paper_record.proofs.CodeExactly.{code-exactly}
use Rattle.paper_rules.specs.Record.{Record}
use Rattle.paper_rules.specs.Codes.{text_of, under_flag, code_of, codes_from, codes_of}
use Rattle.paper_rules.proofs.CodesNext.{one_code}
use Rattle.rules_plain.specs.Places.{Long, bib_place, bib_text}
use Rattle.rules_plain.specs.Texts.{NoKeyword, earlier}
use Rattle.rules_plain.specs.Flags.{FlagWord, UnderFlag, CodeAmong, CodesAre}
use Rattle.rules_plain.proofs.Exactly.{false-where, either-met}
use Rattle.rules_plain.proofs.FlagFields.{word-exactly}

-- ---- one record

-- FLAG is a keyword
flag-keyword : (r : Record) → FlagWord (bib_place r) → NoKeyword r → ⊥
flag-keyword r w b =
    let e : ◌≡◌ {A = ℕ} 70 32 = sym (w 0 (omega arith)) ∙ blank-columns 10 (bib_place r) b 0 (omega arith) in
    absurd (omega arith)

-- what a record without keyword, and one with FLAG, hands on
pub blank-under : (before : Bool) (r : Record) → NoKeyword r → under_flag before r ≡ before
blank-under before r b = rw ((blank-exactly 10 (bib_place r)).1 b) refl

flag-under : (before : Bool) (r : Record) → FlagWord (bib_place r) → under_flag before r ≡ true
flag-under before r w =
    rw (
      false-where (blank_to 10 (bib_place r)) (blank-exactly 10 (bib_place r)) (flag-keyword r w),
      (word-exactly (bib_place r)).1 w,
    ) refl

-- one of the two, where the record is under FLAG
under-by : {X : Type 0} (before : Bool) (r : Record) → under_flag before r ≡ true
    → (before ≡ true → NoKeyword r → X) → (FlagWord (bib_place r) → X) → X
under-by {X} before r e p q = by-test (blank_to 10 (bib_place r)) refl e
  where
    by-test : (b : Bool) → blank_to 10 (bib_place r) ≡ b → cond b before (is_flag (bib_place r)) ≡ true → X
    by-test true h e = p e ((blank-exactly 10 (bib_place r)).0 h)
    by-test false h e = q ((word-exactly (bib_place r)).0 e)

-- the rule takes the text of a record from the same column
text_same : (r : Record) → text_of r ≡ bib_text r
text_same r = refl

text-long : (r : Record) → Long r → TextColumns (text_of r)
text-long r l = record { long = length-take-le 55 (drop 11 r) (rw length-drop (omega arith)) }

-- its code is what its text says
record-code : (n : ℕ) (under : Bool) (r : Record) → Long r
    → (any_of (eqb n) (code_of under r) ≡ true) ↔ ((under ≡ true) × Code (bib_text r) n)
unfolding any_of
record-code n true r l =
    let x = bib_text r in
    let e =
    ap (λ (y : List ℕ). any_of (eqb n) (cond (is_code y) (code_number y ∷ []) [])) (text_same r)
    ∙ one_code n (is_code x) (code_number x) in
    let w = code-exactly x n (subst TextColumns (text_same r) (text-long r l)) in
    (λ h. (refl, w.0 (sym e ∙ h)), λ h. e ∙ w.1 h.1)
record-code n false r l = (λ h. differ (sym h), λ h. differ (sym h.0))

-- ---- the first of several records, or one behind it

-- a code n is met from there on
abbrev pub Test : ℕ → Bool → List Record → Type 0
Test n before rs = any_of (eqb n) (codes_from before rs) ≡ true

pub first-or : (n : ℕ) (before under : Bool) (r : Record) (rs : List Record) → Long r → under_flag before r ≡ under
    → Test n before (r ∷ rs) ↔ (((under ≡ true) × Code (bib_text r) n) ⊎ Test n under rs)
unfolding codes_from
first-or n before under r rs l e =
    let here = any_of (eqb n) (code_of under r) in
    let behind = any_of (eqb n) (codes_from under rs) in
    rw (e, any_append (eqb n) (code_of under r) (codes_from under rs))
    (either-met here behind ((under ≡ true) × Code (bib_text r) n) (Test n under rs) (record-code n under r l)
    (λ h. h, λ h. h))

-- ---- records behind one that is under FLAG or not

data UnderFrom (before : Bool) (rs : List Record) (q : ℕ) : Type 0 where
  by-keyword : UnderFlag rs q → UnderFrom before rs q
  by-earlier : before ≡ true → ((m : ℕ) → m ≤ q → NoKeyword (earlier rs m)) → UnderFrom before rs q

record MetFrom (before : Bool) (rs : List Record) (n : ℕ) : Type 0 where
  at : ℕ
  there : at < length rs
  under : UnderFrom before rs at
  code : Code (bib_text (earlier rs at)) n

module _ (before : Bool) (r : Record) (rs : List Record) where
  named-first : (q : ℕ) → FlagWord (bib_place r) → ((m : ℕ) → m ≤ q → 0 < m → NoKeyword (earlier (r ∷ rs) m))
      → UnderFlag (r ∷ rs) q
  named-first q w h =
      record { keyword = 0; no_later = omega arith; named = w; none_between = λ m l k. h m (omega arith) l }

  under_first : UnderFrom before (r ∷ rs) 0 → under_flag before r ≡ true
  under_first (by-keyword u) = by_place u.keyword u.no_later u.named
    where
      by_place : (k : ℕ) → k ≤ 0 → FlagWord (bib_place (earlier (r ∷ rs) k)) → under_flag before r ≡ true
      by_place zero l w = flag-under before r w
      by_place (suc k) l w = absurd (omega arith)
  under_first (by-earlier e h) = blank-under before r (h 0 (omega arith)) ∙ e

  first_under : under_flag before r ≡ true → UnderFrom before (r ∷ rs) 0
  first_under e =
      under-by before r e
      (λ b n. by-earlier b (λ m l. let z : m ≡ 0 = omega arith in rw z n))
      (λ w. by-keyword (named-first 0 w (λ m l k. absurd (omega arith))))

  under_next : (q : ℕ) → UnderFrom before (r ∷ rs) (suc q) → UnderFrom (under_flag before r) rs q
  under_next q (by-keyword u) = by_place u.keyword u.no_later u.named u.none_between
    where
      by_place : (k : ℕ) → k ≤ suc q → FlagWord (bib_place (earlier (r ∷ rs) k))
          → ((m : ℕ) → k < m → m ≤ suc q → NoKeyword (earlier (r ∷ rs) m)) → UnderFrom (under_flag before r) rs q
      by_place zero l w h =
          by-earlier (flag-under before r w) (λ m a. h (suc m) (omega arith) (omega arith))
      by_place (suc k) l w h =
          by-keyword
          (record {
            keyword = k;
            no_later = omega arith;
            named = w;
            none_between = λ m a b. h (suc m) (omega arith) (omega arith);
          })
  under_next q (by-earlier e h) =
      by-earlier (blank-under before r (h 0 (omega arith)) ∙ e) (λ m l. h (suc m) (omega arith))

  shifted : (P : Record → Type 0) (m : ℕ) → 0 < m → ((k : ℕ) → m ≡ suc k → P (earlier rs k)) → P (earlier (r ∷ rs) m)
  shifted P zero l h = absurd (omega arith)
  shifted P (suc m) l h = h m refl

  next_under : (q : ℕ) → UnderFrom (under_flag before r) rs q → UnderFrom before (r ∷ rs) (suc q)
  next_under q (by-keyword u) =
      by-keyword
      (record {
        keyword = suc u.keyword;
        no_later = let l = u.no_later in omega arith;
        named = u.named;
        none_between = λ m a b.
            shifted NoKeyword m (omega arith) (λ k e. u.none_between k (omega arith) (omega arith));
      })
  next_under q (by-earlier e h) =
      under-by before r e
      (λ b n. by-earlier b (by_place n))
      (λ w.
      by-keyword (named-first (suc q) w (λ m l a. shifted NoKeyword m a (λ k e. h k (omega arith)))))
    where
      by_place : NoKeyword r → (m : ℕ) → m ≤ suc q → NoKeyword (earlier (r ∷ rs) m)
      by_place n zero l = n
      by_place n (suc m) l = h m (omega arith)

-- ---- all of them

module _ (n : ℕ) where
  later : (before : Bool) (r : Record) (rs : List Record) → MetFrom (under_flag before r) rs n
      → MetFrom before (r ∷ rs) n
  later before r rs x =
      let l = x.there in
      record {
        at = suc x.at;
        there = omega arith;
        under = next_under before r rs x.at x.under;
        code = x.code;
      }

  from-met : (before : Bool) (rs : List Record) → All Long rs → Test n before rs → MetFrom before rs n
  unfolding codes_from any_of
  from-met before [] l e = differ (sym e)
  from-met before (r ∷ rs) l e =
      by_side ((first-or n before (under_flag before r) r rs l.0 refl).0 e) (from-met (under_flag before r) rs l.1)
    where
      by_side : ((under_flag before r ≡ true) × Code (bib_text r) n) ⊎ Test n (under_flag before r) rs
          → (Test n (under_flag before r) rs → MetFrom (under_flag before r) rs n) → MetFrom before (r ∷ rs) n
      by_side (inl x) next =
          record { at = 0; there = omega arith; under = first_under before r rs x.0; code = x.1 }
      by_side (inr e) next = later before r rs (next e)

  met-from : (before : Bool) (rs : List Record) → All Long rs → MetFrom before rs n → Test n before rs
  met-from before [] l x = let h = x.there in absurd (omega arith)
  met-from before (r ∷ rs) l x =
      (first-or n before (under_flag before r) r rs l.0 refl).1
      (by_place x.at x.there x.under x.code (met-from (under_flag before r) rs l.1))
    where
      by_place : (q : ℕ) → q < length (r ∷ rs) → UnderFrom before (r ∷ rs) q → Code (bib_text (earlier (r ∷ rs) q)) n
          → (MetFrom (under_flag before r) rs n → Test n (under_flag before r) rs)
          → ((under_flag before r ≡ true) × Code (bib_text r) n) ⊎ Test n (under_flag before r) rs
      by_place zero h u c next = inl (under_first before r rs u, c)
      by_place (suc q) h u c next =
          inr (next (record { at = q; there = omega arith; under = under_next before r rs q u; code = c }))

  -- before the first record of a BIB there is none
  among-from : (rs : List Record) → CodeAmong rs n → MetFrom false rs n
  among-from rs x = record { at = x.at; there = x.there; under = by-keyword x.under; code = x.code }

  from-among : (rs : List Record) → MetFrom false rs n → CodeAmong rs n
  from-among rs x = record { at = x.at; there = x.there; under = by_way x.under; code = x.code }
    where
      by_way : UnderFrom false rs x.at → UnderFlag rs x.at
      by_way (by-keyword u) = u
      by_way (by-earlier e h) = differ (sym e)

pub codes-joined : (rs : List Record) → All Long rs → codes_of (joined rs) ≡ codes_from false rs
unfolding codes_of
codes-joined rs l =
    let e : length (joined rs) ≡ length rs * 81 = length-joined 81 rs l in
    let q : length (joined rs) / 81 ≡ length rs = omega arith in
    rw (q, blocks-joined 81 rs l) refl

pub codes-met : (rs : List Record) → All Long rs → CodesAre (codes_of (joined rs)) (CodeAmong rs)
codes-met rs l n = (
  λ e. from-among n rs (from-met n false rs l (ap (any_of (eqb n)) (sym (codes-joined rs l)) ∙ e)),
  λ x. ap (any_of (eqb n)) (codes-joined rs l) ∙ met-from n false rs l (among-from n rs x),
)
