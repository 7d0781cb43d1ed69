-- What a record changes in the row of a subentry.
-- Assumes nothing.
use Prim.Native.Nat.{ℕ}
use mathlib.Core.Path.{◌≡◌, refl}
use mathlib.Core.Bool.{Bool, true, false, cond}
use mathlib.Core.List.{List}
use lib.Dec.{eqb}
use borrow.Author.Tests.{eqb-true, eq-eqb}
use Rattle.paper_record.specs.Places.{record_of}
use Rattle.paper_record.specs.Identifier.{BIB, COMMON, DATA}
use Rattle.paper_record.specs.System.{subentry_of}
use Rattle.paper_record.specs.declared.types.RecordNo.{RecordNo}
use Rattle.paper_record.specs.Fields.{n1}
use Rattle.paper_rules.specs.declared.types.Track.{Track}
use Rattle.paper_rules.specs.Roles.{opens_subentry}
use Rattle.paper_questions.specs.declared.types.Row.{Row}
use Rattle.paper_questions.specs.Row.{with_first_at, with_bib_at, with_common_at, with_data_at, noted}
use Rattle.paper_questions.specs.Located.{subentry_in, noted_as}

-- the sections that a row names
pub data Section : Type 0 where
  bib common table : Section

abbrev pub opener : Section → ℕ
opener bib = BIB
opener common = COMMON
opener table = DATA

abbrev pub named : Section → Row → RecordNo
named bib x = x.bib
named common x = x.common
named table x = x.«data»

-- the rank of the phase before the section's own record
abbrev pub level : Section → ℕ
level bib = 1
level common = 3
level table = 5

module _ (t : Track) (role : ℕ) (fs : List (List ℕ)) (x : Row) where
  abbrev noting-of : Bool → Bool → Bool → Bool → Bool → Row
  noting-of a o b c d =
      let at = record_of t.records in
      cond a (cond o (with_first_at x at) (cond b (with_bib_at x at) (cond c (with_common_at x at) (cond d (with_data_at x at) x)))) x

  pub number-stays : (noted_as t role fs x).number ≡ x.number
  unfolding noted_as noted
  number-stays =
      by_tests (eqb (subentry_in t role fs) x.number) (opens_subentry role) (eqb role BIB) (eqb role COMMON) (eqb role DATA)
    where
      by_tests : (a o b c d : Bool) → (noting-of a o b c d).number ≡ x.number
      by_tests false o b c d = refl
      by_tests true true b c d = refl
      by_tests true false true c d = refl
      by_tests true false false true d = refl
      by_tests true false false false true = refl
      by_tests true false false false false = refl

  -- another record leaves it
  pub first-stays : (opens_subentry role ≡ true → subentry_of (n1 fs) ≡ x.number → ⊥)
      → (noted_as t role fs x).first ≡ x.first
  unfolding noted_as noted subentry_in
  first-stays h = by-role (opens_subentry role) refl
    where
      by_tests : (a b c d : Bool) → (noting-of a false b c d).first ≡ x.first
      by_tests false b c d = refl
      by_tests true true c d = refl
      by_tests true false true d = refl
      by_tests true false false true = refl
      by_tests true false false false = refl

      by_number : (a : Bool) → eqb (subentry_of (n1 fs)) x.number ≡ a → opens_subentry role ≡ true
          → (noting-of a true (eqb role BIB) (eqb role COMMON) (eqb role DATA)).first ≡ x.first
      by_number true e o = absurd (h o (eqb-true (subentry_of (n1 fs)) x.number e))
      by_number false e o = refl

      by-role : (o : Bool) → opens_subentry role ≡ o
          → (noting-of (eqb (cond o (subentry_of (n1 fs)) t.subentry.number) x.number) o (eqb role BIB) (eqb role COMMON)
          (eqb role DATA)).first
          ≡ x.first
      by-role true o = by_number (eqb (subentry_of (n1 fs)) x.number) refl o
      by-role false o =
          by_tests (eqb t.subentry.number x.number) (eqb role BIB) (eqb role COMMON) (eqb role DATA)

  -- SUBENT and NOSUBENT of that number are its first record
  pub first-set : opens_subentry role ≡ true → subentry_of (n1 fs) ≡ x.number
      → (noted_as t role fs x).first ≡ record_of t.records
  unfolding noted_as noted subentry_in
  first-set o e = rw (o, eq-eqb (subentry_of (n1 fs)) x.number e)

  pub section-stays : (k : Section) → (role ≡ opener k → t.subentry.number ≡ x.number → ⊥)
      → named k (noted_as t role fs x) ≡ named k x
  unfolding noted_as noted subentry_in
  section-stays k h =
      by_tests k (eqb (subentry_in t role fs) x.number) refl (opens_subentry role) (eqb role BIB) refl (eqb role COMMON) refl
      (eqb role DATA) refl h
    where
      in-it : (e : ℕ) → role ≡ e → opens_subentry e ≡ false → eqb (subentry_in t role fs) x.number ≡ true
          → t.subentry.number ≡ x.number
      in-it e p o q = eqb-true t.subentry.number x.number (rw (p, o) at q)

      by_tests : (k : Section) (a : Bool) → eqb (subentry_in t role fs) x.number ≡ a → (o b : Bool) → eqb role BIB ≡ b
          → (c : Bool) → eqb role COMMON ≡ c → (d : Bool) → eqb role DATA ≡ d
          → (role ≡ opener k → t.subentry.number ≡ x.number → ⊥)
          → named k (noting-of a o b c d) ≡ named k x
      by_tests k false p o b q c u d v h = refl
      by_tests bib true p true b q c u d v h = refl
      by_tests common true p true b q c u d v h = refl
      by_tests table true p true b q c u d v h = refl
      by_tests bib true p false true q c u d v h =
          let e : role ≡ BIB = eqb-true role BIB q in absurd (h e (in-it BIB e refl p))
      by_tests common true p false true q c u d v h = refl
      by_tests table true p false true q c u d v h = refl
      by_tests bib true p false false q true u d v h = refl
      by_tests common true p false false q true u d v h =
          let e : role ≡ COMMON = eqb-true role COMMON u in absurd (h e (in-it COMMON e refl p))
      by_tests table true p false false q true u d v h = refl
      by_tests bib true p false false q false u true v h = refl
      by_tests common true p false false q false u true v h = refl
      by_tests table true p false false q false u true v h =
          let e : role ≡ DATA = eqb-true role DATA v in absurd (h e (in-it DATA e refl p))
      by_tests bib true p false false q false u false v h = refl
      by_tests common true p false false q false u false v h = refl
      by_tests table true p false false q false u false v h = refl

  -- the section's own record in that subentry is named
  pub section-set : (k : Section) → role ≡ opener k → t.subentry.number ≡ x.number
      → named k (noted_as t role fs x) ≡ record_of t.records
  unfolding noted_as noted subentry_in
  section-set bib e h = rw (e, eq-eqb t.subentry.number x.number h)
  section-set common e h = rw (e, eq-eqb t.subentry.number x.number h)
  section-set table e h = rw (e, eq-eqb t.subentry.number x.number h)
