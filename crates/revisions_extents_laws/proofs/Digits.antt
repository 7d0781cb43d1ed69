-- The number in columns 72 to 74 of a record without fault, by its role.
-- Assumes nothing.
use Rattle.paper_faults.specs.Fault.{faultless}
use Prim.Native.Nat.{ℕ, zero, suc, ◌+◌, ◌-◌, ◌*◌, ◌/◌, ◌%◌, ◌<◌}
use mathlib.Core.Path.{◌≡◌, refl, sym, ◌∙◌}
use mathlib.Core.Bool.{Bool, true, false, cond, not}
use mathlib.Core.List.{List, ◌++◌}
use native.Mathlib.Omega.{arith}
use borrow.Author.Tests.{not-false}
use lib.Dec.{eqb}
use lib.ListN.{length, get_or, drop, length-append}
use lib.Seq.{get_or-take, get_or-drop, get_or-append-add}
use Rattle.paper_record.specs.Fields.{n1}
use Rattle.paper_record.specs.Word.{equal_to}
use Rattle.paper_record.specs.System.{number_in, subentry_of}
use Rattle.paper_record.specs.Expected.{identification_of, in_digits, identification_for, entry_accession}
use Rattle.paper_record.specs.Expected.{subent_identification}
use Rattle.paper_record.specs.Identifier.{ENTRY, ENDENTRY}
use Rattle.paper_record.proofs.EqualColumns.{equal-at}
use Rattle.paper_faults.proofs.NoColumns.{when-none}
use Rattle.paper_rules.specs.declared.types.Track.{Track}
use Rattle.paper_rules.specs.State.{Seen}
use Rattle.paper_rules.specs.Roles.{opens_subentry}
use Rattle.paper_rules.specs.Every.{expected_identification, rule5}
use Rattle.paper_rules.specs.Order.{fault_of}
use Rattle.paper_rules.proofs.Clean.{fine-clean}
use Rattle.reasons_true.proofs.Long.{digits_long}

-- ---- columns and their number

-- columns that say the same digits say the same number
pub number_same : (f g : List ℕ) (i j n : ℕ) → ((k : ℕ) → k < n → get_or f (i + k) 0 ≡ get_or g (j + k) 0)
    → number_in f i n ≡ number_in g j n
unfolding number_in
number_same f g i j zero h = refl
number_same f g i j (suc n) h = rw (h n (omega arith), number_same f g i j n (λ k l. h k (omega arith)))

three-digits : (n : ℕ) → n < 1000 → number_in (in_digits 3 n) 0 3 ≡ n
unfolding number_in in_digits
three-digits n h =
    let b : n / 100 % 10 ≡ n / 100 = omega arith in
    let d : n / 10 / 10 ≡ n / 100 = omega arith in
    let c : n / 10 % 10 ≡ n / 10 - n / 10 / 10 * 10 = omega arith in
    omega arith

-- behind an accession of five
for-number : (a : List ℕ) (n : ℕ) → length (identification_for a n) ≡ 8 → n < 1000
    → number_in (identification_for a n) 5 3 ≡ n
unfolding identification_for
for-number a n long h =
    number_same (a ++ in_digits 3 n) (in_digits 3 n) 5 0 3
    (λ k l.
    let e = length-append a (in_digits 3 n) in
    let d = digits_long 3 n in
    let z : 5 + k ≡ length a + k = omega arith in
    let y : 0 + k ≡ k = omega arith in
    rw (z, y) (get_or-append-add a (in_digits 3 n) k 0))
    ∙ three-digits n h

-- in N1 of SUBENT and NOSUBENT
subent-number : (f : List ℕ) → number_in (subent_identification f) 5 3 ≡ subentry_of f
unfolding subentry_of
subent-number f =
    number_same (subent_identification f) f 5 8 3
    (λ k l.
    let z : 3 + (5 + k) ≡ 8 + k = omega arith in
    get_or-take 8 (drop 3 f) (5 + k) 0 (omega arith) ∙ get_or-drop 3 f (5 + k) 0 ∙ rw z)

-- ---- by the role

-- "subentry 000 on ENTRY, 999 on ENDENTRY, else its own number"
abbrev pub number_for : Track → ℕ → List (List ℕ) → ℕ
number_for t role fs =
    cond (eqb role ENTRY) 0
    (cond (opens_subentry role) (subentry_of (n1 fs)) (cond (eqb role ENDENTRY) 999 t.subentry.number))

module _ (t : Track) (seen : Seen) (role : ℕ) (fs : List (List ℕ)) (r : List ℕ)
    (fine : fault_of t seen role fs r ≡ faultless) where
  abbrev expected : List ℕ
  expected = expected_identification t role fs

  -- 5: they are as expected
  as-expected : number_in r 71 3 ≡ number_in expected 5 3
  unfolding rule5
  as-expected =
      let same = equal_to 8 (identification_of r) expected in
      let e = not-false same (when-none (not same) 67 (fine-clean t seen role fs r fine).every.five) in
      number_same r expected 71 5 3
      (λ k l.
      let z : 66 + (5 + k) ≡ 71 + k = omega arith in
      sym (get_or-take 8 (drop 66 r) (5 + k) 0 (omega arith) ∙ get_or-drop 66 r (5 + k) 0 ∙ rw z)
      ∙ equal-at 8 (identification_of r) expected e (5 + k) (omega arith))

  expected-number : length expected ≡ 8 → t.subentry.number < 1000 → number_in expected 5 3 ≡ number_for t role fs
  unfolding expected_identification
  expected-number long small = by_tests (eqb role ENTRY) (opens_subentry role) (eqb role ENDENTRY) long
    where
      by_tests : (a b c : Bool)
          → length
          (cond a (identification_for (entry_accession (n1 fs)) 0)
          (cond b (subent_identification (n1 fs))
          (cond c (identification_for t.accession 999) (identification_for t.accession t.subentry.number))))
          ≡ 8
          → number_in
          (cond a (identification_for (entry_accession (n1 fs)) 0)
          (cond b (subent_identification (n1 fs))
          (cond c (identification_for t.accession 999) (identification_for t.accession t.subentry.number))))
          5 3
          ≡ cond a 0 (cond b (subentry_of (n1 fs)) (cond c 999 t.subentry.number))
      by_tests true b c h = for-number (entry_accession (n1 fs)) 0 h (omega arith)
      by_tests false true c h = subent-number (n1 fs)
      by_tests false false true h = for-number t.accession 999 h (omega arith)
      by_tests false false false h = for-number t.accession t.subentry.number h small

  pub fine-columns : length (expected_identification t role fs) ≡ 8 → t.subentry.number < 1000
      → number_in r 71 3 ≡ number_for t role fs
  fine-columns long small = as-expected ∙ expected-number long small
