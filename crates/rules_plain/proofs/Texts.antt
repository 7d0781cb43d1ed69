-- Rules 10 and 11 find a fault on a text record exactly where one is said over the records before it.
-- Assumes nothing.
use Prim.Native.Nat.{ℕ, ◌+◌, ◌-◌, ◌<◌}
use mathlib.Core.Path.{◌≡◌, refl, sym, ◌∙◌, ap}
use mathlib.Core.Bool.{Bool, true, false, cond, not, ◌&&◌, ◌||◌}
use mathlib.Core.List.{List, [], ◌∷◌}
use mathlib.Core.Logic.{◌↔◌}
use native.Mathlib.Omega.{arith}
use borrow.Author.Tests.{eqb-true, eqb-false, eq-eqb, ne_eqb, not-true}
use lib.Dec.{eqb}
use lib.ListN.{length, get_or, take, drop, length-drop, take-append-drop}
use lib.Seq.{get_or-drop}
use Rattle.laws.specs.Members.{any_of}
use Rattle.laws.specs.Walk.{All}
use Rattle.laws.proofs.Booleans.{differ, and_left, and_right, and_both, or-first, or-second}
use Rattle.laws.proofs.Listing.{all_right, any-map}
use Rattle.laws.proofs.Search.{either}
use Rattle.paper_record.specs.Fields.{fields_of}
use Rattle.paper_record.specs.Text.{is_blank}
use Rattle.paper_record.proofs.ReadColumns.{field-of}
use Rattle.paper_record.proofs.WordsAndBlanks.{word_blank}
use Rattle.paper_record.specs.Word.{blank_to, equal_to, is_word, pointer_of}
use Rattle.paper_record.specs.Faults.{bad_pointer}
use Rattle.paper_record.specs.Same.{SameColumns}
use Rattle.paper_record.specs.Plain.{Word}
use Rattle.paper_record.proofs.PlainColumns.{blank-exactly, equal-exactly, word-exactly}
use Rattle.paper_record.proofs.PlainColumns.{pointer-exactly}
use Rattle.paper_rules.specs.declared.types.Track.{Track}
use Rattle.paper_rules.specs.Record.{Record}
use Rattle.paper_rules.specs.State.{Seen}
use Rattle.paper_rules.specs.Text.{keyword_fault, rule10, pointer_repeated, rule11_text}
use Rattle.rules_plain.specs.Places.{Some, Long, bib_place}
use Rattle.rules_plain.specs.Texts.{NoKeyword, earlier, NoneBehind, WrongKeyword, missing, malformed, repeated}
use Rattle.rules_plain.specs.Texts.{WrongPointer, bad-pointer, pointer_again, UnderKeyword, from_keyword}
use Rattle.rules_plain.specs.Texts.{no_keyword, BehindTexts, KeywordExactly, KeywordFine, TextPointerExactly}
use Rattle.rules_plain.specs.Texts.{TextPointerFine, OneUnder}
use Rattle.rules_plain.proofs.Lists.{places-joined, pointers-joined}
use Rattle.rules_plain.proofs.Somewhere.{at_some, some_at, any-exactly}
use Rattle.rules_plain.proofs.Exactly.{when-exactly, when-fine, false-where}

-- ---- 10

-- the test of rule 10, with the records before as a list
abbrev keyword_test : List Record → Record → Bool
keyword_test rs r =
    cond (blank_to 10 (bib_place r)) (eqb (length rs) 0)
    (not (is_word 10 (bib_place r)) || any_of (λ (x : Record). equal_to 10 (bib_place r) (bib_place x)) rs)

no-records : (rs : List Record) → length rs ≡ 0 → rs ≡ []
no-records [] e = refl
no-records (x ∷ xs) e = absurd (omega arith)

not-blank : (r : Record) → blank_to 10 (bib_place r) ≡ false → NoKeyword r → ⊥
not-blank r e n = differ (sym ((blank-exactly 10 (bib_place r)).1 n) ∙ e)

not-word : (r : Record) → is_word 10 (bib_place r) ≡ false → Word 10 (bib_place r) → ⊥
not-word r e w = differ (sym ((word-exactly 10 (bib_place r)).1 w) ∙ e)

same-somewhere : (rs : List Record) (r : Record)
    → (any_of (λ (x : Record). equal_to 10 (bib_place r) (bib_place x)) rs ≡ true)
    ↔ Some (λ (x : Record). SameColumns 10 (bib_place r) (bib_place x)) rs
same-somewhere rs r = any-exactly _ _ (λ (x : Record). equal-exactly 10 (bib_place r) (bib_place x)) rs

keyword-said : (rs : List Record) (r : Record) → keyword_test rs r ≡ true → WrongKeyword rs r
keyword-said rs r e = by_tests (blank_to 10 (bib_place r)) refl (is_word 10 (bib_place r)) refl e
  where
    by_tests : (b : Bool) → blank_to 10 (bib_place r) ≡ b → (w : Bool) → is_word 10 (bib_place r) ≡ w
        → cond b (eqb (length rs) 0) (not w || any_of (λ (x : Record). equal_to 10 (bib_place r) (bib_place x)) rs) ≡ true
        → WrongKeyword rs r
    by_tests true p w q h = missing (no-records rs (eqb-true (length rs) 0 h)) ((blank-exactly 10 (bib_place r)).0 p)
    by_tests false p false q h = malformed (not-blank r p) (not-word r q)
    by_tests false p true q h =
        repeated ((word-exactly 10 (bib_place r)).0 q) ((same-somewhere rs r).0 h)

said-keyword : (rs : List Record) (r : Record) → WrongKeyword rs r → keyword_test rs r ≡ true
said-keyword rs r (missing e n) =
    rw ((blank-exactly 10 (bib_place r)).1 n) (eq-eqb (length rs) 0 (ap length e))
said-keyword rs r (malformed n w) =
    rw (
      false-where (blank_to 10 (bib_place r)) (blank-exactly 10 (bib_place r)) n,
      false-where (is_word 10 (bib_place r)) (word-exactly 10 (bib_place r)) w,
    ) refl
said-keyword rs r (repeated w s) =
    let word = (word-exactly 10 (bib_place r)).1 w in
    rw (word_blank (bib_place r) word, word) ((same-somewhere rs r).1 s)

-- ---- 11

-- the record q of those under the keyword in hand, among all before
record Place (rs under : List Record) (q : ℕ) : Type 0 where
  index : ℕ
  there : index < length rs
  none : NoneBehind rs index
  same : get_or under q [] ≡ earlier rs index

under-earlier : (rs under : List Record) → UnderKeyword rs under → (q : ℕ) → q < length under → Place rs under q
under-earlier rs under (from_keyword k l n behind) q h =
    let z : length (drop k rs) ≡ length rs - k = length-drop k rs in
    record {
      index = k + q;
      there = omega arith;
      none = λ m a b. behind m (omega arith) (omega arith);
      same = get_or-drop k rs q [];
    }
under-earlier rs under (no_keyword all) q h =
    record { index = q; there = h; none = λ m a b. all m (omega arith); same = refl }

-- and the other way round
record Kept (rs under : List Record) (q : ℕ) : Type 0 where
  index : ℕ
  there : index < length under
  same : get_or under index [] ≡ earlier rs q

earlier-under : (rs under : List Record) → UnderKeyword rs under → (q : ℕ) → q < length rs → NoneBehind rs q
    → Kept rs under q
earlier-under rs under (from_keyword k l n behind) q h none =
    let z : length (drop k rs) ≡ length rs - k = length-drop k rs in
    either q k (λ a. absurd (n (none k a (omega arith))))
    (λ a.
    let e : k + (q - k) ≡ q = omega arith in
    record {
      index = q - k;
      there = omega arith;
      same = get_or-drop k rs (q - k) [] ∙ ap (λ (m : ℕ). earlier rs m) e;
    })
earlier-under rs under (no_keyword all) q h none = record { index = q; there = h; same = refl }

under-long : (rs under : List Record) → UnderKeyword rs under → All Long rs → All Long under
under-long rs under (from_keyword k l n behind) a =
    all_right Long (take k rs) (drop k rs) (rw (take-append-drop k rs) a)
under-long rs under (no_keyword all) a = a

abbrev pointer_test : List Record → Record → Bool
pointer_test under r =
    bad_pointer (bib_place r)
    || (not (is_blank (pointer_of (bib_place r)))
    && (blank_to 10 (bib_place r)
    && any_of (λ (x : Record). eqb (pointer_of (bib_place r)) (pointer_of (bib_place x))) under))

module _ (rs under : List Record) (r : Record) (u : UnderKeyword rs under) where
  abbrev pointer : ℕ
  pointer = pointer_of (bib_place r)

  abbrev same_in : Record → Bool
  same_in x = eqb (pointer_of (bib_place r)) (pointer_of (bib_place x))

  abbrev SameIn : Record → Type 0
  SameIn x = pointer_of (bib_place r) ≡ pointer_of (bib_place x)

  pointer-somewhere : (any_of same_in under ≡ true) ↔ Some SameIn under
  pointer-somewhere =
      any-exactly same_in SameIn
      (λ (x : Record).
      (eqb-true pointer (pointer_of (bib_place x)), eq-eqb pointer (pointer_of (bib_place x)))) under

  pointer-said : pointer_test under r ≡ true → WrongPointer rs r
  pointer-said e = by-test (bad_pointer (bib_place r)) refl e
    where
      by-test : (b : Bool) → bad_pointer (bib_place r) ≡ b
          → (b || (not (is_blank pointer) && (blank_to 10 (bib_place r) && any_of same_in under))) ≡ true
          → WrongPointer rs r
      by-test true p h = bad-pointer (λ x. differ (sym p ∙ (pointer-exactly (bib_place r)).1 x))
      by-test false p h =
          let rest = and_right (not (is_blank pointer)) (blank_to 10 (bib_place r) && any_of same_in under) h in
          let found = and_right (blank_to 10 (bib_place r)) (any_of same_in under) rest in
          let (m, l, s) = some_at SameIn [] under (pointer-somewhere.0 found) in
          let x = under-earlier rs under u m l in
          pointer_again x.index x.there (
            eqb-false pointer 32
                (not-true (is_blank pointer)
                (and_left (not (is_blank pointer)) (blank_to 10 (bib_place r) && any_of same_in under) h)),
            s ∙ ap (λ (y : Record). pointer_of (bib_place y)) x.same,
          )
          x.none
          ((blank-exactly 10 (bib_place r)).0 (and_left (blank_to 10 (bib_place r)) (any_of same_in under) rest))

  said-pointer : WrongPointer rs r → pointer_test under r ≡ true
  said-pointer (bad-pointer n) = or-first (bad_pointer (bib_place r)) _ (bad (bad_pointer (bib_place r)) refl)
    where
      bad : (b : Bool) → bad_pointer (bib_place r) ≡ b → b ≡ true
      bad true p = refl
      bad false p = absurd (n ((pointer-exactly (bib_place r)).0 p))
  said-pointer (pointer_again q l s none blank) =
      let x = earlier-under rs under u q l none in
      or-second (bad_pointer (bib_place r)) _
      (and_both (ap not (ne_eqb pointer 32 s.0))
      (and_both ((blank-exactly 10 (bib_place r)).1 blank)
      (pointer-somewhere.1
      (at_some SameIn [] under x.index x.there
      (s.1 ∙ ap (λ (y : Record). pointer_of (bib_place y)) (sym x.same))))))

-- ---- the rules

module _ (rs : List Record) (t : Track) (s : Seen) (r : Record) (b : BehindTexts rs t s) where
  abbrev field : List ℕ
  field = get_or (fields_of r) 0 []

  own : get_or (fields_of r) 0 [] ≡ bib_place r
  own = field-of r 0 (omega arith)

  keyword-test : keyword_fault s.bib t (get_or (fields_of r) 0 []) ≡ keyword_test rs r
  keyword-test =
      rw (own, b.counted, b.bytes, places-joined rs b.long, any-map (equal_to 10 (bib_place r)) bib_place rs) refl

  pointer-test : (bad_pointer field || pointer_repeated s.under field) ≡ pointer_test b.under r
  pointer-test =
      rw (
        own,
        b.under_bytes,
        pointers-joined b.under (under-long rs b.under b.in-hand b.long),
        any-map (eqb (pointer_of (bib_place r))) (λ (x : Record). pointer_of (bib_place x)) b.under,
      ) refl

  keyword-wrong : (keyword_fault s.bib t field ≡ true) ↔ WrongKeyword rs r
  keyword-wrong = (λ e. keyword-said rs r (sym keyword-test ∙ e), λ w. keyword-test ∙ said-keyword rs r w)

  pointer-wrong : ((bad_pointer field || pointer_repeated s.under field) ≡ true) ↔ WrongPointer rs r
  pointer-wrong = (
    λ e. pointer-said rs b.under r b.in-hand (sym pointer-test ∙ e),
    λ w. pointer-test ∙ said-pointer rs b.under r b.in-hand w,
  )

pub keyword-exactly : KeywordExactly
unfolding rule10
keyword-exactly rs t s r b =
    when-exactly (keyword_fault s.bib t (get_or (fields_of r) 0 [])) 1 (keyword-wrong rs t s r b)

pub keyword-fine : KeywordFine
unfolding rule10
keyword-fine rs t s r b = when-fine (keyword_fault s.bib t (get_or (fields_of r) 0 [])) 1 (keyword-wrong rs t s r b)

pub text-pointer-exactly : TextPointerExactly
unfolding rule11_text
text-pointer-exactly rs t s r b =
    when-exactly (bad_pointer (get_or (fields_of r) 0 []) || pointer_repeated s.under (get_or (fields_of r) 0 [])) 11
    (pointer-wrong rs t s r b)

pub text-pointer-fine : TextPointerFine
unfolding rule11_text
text-pointer-fine rs t s r b =
    when-fine (bad_pointer (get_or (fields_of r) 0 []) || pointer_repeated s.under (get_or (fields_of r) 0 [])) 11
    (pointer-wrong rs t s r b)

-- ---- the records under the keyword in hand are one list

pub one-under : OneUnder
one-under rs a b (from_keyword k l n behind) (from_keyword j m o past) =
    either k j (λ h. absurd (o (behind j h m)))
    (λ h. either j k (λ g. absurd (n (past k g l)))
    (λ g. let e : k ≡ j = omega arith in ap (λ (i : ℕ). drop i rs) e))
one-under rs a b (from_keyword k l n behind) (no_keyword all) = absurd (n (all k l))
one-under rs a b (no_keyword all) (from_keyword k l n behind) = absurd (n (all k l))
one-under rs a b (no_keyword all) (no_keyword too) = refl
