-- Accession, holder and NOSUBENT, as the definitions test them and as they are said.
-- Assumes nothing.
use Prim.Native.Nat.{ℕ, ◌+◌, ◌*◌, ◌<◌}
use mathlib.Core.Path.{◌≡◌, refl, sym, ap, ◌∙◌}
use mathlib.Core.Bool.{Bool, true, false, not, ◌&&◌, ◌||◌}
use mathlib.Core.List.{List}
use native.Mathlib.Omega.{arith}
use borrow.Author.Tests.{eqb-true, eq-eqb, ne_eqb, leb-true, leb-false, le-leb, lt-leb}
use lib.Dec.{eqb, leb}
use lib.ListN.{get_or, drop}
use lib.Seq.{get_or-take, get_or-drop}
use Rattle.laws.specs.Blocks.{block_at}
use Rattle.laws.proofs.Booleans.{differ}
use Rattle.laws.proofs.EitherWay.{no}
use Rattle.paper_record.specs.Word.{equal_to}
use Rattle.paper_record.specs.Fields.{field_at}
use Rattle.paper_record.specs.Expected.{accession_of}
use Rattle.paper_record.specs.Identifier.{NOSUBENT, identifier_of}
use Rattle.paper_record.proofs.EqualColumns.{equal-at, at-equal}
use Rattle.paper_record.proofs.PlainNames.{name-exactly}
use Rattle.paper_entry.specs.Judging.{judge_of, Accepted}
use Rattle.paper_entry.specs.Answer.{is_refused}
use Rattle.paper_revisions.specs.Extents.{extent_of, has}
use Rattle.paper_revisions.specs.Picking.{in_revision, other_accession, is_gone}
use Rattle.revisions_laws.specs.Picks.{OneAccession, dated_for, Holds, only_revision, only_held, not_earlier, earlier}
use Rattle.revisions_laws.specs.Picks.{OneHolder, Gone}
use Rattle.revisions_laws.proofs.Ends.{date-is}

-- ---- accepted

pub not-accepted : (s : List ℕ) → is_refused (judge_of s) ≡ true → Accepted s → ⊥
not-accepted s e a = differ (sym e ∙ ap not (eq-eqb (judge_of s).refusal 0 a))

pub is-accepted : (s : List ℕ) → is_refused (judge_of s) ≡ false → Accepted s
is-accepted s e = by-test (eqb (judge_of s).refusal 0) refl e
  where
    by-test : (b : Bool) → eqb (judge_of s).refusal 0 ≡ b → not b ≡ false → Accepted s
    by-test true q h = eqb-true (judge_of s).refusal 0 q
    by-test false q h = differ h

pub good : (s : List ℕ) → Accepted s → is_refused (judge_of s) ≡ false
good s a = ap not (eq-eqb (judge_of s).refusal 0 a)

pub bad : (s : List ℕ) → (Accepted s → ⊥) → is_refused (judge_of s) ≡ true
bad s d = by-test (is_refused (judge_of s)) refl
  where
    by-test : (b : Bool) → is_refused (judge_of s) ≡ b → b ≡ true
    by-test true e = refl
    by-test false e = absurd (d (is-accepted s e))

-- ---- the five characters

accession-at : (s : List ℕ) (k : ℕ) → k < 5 → get_or (accession_of (block_at 81 s 0)) k 0 ≡ get_or s (66 + k) 0
accession-at s k h =
    let z : 0 * 81 + (66 + k) ≡ 66 + k = omega arith in
    get_or-take 5 (drop 66 (block_at 81 s 0)) k 0 h ∙ get_or-drop 66 (block_at 81 s 0) k 0
    ∙ get_or-take 81 (drop (0 * 81) s) (66 + k) 0 (omega arith) ∙ get_or-drop (0 * 81) s (66 + k) 0
    ∙ ap (λ (j : ℕ). get_or s j 0) z

module _ (held revision : List ℕ) where
  abbrev same : Bool
  same = equal_to 5 (accession_of (block_at 81 held 0)) (accession_of (block_at 81 revision 0))

  one_same : same ≡ true → OneAccession held revision
  one_same e k h =
      sym (accession-at held k h)
      ∙ equal-at 5 (accession_of (block_at 81 held 0)) (accession_of (block_at 81 revision 0)) e k h
      ∙ accession-at revision k h

  same-one : OneAccession held revision → same ≡ true
  same-one o =
      at-equal 5 (accession_of (block_at 81 held 0)) (accession_of (block_at 81 revision 0))
      (λ k h. accession-at held k h ∙ o k h ∙ sym (accession-at revision k h))

  pub accession-one : other_accession held revision ≡ false → OneAccession held revision
  accession-one = by-test same refl
    where
      by-test : (b : Bool) → same ≡ b → not b ≡ false → OneAccession held revision
      by-test true q e = one_same q
      by-test false q e = differ e

  pub one-accession : OneAccession held revision → other_accession held revision ≡ false
  one-accession o = ap not (same-one o)

  pub accession-other : other_accession held revision ≡ true → OneAccession held revision → ⊥
  accession-other e o = differ (sym e ∙ one-accession o)

  pub other-accession : (OneAccession held revision → ⊥) → other_accession held revision ≡ true
  other-accession d = by-test same refl
    where
      by-test : (b : Bool) → same ≡ b → not b ≡ true
      by-test true q = absurd (d (one_same q))
      by-test false q = refl

-- ---- NOSUBENT

module _ (s : List ℕ) (n : ℕ) where
  abbrev name : List ℕ
  name = field_at (block_at 81 s (extent_of s n).from) 0

  pub is-gone : is_gone s n ≡ true → Gone s n
  is-gone e = (name-exactly name NOSUBENT (omega arith)).0 (eqb-true (identifier_of name) NOSUBENT e)

  pub gone-is : Gone s n → is_gone s n ≡ true
  gone-is g = eq-eqb (identifier_of name) NOSUBENT ((name-exactly name NOSUBENT (omega arith)).1 g)

  pub not-gone : is_gone s n ≡ false → Gone s n → ⊥
  not-gone e g = differ (sym (gone-is g) ∙ e)

  pub gone-not : (Gone s n → ⊥) → is_gone s n ≡ false
  gone-not d = ne_eqb (identifier_of name) NOSUBENT (λ e. d (is-gone (eq-eqb (identifier_of name) NOSUBENT e)))

-- ---- which of the two

module _ (held revision : List ℕ) (n : ℕ) where
  abbrev not_later : Bool
  not_later = leb (dated_for held n) (dated_for revision n)

  by-dates : in_revision held revision n ≡ (has revision n && (not (has held n) || not_later))
  unfolding in_revision
  by-dates =
      rw (date-is held (extent_of held n).from, date-is revision (extent_of revision n).from) refl

  pub holds-is : (which : Bool) → Holds held revision n which
      → ((has held n || has revision n) ≡ true) × (in_revision held revision n ≡ which)
  holds-is true (only_revision r h) = (rw (r, h) refl, by-dates ∙ rw (r, h) refl)
  holds-is true (not_earlier h r l) =
      (rw (r, h) refl, by-dates ∙ rw (r, h, le-leb (dated_for held n) (dated_for revision n) l) refl)
  holds-is false (only_held h r) = (rw (r, h) refl, by-dates ∙ rw r refl)
  holds-is false (earlier h r l) =
      (rw (r, h) refl, by-dates ∙ rw (r, h, lt-leb (dated_for held n) (dated_for revision n) l) refl)

  pub is_held : (has held n || has revision n) ≡ true → Holds held revision n (in_revision held revision n)
  is_held e = rw by-dates (by_tests (has held n) refl (has revision n) refl not_later refl e)
    where
      by_tests : (h : Bool) → has held n ≡ h → (r : Bool) → has revision n ≡ r → (l : Bool) → not_later ≡ l
          → (h || r) ≡ true → Holds held revision n (r && (not h || l))
      by_tests true p true q true t e = not_earlier p q (leb-true (dated_for held n) (dated_for revision n) t)
      by_tests true p true q false t e = earlier p q (leb-false (dated_for held n) (dated_for revision n) t)
      by_tests true p false q l t e = only_held p q
      by_tests false p true q l t e = only_revision q p
      by_tests false p false q l t e = no e

pub one-holder : OneHolder
one-holder held revision n = (
  λ e.
      record {
        which = in_revision held revision n;
        holds = is_held held revision n e;
        alone = λ other h. sym (holds-is held revision n other h).1;
      },
  λ x. (holds-is held revision n x.which x.holds).0,
)
