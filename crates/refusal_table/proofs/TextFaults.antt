-- What is wrong where a text record is refused with 10 or 11, over the records behind its BIB record.
-- Assumes nothing.
use Prim.Native.Nat.{ℕ, ◌+◌, ◌<◌}
use mathlib.Core.Path.{◌≡◌, refl, ap, subst}
use mathlib.Core.Bool.{Bool, true, false, cond, ◌||◌}
use mathlib.Core.List.{List, [], ◌∷◌}
use native.Mathlib.Omega.{arith}
use borrow.Author.Tests.{eqb-true, eq-eqb}
use lib.Dec.{eqb}
use lib.ListN.{get_or}
use Rattle.laws.specs.Blocks.{block_at}
use Rattle.paper_record.specs.Faults.{bad_pointer}
use Rattle.paper_record.specs.Identifier.{BIB, OTHER, ENDBIB}
use Rattle.paper_rules.specs.declared.types.Phase.{Phase}
use Rattle.paper_rules.specs.declared.types.Phase.TheVariants.{Start, Opened, InSubentry, InBib, AfterBib, InCommon}
use Rattle.paper_rules.specs.declared.types.Phase.TheVariants.{AfterCommon, InData, AfterData, Between, Done}
use Rattle.paper_rules.specs.declared.types.Track.{Track}
use Rattle.paper_faults.specs.Fault.{on, when}
use Rattle.paper_rules.specs.Roles.{TEXT, NOT-DUE, is_heading}
use Rattle.paper_rules.specs.Role.{bib_role, role_in}
use Rattle.paper_rules.specs.State.{Context}
use Rattle.laws.proofs.EitherWay.{no}
use Rattle.paper_rules.proofs.RolePlaces.{in_bib, text_in-bib}
use Rattle.paper_rules.specs.Text.{keyword_fault, rule10, pointer_repeated, rule11_text}
use Rattle.paper_rules.specs.Headings.{rule11_heading}
use Rattle.rules_plain.specs.Places.{Some}
use Rattle.rules_plain.specs.Texts.{WrongKeyword, WrongPointer, BehindTexts}
use Rattle.rules_plain.proofs.Texts.{keyword-exactly, text-pointer-exactly}
use Rattle.paper_entry.specs.declared.types.Verdict.{Verdict}
use Rattle.paper_entry.specs.Verdict.{refused}
use Rattle.paper_entry.specs.Judging.{judge_of}
use Rattle.paper_entry.specs.Contexts.{context_at, role_at}
use Rattle.entry_walk.specs.First.{NothingBefore, FirstAt, First, by_length, by_record, by_end, by_none}
use Rattle.entry_walk.proofs.FirstRefused.{refused_first}
use Rattle.refusal_table.specs.KindOf.{fields_in, name_in, BehindBib}
use Rattle.refusal_table.specs.TextFaults.{records_between, WrongText, TenSaid, ElevenSaid, PointerRefused}
use Rattle.refusal_table.specs.TextFaults.{in_text, in_headings}
use Rattle.refusal_table.proofs.ByNumber.{on_some, least-found, first-at}
use Rattle.refusal_table.proofs.Standing.{heading-kinds}
use Rattle.refusal_table.proofs.InTexts.{InTexts}
use Rattle.refusal_table.proofs.Inside.{Inside, inside-at}
use Rattle.refusal_table.proofs.KindAt.{fine-at, behind-bib, kind_at}

-- ---- a text record to which judging comes

pub record TextIn (s : List ℕ) (i : ℕ) : Type 0 where
  pub bib : ℕ
  pub behind : BehindBib s bib i
  pub texts : BehindTexts (records_between s bib i) (context_at s i).track (context_at s i).seen

module _ (s : List ℕ) (i : ℕ) where
  abbrev track : Track
  track = (context_at s i).track

  abbrev name : ℕ
  name = name_in s i

  in-bib : InTexts s i → bib_role track name ≡ TEXT → TextIn s i
  unfolding bib_role
  in-bib x e = by_tests (eqb track.section track.bib.records) refl (eqb name ENDBIB) (eqb name OTHER) refl e
    where
      by_tests : (a : Bool) → eqb track.section track.bib.records ≡ a → (b c : Bool) → eqb name OTHER ≡ c
          → cond a (cond b ENDBIB NOT-DUE) (cond c TEXT NOT-DUE) ≡ TEXT → TextIn s i
      by_tests true p true c q h = absurd (omega arith)
      by_tests true p false c q h = absurd (omega arith)
      by_tests false p b true q h =
          record { bib = x.j; behind = behind-bib s i x p (eqb-true name OTHER q); texts = x.texts }
      by_tests false p b false q h = absurd (omega arith)

  elsewhere : (p : Phase) → role_in p track name ≡ TEXT → in_bib p ≡ true
  elsewhere p h = text_in-bib p track name (eq-eqb (role_in p track name) TEXT h)

  text_in : (p : Phase) → Inside s i p → role_in p track name ≡ TEXT → TextIn s i
  unfolding role_in
  text_in Start x h = no (elsewhere Start h)
  text_in Opened x h = no (elsewhere Opened h)
  text_in InSubentry x h = no (elsewhere InSubentry h)
  text_in InBib x h = in-bib x h
  text_in AfterBib x h = no (elsewhere AfterBib h)
  text_in InCommon x h = no (elsewhere InCommon h)
  text_in AfterCommon x h = no (elsewhere AfterCommon h)
  text_in InData x h = no (elsewhere InData h)
  text_in AfterData x h = no (elsewhere AfterData h)
  text_in Between x h = no (elsewhere Between h)
  text_in Done x h = no (elsewhere Done h)

  pub text_at : NothingBefore s i → role_at s i ≡ TEXT → TextIn s i
  text_at none h = text_in (context_at s i).phase (inside-at s i (λ j l. fine-at s j (none j l))) h

-- ---- from the refusal to what is wrong

one-column : (b : Bool) (j k : ℕ) → Some (λ c. c ≡ k) (when b j) → when b j ≡ j ∷ []
one-column false j k s = elim s [ ]
one-column true j k s = refl

some-10 : (bib : List ℕ) (t : Track) (fs : List (List ℕ)) (k : ℕ) → Some (λ c. c ≡ k) (rule10 bib t fs)
    → rule10 bib t fs ≡ 1 ∷ []
unfolding rule10
some-10 bib t fs k s = one-column (keyword_fault bib t (get_or fs 0 [])) 1 k s

pub some-11 : (under : List ℕ) (fs : List (List ℕ)) (k : ℕ) → Some (λ c. c ≡ k) (rule11_text under fs)
    → rule11_text under fs ≡ 11 ∷ []
unfolding rule11_text
some-11 under fs k s =
    one-column (bad_pointer (get_or fs 0 []) || pointer_repeated under (get_or fs 0 [])) 11 k s

module _ (s : List ℕ) (i : ℕ) where
  abbrev here : Context
  here = context_at s i

  wrong-keyword : (x : TextIn s i) → rule10 here.seen.bib here.track (fields_in s i) ≡ 1 ∷ []
      → WrongText WrongKeyword s i
  wrong-keyword x e =
      record {
        bib = x.bib;
        behind = x.behind;
        wrong =
            (keyword-exactly (records_between s x.bib i) here.track here.seen (block_at 81 s i) x.texts).0 e;
      }

  pub wrong-pointer : (x : TextIn s i) → rule11_text here.seen.under (fields_in s i) ≡ 11 ∷ []
      → WrongText WrongPointer s i
  wrong-pointer x e =
      record {
        bib = x.bib;
        behind = x.behind;
        wrong =
            (text-pointer-exactly (records_between s x.bib i) here.track here.seen (block_at 81 s i) x.texts).0
            e;
      }

  found-10 : (k : ℕ) → FirstAt s i 10 k
      → Some (λ c. c ≡ k) (on (eqb (role_at s i) TEXT) (rule10 here.seen.bib here.track (fields_in s i)))
  found-10 k f = least-found here.track here.seen (role_at s i) (fields_in s i) (block_at 81 s i) 10 k f.least

  pub found-11 : (k : ℕ) → FirstAt s i 11 k
      → Some (λ c. c ≡ k)
      (cond (eqb (role_at s i) TEXT) (rule11_text here.seen.under (fields_in s i))
      (on (is_heading (role_at s i)) (rule11_heading here.track (fields_in s i))))
  found-11 k f = least-found here.track here.seen (role_at s i) (fields_in s i) (block_at 81 s i) 11 k f.least

  ten-said-at : (k : ℕ) → FirstAt s i 10 k → WrongText WrongKeyword s i
  ten-said-at k f =
      let (b, some) = on_some (λ c. c ≡ k) (eqb (role_at s i) TEXT) _ (found-10 k f) in
      wrong-keyword (text_at s i f.earlier (eqb-true (role_at s i) TEXT b))
      (some-10 here.seen.bib here.track (fields_in s i) k some)

  eleven-said-at : (k : ℕ) → FirstAt s i 11 k → PointerRefused s i
  eleven-said-at k f = by-test (eqb (role_at s i) TEXT) refl (found-11 k f)
    where
      by-test : (b : Bool) → eqb (role_at s i) TEXT ≡ b
          → Some (λ c. c ≡ k)
          (cond b (rule11_text here.seen.under (fields_in s i))
          (on (is_heading (role_at s i)) (rule11_heading here.track (fields_in s i)))) → PointerRefused s i
      by-test true e some =
          in_text (wrong-pointer (text_at s i f.earlier (eqb-true (role_at s i) TEXT e))
          (some-11 here.seen.under (fields_in s i) k some))
      by-test false e some =
          let (h, more) = on_some (λ c. c ≡ k) (is_heading (role_at s i)) _ some in
          in_headings (role_at s i) (heading-kinds (role_at s i) h) (kind_at s i f.earlier)

pub ten_said : TenSaid
ten_said s i k e =
    ten-said-at s i k (first-at s (judge_of s) (refused_first s) 10 i k (omega arith) (λ z. omega arith) e)

pub eleven_said : ElevenSaid
eleven_said s i k e =
    eleven-said-at s i k (first-at s (judge_of s) (refused_first s) 11 i k (omega arith) (λ z. omega arith) e)
