-- A text record with a wrong keyword or pointer is refused with 10 or 11, where no lower number is found on it.
-- Assumes nothing.
use Prim.Native.Nat.{ℕ, zero, suc, ◌+◌, ◌<◌, ◌≤◌}
use mathlib.Core.Path.{◌≡◌, refl, sym, ◌∙◌, ap, subst}
use mathlib.Core.Bool.{Bool, cond}
use mathlib.Core.List.{List, [], ◌∷◌}
use mathlib.Core.Logic.{inl, inr}
use native.Mathlib.Omega.{arith}
use borrow.Author.Tests.{eq-eqb}
use lib.ListN.{length, get_or}
use Rattle.laws.specs.Blocks.{block_at}
use Rattle.laws.proofs.Search.{either}
use Rattle.paper_record.specs.Identifier.{BIB, OTHER}
use Rattle.paper_rules.specs.declared.types.Track.{Track}
use Rattle.paper_rules.specs.Record.{Record}
use Rattle.paper_faults.specs.Fault.{Finding, on, leftmost}
use Rattle.paper_rules.specs.Roles.{TEXT, is_heading}
use Rattle.paper_rules.specs.State.{Seen, Context}
use Rattle.paper_rules.specs.Text.{rule10, rule11_text}
use Rattle.paper_rules.specs.Headings.{rule11_heading}
use Rattle.paper_rules.specs.Clean.{CleanEvery}
use Rattle.paper_rules.specs.Order.{findings}
use Rattle.paper_faults.specs.Least.{no_finding, Before, Least}
use Rattle.rules_plain.specs.Places.{Some}
use Rattle.rules_plain.specs.Texts.{WrongKeyword, WrongPointer}
use Rattle.rules_plain.proofs.Texts.{keyword-exactly, keyword-fine, text-pointer-exactly}
use Rattle.paper_entry.specs.Verdict.{refused}
use Rattle.paper_entry.specs.Judging.{judge_of}
use Rattle.paper_entry.specs.Contexts.{context_at, role_at}
use Rattle.entry_walk.specs.First.{FirstAt, by_record}
use Rattle.entry_walk.proofs.FirstRefused.{refused_first}
use Rattle.entry_walk.proofs.FirstAlone.{first_alone}
use Rattle.refusal_table.specs.KindOf.{fields_in, BehindBib}
use Rattle.refusal_table.specs.TextFaults.{records_between, WrongText, TextDue, TenExactly, ElevenExactly}
use Rattle.refusal_table.proofs.ByNumber.{number_of, number-rises, number_at, first-at}
use Rattle.refusal_table.proofs.TextFaults.{TextIn, text_at, some-11, wrong-pointer, found-11, ten_said}

-- ---- a number before which nothing is found is the least

row_first : (a b : ℕ) → a < b → (x : ℕ) → x ≡ number_of b → number_of a < x
row_first a b l x e = rw e (number-rises a b l)

row_same : (a b : ℕ) → a ≡ b → (x : ℕ) → x ≡ number_of b → number_of a ≡ x
row_same a b l x e = ap number_of l ∙ sym e

in_one : (j n : ℕ) → j < n → n ≡ 1 → j ≡ 0
in_one j n l e = omega arith

in-none : (j n : ℕ) → j < n → n ≡ 0 → ⊥
in-none j n l e = omega arith

module _ (F : List Finding) (numbers : (i : ℕ) → i < length F → (get_or F i no_finding).number ≡ number_of i) (at k : ℕ)
    (there : at < length F) (some : 1 ≤ k) (none : (i : ℕ) → i < at → (get_or F i no_finding).columns ≡ [])
    (found : (get_or F at no_finding).columns ≡ k ∷ []) where
  not-before : (i j : ℕ) → i < length F → j < length (get_or F i no_finding).columns
      → Before (number_of at) k (get_or F i no_finding).number (get_or (get_or F i no_finding).columns j 0)
  not-before i j l m =
      either i at (λ a. absurd (in-none j (length (get_or F i no_finding).columns) m (ap length (none i a))))
      (λ a. either at i (λ b. inl (row_first at i b (get_or F i no_finding).number (numbers i l)))
      (λ b.
      let e : at ≡ i = omega arith in
      let z : (get_or F i no_finding).columns ≡ k ∷ [] =
      subst (λ (x : ℕ). (get_or F x no_finding).columns ≡ k ∷ []) e found in
      let f : j ≡ 0 = in_one j (length (get_or F i no_finding).columns) m (ap length z) in
      let c : get_or (get_or F i no_finding).columns j 0 ≡ k =
      ap (λ (x : ℕ). get_or (get_or F i no_finding).columns x 0) f ∙ ap (λ (x : List ℕ). get_or x 0 0) z in
      inr (row_same at i e (get_or F i no_finding).number (numbers i l), subst (λ (x : ℕ). k ≤ x) (sym c) (omega arith))))

  row-least : Least F (number_of at) k
  row-least =
      record {
        at = at;
        there = there;
        number = numbers at there;
        column = ap leftmost found;
        some = some;
        least = not-before;
      }

-- ---- on a text record

module _ (t : Track) (seen : Seen) (fs : List (List ℕ)) (r : Record) (every : CleanEvery t TEXT fs r) where
  before-10 : (i : ℕ) → i < 8 → (get_or (findings t seen TEXT fs r) i no_finding).columns ≡ []
  before-10 zero l = every.two
  before-10 (suc zero) l = every.three
  before-10 (suc (suc zero)) l = every.four
  before-10 (suc (suc (suc zero))) l = every.five
  before-10 (suc (suc (suc (suc zero)))) l = every.six
  before-10 (suc (suc (suc (suc (suc zero))))) l = refl
  before-10 (suc (suc (suc (suc (suc (suc zero)))))) l = refl
  before-10 (suc (suc (suc (suc (suc (suc (suc zero))))))) l = refl
  before-10 (suc (suc (suc (suc (suc (suc (suc (suc i)))))))) l = absurd (omega arith)

  before-11 : rule10 seen.bib t fs ≡ [] → (i : ℕ) → i < 9
      → (get_or (findings t seen TEXT fs r) i no_finding).columns ≡ []
  before-11 ten i l =
      either i 8 (before-10 i)
      (λ a.
      let e : 8 ≡ i = omega arith in
      subst (λ (x : ℕ). (get_or (findings t seen TEXT fs r) x no_finding).columns ≡ []) e ten)

  least-10 : rule10 seen.bib t fs ≡ 1 ∷ [] → Least (findings t seen TEXT fs r) 10 1
  least-10 ten =
      row-least (findings t seen TEXT fs r) (number_at t seen TEXT fs r) 8 1 (omega arith) (omega arith) before-10 ten

  least-11 : rule10 seen.bib t fs ≡ [] → rule11_text seen.under fs ≡ 11 ∷ []
      → Least (findings t seen TEXT fs r) 11 11
  least-11 ten eleven =
      row-least (findings t seen TEXT fs r) (number_at t seen TEXT fs r) 9 11 (omega arith) (omega arith)
      (before-11 ten) eleven

-- ---- in the entry

-- a record stands behind one BIB record only
one-bib : (s : List ℕ) (i j k : ℕ) → BehindBib s j i → BehindBib s k i → j ≡ k
one-bib s i j k a b =
    either j k (λ l. absurd (apart (sym b.opens ∙ a.no_system k l (under b.before))))
    (λ l. either k j (λ m. absurd (apart (sym a.opens ∙ b.no_system j m (under a.before)))) (λ m. omega arith))
  where
    apart : BIB ≡ OTHER → ⊥
    apart e = omega arith

    under : {m : ℕ} → m < i → m ≤ i
    under h = omega arith

module _ (s : List ℕ) (i : ℕ) (due : TextDue s i) where
  abbrev here : Context
  here = context_at s i

  text : TextIn s i
  text = text_at s i due.earlier due.text

  wrong-here : (Wrong : List Record → Record → Type 0) → WrongText Wrong s i
      → Wrong (records_between s text.bib i) (block_at 81 s i)
  wrong-here Wrong w =
      subst (λ (j : ℕ). Wrong (records_between s j i) (block_at 81 s i))
      (one-bib s i w.bib text.bib w.behind text.behind) w.wrong

  refused-so : (n k : ℕ) → Least (findings here.track here.seen TEXT (fields_in s i) (block_at 81 s i)) n k
      → judge_of s ≡ refused n (record { 0 = i + 1 }) k
  refused-so n k l =
      sym (first_alone s (refused n (record { 0 = i + 1 }) k)
      (by_record i n k
      (record {
        length-good = due.length-good;
        there = due.there;
        earlier = due.earlier;
        least = subst
            (λ (role : ℕ). Least (findings here.track here.seen role (fields_in s i) (block_at 81 s i)) n k)
            (sym due.text) l;
      })))

  ten-given : WrongText WrongKeyword s i → judge_of s ≡ refused 10 (record { 0 = i + 1 }) 1
  ten-given w =
      refused-so 10 1
      (least-10 here.track here.seen (fields_in s i) (block_at 81 s i) due.every
      ((keyword-exactly (records_between s text.bib i) here.track here.seen (block_at 81 s i) text.texts).1
      (wrong-here WrongKeyword w)))

  no-ten : (WrongText WrongKeyword s i → ⊥) → rule10 here.seen.bib here.track (fields_in s i) ≡ []
  no-ten n =
      (keyword-fine (records_between s text.bib i) here.track here.seen (block_at 81 s i) text.texts).1
      (λ w. n (record { bib = text.bib; behind = text.behind; wrong = w }))

  eleven-given : (WrongText WrongKeyword s i → ⊥) → WrongText WrongPointer s i
      → judge_of s ≡ refused 11 (record { 0 = i + 1 }) 11
  eleven-given n w =
      refused-so 11 11
      (least-11 here.track here.seen (fields_in s i) (block_at 81 s i) due.every (no-ten n)
      ((text-pointer-exactly (records_between s text.bib i) here.track here.seen (block_at 81 s i) text.texts
      ).1 (wrong-here WrongPointer w)))

  eleven_text : FirstAt s i 11 11 → WrongText WrongPointer s i
  eleven_text f =
      wrong-pointer s i text
      (some-11 here.seen.under (fields_in s i) 11
      (subst
      (λ (b : Bool). Some (λ c. c ≡ 11)
      (cond b (rule11_text here.seen.under (fields_in s i))
      (on (is_heading (role_at s i)) (rule11_heading here.track (fields_in s i)))))
      (eq-eqb (role_at s i) TEXT due.text) (found-11 s i 11 f)))

pub ten_exactly : TenExactly
ten_exactly s i due = (ten_said s i 1, ten-given s i due)

pub eleven_exactly : ElevenExactly
eleven_exactly s i due n = (
  λ e. eleven_text s i due (first-at s (judge_of s) (refused_first s) 11 i 11 (omega arith) (λ z. omega arith) e),
  eleven-given s i due n,
)
