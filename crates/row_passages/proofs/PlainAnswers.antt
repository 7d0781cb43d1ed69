-- A passage from a row comes to one of three ends, each said plainly in specs, Plain.
-- Assumes nothing.
use Prim.Native.Nat.{ℕ, ◌+◌, ◌-◌, ◌*◌, ◌<◌, ◌≤◌}
use mathlib.Core.Path.{◌≡◌, refl, sym, ◌∙◌, ap}
use mathlib.Core.Bool.{Bool, true, false, not, ◌&&◌}
use mathlib.Core.List.{List, [], ◌∷◌}
use native.Mathlib.Omega.{arith}
use lib.Dec.{eqb, ltb}
use lib.ListN.{length}
use borrow.Author.Tests.{eqb-true, eqb-false, eq-eqb, ne_eqb, le-leb, lt-ltb, ltb-true}
use Rattle.laws.proofs.Booleans.{differ, and_left, and_right, and_both}
use Rattle.paper_record.specs.Identifier.{BIB}
use Rattle.paper_record.specs.declared.types.RecordNo.{RecordNo}
use Rattle.paper_entry.specs.Answer.{Refusal, refusal, first_of, answer_of}
use Rattle.paper_questions.specs.declared.types.Row.{Row}
use Rattle.paper_questions.specs.declared.types.PartAnswer.{PartAnswer}
use Rattle.paper_questions.specs.Place.{first_byte}
use Rattle.paper_questions.specs.Passage.{text_record}
use Rattle.paper_questions.specs.Refused.{no_section}
use Rattle.paper_questions.specs.PartAnswers.{no_part, part_from}
use Rattle.paper_index.specs.Reads.{is_nosubent, good_first, good_section}
use Rattle.paper_index.specs.TableAnswers.{part_beside}
use Rattle.paper_index.proofs.ReadsInOrder.{read_none, read_first as Reads-first}
use Rattle.paper_index.specs.PassageAnswers.{begun_at, ended_at, texts_counted, texts_held, passage_refusals, passage_from_row}
use Rattle.row_passages.specs.Plain.{TextInside, Begins, Run, run_part, ReadOutside, reads_refusal, ReadFirst}
use Rattle.row_passages.specs.Plain.{RunExactly, RunAnswered, NoneExactly, OutsideExactly}
use Rattle.row_passages.proofs.PassageEnds.{begun_to}
use Rattle.row_passages.proofs.PlainRun.{run-one, run-found, none_found, held-outside, no_run}

-- ---- the three ends

data Outcome (s : List ℕ) (x : Row) (keyword : List ℕ) (pointer : ℕ) : Type 0 where
  answered : (i e : ℕ) → passage_from_row s x keyword pointer ≡ run_part x.bib pointer i e
      → Run s x.bib keyword pointer i e → Outcome s x keyword pointer
  none : passage_from_row s x keyword pointer ≡ no_part (answer_of 36)
      → ((j : ℕ) → j < texts_counted s x.bib
      → TextInside s x.bib j × (Begins s x.bib keyword pointer j → ⊥))
      → Outcome s x keyword pointer
  outside : passage_from_row s x keyword pointer ≡ no_part (answer_of 39) → ReadOutside s x.bib keyword pointer
      → Outcome s x keyword pointer

module _ (s : List ℕ) (x : Row) (keyword : List ℕ) (pointer : ℕ) where
  abbrev bib : RecordNo
  bib = x.bib

  abbrev held : ℕ
  held = texts_held s bib

  abbrev counted : ℕ
  counted = texts_counted s bib

  abbrev from : ℕ
  from = begun_at s bib keyword pointer held

  abbrev past : ℕ
  past = ended_at s bib from held

  abbrev passage : PartAnswer
  passage = passage_from_row s x keyword pointer

  abbrev beside : ℕ → PartAnswer
  beside number = part_beside s number (first_byte (text_record bib from)) ((past - from) * 81) pointer

  pub read-refused : (reads_refusal s x ≡ 0 → ⊥) → passage ≡ no_part (answer_of (reads_refusal s x))
  unfolding passage_from_row
  read-refused h =
      ap beside
      (Reads-first s x bib BIB (passage_refusals s bib from past) h)
      ∙ rw (ne_eqb (reads_refusal s x) 0 h) refl

  read-well : reads_refusal s x ≡ 0 → passage ≡ beside (first_of (passage_refusals s bib from past))
  unfolding passage_from_row
  read-well h =
      ap beside
      (read_none s x bib BIB (passage_refusals s bib from past) h)

  -- ---- which end it comes to

  abbrev is-39 : Bool
  is-39 = ltb held counted && eqb past held

  not-39 : is-39 ≡ false → held < counted → past ≡ held → ⊥
  not-39 e h z =
      let a : ltb held counted ≡ true = lt-ltb held counted h in
      let b : eqb past held ≡ true = eq-eqb past held z in
      let c : is-39 ≡ true = and_both a b in
      differ (sym c ∙ e)

  -- a run lies in the entry, so its part is handed back
  run-part : (f : ℕ) → f ≡ (bib.0 + from) * 81 → f + (past - from) * 81 ≤ length s
      → part_from s (answer_of 0) f ((past - from) * 81) pointer ≡ run_part bib pointer from past
  run-part f z h = rw (le-leb _ _ h, z) refl

  run_lies : Run s bib keyword pointer from past → (bib.0 + (from + 1) - 1) * 81 + (past - from) * 81 ≤ length s
  run_lies r =
      let a = r.some in
      let b = (r.inside (past - 1) (omega arith)).bytes in
      omega arith

  by_tests : (a : Bool) → is-39 ≡ a → (b : Bool) → eqb from held ≡ b
      → passage ≡ beside (first_of (refusal 39 a ∷ refusal 36 b ∷ [])) → Outcome s x keyword pointer
  by_tests true p b q e =
      let more = ltb-true held counted (and_left (ltb held counted) (eqb past held) p) in
      let ended = eqb-true past held (and_right (ltb held counted) (eqb past held) p) in
      outside e
      (record {
        at = held;
        counted = omega arith;
        outside = held-outside s bib keyword pointer more ended;
        none = no_run s bib keyword pointer more ended;
      })
  by_tests false p true q e =
      let z = eqb-true from held q in
      none e (none_found s bib keyword pointer (omega arith) (not-39 p))
  by_tests false p false q e =
      let z = eqb-false from held q in
      let l = begun_to s bib keyword pointer held in
      let r = run-found s bib keyword pointer (omega arith) (not-39 p) in
      answered from past (e ∙ run-part (first_byte (text_record bib from)) (omega arith) (run_lies r)) r

  outcome : reads_refusal s x ≡ 0 → Outcome s x keyword pointer
  outcome h = by_tests is-39 refl (eqb from held) refl (read-well h)

-- ---- told apart by their numbers

abbrev number_of : PartAnswer → ℕ
number_of p = p.answer.number

module _ (s : List ℕ) (x : Row) (keyword : List ℕ) (pointer : ℕ) (well : reads_refusal s x ≡ 0) where
  same-run : (i e j f : ℕ) → Run s x.bib keyword pointer j f
      → run_part x.bib pointer j f ≡ run_part x.bib pointer i e → (j ≡ i) × (f ≡ e)
  same-run i e j f r q =
      let a : (x.bib.0 + j) * 81 ≡ (x.bib.0 + i) * 81 = ap (λ (p : PartAnswer). p.first) q in
      let b : (f - j) * 81 ≡ (e - i) * 81 = ap (λ (p : PartAnswer). p.length) q in
      let c = r.some in
      (omega arith, omega arith)

  to-run : (i e : ℕ) → passage_from_row s x keyword pointer ≡ run_part x.bib pointer i e
      → Run s x.bib keyword pointer i e
  to-run i e q = by_end (outcome s x keyword pointer well)
    where
      by_end : Outcome s x keyword pointer → Run s x.bib keyword pointer i e
      by_end (answered j f p r) =
          let (a, b) = same-run i e j f r (sym p ∙ q) in
          rw (a, b) at r
      by_end (none p h) = let z = ap number_of (sym p ∙ q) in absurd (omega arith)
      by_end (outside p o) = let z = ap number_of (sym p ∙ q) in absurd (omega arith)

  from-run : (i e : ℕ) → Run s x.bib keyword pointer i e
      → passage_from_row s x keyword pointer ≡ run_part x.bib pointer i e
  from-run i e r = by_end (outcome s x keyword pointer well)
    where
      by_end : Outcome s x keyword pointer → passage_from_row s x keyword pointer ≡ run_part x.bib pointer i e
      by_end (answered j f p q) =
          let (a, b) = run-one s x.bib keyword pointer j i f e q r in
          rw (a, b) at p
      by_end (none p h) =
          let l = r.some in let m = r.counted in absurd ((h i (omega arith)).1 r.begun)
      by_end (outside p o) = absurd (o.none i e r)

  some-run : (passage_from_row s x keyword pointer).answer.number ≡ 0
      → (i : ℕ) × ((e : ℕ) × Run s x.bib keyword pointer i e)
  some-run q = by_end (outcome s x keyword pointer well)
    where
      by_end : Outcome s x keyword pointer → (i : ℕ) × ((e : ℕ) × Run s x.bib keyword pointer i e)
      by_end (answered j f p r) = (j, (f, r))
      by_end (none p h) = let z = ap number_of p in absurd (omega arith)
      by_end (outside p o) = let z = ap number_of p in absurd (omega arith)

  abbrev None : Type 0
  None =
      (j : ℕ) → j < texts_counted s x.bib
      → TextInside s x.bib j × (Begins s x.bib keyword pointer j → ⊥)

  to_none : passage_from_row s x keyword pointer ≡ no_part (answer_of 36) → None
  to_none q = by_end (outcome s x keyword pointer well)
    where
      by_end : Outcome s x keyword pointer → None
      by_end (answered j f p r) = let z = ap number_of (sym p ∙ q) in absurd (omega arith)
      by_end (none p h) = h
      by_end (outside p o) = let z = ap number_of (sym p ∙ q) in absurd (omega arith)

  from-none : None → passage_from_row s x keyword pointer ≡ no_part (answer_of 36)
  from-none h = by_end (outcome s x keyword pointer well)
    where
      by_end : Outcome s x keyword pointer → passage_from_row s x keyword pointer ≡ no_part (answer_of 36)
      by_end (answered j f p r) =
          let l = r.some in let m = r.counted in absurd ((h j (omega arith)).1 r.begun)
      by_end (none p g) = p
      by_end (outside p o) = absurd (o.outside (h o.at (omega (arith, o.counted))).0)

  to-outside : passage_from_row s x keyword pointer ≡ no_part (answer_of 39) → ReadOutside s x.bib keyword pointer
  to-outside q = by_end (outcome s x keyword pointer well)
    where
      by_end : Outcome s x keyword pointer → ReadOutside s x.bib keyword pointer
      by_end (answered j f p r) = let z = ap number_of (sym p ∙ q) in absurd (omega arith)
      by_end (none p h) = let z = ap number_of (sym p ∙ q) in absurd (omega arith)
      by_end (outside p o) = o

  from-outside : ReadOutside s x.bib keyword pointer → passage_from_row s x keyword pointer ≡ no_part (answer_of 39)
  from-outside o = by_end (outcome s x keyword pointer well)
    where
      by_end : Outcome s x keyword pointer → passage_from_row s x keyword pointer ≡ no_part (answer_of 39)
      by_end (answered j f p r) = absurd (o.none j f r)
      by_end (none p h) = absurd (o.outside (h o.at (omega (arith, o.counted))).0)
      by_end (outside p q) = p

-- ---- what is claimed

pub read_first : ReadFirst
read_first s x keyword pointer h = read-refused s x keyword pointer h

pub run-exactly : RunExactly
run-exactly s x keyword pointer well i e =
    (to-run s x keyword pointer well i e, from-run s x keyword pointer well i e)

pub run-answered : RunAnswered
run-answered s x keyword pointer well q = some-run s x keyword pointer well q

pub none-exactly : NoneExactly
none-exactly s x keyword pointer well = (to_none s x keyword pointer well, from-none s x keyword pointer well)

pub outside-exactly : OutsideExactly
outside-exactly s x keyword pointer well =
    (to-outside s x keyword pointer well, from-outside s x keyword pointer well)
