-- A passage question about a good entry is answered by the run of records under its keyword: these bytes, as a part of
-- the entry.
-- Assumes nothing.
use Prim.Native.Nat.{ℕ, suc, ◌+◌, ◌-◌, ◌*◌}
use mathlib.Core.Path.{◌≡◌, sym, ◌∙◌, ap, subst}
use mathlib.Core.List.{List, ◌∷◌, ◌++◌, append_assoc}
use native.Mathlib.Omega.{arith}
use lib.ListN.{length, take, drop, length-append}
use lib.Seq.{drop-append_seam, take-append_seam}
use Rattle.laws.specs.Blocks.{joined}
use Rattle.laws.specs.Walk.{All}
use Rattle.laws.proofs.Blocks.{length-joined}
use Rattle.laws.proofs.Listing.{all_left, all_right, joined-append}
use Rattle.paper_entry.specs.Answer.{answer_of}
use Rattle.paper_entry.specs.Judging.{judge_of}
use Rattle.paper_questions.specs.declared.types.PartAnswer.{PartAnswer}
use Rattle.paper_questions.specs.declared.types.Passage.{Passage}
use Rattle.paper_questions.specs.Place.{first_byte}
use Rattle.paper_questions.specs.Passage.{passage_of}
use Rattle.paper_questions.specs.Located.{row_of}
use Rattle.paper_questions.specs.Refused.{passage_refusal}
use Rattle.paper_questions.specs.PartAnswers.{passage_by, bytes_in}
use Rattle.paper_questions.specs.Ask.{passage_asked}
use Rattle.paper_questions.proofs.RowChanges.{bib}
use Rattle.inside.proofs.NotRefused.{part-zeros}
use Rattle.rules_plain.specs.Places.{Long}
use Rattle.good.specs.Parts.{Record, Bib, texts_of, records_of}
use Rattle.good.specs.Bib.{GoodBib}
use Rattle.good.specs.Subentries.{own_number}
use Rattle.good.specs.Good.{GoodBytes}
use Rattle.answered_tables.specs.Passages.{PassageIn, first_bib, later_bib, PassageOfBib}
use Rattle.answered_tables.proofs.Indexed.{long}
use Rattle.answered_tables.proofs.Reached.{BibReached}
use Rattle.answered_tables.proofs.LaterReached.{bib-good, bib-reached}
use Rattle.answered_tables.proofs.FirstReached.{first-bib-good, first-bib-reached}
use Rattle.answered_tables.proofs.PassageParts.{whole}
use Rattle.answered_tables.proofs.PassageRuns.{Ran, ran}

-- records among others, as bytes
part_of : (s : List ℕ) (pre mid post : List Record) → s ≡ joined (pre ++ (mid ++ post))
    → All Long (pre ++ (mid ++ post)) → take (length mid * 81) (drop (length pre * 81) s) ≡ joined mid
part_of s pre mid post e l =
    let a : length (joined pre) ≡ length pre * 81 = length-joined 81 pre (all_left Long pre (mid ++ post) l) in
    let b : length (joined mid) ≡ length mid * 81 =
    length-joined 81 mid (all_left Long mid post (all_right Long pre (mid ++ post) l)) in
    let z : s ≡ joined pre ++ (joined mid ++ joined post) =
    e ∙ joined-append pre (mid ++ post) ∙ ap (λ (w : List ℕ). joined pre ++ w) (joined-append mid post) in
    ap (λ (w : List ℕ). take (length mid * 81) (drop (length pre * 81) w)) z
    ∙ ap (λ (k : ℕ). take (length mid * 81) (drop k (joined pre ++ (joined mid ++ joined post)))) (sym a)
    ∙ ap (take (length mid * 81)) (drop-append_seam (joined pre) (joined mid ++ joined post))
    ∙ ap (λ (k : ℕ). take k (joined mid ++ joined post)) (sym b)
    ∙ take-append_seam (joined mid) (joined post)

module _ (s : List ℕ) (g : GoodBytes s) (n : ℕ) (b : Bib) (r : BibReached g.entry n b) (good : GoodBib b)
    (keyword : List ℕ) (pointer : ℕ) (x : PassageIn b keyword pointer) where
  abbrev asked : PartAnswer
  asked = passage_asked s n keyword pointer

  zeros : asked.answer.number ≡ 0 → asked.answer ≡ answer_of 0
  unfolding passage_asked passage_by
  zeros e =
      let found : Passage = passage_of s (row_of s n).bib keyword pointer in
      part-zeros s (judge_of s) (passage_refusal s (judge_of s) (row_of s n) found) (first_byte found.first)
      (found.records * 81) pointer e

  abbrev X : List Record
  X = texts_of x.earlier

  abbrev Z : List Record
  Z = texts_of x.later

  abbrev pre : List Record
  pre = r.before ++ (b.opening ∷ (X ++ x.before))

  abbrev mid : List Record
  mid = x.head ∷ x.run

  abbrev post : List Record
  post = x.after ++ (Z ++ r.behind)

  regroup : (us : List Record) (o : Record) (xs ys : List Record) (h : Record) (run after zs rest : List Record)
      → us ++ (o ∷ ((xs ++ ((ys ++ (h ∷ (run ++ after))) ++ zs)) ++ rest))
      ≡ (us ++ (o ∷ (xs ++ ys))) ++ ((h ∷ run) ++ (after ++ (zs ++ rest)))
  regroup us o xs ys h run after zs rest = simp append_assoc

  records-split : records_of g.entry ≡ pre ++ (mid ++ post)
  records-split =
      r.split
      ∙ ap (λ (ts : List Record). r.before ++ (b.opening ∷ (ts ++ r.behind)))
      (whole x ∙ ap (λ (ys : List Record). X ++ (ys ++ Z)) x.split)
      ∙ regroup r.before b.opening X x.before x.head x.run x.after Z r.behind

  pre-size : length pre ≡ suc (length r.before) + (length X + length x.before)
  pre-size =
      let c = length-append r.before (b.opening ∷ (X ++ x.before)) in
      let d = length-append X x.before in
      omega arith

  run : Ran s n keyword pointer (suc (length r.before) + (length X + length x.before)) (length mid)
  run = ran s g n b r good keyword pointer x

  bytes-are : bytes_in s asked ≡ joined mid
  bytes-are =
      let e : asked.first ≡ length pre * 81 = run.first ∙ ap (λ (i : ℕ). i * 81) (sym pre-size) in
      ap (λ (m : ℕ). take m (drop asked.first s)) run.bytes
      ∙ ap (λ (m : ℕ). take (length mid * 81) (drop m s)) e
      ∙ part_of s pre mid post (g.same ∙ ap joined records-split)
      (subst (λ (rs : List Record). All Long rs) records-split (long s g))

  answered-so : (asked.answer ≡ answer_of 0) × (bytes_in s asked ≡ joined mid)
  answered-so = (zeros run.number, bytes-are)

-- THE THEOREM
pub passage_of_bib : PassageOfBib
passage_of_bib s g n b (first_bib u there) keyword pointer x =
    answered-so s g 1 b (first-bib-reached g.entry g.good b there)
    (first-bib-good g.entry g.good b there) keyword pointer x
passage_of_bib s g n b (later_bib before after l u among there) keyword pointer x =
    answered-so s g (own_number l.opening) b (bib-reached g.entry g.good before after l among b there)
    (bib-good g.entry g.good before after l among b there) keyword pointer x
