-- The first records of what is left of a file, as an entry alone: accepted where the end is met behind them, and
-- refused by 16 where it is not met behind the last.
-- Assumes nothing.
use Prim.Native.Nat.{ℕ, ◌*◌, ◌/◌, ◌%◌, ◌<◌, ◌≤◌}
use mathlib.Core.Path.{◌≡◌, sym, ◌∙◌, ap, subst}
use mathlib.Core.Bool.{true, false, not, ◌&&◌}
use mathlib.Core.List.{List}
use native.Mathlib.Omega.{arith}
use borrow.Author.Tests.{eqb-true, eqb-false, leb-true, ne_eqb, eq-eqb, le-leb, not-true}
use lib.Dec.{eqb, leb}
use lib.ListN.{length}
use lib.Seq.{length-take-le}
use Rattle.laws.proofs.Search.{either}
use Rattle.laws.proofs.Booleans.{and_left, and_right}
use Rattle.laws.specs.Blocks.{block_at}
use Rattle.paper_rules.specs.State.{Context}
use Rattle.paper_rules.specs.Limits.{MOST-RECORDS}
use Rattle.paper_entry.specs.declared.types.Verdict.{Verdict}
use Rattle.paper_entry.specs.Verdict.{accepted, is_done}
use Rattle.paper_entry.specs.Judging.{judge_of, Accepted}
use Rattle.paper_entry.specs.Contexts.{context_at}
use Rattle.entry_walk.specs.First.{NothingBefore, NothingFound, First, by_length, by_record, by_end, by_none}
use Rattle.entry_walk.proofs.FirstRefused.{refused_first}
use Rattle.entry_walk.proofs.FirstAlone.{first_alone}
use Rattle.paper_entry.proofs.Lengths.{of-whole}
use Rattle.below.specs.Below.{Agrees}
use Rattle.below.proofs.Agree.{contexts-agree, nothing-agree, cut-agree, length-exactly}
use Rattle.below.proofs.Below.{from-two, least-numbered}
use Rattle.below.proofs.Added.{end-met}
use Rattle.paper_files.specs.File.{MOST-IN-FILE, file_length_good}
use Rattle.files_said.specs.Said.{cut, There}
use Rattle.files_said.proofs.Inside.{done-some}

-- ---- cut behind m records

module _ (rest : List ℕ) (m : ℕ) (there : There rest m) where
  pub cut-long : length (cut m rest) ≡ m * 81
  cut-long = length-take-le (m * 81) rest there

  pub cut-count : length (cut m rest) / 81 ≡ m
  cut-count = let e = cut-long in omega arith

  -- what stands before a record of the part is what stands before it in the whole
  pub cut-back : (i : ℕ) → i ≤ m → Agrees i (cut m rest) rest
  cut-back i h j l = sym (cut-agree rest m there j (omega arith))

  pub cut-context : (i : ℕ) → i ≤ m → context_at (cut m rest) i ≡ context_at rest i
  cut-context i h = contexts-agree m rest (cut m rest) (cut-agree rest m there) i h

  -- where the end is met, they are an accepted entry
  pub cut-accepted : m ≤ MOST-RECORDS → NothingBefore rest m → is_done (context_at rest m).phase ≡ true
      → Accepted (cut m rest)
  cut-accepted few none done =
      let part = cut m rest in
      let all : NothingBefore part (length part / 81) =
      subst (λ (i : ℕ). NothingBefore part i) (sym cut-count)
      (nothing-agree m rest part (cut-agree rest m there) none) in
      let end : is_done (context_at part (length part / 81)).phase ≡ true =
      rw cut-count (ap (λ (c : Context). is_done c.phase) (cut-context m (omega arith)) ∙ done) in
      let good = of-whole (length part) m cut-long (done-some rest m done) few in
      sym (ap (λ (v : Verdict). v.refusal)
      (first_alone part (accepted (context_at part (length part / 81)).track.totals)
      (by_none (record { length-good = good; all = all }) end)))

  -- and the other way round
  pub accepted-cut : Accepted (cut m rest) → is_done (context_at rest m).phase ≡ true
  accepted-cut a =
      let part = cut m rest in
      ap (λ (c : Context). is_done c.phase) (sym (cut-context m (omega arith)))
      ∙ subst (λ (i : ℕ). is_done (context_at part i).phase ≡ true) cut-count
      (end-met part (judge_of part) (refused_first part) a).1

-- ---- refused by 16

end-missed : (s : List ℕ) (v : Verdict) → First s v → v.refusal ≡ 16
    → NothingFound s × (is_done (context_at s (length s / 81)).phase ≡ false)
end-missed s v (by_length e) z = absurd (omega arith)
end-missed s v (by_record i n k a) z =
    absurd ((from-two n (least-numbered (context_at s i) (block_at 81 s i) n k a.least)).1 z)
end-missed s v (by_end a e) z = (a, e)
end-missed s v (by_none a e) z = absurd (omega arith)

-- so many records, without fault and without the end
pub record Unended (s : List ℕ) (m : ℕ) : Type 0 where
  pub some : 0 < m
  pub few : m ≤ MOST-RECORDS
  pub none : NothingBefore s m
  pub missed : is_done (context_at s m).phase ≡ false

pub unended : (s : List ℕ) → (judge_of s).refusal ≡ 16 → Unended s (length s / 81)
unended s e =
    let m = end-missed s (judge_of s) (refused_first s) e in
    let w = (length-exactly (length s)).0 m.0.length-good in
    let some = w.some in
    let few = w.most in
    let whole = w.whole in
    record { some = omega arith; few = omega arith; none = m.0.all; missed = m.1 }

-- the same of a part that is cut off
pub cut-unended : (rest : List ℕ) (m : ℕ) → There rest m → (judge_of (cut m rest)).refusal ≡ 16 → Unended rest m
cut-unended rest m there e =
    let u : Unended (cut m rest) m = subst (Unended (cut m rest)) (cut-count rest m there) (unended (cut m rest) e) in
    record {
      some = u.some;
      few = u.few;
      none = nothing-agree m (cut m rest) rest (cut-back rest m there m (omega arith)) u.none;
      missed = ap (λ (c : Context). is_done c.phase) (sym (cut-context rest m there m (omega arith))) ∙ u.missed;
    }

-- ---- the length of a file

pub record WholeFile (n : ℕ) : Type 0 where
  pub whole : n ≡ n / 81 * 81
  pub some : 81 ≤ n
  pub most : n ≤ MOST-IN-FILE * 81

pub whole-file : (n : ℕ) → file_length_good n ≡ true → WholeFile n
unfolding file_length_good
whole-file n e =
    let rest = eqb (n % 81) 0 && leb n (MOST-IN-FILE * 81) in
    let some = eqb-false n 0 (not-true (eqb n 0) (and_left (not (eqb n 0)) rest e)) in
    let more = and_right (not (eqb n 0)) rest e in
    let z : n % 81 ≡ 0 = eqb-true (n % 81) 0 (and_left (eqb (n % 81) 0) (leb n (MOST-IN-FILE * 81)) more) in
    record {
      whole = omega arith;
      some = either n 81 (λ h. absurd (some (omega arith))) (λ h. h);
      most = leb-true n (MOST-IN-FILE * 81) (and_right (eqb (n % 81) 0) (leb n (MOST-IN-FILE * 81)) more);
    }

pub file-good : (n m : ℕ) → n ≡ m * 81 → 1 ≤ m → n ≤ MOST-IN-FILE * 81 → file_length_good n ≡ true
unfolding file_length_good
file-good n m e l h =
    rw (ne_eqb n 0 (λ z. omega arith), eq-eqb (n % 81) 0 (omega arith), le-leb n (MOST-IN-FILE * 81) h)
