-- What stands above the refused record has no fault, so that a cut there has another verdict; and an input without its
-- end has another one with each record that is added.
-- Assumes nothing.
use Prim.Native.Nat.{ℕ, ◌+◌, ◌*◌, ◌/◌, ◌<◌, ◌≤◌}
use mathlib.Core.Path.{◌≡◌, refl, sym, ◌∙◌, ap, subst}
use mathlib.Core.Bool.{true}
use mathlib.Core.List.{List, ◌++◌}
use native.Mathlib.Omega.{arith}
use lib.ListN.{length, take, length-append}
use lib.Seq.{length-take-le}
use Rattle.laws.specs.Blocks.{block_at}
use Rattle.laws.proofs.Search.{either}
use Rattle.paper_rules.specs.Limits.{MOST-RECORDS}
use Rattle.laws.proofs.EitherWay.{no}
use Rattle.paper_faults.proofs.FaultSaid.{some-found}
use Rattle.paper_entry.specs.declared.types.Verdict.{Verdict}
use Rattle.paper_entry.specs.Verdict.{refused, is_done, length_good}
use Rattle.paper_entry.specs.Judging.{judge_of}
use Rattle.paper_entry.specs.Contexts.{context_at}
use Rattle.entry_walk.specs.First.{found_at, NothingBefore, FirstAt, First, by_length, by_record, by_end, by_none}
use Rattle.entry_walk.proofs.FirstRefused.{refused_first}
use Rattle.paper_entry.proofs.Lengths.{whole-records}
use Rattle.below.specs.Above.{CutSaid, unended, ended, CutAbove, EndMoved}
use Rattle.below.proofs.Agree.{contexts-agree, nothing-agree, cut-agree, length-exactly}
use Rattle.below.proofs.Below.{from-two, judge-refused, least-numbered}
use Rattle.below.proofs.Behind.{found-behind}

-- ---- the first n records of an input whose record with the index i is refused

module _ (s : List ℕ) (i m k : ℕ) (a : FirstAt s i m k) (n : ℕ) (some : 0 < n) (above : n ≤ i) where
  abbrev part : List ℕ
  part = take (n * 81) s

  inside : n * 81 ≤ length s
  inside = let h = a.there in omega arith

  long : length part ≡ n * 81
  long = length-take-le (n * 81) s inside

  few : n ≤ MOST-RECORDS
  few = let w = (whole-records (length s) a.length-good).1 in let h = a.there in omega arith

  good : length_good (length part) ≡ true
  good = (length-exactly (length part)).1 (record { records = n; some = some; most = few; whole = long })

  count : length part / 81 ≡ n
  count = let e = long in omega arith

  none : NothingBefore part n
  none = nothing-agree n s part (cut-agree s n inside) (λ j l. a.earlier j (omega arith))

  -- were it accepted earlier, the record behind it would be refused
  next-refused : is_done (context_at part n).phase ≡ true → n + 1 ≡ i + 1
  next-refused done =
      either n i
      (λ h. absurd (found-behind (context_at s n) (block_at 81 s n)
      (rw (contexts-agree n s part (cut-agree s n inside) n (omega arith)) at done) (a.earlier n h)))
      (λ h. omega arith)

  cut-said : (v : Verdict) → First part v → v ≡ judge_of part → CutSaid part n (i + 1)
  cut-said v (by_length e) q = no (sym e ∙ good)
  cut-said v (by_record j x y b) q =
      let h = b.there in
      let c = count in
      absurd (some-found (found_at part j) x y b.least (none j (omega arith)))
  cut-said v (by_end b e) q =
      unended (sym q ∙ ap (λ (x : ℕ). refused 16 (record { 0 = x + 1 }) 0) count)
  cut-said v (by_none b e) q =
      ended (ap (λ (x : Verdict). x.refusal) (sym q))
      (next-refused (subst (λ (x : ℕ). is_done (context_at part x).phase ≡ true) count e))

pub cut-above : CutAbove
cut-above s n h some l =
    let r = judge-refused s h in
    let part = take (n * 81) s in
    let e : (judge_of s).«record».0 ≡ r.index + 1 = ap (λ (v : Verdict). v.«record».0) r.said in
    rw e
    (cut-said s r.index r.number r.column r.first n some (omega arith) (judge_of part) (refused_first part)
    refl)

-- ---- 16

-- it stands behind the last record
given-behind : (s : List ℕ) (v : Verdict) → First s v → v.refusal ≡ 16 → v.«record».0 ≡ length s / 81 + 1
given-behind s v (by_length e) z = absurd (omega arith)
given-behind s v (by_record i n k a) z =
    absurd ((from-two n (least-numbered (context_at s i) (block_at 81 s i) n k a.least)).1 z)
given-behind s v (by_end a e) z = refl
given-behind s v (by_none a e) z = absurd (omega arith)

pub end_moved : EndMoved
end_moved s r f wide same =
    let e : (judge_of (s ++ r)).refusal ≡ 16 = ap (λ (v : Verdict). v.refusal) same ∙ f in
    let a = given-behind s (judge_of s) (refused_first s) f in
    let b = given-behind (s ++ r) (judge_of (s ++ r)) (refused_first (s ++ r)) e in
    let q : (judge_of (s ++ r)).«record».0 ≡ (judge_of s).«record».0 = ap (λ (v : Verdict). v.«record».0) same in
    omega (arith, length-append s r)
