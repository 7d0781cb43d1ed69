-- What stands behind an accepted entry is refused at its first record: the end is met, and nothing is due any more.
-- Assumes nothing.
use Prim.Native.Nat.{ℕ, ◌+◌, ◌*◌, ◌/◌, ◌≤◌}
use mathlib.Core.Path.{◌≡◌, sym, ap, subst}
use mathlib.Core.Bool.{true}
use mathlib.Core.List.{List, ◌++◌}
use native.Mathlib.Omega.{arith}
use lib.ListN.{length, take, length-append}
use lib.Seq.{drop_at}
use Rattle.laws.specs.Blocks.{block_at}
use Rattle.paper_entry.specs.declared.types.Verdict.{Verdict}
use Rattle.paper_entry.specs.Verdict.{refused, is_done}
use Rattle.paper_entry.specs.Judging.{judge_of}
use Rattle.paper_entry.specs.Contexts.{context_at}
use Rattle.entry_walk.specs.First.{First, NothingFound, by_length, by_record, by_end, by_none}
use Rattle.entry_walk.proofs.FirstRefused.{refused_first}
use Rattle.entry_walk.proofs.FirstAlone.{first_alone}
use Rattle.paper_entry.proofs.Lengths.{whole-records}
use Rattle.below.specs.Added.{BehindEnd, no_line_feed, not-permitted, nothing_due, AddedRefused, AnythingAdded}
use Rattle.below.proofs.Agree.{contexts-agree, nothing-agree, added-agree, length-exactly}
use Rattle.below.proofs.Below.{from-two, least-numbered}
use Rattle.below.proofs.Behind.{said-behind}

-- nothing is found in an accepted entry, and its end is met
pub end-met : (s : List ℕ) (v : Verdict) → First s v → v.refusal ≡ 0
    → NothingFound s × (is_done (context_at s (length s / 81)).phase ≡ true)
end-met s v (by_length e) z = absurd (omega arith)
end-met s v (by_record i n k a) z =
    let h = (from-two n (least-numbered (context_at s i) (block_at 81 s i) n k a.least)).0 in absurd (omega arith)
end-met s v (by_end a e) z = absurd (omega arith)
end-met s v (by_none a e) z = (a, e)

-- 2, 3 or 4
pub two-to-four : (r : List ℕ) (n k : ℕ) → BehindEnd r n k → (2 ≤ n) × (n ≤ 4)
two-to-four r n k (no_line_feed e) = (omega arith, omega arith)
two-to-four r n k (not-permitted i e h p b) = (omega arith, omega arith)
two-to-four r n k (nothing_due e p) = (omega arith, omega arith)

pub anything-added : AnythingAdded
anything-added s x f some w =
    let m = end-met s (judge_of s) (refused_first s) f in
    let n = length s / 81 in
    let whole : length s ≡ n * 81 = (whole-records (length s) m.0.length-good).0 in
    let agrees = added-agree s x n (omega arith) in
    let same : context_at (s ++ x) n ≡ context_at s n = contexts-agree n s (s ++ x) agrees n (omega arith) in
    let here : block_at 81 (s ++ x) n ≡ take 81 x = ap (take 81) (drop_at s x (n * 81) whole) in
    let b = said-behind (context_at (s ++ x) n) (block_at 81 (s ++ x) n) (rw same m.1) in
    let told : BehindEnd (take 81 x) b.number b.column =
    subst (λ (r : List ℕ). BehindEnd r b.number b.column) here b.said in
    record {
      number = b.number;
      column = b.column;
      from = (two-to-four (take 81 x) b.number b.column told).0;
      to = (two-to-four (take 81 x) b.number b.column told).1;
      said = told;
      verdict = sym (first_alone (s ++ x) (refused b.number (record { 0 = n + 1 }) b.column)
          (by_record n b.number b.column (record {
            length-good = (length-exactly (length (s ++ x))).1 w;
            there = let e = w.whole in omega (arith, length-append s x);
            earlier = nothing-agree n s (s ++ x) agrees m.0.all;
            least = b.least;
          })));
    }

pub added-refused : AddedRefused
added-refused s r f wide room =
    let good = (end-met s (judge_of s) (refused_first s) f).0.length-good in
    let n = length s / 81 in
    let whole : length s ≡ n * 81 = (whole-records (length s) good).0 in
    anything-added s r f (omega arith)
    (record {
      records = n + 1;
      some = omega arith;
      most = omega arith;
      whole = omega (arith, length-append s r);
    })
