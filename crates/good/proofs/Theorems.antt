-- THE THEOREMS: the judge accepts the bytes of a good entry, and no others; and the totals of its verdict are the sums
-- over the parts of that entry.
--
-- An accepted verdict means that every turn of the judge's walk goes on (`walk-goes`), so that every record is clean.
-- Such a walk is taken apart from its front: ENTRY, 001, the later subentries, ENDENTRY; each section by its counts;
-- each row by its columns. The same lemmas lead back, since each says of one part that the judge passes it exactly when
-- its clauses hold.
-- Assumes nothing.
use Prim.Native.Nat.{ℕ, ◌*◌, ◌/◌}
use mathlib.Core.Path.{◌≡◌, refl, sym, ◌∙◌, ap}
use mathlib.Core.Bool.{Bool, true, false, cond}
use mathlib.Core.List.{List, [], ◌∷◌}
use native.Mathlib.Omega.{arith}
use lib.ListN.{length}
use Rattle.laws.specs.Walk.{walk, All}
use Rattle.laws.specs.Blocks.{blocks, joined}
use Rattle.laws.proofs.Walk.{goes-walk, walk-goes}
use Rattle.laws.proofs.Blocks.{joined-blocks, blocks-joined, length-joined, blocks-wide, length-blocks}
use Rattle.paper_rules.specs.State.{Context, start_context}
use Rattle.paper_entry.specs.declared.types.Verdict.{Verdict}
use Rattle.paper_entry.specs.Judging.{role_of, turn_of, end_of, judge_of}
use Rattle.paper_entry.specs.Verdict.{refused, accepted, is_done, length_good}
use Rattle.entry_walk.proofs.GoingOn.{done-of, out-refused}
use Rattle.paper_entry.proofs.Lengths.{whole-records, of-whole}
use Rattle.rules_plain.specs.Places.{Long}
use Rattle.good.specs.Parts.{Record, records_of}
use Rattle.good.specs.Good.{GoodBytes}
use Rattle.good.specs.Claims.{AcceptedExactly, GoodAccepted}
use Rattle.good.proofs.Steps.{Passes, next, goes-passes, passes-goes}
use Rattle.good.proofs.Entries.{pass-entry, entry-pass}

abbrev Fair : Verdict → Type 0
Fair v = v.refusal ≡ 0

-- ---- the last context of an accepted walk

end_is : (c : Context) → is_done c.phase ≡ true → end_of c ≡ accepted c.track.totals
unfolding end_of
end_is c e = rw e

pub passes-long : (c : Context) (rs : List Record) (z : Context) → Passes c rs z → All Long rs
unfolding Passes
passes-long c [] z p = tt
passes-long c (r ∷ rs) z p = (p.0.0, passes-long (next c (role_of c r) r) rs z p.1)

-- ---- the theorems

by_length : {X : Type 0} (b : Bool) (v w : Verdict) → (w.refusal ≡ 0 → ⊥) → (cond b v w).refusal ≡ 0
    → (b ≡ true → v.refusal ≡ 0 → X) → X
by_length true v w n h k = k refl h
by_length false v w n h k = absurd (n h)

-- accepted bytes are those of a good entry
pub accepted-good : (s : List ℕ) → (judge_of s).refusal ≡ 0 → GoodBytes s
unfolding judge_of
accepted-good s h =
    let n = length s / 81 in
    let rs = blocks 81 n s in
    by_length (length_good (length s)) (walk turn_of end_of start_context 0 rs) (refused 1 (record { 0 = 0 }) 0)
    (λ e. omega arith) h
    (λ good fair.
    let (long, most) = whole-records (length s) good in
    let (z, goes) = walk-goes turn_of Fair out-refused end_of start_context 0 rs fair in
    let done = done-of z (ap (λ (v : Verdict). v.refusal) (sym (goes-walk turn_of end_of start_context 0 rs z goes))
    ∙ fair) in
    let p = pass-entry rs z done (goes-passes start_context 0 rs z (blocks-wide 81 n s long) goes) in
    let k : length (records_of p.entry) ≡ n = ap length (sym p.split) ∙ length-blocks 81 n s in
    record {
      entry = p.entry;
      good = p.good;
      same = sym (joined-blocks 81 n s long) ∙ ap joined p.split;
      most = rw k most;
    })

-- the bytes of a good entry are accepted, with the totals of that entry
pub good-accepted : GoodAccepted
unfolding judge_of
good-accepted s g =
    let rs = records_of g.entry in
    let f = entry-pass g.entry g.good in
    let long = passes-long start_context rs f.last f.passes in
    let e : length s ≡ length rs * 81 = ap length g.same ∙ length-joined 81 rs long in
    let d : length s / 81 ≡ length rs = omega arith in
    let b : blocks 81 (length s / 81) s ≡ rs =
    ap (λ (k : ℕ). blocks 81 k s) d ∙ ap (blocks 81 (length rs)) g.same ∙ blocks-joined 81 rs long in
    let m = g.most in
    rw (of-whole (length s) (length rs) e (omega arith) m, b)
    (goes-walk turn_of end_of start_context 0 rs f.last (passes-goes start_context 0 rs f.last f.passes)
    ∙ end_is f.last (ap is_done f.phase) ∙ ap accepted f.totals)

-- demand 2: accepted exactly when it is good, and then the totals are the sums
pub accepted_exactly : AcceptedExactly
accepted_exactly s = (accepted-good s, λ g. ap (λ (v : Verdict). v.refusal) (good-accepted s g))
