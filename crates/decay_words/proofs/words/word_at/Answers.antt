use mathlib.Core.Path.{◌≡◌, refl}
use Prim.Native.Nat.{ℕ, ◌+◌, ◌-◌, ◌≤◌, ◌<◌}
use native.Mathlib.Omega.{arith}
use native.Mathlib.Nat.{sub-zero}
use Rattle.laws.proofs.Search.{less}
use Rattle.decay_words.proofs.Cutting.{cutting-all, cutting-next, cutting-done, cutting-out}
use Rattle.decay_words.proofs.words.word_at.Goals as goal

inside : {a n : ℕ} → a ≤ n → (a ≡ n → ⊥) → a < n
inside h e = omega arith

pub loop-word-init : goal.loop-word-init
loop-word-init c = (refl, (omega arith, rw sub-zero (cutting-all _ _ _)))

pub find_byte-end-requires : goal.find_byte-end-requires
find_byte-end-requires c = c.loop-word.invariant.1.1.low

pub returns-then-end-n : goal.returns-then-end-n
returns-then-end-n c =
    let text = c.args.text.now in
    let k = c.args.k in
    let x = c.args.c in
    let start = c.loop-word.start in
    let i = c.loop-word._word in
    let inv = c.loop-word.invariant in
    let e = c.find_byte-end.ensures.value in
    record {
      value = rw inv.0 (cutting-out x text k start (k - (i + 1)) (rw (less i k (omega arith)) at inv.1.1) (rw (← e) (omega arith)));
      length_in_bounds = omega arith;
    }

pub loop-word-preserved : goal.loop-word-preserved
loop-word-preserved c =
    let text = c.args.text.now in
    let k = c.args.k in
    let x = c.args.c in
    let start = c.loop-word.start in
    let i = c.loop-word._word in
    let inv = c.loop-word.invariant in
    let e = c.find_byte-end.ensures.value in
    let h = c.find_byte-end.ensures.lower_bound.1 in
    let n = c.if-end-n.false in
    let one = rw (less i k (omega arith)) at inv.1.1 in
    (inv.0, (omega arith, rw e (cutting-next x text k start (k - (i + 1)) one (rw (← e) (inside h n)))))

pub find_byte-past-requires : goal.find_byte-past-requires
find_byte-past-requires c = c.loop-word.invariant.1.1.low

pub returns : goal.returns
returns c =
    let text = c.args.text.now in
    let k = c.args.k in
    let x = c.args.c in
    let start = c.loop-word.start in
    let i = c.loop-word._word in
    let inv = c.loop-word.invariant in
    let e = c.find_byte-past.ensures.value in
    let z : k - i ≡ 0 = omega arith in
    record {
      value = rw e (cutting-done x text k start (rw z at inv.1.1));
      length_in_bounds = omega arith;
    }
