use Rattle.std.proofs.Common.{◌≡◌, ℕ, ◌+◌, ◌-◌, ◌≤◌, List, ◌++◌, rules, arith, length, take, slice_range, sym, ap, ◌∙◌, subst, le_refl, drop_at, length-take-le}
use Rattle.std.proofs.lemmas.Slice.{take-put_mid_below}
use Rattle.std.specs.Io.KnownBytes.{Consumes}
use Rattle.std.proofs.KnownBytes.{Consumes-trans}
use borrow.Rule.Slice.PartMut.{put_mid, post_of}
use lib.Seq.{take-add, take-append-le}
use Rattle.program_text.proofs.read_full.Goals as goal

-- A buffer up to b is what it was up to a, and what stands in it from a to b.
take_split : (a b : ℕ) (old new : List ℕ) → a ≤ b → take a new ≡ take a old → take a old ++ slice_range new a b ≡ take b new
take_split a b old new h front =
    let same : a + (b - a) ≡ b = omega arith in
    ap (λ l. l ++ slice_range new a b) (sym front) ∙ sym (take-add a (b - a) new) ∙ ap (λ n. take n new) same

-- From a on stand the first n of what was put there.
slice_range-put_mid : (a k n : ℕ) (xs ys : List ℕ) → a ≤ length xs → n ≤ length ys → slice_range (put_mid a k xs ys) a (a + n) ≡ take n ys
slice_range-put_mid a k n xs ys within fits =
    let same : (a + n) - a ≡ n = omega arith in
    let after = post_of a k xs in
    ap (take ((a + n) - a)) (drop_at (take a xs) (ys ++ after) a (length-take-le a xs within)) ∙ ap (λ m. take m (ys ++ after)) same ∙ take-append-le n ys after fits

pub loop-used-preserved : goal.loop-used-preserved
loop-used-preserved g c =
    let from = c.loop-used.used in
    let n = c.in-Ok.count in
    let buffer = c.loop-used.buffer in
    let room = length buffer - from in
    let within = c.loop-used.invariant.1 in
    let part = slice_range-put_mid from room n buffer c.read.new.buf within c.in-Ok.ensures.bound.0 in
    let joined = take_split from (from + n) buffer (put_mid from room buffer c.read.new.buf) (omega arith) (take-put_mid_below _ _ _ _ _ (le_refl _) within) in (
      search rules,
      search rules,
      subst (Consumes _ _) (ap (λ l. take from buffer ++ l) (sym part) ∙ joined) (Consumes-trans _ _ _ _ _ c.loop-used.invariant.2 c.in-Ok.ensures.bytes.0),
    )
