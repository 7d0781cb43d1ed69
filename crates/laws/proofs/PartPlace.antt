-- Two parts that begin as many bytes behind one whole begin in one place: the record leaves no choice.
-- Assumes nothing.
use Prim.Native.Nat.{ℕ}
use mathlib.Core.Path.{◌≡◌, ◌∙◌, sym}
use Rattle.laws.specs.Part.{Behind}

pub one_place : {whole a b : ℕ × ℕ} {n : ℕ} → Behind whole a n → Behind whole b n → a ≡ b
one_place p q =
    let block = p.block ∙ sym q.block in
    let offset = p.offset ∙ sym q.offset in
    λ i. (block i, offset i)
