-- An answer about lines comes back from its word.
-- Assumes nothing.
use Prim.Native.Nat.{ℕ, ◌+◌, ◌*◌, ◌/◌, ◌%◌, ◌<◌, ◌≤◌}
use mathlib.Core.Path.{◌≡◌, ap, ◌∙◌}
use native.Mathlib.Omega.{arith}
use Rattle.paper_cinda.specs.declared.types.LinesAnswer.{LinesAnswer}
use Rattle.cinda_laws.specs.Said.{LinesBounds}
use Rattle.exports_words.specs.Words.{answer_word}
use Rattle.exports_lines.specs.Lines.{lines_word}
use Rattle.lines_back.specs.Host.{said_in}
use Rattle.lines_back.specs.Claims.{WordAlike}

-- the numbers in the rooms
module _ (n k m : ℕ) (h : n < 256) (i : k < 256) (j : m < 16777216) where
  abbrev full : ℕ
  full = n + 65536 * (k + 256 * m)

  room-1 : full % 256 ≡ n
  room-1 = omega arith

  room-2 : full / 65536 % 256 ≡ k
  room-2 = omega arith

  room-3 : full / 16777216 % 16777216 ≡ m
  room-3 = omega arith

-- what fits is what its room holds
held_in : (m : ℕ) → m < 16777216 → m % 16777216 ≡ m
held_in m h = omega arith

pub said-back : (a : LinesAnswer) → LinesBounds a → said_in (lines_word a) ≡ a
unfolding said_in lines_word
said-back a b =
    let n = a.number in
    let k = a.column in
    let m = a.line.0 in
    let h : n < 256 = omega (arith, b.number) in
    let i : k < 256 = omega (arith, b.column) in
    let j : m < 16777216 = omega (arith, b.line) in
    let word : lines_word a ≡ n + 65536 * (k + 256 * m) = ap (λ x. n + 65536 * (k + 256 * x)) (held_in m j) in
    let number : (said_in (lines_word a)).number ≡ n = ap (λ w. w % 256) word ∙ room-1 n k m h i j in
    let column : (said_in (lines_word a)).column ≡ k = ap (λ w. w / 65536 % 256) word ∙ room-2 n k m h i j in
    let line : (said_in (lines_word a)).line.0 ≡ m = ap (λ w. w / 16777216 % 16777216) word ∙ room-3 n k m h i j in
    λ t. record { number = number t; line = record { 0 = line t }; column = column t }

alike : (n k x : ℕ) → n + 65536 * (k + 256 * x) ≡ n + 256 * (0 + 256 * (k + 256 * (x + 16777216 * 0)))
alike n k x = omega arith

pub word-alike : WordAlike
unfolding lines_word answer_word
word-alike a = alike a.number a.column (a.line.0 % 16777216)
