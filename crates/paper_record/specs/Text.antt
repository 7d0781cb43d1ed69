-- Texts as bytes, and ranges of characters.
use Rattle.std.specs.Prelude.{ℕ, Bool, ◌&&◌, List, [] as nil, ◌∷◌ as cons, eqb, leb}
use Prim.Native.String.{String, [], ◌∷◌}
use Prim.Native.Char.{Char, code}

-- the bytes of a text
abbrev pub text : String → List ℕ
text [] = nil
text (c ∷ s) = cons (code c) (text s)

-- low ≤ n ≤ high
abbrev pub within : ℕ → ℕ → ℕ → Bool
within low high n = leb low n && leb n high

-- the byte is one of the characters from a to z
abbrev pub is_from : Char → Char → ℕ → Bool
is_from a z b = within (code a) (code z) b

abbrev pub is_blank : ℕ → Bool
is_blank b = eqb b (code " ")

abbrev pub is_digit : ℕ → Bool
is_digit b = is_from "0" "9" b

abbrev pub is_capital : ℕ → Bool
is_capital b = is_from "A" "Z" b
