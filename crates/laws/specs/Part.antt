-- A part of what the caller lends (document 01, "Refusal numbers and their order"):
--
--   "Heading and unit are handed back as a part of the caller's entry, ten columns .. a passage likewise, whole records."
--
-- A slice is its place, block and offset of its reference, and its bytes. Equal bytes in another place are not that
-- part; so every call that hands a part back promises both, by this record and an equation of bytes.
use Rattle.std.specs.Prelude.{ℕ, ◌+◌, ◌≡◌}

-- the part begins n bytes behind the beginning of the whole
pub record Behind (whole part : ℕ × ℕ) (n : ℕ) : Type 0 where
  pub block : part.0 ≡ whole.0
  pub offset : part.1 ≡ whole.1 + n
