-- What the functions of the rule ask of what they are lent. Not read against the paper.
use Rattle.std.specs.Prelude.{ℕ, ◌+◌, ◌*◌, ◌<◌, ◌≤◌, ◌^◌, ◌≡◌, List, length}

pub record WholeRecords (part : List ℕ) : Type 0 where
  pub count : ℕ
  pub whole : length part ≡ count * 81

-- a heading that starts in the part ends there
pub record Room (part : List ℕ) (at : ℕ) : Type 0 where
  pub near : at < length part → at + 11 ≤ length part

-- the place of a record, with room for its fields behind it in 64 bits
pub record RecordAt (at : ℕ) : Type 0 where
  pub count : ℕ
  pub place : at ≡ count * 81
  pub near : at < 2 ^ 40
