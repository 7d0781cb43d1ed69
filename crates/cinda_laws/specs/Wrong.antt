-- What is wrong with a line, and with which number and at which column it is told (document 02, M-113):
--
--   "71 line end, 72 character, 73 operation, 74 target, 75 block or sequence, 76 energy, 77 reference date not YYYYMM,
--   month 01-12; [..] (for 73 to 77 the field's first)"
use Rattle.std.specs.Prelude.{ℕ, ◌≤◌, ◌≡◌, ◌↔◌, List}
use Rattle.cinda_laws.specs.Plain.{in_column, Permitted, Operation, IntegerAt, ZedHeld, MassHeld, BlankOrDigit}
use Rattle.cinda_laws.specs.Plain.{BlockHeld, EnergyHeld, DateHeld}

-- each way to be wrong
pub data Wrong (l : List ℕ) : ℕ → ℕ → Type 0 where
  by_end : (in_column l 126 ≡ 10 → ⊥) → Wrong l 71 126
  by_character : (k : ℕ) → 1 ≤ k → k ≤ 125 → (Permitted (in_column l k) → ⊥) → Wrong l 72 k
  by_operation : (Operation (in_column l 1) → ⊥) → Wrong l 73 1
  by_zed : (ZedHeld l → ⊥) → Wrong l 74 2
  by_mass : (MassHeld l → ⊥) → Wrong l 74 5
  by_isomer : (BlankOrDigit (in_column l 8) → ⊥) → Wrong l 74 8
  by_block : (BlockHeld l → ⊥) → Wrong l 75 34
  by_sequence : (IntegerAt l 38 2 → ⊥) → Wrong l 75 38
  by_least : (EnergyHeld l 42 → ⊥) → Wrong l 76 42
  by_greatest : (EnergyHeld l 49 → ⊥) → Wrong l 76 49
  by_date : (DateHeld l → ⊥) → Wrong l 77 80

-- nothing is
abbrev pub NothingWrong : List ℕ → Type 0
NothingWrong l = (n k : ℕ) → Wrong l n k → ⊥

-- a good line has all that is asked
pub record GoodLine (l : List ℕ) : Type 0 where
  pub line_end : in_column l 126 ≡ 10
  pub characters : (k : ℕ) → 1 ≤ k → k ≤ 125 → Permitted (in_column l k)
  pub operation : Operation (in_column l 1)
  pub zed : ZedHeld l
  pub mass : MassHeld l
  pub isomer : BlankOrDigit (in_column l 8)
  pub block : BlockHeld l
  pub sequence : IntegerAt l 38 2
  pub least : EnergyHeld l 42
  pub greatest : EnergyHeld l 49
  pub date : DateHeld l

-- a line is good exactly where nothing is wrong with it
abbrev pub GoodLineExactly : Type 0
GoodLineExactly = (l : List ℕ) → GoodLine l ↔ NothingWrong l
