-- The verdict is the judge's, for 5 and 6 characters are expected, and the other refusals stand alone.
-- Assumes nothing.
use Prim.Native.Nat.{ℕ}
use mathlib.Core.Path.{◌≡◌, refl, ◌∙◌, ap}
use native.Mathlib.Omega.{arith}
use lib.Dec.{eqb}
use Rattle.laws.proofs.Search.{either}
use Rattle.paper_rules.specs.declared.types.Track.{Track}
use Rattle.paper_rules.specs.declared.types.Ranges.{Ranges}
use Rattle.paper_rules.specs.State.{Seen}
use Rattle.paper_rules.specs.Record.{Fields, Record}
use Rattle.laws.proofs.EitherWay.{either_way}
use Rattle.paper_entry.specs.Judging.{judge_of}
use Rattle.paper_reasons.specs.declared.types.Facts.TheVariants.{Alone, Expected}
use Rattle.paper_reasons.specs.declared.types.Reason.{Reason}
use Rattle.paper_reasons.specs.Reason.{nothing, reason_for, reason_at, explain}
use Rattle.paper_reasons.proofs.NoReason.{reason-none}
use Rattle.reasons_true.specs.Said.{ExplainedVerdict, ExpectedSaid, AloneSaid}
use Rattle.reasons_true.proofs.ReasonAt.{reason-at}

pub explained-verdict : ExplainedVerdict
unfolding explain
explained-verdict s = refl

-- ---- 5 and 6

module _ (t : Track) (s : Seen) (g : Ranges) (role : ℕ) (fs : Fields) (r : Record) (column : ℕ) where
  abbrev given : ℕ → Reason
  given number = reason_for t s g role fs r number column

  five : (given 5).facts ≡ Expected
  unfolding reason_for
  five = refl

  six : (given 6).facts ≡ Expected
  unfolding reason_for
  six = refl

pub expected-said : ExpectedSaid
expected-said s i n k a b e =
    ap (λ (x : Reason). x.facts) (reason-at s i n k e)
    ∙ either n 6
    (λ l. let z : n ≡ 5 = omega arith in ap (λ (m : ℕ). (reason_at s i m k).facts) z ∙ five _ _ _ _ _ _ k)
    (λ l. let z : n ≡ 6 = omega arith in ap (λ (m : ℕ). (reason_at s i m k).facts) z ∙ six _ _ _ _ _ _ k)

pub alone-said : AloneSaid
unfolding explain
alone-said s h =
    let v = judge_of s in
    either_way (λ (x : Reason). x.facts ≡ Alone) (eqb v.«record».0 0) nothing _ refl
    (ap (λ (x : Reason). x.facts) (reason-none _ _ _ _ _ _ v.refusal v.column h))
