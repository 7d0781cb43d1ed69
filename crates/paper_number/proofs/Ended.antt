-- Where the reading of a number ends: its columns are a field, and the reading has its sign, its digits and its places.
-- Proved for each of the three places where a number can end; what is told of a field follows from the record.
-- Assumes nothing.
use mathlib.Core.Path.{◌≡◌, refl, ap}
use mathlib.Core.Bool.{Bool}
use mathlib.Core.List.{List, append_assoc, append-nil}
use Prim.Native.Nat.{ℕ}
use lib.ListN.{length}
use Rattle.paper_number.specs.Grammar.{blanks, minus, Tail, plain, power, Field, write, Spells}
use Rattle.paper_number.specs.Value.{digits_of}
use Rattle.paper_number.specs.Reading.{Mantissa}
use Rattle.paper_number.proofs.Reach.{Pointed, Behind, Raised}

-- the columns l are a field with the sign, the digits and the places of m, and the tail t
pub record Ended (l : List ℕ) (m : Mantissa) (t : Tail) : Type 0 where
  pub field : Field
  pub spells : Spells l field
  pub sign : minus field.sign ≡ m.negative
  pub number : digits_of field ≡ m.number
  pub places : length field.part ≡ m.places
  pub tail : field.tail ≡ t

module _ (l : List ℕ) (m : Mantissa) where
  -- k blanks behind the digits
  pub ended-gap : (k : ℕ) → Behind l m (blanks k) → Ended l m (plain k)
  unfolding write
  ended-gap k r =
      let w = r.pointed in
      record {
        field = record { lead = w.lead; sign = w.sign; whole = w.whole; part = w.part; tail = plain k };
        spells = record {
          good = record { digits = w.digits; some = w.some; tail = tt };
          same = rw (r.same, w.same) (simp append_assoc);
        };
        sign = ap (λ (x : Mantissa). x.negative) w.sense;
        number = ap (λ (x : Mantissa). x.number) w.sense;
        places = ap (λ (x : Mantissa). x.places) w.sense;
        tail = refl;
      }

  -- and none
  pub ended-fraction : Pointed l m → Ended l m (plain 0)
  ended-fraction r = ended-gap 0 (record { front = l; same = rw append-nil refl; pointed = r })

  -- an exponent
  pub ended-power : (s : Bool) (e : ℕ) (r : Raised l m s e) → Ended l m (power r.opening r.power)
  unfolding write
  ended-power s e r =
      let w = r.behind.pointed in
      record {
        field = record {
          lead = w.lead;
          sign = w.sign;
          whole = w.whole;
          part = w.part;
          tail = power r.opening r.power;
        };
        spells = record {
          good = record { digits = w.digits; some = w.some; tail = (r.digits, r.some) };
          same = rw (r.behind.same, w.same) (simp append_assoc);
        };
        sign = ap (λ (x : Mantissa). x.negative) w.sense;
        number = ap (λ (x : Mantissa). x.number) w.sense;
        places = ap (λ (x : Mantissa). x.places) w.sense;
        tail = refl;
      }
