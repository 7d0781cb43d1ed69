-- From the reading to the grammar: what the columns read so far look like, by the place where the reading stands.
--
-- `Reach p s` says it for the columns p and the place s. One column more keeps it true (`reach_step`, a clause for each
-- place and in it a line for each kind of byte), so it holds at the end of every list (`reached`).
-- Assumes nothing.
use mathlib.Core.Path.{◌≡◌, refl}
use mathlib.Core.Bool.{Bool, false}
use mathlib.Core.List.{List, [], ◌∷◌, ◌++◌, append_assoc, append-nil}
use Prim.Native.Nat.{ℕ, zero, suc, ◌+◌, ◌*◌, ◌<◌, ◌≤◌}
use native.Mathlib.Nat.{zero-add}
use native.Mathlib.Omega.{arith}
use lib.ListN.{length, length-append}
use Rattle.paper_number.specs.Grammar.{blanks, Digits, digits_text, num_from, num, Sign, unsigned, signed, sign_byte}
use Rattle.paper_number.specs.Grammar.{sign_text}
use Rattle.paper_number.specs.Grammar.{minus, Opening, by_sign, by_mark, by_bare, open_text, below}
use Rattle.paper_number.specs.Reading.{column_of, Mantissa, mantissa, longer, Scan, Lead, Signed, Whole, Point, Fraction}
use Rattle.paper_number.specs.Reading.{Gap, Mark, MarkGap, PowerSign, Power, Bad, scan_step, scan_of}
use Rattle.paper_number.proofs.Bytes.{on-byte}

-- ---- one element more

blanks-more : (k : ℕ) → blanks k ++ (32 ∷ []) ≡ blanks (suc k)
blanks-more zero = refl
blanks-more (suc k) = rw (blanks-more k) refl

pub text-append : (a b : List ℕ) → digits_text (a ++ b) ≡ digits_text a ++ digits_text b
text-append [] b = refl
text-append (d ∷ a) b = rw (text-append a b) refl

pub num_from-append : (n : ℕ) (a b : List ℕ) → num_from n (a ++ b) ≡ num_from (num_from n a) b
num_from-append n [] b = refl
num_from-append n (d ∷ a) b = num_from-append (n * 10 + d) a b

pub digits_append : (a b : List ℕ) → Digits a → Digits b → Digits (a ++ b)
digits_append [] b h k = k
digits_append (d ∷ a) b h k = (h.0, digits_append a b h.1 k)

-- ---- what was read

-- blanks and a sign, if there is one
pub record Begun (p : List ℕ) (g : Bool) : Type 0 where
  pub lead : ℕ
  pub sign : Sign
  pub same : p ≡ blanks lead ++ sign_text sign
  pub sense : minus sign ≡ g

-- and digits before the point
pub record Wholes (p : List ℕ) (g : Bool) (c : ℕ) : Type 0 where
  pub lead : ℕ
  pub sign : Sign
  pub whole : List ℕ
  pub same : p ≡ blanks lead ++ (sign_text sign ++ digits_text whole)
  pub sense : minus sign ≡ g
  pub number : num whole ≡ c
  pub digits : Digits whole
  pub some : 1 ≤ length whole

-- and the point, and digits behind it
pub record Pointed (p : List ℕ) (m : Mantissa) : Type 0 where
  pub lead : ℕ
  pub sign : Sign
  pub whole : List ℕ
  pub part : List ℕ
  pub same : p ≡ blanks lead ++ (sign_text sign ++ (digits_text whole ++ (46 ∷ digits_text part)))
  pub sense : mantissa (minus sign) (num (whole ++ part)) (length part) ≡ m
  pub digits : Digits (whole ++ part)
  pub some : 1 ≤ length (whole ++ part)

-- and more columns
pub record Behind (p : List ℕ) (m : Mantissa) (more : List ℕ) : Type 0 where
  pub front : List ℕ
  pub same : p ≡ front ++ more
  pub pointed : Pointed front m

-- which are an exponent
pub record Raised (p : List ℕ) (m : Mantissa) (s : Bool) (e : ℕ) : Type 0 where
  pub opening : Opening
  pub power : List ℕ
  pub behind : Behind p m (open_text opening ++ digits_text power)
  pub sense : below opening ≡ s
  pub number : num power ≡ e
  pub digits : Digits power
  pub some : 1 ≤ length power

abbrev pub Reach : List ℕ → Scan → Type 0
Reach p Lead = (n : ℕ) × (p ≡ blanks n)
Reach p (Signed g) = Begun p g
Reach p (Whole g c) = Wholes p g c
Reach p (Point g) = (q : List ℕ) × Begun q g × (p ≡ q ++ (46 ∷ []))
Reach p (Fraction m) = Pointed p m
Reach p (Gap m) = (k : ℕ) × Behind p m (blanks k)
Reach p (Mark m) = (k : ℕ) × Behind p m (open_text (by_bare k 0))
Reach p (MarkGap m) = (k : ℕ) × (j : ℕ) × Behind p m (open_text (by_bare k j))
Reach p (PowerSign m s) = (o : Opening) × (below o ≡ s) × Behind p m (open_text o)
Reach p (Power m s e) = Raised p m s e
Reach p Bad = Unit {0}

-- ---- one column more

module _ (p : List ℕ) (b : ℕ) where
  abbrev Next : Scan → Type 0
  Next s = Reach (p ++ (b ∷ [])) s

  more-behind : {m : Mantissa} {t : List ℕ} (u : List ℕ) → t ++ (b ∷ []) ≡ u → Behind p m t → Behind (p ++ (b ∷ [])) m u
  more-behind {m} {t} u e r =
      record {
        front = r.front;
        same = rw (r.same, ← e) (append_assoc r.front t (b ∷ []));
        pointed = r.pointed;
      }

  at-end : {m : Mantissa} (u : List ℕ) → b ∷ [] ≡ u → Pointed p m → Behind (p ++ (b ∷ [])) m u
  at-end u e r = record { front = p; same = rw (← e) refl; pointed = r }

  -- an exponent's first digit
  first-digit : {m : Mantissa} (o : Opening) (d : ℕ) → d < 10 → b ≡ 48 + d → Behind p m (open_text o)
      → Raised (p ++ (b ∷ [])) m (below o) d
  first-digit o d l q r =
      record {
        opening = o;
        power = d ∷ [];
        behind = more-behind _ (rw q refl) r;
        sense = refl;
        number = omega arith;
        digits = (l, tt);
        some = omega arith;
      }

  reach_step : (s : Scan) → Reach p s → Next (scan_step s (column_of b))
  reach_step Lead (n, e) =
      on-byte Next b Lead (λ d. Whole false d) (Point false) (λ g. Signed g) Bad
      (λ q. (suc n, rw (e, q) (blanks-more n)))
      (λ d l q. record {
        lead = n;
        sign = unsigned;
        whole = d ∷ [];
        same = rw (e, q) refl;
        sense = refl;
        number = omega arith;
        digits = (l, tt);
        some = omega arith;
      })
      (λ q. (p, record { lead = n; sign = unsigned; same = rw (e, append-nil) refl; sense = refl }, rw q refl))
      (λ g q. record { lead = n; sign = signed g; same = rw (e, q) refl; sense = refl })
      (λ q. tt) tt
  reach_step (Signed g) r =
      on-byte Next b Bad (λ d. Whole g d) (Point g) (λ g. Bad) Bad
      (λ q. tt)
      (λ d l q. record {
        lead = r.lead;
        sign = r.sign;
        whole = d ∷ [];
        same = rw (r.same, q) (append_assoc (blanks r.lead) (sign_text r.sign) ((48 + d) ∷ []));
        sense = r.sense;
        number = omega arith;
        digits = (l, tt);
        some = omega arith;
      })
      (λ q. (p, r, rw q refl))
      (λ g q. tt) (λ q. tt) tt
  reach_step (Whole g c) r =
      on-byte Next b Bad (λ d. Whole g (c * 10 + d)) (Fraction (mantissa g c 0)) (λ g. Bad) Bad
      (λ q. tt)
      (λ d l q. record {
        lead = r.lead;
        sign = r.sign;
        whole = r.whole ++ (d ∷ []);
        same = rw (r.same, q) (simp (append_assoc, text-append));
        sense = r.sense;
        number = rw (num_from-append, r.number) refl;
        digits = digits_append r.whole (d ∷ []) r.digits (l, tt);
        some = simp length-append (omega arith);
      })
      (λ q. record {
        lead = r.lead;
        sign = r.sign;
        whole = r.whole;
        part = [];
        same = rw (r.same, q) (simp append_assoc);
        sense = rw (append-nil, r.number, r.sense) refl;
        digits = rw append-nil r.digits;
        some = rw append-nil r.some;
      })
      (λ g q. tt) (λ q. tt) tt
  reach_step (Point g) (q, r, e) =
      on-byte Next b Bad (λ d. Fraction (mantissa g d 1)) Bad (λ g. Bad) Bad
      (λ q. tt)
      (λ d l w. record {
        lead = r.lead;
        sign = r.sign;
        whole = [];
        part = d ∷ [];
        same = rw (e, r.same, w) (simp append_assoc);
        sense = rw (r.sense, zero-add) refl;
        digits = (l, tt);
        some = omega arith;
      })
      (λ q. tt) (λ g q. tt) (λ q. tt) tt
  reach_step (Fraction m) r =
      on-byte Next b (Gap m) (λ d. Fraction (longer m d)) Bad (λ g. PowerSign m g) (Mark m)
      (λ q. (1, at-end (32 ∷ []) (rw q refl) r))
      (λ d l q. record {
        lead = r.lead;
        sign = r.sign;
        whole = r.whole;
        part = r.part ++ (d ∷ []);
        same = rw (r.same, q) (simp (append_assoc, text-append));
        sense =
            rw (← r.sense, ← append_assoc r.whole r.part (d ∷ []))
            (rw (num_from-append 0 (r.whole ++ r.part) (d ∷ []), length-append r.part (d ∷ [])) refl);
        digits = rw (← append_assoc) (digits_append (r.whole ++ r.part) (d ∷ []) r.digits (l, tt));
        some = rw (← append_assoc) (simp length-append (omega arith));
      })
      (λ q. tt)
      (λ g q. (by_sign 0 g, refl, at-end (sign_byte g ∷ []) (rw q refl) r))
      (λ q. (0, at-end (69 ∷ []) (rw q refl) r)) tt
  reach_step (Gap m) (k, r) =
      on-byte Next b (Gap m) (λ d. Bad) Bad (λ g. PowerSign m g) (Mark m)
      (λ q. (suc k, more-behind _ (rw q (blanks-more k)) r))
      (λ d l q. tt) (λ q. tt)
      (λ g q. (by_sign k g, refl, more-behind _ (rw q refl) r))
      (λ q. (k, more-behind _ (rw q refl) r)) tt
  reach_step (Mark m) (k, r) =
      on-byte Next b (MarkGap m) (λ d. Power m false d) Bad (λ g. PowerSign m g) Bad
      (λ q. (k, 1, more-behind _ (rw q (append_assoc (blanks k) (69 ∷ []) (32 ∷ []))) r))
      (λ d l q. first-digit (by_bare k 0) d l q r)
      (λ q. tt)
      (λ g q. (by_mark k g, refl, more-behind _ (rw q (append_assoc (blanks k) (69 ∷ []) (sign_byte g ∷ []))) r))
      (λ q. tt) tt
  reach_step (MarkGap m) (k, j, r) =
      on-byte Next b (MarkGap m) (λ d. Power m false d) Bad (λ g. Bad) Bad
      (λ q. (k, suc j, more-behind _ (rw (q, append_assoc (blanks k) (69 ∷ blanks j) (32 ∷ []), blanks-more j) refl) r))
      (λ d l q. first-digit (by_bare k j) d l q r)
      (λ q. tt) (λ g q. tt) (λ q. tt) tt
  reach_step (PowerSign m s) (o, e, r) =
      on-byte Next b Bad (λ d. Power m s d) Bad (λ g. Bad) Bad
      (λ q. tt) (λ d l q. rw (← e) (first-digit o d l q r)) (λ q. tt) (λ g q. tt) (λ q. tt) tt
  reach_step (Power m s e) r =
      on-byte Next b Bad (λ d. Power m s (e * 10 + d)) Bad (λ g. Bad) Bad
      (λ q. tt)
      (λ d l q. record {
        opening = r.opening;
        power = r.power ++ (d ∷ []);
        behind = more-behind _ (rw q (simp (append_assoc, text-append))) r.behind;
        sense = r.sense;
        number = rw (num_from-append, r.number) refl;
        digits = digits_append r.power (d ∷ []) r.digits (l, tt);
        some = simp length-append (omega arith);
      })
      (λ q. tt) (λ g q. tt) (λ q. tt) tt
  reach_step Bad r = tt

reach-all : (l p : List ℕ) (s : Scan) → Reach p s → Reach (p ++ l) (scan_of s l)
reach-all [] p s r = rw append-nil r
reach-all (b ∷ l) p s r =
    rw (← append_assoc p (b ∷ []) l) (reach-all l (p ++ (b ∷ [])) (scan_step s (column_of b)) (reach_step p b s r))

-- what a whole list looks like, by where its reading ends
pub reached : (l : List ℕ) → Reach l (scan_of Lead l)
reached l = reach-all l [] Lead (0, refl)
