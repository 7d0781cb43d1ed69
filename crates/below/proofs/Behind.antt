-- A record where nothing is due: 4 is found on it, and its refusal goes by the record alone.
-- Assumes nothing.
use Prim.Native.Nat.{ℕ, ◌+◌, ◌<◌, ◌≤◌}
use mathlib.Core.Path.{◌≡◌, refl, sym, ◌∙◌, ap, subst}
use mathlib.Core.Bool.{Bool, true, false, not}
use mathlib.Core.List.{List, [], ◌∷◌}
use native.Mathlib.Omega.{arith}
use borrow.Author.Tests.{ne_eqb, lt-ltb, le-ltb, not-true, not-false}
use lib.ListN.{length, get_or}
use Rattle.laws.specs.Search.{first}
use Rattle.laws.proofs.Search.{either}
use Rattle.laws.proofs.Counting.{first-before, first_holds, first-is, first_past}
use Rattle.paper_record.specs.Columns.{has_line_feed}
use Rattle.paper_record.specs.Fields.{fields_of}
use Rattle.paper_record.specs.Class.{is_permitted, not_permitted}
use Rattle.paper_record.specs.Identifier.{identifier_of}
use Rattle.paper_faults.specs.Fault.{leftmost, Finding, finding, first_fault, fault_at}
use Rattle.paper_rules.specs.Roles.{NOT-DUE}
use Rattle.paper_faults.proofs.Least.{same-fault}
use Rattle.paper_faults.proofs.Leftmost.{leftmost-where}
use Rattle.paper_rules.specs.declared.types.Phase.{Phase}
use Rattle.paper_rules.specs.declared.types.Phase.TheVariants.{Start, Opened, InSubentry, InBib, AfterBib, InCommon}
use Rattle.paper_rules.specs.declared.types.Phase.TheVariants.{AfterCommon, InData, AfterData, Between, Done}
use Rattle.paper_rules.specs.declared.types.Track.{Track}
use Rattle.paper_rules.specs.State.{Context}
use Rattle.paper_rules.specs.Role.{role_in}
use Rattle.laws.proofs.EitherWay.{no}
use Rattle.paper_rules.specs.Every.{rule2, rule3, rule4}
use Rattle.paper_rules.specs.Order.{fault_of}
use Rattle.paper_faults.specs.Least.{Least, Nothing}
use Rattle.paper_rules.proofs.Least.{fault-least}
use Rattle.paper_entry.specs.Verdict.{is_done}
use Rattle.paper_entry.specs.Judging.{role_of}
use Rattle.entry_walk.specs.First.{found_in}
use Rattle.below.specs.Added.{FirstPermitted, BehindEnd, no_line_feed, not-permitted, nothing_due, OneBehind}

none-due : (p : Phase) (t : Track) (k : ℕ) → is_done p ≡ true → role_in p t k ≡ NOT-DUE
unfolding role_in
none-due Start t k e = no e
none-due Opened t k e = no e
none-due InSubentry t k e = no e
none-due InBib t k e = no e
none-due AfterBib t k e = no e
none-due InCommon t k e = no e
none-due AfterCommon t k e = no e
none-due InData t k e = no e
none-due AfterData t k e = no e
none-due Between t k e = no e
none-due Done t k e = refl

-- the leftmost character that is not permitted
third : (r : List ℕ) (i : ℕ) → first (not_permitted r) 0 80 ≡ i → i < 80 → leftmost (rule3 r) ≡ i + 1
unfolding rule3
third r i e h = leftmost-where (not_permitted r) (λ i. i + 1) 80 ∙ rw (e, lt-ltb i 80 h) refl

no_third : (r : List ℕ) → 80 ≤ first (not_permitted r) 0 80 → leftmost (rule3 r) ≡ 0
unfolding rule3
no_third r h = leftmost-where (not_permitted r) (λ i. i + 1) 80 ∙ rw (le-ltb (first (not_permitted r) 0 80) 80 h) refl

-- ---- of any table in which 4 is found

-- the characters before the first that is not permitted
before : (r : List ℕ) (i : ℕ) → i ≤ first (not_permitted r) 0 80 → i ≤ 80 → FirstPermitted r i
before r i h l j b =
    not-false (is_permitted (get_or r j 0))
    (first-before (not_permitted r) 0 80 j (omega arith) (omega arith) (omega arith))

-- and that one
at-fault : (r : List ℕ) (at : ℕ) → first (not_permitted r) 0 80 ≡ at → at < 80 → is_permitted (get_or r at 0) ≡ false
at-fault r at q h =
    not-true (is_permitted (get_or r at 0))
    (subst (λ (i : ℕ). not_permitted r i ≡ true) q (first_holds (not_permitted r) 0 80 (omega arith)))

-- each record has a number and a column there
pub record SaidAlone (r : List ℕ) : Type 0 where
  pub number : ℕ
  pub column : ℕ
  pub said : BehindEnd r number column

pub behind-end : (r : List ℕ) → SaidAlone r
behind-end r = by-line-feed (has_line_feed r) refl (first (not_permitted r) 0 80) refl
  where
    by-line-feed : (b : Bool) → has_line_feed r ≡ b → (at : ℕ) → first (not_permitted r) 0 80 ≡ at → SaidAlone r
    by-line-feed false e at q = record { number = 2; column = 81; said = no_line_feed e }
    by-line-feed true e at q =
        either at 80
        (λ h. record {
          number = 3;
          column = at + 1;
          said = not-permitted at e h (at-fault r at q h) (before r at (omega arith) (omega arith));
        })
        (λ h. record {
          number = 4;
          column = 1;
          said = nothing_due e (before r 80 (omega arith) (omega arith));
        })

module _ (r : List ℕ) (fs : List Finding) where
  abbrev not_due : List Finding
  not_due = finding 2 (rule2 r) ∷ finding 3 (rule3 r) ∷ finding 4 (rule4 NOT-DUE) ∷ fs

  fault2 : has_line_feed r ≡ false → first_fault not_due ≡ fault_at 2 81
  unfolding first_fault rule2
  fault2 e = rw e refl

  fault3 : (i : ℕ) → has_line_feed r ≡ true → leftmost (rule3 r) ≡ i + 1 → first_fault not_due ≡ fault_at 3 (i + 1)
  unfolding first_fault rule2
  fault3 i e h = rw (e, h, ne_eqb (i + 1) 0 (λ z. omega arith)) refl

  fault4 : has_line_feed r ≡ true → leftmost (rule3 r) ≡ 0 → first_fault not_due ≡ fault_at 4 1
  unfolding first_fault rule2 rule4
  fault4 e h = rw (e, h) refl

  -- and what is found there is that
  pub behind-fault : (n k : ℕ) → BehindEnd r n k
      → first_fault (finding 2 (rule2 r) ∷ finding 3 (rule3 r) ∷ finding 4 (rule4 NOT-DUE) ∷ fs) ≡ fault_at n k
  behind-fault n k (no_line_feed e) = fault2 e
  behind-fault n k (not-permitted i e h p b) =
      fault3 i e
      (third r i
      (first-is (not_permitted r) 0 80 i (omega arith) (omega arith) (ap not p) (λ j a l. ap not (b j l)))
      h)
  behind-fault n k (nothing_due e p) =
      fault4 e
      (no_third r
      (first_past (not_permitted r) 0 80 80 (omega arith) (omega arith) (λ j a l. ap not (p j l))))

-- ---- behind the end of an entry

module _ (c : Context) (r : List ℕ) (done : is_done c.phase ≡ true) where
  no-role : role_of c r ≡ NOT-DUE
  no-role = none-due c.phase c.track (identifier_of (get_or (fields_of r) 0 [])) done

  -- something is found there
  pub found-behind : Nothing (found_in c r) → ⊥
  unfolding rule4
  found-behind none =
      let z : ◌≡◌ {A = List ℕ} (1 ∷ []) [] = rw no-role at (none 2 (omega arith)) in
      let y : ◌≡◌ {A = ℕ} 1 0 = ap length z in
      omega arith

  -- its refusal: number, column, why, and that it is the least that is found
  pub record SaidBehind : Type 0 where
    pub number : ℕ
    pub column : ℕ
    pub said : BehindEnd r number column
    pub least : Least (found_in c r) number column

  said_here : (n k : ℕ) → BehindEnd r n k → fault_of c.track c.seen (role_of c r) (fields_of r) r ≡ fault_at n k
  unfolding fault_of
  said_here n k b = rw no-role (behind-fault r _ n k b)

  pub said-behind : SaidBehind
  said-behind =
      let b = behind-end r in
      record {
        number = b.number;
        column = b.column;
        said = b.said;
        least = fault-least c.track c.seen (role_of c r) (fields_of r) r b.number b.column
            (said_here b.number b.column b.said);
      }

-- ---- one number with one column

pub one-behind : OneBehind
one-behind r n k m j a b =
    same-fault n k m j (sym (behind-fault r [] n k a) ∙ behind-fault r [] m j b)
