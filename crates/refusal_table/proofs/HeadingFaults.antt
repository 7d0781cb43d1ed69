-- An entry that is refused with 13 or 14 has such a heading there, and no such heading passes. Assumes nothing.
use Rattle.std.specs.Prelude.{Ok, Err}
use Prim.Native.Nat.{ℕ, ◌+◌, ◌<◌}
use mathlib.Core.Path.{◌≡◌, refl, sym, ap, subst}
use mathlib.Core.Bool.{Bool, true}
use mathlib.Core.List.{List, [], ◌∷◌}
use native.Mathlib.Omega.{arith}
use lib.Dec.{eqb}
use lib.ListN.{length, get_or}
use Rattle.laws.specs.Blocks.{block_at}
use Rattle.paper_faults.specs.Fault.{on, Checked}
use Rattle.paper_rules.specs.Roles.{DATA-HEADING, is_heading}
use Rattle.paper_rules.specs.Headings.{rule13}
use Rattle.paper_rules.specs.Pointers.{rule14}
use Rattle.paper_rules.specs.Order.{fault_of}
use Rattle.paper_faults.specs.Least.{Before, no_finding, Least}
use Rattle.paper_rules.proofs.Least.{fault-least, fault-none}
use Rattle.rules_plain.specs.Places.{Some}
use Rattle.rules_plain.proofs.Somewhere.{some_at}
use Rattle.rules_plain.proofs.Repeated.{repeated-exactly, lost-exactly}
use Rattle.paper_entry.specs.Verdict.{refused}
use Rattle.paper_entry.specs.Judging.{judge_of}
use Rattle.paper_entry.specs.Contexts.{context_at, role_at}
use Rattle.entry_walk.specs.First.{found_at, FirstAt, by_record}
use Rattle.entry_walk.proofs.FirstRefused.{refused_first}
use Rattle.entry_walk.proofs.FirstAlone.{first_alone}
use Rattle.refusal_table.specs.Table.{among, headings}
use Rattle.refusal_table.specs.KindOf.{fields_in}
use Rattle.refusal_table.specs.HeadingFaults.{WrongField, RepeatedHeading, LostHeading, ThirteenSaid}
use Rattle.refusal_table.specs.HeadingFaults.{FourteenSaid, DueThere}
use Rattle.refusal_table.specs.HeadingFaults.{RefusedThere, RepeatedRefused, LostRefused}
use Rattle.refusal_table.proofs.Standing.{one-kind, heading-kinds}
use Rattle.refusal_table.proofs.KindAt.{kind_at}
use Rattle.refusal_table.proofs.ByNumber.{least-found, on_some, first-at}
use Rattle.refusal_table.proofs.HeadingParts.{held-against}

module _ (s : List ℕ) (i k : ℕ) where
  thirteen : FirstAt s i 13 k → WrongField headings RepeatedHeading s i k
  thirteen h =
      let c = context_at s i in
      let there = h.there in
      let (b, held) = held-against s i (λ j l. kind_at s j (λ m q. h.earlier m (omega arith))) (omega arith) in
      let (role, found) =
      on_some (λ c. c ≡ k) (is_heading (role_at s i)) _
      (least-found c.track c.seen (role_at s i) (fields_in s i) (block_at 81 s i) 13 k h.least) in
      record {
        kind = role_at s i;
        one_of = heading-kinds (role_at s i) role;
        is = kind_at s i h.earlier;
        due = refl;
        before = b;
        held = held;
        wrong = (repeated-exactly c.seen c.track (role_at s i) b (block_at 81 s i) held.seen k).0 found;
      }

  fourteen : FirstAt s i 14 k → WrongField (among (DATA-HEADING ∷ [])) LostHeading s i k
  fourteen h =
      let c = context_at s i in
      let there = h.there in
      let (b, held) = held-against s i (λ j l. kind_at s j (λ m q. h.earlier m (omega arith))) (omega arith) in
      let (role, found) =
      on_some (λ c. c ≡ k) (eqb (role_at s i) DATA-HEADING) _
      (least-found c.track c.seen (role_at s i) (fields_in s i) (block_at 81 s i) 14 k h.least) in
      record {
        kind = role_at s i;
        one_of = one-kind DATA-HEADING (role_at s i) role;
        is = kind_at s i h.earlier;
        due = refl;
        before = b;
        held = held;
        wrong = (lost-exactly c.seen c.track b (block_at 81 s i) held.seen k).0 found;
      }

pub thirteen_said : ThirteenSaid
thirteen_said s i k e =
    thirteen s i k (first-at s (judge_of s) (refused_first s) 13 i k (omega arith) (λ z. omega arith) e)

pub fourteen_said : FourteenSaid
fourteen_said s i k e =
    fourteen s i k (first-at s (judge_of s) (refused_first s) 14 i k (omega arith) (λ z. omega arith) e)

-- ---- and no such heading passes

-- a column of what is found at the place `at` has the entry refused there, at the latest with it
module _ (s : List ℕ) (i : ℕ) (due : ℕ → Bool) (d : DueThere s i due) (n k at : ℕ) (l : at < length (found_at s i))
    (number : (get_or (found_at s i) at no_finding).number ≡ n)
    (found : Some (λ c. c ≡ k) (get_or (found_at s i) at no_finding).columns) where
  abbrev fault : Checked
  fault =
      fault_of (context_at s i).track (context_at s i).seen (role_at s i) (fields_in s i) (block_at 81 s i)

  pub refused-there : RefusedThere s i n k
  refused-there = by-fault fault refl
    where
      nothing : (get_or (found_at s i) at no_finding).columns ≡ [] → ⊥
      nothing e =
          let (j, m, q) = some_at (λ c. c ≡ k) 0 (get_or (found_at s i) at no_finding).columns found in
          let z : length (get_or (found_at s i) at no_finding).columns ≡ 0 = ap length e in
          absurd (omega arith)

      by_least : (m c : ℕ) → Least (found_at s i) m c → RefusedThere s i n k
      by_least m c w =
          let (j, h, q) = some_at (λ c. c ≡ k) 0 (get_or (found_at s i) at no_finding).columns found in
          record {
            number = m;
            column = c;
            verdict =
                sym
                (first_alone s (refused m (record { 0 = i + 1 }) c)
                (by_record i m c
                (record { length-good = d.length-good; there = d.there; earlier = d.earlier; least = w })));
            no_later =
                subst (λ (x : ℕ). Before m c n x) q
                (subst (λ (x : ℕ). Before m c x (get_or (get_or (found_at s i) at no_finding).columns j 0)) number
                (w.least at j l h));
          }

      by-fault : (x : Checked) → fault ≡ x → RefusedThere s i n k
      by-fault (Ok u) e =
          absurd
          (nothing
          (fault-none (context_at s i).track (context_at s i).seen (role_at s i) (fields_in s i) (block_at 81 s i) e at l))
      by-fault (Err fault) e =
          by_least fault.number fault.column
          (fault-least (context_at s i).track (context_at s i).seen (role_at s i) (fields_in s i) (block_at 81 s i) fault.number fault.column e)

-- the rule is made on such a record
pub some-on : (P : ℕ → Type 0) (b : Bool) (ks : List ℕ) → b ≡ true → Some P ks → Some P (on b ks)
some-on P b ks e h = rw e h

pub repeated_refused : RepeatedRefused
repeated_refused s i k d w =
    let c = context_at s i in
    refused-there s i is_heading d 13 k 11 (omega arith) refl
    (some-on (λ c. c ≡ k) (is_heading (role_at s i))
    (rule13 c.seen c.track (role_at s i) (fields_in s i) (block_at 81 s i)) d.role
    ((repeated-exactly c.seen c.track (role_at s i) w.before (block_at 81 s i) w.held.seen k).1
    (rw w.due w.wrong)))

pub lost_refused : LostRefused
lost_refused s i k d w =
    let c = context_at s i in
    refused-there s i (λ role. eqb role DATA-HEADING) d 14 k 12 (omega arith) refl
    (some-on (λ c. c ≡ k) (eqb (role_at s i) DATA-HEADING) (rule14 c.seen c.track (fields_in s i)) d.role
    ((lost-exactly c.seen c.track w.before (block_at 81 s i) w.held.seen k).1 w.wrong))
