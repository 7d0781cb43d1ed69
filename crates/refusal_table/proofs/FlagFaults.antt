-- An entry that is refused with 17 has such a value there, and no such value passes. Assumes nothing.
use Prim.Native.Nat.{ℕ}
use mathlib.Core.Path.{◌≡◌, refl}
use mathlib.Core.List.{List}
use native.Mathlib.Omega.{arith}
use Rattle.laws.specs.Blocks.{block_at}
use Rattle.paper_rules.specs.Roles.{is_value}
use Rattle.paper_rules.specs.Flags.{rule17}
use Rattle.rules_plain.proofs.Flags.{flags-exactly}
use Rattle.paper_entry.specs.Judging.{judge_of}
use Rattle.paper_entry.specs.Contexts.{context_at, role_at}
use Rattle.entry_walk.specs.First.{FirstAt}
use Rattle.entry_walk.proofs.FirstRefused.{refused_first}
use Rattle.refusal_table.specs.Table.{values}
use Rattle.refusal_table.specs.KindOf.{fields_in}
use Rattle.refusal_table.specs.HeadingFaults.{WrongField}
use Rattle.refusal_table.specs.FlagFaults.{FlagValue, SeventeenSaid, FlagRefused}
use Rattle.refusal_table.proofs.Standing.{value-kinds}
use Rattle.refusal_table.proofs.KindAt.{kind_at}
use Rattle.refusal_table.proofs.ByNumber.{least-found, on_some, first-at}
use Rattle.refusal_table.proofs.HeadingParts.{held-against}
use Rattle.refusal_table.proofs.HeadingFaults.{refused-there, some-on}

seventeen : (s : List ℕ) (i k : ℕ) → FirstAt s i 17 k → WrongField values (FlagValue (context_at s i).track) s i k
seventeen s i k h =
    let c = context_at s i in
    let there = h.there in
    let (b, held) = held-against s i (λ j l. kind_at s j (λ m q. h.earlier m (omega arith))) (omega arith) in
    let (role, found) =
    on_some (λ c. c ≡ k) (is_value (role_at s i)) _
    (least-found c.track c.seen (role_at s i) (fields_in s i) (block_at 81 s i) 17 k h.least) in
    record {
      kind = role_at s i;
      one_of = value-kinds (role_at s i) role;
      is = kind_at s i h.earlier;
      due = refl;
      before = b;
      held = held;
      wrong = (flags-exactly c.seen c.track b (block_at 81 s i) held.seen k).0 found;
    }

pub seventeen_said : SeventeenSaid
seventeen_said s i k e =
    seventeen s i k (first-at s (judge_of s) (refused_first s) 17 i k (omega arith) (λ z. omega arith) e)

pub flag_refused : FlagRefused
flag_refused s i k d w =
    let c = context_at s i in
    refused-there s i is_value d 17 k 14 (omega arith) refl
    (some-on (λ c. c ≡ k) (is_value (role_at s i)) (rule17 c.seen c.track (fields_in s i)) d.role
    ((flags-exactly c.seen c.track w.before (block_at 81 s i) w.held.seen k).1 w.wrong))
