-- There is no group, type or energy but those of a code, counted from 1 up to their last.
-- Assumes nothing.
use mathlib.Core.Path.{◌≡◌, refl, ap}
use mathlib.Core.Bool.{Bool, true, false}
use mathlib.Core.List.{List}
use Prim.Native.Nat.{ℕ, ◌<◌}
use native.Mathlib.Omega.{arith}
use borrow.Author.Tests.{lt-leb}
use lib.Dec.{leb}
use Rattle.laws.proofs.Booleans.{and_none}
use Rattle.paper_record.specs.Text.{within}
use Rattle.paper_decay_fields.specs.declared.types.Head.{Head}
use Rattle.paper_decay_fields.specs.Parts.{NO-PART, words_in}
use Rattle.paper_decay_fields.specs.Asked.{is_code, NO-NUMBER, groups_in, head_of, types_at, energies_at, has_group}
use Rattle.paper_decay_fields.specs.Asked.{NO-GROUP, group_of, type_of, energy_of}
use Rattle.paper_decay_fields.specs.Claims.{NoneElse, NoneAtZero, NoneBehind}
use Rattle.paper_decay_fields.proofs.Codes.{head_in_lem, not-read}

no-group : (l : List ℕ) (k i : ℕ) → has_group l k ≡ false
    → (group_of l k ≡ NO-GROUP) × ((type_of l k i ≡ NO-PART) × (energy_of l k i ≡ NO-NUMBER))
unfolding group_of type_of energy_of
no-group l k i e = (rw e refl, (rw e refl, rw e refl))

not_code : (l : List ℕ) (k : ℕ) → is_code l ≡ false → has_group l k ≡ false
unfolding has_group
not_code l k e = rw e refl

pub none-else : NoneElse
none-else l h k i = no-group l k i (not_code l k (not-read l h))

-- ---- before the first

no-first : (l : List ℕ) (t : Bool) → is_code l ≡ t → has_group l 0 ≡ false
unfolding has_group
no-first l true e = rw e refl
no-first l false e = rw e refl

pub none_at_zero : NoneAtZero
unfolding type_of energy_of
none_at_zero l k i =
    let (g, (t, e)) = no-group l 0 i (no-first l (is_code l) refl) in
    record {
      group = g;
      group_type = t;
      group_energy = e;
      type = rw (and_none (has_group l k) _ refl) refl;
      energy = rw (and_none (has_group l k) _ refl) refl;
    }

-- ---- behind the last

above : (m n k : ℕ) → n < k → within m n k ≡ false
above m n k h = and_none (leb m k) _ (lt-leb k n h)

no_more : (l : List ℕ) (k : ℕ) → (head_of l).groups < k → (t : Bool) → is_code l ≡ t → has_group l k ≡ false
unfolding has_group
no_more l k h true e =
    let n : (head_of l).groups ≡ groups_in l = ap (λ (x : Head). x.groups) (head_in_lem l e) in
    and_none (is_code l) _ (above _ (groups_in l) k (omega arith))
no_more l k h false e = not_code l k e

no-type : (l : List ℕ) (k i : ℕ) → (group_of l k).types < i → (t : Bool) → has_group l k ≡ t → type_of l k i ≡ NO-PART
unfolding group_of type_of
no-type l k i h true e =
    let n : (group_of l k).types ≡ words_in 47 l (types_at l k) = rw e refl in
    rw (and_none (has_group l k) _ (above 1 (words_in 47 l (types_at l k)) i (omega arith))) refl
no-type l k i h false e = (no-group l k i e).1.0

no-energy : (l : List ℕ) (k i : ℕ) → (group_of l k).energies < i → (t : Bool) → has_group l k ≡ t → energy_of l k i ≡ NO-NUMBER
unfolding group_of energy_of
no-energy l k i h true e =
    let n : (group_of l k).energies ≡ words_in 47 l (energies_at l k) = rw e refl in
    rw (and_none (has_group l k) _ (above 1 (words_in 47 l (energies_at l k)) i (omega arith))) refl
no-energy l k i h false e = (no-group l k i e).1.1

pub none-behind : NoneBehind
none-behind l k i =
    record {
      group = λ h. (no-group l k i (no_more l k h (is_code l) refl)).0;
      type = λ h. no-type l k i h (has_group l k) refl;
      energy = λ h. no-energy l k i h (has_group l k) refl;
    }
