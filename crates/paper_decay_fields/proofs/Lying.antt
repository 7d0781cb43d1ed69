-- Whatever the characters are, every part lies in them, and a number's place holds what it reads from.
-- Assumes nothing.
use mathlib.Core.Path.{◌≡◌, refl, sym, ap, ◌∙◌, subst}
use mathlib.Core.Bool.{true, ◌&&◌}
use mathlib.Core.List.{List}
use Prim.Native.Nat.{ℕ, zero, suc, ◌-◌, ◌≤◌}
use native.Mathlib.Omega.{arith}
use lib.ListN.{length}
use Rattle.laws.proofs.Booleans.{and_left, and_right, either-as}
use Rattle.paper_number.specs.Reading.{read_field}
use Rattle.paper_record.specs.Text.{within}
use Rattle.paper_record.proofs.Within.{within-bounds}
use Rattle.paper_decay.specs.Fields.{front}
use Rattle.paper_decay_fields.specs.declared.types.Part.{Part}
use Rattle.paper_decay_fields.specs.declared.types.Head.{Head}
use Rattle.paper_decay_fields.specs.declared.types.Group.{Group}
use Rattle.paper_decay_fields.specs.Parts.{NO-PART, or_none, text_in, word_in, words_in, field_at, number_in, flag_at, nuclide_at}
use Rattle.paper_decay_fields.specs.Parts.{half_at, unit_at}
use Rattle.paper_decay_fields.specs.Asked.{is_code, goes_to, NO-NUMBER, head_in, no_head, head_of, groups_in, types_at, energies_at}
use Rattle.paper_decay_fields.specs.Asked.{abundance_at, has_group, NO-GROUP, group_of, type_of, energy_of}
use Rattle.paper_decay_fields.specs.Claims.{Placed, Holds, PartsIn}
use Rattle.paper_decay_fields.proofs.Words.{Whole, whole_from, text-none, placed-none, word-in-whole, field-whole}
use Rattle.paper_decay_fields.proofs.Codes.{code_of}
use Rattle.paper_decay_fields.proofs.Fields.{none-blank}
use Rattle.paper_decay_fields.proofs.Heads.{flag-whole, half-whole, half_in, number-value}
use Rattle.paper_decay_fields.proofs.Groups.{energy-few, abundance-few}

-- ---- of one part

nothing_placed : (l : List ℕ) → Placed l NO-PART
nothing_placed l = record { lies = omega arith; none = λ z. refl }

nothing-holds : (l : List ℕ) → Holds l NO-NUMBER
nothing-holds l = record { placed = nothing_placed l; reads = sym none-blank }

number-placed : (l : List ℕ) (p : Part) → Whole l p → Placed l (number_in l p).part
unfolding number_in
number-placed l p h = placed-none l p h

number-part : (l : List ℕ) (p : Part) → text_in l (number_in l p).part ≡ text_in l p
unfolding number_in
number-part l p = text-none l p

number-holds : (l : List ℕ) (p : Part) → Whole l p → p.length ≤ 11 → Holds l (number_in l p)
number-holds l p h n =
    record { placed = number-placed l p h; reads = number-value l p n ∙ ap read_field (sym (number-part l p)) }

-- ---- the parts of a code

flag-placed : (l : List ℕ) → is_code l ≡ true → Placed l (or_none (flag_at l))
flag-placed l e =
    let (c, s) = code_of l e in
    placed-none l (flag_at l) (subst (λ (m : List ℕ). Whole m (flag_at m)) s.same (flag-whole c s.good))

half-holds : (l : List ℕ) → is_code l ≡ true → Holds l (number_in l (half_at l))
half-holds l e =
    let (c, s) = code_of l e in
    number-holds l (half_at l) (half-whole l) (subst (λ (m : List ℕ). (half_at m).length ≤ 11) s.same (half_in c s.good))

unit_placed : (l : List ℕ) → Placed l (or_none (unit_at l))
unfolding unit_at
unit_placed l = placed-none l _ (whole_from l (field_at l 1) (front (text_in l (field_at l 1))) (field-whole l 1))

nuclide-placed : (l : List ℕ) (k : ℕ) → Placed l (or_none (word_in 45 l (nuclide_at l) k))
nuclide-placed l k = placed-none l (word_in 45 l (nuclide_at l) k) (word-in-whole 45 l (nuclide_at l) k)

-- ---- those of its groups

pub group-code : (l : List ℕ) (k : ℕ) → has_group l k ≡ true → (is_code l ≡ true) × (1 ≤ k)
unfolding has_group
group-code l k e =
    (and_left (is_code l) _ e, (within-bounds 1 (groups_in l) k (and_right (is_code l) (within 1 (groups_in l) k) e)).0)

abundance-holds : (l : List ℕ) (k : ℕ) → has_group l k ≡ true → Holds l (number_in l (abundance_at l k))
abundance-holds l zero e = let n = (group-code l 0 e).1 in absurd (omega arith)
abundance-holds l (suc k) e =
    let (c, s) = code_of l (group-code l (suc k) e).0 in
    number-holds l (abundance_at l (suc k)) (field-whole l _)
    (subst (λ (m : List ℕ). (abundance_at m (suc k)).length ≤ 11) s.same (abundance-few c s.good k))

energy-holds : (l : List ℕ) (k i : ℕ) → has_group l k ≡ true → Holds l (number_in l (word_in 47 l (energies_at l k) i))
energy-holds l zero i e = let n = (group-code l 0 e).1 in absurd (omega arith)
energy-holds l (suc k) i e =
    let (c, s) = code_of l (group-code l (suc k) e).0 in
    number-holds l (word_in 47 l (energies_at l (suc k)) i) (word-in-whole 47 l (energies_at l (suc k)) i)
    (subst (λ (m : List ℕ). (word_in 47 m (energies_at m (suc k)) i).length ≤ 11) s.same (energy-few c s.good k i))

-- ---- the law

of-head : (l : List ℕ) (P : Head → Type 0) → (is_code l ≡ true → P (head_in l)) → P (no_head (goes_to l)) → P (head_of l)
unfolding head_of
of-head l P h k = either-as P (is_code l) (head_in l) (no_head (goes_to l)) h (λ e. k)

of-group : (l : List ℕ) (k : ℕ) → Holds l (group_of l k).abundance
unfolding group_of
of-group l k =
    either-as (λ (x : Group). Holds l x.abundance) (has_group l k) _ NO-GROUP (λ e. abundance-holds l k e)
    (λ e. nothing-holds l)

of-type : (l : List ℕ) (k i : ℕ) → Placed l (type_of l k i)
unfolding type_of
of-type l k i =
    either-as (Placed l) (has_group l k && within 1 (words_in 47 l (types_at l k)) i) _ NO-PART
    (λ e. placed-none l (word_in 47 l (types_at l k) (i - 1)) (word-in-whole 47 l (types_at l k) (i - 1)))
    (λ e. nothing_placed l)

of-energy : (l : List ℕ) (k i : ℕ) → Holds l (energy_of l k i)
unfolding energy_of
of-energy l k i =
    either-as (Holds l) (has_group l k && within 1 (words_in 47 l (energies_at l k)) i) _ NO-NUMBER
    (λ e. energy-holds l k (i - 1) (and_left (has_group l k) _ e))
    (λ e. nothing-holds l)

pub parts_in : PartsIn
parts_in l =
    record {
      flag = of-head l (λ (h : Head). Placed l h.flag) (flag-placed l) (nothing_placed l);
      z = of-head l (λ (h : Head). Placed l h.z) (λ e. nuclide-placed l 0) (nothing_placed l);
      symbol = of-head l (λ (h : Head). Placed l h.symbol) (λ e. nuclide-placed l 1) (nothing_placed l);
      a = of-head l (λ (h : Head). Placed l h.a) (λ e. nuclide-placed l 2) (nothing_placed l);
      isomer = of-head l (λ (h : Head). Placed l h.isomer) (λ e. nuclide-placed l 3) (nothing_placed l);
      half = of-head l (λ (h : Head). Holds l h.half) (half-holds l) (nothing-holds l);
      unit = of-head l (λ (h : Head). Placed l h.unit) (λ e. unit_placed l) (nothing_placed l);
      abundance = of-group l;
      each_type = of-type l;
      each_energy = of-energy l;
    }
