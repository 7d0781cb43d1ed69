-- The run of a code has the words and values of the code as it was written.
-- Assumes nothing.
use mathlib.Core.Path.{◌≡◌, refl, sym, ap, ◌∙◌}
use mathlib.Core.List.{List, []}
use Prim.Native.Nat.{ℕ, zero, suc, ◌+◌}
use native.Mathlib.Omega.{arith}
use lib.ListN.{length, get_or, drop}
use Rattle.paper_number.specs.declared.types.Reading.TheVariants.{Blank}
use Rattle.paper_number.specs.Grammar.{digits_text}
use Rattle.paper_decay.specs.Code.{isomer_text, Code, write, Spells}
use Rattle.paper_decay.specs.Fields.{Fields, Group as CodeGroup, fields_of, canonical_code, run_of}
use Rattle.paper_decay.proofs.Run.{run-good}
use Rattle.paper_decay_fields.specs.declared.types.NumberPart.{NumberPart}
use Rattle.paper_decay_fields.specs.declared.types.Group.{Group}
use Rattle.paper_decay_fields.specs.Parts.{text_in}
use Rattle.paper_decay_fields.specs.Asked.{group_of, type_of, energy_of}
use Rattle.paper_decay_fields.specs.Claims.{flag_said, NO-FIELDS, code_group, SameFields, RunFields}
use Rattle.paper_decay_fields.proofs.Absent.{none_at_zero}
use Rattle.paper_decay_fields.proofs.Heads.{head-right}
use Rattle.paper_decay_fields.proofs.Groups.{groups-right}

-- two codes with the same fields
module _ (l m : List ℕ) (c d : Code) (x : Spells l c) (y : Spells m d) (e : fields_of c ≡ fields_of d) where
  same-group : (k : ℕ) → code_group c k ≡ code_group d k
  same-group k = ap (λ (f : Fields). get_or f.groups k NO-FIELDS) e

  -- what is counted from 1 is nothing at 0
  group-by : {A : Type 0} (f : Group → A)
      → ((k : ℕ) → f (group_of l (k + 1)) ≡ f (group_of m (k + 1))) → (k : ℕ) → f (group_of l k) ≡ f (group_of m k)
  group-by f h zero = ap f ((none_at_zero l 0 0).group ∙ sym (none_at_zero m 0 0).group)
  group-by f h (suc k) =
      let s : suc k ≡ k + 1 = omega arith in
      ap (λ (n : ℕ). f (group_of l n)) s ∙ h k ∙ ap (λ (n : ℕ). f (group_of m n)) (sym s)

  type-by : (k i : ℕ) → text_in l (type_of l k i) ≡ text_in m (type_of m k i)
  type-by zero i = ap (text_in l) (none_at_zero l 0 i).group_type ∙ ap (text_in m) (sym (none_at_zero m 0 i).group_type)
  type-by (suc k) zero = ap (text_in l) (none_at_zero l (suc k) 0).type ∙ ap (text_in m) (sym (none_at_zero m (suc k) 0).type)
  type-by (suc k) (suc i) =
      let s : suc k ≡ k + 1 = omega arith in
      let j : suc i ≡ i + 1 = omega arith in
      (λ h. text_in l (type_of l (s h) (j h)))
      ∙ (groups-right l c x k).each_type i
      ∙ ap (λ (g : CodeGroup). get_or g.types i []) (same-group k)
      ∙ sym ((groups-right m d y k).each_type i)
      ∙ sym (λ h. text_in m (type_of m (s h) (j h)))

  energy-by : (k i : ℕ) → (energy_of l k i).value ≡ (energy_of m k i).value
  energy-by zero i =
      ap (λ (n : NumberPart). n.value) ((none_at_zero l 0 i).group_energy ∙ sym (none_at_zero m 0 i).group_energy)
  energy-by (suc k) zero =
      ap (λ (n : NumberPart). n.value) ((none_at_zero l (suc k) 0).energy ∙ sym (none_at_zero m (suc k) 0).energy)
  energy-by (suc k) (suc i) =
      let s : suc k ≡ k + 1 = omega arith in
      let j : suc i ≡ i + 1 = omega arith in
      (λ h. (energy_of l (s h) (j h)).value)
      ∙ (groups-right l c x k).each_energy i
      ∙ ap (λ (g : CodeGroup). get_or g.energies i Blank) (same-group k)
      ∙ sym ((groups-right m d y k).each_energy i)
      ∙ sym (λ h. (energy_of m (s h) (j h)).value)

  same-fields : SameFields l m
  same-fields =
      let p = head-right l c x in
      let q = head-right m d y in
      record {
        number = p.number;
        as_was = q.number;
        flag = p.flag ∙ (ap (λ (f : Fields). flag_said f.flag) e ∙ sym q.flag);
        z = p.z ∙ (ap (λ (f : Fields). digits_text f.nuclide.z) e ∙ sym q.z);
        symbol = p.symbol ∙ (ap (λ (f : Fields). f.nuclide.symbol) e ∙ sym q.symbol);
        a = p.a ∙ (ap (λ (f : Fields). digits_text f.nuclide.a) e ∙ sym q.a);
        isomer = p.isomer ∙ (ap (λ (f : Fields). drop 1 (isomer_text f.nuclide.isomer)) e ∙ sym q.isomer);
        half = p.half ∙ (ap (λ (f : Fields). f.half) e ∙ sym q.half);
        unit = p.unit ∙ (ap (λ (f : Fields). f.unit) e ∙ sym q.unit);
        groups = p.groups ∙ (ap (λ (f : Fields). length f.groups) e ∙ sym q.groups);
        types = group-by (λ (g : Group). g.types)
            (λ k. (groups-right l c x k).types
            ∙ (ap (λ (g : CodeGroup). length g.types) (same-group k) ∙ sym (groups-right m d y k).types));
        energies = group-by (λ (g : Group). g.energies)
            (λ k. (groups-right l c x k).energies
            ∙ (ap (λ (g : CodeGroup). length g.energies) (same-group k) ∙ sym (groups-right m d y k).energies));
        abundance = group-by (λ (g : Group). g.abundance.value)
            (λ k. (groups-right l c x k).abundance
            ∙ (ap (λ (g : CodeGroup). g.abundance) (same-group k) ∙ sym (groups-right m d y k).abundance));
        each_type = type-by;
        each_energy = energy-by;
      }

pub run-fields : RunFields
unfolding run_of
run-fields c g =
    let (h, e) = run-good c g in
    same-fields (write (canonical_code c)) (write c) (canonical_code c) c (record { good = h; same = refl })
    (record { good = g; same = refl }) e
