-- No field of a code is lost: it comes back from the word and the lent arrays, whatever the characters and the arrays.
-- Assumes nothing.
use Prim.Native.Nat.{ℕ, zero, suc, ◌+◌, ◌*◌, ◌/◌, ◌%◌, ◌^◌, ◌<◌}
use mathlib.Core.Path.{◌≡◌, refl, sym, ap, subst}
use mathlib.Core.Bool.{Bool, true, false, cond}
use mathlib.Core.List.{List}
use native.Mathlib.Omega.{arith}
use borrow.Author.Tests.{lt-ltb, le-ltb}
use lib.Dec.{ltb}
use Rattle.laws.proofs.Search.{either}
use Rattle.paper_decay_fields.specs.declared.types.NumberPart.{NumberPart}
use Rattle.paper_decay_fields.specs.declared.types.Head.{Head}
use Rattle.paper_decay_fields.specs.Asked.{is_code, goes_to, has_group, no_head, head_of, group_of, energy_of}
use Rattle.paper_decay_fields.proofs.Codes.{code_of, head-refused}
use Rattle.paper_decay_fields.proofs.Absent.{none_at_zero}
use Rattle.paper_decay_fields.proofs.Heads.{head-right}
use Rattle.paper_decay_fields.proofs.Groups.{groups-right}
use Rattle.exports_words.specs.Words.{lent_after}
use Rattle.exports_fields.specs.Parts.{part_stored}
use Rattle.exports_fields.specs.Heads.{MOST, head_word, places_stored, half_stored}
use Rattle.exports_fields.specs.Groups.{group_stored}
use Rattle.decay_back.specs.Host.{head_said}
use Rattle.decay_back.specs.Claims.{HeadBack, GroupBack, TypeBack, EnergyBack}
use Rattle.decay_back.proofs.Told.{Told, value-told, half-told, abundance-told, energy-told}

-- ---- each value is told

abundance-of : (l : List ℕ) (k : ℕ) → Told (group_of l k).abundance.value
unfolding group_of has_group
abundance-of l k = by_code (is_code l) refl k
  where
    by_code : (b : Bool) → is_code l ≡ b → (k : ℕ) → Told (group_of l k).abundance.value
    by_code false e k = rw e tt
    by_code true e zero = rw e tt
    by_code true e (suc m) =
        let (c, s) = code_of l e in
        let n : m + 1 ≡ suc m = omega arith in
        subst (λ (j : ℕ). Told (group_of l j).abundance.value) n
        (subst Told (sym (groups-right l c s m).abundance) (abundance-told c s.good m))

energy-of : (l : List ℕ) (k i : ℕ) → Told (energy_of l k i).value
unfolding energy_of has_group
energy-of l k i = by_code (is_code l) refl k i
  where
    by_code : (b : Bool) → is_code l ≡ b → (k i : ℕ) → Told (energy_of l k i).value
    by_code false e k i = rw e tt
    by_code true e zero i = rw e tt
    by_code true e (suc m) zero =
        subst (λ (x : NumberPart). Told x.value) (sym (none_at_zero l (suc m) 0).energy) tt
    by_code true e (suc m) (suc i) =
        let (c, s) = code_of l e in
        let n : m + 1 ≡ suc m = omega arith in
        let j : i + 1 ≡ suc i = omega arith in
        let h = subst Told (sym ((groups-right l c s m).each_energy i)) (energy-told c s.good m i) in
        subst (λ (j : ℕ). Told (energy_of l (suc m) j).value) j
        (subst (λ (k : ℕ). Told (energy_of l k (i + 1)).value) n h)

-- ---- they come back

pub group-back : GroupBack
unfolding group_stored
group-back l k =
    let g = group_of l k in
    ap (λ r. record { types = g.types; energies = g.energies; abundance = record { part = g.abundance.part; value = r } })
    (value-told g.abundance.value (abundance-of l k))

pub type-back : TypeBack
unfolding part_stored
type-back l k i = refl

pub energy-back : EnergyBack
unfolding part_stored
energy-back l k i =
    let e = energy_of l k i in
    ap (λ r. record { part = e.part; value = r }) (value-told e.value (energy-of l k i))

-- ---- the fields before the groups

-- of a code, whatever it is
answered-back : (h : Head) (places half : List ℕ) → h.number ≡ 0 → h.at ≡ 0 → Told h.half.value
    → head_said (head_word h) (places_stored places h) (half_stored half h) ≡ h
unfolding head_said head_word places_stored half_stored lent_after
answered-back h places half n a v =
    rw (n, a)
    (λ t. record {
      number = 0;
      at = 0;
      flag = h.flag;
      z = h.z;
      symbol = h.symbol;
      a = h.a;
      isomer = h.isomer;
      half = record { part = h.half.part; value = value-told h.half.value v t };
      unit = h.unit;
      groups = h.groups;
    })

-- a place that has room is said
held : (at : ℕ) → at < 2 ^ 40 → cond (ltb at MOST) at MOST ≡ at
held at h =
    either at MOST (λ l. rw (lt-ltb at MOST l) refl)
    (λ l. let e : MOST ≡ at = omega arith in rw (le-ltb at MOST l) e)

room-number : (at : ℕ) → (50 + 16777216 * at) % 256 ≡ 50
room-number at = omega arith

room-place : (at : ℕ) → (50 + 16777216 * at) / 16777216 ≡ at
room-place at = omega arith

refused-back : (at : ℕ) (xs ys : List ℕ) → at < 2 ^ 40 → head_said (head_word (no_head at)) xs ys ≡ no_head at
unfolding head_said head_word
refused-back at xs ys h = rw (held at h, room-number at, room-place at) refl

pub head-back : HeadBack
unfolding head_of
head-back l places half few = by_code (is_code l) refl
  where
    by_code : (b : Bool) → is_code l ≡ b
        → head_said (head_word (head_of l)) (places_stored places (head_of l)) (half_stored half (head_of l)) ≡ head_of l
    by_code true e =
        let (c, s) = code_of l e in
        let r = head-right l c s in
        answered-back (head_of l) places half r.number r.at
        (subst Told (sym r.half) (half-told c s.good))
    by_code false e =
        let h : head_of l ≡ no_head (goes_to l) = rw e refl in
        let there = ((head-refused l (goes_to l)).0 h).there in
        rw e (refused-back (goes_to l) _ _ (omega arith))
