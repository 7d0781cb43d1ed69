-- What the rules find on a line is what is wrong with it, and a line is good exactly where nothing is.
-- Assumes nothing.
use Prim.Native.Nat.{ℕ, ◌+◌, ◌-◌, ◌≤◌}
use mathlib.Core.Path.{◌≡◌, refl, sym, ap, subst, ◌∙◌}
use mathlib.Core.Bool.{Bool, true, false, not}
use mathlib.Core.List.{List, ◌++◌}
use mathlib.Core.Logic.{◌↔◌, ◌⊎◌, inl, inr}
use native.Mathlib.Omega.{arith}
use lib.Dec.{eqb}
use borrow.Author.Tests.{eqb-true, eq-eqb, not-false}
use Rattle.laws.proofs.Booleans.{differ}
use Rattle.paper_faults.specs.Fault.{when}
use Rattle.paper_record.specs.Class.{is_permitted, not_permitted}
use Rattle.paper_record.specs.Numbers.{form_at, no_value}
use Rattle.paper_cinda.specs.Layout.{energy_at}
use Rattle.paper_cinda.specs.Rules.{is_operation, is_integer, good_z, good_mass, good_isomer, good_block, good_date, findings}
use Rattle.paper_cinda.specs.Rules.{rule71, rule72, rule73, rule74, rule75, rule76, rule77}
use Rattle.cinda_laws.specs.Plain.{in_column, Permitted, Operation, IntegerAt, ZedHeld, MassHeld, BlankOrDigit}
use Rattle.cinda_laws.specs.Plain.{BlockHeld, DateHeld}
use Rattle.cinda_laws.specs.Wrong.{Wrong, by_end, by_character, by_operation, by_zed, by_mass, by_isomer, by_block}
use Rattle.cinda_laws.specs.Wrong.{by_sequence, by_least, by_greatest, by_date, NothingWrong, GoodLine}
use Rattle.cinda_laws.specs.Wrong.{GoodLineExactly}
use Rattle.cinda_laws.proofs.Exactly.{operation-exactly, integer-exactly, zed-exactly, mass-exactly, isomer-exactly}
use Rattle.cinda_laws.proofs.Exactly.{block-exactly, energy-exactly, date-exactly}
use Rattle.paper_faults.specs.Found.{Among, Found}
use Rattle.paper_faults.proofs.Found.{among-when, when-among, among-append, append_left, append_right}
use Rattle.paper_faults.proofs.Found.{among-from, from-among}

-- ---- a test, and the plain thing that it says

-- a test that fails where the thing is so
negated : {P : Type 0} (t : Bool) → (t ≡ true) ↔ P → (not t ≡ false) ↔ P
negated t x = (λ e. x.0 (not-false t e), λ p. ap not (x.1 p))

module _ {P : Type 0} (b : Bool) (x : (b ≡ false) ↔ P) where
  not_so : b ≡ true → P → ⊥
  not_so e p = differ (sym e ∙ x.1 p)

  so-not : (P → ⊥) → b ≡ true
  so-not h = by-test b refl
    where
      by-test : (t : Bool) → b ≡ t → b ≡ true
      by-test true e = e
      by-test false e = absurd (h (x.0 e))

  -- its column
  told : (W : ℕ → Type 0) (c k : ℕ) → ((P → ⊥) → W c) → Among k (when b c) → W k
  told W c k w h = let (e, same) = among-when b c k h in subst W same (w (not_so e))

  untold : (c : ℕ) → (P → ⊥) → Among c (when b c)
  untold c h = when-among b c (so-not h)

  -- what is not wrong is so
  decided : ((P → ⊥) → ⊥) → P
  decided n = by-test b refl
    where
      by-test : (t : Bool) → b ≡ t → P
      by-test true e = absurd (n (not_so e))
      by-test false e = x.0 e

-- ---- one by one

module _ (l : List ℕ) where
  ends : (not (eqb (in_column l 126) 10) ≡ false) ↔ (in_column l 126 ≡ 10)
  ends = negated (eqb (in_column l 126) 10) (eqb-true (in_column l 126) 10, eq-eqb (in_column l 126) 10)

  characters : (k : ℕ) → (not (is_permitted (in_column l k)) ≡ false) ↔ Permitted (in_column l k)
  characters k = negated (is_permitted (in_column l k)) (λ e. e, λ e. e)

  operations : (not (is_operation (in_column l 1)) ≡ false) ↔ Operation (in_column l 1)
  operations = negated (is_operation (in_column l 1)) (operation-exactly (in_column l 1))

  zeds : (not (good_z l) ≡ false) ↔ ZedHeld l
  zeds = negated (good_z l) (zed-exactly l)

  masses : (not (good_mass l) ≡ false) ↔ MassHeld l
  masses = negated (good_mass l) (mass-exactly l)

  isomers : (not (good_isomer l) ≡ false) ↔ BlankOrDigit (in_column l 8)
  isomers = negated (good_isomer l) (isomer-exactly l)

  blocks : (not (good_block l) ≡ false) ↔ BlockHeld l
  blocks = negated (good_block l) (block-exactly l)

  sequences : (not (is_integer l 38 2) ≡ false) ↔ IntegerAt l 38 2
  sequences = negated (is_integer l 38 2) (integer-exactly l 38 2)

  dates : (not (good_date l) ≡ false) ↔ DateHeld l
  dates = negated (good_date l) (date-exactly l)

  abbrev no_energy_at : ℕ → Bool
  no_energy_at k = no_value true (form_at (energy_at l k))

  -- ---- what is found is wrong

  in71 : (k : ℕ) → Among k (rule71 l) → Wrong l 71 k
  unfolding rule71
  in71 k h = told (not (eqb (in_column l 126) 10)) ends (λ c. Wrong l 71 c) 126 k by_end h

  in72 : (k : ℕ) → Among k (rule72 l) → Wrong l 72 k
  unfolding rule72
  in72 k h =
      let m = among-from (not_permitted l) (λ i. i + 1) 0 125 k h in
      let i : ℕ = m.place in
      let b = m.to in
      let z : i + 1 - 1 ≡ i = omega arith in
      let e : not (is_permitted (in_column l (i + 1))) ≡ true = rw z m.holds in
      subst (λ (x : ℕ). Wrong l 72 x) m.is
      (by_character (i + 1) (omega arith) (omega arith)
      (not_so (not (is_permitted (in_column l (i + 1)))) (characters (i + 1)) e))

  in73 : (k : ℕ) → Among k (rule73 l) → Wrong l 73 k
  unfolding rule73
  in73 k h = told (not (is_operation (in_column l 1))) operations (λ c. Wrong l 73 c) 1 k by_operation h

  in74 : (k : ℕ) → Among k (rule74 l) → Wrong l 74 k
  unfolding rule74
  in74 k h = first (among-append k (when (not (good_z l)) 2) (when (not (good_mass l)) 5 ++ when (not (good_isomer l)) 8) h)
    where
      second : Among k (when (not (good_mass l)) 5) ⊎ Among k (when (not (good_isomer l)) 8) → Wrong l 74 k
      second (inl a) = told (not (good_mass l)) masses (λ c. Wrong l 74 c) 5 k by_mass a
      second (inr a) = told (not (good_isomer l)) isomers (λ c. Wrong l 74 c) 8 k by_isomer a

      first : Among k (when (not (good_z l)) 2) ⊎ Among k (when (not (good_mass l)) 5 ++ when (not (good_isomer l)) 8)
          → Wrong l 74 k
      first (inl a) = told (not (good_z l)) zeds (λ c. Wrong l 74 c) 2 k by_zed a
      first (inr a) = second (among-append k (when (not (good_mass l)) 5) (when (not (good_isomer l)) 8) a)

  in75 : (k : ℕ) → Among k (rule75 l) → Wrong l 75 k
  unfolding rule75
  in75 k h = by_part (among-append k (when (not (good_block l)) 34) (when (not (is_integer l 38 2)) 38) h)
    where
      by_part : Among k (when (not (good_block l)) 34) ⊎ Among k (when (not (is_integer l 38 2)) 38) → Wrong l 75 k
      by_part (inl a) = told (not (good_block l)) blocks (λ c. Wrong l 75 c) 34 k by_block a
      by_part (inr a) = told (not (is_integer l 38 2)) sequences (λ c. Wrong l 75 c) 38 k by_sequence a

  in76 : (k : ℕ) → Among k (rule76 l) → Wrong l 76 k
  unfolding rule76
  in76 k h = by_part (among-append k (when (no_energy_at 42) 42) (when (no_energy_at 49) 49) h)
    where
      by_part : Among k (when (no_energy_at 42) 42) ⊎ Among k (when (no_energy_at 49) 49) → Wrong l 76 k
      by_part (inl a) = told (no_energy_at 42) (energy-exactly l 42) (λ c. Wrong l 76 c) 42 k by_least a
      by_part (inr a) = told (no_energy_at 49) (energy-exactly l 49) (λ c. Wrong l 76 c) 49 k by_greatest a

  in77 : (k : ℕ) → Among k (rule77 l) → Wrong l 77 k
  unfolding rule77
  in77 k h = told (not (good_date l)) dates (λ c. Wrong l 77 c) 80 k by_date h

  abbrev numbered : (m n k : ℕ) → m ≡ n → Wrong l m k → Wrong l n k
  numbered m n k e w = subst (λ (x : ℕ). Wrong l x k) e w

  found-wrong : (n k : ℕ) → Found (findings l) n k → Wrong l n k
  found-wrong n k (inl (e, a)) = numbered 71 n k e (in71 k a)
  found-wrong n k (inr (inl (e, a))) = numbered 72 n k e (in72 k a)
  found-wrong n k (inr (inr (inl (e, a)))) = numbered 73 n k e (in73 k a)
  found-wrong n k (inr (inr (inr (inl (e, a))))) = numbered 74 n k e (in74 k a)
  found-wrong n k (inr (inr (inr (inr (inl (e, a)))))) = numbered 75 n k e (in75 k a)
  found-wrong n k (inr (inr (inr (inr (inr (inl (e, a))))))) = numbered 76 n k e (in76 k a)
  found-wrong n k (inr (inr (inr (inr (inr (inr (inl (e, a)))))))) = numbered 77 n k e (in77 k a)
  found-wrong n k (inr (inr (inr (inr (inr (inr (inr h))))))) = absurd h

  -- ---- and the other way round

  wrong-character : (k : ℕ) → 1 ≤ k → k ≤ 125 → (Permitted (in_column l k) → ⊥) → Among k (rule72 l)
  unfolding rule72
  wrong-character k low high h =
      from-among (not_permitted l) (λ i. i + 1) 0 125 k
      (record {
        place = k - 1;
        from = omega arith;
        to = omega arith;
        holds = so-not (not (is_permitted (in_column l k))) (characters k) h;
        is = omega arith;
      })

  wrong-found : (n k : ℕ) → Wrong l n k → Found (findings l) n k
  unfolding rule71 rule73 rule74 rule75 rule76 rule77
  wrong-found n k (by_end h) = inl (refl, untold (not (eqb (in_column l 126) 10)) ends 126 h)
  wrong-found n k (by_character c low high h) = inr (inl (refl, wrong-character c low high h))
  wrong-found n k (by_operation h) = inr (inr (inl (refl, untold (not (is_operation (in_column l 1))) operations 1 h)))
  wrong-found n k (by_zed h) =
      inr (inr (inr (inl (
        refl,
        append_left 2 (when (not (good_z l)) 2) (when (not (good_mass l)) 5 ++ when (not (good_isomer l)) 8)
            (untold (not (good_z l)) zeds 2 h),
      ))))
  wrong-found n k (by_mass h) =
      inr (inr (inr (inl (
        refl,
        append_right 5 (when (not (good_z l)) 2) (when (not (good_mass l)) 5 ++ when (not (good_isomer l)) 8)
            (append_left 5 (when (not (good_mass l)) 5) (when (not (good_isomer l)) 8) (untold (not (good_mass l)) masses 5 h)),
      ))))
  wrong-found n k (by_isomer h) =
      inr (inr (inr (inl (
        refl,
        append_right 8 (when (not (good_z l)) 2) (when (not (good_mass l)) 5 ++ when (not (good_isomer l)) 8)
            (append_right 8 (when (not (good_mass l)) 5) (when (not (good_isomer l)) 8)
            (untold (not (good_isomer l)) isomers 8 h)),
      ))))
  wrong-found n k (by_block h) =
      inr (inr (inr (inr (inl (
        refl,
        append_left 34 (when (not (good_block l)) 34) (when (not (is_integer l 38 2)) 38)
            (untold (not (good_block l)) blocks 34 h),
      )))))
  wrong-found n k (by_sequence h) =
      inr (inr (inr (inr (inl (
        refl,
        append_right 38 (when (not (good_block l)) 34) (when (not (is_integer l 38 2)) 38)
            (untold (not (is_integer l 38 2)) sequences 38 h),
      )))))
  wrong-found n k (by_least h) =
      inr (inr (inr (inr (inr (inl (
        refl,
        append_left 42 (when (no_energy_at 42) 42) (when (no_energy_at 49) 49)
            (untold (no_energy_at 42) (energy-exactly l 42) 42 h),
      ))))))
  wrong-found n k (by_greatest h) =
      inr (inr (inr (inr (inr (inl (
        refl,
        append_right 49 (when (no_energy_at 42) 42) (when (no_energy_at 49) 49)
            (untold (no_energy_at 49) (energy-exactly l 49) 49 h),
      ))))))
  wrong-found n k (by_date h) =
      inr (inr (inr (inr (inr (inr (inl (refl, untold (not (good_date l)) dates 80 h)))))))

  -- ---- a good line

  good-fine : GoodLine l → NothingWrong l
  good-fine g n k (by_end h) = h g.line_end
  good-fine g n k (by_character c low high h) = h (g.characters c low high)
  good-fine g n k (by_operation h) = h g.operation
  good-fine g n k (by_zed h) = h g.zed
  good-fine g n k (by_mass h) = h g.mass
  good-fine g n k (by_isomer h) = h g.isomer
  good-fine g n k (by_block h) = h g.block
  good-fine g n k (by_sequence h) = h g.sequence
  good-fine g n k (by_least h) = h g.least
  good-fine g n k (by_greatest h) = h g.greatest
  good-fine g n k (by_date h) = h g.date

  fine-good : NothingWrong l → GoodLine l
  fine-good f =
      record {
        line_end = decided (not (eqb (in_column l 126) 10)) ends (λ h. f 71 126 (by_end h));
        characters = λ k low high.
            decided (not (is_permitted (in_column l k))) (characters k) (λ h. f 72 k (by_character k low high h));
        operation = decided (not (is_operation (in_column l 1))) operations (λ h. f 73 1 (by_operation h));
        zed = decided (not (good_z l)) zeds (λ h. f 74 2 (by_zed h));
        mass = decided (not (good_mass l)) masses (λ h. f 74 5 (by_mass h));
        isomer = decided (not (good_isomer l)) isomers (λ h. f 74 8 (by_isomer h));
        block = decided (not (good_block l)) blocks (λ h. f 75 34 (by_block h));
        sequence = decided (not (is_integer l 38 2)) sequences (λ h. f 75 38 (by_sequence h));
        least = decided (no_energy_at 42) (energy-exactly l 42) (λ h. f 76 42 (by_least h));
        greatest = decided (no_energy_at 49) (energy-exactly l 49) (λ h. f 76 49 (by_greatest h));
        date = decided (not (good_date l)) dates (λ h. f 77 80 (by_date h));
      }

  pub found-exactly : (n k : ℕ) → Found (findings l) n k ↔ Wrong l n k
  found-exactly n k = (found-wrong n k, wrong-found n k)

pub good-line-exactly : GoodLineExactly
good-line-exactly l = (good-fine l, fine-good l)
