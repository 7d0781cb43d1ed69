-- The kind of a record before which nothing is found: its role, said by what a reader sees.
-- Assumes nothing.
use Prim.Native.Nat.{ℕ, zero, suc, ◌+◌, ◌*◌, ◌<◌, ◌≤◌}
use mathlib.Core.Path.{◌≡◌, refl, sym, subst}
use mathlib.Core.Bool.{Bool, true, false, cond}
use mathlib.Core.List.{List}
use native.Mathlib.Omega.{arith}
use borrow.Author.Tests.{eqb-true}
use lib.Dec.{eqb}
use Rattle.laws.specs.Blocks.{block_at}
use Rattle.laws.proofs.Search.{either}
use Rattle.laws.proofs.Booleans.{either-as}
use Rattle.paper_record.specs.Places.{records_for}
use Rattle.paper_record.specs.Identifier.{ENTRY, SUBENT, NOSUBENT, BIB, NOBIB, ENDBIB, COMMON, NOCOMMON, DATA, NODATA}
use Rattle.paper_record.specs.Identifier.{ENDSUBENT, ENDENTRY, TRANS, OTHER, is_end}
use Rattle.paper_rules.specs.declared.types.Phase.{Phase}
use Rattle.paper_rules.specs.declared.types.Phase.TheVariants.{Start, Opened, InSubentry, InBib, AfterBib, InCommon}
use Rattle.paper_rules.specs.declared.types.Phase.TheVariants.{AfterCommon, InData, AfterData, Between, Done}
use Rattle.paper_rules.specs.Roles.{TEXT, NOT-DUE}
use Rattle.paper_rules.specs.Role.{all_read, only, either as either_of, bib_role, data_role, role_in}
use Rattle.laws.proofs.EitherWay.{either_way}
use Rattle.paper_faults.specs.Least.{Nothing}
use Rattle.paper_rules.proofs.FaultSaid.{nothing-fine}
use Rattle.paper_entry.specs.Contexts.{context_at, role_at}
use Rattle.entry_walk.specs.First.{found_at}
use Rattle.entry_walk.proofs.Laid.{phase_in, row_role, line_of, row-role}
use Rattle.entry_walk.proofs.TableLaid.{section_role, lines_of}
use Rattle.refusal_table.specs.KindOf.{fields_in, name_in, announced_n1, announced_n2, BehindBib, KindOf, of_system}
use Rattle.refusal_table.specs.KindOf.{of_text, common_heading, common_unit, common_value, data_heading}
use Rattle.refusal_table.specs.KindOf.{data_unit, data_value, not-due}
use Rattle.refusal_table.proofs.InTexts.{FineAt, InTexts, one_more}
use Rattle.refusal_table.proofs.Inside.{InRows, Inside, section_end, end-role, unread, inside-at}

among-texts : (i j a n : ℕ) → i ≡ j + 1 + a → a < n → (j < i) × (i ≤ j + n)
among-texts i j a n e h = (omega arith, omega arith)

pub fine-at : (s : List ℕ) (j : ℕ) → Nothing (found_at s j) → FineAt s j
fine-at s j none =
    let c = context_at s j in
    nothing-fine c.track c.seen (role_at s j) (fields_in s j) (block_at 81 s j) none

module _ (s : List ℕ) (i : ℕ) where
  abbrev name : ℕ
  name = name_in s i

  abbrev Kind : ℕ → Type 0
  Kind kind = KindOf s i kind

  only-kind : (a : ℕ) → a < TRANS → Kind (only a name)
  only-kind a h = either-as Kind (eqb name a) a NOT-DUE (λ e. of_system a h (eqb-true name a e)) (λ e. not-due)

  either-kind : (a b : ℕ) → a < TRANS → b < TRANS → Kind (either_of a b name)
  either-kind a b h g =
      either-as Kind (eqb name a) a (only b name) (λ e. of_system a h (eqb-true name a e)) (λ e. only-kind b g)

  -- ---- BIB

  pub behind-bib : (x : InTexts s i) → eqb (context_at s i).track.section (context_at s i).track.bib.records ≡ false
      → name ≡ OTHER → BehindBib s x.j i
  behind-bib x e n =
      let (before, announced) =
      among-texts i x.j (context_at s i).track.section (announced_n2 s x.j) x.met (one_more s i x e) in
      record {
        opens = x.opens;
        before = before;
        announced = announced;
        no_system =
            λ m l h. either m i (λ a. x.no_system m l a)
            (λ a. let y : i ≡ m = omega arith in subst (λ (k : ℕ). name_in s k ≡ OTHER) y n);
      }

  bib-kind : InTexts s i → Kind (bib_role (context_at s i).track name)
  unfolding bib_role
  bib-kind x =
      either-as Kind (eqb (context_at s i).track.section (context_at s i).track.bib.records) (only ENDBIB name)
      (cond (eqb name OTHER) TEXT NOT-DUE) (λ e. only-kind ENDBIB (omega arith))
      (λ e. either-as Kind (eqb name OTHER) TEXT NOT-DUE
      (λ f. of_text x.j (behind-bib x e (eqb-true name OTHER f))) (λ f. not-due))

  -- ---- tables

  row-kind : (b : Bool) (j q m : ℕ) → name_in s j ≡ section_role b → m < records_for (announced_n1 s j)
      → i ≡ j + 1 + (q * records_for (announced_n1 s j) + m) → line_of q ≤ lines_of b (fields_in s j)
      → Kind (row_role b q)
  row-kind true j zero m o h p l = data_heading j (record { opens = o; m = m; of_row = h; place = p })
  row-kind true j (suc zero) m o h p l = data_unit j (record { opens = o; m = m; of_row = h; place = p })
  row-kind true j (suc (suc n)) m o h p l =
      data_value j (suc n) (omega arith) l (record { opens = o; m = m; of_row = h; place = p })
  row-kind false j zero m o h p l = common_heading j (record { opens = o; m = m; of_row = h; place = p })
  row-kind false j (suc zero) m o h p l = common_unit j (record { opens = o; m = m; of_row = h; place = p })
  row-kind false j (suc (suc zero)) m o h p l = common_value j (record { opens = o; m = m; of_row = h; place = p })
  row-kind false j (suc (suc (suc n))) m o h p l =
      let z : suc (suc n) ≤ 1 = l in
      absurd (omega arith)

  end_below : (b : Bool) → section_end b < TRANS
  end_below true = omega arith
  end_below false = omega arith

  table-kind : (b : Bool) → InRows s b i → Kind (role_in (phase_in b) (context_at s i).track name)
  table-kind b x = by-test (all_read (context_at s i).track) refl
    where
      by-test : (t : Bool) → all_read (context_at s i).track ≡ t
          → Kind (role_in (phase_in b) (context_at s i).track name)
      by-test true e =
          subst (λ (k : ℕ). Kind k) (sym (end-role b (context_at s i).track name e))
          (only-kind (section_end b) (end_below b))
      by-test false e =
          subst (λ (k : ℕ). Kind k) (sym (row-role b x.q (context_at s i).track name e x.laid.row))
          (either_way Kind (is_end name) NOT-DUE (row_role b x.q) not-due
          (row-kind b x.j x.q x.m x.opens x.of_row x.place (unread s b i x e)))

  -- ---- by the phase

  kind-in : (p : Phase) → Inside s i p → Kind (role_in p (context_at s i).track name)
  unfolding role_in data_role
  kind-in Start x = only-kind ENTRY (omega arith)
  kind-in Opened x = only-kind SUBENT (omega arith)
  kind-in InSubentry x = either-kind BIB NOBIB (omega arith) (omega arith)
  kind-in InBib x = bib-kind x
  kind-in AfterBib x = either-kind COMMON NOCOMMON (omega arith) (omega arith)
  kind-in InCommon x = table-kind false x
  kind-in AfterCommon x =
      either_way Kind (eqb (context_at s i).track.subentry.number 1) (only ENDSUBENT name)
      (either_of DATA NODATA name) (only-kind ENDSUBENT (omega arith))
      (either-kind DATA NODATA (omega arith) (omega arith))
  kind-in InData x = table-kind true x
  kind-in AfterData x = only-kind ENDSUBENT (omega arith)
  kind-in Between x =
      either-as Kind (eqb name SUBENT) SUBENT (either_of NOSUBENT ENDENTRY name)
      (λ e. of_system SUBENT (omega arith) (eqb-true name SUBENT e))
      (λ e. either-kind NOSUBENT ENDENTRY (omega arith) (omega arith))
  kind-in Done x = not-due

  pub kind_at : ((j : ℕ) → j < i → Nothing (found_at s j)) → KindOf s i (role_at s i)
  kind_at h = kind-in (context_at s i).phase (inside-at s i (λ j l. fine-at s j (h j l)))
