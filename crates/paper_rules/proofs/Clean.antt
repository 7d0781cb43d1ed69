-- A record is without fault exactly when it is clean: the one place where the rows of the table are taken by their
-- order.
-- Assumes nothing.
use Rattle.paper_faults.specs.Fault.{faultless}
use Prim.Native.Nat.{ℕ}
use mathlib.Core.Path.{◌≡◌, refl}
use mathlib.Core.Bool.{Bool, true, false, cond}
use mathlib.Core.List.{List, []}
use lib.Dec.{eqb}
use Rattle.laws.specs.Walk.{All}
use Rattle.laws.proofs.Booleans.{either-as}
use Rattle.paper_rules.specs.declared.types.Track.{Track}
use Rattle.paper_rules.specs.State.{Seen}
use Rattle.paper_rules.specs.Roles.{TEXT, DATA-HEADING, is_system, opens_subentry, is_heading, is_unit, is_value}
use Rattle.paper_rules.specs.Order.{findings, fault_of}
use Rattle.paper_rules.specs.Clean.{Clean, CleanExactly}
use Rattle.paper_faults.proofs.NoColumns.{on_none, none-on}
use Rattle.paper_rules.proofs.ByKind.{of-headings, of-units}
use Rattle.paper_faults.proofs.Least.{Empty}
use Rattle.paper_rules.proofs.Least.{fine-empty, empty-fine}

-- ---- without fault, and clean

module _ (t : Track) (s : Seen) (role : ℕ) (fs : List (List ℕ)) (r : List ℕ) where
  -- 11 on a heading record, and 12 on a unit record, stand second in their rows
  heading-not-text : is_heading role ≡ true → eqb role TEXT ≡ false
  heading-not-text = of-headings (λ k. eqb k TEXT ≡ false) refl refl role

  unit-not-heading : is_unit role ≡ true → is_heading role ≡ false
  unit-not-heading = of-units (λ k. is_heading k ≡ false) refl refl role

  left-none : (b : Bool) (js ks : List ℕ) → cond b js ks ≡ [] → b ≡ true → js ≡ []
  left-none b js ks e h = rw h at e

  right-none : (b : Bool) (js ks : List ℕ) → cond b js ks ≡ [] → b ≡ false → ks ≡ []
  right-none b js ks e h = rw h at e

  empty-clean : All Empty (findings t s role fs r) → Clean t s role fs r
  empty-clean (e2, (e3, (e4, (e5, (e6, (e7, (e8, (e9, (e10, (e11, (e12, (e13, (e14, (e15, (e17, tt))))))))))))))) =
      record {
        every = record { two = e2; three = e3; four = e4; five = e5; six = e6 };
        seven = on_none (is_system role) _ e7;
        eight = on_none (is_system role) _ e8;
        nine = on_none (opens_subentry role) _ e9;
        ten = on_none (eqb role TEXT) _ e10;
        eleven_text = left-none (eqb role TEXT) _ _ e11;
        eleven = λ h. on_none (is_heading role) _ (right-none (eqb role TEXT) _ _ e11 (heading-not-text h)) h;
        twelve = left-none (is_heading role) _ _ e12;
        twelve_unit = λ h. on_none (is_unit role) _ (right-none (is_heading role) _ _ e12 (unit-not-heading h)) h;
        thirteen = on_none (is_heading role) _ e13;
        fourteen = on_none (eqb role DATA-HEADING) _ e14;
        fifteen = on_none (is_value role) _ e15;
        seventeen = on_none (is_value role) _ e17;
      }

  abbrev NoColumn : List ℕ → Type 0
  NoColumn ks = ks ≡ []

  clean-empty : Clean t s role fs r → All Empty (findings t s role fs r)
  clean-empty c = (
    c.every.two,
    (
      c.every.three,
      (
        c.every.four,
        (
          c.every.five,
          (
            c.every.six,
            (
              none-on (is_system role) _ c.seven,
              (
                none-on (is_system role) _ c.eight,
                (
                  none-on (opens_subentry role) _ c.nine,
                  (
                    none-on (eqb role TEXT) _ c.ten,
                    (
                      either-as NoColumn (eqb role TEXT) _ _ c.eleven_text
                          (λ h. none-on (is_heading role) _ c.eleven),
                      (
                        either-as NoColumn (is_heading role) _ _ c.twelve
                            (λ h. none-on (is_unit role) _ c.twelve_unit),
                        (
                          none-on (is_heading role) _ c.thirteen,
                          (
                            none-on (eqb role DATA-HEADING) _ c.fourteen,
                            (
                              none-on (is_value role) _ c.fifteen,
                              (none-on (is_value role) _ c.seventeen, tt),
                            ),
                          ),
                        ),
                      ),
                    ),
                  ),
                ),
              ),
            ),
          ),
        ),
      ),
    ),
  )

  pub fine-clean : fault_of t s role fs r ≡ faultless → Clean t s role fs r
  fine-clean e = empty-clean (fine-empty t s role fs r e)

  pub clean-fine : Clean t s role fs r → fault_of t s role fs r ≡ faultless
  clean-fine c = empty-fine t s role fs r (clean-empty c)

pub clean-exactly : CleanExactly
clean-exactly t s role fs r = (fine-clean t s role fs r, clean-fine t s role fs r)
