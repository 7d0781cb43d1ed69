use Prim.Native.Nat.{◌<◌, ◌≤◌}
use Rattle.paper_rules.specs.Limits.{MOST-RECORDS}
use borrow.Author.Tests.{eq-eqb, le-leb, lt-leb, ne_eqb}
use mathlib.Core.Path.{refl}
use native.Mathlib.Omega.{arith}
use Rattle.files_roles.proofs.role.role_within.Goals as goal

pub returns-then-entries-eq0 : goal.returns-then-entries-eq0
returns-then-entries-eq0 c = let none : c.args.entries < 1 = omega arith in
    let few : c.args.own.0 < MOST-RECORDS = omega arith in
    rw (eq-eqb _ _ c.if-own-eq0.true, lt-leb _ _ none, lt-leb _ _ few) refl

pub returns-then-k-eq-ENDTRANS : goal.returns-then-k-eq-ENDTRANS
returns-then-k-eq-ENDTRANS c = let some : 1 ≤ c.args.entries = omega arith in
    rw (
      eq-eqb _ _ c.if-own-eq0.true,
      le-leb _ _ some,
      ← c.name_of-k.ensures,
      eq-eqb _
          _ c.if-k-eq-ENDTRANS.true,
    ) refl

pub returns-then-own-eq0 : goal.returns-then-own-eq0
returns-then-own-eq0 c = let some : 1 ≤ c.args.entries = omega arith in
    let few : c.args.own.0 < MOST-RECORDS = omega arith in
    rw (
      eq-eqb _ _ c.if-own-eq0.true,
      le-leb _ _ some,
      ← c.name_of-k.ensures,
      ne_eqb _
          _ c.if-k-eq-ENDTRANS.false,
      lt-leb _ _ few,
    ) refl

pub returns-then-own-ge-MOST_RECORDS : goal.returns-then-own-ge-MOST_RECORDS
returns-then-own-ge-MOST_RECORDS c = let full : MOST-RECORDS ≤ c.args.own.0 = omega arith in
    rw (ne_eqb _ _ c.if-own-eq0.false, le-leb _ _ full) refl

pub returns : goal.returns
returns c = let few : c.args.own.0 < MOST-RECORDS = omega arith in
    rw (ne_eqb _ _ c.if-own-eq0.false, lt-leb _ _ few) refl
