-- Up to a later subentry of a good entry: the judge passes the subentries before it, each whole, and stands there as
-- behind 001.
-- Assumes nothing.
use Prim.Native.Nat.{ℕ, ◌+◌, ◌<◌, ◌≤◌}
use mathlib.Core.Path.{◌≡◌, sym, ◌∙◌}
use mathlib.Core.Bool.{true}
use mathlib.Core.List.{List, [], ◌∷◌, ◌++◌, append_assoc}
use native.Mathlib.Omega.{arith}
use Rattle.laws.specs.Walk.{All}
use Rattle.paper_record.specs.Identifier.{SUBENT, NOSUBENT, ENDENTRY}
use Rattle.paper_rules.specs.State.{Context}
use Rattle.paper_rules.specs.Limits.{LAST-SUBENTRY}
use Rattle.good.specs.Parts.{Record, Subentry001, Later, Subentry, nosubent, subent, later_records, subentries_records}
use Rattle.good.specs.Marks.{name_of}
use Rattle.good.specs.Subentries.{own_number, GoodLater, GoodSubentry, NumbersRise}
use Rattle.good.specs.Totals.{keywords_in, lines_in, numbers_of}
use Rattle.good.proofs.Steps.{next, Passes, next-pass, passes-as}
use Rattle.good.proofs.Runs.{either_left}
use Rattle.good.proofs.Openings.{opens-takes, number-later}
use Rattle.good.proofs.LaterContexts.{FirstKnown, StandsBehind, after_later}
use Rattle.good.proofs.Later.{later-stands, later-pass}
use Rattle.good.proofs.AllLater.{next-due, next-subent, next-other, stands-none}

-- the judge's context before the subentry s, which the subentries `before` stand in front of
pub record Before (c : Context) (accession : List ℕ) (first : Subentry001) (before : List Subentry) (s : Later)
    : Type 0 where
  pub here : Context
  pub number : ℕ
  pub m : ℕ
  pub k : ℕ
  pub l : ℕ
  pub n : ℕ
  pub stands : StandsBehind here accession first number m k l n
  pub one : 1 ≤ number
  pub some : 1 ≤ m
  pub above : number < own_number s.opening
  pub most : own_number s.opening ≤ LAST-SUBENTRY
  pub good : GoodLater accession first s
  pub on : (tail : List Record) (z : Context) → Passes here tail z → Passes c (subentries_records before ++ tail) z

-- one subentry more stands in front
one_more : (x : Subentry) (before : List Subentry) (s : Later) (c e : Context) (accession : List ℕ)
    (first : Subentry001) → Before e accession first before s
    → ((rest : List Record) (z : Context) → Passes e rest z → Passes c (later_records x ++ rest) z)
    → Before c accession first (x ∷ before) s
unfolding subentries_records
one_more x before s c e accession first w over =
    record {
      here = w.here;
      number = w.number;
      m = w.m;
      k = w.k;
      l = w.l;
      n = w.n;
      stands = w.stands;
      one = w.one;
      some = w.some;
      above = w.above;
      most = w.most;
      good = w.good;
      on = λ tail z p.
          passes-as c (later_records x ++ (subentries_records before ++ tail))
          (later_records x ++ subentries_records before ++ tail) z
          (sym (append_assoc (later_records x) (subentries_records before) tail))
          (over (subentries_records before ++ tail) z (w.on tail z p));
    }

pub reach-later : (before after : List Subentry) (s : Later) (c : Context) (accession : List ℕ) (first : Subentry001)
    (number m k l n : ℕ) → StandsBehind c accession first number m k l n → FirstKnown accession first
    → 1 ≤ number → 1 ≤ m
    → All (GoodSubentry accession first) (before ++ (subent s ∷ after))
    → NumbersRise number (before ++ (subent s ∷ after))
    → Before c accession first before s
unfolding subentries_records NumbersRise
reach-later [] after s c accession first number m k l n g f one some good rising =
    record {
      here = c;
      number = number;
      m = m;
      k = k;
      l = l;
      n = n;
      stands = g;
      one = one;
      some = some;
      above = rising.0;
      most = rising.1;
      good = good.0;
      on = λ tail z p. p;
    }
reach-later (nosubent r ∷ before) after s c accession first number m k l n g f one some good rising =
    let above = rising.0 in
    let most = rising.1 in
    let q0 = g.subentries-are in
    let q1 = g.number_is in
    one_more (nosubent r) before s c (next c NOSUBENT r) accession first
    (reach-later before after s (next c NOSUBENT r) accession first (own_number r) (m + 1) (k + 0) (l + 0) (n + 0)
    (stands-none c accession first number m k l n r g) f (omega arith) (omega arith) good.1 rising.2)
    (λ rest z p.
    next-pass c NOSUBENT r rest z
    (next-due c g.phase r
    ∙ next-other (name_of r) (λ e. absurd (no (sym e ∙ good.0.named)))
    ∙ either_left NOSUBENT ENDENTRY (name_of r) good.0.named)
    (opens-takes true c r accession g.accession-is good.0
    (number-later c (own_number r) (omega arith) (omega arith) most)) p)
  where
    no : SUBENT ≡ NOSUBENT → ⊥
    no e = omega arith
reach-later (subent x ∷ before) after s c accession first number m k l n g f one some good rising =
    let above = rising.0 in
    let most = rising.1 in
    one_more (subent x) before s c (after_later c x) accession first
    (reach-later before after s (after_later c x) accession first (own_number x.opening) (m + 1)
    (k + keywords_in x.bib) (l + lines_in x.values) (n + (numbers_of x.common + numbers_of x.values))
    (later-stands c accession first number m k l n x g f one above good.0) f (omega arith) (omega arith) good.1
    rising.2)
    (λ rest z p.
    later-pass c accession first number m k l n x rest z g f one some above most
    (next-due c g.phase x.opening ∙ next-subent (name_of x.opening) good.0.opens.named) good.0 p)
