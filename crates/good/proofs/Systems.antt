-- System records: their N1 and N2 by the judge's rules 7, 8 and 9, for those without counts, those that announce a
-- section and those that end one. Assumes nothing.
use Prim.Native.Nat.{ℕ, ◌+◌}
use mathlib.Core.Path.{◌≡◌, sym, ◌∙◌}
use mathlib.Core.Bool.{true, false, not}
use mathlib.Core.List.{List, []}
use native.Mathlib.Omega.{arith}
use lib.Dec.{eqb}
use borrow.Author.Tests.{eqb-true, eq-eqb, ne_eqb, ltb-true, not-false}
use Rattle.laws.proofs.Booleans.{differ, and_left, and_right}
use Rattle.paper_record.specs.Fields.{fields_of, n1, n2}
use Rattle.paper_record.specs.Identifier.{TRANS, is_end}
use Rattle.paper_record.specs.Expected.{identification_for}
use Rattle.paper_rules.specs.declared.types.Track.{Track}
use Rattle.paper_rules.specs.State.{Context}
use Rattle.paper_rules.specs.Roles.{NOT-DUE, is_system, opens_subentry, opens_section}
use Rattle.paper_rules.specs.System.{FREE, COUNT, form_n1, form_n2, in_form, rule7, rule9}
use Rattle.paper_rules.specs.Counts.{count_n1, count_n2, limit_n1, limit_n2, meets, announced_fault, true_count}
use Rattle.paper_rules.specs.Counts.{keywords_true, count_true, rule8}
use Rattle.paper_faults.proofs.NoColumns.{when-none, whens-none}
use Rattle.paper_rules.proofs.ByKind.{clean-system}
use Rattle.good.specs.Parts.{Record}
use Rattle.good.specs.Marks.{Marked, CountIs}
use Rattle.good.proofs.Steps.{Takes, MarkedFor, takes-marked, marked-every}
use Rattle.good.proofs.Marks.{counted-says, says-as, says-number, says-count}

-- ---- the rules, one by one

pub rule7-none : (role : ℕ) (fs : List (List ℕ)) → rule7 role fs ≡ []
    → (in_form (form_n1 role) (n1 fs) ≡ true) × (in_form (form_n2 role) (n2 fs) ≡ true)
unfolding rule7
rule7-none role fs e =
    let (a, b) =
    whens-none (not (in_form (form_n1 role) (n1 fs))) (not (in_form (form_n2 role) (n2 fs))) 12 23 e in
    (not-false (in_form (form_n1 role) (n1 fs)) a, not-false (in_form (form_n2 role) (n2 fs)) b)

pub none-rule7 : (role : ℕ) (fs : List (List ℕ)) → in_form (form_n1 role) (n1 fs) ≡ true
    → in_form (form_n2 role) (n2 fs) ≡ true → rule7 role fs ≡ []
unfolding rule7
none-rule7 role fs a b = rw (a, b)

announced-none : (t : Track) (role : ℕ) (fs : List (List ℕ)) → opens_section role ≡ true → rule8 t role fs ≡ []
    → (meets (limit_n1 role) (count_n1 fs) ≡ true) × (meets (limit_n2 role (count_n1 fs)) (count_n2 fs) ≡ true)
unfolding rule8 announced_fault
announced-none t role fs o e =
    let (a, b) =
    whens-none (not (meets (limit_n1 role) (count_n1 fs))) (not (meets (limit_n2 role (count_n1 fs)) (count_n2 fs))) 12 23
    (rw o at e) in
    (not-false (meets (limit_n1 role) (count_n1 fs)) a, not-false (meets (limit_n2 role (count_n1 fs)) (count_n2 fs)) b)

none-announced : (t : Track) (role : ℕ) (fs : List (List ℕ)) → opens_section role ≡ true
    → meets (limit_n1 role) (count_n1 fs) ≡ true → meets (limit_n2 role (count_n1 fs)) (count_n2 fs) ≡ true
    → rule8 t role fs ≡ []
unfolding rule8 announced_fault
none-announced t role fs o a b = rw o (rw (a, b))

end_none : (t : Track) (role : ℕ) (fs : List (List ℕ)) → opens_section role ≡ false → is_end role ≡ true
    → rule8 t role fs ≡ [] → count_true t role (count_n1 fs) ≡ true
unfolding rule8
end_none t role fs o d e =
    not-false (count_true t role (count_n1 fs)) (when-none (not (count_true t role (count_n1 fs))) 12
    (rw (o, d) at e))

none_end : (t : Track) (role : ℕ) (fs : List (List ℕ)) → opens_section role ≡ false → is_end role ≡ true
    → count_true t role (count_n1 fs) ≡ true → rule8 t role fs ≡ []
unfolding rule8
none_end t role fs o d e = rw (o, d) (rw e)

-- ---- system records

pub record ByRules (t : Track) (role : ℕ) (fs : List (List ℕ)) : Type 0 where
  pub form1 : in_form (form_n1 role) (n1 fs) ≡ true
  pub form2 : in_form (form_n2 role) (n2 fs) ≡ true
  pub rule-8 : rule8 t role fs ≡ []
  pub rule-9 : opens_subentry role ≡ true → rule9 t fs ≡ []

pub takes-rules : (c : Context) (role : ℕ) (r : Record) → is_system role ≡ true → Takes c role r
    → ByRules c.track role (fields_of r)
takes-rules c role r system t =
    let (a, b) = rule7-none role (fields_of r) (t.1.seven system) in
    record { form1 = a; form2 = b; rule-8 = t.1.eight system; rule-9 = t.1.nine }

pub rules-takes : (c : Context) (role : ℕ) (r : Record) → is_system role ≡ true → MarkedFor c role r
    → ByRules c.track role (fields_of r) → Takes c role r
rules-takes c role r system m b = (
  m.whole,
  clean-system c.track c.seen role (fields_of r) r (marked-every c role r m due) system
      (none-rule7 role (fields_of r) b.form1 b.form2) b.rule-8 b.rule-9,
)
  where
    due : eqb role NOT-DUE ≡ false
    due = let l = ltb-true role TRANS system in ne_eqb role NOT-DUE (λ e. omega arith)

-- ---- a record inside a subentry

-- marked with the subentry's number and the next sequence
abbrev pub identification_in : Context → List ℕ
identification_in c = identification_for c.track.accession c.track.subentry.number

abbrev pub Here : Context → Record → Type 0
Here c r = Marked (identification_in c) (c.track.subentry.records + 2) r

pub record Inside (role : ℕ) : Type 0 where
  pub system : is_system role ≡ true
  pub not-opening : opens_subentry role ≡ false
  pub marked : (c : Context) (r : Record) → (MarkedFor c role r → Here c r) × (Here c r → MarkedFor c role r)

-- NOBIB, NOCOMMON, NODATA
pub record FreeRole (role : ℕ) : Type 0 where
  pub inside : Inside role
  pub form1 : form_n1 role ≡ FREE
  pub form2 : form_n2 role ≡ FREE
  pub not-section : opens_section role ≡ false
  pub not_end : is_end role ≡ false

pub free-takes : (c : Context) (role : ℕ) (r : Record) → FreeRole role → Here c r → Takes c role r
unfolding rule8 in_form
free-takes c role r f m =
    rules-takes c role r f.inside.system ((f.inside.marked c r).1 m)
    (record {
      form1 = rw f.form1;
      form2 = rw f.form2;
      rule-8 = rw (f.not-section, f.not_end);
      rule-9 = λ h. differ (sym h ∙ f.inside.not-opening);
    })

pub here_of : (c : Context) (role : ℕ) (r : Record) → Inside role → Takes c role r → Here c r
here_of c role r i t = (i.marked c r).0 (takes-marked c role r t)

-- BIB, COMMON, DATA
pub record OpenRole (role : ℕ) : Type 0 where
  pub inside : Inside role
  pub form1 : form_n1 role ≡ COUNT
  pub form2 : form_n2 role ≡ COUNT
  pub section : opens_section role ≡ true

pub record Announces (role : ℕ) (r : Record) (a b : ℕ) : Type 0 where
  pub first : CountIs (n1 (fields_of r)) a
  pub second : CountIs (n2 (fields_of r)) b
  pub limit1 : meets (limit_n1 role) a ≡ true
  pub limit2 : meets (limit_n2 role a) b ≡ true

pub takes-announces : (c : Context) (role : ℕ) (r : Record) → OpenRole role → Takes c role r
    → Announces role r (count_n1 (fields_of r)) (count_n2 (fields_of r))
unfolding in_form
takes-announces c role r o t =
    let b = takes-rules c role r o.inside.system t in
    let (x, y) = announced-none c.track role (fields_of r) o.section b.rule-8 in
    record {
      first = counted-says (n1 (fields_of r)) (rw o.form1 at b.form1);
      second = counted-says (n2 (fields_of r)) (rw o.form2 at b.form2);
      limit1 = x;
      limit2 = y;
    }

pub announces-takes : (c : Context) (role : ℕ) (r : Record) (a b : ℕ) → OpenRole role → Here c r → Announces role r a b
    → Takes c role r
unfolding in_form
announces-takes c role r a b o m h =
    rules-takes c role r o.inside.system ((o.inside.marked c r).1 m)
    (record {
      form1 = rw o.form1 (says-count (n1 (fields_of r)) a h.first);
      form2 = rw o.form2 (says-count (n2 (fields_of r)) b h.second);
      rule-8 = none-announced c.track role (fields_of r) o.section
          (rw (says-number (n1 (fields_of r)) a h.first) h.limit1)
          (rw (says-number (n1 (fields_of r)) a h.first, says-number (n2 (fields_of r)) b h.second) h.limit2);
      rule-9 = λ h. differ (sym h ∙ o.inside.not-opening);
    })

-- the END records
pub record EndRole (role : ℕ) : Type 0 where
  pub system : is_system role ≡ true
  pub not-opening : opens_subentry role ≡ false
  pub form1 : form_n1 role ≡ COUNT
  pub form2 : form_n2 role ≡ FREE
  pub not-section : opens_section role ≡ false
  pub end : is_end role ≡ true

pub takes-end : (c : Context) (role : ℕ) (r : Record) → EndRole role → Takes c role r
    → CountIs (n1 (fields_of r)) (true_count c.track role) × (keywords_true c.track role ≡ true)
unfolding in_form
takes-end c role r e t =
    let b = takes-rules c role r e.system t in
    let x = end_none c.track role (fields_of r) e.not-section e.end b.rule-8 in
    let true-count = and_left (eqb (count_n1 (fields_of r)) (true_count c.track role))
    (keywords_true c.track role) x in (
      says-as (n1 (fields_of r)) (count_n1 (fields_of r)) (true_count c.track role)
          (counted-says (n1 (fields_of r)) (rw e.form1 at b.form1))
          (eqb-true (count_n1 (fields_of r)) (true_count c.track role) true-count),
      and_right (eqb (count_n1 (fields_of r)) (true_count c.track role)) (keywords_true c.track role) x,
    )

pub end-takes : (c : Context) (role : ℕ) (r : Record) → EndRole role → MarkedFor c role r
    → CountIs (n1 (fields_of r)) (true_count c.track role) → keywords_true c.track role ≡ true → Takes c role r
unfolding in_form
end-takes c role r e m s k =
    rules-takes c role r e.system m
    (record {
      form1 = rw e.form1 (says-count (n1 (fields_of r)) (true_count c.track role) s);
      form2 = rw e.form2;
      rule-8 = none_end c.track role (fields_of r) e.not-section e.end
          (rw (
            eq-eqb (count_n1 (fields_of r)) (true_count c.track role)
                (says-number (n1 (fields_of r)) (true_count c.track role) s),
            k,
          ));
      rule-9 = λ h. differ (sym h ∙ e.not-opening);
    })
