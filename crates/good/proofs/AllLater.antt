-- All subentries behind 001, up to ENDENTRY: the judge goes over them exactly when they are good. Assumes nothing.
use Prim.Native.Nat.{ℕ, zero, suc, ◌+◌, ◌<◌, ◌≤◌}
use mathlib.Core.Path.{◌≡◌, refl, sym, ◌∙◌, ap}
use mathlib.Core.Bool.{Bool, true, false}
use mathlib.Core.List.{List, [], ◌∷◌, ◌++◌, append_assoc}
use native.Mathlib.Omega.{arith}
use native.Mathlib.Nat.{add-zero}
use lib.Dec.{eqb}
use lib.ListN.{length, length-append}
use borrow.Author.Tests.{eqb-true, eq-eqb, ne_eqb}
use Rattle.laws.proofs.Booleans.{differ}
use Rattle.laws.specs.Walk.{All}
use Rattle.paper_record.specs.Identifier.{SUBENT, NOSUBENT, ENDENTRY}
use Rattle.paper_rules.specs.declared.types.Phase.TheVariants.{Between, Done}
use Rattle.paper_rules.specs.declared.types.Totals.{Totals}
use Rattle.paper_rules.specs.State.{Context}
use Rattle.paper_rules.specs.Limits.{LAST-SUBENTRY}
use Rattle.paper_rules.specs.Roles.{NOT-DUE}
use Rattle.paper_rules.specs.Role.{next_role, role_in, either as one_of}
use Rattle.paper_entry.specs.Judging.{role_of}
use Rattle.paper_entry.specs.Verdict.{is_done}
use Rattle.good.specs.Parts.{Record, Subentry001, Subentry, nosubent, subent, body_of, later_records}
use Rattle.good.specs.Parts.{subentries_records}
use Rattle.good.specs.Marks.{name_of}
use Rattle.good.specs.Subentries.{own_number, GoodSubentry, subentry_number, NumbersRise}
use Rattle.good.specs.Good.{GoodEnding}
use Rattle.good.specs.Totals.{sum_of, keywords_of_subentry, lines_of_subentry, numbers_of_subentry}
use Rattle.good.proofs.Steps.{next, Passes, next-pass, pass-nothing, passes-as}
use Rattle.good.proofs.Runs.{role-at, either_left, either-right, pass-either, stepped, due, rest_of, Step}
use Rattle.good.proofs.Openings.{takes-opens, opens-takes, later-number, number-later, after-opening}
use Rattle.good.proofs.Openings.{takes-endentry, endentry-takes, after-endentry}
use Rattle.good.proofs.LaterContexts.{FirstKnown, StandsBehind, after_later}
use Rattle.good.proofs.Later.{pass-later, later-stands, later-pass}

-- ---- what is due between subentries

pub next-due : (c : Context) → c.phase ≡ Between → (r : Record) → role_of c r ≡ next_role (name_of r)
unfolding role_in
next-due c e r = role-at c Between r e

pub next-subent : (k : ℕ) → k ≡ SUBENT → next_role k ≡ SUBENT
next-subent k e = rw (eq-eqb k SUBENT e)

pub next-other : (k : ℕ) → (k ≡ SUBENT → ⊥) → next_role k ≡ one_of NOSUBENT ENDENTRY k
next-other k n = rw (ne_eqb k SUBENT n)

no-subent : (k a : ℕ) → k ≡ a → (a ≡ SUBENT → ⊥) → k ≡ SUBENT → ⊥
no-subent k a e n q = n (sym e ∙ q)

pass-between : {X : Type 0} (c : Context) (r : Record) (rs : List Record) (z : Context) → c.phase ≡ Between
    → Passes c (r ∷ rs) z → (Step c SUBENT r rs z → X) → (Step c NOSUBENT r rs z → X) → (Step c ENDENTRY r rs z → X) → X
pass-between {X} c r rs z e p x y w = by-test (eqb (name_of r) SUBENT) refl
  where
    by-test : (b : Bool) → eqb (name_of r) SUBENT ≡ b → X
    by-test true q =
        let n = eqb-true (name_of r) SUBENT q in
        x (stepped c SUBENT r rs z (next-due c e r ∙ next-subent (name_of r) n) n p)
    by-test false q =
        pass-either c NOSUBENT ENDENTRY r rs z (λ a. omega arith) (next-due c e r ∙ rw q) p y w

-- ---- NOSUBENT

pub stands-none : (c : Context) (accession : List ℕ) (first : Subentry001) (number m k l n : ℕ) (r : Record)
    → StandsBehind c accession first number m k l n
    → StandsBehind (next c NOSUBENT r) accession first (own_number r) (m + 1) (k + 0) (l + 0) (n + 0)
stands-none c accession first number m k l n r g =
    let o = after-opening true c r in
    record {
      phase = o.phase;
      accession-is = o.accession ∙ g.accession-is;
      number_is = o.number;
      subentries-are = (let x = o.subentries in let y = g.subentries-are in omega arith);
      keywords-are = (let x = o.keywords in let y = g.keywords-are in omega arith);
      lines_are = (let x = o.lines in let y = g.lines_are in omega arith);
      numbers-are = (let x = o.numbers in let y = g.numbers-are in omega arith);
      bib001 = o.bib001 ∙ g.bib001;
      common001 = o.common001 ∙ g.common001;
    }

-- ---- behind ENDENTRY stands nothing

done-role : (c : Context) → c.phase ≡ Done → (r : Record) → role_of c r ≡ NOT-DUE
unfolding role_in
done-role c e r = role-at c Done r e

nothing-behind : (c : Context) (rs : List Record) (z : Context) → c.phase ≡ Done → Passes c rs z → (rs ≡ []) × (c ≡ z)
unfolding Passes
nothing-behind c [] z e p = (refl, p)
nothing-behind c (r ∷ rs) z e p = differ (rw (done-role c e r) at (due c r rs z p))

-- ---- from the walk to the subentries behind 001

pub record PassedRest (rs : List Record) (z : Context) (accession : List ℕ) (first : Subentry001) (number m k l n : ℕ)
    : Type 0 where
  pub later : List Subentry
  pub ending : Record
  pub split : rs ≡ subentries_records later ++ (ending ∷ [])
  pub good : All (GoodSubentry accession first) later
  pub rising : NumbersRise number later
  pub ends : GoodEnding accession (m + length later) ending
  pub subentries : z.track.totals.subentries ≡ m + length later
  pub keywords : z.track.totals.keywords ≡ k + sum_of keywords_of_subentry later
  pub lines : z.track.totals.lines ≡ l + sum_of lines_of_subentry later
  pub numbers : z.track.totals.numbers ≡ n + sum_of numbers_of_subentry later

-- one subentry before the others
one_more : (rs : List Record) (z : Context) (accession : List ℕ) (first : Subentry001) (number m k l n : ℕ) (s : Subentry)
    (rest : List Record) → rs ≡ later_records s ++ rest → GoodSubentry accession first s → number < subentry_number s
    → subentry_number s ≤ LAST-SUBENTRY
    → PassedRest rest z accession first (subentry_number s) (m + 1) (k + keywords_of_subentry s) (l + lines_of_subentry s)
    (n + numbers_of_subentry s)
    → PassedRest rs z accession first number m k l n
unfolding subentries_records NumbersRise sum_of
one_more rs z accession first number m k l n s rest split good above most p =
    let e : m + 1 + length p.later ≡ m + suc (length p.later) = omega arith in
    record {
      later = s ∷ p.later;
      ending = p.ending;
      split = split ∙ ap (λ (x : List Record). later_records s ++ x) p.split
          ∙ sym (append_assoc (later_records s) (subentries_records p.later) (p.ending ∷ []));
      good = (good, p.good);
      rising = (omega arith, most, p.rising);
      ends = rw e at p.ends;
      subentries = p.subentries ∙ e;
      keywords = (let x = p.keywords in omega arith);
      lines = (let x = p.lines in omega arith);
      numbers = (let x = p.numbers in omega arith);
    }

shorter : (r : Record) (xs rest : List Record) (fuel : ℕ) → length (r ∷ (xs ++ rest)) ≤ suc fuel → length rest ≤ fuel
shorter r xs rest fuel l = let e = length-append xs rest in omega arith

pub pass-rest : (fuel : ℕ) (c : Context) (rs : List Record) (z : Context) (accession : List ℕ) (first : Subentry001)
    (number m k l n : ℕ) → length rs ≤ fuel → StandsBehind c accession first number m k l n → FirstKnown accession first
    → 1 ≤ number → 1 ≤ m → is_done z.phase ≡ true → Passes c rs z → PassedRest rs z accession first number m k l n
unfolding subentries_records NumbersRise sum_of
pass-rest zero c rs z accession first number m k l n short g f one some done p =
    rest_of c rs z (ap is_done g.phase) done p
    (λ r ts split q. let e : length rs ≡ suc (length ts) = ap length split in absurd (omega arith))
pass-rest (suc fuel) c rs z accession first number m k l n short g f one some done p =
    rest_of c rs z (ap is_done g.phase) done p
    (λ r ts split q.
    pass-between c r ts z g.phase q
    (λ s.
    let w = pass-later c accession first number m k l n r ts z g f one some done s in
    let above = w.above in
    one_more rs z accession first number m k l n (subent w.sub) w.rest (split ∙ w.split) w.good above
    w.most
    (pass-rest fuel (after_later c w.sub) w.rest z accession first (own_number w.sub.opening) (m + 1)
    (k + keywords_of_subentry (subent w.sub)) (l + lines_of_subentry (subent w.sub))
    (n + numbers_of_subentry (subent w.sub))
    (shorter w.sub.opening (body_of w.sub ++ (w.sub.ending ∷ [])) w.rest fuel
    (rw (split ∙ w.split) at short)) w.stands f (omega arith) (omega arith)
    done w.passes))
    (λ s.
    let (opens, number-due) = takes-opens true c r accession g.accession-is s.named s.takes in
    let q0 = g.subentries-are in
    let q1 = g.number_is in
    let (above, most) = later-number c (own_number r) (omega arith) number-due in
    one_more rs z accession first number m k l n (nosubent r) ts split opens (omega arith) most
    (pass-rest fuel (next c NOSUBENT r) ts z accession first (own_number r) (m + 1) (k + 0) (l + 0) (n + 0)
    (shorter r [] ts fuel (rw split at short)) (stands-none c accession first number m k l n r g) f (omega arith)
    (omega arith) done s.passes))
    (λ s.
    let e = after-endentry c r in
    let (nil, last) = nothing-behind (next c ENDENTRY r) ts z e.phase s.passes in
    let t : z.track.totals ≡ c.track.totals = ap (λ (d : Context). d.track.totals) (sym last) ∙ e.totals in
    let x1 = ap (λ (u : Totals). u.subentries) t ∙ g.subentries-are in
    let x2 = ap (λ (u : Totals). u.keywords) t ∙ g.keywords-are in
    let x3 = ap (λ (u : Totals). u.lines) t ∙ g.lines_are in
    let x4 = ap (λ (u : Totals). u.numbers) t ∙ g.numbers-are in
    record {
      later = [];
      ending = r;
      split = split ∙ ap (λ (x : List Record). r ∷ x) nil;
      good = tt;
      rising = tt;
      ends = takes-endentry c r accession (m + 0) g.accession-is (g.subentries-are ∙ sym (add-zero m)) s.named
          s.takes;
      subentries = omega arith;
      keywords = omega arith;
      lines = omega arith;
      numbers = omega arith;
    }))

-- ---- from the subentries behind 001 to the walk

pub record Finished (c : Context) (rs : List Record) (subentries keywords lines numbers : ℕ) : Type 0 where
  pub last : Context
  pub passes : Passes c rs last
  pub phase : last.phase ≡ Done
  pub totals : last.track.totals
      ≡ record { subentries = subentries; keywords = keywords; lines = lines; numbers = numbers }

totals-are : (t : Totals) (a b d e : ℕ) → t.subentries ≡ a → t.keywords ≡ b → t.lines ≡ d → t.numbers ≡ e
    → t ≡ record { subentries = a; keywords = b; lines = d; numbers = e }
totals-are t a b d e p q r s = rw (← p, ← q, ← r, ← s)

totals-same : {a b d e a' b' d' e' : ℕ} → a ≡ a' → b ≡ b' → d ≡ d' → e ≡ e'
    → ◌≡◌ {A = Totals} (record { subentries = a; keywords = b; lines = d; numbers = e })
    (record { subentries = a'; keywords = b'; lines = d'; numbers = e' })
totals-same p q r s = rw (p, q, r, s)

pub rest-pass : (later : List Subentry) (c : Context) (accession : List ℕ) (first : Subentry001) (number m k l n : ℕ)
    (ending : Record) → StandsBehind c accession first number m k l n → FirstKnown accession first → 1 ≤ number → 1 ≤ m
    → All (GoodSubentry accession first) later → NumbersRise number later
    → GoodEnding accession (m + length later) ending
    → Finished c (subentries_records later ++ (ending ∷ [])) (m + length later) (k + sum_of keywords_of_subentry later)
    (l + sum_of lines_of_subentry later) (n + sum_of numbers_of_subentry later)
unfolding subentries_records NumbersRise sum_of
rest-pass [] c accession first number m k l n ending g f one some good rising ends =
    let e = after-endentry c ending in
    record {
      last = next c ENDENTRY ending;
      passes = next-pass c ENDENTRY ending [] (next c ENDENTRY ending)
          (next-due c g.phase ending
          ∙ next-other (name_of ending) (no-subent (name_of ending) ENDENTRY ends.named (λ x. omega arith))
          ∙ either-right NOSUBENT ENDENTRY (name_of ending) (λ x. omega arith) ends.named)
          (endentry-takes c ending accession (m + 0) g.accession-is (g.subentries-are ∙ sym (add-zero m)) ends)
          (pass-nothing (next c ENDENTRY ending));
      phase = e.phase;
      totals = e.totals
          ∙ totals-are c.track.totals (m + 0) (k + 0) (l + 0) (n + 0) (g.subentries-are ∙ sym (add-zero m))
          (g.keywords-are ∙ sym (add-zero k)) (g.lines_are ∙ sym (add-zero l)) (g.numbers-are ∙ sym (add-zero n));
    }
rest-pass (nosubent r ∷ later) c accession first number m k l n ending g f one some good rising ends =
    let above = rising.0 in
    let most = rising.1 in
    let z : m + suc (length later) ≡ m + 1 + length later = omega arith in
    let q0 = g.subentries-are in
    let q1 = g.number_is in
    let w = rest-pass later (next c NOSUBENT r) accession first (own_number r) (m + 1) (k + 0) (l + 0) (n + 0) ending
    (stands-none c accession first number m k l n r g) f (omega arith) (omega arith) good.1 rising.2
    (rw z at ends) in
    record {
      last = w.last;
      passes = next-pass c NOSUBENT r (subentries_records later ++ (ending ∷ [])) w.last
          (next-due c g.phase r
          ∙ next-other (name_of r) (no-subent (name_of r) NOSUBENT good.0.named (λ x. omega arith))
          ∙ either_left NOSUBENT ENDENTRY (name_of r) good.0.named)
          (opens-takes true c r accession g.accession-is good.0
          (number-later c (own_number r) (omega arith) (omega arith) most)) w.passes;
      phase = w.phase;
      totals = w.totals ∙ totals-same (omega arith) (omega arith) (omega arith) (omega arith);
    }
rest-pass (subent s ∷ later) c accession first number m k l n ending g f one some good rising ends =
    let above = rising.0 in
    let most = rising.1 in
    let z : m + suc (length later) ≡ m + 1 + length later = omega arith in
    let w = rest-pass later (after_later c s) accession first (own_number s.opening) (m + 1)
    (k + keywords_of_subentry (subent s)) (l + lines_of_subentry (subent s)) (n + numbers_of_subentry (subent s)) ending
    (later-stands c accession first number m k l n s g f one above good.0) f (omega arith) (omega arith) good.1
    rising.2 (rw z at ends) in
    record {
      last = w.last;
      passes = passes-as c (later_records (subent s) ++ (subentries_records later ++ (ending ∷ [])))
          (later_records (subent s) ++ subentries_records later ++ (ending ∷ [])) w.last
          (sym (append_assoc (later_records (subent s)) (subentries_records later) (ending ∷ [])))
          (later-pass c accession first number m k l n s (subentries_records later ++ (ending ∷ []))
          w.last g f one some above
          most (next-due c g.phase s.opening ∙ next-subent (name_of s.opening) good.0.opens.named)
          good.0
          w.passes);
      phase = w.phase;
      totals = w.totals ∙ totals-same (omega arith) (omega arith) (omega arith) (omega arith);
    }
