-- A whole entry: the judge goes over its records exactly when it is good. Assumes nothing.
use Prim.Native.Nat.{ℕ}
use mathlib.Core.Path.{◌≡◌, refl, ◌∙◌, ap}
use mathlib.Core.Bool.{true}
use mathlib.Core.List.{List, [], ◌∷◌, ◌++◌}
use native.Mathlib.Omega.{arith}
use native.Mathlib.Nat.{zero-add}
use lib.ListN.{length}
use Rattle.paper_record.specs.Identifier.{ENTRY}
use Rattle.paper_record.specs.Expected.{accession_of}
use Rattle.paper_rules.specs.declared.types.Phase.TheVariants.{Start}
use Rattle.paper_rules.specs.State.{Context, start_context}
use Rattle.paper_rules.specs.Role.{only, role_in}
use Rattle.paper_entry.specs.Judging.{role_of}
use Rattle.paper_entry.specs.Verdict.{is_done}
use Rattle.good.specs.Parts.{Record, Entry, first_records, subentries_records, records_of}
use Rattle.good.specs.Marks.{name_of}
use Rattle.good.specs.Good.{GoodEntry, subentries_of}
use Rattle.good.specs.Totals.{keywords_in, numbers_of, keywords_of, lines_of, numbers_of_entry}
use Rattle.good.proofs.Steps.{next, Passes, next-pass}
use Rattle.good.proofs.Runs.{role-at, only-role, pass-only, rest_of}
use Rattle.good.proofs.Openings.{takes-entry, entry-takes, after-entry}
use Rattle.good.proofs.FirstSubentry.{Ready, after_first, pass-first, first-stands, first-pass-on}
use Rattle.good.proofs.LaterContexts.{first-known}
use Rattle.good.proofs.AllLater.{pass-rest, Finished, rest-pass}

-- ---- a whole entry

pub ready : (r : Record) → Ready (next start_context ENTRY r) (accession_of r)
ready r =
    let o = after-entry r in
    record {
      phase = o.phase;
      accession-is = o.accession;
      subentries = o.subentries;
      keywords = o.keywords;
      lines = o.lines;
      numbers = o.numbers;
      bib001 = o.bib001;
      common001 = o.common001;
    }

pub entry-due : (r : Record) → role_of start_context r ≡ only ENTRY (name_of r)
unfolding role_in
entry-due r = role-at start_context Start r refl

pub record PassedEntry (rs : List Record) (z : Context) : Type 0 where
  pub entry : Entry
  pub split : rs ≡ records_of entry
  pub good : GoodEntry entry

pub pass-entry : (rs : List Record) (z : Context) → is_done z.phase ≡ true → Passes start_context rs z
    → PassedEntry rs z
pass-entry rs z done p =
    rest_of start_context rs z refl done p
    (λ r ts split q.
    let s = pass-only start_context ENTRY r ts z (entry-due r) q in
    let accession = accession_of r in
    let a = pass-first (next start_context ENTRY r) ts z accession (ready r) done s.passes in
    let known = first-known accession a.first a.good in
    let b = pass-rest (length a.rest) (after_first (next start_context ENTRY r) a.first) a.rest z accession
    a.first
    1 1 (keywords_in a.first.bib) 0 (numbers_of a.first.common) (omega arith) a.stands known
    (omega arith) (omega arith) done a.passes in
    record {
      entry = record { opening = r; first = a.first; later = b.later; ending = b.ending };
      split = split ∙ ap (λ (x : List Record). r ∷ x)
          (a.split ∙ ap (λ (x : List Record). first_records a.first ++ x) b.split);
      good = record {
        opening = takes-entry start_context r s.named s.takes;
        first = a.good;
        later = b.good;
        rising = b.rising;
        ending = b.ends;
      };
    })

pub entry-pass : (e : Entry) → GoodEntry e
    → Finished start_context (records_of e) (subentries_of e) (keywords_of e) (lines_of e) (numbers_of_entry e)
entry-pass e g =
    let r = e.opening in
    let c = next start_context ENTRY r in
    let accession = accession_of r in
    let known = first-known accession e.first g.first in
    let st = first-stands c accession e.first (ready r) g.first in
    let w = rest-pass e.later (after_first c e.first) accession e.first 1 1 (keywords_in e.first.bib) 0
    (numbers_of e.first.common) e.ending st known (omega arith) (omega arith) g.later g.rising
    g.ending in
    record {
      last = w.last;
      passes = next-pass start_context ENTRY r (first_records e.first ++
          (subentries_records e.later ++ (e.ending ∷ [])))
          w.last (entry-due r ∙ only-role ENTRY (name_of r) g.opening.named)
          (entry-takes start_context r g.opening)
          (first-pass-on c accession e.first (subentries_records e.later ++ (e.ending ∷ [])) w.last (ready r)
          g.first
          w.passes);
      phase = w.phase;
      totals = w.totals ∙ ap (λ (x : ℕ). record {
        subentries = subentries_of e;
        keywords = keywords_of e;
        lines = x;
        numbers = numbers_of_entry e;
      })
          (zero-add (lines_of e));
    }
