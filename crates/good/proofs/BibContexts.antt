-- BIB, ENDBIB and NOBIB: the contexts behind them, and their rules. Assumes nothing.
use Prim.Native.Nat.{ℕ, suc, ◌+◌, ◌≤◌}
use mathlib.Core.Path.{◌≡◌, refl, ◌∙◌, ap}
use mathlib.Core.Bool.{true}
use mathlib.Core.List.{List, [], ◌∷◌, ◌++◌}
use native.Mathlib.Omega.{arith}
use lib.ListN.{length, length-append}
use borrow.Author.Tests.{eq-eqb, leb-true, le-leb}
use Rattle.laws.specs.Blocks.{joined}
use Rattle.paper_record.specs.Fields.{fields_of, n1}
use Rattle.paper_record.specs.Identifier.{BIB, NOBIB, ENDBIB}
use Rattle.paper_rules.specs.declared.types.Phase.TheVariants.{InSubentry, InBib, AfterBib}
use Rattle.paper_rules.specs.State.{Context}
use Rattle.paper_rules.specs.Roles.{TEXT}
use Rattle.paper_rules.specs.Role.{only, role_in, bib_role, either as one_of}
use Rattle.paper_rules.specs.Every.{expected_identification, expected_sequence}
use Rattle.paper_rules.specs.Counts.{limit_n1, limit_n2, meets, true_count, count_n1, count_n2}
use Rattle.paper_entry.specs.Next.{context_after}
use Rattle.paper_entry.specs.Due.{phase_after}
use Rattle.paper_entry.specs.Counted.{track_after, after_system}
use Rattle.paper_entry.specs.Parts.{seen_after, part_after, bib_change, under_change}
use Rattle.paper_entry.specs.Judging.{role_of}
use Rattle.good.specs.Parts.{Record, Bib, Section, present, absent, texts_of, bib_records}
use Rattle.good.specs.Marks.{name_of, CountIs}
use Rattle.good.specs.Bib.{GoodBibPart, texts_of_part}
use Rattle.good.specs.Totals.{keywords_in}
use Rattle.good.proofs.Steps.{Takes, next, takes-marked}
use Rattle.good.proofs.Runs.{role-at, after_run}
use Rattle.good.proofs.Moves.{Moved, moved_on, recount, quiet}
use Rattle.good.proofs.TextContexts.{InText, after-texts}
use Rattle.good.proofs.Texts.{Holding}
use Rattle.good.proofs.Keywords.{bearing-keywords}
use Rattle.good.proofs.Systems.{identification_in, Here, end-takes}
use Rattle.good.proofs.SystemRoles.{end-BIB}

-- ---- the context behind it

unfoldable pub after_bib : Context → Section Bib → Context
after_bib c (present b) = next (after_run TEXT (next c BIB b.opening) (texts_of b.keywords)) ENDBIB b.ending
after_bib c (absent r) = next c NOBIB r

pub record BehindBib (c d : Context) (part : Section Bib) : Type 0 where
  pub phase : d.phase ≡ AfterBib
  pub moved : Moved c d (length (bib_records part)) (keywords_in part) 0 0
  pub bib : d.seen.bib ≡ joined (texts_of_part part)
  pub common : d.seen.common ≡ c.seen.common

pub record Opened (c d : Context) (a b : ℕ) : Type 0 where
  pub phase : d.phase ≡ InBib
  pub moved : Moved c d 1 0 0 0
  pub section : d.track.section ≡ 0
  pub met : d.track.bib.met ≡ 0
  pub announced : d.track.bib.keywords ≡ a
  pub long : d.track.bib.records ≡ b
  pub bib : d.seen.bib ≡ []
  pub under : d.seen.under ≡ []
  pub common : d.seen.common ≡ c.seen.common

pub after-BIB : (c : Context) (r : Record) → Opened c (next c BIB r) (count_n1 (fields_of r)) (count_n2 (fields_of r))
unfolding context_after phase_after track_after after_system seen_after part_after bib_change under_change
after-BIB c r =
    record {
      phase = refl;
      moved = quiet refl refl refl refl refl;
      section = refl;
      met = refl;
      announced = refl;
      long = refl;
      bib = refl;
      under = refl;
      common = refl;
    }

record Closed (c d : Context) : Type 0 where
  phase : d.phase ≡ AfterBib
  moved : Moved c d 1 0 0 0
  bib : d.seen.bib ≡ c.seen.bib
  common : d.seen.common ≡ c.seen.common

after-ENDBIB : (c : Context) (r : Record) → Closed c (next c ENDBIB r)
unfolding context_after phase_after track_after after_system seen_after part_after bib_change
after-ENDBIB c r =
    record {
      phase = refl;
      moved = quiet refl refl refl refl refl;
      bib = refl;
      common = refl;
    }

after-NOBIB : (c : Context) (r : Record) → Closed c (next c NOBIB r)
unfolding context_after phase_after track_after after_system seen_after part_after bib_change
after-NOBIB c r =
    record {
      phase = refl;
      moved = quiet refl refl refl refl refl;
      bib = refl;
      common = refl;
    }

pub behind-bib : (c : Context) (part : Section Bib) → c.seen.bib ≡ [] → GoodBibPart part
    → BehindBib c (after_bib c part) part
unfolding after_bib joined
behind-bib c (absent r) e g =
    let a = after-NOBIB c r in
    record { phase = a.phase; moved = a.moved; bib = a.bib ∙ e; common = a.common }
behind-bib c (present b) e g =
    let texts = texts_of b.keywords in
    let o = after-BIB c b.opening in
    let c1 = next c BIB b.opening in
    let t = after-texts c1 texts in
    let c2 = after_run TEXT c1 texts in
    let d = after-ENDBIB c2 b.ending in
    let k = bearing-keywords b.keywords g.each in
    record {
      phase = d.phase;
      moved = recount (length (bib_records (present b))) (length b.keywords) 0 0
          (moved_on (moved_on o.moved t.moved) d.moved)
          (many texts b.ending) (omega arith) refl refl;
      bib = d.bib ∙ t.bib ∙ ap (λ (w : List ℕ). w ++ joined texts) o.bib;
      common = d.common ∙ t.common ∙ o.common;
    }
  where
    many : (texts : List Record) (r : Record) → 1 + length texts + 1 ≡ suc (length (texts ++ (r ∷ [])))
    many texts r = rw length-append (omega arith)

-- ---- the rules of BIB and ENDBIB

pub least-keywords : (a b : ℕ) → meets (limit_n1 BIB) a ≡ true → 1 ≤ a
unfolding limit_n1
least-keywords a b e = leb-true 1 a e

pub bib-limits : (a b : ℕ) → 1 ≤ a → a ≤ b → (meets (limit_n1 BIB) a ≡ true) × (meets (limit_n2 BIB a) b ≡ true)
unfolding limit_n1 limit_n2
bib-limits a b h l = (le-leb 1 a h, le-leb a b l)

pub end_marked : (c : Context) (r : Record) → Takes c ENDBIB r → Here c r
unfolding expected_identification expected_sequence
end_marked c r t = takes-marked c ENDBIB r t

pub end-bib-takes : (c : Context) (r : Record) → Here c r → CountIs (n1 (fields_of r)) c.track.section
    → c.track.bib.met ≡ c.track.bib.keywords → Takes c ENDBIB r
unfolding expected_identification expected_sequence true_count
end-bib-takes c r m s k = end-takes c ENDBIB r end-BIB m s (eq-eqb c.track.bib.met c.track.bib.keywords k)

pub end-role : (c : Context) (r : Record) → InText c 0 → role_of c r ≡ only ENDBIB (name_of r)
unfolding role_in bib_role
end-role c r l =
    let h = l.left in
    role-at c InBib r l.phase
    ∙ rw (eq-eqb c.track.section c.track.bib.records (omega arith))

pub bib-role : (c : Context) (r : Record) → c.phase ≡ InSubentry → role_of c r ≡ one_of BIB NOBIB (name_of r)
unfolding role_in
bib-role c r e = role-at c InSubentry r e

pub holding : (c d : Context) (a b : ℕ) → Opened c d a b
    → Holding d (identification_in c) (c.track.subentry.records + 3) [] []
unfolding joined
holding c d a b o =
    record {
      identified = rw (o.moved.accession, o.moved.number);
      sequenced = let x = o.moved.records in omega arith;
      section = o.section;
      bib = o.bib;
      under-is = o.under;
      long = tt;
      long-under = tt;
    }
