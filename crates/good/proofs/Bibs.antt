-- A BIB section or NOBIB: the judge goes over its records exactly when they are a good one. Assumes nothing.
use Prim.Native.Nat.{ℕ, ◌+◌}
use mathlib.Core.Path.{◌≡◌, refl, sym, ◌∙◌, ap}
use mathlib.Core.Bool.{true}
use mathlib.Core.List.{List, [], ◌∷◌, ◌++◌, append_assoc}
use native.Mathlib.Omega.{arith}
use native.Mathlib.Nat.{zero-add}
use lib.ListN.{length}
use borrow.Author.Tests.{eqb-true}
use Rattle.laws.specs.Blocks.{joined}
use Rattle.paper_record.specs.Fields.{fields_of, n1, n2}
use Rattle.paper_record.specs.Identifier.{BIB, NOBIB, ENDBIB}
use Rattle.paper_record.specs.Word.{equal_to}
use Rattle.paper_record.specs.Same.{SameColumns}
use Rattle.paper_record.proofs.PlainColumns.{equal-exactly}
use Rattle.paper_rules.specs.declared.types.Phase.TheVariants.{InSubentry}
use Rattle.paper_rules.specs.State.{Context}
use Rattle.paper_rules.specs.Roles.{TEXT}
use Rattle.paper_rules.specs.Counts.{true_count, count_n1, count_n2}
use Rattle.paper_entry.specs.Verdict.{is_done}
use Rattle.good.specs.Parts.{Record, Bib, Section, present, absent, texts_of, bib_records}
use Rattle.good.specs.Marks.{Marked, Following, name_of}
use Rattle.good.specs.Bib.{GoodBibPart, keyword_places}
use Rattle.good.proofs.Repeats.{once-said, said-once}
use Rattle.good.proofs.Steps.{Takes, next, Passes, next-pass}
use Rattle.good.proofs.Runs.{only-role, either_left, either-right, pass-only, pass-either, rest_of, Step, Run}
use Rattle.good.proofs.Runs.{after_run}
use Rattle.good.proofs.TextContexts.{Other, InText, AfterText, after-texts, pass-texts, texts-pass, texts-left}
use Rattle.good.proofs.TextContexts.{bearing}
use Rattle.good.proofs.Texts.{run-texts}
use Rattle.good.proofs.Keywords.{fine-keywords, fine-following, keywords-fine, bearing-keywords, keywords-least}
use Rattle.good.proofs.Marks.{says-as, counted1, counted2, following-append, following-left, following-right}
use Rattle.good.proofs.Marks.{following-as}
use Rattle.good.proofs.Systems.{identification_in, here_of, free-takes, takes-announces, announces-takes}
use Rattle.good.proofs.Systems.{takes-end}
use Rattle.good.proofs.SystemRoles.{free-NOBIB, open-BIB, end-BIB}
use Rattle.good.proofs.BibContexts.{after_bib, Opened, after-BIB, least-keywords, bib-limits, end_marked}
use Rattle.good.proofs.BibContexts.{end-bib-takes, end-role, bib-role, holding}

-- ---- from the walk to the section

pub record PassedBib (c : Context) (rs : List Record) (z : Context) : Type 0 where
  pub part : Section Bib
  pub rest : List Record
  pub split : rs ≡ bib_records part ++ rest
  pub good : GoodBibPart part
  pub follows : Following (identification_in c) (c.track.subentry.records + 2) (bib_records part)
  pub passes : Passes (after_bib c part) rest z

no-bib : (c : Context) (r : Record) (rs : List Record) (z : Context) → Step c NOBIB r rs z → PassedBib c (r ∷ rs) z
unfolding after_bib Following
no-bib c r rs z s =
    record {
      part = absent r;
      rest = rs;
      split = refl;
      good = s.named;
      follows = (here_of c NOBIB r free-NOBIB.inside s.takes, tt);
      passes = s.passes;
    }

-- behind the text records
ended-bib : (c : Context) (r : Record) (xs ys : List Record) (z : Context) → is_done z.phase ≡ true
    → name_of r ≡ BIB → Takes c BIB r
    → length xs ≡ count_n2 (fields_of r) → Run Other TEXT (next c BIB r) xs → InText (after_run TEXT (next c BIB r) xs) 0
    → Passes (after_run TEXT (next c BIB r) xs) ys z → PassedBib c (r ∷ (xs ++ ys)) z
unfolding after_bib Following true_count
ended-bib c r xs ys z done named t l run left p =
    let a = takes-announces c BIB r open-BIB t in
    let c1 = next c BIB r in
    let o = after-BIB c r in
    let fine = (run-texts c1 (identification_in c) (c.track.subentry.records + 3) [] [] xs
    (holding c c1 (count_n1 (fields_of r)) (count_n2 (fields_of r)) o)).0 run in
    let ks = fine-keywords (identification_in c) (c.track.subentry.records + 3) xs fine in
    let follows = fine-following (identification_in c) (c.track.subentry.records + 3) [] [] xs fine in
    let at = after-texts c1 xs in
    let c2 = after_run TEXT c1 xs in
    rest_of c2 ys z (ap is_done left.phase) done p
    (λ e ts split q.
    let s = pass-only c2 ENDBIB e ts z (end-role c2 e left) q in
    let (between, met) = takes-end c2 ENDBIB e end-BIB s.takes in
    let k : count_n1 (fields_of r) ≡ length ks.keywords =
    sym o.announced ∙ sym at.announced ∙ sym (eqb-true c2.track.bib.met c2.track.bib.keywords met)
    ∙ at.met ∙ ap (λ (m : ℕ). m + bearing xs) o.met ∙ zero-add (bearing xs)
    ∙ ap bearing ks.split ∙ bearing-keywords ks.keywords ks.each in
    let n : length xs ≡ length (texts_of ks.keywords) = ap length ks.split in
    let sec : c2.track.section ≡ length (texts_of ks.keywords) =
    at.section ∙ ap (λ (m : ℕ). m + length xs) o.section ∙ zero-add (length xs) ∙ n in
    let least = least-keywords (count_n1 (fields_of r)) 0 a.limit1 in
    record {
      part = present (record { opening = r; keywords = ks.keywords; ending = e });
      rest = ts;
      split = ap (λ (w : List Record). r ∷ w)
          (ap (λ (w : List Record). w ++ ys) ks.split
          ∙ ap (λ (w : List Record). texts_of ks.keywords ++ w) split
          ∙ sym (append_assoc (texts_of ks.keywords) (e ∷ []) ts));
      good = record {
        opens = named;
        keywords = says-as (n1 (fields_of r)) (count_n1 (fields_of r)) (length ks.keywords) a.first k;
        least = rw k at least;
        records = says-as (n2 (fields_of r)) (count_n2 (fields_of r)) (length (texts_of ks.keywords)) a.second
            (sym l ∙ n);
        each = ks.each;
        once = once-said (equal_to 10) (SameColumns 10) (equal-exactly 10) [] (keyword_places ks.keywords) ks.once;
        ends = s.named;
        between = says-as (n1 (fields_of e)) c2.track.section (length (texts_of ks.keywords)) between sec;
      };
      follows = (
        here_of c BIB r open-BIB.inside t,
        rw ks.split at
            (following-append (identification_in c) (c.track.subentry.records + 2 + 1) xs (e ∷ [])
            (following-as (identification_in c) (identification_in c) (c.track.subentry.records + 3)
            (c.track.subentry.records + 2 + 1) xs refl (omega arith) follows)
            (ending c c1 c2 e o at s.takes, tt)),
      );
      passes = rw ks.split at s.passes;
    })
  where
    ending : (c c1 c2 : Context) (e : Record) → Opened c c1 (count_n1 (fields_of r)) (count_n2 (fields_of r))
        → AfterText c1 c2 (length xs) (bearing xs) (joined xs) → Takes c2 ENDBIB e
        → Marked (identification_in c) (c.track.subentry.records + 2 + 1 + length xs) e
    ending c c1 c2 e o at t =
        let m = end_marked c2 e t in
        let x = o.moved.records in
        let y = at.moved.records in
        let i : identification_in c2 ≡ identification_in c =
        rw (at.moved.accession, at.moved.number, o.moved.accession, o.moved.number) in
        let n : c2.track.subentry.records + 2 ≡ c.track.subentry.records + 2 + 1 + length xs = omega arith in
        rw (i, n) at m

pub pass-bib : (c : Context) (rs : List Record) (z : Context) → c.phase ≡ InSubentry → is_done z.phase ≡ true
    → Passes c rs z → PassedBib c rs z
pass-bib c rs z e done p =
    rest_of c rs z (ap is_done e) done p
    (λ r ts split q.
    rw split
    (pass-either c BIB NOBIB r ts z (λ x. omega arith) (bib-role c r e) q
    (λ s.
    let o = after-BIB c r in
    let x = o.section in
    let y = o.long in
    pass-texts (count_n2 (fields_of r)) (next c BIB r) ts z
    (record { phase = o.phase; left = omega arith }) done s.passes
    (λ xs ys split l run left p. rw split (ended-bib c r xs ys z done s.named s.takes l run left p)))
    (λ s. no-bib c r ts z s)))

-- ---- from the section to the walk

pub bib-pass : (c : Context) (part : Section Bib) (rest : List Record) (z : Context) → c.phase ≡ InSubentry
    → GoodBibPart part → Following (identification_in c) (c.track.subentry.records + 2) (bib_records part)
    → Passes (after_bib c part) rest z → Passes c (bib_records part ++ rest) z
unfolding after_bib Following
bib-pass c (absent r) rest z e g f p =
    next-pass c NOBIB r rest z (bib-role c r e ∙ either-right BIB NOBIB (name_of r) (λ x. omega arith) g)
    (free-takes c NOBIB r free-NOBIB f.0) p
bib-pass c (present b) rest z e g f p =
    let texts = texts_of b.keywords in
    let r = b.opening in
    let c1 = next c BIB r in
    let c2 = after_run TEXT c1 texts in
    let o = after-BIB c r in
    let at = after-texts c1 texts in
    let n : count_n2 (fields_of r) ≡ length texts = counted2 r (length texts) g.records in
    let k : count_n1 (fields_of r) ≡ length b.keywords = counted1 r (length b.keywords) g.keywords in
    let (l1, l2) = bib-limits (length b.keywords) (length texts) g.least (keywords-least b.keywords) in
    let fine = keywords-fine (identification_in c) (c.track.subentry.records + 3) [] [] [] b.keywords
    (record { same = λ f w. refl }) g.each
    (said-once (equal_to 10) (SameColumns 10) (equal-exactly 10) [] (keyword_places b.keywords) g.once)
    (following-as (identification_in c) (identification_in c) (c.track.subentry.records + 2 + 1)
    (c.track.subentry.records + 3) texts refl (omega arith)
    (following-left (identification_in c) (c.track.subentry.records + 2 + 1) texts (b.ending ∷ []) f.1)) in
    let run = (run-texts c1 (identification_in c) (c.track.subentry.records + 3) [] [] texts
    (holding c c1 (count_n1 (fields_of r)) (count_n2 (fields_of r)) o)).1 fine in
    let x = o.section in
    let y = o.long in
    let inside : InText c1 (length texts) = record { phase = o.phase; left = omega arith } in
    let left = texts-left (length texts) c1 texts inside refl run in
    let last = following-right (identification_in c) (c.track.subentry.records + 2 + 1) texts (b.ending ∷ [])
    f.1 in
    let i : identification_in c2 ≡ identification_in c =
    rw (at.moved.accession, at.moved.number, o.moved.accession, o.moved.number) in
    let xr = o.moved.records in
    let yr = at.moved.records in
    let q : c2.track.subentry.records + 2 ≡ c.track.subentry.records + 2 + 1 + length texts = omega arith in
    let ys = at.section in
    let sec : length texts ≡ c2.track.section = omega arith in
    let met : c2.track.bib.met ≡ c2.track.bib.keywords =
    at.met ∙ ap (λ (m : ℕ). m + bearing texts) o.met ∙ zero-add (bearing texts)
    ∙ bearing-keywords b.keywords g.each ∙ sym k ∙ sym o.announced ∙ sym at.announced in
    let t2 = end-bib-takes c2 b.ending (rw (i, q) last.0)
    (says-as (n1 (fields_of b.ending)) (length texts) c2.track.section g.between sec) met in
    next-pass c BIB r ((texts ++ (b.ending ∷ [])) ++ rest) z
    (bib-role c r e ∙ either_left BIB NOBIB (name_of r) g.opens)
    (announces-takes c BIB r (length b.keywords) (length texts) open-BIB f.0
    (record { first = g.keywords; second = g.records; limit1 = l1; limit2 = l2 }))
    (rw (append_assoc texts (b.ending ∷ []) rest)
    (texts-pass (length texts) c1 texts (b.ending ∷ rest) z inside refl run
    (next-pass c2 ENDBIB b.ending rest z (end-role c2 b.ending left ∙ only-role ENDBIB (name_of b.ending)
    g.ends)
    t2 p)))
