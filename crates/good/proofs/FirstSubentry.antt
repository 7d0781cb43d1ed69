-- 001: the judge goes over its records exactly when it is good. Assumes nothing.
use Prim.Native.Nat.{ℕ}
use mathlib.Core.Path.{◌≡◌, refl, sym, ◌∙◌, ap}
use mathlib.Core.Bool.{true, false}
use mathlib.Core.List.{List, [], ◌∷◌, ◌++◌, append_assoc, append-nil}
use native.Mathlib.Omega.{arith}
use lib.ListN.{length, length-append}
use borrow.Author.Tests.{eq-eqb}
use Rattle.laws.specs.Blocks.{joined}
use Rattle.laws.specs.Members.{list_of}
use Rattle.laws.proofs.Listing.{all_left, all_right}
use Rattle.paper_record.specs.Identifier.{SUBENT, ENDSUBENT}
use Rattle.paper_record.specs.Expected.{identification_for}
use Rattle.paper_rules.specs.declared.types.Phase.TheVariants.{Opened}
use Rattle.paper_rules.specs.State.{Context}
use Rattle.paper_rules.specs.Role.{only, role_in}
use Rattle.paper_entry.specs.Judging.{role_of}
use Rattle.paper_entry.specs.Verdict.{is_done}
use Rattle.rules_plain.specs.Places.{Long}
use Rattle.good.specs.Parts.{Record, Bib, Table, Section, bib_records, table_records, Subentry001, body_of_first}
use Rattle.good.specs.Parts.{first_records}
use Rattle.good.specs.Marks.{Following, name_of}
use Rattle.good.specs.Bib.{GoodBibPart, texts_of_part}
use Rattle.good.specs.Subentries.{OpensSubentry, own_number, GoodFirst}
use Rattle.good.specs.Totals.{keywords_in, numbers_of}
use Rattle.good.proofs.Steps.{next, Passes, next-pass}
use Rattle.good.proofs.Runs.{role-at, only-role, pass-only, rest_of, Step}
use Rattle.good.proofs.Moves.{recount}
use Rattle.good.proofs.Marks.{following-long}
use Rattle.good.proofs.TableWalked.{heading_rows}
use Rattle.good.proofs.Openings.{takes-opens, opens-takes, first-number, number-first, after-opening}
use Rattle.good.proofs.Openings.{after-endsubent}
use Rattle.good.proofs.Subentries.{texts-long, rows_long, none-shown, end-due-first, Standing, encloses-of}
use Rattle.good.proofs.Subentries.{of-encloses}
use Rattle.good.proofs.FlagParts.{FlagsReady, first-flags}
use Rattle.good.proofs.SubentryHeads.{Begun, begun-by, after_head, Head, PassedHead, pass-head, HeadGood}
use Rattle.good.proofs.SubentryHeads.{good-head, head-pass}

unfoldable pub after_first : Context → Subentry001 → Context
after_first c s = next (after_head (next c SUBENT s.opening) s.bib s.common) ENDSUBENT s.ending

-- the context behind ENTRY
pub record Ready (c : Context) (accession : List ℕ) : Type 0 where
  pub phase : c.phase ≡ Opened
  pub accession-is : c.track.accession ≡ accession
  pub subentries : c.track.totals.subentries ≡ 0
  pub keywords : c.track.totals.keywords ≡ 0
  pub lines : c.track.totals.lines ≡ 0
  pub numbers : c.track.totals.numbers ≡ 0
  pub bib001 : c.seen.bib001 ≡ []
  pub common001 : c.seen.common001 ≡ []

abbrev pub StandsFirst : Context → List ℕ → Subentry001 → Type 0
StandsFirst c accession s =
    Standing c accession 1 1 (keywords_in s.bib) 0 (numbers_of s.common) (texts_of_part s.bib)
    (heading_rows s.common)

begun_first : (c : Context) (accession : List ℕ) (r : Record) → Ready c accession
    → Begun (next c SUBENT r) accession (own_number r) []
unfolding joined
begun_first c accession r g = begun-by c accession [] r g.accession-is g.common001 tt

stands-first : (c : Context) (accession : List ℕ) (s : Subentry001) → Ready c accession → own_number s.opening ≡ 1
    → Head (next c SUBENT s.opening) s.bib s.common → StandsFirst (after_first c s) accession s
unfolding after_first
stands-first c accession s g one h =
    let o = after-opening false c s.opening in
    let c3 = after_head (next c SUBENT s.opening) s.bib s.common in
    let e = after-endsubent c3 s.ending in
    let m = h.moved in
    let n : c3.track.subentry.number ≡ 1 = m.number ∙ o.number ∙ one in
    record {
      phase = e.phase;
      accession-is = e.accession ∙ m.accession ∙ o.accession ∙ g.accession-is;
      number_is = e.number ∙ n;
      subentries-are =
          (let x = e.subentries in let y = m.subentries in let z = o.subentries in let w = g.subentries in omega
          arith);
      keywords-are = (let x = e.keywords in let y = m.keywords in let z = o.keywords in let w = g.keywords in omega
          arith);
      lines_are = (let x = e.lines in let y = m.lines in let z = o.lines in let w = g.lines in omega arith);
      numbers-are = (let x = e.numbers in let y = m.numbers in let z = o.numbers in let w = g.numbers in omega
          arith);
      bib001 = e.bib001 ∙ rw (eq-eqb c3.track.subentry.number 1 n) h.bib-part;
      common001 = e.common001 ∙ rw (eq-eqb c3.track.subentry.number 1 n) h.common-part;
    }

pub record PassedFirst (c : Context) (rs : List Record) (z : Context) (accession : List ℕ) : Type 0 where
  pub first : Subentry001
  pub rest : List Record
  pub split : rs ≡ first_records first ++ rest
  pub good : GoodFirst accession first
  pub stands : StandsFirst (after_first c first) accession first
  pub passes : Passes (after_first c first) rest z

-- what its COMMON looks back at for flags: its own BIB, and nothing kept as that of 001
none_kept : (c : Context) (accession : List ℕ) (r : Record) → Ready c accession → (next c SUBENT r).seen.bib001 ≡ []
none_kept c accession r g = (after-opening false c r).bib001 ∙ g.bib001

ready-first : (accession : List ℕ) (r : Record) (bib : Section Bib) (common : Section Table) → GoodBibPart bib
    → Following (identification_for accession (own_number r)) 2 (bib_records bib ++ table_records common)
    → FlagsReady bib common
ready-first accession r bib common g f =
    let long = following-long (identification_for accession (own_number r)) 2 (bib_records bib ++ table_records common) f in
    record {
      good-bib = g;
      long-texts = texts-long bib (all_left Long (bib_records bib) (table_records common) long);
      long-rows = rows_long common (all_right Long (bib_records bib) (table_records common) long);
    }

pub subent-due : (c : Context) → c.phase ≡ Opened → (r : Record) → role_of c r ≡ only SUBENT (name_of r)
unfolding role_in
subent-due c e r = role-at c Opened r e

first-split : (r : Record) (bib common : List Record) (e : Record) (ts : List Record)
    → r ∷ (bib ++ (common ++ (e ∷ ts))) ≡ r ∷ (bib ++ common ++ (e ∷ []) ++ ts)
first-split r bib common e ts = ap (λ (x : List Record). r ∷ x) (simp append_assoc)

pub pass-first : (c : Context) (rs : List Record) (z : Context) (accession : List ℕ) → Ready c accession
    → is_done z.phase ≡ true → Passes c rs z → PassedFirst c rs z accession
unfolding list_of after_first
pass-first c rs z accession g done p =
    rest_of c rs z (ap is_done g.phase) done p
    (λ r ts split q.
    let s = pass-only c SUBENT r ts z (subent-due c g.phase r) q in
    let (opens, due) = takes-opens false c r accession g.accession-is s.named s.takes in
    let one = first-number c (own_number r) g.subentries due in
    let c1 = next c SUBENT r in
    let b = begun_first c accession r g in
    let h = pass-head c1 ts z accession (own_number r) [] 0 b none-shown done s.passes in
    let c3 = after_head c1 h.bib h.common in
    let n : c3.track.subentry.number ≡ 1 = h.head.moved.number ∙ b.number_is ∙ one in
    rest_of c3 h.rest z (ap is_done h.head.phase) done h.passes
    (λ e ts' split' q'.
    let w = pass-only c3 ENDSUBENT e ts' z (end-due-first c3 h.head.phase n e) q' in
    first_of c r ts z accession g b one opens h e ts' (split
    ∙ ap (λ (x : List Record). r ∷ x) (h.split ∙ ap (λ (x : List Record). bib_records h.bib ++
    (table_records h.common ++ x)) split')
    ∙ first-split r (bib_records h.bib) (table_records h.common) e ts') w))
  where
    first_of : (c : Context) (r : Record) (ts : List Record) (z : Context) (accession : List ℕ) → Ready c accession
        → Begun (next c SUBENT r) accession (own_number r) [] → own_number r ≡ 1 → OpensSubentry SUBENT accession r
        → (h : PassedHead (next c SUBENT r) ts z accession (own_number r) [] 0) (e : Record) (ts' : List Record)
        → rs ≡ r ∷ (bib_records h.bib ++ table_records h.common ++ (e ∷ []) ++ ts')
        → Step (after_head (next c SUBENT r) h.bib h.common) ENDSUBENT e ts' z → PassedFirst c rs z accession
    first_of c r ts z accession g b one opens h e ts' split w =
        let s : Subentry001 = record { opening = r; bib = h.bib; common = h.common; ending = e } in
        record {
          first = s;
          rest = ts';
          split = split;
          good = record {
            opens = opens;
            number = one;
            bib = h.good-bib;
            common = h.good-common;
            headings = h.fit;
            flags =
                (first-flags h.bib h.common (joined (texts_of_part h.bib)) (next c SUBENT r).seen.bib001 refl
                (none_kept c accession r g)
                (ready-first accession r h.bib h.common h.good-bib h.follows)).0
                h.flags;
            encloses = encloses-of (next c SUBENT r) (after_head (next c SUBENT r) h.bib h.common) accession r e
                (body_of_first s) (keywords_in h.bib) 0 (numbers_of h.common) b.accession-is b.number_is
                b.records
                (recount (length (body_of_first s)) (keywords_in h.bib) 0 (numbers_of h.common) h.head.moved
                (sym (length-append (bib_records h.bib) (table_records h.common))) refl refl refl)
                h.follows w.named w.takes;
          };
          stands = stands-first c accession s g one h.head;
          passes = w.passes;
        }

pub first_head : (c : Context) (accession : List ℕ) (s : Subentry001) → Ready c accession → GoodFirst accession s
    → HeadGood (next c SUBENT s.opening) accession (own_number s.opening) [] 0 s.bib s.common []
unfolding list_of
first_head c accession s g f =
    record {
      begun = begun_first c accession s.opening g;
      shown-rows = none-shown;
      good-bib = f.bib;
      good-common = f.common;
      fit = f.headings;
      flags =
          (first-flags s.bib s.common (joined (texts_of_part s.bib)) (next c SUBENT s.opening).seen.bib001
          refl (none_kept c accession s.opening g)
          (ready-first accession s.opening s.bib s.common f.bib f.encloses.between)).1
          f.flags;
      follows = rw (append-nil (table_records s.common)) f.encloses.between;
    }

pub first-stands : (c : Context) (accession : List ℕ) (s : Subentry001) → Ready c accession → GoodFirst accession s
    → StandsFirst (after_first c s) accession s
first-stands c accession s g f =
    stands-first c accession s g f.number
    (good-head (next c SUBENT s.opening) accession (own_number s.opening) [] 0 s.bib s.common []
    (first_head c accession s g f))

pub first-pass-on : (c : Context) (accession : List ℕ) (s : Subentry001) (rest : List Record) (z : Context)
    → Ready c accession
    → GoodFirst accession s → Passes (after_first c s) rest z → Passes c (first_records s ++ rest) z
unfolding after_first
first-pass-on c accession s rest z g f p =
    let r = s.opening in
    let c1 = next c SUBENT r in
    let b = begun_first c accession r g in
    let hg = first_head c accession s g f in
    let h = good-head c1 accession (own_number r) [] 0 s.bib s.common [] hg in
    let c3 = after_head c1 s.bib s.common in
    let n : c3.track.subentry.number ≡ 1 = h.moved.number ∙ b.number_is ∙ f.number in
    let te = of-encloses c1 c3 accession r s.ending (body_of_first s) (keywords_in s.bib) 0 (numbers_of s.common)
    b.accession-is b.number_is b.records
    (recount (length (body_of_first s)) (keywords_in s.bib) 0 (numbers_of s.common) h.moved
    (sym (length-append (bib_records s.bib) (table_records s.common))) refl refl refl)
    f.encloses in
    next-pass c SUBENT r (body_of_first s ++ (s.ending ∷ []) ++ rest) z
    (subent-due c g.phase r ∙ only-role SUBENT (name_of r) f.opens.named)
    (opens-takes false c r accession g.accession-is f.opens
    (number-first c (own_number r) g.subentries f.number))
    (rw (grouped-rows (bib_records s.bib) (table_records s.common) s.ending rest)
    (head-pass c1 accession (own_number r) [] 0 s.bib s.common [] (s.ending ∷ rest) z hg
    (next-pass c3 ENDSUBENT s.ending rest z
    (end-due-first c3 h.phase n s.ending ∙ only-role ENDSUBENT (name_of s.ending) f.encloses.named) te p)))
  where
    grouped-rows : (bib common : List Record) (e : Record) (ts : List Record)
        → bib ++ common ++ (e ∷ []) ++ ts ≡ bib ++ (common ++ (e ∷ ts))
    grouped-rows bib common e ts = simp append_assoc
