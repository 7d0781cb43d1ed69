-- A row of headings, record by record: the rules 11 to 14, and the context behind the row. Assumes nothing.
use Prim.Native.Nat.{ℕ, ◌+◌, ◌*◌, ◌<◌, ◌≤◌}
use mathlib.Core.Path.{◌≡◌, refl, sym, ◌∙◌, ap}
use mathlib.Core.Bool.{Bool, true, false, not, ◌&&◌}
use mathlib.Core.Logic.{◌↔◌}
use mathlib.Core.List.{List, [], ◌∷◌, ◌++◌}
use native.Mathlib.Omega.{arith}
use lib.Dec.{eqb}
use lib.ListN.{length}
use borrow.Author.Tests.{lt-ltb, le-ltb, not-false}
use Rattle.laws.proofs.Listing.{all_append, joined-one}
use Rattle.laws.specs.Walk.{All}
use Rattle.laws.specs.Blocks.{joined}
use Rattle.laws.specs.Members.{any_of}
use Rattle.laws.proofs.Search.{either}
use Rattle.paper_record.specs.Places.{records_for}
use Rattle.paper_record.specs.Fields.{field_at, fields_of, in_field}
use Rattle.paper_record.specs.Text.{is_blank}
use Rattle.paper_record.specs.Word.{is_word, blank_to, pointer_of}
use Rattle.paper_record.specs.Faults.{pointer_fault, heading_fault}
use Rattle.paper_record.proofs.PlainColumns.{blank-exactly, word-exactly, pointer-exactly}
use Rattle.paper_rules.specs.State.{Context, used}
use Rattle.paper_rules.specs.Roles.{DATA-HEADING, NOT-DUE, is_heading}
use Rattle.paper_rules.specs.Record.{field_column, pointer_column}
use Rattle.paper_rules.specs.Repeats.{heading_repeated}
use Rattle.paper_rules.specs.Headings.{rule11_heading, rule12_heading, rule13}
use Rattle.paper_rules.specs.Pointers.{pointers_for, pointer_lost, lost_at, rule14}
use Rattle.paper_faults.proofs.NoColumns.{where-none, none-where}
use Rattle.paper_rules.proofs.ByKind.{clean-heading}
use Rattle.rules_plain.specs.Places.{Long}
use Rattle.good.specs.Parts.{Record}
use Rattle.good.specs.Marks.{Following}
use Rattle.good.specs.Tables.{Heading, BlankCell}
use Rattle.good.proofs.Pointers.{FoundIn}
use Rattle.good.proofs.Steps.{Takes, next, MarkedFor, marked-every}
use Rattle.good.proofs.Runs.{Run, after_run}
use Rattle.good.proofs.Systems.{identification_in}
use Rattle.good.proofs.RowPlaces.{RowAt, NoEnd}
use Rattle.good.proofs.Rows.{headings, role_for, row_step}
use Rattle.good.proofs.Rowwise.{RowFine, run_row, BehindRow, behind-row, count_row}
use Rattle.good.proofs.Cells.{field-at, few, few-used, few-least, few-below, few_past, below-few, Cells}
use Rattle.good.proofs.Units.{no_count}
use Rattle.good.proofs.Earlier.{Fits, search-fits, fits-search}

-- ---- the rules 11 to 14

heading-role : (d : Bool) → (is_heading (role_for headings d) ≡ true) × (eqb (role_for headings d) NOT-DUE ≡ false)
heading-role false = (refl, refl)
heading-role true = (refl, refl)

-- the headings of DATA, on which 14 is made, and on which 13 lets more repeat
kind-data : (d : Bool) → eqb (role_for headings d) DATA-HEADING ≡ d
kind-data false = refl
kind-data true = refl

-- ---- a record of headings

-- `first` and `common` are the heading records of the COMMON of 001 and of this subentry; `pointers` may be named
pub record HeadingsFine (d : Bool) (first common : List Record) (pointers : List ℕ) (rest : ℕ) (before : List Record)
    (r : Record) : Type 0 where
  pub cells : Cells Heading BlankCell rest r
  pub fit : (j : ℕ) → j < 6 → j < rest → Fits d first common (before ++ (r ∷ [])) (length before * 6 + j)
  pub found : d ≡ true → (j : ℕ) → j < 6 → j < rest → FoundIn pointers (field_at r j)

pub record HeadingsKnown (first common : List Record) (pointers : List ℕ) (c : Context)
    (before : List Record) : Type 0 where
  pub first_part : c.seen.common001 ≡ joined first
  pub common-part : c.seen.common ≡ joined common
  pub table-part : c.seen.table ≡ joined before
  pub long-first : All Long first
  pub long-common : All Long common
  pub long-before : All Long before
  pub named : pointers_for c.seen.bib c.seen.bib001 c.seen.common c.seen.common001 ≡ pointers

not-lost : (pointers : List ℕ) (f : List ℕ) → pointer_lost pointers f ≡ false → FoundIn pointers f
not-lost pointers f h e = not-false (any_of (eqb (pointer_of f)) pointers) (rw e at h)

lost-not : (pointers : List ℕ) (f : List ℕ) → FoundIn pointers f → pointer_lost pointers f ≡ false
lost-not pointers f h = by-test (is_blank (pointer_of f)) refl
  where
    by-test : (b : Bool) → is_blank (pointer_of f) ≡ b → (not b && not (any_of (eqb (pointer_of f)) pointers)) ≡ false
    by-test true e = refl
    by-test false e = rw (h e)

module _ (d : Bool) (first common : List Record) (pointers : List ℕ) where
  abbrev pub RowOf : ℕ → List Record → ℕ → Record → Type 0
  RowOf rest before m r = HeadingsFine d first common pointers rest before r

  abbrev Known : Context → List Record → ℕ → Type 0
  Known c before m = HeadingsKnown first common pointers c before

  -- One record of headings. Each of the four rules says that no field meets its test (`where-none`), and the test
  -- speaks of bytes: of what the context has seen. `Known` says which records these bytes are, so that the bytes can
  -- be put aside; what is left are statements on the cells of this record and of the rows before. `headings-takes`
  -- goes the same way back. A rule that is added for headings is met in these two lemmas, by its name in `Clean`.
  takes-headings : (c : Context) (rest : ℕ) (before : List Record) (m : ℕ) (r : Record)
      → c.track.table.rest ≡ rest → Known c before m → Takes c (role_for headings d) r → RowOf rest before m r
  unfolding rule11_heading rule12_heading rule13 rule14 pointer_fault heading_fault
  takes-headings c rest before m r e k t =
      let kind = (heading-role d).0 in
      let u = few-used c.track rest e in
      let h11 = where-none (in_field (pointer_fault (used c.track)) (fields_of r)) pointer_column 6
      (t.1.eleven kind) in
      let h12 = where-none (in_field (heading_fault (used c.track)) (fields_of r)) field_column 6
      (t.1.twelve kind) in
      let h13 =
      where-none
      (heading_repeated (eqb (role_for headings d) DATA-HEADING) c.seen.common001 c.seen.common c.seen.table r
      (fields_of r)) field_column (used c.track) (t.1.thirteen kind) in
      record {
        cells = record {
          used = λ j l a.
              record {
                word = (word-exactly 10 (field_at r j)).0
                    (not-false (is_word 10 (field_at r j))
                    (rw (u, lt-ltb j (few rest) (few-below rest j l a), field-at r j l) at (h12 j l)));
                pointer = (pointer-exactly (field_at r j)).0
                    (rw (u, lt-ltb j (few rest) (few-below rest j l a), field-at r j l) at (h11 j l));
              };
          unused = λ j l a.
              (blank-exactly 11 (field_at r j)).0
              (not-false (blank_to 11 (field_at r j))
              (rw (u, le-ltb j (few rest) (few_past rest j l a), field-at r j l) at (h12 j l)));
        };
        fit = λ j l a.
            search-fits d first common before r j k.long-first k.long-common k.long-before l
            (rw (kind-data d, k.first_part, k.common-part, k.table-part) at (h13 j (rw u (few-below rest j l a))));
        found = λ q j l a.
            not-lost pointers (field_at r j)
            (rw (k.named, field-at r j l) at
            (where-none
            (lost_at (pointers_for c.seen.bib c.seen.bib001 c.seen.common c.seen.common001) (fields_of r))
            field_column (used c.track) (t.1.fourteen (kind-data d ∙ q)) j (rw u (few-below rest j l a))));
      }

  headings-takes : (c : Context) (rest : ℕ) (before : List Record) (m : ℕ) (r : Record)
      → c.track.table.rest ≡ rest → Known c before m → MarkedFor c (role_for headings d) r → RowOf rest before m r
      → Takes c (role_for headings d) r
  unfolding rule11_heading rule12_heading rule13 rule14 pointer_fault heading_fault
  headings-takes c rest before m r e k mk f =
      let u = few-used c.track rest e in
      let s = few-least rest in
      let role = role_for headings d in
      let (kind, due) = heading-role d in (
        mk.whole,
        clean-heading c.track c.seen role (fields_of r) r (marked-every c role r mk due) kind
            (none-where (in_field (pointer_fault (used c.track)) (fields_of r)) pointer_column 6
            (λ j l.
            rw (u, field-at r j l)
            (either j rest
            (λ a. rw (lt-ltb j (few rest) (few-below rest j l a))
            ((pointer-exactly (field_at r j)).1 (f.cells.used j l a).pointer))
            (λ a. rw (le-ltb j (few rest) (few_past rest j l a))))))
            (none-where (in_field (heading_fault (used c.track)) (fields_of r)) field_column 6
            (λ j l.
            rw (u, field-at r j l)
            (either j rest
            (λ a. rw (
              lt-ltb j (few rest) (few-below rest j l a),
              (word-exactly 10 (field_at r j)).1 (f.cells.used j l a).word,
            ))
            (λ a. rw (
              le-ltb j (few rest) (few_past rest j l a),
              (blank-exactly 11 (field_at r j)).1 (f.cells.unused j l a),
            )))))
            (none-where
            (heading_repeated (eqb role DATA-HEADING) c.seen.common001 c.seen.common c.seen.table r
            (fields_of r)) field_column (used c.track)
            (λ j l.
            let q : j < few rest = rw u at l in
            rw (kind-data d, k.first_part, k.common-part, k.table-part)
            (fits-search d first common before r j k.long-first k.long-common k.long-before
            (omega arith) (f.fit j (omega arith) (below-few rest j q)))))
            (λ t.
            none-where
            (lost_at (pointers_for c.seen.bib c.seen.bib001 c.seen.common c.seen.common001) (fields_of r))
            field_column (used c.track)
            (λ j l.
            let q : j < few rest = rw u at l in
            rw (k.named, field-at r j (omega arith))
            (lost-not pointers (field_at r j) (f.found (sym (kind-data d) ∙ t) j (omega arith) (below-few rest j q))))),
      )

  headings-known-next : (c : Context) (rest : ℕ) (before : List Record) (m : ℕ) (r : Record)
      → c.track.table.rest ≡ rest → Known c before m → 6 < rest → Takes c (role_for headings d) r
      → Known (next c (role_for headings d) r) (before ++ (r ∷ [])) (m + 0)
  headings-known-next c rest before m r e k l t =
      let s = row_step headings d c r in
      record {
        first_part = s.moved.common001 ∙ k.first_part;
        common-part = s.common ∙ k.common-part;
        table-part = s.part ∙ ap (λ (w : List ℕ). w ++ r) k.table-part ∙ sym (joined-one before r);
        long-first = k.long-first;
        long-common = k.long-common;
        long-before = all_append Long before (r ∷ []) k.long-before (t.0, tt);
        named = rw (s.bib, s.moved.bib001, s.common, s.moved.common001) k.named;
      }

  pub run-headings : (n last line rest : ℕ) (c : Context) (identification : List ℕ) (s : ℕ)
      (before : List Record) (m : ℕ) (rs : List Record) → RowAt c d headings n last line rest → 1 ≤ rest
      → identification_in c ≡ identification → c.track.subentry.records + 2 ≡ s → Known c before m
      → length rs ≡ records_for rest
      → Run NoEnd (role_for headings d) c rs
      ↔ (All NoEnd rs × Following identification s rs × RowFine RowOf no_count rest before m rs)
  run-headings = run_row d headings no_count RowOf Known takes-headings headings-takes headings-known-next

pub behind-headings : (d : Bool) (n last line rest : ℕ) (c : Context) (rs : List Record)
    → RowAt c d headings n last line rest → 1 ≤ rest → length rs ≡ records_for rest → Run NoEnd (role_for headings d) c rs
    → BehindRow c (after_run (role_for headings d) c rs) d headings rs (count_row no_count rest rs)
behind-headings d = behind-row d headings no_count (λ c r t. refl)
