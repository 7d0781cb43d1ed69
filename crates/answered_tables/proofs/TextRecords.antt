-- The text records of a BIB section of a good entry: each stands so many records behind the BIB record, and is a text
-- record there.
-- Assumes nothing.
use Prim.Native.Nat.{ℕ, suc, ◌+◌, ◌-◌, ◌<◌}
use mathlib.Core.Path.{◌≡◌, sym, ◌∙◌, ap}
use mathlib.Core.List.{List, [], ◌∷◌, ◌++◌}
use native.Mathlib.Omega.{arith}
use lib.ListN.{length, get_or, length-append, get_or-append}
use lib.Seq.{get_or-append-add}
use Rattle.laws.specs.Blocks.{block_at}
use Rattle.paper_record.specs.Fields.{field_at, fields_of, n2}
use Rattle.paper_record.proofs.ReadColumns.{field-of}
use Rattle.paper_record.specs.System.{count_of}
use Rattle.std.proofs.Common.{Some}
use Rattle.paper_record.proofs.PlainDigits.{count-exactly}
use Rattle.paper_rules.specs.Text.{place_in_part}
use Rattle.paper_entry.specs.Contexts.{context_at}
use Rattle.paper_questions.proofs.RowChanges.{bib}
use Rattle.inside.specs.Inside.{TextOf}
use Rattle.inside.proofs.RecordsFrom.{place-field}
use Rattle.inside.proofs.RowFound.{Opening}
use Rattle.inside.proofs.TextLaid.{texts_of as texts_from, text-laid}
use Rattle.rules_plain.specs.Places.{bib_place}
use Rattle.good.specs.Parts.{Record, Bib, texts_of, records_of}
use Rattle.good.specs.Bib.{GoodBib}
use Rattle.good.specs.Good.{GoodBytes}
use Rattle.answered_tables.proofs.Indexed.{block_is, accepted, counted, there-behind, block-behind}
use Rattle.answered_tables.proofs.Indexed.{context-behind}
use Rattle.answered_tables.proofs.Reached.{BibReached}

module _ (s : List ℕ) (g : GoodBytes s) (n : ℕ) (b : Bib) (r : BibReached g.entry n b) (good : GoodBib b) where
  abbrev a : ℕ
  a = length r.before

  abbrev texts : List Record
  texts = texts_of b.keywords

  at_opening : block_at 81 s a ≡ b.opening
  at_opening = block-behind s g r.before b.opening (texts ++ r.behind) r.split

  context-is : context_at s a ≡ r.here
  context-is = context-behind s g r.before b.opening (texts ++ r.behind) r.split r.here r.passes

  pub opening : Opening s n bib a
  opening =
      record {
        there = there-behind s g r.before b.opening (texts ++ r.behind) r.split;
        role = rw (context-is, at_opening) r.due;
        subentry = rw context-is r.number;
      }

  pub announced : texts_from s a ≡ length texts
  announced =
      let e : count_of (n2 (fields_of b.opening)) ≡ Some (length texts) =
      (count-exactly 11 (n2 (fields_of b.opening)) (length texts)).1 good.records in
      rw (at_opening, e)

  pub text-of : (m : ℕ) → m < length texts → TextOf s n (suc a + m)
  text-of m h = text-laid s (accepted s g) n a opening m (rw announced h)

  below : (m : ℕ) → m < length texts → suc a + m < length (records_of g.entry)
  below m h =
      let c = counted s g r.before b.opening (texts ++ r.behind) r.split in
      let d = length-append texts r.behind in
      omega arith

  behind-at : (m : ℕ) → m < length texts → get_or (records_of g.entry) (suc a + m) [] ≡ get_or texts m []
  behind-at m h =
      let z : suc a + m ≡ a + suc m = omega arith in
      ap (λ (i : ℕ). get_or (records_of g.entry) i []) z
      ∙ ap (λ (xs : List Record). get_or xs (a + suc m) []) r.split
      ∙ get_or-append-add r.before (b.opening ∷ (texts ++ r.behind)) (suc m) []
      ∙ get_or-append texts r.behind [] m h

  pub place-of : (m : ℕ) → m < length texts → place_in_part s (suc a + m) ≡ bib_place (get_or texts m [])
  place-of m h =
      sym (place-field s (suc a + m))
      ∙ field-of (block_at 81 s (suc a + m)) 0 (omega arith)
      ∙ ap (λ (x : Record). field_at x 0) (block_is s g (suc a + m) (below m h) ∙ behind-at m h)
