-- The text records of a BIB section that the row of an accepted entry names: all that are counted lie inside the entry,
-- and no two bear one keyword.
-- Assumes nothing.
use Prim.Native.Nat.{ℕ, ◌+◌, ◌-◌, ◌/◌, ◌<◌, ◌≤◌}
use mathlib.Core.Path.{◌≡◌, refl, sym, ◌∙◌, ap}
use mathlib.Core.List.{List, []}
use native.Mathlib.Omega.{arith}
use lib.ListN.{length, get_or}
use borrow.Author.Tests.{le-leb}
use Rattle.paper_record.specs.declared.types.RecordNo.{RecordNo}
use Rattle.paper_rules.specs.Limits.{MOST-RECORDS}
use Rattle.paper_rules.specs.Counts.{count_n2}
use Rattle.paper_rules.specs.Text.{place_in_part}
use Rattle.paper_entry.specs.Judging.{Accepted}
use Rattle.paper_entry.proofs.Lengths.{whole-records, accepted-good}
use Rattle.paper_questions.specs.Located.{row_of}
use Rattle.paper_questions.specs.Passage.{text_records, text_record, text_at}
use Rattle.paper_questions.proofs.RowChanges.{bib}
use Rattle.paper_index.specs.PassageAnswers.{least, records_held, texts_counted, texts_held}
use Rattle.inside.specs.Inside.{TextOf}
use Rattle.inside.proofs.RecordsFrom.{place-field}
use Rattle.inside.proofs.RowWalked.{fields-at}
use Rattle.inside.proofs.RowFound.{row-fields}
use Rattle.inside.proofs.TextLaid.{texts_of, texts-there, row-bib, row-announced, row-texts}
use Rattle.inside.proofs.TextsSeen.{keyword-once}
use Rattle.row_passages.proofs.Searched.{KeywordOnce}

least_first : (a b : ℕ) → a ≤ b → least a b ≡ a
least_first a b h = rw (le-leb a b h) refl

module _ (s : List ℕ) (accepted : Accepted s) (n : ℕ) (some : (row_of s n).bib.0 ≡ 0 → ⊥) where
  abbrev section : RecordNo
  section = (row_of s n).bib

  abbrev N : ℕ
  N = text_records s section

  pub texts-counted : texts_counted s section ≡ N
  texts-counted =
      ap count_n2 (row-fields s accepted n bib (section.0 - 1) (row-bib s accepted n some))
      ∙ sym (row-announced s accepted n some)

  records-held : records_held s ≡ length s / 81
  records-held =
      least_first (length s / 81) MOST-RECORDS (whole-records (length s) (accepted-good s accepted)).1

  -- "Sections end by these counts": the entry has them all
  texts-fit : texts_counted s section ≤ records_held s - section.0
  texts-fit =
      let l = texts-there s accepted n (section.0 - 1) (row-bib s accepted n some) in
      let a : N ≡ texts_of s (section.0 - 1) = row-announced s accepted n some in
      omega (arith, texts-counted, records-held, some)

  pub texts-held : texts_held s section ≡ N
  texts-held =
      least_first (texts_counted s section) (records_held s - section.0) texts-fit ∙ texts-counted

  -- ---- by their places

  text-of : (m : ℕ) → m < N → TextOf s n (section.0 + m)
  text-of m h = row-texts s accepted n some m h

  text_at_lem : (m : ℕ) → m < N → text_at s section m ≡ place_in_part s (section.0 + m)
  text_at_lem m h =
      let l = (text-of m h).there in
      ap (λ (fs : List (List ℕ)). get_or fs 0 [])
      (fields-at s (section.0 + m) (omega arith) (text_record section m) (omega arith))
      ∙ place-field s (section.0 + m)

  -- "No keyword occurs twice in a section"
  pub texts-once : KeywordOnce s section N
  texts-once i j h l k =
      let m : j < N = omega arith in
      rw (text_at_lem i h, text_at_lem j m)
      (keyword-once s accepted n (section.0 + i) (section.0 + j) (text-of i h) (text-of j m) (omega arith)
      (rw (text_at_lem i h) at k))
