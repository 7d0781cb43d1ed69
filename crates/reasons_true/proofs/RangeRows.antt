-- The records of a range, as a list: their bytes, and the headings on them.
-- Assumes nothing.
use Prim.Native.Nat.{ℕ, ◌+◌, ◌*◌, ◌-◌, ◌/◌, ◌%◌, ◌≤◌, ◌<◌}
use mathlib.Core.Path.{◌≡◌, ◌∙◌, ap}
use mathlib.Core.List.{List, []}
use native.Mathlib.Omega.{arith}
use lib.ListN.{length, take, drop, get_or}
use lib.Seq.{length-take-le, drop-drop}
use Rattle.laws.specs.Blocks.{blocks, block_at, joined}
use Rattle.laws.specs.Walk.{All}
use Rattle.laws.proofs.Blocks.{joined-blocks, blocks-wide, length-blocks, block-at}
use Rattle.paper_record.specs.Columns.{columns_at}
use Rattle.paper_record.specs.Fields.{field_at}
use Rattle.paper_rules.specs.declared.types.Range.{Range}
use Rattle.paper_rules.specs.Record.{Record}
use Rattle.paper_rules.specs.Parts.{bytes_of}
use Rattle.paper_rules.specs.Ranging.{Placed}
use Rattle.rules_plain.specs.Places.{Long, cell}
use Rattle.rules_plain.specs.Repeated.{headings_on}
use Rattle.rules_plain.proofs.HeadingLists.{headings-length, heading-of}
use Rattle.reasons_true.proofs.Long.{columns-long}
use Rattle.reasons_true.proofs.Put.{inside}

abbrev pub size_of : Range → ℕ
size_of g = g.past.0 - g.from.0

abbrev pub rows_of : List ℕ → ℕ → Range → List Record
rows_of s i g = blocks 81 (size_of g) (bytes_of (take (i * 81) s) g)

module _ (s : List ℕ) (i : ℕ) (there : i * 81 ≤ length s) (g : Range) (p : Placed g i) where
  abbrev part : List ℕ
  part = bytes_of (take (i * 81) s) g

  part-columns : (n m : ℕ) → n + m ≤ size_of g * 81 → columns_at n m part ≡ columns_at (g.from.0 * 81 + n) m s
  part-columns n m h =
      let x = p.ordered in
      let y = p.below in
      inside n m (g.past.0 * 81 - g.from.0 * 81) (drop (g.from.0 * 81) (take (i * 81) s)) (omega arith)
      ∙ ap (take m) (drop-drop n (g.from.0 * 81) (take (i * 81) s))
      ∙ inside (g.from.0 * 81 + n) m (i * 81) s (omega arith)

  part-long : length part ≡ size_of g * 81
  part-long =
      let x = p.ordered in
      let y = p.below in
      let l : length (take (i * 81) s) ≡ i * 81 = length-take-le (i * 81) s there in
      let z : g.past.0 * 81 - g.from.0 * 81 ≡ size_of g * 81 = omega arith in
      columns-long (g.from.0 * 81) (g.past.0 * 81 - g.from.0 * 81) (take (i * 81) s) (omega arith) ∙ z

  pub rows-bytes : joined (rows_of s i g) ≡ bytes_of (take (i * 81) s) g
  rows-bytes = joined-blocks 81 (size_of g) part part-long

  pub rows_long : All Long (rows_of s i g)
  rows_long = blocks-wide 81 (size_of g) part part-long

  rows-count : length (rows_of s i g) ≡ size_of g
  rows-count = length-blocks 81 (size_of g) part

  rows_at : (m : ℕ) → m < size_of g → get_or (rows_of s i g) m [] ≡ block_at 81 s (g.from.0 + m)
  rows_at m l =
      let z : g.from.0 * 81 + m * 81 ≡ (g.from.0 + m) * 81 = omega arith in
      block-at 81 (size_of g) part m l ∙ part-columns (m * 81) 81 (omega arith)
      ∙ ap (λ (x : ℕ). columns_at x 81 s) z

  pub headings-count : length (headings_on (rows_of s i g)) ≡ size_of g * 6
  headings-count = headings-length (rows_of s i g) ∙ ap (λ (x : ℕ). x * 6) rows-count

  pub heading-there : (m : ℕ) → m < size_of g * 6
      → get_or (headings_on (rows_of s i g)) m [] ≡ field_at (block_at 81 s (g.from.0 + m / 6)) (m % 6)
  unfolding cell
  heading-there m l =
      let n = rows-count in
      heading-of (rows_of s i g) m (omega arith)
      ∙ ap (λ (r : Record). field_at r (m % 6)) (rows_at (m / 6) (omega arith))
