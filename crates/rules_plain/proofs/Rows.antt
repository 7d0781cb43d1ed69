-- Rows of records: the cells of the first record and of the others, and the headings of records one behind the other.
-- Assumes nothing.
use Prim.Native.Nat.{ℕ, zero, suc, ◌+◌, ◌-◌, ◌*◌, ◌/◌, ◌%◌, ◌<◌, ◌≤◌}
use mathlib.Core.Path.{◌≡◌, refl, sym, ◌∙◌, ap}
use mathlib.Core.List.{List, [], ◌∷◌, ◌++◌}
use native.Mathlib.Omega.{arith}
use lib.ListN.{length, get_or, take, drop, length-drop, get_or-eq_default}
use lib.Seq.{take-append-le, drop-append-le, get_or-take, get_or-drop}
use Rattle.laws.specs.Walk.{All}
use Rattle.laws.specs.Blocks.{joined}
use Rattle.laws.proofs.Search.{either}
use Rattle.laws.proofs.Blocks.{length-joined}
use Rattle.paper_record.specs.Fields.{field_at}
use Rattle.paper_rules.specs.Record.{Record}
use Rattle.paper_record.specs.Word.{pointer_of}
use Rattle.paper_rules.specs.Earlier.{heading_at, headings_in}
use Rattle.paper_rules.specs.Pointers.{heading_pointer_at}
use Rattle.rules_plain.specs.Places.{Long, cell}
use Rattle.rules_plain.proofs.Lists.{drop-record}

-- ---- by column

pub cell-here : (r : Record) (rs : List Record) (c : ℕ) → c < 6 → cell (r ∷ rs) c ≡ field_at r c
unfolding cell
cell-here r rs c l =
    let a : c / 6 ≡ 0 = omega arith in
    let b : c % 6 ≡ c = omega arith in
    rw (a, b)

pub cell-there : (r : Record) (rs : List Record) (c : ℕ) → 6 ≤ c → cell (r ∷ rs) c ≡ cell rs (c - 6)
unfolding cell
cell-there r rs c l =
    let a : c / 6 ≡ suc ((c - 6) / 6) = omega arith in
    let b : c % 6 ≡ (c - 6) % 6 = omega arith in
    rw (a, b)

-- ---- cells of joined records

field-front : (r part : List ℕ) (m : ℕ) → length r ≡ 81 → m < 6 → take 11 (drop (m * 11) (r ++ part)) ≡ field_at r m
field-front r part m l h =
    ap (take 11) (drop-append-le (m * 11) r part (omega arith))
    ∙ take-append-le 11 (drop (m * 11) r) part (rw length-drop (omega arith))

pub heading-cell : (rows : List Record) (m : ℕ) → All Long rows → m < length rows * 6
    → heading_at (joined rows) m ≡ cell rows m
unfolding joined
heading-cell [] m a l = absurd (omega arith)
heading-cell (r ∷ rows) m a l =
    either m 6
    (λ h.
    let e : m / 6 * 81 + m % 6 * 11 ≡ m * 11 = omega arith in
    ap (λ (x : ℕ). take 11 (drop x (r ++ joined rows))) e
    ∙ field-front r (joined rows) m a.0 h ∙ sym (cell-here r rows m h))
    (λ h.
    let e : m / 6 * 81 + m % 6 * 11 ≡ 81 + ((m - 6) / 6 * 81 + (m - 6) % 6 * 11) = omega arith in
    ap (take 11) (drop-record r (joined rows) (m / 6 * 81 + m % 6 * 11) ((m - 6) / 6 * 81 + (m - 6) % 6 * 11) a.0 e)
    ∙ heading-cell rows (m - 6) a.1 (omega arith) ∙ sym (cell-there r rows m h))

-- and beyond the last record, where nothing stands
nothing-behind : (xs : List ℕ) (n : ℕ) → length xs ≤ n → drop n xs ≡ []
nothing-behind [] zero l = refl
nothing-behind [] (suc n) l = refl
nothing-behind (x ∷ xs) zero l = absurd (omega arith)
nothing-behind (x ∷ xs) (suc n) l = nothing-behind xs n (omega arith)

pub heading-over : (rows : List Record) (m : ℕ) → All Long rows → heading_at (joined rows) m ≡ cell rows m
unfolding cell
heading-over rows m a =
    either m (length rows * 6) (λ l. heading-cell rows m a l)
    (λ l.
    let e : length (joined rows) ≡ length rows * 81 = length-joined 81 rows a in
    let none : get_or rows (m / 6) [] ≡ [] = get_or-eq_default rows [] (omega arith) in
    let bytes = nothing-behind (joined rows) (m / 6 * 81 + m % 6 * 11) (omega arith) in
    let columns = nothing-behind [] (m % 6 * 11) (omega arith) in
    rw (none, bytes, columns) refl)

pub heading-here : (r : Record) (m : ℕ) → m < 6 → heading_at r m ≡ field_at r m
heading-here r m l =
    let e : m / 6 * 81 + m % 6 * 11 ≡ m * 11 = omega arith in
    ap (λ (x : ℕ). take 11 (drop x r)) e

pub headings-in : (rows : List Record) → All Long rows → headings_in (joined rows) ≡ length rows * 6
headings-in rows a =
    let e : length (joined rows) ≡ length rows * 81 = length-joined 81 rows a in omega arith

-- the eleventh column of a heading
pub pointer-cell : (rows : List Record) (m : ℕ) → All Long rows → m < length rows * 6
    → heading_pointer_at (joined rows) m ≡ pointer_of (cell rows m)
pointer-cell rows m a l =
    let o = m / 6 * 81 + m % 6 * 11 in
    sym (get_or-drop o (joined rows) 10 0) ∙ sym (get_or-take 11 (drop o (joined rows)) 10 0 (omega arith))
    ∙ ap pointer_of (heading-cell rows m a l)
