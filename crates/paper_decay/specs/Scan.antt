-- The reading of a code, character by character: what the code does. That it stops at the first character that no code
-- has there, and closes exactly at the end of a code, are the laws `closed-exactly` and `Stops-first`.
use Rattle.std.specs.Prelude.{ℕ, ◌+◌, Bool, true, false, cond, List, eqb, leb, ltb, length, get_or}
use Rattle.laws.specs.Turns.{Turn, go, out, run}
use Rattle.paper_number.specs.Form.{place_number, place_at}
use Rattle.paper_number.specs.Reading.{column_of, scan_step}
use Rattle.paper_record.specs.Text.{is_digit, is_capital}
use Rattle.paper_decay.specs.Characters.{is_type}
use Rattle.paper_decay.specs.declared.types.Scan.{Scan}
use Rattle.paper_decay.specs.declared.types.Stop.{Stop}

-- ---- states

-- place: 0 flag and nuclide, 1 half-life, 2 types, 3 energies, 4 abundance, 5 closed, 6 nowhere.
-- inner, within a place: of 0 and 1 as said there, of 2 whether the type has a character, of 3 and 4 the number layer's.
-- count: the characters or digits of a word so far. again: a slash stands before. filled: an earlier place of the group has some
abbrev pub standing : ℕ → ℕ → ℕ → Bool → Bool → Scan
standing place inner count again filled =
    record { place = place; inner = inner; count = count; again = again; filled = filled }

abbrev pub fresh : ℕ → Bool → Scan
fresh place filled = standing place 0 0 false filled

abbrev pub nowhere : Scan
nowhere = standing 6 0 0 false false

abbrev pub to_if : Bool → Scan → Scan
to_if t s = cond t s nowhere

-- ---- a number, by the number layer's places: "at most eleven characters", and no blank

-- how many characters a number needs at least from a place of its reading: none behind the point (4) or in the exponent (9),
-- a digit and a point at the beginning (0) and behind a sign (1), a point in the whole digits (2) and a digit behind a bare
-- point (3), behind E (6) and behind its sign (8); more than it may have where it has a blank (5, 7) or is none (10)
unfoldable pub need_of : ℕ → ℕ
need_of inner =
    cond (eqb inner 4) 0
    (cond (eqb inner 9) 0
    (cond (ltb inner 2) 2
    (cond (ltb inner 4) 1
    (cond (eqb inner 6) 1
    (cond (eqb inner 8) 1
    12)))))

-- where the number layer's reading goes from a place
unfoldable pub next_of : ℕ → ℕ → ℕ
next_of inner b = place_number (scan_step (place_at inner) (column_of b))

-- 10, none, where the characters so far, this one and those needed are more than eleven
abbrev pub room_for : ℕ → ℕ → ℕ
room_for count next = cond (ltb 10 (count + need_of next)) 10 next

unfoldable pub number_next : ℕ → ℕ → ℕ → ℕ
number_next inner count b =
    cond (eqb b 32) 10
    (cond (ltb 10 inner) 10
    (cond (ltb 10 count) 10
    (room_for count (next_of inner b))))

unfoldable pub number_whole : ℕ → Bool
number_whole inner = cond (eqb inner 4) true (eqb inner 9)

unfoldable pub number_more : ℕ → ℕ → ℕ → Bool → Bool → Scan
number_more place next count again filled =
    cond (eqb next 10) nowhere (cond (ltb count 11) (standing place next (count + 1) again filled) nowhere)

-- ---- the flag and the nuclide: 0 before the code, 1 behind its parenthesis, 2 in the flag's digits, 3 behind its point,
-- ---- 4 behind the flag or a blank, 5 in Z, 6 in S, 7 in A, 8 behind the isomer's hyphen, 9 behind M, 10 behind G, M1 or M2

abbrev pub head : ℕ → ℕ → Scan
head inner count = standing 0 inner count false false

-- "up to 3 digits, no leading zeros": a zero counts as three
unfoldable pub digits_next : ℕ → ℕ → ℕ
digits_next count b =
    cond (is_digit b) (cond (eqb count 0) (cond (eqb b 48) 3 1) (cond (ltb count 3) (count + 1) 0)) 0

abbrev pub first_digit : ℕ → Scan
first_digit b = cond (eqb (digits_next 0 b) 0) nowhere (head 5 (digits_next 0 b))

-- blanks at the beginning of a field: behind one no flag can stand
unfoldable pub before_nuclide : ℕ → Scan
before_nuclide b = cond (eqb b 32) (head 4 0) (first_digit b)

unfoldable pub flag_digits : ℕ → ℕ → Scan
flag_digits count b =
    cond (is_digit b) (cond (ltb count 10) (head 2 (count + 1)) nowhere)
    (cond (eqb count 0) nowhere (to_if (eqb b 46) (head 3 0)))

unfoldable pub flag_step : ℕ → ℕ → ℕ → Scan
flag_step inner count b =
    cond (eqb inner 0) (to_if (eqb b 40) (head 1 0))
    (cond (eqb inner 1) (cond (eqb b 40) (head 2 0) (before_nuclide b))
    (cond (eqb inner 2) (flag_digits count b)
    (cond (eqb inner 4) (before_nuclide b) nowhere)))

unfoldable pub digits_step : ℕ → ℕ → ℕ → ℕ → Scan
digits_step inner count b next =
    cond (eqb (digits_next count b) 0)
    (cond (eqb count 0) nowhere (to_if (eqb b 45) (head next 0)))
    (head inner (digits_next count b))

unfoldable pub symbol_step : ℕ → ℕ → Scan
symbol_step count b =
    cond (is_capital b) (cond (ltb count 2) (head 6 (count + 1)) nowhere)
    (cond (eqb count 0) nowhere (to_if (eqb b 45) (head 7 0)))

unfoldable pub nuclide_step : ℕ → ℕ → ℕ → Scan
nuclide_step inner count b =
    cond (eqb inner 5) (digits_step 5 count b 6)
    (cond (eqb inner 6) (symbol_step count b)
    (cond (eqb inner 7) (digits_step 7 count b 8)
    (cond (eqb inner 8) (cond (eqb b 77) (head 9 0) (to_if (eqb b 71) (head 10 0)))
    (cond (eqb inner 9) (cond (eqb b 49) (head 10 0) (to_if (eqb b 50) (head 10 0)))
    nowhere))))

unfoldable pub head_step : ℕ → ℕ → ℕ → Scan
head_step inner count b = cond (ltb inner 5) (flag_step inner count b) (nuclide_step inner count b)

-- ---- the half-life: 0 to 10 in its number, by the number layer's places, 11 behind an E that may be the exponent's or the
-- ---- unit's, 12 in the unit

abbrev pub half : ℕ → ℕ → Scan
half inner count = standing 1 inner count false false

-- "a unit one to ten capitals"
unfoldable pub unit_step : ℕ → ℕ → Scan
unit_step count b = cond (is_capital b) (cond (ltb count 10) (half 12 (count + 1)) nowhere) nowhere

unfoldable pub mark_step : ℕ → ℕ → Scan
mark_step count b = cond (is_capital b) (half 12 2) (number_more 1 (number_next 6 count b) count false false)

unfoldable pub behind_number : ℕ → ℕ → ℕ → Scan
behind_number next count b =
    cond (eqb next 6) (number_more 1 11 count false false)
    (cond (is_capital b) (half 12 1) (number_more 1 next count false false))

unfoldable pub half_number_step : ℕ → ℕ → ℕ → Scan
half_number_step inner count b =
    cond (number_whole inner) (behind_number (number_next inner count b) count b)
    (number_more 1 (number_next inner count b) count false false)

unfoldable pub half_step : ℕ → ℕ → ℕ → Scan
half_step inner count b =
    cond (eqb inner 12) (unit_step count b)
    (cond (eqb inner 11) (mark_step count b)
    (half_number_step inner count b))

-- ---- types, energies, abundance

unfoldable pub type_step : ℕ → Bool → Bool → ℕ → Scan
type_step inner again filled b =
    cond (is_type b) (standing 2 1 0 again filled)
    (cond (eqb inner 1) (to_if (eqb b 47) (standing 2 0 0 true filled)) nowhere)

unfoldable pub numbers_step : Scan → ℕ → Scan
numbers_step s b =
    cond (eqb b 47)
    (cond (eqb s.place 3) (to_if (number_whole s.inner) (standing 3 0 0 true s.filled)) nowhere)
    (number_more s.place (number_next s.inner s.count b) s.count s.again s.filled)

-- ---- inside a place

-- nothing of the field was read, save blanks
unfoldable pub is_empty : Scan → Bool
is_empty s = cond s.again false (cond (eqb s.inner 0) (eqb s.count 0) false)

unfoldable pub place_step : Scan → ℕ → Scan
place_step s b =
    cond (eqb s.place 1) (half_step s.inner s.count b)
    (cond (eqb s.place 2) (type_step s.inner s.again s.filled b)
    (numbers_step s b))

-- a blank stays where a field begins, and stands nowhere else
unfoldable pub field_step : Scan → ℕ → Scan
field_step s b = cond (eqb b 32) (to_if (is_empty s) s) (place_step s b)

unfoldable pub inside_step : Scan → ℕ → Scan
inside_step s b =
    cond (eqb s.place 0) (head_step s.inner s.count b)
    (cond (ltb s.place 5) (field_step s b) nowhere)

-- ---- the end of a field

unfoldable pub head_whole : ℕ → ℕ → Bool
head_whole inner count = cond (eqb inner 7) (ltb 0 count) (cond (eqb inner 9) true (eqb inner 10))

unfoldable pub is_whole : Scan → Bool
is_whole s =
    cond (eqb s.place 0) (head_whole s.inner s.count)
    (cond (eqb s.place 1) (ltb 10 s.inner)
    (cond (eqb s.place 2) (eqb s.inner 1) (number_whole s.inner)))

unfoldable pub is_flag_point : Scan → Bool
is_flag_point s = cond (eqb s.place 0) (eqb s.inner 3) false

-- "no comma before the closing parenthesis": an empty field does not end there
unfoldable pub close_step : Scan → Scan
close_step s =
    cond (is_flag_point s) (head 4 0) (to_if (is_whole s) (fresh 5 false))

-- "Groups go by position, none wholly empty"
unfoldable pub next_place : ℕ → Bool → Scan
next_place place something =
    cond (eqb place 0) (fresh 1 false)
    (cond (eqb place 1) (fresh 2 false)
    (cond (eqb place 2) (fresh 3 something)
    (cond (eqb place 3) (fresh 4 something)
    (cond (eqb place 4) (to_if something (fresh 2 false)) nowhere))))

unfoldable pub comma_step : Scan → Scan
comma_step s =
    cond (is_whole s) (next_place s.place true)
    (cond (eqb s.place 0) nowhere
    (cond (is_empty s) (next_place s.place s.filled) nowhere))

unfoldable pub step_of : Scan → ℕ → Scan
step_of s b = cond (eqb b 44) (comma_step s) (cond (eqb b 41) (close_step s) (inside_step s b))

-- ---- a text

abbrev pub stopped : Scan → Bool
stopped s = leb 5 s.place

abbrev pub stop : Scan → ℕ → Stop
stop s i = record { scan = s; at = i }

abbrev pub turn : Scan → ℕ → Turn Scan Stop
turn t i = cond (stopped t) (out (stop t i)) (go t)

unfoldable pub text_turn : List ℕ → Scan → ℕ → Turn Scan Stop
text_turn l s i = turn (step_of s (get_or l i 0)) i

abbrev pub end_at : List ℕ → Scan → Stop
end_at l s = stop s (length l)

unfoldable pub scan_text : List ℕ → Scan → Stop
scan_text l s = run (text_turn l) (end_at l) s 0 (length l)
