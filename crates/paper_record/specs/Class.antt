-- The characters of a record (document 01, "Record, line and field"):
--
--   "Permitted characters (004, 2.3): blank, A-Z, a-z, 0-9 and + - . ) ( * / = ' , % < > : ; ! ? &. The class of each
--   of the 256 byte values is kept in one table: 0 not permitted, 1 blank, 2 digit, 3 capital, 4 small, 5 special."
use Rattle.std.specs.Prelude.{ℕ, ◌≡◌, Bool, cond, not, List, ◌++◌, eqb, get_or}
use Rattle.laws.specs.Search.{first}
use Rattle.laws.specs.Members.{list_of, any_of}
use Rattle.paper_record.specs.Text.{text}

-- ---- the permitted characters, written out

abbrev pub capitals : List ℕ
capitals = text "ABCDEFGHIJKLMNOPQRSTUVWXYZ"

abbrev pub smalls : List ℕ
smalls = text "abcdefghijklmnopqrstuvwxyz"

abbrev pub digits : List ℕ
digits = text "0123456789"

abbrev pub specials : List ℕ
specials = text "+-.)(*/=',%<>:;!?&"

abbrev pub permitted : List ℕ
permitted = text " " ++ (capitals ++ (smalls ++ (digits ++ specials)))

abbrev pub is_among : List ℕ → ℕ → Bool
is_among list b = any_of (eqb b) list

unfoldable pub is_permitted : ℕ → Bool
is_permitted b = is_among permitted b

-- ---- the class of a byte; that a byte is permitted exactly when its class is not 0 is the law `permitted-class`

unfoldable pub class_of : ℕ → ℕ
class_of b =
    cond (is_among (text " ") b) 1
    (cond (is_among digits b) 2
    (cond (is_among capitals b) 3
    (cond (is_among smalls b) 4
    (cond (is_among specials b) 5 0))))

-- the table: the class of each byte, one behind the other. That the table of the code is this one is computed, entry by
-- entry, in the proof of `classes`; that its entry at a byte is the byte's class is the law `class-at`.
unfoldable pub class_table : List ℕ
class_table = list_of class_of 0 256

-- a table that is lent to a function
pub record ClassesLent (t : List ℕ) : Type 0 where
  pub same : t ≡ class_table

-- ---- the first column that is not permitted

abbrev pub not_permitted : List ℕ → ℕ → Bool
not_permitted r i = not (is_permitted (get_or r i 0))

-- how many of the first w columns stand before it; w where every one is permitted
unfoldable pub permitted_in : ℕ → List ℕ → ℕ
permitted_in w r = first (not_permitted r) 0 w

-- ---- refusal 3: the first of columns 1 to 80 that is not permitted

-- how many columns stand before it; 80 where every one is permitted
unfoldable pub permitted_to : List ℕ → ℕ
permitted_to r = first (not_permitted r) 0 80
