-- A code in the records of its passage (document 02, M-106):
--
--   "a code breaks (rest of the record blank) only after a comma and goes on in column 12; [..] 50 character no code can
--   have there (record and column; passage ended: next record, column 0) and 51 break after no comma (the character
--   before it)"
use Rattle.std.specs.Prelude.{ℕ, ◌+◌, ◌-◌, ◌*◌, ◌≤◌, Bool, true, false, cond, not, List, eqb, length, get_or, take, drop}
use Rattle.laws.specs.Search.{first as first_place}
use Rattle.laws.specs.Turns.{Turn, go, out, run}
use Rattle.paper_decay.specs.declared.types.Scan.{Scan}
use Rattle.paper_decay.specs.declared.types.Stop.{Stop}
use Rattle.paper_decay.specs.declared.types.Coded.{Coded}
use Rattle.paper_decay.specs.declared.types.Turned.{Turned}
use Rattle.paper_decay.specs.Scan.{fresh, nowhere, scan_text}

-- columns 12 to 66 of the record with the index i
abbrev pub text_at : List ℕ → ℕ → List ℕ
text_at s i = take 55 (drop (i * 81 + 11) s)

-- the column k columns before the last one is filled
abbrev pub filled_behind : List ℕ → ℕ → Bool
filled_behind l k = not (eqb (get_or l (length l - 1 - k) 0) 32)

-- "rest of the record blank": how many columns there are up to the last that is filled
unfoldable pub filled_to : List ℕ → ℕ
filled_to l = length l - first_place (filled_behind l) 0 (length l)

abbrev pub said : ℕ → ℕ → ℕ → Coded
said number at column = record { number = number; at = at; column = column }

abbrev pub turned_out : Coded → Turned
turned_out answer = record { going = false; scan = nowhere; coded = answer }

abbrev pub turned_on : Scan → Turned
turned_on scan = record { going = true; scan = scan; coded = said 0 0 0 }

unfoldable pub behind_text : Stop → ℕ → ℕ → ℕ → Turned
behind_text x at filled last =
    cond (eqb x.scan.place 5) (turned_out (said 0 at (x.at + 12)))
    (cond (eqb x.scan.place 6) (turned_out (said 50 at (x.at + 12)))
    (cond (eqb last 44) (turned_on x.scan)
    (turned_out (said 51 at (filled + 11)))))

unfoldable pub turned_of : Scan → List ℕ → ℕ → Turned
turned_of s l at =
    cond (eqb (filled_to l) 0) (turned_out (said 50 at 12))
    (behind_text (scan_text (take (filled_to l) l) s) at (filled_to l) (get_or l (filled_to l - 1) 0))

abbrev pub as_turn : Turned → Turn Scan Coded
as_turn t = cond t.going (go t.scan) (out t.coded)

unfoldable pub record_turn : List ℕ → Scan → ℕ → Turn Scan Coded
record_turn s c i = as_turn (turned_of c (text_at s i) i)

-- "passage ended: next record, column 0"
abbrev pub ended : ℕ → Scan → Coded
ended past c = said 50 past 0

unfoldable pub scan_records : List ℕ → ℕ → ℕ → Coded
scan_records s from past = run (record_turn s) (ended past) (fresh 0 false) from (past - from)

-- whole records of an entry
pub record Records (s : List ℕ) (from past : ℕ) : Type 0 where
  pub ordered : from ≤ past
  pub whole : past * 81 ≤ length s
