-- Every entry of the table is the byte's class, and a byte is permitted exactly when its class is not 0.
-- Assumes nothing.
use mathlib.Core.Path.{◌≡◌, ◌∙◌, refl, sym, ap}
use mathlib.Core.Bool.{Bool, true, false, cond, not}
use mathlib.Core.List.{List, ◌++◌}
use Prim.Native.Nat.{ℕ, ◌+◌}
use native.Mathlib.Nat.{zero-add}
use lib.Dec.{eqb}
use lib.ListN.{take, drop, take-append-drop}
use Rattle.laws.specs.Members.{list_of}
use Rattle.laws.proofs.Listing.{list-split}
use Rattle.laws.proofs.Members.{any_append, list_at}
use Rattle.paper_record.specs.Text.{text}
use Rattle.paper_record.specs.Class.{capitals, smalls, digits, specials, is_among, is_permitted, class_of, class_table}
use Rattle.paper_record.specs.ClassClaims.{ClassAt, PermittedClass}

-- The table of the code is held against the classes part by part, so that an entry that differs is shown.
pub by_parts : (n m i : ℕ) (t : List ℕ) → take n t ≡ list_of class_of i n → drop n t ≡ list_of class_of (i + n) m
    → t ≡ list_of class_of i (n + m)
by_parts n m i t a b = sym (take-append-drop n t) ∙ rw (a, b) (sym (list-split class_of i n m))

pub class-at : ClassAt
unfolding class_table
class-at k h = list_at class_of 0 256 k 0 h ∙ rw (zero-add k) refl

-- Of the five lists that a byte may be in, `permitted` joins all and `class_of` names the first.
by-lists : (blank capital small digit special : Bool)
    → cond blank true (cond capital true (cond small true (cond digit true special)))
    ≡ not (eqb (cond blank 1 (cond digit 2 (cond capital 3 (cond small 4 (cond special 5 0))))) 0)
by-lists true c s d p = refl
by-lists false true s true p = refl
by-lists false true s false p = refl
by-lists false false true true p = refl
by-lists false false true false p = refl
by-lists false false false true p = refl
by-lists false false false false true = refl
by-lists false false false false false = refl

pub permitted-class : PermittedClass
unfolding is_permitted class_of
permitted-class b =
    any_append (eqb b) (text " ") (capitals ++ (smalls ++ (digits ++ specials)))
    ∙ ap (λ (t : Bool). cond (is_among (text " ") b) true t)
    (any_append (eqb b) capitals (smalls ++ (digits ++ specials))
    ∙ ap (λ (t : Bool). cond (is_among capitals b) true t)
    (any_append (eqb b) smalls (digits ++ specials)
    ∙ ap (λ (t : Bool). cond (is_among smalls b) true t) (any_append (eqb b) digits specials)))
    ∙ by-lists (is_among (text " ") b) (is_among capitals b) (is_among smalls b) (is_among digits b) (is_among specials b)
