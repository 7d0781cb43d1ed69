-- A walk of the judge in which every record is without fault: what that says of each record, and how one step follows
-- the other. Assumes nothing.
use Prim.Native.Nat.{ℕ, ◌+◌}
use mathlib.Core.Path.{◌≡◌, refl}
use mathlib.Core.Bool.{false, not}
use mathlib.Core.List.{List, [], ◌∷◌}
use lib.Dec.{eqb}
use lib.ListN.{length, get_or}
use borrow.Author.Tests.{not-false}
use Rattle.laws.specs.Walk.{Goes, All}
use Rattle.paper_record.specs.Columns.{has_line_feed}
use Rattle.paper_record.specs.Class.{is_permitted, not_permitted}
use Rattle.paper_record.specs.Fields.{fields_of}
use Rattle.paper_record.specs.Word.{equal_to}
use Rattle.paper_record.specs.Expected.{identification_of, sequence_of, in_digits}
use Rattle.paper_record.proofs.PlainColumns.{equal-exactly}
use Rattle.paper_rules.specs.State.{Context}
use Rattle.paper_rules.specs.Roles.{NOT-DUE}
use Rattle.paper_rules.specs.Every.{rule2, rule3, rule4, rule5, rule6, expected_identification, expected_sequence}
use Rattle.paper_rules.specs.Clean.{CleanEvery, Clean}
use Rattle.paper_faults.proofs.NoColumns.{when-none, where-none, none-where}
use Rattle.paper_rules.proofs.Clean.{fine-clean, clean-fine}
use Rattle.paper_entry.specs.Next.{context_after}
use Rattle.paper_entry.specs.Judging.{role_of, turn_of}
use Rattle.entry_walk.proofs.GoingOn.{go-fine, fine-go}
use Rattle.good.specs.Parts.{Record}
use Rattle.good.specs.Marks.{Marked}

-- ---- one record

-- it is whole, and without fault in its role
abbrev pub Takes : Context → ℕ → Record → Type 0
Takes c role r = (length r ≡ 81) × Clean c.track c.seen role (fields_of r) r

abbrev pub next : Context → ℕ → Record → Context
next c role r = context_after c role (fields_of r) r

abbrev pub MarkedFor : Context → ℕ → Record → Type 0
MarkedFor c role r =
    Marked (expected_identification c.track role (fields_of r)) (expected_sequence c.track role) r

-- by the rules for every record it is marked as expected and due, and the other way round; the rules for its kind are
-- met with in the files on each kind
pub takes-marked : (c : Context) (role : ℕ) (r : Record) → Takes c role r → MarkedFor c role r
unfolding rule2 rule3 rule5 rule6
takes-marked c role r t =
    let every = t.1.every in
    record {
      whole = t.0;
      line_feed = not-false (has_line_feed r) (when-none (not (has_line_feed r)) 81 every.two);
      permitted = λ i l.
          not-false (is_permitted (get_or r i 0)) (where-none (not_permitted r) (λ i. i + 1) 80 every.three i l);
      identified =
          let e = expected_identification c.track role (fields_of r) in
          (equal-exactly 8 (identification_of r) e).0
          (not-false (equal_to 8 (identification_of r) e)
          (when-none (not (equal_to 8 (identification_of r) e)) 67 every.five));
      sequenced =
          let e = in_digits 5 (expected_sequence c.track role) in
          (equal-exactly 5 (sequence_of r) e).0
          (not-false (equal_to 5 (sequence_of r) e) (when-none (not (equal_to 5 (sequence_of r) e)) 75 every.six));
    }

pub takes-due : (c : Context) (role : ℕ) (r : Record) → Takes c role r → eqb role NOT-DUE ≡ false
unfolding rule4
takes-due c role r t = when-none (eqb role NOT-DUE) 1 t.1.every.four

pub marked-every : (c : Context) (role : ℕ) (r : Record) → MarkedFor c role r → eqb role NOT-DUE ≡ false
    → CleanEvery c.track role (fields_of r) r
unfolding rule2 rule3 rule4 rule5 rule6
marked-every c role r m due =
    record {
      two = rw m.line_feed;
      three = none-where (not_permitted r) (λ i. i + 1) 80 (λ k l. rw (m.permitted k l));
      four = rw due;
      five = rw ((equal-exactly 8 (identification_of r) (expected_identification c.track role (fields_of r))).1
          m.identified);
      six = rw ((equal-exactly 5 (sequence_of r) (in_digits 5 (expected_sequence c.track role))).1 m.sequenced);
    }

-- ---- all records

unfoldable pub Passes : Context → List Record → Context → Type 0
Passes c [] z = c ≡ z
Passes c (r ∷ rs) z = Takes c (role_of c r) r × Passes (next c (role_of c r) r) rs z

pub pass-next : (c : Context) (role : ℕ) (r : Record) (rs : List Record) (z : Context) → role_of c r ≡ role
    → Passes c (r ∷ rs) z → Takes c role r × Passes (next c role r) rs z
unfolding Passes
pass-next c role r rs z e p = rw e at p

pub next-pass : (c : Context) (role : ℕ) (r : Record) (rs : List Record) (z : Context) → role_of c r ≡ role
    → Takes c role r → Passes (next c role r) rs z → Passes c (r ∷ rs) z
unfolding Passes
next-pass c role r rs z e t p = rw e (t, p)

pub pass-nothing : (c : Context) → Passes c [] c
unfolding Passes
pass-nothing c = refl

pub passes-as : (c : Context) (rs ts : List Record) (z : Context) → rs ≡ ts → Passes c rs z → Passes c ts z
passes-as c rs ts z e p = rw e at p

pub goes-passes : (c : Context) (i : ℕ) (rs : List Record) (z : Context) → All (λ r. length r ≡ 81) rs
    → Goes turn_of c i rs z → Passes c rs z
unfolding Passes
goes-passes c i [] z l g = g
goes-passes c i (r ∷ rs) z l g =
    let (fine, onward) = go-fine c i r g.0 g.1 in (
      (l.0, fine-clean c.track c.seen (role_of c r) (fields_of r) r fine),
      rw (← onward) at (goes-passes g.0 (i + 1) rs z l.1 g.2),
    )

pub passes-goes : (c : Context) (i : ℕ) (rs : List Record) (z : Context) → Passes c rs z → Goes turn_of c i rs z
unfolding Passes
passes-goes c i [] z p = p
passes-goes c i (r ∷ rs) z p = (
  next c (role_of c r) r,
  fine-go c i r (role_of c r) refl (clean-fine c.track c.seen (role_of c r) (fields_of r) r p.0.1),
  passes-goes (next c (role_of c r) r) (i + 1) rs z p.1,
)
