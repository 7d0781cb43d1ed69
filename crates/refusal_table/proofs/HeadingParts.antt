-- What is kept of the records before the one with the index i: each part is whole records of the entry, text records or
-- records of headings.
-- Assumes nothing.
use Prim.Native.Nat.{ℕ, zero, suc, ◌*◌, ◌/◌, ◌<◌, ◌≤◌}
use mathlib.Core.Path.{◌≡◌, refl, sym, ◌∙◌, ap}
use mathlib.Core.Bool.{Bool, true, ◌||◌}
use mathlib.Core.List.{List, [], ◌∷◌, ◌++◌}
use native.Mathlib.Omega.{arith}
use lib.Dec.{eqb}
use lib.ListN.{length, drop, length-drop}
use lib.Seq.{length-take-le}
use Rattle.laws.specs.Blocks.{block_at, joined}
use Rattle.laws.specs.Walk.{All}
use Rattle.laws.proofs.Booleans.{either-as}
use Rattle.laws.proofs.Listing.{all_append, joined-one}
use Rattle.paper_record.specs.Identifier.{COMMON, ENDCOMMON, DATA}
use Rattle.paper_rules.specs.Record.{Record}
use Rattle.paper_rules.specs.State.{Seen}
use Rattle.paper_rules.specs.Roles.{TEXT, opens_subentry, is_heading}
use Rattle.paper_entry.specs.declared.types.Change.{Change}
use Rattle.paper_entry.specs.declared.types.Change.TheVariants.{Kept, Emptied, Joined}
use Rattle.paper_entry.specs.Parts.{part_after, empties_bib, bib_change, table_change, ends001, seen_after}
use Rattle.paper_entry.specs.Next.{context_after}
use Rattle.paper_entry.specs.Contexts.{context_at, role_at}
use Rattle.rules_plain.specs.Places.{Long}
use Rattle.rules_plain.specs.Repeated.{RecordsBefore}
use Rattle.refusal_table.specs.Table.{among, headings}
use Rattle.refusal_table.specs.KindOf.{KindOf}
use Rattle.refusal_table.specs.HeadingFaults.{StandsBefore, HeldAgainst}
use Rattle.refusal_table.proofs.Standing.{one-kind, heading-kinds}

block-whole : (s : List ℕ) (i : ℕ) → i < length s / 81 → Long (block_at 81 s i)
block-whole s i l =
    let n : length (drop (i * 81) s) ≡ _ = length-drop (i * 81) s in
    length-take-le 81 (drop (i * 81) s) (omega arith)

is_text : ℕ → Bool
is_text role = eqb role TEXT

-- a record before the one with the index i, whose role meets the test
record RoleBefore (s : List ℕ) (i : ℕ) (test : ℕ → Bool) (r : Record) : Type 0 where
  at : ℕ
  before : at < i
  same : r ≡ block_at 81 s at
  role : test (role_at s at) ≡ true

-- the part is made of such records
record MadeOf (s : List ℕ) (i : ℕ) (test : ℕ → Bool) (part : List ℕ) : Type 0 where
  records : List Record
  bytes : part ≡ joined records
  long : All Long records
  each : All (RoleBefore s i test) records

module _ (s : List ℕ) (i : ℕ) (test : ℕ → Bool) where
  later : (rs : List Record) → All (RoleBefore s i test) rs → All (RoleBefore s (suc i) test) rs
  later [] a = tt
  later (r ∷ rs) a =
      let l = a.0.before in
      (record { at = a.0.at; before = omega arith; same = a.0.same; role = a.0.role }, later rs a.1)

  made_none : MadeOf s (suc i) test []
  unfolding joined
  made_none = record { records = []; bytes = refl; long = tt; each = tt }

  made-later : (part : List ℕ) → MadeOf s i test part → MadeOf s (suc i) test part
  made-later part m =
      record { records = m.records; bytes = m.bytes; long = m.long; each = later m.records m.each }

  made-joined : (part : List ℕ) → MadeOf s i test part → i < length s / 81 → test (role_at s i) ≡ true
      → MadeOf s (suc i) test (part ++ block_at 81 s i)
  made-joined part m l e =
      let r : Record = block_at 81 s i in
      record {
        records = m.records ++ (r ∷ []);
        bytes = ap (λ (x : List ℕ). x ++ r) m.bytes ∙ sym (joined-one m.records r);
        long = all_append Long m.records (r ∷ []) m.long (block-whole s i l, tt);
        each = all_append (RoleBefore s (suc i) test) m.records (r ∷ []) (later m.records m.each)
            (record { at = i; before = omega arith; same = refl; role = e }, tt);
      }

-- all that is kept
record AllMade (s : List ℕ) (i : ℕ) (seen : Seen) : Type 0 where
  bib001 : MadeOf s i is_text seen.bib001
  bib : MadeOf s i is_text seen.bib
  common001 : MadeOf s i is_heading seen.common001
  common : MadeOf s i is_heading seen.common
  table : MadeOf s i is_heading seen.table

made-next : (s : List ℕ) (i : ℕ) → i < length s / 81 → AllMade s i (context_at s i).seen
    → AllMade s (suc i) (context_at s (suc i)).seen
unfolding context_at context_after seen_after part_after bib_change table_change is_text
made-next s i l m =
    let c = context_at s i in
    let r : Record = block_at 81 s i in
    let role = role_at s i in
    let text : List ℕ → Type 0 = MadeOf s (suc i) is_text in
    let heading : List ℕ → Type 0 = MadeOf s (suc i) is_heading in
    record {
      bib001 = either-as text (ends001 c.track role) c.seen.bib c.seen.bib001
          (λ e. made-later s i is_text c.seen.bib m.bib)
          (λ e. made-later s i is_text c.seen.bib001 m.bib001);
      bib = either-as (λ (x : Change). text (part_after x c.seen.bib r)) (empties_bib role) Emptied _
          (λ e. made_none s i is_text)
          (λ e. either-as (λ (x : Change). text (part_after x c.seen.bib r)) (eqb role TEXT) Joined Kept
          (λ h. made-joined s i is_text c.seen.bib m.bib l h)
          (λ h. made-later s i is_text c.seen.bib m.bib));
      common001 = either-as heading (ends001 c.track role) c.seen.common c.seen.common001
          (λ e. made-later s i is_heading c.seen.common m.common)
          (λ e. made-later s i is_heading c.seen.common001 m.common001);
      common = either-as heading (opens_subentry role) [] _ (λ e. made_none s i is_heading)
          (λ e. either-as heading (eqb role ENDCOMMON) c.seen.table c.seen.common
          (λ h. made-later s i is_heading c.seen.table m.table)
          (λ h. made-later s i is_heading c.seen.common m.common));
      table = either-as (λ (x : Change). heading (part_after x c.seen.table r)) (eqb role COMMON || eqb role DATA)
          Emptied _ (λ e. made_none s i is_heading)
          (λ e. either-as (λ (x : Change). heading (part_after x c.seen.table r)) (is_heading role) Joined Kept
          (λ h. made-joined s i is_heading c.seen.table m.table l h)
          (λ h. made-later s i is_heading c.seen.table m.table));
    }

all_made : (s : List ℕ) (i : ℕ) → i ≤ length s / 81 → AllMade s i (context_at s i).seen
unfolding context_at joined
all_made s zero l =
    record {
      bib001 = record { records = []; bytes = refl; long = tt; each = tt };
      bib = record { records = []; bytes = refl; long = tt; each = tt };
      common001 = record { records = []; bytes = refl; long = tt; each = tt };
      common = record { records = []; bytes = refl; long = tt; each = tt };
      table = record { records = []; bytes = refl; long = tt; each = tt };
    }
all_made s (suc i) l = made-next s i (omega arith) (all_made s i (omega arith))

-- ---- by what a reader sees

module _ (s : List ℕ) (i : ℕ) (kind_at : (j : ℕ) → j < i → KindOf s j (role_at s j)) where
  stand-before : (test kinds : ℕ → Bool) → ((role : ℕ) → test role ≡ true → kinds role ≡ true) → (rs : List Record)
      → All (RoleBefore s i test) rs → All (StandsBefore s i kinds) rs
  stand-before test kinds same [] a = tt
  stand-before test kinds same (r ∷ rs) a =
      let p = a.0 in (
        record {
          at = p.at;
          before = p.before;
          same = p.same;
          kind = role_at s p.at;
          one_of = same (role_at s p.at) p.role;
          is = kind_at p.at p.before;
        },
        stand-before test kinds same rs a.1,
      )

  pub held-against : i ≤ length s / 81 → (b : RecordsBefore) × HeldAgainst s i b
  unfolding is_text
  held-against l =
      let m = all_made s i l in
      let b : RecordsBefore =
      record {
        bib001 = m.bib001.records;
        bib = m.bib.records;
        common001 = m.common001.records;
        common = m.common.records;
        table = m.table.records;
      } in (
        b,
        record {
          seen = record {
            bib001 = m.bib001.bytes;
            bib = m.bib.bytes;
            common001 = m.common001.bytes;
            common = m.common.bytes;
            table = m.table.bytes;
            long_bib001 = m.bib001.long;
            long_bib = m.bib.long;
            long = record { common001 = m.common001.long; common = m.common.long; table = m.table.long };
          };
          bib001 = stand-before is_text (among (TEXT ∷ [])) (one-kind TEXT) m.bib001.records m.bib001.each;
          bib = stand-before is_text (among (TEXT ∷ [])) (one-kind TEXT) m.bib.records m.bib.each;
          common001 = stand-before is_heading headings heading-kinds m.common001.records m.common001.each;
          common = stand-before is_heading headings heading-kinds m.common.records m.common.each;
          table = stand-before is_heading headings heading-kinds m.table.records m.table.each;
        },
      )
