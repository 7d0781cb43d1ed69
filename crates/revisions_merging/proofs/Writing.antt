-- Number by number: what is written is the front of the merge, and what is left of it is what the cursors have before them.
-- Assumes nothing.
use Prim.Native.Nat.{ℕ, suc, ◌+◌, ◌-◌, ◌*◌, ◌<◌, ◌≤◌}
use mathlib.Core.Path.{◌≡◌, refl, sym, ◌∙◌, ap}
use mathlib.Core.Bool.{◌||◌}
use mathlib.Core.List.{List, ◌++◌}
use native.Mathlib.Omega.{arith}
use lib.ListN.{length, take, drop, length-append, length-drop, take-append-drop}
use lib.Seq.{paste, take-append_seam, take-length, take_all, take_at, take-paste, drop-paste, drop_at, drop-append_seam, drop-drop}
use Rattle.laws.proofs.Booleans.{either-as}
use Rattle.laws.proofs.Pasted.{paste_more}
use Rattle.laws.proofs.Search.{first-from, first_to}
use Rattle.paper_rules.specs.Limits.{LAST-SUBENTRY}
use Rattle.paper_revisions.specs.declared.types.Extent.{Extent}
use Rattle.paper_revisions.specs.Extents.{is_other, records_of, bytes_of}
use Rattle.paper_revisions.specs.Taken.{some, by_revision, Lies}
use Rattle.paper_revisions.specs.Merging.{entry_record, end_record}
use Rattle.revisions_merging.specs.declared.types.Cursors.{Cursors}
use Rattle.revisions_merging.specs.Cursors.{met_at, taken_of, counts_one, behind_one, rest_from}
use Rattle.revisions_merging.specs.Cursors.{merge_by_cursors, Room, Begun, Upto}
use Rattle.revisions_merging.proofs.Stored.{records-long, entry-long, end-long}

-- ---- one number

pub met-lies : (s : List ℕ) (n i : ℕ) → i ≤ records_of s → Lies s (met_at s n i)
met-lies s n i h =
    let b = first_to (is_other s n) i (records_of s - i) in
    record { rises = first-from (is_other s n) i (records_of s - i); ends = omega arith }

-- no longer than the records of both
pub part-short : (held revision : List ℕ) (d e : Extent) → Lies held d → Lies revision e
    → length (taken_of held revision d e) ≤ ((d.past - d.from) + (e.past - e.from)) * 81
unfolding taken_of
part-short held revision d e l m =
    let a = records-long held d l in
    let b = records-long revision e m in
    either-as (λ x. length x ≤ ((d.past - d.from) + (e.past - e.from)) * 81) (by_revision held revision d e)
    (bytes_of revision e) (bytes_of held d) (λ t. omega (arith, b)) (λ t. omega (arith, a))

pub one-small : (d e : Extent) → counts_one d e ≤ 1
one-small d e = either-as (λ x. x ≤ 1) (some d || some e) 1 0 (λ t. omega arith) (λ t. omega arith)

module _ {held revision lent : List ℕ} {n : ℕ} {c : Cursors} (u : Upto held revision lent n c) where
  abbrev d : Extent
  d = met_at held n c.held

  abbrev e : Extent
  e = met_at revision n c.revision

  pub upto_next : Upto held revision lent (n + 1) (behind_one held revision n c)
  unfolding behind_one
  upto_next =
      let l = met-lies held n c.held u.held_in in
      let m = met-lies revision n c.revision u.revision_in in
      let p = part-short held revision d e l m in
      let o = one-small d e in
      let w = u.written in
      let k = u.counted in
      let a = l.rises in
      let b = m.rises in
      record {
        both = u.both;
        held_in = l.ends;
        revision_in = m.ends;
        written = omega arith;
        counted = omega arith;
      }

-- ---- all of them

pub record Writing (held revision lent out : List ℕ) (n : ℕ) (c : Cursors) : Type 0 where
  pub room : Room held revision lent
  pub upto : Upto held revision lent n c
  pub most : n ≤ 999
  pub long : length out ≡ length lent
  pub within : c.at ≤ length (merge_by_cursors held revision)
  pub same : out ≡ paste lent 0 (merge_by_cursors held revision) c.at
  pub left : drop c.at (merge_by_cursors held revision)
      ≡ rest_from held revision (999 - n) n c.held c.revision c.count

pub writing_start : (held revision lent : List ℕ) → Begun held revision lent
    → Writing held revision lent lent 1 (record { held = 1; revision = 1; at = 81; count = 0 })
unfolding merge_by_cursors
writing_start held revision lent begun =
    let room = begun.room in
    let a = room.held_some in
    let b = room.revision_some in
    let r : List ℕ = entry_record held revision in
    let rest : List ℕ = rest_from held revision LAST-SUBENTRY 1 1 1 0 in
    let w : length r ≡ 81 = entry-long held revision a b in
    let front : take 81 (r ++ rest) ≡ take 81 lent = take_at r rest 81 w ∙ sym begun.entry_written in
    record {
      room = room;
      upto =
          record {
            both = room.both;
            held_in = omega arith;
            revision_in = omega arith;
            written = omega arith;
            counted = omega arith;
          };
      most = omega arith;
      long = refl;
      within = simp length-append (omega (arith, w));
      same = sym (ap (λ (x : List ℕ). x ++ drop 81 lent) front ∙ take-append-drop 81 lent);
      left = drop_at r rest 81 w;
    }

-- what is stored next is the front of what is left
module _ (held revision lent out part rest : List ℕ) (at : ℕ) (within : at ≤ length (merge_by_cursors held revision))
    (same : out ≡ paste lent 0 (merge_by_cursors held revision) at)
    (left : drop at (merge_by_cursors held revision) ≡ part ++ rest) where
  abbrev whole : List ℕ
  whole = merge_by_cursors held revision

  longer : at + length part ≤ length (merge_by_cursors held revision)
  longer =
      let a : length whole - at ≡ length part + length rest =
      sym (length-drop at whole) ∙ ap length left ∙ length-append part rest in
      omega arith

  stored_more : paste out at part (length part) ≡ paste lent 0 (merge_by_cursors held revision) (at + length part)
  stored_more =
      let front : take (length part) part ≡ take (length part) (drop at whole) =
      take-length part ∙ sym (ap (take (length part)) left ∙ take-append_seam part rest) in
      let z : 0 + at ≡ at = omega arith in
      rw same
      (ap (λ (m : ℕ). paste (paste lent 0 whole at) m part (length part)) (sym z)
      ∙ paste_more lent whole part 0 at (length part) (omega arith) longer front)

  left-more : drop (at + length part) (merge_by_cursors held revision) ≡ rest
  left-more = sym (drop-drop (length part) at whole) ∙ ap (drop (length part)) left ∙ drop-append_seam part rest

module _ {held revision lent out : List ℕ} {n : ℕ} {c : Cursors} (k : Writing held revision lent out n c) where
  abbrev part : List ℕ
  part = taken_of held revision (met_at held n c.held) (met_at revision n c.revision)

  abbrev next : Cursors
  next = behind_one held revision n c

  -- what the next number asks
  pub writing-upto : Upto held revision out n c
  writing-upto =
      let u = k.upto in
      let l = k.long in
      let b = u.both in
      record {
        both = omega arith;
        held_in = u.held_in;
        revision_in = u.revision_in;
        written = u.written;
        counted = u.counted;
      }

  left_here : n < 999
      → drop c.at (merge_by_cursors held revision)
      ≡ part
      ++ rest_from held revision (999 - (n + 1)) (n + 1) next.held next.revision next.count
  unfolding rest_from behind_one
  left_here h =
      let z : 999 - n ≡ suc (999 - (n + 1)) = omega arith in
      k.left ∙ ap (λ (m : ℕ). rest_from held revision m n c.held c.revision c.count) z

  pub writing-next : n < 999 → (new : List ℕ) (r : Cursors) → r ≡ behind_one held revision n c
      → new ≡ paste out c.at (taken_of held revision (met_at held n c.held) (met_at revision n c.revision))
      (length (taken_of held revision (met_at held n c.held) (met_at revision n c.revision)))
      → length new ≡ length out → Writing held revision lent new (n + 1) r
  unfolding behind_one
  writing-next h new r e stored long =
      let rest : List ℕ = rest_from held revision (999 - (n + 1)) (n + 1) next.held next.revision next.count in
      let left = left_here h in
      rw e
      record {
        room = k.room;
        upto = upto_next k.upto;
        most = omega arith;
        long = long ∙ k.long;
        within = longer held revision lent out part rest c.at k.within k.same left;
        same = stored ∙ stored_more held revision lent out part rest c.at k.within k.same left;
        left = left-more held revision lent out part rest c.at k.within k.same left;
      }

-- ENDENTRY is left
pub writing-done : {held revision lent out : List ℕ} {n : ℕ} {c : Cursors} → Writing held revision lent out n c → 999 ≤ n
    → Upto held revision lent 999 c
    × (drop c.at (merge_by_cursors held revision) ≡ end_record revision c.count)
    × (out ≡ paste lent 0 (merge_by_cursors held revision) c.at)
unfolding rest_from
writing-done {held} {revision} {lent} {out} {n} {c} k h =
    let m = k.most in
    let e : n ≡ 999 = omega arith in
    let z : 999 - n ≡ 0 = omega arith in
    (rw e at k.upto, rw z at k.left, k.same)

-- ENTRY comes first
pub entry-begun : (held revision lent out : List ℕ) → Room held revision lent → length out ≡ length lent
    → out ≡ paste lent 0 (entry_record held revision) 81 → Begun held revision out
entry-begun held revision lent out room long stored =
    let a = room.held_some in
    let b = room.both in
    let w = entry-long held revision a room.revision_some in
    record {
      room = record { held_some = a; revision_some = room.revision_some; both = omega arith };
      entry_written =
          ap (take 81) stored ∙ take-paste lent 0 (entry_record held revision) 81 (omega arith) (omega (arith, w))
          ∙ take_all 81 (entry_record held revision) (omega (arith, w));
    }

-- and ENDENTRY last; what stands behind is as it was
pub writing-end : (held revision lent begun out new : List ℕ) (at count : ℕ) → Room held revision lent
    → begun ≡ paste lent 0 (entry_record held revision) 81
    → drop at (merge_by_cursors held revision) ≡ end_record revision count
    → out ≡ paste begun 0 (merge_by_cursors held revision) at → new ≡ paste out at (end_record revision count) 81
    → (at + 81 ≡ length (merge_by_cursors held revision)) × (new ≡ paste lent 0 (merge_by_cursors held revision) (at + 81))
writing-end held revision lent begun out new at count room first left same stored =
    let w = end-long revision count room.revision_some in
    let v = entry-long held revision room.held_some room.revision_some in
    let m : List ℕ = merge_by_cursors held revision in
    let a : length m - at ≡ 81 = sym (length-drop at m) ∙ ap length left ∙ w in
    let z : 0 + at ≡ at = omega arith in
    let b : at + 81 ≤ length m = omega arith in
    let more : paste (paste begun 0 m at) at (end_record revision count) 81 ≡ paste begun 0 m (at + 81) =
    ap (λ (x : ℕ). paste (paste begun 0 m at) x (end_record revision count) 81) (sym z)
    ∙ paste_more begun m (end_record revision count) 0 at 81 (omega arith) b (ap (take 81) (sym left)) in
    let y : 81 + at ≡ 0 + (at + 81) = omega arith in
    let behind : drop 81 begun ≡ drop 81 lent =
    ap (drop 81) first ∙ drop-paste lent 0 (entry_record held revision) 81 (omega arith) (omega (arith, v)) in
    let rest : drop (0 + (at + 81)) begun ≡ drop (0 + (at + 81)) lent =
    ap (λ (k : ℕ). drop k begun) (sym y) ∙ sym (drop-drop at 81 begun) ∙ ap (drop at) behind ∙ drop-drop at 81 lent
    ∙ ap (λ (k : ℕ). drop k lent) y in (
      omega arith,
      stored ∙ rw same more ∙ ap (λ (x : List ℕ). take 0 lent ++ take (at + 81) m ++ x) rest,
    )
