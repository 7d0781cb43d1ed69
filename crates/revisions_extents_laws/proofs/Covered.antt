-- The subentries of an accepted entry, by their numbers, are all that stands between ENTRY and ENDENTRY.
-- Assumes nothing.
use Prim.Native.Nat.{ℕ, zero, suc, ◌+◌, ◌-◌, ◌*◌, ◌≤◌}
use mathlib.Core.Path.{◌≡◌, refl, sym, ap, subst, ◌∙◌}
use mathlib.Core.Bool.{Bool, true, false, cond}
use mathlib.Core.List.{List, [], ◌++◌}
use native.Mathlib.Omega.{arith}
use lib.ListN.{length, take, drop, length-drop, take-append-drop}
use lib.Seq.{take-add, take_all, drop-drop}
use borrow.Author.Tests.{ltb-false}
use Rattle.laws.specs.Blocks.{block_at}
use Rattle.laws.specs.Members.{join_of}
use Rattle.laws.proofs.Search.{either}
use Rattle.paper_rules.specs.Limits.{LAST-SUBENTRY}
use Rattle.paper_entry.specs.Judging.{Accepted}
use Rattle.paper_entry.proofs.Lengths.{accepted-good, whole-records}
use Rattle.paper_revisions.specs.Extents.{records_of, past_from, extent_of, has, bytes_of}
use Rattle.revisions_extents_laws.specs.Order.{Cursor, Met, part_in, RunCovered, AllCovered, EntryWhole}
use Rattle.revisions_extents_laws.proofs.Columns.{records-some, said-last, said-most}
use Rattle.revisions_extents_laws.proofs.Cursors.{cursor-starts, cursor-moves, cursor-meets}

-- ---- parts of the bytes, one behind the other

parts_join : (s : List ℕ) (p m q : ℕ) → p ≤ m → m ≤ q
    → take ((m - p) * 81) (drop (p * 81) s) ++ take ((q - m) * 81) (drop (m * 81) s)
    ≡ take ((q - p) * 81) (drop (p * 81) s)
parts_join s p m q a b =
    let x : (m - p) * 81 + (q - m) * 81 ≡ (q - p) * 81 = omega arith in
    let y : p * 81 + (m - p) * 81 ≡ m * 81 = omega arith in
    let e : drop ((m - p) * 81) (drop (p * 81) s) ≡ drop (m * 81) s =
    drop-drop ((m - p) * 81) (p * 81) s ∙ ap (λ (k : ℕ). drop k s) y in
    sym (ap (λ (k : ℕ). take k (drop (p * 81) s)) (sym x)
    ∙ take-add ((m - p) * 81) ((q - m) * 81) (drop (p * 81) s)
    ∙ ap (λ (l : List ℕ). take ((m - p) * 81) (drop (p * 81) s) ++ take ((q - m) * 81) l) e)

no-part : (s : List ℕ) (p q : ℕ) → q ≤ p → take ((q - p) * 81) (drop (p * 81) s) ≡ []
no-part s p q h =
    let z : (q - p) * 81 ≡ 0 = omega arith in
    ap (λ (k : ℕ). take k (drop (p * 81) s)) z

-- ---- cursors of two numbers

cursors-rise : (s : List ℕ) (n m p q : ℕ) → n ≤ m → Cursor s n p → Cursor s m q → p ≤ q
cursors-rise s n m p q h c d =
    either q p
    (λ l.
    let u = c.upto in
    let a = c.before q l in
    let b = d.behind q (omega arith) (omega arith) in
    absurd (omega arith))
    (λ l. l)

module _ (s : List ℕ) (a : Accepted s) where
  part-here : (n p : ℕ) → Met s n p → part_in s n ≡ take ((past_from s n p - p) * 81) (drop (p * 81) s)
  part-here n p x = by-test (has s n) refl
    where
      by-test : (b : Bool) → has s n ≡ b
          → cond b (bytes_of s (extent_of s n)) [] ≡ take ((past_from s n p - p) * 81) (drop (p * 81) s)
      by-test true e = rw (x.from e, x.past e)
      by-test false e =
          sym (no-part s p (past_from s n p) (ltb-false p (past_from s n p) (sym x.there ∙ e)))

  run : (n k p q : ℕ) → 1 ≤ n → n + k ≤ 999 → Cursor s n p → Cursor s (n + k) q
      → join_of (part_in s) n k ≡ take ((q - p) * 81) (drop (p * 81) s)
  unfolding join_of
  run n zero p q l h c d =
      sym (no-part s p q (cursors-rise s (n + 0) n q p (omega arith) d c))
  run n (suc k) p q l h c d =
      let z : n + suc k ≡ n + 1 + k = omega arith in
      let m = past_from s n p in
      let e : Cursor s (n + 1) m = cursor-moves s a n p c in
      let f : Cursor s (n + 1 + k) q = subst (λ (x : ℕ). Cursor s x q) z d in
      rw (
        part-here n p (cursor-meets s a n p l (omega arith) c),
        run (n + 1) k m q (omega arith) (omega arith) e f,
      )
      (parts_join s p m q (cursors-rise s n (n + 1) p m (omega arith) c e)
      (cursors-rise s (n + 1) (n + 1 + k) m q (omega arith) e f))

  -- ENDENTRY is where the last number is past
  at-end : Cursor s 999 (records_of s - 1)
  at-end =
      let some = records-some s a in
      record {
        upto = omega arith;
        before = λ i l. let m = said-most s a i (omega arith) in omega arith;
        behind = λ i l h. let e = said-last s a i (omega arith) in omega arith;
      }

  all : join_of (part_in s) 1 LAST-SUBENTRY ≡ take ((records_of s - 2) * 81) (drop 81 s)
  all =
      let some = records-some s a in
      let z : records_of s - 1 - 1 ≡ records_of s - 2 = omega arith in
      rw z at (run 1 998 1 (records_of s - 1) (omega arith) (omega arith) (cursor-starts s a) at-end)

pub run-covered : RunCovered
run-covered s a n k p q l h c d = run s a n k p q l h c d

pub all-covered : AllCovered
all-covered s a = all s a

pub entry_whole : EntryWhole
entry_whole s a =
    let some = records-some s a in
    let long = (whole-records (length s) (accepted-good s a)).0 in
    let last = records_of s - 1 in
    let x : 81 + (records_of s - 2) * 81 ≡ last * 81 = omega arith in
    let behind : drop ((records_of s - 2) * 81) (drop 81 s) ≡ drop (last * 81) s =
    drop-drop ((records_of s - 2) * 81) 81 s ∙ ap (λ (k : ℕ). drop k s) x in
    let end : block_at 81 s last ≡ drop (last * 81) s =
    take_all 81 (drop (last * 81) s) (simp length-drop (omega arith)) in
    let rest : join_of (part_in s) 1 LAST-SUBENTRY ++ block_at 81 s last ≡ drop 81 s =
    ap (λ (l : List ℕ). l ++ block_at 81 s last) (all s a)
    ∙ ap (λ (l : List ℕ). take ((records_of s - 2) * 81) (drop 81 s) ++ l) (end ∙ sym behind)
    ∙ take-append-drop ((records_of s - 2) * 81) (drop 81 s) in
    sym (ap (λ (l : List ℕ). take 81 s ++ l) rest ∙ take-append-drop 81 s)
