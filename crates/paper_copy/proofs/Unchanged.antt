-- What of an accepted entry its copy leaves as it is: contexts and roles, what each field reads to, and every part that
-- has no byte of a number field.
-- Assumes nothing.
use Prim.Native.Nat.{ℕ, ◌+◌, ◌*◌, ◌/◌, ◌<◌, ◌≤◌}
use mathlib.Core.Path.{◌≡◌, refl, sym, ◌∙◌}
use mathlib.Core.List.{List, [], ◌∷◌}
use native.Mathlib.Omega.{arith}
use lib.ListN.{length, take, drop, get_or, length-take, length-drop}
use lib.Seq.{length-take-le, get_or-take, get_or-drop, ext_get_or}
use Rattle.laws.specs.Blocks.{block_at}
use Rattle.laws.specs.Copies.{copies}
use Rattle.laws.proofs.Search.{either}
use Rattle.laws.proofs.Blocks.{length-blocks, block-at}
use Rattle.laws.proofs.Copies.{copies-marks, copies_at}
use Rattle.paper_number.specs.Reading.{read_field}
use Rattle.paper_record.specs.Fields.{field_at}
use Rattle.paper_rules.specs.State.{start_context}
use Rattle.paper_entry.specs.Judging.{role_of, turn_of, Accepted}
use Rattle.paper_copy.specs.Copy.{copy_record, records_in, field_in, copy_of}
use Rattle.paper_copy.specs.Demand.{CopyFields, CopyReads, CopyPart, CopyContexts, CopyRoles}
use Rattle.paper_copy.proofs.FaithfulRecords.{role_kept, reads_kept, faithful}
use Rattle.paper_copy.proofs.Demand.{Passed, passed, copy-long, copy-records, copy-accepted, copy-again, SameFields}
use Rattle.paper_copy.proofs.Demand.{one-fields}

pub copy-contexts : CopyContexts
copy-contexts s f =
    let p = passed s f in
    rw (copy-records s p) (copies-marks faithful (λ c r. c) (λ c i r d h. refl) start_context 0 (records_in s) p.last
    p.goes)

pub copy-roles : CopyRoles
copy-roles s f =
    let p = passed s f in
    rw (copy-records s p) (copies-marks faithful role_of role_kept start_context 0 (records_in s) p.last p.goes)

-- past the last record there is nothing
past : (s : List ℕ) (i : ℕ) → length s ≤ i * 81 → block_at 81 s i ≡ []
past s i h = none (block_at 81 s i) (simp (length-take, length-drop) (omega arith))
  where
    none : (l : List ℕ) → length l ≡ 0 → l ≡ []
    none [] e = refl
    none (x ∷ l) e = absurd (omega arith)

pub copy-reads : CopyReads
copy-reads s f i k = by_record (passed s f)
  where
    by_record : Passed s → read_field (field_in (copy_of s) i k) ≡ read_field (field_in s i k)
    by_record p =
        let n = length s / 81 in
        let m = length-blocks 81 n s in
        let long : length (copy_of s) ≡ length s = copy-long s p in
        let whole : length s ≡ n * 81 = p.whole in
        either i n
        (λ l.
        let e : get_or (records_in (copy_of s)) i [] ≡ block_at 81 (copy_of s) i =
        block-at 81 (length (copy_of s) / 81) (copy_of s) i (rw long l) in
        let there : read_field (field_at (get_or (copies turn_of copy_record start_context 0 (records_in s)) i []) k)
        ≡ read_field (field_at (get_or (records_in s) i []) k) =
        copies_at faithful (λ t r. read_field (field_at t k) ≡ read_field (field_at r k))
        (λ c j r d h. reads_kept c j r d h k)
        start_context 0 (records_in s) p.last p.goes i (rw m l) in
        rw (← e, copy-records s p, ← block-at 81 n s i l) there)
        (λ l. rw (past (copy_of s) i (omega arith), past s i (omega arith)))

-- the entry and its copy have the same numbers, place by place
pub copy-numbers : (s : List ℕ) → Accepted s → SameFields s (copy_of s)
copy-numbers s f = (one-fields s (copy_of s) f (rw (copy-accepted s f) f)).0 (sym (copy-again s f))

pub copy-fields : CopyFields
copy-fields s f i k = sym ((copy-numbers s f).fields i k)

-- two entries of one length: a part is equal where its bytes are
pub part-of-bytes : (s t : List ℕ) → length t ≡ length s → (a n : ℕ) → a + n ≤ length s
    → ((p : ℕ) → a ≤ p → p < a + n → get_or t p 0 ≡ get_or s p 0) → take n (drop a t) ≡ take n (drop a s)
part-of-bytes s t long a n room h =
    let x : length (take n (drop a t)) ≡ n = length-take-le n (drop a t) (simp length-drop (omega arith)) in
    let y : length (take n (drop a s)) ≡ n = length-take-le n (drop a s) (simp length-drop (omega arith)) in
    ext_get_or 0 (take n (drop a t)) (take n (drop a s)) (x ∙ sym y)
    (λ i l.
    let m : i < n = rw x at l in
    rw (get_or-take n (drop a t) i 0 m, get_or-take n (drop a s) i 0 m)
    (rw (get_or-drop a t i 0, get_or-drop a s i 0) (h (a + i) (omega arith) (omega arith))))

pub copy-part : CopyPart
copy-part s f a n room h =
    part-of-bytes s (copy_of s) (copy-long s (passed s f)) a n room
    (λ p l m. sym ((copy-numbers s f).outside p (omega arith) (h p l m)))
