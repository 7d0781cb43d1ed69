-- What the code's loop keeps: it has come to an entry of a file, or behind the last, and the buffer holds the copy up to
-- there.
-- Assumes nothing.
use Prim.Native.Nat.{ℕ, ◌+◌, ◌-◌, ◌/◌, ◌≤◌}
use mathlib.Core.Path.{◌≡◌, refl, sym, ◌∙◌, ap}
use mathlib.Core.List.{List, [], ◌∷◌, ◌++◌, map, append_assoc, append-nil}
use native.Mathlib.Omega.{arith}
use lib.ListN.{length, take, drop, length-drop, length-append, drop_of_length-le}
use lib.Seq.{paste, length-paste, drop-paste, take_at, drop_at, take_all, drop-drop, length-take-le}
use Rattle.laws.specs.Walk.{All}
use Rattle.laws.specs.Blocks.{joined}
use Rattle.paper_entry.specs.Judging.{Accepted}
use Rattle.paper_copy.specs.Copy.{copy_of}
use Rattle.paper_copy.specs.Call.{copied_into}
use Rattle.paper_copy.specs.Storing.{Room}
use Rattle.paper_copy.proofs.Demand.{passed, copy-long}
use Rattle.laws.proofs.Pasted.{paste_more, paste-lent}
use Rattle.paper_files.specs.Parts.{entry_records, entry_length}
use Rattle.paper_files.proofs.PlainParts.{length-by}
use Rattle.files_entries.proofs.AcceptedBegins.{accepted-records, accepted-whole}
use Rattle.files_copy_laws.specs.CopyFile.{copy_file_of, copied_file_into}
use Rattle.files_copy_laws.specs.Storing.{FileRoom}
use Rattle.files_copy_laws.proofs.InPlace.{copies-in-place, file-copy-long, file-long, no_more, behind-opening}
use Rattle.files_copy_laws.proofs.InPlace.{opening-first}

-- the loop over the file s has come to the byte `at`, where an entry of n bytes begins, or none with n = 0
pub record Copying (s lent : List ℕ) (at n : ℕ) (out : List ℕ) : Type 0 where
  -- what is left of the file, and of its copy
  pub left : List (List ℕ)
  pub ending : List ℕ
  pub each : All Accepted left
  pub none : entry_records ending ≡ 0
  pub rest : drop at s ≡ joined left ++ ending
  pub copied : drop at (copy_file_of s) ≡ joined (map copy_of left) ++ ending
  pub upto : at ≤ length s
  pub copy-long : length (copy_file_of s) ≡ length s
  pub fits : length s ≤ length lent
  pub long : length out ≡ length lent
  pub here : n ≡ entry_length s at
  pub same : out ≡ paste lent 0 (copy_file_of s) at

-- ---- TRANS is stored

-- there is room for it
pub trans-there : {s lent : List ℕ} → FileRoom s lent → (81 ≤ length lent) × (81 ≤ length s)
trans-there {s} h =
    let l = file-long s h.entries h.file in
    let r = h.room in
    (omega arith, omega arith)

module _ {s lent : List ℕ} (h : FileRoom s lent) (out : List ℕ) (e : out ≡ paste lent 0 (drop 0 s) 81) where
  -- what stands behind it stays
  behind-trans : drop 81 out ≡ drop 81 lent
  behind-trans =
      let l = (trans-there h).1 in
      let r = h.room in
      ap (drop 81) e ∙ drop-paste lent 0 s 81 (omega arith) (omega arith)

  pub copying-start : (n : ℕ) → n ≡ entry_length s 81 → Copying s out 81 n out
  copying-start n here =
      let es = h.entries in
      let f = h.file in
      let l = (trans-there h).1 in
      let r = h.room in
      let size : length out ≡ length lent = ap length e ∙ length-paste lent 0 s 81 (omega arith) l in
      let opens = f.begun.opens.whole in
      let place = copies-in-place s es f in
      let behind = joined (map copy_of es) ++ f.ending in
      let first : take 81 (copy_file_of s) ≡ take 81 s =
      ap (take 81) place ∙ take_at f.begun.opening behind 81 opens ∙ sym (opening-first s es f) in
      record {
        left = es;
        ending = f.ending;
        each = f.begun.each;
        none = no_more s es f;
        rest = behind-opening s es f;
        copied = ap (drop 81) place ∙ drop_at f.begun.opening behind 81 opens;
        upto = l;
        copy-long = file-copy-long s es f;
        fits = omega arith;
        long = refl;
        here = here;
        same = e ∙ rw (first, behind-trans) refl;
      }

  -- so what was lent is changed in the file's bytes only
  pub copied-lent : copied_file_into s out ≡ copied_file_into s lent
  copied-lent =
      let l = (trans-there h).1 in
      let z : 81 + (length s - 81) ≡ length s = omega arith in
      let there : drop (length s) out ≡ drop (length s) lent =
      ap (λ (k : ℕ). drop k out) (sym z)
      ∙ sym (drop-drop (length s - 81) 81 out)
      ∙ ap (drop (length s - 81)) behind-trans
      ∙ drop-drop (length s - 81) 81 lent
      ∙ ap (λ (k : ℕ). drop k lent) z in
      ap (λ (x : List ℕ). copy_file_of s ++ x) there

-- ---- the entry in hand

-- an entry and what is left behind it
record InHand (s : List ℕ) (at n : ℕ) : Type 0 where
  entry : List ℕ
  others : List (List ℕ)
  ending : List ℕ
  accepted : Accepted entry
  each : All Accepted others
  none : entry_records ending ≡ 0
  long : length entry ≡ n
  rest : drop at s ≡ entry ++ (joined others ++ ending)
  copied : drop at (copy_file_of s) ≡ copy_of entry ++ (joined (map copy_of others) ++ ending)

module _ {s lent : List ℕ} {at n : ℕ} {out : List ℕ} (k : Copying s lent at n out) where
  -- none is left exactly when no entry begins here
  by_left : {X : Type 0} (es : List (List ℕ)) → k.left ≡ es → (k.left ≡ [] → n ≡ 0 → X)
      → (InHand s at n → X) → X
  unfolding joined
  by_left [] e none one =
      let here : drop at s ≡ k.ending = k.rest ∙ rw e refl in
      none e (k.here ∙ length-by s at 0 (rw here k.none))
  by_left (x ∷ xs) e none one =
      let each : All Accepted (x ∷ xs) = rw e at k.each in
      let rest : drop at s ≡ x ++ (joined xs ++ k.ending) = k.rest ∙ rw e (append_assoc x (joined xs) k.ending) in
      let copied : drop at (copy_file_of s) ≡ copy_of x ++ (joined (map copy_of xs) ++ k.ending) =
      k.copied ∙ rw e (append_assoc (copy_of x) (joined (map copy_of xs)) k.ending) in
      one (record {
        entry = x;
        others = xs;
        ending = k.ending;
        accepted = each.0;
        each = each.1;
        none = k.none;
        long =
            (accepted-whole x each.0).0
            ∙ sym (k.here ∙ length-by s at (length x / 81)
            (rw rest (accepted-records x each.0 (joined xs ++ k.ending))));
        rest = rest;
        copied = copied;
      })

  in-hand : (n ≡ 0 → ⊥) → InHand s at n
  in-hand more = by_left k.left refl (λ e z. absurd (more z)) (λ h. h)

  pub copying-room : (n ≡ 0 → ⊥) → at + n ≤ length s
  copying-room more =
      let h = in-hand more in
      let l = h.long in
      let u = k.upto in
      let z : length (drop at s) ≡ length h.entry + length (joined h.others ++ h.ending) =
      ap length h.rest ∙ length-append h.entry (joined h.others ++ h.ending) in
      let y = rw length-drop at z in
      omega arith

  -- the entry as the code lends it, and the part of the buffer
  entry-lent : (h : InHand s at n) → take (at + n - at) (drop at s) ≡ h.entry
  entry-lent h =
      let e : at + n - at ≡ n = omega arith in
      rw (e, h.rest) (take_at h.entry (joined h.others ++ h.ending) n h.long)

  pub copying-lent : (n ≡ 0 → ⊥) → Room (take (at + n - at) (drop at s)) (take (at + n - at) (drop at out))
  copying-lent more =
      let h = in-hand more in
      let r = copying-room more in
      let f = k.fits in
      let l = k.long in
      let e : at + n - at ≡ n = omega arith in
      let w : length (take n (drop at out)) ≡ n = length-take-le n (drop at out) (simp length-drop (omega arith)) in
      record {
        accepted = rw (entry-lent h) h.accepted;
        room = rw (entry-lent h, e, w, h.long) (omega arith);
      }

  pub copying-next : (n ≡ 0 → ⊥) → (y : List ℕ)
      → y ≡ copied_into (take (at + n - at) (drop at s)) (take (at + n - at) (drop at out))
      → (new : List ℕ) → new ≡ take at out ++ (y ++ drop (at + n - at) (drop at out))
      → (m : ℕ) → m ≡ entry_length s (at + n) → Copying s lent (at + n) m new
  unfolding joined
  copying-next more y made new e m here =
      let h = in-hand more in
      let r = copying-room more in
      let f = k.fits in
      let l = k.long in
      let u = k.copy-long in
      let x = h.entry in
      let behind = joined h.others ++ h.ending in
      let after = joined (map copy_of h.others) ++ h.ending in
      let wide : length (copy_of x) ≡ n = copy-long x (passed x h.accepted) ∙ h.long in
      let q : at + n - at ≡ n = omega arith in
      let w : length (take n (drop at out)) ≡ n = length-take-le n (drop at out) (simp length-drop (omega arith)) in
      let gone : drop (length x) (take n (drop at out)) ≡ [] =
      rw h.long (drop_of_length-le (take n (drop at out)) {i = n} (omega arith)) in
      let stored : y ≡ copy_of x = made ∙ rw (entry-lent h, q, gone) (append-nil (copy_of x)) in
      let part : take n (copy_of x) ≡ take n (drop at (copy_file_of s)) =
      take_all n (copy_of x) (omega arith) ∙ sym (rw h.copied (take_at (copy_of x) after n wide)) in
      let z : 0 + at ≡ at = omega arith in
      let same : new ≡ paste lent 0 (copy_file_of s) (at + n) =
      e
      ∙ rw (stored, q) (paste-lent out (copy_of x) at n wide)
      ∙ ap (λ (o : List ℕ). paste o at (copy_of x) n) k.same
      ∙ ap (λ (p : ℕ). paste (paste lent 0 (copy_file_of s) at) p (copy_of x) n) (sym z)
      ∙ paste_more lent (copy_file_of s) (copy_of x) 0 at n (omega arith) (omega arith) part in
      record {
        left = h.others;
        ending = h.ending;
        each = h.each;
        none = h.none;
        rest = sym (drop-drop n at s) ∙ rw h.rest (drop_at x behind n h.long);
        copied = sym (drop-drop n at (copy_file_of s)) ∙ rw h.copied (drop_at (copy_of x) after n wide);
        upto = r;
        copy-long = u;
        fits = f;
        long = ap length same ∙ length-paste lent 0 (copy_file_of s) (at + n) (omega arith) (omega arith);
        here = here;
        same = same;
      }

  -- behind the last entry: the rest of the file is the rest of its copy
  pub copying-done : n ≡ 0 → (new : List ℕ) → new ≡ paste out at (drop at s) (length s - at)
      → new ≡ copied_file_into s lent
  unfolding joined
  copying-done end new e =
      by_left k.left refl
      (λ none z. last none)
      (λ h. let some = (accepted-whole h.entry h.accepted).1 in let l = h.long in absurd (omega arith))
    where
      last : k.left ≡ [] → new ≡ copied_file_into s lent
      last none =
          let u = k.upto in
          let c = k.copy-long in
          let f = k.fits in
          let r : drop at s ≡ k.ending = k.rest ∙ rw none refl in
          let d : drop at (copy_file_of s) ≡ k.ending = k.copied ∙ rw none refl in
          let there : drop at s ≡ drop at (copy_file_of s) = r ∙ sym d in
          let z : 0 + at ≡ at = omega arith in
          let q : at + (length s - at) ≡ length s = omega arith in
          let y : 0 + length s ≡ length s = omega arith in
          e
          ∙ ap (λ (o : List ℕ). paste o at (drop at s) (length s - at)) k.same
          ∙ ap (λ (p : ℕ). paste (paste lent 0 (copy_file_of s) at) p (drop at s) (length s - at)) (sym z)
          ∙ paste_more lent (copy_file_of s) (drop at s) 0 at (length s - at) (omega arith) (omega arith)
          (rw there refl)
          ∙ rw (q, y, take_all (length s) (copy_file_of s) (omega arith)) refl
