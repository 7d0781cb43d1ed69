-- The numbers of the subentries that are open before a record of an accepted entry: so many as are counted, rising, and
-- the last is the one in hand. Assumes nothing.
use Prim.Native.Nat.{ℕ, zero, suc, ◌+◌, ◌*◌, ◌-◌, ◌<◌, ◌≤◌}
use mathlib.Core.Path.{◌≡◌, refl, sym, ap, ◌∙◌}
use mathlib.Core.Bool.{Bool, true, false}
use mathlib.Core.List.{List, [], ◌∷◌, ◌++◌}
use native.Mathlib.Omega.{arith}
use lib.ListN.{length, get_or, length-append, get_or-append}
use lib.Seq.{get_or_at}
use Rattle.laws.specs.Blocks.{block_at}
use Rattle.laws.proofs.Booleans.{differ}
use Rattle.laws.proofs.Search.{either}
use Rattle.paper_record.specs.Fields.{fields_of}
use Rattle.paper_rules.specs.Roles.{opens_subentry}
use Rattle.paper_entry.specs.Next.{context_after}
use Rattle.paper_entry.specs.Contexts.{context_at, role_at}
use Rattle.entry_walk.proofs.AcceptedWalk.{Walked}
use Rattle.counted_before.proofs.OneRecord.{subentry-new, subentry-same}
use Rattle.inside.proofs.Nesting.{rank_below}
use Rattle.inside.proofs.RowFound.{nested-at}
use Rattle.paper_index.specs.Rows.{number_at, opened_to}
use Rattle.index_rows.specs.Walk.{in_hand}

-- ---- one record

pub opened-start : (s : List ℕ) → opened_to s 0 ≡ []
unfolding opened_to
opened-start s = refl

pub opened-more : (s : List ℕ) (i : ℕ) → opens_subentry (role_at s i) ≡ true
    → opened_to s (suc i) ≡ opened_to s i ++ (number_at s i ∷ [])
unfolding opened_to
opened-more s i o = rw o

pub opened-same : (s : List ℕ) (i : ℕ) → opens_subentry (role_at s i) ≡ false → opened_to s (suc i) ≡ opened_to s i
unfolding opened_to
opened-same s i o = rw o

one-longer : (xs : List ℕ) (x : ℕ) → length (xs ++ (x ∷ [])) ≡ length xs + 1
one-longer xs x = length-append xs (x ∷ [])

-- whether the record opens one, or not
module _ (s : List ℕ) (i : ℕ) (P : Type 0) where
  pub by-opening : (opens_subentry (role_at s i) ≡ true → P) → (opens_subentry (role_at s i) ≡ false → P) → P
  by-opening yes' no' = by-test (opens_subentry (role_at s i)) refl
    where
      by-test : (b : Bool) → opens_subentry (role_at s i) ≡ b → P
      by-test true e = yes' e
      by-test false e = no' e

-- ---- so many as are counted

total-more : (s : List ℕ) (i : ℕ) → opens_subentry (role_at s i) ≡ true
    → (context_at s (suc i)).track.totals.subentries ≡ (context_at s i).track.totals.subentries + 1
unfolding context_at context_after
total-more s i o = (subentry-new (context_at s i).track (role_at s i) (fields_of (block_at 81 s i)) (block_at 81 s i) o).total

total-same : (s : List ℕ) (i : ℕ) → opens_subentry (role_at s i) ≡ false
    → (context_at s (suc i)).track.totals.subentries ≡ (context_at s i).track.totals.subentries
unfolding context_at context_after
total-same s i o = (subentry-same (context_at s i).track (role_at s i) (fields_of (block_at 81 s i)) (block_at 81 s i) o).total

none_first : (s : List ℕ) → (context_at s 0).track.totals.subentries ≡ 0
unfolding context_at
none_first s = refl

pub opened-length : (s : List ℕ) (i : ℕ) → length (opened_to s i) ≡ (context_at s i).track.totals.subentries
opened-length s zero = ap length (opened-start s) ∙ sym (none_first s)
opened-length s (suc i) =
    by-opening s i (length (opened_to s (suc i)) ≡ (context_at s (suc i)).track.totals.subentries)
    (λ o.
    ap length (opened-more s i o) ∙ one-longer (opened_to s i) (number_at s i)
    ∙ ap (λ (k : ℕ). k + 1) (opened-length s i) ∙ sym (total-more s i o))
    (λ o. ap length (opened-same s i o) ∙ opened-length s i ∙ sym (total-same s i o))

-- those that are open stay so
pub opened-rises : (s : List ℕ) (i j : ℕ) → length (opened_to s i) ≤ length (opened_to s (i + j))
opened-rises s i zero = let e : i + 0 ≡ i = omega arith in rw e (omega arith)
opened-rises s i (suc j) =
    let e : i + suc j ≡ suc (i + j) = omega arith in
    let a = opened-rises s i j in
    by-opening s (i + j) (length (opened_to s i) ≤ length (opened_to s (i + suc j)))
    (λ o.
    let b = ap length (opened-more s (i + j) o) ∙ one-longer (opened_to s (i + j)) (number_at s (i + j)) in
    rw e (omega arith))
    (λ o. let b = ap length (opened-same s (i + j) o) in rw e (omega arith))

-- ---- by which records

-- the number is borne by a record that opens a subentry
pub record OpenedBy (s : List ℕ) (i m : ℕ) : Type 0 where
  pub index : ℕ
  pub before : index < i
  pub role : opens_subentry (role_at s index) ≡ true
  pub bears : number_at s index ≡ m

abbrev Member : List ℕ → ℕ → ℕ → Type 0
Member s i m = (k : ℕ) × (k < length (opened_to s i)) × (get_or (opened_to s i) k 0 ≡ m)

pub opened-by : (s : List ℕ) (i k : ℕ) → k < length (opened_to s i) → OpenedBy s i (get_or (opened_to s i) k 0)
opened-by s zero k h = let e = ap length (opened-start s) in absurd (omega arith)
opened-by s (suc i) k h =
    by-opening s i (OpenedBy s (suc i) (get_or (opened_to s (suc i)) k 0))
    (λ o. rw (opened-more s i o) (more o (rw (opened-more s i o) at h) (opened-by s i k)))
    (λ o. rw (opened-same s i o) (later (opened-by s i k (rw (opened-same s i o) at h))))
  where
    later : {m : ℕ} → OpenedBy s i m → OpenedBy s (suc i) m
    later x =
        let b = x.before in
        record { index = x.index; before = omega arith; role = x.role; bears = x.bears }

    more : opens_subentry (role_at s i) ≡ true → k < length (opened_to s i ++ (number_at s i ∷ []))
        → (k < length (opened_to s i) → OpenedBy s i (get_or (opened_to s i) k 0))
        → OpenedBy s (suc i) (get_or (opened_to s i ++ (number_at s i ∷ [])) k 0)
    more o l before =
        let xs = opened_to s i in
        let long = one-longer xs (number_at s i) in
        either k (length xs)
        (λ b. rw (get_or-append xs (number_at s i ∷ []) 0 k b) (later (before b)))
        (λ b.
        record {
          index = i;
          before = omega arith;
          role = o;
          bears = sym (get_or_at xs (number_at s i) [] 0 k (omega arith));
        })

-- and each such record's number is among them
pub number-opened : (s : List ℕ) (i a : ℕ) → a < i → opens_subentry (role_at s a) ≡ true → Member s i (number_at s a)
number-opened s zero a h o = absurd (omega arith)
number-opened s (suc i) a h o =
    by-opening s i (Member s (suc i) (number_at s a))
    (λ p.
    let long = ap length (opened-more s i p) ∙ one-longer (opened_to s i) (number_at s i) in
    either a i
    (λ b.
    let (k, l, e) = number-opened s i a b o in
    (k, omega arith, rw (opened-more s i p) (get_or-append (opened_to s i) (number_at s i ∷ []) 0 k l ∙ e)))
    (λ b.
    let z : a ≡ i = omega arith in
    (length (opened_to s i), omega arith, rw (opened-more s i p, z) (get_or_at (opened_to s i) (number_at s i) [] 0 _ refl))))
    (λ p.
    either a i
    (λ b. rw (opened-same s i p) (number-opened s i a b o))
    (λ b. let z : a ≡ i = omega arith in differ (sym (rw z at o) ∙ p)))

-- ---- rising

abbrev pub Rises : List ℕ → Type 0
Rises xs = (i j : ℕ) → i < j → j < length xs → get_or xs i 0 < get_or xs j 0

abbrev pub UpTo : ℕ → List ℕ → Type 0
UpTo m xs = (i : ℕ) → i < length xs → get_or xs i 0 ≤ m

module _ (xs : List ℕ) (m x : ℕ) (below : m < x) (up : UpTo m xs) where
  up_more : UpTo x (xs ++ (x ∷ []))
  up_more i l =
      let long = one-longer xs x in
      either i (length xs)
      (λ b. let e = up i b in rw (get_or-append xs (x ∷ []) 0 i b) (omega arith))
      (λ b. rw (get_or_at xs x [] 0 i (omega arith)) (omega arith))

  rises-more : Rises xs → Rises (xs ++ (x ∷ []))
  rises-more r i j h l =
      let long = one-longer xs x in
      either j (length xs)
      (λ b.
      rw (get_or-append xs (x ∷ []) 0 i (omega arith), get_or-append xs (x ∷ []) 0 j b) (r i j h b))
      (λ b.
      let e = up i (omega arith) in
      rw (get_or-append xs (x ∷ []) 0 i (omega arith), get_or_at xs x [] 0 j (omega arith)) (omega arith))

module _ (s : List ℕ) (n : ℕ) (w : Walked s n) (fits : n * 81 ≤ length s) where
  -- the record that opens one bears a number above the last, which is then in hand
  pub hand-more : (i : ℕ) → i < n → opens_subentry (role_at s i) ≡ true
      → (in_hand s (suc i) ≡ number_at s i) × (in_hand s i < number_at s i)
  hand-more i h o =
      let x = (nested-at s n w fits i h).opens o in
      let b = rank_below (context_at s i).phase in
      let k = x.1 in
      (x.0, omega arith)

  pub hand-same : (i : ℕ) → i < n → opens_subentry (role_at s i) ≡ false → in_hand s (suc i) ≡ in_hand s i
  hand-same i h o = (nested-at s n w fits i h).inside o

  pub opened_up : (i : ℕ) → i ≤ n → UpTo (in_hand s i) (opened_to s i)
  opened_up zero h = λ k l. let e = ap length (opened-start s) in absurd (omega arith)
  opened_up (suc i) h =
      by-opening s i (UpTo (in_hand s (suc i)) (opened_to s (suc i)))
      (λ o.
      let x = hand-more i (omega arith) o in
      rw (opened-more s i o, x.0) (up_more (opened_to s i) (in_hand s i) (number_at s i) x.1 (opened_up i (omega arith))))
      (λ o. rw (opened-same s i o, hand-same i (omega arith) o) (opened_up i (omega arith)))

  pub numbers-rise : (i : ℕ) → i ≤ n → Rises (opened_to s i)
  numbers-rise zero h = λ i j a l. let e = ap length (opened-start s) in absurd (omega arith)
  numbers-rise (suc i) h =
      by-opening s i (Rises (opened_to s (suc i)))
      (λ o.
      let x = hand-more i (omega arith) o in
      rw (opened-more s i o)
      (rises-more (opened_to s i) (in_hand s i) (number_at s i) x.1 (opened_up i (omega arith)) (numbers-rise i (omega arith))))
      (λ o. rw (opened-same s i o) (numbers-rise i (omega arith)))

  -- the last is the one in hand
  pub last-in-hand : (i : ℕ) → i ≤ n → 1 ≤ length (opened_to s i)
      → (ms : List ℕ) × (opened_to s i ≡ ms ++ (in_hand s i ∷ []))
  last-in-hand zero h l = let e = ap length (opened-start s) in absurd (omega arith)
  last-in-hand (suc i) h l =
      by-opening s i ((ms : List ℕ) × (opened_to s (suc i) ≡ ms ++ (in_hand s (suc i) ∷ [])))
      (λ o. (opened_to s i, rw (hand-more i (omega arith) o).0 (opened-more s i o)))
      (λ o.
      let e = opened-same s i o in
      let (ms, f) = last-in-hand i (omega arith) (rw e at l) in
      (ms, rw (hand-same i (omega arith) o) (e ∙ f)))

  -- and the others are smaller
  pub others-smaller : (i : ℕ) → i ≤ n → (ms : List ℕ) → opened_to s i ≡ ms ++ (in_hand s i ∷ [])
      → (k : ℕ) → k < length ms → get_or ms k 0 < in_hand s i
  others-smaller i h ms e k l =
      let r = rw e at (numbers-rise i h) in
      let long = one-longer ms (in_hand s i) in
      let x = r k (length ms) l (omega arith) in
      rw (get_or-append ms (in_hand s i ∷ []) 0 k l, get_or_at ms (in_hand s i) [] 0 (length ms) refl) at x
