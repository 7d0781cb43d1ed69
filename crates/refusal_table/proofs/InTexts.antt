-- Where the judge stands inside BIB: the record that opened it, how far behind it, and the text records since then.
-- Assumes nothing.
use Rattle.paper_faults.specs.Fault.{faultless}
use Prim.Native.Nat.{ℕ, suc, ◌+◌, ◌*◌, ◌-◌, ◌<◌, ◌≤◌}
use mathlib.Core.Path.{◌≡◌, refl, sym, ◌∙◌, ap, subst}
use mathlib.Core.Bool.{Bool, true, false}
use mathlib.Core.List.{List, [], ◌∷◌, ◌++◌, append-nil}
use native.Mathlib.Omega.{arith}
use borrow.Author.Tests.{eqb-false}
use lib.Dec.{eqb}
use lib.ListN.{length, get_or, take, drop, length-append}
use lib.Seq.{length-take-le, take_all}
use Rattle.laws.specs.Blocks.{block_at, joined}
use Rattle.laws.specs.Members.{list_of}
use Rattle.laws.proofs.Booleans.{differ}
use Rattle.laws.proofs.Listing.{all_append, joined-one, list-split}
use Rattle.laws.proofs.Search.{either}
use Rattle.paper_record.specs.Fields.{fields_of}
use Rattle.paper_record.proofs.ReadColumns.{field-of}
use Rattle.paper_record.specs.Identifier.{BIB, OTHER}
use Rattle.paper_record.proofs.PlainColumns.{blank-exactly}
use Rattle.paper_record.specs.Word.{blank_to}
use Rattle.paper_rules.specs.declared.types.Track.{Track}
use Rattle.paper_rules.specs.Record.{Record}
use Rattle.paper_rules.specs.State.{Context}
use Rattle.paper_rules.specs.Roles.{TEXT}
use Rattle.laws.proofs.EitherWay.{either_way}
use Rattle.paper_rules.specs.Counts.{count_n2}
use Rattle.paper_rules.specs.Order.{fault_of}
use Rattle.paper_rules.proofs.WithoutFault.{fine-long}
use Rattle.rules_plain.specs.Places.{Long, bib_place}
use Rattle.rules_plain.specs.Texts.{UnderKeyword, BehindTexts}
use Rattle.rules_plain.proofs.UnderNext.{under_none, under-joins, under-begins}
use Rattle.paper_entry.specs.Counted.{track_after, after_system, after_inside}
use Rattle.paper_entry.specs.Tally.{text_read}
use Rattle.paper_entry.specs.Next.{context_after}
use Rattle.paper_entry.specs.Judging.{role_of}
use Rattle.paper_entry.specs.Contexts.{behind, context_at, role_at}
use Rattle.entry_walk.proofs.Contexts.{context-after}
use Rattle.entry_walk.proofs.TextsAdded.{bib-joined, under-begun, under-joined, bib-emptied, under-emptied}
use Rattle.refusal_table.specs.KindOf.{fields_in, name_in, announced_n2}
use Rattle.refusal_table.specs.TextFaults.{records_between}

-- ---- counting

one-met : (i j a b : ℕ) → i ≡ j + 1 + b → a ≡ b + 1 → suc i ≡ j + 1 + a
one-met i j a b e f = omega arith

none-met : (i a : ℕ) → a ≡ 0 → suc i ≡ i + 1 + a
none-met i a e = omega arith

at_most : (a b n : ℕ) → a ≡ b + 1 → b < n → a ≤ n
at_most a b n e h = omega arith

behind-first : (i j a : ℕ) → i ≡ j + 1 + a → j < i
behind-first i j a e = omega arith

no_less : (a r n : ℕ) → a ≤ n → n ≤ a → r ≡ n → a ≡ r
no_less a r n h l e = omega arith

-- ---- the records between two

between_none : (s : List ℕ) (i : ℕ) → records_between s i (suc i) ≡ []
unfolding list_of
between_none s i = let e : suc i - (i + 1) ≡ 0 = omega arith in ap (list_of (block_at 81 s) (i + 1)) e

between_next : (s : List ℕ) (j i : ℕ) → j < i
    → records_between s j (suc i) ≡ records_between s j i ++ (block_at 81 s i ∷ [])
unfolding list_of
between_next s j i l =
    let e : suc i - (j + 1) ≡ i - (j + 1) + 1 = omega arith in
    let f : j + 1 + (i - (j + 1)) ≡ i = omega arith in
    ap (list_of (block_at 81 s) (j + 1)) e ∙ list-split (block_at 81 s) (j + 1) (i - (j + 1)) 1
    ∙ ap (λ (k : ℕ). records_between s j i ++ (block_at 81 s k ∷ [])) f

-- no rule finds anything on the record with the index i
abbrev pub FineAt : List ℕ → ℕ → Type 0
FineAt s i =
    fault_of (context_at s i).track (context_at s i).seen (role_at s i) (fields_in s i) (block_at 81 s i) ≡ faultless

-- so it is whole
block-long : (s : List ℕ) (i : ℕ) → FineAt s i → Long (block_at 81 s i)
block-long s i fine =
    let rest : List ℕ = drop (i * 81) s in
    let l : 80 < length (block_at 81 s i) =
    fine-long (context_at s i).track (context_at s i).seen (role_at s i) (fields_in s i) (block_at 81 s i) fine in
    either (length rest) 81
    (λ a.
    let z : length (take 81 rest) ≡ length rest = ap length (take_all 81 rest (omega arith)) in
    absurd (omega arith))
    (λ a. length-take-le 81 rest a)

-- ---- behind BIB, and behind a text record

-- what is counted
record Behind (records section : ℕ) (t : Track) : Type 0 where
  kept : t.bib.records ≡ records
  counted : t.section ≡ section

behind-bib : (c : Context) (fs : List (List ℕ)) (r : List ℕ) → Behind (count_n2 fs) 0 (context_after c BIB fs r).track
unfolding context_after track_after after_system
behind-bib c fs r = record { kept = refl; counted = refl }

behind-text : (c : Context) (fs : List (List ℕ)) (r : List ℕ)
    → Behind c.track.bib.records (c.track.section + 1) (context_after c TEXT fs r).track
unfolding context_after track_after after_inside text_read
behind-text c fs r =
    either_way (λ (t : Track). Behind c.track.bib.records (c.track.section + 1) t)
    (blank_to 10 (get_or fs 0 [])) _ _ (record { kept = refl; counted = refl }) (record { kept = refl; counted = refl })

-- and seen
no-texts : (c : Context) (r : Record) → role_of c r ≡ BIB → (behind c r).track.section ≡ 0
    → BehindTexts [] (behind c r).track (behind c r).seen
unfolding joined
no-texts c r role none =
    record {
      long = tt;
      counted = none;
      bytes = bib-emptied c r role;
      under = [];
      in-hand = under_none;
      under_bytes = under-emptied c r role;
    }

module _ (c : Context) (r : Record) (rs : List Record) (role : role_of c r ≡ TEXT) (long : Long r)
    (more : (behind c r).track.section ≡ c.track.section + 1) (b : BehindTexts rs c.track c.seen) where
  own : get_or (fields_of r) 0 [] ≡ bib_place r
  own = field-of r 0 (omega arith)

  texts-next : BehindTexts (rs ++ (r ∷ [])) (behind c r).track (behind c r).seen
  unfolding joined
  texts-next = by-test (blank_to 10 (bib_place r)) refl
    where
      all : (under : List Record) → UnderKeyword (rs ++ (r ∷ [])) under → (behind c r).seen.under ≡ joined under
          → BehindTexts (rs ++ (r ∷ [])) (behind c r).track (behind c r).seen
      all under in-hand bytes =
          let n : length (rs ++ (r ∷ [])) ≡ length rs + 1 = length-append rs (r ∷ []) in
          record {
            long = all_append Long rs (r ∷ []) b.long (long, tt);
            counted = more ∙ ap (λ (k : ℕ). k + 1) b.counted ∙ sym n;
            bytes = bib-joined c r role (bib_place r) own ∙ ap (λ (w : List ℕ). w ++ r) b.bytes
                ∙ sym (joined-one rs r);
            under = under;
            in-hand = in-hand;
            under_bytes = bytes;
          }

      by-test : (t : Bool) → blank_to 10 (bib_place r) ≡ t
          → BehindTexts (rs ++ (r ∷ [])) (behind c r).track (behind c r).seen
      by-test true e =
          all (b.under ++ (r ∷ []))
          (under-joins rs r b.under b.in-hand ((blank-exactly 10 (bib_place r)).0 e))
          (under-joined c r role (bib_place r) own e ∙ ap (λ (w : List ℕ). w ++ r) b.under_bytes
          ∙ sym (joined-one b.under r))
      by-test false e =
          all (r ∷ [])
          (under-begins rs r (λ n. differ (sym ((blank-exactly 10 (bib_place r)).1 n) ∙ e)))
          (under-begun c r role (bib_place r) own e ∙ sym (append-nil r))

-- ---- before the record with the index i

-- so many text records are met since the record j, and these are they
pub record InTexts (s : List ℕ) (i : ℕ) : Type 0 where
  pub j : ℕ
  pub opens : name_in s j ≡ BIB
  pub no_system : (m : ℕ) → j < m → m < i → name_in s m ≡ OTHER
  pub records : (context_at s i).track.bib.records ≡ announced_n2 s j
  pub met : i ≡ j + 1 + (context_at s i).track.section
  pub few : (context_at s i).track.section ≤ announced_n2 s j
  pub texts : BehindTexts (records_between s j i) (context_at s i).track (context_at s i).seen

-- one more is announced
pub one_more : (s : List ℕ) (i : ℕ) (x : InTexts s i)
    → eqb (context_at s i).track.section (context_at s i).track.bib.records ≡ false
    → (context_at s i).track.section < announced_n2 s x.j
one_more s i x e =
    either (context_at s i).track.section (announced_n2 s x.j) (λ l. l)
    (λ l.
    absurd (eqb-false (context_at s i).track.section (context_at s i).track.bib.records e
    (no_less (context_at s i).track.section (context_at s i).track.bib.records (announced_n2 s x.j) x.few l
    x.records)))

pub context-as : (s : List ℕ) (i role : ℕ) → role_at s i ≡ role
    → context_at s (suc i) ≡ context_after (context_at s i) role (fields_in s i) (block_at 81 s i)
unfolding context_at
context-as s i role e = ap (λ (k : ℕ). context_after (context_at s i) k (fields_in s i) (block_at 81 s i)) e

module _ (s : List ℕ) (i : ℕ) where
  abbrev Seen : List Record → Context → Type 0
  Seen rs c = BehindTexts rs c.track c.seen

  section-next : (n : ℕ) → (context_at s (suc i)).track.section ≡ n
      → (behind (context_at s i) (block_at 81 s i)).track.section ≡ n
  section-next n w = ap (λ (x : Context). x.track.section) (sym (context-after s i)) ∙ w

  pub bib-opened : name_in s i ≡ BIB → role_at s i ≡ BIB → InTexts s (suc i)
  bib-opened n e =
      let z = context-as s i BIB e in
      let b = behind-bib (context_at s i) (fields_in s i) (block_at 81 s i) in
      let w : (context_at s (suc i)).track.section ≡ 0 = ap (λ (x : Context). x.track.section) z ∙ b.counted in
      record {
        j = i;
        opens = n;
        no_system = λ m l h. absurd (omega arith);
        records = ap (λ (x : Context). x.track.bib.records) z ∙ b.kept;
        met = none-met i (context_at s (suc i)).track.section w;
        few = rw w (omega arith);
        texts = subst (λ (rs : List Record). Seen rs (context_at s (suc i))) (sym (between_none s i))
            (subst (Seen []) (sym (context-after s i))
            (no-texts (context_at s i) (block_at 81 s i) e (section-next 0 w)));
      }

  pub text-met : FineAt s i → (x : InTexts s i) → name_in s i ≡ OTHER
      → eqb (context_at s i).track.section (context_at s i).track.bib.records ≡ false
      → role_at s i ≡ TEXT → InTexts s (suc i)
  text-met fine x n less e =
      let z = context-as s i TEXT e in
      let b = behind-text (context_at s i) (fields_in s i) (block_at 81 s i) in
      let was : ℕ = (context_at s i).track.section in
      let is : ℕ = (context_at s (suc i)).track.section in
      let w : (context_at s (suc i)).track.section ≡ (context_at s i).track.section + 1 =
      ap (λ (c : Context). c.track.section) z ∙ b.counted in
      let rs : List Record = records_between s x.j i in
      record {
        j = x.j;
        opens = x.opens;
        no_system =
            λ m l h. either m i (λ a. x.no_system m l a)
            (λ a. let y : i ≡ m = omega arith in subst (λ (k : ℕ). name_in s k ≡ OTHER) y n);
        records = ap (λ (c : Context). c.track.bib.records) z ∙ b.kept ∙ x.records;
        met = one-met i x.j is was x.met w;
        few = at_most is was (announced_n2 s x.j) w (one_more s i x less);
        texts = subst (λ (ts : List Record). Seen ts (context_at s (suc i)))
            (sym (between_next s x.j i (behind-first i x.j was x.met)))
            (subst (Seen (rs ++ (block_at 81 s i ∷ []))) (sym (context-after s i))
            (texts-next (context_at s i) (block_at 81 s i) rs e (block-long s i fine) (section-next (was + 1) w)
            x.texts));
      }
