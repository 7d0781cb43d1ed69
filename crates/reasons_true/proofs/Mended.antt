-- The expected characters, put in their place, make the rule hold at that record, for 5 and 6.
-- Assumes nothing.
use Prim.Native.Nat.{ℕ, ◌+◌, ◌*◌, ◌≤◌}
use mathlib.Core.Path.{◌≡◌, refl, sym, ◌∙◌, ap}
use mathlib.Core.List.{List, [], ◌++◌}
use native.Mathlib.Omega.{arith}
use lib.ListN.{length, take, get_or, length-append}
use lib.Seq.{length-take-le, take-length, take-take, take_at}
use Rattle.laws.specs.Blocks.{block_at}
use Rattle.paper_record.specs.Fields.{fields_of}
use Rattle.paper_record.specs.Identifier.{identifier_of}
use Rattle.paper_record.specs.Expected.{identification_of, sequence_of, in_digits}
use Rattle.paper_record.proofs.EqualColumns.{at-equal}
use Rattle.paper_rules.specs.declared.types.Track.{Track}
use Rattle.paper_rules.specs.State.{Context}
use Rattle.paper_rules.specs.Record.{Fields, Record}
use Rattle.paper_rules.specs.Role.{role_in}
use Rattle.paper_rules.specs.Every.{expected_identification, expected_sequence, rule5, rule6}
use Rattle.paper_entry.specs.Verdict.{refused}
use Rattle.paper_entry.specs.Judging.{judge_of}
use Rattle.paper_entry.specs.Contexts.{context_at, role_at}
use Rattle.paper_reasons.specs.declared.types.Reason.{Reason}
use Rattle.paper_reasons.specs.Reason.{no_characters, reason_for, explain}
use Rattle.reasons_true.specs.Mended.{put_at, found5, found6, Mended5, Mended6}
use Rattle.reasons_true.proofs.Long.{digits_long, expected-long}
use Rattle.reasons_true.proofs.Put.{same-context, same-fields, put-columns}
use Rattle.reasons_true.proofs.ReasonAt.{record-there, reason-at}

-- ---- the rules on a record that has what is expected

holds5 : (t : Track) (role : ℕ) (fs : Fields) (r : Record) → identification_of r ≡ expected_identification t role fs
    → rule5 t role fs r ≡ []
unfolding rule5
holds5 t role fs r e =
    rw (at-equal 8 (identification_of r) (expected_identification t role fs) (λ j l. ap (λ (x : List ℕ). get_or x j 0) e))
    refl

holds6 : (t : Track) (role : ℕ) (r : Record) → sequence_of r ≡ in_digits 5 (expected_sequence t role)
    → rule6 t role r ≡ []
unfolding rule6
holds6 t role r e =
    rw (at-equal 5 (sequence_of r) (in_digits 5 (expected_sequence t role)) (λ j l. ap (λ (x : List ℕ). get_or x j 0) e))
    refl

-- the role comes from the context and the fields
abbrev role_by : Context → Fields → ℕ
role_by c fs = role_in c.phase c.track (identifier_of (get_or fs 0 []))

-- ---- 5

abbrev expected5 : List ℕ → ℕ → List ℕ
expected5 s i = expected_identification (context_at s i).track (role_at s i) (fields_of (block_at 81 s i))

put5 : (s : List ℕ) (i : ℕ) → (i + 1) * 81 ≤ length s → found5 (put_at s i 66 8 (expected5 s i)) i ≡ []
put5 s i there =
    let x = expected5 s i in
    let t = put_at s i 66 8 x in
    let long : length x ≡ 8 = expected-long s i (role_at s i) there in
    ap (λ (c : Context). rule5 c.track (role_by c (fields_of (block_at 81 t i))) (fields_of (block_at 81 t i))
    (block_at 81 t i)) (same-context s x i 66 8 there (omega arith))
    ∙ ap (λ (fs : Fields). rule5 (context_at s i).track (role_by (context_at s i) fs) fs (block_at 81 t i))
    (same-fields s x i 66 8 there (omega arith) (omega arith))
    ∙ holds5 (context_at s i).track (role_at s i) (fields_of (block_at 81 s i)) (block_at 81 t i)
    (put-columns s x i 66 8 there (omega arith) (omega arith) ∙ ap (λ (n : ℕ). take n x) (sym long) ∙ take-length x)

characters5 : (s : List ℕ) (i : ℕ) → judge_of s ≡ refused 5 (record { 0 = i + 1 }) 67
    → (explain s).reason.characters ≡ take 8 (expected5 s i ++ no_characters)
unfolding reason_for
characters5 s i e = ap (λ (x : Reason). x.characters) (reason-at s i 5 67 e)

pub mended5 : Mended5
mended5 s i e =
    let there = record-there s i 5 67 (omega arith) (omega arith) e in
    let long = expected-long s i (role_at s i) there in
    ap (λ (x : List ℕ). found5 (put_at s i 66 8 x) i) (characters5 s i e ∙ take_at (expected5 s i) no_characters 8 long)
    ∙ put5 s i there

-- ---- 6: five digits, and blanks behind them that are not put

abbrev expected6 : List ℕ → ℕ → List ℕ
expected6 s i = in_digits 5 (expected_sequence (context_at s i).track (role_at s i))

abbrev written6 : List ℕ → ℕ → List ℕ
written6 s i = take 8 (expected6 s i ++ no_characters)

put6 : (s : List ℕ) (i : ℕ) → (i + 1) * 81 ≤ length s → found6 (put_at s i 74 5 (written6 s i)) i ≡ []
put6 s i there =
    let x = expected6 s i in
    let y = written6 s i in
    let t = put_at s i 74 5 y in
    let long : length x ≡ 5 = digits_long 5 (expected_sequence (context_at s i).track (role_at s i)) in
    let wide : length y ≡ 8 = length-take-le 8 (x ++ no_characters) (rw length-append (omega arith)) in
    ap (λ (c : Context). rule6 c.track (role_by c (fields_of (block_at 81 t i))) (block_at 81 t i))
    (same-context s y i 74 5 there (omega arith))
    ∙ ap (λ (fs : Fields). rule6 (context_at s i).track (role_by (context_at s i) fs) (block_at 81 t i))
    (same-fields s y i 74 5 there (omega arith) (omega arith))
    ∙ holds6 (context_at s i).track (role_at s i) (block_at 81 t i)
    (put-columns s y i 74 5 there (omega arith) (omega arith)
    ∙ take-take 5 8 (x ++ no_characters) (omega arith) ∙ take_at x no_characters 5 long)

characters6 : (s : List ℕ) (i : ℕ) → judge_of s ≡ refused 6 (record { 0 = i + 1 }) 75
    → (explain s).reason.characters ≡ written6 s i
unfolding reason_for
characters6 s i e = ap (λ (x : Reason). x.characters) (reason-at s i 6 75 e)

pub mended6 : Mended6
mended6 s i e =
    ap (λ (x : List ℕ). found6 (put_at s i 74 5 x) i) (characters6 s i e)
    ∙ put6 s i (record-there s i 6 75 (omega arith) (omega arith) e)
