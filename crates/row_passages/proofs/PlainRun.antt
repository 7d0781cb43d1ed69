-- The two searches of a passage from a row, said plainly: what they find is the run, and one only.
-- Assumes nothing.
use Prim.Native.Nat.{ℕ, ◌-◌, ◌<◌, ◌≤◌}
use mathlib.Core.Path.{◌≡◌, sym, ◌∙◌}
use mathlib.Core.Bool.{true}
use mathlib.Core.List.{List}
use mathlib.Core.Logic.{◌⊎◌, inl, inr}
use native.Mathlib.Omega.{arith}
use Rattle.laws.proofs.Booleans.{differ}
use Rattle.laws.proofs.Search.{either, first_to}
use Rattle.laws.proofs.Counting.{first-before, first_holds}
use Rattle.paper_record.specs.declared.types.RecordNo.{RecordNo}
use Rattle.paper_questions.specs.Passage.{text_at, begins}
use Rattle.paper_index.specs.PassageAnswers.{texts_counted, texts_held, begins_at, begun_at, ended_at}
use Rattle.row_passages.specs.Plain.{TextInside, Begins, Run}
use Rattle.row_passages.proofs.PassageEnds.{ended-bounds, ended-before, ended-begins, ended-end}
use Rattle.row_passages.proofs.TextsInside.{held-counted, held-inside, inside-held, begins-plain}

module _ (s : List ℕ) (bib : RecordNo) (keyword : List ℕ) (pointer : ℕ) where
  abbrev Starts : ℕ → Type 0
  Starts j = Begins s bib keyword pointer j

  abbrev RunTo : ℕ → ℕ → Type 0
  RunTo i past = Run s bib keyword pointer i past

  -- ---- there is one run only

  starts-before : (i j e f : ℕ) → RunTo i e → RunTo j f → j < i → ⊥
  starts-before i j e f x y h = x.earliest j (omega arith) y.begun

  ends-before : (i e f : ℕ) → RunTo i e → RunTo i f → e < f → ⊥
  ends-before i e f x y h = by_end x.ends
    where
      by_end : (e ≡ texts_counted s bib) ⊎ (TextInside s bib e × (begins (text_at s bib e) ≡ true)) → ⊥
      by_end (inl z) = omega (arith, y.counted)
      by_end (inr (t, b)) = differ (sym b ∙ y.whole e (omega (arith, x.some)) (omega arith))

  pub run-one : (i j e f : ℕ) → RunTo i e → RunTo j f → (i ≡ j) × (e ≡ f)
  run-one i j e f x y =
      let z : i ≡ j =
      either i j (λ l. absurd (starts-before j i f e y x l))
      (λ l. either j i (λ m. absurd (starts-before i j e f x y m)) (λ m. omega arith)) in
      let w : RunTo j e = rw z at x in (
        z,
        either e f (λ l. absurd (ends-before j e f w y l))
            (λ l. either f e (λ m. absurd (ends-before j f e y w m)) (λ m. omega arith)),
      )

  -- ---- the first that begins it, among the first n

  begun-starts : (n : ℕ) → begun_at s bib keyword pointer n < n → Starts (begun_at s bib keyword pointer n)
  unfolding begun_at
  begun-starts n h =
      (begins-plain s bib keyword pointer _).0 (first_holds (begins_at s bib keyword pointer) 0 n (omega arith))

  begun-before : (n j : ℕ) → j < begun_at s bib keyword pointer n → Starts j → ⊥
  unfolding begun_at
  begun-before n j h b =
      let t = first_to (begins_at s bib keyword pointer) 0 n in
      differ
      (sym ((begins-plain s bib keyword pointer j).1 b)
      ∙ first-before (begins_at s bib keyword pointer) 0 n j (omega arith) h (omega arith))

  -- ---- among those that lie inside

  abbrev held : ℕ
  held = texts_held s bib

  abbrev counted : ℕ
  counted = texts_counted s bib

  abbrev from : ℕ
  from = begun_at s bib keyword pointer held

  abbrev past : ℕ
  past = ended_at s bib from held

  -- the run that is found
  module _ (some : from < held) (ended : held < counted → past ≡ held → ⊥) where
    run_ends : (past ≡ counted) ⊎ (TextInside s bib past × (begins (text_at s bib past) ≡ true))
    run_ends =
        let (a, b) = ended-bounds s bib from held some in
        let c = held-counted s bib in
        either past held (λ l. inr (held-inside s bib past l, ended-begins s bib from held some l))
        (λ l. inl (either held counted (λ m. absurd (ended m (omega arith))) (λ m. omega arith)))

    pub run-found : RunTo from past
    run-found =
        let (a, b) = ended-bounds s bib from held some in
        let c = held-counted s bib in
        record {
          some = a;
          counted = omega arith;
          inside = λ j l. held-inside s bib j (omega arith);
          begun = begun-starts held some;
          earliest = λ j l. begun-before held j (omega arith);
          whole = λ j l m. ended-before s bib from held some j (omega arith) (omega arith);
          ends = run_ends;
        }

  -- none that begins it
  pub none_found : held ≤ from → (held < counted → past ≡ held → ⊥)
      → (j : ℕ) → j < counted → TextInside s bib j × (Starts j → ⊥)
  none_found l ended j h =
      let e = ended-end s bib from held l in
      let m : j < held = either held counted (λ a. absurd (ended a e)) (λ a. omega arith) in
      (held-inside s bib j m, begun-before held j (omega arith))

  -- where reading leaves the entry, no run ends before
  module _ (more : held < counted) (ended : past ≡ held) where
    pub held-outside : TextInside s bib held → ⊥
    held-outside t = let h = inside-held s bib held more t in omega arith

    module _ (i e : ℕ) (x : RunTo i e) where
      run-held : e ≤ held
      run-held =
          either held e (λ l. absurd (held-outside (x.inside held l))) (λ l. l)

      run-starts : from ≡ i
      run-starts =
          let h = run-held in
          either from i
          (λ l. absurd (x.earliest from (omega arith) (begun-starts held (omega (arith, x.some)))))
          (λ l. either i from (λ m. absurd (begun-before held i m x.begun)) (λ m. omega arith))

      run-within : e < held → ⊥
      run-within l = by_end x.ends
        where
          by_end : (e ≡ counted) ⊎ (TextInside s bib e × (begins (text_at s bib e) ≡ true)) → ⊥
          by_end (inl z) = omega arith
          by_end (inr (t, b)) =
              let z = run-starts in
              differ (sym b ∙ ended-before s bib from held (omega (arith, x.some)) e (omega (arith, x.some)) (omega arith))

      run_at : held ≤ e → ⊥
      run_at l = by_end x.ends
        where
          by_end : (e ≡ counted) ⊎ (TextInside s bib e × (begins (text_at s bib e) ≡ true)) → ⊥
          by_end (inl z) = let h = run-held in omega arith
          by_end (inr (t, b)) =
              let h = run-held in
              let z : e ≡ held = omega arith in
              held-outside (rw z at t)

    pub no_run : (i e : ℕ) → RunTo i e → ⊥
    no_run i e x = either e held (run-within i e x) (run_at i e x)
