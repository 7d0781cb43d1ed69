-- What a promise that is an equation is worth: it allows one answer only, and what is said of it.
-- Assumes nothing.
use mathlib.Core.Path.{◌≡◌, ◌∙◌, ap, sym}

-- two answers that are both what the definition says are equal; for a lent buffer the answers are its final bytes
pub one_answer : {A : Type 0} {definition first second : A} → first ≡ definition → second ≡ definition → first ≡ second
one_answer p q = p ∙ sym q

-- the promise of an answer that is an enum: the answer, and the number and values that `said` gives for its case
pub said-too : {A B : Type 0} (said : A → B) {answer definition : A} → answer ≡ definition
    → (answer ≡ definition) × (said answer ≡ said definition)
said-too said e = (e, ap said e)
