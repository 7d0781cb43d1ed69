-- How a call answers a host program (document 01: "judging, value lookup, number reading and number writing are also
-- callable from it on numbers and byte slices"): it returns its number and what stands beside it in one word of 64
-- bits, and stores what it answers in an array that the caller lends. "A refused call stores nothing."
use Rattle.std.specs.Prelude.{cond, List, ℕ, ◌+◌, ◌*◌, ◌/◌, ◌%◌, ◌^◌, eqb}
use Rattle.paper_entry.specs.declared.types.Answer.{Answer}

-- of this interface: a header says its own
abbrev pub VERSION : ℕ
VERSION = 4

-- ---- the word: in bits 0 to 7 the call's number, 0 where it is answered; in 8 to 15 the entry's refusal, in 16 to 23
-- its column, in 24 to 47 its record, in 48 to 63 the ordinal of the entry in a file, 0 for a single entry. A room holds
-- what its bits can say; that no answer of a call is larger is the law `Word-back`, where it is cited.

unfoldable pub answer_word : Answer → ℕ
answer_word a =
    a.number
    + 2 ^ 8 * (a.refusal + 2 ^ 8 * (a.column + 2 ^ 8 * (a.«record».0 % 2 ^ 24 + 2 ^ 24 * (a.ordinal % 2 ^ 16))))

-- the answer that a word says: what a host does with it
unfoldable pub answer_in : ℕ → Answer
answer_in w =
    record {
      number = w % 2 ^ 8;
      refusal = w / 2 ^ 8 % 2 ^ 8;
      «record» = record { 0 = w / 2 ^ 24 % 2 ^ 24 };
      column = w / 2 ^ 16 % 2 ^ 8;
      ordinal = w / 2 ^ 48 % 2 ^ 16;
    }

-- ---- the lent array after a call with this number: what it answers, or what stood there before

unfoldable pub lent_after : ℕ → List ℕ → List ℕ → List ℕ
lent_after number before answer = cond (eqb number 0) answer before
