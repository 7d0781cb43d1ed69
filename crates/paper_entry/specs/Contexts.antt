-- The records of an entry by their index: the context before each, and its role there.
use Rattle.std.specs.Prelude.{ℕ, zero, suc, List}
use Rattle.laws.specs.Blocks.{block_at}
use Rattle.paper_record.specs.Fields.{fields_of}
use Rattle.paper_rules.specs.State.{Context, start_context}
use Rattle.paper_entry.specs.Next.{context_after}
use Rattle.paper_entry.specs.Judging.{role_of}

-- the context behind a record without fault
abbrev pub behind : Context → List ℕ → Context
behind c r = context_after c (role_of c r) (fields_of r) r

-- the context before the record with the index i, and the role of that record
unfoldable pub context_at : List ℕ → ℕ → Context
context_at s zero = start_context
context_at s (suc i) = behind (context_at s i) (block_at 81 s i)

abbrev pub role_at : List ℕ → ℕ → ℕ
role_at s i = role_of (context_at s i) (block_at 81 s i)
