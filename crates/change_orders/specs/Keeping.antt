-- What is kept beside a producer for changes.
use Rattle.std.specs.Prelude.{Option, Some, None, IsSomeAnd}
use Rattle.write_engine.specs.Production.{Production}
use Rattle.hol_incremental.specs.EditKeys.{AreEditsOf, Editing}
use Rattle.hol_answers.specs.declared.reply.Reply.{Reply}
use Rattle.hol_answers.specs.declared.reply.Reply.TheVariants.{Change}

-- The edits, where some are kept, are those of the producer's previous state.
abbrev pub AreKeptFor : Option Production → Option Editing → Type 0
AreKeptFor producer None = Unit {0}
AreKeptFor producer (Some edits) = IsSomeAnd producer (λ last. AreEditsOf last.schemas last.previous edits)

-- It is the answer to a change that was made, whether or not it published a state.
abbrev pub IsMade : Reply → Type 0
IsMade (Change change) = Unit {0}
IsMade _ = ⊥
