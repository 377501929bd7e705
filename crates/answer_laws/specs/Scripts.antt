-- What the lines of a script put.
use Rattle.std.specs.Prelude.{ℕ, List, All}
use Rattle.blob_grammar.specs.Decided.{AreBytes}
use Rattle.state_blobs.specs.Puts.{Put}
use Rattle.hollow_machine.specs.Puts.{LinePuts}
use Rattle.hollow_machine.specs.State.{Machine}

-- What the line puts, if it is a cycle that publishes, are bytes.
abbrev pub PutsBytes : List ℕ → Machine → Type 0
PutsBytes line machine = (puts : List Put) → LinePuts line machine puts → All (λ put. AreBytes put.1) puts
