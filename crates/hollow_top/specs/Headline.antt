-- The headline: what the orders of an input, and the command `make`, come to over a store that held a chain.
use Rattle.std.specs.Prelude.{◌≡◌, ℕ, List, Option, Some}
use Rattle.std.specs.Io.KnownBytes.{Appends}
use Rattle.hol_io.specs.Lines.{cut}
use Rattle.hol_io.specs.Store.{Store}
use Rattle.hollow_machine.specs.State.{started}
use Rattle.hollow_script.specs.Kept.{machine_with}
use Rattle.hollow_script.specs.declared.keep.Keep.{Keep}
use Rattle.written_laws.specs.Chain.{Chain}
use Rattle.chain_laws.specs.Growth.{GrowsByMake}
use Rattle.chain_laws.specs.Headline.{AreTrueLines, StandsOn}
use Rattle.chain_laws.specs.Stopped.{HoldsLonger, HoldsLongerByMake}

-- The sink gained the answers to the lines of the input, each of which is true of the chain that the lines before it made; and the store that is
-- held, with the producer and the consumer that are kept, stands on the last chain.
abbrev pub AnswersTruly : List ℕ → Store → Chain → Option Store → Keep → Option (List ℕ) → Option (List ℕ) → Type 0
AnswersTruly bytes first chain held kept before after =
    (text : List ℕ) × (next : Store) × (last : Chain) × AreTrueLines chain (started first) (cut bytes) text (machine_with next kept) last
    × StandsOn last (machine_with next kept) × (held ≡ Some next) × Appends before after text

-- The chain that `make` leaves is the earlier one with the states more that its cycles published; and the store that is held, with the producer that
-- is kept, stands on it.
abbrev pub MakesChain : ℕ → ℕ → ℕ → Store → Chain → Option Store → Keep → Type 0
MakesChain seed rows cycles first chain held kept =
    (next : Store) × (last : Chain) × GrowsByMake first seed rows cycles chain (machine_with next kept) last
    × StandsOn last (machine_with next kept) × (held ≡ Some next)

-- Where a script stops, the store holds the earlier chain with the states more that the answered lines published, and at most one more, which may be there
-- in part.
abbrev pub LeavesChain : List ℕ → Store → Chain → Option Store → Type 0
LeavesChain bytes first chain held = (next : Store) × (held ≡ Some next) × HoldsLonger first chain (cut bytes) next

-- So it is where `make` stops.
abbrev pub LeavesMadeChain : ℕ → ℕ → ℕ → Store → Chain → Option Store → Type 0
LeavesMadeChain seed rows cycles first chain held = (next : Store) × (held ≡ Some next) × HoldsLongerByMake first chain seed rows cycles next
