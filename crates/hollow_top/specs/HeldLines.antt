-- Lines that wait behind what the sink has taken, to be written many at a time.
use Rattle.std.specs.Prelude.{◌≡◌, ◌<◌, ◌≤◌, ℕ, List, ◌++◌, length, take, Option, Result, Ok, Err}
use Rattle.std.specs.Io.KnownBytes.{Appends}
use Rattle.hollow_top.specs.declared.stop.Stop.{Stop}
use Rattle.hollow_top.specs.declared.stop.Stop.TheVariants.{Memory, Sink, Store as StoreFailed}
use Rattle.hollow_top.specs.RowLines.{Listed, AreLinesOf}

-- What the sink has taken, and the bytes that wait behind it.
abbrev pub Held : Type 0
Held = Option (List ℕ) × List ℕ

-- What putting a text behind the bytes that wait leaves: a front of them all went to the sink and the rest waits, or where
-- the sink failed a part of them went, or where memory was refused a front of them.
abbrev pub LeavesText : List ℕ → Held → Held → Result Unit Stop → Type 0
LeavesText text before after (Ok done) = (gone : List ℕ) × (before.1 ++ text ≡ gone ++ after.1) × Appends before.0 after.0 gone
LeavesText text before after (Err Sink) =
    (count : ℕ) × (count < length (before.1 ++ text)) × Appends before.0 after.0 (take count (before.1 ++ text))
LeavesText text before after (Err Memory) =
    (count : ℕ) × (count ≤ length (before.1 ++ text)) × Appends before.0 after.0 (take count (before.1 ++ text))
LeavesText text before after (Err StoreFailed) = ⊥

-- What putting the lines of rows leaves.
abbrev pub HoldsLines : List Listed → Held → Held → Result Unit Stop → Type 0
HoldsLines rows before after r = (text : List ℕ) × AreLinesOf rows text × LeavesText text before after r
