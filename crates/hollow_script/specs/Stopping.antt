-- What a run of a script leaves of its sink and of its store where it stops before its end.
use Rattle.std.specs.Prelude.{◌≡◌, ℕ, List, Option, Some, take}
use Rattle.std.specs.Io.KnownBytes.{Appends, Consumes}
use Rattle.hol_io.specs.Lines.{cut, finished}
use Rattle.hol_io.specs.Store.{Store}
use Rattle.hollow_machine.specs.Stopped.{StopsAfter, StopsBetween, StopsWithin}
use Rattle.hollow_script.specs.declared.keep.Keep.{Keep}
use Rattle.hollow_script.specs.declared.script_stop.ScriptStop.{ScriptStop}
use Rattle.hollow_script.specs.declared.script_stop.ScriptStop.TheVariants.{Memory, Sink, Source, Store as StoreFailed, TooLong}
use Rattle.hollow_script.specs.Kept.{FailsAt, LacksMemoryAt}
use Rattle.hollow_script.specs.Scripted.{HasAsked, longest_input}

-- The text that a script has written where it stops, and the store, over the bytes of an input of which the source has so much left.
--
-- - The source failed: the answers to the lines that end in what was taken of the input, and the store behind them.
-- - The sink failed: the answers to the lines before one of the input, and a front of that one's, but not all of it; the store behind this one.
-- - The store failed: the answers to all lines that were asked but the last one, as the reader of lines that is kept gave them; the store behind these, or
--   this with the first puts of the last one. The producer that is kept is that behind the answered lines.
-- - Memory was refused: the answers to all lines that were asked, and the store and the producer behind them; or the same as where the store failed, but that
--   the producer may be that behind the last line too, whose answer was lost.
-- - The input is too long: the answers to the lines that end within the bytes that an input may have, and the store behind them.
abbrev pub StopsSo : List ℕ → Store → Option (List ℕ) → Keep → ScriptStop → List ℕ → Store → Type 0
StopsSo bytes first left' keep Source text store = (took : List ℕ) × Consumes (Some bytes) left' took × StopsAfter first (finished took) text store
StopsSo bytes first left' keep Sink text store = StopsWithin first (cut bytes) text store
StopsSo bytes first left' keep StoreFailed text store = (so : StopsBetween first (cut bytes) text store) × FailsAt (HasAsked bytes left' keep.lines) keep so.answered so.machine so.ahead store
StopsSo bytes first left' keep Memory text store = (so : StopsBetween first (cut bytes) text store) × LacksMemoryAt (HasAsked bytes left' keep.lines) keep so.answered so.machine so.ahead store
StopsSo bytes first left' keep TooLong text store = StopsAfter first (finished (take longest_input bytes)) text store

-- The sink gained such a text, and the store is such a one.
abbrev pub LeavesStopped : List ℕ → Store → Option (List ℕ) → Option Store → Keep → Option (List ℕ) → Option (List ℕ) → ScriptStop → Type 0
LeavesStopped bytes first left' held keep before after stop =
    (text : List ℕ) × (store : Store) × StopsSo bytes first left' keep stop text store × (held ≡ Some store) × Appends before after text
