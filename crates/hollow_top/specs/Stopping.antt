-- What a command leaves of the sink and the counts where it ends, and where it stops before.
use Rattle.std.specs.Prelude.{◌≡◌, ◌≢◌, ◌<◌, ◌≤◌, ℕ, List, [], ◌∷◌, ◌++◌, length, take, All, Option, Bool, true, false, Result, Ok, Err}
use Rattle.std.specs.Io.KnownBytes.{Appends}
use Rattle.std.specs.List.{flat_map}
use Rattle.hol_io.specs.Causes.{Rose}
use Rattle.hol_io.specs.Lines.{IsOnePiece}
use Rattle.hol_orders.specs.declared.order_stop.OrderStop.{OrderStop}
use Rattle.hol_orders.specs.declared.order_stop.OrderStop.TheVariants as order
use Rattle.hol_answers.specs.declared.refusal.Refusal.{Refusal}
use Rattle.hollow_top.specs.declared.stop.Stop.{Stop}
use Rattle.hollow_top.specs.declared.stop.Stop.TheVariants.{Memory, Sink, Store as StoreFailed}
use Rattle.hol_answers.specs.Refusal.{refusal_line}

-- why a command stops where its answer would be the refusal of a blob
abbrev pub stop_of : OrderStop → Stop
stop_of order.Memory = Memory
stop_of order.Store = StoreFailed

-- A command that has written nothing stops for want of memory, or where the store's count of faults rose.
abbrev pub StopsBefore : ℕ → ℕ → Stop → Type 0
StopsBefore before now Memory = Unit {0}
StopsBefore before now StoreFailed = Rose before now
StopsBefore before now Sink = ⊥

-- The sink gained a part of a text that is written so, from its front on, and not all of it.
abbrev pub GainsPart : (List ℕ → Bool → Type 0) → Option (List ℕ) → Option (List ℕ) → Type 0
GainsPart IsWritten before after =
    (text : List ℕ) × (refused : Bool) × (count : ℕ) × IsWritten text refused × (count < length text)
    × Appends before after (take count text)

-- The sink gained the front of a text that is written so.
abbrev pub GainsFront : (List ℕ → Bool → Type 0) → Option (List ℕ) → Option (List ℕ) → Type 0
GainsFront IsWritten before after =
    (text : List ℕ) × (refused : Bool) × (count : ℕ) × IsWritten text refused × (count ≤ length text)
    × Appends before after (take count text)

-- What a command leaves of the sink: a text that is written so with this verdict, or where the sink failed a part of one.
abbrev pub Leaves : (List ℕ → Bool → Type 0) → Option (List ℕ) → Option (List ℕ) → Result Bool Stop → Type 0
Leaves IsWritten before after (Ok refused) = (text : List ℕ) × IsWritten text refused × Appends before after text
Leaves IsWritten before after (Err Sink) = GainsPart IsWritten before after
Leaves IsWritten before after (Err StoreFailed) = Unit {0}
Leaves IsWritten before after (Err Memory) = Unit {0}

-- The text is the line of a refusal, or is that of none, as told.
abbrev pub IsVerdict : List ℕ → Bool → Type 0
IsVerdict text true = (refusal : Refusal) × (text ≡ refusal_line refusal)
IsVerdict text false = (refusal : Refusal) → text ≢ refusal_line refusal

-- What the sink gained is the line of a refusal.
abbrev pub GainsRefusal : Option (List ℕ) → Option (List ℕ) → Type 0
GainsRefusal before after = (refusal : Refusal) × Appends before after (refusal_line refusal)

-- The text is some lines, each with the byte 0A behind it, then this line, and then a rest.
abbrev pub HasLine : List ℕ → List ℕ → Type 0
HasLine text line =
    (before : List (List ℕ)) × (rest : List ℕ) × All IsOnePiece before × (text ≡ flat_map (λ piece. piece ++ 10 ∷ []) before ++ (line ++ rest))

-- One of the lines that the sink gained is that of a refusal.
abbrev pub GainsRefusalLine : Option (List ℕ) → Option (List ℕ) → Type 0
GainsRefusalLine before after = (refusal : Refusal) × (text : List ℕ) × Appends before after text × HasLine text (refusal_line refusal)
