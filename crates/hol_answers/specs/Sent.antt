-- What answers send to a serializer: the events of JSON in which no number has a fraction or an exponent.
use Rattle.std.specs.Prelude.{◌≡◌, ℕ, List, false}
use Rattle.std.specs.Borrow.{Bor}
use Rattle.serde.specs.Event.{Log}
use Rattle.serde_json.specs.Data.{Data, Items, Members}
use Rattle.serde_json.specs.Events.{SendsValue, SendsItems, SendsMembers}
use Rattle.serde_json.specs.Written.{has_float, items_have_float, members_have_float}
use Rattle.hol_answers.specs.declared.member.Content.{Content}
use Rattle.hol_answers.specs.Content.{members_before}

-- The JSON is sent, and has no number with a fraction or an exponent.
abbrev pub SendsPlain : Data → Log → Log → Type 0
SendsPlain json old new = SendsValue json old new × (has_float json ≡ false)

-- the same of the items of an array and of the members of an object, each with the end
abbrev pub SendsItemsPlain : Items → Log → Log → Type 0
SendsItemsPlain items old new = SendsItems items old new × (items_have_float items ≡ false)

abbrev pub SendsMembersPlain : Members → Log → Log → Type 0
SendsMembersPlain members old new = SendsMembers members old new × (members_have_float members ≡ false)

-- Whatever is this JSON is sent.
abbrev pub Sends : Data → Log → Log → Type 0
Sends json old new = (same : Data) → same ≡ json → SendsPlain same old new

-- These members are sent: with all that is sent behind them up to the end they are the members of an object.
abbrev pub SendsFront : List (Bor (List ℕ) × Content) → Log → Log → Type 0
SendsFront front old new = (rest : Members) (end : Log) → SendsMembersPlain rest new end → SendsMembersPlain (members_before front rest) old end
