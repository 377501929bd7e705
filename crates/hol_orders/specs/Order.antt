-- The orders: the JSON object that each is, and which lines are orders.
use Rattle.std.specs.Prelude.{◌≡◌, ℕ, List, Some, Result, Ok, Err, IsUtf8}
use Rattle.serde_json.specs.Data.{Data, object, no_members, member}
use Rattle.serde_json.specs.Read.{read}
use Rattle.serde_json.specs.View.{view}
use Rattle.hol_orders.specs.declared.kind.Kind.{Kind}
use Rattle.hol_orders.specs.declared.order.Order.{Order}
use Rattle.hol_orders.specs.declared.order.Order.TheVariants.{Model, Cycle, Restore, Load, Step, Index, Get, Find, Live, Row, Has, At, Past, Check, Stat, Grow, Plan, Goto, Change, WalkIndex, WalkFind, History, Was, WasGet}
use Rattle.hol_orders.specs.declared.order.OrderFault.{OrderFault}
use Rattle.hol_orders.specs.declared.order.OrderFault.TheVariants.{BadOrder, Memory}
use Rattle.hol_orders.specs.Kind.{shape, word_of_kind}
use Rattle.hol_orders.specs.Parts.{asked_change, asked_state}
use Rattle.hol_orders.specs.Spelling.{Lacks}

-- The kind of an order.
abbrev pub kind_of : Order → Kind
kind_of (Model schemas) = Kind.Model
kind_of (Cycle next) = Kind.Cycle
kind_of (Restore version) = Kind.Restore
kind_of (Load version) = Kind.Load
kind_of (Step from to) = Kind.Step
kind_of (Index name paths) = Kind.Index
kind_of (Get name values) = Kind.Get
kind_of (Find name paths values) = Kind.Find
kind_of (Live name) = Kind.Live
kind_of (Row name ordinal) = Kind.Row
kind_of (Has name ordinal element) = Kind.Has
kind_of (At name ordinal key) = Kind.At
kind_of (Past name) = Kind.Past
kind_of (Check versions) = Kind.Check
kind_of Stat = Kind.Stat
kind_of (Grow schemas) = Kind.Grow
kind_of (Plan version) = Kind.Plan
kind_of (Goto version) = Kind.Goto
kind_of (Change change) = Kind.Change
kind_of (WalkIndex name path) = Kind.WalkIndex
kind_of (WalkFind name path value) = Kind.WalkFind
kind_of (History bound) = Kind.History
kind_of (Was version name ordinal) = Kind.Was
kind_of (WasGet version name values) = Kind.WasGet

-- What an order asks for.
abbrev pub asked_of : (order : Order) → (shape (kind_of order)).Asked
asked_of (Model schemas) = view schemas
asked_of (Cycle next) = asked_state next
asked_of (Restore version) = version
asked_of (Load version) = version
asked_of (Step from to) = (from, to)
asked_of (Index name paths) = (name, view paths)
asked_of (Get name values) = (name, view values)
asked_of (Find name paths values) = (name, view paths, view values)
asked_of (Live name) = name
asked_of (Row name ordinal) = (name, ordinal)
asked_of (Has name ordinal element) = (name, ordinal, element)
asked_of (At name ordinal key) = (name, ordinal, key)
asked_of (Past name) = name
asked_of (Check versions) = versions
asked_of Stat = tt
asked_of (Grow schemas) = view schemas
asked_of (Plan version) = version
asked_of (Goto version) = version
asked_of (Change change) = asked_change change
asked_of (WalkIndex name path) = (name, path)
asked_of (WalkFind name path value) = (name, path, view value)
asked_of (History bound) = bound
asked_of (Was version name ordinal) = (version, name, ordinal)
asked_of (WasGet version name values) = (version, name, view values)

-- An order as its kind and what it asks for.
pub record Asking : Type 0 where
  pub kind : Kind
  pub asked : (shape kind).Asked

abbrev pub asks : (kind : Kind) → (shape kind).Asked → Asking
asks kind asked = record { kind = kind; asked = asked }

abbrev pub asking : Order → Asking
asking order = asks (kind_of order) (asked_of order)

-- What stands in an order under its word.
abbrev pub content_of : Order → Data
content_of order = (shape (kind_of order)).spelling.spelled (asked_of order)

-- The JSON object of an order: it has one member.
abbrev pub order_data : Order → Data
order_data order = object (member (word_of_kind (kind_of order)) (content_of order) no_members)

-- The numbers of an order are in their ranges, and what stays JSON in it has its shape.
abbrev pub IsOrder : Order → Type 0
IsOrder order = (shape (kind_of order)).spelling.Fits (asked_of order)

-- What looking for an order of a kind in JSON answers: the one that asks for what the JSON spells, or why nothing is found that the kind can ask for.
abbrev pub FindsOrder : Kind → Data → Result Order OrderFault → Type 0
FindsOrder which json (Ok order) = IsOrder order × (kind_of order ≡ which) × (content_of order ≡ json)
FindsOrder which json (Err fault) = Lacks (shape which).spelling json fault

-- The line is one JSON value in UTF-8, which is that of the order.
abbrev pub Orders : List ℕ → Order → Type 0
Orders line order = IsOrder order × IsUtf8 line × (read line ≡ Some (order_data order))

-- What reading a line answers: an order that it is, or `BadOrder` exactly where it is none, unless memory is refused.
abbrev pub TellsOrder : List ℕ → Result Order OrderFault → Type 0
TellsOrder line (Ok order) = Orders line order
TellsOrder line (Err BadOrder) = (order : Order) → ¬ Orders line order
TellsOrder line (Err Memory) = Unit {0}

-- Want of memory may come in place of any answer.
abbrev pub IsFreeOrder : OrderFault → Type 0
IsFreeOrder BadOrder = ⊥
IsFreeOrder Memory = Unit {0}
