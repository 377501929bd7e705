-- How a consumer comes to have its state afresh, with the same indexes and walk indexes: by a load, and by an order for each of them.
use Rattle.std.specs.Prelude.{◌≡◌, ℕ, List, [], ◌∷◌}
use Rattle.std.specs.List.{AllZip}
use Rattle.schema_model.specs.declared.model.walk_path.WalkPath.{WalkPath}
use Rattle.schema_model.specs.declared.schema.name.Name.{Name}
use Rattle.schema_model.specs.declared.schema.Schema.{Schema}
use Rattle.hol_answers.specs.declared.reply.Reply.TheVariants as reply
use Rattle.read_engine.specs.Position.{Index}
use Rattle.hollow_machine.specs.IndexOrder.{IndexStep}
use Rattle.hollow_machine.specs.State.{Machine}
use Rattle.hollow_machine.specs.WalkOrders.{WalkIndexStep}
use Rattle.chain_laws.specs.KeptIndexes.{AsksFor}
use Rattle.chain_laws.specs.KeptWalks.{AsksForWalk}

-- Names, each with texts, ask for these indexes, in their order.
abbrev pub AskForAll : List Schema → List (Name × List (List ℕ)) → List Index → Type 0
AskForAll schemas asked indexes = AllZip (λ (pair : Name × List (List ℕ)) index. AsksFor schemas pair.0 pair.1 index) asked indexes

-- The orders `index` of these names and texts are answered one after another, none is refused, and this is the machine behind the last.
abbrev pub AreAdded : Machine → List (Name × List (List ℕ)) → Machine → Type 0
AreAdded machine [] next = next ≡ machine
AreAdded machine (first ∷ asked) next =
    (keys : ℕ) × (between : Machine) × IndexStep machine first.0 first.1 (reply.Index keys) between × AreAdded between asked next

-- Names, each with a text, ask for these walk indexes, in their order.
abbrev pub AskForWalks : List Schema → List (Name × List ℕ) → List WalkPath → Type 0
AskForWalks schemas asked walks = AllZip (λ (pair : Name × List ℕ) path. AsksForWalk schemas pair.0 pair.1 path) asked walks

-- The orders `walkindex` of these names and texts are answered one after another, none is refused, and this is the machine behind the last.
abbrev pub AreWalksAdded : Machine → List (Name × List ℕ) → Machine → Type 0
AreWalksAdded machine [] next = next ≡ machine
AreWalksAdded machine (first ∷ asked) next =
    (keys : ℕ) × (between : Machine) × WalkIndexStep machine first.0 first.1 (reply.WalkIndex keys) between × AreWalksAdded between asked next
