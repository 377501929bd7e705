-- What the parts of a look-up tell: the paths of a key, and the rows that have it.
use Rattle.std.specs.Prelude.{◌≡◌, ℕ, List, Option, Some, Contains}
use Rattle.std.specs.List.{AllZip}
use Rattle.serde_json.specs.Data.{Data}
use Rattle.schema_model.specs.declared.model.path.Path.{Path}
use Rattle.row_model.specs.declared.row.Value.{Value}
use Rattle.schema_model.specs.declared.schema.name.Name.{Name}
use Rattle.schema_model.specs.declared.schema.Schema.{Schema}
use Rattle.row_model.specs.Key.{AreMatches}
use Rattle.schema_model.specs.Path.{Resolves}
use Rattle.json_values.specs.KeyFrom.{SpellsKey}
use Rattle.read_engine.specs.Indexes.{CountsKeyed, KeepsIndex, index_by}
use Rattle.read_engine.specs.Position.{Index, Position, rows_now}
use Rattle.hol_answers.specs.declared.refusal.Refusal.TheVariants.{BadKey, BadPath, NoIndex}
use Rattle.hol_answers.specs.declared.reply.Reply.{Reply}
use Rattle.hol_answers.specs.declared.reply.Reply.TheVariants as reply
use Rattle.hollow_machine.specs.IndexOrder.{RefusesIndex}
use Rattle.hollow_machine.specs.KeyOrders.{FindsUnder, LookUpRefusal}
use Rattle.hollow_machine.specs.KeyPaths.{AreKeyPaths, HasShape, IsFirstLost, IsObject, PathsRefusal}
use Rattle.consumer_orders.specs.declared.key_paths.KeyPaths.{KeyPaths}
use Rattle.consumer_orders.specs.declared.key_paths.KeyPaths.TheVariants as key_paths
use Rattle.consumer_orders.specs.declared.look_up.Found.{Found}
use Rattle.consumer_orders.specs.declared.look_up.Found.TheVariants as found

-- Each text resolves to its path from the type at an index, or one is the first that does not.
abbrev pub TellsResolved : List Schema → ℕ → List (List ℕ) → KeyPaths → Type 0
TellsResolved schemas type_index texts (key_paths.Resolved paths) = AllZip (λ text path. Resolves schemas type_index text path) texts paths
TellsResolved schemas type_index texts (key_paths.Refused (BadPath lost)) = IsFirstLost schemas type_index texts lost
TellsResolved schemas type_index texts (key_paths.Refused _) = ⊥

-- The paths of a key of the type at an index, which has this name, or why there are none.
abbrev pub TellsKeyPaths : List Schema → ℕ → Name → List (List ℕ) → KeyPaths → Type 0
TellsKeyPaths schemas type_index name texts (key_paths.Resolved paths) = HasShape IsObject schemas type_index × AreKeyPaths schemas type_index texts paths
TellsKeyPaths schemas type_index name texts (key_paths.Refused why) = PathsRefusal schemas type_index name texts why

-- The rows of the type at an index that have the key along resolved paths, or why none are looked up.
abbrev pub TellsAlong : List Path → Data → Position → ℕ → Found → Type 0
TellsAlong paths values now type_index (found.Ordinals ordinals) =
    Contains now.indexes (index_by type_index paths)
    × ((key : List Value) × SpellsKey now.schemas paths values key × AreMatches now.schemas (rows_now now) type_index paths key ordinals)
TellsAlong paths values now type_index (found.Refused NoIndex) = ¬ Contains now.indexes (index_by type_index paths)
TellsAlong paths values now type_index (found.Refused BadKey) =
    Contains now.indexes (index_by type_index paths) × ((key : List Value) → ¬ SpellsKey now.schemas paths values key)
TellsAlong paths values now type_index (found.Refused _) = ⊥

-- The rows of the type at an index, which has this name, that have the key, or why none are looked up.
abbrev pub TellsFound : Name → List (List ℕ) → Data → Position → ℕ → Found → Type 0
TellsFound name texts values now type_index (found.Ordinals ordinals) = FindsUnder texts values now type_index ordinals
TellsFound name texts values now type_index (found.Refused why) = LookUpRefusal name texts values now type_index why

-- The index of the type at an index, which has this name, that a position keeps from then on, or why it keeps none.
abbrev pub TellsKept : Name → List (List ℕ) → Position → ℕ → Option Position → Reply → Type 0
TellsKept name texts now type_index after (reply.Index keys) =
    HasShape IsObject now.schemas type_index
    × ((paths : List Path) × AreKeyPaths now.schemas type_index texts paths × CountsKeyed now (index_by type_index paths) keys
    × ((indexes : List Index) × KeepsIndex now.indexes (index_by type_index paths) indexes × (after ≡ Some (record now { indexes = indexes }))))
TellsKept name texts now type_index after (reply.Refused why) = RefusesIndex name texts now type_index why × (after ≡ Some now)
TellsKept name texts now type_index after _ = ⊥
