-- The order `index`: what it answers, and the machine behind it.
use Rattle.std.specs.Prelude.{◌≡◌, ℕ, List, Option, Some, None, IsSomeAnd}
use Rattle.serde_json.specs.Data.{Data}
use Rattle.schema_model.specs.declared.limit.Limit.TheVariants.{Indexes}
use Rattle.schema_model.specs.declared.model.path.Path.{Path}
use Rattle.schema_model.specs.declared.schema.name.Name.{Name}
use Rattle.schema_model.specs.Parts.{index_of_type}
use Rattle.read_engine.specs.Indexes.{CountsKeyed, HasNoRoom, KeepsIndex, index_by}
use Rattle.read_engine.specs.Position.{Index, Position}
use Rattle.hol_answers.specs.declared.refusal.Refusal.{Refusal}
use Rattle.hol_answers.specs.declared.refusal.Refusal.TheVariants.{NoState, NoType, TooLarge}
use Rattle.hol_answers.specs.declared.reply.Reply.{Reply}
use Rattle.hol_answers.specs.declared.reply.Reply.TheVariants as reply
use Rattle.hollow_machine.specs.KeyPaths.{AreKeyPaths, HasShape, IsObject, PathsRefusal, texts_of_array}
use Rattle.hollow_machine.specs.State.{Machine, with_consumer}
use Rattle.hollow_machine.specs.Forms.{OrderForm, moving}

-- Why no index of the type at an index is kept: there is no such key; or there is no room.
abbrev pub RefusesIndex : Name → List (List ℕ) → Position → ℕ → Refusal → Type 0
RefusesIndex name texts now type_index (TooLarge Indexes) =
    HasShape IsObject now.schemas type_index × ((paths : List Path) × AreKeyPaths now.schemas type_index texts paths × HasNoRoom now (index_by type_index paths))
RefusesIndex name texts now type_index refusal = PathsRefusal now.schemas type_index name texts refusal

-- Why the order is refused: the consumer has no state, its model has no such type, or what there is to the type.
abbrev pub IndexRefusal : Option Position → Name → List (List ℕ) → Refusal → Type 0
IndexRefusal consumer name texts NoState = consumer ≡ None
IndexRefusal consumer name texts (NoType other) = IsSomeAnd consumer (λ now. (index_of_type now.schemas name ≡ None) × (other ≡ name))
IndexRefusal consumer name texts refusal =
    IsSomeAnd consumer (λ now. IsSomeAnd (index_of_type now.schemas name) (λ t. RefusesIndex name texts now t refusal))

-- The consumer keeps the index of the type by the paths, and so many live rows have a key; or the order is refused and all stays.
abbrev pub IndexStep : Machine → Name → List (List ℕ) → Reply → Machine → Type 0
IndexStep machine name texts (reply.Index keys) next =
    IsSomeAnd machine.consumer (λ now. IsSomeAnd (index_of_type now.schemas name) (λ type_index. HasShape IsObject now.schemas type_index
    × ((paths : List Path) × AreKeyPaths now.schemas type_index texts paths × CountsKeyed now (index_by type_index paths) keys
    × ((after : List Index) × KeepsIndex now.indexes (index_by type_index paths) after × (next ≡ with_consumer machine (Some (record now { indexes = after })))))))
IndexStep machine name texts (reply.Refused refusal) next = IndexRefusal machine.consumer name texts refusal × (next ≡ machine)
IndexStep machine name texts _ next = ⊥

abbrev pub index_form : OrderForm (Name × Data)
index_form = moving (λ machine asked reply next. IndexStep machine asked.0 (texts_of_array asked.1) reply next)
