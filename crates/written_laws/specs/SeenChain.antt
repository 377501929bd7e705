-- What the states of a chain are for a consumer, whose model may be another one than theirs.
use Rattle.std.specs.Prelude.{◌≡◌, ◌<◌, ℕ, List, Some, All, slice_get, take}
use Rattle.schema_model.specs.declared.limit.Limit.TheVariants.{Ordinals}
use Rattle.schema_model.specs.declared.schema.name.Name.{Name}
use Rattle.schema_model.specs.declared.schema.Schema.{Schema}
use Rattle.schema_model.specs.Limit.{number_of_limit}
use Rattle.row_model.specs.Table.{IsClosed, IsLive, IsTableOf, Table}
use Rattle.row_model.specs.View.{view}
use Rattle.blob_frame.specs.declared.header.Header.{Header}
use Rattle.delta_blob.specs.declared.part.DeltaPart.{DeltaPart}
use Rattle.delta_blob.specs.Patch.{AgreesWith, DeltaItems}
use Rattle.written_laws.specs.Chain.{ChainState, HoldsOnce}

-- what is seen of the rows of a state through a model
abbrev pub seen_in : List Schema → ChainState → Table
seen_in mine state = view mine state.model state.table

-- What is seen of a state through another model is a closed table of that model with no row twice, and keeps the limit on ordinals.
pub record IsGrownState (state : ChainState) (grown : List Schema) : Type 0 where
  pub rows : IsTableOf grown (seen_in grown state)
  pub closed : IsClosed grown (seen_in grown state)
  pub once : HoldsOnce (seen_in grown state)
  pub ordinals : (type_index ordinal : ℕ) → IsLive (seen_in grown state) type_index ordinal → ordinal < number_of_limit Ordinals

-- The blob has the items of a delta, and each of its types agrees with the model's of that name, if the model has one.
pub record IsAgreeing (mine : List Schema) (blob : List ℕ) : Type 0 where
  pub head : Header
  pub parts : List DeltaPart
  pub items : DeltaItems blob head parts
  pub agree : All (AgreesWith mine) parts

-- It has the items of a delta, and the first of its types that does not agree with the model's of its name has this one.
pub record IsUnlike (mine : List Schema) (blob : List ℕ) (type_name : Name) : Type 0 where
  pub head : Header
  pub parts : List DeltaPart
  pub items : DeltaItems blob head parts
  pub index : ℕ
  pub part : DeltaPart
  pub at : slice_get parts index ≡ Some part
  pub named : part.schema.name ≡ type_name
  pub earlier : All (AgreesWith mine) (take index parts)
  pub differs : AgreesWith mine part → ⊥
