-- Where two states differ: at the place that three steps find, the first of them that finds something, and at none where they are the same. The rows of the
-- fresh state are seen through the model of the walked one.
use Rattle.std.specs.Prelude.{◌≡◌, ◌≢◌, ◌<◌, ◌⊎◌, ℕ, ℤ, List, Option, None, Some, slice_get}
use Rattle.schema_model.specs.declared.schema.Schema.{Schema}
use Rattle.schema_model.specs.Growth.{Agree, ModelsAgree}
use Rattle.row_model.specs.Table.{Table, row_at}
use Rattle.row_model.specs.View.{view}
use Rattle.chain_check.specs.declared.place.Place.{Place}
use Rattle.chain_check.specs.declared.place.RowPlace.{RowPlace}

-- What is compared of a state: its tag, its model, and the rows of each type.
pub record State : Type 0 where
  pub tag : ℤ
  pub schemas : List Schema
  pub table : Table

-- The rows of a state, seen through the model of another one.
abbrev pub seen_by : State → State → Table
seen_by walked fresh = view walked.schemas fresh.schemas fresh.table

-- The least number of which a fact holds.
pub record IsFirst (Holds : ℕ → Type 0) (number : ℕ) : Type 0 where
  pub holds : Holds number
  pub least : (earlier : ℕ) → earlier < number → ¬ Holds earlier

-- The fresh model too has the type at an index of the walked one, under a schema that does not agree.
pub record Disagrees (walked fresh : List Schema) (type_index : ℕ) : Type 0 where
  pub schema : Schema
  pub there : slice_get walked type_index ≡ Some schema
  pub place : ℕ
  pub other : Schema
  pub here : slice_get fresh place ≡ Some other
  pub named : schema.name ≡ other.name
  pub apart : ¬ Agree schema other

-- The first type of the walked model under whose name the fresh one has a schema that does not agree.
pub record IsFirstApart (walked fresh : List Schema) (schema : Schema) : Type 0 where
  pub type_index : ℕ
  pub there : slice_get walked type_index ≡ Some schema
  pub first : IsFirst (Disagrees walked fresh) type_index

-- The schema of the first type in which two models do not agree. There is none where they agree.
abbrev pub FirstOtherType : List Schema → List Schema → Option Schema → Type 0
FirstOtherType walked fresh None = ModelsAgree walked fresh
FirstOtherType walked fresh (Some schema) = IsFirstApart walked fresh schema

-- The rows of a type under an ordinal differ, or one of them is missing.
abbrev pub IsOtherRow : Table → Table → ℕ → ℕ → Type 0
IsOtherRow walked fresh type_index ordinal = row_at walked type_index ordinal ≢ row_at fresh type_index ordinal

-- Some rows of a type differ.
abbrev pub HasOtherRow : Table → Table → ℕ → Type 0
HasOtherRow walked fresh type_index = (ordinal : ℕ) × IsOtherRow walked fresh type_index ordinal

-- The rows under this ordinal of this type are the first that differ.
pub record IsFirstOtherRow (walked fresh : Table) (place : RowPlace) : Type 0 where
  pub of_types : IsFirst (HasOtherRow walked fresh) place.type_index
  pub of_ordinals : IsFirst (IsOtherRow walked fresh place.type_index) place.ordinal

-- The place of the first rows that differ. There is none where the tables are the same.
abbrev pub FirstOtherRow : Table → Table → Option RowPlace → Type 0
FirstOtherRow walked fresh None = walked ≡ fresh
FirstOtherRow walked fresh (Some place) = IsFirstOtherRow walked fresh place

-- The place that names no type and no ordinal.
abbrev pub nowhere : Place
nowhere = record { type_name = None; ordinal = None }

-- The first step: the tags differ.
pub record AtTags (walked fresh : State) (place : Place) : Type 0 where
  pub tags : walked.tag ≢ fresh.tag
  pub is : place ≡ nowhere

-- The second step: the tags are the same, and a type is in both models under schemas that do not agree.
pub record AtModels (walked fresh : State) (place : Place) : Type 0 where
  pub tags : walked.tag ≡ fresh.tag
  pub schema : Schema
  pub first : FirstOtherType walked.schemas fresh.schemas (Some schema)
  pub is : place ≡ record { type_name = Some schema.name; ordinal = None }

-- The third step: the tags are the same and the models agree, and rows differ.
pub record AtRows (walked fresh : State) (place : Place) : Type 0 where
  pub tags : walked.tag ≡ fresh.tag
  pub models : ModelsAgree walked.schemas fresh.schemas
  pub at : RowPlace
  pub first : IsFirstOtherRow walked.table (seen_by walked fresh) at
  pub schema : Schema
  pub there : slice_get walked.schemas at.type_index ≡ Some schema
  pub is : place ≡ record { type_name = Some schema.name; ordinal = Some at.ordinal }

-- The walked state is the fresh one, as its model sees it.
pub record AreSame (walked fresh : State) : Type 0 where
  pub tags : walked.tag ≡ fresh.tag
  pub models : ModelsAgree walked.schemas fresh.schemas
  pub rows : walked.table ≡ seen_by walked fresh

-- What the comparison of two states gives: none where they are the same, and else the place of the first step that finds something.
abbrev pub Compare : State → State → Option Place → Type 0
Compare walked fresh None = AreSame walked fresh
Compare walked fresh (Some place) = AtTags walked fresh place ⊎ (AtModels walked fresh place ⊎ AtRows walked fresh place)

-- The place of the row at a place of a model's types; none where there is none.
abbrev pub IsPlaceOf : List Schema → Option RowPlace → Option Place → Type 0
IsPlaceOf schemas None place = place ≡ None
IsPlaceOf schemas (Some at) place = (schema : Schema) × (slice_get schemas at.type_index ≡ Some schema) × (place ≡ Some (record { type_name = Some schema.name; ordinal = Some at.ordinal }))

-- The same of a search among the rows of one type.
abbrev pub FirstOtherOrdinal : Table → Table → ℕ → Option ℕ → Type 0
FirstOtherOrdinal walked fresh type_index None = (ordinal : ℕ) → row_at walked type_index ordinal ≡ row_at fresh type_index ordinal
FirstOtherOrdinal walked fresh type_index (Some ordinal) = IsFirst (IsOtherRow walked fresh type_index) ordinal
