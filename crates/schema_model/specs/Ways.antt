-- What the steps along a path rely on, and what they answer.
use Rattle.std.specs.Prelude.{◌≡◌, ◌++◌, ℕ, List, Option, Result, Ok, Err, Some, None, slice_get}
use Rattle.std.specs.BTreeMap.{BTreeMap}
use Rattle.std.specs.declared.alloc.Global.{Global}
use Rattle.std.specs.declared.string.String.{String}
use Rattle.schema_model.specs.declared.model.faults.PathFault.{PathFault}
use Rattle.schema_model.specs.declared.model.faults.PathFault.TheVariants.{BadPath as Bad, Memory as Want}
use Rattle.schema_model.specs.declared.model.rule.Rule.TheVariants.{TooMany, DuplicateName, TooDeep}
use Rattle.schema_model.specs.declared.model.walk_path.WalkPart.{WalkPart}
use Rattle.schema_model.specs.declared.schema.Field.{Field}
use Rattle.schema_model.specs.declared.schema.FieldKind.{FieldKind}
use Rattle.schema_model.specs.declared.schema.Schema.{Schema}
use Rattle.schema_model.specs.declared.schema.Shape.{Shape}
use Rattle.schema_model.specs.Model.{IsKept}
use Rattle.schema_model.specs.NameIndex.{Indexes}
use Rattle.schema_model.specs.Parts.{type_names}
use Rattle.schema_model.specs.Path.{RefersTo}
use Rattle.schema_model.specs.WalkPath.{part_name}

-- What a walk along a path relies on: an index of the types' names, and the rules that bound it.
pub record CanBeWalked (schemas : List Schema) (index : BTreeMap (String Global) ℕ) : Type 0 where
  pub indexed : Indexes (type_names schemas) index
  pub few : IsKept schemas TooMany
  pub apart : IsKept schemas DuplicateName
  pub shallow : IsKept schemas TooDeep

-- The place of the field of a name, if the fields have one.
abbrev pub TellsField : List Field → List ℕ → Option ℕ → Type 0
TellsField fields name (Some i) = (f : Field) × (slice_get fields i ≡ Some f) × (f.name ≡ name)
TellsField fields name None = (i : ℕ) (f : Field) → slice_get fields i ≡ Some f → f.name ≡ name → ⊥

-- The type that a field of this kind refers to, if it refers to one.
abbrev pub TellsReferred : List Schema → FieldKind → Option ℕ → Type 0
TellsReferred schemas kind (Some u) = RefersTo schemas kind u
TellsReferred schemas kind None = (u : ℕ) → ¬ RefersTo schemas kind u

-- The fields of a way were added, or there is no such way.
abbrev pub TellsWay : {I T : Type 0} → (List I → Type 0) → List I → List I → Result T PathFault → Type 0
TellsWay {I} way old new (Ok x) = (more : List I) × (new ≡ old ++ more) × way more
TellsWay {I} way old new (Err Bad) = (more : List I) → ¬ way more
TellsWay way old new (Err Want) = Unit {0}

-- These fields are a way, or there is none.
abbrev pub TellsFields : (List ℕ → Type 0) → Result (List ℕ) PathFault → Type 0
TellsFields way (Ok fields) = way fields
TellsFields way (Err Bad) = (fields : List ℕ) → ¬ way fields
TellsFields way (Err Want) = Unit {0}

-- These parts are a walk, or there is none.
abbrev pub TellsParts : (List WalkPart → Type 0) → Result (List WalkPart) PathFault → Type 0
TellsParts walk (Ok parts) = walk parts
TellsParts walk (Err Bad) = (parts : List WalkPart) → ¬ walk parts
TellsParts walk (Err Want) = Unit {0}

-- The part of a name, if a type of this shape has one.
abbrev pub TellsPart : Shape → List ℕ → Option WalkPart → Type 0
TellsPart shape name (Some part) = part_name shape part ≡ Some name
TellsPart shape name None = (part : WalkPart) → part_name shape part ≡ Some name → ⊥
