-- What the making of a model and the resolving of a path answer.
use Rattle.std.specs.Prelude.{◌≡◌, ℕ, List, Result, Ok, Err}
use Rattle.schema_model.specs.Model.{IsModel, IsFirstBroken}
use Rattle.schema_model.specs.Path.{Resolves}
use Rattle.schema_model.specs.WalkPath.{WalkResolves}
use Rattle.schema_model.specs.declared.model.faults.PathFault.{PathFault}
use Rattle.schema_model.specs.declared.model.faults.PathFault.TheVariants.{BadPath, Memory as Want}
use Rattle.schema_model.specs.declared.model.path.Path.{Path}
use Rattle.schema_model.specs.declared.model.walk_path.WalkPath.{WalkPath}
use Rattle.schema_model.specs.declared.schema.Schema.{Schema}
use Rattle.schema_model.specs.declared.model.faults.ModelFault.{ModelFault}
use Rattle.schema_model.specs.declared.model.faults.ModelFault.TheVariants.{Broken, Memory}

-- Want of memory may come in place of any answer.
abbrev pub IsFreeModel : ModelFault → Type 0
IsFreeModel (Broken rule t) = ⊥
IsFreeModel Memory = Unit {0}

-- What each fault tells of the schemas.
abbrev pub TellsFault : List Schema → ModelFault → Type 0
TellsFault schemas (Broken rule t) = IsFirstBroken schemas rule t
TellsFault schemas Memory = Unit {0}

-- What each answer tells of the schemas.
abbrev pub TellsModel : List Schema → Result (List Schema) ModelFault → Type 0
TellsModel schemas (Ok model) = (model ≡ schemas) × IsModel schemas
TellsModel schemas (Err fault) = TellsFault schemas fault

-- Want of memory may come in place of any answer.
abbrev pub IsFreePath : PathFault → Type 0
IsFreePath BadPath = ⊥
IsFreePath Want = Unit {0}

-- What each answer tells of a path's text.
abbrev pub TellsPath : List Schema → ℕ → List ℕ → Result Path PathFault → Type 0
TellsPath schemas t text (Ok path) = Resolves schemas t text path
TellsPath schemas t text (Err BadPath) = (path : Path) → ¬ Resolves schemas t text path
TellsPath schemas t text (Err Want) = Unit {0}

-- What each answer tells of a walk path's text.
abbrev pub TellsWalk : List Schema → ℕ → List ℕ → Result WalkPath PathFault → Type 0
TellsWalk schemas t text (Ok path) = WalkResolves schemas t text path
TellsWalk schemas t text (Err BadPath) = (path : WalkPath) → ¬ WalkResolves schemas t text path
TellsWalk schemas t text (Err Want) = Unit {0}
