-- What a step needs to know of the position that it starts from.
use Rattle.std.specs.Prelude.{◌≡◌, length}
use Rattle.schema_model.specs.Model.{IsModel}
use Rattle.read_engine.specs.Position.{Position}

-- The schemas are a model, and each type has a half.
pub record HasTypes (position : Position) : Type 0 where
  pub model : IsModel position.schemas
  pub types : length position.halves ≡ length position.schemas
