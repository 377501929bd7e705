-- Where the bytes of a step lead a position.
use Rattle.std.specs.Prelude.{◌≡◌, ℕ, ℤ, List}
use Rattle.row_model.specs.Table.{Table}
use Rattle.read_engine.specs.Position.{Position, rows_now}
use Rattle.read_engine.specs.Taking.{StepsBy}

-- They lead it to a position with this tag and these rows.
abbrev pub LeadsTo : List ℕ → Position → ℤ → Table → Type 0
LeadsTo blob from tag rows = (to : Position) × StepsBy blob from to × (to.tag ≡ tag) × (rows_now to ≡ rows)
