-- What a consumer sees of a state of a chain.
use Rattle.std.proofs.Common.{◌≡◌, ℕ, List}
use Rattle.schema_model.specs.declared.model.rule.Rule.TheVariants.{DuplicateName}
use Rattle.schema_model.specs.declared.schema.Schema.{Schema}
use Rattle.schema_model.specs.Growth.{ModelsAgree}
use Rattle.schema_model.specs.Model.{IsModel}
use Rattle.schema_growth.proofs.Growths.{models_agree_back}
use Rattle.row_model.specs.Table.{IsClosed, IsTableOf}
use Rattle.seen_rows.proofs.Views.{own_view}
use Rattle.written_laws.specs.Chain.{Chain, ChainState, HasVersion, IsChain}
use Rattle.written_laws.specs.Quiet.{IsQuiet}
use Rattle.written_laws.specs.SeenChain.{seen_in}
use Rattle.written_laws.proofs.QuietRows.{models_quiet, own_quiet, quiet_closed, quiet_table}

pub seen_table : (chain : Chain) (mine : List Schema) (version : ℕ) (state : ChainState) → IsChain chain → HasVersion chain version state → IsQuiet mine state → IsTableOf mine (seen_in mine state)
seen_table chain mine version state is there quiet = let sound = is.sound version state there in quiet_table state.model mine state.table (sound.model DuplicateName) sound.rows quiet

pub seen_closed : (chain : Chain) (mine : List Schema) (version : ℕ) (state : ChainState) → IsChain chain → HasVersion chain version state → IsModel mine → IsQuiet mine state → IsClosed mine (seen_in mine state)
seen_closed chain mine version state is there model quiet = let sound = is.sound version state there in quiet_closed state.model mine state.table sound.model model sound.rows sound.closed quiet

pub seen_quiet : (chain : Chain) (mine : List Schema) (version : ℕ) (state : ChainState) → IsChain chain → HasVersion chain version state → ModelsAgree mine state.model → IsQuiet mine state
seen_quiet chain mine version state is there agree = models_quiet state.model mine state.table (is.sound version state there).rows (models_agree_back mine state.model agree)

-- through its own model it is seen as it is
pub own_seen : (chain : Chain) (version : ℕ) (state : ChainState) → IsChain chain → HasVersion chain version state → seen_in state.model state ≡ state.table
own_seen chain version state is there = let sound = is.sound version state there in own_view state.model state.table sound.model sound.rows

pub quiet_itself : (chain : Chain) (version : ℕ) (state : ChainState) → IsChain chain → HasVersion chain version state → IsQuiet state.model state
quiet_itself chain version state is there = let sound = is.sound version state there in own_quiet state.model state.table sound.model sound.rows
