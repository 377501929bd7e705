-- The ordinals that left in the last step.
use Rattle.std.proofs.Common.{◌≡◌, ◌<◌, ℕ, ℤ, List, length, get_or, Some, sym, ◌∙◌, subst, arith}
use Rattle.std.specs.Prelude.{IsSome, slice_get}
use Rattle.std.specs.FinMap.{empty}
use Rattle.std.proofs.lemmas.List.Kept.{AllPairs-from_increasing}
use Rattle.std.proofs.lemmas.Option.{slice_get-get_or}
use Rattle.schema_model.specs.declared.schema.Schema.{Schema}
use Rattle.row_model.specs.Table.{RowMap}
use Rattle.type_state.specs.State.{State}
use Rattle.type_state.specs.Views.{table_of}
use Rattle.key_index.specs.Indexed.{Indexed}
use Rattle.hol_paths.specs.Walked.{Walked}
use Rattle.row_model.specs.Before.{FitsPast, PastPart, rows_before}
use Rattle.read_engine.specs.Gone.{AreGone}
use Rattle.read_engine.specs.Position.{Position, rows_now}
use Rattle.state_moves.specs.Halves.{current_halves}
use Rattle.read_engine.specs.Standing.{IsStanding, position_of}
use Rattle.state_moves.proofs.Came.{left_is_gone}
use Rattle.state_moves.proofs.Tables.{before_at, fits_at, past_length, row_of}

pub are_gone : (position : Position) (type_index : ℕ) (rows : RowMap) (part : PastPart) → slice_get (rows_now position) type_index ≡ Some rows → slice_get position.before type_index ≡ Some (rows_before rows part) → FitsPast rows part
    → AreGone position type_index part.gone
are_gone position t rows part now before fits = record {
  rising = AllPairs-from_increasing part.gone fits.gone_rise;
  are = λ o.
      let both = left_is_gone rows part o fits in
      let was = row_of position.before t o (rows_before rows part) before in
      let is = row_of (rows_now position) t o rows now in (
        λ among. (subst IsSome (sym was) (both.0 among).0, λ live. (both.0 among).1 (subst IsSome is live)),
        λ left. both.1 (subst IsSome was left.0, λ live. left.1 (subst IsSome (sym is) live)),
      );
}

-- how many parts are kept
pub kept_length : (tag : ℤ) (schemas : List Schema) (states : List State) (past : List PastPart) (indexes : List Indexed) (walks : List Walked) → IsStanding tag schemas states past indexes walks → length past ≡ length schemas
kept_length tag schemas states past indexes walks stands =
    past_length (table_of (current_halves states)) past stands.fits
    ∙ stands.position.rows.types

pub gone_in : (tag : ℤ) (schemas : List Schema) (states : List State) (past : List PastPart) (indexes : List Indexed) (walks : List Walked) (t : ℕ) (part : PastPart) → IsStanding tag schemas states past indexes walks → t < length schemas → slice_get past t ≡ Some part
    → AreGone (position_of tag schemas states past indexes walks) t part.gone
gone_in tag schemas states past indexes walks t part stands known there =
    let table = table_of (current_halves states) in
    let rows = get_or table t empty in
    let is : slice_get table t ≡ Some rows = slice_get-get_or table t empty (omega (arith, known, stands.position.rows.types)) in
    are_gone (position_of tag schemas states past indexes walks) t rows part is (before_at table past t rows part is there) (fits_at table past t rows part stands.fits is there)
