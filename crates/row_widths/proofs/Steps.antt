-- Lemmas on the steps of a walk: what it has before it, before and after each.
use Rattle.std.proofs.Common.{◌≡◌, ◌+◌, ℕ, List, [], ◌∷◌, ◌++◌, Bool, true, false, Option, Some, None, sym, ap, ◌∙◌, subst, arith}
use Rattle.std.specs.Prelude.{if◌then◌else◌, Result, Ok, Err, IfOk}
use Rattle.std.specs.FinMap.{get}
use Rattle.std.specs.Option.{option_map}
use Rattle.row_model.specs.declared.row.Row.{Row}
use Rattle.row_model.specs.declared.lent.LentRow.{LentRow}
use Rattle.row_model.specs.Lent.{lent_row}
use Rattle.row_model.specs.Table.{Table, IsLive, row_at}
use Rattle.row_widths.specs.declared.row_walk.RowWalk.{RowWalk}
use Rattle.row_model.specs.BothStates.{rows_in, rows_added, rows_from}
use Rattle.row_widths.specs.Walk.{rows_left, Takes, TellsLive}
use Rattle.row_model.proofs.RowsFrom.{rows_skip, rows_take, rows_past, get_in, added_none, added_live, added_some}

module _ (old new : Table) (type_index : ℕ) where
  behind_old : (walk : RowWalk) → walk.in_new ≡ true → rows_left old new type_index walk ≡ rows_from walk.ordinal (rows_added old new type_index)
  behind_old walk e =
      ap (λ b. if b then rows_from walk.ordinal (rows_added old new type_index) else rows_from walk.ordinal (rows_in old type_index) ++ rows_from 0 (rows_added old new type_index)) e

  before_new : (walk : RowWalk) → walk.in_new ≡ false
      → rows_left old new type_index walk ≡ rows_from walk.ordinal (rows_in old type_index) ++ rows_from 0 (rows_added old new type_index)
  before_new walk e =
      ap (λ b. if b then rows_from walk.ordinal (rows_added old new type_index) else rows_from walk.ordinal (rows_in old type_index) ++ rows_from 0 (rows_added old new type_index)) e

  -- a row of the old state is taken
  pub took_old : (walk : RowWalk) (next : ℕ) (row : Row) → walk.in_new ≡ false → TellsLive old type_index walk.ordinal (Some next) → row_at old type_index next ≡ Some row
      → rows_left old new type_index walk ≡ row ∷ rows_left old new type_index (record { in_new = walk.in_new; ordinal = next + 1 })
  took_old walk next row first live is =
      let rows = rows_in old type_index in
      before_new walk first
      ∙ ap (λ (xs : List Row). xs ++ rows_from 0 (rows_added old new type_index))
      (rows_skip rows walk.ordinal next live.1 (λ q from before. get_in old type_index q ∙ live.3 q from before) ∙ rows_take rows next row (get_in old type_index next ∙ is))
      ∙ ap (λ (xs : List Row). row ∷ xs) (sym (before_new (record { in_new = walk.in_new; ordinal = next + 1 }) first))

  -- the rows of the old state are behind
  pub ended_old : (walk : RowWalk) → walk.in_new ≡ false → TellsLive old type_index walk.ordinal None
      → rows_left old new type_index walk ≡ rows_left old new type_index (record { in_new = true; ordinal = 0 })
  ended_old walk first none =
      before_new walk first
      ∙ ap (λ (xs : List Row). xs ++ rows_from 0 (rows_added old new type_index)) (rows_past (rows_in old type_index) walk.ordinal (λ q from. get_in old type_index q ∙ none q from))

  -- no row is added up to the next live ordinal
  added_skip : (from next : ℕ) → TellsLive new type_index from (Some next) → rows_from from (rows_added old new type_index) ≡ rows_from next (rows_added old new type_index)
  added_skip from next live = rows_skip (rows_added old new type_index) from next live.1 (λ q reached before. added_none old new type_index q (live.3 q reached before))

  -- a row that both states have is passed over
  pub passed_both : (from next : ℕ) → TellsLive new type_index from (Some next) → IsLive old type_index next
      → rows_from from (rows_added old new type_index) ≡ rows_from (next + 1) (rows_added old new type_index)
  passed_both from next live both =
      added_skip from next live
      ∙ rows_skip (rows_added old new type_index) next (next + 1) (omega arith)
      (λ q reached before. let same : next ≡ q = omega arith in subst (λ n. get (rows_added old new type_index) n ≡ None) same (added_live old new type_index next both))

  -- a row that is added is taken
  pub took_added : (walk : RowWalk) (from next : ℕ) (behind : Bool) (row : Row) → walk.in_new ≡ true → behind ≡ true
      → rows_from walk.ordinal (rows_added old new type_index) ≡ rows_from from (rows_added old new type_index)
      → TellsLive new type_index from (Some next) → (IsLive old type_index next → ⊥) → row_at new type_index next ≡ Some row
      → rows_left old new type_index walk ≡ row ∷ rows_left old new type_index (record { in_new = behind; ordinal = next + 1 })
  took_added walk from next behind row second still left live dead is =
      behind_old walk second
      ∙ left
      ∙ added_skip from next live
      ∙ rows_take (rows_added old new type_index) next row (added_some old new type_index next row dead is)
      ∙ ap (λ (xs : List Row). row ∷ xs) (sym (behind_old (record { in_new = behind; ordinal = next + 1 }) still))

  -- no row is left
  pub ended_added : (walk : RowWalk) (from : ℕ) → walk.in_new ≡ true → rows_from walk.ordinal (rows_added old new type_index) ≡ rows_from from (rows_added old new type_index)
      → TellsLive new type_index from None → rows_left old new type_index walk ≡ []
  ended_added walk from second left none =
      behind_old walk second ∙ left ∙ rows_past (rows_added old new type_index) from (λ q reached. added_none old new type_index q (none q reached))

-- what a step takes of rows that are the same
pub takes_same : {E : Type 0} (before middle after : List Row) (result : Result (Option LentRow) E) → before ≡ middle
    → IfOk result (λ next. Takes middle (option_map lent_row next) after) → IfOk result (λ next. Takes before (option_map lent_row next) after)
takes_same before middle after (Ok None) same h = same ∙ h
takes_same before middle after (Ok (Some lent)) same h = same ∙ h
takes_same before middle after (Err fault) same h = h
