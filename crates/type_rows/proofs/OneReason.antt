-- Why a place spells no row: for one reason, and only where it spells none.
use Rattle.std.proofs.Common.{◌≡◌, ◌≤◌, ◌-◌, ◌^◌, ℕ, List, refl, subst, arith}
use Rattle.std.specs.Prelude.{Any, All}
use Rattle.schema_model.specs.declared.schema.Shape.{Shape}
use Rattle.schema_model.specs.declared.reason.Reason.{Reason}
use Rattle.row_model.specs.declared.row.Row.{Row}
use Rattle.list_codec.specs.ListPlace.{FailsListRow, SpellsListRow, IsPastOrdinals, elements_at}
use Rattle.object_codec.proofs.Rows as records
use Rattle.bucket_codec.proofs.PlaceRows as buckets
use Rattle.type_rows.specs.declared.section.Section.{Section}
use Rattle.type_rows.specs.Loads.{Spells}
use Rattle.type_rows.specs.Fails.{Fails}

list_reason_once : (widths : List ℕ) (total : ℕ) (first second : List ℕ) (place : ℕ) (a b : Reason) → FailsListRow widths total first second place a → FailsListRow widths total first second place b → a ≡ b
list_reason_once widths total first second place Reason.BadPointers Reason.BadPointers f g = refl
list_reason_once widths total first second place Reason.BadPointers Reason.BadValue f g = absurd (f g.0)
list_reason_once widths total first second place Reason.BadValue Reason.BadPointers f g = absurd (g f.0)
list_reason_once widths total first second place Reason.BadValue Reason.BadValue f g = refl
list_reason_once widths total first second place Reason.BadPointers _ f g = absurd g
list_reason_once widths total first second place Reason.BadValue _ f g = absurd g
list_reason_once widths total first second place _ _ f g = absurd f

-- A place fails for one reason.
pub reason_once : (shape : Shape) (section : Section) (place : ℕ) (a b : Reason) → Fails shape section place a → Fails shape section place b → a ≡ b
reason_once (Shape.Object key fields) section place a b f g = records.reason_once (Shape.Object key fields) section.widths section.first section.areas place a b f g
reason_once (Shape.List element) section place a b f g = list_reason_once section.widths section.total section.first section.second place a b f g
reason_once (Shape.Set element) section place a b f g = buckets.reason_once section.widths section.total section.first section.second place a b f g
reason_once (Shape.Map key value) section place a b f g = buckets.reason_once section.widths section.total section.first section.second place a b f g

none_past : (elements : List ℕ) → All (λ ordinal. ordinal ≤ 2 ^ 32 - 1) elements → Any IsPastOrdinals elements → ⊥
none_past elements small (index, element, below, is, past) = omega (arith, past, subst (λ n. n ≤ 2 ^ 32 - 1) is (small index element below))

list_row_or_reason : (widths : List ℕ) (total : ℕ) (first second : List ℕ) (place : ℕ) (row : Row) (reason : Reason) → SpellsListRow widths total first second place row → FailsListRow widths total first second place reason → ⊥
list_row_or_reason widths total first second place (Row.List ordinals) Reason.BadPointers spells fails = fails spells.has
list_row_or_reason widths total first second place (Row.List ordinals) Reason.BadValue spells fails =
    none_past (elements_at widths first second place) (subst (λ list. All (λ ordinal. ordinal ≤ 2 ^ 32 - 1) list) spells.are spells.small) fails.1
list_row_or_reason widths total first second place (Row.List ordinals) _ spells fails = absurd fails
list_row_or_reason widths total first second place _ reason spells fails = absurd spells

-- A place spells a row or fails, and not both.
pub row_or_reason : (shape : Shape) (section : Section) (place : ℕ) (row : Row) (reason : Reason) → Spells shape section place row → Fails shape section place reason → ⊥
row_or_reason (Shape.Object key fields) section place row reason s f = records.row_or_reason (Shape.Object key fields) section.widths section.first section.areas place row reason s f
row_or_reason (Shape.List element) section place row reason s f = list_row_or_reason section.widths section.total section.first section.second place row reason s f
row_or_reason (Shape.Set element) section place row reason s f = buckets.row_or_reason (Shape.Set element) section.widths section.total section.first section.second place row reason s f
row_or_reason (Shape.Map key value) section place row reason s f = buckets.row_or_reason (Shape.Map key value) section.widths section.total section.first section.second place row reason s f
