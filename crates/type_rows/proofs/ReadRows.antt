-- A place that can be read spells the row that is computed, or fails for one reason.
use Rattle.std.proofs.Common.{◌≡◌, ◌⊎◌, inl, inr, ℕ, zero, suc, ◌-◌, ◌*◌, ◌^◌, ◌<◌, ◌≤◌, List, [], ◌∷◌, length, sum, Option, None, Some, refl, sym, subst, arith}
use Rattle.std.specs.Prelude.{All, Any}
use Rattle.std.proofs.lemmas.List.Elements.{All-cons, All-nil}
use Rattle.schema_model.specs.declared.reason.Reason.{Reason}
use Rattle.schema_model.specs.declared.schema.Field.{Field}
use Rattle.schema_model.specs.declared.schema.Shape.{Shape}
use Rattle.row_model.specs.declared.row.Row.{Row}
use Rattle.list_codec.specs.ListPlace.{FailsListRow, HasElements, SpellsListRow, IsPastOrdinals, element_width, elements_at, start_at as list_start, end_at as list_end}
use Rattle.object_codec.proofs.Rows.{reason_once as object_reason, row_or_reason as object_apart}
use Rattle.bucket_codec.proofs.PlaceRows.{reason_once as bucket_reason, row_or_reason as bucket_apart}
use Rattle.type_rows.specs.Layout.{places_of}
use Rattle.type_rows.specs.Loads.{Spells}
use Rattle.type_rows.specs.WellFormed.{AreWidths, IsWellFormed}
use Rattle.type_rows.specs.declared.section.Section.{Section}
use Rattle.type_rows.specs.Fails.{Fails, SpellsOrFails}
use Rattle.type_rows.specs.Rows.{pairs_at}
use Rattle.type_rows.proofs.Deciding.{HoldsOrNot, at_most_or_not, both_hold}
use Rattle.type_rows.proofs.ReadRuns.{pairs_or_fail}
use Rattle.type_rows.proofs.ReadValues.{record_or_fails}
use Rattle.type_rows.proofs.Rows.{spelled}

-- What a place spells is what is computed of it.
spells_computed : (shape : Shape) (section : Section) (place : ℕ) (row : Row) → Spells shape section place row → SpellsOrFails shape section place
spells_computed shape section place row h = inl (subst (Spells shape section place) (sym (spelled shape section place row h)) h)

-- ---- records

record_read : (key : Option (List (List ℕ))) (fields : List Field) (section : Section) (place : ℕ) (max : Option ℕ) → max ≡ section.max → IsWellFormed (Shape.Object key fields) section → place < places_of max
    → SpellsOrFails (Shape.Object key fields) section place
record_read key fields section place None is well below = absurd (omega (arith, below))
record_read key fields section place (Some max) is well below =
    elim (record_or_fails max fields section.widths section.first section.areas (sum section.widths) place 0 (subst (λ m. AreWidths (Shape.Object key fields) m section.widths) (sym is) well.wide) well.filled) [
      | inl given ↦ spells_computed (Shape.Object key fields) section place (Row.Object given.0) given.1
      | inr bad ↦ inr bad
    ]

-- ---- lists

elements_or_not : (widths : List ℕ) (total : ℕ) (first second : List ℕ) (place : ℕ) → HoldsOrNot (HasElements widths total first second place)
elements_or_not widths total first second place =
    elim (both_hold (at_most_or_not (list_start widths first place) (list_end widths first place))
    (both_hold (at_most_or_not (list_end widths first place) total) (at_most_or_not (list_end widths first place * element_width widths) (64 * length second)))) [
      | inl h ↦ inl (record { rises = h.0; within = h.1.0; held = h.1.1 })
      | inr against ↦ inr (λ has. against (has.rises, (has.within, has.held)))
    ]

past_later : (element : ℕ) (elements : List ℕ) → Any IsPastOrdinals elements → Any IsPastOrdinals (element ∷ elements)
past_later element elements (k, d, below, is, past) = (suc k, d, omega (arith, below), is, past)

small_or_past : (elements : List ℕ) → All (λ ordinal. ordinal ≤ 2 ^ 32 - 1) elements ⊎ Any IsPastOrdinals elements
small_or_past [] = inl (All-nil (λ ordinal. ordinal ≤ 2 ^ 32 - 1))
small_or_past (element ∷ elements) = elim (at_most_or_not element (2 ^ 32 - 1)) [
  | inr great ↦ inr (zero, element, omega arith, refl, omega (arith, great))
  | inl small ↦ elim (small_or_past elements) [
    | inl all ↦ inl (All-cons (λ ordinal. ordinal ≤ 2 ^ 32 - 1) element elements small all)
    | inr past ↦ inr (past_later element elements past)
  ]
]

list_read : (element : List ℕ) (section : Section) (place : ℕ) → SpellsOrFails (Shape.List element) section place
list_read element section place = elim (elements_or_not section.widths section.total section.first section.second place) [
  | inr bad ↦ inr (Reason.BadPointers, bad)
  | inl has ↦ elim (small_or_past (elements_at section.widths section.first section.second place)) [
    | inl small ↦ inl (record { has = has; are = refl; small = small })
    | inr past ↦ inr (Reason.BadValue, (has, past))
  ]
]

-- ---- sets and maps

set_read : (element : List ℕ) (section : Section) (place : ℕ) → SpellsOrFails (Shape.Set element) section place
set_read element section place = elim (pairs_or_fail section place) [ inl h ↦ inl (pairs_at section place, refl, h) | inr bad ↦ inr bad ]

map_read : (key value : List ℕ) (section : Section) (place : ℕ) → SpellsOrFails (Shape.Map key value) section place
map_read key value section place = elim (pairs_or_fail section place) [ inl h ↦ inl (pairs_at section place, refl, h) | inr bad ↦ inr bad ]

pub place_read : (shape : Shape) (section : Section) (place : ℕ) → IsWellFormed shape section → place < places_of section.max → SpellsOrFails shape section place
place_read (Shape.Object key fields) section place well below = record_read key fields section place section.max refl well below
place_read (Shape.List element) section place well below = list_read element section place
place_read (Shape.Set element) section place well below = set_read element section place
place_read (Shape.Map key value) section place well below = map_read key value section place

-- ---- one reason, and no row beside it

pub reason_once : (shape : Shape) (section : Section) (place : ℕ) (a b : Reason)
    → ((widths : List ℕ) (total : ℕ) (first second : List ℕ) (place : ℕ) (a b : Reason) → FailsListRow widths total first second place a → FailsListRow widths total first second place b → a ≡ b)
    → Fails shape section place a → Fails shape section place b → a ≡ b
reason_once (Shape.Object key fields) section place a b list h k = object_reason (Shape.Object key fields) section.widths section.first section.areas place a b h k
reason_once (Shape.List element) section place a b list h k = list section.widths section.total section.first section.second place a b h k
reason_once (Shape.Set element) section place a b list h k = bucket_reason section.widths section.total section.first section.second place a b h k
reason_once (Shape.Map key value) section place a b list h k = bucket_reason section.widths section.total section.first section.second place a b h k

pub row_or_reason : (shape : Shape) (section : Section) (place : ℕ) (row : Row) (reason : Reason)
    → ((widths : List ℕ) (total : ℕ) (first second : List ℕ) (place : ℕ) (row : Row) (reason : Reason) → SpellsListRow widths total first second place row → FailsListRow widths total first second place reason → ⊥)
    → Spells shape section place row → Fails shape section place reason → ⊥
row_or_reason (Shape.Object key fields) section place row reason list h k = object_apart (Shape.Object key fields) section.widths section.first section.areas place row reason h k
row_or_reason (Shape.List element) section place row reason list h k = list section.widths section.total section.first section.second place row reason h k
row_or_reason (Shape.Set element) section place row reason list h k = bucket_apart (Shape.Set element) section.widths section.total section.first section.second place row reason h k
row_or_reason (Shape.Map key value) section place row reason list h k = bucket_apart (Shape.Map key value) section.widths section.total section.first section.second place row reason h k
