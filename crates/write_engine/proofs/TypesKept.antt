-- What the types of a cycle pass, and what can be written where they keep all.
use Rattle.std.proofs.Common.{◌≡◌, ℕ, ◌+◌, ◌<◌, ◌^◌, true, false, List, [], length, Option, Some, None, inl, inr, sym, subst}
use Rattle.std.specs.Prelude.{slice_get, is_some, option_and_then, IsSome}
use Rattle.std.specs.List.{AllZip, range_with_len}
use Rattle.std.specs.Option.{unwrap_or}
use Rattle.std.specs.FinMap.{get, empty}
use Rattle.std.proofs.lemmas.Bool.{false≢true}
use Rattle.row_model.specs.declared.row.Row.{Row}
use Rattle.schema_model.specs.declared.limit.Limit.{Limit}
use Rattle.schema_model.specs.declared.schema.Schema.{Schema}
use Rattle.schema_model.specs.declared.schema.Shape.{Shape}
use Rattle.row_model.specs.Table.{RowMap, Table}
use Rattle.row_packing.specs.declared.measured.Measured.{Measured}
use Rattle.row_packing.specs.Measured.{IsMeasured, AreMeasured}
use Rattle.row_packing.specs.Chosen.{IsLiveInEither, KeepsCounts, shape_at}
use Rattle.row_packing.specs.Places.{Agree}
use Rattle.row_packing.specs.States.{AreWritable}
use Rattle.row_packing.specs.TypeLimit.{TellsLimit}
use Rattle.row_packing.proofs.ByType.{as_many, of_type}
use Rattle.row_packing.proofs.EitherWay.{agree_back, keeps_back}
use Rattle.row_packing.proofs.Suiting.{shape_is}
use Rattle.row_packing.proofs.TypeLimits.{counts_kept}
use Rattle.write_engine.specs.Agreement.{TablesAgree}
use Rattle.write_engine.specs.CycleLimit.{TellsTypes}
use Rattle.write_engine.proofs.Changes.{below_or}

-- ---- the two tables agree in each type

get_in : (found : Option RowMap) (o : ℕ) (row : Row) → option_and_then (λ rows. get rows o) found ≡ Some row → get (unwrap_or found empty) o ≡ Some row
get_in None o row is = absurd cc
get_in (Some rows) o row is = is

live_in : (found : Option RowMap) (o : ℕ) → IsSome (option_and_then (λ rows. get rows o) found) → IsSome (get (unwrap_or found empty) o)
live_in None o live = absurd (false≢true live)
live_in (Some rows) o live = live

module _ (previous current : Table) (agree : TablesAgree previous current) (t : ℕ) where
  pub type_agrees : Agree previous current t
  type_agrees o a b was is = (agree t).one_row o a b (inl (get_in (slice_get previous t) o a was)) (inr (get_in (slice_get current t) o b is))

  pub type_low : (o : ℕ) → IsLiveInEither previous current t o → o < 2 ^ 22
  type_low o (inl was) = (agree t).low o (inl (live_in (slice_get previous t) o was))
  type_low o (inr is) = (agree t).low o (inr (live_in (slice_get current t) o is))

-- ---- the types one after another

module _ (schemas : List Schema) (previous current : Table) where
  -- each type below keeps its limits
  abbrev pub KeepBelow : ℕ → Type 0
  KeepBelow k = (t : ℕ) → t < k → TellsLimit (shape_at schemas t) previous current t None

  pub keep_more : (k : ℕ) → KeepBelow k → TellsLimit (shape_at schemas k) previous current k None → KeepBelow (k + 1)
  keep_more k below here t inside = elim (below_or t k inside) [
    | inl low ↦ below t low
    | inr is ↦ subst (λ n. TellsLimit (shape_at schemas n) previous current n None) is here
  ]

-- ---- by what was measured

-- what is measured of a type is so of equal states
pub measured_there : (schemas schemas' : List Schema) (previous previous' current current' : Table) (t : ℕ) (one : Measured) → schemas ≡ schemas' → previous ≡ previous' → current ≡ current'
    → IsMeasured (shape_at schemas t) previous current t one → IsMeasured (shape_at schemas' t) previous' current' t one
measured_there schemas schemas' previous previous' current current' t one same was now is =
    subst (λ (table : Table). IsMeasured (shape_at schemas' t) previous' table t one) now
    (subst (λ (table : Table). IsMeasured (shape_at schemas' t) table current t one) was (subst (λ (ss : List Schema). IsMeasured (shape_at ss t) previous current t one) same is))

-- there is what is measured of the first types
abbrev pub MeasuredBelow : List Schema → Table → Table → ℕ → List Measured → Type 0
MeasuredBelow schemas previous current k measured = AllZip (λ t one. IsMeasured (shape_at schemas t) previous current t one) (range_with_len 0 k) measured

pub measured_count : (schemas : List Schema) (previous current : Table) (measured : List Measured) → AreMeasured schemas previous current measured → length measured ≡ length schemas
measured_count schemas previous current measured are = as_many (λ t one. IsMeasured (shape_at schemas t) previous current t one) (length schemas) measured are

-- the limit is that which the type passes, in any states of which this is measured
abbrev pub TellsMeasured : Shape → Measured → Option Limit → Type 0
TellsMeasured shape one limit =
    (old new : Table) (t : ℕ) → Agree old new t → ((ordinal : ℕ) → IsLiveInEither old new t ordinal → ordinal < 2 ^ 22) → IsMeasured shape old new t one → TellsLimit shape old new t limit

module _ (schemas : List Schema) (previous current : Table) (agree : TablesAgree previous current) (measured : List Measured) (are : AreMeasured schemas previous current measured) (k : ℕ) where
  pub limit_told : (one : Measured) (schema : Schema) (limit : Option Limit) → slice_get measured k ≡ Some one → slice_get schemas k ≡ Some schema → TellsMeasured schema.shape one limit
      → TellsLimit (shape_at schemas k) previous current k limit
  limit_told one schema limit at there tells =
      let is = of_type (λ t m. IsMeasured (shape_at schemas t) previous current t m) (length schemas) k measured one are at in
      let same = shape_is schemas k schema there in
      subst (λ (shape : Shape). TellsLimit shape previous current k limit) (sym same)
      (tells previous current k (type_agrees previous current agree k) (type_low previous current agree k) (subst (λ (shape : Shape). IsMeasured shape previous current k one) same is))

module _ (schemas : List Schema) (previous current : Table) (k : ℕ) (inside : k < length schemas) (below : KeepBelow schemas previous current k) where
  pub first_passed : (limit : Option Limit) → is_some limit ≡ true → TellsLimit (shape_at schemas k) previous current k limit → TellsTypes schemas previous current limit
  first_passed None some told = absurd cc
  first_passed (Some limit) some told = (k, inside, below, told)

  pub one_kept : (limit : Option Limit) → is_some limit ≡ false → TellsLimit (shape_at schemas k) previous current k limit → KeepBelow schemas previous current (k + 1)
  one_kept None none told = keep_more schemas previous current k below told
  one_kept (Some limit) none told = absurd cc

-- ---- what can be written

module _ (schemas : List Schema) (previous current : Table) (agree : TablesAgree previous current) (keeps : TellsTypes schemas previous current None) where
  counts : (t : ℕ) → t < length schemas → KeepsCounts (shape_at schemas t) previous current t
  counts t inside = let kept = keeps t inside in counts_kept (shape_at schemas t) previous current t (type_low previous current agree t) kept.0 kept.1

  pub writable : AreWritable schemas previous current
  writable = record { agree = λ t inside. type_agrees previous current agree t; keeps = counts }

  pub writable_back : AreWritable schemas current previous
  writable_back = record {
    agree = λ t inside. agree_back previous current t (type_agrees previous current agree t);
    keeps = λ t inside. keeps_back (shape_at schemas t) previous current t (record { max = None; widths = []; total = 0 }) (type_agrees previous current agree t) (counts t inside);
  }
