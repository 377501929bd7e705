-- The variable bytes of rows whose BYTES are bytes.
use Rattle.std.proofs.Common.{◌≡◌, ℕ, List, [], ◌∷◌, Option, None, Some, IfSome, map as images, refl, sym, subst}
use Rattle.std.specs.Prelude.{All, slice_get}
use Rattle.std.specs.List.{enumerate_from}
use Rattle.std.specs.Option.{option_to_list}
use Rattle.std.proofs.lemmas.List.Elements.{All-append, All-cons, All-head, All-map, All-nil, All-tail}
use Rattle.std.proofs.lemmas.Option.{get_or_from_slice_get, slice_get_within}
use Rattle.blob_grammar.specs.Decided.{AreBytes}
use Rattle.schema_model.specs.declared.schema.Field.{Field}
use Rattle.schema_model.specs.declared.schema.Shape.{Shape}
use Rattle.row_model.specs.declared.row.Row.{Row}
use Rattle.row_model.specs.declared.row.Value.{Value}
use Rattle.row_model.specs.Table.{Table, row_at}
use Rattle.object_codec.specs.Packing.{areas_for, values_of_place}
use Rattle.object_codec.specs.Stored.{column, value_at, value_bytes, values_bytes}
use Rattle.row_packing.specs.Packs.{PacksPlaces}
use Rattle.row_packing.specs.Places.{places_under}
use Rattle.byte_laws.specs.Bytes.{IsByteRow, IsByteTable, IsByteValue}
use Rattle.byte_laws.proofs.Numbers.{bytes_of_each, no_bytes, units_are}

-- what holds of all holds of what stands at a place
pub at_place : {A : Type 0} (P : A → Type 0) (xs : List A) (place : ℕ) (x : A) → All P xs → slice_get xs place ≡ Some x → P x
at_place P xs place x all there = subst P (get_or_from_slice_get xs place x x there) (all place x (slice_get_within xs place x there))

-- ---- values

value_are : (value : Value) → IsByteValue value → AreBytes (value_bytes value)
value_are Value.Null is = no_bytes
value_are (Value.Int n) is = no_bytes
value_are (Value.Long n) is = no_bytes
value_are (Value.Bool flag) is = no_bytes
value_are (Value.Text units) is = units_are units
value_are (Value.Bytes bytes) is = is
value_are (Value.Ref ordinal) is = no_bytes

each_value : (values : List Value) → All IsByteValue values → All (λ value. AreBytes (value_bytes value)) values
each_value values all k d below = value_are _ (all k d below)

-- ---- columns

-- The row of a place, if there is one, has bytes.
abbrev IsBytePlace : Option Row → Type 0
IsBytePlace place = IfSome place IsByteRow

place_are : (place : Option Row) → IsBytePlace place → All IsByteValue (values_of_place place)
place_are None is = All-nil IsByteValue
place_are (Some (Row.Object values)) is = is
place_are (Some (Row.List ordinals)) is = All-nil IsByteValue
place_are (Some (Row.Set ordinals)) is = All-nil IsByteValue
place_are (Some (Row.Map pairs)) is = All-nil IsByteValue

one_value : (index : ℕ) (values : List Value) → All IsByteValue values → All IsByteValue (value_at index values)
one_value index values all = of_found (slice_get values index) refl
  where
    of_found : (found : Option Value) → slice_get values index ≡ found → All IsByteValue (option_to_list found)
    of_found None is = All-nil IsByteValue
    of_found (Some value) is = All-cons IsByteValue value [] (at_place IsByteValue values index value all is) (All-nil IsByteValue)

column_are : (index : ℕ) (places : List (Option Row)) → All IsBytePlace places → All IsByteValue (column index (images values_of_place places))
column_are index [] all = All-nil IsByteValue
column_are index (place ∷ places) all =
    All-append IsByteValue (value_at index (values_of_place place)) (column index (images values_of_place places))
    (one_value index (values_of_place place) (place_are place (All-head IsBytePlace place places all))) (column_are index places (All-tail IsBytePlace place places all))

areas_are : (fields : List Field) (places : List (Option Row)) → All IsBytePlace places → All AreBytes (areas_for fields places)
areas_are fields places all = All-map AreBytes (λ (part : ℕ × Field). values_bytes (column part.0 (images values_of_place places))) (enumerate_from 0 fields)
    (λ k d below. let values = column_are _ places all in bytes_of_each value_bytes _ (each_value _ values))

-- ---- places

-- the places of ordinals in a table
places_are : (table : Table) (t : ℕ) (ordinals : List ℕ) → IsByteTable table → All IsBytePlace (places_under table t ordinals)
places_are table t ordinals is = All-map IsBytePlace (row_at table t) ordinals (λ k d below. of_row _ _ refl)
  where
    of_row : (ordinal : ℕ) (found : Option Row) → row_at table t ordinal ≡ found → IsBytePlace found
    of_row ordinal None at = tt
    of_row ordinal (Some row) at = is t ordinal row at

-- what the places of a table are packed into
pub packed_areas : (shape : Shape) (widths : List ℕ) (table : Table) (t : ℕ) (ordinals first second : List ℕ) (areas : List (List ℕ)) → IsByteTable table
    → PacksPlaces shape widths (places_under table t ordinals) first second areas → All AreBytes areas
packed_areas (Shape.Object key fields) widths table t ordinals first second areas is packs =
    subst (All AreBytes) (sym packs.0.bytes) (areas_are fields (places_under table t ordinals) (places_are table t ordinals is))
packed_areas (Shape.List element) widths table t ordinals first second areas is packs = subst (All AreBytes) (sym packs.1) (All-nil AreBytes)
packed_areas (Shape.Set element) widths table t ordinals first second areas is packs = subst (All AreBytes) (sym packs.1) (All-nil AreBytes)
packed_areas (Shape.Map key value) widths table t ordinals first second areas is packs = subst (All AreBytes) (sym packs.1) (All-nil AreBytes)
