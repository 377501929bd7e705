-- Which rows a section is that of.
use Rattle.std.proofs.Common.{◌≡◌, ℕ, ◌^◌, ◌<◌, ◌≤◌, List, [], ◌∷◌, suc, length, Result, Ok, Err, refl, ap, sym, ◌∙◌, arith}
use Rattle.std.specs.FinMap.{entries, values}
use Rattle.schema_model.specs.declared.limit.Limit.TheVariants.{Items}
use Rattle.schema_model.specs.Limit.{number_of_limit}
use Rattle.schema_model.specs.declared.schema.Shape.{Shape}
use Rattle.row_model.specs.declared.row.Row.{Row}
use Rattle.object_codec.proofs.Rows.{row_once}
use Rattle.row_model.specs.declared.packed.PlaceFault.{PlaceFault}
use Rattle.bucket_codec.specs.BucketPlace.{TellsBucketRow}
use Rattle.bucket_codec.specs.Run.{keys_of as keys_of_pairs}
use Rattle.bucket_codec.proofs.PlaceRows as buckets
use Rattle.type_rows.specs.declared.section.Section.{Section}
use Rattle.type_rows.specs.Ends.{IsOfKind}
use Rattle.type_rows.specs.WellFormed.{IsReadable}
use Rattle.std.proofs.lemmas.List.{length-map}
use Rattle.schema_model.specs.declared.schema.Field.{Field}
use Rattle.row_model.specs.declared.row.Value.{Value}
use Rattle.object_codec.specs.Part.{FieldPart}
use Rattle.object_codec.specs.ObjectPlace.{parts_of, SpellsFields}
use Rattle.type_rows.specs.Loads.{Spells, IsSpelledIn, TellsPlace}
use Rattle.type_rows.proofs.Places.{IsBuckets}
use Rattle.type_rows.proofs.Reading.{IsFunction}

-- A place spells one row.
list_once : (section : Section) (place : ℕ) (a b : Row) → Spells (Shape.List []) section place a → Spells (Shape.List []) section place b → a ≡ b
list_once section place (Row.List a) (Row.List b) h k = ap Row.List (h.are ∙ sym k.are)
list_once section place (Row.List a) _ h k = absurd k
list_once section place _ b h k = absurd h

pub one_row : (shape : Shape) (section : Section) → IsFunction (IsSpelledIn shape section)
one_row (Shape.Object key fields) section = record { once = λ o a b. row_once (Shape.Object key fields) section.widths section.first section.areas o a b }
one_row (Shape.List element) section = record { once = λ o a b. list_once section o a b }
one_row (Shape.Set element) section = record { once = λ o a b. buckets.row_once (Shape.Set element) section.widths section.total section.first section.second o a b }
one_row (Shape.Map key value) section = record { once = λ o a b. buckets.row_once (Shape.Map key value) section.widths section.total section.first section.second o a b }

-- What the codec of sets and maps tells.
pub buckets_tell : (shape : Shape) (section : Section) (place : ℕ) (result : Result Row PlaceFault) → IsBuckets shape → TellsBucketRow shape section.widths section.total section.first section.second place result → TellsPlace shape section place result
buckets_tell (Shape.Set element) section place (Ok row) kind told = told
buckets_tell (Shape.Set element) section place (Err PlaceFault.Memory) kind told = tt
buckets_tell (Shape.Set element) section place (Err (PlaceFault.Bad reason)) kind told = λ row h. buckets.row_or_reason (Shape.Set element) section.widths section.total section.first section.second place row reason h told
buckets_tell (Shape.Map key value) section place (Ok row) kind told = told
buckets_tell (Shape.Map key value) section place (Err PlaceFault.Memory) kind told = tt
buckets_tell (Shape.Map key value) section place (Err (PlaceFault.Bad reason)) kind told = λ row h. buckets.row_or_reason (Shape.Map key value) section.widths section.total section.first section.second place row reason h told
buckets_tell _ section place result kind told = absurd kind

-- A record that is spelled has a value for each field.
fields_long : (fields : List Field) (parts : List FieldPart) (values : List Value) → SpellsFields fields parts values → length values ≡ length fields
fields_long [] [] [] h = refl
fields_long (f ∷ fs) (p ∷ ps) (v ∷ vs) h = ap (λ n. suc n) (fields_long fs ps vs h.1)
fields_long _ _ _ h = absurd h

-- A set or map has no more elements than the total.
few_keys : (total : ℕ) (keys : List ℕ) (pairs : List (ℕ × ℕ)) → total ≤ number_of_limit Items → length pairs ≤ total → keys ≡ keys_of_pairs pairs → length keys < 2 ^ 32
few_keys total keys pairs few within is = let same = ap length is ∙ length-map pairs (λ pair. pair.0) in omega arith

few_pairs : (total : ℕ) (entries pairs : List (ℕ × ℕ)) → total ≤ number_of_limit Items → length pairs ≤ total → entries ≡ pairs → length entries < 2 ^ 32
few_pairs total entries pairs few within is = let same = ap length is in omega arith

-- A row that is spelled is of the kind of its type.
pub of_kind : (shape : Shape) (section : Section) (o : ℕ) (row : Row) → IsReadable shape section → IsSpelledIn shape section (o, row) → IsOfKind shape row
of_kind (Shape.Object key fields) section o (Row.Object values) readable h = fields_long fields (parts_of section.widths section.first section.areas o) values h
of_kind (Shape.Object key fields) section o _ readable h = absurd h
of_kind (Shape.List element) section o (Row.List ordinals) readable h = tt
of_kind (Shape.List element) section o _ readable h = absurd h
of_kind (Shape.Set element) section o (Row.Set ordinals) readable h =
    few_keys section.total ordinals h.0 readable.items (buckets.pairs_within section.widths section.total section.first section.second o h.0 h.2) h.1
of_kind (Shape.Set element) section o _ readable h = absurd h.1
of_kind (Shape.Map key value) section o (Row.Map pairs) readable h =
    few_pairs section.total pairs h.0 readable.items (buckets.pairs_within section.widths section.total section.first section.second o h.0 h.2) h.1
of_kind (Shape.Map key value) section o _ readable h = absurd h.1
