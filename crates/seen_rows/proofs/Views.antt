-- Rows seen through another model.
use Rattle.std.proofs.Common.{◌≡◌, ℕ, suc, ◌<◌, Bool, true, false, cond, List, [], ◌∷◌, map, length, get_or, Option, Some, None, option_map, refl, sym, ap, ap₂, ◌∙◌, arith, slice_index_or}
use Rattle.std.specs.Prelude.{All, option_and_then, slice_get, unwrap_or}
use Rattle.std.specs.List.{AllZip}
use Rattle.std.specs.Option.{option_map_or}
use Rattle.std.proofs.lemmas.List.{length-map}
use Rattle.std.proofs.lemmas.Option.{get_or_from_slice_get, same_Some, slice_get-get_or, slice_get-map, slice_get_within}
use Rattle.std.specs.FinMap.{empty, find, get, entries, get-from_entries, get-entries, nat_cmp-IsAntisymmetric, same_map}
use Rattle.std.specs.Ordering.{nat_cmp, eq_by_cmp}
use Rattle.std.specs.Cmp.{nat_cmp_total}
use Rattle.std.specs.Str.{bytes_eq}
use Rattle.std.proofs.lemmas.Slice.Eq.{bytes_eq-Decides}
use Rattle.schema_model.specs.declared.schema.Field.{Field}
use Rattle.schema_model.specs.declared.schema.Schema.{Schema}
use Rattle.schema_model.specs.declared.schema.Shape.{Shape}
use Rattle.schema_model.specs.declared.model.rule.Rule.TheVariants.{DuplicateName}
use Rattle.schema_model.specs.Model.{IsModel}
use Rattle.schema_model.specs.Parts.{AreApart, index_of_type, shape_fields, type_names}
use Rattle.schema_growth.proofs.Growths.{fields_apart}
use Rattle.schema_model.proofs.ModelFacts.{index_at}
use Rattle.row_model.specs.declared.row.Row.{Row}
use Rattle.row_model.specs.declared.row.Value.{Value}
use Rattle.row_model.specs.BothStates.{rows_in}
use Rattle.row_model.specs.Row.{FitsKind, FitsShape}
use Rattle.row_model.specs.Table.{IsTableOf, RowMap, Table}
use Rattle.row_model.specs.View.{seen_map, seen_row, seen_type, seen_values, value_named, view}

pub cond_yes : {X : Type 0} (b : Bool) (x y : X) → b ≡ true → cond b x y ≡ x
cond_yes true x y e = refl
cond_yes false x y e = absurd cc

pub cond_not : {X : Type 0} (b : Bool) (x y : X) → (b ≡ true → ⊥) → cond b x y ≡ y
cond_not true x y never = absurd (never refl)
cond_not false x y never = refl

mapped_cond : {X Y : Type 0} (f : X → Y) (b : Bool) (x : X) (o : Option X) → cond b (Some (f x)) (option_map f o) ≡ option_map f (cond b (Some x) o)
mapped_cond f true x o = refl
mapped_cond f false x o = refl

find_mapped : (f : Row → Row) (es : List (ℕ × Row)) (q : ℕ) → find nat_cmp q (map (λ e. (e.0, f e.1)) es) ≡ option_map f (find nat_cmp q es)
find_mapped f [] q = refl
find_mapped f (e ∷ es) q = ap (cond (eq_by_cmp nat_cmp q e.0) (Some (f e.1))) (find_mapped f es q) ∙ mapped_cond f (eq_by_cmp nat_cmp q e.0) e.1 (find nat_cmp q es)

-- what stands under an ordinal is the row that stands there, seen so
pub get_seen : (own mine : Shape) (rows : RowMap) (ordinal : ℕ) → get (seen_map own mine rows) ordinal ≡ option_map (seen_row own mine) (get rows ordinal)
get_seen own mine rows ordinal =
    get-from_entries nat_cmp_total (map (λ e. (e.0, seen_row own mine e.1)) (entries rows)) ordinal ∙ find_mapped (seen_row own mine) (entries rows) ordinal
    ∙ ap (option_map (seen_row own mine)) (sym (get-entries rows ordinal))

pub map_same : {X Y : Type 0} (f g : X → Y) (xs : List X) → All (λ x. f x ≡ g x) xs → map f xs ≡ map g xs
map_same f g [] all = refl
map_same f g (x ∷ xs) all = ap₂ ◌∷◌ (all 0 x (omega arith)) (map_same f g xs (λ k d below. all (suc k) d (omega (arith, below))))

-- a record seen through its own fields is itself
pub seen_own : (fields : List Field) (values : List Value) → length fields ≡ length values → AreApart fields → seen_values fields fields values ≡ values
unfolding value_named
seen_own [] [] same apart = refl
seen_own [] (v ∷ values) same apart = absurd (omega (arith, same))
seen_own (f ∷ fields) [] same apart = absurd (omega (arith, same))
seen_own (f ∷ fields) (v ∷ values) same apart =
    ap₂ ◌∷◌ (cond_yes (bytes_eq f.name f.name) v (value_named fields values f.name) ((bytes_eq-Decides f.name f.name).1 refl))
    (map_same (λ g. value_named (f ∷ fields) (v ∷ values) g.name) (λ g. value_named fields values g.name) fields
    (λ k d below. cond_not (bytes_eq f.name (slice_index_or fields k d).name) v (value_named fields values (slice_index_or fields k d).name)
    (λ e. apart 0 (suc k) d (omega arith) (omega (arith, below)) ((bytes_eq-Decides f.name (slice_index_or fields k d).name).0 e)))
    ∙ seen_own fields values (omega (arith, same)) (λ i j d before below. apart (suc i) (suc j) d (omega (arith, before)) (omega (arith, below))))

-- a record has as many values as its type has fields
as_many : (fields : List Field) (values : List Value) → AllZip (λ field value. FitsKind field.kind value) fields values → length fields ≡ length values
as_many [] [] fits = refl
as_many [] (v ∷ values) fits = absurd fits
as_many (f ∷ fields) [] fits = absurd fits
as_many (f ∷ fields) (v ∷ values) fits = ap suc (as_many fields values fits.1)

pub as_many_fields : (shape : Shape) (values : List Value) → FitsShape shape (Row.Object values) → length (shape_fields shape) ≡ length values
as_many_fields (Shape.Object key fields) values fits = as_many fields values fits
as_many_fields (Shape.List element) values fits = absurd fits
as_many_fields (Shape.Set element) values fits = absurd fits
as_many_fields (Shape.Map key value) values fits = absurd fits

-- a row seen as one of its own shape is itself
pub own_row : (shape : Shape) (row : Row) → FitsShape shape row → AreApart (shape_fields shape) → seen_row shape shape row ≡ row
own_row shape (Row.Object values) fits apart = ap Row.Object (seen_own (shape_fields shape) values (as_many_fields shape values fits) apart)
own_row shape (Row.List ordinals) fits apart = refl
own_row shape (Row.Set ordinals) fits apart = refl
own_row shape (Row.Map pairs) fits apart = refl

own_option : (f : Row → Row) (o : Option Row) → ((row : Row) → o ≡ Some row → f row ≡ row) → option_map f o ≡ o
own_option f None same = refl
own_option f (Some row) same = ap Some (same row refl)

-- so are all rows of a type
pub own_map : (shape : Shape) (rows : RowMap) → ((ordinal : ℕ) (row : Row) → get rows ordinal ≡ Some row → FitsShape shape row) → AreApart (shape_fields shape) → seen_map shape shape rows ≡ rows
own_map shape rows fits apart =
    same_map nat_cmp_total nat_cmp-IsAntisymmetric (seen_map shape shape rows) rows
    (λ q. get_seen shape shape rows q ∙ own_option (seen_row shape shape) (get rows q) (λ row at. own_row shape row (fits q row at) apart))

-- lists that have the same at each place
same_lists : {A : Type 0} (xs ys : List A) → length xs ≡ length ys → ((k : ℕ) (x y : A) → slice_get xs k ≡ Some x → slice_get ys k ≡ Some y → x ≡ y) → xs ≡ ys
same_lists [] [] long each = refl
same_lists [] (y ∷ ys) long each = absurd (omega (arith, long))
same_lists (x ∷ xs) [] long each = absurd (omega (arith, long))
same_lists (x ∷ xs) (y ∷ ys) long each = ap₂ ◌∷◌ (each 0 x y refl refl) (same_lists xs ys (omega (arith, long)) (λ k a b in_xs in_ys. each (suc k) a b in_xs in_ys))

module _ (schemas : List Schema) (table : Table) (model : IsModel schemas) (fits : IsTableOf schemas table) where
  -- a type seen through its own model has the rows that it has
  own_type : (t : ℕ) (schema : Schema) (rows : RowMap) → slice_get schemas t ≡ Some schema → slice_get table t ≡ Some rows → seen_type schemas table schema ≡ rows
  own_type t schema rows at there =
      let named : slice_get (type_names schemas) t ≡ Some schema.name = slice_get-map (λ (s : Schema). s.name) schemas t ∙ ap (option_map (λ (s : Schema). s.name)) at in
      let index : index_of_type schemas schema.name ≡ Some t = (index_at schemas schema.name (model DuplicateName) t).1 named in
      let own : slice_index_or schemas t schema ≡ schema = get_or_from_slice_get schemas t schema schema at in
      let map_is : rows_in table t ≡ rows = ap (λ o. unwrap_or o (empty {R = nat_cmp})) there in
      ap (λ o. option_map_or (λ u. seen_map (slice_index_or schemas u schema).shape schema.shape (rows_in table u)) o (empty {R = nat_cmp})) index
      ∙ ap₂ (λ (s : Schema) m. seen_map s.shape schema.shape m) own map_is
      ∙ own_map schema.shape rows (λ q row found. fits.rows t q schema row at (ap (option_and_then (λ m. get m q)) there ∙ found)) (fields_apart schemas t schema model at)

  -- the type behind rows that are seen
  seen_there : (k : ℕ) (rows other : RowMap) → slice_get (view schemas schemas table) k ≡ Some rows → slice_get table k ≡ Some other → (schema : Schema) → slice_get schemas k ≡ Some schema → rows ≡ other
  seen_there k rows other seen there schema at =
      let is : Some (seen_type schemas table schema) ≡ Some rows = sym (slice_get-map (seen_type schemas table) schemas k ∙ ap (option_map (seen_type schemas table)) at) ∙ seen in
      sym (same_Some _ _ is) ∙ own_type k schema other at there

  -- a table seen through its own model is itself
  pub own_view : view schemas schemas table ≡ table
  own_view =
      same_lists (view schemas schemas table) table (length-map schemas (seen_type schemas table) ∙ sym fits.types)
      (λ k rows other seen there.
      let inside : k < length schemas = omega (arith, slice_get_within table k other there, fits.types) in
      let none : Schema = record { name = []; shape = Shape.Set [] } in
      seen_there k rows other seen there (get_or schemas k none) (slice_get-get_or schemas k none inside))
