-- What is seen through a model that grew, and then through another one, is what is seen through the other one at once.
use Rattle.std.proofs.Common.{◌≡◌, ◌⊎◌, inl, inr, ℕ, zero, suc, ◌<◌, true, false, cond, List, [], ◌∷◌, ◌++◌, length, Option, Some, None, option_map, refl, sym, ap, subst, ◌∙◌, arith, slice_index_or, slice_get}
use Rattle.std.specs.Prelude.{option_and_then}
use Rattle.std.specs.FinMap.{nat_cmp-IsAntisymmetric, same_map}
use Rattle.std.specs.Cmp.{nat_cmp_total}
use Rattle.std.specs.Str.{bytes_eq}
use Rattle.std.proofs.lemmas.List.{get_or_append_left, length-append}
use Rattle.std.proofs.lemmas.Option.{get_or_from_slice_get, slice_get-get_or, slice_get-map}
use Rattle.std.proofs.lemmas.Slice.Eq.{bytes_eq-Decides}
use Rattle.schema_model.specs.declared.schema.Field.{Field}
use Rattle.schema_model.specs.declared.schema.Schema.{Schema}
use Rattle.schema_model.specs.declared.schema.Shape.{Shape}
use Rattle.schema_model.specs.declared.model.rule.Rule.TheVariants.{DuplicateName}
use Rattle.schema_model.specs.Growth.{AreInFront, Grows, GrowsShape, GrowsType}
use Rattle.schema_model.specs.Model.{IsKept}
use Rattle.schema_model.specs.Parts.{index_of_type, shape_fields}
use Rattle.schema_growth.proofs.Growths.{named_there, one_of}
use Rattle.schema_model.proofs.ModelFacts.{index_at}
use Rattle.row_model.specs.declared.row.Row.{Row}
use Rattle.row_model.specs.declared.row.Value.{Value}
use Rattle.row_model.specs.Table.{Table, row_at}
use Rattle.row_model.specs.View.{seen_row, seen_type, seen_values, value_named, view}
use Rattle.seen_rows.proofs.ViewClosed.{get_type, row_seen}
use Rattle.seen_rows.proofs.Views.{cond_not, cond_yes, map_same}

-- a name that stands among these fields: its value seen twice is its value
pub named_twice : (c b : List Field) (values : List Value) (name : List ℕ) → ((k : ℕ) (d : Field) → k < length b → (slice_index_or b k d).name ≡ name → ⊥) ⊎ ((k : ℕ) × (d : Field) × (k < length b) × ((slice_index_or b k d).name ≡ name))
    → (((k : ℕ) (d : Field) → k < length b → (slice_index_or b k d).name ≡ name → ⊥) → value_named c values name ≡ Value.Null)
    → value_named b (seen_values c b values) name ≡ value_named c values name
unfolding value_named
named_twice c [] values name (inl none) lacks = sym (lacks none)
named_twice c [] values name (inr (k, d, below, is)) lacks = absurd (omega (arith, below))
named_twice c (f ∷ b) values name (inl none) lacks =
    cond_not (bytes_eq f.name name) (value_named c values f.name) (value_named b (seen_values c b values) name) (λ e. none 0 f (omega arith) ((bytes_eq-Decides f.name name).0 e))
    ∙ named_twice c b values name (inl (λ k d below. none (suc k) d (omega (arith, below)))) (λ rest. lacks none)
named_twice c (f ∷ b) values name (inr (zero, d, below, is)) lacks =
    cond_yes (bytes_eq f.name name) (value_named c values f.name) (value_named b (seen_values c b values) name) ((bytes_eq-Decides f.name name).1 is) ∙ ap (value_named c values) is
named_twice c (f ∷ b) values name (inr (suc k, d, below, is)) lacks =
    elim (bytes_eq f.name name) as (λ t. bytes_eq f.name name ≡ t → cond t (value_named c values f.name) (value_named b (seen_values c b values) name) ≡ value_named c values name) [
      | true ↦ λ e. ap (value_named c values) ((bytes_eq-Decides f.name name).0 e)
      | false ↦ λ e. named_twice c b values name (inr (k, d, omega (arith, below), is)) (λ none. absurd (none k d (omega (arith, below)) is))
    ] refl

-- no field has the name
abbrev Lacks : List Field → List ℕ → Type 0
Lacks fields name = (k : ℕ) (d : Field) → k < length fields → (slice_index_or fields k d).name ≡ name → ⊥

-- the field at some place has it
abbrev Has : List Field → List ℕ → Type 0
Has fields name = (k : ℕ) × (d : Field) × (k < length fields) × ((slice_index_or fields k d).name ≡ name)

lacks_more : (f : Field) (fields : List Field) (name : List ℕ) → (f.name ≡ name → ⊥) → Lacks fields name → Lacks (f ∷ fields) name
lacks_more f fields name not lacks zero d below is = not is
lacks_more f fields name not lacks (suc k) d below is = lacks k d (omega (arith, below)) is

decided : (fields : List Field) (name : List ℕ) → Lacks fields name ⊎ Has fields name
decided [] name = inl (λ k d below is. absurd (omega (arith, below)))
decided (f ∷ fields) name =
    elim (bytes_eq f.name name) as (λ t. bytes_eq f.name name ≡ t → Lacks (f ∷ fields) name ⊎ Has (f ∷ fields) name) [
      | true ↦ λ e. inr (0, f, omega arith, (bytes_eq-Decides f.name name).0 e)
      | false ↦ λ e. later e (decided fields name)
    ] refl
  where
    later : bytes_eq f.name name ≡ false → Lacks fields name ⊎ Has fields name → Lacks (f ∷ fields) name ⊎ Has (f ∷ fields) name
    later e (inl lacks) = inl (lacks_more f fields name (λ is. let yes_it_is : bytes_eq f.name name ≡ true = (bytes_eq-Decides f.name name).1 is in absurd cc) lacks)
    later e (inr (k, d, below, is)) = inr (suc k, d, omega (arith, below), is)

null_without : (fields : List Field) (values : List Value) (name : List ℕ) → Lacks fields name → value_named fields values name ≡ Value.Null
unfolding value_named
null_without [] values name lacks = refl
null_without (f ∷ fields) [] name lacks = refl
null_without (f ∷ fields) (v ∷ values) name lacks =
    cond_not (bytes_eq f.name name) v (value_named fields values name) (λ e. lacks 0 f (omega arith) ((bytes_eq-Decides f.name name).0 e))
    ∙ null_without fields values name (λ k d below is. lacks (suc k) d (omega (arith, below)) is)

front_lacks : (fields more : List Field) (name : List ℕ) → Lacks (fields ++ more) name → Lacks fields name
front_lacks fields more name lacks k d below is =
    lacks k d (omega (arith, below, length-append fields more)) (ap (λ (f : Field). f.name) (get_or_append_left fields more d k below) ∙ is)

-- values seen through fields that grew, and then through others
values_twice : (c b a : List Field) (values : List Value) → AreInFront c b → seen_values b a (seen_values c b values) ≡ seen_values c a values
values_twice c b a values (more, is) =
    map_same (λ m. value_named b (seen_values c b values) m.name) (λ m. value_named c values m.name) a
    (λ k d below. named_twice c b values (slice_index_or a k d).name (decided b (slice_index_or a k d).name)
    (λ lacks. null_without c values (slice_index_or a k d).name (front_lacks c more (slice_index_or a k d).name (subst (λ fs. Lacks fs (slice_index_or a k d).name) is lacks))))

-- a shape that grows has its fields in front
pub fields_in_front : (c b : Shape) → GrowsShape c b → AreInFront (shape_fields c) (shape_fields b)
fields_in_front (Shape.Object kc fc) (Shape.Object kb fb) grows = grows.1
fields_in_front (Shape.Object kc fc) (Shape.List element) grows = absurd cc
fields_in_front (Shape.Object kc fc) (Shape.Set element) grows = absurd cc
fields_in_front (Shape.Object kc fc) (Shape.Map from to) grows = absurd cc
fields_in_front (Shape.List element) b grows = (shape_fields b, refl)
fields_in_front (Shape.Set element) b grows = (shape_fields b, refl)
fields_in_front (Shape.Map from to) b grows = (shape_fields b, refl)

pub row_twice : (c b a : Shape) (row : Row) → GrowsShape c b → seen_row b a (seen_row c b row) ≡ seen_row c a row
row_twice c b a (Row.Object values) grows = ap Row.Object (values_twice (shape_fields c) (shape_fields b) (shape_fields a) values (fields_in_front c b grows))
row_twice c b a (Row.List ordinals) grows = refl
row_twice c b a (Row.Set ordinals) grows = refl
row_twice c b a (Row.Map pairs) grows = refl

mapped_twice : (f g h : Row → Row) (o : Option Row) → ((row : Row) → f (g row) ≡ h row) → option_map f (option_map g o) ≡ option_map h o
mapped_twice f g h None same = refl
mapped_twice f g h (Some row) same = ap Some (same row)

module _ (c b a : List Schema) (table : Table) (c_once : IsKept c DuplicateName) (b_once : IsKept b DuplicateName) (grows : Grows c b) where
  -- what stands under an ordinal, seen twice
  twice : Schema → ℕ → Option ℕ → Option Row
  twice schema ordinal found = option_and_then (λ u. option_map (seen_row (slice_index_or b u schema).shape schema.shape) (row_at (view b c table) u ordinal)) found

  -- and seen once
  once : Schema → ℕ → Option ℕ → Option Row
  once schema ordinal found = option_and_then (λ u. option_map (seen_row (slice_index_or c u schema).shape schema.shape) (row_at table u ordinal)) found

  of_none : (schema : Schema) (ordinal : ℕ) → index_of_type c schema.name ≡ None → (found : Option ℕ) → index_of_type b schema.name ≡ found → twice schema ordinal found ≡ None
  unfolding twice
  of_none schema ordinal none None is = refl
  of_none schema ordinal none (Some u) is =
      let there = named_there b u schema.name ((index_at b schema.name b_once u).0 is) in
      ap (option_map (seen_row (slice_index_or b u schema).shape schema.shape))
      (row_seen c table b u ordinal there.0 there.1
      ∙ ap (option_and_then (λ w. option_map (seen_row (slice_index_or c w there.0).shape there.0.shape) (row_at table w ordinal))) (ap (index_of_type c) there.2 ∙ none))

  of_some : (t : ℕ) (schema : Schema) (ordinal u : ℕ) → slice_get a t ≡ Some schema → index_of_type c schema.name ≡ Some u → twice schema ordinal (index_of_type b schema.name) ≡ once schema ordinal (Some u)
  unfolding twice once
  of_some t schema ordinal u at is =
      let own = named_there c u schema.name ((index_at c schema.name c_once u).0 is) in
      let grown = one_of (GrowsType own.0) (slice_get b u) (grows u own.0 own.1) in
      let named : grown.0.name ≡ schema.name = grown.2.named ∙ own.2 in
      let index : index_of_type b schema.name ≡ Some u
      = (index_at b schema.name b_once u).1 (slice_get-map (λ (s : Schema). s.name) b u ∙ ap (option_map (λ (s : Schema). s.name)) grown.1 ∙ ap Some named) in
      let b_is : slice_index_or b u schema ≡ grown.0 = get_or_from_slice_get b u grown.0 schema grown.1 in
      let c_is : slice_index_or c u grown.0 ≡ own.0 = get_or_from_slice_get c u own.0 grown.0 own.1 in
      let once_is : slice_index_or c u schema ≡ own.0 = get_or_from_slice_get c u own.0 schema own.1 in
      let seen : row_at (view b c table) u ordinal ≡ option_map (seen_row (slice_index_or c u grown.0).shape grown.0.shape) (row_at table u ordinal)
      = row_seen c table b u ordinal grown.0 grown.1
      ∙ ap (option_and_then (λ w. option_map (seen_row (slice_index_or c w grown.0).shape grown.0.shape) (row_at table w ordinal))) (ap (index_of_type c) named ∙ is) in
      ap (option_and_then (λ w. option_map (seen_row (slice_index_or b w schema).shape schema.shape) (row_at (view b c table) w ordinal))) index
      ∙ ap (option_map (seen_row (slice_index_or b u schema).shape schema.shape)) seen
      ∙ mapped_twice (seen_row (slice_index_or b u schema).shape schema.shape) (seen_row (slice_index_or c u grown.0).shape grown.0.shape) (seen_row (slice_index_or c u schema).shape schema.shape) (row_at table u ordinal)
      (λ row.
      (λ i. seen_row (b_is i).shape schema.shape (seen_row (c_is i).shape grown.0.shape row))
      ∙ row_twice own.0.shape grown.0.shape schema.shape row grown.2.shape
      ∙ (λ i. seen_row (sym once_is i).shape schema.shape row))

  of_index : (t : ℕ) (schema : Schema) (ordinal : ℕ) → slice_get a t ≡ Some schema → (found : Option ℕ) → index_of_type c schema.name ≡ found
      → twice schema ordinal (index_of_type b schema.name) ≡ once schema ordinal found
  unfolding once
  of_index t schema ordinal at None is = of_none schema ordinal is (index_of_type b schema.name) refl
  of_index t schema ordinal at (Some u) is = of_some t schema ordinal u at is

  -- a table seen through a model that its own one grew to, and then through another one, is what it is seen as at once
  pub view_twice : view a b (view b c table) ≡ view a c table
  unfolding twice once
  view_twice =
      map_same (seen_type b (view b c table)) (seen_type c table) a
      (λ k d below.
      let schema = slice_index_or a k d in
      let at : slice_get a k ≡ Some schema = slice_get-get_or a k d below in
      same_map nat_cmp_total nat_cmp-IsAntisymmetric (seen_type b (view b c table) schema) (seen_type c table schema)
      (λ q. get_type b (view b c table) schema (index_of_type b schema.name) q ∙ of_index k schema q at (index_of_type c schema.name) refl
      ∙ sym (get_type c table schema (index_of_type c schema.name) q)))
