-- Where a part of a tree can't be added, or its row can't be put, the whole can't be added.
use Rattle.std.proofs.Common.{◌≡◌, ℕ, ◌+◌, List, [], ◌∷◌, ◌++◌, drop, Option, Some, None, refl, sym, ap, subst, ◌∙◌}
use Rattle.std.specs.Prelude.{slice_get, option_map, option_and_then, Result, Ok, Err, IsErrAnd}
use Rattle.ordinal_map.specs.declared.fault.PutRowFault.{PutRowFault}
use Rattle.ordinal_map.specs.declared.fault.PutRowFault.TheVariants.{TooMany}
use Rattle.row_model.specs.declared.row.Row.{Row}
use Rattle.row_model.specs.declared.row.Value.{Value}
use Rattle.schema_model.specs.declared.schema.Field.{Field}
use Rattle.schema_model.specs.declared.schema.Schema.{Schema}
use Rattle.schema_model.specs.declared.schema.Shape.{Shape}
use Rattle.schema_model.specs.declared.schema.name.Name.{Name}
use Rattle.schema_model.specs.Parts.{index_of_type}
use Rattle.row_model.specs.PlainTree.{PlainTree, PlainTrees, PlainPairs, object, list, set, map as of_map, trees_of_list, pairs_of_list, tree_then, pair_then}
use Rattle.row_model.specs.Table.{Table}
use Rattle.record_trees.specs.Types.{object_fields, list_element, set_element, map_types, referred, shape_at}
use Rattle.write_engine.specs.Agreement.{TablesAgree}
use Rattle.write_engine.specs.Cycle.{Adds, AddsFields, AddsAll, AddsPairs, IsMapOf, IsSetOf, PutsRow}
use Rattle.write_engine.specs.Leaf.{TellsLeaf}
use Rattle.write_engine.proofs.NextStates.{adds_agree}
use Rattle.write_engine.proofs.OneState.{adds_once, all_once, field_once, fields_once, pairs_once, same_some}
use Rattle.write_engine.proofs.Parts.{AddsField, drop_at, fields_more, map_types_are, of_row}
use Rattle.write_engine.proofs.RisingLists.{one_set, one_map}

-- there is a way to add them
abbrev pub CanAddAll : List Schema → Table → ℕ → PlainTrees → Table → Type 0
CanAddAll schemas previous t trees before = (ordinals : List ℕ) × (after : Table) × AddsAll schemas previous t trees before ordinals after

abbrev pub CanAddFields : List Schema → Table → List Field → PlainTrees → Table → Type 0
CanAddFields schemas previous fields trees before = (values : List Value) × (after : Table) × AddsFields schemas previous fields trees before values after

abbrev pub CanAddPairs : List Schema → Table → ℕ × ℕ → PlainPairs → Table → Type 0
CanAddPairs schemas previous types pairs before = (added : List (ℕ × ℕ)) × (after : Table) × AddsPairs schemas previous types pairs before added after

-- ---- the tables agree all along

pub agree_now : (previous now table : Table) → now ≡ previous → TablesAgree previous table → TablesAgree now table
agree_now previous now table same agree = subst (λ p. TablesAgree p table) (sym same) agree

pub added_agree : (schemas : List Schema) (previous now : Table) → now ≡ previous → (t : ℕ) (x : PlainTree) (before middle : Table) (o : ℕ) → TablesAgree previous before → Adds schemas now t x before o middle → TablesAgree previous middle
added_agree schemas previous now same t x before middle o agree added = adds_agree schemas previous x t before middle o (subst (λ p. Adds schemas p t x before o middle) same added) agree

-- ---- a fault is passed on

pub passed_on : {A B : Type 0} (fault : PutRowFault) (result : Result A PutRowFault) → result ≡ Err TooMany → IsErrAnd result (λ passed. passed ≡ fault) → ◌≡◌ {A = Result B PutRowFault} (Err fault) (Err TooMany)
passed_on fault (Ok a) is given = absurd given
passed_on fault (Err passed) is given = cc

-- ---- the first of the parts that are left

module _ (schemas : List Schema) (previous now : Table) (same : now ≡ previous) (before : Table) (agree : TablesAgree previous before) where
  module _ (xs : List PlainTree) (k : ℕ) (x : PlainTree) (here : slice_get xs k ≡ Some x) where
    module _ (t : ℕ) (can : CanAddAll schemas previous t (trees_of_list (drop k xs)) before) where
      all_left : CanAddAll schemas previous t (tree_then x (trees_of_list (drop (k + 1) xs))) before
      all_left = subst (λ rest. CanAddAll schemas previous t (trees_of_list rest) before) (drop_at xs k x here) can

      pub all_refused : ((ordinal : ℕ) (after : Table) → ¬ Adds schemas now t x before ordinal after) → ⊥
      all_refused none = let adds = all_left.2 in none adds.0 adds.2 (subst (λ p. Adds schemas p t x before adds.0 adds.2) (sym same) adds.4)

      pub all_rest : (middle : Table) (o : ℕ) → Adds schemas now t x before o middle → CanAddAll schemas previous t (trees_of_list (drop (k + 1) xs)) middle
      all_rest middle o added =
          let adds = all_left.2 in
          let one = adds_once schemas previous x t before middle adds.2 o adds.0 agree (subst (λ p. Adds schemas p t x before o middle) same added) adds.4 in
          (adds.1, all_left.1, subst (λ (table : Table). AddsAll schemas previous t (trees_of_list (drop (k + 1) xs)) table adds.1 all_left.1) (sym one.1) adds.5)

    module _ (fields : List Field) (field : Field) (there : slice_get fields k ≡ Some field) (can : CanAddFields schemas previous (drop k fields) (trees_of_list (drop k xs)) before) where
      fields_left : CanAddFields schemas previous (drop k fields) (tree_then x (trees_of_list (drop (k + 1) xs))) before
      fields_left = subst (λ rest. CanAddFields schemas previous (drop k fields) (trees_of_list rest) before) (drop_at xs k x here) can

      field_is : field ∷ drop (k + 1) fields ≡ fields_left.2.0 ∷ fields_left.2.1
      field_is = sym (drop_at fields k field there) ∙ fields_left.2.5

      pub field_refused : (read : Field) (t : ℕ) → read ≡ field → referred schemas read.kind ≡ Some t → TellsLeaf x None → ((ordinal : ℕ) (after : Table) → ¬ Adds schemas now t x before ordinal after) → ⊥
      field_refused read t is to tells none =
          let adds = fields_left.2 in
          let both = field_is in
          let first : field ≡ adds.0 = cc in
          let row = of_row x _ _ tells adds.7 in
          let type = same_some row.0 t (referred schemas adds.0.kind) row.2 (ap (λ (f : Field). referred schemas f.kind) (sym (is ∙ first)) ∙ to) in
          none row.1 adds.4 (subst (λ p. Adds schemas p t x before row.1 adds.4) (sym same) (subst (λ u. Adds schemas previous u x before row.1 adds.4) type row.3))

      pub fields_rest : (middle : Table) (value : Value) → AddsField schemas previous field x before value middle → CanAddFields schemas previous (drop (k + 1) fields) (trees_of_list (drop (k + 1) xs)) middle
      fields_rest middle value added =
          let adds = fields_left.2 in
          let both = field_is in
          let first : field ≡ adds.0 = cc in
          let others : drop (k + 1) fields ≡ adds.1 = cc in
          let one = field_once schemas previous x field adds.0 before middle adds.4 value adds.2 first agree (λ t o o' here here'. adds_once schemas previous x t before middle adds.4 o o' agree here here') added adds.7 in (
            adds.3,
            fields_left.1,
            subst (λ fs. AddsFields schemas previous fs (trees_of_list (drop (k + 1) xs)) middle adds.3 fields_left.1) (sym others)
                (subst (λ (table : Table). AddsFields schemas previous adds.1 (trees_of_list (drop (k + 1) xs)) table adds.3 fields_left.1) (sym one.1) adds.8),
          )

  module _ (types : ℕ × ℕ) (xs : List (PlainTree × PlainTree)) (k : ℕ) (x : PlainTree × PlainTree) (here : slice_get xs k ≡ Some x) (can : CanAddPairs schemas previous types (pairs_of_list (drop k xs)) before) where
    pairs_left : CanAddPairs schemas previous types (pair_then x.0 x.1 (pairs_of_list (drop (k + 1) xs))) before
    pairs_left = subst (λ rest. CanAddPairs schemas previous types (pairs_of_list rest) before) (drop_at xs k x here) can

    pub key_refused : ((ordinal : ℕ) (after : Table) → ¬ Adds schemas now types.0 x.0 before ordinal after) → ⊥
    key_refused none = let adds = pairs_left.2 in none adds.0 adds.3 (subst (λ p. Adds schemas p types.0 x.0 before adds.0 adds.3) (sym same) adds.6)

    module _ (now' : Table) (same' : now' ≡ now) (keyed : Table) (a : ℕ) (key : Adds schemas now types.0 x.0 before a keyed) where
      keyed_once : keyed ≡ pairs_left.2.3
      keyed_once = (adds_once schemas previous x.0 types.0 before keyed pairs_left.2.3 a pairs_left.2.0 agree (subst (λ p. Adds schemas p types.0 x.0 before a keyed) same key) pairs_left.2.6).1

      value_added : Adds schemas previous types.1 x.1 keyed pairs_left.2.1 pairs_left.2.4
      value_added = subst (λ (table : Table). Adds schemas previous types.1 x.1 table pairs_left.2.1 pairs_left.2.4) (sym keyed_once) pairs_left.2.7

      pub value_refused : ((ordinal : ℕ) (after : Table) → ¬ Adds schemas now' types.1 x.1 keyed ordinal after) → ⊥
      value_refused none = none pairs_left.2.1 pairs_left.2.4 (subst (λ p. Adds schemas p types.1 x.1 keyed pairs_left.2.1 pairs_left.2.4) (sym (same' ∙ same)) value_added)

      pub pairs_rest : (middle : Table) (b : ℕ) → Adds schemas now' types.1 x.1 keyed b middle → CanAddPairs schemas previous types (pairs_of_list (drop (k + 1) xs)) middle
      pairs_rest middle b value =
          let agree' = adds_agree schemas previous x.0 types.0 before keyed a (subst (λ p. Adds schemas p types.0 x.0 before a keyed) same key) agree in
          let one = adds_once schemas previous x.1 types.1 keyed middle pairs_left.2.4 b pairs_left.2.1 agree' (subst (λ p. Adds schemas p types.1 x.1 keyed b middle) (same' ∙ same) value) value_added in
          (pairs_left.2.2, pairs_left.1, subst (λ (table : Table). AddsPairs schemas previous types (pairs_of_list (drop (k + 1) xs)) table pairs_left.2.2 pairs_left.1) (sym one.1) pairs_left.2.8)

-- a field more is added: the tables agree, and what is left of the fields and what is behind goes on
pub kept_field : (schemas : List Schema) (previous : Table) (xs : List PlainTree) (k : ℕ) (x : PlainTree) → slice_get xs k ≡ Some x → (fields : List Field) (field : Field) → slice_get fields k ≡ Some field
    → (start before : Table) → TablesAgree previous before → (middle : Table) (values pushed : List Value) (value : Value) → pushed ≡ values ++ value ∷ []
    → (CanAddFields schemas previous fields (trees_of_list xs) start → CanAddFields schemas previous (drop k fields) (trees_of_list (drop k xs)) before)
    → ((rest : List Value) (after : Table) → AddsFields schemas previous (drop k fields) (trees_of_list (drop k xs)) before rest after → AddsFields schemas previous fields (trees_of_list xs) start (values ++ rest) after)
    → AddsField schemas previous field x before value middle
    → TablesAgree previous middle × (CanAddFields schemas previous fields (trees_of_list xs) start → CanAddFields schemas previous (drop (k + 1) fields) (trees_of_list (drop (k + 1) xs)) middle)
    × ((rest : List Value) (after : Table) → AddsFields schemas previous (drop (k + 1) fields) (trees_of_list (drop (k + 1) xs)) middle rest after → AddsFields schemas previous fields (trees_of_list xs) start (pushed ++ rest) after)
kept_field schemas previous xs k x here fields field there start before agree middle values pushed value push left so_far added = (
  (field_once schemas previous x field field before middle middle value value refl agree (λ t o o' one one'. adds_once schemas previous x t before middle middle o o' agree one one') added added).2,
  (λ can. fields_rest schemas previous previous refl before agree xs k x here fields field there (left can) middle value added),
  fields_more schemas previous fields xs k x here field there start before middle values pushed value push added so_far,
)

-- ---- a tree, by its parts and by its row

module _ (schemas : List Schema) (previous now : Table) (same : now ≡ previous) (t : ℕ) (schema : Schema) (type : slice_get schemas t ≡ Some schema) (before : Table) (agree : TablesAgree previous before) (ordinal : ℕ) (after : Table) where
  asked : {A : Type 0} (ask : Shape → Option A) (shape : Shape) → schema.shape ≡ shape → option_and_then ask (shape_at schemas t) ≡ ask shape
  asked ask shape is = ap (option_and_then ask) (ap (option_map (λ s. s.shape)) type ∙ ap Some is)

  -- none of the rows is put
  abbrev pub NonePut : Row → Table → Type 0
  NonePut row middle = (o : ℕ) (last : Table) → ¬ PutsRow now t row middle o last

  unput : (row row' : Row) (middle middle' : Table) → row ≡ row' → middle ≡ middle' → NonePut row middle → PutsRow previous t row' middle' ordinal after → ⊥
  unput row row' middle middle' is stays none puts =
      none ordinal after (subst (λ p. PutsRow p t row middle ordinal after) (sym same) (subst (λ r. PutsRow previous t r middle ordinal after) (sym is) (subst (λ (table : Table). PutsRow previous t row' table ordinal after) (sym stays) puts)))

  module _ (trees : PlainTrees) (key : Option (List Name)) (fields : List Field) (shape : schema.shape ≡ Shape.Object key fields) where
    object_parts : (adds : Adds schemas previous t (object trees) before ordinal after) → AddsFields schemas previous fields trees before adds.1 adds.2
    object_parts adds = subst (λ fs. AddsFields schemas previous fs trees before adds.1 adds.2) (sym (same_some fields adds.0 _ (asked object_fields _ shape) adds.3)) adds.4

    pub object_unput : (values : List Value) (middle : Table) → AddsFields schemas previous fields trees before values middle → NonePut (Row.Object values) middle → ¬ Adds schemas previous t (object trees) before ordinal after
    object_unput values middle added none adds =
        let one = fields_once schemas previous trees fields before middle adds.2 values adds.1 agree added (object_parts adds) in
        unput (Row.Object values) (Row.Object adds.1) middle adds.2 (ap Row.Object one.0) one.1 none adds.5

  module _ (trees : PlainTrees) (name : Name) (element : ℕ) (of : index_of_type schemas name ≡ Some element) where
    list_parts : schema.shape ≡ Shape.List name → (adds : Adds schemas previous t (list trees) before ordinal after) → AddsAll schemas previous element trees before adds.1 adds.2
    list_parts shape adds = subst (λ u. AddsAll schemas previous u trees before adds.1 adds.2) (sym (same_some element adds.0 _ (asked (list_element schemas) _ shape ∙ of) adds.3)) adds.4

    pub list_unput : schema.shape ≡ Shape.List name → (ordinals : List ℕ) (middle : Table) → AddsAll schemas previous element trees before ordinals middle → NonePut (Row.List ordinals) middle → ¬ Adds schemas previous t (list trees) before ordinal after
    list_unput shape ordinals middle added none adds =
        let one = all_once schemas previous trees element before middle adds.2 ordinals adds.1 agree added (list_parts shape adds) in
        unput (Row.List ordinals) (Row.List adds.1) middle adds.2 (ap Row.List one.0) one.1 none adds.5

    set_parts : schema.shape ≡ Shape.Set name → (adds : Adds schemas previous t (set trees) before ordinal after) → AddsAll schemas previous element trees before adds.1 adds.2
    set_parts shape adds = subst (λ u. AddsAll schemas previous u trees before adds.1 adds.2) (sym (same_some element adds.0 _ (asked (set_element schemas) _ shape ∙ of) adds.3)) adds.4

    pub set_unput : schema.shape ≡ Shape.Set name → (ordinals members : List ℕ) (middle : Table) → AddsAll schemas previous element trees before ordinals middle → IsSetOf ordinals members → NonePut (Row.Set members) middle
        → ¬ Adds schemas previous t (set trees) before ordinal after
    set_unput shape ordinals members middle added is none adds =
        let one = all_once schemas previous trees element before middle adds.2 ordinals adds.1 agree added (set_parts shape adds) in
        let row = one_set ordinals members adds.5.0 is (subst (λ os. IsSetOf os adds.5.0) (sym one.0) adds.5.1) in
        unput (Row.Set members) (Row.Set adds.5.0) middle adds.2 (ap Row.Set row) one.1 none adds.5.2

  module _ (pairs : PlainPairs) (key value : Name) (k v : ℕ) (of_key : index_of_type schemas key ≡ Some k) (of_value : index_of_type schemas value ≡ Some v) (shape : schema.shape ≡ Shape.Map key value) where
    map_parts : (adds : Adds schemas previous t (of_map pairs) before ordinal after) → AddsPairs schemas previous (k, v) pairs before adds.1 adds.2
    map_parts adds = subst (λ ts. AddsPairs schemas previous ts pairs before adds.1 adds.2) (sym (same_some (k, v) adds.0 _ (asked (map_types schemas) _ shape ∙ map_types_are schemas key value k v of_key of_value) adds.3)) adds.4

    pub map_unput : (added members : List (ℕ × ℕ)) (middle : Table) → AddsPairs schemas previous (k, v) pairs before added middle → IsMapOf added members → NonePut (Row.Map members) middle → ¬ Adds schemas previous t (of_map pairs) before ordinal after
    map_unput added members middle adding is none adds =
        let one = pairs_once schemas previous pairs (k, v) before middle adds.2 added adds.1 agree adding (map_parts adds) in
        let row = one_map added members adds.5.0 is (subst (λ ps. IsMapOf ps adds.5.0) (sym one.0) adds.5.1) in
        unput (Row.Map members) (Row.Map adds.5.0) middle adds.2 (ap Row.Map row) one.1 none adds.5.2
