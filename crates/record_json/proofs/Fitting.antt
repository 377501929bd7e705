-- The tree that is read by the schemas of a model fits its type.
use Rattle.std.proofs.Common.{◌≡◌, ℕ, zero, suc, List, [], ◌∷◌, Option, Some, None, Result, Ok, Err, refl, sym, ap, subst, ◌∙◌, true, false, Bool, arith}
use Rattle.std.specs.Prelude.{IsSomeAnd, slice_get, Any, option_and_then, option_map, if◌then◌else◌}
use Rattle.serde_json.specs.Data.{Data, null, array, object as object_data, Items, no_items, item, Members}
use Rattle.serde_json.specs.Find.{get}
use Rattle.schema_model.specs.declared.schema.name.Name.{Name}
use Rattle.schema_model.specs.declared.schema.Field.{Field}
use Rattle.schema_model.specs.declared.schema.FieldKind.{FieldKind}
use Rattle.schema_model.specs.declared.schema.Schema.{Schema}
use Rattle.schema_model.specs.declared.schema.Shape.{Shape}
use Rattle.schema_model.specs.declared.model.rule.Rule.TheVariants.{UnknownType}
use Rattle.row_model.specs.declared.row.Value.{Value}
use Rattle.schema_model.specs.declared.reason.Reason.{Reason}
use Rattle.schema_model.specs.declared.reason.Reason.TheVariants.{UnknownField}
use Rattle.schema_model.specs.Model.{IsModel}
use Rattle.schema_model.specs.Parts.{index_of_type, shape_names}
use Rattle.row_model.specs.PlainTree.{PlainTree, PlainPairs, leaf, object, list, set, map, trees_of_list, pairs_of_list}
use Rattle.record_trees.specs.FitsTree.{FitsLeaf, IsLeafOr, AreKeysApart, FitsTree, FitFields, FitAll, FitPairs}
use Rattle.record_trees.specs.Types.{object_fields, list_element, set_element, map_types, referred, shape_at}
use Rattle.record_trees.proofs.Deciding.{keys_apart_or_not}
use Rattle.json_values.specs.ReadValue.{before, made_of, read_bytes, read_each, read_flag, read_kind, read_number, read_text, read_value}
use Rattle.record_json.specs.ReadTree.{are_fields, key_then, made, map_apart, read_at, read_both, read_field, read_fields, read_map, read_pair, read_present, read_reference, read_shape, read_typed, read_within}

-- what is read holds where it holds of each thing that may be read
abbrev IsRead : {A : Type 0} → A → A → Type 0
IsRead {A} x y = let first : Result A Reason = Ok x in first ≡ Ok y

of_read : {A : Type 0} (P : A → Type 0) (x y : A) → P x → IsRead x y → P y
of_read P x y holds is = let same : x ≡ y = cc in subst P same holds

of_made : {A B : Type 0} (P : B → Type 0) (make : A → B) (read : Result A Reason) (y : B) → ((x : A) → read ≡ Ok x → P (make x)) → made make read ≡ Ok y → P y
of_made P make (Ok x) y each is = of_read P (make x) y (each x refl) is
of_made P make (Err reason) y each is = absurd cc

of_value : {A : Type 0} (P : Value → Type 0) (make : A → Value) (read : Result A Reason) (y : Value) → ((x : A) → P (make x)) → made_of make read ≡ Ok y → P y
of_value P make (Ok x) y each is = of_read P (make x) y (each x) is
of_value P make (Err reason) y each is = absurd cc

of_before : {A : Type 0} (P : List A → Type 0) (first : Result A Reason) (rest : Result (List A) Reason) (xs : List A)
    → ((x : A) (ys : List A) → first ≡ Ok x → rest ≡ Ok ys → P (x ∷ ys)) → before first rest ≡ Ok xs → P xs
of_before P (Ok x) (Ok ys) xs each is = of_read P (x ∷ ys) xs (each x ys refl refl) is
of_before P (Ok x) (Err reason) xs each is = absurd cc
of_before P (Err reason) rest xs each is = absurd cc

-- a value that is read fits its kind
pub null_fits : (kind : FieldKind) → FitsLeaf kind Value.Null
null_fits (FieldKind.Reference name) = tt
null_fits FieldKind.Int = tt
null_fits FieldKind.Long = tt
null_fits FieldKind.Boolean = tt
null_fits FieldKind.Text = tt
null_fits FieldKind.Bytes = tt

kind_fits : (kind : FieldKind) (value : Data) (read : Value) → read_kind kind value ≡ Ok read → FitsLeaf kind read
kind_fits FieldKind.Int value read is = of_value (FitsLeaf FieldKind.Int) Value.Int (read_number 32 value) read (λ x. tt) is
kind_fits FieldKind.Long value read is = of_value (FitsLeaf FieldKind.Long) Value.Long (read_number 64 value) read (λ x. tt) is
kind_fits FieldKind.Boolean value read is = of_value (FitsLeaf FieldKind.Boolean) Value.Bool (read_flag value) read (λ x. tt) is
kind_fits FieldKind.Text value read is = of_value (FitsLeaf FieldKind.Text) Value.Text (read_text value) read (λ x. tt) is
kind_fits FieldKind.Bytes value read is = of_value (FitsLeaf FieldKind.Bytes) Value.Bytes (read_bytes value) read (λ x. tt) is
kind_fits (FieldKind.Reference name) value read is = absurd cc

value_fits : (kind : FieldKind) (value : Data) (read : Value) → read_value kind value ≡ Ok read → FitsLeaf kind read
value_fits kind null read is = of_read (FitsLeaf kind) Value.Null read (null_fits kind) is
value_fits kind value read is = kind_fits kind value read is

-- the type of this name is there, and the tree fits it
abbrev pub FitsNamed : List Schema → Name → PlainTree → Type 0
FitsNamed schemas name tree = IsSomeAnd (index_of_type schemas name) (λ t. FitsTree schemas t tree)

-- what a type's name and its JSON give fits the type
abbrev EachFits : List Schema → (Name → Data → Result PlainTree Reason) → Type 0
EachFits schemas follow = (name : Name) (value : Data) (tree : PlainTree) → follow name value ≡ Ok tree → FitsNamed schemas name tree

-- the tree fits the field
abbrev pub FitsField : List Schema → FieldKind → PlainTree → Type 0
FitsField schemas kind tree = IsLeafOr tree (FitsLeaf kind) (IsSomeAnd (referred schemas kind) (λ t. FitsTree schemas t tree))

pub some_and : {A : Type 0} (P : A → Type 0) (o : Option A) (x : A) → o ≡ Some x → P x → IsSomeAnd o P
some_and P o x is holds = subst (λ o'. IsSomeAnd o' P) (sym is) holds

and_some : {A : Type 0} (P : A → Type 0) (o : Option A) (x : A) → o ≡ Some x → IsSomeAnd o P → P x
and_some P o x is holds = subst (λ o'. IsSomeAnd o' P) is holds

no_leaf : (o : Option ℕ) → IsSomeAnd o (λ t. ⊥) → ⊥
no_leaf (Some t) none = none
no_leaf None none = none

pub record_fits : (schemas : List Schema) (name : Name) (tree : PlainTree) → FitsNamed schemas name tree → FitsField schemas (FieldKind.Reference name) tree
record_fits schemas name (leaf value) fits = absurd (no_leaf (index_of_type schemas name) fits)
record_fits schemas name (object trees) fits = fits
record_fits schemas name (list trees) fits = fits
record_fits schemas name (set trees) fits = fits
record_fits schemas name (map pairs) fits = fits

leaf_fits : (schemas : List Schema) (kind : FieldKind) (value : Data) (tree : PlainTree) → made leaf (read_value kind value) ≡ Ok tree → FitsField schemas kind tree
leaf_fits schemas kind value tree is = of_made (FitsField schemas kind) leaf (read_value kind value) tree (value_fits kind value) is

all_fit : (schemas : List Schema) (t : ℕ) (read : Data → Result PlainTree Reason) → ((value : Data) (tree : PlainTree) → read value ≡ Ok tree → FitsTree schemas t tree)
    → (items : Items) (trees : List PlainTree) → read_each read items ≡ Ok trees → FitAll schemas t (trees_of_list trees)
all_fit schemas t read each no_items trees is = of_read (λ ts. FitAll schemas t (trees_of_list ts)) [] trees tt is
all_fit schemas t read each (item value items) trees is =
    of_before (λ ts. FitAll schemas t (trees_of_list ts)) (read value) (read_each read items) trees (λ x ys first rest. (each value x first, all_fit schemas t read each items ys rest)) is

-- the keys and the values that are read fit their types
record ReadFits (schemas : List Schema) (types : ℕ × ℕ) (read_key read_part : Data → Result PlainTree Reason) : Type 0 where
  pub key : (value : Data) (tree : PlainTree) → read_key value ≡ Ok tree → FitsTree schemas types.0 tree
  pub part : (value : Data) (tree : PlainTree) → read_part value ≡ Ok tree → FitsTree schemas types.1 tree

abbrev FitsPair : List Schema → ℕ × ℕ → PlainTree × PlainTree → Type 0
FitsPair schemas types pair = FitsTree schemas types.0 pair.0 × FitsTree schemas types.1 pair.1

then_fits : (schemas : List Schema) (types : ℕ × ℕ) (key part : Result PlainTree Reason) (pair : PlainTree × PlainTree) → ((tree : PlainTree) → key ≡ Ok tree → FitsTree schemas types.0 tree)
    → ((tree : PlainTree) → part ≡ Ok tree → FitsTree schemas types.1 tree) → key_then key part ≡ Ok pair → FitsPair schemas types pair
then_fits schemas types (Ok key) (Ok part) pair first second is = of_read (FitsPair schemas types) (key, part) pair (first key refl, second part refl) is
then_fits schemas types (Ok key) (Err reason) pair first second is = absurd cc
then_fits schemas types (Err reason) part pair first second is = absurd cc

both_fit : (schemas : List Schema) (types : ℕ × ℕ) (read_key read_part : Data → Result PlainTree Reason) → ReadFits schemas types read_key read_part → (items : Items) (pair : PlainTree × PlainTree)
    → read_both read_key read_part items ≡ Ok pair → FitsPair schemas types pair
both_fit schemas types read_key read_part fit (item key (item value no_items)) pair is = then_fits schemas types (read_key key) (read_part value) pair (fit.key key) (fit.part value) is
both_fit schemas types read_key read_part fit items pair is = absurd cc

pair_fits : (schemas : List Schema) (types : ℕ × ℕ) (read_key read_part : Data → Result PlainTree Reason) → ReadFits schemas types read_key read_part → (value : Data) (pair : PlainTree × PlainTree)
    → read_pair read_key read_part value ≡ Ok pair → FitsPair schemas types pair
pair_fits schemas types read_key read_part fit (array items) pair is = both_fit schemas types read_key read_part fit items pair is
pair_fits schemas types read_key read_part fit value pair is = absurd cc

pairs_fit : (schemas : List Schema) (types : ℕ × ℕ) (read_key read_part : Data → Result PlainTree Reason) → ReadFits schemas types read_key read_part → (items : Items) (pairs : List (PlainTree × PlainTree))
    → read_each (read_pair read_key read_part) items ≡ Ok pairs → FitPairs schemas types (pairs_of_list pairs)
pairs_fit schemas types read_key read_part fit no_items pairs is = of_read (λ ps. FitPairs schemas types (pairs_of_list ps)) [] pairs tt is
pairs_fit schemas types read_key read_part fit (item value items) pairs is =
    of_before (λ ps. FitPairs schemas types (pairs_of_list ps)) (read_pair read_key read_part value) (read_each (read_pair read_key read_part) items) pairs
    (λ x ys first rest. let this = pair_fits schemas types read_key read_part fit value x first in (this.0, this.1, pairs_fit schemas types read_key read_part fit items ys rest)) is

-- a map that is read has the pairs that were read, and its keys are apart
apart_fits : (schemas : List Schema) (t : ℕ) (pairs : PlainPairs) (decided : Dec (AreKeysApart pairs)) (tree : PlainTree) → (AreKeysApart pairs → FitsTree schemas t (map pairs))
    → map_apart pairs decided ≡ Ok tree → FitsTree schemas t tree
apart_fits schemas t pairs (yes apart) tree fits is = of_read (FitsTree schemas t) (map pairs) tree (fits apart) is
apart_fits schemas t pairs (no same) tree fits is = absurd cc

map_fits : (schemas : List Schema) (t : ℕ) (read : Result (List (PlainTree × PlainTree)) Reason) (tree : PlainTree)
    → ((pairs : List (PlainTree × PlainTree)) → read ≡ Ok pairs → AreKeysApart (pairs_of_list pairs) → FitsTree schemas t (map (pairs_of_list pairs))) → read_map read ≡ Ok tree → FitsTree schemas t tree
map_fits schemas t (Ok pairs) tree fits is = apart_fits schemas t (pairs_of_list pairs) (keys_apart_or_not (pairs_of_list pairs)) tree (fits pairs refl) is
map_fits schemas t (Err reason) tree fits is = absurd cc

-- each type that a shape names is there
abbrev pub AreNamed : List Schema → Shape → Type 0
AreNamed schemas shape = ¬ Any (λ name. index_of_type schemas name ≡ None) (shape_names shape)

pub some_type : (o : Option ℕ) → (o ≡ None → ⊥) → (t : ℕ) × (o ≡ Some t)
some_type (Some t) known = (t, refl)
some_type None known = absurd (known refl)

pub pairs_of_types : (schemas : List Schema) (key value : Name) (k v : ℕ) → index_of_type schemas key ≡ Some k → index_of_type schemas value ≡ Some v → map_types schemas (Shape.Map key value) ≡ Some (k, v)
pairs_of_types schemas key value k v is is' =
    ap (option_and_then (λ k'. option_map (λ v'. (k', v')) (index_of_type schemas value))) is ∙ ap (option_map (λ v'. (k, v'))) is'

-- the parts of a record fit, where what they refer to does
module _ (schemas : List Schema) (follow : Name → Data → Result PlainTree Reason) (each : EachFits schemas follow) where
  reference_fits : (name : Name) (value : Data) (tree : PlainTree)
      → read_reference follow name value ≡ Ok tree → FitsField schemas (FieldKind.Reference name) tree
  reference_fits name null tree is = of_read (FitsField schemas (FieldKind.Reference name)) (leaf Value.Null) tree tt is
  reference_fits name value tree is = record_fits schemas name tree (each name value tree is)

  present_fits : (kind : FieldKind) (value : Data) (tree : PlainTree)
      → read_present follow kind value ≡ Ok tree → FitsField schemas kind tree
  present_fits (FieldKind.Reference name) value tree is = reference_fits name value tree is
  present_fits kind value tree is = leaf_fits schemas kind value tree is

  field_fits : (kind : FieldKind) (value : Option Data) (tree : PlainTree)
      → read_field follow kind value ≡ Ok tree → FitsField schemas kind tree
  field_fits kind None tree is = of_read (FitsField schemas kind) (leaf Value.Null) tree (null_fits kind) is
  field_fits kind (Some value) tree is = present_fits kind value tree is

  fields_fit : (fields : List Field) (value : Data) (trees : List PlainTree)
      → read_fields follow fields value ≡ Ok trees → FitFields schemas fields (trees_of_list trees)
  fields_fit [] value trees is = of_read (λ ts. FitFields schemas [] (trees_of_list ts)) [] trees refl is
  fields_fit (field ∷ fields) value trees is =
      of_before (λ ts. FitFields schemas (field ∷ fields) (trees_of_list ts)) (read_field follow field.kind (get field.name value)) (read_fields follow fields value) trees
      (λ x ys first rest. (field_fits field.kind (get field.name value) x first, fields_fit fields value ys rest)) is

  following : (name : Name) (t : ℕ) → index_of_type schemas name ≡ Some t
      → (value : Data) (tree : PlainTree) → follow name value ≡ Ok tree → FitsTree schemas t tree
  following name t is value tree reads = and_some (λ u. FitsTree schemas u tree) (index_of_type schemas name) t is (each name value tree reads)

  members_fit : (t : ℕ) (key : Option (List Name)) (fields : List Field) (shown : Members) (tree : PlainTree) (known : Bool)
      → shape_at schemas t ≡ Some (Shape.Object key fields)
      → (if known then made (λ trees. object (trees_of_list trees)) (read_fields follow fields (object_data shown)) else Err UnknownField) ≡ Ok tree → FitsTree schemas t tree
  members_fit t key fields shown tree true at is =
      of_made (FitsTree schemas t) (λ trees. object (trees_of_list trees)) (read_fields follow fields (object_data shown)) tree
      (λ trees reads. some_and (λ fs. FitFields schemas fs (trees_of_list trees)) _ fields (ap (option_and_then object_fields) at) (fields_fit fields (object_data shown) trees reads)) is
  members_fit t key fields shown tree false at is = absurd cc

  -- the elements of a list or of a set
  elements_fit : (element : Name) (items : Items) (trees : List PlainTree) (type : Option ℕ)
      → (index_of_type schemas element ≡ None → ⊥) → type ≡ index_of_type schemas element → read_each (follow element) items ≡ Ok trees → IsSomeAnd type (λ t. FitAll schemas t (trees_of_list trees))
  elements_fit element items trees type known is reads =
      let found = some_type (index_of_type schemas element) known in
      some_and (λ t. FitAll schemas t (trees_of_list trees)) type found.0 (is ∙ found.1) (all_fit schemas found.0 (follow element) (following element found.0 found.1) items trees reads)

  shape_fits : (t : ℕ) (shape : Shape) (value : Data) (tree : PlainTree)
      → AreNamed schemas shape → shape_at schemas t ≡ Some shape → read_shape follow shape value ≡ Ok tree → FitsTree schemas t tree
  shape_fits t shape null tree named at is = absurd cc
  shape_fits t (Shape.Object key fields) (object_data members) tree named at is = members_fit t key fields members tree (are_fields fields members) at is
  shape_fits t (Shape.List element) (array items) tree named at is =
      of_made (FitsTree schemas t) (λ trees. list (trees_of_list trees)) (read_each (follow element) items) tree
      (λ trees reads. elements_fit element items trees _ (λ e. named (0, element, omega arith, refl, e)) (ap (option_and_then (list_element schemas)) at) reads) is
  shape_fits t (Shape.Set element) (array items) tree named at is =
      of_made (FitsTree schemas t) (λ trees. set (trees_of_list trees)) (read_each (follow element) items) tree
      (λ trees reads. elements_fit element items trees _ (λ e. named (0, element, omega arith, refl, e)) (ap (option_and_then (set_element schemas)) at) reads) is
  shape_fits t (Shape.Map key value) (array items) tree named at is =
      let k = some_type (index_of_type schemas key) (λ e. named (0, key, omega arith, refl, e)) in
      let v = some_type (index_of_type schemas value) (λ e. named (1, value, omega arith, refl, e)) in
      map_fits schemas t (read_each (read_pair (follow key) (follow value)) items) tree
      (λ pairs reads apart. (
        some_and (λ types. FitPairs schemas types (pairs_of_list pairs)) _ (k.0, v.0) (ap (option_and_then (map_types schemas)) at ∙ pairs_of_types schemas key value k.0 v.0 k.1 v.1)
            (pairs_fit schemas (k.0, v.0) (follow key) (follow value) (record { key = following key k.0 k.1; part = following value v.0 v.1 }) items pairs reads),
        apart,
      )) is
  shape_fits t shape value tree named at is = absurd cc

  typed_fits : (t : ℕ) (schema : Option Schema) (value : Data) (tree : PlainTree)
      → IsModel schemas → slice_get schemas t ≡ schema → read_typed follow schema value ≡ Ok tree → FitsTree schemas t tree
  typed_fits t None value tree model at is = absurd cc
  typed_fits t (Some schema) value tree model at is =
      shape_fits t schema.shape value tree (λ unknown. model UnknownType t (schema, at, unknown)) (ap (option_map (λ s. s.shape)) at) is

named_fits : (schemas : List Schema) (read : ℕ → Data → Result PlainTree Reason) → ((t : ℕ) (value : Data) (tree : PlainTree) → read t value ≡ Ok tree → FitsTree schemas t tree)
    → (type : Option ℕ) (value : Data) (tree : PlainTree) → read_at read type value ≡ Ok tree → IsSomeAnd type (λ t. FitsTree schemas t tree)
named_fits schemas read each None value tree is = absurd cc
named_fits schemas read each (Some t) value tree is = each t value tree is

-- by induction on how deep the type may be
pub within_fits : (schemas : List Schema) → IsModel schemas → (depth t : ℕ) (value : Data) (tree : PlainTree) → read_within schemas depth t value ≡ Ok tree → FitsTree schemas t tree
within_fits schemas model zero t value tree is = absurd cc
within_fits schemas model (suc depth) t value tree is =
    typed_fits schemas (λ name part. read_at (read_within schemas depth) (index_of_type schemas name) part)
    (λ name part found reads. named_fits schemas (read_within schemas depth) (within_fits schemas model depth) (index_of_type schemas name) part found reads) t (slice_get schemas t) value tree model refl is
