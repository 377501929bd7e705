-- What the parts of a row print as is what it prints as, for its nodes.
use Rattle.std.proofs.Common.{◌≡◌, ℕ, zero, suc, ◌+◌, ◌-◌, ◌<◌, ◌≤◌, ◌∙◌, refl, sym, ap, subst, List, [], ◌∷◌, ◌++◌, length, map, zip, take, slice_get, Option, Some, None, Result, Ok, Err, arith}
use Rattle.std.specs.Prelude.{IsErrAnd, IsSomeAnd, slice_index_or}
use Rattle.std.specs.List.{AllZip}
use Rattle.std.proofs.lemmas.List.{take_more, length-take}
use Rattle.serde_json.specs.Data.{Data, Members, put}
use Rattle.serde_json.specs.View.{view}
use Rattle.serde_json.specs.declared.value.Value.{Value as Json}
use Rattle.schema_model.specs.declared.schema.name.Name.{Name}
use Rattle.schema_model.specs.declared.schema.Field.{Field}
use Rattle.schema_model.specs.declared.schema.FieldKind.{FieldKind}
use Rattle.schema_model.specs.declared.schema.Schema.{Schema}
use Rattle.schema_model.specs.declared.schema.Shape.{Shape}
use Rattle.row_model.specs.declared.row.Row.{Row}
use Rattle.row_model.specs.declared.row.Value.{Value}
use Rattle.schema_model.specs.Parts.{field_names, index_of_type}
use Rattle.row_model.specs.PlainTree.{PlainTree, leaf, object, list, set, map as map_tree, list_of_trees, list_of_pairs, node_count, node_count_of_trees, node_count_of_pairs, pairs_of_list, trees_of_list}
use Rattle.row_model.specs.Table.{Table, IsLive}
use Rattle.row_model.specs.Unfold.{tree_of_row, tree_of_type, tree_of_value, unfold_within}
use Rattle.schema_model.proofs.Ways.{deep_enough, type_inside}
use Rattle.json_rows.specs.StoredRow.{members_of_fields}
use Rattle.json_rows.proofs.Records.{put_last}
use Rattle.record_json.specs.PrintTree.{PrintsAt, PrintsField, PrintsPair, PrintsReference, PrintsShape, PrintsTyped, PrintsWithin}
use Rattle.record_json.specs.Printing.{CanPrint, IsShallow, PrintsItems, PrintsNamed, PrintsValued, TellsPrinted, count_of, count_pair, unfold_named}
use Rattle.record_json.specs.declared.print_fault.PrintFault.{PrintFault}
use Rattle.record_json.specs.declared.print_fault.PrintFault.TheVariants.{Nodes, Memory}

-- ---- answers that tell the same of something else

pub told_as : {A T : Type 0} (seen : T → A) (P Q : A → Type 0) (n m before after : ℕ) (r : Result T PrintFault) → ((x : A) → P x → Q x) → n ≡ m → TellsPrinted seen P n before after r → TellsPrinted seen Q m before after r
told_as seen P Q n m before after (Ok x) each same told = (each (seen x) told.0, subst (λ k. after + k ≡ before) same told.1)
told_as seen P Q n m before after (Err Nodes) each same told = subst (λ k. before < k) same told
told_as seen P Q n m before after (Err Memory) each same told = tt

-- one node more was taken off before
pub told_after : {A T : Type 0} (seen : T → A) (P Q : A → Type 0) (n m before between after : ℕ) (r : Result T PrintFault) → between + 1 ≡ before → ((x : A) → P x → Q x) → 1 + n ≡ m
    → TellsPrinted seen P n between after r → TellsPrinted seen Q m before after r
told_after seen P Q n m before between after (Ok x) one each same told = let spent = told.1 in (each (seen x) told.0, omega (arith, one, same, spent))
told_after seen P Q n m before between after (Err Nodes) one each same told = omega (arith, one, same, told)
told_after seen P Q n m before between after (Err Memory) one each same told = tt

-- a part that has more nodes than are left, in something that has more
further : {A B T S : Type 0} (seen : T → A) (seen' : S → B) (P : A → Type 0) (Q : B → Type 0) (n m before now after after' : ℕ) (fault : PrintFault) → (now < n → before < m)
    → TellsPrinted {A = A} {T = T} seen P n now after (Err fault) → TellsPrinted {A = B} {T = S} seen' Q m before after' (Err fault)
further seen seen' P Q n m before now after after' Nodes more told = more told
further seen seen' P Q n m before now after after' Memory more told = tt

pub stopped : {A B T S : Type 0} (seen : T → A) (seen' : S → B) (P : A → Type 0) (Q : B → Type 0) (n m before now after after' : ℕ) (fault : PrintFault) (r : Result S PrintFault) → IsErrAnd r (λ passed. passed ≡ fault)
    → (now < n → before < m) → TellsPrinted {A = A} {T = T} seen P n now after (Err fault) → TellsPrinted seen' Q m before after' r
stopped seen seen' P Q n m before now after after' fault (Ok x) is more told = absurd is
stopped {B = B} {S = S} seen seen' P Q n m before now after after' fault (Err passed) is more told =
    subst (λ f. TellsPrinted {A = B} {T = S} seen' Q m before after' (Err f)) (sym is) (further seen seen' P Q n m before now after after' fault more told)

-- ---- lists of parts

trees_print : {A : Type 0} (Prints : PlainTree → Data → Type 0) (f : A → PlainTree) (xs : List A) (parts : List Data) → AllZip (λ x part. Prints (f x) part) xs parts → AllZip Prints (list_of_trees (trees_of_list (map f xs))) parts
trees_print Prints f [] [] each = tt
trees_print Prints f [] (part ∷ parts) each = absurd each
trees_print Prints f (x ∷ xs) [] each = absurd each
trees_print Prints f (x ∷ xs) (part ∷ parts) each = (each.0, trees_print Prints f xs parts each.1)

pub trees_count : {A : Type 0} (f : A → PlainTree) (xs : List A) → count_of (λ x. node_count (f x)) xs ≡ node_count_of_trees (trees_of_list (map f xs))
trees_count f [] = refl
trees_count f (x ∷ xs) = ap (λ n. node_count (f x) + n) (trees_count f xs)

pairs_print : {A : Type 0} (Prints : PlainTree × PlainTree → Data → Type 0) (f : A → PlainTree × PlainTree) (xs : List A) (parts : List Data) → AllZip (λ x part. Prints (f x) part) xs parts
    → AllZip Prints (list_of_pairs (pairs_of_list (map f xs))) parts
pairs_print Prints f [] [] each = tt
pairs_print Prints f [] (part ∷ parts) each = absurd each
pairs_print Prints f (x ∷ xs) [] each = absurd each
pairs_print Prints f (x ∷ xs) (part ∷ parts) each = (each.0, pairs_print Prints f xs parts each.1)

pub pairs_count : {A : Type 0} (f : A → PlainTree × PlainTree) (xs : List A) → count_of (λ x. count_pair (f x)) xs ≡ node_count_of_pairs (pairs_of_list (map f xs))
pairs_count f [] = refl
pairs_count f (x ∷ xs) = let rest = pairs_count f xs in omega (arith, rest)

fields_long : (follow : Name → ℕ → PlainTree) (fields : List Field) (values : List Value) → length fields ≡ length values
    → length (list_of_trees (trees_of_list (map (λ part. tree_of_value follow part.0.kind part.1) (zip fields values)))) ≡ length fields
fields_long follow [] values long = refl
fields_long follow (field ∷ fields) [] long = absurd (omega arith)
fields_long follow (field ∷ fields) (value ∷ values) long = ap suc (fields_long follow fields values (omega arith))

fields_print : (Follow : Name → PlainTree → Data → Type 0) (follow : Name → ℕ → PlainTree) (fields : List Field) (values : List Value) (parts : List Data) → length fields ≡ length values
    → AllZip (λ valued part. PrintsField Follow valued.0.kind (tree_of_value follow valued.0.kind valued.1) part) (zip fields values) parts
    → AllZip (λ valued part. PrintsField Follow valued.0.kind valued.1 part) (zip fields (list_of_trees (trees_of_list (map (λ part. tree_of_value follow part.0.kind part.1) (zip fields values))))) parts
fields_print Follow follow [] values [] long each = tt
fields_print Follow follow [] values (part ∷ parts) long each = absurd each
fields_print Follow follow (field ∷ fields) [] parts long each = absurd (omega arith)
fields_print Follow follow (field ∷ fields) (value ∷ values) [] long each = absurd each
fields_print Follow follow (field ∷ fields) (value ∷ values) (part ∷ parts) long each = (each.0, fields_print Follow follow fields values parts (omega arith) each.1)

-- ---- the row of each shape

module _ (Follow : Name → PlainTree → Data → Type 0) (follow : Name → ℕ → PlainTree) (shape : Shape) (row : Row) (before between after : ℕ) (r : Result Json PrintFault) (one : between + 1 ≡ before) where
  abbrev pub Tells : Shape → Row → Type 0
  Tells s o = TellsPrinted view (PrintsShape Follow s (tree_of_row follow s o)) (node_count (tree_of_row follow s o)) before after r

  moved : (s : Shape) (o : Row) → shape ≡ s → row ≡ o → Tells s o → Tells shape row
  moved s o shape_is row_is told = subst (λ x. Tells x row) (sym shape_is) (subst (Tells s) (sym row_is) told)

  pub record_tells : (key : Option (List Name)) (fields fs : List Field) (values vs : List Value) → shape ≡ Shape.Object key fields → row ≡ Row.Object values → fs ≡ fields → vs ≡ values → length fs ≡ length vs
      → TellsPrinted view (PrintsValued Follow follow fs vs) (count_of (λ valued. node_count (tree_of_value follow valued.0.kind valued.1)) (zip fs vs)) between after r
      → Tells shape row
  record_tells key fields fs values vs shape_is row_is fs_are vs_are long told =
      moved (Shape.Object key fs) (Row.Object vs) (shape_is ∙ ap (Shape.Object key) (sym fs_are)) (row_is ∙ ap Row.Object (sym vs_are))
      (told_after view (PrintsValued Follow follow fs vs) (PrintsShape Follow (Shape.Object key fs) (tree_of_row follow (Shape.Object key fs) (Row.Object vs))) _ _ before between after r one
      (λ printed (parts, each, is). (parts, record { each = fields_long follow fs vs long; printed = fields_print Follow follow fs vs parts long each }, is))
      (ap (λ n. 1 + n) (trees_count (λ (part : Field × Value). tree_of_value follow part.0.kind part.1) (zip fs vs))) told)

  pub list_tells : (element : Name) (ordinals os : List ℕ) → shape ≡ Shape.List element → row ≡ Row.List ordinals → os ≡ ordinals
      → TellsPrinted view (PrintsItems (λ ordinal part. Follow element (follow element ordinal) part) os) (count_of (λ ordinal. node_count (follow element ordinal)) os) between after r
      → Tells shape row
  list_tells element ordinals os shape_is row_is are told =
      moved (Shape.List element) (Row.List os) shape_is (row_is ∙ ap Row.List (sym are))
      (told_after view (PrintsItems (λ ordinal part. Follow element (follow element ordinal) part) os) (PrintsShape Follow (Shape.List element) (tree_of_row follow (Shape.List element) (Row.List os))) _ _ before between after r one
      (λ printed (parts, each, is). (parts, trees_print (Follow element) (follow element) os parts each, is))
      (ap (λ n. 1 + n) (trees_count (follow element) os)) told)

  pub set_tells : (element : Name) (ordinals os : List ℕ) → shape ≡ Shape.Set element → row ≡ Row.Set ordinals → os ≡ ordinals
      → TellsPrinted view (PrintsItems (λ ordinal part. Follow element (follow element ordinal) part) os) (count_of (λ ordinal. node_count (follow element ordinal)) os) between after r
      → Tells shape row
  set_tells element ordinals os shape_is row_is are told =
      moved (Shape.Set element) (Row.Set os) shape_is (row_is ∙ ap Row.Set (sym are))
      (told_after view (PrintsItems (λ ordinal part. Follow element (follow element ordinal) part) os) (PrintsShape Follow (Shape.Set element) (tree_of_row follow (Shape.Set element) (Row.Set os))) _ _ before between after r one
      (λ printed (parts, each, is). (parts, trees_print (Follow element) (follow element) os parts each, is))
      (ap (λ n. 1 + n) (trees_count (follow element) os)) told)

  pub map_tells : (key value : Name) (pairs ps : List (ℕ × ℕ)) → shape ≡ Shape.Map key value → row ≡ Row.Map pairs → ps ≡ pairs
      → TellsPrinted view (PrintsItems (λ pair part. PrintsPair Follow key value (follow key pair.0, follow value pair.1) part) ps) (count_of (λ pair. count_pair (follow key pair.0, follow value pair.1)) ps) between after r
      → Tells shape row
  map_tells key value pairs ps shape_is row_is are told =
      moved (Shape.Map key value) (Row.Map ps) shape_is (row_is ∙ ap Row.Map (sym are))
      (told_after view (PrintsItems (λ pair part. PrintsPair Follow key value (follow key pair.0, follow value pair.1) part) ps) (PrintsShape Follow (Shape.Map key value) (tree_of_row follow (Shape.Map key value) (Row.Map ps))) _ _ before between after r one
      (λ printed (parts, each, is). (parts, pairs_print (PrintsPair Follow key value) (λ (pair : ℕ × ℕ). (follow key pair.0, follow value pair.1)) ps parts each, is))
      (ap (λ n. 1 + n) (pairs_count (λ (pair : ℕ × ℕ). (follow key pair.0, follow value pair.1)) ps)) told)

-- ---- the row of a type, by its name

module _ (schemas : List Schema) (table : Table) where
  module _ (depth : ℕ) (name : Name) (ordinal t : ℕ) (is : Some t ≡ index_of_type schemas name) (can : CanPrint schemas table depth name ordinal) where
    there_at : IsLive table t ordinal × IsShallow schemas depth t
    there_at = subst (λ o. IsSomeAnd o (λ u. IsLive table u ordinal × IsShallow schemas depth u)) (sym is) can

    pub named_live : IsLive table t ordinal
    named_live = there_at.0

    pub named_deep : 1 ≤ depth
    named_deep = deep_enough schemas depth t (type_inside schemas name t (sym is)) there_at.1

    pub again : suc (depth - 1) ≡ depth
    again = let deep = named_deep in omega (arith, deep)

    pub named_shallow : IsShallow schemas (suc (depth - 1)) t
    named_shallow = subst (λ n. IsShallow schemas n t) (sym again) there_at.1

    pub named_tells : (before after : ℕ) (r : Result Json PrintFault)
        → TellsPrinted view (PrintsWithin schemas (suc (depth - 1)) t (unfold_within schemas table (suc (depth - 1)) t ordinal)) (node_count (unfold_within schemas table (suc (depth - 1)) t ordinal)) before after r
        → TellsPrinted view (PrintsNamed schemas depth name (unfold_named schemas table depth name ordinal)) (node_count (unfold_named schemas table depth name ordinal)) before after r
    named_tells before after r told =
        let tree : unfold_within schemas table (suc (depth - 1)) t ordinal ≡ unfold_named schemas table depth name ordinal =
        ap (λ n. unfold_within schemas table n t ordinal) again ∙ ap (λ o. tree_of_type o (λ u. unfold_within schemas table depth u ordinal)) is in
        told_as view (PrintsWithin schemas (suc (depth - 1)) t (unfold_within schemas table (suc (depth - 1)) t ordinal)) (PrintsNamed schemas depth name (unfold_named schemas table depth name ordinal)) _ _ before after r
        (λ printed prints. subst (λ u. PrintsAt (PrintsWithin schemas depth) (index_of_type schemas name) u printed) tree
        (subst (λ o. PrintsAt (PrintsWithin schemas depth) o (unfold_within schemas table (suc (depth - 1)) t ordinal) printed) is
        (subst (λ n. PrintsWithin schemas n t (unfold_within schemas table (suc (depth - 1)) t ordinal) printed) again prints)))
        (ap node_count tree) told

-- ---- the record that a REFERENCE refers to

none_within : (schemas : List Schema) (depth t : ℕ) (value : Value) (printed : Data) → PrintsWithin schemas depth t (leaf value) printed → ⊥
none_within schemas zero t value printed prints = prints
none_within schemas (suc depth) t value printed prints = none_typed (slice_get schemas t) prints
  where
    none_shape : (shape : Shape) → PrintsShape (PrintsNamed schemas depth) shape (leaf value) printed → ⊥
    none_shape (Shape.Object key fields) none = none
    none_shape (Shape.List element) none = none
    none_shape (Shape.Set element) none = none
    none_shape (Shape.Map key value') none = none

    none_typed : (o : Option Schema) → PrintsTyped (PrintsNamed schemas depth) o (leaf value) printed → ⊥
    none_typed None none = none
    none_typed (Some schema) none = none_shape schema.shape none

none_at : (schemas : List Schema) (depth : ℕ) (o : Option ℕ) (value : Value) (printed : Data) → PrintsAt (PrintsWithin schemas depth) o (leaf value) printed → ⊥
none_at schemas depth None value printed prints = prints
none_at schemas depth (Some t) value printed prints = none_within schemas depth t value printed prints

pub reference_prints : (schemas : List Schema) (depth : ℕ) (name : Name) (tree : PlainTree) (printed : Data) → PrintsNamed schemas depth name tree printed → PrintsReference (PrintsNamed schemas depth) name tree printed
reference_prints schemas depth name (leaf value) printed prints = absurd (none_at schemas depth (index_of_type schemas name) value printed prints)
reference_prints schemas depth name (object trees) printed prints = prints
reference_prints schemas depth name (list trees) printed prints = prints
reference_prints schemas depth name (set trees) printed prints = prints
reference_prints schemas depth name (map_tree pairs) printed prints = prints

pub reference_tells : (schemas : List Schema) (table : Table) (depth : ℕ) (name : Name) (ordinal before after : ℕ) (kind : FieldKind) (value : Value) (r : Result Json PrintFault)
    → kind ≡ FieldKind.Reference name → value ≡ Value.Ref ordinal
    → TellsPrinted view (PrintsNamed schemas depth name (unfold_named schemas table depth name ordinal)) (node_count (unfold_named schemas table depth name ordinal)) before after r
    → TellsPrinted view (PrintsField (PrintsNamed schemas depth) kind (tree_of_value (unfold_named schemas table depth) kind value)) (node_count (tree_of_value (unfold_named schemas table depth) kind value)) before after r
reference_tells schemas table depth name ordinal before after kind value r kind_is value_is told =
    let Tells : FieldKind → Value → Type 0 =
    λ k v. TellsPrinted view (PrintsField (PrintsNamed schemas depth) k (tree_of_value (unfold_named schemas table depth) k v)) (node_count (tree_of_value (unfold_named schemas table depth) k v)) before after r in
    subst (λ k. Tells k value) (sym kind_is) (subst (Tells (FieldKind.Reference name)) (sym value_is)
    (told_as view (PrintsNamed schemas depth name (unfold_named schemas table depth name ordinal)) (PrintsField (PrintsNamed schemas depth) (FieldKind.Reference name) (unfold_named schemas table depth name ordinal)) _ _ before after r
    (λ printed prints. reference_prints schemas depth name (unfold_named schemas table depth name ordinal) printed prints) refl told))

-- ---- the members of a record, with one more

pub members_more : (fields : List Field) (place : ℕ) (field : Field) (parts : List Data) (part : Data) (old new : Members) → place < length fields → field ≡ slice_index_or fields place field → length parts ≡ place
    → old ≡ members_of_fields (zip (field_names (take place fields)) parts) → new ≡ put field.name part old → new ≡ members_of_fields (zip (field_names (take (place + 1) fields)) (parts ++ part ∷ []))
members_more fields place field parts part old new inside at long old_is new_is =
    let longer : take (place + 1) fields ≡ take place fields ++ field ∷ [] = take_more fields place field inside ∙ ap (λ f. take place fields ++ f ∷ []) (sym at) in
    let as_long : length (take place fields) ≡ length parts = let l = length-take place fields in omega (arith, l, long) in
    new_is ∙ ap (put field.name part) old_is ∙ sym (ap (λ fs. members_of_fields (zip (field_names fs) (parts ++ part ∷ []))) longer ∙ put_last (take place fields) parts field part _ as_long)
