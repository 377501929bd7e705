-- A tree prints as one value at most.
use Rattle.std.proofs.Common.{◌≡◌, ℕ, zero, suc, List, [], ◌∷◌, Option, Some, None, inl, inr, refl, sym, ap, ◌∙◌}
use Rattle.std.specs.List.{AllZip}
use Rattle.std.specs.Prelude.{slice_get, zip}
use Rattle.serde_json.specs.Data.{Data, array, item, no_items, object as object_data, string}
use Rattle.serde_json.specs.View.{items_of}
use Rattle.hol_varint.proofs.Characters.{text_once}
use Rattle.row_model.specs.declared.row.Value.{Value}
use Rattle.schema_model.specs.declared.schema.Field.{Field}
use Rattle.schema_model.specs.declared.schema.FieldKind.{FieldKind}
use Rattle.schema_model.specs.declared.schema.Schema.{Schema}
use Rattle.schema_model.specs.declared.schema.Shape.{Shape}
use Rattle.schema_model.specs.declared.schema.name.Name.{Name}
use Rattle.schema_model.specs.Parts.{field_names, index_of_type}
use Rattle.row_model.specs.PlainTree.{PlainTree, leaf, object, list, set, map as map_tree, list_of_pairs, list_of_trees}
use Rattle.json_rows.specs.StoredRow.{IsTextData, IsValueData, members_of_fields}
use Rattle.record_json.specs.PrintTree.{PrintsAt, PrintsField, PrintsPair, PrintsReference, PrintsShape, PrintsTree, PrintsTyped, PrintsWithin}

text_once_data : (units : List ℕ) (a b : Data) → IsTextData units a → IsTextData units b → a ≡ b
text_once_data units a b (inl (s, of_s, a_is)) (inl (t, of_t, b_is)) = a_is ∙ ap string (text_once units s t of_s of_t) ∙ sym b_is
text_once_data units a b (inl (s, of_s, a_is)) (inr (bad, b_is)) = absurd (bad (s, of_s))
text_once_data units a b (inr (bad, a_is)) (inl (t, of_t, b_is)) = absurd (bad (t, of_t))
text_once_data units a b (inr (bad, a_is)) (inr (also, b_is)) = a_is ∙ sym b_is

value_once : (value : Value) (a b : Data) → IsValueData value a → IsValueData value b → a ≡ b
value_once (Value.Text units) a b h g = text_once_data units a b h g
value_once _ a b h g = h ∙ sym g

-- where each of a list has one beside it, the list beside it is one
pub each_once : {X Y : Type 0} (R : X → Y → Type 0) → ((x : X) (a b : Y) → R x a → R x b → a ≡ b) → (xs : List X) (ds bs : List Y) → AllZip R xs ds → AllZip R xs bs → ds ≡ bs
each_once R one [] [] [] h g = refl
each_once R one [] [] (b ∷ bs) h g = absurd g
each_once R one [] (a ∷ ds) bs h g = absurd h
each_once R one (x ∷ xs) [] bs h g = absurd h
each_once R one (x ∷ xs) (a ∷ ds) [] h g = absurd g
each_once R one (x ∷ xs) (a ∷ ds) (b ∷ bs) h g =
    let first = one x a b h.0 g.0 in
    let others = each_once R one xs ds bs h.1 g.1 in λ i. first i ∷ others i

module _ (Follow : Name → PlainTree → Data → Type 0) (once : (name : Name) (tree : PlainTree) (a b : Data) → Follow name tree a → Follow name tree b → a ≡ b) where
  reference_once : (name : Name) (tree : PlainTree) (a b : Data) → PrintsReference Follow name tree a → PrintsReference Follow name tree b → a ≡ b
  reference_once name (leaf Value.Null) a b h g = h ∙ sym g
  reference_once name (leaf value) a b h g = once name (leaf value) a b h g
  reference_once name (object trees) a b h g = once name (object trees) a b h g
  reference_once name (list trees) a b h g = once name (list trees) a b h g
  reference_once name (set trees) a b h g = once name (set trees) a b h g
  reference_once name (map_tree pairs) a b h g = once name (map_tree pairs) a b h g

  field_once : (kind : FieldKind) (tree : PlainTree) (a b : Data) → PrintsField Follow kind tree a → PrintsField Follow kind tree b → a ≡ b
  field_once (FieldKind.Reference name) tree a b h g = reference_once name tree a b h g
  field_once _ (leaf value) a b h g = value_once value a b h g
  field_once _ _ a b h g = absurd h

  pair_once : (key value : Name) (pair : PlainTree × PlainTree) (a b : Data) → PrintsPair Follow key value pair a → PrintsPair Follow key value pair b → a ≡ b
  pair_once key value pair a b (x, y, of_x, of_y, a_is) (u, v, of_u, of_v, b_is) =
      let first = once key pair.0 x u of_x of_u in
      let second = once value pair.1 y v of_y of_v in
      a_is ∙ (λ i. array (item (first i) (item (second i) no_items))) ∙ sym b_is

  arrays_once : {X : Type 0} (R : X → Data → Type 0) → ((x : X) (a b : Data) → R x a → R x b → a ≡ b) → (xs : List X) (a b : Data)
      → (parts : List Data) × AllZip R xs parts × (a ≡ array (items_of parts)) → (parts : List Data) × AllZip R xs parts × (b ≡ array (items_of parts)) → a ≡ b
  arrays_once R one xs a b (ds, are, a_is) (bs, also, b_is) = a_is ∙ ap (λ parts. array (items_of parts)) (each_once R one xs ds bs are also) ∙ sym b_is

  shape_once : (shape : Shape) (tree : PlainTree) (a b : Data) → PrintsShape Follow shape tree a → PrintsShape Follow shape tree b → a ≡ b
  shape_once (Shape.Object key fields) (object trees) a b (ds, are, a_is) (bs, also, b_is) =
      let same = each_once (λ (valued : Field × PlainTree) part. PrintsField Follow valued.0.kind valued.1 part) (λ valued x y h g. field_once valued.0.kind valued.1 x y h g)
      (zip fields (list_of_trees trees)) ds bs are.printed also.printed in
      a_is ∙ ap (λ parts. object_data (members_of_fields (zip (field_names fields) parts))) same ∙ sym b_is
  shape_once (Shape.List element) (list trees) a b h g = arrays_once (Follow element) (once element) (list_of_trees trees) a b h g
  shape_once (Shape.Set element) (set trees) a b h g = arrays_once (Follow element) (once element) (list_of_trees trees) a b h g
  shape_once (Shape.Map key value) (map_tree pairs) a b h g = arrays_once (PrintsPair Follow key value) (pair_once key value) (list_of_pairs pairs) a b h g
  shape_once _ _ a b h g = absurd h

  typed_once : (found : Option Schema) (tree : PlainTree) (a b : Data) → PrintsTyped Follow found tree a → PrintsTyped Follow found tree b → a ≡ b
  typed_once None tree a b h g = absurd h
  typed_once (Some schema) tree a b h g = shape_once schema.shape tree a b h g

at_once : (Prints : ℕ → PlainTree → Data → Type 0) → ((t : ℕ) (tree : PlainTree) (a b : Data) → Prints t tree a → Prints t tree b → a ≡ b) → (found : Option ℕ) (tree : PlainTree) (a b : Data)
    → PrintsAt Prints found tree a → PrintsAt Prints found tree b → a ≡ b
at_once Prints once None tree a b h g = absurd h
at_once Prints once (Some t) tree a b h g = once t tree a b h g

within_once : (schemas : List Schema) (depth t : ℕ) (tree : PlainTree) (a b : Data) → PrintsWithin schemas depth t tree a → PrintsWithin schemas depth t tree b → a ≡ b
within_once schemas zero t tree a b h g = absurd h
within_once schemas (suc depth) t tree a b h g =
    typed_once (λ name part. PrintsAt (PrintsWithin schemas depth) (index_of_type schemas name) part)
    (λ name part x y p q. at_once (PrintsWithin schemas depth) (within_once schemas depth) (index_of_type schemas name) part x y p q) (slice_get schemas t) tree a b h g

pub tree_once : (schemas : List Schema) (t : ℕ) (tree : PlainTree) (a b : Data) → PrintsTree schemas t tree a → PrintsTree schemas t tree b → a ≡ b
tree_once schemas t tree a b h g = within_once schemas 32 t tree a b h g
