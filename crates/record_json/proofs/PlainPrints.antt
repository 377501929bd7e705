-- What a record prints as has no number with a fraction.
use Rattle.std.proofs.Common.{◌≡◌, ℕ, zero, suc, Bool, true, false, ◌||◌, List, [], ◌∷◌, Option, Some, None, refl, ◌∙◌, ap}
use Rattle.std.specs.Prelude.{slice_get, zip}
use Rattle.std.specs.List.{AllZip, AllByRecursion, fold}
use Rattle.std.specs.Ordering.{nat_cmp, match_ordering}
use Rattle.std.specs.declared.cmp.Ordering.{Ordering}
use Rattle.std.specs.declared.cmp.Ordering.TheVariants.{Less, Equal, Greater}
use Rattle.std.specs.Cmp.Lexicographic.{slice_cmp}
use Rattle.serde_json.specs.Data.{Data, object as object_data, Members, no_members, member, put}
use Rattle.serde_json.specs.View.{items_of}
use Rattle.serde_json.specs.Written.{has_float, items_have_float, members_have_float}
use Rattle.schema_model.specs.declared.schema.name.Name.{Name}
use Rattle.schema_model.specs.declared.schema.Field.{Field}
use Rattle.schema_model.specs.declared.schema.FieldKind.{FieldKind}
use Rattle.schema_model.specs.declared.schema.Schema.{Schema}
use Rattle.schema_model.specs.declared.schema.Shape.{Shape}
use Rattle.row_model.specs.declared.row.Row.{Row}
use Rattle.row_model.specs.declared.row.Value.{Value}
use Rattle.schema_model.specs.Parts.{field_names, index_of_type}
use Rattle.row_model.specs.PlainTree.{PlainTree, leaf, object, list, set, map as map_tree, list_of_trees, list_of_pairs}
use Rattle.json_rows.specs.StoredRow.{IsValueData}
use Rattle.json_rows.proofs.Printed.{row_has_none}
use Rattle.record_json.specs.PrintTree.{PrintsAt, PrintsField, PrintsPair, PrintsReference, PrintsShape, PrintsTyped, PrintsWithin}

-- there is no number with a fraction in it
abbrev IsPlainData : Data → Type 0
IsPlainData printed = has_float printed ≡ false

first_false : (x y : Bool) → (x || y) ≡ false → x ≡ false
first_false true y h = absurd cc
first_false false y h = refl

second_false : (x y : Bool) → (x || y) ≡ false → y ≡ false
second_false true y h = absurd cc
second_false false y h = h

both_false : (x y : Bool) → x ≡ false → y ≡ false → (x || y) ≡ false
both_false x y first second = ap (λ b. b || y) first ∙ second

-- a value is the only one of a record that prints
value_plain : (value : Value) (printed : Data) → IsValueData value printed → IsPlainData printed
value_plain value printed is =
    let field : Field = record { name = []; kind = FieldKind.Int } in
    first_false (has_float printed) false
    (row_has_none (Shape.Object None (field ∷ [])) (Row.Object (value ∷ [])) (object_data (member [] printed no_members)) (member [] printed no_members, (printed ∷ [], (is, tt), refl), refl))

-- ---- lists of parts

items_plain : {A : Type 0} (Prints : A → Data → Type 0) → ((x : A) (part : Data) → Prints x part → IsPlainData part) → (xs : List A) (parts : List Data) → AllZip Prints xs parts → items_have_float (items_of parts) ≡ false
items_plain Prints each [] [] all = refl
items_plain Prints each [] (part ∷ parts) all = absurd all
items_plain Prints each (x ∷ xs) [] all = absurd all
items_plain Prints each (x ∷ xs) (part ∷ parts) all = both_false (has_float part) (items_have_float (items_of parts)) (each x part all.0) (items_plain Prints each xs parts all.1)

each_plain : {A : Type 0} (Prints : A → Data → Type 0) → ((x : A) (part : Data) → Prints x part → IsPlainData part) → (xs : List A) (parts : List Data) → AllZip Prints xs parts → AllByRecursion IsPlainData parts
each_plain Prints each [] [] all = tt
each_plain Prints each [] (part ∷ parts) all = absurd all
each_plain Prints each (x ∷ xs) [] all = absurd all
each_plain Prints each (x ∷ xs) (part ∷ parts) all = (each x part all.0, each_plain Prints each xs parts all.1)

-- ---- the members of a record

placed_plain : (o : Ordering) (key : List ℕ) (d : Data) (other : List ℕ) (e : Data) (others : Members) → IsPlainData d → members_have_float (member other e others) ≡ false → members_have_float (put key d others) ≡ false
    → members_have_float (match_ordering o (member key d (member other e others)) (member other d others) (member other e (put key d others))) ≡ false
placed_plain Less key d other e others plain rest deeper = both_false (has_float d) (members_have_float (member other e others)) plain rest
placed_plain Equal key d other e others plain rest deeper = both_false (has_float d) (members_have_float others) plain (second_false (has_float e) (members_have_float others) rest)
placed_plain Greater key d other e others plain rest deeper = both_false (has_float e) (members_have_float (put key d others)) (first_false (has_float e) (members_have_float others) rest) deeper

put_plain : (key : List ℕ) (d : Data) (others : Members) → IsPlainData d → members_have_float others ≡ false → members_have_float (put key d others) ≡ false
put_plain key d no_members plain rest = both_false (has_float d) false plain refl
put_plain key d (member other e others) plain rest =
    placed_plain (slice_cmp nat_cmp key other) key d other e others plain rest (put_plain key d others plain (second_false (has_float e) (members_have_float others) rest))

members_plain : (names : List (List ℕ)) (parts : List Data) (so_far : Members) → AllByRecursion IsPlainData parts → members_have_float so_far ≡ false
    → members_have_float (fold (λ members part. put part.0 part.1 members) so_far (zip names parts)) ≡ false
members_plain [] parts so_far each rest = rest
members_plain (name ∷ names) [] so_far each rest = rest
members_plain (name ∷ names) (part ∷ parts) so_far each rest = members_plain names parts (put name part so_far) each.1 (put_plain name part so_far each.0 rest)

-- ---- records, where those that they refer to are plain

module _ (Follow : Name → PlainTree → Data → Type 0) (follows : (name : Name) (tree : PlainTree) (printed : Data) → Follow name tree printed → IsPlainData printed) where
  reference_plain : (name : Name) (tree : PlainTree) (printed : Data) → PrintsReference Follow name tree printed → IsPlainData printed
  reference_plain name (leaf Value.Null) printed prints = ap has_float prints
  reference_plain name tree printed prints = follows name tree printed prints

  leaf_plain : (kind : FieldKind) (value : Value) (printed : Data) → PrintsField Follow kind (leaf value) printed → IsPlainData printed
  leaf_plain (FieldKind.Reference name) value printed prints = reference_plain name (leaf value) printed prints
  leaf_plain kind value printed prints = value_plain value printed prints

  field_plain : (kind : FieldKind) (tree : PlainTree) (printed : Data) → PrintsField Follow kind tree printed → IsPlainData printed
  field_plain (FieldKind.Reference name) tree printed prints = reference_plain name tree printed prints
  field_plain kind (leaf value) printed prints = leaf_plain kind value printed prints
  field_plain kind tree printed prints = absurd prints

  pair_plain : (key value : Name) (pair : PlainTree × PlainTree) (printed : Data) → PrintsPair Follow key value pair printed → IsPlainData printed
  pair_plain key value pair printed (first, second, one, two, is) =
      ap has_float is ∙ both_false (has_float first) (has_float second || false) (follows key pair.0 first one) (both_false (has_float second) false (follows value pair.1 second two) refl)

  shape_plain : (shape : Shape) (tree : PlainTree) (printed : Data) → PrintsShape Follow shape tree printed → IsPlainData printed
  shape_plain (Shape.Object key fields) (object trees) printed (parts, print, is) =
      ap has_float is
      ∙ members_plain (field_names fields) parts no_members
      (each_plain (λ (valued : Field × PlainTree) part. PrintsField Follow valued.0.kind valued.1 part) (λ valued part prints. field_plain valued.0.kind valued.1 part prints) (zip fields (list_of_trees trees)) parts print.printed) refl
  shape_plain (Shape.List element) (list trees) printed (parts, all, is) = ap has_float is ∙ items_plain (Follow element) (follows element) (list_of_trees trees) parts all
  shape_plain (Shape.Set element) (set trees) printed (parts, all, is) = ap has_float is ∙ items_plain (Follow element) (follows element) (list_of_trees trees) parts all
  shape_plain (Shape.Map key value) (map_tree pairs) printed (parts, all, is) = ap has_float is ∙ items_plain (PrintsPair Follow key value) (pair_plain key value) (list_of_pairs pairs) parts all
  shape_plain shape tree printed prints = absurd prints

  typed_plain : (schema : Option Schema) (tree : PlainTree) (printed : Data) → PrintsTyped Follow schema tree printed → IsPlainData printed
  typed_plain None tree printed prints = absurd prints
  typed_plain (Some schema) tree printed prints = shape_plain schema.shape tree printed prints

at_plain : (Prints : ℕ → PlainTree → Data → Type 0) → ((t : ℕ) (tree : PlainTree) (printed : Data) → Prints t tree printed → IsPlainData printed)
    → (type : Option ℕ) (tree : PlainTree) (printed : Data) → PrintsAt Prints type tree printed → IsPlainData printed
at_plain Prints each None tree printed prints = absurd prints
at_plain Prints each (Some t) tree printed prints = each t tree printed prints

-- by induction on how deep the type may be
pub within_plain : (schemas : List Schema) (depth t : ℕ) (tree : PlainTree) (printed : Data) → PrintsWithin schemas depth t tree printed → has_float printed ≡ false
within_plain schemas zero t tree printed prints = absurd prints
within_plain schemas (suc depth) t tree printed prints =
    typed_plain (λ name part. PrintsAt (PrintsWithin schemas depth) (index_of_type schemas name) part)
    (λ name part shown shows. at_plain (PrintsWithin schemas depth) (within_plain schemas depth) (index_of_type schemas name) part shown shows) (slice_get schemas t) tree printed prints
