-- What the record of a row prints as can be held by a value of serde_json, where the row and those that it names are within the limits of a state.
use Rattle.std.proofs.Common.{◌≡◌, ◌<◌, ◌≤◌, ◌+◌, ◌-◌, ◌*◌, ◌/◌, ◌%◌, ℕ, ℤ, pos, negsuc, zero, suc, List, [], ◌∷◌, ◌++◌, length, map, zip, Bool, true, false, cond, T, ltb, ltb→lt, Option, None, Some, inl, inr, refl, sym, ap, subst, arith, slice_get}
use Rattle.std.specs.Prelude.{All, Any, IsUtf8, flat_map, nat_lt, option_to_list, sum_by}
use Rattle.std.specs.Char.Escape.{encode_utf16}
use Rattle.std.specs.Char.{encode_utf8}
use Rattle.std.specs.List.{AllByRecursion, AllZip, fold, list_all}
use Rattle.std.specs.Ordering.{match_ordering, nat_cmp}
use Rattle.std.specs.Cmp.Lexicographic.{slice_cmp}
use Rattle.std.specs.Str.{IsAscii, chars, encode_utf8_all}
use Rattle.std.specs.declared.cmp.Ordering.TheVariants.{Less, Equal, Greater}
use Rattle.std.proofs.lemmas.Bool.{and_parts, cases_lt}
use Rattle.std.proofs.lemmas.List.{length-append}
use Rattle.std.proofs.lemmas.List.Elements.{All-from_recursion, All-head, All-tail}
use Rattle.std.proofs.lemmas.List.Sums.{sum_by-cons}
use Rattle.std.proofs.lemmas.Str.{IsUtf8-from_ascii, encodes-chars, len_utf8_bounds, length-encode}
use Rattle.std.proofs.lemmas.Str.Ascii.{IsAscii-from_all}
use Rattle.hex.specs.Hex.{encode_lower, lower_digits}
use Rattle.hex.proofs.HexLemmas.{IsAscii-encode_with, length-encode_with}
use Rattle.serde_json.specs.Data.{Data, Members, number, array, unsigned, no_members, member, put}
use Rattle.serde_json.specs.Events.{items_len}
use Rattle.serde_json.specs.Find.{of_integer}
use Rattle.serde_json.specs.View.{items_of}
use Rattle.hol_varint.specs.JavaUtf.{java_bytes, unit_bytes}
use Rattle.hol_varint.specs.TextUnits.{IsTextOf, text_units, units_bytes}
use Rattle.hol_varint.specs.Varint.{high_bytes, varint_bytes}
use Rattle.hol_varint.proofs.JavaUnits.{java_code}
use Rattle.schema_model.specs.declared.limit.Limit.TheVariants.{Bytes, Items}
use Rattle.schema_model.specs.declared.model.rule.Rule.{Rule}
use Rattle.schema_model.specs.declared.schema.name.Name.{Name}
use Rattle.schema_model.specs.declared.schema.Field.{Field}
use Rattle.schema_model.specs.declared.schema.FieldKind.{FieldKind}
use Rattle.schema_model.specs.declared.schema.Schema.{Schema}
use Rattle.schema_model.specs.declared.schema.Shape.{Shape}
use Rattle.schema_model.specs.Limit.{number_of_limit}
use Rattle.schema_model.specs.Model.{IsLongText, IsModel}
use Rattle.schema_model.specs.Parts.{field_names, field_texts, index_of_type, referenced, shape_fields, texts_of}
use Rattle.schema_model.specs.Schema.{EachName, EachNameOfField, EachNameOfShape, IsShortName}
use Rattle.row_model.specs.declared.row.Row.{Row}
use Rattle.row_model.specs.declared.row.Value.{Value}
use Rattle.row_model.specs.PlainTree.{PlainTree, leaf, list_of_trees, trees_of_list}
use Rattle.row_model.specs.Table.{Table, row_at}
use Rattle.row_model.specs.Unfold.{tree_of_live, tree_of_row, tree_of_type, tree_of_value, unfold_row, unfold_within}
use Rattle.type_rows.specs.WordsHeld.{value_bytes}
use Rattle.json_rows.specs.StoredRow.{IsValueData, numbers_data}
use Rattle.record_json.specs.Printing.{PrintsNamed, unfold_named}
use Rattle.record_json.specs.PrintTree.{PrintsAt, PrintsField, PrintsFields, PrintsPair, PrintsReference, PrintsShape, PrintsTyped, PrintsWithin}
use Rattle.answer_laws.specs.Limits.{IsRowWithin, IsWithinLimits}
use Rattle.answer_laws.specs.Storable.{AreStorable, HasStorable, IsStorable, IsStorableNumber, IsStorableText, PrintsStorable}
use Rattle.answer_laws.proofs.Printing.{named_no_leaf, pairs_back, shape_no_leaf, trees_back}

-- ---- how long texts are

-- each thing gives something
flat_long : {A : Type 0} (f : A → List ℕ) → ((x : A) → 1 ≤ length (f x)) → (xs : List A) → length xs ≤ length (flat_map f xs)
flat_long f some [] = omega arith
flat_long f some (x ∷ xs) =
    let one = some x in
    let rest = flat_long f some xs in
    let both = length-append (f x) (flat_map f xs) in
    omega (arith, one, rest, both)

varint_some : (n : ℕ) → 1 ≤ length (varint_bytes n)
unfolding varint_bytes
varint_some n = let both = length-append (high_bytes (n / 128)) (n % 128 ∷ []) in omega (arith, both)

units_long : (units : List ℕ) → length units ≤ length (units_bytes units)
units_long units = flat_long varint_bytes varint_some units

java_long : (units : List ℕ) → length units ≤ length (java_bytes units)
java_long units = flat_long unit_bytes java_code.some units

utf16_some : (c : ℕ) → 1 ≤ length (encode_utf16 c)
utf16_some c =
    elim (nat_lt c 65536) as (λ b. 1 ≤ length (cond b (c ∷ []) ((0xD800 + (c - 65536) / 0x400) ∷ (0xDC00 + (c - 65536) % 0x400) ∷ []))) [
      | true ↦ omega arith
      | false ↦ omega arith
    ]

-- a character takes four bytes at most, and one unit at least
characters_short : (cs : List ℕ) → length (encode_utf8_all cs) ≤ 4 * length (flat_map encode_utf16 cs)
characters_short [] = omega arith
characters_short (c ∷ cs) =
    let bytes = length-append (encode_utf8 c) (encode_utf8_all cs) in
    let here = length-encode c in
    let most = (len_utf8_bounds c).1 in
    let units = length-append (encode_utf16 c) (flat_map encode_utf16 cs) in
    let one = utf16_some c in
    let rest = characters_short cs in
    omega (arith, bytes, here, most, units, one, rest)

text_short : (text : List ℕ) → IsUtf8 text → length text ≤ 4 * length (text_units text)
text_short text is = subst (λ (bytes : List ℕ). length bytes ≤ 4 * length (text_units text)) (encodes-chars text is) (characters_short (chars text))

-- ---- names

name_storable : (name : Name) → IsUtf8 name → IsShortName name → IsStorableText name
name_storable name utf8 short =
    let bytes = text_short name utf8 in
    let units = java_long (text_units name) in
    (utf8, omega (arith, bytes, units, short))

short_of : (name : Name) → ¬ IsLongText name → IsShortName name
short_of name never = elim (cases_lt 65535 (length (java_bytes (text_units name)))) [ inl long ↦ absurd (never long) | inr within ↦ omega (arith, within) ]

each_short : (texts : List Name) → ¬ Any IsLongText texts → AllByRecursion IsShortName texts
each_short [] never = tt
each_short (text ∷ texts) never =
    (short_of text (λ long. never (0, text, omega arith, refl, long)), each_short texts (λ (k, x, lt, is, long). never (suc k, x, omega arith, is, long)))

behind : (xs ys : List Name) → AllByRecursion IsShortName (xs ++ ys) → AllByRecursion IsShortName ys
behind [] ys h = h
behind (x ∷ xs) ys h = behind xs ys h.1

-- The names of the fields can be held.
abbrev HasStorableNames : List Field → Type 0
HasStorableNames fields = AllByRecursion IsStorableText (field_names fields)

fields_named : (fields : List Field) → AllByRecursion IsShortName (flat_map field_texts fields) → All (EachNameOfField IsUtf8) fields → HasStorableNames fields
fields_named [] short utf8 = tt
fields_named (field ∷ fields) short utf8 = (
  name_storable field.name (All-head (EachNameOfField IsUtf8) field fields utf8).name short.0,
  fields_named fields (behind (option_to_list (referenced field.kind)) (flat_map field_texts fields) short.1) (All-tail (EachNameOfField IsUtf8) field fields utf8),
)

shape_named : (shape : Shape) → (name : Name) → AllByRecursion IsShortName (texts_of (record { name = name; shape = shape })) → EachNameOfShape IsUtf8 shape → HasStorableNames (shape_fields shape)
shape_named (Shape.Object None fields) name short utf8 = fields_named fields short.1 utf8.parts
shape_named (Shape.Object (Some paths) fields) name short utf8 = fields_named fields (behind paths (flat_map field_texts fields) short.1) utf8.parts
shape_named (Shape.Set element) name short utf8 = tt
shape_named (Shape.List element) name short utf8 = tt
shape_named (Shape.Map key value) name short utf8 = tt

all_at : (P : Schema → Type 0) (schemas : List Schema) (t : ℕ) (schema : Schema) → All P schemas → slice_get schemas t ≡ Some schema → P schema
all_at P [] t schema all at = absurd cc
all_at P (s ∷ schemas) zero schema all at = let same : s ≡ schema = cc in subst P same (All-head P s schemas all)
all_at P (s ∷ schemas) (suc t) schema all at = all_at P schemas t schema (All-tail P s schemas all) at

schema_named : (schemas : List Schema) → IsModel schemas → All (EachName IsUtf8) schemas → (t : ℕ) (schema : Schema) → slice_get schemas t ≡ Some schema → HasStorableNames (shape_fields schema.shape)
schema_named schemas model utf8 t schema at =
    shape_named schema.shape schema.name (each_short (texts_of schema) (λ long. model Rule.LongName t (schema, at, long))) (all_at (EachName IsUtf8) schemas t schema utf8 at).shape

-- ---- values

small_all : (text : List ℕ) → list_all (λ byte. ltb byte 128) text ≡ true → AllByRecursion (λ byte. byte < 128) text
small_all [] is = tt
small_all (byte ∷ bytes) is = let parts = and_parts _ _ is in (ltb→lt byte 128 (subst T (sym parts.0) tt), small_all bytes parts.1)

digits_ascii : IsAscii lower_digits
digits_ascii = IsAscii-from_all lower_digits (All-from_recursion (λ byte. byte < 128) lower_digits (small_all lower_digits refl))

hex_storable : (bytes : List ℕ) → length bytes ≤ number_of_limit Bytes → IsStorableText (encode_lower bytes)
hex_storable bytes few =
    let long = length-encode_with lower_digits bytes in
    (IsUtf8-from_ascii (encode_lower bytes) (IsAscii-encode_with lower_digits bytes digits_ascii), omega (arith, long, few))

units_text : (units text : List ℕ) → IsTextOf units text → length units ≤ number_of_limit Bytes → IsStorableText text
units_text units text is few =
    let bytes = text_short text is.utf8 in
    let same = ap (λ (xs : List ℕ). length xs) is.same in
    (is.utf8, omega (arith, bytes, same, few))

all_numbers : (numbers : List ℕ) → AreStorable (items_of (map (λ n. number (unsigned n)) numbers)) × (items_len (items_of (map (λ n. number (unsigned n)) numbers)) ≡ length numbers)
all_numbers [] = (tt, refl)
all_numbers (n ∷ numbers) = let rest = all_numbers numbers in ((tt, rest.0), ap suc rest.1)

numbers_storable : (numbers : List ℕ) → length numbers ≤ number_of_limit Bytes → IsStorable (numbers_data numbers)
numbers_storable numbers few = let all = all_numbers numbers in let long = all.1 in (omega (arith, long, few), all.0)

integer_storable : (z : ℤ) → IsStorableNumber (of_integer z)
integer_storable (pos n) = tt
integer_storable (negsuc n) = refl

leaf_storable : (value : Value) (printed : Data) → value_bytes value ≤ number_of_limit Bytes → IsValueData value printed → IsStorable printed
leaf_storable Value.Null printed few is = subst IsStorable (sym is) tt
leaf_storable (Value.Int n) printed few is = subst IsStorable (sym is) (integer_storable n)
leaf_storable (Value.Long n) printed few is = subst IsStorable (sym is) (integer_storable n)
leaf_storable (Value.Bool flag) printed few is = subst IsStorable (sym is) tt
leaf_storable (Value.Text units) printed few (inl (text, of, is)) = let long = units_long units in subst IsStorable (sym is) (units_text units text of (omega (arith, long, few)))
leaf_storable (Value.Text units) printed few (inr (never, is)) = let long = units_long units in subst IsStorable (sym is) (numbers_storable units (omega (arith, long, few)))
leaf_storable (Value.Bytes bytes) printed few is = subst IsStorable (sym is) (hex_storable bytes few)
leaf_storable (Value.Ref ordinal) printed few is = subst IsStorable (sym is) tt

-- ---- arrays and objects

items_storable : (parts : List Data) → AllByRecursion IsStorable parts → AreStorable (items_of parts) × (items_len (items_of parts) ≡ length parts)
items_storable [] all = (tt, refl)
items_storable (part ∷ parts) all = let rest = items_storable parts all.1 in ((all.0, rest.0), ap suc rest.1)

array_storable : (parts : List Data) → AllByRecursion IsStorable parts → length parts ≤ number_of_limit Items → IsStorable (array (items_of parts))
array_storable parts all few = let items = items_storable parts all in let long = items.1 in (omega (arith, long, few), items.0)

put_storable : (name : List ℕ) (datum : Data) (members : Members) → IsStorableText name → IsStorable datum → HasStorable members → HasStorable (put name datum members)
put_storable name datum no_members text is all = (text, is, tt)
put_storable name datum (member other value members) text is all =
    elim (slice_cmp nat_cmp name other) as (λ o. HasStorable (match_ordering o (member name datum (member other value members)) (member other datum members) (member other value (put name datum members)))) [
      | Less ↦ (text, is, all)
      | Equal ↦ (all.0, is, all.2)
      | Greater ↦ (all.0, all.1, put_storable name datum members text is all.2)
    ]

members_storable : (names : List Name) (parts : List Data) (so_far : Members) → AllByRecursion IsStorableText names → AllByRecursion IsStorable parts → HasStorable so_far
    → HasStorable (fold (λ members part. put part.0 part.1 members) so_far (zip names parts))
members_storable [] parts so_far texts all held = held
members_storable (name ∷ names) [] so_far texts all held = held
members_storable (name ∷ names) (part ∷ parts) so_far texts all held = members_storable names parts (put name part so_far) texts.1 all.1 (put_storable name part so_far texts.0 all.0 held)

-- each value of a record is as short as all together
values_short : (most : ℕ) (values : List Value) → sum_by value_bytes values ≤ most → AllByRecursion (λ value. value_bytes value ≤ most) values
values_short most [] few = tt
values_short most (value ∷ values) few = let sum = sum_by-cons value_bytes value values in (omega (arith, sum, few), values_short most values (omega (arith, sum, few)))

-- ---- the parts of a row, where what the rows that it names print as can be held

module _ (schemas : List Schema) (table : Table) (depth : ℕ)
    (each : (name : Name) (ordinal : ℕ) (printed : Data) → PrintsNamed schemas depth name (unfold_named schemas table depth name ordinal) printed → IsStorable printed) where
  abbrev Follow : Name → PlainTree → Data → Type 0
  Follow = PrintsNamed schemas depth

  abbrev follow : Name → ℕ → PlainTree
  follow = unfold_named schemas table depth

  reference_storable : (name : Name) (tree : PlainTree) (printed : Data) → (Follow name tree printed → IsStorable printed) → PrintsReference Follow name tree printed → IsStorable printed
  reference_storable name (leaf Value.Null) printed given prints = subst IsStorable (sym prints) tt
  reference_storable name tree printed given prints = given prints

  value_storable : (kind : FieldKind) (value : Value) (printed : Data) → value_bytes value ≤ number_of_limit Bytes → PrintsField Follow kind (tree_of_value follow kind value) printed → IsStorable printed
  value_storable (FieldKind.Reference name) (Value.Ref ordinal) printed few prints = reference_storable name (follow name ordinal) printed (each name ordinal printed) prints
  value_storable (FieldKind.Reference name) value printed few prints =
      reference_storable name (leaf value) printed (λ named. absurd (named_no_leaf schemas depth (index_of_type schemas name) value printed named)) prints
  value_storable FieldKind.Int value printed few prints = leaf_storable value printed few prints
  value_storable FieldKind.Long value printed few prints = leaf_storable value printed few prints
  value_storable FieldKind.Boolean value printed few prints = leaf_storable value printed few prints
  value_storable FieldKind.Text value printed few prints = leaf_storable value printed few prints
  value_storable FieldKind.Bytes value printed few prints = leaf_storable value printed few prints

  abbrev tree_at : Field × Value → PlainTree
  tree_at part = tree_of_value follow part.0.kind part.1

  values_storable : (fields : List Field) (values : List Value) (parts : List Data) → AllByRecursion (λ value. value_bytes value ≤ number_of_limit Bytes) values
      → AllZip (λ (valued : Field × PlainTree) part. PrintsField Follow valued.0.kind valued.1 part) (zip fields (map tree_at (zip fields values))) parts → AllByRecursion IsStorable parts
  values_storable fields values [] few prints = tt
  values_storable [] values (part ∷ parts) few prints = absurd prints
  values_storable (field ∷ fields) [] (part ∷ parts) few prints = absurd prints
  values_storable (field ∷ fields) (value ∷ values) (part ∷ parts) few prints = (value_storable field.kind value part few.0 prints.0, values_storable fields values parts few.1 prints.1)

  -- as many are printed as there are, and each can be held
  elements_storable : (element : Name) (ordinals : List ℕ) (parts : List Data) → AllZip (Follow element) (map (follow element) ordinals) parts → AllByRecursion IsStorable parts × (length parts ≡ length ordinals)
  elements_storable element [] [] prints = (tt, refl)
  elements_storable element [] (part ∷ parts) prints = absurd prints
  elements_storable element (ordinal ∷ ordinals) [] prints = absurd prints
  elements_storable element (ordinal ∷ ordinals) (part ∷ parts) prints =
      let rest = elements_storable element ordinals parts prints.1 in ((each element ordinal part prints.0, rest.0), ap suc rest.1)

  abbrev trees_of_pair : Name → Name → ℕ × ℕ → PlainTree × PlainTree
  trees_of_pair key value pair = (follow key pair.0, follow value pair.1)

  pair_storable : (key value : Name) (pair : ℕ × ℕ) (printed : Data) → PrintsPair Follow key value (trees_of_pair key value pair) printed → IsStorable printed
  pair_storable key value pair printed (first, second, one, other, is) =
      subst IsStorable (sym is) (omega arith, (each key pair.0 first one, (each value pair.1 second other, tt)))

  pairs_storable : (key value : Name) (pairs : List (ℕ × ℕ)) (parts : List Data) → AllZip (PrintsPair Follow key value) (map (trees_of_pair key value) pairs) parts
      → AllByRecursion IsStorable parts × (length parts ≡ length pairs)
  pairs_storable key value [] [] prints = (tt, refl)
  pairs_storable key value [] (part ∷ parts) prints = absurd prints
  pairs_storable key value (pair ∷ pairs) [] prints = absurd prints
  pairs_storable key value (pair ∷ pairs) (part ∷ parts) prints =
      let rest = pairs_storable key value pairs parts prints.1 in ((pair_storable key value pair part prints.0, rest.0), ap suc rest.1)

  list_storable : (element : Name) (ordinals : List ℕ) (printed : Data) → length ordinals ≤ number_of_limit Items
      → (parts : List Data) × AllZip (Follow element) (list_of_trees (trees_of_list (map (follow element) ordinals))) parts × (printed ≡ array (items_of parts)) → IsStorable printed
  list_storable element ordinals printed few (parts, prints, is) =
      let all = elements_storable element ordinals parts (subst (λ (trees : List PlainTree). AllZip (Follow element) trees parts) (trees_back (map (follow element) ordinals)) prints) in
      let long = all.1 in
      subst IsStorable (sym is) (array_storable parts all.0 (omega (arith, long, few)))

  shape_storable : (shape : Shape) (row : Row) (printed : Data) → HasStorableNames (shape_fields shape) → IsRowWithin row → PrintsShape Follow shape (tree_of_row follow shape row) printed → IsStorable printed
  shape_storable (Shape.Object key fields) (Row.Object values) printed names within (parts, prints, is) =
      let each_tree = subst (λ (trees : List PlainTree). PrintsFields Follow fields trees parts) (trees_back (map tree_at (zip fields values))) prints in
      subst IsStorable (sym is) (members_storable (field_names fields) parts no_members names (values_storable fields values parts (values_short (number_of_limit Bytes) values within.bytes) each_tree.printed) tt)
  shape_storable (Shape.List element) (Row.List ordinals) printed names within prints = list_storable element ordinals printed within.items prints
  shape_storable (Shape.Set element) (Row.Set ordinals) printed names within prints = list_storable element ordinals printed within.items prints
  shape_storable (Shape.Map key value) (Row.Map pairs) printed names within (parts, prints, is) =
      let all = pairs_storable key value pairs parts (subst (λ (trees : List (PlainTree × PlainTree)). AllZip (PrintsPair Follow key value) trees parts) (pairs_back (map (trees_of_pair key value) pairs)) prints) in
      let long = all.1 in
      let few = within.items in
      subst IsStorable (sym is) (array_storable parts all.0 (omega (arith, long, few)))
  shape_storable shape row printed names within prints = absurd prints

-- ---- by induction on how deep the type may be

module _ (schemas : List Schema) (table : Table) (model : IsModel schemas) (within : IsWithinLimits schemas table) where
  named_storable : (depth : ℕ) → ((t ordinal : ℕ) (printed : Data) → PrintsWithin schemas depth t (unfold_within schemas table depth t ordinal) printed → IsStorable printed) → (found : Option ℕ) (ordinal : ℕ) (printed : Data)
      → PrintsAt (PrintsWithin schemas depth) found (tree_of_type found (λ u. unfold_within schemas table depth u ordinal)) printed → IsStorable printed
  named_storable depth each None ordinal printed prints = absurd prints
  named_storable depth each (Some t) ordinal printed prints = each t ordinal printed prints

  typed_storable : (depth : ℕ) → ((t ordinal : ℕ) (printed : Data) → PrintsWithin schemas depth t (unfold_within schemas table depth t ordinal) printed → IsStorable printed) → (t ordinal : ℕ) (schema : Option Schema) (row : Option Row)
      → slice_get schemas t ≡ schema → row_at table t ordinal ≡ row → (printed : Data) → PrintsTyped (PrintsNamed schemas depth) schema (tree_of_live (unfold_named schemas table depth) schema row) printed → IsStorable printed
  typed_storable depth each t ordinal None row at there printed prints = absurd prints
  typed_storable depth each t ordinal (Some schema) None at there printed prints = absurd (shape_no_leaf (PrintsNamed schemas depth) schema.shape Value.Null printed prints)
  typed_storable depth each t ordinal (Some schema) (Some row) at there printed prints =
      shape_storable schemas table depth (λ name named part. named_storable depth each (index_of_type schemas name) named part) schema.shape row printed (schema_named schemas model within.names t schema at)
      (within.rows t ordinal schema row at there) prints

  within_storable : (depth t ordinal : ℕ) (printed : Data) → PrintsWithin schemas depth t (unfold_within schemas table depth t ordinal) printed → IsStorable printed
  within_storable zero t ordinal printed prints = absurd prints
  within_storable (suc depth) t ordinal printed prints = typed_storable depth (within_storable depth) t ordinal (slice_get schemas t) (row_at table t ordinal) refl refl printed prints

-- what the records of a table within the limits print as can be held
pub table_storable : (schemas : List Schema) (table : Table) → IsModel schemas → IsWithinLimits schemas table → PrintsStorable schemas table
unfolding unfold_row
table_storable schemas table model within t ordinal printed live prints = within_storable schemas table model within 32 t ordinal printed prints
