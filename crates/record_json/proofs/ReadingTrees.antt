-- Records that are read part by part: fields in their order, elements and pairs.
use Rattle.std.proofs.Common.{◌≡◌, ℕ, ◌+◌, ◌<◌, ◌≤◌, List, [], ◌∷◌, ◌++◌, map, length, drop, Result, Ok, Err, Bool, ◌&&◌, String, string_bytes, refl, sym, ◌∙◌, ap, append_assoc, add-one, drop-cons}
use Rattle.std.specs.Prelude.{slice_index_or}
use Rattle.std.specs.List.{list_all}
use Rattle.std.specs.Map.{keys_of}
use Rattle.std.specs.declared.alloc.Global.{Global}
use Rattle.std.proofs.lemmas.List.{drop_all, append-nil, map-append}
use Rattle.serde_json.specs.Data.{Data}
use Rattle.serde_json.specs.Find.{get}
use Rattle.serde_json.specs.View.{members_view}
use Rattle.serde_json.specs.declared.value.Value.{Value}
use Rattle.schema_model.specs.declared.reason.Reason.{Reason}
use Rattle.schema_model.specs.declared.schema.name.Name.{Name}
use Rattle.schema_model.specs.declared.schema.Field.{Field}
use Rattle.row_model.specs.PlainTree.{PlainTree}
use Rattle.json_values.specs.ReadValue.{before}
use Rattle.record_json.specs.ReadTree.{is_field, are_fields, read_field, read_fields}
use Rattle.json_values.proofs.ReadingEach.{joined}

joined_before : {A : Type 0} (xs : List A) (x : A) (rest : Result (List A) Reason) → joined xs (before (Ok x) rest) ≡ joined (xs ++ x ∷ []) rest
joined_before xs x (Ok ys) = ap Ok (sym (append_assoc xs (x ∷ []) ys))
joined_before xs x (Err reason) = refl

none_joined : {A : Type 0} (rest : Result (List A) Reason) → rest ≡ joined [] rest
none_joined (Ok ys) = refl
none_joined (Err reason) = refl

-- the members of a map are those of its keys
pub known : (fields : List Field) (entries : List (String Global × Value)) (r : Bool) → r ≡ list_all (λ key. is_field fields (string_bytes key)) (keys_of entries)
    → r ≡ are_fields fields (members_view entries)
known fields [] r is = is
known fields (entry ∷ entries) r is = is ∙ ap (λ rest. is_field fields (string_bytes entry.0) && rest) (known fields entries _ refl)

-- the image of one item more
pub image_more : {A B : Type 0} (f : A → B) (old new : List A) (x : A) → new ≡ old ++ x ∷ [] → map f new ≡ map f old ++ f x ∷ []
image_more f old new x is = ap (map f) is ∙ map-append f old (x ∷ [])

-- so many fields were read, and gave these
pub record WasReadOf (follow : Name → Data → Result PlainTree Reason) (value : Data) (fields : List Field) (i : ℕ) (xs : List PlainTree) : Type 0 where
  pub whole : read_fields follow fields value ≡ joined xs (read_fields follow (drop i fields) value)

-- the field at a place comes before the rest
field_at : (follow : Name → Data → Result PlainTree Reason) (value : Data) (fields : List Field) (i : ℕ) (field : Field) → i < length fields → field ≡ slice_index_or fields i field
    → read_fields follow (drop i fields) value ≡ before (read_field follow field.kind (get field.name value)) (read_fields follow (drop (i + 1) fields) value)
field_at follow value fields i field inside at =
    let front : drop i fields ≡ slice_index_or fields i field ∷ drop (i + 1) fields = rw (add-one, drop-cons fields i field inside) in
    ap (λ fs. read_fields follow fs value) front ∙ ap (λ f. before (read_field follow f.kind (get f.name value)) (read_fields follow (drop (i + 1) fields) value)) (sym at)

pub fields_none : (follow : Name → Data → Result PlainTree Reason) (value : Data) (fields : List Field) → WasReadOf follow value fields 0 []
fields_none follow value fields = record { whole = none_joined (read_fields follow fields value) }

pub fields_more : (follow : Name → Data → Result PlainTree Reason) (value : Data) (fields : List Field) (i : ℕ) (field : Field) (xs new : List PlainTree) (x : PlainTree)
    → i < length fields → field ≡ slice_index_or fields i field
    → WasReadOf follow value fields i xs → read_field follow field.kind (get field.name value) ≡ Ok x → new ≡ xs ++ x ∷ [] → WasReadOf follow value fields (i + 1) new
fields_more follow value fields i field xs new x inside at was reads is =
    let rest = read_fields follow (drop (i + 1) fields) value in
    record { whole = was.whole ∙ ap (joined xs) (field_at follow value fields i field inside at ∙ ap (λ r. before r rest) reads) ∙ joined_before xs x rest ∙ ap (λ ys. joined ys rest) (sym is) }

pub fields_stop : (follow : Name → Data → Result PlainTree Reason) (value : Data) (fields : List Field) (i : ℕ) (field : Field) (xs : List PlainTree) (reason : Reason)
    → i < length fields → field ≡ slice_index_or fields i field
    → WasReadOf follow value fields i xs → read_field follow field.kind (get field.name value) ≡ Err reason → read_fields follow fields value ≡ Err reason
fields_stop follow value fields i field xs reason inside at was reads =
    let rest = read_fields follow (drop (i + 1) fields) value in
    was.whole ∙ ap (joined xs) (field_at follow value fields i field inside at ∙ ap (λ r. before r rest) reads)

pub fields_whole : (follow : Name → Data → Result PlainTree Reason) (value : Data) (fields : List Field) (i : ℕ) (xs : List PlainTree) → length fields ≤ i
    → WasReadOf follow value fields i xs → read_fields follow fields value ≡ Ok xs
fields_whole follow value fields i xs all was =
    was.whole ∙ ap (λ fs. joined xs (read_fields follow fs value)) (drop_all i fields all) ∙ ap Ok (append-nil xs)
