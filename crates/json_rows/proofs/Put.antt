-- What is put for a row: its numbers, its pairs and its members, as the text of the data that it prints as.
use Rattle.std.proofs.Common.{◌≡◌, ℕ, ℤ, pos, negsuc, zero, suc, ◌+◌, ◌<◌, ◌≤◌, true, nat_lt, List, [], ◌∷◌, ◌++◌, length, map, drop, get_or, decimal, String, Global, string_bytes, codes, refl, sym, ap, ◌∙◌, subst, arith, append_assoc}
use Rattle.std.specs.Fmt.{signed_decimal}
use Rattle.std.specs.List.{AllZip}
use Rattle.std.proofs.lemmas.List.{drop_more, drop_all}
use Rattle.std.proofs.lemmas.Slice.Zip.{AllZip-long}
use Rattle.json.specs.Print.{quoted, escape_byte}
use Rattle.serde_json.specs.Data.{Data, null, number, unsigned, array, item, no_items, object}
use Rattle.serde_json.specs.Find.{of_integer}
use Rattle.serde_json.specs.View.{items_of}
use Rattle.serde_json.specs.Written.{comma_if, compact_text, items_text, number_text}
use Rattle.schema_model.specs.Parts.{shape_fields}
use Rattle.schema_model.specs.declared.schema.Shape.{Shape}
use Rattle.row_model.specs.declared.row.Row.{Row}
use Rattle.row_model.specs.declared.row.Value.{Value}
use Rattle.row_model.specs.Row.{FitsKind, FitsShape}
use Rattle.json_rows.specs.FieldOrder.{Order, AreBelow}
use Rattle.json_rows.specs.LineForm.{text_at}
use Rattle.json_rows.specs.RowLine.{PutsItems, PutsPairs, PutsRecord, PutsRow, row_data, values_of}
use Rattle.json_rows.specs.StoredRow.{IsValueData}
use Rattle.json_rows.proofs.Behind.{behind_both}
use Rattle.json_rows.proofs.Leads.{later}

pub integer_text : (z : ℤ) → number_text (of_integer z) ≡ signed_decimal z
integer_text (pos n) = refl
integer_text (negsuc n) = refl

-- the item at a place of both lists
pub at_place : {A B : Type 0} (R : A → B → Type 0) (xs : List A) (ys : List B) (i : ℕ) (x : A) (y : B) → AllZip R xs ys → i < length xs → R (get_or xs i x) (get_or ys i y)
at_place R [] [] i x y all fits = absurd (omega arith)
at_place R [] (b ∷ ys) i x y all fits = absurd all
at_place R (a ∷ xs) [] i x y all fits = absurd all
at_place R (a ∷ xs) (b ∷ ys) zero x y all fits = all.0
at_place R (a ∷ xs) (b ∷ ys) (suc i) x y all fits = at_place R xs ys i x y all.1 (omega arith)

abbrev pub pair_data : ℕ × ℕ → Data
pair_data pair = array (item (number (unsigned pair.0)) (item (number (unsigned pair.1)) no_items))

-- items that are put one after another, from a place on
abbrev pub items_from : {A : Type 0} → (A → Data) → List A → ℕ → List ℕ
items_from data_of xs place = items_text (nat_lt 0 place) (items_of (map data_of (drop place xs)))

-- one item is put, behind a comma where one stands before
pub item_put : {A : Type 0} (data_of : A → Data) (xs : List A) (place : ℕ) (d : A) (whole out ready new : List ℕ) → place < length xs →
    ready ≡ out ++ comma_if (nat_lt 0 place) → new ≡ ready ++ compact_text (data_of (get_or xs place d)) →
    out ++ items_from data_of xs place ≡ whole → new ++ items_from data_of xs (place + 1) ≡ whole
item_put data_of xs place d whole out ready new fits ready_is new_is rest =
    let here : drop place xs ≡ get_or xs place d ∷ drop (place + 1) xs = drop_more xs place d fits in
    let comma = comma_if (nat_lt 0 place) in
    let text = compact_text (data_of (get_or xs place d)) in
    let behind = items_text true (items_of (map data_of (drop (place + 1) xs))) in
    ap (λ b. new ++ items_text b (items_of (map data_of (drop (place + 1) xs)))) (later place)
    ∙ ap (λ t. t ++ behind) (new_is ∙ ap (λ t. t ++ text) ready_is)
    ∙ append_assoc (out ++ comma) text behind ∙ append_assoc out comma (text ++ behind)
    ∙ ap (λ ys. out ++ items_text (nat_lt 0 place) (items_of (map data_of ys))) (sym here)
    ∙ rest

-- all items are put, and then the end
pub items_put : {A : Type 0} (data_of : A → Data) (xs : List A) (place : ℕ) (whole out new : List ℕ) → length xs ≤ place → new ≡ out ++ 93 ∷ [] →
    out ++ items_from data_of xs place ≡ whole → new ≡ whole
items_put data_of xs place whole out new done new_is rest =
    new_is ∙ ap (λ ys. out ++ items_text (nat_lt 0 place) (items_of (map data_of ys))) (sym (drop_all place xs done)) ∙ rest

-- one field is put, behind its lead
pub field_put : (leads : Order) (values : List Value) (printed : List Data) (place : ℕ) (lead : String Global × ℕ) (value : Value) (behind whole out led new : List ℕ) →
    place < length leads → lead ≡ get_or leads place lead → AllZip IsValueData values printed → lead.1 < length values → value ≡ get_or values lead.1 value →
    led ≡ out ++ string_bytes lead.0 → ((data_ : Data) → IsValueData value data_ → new ≡ led ++ compact_text data_) →
    out ++ text_at (drop place leads) printed behind ≡ whole → new ++ text_at (drop (place + 1) leads) printed behind ≡ whole
field_put leads values printed place lead value behind whole out led new fits lead_is all within value_is led_is new_is rest =
    let here : drop place leads ≡ lead ∷ drop (place + 1) leads = drop_more leads place lead fits ∙ ap (λ y. y ∷ drop (place + 1) leads) (sym lead_is) in
    let part = get_or printed lead.1 null in
    let prints : IsValueData value part = subst (λ v. IsValueData v part) (sym value_is) (at_place IsValueData values printed lead.1 value null all within) in
    let text = compact_text part in
    let more = text_at (drop (place + 1) leads) printed behind in
    ap (λ t. t ++ more) (new_is part prints ∙ ap (λ t. t ++ text) led_is)
    ∙ append_assoc (out ++ string_bytes lead.0) text more ∙ append_assoc out (string_bytes lead.0) (text ++ more)
    ∙ ap (λ ls. out ++ text_at ls printed behind) (sym here)
    ∙ rest

-- a row of each kind, in whatever shape it fits
pub record_put : (leads : Order) (values : List Value) (old new : List ℕ) → PutsRecord leads values old new → PutsRow leads (Row.Object values) old new
record_put leads values old new put (Shape.Object key fields) are fits printed (_, (parts, prints, members_is), is) =
    let long : length parts ≡ length fields = AllZip-long _ values parts prints ∙ AllZip-long (λ field value. FitsKind field.kind value) fields values fits in
    put parts prints ∙ ap (λ t. old ++ 123 ∷ t) (are.text parts long) ∙ ap (λ d. old ++ compact_text d) (sym (is ∙ ap object members_is))
record_put leads values old new put _ are fits printed prints = absurd fits

pub list_put : (leads : Order) (ordinals old new : List ℕ) → PutsItems ordinals old new → PutsRow leads (Row.List ordinals) old new
list_put leads ordinals old new put (Shape.List element) are fits printed prints = put ∙ ap (λ d. old ++ compact_text d) (sym prints)
list_put leads ordinals old new put _ are fits printed prints = absurd fits

pub set_put : (leads : Order) (ordinals old new : List ℕ) → PutsItems ordinals old new → PutsRow leads (Row.Set ordinals) old new
set_put leads ordinals old new put (Shape.Set element) are fits printed prints = put ∙ ap (λ d. old ++ compact_text d) (sym prints)
set_put leads ordinals old new put _ are fits printed prints = absurd fits

pub map_put : (leads : Order) (pairs : List (ℕ × ℕ)) (old new : List ℕ) → PutsPairs pairs old new → PutsRow leads (Row.Map pairs) old new
map_put leads pairs old new put (Shape.Map key value) are fits printed prints = put ∙ ap (λ d. old ++ compact_text d) (sym prints)
map_put leads pairs old new put _ are fits printed prints = absurd fits

-- a place of each field is one of each value of a row that fits
pub values_below : (shape : Shape) (row : Row) (order : Order) → FitsShape shape row → AreBelow (length (shape_fields shape)) order → AreBelow (length (values_of row)) order
values_below (Shape.Object key fields) (Row.Object values) order fits below =
    subst (λ bound. AreBelow bound order) (sym (AllZip-long (λ field value. FitsKind field.kind value) fields values fits)) below
values_below (Shape.List element) (Row.List ordinals) order fits below = below
values_below (Shape.Set element) (Row.Set ordinals) order fits below = below
values_below (Shape.Map key value) (Row.Map pairs) order fits below = below
values_below _ _ order fits below = absurd fits

-- the parts of a line
start_text : (rest : List ℕ) → codes "{\"ordinal\":" ++ rest ≡ 123 ∷ (quoted (codes "ordinal") ++ 58 ∷ rest)
unfolding escape_byte
start_text rest = refl

row_text : (rest : List ℕ) → codes ",\"row\":" ++ rest ≡ 44 ∷ (quoted (codes "row") ++ 58 ∷ rest)
unfolding escape_byte
row_text rest = refl

type_text : (rest : List ℕ) → codes ",\"type\":" ++ rest ≡ 44 ∷ (quoted (codes "type") ++ 58 ∷ rest)
unfolding escape_byte
type_text rest = refl

end_text : (name : List ℕ) → codes ",\"type\":" ++ (quoted name ++ codes "}\n") ≡ (44 ∷ (quoted (codes "type") ++ 58 ∷ (quoted name ++ 125 ∷ []))) ++ 10 ∷ []
end_text name = type_text (quoted name ++ codes "}\n") ∙ ap (λ t. 44 ∷ (quoted (codes "type") ++ 58 ∷ t)) (sym (append_assoc (quoted name) (125 ∷ []) (10 ∷ [])))
    ∙ sym (append_assoc (44 ∷ quoted (codes "type")) (58 ∷ (quoted name ++ 125 ∷ [])) (10 ∷ []))

-- the line of a row is its parts
pub line_parts : (name : List ℕ) (ordinal : ℕ) (printed : Data) →
    codes "{\"ordinal\":" ++ (decimal ordinal ++ (codes ",\"row\":" ++ (compact_text printed ++ (codes ",\"type\":" ++ (quoted name ++ codes "}\n")))))
    ≡ compact_text (row_data name ordinal printed) ++ 10 ∷ []
line_parts name ordinal printed =
    let named = 44 ∷ (quoted (codes "type") ++ 58 ∷ (quoted name ++ 125 ∷ [])) in
    let row = quoted (codes "row") ++ 58 ∷ (compact_text printed ++ named) in
    ap (λ t. codes "{\"ordinal\":" ++ (decimal ordinal ++ (codes ",\"row\":" ++ (compact_text printed ++ t)))) (end_text name)
    ∙ ap (λ t. codes "{\"ordinal\":" ++ (decimal ordinal ++ (codes ",\"row\":" ++ t))) (sym (append_assoc (compact_text printed) named (10 ∷ [])))
    ∙ ap (λ t. codes "{\"ordinal\":" ++ (decimal ordinal ++ t)) (row_text ((compact_text printed ++ named) ++ 10 ∷ []) ∙ sym (append_assoc (44 ∷ quoted (codes "row")) (58 ∷ (compact_text printed ++ named)) (10 ∷ [])))
    ∙ ap (λ t. codes "{\"ordinal\":" ++ t) (sym (append_assoc (decimal ordinal) (44 ∷ row) (10 ∷ [])))
    ∙ start_text ((decimal ordinal ++ 44 ∷ row) ++ 10 ∷ [])
    ∙ sym (append_assoc (123 ∷ quoted (codes "ordinal")) (58 ∷ (decimal ordinal ++ 44 ∷ row)) (10 ∷ []))

-- the line of a row is put by its parts
pub line_put : (name : List ℕ) (ordinal : ℕ) (printed : Data) (old started numbered rowed printed_too new : List ℕ) → started ≡ old ++ codes "{\"ordinal\":" → numbered ≡ started ++ decimal ordinal →
    rowed ≡ numbered ++ codes ",\"row\":" → printed_too ≡ rowed ++ compact_text printed → new ≡ printed_too ++ (codes ",\"type\":" ++ (quoted name ++ codes "}\n")) →
    new ≡ old ++ (compact_text (row_data name ordinal printed) ++ 10 ∷ [])
line_put name ordinal printed old started numbered rowed printed_too new a b c d e =
    behind_both old started new _ _ a (behind_both started numbered new _ _ b (behind_both numbered rowed new _ _ c (behind_both rowed printed_too new _ _ d e)))
    ∙ ap (λ t. old ++ t) (line_parts name ordinal printed)
