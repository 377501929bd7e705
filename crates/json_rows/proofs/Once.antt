-- A row prints as one value at most.
use Rattle.std.proofs.Common.{◌≡◌, ℕ, List, [], ◌∷◌, inl, inr, refl, sym, ap, ◌∙◌}
use Rattle.std.specs.List.{AllZip}
use Rattle.std.specs.Prelude.{zip}
use Rattle.hol_varint.proofs.Characters.{text_once}
use Rattle.schema_model.specs.Parts.{field_names}
use Rattle.row_model.specs.declared.row.Row.{Row}
use Rattle.row_model.specs.declared.row.Value.{Value}
use Rattle.schema_model.specs.declared.schema.Field.{Field}
use Rattle.schema_model.specs.declared.schema.Shape.{Shape}
use Rattle.serde_json.specs.Data.{Data, string, object}
use Rattle.json_rows.specs.StoredRow.{IsTextData, IsValueData, IsRecordData, IsRowData, members_of_fields}

pub text_prints_once : (units : List ℕ) (a b : Data) → IsTextData units a → IsTextData units b → a ≡ b
text_prints_once units a b (inl (s, of_s, a_is)) (inl (t, of_t, b_is)) = a_is ∙ ap string (text_once units s t of_s of_t) ∙ sym b_is
text_prints_once units a b (inl (s, of_s, a_is)) (inr (bad, b_is)) = absurd (bad (s, of_s))
text_prints_once units a b (inr (bad, a_is)) (inl (t, of_t, b_is)) = absurd (bad (t, of_t))
text_prints_once units a b (inr (bad, a_is)) (inr (also, b_is)) = a_is ∙ sym b_is

pub value_prints_once : (value : Value) (a b : Data) → IsValueData value a → IsValueData value b → a ≡ b
value_prints_once Value.Null a b h g = h ∙ sym g
value_prints_once (Value.Int n) a b h g = h ∙ sym g
value_prints_once (Value.Long n) a b h g = h ∙ sym g
value_prints_once (Value.Bool flag) a b h g = h ∙ sym g
value_prints_once (Value.Text units) a b h g = text_prints_once units a b h g
value_prints_once (Value.Bytes bytes) a b h g = h ∙ sym g
value_prints_once (Value.Ref ordinal) a b h g = h ∙ sym g

values_print_once : (values : List Value) (xs bs : List Data) → AllZip IsValueData values xs → AllZip IsValueData values bs → xs ≡ bs
values_print_once [] [] [] h g = refl
values_print_once [] [] (b ∷ bs) h g = absurd g
values_print_once [] (a ∷ xs) bs h g = absurd h
values_print_once (value ∷ values) [] bs h g = absurd h
values_print_once (value ∷ values) (a ∷ xs) [] h g = absurd g
values_print_once (value ∷ values) (a ∷ xs) (b ∷ bs) h g =
    let first = value_prints_once value a b h.0 g.0 in
    let others = values_print_once values xs bs h.1 g.1 in λ i. first i ∷ others i

record_prints_once : (fields : List Field) (values : List Value) (a b : Data) → IsRecordData fields values a → IsRecordData fields values b → a ≡ b
record_prints_once fields values a b (ms, (xs, xs_are, ms_is), a_is) (ns, (bs, bs_are, ns_is), b_is) =
    let same = values_print_once values xs bs xs_are bs_are in
    a_is ∙ ap object (ms_is ∙ ap (λ ds. members_of_fields (zip (field_names fields) ds)) same ∙ sym ns_is) ∙ sym b_is

pub row_prints_once : (shape : Shape) (row : Row) (a b : Data) → IsRowData shape row a → IsRowData shape row b → a ≡ b
row_prints_once (Shape.Object key fields) (Row.Object values) a b h g = record_prints_once fields values a b h g
row_prints_once (Shape.List element) (Row.List ordinals) a b h g = h ∙ sym g
row_prints_once (Shape.Set element) (Row.Set ordinals) a b h g = h ∙ sym g
row_prints_once (Shape.Map key value) (Row.Map pairs) a b h g = h ∙ sym g
row_prints_once _ _ a b h g = absurd h
