-- The script of `make` has bytes.
use Rattle.std.proofs.Common.{ℕ, List, [], ◌∷◌, refl, arith}
use Rattle.std.specs.Prelude.{All, codes, filter}
use Rattle.std.specs.List.{range_with_len}
use Rattle.std.proofs.lemmas.List.Elements.{All-cons, All-map, All-nil}
use Rattle.schema_model.specs.declared.schema.Field.{Field}
use Rattle.schema_model.specs.declared.schema.FieldKind.TheVariants as kind
use Rattle.schema_model.specs.Schema.{EachNameOfField, EachNameOfKind, name_bytes}
use Rattle.blob_grammar.specs.Decided.{AreBytes}
use Rattle.row_model.specs.PlainTree.{PlainTree}
use Rattle.film_script.specs.Films.{field_of, film, film_schema, film_schemas, film_type, films, is_shown, tags_schema, text_schema}
use Rattle.byte_laws.specs.Bytes.{IsByteSchema, IsByteTree}
use Rattle.byte_laws.proofs.Schemas.{plain_name, schema_are}

pub films_are : (seed rows cycle : ℕ) → All (λ (entry : ℕ × PlainTree). IsByteTree entry.1) (films seed rows cycle)
films_are seed rows cycle = All-map (λ (entry : ℕ × PlainTree). IsByteTree entry.1) (λ place. (film_type, film seed cycle place)) (filter (is_shown cycle) (range_with_len 0 rows))
    (λ k d below. (tt, ((tt, tt), (tt, (((tt, tt), ((tt, tt), tt)), tt)))))

-- ---- the model

abbrev IsByteName : List ℕ → Type 0
IsByteName name = AreBytes (name_bytes name)

abbrev AreFields : List Field → Type 0
AreFields = All (EachNameOfField IsByteName)

text_name : IsByteName (codes "Text")
text_name = plain_name (codes "Text") refl (omega arith)

tags_name : IsByteName (codes "Tags")
tags_name = plain_name (codes "Tags") refl (omega arith)

field_then : (field : Field) (fields : List Field) → IsByteName field.name → EachNameOfKind IsByteName field.kind → AreFields fields → AreFields (field ∷ fields)
field_then field fields name of_kind others = All-cons (EachNameOfField IsByteName) field fields (record { name = name; kind = of_kind }) others

text_parts : AreFields (field_of (codes "value") kind.Text ∷ [])
text_parts = field_then (field_of (codes "value") kind.Text) [] (plain_name (codes "value") refl (omega arith)) tt (All-nil (EachNameOfField IsByteName))

abbrev title_field : Field
title_field = field_of (codes "title") (kind.Reference (codes "Text"))

abbrev year_field : Field
year_field = field_of (codes "year") kind.Int

abbrev tags_field : Field
tags_field = field_of (codes "tags") (kind.Reference (codes "Tags"))

film_parts : AreFields (field_of (codes "id") kind.Int ∷ title_field ∷ year_field ∷ tags_field ∷ [])
film_parts =
    field_then (field_of (codes "id") kind.Int) (title_field ∷ year_field ∷ tags_field ∷ []) (plain_name (codes "id") refl (omega arith)) tt
    (field_then title_field (year_field ∷ tags_field ∷ []) (plain_name (codes "title") refl (omega arith)) text_name
    (field_then year_field (tags_field ∷ []) (plain_name (codes "year") refl (omega arith)) tt
    (field_then tags_field [] (plain_name (codes "tags") refl (omega arith)) tags_name (All-nil (EachNameOfField IsByteName)))))

text_is : IsByteSchema text_schema
text_is = schema_are text_schema (omega arith) (record { name = text_name; shape = record { paths = tt; parts = text_parts } })

tags_is : IsByteSchema tags_schema
tags_is = schema_are tags_schema (omega arith) (record { name = tags_name; shape = text_name })

film_is : IsByteSchema film_schema
film_is = schema_are film_schema (omega arith) (record {
  name = plain_name (codes "Film") refl (omega arith);
  shape = record { paths = All-cons IsByteName (codes "id") [] (plain_name (codes "id") refl (omega arith)) (All-nil IsByteName); parts = film_parts };
})

pub film_model : All IsByteSchema film_schemas
film_model = All-cons IsByteSchema text_schema (tags_schema ∷ film_schema ∷ []) text_is (All-cons IsByteSchema tags_schema (film_schema ∷ []) tags_is (All-cons IsByteSchema film_schema [] film_is (All-nil IsByteSchema)))
