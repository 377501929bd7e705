-- The script of `make`: its model, and the records that each of its cycles adds.
use Rattle.std.specs.Prelude.{ℕ, ◌+◌, ◌*◌, ◌/◌, ◌%◌, ℤ, pos, List, [], ◌∷◌, ◌++◌, Some, None, map, filter, codes, decimal, not, ◌==◌, Bool}
use Rattle.std.specs.List.{range_with_len}
use Rattle.hol_varint.specs.TextUnits.{text_units}
use Rattle.schema_model.specs.declared.schema.Field.{Field}
use Rattle.schema_model.specs.declared.schema.FieldKind.{FieldKind}
use Rattle.schema_model.specs.declared.schema.FieldKind.TheVariants as kind
use Rattle.schema_model.specs.declared.schema.Schema.{Schema}
use Rattle.schema_model.specs.declared.schema.Shape.TheVariants as shape
use Rattle.row_model.specs.declared.row.Value.TheVariants as value
use Rattle.row_model.specs.PlainTree.{PlainTree, PlainTrees, leaf, object, set, no_trees, tree_then}

-- a field of this name and kind
abbrev pub field_of : List ℕ → FieldKind → Field
field_of name kind = record { name = name; kind = kind }

-- Text: one STRING.
abbrev pub text_schema : Schema
text_schema = record { name = codes "Text"; shape = shape.Object None (field_of (codes "value") kind.Text ∷ []) }

-- Tags: a set of Text.
abbrev pub tags_schema : Schema
tags_schema = record { name = codes "Tags"; shape = shape.Set (codes "Text") }

-- Film: its number, which is its primary key, its title, its year and its tags.
abbrev pub film_schema : Schema
film_schema = record {
  name = codes "Film";
  shape = shape.Object (Some (codes "id" ∷ []))
      (field_of (codes "id") kind.Int ∷ field_of (codes "title") (kind.Reference (codes "Text")) ∷ field_of (codes "year") kind.Int
      ∷ field_of (codes "tags") (kind.Reference (codes "Tags")) ∷ []);
}

-- The schemas, in the order of the model.
abbrev pub film_schemas : List Schema
film_schemas = text_schema ∷ tags_schema ∷ film_schema ∷ []

-- the index of Film
abbrev pub film_type : ℕ
film_type = 2

-- a Text of a letter and a number in decimal
abbrev pub numbered : List ℕ → ℕ → PlainTree
numbered letter number = object (tree_then (leaf (value.Text (text_units (letter ++ decimal number)))) no_trees)

-- the Tags of a film
abbrev pub film_tags : ℕ → PlainTree
film_tags place = set (tree_then (numbered (codes "g") (place % 3)) (tree_then (numbered (codes "g") (place % 5)) no_trees))

-- the year of a film in a cycle
abbrev pub film_year : ℕ → ℕ → ℕ → ℕ
film_year seed cycle place = 1900 + (seed + place + (cycle + place) / 5) % 100

-- The record of a film in a cycle, both by their numbers.
abbrev pub film : ℕ → ℕ → ℕ → PlainTree
film seed cycle place =
    object (tree_then (leaf (value.Int (pos place))) (tree_then (numbered (codes "t") ((place * seed) % 1000))
    (tree_then (leaf (value.Int (pos (film_year seed cycle place)))) (tree_then (film_tags place) no_trees))))

-- whether a film is among those of a cycle: every tenth one is not
abbrev pub is_shown : ℕ → ℕ → Bool
is_shown cycle place = not ((place + cycle) % 10 == 0)

-- The records of a cycle, of this many films, each beside its type.
abbrev pub films : ℕ → ℕ → ℕ → List (ℕ × PlainTree)
films seed rows cycle = map (λ place. (film_type, film seed cycle place)) (filter (is_shown cycle) (range_with_len 0 rows))

-- The tag of a cycle, whose version is its number.
abbrev pub cycle_tag : ℕ → ℕ → ℤ
cycle_tag seed cycle = pos (seed * 1000 + cycle)
