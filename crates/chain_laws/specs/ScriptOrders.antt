-- The orders of the script of `make` in JSON: its model, and the records that a cycle adds.
use Rattle.std.specs.Prelude.{◌*◌, ◌%◌, ℕ, List, None, ◌++◌, codes, decimal, filter, map}
use Rattle.std.specs.List.{range_with_len}
use Rattle.serde_json.specs.Data.{Data, array, object, string, no_items, item, no_members, member}
use Rattle.serde_json.specs.View.{items_of}
use Rattle.film_script.specs.Films.{cycle_tag, film_year, is_shown}
use Rattle.hol_orders.specs.Parts.{AskedState, whole}

-- a field of this name whose type has this name, and one that refers to records of a type
abbrev plain_field : List ℕ → List ℕ → Data
plain_field name kind = object (member (codes "name") (string name) (member (codes "type") (string kind) no_members))

abbrev reference : List ℕ → List ℕ → Data
reference name to =
    object (member (codes "name") (string name) (member (codes "to") (string to) (member (codes "type") (string (codes "REFERENCE")) no_members)))

-- Text: one STRING.
abbrev text_model : Data
text_model = object
    (member (codes "fields") (array (item (plain_field (codes "value") (codes "STRING")) no_items))
    (member (codes "kind") (string (codes "OBJECT"))
    (member (codes "name") (string (codes "Text")) no_members)))

-- Tags: a set of Text.
abbrev tags_model : Data
tags_model = object
    (member (codes "element") (string (codes "Text"))
    (member (codes "kind") (string (codes "SET"))
    (member (codes "name") (string (codes "Tags")) no_members)))

-- Film: its number, which is its primary key, its title, its year and its tags.
abbrev film_model : Data
film_model = object
    (member (codes "fields") (array
    (item (plain_field (codes "id") (codes "INT"))
    (item (reference (codes "title") (codes "Text"))
    (item (plain_field (codes "year") (codes "INT"))
    (item (reference (codes "tags") (codes "Tags")) no_items)))))
    (member (codes "key") (array (item (string (codes "id")) no_items))
    (member (codes "kind") (string (codes "OBJECT"))
    (member (codes "name") (string (codes "Film")) no_members))))

-- What the order `model` of the script asks for: the three, in the order of the model.
abbrev pub script_model : Data
script_model = array (item text_model (item tags_model (item film_model no_items)))

-- a Text
abbrev pub text_json : List ℕ → Data
text_json text = object (member (codes "value") (string text) no_members)

-- a Film of this number, tags, title and year
abbrev pub film_json : ℕ → List ℕ → List ℕ → List ℕ → ℕ → Data
film_json id first second title year = object
    (member (codes "id") (whole id)
    (member (codes "tags") (array (item (text_json first) (item (text_json second) no_items)))
    (member (codes "title") (text_json title)
    (member (codes "year") (whole year) no_members))))

-- the film of a cycle, both by their numbers
abbrev pub film_data : ℕ → ℕ → ℕ → Data
film_data seed cycle place =
    film_json place (codes "g" ++ decimal (place % 3)) (codes "g" ++ decimal (place % 5)) (codes "t" ++ decimal ((place * seed) % 1000)) (film_year seed cycle place)

-- the films of a cycle, of this many
abbrev pub films_data : ℕ → ℕ → ℕ → Data
films_data seed rows cycle =
    object (member (codes "Film") (array (items_of (map (film_data seed cycle) (filter (is_shown cycle) (range_with_len 0 rows))))) no_members)

-- What the order of this cycle asks for: the films that it shows, under its number and its tag. Whether its snapshot is put is not said.
abbrev pub script_state : ℕ → ℕ → ℕ → AskedState
script_state seed rows cycle = record { version = cycle; tag = cycle_tag seed cycle; add = films_data seed rows cycle; snapshot = None }
