-- What is known of the rows that films share, and what an answer tells of a record that is to be added.
use Rattle.std.specs.Prelude.{ℕ, ◌≡◌, ◌+◌, ◌*◌, ◌%◌, List, [], ◌∷◌, false, Option, Some, None, Result, Ok, Err, codes, length, replicate, slice_get}
use Rattle.row_model.specs.PlainTree.{PlainTree}
use Rattle.row_model.specs.Table.{Table, row_at}
use Rattle.row_model.specs.declared.row.Row.{Row}
use Rattle.ordinal_map.specs.declared.fault.PutRowFault.{PutRowFault}
use Rattle.ordinal_map.specs.declared.fault.PutRowFault.TheVariants.{TooMany, Memory}
use Rattle.write_engine.specs.Agreement.{TablesAgree}
use Rattle.write_engine.specs.Cycle.{Adds, IsSetOf}
use Rattle.write_engine.specs.Production.{Production}
use Rattle.film_script.specs.Films.{film_schemas}
use Rattle.film_rows.specs.Rows.{tags_type, text_row, text_type}
use Rattle.film_rows.specs.declared.adding.FilmRows.{FilmRows}

-- What an answer tells of a record that is to be added: its ordinal and the rows after; or that there are none.
abbrev pub TellsAdded : Table → ℕ → PlainTree → Table → Result ℕ PutRowFault → Table → Type 0
TellsAdded previous type_index tree before (Ok ordinal) after = Adds film_schemas previous type_index tree before ordinal after
TellsAdded previous type_index tree before (Err TooMany) after = (ordinal : ℕ) (last : Table) → ¬ Adds film_schemas previous type_index tree before ordinal last
TellsAdded previous type_index tree before (Err Memory) after = Unit {0}

-- A producer of the films' model, whose cycle is open.
pub record IsFilming (producer : Production) : Type 0 where
  pub model : producer.schemas ≡ film_schemas
  pub is_open : producer.closed ≡ false
  pub agree : TablesAgree producer.previous producer.current
  pub types : length producer.current ≡ 3

-- Each row that the one producer has in its cycle the other has too, under the same ordinal.
pub record HasGrown (before after : Production) : Type 0 where
  pub filming : IsFilming after
  pub keeps : (type_index ordinal : ℕ) (row : Row) → row_at before.current type_index ordinal ≡ Some row → row_at after.current type_index ordinal ≡ Some row

-- the titles that are known by their numbers
abbrev pub AreTitles : Table → List (Option ℕ) → Type 0
AreTitles table known =
    (number ordinal : ℕ) → slice_get known number ≡ Some (Some ordinal) → row_at table text_type ordinal ≡ Some (text_row (codes "t") number)

-- the tags of the film at a place stand under this ordinal
pub record AreTags (table : Table) (place ordinal : ℕ) : Type 0 where
  pub first : ℕ
  pub second : ℕ
  pub members : List ℕ
  pub first_stands : row_at table text_type first ≡ Some (text_row (codes "g") (place % 3))
  pub second_stands : row_at table text_type second ≡ Some (text_row (codes "g") (place % 5))
  pub set : IsSetOf (first ∷ second ∷ []) members
  pub stands : row_at table tags_type ordinal ≡ Some (Row.Set members)

-- the number of the tags of a film
abbrev pub tags_number : ℕ → ℕ
tags_number place = place % 3 * 5 + place % 5

-- the tags that are known by their numbers
abbrev pub AreTagSets : Table → List (Option ℕ) → Type 0
AreTagSets table known = (place ordinal : ℕ) → slice_get known (tags_number place) ≡ Some (Some ordinal) → AreTags table place ordinal

-- No row is known.
pub record IsUnknown (rows : FilmRows) : Type 0 where
  pub titles : rows.titles.items ≡ replicate 1000 None
  pub tags : rows.tags.items ≡ replicate 15 None

-- The producer takes films, and what is known of its rows is so.
pub record AreReady (rows : FilmRows) (producer : Production) : Type 0 where
  pub filming : IsFilming producer
  pub all_titles : length rows.titles.items ≡ 1000
  pub all_tags : length rows.tags.items ≡ 15
  pub titles : AreTitles producer.current rows.titles.items
  pub tags : AreTagSets producer.current rows.tags.items
