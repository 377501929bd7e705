-- The rows of films may stand in their types.
use Rattle.std.proofs.Common.{◌≡◌, ℕ, ◌<◌, ◌^◌, List, [], ◌∷◌, refl, sym, subst}
use Rattle.std.specs.Prelude.{codes}
use Rattle.std.proofs.lemmas.List.Elements.{All-nil, All-cons, All-map}
use Rattle.schema_model.specs.declared.schema.Schema.{Schema}
use Rattle.schema_model.specs.declared.schema.name.Name.{Name}
use Rattle.row_model.specs.Row.{IsRowInRange}
use Rattle.row_model.specs.Table.{IsLive, IsLiveByName, Table}
use Rattle.row_model.specs.declared.row.Row.{Row}
use Rattle.write_engine.specs.Cycle.{IsSetOf}
use Rattle.write_engine.specs.RowPuts.{FitsRow}
use Rattle.write_engine.proofs.Members.{all_members}
use Rattle.film_script.specs.Films.{film_schema, film_schemas, film_type, tags_schema, text_schema}
use Rattle.film_rows.specs.Rows.{film_row, tags_type, text_row, text_type}

module _ (schemas : List Schema) (table : Table) (model : schemas ≡ film_schemas) where
  -- a row is live by the name of its type
  abbrev IsThere : Name × ℕ → Type 0
  IsThere named = IsLiveByName film_schemas table named.0 named.1

  of_films : (t : ℕ) (row : Row) → FitsRow film_schemas table t row → FitsRow schemas table t row
  of_films t row fits = subst (λ (ss : List Schema). FitsRow ss table t row) (sym model) fits

  pub text_fits : (row : Row) (letter : List ℕ) (number : ℕ) → row ≡ text_row letter number → IsRowInRange row → FitsRow schemas table text_type row
  text_fits row letter number is range = of_films text_type row (subst (FitsRow film_schemas table text_type) (sym is) (record {
    schema = text_schema;
    type = refl;
    fits = (tt, tt);
    range = subst IsRowInRange is range;
    stored = refl;
    live = All-nil IsThere;
  }))

  pub tags_fits : (first second : ℕ) (members : List ℕ) → IsSetOf (first ∷ second ∷ []) members → first < 2 ^ 32 → second < 2 ^ 32 → IsLive table text_type first → IsLive table text_type second
      → FitsRow schemas table tags_type (Row.Set members)
  tags_fits first second members is small_first small_second live_first live_second = of_films tags_type (Row.Set members) (record {
    schema = tags_schema;
    type = refl;
    fits = is.rising;
    range = all_members (λ o. o < 2 ^ 32) (first ∷ second ∷ []) members is (All-cons (λ o. o < 2 ^ 32) first (second ∷ []) small_first (All-cons (λ o. o < 2 ^ 32) second [] small_second (All-nil (λ o. o < 2 ^ 32))));
    stored = refl;
    live = All-map IsThere (λ (o : ℕ). (codes "Text", o)) members
        (all_members (IsLive table text_type) (first ∷ second ∷ []) members is
        (All-cons (IsLive table text_type) first (second ∷ []) live_first (All-cons (IsLive table text_type) second [] live_second (All-nil (IsLive table text_type)))));
  })

  pub film_fits : (row : Row) (seed cycle place title tags : ℕ) → row ≡ film_row seed cycle place title tags → IsRowInRange row → IsLive table text_type title → IsLive table tags_type tags
      → FitsRow schemas table film_type row
  film_fits row seed cycle place title tags is range live_title live_tags = of_films film_type row (subst (FitsRow film_schemas table film_type) (sym is) (record {
    schema = film_schema;
    type = refl;
    fits = (tt, (tt, (tt, (tt, tt))));
    range = subst IsRowInRange is range;
    stored = refl;
    live = All-cons IsThere (codes "Text", title) ((codes "Tags", tags) ∷ []) live_title (All-cons IsThere (codes "Tags", tags) [] live_tags (All-nil IsThere));
  }))
