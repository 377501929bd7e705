-- Where a row of a film finds no ordinal, the film cannot be added.
use Rattle.std.proofs.Common.{◌≡◌, ℕ, ◌*◌, ◌%◌, ◌^◌, List, [], ◌∷◌, refl, sym, ap, subst, ◌∙◌, arith}
use Rattle.std.specs.Prelude.{codes}
use Rattle.row_model.specs.Table.{Table}
use Rattle.row_model.specs.declared.row.Row.{Row}
use Rattle.ordinal_map.specs.Assign.{IsPut}
use Rattle.ordinal_map.proofs.Puts.{put_once}
use Rattle.write_engine.specs.Agreement.{TablesAgree}
use Rattle.write_engine.specs.Cycle.{Adds, IsSetOf, PutsRow, rows_in, with_row}
use Rattle.write_engine.proofs.NextStates.{puts_agree}
use Rattle.write_engine.proofs.OneState.{adds_once}
use Rattle.write_engine.proofs.RisingLists.{one_set}
use Rattle.film_script.specs.Films.{film, film_schemas, film_tags, film_type}
use Rattle.film_rows.specs.Rows.{film_row, tags_type, text_row, text_type}
use Rattle.film_rows.proofs.FilmTrees.{film_puts, tags_put}

-- a row is put in one way
puts_once : (previous before before' after after' : Table) (t o o' : ℕ) (row : Row) → TablesAgree previous before → before ≡ before' → PutsRow previous t row before o after → PutsRow previous t row before' o' after' → (o ≡ o') × (after ≡ after')
puts_once previous before before' after after' t o o' row agree same puts puts' =
    let put' = subst (λ (table : Table). IsPut (rows_in previous t) (rows_in table t) row o') (sym same) puts'.put in
    let ordinal = put_once (rows_in previous t) (rows_in before t) row o o' (agree t) puts.put put' in
    (ordinal, puts.after_is ∙ (λ i. with_row (same i) t (ordinal i) row) ∙ sym puts'.after_is)

module _ (previous : Table) where
  -- a row whose ordinal would be 2^22 is not put
  abbrev pub IsRefused : ℕ → Row → Table → Type 0
  IsRefused t row before = IsPut (rows_in previous t) (rows_in before t) row (2 ^ 22)

  not_put : (before last : Table) (t ordinal : ℕ) (row : Row) → TablesAgree previous before → IsRefused t row before → PutsRow previous t row before ordinal last → ⊥
  not_put before last t ordinal row agree refused puts =
      let same = put_once (rows_in previous t) (rows_in before t) row (2 ^ 22) ordinal (agree t) refused puts.put in
      omega (arith, same, puts.low)

  -- the same of a row and of rows before it that are these
  not_put_there : (before there last : Table) (t ordinal : ℕ) (row other : Row) → TablesAgree previous before → before ≡ there → row ≡ other → IsRefused t row before → PutsRow previous t other there ordinal last → ⊥
  not_put_there before there last t ordinal row other agree same same_row refused puts =
      not_put before last t ordinal row agree refused
      (subst (λ r. PutsRow previous t r before ordinal last) (sym same_row) (subst (λ (table : Table). PutsRow previous t other table ordinal last) (sym same) puts))

  -- ---- tags

  module _ (place : ℕ) (before : Table) (agree : TablesAgree previous before) where
    -- no tags are added
    abbrev pub NoTags : Type 0
    NoTags = (ordinal : ℕ) (last : Table) → ¬ Adds film_schemas previous tags_type (film_tags place) before ordinal last

    pub first_refused : IsRefused text_type (text_row (codes "g") (place % 3)) before → NoTags
    first_refused refused ordinal last adds =
        let p = tags_put previous place before last ordinal adds in
        not_put before p.middle text_type p.first (text_row (codes "g") (place % 3)) agree refused p.first_puts

    module _ (first : ℕ) (middle : Table) (first_puts : PutsRow previous text_type (text_row (codes "g") (place % 3)) before first middle) where
      middle_agrees : TablesAgree previous middle
      middle_agrees = puts_agree previous before middle text_type first (text_row (codes "g") (place % 3)) first_puts agree

      pub second_refused : IsRefused text_type (text_row (codes "g") (place % 5)) middle → NoTags
      second_refused refused ordinal last adds =
          let p = tags_put previous place before last ordinal adds in
          let one = puts_once previous before before middle p.middle text_type first p.first (text_row (codes "g") (place % 3)) agree refl first_puts p.first_puts in
          not_put_there middle p.middle p.late text_type p.second (text_row (codes "g") (place % 5)) (text_row (codes "g") (place % 5)) middle_agrees one.1 refl refused p.second_puts

      pub set_refused : (second : ℕ) (late : Table) (members : List ℕ) → PutsRow previous text_type (text_row (codes "g") (place % 5)) middle second late → IsSetOf (first ∷ second ∷ []) members
          → IsRefused tags_type (Row.Set members) late → NoTags
      set_refused second late members second_puts set refused ordinal last adds =
          let p = tags_put previous place before last ordinal adds in
          let one = puts_once previous before before middle p.middle text_type first p.first (text_row (codes "g") (place % 3)) agree refl first_puts p.first_puts in
          let two = puts_once previous middle p.middle late p.late text_type second p.second (text_row (codes "g") (place % 5)) middle_agrees one.1 second_puts p.second_puts in
          let late_agrees = puts_agree previous middle late text_type second (text_row (codes "g") (place % 5)) second_puts middle_agrees in
          let both : first ∷ second ∷ [] ≡ p.first ∷ p.second ∷ [] = (λ i. one.0 i ∷ two.0 i ∷ []) in
          let same = one_set (first ∷ second ∷ []) members p.members set (subst (λ os. IsSetOf os p.members) (sym both) p.set) in
          not_put_there late p.late last tags_type ordinal (Row.Set members) (Row.Set p.members) late_agrees two.1 (ap Row.Set same) refused p.last

  -- ---- a film

  module _ (seed cycle place : ℕ) (before : Table) (agree : TablesAgree previous before) where
    -- no film is added
    abbrev pub NoFilm : Type 0
    NoFilm = (ordinal : ℕ) (last : Table) → ¬ Adds film_schemas previous film_type (film seed cycle place) before ordinal last

    abbrev title_of : Row
    title_of = text_row (codes "t") ((place * seed) % 1000)

    pub title_refused : IsRefused text_type title_of before → NoFilm
    title_refused refused ordinal last adds =
        let p = film_puts previous seed cycle place before last ordinal adds in
        not_put before p.middle text_type p.title title_of agree refused p.title_puts

    module _ (title : ℕ) (middle : Table) (title_puts : PutsRow previous text_type title_of before title middle) where
      pub title_agrees : TablesAgree previous middle
      title_agrees = puts_agree previous before middle text_type title title_of title_puts agree

      pub tags_refused : NoTags place middle title_agrees → NoFilm
      tags_refused none ordinal last adds =
          let p = film_puts previous seed cycle place before last ordinal adds in
          let one = puts_once previous before before middle p.middle text_type title p.title title_of agree refl title_puts p.title_puts in
          none p.tags p.late (subst (λ (table : Table). Adds film_schemas previous tags_type (film_tags place) table p.tags p.late) (sym one.1) p.tags_add)

      pub film_refused : (tags : ℕ) (late : Table) → Adds film_schemas previous tags_type (film_tags place) middle tags late → TablesAgree previous late
          → IsRefused film_type (film_row seed cycle place title tags) late → NoFilm
      film_refused tags late tags_add late_agrees refused ordinal last adds =
          let p = film_puts previous seed cycle place before last ordinal adds in
          let one = puts_once previous before before middle p.middle text_type title p.title title_of agree refl title_puts p.title_puts in
          let two = adds_once film_schemas previous (film_tags place) tags_type middle late p.late tags p.tags title_agrees tags_add
          (subst (λ (table : Table). Adds film_schemas previous tags_type (film_tags place) table p.tags p.late) (sym one.1) p.tags_add) in
          not_put_there late p.late last film_type ordinal (film_row seed cycle place title tags) (film_row seed cycle place p.title p.tags) late_agrees two.1
          (λ i. film_row seed cycle place (one.0 i) (two.0 i)) refused p.last
