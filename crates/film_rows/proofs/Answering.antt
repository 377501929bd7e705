-- What the puts of a film's rows tell of the film.
use Rattle.std.proofs.Common.{◌≡◌, ℕ, ◌*◌, ◌%◌, ◌<◌, ◌≤◌, List, [], ◌∷◌, Some, sym, ap, subst, ◌∙◌, arith}
use Rattle.std.specs.Prelude.{codes, is_some, IfOk, Result, Ok, Err}
use Rattle.row_model.specs.Table.{IsLive, Table, row_at}
use Rattle.row_model.specs.declared.row.Row.{Row}
use Rattle.ordinal_map.specs.declared.fault.PutRowFault.{PutRowFault}
use Rattle.ordinal_map.specs.declared.fault.PutRowFault.TheVariants.{TooMany, Memory}
use Rattle.write_engine.specs.Agreement.{TablesAgree}
use Rattle.write_engine.specs.Cycle.{Adds, IsSetOf, PutsRow}
use Rattle.write_engine.specs.Production.{Production}
use Rattle.write_engine.specs.RowPuts.{TellsRowPut}
use Rattle.film_script.specs.Films.{film, film_schemas, film_tags, film_type}
use Rattle.film_rows.specs.Known.{AreReady, AreTags, HasGrown, IsFilming, TellsAdded}
use Rattle.film_rows.specs.Rows.{film_row, tags_type, text_row, text_type}
use Rattle.film_rows.specs.declared.adding.FilmRows.{FilmRows}
use Rattle.film_rows.proofs.FilmTrees.{film_adds, tags_add}
use Rattle.film_rows.proofs.Knowing.{grown_by, grown_then, ready_grown}
use Rattle.film_rows.proofs.Refusing.{film_refused, first_refused, second_refused, set_refused, tags_refused, title_refused}
use Rattle.film_rows.proofs.Standing.{stands}

-- the rows of the previous state stay
pub same_previous : (old new : Production) → new ≡ record old { current = new.current } → new.previous ≡ old.previous
same_previous old new kept = ap (λ (p : Production). p.previous) kept

pub kept_then : (old mid new : Production) → mid ≡ record old { current = mid.current } → new ≡ record mid { current = new.current } → new ≡ record old { current = new.current }
kept_then old mid new first then' = then' ∙ ap (λ (p : Production). record p { current = new.current }) first

-- what stands is live
pub is_live : (table : Table) (t ordinal : ℕ) (row : Row) → row_at table t ordinal ≡ Some row → IsLive table t ordinal
is_live table t ordinal row is = ap is_some is

-- a row that is put where films are taken stands there then
pub put_stands : (old new : Production) (t ordinal : ℕ) (row : Row) → IsFilming old → t < 3 → PutsRow old.previous t row old.current ordinal new.current → row_at new.current t ordinal ≡ Some row
put_stands old new t ordinal row filming inside puts =
    stands old.previous old.current new.current t ordinal row puts (subst (λ n. t < n) (sym filming.types) inside)

module _ (previous : Table) where
  -- ---- tags

  module _ (place : ℕ) (before : Table) (agree : TablesAgree previous before) where
    pub first_stops : (fault : PutRowFault) (after last : Table) → TellsRowPut previous text_type (text_row (codes "g") (place % 3)) before (Err fault) after
        → TellsAdded previous tags_type (film_tags place) before (Err fault) last
    first_stops TooMany after last told = first_refused previous place before agree told.0
    first_stops Memory after last told = tt

    module _ (first : ℕ) (middle : Table) (first_puts : PutsRow previous text_type (text_row (codes "g") (place % 3)) before first middle) where
      pub second_stops : (fault : PutRowFault) (after last : Table) → TellsRowPut previous text_type (text_row (codes "g") (place % 5)) middle (Err fault) after
          → TellsAdded previous tags_type (film_tags place) before (Err fault) last
      second_stops TooMany after last told = second_refused previous place before agree first middle first_puts told.0
      second_stops Memory after last told = tt

      pub set_tells : (second : ℕ) (late : Table) (members : List ℕ) → PutsRow previous text_type (text_row (codes "g") (place % 5)) middle second late → IsSetOf (first ∷ second ∷ []) members
          → (result : Result ℕ PutRowFault) (after : Table) → TellsRowPut previous tags_type (Row.Set members) late result after → TellsAdded previous tags_type (film_tags place) before result after
      set_tells second late members second_puts set (Ok ordinal) after told =
          tags_add previous place before after ordinal (record { first = first; second = second; middle = middle; late = late; members = members; first_puts = first_puts; second_puts = second_puts; set = set; last = told })
      set_tells second late members second_puts set (Err TooMany) after told = set_refused previous place before agree first middle first_puts second late members second_puts set told.0
      set_tells second late members second_puts set (Err Memory) after told = tt

  -- ---- a film

  module _ (seed cycle place : ℕ) (before : Table) (agree : TablesAgree previous before) where
    pub title_stops : (fault : PutRowFault) (after last : Table) → TellsRowPut previous text_type (text_row (codes "t") ((place * seed) % 1000)) before (Err fault) after
        → TellsAdded previous film_type (film seed cycle place) before (Err fault) last
    title_stops TooMany after last told = title_refused previous seed cycle place before agree told.0
    title_stops Memory after last told = tt

    module _ (title : ℕ) (middle : Table) (title_puts : PutsRow previous text_type (text_row (codes "t") ((place * seed) % 1000)) before title middle) where
      pub tags_stop : (fault : PutRowFault) (after last : Table) → TellsAdded previous tags_type (film_tags place) middle (Err fault) after → TellsAdded previous film_type (film seed cycle place) before (Err fault) last
      tags_stop TooMany after last told = tags_refused previous seed cycle place before agree title middle title_puts told
      tags_stop Memory after last told = tt

      pub film_tells : (tags : ℕ) (late : Table) → place ≤ 1000000 → Adds film_schemas previous tags_type (film_tags place) middle tags late → TablesAgree previous late
          → (result : Result ℕ PutRowFault) (after : Table) → TellsRowPut previous film_type (film_row seed cycle place title tags) late result after → TellsAdded previous film_type (film seed cycle place) before result after
      film_tells tags late small tags_added late_agrees (Ok ordinal) after told =
          film_adds previous seed cycle place before after ordinal small (record { title = title; tags = tags; middle = middle; late = late; title_puts = title_puts; tags_add = tags_added; last = told })
      film_tells tags late small tags_added late_agrees (Err TooMany) after told = film_refused previous seed cycle place before agree title middle title_puts tags late tags_added late_agrees told.0
      film_tells tags late small tags_added late_agrees (Err Memory) after told = tt

-- ---- what stands after the tags

-- the tags were put, one after another
pub record PutTags (old mid late : Production) (place first second : ℕ) (members : List ℕ) : Type 0 where
  pub filming : IsFilming old
  pub first_puts : PutsRow old.previous text_type (text_row (codes "g") (place % 3)) old.current first mid.current
  pub first_kept : mid ≡ record old { current = mid.current }
  pub second_puts : PutsRow mid.previous text_type (text_row (codes "g") (place % 5)) mid.current second late.current
  pub second_kept : late ≡ record mid { current = late.current }
  pub set : IsSetOf (first ∷ second ∷ []) members

module _ (old mid late : Production) (place first second : ℕ) (members : List ℕ) (p : PutTags old mid late place first second members) where
  pub mid_grown : HasGrown old mid
  mid_grown = grown_by old mid text_type first (text_row (codes "g") (place % 3)) p.filming p.first_kept p.first_puts

  pub late_grown : HasGrown mid late
  late_grown = grown_by mid late text_type second (text_row (codes "g") (place % 5)) mid_grown.filming p.second_kept p.second_puts

  pub first_there : row_at late.current text_type first ≡ Some (text_row (codes "g") (place % 3))
  first_there = late_grown.keeps text_type first _ (put_stands old mid text_type first (text_row (codes "g") (place % 3)) p.filming (omega arith) p.first_puts)

  pub second_there : row_at late.current text_type second ≡ Some (text_row (codes "g") (place % 5))
  second_there = put_stands mid late text_type second (text_row (codes "g") (place % 5)) mid_grown.filming (omega arith) p.second_puts

  -- what the put of the set tells of the tags
  pub tags_tell : (new : Production) (result : Result ℕ PutRowFault) → TellsRowPut late.previous tags_type (Row.Set members) late.current result new.current → TellsAdded old.previous tags_type (film_tags place) old.current result new.current
  tags_tell new result told =
      let same_mid = same_previous old mid p.first_kept in
      let same_late = same_previous mid late p.second_kept ∙ same_mid in
      set_tells old.previous place old.current p.filming.agree first mid.current p.first_puts second late.current members
      (subst (λ (previous : Table). PutsRow previous text_type (text_row (codes "g") (place % 5)) mid.current second late.current) same_mid p.second_puts) p.set result new.current
      (subst (λ (previous : Table). TellsRowPut previous tags_type (Row.Set members) late.current result new.current) same_late told)

  pub tags_grow : (new : Production) (ordinal : ℕ) → new ≡ record late { current = new.current } → PutsRow late.previous tags_type (Row.Set members) late.current ordinal new.current → HasGrown old new
  tags_grow new ordinal kept puts = grown_then old late new (grown_then old mid late mid_grown late_grown) (grown_by late new tags_type ordinal (Row.Set members) late_grown.filming kept puts)

  pub tags_there : (new : Production) (ordinal : ℕ) → new ≡ record late { current = new.current } → PutsRow late.previous tags_type (Row.Set members) late.current ordinal new.current → AreTags new.current place ordinal
  tags_there new ordinal kept puts =
      let grown = grown_by late new tags_type ordinal (Row.Set members) late_grown.filming kept puts in
      record {
        first = first;
        second = second;
        members = members;
        first_stands = grown.keeps text_type first _ first_there;
        second_stands = grown.keeps text_type second _ second_there;
        set = p.set;
        stands = put_stands late new tags_type ordinal (Row.Set members) late_grown.filming (omega arith) puts;
      }

-- what the answer tells, in the form of each case
pub if_grown : (old mid late new : Production) (place first second : ℕ) (members : List ℕ) → PutTags old mid late place first second members → (result : Result ℕ PutRowFault) → new ≡ record late { current = new.current }
    → TellsRowPut late.previous tags_type (Row.Set members) late.current result new.current → IfOk result (λ (ordinal : ℕ). HasGrown old new)
if_grown old mid late new place first second members p (Ok ordinal) kept told = tags_grow old mid late place first second members p new ordinal kept told
if_grown old mid late new place first second members p (Err fault) kept told = tt

pub if_there : (old mid late new : Production) (place first second : ℕ) (members : List ℕ) → PutTags old mid late place first second members → (result : Result ℕ PutRowFault) → new ≡ record late { current = new.current }
    → TellsRowPut late.previous tags_type (Row.Set members) late.current result new.current → IfOk result (AreTags new.current place)
if_there old mid late new place first second members p (Ok ordinal) kept told = tags_there old mid late place first second members p new ordinal kept told
if_there old mid late new place first second members p (Err fault) kept told = tt

-- what is known stays so over one row more
pub ready_put : (rows : FilmRows) (late new : Production) (t : ℕ) (row : Row) (result : Result ℕ PutRowFault) → AreReady rows late → new ≡ record late { current = new.current }
    → TellsRowPut late.previous t row late.current result new.current → IfOk result (λ (ordinal : ℕ). AreReady rows new)
ready_put rows late new t row (Ok ordinal) ready kept told = ready_grown rows late new (grown_by late new t ordinal row ready.filming kept told) ready
ready_put rows late new t row (Err fault) ready kept told = tt
