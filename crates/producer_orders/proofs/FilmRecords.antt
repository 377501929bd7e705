-- The films of a cycle are added one behind another.
use Rattle.std.proofs.Common.{Bool, false, true, ◌≡◌, ◌<◌, ◌≤◌, ◌+◌, ◌-◌, ℕ, List, [], ◌∷◌, ◌++◌, length, map, Err, arith, refl, sym, ap, ◌∙◌, subst, append_assoc}
use Rattle.std.specs.Prelude.{filter, if◌then◌else◌, ⊤}
use Rattle.std.specs.List.{range_with_len}
use Rattle.std.proofs.lemmas.List.{map-append}
use Rattle.std.proofs.lemmas.List.Elements.{filter-append}
use Rattle.film_rows.specs.Known.{IsFilming}
use Rattle.film_script.proofs.Ranges.{range_join}
use Rattle.film_script.specs.Films.{film, film_schemas, film_type, films, is_shown}
use Rattle.schema_model.specs.declared.limit.Limit.TheVariants as limit
use Rattle.schema_model.specs.declared.schema.Schema.{Schema}
use Rattle.row_model.specs.PlainTree.{PlainTree}
use Rattle.row_model.specs.Table.{Table}
use Rattle.write_engine.proofs.OneState.{next_is_one}
use Rattle.write_engine.specs.Agreement.{HoldsOnce, TablesAgree}
use Rattle.write_engine.specs.Cycle.{Adds, AddsRecords, Next, no_rows}
use Rattle.write_engine.specs.Production.{Production}
use Rattle.write_engine.specs.Soundness.{IsClosedTableOf}
use Rattle.hol_answers.specs.declared.refusal.Refusal.TheVariants as refusal
use Rattle.state_blobs.specs.Published.{published_of}
use Rattle.hollow_machine.specs.Records.{given}
use Rattle.producer_orders.specs.Asked.{film_at}
use Rattle.producer_orders.specs.Ends.{IsMemory, TellsEnd}
use Rattle.producer_orders.specs.Making.{AreRefused, AreTaken}
use Rattle.producer_orders.specs.declared.asked.FilmCycle.{FilmCycle}
use Rattle.producer_orders.specs.declared.cycle_end.CycleEnd.{CycleEnd}
use Rattle.producer_orders.specs.declared.cycle_end.CycleEnd.TheVariants as cycle_end

-- records behind others
records_join : (schemas : List Schema) (previous : Table) (some more : List (ℕ × PlainTree)) (before middle after : Table) → AddsRecords schemas previous some before middle → AddsRecords schemas previous more middle after
    → AddsRecords schemas previous (some ++ more) before after
records_join schemas previous [] more before middle after same adds = subst (λ (table : Table). AddsRecords schemas previous more table after) same adds
records_join schemas previous (x ∷ xs) more before middle after adds rest = (adds.0, adds.1, adds.2, records_join schemas previous xs more adds.1 middle after adds.3 rest)

-- The first of some records are added, and the others behind them.
record Apart (schemas : List Schema) (previous : Table) (some more : List (ℕ × PlainTree)) (before after : Table) : Type 0 where
  pub middle : Table
  pub first : AddsRecords schemas previous some before middle
  pub rest : AddsRecords schemas previous more middle after

records_apart : (schemas : List Schema) (previous : Table) (some more : List (ℕ × PlainTree)) (before after : Table) → AddsRecords schemas previous (some ++ more) before after → Apart schemas previous some more before after
records_apart schemas previous [] more before after adds = record { middle = before; first = refl; rest = adds }
records_apart schemas previous (x ∷ xs) more before after adds =
    let apart = records_apart schemas previous xs more adds.1 after adds.3 in
    record { middle = apart.middle; first = (adds.0, adds.1, adds.2, apart.first); rest = apart.rest }

-- the films at some places, those that the cycle shows
abbrev shown : FilmCycle → List ℕ → List (ℕ × PlainTree)
shown script places = map (λ place. (film_type, film script.seed script.cycle place)) (filter (is_shown script.cycle) places)

shown_join : (script : FilmCycle) (some more : List ℕ) → shown script (some ++ more) ≡ shown script some ++ shown script more
shown_join script some more =
    ap (map (λ place. (film_type, film script.seed script.cycle place))) (filter-append (is_shown script.cycle) some more)
    ∙ map-append (λ place. (film_type, film script.seed script.cycle place)) (filter (is_shown script.cycle) some) (filter (is_shown script.cycle) more)

films_more : (script : FilmCycle) (place : ℕ) → films script.seed (place + 1) script.cycle ≡ films script.seed place script.cycle ++ film_at script place
films_more script place =
    let same : 0 + place ≡ place = omega arith in
    ap (shown script) (range_join 0 place 1 ∙ ap (λ k. range_with_len 0 place ++ k ∷ []) same) ∙ shown_join script (range_with_len 0 place) (place ∷ [])

-- the films behind a place
films_rest : (script : FilmCycle) (place : ℕ) → place < script.rows
    → films script.seed script.rows script.cycle ≡ films script.seed place script.cycle ++ (film_at script place ++ shown script (range_with_len (place + 1) (script.rows - (place + 1))))
films_rest script place within =
    let rest = script.rows - (place + 1) in
    let e : script.rows ≡ place + 1 + rest = omega (arith, within) in
    let next : 0 + (place + 1) ≡ place + 1 = omega arith in
    ap (λ n. shown script (range_with_len 0 n)) e ∙ ap (shown script) (range_join 0 (place + 1) rest ∙ ap (λ k. range_with_len 0 (place + 1) ++ range_with_len k rest) next)
    ∙ shown_join script (range_with_len 0 (place + 1)) (range_with_len (place + 1) rest)
    ∙ ap (λ trees. trees ++ shown script (range_with_len (place + 1) rest)) (films_more script place)
    ∙ append_assoc (films script.seed place script.cycle) (film_at script place) (shown script (range_with_len (place + 1) rest))

-- So many films of a cycle were added to a producer.
pub record HasFilms (script : FilmCycle) (place : ℕ) (before now : Production) : Type 0 where
  pub within : place ≤ script.rows
  pub kept : now ≡ record before { current = now.current }
  pub added : Next before.schemas before.previous (films script.seed place script.cycle) now.current

pub films_start : (script : FilmCycle) (before : Production) → before.current ≡ no_rows (length before.schemas) → HasFilms script 0 before before
films_start script before none = record { within = omega arith; kept = refl; added = none }

pub films_step : (script : FilmCycle) (place : ℕ) (before now after : Production) → place < script.rows → HasFilms script place before now → after ≡ record now { current = after.current }
    → AddsRecords now.schemas now.previous (film_at script place) now.current after.current → HasFilms script (place + 1) before after
films_step script place before now after inside so_far kept adds = record {
  within = omega (arith, inside);
  kept = kept ∙ ap (λ (p : Production). record p { current = after.current }) so_far.kept;
  added =
      (let one = subst (λ (p : Production). AddsRecords p.schemas p.previous (film_at script place) now.current after.current) so_far.kept adds in
      subst (λ trees. Next before.schemas before.previous trees after.current) (sym (films_more script place))
      (records_join before.schemas before.previous (films script.seed place script.cycle) (film_at script place) (no_rows (length before.schemas)) now.current after.current so_far.added one));
}

-- where a film finds no row, the films are too many
none_next : (script : FilmCycle) (place : ℕ) (schemas : List Schema) (previous rows : Table) → place < script.rows → HoldsOnce previous → Next schemas previous (films script.seed place script.cycle) rows
    → ((after : Table) → ¬ AddsRecords schemas previous (film_at script place) rows after) → (other : Table) → ¬ Next schemas previous (films script.seed script.rows script.cycle) other
none_next script place schemas previous rows inside once added none other next =
    let front = films script.seed place script.cycle in
    let behind = shown script (range_with_len (place + 1) (script.rows - (place + 1))) in
    let start = no_rows (length schemas) in
    let parts = records_apart schemas previous front (film_at script place ++ behind) start other (subst (λ trees. AddsRecords schemas previous trees start other) (films_rest script place inside) next) in
    let one = records_apart schemas previous (film_at script place) behind parts.middle other parts.rest in
    let same = next_is_one schemas previous parts.middle rows front once parts.first added in
    none one.middle (subst (λ (table : Table). AddsRecords schemas previous (film_at script place) table one.middle) same one.first)

-- a film that is refused, behind so many others
pub films_stop : (script : FilmCycle) (place : ℕ) (before now after : Production) (end : CycleEnd) → place < script.rows → HoldsOnce before.previous → HasFilms script place before now
    → TellsEnd {T = ⊤} (λ done. AddsRecords now.schemas now.previous (film_at script place) now.current after.current)
    (λ why. (why ≡ refusal.TooLarge limit.Ordinals) × ((table : Table) → ¬ AddsRecords now.schemas now.previous (film_at script place) now.current table)) IsMemory (Err end)
    → TellsEnd {T = ⊤} (λ done. AreTaken (published_of before) (given (films script.seed script.rows script.cycle)) after.current) (AreRefused (published_of before) (given (films script.seed script.rows script.cycle))) IsMemory (Err end)
films_stop script place before now after (cycle_end.Refused why) inside once so_far told =
    let none = subst (λ (p : Production). (table : Table) → ¬ AddsRecords p.schemas p.previous (film_at script place) now.current table) so_far.kept told.1 in
    subst (AreRefused (published_of before) (given (films script.seed script.rows script.cycle))) (sym told.0)
    (films script.seed script.rows script.cycle, refl, none_next script place before.schemas before.previous now.current inside once so_far.added none)
films_stop script place before now after (cycle_end.Stopped stop) inside once so_far told = told

-- all films are added
pub films_end : (script : FilmCycle) (place : ℕ) (before now : Production) → script.rows ≤ place → HasFilms script place before now → AreTaken (published_of before) (given (films script.seed script.rows script.cycle)) now.current
films_end script place before now past so_far =
    let e : place ≡ script.rows = omega (arith, past, so_far.within) in
    (films script.seed script.rows script.cycle, refl, subst (λ n. Next before.schemas before.previous (films script.seed n script.cycle) now.current) e so_far.added)

-- a film that is not shown is not added
pub not_shown : (script : FilmCycle) (place : ℕ) (schemas : List Schema) (previous rows : Table) → is_shown script.cycle place ≡ false → AddsRecords schemas previous (film_at script place) rows rows
not_shown script place schemas previous rows not =
    subst (λ (b : Bool). AddsRecords schemas previous (map (λ at. (film_type, film script.seed script.cycle at)) (if b then place ∷ [] else [])) rows rows) (sym not) refl

-- a film that is shown is added
pub film_added : (script : FilmCycle) (place : ℕ) (schemas : List Schema) (previous rows after : Table) (ordinal : ℕ) → is_shown script.cycle place ≡ true → schemas ≡ film_schemas
    → Adds film_schemas previous film_type (film script.seed script.cycle place) rows ordinal after → AddsRecords schemas previous (film_at script place) rows after
film_added script place schemas previous rows after ordinal test model adds =
    subst (λ (b : Bool). AddsRecords schemas previous (map (λ at. (film_type, film script.seed script.cycle at)) (if b then place ∷ [] else [])) rows after) (sym test)
    (ordinal, after, subst (λ (ss : List Schema). Adds ss previous film_type (film script.seed script.cycle place) rows ordinal after) (sym model) adds, refl)

-- or it finds no row
pub film_not_added : (script : FilmCycle) (place : ℕ) (schemas : List Schema) (previous rows : Table) → is_shown script.cycle place ≡ true → schemas ≡ film_schemas
    → ((ordinal : ℕ) (after : Table) → ¬ Adds film_schemas previous film_type (film script.seed script.cycle place) rows ordinal after) → (after : Table) → ¬ AddsRecords schemas previous (film_at script place) rows after
film_not_added script place schemas previous rows test model none after adds =
    let one = subst (λ (b : Bool). AddsRecords schemas previous (map (λ at. (film_type, film script.seed script.cycle at)) (if b then place ∷ [] else [])) rows after) test adds in
    none one.0 one.1 (subst (λ (ss : List Schema). Adds ss previous film_type (film script.seed script.cycle place) rows one.0 one.1) model one.2)

-- a producer of the films' model takes films
pub takes_films : (producer : Production) → producer.schemas ≡ film_schemas → producer.closed ≡ false → TablesAgree producer.previous producer.current → IsClosedTableOf producer.schemas producer.current → IsFilming producer
takes_films producer model is_open agree closed = record { model = model; is_open = is_open; agree = agree; types = closed.fits.types ∙ ap (λ (ss : List Schema). length ss) model }
