-- The films of a cycle of `make` are read from their JSON.
use Rattle.std.proofs.Common.{◌≡◌, ◌≤◌, ◌<◌, ◌+◌, ◌^◌, ◌∙◌, ℕ, ℤ, zero, suc, pos, List, [], ◌∷◌, Bool, true, false, cond, Some, None, Result, Ok, Err, length, map, append-nil, refl, ap, subst, sym, arith}
use Rattle.std.specs.Prelude.{◌++◌, ◌*◌, ◌%◌, IsSome, codes, decimal, filter, if◌then◌else◌, nat_lt}
use Rattle.std.specs.List.{AllZip, range_with_len, zip}
use Rattle.std.proofs.lemmas.Bool.{lt-ltb}
use Rattle.std.proofs.lemmas.List.Elements.{All-cons, All-nil}
use Rattle.serde_json.specs.Data.{Data}
use Rattle.serde_json.specs.View.{items_of}
use Rattle.hol_varint.specs.TextUnits.{text_units}
use Rattle.schema_model.specs.declared.reason.Reason.{Reason}
use Rattle.schema_model.specs.declared.reason.Reason.TheVariants.{NumberOutOfRange}
use Rattle.schema_model.specs.Parts.{index_of_type}
use Rattle.row_model.specs.PlainTree.{PlainTree, leaf, no_trees, object, set, tree_then, trees_of_list}
use Rattle.row_model.specs.declared.row.Value.TheVariants as value
use Rattle.film_script.specs.Films.{film, film_schemas, film_type, film_year, films, is_shown}
use Rattle.hol_orders.specs.Parts.{whole}
use Rattle.json_values.specs.ReadValue.{before, made_of, read_number, read_signed}
use Rattle.record_json.specs.ReadTree.{made, read_tree}
use Rattle.hollow_machine.specs.Records.{Entry, GivesTree, SpellsTrees, entries_at, listed}
use Rattle.chain_laws.specs.ScriptOrders.{film_data, film_json, films_data}

-- ---- a film

-- a number of 31 bits is an INT
number_reads : (n : ℕ) → n < 2 ^ 31 → read_number 32 (whole n) ≡ Ok (pos n)
number_reads n small =
    let long : nat_lt n (2 ^ 63) ≡ true = lt-ltb n (2 ^ 63) (omega (arith, small)) in
    let short : nat_lt n (2 ^ 31) ≡ true = lt-ltb n (2 ^ 31) small in
    ap (λ (b : Bool). read_signed 32 (if b then Some (pos n) else None)) long ∙ ap (λ (b : Bool). (if b then Ok (pos n) else Err NumberOutOfRange)) short

-- a film whose number and year were read so
abbrev film_made : Result ℤ Reason → Result ℤ Reason → List ℕ → List ℕ → List ℕ → Result PlainTree Reason
film_made id year first second title =
    made (λ trees. object (trees_of_list trees))
    (before (made leaf (made_of value.Int id))
    (before (Ok (object (tree_then (leaf (value.Text (text_units title))) no_trees)))
    (before (made leaf (made_of value.Int year))
    (before (Ok (set (tree_then (object (tree_then (leaf (value.Text (text_units first))) no_trees)) (tree_then (object (tree_then (leaf (value.Text (text_units second))) no_trees)) no_trees)))) (Ok [])))))

film_reads : (id : ℕ) (first second title : List ℕ) (year : ℕ) → read_tree film_schemas film_type (film_json id first second title year) ≡ film_made (read_number 32 (whole id)) (read_number 32 (whole year)) first second title
film_reads id first second title year = refl

reads : (seed cycle place : ℕ) → place < 2 ^ 31 → read_tree film_schemas film_type (film_data seed cycle place) ≡ Ok (film seed cycle place)
reads seed cycle place small =
    let id = number_reads place small in
    let year = number_reads (film_year seed cycle place) (omega arith) in
    let first = codes "g" ++ decimal (place % 3) in
    let second = codes "g" ++ decimal (place % 5) in
    let title = codes "t" ++ decimal ((place * seed) % 1000) in
    film_reads place first second title (film_year seed cycle place) ∙ (λ i. film_made (id i) (year i) first second title)

-- ---- the films of a cycle

-- each place is one of a film's
abbrev AreSmall : List ℕ → Type 0
AreSmall [] = Unit {0}
AreSmall (place ∷ places) = (place < 2 ^ 31) × AreSmall places

shown_small : (cycle from count : ℕ) → from + count ≤ 2 ^ 31 → AreSmall (filter (is_shown cycle) (range_with_len from count))
shown_small cycle from zero within = tt
shown_small cycle from (suc count) within = either (is_shown cycle from) (filter (is_shown cycle) (range_with_len (from + 1) count)) (shown_small cycle (from + 1) count (omega (arith, within)))
  where
    either : (is : Bool) (places : List ℕ) → AreSmall places → AreSmall (cond is (from ∷ places) places)
    either true places small = (omega (arith, within), small)
    either false places small = small

-- the items of an array of these are these
listed_items : (values : List Data) → listed (items_of values) ≡ values
listed_items [] = refl
listed_items (value ∷ values) = ap (λ vs. value ∷ vs) (listed_items values)

module _ (seed cycle : ℕ) where
  each_read : (places : List ℕ) (start : ℕ) → AreSmall places →
      AllZip (GivesTree film_schemas) (map (λ (at : ℕ × Data). record { type_index = film_type; place = at.0; value = at.1 }) (zip (range_with_len start (length (map (film_data seed cycle) places))) (map (film_data seed cycle) places)))
      (map (λ place. (film_type, film seed cycle place)) places)
  each_read [] start small = tt
  each_read (place ∷ places) start small = ((refl, reads seed cycle place small.0), each_read places (start + 1) small.1)

  pub films_read : (rows : ℕ) → rows ≤ 2 ^ 31 → SpellsTrees film_schemas (films_data seed rows cycle) (films seed rows cycle)
  films_read rows within = record {
    types = All-cons (λ name. IsSome (index_of_type film_schemas name)) _ [] refl (All-nil (λ name. IsSome (index_of_type film_schemas name)));
    read = subst (λ (recorded : List Entry). AllZip (GivesTree film_schemas) recorded (films seed rows cycle)) (sym (append-nil (entries_at film_type values)))
        (at_films values (listed_items (map (film_data seed cycle) places)));
  }
    where
      places : List ℕ
      places = filter (is_shown cycle) (range_with_len 0 rows)

      values : List Data
      values = listed (items_of (map (film_data seed cycle) places))

      at_films : (read : List Data) → read ≡ map (film_data seed cycle) places → AllZip (GivesTree film_schemas) (entries_at film_type read) (films seed rows cycle)
      at_films read is =
          subst (λ (vs : List Data). AllZip (GivesTree film_schemas) (entries_at film_type vs) (films seed rows cycle)) (sym is) (each_read places 0 (shown_small cycle 0 rows (omega (arith, within))))
