-- The states that a snapshot's types were loaded into, one after another.
use Rattle.std.proofs.Common.{◌≡◌, ◌≤◌, ◌<◌, ◌+◌, ℕ, zero, suc, List, [], ◌∷◌, ◌++◌, Some, length, get_or, take, map, sym, ◌∙◌, ap, subst, append_assoc, append-nil, arith}
use Rattle.std.specs.Prelude.{IsSome}
use Rattle.std.specs.FinMap.{get, keys}
use Rattle.std.specs.List.{All, AllZip}
use Rattle.std.proofs.lemmas.Bool.{false≢true}
use Rattle.std.proofs.lemmas.List.Elements.{All-head, All-tail}
use Rattle.std.proofs.lemmas.List.{take_more, take_all, map-append, length-map}
use Rattle.std.proofs.lemmas.Slice.Zip.{all_zipped_more}
use Rattle.ordinal_set.specs.Ordinals.{bound_of}
use Rattle.schema_model.specs.declared.limit.Limit.TheVariants.{Ordinals}
use Rattle.schema_model.specs.declared.schema.Schema.{Schema}
use Rattle.schema_model.specs.Limit.{number_of_limit}
use Rattle.row_model.specs.declared.row.Row.{Row}
use Rattle.schema_model.specs.Model.{IsModel}
use Rattle.row_model.specs.Row.{FitsShape, IsRowInRange}
use Rattle.row_model.specs.Table.{EachRow, IsClosed, IsLive}
use Rattle.type_state.specs.State.{State, IsLaidOut, empty_half}
use Rattle.type_state.specs.Views.{AreNext, next_halves, table_of}
use Rattle.type_rows.specs.Layout.{places_of}
use Rattle.type_rows.proofs.Entries.{below_bound}
use Rattle.type_rows.proofs.SectionRows.{rows_fit, rows_range}
use Rattle.snapshot_blob.specs.declared.part.TypePart.{TypePart}
use Rattle.snapshot_blob.specs.Body.{IsWholeBody}
use Rattle.snapshot_blob.specs.Stated.{AreAccepted, IsLoadedFrom, KeepsTypeLimits, TypeIs, schemas_of}
use Rattle.snapshot_blob.proofs.StoredRows.{loaded_stored}
use Rattle.snapshot_blob.proofs.Zipped.{zip_right, zip_second, zip_alike}

-- what is made of one part is one more of what is made of the parts
pub mapped_more : {X : Type 0} (f : TypePart → X) (parts : List TypePart) (place : ℕ) (part : TypePart) (made all : List X) (x : X) → place < length parts → part ≡ get_or parts place part
    → made ≡ map f (take place parts) → x ≡ f part → all ≡ made ++ x ∷ [] → all ≡ map f (take (place + 1) parts)
mapped_more f parts place part made all x inside is before same pushed =
    let joined : made ++ x ∷ [] ≡ map f (take place parts) ++ f part ∷ [] = λ i. before i ++ same i ∷ [] in
    let next : take (place + 1) parts ≡ take place parts ++ part ∷ [] = take_more parts place part inside ∙ ap (λ (p : TypePart). take place parts ++ p ∷ []) (sym is) in
    pushed ∙ joined ∙ sym (ap (map f) next ∙ map-append f (take place parts) (part ∷ []))

-- of all parts
pub mapped_all : {X : Type 0} (f : TypePart → X) (parts : List TypePart) (place : ℕ) (made : List X) → length parts ≤ place → made ≡ map f (take place parts) → made ≡ map f parts
mapped_all f parts place made done are = are ∙ ap (map f) (take_all place parts done)

-- its state is one state more
pub states_more : (parts : List TypePart) (part : TypePart) (states all : List State) (state : State) → AllZip IsLoadedFrom parts states → IsLoadedFrom part state → all ≡ states ++ state ∷ []
    → AllZip IsLoadedFrom (parts ++ part ∷ []) all
states_more parts part states all state before loaded pushed =
    subst (λ (ss : List State). AllZip IsLoadedFrom (parts ++ part ∷ []) ss) (sym pushed) (all_zipped_more IsLoadedFrom parts states part state before loaded)

-- what holds of each row of a loaded type
each_row : (Q : Schema → Row → Type 0) → ((part : TypePart) (state : State) (ordinal : ℕ) (row : Row) → IsLoadedFrom part state → get state.other.rows ordinal ≡ Some row → Q part.schema row)
    → (parts : List TypePart) (states : List State) → AllZip IsLoadedFrom parts states → EachRow (schemas_of parts) (table_of (next_halves states)) Q
each_row Q each [] states loaded type_index ordinal schema row is at = absurd cc
each_row Q each (part ∷ parts) [] loaded type_index ordinal schema row is at = absurd loaded
each_row Q each (part ∷ parts) (state ∷ states) loaded zero ordinal schema row is at =
    let of : part.schema ≡ schema = cc in subst (λ (s : Schema). Q s row) of (each part state ordinal row loaded.0 at)
each_row Q each (part ∷ parts) (state ∷ states) loaded (suc type_index) ordinal schema row is at = each_row Q each parts states loaded.1 type_index ordinal schema row is at

-- the next halves are those of the parts' types
pub loaded_next : (parts : List TypePart) (states : List State) (schemas : List Schema) → schemas ≡ schemas_of parts → AllZip IsLoadedFrom parts states → AreNext schemas states
loaded_next parts states schemas named loaded =
    let alike : map (λ (state : State). state.schema) states ≡ schemas_of parts = zip_alike IsLoadedFrom (λ part. part.schema) (λ state. state.schema) (λ part state one. one.schema) parts states loaded in
    subst (λ (schemas : List Schema). AreNext schemas states) (sym named) (record {
      named = alike;
      laid = zip_second IsLoadedFrom (λ state. IsLaidOut state.schema state.other) (λ part state one. one.laid) parts states loaded;
      fits = record {
        types = length-map (next_halves states) (λ half. half.rows) ∙ length-map states (λ (state : State). state.other) ∙ sym (length-map states (λ (state : State). state.schema)) ∙ ap length alike;
        rows = each_row (λ schema row. FitsShape schema.shape row) (λ part state ordinal row one at. rows_fit part.schema.shape part.section state.other.rows ordinal row one.loads.is at) parts states loaded;
        ranges = each_row (λ schema row. IsRowInRange row) (λ part state ordinal row one at. rows_range part.schema.shape part.section state.other.rows ordinal row one.readable.well one.loads.is at) parts states loaded;
      };
    })

pub loaded_types : (parts : List TypePart) (states : List State) → AllZip IsLoadedFrom parts states → AllZip TypeIs parts (next_halves states)
loaded_types parts states loaded = zip_right IsLoadedFrom IsLoadedFrom TypeIs (λ state. state.other) (λ part state one also. record { layout = one.layout; rows = one.loads.is; held = one.loads.held }) parts states loaded loaded

-- the parts are those of the next halves, within the limits
pub loaded_accepted : (parts : List TypePart) (states : List State) (schemas : List Schema) → schemas ≡ schemas_of parts → IsModel schemas → AllZip IsLoadedFrom parts states
    → IsClosed schemas (table_of (next_halves states)) → AreAccepted parts schemas (next_halves states)
loaded_accepted parts states schemas named model loaded closed = (
  record { named = sym named; model = model; types = loaded_types parts states loaded; closed = closed },
  zip_right IsLoadedFrom IsLoadedFrom KeepsTypeLimits (λ state. state.other) (λ part state one also. record { counts = record { ordinals = one.readable.few; items = one.readable.items }; kept = one.loads.within }) parts states loaded loaded,
)

-- the bound of ordinals that are all below a number
bound_low : (ordinals : List ℕ) (limit : ℕ) → All (λ ordinal. ordinal < limit) ordinals → bound_of ordinals ≤ limit
unfolding bound_of
bound_low [] limit low = omega arith
bound_low (o ∷ os) limit low = omega (arith, All-head (λ ordinal. ordinal < limit) o os low, bound_low os limit (All-tail (λ ordinal. ordinal < limit) o os low))

-- the ordinals of a loaded type are below its places, which keep the limit
low_type : (part : TypePart) (state : State) (ordinal : ℕ) → IsLoadedFrom part state → IsSome (get state.other.rows ordinal) → ordinal < number_of_limit Ordinals
low_type part state ordinal loaded live =
    let places : All (λ o. o < places_of part.section.max) (keys state.other.rows) = subst (λ os. All (λ o. o < places_of part.section.max) os) (sym loaded.loads.is.live) loaded.loads.is.places in
    let bound = bound_low (keys state.other.rows) (places_of part.section.max) places in
    let below = below_bound state.other.rows ordinal live in
    omega (arith, bound, below, loaded.readable.few)

low_types : (parts : List TypePart) (states : List State) → AllZip IsLoadedFrom parts states → (type_index ordinal : ℕ) → IsLive (table_of (next_halves states)) type_index ordinal
    → ordinal < number_of_limit Ordinals
low_types [] [] loaded type_index ordinal live = absurd (false≢true live)
low_types [] (state ∷ states) loaded type_index ordinal live = absurd loaded
low_types (part ∷ parts) [] loaded type_index ordinal live = absurd loaded
low_types (part ∷ parts) (state ∷ states) loaded zero ordinal live = low_type part state ordinal loaded.0 live
low_types (part ∷ parts) (state ∷ states) loaded (suc type_index) ordinal live = low_types parts states loaded.1 type_index ordinal live

-- the whole of a body
pub loaded_whole : (parts : List TypePart) (states : List State) (schemas : List Schema) → schemas ≡ schemas_of parts → AllZip IsLoadedFrom parts states
    → IsClosed schemas (table_of (next_halves states)) → IsWholeBody (record { model = schemas; states = states })
loaded_whole parts states schemas named loaded closed = record {
  next = loaded_next parts states schemas named loaded;
  closed = closed;
  low = low_types parts states loaded;
  stored = loaded_stored parts states loaded;
  current = zip_second IsLoadedFrom (λ state. state.current ≡ empty_half) (λ part state one. one.current) parts states loaded;
}

-- nothing is left of a list without items
pub all_taken : (done left all : List TypePart) → done ++ left ≡ all → length left ≡ 0 → done ≡ all
all_taken done [] all are none = sym (append-nil done) ∙ are
all_taken done (x ∷ left) all are none = absurd (omega arith)

-- what was taken and what is left are the parts
pub parts_are : (done : List TypePart) {left rest initial items parts : List TypePart} {part : TypePart} → left ≡ part ∷ rest → done ++ left ≡ initial → initial ≡ items → items ≡ parts → done ++ part ∷ rest ≡ parts
parts_are done steps at from of = ap (λ (ls : List TypePart). done ++ ls) (sym steps) ∙ at ∙ from ∙ of

pub one_taken : (done rest : List TypePart) {left initial : List TypePart} {part : TypePart} → left ≡ part ∷ rest → done ++ left ≡ initial → (done ++ part ∷ []) ++ rest ≡ initial
one_taken done rest {part = part} steps at = append_assoc done (part ∷ []) rest ∙ (ap (λ (ls : List TypePart). done ++ ls) (sym steps) ∙ at)
