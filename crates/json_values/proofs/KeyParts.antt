-- The values of a key, which are read one after the other.
use Rattle.std.proofs.Common.{◌≡◌, ℕ, suc, ◌+◌, ◌<◌, ◌≤◌, List, [], ◌∷◌, ◌++◌, map, length, drop, Option, Some, None, Result, Ok, Err, refl, sym, ◌∙◌, ap, subst, append_assoc, add-one, drop-cons, arith}
use Rattle.std.specs.Prelude.{slice_get, slice_index_or, IsErrAnd, IsSomeAnd, All}
use Rattle.std.specs.List.{AllByRecursion}
use Rattle.std.specs.Option.{option_map}
use Rattle.std.proofs.lemmas.List.{drop_all, append-nil, length-map}
use Rattle.std.proofs.lemmas.List.Elements.{recursion_from_All}
use Rattle.serde_json.specs.Data.{Data, array}
use Rattle.serde_json.specs.View.{view, items_view}
use Rattle.serde_json.specs.declared.value.Value.{Value as Json}
use Rattle.schema_model.specs.declared.model.path.Path.{Path}
use Rattle.schema_model.specs.declared.schema.Field.{Field}
use Rattle.schema_model.specs.declared.schema.FieldKind.{FieldKind}
use Rattle.schema_model.specs.declared.schema.Schema.{Schema}
use Rattle.row_model.specs.declared.row.Value.{Value}
use Rattle.closed_rows.specs.Dangling.{IsPlain}
use Rattle.row_model.specs.Key.{IsResolved, kind_along, kind_in, type_behind, with_first}
use Rattle.schema_model.specs.Parts.{referenced}
use Rattle.schema_model.specs.Path.{HasField, RefersTo, GoesOn, Leads, path_names}
use Rattle.json_values.specs.declared.fault.KeyFault.{KeyFault}
use Rattle.json_values.specs.KeyFrom.{AreKinds, SpellsKey, TellsKey, TellsPart, key_part, key_parts, key_values}
use Rattle.json_values.specs.ReadValue.{read_value}

-- the kind of a field that is there
kind_of_field : (schemas : List Schema) (t i : ℕ) (field : Field) → HasField schemas t i field → kind_in schemas t i ≡ Some field.kind
kind_of_field schemas t i field (s, at, own) = rw (at, own) refl

-- the type to which a field that is there leads
behind_field : (schemas : List Schema) (t i u : ℕ) (field : Field) → HasField schemas t i field → RefersTo schemas field.kind u → type_behind schemas t i ≡ Some u
behind_field schemas t i u field has (name, refers, index) = rw (kind_of_field schemas t i field has, refers) index

plain_unless_referring : (kind : FieldKind) → referenced kind ≡ None → IsPlain kind
plain_unless_referring FieldKind.Int none = tt
plain_unless_referring FieldKind.Long none = tt
plain_unless_referring FieldKind.Boolean none = tt
plain_unless_referring FieldKind.Text none = tt
plain_unless_referring FieldKind.Bytes none = tt
plain_unless_referring (FieldKind.Reference name) none = absurd cc

-- a path goes on to a field of a kind without a reference
goes_on_plain : (schemas : List Schema) (t i : ℕ) (field : Field) (more : List ℕ) → HasField schemas t i field → GoesOn schemas field.kind more → IsSomeAnd (kind_along schemas t (i ∷ more)) IsPlain
goes_on_plain schemas t i field [] has ends = rw (kind_of_field schemas t i field has) (plain_unless_referring field.kind ends)
goes_on_plain schemas t i field (j ∷ more) has (u, next, refers, (s, at, only), zeroth, on) =
    let there : HasField schemas u j next = (s, at, ap (λ fields. slice_get fields j) only ∙ ap (λ k. slice_get (next ∷ []) k) zeroth) in
    rw (behind_field schemas t i u field has refers) (goes_on_plain schemas u j next more there on)

-- so does a path that begins with names
leads_plain : (schemas : List Schema) (t : ℕ) (names : List (List ℕ)) (fields : List ℕ) → Leads schemas t names fields → IsSomeAnd (kind_along schemas t fields) IsPlain
leads_plain schemas t [] fields leads = absurd leads
leads_plain schemas t (name ∷ names) [] leads = elim names as (λ ns. Leads schemas t (name ∷ ns) [] → IsSomeAnd (kind_along schemas t []) IsPlain) [ [] ↦ (λ l. absurd l) | n ∷ ns ↦ (λ l. absurd l) ] leads
leads_plain schemas t (name ∷ []) (i ∷ more) (field, has, same, on) = goes_on_plain schemas t i field more has on
leads_plain schemas t (name ∷ next ∷ names) (i ∷ []) (field, u, has, same, refers, leads) = absurd (elim names as (λ ns. Leads schemas u (next ∷ ns) [] → ⊥) [ [] ↦ (λ l. l) | n ∷ ns ↦ (λ l. l) ] leads)
leads_plain schemas t (name ∷ next ∷ names) (i ∷ j ∷ more) (field, u, has, same, refers, leads) =
    rw (behind_field schemas t i u field has refers) (leads_plain schemas u (next ∷ names) (j ∷ more) leads)

-- a resolved path ends at a field of a kind without a reference
pub ends_plain : (schemas : List Schema) (t : ℕ) (path : Path) → IsResolved schemas t path → IsSomeAnd (kind_along schemas t path.fields) IsPlain
ends_plain schemas t path (text, resolves) = leads_plain schemas t (path_names text) path.fields resolves.1

-- the kind of a field, where there is one
pub kind_or_int : Option FieldKind → FieldKind
kind_or_int None = FieldKind.Int
kind_or_int (Some kind) = kind

-- the kind of the field at the end of a path
pub end_kind : List Schema → Path → FieldKind
end_kind schemas path = kind_or_int (kind_along schemas path.type_index path.fields)

pub some_end_kind : (schemas : List Schema) (path : Path) (kind : FieldKind) → kind_along schemas path.type_index path.fields ≡ Some kind → end_kind schemas path ≡ kind
unfolding kind_or_int end_kind
some_end_kind schemas path kind is = ap kind_or_int is

has_kind : (kind : Option FieldKind) → IsSomeAnd kind IsPlain → kind ≡ Some (kind_or_int kind)
unfolding kind_or_int
has_kind None plain = absurd plain
has_kind (Some kind) plain = refl

-- the kinds of the ends of resolved paths
are_end_kinds : (schemas : List Schema) (paths : List Path) → AllByRecursion (λ path. IsResolved schemas path.type_index path) paths → AreKinds schemas paths (map (end_kind schemas) paths)
unfolding kind_or_int end_kind
are_end_kinds schemas [] resolved = tt
are_end_kinds schemas (path ∷ paths) (here, rest) = (has_kind (kind_along schemas path.type_index path.fields) (ends_plain schemas path.type_index path here), are_end_kinds schemas paths rest)

-- paths end at fields of one list of kinds
pub one_kinds : (schemas : List Schema) (paths : List Path) (kinds others : List FieldKind) → AreKinds schemas paths kinds → AreKinds schemas paths others → kinds ≡ others
one_kinds schemas [] [] [] are again = refl
one_kinds schemas [] [] (o ∷ os) are again = absurd again
one_kinds schemas [] (k ∷ ks) others are again = absurd are
one_kinds schemas (path ∷ paths) [] others are again = absurd are
one_kinds schemas (path ∷ paths) (k ∷ ks) [] are again = absurd again
one_kinds schemas (path ∷ paths) (k ∷ ks) (o ∷ os) (here, are) (there, again) =
    let same : Some k ≡ Some o = sym here ∙ there in
    let first : k ≡ o = cc in
    let rest : ks ≡ os = one_kinds schemas paths ks os are again in
    cc

-- JSON spells one key at most
pub one_key : (schemas : List Schema) (paths : List Path) (json : Data) (key other : List Value) → SpellsKey schemas paths json key → SpellsKey schemas paths json other → key ≡ other
one_key schemas paths json key other a b =
    let kinds = one_kinds schemas paths a.kinds b.kinds a.are b.are in
    let same : Some key ≡ Some other = sym a.values ∙ ap (λ ks. key_values ks json) kinds ∙ b.values in
    cc

-- so many values were read, of which none is null
pub record WasTaken (schemas : List Schema) (paths : List Path) (values : List Json) (i : ℕ) (key : List Value) : Type 0 where
  pub whole : key_parts (map (end_kind schemas) paths) (items_view values) ≡ option_map (λ rest. key ++ rest) (key_parts (map (end_kind schemas) (drop i paths)) (items_view (drop i values)))

pub taken_none : (schemas : List Schema) (paths : List Path) (values : List Json) → WasTaken schemas paths values 0 []
taken_none schemas paths values = record { whole = itself (key_parts (map (end_kind schemas) paths) (items_view values)) }
  where
    itself : (o : Option (List Value)) → o ≡ option_map (λ rest. [] ++ rest) o
    itself None = refl
    itself (Some key) = refl

-- the value at a place comes before the rest
at_place : (schemas : List Schema) (paths : List Path) (values : List Json) (i : ℕ) (path : Path) (value : Json) → i < length paths → i < length values → path ≡ slice_index_or paths i path → value ≡ slice_index_or values i value
    → key_parts (map (end_kind schemas) (drop i paths)) (items_view (drop i values)) ≡ with_first (key_part (read_value (end_kind schemas path) (view value))) (key_parts (map (end_kind schemas) (drop (i + 1) paths)) (items_view (drop (i + 1) values)))
at_place schemas paths values i path value inside within at here =
    let front : drop i paths ≡ path ∷ drop (i + 1) paths = rw (add-one, drop-cons paths i path inside) (ap (λ p. p ∷ drop (suc i) paths) (sym at)) in
    let first : drop i values ≡ value ∷ drop (i + 1) values = rw (add-one, drop-cons values i value within) (ap (λ v. v ∷ drop (suc i) values) (sym here)) in
    ap (λ ps. key_parts (map (end_kind schemas) ps) (items_view (drop i values))) front ∙ ap (λ vs. key_parts (map (end_kind schemas) (path ∷ drop (i + 1) paths)) (items_view vs)) first

pub taken_more : (schemas : List Schema) (paths : List Path) (values : List Json) (i : ℕ) (path : Path) (kind : FieldKind) (value : Json) (key new : List Value) (part : Value) → length values ≡ length paths → i < length values
    → path ≡ slice_index_or paths i path → value ≡ slice_index_or values i value → kind_along schemas path.type_index path.fields ≡ Some kind → WasTaken schemas paths values i key
    → key_part (read_value kind (view value)) ≡ Some part → new ≡ key ++ part ∷ [] → WasTaken schemas paths values (i + 1) new
taken_more schemas paths values i path kind value key new part long inside at here is was reads grown =
    let within : i < length paths = omega arith in
    let rest = key_parts (map (end_kind schemas) (drop (i + 1) paths)) (items_view (drop (i + 1) values)) in
    let same : end_kind schemas path ≡ kind = some_end_kind schemas path kind is in
    let some : key_part (read_value (end_kind schemas path) (view value)) ≡ Some part = ap (λ k. key_part (read_value k (view value))) same ∙ reads in
    record {
      whole = was.whole ∙ ap (option_map (λ r. key ++ r)) (at_place schemas paths values i path value within inside at here ∙ ap (λ p. with_first p rest) some)
          ∙ moved rest ∙ ap (λ k. option_map (λ r. k ++ r) rest) (sym grown);
    }
  where
    moved : (rest : Option (List Value)) → option_map (λ r. key ++ r) (with_first (Some part) rest) ≡ option_map (λ r. (key ++ part ∷ []) ++ r) rest
    moved None = refl
    moved (Some rest) = ap Some (sym (append_assoc key (part ∷ []) rest))

pub taken_stops : (schemas : List Schema) (paths : List Path) (values : List Json) (i : ℕ) (path : Path) (kind : FieldKind) (value : Json) (key : List Value) → length values ≡ length paths → i < length values
    → path ≡ slice_index_or paths i path → value ≡ slice_index_or values i value → kind_along schemas path.type_index path.fields ≡ Some kind → WasTaken schemas paths values i key
    → key_part (read_value kind (view value)) ≡ None → key_parts (map (end_kind schemas) paths) (items_view values) ≡ None
taken_stops schemas paths values i path kind value key long inside at here is was reads =
    let within : i < length paths = omega arith in
    let rest = key_parts (map (end_kind schemas) (drop (i + 1) paths)) (items_view (drop (i + 1) values)) in
    let same : end_kind schemas path ≡ kind = some_end_kind schemas path kind is in
    let none : key_part (read_value (end_kind schemas path) (view value)) ≡ None = ap (λ k. key_part (read_value k (view value))) same ∙ reads in
    was.whole ∙ ap (option_map (λ r. key ++ r)) (at_place schemas paths values i path value within inside at here ∙ ap (λ p. with_first p rest) none)

taken_whole : (schemas : List Schema) (paths : List Path) (values : List Json) (i : ℕ) (key : List Value) → length values ≡ length paths → length values ≤ i → WasTaken schemas paths values i key
    → key_parts (map (end_kind schemas) paths) (items_view values) ≡ Some key
taken_whole schemas paths values i key long all was =
    let past : length paths ≤ i = omega arith in
    was.whole ∙ ap (λ vs. option_map (λ r. key ++ r) (key_parts (map (end_kind schemas) (drop i paths)) (items_view vs))) (drop_all i values all)
    ∙ ap (λ ps. option_map (λ r. key ++ r) (key_parts (map (end_kind schemas) ps) (items_view []))) (drop_all i paths past) ∙ ap Some (append-nil key)

-- there is no key of another number of values
other_number : (kinds : List FieldKind) (values : List Json) → (length values ≡ length kinds → ⊥) → key_parts kinds (items_view values) ≡ None
other_number [] [] other = absurd (other refl)
other_number [] (value ∷ values) other = refl
other_number (kind ∷ kinds) [] other = refl
other_number (kind ∷ kinds) (value ∷ values) other =
    rw (other_number kinds values (λ same. other (ap suc same))) (nothing (key_part (read_value kind (view value))))
  where
    nothing : (part : Option Value) → with_first part None ≡ None
    nothing None = refl
    nothing (Some part) = refl

-- where the values give none for the kinds of the ends, JSON spells no key
pub none_spelled : (schemas : List Schema) (paths : List Path) (values : List Json) → All (λ path. IsResolved schemas path.type_index path) paths
    → key_parts (map (end_kind schemas) paths) (items_view values) ≡ None → (key : List Value) → SpellsKey schemas paths (array (items_view values)) key → ⊥
none_spelled schemas paths values resolved none key spells =
    let kinds = one_kinds schemas paths spells.kinds (map (end_kind schemas) paths) spells.are (are_end_kinds schemas paths (recursion_from_All _ paths resolved)) in
    let same : Some key ≡ None = sym spells.values ∙ ap (λ ks. key_parts ks (items_view values)) kinds ∙ none in
    cc

pub none_of_number : (schemas : List Schema) (paths : List Path) (values : List Json) → All (λ path. IsResolved schemas path.type_index path) paths → (length values ≡ length paths → ⊥)
    → (key : List Value) → SpellsKey schemas paths (array (items_view values)) key → ⊥
none_of_number schemas paths values resolved other =
    none_spelled schemas paths values resolved (other_number (map (end_kind schemas) paths) values (λ same. other (same ∙ length-map paths (end_kind schemas))))

pub all_taken : (schemas : List Schema) (paths : List Path) (values : List Json) (i : ℕ) (key : List Value) → All (λ path. IsResolved schemas path.type_index path) paths → length values ≡ length paths
    → length values ≤ i → WasTaken schemas paths values i key → SpellsKey schemas paths (array (items_view values)) key
all_taken schemas paths values i key resolved long all was =
    record { kinds = map (end_kind schemas) paths; are = are_end_kinds schemas paths (recursion_from_All _ paths resolved); values = taken_whole schemas paths values i key long all was }

-- a resolved path among others ends at a field of a kind without a reference
pub path_ends : (schemas : List Schema) (paths : List Path) (i : ℕ) (path : Path) (fields : List ℕ) → All (λ path. IsResolved schemas path.type_index path) paths → i < length paths → path ≡ slice_index_or paths i path
    → fields ≡ path.fields → IsSomeAnd (kind_along schemas path.type_index fields) IsPlain
path_ends schemas paths i path fields resolved inside at are =
    let here : IsResolved schemas path.type_index path = subst (λ (p : Path). IsResolved schemas p.type_index p) (sym at) (resolved i path inside) in
    subst (λ fs. IsSomeAnd (kind_along schemas path.type_index fs) IsPlain) (sym are) (ends_plain schemas path.type_index path here)

-- what a value that is refused tells of the JSON
pub stops : (schemas : List Schema) (paths : List Path) (values : List Json) (i : ℕ) (path : Path) (fields : List ℕ) (kind : FieldKind) (value : Json) (key : List Value) (fault : KeyFault) → All (λ path. IsResolved schemas path.type_index path) paths
    → length values ≡ length paths → i < length values → path ≡ slice_index_or paths i path → fields ≡ path.fields → value ≡ slice_index_or values i value → kind_along schemas path.type_index fields ≡ Some kind
    → WasTaken schemas paths values i key → TellsPart (key_part (read_value kind (view value))) (Err fault) → TellsKey schemas paths (array (items_view values)) (Err fault)
stops schemas paths values i path fields kind value key KeyFault.Shape resolved long inside at are here is was none =
    none_spelled schemas paths values resolved (taken_stops schemas paths values i path kind value key long inside at here (ap (kind_along schemas path.type_index) (sym are) ∙ is) was none)
stops schemas paths values i path fields kind value key KeyFault.Memory resolved long inside at are here is was none = tt

-- the fault of a value is that of the whole
pub passed_on : (schemas : List Schema) (paths : List Path) (json : Data) (fault : KeyFault) (r : Result (List Value) KeyFault) → IsErrAnd r (λ e. e ≡ fault) → TellsKey schemas paths json (Err fault) → TellsKey schemas paths json r
passed_on schemas paths json fault (Ok key) is tells = absurd is
passed_on schemas paths json fault (Err e) is tells = subst (λ (f : KeyFault). TellsKey schemas paths json (Err f)) (sym is) tells
