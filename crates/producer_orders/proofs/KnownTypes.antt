-- The names under which records stand, and the records under a name.
use Rattle.std.proofs.Common.{◌≡◌, ℕ, List, [], ◌∷◌, ◌++◌, Bool, true, false, cond, map, String, string_bytes, Option, Some, None, Result, Ok, Err, refl, sym, ap, ◌∙◌, subst}
use Rattle.std.specs.Prelude.{IfOk, IsSome, not}
use Rattle.std.specs.declared.alloc.AllocError.{AllocError}
use Rattle.std.specs.List.{find, All}
use Rattle.std.specs.Map.{keys_of}
use Rattle.std.specs.Option.{is_none, option_and_then, option_map, option_map_or}
use Rattle.std.specs.declared.alloc.Global.{Global}
use Rattle.std.proofs.lemmas.List.Elements.{All-cons, All-nil}
use Rattle.serde_json.specs.Data.{Data, Members, array, member, no_members, object}
use Rattle.serde_json.specs.Find.{as_array, get}
use Rattle.serde_json.specs.View.{items_of, items_view, members_view, view}
use Rattle.serde_json.specs.declared.value.Value.{Value}
use Rattle.record_stream.specs.RecordLine.{bare}
use Rattle.schema_model.specs.declared.schema.Schema.{Schema}
use Rattle.schema_model.specs.Parts.{index_of_type}
use Rattle.hol_orders.specs.Shapes.{AreArrays, AreRecords}
use Rattle.hollow_machine.specs.Records.{listed, names_in, values_under}
use Rattle.producer_orders.specs.Parts.{TellsUnknown}

pub listed_items : (values : List Data) → listed (items_of values) ≡ values
listed_items [] = refl
listed_items (value ∷ values) = ap (λ vs. value ∷ vs) (listed_items values)

-- the records under a name that has an array
pub values_found : (add : Data) (name : List ℕ) (values : List Value) → Some (array (items_view values)) ≡ get name add → map view values ≡ values_under add name
values_found add name values found =
    sym (listed_items (map view values)) ∙ ap (λ o. option_map_or listed (option_and_then as_array o) []) found

-- the key is that of no type
abbrev pub is_unknown : List Schema → String Global → Bool
is_unknown schemas key = is_none (index_of_type schemas (string_bytes key))

none_known : (o : Option ℕ) → is_none o ≡ true → o ≡ None
none_known (Some t) is = absurd cc
none_known None is = refl

some_known : (o : Option ℕ) → is_none o ≡ false → IsSome o
some_known (Some t) is = refl
some_known None is = absurd cc

-- the names before the first one that is that of no type, and those behind it
unknown_in : (schemas : List Schema) (entries : List (String Global × Value)) (key : String Global) → Some key ≡ find (is_unknown schemas) (keys_of entries)
    → (before : List (List ℕ)) × (rest : List (List ℕ)) × (names_in (members_view entries) ≡ before ++ string_bytes key ∷ rest)
    × All (λ name. IsSome (index_of_type schemas name)) before × (index_of_type schemas (string_bytes key) ≡ None)
unknown_in schemas [] key found = absurd cc
unknown_in schemas (e ∷ es) key found =
    (elim (is_unknown schemas e.0) as (λ b. is_unknown schemas e.0 ≡ b → Some key ≡ cond b (Some e.0) (find (is_unknown schemas) (keys_of es))
    → (before : List (List ℕ)) × (rest : List (List ℕ)) × (string_bytes e.0 ∷ names_in (members_view es) ≡ before ++ string_bytes key ∷ rest)
    × All (λ name. IsSome (index_of_type schemas name)) before × (index_of_type schemas (string_bytes key) ≡ None)) [
      | true ↦ λ is here.
          (let same : e.0 ≡ key = cc in (
            [],
            names_in (members_view es),
            ap (λ (k : String Global). string_bytes k ∷ names_in (members_view es)) same,
            All-nil _,
            subst (λ (k : String Global). index_of_type schemas (string_bytes k) ≡ None) same (none_known _ is),
          ))
      | false ↦ λ is there.
          (let rest = unknown_in schemas es key there in (
            string_bytes e.0 ∷ rest.0,
            rest.1,
            ap (λ ns. string_bytes e.0 ∷ ns) rest.2,
            All-cons (λ name. IsSome (index_of_type schemas name)) (string_bytes e.0) rest.0 (some_known _ is) rest.3,
            rest.4,
          ))
    ]) refl found

pub unknown_found : (schemas : List Schema) (entries : List (String Global × Value)) (key : String Global) → Some key ≡ find (is_unknown schemas) (keys_of entries)
    → TellsUnknown schemas (object (members_view entries)) (Some (string_bytes key))
unknown_found schemas entries key found =
    let parts = unknown_in schemas entries key found in
    record { before = parts.0; rest = parts.1; split = parts.2; known = parts.3; unknown = parts.4 }

pub unknown_none : (schemas : List Schema) (entries : List (String Global × Value)) → None ≡ find (is_unknown schemas) (keys_of entries) → TellsUnknown schemas (object (members_view entries)) None
unknown_none schemas [] found = All-nil _
unknown_none schemas (e ∷ es) found =
    (elim (is_unknown schemas e.0) as (λ b. is_unknown schemas e.0 ≡ b → None ≡ cond b (Some e.0) (find (is_unknown schemas) (keys_of es))
    → All (λ name. IsSome (index_of_type schemas name)) (string_bytes e.0 ∷ names_in (members_view es))) [
      | true ↦ λ is here. absurd cc
      | false ↦ λ is there. All-cons (λ name. IsSome (index_of_type schemas name)) (string_bytes e.0) (names_in (members_view es)) (some_known _ is) (unknown_none schemas es there)
    ]) refl found

-- what a search finds
pub some_found : {B K : Type 0} (now : B → K) (r : Option B) (b : B) (o : Option K) → option_map now r ≡ o → r ≡ Some b → Some (now b) ≡ o
some_found now r b o all is = subst (λ x. option_map now x ≡ o) is all

pub none_found : {B K : Type 0} (now : B → K) (r : Option B) (o : Option K) → option_map now r ≡ o → r ≡ None → None ≡ o
none_found now r o all is = subst (λ x. option_map now x ≡ o) is all

pub flipped : (some none : Bool) → some ≡ not none → none ≡ not some
flipped true true is = absurd cc
flipped true false is = refl
flipped false true is = refl
flipped false false is = absurd cc

-- ---- names that stand in an object with no records

pub names_in-bare : (ms : Members) → names_in (bare ms) ≡ names_in ms
names_in-bare no_members = refl
names_in-bare (member name json rest) = ap (λ ns. name ∷ ns) (names_in-bare rest)

arrays-bare : (ms : Members) → AreArrays (bare ms)
arrays-bare no_members = tt
arrays-bare (member name json rest) = (tt, arrays-bare rest)

-- an object of names has records, though none
pub are_bare : (names : Data) (ms : Members) → names ≡ object (bare ms) → AreRecords names
are_bare names ms are = subst AreRecords (sym are) (arrays-bare ms)

unknown_bare : (schemas : List Schema) (ms : Members) (o : Option (List ℕ)) → TellsUnknown schemas (object (bare ms)) o → TellsUnknown schemas (object ms) o
unknown_bare schemas ms None told = subst (λ ns. All (λ name. IsSome (index_of_type schemas name)) ns) (names_in-bare ms) told
unknown_bare schemas ms (Some name) first = record { before = first.before; rest = first.rest; split = sym (names_in-bare ms) ∙ first.split; known = first.known; unknown = first.unknown }

-- what is told of the names is told of the records
pub unknown_named : (schemas : List Schema) (names add : Data) (ms : Members) (r : Result (Option (List ℕ)) AllocError) → add ≡ object ms → names ≡ object (bare ms) → IfOk r (TellsUnknown schemas names)
    → IfOk r (TellsUnknown schemas add)
unknown_named schemas names add ms (Ok o) is are told = subst (λ (d : Data). TellsUnknown schemas d o) (sym is) (unknown_bare schemas ms o (subst (λ (d : Data). TellsUnknown schemas d o) are told))
unknown_named schemas names add ms (Err e) is are told = tt
