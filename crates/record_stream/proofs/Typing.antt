-- The types of a cycle, passed one after another.
use Rattle.std.proofs.Common.{◌≡◌, ◌∙◌, List, [], ◌∷◌, ◌++◌, ℕ, Some, None, String, Global, string_bytes, string_cmp, Vec, map, sym, ap}
use Rattle.std.specs.BTreeMap.{insert_entry}
use Rattle.std.proofs.lemmas.List.{map-append}
use Rattle.json.specs.Token.{Token, begin_array}
use Rattle.json.specs.Json.{read_key}
use Rattle.json.proofs.Grammar.{read_key_is}
use Rattle.serde_json.specs.Data.{Members, array, no_items, no_members, put}
use Rattle.serde_json.specs.View.{items_view, members_view}
use Rattle.serde_json.specs.declared.value.Value.{Array, Value}
use Rattle.serde_json.proofs.Views.{Entry, members_view-insert_entry, view-Array}
use Rattle.record_stream.specs.RecordLine.{AreListed, Typed, bare, names_of, with_types}
use Rattle.record_stream.specs.Parts.{AreNames}
use Rattle.record_stream.specs.declared.parts.TypeNames.{TypeNames}
use Rattle.record_stream.specs.Passing.{behind_items}
use Rattle.record_stream.specs.Records.{record_depth}
use Rattle.record_stream.proofs.Listed.{Continues, all_listed, one_more, passed_array}
use Rattle.record_stream.proofs.Named.{still_named}

-- Between the start and the tokens that are left are types whose names are these.
abbrev pub HavePassed : List Token → List Token → Members → List (List ℕ) → Type 0
HavePassed start now names order = (types : List Typed) × (names ≡ bare (with_types types no_members)) × (order ≡ names_of types) × Continues start types now

pub none_passed : (start : List Token) (names : Members) (order : List (List ℕ)) → names ≡ no_members → order ≡ [] → HavePassed start start names order
none_passed start names order none no_order = ([], none, no_order, λ others rest listed. listed)

pub one_passed : (start now from inside behind : List Token) (name : List ℕ) (names new_names : Members) (order new_order : List (List ℕ)) → HavePassed start now names order → read_key now ≡ Some (Some name, from)
    → from ≡ begin_array ∷ inside → behind_items record_depth inside ≡ Some behind → new_names ≡ put name (array no_items) names → new_order ≡ order ++ name ∷ [] → HavePassed start behind new_names new_order
one_passed start now from inside behind name names new_names order new_order before named opened passed inserted pushed =
    let is = passed_array from inside behind opened passed in
    let typed : Typed = (name, is.0) in (
      before.0 ++ typed ∷ [],
      inserted ∙ still_named before.0 typed names before.1,
      pushed ∙ (ap (λ ns. ns ++ name ∷ []) before.2 ∙ sym (map-append (λ (t : Typed). t.0) before.0 (typed ∷ []))),
      one_more start now from behind before.0 typed before.3 (read_key_is now (Some name) from named) is.1,
    )

pub all_passed : (start now behind : List Token) (names : TypeNames) → HavePassed start now (members_view names.names.entries) (map string_bytes names.order.items) → read_key now ≡ Some (None, behind)
    → (types : List Typed) × AreListed start types behind × AreNames names types
all_passed start now behind names before over = (before.0, all_listed start now behind before.0 before.3 over, record { once = before.1; ordered = before.2 })

-- an empty array is put among the members
pub empty_put : (es new_es : List Entry) (text : String Global) (name : List ℕ) (empty : Vec Value Global) → new_es ≡ insert_entry string_cmp es text (Array empty) → empty.items ≡ [] → string_bytes text ≡ name
    → members_view new_es ≡ put name (array no_items) (members_view es)
empty_put es new_es text name empty e none named =
    ap members_view e ∙ (members_view-insert_entry es text (Array empty)
    ∙ (ap (λ d. put (string_bytes text) d (members_view es)) (view-Array empty ∙ ap (λ vs. array (items_view vs)) none) ∙ ap (λ n. put n (array no_items) (members_view es)) named))
