-- The line of a look-up by a key as a whole.
use Rattle.std.proofs.Common.{◌≡◌, ◌∙◌, ℕ, ◌-◌, ◌<◌, ◌≤◌, List, [], ◌∷◌, codes, length, Some, None, refl, sym, ap, arith}
use Rattle.json.specs.Token.{Token, begin_array, begin_object, end_array, end_object, key, string as string_token}
use Rattle.json.specs.Json.{after_end_array, items, members, parse_map, value}
use Rattle.json.proofs.Grammar.{value-begin_array, value-begin_object, value_is}
use Rattle.serde_json.specs.Data.{Data, array, item, no_items, no_members, object, string}
use Rattle.serde_json.specs.Read.{converted, of_items, of_json}
use Rattle.record_stream.specs.FindLine.{find_data}
use Rattle.record_stream.proofs.Converted.{converted-array, converted-object, item_read, items_over, member_read, members_over}
use Rattle.record_stream.proofs.Listed.{value_shorter}

-- tokens that begin with a value do not begin with the bracket that closes an array
not_closed : (depth : ℕ) (ts rest : List Token) (d : Data) → converted of_json (value depth ts) ≡ Some (d, rest) → after_end_array ts ≡ None
not_closed depth [] rest d e = refl
not_closed depth (end_array ∷ ts) rest d e = let none = sym (ap (converted of_json) (value_is depth (end_array ∷ ts))) ∙ e in absurd cc
not_closed depth (t ∷ ts) rest d e = refl

module _ (name : List ℕ) (paths values : Data) (first second rest : List Token) (is_paths : converted of_json (value 125 first) ≡ Some (paths, second))
    (are_values : converted of_json (value 125 second) ≡ Some (values, end_array ∷ rest)) where
  abbrev named : List Token
  named = string_token name ∷ first

  asked_items : (n : ℕ) → length named ≤ n → converted of_items (items (value 125) n named) ≡ Some (item (string name) (item paths (item values no_items)), rest)
  asked_items n long =
      let p = value 125 in
      let one = value_shorter 125 first second paths is_paths in
      let two = value_shorter 125 second (end_array ∷ rest) values are_values in
      let is_name : converted of_json (value 125 named) ≡ Some (string name, first) = ap (converted of_json) (value_is 125 named) in
      item_read p n named first (string name) (omega (arith, long)) refl is_name
      ∙ (ap (parse_map (item (string name))) (item_read p (n - 1) first second paths (omega (arith, long, one)) (not_closed 125 first second paths is_paths) is_paths)
      ∙ (ap (λ o. parse_map (item (string name)) (parse_map (item paths) o)) (item_read p (n - 1 - 1) second (end_array ∷ rest) values (omega (arith, long, one, two)) (not_closed 125 second (end_array ∷ rest) values are_values) are_values)
      ∙ ap (λ o. parse_map (item (string name)) (parse_map (item paths) (parse_map (item values) o))) (items_over p (n - 1 - 1 - 1) (end_array ∷ rest) rest (omega (arith, long, one, two)) refl)))

  asked_json : converted of_json (value 126 (begin_array ∷ named)) ≡ Some (array (item (string name) (item paths (item values no_items))), rest)
  asked_json =
      let below : 0 < 126 = omega arith in
      ap (converted of_json) (value-begin_array 126 named below)
      ∙ (converted-array (items (value 125) (length named) named) ∙ ap (parse_map array) (asked_items (length named) (omega arith)))

pub find_json : (ts first second third : List Token) (name : List ℕ) (paths values : Data) → ts ≡ begin_object ∷ key (codes "find") ∷ begin_array ∷ string_token name ∷ first
    → converted of_json (value 125 first) ≡ Some (paths, second) → converted of_json (value 125 second) ≡ Some (values, third) → third ≡ end_array ∷ end_object ∷ []
    → converted of_json (value 127 ts) ≡ Some (find_data name paths values, [])
find_json ts first second third name paths values start is_paths are_values closed =
    let read = asked_json name paths values first second (end_object ∷ []) is_paths (are_values ∙ ap (λ t. Some (values, t)) closed) in
    let below : 0 < 127 = omega arith in
    let from = begin_array ∷ string_token name ∷ first in
    let inside = key (codes "find") ∷ from in
    let n = length inside in
    let some : 0 < n = omega arith in
    let enough : 1 ≤ n - 1 = omega arith in
    ap (λ t. converted of_json (value 127 t)) start
    ∙ (ap (converted of_json) (value-begin_object 127 inside below)
    ∙ (converted-object (members (value 126) n inside)
    ∙ ap (parse_map object) (member_read (value 126) no_members n (codes "find") inside from (end_object ∷ []) _ some refl read ∙ members_over (value 126) _ (n - 1) (end_object ∷ []) [] enough refl)))

-- the same, where the tokens up to the paths are taken one by one
pub find_taken : (ts one two three first second third : List Token) (name : List ℕ) (paths values : Data) → ts ≡ begin_object ∷ one → one ≡ key (codes "find") ∷ two → two ≡ begin_array ∷ three
    → three ≡ string_token name ∷ first → converted of_json (value 125 first) ≡ Some (paths, second) → converted of_json (value 125 second) ≡ Some (values, third) → third ≡ end_array ∷ end_object ∷ []
    → converted of_json (value 127 ts) ≡ Some (find_data name paths values, [])
find_taken ts one two three first second third name paths values brace word bracket text is_paths are_values closed =
    let inner = word ∙ ap (λ t. key (codes "find") ∷ t) (bracket ∙ ap (λ t. begin_array ∷ t) text) in
    find_json ts first second third name paths values (brace ∙ ap (λ t. begin_object ∷ t) inner) is_paths are_values closed
