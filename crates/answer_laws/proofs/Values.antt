-- Data that a value of serde_json can hold are those of one.
use Rattle.std.proofs.Common.{◌≡◌, ◌<◌, ◌^◌, ◌∙◌, ℕ, suc, refl, ap, inl, List, [], ◌∷◌, length, String, Vec, Global, arith, rules}
use denote.RawPtr.{null_ptr}
use Rattle.std_collections.specs.Layout.BTreeMap.{btree_map}
use Rattle.serde_json.specs.Data.{Data, Num, Items, Members, null, boolean, array, object, number, string, unsigned, negative, float, no_items, item, no_members, member}
use Rattle.serde_json.specs.Events.{items_len}
use Rattle.serde_json.specs.View.{items_view, members_view, view}
use Rattle.serde_json.specs.declared.number.N.TheVariants.{PosInt, NegInt}
use Rattle.serde_json.specs.declared.value.Value.{Value, Null, Bool, Array, Object, Number, String as Text, the_lemmas}
use Rattle.serde_json.proofs.Views.{view-Array, view-Object}
use Rattle.answer_laws.specs.Storable.{AreStorable, HasStorable, IsStorable, IsStorableNumber, IsStorableText}

-- a `Vec` of these, and a `String` of this text
abbrev vec_of : {X : Type 0} (xs : List X) → length xs < 2 ^ 63 → Vec X Global
vec_of xs few = record { ptr = null_ptr; len = length xs; cap = length xs; alloc = record { memory = record { seal = tt } }; items = xs; ok = (refl, omega arith); small = few }

abbrev text_of : (bytes : List ℕ) → IsStorableText bytes → String Global
text_of bytes is = record { bytes = vec_of bytes is.1; ok = ∣ is.0 ∣₁ }

made_number : (n : Num) → IsStorableNumber n → (json : Value) × (view json ≡ number n)
made_number (unsigned n) is = (Number (record { n = PosInt n; valid = refl }), search (rules, the_lemmas))
made_number (negative z) is = (Number (record { n = NegInt z; valid = is }), search (rules, the_lemmas))
made_number (float x) is = absurd is

mutual
  pub made_value : (datum : Data) → IsStorable datum → (json : Value) × (view json ≡ datum)
  made_value null is = (Null, search (rules, the_lemmas))
  made_value (boolean b) is = (Bool b, search (rules, the_lemmas))
  made_value (number n) is = made_number n is
  made_value (string bytes) is = (Text (text_of bytes is), search (rules, the_lemmas))
  made_value (array items) is =
      let (values, same, count) = made_items items is.1 in
      let few : length values < 2 ^ 63 = omega (arith, is.0, count) in
      (Array (vec_of values few), view-Array (vec_of values few) ∙ ap array same)
  made_value (object members) is =
      let (entries, same) = made_members members is in
      (Object (btree_map entries (inl tt)), view-Object (btree_map entries (inl tt)) ∙ ap object same)

  made_items : (items : Items) → AreStorable items → (values : List Value) × (items_view values ≡ items) × (length values ≡ items_len items)
  made_items no_items is = ([], refl, refl)
  made_items (item datum items) is =
      let (value, one) = made_value datum is.0 in
      let (values, rest, count) = made_items items is.1 in
      (value ∷ values, (λ i. item (one i) (rest i)), ap suc count)

  made_members : (members : Members) → HasStorable members → (entries : List (String Global × Value)) × (members_view entries ≡ members)
  made_members no_members is = ([], refl)
  made_members (member name datum members) is =
      let (value, one) = made_value datum is.1 in
      let (entries, rest) = made_members members is.2 in
      ((text_of name is.0, value) ∷ entries, (λ i. member name (one i) (rest i)))
