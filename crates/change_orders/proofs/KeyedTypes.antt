-- The names in the lists of a change, and the types that they name.
use Rattle.std.proofs.Common.{◌≡◌, ◌∙◌, ◌⊎◌, ◌<◌, ℕ, List, ◌∷◌, length, Bool, true, false, Option, Some, None, Ordering, Less, Equal, Greater, bytes_eq, is_eq, nat_cmp, inl, inr, refl, sym, ap, subst, arith}
use Rattle.std.specs.Prelude.{Contains, IsSome, IsSomeAnd, is_some, slice_get}
use Rattle.std.specs.Option.{option_map}
use Rattle.std.specs.Cmp.Lexicographic.{slice_cmp}
use Rattle.std.specs.Ordering.{match_ordering}
use Rattle.std.proofs.lemmas.Bool.{cases_Bool}
use Rattle.std.proofs.lemmas.List.{length-map}
use Rattle.std.proofs.lemmas.List.Elements.{All-contains}
use Rattle.std.proofs.lemmas.Map.Text.{is_eq-slice_cmp}
use Rattle.std.proofs.lemmas.Slice.Eq.{bytes_eq-Decides}
use Rattle.serde_json.specs.Data.{Data, object, Members, no_members, member}
use Rattle.serde_json.specs.Find.{get, get_member}
use Rattle.record_stream.specs.RecordLine.{bare}
use Rattle.schema_model.specs.declared.schema.Schema.{Schema}
use Rattle.schema_model.specs.Parts.{index_of_type, type_names}
use Rattle.schema_model.proofs.Indexing.{item_name, name_found}
use Rattle.hol_incremental.specs.Roots.{IsKeyed}
use Rattle.hol_incremental.proofs.Among.{first_in, later_in, none_in, parted}
use Rattle.hol_incremental.proofs.OnceLists.{all_of}
use Rattle.hol_orders.specs.Parts.{AskedChange}
use Rattle.hollow_machine.specs.ChangeOrder.{AreAllKeyed, IsGivenType}
use Rattle.hollow_machine.specs.Records.{AreKeyedTypes, AreTypes, names_in, names_of}
use Rattle.hol_answers.specs.declared.refusal.Refusal.TheVariants as refusal
use Rattle.producer_orders.specs.Parts.{TellsUnknown}
use Rattle.producer_orders.proofs.KnownTypes.{names_in-bare}
use Rattle.producer_orders.proofs.Placed.{some_item}
use Rattle.change_orders.specs.Given.{TellsUnkeyed}

-- ---- names

passed_over : (o : Ordering) (rest here : Option Data) → is_eq o ≡ false → match_ordering o rest here rest ≡ rest
passed_over Less rest here is = refl
passed_over Equal rest here is = absurd cc
passed_over Greater rest here is = refl

taken : (o : Ordering) (rest here : Option Data) → is_eq o ≡ true → match_ordering o rest here rest ≡ here
taken Less rest here is = absurd cc
taken Equal rest here is = refl
taken Greater rest here is = absurd cc

member_in : (name : List ℕ) (ms : Members) → IsSome (get_member name ms) → Contains (names_in ms) name
member_in name no_members some = absurd cc
member_in name (member other json ms) some = elim (cases_Bool (bytes_eq name other)) [
  | inl same ↦ subst (λ n. Contains (other ∷ names_in ms) n) (sym ((bytes_eq-Decides name other).0 same)) (first_in other (names_in ms))
  | inr apart ↦
      later_in other (names_in ms) name
      (member_in name ms (subst IsSome (passed_over (slice_cmp nat_cmp name other) (get_member name ms) (Some json) (is_eq-slice_cmp name other ∙ apart)) some))
]

in_members : (name : List ℕ) (ms : Members) → Contains (names_in ms) name → IsSome (get_member name ms)
in_members name no_members among = absurd (none_in name among)
in_members name (member other json ms) among = elim (cases_Bool (bytes_eq name other)) [
  | inl same ↦ subst IsSome (sym (taken (slice_cmp nat_cmp name other) (get_member name ms) (Some json) (is_eq-slice_cmp name other ∙ same))) refl
  | inr apart ↦
      subst IsSome (sym (passed_over (slice_cmp nat_cmp name other) (get_member name ms) (Some json) (is_eq-slice_cmp name other ∙ apart)))
      (in_members name ms (later apart (parted other (names_in ms) name among)))
]
  where
    later : bytes_eq name other ≡ false → (other ≡ name) ⊎ Contains (names_in ms) name → Contains (names_in ms) name
    later apart (inl same) = absurd (let is = (bytes_eq-Decides name other).1 (sym same) in cc)
    later apart (inr among) = among

-- what stands under a name has it among the names, and the other way round
pub under_in : (json : Data) (name : List ℕ) → IsSome (get name json) → Contains (names_of json) name
under_in (object ms) name some = member_in name ms some
under_in _ name some = absurd cc

pub in_under : (json : Data) (name : List ℕ) → Contains (names_of json) name → IsSome (get name json)
in_under (object ms) name among = in_members name ms among
in_under _ name among = absurd (none_in name among)

-- ---- types

-- the type to which a name leads
pub type_of_name : (schemas : List Schema) (name : List ℕ) (t : ℕ) → index_of_type schemas name ≡ Some t → (schema : Schema) × (t < length schemas) × (slice_get schemas t ≡ Some schema) × (schema.name ≡ name)
type_of_name schemas name t is =
    let found = name_found (type_names schemas) name t is in
    let long = length-map schemas (λ (s : Schema). s.name) in
    let within : t < length schemas = omega (arith, found.0, long) in
    let there = some_item schemas t within in
    (there.0, within, there.1, sym (item_name (λ (s : Schema). s.name) schemas t there.0 there.1) ∙ found.1)

module _ (schemas : List Schema) (asked : AskedChange) (keyed : TellsUnkeyed schemas asked None) where
  -- names of types, where each type that is named has a primary key, are those of types with one
  keyed_names : (json : Data) → ((name : List ℕ) → Contains (names_of json) name → Contains (names_of asked.put) name ⊎ Contains (names_of asked.remove) name) → AreTypes schemas json → AreKeyedTypes schemas json
  keyed_names json given types =
      all_of (λ name. IsSomeAnd (index_of_type schemas name) (IsKeyed schemas)) (names_of json)
      (λ name among. by_index name among (index_of_type schemas name) refl (All-contains (λ n. IsSome (index_of_type schemas n)) (names_of json) name types among))
    where
      by_index : (name : List ℕ) → Contains (names_of json) name → (index : Option ℕ) → index_of_type schemas name ≡ index → IsSome (index_of_type schemas name) → IsSomeAnd (index_of_type schemas name) (IsKeyed schemas)
      by_index name among None is some = absurd (let bad = subst IsSome is some in cc)
      by_index name among (Some t) is some =
          let (schema, within, at, named) = type_of_name schemas name t is in
          let there = subst (λ n. Contains (names_of asked.put) n ⊎ Contains (names_of asked.remove) n) (sym named) (given name among) in
          subst (λ (o : Option ℕ). IsSomeAnd o (IsKeyed schemas)) (sym is)
          (keyed t within (subst (λ (o : Option Schema). IsSomeAnd o (λ s. Contains (names_of asked.put) s.name ⊎ Contains (names_of asked.remove) s.name)) (sym at) there))

  pub all_keyed : AreTypes schemas asked.put → AreTypes schemas asked.remove → AreAllKeyed schemas asked
  all_keyed put remove = ((put, remove), keyed_names asked.put (λ name among. inl among) put, keyed_names asked.remove (λ name among. inr among) remove)

-- ---- what is found under a name

-- something stands there exactly where the name is among the names
pub found_named : {B : Type 0} (f : B → Data) (o : Option B) (b : Bool) (json : Data) (name : List ℕ) → b ≡ is_some o → option_map f o ≡ get name json → (b ≡ true → Contains (names_of json) name) × (Contains (names_of json) name → b ≡ true)
found_named f None b json name is found = (
  (λ holds. absurd (let bad = sym holds ∙ is in cc)),
  (λ among. absurd (let some = subst IsSome (sym found) (in_under json name among) in cc)),
)
found_named f (Some x) b json name is found = ((λ holds. under_in json name (subst IsSome found refl)), (λ among. is))

-- the same of other JSON with the same names
pub same_names : (json other : Data) (name : List ℕ) (b : Bool) → names_of json ≡ names_of other → (b ≡ true → Contains (names_of json) name) × (Contains (names_of json) name → b ≡ true)
    → (b ≡ true → Contains (names_of other) name) × (Contains (names_of other) name → b ≡ true)
same_names json other name b same told = subst (λ ns. (b ≡ true → Contains ns name) × (Contains ns name → b ≡ true)) same told

-- the names of records that are in a line
pub named_bare : {line : Data} (json given : Data) (ms : Members) → json ≡ object (bare ms) → given ≡ line → line ≡ object ms → names_of json ≡ names_of given
named_bare json given ms are stands is = ap names_of are ∙ (names_in-bare ms ∙ ap names_of (sym (stands ∙ is)))

module _ (schemas : List Schema) (asked : AskedChange) (t : ℕ) (schema : Schema) (at : slice_get schemas t ≡ Some schema) where
  pub given_in : Contains (names_of asked.put) schema.name ⊎ Contains (names_of asked.remove) schema.name → IsGivenType schemas asked t
  given_in there = subst (λ (o : Option Schema). IsSomeAnd o (λ s. Contains (names_of asked.put) s.name ⊎ Contains (names_of asked.remove) s.name)) (sym at) there

  pub in_given : IsGivenType schemas asked t → Contains (names_of asked.put) schema.name ⊎ Contains (names_of asked.remove) schema.name
  in_given given = subst (λ (o : Option Schema). IsSomeAnd o (λ s. Contains (names_of asked.put) s.name ⊎ Contains (names_of asked.remove) s.name)) at given

-- no name is that of no type
pub types_known : (schemas : List Schema) (json : Data) (found : Option (List ℕ)) → ((name : List ℕ) → found ≡ Some name → ⊥) → TellsUnknown schemas json found → AreTypes schemas json
types_known schemas json None not told = told
types_known schemas json (Some name) not told = absurd (not name refl)
