-- The types that a change names have primary keys, or one is the first that has none; and its records have keys of their own, or one is the first that has none, or
-- two are the first with one key.
use Rattle.std.proofs.Common.{◌≡◌, ◌<◌, ◌⊎◌, ◌++◌, ◌∙◌, ℕ, zero, suc, List, [], ◌∷◌, length, get_or, Option, None, Some, Ok, inl, inr, refl, sym, ap, subst, arith}
use Rattle.std.specs.Prelude.{All, Contains, IsSome, IsSomeAnd, slice_get}
use Rattle.std.specs.Option.{option_map}
use Rattle.std.proofs.lemmas.Bool.{cases_lt}
use Rattle.std.proofs.lemmas.List.Elements.{All-cons, All-nil, Contains-get_or}
use Rattle.std.proofs.lemmas.Option.{slice_get-get_or, slice_get-map, slice_get_within}
use Rattle.serde_json.specs.Data.{Data, null}
use Rattle.schema_model.specs.declared.schema.Schema.{Schema}
use Rattle.schema_model.specs.Parts.{index_of_type, type_names}
use Rattle.schema_model.proofs.Indexing.{name_found}
use Rattle.row_model.specs.declared.row.Value.{Value}
use Rattle.row_model.specs.PlainTree.{PlainTree}
use Rattle.hol_incremental.specs.Changes.{HaveKeys, HaveOwnKeys}
use Rattle.hol_incremental.specs.Edited.{Records}
use Rattle.hol_incremental.specs.Roots.{IsKeyed, IsTreeKey}
use Rattle.hol_orders.specs.Parts.{AskedChange}
use Rattle.hollow_machine.specs.ChangeOrder.{AreAllKeyed, AreAllTypes, HasKey, HaveOneKey, IsFirstTwice, IsFirstUnkeyed, IsGivenType}
use Rattle.hollow_machine.specs.Records.{AreKeyedTypes, AreRead, AreTypes, Entry, GivesTree, entries, names_of}
use Rattle.answer_laws.proofs.Deciding.{all_or_first, decide}
use Rattle.answer_laws.proofs.Keys.{schema_there}
use Rattle.answer_laws.proofs.RisingEntries.{entries_rise}

-- that there is no least number of which something holds cannot be, where it holds of one
least : (P : ℕ → Type 0) (n : ℕ) → P n → ((m : ℕ) → P m → ((earlier : ℕ) → earlier < m → P earlier → ⊥) → ⊥) → ⊥
least P n holds first = all_or_first (λ k. P k → ⊥) (suc n) (λ none. none n (omega arith) holds) (λ m below not earlier. decide (P m) (λ either. elim either [
  | inl here ↦ first m here earlier
  | inr never ↦ not never
]))

-- ---- the types

module _ (schemas : List Schema) where
  some_index : (name : List ℕ) → IsSome (index_of_type schemas name) → (t : ℕ) × (index_of_type schemas name ≡ Some t)
  some_index name some = of_index (index_of_type schemas name) refl some
    where
      of_index : (found : Option ℕ) → index_of_type schemas name ≡ found → IsSome found → (t : ℕ) × (index_of_type schemas name ≡ Some t)
      of_index None is none = absurd cc
      of_index (Some t) is none = (t, is)

  -- the type that is found by a name has it
  found_name : (name : List ℕ) (t : ℕ) (schema : Schema) → index_of_type schemas name ≡ Some t → slice_get schemas t ≡ Some schema → schema.name ≡ name
  found_name name t schema is at =
      let found = name_found (type_names schemas) name t is in
      let there : Some schema.name ≡ Some name =
      sym (slice_get-map (λ (s : Schema). s.name) schemas t ∙ ap (option_map (λ (s : Schema). s.name)) at) ∙ slice_get-get_or (type_names schemas) t [] found.0 ∙ ap Some found.1 in
      cc

  -- each type that the JSON names has a primary key
  abbrev NamesKeyed : Data → Type 0
  NamesKeyed json = (t : ℕ) (schema : Schema) → slice_get schemas t ≡ Some schema → Contains (names_of json) schema.name → IsKeyed schemas t

  keyed_types : (json : Data) → AreTypes schemas json → NamesKeyed json → AreKeyedTypes schemas json
  keyed_types json types keyed k d inside =
      let name = get_or (names_of json) k d in
      let among : Contains (names_of json) name = Contains-get_or (names_of json) k d inside in
      let (t, is) = some_index name (types k d inside) in
      let (schema, at) = schema_there schemas name t is in
      let named = found_name name t schema is at in
      subst (λ (o : Option ℕ). IsSomeAnd o (IsKeyed schemas)) (sym is) (keyed t schema at (subst (Contains (names_of json)) (sym named) among))

module _ (schemas : List Schema) (asked : AskedChange) where
  -- a type that the change names has a primary key
  abbrev KeyedWhereGiven : ℕ → Type 0
  KeyedWhereGiven t = IsGivenType schemas asked t → IsKeyed schemas t

  keyed_at : (t : ℕ) (schema : Schema) → slice_get schemas t ≡ Some schema → KeyedWhereGiven t → Contains (names_of asked.put) schema.name ⊎ Contains (names_of asked.remove) schema.name → IsKeyed schemas t
  keyed_at t schema at keyed given =
      keyed (subst (λ (o : Option Schema). IsSomeAnd o (λ s. Contains (names_of asked.put) s.name ⊎ Contains (names_of asked.remove) s.name)) (sym at) given)

  all_keyed : AreAllTypes schemas asked → ((t : ℕ) → t < length schemas → KeyedWhereGiven t) → AreAllKeyed schemas asked
  all_keyed types keyed = (
    types,
    keyed_types schemas asked.put types.0 (λ t schema at among. keyed_at t schema at (keyed t (slice_get_within schemas t schema at)) (inl among)),
    keyed_types schemas asked.remove types.1 (λ t schema at among. keyed_at t schema at (keyed t (slice_get_within schemas t schema at)) (inr among)),
  )

  -- that neither all have one nor one is the first that has none cannot be
  pub keyed_or_first : AreAllTypes schemas asked → (AreAllKeyed schemas asked → ⊥) → ((t : ℕ) → t < length schemas → IsFirstUnkeyed schemas asked t → ⊥) → ⊥
  keyed_or_first types keyed first = all_or_first KeyedWhereGiven (length schemas) (λ all. keyed (all_keyed types all)) (λ t inside not earlier.
      decide (IsGivenType schemas asked t) (λ either. elim either [
        | inl given ↦ first t inside (record { named = given; unkeyed = λ has. not (λ named. has); earlier = λ u less. earlier u less })
        | inr never ↦ not (λ given. absurd (never given))
      ]))

-- ---- the keys of records

module _ (schemas : List Schema) where
  abbrev HasSomeKey : Entry → Type 0
  HasSomeKey entry = (key : List Value) × HasKey schemas entry key

  -- A record of a list has no key, and all before it have one.
  abbrev pub HasKeyless : List Entry → Type 0
  HasKeyless read =
      (before : List Entry) × (entry : Entry) × (rest : List Entry) × (read ≡ before ++ entry ∷ rest) × All HasSomeKey before × ((key : List Value) → ¬ HasKey schemas entry key)

  -- the key of a record is that of its tree
  key_of_entry : (entry : Entry) (put : ℕ × PlainTree) (key : List Value) → GivesTree schemas entry put → IsTreeKey schemas put.0 put.1 key → HasKey schemas entry key
  key_of_entry entry put key gives is = (put.1, gives.1, subst (λ t. IsTreeKey schemas t put.1 key) gives.0 is)

  key_of_put : (entry : Entry) (put : ℕ × PlainTree) (key : List Value) → GivesTree schemas entry put → HasKey schemas entry key → IsTreeKey schemas put.0 put.1 key
  key_of_put entry put key gives (tree, read, is) =
      let both : Ok tree ≡ Ok put.1 = sym read ∙ gives.1 in
      let same : tree ≡ put.1 = cc in
      subst (λ t. IsTreeKey schemas t put.1 key) (sym gives.0) (subst (λ x. IsTreeKey schemas entry.type_index x key) same is)

  abbrev HasTreeKey : ℕ × PlainTree → Type 0
  HasTreeKey put = (key : List Value) × IsTreeKey schemas put.0 put.1 key

  -- that neither all records have a key nor one is the first that has none cannot be
  pub keys_or_keyless : (read : List Entry) (puts : Records) → AreRead schemas read puts → (HaveKeys schemas puts → ⊥) → (HasKeyless read → ⊥) → ⊥
  keys_or_keyless [] [] are keyed keyless = keyed (All-nil HasTreeKey)
  keys_or_keyless [] (put ∷ puts) are keyed keyless = are
  keys_or_keyless (entry ∷ read) [] are keyed keyless = are
  keys_or_keyless (entry ∷ read) (put ∷ puts) are keyed keyless = decide (HasTreeKey put) (λ either. elim either [
    | inl has ↦ keys_or_keyless read puts are.1 (λ all. keyed (All-cons HasTreeKey put puts has all)) (λ more.
        keyless (entry ∷ more.0, more.1, more.2, ap (λ rest. entry ∷ rest) more.3, All-cons HasSomeKey entry more.0 (has.0, key_of_entry entry put has.0 are.0 has.1) more.4, more.5))
    | inr never ↦ keyless ([], entry, read, refl, All-nil HasSomeKey, λ key is. never (key, key_of_put entry put key are.0 is))
  ])

  -- ---- two records with one key

  module _ (add : Data) where
    abbrev recorded : List Entry
    recorded = entries schemas add

    -- the tree at the place of a record is that of the record
    given_at : (read : List Entry) (puts : Records) (i : ℕ) (entry : Entry) (put : ℕ × PlainTree) → AreRead schemas read puts → i < length puts
        → (i < length read) × GivesTree schemas (get_or read i entry) (get_or puts i put)
    given_at [] [] i entry put are inside = absurd (omega (arith, inside))
    given_at [] (p ∷ puts) i entry put are inside = absurd are
    given_at (e ∷ read) [] i entry put are inside = absurd (omega (arith, inside))
    given_at (e ∷ read) (p ∷ puts) zero entry put are inside = (omega arith, are.0)
    given_at (e ∷ read) (p ∷ puts) (suc i) entry put are inside = let rest = given_at read puts i entry put are.1 (omega (arith, inside)) in (omega (arith, rest.0), rest.1)

    -- two records of a type at two places, the lesser one first, with one key
    two_keys : (a b : Entry) (key : List Value) → Contains recorded a → Contains recorded b → a.type_index ≡ b.type_index → a.place < b.place → HasKey schemas a key → HasKey schemas b key
        → HaveOneKey schemas recorded a.type_index a.place b.place
    two_keys a b key among also types less has has_too =
        let typed : b ≡ record { type_index = a.type_index; place = b.place; value = b.value } = λ i. record { type_index = (sym types) i; place = b.place; value = b.value } in
        (less, (key, (a.value, among, has), (b.value, subst (Contains recorded) typed also, subst (λ (e : Entry). HasKey schemas e key) typed has_too)))

    -- records of which no two have one key have keys of their own
    own_keys : (puts : Records) → AreRead schemas recorded puts → ((t first second : ℕ) → HaveOneKey schemas recorded t first second → ⊥) → HaveOwnKeys schemas puts
    own_keys puts are none i j d before inside key types one other =
        let e : Entry = record { type_index = 0; place = 0; value = null } in
        let (low, gives) = given_at recorded puts i e d are (omega (arith, before, inside)) in
        let (high, gives_too) = given_at recorded puts j e d are inside in
        let a = get_or recorded i e in
        let b = get_or recorded j e in
        let same : a.type_index ≡ b.type_index = sym gives.0 ∙ types ∙ gives_too.0 in
        let less = entries_rise schemas add i j e before high same in
        none a.type_index a.place b.place
        (two_keys a b key (Contains-get_or recorded i e low) (Contains-get_or recorded j e high) same less (key_of_entry a (get_or puts i d) key gives one) (key_of_entry b (get_or puts j d) key gives_too other))

    -- two records with one key: there are first ones
    first_twice : (t a b : ℕ) → HaveOneKey schemas recorded t a b → ((u first second : ℕ) → IsFirstTwice schemas recorded u first second → ⊥) → ⊥
    first_twice t a b has found =
        least (λ u. (x : ℕ) × (y : ℕ) × HaveOneKey schemas recorded u x y) t (a, b, has) (λ u some types.
        least (λ y. (x : ℕ) × HaveOneKey schemas recorded u x y) some.1 (some.0, some.2) (λ second more seconds.
        least (λ x. HaveOneKey schemas recorded u x second) more.0 more.1 (λ first twice firsts.
        found u first second (record {
          twice = twice;
          types = λ v x y less one. types v less (x, y, one);
          seconds = λ x y one. elim (cases_lt y second) [ inl less ↦ absurd (seconds y less (x, one)) | inr past ↦ past ];
          firsts = λ x one. elim (cases_lt x first) [ inl less ↦ absurd (firsts x less one) | inr past ↦ past ];
        }))))

    -- that records neither have keys of their own nor are two the first ones with one key cannot be
    pub own_or_twice : (puts : Records) → AreRead schemas recorded puts → (HaveOwnKeys schemas puts → ⊥) → ((t first second : ℕ) → IsFirstTwice schemas recorded t first second → ⊥) → ⊥
    own_or_twice puts are own twice = decide ((t : ℕ) × (first : ℕ) × (second : ℕ) × HaveOneKey schemas recorded t first second) (λ either. elim either [
      | inl some ↦ first_twice some.0 some.1 some.2 some.3 twice
      | inr never ↦ own (own_keys puts are (λ t first second one. never (t, first, second, one)))
    ])
