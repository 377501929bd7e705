-- Why a change is none of a state is told in one way, and not of what is one.
use Rattle.std.proofs.Common.{◌≡◌, ◌<◌, ◌⊎◌, inl, inr, ℕ, zero, suc, List, [], ◌∷◌, Option, Some, Ok, length, get_or, refl, sym, ap, subst, ◌∙◌, arith}
use Rattle.std.specs.Prelude.{All, Contains, IsSomeAnd, slice_get}
use Rattle.std.specs.Option.{option_map}
use Rattle.std.proofs.lemmas.Bool.{cases_order}
use Rattle.std.proofs.lemmas.List.{get_or_default}
use Rattle.std.proofs.lemmas.Option.{slice_get-map}
use Rattle.std.proofs.lemmas.List.Elements.{All-cons, All-contains, All-head, All-nil, All-tail}
use Rattle.serde_json.specs.Data.{Data}
use Rattle.schema_model.specs.declared.model.rule.Rule.TheVariants.{DuplicateName}
use Rattle.schema_model.specs.declared.schema.Schema.{Schema}
use Rattle.schema_model.specs.Model.{IsKept}
use Rattle.schema_model.specs.Parts.{index_of_type, type_names}
use Rattle.schema_model.proofs.ModelFacts.{index_at}
use Rattle.row_model.specs.declared.row.Value.{Value}
use Rattle.row_model.specs.PlainTree.{PlainTree}
use Rattle.hol_incremental.specs.Changes.{HaveKeys, HaveOwnKeys}
use Rattle.hol_incremental.specs.Edited.{Keys, Records}
use Rattle.hol_incremental.specs.Roots.{IsKeyed, IsTreeKey}
use Rattle.hol_orders.specs.Parts.{AskedChange}
use Rattle.hol_answers.specs.declared.refusal.EqualKeys.{EqualKeys}
use Rattle.hol_answers.specs.declared.refusal.Refusal.{Refusal}
use Rattle.hol_answers.specs.declared.refusal.Refusal.TheVariants as refused
use Rattle.hollow_machine.specs.ChangeOrder.{AreAllKeyed, AreAllTypes, ArePut, HasKey, HaveOneKey, IsFirstKeyless, IsFirstTwice, IsFirstUnkeyed, IsGivenType, IsNoChange, IsOfName}
use Rattle.hollow_machine.specs.KeyPaths.{HasShape, IsObject}
use Rattle.hollow_machine.specs.Records.{AreKeyedTypes, AreRead, AreTypes, Entry, GivesTree, IsFirstUnknown, SpellsChange, SpellsKeys, entries, names_of}
use Rattle.chain_laws.proofs.OneRecords.{Unread, first_one, in_all, no_tree, no_type, unknown_one, unread_same}
use Rattle.chain_laws.proofs.StoreNames.{found_with, name_once}

-- ---- reasons one behind another

-- The first reason tells, or what it is asked of holds and the next ones tell.
abbrev Firstly : (Refusal → Type 0) → Type 0 → (Refusal → Type 0) → Refusal → Type 0
Firstly Fails Holds Next refusal = Fails refusal ⊎ (Holds × Next refusal)

module _ (Fails Next : Refusal → Type 0) (Holds : Type 0) (apart : (r : Refusal) → Fails r → Holds → ⊥) where
  firstly_once : ((r s : Refusal) → Fails r → Fails s → r ≡ s) → ((r s : Refusal) → Next r → Next s → r ≡ s) → (r s : Refusal) → Firstly Fails Holds Next r → Firstly Fails Holds Next s → r ≡ s
  firstly_once first next r s (inl one) (inl other) = first r s one other
  firstly_once first next r s (inl one) (inr other) = absurd (apart r one other.0)
  firstly_once first next r s (inr one) (inl other) = absurd (apart s other one.0)
  firstly_once first next r s (inr one) (inr other) = next r s one.1 other.1

  firstly_not : Holds → ((r : Refusal) → Next r → ⊥) → (r : Refusal) → Firstly Fails Holds Next r → ⊥
  firstly_not holds next r (inl fails) = apart r fails holds
  firstly_not holds next r (inr more) = next r more.1

module _ (schemas : List Schema) (asked : AskedChange) where
  abbrev recorded : List Entry
  recorded = entries schemas asked.put

  -- ---- the types

  abbrev NoTypeOf : Refusal → Type 0
  NoTypeOf refusal =
      (name : List ℕ) × (refusal ≡ refused.NoType name)
      × (IsFirstUnknown schemas asked.put name ⊎ (AreTypes schemas asked.put × IsFirstUnknown schemas asked.remove name))

  no_type_once : (r s : Refusal) → NoTypeOf r → NoTypeOf s → r ≡ s
  no_type_once r s (name, is, inl first) (other, also, inl first_too) = is ∙ ap (λ n. refused.NoType n) (unknown_one schemas asked.put name other first first_too) ∙ sym also
  no_type_once r s (name, is, inl first) (other, also, inr later) = absurd (no_type schemas asked.put name later.0 first)
  no_type_once r s (name, is, inr later) (other, also, inl first) = absurd (no_type schemas asked.put other later.0 first)
  no_type_once r s (name, is, inr later) (other, also, inr later_too) = is ∙ ap (λ n. refused.NoType n) (unknown_one schemas asked.remove name other later.1 later_too.1) ∙ sym also

  no_type_apart : (r : Refusal) → NoTypeOf r → AreAllTypes schemas asked → ⊥
  no_type_apart r (name, is, inl first) types = no_type schemas asked.put name types.0 first
  no_type_apart r (name, is, inr later) types = no_type schemas asked.remove name types.1 later.1

  -- ---- the types with a primary key

  -- the type at an index is of another kind, or has no primary key
  abbrev UnkeyedAs : ℕ → Refusal → Type 0
  UnkeyedAs t refusal =
      ((name : List ℕ) × (refusal ≡ refused.WrongKind name) × IsOfName schemas t name × ¬ HasShape IsObject schemas t)
      ⊎ ((refusal ≡ refused.BadPath []) × HasShape IsObject schemas t)

  abbrev UnkeyedOf : Refusal → Type 0
  UnkeyedOf refusal = (t : ℕ) × IsFirstUnkeyed schemas asked t × UnkeyedAs t refusal

  unkeyed_one : (t u : ℕ) → IsFirstUnkeyed schemas asked t → IsFirstUnkeyed schemas asked u → t ≡ u
  unkeyed_one t u one other =
      elim (cases_order t u) [
        | inl same ↦ same
        | inr (inl less) ↦ absurd (one.unkeyed (other.earlier t less one.named))
        | inr (inr more) ↦ absurd (other.unkeyed (one.earlier u more other.named))
      ]

  as_once : (t : ℕ) (r s : Refusal) → UnkeyedAs t r → UnkeyedAs t s → r ≡ s
  as_once t r s (inl (name, is, named, not)) (inl (other, also, named_too, not_too)) = is ∙ ap (λ n. refused.WrongKind n) (name_once (slice_get schemas t) name other named named_too) ∙ sym also
  as_once t r s (inl (name, is, named, not)) (inr (also, object)) = absurd (not object)
  as_once t r s (inr (is, object)) (inl (name, also, named, not)) = absurd (not object)
  as_once t r s (inr (is, object)) (inr (also, object_too)) = is ∙ sym also

  unkeyed_once : (r s : Refusal) → UnkeyedOf r → UnkeyedOf s → r ≡ s
  unkeyed_once r s (t, one, why) (u, other, why_too) = as_once t r s why (subst (λ k. UnkeyedAs k s) (sym (unkeyed_one t u one other)) why_too)

  keyed_in : (json : Data) (name : List ℕ) (t : ℕ) → AreKeyedTypes schemas json → index_of_type schemas name ≡ Some t → Contains (names_of json) name → IsKeyed schemas t
  keyed_in json name t keyed at among =
      subst (λ (o : Option ℕ). IsSomeAnd o (IsKeyed schemas)) at (All-contains (λ (n : List ℕ). IsSomeAnd (index_of_type schemas n) (IsKeyed schemas)) (names_of json) name keyed among)

  module _ (names : IsKept schemas DuplicateName) where
    given_keyed : (t : ℕ) → AreAllKeyed schemas asked → IsGivenType schemas asked t → IsKeyed schemas t
    given_keyed t keyed given =
        let (schema, at, either) = found_with (slice_get schemas t) _ given in
        let named : slice_get (type_names schemas) t ≡ Some schema.name = slice_get-map (λ (s : Schema). s.name) schemas t ∙ ap (option_map (λ (s : Schema). s.name)) at in
        let index = (index_at schemas schema.name names t).1 named in
        elim either [ inl put ↦ keyed_in asked.put schema.name t keyed.1 index put | inr removed ↦ keyed_in asked.remove schema.name t keyed.2 index removed ]

    unkeyed_apart : (r : Refusal) → UnkeyedOf r → AreAllKeyed schemas asked → ⊥
    unkeyed_apart r (t, one, why) keyed = one.unkeyed (given_keyed t keyed one.named)

  -- ---- the records that are put

  abbrev ArePutOf : Type 0
  ArePutOf = (puts : Records) × ArePut schemas asked puts

  abbrev UnreadOf : Refusal → Type 0
  UnreadOf refusal = Unread schemas asked.put refusal

  unread_apart : (r : Refusal) → UnreadOf r → ArePutOf → ⊥
  unread_apart r (name, place, reason, is, (t, named, first)) (puts, put) = no_tree schemas asked.put puts t place reason put.1 first

  -- ---- records without a key

  abbrev HasSomeKey : Entry → Type 0
  HasSomeKey entry = (key : List Value) × HasKey schemas entry key

  abbrev KeylessOf : Refusal → Type 0
  KeylessOf refusal = (name : List ℕ) × (place : ℕ) × (refusal ≡ refused.NoKey name place) × ((t : ℕ) × IsOfName schemas t name × IsFirstKeyless schemas recorded t place)

  keyless_one : (t u place other_place : ℕ) → IsFirstKeyless schemas recorded t place → IsFirstKeyless schemas recorded u other_place → (t ≡ u) × (place ≡ other_place)
  keyless_one t u place other_place one other =
      let same = first_one HasSomeKey one.before other.before (record { type_index = t; place = place; value = one.value }) (record { type_index = u; place = other_place; value = other.value })
      one.rest other.rest one.keyed other.keyed (λ has. one.keyless has.0 has.1) (λ has. other.keyless has.0 has.1) (sym one.split ∙ other.split) in
      (ap (λ (e : Entry). e.type_index) same, ap (λ (e : Entry). e.place) same)

  keyless_once : (r s : Refusal) → KeylessOf r → KeylessOf s → r ≡ s
  keyless_once r s (name, place, is, (t, named, one)) (other, place_too, also, (u, named_too, first_too)) =
      let (types, places) = keyless_one t u place place_too one first_too in
      let same = name_once (slice_get schemas u) name other (subst (λ k. IsOfName schemas k name) types named) named_too in
      is ∙ (λ i. refused.NoKey (same i) (places i)) ∙ sym also

  abbrev AreKeyedPuts : Type 0
  AreKeyedPuts = (puts : Records) × ArePut schemas asked puts × HaveKeys schemas puts

  abbrev HasTreeKey : ℕ × PlainTree → Type 0
  HasTreeKey entry = (key : List Value) × IsTreeKey schemas entry.0 entry.1 key

  all_keyed : (read : List Entry) (puts : Records) → AreRead schemas read puts → HaveKeys schemas puts → All HasSomeKey read
  all_keyed [] [] are keyed = All-nil HasSomeKey
  all_keyed [] (put ∷ puts) are keyed = absurd are
  all_keyed (entry ∷ read) [] are keyed = absurd are
  all_keyed (entry ∷ read) (put ∷ puts) are keyed =
      let (key, is) = All-head HasTreeKey put puts keyed in
      All-cons HasSomeKey entry read (key, (put.1, are.0.1, subst (λ t. IsTreeKey schemas t put.1 key) are.0.0 is)) (all_keyed read puts are.1 (All-tail HasTreeKey put puts keyed))

  keyless_apart : (r : Refusal) → KeylessOf r → AreKeyedPuts → ⊥
  keyless_apart r (name, place, is, (t, named, one)) (puts, put, keyed) =
      let all = subst (λ (es : List Entry). All HasSomeKey es) one.split (all_keyed recorded puts put.1 keyed) in
      let has = in_all HasSomeKey one.before (record { type_index = t; place = place; value = one.value }) one.rest all in
      one.keyless has.0 has.1

  -- ---- two records with one key

  abbrev TwiceOf : Refusal → Type 0
  TwiceOf refusal =
      (keys : EqualKeys) × (refusal ≡ refused.KeyTwice keys) × ((t : ℕ) × IsOfName schemas t keys.type_name × IsFirstTwice schemas recorded t keys.first keys.second)

  type_one : (t u a b c d : ℕ) → IsFirstTwice schemas recorded t a b → IsFirstTwice schemas recorded u c d → t ≡ u
  type_one t u a b c d one other =
      elim (cases_order t u) [
        | inl same ↦ same
        | inr (inl less) ↦ absurd (other.types t a b less one.twice)
        | inr (inr more) ↦ absurd (one.types u c d more other.twice)
      ]

  twice_one : (t a b c d : ℕ) → IsFirstTwice schemas recorded t a b → IsFirstTwice schemas recorded t c d → (a ≡ c) × (b ≡ d)
  twice_one t a b c d one other =
      let low = one.seconds c d other.twice in
      let high = other.seconds a b one.twice in
      let seconds : b ≡ d = omega (arith, low, high) in
      let least = one.firsts c (subst (λ k. HaveOneKey schemas recorded t c k) (sym seconds) other.twice) in
      let most = other.firsts a (subst (λ k. HaveOneKey schemas recorded t a k) seconds one.twice) in
      (omega (arith, least, most), seconds)

  twice_once : (r s : Refusal) → TwiceOf r → TwiceOf s → r ≡ s
  twice_once r s (keys, is, (t, named, one)) (others, also, (u, named_too, other)) =
      let types = type_one t u keys.first keys.second others.first others.second one other in
      let names = name_once (slice_get schemas u) keys.type_name others.type_name (subst (λ k. IsOfName schemas k keys.type_name) types named) named_too in
      let (firsts, seconds) = twice_one u keys.first keys.second others.first others.second (subst (λ k. IsFirstTwice schemas recorded k keys.first keys.second) types one) other in
      is ∙ (λ i. refused.KeyTwice (record { type_name = names i; first = firsts i; second = seconds i })) ∙ sym also

  abbrev HaveOwnPuts : Type 0
  HaveOwnPuts = (puts : Records) × ArePut schemas asked puts × HaveKeys schemas puts × HaveOwnKeys schemas puts

  -- the tree at the place of a record is that of the record
  given_at : (read : List Entry) (puts : Records) (i : ℕ) (e : Entry) (p : ℕ × PlainTree) → AreRead schemas read puts → i < length read → (i < length puts) × GivesTree schemas (get_or read i e) (get_or puts i p)
  given_at [] puts i e p are inside = absurd (omega (arith, inside))
  given_at (entry ∷ read) [] i e p are inside = absurd are
  given_at (entry ∷ read) (put ∷ puts) zero e p are inside = (omega arith, are.0)
  given_at (entry ∷ read) (put ∷ puts) (suc i) e p are inside = let rest = given_at read puts i e p are.1 (omega (arith, inside)) in (omega (arith, rest.0), rest.1)

  -- and has its key
  key_at : (puts : Records) (i : ℕ) (e : Entry) (key : List Value) (p : ℕ × PlainTree) → AreRead schemas recorded puts → i < length recorded → get_or recorded i e ≡ e → HasKey schemas e key
      → (i < length puts) × ((get_or puts i p).0 ≡ e.type_index) × IsTreeKey schemas (get_or puts i p).0 (get_or puts i p).1 key
  key_at puts i e key p are inside is (tree, read, keyed) =
      let (there, gives) = given_at recorded puts i e p are inside in
      let (type, tree_too) = subst (λ (x : Entry). GivesTree schemas x (get_or puts i p)) is gives in
      let both : Ok tree ≡ Ok (get_or puts i p).1 = sym read ∙ tree_too in
      let same : tree ≡ (get_or puts i p).1 = cc in
      (there, type, subst (λ t. IsTreeKey schemas t (get_or puts i p).1 key) (sym type) (subst (λ x. IsTreeKey schemas e.type_index x key) same keyed))

  -- two entries at one place are one
  one_entry : (i : ℕ) (a b : Entry) → i < length recorded → get_or recorded i a ≡ a → get_or recorded i b ≡ b → a ≡ b
  one_entry i a b inside is also = sym is ∙ get_or_default recorded i a b inside ∙ also

  own_not : (puts : Records) (t first second : ℕ) → AreRead schemas recorded puts → HaveOwnKeys schemas puts → HaveOneKey schemas recorded t first second → ⊥
  own_not puts t first second are own (less, (key, (v, (i, inside, is), has), (w, (j, inside_too, also), has_too))) =
      let a : Entry = record { type_index = t; place = first; value = v } in
      let b : Entry = record { type_index = t; place = second; value = w } in
      let p : ℕ × PlainTree = (0, has.0) in
      let (low, type, keyed) = key_at puts i a key p are inside is has in
      let (low_too, type_too, keyed_too) = key_at puts j b key p are inside_too also has_too in
      elim (cases_order i j) [
        | inl same ↦
            let apart = ap (λ (e : Entry). e.place) (one_entry i a b inside is (subst (λ k. get_or recorded k b ≡ b) (sym same) also)) in
            omega (arith, less, apart)
        | inr (inl before) ↦ own i j p before low_too key (type ∙ sym type_too) keyed keyed_too
        | inr (inr behind) ↦ own j i p behind low key (type_too ∙ sym type) keyed_too keyed
      ]

  twice_apart : (r : Refusal) → TwiceOf r → HaveOwnPuts → ⊥
  twice_apart r (keys, is, (t, named, one)) (puts, put, keyed, own) = own_not puts t keys.first keys.second put.1 own one.twice

  -- ---- keys that are none

  abbrev BadKeyOf : Refusal → Type 0
  BadKeyOf refusal = (refusal ≡ refused.BadKey) × ((removes : Keys) → ¬ SpellsKeys schemas asked.remove removes)

  bad_key_once : (r s : Refusal) → BadKeyOf r → BadKeyOf s → r ≡ s
  bad_key_once r s one other = one.0 ∙ sym other.0

  -- ---- all of them

  abbrev WhyKeys : Refusal → Type 0
  WhyKeys = Firstly TwiceOf HaveOwnPuts BadKeyOf

  abbrev WhyPuts : Refusal → Type 0
  WhyPuts = Firstly KeylessOf AreKeyedPuts WhyKeys

  abbrev WhyRecords : Refusal → Type 0
  WhyRecords = Firstly UnreadOf ArePutOf WhyPuts

  abbrev WhyTypes : Refusal → Type 0
  WhyTypes = Firstly UnkeyedOf (AreAllKeyed schemas asked) WhyRecords

  abbrev Why : Refusal → Type 0
  Why = Firstly NoTypeOf (AreAllTypes schemas asked) WhyTypes

  why_records : (r : Refusal) → AreAllKeyed schemas asked → WhyRecords r → Why r
  why_records r keyed records = inr (keyed.0, inr (keyed, records))

  why : (r : Refusal) → IsNoChange schemas asked r → Why r
  why (refused.NoType name) is = inl (name, refl, is)
  why (refused.WrongKind name) (types, (t, first, named, not)) = inr (types, inl (t, first, inl (name, refl, named, not)))
  why (refused.BadPath path) (types, none, (t, first, object)) = inr (types, inl (t, first, inr (ap (λ p. refused.BadPath p) none, object)))
  why (refused.BadRecord fault) (keyed, unread) = why_records (refused.BadRecord fault) keyed (inl (fault.type_name, fault.index, fault.reason, refl, unread))
  why (refused.NoKey name place) (puts, put, keyless) = why_records (refused.NoKey name place) put.0 (inr ((puts, put), inl (name, place, refl, keyless)))
  why (refused.KeyTwice keys) (puts, put, keyed, twice) = why_records (refused.KeyTwice keys) put.0 (inr ((puts, put), inr ((puts, put, keyed), inl (keys, refl, twice))))
  why refused.BadKey (puts, put, keyed, own, none) = why_records refused.BadKey put.0 (inr ((puts, put), inr ((puts, put, keyed), inr ((puts, put, keyed, own), (refl, none)))))
  why _ is = absurd is

  module _ (names : IsKept schemas DuplicateName) where
    pub no_change_once : (r s : Refusal) → IsNoChange schemas asked r → IsNoChange schemas asked s → r ≡ s
    no_change_once r s one other =
        firstly_once NoTypeOf WhyTypes (AreAllTypes schemas asked) no_type_apart no_type_once
        (firstly_once UnkeyedOf WhyRecords (AreAllKeyed schemas asked) (unkeyed_apart names) unkeyed_once
        (firstly_once UnreadOf WhyPuts ArePutOf unread_apart (unread_same schemas asked.put)
        (firstly_once KeylessOf WhyKeys AreKeyedPuts keyless_apart keyless_once (firstly_once TwiceOf BadKeyOf HaveOwnPuts twice_apart twice_once bad_key_once))))
        r s (why r one) (why s other)

    -- what is a change is none such
    pub no_change_apart : (puts : Records) (removes : Keys) → SpellsChange schemas asked.put asked.remove puts removes → (r : Refusal) → IsNoChange schemas asked r → ⊥
    no_change_apart puts removes spells r is =
        let types : AreAllTypes schemas asked = (spells.records.types, spells.keys.types) in
        let keyed : AreAllKeyed schemas asked = (types, spells.put_types, spells.remove_types) in
        let put : ArePut schemas asked puts = (keyed, spells.records.read) in
        firstly_not NoTypeOf WhyTypes (AreAllTypes schemas asked) no_type_apart types
        (firstly_not UnkeyedOf WhyRecords (AreAllKeyed schemas asked) (unkeyed_apart names) keyed
        (firstly_not UnreadOf WhyPuts ArePutOf unread_apart (puts, put)
        (firstly_not KeylessOf WhyKeys AreKeyedPuts keyless_apart (puts, put, spells.keyed)
        (firstly_not TwiceOf BadKeyOf HaveOwnPuts twice_apart (puts, put, spells.keyed, spells.own) (λ x bad. bad.1 removes spells.keys)))))
        r (why r is)
