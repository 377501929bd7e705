-- The records of a cycle give trees, or a name or a record is the first that gives none.
use Rattle.std.proofs.Common.{◌≡◌, ◌+◌, ◌∙◌, ℕ, suc, List, [], ◌∷◌, ◌++◌, length, Option, None, Some, Result, Ok, Err, refl, sym, ap, subst, arith, add-zero}
use Rattle.std.specs.Prelude.{All, IsOk, IsSome, IsSomeAnd, slice_get}
use Rattle.std.specs.List.{flat_map, range_with_len, zip}
use Rattle.std.proofs.lemmas.List.Elements.{All-append, All-cons, All-head, All-map, All-nil, All-tail}
use Rattle.serde_json.specs.Data.{Data}
use Rattle.schema_model.specs.declared.reason.Reason.{Reason}
use Rattle.schema_model.specs.declared.schema.Schema.{Schema}
use Rattle.schema_model.specs.Parts.{index_of_type}
use Rattle.row_model.specs.PlainTree.{PlainTree}
use Rattle.record_json.specs.ReadTree.{read_tree}
use Rattle.hol_answers.specs.declared.refusal.RefusedRecord.{RefusedRecord}
use Rattle.hol_answers.specs.declared.refusal.Refusal.TheVariants as refusal
use Rattle.hollow_machine.specs.Records.{AreRead, Entry, GivesNoTrees, IsFirstUnread, SpellsTrees, entries, entries_of_type, names_of, placed, spelled, values_under}

-- ---- names

-- A name of a list that is that of no type, and behind others that are.
abbrev pub HasUnknown : List Schema → List (List ℕ) → Type 0
HasUnknown schemas listed =
    (before : List (List ℕ)) × (name : List ℕ) × (rest : List (List ℕ)) × (listed ≡ before ++ name ∷ rest) × All (λ earlier. IsSome (index_of_type schemas earlier)) before
    × (index_of_type schemas name ≡ None)

pub known_or_not : (schemas : List Schema) (listed : List (List ℕ)) → (All (λ name. IsSome (index_of_type schemas name)) listed → ⊥) → (HasUnknown schemas listed → ⊥) → ⊥
known_or_not schemas [] known unknown = known (All-nil (λ name. IsSome (index_of_type schemas name)))
known_or_not schemas (name ∷ listed) known unknown = by_index (known_or_not schemas listed) (index_of_type schemas name) refl
  where
    by_index : ((All (λ earlier. IsSome (index_of_type schemas earlier)) listed → ⊥) → (HasUnknown schemas listed → ⊥) → ⊥) → (found : Option ℕ) → index_of_type schemas name ≡ found → ⊥
    by_index behind None none = unknown ([], name, listed, refl, All-nil (λ earlier. IsSome (index_of_type schemas earlier)), none)
    by_index behind (Some t) some =
        let here : IsSome (index_of_type schemas name) = subst IsSome (sym some) refl in
        behind (λ all. known (All-cons (λ earlier. IsSome (index_of_type schemas earlier)) name listed here all)) (λ has.
        unknown (name ∷ has.0, has.1, has.2, ap (λ rest. name ∷ rest) has.3, All-cons (λ earlier. IsSome (index_of_type schemas earlier)) name has.0 here has.4, has.5))

-- ---- records

-- A record of a list that gives no tree, behind others that do.
abbrev pub HasUnread : List Schema → List Entry → Type 0
HasUnread schemas recorded =
    (before : List Entry) × (entry : Entry) × (rest : List Entry) × (reason : Reason) × (recorded ≡ before ++ entry ∷ rest)
    × All (λ earlier. IsOk (read_tree schemas earlier.type_index earlier.value)) before × (read_tree schemas entry.type_index entry.value ≡ Err reason)

pub read_or_not : (schemas : List Schema) (recorded : List Entry) → ((trees : List (ℕ × PlainTree)) → AreRead schemas recorded trees → ⊥) → (HasUnread schemas recorded → ⊥) → ⊥
read_or_not schemas [] read unread = read [] tt
read_or_not schemas (entry ∷ recorded) read unread = by_tree (read_or_not schemas recorded) (read_tree schemas entry.type_index entry.value) refl
  where
    Reads : Entry → Type 0
    Reads earlier = IsOk (read_tree schemas earlier.type_index earlier.value)

    by_tree : (((trees : List (ℕ × PlainTree)) → AreRead schemas recorded trees → ⊥) → (HasUnread schemas recorded → ⊥) → ⊥) → (found : Result PlainTree Reason)
        → read_tree schemas entry.type_index entry.value ≡ found → ⊥
    by_tree behind (Err reason) bad = unread ([], entry, recorded, reason, refl, All-nil Reads, bad)
    by_tree behind (Ok tree) good =
        let here : Reads entry = subst IsOk (sym good) refl in
        behind (λ trees are. read ((entry.type_index, tree) ∷ trees) ((refl, good), are)) (λ has.
        unread (entry ∷ has.0, has.1, has.2, has.3, ap (λ rest. entry ∷ rest) has.4, All-cons Reads entry has.0 here has.5, has.6))

-- ---- the types of records

-- The item at a place stands in the list there.
abbrev IsPlacedIn : {A : Type 0} → List A → ℕ × A → Type 0
IsPlacedIn whole at = slice_get whole at.0 ≡ Some at.1

placed_in : {A : Type 0} (whole : List A) (from : ℕ) (xs : List A) → ((k : ℕ) → slice_get whole (from + k) ≡ slice_get xs k) → All (IsPlacedIn whole) (zip (range_with_len from (length xs)) xs)
placed_in whole from [] same = All-nil (IsPlacedIn whole)
placed_in whole from (x ∷ xs) same =
    let here : slice_get whole from ≡ Some x = ap (slice_get whole) (sym (add-zero from)) ∙ same 0 in
    All-cons (IsPlacedIn whole) (from, x) (zip (range_with_len (from + 1) (length xs)) xs) here (placed_in whole (from + 1) xs (λ k.
    let next : (from + 1) + k ≡ from + suc k = omega arith in ap (slice_get whole) next ∙ same (suc k)))

-- The type of a record is one of the model.
abbrev pub IsTyped : List Schema → Entry → Type 0
IsTyped schemas entry = (schema : Schema) × (slice_get schemas entry.type_index ≡ Some schema)

entries_typed : (schemas : List Schema) (add : Data) (typed : List (ℕ × Schema)) → All (IsPlacedIn schemas) typed → All (IsTyped schemas) (flat_map (entries_of_type add) typed)
entries_typed schemas add [] all = All-nil (IsTyped schemas)
entries_typed schemas add (one ∷ typed) all =
    let here = All-head (IsPlacedIn schemas) one typed all in
    All-append (IsTyped schemas) (entries_of_type add one) (flat_map (entries_of_type add) typed)
    (All-map (IsTyped schemas) (λ (at : ℕ × Data). record { type_index = one.0; place = at.0; value = at.1 }) (placed (values_under add one.1.name)) (λ k d inside. (one.1, here)))
    (entries_typed schemas add typed (All-tail (IsPlacedIn schemas) one typed all))

-- the types of the records of a model are its types
pub all_typed : (schemas : List Schema) (add : Data) → All (IsTyped schemas) (entries schemas add)
all_typed schemas add = entries_typed schemas add (placed schemas) (placed_in schemas 0 schemas (λ k. ap (slice_get schemas) (omega arith)))

-- such a type has a name
pub type_name : (schemas : List Schema) (entry : Entry) → IsTyped schemas entry → (name : List ℕ) × IsSomeAnd (slice_get schemas entry.type_index) (λ schema. schema.name ≡ name)
type_name schemas entry (schema, at) = (schema.name, subst (λ (o : Option Schema). IsSomeAnd o (λ s. s.name ≡ schema.name)) (sym at) refl)

-- of a list the item behind a front is one
at_front : {A : Type 0} (P : A → Type 0) (before : List A) (x : A) (rest : List A) → All P (before ++ x ∷ rest) → P x
at_front P [] x rest all = All-head P x rest all
at_front P (y ∷ before) x rest all = at_front P before x rest (All-tail P y (before ++ x ∷ rest) all)

-- the type of the record behind a front has a name
pub first_name : (schemas : List Schema) (add : Data) (before : List Entry) (entry : Entry) (rest : List Entry) → entries schemas add ≡ before ++ entry ∷ rest
    → (name : List ℕ) × IsSomeAnd (slice_get schemas entry.type_index) (λ schema. schema.name ≡ name)
first_name schemas add before entry rest split = type_name schemas entry (at_front (IsTyped schemas) before entry rest (subst (All (IsTyped schemas)) split (all_typed schemas add)))

pub first_unread : (schemas : List Schema) (add : Data) (has : HasUnread schemas (entries schemas add)) → IsFirstUnread schemas (entries schemas add) has.1.type_index has.1.place has.3
first_unread schemas add has = record { before = has.0; value = has.1.value; rest = has.2; split = has.4; read = has.5; unread = has.6 }

-- ---- all of them

-- that the records neither give trees nor are refused cannot be
pub trees_or_refused : (schemas : List Schema) (add : Data) → ((trees : List (ℕ × PlainTree)) → SpellsTrees schemas add trees → ⊥) → ((name : List ℕ) → GivesNoTrees schemas (spelled add) (refusal.NoType name) → ⊥)
    → ((why : RefusedRecord) → GivesNoTrees schemas (spelled add) (refusal.BadRecord why) → ⊥) → ⊥
trees_or_refused schemas add gives no_type bad_record = known_or_not schemas (names_of add) (λ types.
    read_or_not schemas (entries schemas add) (λ trees are. gives trees (record { types = types; read = are })) (λ has.
    let name = first_name schemas add has.0 has.1 has.2 has.4 in
    bad_record (record { type_name = name.0; index = has.1.place; reason = has.3 }) (types, (has.1.type_index, name.1, first_unread schemas add has))))
    (λ has. no_type has.1 (record { before = has.0; rest = has.2; split = has.3; known = has.4; unknown = has.5 }))
