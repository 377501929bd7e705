-- What adding a tree makes: the rows that stood there stay, the tree's row stands for it, and each row that comes is that row, or one that a row names.
use Rattle.std.proofs.Common.{◌≡◌, ◌∙◌, ◌⊎◌, ◌<◌, ℕ, List, [], ◌∷◌, ◌++◌, length, flat_map, zip, Option, Some, None, refl, sym, ap, subst, inl, inr, arith, map as images}
use Rattle.std.specs.Prelude.{Contains, IsSome, IsSomeAnd, is_some, option_and_then, option_map, slice_get}
use Rattle.std.specs.FinMap.{get, insert}
use Rattle.std.proofs.lemmas.Bool.{cases_lt}
use Rattle.std.proofs.lemmas.List.Elements.{Contains-append_left, Contains-append_right}
use Rattle.std.proofs.lemmas.Option.{slice_get_within}
use Rattle.schema_model.specs.declared.schema.name.Name.{Name}
use Rattle.schema_model.specs.declared.schema.Field.{Field}
use Rattle.schema_model.specs.declared.schema.FieldKind.{FieldKind}
use Rattle.schema_model.specs.declared.schema.Schema.{Schema}
use Rattle.schema_model.specs.declared.schema.Shape.{Shape}
use Rattle.schema_model.specs.Parts.{index_of_type}
use Rattle.row_model.specs.declared.row.Row.{Row}
use Rattle.row_model.specs.declared.row.Value.{Value}
use Rattle.row_model.specs.PlainTree.{PlainTree, PlainTrees, PlainPairs, leaf, object, list, set, map, no_trees, tree_then, no_pairs, pair_then}
use Rattle.row_model.specs.Row.{IsValueInRange, references_of_row, references_of_value, stored_value}
use Rattle.row_model.specs.Table.{IsLive, Table, row_at}
use Rattle.row_model.proofs.RowsFrom.{get_in}
use Rattle.record_trees.specs.FitsTree.{FitAll, FitFields, FitPairs, FitsLeaf, FitsTree, IsConsAnd, IsLeafOr}
use Rattle.record_trees.specs.Types.{list_element, map_types, object_fields, referred, set_element, shape_at}
use Rattle.ordinal_map.specs.Assign.{IsPut}
use Rattle.write_engine.specs.Agreement.{TablesAgree}
use Rattle.write_engine.specs.Cycle.{Adds, AddsAll, AddsFields, AddsPairs, IsMapOf, IsSetOf, PutsRow, rows_in, with_row}
use Rattle.write_engine.specs.RowDrops.{IsNamed}
use Rattle.write_engine.proofs.ClosedStates.{length_set}
use Rattle.write_engine.proofs.NextStates.{adds_agree, all_agree, fields_agree, pairs_agree}
use Rattle.hol_incremental.proofs.Among.{found_in, first_in, in_image, in_pieces, later_in}
use Rattle.hol_incremental.proofs.OneRecord.{AllStand, AreFirst, FieldsStand, PairsStand, StandsFor, Stays, all_still, fields_still, pairs_first, pairs_still, still}
use Rattle.hol_incremental.proofs.PutRows.{IsThere, is_there, put_cases, put_other, put_there, set_past}

-- ---- a row is put

pub put_stays : (previous before after : Table) (t o : ℕ) (row : Row) → TablesAgree previous before → PutsRow previous t row before o after → Stays before after
put_stays previous before after t o row agree puts u q r here =
    subst (λ (table : Table). row_at table u q ≡ Some r) (sym puts.after_is)
    (elim (cases_lt t (length before)) [
      | inr past ↦ subst (λ (table : Table). row_at table u q ≡ Some r) (sym (set_past before t (insert (rows_in before t) o row) (omega arith))) here
      | inl inside ↦
          elim (is_there t o u q) [
            | inr other ↦ put_other before t o row inside u q other ∙ here
            | inl there ↦ put_there before t o row inside u q there ∙ ap Some (same there puts.put)
          ]
    ])
  where
    stood : IsThere t o u q → get (rows_in before t) o ≡ Some r
    stood there = get_in before t o ∙ ap (row_at before t) (sym there.1) ∙ ap (λ n. row_at before n q) (sym there.0) ∙ here

    same : IsThere t o u q → IsPut (rows_in previous t) (rows_in before t) row o → row ≡ r
    same there (inl held) = (agree t).one_row o row r held (inr (stood there))
    same there (inr new) = absurd (let e = sym (stood there) ∙ new.least.free_now in cc)

pub stays_then : (a b c : Table) → Stays a b → Stays b c → Stays a c
stays_then a b c one two t o row here = two t o row (one t o row here)

pub live_stays : (before after : Table) → Stays before after → (t o : ℕ) → IsLive before t o → IsLive after t o
live_stays before after stays t o live = of_option (row_at before t o) refl live
  where
    of_option : (found : Option Row) → row_at before t o ≡ found → IsSome found → IsLive after t o
    of_option None is some = absurd cc
    of_option (Some row) is some = ap is_some (stays t o row is)

pub named_stays : (schemas : List Schema) (before after : Table) → Stays before after → (t o : ℕ) → IsNamed schemas before t o → IsNamed schemas after t o
named_stays schemas before after stays t o named = record {
  type_index = named.type_index;
  place = named.place;
  schema = named.schema;
  row = named.row;
  name = named.name;
  schema_is = named.schema_is;
  row_is = stays named.type_index named.place named.row named.row_is;
  names = named.names;
  type_is = named.type_is;
}

-- ---- what a row names, by type and ordinal

-- the row of the type under the ordinal is among these
pub record Mentions (schemas : List Schema) (references : List (Name × ℕ)) (t ordinal : ℕ) : Type 0 where
  pub name : Name
  pub among : Contains references (name, ordinal)
  pub type : index_of_type schemas name ≡ Some t

-- the row was there, or is one of some, or a row names it
abbrev pub HeldBy : List Schema → Table → (ℕ → ℕ → Type 0) → Table → Type 0
HeldBy schemas before A after = (u q : ℕ) → IsLive after u q → IsLive before u q ⊎ (A u q ⊎ IsNamed schemas after u q)

pub held_then : (schemas : List Schema) (before middle after : Table) (A B C : ℕ → ℕ → Type 0) → Stays middle after → HeldBy schemas before A middle → HeldBy schemas middle B after → ((u q : ℕ) → A u q → C u q) → ((u q : ℕ) → B u q → C u q)
    → HeldBy schemas before C after
held_then schemas before middle after A B C stays one two f g u q live =
    elim (two u q live) [
      | inl there ↦
          elim (one u q there) [
            | inl first ↦ inl first
            | inr later ↦ elim later [
              | inl a ↦ inr (inl (f u q a))
              | inr named ↦ inr (inr (named_stays schemas middle after stays u q named))
            ]
          ]
      | inr later ↦ elim later [
        | inl b ↦ inr (inl (g u q b))
        | inr named ↦ inr (inr named)
      ]
    ]

none_held : (schemas : List Schema) (before after : Table) (A : ℕ → ℕ → Type 0) → after ≡ before → HeldBy schemas before A after
none_held schemas before after A same u q live = inl (subst (λ (table : Table). IsLive table u q) same live)

same_stays : (before after : Table) → after ≡ before → Stays before after
same_stays before after same t o row here = subst (λ (table : Table). row_at table t o ≡ Some row) (sym same) here

-- the type at an index, by what it asks for
type_of : {A : Type 0} (schemas : List Schema) (t : ℕ) (ask : Shape → Option A) (x : A) → option_and_then ask (shape_at schemas t) ≡ Some x → (schema : Schema) × (slice_get schemas t ≡ Some schema) × (ask schema.shape ≡ Some x)
type_of schemas t ask x is = of_schema (slice_get schemas t) refl is
  where
    of_schema : (found : Option Schema) → slice_get schemas t ≡ found → option_and_then ask (option_map (λ schema. schema.shape) found) ≡ Some x → (schema : Schema) × (slice_get schemas t ≡ Some schema) × (ask schema.shape ≡ Some x)
    of_schema None e is = absurd cc
    of_schema (Some schema) e is = (schema, e, is)

some_at : {A : Type 0} (P : A → Type 0) (found : Option A) (x : A) → found ≡ Some x → IsSomeAnd found P → P x
some_at P found x is holds = subst (λ o. IsSomeAnd o P) is holds

-- ---- the names in rows of each kind

object_names : (schemas : List Schema) (shape : Shape) (fields : List Field) (values : List Value) → object_fields shape ≡ Some fields → (u q : ℕ) → Mentions schemas (flat_map (λ part. references_of_value part.0.kind part.1) (zip fields values)) u q
    → Mentions schemas (references_of_row shape (Row.Object values)) u q
object_names schemas (Shape.Object key fs) fields values is u q mentions =
    let same : fs ≡ fields = cc in subst (λ (gs : List Field). Mentions schemas (flat_map (λ part. references_of_value part.0.kind part.1) (zip gs values)) u q) (sym same) mentions
object_names schemas (Shape.List name) fields values is u q mentions = absurd cc
object_names schemas (Shape.Set name) fields values is u q mentions = absurd cc
object_names schemas (Shape.Map key value) fields values is u q mentions = absurd cc

-- an element of the type
abbrev IsElement : ℕ → List ℕ → ℕ → ℕ → Type 0
IsElement t ordinals u q = (u ≡ t) × Contains ordinals q

of_name : (schemas : List Schema) (name : Name) (t : ℕ) (ordinals : List ℕ) → index_of_type schemas name ≡ Some t → (u q : ℕ) → IsElement t ordinals u q → Mentions schemas (images (λ (o : ℕ). (name, o)) ordinals) u q
of_name schemas name t ordinals is u q element =
    record { name = name; among = in_image (λ (o : ℕ). (name, o)) ordinals q element.1; type = is ∙ ap Some (sym element.0) }

list_names : (schemas : List Schema) (shape : Shape) (t : ℕ) (ordinals : List ℕ) → list_element schemas shape ≡ Some t → (u q : ℕ) → IsElement t ordinals u q → Mentions schemas (references_of_row shape (Row.List ordinals)) u q
list_names schemas (Shape.List name) t ordinals is u q element = of_name schemas name t ordinals is u q element
list_names schemas (Shape.Object key fields) t ordinals is u q element = absurd cc
list_names schemas (Shape.Set name) t ordinals is u q element = absurd cc
list_names schemas (Shape.Map key value) t ordinals is u q element = absurd cc

set_names : (schemas : List Schema) (shape : Shape) (t : ℕ) (ordinals members : List ℕ) → set_element schemas shape ≡ Some t → IsSetOf ordinals members → (u q : ℕ) → IsElement t ordinals u q → Mentions schemas (references_of_row shape (Row.Set members)) u q
set_names schemas (Shape.Set name) t ordinals members is of u q element = of_name schemas name t members is u q (element.0, (of.same q).1 element.1)
set_names schemas (Shape.Object key fields) t ordinals members is of u q element = absurd cc
set_names schemas (Shape.List name) t ordinals members is of u q element = absurd cc
set_names schemas (Shape.Map key value) t ordinals members is of u q element = absurd cc

-- a key or a value of the types
abbrev IsEntry : ℕ × ℕ → List (ℕ × ℕ) → ℕ → ℕ → Type 0
IsEntry types added u q = ((u ≡ types.0) × ((v : ℕ) × Contains added (q, v))) ⊎ ((u ≡ types.1) × ((k : ℕ) × Contains added (k, q)))

both_types : (k v : Option ℕ) (types : ℕ × ℕ) → option_and_then (λ key. option_map (λ value. (key, value)) v) k ≡ Some types → (k ≡ Some types.0) × (v ≡ Some types.1)
both_types None v types is = absurd cc
both_types (Some k) None types is = absurd cc
both_types (Some k) (Some v) types is =
    let same : ◌≡◌ {A = ℕ × ℕ} (k, v) types = cc in
    (ap (λ (p : ℕ × ℕ). Some p.0) same, ap (λ (p : ℕ × ℕ). Some p.1) same)

map_names : (schemas : List Schema) (shape : Shape) (types : ℕ × ℕ) (added members : List (ℕ × ℕ)) → map_types schemas shape ≡ Some types → IsMapOf added members → AreFirst added → (u q : ℕ) → IsEntry types added u q
    → Mentions schemas (references_of_row shape (Row.Map members)) u q
map_names schemas (Shape.Map key value) types added members is of firsts u q entry =
    let both = both_types (index_of_type schemas key) (index_of_type schemas value) types is in
    let member : (k v : ℕ) → Contains added (k, v) → Contains members (k, v) = λ k v among. found_in members k v (of.same k ∙ firsts k v among) in
    let Named : ℕ × ℕ → List (Name × ℕ) = λ pair. (key, pair.0) ∷ (value, pair.1) ∷ [] in
    elim entry [
      | inl here ↦ record {
        name = key;
        among = in_pieces Named members (q, here.1.0) (key, q) (member q here.1.0 here.1.1) (first_in (key, q) ((value, here.1.0) ∷ []));
        type = both.0 ∙ ap Some (sym here.0);
      }
      | inr there ↦ record {
        name = value;
        among = in_pieces Named members (there.1.0, q) (value, q) (member there.1.0 q there.1.1) (later_in (key, there.1.0) ((value, q) ∷ []) (value, q) (first_in (value, q) []));
        type = both.1 ∙ ap Some (sym there.0);
      }
    ]
map_names schemas (Shape.Object key fields) types added members is of firsts u q entry = absurd cc
map_names schemas (Shape.List name) types added members is of firsts u q entry = absurd cc
map_names schemas (Shape.Set name) types added members is of firsts u q entry = absurd cc

reference_names : (schemas : List Schema) (kind : FieldKind) (t o : ℕ) → referred schemas kind ≡ Some t → (u q : ℕ) → IsThere t o u q → Mentions schemas (references_of_value kind (Value.Ref o)) u q
reference_names schemas (FieldKind.Reference name) t o is u q there =
    record { name = name; among = subst (λ n. Contains {X = Name × ℕ} ((name, o) ∷ []) (name, n)) (sym there.1) (first_in (name, o) []); type = is ∙ ap Some (sym there.0) }
reference_names schemas FieldKind.Int t o is u q there = absurd cc
reference_names schemas FieldKind.Long t o is u q there = absurd cc
reference_names schemas FieldKind.Boolean t o is u q there = absurd cc
reference_names schemas FieldKind.Text t o is u q there = absurd cc
reference_names schemas FieldKind.Bytes t o is u q there = absurd cc

mentions_left : (schemas : List Schema) (xs ys : List (Name × ℕ)) (u q : ℕ) → Mentions schemas xs u q → Mentions schemas (xs ++ ys) u q
mentions_left schemas xs ys u q mentions = record { name = mentions.name; among = Contains-append_left xs ys (mentions.name, q) mentions.among; type = mentions.type }

mentions_right : (schemas : List Schema) (xs ys : List (Name × ℕ)) (u q : ℕ) → Mentions schemas ys u q → Mentions schemas (xs ++ ys) u q
mentions_right schemas xs ys u q mentions = record { name = mentions.name; among = Contains-append_right xs ys (mentions.name, q) mentions.among; type = mentions.type }

-- ---- trees, children first

module _ (schemas : List Schema) (previous : Table) where
  -- A tree was added to a table of the types.
  pub record Added (t : ℕ) (tree : PlainTree) (before : Table) (ordinal : ℕ) (after : Table) : Type 0 where
    pub types : length after ≡ length schemas
    pub stays : Stays before after
    pub stands : StandsFor schemas after t tree ordinal
    pub held : HeldBy schemas before (IsThere t ordinal) after

  -- Parts were added: what they stand for, and which rows are theirs.
  pub record AddedParts (before : Table) (Stand : Table → Type 0) (A : ℕ → ℕ → Type 0) (after : Table) : Type 0 where
    pub types : length after ≡ length schemas
    pub stays : Stays before after
    pub stand : Stand after
    pub held : HeldBy schemas before A after

  no_parts : (before after : Table) (Stand : Table → Type 0) (A : ℕ → ℕ → Type 0) → length before ≡ length schemas → after ≡ before → Stand after → AddedParts before Stand A after
  no_parts before after Stand A types same stand = record {
    types = ap (λ (table : Table). length table) same ∙ types;
    stays = same_stays before after same;
    stand = stand;
    held = none_held schemas before after A same;
  }

  -- the parts were added, and the row is put
  module _ (before middle after : Table) (Stand : Table → Type 0) (A : ℕ → ℕ → Type 0) (parts : AddedParts before Stand A middle) (t o : ℕ) (schema : Schema) (row : Row) (found : slice_get schemas t ≡ Some schema)
      (names : (u q : ℕ) → A u q → Mentions schemas (references_of_row schema.shape row) u q) (agree : TablesAgree previous middle) (puts : PutsRow previous t row middle o after) where
    inside : t < length middle
    inside = let below = slice_get_within schemas t schema found in let types = parts.types in omega (arith, below, types)

    pub row_put : row_at after t o ≡ Some row
    row_put = subst (λ (table : Table). row_at table t o ≡ Some row) (sym puts.after_is) (put_there middle t o row inside t o (refl, refl))

    pub types_put : length after ≡ length schemas
    types_put = ap (λ (table : Table). length table) puts.after_is ∙ length_set middle t (insert (rows_in middle t) o row) ∙ parts.types

    pub stays_put : Stays middle after
    stays_put = put_stays previous middle after t o row agree puts

    own : HeldBy schemas middle (IsThere t o) after
    own u q live = of_option (row_at after u q) refl live
      where
        stood : (r : Row) → row_at (with_row middle t o row) u q ≡ Some r → IsLive middle u q ⊎ (IsThere t o u q ⊎ IsNamed schemas after u q)
        stood r is =
            elim (put_cases middle t o row inside u q r is) [
              | inl put ↦ inr (inl put.0)
              | inr before ↦ inl (ap is_some before.1)
            ]

        of_option : (here : Option Row) → row_at after u q ≡ here → IsSome here → IsLive middle u q ⊎ (IsThere t o u q ⊎ IsNamed schemas after u q)
        of_option None is some = absurd cc
        of_option (Some r) is some = stood r (subst (λ (table : Table). row_at table u q ≡ Some r) puts.after_is is)

    pub held_put : HeldBy schemas before (IsThere t o) after
    held_put u q live =
        elim (own u q live) [
          | inr later ↦ inr later
          | inl there ↦
              elim (parts.held u q there) [
                | inl first ↦ inl first
                | inr behind ↦ elim behind [
                  | inl a ↦ (let mentions = names u q a in inr (inr record {
                    type_index = t;
                    place = o;
                    schema = schema;
                    row = row;
                    name = mentions.name;
                    schema_is = found;
                    row_is = row_put;
                    names = mentions.among;
                    type_is = mentions.type;
                  }))
                  | inr named ↦ inr (inr (named_stays schemas middle after stays_put u q named))
                ]
              ]
        ]

  -- parts behind parts
  parts_then : (before middle after : Table) (Stand Stand' All' : Table → Type 0) (A B C : ℕ → ℕ → Type 0) → AddedParts before Stand A middle → AddedParts middle Stand' B after → (Stays middle after → Stand middle → Stand' after → All' after)
      → ((u q : ℕ) → A u q → C u q) → ((u q : ℕ) → B u q → C u q) → AddedParts before All' C after
  parts_then before middle after Stand Stand' All' A B C one two both f g = record {
    types = two.types;
    stays = stays_then before middle after one.stays two.stays;
    stand = both two.stays one.stand two.stand;
    held = held_then schemas before middle after A B C two.stays one.held two.held f g;
  }

  abbrev MentionsOf : List Field → List Value → ℕ → ℕ → Type 0
  MentionsOf fields values u q = Mentions schemas (flat_map (λ part. references_of_value part.0.kind part.1) (zip fields values)) u q

  abbrev FieldStood : FieldKind → PlainTree → Value → Table → Type 0
  FieldStood kind tree value table =
      IsLeafOr tree (λ found. FitsLeaf kind found × (value ≡ stored_value found)) ((t : ℕ) × (ordinal : ℕ) × (referred schemas kind ≡ Some t) × StandsFor schemas table t tree ordinal × (value ≡ Value.Ref ordinal))

  abbrev AddsKind : FieldKind → PlainTree → Table → Value → Table → Type 0
  AddsKind kind tree before value middle =
      IsLeafOr tree (λ found. FitsLeaf kind found × IsValueInRange found × (value ≡ stored_value found) × (middle ≡ before))
      ((t : ℕ) × (ordinal : ℕ) × (referred schemas kind ≡ Some t) × Adds schemas previous t tree before ordinal middle × (value ≡ Value.Ref ordinal))

  abbrev FitsHere : FieldKind → PlainTree → Type 0
  FitsHere kind tree = IsLeafOr tree (FitsLeaf kind) (IsSomeAnd (referred schemas kind) (λ t. FitsTree schemas t tree))

  abbrev EachAdded : PlainTree → Table → Table → Type 0
  EachAdded tree before middle = (t o : ℕ) → FitsTree schemas t tree → Adds schemas previous t tree before o middle → Added t tree before o middle

  -- a field's tree that is a row
  row_added : (kind : FieldKind) (tree : PlainTree) (value : Value) (before middle : Table) → EachAdded tree before middle → IsSomeAnd (referred schemas kind) (λ t. FitsTree schemas t tree)
      → (adds : (t : ℕ) × (ordinal : ℕ) × (referred schemas kind ≡ Some t) × Adds schemas previous t tree before ordinal middle × (value ≡ Value.Ref ordinal))
      → AddedParts before (λ table. (t : ℕ) × (ordinal : ℕ) × (referred schemas kind ≡ Some t) × StandsFor schemas table t tree ordinal × (value ≡ Value.Ref ordinal)) (λ u q. Mentions schemas (references_of_value kind value) u q) middle
  row_added kind tree value before middle each fits (t, o, is, adds, same) =
      let added = each t o (some_at (λ u. FitsTree schemas u tree) (referred schemas kind) t is fits) adds in
      record {
        types = added.types;
        stays = added.stays;
        stand = (t, o, is, added.stands, same);
        held = held_then schemas before before middle (λ u q. Mentions schemas (references_of_value kind value) u q) (IsThere t o) (λ u q. Mentions schemas (references_of_value kind value) u q) added.stays
            (λ u q live. inl live) added.held (λ u q a. a)
            (λ u q there. subst (λ v. Mentions schemas (references_of_value kind v) u q) (sym same) (reference_names schemas kind t o is u q there));
      }

  field_added : (kind : FieldKind) (tree : PlainTree) (value : Value) (before middle : Table) → length before ≡ length schemas → EachAdded tree before middle → FitsHere kind tree → AddsKind kind tree before value middle
      → AddedParts before (FieldStood kind tree value) (λ u q. Mentions schemas (references_of_value kind value) u q) middle
  field_added kind (leaf found) value before middle types each fits adds =
      no_parts before middle (FieldStood kind (leaf found) value) (λ u q. Mentions schemas (references_of_value kind value) u q) types adds.3 (adds.0, adds.2)
  field_added kind (object trees) value before middle types each fits adds = row_added kind (object trees) value before middle each fits adds
  field_added kind (list trees) value before middle types each fits adds = row_added kind (list trees) value before middle each fits adds
  field_added kind (set trees) value before middle types each fits adds = row_added kind (set trees) value before middle each fits adds
  field_added kind (map pairs) value before middle types each fits adds = row_added kind (map pairs) value before middle each fits adds

  field_agrees : (kind : FieldKind) (tree : PlainTree) (value : Value) (before middle : Table) → TablesAgree previous before → AddsKind kind tree before value middle → TablesAgree previous middle
  field_agrees kind (leaf found) value before middle agree adds = subst (λ (table : Table). TablesAgree previous table) (sym adds.3) agree
  field_agrees kind (object trees) value before middle agree adds = adds_agree schemas previous (object trees) adds.0 before middle adds.1 adds.3 agree
  field_agrees kind (list trees) value before middle agree adds = adds_agree schemas previous (list trees) adds.0 before middle adds.1 adds.3 agree
  field_agrees kind (set trees) value before middle agree adds = adds_agree schemas previous (set trees) adds.0 before middle adds.1 adds.3 agree
  field_agrees kind (map pairs) value before middle agree adds = adds_agree schemas previous (map pairs) adds.0 before middle adds.1 adds.3 agree

  stood_still : (before after : Table) → Stays before after → (kind : FieldKind) (tree : PlainTree) (value : Value) → FieldStood kind tree value before → FieldStood kind tree value after
  stood_still before after stays kind (leaf found) value stood = stood
  stood_still before after stays kind (object trees) value stood = (stood.0, stood.1, stood.2, still schemas before after stays (object trees) stood.0 stood.1 stood.3, stood.4)
  stood_still before after stays kind (list trees) value stood = (stood.0, stood.1, stood.2, still schemas before after stays (list trees) stood.0 stood.1 stood.3, stood.4)
  stood_still before after stays kind (set trees) value stood = (stood.0, stood.1, stood.2, still schemas before after stays (set trees) stood.0 stood.1 stood.3, stood.4)
  stood_still before after stays kind (map pairs) value stood = (stood.0, stood.1, stood.2, still schemas before after stays (map pairs) stood.0 stood.1 stood.3, stood.4)

  fit_first : (fields : List Field) (field : Field) (others : List Field) (P : Field → List Field → Type 0) → fields ≡ field ∷ others → IsConsAnd fields P → P field others
  fit_first fields field others P is fits = subst (λ fs. IsConsAnd fs P) is fits

  mutual
    pub adds_added : (tree : PlainTree) (t : ℕ) (before after : Table) (ordinal : ℕ) → length before ≡ length schemas → TablesAgree previous before → FitsTree schemas t tree → Adds schemas previous t tree before ordinal after → Added t tree before ordinal after
    adds_added (leaf value) t before after o types agree fits adds = absurd adds
    adds_added (object trees) t before after o types agree fits adds =
        let type = type_of schemas t object_fields adds.0 adds.3 in
        let parts = fields_added trees adds.0 before adds.2 adds.1 types agree (some_at (λ fields. FitFields schemas fields trees) _ adds.0 adds.3 fits) adds.4 in
        let row = Row.Object adds.1 in
        let names = object_names schemas type.0.shape adds.0 adds.1 type.2 in
        let agree' = fields_agree schemas previous trees adds.0 before adds.2 adds.1 adds.4 agree in
        record {
          types = types_put before adds.2 after _ _ parts t o type.0 row type.1 names agree' adds.5;
          stays = stays_then before adds.2 after parts.stays (stays_put before adds.2 after _ _ parts t o type.0 row type.1 names agree' adds.5);
          stands = (
            adds.0,
            adds.1,
            adds.3,
            row_put before adds.2 after _ _ parts t o type.0 row type.1 names agree' adds.5,
            fields_still schemas adds.2 after (stays_put before adds.2 after _ _ parts t o type.0 row type.1 names agree' adds.5) trees adds.0 adds.1 parts.stand,
          );
          held = held_put before adds.2 after _ _ parts t o type.0 row type.1 names agree' adds.5;
        }
    adds_added (list trees) t before after o types agree fits adds =
        let type = type_of schemas t (list_element schemas) adds.0 adds.3 in
        let parts = all_added trees adds.0 before adds.2 adds.1 types agree (some_at (λ element. FitAll schemas element trees) _ adds.0 adds.3 fits) adds.4 in
        let row = Row.List adds.1 in
        let names = list_names schemas type.0.shape adds.0 adds.1 type.2 in
        let agree' = all_agree schemas previous trees adds.0 before adds.2 adds.1 adds.4 agree in
        record {
          types = types_put before adds.2 after _ _ parts t o type.0 row type.1 names agree' adds.5;
          stays = stays_then before adds.2 after parts.stays (stays_put before adds.2 after _ _ parts t o type.0 row type.1 names agree' adds.5);
          stands = (
            adds.0,
            adds.1,
            adds.3,
            row_put before adds.2 after _ _ parts t o type.0 row type.1 names agree' adds.5,
            all_still schemas adds.2 after (stays_put before adds.2 after _ _ parts t o type.0 row type.1 names agree' adds.5) trees adds.0 adds.1 parts.stand,
          );
          held = held_put before adds.2 after _ _ parts t o type.0 row type.1 names agree' adds.5;
        }
    adds_added (set trees) t before after o types agree fits adds =
        let type = type_of schemas t (set_element schemas) adds.0 adds.3 in
        let parts = all_added trees adds.0 before adds.2 adds.1 types agree (some_at (λ element. FitAll schemas element trees) _ adds.0 adds.3 fits) adds.4 in
        let row = Row.Set adds.5.0 in
        let names = set_names schemas type.0.shape adds.0 adds.1 adds.5.0 type.2 adds.5.1 in
        let agree' = all_agree schemas previous trees adds.0 before adds.2 adds.1 adds.4 agree in
        record {
          types = types_put before adds.2 after _ _ parts t o type.0 row type.1 names agree' adds.5.2;
          stays = stays_then before adds.2 after parts.stays (stays_put before adds.2 after _ _ parts t o type.0 row type.1 names agree' adds.5.2);
          stands = (
            adds.0,
            adds.1,
            adds.5.0,
            adds.3,
            row_put before adds.2 after _ _ parts t o type.0 row type.1 names agree' adds.5.2,
            all_still schemas adds.2 after (stays_put before adds.2 after _ _ parts t o type.0 row type.1 names agree' adds.5.2) trees adds.0 adds.1 parts.stand,
            adds.5.1,
          );
          held = held_put before adds.2 after _ _ parts t o type.0 row type.1 names agree' adds.5.2;
        }
    adds_added (map pairs) t before after o types agree fits adds =
        let type = type_of schemas t (map_types schemas) adds.0 adds.3 in
        let parts = pairs_added pairs adds.0 before adds.2 adds.1 types agree (some_at (λ ts. FitPairs schemas ts pairs) _ adds.0 adds.3 fits.0) adds.4 in
        let row = Row.Map adds.5.0 in
        let firsts = pairs_first schemas adds.2 pairs adds.0 adds.1 fits.1 parts.stand in
        let names = map_names schemas type.0.shape adds.0 adds.1 adds.5.0 type.2 adds.5.1 firsts in
        let agree' = pairs_agree schemas previous pairs adds.0 before adds.2 adds.1 adds.4 agree in
        record {
          types = types_put before adds.2 after _ _ parts t o type.0 row type.1 names agree' adds.5.2;
          stays = stays_then before adds.2 after parts.stays (stays_put before adds.2 after _ _ parts t o type.0 row type.1 names agree' adds.5.2);
          stands = (
            adds.0,
            adds.1,
            adds.5.0,
            adds.3,
            row_put before adds.2 after _ _ parts t o type.0 row type.1 names agree' adds.5.2,
            pairs_still schemas adds.2 after (stays_put before adds.2 after _ _ parts t o type.0 row type.1 names agree' adds.5.2) pairs adds.0 adds.1 parts.stand,
            adds.5.1,
            firsts,
          );
          held = held_put before adds.2 after _ _ parts t o type.0 row type.1 names agree' adds.5.2;
        }

    pub fields_added : (trees : PlainTrees) (fields : List Field) (before after : Table) (values : List Value) → length before ≡ length schemas → TablesAgree previous before → FitFields schemas fields trees
        → AddsFields schemas previous fields trees before values after → AddedParts before (λ table. FieldsStand schemas table fields trees values) (MentionsOf fields values) after
    fields_added no_trees fields before after values types agree fits adds =
        no_parts before after (λ table. FieldsStand schemas table fields no_trees values) (MentionsOf fields values) types adds.2 (adds.0, adds.1)
    fields_added (tree_then tree trees) fields before after values types agree fits adds =
        let fit = fit_first fields adds.0 adds.1 _ adds.5 fits in
        let first = field_added adds.0.kind tree adds.2 before adds.4 types (λ t o fits' one. adds_added tree t before adds.4 o types agree fits' one) fit.0 adds.7 in
        let rest = fields_added trees adds.1 adds.4 after adds.3 first.types (field_agrees adds.0.kind tree adds.2 before adds.4 agree adds.7) fit.1 adds.8 in
        let piece = references_of_value adds.0.kind adds.2 in
        let pieces = flat_map (λ (part : Field × Value). references_of_value part.0.kind part.1) (zip adds.1 adds.3) in
        let whole : AddedParts before (λ table. FieldsStand schemas table fields (tree_then tree trees) values) (MentionsOf (adds.0 ∷ adds.1) (adds.2 ∷ adds.3)) after =
        parts_then before adds.4 after (FieldStood adds.0.kind tree adds.2) (λ table. FieldsStand schemas table adds.1 trees adds.3) (λ table. FieldsStand schemas table fields (tree_then tree trees) values)
        (λ u q. Mentions schemas piece u q) (MentionsOf adds.1 adds.3) (MentionsOf (adds.0 ∷ adds.1) (adds.2 ∷ adds.3)) first rest
        (λ stays one two. (adds.0, adds.1, adds.2, adds.3, adds.5, adds.6, stood_still adds.4 after stays adds.0.kind tree adds.2 one, two))
        (λ u q. mentions_left schemas piece pieces u q) (λ u q. mentions_right schemas piece pieces u q) in
        subst (λ (fs : List Field). AddedParts before (λ table. FieldsStand schemas table fields (tree_then tree trees) values) (MentionsOf fs values) after) (sym adds.5)
        (subst (λ (vs : List Value). AddedParts before (λ table. FieldsStand schemas table fields (tree_then tree trees) values) (MentionsOf (adds.0 ∷ adds.1) vs) after) (sym adds.6) whole)

    pub all_added : (trees : PlainTrees) (t : ℕ) (before after : Table) (ordinals : List ℕ) → length before ≡ length schemas → TablesAgree previous before → FitAll schemas t trees
        → AddsAll schemas previous t trees before ordinals after → AddedParts before (λ table. AllStand schemas table t trees ordinals) (IsElement t ordinals) after
    all_added no_trees t before after ordinals types agree fits adds =
        no_parts before after (λ table. AllStand schemas table t no_trees ordinals) (IsElement t ordinals) types adds.1 adds.0
    all_added (tree_then tree trees) t before after ordinals types agree fits adds =
        let first = adds_added tree t before adds.2 adds.0 types agree fits.0 adds.4 in
        let rest = all_added trees t adds.2 after adds.1 first.types (adds_agree schemas previous tree t before adds.2 adds.0 adds.4 agree) fits.1 adds.5 in
        parts_then before adds.2 after (λ table. StandsFor schemas table t tree adds.0) (λ table. AllStand schemas table t trees adds.1) (λ table. AllStand schemas table t (tree_then tree trees) ordinals)
        (IsThere t adds.0) (IsElement t adds.1) (IsElement t ordinals) (record { types = first.types; stays = first.stays; stand = first.stands; held = first.held }) rest
        (λ stays one two. (adds.0, adds.1, adds.3, still schemas adds.2 after stays tree t adds.0 one, two))
        (λ u q there. (there.0, subst (λ os. Contains os q) (sym adds.3) (subst (λ n. Contains (adds.0 ∷ adds.1) n) (sym there.1) (first_in adds.0 adds.1))))
        (λ u q element. (element.0, subst (λ os. Contains os q) (sym adds.3) (later_in adds.0 adds.1 q element.1)))

    pub pairs_added : (pairs : PlainPairs) (types : ℕ × ℕ) (before after : Table) (added : List (ℕ × ℕ)) → length before ≡ length schemas → TablesAgree previous before → FitPairs schemas types pairs
        → AddsPairs schemas previous types pairs before added after → AddedParts before (λ table. PairsStand schemas table types pairs added) (IsEntry types added) after
    pairs_added no_pairs types before after added many agree fits adds =
        no_parts before after (λ table. PairsStand schemas table types no_pairs added) (IsEntry types added) many adds.1 adds.0
    pairs_added (pair_then key value pairs) types before after added many agree fits adds =
        let first = adds_added key types.0 before adds.3 adds.0 many agree fits.0 adds.6 in
        let agree' = adds_agree schemas previous key types.0 before adds.3 adds.0 adds.6 agree in
        let second = adds_added value types.1 adds.3 adds.4 adds.1 first.types agree' fits.1 adds.7 in
        let rest = pairs_added pairs types adds.4 after adds.2 second.types (adds_agree schemas previous value types.1 adds.3 adds.4 adds.1 adds.7 agree') fits.2 adds.8 in
        let here : Contains added (adds.0, adds.1) = subst (λ es. Contains es (adds.0, adds.1)) (sym adds.5) (first_in (adds.0, adds.1) adds.2) in
        let both : AddedParts before (λ table. StandsFor schemas table types.0 key adds.0 × StandsFor schemas table types.1 value adds.1) (IsEntry types added) adds.4 =
        parts_then before adds.3 adds.4 (λ table. StandsFor schemas table types.0 key adds.0) (λ table. StandsFor schemas table types.1 value adds.1)
        (λ table. StandsFor schemas table types.0 key adds.0 × StandsFor schemas table types.1 value adds.1) (IsThere types.0 adds.0) (IsThere types.1 adds.1) (IsEntry types added)
        (record { types = first.types; stays = first.stays; stand = first.stands; held = first.held }) (record { types = second.types; stays = second.stays; stand = second.stands; held = second.held })
        (λ stays one two. (still schemas adds.3 adds.4 stays key types.0 adds.0 one, two))
        (λ u q there. inl (there.0, (adds.1, subst (λ n. Contains added (n, adds.1)) (sym there.1) here)))
        (λ u q there. inr (there.0, (adds.0, subst (λ n. Contains added (adds.0, n)) (sym there.1) here))) in
        parts_then before adds.4 after (λ table. StandsFor schemas table types.0 key adds.0 × StandsFor schemas table types.1 value adds.1) (λ table. PairsStand schemas table types pairs adds.2)
        (λ table. PairsStand schemas table types (pair_then key value pairs) added) (IsEntry types added) (IsEntry types adds.2) (IsEntry types added) both rest
        (λ stays one two. (adds.0, adds.1, adds.2, adds.5, still schemas adds.4 after stays key types.0 adds.0 one.0, still schemas adds.4 after stays value types.1 adds.1 one.1, two))
        (λ u q entry. entry)
        (λ u q entry. later_entry u q entry)
      where
        later_entry : (u q : ℕ) → IsEntry types adds.2 u q → IsEntry types added u q
        later_entry u q (inl key_is) = inl (key_is.0, (key_is.1.0, subst (λ es. Contains es (q, key_is.1.0)) (sym adds.5) (later_in (adds.0, adds.1) adds.2 (q, key_is.1.0) key_is.1.1)))
        later_entry u q (inr value_is) = inr (value_is.0, (value_is.1.0, subst (λ es. Contains es (value_is.1.0, q)) (sym adds.5) (later_in (adds.0, adds.1) adds.2 (value_is.1.0, q) value_is.1.1)))

-- the row that stands for a tree is there
pub stood_live : (schemas : List Schema) (table : Table) (t : ℕ) (tree : PlainTree) (o : ℕ) → StandsFor schemas table t tree o → IsLive table t o
stood_live schemas table t (leaf value) o stands = absurd stands
stood_live schemas table t (object trees) o stands = ap is_some stands.3
stood_live schemas table t (list trees) o stands = ap is_some stands.3
stood_live schemas table t (set trees) o stands = ap is_some stands.4
stood_live schemas table t (map pairs) o stands = ap is_some stands.4
