-- A row stands for one record: two trees that are added under one ordinal are the same record.
use Rattle.std.proofs.Common.{◌≡◌, ◌∙◌, ◌⊎◌, ℕ, suc, List, [], ◌∷◌, Some, Bool, true, false, if◌then◌else◌, refl, sym, ap, subst, inl, inr, arith}
use Rattle.std.specs.Prelude.{All, AllPairs, Any, Contains, nat_eq, option_and_then}
use Rattle.std.specs.Map.{lookup}
use Rattle.std.proofs.lemmas.Bool.{cases_eq}
use Rattle.std.proofs.lemmas.List.Elements.{All-cons, All-nil}
use Rattle.schema_model.specs.declared.schema.Field.{Field}
use Rattle.schema_model.specs.declared.schema.FieldKind.{FieldKind}
use Rattle.schema_model.specs.declared.schema.Schema.{Schema}
use Rattle.row_model.specs.declared.row.Row.{Row}
use Rattle.row_model.specs.declared.row.Value.{Value}
use Rattle.row_model.specs.PlainTree.{EachAmong, EachPairAmong, IsAmongPairs, IsAmongTrees, PlainTree, PlainTrees, PlainPairs, SameTree, SameTrees, leaf, object, list, set, map, list_of_pairs, list_of_trees, no_trees, tree_then, no_pairs, pair_then}
use Rattle.row_model.specs.Row.{is_least, stored_value}
use Rattle.row_model.specs.Table.{Table, row_at}
use Rattle.record_trees.specs.FitsTree.{FitsLeaf, IsLeafOr}
use Rattle.record_trees.specs.Types.{list_element, map_types, object_fields, referred, set_element, shape_at}
use Rattle.write_engine.specs.Cycle.{IsMapOf, IsSetOf}
use Rattle.write_engine.proofs.OneState.{same_some}
use Rattle.hol_incremental.proofs.Among.{any_here, any_later, any_of_all, any_weaker, first_in, found_first, found_in, later_in, none_in, parted, passed}

-- each pair of the list is the first one of its key
abbrev pub AreFirst : List (ℕ × ℕ) → Type 0
AreFirst added = (k v : ℕ) → Contains added (k, v) → lookup (nat_eq k) added ≡ Some v

module _ (schemas : List Schema) (table : Table) where
  abbrev mutual
    -- the row of a type under an ordinal is what the tree becomes
    pub StandsFor : ℕ → PlainTree → ℕ → Type 0
    StandsFor t (leaf value) ordinal = ⊥
    StandsFor t (object trees) ordinal =
        (fields : List Field) × (values : List Value) × (option_and_then object_fields (shape_at schemas t) ≡ Some fields) × (row_at table t ordinal ≡ Some (Row.Object values)) × FieldsStand fields trees values
    StandsFor t (list trees) ordinal =
        (element : ℕ) × (ordinals : List ℕ) × (option_and_then (list_element schemas) (shape_at schemas t) ≡ Some element) × (row_at table t ordinal ≡ Some (Row.List ordinals)) × AllStand element trees ordinals
    StandsFor t (set trees) ordinal =
        (element : ℕ) × (ordinals : List ℕ) × (members : List ℕ) × (option_and_then (set_element schemas) (shape_at schemas t) ≡ Some element) × (row_at table t ordinal ≡ Some (Row.Set members))
        × AllStand element trees ordinals × IsSetOf ordinals members
    StandsFor t (map pairs) ordinal =
        (types : ℕ × ℕ) × (added : List (ℕ × ℕ)) × (members : List (ℕ × ℕ)) × (option_and_then (map_types schemas) (shape_at schemas t) ≡ Some types) × (row_at table t ordinal ≡ Some (Row.Map members))
        × PairsStand types pairs added × IsMapOf added members × AreFirst added

    pub FieldsStand : List Field → PlainTrees → List Value → Type 0
    FieldsStand fields no_trees values = (fields ≡ []) × (values ≡ [])
    FieldsStand fields (tree_then tree trees) values =
        (field : Field) × (others : List Field) × (value : Value) × (rest : List Value) × (fields ≡ field ∷ others) × (values ≡ value ∷ rest)
        × IsLeafOr tree (λ found. FitsLeaf field.kind found × (value ≡ stored_value found)) ((t : ℕ) × (ordinal : ℕ) × (referred schemas field.kind ≡ Some t) × StandsFor t tree ordinal × (value ≡ Value.Ref ordinal))
        × FieldsStand others trees rest

    pub AllStand : ℕ → PlainTrees → List ℕ → Type 0
    AllStand t no_trees ordinals = ordinals ≡ []
    AllStand t (tree_then tree trees) ordinals = (ordinal : ℕ) × (rest : List ℕ) × (ordinals ≡ ordinal ∷ rest) × StandsFor t tree ordinal × AllStand t trees rest

    pub PairsStand : ℕ × ℕ → PlainPairs → List (ℕ × ℕ) → Type 0
    PairsStand types no_pairs added = added ≡ []
    PairsStand types (pair_then key value pairs) added =
        (k : ℕ) × (v : ℕ) × (rest : List (ℕ × ℕ)) × (added ≡ (k, v) ∷ rest) × StandsFor types.0 key k × StandsFor types.1 value v × PairsStand types pairs rest

-- ---- fields

-- a value is no ordinal
leaf_no_row : (kind : FieldKind) (found : Value) (o : ℕ) → FitsLeaf kind found → stored_value found ≡ Value.Ref o → ⊥
leaf_no_row kind (Value.Int number) o fits is = null_or (is_least 32 number) (Value.Int number) (λ e. cc) is
  where
    null_or : (b : Bool) (value : Value) → (value ≡ Value.Ref o → ⊥) → (if b then Value.Null else value) ≡ Value.Ref o → ⊥
    null_or true value other e = cc
    null_or false value other e = other e
leaf_no_row kind (Value.Long number) o fits is = null_or (is_least 64 number) (Value.Long number) (λ e. cc) is
  where
    null_or : (b : Bool) (value : Value) → (value ≡ Value.Ref o → ⊥) → (if b then Value.Null else value) ≡ Value.Ref o → ⊥
    null_or true value other e = cc
    null_or false value other e = other e
leaf_no_row kind Value.Null o fits is = cc
leaf_no_row kind (Value.Bool flag) o fits is = cc
leaf_no_row kind (Value.Text units) o fits is = cc
leaf_no_row kind (Value.Bytes bytes) o fits is = cc
leaf_no_row (FieldKind.Reference name) (Value.Ref q) o fits is = absurd fits
leaf_no_row FieldKind.Int (Value.Ref q) o fits is = absurd fits
leaf_no_row FieldKind.Long (Value.Ref q) o fits is = absurd fits
leaf_no_row FieldKind.Boolean (Value.Ref q) o fits is = absurd fits
leaf_no_row FieldKind.Text (Value.Ref q) o fits is = absurd fits
leaf_no_row FieldKind.Bytes (Value.Ref q) o fits is = absurd fits

-- a tree is a value, or it is none
pub leaf_cases : (tree : PlainTree) (P : Value → Type 0) (Q : Type 0) → IsLeafOr tree P Q → ((value : Value) × (tree ≡ leaf value) × P value) ⊎ Q
leaf_cases (leaf value) P Q h = inl (value, refl, h)
leaf_cases (object trees) P Q h = inr h
leaf_cases (list trees) P Q h = inr h
leaf_cases (set trees) P Q h = inr h
leaf_cases (map pairs) P Q h = inr h

one_ordinal : (a b : ℕ) → Value.Ref a ≡ Value.Ref b → a ≡ b
one_ordinal a b e = cc

module _ (schemas : List Schema) (table : Table) where
  abbrev FieldStands : FieldKind → PlainTree → Value → Type 0
  FieldStands kind tree value =
      IsLeafOr tree (λ found. FitsLeaf kind found × (value ≡ stored_value found)) ((t : ℕ) × (ordinal : ℕ) × (referred schemas kind ≡ Some t) × StandsFor schemas table t tree ordinal × (value ≡ Value.Ref ordinal))

  -- two trees of a field with one value are the same record, where two trees of a row are
  field_one : (tree other : PlainTree) (kind : FieldKind) (value : Value) → ((t o : ℕ) → StandsFor schemas table t tree o → StandsFor schemas table t other o → SameTree tree other)
      → FieldStands kind tree value → FieldStands kind other value → SameTree tree other
  field_one tree other kind value each stands stands' =
      both (leaf_cases tree _ _ stands) (leaf_cases other _ _ stands')
    where
      both : ((found : Value) × (tree ≡ leaf found) × (FitsLeaf kind found × (value ≡ stored_value found))) ⊎ ((t : ℕ) × (ordinal : ℕ) × (referred schemas kind ≡ Some t) × StandsFor schemas table t tree ordinal × (value ≡ Value.Ref ordinal))
          → ((found : Value) × (other ≡ leaf found) × (FitsLeaf kind found × (value ≡ stored_value found))) ⊎ ((t : ℕ) × (ordinal : ℕ) × (referred schemas kind ≡ Some t) × StandsFor schemas table t other ordinal × (value ≡ Value.Ref ordinal))
          → SameTree tree other
      both (inl a) (inl b) = subst (λ x. SameTree x other) (sym a.1) (subst (λ y. SameTree (leaf a.0) y) (sym b.1) (sym a.2.1 ∙ b.2.1))
      both (inl a) (inr b) = absurd (leaf_no_row kind a.0 b.1 a.2.0 (sym a.2.1 ∙ b.4))
      both (inr a) (inl b) = absurd (leaf_no_row kind b.0 a.1 b.2.0 (sym b.2.1 ∙ a.4))
      both (inr a) (inr b) =
          let type = same_some a.0 b.0 (referred schemas kind) a.2 b.2 in
          let ordinal = one_ordinal a.1 b.1 (sym a.4 ∙ b.4) in
          each a.0 a.1 a.3 (subst (λ u. StandsFor schemas table u other a.1) (sym type) (subst (λ o. StandsFor schemas table b.0 other o) (sym ordinal) b.3))

  -- ---- among the trees of the other one

  stands_among : (others : PlainTrees) (t : ℕ) (ordinals : List ℕ) → AllStand schemas table t others ordinals → (o : ℕ) → Contains ordinals o → Any (λ other. StandsFor schemas table t other o) (list_of_trees others)
  stands_among no_trees t ordinals stand o among = absurd (none_in o (subst (λ os. Contains os o) stand among))
  stands_among (tree_then other others) t ordinals stand o among =
      elim (parted stand.0 stand.1 o (subst (λ os. Contains os o) stand.2 among)) [
        | inl same ↦ any_here (λ x. StandsFor schemas table t x o) other (list_of_trees others) (subst (StandsFor schemas table t other) same stand.3)
        | inr there ↦ any_later (λ x. StandsFor schemas table t x o) other (list_of_trees others) (stands_among others t stand.1 stand.4 o there)
      ]

  all_among : (P : PlainTree → Type 0) (others : PlainTrees) (t : ℕ) (ordinals : List ℕ) → AllStand schemas table t others ordinals
      → ((other : PlainTree) (o : ℕ) → Contains ordinals o → StandsFor schemas table t other o → P other) → All P (list_of_trees others)
  all_among P no_trees t ordinals stand each = All-nil P
  all_among P (tree_then other others) t ordinals stand each =
      All-cons P other (list_of_trees others) (each other stand.0 (subst (λ os. Contains os stand.0) (sym stand.2) (first_in stand.0 stand.1)) stand.3)
      (all_among P others t stand.1 stand.4 (λ x o among. each x o (subst (λ os. Contains os o) (sym stand.2) (later_in stand.0 stand.1 o among))))

  abbrev PairStands : ℕ × ℕ → ℕ → ℕ → PlainTree × PlainTree → Type 0
  PairStands types k v other = StandsFor schemas table types.0 other.0 k × StandsFor schemas table types.1 other.1 v

  pair_among : (others : PlainPairs) (types : ℕ × ℕ) (added : List (ℕ × ℕ)) → PairsStand schemas table types others added → (k v : ℕ) → Contains added (k, v) → Any (PairStands types k v) (list_of_pairs others)
  pair_among no_pairs types added stand k v among = absurd (none_in (k, v) (subst (λ es. Contains es (k, v)) stand among))
  pair_among (pair_then key value others) types added stand k v among =
      elim (parted (stand.0, stand.1) stand.2 (k, v) (subst (λ es. Contains es (k, v)) stand.3 among)) [
        | inl same ↦
            any_here (PairStands types k v) (key, value) (list_of_pairs others)
            (subst (λ (e : ℕ × ℕ). StandsFor schemas table types.0 key e.0 × StandsFor schemas table types.1 value e.1) same (stand.4, stand.5))
        | inr there ↦ any_later (PairStands types k v) (key, value) (list_of_pairs others) (pair_among others types stand.2 stand.6 k v there)
      ]

  all_pairs_among : (P : PlainTree × PlainTree → Type 0) (others : PlainPairs) (types : ℕ × ℕ) (added : List (ℕ × ℕ)) → PairsStand schemas table types others added
      → ((other : PlainTree × PlainTree) (k v : ℕ) → Contains added (k, v) → PairStands types k v other → P other) → All P (list_of_pairs others)
  all_pairs_among P no_pairs types added stand each = All-nil P
  all_pairs_among P (pair_then key value others) types added stand each =
      All-cons P (key, value) (list_of_pairs others)
      (each (key, value) stand.0 stand.1 (subst (λ es. Contains es (stand.0, stand.1)) (sym stand.3) (first_in (stand.0, stand.1) stand.2)) (stand.4, stand.5))
      (all_pairs_among P others types stand.2 stand.6 (λ x k v among. each x k v (subst (λ es. Contains es (k, v)) (sym stand.3) (later_in (stand.0, stand.1) stand.2 (k, v) among))))

  -- ---- two trees of one row

  no_such : (t o : ℕ) (a b : Row) → row_at table t o ≡ Some a → row_at table t o ≡ Some b → a ≡ b
  no_such t o a b is is' = same_some a b (row_at table t o) is is'

  mutual
    pub one_record : (tree other : PlainTree) (t o : ℕ) → StandsFor schemas table t tree o → StandsFor schemas table t other o → SameTree tree other
    one_record (leaf value) other t o stands stands' = absurd stands
    one_record tree (leaf value) t o stands stands' = absurd stands'
    one_record (object trees) (object others) t o stands stands' =
        let row : Row.Object stands.1 ≡ Row.Object stands'.1 = no_such t o (Row.Object stands.1) (Row.Object stands'.1) stands.3 stands'.3 in
        let values : stands.1 ≡ stands'.1 = cc in
        fields_one trees others stands.0 stands'.0 stands.1 stands'.1 (same_some stands.0 stands'.0 _ stands.2 stands'.2) values stands.4 stands'.4
    one_record (object trees) (list others) t o stands stands' = absurd (let e = no_such t o (Row.Object stands.1) (Row.List stands'.1) stands.3 stands'.3 in cc)
    one_record (object trees) (set others) t o stands stands' = absurd (let e = no_such t o (Row.Object stands.1) (Row.Set stands'.2) stands.3 stands'.4 in cc)
    one_record (object trees) (map others) t o stands stands' = absurd (let e = no_such t o (Row.Object stands.1) (Row.Map stands'.2) stands.3 stands'.4 in cc)
    one_record (list trees) (object others) t o stands stands' = absurd (let e = no_such t o (Row.List stands.1) (Row.Object stands'.1) stands.3 stands'.3 in cc)
    one_record (list trees) (list others) t o stands stands' =
        let row : Row.List stands.1 ≡ Row.List stands'.1 = no_such t o (Row.List stands.1) (Row.List stands'.1) stands.3 stands'.3 in
        let ordinals : stands.1 ≡ stands'.1 = cc in
        all_one trees others stands.0 stands'.0 stands.1 stands'.1 (same_some stands.0 stands'.0 _ stands.2 stands'.2) ordinals stands.4 stands'.4
    one_record (list trees) (set others) t o stands stands' = absurd (let e = no_such t o (Row.List stands.1) (Row.Set stands'.2) stands.3 stands'.4 in cc)
    one_record (list trees) (map others) t o stands stands' = absurd (let e = no_such t o (Row.List stands.1) (Row.Map stands'.2) stands.3 stands'.4 in cc)
    one_record (set trees) (object others) t o stands stands' = absurd (let e = no_such t o (Row.Set stands.2) (Row.Object stands'.1) stands.4 stands'.3 in cc)
    one_record (set trees) (list others) t o stands stands' = absurd (let e = no_such t o (Row.Set stands.2) (Row.List stands'.1) stands.4 stands'.3 in cc)
    one_record (set trees) (set others) t o stands stands' =
        let row : Row.Set stands.2 ≡ Row.Set stands'.2 = no_such t o (Row.Set stands.2) (Row.Set stands'.2) stands.4 stands'.4 in
        let members : stands.2 ≡ stands'.2 = cc in
        let element = same_some stands.0 stands'.0 _ stands.3 stands'.3 in
        let stand' : AllStand schemas table stands.0 others stands'.1 = subst (λ u. AllStand schemas table u others stands'.1) (sym element) stands'.5 in
        let forth : (q : ℕ) → Contains stands.1 q → Contains stands'.1 q = λ q among. (stands'.6.same q).0 (subst (λ os. Contains os q) members ((stands.6.same q).1 among)) in
        let back : (q : ℕ) → Contains stands'.1 q → Contains stands.1 q = λ q among. (stands.6.same q).0 (subst (λ os. Contains os q) (sym members) ((stands'.6.same q).1 among)) in (
          each_among trees others stands.0 stands.1 stands'.1 stands.5 stand' forth,
          all_among (IsAmongTrees trees) others stands.0 stands'.1 stand' (λ other q among there. among_each trees other stands.0 q stands.1 stands.5 (back q among) there),
        )
    one_record (set trees) (map others) t o stands stands' = absurd (let e = no_such t o (Row.Set stands.2) (Row.Map stands'.2) stands.4 stands'.4 in cc)
    one_record (map pairs) (object others) t o stands stands' = absurd (let e = no_such t o (Row.Map stands.2) (Row.Object stands'.1) stands.4 stands'.3 in cc)
    one_record (map pairs) (list others) t o stands stands' = absurd (let e = no_such t o (Row.Map stands.2) (Row.List stands'.1) stands.4 stands'.3 in cc)
    one_record (map pairs) (set others) t o stands stands' = absurd (let e = no_such t o (Row.Map stands.2) (Row.Set stands'.2) stands.4 stands'.4 in cc)
    one_record (map pairs) (map others) t o stands stands' =
        let row : Row.Map stands.2 ≡ Row.Map stands'.2 = no_such t o (Row.Map stands.2) (Row.Map stands'.2) stands.4 stands'.4 in
        let members : stands.2 ≡ stands'.2 = cc in
        let types = same_some stands.0 stands'.0 _ stands.3 stands'.3 in
        let stand' : PairsStand schemas table stands.0 others stands'.1 = subst (λ ts. PairsStand schemas table ts others stands'.1) (sym types) stands'.5 in
        let found : (k : ℕ) → lookup (nat_eq k) stands.1 ≡ lookup (nat_eq k) stands'.1 = λ k. sym (stands.6.same k) ∙ ap (lookup (nat_eq k)) members ∙ stands'.6.same k in (
          each_pair_among pairs others stands.0 stands.1 stands'.1 stands.5 stand' (λ k v among. found_in stands'.1 k v (sym (found k) ∙ stands.7 k v among)),
          all_pairs_among (IsAmongPairs pairs) others stands.0 stands'.1 stand'
              (λ other k v among there. among_pairs pairs other stands.0 k v stands.1 stands.5 (found_in stands.1 k v (found k ∙ stands'.7 k v among)) there),
        )

    fields_one : (trees others : PlainTrees) (fields fields' : List Field) (values values' : List Value) → fields ≡ fields' → values ≡ values' → FieldsStand schemas table fields trees values → FieldsStand schemas table fields' others values'
        → SameTrees trees (list_of_trees others)
    fields_one no_trees no_trees fields fields' values values' same same' stand stand' = refl
    fields_one no_trees (tree_then other others) fields fields' values values' same same' stand stand' = absurd (let e : [] ≡ stand'.0 ∷ stand'.1 = sym stand.0 ∙ same ∙ stand'.4 in cc)
    fields_one (tree_then tree trees) no_trees fields fields' values values' same same' stand stand' = absurd (let e : [] ≡ stand.0 ∷ stand.1 = sym stand'.0 ∙ sym same ∙ stand.4 in cc)
    fields_one (tree_then tree trees) (tree_then other others) fields fields' values values' same same' stand stand' =
        let fs : stand.0 ∷ stand.1 ≡ stand'.0 ∷ stand'.1 = sym stand.4 ∙ same ∙ stand'.4 in
        let vs : stand.2 ∷ stand.3 ≡ stand'.2 ∷ stand'.3 = sym stand.5 ∙ same' ∙ stand'.5 in
        let field : stand.0 ≡ stand'.0 = cc in
        let rest : stand.1 ≡ stand'.1 = cc in
        let value : stand.2 ≡ stand'.2 = cc in
        let behind : stand.3 ≡ stand'.3 = cc in
        let there : FieldStands stand.0.kind other stand.2 = subst (λ (f : Field). FieldStands f.kind other stand.2) (sym field) (subst (λ v. FieldStands stand'.0.kind other v) (sym value) stand'.6) in (
          field_one tree other stand.0.kind stand.2 (λ t o s s'. one_record tree other t o s s') stand.6 there,
          fields_one trees others stand.1 stand'.1 stand.3 stand'.3 rest behind stand.7 stand'.7,
        )

    all_one : (trees others : PlainTrees) (t t' : ℕ) (ordinals ordinals' : List ℕ) → t ≡ t' → ordinals ≡ ordinals' → AllStand schemas table t trees ordinals → AllStand schemas table t' others ordinals' → SameTrees trees (list_of_trees others)
    all_one no_trees no_trees t t' ordinals ordinals' type same stand stand' = refl
    all_one no_trees (tree_then other others) t t' ordinals ordinals' type same stand stand' = absurd (let e : [] ≡ stand'.0 ∷ stand'.1 = sym stand ∙ same ∙ stand'.2 in cc)
    all_one (tree_then tree trees) no_trees t t' ordinals ordinals' type same stand stand' = absurd (let e : [] ≡ stand.0 ∷ stand.1 = sym stand' ∙ sym same ∙ stand.2 in cc)
    all_one (tree_then tree trees) (tree_then other others) t t' ordinals ordinals' type same stand stand' =
        let os : stand.0 ∷ stand.1 ≡ stand'.0 ∷ stand'.1 = sym stand.2 ∙ same ∙ stand'.2 in
        let ordinal : stand.0 ≡ stand'.0 = cc in
        let rest : stand.1 ≡ stand'.1 = cc in (
          one_record tree other t stand.0 stand.3 (subst (λ u. StandsFor schemas table u other stand.0) (sym type) (subst (StandsFor schemas table t' other) (sym ordinal) stand'.3)),
          all_one trees others t t' stand.1 stand'.1 type rest stand.4 stand'.4,
        )

    each_among : (trees others : PlainTrees) (t : ℕ) (ordinals ordinals' : List ℕ) → AllStand schemas table t trees ordinals → AllStand schemas table t others ordinals' → ((q : ℕ) → Contains ordinals q → Contains ordinals' q)
        → EachAmong trees (list_of_trees others)
    each_among no_trees others t ordinals ordinals' stand stand' forth = tt
    each_among (tree_then tree trees) others t ordinals ordinals' stand stand' forth = (
      any_weaker (λ other. StandsFor schemas table t other stand.0) (SameTree tree) (list_of_trees others) (λ other there. one_record tree other t stand.0 stand.3 there)
          (stands_among others t ordinals' stand' stand.0 (forth stand.0 (subst (λ os. Contains os stand.0) (sym stand.2) (first_in stand.0 stand.1)))),
      each_among trees others t stand.1 ordinals' stand.4 stand' (λ q among. forth q (subst (λ os. Contains os q) (sym stand.2) (later_in stand.0 stand.1 q among))),
    )

    among_each : (trees : PlainTrees) (other : PlainTree) (t o : ℕ) (ordinals : List ℕ) → AllStand schemas table t trees ordinals → Contains ordinals o → StandsFor schemas table t other o → IsAmongTrees trees other
    among_each no_trees other t o ordinals stand among there = absurd (none_in o (subst (λ os. Contains os o) stand among))
    among_each (tree_then tree trees) other t o ordinals stand among there =
        elim (parted stand.0 stand.1 o (subst (λ os. Contains os o) stand.2 among)) [
          | inl same ↦ inl (one_record tree other t stand.0 stand.3 (subst (StandsFor schemas table t other) (sym same) there))
          | inr later ↦ inr (among_each trees other t o stand.1 stand.4 later there)
        ]

    each_pair_among : (pairs others : PlainPairs) (types : ℕ × ℕ) (added added' : List (ℕ × ℕ)) → PairsStand schemas table types pairs added → PairsStand schemas table types others added' → ((k v : ℕ) → Contains added (k, v) → Contains added' (k, v))
        → EachPairAmong pairs (list_of_pairs others)
    each_pair_among no_pairs others types added added' stand stand' forth = tt
    each_pair_among (pair_then key value pairs) others types added added' stand stand' forth = (
      any_weaker (PairStands types stand.0 stand.1) (λ other. SameTree key other.0 × SameTree value other.1) (list_of_pairs others)
          (λ other there. (one_record key other.0 types.0 stand.0 stand.4 there.0, one_record value other.1 types.1 stand.1 stand.5 there.1))
          (pair_among others types added' stand' stand.0 stand.1 (forth stand.0 stand.1 (subst (λ es. Contains es (stand.0, stand.1)) (sym stand.3) (first_in (stand.0, stand.1) stand.2)))),
      each_pair_among pairs others types stand.2 added' stand.6 stand' (λ k v among. forth k v (subst (λ es. Contains es (k, v)) (sym stand.3) (later_in (stand.0, stand.1) stand.2 (k, v) among))),
    )

    among_pairs : (pairs : PlainPairs) (other : PlainTree × PlainTree) (types : ℕ × ℕ) (k v : ℕ) (added : List (ℕ × ℕ)) → PairsStand schemas table types pairs added → Contains added (k, v) → PairStands types k v other → IsAmongPairs pairs other
    among_pairs no_pairs other types k v added stand among there = absurd (none_in (k, v) (subst (λ es. Contains es (k, v)) stand among))
    among_pairs (pair_then key value pairs) other types k v added stand among there =
        elim (parted (stand.0, stand.1) stand.2 (k, v) (subst (λ es. Contains es (k, v)) stand.3 among)) [
          | inl same ↦
              (let here : PairStands types stand.0 stand.1 other = subst (λ (e : ℕ × ℕ). PairStands types e.0 e.1 other) (sym same) there in
              inl (one_record key other.0 types.0 stand.0 stand.4 here.0, one_record value other.1 types.1 stand.1 stand.5 here.1))
          | inr later ↦ inr (among_pairs pairs other types k v stand.2 stand.6 later there)
        ]

  -- where no two keys are the same record, each pair is the first one of its key
  pub pairs_first : (pairs : PlainPairs) (types : ℕ × ℕ) (added : List (ℕ × ℕ)) → AllPairs (λ earlier later. ¬ SameTree earlier.0 later.0) (list_of_pairs pairs) → PairsStand schemas table types pairs added → AreFirst added
  pairs_first no_pairs types added apart stand k v among = absurd (none_in (k, v) (subst (λ es. Contains es (k, v)) stand among))
  pairs_first (pair_then key value pairs) types added apart stand k v among =
      let rest_apart : AllPairs (λ earlier later. ¬ SameTree earlier.0 later.0) (list_of_pairs pairs) = λ i j d before inside. apart (suc i) (suc j) d (omega arith) (omega arith) in
      let heads : All (λ (later : PlainTree × PlainTree). ¬ SameTree key later.0) (list_of_pairs pairs) = λ j d inside. apart 0 (suc j) d (omega arith) (omega arith) in
      ap (lookup (nat_eq k)) stand.3 ∙ elim (parted (stand.0, stand.1) stand.2 (k, v) (subst (λ es. Contains es (k, v)) stand.3 among)) [
        | inl same ↦ found_first k (stand.0, stand.1) stand.2 (ap (λ (e : ℕ × ℕ). e.0) (sym same)) ∙ ap (λ (e : ℕ × ℕ). Some e.1) same
        | inr there ↦
            elim (cases_eq k stand.0) [
              | inl twice ↦
                  (let found = any_of_all (PairStands types k v) (λ later. ¬ SameTree key later.0) (list_of_pairs pairs) (pair_among pairs types stand.2 stand.6 k v there) heads in
                  absurd (found.2 (one_record key found.0.0 types.0 stand.0 stand.4 (subst (StandsFor schemas table types.0 found.0.0) twice found.1.0))))
              | inr other ↦ passed k (stand.0, stand.1) stand.2 other ∙ pairs_first pairs types stand.2 rest_apart stand.6 k v there
            ]
      ]

-- ---- where rows are added to a table

-- each row of the first table stands in the second one
abbrev pub Stays : Table → Table → Type 0
Stays before after = (t ordinal : ℕ) (row : Row) → row_at before t ordinal ≡ Some row → row_at after t ordinal ≡ Some row

module _ (schemas : List Schema) (before after : Table) (stays : Stays before after) where
  field_still : (tree : PlainTree) (kind : FieldKind) (value : Value) → ((t o : ℕ) → StandsFor schemas before t tree o → StandsFor schemas after t tree o) → FieldStands schemas before kind tree value → FieldStands schemas after kind tree value
  field_still (leaf found) kind value each stands = stands
  field_still (object trees) kind value each stands = (stands.0, stands.1, stands.2, each stands.0 stands.1 stands.3, stands.4)
  field_still (list trees) kind value each stands = (stands.0, stands.1, stands.2, each stands.0 stands.1 stands.3, stands.4)
  field_still (set trees) kind value each stands = (stands.0, stands.1, stands.2, each stands.0 stands.1 stands.3, stands.4)
  field_still (map pairs) kind value each stands = (stands.0, stands.1, stands.2, each stands.0 stands.1 stands.3, stands.4)

  mutual
    pub still : (tree : PlainTree) (t o : ℕ) → StandsFor schemas before t tree o → StandsFor schemas after t tree o
    still (leaf value) t o stands = absurd stands
    still (object trees) t o stands = (stands.0, stands.1, stands.2, stays t o (Row.Object stands.1) stands.3, fields_still trees stands.0 stands.1 stands.4)
    still (list trees) t o stands = (stands.0, stands.1, stands.2, stays t o (Row.List stands.1) stands.3, all_still trees stands.0 stands.1 stands.4)
    still (set trees) t o stands = (stands.0, stands.1, stands.2, stands.3, stays t o (Row.Set stands.2) stands.4, all_still trees stands.0 stands.1 stands.5, stands.6)
    still (map pairs) t o stands = (stands.0, stands.1, stands.2, stands.3, stays t o (Row.Map stands.2) stands.4, pairs_still pairs stands.0 stands.1 stands.5, stands.6, stands.7)

    pub fields_still : (trees : PlainTrees) (fields : List Field) (values : List Value) → FieldsStand schemas before fields trees values → FieldsStand schemas after fields trees values
    fields_still no_trees fields values stand = stand
    fields_still (tree_then tree trees) fields values stand =
        (stand.0, stand.1, stand.2, stand.3, stand.4, stand.5, field_still tree stand.0.kind stand.2 (λ t o s. still tree t o s) stand.6, fields_still trees stand.1 stand.3 stand.7)

    pub all_still : (trees : PlainTrees) (t : ℕ) (ordinals : List ℕ) → AllStand schemas before t trees ordinals → AllStand schemas after t trees ordinals
    all_still no_trees t ordinals stand = stand
    all_still (tree_then tree trees) t ordinals stand = (stand.0, stand.1, stand.2, still tree t stand.0 stand.3, all_still trees t stand.1 stand.4)

    pub pairs_still : (pairs : PlainPairs) (types : ℕ × ℕ) (added : List (ℕ × ℕ)) → PairsStand schemas before types pairs added → PairsStand schemas after types pairs added
    pairs_still no_pairs types added stand = stand
    pairs_still (pair_then key value pairs) types added stand =
        (stand.0, stand.1, stand.2, stand.3, still key types.0 stand.0 stand.4, still value types.1 stand.1 stand.5, pairs_still pairs types stand.2 stand.6)
