-- Whether a path leads anywhere is decided by following it; the paths of a model's primary keys resolve, each to one path.
use Rattle.std.proofs.Common.{◌≡◌, ◌∙◌, ◌⊎◌, ℕ, zero, suc, List, [], ◌∷◌, Option, Some, None, length, slice_get, refl, sym, ap, subst, inl, inr, arith}
use Rattle.std.specs.Prelude.{Any, Err, IsSome, IsSomeAnd, option_and_then}
use Rattle.std.specs.List.{AllZip}
use Rattle.std.specs.Str.{bytes_eq}
use Rattle.std.proofs.lemmas.Bool.{cases_Bool}
use Rattle.std.proofs.lemmas.Option.{slice_get_within}
use Rattle.std.proofs.lemmas.Slice.Eq.{bytes_eq-Decides}
use Rattle.schema_model.specs.Model.{HasChain, IsBadKey, IsBadPath, IsKept, IsModel, type_graph}
use Rattle.schema_model.specs.Parts.{fields_of, index_of_type, referenced, shape_key}
use Rattle.schema_model.specs.Path.{GoesOn, HasField, HasOnlyField, Leads, RefersTo, Resolves, path_names}
use Rattle.schema_model.specs.declared.model.faults.PathFault.TheVariants.{BadPath as LostPath}
use Rattle.schema_model.specs.declared.model.path.Path.{Path}
use Rattle.schema_model.specs.declared.model.rule.Rule.TheVariants.{BadPath, DuplicateName, TooDeep}
use Rattle.schema_model.specs.declared.schema.Field.{Field}
use Rattle.schema_model.specs.declared.schema.FieldKind.{FieldKind}
use Rattle.schema_model.specs.declared.schema.Schema.{Schema}
use Rattle.schema_model.proofs.Ways.{chain_through, lead_field, no_fields, no_lead_name, no_lead_on, no_way_many, no_way_on, no_way_unknown, none_deep, one_path, only_is_field, way_last, way_next}
use Rattle.hol_incremental.specs.Roots.{AreKeyPaths, key_texts}
use Rattle.hol_incremental.proofs.ShallowTypes.{none_shallow}

-- there is one of which this holds, or it holds of none
abbrev pub FoundOr : {A : Type 0} → (A → Type 0) → Type 0
FoundOr {A} P = ((x : A) × P x) ⊎ ((x : A) → P x → ⊥)

same_name : (a b : List ℕ) → (a ≡ b) ⊎ (a ≡ b → ⊥)
same_name a b =
    elim (cases_Bool (bytes_eq a b)) [
      | inl is ↦ inl ((bytes_eq-Decides a b).0 is)
      | inr differs ↦ inr (λ same. let e = sym ((bytes_eq-Decides a b).1 same) ∙ differs in cc)
    ]

-- a field of the name
abbrev IsField : List Field → List ℕ → ℕ × Field → Type 0
IsField fields name found = (slice_get fields found.0 ≡ Some found.1) × (found.1.name ≡ name)

find_field : (fields : List Field) (name : List ℕ) → FoundOr (IsField fields name)
find_field [] name = inr (λ found is. let e = is.0 in cc)
find_field (f ∷ fields) name =
    elim (same_name f.name name) [
      | inl same ↦ inl ((0, f), (refl, same))
      | inr other ↦
          elim (find_field fields name) [
            | inl found ↦ inl ((suc found.0.0, found.0.1), (found.1.0, found.1.1))
            | inr none ↦ inr (λ found is. behind other none found.0 found.1 is.0 is.1)
          ]
    ]
  where
    behind : (f.name ≡ name → ⊥) → ((found : ℕ × Field) → IsField fields name found → ⊥) → (i : ℕ) (g : Field) → slice_get (f ∷ fields) i ≡ Some g → g.name ≡ name → ⊥
    behind other none zero g at same = let one : f ≡ g = cc in other (ap (λ (x : Field). x.name) one ∙ same)
    behind other none (suc i) g at same = none (i, g) (at, same)

module _ (schemas : List Schema) where
  -- ---- through the only fields of types

  on_from : (kind : FieldKind) → ((u : ℕ) (only : Field) → RefersTo schemas kind u → HasOnlyField schemas u only → FoundOr (GoesOn schemas only.kind)) → FoundOr (GoesOn schemas kind)
  on_from kind next = by_name (referenced kind) refl
    where
      no_type : (name : List ℕ) (u : ℕ) → referenced kind ≡ Some name → index_of_type schemas name ≡ Some u → slice_get schemas u ≡ None → (more : List ℕ) → GoesOn schemas kind more → ⊥
      no_type name u is index none [] way = let e : None ≡ Some name = sym way ∙ is in cc
      no_type name u is index none (i ∷ more) (v, field, (other, is_too, index'), (s, at, own), zeroth, way) =
          let names : Some name ≡ Some other = sym is ∙ is_too in
          let same : name ≡ other = cc in
          let types : Some u ≡ Some v = sym index ∙ ap (index_of_type schemas) same ∙ index' in
          let type : u ≡ v = cc in
          let e : None ≡ Some s = sym none ∙ ap (slice_get schemas) type ∙ at in cc

      by_fields : (name : List ℕ) (u : ℕ) (s : Schema) (fields : List Field) → referenced kind ≡ Some name → index_of_type schemas name ≡ Some u → slice_get schemas u ≡ Some s → fields_of s ≡ fields → FoundOr (GoesOn schemas kind)
      by_fields name u s [] is index at own = inr (no_way_many schemas kind u s (name, is, index) at (λ one. let none = ap (λ (fs : List Field). length fs) own in omega (arith, one, none)))
      by_fields name u s (only ∷ []) is index at own =
          elim (next u only (name, is, index) (s, at, own)) [
            | inl way ↦ inl (0 ∷ way.0, (u, only, (name, is, index), (s, at, own), refl, way.1))
            | inr none ↦ inr (no_way_on schemas kind u only (name, is, index) (s, at, own) none)
          ]
      by_fields name u s (f ∷ g ∷ fields) is index at own = inr (no_way_many schemas kind u s (name, is, index) at (λ one. let many = ap (λ (fs : List Field). length fs) own in omega (arith, one, many)))

      by_type : (name : List ℕ) (u : ℕ) (type : Option Schema) → referenced kind ≡ Some name → index_of_type schemas name ≡ Some u → slice_get schemas u ≡ type → FoundOr (GoesOn schemas kind)
      by_type name u None is index at = inr (no_type name u is index at)
      by_type name u (Some s) is index at = by_fields name u s (fields_of s) is index at refl

      by_index : (name : List ℕ) (index : Option ℕ) → referenced kind ≡ Some name → index_of_type schemas name ≡ index → FoundOr (GoesOn schemas kind)
      by_index name None is at = inr (no_way_unknown schemas kind name is at)
      by_index name (Some u) is at = by_type name u (slice_get schemas u) is at refl

      by_name : (name : Option (List ℕ)) → referenced kind ≡ name → FoundOr (GoesOn schemas kind)
      by_name None is = inl ([], is)
      by_name (Some name) is = by_index name (index_of_type schemas name) is refl

  goes : (depth : ℕ) (kind : FieldKind) → ((u : ℕ) → RefersTo schemas kind u → HasChain (type_graph schemas) depth u → ⊥) → FoundOr (GoesOn schemas kind)
  goes zero kind shallow = on_from kind (λ u only refers has. absurd (none_shallow schemas u (slice_get_within schemas u has.0 has.1) (shallow u refers)))
  goes (suc depth) kind shallow =
      on_from kind (λ u only refers has. goes depth only.kind (λ v to chain. shallow u refers (chain_through schemas u 0 only v depth (only_is_field schemas u only has) to chain)))

  -- ---- by names

  refers_or : (kind : FieldKind) → FoundOr (RefersTo schemas kind)
  refers_or kind = by_name (referenced kind) refl
    where
      by_index : (name : List ℕ) (index : Option ℕ) → referenced kind ≡ Some name → index_of_type schemas name ≡ index → FoundOr (RefersTo schemas kind)
      by_index name (Some u) is at = inl (u, (name, is, at))
      by_index name None is at = inr (λ u refers. (let names : Some name ≡ Some refers.0 = sym is ∙ refers.1 in let same : name ≡ refers.0 = cc in let e : None ≡ Some u = sym at ∙ ap (index_of_type schemas) same ∙ refers.2 in cc))

      by_name : (name : Option (List ℕ)) → referenced kind ≡ name → FoundOr (RefersTo schemas kind)
      by_name None is = inr (λ u refers. (let e : None ≡ Some refers.0 = sym is ∙ refers.1 in cc))
      by_name (Some name) is = by_index name (index_of_type schemas name) is refl

  module _ (apart : IsKept schemas DuplicateName) (shallow : IsKept schemas TooDeep) where
    -- a name of a type's field
    first_or : (t : ℕ) (name : List ℕ) (names : List (List ℕ)) → ((i : ℕ) (field : Field) → HasField schemas t i field → field.name ≡ name → FoundOr (Leads schemas t (name ∷ names))) → FoundOr (Leads schemas t (name ∷ names))
    first_or t name names next = by_type (slice_get schemas t) refl
      where
        no_type : slice_get schemas t ≡ None → (fields : List ℕ) → Leads schemas t (name ∷ names) fields → ⊥
        no_type none [] leads = no_fields schemas t (name ∷ names) leads
        no_type none (i ∷ more) leads = let (field, (s, at, own), same) = lead_field schemas t i name names more leads in let e : None ≡ Some s = sym none ∙ at in cc

        by_type : (type : Option Schema) → slice_get schemas t ≡ type → FoundOr (Leads schemas t (name ∷ names))
        by_type None at = inr (no_type at)
        by_type (Some s) at =
            elim (find_field (fields_of s) name) [
              | inl found ↦ next found.0.0 found.0.1 (s, at, found.1.0) found.1.1
              | inr none ↦ inr (no_lead_name schemas t s (fields_of s) name names at refl (λ i f there same. none (i, f) (there, same)))
            ]

    pub leads_or : (names : List (List ℕ)) (t : ℕ) → FoundOr (Leads schemas t names)
    leads_or [] t = inr (λ fields way. way)
    leads_or (name ∷ []) t =
        first_or t name [] (λ i field has same.
        (elim (goes 32 field.kind (λ u refers chain. none_deep schemas shallow field.kind u refers chain)) [
          | inl way ↦ inl (i ∷ way.0, (field, has, same, way.1))
          | inr none ↦ inr (way_last schemas t i field name [] (i ∷ []) [] (Err LostPath) apart has same refl none)
        ]))
    leads_or (name ∷ next ∷ names) t =
        first_or t name (next ∷ names) (λ i field has same.
        (elim (refers_or field.kind) [
          | inr none ↦ inr (no_lead_on schemas t i field name next names apart has same none)
          | inl refers ↦
              elim (leads_or (next ∷ names) refers.0) [
                | inl way ↦ inl (i ∷ way.0, (field, refers.0, has, same, refers.1, way.1))
                | inr none ↦ inr (way_next schemas t i refers.0 field name next [] (i ∷ []) [] names (Err LostPath) apart has same refers.1 refl none)
              ]
        ]))

    -- texts of which none leads nowhere resolve
    all_resolve : (t : ℕ) (texts : List (List ℕ)) → (Any (IsBadPath schemas t) texts → ⊥) → (paths : List Path) × AllZip (λ text path. Resolves schemas t text path) texts paths
    all_resolve t [] good = ([], tt)
    all_resolve t (text ∷ texts) good =
        let rest = all_resolve t texts (λ bad. good (suc bad.0, bad.1, (let inside = bad.2 in omega arith), bad.3, bad.4)) in
        elim (leads_or (path_names text) t) [
          | inl way ↦ (record { type_index = t; fields = way.0 } ∷ rest.0, ((refl, way.1), rest.1))
          | inr none ↦ absurd (good (0, text, omega arith, refl, none))
        ]

  -- ---- the primary key of a type

  pub texts_resolve : IsModel schemas → (t : ℕ) (texts : List (List ℕ)) → key_texts schemas t ≡ Some texts → (paths : List Path) × AllZip (λ text path. Resolves schemas t text path) texts paths
  texts_resolve model t texts is = all_resolve (model DuplicateName) (model TooDeep) t texts (λ bad. by_type (slice_get schemas t) refl is bad)
    where
      by_type : (type : Option Schema) → slice_get schemas t ≡ type → option_and_then (λ schema. shape_key schema.shape) type ≡ Some texts → Any (IsBadPath schemas t) texts → ⊥
      by_type None at key bad = cc
      by_type (Some s) at key bad = model BadPath t (s, at, subst (λ k. IsBadKey schemas t k) (sym key) (inr bad))

  pub key_paths : IsModel schemas → (t : ℕ) → IsSome (key_texts schemas t) → (paths : List Path) × AreKeyPaths schemas t paths
  key_paths model t keyed = by_texts (key_texts schemas t) refl keyed
    where
      by_texts : (texts : Option (List (List ℕ))) → key_texts schemas t ≡ texts → IsSome texts → (paths : List Path) × AreKeyPaths schemas t paths
      by_texts None is some = absurd cc
      by_texts (Some texts) is some =
          let found = texts_resolve model t texts is in
          (found.0, subst (λ o. IsSomeAnd o (λ ts. AllZip (λ text path. Resolves schemas t text path) ts found.0)) (sym is) found.1)

  -- a type has one list of key paths
  module _ (names : IsKept schemas DuplicateName) (t : ℕ) where
    all_once : (texts : List (List ℕ)) (xs ys : List Path) → AllZip (λ text path. Resolves schemas t text path) texts xs → AllZip (λ text path. Resolves schemas t text path) texts ys → xs ≡ ys
    all_once [] [] [] one other = refl
    all_once [] [] (y ∷ ys) one other = absurd other
    all_once [] (x ∷ xs) ys one other = absurd one
    all_once (text ∷ texts) [] ys one other = absurd one
    all_once (text ∷ texts) (x ∷ xs) [] one other = absurd other
    all_once (text ∷ texts) (x ∷ xs) (y ∷ ys) one other =
        let first = one_path schemas names t text x y one.0 other.0 in
        let rest = all_once texts xs ys one.1 other.1 in
        λ i. first i ∷ rest i

    pub paths_once : (xs ys : List Path) → AreKeyPaths schemas t xs → AreKeyPaths schemas t ys → xs ≡ ys
    paths_once xs ys one other = by_texts (key_texts schemas t) one other
      where
        by_texts : (texts : Option (List (List ℕ))) → IsSomeAnd texts (λ ts. AllZip (λ text path. Resolves schemas t text path) ts xs) → IsSomeAnd texts (λ ts. AllZip (λ text path. Resolves schemas t text path) ts ys) → xs ≡ ys
        by_texts None one other = absurd one
        by_texts (Some texts) one other = all_once texts xs ys one other
