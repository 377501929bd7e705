-- What stands at the end of a walk path: a field of a kind without a reference.
use Rattle.std.proofs.Common.{◌≡◌, ℕ, List, [], ◌∷◌, Option, Some, None, map, refl, sym, ap, subst, ◌∙◌}
use Rattle.std.specs.Prelude.{IsSomeAnd, option_and_then, option_map, slice_get}
use Rattle.schema_model.specs.declared.model.walk_path.WalkPart.{WalkPart}
use Rattle.schema_model.specs.declared.model.walk_path.WalkPart.TheVariants.{Field as FieldPart}
use Rattle.schema_model.specs.declared.model.walk_path.WalkPath.{WalkPath}
use Rattle.schema_model.specs.declared.schema.Field.{Field}
use Rattle.schema_model.specs.declared.schema.FieldKind.{FieldKind}
use Rattle.schema_model.specs.declared.schema.Schema.{Schema}
use Rattle.schema_model.specs.declared.schema.Shape.{Shape}
use Rattle.schema_model.specs.Parts.{index_of_type, referenced, shape_fields}
use Rattle.schema_model.specs.Path.{GoesOn, RefersTo, path_names}
use Rattle.schema_model.specs.WalkPath.{HasPart, LeadsAlong, WalkResolves, WalksOn, part_kind}
use Rattle.closed_rows.specs.Dangling.{IsPlain}
use Rattle.row_model.specs.Key.{target_of}
use Rattle.row_model.specs.Reach.{type_by}
use Rattle.hollow_machine.specs.WalkOrders.{kind_walked}

plain_unless_referring : (kind : FieldKind) → referenced kind ≡ None → IsPlain kind
plain_unless_referring FieldKind.Int none = tt
plain_unless_referring FieldKind.Long none = tt
plain_unless_referring FieldKind.Boolean none = tt
plain_unless_referring FieldKind.Text none = tt
plain_unless_referring FieldKind.Bytes none = tt
plain_unless_referring (FieldKind.Reference name) none = absurd cc

-- a field of a shape is the part of its index
field_part : (shape : Shape) (i : ℕ) → part_kind shape (FieldPart i) ≡ option_map (λ (f : Field). f.kind) (slice_get (shape_fields shape) i)
field_part (Shape.Object key fields) i = refl
field_part (Shape.Set element) i = refl
field_part (Shape.List element) i = refl
field_part (Shape.Map key value) i = refl

module _ (schemas : List Schema) where
  -- the type at an index has the part, and this stands there
  record Stands (t : ℕ) (part : WalkPart) (kind : FieldKind) : Type 0 where
    schema : Schema
    at : slice_get schemas t ≡ Some schema
    holds : part_kind schema.shape part ≡ Some kind

  -- the kind of the last part
  last_kind : (t : ℕ) (part : WalkPart) (kind : FieldKind) → Stands t part kind → kind_walked schemas t (part ∷ []) ≡ Some kind
  last_kind t part kind stands = ap (λ (o : Option Schema). option_and_then (λ schema. part_kind schema.shape part) o) stands.at ∙ stands.holds

  -- the type to which a part leads
  leads_to : (t u : ℕ) (part : WalkPart) (kind : FieldKind) → Stands t part kind → RefersTo schemas kind u → type_by schemas t part ≡ Some u
  leads_to t u part kind stands (name, refers, index) =
      ap (λ (o : Option Schema). option_and_then (λ schema. option_and_then (λ k. target_of schemas k) (part_kind schema.shape part)) o) stands.at
      ∙ ap (λ (o : Option FieldKind). option_and_then (λ k. target_of schemas k) o) stands.holds
      ∙ ap (λ (o : Option (List ℕ)). option_and_then (λ n. index_of_type schemas n) o) refers ∙ index

  -- an end behind a part
  behind : (t u : ℕ) (part next : WalkPart) (rest : List WalkPart) → type_by schemas t part ≡ Some u → IsSomeAnd (kind_walked schemas u (next ∷ rest)) IsPlain → IsSomeAnd (kind_walked schemas t (part ∷ next ∷ rest)) IsPlain
  behind t u part next rest leads plain = subst (λ (o : Option ℕ). IsSomeAnd (option_and_then (λ w. kind_walked schemas w (next ∷ rest)) o) IsPlain) (sym leads) plain

  goes_plain : (fields : List ℕ) (t : ℕ) (part : WalkPart) (kind : FieldKind) → Stands t part kind → GoesOn schemas kind fields → IsSomeAnd (kind_walked schemas t (part ∷ map FieldPart fields)) IsPlain
  goes_plain [] t part kind stands ends = subst (λ (o : Option FieldKind). IsSomeAnd o IsPlain) (sym (last_kind t part kind stands)) (plain_unless_referring kind ends)
  goes_plain (i ∷ more) t part kind stands (u, field, refers, (s, at, only), zeroth, on) =
      let there : Stands u (FieldPart i) field.kind = record {
        schema = s;
        at = at;
        holds = field_part s.shape i ∙ ap (λ (fields : List Field). option_map (λ (f : Field). f.kind) (slice_get fields i)) only ∙ ap (λ (k : ℕ). option_map (λ (f : Field). f.kind) (slice_get (field ∷ []) k)) zeroth;
      } in
      behind t u part (FieldPart i) (map FieldPart more) (leads_to t u part kind stands refers) (goes_plain more u (FieldPart i) field.kind there on)

  walks_plain : (t : ℕ) (part : WalkPart) (kind : FieldKind) (more : List WalkPart) → Stands t part kind → WalksOn schemas kind more → IsSomeAnd (kind_walked schemas t (part ∷ more)) IsPlain
  walks_plain t part kind more stands (fields, is, on) =
      subst (λ (ps : List WalkPart). IsSomeAnd (kind_walked schemas t (part ∷ ps)) IsPlain) (sym is) (goes_plain fields t part kind stands on)

  stands_named : (t : ℕ) (name : List ℕ) (part : WalkPart) (kind : FieldKind) → HasPart schemas t name part kind → Stands t part kind
  stands_named t name part kind has = record { schema = has.schema; at = has.at; holds = has.holds }

  none_leads : (t : ℕ) (name : List ℕ) (names : List (List ℕ)) → LeadsAlong schemas t (name ∷ names) [] → ⊥
  none_leads t name [] leads = leads
  none_leads t name (next ∷ names) leads = leads

  leads_plain : (names : List (List ℕ)) (t : ℕ) (parts : List WalkPart) → LeadsAlong schemas t names parts → IsSomeAnd (kind_walked schemas t parts) IsPlain
  leads_plain [] t parts leads = absurd leads
  leads_plain (name ∷ names) t [] leads = absurd (none_leads t name names leads)
  leads_plain (name ∷ []) t (part ∷ more) (kind, has, on) = walks_plain t part kind more (stands_named t name part kind has) on
  leads_plain (name ∷ next ∷ names) t (part ∷ []) (kind, u, has, refers, on) = absurd (none_leads u next names on)
  leads_plain (name ∷ next ∷ names) t (part ∷ then ∷ rest) (kind, u, has, refers, on) =
      behind t u part then rest (leads_to t u part kind (stands_named t name part kind has) refers) (leads_plain (next ∷ names) u (then ∷ rest) on)

  -- a walk path ends at a kind without a reference
  pub walk_ends : (t : ℕ) (text : List ℕ) (path : WalkPath) → WalkResolves schemas t text path → IsSomeAnd (kind_walked schemas path.type_index path.parts) IsPlain
  walk_ends t text path (begins, leads) =
      subst (λ (u : ℕ). IsSomeAnd (kind_walked schemas u path.parts) IsPlain) (sym begins) (leads_plain (path_names text) t path.parts leads)
