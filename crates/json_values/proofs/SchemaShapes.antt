-- From what the parts of a value are to what the value stands for.
use Rattle.std.proofs.Common.{◌≡◌, ℕ, List, Bool, true, false, codes, sym, ◌∙◌, subst, inl, inr, ◌⊎◌, Option, Some, None, refl}
use Rattle.std.specs.Prelude.{IsTrue, ◌↔◌, IsSomeAnd}
use Rattle.std.specs.Str.{bytes_eq}
use Rattle.std.proofs.lemmas.Slice.Eq.{bytes_eq-Decides}
use Rattle.serde_json.specs.Data.{Data, string}
use Rattle.serde_json.specs.Find.{get}
use Rattle.closed_rows.specs.Dangling.{IsPlain}
use Rattle.schema_model.specs.declared.schema.name.Name.{Name}
use Rattle.schema_model.specs.declared.schema.Field.{Field}
use Rattle.schema_model.specs.declared.schema.FieldKind.{FieldKind}
use Rattle.schema_model.specs.declared.schema.Schema.{Schema}
use Rattle.schema_model.specs.declared.schema.Shape.{Shape}
use Rattle.json_values.specs.SchemaJson.{HasKey, HasParts, HasTarget, HasText, TellsKind, IsArrayOf, IsField, IsText, IsKindOrFloat, IsSchema, member_count, shape_name}

-- a text is not two texts that differ
pub differ : {text a b : List ℕ} → text ≡ a → text ≡ b → bytes_eq a b ≡ false → ⊥
differ {a = a} {b = b} is other apart = let same : bytes_eq a b ≡ true = (bytes_eq-Decides a b).1 (sym is ∙ other) in cc

-- a value has one text under a name
pub same_text : (value : Data) (name : List ℕ) {a b : List ℕ} → HasText value name a → HasText value name b → a ≡ b
same_text value name {a = a} {b = b} p q = let e : Some (string a) ≡ Some (string b) = sym p ∙ q in cc

-- REFERENCE names no other kind
pub reference_kind : (text : List ℕ) (kind : FieldKind) → text ≡ codes "REFERENCE" → IsKindOrFloat kind text → IsPlain kind → ⊥
reference_kind text (FieldKind.Reference to) is named plain = plain
reference_kind text FieldKind.Int is (inl e) plain = differ is e refl
reference_kind text FieldKind.Long is (inl e) plain = differ is e refl
reference_kind text FieldKind.Boolean is (inl e) plain = differ is e refl
reference_kind text FieldKind.Text is (inl e) plain = differ is e refl
reference_kind text FieldKind.Bytes is (inl e) plain = differ is e refl
reference_kind text kind is (inr (e, inl float)) plain = differ is float refl
reference_kind text kind is (inr (e, inr float)) plain = differ is float refl

-- a kind is plain, or a reference
plain_or_not : (value : Data) (text : List ℕ) (kind : FieldKind) → IsKindOrFloat kind text → HasTarget value kind
    → (IsPlain kind × (member_count value ≡ 2)) ⊎ ((to : Name) × (text ≡ codes "REFERENCE") × HasTarget value (FieldKind.Reference to))
plain_or_not value text (FieldKind.Reference to) (inl e) target = inr (to, e, target)
plain_or_not value text (FieldKind.Reference to) (inr (e, float)) target = absurd cc
plain_or_not value text FieldKind.Int named target = inl (tt, target)
plain_or_not value text FieldKind.Long named target = inl (tt, target)
plain_or_not value text FieldKind.Boolean named target = inl (tt, target)
plain_or_not value text FieldKind.Text named target = inl (tt, target)
plain_or_not value text FieldKind.Bytes named target = inl (tt, target)

plain_target : (value : Data) (kind : FieldKind) → IsPlain kind → member_count value ≡ 2 → HasTarget value kind
plain_target value (FieldKind.Reference to) plain two = absurd plain
plain_target value FieldKind.Int plain two = two
plain_target value FieldKind.Long plain two = two
plain_target value FieldKind.Boolean plain two = two
plain_target value FieldKind.Text plain two = two
plain_target value FieldKind.Bytes plain two = two

-- what names no plain kind is a REFERENCE
pub reference_of : (value : Data) (text : List ℕ) → TellsKind text None → (kind : FieldKind) → IsKindOrFloat kind text → HasTarget value kind
    → (to : Name) × (text ≡ codes "REFERENCE") × HasTarget value (FieldKind.Reference to)
reference_of value text none kind named target = elim (plain_or_not value text kind named target) [
  | inl plain ↦ absurd (none kind plain.0 named)
  | inr reference ↦ reference
]

-- a REFERENCE by its target
pub reference_found : (value : Data) (text : List ℕ) (b : Bool) → text ≡ codes "REFERENCE" → (IsTrue b ↔ ((to : Name) × HasTarget value (FieldKind.Reference to)))
    → IsTrue b ↔ ((named : FieldKind) × IsKindOrFloat named text × HasTarget value named)
reference_found value text b is tells = (
  λ yes. let found = tells.0 yes in (FieldKind.Reference found.0, inl is, found.1),
  λ found. elim (plain_or_not value text found.0 found.1 found.2) [
    | inl plain ↦ absurd (reference_kind text found.0 is found.1 plain.0)
    | inr reference ↦ tells.1 (reference.0, reference.2)
  ],
)

-- another kind by the number of members
pub plain_found : (value : Data) (text : List ℕ) (b : Bool) → (text ≡ codes "REFERENCE" → ⊥) → (IsTrue b ↔ ((kind : FieldKind) × IsPlain kind × IsKindOrFloat kind text × (member_count value ≡ 2)))
    → IsTrue b ↔ ((kind : FieldKind) × IsKindOrFloat kind text × HasTarget value kind)
plain_found value text b isnt tells = (
  λ yes. let found = tells.0 yes in (found.0, found.2, plain_target value found.0 found.1 found.3),
  λ found. elim (plain_or_not value text found.0 found.1 found.2) [
    | inl plain ↦ tells.1 (found.0, plain.0, found.1, plain.1)
    | inr reference ↦ absurd (isnt reference.1)
  ],
)

-- the field of which the kind was found
pub field_found : (value : Data) (name kind : List ℕ) (b : Bool) → HasText value (codes "name") name → HasText value (codes "type") kind
    → (IsTrue b ↔ ((named : FieldKind) × IsKindOrFloat named kind × HasTarget value named)) → IsTrue b ↔ ((field : Field) × IsField IsKindOrFloat value field)
field_found value name kind b named typed tells = (
  λ yes. let found = tells.0 yes in (record { name = name; kind = found.0 }, record { name = named; kind = (kind, typed, found.1); target = found.2 }),
  λ found. tells.1 (found.0.kind, subst (IsKindOrFloat found.0.kind) (same_text value (codes "type") found.1.kind.1 typed) found.1.kind.2, found.1.target),
)

-- the schema of which the parts were found
pub schema_found : (value : Data) (name kind : List ℕ) (b : Bool) → HasText value (codes "name") name → HasText value (codes "kind") kind
    → (IsTrue b ↔ ((shape : Shape) × (kind ≡ shape_name shape) × HasParts IsKindOrFloat value shape)) → IsTrue b ↔ ((schema : Schema) × IsSchema IsKindOrFloat value schema)
schema_found value name kind b named typed tells = (
  λ yes. let found = tells.0 yes in (record { name = name; shape = found.0 }, record { name = named; kind = subst (HasText value (codes "kind")) found.1 typed; parts = found.2 }),
  λ found. tells.1 (found.0.shape, same_text value (codes "kind") typed found.1.kind, found.1.parts),
)

-- an OBJECT by its fields and its key
pub object_found : (value : Data) (kind : List ℕ) (b : Bool) → kind ≡ codes "OBJECT"
    → (IsTrue b ↔ ((key : Option (List Name)) × (fields : List Field) × HasParts IsKindOrFloat value (Shape.Object key fields)))
    → IsTrue b ↔ ((shape : Shape) × (kind ≡ shape_name shape) × HasParts IsKindOrFloat value shape)
object_found value kind b is tells = (λ yes. let found = tells.0 yes in (Shape.Object found.0 found.1, is, found.2), λ found. back found.0 found.1 found.2)
  where
    back : (shape : Shape) → kind ≡ shape_name shape → HasParts IsKindOrFloat value shape → IsTrue b
    back (Shape.Object key fields) e parts = tells.1 (key, fields, parts)
    back (Shape.Set element) e parts = absurd (differ is e refl)
    back (Shape.List element) e parts = absurd (differ is e refl)
    back (Shape.Map key element) e parts = absurd (differ is e refl)

-- a SET or a LIST by its element
pub element_found : (value : Data) (kind : List ℕ) (b : Bool) → (kind ≡ codes "SET") ⊎ (kind ≡ codes "LIST")
    → (IsTrue b ↔ ((element : Name) × HasText value (codes "element") element × (member_count value ≡ 3)))
    → IsTrue b ↔ ((shape : Shape) × (kind ≡ shape_name shape) × HasParts IsKindOrFloat value shape)
element_found value kind b (inl is) tells = (λ yes. let found = tells.0 yes in (Shape.Set found.0, is, (found.1, found.2)), λ found. back found.0 found.1 found.2)
  where
    back : (shape : Shape) → kind ≡ shape_name shape → HasParts IsKindOrFloat value shape → IsTrue b
    back (Shape.Object key fields) e parts = absurd (differ is e refl)
    back (Shape.Set element) e parts = tells.1 (element, parts.0, parts.1)
    back (Shape.List element) e parts = absurd (differ is e refl)
    back (Shape.Map key element) e parts = absurd (differ is e refl)
element_found value kind b (inr is) tells = (λ yes. let found = tells.0 yes in (Shape.List found.0, is, (found.1, found.2)), λ found. back found.0 found.1 found.2)
  where
    back : (shape : Shape) → kind ≡ shape_name shape → HasParts IsKindOrFloat value shape → IsTrue b
    back (Shape.Object key fields) e parts = absurd (differ is e refl)
    back (Shape.Set element) e parts = absurd (differ is e refl)
    back (Shape.List element) e parts = tells.1 (element, parts.0, parts.1)
    back (Shape.Map key element) e parts = absurd (differ is e refl)

-- a MAP by its key and its value
pub map_found : (value : Data) (kind : List ℕ) (b : Bool) → kind ≡ codes "MAP"
    → (IsTrue b ↔ ((key : Name) × (element : Name) × HasParts IsKindOrFloat value (Shape.Map key element)))
    → IsTrue b ↔ ((shape : Shape) × (kind ≡ shape_name shape) × HasParts IsKindOrFloat value shape)
map_found value kind b is tells = (λ yes. let found = tells.0 yes in (Shape.Map found.0 found.1, is, found.2), λ found. back found.0 found.1 found.2)
  where
    back : (shape : Shape) → kind ≡ shape_name shape → HasParts IsKindOrFloat value shape → IsTrue b
    back (Shape.Object key fields) e parts = absurd (differ is e refl)
    back (Shape.Set element) e parts = absurd (differ is e refl)
    back (Shape.List element) e parts = absurd (differ is e refl)
    back (Shape.Map key element) e parts = tells.1 (key, element, parts)

-- a primary key by its paths
pub key_found : (value found : Data) (b : Bool) → get (codes "key") value ≡ Some found
    → (IsTrue b ↔ ((paths : List Name) × IsArrayOf IsText found paths × (member_count value ≡ 4))) → IsTrue b ↔ ((key : Option (List Name)) × HasKey value key)
key_found value found b at tells = (
  λ yes. let paths = tells.0 yes in (Some paths.0, (subst (λ o. IsSomeAnd o (λ d. IsArrayOf IsText d paths.0)) (sym at) paths.1, paths.2)),
  λ key. back key.0 key.1,
)
  where
    back : (key : Option (List Name)) → HasKey value key → IsTrue b
    back None has = let e : Some found ≡ None = sym at ∙ has.0 in absurd cc
    back (Some paths) has = tells.1 (paths, subst (λ o. IsSomeAnd o (λ d. IsArrayOf IsText d paths)) at has.0, has.1)
