-- Models that grow, and schemas that agree.
use Rattle.std.proofs.Common.{◌≡◌, inl, inr, ℕ, ◌<◌, ◌+◌, ◌↔◌, Bool, IsTrue, List, [], ◌++◌, append_assoc, append-nil, length, Option, Some, None, refl, sym, ap, subst, ◌∙◌, arith, slice_get, slice_index_or, option_map, All}
use Rattle.std.specs.Prelude.{IsSomeAnd}
use Rattle.std.proofs.lemmas.Bool.{cases_order}
use Rattle.std.proofs.lemmas.List.{get_or_append_left, length-append}
use Rattle.std.proofs.lemmas.Option.{same_Some, slice_get-get_or, slice_get-map}
use Rattle.schema_model.specs.declared.schema.Field.{Field}
use Rattle.schema_model.specs.declared.schema.Schema.{Schema}
use Rattle.schema_model.specs.declared.schema.Shape.{Shape}
use Rattle.schema_model.specs.declared.model.rule.Rule.TheVariants.{DuplicateName}
use Rattle.schema_model.specs.Growth.{AreInFront, Grows, GrowsShape, GrowsType, IsOneKind, KindsAgree, ModelsAgree, ShapesAgree}
use Rattle.schema_model.specs.Model.{IsKept, IsModel}
use Rattle.schema_model.specs.Parts.{AreApart, fields_of, index_of_type, shape_fields, type_names}
use Rattle.schema_model.proofs.ModelFacts.{index_at}
use Rattle.schema_model.proofs.Ways.{one_field}

-- what is there, and what holds of it
pub one_of : {X : Type 0} (P : X → Type 0) (o : Option X) → IsSomeAnd o P → (x : X) × (o ≡ Some x) × P x
one_of P None there = absurd there
one_of P (Some x) there = (x, refl, there)

pub some_and : {X : Type 0} (P : X → Type 0) (o : Option X) (x : X) → o ≡ Some x → P x → IsSomeAnd o P
some_and P o x is holds = subst (λ p. IsSomeAnd p P) (sym is) holds

-- no two fields of a type of a model have one name
pub fields_apart : (schemas : List Schema) (t : ℕ) (schema : Schema) → IsModel schemas → slice_get schemas t ≡ Some schema → AreApart (fields_of schema)
fields_apart schemas t schema model found i j d before below named =
    let fields = fields_of schema in
    let first : slice_get fields i ≡ Some (slice_index_or fields i d) = slice_get-get_or fields i d (omega (arith, before, below)) in
    let second : slice_get fields j ≡ Some (slice_index_or fields j d) = slice_get-get_or fields j d below in
    let same : i ≡ j = one_field schemas t i j (slice_index_or fields i d) (slice_index_or fields j d) (model DuplicateName) (schema, found, first) (schema, found, second) named in
    omega (arith, before, same)

-- ---- growth

grows_itself_shape : (shape : Shape) → GrowsShape shape shape
grows_itself_shape (Shape.Object key fields) = (refl, ([], sym (append-nil fields)))
grows_itself_shape (Shape.List element) = refl
grows_itself_shape (Shape.Set element) = refl
grows_itself_shape (Shape.Map from to) = refl

pub grows_itself : (schemas : List Schema) → Grows schemas schemas
grows_itself schemas t schema at = some_and (GrowsType schema) (slice_get schemas t) schema at (record { named = refl; shape = grows_itself_shape schema.shape })

front_further : (xs ys zs : List Field) → AreInFront xs ys → AreInFront ys zs → AreInFront xs zs
front_further xs ys zs (more, is) (rest, are) = (more ++ rest, are ∙ ap (λ fs. fs ++ rest) is ∙ append_assoc xs more rest)

shape_further : (a b c : Shape) → GrowsShape a b → GrowsShape b c → GrowsShape a c
shape_further (Shape.Object ka fa) (Shape.Object kb fb) (Shape.Object kc fc) first second = (second.0 ∙ first.0, front_further fa fb fc first.1 second.1)
shape_further (Shape.Object ka fa) (Shape.Object kb fb) (Shape.List element) first second = absurd cc
shape_further (Shape.Object ka fa) (Shape.Object kb fb) (Shape.Set element) first second = absurd cc
shape_further (Shape.Object ka fa) (Shape.Object kb fb) (Shape.Map from to) first second = absurd cc
shape_further (Shape.Object ka fa) (Shape.List element) c first second = absurd cc
shape_further (Shape.Object ka fa) (Shape.Set element) c first second = absurd cc
shape_further (Shape.Object ka fa) (Shape.Map from to) c first second = absurd cc
shape_further (Shape.List element) b c first second = subst (λ s. GrowsShape s c) first second
shape_further (Shape.Set element) b c first second = subst (λ s. GrowsShape s c) first second
shape_further (Shape.Map from to) b c first second = subst (λ s. GrowsShape s c) first second

pub grows_further : (schemas grown later : List Schema) → Grows schemas grown → Grows grown later → Grows schemas later
grows_further schemas grown later first second t schema at =
    let mid = one_of (GrowsType schema) (slice_get grown t) (first t schema at) in
    let last = one_of (GrowsType mid.0) (slice_get later t) (second t mid.0 mid.1) in
    some_and (GrowsType schema) (slice_get later t) last.0 last.1
    (record { named = last.2.named ∙ mid.2.named; shape = shape_further schema.shape mid.0.shape last.0.shape mid.2.shape last.2.shape })

pub name_there : (schemas : List Schema) (t : ℕ) (schema : Schema) → slice_get schemas t ≡ Some schema → slice_get (type_names schemas) t ≡ Some schema.name
name_there schemas t schema at = slice_get-map (λ (s : Schema). s.name) schemas t ∙ ap (option_map (λ (s : Schema). s.name)) at

of_name : (o : Option Schema) (name : List ℕ) → option_map (λ (s : Schema). s.name) o ≡ Some name → (schema : Schema) × (o ≡ Some schema) × (schema.name ≡ name)
of_name None name is = absurd cc
of_name (Some schema) name is = (schema, refl, same_Some _ _ is)

-- the type of a name stands at its index
pub named_there : (schemas : List Schema) (t : ℕ) (name : List ℕ) → slice_get (type_names schemas) t ≡ Some name → (schema : Schema) × (slice_get schemas t ≡ Some schema) × (schema.name ≡ name)
named_there schemas t name is = of_name (slice_get schemas t) name (sym (slice_get-map (λ (s : Schema). s.name) schemas t) ∙ is)

-- a type keeps its index
pub grown_index : (schemas grown : List Schema) (name : List ℕ) (t : ℕ) → IsKept schemas DuplicateName → IsKept grown DuplicateName → Grows schemas grown
    → index_of_type schemas name ≡ Some t → index_of_type grown name ≡ Some t
grown_index schemas grown name t once grown_once grows is =
    let own = named_there schemas t name ((index_at schemas name once t).0 is) in
    let later = one_of (GrowsType own.0) (slice_get grown t) (grows t own.0 own.1) in
    (index_at grown name grown_once t).1 (name_there grown t later.0 later.1 ∙ ap Some (later.2.named ∙ own.2))

-- ---- agreement

pub any_default : {X : Type 0} (xs : List X) (k : ℕ) (d e : X) → k < length xs → slice_index_or xs k d ≡ slice_index_or xs k e
any_default xs k d e below = same_Some _ _ (sym (slice_get-get_or xs k d below) ∙ slice_get-get_or xs k e below)

-- the field of a name is of this kind where the one at a place is
pub one_kind_at : (field : Field) (others : List Field) (place : ℕ) (other : Field) → AreApart others → place < length others → other ≡ slice_index_or others place other → field.name ≡ other.name
    → field.kind ≡ other.kind → All (IsOneKind field) others
one_kind_at field others place other apart within is named kinds k d below same =
    let here : slice_index_or others place d ≡ other = any_default others place d other within ∙ sym is in
    let one : (slice_index_or others place d).name ≡ (slice_index_or others k d).name = ap (λ (f : Field). f.name) here ∙ sym named ∙ same in
    elim (cases_order place k) [
      | inl equal ↦ kinds ∙ ap (λ (f : Field). f.kind) (sym here) ∙ ap (λ i. (slice_index_or others i d).kind) equal
      | inr (inl before) ↦ absurd (apart place k d before below one)
      | inr (inr behind) ↦ absurd (apart k place d behind within (sym one))
    ]

-- and so it is decided by that one
pub kind_here : (field : Field) (others : List Field) (place : ℕ) (d e : Field) (b : Bool) → AreApart others → place < length others → field.name ≡ (slice_index_or others place d).name
    → IsTrue b ↔ (field.kind ≡ (slice_index_or others place e).kind) → IsTrue b ↔ All (IsOneKind field) others
kind_here field others place d e b apart within named tells =
    let other = slice_index_or others place e in
    let named_there : field.name ≡ other.name = named ∙ ap (λ (f : Field). f.name) (any_default others place d e within) in (
      λ yes_it_is. one_kind_at field others place other apart within (any_default others place e other within) named_there (tells.0 yes_it_is),
      λ all. tells.1 (all place e within named_there),
    )

kinds_grown : (fields grown : List Field) → AreInFront fields grown → AreApart grown → KindsAgree fields grown
kinds_grown fields grown (more, is) apart k d below =
    let at : slice_index_or grown k d ≡ slice_index_or fields k d = ap (λ fs. slice_index_or fs k d) is ∙ get_or_append_left fields more d k below in
    let within : k < length grown = subst (λ fs. k < length fs) (sym is) (omega (arith, below, length-append fields more)) in
    one_kind_at (slice_index_or fields k d) grown k (slice_index_or grown k d) apart within (any_default grown k d (slice_index_or grown k d) within) (ap (λ (f : Field). f.name) (sym at)) (ap (λ (f : Field). f.kind) (sym at))

shapes_grown : (shape grown : Shape) → GrowsShape shape grown → AreApart (shape_fields grown) → ShapesAgree shape grown
shapes_grown (Shape.Object key fields) (Shape.Object grown_key grown) grows apart = (sym grows.0, kinds_grown fields grown grows.1 apart)
shapes_grown (Shape.Object key fields) (Shape.List element) grows apart = absurd cc
shapes_grown (Shape.Object key fields) (Shape.Set element) grows apart = absurd cc
shapes_grown (Shape.Object key fields) (Shape.Map from to) grows apart = absurd cc
shapes_grown (Shape.List element) grown grows apart = sym grows
shapes_grown (Shape.Set element) grown grows apart = sym grows
shapes_grown (Shape.Map from to) grown grows apart = sym grows

pub shapes_agree_back : (shape other : Shape) → ShapesAgree shape other → ShapesAgree other shape
shapes_agree_back (Shape.Object key fields) (Shape.Object other_key others) agree = (sym agree.0, λ j e less k d below named. sym (agree.1 k d below j e less (sym named)))
shapes_agree_back (Shape.Object key fields) (Shape.List element) agree = absurd cc
shapes_agree_back (Shape.Object key fields) (Shape.Set element) agree = absurd cc
shapes_agree_back (Shape.Object key fields) (Shape.Map from to) agree = absurd cc
shapes_agree_back (Shape.List element) other agree = subst (λ s. ShapesAgree s (Shape.List element)) agree refl
shapes_agree_back (Shape.Set element) other agree = subst (λ s. ShapesAgree s (Shape.Set element)) agree refl
shapes_agree_back (Shape.Map from to) other agree = subst (λ s. ShapesAgree s (Shape.Map from to)) agree refl

pub models_agree_back : (schemas others : List Schema) → ModelsAgree schemas others → ModelsAgree others schemas
models_agree_back schemas others agree t u schema other at there named = shapes_agree_back other.shape schema.shape (agree u t other schema there at (sym named))

-- the schemas of a model agree with those of one that grows it
pub grown_agrees : (schemas grown : List Schema) → IsModel grown → Grows schemas grown → ModelsAgree schemas grown
grown_agrees schemas grown model grows t u schema other at there named =
    let later = one_of (GrowsType schema) (slice_get grown t) (grows t schema at) in
    let here : index_of_type grown other.name ≡ Some t = (index_at grown other.name (model DuplicateName) t).1 (name_there grown t later.0 later.1 ∙ ap Some (later.2.named ∙ named)) in
    let at_u : index_of_type grown other.name ≡ Some u = (index_at grown other.name (model DuplicateName) u).1 (name_there grown u other there) in
    let place : t ≡ u = same_Some _ _ (sym here ∙ at_u) in
    let same : later.0 ≡ other = same_Some _ _ (sym later.1 ∙ ap (slice_get grown) place ∙ there) in
    shapes_grown schema.shape other.shape (subst (λ (s : Schema). GrowsShape schema.shape s.shape) same later.2.shape) (fields_apart grown u other model there)
