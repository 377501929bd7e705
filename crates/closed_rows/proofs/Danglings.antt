-- Whether the rows under the ordinals of a type name live ordinals alone, one after another.
use Rattle.std.proofs.Common.{◌≡◌, ℕ, ◌+◌, ◌<◌, ◌≤◌, ◌↔◌, inl, inr, List, [], ◌∷◌, length, map, flat_map, zip, Bool, true, false, Option, Some, None, refl, sym, ◌∙◌, ap, subst, arith, below_more, ◌++◌, slice_get}
use Rattle.std.specs.Prelude.{All, IsSome, IsSomeAnd, is_some, option_and_then, ◌&&◌}
use Rattle.std.specs.List.{list_all}
use Rattle.std.proofs.lemmas.Bool.{cases_lt, false≢true}
use Rattle.std.proofs.lemmas.List.Elements.{All-nil, All-cons, All-head, All-tail}
use Rattle.std.proofs.lemmas.List.Folds.{list_all-append, list_all-map}
use Rattle.std.proofs.lemmas.Option.{slice_get_past}
use Rattle.schema_model.specs.declared.schema.name.Name.{Name}
use Rattle.schema_model.specs.declared.schema.Schema.{Schema}
use Rattle.schema_model.specs.declared.schema.Shape.{Shape}
use Rattle.schema_model.specs.declared.schema.FieldKind.{FieldKind}
use Rattle.schema_model.specs.declared.schema.Field.{Field}
use Rattle.row_model.specs.declared.row.Value.{Value}
use Rattle.row_model.specs.declared.row.Row.{Row}
use Rattle.row_model.specs.Row.{references_of_row, references_of_value}
use Rattle.schema_model.specs.Parts.{index_of_type}
use Rattle.row_model.specs.Table.{Table, row_at, IsLive, IsLiveByName, IsBound, IsClosed}
use Rattle.closed_rows.specs.Dangling.{AreLive, IsClosedAt, IsPlain, IsPlainType, TellsType, is_live_reference, are_live}

-- both of two tests
and_parts : (a b : Bool) → (a && b) ≡ true → (a ≡ true) × (b ≡ true)
and_parts true b t = (refl, t)
and_parts false b t = absurd (false≢true t)

and_both : (a b : Bool) → a ≡ true → b ≡ true → (a && b) ≡ true
and_both true b s t = t
and_both false b s t = absurd (false≢true s)

-- a test of each item tells what holds of each
all_told : {X : Type 0} (p : X → Bool) (P : X → Type 0) → ((x : X) → (p x ≡ true) ↔ P x) → (xs : List X) → (list_all p xs ≡ true) ↔ All P xs
all_told p P told [] = (λ t. All-nil P, λ all. refl)
all_told p P told (x ∷ xs) =
    let rest = all_told p P told xs in (
      λ t. let each = and_parts (p x) (list_all p xs) t in All-cons P x xs ((told x).0 each.0) (rest.0 each.1),
      λ all. and_both (p x) (list_all p xs) ((told x).1 (All-head P x xs all)) (rest.1 (All-tail P x xs all)),
    )

by_index : {X : Type 0} (index : Option ℕ) (row : ℕ → Option X) → (is_some (option_and_then row index) ≡ true) ↔ IsSomeAnd index (λ i. IsSome (row i))
by_index None row = (λ t. absurd (false≢true t), λ there. absurd there)
by_index (Some i) row = (λ t. t, λ there. there)

-- the test of rows tells whether they are live
pub told_live : (schemas : List Schema) (table : Table) (references : List (Name × ℕ)) → (are_live schemas table references ≡ true) ↔ AreLive schemas table references
told_live schemas table references =
    all_told (is_live_reference schemas table) (λ named. IsLiveByName schemas table named.0 named.1) (λ named. by_index (index_of_type schemas named.0) (λ type_index. row_at table type_index named.1)) references

-- a test of all pieces goes piece by piece
pub all_pieces : {X Y : Type 0} (p : Y → Bool) (f : X → List Y) (xs : List X) → list_all p (flat_map f xs) ≡ list_all (λ x. list_all p (f x)) xs
all_pieces p f [] = refl
all_pieces p f (x ∷ xs) = list_all-append p (f x) (flat_map f xs) ∙ ap (λ b. list_all p (f x) && b) (all_pieces p f xs)

and_again : (a b c : Bool) → (a && (b && c)) ≡ ((a && b) && c)
and_again true b c = refl
and_again false b c = refl

-- the same, where each piece has two items
pair_pieces : {X Y : Type 0} (p : Y → Bool) (f g : X → Y) (xs : List X) → list_all p (flat_map (λ x. f x ∷ g x ∷ []) xs) ≡ list_all (λ x. p (f x) && p (g x)) xs
pair_pieces p f g [] = refl
pair_pieces p f g (x ∷ xs) = ap (λ b. p (f x) && (p (g x) && b)) (pair_pieces p f g xs) ∙ and_again (p (f x)) (p (g x)) (list_all (λ y. p (f y) && p (g y)) xs)

-- the test of what a record, a list, a set or a map names
module _ (schemas : List Schema) (table : Table) (shape : Shape) (row : Row) (told : Bool) where
  pub record_told : (key : Option (List (List ℕ))) (fields fs : List Field) (values vs : List Value) → shape ≡ Shape.Object key fields → row ≡ Row.Object values → fs ≡ fields → vs ≡ values
      → told ≡ list_all (λ part. are_live schemas table (references_of_value part.0.kind part.1)) (zip fs vs) → told ≡ are_live schemas table (references_of_row shape row)
  record_told key fields fs values vs is_shape is_row fields_are values_are tells =
      tells
      ∙ (λ i. list_all (λ part. are_live schemas table (references_of_value part.0.kind part.1)) (zip (fields_are i) (values_are i)))
      ∙ sym (all_pieces (is_live_reference schemas table) (λ part. references_of_value part.0.kind part.1) (zip fields values))
      ∙ (λ i. are_live schemas table (references_of_row (sym is_shape i) (sym is_row i)))

  pub list_told : (element : Name) (ordinals os : List ℕ) → references_of_row shape row ≡ map (λ ordinal. (element, ordinal)) ordinals → os ≡ ordinals
      → told ≡ list_all (λ ordinal. is_live_reference schemas table (element, ordinal)) os → told ≡ are_live schemas table (references_of_row shape row)
  list_told element ordinals os named are tells =
      tells
      ∙ (λ i. list_all (λ ordinal. is_live_reference schemas table (element, ordinal)) (are i))
      ∙ sym (list_all-map (is_live_reference schemas table) (λ ordinal. (element, ordinal)) ordinals)
      ∙ ap (are_live schemas table) (sym named)

  pub map_told : (key value : Name) (pairs ps : List (ℕ × ℕ)) → shape ≡ Shape.Map key value → row ≡ Row.Map pairs → ps ≡ pairs
      → told ≡ list_all (λ pair. is_live_reference schemas table (key, pair.0) && is_live_reference schemas table (value, pair.1)) ps → told ≡ are_live schemas table (references_of_row shape row)
  map_told key value pairs ps is_shape is_row are tells =
      tells
      ∙ (λ i. list_all (λ pair. is_live_reference schemas table (key, pair.0) && is_live_reference schemas table (value, pair.1)) (are i))
      ∙ sym (pair_pieces (is_live_reference schemas table) (λ pair. (key, pair.0)) (λ pair. (value, pair.1)) pairs)
      ∙ (λ i. are_live schemas table (references_of_row (sym is_shape i) (sym is_row i)))

some_there : {A : Type 0} (o : Option A) (x : A) → o ≡ Some x → IsSome o
some_there None x e = absurd cc
some_there (Some y) x e = refl

-- there is no row
pub closed_dead : (schemas : List Schema) (table : Table) (t o : ℕ) → (IsLive table t o → ⊥) → IsClosedAt schemas table t o
closed_dead schemas table t o dead schema row gs gr = absurd (dead (some_there (row_at table t o) row gr))

-- all ordinals below the bound
pub type_done : (schemas : List Schema) (table : Table) (t bound reached : ℕ) → IsBound table t bound → bound ≤ reached → ((o : ℕ) → o < reached → IsClosedAt schemas table t o) → TellsType schemas table t None
type_done schemas table t bound reached is past done o =
    elim (cases_lt o reached) [ inl lt ↦ done o lt | inr le ↦ closed_dead schemas table t o (λ live. let below = is.above o live in omega arith) ]

-- all types
pub types_done : (schemas : List Schema) (table : Table) (reached : ℕ) → length schemas ≤ reached → ((t o : ℕ) → t < reached → IsClosedAt schemas table t o) → IsClosed schemas table
types_done schemas table reached past done t o schema row gs gr =
    elim (cases_lt t reached) [ inl lt ↦ done t o lt schema row gs gr | inr le ↦ absurd (let none = slice_get_past schemas t (omega arith) in cc) ]

-- one type more
pub types_more : (schemas : List Schema) (table : Table) (reached : ℕ) → ((t o : ℕ) → t < reached → IsClosedAt schemas table t o) → TellsType schemas table reached None → (t o : ℕ) → t < reached + 1 → IsClosedAt schemas table t o
types_more schemas table reached done here t o lt = below_more (λ u. IsClosedAt schemas table u o) reached (λ u h. done u o h) (here o) t lt

-- the rows of a plain type name nothing
plain_value : (kind : FieldKind) (value : Value) → IsPlain kind → references_of_value kind value ≡ []
plain_value (FieldKind.Reference name) value plain = absurd plain
plain_value FieldKind.Int value plain = refl
plain_value FieldKind.Long value plain = refl
plain_value FieldKind.Boolean value plain = refl
plain_value FieldKind.Text value plain = refl
plain_value FieldKind.Bytes value plain = refl

plain_values : (fields : List Field) (values : List Value) → All (λ field. IsPlain field.kind) fields → flat_map (λ part. references_of_value part.0.kind part.1) (zip fields values) ≡ []
plain_values [] values plain = refl
plain_values (field ∷ fields) [] plain = refl
plain_values (field ∷ fields) (value ∷ values) plain =
    ap (λ first. first ++ flat_map (λ part. references_of_value part.0.kind part.1) (zip fields values)) (plain_value field.kind value (All-head (λ f. IsPlain f.kind) field fields plain))
    ∙ plain_values fields values (All-tail (λ f. IsPlain f.kind) field fields plain)

pub plain_row : (shape : Shape) (row : Row) → IsPlainType shape → references_of_row shape row ≡ []
plain_row (Shape.Object key fields) (Row.Object values) plain = plain_values fields values plain
plain_row (Shape.Object key fields) (Row.List ordinals) plain = refl
plain_row (Shape.Object key fields) (Row.Set ordinals) plain = refl
plain_row (Shape.Object key fields) (Row.Map pairs) plain = refl
plain_row (Shape.List element) row plain = absurd plain
plain_row (Shape.Set element) row plain = absurd plain
plain_row (Shape.Map key value) row plain = absurd plain

pub plain_closed : (schemas : List Schema) (table : Table) (type_index : ℕ) (of_type : Schema) → slice_get schemas type_index ≡ Some of_type → IsPlainType of_type.shape → TellsType schemas table type_index None
plain_closed schemas table type_index of_type is plain ordinal schema row there at =
    let same : of_type ≡ schema = cc in
    subst (λ s. AreLive schemas table (references_of_row s.shape row)) same (rw (plain_row of_type.shape row plain) (All-nil (λ named. IsLiveByName schemas table named.0 named.1)))
