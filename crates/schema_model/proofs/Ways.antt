-- The ways that paths lead: how one goes on, and that there is no other.
use Rattle.std.proofs.Common.{◌≡◌, ℕ, zero, suc, ◌+◌, ◌-◌, ◌<◌, ◌≤◌, ◌∙◌, sym, ap, subst, refl, List, [], ◌∷◌, ◌++◌, Option, Some, None, length, slice_get, take, drop, get_or, arith, inl, inr, eqb, cond, not, Bool, true, false, ◌↔◌, append_assoc, Result, Ok, Err}
use Rattle.std.specs.Prelude.{IsErrAnd, IsTrue}
use Rattle.std.specs.List.{filter_map, Contains, cons_option, position_or_len, onto_first, before_first, after_first, count_by}
use Rattle.std.proofs.lemmas.Slice.Eq.{bytes_eq-Decides}
use Rattle.std.specs.Str.{bytes_eq}
use Rattle.std.proofs.lemmas.List.Splits.{slice_split-cons_no, slice_split_first, length-slice_split}
use Rattle.std.specs.Option.{option_map, MatchOption, IfSome}
use Rattle.std.proofs.lemmas.Bool.{cases_order, cases_lt, cases_Bool}
use Rattle.std.proofs.lemmas.List.{get_or-take, length-take, length-map, take_all}
use Rattle.std.proofs.lemmas.List.Elements.{Contains-get_or}
use Rattle.std.proofs.lemmas.Option.{slice_get_within, get_or_from_slice_get, slice_get-map, slice_get-get_or, MatchOption-at_none, MatchOption-at_some}
use Rattle.schema_model.specs.Model.{HasChain, type_graph, named_indexes, IsKept, StandsEarlier}
use Rattle.schema_model.specs.Parts.{fields_of, field_names, shape_fields, shape_names, named_types, referenced, referenced_names, index_of_type, type_names}
use Rattle.hol_varint.specs.Yields.{Yields}
use Rattle.schema_model.specs.Faults.{IsFreePath, TellsPath}
use Rattle.schema_model.specs.declared.model.path.Path.{Path}
use Rattle.schema_model.specs.Path.{HasField, HasOnlyField, RefersTo, GoesOn, Leads, Resolves, path_names}
use Rattle.schema_model.specs.declared.model.rule.Rule.TheVariants.{DuplicateName, TooDeep}
use Rattle.schema_model.specs.declared.schema.Field.{Field}
use Rattle.schema_model.specs.declared.schema.FieldKind.{FieldKind}
use Rattle.schema_model.specs.declared.schema.Schema.{Schema}
use Rattle.schema_model.specs.declared.schema.Shape.{Shape}
use Rattle.schema_model.specs.declared.schema.Shape.TheVariants.{Object, Set, List as ListShape, Map}
use Rattle.schema_model.specs.declared.model.faults.PathFault.{PathFault}
use Rattle.schema_model.specs.declared.model.faults.PathFault.TheVariants.{BadPath, Memory}
use Rattle.schema_model.specs.Ways.{TellsField, TellsFields, TellsWay}
use Rattle.schema_model.proofs.Indexing.{item_name, name_found}
use Rattle.schema_model.proofs.BrokenRules.{same_schema}

filtered_at : {X Y : Type 0} (h : X → Option Y) (xs : List X) (i : ℕ) (x : X) (y : Y) → slice_get xs i ≡ Some x → h x ≡ Some y → (k : ℕ) × (slice_get (filter_map h xs) k ≡ Some y)
filtered_at h [] i x y at e = absurd cc
filtered_at h (z ∷ zs) zero x y at e = let same : z ≡ x = cc in (0, rw (same, e) refl)
filtered_at h (z ∷ zs) (suc i) x y at e = let (k, more) = filtered_at h zs i x y at e in elim (h z) as (λ o. (j : ℕ) × (slice_get (cons_option o (filter_map h zs)) j ≡ Some y)) [ None ↦ (k, more) | Some w ↦ (suc k, more) ]

object_names : (shape : Shape) (i : ℕ) (field : Field) → slice_get (shape_fields shape) i ≡ Some field → shape_names shape ≡ referenced_names (shape_fields shape)
object_names (Object key fields) i field at = refl
object_names (Set element) i field at = absurd cc
object_names (ListShape element) i field at = absurd cc
object_names (Map key value) i field at = absurd cc

-- a chain goes on from a type whose field refers to its first type
pub chain_through : (schemas : List Schema) (t i : ℕ) (field : Field) (u n : ℕ) → HasField schemas t i field → RefersTo schemas field.kind u → HasChain (type_graph schemas) n u → HasChain (type_graph schemas) (suc n) t
unfolding HasChain
chain_through schemas t i field u n (s, at, own) (name, refers, index) chain =
    let (j, named) = filtered_at (λ (f : Field). referenced f.kind) (fields_of s) i field name own refers in
    let (k, inside) = filtered_at (index_of_type schemas) (named_types s) j name u (ap (λ names. slice_get names j) (object_names s.shape i field own) ∙ named) index in
    let row : get_or (type_graph schemas) t [] ≡ named_indexes schemas s =
    get_or_from_slice_get (type_graph schemas) t (named_indexes schemas s) [] (slice_get-map (named_indexes schemas) schemas t ∙ ap (option_map (named_indexes schemas)) at) in
    rw row (k, u, slice_get_within (named_indexes schemas s) k u inside, get_or_from_slice_get (named_indexes schemas s) k u u inside, chain)

-- a field refers to one type
pub one_referred : (schemas : List Schema) (kind : FieldKind) (u v : ℕ) → RefersTo schemas kind u → RefersTo schemas kind v → u ≡ v
one_referred schemas kind u v (m, a, b) (n, c, d) =
    let same : m ≡ n = (let e : Some m ≡ Some n = sym a ∙ c in cc) in
    let e : Some u ≡ Some v = sym b ∙ ap (index_of_type schemas) same ∙ d in cc

-- the only field is a field
pub only_is_field : (schemas : List Schema) (t : ℕ) (field : Field) → HasOnlyField schemas t field → HasField schemas t 0 field
only_is_field schemas t field (s, at, only) = (s, at, ap (λ fields. slice_get fields 0) only)

-- a reference to no type leads nowhere
pub no_way_unknown : (schemas : List Schema) (kind : FieldKind) (name : List ℕ) → referenced kind ≡ Some name → index_of_type schemas name ≡ None → (more : List ℕ) → GoesOn schemas kind more → ⊥
no_way_unknown schemas kind name refers none [] way = let e : None ≡ Some name = sym way ∙ refers in cc
no_way_unknown schemas kind name refers none (i ∷ more) (u, field, (n, again, index), has, zeroth, way) =
    let same : n ≡ name = (let e : Some n ≡ Some name = sym again ∙ refers in cc) in
    let e : Some u ≡ None = sym index ∙ ap (index_of_type schemas) same ∙ none in cc

-- a reference to a type without exactly one field leads nowhere
pub no_way_many : (schemas : List Schema) (kind : FieldKind) (u : ℕ) (s : Schema) → RefersTo schemas kind u → slice_get schemas u ≡ Some s → (length (fields_of s) ≡ 1 → ⊥) → (more : List ℕ) → GoesOn schemas kind more → ⊥
no_way_many schemas kind u s (name, refers, index) at many [] way = let e : None ≡ Some name = sym way ∙ refers in cc
no_way_many schemas kind u s to at many (i ∷ more) (v, field, again, (r, there, only), zeroth, way) =
    let same = same_schema schemas u r s (ap (slice_get schemas) (one_referred schemas kind u v to again) ∙ there) at in
    many (ap (λ x. length (fields_of x)) (sym same) ∙ ap length only)

-- a way through the only field of the referred type is the only way
pub no_way_on : (schemas : List Schema) (kind : FieldKind) (u : ℕ) (only : Field) → RefersTo schemas kind u → HasOnlyField schemas u only → ((more : List ℕ) → GoesOn schemas only.kind more → ⊥) → (more : List ℕ) → GoesOn schemas kind more → ⊥
no_way_on schemas kind u only (name, refers, index) has none [] way = let e : None ≡ Some name = sym way ∙ refers in cc
no_way_on schemas kind u only to (s, at, own) none (i ∷ more) (v, field, again, (r, there, own'), zeroth, way) =
    let same = same_schema schemas u r s (ap (slice_get schemas) (one_referred schemas kind u v to again) ∙ there) at in
    let lists : field ∷ [] ≡ only ∷ [] = sym own' ∙ ap fields_of same ∙ own in
    let fields : field ≡ only = cc in
    none more (subst (λ (f : Field). GoesOn schemas f.kind more) fields way)

-- one field more that has another name
pub no_field_more : (fields : List Field) (name : List ℕ) (i : ℕ) (item : Field) → slice_get fields i ≡ Some item → (item.name ≡ name → ⊥)
    → ((k : ℕ) (f : Field) → k < i → slice_get fields k ≡ Some f → f.name ≡ name → ⊥) → (k : ℕ) (f : Field) → k < i + 1 → slice_get fields k ≡ Some f → f.name ≡ name → ⊥
no_field_more fields name i item at other before k f below there same =
    elim (cases_lt k i) [
      | inl less ↦ before k f less there same
      | inr more ↦
          let here : k ≡ i = omega arith in
          let e : Some f ≡ Some item = sym there ∙ ap (slice_get fields) here ∙ at in
          let fields_same : f ≡ item = cc in
          other (ap (λ (g : Field). g.name) (sym fields_same) ∙ same)
    ]

some_part : (k : ℕ) (parts : List (List ℕ)) → length parts ≡ k + 1 → (name : List ℕ) × (names : List (List ℕ)) × (parts ≡ name ∷ names)
some_part k [] long = absurd (omega arith)
some_part k (name ∷ names) long = (name, names, refl)

-- a text without a '.' is one name
pub one_name : (text : List ℕ) → position_or_len (λ b. eqb b 46) text ≡ length text → path_names text ≡ text ∷ []
one_name [] none = refl
one_name (b ∷ bs) none =
    let P : Bool → Type 0 = λ t. cond (not t) (1 + position_or_len (λ c. eqb c 46) bs) 0 ≡ length (b ∷ bs) in
    elim (cases_Bool (eqb b 46)) [
      | inl dot ↦ let short : 0 ≡ length (b ∷ bs) = subst P dot none in absurd (omega arith)
      | inr other ↦
          let long : 1 + position_or_len (λ c. eqb c 46) bs ≡ length (b ∷ bs) = subst P other none in
          slice_split-cons_no (λ c. eqb c 46) b bs other ∙ ap (onto_first b) (one_name bs (omega arith))
    ]

-- a text is its first name and those behind the first '.'
pub more_names : (text name rest : List ℕ) → (name ≡ before_first (λ b. eqb b 46) text) × (rest ≡ after_first (λ b. eqb b 46) text) × (position_or_len (λ b. eqb b 46) text < length text)
    → path_names text ≡ name ∷ path_names rest
more_names text name rest (before, after, inside) =
    slice_split_first (λ b. eqb b 46) text 0 inside
    ∙ ap (λ n. n ∷ path_names (after_first (λ b. eqb b 46) text)) (sym before)
    ∙ ap (λ t. name ∷ path_names t) (sym after)

-- an index of a type is below the number of types
pub type_inside : (schemas : List Schema) (name : List ℕ) (u : ℕ) → index_of_type schemas name ≡ Some u → u < length schemas
type_inside schemas name u index = rw (sym (length-map schemas (λ s. s.name))) (name_found (type_names schemas) name u index).0

-- the only field of a type
pub only_from : (schemas : List Schema) (u : ℕ) (s : Schema) (fields : List Field) (only : Field) → slice_get schemas u ≡ Some s → fields ≡ fields_of s → length fields ≡ 1 → only ≡ get_or fields 0 only → HasOnlyField schemas u only
only_from schemas u s [] only at own one first = absurd (omega arith)
only_from schemas u s (x ∷ []) only at own one first = (s, at, sym own ∙ ap (λ f. f ∷ []) (sym first))
only_from schemas u s (x ∷ y ∷ more) only at own one first = absurd (omega arith)

-- where no chain of so many references begins at a type that is there, they are not none
pub deep_enough : (schemas : List Schema) (depth u : ℕ) → u < length schemas → (HasChain (type_graph schemas) depth u → ⊥) → 1 ≤ depth
unfolding HasChain
deep_enough schemas zero u inside shallow = absurd (shallow (rw (length-map schemas (named_indexes schemas)) inside))
deep_enough schemas (suc depth) u inside shallow = omega arith

-- behind a field fewer references follow
pub shallower : (schemas : List Schema) (depth t i u : ℕ) (field : Field) → HasField schemas t i field → 1 ≤ depth → (HasChain (type_graph schemas) depth t → ⊥) → RefersTo schemas field.kind u → HasChain (type_graph schemas) (depth - 1) u → ⊥
shallower schemas depth t i u field has deep shallow refers chain =
    let e : suc (depth - 1) ≡ depth = omega arith in
    shallow (subst (λ n. HasChain (type_graph schemas) n t) e (chain_through schemas t i field u (depth - 1) has refers chain))

-- a way that goes on through the only field of the referred type
pub way_on : (schemas : List Schema) (kind : FieldKind) (u : ℕ) (only : Field) (old mid new : List ℕ) (r : Result (Unit {0}) PathFault) → RefersTo schemas kind u → HasOnlyField schemas u only
    → mid ≡ old ++ 0 ∷ [] → TellsWay (GoesOn schemas only.kind) mid new r → TellsWay (GoesOn schemas kind) old new r
way_on schemas kind u only old mid new (Ok x) refers has front (more, added, way) =
    (0 ∷ more, added ∙ ap (λ xs. xs ++ more) front ∙ append_assoc old (0 ∷ []) more, (u, only, refers, has, refl, way))
way_on schemas kind u only old mid new (Err BadPath) refers has front none = no_way_on schemas kind u only refers has none
way_on schemas kind u only old mid new (Err Memory) refers has front none = tt

-- what a look-up of a name in an index of the types finds
pub looked_up : (schemas : List Schema) (find : List ℕ → Option ℕ) → ((n : List ℕ) → find n ≡ index_of_type schemas n) → (name text : List ℕ) (r : Option ℕ) → text ≡ name → r ≡ find text → index_of_type schemas name ≡ r
looked_up schemas find indexed name text r same e = sym (indexed name) ∙ ap find (sym same) ∙ sym e

repeated_at : (fields : List Field) (i j : ℕ) (f g : Field) → slice_get fields i ≡ Some f → slice_get fields j ≡ Some g → f.name ≡ g.name → i < j → StandsEarlier (field_names fields) j
repeated_at fields i j f g first second same less =
    let names = field_names fields in
    let first_name : get_or (take j names) i [] ≡ f.name = get_or-take j names i [] less ∙ item_name (λ x. x.name) fields i f first in
    let second_name = item_name (λ (x : Field). x.name) fields j g second in
    let inside : i < length (take j names) = rw (length-take j names) (let a = slice_get_within fields j g second in omega (arith, length-map fields (λ (x : Field). x.name))) in
    subst (λ n. Contains (take j names) n) (first_name ∙ same ∙ sym second_name) (Contains-get_or (take j names) i [] inside)

-- a type has one field of a name, where no name stands twice
pub one_field : (schemas : List Schema) (t i j : ℕ) (f g : Field) → IsKept schemas DuplicateName → HasField schemas t i f → HasField schemas t j g → f.name ≡ g.name → i ≡ j
one_field schemas t i j f g apart (s, at, own) (r, there, again) same =
    let fields = fields_of s in
    let here : slice_get fields j ≡ Some g = ap (λ x. slice_get (fields_of x) j) (sym (same_schema schemas t r s there at)) ∙ again in
    elim (cases_order i j) [
      | inl e ↦ e
      | inr (inl less) ↦ absurd (apart t (s, at, inr (j, rw (length-map fields (λ f. f.name)) (slice_get_within fields j g here), repeated_at fields i j f g own here same less)))
      | inr (inr more) ↦ absurd (apart t (s, at, inr (i, rw (length-map fields (λ f. f.name)) (slice_get_within fields i f own), repeated_at fields j i g f here own (sym same) more)))
    ]

same_field : (schemas : List Schema) (t i j : ℕ) (f g : Field) → IsKept schemas DuplicateName → HasField schemas t i f → HasField schemas t j g → f.name ≡ g.name → g ≡ f
same_field schemas t i j f g apart (s, at, own) (r, there, again) same =
    let place = one_field schemas t i j f g apart (s, at, own) (r, there, again) same in
    let e : Some g ≡ Some f = sym again ∙ ap (λ x. slice_get (fields_of x) j) (same_schema schemas t r s there at) ∙ ap (slice_get (fields_of s)) (sym place) ∙ own in
    cc

last_none : (schemas : List Schema) (t i : ℕ) (field : Field) (name : List ℕ) → IsKept schemas DuplicateName → HasField schemas t i field → field.name ≡ name
    → ((more : List ℕ) → GoesOn schemas field.kind more → ⊥) → (way : List ℕ) → Leads schemas t (name ∷ []) way → ⊥
last_none schemas t i field name apart has same none [] leads = leads
last_none schemas t i field name apart has same none (j ∷ more) (other, again, equal, way) =
    none more (subst (λ (f : Field). GoesOn schemas f.kind more) (same_field schemas t i j field other apart has again (same ∙ sym equal)) way)

next_none : (schemas : List Schema) (t i u : ℕ) (field : Field) (name next : List ℕ) (names : List (List ℕ)) → IsKept schemas DuplicateName → HasField schemas t i field → field.name ≡ name
    → RefersTo schemas field.kind u → ((more : List ℕ) → Leads schemas u (next ∷ names) more → ⊥) → (way : List ℕ) → Leads schemas t (name ∷ next ∷ names) way → ⊥
next_none schemas t i u field name next names apart has same refers none [] leads = leads
next_none schemas t i u field name next names apart has same refers none (j ∷ more) (other, v, again, equal, to, way) =
    let fields = same_field schemas t i j field other apart has again (same ∙ sym equal) in
    let e = one_referred schemas field.kind v u (subst (λ (f : Field). RefersTo schemas f.kind v) fields to) refers in
    none more (subst (λ w. Leads schemas w (next ∷ names) more) e way)

-- no path goes through a name that no field has
pub no_lead_name : (schemas : List Schema) (t : ℕ) (s : Schema) (fields : List Field) (name : List ℕ) (names : List (List ℕ)) → slice_get schemas t ≡ Some s → fields ≡ fields_of s
    → ((i : ℕ) (f : Field) → slice_get fields i ≡ Some f → f.name ≡ name → ⊥) → (way : List ℕ) → Leads schemas t (name ∷ names) way → ⊥
no_lead_name schemas t s fields name [] at own none [] leads = leads
no_lead_name schemas t s fields name (next ∷ names) at own none [] leads = leads
no_lead_name schemas t s fields name [] at own none (i ∷ more) (field, (r, there, has), same, way) =
    none i field (ap (λ x. slice_get x i) own ∙ ap (λ x. slice_get (fields_of x) i) (same_schema schemas t s r at there) ∙ has) same
no_lead_name schemas t s fields name (next ∷ names) at own none (i ∷ more) (field, u, (r, there, has), same, refers, way) =
    none i field (ap (λ x. slice_get x i) own ∙ ap (λ x. slice_get (fields_of x) i) (same_schema schemas t s r at there) ∙ has) same

-- the last name of a path
pub way_last : (schemas : List Schema) (t i : ℕ) (field : Field) (name old mid new : List ℕ) (r : Result (Unit {0}) PathFault) → IsKept schemas DuplicateName → HasField schemas t i field → field.name ≡ name
    → mid ≡ old ++ i ∷ [] → TellsWay (GoesOn schemas field.kind) mid new r → TellsWay (Leads schemas t (name ∷ [])) old new r
way_last schemas t i field name old mid new (Ok x) apart has same front (more, added, way) =
    (i ∷ more, added ∙ ap (λ xs. xs ++ more) front ∙ append_assoc old (i ∷ []) more, (field, has, same, way))
way_last schemas t i field name old mid new (Err BadPath) apart has same front none = last_none schemas t i field name apart has same none
way_last schemas t i field name old mid new (Err Memory) apart has same front none = tt

-- a name of a path before others
pub way_next : (schemas : List Schema) (t i u : ℕ) (field : Field) (name next old mid new : List ℕ) (names : List (List ℕ)) (r : Result (Unit {0}) PathFault) → IsKept schemas DuplicateName → HasField schemas t i field → field.name ≡ name
    → RefersTo schemas field.kind u → mid ≡ old ++ i ∷ [] → TellsWay (Leads schemas u (next ∷ names)) mid new r → TellsWay (Leads schemas t (name ∷ next ∷ names)) old new r
way_next schemas t i u field name next old mid new names (Ok x) apart has same refers front (more, added, way) =
    (i ∷ more, added ∙ ap (λ xs. xs ++ more) front ∙ append_assoc old (i ∷ []) more, (field, u, has, same, refers, way))
way_next schemas t i u field name next old mid new names (Err BadPath) apart has same refers front none = next_none schemas t i u field name next names apart has same refers none
way_next schemas t i u field name next old mid new names (Err Memory) apart has same refers front none = tt

-- a path does not go on through a field that refers to no type
pub no_lead_on : (schemas : List Schema) (t i : ℕ) (field : Field) (name next : List ℕ) (names : List (List ℕ)) → IsKept schemas DuplicateName → HasField schemas t i field → field.name ≡ name
    → ((u : ℕ) → RefersTo schemas field.kind u → ⊥) → (way : List ℕ) → Leads schemas t (name ∷ next ∷ names) way → ⊥
no_lead_on schemas t i field name next names apart has same none [] leads = leads
no_lead_on schemas t i field name next names apart has same none (j ∷ more) (other, u, again, equal, refers, way) =
    none u (subst (λ (f : Field). RefersTo schemas f.kind u) (same_field schemas t i j field other apart has again (same ∙ sym equal)) refers)

-- the field at a place that was found
pub found_field : (schemas : List Schema) (t i : ℕ) (s : Schema) (fields : List Field) (name : List ℕ) (item : Field) → slice_get schemas t ≡ Some s → fields ≡ fields_of s → TellsField fields name (Some i)
    → item ≡ get_or fields i item → HasField schemas t i item × (item.name ≡ name)
found_field schemas t i s fields name item at own (f, there, same) here =
    let e : item ≡ f = here ∙ get_or_from_slice_get fields i f item there in
    ((s, at, ap (λ x. slice_get x i) (sym own) ∙ there ∙ ap Some (sym e)), ap (λ (x : Field). x.name) e ∙ same)

-- a path has a name
pub some_name : (text : List ℕ) → (name : List ℕ) × (names : List (List ℕ)) × (path_names text ≡ name ∷ names)
some_name text = some_part (count_by (λ b. eqb b 46) text) (path_names text) (length-slice_split (λ b. eqb b 46) text)

-- no chain is too long from a type that a field refers to, where none is from any type
pub none_deep : (schemas : List Schema) → IsKept schemas TooDeep → (kind : FieldKind) (u : ℕ) → RefersTo schemas kind u → HasChain (type_graph schemas) 32 u → ⊥
none_deep schemas kept kind u (name, refers, index) chain =
    let d : Schema = record { name = []; shape = Set [] } in
    kept u (get_or schemas u d, slice_get-get_or schemas u d (type_inside schemas name u index), chain)

-- the names behind the first, whether there are any
pub behind_first : {A : Type 0} (o : Option A) (f : A → List (List ℕ)) (name : List ℕ) (names : List (List ℕ)) → MatchOption o (names ≡ name ∷ []) (λ a. names ≡ name ∷ f a) → (xs : List (List ℕ)) × (names ≡ name ∷ xs)
behind_first None f name names e = ([], e)
behind_first (Some a) f name names e = (f a, e)

-- the last name has none behind it
pub names_last : {A : Type 0} (o : Option A) (f : A → List (List ℕ)) (name : List ℕ) (names : List (List ℕ)) → o ≡ None → MatchOption o (names ≡ name ∷ []) (λ a. names ≡ name ∷ f a) → names ≡ name ∷ []
names_last o f name names e m = MatchOption-at_none (names ≡ name ∷ []) (λ a. names ≡ name ∷ f a) e m

-- another name has those of the rest behind it
pub names_rest : {A : Type 0} (o : Option A) (f : A → List (List ℕ)) (name : List ℕ) (names : List (List ℕ)) (rest : A) → o ≡ Some rest → MatchOption o (names ≡ name ∷ []) (λ a. names ≡ name ∷ f a) → names ≡ name ∷ f rest
names_rest o f name names rest e m = MatchOption-at_some (names ≡ name ∷ []) (λ a. names ≡ name ∷ f a) rest e m

-- what is told of the rest, where there is one
pub rest_told : {A : Type 0} (P : A → Type 0) (o : Option A) (rest : A) → o ≡ Some rest → IfSome o P → P rest
rest_told P o rest e m = subst (λ x. IfSome x P) e m

same_only : (schemas : List Schema) (u : ℕ) (f g : Field) → HasOnlyField schemas u f → HasOnlyField schemas u g → f ≡ g
same_only schemas u f g (s, at, own) (r, there, again) =
    let lists : f ∷ [] ≡ g ∷ [] = sym own ∙ ap fields_of (same_schema schemas u s r at there) ∙ again in cc

-- a field goes on in one way
pub goes_once : (schemas : List Schema) (kind : FieldKind) (p q : List ℕ) → GoesOn schemas kind p → GoesOn schemas kind q → p ≡ q
goes_once schemas kind [] [] a b = refl
goes_once schemas kind [] (j ∷ q) a (v, g, (name, refers, index), has, zeroth, way) = let e : None ≡ Some name = sym a ∙ refers in cc
goes_once schemas kind (i ∷ p) [] (u, f, (name, refers, index), has, zeroth, way) b = let e : None ≡ Some name = sym b ∙ refers in cc
goes_once schemas kind (i ∷ p) (j ∷ q) (u, f, refers, has, zeroth, way) (v, g, again, only, first, other) =
    let types = one_referred schemas kind v u again refers in
    let fields = same_only schemas u g f (subst (λ w. HasOnlyField schemas w g) types only) has in
    let rest = goes_once schemas f.kind p q way (subst (λ (x : Field). GoesOn schemas x.kind q) fields other) in
    ap (λ n. n ∷ p) (zeroth ∙ sym first) ∙ ap (λ xs. j ∷ xs) rest

-- names lead in one way, where no name stands twice
pub leads_once : (schemas : List Schema) → IsKept schemas DuplicateName → (names : List (List ℕ)) (t : ℕ) (p q : List ℕ) → Leads schemas t names p → Leads schemas t names q → p ≡ q
leads_once schemas apart [] t p q a b = absurd a
leads_once schemas apart (name ∷ []) t [] q a b = absurd a
leads_once schemas apart (name ∷ []) t (i ∷ p) [] a b = absurd b
leads_once schemas apart (name ∷ []) t (i ∷ p) (j ∷ q) (f, has, same, way) (g, again, equal, other) =
    let place = one_field schemas t i j f g apart has again (same ∙ sym equal) in
    let fields = same_field schemas t i j f g apart has again (same ∙ sym equal) in
    let rest = goes_once schemas f.kind p q way (subst (λ (x : Field). GoesOn schemas x.kind q) fields other) in
    ap (λ n. n ∷ p) place ∙ ap (λ xs. j ∷ xs) rest
leads_once schemas apart (name ∷ next ∷ names) t [] q a b = absurd a
leads_once schemas apart (name ∷ next ∷ names) t (i ∷ p) [] a b = absurd b
leads_once schemas apart (name ∷ next ∷ names) t (i ∷ p) (j ∷ q) (f, u, has, same, refers, way) (g, v, again, equal, to, other) =
    let place = one_field schemas t i j f g apart has again (same ∙ sym equal) in
    let fields = same_field schemas t i j f g apart has again (same ∙ sym equal) in
    let types = one_referred schemas f.kind v u (subst (λ (x : Field). RefersTo schemas x.kind v) fields to) refers in
    let rest = leads_once schemas apart (next ∷ names) u p q way (subst (λ w. Leads schemas w (next ∷ names) q) types other) in
    ap (λ n. n ∷ p) place ∙ ap (λ xs. j ∷ xs) rest

-- a text resolves to one path
pub one_path : (schemas : List Schema) → IsKept schemas DuplicateName → (t : ℕ) (text : List ℕ) (p q : Path) → Resolves schemas t text p → Resolves schemas t text q → p ≡ q
one_path schemas apart t text p q (begins, leads) (starts, other) =
    let ways = leads_once schemas apart (path_names text) t p.fields q.fields leads other in
    let begin : ℕ → Path = λ n. record { type_index = n; fields = p.fields } in
    let pass : List ℕ → Path = λ fields. record { type_index = q.type_index; fields = fields } in
    ap begin (begins ∙ sym starts) ∙ ap pass ways

-- the path is told exactly where the text resolves to it
pub path_found : (schemas : List Schema) → IsKept schemas DuplicateName → (t : ℕ) (text : List ℕ) (path : Path) (r : Result Path PathFault) → TellsPath schemas t text r → Yields IsFreePath r (Ok path) (Resolves schemas t text path)
path_found schemas apart t text path (Ok p) told = (λ e. let same : p ≡ path = cc in subst (Resolves schemas t text) same told, λ resolves. inl (ap Ok (one_path schemas apart t text p path told resolves)))
path_found schemas apart t text path (Err BadPath) told = (λ e. absurd cc, λ resolves. absurd (told path resolves))
path_found schemas apart t text path (Err Memory) told = (λ e. absurd cc, λ resolves. inr tt)

-- the fault is told exactly where the text does not resolve
pub path_missing : (schemas : List Schema) (t : ℕ) (text : List ℕ) (r : Result Path PathFault) → TellsPath schemas t text r → Yields IsFreePath r (Err BadPath) ((path : Path) → ¬ Resolves schemas t text path)
path_missing schemas t text (Ok p) told = (λ e. absurd cc, λ none. absurd (none p told))
path_missing schemas t text (Err BadPath) told = (λ e. told, λ none. inl refl)
path_missing schemas t text (Err Memory) told = (λ e. absurd cc, λ none. inr tt)

-- what the exit of a `?` tells of a path
pub path_exit : (schemas : List Schema) (t : ℕ) (text : List ℕ) (r : Result Path PathFault) (fault : PathFault) → IsErrAnd r (λ e. e ≡ fault) → TellsFields (Leads schemas t (path_names text)) (Err fault) → TellsPath schemas t text r
path_exit schemas t text (Ok p) fault is told = absurd is
path_exit schemas t text (Err BadPath) fault is told = λ path resolves. (let none = subst (λ e. TellsFields (Leads schemas t (path_names text)) (Err e)) (sym is) told in none path.fields resolves.1)
path_exit schemas t text (Err Memory) fault is told = tt

-- ---- whether these fields are a way

-- no fields follow a field that refers to no type
pub no_way_from : (schemas : List Schema) (kind : FieldKind) (fields : List ℕ) → 1 ≤ length fields → ((u : ℕ) → RefersTo schemas kind u → ⊥) → IsTrue false ↔ GoesOn schemas kind fields
no_way_from schemas kind [] some none = absurd (omega arith)
no_way_from schemas kind (i ∷ more) some none = ((λ e. absurd cc), (λ way. absurd (none way.0 way.2)))

pub no_fields : (schemas : List Schema) (t : ℕ) (names : List (List ℕ)) → Leads schemas t names [] → ⊥
no_fields schemas t [] leads = leads
no_fields schemas t (name ∷ []) leads = leads
no_fields schemas t (name ∷ next ∷ names) leads = leads

-- no fields are no way
pub none_lead : (schemas : List Schema) (t : ℕ) (names : List (List ℕ)) (fields : List ℕ) → length fields < 1 → IsTrue false ↔ Leads schemas t names fields
none_lead schemas t names [] few = ((λ e. absurd cc), (λ leads. absurd (no_fields schemas t names leads)))
none_lead schemas t names (i ∷ more) few = absurd (omega (arith, few))

-- the first field, and those behind it
pub first_and_more : (fields : List ℕ) → 1 ≤ length fields → fields ≡ get_or fields 0 0 ∷ take (length fields - 1) (drop 1 fields)
first_and_more [] some = absurd (omega arith)
first_and_more (i ∷ more) some = ap (λ (rest : List ℕ). i ∷ rest) (sym (take_all (length (i ∷ more) - 1) more (omega arith)))

pub lead_field : (schemas : List Schema) (t i : ℕ) (name : List ℕ) (names : List (List ℕ)) (more : List ℕ) → Leads schemas t (name ∷ names) (i ∷ more) → (field : Field) × HasField schemas t i field × (field.name ≡ name)
lead_field schemas t i name [] more (field, has, same, way) = (field, has, same)
lead_field schemas t i name (next ∷ names) more (field, u, has, same, refers, way) = (field, has, same)

field_at : (schemas : List Schema) (t i : ℕ) (f g : Field) → HasField schemas t i f → HasField schemas t i g → f ≡ g
field_at schemas t i f g (s, at, own) (r, there, again) =
    let e : Some f ≡ Some g = sym own ∙ ap (λ x. slice_get (fields_of x) i) (same_schema schemas t s r at there) ∙ again in cc

-- the type has the field that was looked up
pub has_field : (schemas : List Schema) (t i : ℕ) (s : Schema) (own : List Field) (field : Field) → slice_get schemas t ≡ Some s → own ≡ fields_of s → i < length own → field ≡ get_or own i field → HasField schemas t i field
has_field schemas t i s own field at same inside is = (s, at, ap (λ fs. slice_get fs i) (sym same) ∙ slice_get-get_or own i field inside ∙ ap Some (sym is))

-- where the type has no field at the place, it is no way
pub no_place : (schemas : List Schema) (t i : ℕ) (s : Schema) (own : List Field) (name : List ℕ) (names : List (List ℕ)) (more : List ℕ) → slice_get schemas t ≡ Some s → own ≡ fields_of s → length own ≤ i
    → IsTrue false ↔ Leads schemas t (name ∷ names) (i ∷ more)
no_place schemas t i s own name names more at same past = (
  (λ e. absurd cc),
  (λ leads.
      let (field, (r, there, has), named) = lead_field schemas t i name names more leads in
      let inside = slice_get_within (fields_of r) i field has in
      let long : length own ≡ length (fields_of r) = ap length same ∙ ap (λ x. length (fields_of x)) (same_schema schemas t s r at there) in
      absurd (omega (arith, inside, long, past))),
)

-- where the field has another name, it is no way
pub other_name : (schemas : List Schema) (t i : ℕ) (field : Field) (name : List ℕ) (names : List (List ℕ)) (more : List ℕ) → HasField schemas t i field → (field.name ≡ name → ⊥)
    → IsTrue false ↔ Leads schemas t (name ∷ names) (i ∷ more)
other_name schemas t i field name names more has other = (
  (λ e. absurd cc),
  (λ leads.
      let (found, again, same) = lead_field schemas t i name names more leads in
      absurd (other (ap (λ (f : Field). f.name) (field_at schemas t i field found has again) ∙ same))),
)

-- the last name
pub last_leads : (schemas : List Schema) (t i : ℕ) (field : Field) (name : List ℕ) (more : List ℕ) (r : Bool) → HasField schemas t i field → field.name ≡ name → IsTrue r ↔ GoesOn schemas field.kind more
    → IsTrue r ↔ Leads schemas t (name ∷ []) (i ∷ more)
last_leads schemas t i field name more r has same goes = (
  (λ yes. (field, has, same, goes.0 yes)),
  (λ leads.
      goes.1 (subst (λ (f : Field). GoesOn schemas f.kind more) (field_at schemas t i leads.0 field leads.1 has) leads.3)),
)

-- a name before others
pub next_leads : (schemas : List Schema) (t i u : ℕ) (field : Field) (name next : List ℕ) (names : List (List ℕ)) (more : List ℕ) (r : Bool) → HasField schemas t i field → field.name ≡ name
    → RefersTo schemas field.kind u → IsTrue r ↔ Leads schemas u (next ∷ names) more → IsTrue r ↔ Leads schemas t (name ∷ next ∷ names) (i ∷ more)
next_leads schemas t i u field name next names more r has same refers goes = (
  (λ yes. (field, u, has, same, refers, goes.0 yes)),
  (λ leads.
      let (other, v, again, named, to, way) = leads in
      let types = one_referred schemas field.kind v u (subst (λ (f : Field). RefersTo schemas f.kind v) (field_at schemas t i other field again has) to) refers in
      goes.1 (subst (λ w. Leads schemas w (next ∷ names) more) types way)),
)

-- a name before others, whose field refers to no type
pub none_leads : (schemas : List Schema) (t i : ℕ) (field : Field) (name next : List ℕ) (names : List (List ℕ)) (more : List ℕ) → HasField schemas t i field
    → ((u : ℕ) → RefersTo schemas field.kind u → ⊥) → IsTrue false ↔ Leads schemas t (name ∷ next ∷ names) (i ∷ more)
none_leads schemas t i field name next names more has none = (
  (λ e. absurd cc),
  (λ leads.
      let (other, v, again, named, to, way) = leads in
      absurd (none v (subst (λ (f : Field). RefersTo schemas f.kind v) (field_at schemas t i other field again has) to))),
)

not_false : (x : Bool) → false ≡ not x → x ≡ true
not_false true e = refl
not_false false e = cc

-- what a test of names tells
pub name_differs : (field : Field) (text name : List ℕ) → text ≡ field.name → true ≡ not (bytes_eq text name) → field.name ≡ name → ⊥
name_differs field text name is differs same = let bad : true ≡ false = differs ∙ ap not ((bytes_eq-Decides text name).1 (is ∙ same)) in absurd cc

pub name_agrees : (field : Field) (text name : List ℕ) → text ≡ field.name → false ≡ not (bytes_eq text name) → field.name ≡ name
name_agrees field text name is agrees = sym is ∙ (bytes_eq-Decides text name).0 (not_false (bytes_eq text name) agrees)
