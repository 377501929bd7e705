-- The kept index that the texts of a key name.
use Rattle.std.proofs.Common.{◌≡◌, ◌∙◌, ◌+◌, ◌<◌, ◌≤◌, ℕ, suc, List, [], ◌∷◌, ◌++◌, length, take, get_or, Option, Some, None, Result, Ok, Err, IfOk, refl, sym, ap, subst, arith}
use Rattle.std.specs.Prelude.{All, IsSomeAnd, slice_get}
use Rattle.std.proofs.lemmas.List.{take_all, take_more}
use Rattle.std.proofs.lemmas.Slice.Zip.{all_zipped_more}
use Rattle.serde_json.specs.Data.{Data}
use Rattle.serde_json.specs.View.{items_view, view}
use Rattle.serde_json.specs.declared.value.Value.{Value}
use Rattle.schema_model.specs.declared.model.path.Path.{Path}
use Rattle.schema_model.specs.declared.schema.Field.{Field}
use Rattle.schema_model.specs.declared.schema.Schema.{Schema}
use Rattle.schema_model.specs.declared.schema.Shape.{Shape}
use Rattle.schema_model.specs.Parts.{shape_fields}
use Rattle.schema_model.specs.Path.{Leads, Resolves}
use Rattle.schema_model.proofs.Ways.{lead_field, no_fields, some_name}
use Rattle.row_model.specs.Key.{IsResolved}
use Rattle.read_engine.specs.Indexes.{index_by}
use Rattle.read_engine.specs.Position.{Position}
use Rattle.hol_answers.specs.declared.refusal.Refusal.TheVariants.{BadKey, NoIndex}
use Rattle.hollow_machine.specs.KeyPaths.{AreKeyPaths, HasShape, IsObject, key_texts, text_in, texts_in}
use Rattle.consumer_orders.specs.Named.{AreNamed, IsNamedIndex, NamesPath}
use Rattle.consumer_orders.specs.Sought.{TellsAlong, TellsFound}
use Rattle.consumer_orders.specs.declared.look_up.Found.{Found}
use Rattle.consumer_orders.specs.declared.look_up.Found.TheVariants as found
use Rattle.consumer_orders.proofs.KeyTexts.{texts_push}
use Rattle.consumer_orders.proofs.KeyWays.{AllResolve, all_resolved}
use Rattle.consumer_orders.proofs.LookingUp.{in_list}

-- ---- what the texts of a named index tell of its type

shape_object : (shape : Shape) (i : ℕ) (field : Field) → slice_get (shape_fields shape) i ≡ Some field → IsObject shape
shape_object (Shape.Object key fields) i field at = tt
shape_object (Shape.Set element) i field at = absurd cc
shape_object (Shape.List element) i field at = absurd cc
shape_object (Shape.Map key value) i field at = absurd cc

leads_object : (schemas : List Schema) (t : ℕ) (name : List ℕ) (names : List (List ℕ)) (fields : List ℕ) → Leads schemas t (name ∷ names) fields → HasShape IsObject schemas t
leads_object schemas t name names [] leads = absurd (no_fields schemas t (name ∷ names) leads)
leads_object schemas t name names (i ∷ more) leads =
    let (field, (s, at, own), same) = lead_field schemas t i name names more leads in
    subst (λ (o : Option Schema). IsSomeAnd o (λ schema. IsObject schema.shape)) (sym at) (shape_object s.shape i field own)

resolves_object : (schemas : List Schema) (t : ℕ) (text : List ℕ) (path : Path) → Resolves schemas t text path → HasShape IsObject schemas t
resolves_object schemas t text path (begins, leads) =
    let (name, names, some) = some_name text in
    leads_object schemas t name names path.fields (subst (λ ns. Leads schemas t ns path.fields) some leads)

own_texts : (o : Option Schema) (text : List ℕ) (texts : List (List ℕ)) → IsSomeAnd o (λ schema. IsObject schema.shape) → IsSomeAnd o (λ schema. key_texts schema.shape (text ∷ texts) ≡ Some (text ∷ texts))
own_texts None text texts is = absurd is
own_texts (Some schema) text texts is = refl

named_key : (schemas : List Schema) (t : ℕ) (texts : List (List ℕ)) (paths : List Path) → AreNamed schemas t texts paths → HasShape IsObject schemas t × AreKeyPaths schemas t texts paths
named_key schemas t [] paths (some, zip) = absurd (omega (arith, some))
named_key schemas t (text ∷ texts) [] (some, zip) = absurd zip
named_key schemas t (text ∷ texts) (path ∷ paths) (some, zip) =
    let shape = resolves_object schemas t text path zip.0 in
    (shape, (text ∷ texts, own_texts (slice_get schemas t) text texts shape, zip))

-- ---- what a look-up in it tells

named_tells : (now : Position) (name : List ℕ) (texts : List (List ℕ)) (json : Data) (t number : ℕ) (paths : List Path) (r : Found) → IsNamedIndex t texts number paths now → TellsAlong paths json now t r
    → TellsFound name texts json now t r
named_tells now name texts json t number paths (found.Ordinals ordinals) (at, named) tells =
    let key = named_key now.schemas t texts paths named in
    (paths, (key.0, key.1, tells.0), tells.1)
named_tells now name texts json t number paths (found.Refused NoIndex) (at, named) tells = absurd (tells (in_list now.indexes number (index_by t paths) at))
named_tells now name texts json t number paths (found.Refused BadKey) (at, named) tells =
    let key = named_key now.schemas t texts paths named in
    (paths, (key.0, key.1, tells.0), tells.1)
named_tells now name texts json t number paths (found.Refused _) (at, named) tells = absurd tells

-- What a look-up in the named index tells is what the look-up tells.
pub named_found : (E : Type 0) (consumer : Option Position) (name : List ℕ) (texts : List (List ℕ)) (json : Data) (t number : ℕ) (paths : List Path) (r : Result Found E) → IsSomeAnd consumer (IsNamedIndex t texts number paths)
    → IfOk r (λ f. IsSomeAnd consumer (λ now. TellsAlong paths json now t f)) → IfOk r (λ f. IsSomeAnd consumer (λ now. TellsFound name texts json now t f))
named_found E consumer name texts json t number paths (Err e) is tells = tt
named_found E None name texts json t number paths (Ok f) is tells = absurd is
named_found E (Some now) name texts json t number paths (Ok f) is tells = named_tells now name texts json t number paths f is tells

-- Its paths are resolved.
pub named_resolved : (consumer : Option Position) (schemas : List Schema) (t number : ℕ) (texts : List (List ℕ)) (paths : List Path) → IsSomeAnd consumer (λ now. now.schemas ≡ schemas)
    → IsSomeAnd consumer (IsNamedIndex t texts number paths) → All (IsResolved schemas t) paths
named_resolved None schemas t number texts paths same is = absurd same
named_resolved (Some now) schemas t number texts paths same is = subst (λ (s : List Schema). All (IsResolved s t) paths) same (all_resolved now.schemas t texts paths is.1.1)

pub named_kept : (consumer : Option Position) (t number : ℕ) (texts : List (List ℕ)) (paths : List Path) → IsSomeAnd consumer (IsNamedIndex t texts number paths)
    → IsSomeAnd consumer (λ now. slice_get now.indexes number ≡ Some (index_by t paths))
named_kept None t number texts paths is = absurd is
named_kept (Some now) t number texts paths is = is.0

-- ---- that it is named

pub is_named_index : (consumer : Option Position) (schemas : List Schema) (t kept number : ℕ) (texts : List (List ℕ)) (paths : List Path) → IsSomeAnd consumer (λ now. now.schemas ≡ schemas)
    → IsSomeAnd consumer (λ now. slice_get now.indexes number ≡ Some (index_by kept paths)) → kept ≡ t → AreNamed schemas t texts paths → IsSomeAnd consumer (IsNamedIndex t texts number paths)
is_named_index None schemas t kept number texts paths same at is named = absurd same
is_named_index (Some now) schemas t kept number texts paths same at is named = (
  at ∙ ap (λ u. Some (index_by u paths)) is,
  subst (λ (s : List Schema). AreNamed s t texts paths) (sym same) named,
)

-- One text more resolves to its path.
pub named_more : (schemas : List Schema) (t : ℕ) (values : List Value) (paths : List Path) (place : ℕ) (value : Value) (path : Path) → place < length values → length values ≡ length paths → value ≡ get_or values place value
    → path ≡ get_or paths place path → AllResolve schemas t (texts_in (items_view (take place values))) (take place paths) → NamesPath schemas t (text_in (view value)) path
    → AllResolve schemas t (texts_in (items_view (take (place + 1) values))) (take (place + 1) paths)
named_more schemas t values paths place value path inside long is_value is_path so_far (text, one, resolves) =
    let texts = ap (λ vs. texts_in (items_view vs)) (take_more values place value inside ∙ ap (λ v. take place values ++ v ∷ []) (sym is_value)) ∙ texts_push (take place values) value ∙ ap (λ ts. texts_in (items_view (take place values)) ++ ts) one in
    let ends = take_more paths place path (omega (arith, inside, long)) ∙ ap (λ (p : Path). take place paths ++ p ∷ []) (sym is_path) in
    subst (λ (ts : List (List ℕ)). AllResolve schemas t ts (take (place + 1) paths)) (sym texts)
    (subst (λ (ps : List Path). AllResolve schemas t (texts_in (items_view (take place values)) ++ text ∷ []) ps) (sym ends)
    (all_zipped_more (λ text path. Resolves schemas t text path) (texts_in (items_view (take place values))) (take place paths) text path so_far resolves))

as_long : (schemas : List Schema) (t : ℕ) (texts : List (List ℕ)) (paths : List Path) → AllResolve schemas t texts paths → length texts ≡ length paths
as_long schemas t [] [] zip = refl
as_long schemas t [] (path ∷ paths) zip = absurd zip
as_long schemas t (text ∷ texts) [] zip = absurd zip
as_long schemas t (text ∷ texts) (path ∷ paths) zip = ap suc (as_long schemas t texts paths zip.1)

-- Behind all texts they are named.
pub all_named : (schemas : List Schema) (t : ℕ) (values : List Value) (paths : List Path) (place : ℕ) → length values ≤ place → length values ≡ length paths → 0 < length values
    → AllResolve schemas t (texts_in (items_view (take place values))) (take place paths) → AreNamed schemas t (texts_in (items_view values)) paths
all_named schemas t values paths place past long some so_far =
    let texts = subst (λ (vs : List Value). AllResolve schemas t (texts_in (items_view vs)) (take place paths)) (take_all place values past) so_far in
    let zip = subst (λ (ps : List Path). AllResolve schemas t (texts_in (items_view values)) ps) (take_all place paths (omega (arith, past, long))) texts in
    (omega (arith, some, long, as_long schemas t (texts_in (items_view values)) paths zip), zip)
