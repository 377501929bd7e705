-- The parts that walk paths lead through: how one goes on, and that there is no other.
use Rattle.std.proofs.Common.{◌≡◌, ℕ, ◌<◌, ◌≤◌, ◌+◌, take, ◌∙◌, sym, ap, subst, refl, List, [], ◌∷◌, ◌++◌, map, Option, Some, None, option_map, length, slice_get, get_or, arith, inl, inr, append_assoc, Result, Ok, Err}
use Rattle.std.specs.Prelude.{IsErrAnd, IsSome, codes}
use Rattle.std.proofs.lemmas.List.{map-append, take_all, take_more}
use Rattle.std.proofs.lemmas.Option.{same_Some}
use Rattle.hol_varint.specs.Yields.{Yields}
use Rattle.schema_model.specs.Ways.{TellsPart, TellsParts, TellsWay}
use Rattle.schema_model.specs.Faults.{IsFreePath, TellsWalk}
use Rattle.schema_model.specs.Model.{IsKept}
use Rattle.schema_model.specs.Parts.{shape_fields}
use Rattle.schema_model.specs.Path.{GoesOn, RefersTo, path_names}
use Rattle.schema_model.specs.WalkPath.{HasPart, LeadsAlong, WalkResolves, WalksOn, part_kind, part_name}
use Rattle.schema_model.specs.declared.model.faults.PathFault.{PathFault}
use Rattle.schema_model.specs.declared.model.faults.PathFault.TheVariants.{BadPath, Memory}
use Rattle.schema_model.specs.declared.model.rule.Rule.TheVariants.{DuplicateName}
use Rattle.schema_model.specs.declared.model.walk_path.WalkPart.{WalkPart}
use Rattle.schema_model.specs.declared.model.walk_path.WalkPart.TheVariants.{Field as FieldPart, Element, MapKey, MapValue}
use Rattle.schema_model.specs.declared.model.walk_path.WalkPath.{WalkPath}
use Rattle.schema_model.specs.declared.schema.Field.{Field}
use Rattle.schema_model.specs.declared.schema.FieldKind.{FieldKind}
use Rattle.schema_model.specs.declared.schema.Schema.{Schema}
use Rattle.schema_model.specs.declared.schema.Shape.{Shape}
use Rattle.schema_model.specs.declared.schema.Shape.TheVariants.{Object, Set, List as ListShape, Map}
use Rattle.schema_model.proofs.BrokenRules.{same_schema}
use Rattle.schema_model.proofs.Ways.{goes_once, one_field, one_referred}

-- ---- a name is of one part

of_field : (o : Option Field) (name : List ℕ) → option_map (λ (f : Field). f.name) o ≡ Some name → (f : Field) × (o ≡ Some f) × (f.name ≡ name)
of_field None name is = absurd cc
of_field (Some f) name is = (f, refl, same_Some _ _ is)

module _ (name : List ℕ) where
  field_part : (key : Option (List (List ℕ))) (fields : List Field) → ((i j : ℕ) (f g : Field) → slice_get fields i ≡ Some f → slice_get fields j ≡ Some g → f.name ≡ g.name → i ≡ j)
      → (i : ℕ) (q : WalkPart) → part_name (Object key fields) (FieldPart i) ≡ Some name → part_name (Object key fields) q ≡ Some name → FieldPart i ≡ q
  field_part key fields once i (FieldPart j) first second =
      let f = of_field (slice_get fields i) name first in
      let g = of_field (slice_get fields j) name second in
      ap FieldPart (once i j f.0 g.0 f.1 g.1 (f.2 ∙ sym g.2))
  field_part key fields once i Element first second = absurd cc
  field_part key fields once i MapKey first second = absurd cc
  field_part key fields once i MapValue first second = absurd cc

  set_part : (element : List ℕ) (p q : WalkPart) → part_name (Set element) p ≡ Some name → part_name (Set element) q ≡ Some name → p ≡ q
  set_part element Element Element first second = refl
  set_part element Element (FieldPart j) first second = absurd cc
  set_part element Element MapKey first second = absurd cc
  set_part element Element MapValue first second = absurd cc
  set_part element (FieldPart i) q first second = absurd cc
  set_part element MapKey q first second = absurd cc
  set_part element MapValue q first second = absurd cc

  list_part : (element : List ℕ) (p q : WalkPart) → part_name (ListShape element) p ≡ Some name → part_name (ListShape element) q ≡ Some name → p ≡ q
  list_part element Element Element first second = refl
  list_part element Element (FieldPart j) first second = absurd cc
  list_part element Element MapKey first second = absurd cc
  list_part element Element MapValue first second = absurd cc
  list_part element (FieldPart i) q first second = absurd cc
  list_part element MapKey q first second = absurd cc
  list_part element MapValue q first second = absurd cc

  -- `key` is not `value`
  words_apart : Some (codes "key") ≡ Some name → Some (codes "value") ≡ Some name → ⊥
  words_apart first second =
      let same : codes "key" ≡ codes "value" = same_Some _ _ (first ∙ sym second) in
      let letter : get_or (codes "key") 0 0 ≡ get_or (codes "value") 0 0 = ap (λ text. get_or text 0 0) same in omega (arith, letter)

  map_part : (key value : List ℕ) (p q : WalkPart) → part_name (Map key value) p ≡ Some name → part_name (Map key value) q ≡ Some name → p ≡ q
  map_part key value MapKey MapKey first second = refl
  map_part key value MapKey MapValue first second = absurd (words_apart first second)
  map_part key value MapKey (FieldPart j) first second = absurd cc
  map_part key value MapKey Element first second = absurd cc
  map_part key value MapValue MapValue first second = refl
  map_part key value MapValue MapKey first second = absurd (words_apart second first)
  map_part key value MapValue (FieldPart j) first second = absurd cc
  map_part key value MapValue Element first second = absurd cc
  map_part key value (FieldPart i) q first second = absurd cc
  map_part key value Element q first second = absurd cc

  shape_part : (shape : Shape) → ((i j : ℕ) (f g : Field) → slice_get (shape_fields shape) i ≡ Some f → slice_get (shape_fields shape) j ≡ Some g → f.name ≡ g.name → i ≡ j)
      → (p q : WalkPart) → part_name shape p ≡ Some name → part_name shape q ≡ Some name → p ≡ q
  shape_part (Object key fields) once (FieldPart i) q first second = field_part key fields once i q first second
  shape_part (Object key fields) once Element q first second = absurd cc
  shape_part (Object key fields) once MapKey q first second = absurd cc
  shape_part (Object key fields) once MapValue q first second = absurd cc
  shape_part (Set element) once p q first second = set_part element p q first second
  shape_part (ListShape element) once p q first second = list_part element p q first second
  shape_part (Map key value) once p q first second = map_part key value p q first second

-- what is named so is one part, and one thing stands there
pub one_part : (schemas : List Schema) (t : ℕ) (name : List ℕ) (p q : WalkPart) (kind other : FieldKind) → IsKept schemas DuplicateName
    → HasPart schemas t name p kind → HasPart schemas t name q other → (p ≡ q) × (kind ≡ other)
one_part schemas t name p q kind other apart a b =
    let same : a.schema ≡ b.schema = same_schema schemas t a.schema b.schema a.at b.at in
    let part : p ≡ q = shape_part name a.schema.shape
    (λ i j f g first second names. one_field schemas t i j f g apart (a.schema, a.at, first) (a.schema, a.at, second) names)
    p q a.named (subst (λ (s : Schema). part_name s.shape q ≡ Some name) (sym same) b.named) in
    (part, same_Some _ _ (sym a.holds ∙ (λ i. part_kind (same i).shape (part i)) ∙ b.holds))

-- where a part is named, something stands there
kind_of_field : (o : Option Field) (name : List ℕ) → option_map (λ (f : Field). f.name) o ≡ Some name → IsSome (option_map (λ (f : Field). f.kind) o)
kind_of_field None name is = absurd cc
kind_of_field (Some f) name is = refl

pub kind_there : (shape : Shape) (part : WalkPart) (name : List ℕ) → part_name shape part ≡ Some name → IsSome (part_kind shape part)
kind_there (Object key fields) (FieldPart i) name is = kind_of_field (slice_get fields i) name is
kind_there (Object key fields) Element name is = absurd cc
kind_there (Object key fields) MapKey name is = absurd cc
kind_there (Object key fields) MapValue name is = absurd cc
kind_there (Set element) Element name is = refl
kind_there (Set element) (FieldPart i) name is = absurd cc
kind_there (Set element) MapKey name is = absurd cc
kind_there (Set element) MapValue name is = absurd cc
kind_there (ListShape element) Element name is = refl
kind_there (ListShape element) (FieldPart i) name is = absurd cc
kind_there (ListShape element) MapKey name is = absurd cc
kind_there (ListShape element) MapValue name is = absurd cc
kind_there (Map key value) MapKey name is = refl
kind_there (Map key value) MapValue name is = refl
kind_there (Map key value) (FieldPart i) name is = absurd cc
kind_there (Map key value) Element name is = absurd cc

-- ---- how a walk goes on

fields_once : (xs ys : List ℕ) → map FieldPart xs ≡ map FieldPart ys → xs ≡ ys
fields_once [] [] same = refl
fields_once [] (y ∷ ys) same = absurd cc
fields_once (x ∷ xs) [] same = absurd cc
fields_once (x ∷ xs) (y ∷ ys) same =
    let first : FieldPart x ≡ FieldPart y = cc in
    let head : x ≡ y = cc in
    let rest : map FieldPart xs ≡ map FieldPart ys = cc in
    ap (λ n. n ∷ xs) head ∙ ap (λ zs. y ∷ zs) (fields_once xs ys rest)

walks_once : (schemas : List Schema) (kind : FieldKind) (p q : List WalkPart) → WalksOn schemas kind p → WalksOn schemas kind q → p ≡ q
walks_once schemas kind p q (xs, is_p, goes) (ys, is_q, again) = is_p ∙ ap (map FieldPart) (goes_once schemas kind xs ys goes again) ∙ sym is_q

-- names lead along one way, where no name stands twice
pub walk_once : (schemas : List Schema) → IsKept schemas DuplicateName → (names : List (List ℕ)) (t : ℕ) (p q : List WalkPart) → LeadsAlong schemas t names p → LeadsAlong schemas t names q → p ≡ q
walk_once schemas apart [] t p q a b = absurd a
walk_once schemas apart (name ∷ []) t [] q a b = absurd a
walk_once schemas apart (name ∷ next ∷ names) t [] q a b = absurd a
walk_once schemas apart (name ∷ []) t (i ∷ p) [] a b = absurd b
walk_once schemas apart (name ∷ next ∷ names) t (i ∷ p) [] a b = absurd b
walk_once schemas apart (name ∷ []) t (i ∷ p) (j ∷ q) (kind, has, on) (other, again, more) =
    let one = one_part schemas t name i j kind other apart has again in
    ap (λ part. part ∷ p) one.0 ∙ ap (λ rest. j ∷ rest) (walks_once schemas other p q (subst (λ k. WalksOn schemas k p) one.1 on) more)
walk_once schemas apart (name ∷ next ∷ names) t (i ∷ p) (j ∷ q) (kind, u, has, refers, on) (other, v, again, to, more) =
    let one = one_part schemas t name i j kind other apart has again in
    let types : u ≡ v = one_referred schemas other u v (subst (λ k. RefersTo schemas k u) one.1 refers) to in
    ap (λ part. part ∷ p) one.0 ∙ ap (λ rest. j ∷ rest) (walk_once schemas apart (next ∷ names) v p q (subst (λ w. LeadsAlong schemas w (next ∷ names) p) types on) more)

last_none : (schemas : List Schema) (t : ℕ) (part : WalkPart) (kind : FieldKind) (name : List ℕ) → IsKept schemas DuplicateName → HasPart schemas t name part kind
    → ((more : List WalkPart) → WalksOn schemas kind more → ⊥) → (way : List WalkPart) → LeadsAlong schemas t (name ∷ []) way → ⊥
last_none schemas t part kind name apart has none [] leads = leads
last_none schemas t part kind name apart has none (j ∷ more) (other, again, on) =
    none more (subst (λ k. WalksOn schemas k more) (sym (one_part schemas t name part j kind other apart has again).1) on)

next_none : (schemas : List Schema) (t u : ℕ) (part : WalkPart) (kind : FieldKind) (name next : List ℕ) (names : List (List ℕ)) → IsKept schemas DuplicateName → HasPart schemas t name part kind
    → RefersTo schemas kind u → ((more : List WalkPart) → LeadsAlong schemas u (next ∷ names) more → ⊥) → (way : List WalkPart) → LeadsAlong schemas t (name ∷ next ∷ names) way → ⊥
next_none schemas t u part kind name next names apart has refers none [] leads = leads
next_none schemas t u part kind name next names apart has refers none (j ∷ more) (other, v, again, to, on) =
    let one = one_part schemas t name part j kind other apart has again in
    let types : v ≡ u = one_referred schemas kind v u (subst (λ k. RefersTo schemas k v) (sym one.1) to) refers in
    none more (subst (λ w. LeadsAlong schemas w (next ∷ names) more) types on)

-- no walk goes through a name that no part has
pub no_walk_name : (schemas : List Schema) (t : ℕ) (s : Schema) (name : List ℕ) (names : List (List ℕ)) → slice_get schemas t ≡ Some s → TellsPart s.shape name None
    → (way : List WalkPart) → LeadsAlong schemas t (name ∷ names) way → ⊥
no_walk_name schemas t s name [] at none [] leads = leads
no_walk_name schemas t s name (next ∷ names) at none [] leads = leads
no_walk_name schemas t s name [] at none (j ∷ more) (kind, has, on) = none j (ap (λ (r : Schema). part_name r.shape j) (same_schema schemas t s has.schema at has.at) ∙ has.named)
no_walk_name schemas t s name (next ∷ names) at none (j ∷ more) (kind, u, has, refers, on) =
    none j (ap (λ (r : Schema). part_name r.shape j) (same_schema schemas t s has.schema at has.at) ∙ has.named)

-- no walk goes on behind a part that refers to no type
pub no_walk_on : (schemas : List Schema) (t : ℕ) (part : WalkPart) (kind : FieldKind) (name next : List ℕ) (names : List (List ℕ)) → IsKept schemas DuplicateName → HasPart schemas t name part kind
    → ((u : ℕ) → RefersTo schemas kind u → ⊥) → (way : List WalkPart) → LeadsAlong schemas t (name ∷ next ∷ names) way → ⊥
no_walk_on schemas t part kind name next names apart has none [] leads = leads
no_walk_on schemas t part kind name next names apart has none (j ∷ more) (other, u, again, refers, on) =
    none u (subst (λ k. RefersTo schemas k u) (sym (one_part schemas t name part j kind other apart has again).1) refers)

-- ---- what was added

-- the last name of a walk path
pub walk_last : (schemas : List Schema) (t : ℕ) (part : WalkPart) (kind : FieldKind) (name : List ℕ) (old mid new : List WalkPart) (r : Result (Unit {0}) PathFault) → IsKept schemas DuplicateName
    → HasPart schemas t name part kind → mid ≡ old ++ part ∷ [] → TellsWay (WalksOn schemas kind) mid new r → TellsWay (LeadsAlong schemas t (name ∷ [])) old new r
walk_last schemas t part kind name old mid new (Ok x) apart has front (more, added, on) =
    (part ∷ more, added ∙ ap (λ xs. xs ++ more) front ∙ append_assoc old (part ∷ []) more, (kind, has, on))
walk_last schemas t part kind name old mid new (Err BadPath) apart has front none = last_none schemas t part kind name apart has none
walk_last schemas t part kind name old mid new (Err Memory) apart has front none = tt

-- a name of a walk path before others
pub walk_next : (schemas : List Schema) (t u : ℕ) (part : WalkPart) (kind : FieldKind) (name next : List ℕ) (names : List (List ℕ)) (old mid new : List WalkPart) (r : Result (Unit {0}) PathFault)
    → IsKept schemas DuplicateName → HasPart schemas t name part kind → RefersTo schemas kind u → mid ≡ old ++ part ∷ []
    → TellsWay (LeadsAlong schemas u (next ∷ names)) mid new r → TellsWay (LeadsAlong schemas t (name ∷ next ∷ names)) old new r
walk_next schemas t u part kind name next names old mid new (Ok x) apart has refers front (more, added, on) =
    (part ∷ more, added ∙ ap (λ xs. xs ++ more) front ∙ append_assoc old (part ∷ []) more, (kind, u, has, refers, on))
walk_next schemas t u part kind name next names old mid new (Err BadPath) apart has refers front none = next_none schemas t u part kind name next names apart has refers none
walk_next schemas t u part kind name next names old mid new (Err Memory) apart has refers front none = tt

-- one field more is added as a part
pub field_pushed : (fields : List ℕ) (i d : ℕ) (old mid new : List WalkPart) → i < length fields → mid ≡ old ++ map FieldPart (take i fields)
    → new ≡ mid ++ FieldPart (get_or fields i d) ∷ [] → new ≡ old ++ map FieldPart (take (i + 1) fields)
field_pushed fields i d old mid new inside front last =
    last ∙ ap (λ xs. xs ++ FieldPart (get_or fields i d) ∷ []) front ∙ append_assoc old (map FieldPart (take i fields)) (FieldPart (get_or fields i d) ∷ [])
    ∙ ap (λ xs. old ++ xs) (sym (ap (map FieldPart) (take_more fields i d inside) ∙ map-append FieldPart (take i fields) (get_or fields i d ∷ [])))

-- all fields are added
pub fields_pushed : (schemas : List Schema) (kind : FieldKind) (start fields items : List ℕ) (i : ℕ) (old new : List WalkPart) → start ≡ [] → items ≡ fields → length items ≤ i
    → new ≡ old ++ map FieldPart (take i items) → TellsWay {I = ℕ} {T = Unit {0}} (GoesOn schemas kind) start fields (Ok tt) → TellsWay {I = WalkPart} {T = Unit {0}} (WalksOn schemas kind) old new (Ok tt)
fields_pushed schemas kind start fields items i old new empty same done is (xs, added, goes) =
    (map FieldPart items, is ∙ ap (λ ns. old ++ map FieldPart ns) (take_all i items done), (items, refl, subst (GoesOn schemas kind) (sym (same ∙ added ∙ ap (λ ns. ns ++ xs) empty)) goes))

-- what the exit of a `?` tells of what goes on
pub on_exit : (schemas : List Schema) (kind : FieldKind) (start fields : List ℕ) (old new : List WalkPart) (r : Result (Unit {0}) PathFault) (fault : PathFault) → IsErrAnd r (λ e. e ≡ fault)
    → TellsWay {I = ℕ} {T = Unit {0}} (GoesOn schemas kind) start fields (Err fault) → TellsWay (WalksOn schemas kind) old new r
on_exit schemas kind start fields old new (Ok x) fault is told = absurd is
on_exit schemas kind start fields old new (Err BadPath) fault is told =
    λ more on. (let none = subst (λ e. TellsWay {I = ℕ} {T = Unit {0}} (GoesOn schemas kind) start fields (Err e)) (sym is) told in none on.0 on.2)
on_exit schemas kind start fields old new (Err Memory) fault is told = tt

-- ---- a text

-- a text resolves to one walk path
one_walk : (schemas : List Schema) → IsKept schemas DuplicateName → (t : ℕ) (text : List ℕ) (p q : WalkPath) → WalkResolves schemas t text p → WalkResolves schemas t text q → p ≡ q
one_walk schemas apart t text p q (begins, leads) (starts, other) =
    let ways = walk_once schemas apart (path_names text) t p.parts q.parts leads other in
    let begin : ℕ → WalkPath = λ n. record { type_index = n; parts = p.parts } in
    let pass : List WalkPart → WalkPath = λ parts. record { type_index = q.type_index; parts = parts } in
    ap begin (begins ∙ sym starts) ∙ ap pass ways

-- the walk path is told exactly where the text resolves to it
pub walk_found : (schemas : List Schema) → IsKept schemas DuplicateName → (t : ℕ) (text : List ℕ) (path : WalkPath) (r : Result WalkPath PathFault) → TellsWalk schemas t text r
    → Yields IsFreePath r (Ok path) (WalkResolves schemas t text path)
walk_found schemas apart t text path (Ok p) told = (λ e. let same : p ≡ path = cc in subst (WalkResolves schemas t text) same told, λ resolves. inl (ap Ok (one_walk schemas apart t text p path told resolves)))
walk_found schemas apart t text path (Err BadPath) told = (λ e. absurd cc, λ resolves. absurd (told path resolves))
walk_found schemas apart t text path (Err Memory) told = (λ e. absurd cc, λ resolves. inr tt)

-- the fault is told exactly where the text does not resolve
pub walk_missing : (schemas : List Schema) (t : ℕ) (text : List ℕ) (r : Result WalkPath PathFault) → TellsWalk schemas t text r → Yields IsFreePath r (Err BadPath) ((path : WalkPath) → ¬ WalkResolves schemas t text path)
walk_missing schemas t text (Ok p) told = (λ e. absurd cc, λ none. absurd (none p told))
walk_missing schemas t text (Err BadPath) told = (λ e. told, λ none. inl refl)
walk_missing schemas t text (Err Memory) told = (λ e. absurd cc, λ none. inr tt)

-- what the exit of a `?` tells of a walk path
pub walk_exit : (schemas : List Schema) (t : ℕ) (text : List ℕ) (r : Result WalkPath PathFault) (fault : PathFault) → IsErrAnd r (λ e. e ≡ fault) → TellsParts (LeadsAlong schemas t (path_names text)) (Err fault)
    → TellsWalk schemas t text r
walk_exit schemas t text (Ok p) fault is told = absurd is
walk_exit schemas t text (Err BadPath) fault is told = λ path resolves. (let none = subst (λ e. TellsParts (LeadsAlong schemas t (path_names text)) (Err e)) (sym is) told in none path.parts resolves.1)
walk_exit schemas t text (Err Memory) fault is told = tt
