-- What rows reach by one part and then along the rest.
use Rattle.std.proofs.Common.{take, drop, true, false, ◌==◌, ◌-◌, ◌≤◌, Result, Ok, Err, IfOk, ◌≡◌, ◌↔◌, ℕ, suc, ◌∙◌, refl, sym, ap, subst, inl, inr, arith, List, [], ◌∷◌, ◌++◌, Option, Some, None, length, map, get_or}
use Rattle.std.specs.Prelude.{◌≢◌, All, AllPairs, Contains, IsSomeAnd, option_and_then, option_map, slice_get}
use Rattle.std.specs.List.{flat_map}
use Rattle.std.specs.Option.{option_to_list}
use borrow.Author.Tests.{eqb-true}
use Rattle.std.proofs.lemmas.List.{take_all}
use Rattle.std.proofs.lemmas.List.Elements.{Contains-get_or}
use Rattle.schema_model.specs.Parts.{fields_of, shape_fields}
use Rattle.schema_model.specs.WalkPath.{part_kind}
use Rattle.schema_model.specs.declared.model.walk_path.WalkPart.{WalkPart}
use Rattle.schema_model.specs.declared.model.walk_path.WalkPart.TheVariants.{Field as FieldPart, Element, MapKey, MapValue}
use Rattle.schema_model.specs.declared.schema.FieldKind.{FieldKind}
use Rattle.schema_model.specs.declared.schema.Schema.{Schema}
use Rattle.schema_model.specs.declared.schema.Shape.{Shape}
use Rattle.row_model.specs.declared.row.Row.{Row}
use Rattle.row_model.specs.declared.row.Value.{Value}
use Rattle.row_model.specs.Key.{ordinal_in, target_of, unless_null, value_in}
use Rattle.row_model.specs.Reach.{Reach, named_by, type_by}
use Rattle.row_model.specs.Row.{FitsShape, references_of_row}
use Rattle.row_model.specs.Table.{IsClosed, IsLive, IsLiveByName, IsTableOf, Table, row_at}
use Rattle.key_index.proofs.KeptKeys.{named_live}
use Rattle.key_index.proofs.Lists.{contains_either, contains_first, contains_none}
use Rattle.hol_paths.specs.Reached.{AreNamed, AreOnceOf, AreReached, AreReachedFrom, named_at, named_in, values_by}
use Rattle.hol_paths.proofs.Pieces.{from_pieces, in_pieces}

-- what an option holds
module _ {A : Type 0} where
  pub in_option : (found : Option A) (x : A) → found ≡ Some x → Contains (option_to_list found) x
  in_option None x is = absurd cc
  in_option (Some y) x is = let same : y ≡ x = cc in contains_first y x [] same

  pub from_option : (found : Option A) (x : A) → Contains (option_to_list found) x → found ≡ Some x
  from_option None x h = absurd (contains_none x h)
  from_option (Some y) x h = elim (contains_either y x [] h) [ inl e ↦ ap Some e | inr none ↦ absurd (contains_none x none) ]

module _ (schemas : List Schema) (table : Table) where
  -- ---- the last part

  pub last_part : (t o : ℕ) (part : WalkPart) (v : Value) → Reach schemas table t (part ∷ []) o v ↔ Contains (values_by table t part o) v
  last_part t o (FieldPart i) v = (in_option (unless_null (value_in (row_at table t o) i)) v, from_option (unless_null (value_in (row_at table t o) i)) v)
  last_part t o Element v = ((λ h. absurd h), (λ h. absurd (contains_none v h)))
  last_part t o MapKey v = ((λ h. absurd h), (λ h. absurd (contains_none v h)))
  last_part t o MapValue v = ((λ h. absurd h), (λ h. absurd (contains_none v h)))

  pub last_reached : (t : ℕ) (part : WalkPart) (level : List ℕ) (values : List Value) → AreOnceOf (flat_map (values_by table t part) level) values → AreReachedFrom schemas table t (part ∷ []) level values
  last_reached t part level values once = record {
    once = once.apart;
    are = λ v. (
      (λ h. let piece = from_pieces (values_by table t part) v level ((once.same v).0 h) in (piece.0, piece.1, (last_part t piece.0 part v).1 piece.2)),
      (λ h. (once.same v).1 (in_pieces (values_by table t part) v level h.0 h.1 ((last_part t h.0 part v).0 h.2))),
    );
  }

  -- ---- a part before others

  module _ (t u : ℕ) (next : WalkPart) (rest : List WalkPart) (v : Value) where
    abbrev pub Goes : WalkPart → ℕ → Type 0
    Goes part o = (w : ℕ) × (row : Row) × (named : ℕ) × (type_by schemas t part ≡ Some w) × (row_at table t o ≡ Some row) × Contains (named_by part row) named × Reach schemas table w (next ∷ rest) named v

    pub goes : (part : WalkPart) (o : ℕ) → Reach schemas table t (part ∷ next ∷ rest) o v ↔ Goes part o
    goes (FieldPart i) o = ((λ h. h), (λ h. h))
    goes Element o = ((λ h. h), (λ h. h))
    goes MapKey o = ((λ h. h), (λ h. h))
    goes MapValue o = ((λ h. h), (λ h. h))

    pub steps_on : (part : WalkPart) (o : ℕ) → type_by schemas t part ≡ Some u → Reach schemas table t (part ∷ next ∷ rest) o v → (n : ℕ) × Contains (named_at table t part o) n × Reach schemas table u (next ∷ rest) n v
    steps_on part o leads reach =
        let h = (goes part o).0 reach in
        let same : h.0 ≡ u = some_same h.0 u (sym h.3 ∙ leads) in
        (h.2, subst (λ (r : Option Row). Contains (named_in part r) h.2) (sym h.4) h.5, subst (λ w. Reach schemas table w (next ∷ rest) h.2 v) same h.6)
      where
        some_same : (a b : ℕ) → ◌≡◌ {A = Option ℕ} (Some a) (Some b) → a ≡ b
        some_same a b e = cc

    pub comes_from : (part : WalkPart) (o n : ℕ) → type_by schemas t part ≡ Some u → Contains (named_at table t part o) n → Reach schemas table u (next ∷ rest) n v → Reach schemas table t (part ∷ next ∷ rest) o v
    comes_from part o n leads named reach = (goes part o).1 (by (row_at table t o) refl named)
      where
        by : (row : Option Row) → row_at table t o ≡ row → Contains (named_in part row) n → Goes part o
        by None is h = absurd (contains_none n h)
        by (Some row) is h = (u, row, n, leads, is, h, reach)

    pub leads_nowhere : (part : WalkPart) (o : ℕ) → type_by schemas t part ≡ None → Reach schemas table t (part ∷ next ∷ rest) o v → ⊥
    leads_nowhere part o none reach = let h = (goes part o).0 reach in apart h.0 (sym h.3 ∙ none)
      where
        apart : (a : ℕ) → ◌≡◌ {A = Option ℕ} (Some a) None → ⊥
        apart a e = absurd cc

  pub next_reached : (t u : ℕ) (part next : WalkPart) (rest : List WalkPart) (level named : List ℕ) (values : List Value) → type_by schemas t part ≡ Some u → AreNamed table t part level named
      → AreReachedFrom schemas table u (next ∷ rest) named values → AreReachedFrom schemas table t (part ∷ next ∷ rest) level values
  next_reached t u part next rest level named values leads names reached = record {
    once = reached.once;
    are = λ v. (
      (λ h. let r = (reached.are v).0 h in
          let piece = from_pieces (named_at table t part) r.0 level ((names.same r.0).0 r.1) in
          (piece.0, piece.1, comes_from t u next rest v part piece.0 r.0 leads piece.2 r.2)),
      (λ h. let on = steps_on t u next rest v part h.0 leads h.2 in
          (reached.are v).1 (on.0, (names.same on.0).1 (in_pieces (named_at table t part) on.0 level h.0 h.1 on.1), on.2)),
    );
  }

  nothing : (values : List Value) → values ≡ [] → AllPairs (λ earlier later. earlier ≢ later) values
  nothing values is = subst (AllPairs (λ earlier later. earlier ≢ later)) (sym is) (λ i j d before within. absurd (omega arith))

  pub nowhere_reached : (t : ℕ) (part next : WalkPart) (rest : List WalkPart) (level : List ℕ) → type_by schemas t part ≡ None → AreReachedFrom schemas table t (part ∷ next ∷ rest) level []
  nowhere_reached t part next rest level none = record {
    once = nothing [] refl;
    are = λ v. ((λ h. absurd (contains_none v h)), (λ h. absurd (leads_nowhere t t next rest v part h.0 none h.2)));
  }

  pub no_parts_reached : (t : ℕ) (level : List ℕ) → AreReachedFrom schemas table t [] level []
  no_parts_reached t level = record { once = nothing [] refl; are = λ v. ((λ h. absurd (contains_none v h)), (λ h. absurd h.2)) }

  pub one_reached : (t o : ℕ) (parts : List WalkPart) (values : List Value) → AreReachedFrom schemas table t parts (o ∷ []) values → AreReached schemas table t parts o values
  one_reached t o parts values reached = record {
    once = reached.once;
    are = λ v. (
      (λ h. let r = (reached.are v).0 h in subst (λ q. Reach schemas table t parts q v) (sym (only r.0 r.1)) r.2),
      (λ h. (reached.are v).1 (o, contains_first o o [] refl, h)),
    );
  }
    where
      only : (q : ℕ) → Contains (o ∷ []) q → o ≡ q
      only q h = elim (contains_either o q [] h) [ inl e ↦ e | inr none ↦ absurd (contains_none q none) ]

-- ---- what is named is live

-- the same ordinal for each, with a name
all_mapped : (P : List ℕ × ℕ → Type 0) (name : List ℕ) (ordinals : List ℕ) (n : ℕ) → All P (map (λ o. (name, o)) ordinals) → Contains ordinals n → P (name, n)
all_mapped P name [] n all h = absurd (contains_none n h)
all_mapped P name (o ∷ ordinals) n all h =
    elim (contains_either o n ordinals h) [
      | inl e ↦ subst (λ q. P (name, q)) e (all 0 (name, o) (omega arith))
      | inr later ↦ all_mapped P name ordinals n (λ k d within. all (suc k) d (omega arith)) later
    ]

all_keys : (P : List ℕ × ℕ → Type 0) (key value : List ℕ) (pairs : List (ℕ × ℕ)) (n : ℕ) → All P (flat_map (λ pair. (key, pair.0) ∷ (value, pair.1) ∷ []) pairs) → Contains (map (λ pair. pair.0) pairs) n → P (key, n)
all_keys P key value [] n all h = absurd (contains_none n h)
all_keys P key value (pair ∷ pairs) n all h =
    elim (contains_either pair.0 n (map (λ p. p.0) pairs) h) [
      | inl e ↦ subst (λ q. P (key, q)) e (all 0 (key, pair.0) (omega arith))
      | inr later ↦ all_keys P key value pairs n (λ k d within. all (suc (suc k)) d (omega arith)) later
    ]

all_values : (P : List ℕ × ℕ → Type 0) (key value : List ℕ) (pairs : List (ℕ × ℕ)) (n : ℕ) → All P (flat_map (λ pair. (key, pair.0) ∷ (value, pair.1) ∷ []) pairs) → Contains (map (λ pair. pair.1) pairs) n → P (value, n)
all_values P key value [] n all h = absurd (contains_none n h)
all_values P key value (pair ∷ pairs) n all h =
    elim (contains_either pair.1 n (map (λ p. p.1) pairs) h) [
      | inl e ↦ subst (λ q. P (value, q)) e (all 1 (value, pair.1) (omega arith))
      | inr later ↦ all_values P key value pairs n (λ k d within. all (suc (suc k)) d (omega arith)) later
    ]

module _ (schemas : List Schema) (table : Table) (fits : IsTableOf schemas table) (closed : IsClosed schemas table) where
  abbrev Live : List ℕ × ℕ → Type 0
  Live n = IsLiveByName schemas table n.0 n.1

  by_name : (name : List ℕ) (u n : ℕ) → target_of schemas (FieldKind.Reference name) ≡ Some u → Live (name, n) → IsLive table u n
  by_name name u n target live = subst (λ (i : Option ℕ). IsSomeAnd i (λ t. IsLive table t n)) target live

  in_items : (shape : Shape) (row : Row) (part : WalkPart) (u n : ℕ) → ((i : ℕ) → part ≡ FieldPart i → ⊥) → FitsShape shape row → All Live (references_of_row shape row)
      → option_and_then (λ kind. target_of schemas kind) (part_kind shape part) ≡ Some u → Contains (named_by part row) n → IsLive table u n
  in_items shape row (FieldPart i) u n never fit all target named = absurd (never i refl)
  in_items (Shape.List element) (Row.List ordinals) Element u n never fit all target named = by_name element u n target (all_mapped Live element ordinals n all named)
  in_items (Shape.Set element) (Row.Set ordinals) Element u n never fit all target named = by_name element u n target (all_mapped Live element ordinals n all named)
  in_items (Shape.Map key value) (Row.Map pairs) MapKey u n never fit all target named = by_name key u n target (all_keys Live key value pairs n all named)
  in_items (Shape.Map key value) (Row.Map pairs) MapValue u n never fit all target named = by_name value u n target (all_values Live key value pairs n all named)
  in_items (Shape.List element) (Row.Set ordinals) part u n never fit all target named = absurd fit
  in_items (Shape.Set element) (Row.List ordinals) part u n never fit all target named = absurd fit
  in_items shape (Row.Object values) Element u n never fit all target named = absurd (contains_none n named)
  in_items shape (Row.Map pairs) Element u n never fit all target named = absurd (contains_none n named)
  in_items (Shape.Object key fields) (Row.List ordinals) Element u n never fit all target named = absurd fit
  in_items (Shape.Object key fields) (Row.Set ordinals) Element u n never fit all target named = absurd fit
  in_items (Shape.Map key value) (Row.List ordinals) Element u n never fit all target named = absurd fit
  in_items (Shape.Map key value) (Row.Set ordinals) Element u n never fit all target named = absurd fit
  in_items shape (Row.Object values) MapKey u n never fit all target named = absurd (contains_none n named)
  in_items shape (Row.List ordinals) MapKey u n never fit all target named = absurd (contains_none n named)
  in_items shape (Row.Set ordinals) MapKey u n never fit all target named = absurd (contains_none n named)
  in_items (Shape.Object key fields) (Row.Map pairs) MapKey u n never fit all target named = absurd fit
  in_items (Shape.List element) (Row.Map pairs) MapKey u n never fit all target named = absurd fit
  in_items (Shape.Set element) (Row.Map pairs) MapKey u n never fit all target named = absurd fit
  in_items shape (Row.Object values) MapValue u n never fit all target named = absurd (contains_none n named)
  in_items shape (Row.List ordinals) MapValue u n never fit all target named = absurd (contains_none n named)
  in_items shape (Row.Set ordinals) MapValue u n never fit all target named = absurd (contains_none n named)
  in_items (Shape.Object key fields) (Row.Map pairs) MapValue u n never fit all target named = absurd fit
  in_items (Shape.List element) (Row.Map pairs) MapValue u n never fit all target named = absurd fit
  in_items (Shape.Set element) (Row.Map pairs) MapValue u n never fit all target named = absurd fit

  module _ (t o u n : ℕ) where
    by_items : (part : WalkPart) → ((i : ℕ) → part ≡ FieldPart i → ⊥) → type_by schemas t part ≡ Some u → Contains (named_at table t part o) n → IsLive table u n
    by_items part never target named = at (slice_get schemas t) (row_at table t o) refl refl target named
      where
        at : (schema : Option Schema) (row : Option Row) → slice_get schemas t ≡ schema → row_at table t o ≡ row
            → option_and_then (λ s. option_and_then (λ kind. target_of schemas kind) (part_kind s.shape part)) schema ≡ Some u → Contains (named_in part row) n → IsLive table u n
        at None row is stands leads h = absurd cc
        at (Some schema) None is stands leads h = absurd (contains_none n h)
        at (Some schema) (Some row) is stands leads h = in_items schema.shape row part u n never (fits.rows t o schema row is stands) (closed t o schema row is stands) leads h

    field_behind : (shape : Shape) (i : ℕ) → part_kind shape (FieldPart i) ≡ option_map (λ f. f.kind) (slice_get (shape_fields shape) i)
    field_behind (Shape.Object key fields) i = refl
    field_behind (Shape.Set element) i = refl
    field_behind (Shape.List element) i = refl
    field_behind (Shape.Map key value) i = refl

    one_type : (schema : Option Schema) (i : ℕ) → option_and_then (λ s. option_and_then (λ kind. target_of schemas kind) (part_kind s.shape (FieldPart i))) schema
        ≡ option_and_then (λ kind. target_of schemas kind) (option_and_then (λ s. option_map (λ f. f.kind) (slice_get (fields_of s) i)) schema)
    one_type None i = refl
    one_type (Some s) i = ap (λ kind. option_and_then (λ k. target_of schemas k) kind) (field_behind s.shape i)

    in_field : (row : Option Row) (i : ℕ) → Contains (named_in (FieldPart i) row) n → ordinal_in (value_in row i) ≡ Some n
    in_field None i h = absurd (contains_none n h)
    in_field (Some (Row.Object values)) i h = from_option (ordinal_in (slice_get values i)) n h
    in_field (Some (Row.List ordinals)) i h = absurd (contains_none n h)
    in_field (Some (Row.Set ordinals)) i h = absurd (contains_none n h)
    in_field (Some (Row.Map pairs)) i h = absurd (contains_none n h)

    pub part_live : (part : WalkPart) → type_by schemas t part ≡ Some u → Contains (named_at table t part o) n → IsLive table u n
    part_live (FieldPart i) target named = named_live schemas table t o closed i u n (sym (one_type (slice_get schemas t) i) ∙ target) (in_field (row_at table t o) i named)
    part_live Element target named = by_items Element (λ i e. absurd cc) target named
    part_live MapKey target named = by_items MapKey (λ i e. absurd cc) target named
    part_live MapValue target named = by_items MapValue (λ i e. absurd cc) target named

  -- the rows that a level names are live
  pub level_live : (t u : ℕ) (part : WalkPart) (level named : List ℕ) → type_by schemas t part ≡ Some u → AreNamed table t part level named → All (IsLive table u) named
  level_live t u part level named target names = λ k d within.
      let n = get_or named k d in
      let piece = from_pieces (named_at table t part) n level ((names.same n).0 (Contains-get_or named k d within)) in
      part_live t piece.0 u n part target piece.2

-- ---- parts, the first before the rest

module _ (parts : List WalkPart) (d : WalkPart) where
  abbrev rest_of : List WalkPart
  rest_of = take (length parts - 1) (drop 1 parts)

first_and_rest : (parts : List WalkPart) (d : WalkPart) → 1 ≤ length parts → parts ≡ get_or parts 0 d ∷ rest_of parts d
first_and_rest [] d some = absurd (omega arith)
first_and_rest (part ∷ tail) d some = ap (λ l. part ∷ l) (sym (take_all (length (part ∷ tail) - 1) tail (omega arith)))

is_none : (rest : List WalkPart) → true ≡ (length rest == 0) → rest ≡ []
is_none [] e = refl
is_none (part ∷ rest) e = absurd (omega (arith, eqb-true (length (part ∷ rest)) 0 (sym e)))

if_ok : {X E : Type 0} (P Q : X → Type 0) (result : Result X E) → ((x : X) → P x → Q x) → IfOk result P → IfOk result Q
if_ok P Q (Ok x) turns h = turns x h
if_ok P Q (Err e) turns h = h

module _ {E : Type 0} (schemas : List Schema) (table : Table) (t : ℕ) (parts : List WalkPart) (d : WalkPart) (level items : List ℕ) (result : Result (List Value) E) (some : 1 ≤ length parts) (are : items ≡ level) where
  pub ends : true ≡ (length (rest_of parts d) == 0) → IfOk result (AreOnceOf (flat_map (values_by table t (get_or parts 0 d)) items)) → IfOk result (AreReachedFrom schemas table t parts level)
  ends none h = if_ok (AreOnceOf (flat_map (values_by table t (get_or parts 0 d)) items)) (AreReachedFrom schemas table t parts level) result
      (λ values once.
      subst (λ ps. AreReachedFrom schemas table t ps level values) (sym (first_and_rest parts d some ∙ ap (λ l. get_or parts 0 d ∷ l) (is_none (rest_of parts d) none)))
      (last_reached schemas table t (get_or parts 0 d) level values (subst (λ l. AreOnceOf (flat_map (values_by table t (get_or parts 0 d)) l) values) are once))) h

  pub goes_on : (u : ℕ) (named : List ℕ) → false ≡ (length (rest_of parts d) == 0) → type_by schemas t (get_or parts 0 d) ≡ Some u → AreNamed table t (get_or parts 0 d) items named
      → IfOk result (AreReachedFrom schemas table u (rest_of parts d) named) → IfOk result (AreReachedFrom schemas table t parts level)
  goes_on u named more leads names h = if_ok (AreReachedFrom schemas table u (rest_of parts d) named) (AreReachedFrom schemas table t parts level) result
      (λ values reached. by (rest_of parts d) (first_and_rest parts d some) more values reached) h
    where
      by : (rest : List WalkPart) → parts ≡ get_or parts 0 d ∷ rest → false ≡ (length rest == 0) → (values : List Value) → AreReachedFrom schemas table u rest named values → AreReachedFrom schemas table t parts level values
      by [] is later values reached = absurd cc
      by (next ∷ rest) is later values reached = subst (λ ps. AreReachedFrom schemas table t ps level values) (sym is)
          (next_reached schemas table t u (get_or parts 0 d) next rest level named values leads (subst (λ l. AreNamed table t (get_or parts 0 d) l named) are names) reached)

pub if_one : {E : Type 0} (schemas : List Schema) (table : Table) (t o : ℕ) (parts items : List WalkPart) (none level : List ℕ) (result : Result (List Value) E) → items ≡ parts → none ≡ [] → level ≡ none ++ o ∷ []
    → IfOk result (AreReachedFrom schemas table t items level) → IfOk result (AreReached schemas table t parts o)
if_one schemas table t o parts items none level result same empty is h = if_ok (AreReachedFrom schemas table t items level) (AreReached schemas table t parts o) result
    (λ values reached. one_reached schemas table t o parts values
    (subst (λ l. AreReachedFrom schemas table t parts l values) (is ∙ ap (λ l. l ++ o ∷ []) empty) (subst (λ ps. AreReachedFrom schemas table t ps level values) same reached))) h
