-- Writing a header: the lengths of what is listed, and what is listed so far.
use Rattle.std.proofs.Common.{◌≡◌, ◌≤◌, ◌<◌, ◌+◌, ◌^◌, ℕ, zero, suc, ◌⊎◌, List, [], ◌∷◌, ◌++◌, get_or, take, length, Option, Some, None, refl, ◌∙◌, sym, ap, arith, length-append, append_assoc, append-nil, inl, inr}
use Rattle.std.specs.Option.{IfSome}
use Rattle.std.specs.List.{slice_get, cons_option, flat_map, All, AllByRecursion}
use Rattle.std.proofs.lemmas.List.{take_more}
use Rattle.std.proofs.lemmas.List.Concat.{flat_map-append}
use Rattle.std.proofs.lemmas.Option.{slice_get_cases}
use Rattle.std.proofs.lemmas.List.Elements.{filter_map-append, recursion_from_All}
use Rattle.hol_varint.specs.JavaUtf.{utf_bytes}
use Rattle.hol_varint.specs.Varint.{varint_bytes}
use Rattle.schema_model.specs.declared.schema.Shape.{Shape}
use Rattle.schema_model.specs.declared.schema.Shape.TheVariants as shape
use Rattle.schema_model.specs.declared.schema.Schema.{Schema}
use Rattle.schema_model.specs.Schema.{schema_bytes, name_bytes, paths_bytes, fields_bytes, shape_bytes}
use Rattle.schema_model.specs.Parts.{shape_key}
use Rattle.blob_frame.specs.Written.{schemas_at, schema_list_bytes}

-- a text takes two bytes or more
paths_long : (paths : List (List ℕ)) → length paths ≤ length (flat_map name_bytes paths)
unfolding utf_bytes
paths_long [] = omega arith
paths_long (p ∷ paths) = omega (arith, paths_long paths, length-append (name_bytes p) (flat_map name_bytes paths))

-- a schema has no more key paths than bytes
keys_long : (s : Schema) → IfSome (shape_key s.shape) (λ paths. length paths ≤ length (schema_bytes s))
keys_long s = by_shape s.shape (length (schema_bytes s)) (omega (arith, length-append (name_bytes s.name) (shape_bytes s.shape)))
  where
    by_shape : (sh : Shape) (n : ℕ) → length (shape_bytes sh) ≤ n → IfSome (shape_key sh) (λ paths. length paths ≤ n)
    by_shape (shape.Object None fields) n h = tt
    by_shape (shape.Object (Some paths) fields) n h = omega (
      arith,
      h,
      paths_long paths,
      length-append (paths_bytes paths) (fields_bytes fields),
      length-append (varint_bytes (length paths)) (flat_map name_bytes paths),
    )
    by_shape (shape.Set element) n h = tt
    by_shape (shape.List element) n h = tt
    by_shape (shape.Map key value) n h = tt

longer : (o : Option Schema) (rest : List Schema) → length (flat_map schema_bytes rest) ≤ length (flat_map schema_bytes (cons_option o rest))
longer None rest = omega arith
longer (Some s) rest = omega (arith, length-append (schema_bytes s) (flat_map schema_bytes rest))

-- the list of schemas is as long as each of them
in_list : (model : List Schema) (types : List ℕ) (i : ℕ) (s : Schema) → i < length types → slice_get model (get_or types i 0) ≡ Some s →
    length (schema_bytes s) ≤ length (flat_map schema_bytes (schemas_at model types))
in_list model [] i s h e = absurd (omega arith)
in_list model (t ∷ types) zero s h e =
    rw e (omega (arith, length-append (schema_bytes s) (flat_map schema_bytes (schemas_at model types))))
in_list model (t ∷ types) (suc i) s h e =
    omega (arith, in_list model types i s (omega arith) e, longer (slice_get model t) (schemas_at model types))

-- a schema of a list that is not too long has few key paths
pub few_keys : (model : List Schema) (types : List ℕ) (i : ℕ) (s : Schema) → i < length types → slice_get model (get_or types i 0) ≡ Some s →
    length (schema_list_bytes (schemas_at model types)) ≤ 2 ^ 28 → IfSome (shape_key s.shape) (λ paths. length paths < 2 ^ 32)
few_keys model types i s h e short =
    below (shape_key s.shape) (length (schema_bytes s)) (keys_long s)
    (omega (
      arith,
      short,
      in_list model types i s h e,
      length-append (varint_bytes (length (schemas_at model types))) (flat_map schema_bytes (schemas_at model types)),
    ))
  where
    below : (o : Option (List (List ℕ))) (n : ℕ) → IfSome o (λ paths. length paths ≤ n) → n ≤ 2 ^ 28 → IfSome o (λ paths. length paths < 2 ^ 32)
    below None n h k = tt
    below (Some paths) n h k = omega (arith, h, k)

-- one schema more is listed
pub listed_more : (model : List Schema) (types : List ℕ) (i : ℕ) (s : Schema) → i < length types → slice_get model (get_or types i 0) ≡ Some s →
    flat_map schema_bytes (schemas_at model (take (i + 1) types)) ≡ flat_map schema_bytes (schemas_at model (take i types)) ++ schema_bytes s
listed_more model types i s h e =
    let t = get_or types i 0 in
    let one : schemas_at model (t ∷ []) ≡ s ∷ [] = ap (λ (o : Option Schema). cons_option o []) e in
    ap (λ (ts : List ℕ). flat_map schema_bytes (schemas_at model ts)) (take_more types i 0 h)
    ∙ (ap (λ (ss : List Schema). flat_map schema_bytes ss) (filter_map-append (slice_get model) (take i types) (t ∷ []) ∙ ap (λ (ss : List Schema). schemas_at model (take i types) ++ ss) one)
    ∙ (flat_map-append schema_bytes (schemas_at model (take i types)) (s ∷ []) ∙ ap (λ (xs : List ℕ). flat_map schema_bytes (schemas_at model (take i types)) ++ xs) (append-nil (schema_bytes s))))

there : (model : List Schema) (t n : ℕ) (o : Option Schema) (listed : List Schema) → t < length model → length listed ≡ n →
    ((x : Schema) × (t < length model) × (o ≡ Some x) × (get_or model t x ≡ x)) ⊎ ((length model ≤ t) × (o ≡ None)) → length (cons_option o listed) ≡ suc n
there model t n o listed h e (inl p) = rw p.2 (ap suc e)
there model t n o listed h e (inr p) = absurd (omega (arith, p.0, h))

-- each of the types is there
pub all_listed : (model : List Schema) (types : List ℕ) → AllByRecursion (λ t. t < length model) types → length (schemas_at model types) ≡ length types
all_listed model [] all = refl
all_listed model (t ∷ types) all =
    there model t (length types) (slice_get model t) (schemas_at model types) all.0 (all_listed model types all.1) (slice_get_cases model t).1

-- there are no more types than bytes of their list
pub few_types : (model : List Schema) (types : List ℕ) → All (λ t. t < length model) types → length (schema_list_bytes (schemas_at model types)) ≤ 2 ^ 28 → length types ≤ 2 ^ 28
few_types model types all short =
    omega (
      arith,
      all_listed model types (recursion_from_All (λ t. t < length model) types all),
      some_bytes (schemas_at model types),
      short,
      length-append (varint_bytes (length (schemas_at model types))) (flat_map schema_bytes (schemas_at model types)),
    )
  where
    some_bytes : (listed : List Schema) → length listed ≤ length (flat_map schema_bytes listed)
    some_bytes [] = omega arith
    some_bytes (s ∷ listed) = omega (arith, some_bytes listed, length-append (schema_bytes s) (flat_map schema_bytes listed))

-- the list of all the types
pub listed_whole : (model : List Schema) (types : List ℕ) → All (λ t. t < length model) types →
    varint_bytes (length types) ++ flat_map schema_bytes (schemas_at model types) ≡ schema_list_bytes (schemas_at model types)
listed_whole model types all =
    ap (λ n. varint_bytes n ++ flat_map schema_bytes (schemas_at model types)) (sym (all_listed model types (recursion_from_All (λ t. t < length model) types all)))

-- six parts that are written one behind the other
pub six_parts : (a b c d e f : List ℕ) {s t u v w x : List ℕ} → s ≡ [] ++ a → t ≡ s ++ b → u ≡ t ++ c → v ≡ u ++ d → w ≡ v ++ e → x ≡ w ++ f →
    x ≡ a ++ (b ++ (c ++ (d ++ (e ++ f))))
six_parts a b c d e f p q r i j k = k ∙ (ap (λ (xs : List ℕ). xs ++ f) (j ∙ ap (λ (xs : List ℕ). xs ++ e) (i ∙ ap (λ (xs : List ℕ). xs ++ d) (r ∙ ap (λ (xs : List ℕ). xs ++ c) (q ∙ ap (λ (xs : List ℕ). xs ++ b) p))))
    ∙ simp append_assoc)
