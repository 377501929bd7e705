-- From what a loop over the types finds to what the test of a rule tells.
use Rattle.std.proofs.Common.{◌≡◌, ℕ, ◌∷◌, ◌<◌, ◌≤◌, ◌∙◌, sym, ap, subst, refl, List, [], Some, length, slice_get, ◌++◌, arith, inl, inr, true, false, Bool, get_or}
use Rattle.std.specs.Prelude.{IsTrue, ◌↔◌, ◌||◌, SomeIndex, Any}
use Rattle.std.proofs.lemmas.Option.{slice_get_within}
use Rattle.std.proofs.lemmas.Bool.{lt-ltb, ltb-true}
use Rattle.std.proofs.lemmas.List.Folds.{list_any-append, Any-from_list_any, list_any-from_Any}
use Rattle.std.specs.List.{list_any, flat_map}
use Rattle.hol_varint.specs.JavaUtf.{java_bytes}
use Rattle.hol_varint.specs.TextUnits.{text_units}
use Rattle.model_rules.specs.RuleTests.{is_long_text}
use Rattle.std.proofs.lemmas.List.{get_or_default}
use Rattle.schema_model.specs.Model.{BreaksAt, IsKept, StandsEarlier}
use Rattle.schema_model.specs.Parts.{fields_of, field_names, type_names, texts_of}
use Rattle.schema_model.specs.declared.model.rule.Rule.{Rule}
use Rattle.schema_model.specs.declared.model.rule.Rule.TheVariants.{LongName, DuplicateName}
use Rattle.schema_model.specs.declared.schema.Field.{Field}
use Rattle.schema_model.specs.declared.schema.Schema.{Schema}
use Rattle.schema_model.proofs.BrokenRules.{breaks_itself}

-- a rule that no type breaks at an index below the length is kept
pub kept_below : (schemas : List Schema) (rule : Rule) (n : ℕ) → length schemas ≤ n → ((u : ℕ) → u < n → ¬ BreaksAt schemas rule u) → IsKept schemas rule
kept_below schemas rule n all below t breaks = below t (let inside = slice_get_within schemas t breaks.0 breaks.1 in omega arith) breaks

-- a test that says no
pub told_no : {P : Type 0} (b : Bool) → (IsTrue b ↔ P) → b ≡ false → P → ⊥
told_no b tells e p = let good = tells.1 p in let bad : false ≡ true = sym e ∙ good in cc

-- what is left of the test of names, where the type's name stands first
pub repeated_name : (schemas : List Schema) (t : ℕ) (s : Schema) → slice_get schemas t ≡ Some s → ¬ StandsEarlier (type_names schemas) t → (fields : List Field)
    → fields ≡ fields_of s → (b : Bool) → (IsTrue b ↔ SomeIndex (field_names fields) (StandsEarlier (field_names fields))) → IsTrue b ↔ BreaksAt schemas DuplicateName t
repeated_name schemas t s at first fields same b tells =
    let again = subst (λ (fs : List Field). IsTrue b ↔ SomeIndex (field_names fs) (StandsEarlier (field_names fs))) same tells in (
      λ e. (s, at, inr (again.0 e)),
      λ breaks. elim (breaks_itself schemas DuplicateName t s at breaks) [ inl stands ↦ absurd (first stands) | inr twice ↦ again.1 twice ],
    )

-- no item has a property that each index rules out
pub none_any : (P : List ℕ → Type 0) (xs : List (List ℕ)) (n : ℕ) → length xs ≤ n → ((k : ℕ) → k < n → P (get_or xs k []) → ⊥) → Any P xs → ⊥
none_any P xs n all none (k, x, inside, same, holds) =
    none k (omega arith) (subst P (sym same ∙ get_or_default xs k x [] inside) holds)

-- a test of all pieces goes piece by piece
pub any_pieces : {X Y : Type 0} (p : Y → Bool) (f : X → List Y) (xs : List X) → list_any p (flat_map f xs) ≡ list_any (λ x. list_any p (f x)) xs
any_pieces p f [] = refl
any_pieces p f (y ∷ ys) = list_any-append p (f y) (flat_map f ys) ∙ ap (λ b. list_any p (f y) || b) (any_pieces p f ys)

-- the same behind other items
pub any_behind : {X Y : Type 0} (p : Y → Bool) (f : X → List Y) (firsts : List Y) (xs : List X) → list_any p (firsts ++ flat_map f xs) ≡ (list_any p firsts || list_any (λ x. list_any p (f x)) xs)
any_behind p f firsts xs = list_any-append p firsts (flat_map f xs) ∙ ap (λ b. list_any p firsts || b) (any_pieces p f xs)

-- a schema with a long text breaks the rule, and no other does
pub long_breaks : (schemas : List Schema) (t : ℕ) (s : Schema) → slice_get schemas t ≡ Some s → list_any is_long_text (texts_of s) ≡ true → BreaksAt schemas LongName t
long_breaks schemas t s at some =
    let (k, x, inside, same, long) = Any-from_list_any is_long_text (texts_of s) some in
    (s, at, (k, x, inside, same, ltb-true 65535 (length (java_bytes (text_units x))) long))

pub none_long : (schemas : List Schema) (t : ℕ) (s : Schema) → slice_get schemas t ≡ Some s → list_any is_long_text (texts_of s) ≡ false → BreaksAt schemas LongName t → ⊥
none_long schemas t s at none breaks =
    let (k, x, inside, same, long) = breaks_itself schemas LongName t s at breaks in
    let some = list_any-from_Any is_long_text (texts_of s) (k, x, inside, same, lt-ltb 65535 (length (java_bytes (text_units x))) long) in
    let bad : false ≡ true = sym none ∙ some in cc
