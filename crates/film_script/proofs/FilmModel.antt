-- The schemas of the films keep the rules of a model.
use Rattle.std.proofs.Common.{◌&&◌, Bool, eqb, false, ltb, true, ◌≡◌, ℕ, zero, suc, ◌<◌, ◌≤◌, ◌∙◌, sym, ap, subst, refl, List, [], ◌∷◌, length, Some, None, arith, inl, inr, slice_get}
use Rattle.std.specs.Prelude.{Any, Contains, SomeIndex, codes, get_or, slice_index_or, take}
use Rattle.std.proofs.lemmas.Bool.{eq-eqb, lt-ltb, ltb-true}
use Rattle.std.proofs.lemmas.Str.{chars-IsAscii}
use Rattle.std.proofs.lemmas.Str.Ascii.{IsAscii-nil}
use Rattle.std.specs.Char.Escape.{encode_utf16}
use Rattle.std.specs.List.{flat_map}
use Rattle.std.specs.Str.{IsAscii}
use Rattle.schema_model.specs.declared.schema.FieldKind.TheVariants as kind
use Rattle.hol_varint.specs.JavaUtf.{java_bytes, unit_bytes}
use Rattle.hol_varint.specs.TextUnits.{text_units}
use Rattle.schema_model.specs.Model.{Breaks, BreaksAt, HasChain, IsBadKey, IsBadPath, IsKept, IsLongText, IsModel, StandsEarlier, type_graph}
use Rattle.schema_model.specs.Parts.{field_names, fields_of, index_of_type, named_types, texts_of, type_names}
use Rattle.schema_model.specs.Path.{Leads, path_names}
use Rattle.schema_model.specs.declared.model.rule.Rule.{Rule}
use Rattle.schema_model.specs.declared.model.rule.Rule.TheVariants as rule
use Rattle.schema_model.specs.declared.schema.Schema.{Schema}
use Rattle.film_script.specs.Films.{field_of, film_schema, film_schemas, tags_schema, text_schema}

-- nothing holds of an item of no items
none : {X : Type 0} (P : X → Type 0) → ¬ Any P []
none P (k, x, inside, at, holds) = omega (arith, inside)

-- nor of one of a list, where it holds neither of the first nor of one behind it
none_of : {X : Type 0} (P : X → Type 0) (x : X) (xs : List X) → ¬ P x → ¬ Any P xs → ¬ Any P (x ∷ xs)
none_of P x xs first others (zero, y, inside, at, holds) = first (subst P (sym at) holds)
none_of P x xs first others (suc k, y, inside, at, holds) = others (k, y, omega (arith, inside), at, holds)

-- no chain of one reference begins at the first type, none of two at the second, none of three at the third
graph : List (List ℕ)
graph = [] ∷ (0 ∷ []) ∷ (0 ∷ 1 ∷ []) ∷ []

chain_of_text : (n : ℕ) → ¬ HasChain graph (suc n) 0
unfolding HasChain graph
chain_of_text n chain = none (HasChain graph n) chain

chain_of_tags : (n : ℕ) → ¬ HasChain graph (suc (suc n)) 1
unfolding HasChain graph
chain_of_tags n chain = none_of (HasChain graph (suc n)) 0 [] (chain_of_text n) (none (HasChain graph (suc n))) chain

chain_of_film : (n : ℕ) → ¬ HasChain graph (suc (suc (suc n))) 2
unfolding HasChain graph
chain_of_film n chain =
    none_of (HasChain graph (suc (suc n))) 0 (1 ∷ []) (chain_of_text (suc n)) (none_of (HasChain graph (suc (suc n))) 1 [] (chain_of_tags n) (none (HasChain graph (suc (suc n))))) chain

-- the type at an index is one of the three
only : (t : ℕ) (s : Schema) → slice_get film_schemas t ≡ Some s → (P : ℕ → Schema → Type 0) → P 0 text_schema → P 1 tags_schema → P 2 film_schema → P t s
only zero s at P text tags films = subst (P 0) (let e : text_schema ≡ s = cc in e) text
only (suc zero) s at P text tags films = subst (P 1) (let e : tags_schema ≡ s = cc in e) tags
only (suc (suc zero)) s at P text tags films = subst (P 2) (let e : film_schema ≡ s = cc in e) films
only (suc (suc (suc t))) s at P text tags films = absurd cc

-- each rule is kept by each of the three
keeps : (rule : Rule) → ¬ Breaks film_schemas rule 0 text_schema → ¬ Breaks film_schemas rule 1 tags_schema → ¬ Breaks film_schemas rule 2 film_schema → IsKept film_schemas rule
keeps rule text tags films t (s, at, breaks) = only t s at (λ u schema. ¬ Breaks film_schemas rule u schema) text tags films breaks

many : IsKept film_schemas rule.TooMany
many = keeps rule.TooMany text tags films
  where
    text : ¬ Breaks film_schemas rule.TooMany 0 text_schema
    text (inl past) = omega (arith, past)
    text (inr more) = omega (arith, more)

    tags : ¬ Breaks film_schemas rule.TooMany 1 tags_schema
    tags (inl past) = omega (arith, past)
    tags (inr more) = omega (arith, more)

    films : ¬ Breaks film_schemas rule.TooMany 2 film_schema
    films (inl past) = omega (arith, past)
    films (inr more) = omega (arith, more)

-- texts of ASCII
both : (x y : Bool) → (x && y) ≡ true → (x ≡ true) × (y ≡ true)
both true true e = (refl, refl)
both true false e = absurd cc
both false y e = absurd cc

abbrev are_ascii : List ℕ → Bool
are_ascii [] = true
are_ascii (b ∷ bs) = ltb b 128 && are_ascii bs

ascii : (text : List ℕ) → are_ascii text ≡ true → IsAscii text
ascii [] test i = IsAscii-nil i
ascii (b ∷ bs) test zero = ltb-true b 128 (both (ltb b 128) (are_ascii bs) test).0
ascii (b ∷ bs) test (suc i) = ascii bs (both (ltb b 128) (are_ascii bs) test).1 i

-- a text of ASCII that has few bytes is not long
abbrev size_of : List ℕ → ℕ
size_of text = length (java_bytes (flat_map encode_utf16 text))

short : (text : List ℕ) → are_ascii text ≡ true → ltb 65535 (size_of text) ≡ false → ¬ IsLongText text
short text plain few long =
    let e : length (java_bytes (text_units text)) ≡ size_of text = ap (λ cs. length (java_bytes (flat_map encode_utf16 cs))) (chars-IsAscii text (ascii text plain)) in
    let bad : true ≡ false = sym (lt-ltb 65535 (size_of text) (subst (λ n. 65535 < n) e long)) ∙ few in
    cc

text_short : ¬ IsLongText (codes "Text")
unfolding unit_bytes
text_short = short (codes "Text") refl refl

tags_type_short : ¬ IsLongText (codes "Tags")
unfolding unit_bytes
tags_type_short = short (codes "Tags") refl refl

film_short : ¬ IsLongText (codes "Film")
unfolding unit_bytes
film_short = short (codes "Film") refl refl

value_short : ¬ IsLongText (codes "value")
unfolding unit_bytes
value_short = short (codes "value") refl refl

id_short : ¬ IsLongText (codes "id")
unfolding unit_bytes
id_short = short (codes "id") refl refl

title_short : ¬ IsLongText (codes "title")
unfolding unit_bytes
title_short = short (codes "title") refl refl

year_short : ¬ IsLongText (codes "year")
unfolding unit_bytes
year_short = short (codes "year") refl refl

tags_short : ¬ IsLongText (codes "tags")
unfolding unit_bytes
tags_short = short (codes "tags") refl refl

-- texts of which each is not long
abbrev AreShort : List (List ℕ) → Type 0
AreShort [] = Unit {0}
AreShort (text ∷ texts) = ¬ IsLongText text × AreShort texts

none_long : (texts : List (List ℕ)) → AreShort texts → ¬ Any IsLongText texts
none_long [] are = none IsLongText
none_long (text ∷ texts) are = none_of IsLongText text texts are.0 (none_long texts are.1)

lengths : IsKept film_schemas rule.LongName
lengths = keeps rule.LongName text tags films
  where
    text : ¬ Any IsLongText (texts_of text_schema)
    text = none_long (texts_of text_schema) (text_short, (value_short, tt))

    tags : ¬ Any IsLongText (texts_of tags_schema)
    tags = none_long (texts_of tags_schema) (tags_type_short, (text_short, tt))

    films : ¬ Any IsLongText (texts_of film_schema)
    films = none_long (texts_of film_schema) (film_short, (id_short, (id_short, (title_short, (text_short, (year_short, (tags_short, (tags_type_short, tt))))))))

-- a name is not among none, nor among names of which each is another one
apart_none : (name : List ℕ) → ¬ Contains [] name
apart_none name (k, inside, at) = omega (arith, inside)

apart_of : (name first : List ℕ) (names : List (List ℕ)) → ¬ (first ≡ name) → ¬ Contains names name → ¬ Contains (first ∷ names) name
apart_of name first names other others (zero, inside, at) = other at
apart_of name first names other others (suc k, inside, at) = others (k, omega (arith, inside), at)

-- texts with another byte at a place are apart
differ : (one other : List ℕ) (place : ℕ) → eqb (get_or one place 0) (get_or other place 0) ≡ false → ¬ (one ≡ other)
differ one other place apart same =
    let e : get_or one place 0 ≡ get_or other place 0 = ap (λ (text : List ℕ). get_or text place 0) same in
    let bad : true ≡ false = sym (eq-eqb (get_or one place 0) (get_or other place 0) e) ∙ apart in
    cc

names : IsKept film_schemas rule.DuplicateName
names = keeps rule.DuplicateName text tags films
  where
    text : ¬ Breaks film_schemas rule.DuplicateName 0 text_schema
    text (inl twice) = apart_none (codes "Text") twice
    text (inr (zero, inside, twice)) = apart_none (codes "value") twice
    text (inr (suc i, inside, twice)) = omega (arith, inside)

    tags : ¬ Breaks film_schemas rule.DuplicateName 1 tags_schema
    tags (inl twice) = apart_of (codes "Tags") (codes "Text") [] (differ (codes "Text") (codes "Tags") 1 refl) (apart_none (codes "Tags")) twice
    tags (inr (i, inside, twice)) = omega (arith, inside)

    films : ¬ Breaks film_schemas rule.DuplicateName 2 film_schema
    films (inl twice) =
        apart_of (codes "Film") (codes "Text") (codes "Tags" ∷ []) (differ (codes "Text") (codes "Film") 0 refl)
        (apart_of (codes "Film") (codes "Tags") [] (differ (codes "Tags") (codes "Film") 0 refl) (apart_none (codes "Film"))) twice
    films (inr (zero, inside, twice)) = apart_none (codes "id") twice
    films (inr (suc zero, inside, twice)) = apart_of (codes "title") (codes "id") [] (differ (codes "id") (codes "title") 0 refl) (apart_none (codes "title")) twice
    films (inr (suc (suc zero), inside, twice)) =
        apart_of (codes "year") (codes "id") (codes "title" ∷ []) (differ (codes "id") (codes "year") 0 refl)
        (apart_of (codes "year") (codes "title") [] (differ (codes "title") (codes "year") 0 refl) (apart_none (codes "year"))) twice
    films (inr (suc (suc (suc zero)), inside, twice)) =
        apart_of (codes "tags") (codes "id") (codes "title" ∷ codes "year" ∷ []) (differ (codes "id") (codes "tags") 0 refl)
        (apart_of (codes "tags") (codes "title") (codes "year" ∷ []) (differ (codes "title") (codes "tags") 1 refl)
        (apart_of (codes "tags") (codes "year") [] (differ (codes "year") (codes "tags") 0 refl) (apart_none (codes "tags")))) twice
    films (inr (suc (suc (suc (suc i))), inside, twice)) = omega (arith, inside)

-- each type that is named is there
some_there : (t : ℕ) → ¬ (Some t ≡ None)
some_there t missing = cc

known : IsKept film_schemas rule.UnknownType
known = keeps rule.UnknownType (none Unnamed) (none_of Unnamed (codes "Text") [] text (none Unnamed))
    (none_of Unnamed (codes "Text") (codes "Tags" ∷ []) text (none_of Unnamed (codes "Tags") [] tags (none Unnamed)))
  where
    Unnamed : List ℕ → Type 0
    Unnamed name = index_of_type film_schemas name ≡ None

    text : ¬ (index_of_type film_schemas (codes "Text") ≡ None)
    text missing = absurd (some_there 0 missing)

    tags : ¬ (index_of_type film_schemas (codes "Tags") ≡ None)
    tags missing = absurd (some_there 1 missing)

-- no chain goes in a circle, or is too long
graph_is : type_graph film_schemas ≡ graph
unfolding graph
graph_is = refl

in_graph : (n t : ℕ) → ¬ HasChain graph n t → ¬ HasChain (type_graph film_schemas) n t
in_graph n t never chain = never (subst (λ rows. HasChain rows n t) graph_is chain)

circles : IsKept film_schemas rule.CyclicModel
circles = keeps rule.CyclicModel (λ chains. in_graph 1 0 (chain_of_text 0) (chains 1)) (λ chains. in_graph 2 1 (chain_of_tags 0) (chains 2)) (λ chains. in_graph 3 2 (chain_of_film 0) (chains 3))

depth : IsKept film_schemas rule.TooDeep
depth = keeps rule.TooDeep (in_graph 32 0 (chain_of_text 31)) (in_graph 32 1 (chain_of_tags 30)) (in_graph 32 2 (chain_of_film 29))

paths : IsKept film_schemas rule.BadPath
paths = keeps rule.BadPath (λ bad. bad) (λ bad. bad) films
  where
    leads : ¬ IsBadPath film_schemas 2 (codes "id")
    leads bad = bad (0 ∷ []) (field_of (codes "id") kind.Int, (film_schema, refl, refl), refl, refl)

    films : ¬ IsBadKey film_schemas 2 (Some (codes "id" ∷ []))
    films (inl empty) = cc
    films (inr bad) = none_of (IsBadPath film_schemas 2) (codes "id") [] leads (none (IsBadPath film_schemas 2)) bad

pub is_model : IsModel film_schemas
is_model rule.TooMany = many
is_model rule.LongName = lengths
is_model rule.DuplicateName = names
is_model rule.FloatField = keeps rule.FloatField (λ bad. bad) (λ bad. bad) (λ bad. bad)
is_model rule.UnknownType = known
is_model rule.CyclicModel = circles
is_model rule.TooDeep = depth
is_model rule.BadPath = paths
