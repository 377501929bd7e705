-- Variable bytes that are moved field by field.
use Rattle.std.proofs.Common.{◌≡◌, ℕ, zero, suc, ◌+◌, ◌<◌, ◌≤◌, List, [], ◌∷◌, ◌++◌, length, take, set, Option, None, Some, refl, sym, ap, subst, ◌∙◌, arith}
use Rattle.std.specs.Prelude.{IfSome, option_and_then, slice_get, unwrap_or}
use Rattle.std.proofs.lemmas.List.{length-set, map-append, take_all, take_at}
use Rattle.std.proofs.lemmas.Option.{slice_get-get_or, unwrap_or-slice_get}
use Rattle.schema_model.specs.declared.schema.Field.{Field}
use Rattle.schema_model.specs.Parts.{AreApart, field_names}
use Rattle.schema_model.proofs.Indexing.{name_found}
use Rattle.seen_patches.specs.ByName.{field_in}
use Rattle.seen_patches.specs.Seen.{areas_left, seen_area, seen_areas}
use Rattle.seen_patches.proofs.Places.{one_field}
use Rattle.seen_patches.proofs.PutColumns.{take_field}

-- no field before this one has that column
abbrev pub IsFree : List Field → List Field → ℕ → ℕ → Type 0
IsFree mine theirs count index = (k : ℕ) (field : Field) → k < count → slice_get mine k ≡ Some field → field_in theirs field.name ≡ Some index → ⊥

-- the bytes of the first fields are moved, and those of no other field
pub record IsMovedSoFar (mine theirs : List Field) (areas now seen : List (List ℕ)) (count : ℕ) : Type 0 where
  pub moved : seen ≡ seen_areas (take count mine) theirs areas
  pub long : length now ≡ length areas
  pub left : (index : ℕ) → IsFree mine theirs count index → slice_get now index ≡ slice_get areas index

pub moved_none : (mine theirs : List Field) (areas seen : List (List ℕ)) → seen ≡ [] → IsMovedSoFar mine theirs areas areas seen 0
moved_none mine theirs areas seen none = record { moved = none; long = refl; left = λ index free. refl }

set_other : {X : Type 0} (xs : List X) (i j : ℕ) (x : X) → (j ≡ i → ⊥) → slice_get (set xs i x) j ≡ slice_get xs j
set_other [] i j x differ = refl
set_other (y ∷ xs) zero zero x differ = absurd (differ refl)
set_other (y ∷ xs) zero (suc j) x differ = refl
set_other (y ∷ xs) (suc i) zero x differ = refl
set_other (y ∷ xs) (suc i) (suc j) x differ = set_other xs i j x (λ same. differ (ap suc same))

seen_more : (mine theirs : List Field) (areas seen : List (List ℕ)) (count : ℕ) (field : Field) (area : List ℕ) → slice_get mine count ≡ Some field → area ≡ seen_area theirs areas field
    → seen ≡ seen_areas (take count mine) theirs areas → seen ++ area ∷ [] ≡ seen_areas (take (count + 1) mine) theirs areas
seen_more mine theirs areas seen count field area there is so_far =
    ap (λ (s : List (List ℕ)). s ++ area ∷ []) so_far
    ∙ ap (λ (a : List ℕ). seen_areas (take count mine) theirs areas ++ a ∷ []) is
    ∙ sym (map-append (seen_area theirs areas) (take count mine) (field ∷ []))
    ∙ ap (λ (fields : List Field). seen_areas fields theirs areas) (sym (take_field mine count field there))

-- a field that the blob has
module _ (mine theirs : List Field) (areas now seen : List (List ℕ)) (count index : ℕ) (field : Field) (area : List ℕ) (apart : AreApart mine) (there : slice_get mine count ≡ Some field)
    (found : field_in theirs field.name ≡ Some index) (is : slice_get now index ≡ Some area) (so_far : IsMovedSoFar mine theirs areas now seen count) where
  free : IsFree mine theirs count index
  free k other before at other_found =
      let one = name_found (field_names theirs) other.name index other_found in
      let two = name_found (field_names theirs) field.name index found in
      one_field mine k count other field apart before at there (sym one.1 ∙ two.1)

  taken : area ≡ seen_area theirs areas field
  taken =
      let at : slice_get areas index ≡ Some area = sym (so_far.left index free) ∙ is in
      ap (λ (o : Option (List ℕ)). unwrap_or o []) (sym at) ∙ ap (λ (o : Option ℕ). unwrap_or (option_and_then (slice_get areas) o) []) (sym found)

  moved_more : IsMovedSoFar mine theirs areas (set now index []) (seen ++ area ∷ []) (count + 1)
  moved_more = record {
    moved = seen_more mine theirs areas seen count field area there taken so_far.moved;
    long = length-set now index [] ∙ so_far.long;
    left = λ i none.
        set_other now index i [] (λ same. none count field (omega arith) there (found ∙ ap (λ (n : ℕ). Some n) (sym same)))
        ∙ so_far.left i (λ k other before at other_found. none k other (omega (arith, before)) at other_found);
  }

-- a field that the blob lacks
moved_nothing : (mine theirs : List Field) (areas now seen : List (List ℕ)) (count : ℕ) (field : Field) → slice_get mine count ≡ Some field → field_in theirs field.name ≡ None
    → IsMovedSoFar mine theirs areas now seen count → IsMovedSoFar mine theirs areas now (seen ++ [] ∷ []) (count + 1)
moved_nothing mine theirs areas now seen count field there none so_far = record {
  moved = seen_more mine theirs areas seen count field [] there (ap (λ (o : Option ℕ). unwrap_or (option_and_then (slice_get areas) o) []) (sym none)) so_far.moved;
  long = so_far.long;
  left = λ index free. so_far.left index (λ k other before at found. free k other (omega (arith, before)) at found);
}

inside_get : {X : Type 0} (xs : List X) (index : ℕ) (d : X) → index < length xs → slice_get xs index ≡ Some (unwrap_or (slice_get xs index) d)
inside_get xs index d inside = slice_get-get_or xs index d inside ∙ ap (λ x. Some x) (sym (unwrap_or-slice_get xs index d))

by_place : (mine theirs : List Field) (areas now seen : List (List ℕ)) (count : ℕ) (field : Field) (place : Option ℕ) → AreApart mine → slice_get mine count ≡ Some field
    → place ≡ field_in theirs field.name → IfSome place (λ p. p < length now) → IsMovedSoFar mine theirs areas now seen count
    → IsMovedSoFar mine theirs areas (areas_left now place) (seen ++ unwrap_or (option_and_then (slice_get now) place) [] ∷ []) (count + 1)
by_place mine theirs areas now seen count field None apart there is inside so_far = moved_nothing mine theirs areas now seen count field there (sym is) so_far
by_place mine theirs areas now seen count field (Some index) apart there is inside so_far =
    moved_more mine theirs areas now seen count index field (unwrap_or (slice_get now index) []) apart there (sym is) (inside_get now index [] inside) so_far

-- one field more
pub moved_step : (mine theirs : List Field) (areas now left seen more : List (List ℕ)) (count : ℕ) (field : Field) (place : Option ℕ) (area : List ℕ) → AreApart mine → slice_get mine count ≡ Some field
    → place ≡ field_in theirs field.name → IfSome place (λ p. p < length now) → area ≡ unwrap_or (option_and_then (slice_get now) place) [] → left ≡ areas_left now place → more ≡ seen ++ area ∷ []
    → IsMovedSoFar mine theirs areas now seen count → IsMovedSoFar mine theirs areas left more (count + 1)
moved_step mine theirs areas now left seen more count field place area apart there is inside of rest grown so_far =
    subst (λ (l : List (List ℕ)). IsMovedSoFar mine theirs areas l more (count + 1)) (sym rest)
    (subst (λ (m : List (List ℕ)). IsMovedSoFar mine theirs areas (areas_left now place) m (count + 1)) (ap (λ (a : List ℕ). seen ++ a ∷ []) (sym of) ∙ sym grown)
    (by_place mine theirs areas now seen count field place apart there is inside so_far))

-- the bytes of all fields
pub moved_all : (mine theirs : List Field) (areas now seen : List (List ℕ)) (count : ℕ) → length mine ≤ count → IsMovedSoFar mine theirs areas now seen count → seen ≡ seen_areas mine theirs areas
moved_all mine theirs areas now seen count done so_far = so_far.moved ∙ ap (λ (fields : List Field). seen_areas fields theirs areas) (take_all count mine done)

left_long : (areas : List (List ℕ)) (place : Option ℕ) → length (areas_left areas place) ≡ length areas
left_long areas None = refl
left_long areas (Some place) = length-set areas place []

-- what is left stands in the vector again
pub left_back : (items left behind : List (List ℕ)) (len : ℕ) (place : Option ℕ) → length items ≡ len → left ≡ areas_left items place → take len (left ++ behind) ≡ left
left_back items left behind len place long is = take_at left behind len (ap (λ (l : List (List ℕ)). length l) is ∙ left_long items place ∙ long)
