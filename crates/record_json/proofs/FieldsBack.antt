-- Each field is found among the members that a record prints with, and no member is no field.
use Rattle.std.proofs.Common.{◌≡◌, ℕ, ◌∙◌, refl, List, [], ◌∷◌, length, zip, true, Some, arith}
use Rattle.std.specs.Prelude.{All, Contains}
use Rattle.std.specs.List.{AllZip, fold}
use Rattle.std.specs.Ordering.{nat_cmp, match_ordering}
use Rattle.std.specs.declared.cmp.Ordering.{Ordering}
use Rattle.std.specs.declared.cmp.Ordering.TheVariants.{Less, Equal, Greater}
use Rattle.std.specs.Cmp.Lexicographic.{slice_cmp}
use Rattle.std.specs.Str.{bytes_eq}
use Rattle.std.proofs.lemmas.Bool.{and_from, and_parts}
use Rattle.std.proofs.lemmas.List.Elements.{All-contains_itself, All-head, All-map, All-tail, All-weaker}
use Rattle.std.proofs.lemmas.List.Folds.{list_any-from_Any}
use Rattle.std.proofs.lemmas.Slice.Eq.{bytes_eq-Decides}
use Rattle.serde_json.specs.Data.{Data, Members, no_members, member, put}
use Rattle.serde_json.specs.Find.{get_member}
use Rattle.serde_json.proofs.Views.{get_member-put, get_member-put_other}
use Rattle.schema_model.specs.declared.schema.Field.{Field}
use Rattle.schema_model.specs.Parts.{field_names}
use Rattle.json_rows.specs.StoredRow.{members_of_fields}
use Rattle.record_json.specs.NamesApart.{AreNamesApart}
use Rattle.record_json.specs.ReadTree.{are_fields, is_field}

-- ---- each member is a field

pub is_own : (fields : List Field) (field : Field) → Contains fields field → is_field fields field.name ≡ true
is_own fields field (k, inside, at) = list_any-from_Any (λ other. bytes_eq other.name field.name) fields (k, field, inside, at, (bytes_eq-Decides field.name field.name).1 refl)

names_known : (fields : List Field) → All (λ name. is_field fields name ≡ true) (field_names fields)
names_known fields =
    All-map (λ name. is_field fields name ≡ true) (λ (field : Field). field.name) fields
    (All-weaker (Contains fields) (λ (field : Field). is_field fields field.name ≡ true) (is_own fields) fields (All-contains_itself fields))

placed_known : (fields : List Field) (o : Ordering) (key other : List ℕ) (d e : Data) (others : Members) → is_field fields key ≡ true → are_fields fields (member other e others) ≡ true → are_fields fields (put key d others) ≡ true
    → are_fields fields (match_ordering o (member key d (member other e others)) (member other d others) (member other e (put key d others))) ≡ true
placed_known fields Less key other d e others known rest deeper = and_from (is_field fields key) (are_fields fields (member other e others)) known rest
placed_known fields Equal key other d e others known rest deeper = rest
placed_known fields Greater key other d e others known rest deeper =
    and_from (is_field fields other) (are_fields fields (put key d others)) (and_parts (is_field fields other) (are_fields fields others) rest).0 deeper

pub put_known : (fields : List Field) (key : List ℕ) (d : Data) (others : Members) → is_field fields key ≡ true → are_fields fields others ≡ true → are_fields fields (put key d others) ≡ true
put_known fields key d no_members known rest = and_from (is_field fields key) true known refl
put_known fields key d (member other e others) known rest =
    placed_known fields (slice_cmp nat_cmp key other) key other d e others known rest
    (put_known fields key d others known (and_parts (is_field fields other) (are_fields fields others) rest).1)

all_known : (fields : List Field) (names : List (List ℕ)) (parts : List Data) (so_far : Members) → All (λ name. is_field fields name ≡ true) names → are_fields fields so_far ≡ true
    → are_fields fields (fold (λ members part. put part.0 part.1 members) so_far (zip names parts)) ≡ true
all_known fields [] parts so_far each rest = rest
all_known fields (name ∷ names) [] so_far each rest = rest
all_known fields (name ∷ names) (part ∷ parts) so_far each rest =
    all_known fields names parts (put name part so_far) (All-tail (λ n. is_field fields n ≡ true) name names each)
    (put_known fields name part so_far (All-head (λ n. is_field fields n ≡ true) name names each) rest)

pub members_known_all : (fields : List Field) (parts : List Data) → are_fields fields (members_of_fields (zip (field_names fields) parts)) ≡ true
members_known_all fields parts = all_known fields (field_names fields) parts no_members (names_known fields) refl

-- ---- each field has its part

left_alone : (name : List ℕ) (names : List (List ℕ)) (parts : List Data) (so_far : Members) → All (λ other. name ≡ other → ⊥) names
    → get_member name (fold (λ members part. put part.0 part.1 members) so_far (zip names parts)) ≡ get_member name so_far
left_alone name [] parts so_far apart = refl
left_alone name (other ∷ names) [] so_far apart = refl
left_alone name (other ∷ names) (part ∷ parts) so_far apart =
    left_alone name names parts (put other part so_far) (All-tail (λ o. name ≡ o → ⊥) other names apart)
    ∙ get_member-put_other name other part so_far (All-head (λ o. name ≡ o → ⊥) other names apart)

pub each_found : (fields : List Field) (parts : List Data) (so_far : Members) → AreNamesApart (field_names fields) → length parts ≡ length fields
    → AllZip (λ field part. get_member field.name (fold (λ members part. put part.0 part.1 members) so_far (zip (field_names fields) parts)) ≡ Some part) fields parts
each_found [] [] so_far apart long = tt
each_found [] (part ∷ parts) so_far apart long = absurd (omega arith)
each_found (field ∷ fields) [] so_far apart long = absurd (omega arith)
each_found (field ∷ fields) (part ∷ parts) so_far apart long = (
  left_alone field.name (field_names fields) parts (put field.name part so_far) apart.0 ∙ get_member-put field.name part so_far,
  each_found fields parts (put field.name part so_far) apart.1 (omega arith),
)
