-- The leads of a record go through each of its fields once, so that what they count is what the fields count.
use Rattle.std.proofs.Common.{◌≡◌, ℕ, ◌+◌, ◌<◌, ◌≤◌, ◌∙◌, List, [], ◌∷◌, length, map, zip, get_or, refl, sym, ap, subst, arith, String, Global}
use Rattle.std.specs.Prelude.{All}
use Rattle.std.specs.List.{fold}
use Rattle.std.specs.Ordering.{is_eq, nat_cmp, match_ordering}
use Rattle.std.specs.declared.cmp.Ordering.{Ordering}
use Rattle.std.specs.declared.cmp.Ordering.TheVariants.{Less, Equal, Greater}
use Rattle.std.specs.Cmp.Lexicographic.{slice_cmp}
use Rattle.std.specs.Str.{bytes_eq}
use Rattle.std.proofs.lemmas.List.{get_or-map, length-map}
use Rattle.std.proofs.lemmas.List.Elements.{All-head, All-tail}
use Rattle.std.proofs.lemmas.Map.Text.{is_eq-slice_cmp}
use Rattle.std.proofs.lemmas.Slice.Eq.{bytes_eq-Decides}
use Rattle.serde_json.specs.Data.{Data, null, number, unsigned, Members, no_members, member, put}
use Rattle.schema_model.specs.declared.schema.Field.{Field}
use Rattle.schema_model.specs.Parts.{field_names}
use Rattle.json_rows.specs.FieldOrder.{AreBelow, IsByteOrder, Order, members_at}
use Rattle.json_rows.specs.LineForm.{AreWholeLeads, places_of}
use Rattle.json_rows.specs.StoredRow.{members_of_fields}
use Rattle.record_json.specs.NamesApart.{AreNamesApart}
use Rattle.record_json.specs.Printing.{count_of}

-- ---- the numbers that stand in an object

abbrev weight : Data → ℕ
weight (number (unsigned n)) = n
weight _ = 0

abbrev members_weight : Members → ℕ
members_weight no_members = 0
members_weight (member name json rest) = weight json + members_weight rest

-- no member has the name
abbrev IsNoMember : List ℕ → Members → Type 0
IsNoMember name no_members = Unit {0}
IsNoMember name (member other json rest) = (name ≡ other → ⊥) × IsNoMember name rest

abbrev AreNoMembers : List (List ℕ) → Members → Type 0
AreNoMembers [] others = Unit {0}
AreNoMembers (name ∷ names) others = IsNoMember name others × AreNoMembers names others

same_name : (name other : List ℕ) → slice_cmp nat_cmp name other ≡ Equal → name ≡ other
same_name name other is = (bytes_eq-Decides name other).0 (sym (is_eq-slice_cmp name other) ∙ ap is_eq is)

placed_weight : (o : Ordering) (name other : List ℕ) (d e : Data) (rest : Members) → slice_cmp nat_cmp name other ≡ o → (name ≡ other → ⊥) → members_weight (put name d rest) ≡ weight d + members_weight rest
    → members_weight (match_ordering o (member name d (member other e rest)) (member other d rest) (member other e (put name d rest))) ≡ weight d + (weight e + members_weight rest)
placed_weight Less name other d e rest is apart deeper = refl
placed_weight Equal name other d e rest is apart deeper = absurd (apart (same_name name other is))
placed_weight Greater name other d e rest is apart deeper = omega (arith, deeper)

put_weight : (name : List ℕ) (d : Data) (members : Members) → IsNoMember name members → members_weight (put name d members) ≡ weight d + members_weight members
put_weight name d no_members none = refl
put_weight name d (member other e rest) none = placed_weight _ name other d e rest refl none.0 (put_weight name d rest none.1)

placed_none : (o : Ordering) (looked name other : List ℕ) (d e : Data) (rest : Members) → (looked ≡ name → ⊥) → (looked ≡ other → ⊥) → IsNoMember looked rest → IsNoMember looked (put name d rest)
    → IsNoMember looked (match_ordering o (member name d (member other e rest)) (member other d rest) (member other e (put name d rest)))
placed_none Less looked name other d e rest apart also none deeper = (apart, (also, none))
placed_none Equal looked name other d e rest apart also none deeper = (also, none)
placed_none Greater looked name other d e rest apart also none deeper = (also, deeper)

put_none : (looked name : List ℕ) (d : Data) (members : Members) → (looked ≡ name → ⊥) → IsNoMember looked members → IsNoMember looked (put name d members)
put_none looked name d no_members apart none = (apart, tt)
put_none looked name d (member other e rest) apart none = placed_none (slice_cmp nat_cmp name other) looked name other d e rest apart none.0 none.1 (put_none looked name d rest apart none.1)

all_none : (names : List (List ℕ)) (name : List ℕ) (d : Data) (rest : Members) → All (λ other. name ≡ other → ⊥) names → AreNoMembers names rest → AreNoMembers names (put name d rest)
all_none [] name d rest apart none = tt
all_none (other ∷ names) name d rest apart none = (
  put_none other name d rest (λ is. All-head (λ o. name ≡ o → ⊥) other names apart (sym is)) none.0,
  all_none names name d rest (All-tail (λ o. name ≡ o → ⊥) other names apart) none.1,
)

nothing_none : (names : List (List ℕ)) → AreNoMembers names no_members
nothing_none [] = tt
nothing_none (name ∷ names) = (tt, nothing_none names)

fold_weight : (names : List (List ℕ)) (parts : List Data) (so_far : Members) → AreNamesApart names → AreNoMembers names so_far → length parts ≡ length names
    → members_weight (fold (λ members part. put part.0 part.1 members) so_far (zip names parts)) ≡ members_weight so_far + count_of weight parts
fold_weight [] [] so_far apart none long = omega arith
fold_weight [] (part ∷ parts) so_far apart none long = absurd (omega (arith, long))
fold_weight (name ∷ names) [] so_far apart none long = absurd (omega (arith, long))
fold_weight (name ∷ names) (part ∷ parts) so_far apart none long =
    let rest = fold_weight names parts (put name part so_far) apart.1 (all_none names name part so_far apart.0 none.1) (omega (arith, long)) in
    let first = put_weight name part so_far none.0 in
    omega (arith, rest, first)

-- ---- counted along an order, and along the fields

count_numbers : (counts : List ℕ) → count_of weight (map (λ n. number (unsigned n)) counts) ≡ count_of (λ n. n) counts
count_numbers [] = refl
count_numbers (n ∷ counts) = ap (λ k. n + k) (count_numbers counts)

pub count_mapped : {A B : Type 0} (f : B → ℕ) (g : A → B) (xs : List A) → count_of (λ x. f (g x)) xs ≡ count_of f (map g xs)
count_mapped f g [] = refl
count_mapped f g (x ∷ xs) = ap (λ k. f (g x) + k) (count_mapped f g xs)

order_weight : (order : Order) (counts : List ℕ) → AreBelow (length counts) order
    → members_weight (members_at order (map (λ n. number (unsigned n)) counts)) ≡ count_of (λ place. get_or counts place 0) (places_of order)
order_weight [] counts below = refl
order_weight (first ∷ order) counts below =
    let here : weight (get_or (map (λ n. number (unsigned n)) counts) first.1 null) ≡ get_or counts first.1 0 = ap weight (get_or-map (λ n. number (unsigned n)) counts first.1 0 null below.0) in
    let rest = order_weight order counts below.1 in
    omega (arith, here, rest)

none_before : (n : ℕ) → 0 + n ≡ n
none_before n = omega arith

-- Leads that go through each field once count what the fields count.
pub whole_count : {A : Type 0} (nodes : A → ℕ) (xs : List A) (fields : List Field) (leads : Order) → AreNamesApart (field_names fields) → AreWholeLeads fields leads → length xs ≡ length fields
    → count_of (λ lead. get_or (map nodes xs) lead.1 0) leads ≡ count_of nodes xs
whole_count nodes xs fields leads apart whole long =
    let counts = map nodes xs in
    let parts = map (λ n. number (unsigned n)) counts in
    let (order, ordered, places) = whole.ordered in
    let counts_long : length counts ≡ length fields = length-map xs nodes ∙ long in
    let parts_long : length parts ≡ length fields = length-map counts (λ n. number (unsigned n)) ∙ counts_long in
    let names_long : length parts ≡ length (field_names fields) = parts_long ∙ sym (length-map fields (λ (f : Field). f.name)) in
    let along : members_weight (members_at order parts) ≡ count_of (λ place. get_or counts place 0) (places_of order) =
    order_weight order counts (subst (λ bound. AreBelow bound order) (sym counts_long) ordered.below) in
    let across : members_weight (members_of_fields (zip (field_names fields) parts)) ≡ count_of weight parts = fold_weight (field_names fields) parts no_members apart (nothing_none (field_names fields)) names_long ∙ none_before (count_of weight parts) in
    count_mapped (λ place. get_or counts place 0) (λ (lead : String Global × ℕ). lead.1) leads ∙ ap (count_of (λ place. get_or counts place 0)) places
    ∙ sym along ∙ ap members_weight (ordered.members parts parts_long) ∙ across ∙ count_numbers counts ∙ sym (count_mapped (λ n. n) nodes xs)
