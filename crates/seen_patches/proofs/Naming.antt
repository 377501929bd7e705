-- What stands for the field of a name.
use Rattle.std.proofs.Common.{◌≡◌, ℕ, ◌+◌, ◌*◌, ◌<◌, ◌≤◌, List, [], ◌∷◌, ◌++◌, length, take, Option, None, Some, sym, ap, ◌∙◌, arith}
use Rattle.std.specs.Prelude.{All, IfSome, option_and_then, slice_get, unwrap_or}
use Rattle.std.proofs.lemmas.List.{length-map, map-append, take_all}
use Rattle.std.proofs.lemmas.List.Sums.{sum_by_push}
use Rattle.schema_model.specs.declared.schema.Field.{Field}
use Rattle.schema_model.specs.Parts.{field_names}
use Rattle.schema_model.proofs.Indexing.{name_found}
use Rattle.seen_patches.specs.ByName.{field_in, item_named}
use Rattle.seen_patches.specs.Nulls.{null_width}
use Rattle.seen_patches.specs.Seen.{own_width, seen_width, seen_widths, shared_bits}
use Rattle.seen_patches.proofs.PutColumns.{named_all, take_field}

-- the index of a name is that of a field
pub found_inside : (fields : List Field) (name : List ℕ) (o : Option ℕ) → o ≡ field_in fields name → IfSome o (λ place. place < length fields)
found_inside fields name None is = tt
found_inside fields name (Some place) is =
    let found = name_found (field_names fields) name place (sym is) in omega (arith, found.0, length-map fields (λ (f : Field). f.name))

pub inside_of : (fields : List Field) (long : ℕ) (o : Option ℕ) → long ≡ length fields → IfSome o (λ place. place < length fields) → IfSome o (λ place. place < long)
inside_of fields long None same inside = tt
inside_of fields long (Some place) same inside = omega (arith, same, inside)

-- what the code finds is what stands for the name
pub named_is : {A : Type 0} (fields : List Field) (items : List A) (name text : List ℕ) (place : Option ℕ) (item other : A) → item ≡ unwrap_or (option_and_then (slice_get items) place) other
    → place ≡ field_in fields text → text ≡ name → item ≡ unwrap_or (item_named fields items name) other
named_is fields items name text place item other is found same = is ∙ ap (λ (o : Option ℕ). unwrap_or (option_and_then (slice_get items) o) other) (found ∙ ap (field_in fields) same)

-- one width more
pub width_more : (mine theirs : List Field) (widths seen more : List ℕ) (index width null : ℕ) (field : Field) (text : List ℕ) (place : Option ℕ) → slice_get mine index ≡ Some field
    → width ≡ unwrap_or (option_and_then (slice_get widths) place) null → null ≡ null_width field.kind → place ≡ field_in theirs text → text ≡ field.name → more ≡ seen ++ width ∷ []
    → seen ≡ seen_widths (take index mine) theirs widths → more ≡ seen_widths (take (index + 1) mine) theirs widths
width_more mine theirs widths seen more index width null field text place there is none found same grown so_far =
    let of : width ≡ seen_width theirs widths field =
    named_is theirs widths field.name text place width null is found same ∙ ap (λ (n : ℕ). unwrap_or (item_named theirs widths field.name) n) none in
    grown
    ∙ ap (λ (ws : List ℕ). ws ++ width ∷ []) so_far
    ∙ ap (λ (w : ℕ). seen_widths (take index mine) theirs widths ++ w ∷ []) of
    ∙ sym (map-append (seen_width theirs widths) (take index mine) (field ∷ []))
    ∙ ap (λ (fields : List Field). seen_widths fields theirs widths) (sym (take_field mine index field there))

pub widths_all : (mine theirs : List Field) (widths seen : List ℕ) (index : ℕ) → length mine ≤ index → seen ≡ seen_widths (take index mine) theirs widths → seen ≡ seen_widths mine theirs widths
widths_all mine theirs widths seen index done so_far = so_far ∙ ap (λ (fields : List Field). seen_widths fields theirs widths) (take_all index mine done)

-- ---- the widths that both have

small_or : (o : Option ℕ) → IfSome o (λ w. w ≤ 64) → unwrap_or o 0 ≤ 64
small_or None small = omega arith
small_or (Some w) small = small

-- the width of a field that counts has 64 bits at most
pub own_small : (widths : List ℕ) (place : Option ℕ) → All (λ width. width ≤ 64) widths → unwrap_or (option_and_then (slice_get widths) place) 0 ≤ 64
own_small widths place narrow = small_or (option_and_then (slice_get widths) place) (named_all (λ width. width ≤ 64) widths place narrow)

pub shared_more : (mine theirs : List Field) (widths : List ℕ) (index width bits : ℕ) (field : Field) (text : List ℕ) (place : Option ℕ) → slice_get mine index ≡ Some field
    → width ≡ unwrap_or (option_and_then (slice_get widths) place) 0 → place ≡ field_in theirs text → text ≡ field.name → All (λ w. w ≤ 64) widths
    → (bits ≡ shared_bits (take index mine) theirs widths) × (bits ≤ index * 64)
    → (bits + width ≡ shared_bits (take (index + 1) mine) theirs widths) × (bits + width ≤ (index + 1) * 64)
shared_more mine theirs widths index width bits field text place there is found same narrow so_far =
    let of : width ≡ own_width theirs widths field = named_is theirs widths field.name text place width 0 is found same in
    let small = own_small widths place narrow in (
      ap (λ (b : ℕ). b + width) so_far.0
          ∙ ap (λ (w : ℕ). shared_bits (take index mine) theirs widths + w) of
          ∙ sym (sum_by_push (own_width theirs widths) (take index mine) field)
          ∙ ap (λ (fields : List Field). shared_bits fields theirs widths) (sym (take_field mine index field there)),
      omega (arith, so_far.1, is, small),
    )

pub shared_all : (mine theirs : List Field) (widths : List ℕ) (index bits : ℕ) → length mine ≤ index → bits ≡ shared_bits (take index mine) theirs widths → bits ≡ shared_bits mine theirs widths
shared_all mine theirs widths index bits done so_far = so_far ∙ ap (λ (fields : List Field). shared_bits fields theirs widths) (take_all index mine done)
