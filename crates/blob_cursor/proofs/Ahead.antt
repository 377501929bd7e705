-- The bytes that a cursor read ahead.
use Rattle.std.proofs.Common.{◌≡◌, ◌≤◌, ◌+◌, ◌-◌, ℕ, List, [], take, drop, length, sym, ap, refl, subst, ◌∙◌, inl, arith, Option, Some, None, Ok}
use Rattle.std.specs.Option.{OnSome, option_map}
use Rattle.std.proofs.lemmas.List.{drop-take, drop-drop}
use Rattle.std.proofs.lemmas.Grind.{common_steps}
use Rattle.hol_io.specs.Store.{Store, told}
use Rattle.hol_io.specs.declared.name.BlobName.{BlobName}
use Rattle.schema_model.specs.Limit.{number_of_limit}
use Rattle.schema_model.specs.declared.limit.Limit.TheVariants.{Blob}
use Rattle.blob_cursor.specs.Scene.{Place, IsPlaceIn}
use Rattle.blob_cursor.specs.Starting.{Starts}

-- moving past the first of them leaves the rest
pub drop_ahead : {A : Type 0} (buffer : List A) (begin end count : ℕ) → count ≤ end - begin →
    take (end - (begin + count)) (drop (begin + count) buffer) ≡ drop count (take (end - begin) (drop begin buffer))
drop_ahead {A} buffer begin end count h =
    let e : end - begin ≡ count + (end - (begin + count)) = omega arith in
    rw e (sym (drop-take count (end - (begin + count)) (drop begin buffer) ∙ ap (λ (xs : List A). take (end - (begin + count)) xs) (drop-drop count begin buffer)))

-- no more bytes stand ahead than were read
pub length_ahead : {A : Type 0} (buffer : List A) (begin end : ℕ) → length (take (end - begin) (drop begin buffer)) ≤ end - begin
length_ahead buffer begin end = grind (arith, common_steps)

-- a cursor that moved past bytes ahead of it
pub place_passed : (buffer : List ℕ) (begin end count size at : ℕ) (name : BlobName) (place : Place) →
    ◌≡◌ {A = Place} (record { name = name; size = size; at = at; ahead = take (end - begin) (drop begin buffer) }) place → count ≤ length place.ahead →
    ◌≡◌ {A = Place} (record { name = name; size = size; at = at + count; ahead = take (end - (begin + count)) (drop (begin + count) buffer) })
    (record { name = place.name; size = place.size; at = place.at + count; ahead = drop count place.ahead })
place_passed buffer begin end count size at name place is h =
    let enough : count ≤ end - begin = omega (arith, length_ahead buffer begin end, ap (λ (p : Place). length p.ahead) is) in
    subst (λ (p : Place). ◌≡◌ {A = Place} (record { name = name; size = size; at = at + count; ahead = take (end - (begin + count)) (drop (begin + count) buffer) })
    (record { name = p.name; size = p.size; at = p.at + count; ahead = drop count p.ahead })) is
    (ap (λ (xs : List ℕ). record { name = name; size = size; at = at + count; ahead = xs }) (drop_ahead buffer begin end count enough))

-- a cursor that has read nothing stands in the blob whose size it knows
pub over_start : (held : Option Store) (name : BlobName) (size : ℕ) → OnSome held (Some size ≡ option_map length (told held name)) →
    IsPlaceIn (record { name = name; size = size; at = 0; ahead = [] }) (told held name)
over_start None name size h = tt
over_start (Some store) name size h =
    elim (told (Some store) name) as (λ content. Some size ≡ option_map length content → IsPlaceIn (record { name = name; size = size; at = 0; ahead = [] }) content) [
      | None ↦ λ e. tt
      | Some blob ↦ λ e. let same : size ≡ length blob = cc in (same, omega arith, refl)
    ] h

pub starts_found : (name : BlobName) (content : Option (List ℕ)) (place : Place) → Some place.size ≡ option_map length content → place.size ≤ number_of_limit Blob →
    Starts name content (Ok place)
starts_found name None place e small = absurd (cc)
starts_found name (Some blob) place e small =
    let same : place.size ≡ length blob = cc in
    record {
      found = λ other is fits. let b : blob ≡ other = cc in inl (place, refl, same ∙ ap length b);
      absent = λ is. absurd (cc);
      large = λ other is over. let b : blob ≡ other = cc in absurd (omega (arith, ap length b));
    }

-- the same, of a store that may tell nothing
pub starts_held : (held : Option Store) (name : BlobName) (place : Place) → OnSome held (Some place.size ≡ option_map length (told held name)) → place.size ≤ number_of_limit Blob →
    OnSome held (Starts name (told held name) (Ok place))
starts_held None name place e small = tt
starts_held (Some store) name place e small = starts_found name (told (Some store) name) place e small
