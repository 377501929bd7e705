-- Lemmas on the bytes of fields that stand in words, and on runs of them that are put behind others.
use Rattle.std.proofs.Common.{◌≡◌, ℕ, zero, suc, ◌-◌, ◌*◌, ◌<◌, ◌≤◌, List, [], ◌∷◌, ◌++◌, length, get_or, take, drop, map, refl, sym, ap, ◌∙◌, arith, Result, Ok, Err, OnOk}
use Rattle.std.proofs.lemmas.List.FromFn.{length-map-range_with_len}
use Rattle.bit_array.specs.Element.{element_of}
use Rattle.row_model.specs.Areas.{area_of}
use Rattle.object_codec.specs.declared.bytes.PackedBytes.{PackedBytes}
use Rattle.object_codec.specs.Bytes.{bytes_of}

pub area_in_words : (areas : List PackedBytes) (field : ℕ) (bytes : PackedBytes) → field < length areas → area_of (map bytes_of areas) field ≡ bytes_of (get_or areas field bytes)
area_in_words [] field bytes inside = absurd (omega arith)
area_in_words (first ∷ rest) zero bytes inside = refl
area_in_words (first ∷ rest) (suc field) bytes inside = area_in_words rest field bytes (omega arith)

-- a field that has a byte has an area
pub field_inside : (areas : List PackedBytes) (field end : ℕ) → 1 ≤ end → end ≤ length (area_of (map bytes_of areas) field) → field < length areas
field_inside [] field end some inside = absurd (omega arith)
field_inside (first ∷ rest) zero end some inside = omega arith
field_inside (first ∷ rest) (suc field) end some inside = let before = field_inside rest field end some inside in omega (arith, before)

pub bytes_long : (bytes : PackedBytes) → length (bytes_of bytes) ≡ bytes.len
bytes_long bytes = length-map-range_with_len (λ index. element_of bytes.words.now (index * 8) 8) bytes.start bytes.len

-- the bytes that are put are those of the field
pub put_is : {E : Type 0} (areas : List PackedBytes) (field start end : ℕ) (bytes run : PackedBytes) (before after : List ℕ) (result : Result (Unit {0}) E) → field < length areas
    → bytes_of run ≡ take (end - start) (drop start (bytes_of (get_or areas field bytes))) → OnOk result (after ≡ before ++ bytes_of run)
    → OnOk result (after ≡ before ++ take (end - start) (drop start (area_of (map bytes_of areas) field)))
put_is areas field start end bytes run before after (Ok done) inside is put =
    put ∙ ap (λ (all : List ℕ). before ++ all) (is ∙ ap (λ (all : List ℕ). take (end - start) (drop start all)) (sym (area_in_words areas field bytes inside)))
put_is areas field start end bytes run before after (Err fault) inside is put = tt
