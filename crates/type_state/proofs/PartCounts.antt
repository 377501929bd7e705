-- The words of the places of a half, and those of its items, by the numbers that are computed.
use Rattle.std.proofs.Common.{◌≡◌, ℕ, ◌+◌, ◌*◌, List, None, ap, ◌∙◌, arith}
use Rattle.bit_array.specs.Element.{words_of}
use Rattle.schema_model.specs.declared.schema.Shape.{Shape}
use Rattle.packed_half.specs.declared.half.HalfShape.{HalfShape}
use Rattle.packed_half.specs.Half.{item_words, place_words}
use Rattle.type_rows.specs.Layout.{item_bits, place_bits, words_needed}

pub place_count_is : (shape : Shape) (half : HalfShape) (widths : List ℕ) (count : ℕ) → widths ≡ half.widths → count ≡ words_needed shape (record { max = half.max; widths = widths }) → count ≡ place_words shape half
place_count_is shape half widths count same is = is ∙ ap (λ (ws : List ℕ). words_needed shape (record { max = half.max; widths = ws })) same

pub item_count_is : (shape : Shape) (half : HalfShape) (widths : List ℕ) (count : ℕ) → widths ≡ half.widths
    → count ≡ words_needed shape (record { max = None; widths = widths }) + words_of (half.total * item_bits shape widths) → count ≡ item_words shape half
item_count_is shape half widths count same is =
    let none : words_needed shape (record { max = None; widths = widths }) ≡ 0 = no_places (place_bits shape widths) in
    let items = ap (λ (ws : List ℕ). words_of (half.total * item_bits shape ws)) same in
    omega (arith, is, none, items)
  where
    no_places : (bits : ℕ) → words_of (0 * bits) ≡ 0
    no_places bits = omega arith
