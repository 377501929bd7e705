-- The words that the limit on words counts, where all fields of a record count.
use Rattle.std.proofs.Common.{◌≡◌, ◌+◌, ◌*◌, ◌≤◌, ℕ, List, refl, ap, arith, mul-le-mul_left}
use Rattle.bit_array.specs.Element.{words_of}
use Rattle.schema_model.specs.declared.schema.Shape.{Shape}
use Rattle.row_model.specs.declared.row.Row.{Row}
use Rattle.type_rows.specs.Layout.{Layout, counted_bits, counted_words, fixed_words, item_bits, item_count, own_bits, place_bits, places_counted, places_of, record_bits, words_needed}

all_bits : (shape : Shape) (widths : List ℕ) → counted_bits shape (record_bits shape widths) widths ≡ place_bits shape widths
all_bits (Shape.Object key fields) widths = refl
all_bits (Shape.List element) widths = refl
all_bits (Shape.Set element) widths = refl
all_bits (Shape.Map key value) widths = refl

-- They are those of the places,
pub all_places : (shape : Shape) (layout : Layout) → places_counted shape (record_bits shape layout.widths) layout ≡ words_needed shape layout
all_places shape layout = ap (λ (bits : ℕ). words_of (places_of layout.max * bits)) (all_bits shape layout.widths)

-- and of rows the fixed words.
pub all_words : (shape : Shape) (layout : Layout) (rows : List Row) → counted_words shape (record_bits shape layout.widths) layout rows ≡ fixed_words shape layout rows
all_words shape layout rows = ap (λ (words : ℕ). words + words_of (item_count rows * item_bits shape layout.widths)) (all_places shape layout)

-- So many bits of a record count no more words than all do.
own_below : (shape : Shape) (widths : List ℕ) → counted_bits shape (own_bits shape widths) widths ≤ place_bits shape widths
own_below (Shape.Object key fields) widths = omega arith
own_below (Shape.List element) widths = omega arith
own_below (Shape.Set element) widths = omega arith
own_below (Shape.Map key value) widths = omega arith

pub own_words : (shape : Shape) (layout : Layout) (rows : List Row) → counted_words shape (own_bits shape layout.widths) layout rows ≤ fixed_words shape layout rows
own_words shape layout rows =
    let below : places_of layout.max * counted_bits shape (own_bits shape layout.widths) layout.widths ≤ places_of layout.max * place_bits shape layout.widths =
    mul-le-mul_left (places_of layout.max) (own_below shape layout.widths) in omega (arith, below)
