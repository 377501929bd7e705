-- The layout of a type in a blob: the max ordinal, which is the greatest that has a place, and the widths of the parts of its rows in bits.
use Rattle.std.specs.Prelude.{ℕ, ◌+◌, ◌-◌, ◌*◌, ◌^◌, min, List, ◌∷◌, Option, None, Some, length, sum, sum_by}
use Rattle.bit_array.specs.Element.{words_of}
use Rattle.schema_model.specs.declared.schema.Shape.{Shape}
use Rattle.row_model.specs.declared.row.Row.{Row}
use Rattle.bucket_codec.specs.BucketCount.{bucket_count}

pub record Layout : Type 0 where
  pub max : Option ℕ
  pub widths : List ℕ

-- How many places there are: one for each ordinal up to the max ordinal, none without one.
abbrev pub places_of : Option ℕ → ℕ
places_of None = 0
places_of (Some max) = max + 1

-- How many widths a layout has: one for each field of an OBJECT; those of a LIST's pointers and elements; of a SET's pointers, sizes and
-- elements; of a MAP's pointers, sizes, keys and values.
abbrev pub width_count : Shape → ℕ
width_count (Shape.Object key fields) = length fields
width_count (Shape.List element) = 2
width_count (Shape.Set element) = 3
width_count (Shape.Map key value) = 4

-- How many bits a place takes: the record of an OBJECT, as wide as its fields together, the pointer of a LIST, and the pointer and the size
-- of a SET or MAP.
abbrev pub place_bits : Shape → List ℕ → ℕ
place_bits (Shape.Object key fields) widths = sum widths
place_bits (Shape.List element) (pointer ∷ rest) = pointer
place_bits (Shape.Set element) (pointer ∷ size ∷ rest) = pointer + size
place_bits (Shape.Map key value) (pointer ∷ size ∷ rest) = pointer + size
place_bits _ _ = 0

-- The words that the places need: a section of a blob has no fewer.
abbrev pub words_needed : Shape → Layout → ℕ
words_needed shape layout = words_of (places_of layout.max * place_bits shape layout.widths)

-- How many bits an item takes: an element of a LIST, a bucket of a SET, which is an element, or one of a MAP, which is a key and a value. An
-- OBJECT has no items.
abbrev pub item_bits : Shape → List ℕ → ℕ
item_bits (Shape.List element) (pointer ∷ width ∷ rest) = width
item_bits (Shape.Set element) (pointer ∷ size ∷ width ∷ rest) = width
item_bits (Shape.Map key value) (pointer ∷ size ∷ key_width ∷ value_width ∷ rest) = key_width + value_width
item_bits _ _ = 0

-- The items of a row: the elements of a list, and the buckets that a set or map of so many elements takes.
abbrev pub items_of_row : Row → ℕ
items_of_row (Row.Object values) = 0
items_of_row (Row.List ordinals) = length ordinals
items_of_row (Row.Set ordinals) = bucket_count (length ordinals)
items_of_row (Row.Map pairs) = bucket_count (length pairs)

-- The items of some rows.
abbrev pub item_count : List Row → ℕ
item_count rows = sum_by items_of_row rows

-- The fixed words of a type in one state, which the limit on words counts: those of its places, and besides those of the items of its rows.
abbrev pub fixed_words : Shape → Layout → List Row → ℕ
fixed_words shape layout rows = words_needed shape layout + words_of (item_count rows * item_bits shape layout.widths)

-- How many bits the record of an OBJECT takes, all its fields together; the other kinds have none.
abbrev pub record_bits : Shape → List ℕ → ℕ
record_bits (Shape.Object key fields) widths = sum widths
record_bits _ widths = 0

-- The same as a number of 32 bits, which no type of 1,024 fields passes.
abbrev pub own_bits : Shape → List ℕ → ℕ
own_bits shape widths = min (record_bits shape widths) (2 ^ 32 - 1)

-- How many bits the limit on words counts for a place: those of the fields of an OBJECT that count, `own` together, and all bits else.
abbrev pub counted_bits : Shape → ℕ → List ℕ → ℕ
counted_bits (Shape.Object key fields) own widths = own
counted_bits shape own widths = place_bits shape widths

-- The words that the limit on words counts for the places.
abbrev pub places_counted : Shape → ℕ → Layout → ℕ
places_counted shape own layout = words_of (places_of layout.max * counted_bits shape own layout.widths)

-- The words of a type in one state that the limit on words counts: those of its places, and besides those of the items of its rows. They are the
-- fixed words where all fields count.
abbrev pub counted_words : Shape → ℕ → Layout → List Row → ℕ
counted_words shape own layout rows = places_counted shape own layout + words_of (item_count rows * item_bits shape layout.widths)
