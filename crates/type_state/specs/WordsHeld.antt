-- How many words the rows of a half take where they stand packed.
use Rattle.std.specs.Prelude.{ℕ, ◌+◌}
use Rattle.std.specs.FinMap.{values}
use Rattle.schema_model.specs.declared.schema.Shape.{Shape}
use Rattle.type_rows.specs.Layout.{fixed_words}
use Rattle.packed_half.specs.Half.{byte_words}
use Rattle.packed_half.specs.LaidOut.{lengths_of}
use Rattle.type_state.specs.State.{Half}

-- The fixed words of the rows at the half's layout, those of the places and those of the items, and behind them for each STRING or BYTES field the
-- words of its bytes, eight in a word.
abbrev pub words_held : Shape → Half → ℕ
words_held shape half = fixed_words shape half.layout (values half.rows) + byte_words (lengths_of shape (values half.rows))
