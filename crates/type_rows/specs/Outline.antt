-- What is known of some rows beside themselves.
use Rattle.type_rows.specs.declared.outline.Outline.{Outline}
use Rattle.type_rows.specs.Layout.{Layout}

-- The layout of an outline.
abbrev pub layout_at : Outline → Layout
layout_at outline = record { max = outline.max; widths = outline.widths }
