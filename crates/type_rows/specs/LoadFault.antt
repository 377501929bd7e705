-- The first fault of a section of a snapshot.
use Rattle.schema_model.specs.declared.schema.Shape.{Shape}
use Rattle.type_rows.specs.declared.section.Section.{Section}
use Rattle.type_rows.specs.declared.fault.RowFault.{RowFault}
use Rattle.type_rows.specs.Layout.{places_of, record_bits}
use Rattle.type_rows.specs.Loads.{SectionIs, layout_of}
use Rattle.type_rows.specs.Ordinals.{HasNoPlace, HoldsNowhere, IsLeast}
use Rattle.type_rows.specs.Places.{FirstPlaceFails}
use Rattle.type_rows.specs.Tests.{Tests, FailsFirst}

-- A live ordinal is bad that has no place; the place of an ordinal is that of its number.
abbrev pub load_tests : Shape → Section → Tests
load_tests shape section = record {
  BadOrdinal = IsLeast (HasNoPlace section.live (places_of section.max));
  Ordered = HoldsNowhere (HasNoPlace section.live (places_of section.max));
  BadPlace = FirstPlaceFails shape section section.live section.live;
  Leads = SectionIs shape section;
}

abbrev pub FailsLoad : Shape → Section → RowFault → Type 0
FailsLoad shape section = FailsFirst shape (record_bits shape section.widths) (layout_of section) (load_tests shape section)
