-- Rows that are laid out, and the limits on words and bytes.
use Rattle.std.proofs.Common.{◌≡◌, ℕ, ◌+◌, ◌*◌, ◌<◌, ◌≤◌, ap, sym, ◌∙◌, subst, arith}
use Rattle.std.specs.Prelude.{All}
use Rattle.std.specs.FinMap.{values}
use Rattle.bit_array.specs.Element.{words_of}
use Rattle.schema_model.specs.declared.schema.Shape.{Shape}
use Rattle.schema_model.specs.declared.limit.Limit.TheVariants.{Bytes, Words}
use Rattle.schema_model.specs.Limit.{number_of_limit}
use Rattle.type_rows.specs.declared.section.Section.{Section}
use Rattle.type_rows.specs.declared.fault.RowFault.{RowFault}
use Rattle.type_rows.specs.Layout.{counted_words, item_bits, places_of, record_bits, words_needed}
use Rattle.type_rows.specs.Loads.{layout_of}
use Rattle.type_rows.proofs.CountedWords.{all_words}
use Rattle.type_rows.specs.LoadFault.{FailsLoad, load_tests}
use Rattle.type_rows.specs.Tests.{LeadsHeld}
use Rattle.type_rows.specs.declared.sums.Sums.{Sums}
use Rattle.type_rows.specs.Sums.{IsLaidOut, LoadsSummed}

-- The fixed words, by the items of the rows.
abbrev pub words_by : Shape → Section → ℕ → ℕ
words_by shape section items = words_needed shape (layout_of section) + words_of (items * item_bits shape section.widths)

module _ (shape : Shape) (section : Section) (sums : Sums) (bytes words : ℕ) (laid : IsLaidOut shape section sums bytes) (is : words ≡ words_by shape section sums.items) where
  words_are : words ≡ counted_words shape (record_bits shape section.widths) (layout_of section) (values laid.0)
  words_are = is ∙ ap (words_by shape section) laid.2.counted ∙ sym (all_words shape (layout_of section) (values laid.0))

  held : LeadsHeld shape (layout_of section) (load_tests shape section) laid.0
  held = record { leads = laid.1; held = laid.2.held }

  pub pass_words : number_of_limit Words < words → FailsLoad shape section (RowFault.Limit Words)
  pass_words over = (laid.0, held, omega (arith, over, words_are))

  pub pass_bytes : words ≤ number_of_limit Words → number_of_limit Bytes < bytes → FailsLoad shape section (RowFault.Limit Bytes)
  pass_bytes few over = (laid.0, held, (λ pass. omega (arith, pass, few, words_are)), omega (arith, over, laid.2.total))

  pub loads_summed : words ≤ number_of_limit Words → bytes ≤ number_of_limit Bytes → LoadsSummed shape section sums
  loads_summed few light = (
    laid.0,
    record {
      is = laid.1;
      held = record { parts = laid.2.held; places = subst (All (λ o. o < places_of section.max)) (sym laid.1.live) laid.1.places };
      within = record { words = omega (arith, few, words_are); bytes = omega (arith, light, laid.2.total) };
    },
    record { items = laid.2.counted; lengths = laid.2.reached },
  )
