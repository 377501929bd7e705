-- The rows of a type of lists, sets or maps, laid out one behind the other.
use Rattle.std.proofs.Common.{◌≡◌, ℕ, ◌+◌, ◌^◌, ◌<◌, ◌≤◌, List, [], Some, take, refl, ap, ◌∙◌, subst, arith}
use Rattle.std.specs.Prelude.{slice_get, slice_index}
use Rattle.std.specs.FinMap.{keys, values}
use Rattle.schema_model.specs.declared.schema.Shape.{Shape}
use Rattle.schema_model.specs.declared.reason.Reason.{Reason}
use Rattle.row_model.specs.Table.{RowMap}
use Rattle.type_rows.specs.declared.section.Section.{Section}
use Rattle.type_rows.specs.declared.fault.RowFault.{RowFault}
use Rattle.type_rows.specs.Loads.{SectionIs}
use Rattle.type_rows.specs.LoadFault.{FailsLoad}
use Rattle.type_rows.specs.RunItems.{HasRuns, items_at}
use Rattle.type_rows.specs.Sums.{AreLaid, IsOfRows}
use Rattle.type_rows.proofs.FoundRows.{row_there}
use Rattle.type_rows.proofs.Laying.{first_unheld, laid_more, laid_none}
use Rattle.type_rows.proofs.RunsFit.{end_held, items_told, no_bytes, run_fits}

-- The first so many rows of the section are laid out.
abbrev pub RunsLaid : Shape → Section → ℕ → ℕ → Type 0
RunsLaid shape section index items = (rows : RowMap) → SectionIs shape section rows → AreLaid shape section.widths (take index (values rows)) items [] 0

pub runs_begun : (shape : Shape) (section : Section) → RunsLaid shape section 0 0
runs_begun shape section rows is = laid_none shape section.widths (values rows) 0 [] refl (λ field. refl)

pub runs_more : (shape : Shape) (section : Section) (live : List ℕ) (index place items more : ℕ) → HasRuns shape → live ≡ section.live → slice_get live index ≡ Some place → RunsLaid shape section index items
    → more ≡ items + items_at shape section place → more < 2 ^ slice_index section.widths 0 → RunsLaid shape section (index + 1) more
runs_more shape section live index place items more runs same at laid up low rows is =
    let there = row_there shape section rows index place is (subst (λ list. slice_get list index ≡ Some place) same at) in
    let none = no_bytes shape section place there.0 runs there.2 in
    let count = items_told shape section place there.0 there.2 in
    laid_more shape section.widths (values rows) index there.0 items more [] [] 0 0 (laid rows is) there.1
    (run_fits shape section place there.0 [] items runs there.2 (omega (arith, up, low)))
    (omega (arith, up, count)) (λ field. omega (arith, none.1 field)) (omega (arith, none.0))

pub run_unheld : (shape : Shape) (section : Section) (live : List ℕ) (index place items : ℕ) → HasRuns shape → live ≡ section.live → IsOfRows shape section → slice_get live index ≡ Some place → RunsLaid shape section index items
    → 2 ^ slice_index section.widths 0 ≤ items + items_at shape section place → FailsLoad shape section (RowFault.At Reason.BadWidth place)
run_unheld shape section live index place items runs same leads at laid high =
    let rows = leads.0 in
    let here : slice_get section.live index ≡ Some place = subst (λ list. slice_get list index ≡ Some place) same at in
    let there = row_there shape section rows index place leads.1 here in (
      rows,
      leads.1,
      first_unheld shape section.widths (keys rows) (values rows) index place there.0 items [] 0 (laid rows leads.1)
          (ap (λ list. slice_get list index) leads.1.live ∙ here) there.1
          (λ fits. omega (arith, high, end_held shape section place there.0 [] items runs there.2 fits)),
    )
