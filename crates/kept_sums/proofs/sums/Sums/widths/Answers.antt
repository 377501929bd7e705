use Rattle.std.proofs.Common.{◌∙◌, ap, arith}
use Rattle.std.proofs.lemmas.Result.{IfOk-weaker}
use Rattle.kept_sums.specs.Sums.{TypeSums}
use Rattle.kept_sums.proofs.Reading.{list_read, map_read, record_read, set_read}
use Rattle.kept_sums.proofs.sums.Sums.widths.Goals as goal

pub returns-in-Object : goal.returns-in-Object
returns-in-Object c =
    let parts = c.as_slice-parts.ensures.value ∙ ap (λ (s : TypeSums). s.parts) c.self.view_is in
    IfOk-weaker c.record_widths.result _ _
    (λ widths is rows are few. record_read c.args.shape.now c.args.self.now rows are few c.as_slice-parts.result.now parts _ _ c.as_slice.result.now widths c.in-Object.is c.as_slice.ensures is) c.record_widths.ensures

pub returns-in-List : goal.returns-in-List
returns-in-List c =
    let parts = c.as_slice-parts.ensures.value ∙ ap (λ (s : TypeSums). s.parts) c.self.view_is in
    let items = ap (λ (s : TypeSums). s.items) c.self.view_is in
    IfOk-weaker c.list_widths.result _ _
    (λ widths is rows are few. list_read c.args.shape.now c.args.self.now rows are few c.as_slice-parts.result.now parts _ _ widths c.in-List.is (omega (arith, c.min-items.ensures, items)) is) c.list_widths.ensures

pub returns-in-Set : goal.returns-in-Set
returns-in-Set c =
    let parts = c.as_slice-parts.ensures.value ∙ ap (λ (s : TypeSums). s.parts) c.self.view_is in
    let items = ap (λ (s : TypeSums). s.items) c.self.view_is in
    IfOk-weaker c.set_widths.result _ _
    (λ widths is rows are few. set_read c.args.shape.now c.args.self.now rows are few c.as_slice-parts.result.now parts _ _ widths c.in-Set.is (omega (arith, c.min-items.ensures, items)) is) c.set_widths.ensures

pub returns-in-Map : goal.returns-in-Map
returns-in-Map c =
    let parts = c.as_slice-parts.ensures.value ∙ ap (λ (s : TypeSums). s.parts) c.self.view_is in
    let items = ap (λ (s : TypeSums). s.items) c.self.view_is in
    IfOk-weaker c.map_widths.result _ _
    (λ widths is rows are few. map_read c.args.shape.now c.args.self.now rows are few c.as_slice-parts.result.now parts _ _ _ widths c.in-Map.is (omega (arith, c.min-items.ensures, items)) is) c.map_widths.ensures
