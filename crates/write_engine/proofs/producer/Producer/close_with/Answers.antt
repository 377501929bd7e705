use Rattle.std.proofs.Common.{List, ap, length, subst, sym, ◌∙◌}
use Rattle.row_packing.specs.Measured.{AreMeasured}
use Rattle.row_packing.specs.declared.measured.Measured.{Measured}
use Rattle.write_engine.specs.CycleLimit.{IsToPublish, TellsCycle}
use Rattle.write_engine.specs.Production.{Production, current_of, previous_of}
use Rattle.write_engine.proofs.TypesKept.{measured_count}
use Rattle.write_engine.proofs.producer.Producer.close_with.Goals as goal

pub cycle_limit-self-inside-requires : goal.cycle_limit-self-inside-requires
cycle_limit-self-inside-requires c to_publish =
    let are = subst (λ (p : Production). IsToPublish p.version c.args.changed → AreMeasured p.schemas p.previous p.current c.args.measured) (sym c.self.view_is) c.requires.measured in
    ap (λ (measured : List Measured). length measured) c.as_slice.ensures
    ∙ measured_count c.self.inside.model (previous_of c.self.inside.maps.items) (current_of c.self.inside.maps.items) c.args.measured (are to_publish)

pub returns-clause-over : goal.returns-clause-over
returns-clause-over c =
    let previous = previous_of c.self.inside.maps.items in
    let current = current_of c.self.inside.maps.items in
    let are = subst (λ (p : Production). IsToPublish p.version c.args.changed → AreMeasured p.schemas p.previous p.current c.args.measured) (sym c.self.view_is) c.requires.measured in
    subst (λ (p : Production). TellsCycle p.schemas p.previous p.current p.version c.args.changed c.cycle_limit-self-inside.result) c.self.view_is
    (c.cycle_limit-self-inside.ensures previous current c.self.invariant.agree
    (λ to_publish. subst (λ (measured : List Measured). AreMeasured c.self.inside.model previous current measured) (sym c.as_slice.ensures) (are to_publish)))
