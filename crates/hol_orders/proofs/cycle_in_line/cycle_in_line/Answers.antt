use Rattle.std.proofs.Common.{◌≡◌, Option, Some, subst}
use Rattle.std.specs.Prelude.{IfSome, List}
use Rattle.serde_json.specs.Data.{no_members, object}
use Rattle.serde_json.specs.Read.{read}
use Rattle.serde_json.specs.View.{view}
use Rattle.record_stream.specs.CycleLine.{cycle_data}
use Rattle.record_stream.specs.RecordLine.{Typed, added_by, with_types}
use Rattle.record_stream.specs.declared.cycle_line.CycleParts.{CycleParts}
use Rattle.hol_orders.proofs.PlainCycles.{cycle_orders}
use Rattle.hol_orders.proofs.cycle_in_line.cycle_in_line.Goals as goal

pub returns-in-Some-state_of : goal.returns-in-Some-state_of
returns-in-Some-state_of c =
    let text = c.in-Ok.text.now in
    let parts = c.in-Some.parts in
    let told = c.in_ok-parts.ensures in
    let found = c.in-Some-state_of in
    let same = subst (λ (o : Option CycleParts). IfSome o (λ p. p.add ≡ text)) c.in-Some.is told.same in
    let reads = subst (λ (o : Option CycleParts). IfSome o (λ p. read text ≡ Some (cycle_data (view p.version) (view p.tag) (added_by text) p.snapshot))) c.in-Some.is told.read in
    let adds = subst (λ (o : Option CycleParts). IfSome o (λ p. (types : List Typed) × (added_by text ≡ object (with_types types no_members)))) c.in-Some.is told.types in
    cycle_orders c.args.line.now text parts.add (view parts.version) (view parts.tag) adds.0 parts.snapshot found.next c.in-Ok.ensures.0 c.in-Ok.ensures.1 same reads adds.1 found.ensures.version found.ensures.tag found.ensures.add found.ensures.snapshot
