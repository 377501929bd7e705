use Rattle.std.proofs.Common.{◌≡◌, Option, Some, subst}
use Rattle.std.specs.Prelude.{IfSome, List}
use Rattle.serde_json.specs.Data.{no_members, object}
use Rattle.serde_json.specs.Read.{read}
use Rattle.serde_json.specs.View.{view}
use Rattle.record_stream.specs.ChangeLine.{change_data}
use Rattle.record_stream.specs.RecordLine.{Typed, added_by, with_types}
use Rattle.record_stream.specs.declared.change_line.ChangeParts.{ChangeParts}
use Rattle.hol_orders.proofs.PlainCycles.{change_orders}
use Rattle.hol_orders.proofs.change_in_line.change_in_line.Goals as goal

pub returns-in-Some-change_of : goal.returns-in-Some-change_of
returns-in-Some-change_of c =
    let text = c.in-Ok.text.now in
    let parts = c.in-Some.parts in
    let told = c.in_ok-parts.ensures in
    let found = c.in-Some-change_of in
    let same = subst (λ (o : Option ChangeParts). IfSome o (λ p. p.put ≡ text)) c.in-Some.is told.same in
    let reads = subst (λ (o : Option ChangeParts). IfSome o (λ p. read text ≡ Some (change_data (view p.version) (view p.tag) (added_by text) (view p.remove)))) c.in-Some.is told.read in
    let adds = subst (λ (o : Option ChangeParts). IfSome o (λ p. (types : List Typed) × (added_by text ≡ object (with_types types no_members)))) c.in-Some.is told.types in
    change_orders c.args.line.now text parts.put (view parts.version) (view parts.tag) (view parts.remove) adds.0 found.next c.in-Ok.ensures.0 c.in-Ok.ensures.1 same reads adds.1 found.ensures.version found.ensures.tag
    found.ensures.put found.ensures.remove
