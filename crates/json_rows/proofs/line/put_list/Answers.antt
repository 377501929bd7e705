use Rattle.std.proofs.Common.{◌≡◌, sym, subst}
use Rattle.std.proofs.lemmas.Result.{on_ok_weaker}
use Rattle.list_codec.specs.Elements.{elements_of}
use Rattle.json_rows.specs.RowLine.{PutsItems, PutsRow}
use Rattle.json_rows.proofs.Put.{list_put}
use Rattle.json_rows.proofs.line.put_list.Goals as goal

pub returns-in-Some-clause-put : goal.returns-in-Some-clause-put
returns-in-Some-clause-put g c =
    let old = c.args.out.now.items in
    let new = c.put_elements.new.out.items in
    on_ok_weaker c.put_elements.result (λ put row at.
    let there = c.requires.lists c.args.ordinal row at in
    let are : there.0 ≡ elements_of c.in-Some.elements = c.in-Some.ensures there.0 there.3 in
    subst (λ r. PutsRow c.args.leads.now r old new) (sym there.1) (list_put c.args.leads.now there.0 old new (subst (λ ordinals. PutsItems ordinals old new) (sym are) put))) c.put_elements.ensures.put
