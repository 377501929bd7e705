use Rattle.std.proofs.lemmas.Result.{on_ok_weaker}
use Rattle.json_rows.proofs.Put.{record_put, list_put, set_put, map_put}
use Rattle.json_rows.proofs.line.put_row.Goals as goal

pub returns-in-Object-clause-put : goal.returns-in-Object-clause-put
returns-in-Object-clause-put c =
    on_ok_weaker c.put_record.result (λ put. rw c.in-Object.is (record_put c.args.leads.now c.in-Object.values _ _ (rw c.as_slice.ensures at put))) c.put_record.ensures.put

pub returns-in-List-clause-put : goal.returns-in-List-clause-put
returns-in-List-clause-put c =
    on_ok_weaker c.put_ordinals.result (λ put. rw c.in-List.is (list_put c.args.leads.now c.in-List.ordinals _ _ (rw c.as_slice-in-List.ensures at put))) c.put_ordinals.ensures.put

pub returns-in-Set-clause-put : goal.returns-in-Set-clause-put
returns-in-Set-clause-put c =
    on_ok_weaker c.put_ordinals-in-Set.result (λ put. rw c.in-Set.is (set_put c.args.leads.now c.in-Set.ordinals _ _ (rw c.as_slice-in-Set.ensures at put))) c.put_ordinals-in-Set.ensures.put

pub returns-in-Map-clause-put : goal.returns-in-Map-clause-put
returns-in-Map-clause-put c =
    on_ok_weaker c.put_pairs.result (λ put. rw c.in-Map.is (map_put c.args.leads.now c.in-Map.pairs _ _ (rw c.as_slice-in-Map.ensures at put))) c.put_pairs.ensures.put
