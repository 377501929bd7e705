use Rattle.std.proofs.lemmas.Result.{on_ok_weaker}
use Rattle.hol_answers.proofs.OrdinalsLine.{find_put, live_put, walkfind_put}
use Rattle.hol_answers.proofs.reply.put_lent.Goals as goal

pub returns-in-Find-clause-put : goal.returns-in-Find-clause-put
returns-in-Find-clause-put c =
    on_ok_weaker c.put_ordinals_line.result (λ put. rw c.in-Find.is (find_put c.in-Find.ordinals _ _ (rw c.as_slice.ensures at put))) c.put_ordinals_line.ensures.put

pub returns-in-Live-clause-put : goal.returns-in-Live-clause-put
returns-in-Live-clause-put c =
    on_ok_weaker c.put_ordinals_line-in-Live.result (λ put. rw c.in-Live.is (live_put c.in-Live.ordinals _ _ (rw c.as_slice-in-Live.ensures at put))) c.put_ordinals_line-in-Live.ensures.put

pub returns-in-WalkFind-clause-put : goal.returns-in-WalkFind-clause-put
returns-in-WalkFind-clause-put c =
    on_ok_weaker c.put_ordinals_line-in-WalkFind.result (λ put. rw c.in-WalkFind.is (walkfind_put c.in-WalkFind.ordinals _ _ (rw c.as_slice-in-WalkFind.ensures at put))) c.put_ordinals_line-in-WalkFind.ensures.put
