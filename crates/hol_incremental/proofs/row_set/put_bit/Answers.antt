use Rattle.std.proofs.Common.{◌≡◌, ◌∙◌, ℕ, List, [], get_or, sym, ap, subst, slice_set}
use Rattle.std.specs.Prelude.{◌↔◌, ◌⊎◌, Contains}
use Rattle.std.proofs.lemmas.List.{get_or_read}
use Rattle.std.proofs.lemmas.Result.{on_err_weaker, on_ok_weaker}
use Rattle.ordinal_set.specs.Ordinals.{with_ordinal}
use Rattle.hol_incremental.proofs.RowBits.{bit_kept, bit_put}
use Rattle.hol_incremental.proofs.row_set.put_bit.Goals as goal

pub returns-clause-put : goal.returns-clause-put
returns-clause-put c =
    let wide = c.widen.new.sets.items in
    let t = c.args.row.0 in
    let o = c.args.row.1 in
    let list = get_or_read wide t c.index_mut.result.now c.in_ok-widen.ensures.there c.index_mut.ensures.value [] in
    on_ok_weaker c.insert.result
    (λ is u q.
    subst (λ (set : List ℕ). Contains (get_or (slice_set wide t set) u []) q ↔ (Contains (get_or c.args.sets.now.items u []) q ⊎ ◌≡◌ {A = ℕ × ℕ} (u, q) (t, o))) (sym (is ∙ ap (with_ordinal o) list))
    (bit_put c.args.sets.now.items wide t o c.in_ok-widen.ensures.there c.in_ok-widen.ensures.same u q))
    c.insert.ensures.ok

pub returns-clause-refused : goal.returns-clause-refused
returns-clause-refused c =
    let wide = c.widen.new.sets.items in
    let t = c.args.row.0 in
    let list = get_or_read wide t c.index_mut.result.now c.in_ok-widen.ensures.there c.index_mut.ensures.value [] in
    on_err_weaker c.insert.result (λ is. bit_kept c.args.sets.now.items wide t c.insert.new.self c.in_ok-widen.ensures.there c.in_ok-widen.ensures.same (is ∙ list)) c.insert.ensures.err
