use Rattle.std.proofs.Common.{◌≡◌, ◌∙◌, ◌+◌, ◌-◌, ◌<◌, length, ℕ, List, [], sym, ap, subst, get_or, map, slice_set, arith}
use Rattle.std.proofs.lemmas.List.{get_or_read}
use Rattle.hol_incremental.specs.Counts.{one_for}
use Rattle.hol_incremental.specs.EditKeys.{count_at}
use Rattle.hol_incremental.proofs.CountLists.{image_at, image_length, image_set, lower_place, lower_type, lowered_at}
use Rattle.hol_incremental.proofs.counts.Counts.lower.Goals as goal

pub returns-clause-lowered : goal.returns-clause-lowered
returns-clause-lowered c =
    let counts = map (λ list. list.items) c.self.inside.counts.items in
    let now = c.self.view_is in
    let some = subst (λ (lists : List (List ℕ)). 0 < count_at lists c.args.row.0 c.args.row.1) (sym now) c.requires in
    let inside = lower_type counts c.args.row.0 c.args.row.1 some in
    let long = image_length (λ list. list.items) c.self.inside.counts.items in
    let list = get_or_read c.self.inside.counts.items c.args.row.0 c.index_mut.result.now (omega (arith, inside, long)) c.index_mut.ensures.value c.index_mut.result.now in
    let items : get_or counts c.args.row.0 [] ≡ c.index_mut.result.now.items =
    image_at (λ list. list.items) c.self.inside.counts.items c.args.row.0 c.index_mut.result.now [] (omega (arith, inside, long)) ∙ ap (λ list. list.items) (sym list) in
    let place = lower_place counts c.args.row.0 c.args.row.1 some in
    let read = get_or_read c.index_mut.result.now.items c.args.row.1 c.index_mut-2.result.now (subst (λ (xs : List ℕ). c.args.row.1 < length xs) items place) c.index_mut-2.ensures.value 0 in
    let count : c.index_mut-2.result.now ≡ count_at counts c.args.row.0 c.args.row.1 = read ∙ ap (λ (xs : List ℕ). get_or xs c.args.row.1 0) (sym items) in
    λ t ordinal.
    ap (λ (lists : List (List ℕ)). count_at lists t ordinal + one_for t ordinal c.args.row)
    (image_set (λ list. list.items) c.self.inside.counts.items c.args.row.0 _
    ∙ ap (λ (xs : List ℕ). slice_set counts c.args.row.0 (slice_set xs c.args.row.1 (c.index_mut-2.result.now - 1))) (sym items))
    ∙ lowered_at counts c.args.row.0 c.args.row.1 some c.index_mut-2.result.now count t ordinal
    ∙ ap (λ (lists : List (List ℕ)). count_at lists t ordinal) now
