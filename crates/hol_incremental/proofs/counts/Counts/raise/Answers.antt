use Rattle.std.proofs.Common.{◌≡◌, ◌∙◌, ◌+◌, ◌<◌, ℕ, List, [], sym, ap, subst, get_or, length, map, arith}
use Rattle.std.specs.Prelude.{if◌then◌else◌, nat_eq}
use Rattle.std.proofs.lemmas.List.{get_or_read}
use Rattle.std.proofs.lemmas.Result.{on_ok_weaker}
use Rattle.hol_incremental.specs.Counts.{one_for}
use Rattle.hol_incremental.specs.EditKeys.{count_at}
use Rattle.hol_incremental.proofs.CountLists.{image_at, image_length, image_set, raised_at}
use Rattle.hol_incremental.proofs.counts.Counts.raise.Goals as goal

pub returns-clause-raised : goal.returns-clause-raised
returns-clause-raised c =
    let counts = map (λ list. list.items) c.self.inside.counts.items in
    let now = c.self.view_is in
    let inside = subst (λ (lists : List (List ℕ)). c.args.row.0 < length lists) (sym now) c.requires in
    let long = image_length (λ list. list.items) c.self.inside.counts.items in
    let list = get_or_read c.self.inside.counts.items c.args.row.0 c.index_mut.result.now (omega (arith, inside, long)) c.index_mut.ensures.value c.index_mut.result.now in
    let items : get_or counts c.args.row.0 [] ≡ c.index_mut.result.now.items =
    image_at (λ list. list.items) c.self.inside.counts.items c.args.row.0 c.index_mut.result.now [] (omega (arith, inside, long)) ∙ ap (λ list. list.items) (sym list) in
    on_ok_weaker c.raise_at.result
    (λ raised t ordinal.
    ap (λ (lists : List (List ℕ)). count_at lists t ordinal) (image_set (λ list. list.items) c.self.inside.counts.items c.args.row.0 _)
    ∙ raised_at counts c.args.row.0 c.args.row.1 c.raise_at.new.counts.items inside (λ k. raised k ∙ ap (λ (xs : List ℕ). get_or xs k 0 + (if nat_eq c.args.row.1 k then 1 else 0)) (sym items)) t ordinal
    ∙ ap (λ (lists : List (List ℕ)). count_at lists t ordinal + one_for t ordinal c.args.row) now)
    c.raise_at.ensures
