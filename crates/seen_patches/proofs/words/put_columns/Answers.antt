use Rattle.std.proofs.Common.{◌≡◌, ◌∙◌, ℕ, ◌+◌, ◌*◌, ap, sym, subst, refl, length, sum, get_or, arith}
use Rattle.std.proofs.lemmas.Option.{slice_get_read}
use Rattle.seen_patches.specs.ByName.{item_named}
use Rattle.seen_patches.proofs.PutColumns as columns
use Rattle.seen_patches.proofs.BitsKept.{bits_kept}
use Rattle.seen_patches.proofs.words.put_columns.Goals as goal

pub put_column-requires-clause-target : goal.put_column-requires-clause-target
put_column-requires-clause-target c =
    let index = c.loop-index.index in
    let item = slice_get_read c.args.mine.now (length c.args.mine.now) index c.index-mine-index.result refl (omega arith) c.index-mine-index.is in
    columns.target_held c.args.mine.now c.args.theirs.now c.args.columns.now c.args.from.now c.args.widths.now c.args.to.now c.loop-index.to c.loop-index.to c.args.places c.total_width-size.result c.loop-index.before index
    (get_or c.args.widths.now index 0) c.index-mine-index.result c.source_of-source.result refl c.requires.widths c.total_width-size.ensures.total item c.loop-index.invariant c.requires.held c.requires.room c.requires.few c.requires.short

pub put_column-requires-clause-source : goal.put_column-requires-clause-source
put_column-requires-clause-source c =
    let index = c.loop-index.index in
    let item = slice_get_read c.args.mine.now (length c.args.mine.now) index c.index-mine-index.result refl (omega arith) c.index-mine-index.is in
    columns.source_held c.args.theirs.now c.args.columns.now c.args.from.now c.args.places (get_or c.args.widths.now index 0) c.index-mine-index.result c.source_of-source.result c.requires.held
    (c.source_of-source.ensures ∙ ap (item_named c.args.theirs.now c.args.columns.now) c.text.ensures)
    (columns.width_there c.args.mine.now c.args.theirs.now c.args.columns.now c.args.from.now c.args.widths.now c.args.to.now c.loop-index.to c.loop-index.to c.args.places c.total_width-size.result c.loop-index.before index
    (get_or c.args.widths.now index 0) c.index-mine-index.result c.source_of-source.result refl c.requires.widths c.total_width-size.ensures.total item c.loop-index.invariant)

pub loop-index-preserved : goal.loop-index-preserved
loop-index-preserved c =
    let index = c.loop-index.index in
    let item = slice_get_read c.args.mine.now (length c.args.mine.now) index c.index-mine-index.result refl (omega arith) c.index-mine-index.is in
    let more = columns.put_more c.args.mine.now c.args.theirs.now c.args.columns.now c.args.from.now c.args.widths.now c.args.to.now c.loop-index.to c.put_column.new.to c.args.places c.total_width-size.result c.loop-index.before
    index (get_or c.args.widths.now index 0) c.index-mine-index.result c.source_of-source.result refl c.requires.widths c.total_width-size.ensures.total item c.loop-index.invariant
    c.put_column.ensures.put (c.source_of-source.ensures ∙ ap (item_named c.args.theirs.now c.args.columns.now) c.text.ensures) c.put_column.ensures.earlier c.put_column.ensures.behind c.put_column.ensures.long in
    subst (λ (w : ℕ). columns.PutSoFar c.args.mine.now c.args.theirs.now c.args.columns.now c.args.from.now c.args.widths.now c.args.to.now c.put_column.new.to c.args.places c.total_width-size.result (c.loop-index.before + w) (index + 1))
    (sym c.from-before.ensures) more

pub returns-clause-bits : goal.returns-clause-bits
returns-clause-bits c = λ below.
    let whole : c.args.places * c.total_width-size.result ≡ c.args.places * sum c.args.widths.now = ap (λ (n : ℕ). c.args.places * n) c.total_width-size.ensures.total in
    bits_kept c.args.to.now c.loop-index.to (c.args.places * sum c.args.widths.now) (λ at v behind. c.loop-index.invariant.behind at v (omega (arith, behind, whole))) below
