use Rattle.std.proofs.Common.{◌≡◌, ◌∙◌, ◌<◌, ◌≤◌, ℕ, List, [], ◌∷◌, ◌++◌, length, sym, ap, subst, arith}
use Rattle.std.specs.Prelude.{All}
use Rattle.std.proofs.lemmas.List.Elements.{All-contains, Contains-append_right}
use Rattle.std.proofs.lemmas.Result.{on_ok_weaker}
use Rattle.schema_model.specs.declared.schema.Schema.{Schema}
use Rattle.row_model.specs.Table.{Table}
use Rattle.write_engine.specs.Production.{Production}
use Rattle.write_engine.specs.RowDrops.{MayLeave}
use Rattle.kept_sums.specs.Sums.{TypeSums}
use Rattle.hol_incremental.specs.Counts.{named_at, size_of, times_among}
use Rattle.hol_incremental.specs.EditKeys.{count_at}
use Rattle.hol_incremental.specs.Drops.{AreUnnamed}
use Rattle.hol_incremental.specs.Sums.{TakesRowAt}
use Rattle.hol_incremental.proofs.Among.{first_in}
use Rattle.hol_incremental.proofs.DroppedRows.{enough, names_inside, size_with, sums_without, taken_counts, taken_left, taken_unnamed}
use Rattle.hol_incremental.proofs.drops.take_out.Goals as goal

-- the row that leaves may
leave_last : (schemas : List Schema) (current : Table) (pending : List (ℕ × ℕ)) (row : ℕ × ℕ) → AreUnnamed schemas current (pending ++ row ∷ []) → MayLeave schemas current row.0 row.1
leave_last schemas current pending row unnamed =
    All-contains (λ (r : ℕ × ℕ). MayLeave schemas current r.0 r.1) (pending ++ row ∷ []) row unnamed.leave (Contains-append_right pending (row ∷ []) row (first_in row []))

-- what was read is what the row names
read_is : (schemas schemas' : List Schema) (table table' : Table) (t o : ℕ) (list named : List (ℕ × ℕ)) → list ≡ named → named ≡ named_at schemas' table' t o → schemas' ≡ schemas → table' ≡ table → list ≡ named_at schemas table t o
read_is schemas schemas' table table' t o list named one two s r = one ∙ two ∙ (λ i. named_at (s i) (r i) t o)

-- what was taken from the sums is the row
takes_is : (schemas schemas' : List Schema) (table table' : Table) (t o : ℕ) (before after : List TypeSums) → schemas' ≡ schemas → table' ≡ table → TakesRowAt schemas' table' t o before after → TakesRowAt schemas table t o before after
takes_is schemas schemas' table table' t o before after s r takes = subst (λ (x : List Schema). TakesRowAt x table t o before after) s (subst (λ (x : Table). TakesRowAt schemas' x t o before after) r takes)

pub drop_row-requires-clause-leaves : goal.drop_row-requires-clause-leaves
drop_row-requires-clause-leaves g c = leave_last c.args.producer.now.schemas c.args.producer.now.current c.args.pending.now.items c.args.row c.requires.unnamed

pub lower_all-requires-clause-known : goal.lower_all-requires-clause-known
lower_all-requires-clause-known g c =
    let p = c.args.producer.now in
    let leaves = leave_last p.schemas p.current c.args.pending.now.items c.args.row c.requires.unnamed in
    let same = read_is p.schemas c.current-rows.result.schemas p.current c.current-rows.result.table c.args.row.0 c.args.row.1 c.as_slice.result.now c.in_ok-named.named.items c.as_slice.ensures.value c.in_ok-named.ensures.named c.current-rows.ensures.schemas c.current-rows.ensures.table in
    let model : c.model.result.now ≡ p.schemas = c.model.ensures ∙ ap (λ (q : Production). q.schemas) c.drop_row.ensures in
    let all = names_inside p.schemas p.current c.args.row.0 c.args.row.1 c.current-rows.ensures.closed.fits.types c.current-rows.ensures.closed.closed leaves in
    subst (λ (s : List Schema). All (λ (row : ℕ × ℕ). row.0 < length s) c.as_slice.result.now) (sym model) (subst (λ (rows : List (ℕ × ℕ)). All (λ (row : ℕ × ℕ). row.0 < length p.schemas) rows) (sym same) all)

pub lower_all-requires-clause-enough : goal.lower_all-requires-clause-enough
lower_all-requires-clause-enough g c =
    let p = c.args.producer.now in
    let leaves = leave_last p.schemas p.current c.args.pending.now.items c.args.row c.requires.unnamed in
    let same = read_is p.schemas c.current-rows.result.schemas p.current c.current-rows.result.table c.args.row.0 c.args.row.1 c.as_slice.result.now c.in_ok-named.named.items c.as_slice.ensures.value c.in_ok-named.ensures.named c.current-rows.ensures.schemas c.current-rows.ensures.table in
    subst (λ (rows : List (ℕ × ℕ)). (t o : ℕ) → times_among t o rows ≤ count_at c.args.tally.now.counts t o) (sym same)
    (enough p.schemas p.current c.args.row.0 c.args.row.1 c.current-rows.ensures.closed.fits.types c.current-rows.ensures.closed.closed leaves c.args.tally.now.counts c.requires.counts.counts)

pub returns-clause-unnamed : goal.returns-clause-unnamed
returns-clause-unnamed g c =
    let p = c.args.producer.now in
    let leaves = leave_last p.schemas p.current c.args.pending.now.items c.args.row c.requires.unnamed in
    let same = read_is p.schemas c.current-rows.result.schemas p.current c.current-rows.result.table c.args.row.0 c.args.row.1 c.as_slice.result.now c.in_ok-named.named.items c.as_slice.ensures.value c.in_ok-named.ensures.named c.current-rows.ensures.schemas c.current-rows.ensures.table in
    let model : c.model.result.now ≡ p.schemas = c.model.ensures ∙ ap (λ (q : Production). q.schemas) c.drop_row.ensures in
    on_ok_weaker c.lower_all.result
    (λ lowered.
    taken_unnamed p.schemas p.current c.args.row.0 c.args.row.1 c.current-rows.ensures.closed.fits.types c.current-rows.ensures.closed.closed leaves c.model.result.now model c.drop_row.new.self.current
    (ap (λ (q : Production). q.current) c.drop_row.ensures) c.args.leaving.now c.args.pending.now.items c.lower_all.new.pending.items c.as_slice.result.now c.args.tally.now.counts c.lower_all.new.counts same c.requires.counts.counts
    c.requires.unnamed lowered)
    c.lower_all.ensures

pub returns-clause-left : goal.returns-clause-left
returns-clause-left g c =
    let p = c.args.producer.now in
    let leaves = leave_last p.schemas p.current c.args.pending.now.items c.args.row c.requires.unnamed in
    let same = read_is p.schemas c.current-rows.result.schemas p.current c.current-rows.result.table c.args.row.0 c.args.row.1 c.as_slice.result.now c.in_ok-named.named.items c.as_slice.ensures.value c.in_ok-named.ensures.named c.current-rows.ensures.schemas c.current-rows.ensures.table in
    let model : c.model.result.now ≡ p.schemas = c.model.ensures ∙ ap (λ (q : Production). q.schemas) c.drop_row.ensures in
    on_ok_weaker c.lower_all.result
    (λ lowered.
    taken_left p.schemas p.current c.args.row.0 c.args.row.1 c.current-rows.ensures.closed.fits.types c.current-rows.ensures.closed.closed leaves c.model.result.now model c.drop_row.new.self.current
    (ap (λ (q : Production). q.current) c.drop_row.ensures) c.args.leaving.now c.args.pending.now.items c.lower_all.new.pending.items c.as_slice.result.now c.args.tally.now.counts c.lower_all.new.counts same c.requires.counts.counts
    c.requires.unnamed lowered)
    c.lower_all.ensures

pub returns-clause-counts : goal.returns-clause-counts
returns-clause-counts g c =
    let p = c.args.producer.now in
    let leaves = leave_last p.schemas p.current c.args.pending.now.items c.args.row c.requires.unnamed in
    let same = read_is p.schemas c.current-rows.result.schemas p.current c.current-rows.result.table c.args.row.0 c.args.row.1 c.as_slice.result.now c.in_ok-named.named.items c.as_slice.ensures.value c.in_ok-named.ensures.named c.current-rows.ensures.schemas c.current-rows.ensures.table in
    let model : c.model.result.now ≡ p.schemas = c.model.ensures ∙ ap (λ (q : Production). q.schemas) c.drop_row.ensures in
    on_ok_weaker c.lower_all.result
    (λ lowered. record {
      counts = taken_counts p.schemas p.current c.args.row.0 c.args.row.1 c.current-rows.ensures.closed.fits.types c.current-rows.ensures.closed.closed leaves c.model.result.now model c.drop_row.new.self.current
          (ap (λ (q : Production). q.current) c.drop_row.ensures) c.args.leaving.now c.args.pending.now.items c.lower_all.new.pending.items c.as_slice.result.now c.args.tally.now.counts c.lower_all.new.counts same c.requires.counts.counts
          c.requires.unnamed lowered;
      sums = sums_without p.schemas p.current c.args.row.0 c.args.row.1 c.current-rows.ensures.closed.fits.types c.current-rows.ensures.closed.closed leaves c.args.tally.now.sums.items c.read_leaving.new.sums.items c.requires.counts.sums
          (takes_is p.schemas c.current-rows.result.schemas p.current c.current-rows.result.table c.args.row.0 c.args.row.1 c.args.tally.now.sums.items c.read_leaving.new.sums.items c.current-rows.ensures.schemas c.current-rows.ensures.table
          c.in_ok-named.ensures.sums) c.drop_row.new.self.current (ap (λ (q : Production). q.current) c.drop_row.ensures);
    })
    c.lower_all.ensures

pub returns-clause-size : goal.returns-clause-size
returns-clause-size g c =
    let p = c.args.producer.now in
    let leaves = leave_last p.schemas p.current c.args.pending.now.items c.args.row c.requires.unnamed in
    let size = size_with p.schemas p.current c.args.row.0 c.args.row.1 c.current-rows.ensures.closed.fits.types c.current-rows.ensures.closed.closed leaves in
    let left = ap (λ (q : Production). size_of p.schemas q.current) c.drop_row.ensures in
    on_ok_weaker c.lower_all.result (λ lowered. omega (arith, size, left)) c.lower_all.ensures
