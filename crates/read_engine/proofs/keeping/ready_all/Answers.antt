use Rattle.std.proofs.Common.{◌≡◌, ◌+◌, ◌<◌, ◌∙◌, ℕ, length, take, ap, subst, get_or, arith}
use Rattle.std.specs.Prelude.{All}
use Rattle.std.proofs.Math.Seq.{take-length}
use Rattle.std.proofs.lemmas.List.Sums.{sum_by-take-le, sum_by_more}
use Rattle.read_engine.specs.Kept.{count_came}
use Rattle.state_moves.proofs.Mapped.{all_more, map_at}
use Rattle.state_moves.proofs.Moves.{map_set}
use Rattle.read_engine.proofs.LeastSums.{least_more}
use Rattle.read_engine.proofs.keeping.ready_all.Goals as goal

pub make_ready-requires-clause-follows : goal.make_ready-requires-clause-follows
make_ready-requires-clause-follows g c =
    let inside : c.loop-place.place < length c.args.indexes.now = omega arith in
    let same = map_at g.I.StepIndex.still c.loop-place.indexes c.args.indexes.now c.loop-place.place c.index-indexes-place.result c.loop-place.invariant.kept (omega arith) in
    g.met.I.StepIndex.also_follows c.args.rows.now.schemas c.args.rows.now.table c.args.past.now (get_or c.loop-place.indexes c.loop-place.place c.index-indexes-place.result) (get_or c.args.indexes.now c.loop-place.place c.index-indexes-place.result) same
    (c.requires.follow c.loop-place.place c.index-indexes-place.result inside)

pub returns-in_err-make_ready-clause-kept : goal.returns-in_err-make_ready-clause-kept
returns-in_err-make_ready-clause-kept g c =
    map_set g.I.StepIndex.still c.loop-place.indexes c.loop-place.place c.make_ready.new.self c.index-indexes-place.result c.make_ready.ensures.kept ∙ c.loop-place.invariant.kept

pub loop-place-preserved : goal.loop-place-preserved
loop-place-preserved g c =
    let inside : c.loop-place.place < length c.args.indexes.now = omega arith in
    let within : c.loop-place.place < length c.loop-place.indexes = omega arith in
    let here = get_or c.loop-place.indexes c.loop-place.place c.index-indexes-place.result in
    let same = map_at g.I.StepIndex.still c.loop-place.indexes c.args.indexes.now c.loop-place.place c.index-indexes-place.result c.loop-place.invariant.kept within in
    let type_same = ap (count_came c.args.past.now) (g.met.I.StepIndex.one_type here (get_or c.args.indexes.now c.loop-place.place c.index-indexes-place.result) same) in
    let type_new = ap (count_came c.args.past.now) (g.met.I.StepIndex.one_type c.make_ready.new.self here c.make_ready.ensures.kept) in
    let more = sum_by_more (λ kept. count_came c.args.past.now (g.I.StepIndex.type_of kept)) c.args.indexes.now c.loop-place.place c.index-indexes-place.result inside in
    record {
      kept = map_set g.I.StepIndex.still c.loop-place.indexes c.loop-place.place c.make_ready.new.self c.index-indexes-place.result c.make_ready.ensures.kept ∙ c.loop-place.invariant.kept;
      ready = all_more (g.I.StepIndex.is_ready c.args.rows.now.schemas c.args.rows.now.table) c.loop-place.indexes c.loop-place.place c.make_ready.new.self within c.loop-place.invariant.ready c.in_ok-make_ready.ensures.ready;
      least = least_more (λ kept. count_came c.args.past.now (g.I.StepIndex.type_of kept)) g.I.StepIndex.has_next c.loop-place.indexes c.loop-place.place c.make_ready.new.self within c.args.steps.now c.loop-place.steps c.make_ready.new.steps
          c.loop-place.invariant.least c.make_ready.ensures.bounded.0 (λ takes. let rose = c.in_ok-make_ready.ensures.least takes in omega (arith, rose, type_new));
      most = omega (arith, type_same, more, c.loop-place.invariant.most, c.make_ready.ensures.bounded.1);
    }

pub returns-clause-ready : goal.returns-clause-ready
returns-clause-ready g c =
    let all : c.loop-place.place ≡ length c.loop-place.indexes = omega arith in
    subst (All (g.I.StepIndex.is_ready c.args.rows.now.schemas c.args.rows.now.table)) (ap (λ (n : ℕ). take n c.loop-place.indexes) all ∙ take-length c.loop-place.indexes) c.loop-place.invariant.ready

pub returns-in_err-make_ready-clause-bounded : goal.returns-in_err-make_ready-clause-bounded
returns-in_err-make_ready-clause-bounded g c =
    let inside : c.loop-place.place < length c.args.indexes.now = omega arith in
    let here = get_or c.loop-place.indexes c.loop-place.place c.index-indexes-place.result in
    let same = map_at g.I.StepIndex.still c.loop-place.indexes c.args.indexes.now c.loop-place.place c.index-indexes-place.result c.loop-place.invariant.kept (omega arith) in
    let type_same = ap (count_came c.args.past.now) (g.met.I.StepIndex.one_type here (get_or c.args.indexes.now c.loop-place.place c.index-indexes-place.result) same) in
    let more = sum_by_more (λ kept. count_came c.args.past.now (g.I.StepIndex.type_of kept)) c.args.indexes.now c.loop-place.place c.index-indexes-place.result inside in
    let all = sum_by-take-le (λ kept. count_came c.args.past.now (g.I.StepIndex.type_of kept)) c.args.indexes.now (c.loop-place.place + 1) in
    (omega (arith, c.loop-place.invariant.least, c.make_ready.ensures.bounded.0), omega (arith, type_same, more, all, c.loop-place.invariant.most, c.make_ready.ensures.bounded.1))
