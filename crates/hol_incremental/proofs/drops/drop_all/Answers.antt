use Rattle.std.proofs.Common.{◌≡◌, ◌++◌, ◌∷◌, [], ℕ, List, sym, ap, subst, arith}
use Rattle.schema_model.specs.declared.schema.Schema.{Schema}
use Rattle.write_engine.specs.Production.{Production}
use Rattle.hol_incremental.specs.Counts.{size_of}
use Rattle.hol_incremental.specs.Drops.{AreUnnamed, IsDropping, IsHeld}
use Rattle.hol_incremental.specs.EditKeys.{AreTallied}
use Rattle.hol_incremental.proofs.PutCalls.{kept_then}
use Rattle.hol_incremental.proofs.drops.drop_all.Goals as goal

pub loop-row-preserved : goal.loop-row-preserved
loop-row-preserved g c =
    let inv = c.loop-row.invariant in
    let done = c.in_ok-take_out.ensures in
    let s : c.loop-row.producer.schemas ≡ c.args.producer.now.schemas = ap (λ (p : Production). p.schemas) inv.kept in
    record {
      kept = kept_then c.args.producer.now c.loop-row.producer c.take_out.new.producer inv.kept done.kept;
      counts = subst (λ (x : List Schema). AreTallied x c.take_out.new.producer.current c.take_out.new.tally.counts c.take_out.new.tally.sums.items) s done.counts;
      unnamed = subst (λ (x : List Schema). AreUnnamed x c.take_out.new.producer.current c.take_out.new.pending.items) s done.unnamed;
      left = λ start held holds dropping.
          (let before = inv.left start held holds dropping in
          subst (λ (x : List Schema). IsDropping x c.args.leaving.now start held c.take_out.new.producer.current c.take_out.new.pending.items) s
          (done.left start held (subst (λ (x : List Schema). IsHeld x c.args.leaving.now start held) (sym s) holds)
          (subst (λ (x : List Schema). IsDropping x c.args.leaving.now start held c.loop-row.producer.current (c.pop.new.self.items ++ c.in-Some.row ∷ [])) (sym s)
          (subst (λ (rows : List (ℕ × ℕ)). IsDropping c.args.producer.now.schemas c.args.leaving.now start held c.loop-row.producer.current rows) c.in-Some.ensures.items before))));
      counted = (let x = inv.counted in let y = done.counted in let z = done.size in let w = ap (λ (x : List Schema). size_of x c.take_out.new.producer.current) s in let v = ap (λ (x : List Schema). size_of x c.loop-row.producer.current) s in omega (arith, x, y, z, w, v));
    }
