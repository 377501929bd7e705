use Rattle.std.proofs.Common.{Option, Ok, IfSome, sym, subst, rules}
use Rattle.hol_io.specs.declared.name.BlobName.TheVariants.{Snapshot}
use Rattle.hol_io.specs.Store.{told}
use Rattle.read_engine.specs.Position.{Position}
use Rattle.read_engine.specs.Taking.{LoadsExactly}
use Rattle.read_engine.proofs.Exactly.{done_exactly, refused_exactly}
use Rattle.read_engine.proofs.consumer.Consumer.load.Goals as goal

pub returns-in_err-loaded-clause-exact : goal.returns-in_err-loaded-clause-exact
returns-in_err-loaded-clause-exact g c = refused_exactly c.one_loaded_position.ensures (Snapshot c.args.version) (g.S.BlobStore.seen c.args.store.now).held _ _ _ (search rules) c.in_err-loaded.ensures.tells

pub returns-clause-exact : goal.returns-clause-exact
returns-clause-exact g c =
    let held = (g.S.BlobStore.seen c.args.store.now).held in
    subst (λ (now : Option Position). IfSome held (λ store. LoadsExactly (Snapshot c.args.version) (told held (Snapshot c.args.version)) now (Ok tt))) (sym c.drop.view_is)
    (done_exactly c.one_loaded_position.ensures (Snapshot c.args.version) held c.in_ok-loaded.loaded c.in_ok-loaded.ensures.tells)
