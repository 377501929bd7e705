use Rattle.std.proofs.Common.{List, subst, sym}
use Rattle.std.specs.Prelude.{All, IsTrue}
use Rattle.hol_paths.specs.Walked.{Walked}
use Rattle.read_engine.specs.Kept.{has_walk_next}
use Rattle.read_engine.proofs.Those.{all_taken}
use Rattle.read_engine.proofs.keeping.turn_ready.Goals as goal

pub turn_all-requires : goal.turn_all-requires
turn_all-requires c =
    subst (λ (ws : List Walked). All (λ (w : Walked). IsTrue (has_walk_next w)) ws) (sym c.as_mut_slice.ensures.value) (subst (λ (ws : List Walked). All (λ (w : Walked). IsTrue (has_walk_next w)) ws) (sym c.drop_unready.ensures) (all_taken has_walk_next c.args.walks.now.items))
