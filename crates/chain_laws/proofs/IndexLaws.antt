-- The laws of the order `index`.
use Rattle.std.proofs.Common.{refl, subst, sym, Option}
use Rattle.std.specs.Prelude.{IfSome}
use Rattle.hol_answers.specs.declared.reply.Reply.TheVariants as reply
use Rattle.read_engine.specs.Position.{Position}
use Rattle.hollow_machine.specs.IndexOrder.{index_form}
use Rattle.hollow_machine.specs.KeyPaths.{texts_of_array}
use Rattle.chain_laws.proofs.AddedIndexes.{index_added, still_indexes}
use Rattle.chain_laws.specs.Consumers.{IsReaderAt}
use Rattle.chain_laws.proofs.TypedConsumers.{IsTyped}
use Rattle.chain_laws.proofs.Lawful.{IsLawful, IsLeft, LeavesOf, left_same, moves_lawful}
use Rattle.hol_orders.specs.declared.kind.Kind.{Kind}
use Rattle.chain_laws.proofs.OneKey.{one_index}

index_leaves : LeavesOf index_form
index_leaves machine asked (reply.Index keys) next step =
    let added = index_added machine asked.0 (texts_of_array asked.1) keys next step in (
      refl,
      subst (IsLeft machine) (sym added.is) record {
        store = refl;
        producer = refl;
        typed = λ typed. (let was = subst (λ (consumer : Option Position). IfSome consumer IsTyped) added.was typed in record { names = was.names; types = was.types; rows = was.rows });
        moves = λ chain holds of.
            (let (stood, at_version, old) = subst (λ (consumer : Option Position). IsReaderAt chain consumer machine.version machine.past) added.was of in (
              record {
                version = stood.version;
                state = stood.state;
                there = stood.there;
                sees = record { tag = stood.sees.tag; rows = stood.sees.rows };
                home = stood.home;
                quiet = stood.quiet;
                indexes = still_indexes added.now.schemas added.now.indexes added.after asked.0 (texts_of_array asked.1) added.index stood.indexes added.asks added.keeps;
                walks = stood.walks;
              },
              at_version,
              old,
            ));
      },
    )
index_leaves machine asked (reply.Refused refusal) next step = (refl, left_same machine next step.1)
index_leaves machine asked _ next step = absurd step

pub index_lawful : IsLawful Kind.Index index_form
index_lawful = moves_lawful Kind.Index index_form refl (λ written machine sound asked one other next after is also. one_index machine asked.0 (texts_of_array asked.1) sound.1 one other next after is also) index_leaves
