-- The laws of the orders `walkindex` and `walkfind`.
use Rattle.std.proofs.Common.{ℕ, List, Option, refl, subst, sym, true}
use Rattle.std.specs.Prelude.{IfSome}
use Rattle.serde_json.specs.Data.{Data}
use Rattle.schema_model.specs.declared.schema.name.Name.{Name}
use Rattle.hol_orders.specs.declared.kind.Kind.{Kind}
use Rattle.hol_answers.specs.declared.reply.Reply.{Reply}
use Rattle.hol_answers.specs.declared.reply.Reply.TheVariants as reply
use Rattle.read_engine.specs.Position.{Position}
use Rattle.hollow_machine.specs.WalkOrders.{ListsWalked, WalkFindReply, walkfind_form, walkindex_form}
use Rattle.chain_laws.specs.Consumers.{IsReaderAt}
use Rattle.chain_laws.proofs.AddedWalks.{still_walks, walk_added}
use Rattle.chain_laws.proofs.Answering.{IsUnpublished, of_answers}
use Rattle.chain_laws.proofs.FreshWalks.{walkfind_afresh}
use Rattle.chain_laws.proofs.Lawful.{IsLawful, IsLeft, LeavesOf, left_same, looks_lawful, moves_lawful}
use Rattle.chain_laws.proofs.OneReach.{one_walkfind, one_walkindex}
use Rattle.chain_laws.proofs.TypedConsumers.{IsTyped}

walk_leaves : LeavesOf walkindex_form
walk_leaves machine asked (reply.WalkIndex keys) next step =
    let added = walk_added machine asked.0 asked.1 keys next step in (
      refl,
      subst (IsLeft machine) (sym added.is) record {
        store = refl;
        producer = refl;
        typed = λ typed. (let was = subst (λ (consumer : Option Position). IfSome consumer IsTyped) added.was typed in record { names = was.names; types = was.types; rows = was.rows });
        moves = λ chain holds of.
            (let (stood, at_version, old) = subst (λ (consumer : Option Position). IsReaderAt chain consumer machine.version machine.past) added.was of in (
              record {
                version = stood.version;
                state = stood.state;
                there = stood.there;
                sees = record { tag = stood.sees.tag; rows = stood.sees.rows };
                home = stood.home;
                quiet = stood.quiet;
                indexes = stood.indexes;
                walks = still_walks added.now added.after asked.0 asked.1 added.path stood.walks added.asks added.keeps;
              },
              at_version,
              old,
            ));
      },
    )
walk_leaves machine asked (reply.Refused refusal) next step = (refl, left_same machine next step.1)
walk_leaves machine asked _ next step = absurd step

pub walkindex_lawful : IsLawful Kind.WalkIndex walkindex_form
walkindex_lawful = moves_lawful Kind.WalkIndex walkindex_form refl (λ written machine sound asked one other next after is also. one_walkindex machine asked.0 asked.1 sound.1 one other next after is also) walk_leaves

walkfind_unpublished_at : (text : List ℕ) (json : Data) (now : Position) (t : ℕ) (answer : Reply) → ListsWalked text json now t answer → IsUnpublished answer
walkfind_unpublished_at text json now t (reply.WalkFind ordinals) is = refl
walkfind_unpublished_at text json now t (reply.Refused refusal) is = refl
walkfind_unpublished_at text json now t _ is = absurd is

walkfind_unpublished : (consumer : Option Position) (name : Name) (text : List ℕ) (json : Data) (answer : Reply) → WalkFindReply consumer name text json answer → IsUnpublished answer
walkfind_unpublished consumer name text json answer is = of_answers IsUnpublished name (ListsWalked text json) refl refl (walkfind_unpublished_at text json) consumer answer is

pub walkfind_lawful : IsLawful Kind.WalkFind walkfind_form
walkfind_lawful = looks_lawful Kind.WalkFind (λ consumer asked answer. WalkFindReply consumer asked.0 asked.1 asked.2 answer) true
    (λ consumer asked one other typed is also. one_walkfind consumer asked.0 asked.1 asked.2 one other typed is also)
    (λ consumer asked answer is. walkfind_unpublished consumer asked.0 asked.1 asked.2 answer is)
    (λ can machine fresh chain sound of afresh asked answer is. walkfind_afresh machine fresh chain sound of afresh asked.0 asked.1 asked.2 answer is)
