-- What an order `walkindex` that is answered leaves: the consumer as it stood, with the walk index among its walk indexes, which stay such as they have to be; and
-- so they stay behind a step.
use Rattle.std.proofs.Common.{◌≡◌, ◌∙◌, ℕ, suc, List, [], ◌∷◌, inl, inr, Some, refl, sym, ap, subst, length-append, arith}
use Rattle.std.specs.Prelude.{◌≢◌, All, AllPairs}
use Rattle.std.proofs.lemmas.List.Elements.{All-cons, All-nil}
use Rattle.std.proofs.lemmas.List.Kept.{AllPairs-cons}
use Rattle.schema_model.specs.declared.model.walk_path.WalkPath.{WalkPath}
use Rattle.schema_model.specs.declared.schema.name.Name.{Name}
use Rattle.schema_model.specs.declared.schema.Schema.{Schema}
use Rattle.schema_model.specs.Parts.{index_of_type}
use Rattle.schema_model.specs.Path.{path_names}
use Rattle.schema_model.specs.WalkPath.{LeadsAlong}
use Rattle.row_model.specs.Table.{Table}
use Rattle.hol_answers.specs.declared.reply.Reply.TheVariants as reply
use Rattle.read_engine.specs.Position.{Position, rows_now}
use Rattle.read_engine.specs.Walks.{AreThose, HasFewEntries, KeepsWalks}
use Rattle.read_engine.proofs.Those.{those_all, those_few}
use Rattle.hollow_machine.specs.State.{Machine, with_consumer}
use Rattle.hollow_machine.specs.WalkOrders.{KeepsWalk, WalkIndexStep}
use Rattle.chain_laws.specs.KeptWalks.{AreWalks, AsksForWalk, IsWalkAsked}
use Rattle.chain_laws.proofs.AddedIndexes.{all_more, apart_more}
use Rattle.chain_laws.proofs.StoreNames.{found_with}

-- the machine is the same, but that its consumer has these walk indexes, to which this one was asked for
pub record IsWalkAdded (machine : Machine) (name : Name) (text : List ℕ) (next : Machine) : Type 0 where
  pub now : Position
  pub was : machine.consumer ≡ Some now
  pub path : WalkPath
  pub asks : AsksForWalk now.schemas name text path
  pub after : List WalkPath
  pub keeps : KeepsWalk now path after
  pub is : next ≡ with_consumer machine (Some (record now { walks = after }))

pub walk_added : (machine : Machine) (name : Name) (text : List ℕ) (keys : ℕ) (next : Machine) → WalkIndexStep machine name text (reply.WalkIndex keys) next → IsWalkAdded machine name text next
walk_added machine name text keys next step =
    let (now, was, of) = found_with machine.consumer _ step in
    let (t, at, along) = found_with (index_of_type now.schemas name) _ of in
    let begins = along.resolves.0 in
    record {
      now = now;
      was = was;
      path = along.path;
      asks = record {
        of_type = at ∙ ap Some (sym begins);
        resolves = (refl, subst (λ (u : ℕ). LeadsAlong now.schemas u (path_names text) along.path.parts) (sym begins) along.resolves.1);
      };
      after = along.after;
      keeps = along.keeps;
      is = along.is;
    }

pub still_walks : (now : Position) (after : List WalkPath) (name : Name) (text : List ℕ) (path : WalkPath) → AreWalks now.schemas (rows_now now) now.walks → AsksForWalk now.schemas name text path → KeepsWalk now path after
    → AreWalks now.schemas (rows_now now) after
still_walks now after name text path are asks (inl kept, few) = subst (AreWalks now.schemas (rows_now now)) (sym kept.1) are
still_walks now after name text path are asks (inr new, few) =
    let long = length-append now.walks (path ∷ []) in
    let room = new.1 in
    subst (AreWalks now.schemas (rows_now now)) (sym new.2) record {
      asked = all_more (IsWalkAsked now.schemas) now.walks path are.asked (name, text, asks);
      apart = apart_more now.walks path are.apart new.0;
      few = omega (arith, long, room);
      small = all_more (HasFewEntries now.schemas (rows_now now)) now.walks path are.small (λ many. few (new.0, new.1, many));
    }

pub no_walks : (schemas : List Schema) (table : Table) → AreWalks schemas table []
no_walks schemas table = record {
  asked = λ k d inside. absurd (omega (arith, inside));
  apart = λ i j d below inside. absurd (omega (arith, inside));
  few = omega arith;
  small = λ k d inside. absurd (omega (arith, inside));
}

-- ---- those that a step keeps

module _ (P : WalkPath → Type 0) where
  -- what is asked is so of those
  those_so : (walks those : List WalkPath) → AreThose P walks those → All P those
  those_so [] those is = subst (All P) (sym is) (All-nil P)
  those_so (path ∷ walks) those (inl (rest, so, is, behind)) = subst (All P) (sym is) (All-cons P path rest so (those_so walks rest behind))
  those_so (path ∷ walks) those (inr (not, behind)) = those_so walks those behind

  those_apart : (walks those : List WalkPath) → AreThose P walks those → AllPairs (λ earlier later. earlier ≢ later) walks → AllPairs (λ earlier later. earlier ≢ later) those
  those_apart [] those is apart = subst (AllPairs (λ earlier later. earlier ≢ later)) (sym is) apart
  those_apart (path ∷ walks) those (inl (rest, so, is, behind)) apart =
      subst (AllPairs (λ earlier later. earlier ≢ later)) (sym is)
      (AllPairs-cons (λ earlier later. earlier ≢ later) path rest
      (those_all P (λ later. path ≢ later) walks rest behind (λ k d within. apart 0 (suc k) d (omega arith) (omega (arith, within))))
      (those_apart walks rest behind (λ i j d below within. apart (suc i) (suc j) d (omega (arith, below)) (omega (arith, within)))))
  those_apart (path ∷ walks) those (inr (not, behind)) apart = those_apart walks those behind (λ i j d below within. apart (suc i) (suc j) d (omega (arith, below)) (omega (arith, within)))

pub kept_walks : (schemas : List Schema) (before table : Table) (walks after : List WalkPath) → AreWalks schemas before walks → KeepsWalks schemas table walks after → AreWalks schemas table after
kept_walks schemas before table walks after are keeps =
    let fewer = those_few (HasFewEntries schemas table) walks after keeps in
    let few = are.few in
    record {
      asked = those_all (HasFewEntries schemas table) (IsWalkAsked schemas) walks after keeps are.asked;
      apart = those_apart (HasFewEntries schemas table) walks after keeps are.apart;
      few = omega (arith, few, fewer);
      small = those_so (HasFewEntries schemas table) walks after keeps;
    }
