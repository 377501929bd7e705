-- What an order `index` that is answered leaves: the consumer as it stood, with the index among its indexes, which stay such as they have to be.
use Rattle.std.proofs.Common.{◌≡◌, ◌++◌, ℕ, zero, suc, List, [], ◌∷◌, inl, inr, Some, sym, subst, length-append, arith}
use Rattle.std.specs.Prelude.{All, AllPairs, Contains, ◌≢◌}
use Rattle.schema_model.specs.declared.schema.name.Name.{Name}
use Rattle.schema_model.specs.declared.schema.Schema.{Schema}
use Rattle.schema_model.specs.Parts.{index_of_type}
use Rattle.hol_answers.specs.declared.reply.Reply.TheVariants as reply
use Rattle.read_engine.specs.Indexes.{KeepsIndex}
use Rattle.read_engine.specs.Position.{Index, Position}
use Rattle.hollow_machine.specs.IndexOrder.{IndexStep}
use Rattle.hollow_machine.specs.State.{Machine, with_consumer}
use Rattle.chain_laws.specs.KeptIndexes.{AreIndexes, AsksFor, IsAsked}
use Rattle.chain_laws.proofs.StoreNames.{found_with}

-- the machine is the same, but that its consumer has these indexes, to which this one was asked for
pub record IsAdded (machine : Machine) (name : Name) (texts : List (List ℕ)) (next : Machine) : Type 0 where
  pub now : Position
  pub was : machine.consumer ≡ Some now
  pub index : Index
  pub asks : AsksFor now.schemas name texts index
  pub after : List Index
  pub keeps : KeepsIndex now.indexes index after
  pub is : next ≡ with_consumer machine (Some (record now { indexes = after }))

pub index_added : (machine : Machine) (name : Name) (texts : List (List ℕ)) (keys : ℕ) (next : Machine) → IndexStep machine name texts (reply.Index keys) next → IsAdded machine name texts next
index_added machine name texts keys next step =
    let (now, was, of) = found_with machine.consumer _ step in
    let (t, at, (shape, (paths, are, counts, (after, keeps, next_is)))) = found_with (index_of_type now.schemas name) _ of in
    record {
      now = now;
      was = was;
      index = record { type_index = t; paths = paths };
      asks = record { of_type = at; records = shape; paths = are };
      after = after;
      keeps = keeps;
      is = next_is;
    }

-- ---- one more index behind others

pub all_more : {A : Type 0} (P : A → Type 0) (xs : List A) (x : A) → All P xs → P x → All P (xs ++ x ∷ [])
all_more P [] x all one zero d inside = one
all_more P [] x all one (suc k) d inside = absurd (omega (arith, inside))
all_more P (y ∷ xs) x all one zero d inside = all 0 d (omega arith)
all_more P (y ∷ xs) x all one (suc k) d inside = all_more P xs x (λ i e within. all (suc i) e (omega (arith, within))) one k d (omega (arith, inside))

pub apart_more : {A : Type 0} (xs : List A) (x : A) → AllPairs (λ a b. a ≢ b) xs → (Contains xs x → ⊥) → AllPairs (λ a b. a ≢ b) (xs ++ x ∷ [])
apart_more [] x apart none i j d below inside = absurd (omega (arith, below, inside))
apart_more (y ∷ xs) x apart none i zero d below inside = absurd (omega (arith, below))
apart_more (y ∷ xs) x apart none (suc i) (suc j) d below inside =
    apart_more xs x (λ a b e under within. apart (suc a) (suc b) e (omega (arith, under)) (omega (arith, within))) (λ there. none (suc there.0, (let at = there.1 in omega (arith, at)), there.2)) i j d
    (omega (arith, below)) (omega (arith, inside))
apart_more (y ∷ xs) x apart none zero (suc j) d below inside =
    all_more (λ z. y ≢ z) xs x (λ k e within. apart 0 (suc k) e (omega arith) (omega (arith, within))) (λ same. none (0, omega arith, same)) j d (omega (arith, inside))

pub still_indexes : (schemas : List Schema) (indexes after : List Index) (name : Name) (texts : List (List ℕ)) (index : Index) → AreIndexes schemas indexes → AsksFor schemas name texts index → KeepsIndex indexes index after
    → AreIndexes schemas after
still_indexes schemas indexes after name texts index are asks (inl kept) = subst (AreIndexes schemas) (sym kept.1) are
still_indexes schemas indexes after name texts index are asks (inr new) =
    let long = length-append indexes (index ∷ []) in
    let room = new.1 in
    subst (AreIndexes schemas) (sym new.2) record {
      asked = all_more (IsAsked schemas) indexes index are.asked (name, texts, asks);
      apart = apart_more indexes index are.apart new.0;
      few = omega (arith, long, room);
    }

pub no_indexes : (schemas : List Schema) → AreIndexes schemas []
no_indexes schemas = record {
  asked = λ k d inside. absurd (omega (arith, inside));
  apart = λ i j d below inside. absurd (omega (arith, inside));
  few = omega arith;
}
