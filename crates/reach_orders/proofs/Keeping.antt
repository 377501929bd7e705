-- The order `walkindex`: what it answers, by what the consumer tells.
use Rattle.std.proofs.Common.{◌≡◌, ◌<◌, ℕ, List, inl, inr, Option, Some, None, Result, Ok, Err, IfOk, length, refl, sym, ap, subst}
use Rattle.std.specs.Prelude.{IsSomeAnd, OnErr, slice_get}
use Rattle.std.proofs.lemmas.Option.{slice_get_within}
use Rattle.hol_io.specs.Store.{Store}
use Rattle.hol_history.specs.History.{PastSteps}
use Rattle.hol_varint.specs.Yields.{Yields}
use Rattle.schema_model.specs.declared.model.walk_path.WalkPath.{WalkPath}
use Rattle.schema_model.specs.declared.schema.Schema.{Schema}
use Rattle.schema_model.specs.Path.{path_names}
use Rattle.schema_model.specs.WalkPath.{LeadsAlong, WalkResolves}
use Rattle.read_engine.specs.declared.fault.WalkIndexFault.{WalkIndexFault}
use Rattle.read_engine.specs.declared.fault.WalkIndexFault.TheVariants as fault
use Rattle.read_engine.specs.Position.{IsWalkOf, Position}
use Rattle.read_engine.specs.Walks.{AddsWalk, CountsWalked, IsFreeWalk, PassesEntries}
use Rattle.hol_answers.specs.declared.refusal.Refusal.{Refusal}
use Rattle.hol_answers.specs.declared.refusal.Refusal.TheVariants as refusal
use Rattle.hol_answers.specs.declared.reply.Reply.{Reply}
use Rattle.hol_answers.specs.declared.reply.Reply.TheVariants as reply
use Rattle.hollow_machine.specs.Kept.{IsReader, MovesReader, kept_with_reader, machine_of, reader_of}
use Rattle.hollow_machine.specs.WalkOrders.{IsLostWalk, RefusesWalk, WalkIndexRefusal, WalkIndexStep, WalksAlong}
use Rattle.consumer_orders.specs.Asked.{TellsType}
use Rattle.consumer_orders.specs.declared.type_order.Asked.TheVariants as asked
use Rattle.reach_orders.specs.Walked.{TellsKept, TellsWay}
use Rattle.reach_orders.specs.declared.walk_way.WalkWay.TheVariants as way

-- A path to which a text resolves in the consumer's model is one of a walk index.
pub walk_there : (consumer : Option Position) (schemas : List Schema) (t : ℕ) (text : List ℕ) (path : WalkPath) → IsSomeAnd consumer (λ now. now.schemas ≡ schemas) → IsSomeAnd consumer (λ now. t < length now.schemas)
    → WalkResolves schemas t text path → IsSomeAnd consumer (λ now. IsWalkOf now.schemas path)
walk_there None schemas t text path same inside resolves = absurd same
walk_there (Some now) schemas t text path same inside (begins, leads) = record {
  type_there = subst (λ (u : ℕ). u < length now.schemas) (sym begins) inside;
  text = text;
  resolved = (refl, subst (λ (s : List Schema). LeadsAlong s path.type_index (path_names text) path.parts) (sym same) (subst (λ (u : ℕ). LeadsAlong schemas u (path_names text) path.parts) (sym begins) leads));
}

-- The number of a walk index that is added is one of those that are kept.
pub added_inside : (old new : Option Position) (path : WalkPath) (number : ℕ) → IsSomeAnd old (λ from. IsSomeAnd new (λ to. AddsWalk path from to number)) → IsSomeAnd new (λ to. number < length to.walks)
added_inside None new path number added = absurd added
added_inside (Some from) None path number added = absurd added
added_inside (Some from) (Some to) path number added = slice_get_within to.walks number path added.1

-- What is answered a number is not refused for its entries.
few_entries : (number : ℕ) (P : Type 0) → Yields {T = ℕ} {E = WalkIndexFault} IsFreeWalk (Ok number) (Err fault.Entries) P → P → ⊥
few_entries number P yields passes = elim (yields.1 passes) [ inl is ↦ absurd cc | inr free ↦ free ]

-- The walk index is kept, and the rows that reach a value are counted.
pub walk_kept : (old new : Option Position) (schemas : List Schema) (t : ℕ) (text : List ℕ) (path : WalkPath) (number keys : ℕ) → IsSomeAnd old (λ now. now.schemas ≡ schemas) → WalkResolves schemas t text path
    → IsSomeAnd old (λ from. IsSomeAnd new (λ to. AddsWalk path from to number)) → Yields {T = ℕ} {E = WalkIndexFault} IsFreeWalk (Ok number) (Err fault.Entries) (IsSomeAnd old (λ from. PassesEntries from path))
    → IsSomeAnd new (λ to. IsSomeAnd (slice_get to.walks number) (λ kept. CountsWalked to kept keys)) → IsSomeAnd old (λ now. TellsKept text now t new (reply.WalkIndex keys))
walk_kept None new schemas t text path number keys same resolves added few counts = absurd same
walk_kept (Some now) None schemas t text path number keys same resolves added few counts = absurd added
walk_kept (Some now) (Some to) schemas t text path number keys same resolves added few counts =
    let here = subst (λ (s : List Schema). WalkResolves s t text path) (sym same) resolves in
    let counted = subst (λ (o : Option WalkPath). IsSomeAnd o (λ kept. CountsWalked to kept keys)) added.1 counts in
    (path, here, subst (λ (p : Position). CountsWalked p path keys) added.2 counted, (to.walks, (added.0, few_entries number (PassesEntries now path) few), ap Some added.2))

-- It is not kept, since the text leads to no value.
pub lost_kept : (old : Option Position) (schemas : List Schema) (t : ℕ) (text : List ℕ) (why : Refusal) → IsSomeAnd old (λ now. now.schemas ≡ schemas) → TellsWay schemas t text (way.Refused why)
    → IsSomeAnd old (λ now. TellsKept text now t old (reply.Refused why))
lost_kept None schemas t text why same tells = absurd same
lost_kept (Some now) schemas t text (refusal.BadPath lost) same tells = ((tells.0, subst (λ (s : List Schema). IsLostWalk s t text) (sym same) tells.1), refl)
lost_kept (Some now) schemas t text _ same tells = absurd tells

-- ---- the machine

-- why there is no type is why there is no walk index
no_type_refused : (consumer : Option Position) (name text : List ℕ) (why : Refusal) → TellsType consumer name (asked.Refused why) → WalkIndexRefusal consumer name text why
no_type_refused None name text why is = subst (WalkIndexRefusal None name text) (sym is) refl
no_type_refused (Some now) name text why is = subst (WalkIndexRefusal (Some now) name text) (sym is.1) (is.0, refl)

-- Where there is no such type the machine stays.
pub no_type : (E : Type 0) (held : Option Store) (version : Option ℕ) (history : PastSteps) (consumer : Option Position) (name text : List ℕ) (why : Refusal) → TellsType consumer name (asked.Refused why) →
    MovesReader {E = E} (λ machine reply next. WalkIndexStep machine name text reply next) held (reader_of consumer version history) (reader_of consumer version history) (Ok (reply.Refused why))
no_type E None version history consumer name text why is = λ kept. tt
no_type E (Some store) version history consumer name text why is = λ kept. (store, refl, (no_type_refused consumer name text why is, refl))

-- why the type has no walk index is why the order is refused
of_type : (now : Position) (name text : List ℕ) (t : ℕ) (why : Refusal) → TellsType (Some now) name (asked.At t) → RefusesWalk text now t why → WalkIndexRefusal (Some now) name text why
of_type now name text t refusal.NoState known causes = absurd causes
of_type now name text t (refusal.NoType other) known causes = absurd causes
of_type now name text t why known causes = subst (λ (o : Option ℕ). IsSomeAnd o (λ u. RefusesWalk text now u why)) (sym known) causes

-- what is told of the type moves the machine
of_kept : (E : Type 0) (store : Store) (version : Option ℕ) (history : PastSteps) (now : Position) (new : Option Position) (name text : List ℕ) (t : ℕ) (answer : Reply) → TellsType (Some now) name (asked.At t) →
    TellsKept text now t new answer → MovesReader {E = E} (λ machine reply next. WalkIndexStep machine name text reply next) (Some store) (reader_of (Some now) version history) (reader_of new version history) (Ok answer)
of_kept E store version history now new name text t (reply.WalkIndex keys) known (path, resolves, counts, (walks, keeps, is)) = λ kept.
    let machine = machine_of store (kept_with_reader kept (reader_of (Some now) version history)) in
    let next = machine_of store (kept_with_reader kept (reader_of new version history)) in
    let along : WalksAlong machine text now t keys next = record {
      path = path;
      resolves = resolves;
      counts = counts;
      after = walks;
      keeps = keeps;
      is = ap (λ at. machine_of store (kept_with_reader kept (reader_of at version history))) is;
    } in
    (store, refl, subst (λ (o : Option ℕ). IsSomeAnd o (λ u. WalksAlong machine text now u keys next)) (sym known) along)
of_kept E store version history now new name text t (reply.Refused why) known (causes, is) = λ kept. (store, refl, (of_type now name text t why known causes, ap (λ at. machine_of store (kept_with_reader kept (reader_of at version history))) is))
of_kept E store version history now new name text t _ known tells = absurd tells

-- What is told of the type moves the machine, or the order stops.
pub walk_moves : (E : Type 0) (held : Option Store) (version : Option ℕ) (history : PastSteps) (old new : Option Position) (name text : List ℕ) (t : ℕ) (r : Result Reply E) →
    TellsType old name (asked.At t) → IfOk r (λ reply. IsSomeAnd old (λ now. TellsKept text now t new reply)) →
    MovesReader {E = E} (λ machine reply next. WalkIndexStep machine name text reply next) held (reader_of old version history) (reader_of new version history) r
walk_moves E None version history old new name text t r known tells = λ kept. tt
walk_moves E (Some store) version history old new name text t (Err stop) known tells = λ kept. tt
walk_moves E (Some store) version history None new name text t (Ok answer) known tells = absurd known
walk_moves E (Some store) version history (Some now) new name text t (Ok answer) known tells = of_kept E store version history now new name text t answer known tells

-- The history leads on to where the consumer stands, as a walk index changes no row.
pub walk_reads : (E : Type 0) (version : Option ℕ) (history : PastSteps) (old new : Option Position) (text : List ℕ) (t : ℕ) (r : Result Reply E) →
    IfOk r (λ reply. IsSomeAnd old (λ now. TellsKept text now t new reply)) → OnErr r (new ≡ old) → IsReader (reader_of old version history) → IsReader (reader_of new version history)
walk_reads E version history old new text t (Err stop) kept stays reads = subst (λ (now : Option Position). IsReader (reader_of now version history)) (sym stays) reads
walk_reads E version history None new text t (Ok answer) kept stays reads = absurd kept
walk_reads E version history (Some now) new text t (Ok (reply.WalkIndex keys)) (path, resolves, counts, (walks, keeps, is)) stays reads =
    subst (λ (after : Option Position). IsReader (reader_of after version history)) (sym is) reads
walk_reads E version history (Some now) new text t (Ok (reply.Refused why)) (causes, is) stays reads = subst (λ (after : Option Position). IsReader (reader_of after version history)) (sym is) reads
walk_reads E version history (Some now) new text t (Ok _) kept stays reads = absurd kept
