-- The order `index`: what it answers, by what the consumer tells.
use Rattle.std.proofs.Common.{◌≡◌, ◌<◌, ℕ, List, Option, Some, None, Result, Ok, Err, IfOk, length, refl, sym, ap, subst}
use Rattle.std.specs.Prelude.{All, IsSomeAnd, OnErr, slice_get}
use Rattle.std.proofs.lemmas.Option.{slice_get_within}
use Rattle.hol_io.specs.Store.{Store}
use Rattle.hol_history.specs.History.{PastSteps}
use Rattle.schema_model.specs.declared.model.path.Path.{Path}
use Rattle.schema_model.specs.declared.schema.Schema.{Schema}
use Rattle.row_model.specs.Key.{IsResolved}
use Rattle.read_engine.specs.Indexes.{AddsIndex, CountsKeyed, KeepsIndex, index_by}
use Rattle.read_engine.specs.Position.{Index, Position}
use Rattle.hol_answers.specs.declared.refusal.Refusal.{Refusal}
use Rattle.hol_answers.specs.declared.refusal.Refusal.TheVariants as refusal
use Rattle.hol_answers.specs.declared.reply.Reply.{Reply}
use Rattle.hol_answers.specs.declared.reply.Reply.TheVariants as reply
use Rattle.hollow_machine.specs.IndexOrder.{IndexRefusal, IndexStep, RefusesIndex}
use Rattle.hollow_machine.specs.Kept.{IsReader, MovesReader, kept_with_reader, machine_of, reader_of}
use Rattle.hollow_machine.specs.KeyPaths.{AreKeyPaths, HasShape, IsObject}
use Rattle.consumer_orders.specs.Asked.{TellsType}
use Rattle.consumer_orders.specs.Sought.{TellsKept, TellsKeyPaths}
use Rattle.consumer_orders.specs.declared.key_paths.KeyPaths.TheVariants.{Resolved}
use Rattle.consumer_orders.specs.declared.type_order.Asked.TheVariants as asked
use Rattle.consumer_orders.proofs.KeyWays.{key_resolved}

-- Each path of a key is resolved, where these are the consumer's schemas.
pub resolved_here : (consumer : Option Position) (schemas : List Schema) (t : ℕ) (name : List ℕ) (texts : List (List ℕ)) (paths : List Path) → IsSomeAnd consumer (λ now. now.schemas ≡ schemas) →
    TellsKeyPaths schemas t name texts (Resolved paths) → IsSomeAnd consumer (λ now. All (IsResolved now.schemas t) paths)
resolved_here None schemas t name texts paths same tells = absurd same
resolved_here (Some now) schemas t name texts paths same tells = subst (λ (s : List Schema). All (IsResolved s t) paths) (sym same) (key_resolved schemas t texts paths tells.1)

-- The number of an index that is added is one of those that are kept.
pub added_inside : (old new : Option Position) (index : Index) (number : ℕ) → IsSomeAnd old (λ from. IsSomeAnd new (λ to. AddsIndex index from to number)) → IsSomeAnd new (λ to. number < length to.indexes)
added_inside None new index number added = absurd added
added_inside (Some from) None index number added = absurd added
added_inside (Some from) (Some to) index number added = slice_get_within to.indexes number index added.1

-- The index is kept, and its keys are counted.
pub index_kept : (old new : Option Position) (schemas : List Schema) (t : ℕ) (name : List ℕ) (texts : List (List ℕ)) (paths : List Path) (number keys : ℕ) → IsSomeAnd old (λ now. now.schemas ≡ schemas) →
    TellsKeyPaths schemas t name texts (Resolved paths) → IsSomeAnd old (λ from. IsSomeAnd new (λ to. AddsIndex (index_by t paths) from to number)) →
    IsSomeAnd new (λ to. IsSomeAnd (slice_get to.indexes number) (λ kept. CountsKeyed to kept keys)) → IsSomeAnd old (λ now. TellsKept name texts now t new (reply.Index keys))
index_kept None new schemas t name texts paths number keys same tells added counts = absurd same
index_kept (Some now) None schemas t name texts paths number keys same tells added counts = absurd added
index_kept (Some now) (Some to) schemas t name texts paths number keys same tells added counts =
    let here = subst (λ (s : List Schema). HasShape IsObject s t × AreKeyPaths s t texts paths) (sym same) tells in
    let counted = subst (λ (o : Option Index). IsSomeAnd o (λ kept. CountsKeyed to kept keys)) added.1 counts in
    (here.0, (paths, here.1, subst (λ (p : Position). CountsKeyed p (index_by t paths) keys) added.2 counted, (to.indexes, added.0, ap Some added.2)))

-- why there is no type is why there is no index
no_type_refused : (consumer : Option Position) (name : List ℕ) (texts : List (List ℕ)) (why : Refusal) → TellsType consumer name (asked.Refused why) → IndexRefusal consumer name texts why
no_type_refused None name texts why is = subst (IndexRefusal None name texts) (sym is) refl
no_type_refused (Some now) name texts why is = subst (IndexRefusal (Some now) name texts) (sym is.1) (is.0, refl)

-- Where there is no such type the machine stays.
pub no_type : (E : Type 0) (held : Option Store) (version : Option ℕ) (history : PastSteps) (consumer : Option Position) (name : List ℕ) (texts : List (List ℕ)) (why : Refusal) → TellsType consumer name (asked.Refused why) →
    MovesReader {E = E} (λ machine reply next. IndexStep machine name texts reply next) held (reader_of consumer version history) (reader_of consumer version history) (Ok (reply.Refused why))
no_type E None version history consumer name texts why is = λ kept. tt
no_type E (Some store) version history consumer name texts why is = λ kept. (store, refl, (no_type_refused consumer name texts why is, refl))

-- why the type has no index is why the order is refused
of_type : (now : Position) (name : List ℕ) (texts : List (List ℕ)) (t : ℕ) (why : Refusal) → TellsType (Some now) name (asked.At t) → RefusesIndex name texts now t why → IndexRefusal (Some now) name texts why
of_type now name texts t refusal.NoState known causes = absurd causes
of_type now name texts t (refusal.NoType other) known causes = absurd causes
of_type now name texts t why known causes = subst (λ (o : Option ℕ). IsSomeAnd o (λ u. RefusesIndex name texts now u why)) (sym known) causes

-- what is told of the type moves the machine
of_kept : (E : Type 0) (store : Store) (version : Option ℕ) (history : PastSteps) (now : Position) (new : Option Position) (name : List ℕ) (texts : List (List ℕ)) (t : ℕ) (answer : Reply) → TellsType (Some now) name (asked.At t) →
    TellsKept name texts now t new answer → MovesReader {E = E} (λ machine reply next. IndexStep machine name texts reply next) (Some store) (reader_of (Some now) version history) (reader_of new version history) (Ok answer)
of_kept E store version history now new name texts t (reply.Index keys) known (shape, (paths, are, counts, (indexes, keeps, is))) = λ kept.
    let moved = subst (λ (o : Option ℕ). IsSomeAnd o (λ u. HasShape IsObject now.schemas u
    × ((ps : List Path) × AreKeyPaths now.schemas u texts ps × CountsKeyed now (index_by u ps) keys
    × ((after : List Index) × KeepsIndex now.indexes (index_by u ps) after
    × (machine_of store (kept_with_reader kept (reader_of new version history)) ≡ machine_of store (kept_with_reader kept (reader_of (Some (record now { indexes = after })) version history))))))) (sym known)
    (shape, (paths, are, counts, (indexes, keeps, ap (λ at. machine_of store (kept_with_reader kept (reader_of at version history))) is))) in
    (store, refl, moved)
of_kept E store version history now new name texts t (reply.Refused why) known (causes, is) = λ kept. (store, refl, (of_type now name texts t why known causes, ap (λ at. machine_of store (kept_with_reader kept (reader_of at version history))) is))
of_kept E store version history now new name texts t _ known tells = absurd tells

-- What is told of the type moves the machine, or the order stops.
pub index_moves : (E : Type 0) (held : Option Store) (version : Option ℕ) (history : PastSteps) (old new : Option Position) (name : List ℕ) (texts texts' : List (List ℕ)) (t : ℕ) (r : Result Reply E) →
    TellsType old name (asked.At t) → texts ≡ texts' → IfOk r (λ reply. IsSomeAnd old (λ now. TellsKept name texts now t new reply)) →
    MovesReader {E = E} (λ machine reply next. IndexStep machine name texts' reply next) held (reader_of old version history) (reader_of new version history) r
index_moves E None version history old new name texts texts' t r known same tells = λ kept. tt
index_moves E (Some store) version history old new name texts texts' t (Err stop) known same tells = λ kept. tt
index_moves E (Some store) version history None new name texts texts' t (Ok answer) known same tells = absurd known
index_moves E (Some store) version history (Some now) new name texts texts' t (Ok answer) known same tells =
    of_kept E store version history now new name texts' t answer known (subst (λ (ts : List (List ℕ)). TellsKept name ts now t new answer) same tells)

-- The history leads on to where the consumer stands, as an index changes no row.
pub index_reads : (E : Type 0) (version : Option ℕ) (history : PastSteps) (old new : Option Position) (name : List ℕ) (texts : List (List ℕ)) (t : ℕ) (r : Result Reply E) →
    IfOk r (λ reply. IsSomeAnd old (λ now. TellsKept name texts now t new reply)) → OnErr r (new ≡ old) → IsReader (reader_of old version history) → IsReader (reader_of new version history)
index_reads E version history old new name texts t (Err stop) kept stays reads = subst (λ (now : Option Position). IsReader (reader_of now version history)) (sym stays) reads
index_reads E version history None new name texts t (Ok answer) kept stays reads = absurd kept
index_reads E version history (Some now) new name texts t (Ok (reply.Index keys)) (shape, (paths, are, counts, (indexes, keeps, is))) stays reads =
    subst (λ (after : Option Position). IsReader (reader_of after version history)) (sym is) reads
index_reads E version history (Some now) new name texts t (Ok (reply.Refused why)) (causes, is) stays reads = subst (λ (after : Option Position). IsReader (reader_of after version history)) (sym is) reads
index_reads E version history (Some now) new name texts t (Ok _) kept stays reads = absurd kept
