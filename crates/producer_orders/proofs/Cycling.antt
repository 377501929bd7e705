-- A cycle from its parts: what each part tells is what the order answers, or is refused for.
use Rattle.std.proofs.Common.{◌≡◌, ◌≢◌, ◌∙◌, ◌≤◌, ℕ, zero, suc, ℤ, List, [], length, take, Bool, true, false, Option, Some, None, Result, Ok, Err, inl, inr, refl, sym, ap, subst, arith}
use Rattle.std.specs.Prelude.{IsTrue, OnErr, ◌↔◌}
use Rattle.std.specs.Option.{option_map}
use Rattle.std.proofs.lemmas.Bool.{cases_lt}
use Rattle.std.proofs.lemmas.List.{take_all}
use Rattle.hol_io.specs.Store.{Store}
use Rattle.schema_model.specs.declared.limit.Limit.TheVariants as limit
use Rattle.row_model.specs.PlainTree.{PlainTree}
use Rattle.row_model.specs.Table.{Table}
use Rattle.write_engine.specs.CycleLimit.{TellsTypes}
use Rattle.write_engine.specs.Production.{Production, advanced_to, without_rows}
use Rattle.write_engine.specs.declared.producer.Closed.{Closed}
use Rattle.hol_answers.specs.declared.refusal.Refusal.{Refusal}
use Rattle.hol_answers.specs.declared.refusal.Refusal.TheVariants as refusal
use Rattle.hol_answers.specs.declared.reply.Reply.{Reply}
use Rattle.hol_answers.specs.declared.reply.Reply.TheVariants as reply
use Rattle.hollow_machine.specs.CycleOrder.{AreNamed, CycleRefusal, CycleStep, Makes, Publishes, RefusesAfter}
use Rattle.hollow_machine.specs.Follow.{MayFollow, MayNotFollow}
use Rattle.hollow_machine.specs.Kept.{MovesProducer, kept_with_producer, machine_of}
use Rattle.hollow_machine.specs.Left.{HaltsProducer, HasPart}
use Rattle.hollow_machine.specs.Puts.{ArePutsOf, CyclePuts, PutsAfter}
use Rattle.hollow_machine.specs.Records.{AskedCycle, GivesTrees}
use Rattle.hollow_machine.specs.State.{Machine}
use Rattle.state_blobs.specs.Published.{published_of, Published}
use Rattle.state_blobs.specs.Puts.{AreBlobs, Put, put_all, puts_of}
use Rattle.hol_orders.specs.declared.order_stop.OrderStop.{OrderStop}
use Rattle.blob_writing.specs.declared.fault.WriteFault.{WriteFault}
use Rattle.blob_writing.specs.declared.fault.WriteFault.TheVariants as write
use Rattle.blob_writing.specs.Limits.{MeansLarge}
use Rattle.state_blobs.specs.declared.write.Blobs.{Blobs}
use Rattle.producer_orders.specs.declared.cycle_end.CycleEnd.{CycleEnd}
use Rattle.producer_orders.specs.declared.cycle_end.CycleEnd.TheVariants as cycle_end
use Rattle.producer_orders.specs.Ends.{IsMemory, TellsEnd, end_of}
use Rattle.state_blobs.specs.Blobs.{AreNotShort, IsPartlyPut, puts_in}
use Rattle.producer_orders.specs.Making.{AreRefused, Ends, EndsPublished, Follows, IsEnded, IsMade, IsTooLarge, IsWithin, Steps, StopsPart, machine_with}

-- what is too large is refused, where the state would be published
too_large : (store : Store) (last : Published) (asked : AskedCycle) (trees : List (ℕ × PlainTree)) (rows : Table) (changed : List ℕ) (why : Refusal) →
    MayFollow store last.version asked.version asked.tag → GivesTrees last asked.add trees → Makes last trees rows changed → Publishes last changed →
    IsTooLarge last rows asked.version asked.tag asked.snapshot why → RefusesAfter store last asked why
too_large store last asked trees rows changed (refusal.TooLarge limit.Ordinals) follows gives makes publishes told = absurd told.3
too_large store last asked trees rows changed (refusal.TooLarge limit.Blob) follows gives makes publishes told = (follows, (trees, gives, (rows, changed, makes, publishes, told.0, told.1)))
too_large store last asked trees rows changed (refusal.TooLarge _) follows gives makes publishes told = (follows, (trees, gives, (rows, changed, makes, publishes, told)))
too_large store last asked trees rows changed _ follows gives makes publishes told = absurd told

-- how a closed cycle ends is what the order answers
ended : (store : Store) (last : Published) (asked : AskedCycle) (trees : List (ℕ × PlainTree)) (rows : Table) (changed : List ℕ) (held : Option Store) (now : Published) (answer : Reply) →
    MayFollow store last.version asked.version asked.tag → GivesTrees last asked.add trees → Makes last trees rows changed →
    IsEnded store last rows changed asked.version asked.tag asked.snapshot held now answer →
    (next : Store) × (held ≡ Some next) × ((machine : Machine) → CycleStep (machine_with machine store last) asked answer (machine_with machine next now))
ended store last asked trees rows changed held now (reply.Cycle names published version) follows gives makes (same, named, (next, is, leaves)) =
    (next, is, λ machine. (same, (follows, (trees, gives, (rows, changed, makes, named, leaves machine)))))
ended store last asked trees rows changed held now _ follows gives makes told = absurd told

-- what some puts leave that stop in their course, others leave that they are
stops_in : (ArePuts AreOthers : List Put → Type 0) (store : Store) (held : Option Store) → ((puts : List Put) → ArePuts puts → AreOthers puts) → StopsPart ArePuts store held → StopsPart AreOthers store held
stops_in ArePuts AreOthers store held are (next, told, inl same) = (next, told, inl same)
stops_in ArePuts AreOthers store held are (next, told, inr (puts, is, first)) = (next, told, inr (puts, are puts is, first))

-- nothing is put
stops_before : (ArePuts : List Put → Type 0) (store : Store) (held held' : Option Store) → held' ≡ held → held ≡ Some store → StopsPart ArePuts store held'
stops_before ArePuts store held held' same told = (store, same ∙ told, inl refl)

-- how the last part ends is how the cycle ends
ends_so : (store : Store) (last : Published) (asked : AskedCycle) (trees : List (ℕ × PlainTree)) (rows : Table) (changed : List ℕ) (held : Option Store) (now : Published) (result : Result Reply CycleEnd) →
    MayFollow store last.version asked.version asked.tag → GivesTrees last asked.add trees → Makes last trees rows changed →
    TellsEnd (IsEnded store last rows changed asked.version asked.tag asked.snapshot held now) (λ why. (held ≡ Some store) × Publishes last changed × IsTooLarge last rows asked.version asked.tag asked.snapshot why)
    (λ stop. StopsPart (λ puts. Publishes last changed × ArePutsOf last rows asked.version asked.tag asked.snapshot puts) store held) result →
    TellsEnd (λ answer. (next : Store) × (held ≡ Some next) × ((machine : Machine) → CycleStep (machine_with machine store last) asked answer (machine_with machine next now)))
    (λ why. (held ≡ Some store) × RefusesAfter store last asked why) (λ stop. StopsPart (PutsAfter store last asked) store held) result
ends_so store last asked trees rows changed held now (Ok answer) follows gives makes told = ended store last asked trees rows changed held now answer follows gives makes told
ends_so store last asked trees rows changed held now (Err (cycle_end.Refused why)) follows gives makes told =
    (told.0, too_large store last asked trees rows changed why follows gives makes told.1 told.2)
ends_so store last asked trees rows changed held now (Err (cycle_end.Stopped stop)) follows gives makes told =
    stops_in (λ puts. Publishes last changed × ArePutsOf last rows asked.version asked.tag asked.snapshot puts) (PutsAfter store last asked) store held
    (λ puts are. (follows, (trees, rows, changed, gives, makes, are.0, are.1))) told

-- A closed cycle of a state that may follow ends so.
pub ends : (asked : AskedCycle) (held between held' : Option Store) (last mid now : Published) (made : Production) (closed : Closed) (result : Result Reply CycleEnd) →
    between ≡ held → mid ≡ last → Follows held last.version asked.version asked.tag (Ok tt) → IsMade last asked.add made closed → Ends between mid made.current closed.changed asked.version asked.tag asked.snapshot held' now result →
    Steps asked held last held' now result
ends asked None between held' last mid now made closed result same kept follows is told = tt
ends asked (Some store) between held' last mid now made closed result same kept follows is told =
    let over_last : Ends between last made.current closed.changed asked.version asked.tag asked.snapshot held' now result = subst (λ (l : Published). Ends between l made.current closed.changed asked.version asked.tag asked.snapshot held' now result) kept told in
    let over_store : Ends (Some store) last made.current closed.changed asked.version asked.tag asked.snapshot held' now result =
    subst (λ (h : Option Store). Ends h last made.current closed.changed asked.version asked.tag asked.snapshot held' now result) same over_last in
    ends_so store last asked is.trees made.current closed.changed held' now result follows is.gives is.makes over_store

-- records that are refused, of a state that may follow, are what the cycle is refused for
refused_after : (store : Store) (last : Published) (asked : AskedCycle) (why : Refusal) → MayFollow store last.version asked.version asked.tag → AreRefused last asked.add why → RefusesAfter store last asked why
refused_after store last asked (refusal.NoType name) follows is = (follows, is)
refused_after store last asked (refusal.BadRecord fault) follows is = (follows, is)
refused_after store last asked (refusal.TooLarge limit.Ordinals) follows is = (follows, is)
refused_after store last asked (refusal.TooLarge _) follows is = absurd is
refused_after store last asked _ follows is = absurd is

-- A cycle whose records are refused ends so, of a state that may follow, or it stops.
pub records_end : (asked : AskedCycle) (held held' : Option Store) (last now : Published) (made : Closed → Type 0) (end : CycleEnd) →
    held' ≡ held → Follows held last.version asked.version asked.tag (Ok tt) → TellsEnd {T = Closed} made (AreRefused last asked.add) IsMemory (Err end) → Steps asked held last held' now (Err end)
records_end asked None held' last now made end same follows told = tt
records_end asked (Some store) held' last now made (cycle_end.Refused why) same follows told = (same, refused_after store last asked why follows told)
records_end asked (Some store) held' last now made (cycle_end.Stopped stop) same follows told = stops_before (PutsAfter store last asked) store (Some store) held' same refl

-- why a state may not follow is what the cycle is refused for
may_not : (store : Store) (last : Published) (asked : AskedCycle) (why : Refusal) → MayNotFollow store last.version asked.version asked.tag why → RefusesAfter store last asked why
may_not store last asked (refusal.NoType name) is = absurd is
may_not store last asked (refusal.BadRecord fault) is = absurd is
may_not store last asked (refusal.TooLarge passed) is = absurd is
may_not store last asked _ is = is

-- A cycle of a state that may not follow ends so, or it stops.
pub follow_ends : (asked : AskedCycle) (held held' : Option Store) (last now : Published) (end : CycleEnd) →
    held' ≡ held → Follows held last.version asked.version asked.tag (Err end) → Steps asked held last held' now (Err end)
follow_ends asked None held' last now end same told = tt
follow_ends asked (Some store) held' last now (cycle_end.Refused why) same told = (same, may_not store last asked why told)
follow_ends asked (Some store) held' last now (cycle_end.Stopped stop) same told = stops_before (PutsAfter store last asked) store (Some store) held' same refl

-- what is refused after the state of a producer is refused of the machine
after_producer : (machine : Machine) (store : Store) (last : Published) (asked : AskedCycle) (why : Refusal) → RefusesAfter store last asked why →
    CycleRefusal (machine_with machine store last) asked why
after_producer machine store last asked refusal.NoModel h = absurd h
after_producer machine store last asked _ is = is

-- What a cycle answers moves the machine, where all that it leaves unpublished is dropped.
pub answers : (asked : AskedCycle) (held held' : Option Store) (old mid new : Production) (answer : Reply) (E : Type 0) → new ≡ without_rows mid →
    Steps asked held (published_of old) held' (published_of mid) (Ok answer) →
    MovesProducer {E = E} (λ machine r next. CycleStep machine asked r next) held (Some old) held' (Some new) (Ok answer)
answers asked None held' old mid new answer E is steps = λ kept. tt
answers asked (Some store) held' old mid new answer E is (next, told, steps) =
    subst (λ p. MovesProducer {E = E} (λ machine r next. CycleStep machine asked r next) (Some store) (Some old) held' (Some p) (Ok answer)) (sym is)
    (λ kept. (next, told, steps (machine_of store (kept_with_producer kept (Some old)))))

pub refuses : (asked : AskedCycle) (held held' : Option Store) (old mid new : Production) (why : Refusal) (E : Type 0) → new ≡ without_rows mid → published_of mid ≡ published_of old →
    Steps asked held (published_of old) held' (published_of mid) (Err (cycle_end.Refused why)) →
    MovesProducer {E = E} (λ machine r next. CycleStep machine asked r next) held (Some old) held' (Some new) (Ok (reply.Refused why))
refuses asked None held' old mid new why E is kept steps = λ kept. tt
refuses asked (Some store) held' old mid new why E is kept steps =
    subst (λ p. MovesProducer {E = E} (λ machine r next. CycleStep machine asked r next) (Some store) (Some old) held' (Some p) (Ok (reply.Refused why))) (sym is)
    (λ beside.
    let machine = machine_of store (kept_with_producer beside (Some old)) in
    (store, steps.0, (after_producer machine store (published_of old) asked why steps.1, ap (λ p. machine_with machine store p) kept)))

pub no_producer : (asked : AskedCycle) (held : Option Store) (kept : Option Production) (E : Type 0) → kept ≡ None →
    MovesProducer {E = E} (λ machine r next. CycleStep machine asked r next) held kept held kept (Ok (reply.Refused refusal.NoModel))
no_producer asked None kept E is = λ kept. tt
no_producer asked (Some store) kept E is = λ beside. (store, refl, (ap (option_map published_of) is, refl))

-- Blobs that are not written end a cycle of a state that keeps the limits of its types.
pub not_written : (last : Published) (rows : Table) (version : ℕ) (tag : ℤ) (with_snapshot : Bool) (fault : WriteFault) → TellsTypes last.model last.rows rows None →
    MeansLarge (AreNotShort (AreBlobs last rows version tag with_snapshot)) fault → TellsEnd {T = Blobs} (IsWithin last rows version tag with_snapshot) (IsTooLarge last rows version tag with_snapshot) IsMemory (Err (end_of fault))
not_written last rows version tag with_snapshot write.Large types means = (types, means)
not_written last rows version tag with_snapshot write.Memory types means = refl

-- A state without blobs is not published.
pub no_blobs : (held : Option Store) (last now : Published) (rows : Table) (version : ℕ) (tag : ℤ) (with_snapshot : Bool) (end : CycleEnd) →
    TellsEnd {T = Blobs} (IsWithin last rows version tag with_snapshot) (IsTooLarge last rows version tag with_snapshot) IsMemory (Err end) → EndsPublished held last rows version tag with_snapshot held now (Err end)
no_blobs None last now rows version tag with_snapshot end told = tt
no_blobs (Some store) last now rows version tag with_snapshot (cycle_end.Refused why) told = (refl, told)
no_blobs (Some store) last now rows version tag with_snapshot (cycle_end.Stopped stop) told = stops_before (ArePutsOf last rows version tag with_snapshot) store (Some store) (Some store) refl refl

-- A state whose blobs are put is published.
pub is_published : (held held' : Option Store) (old new : Production) (version : ℕ) (tag : ℤ) (with_snapshot : Bool) (blobs : Blobs) → IsWithin (published_of old) old.current version tag with_snapshot blobs →
    held' ≡ option_map (λ store. put_all store (puts_of (puts_in blobs) version)) held → new ≡ advanced_to tag version old →
    EndsPublished held (published_of old) old.current version tag with_snapshot held' (published_of new) (Ok tt)
is_published None held' old new version tag with_snapshot blobs within put is = tt
is_published (Some store) held' old new version tag with_snapshot blobs within put is = (within.0, (puts_in blobs, within.1, within.2, put, ap published_of is))

-- a front of some puts is one of so many, and no more than there are
front_of : (puts : List Put) (count : ℕ) → (some : ℕ) × (some ≤ length puts) × (take count puts ≡ take some puts)
front_of puts count =
    elim (cases_lt count (length puts)) [
      | inl within ↦ (count, omega (arith, within), refl)
      | inr past ↦ (length puts, omega arith, take_all count puts past ∙ sym (take_all (length puts) puts (omega arith)))
    ]

-- the first puts, or none
first_puts : (ArePuts : List Put → Type 0) (puts : List Put) → ArePuts puts → (store now : Store) (count : ℕ) → count ≤ length puts → now ≡ put_all store (take count puts) → HasPart ArePuts store now
first_puts ArePuts puts are store now zero within is = inl is
first_puts ArePuts puts are store now (suc count) within is = inr (puts, are, record { count = suc count; some = omega arith; within = within; put = is })

-- A put that is refused ends a cycle with those before it.
pub put_in_part : (held held' : Option Store) (last now : Published) (rows : Table) (version : ℕ) (tag : ℤ) (with_snapshot : Bool) (blobs : Blobs) (stop : OrderStop) → IsWithin last rows version tag with_snapshot blobs →
    IsPartlyPut (puts_of (puts_in blobs) version) held held' → EndsPublished held last rows version tag with_snapshot held' now (Err (cycle_end.Stopped stop))
put_in_part None held' last now rows version tag with_snapshot blobs stop within part = tt
put_in_part (Some store) held' last now rows version tag with_snapshot blobs stop within (count, is) =
    let puts = puts_of (puts_in blobs) version in
    let are : ArePutsOf last rows version tag with_snapshot puts = (within.0, (puts_in blobs, within.1, within.2, refl)) in
    let front = front_of puts count in
    (put_all store (take count puts), is, first_puts (ArePutsOf last rows version tag with_snapshot) puts are store (put_all store (take count puts)) front.0 front.1 (ap (put_all store) front.2))

-- What a cycle leaves of the store that stops.
pub halts : (asked : AskedCycle) (held held' : Option Store) (old mid : Production) (stop : OrderStop) →
    Steps asked held (published_of old) held' (published_of mid) (Err (cycle_end.Stopped stop)) →
    HaltsProducer (CyclePuts asked) held (Some old) held' (Err stop)
halts asked None held' old mid stop steps = λ beside. tt
halts asked (Some store) held' old mid stop steps = λ beside. steps

-- What a producer has published, where it stays if a cycle stops, is what there was of one.
pub undone : {E : Type 0} (result : Result Reply E) (producer : Option Production) (old new : Production) → producer ≡ Some old → OnErr result (published_of new ≡ published_of old) →
    OnErr result (option_map published_of (Some new) ≡ option_map published_of producer)
undone (Ok answer) producer old new is same = tt
undone (Err stop) producer old new is same = ap Some same ∙ ap (option_map published_of) (sym is)

not_true : (b : Bool) → b ≡ false → IsTrue b → ⊥
not_true true is holds = cc
not_true false is holds = cc

-- types that are not said to be none are some
pub changes : (changed : List ℕ) (none : Bool) → none ≡ false → (IsTrue none ↔ (changed ≡ [])) → changed ≢ []
changes changed none not is = λ empty. not_true none not (is.1 empty)

-- A later cycle that changes no type publishes nothing.
pub unpublished : (held : Option Store) (last : Published) (rows : Table) (changed : List ℕ) (version : ℕ) (tag : ℤ) (with_snapshot : Bool) (names : List (List ℕ)) (first : Bool) →
    first ≡ false → (IsTrue first ↔ (last.version ≡ 0)) → changed ≡ [] → AreNamed last.model changed names → Ends held last rows changed version tag with_snapshot held last (Ok (reply.Cycle names false version))
unpublished None last rows changed version tag with_snapshot names first later is empty named = tt
unpublished (Some store) last rows changed version tag with_snapshot names first later is empty named =
    (refl, named, (store, refl, λ machine. ((λ zero. not_true first later (is.1 zero)), empty, refl)))

-- A cycle that is published ends so.
pub published : (held held' : Option Store) (last now : Published) (rows : Table) (changed : List ℕ) (version : ℕ) (tag : ℤ) (with_snapshot : Bool) (names : List (List ℕ)) →
    Publishes last changed → AreNamed last.model changed names → EndsPublished held last rows version tag with_snapshot held' now (Ok tt) → Ends held last rows changed version tag with_snapshot held' now (Ok (reply.Cycle names true version))
published None held' last now rows changed version tag with_snapshot names publishes named told = tt
published (Some store) held' last now rows changed version tag with_snapshot names publishes named (types, (blobs, are, short, put, is)) =
    (refl, named, (put_all store (puts_of blobs version), put, λ machine. (publishes, types, (blobs, are, short, ap (λ p. machine_with machine (put_all store (puts_of blobs version)) p) is))))

-- A cycle that cannot be published ends so.
pub not_published : (held held' : Option Store) (last now : Published) (rows : Table) (changed : List ℕ) (version : ℕ) (tag : ℤ) (with_snapshot : Bool) (end : CycleEnd) → Publishes last changed →
    EndsPublished held last rows version tag with_snapshot held' now (Err end) → Ends held last rows changed version tag with_snapshot held' now (Err end)
not_published None held' last now rows changed version tag with_snapshot end publishes told = tt
not_published (Some store) held' last now rows changed version tag with_snapshot (cycle_end.Refused why) publishes told = (told.0, publishes, told.1)
not_published (Some store) held' last now rows changed version tag with_snapshot (cycle_end.Stopped stop) publishes told =
    stops_in (ArePutsOf last rows version tag with_snapshot) (λ puts. Publishes last changed × ArePutsOf last rows version tag with_snapshot puts) store held' (λ puts are. (publishes, are)) told

-- A closed cycle stops before anything of it is put.
pub stops_unpublished : (held : Option Store) (last now : Published) (rows : Table) (changed : List ℕ) (version : ℕ) (tag : ℤ) (with_snapshot : Bool) (stop : OrderStop) →
    Ends held last rows changed version tag with_snapshot held now (Err (cycle_end.Stopped stop))
stops_unpublished None last now rows changed version tag with_snapshot stop = tt
stops_unpublished (Some store) last now rows changed version tag with_snapshot stop =
    stops_before (λ puts. Publishes last changed × ArePutsOf last rows version tag with_snapshot puts) store (Some store) (Some store) refl refl
