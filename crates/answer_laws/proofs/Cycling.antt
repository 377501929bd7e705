-- The order `cycle` has an answer.
use Rattle.std.proofs.Common.{◌≡◌, ◌≢◌, ◌<◌, ◌≤◌, ◌+◌, ◌∙◌, ℕ, ℤ, zero, suc, List, [], ◌∷◌, length, Bool, true, false, Option, None, Some, inl, inr, refl, sym, ap, subst, arith}
use Rattle.std.specs.Prelude.{All, Contains, IfSome, IsSomeAnd, unwrap_or}
use Rattle.std.specs.Fmt.{decimal}
use Rattle.std.specs.FinMap.{empty}
use Rattle.std.specs.Ordering.{nat_cmp}
use Rattle.std.proofs.lemmas.Bool.{cases_eq, cases_lt}
use Rattle.std.proofs.lemmas.List.Elements.{Contains-append_right}
use Rattle.std.proofs.lemmas.Option.{slice_get_past}
use Rattle.hol_io.specs.declared.name.BlobName.TheVariants.{Announced}
use Rattle.hol_io.specs.Name.{IsVersion}
use Rattle.hol_io.specs.Store.{Store, told}
use Rattle.schema_model.specs.declared.limit.Limit.{Limit}
use Rattle.schema_model.specs.declared.limit.Limit.TheVariants as limit
use Rattle.schema_model.specs.declared.reason.Reason.TheVariants.{BadAnnounced}
use Rattle.schema_model.specs.declared.schema.Schema.{Schema}
use Rattle.schema_model.specs.declared.schema.Shape.{Shape}
use Rattle.row_model.specs.PlainTree.{PlainTree}
use Rattle.row_model.specs.Table.{RowMap, Table}
use Rattle.row_packing.specs.Chosen.{shape_at}
use Rattle.row_packing.specs.TypeLimit.{KeepsBytes, KeepsItems, KeepsWords, TellsLimit}
use Rattle.write_engine.specs.Cycle.{Next, rows_in}
use Rattle.write_engine.specs.CycleLimit.{TellsTypes}
use Rattle.write_engine.specs.Production.{AreChanged}
use Rattle.write_engine.proofs.ClosedStates.{next_closed}
use Rattle.chain_store.specs.Announced.{Announces, IsAnnounced, IsNoVersion}
use Rattle.chain_store.specs.Versions.{last_version}
use Rattle.state_blobs.specs.Published.{Published}
use Rattle.state_blobs.specs.Puts.{AreBlobs, IsShort, Put, put_all, puts_of}
use Rattle.hol_orders.specs.Parts.{AskedState}
use Rattle.hol_answers.specs.declared.refusal.RefusedRecord.{RefusedRecord}
use Rattle.hol_answers.specs.declared.refusal.Refusal.{Refusal}
use Rattle.hol_answers.specs.declared.refusal.Refusal.TheVariants as refusal
use Rattle.hol_answers.specs.declared.reply.Reply.{Reply}
use Rattle.hol_answers.specs.declared.reply.Reply.TheVariants as reply
use Rattle.hollow_machine.specs.CycleOrder.{AreNamed, CycleRefusal, CycleStep, Makes, PassesLimit, Publishes, RefusesAfter, SucceedsAfter, cycle_form}
use Rattle.hollow_machine.specs.Follow.{IsUsed, MayFollow, MayNotFollow}
use Rattle.hollow_machine.specs.Records.{Adding, AskedCycle, GivesNoTrees, GivesTrees, asked_cycle, edited, given, spelled}
use Rattle.hollow_machine.specs.State.{Machine, with_producer, with_store}
use Rattle.answer_laws.specs.Answered.{HasRows, IsAnsweredBy, IsSound}
use Rattle.answer_laws.proofs.Compared.{at_inside}
use Rattle.answer_laws.proofs.Deciding.{decide}
use Rattle.answer_laws.proofs.Ordinals.{some_ordinals}
use Rattle.answer_laws.proofs.Records.{trees_or_refused}

-- ---- whether a state may follow

module _ (store : Store) (last version : ℕ) (tag : ℤ) (follows : MayFollow store last version tag → ⊥) (refused : (why : Refusal) → MayNotFollow store last version tag why → ⊥) where
  of_announced : IsAnnounced store last → ⊥
  of_announced announced = elim (cases_lt (last_version store) version) [
    | inl later ↦ decide (IsUsed store tag) (λ either. elim either [
      | inl used ↦ refused (refusal.TagUsed tag) (announced, later, refl, used)
      | inr unused ↦ follows (record { announced = announced; later = later; unused = unused })
    ])
    | inr past ↦ refused (refusal.BadVersion (last_version store)) (announced, refl, past)
  ]

  -- another version is announced, or this one
  of_number : (number : ℕ) → IsAnnounced store number → ⊥
  of_number number announced = elim (cases_eq number last) [
    | inl same ↦ of_announced (subst (IsAnnounced store) same announced)
    | inr other ↦ refused (refusal.NotLast number) (announced, other)
  ]

  of_content : (found : Option (List ℕ)) → told (Some store) Announced ≡ found → ⊥
  of_content None is = of_number 0 (subst (λ (c : Option (List ℕ)). Announces c 0) (sym is) refl)
  of_content (Some bytes) is = decide ((number : ℕ) × IsVersion number × (decimal number ≡ bytes)) (λ either. elim either [
    | inl (number, in_range, bytes_are) ↦ of_number number (subst (λ (c : Option (List ℕ)). Announces c number) (sym is) (in_range, bytes_are))
    | inr never ↦
        let bad = subst (λ (c : Option (List ℕ)). IsNoVersion c) (sym is) (λ number in_range bytes_are. never (number, in_range, bytes_are)) in
        refused (refusal.BadBlob (record { blob = Announced; at = 0; reason = BadAnnounced; row = None })) (bad, refl, refl, refl, refl)
  ])

-- that a state neither may follow nor is refused cannot be
pub may_or_not : (store : Store) (last version : ℕ) (tag : ℤ) → (MayFollow store last version tag → ⊥) → ((why : Refusal) → MayNotFollow store last version tag why → ⊥) → ⊥
may_or_not store last version tag follows refused = of_content store last version tag follows refused (told (Some store) Announced) refl

-- ---- limits

-- The limit is one that a type of a cycle may pass.
abbrev IsTypeLimit : Limit → Type 0
IsTypeLimit limit.Items = Unit {0}
IsTypeLimit limit.Bytes = Unit {0}
IsTypeLimit limit.Words = Unit {0}
IsTypeLimit _ = ⊥

-- a type keeps all limits, or passes a first one
type_or_limit : (shape : Shape) (old new : Table) (t : ℕ) → (TellsLimit shape old new t None → ⊥) → ((passed : Limit) → IsTypeLimit passed → TellsLimit shape old new t (Some passed) → ⊥) → ⊥
type_or_limit shape old new t keeps passes = decide (KeepsItems shape old new t) (λ items. elim items [
  | inl few ↦ decide (KeepsBytes old new t) (λ bytes. elim bytes [
    | inl light ↦ decide (KeepsWords shape old new t) (λ words. elim words [
      | inl short ↦ keeps (few, light, short)
      | inr long ↦ passes limit.Words tt (few, light, long)
    ])
    | inr heavy ↦ passes limit.Bytes tt (few, heavy)
  ])
  | inr many ↦ passes limit.Items tt many
])

module _ (schemas : List Schema) (old new : Table) where
  -- so do the first types
  first_or_limit : (many : ℕ) → many ≤ length schemas → (((t : ℕ) → t < many → TellsLimit (shape_at schemas t) old new t None) → ⊥)
      → ((passed : Limit) → IsTypeLimit passed → TellsTypes schemas old new (Some passed) → ⊥) → ⊥
  first_or_limit zero inside keeps passes = keeps (λ t below. absurd (omega (arith, below)))
  first_or_limit (suc many) inside keeps passes = first_or_limit many (omega (arith, inside)) (λ before.
      type_or_limit (shape_at schemas many) old new many
      (λ here. keeps (λ t below. elim (cases_lt t many) [
        | inl less ↦ before t less
        | inr past ↦ (let is : many ≡ t = omega (arith, below, past) in subst (λ k. TellsLimit (shape_at schemas k) old new k None) is here)
      ]))
      (λ passed is tells. passes passed is (many, omega (arith, inside), before, tells))) passes

  types_or_limit : (TellsTypes schemas old new None → ⊥) → ((passed : Limit) → IsTypeLimit passed → TellsTypes schemas old new (Some passed) → ⊥) → ⊥
  types_or_limit keeps passes = first_or_limit (length schemas) (omega arith) (λ all. keeps all) passes

-- ---- what changes

-- past the types of both tables nothing differs
past_types : (old new : Table) (t : ℕ) → length old ≤ t → length new ≤ t → rows_in new t ≡ rows_in old t
past_types old new t past also =
    ap (λ (o : Option RowMap). unwrap_or o (empty {R = nat_cmp})) (slice_get_past new t also ∙ sym (slice_get_past old t past))

some_changed : (old new : Table) → ((changed : List ℕ) → AreChanged old new changed → ⊥) → ⊥
some_changed old new none = some_ordinals (λ t. ¬ (rows_in new t ≡ rows_in old t)) (length old + length new)
    (λ t differs. elim (cases_lt t (length old + length new)) [ inl inside ↦ inside | inr past ↦ absurd (differs (past_types old new t (omega (arith, past)) (omega (arith, past)))) ])
    (λ changed rising are. none changed (record { rising = rising; same = are }))

-- types of a model have names
all_named : (schemas : List Schema) (types : List ℕ) → ((t : ℕ) → Contains types t → t < length schemas) → ((names : List (List ℕ)) → AreNamed schemas types names → ⊥) → ⊥
all_named schemas [] inside none = none [] tt
all_named schemas (t ∷ types) inside none =
    let schema = at_inside schemas t (inside t (0, omega arith, refl)) in
    let named = subst (λ (o : Option Schema). IsSomeAnd o (λ s. s.name ≡ schema.0.name)) (sym schema.1) refl in
    all_named schemas types (λ u among. inside u (Contains-append_right (t ∷ []) types u among)) (λ names are. none (schema.0.name ∷ names) (named, are))

-- the first cycle, or one that changes a type, publishes
publishes_or_not : (last : Published) (changed : List ℕ) → (Publishes last changed → ⊥) → (last.version ≢ 0 → changed ≡ [] → ⊥) → ⊥
publishes_or_not last [] publishes rests = elim (cases_eq last.version 0) [ inl first ↦ publishes (inl first) | inr later ↦ rests later refl ]
publishes_or_not last (t ∷ changed) publishes rests = publishes (inr (λ none. (let clash : t ∷ changed ≡ [] = none in absurd cc)))

-- ---- the order

-- The records that a cycle adds are its own: they are not those of a change, which may be none of the last state.
abbrev pub AreOwn : Adding → Type 0
AreOwn (spelled json) = Unit {0}
AreOwn (given records) = Unit {0}
AreOwn (edited put remove) = ⊥

module _ (machine : Machine) (wanted : AskedCycle) (last : Published) (is : machine.producer ≡ Some last) where
  there : (P : Published → Type 0) → P last → IsSomeAnd machine.producer P
  there P holds = subst (λ (o : Option Published). IsSomeAnd o P) (sym is) holds

  -- a state that may not follow
  pub not_following : (why : Refusal) → MayNotFollow machine.store last.version wanted.version wanted.tag why → CycleRefusal machine wanted why
  not_following refusal.NoModel tells = absurd tells
  not_following (refusal.NoType name) tells = absurd tells
  not_following (refusal.BadRecord why) tells = absurd tells
  not_following (refusal.TooLarge passed) tells = absurd tells
  not_following (refusal.BadBlob why) tells = there (λ l. RefusesAfter machine.store l wanted (refusal.BadBlob why)) tells
  not_following (refusal.NotLast number) tells = there (λ l. RefusesAfter machine.store l wanted (refusal.NotLast number)) tells
  not_following (refusal.BadVersion number) tells = there (λ l. RefusesAfter machine.store l wanted (refusal.BadVersion number)) tells
  not_following (refusal.TagUsed tag) tells = there (λ l. RefusesAfter machine.store l wanted (refusal.TagUsed tag)) tells
  not_following _ tells = absurd tells

module _ (machine : Machine) (wanted : AskedCycle) (last : Published) (is : machine.producer ≡ Some last) (typed : HasRows last) (none : (answer : Reply) (next : Machine) → CycleStep machine wanted answer next → ⊥) where
  refuses : (why : Refusal) → CycleRefusal machine wanted why → ⊥
  refuses why tells = none (reply.Refused why) machine (tells, refl)

  succeeds : (names : List (List ℕ)) (published : Bool) (next : Machine) → SucceedsAfter machine last wanted names published next → ⊥
  succeeds names published next done = none (reply.Cycle names published wanted.version) next (refl, there machine wanted last is (λ l. SucceedsAfter machine l wanted names published next) done)

  -- trees that pass a limit
  too_large : MayFollow machine.store last.version wanted.version wanted.tag → (trees : List (ℕ × PlainTree)) → GivesTrees last wanted.add trees → (passed : Limit) → PassesLimit last wanted.version wanted.tag wanted.snapshot trees passed → ⊥
  too_large follows trees gives passed tells = refuses (refusal.TooLarge passed) (there machine wanted last is (λ l. RefusesAfter machine.store l wanted (refusal.TooLarge passed)) (follows, (trees, gives, tells)))

  type_passes : (trees : List (ℕ × PlainTree)) (rows : Table) (changed : List ℕ) → Makes last trees rows changed → Publishes last changed → (passed : Limit) → IsTypeLimit passed
      → TellsTypes last.model last.rows rows (Some passed) → PassesLimit last wanted.version wanted.tag wanted.snapshot trees passed
  type_passes trees rows changed makes publishes limit.Items of tells = (rows, changed, makes, publishes, tells)
  type_passes trees rows changed makes publishes limit.Bytes of tells = (rows, changed, makes, publishes, tells)
  type_passes trees rows changed makes publishes limit.Words of tells = (rows, changed, makes, publishes, tells)
  type_passes trees rows changed makes publishes _ of tells = absurd of

  -- a type that changes is one of the model
  changed_inside : (rows : Table) (changed : List ℕ) → AreChanged last.rows rows changed → length rows ≡ length last.model → (t : ℕ) → Contains changed t → t < length last.model
  changed_inside rows changed are long t among = elim (cases_lt t (length last.model)) [
    | inl inside ↦ inside
    | inr past ↦ absurd ((are.same t).0 among (past_types last.rows rows t (omega (arith, past, typed)) (omega (arith, past, long))))
  ]

  -- rows that are the next ones
  of_rows : MayFollow machine.store last.version wanted.version wanted.tag → (trees : List (ℕ × PlainTree)) → GivesTrees last wanted.add trees → (rows : Table) → Next last.model last.rows trees rows → ⊥
  of_rows follows trees gives rows next = some_changed last.rows rows (λ changed are.
      let makes : Makes last trees rows changed = record { state = next; types = are } in
      let long : length rows ≡ length last.model = (next_closed last.model last.rows rows trees next).fits.types in
      all_named last.model changed (changed_inside rows changed are long) (λ names named.
      publishes_or_not last changed
      (λ publishes. types_or_limit last.model last.rows rows
      (λ keeps. decide ((blobs : List Put) × AreBlobs last rows wanted.version wanted.tag wanted.snapshot blobs × All IsShort blobs) (λ either. elim either [
        | inl (blobs, are_blobs, short) ↦
            let now : Published = record { model = last.model; rows = rows; tag = wanted.tag; version = wanted.version } in
            succeeds names true (with_producer (with_store machine (put_all machine.store (puts_of blobs wanted.version))) (Some now))
            (follows, (trees, gives, (rows, changed, makes, named, (publishes, keeps, (blobs, are_blobs, short, refl)))))
        | inr never ↦ too_large follows trees gives limit.Blob (rows, changed, makes, publishes, keeps, λ blobs are_blobs short. never (blobs, are_blobs, short))
      ]))
      (λ passed of tells. too_large follows trees gives passed (type_passes trees rows changed makes publishes passed of tells)))
      (λ later unchanged. succeeds names false machine (follows, (trees, gives, (rows, changed, makes, named, (later, unchanged, refl)))))))

  pub of_trees : MayFollow machine.store last.version wanted.version wanted.tag → (trees : List (ℕ × PlainTree)) → GivesTrees last wanted.add trees → ⊥
  of_trees follows trees gives = decide ((rows : Table) × Next last.model last.rows trees rows) (λ either. elim either [
    | inl some ↦ of_rows follows trees gives some.0 some.1
    | inr never ↦ too_large follows trees gives limit.Ordinals (λ rows next. never (rows, next))
  ])

  -- records that are JSON give trees or none, and trees are what they are
  trees_of : (add : Adding) → AreOwn add → ((trees : List (ℕ × PlainTree)) → GivesTrees last add trees → ⊥) → ((name : List ℕ) → GivesNoTrees last.model add (refusal.NoType name) → ⊥)
      → ((why : RefusedRecord) → GivesNoTrees last.model add (refusal.BadRecord why) → ⊥) → ⊥
  trees_of (spelled json) own gives no_type bad_record = trees_or_refused last.model json gives no_type bad_record
  trees_of (given records) own gives no_type bad_record = gives records refl
  trees_of (edited put remove) own gives no_type bad_record = absurd own

  of_producer : AreOwn wanted.add → ⊥
  of_producer own = may_or_not machine.store last.version wanted.version wanted.tag (λ follows.
      trees_of wanted.add own (λ trees gives. of_trees follows trees gives)
      (λ name tells. refuses (refusal.NoType name) (there machine wanted last is (λ l. RefusesAfter machine.store l wanted (refusal.NoType name)) (follows, tells)))
      (λ why tells. refuses (refusal.BadRecord why) (there machine wanted last is (λ l. RefusesAfter machine.store l wanted (refusal.BadRecord why)) (follows, tells))))
      (λ why tells. refuses why (not_following machine wanted last is why tells))

by_producer : (machine : Machine) (wanted : AskedCycle) → AreOwn wanted.add → (producer : Option Published) → machine.producer ≡ producer → IfSome producer HasRows → ((answer : Reply) (next : Machine) → CycleStep machine wanted answer next → ⊥) → ⊥
by_producer machine wanted own None is typed none = none (reply.Refused refusal.NoModel) machine (is, refl)
by_producer machine wanted own (Some last) is typed none = of_producer machine wanted last is typed none own

-- that a cycle has no answer cannot be, whatever records of its own it adds
pub cycle_or_not : (machine : Machine) → IfSome machine.producer HasRows → (wanted : AskedCycle) → AreOwn wanted.add → ((answer : Reply) (next : Machine) → CycleStep machine wanted answer next → ⊥) → ⊥
cycle_or_not machine typed wanted own = by_producer machine wanted own machine.producer refl typed

pub cycle_answered : (machine : Machine) → IsSound machine → (asked : AskedState) → IsAnsweredBy cycle_form machine asked
cycle_answered machine sound asked = cycle_or_not machine sound.producer (asked_cycle asked) tt

-- ---- what a cycle leaves

-- the next state has rows for each type
pub cycle_rows : (last : Published) (trees : List (ℕ × PlainTree)) (rows : Table) (changed : List ℕ) → Makes last trees rows changed → length rows ≡ length last.model
cycle_rows last trees rows changed makes = (next_closed last.model last.rows rows trees makes.state).fits.types

-- the producer behind a cycle that is not refused
kept_rows : (machine : Machine) (wanted : AskedCycle) (last : Published) → HasRows last → IsSomeAnd machine.producer HasRows → (names : List (List ℕ)) (published : Bool) (next : Machine)
    → SucceedsAfter machine last wanted names published next → IsSomeAnd next.producer HasRows
kept_rows machine wanted last typed some names false next (follows, (trees, gives, (rows, changed, makes, named, leaves))) = subst (λ (m : Machine). IsSomeAnd m.producer HasRows) (sym leaves.2) some
kept_rows machine wanted last typed some names true next (follows, (trees, gives, (rows, changed, makes, named, leaves))) =
    subst (λ (m : Machine). IsSomeAnd m.producer HasRows) (sym leaves.2.3) (cycle_rows last trees rows changed makes)

producer_keeps : (machine : Machine) (wanted : AskedCycle) (producer : Option Published) → IsSomeAnd producer HasRows → IsSomeAnd machine.producer HasRows → (names : List (List ℕ)) (published : Bool) (next : Machine)
    → IsSomeAnd producer (λ last. SucceedsAfter machine last wanted names published next) → IsSomeAnd next.producer HasRows
producer_keeps machine wanted None typed some names published next done = absurd done
producer_keeps machine wanted (Some last) typed some names published next done = kept_rows machine wanted last typed some names published next done

pub cycle_keeps : (machine : Machine) → IsSomeAnd machine.producer HasRows → (wanted : AskedCycle) (names : List (List ℕ)) (published : Bool) (version : ℕ) (next : Machine)
    → CycleStep machine wanted (reply.Cycle names published version) next → IsSomeAnd next.producer HasRows
cycle_keeps machine typed wanted names published version next step = producer_keeps machine wanted machine.producer typed typed names published next step.1
