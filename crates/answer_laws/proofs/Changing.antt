-- The order `change` has an answer.
use Rattle.std.proofs.Common.{◌≡◌, ◌<◌, ℕ, List, [], length, Option, None, Some, inl, inr, refl, sym, subst}
use Rattle.std.specs.Prelude.{IfSome, IsSomeAnd}
use Rattle.std.proofs.lemmas.List.Elements.{All-contains}
use Rattle.schema_model.specs.declared.schema.Schema.{Schema}
use Rattle.state_blobs.specs.Published.{Published}
use Rattle.hol_incremental.specs.Changes.{HaveKeys, HaveOwnKeys}
use Rattle.hol_incremental.specs.Edited.{Keys, Records}
use Rattle.hol_orders.specs.Parts.{AskedChange}
use Rattle.hol_answers.specs.declared.refusal.Refusal.{Refusal}
use Rattle.hol_answers.specs.declared.refusal.Refusal.TheVariants as refusal
use Rattle.hol_answers.specs.declared.reply.Reply.{Reply}
use Rattle.hol_answers.specs.declared.reply.Reply.TheVariants as reply
use Rattle.hollow_machine.specs.ChangeOrder.{AreAllKeyed, AreAllTypes, ArePut, ChangeRefusal, ChangeStep, IsFirstTwice, IsFirstUnkeyed, IsNoChange, IsOfName, Misses, change_form}
use Rattle.hollow_machine.specs.CycleOrder.{CycleRefusal, CycleStep, RefusesAfter, SucceedsAfter}
use Rattle.hollow_machine.specs.Follow.{MayFollow}
use Rattle.hollow_machine.specs.KeyPaths.{HasShape, IsObject}
use Rattle.hollow_machine.specs.Records.{AskedCycle, SpellsChange, SpellsKeys, cycle_of_change, entries, names_of}
use Rattle.hollow_machine.specs.State.{Machine}
use Rattle.answer_laws.specs.Answered.{HasRows, IsAnsweredBy, IsSound}
use Rattle.answer_laws.proofs.ChangeKeys.{HasKeyless, keyed_or_first, keys_or_keyless, own_or_twice}
use Rattle.answer_laws.proofs.Compared.{at_inside}
use Rattle.answer_laws.proofs.Cycling.{may_or_not, not_following, of_trees}
use Rattle.answer_laws.proofs.Deciding.{decide}
use Rattle.answer_laws.proofs.EditedLists.{some_edited, some_missing}
use Rattle.answer_laws.proofs.Records.{HasUnread, IsTyped, all_typed, first_name, first_unread, known_or_not, read_or_not, type_name}

-- ---- what is a change, and what is none

module _ (schemas : List Schema) (asked : AskedChange) (change : (puts : Records) (removes : Keys) → SpellsChange schemas asked.put asked.remove puts removes → ⊥)
    (no_change : (why : Refusal) → IsNoChange schemas asked why → ⊥) where
  -- records with keys of their own
  of_own : (puts : Records) → ArePut schemas asked puts → HaveKeys schemas puts → HaveOwnKeys schemas puts → ⊥
  of_own puts (keyed, read) have own = decide ((removes : Keys) × SpellsKeys schemas asked.remove removes) (λ either. elim either [
    | inl (removes, spells) ↦ change puts removes (record { put_types = keyed.1; remove_types = keyed.2; records = record { types = keyed.0.0; read = read }; keyed = have; own = own; keys = spells })
    | inr never ↦ no_change refusal.BadKey (puts, (keyed, read), have, own, λ removes spells. never (removes, spells))
  ])

  -- the first two with one key
  two_refused : (puts : Records) → ArePut schemas asked puts → HaveKeys schemas puts → (t first second : ℕ) → IsFirstTwice schemas (entries schemas asked.put) t first second → ⊥
  two_refused puts put have t first second is =
      let (less, (key, (value, among, has), other)) = is.twice in
      let typed = All-contains (IsTyped schemas) (entries schemas asked.put) (record { type_index = t; place = first; value = value }) (all_typed schemas asked.put) among in
      let name = type_name schemas (record { type_index = t; place = first; value = value }) typed in
      no_change (refusal.KeyTwice (record { type_name = name.0; first = first; second = second })) (puts, put, have, (t, name.1, is))

  -- the first record without a key
  keyless_refused : (puts : Records) → ArePut schemas asked puts → HasKeyless schemas (entries schemas asked.put) → ⊥
  keyless_refused puts put (before, entry, rest, split, keyed, keyless) =
      let name = first_name schemas asked.put before entry rest split in
      no_change (refusal.NoKey name.0 entry.place) (puts, put, (entry.type_index, name.1, record { before = before; value = entry.value; rest = rest; split = split; keyed = keyed; keyless = keyless }))

  of_put : (puts : Records) → ArePut schemas asked puts → ⊥
  of_put puts put =
      keys_or_keyless schemas (entries schemas asked.put) puts put.1 (λ have. own_or_twice schemas asked.put puts put.1 (of_own puts put have) (two_refused puts put have)) (keyless_refused puts put)

  -- the first record that gives no tree
  unread_refused : AreAllKeyed schemas asked → HasUnread schemas (entries schemas asked.put) → ⊥
  unread_refused keyed has =
      let name = first_name schemas asked.put has.0 has.1 has.2 has.4 in
      no_change (refusal.BadRecord (record { type_name = name.0; index = has.1.place; reason = has.3 })) (keyed, (has.1.type_index, name.1, first_unread schemas asked.put has))

  of_keyed : AreAllKeyed schemas asked → ⊥
  of_keyed keyed = read_or_not schemas (entries schemas asked.put) (λ puts read. of_put puts (keyed, read)) (unread_refused keyed)

  -- the first type without a primary key
  unkeyed_refused : AreAllTypes schemas asked → (t : ℕ) → t < length schemas → IsFirstUnkeyed schemas asked t → ⊥
  unkeyed_refused types t inside first =
      let (schema, at) = at_inside schemas t inside in
      let named : IsOfName schemas t schema.name = subst (λ (o : Option Schema). IsSomeAnd o (λ s. s.name ≡ schema.name)) (sym at) refl in
      decide (HasShape IsObject schemas t) (λ either. elim either [
        | inl object ↦ no_change (refusal.BadPath []) (types, refl, (t, first, object))
        | inr other ↦ no_change (refusal.WrongKind schema.name) (types, (t, first, named, other))
      ])

  of_types : AreAllTypes schemas asked → ⊥
  of_types types = keyed_or_first schemas asked types of_keyed (unkeyed_refused types)

  -- that it is neither a change nor none cannot be
  change_or_no : ⊥
  change_or_no = known_or_not schemas (names_of asked.put) (λ put. known_or_not schemas (names_of asked.remove) (λ remove. of_types (put, remove)) (λ has.
      no_change (refusal.NoType has.1) (inr (put, record { before = has.0; rest = has.2; split = has.3; known = has.4; unknown = has.5 }))))
      (λ has. no_change (refusal.NoType has.1) (inl (record { before = has.0; rest = has.2; split = has.3; known = has.4; unknown = has.5 })))

-- ---- the order

module _ (machine : Machine) (asked : AskedChange) (last : Published) (is : machine.producer ≡ Some last) (none : (answer : Reply) (next : Machine) → ChangeStep machine asked answer next → ⊥) where
  abbrev wanted : AskedCycle
  wanted = cycle_of_change asked

  there : (P : Published → Type 0) → P last → IsSomeAnd machine.producer P
  there P holds = subst (λ (o : Option Published). IsSomeAnd o P) (sym is) holds

  of_last : (P : Published → Type 0) → IsSomeAnd machine.producer P → P last
  of_last P holds = subst (λ (o : Option Published). IsSomeAnd o P) is holds

  refuses : (why : Refusal) → ChangeRefusal machine asked why → ⊥
  refuses why tells = none (reply.Refused why) machine (tells, refl)

  -- a change is refused as the cycle of the edited list is
  as_cycle : (why : Refusal) → CycleRefusal machine wanted why → ChangeRefusal machine asked why
  as_cycle refusal.NoModel tells = tells
  as_cycle (refusal.NoType name) tells = absurd (of_last (λ l. RefusesAfter machine.store l wanted (refusal.NoType name)) tells).1
  as_cycle (refusal.BadRecord why) tells = absurd (of_last (λ l. RefusesAfter machine.store l wanted (refusal.BadRecord why)) tells).1
  as_cycle (refusal.WrongKind name) tells = absurd (of_last (λ l. RefusesAfter machine.store l wanted (refusal.WrongKind name)) tells)
  as_cycle (refusal.BadPath path) tells = absurd (of_last (λ l. RefusesAfter machine.store l wanted (refusal.BadPath path)) tells)
  as_cycle (refusal.NoKey name place) tells = absurd (of_last (λ l. RefusesAfter machine.store l wanted (refusal.NoKey name place)) tells)
  as_cycle (refusal.KeyTwice twice) tells = absurd (of_last (λ l. RefusesAfter machine.store l wanted (refusal.KeyTwice twice)) tells)
  as_cycle refusal.BadKey tells = absurd (of_last (λ l. RefusesAfter machine.store l wanted refusal.BadKey) tells)
  as_cycle _ tells = tells

  -- and answered as it is
  steps : (missing : ℕ) → Misses last asked.remove missing → (answer : Reply) (next : Machine) → CycleStep machine wanted answer next → ⊥
  steps missing misses (reply.Cycle names published version) next (same, done) =
      none (reply.Change (record { changed = names; missing = missing; published = published; version = version })) next
      (same, there (λ l. Misses l asked.remove missing × SucceedsAfter machine l wanted names published next) (misses, of_last (λ l. SucceedsAfter machine l wanted names published next) done))
  steps missing misses (reply.Refused why) next (tells, same) = none (reply.Refused why) next (as_cycle why tells, same)
  steps missing misses _ next step = absurd step

  of_change : HasRows last → MayFollow machine.store last.version asked.version asked.tag → (puts : Records) (removes : Keys) → SpellsChange last.model asked.put asked.remove puts removes → ⊥
  of_change typed follows puts removes spells = some_missing last.model last.rows removes (λ missing counts. some_edited last.model last.rows puts removes (λ trees edits.
      of_trees machine wanted last is typed (steps missing (removes, spells.keys, counts)) follows trees (puts, removes, spells, edits)))

  -- it may follow, and is no change
  abbrev IsNone : Refusal → Published → Type 0
  IsNone why l = MayFollow machine.store l.version asked.version asked.tag × IsNoChange l.model asked why

  no_change_refused : MayFollow machine.store last.version asked.version asked.tag → (why : Refusal) → IsNoChange last.model asked why → ChangeRefusal machine asked why
  no_change_refused follows (refusal.NoType name) never = there (IsNone (refusal.NoType name)) (follows, never)
  no_change_refused follows (refusal.WrongKind name) never = there (IsNone (refusal.WrongKind name)) (follows, never)
  no_change_refused follows (refusal.BadPath path) never = there (IsNone (refusal.BadPath path)) (follows, never)
  no_change_refused follows (refusal.BadRecord why) never = there (IsNone (refusal.BadRecord why)) (follows, never)
  no_change_refused follows (refusal.NoKey name place) never = there (IsNone (refusal.NoKey name place)) (follows, never)
  no_change_refused follows (refusal.KeyTwice twice) never = there (IsNone (refusal.KeyTwice twice)) (follows, never)
  no_change_refused follows refusal.BadKey never = there (IsNone refusal.BadKey) (follows, never)
  no_change_refused follows _ never = absurd never

  of_producer : HasRows last → ⊥
  of_producer typed = may_or_not machine.store last.version asked.version asked.tag (λ follows.
      change_or_no last.model asked (of_change typed follows) (λ why never. refuses why (no_change_refused follows why never)))
      (λ why tells. refuses why (as_cycle why (not_following machine wanted last is why tells)))

by_producer : (machine : Machine) (asked : AskedChange) (producer : Option Published) → machine.producer ≡ producer → IfSome producer HasRows → ((answer : Reply) (next : Machine) → ChangeStep machine asked answer next → ⊥) → ⊥
by_producer machine asked None is typed none = none (reply.Refused refusal.NoModel) machine (is, refl)
by_producer machine asked (Some last) is typed none = of_producer machine asked last is none typed

-- that a change has no answer cannot be
pub change_answered : (machine : Machine) → IsSound machine → (asked : AskedChange) → IsAnsweredBy change_form machine asked
change_answered machine sound asked = by_producer machine asked machine.producer refl sound.producer
