-- The orders `index` and `find` have an answer.
use Rattle.std.proofs.Common.{◌≡◌, ◌++◌, ℕ, List, [], ◌∷◌, length, Option, None, Some, inl, inr, refl, sym, subst}
use Rattle.std.specs.Prelude.{Contains, IsSome, IsSomeAnd}
use Rattle.std.specs.FinMap.{keys}
use Rattle.std.proofs.lemmas.Bool.{cases_lt}
use Rattle.serde_json.specs.Data.{Data}
use Rattle.ordinal_set.specs.Ordinals.{bound_of}
use Rattle.schema_model.specs.declared.limit.Limit.TheVariants.{Indexes}
use Rattle.schema_model.specs.declared.model.path.Path.{Path}
use Rattle.schema_model.specs.declared.schema.name.Name.{Name}
use Rattle.schema_model.specs.Limit.{number_of_limit}
use Rattle.schema_model.specs.Parts.{index_of_type}
use Rattle.row_model.specs.declared.row.Value.{Value}
use Rattle.row_model.specs.BothStates.{rows_in}
use Rattle.row_model.specs.Key.{AreKeyed, AreMatches, key_of}
use Rattle.row_model.specs.Table.{IsLive, Table}
use Rattle.json_values.specs.KeyFrom.{SpellsKey}
use Rattle.read_engine.specs.Indexes.{CountsKeyed, KeepsIndex, index_by}
use Rattle.read_engine.specs.Position.{Index, Position, rows_now}
use Rattle.hol_answers.specs.declared.refusal.Refusal.{Refusal}
use Rattle.hol_answers.specs.declared.refusal.Refusal.TheVariants as refusal
use Rattle.hol_answers.specs.declared.reply.Reply.TheVariants as reply
use Rattle.hollow_machine.specs.IndexOrder.{IndexRefusal, RefusesIndex, index_form}
use Rattle.hollow_machine.specs.KeyOrders.{FindsUnder, ListsFound, LookUpRefusal, find_form}
use Rattle.hollow_machine.specs.KeyPaths.{AreKeyPaths, HasShape, IsObject, PathsRefusal, texts_of_array}
use Rattle.hollow_machine.specs.State.{Machine, with_consumer}
use Rattle.answer_laws.specs.Answered.{IsAnsweredBy, IsSound}
use Rattle.answer_laws.proofs.Answering.{of_consumer}
use Rattle.answer_laws.proofs.Deciding.{decide}
use Rattle.answer_laws.proofs.Keys.{paths_or_refused, schema_there}
use Rattle.answer_laws.proofs.Ordinals.{live_below, some_ordinals}

-- ---- rows with a key

-- the rows of a table that have a key
some_keyed : (now : Position) (t : ℕ) (paths : List Path) → ((ordinals : List ℕ) → AreKeyed now.schemas (rows_now now) t paths ordinals → ⊥) → ⊥
some_keyed now t paths none =
    some_ordinals (λ ordinal. IsLive (rows_now now) t ordinal × IsSome (key_of now.schemas (rows_now now) t paths ordinal)) (bound_of (keys (rows_in (rows_now now) t)))
    (λ ordinal has. live_below (rows_now now) t ordinal has.0) (λ ordinals rising are. none ordinals (record { rising = rising; are = are }))

-- those that have a certain one
pub some_matches : (now : Position) (table : Table) (t : ℕ) (paths : List Path) (key : List Value) → ((ordinals : List ℕ) → AreMatches now.schemas table t paths key ordinals → ⊥) → ⊥
some_matches now table t paths key none =
    some_ordinals (λ ordinal. IsLive table t ordinal × (key_of now.schemas table t paths ordinal ≡ Some key)) (bound_of (keys (rows_in table t)))
    (λ ordinal has. live_below table t ordinal has.0) (λ ordinals rising are. none ordinals (record { rising = rising; are = are }))

-- ---- `find`

-- that rows are neither found under a key nor refused cannot be
pub finds_or_refused : (name : Name) (texts : List (List ℕ)) (values : Data) (now : Position) (t : ℕ) → index_of_type now.schemas name ≡ Some t → ((ordinals : List ℕ) → FindsUnder texts values now t ordinals → ⊥)
    → (LookUpRefusal name texts values now t refusal.NoIndex → ⊥) → (LookUpRefusal name texts values now t refusal.BadKey → ⊥) → ((lost : List ℕ) → PathsRefusal now.schemas t name texts (refusal.BadPath lost) → ⊥)
    → (PathsRefusal now.schemas t name texts (refusal.WrongKind name) → ⊥) → ⊥
finds_or_refused name texts values now t is found no_index bad_key bad_path wrong_kind =
    let schema = schema_there now.schemas name t is in
    paths_or_refused now.schemas t name texts schema.0 schema.1 (λ paths has are. decide (Contains now.indexes (index_by t paths)) (λ kept. elim kept [
      | inl among ↦ decide ((key : List Value) × SpellsKey now.schemas paths values key) (λ either. elim either [
        | inl spelled ↦ some_matches now (rows_now now) t paths spelled.0 (λ ordinals match. found ordinals (paths, (has, are, among), (spelled.0, spelled.1, match)))
        | inr never ↦ bad_key (paths, (has, are, among), λ key spells. never (key, spells))
      ])
      | inr missing ↦ no_index (has, (paths, are, missing))
    ])) bad_path wrong_kind

pub find_answered : (machine : Machine) → IsSound machine → (asked : Name × Data × Data) → IsAnsweredBy find_form machine asked
find_answered machine sound (name, paths, values) none = of_consumer machine.consumer sound.consumer name (ListsFound name (texts_of_array paths) values) (λ now position t is unfound.
    finds_or_refused name (texts_of_array paths) values now t is (λ ordinals found. unfound (reply.Find ordinals) found) (λ tells. unfound (reply.Refused refusal.NoIndex) tells)
    (λ tells. unfound (reply.Refused refusal.BadKey) tells) (λ lost tells. unfound (reply.Refused (refusal.BadPath lost)) tells) (λ tells. unfound (reply.Refused (refusal.WrongKind name)) tells))
    (λ answer told. none answer machine (told, refl))

-- ---- `index`

module _ (machine : Machine) (name : Name) (texts : List (List ℕ)) where
  -- What is kept of an index of the type at an index.
  abbrev KeepsAt : Position → ℕ → Machine → ℕ → Type 0
  KeepsAt now count next t = HasShape IsObject now.schemas t
      × ((paths : List Path) × AreKeyPaths now.schemas t texts paths × CountsKeyed now (index_by t paths) count
      × ((after : List Index) × KeepsIndex now.indexes (index_by t paths) after × (next ≡ with_consumer machine (Some (record now { indexes = after })))))

  there : (now : Position) (t : ℕ) → index_of_type now.schemas name ≡ Some t → (P : ℕ → Type 0) → P t → IsSomeAnd (index_of_type now.schemas name) P
  there now t is P holds = subst (λ (o : Option ℕ). IsSomeAnd o P) (sym is) holds

  module _ (now : Position) (kept : (count : ℕ) (next : Machine) → IsSomeAnd (index_of_type now.schemas name) (KeepsAt now count next) → ⊥) (refused : (told : Refusal) → IndexRefusal (Some now) name texts told → ⊥) where
    keeps_or_full : (t : ℕ) → index_of_type now.schemas name ≡ Some t → (paths : List Path) → HasShape IsObject now.schemas t → AreKeyPaths now.schemas t texts paths → ⊥
    keeps_or_full t is paths has are = some_keyed now t paths (λ ordinals keyed. decide (Contains now.indexes (index_by t paths)) (λ either. elim either [
      | inl among ↦
          let next = with_consumer machine (Some now) in
          kept (length ordinals) next (there now t is (KeepsAt now (length ordinals) next) (has, (paths, are, (ordinals, keyed, refl), (now.indexes, inl (among, refl), refl))))
      | inr new ↦ elim (cases_lt (length now.indexes) (number_of_limit Indexes)) [
        | inl room ↦
            let after = now.indexes ++ index_by t paths ∷ [] in
            let next = with_consumer machine (Some (record now { indexes = after })) in
            kept (length ordinals) next (there now t is (KeepsAt now (length ordinals) next) (has, (paths, are, (ordinals, keyed, refl), (after, inr (new, room, refl), refl))))
        | inr full ↦ refused (refusal.TooLarge Indexes) (there now t is (λ u. RefusesIndex name texts now u (refusal.TooLarge Indexes)) (has, (paths, are, (new, full))))
      ]
    ]))

    of_name : (found : Option ℕ) → index_of_type now.schemas name ≡ found → ⊥
    of_name None is = refused (refusal.NoType name) (is, refl)
    of_name (Some t) is =
        let schema = schema_there now.schemas name t is in
        paths_or_refused now.schemas t name texts schema.0 schema.1 (keeps_or_full t is)
        (λ lost bad. refused (refusal.BadPath lost) (there now t is (λ u. RefusesIndex name texts now u (refusal.BadPath lost)) bad))
        (λ wrong. refused (refusal.WrongKind name) (there now t is (λ u. RefusesIndex name texts now u (refusal.WrongKind name)) wrong))

  keeps_or_refused : (consumer : Option Position) → ((count : ℕ) (next : Machine) → IsSomeAnd consumer (λ now. IsSomeAnd (index_of_type now.schemas name) (KeepsAt now count next)) → ⊥)
      → ((told : Refusal) → IndexRefusal consumer name texts told → ⊥) → ⊥
  keeps_or_refused None kept refused = refused refusal.NoState refl
  keeps_or_refused (Some now) kept refused = of_name now kept refused (index_of_type now.schemas name) refl

pub index_answered : (machine : Machine) → IsSound machine → (asked : Name × Data) → IsAnsweredBy index_form machine asked
index_answered machine sound (name, paths) none =
    keeps_or_refused machine name (texts_of_array paths) machine.consumer (λ count next keeps. none (reply.Index count) next keeps) (λ refused tells. none (reply.Refused refused) machine (tells, refl))
