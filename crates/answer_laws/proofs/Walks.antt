-- The orders `walkindex` and `walkfind` have an answer.
use Rattle.std.proofs.Common.{◌≡◌, ◌++◌, ℕ, List, [], ◌∷◌, length, Option, None, Some, inl, inr, refl, sym, subst}
use Rattle.std.specs.Prelude.{Contains, IsSomeAnd}
use Rattle.std.specs.FinMap.{keys}
use Rattle.std.proofs.lemmas.Bool.{cases_lt}
use Rattle.serde_json.specs.Data.{Data}
use Rattle.ordinal_set.specs.Ordinals.{bound_of}
use Rattle.schema_model.specs.declared.limit.Limit.TheVariants.{Entries, Walks}
use Rattle.schema_model.specs.declared.model.walk_path.WalkPath.{WalkPath}
use Rattle.schema_model.specs.declared.schema.name.Name.{Name}
use Rattle.schema_model.specs.Limit.{number_of_limit}
use Rattle.schema_model.specs.Parts.{index_of_type}
use Rattle.schema_model.specs.WalkPath.{WalkResolves}
use Rattle.row_model.specs.declared.row.Value.{Value}
use Rattle.row_model.specs.BothStates.{rows_in}
use Rattle.row_model.specs.Reach.{AreWalkMatches, AreWalked, Reach}
use Rattle.row_model.specs.Table.{IsLive}
use Rattle.hol_answers.specs.declared.refusal.Refusal.{Refusal}
use Rattle.hol_answers.specs.declared.refusal.Refusal.TheVariants as refusal
use Rattle.hol_answers.specs.declared.reply.Reply.TheVariants as reply
use Rattle.read_engine.specs.Position.{Position, rows_now}
use Rattle.read_engine.specs.Walks.{PassesEntries}
use Rattle.hollow_machine.specs.State.{Machine, with_consumer}
use Rattle.hollow_machine.specs.WalkOrders.{FindsWalked, IsLostWalk, ListsWalked, RefusesWalk, SpellsEnd, WalkFindRefusal, WalkIndexRefusal, WalksAlong, walkfind_form, walkindex_form}
use Rattle.answer_laws.specs.Answered.{IsAnsweredBy, IsSound}
use Rattle.answer_laws.proofs.Answering.{of_consumer}
use Rattle.answer_laws.proofs.Deciding.{decide}
use Rattle.answer_laws.proofs.Ordinals.{live_below, some_ordinals}

-- ---- rows that reach a value

-- the rows that reach some value
some_walked : (now : Position) (path : WalkPath) → ((ordinals : List ℕ) → AreWalked now.schemas (rows_now now) path.type_index path.parts ordinals → ⊥) → ⊥
some_walked now path none =
    some_ordinals (λ ordinal. IsLive (rows_now now) path.type_index ordinal × (value : Value) × Reach now.schemas (rows_now now) path.type_index path.parts ordinal value) (bound_of (keys (rows_in (rows_now now) path.type_index)))
    (λ ordinal has. live_below (rows_now now) path.type_index ordinal has.0) (λ ordinals rising are. none ordinals (record { rising = rising; are = are }))

-- those that reach a certain one
some_reach : (now : Position) (t : ℕ) (path : WalkPath) (value : Value) → ((ordinals : List ℕ) → AreWalkMatches now.schemas (rows_now now) t path.parts value ordinals → ⊥) → ⊥
some_reach now t path value none =
    some_ordinals (λ ordinal. IsLive (rows_now now) t ordinal × Reach now.schemas (rows_now now) t path.parts ordinal value) (bound_of (keys (rows_in (rows_now now) t)))
    (λ ordinal has. live_below (rows_now now) t ordinal has.0) (λ ordinals rising are. none ordinals (record { rising = rising; are = are }))

-- the path of a text, or that it leads to no value
path_or_lost : (now : Position) (t : ℕ) (text : List ℕ) → ((path : WalkPath) → WalkResolves now.schemas t text path → ⊥) → (IsLostWalk now.schemas t text → ⊥) → ⊥
path_or_lost now t text path lost = decide ((way : WalkPath) × WalkResolves now.schemas t text way) (λ either. elim either [
  | inl found ↦ path found.0 found.1
  | inr never ↦ lost (λ way resolves. never (way, resolves))
])

-- ---- `walkfind`

-- that rows are neither found by a value nor refused cannot be
found_or_refused : (text : List ℕ) (json : Data) (now : Position) (t : ℕ) → ((ordinals : List ℕ) → FindsWalked text json now t ordinals → ⊥) → ((told : Refusal) → WalkFindRefusal text json now t told → ⊥) → ⊥
found_or_refused text json now t found refused = path_or_lost now t text (λ path resolves. decide (Contains now.walks path) (λ kept. elim kept [
  | inl among ↦ decide ((value : Value) × SpellsEnd now.schemas path json value) (λ either. elim either [
    | inl spelled ↦ some_reach now t path spelled.0 (λ ordinals reach. found ordinals (path, (resolves, among), (spelled.0, spelled.1, reach)))
    | inr never ↦ refused refusal.BadKey (path, (resolves, among), λ value spells. never (value, spells))
  ])
  | inr missing ↦ refused refusal.NoIndex (path, resolves, missing)
])) (λ lost. refused (refusal.BadPath text) (refl, lost))

pub walkfind_answered : (machine : Machine) → IsSound machine → (asked : Name × List ℕ × Data) → IsAnsweredBy walkfind_form machine asked
walkfind_answered machine sound (name, text, json) none = of_consumer machine.consumer sound.consumer name (ListsWalked text json) (λ now position t is unfound.
    found_or_refused text json now t (λ ordinals found. unfound (reply.WalkFind ordinals) found) (λ told tells. unfound (reply.Refused told) tells))
    (λ answer told. none answer machine (told, refl))

-- ---- `walkindex`

module _ (machine : Machine) (name : Name) (text : List ℕ) where
  there : (now : Position) (t : ℕ) → index_of_type now.schemas name ≡ Some t → (P : ℕ → Type 0) → P t → IsSomeAnd (index_of_type now.schemas name) P
  there now t is P holds = subst (λ (o : Option ℕ). IsSomeAnd o P) (sym is) holds

  module _ (now : Position) (kept : (count : ℕ) (next : Machine) → IsSomeAnd (index_of_type now.schemas name) (λ t. WalksAlong machine text now t count next) → ⊥) (refused : (told : Refusal) → WalkIndexRefusal (Some now) name text told → ⊥) where
    keeps_or_full : (t : ℕ) → index_of_type now.schemas name ≡ Some t → (path : WalkPath) → WalkResolves now.schemas t text path → ⊥
    keeps_or_full t is path resolves = some_walked now path (λ ordinals walked. decide (Contains now.walks path) (λ either. elim either [
      | inl among ↦
          let next = with_consumer machine (Some now) in
          kept (length ordinals) next (there now t is (λ u. WalksAlong machine text now u (length ordinals) next) (record {
            path = path;
            resolves = resolves;
            counts = (ordinals, walked, refl);
            after = now.walks;
            keeps = (inl (among, refl), λ passes. passes.0 among);
            is = refl;
          }))
      | inr new ↦ elim (cases_lt (length now.walks) (number_of_limit Walks)) [
        | inl room ↦ decide (PassesEntries now path) (λ passing. elim passing [
          | inl passes ↦ refused (refusal.TooLarge Entries) (there now t is (λ u. RefusesWalk text now u (refusal.TooLarge Entries)) (path, resolves, passes))
          | inr few ↦
              let after = now.walks ++ path ∷ [] in
              let next = with_consumer machine (Some (record now { walks = after })) in
              kept (length ordinals) next (there now t is (λ u. WalksAlong machine text now u (length ordinals) next) (record {
                path = path;
                resolves = resolves;
                counts = (ordinals, walked, refl);
                after = after;
                keeps = (inr (new, room, refl), few);
                is = refl;
              }))
        ])
        | inr full ↦ refused (refusal.TooLarge Walks) (there now t is (λ u. RefusesWalk text now u (refusal.TooLarge Walks)) (path, resolves, (new, full)))
      ]
    ]))

    of_name : (found : Option ℕ) → index_of_type now.schemas name ≡ found → ⊥
    of_name None is = refused (refusal.NoType name) (is, refl)
    of_name (Some t) is =
        path_or_lost now t text (keeps_or_full t is) (λ lost. refused (refusal.BadPath text) (there now t is (λ u. RefusesWalk text now u (refusal.BadPath text)) (refl, lost)))

  keeps_or_refused : (consumer : Option Position) → ((count : ℕ) (next : Machine) → IsSomeAnd consumer (λ now. IsSomeAnd (index_of_type now.schemas name) (λ t. WalksAlong machine text now t count next)) → ⊥)
      → ((told : Refusal) → WalkIndexRefusal consumer name text told → ⊥) → ⊥
  keeps_or_refused None kept refused = refused refusal.NoState refl
  keeps_or_refused (Some now) kept refused = of_name now kept refused (index_of_type now.schemas name) refl

pub walkindex_answered : (machine : Machine) → IsSound machine → (asked : Name × List ℕ) → IsAnsweredBy walkindex_form machine asked
walkindex_answered machine sound (name, text) none =
    keeps_or_refused machine name text machine.consumer (λ count next keeps. none (reply.WalkIndex count) next keeps) (λ refused tells. none (reply.Refused refused) machine (tells, refl))
