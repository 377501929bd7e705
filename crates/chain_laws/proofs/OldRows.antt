-- What is answered of a version that is kept of a consumer over a chain is what is answered where a consumer with the same model sees the version's state.
use Rattle.std.proofs.Common.{◌≡◌, ◌≤◌, ◌<◌, ℕ, List, [], ◌∷◌, Bool, true, cond, if◌then◌else◌, Option, Some, None, inl, inr, sym, ap, subst, ◌∙◌, eq-eqb}
use Rattle.std.specs.Prelude.{◌==◌, All, IsSome, IsSomeAnd}
use Rattle.std.specs.List.{find}
use Rattle.std.specs.Option.{option_map}
use Rattle.std.proofs.lemmas.Bool.{cases_eq, ne_eqb}
use Rattle.std.proofs.lemmas.List.Elements.{All-head, All-tail}
use Rattle.serde_json.specs.Data.{Data}
use Rattle.serde_json.specs.View.{view}
use Rattle.schema_model.specs.declared.limit.Limit.TheVariants.{Nodes}
use Rattle.schema_model.specs.declared.model.path.Path.{Path}
use Rattle.schema_model.specs.declared.schema.name.Name.{Name}
use Rattle.schema_model.specs.declared.schema.Schema.{Schema}
use Rattle.schema_model.specs.Limit.{number_of_limit}
use Rattle.schema_model.specs.Parts.{index_of_type}
use Rattle.row_model.specs.declared.row.Value.{Value}
use Rattle.row_model.specs.Key.{AreMatches}
use Rattle.row_model.specs.PlainTree.{node_count}
use Rattle.row_model.specs.Table.{IsLive, Table}
use Rattle.row_model.specs.Unfold.{unfold_row}
use Rattle.hol_history.specs.History.{table_then}
use Rattle.json_values.specs.KeyFrom.{SpellsKey}
use Rattle.record_json.specs.PrintTree.{PrintsTree}
use Rattle.hol_answers.specs.declared.refusal.Refusal.{Refusal}
use Rattle.hol_answers.specs.declared.refusal.Refusal.TheVariants.{Ambiguous, BadKey, BadPath, NoMatch, NoRow, TooLarge, WrongKind}
use Rattle.hol_answers.specs.declared.reply.Reply.{Reply}
use Rattle.hol_answers.specs.declared.reply.Reply.TheVariants as reply
use Rattle.read_engine.specs.Position.{Position, rows_now}
use Rattle.hollow_machine.specs.HistoryOrders.{AnswersThen, HaveKey, OldKeyRefusal, ShowsOld, ShowsOldKey, WasGetReply, WasReply, rows_then}
use Rattle.hollow_machine.specs.KeyOrders.{FindsUnder, GetRefusal, GetReply, ShowsFound}
use Rattle.hollow_machine.specs.KeyPaths.{AreKeyPaths, HasShape, IsBadPath, IsObject}
use Rattle.hollow_machine.specs.RowOrders.{AnswersAt, RowRefusal, RowRefusalIn, RowReply, ShowsRow}
use Rattle.hollow_machine.specs.State.{Machine}
use Rattle.written_laws.specs.Chain.{Chain, ChainState, HasVersion}
use Rattle.written_laws.specs.SeenChain.{seen_in}
use Rattle.chain_laws.specs.Consumers.{IsIn, IsOld, IsReaderAt, IsReaderOf, Sees}
use Rattle.chain_laws.specs.OldStates.{IsGotThen, IsRowThen, KeepsKey, Reaches, as_get, as_row}
use Rattle.chain_laws.proofs.StoreNames.{found}

-- ---- the rows of a version

module _ (chain : Chain) (schemas : List Schema) (version : ℕ) (table : Table) where
  abbrev chosen : Bool → ℕ × Table → List (ℕ × Table) → Option Table
  chosen here pair past = option_map (λ (p : ℕ × Table). p.1) (cond here (Some pair) (find (λ (p : ℕ × Table). p.0 == version) past))

  kept_old : (past : List (ℕ × Table)) → All (IsOld chain schemas) past → table_then past version ≡ Some table → IsOld chain schemas (version, table)
  kept_old [] all is = absurd cc
  kept_old (pair ∷ past) all is =
      elim (cases_eq pair.0 version) [
        | inl same ↦
            (let here : table_then (pair ∷ past) version ≡ Some pair.1 = ap (λ (b : Bool). chosen b pair past) (eq-eqb pair.0 version same) in
            let both : Some pair.1 ≡ Some table = sym here ∙ is in
            let rows : pair.1 ≡ table = cc in
            let (state, there, held) = All-head (IsOld chain schemas) pair past all in
            (state, subst (λ (v : ℕ). HasVersion chain v state) same there, sym rows ∙ held))
        | inr apart ↦
            (let later : table_then (pair ∷ past) version ≡ table_then past version = ap (λ (b : Bool). chosen b pair past) (ne_eqb pair.0 version apart) in
            kept_old past (All-tail (IsOld chain schemas) pair past all) (sym later ∙ is))
      ]

module _ (chain : Chain) (now : Position) (is : IsIn chain now) (past : List (ℕ × Table)) (version : ℕ) (table : Table) where
  abbrev held : Bool → Option Table
  held here = if here then Some (rows_now now) else table_then past version

  rows_old : All (IsOld chain now.schemas) past → rows_then now (Some is.version) past version ≡ Some table → IsOld chain now.schemas (version, table)
  rows_old old rows =
      elim (cases_eq is.version version) [
        | inl same ↦
            (let here : held true ≡ Some table = sym (ap held (eq-eqb is.version version same)) ∙ rows in
            let now_is : rows_now now ≡ table = cc in
            (is.state, subst (λ (v : ℕ). HasVersion chain v is.state) same is.there, sym now_is ∙ is.sees.rows))
        | inr apart ↦ kept_old chain now.schemas version table past old (sym (ap held (ne_eqb is.version version apart)) ∙ rows)
      ]

pub reader_old : (machine : Machine) (chain : Chain) (now : Position) (version : ℕ) (table : Table) → IsReaderOf chain machine → machine.consumer ≡ Some now
    → rows_then now machine.version machine.past version ≡ Some table → IsOld chain now.schemas (version, table)
reader_old machine chain now version table of was rows =
    let (is, at, old) = subst (λ (consumer : Option Position). IsReaderAt chain consumer machine.version machine.past) was of in
    rows_old chain now is machine.past version table old (subst (λ (current : Option ℕ). rows_then now current machine.past version ≡ Some table) at rows)

-- ---- what is answered of them

module _ (now other : Position) (schemas : now.schemas ≡ other.schemas) (table : Table) (rows : table ≡ rows_now other) where
  carried : (Q : List Schema → Table → Type 0) → Q now.schemas table → Q other.schemas (rows_now other)
  carried Q holds = subst (λ (s : List Schema). Q s (rows_now other)) schemas (subst (λ (t : Table). Q now.schemas t) rows holds)

  refusal_as_row : (name : Name) (ordinal t : ℕ) (refusal : Refusal) → RowRefusalIn table name ordinal now t refusal → RowRefusal name ordinal other t refusal
  refusal_as_row name ordinal t (NoRow row) is = (is.0, is.1, carried (λ _ held. IsLive held t ordinal → ⊥) is.2)
  refusal_as_row name ordinal t (TooLarge Nodes) is = carried (λ s held. IsLive held t ordinal × (number_of_limit Nodes < node_count (unfold_row s held t ordinal))) is
  refusal_as_row name ordinal t _ is = absurd is

  shown_as_row : (name : Name) (ordinal t : ℕ) (answer : Reply) → ShowsOld name ordinal table now t answer → ShowsRow name ordinal other t (as_row answer)
  shown_as_row name ordinal t (reply.Was value) is =
      carried (λ s held. IsLive held t ordinal × (node_count (unfold_row s held t ordinal) ≤ number_of_limit Nodes) × PrintsTree s t (unfold_row s held t ordinal) (view value)) is
  shown_as_row name ordinal t (reply.Refused refusal) is = refusal_as_row name ordinal t refusal is
  shown_as_row name ordinal t _ is = absurd is

  at_as_row : (name : Name) (ordinal : ℕ) (type_index : Option ℕ) (answer : Reply) → AnswersAt now type_index name (ShowsOld name ordinal table) answer → AnswersAt other type_index name (ShowsRow name ordinal) (as_row answer)
  at_as_row name ordinal None answer is = ap as_row is
  at_as_row name ordinal (Some t) answer is = shown_as_row name ordinal t answer is

  then_as_row : (version : ℕ) (name : Name) (ordinal : ℕ) (answer : Reply) → AnswersThen now (Some table) version name (ShowsOld name ordinal) answer → RowReply (Some other) name ordinal (as_row answer)
  then_as_row version name ordinal answer is =
      subst (λ (type_index : Option ℕ). AnswersAt other type_index name (ShowsRow name ordinal) (as_row answer)) (ap (λ (s : List Schema). index_of_type s name) schemas)
      (at_as_row name ordinal (index_of_type now.schemas name) answer is)

  module _ (name : Name) (values : Data) (keeps : KeepsKey other name) where
    -- the rows of a type that have the key that the JSON spells
    abbrev KeyedIn : ℕ → List ℕ → List Schema → Table → Type 0
    KeyedIn t ordinals s held =
        (paths : List Path) × (HasShape IsObject s t × AreKeyPaths s t [] paths) × ((key : List Value) × SpellsKey s paths values key × AreMatches s held t paths key ordinals)

    -- the JSON spells no key
    abbrev UnspelledIn : ℕ → List Schema → Table → Type 0
    UnspelledIn t s held = (paths : List Path) × (HasShape IsObject s t × AreKeyPaths s t [] paths) × ((key : List Value) → ¬ SpellsKey s paths values key)

    module _ (t : ℕ) (at : index_of_type other.schemas name ≡ Some t) where
      finds : (ordinals : List ℕ) → HaveKey values table now t ordinals → FindsUnder [] values other t ordinals
      finds ordinals has = let (paths, of_key, spelled) = carried (KeyedIn t ordinals) has in (paths, (of_key.0, of_key.1, keeps t paths at of_key.1), spelled)

      refusal_as_get : (refusal : Refusal) → OldKeyRefusal name values table now t refusal → GetRefusal name values other t refusal
      refusal_as_get BadKey is = let (paths, of_key, none) = carried (UnspelledIn t) is in (paths, (of_key.0, of_key.1, keeps t paths at of_key.1), none)
      refusal_as_get NoMatch is = finds [] is
      refusal_as_get (Ambiguous first second) (rest, is) = (rest, finds (first ∷ second ∷ rest) is)
      refusal_as_get (TooLarge Nodes) (ordinal, is, many) =
          (ordinal, finds (ordinal ∷ []) is, carried (λ s held. number_of_limit Nodes < node_count (unfold_row s held t ordinal)) many)
      refusal_as_get (WrongKind another) is = (is.0, carried (λ s _. HasShape IsObject s t → ⊥) is.1)
      refusal_as_get (BadPath lost) is = carried (λ s _. HasShape IsObject s t × IsBadPath s t [] lost) is
      refusal_as_get _ is = absurd is

      shown_as_get : (answer : Reply) → ShowsOldKey name values table now t answer → ShowsFound name values other t (as_get answer)
      shown_as_get (reply.WasGet ordinal value) (is, few, prints) = (
        finds (ordinal ∷ []) is,
        carried (λ s held. node_count (unfold_row s held t ordinal) ≤ number_of_limit Nodes) few,
        carried (λ s held. PrintsTree s t (unfold_row s held t ordinal) (view value)) prints,
      )
      shown_as_get (reply.Refused refusal) is = refusal_as_get refusal is
      shown_as_get _ is = absurd is

    at_as_get : (type_index : Option ℕ) (answer : Reply) → index_of_type other.schemas name ≡ type_index → AnswersAt now type_index name (ShowsOldKey name values table) answer
        → AnswersAt other type_index name (ShowsFound name values) (as_get answer)
    at_as_get None answer at is = ap as_get is
    at_as_get (Some t) answer at is = shown_as_get t at answer is

    then_as_get : (version : ℕ) (answer : Reply) → AnswersThen now (Some table) version name (ShowsOldKey name values) answer → GetReply (Some other) name values (as_get answer)
    then_as_get version answer is =
        let one = ap (λ (s : List Schema). index_of_type s name) schemas in
        subst (λ (type_index : Option ℕ). AnswersAt other type_index name (ShowsFound name values) (as_get answer)) one
        (at_as_get (index_of_type now.schemas name) answer (sym one) is)

-- ---- the answers of the orders

module _ (machine : Machine) (chain : Chain) (of : IsReaderOf chain machine) (now : Position) (was : machine.consumer ≡ Some now) (version : ℕ) (reaches : Reaches machine version) where
  -- the rows of the version
  rows_held : (table : Table) × (rows_then now machine.version machine.past version ≡ Some table)
  rows_held = found (rows_then now machine.version machine.past version) (subst (λ (consumer : Option Position). IsSomeAnd consumer (λ at. IsSome (rows_then at machine.version machine.past version))) was reaches)

  -- where another consumer with the same model sees the state, it has these rows
  same_rows : (state : ChainState) (table : Table) (position : Position) → table ≡ seen_in now.schemas state → position.schemas ≡ now.schemas → Sees state position → table ≡ rows_now position
  same_rows state table position held model sees = held ∙ ap (λ (m : List Schema). seen_in m state) (sym model) ∙ sym sees.rows

  pub was_as_row : (name : Name) (ordinal : ℕ) (answer : Reply) → WasReply machine.consumer machine.version machine.past version name ordinal answer → IsRowThen chain now.schemas version name ordinal answer
  was_as_row name ordinal answer is =
      let (table, rows) = rows_held in
      let (state, there, held) = reader_old machine chain now version table of was rows in
      let of_now = subst (λ (consumer : Option Position). WasReply consumer machine.version machine.past version name ordinal answer) was is in
      let of_then = subst (λ (kept : Option Table). AnswersThen now kept version name (ShowsOld name ordinal) answer) rows of_now in
      (state, there, (λ position model sees. then_as_row now position (sym model) table (same_rows state table position held model sees) version name ordinal answer of_then))

  pub wasget_as_get : (name : Name) (values : Data) (answer : Reply) → WasGetReply machine.consumer machine.version machine.past version name values answer → IsGotThen chain now.schemas version name values answer
  wasget_as_get name values answer is =
      let (table, rows) = rows_held in
      let (state, there, held) = reader_old machine chain now version table of was rows in
      let of_now = subst (λ (consumer : Option Position). WasGetReply consumer machine.version machine.past version name values answer) was is in
      let of_then = subst (λ (kept : Option Table). AnswersThen now kept version name (ShowsOldKey name values) answer) rows of_now in
      (state, there, (λ position model sees keeps. then_as_get now position (sym model) table (same_rows state table position held model sees) name values keeps version answer of_then))
