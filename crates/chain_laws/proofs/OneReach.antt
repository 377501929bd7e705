-- What is asked of a consumer along a walk path has one answer line, and a walk index that is asked for leaves one machine.
use Rattle.std.proofs.Common.{◌≡◌, ℕ, List, length, inl, inr, ◌⊎◌, Option, Some, None, refl, sym, ap, subst, ◌∙◌, arith}
use Rattle.std.specs.Prelude.{Contains, IfSome, IsSomeAnd}
use Rattle.serde_json.specs.Data.{Data}
use Rattle.schema_model.specs.declared.limit.Limit.TheVariants.{Entries, Walks}
use Rattle.schema_model.specs.declared.model.rule.Rule.TheVariants.{DuplicateName}
use Rattle.schema_model.specs.declared.model.walk_path.WalkPart.{WalkPart}
use Rattle.schema_model.specs.declared.model.walk_path.WalkPath.{WalkPath}
use Rattle.schema_model.specs.declared.schema.FieldKind.{FieldKind}
use Rattle.schema_model.specs.declared.schema.name.Name.{Name}
use Rattle.schema_model.specs.declared.schema.Schema.{Schema}
use Rattle.schema_model.specs.Limit.{number_of_limit}
use Rattle.schema_model.specs.Model.{IsKept}
use Rattle.schema_model.specs.Parts.{index_of_type}
use Rattle.schema_model.specs.Path.{path_names}
use Rattle.schema_model.specs.WalkPath.{WalkResolves}
use Rattle.model_paths.proofs.Walking.{walk_once}
use Rattle.row_model.specs.declared.row.Value.{Value}
use Rattle.row_model.specs.Reach.{AreWalkMatches}
use Rattle.row_model.specs.Table.{Table}
use Rattle.json_values.specs.KeyFrom.{key_part}
use Rattle.json_values.specs.ReadValue.{read_value}
use Rattle.hol_answers.specs.declared.refusal.Refusal.{Refusal}
use Rattle.hol_answers.specs.declared.refusal.Refusal.TheVariants.{BadKey, BadPath, NoIndex, NoState, NoType, TooLarge}
use Rattle.hol_answers.specs.declared.reply.Reply.{Reply}
use Rattle.hol_answers.specs.declared.reply.Reply.TheVariants as reply
use Rattle.read_engine.specs.Indexes.{KeepsOne}
use Rattle.read_engine.specs.Position.{Position, rows_now}
use Rattle.read_engine.specs.Walks.{CountsWalked, HasNoWalkRoom, PassesEntries}
use Rattle.hollow_machine.specs.State.{Machine, with_consumer}
use Rattle.hollow_machine.specs.WalkOrders.{IsLostWalk, KeepsWalk, ListsWalked, RefusesWalk, SpellsEnd, WalkFindRefusal, WalkFindReply, WalkIndexRefusal, WalkIndexStep, WalksAlong, kind_walked}
use Rattle.chain_laws.specs.Answers.{SaysOne}
use Rattle.chain_laws.proofs.OneLook.{one_typed, rising_one, says}
use Rattle.chain_laws.proofs.TypedConsumers.{IsTyped}

-- ---- the path, the value and the rows

-- a text resolves to one walk path
pub walk_path_once : (schemas : List Schema) → IsKept schemas DuplicateName → (t : ℕ) (text : List ℕ) (p q : WalkPath) → WalkResolves schemas t text p → WalkResolves schemas t text q → p ≡ q
walk_path_once schemas names t text p q (begins, leads) (starts, other) =
    let parts = walk_once schemas names (path_names text) t p.parts q.parts leads other in
    let begin = begins ∙ sym starts in
    λ i. record { type_index = begin i; parts = parts i }

some_once : {A : Type 0} (o : Option A) (a b : A) → o ≡ Some a → o ≡ Some b → a ≡ b
some_once o a b one other = let same : Some a ≡ Some b = sym one ∙ other in cc

value_once : (schemas : List Schema) (path : WalkPath) (json : Data) (a b : Value) → SpellsEnd schemas path json a → SpellsEnd schemas path json b → a ≡ b
value_once schemas path json a b one other =
    let kinds : one.kind ≡ other.kind = some_once (kind_walked schemas path.type_index path.parts) one.kind other.kind one.ends other.ends in
    some_once (key_part (read_value one.kind json)) a b one.reads (ap (λ (k : FieldKind). key_part (read_value k json)) kinds ∙ other.reads)

walked_once : (schemas : List Schema) (table : Table) (t : ℕ) (parts : List WalkPart) (value : Value) (xs ys : List ℕ) → AreWalkMatches schemas table t parts value xs → AreWalkMatches schemas table t parts value ys → xs ≡ ys
walked_once schemas table t parts value xs ys one other =
    rising_one xs ys one.rising other.rising (λ q. ((λ among. (other.are q).1 ((one.are q).0 among)), (λ among. (one.are q).1 ((other.are q).0 among))))

-- ---- what there is to the path of a text

module _ {X : Type 0} (Same : X → X → Type 0) (same : (a b : X) → a ≡ b → Same a b) (schemas : List Schema) (names : IsKept schemas DuplicateName) (t : ℕ) (text : List ℕ) (bad : X) (P : WalkPath → X → Type 0) where
  -- the text leads to no value; or what there is to its path
  abbrev Along : X → Type 0
  Along x = (IsLostWalk schemas t text × (x ≡ bad)) ⊎ ((path : WalkPath) × WalkResolves schemas t text path × P path x)

  along_once : ((path : WalkPath) (a b : X) → P path a → P path b → Same a b) → (a b : X) → Along a → Along b → Same a b
  along_once each a b (inl one) (inl other) = same a b (one.1 ∙ sym other.1)
  along_once each a b (inl one) (inr (path, resolves, p)) = absurd (one.0 path resolves)
  along_once each a b (inr (path, resolves, p)) (inl other) = absurd (other.0 path resolves)
  along_once each a b (inr (path, resolves, p)) (inr (also, resolves_too, q)) =
      each path a b p (subst (λ (w : WalkPath). P w b) (sym (walk_path_once schemas names t text path also resolves resolves_too)) q)

-- ---- walkfind

module _ (text : List ℕ) (json : Data) (now : Position) (typed : IsTyped now) (t : ℕ) where
  -- no walk index is kept of the path; the JSON spells no value of its end; or the rows that reach the value
  abbrev Found : WalkPath → Reply → Type 0
  Found path x =
      ((¬ Contains now.walks path) × (x ≡ reply.Refused NoIndex))
      ⊎ (Contains now.walks path
      × ((((value : Value) → ¬ SpellsEnd now.schemas path json value) × (x ≡ reply.Refused BadKey))
      ⊎ ((value : Value) × SpellsEnd now.schemas path json value × ((ordinals : List ℕ) × AreWalkMatches now.schemas (rows_now now) t path.parts value ordinals × (x ≡ reply.WalkFind ordinals)))))

  found_once : (path : WalkPath) (a b : Reply) → Found path a → Found path b → SaysOne a b
  found_once path a b (inl one) (inl other) = says a b (one.1 ∙ sym other.1)
  found_once path a b (inl one) (inr other) = absurd (one.0 other.0)
  found_once path a b (inr one) (inl other) = absurd (other.0 one.0)
  found_once path a b (inr (kept, inl one)) (inr (also, inl other)) = says a b (one.1 ∙ sym other.1)
  found_once path a b (inr (kept, inl one)) (inr (also, inr (value, spells, found))) = absurd (one.0 value spells)
  found_once path a b (inr (kept, inr (value, spells, found))) (inr (also, inl other)) = absurd (other.0 value spells)
  found_once path a b (inr (kept, inr (value, spells, (xs, are, a_is)))) (inr (also, inr (other, spells_too, (ys, are_too, b_is)))) =
      let values = value_once now.schemas path json other value spells_too spells in
      let lists = walked_once now.schemas (rows_now now) t path.parts value xs ys are (subst (λ (v : Value). AreWalkMatches now.schemas (rows_now now) t path.parts v ys) values are_too) in
      says a b (a_is ∙ ap (λ (os : List ℕ). reply.WalkFind os) lists ∙ sym b_is)

  abbrev Looked : Reply → Type 0
  Looked x = Along SaysOne says now.schemas typed.names t text (reply.Refused (BadPath text)) Found x

  refused_kind : (refusal : Refusal) → WalkFindRefusal text json now t refusal → Looked (reply.Refused refusal)
  refused_kind (BadPath lost) is = inl (is.1, ap (λ (w : List ℕ). reply.Refused (BadPath w)) is.0)
  refused_kind NoIndex (path, resolves, none) = inr (path, resolves, inl (none, refl))
  refused_kind BadKey (path, kept, never) = inr (path, kept.0, inr (kept.1, inl (never, refl)))
  refused_kind _ is = absurd is

  find_kind : (answer : Reply) → ListsWalked text json now t answer → Looked answer
  find_kind (reply.WalkFind ordinals) (path, kept, (value, spells, are)) = inr (path, kept.0, inr (kept.1, inr (value, spells, (ordinals, are, refl))))
  find_kind (reply.Refused refusal) is = refused_kind refusal is
  find_kind _ is = absurd is

  find_at_once : (a b : Reply) → ListsWalked text json now t a → ListsWalked text json now t b → SaysOne a b
  find_at_once a b one other = along_once SaysOne says now.schemas typed.names t text (reply.Refused (BadPath text)) Found found_once a b (find_kind a one) (find_kind b other)

pub one_walkfind : (consumer : Option Position) (name : Name) (text : List ℕ) (json : Data) (a b : Reply) → IfSome consumer IsTyped → WalkFindReply consumer name text json a → WalkFindReply consumer name text json b → SaysOne a b
one_walkfind consumer name text json a b typed one other = one_typed name (ListsWalked text json) (λ now is t. find_at_once text json now is t) consumer a b typed one other

-- ---- walkindex

module _ (machine : Machine) (name : Name) (text : List ℕ) where
  -- an answer, and the machine behind it
  abbrev Left : Type 0
  Left = Reply × Machine

  abbrev Alike : Left → Left → Type 0
  Alike one other = SaysOne one.0 other.0 × (one.1 ≡ other.1)

  alike : (one other : Left) → one ≡ other → Alike one other
  alike one other same = (says one.0 other.0 (ap (λ (l : Left). l.0) same), ap (λ (l : Left). l.1) same)

  abbrev refused : Refusal → Left
  refused refusal = (reply.Refused refusal, machine)

  module _ (now : Position) where
    abbrev Kept : WalkPath → Left → Type 0
    Kept path left =
        (HasNoWalkRoom now path × (left ≡ refused (TooLarge Walks)))
        ⊎ ((PassesEntries now path × (left ≡ refused (TooLarge Entries)))
        ⊎ ((keys : ℕ) × CountsWalked now path keys
        × ((after : List WalkPath) × KeepsWalk now path after × (left ≡ (reply.WalkIndex keys, with_consumer machine (Some (record now { walks = after })))))))

    room_apart : (path : WalkPath) (after : List WalkPath) → HasNoWalkRoom now path → KeepsOne (number_of_limit Walks) now.walks path after → ⊥
    room_apart path after none (inl kept) = none.0 kept.0
    room_apart path after none (inr new) = let full = none.1 in let room = new.1 in omega (arith, full, room)

    limits_apart : (path : WalkPath) → HasNoWalkRoom now path → PassesEntries now path → ⊥
    limits_apart path none many = let full = none.1 in let room = many.1 in omega (arith, full, room)

    after_once : (path : WalkPath) (xs ys : List WalkPath) → KeepsOne (number_of_limit Walks) now.walks path xs → KeepsOne (number_of_limit Walks) now.walks path ys → xs ≡ ys
    after_once path xs ys (inl kept) (inl also) = kept.1 ∙ sym also.1
    after_once path xs ys (inl kept) (inr new) = absurd (new.0 kept.0)
    after_once path xs ys (inr new) (inl kept) = absurd (new.0 kept.0)
    after_once path xs ys (inr new) (inr also) = new.2 ∙ sym also.2

    count_once : (path : WalkPath) (a b : ℕ) → CountsWalked now path a → CountsWalked now path b → a ≡ b
    count_once path a b (xs, are, a_is) (ys, are_too, b_is) =
        let lists = rising_one xs ys are.rising are_too.rising (λ q. ((λ among. (are_too.are q).1 ((are.are q).0 among)), (λ among. (are.are q).1 ((are_too.are q).0 among)))) in
        a_is ∙ ap (λ (os : List ℕ). length os) lists ∙ sym b_is

    kept_once : (path : WalkPath) (a b : Left) → Kept path a → Kept path b → Alike a b
    kept_once path a b (inl one) (inl other) = alike a b (one.1 ∙ sym other.1)
    kept_once path a b (inl one) (inr (inl other)) = absurd (limits_apart path one.0 other.0)
    kept_once path a b (inl one) (inr (inr (keys, counts, (after, keeps, b_is)))) = absurd (room_apart path after one.0 keeps.0)
    kept_once path a b (inr (inl one)) (inl other) = absurd (limits_apart path other.0 one.0)
    kept_once path a b (inr (inl one)) (inr (inl other)) = alike a b (one.1 ∙ sym other.1)
    kept_once path a b (inr (inl one)) (inr (inr (keys, counts, (after, keeps, b_is)))) = absurd (keeps.1 one.0)
    kept_once path a b (inr (inr (keys, counts, (after, keeps, a_is)))) (inl other) = absurd (room_apart path after other.0 keeps.0)
    kept_once path a b (inr (inr (keys, counts, (after, keeps, a_is)))) (inr (inl other)) = absurd (keeps.1 other.0)
    kept_once path a b (inr (inr (keys, counts, (after, keeps, a_is)))) (inr (inr (also, counts_too, (behind, keeps_too, b_is)))) =
        let numbers = count_once path keys also counts counts_too in
        let lists = after_once path after behind keeps.0 keeps_too.0 in
        alike a b (a_is ∙ (λ i. (reply.WalkIndex (numbers i), with_consumer machine (Some (record now { walks = lists i })))) ∙ sym b_is)

  abbrev KeptAt : Position → Option ℕ → Left → Type 0
  KeptAt now None left = left ≡ refused (NoType name)
  KeptAt now (Some t) left = (IsLostWalk now.schemas t text × (left ≡ refused (BadPath text))) ⊎ ((path : WalkPath) × WalkResolves now.schemas t text path × Kept now path left)

  abbrev KeptOf : Option Position → Left → Type 0
  KeptOf None left = left ≡ refused NoState
  KeptOf (Some now) left = KeptAt now (index_of_type now.schemas name) left

  at_once : (now : Position) → IsTyped now → (found : Option ℕ) (a b : Left) → KeptAt now found a → KeptAt now found b → Alike a b
  at_once now typed None a b one other = alike a b (one ∙ sym other)
  at_once now typed (Some t) a b one other = along_once Alike alike now.schemas typed.names t text (refused (BadPath text)) (Kept now) (kept_once now) a b one other

  of_once : (consumer : Option Position) → IfSome consumer IsTyped → (a b : Left) → KeptOf consumer a → KeptOf consumer b → Alike a b
  of_once None typed a b one other = alike a b (one ∙ sym other)
  of_once (Some now) typed a b one other = at_once now typed (index_of_type now.schemas name) a b one other

  -- what the order leaves is one of these
  refused_at : (now : Position) (found : Option ℕ) (refusal : Refusal) → IsSomeAnd found (λ t. RefusesWalk text now t refusal) → KeptAt now found (refused refusal)
  refused_at now None refusal is = absurd is
  refused_at now (Some t) (BadPath lost) is = inl (is.1, ap (λ (w : List ℕ). refused (BadPath w)) is.0)
  refused_at now (Some t) (TooLarge Walks) (path, resolves, none) = inr (path, resolves, inl (none, refl))
  refused_at now (Some t) (TooLarge Entries) (path, resolves, many) = inr (path, resolves, inr (inl (many, refl)))
  refused_at now (Some t) _ is = absurd is

  refused_of : (consumer : Option Position) (refusal : Refusal) → WalkIndexRefusal consumer name text refusal → KeptOf consumer (refused refusal)
  refused_of None NoState is = refl
  refused_of None (NoType other) is = absurd is
  refused_of None _ is = absurd is
  refused_of (Some now) NoState is = absurd cc
  refused_of (Some now) (NoType other) is =
      subst (λ (found : Option ℕ). KeptAt now found (refused (NoType other))) (sym is.0) (ap (λ (n : Name). refused (NoType n)) is.1)
  refused_of (Some now) refusal is = refused_at now (index_of_type now.schemas name) refusal is

  counted_at : (now : Position) (found : Option ℕ) (keys : ℕ) (next : Machine) → IsSomeAnd found (λ t. WalksAlong machine text now t keys next) → KeptAt now found (reply.WalkIndex keys, next)
  counted_at now None keys next is = absurd is
  counted_at now (Some t) keys next along =
      let next_is = along.is in
      inr (along.path, along.resolves, inr (inr (keys, along.counts, (along.after, along.keeps, (λ i. (reply.WalkIndex keys, next_is i))))))

  counted_of : (consumer : Option Position) (keys : ℕ) (next : Machine) → IsSomeAnd consumer (λ now. IsSomeAnd (index_of_type now.schemas name) (λ t. WalksAlong machine text now t keys next)) → KeptOf consumer (reply.WalkIndex keys, next)
  counted_of None keys next is = absurd is
  counted_of (Some now) keys next is = counted_at now (index_of_type now.schemas name) keys next is

  walk_kind : (answer : Reply) (next : Machine) → WalkIndexStep machine name text answer next → KeptOf machine.consumer (answer, next)
  walk_kind (reply.WalkIndex keys) next step = counted_of machine.consumer keys next step
  walk_kind (reply.Refused refusal) next step =
      subst (λ (m : Machine). KeptOf machine.consumer (reply.Refused refusal, m)) (sym step.1) (refused_of machine.consumer refusal step.0)
  walk_kind _ next step = absurd step

  pub one_walkindex : IfSome machine.consumer IsTyped → (one other : Reply) (next after : Machine) → WalkIndexStep machine name text one next → WalkIndexStep machine name text other after → SaysOne one other × (next ≡ after)
  one_walkindex typed one other next after step also =
      of_once machine.consumer typed (one, next) (other, after) (walk_kind one next step) (walk_kind other after also)
