-- What is asked of a consumer by a key has one answer line, and an index that is asked for leaves one machine.
use Rattle.std.proofs.Common.{◌≡◌, ◌≤◌, ◌<◌, ℕ, List, [], ◌∷◌, length, inl, inr, ◌⊎◌, Option, Some, None, refl, sym, ap, subst, ◌∙◌, arith}
use Rattle.std.specs.Prelude.{Contains, IfSome, IsSomeAnd, codes, slice_get}
use Rattle.std.specs.List.{AllZip}
use Rattle.serde_json.specs.Data.{Data, string, object, no_members, member}
use Rattle.serde_json.specs.View.{view}
use Rattle.serde_json.specs.declared.value.Value.{Value}
use Rattle.schema_model.specs.declared.limit.Limit.TheVariants.{Indexes, Nodes}
use Rattle.schema_model.specs.declared.model.path.Path.{Path}
use Rattle.schema_model.specs.declared.model.rule.Rule.TheVariants.{DuplicateName}
use Rattle.row_model.specs.declared.row.Value as row_value
use Rattle.schema_model.specs.declared.schema.FieldKind.{FieldKind}
use Rattle.schema_model.specs.declared.schema.name.Name.{Name}
use Rattle.schema_model.specs.declared.schema.Schema.{Schema}
use Rattle.row_model.specs.Key.{AreMatches}
use Rattle.schema_model.specs.Limit.{number_of_limit}
use Rattle.schema_model.specs.Model.{IsKept}
use Rattle.schema_model.specs.Parts.{index_of_type}
use Rattle.schema_model.specs.Path.{Resolves}
use Rattle.row_model.specs.PlainTree.{node_count}
use Rattle.row_model.specs.Table.{Table}
use Rattle.schema_model.proofs.Ways.{one_path}
use Rattle.json_values.specs.KeyFrom.{AreKinds, SpellsKey, key_values}
use Rattle.record_json.specs.PrintTree.{PrintsTree}
use Rattle.hol_answers.specs.declared.refusal.Refusal.{Refusal}
use Rattle.hol_answers.specs.declared.refusal.Refusal.TheVariants.{Ambiguous, BadKey, BadPath, NoIndex, NoMatch, NoState, NoType, TooLarge, WrongKind}
use Rattle.hol_answers.specs.declared.reply.Reply.{Reply}
use Rattle.hol_answers.specs.declared.reply.Reply.TheVariants as reply
use Rattle.hol_orders.specs.Parts.{whole}
use Rattle.read_engine.specs.Indexes.{CountsKeyed, HasNoRoom, KeepsIndex, index_by}
use Rattle.read_engine.specs.Position.{Index, Position, rows_now}
use Rattle.hollow_machine.specs.IndexOrder.{IndexRefusal, IndexStep, RefusesIndex}
use Rattle.hollow_machine.specs.KeyOrders.{FindReply, FindsUnder, GetRefusal, GetReply, ListsFound, LookUpRefusal, ShowsFound}
use Rattle.hollow_machine.specs.KeyPaths.{AreKeyPaths, HasShape, IsBadPath, IsFirstLost, IsObject, HasKeyTexts, key_texts}
use Rattle.hollow_machine.specs.RowOrders.{record_at}
use Rattle.hollow_machine.specs.State.{Machine, with_consumer}
use Rattle.chain_laws.specs.Answers.{SaysOne}
use Rattle.chain_laws.proofs.OneLook.{one_typed, rising_one, says}
use Rattle.chain_laws.proofs.PrintedOnce.{tree_once}
use Rattle.chain_laws.proofs.TypedConsumers.{IsTyped}

-- ---- the paths

found_once : {A X : Type 0} (found : Option A) (f : A → X) (a b : X) → IsSomeAnd found (λ x. f x ≡ a) → IsSomeAnd found (λ x. f x ≡ b) → a ≡ b
found_once None f a b one other = absurd one
found_once (Some x) f a b one other = sym one ∙ other

module _ (schemas : List Schema) (names : IsKept schemas DuplicateName) (t : ℕ) where
  all_once : (texts : List (List ℕ)) (xs ys : List Path) → AllZip (λ text path. Resolves schemas t text path) texts xs → AllZip (λ text path. Resolves schemas t text path) texts ys → xs ≡ ys
  all_once [] [] [] one other = refl
  all_once [] [] (y ∷ ys) one other = absurd other
  all_once [] (x ∷ xs) ys one other = absurd one
  all_once (text ∷ texts) [] ys one other = absurd one
  all_once (text ∷ texts) (x ∷ xs) [] one other = absurd other
  all_once (text ∷ texts) (x ∷ xs) (y ∷ ys) one other =
      let first = one_path schemas names t text x y one.0 other.0 in
      let rest = all_once texts xs ys one.1 other.1 in
      λ i. first i ∷ rest i

  asked_once : (texts : List (List ℕ)) (a b : Option (List (List ℕ))) → HasKeyTexts schemas t texts a → HasKeyTexts schemas t texts b → a ≡ b
  asked_once texts a b one other = found_once (slice_get schemas t) (λ schema. key_texts schema.shape texts) a b one other

  one_asked : (texts a b : List (List ℕ)) → HasKeyTexts schemas t texts (Some a) → HasKeyTexts schemas t texts (Some b) → b ≡ a
  one_asked texts a b one other = let same : Some a ≡ Some b = asked_once texts (Some a) (Some b) one other in cc

  pub paths_once : (texts : List (List ℕ)) (xs ys : List Path) → AreKeyPaths schemas t texts xs → AreKeyPaths schemas t texts ys → xs ≡ ys
  paths_once texts xs ys (asked, is, are) (also, is_too, are_too) =
      all_once asked xs ys are (subst (λ (of : List (List ℕ)). AllZip (λ text path. Resolves schemas t text path) of ys) (one_asked texts asked also is is_too) are_too)

  first_once : (texts : List (List ℕ)) (a b : List ℕ) → IsFirstLost schemas t texts a → IsFirstLost schemas t texts b → a ≡ b
  first_once [] a b one other = absurd one
  first_once (text ∷ texts) a b (inl lost) (inl also) = lost.0 ∙ sym also.0
  first_once (text ∷ texts) a b (inl lost) (inr later) = absurd (lost.1 later.0.0 later.0.1)
  first_once (text ∷ texts) a b (inr later) (inl lost) = absurd (lost.1 later.0.0 later.0.1)
  first_once (text ∷ texts) a b (inr later) (inr also) = first_once texts a b later.1 also.1

  first_apart : (texts : List (List ℕ)) (lost : List ℕ) (paths : List Path) → IsFirstLost schemas t texts lost → AllZip (λ text path. Resolves schemas t text path) texts paths → ⊥
  first_apart [] lost paths first are = first
  first_apart (text ∷ texts) lost [] first are = are
  first_apart (text ∷ texts) lost (path ∷ paths) (inl none) are = none.1 path are.0
  first_apart (text ∷ texts) lost (path ∷ paths) (inr later) are = first_apart texts lost paths later.1 are.1

  lost_once : (texts : List (List ℕ)) (a b : List ℕ) → IsBadPath schemas t texts a → IsBadPath schemas t texts b → a ≡ b
  lost_once texts a b (inl none) (inl also) = none.1 ∙ sym also.1
  lost_once texts a b (inl none) (inr (asked, is, first)) = let no : None ≡ Some asked = asked_once texts None (Some asked) none.0 is in absurd cc
  lost_once texts a b (inr (asked, is, first)) (inl none) = let no : None ≡ Some asked = asked_once texts None (Some asked) none.0 is in absurd cc
  lost_once texts a b (inr (asked, is, first)) (inr (also, is_too, first_too)) =
      first_once asked a b first (subst (λ (of : List (List ℕ)). IsFirstLost schemas t of b) (one_asked texts asked also is is_too) first_too)

  lost_apart : (texts : List (List ℕ)) (lost : List ℕ) (paths : List Path) → IsBadPath schemas t texts lost → AreKeyPaths schemas t texts paths → ⊥
  lost_apart texts lost paths (inl none) (asked, is, are) = let no : None ≡ Some asked = asked_once texts None (Some asked) none.0 is in absurd cc
  lost_apart texts lost paths (inr (also, is_too, first)) (asked, is, are) =
      first_apart asked lost paths (subst (λ (of : List (List ℕ)). IsFirstLost schemas t of lost) (one_asked texts asked also is is_too) first) are

-- ---- by the shape and the paths

module _ {X : Type 0} (Same : X → X → Type 0) (same : (a b : X) → a ≡ b → Same a b) (schemas : List Schema) (names : IsKept schemas DuplicateName) (t : ℕ) (texts : List (List ℕ)) (wrong : X) (bad : List ℕ → X)
    (P : List Path → X → Type 0) where
  -- the rows are no records; a path leads to no value; or what there is to the paths
  abbrev pub Along : X → Type 0
  Along x =
      ((¬ HasShape IsObject schemas t) × (x ≡ wrong))
      ⊎ (HasShape IsObject schemas t
      × (((lost : List ℕ) × IsBadPath schemas t texts lost × (x ≡ bad lost)) ⊎ ((paths : List Path) × AreKeyPaths schemas t texts paths × P paths x)))

  pub along_once : ((paths : List Path) (a b : X) → P paths a → P paths b → Same a b) → (a b : X) → Along a → Along b → Same a b
  along_once each a b (inl one) (inl other) = same a b (one.1 ∙ sym other.1)
  along_once each a b (inl one) (inr other) = absurd (one.0 other.0)
  along_once each a b (inr one) (inl other) = absurd (other.0 one.0)
  along_once each a b (inr (shape, inl (lost, is, a_is))) (inr (also, inl (missed, is_too, b_is))) =
      same a b (a_is ∙ ap bad (lost_once schemas names t texts lost missed is is_too) ∙ sym b_is)
  along_once each a b (inr (shape, inl (lost, is, a_is))) (inr (also, inr (paths, are, p))) = absurd (lost_apart schemas names t texts lost paths is are)
  along_once each a b (inr (shape, inr (paths, are, p))) (inr (also, inl (lost, is, b_is))) = absurd (lost_apart schemas names t texts lost paths is are)
  along_once each a b (inr (shape, inr (paths, are, p))) (inr (also, inr (others, are_too, q))) =
      each paths a b p (subst (λ (of : List Path). P of b) (sym (paths_once schemas names t texts paths others are are_too)) q)

-- ---- the key

-- JSON spells one key at most
kinds_once : (schemas : List Schema) (paths : List Path) (xs ys : List FieldKind) → AreKinds schemas paths xs → AreKinds schemas paths ys → xs ≡ ys
kinds_once schemas [] [] [] one other = refl
kinds_once schemas [] [] (y ∷ ys) one other = absurd other
kinds_once schemas [] (x ∷ xs) ys one other = absurd one
kinds_once schemas (path ∷ paths) [] ys one other = absurd one
kinds_once schemas (path ∷ paths) (x ∷ xs) [] one other = absurd other
kinds_once schemas (path ∷ paths) (x ∷ xs) (y ∷ ys) one other =
    let both : Some x ≡ Some y = sym one.0 ∙ other.0 in
    let first : x ≡ y = cc in
    let rest = kinds_once schemas paths xs ys one.1 other.1 in
    λ i. first i ∷ rest i

pub key_once : (schemas : List Schema) (paths : List Path) (json : Data) (a b : List row_value.Value) → SpellsKey schemas paths json a → SpellsKey schemas paths json b → a ≡ b
key_once schemas paths json a b one other =
    let kinds = kinds_once schemas paths one.kinds other.kinds one.are other.are in
    let both : Some a ≡ Some b = sym one.values ∙ ap (λ (ks : List FieldKind). key_values ks json) kinds ∙ other.values in
    cc

matches_once : (schemas : List Schema) (table : Table) (t : ℕ) (paths : List Path) (key : List row_value.Value) (xs ys : List ℕ) → AreMatches schemas table t paths key xs → AreMatches schemas table t paths key ys → xs ≡ ys
matches_once schemas table t paths key xs ys one other =
    rising_one xs ys one.rising other.rising (λ q. ((λ among. (other.are q).1 ((one.are q).0 among)), (λ among. (one.are q).1 ((other.are q).0 among))))

-- ---- the rows of a table that have a key

module _ (values : Data) (now : Position) (table : Table) (t : ℕ) (Q : List ℕ → Reply → Type 0) where
  -- the JSON spells no key of the paths; or what there is to the rows that have the key
  abbrev pub Keyed : List Path → Reply → Type 0
  Keyed paths x =
      (((key : List row_value.Value) → ¬ SpellsKey now.schemas paths values key) × (x ≡ reply.Refused BadKey))
      ⊎ ((key : List row_value.Value) × SpellsKey now.schemas paths values key × ((ordinals : List ℕ) × AreMatches now.schemas table t paths key ordinals × Q ordinals x))

  pub keyed_once : ((ordinals : List ℕ) (a b : Reply) → Q ordinals a → Q ordinals b → SaysOne a b) → (paths : List Path) (a b : Reply) → Keyed paths a → Keyed paths b → SaysOne a b
  keyed_once each paths a b (inl one) (inl other) = says a b (one.1 ∙ sym other.1)
  keyed_once each paths a b (inl one) (inr (key, spells, found)) = absurd (one.0 key spells)
  keyed_once each paths a b (inr (key, spells, found)) (inl other) = absurd (other.0 key spells)
  keyed_once each paths a b (inr (key, spells, (xs, are, p))) (inr (also, spells_too, (ys, are_too, q))) =
      let keys = key_once now.schemas paths values also key spells_too spells in
      let lists = matches_once now.schemas table t paths key ys xs (subst (λ (k : List row_value.Value). AreMatches now.schemas table t paths k ys) keys are_too) are in
      each xs a b p (subst (λ (os : List ℕ). Q os b) lists q)

-- what is told of the rows that have a key, of which one is shown
module _ (now : Position) (table : Table) (t : ℕ) (tell : ℕ → Value → Reply) where
  abbrev nodes : ℕ → ℕ
  nodes ordinal = node_count (record_at now table t ordinal)

  abbrev pub Shows : List ℕ → Reply → Type 0
  Shows [] x = x ≡ reply.Refused NoMatch
  Shows (ordinal ∷ []) x =
      ((number_of_limit Nodes < nodes ordinal) × (x ≡ reply.Refused (TooLarge Nodes)))
      ⊎ ((nodes ordinal ≤ number_of_limit Nodes)
      × ((value : Value) × PrintsTree now.schemas t (record_at now table t ordinal) (view value) × (x ≡ tell ordinal value)))
  Shows (first ∷ second ∷ rest) x = x ≡ reply.Refused (Ambiguous first second)

  pub shows_once : ((ordinal : ℕ) (v w : Value) → view v ≡ view w → SaysOne (tell ordinal v) (tell ordinal w)) → (ordinals : List ℕ) (a b : Reply) → Shows ordinals a → Shows ordinals b → SaysOne a b
  shows_once told [] a b one other = says a b (one ∙ sym other)
  shows_once told (ordinal ∷ []) a b (inl one) (inl other) = says a b (one.1 ∙ sym other.1)
  shows_once told (ordinal ∷ []) a b (inl one) (inr other) = absurd (let many = one.0 in let few = other.0 in omega (arith, many, few))
  shows_once told (ordinal ∷ []) a b (inr one) (inl other) = absurd (let many = other.0 in let few = one.0 in omega (arith, many, few))
  shows_once told (ordinal ∷ []) a b (inr (few, (v, prints, a_is))) (inr (also, (w, prints_too, b_is))) =
      let row = tree_once now.schemas t (record_at now table t ordinal) (view v) (view w) prints prints_too in
      subst (λ (x : Reply). SaysOne x b) (sym a_is) (subst (λ (y : Reply). SaysOne (tell ordinal v) y) (sym b_is) (told ordinal v w row))
  shows_once told (first ∷ second ∷ rest) a b one other = says a b (one ∙ sym other)

-- ---- find and get

module _ (name : Name) (texts : List (List ℕ)) (values : Data) (now : Position) (typed : IsTyped now) (t : ℕ) (Q : List ℕ → Reply → Type 0) where
  -- what there is to paths, of which an index is kept or not
  abbrev Indexed : List Path → Reply → Type 0
  Indexed paths x =
      ((¬ Contains now.indexes (index_by t paths)) × (x ≡ reply.Refused NoIndex)) ⊎ (Contains now.indexes (index_by t paths) × Keyed values now (rows_now now) t Q paths x)

  abbrev Looked : Reply → Type 0
  Looked x = Along SaysOne says now.schemas typed.names t texts (reply.Refused (WrongKind name)) (λ lost. reply.Refused (BadPath lost)) Indexed x

  looked_refused : (refusal : Refusal) → LookUpRefusal name texts values now t refusal → Looked (reply.Refused refusal)
  looked_refused (WrongKind other) is = inl (is.1, ap (λ (n : Name). reply.Refused (WrongKind n)) is.0)
  looked_refused (BadPath lost) is = inr (is.0, inl (lost, is.1, refl))
  looked_refused NoIndex (shape, (paths, are, none)) = inr (shape, inr (paths, are, inl (none, refl)))
  looked_refused BadKey (paths, kept, none) = inr (kept.0, inr (paths, kept.1, inr (kept.2, inl (none, refl))))
  looked_refused _ is = absurd is

  looked_found : (ordinals : List ℕ) (x : Reply) → FindsUnder texts values now t ordinals → Q ordinals x → Looked x
  looked_found ordinals x (paths, kept, (key, spells, are)) q = inr (kept.0, inr (paths, kept.1, inr (kept.2, inr (key, spells, (ordinals, are, q)))))

  indexed_once : ((ordinals : List ℕ) (a b : Reply) → Q ordinals a → Q ordinals b → SaysOne a b) → (paths : List Path) (a b : Reply) → Indexed paths a → Indexed paths b → SaysOne a b
  indexed_once each paths a b (inl one) (inl other) = says a b (one.1 ∙ sym other.1)
  indexed_once each paths a b (inl one) (inr other) = absurd (one.0 other.0)
  indexed_once each paths a b (inr one) (inl other) = absurd (other.0 one.0)
  indexed_once each paths a b (inr one) (inr other) = keyed_once values now (rows_now now) t Q each paths a b one.1 other.1

  looked_once : ((ordinals : List ℕ) (a b : Reply) → Q ordinals a → Q ordinals b → SaysOne a b) → (a b : Reply) → Looked a → Looked b → SaysOne a b
  looked_once each a b one other =
      along_once SaysOne says now.schemas typed.names t texts (reply.Refused (WrongKind name)) (λ lost. reply.Refused (BadPath lost)) Indexed (indexed_once each) a b one other

-- ---- find

module _ (name : Name) (texts : List (List ℕ)) (values : Data) (now : Position) (typed : IsTyped now) (t : ℕ) where
  abbrev Lists : List ℕ → Reply → Type 0
  Lists ordinals x = x ≡ reply.Find ordinals

  find_kind : (answer : Reply) → ListsFound name texts values now t answer → Looked name texts values now typed t Lists answer
  find_kind (reply.Find ordinals) is = looked_found name texts values now typed t Lists ordinals (reply.Find ordinals) is refl
  find_kind (reply.Refused refusal) is = looked_refused name texts values now typed t Lists refusal is
  find_kind _ is = absurd is

  find_at_once : (a b : Reply) → ListsFound name texts values now t a → ListsFound name texts values now t b → SaysOne a b
  find_at_once a b one other =
      looked_once name texts values now typed t Lists (λ ordinals x y p q. says x y (p ∙ sym q)) a b (find_kind a one) (find_kind b other)

-- ---- get

abbrev get_object : ℕ → Data → Data
get_object ordinal row = object (member (codes "ok") (string (codes "get")) (member (codes "ordinal") (whole ordinal) (member (codes "row") row no_members)))

module _ (name : Name) (values : Data) (now : Position) (typed : IsTyped now) (t : ℕ) where
  abbrev Tells : List ℕ → Reply → Type 0
  Tells ordinals x = Shows now (rows_now now) t (λ ordinal value. reply.Get ordinal value) ordinals x

  get_refused : (refusal : Refusal) → GetRefusal name values now t refusal → Looked name [] values now typed t Tells (reply.Refused refusal)
  get_refused NoMatch is = looked_found name [] values now typed t Tells [] (reply.Refused NoMatch) is refl
  get_refused (Ambiguous first second) (rest, is) = looked_found name [] values now typed t Tells (first ∷ second ∷ rest) (reply.Refused (Ambiguous first second)) is refl
  get_refused (TooLarge Nodes) (ordinal, is, many) = looked_found name [] values now typed t Tells (ordinal ∷ []) (reply.Refused (TooLarge Nodes)) is (inl (many, refl))
  get_refused refusal is = looked_refused name [] values now typed t Tells refusal is

  get_kind : (answer : Reply) → ShowsFound name values now t answer → Looked name [] values now typed t Tells answer
  get_kind (reply.Get ordinal value) (is, few, prints) = looked_found name [] values now typed t Tells (ordinal ∷ []) (reply.Get ordinal value) is (inr (few, (value, prints, refl)))
  get_kind (reply.Refused refusal) is = get_refused refusal is
  get_kind _ is = absurd is

  get_at_once : (a b : Reply) → ShowsFound name values now t a → ShowsFound name values now t b → SaysOne a b
  get_at_once a b one other = looked_once name [] values now typed t Tells
      (shows_once now (rows_now now) t (λ ordinal value. reply.Get ordinal value) (λ ordinal v w row. (ap (get_object ordinal) row, refl))) a b (get_kind a one) (get_kind b other)

pub one_find : (consumer : Option Position) (name : Name) (texts : List (List ℕ)) (values : Data) (a b : Reply) → IfSome consumer IsTyped → FindReply consumer name texts values a → FindReply consumer name texts values b → SaysOne a b
one_find consumer name texts values a b typed one other = one_typed name (ListsFound name texts values) (λ now is t. find_at_once name texts values now is t) consumer a b typed one other

pub one_get : (consumer : Option Position) (name : Name) (values : Data) (a b : Reply) → IfSome consumer IsTyped → GetReply consumer name values a → GetReply consumer name values b → SaysOne a b
one_get consumer name values a b typed one other = one_typed name (ShowsFound name values) (λ now is t. get_at_once name values now is t) consumer a b typed one other

-- ---- index

module _ (machine : Machine) (name : Name) (texts : List (List ℕ)) where
  -- an answer, and the machine behind it
  abbrev Left : Type 0
  Left = Reply × Machine

  abbrev Alike : Left → Left → Type 0
  Alike one other = SaysOne one.0 other.0 × (one.1 ≡ other.1)

  alike : (one other : Left) → one ≡ other → Alike one other
  alike one other same = (says one.0 other.0 (ap (λ (l : Left). l.0) same), ap (λ (l : Left). l.1) same)

  abbrev refused : Refusal → Left
  refused refusal = (reply.Refused refusal, machine)

  module _ (now : Position) (t : ℕ) where
    abbrev Kept : List Path → Left → Type 0
    Kept paths left =
        (HasNoRoom now (index_by t paths) × (left ≡ refused (TooLarge Indexes)))
        ⊎ ((keys : ℕ) × CountsKeyed now (index_by t paths) keys
        × ((after : List Index) × KeepsIndex now.indexes (index_by t paths) after × (left ≡ (reply.Index keys, with_consumer machine (Some (record now { indexes = after }))))))

    room_apart : (index : Index) (after : List Index) → HasNoRoom now index → KeepsIndex now.indexes index after → ⊥
    room_apart index after none (inl kept) = none.0 kept.0
    room_apart index after none (inr new) = let full = none.1 in let room = new.1 in omega (arith, full, room)

    after_once : (index : Index) (xs ys : List Index) → KeepsIndex now.indexes index xs → KeepsIndex now.indexes index ys → xs ≡ ys
    after_once index xs ys (inl kept) (inl also) = kept.1 ∙ sym also.1
    after_once index xs ys (inl kept) (inr new) = absurd (new.0 kept.0)
    after_once index xs ys (inr new) (inl kept) = absurd (new.0 kept.0)
    after_once index xs ys (inr new) (inr also) = new.2 ∙ sym also.2

    count_once : (index : Index) (a b : ℕ) → CountsKeyed now index a → CountsKeyed now index b → a ≡ b
    count_once index a b (xs, are, a_is) (ys, are_too, b_is) =
        let lists = rising_one xs ys are.rising are_too.rising (λ q. ((λ among. (are_too.are q).1 ((are.are q).0 among)), (λ among. (are.are q).1 ((are_too.are q).0 among)))) in
        a_is ∙ ap (λ (os : List ℕ). length os) lists ∙ sym b_is

    kept_once : (paths : List Path) (a b : Left) → Kept paths a → Kept paths b → Alike a b
    kept_once paths a b (inl one) (inl other) = alike a b (one.1 ∙ sym other.1)
    kept_once paths a b (inl one) (inr (keys, counts, (after, keeps, b_is))) = absurd (room_apart (index_by t paths) after one.0 keeps)
    kept_once paths a b (inr (keys, counts, (after, keeps, a_is))) (inl other) = absurd (room_apart (index_by t paths) after other.0 keeps)
    kept_once paths a b (inr (keys, counts, (after, keeps, a_is))) (inr (also, counts_too, (behind, keeps_too, b_is))) =
        let numbers = count_once (index_by t paths) keys also counts counts_too in
        let lists = after_once (index_by t paths) after behind keeps keeps_too in
        alike a b (a_is ∙ (λ i. (reply.Index (numbers i), with_consumer machine (Some (record now { indexes = lists i })))) ∙ sym b_is)

  abbrev KeptAt : Position → Option ℕ → Left → Type 0
  KeptAt now None left = left ≡ refused (NoType name)
  KeptAt now (Some t) left =
      ((¬ HasShape IsObject now.schemas t) × (left ≡ refused (WrongKind name)))
      ⊎ (HasShape IsObject now.schemas t
      × (((lost : List ℕ) × IsBadPath now.schemas t texts lost × (left ≡ refused (BadPath lost))) ⊎ ((paths : List Path) × AreKeyPaths now.schemas t texts paths × Kept now t paths left)))

  abbrev KeptOf : Option Position → Left → Type 0
  KeptOf None left = left ≡ refused NoState
  KeptOf (Some now) left = KeptAt now (index_of_type now.schemas name) left

  at_once : (now : Position) → IsTyped now → (found : Option ℕ) (a b : Left) → KeptAt now found a → KeptAt now found b → Alike a b
  at_once now typed None a b one other = alike a b (one ∙ sym other)
  at_once now typed (Some t) a b one other =
      along_once Alike alike now.schemas typed.names t texts (refused (WrongKind name)) (λ lost. refused (BadPath lost)) (Kept now t) (kept_once now t) a b one other

  of_once : (consumer : Option Position) → IfSome consumer IsTyped → (a b : Left) → KeptOf consumer a → KeptOf consumer b → Alike a b
  of_once None typed a b one other = alike a b (one ∙ sym other)
  of_once (Some now) typed a b one other = at_once now typed (index_of_type now.schemas name) a b one other

  -- what the order leaves is one of these
  refused_at : (now : Position) (found : Option ℕ) (refusal : Refusal) → IsSomeAnd found (λ t. RefusesIndex name texts now t refusal) → KeptAt now found (refused refusal)
  refused_at now None refusal is = absurd is
  refused_at now (Some t) (WrongKind other) is = inl (is.1, ap (λ (n : Name). refused (WrongKind n)) is.0)
  refused_at now (Some t) (BadPath lost) is = inr (is.0, inl (lost, is.1, refl))
  refused_at now (Some t) (TooLarge Indexes) (shape, (paths, are, none)) = inr (shape, inr (paths, are, inl (none, refl)))
  refused_at now (Some t) _ is = absurd is

  refused_of : (consumer : Option Position) (refusal : Refusal) → IndexRefusal consumer name texts refusal → KeptOf consumer (refused refusal)
  refused_of None NoState is = refl
  refused_of None (NoType other) is = absurd is
  refused_of None _ is = absurd is
  refused_of (Some now) NoState is = absurd cc
  refused_of (Some now) (NoType other) is =
      subst (λ (found : Option ℕ). KeptAt now found (refused (NoType other))) (sym is.0) (ap (λ (n : Name). refused (NoType n)) is.1)
  refused_of (Some now) refusal is = refused_at now (index_of_type now.schemas name) refusal is

  -- what the order leaves where it is answered
  abbrev pub Counts : Position → ℕ → ℕ → Machine → Type 0
  Counts now t keys next =
      HasShape IsObject now.schemas t
      × ((paths : List Path) × AreKeyPaths now.schemas t texts paths × CountsKeyed now (index_by t paths) keys
      × ((after : List Index) × KeepsIndex now.indexes (index_by t paths) after × (next ≡ with_consumer machine (Some (record now { indexes = after })))))

  counted_at : (now : Position) (found : Option ℕ) (keys : ℕ) (next : Machine) → IsSomeAnd found (λ t. Counts now t keys next) → KeptAt now found (reply.Index keys, next)
  counted_at now None keys next is = absurd is
  counted_at now (Some t) keys next (shape, (paths, are, counts, (after, keeps, next_is))) =
      inr (shape, inr (paths, are, inr (keys, counts, (after, keeps, (λ i. (reply.Index keys, next_is i))))))

  counted_of : (consumer : Option Position) (keys : ℕ) (next : Machine) → IsSomeAnd consumer (λ now. IsSomeAnd (index_of_type now.schemas name) (λ t. Counts now t keys next)) → KeptOf consumer (reply.Index keys, next)
  counted_of None keys next is = absurd is
  counted_of (Some now) keys next is = counted_at now (index_of_type now.schemas name) keys next is

  index_kind : (answer : Reply) (next : Machine) → IndexStep machine name texts answer next → KeptOf machine.consumer (answer, next)
  index_kind (reply.Index keys) next step = counted_of machine.consumer keys next step
  index_kind (reply.Refused refusal) next step =
      subst (λ (m : Machine). KeptOf machine.consumer (reply.Refused refusal, m)) (sym step.1) (refused_of machine.consumer refusal step.0)
  index_kind _ next step = absurd step

  pub one_index : IfSome machine.consumer IsTyped → (one other : Reply) (next after : Machine) → IndexStep machine name texts one next → IndexStep machine name texts other after → SaysOne one other × (next ≡ after)
  one_index typed one other next after step also =
      of_once machine.consumer typed (one, next) (other, after) (index_kind one next step) (index_kind other after also)
