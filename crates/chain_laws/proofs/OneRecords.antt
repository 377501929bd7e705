-- The records of a cycle give trees in one way, or are refused in one.
use Rattle.std.proofs.Common.{◌≡◌, ◌⊎◌, inl, inr, ℕ, List, [], ◌∷◌, ◌++◌, Ok, Err, refl, sym, ap, subst, ◌∙◌}
use Rattle.std.specs.Prelude.{All, IsOk, IsSome, IsSomeAnd, slice_get}
use Rattle.std.specs.List.{AllZip}
use Rattle.std.proofs.lemmas.List.Elements.{All-cons, All-head, All-nil, All-tail}
use Rattle.serde_json.specs.Data.{Data}
use Rattle.schema_model.specs.declared.model.path.Path.{Path}
use Rattle.schema_model.specs.declared.model.rule.Rule.TheVariants.{DuplicateName}
use Rattle.schema_model.specs.declared.reason.Reason.{Reason}
use Rattle.schema_model.specs.declared.schema.Schema.{Schema}
use Rattle.schema_model.specs.Model.{IsKept}
use Rattle.schema_model.specs.Parts.{index_of_type}
use Rattle.row_model.specs.declared.row.Value.{Value}
use Rattle.row_model.specs.PlainTree.{PlainTree}
use Rattle.json_values.specs.KeyFrom.{SpellsKey}
use Rattle.record_json.specs.ReadTree.{read_tree}
use Rattle.hol_incremental.specs.Edited.{IsEdited, Keys, Records}
use Rattle.hol_incremental.proofs.EditedOnce.{edited_once}
use Rattle.hol_incremental.proofs.FoundPaths.{paths_once}
use Rattle.hollow_machine.specs.Records.{Adding, AreRead, AreTypes, Entry, GivesKey, GivesNoTrees, GivesTree, GivesTrees, IsFirstUnknown, IsFirstUnread, IsSpelledAnd, edited, entries, given, spelled}
use Rattle.hol_answers.specs.declared.refusal.Refusal.{Refusal}
use Rattle.hol_answers.specs.declared.refusal.Refusal.TheVariants as refused
use Rattle.hol_answers.specs.Refusal.{bad_record}
use Rattle.state_blobs.specs.Published.{Published}
use Rattle.chain_laws.proofs.OneKey.{key_once}
use Rattle.chain_laws.proofs.PrintedOnce.{each_once}
use Rattle.chain_laws.proofs.StoreNames.{name_once}

-- ---- the first of a list for which something does not hold

pub first_one : {A : Type 0} (P : A → Type 0) (before other : List A) (x y : A) (rest more : List A) → All P before → All P other → (P x → ⊥) → (P y → ⊥) → before ++ (x ∷ rest) ≡ other ++ (y ∷ more) → x ≡ y
first_one P [] [] x y rest more all also not nor same = cc
first_one P [] (b ∷ other) x y rest more all also not nor same = let here : b ≡ x = cc in absurd (not (subst P here (All-head P b other also)))
first_one P (a ∷ before) [] x y rest more all also not nor same = let here : a ≡ y = cc in absurd (nor (subst P here (All-head P a before all)))
first_one P (a ∷ before) (b ∷ other) x y rest more all also not nor same =
    let tails : before ++ (x ∷ rest) ≡ other ++ (y ∷ more) = cc in
    first_one P before other x y rest more (All-tail P a before all) (All-tail P b other also) not nor tails

pub in_all : {A : Type 0} (P : A → Type 0) (before : List A) (x : A) (rest : List A) → All P (before ++ (x ∷ rest)) → P x
in_all P [] x rest all = All-head P x rest all
in_all P (a ∷ before) x rest all = in_all P before x rest (All-tail P a (before ++ (x ∷ rest)) all)

-- ---- the records of a cycle

module _ (schemas : List Schema) (add : Data) where
  abbrev recorded : List Entry
  recorded = entries schemas add

  tree_one : (entry : Entry) (a b : ℕ × PlainTree) → GivesTree schemas entry a → GivesTree schemas entry b → a ≡ b
  tree_one entry a b one other =
      let index = one.0 ∙ sym other.0 in
      let both : Ok a.1 ≡ Ok b.1 = sym one.1 ∙ other.1 in
      let tree : a.1 ≡ b.1 = cc in
      λ i. (index i, tree i)

  pub trees_one : (trees others : List (ℕ × PlainTree)) → AreRead schemas recorded trees → AreRead schemas recorded others → trees ≡ others
  trees_one trees others one other = each_once (GivesTree schemas) tree_one recorded trees others one other

  pub no_tree : (trees : List (ℕ × PlainTree)) (type_index place : ℕ) (reason : Reason) → AreRead schemas recorded trees → IsFirstUnread schemas recorded type_index place reason → ⊥
  no_tree trees type_index place reason read first =
      let all : All (λ (entry : Entry). IsOk (read_tree schemas entry.type_index entry.value)) recorded = each_ok recorded trees read in
      let ok : IsOk (read_tree schemas type_index first.value) =
      in_all (λ (entry : Entry). IsOk (read_tree schemas entry.type_index entry.value)) first.before (record { type_index = type_index; place = place; value = first.value }) first.rest
      (subst (λ (es : List Entry). All (λ (entry : Entry). IsOk (read_tree schemas entry.type_index entry.value)) es) first.split all) in
      let bad = subst IsOk first.unread ok in absurd cc
    where
      each_ok : (es : List Entry) (ts : List (ℕ × PlainTree)) → AllZip (GivesTree schemas) es ts → All (λ (entry : Entry). IsOk (read_tree schemas entry.type_index entry.value)) es
      each_ok [] [] are = All-nil (λ (entry : Entry). IsOk (read_tree schemas entry.type_index entry.value))
      each_ok [] (t ∷ ts) are = absurd are
      each_ok (e ∷ es) [] are = absurd are
      each_ok (e ∷ es) (t ∷ ts) are =
          All-cons (λ (entry : Entry). IsOk (read_tree schemas entry.type_index entry.value)) e es (subst IsOk (sym are.0.1) refl) (each_ok es ts are.1)

  pub no_type : (name : List ℕ) → AreTypes schemas add → IsFirstUnknown schemas add name → ⊥
  no_type name types first =
      let known = in_all (λ (n : List ℕ). IsSome (index_of_type schemas n)) first.before name first.rest
      (subst (λ (names : List (List ℕ)). All (λ (n : List ℕ). IsSome (index_of_type schemas n)) names) first.split types) in
      let bad = subst IsSome first.unknown known in absurd cc

  pub unknown_one : (a b : List ℕ) → IsFirstUnknown schemas add a → IsFirstUnknown schemas add b → a ≡ b
  unknown_one a b one other =
      first_one (λ (n : List ℕ). IsSome (index_of_type schemas n)) one.before other.before a b one.rest other.rest one.known other.known
      (λ known. (let bad = subst IsSome one.unknown known in absurd cc)) (λ known. (let bad = subst IsSome other.unknown known in absurd cc)) (sym one.split ∙ other.split)

  unread_one : (t u place other_place : ℕ) (reason why_too : Reason) → IsFirstUnread schemas recorded t place reason → IsFirstUnread schemas recorded u other_place why_too
      → (t ≡ u) × (place ≡ other_place) × (reason ≡ why_too)
  unread_one t u place other_place reason why_too one other =
      let same = first_one (λ (entry : Entry). IsOk (read_tree schemas entry.type_index entry.value)) one.before other.before
      (record { type_index = t; place = place; value = one.value }) (record { type_index = u; place = other_place; value = other.value }) one.rest other.rest one.read other.read
      (λ ok. (let bad = subst IsOk one.unread ok in absurd cc)) (λ ok. (let bad = subst IsOk other.unread ok in absurd cc)) (sym one.split ∙ other.split) in
      let both : Err reason ≡ Err why_too = sym one.unread ∙ ap (λ (e : Entry). read_tree schemas e.type_index e.value) same ∙ other.unread in
      (ap (λ (e : Entry). e.type_index) same, ap (λ (e : Entry). e.place) same, cc)

-- ---- the keys that a change removes

module _ (schemas : List Schema) (names : IsKept schemas DuplicateName) where
  pub removed_one : (entry : Entry) (a b : ℕ × List Value) → GivesKey schemas entry a → GivesKey schemas entry b → a ≡ b
  removed_one entry a b (index, (paths, are, spells)) (also, (others, are_too, spells_too)) =
      let same = paths_once schemas names entry.type_index paths others are are_too in
      let key = key_once schemas paths entry.value a.1 b.1 spells (subst (λ (ps : List Path). SpellsKey schemas ps entry.value b.1) (sym same) spells_too) in
      let at = index ∙ sym also in
      λ i. (at i, key i)

-- ---- the records that a cycle adds

module _ (schemas : List Schema) where
  abbrev pub Unread : Data → Refusal → Type 0
  Unread add refusal =
      (name : List ℕ) × (place : ℕ) × (reason : Reason) × (refusal ≡ bad_record name place reason)
      × ((t : ℕ) × IsSomeAnd (slice_get schemas t) (λ (s : Schema). s.name ≡ name) × IsFirstUnread schemas (entries schemas add) t place reason)

  abbrev Unknown : Data → Refusal → Type 0
  Unknown add refusal = (name : List ℕ) × (refusal ≡ refused.NoType name) × IsFirstUnknown schemas add name

  -- why the records give no trees
  abbrev pub NoTrees : Adding → Refusal → Type 0
  NoTrees add refusal = IsSpelledAnd add (λ json. Unknown json refusal ⊎ (AreTypes schemas json × Unread json refusal))

  pub no_trees : (add : Adding) (refusal : Refusal) → GivesNoTrees schemas add refusal → NoTrees add refusal
  no_trees (spelled add) (refused.NoType name) is = inl (name, refl, is)
  no_trees (spelled add) (refused.BadRecord fault) is = inr (is.0, (fault.type_name, fault.index, fault.reason, refl, is.1))
  no_trees (spelled add) _ is = absurd is
  no_trees (given records) (refused.NoType name) is = absurd is
  no_trees (given records) (refused.BadRecord fault) is = absurd is
  no_trees (given records) _ is = absurd is
  no_trees (edited put remove) (refused.NoType name) is = absurd is
  no_trees (edited put remove) (refused.BadRecord fault) is = absurd is
  no_trees (edited put remove) _ is = absurd is

  pub unread_same : (add : Data) (r s : Refusal) → Unread add r → Unread add s → r ≡ s
  unread_same add r s (name, place, reason, is, (t, named, first)) (other, place_too, reason_too, is_too, (u, named_too, first_too)) =
      let same = unread_one schemas add t u place place_too reason reason_too first first_too in
      let names = name_once (slice_get schemas u) name other (subst (λ k. IsSomeAnd (slice_get schemas k) (λ (s : Schema). s.name ≡ name)) same.0 named) named_too in
      is ∙ (λ i. bad_record (names i) (same.1 i) (same.2 i)) ∙ sym is_too

  pub no_trees_one : (add : Adding) (r s : Refusal) → NoTrees add r → NoTrees add s → r ≡ s
  no_trees_one (spelled add) r s (inl (name, is, first)) (inl (other, is_too, first_too)) = is ∙ ap (λ n. refused.NoType n) (unknown_one schemas add name other first first_too) ∙ sym is_too
  no_trees_one (spelled add) r s (inl (name, is, first)) (inr (types, unread)) = absurd (no_type schemas add name types first)
  no_trees_one (spelled add) r s (inr (types, unread)) (inl (name, is, first)) = absurd (no_type schemas add name types first)
  no_trees_one (spelled add) r s (inr (types, unread)) (inr (types_too, also)) = unread_same add r s unread also
  no_trees_one (given records) r s none also = absurd none
  no_trees_one (edited put remove) r s none also = absurd none

module _ (last : Published) where
  pub no_trees_apart : (add : Adding) (r : Refusal) (trees : List (ℕ × PlainTree)) → GivesTrees last add trees → NoTrees last.model add r → ⊥
  no_trees_apart (spelled add) r trees gives (inl (name, is, first)) = no_type last.model add name gives.types first
  no_trees_apart (spelled add) r trees gives (inr (types, (name, place, reason, is, (t, named, first)))) = no_tree last.model add trees t place reason gives.read first
  no_trees_apart (given records) r trees gives none = none
  no_trees_apart (edited put remove) r trees gives none = none

  -- the records give trees in one way
  pub given_one : IsKept last.model DuplicateName → (add : Adding) (trees others : List (ℕ × PlainTree)) → GivesTrees last add trees → GivesTrees last add others → trees ≡ others
  given_one names (spelled add) trees others gives also = trees_one last.model add trees others gives.read also.read
  given_one names (given records) trees others gives also = gives ∙ sym also
  given_one names (edited put remove) trees others (puts, removes, spells, edits) (puts_too, removes_too, spells_too, edits_too) =
      let same = trees_one last.model put puts puts_too spells.records.read spells_too.records.read in
      let keys = each_once (GivesKey last.model) (removed_one last.model names) (entries last.model remove) removes removes_too spells.keys.read spells_too.keys.read in
      edited_once last.model last.rows puts removes trees others edits
      (subst (λ (ps : Records). IsEdited last.model last.rows ps removes others) (sym same) (subst (λ (ks : Keys). IsEdited last.model last.rows puts_too ks others) (sym keys) edits_too))
