-- The records and keys of a change are read one after another.
use Rattle.std.proofs.Common.{◌≡◌, ℕ, ◌+◌, ◌≤◌, List, [], ◌∷◌, ◌++◌, take, drop, length, Option, Result, Some, Ok, Err, refl, sym, ap, ◌∙◌, subst, append_assoc, append-nil}
use Rattle.std.specs.Prelude.{All, IsOk, IsSomeAnd, ⊤, slice_get}
use Rattle.std.specs.List.{flat_map}
use Rattle.std.specs.Result.{is_ok}
use Rattle.std.proofs.lemmas.List.Elements.{All-cons, All-nil}
use Rattle.serde_json.specs.Data.{Data}
use Rattle.schema_model.specs.declared.reason.Reason.{Reason}
use Rattle.schema_model.specs.declared.schema.Schema.{Schema}
use Rattle.row_model.specs.PlainTree.{PlainTree}
use Rattle.record_json.specs.ReadTree.{read_tree}
use Rattle.record_trees.specs.Tree.{plain}
use Rattle.record_trees.specs.declared.tree.Tree.{Tree}
use Rattle.hol_incremental.specs.Changes.{records}
use Rattle.hol_answers.specs.declared.refusal.Refusal.{Refusal}
use Rattle.hol_answers.specs.declared.refusal.Refusal.TheVariants as refusal
use Rattle.hollow_machine.specs.ChangeOrder.{IsOfName}
use Rattle.hollow_machine.specs.Records.{AreRead, Entry, IsFirstUnread, entries, entries_at, entries_of_type, placed, values_under}
use Rattle.producer_orders.specs.declared.cycle_end.CycleEnd.{CycleEnd}
use Rattle.producer_orders.specs.declared.cycle_end.CycleEnd.TheVariants as cycle_end
use Rattle.change_orders.specs.Reading.{HaveRead, IsUnread, TellsBehind, TellsRead}
use Rattle.producer_orders.proofs.Placed.{entry_at, front_entries, types_all, types_more, types_rest, values_all, values_more, values_rest}

-- a record more gives its tree
read_more : (schemas : List Schema) (recorded : List Entry) (trees : List (ℕ × PlainTree)) (t place : ℕ) (value : Data) (tree : PlainTree) → AreRead schemas recorded trees → read_tree schemas t value ≡ Ok tree
    → AreRead schemas (recorded ++ entry_at t place value ∷ []) (trees ++ (t, tree) ∷ [])
read_more schemas [] [] t place value tree read gives = ((refl, gives), tt)
read_more schemas [] (y ∷ ys) t place value tree read gives = absurd read
read_more schemas (x ∷ xs) [] t place value tree read gives = absurd read
read_more schemas (x ∷ xs) (y ∷ ys) t place value tree read gives = (read.0, read_more schemas xs ys t place value tree read.1 gives)

records_more : (found : List (ℕ × Tree)) (t : ℕ) (tree : Tree) → records (found ++ (t, tree) ∷ []) ≡ records found ++ (t, plain tree) ∷ []
records_more [] t tree = refl
records_more (one ∷ found) t tree = ap (λ rest. (one.0, plain one.1) ∷ rest) (records_more found t tree)

module _ (schemas : List Schema) (t : ℕ) (values : List Data) (before : List Entry) where
  -- the records before a place, and that at the place
  pub one_more : (found : List (ℕ × Tree)) (place : ℕ) (value : Data) (tree : Tree) → slice_get values place ≡ Some value → read_tree schemas t value ≡ Ok (plain tree)
      → AreRead schemas (before ++ take place (entries_at t values)) (records found) → AreRead schemas (before ++ take (place + 1) (entries_at t values)) (records (found ++ (t, tree) ∷ []))
  one_more found place value tree at gives read =
      let more = read_more schemas (before ++ take place (entries_at t values)) (records found) t place value (plain tree) read gives in
      let behind : before ++ take (place + 1) (entries_at t values) ≡ (before ++ take place (entries_at t values)) ++ entry_at t place value ∷ [] =
      ap (λ es. before ++ es) (values_more t values place value at) ∙ sym (append_assoc before (take place (entries_at t values)) (entry_at t place value ∷ [])) in
      subst (λ es. AreRead schemas es (records (found ++ (t, tree) ∷ []))) (sym behind) (subst (AreRead schemas ((before ++ take place (entries_at t values)) ++ entry_at t place value ∷ [])) (sym (records_more found t tree)) more)

  pub all_read : (found : List (ℕ × Tree)) (place : ℕ) → length values ≤ place → AreRead schemas (before ++ take place (entries_at t values)) (records found) → AreRead schemas (before ++ entries_at t values) (records found)
  all_read found place past read = subst (λ es. AreRead schemas (before ++ es) (records found)) (values_all t values place past) read

  -- the record at a place is the first that gives no tree
  pub first_unread : (found : List (ℕ × Tree)) (place : ℕ) (value : Data) (reason : Reason) → slice_get values place ≡ Some value → read_tree schemas t value ≡ Err reason
      → AreRead schemas (before ++ take place (entries_at t values)) (records found) → IsFirstUnread schemas (before ++ entries_at t values) t place reason
  first_unread found place value reason at gives read = record {
    before = before ++ take place (entries_at t values);
    value = value;
    rest = drop (place + 1) (entries_at t values);
    split = split;
    read = all_ok (before ++ take place (entries_at t values)) (records found) read;
    unread = gives;
  }
    where
      all_ok : (recorded : List Entry) (trees : List (ℕ × PlainTree)) → AreRead schemas recorded trees → All (λ entry. IsOk (read_tree schemas entry.type_index entry.value)) recorded
      all_ok [] [] read = All-nil (λ entry. IsOk (read_tree schemas entry.type_index entry.value))
      all_ok [] (y ∷ ys) read = absurd read
      all_ok (x ∷ xs) [] read = absurd read
      all_ok (x ∷ xs) (y ∷ ys) read = All-cons (λ entry. IsOk (read_tree schemas entry.type_index entry.value)) x xs (ap is_ok read.0.1) (all_ok xs ys read.1)

      split : before ++ entries_at t values ≡ (before ++ take place (entries_at t values)) ++ entry_at t place value ∷ drop (place + 1) (entries_at t values)
      split =
          ap (λ es. before ++ es) (sym (values_rest t values (place + 1)) ∙ ap (λ es. es ++ drop (place + 1) (entries_at t values)) (values_more t values place value at))
          ∙ ap (λ es. before ++ es) (append_assoc (take place (entries_at t values)) (entry_at t place value ∷ []) (drop (place + 1) (entries_at t values)))
          ∙ sym (append_assoc before (take place (entries_at t values)) (entry_at t place value ∷ drop (place + 1) (entries_at t values)))

-- none was read yet behind others
pub from_first : (schemas : List Schema) (before recorded : List Entry) (found : List (ℕ × Tree)) → HaveRead schemas before found → HaveRead schemas (before ++ take 0 recorded) found
from_first schemas before recorded found had = record { read = subst (λ es. AreRead schemas es (records found)) (sym (append-nil before)) had.read }

-- what is told of records that are a type's
pub tells_under : (schemas : List Schema) (before : List Entry) (t : ℕ) (values under : List Data) (found : List (ℕ × Tree)) (result : Result ⊤ CycleEnd) → values ≡ under
    → TellsBehind schemas (before ++ entries_at t values) found result → TellsBehind schemas (before ++ entries_at t under) found result
tells_under schemas before t values under found result same told = subst (λ (vs : List Data). TellsBehind schemas (before ++ entries_at t vs) found result) same told

-- a record that is the first to give no tree is so with more behind it
pub unread_more : (schemas : List Schema) (recorded rest all : List Entry) (t place : ℕ) (reason : Reason) → recorded ++ rest ≡ all → IsFirstUnread schemas recorded t place reason → IsFirstUnread schemas all t place reason
unread_more schemas recorded rest all t place reason is first = record {
  before = first.before;
  value = first.value;
  rest = first.rest ++ rest;
  split = sym is ∙ ap (λ es. es ++ rest) first.split ∙ append_assoc first.before (entry_at t place first.value ∷ first.rest) rest;
  read = first.read;
  unread = first.unread;
}

-- the records of the types before one, with those of the type
pub types_front : (schemas : List Schema) (given : Data) (t : ℕ) (schema : Schema) (values : List Data) (trees : List (ℕ × PlainTree)) → slice_get schemas t ≡ Some schema → values ≡ values_under given schema.name
    → AreRead schemas (front_entries schemas given t ++ entries_at t values) trees → AreRead schemas (front_entries schemas given (t + 1)) trees
types_front schemas given t schema values trees at are read = subst (λ es. AreRead schemas es trees) (sym (types_more schemas given t schema values at are)) read

pub types_read : (schemas : List Schema) (given : Data) (t : ℕ) (trees : List (ℕ × PlainTree)) → length schemas ≤ t → AreRead schemas (front_entries schemas given t) trees → AreRead schemas (entries schemas given) trees
types_read schemas given t trees past read = subst (λ es. AreRead schemas es trees) (types_all schemas given t past) read

pub type_unread : (schemas : List Schema) (given : Data) (t : ℕ) (schema : Schema) (values : List Data) (u place : ℕ) (reason : Reason) → slice_get schemas t ≡ Some schema → values ≡ values_under given schema.name
    → IsFirstUnread schemas (front_entries schemas given t ++ entries_at t values) u place reason → IsFirstUnread schemas (entries schemas given) u place reason
type_unread schemas given t schema values u place reason at are first =
    unread_more schemas (front_entries schemas given t ++ entries_at t values) (flat_map (entries_of_type given) (drop (t + 1) (placed schemas))) (entries schemas given) u place reason
    (ap (λ es. es ++ flat_map (entries_of_type given) (drop (t + 1) (placed schemas))) (sym (types_more schemas given t schema values at are)) ∙ types_rest schemas given (t + 1)) first

-- a type has its own name
pub named_at : (schemas : List Schema) (t : ℕ) (schema : Schema) (name : List ℕ) → slice_get schemas t ≡ Some schema → name ≡ schema.name → IsOfName schemas t name
named_at schemas t schema name at is = subst (λ (o : Option Schema). IsSomeAnd o (λ s. s.name ≡ name)) (sym at) (sym is)

-- a record of a type that gives no tree ends the reading of all
module _ (schemas : List Schema) (given : Data) (t : ℕ) (schema : Schema) (values : List Data) (at : slice_get schemas t ≡ Some schema) (are : values ≡ values_under given schema.name) where
  unread_type : (why : Refusal) → IsUnread schemas (front_entries schemas given t ++ entries_at t values) why → IsUnread schemas (entries schemas given) why
  unread_type (refusal.BadRecord fault) (u, name, first) = (u, name, type_unread schemas given t schema values u fault.index fault.reason at are first)
  unread_type _ is = absurd is

  pub read_end : (found : List (ℕ × Tree)) (end : CycleEnd) → TellsBehind schemas (front_entries schemas given t ++ entries_at t values) found (Err end) → TellsRead schemas (entries schemas given) (Err end)
  read_end found (cycle_end.Refused why) told = unread_type why told
  read_end found (cycle_end.Stopped stop) told = told
