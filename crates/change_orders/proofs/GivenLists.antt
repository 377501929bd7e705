-- The lists of a change from what is tried and read of it.
use Rattle.std.proofs.Common.{◌≡◌, ◌<◌, ◌≤◌, ◌+◌, ℕ, List, [], ◌∷◌, length, map, Err, sym, subst, arith}
use Rattle.std.specs.Prelude.{All}
use Rattle.std.specs.List.{AllZip, flat_map, range_with_len, zip}
use Rattle.std.proofs.lemmas.List.Elements.{All-append, All-cons, All-head, All-nil, All-tail}
use Rattle.serde_json.specs.Data.{Data, object}
use Rattle.schema_model.specs.Model.{IsModel}
use Rattle.schema_model.specs.declared.schema.Schema.{Schema}
use Rattle.row_model.specs.PlainTree.{PlainTree}
use Rattle.record_json.proofs.Fitting.{within_fits}
use Rattle.record_trees.specs.FitsTree.{FitsTree}
use Rattle.record_trees.specs.declared.tree.Tree.{Tree}
use Rattle.hol_incremental.specs.Changes.{AreFitting, HaveKeys, HaveOwnKeys, records}
use Rattle.hol_incremental.specs.Edited.{Keys}
use Rattle.hol_orders.specs.Parts.{AskedChange}
use Rattle.hol_orders.specs.Shapes.{AreKeys}
use Rattle.hol_answers.specs.declared.refusal.Refusal.{Refusal}
use Rattle.hol_answers.specs.declared.refusal.Refusal.TheVariants as refusal
use Rattle.hollow_machine.specs.ChangeOrder.{AreAllKeyed, ArePut, IsNoChange}
use Rattle.hollow_machine.specs.Records.{AreRead, Entry, GivesTree, SpellsKeys, entries, entries_of_type, values_under}
use Rattle.producer_orders.specs.Ends.{IsMemory, TellsEnd}
use Rattle.producer_orders.specs.declared.cycle_end.CycleEnd.{CycleEnd}
use Rattle.producer_orders.specs.declared.cycle_end.CycleEnd.TheVariants as cycle_end
use Rattle.producer_orders.proofs.Placed.{entry_at}
use Rattle.change_orders.specs.Given.{IsAnObject}
use Rattle.change_orders.specs.Making.{AreLists}
use Rattle.change_orders.specs.Reading.{IsUnread}
use Rattle.change_orders.proofs.ReadKeys.{keyed_are}

-- ---- shapes

pub keys_object : (json : Data) → AreKeys json → IsAnObject json
keys_object (object parts) are = tt
keys_object _ are = absurd are

-- ---- the types of records that are read

low_values : (bound t k : ℕ) (values : List Data) → t < bound → All (λ (e : Entry). e.type_index < bound) (map (λ (at : ℕ × Data). entry_at t at.0 at.1) (zip (range_with_len k (length values)) values))
low_values bound t k [] below = All-nil (λ (e : Entry). e.type_index < bound)
low_values bound t k (value ∷ values) below =
    All-cons (λ (e : Entry). e.type_index < bound) (entry_at t k value) (map (λ (at : ℕ × Data). entry_at t at.0 at.1) (zip (range_with_len (k + 1) (length values)) values)) below (low_values bound t (k + 1) values below)

low_entries : (bound : ℕ) (json : Data) (from : ℕ) (schemas : List Schema) → from + length schemas ≤ bound → All (λ (e : Entry). e.type_index < bound) (flat_map (entries_of_type json) (zip (range_with_len from (length schemas)) schemas))
low_entries bound json from [] within = All-nil (λ (e : Entry). e.type_index < bound)
low_entries bound json from (schema ∷ schemas) within =
    All-append (λ (e : Entry). e.type_index < bound) (entries_of_type json (from, schema)) (flat_map (entries_of_type json) (zip (range_with_len (from + 1) (length schemas)) schemas))
    (low_values bound from 0 (values_under json schema.name) (omega (arith, within))) (low_entries bound json (from + 1) schemas (omega (arith, within)))

types_of : (schemas : List Schema) (bound : ℕ) (es : List Entry) (put : List (ℕ × Tree)) → All (λ (e : Entry). e.type_index < bound) es → AllZip (GivesTree schemas) es (records put) → All (λ (entry : ℕ × Tree). entry.0 < bound) put
types_of schemas bound es [] low read = All-nil (λ (entry : ℕ × Tree). entry.0 < bound)
types_of schemas bound [] (p ∷ put) low read = absurd read
types_of schemas bound (e ∷ es) (p ∷ put) low read =
    let first = All-head (λ (e : Entry). e.type_index < bound) e es low in
    let type = read.0.0 in
    All-cons (λ (entry : ℕ × Tree). entry.0 < bound) p put (omega (arith, first, type)) (types_of schemas bound es put (All-tail (λ (e : Entry). e.type_index < bound) e es low) read.1)

pub put_types : (schemas : List Schema) (json : Data) (put : List (ℕ × Tree)) → AreRead schemas (entries schemas json) (records put) → All (λ entry. entry.0 < length schemas) put
put_types schemas json put read = types_of schemas (length schemas) (entries schemas json) put (low_entries (length schemas) json 0 schemas (omega arith)) read

-- records that are read fit their types
pub put_fits : (schemas : List Schema) → IsModel schemas → (es : List Entry) (puts : List (ℕ × PlainTree)) → AreRead schemas es puts → AreFitting schemas puts
put_fits schemas model es [] read = All-nil (λ entry. FitsTree schemas entry.0 entry.1)
put_fits schemas model [] (p ∷ puts) read = absurd read
put_fits schemas model (e ∷ es) (p ∷ puts) read =
    All-cons (λ entry. FitsTree schemas entry.0 entry.1) p puts
    (subst (λ (t : ℕ). FitsTree schemas t p.1) (sym read.0.0) (within_fits schemas model 32 e.type_index e.value p.1 read.0.1)) (put_fits schemas model es puts read.1)

-- ---- the lists, or why there are none

pub unread_is : (schemas : List Schema) (asked : AskedChange) (why : Refusal) → AreAllKeyed schemas asked → IsUnread schemas (entries schemas asked.put) why → IsNoChange schemas asked why
unread_is schemas asked (refusal.BadRecord fault) keyed is = (keyed, is)
unread_is schemas asked _ keyed is = absurd is

module _ (schemas : List Schema) (asked : AskedChange) {T : Type 0} (Made : T → Type 0) where
  -- records that are not read end the lists
  pub unread_end : (end : CycleEnd) → AreAllKeyed schemas asked → {U : Type 0} (Read : U → Type 0) → TellsEnd {T = U} Read (IsUnread schemas (entries schemas asked.put)) IsMemory (Err end) → TellsEnd {T = T} Made (IsNoChange schemas asked) IsMemory (Err end)
  unread_end (cycle_end.Refused why) keyed Read told = unread_is schemas asked why keyed told
  unread_end (cycle_end.Stopped stop) keyed Read told = told

  -- keys that are none end the lists
  pub no_keys_end : (end : CycleEnd) (puts : List (ℕ × PlainTree)) → ArePut schemas asked puts → HaveKeys schemas puts → HaveOwnKeys schemas puts → {U : Type 0} (Read : U → Type 0)
      → TellsEnd {T = U} Read (λ why. (why ≡ refusal.BadKey) × ((removes : Keys) → SpellsKeys schemas asked.remove removes → ⊥)) IsMemory (Err end) → TellsEnd {T = T} Made (IsNoChange schemas asked) IsMemory (Err end)
  no_keys_end (cycle_end.Refused why) puts put keyed own Read told = subst (IsNoChange schemas asked) (sym told.0) (puts, put, keyed, own, told.1)
  no_keys_end (cycle_end.Stopped stop) puts put keyed own Read told = told

pub lists_are : (schemas : List Schema) (asked : AskedChange) (put : List (ℕ × Tree)) (remove : Keys) → IsModel schemas → ArePut schemas asked (records put) → HaveKeys schemas (records put) → HaveOwnKeys schemas (records put)
    → SpellsKeys schemas asked.remove remove → AreLists schemas asked put remove
lists_are schemas asked put remove model read keyed own keys = (
  record {
    put_types = read.0.1;
    remove_types = read.0.2;
    records = record { types = keyed_are schemas asked.put read.0.1; read = read.1 };
    keyed = keyed;
    own = own;
    keys = keys;
  },
  put_fits schemas model (entries schemas asked.put) (records put) read.1,
)
