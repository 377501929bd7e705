-- A record more is read, and added behind others.
use Rattle.std.proofs.Common.{◌≡◌, ℕ, ◌+◌, ◌≤◌, List, [], ◌∷◌, ◌++◌, take, drop, Bool, true, false, Some, Result, Ok, Err, inl, refl, sym, ap, ◌∙◌, subst, append_assoc, append-nil}
use Rattle.std.specs.Prelude.{IsOk, ◌<◌, length, slice_get}
use Rattle.std.specs.Result.{is_ok}
use Rattle.std.proofs.lemmas.List.Elements.{All-cons, All-nil}
use Rattle.std.specs.List.{All, AllZip, flat_map}
use Rattle.serde_json.specs.Data.{Data}
use Rattle.row_model.specs.PlainTree.{PlainTree}
use Rattle.row_model.specs.Table.{Table}
use Rattle.schema_model.specs.declared.reason.Reason.{Reason}
use Rattle.schema_model.specs.declared.schema.Schema.{Schema}
use Rattle.record_trees.specs.Tree.{plain}
use Rattle.record_trees.specs.declared.tree.Tree.{Tree}
use Rattle.json_values.specs.declared.fault.ValueFault.{ValueFault}
use Rattle.json_values.specs.declared.fault.ValueFault.TheVariants as field_fault
use Rattle.record_json.specs.ReadTree.{TellsAs, read_tree}
use Rattle.write_engine.specs.Agreement.{HoldsOnce, TablesAgree}
use Rattle.write_engine.specs.Cycle.{Adds, AddsRecords, no_rows}
use Rattle.write_engine.specs.Production.{Production}
use Rattle.write_engine.proofs.NextStates.{record_more}
use Rattle.write_engine.proofs.OneState.{next_is_one}
use Rattle.hollow_machine.specs.Records.{AreRead, Entry, IsFirstUnread, entries, entries_at, entries_of_type, placed, values_under}
use Rattle.producer_orders.specs.Parts.{AreAdded, TellsAdded, TellsRecords}
use Rattle.producer_orders.specs.declared.record_fault.RecordFault.{RecordFault}
use Rattle.producer_orders.specs.declared.record_fault.RecordFault.TheVariants as fault
use Rattle.producer_orders.proofs.Placed.{entry_at, front_entries, types_all, types_more, types_rest, values_all, values_more, values_rest}

-- records of which each gives a tree give some
all_ok : (give : Entry → Result PlainTree Reason) (recorded : List Entry) (trees : List (ℕ × PlainTree)) → AllZip (λ entry typed. (typed.0 ≡ entry.type_index) × (give entry ≡ Ok typed.1)) recorded trees → All (λ entry. IsOk (give entry)) recorded
all_ok give [] [] read = All-nil (λ entry. IsOk (give entry))
all_ok give [] (y ∷ ys) read = absurd read
all_ok give (x ∷ xs) [] read = absurd read
all_ok give (x ∷ xs) (y ∷ ys) read = All-cons (λ entry. IsOk (give entry)) x xs (ap is_ok read.0.1) (all_ok give xs ys read.1)

all_read : (schemas : List Schema) (recorded : List Entry) (trees : List (ℕ × PlainTree)) → AreRead schemas recorded trees → All (λ entry. IsOk (read_tree schemas entry.type_index entry.value)) recorded
all_read schemas recorded trees read = all_ok (λ entry. read_tree schemas entry.type_index entry.value) recorded trees read

-- what the same schemas read
pub same_reads : (ss schemas : List Schema) (t : ℕ) (value : Data) (read : Result PlainTree Reason) → ss ≡ schemas → read_tree ss t value ≡ read → read_tree schemas t value ≡ read
same_reads ss schemas t value read same reads = subst (λ (xs : List Schema). read_tree xs t value ≡ read) same reads

pub bad_reads : (schemas : List Schema) (t : ℕ) (value : Data) (reason : Reason) (refused : ValueFault) → refused ≡ field_fault.Field reason → TellsAs {A = Tree} plain (read_tree schemas t value) (Err refused) → read_tree schemas t value ≡ Err reason
bad_reads schemas t value reason refused is told = subst (λ (f : ValueFault). TellsAs {A = Tree} plain (read_tree schemas t value) (Err f)) is told

-- a record more gives its tree
read_more : (schemas : List Schema) (recorded : List Entry) (trees : List (ℕ × PlainTree)) (t place : ℕ) (value : Data) (tree : PlainTree) → AreRead schemas recorded trees → read_tree schemas t value ≡ Ok tree
    → AreRead schemas (recorded ++ entry_at t place value ∷ []) (trees ++ (t, tree) ∷ [])
read_more schemas [] [] t place value tree read gives = ((refl, gives), tt)
read_more schemas [] (y ∷ ys) t place value tree read gives = absurd read
read_more schemas (x ∷ xs) [] t place value tree read gives = absurd read
read_more schemas (x ∷ xs) (y ∷ ys) t place value tree read gives = (read.0, read_more schemas xs ys t place value tree read.1 gives)

-- the trees of records that were added, or that are too many
trees_of : (schemas : List Schema) (previous : Table) (done : List Entry) (rows : Table) (full : Bool) → AreAdded schemas previous done rows full → (trees : List (ℕ × PlainTree)) × AreRead schemas done trees
trees_of schemas previous done rows false added = (added.0, added.1)
trees_of schemas previous done rows true added = (added.0, added.1)

-- records that are added one after another: the last one is added behind the others
last_apart : (schemas : List Schema) (previous : Table) (records : List (ℕ × PlainTree)) (before after : Table) (t : ℕ) (tree : PlainTree) → AddsRecords schemas previous (records ++ (t, tree) ∷ []) before after
    → (middle : Table) × (ordinal : ℕ) × AddsRecords schemas previous records before middle × Adds schemas previous t tree middle ordinal after
last_apart schemas previous [] before after t tree adds =
    (before, adds.0, refl, subst (λ table. Adds schemas previous t tree before adds.0 table) (sym adds.3) adds.2)
last_apart schemas previous (x ∷ xs) before after t tree adds =
    let rest = last_apart schemas previous xs adds.1 after t tree adds.3 in
    (rest.0, rest.1, (adds.0, adds.1, adds.2, rest.2), rest.3)

-- a record that gives no tree, behind others that do
pub value_bad : (schemas : List Schema) (previous rows rows' : Table) (t place : ℕ) (value : Data) (full : Bool) (reason : Reason) → t < length schemas → read_tree schemas t value ≡ Err reason
    → (done : List Entry) → AreAdded schemas previous done rows full → TellsAdded schemas previous (done ++ entry_at t place value ∷ []) rows' (Err (fault.Bad t place reason))
value_bad schemas previous rows rows' t place value full reason within none done added =
    let given = trees_of schemas previous done rows full added in
    (within, record { before = done; value = value; rest = []; split = refl; read = all_read schemas done given.0 given.1; unread = none })

-- a record behind others that are too many
pub value_passed : (schemas : List Schema) (previous rows rows' : Table) (t place : ℕ) (value : Data) (full : Bool) (tree : PlainTree) → full ≡ true → read_tree schemas t value ≡ Ok tree
    → (done : List Entry) → AreAdded schemas previous done rows full → TellsAdded schemas previous (done ++ entry_at t place value ∷ []) rows' (Ok true)
value_passed schemas previous rows rows' t place value false tree is gives done added = absurd cc
value_passed schemas previous rows rows' t place value true tree is gives done added = (
  added.0 ++ (t, tree) ∷ [],
  read_more schemas done added.0 t place value tree added.1 gives,
  λ other makes. (let parts = last_apart schemas previous added.0 (no_rows (length schemas)) other t tree makes in
      added.2 parts.0 parts.2),
)

-- a record that is added behind others
pub value_added : (schemas : List Schema) (previous rows rows' : Table) (t place ordinal : ℕ) (value : Data) (full : Bool) (tree : PlainTree) → full ≡ false → read_tree schemas t value ≡ Ok tree
    → Adds schemas previous t tree rows ordinal rows'
    → (done : List Entry) → AreAdded schemas previous done rows full → TellsAdded schemas previous (done ++ entry_at t place value ∷ []) rows' (Ok false)
value_added schemas previous rows rows' t place ordinal value true tree is gives adds done added = absurd cc
value_added schemas previous rows rows' t place ordinal value false tree is gives adds done added = (
  added.0 ++ (t, tree) ∷ [],
  read_more schemas done added.0 t place value tree added.1 gives,
  record_more schemas previous added.0 (no_rows (length schemas)) rows rows' t tree ordinal added.2 adds,
)

-- a record that cannot be added behind others
pub value_too_many : (schemas : List Schema) (previous rows rows' : Table) (t place : ℕ) (value : Data) (full : Bool) (tree : PlainTree) → HoldsOnce previous → full ≡ false → read_tree schemas t value ≡ Ok tree
    → ((ordinal : ℕ) (after : Table) → ¬ Adds schemas previous t tree rows ordinal after)
    → (done : List Entry) → AreAdded schemas previous done rows full → TellsAdded schemas previous (done ++ entry_at t place value ∷ []) rows' (Ok true)
value_too_many schemas previous rows rows' t place value true tree once is gives none done added = absurd cc
value_too_many schemas previous rows rows' t place value false tree once is gives none done added = (
  added.0 ++ (t, tree) ∷ [],
  read_more schemas done added.0 t place value tree added.1 gives,
  λ other makes. (let parts = last_apart schemas previous added.0 (no_rows (length schemas)) other t tree makes in
      let same = next_is_one schemas previous parts.0 rows added.0 once parts.2 added.2 in
      none parts.1 other (subst (λ table. Adds schemas previous t tree table parts.1 other) same parts.3)),
)

-- a record that gives no tree is the first one also where more records come
unread_more : (schemas : List Schema) (some more : List Entry) (t place : ℕ) (reason : Reason) → IsFirstUnread schemas some t place reason → IsFirstUnread schemas (some ++ more) t place reason
unread_more schemas some more t place reason first = record {
  before = first.before;
  value = first.value;
  rest = first.rest ++ more;
  split = ap (λ es. es ++ more) first.split ∙ append_assoc first.before (entry_at t place first.value ∷ first.rest) more;
  read = first.read;
  unread = first.unread;
}

pub fault_more : (schemas : List Schema) (previous rows rows' : Table) (some more all : List Entry) (refused : RecordFault) → some ++ more ≡ all → TellsAdded schemas previous some rows (Err refused)
    → TellsAdded schemas previous all rows' (Err refused)
fault_more schemas previous rows rows' some more all (fault.Bad t place reason) are first =
    (first.0, subst (λ es. IsFirstUnread schemas es t place reason) are (unread_more schemas some more t place reason first.1))
fault_more schemas previous rows rows' some more all fault.TooMany are first = absurd first
fault_more schemas previous rows rows' some more all fault.Memory are first = tt

-- what a refusal of some records tells of all
pub refused_tells : (schemas : List Schema) (previous rows : Table) (recorded : List Entry) (refused : RecordFault) → TellsAdded schemas previous recorded rows (Err refused) → TellsRecords schemas previous recorded rows (Err refused)
refused_tells schemas previous rows recorded (fault.Bad t place reason) first = first
refused_tells schemas previous rows recorded fault.TooMany first = absurd first
refused_tells schemas previous rows recorded fault.Memory first = tt

-- what is kept of a previous state that agrees with another one
pub holds_once : (previous current : Table) → TablesAgree previous current → HoldsOnce previous
holds_once previous current agree = record {
  once = λ t a b row here there. (agree t).one_ordinal row a b (inl here) (inl there);
  low = λ t ordinal live. (agree t).low ordinal (inl live);
}

-- The records of a type before a place were added, behind those before another place and behind others.
pub record HasAdded (t : ℕ) (values : List Data) (before now : Production) (full_before full : Bool) (from place : ℕ) : Type 0 where
  pub kept : now ≡ record before { current = now.current }
  pub added : (done : List Entry) → AreAdded before.schemas before.previous (done ++ take from (entries_at t values)) before.current full_before
      → AreAdded before.schemas before.previous (done ++ take place (entries_at t values)) now.current full

-- others, with none of the records of a type behind them
pub none_behind : (schemas : List Schema) (previous rows : Table) (full : Bool) (done recorded : List Entry) → AreAdded schemas previous done rows full → AreAdded schemas previous (done ++ take 0 recorded) rows full
none_behind schemas previous rows full done recorded had = subst (λ (es : List Entry). AreAdded schemas previous es rows full) (sym (append-nil done)) had

-- The records of so many types were added.
pub record HasAddedTypes (add : Data) (before now : Production) (full : Bool) (t : ℕ) : Type 0 where
  pub kept : now ≡ record before { current = now.current }
  pub added : AreAdded before.schemas before.previous (front_entries before.schemas add t) now.current full

-- what is told over a producer is told over the one that it came from
pub told_before : (before now : Production) (done : List Entry) (rows rows' : Table) (all : List Entry) (full : Bool) (result : Result Bool RecordFault) → now ≡ record before { current = now.current }
    → (AreAdded now.schemas now.previous done rows full → TellsAdded now.schemas now.previous all rows' result)
    → AreAdded before.schemas before.previous done rows full → TellsAdded before.schemas before.previous all rows' result
told_before before now done rows rows' all full result kept tells =
    subst (λ (p : Production). AreAdded p.schemas p.previous done rows full → TellsAdded p.schemas p.previous all rows' result) kept tells

pub kept_both : (before now after : Production) → now ≡ record before { current = now.current } → after ≡ record now { current = after.current } → after ≡ record before { current = after.current }
kept_both before now after kept also = also ∙ ap (λ (p : Production). record p { current = after.current }) kept

pub values_step : (t : ℕ) (values : List Data) (before now after : Production) (full_before full full' : Bool) (from place : ℕ) (value : Data) → slice_get values place ≡ Some value
    → HasAdded t values before now full_before full from place → after ≡ record now { current = after.current }
    → ((done : List Entry) → AreAdded now.schemas now.previous done now.current full → TellsAdded now.schemas now.previous (done ++ entry_at t place value ∷ []) after.current (Ok full'))
    → HasAdded t values before after full_before full' from (place + 1)
values_step t values before now after full_before full full' from place value at so_far kept tells = record {
  kept = kept_both before now after so_far.kept kept;
  added = λ done had.
      (let some = take place (entries_at t values) in
      let one = told_before before now (done ++ some) now.current after.current ((done ++ some) ++ entry_at t place value ∷ []) full (Ok full') so_far.kept (tells (done ++ some)) (so_far.added done had) in
      subst (λ es. AreAdded before.schemas before.previous es after.current full') (append_assoc done some (entry_at t place value ∷ []) ∙ ap (λ es. done ++ es) (sym (values_more t values place value at))) one);
}

pub values_stop : (t : ℕ) (values : List Data) (before now after : Production) (full_before full : Bool) (from place : ℕ) (value : Data) (refused : RecordFault) → slice_get values place ≡ Some value
    → HasAdded t values before now full_before full from place
    → ((done : List Entry) → AreAdded now.schemas now.previous done now.current full → TellsAdded now.schemas now.previous (done ++ entry_at t place value ∷ []) after.current (Err refused))
    → (done : List Entry) → AreAdded before.schemas before.previous (done ++ take from (entries_at t values)) before.current full_before
    → TellsAdded before.schemas before.previous (done ++ entries_at t values) after.current (Err refused)
values_stop t values before now after full_before full from place value refused at so_far tells done had =
    let some = take place (entries_at t values) in
    let one = told_before before now (done ++ some) now.current after.current ((done ++ some) ++ entry_at t place value ∷ []) full (Err refused) so_far.kept (tells (done ++ some)) (so_far.added done had) in
    fault_more before.schemas before.previous after.current after.current ((done ++ some) ++ entry_at t place value ∷ []) (drop (place + 1) (entries_at t values)) (done ++ entries_at t values) refused
    (ap (λ es. es ++ drop (place + 1) (entries_at t values)) (append_assoc done some (entry_at t place value ∷ []) ∙ ap (λ es. done ++ es) (sym (values_more t values place value at)))
    ∙ append_assoc done (take (place + 1) (entries_at t values)) (drop (place + 1) (entries_at t values)) ∙ ap (λ es. done ++ es) (values_rest t values (place + 1))) one

pub values_end : (t : ℕ) (values : List Data) (before now : Production) (full_before full : Bool) (from place : ℕ) → length values ≤ place → HasAdded t values before now full_before full from place
    → (done : List Entry) → AreAdded before.schemas before.previous (done ++ take from (entries_at t values)) before.current full_before
    → TellsAdded before.schemas before.previous (done ++ entries_at t values) now.current (Ok full)
values_end t values before now full_before full from place past so_far done had =
    subst (λ es. AreAdded before.schemas before.previous (done ++ es) now.current full) (values_all t values place past) (so_far.added done had)

pub types_step : (add : Data) (before now after : Production) (full full' : Bool) (t : ℕ) (schema : Schema) (values : List Data) → slice_get now.schemas t ≡ Some schema → values ≡ values_under add schema.name
    → HasAddedTypes add before now full t → after ≡ record now { current = after.current }
    → ((done : List Entry) → AreAdded now.schemas now.previous done now.current full → TellsAdded now.schemas now.previous (done ++ entries_at t values) after.current (Ok full'))
    → HasAddedTypes add before after full' (t + 1)
types_step add before now after full full' t schema values at are so_far kept tells =
    let at_before : slice_get before.schemas t ≡ Some schema = sym (ap (λ (p : Production). slice_get p.schemas t) so_far.kept) ∙ at in
    record {
      kept = kept_both before now after so_far.kept kept;
      added = subst (λ es. AreAdded before.schemas before.previous es after.current full') (sym (types_more before.schemas add t schema values at_before are))
          (told_before before now (front_entries before.schemas add t) now.current after.current (front_entries before.schemas add t ++ entries_at t values) full (Ok full') so_far.kept (tells (front_entries before.schemas add t)) so_far.added);
    }

pub types_stop : (add : Data) (before now after : Production) (full : Bool) (t : ℕ) (schema : Schema) (values : List Data) (refused : RecordFault) → slice_get now.schemas t ≡ Some schema → values ≡ values_under add schema.name
    → HasAddedTypes add before now full t
    → ((done : List Entry) → AreAdded now.schemas now.previous done now.current full → TellsAdded now.schemas now.previous (done ++ entries_at t values) after.current (Err refused))
    → TellsAdded before.schemas before.previous (entries before.schemas add) after.current (Err refused)
types_stop add before now after full t schema values refused at are so_far tells =
    let at_before : slice_get before.schemas t ≡ Some schema = sym (ap (λ (p : Production). slice_get p.schemas t) so_far.kept) ∙ at in
    let front = front_entries before.schemas add t in
    let rest = flat_map (entries_of_type add) (drop (t + 1) (placed before.schemas)) in
    fault_more before.schemas before.previous after.current after.current (front ++ entries_at t values) rest (entries before.schemas add) refused
    (ap (λ es. es ++ rest) (sym (types_more before.schemas add t schema values at_before are)) ∙ types_rest before.schemas add (t + 1))
    (told_before before now front now.current after.current (front ++ entries_at t values) full (Err refused) so_far.kept (tells front) so_far.added)

pub types_end : (add : Data) (before now : Production) (full : Bool) (t : ℕ) → length before.schemas ≤ t → HasAddedTypes add before now full t
    → TellsAdded before.schemas before.previous (entries before.schemas add) now.current (Ok full)
types_end add before now full t past so_far = subst (λ es. AreAdded before.schemas before.previous es now.current full) (types_all before.schemas add t past) so_far.added
