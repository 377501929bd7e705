-- The records that are read from a line one by one, and added behind others.
use Rattle.std.proofs.Common.{◌≡◌, ◌∙◌, ℕ, ◌+◌, ◌≤◌, List, [], ◌∷◌, ◌++◌, length, take, drop, Bool, Option, Some, None, Result, Ok, Err, refl, sym, ap, subst, arith, length-drop}
use Rattle.std.specs.Prelude.{slice_get}
use Rattle.std.specs.Option.{option_and_then, option_map_or}
use Rattle.json.specs.Token.{Token}
use Rattle.serde_json.specs.Data.{Data, array}
use Rattle.serde_json.specs.Find.{as_array, get}
use Rattle.serde_json.specs.View.{items_of, view}
use Rattle.serde_json.specs.declared.value.Value.{Value}
use Rattle.record_stream.specs.RecordLine.{TellsRecords}
use Rattle.record_stream.specs.Records.{AreAhead, TellsRecord}
use Rattle.record_stream.proofs.Ahead.{at_front, past_end}
use Rattle.schema_model.specs.declared.schema.Schema.{Schema}
use Rattle.row_model.specs.Table.{Table}
use Rattle.row_model.specs.PlainTree.{PlainTree}
use Rattle.record_tokens.specs.Next.{IsReadAs, IsRecordOf, TellsTree}
use Rattle.record_tokens.specs.declared.next.NextTree.TheVariants as next
use Rattle.record_tokens.specs.declared.next.Record.{Record}
use Rattle.write_engine.specs.Production.{Production}
use Rattle.hollow_machine.specs.Records.{Entry, entries_at, listed, values_under}
use Rattle.producer_orders.specs.Parts.{AreAdded, TellsAdded}
use Rattle.producer_orders.specs.declared.record_fault.RecordFault.{RecordFault}
use Rattle.producer_orders.proofs.AddingRecords.{HasAdded, kept_both, values_end, values_step, values_stop}
use Rattle.producer_orders.proofs.KnownTypes.{listed_items}
use Rattle.producer_orders.proofs.Placed.{entry_at}

-- The records before a place were added, behind those before the place from which on they were ahead at the start, and the others are ahead.
pub record AreBeingAdded (t : ℕ) (start now : List Token) (before after : Production) (full_before full : Bool) (from place : ℕ) : Type 0 where
  pub kept : after ≡ record before { current = after.current }
  pub others : (records : List Data) (rest : List Token) → AreAhead start (drop from records) rest → AreAhead now (drop place records) rest × HasAdded t records before after full_before full from place

pub ahead_first : (t : ℕ) (start : List Token) (before : Production) (full : Bool) (from : ℕ) → AreBeingAdded t start start before before full full from from
ahead_first t start before full from = record {
  kept = refl;
  others = λ records rest ahead. (ahead, record { kept = refl; added = λ done had. had });
}

-- What an answer tells of the first one of the records that are ahead, which was to be added; the others are ahead then.
abbrev pub TellsNext : ℕ → List Token → List Token → Production → Production → Bool → ℕ → Result Bool RecordFault → Type 0
TellsNext t now new after later full place result = (records : List Data) (rest : List Token) → AreAhead now records rest
    → (first : Data) × (others : List Data) × (records ≡ first ∷ others) × AreAhead new others rest
    × ((done : List Entry) → AreAdded after.schemas after.previous done after.current full → TellsAdded after.schemas after.previous (done ++ entry_at t place first ∷ []) later.current result)

-- the next record is that at the place
next_at : (t : ℕ) (start now new : List Token) (before after later : Production) (full_before full : Bool) (from place : ℕ) (result : Result Bool RecordFault) → AreBeingAdded t start now before after full_before full from place
    → TellsNext t now new after later full place result → (records : List Data) (rest : List Token) → AreAhead start (drop from records) rest
    → (first : Data) × (slice_get records place ≡ Some first) × (place + 1 ≤ length records) × AreAhead new (drop (place + 1) records) rest
    × ((done : List Entry) → AreAdded after.schemas after.previous done after.current full → TellsAdded after.schemas after.previous (done ++ entry_at t place first ∷ []) later.current result)
next_at t start now new before after later full_before full from place result so_far told records rest ahead =
    let next = told (drop place records) rest (so_far.others records rest ahead).0 in
    let at = at_front records next.1 place next.0 next.2 in
    let long = ap length next.2 in (
      next.0,
      at.0,
      omega (arith, long, length-drop place records),
      subst (λ (rs : List Data). AreAhead new rs rest) (sym at.1) next.3,
      next.4,
    )

pub ahead_step : (t : ℕ) (start now new : List Token) (before after later : Production) (full_before full full' : Bool) (from place : ℕ) → AreBeingAdded t start now before after full_before full from place
    → TellsNext t now new after later full place (Ok full') → later ≡ record after { current = later.current } → AreBeingAdded t start new before later full_before full' from (place + 1)
ahead_step t start now new before after later full_before full full' from place so_far told kept = record {
  kept = kept_both before after later so_far.kept kept;
  others = λ records rest ahead.
      (let next = next_at t start now new before after later full_before full from place (Ok full') so_far told records rest ahead in
      (next.3, values_step t records before after later full_before full full' from place next.0 next.1 (so_far.others records rest ahead).1 kept next.4));
}

pub ahead_stop : (t : ℕ) (start now new : List Token) (before after later : Production) (full_before full : Bool) (from place : ℕ) (refused : RecordFault) → AreBeingAdded t start now before after full_before full from place
    → TellsNext t now new after later full place (Err refused)
    → (records : List Data) (rest : List Token) (done : List Entry) → AreAhead start (drop from records) rest → AreAdded before.schemas before.previous (done ++ take from (entries_at t records)) before.current full_before
    → TellsAdded before.schemas before.previous (done ++ entries_at t records) later.current (Err refused)
ahead_stop t start now new before after later full_before full from place refused so_far told records rest done ahead had =
    let next = next_at t start now new before after later full_before full from place (Err refused) so_far told records rest ahead in
    values_stop t records before after later full_before full from place next.0 refused next.1 (so_far.others records rest ahead).1 next.4 done had

pub ahead_end : (t : ℕ) (start now new : List Token) (before after : Production) (full_before full : Bool) (from place : ℕ) → AreBeingAdded t start now before after full_before full from place
    → ((records : List Data) (rest : List Token) → AreAhead now records rest → TellsRecord records rest None new)
    → (records : List Data) (rest : List Token) (done : List Entry) → AreAhead start (drop from records) rest → AreAdded before.schemas before.previous (done ++ take from (entries_at t records)) before.current full_before
    → TellsAdded before.schemas before.previous (done ++ entries_at t records) after.current (Ok full)
ahead_end t start now new before after full_before full from place so_far told records rest done ahead had =
    let others = so_far.others records rest ahead in
    let none = told (drop place records) rest others.0 in
    values_end t records before after full_before full from place (past_end records place none.0) others.1 done had

-- some records are ahead as long as records are added
pub still_ahead : (t : ℕ) (start now : List Token) (before after : Production) (full_before full : Bool) (from place : ℕ) → AreBeingAdded t start now before after full_before full from place
    → (records : List Data) × (rest : List Token) × AreAhead start (drop from records) rest → (records : List Data) × (rest : List Token) × AreAhead now records rest
still_ahead t start now before after full_before full from place so_far (records, rest, ahead) = (drop place records, rest, (so_far.others records rest ahead).0)

-- ---- the next record, as a value or as a tree

pub next_value : (t : ℕ) (now new : List Token) (after later : Production) (full : Bool) (place : ℕ) (result : Result Bool RecordFault) (value : Value)
    → ((records : List Data) (rest : List Token) → AreAhead now records rest → TellsRecord records rest (Some value) new)
    → ((done : List Entry) → AreAdded after.schemas after.previous done after.current full → TellsAdded after.schemas after.previous (done ++ entry_at t place (view value) ∷ []) later.current result)
    → TellsNext t now new after later full place result
next_value t now new after later full place result value told tells = λ records rest ahead.
    (let next = told records rest ahead in
    (view value, next.0, next.1, next.2, tells))

-- what is read by the same schemas
read_by : (schemas schemas' : List Schema) (t : ℕ) (value : Data) (tree : PlainTree) → schemas ≡ schemas' → IsReadAs schemas t value tree → IsReadAs schemas' t value tree
read_by schemas schemas' t value tree same read = subst (λ (ss : List Schema). IsReadAs ss t value tree) same read

pub next_read : (schemas : List Schema) (t : ℕ) (now new : List Token) (after later : Production) (full : Bool) (place : ℕ) (result : Result Bool RecordFault) (found : Record) → schemas ≡ after.schemas
    → ((records : List Data) (rest : List Token) → AreAhead now records rest → TellsTree schemas t records rest (next.Record found) new)
    → ((place : ℕ) (value : Data) (tree : PlainTree) (done : List Entry) → IsReadAs after.schemas t value tree → IsRecordOf tree found → AreAdded after.schemas after.previous done after.current full
    → TellsAdded after.schemas after.previous (done ++ entry_at t place value ∷ []) later.current result)
    → TellsNext t now new after later full place result
next_read schemas t now new after later full place result found same told tells = λ records rest ahead.
    (let next = told records rest ahead in
    let there = next.1 in
    (there.first, there.others, there.split, there.ahead, λ done had. tells place there.first next.0 done (read_by schemas after.schemas t there.first next.0 same there.is) next.2 had))

-- a record that is ahead gives a tree of which this is the record
pub read_ahead : (schemas schemas' : List Schema) (t : ℕ) (now new : List Token) (found : Record) → schemas ≡ schemas' → (records : List Data) × (rest : List Token) × AreAhead now records rest
    → ((records : List Data) (rest : List Token) → AreAhead now records rest → TellsTree schemas t records rest (next.Record found) new)
    → (value : Data) × (tree : PlainTree) × IsReadAs schemas' t value tree × IsRecordOf tree found
read_ahead schemas schemas' t now new found same (records, rest, ahead) told =
    let next = told records rest ahead in
    (next.1.first, next.0, read_by schemas schemas' t next.1.first next.0 same next.1.is, next.2)

-- The place up to which records were added is one of those that were ahead at the start, or that behind the last one.
abbrev pub AreThere : List Token → ℕ → Type 0
AreThere start place = (records : List Data) (rest : List Token) → AreAhead start records rest → place ≤ length records

pub there_more : (t : ℕ) (start now new : List Token) (before after later : Production) (full_before full : Bool) (place : ℕ) (result : Result Bool RecordFault) → AreBeingAdded t start now before after full_before full 0 place
    → TellsNext t now new after later full place result → AreThere start (place + 1)
there_more t start now new before after later full_before full place result so_far told = λ records rest ahead. (next_at t start now new before after later full_before full 0 place result so_far told records rest ahead).2

-- ---- the records under the name of a type

values_ahead : (add : Data) (name : List ℕ) (records : List Data) → get name add ≡ Some (array (items_of records)) → records ≡ values_under add name
values_ahead add name records found = sym (listed_items records) ∙ ap (λ (o : Option Data). option_map_or listed (option_and_then as_array o) []) (sym found)

-- the schema at the index of a type has the name that was looked for
same_name : (found schema : Schema) (o : Option Schema) (name : List ℕ) → o ≡ Some found → o ≡ Some schema → name ≡ found.name → name ≡ schema.name
same_name found schema o name at also named = named ∙ ap (λ (x : Option Schema). option_map_or (λ (s : Schema). s.name) x name) (sym at ∙ also)

-- what was found under the name of the schema at an index is ahead, as the records of that type
pub ahead_under : (found_in schemas : List Schema) (t : ℕ) (found schema : Schema) (add : Data) (name : List ℕ) (o : Option (List Token)) (tokens : List Token) → found_in ≡ schemas → slice_get found_in t ≡ Some found → name ≡ found.name
    → o ≡ Some tokens → TellsRecords name add o → slice_get schemas t ≡ Some schema → (rest : List Token) × AreAhead tokens (values_under add schema.name) rest
ahead_under found_in schemas t found schema add name o tokens same at named is told also =
    let both = ap (λ (ss : List Schema). slice_get ss t) same ∙ also in
    let called = same_name found schema (slice_get found_in t) name at both named in
    let there = subst (λ (x : Option (List Token)). TellsRecords name add x) is told in
    (there.1, subst (λ (rs : List Data). AreAhead tokens rs there.1) (values_ahead add name there.0 there.2 ∙ ap (values_under add) called) there.3)

-- what is told of the records that are a type's
pub tells_under : (schemas : List Schema) (previous rows : Table) (t : ℕ) (values under : List Data) (result : Result Bool RecordFault) (done : List Entry) → values ≡ under
    → TellsAdded schemas previous (done ++ entries_at t values) rows result → TellsAdded schemas previous (done ++ entries_at t under) rows result
tells_under schemas previous rows t values under result done same told = subst (λ (vs : List Data). TellsAdded schemas previous (done ++ entries_at t vs) rows result) same told
