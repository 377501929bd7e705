-- The records of a change are read from its line one after another.
use Rattle.std.proofs.Common.{◌≡◌, ◌∙◌, ℕ, ◌+◌, ◌++◌, List, [], ◌∷◌, drop, map, take, Option, Some, None, sym, ap, subst, append_assoc, append-nil}
use Rattle.std.specs.Prelude.{slice_get}
use Rattle.std.specs.Option.{option_and_then, option_map_or}
use Rattle.std.proofs.lemmas.List.{map-append}
use Rattle.json.specs.Token.{Token}
use Rattle.serde_json.specs.Data.{Data, array}
use Rattle.serde_json.specs.Find.{as_array, get}
use Rattle.serde_json.specs.View.{items_of, view}
use Rattle.serde_json.specs.declared.value.Value.{Value}
use Rattle.record_stream.specs.RecordLine.{TellsRecords}
use Rattle.record_stream.specs.Records.{AreAhead, TellsRecord}
use Rattle.record_stream.proofs.Ahead.{at_front, past_end}
use Rattle.record_tokens.specs.Next.{TellsWhole}
use Rattle.record_tokens.specs.declared.next.NextWhole.TheVariants as whole
use Rattle.record_trees.specs.declared.tree.Tree.{Tree}
use Rattle.schema_model.specs.declared.schema.Schema.{Schema}
use Rattle.hol_incremental.specs.Changes.{records}
use Rattle.hollow_machine.specs.Records.{AreRead, Entry, entries_at, listed, values_under}
use Rattle.producer_orders.proofs.KnownTypes.{listed_items}
use Rattle.change_orders.specs.Reading.{HaveRead, TellsFront}
use Rattle.change_orders.proofs.ReadRecords.{all_read, from_first, one_more}

-- ---- under a name

same_name : (found schema : Schema) (o : Option Schema) (name : List ℕ) → o ≡ Some found → o ≡ Some schema → name ≡ found.name → name ≡ schema.name
same_name found schema o name at also named = named ∙ ap (λ (x : Option Schema). option_map_or (λ (s : Schema). s.name) x name) (sym at ∙ also)

under_name : (add : Data) (name : List ℕ) (records : List Data) → get name add ≡ Some (array (items_of records)) → records ≡ values_under add name
under_name add name records found = sym (listed_items records) ∙ ap (λ (o : Option Data). option_map_or listed (option_and_then as_array o) []) (sym found)

-- the records under the name of a type are ahead
pub ahead_under : (schemas : List Schema) (t : ℕ) (found schema : Schema) (add : Data) (name : List ℕ) (o : Option (List Token)) (tokens : List Token) → slice_get schemas t ≡ Some found → name ≡ found.name → o ≡ Some tokens
    → TellsRecords name add o → slice_get schemas t ≡ Some schema → (rest : List Token) × AreAhead tokens (values_under add schema.name) rest
ahead_under schemas t found schema add name o tokens at named is told also =
    let called = same_name found schema (slice_get schemas t) name at also named in
    let there = subst (λ (x : Option (List Token)). TellsRecords name add x) is told in
    (there.1, subst (λ (rs : List Data). AreAhead tokens rs there.1) (under_name add name there.0 there.2 ∙ ap (values_under add) called) there.3)

-- there are none under the name of a type
pub none_under : (schemas : List Schema) (t : ℕ) (found schema : Schema) (add : Data) (name : List ℕ) (o : Option (List Token)) → slice_get schemas t ≡ Some found → name ≡ found.name → o ≡ None
    → TellsRecords name add o → slice_get schemas t ≡ Some schema → [] ≡ values_under add schema.name
none_under schemas t found schema add name o at named is told also =
    let none : get name add ≡ None = subst (λ (x : Option (List Token)). TellsRecords name add x) is told in
    let called = same_name found schema (slice_get schemas t) name at also named in
    ap (λ (x : Option Data). option_map_or listed (option_and_then as_array x) []) (sym none) ∙ ap (values_under add) called

-- none are read behind others
pub none_more : (schemas : List Schema) (t : ℕ) (before : List Entry) (values : List Data) (found : List (ℕ × Tree)) → [] ≡ values → HaveRead schemas before found → TellsFront schemas before (entries_at t values) found None
none_more schemas t before values found none had =
    subst (λ (vs : List Data). HaveRead schemas (before ++ entries_at t vs) found) none (record { read = subst (λ es. AreRead schemas es (records found)) (sym (append-nil before)) had.read })

-- ---- trees

-- The records before a place are read behind others, and those from it on are ahead.
abbrev pub AreBeingRead : List Schema → ℕ → List Token → List Token → List (ℕ × Tree) → List (ℕ × Tree) → ℕ → Type 0
AreBeingRead schemas t start now had found place = (records : List Data) (rest : List Token) (before : List Entry) → AreAhead start records rest → HaveRead schemas before had
    → AreAhead now (drop place records) rest × HaveRead schemas (before ++ take place (entries_at t records)) found

pub none_read : (schemas : List Schema) (t : ℕ) (start : List Token) (found : List (ℕ × Tree)) → AreBeingRead schemas t start start found found 0
none_read schemas t start found = λ records rest before ahead had. (ahead, from_first schemas before (entries_at t records) found had)

module _ (schemas : List Schema) (t : ℕ) (start now new : List Token) (had found : List (ℕ × Tree)) (place : ℕ) (so_far : AreBeingRead schemas t start now had found place) where
  pub tree_read : (tree : Tree) (pushed : List (ℕ × Tree)) → ((records : List Data) (rest : List Token) → AreAhead now records rest → TellsWhole schemas t records rest (whole.Tree tree) new)
      → pushed ≡ found ++ (t, tree) ∷ [] → AreBeingRead schemas t start new had pushed (place + 1)
  tree_read tree pushed told is = λ records rest before ahead read.
      (let here = so_far records rest before ahead read in
      let next = told (drop place records) rest here.0 in
      let at = at_front records next.others place next.first next.split in (
        subst (λ (rs : List Data). AreAhead new rs rest) (sym at.1) next.ahead,
        subst (λ (trees : List (ℕ × Tree)). HaveRead schemas (before ++ take (place + 1) (entries_at t records)) trees) (sym is)
            (record { read = one_more schemas t records before found place next.first tree at.0 next.is.gives here.1.read }),
      ))

  pub end_read : ((records : List Data) (rest : List Token) → AreAhead now records rest → TellsWhole schemas t records rest whole.End new)
      → (records : List Data) (rest : List Token) (before : List Entry) → AreAhead start records rest → HaveRead schemas before had → TellsFront schemas before (entries_at t records) found None
  end_read told records rest before ahead read =
      let here = so_far records rest before ahead read in
      let none = told (drop place records) rest here.0 in
      record { read = all_read schemas t records before found place (past_end records place none.0) here.1.read }

-- ---- values

-- The values are those of the records that were ahead at the start, up to those that still are.
abbrev pub AreTaken : List Token → List Token → List Value → Type 0
AreTaken start now values = (records : List Data) (rest : List Token) → AreAhead start records rest → (others : List Data) × (records ≡ map view values ++ others) × AreAhead now others rest

pub none_taken : (start : List Token) (values : List Value) → values ≡ [] → AreTaken start start values
none_taken start values none = λ records rest ahead. (records, ap (λ (vs : List Value). map view vs ++ records) (sym none), ahead)

module _ (start now new : List Token) (values : List Value) (so_far : AreTaken start now values) where
  pub value_taken : (value : Value) (pushed : List Value) → ((records : List Data) (rest : List Token) → AreAhead now records rest → TellsRecord records rest (Some value) new)
      → pushed ≡ values ++ value ∷ [] → AreTaken start new pushed
  value_taken value pushed told is = λ records rest ahead.
      (let here = so_far records rest ahead in
      let next = told here.0 rest here.2 in
      let behind : map view values ++ (view value ∷ next.0) ≡ map view pushed ++ next.0 =
      sym (append_assoc (map view values) (view value ∷ []) next.0) ∙ ap (λ (ds : List Data). ds ++ next.0) (sym (map-append view values (value ∷ [])) ∙ ap (map view) (sym is)) in
      (next.0, here.1 ∙ (ap (λ (ds : List Data). map view values ++ ds) next.1 ∙ behind), next.2))

  pub all_taken : ((records : List Data) (rest : List Token) → AreAhead now records rest → TellsRecord records rest None new)
      → (records : List Data) (rest : List Token) → AreAhead start records rest → map view values ≡ records
  all_taken told records rest ahead =
      let here = so_far records rest ahead in
      let none = told here.0 rest here.2 in
      sym (here.1 ∙ (ap (λ (ds : List Data). map view values ++ ds) none.0 ∙ append-nil (map view values)))

  pub still_ahead : (records : List Data) × (rest : List Token) × AreAhead start records rest → (records : List Data) × (rest : List Token) × AreAhead now records rest
  still_ahead (records, rest, ahead) = let here = so_far records rest ahead in (here.0, rest, here.2)
