-- The line of an order as a whole.
use Rattle.std.proofs.Common.{◌≡◌, ◌∙◌, ℕ, ◌-◌, ◌<◌, ◌≤◌, List, [], ◌∷◌, length, Bool, Option, Some, None, option_map, refl, ap, subst, arith}
use Rattle.json.specs.Token.{Token, begin_object, end_object, key}
use Rattle.json.specs.Json.{members, parse_map, read_key, value}
use Rattle.json.specs.Lex.{tokens}
use Rattle.json.proofs.Grammar.{value-begin_object}
use Rattle.serde_json.specs.Data.{Data, Members, boolean, member, no_members, object, put}
use Rattle.serde_json.specs.Read.{converted, of_json, of_members, read}
use Rattle.serde_json.specs.View.{view}
use Rattle.serde_json.specs.declared.value.Value.{Value}
use Rattle.record_stream.specs.ChangeLine.{change_data}
use Rattle.record_stream.specs.CycleLine.{cycle_data}
use Rattle.record_stream.specs.Holder.{records_name, word}
use Rattle.record_stream.specs.Parts.{AreNames, HaveFound, IsAdd}
use Rattle.record_stream.specs.RecordLine.{AreMembers, IsHeld, Named, Typed, added_by, holder_data, part_depth, parts_data, put_all, records_of, with_types}
use Rattle.record_stream.specs.declared.holder.Holder.{Holder}
use Rattle.record_stream.specs.declared.holder.Holder.TheVariants.{Cycle, Change}
use Rattle.record_stream.specs.declared.parts.FoundParts.{FoundParts}
use Rattle.record_stream.specs.declared.parts.TypeNames.{TypeNames}
use Rattle.record_stream.proofs.Converted.{converted-object, member_read, members_over, whole_read}
use Rattle.record_stream.proofs.Listed.{value_shorter}

-- members that stand up to the brace of their object
members_json : (depth : ℕ) (parts : List Named) (ts rest behind : List Token) (n : ℕ) (old : Members) → length ts ≤ n → AreMembers depth ts parts rest → rest ≡ end_object ∷ behind
    → converted (λ ms. of_members ms old) (members (value depth) n ts) ≡ Some (put_all parts old, behind)
members_json depth [] ts rest behind n old le e over = members_over (value depth) old n ts behind le (ap read_key (e ∙ over))
members_json depth (named ∷ parts) ts rest behind n old le (from, after, e, is, more) over =
    let shorter = value_shorter depth from after named.1 is in
    let long = ap length e in
    member_read (value depth) old n named.0 ts from after named.1 (omega (arith, le, long)) (ap read_key e) is
    ∙ members_json depth parts after rest behind (n - 1) (put named.0 named.1 old) (omega (arith, le, long, shorter)) more over

pub line_json : (holder : Holder) (ts : List Token) (version tag : Data) (types : List Typed) (other : Option Data) → IsHeld holder ts version tag types other
    → converted of_json (value 127 ts) ≡ Some (holder_data holder version tag (object (with_types types no_members)) other, [])
line_json holder ts version tag types other held =
    let below : 0 < 127 = omega arith in
    let below_that : 0 < 126 = omega arith in
    let inside = held.inside in
    let from = begin_object ∷ inside in
    let named = key (word holder) ∷ from in
    let n = length named in
    let some : 0 < n = omega arith in
    let enough : 1 ≤ n - 1 = omega arith in
    let within : length inside ≤ length inside = omega arith in
    let parts : converted of_json (value 126 from) ≡ Some (object (put_all held.parts no_members), end_object ∷ []) =
    ap (converted of_json) (value-begin_object 126 inside below_that)
    ∙ (converted-object (members (value part_depth) (length inside) inside)
    ∙ ap (parse_map object) (members_json part_depth held.parts inside (end_object ∷ end_object ∷ []) (end_object ∷ []) (length inside) no_members within held.ahead refl)) in
    ap (λ t. converted of_json (value 127 t)) held.opened
    ∙ (ap (converted of_json) (value-begin_object 127 named below)
    ∙ (converted-object (members (value 126) n named)
    ∙ (ap (parse_map object) (member_read (value 126) no_members n (word holder) named from (end_object ∷ []) _ some refl parts ∙ members_over (value 126) _ (n - 1) (end_object ∷ []) [] enough refl)
    ∙ ap (λ ms. Some (object (member (word holder) (object ms) no_members), [])) held.are)))

pub line_read : (holder : Holder) (line : List ℕ) (version tag : Data) (types : List Typed) (other : Option Data) → IsHeld holder (tokens line) version tag types other
    → read line ≡ Some (holder_data holder version tag (object (with_types types no_members)) other)
line_read holder line version tag types other held = whole_read (value 127 (tokens line)) _ (line_json holder (tokens line) version tag types other held)

-- the records of an order
records_held : (holder : Holder) (version tag records : Data) (other : Option Data) → records_of (Some (holder_data holder version tag records other)) ≡ records
records_held Cycle version tag records other = refl
records_held Change version tag records other = refl

pub line_adds : (holder : Holder) (line : List ℕ) (version tag : Data) (types : List Typed) (other : Option Data) → IsHeld holder (tokens line) version tag types other → added_by line ≡ object (with_types types no_members)
line_adds holder line version tag types other held =
    ap records_of (line_read holder line version tag types other held) ∙ records_held holder version tag (object (with_types types no_members)) other

-- ---- an order whose members were found

pub held_found : (holder : Holder) (ts inside : List Token) (found : FoundParts) (version tag : Value) (names : TypeNames) → ts ≡ begin_object ∷ key (word holder) ∷ begin_object ∷ inside
    → HaveFound holder inside (end_object ∷ end_object ∷ []) found → found.version ≡ Some version → found.tag ≡ Some tag → found.types ≡ Some names
    → (types : List Typed) × IsHeld holder ts (view version) (view tag) types (option_map view found.other) × AreNames names types
held_found holder ts inside found version tag names opened had is_version is_tag are_types =
    let name = records_name holder in
    let other = option_map view found.other in
    let add = subst (IsAdd name inside had.passed had.add) are_types had.added in
    let parts : parts_data holder had.add other (option_map view found.tag) (option_map view found.version)
    ≡ parts_data holder (Some (object (with_types add.0 no_members))) other (Some (view tag)) (Some (view version)) =
    (λ i. parts_data holder (add.1 i) other (option_map view (is_tag i)) (option_map view (is_version i))) in (
      add.0,
      record {
        inside = inside;
        opened = opened;
        parts = had.passed;
        ahead = had.ahead;
        are = had.are ∙ parts;
        added = add.3;
      },
      add.2,
    )

-- ---- as the orders are spelled

said : (version tag add : Data) (snapshot : Option Bool) → holder_data Cycle version tag add (option_map boolean snapshot) ≡ cycle_data version tag add snapshot
said version tag add None = refl
said version tag add (Some snapshot) = refl

pub cycle_held : (version tag add : Data) (other : Option Data) (snapshot : Option Bool) → other ≡ option_map boolean snapshot → holder_data Cycle version tag add other ≡ cycle_data version tag add snapshot
cycle_held version tag add other snapshot is = ap (holder_data Cycle version tag add) is ∙ said version tag add snapshot

pub change_held : (version tag put : Data) (other : Option Data) (remove : Data) → other ≡ Some remove → holder_data Change version tag put other ≡ change_data version tag put remove
change_held version tag put other remove is = ap (holder_data Change version tag put) is
