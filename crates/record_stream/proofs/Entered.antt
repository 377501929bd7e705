-- The members and the types of an order are passed over, up to the records of one type.
use Rattle.std.proofs.Common.{◌≡◌, ◌∙◌, ℕ, ◌+◌, ◌<◌, List, [], ◌∷◌, drop, length, map, Option, Some, None, true, false, bytes_eq, true≢false, sym, ap, subst, arith}
use Rattle.std.specs.Prelude.{slice_get}
use Rattle.std.proofs.lemmas.List.Elements.{All-head, All-tail}
use Rattle.std.proofs.lemmas.Slice.Eq.{bytes_eq-Decides}
use Rattle.json.specs.Token.{Token, begin_array, begin_object, key}
use Rattle.json.specs.Json.{Json, read_key, skip_value, value}
use Rattle.json.specs.Reads.{Yields}
use Rattle.json.specs.declared.token.Token as declared
use Rattle.json.proofs.Found.{Some_inj}
use Rattle.json.proofs.Grammar.{read_key-shorter, skip_value-shorter}
use Rattle.record_stream.specs.RecordLine.{AreAdded, AreListed, AreMembers, AreOther, IsArray, Named, Typed, part_depth}
use Rattle.record_stream.specs.Records.{AreAhead}
use Rattle.record_stream.proofs.Ahead.{at_front, from_place}
use Rattle.record_stream.proofs.Listed.{array_skipped, array_value}
use Rattle.record_stream.proofs.Opened.{behind_next, known, known_passed}
use Rattle.record_stream.proofs.Records.{none_or_some}

-- ---- the name of a member

same_key : (now from there : List Token) (name other : List ℕ) → now ≡ key other ∷ there → read_key now ≡ Some (Some name, from) → (other ≡ name) × (there ≡ from)
same_key now from there name other is named =
    let same : (Some other, there) ≡ (Some name, from) = Some_inj (Some other, there) (Some name, from) (sym (ap read_key is) ∙ named) in
    (Some_inj other name (ap (λ (p : Option (List ℕ) × List Token). p.0) same), ap (λ (p : Option (List ℕ) × List Token). p.1) same)

no_key : (now there : List Token) (other : List ℕ) → now ≡ key other ∷ there → ((name : List ℕ) (from : List Token) → read_key now ≡ Some (Some name, from) → ⊥) → ⊥
no_key now there other is none = none other there (ap read_key is)

pub over_then : (now behind : List Token) → read_key now ≡ Some (None, behind) → (found : List ℕ) (from : List Token) → read_key now ≡ Some (Some found, from) → ⊥
over_then now behind over found from named =
    none_or_some found (ap (λ (p : Option (List ℕ) × List Token). p.0) (Some_inj (None, behind) (Some found, from) (sym over ∙ named)))

pub none_then : (now : List Token) → read_key now ≡ None → (found : List ℕ) (from : List Token) → read_key now ≡ Some (Some found, from) → ⊥
none_then now none found from named = none_or_some (Some found, from) (sym none ∙ named)

pub shorter : (depth : ℕ) (now from behind : List Token) (found : List ℕ) → read_key now ≡ Some (Some found, from) → skip_value depth from ≡ Some behind → length behind < length now
shorter depth now from behind found named skipped = omega (arith, read_key-shorter now (Some found) from named, skip_value-shorter depth from behind skipped)

-- ---- up to the member that has a name

differs : (sought name : List ℕ) → bytes_eq name sought ≡ false → sought ≡ name → ⊥
differs sought name other same = true≢false (sym ((bytes_eq-Decides name sought).1 (sym same)) ∙ other)

module _ (sought : List ℕ) (now from : List Token) (name : List ℕ) (types : List Typed) (inside end : List Token) (listed : AreListed inside types end) (named : read_key now ≡ Some (Some name, from)) where
  front_known : (front : List Named) → AreMembers part_depth now front (key sought ∷ begin_object ∷ inside) → bytes_eq name sought ≡ false
      → (json : Json) × (rest : List Token) × (value part_depth from ≡ Some (json, rest))
  front_known [] ahead other = absurd (differs sought name other (same_key now from (begin_object ∷ inside) name sought ahead named).0)
  front_known (first ∷ front) (f, b, e, is, more) other =
      let at = same_key now from f name first.0 e named in
      let json = known part_depth f b first.1 is in
      (json.0, b, ap (value part_depth) (sym at.1) ∙ json.1)

  front_passed : (front : List Named) (behind : List Token) → AreMembers part_depth now front (key sought ∷ begin_object ∷ inside) → AreOther sought (map (λ (n : Named). n.0) front) → bytes_eq name sought ≡ false
      → skip_value part_depth from ≡ Some behind → AreAdded sought behind types
  front_passed [] behind ahead none other skipped = absurd (differs sought name other (same_key now from (begin_object ∷ inside) name sought ahead named).0)
  front_passed (first ∷ front) behind (f, b, e, is, more) none other skipped =
      let at = same_key now from f name first.0 e named in
      let there : behind ≡ b = known_passed part_depth f behind b first.1 is (ap (skip_value part_depth) at.1 ∙ skipped) in
      record {
        front = front;
        inside = inside;
        behind = end;
        ahead = subst (λ ts. AreMembers part_depth ts front (key sought ∷ begin_object ∷ inside)) (sym there) more;
        none = All-tail (λ n. n ≡ sought → ⊥) first.0 (map (λ (n : Named). n.0) front) none;
        listed = listed;
      }

  front_here : (front : List Named) → AreMembers part_depth now front (key sought ∷ begin_object ∷ inside) → AreOther sought (map (λ (n : Named). n.0) front) → bytes_eq name sought ≡ true → begin_object ∷ inside ≡ from
  front_here [] ahead none same = (same_key now from (begin_object ∷ inside) name sought ahead named).1
  front_here (first ∷ front) (f, b, e, is, more) none same =
      let at = same_key now from f name first.0 e named in
      absurd (All-head (λ n. n ≡ sought → ⊥) first.0 (map (λ (n : Named). n.0) front) none (at.0 ∙ (bytes_eq-Decides name sought).0 same))

front_none : (sought : List ℕ) (now inside : List Token) (front : List Named) → AreMembers part_depth now front (key sought ∷ begin_object ∷ inside) → ((name : List ℕ) (from : List Token) → read_key now ≡ Some (Some name, from) → ⊥) → ⊥
front_none sought now inside [] ahead none = no_key now (begin_object ∷ inside) sought ahead none
front_none sought now inside (first ∷ front) (f, b, e, is, more) none = no_key now f first.0 e none

-- Where the member of this name lists types from the start on, it does from here on.
abbrev pub IsStillAdded : List ℕ → List Token → List Token → Type 0
IsStillAdded sought start now = (types : List Typed) → AreAdded sought start types → AreAdded sought now types

module _ (sought : List ℕ) (start now from : List Token) (name : List ℕ) (still : IsStillAdded sought start now) (named : read_key now ≡ Some (Some name, from)) where
  pub member_known : (types : List Typed) → AreAdded sought start types → bytes_eq name sought ≡ false → (json : Json) × (rest : List Token) × (value part_depth from ≡ Some (json, rest))
  member_known types added other = let here = still types added in front_known sought now from name types here.inside here.behind here.listed named here.front here.ahead other

  pub member_passed : (behind : List Token) → bytes_eq name sought ≡ false → skip_value part_depth from ≡ Some behind → IsStillAdded sought start behind
  member_passed behind other skipped = λ types added.
      (let here = still types added in front_passed sought now from name types here.inside here.behind here.listed named here.front behind here.ahead here.none other skipped)

  pub add_entered : (new : List Token) (brace : Option declared.Token) → bytes_eq name sought ≡ true → Yields from brace new → (types : List Typed) → AreAdded sought start types → (rest : List Token) × AreListed new types rest
  add_entered new brace same next types added =
      let here = still types added in
      let at = front_here sought now from name types here.inside here.behind here.listed named here.front here.ahead here.none same in
      let is : new ≡ here.inside = behind_next brace from new here.inside begin_object next (sym at) in
      (here.behind, subst (λ ts. AreListed ts types here.behind) (sym is) here.listed)

pub add_there : (sought : List ℕ) (start now : List Token) → IsStillAdded sought start now → ((name : List ℕ) (from : List Token) → read_key now ≡ Some (Some name, from) → ⊥) → (types : List Typed) → AreAdded sought start types → ⊥
add_there sought start now still none types added = let here = still types added in front_none sought now here.inside here.front here.ahead none

-- the member that is looked for
pub sought_added : (sought name : List ℕ) (now inside : List Token) (types : List Typed) → sought ≡ name → now ≡ inside → AreAdded name inside types → AreAdded sought now types
sought_added sought name now inside types same at added = subst (λ n. AreAdded n now types) (sym same) (subst (λ ts. AreAdded name ts types) (sym at) added)

-- ---- up to a type

-- So many types were passed of those that were listed from the start on, of which there are more than are to be passed.
abbrev pub ArePast : List Token → List Token → ℕ → ℕ → Type 0
ArePast start now count i = (types : List Typed) (rest : List Token) → AreListed start types rest → count < length types → AreListed now (drop i types) rest

listed_at : (now rest : List Token) (types : List Typed) (i : ℕ) → i < length types → AreListed now (drop i types) rest
    → (typed : Typed) × (from : List Token) × (behind : List Token) × (now ≡ key typed.0 ∷ from) × IsArray from typed.1 behind × AreListed behind (drop (i + 1) types) rest × (slice_get types i ≡ Some typed)
listed_at now rest types i within listed =
    let here = from_place types i within in
    let first = subst (λ (ts : List Typed). AreListed now ts rest) here.1 listed in
    (here.0, first.0, first.1, first.2, first.3, first.4, (at_front types (drop (i + 1) types) i here.0 here.1).0)

module _ (start now new : List Token) (count i : ℕ) (past : ArePast start now count i) (name : Option declared.Token) (next : Yields now name new) where
  pub type_known : (types : List Typed) (rest : List Token) → AreListed start types rest → count < length types → i < count → (json : Json) × (behind : List Token) × (value 124 new ≡ Some (json, behind))
  type_known types rest listed within before =
      let here = listed_at now rest types i (omega (arith, within, before)) (past types rest listed within) in
      let is : new ≡ here.1 = behind_next name now new here.1 (key here.0.0) next here.3 in
      let json = array_value here.1 here.2 here.0.1 here.4 in
      (json.0, here.2, ap (value 124) is ∙ json.1)

  pub type_passed : (behind : List Token) → i < count → skip_value 124 new ≡ Some behind → ArePast start behind count (i + 1)
  type_passed behind before skipped = λ types rest listed within.
      (let here = listed_at now rest types i (omega (arith, within, before)) (past types rest listed within) in
      let is : new ≡ here.1 = behind_next name now new here.1 (key here.0.0) next here.3 in
      let at : here.2 ≡ behind = array_skipped here.1 here.2 behind here.0.1 here.4 (ap (skip_value 124) (sym is) ∙ skipped) in
      subst (λ ts. AreListed ts (drop (i + 1) types) rest) at here.5)

  pub type_entered : (inside : List Token) (bracket : Option declared.Token) → Yields new bracket inside → i ≡ count → (types : List Typed) (rest : List Token) (typed : Typed) → AreListed start types rest → count < length types
      → slice_get types count ≡ Some typed → (behind : List Token) × AreAhead inside typed.1 behind
  type_entered inside bracket opened all types rest typed listed within at =
      let here = listed_at now rest types i (omega (arith, within, all)) (past types rest listed within) in
      let is : new ≡ here.1 = behind_next name now new here.1 (key here.0.0) next here.3 in
      let in_it : inside ≡ here.4.0 = behind_next bracket new inside here.4.0 begin_array opened (is ∙ here.4.1) in
      let same : here.0 ≡ typed = Some_inj here.0 typed (sym here.6 ∙ (ap (slice_get types) all ∙ at)) in
      (here.2, subst (λ (t : Typed). AreAhead inside t.1 here.2) same (subst (λ ts. AreAhead ts here.0.1 here.2) (sym in_it) here.4.2))
