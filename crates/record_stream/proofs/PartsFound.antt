-- The members of an order, found one after another.
use Rattle.std.proofs.Common.{◌≡◌, ◌∙◌, ◌<◌, ◌≤◌, ℕ, List, [], ◌∷◌, ◌++◌, codes, get_or, length, map, Greater, nat_cmp, Option, Some, None, option_map, true, refl, ap, subst, arith}
use Rattle.std.specs.Option.{is_none}
use Rattle.std.specs.Cmp.Lexicographic.{slice_cmp}
use Rattle.std.specs.Ordering.{match_ordering}
use Rattle.std.proofs.lemmas.List.Elements.{All-cons, All-head, All-nil, All-tail}
use Rattle.json.specs.Token.{Token, begin_object, key}
use Rattle.json.specs.Json.{members, parse_map, value}
use Rattle.json.proofs.Grammar.{value-begin_object}
use Rattle.serde_json.specs.Data.{Data, Members, member, no_members, object, put}
use Rattle.serde_json.specs.Read.{converted, of_json}
use Rattle.serde_json.specs.View.{view}
use Rattle.serde_json.specs.declared.value.Value.{Value}
use Rattle.record_stream.specs.Holder.{other_name, records_name}
use Rattle.record_stream.specs.RecordLine.{AreListed, AreMembers, AreOther, Named, Typed, part_depth, parts_data, put_all, with_named, with_types}
use Rattle.record_stream.specs.Parts.{AreNames, HaveFound, IsAdd}
use Rattle.record_stream.specs.declared.holder.Holder.{Holder}
use Rattle.record_stream.specs.declared.holder.Holder.TheVariants.{Cycle, Change}
use Rattle.record_stream.specs.declared.parts.FoundParts.{FoundParts}
use Rattle.record_stream.specs.declared.parts.TypeNames.{TypeNames}
use Rattle.record_stream.proofs.Converted.{converted-object}
use Rattle.record_stream.proofs.Listed.{listed_json}

-- ---- a member more

one_ahead : (depth : ℕ) (start now from behind : List Token) (passed : List Named) (named : Named) → AreMembers depth start passed now → now ≡ key named.0 ∷ from → converted of_json (value depth from) ≡ Some (named.1, behind)
    → AreMembers depth start (passed ++ named ∷ []) behind
one_ahead depth start now from behind [] named e is reads = (from, behind, e ∙ is, reads, refl)
one_ahead depth start now from behind (first ∷ passed) named (f, b, e, r, more) is reads = (f, b, e, r, one_ahead depth b now from behind passed named more is reads)

one_put : (passed : List Named) (named : Named) (old : Members) → put_all (passed ++ named ∷ []) old ≡ put named.0 named.1 (put_all passed old)
one_put [] named old = refl
one_put (first ∷ passed) named old = one_put passed named (put first.0 first.1 old)

one_other : (name : List ℕ) (passed : List Named) (named : Named) → AreOther name (map (λ (n : Named). n.0) passed) → (named.0 ≡ name → ⊥) → AreOther name (map (λ (n : Named). n.0) (passed ++ named ∷ []))
one_other name [] named others other = All-cons (λ n. n ≡ name → ⊥) named.0 [] other (All-nil (λ n. n ≡ name → ⊥))
one_other name (first ∷ passed) named others other =
    let Other : List ℕ → Type 0 = λ n. n ≡ name → ⊥ in
    All-cons Other first.0 (map (λ (n : Named). n.0) (passed ++ named ∷ [])) (All-head Other first.0 (map (λ (n : Named). n.0) passed) others)
    (one_other name passed named (All-tail Other first.0 (map (λ (n : Named). n.0) passed) others) other)

-- a member of another name than that of the records
kept_add : (name : List ℕ) (start : List Token) (passed : List Named) (add : Option Data) (types : Option TypeNames) (named : Named) → (named.0 ≡ name → ⊥) → IsAdd name start passed add types
    → IsAdd name start (passed ++ named ∷ []) add types
kept_add name start passed add None named other is = (is.0, one_other name passed named is.1 other)
kept_add name start passed add (Some names) named other is = is

-- ---- each member is put in its place

past : (name other : List ℕ) (json : Data) (there : Option Data) (rest : Members) → slice_cmp nat_cmp name other ≡ Greater → put name json (with_named other there rest) ≡ with_named other there (put name json rest)
past name other json None rest greater = refl
past name other json (Some found) rest greater = ap (λ o. match_ordering o (member name json (member other found rest)) (member other json rest) (member other found (put name json rest))) greater

version_last : (json : Data) (version : Option Data) → put (codes "version") json (with_named (codes "version") version no_members) ≡ with_named (codes "version") (Some json) no_members
version_last json None = refl
version_last json (Some old) = refl

version_past : (holder : Holder) → (slice_cmp nat_cmp (codes "version") (records_name holder) ≡ Greater) × (slice_cmp nat_cmp (codes "version") (other_name holder) ≡ Greater)
version_past Cycle = (refl, refl)
version_past Change = (refl, refl)

tag_past : (holder : Holder) → (slice_cmp nat_cmp (codes "tag") (records_name holder) ≡ Greater) × (slice_cmp nat_cmp (codes "tag") (other_name holder) ≡ Greater)
tag_past Cycle = (refl, refl)
tag_past Change = (refl, refl)

other_past : (holder : Holder) → slice_cmp nat_cmp (other_name holder) (records_name holder) ≡ Greater
other_past Cycle = refl
other_past Change = refl

put_version : (holder : Holder) (json : Data) (add other tag version : Option Data) → put (codes "version") json (parts_data holder add other tag version) ≡ parts_data holder add other tag (Some json)
put_version holder json add other tag version =
    past (codes "version") (records_name holder) json add _ (version_past holder).0
    ∙ ap (with_named (records_name holder) add) (past (codes "version") (other_name holder) json other _ (version_past holder).1
    ∙ ap (with_named (other_name holder) other) (past (codes "version") (codes "tag") json tag _ refl ∙ ap (with_named (codes "tag") tag) (version_last json version)))

tag_here : (json : Data) (tag version : Option Data) → put (codes "tag") json (with_named (codes "tag") tag (with_named (codes "version") version no_members)) ≡ with_named (codes "tag") (Some json) (with_named (codes "version") version no_members)
tag_here json None None = refl
tag_here json None (Some version) = refl
tag_here json (Some old) version = refl

put_tag : (holder : Holder) (json : Data) (add other tag version : Option Data) → put (codes "tag") json (parts_data holder add other tag version) ≡ parts_data holder add other (Some json) version
put_tag holder json add other tag version =
    past (codes "tag") (records_name holder) json add _ (tag_past holder).0
    ∙ ap (with_named (records_name holder) add) (past (codes "tag") (other_name holder) json other _ (tag_past holder).1 ∙ ap (with_named (other_name holder) other) (tag_here json tag version))

other_here : (holder : Holder) (json : Data) (other tag version : Option Data) → put (other_name holder) json (with_named (other_name holder) other (with_named (codes "tag") tag (with_named (codes "version") version no_members)))
    ≡ with_named (other_name holder) (Some json) (with_named (codes "tag") tag (with_named (codes "version") version no_members))
other_here Cycle json None None None = refl
other_here Cycle json None None (Some version) = refl
other_here Cycle json None (Some tag) version = refl
other_here Cycle json (Some old) tag version = refl
other_here Change json None None None = refl
other_here Change json None None (Some version) = refl
other_here Change json None (Some tag) version = refl
other_here Change json (Some old) tag version = refl

put_other : (holder : Holder) (json : Data) (add other tag version : Option Data) → put (other_name holder) json (parts_data holder add other tag version) ≡ parts_data holder add (Some json) tag version
put_other holder json add other tag version =
    past (other_name holder) (records_name holder) json add _ (other_past holder) ∙ ap (with_named (records_name holder) add) (other_here holder json other tag version)

put_add : (holder : Holder) (json : Data) (other tag version : Option Data) → put (records_name holder) json (parts_data holder None other tag version) ≡ parts_data holder (Some json) other tag version
put_add Cycle json None None None = refl
put_add Cycle json None None (Some version) = refl
put_add Cycle json None (Some tag) version = refl
put_add Cycle json (Some other) tag version = refl
put_add Change json None None None = refl
put_add Change json None None (Some version) = refl
put_add Change json None (Some tag) version = refl
put_add Change json (Some other) tag version = refl

-- ---- the members that were found

pub none_found : (holder : Holder) (start : List Token) → HaveFound holder start start (record { version = None; tag = None; types = None; other = None })
none_found holder start = record { passed = []; ahead = refl; add = None; are = refl; added = (refl, All-nil (λ n. n ≡ records_name holder → ⊥)) }

not_version : (holder : Holder) → codes "version" ≡ records_name holder → ⊥
not_version Cycle e = let first = ap (λ s. get_or s 0 0) e in absurd (omega (arith, first))
not_version Change e = let first = ap (λ s. get_or s 0 0) e in absurd (omega (arith, first))

not_tag : (holder : Holder) → codes "tag" ≡ records_name holder → ⊥
not_tag Cycle e = let first = ap (λ s. get_or s 0 0) e in absurd (omega (arith, first))
not_tag Change e = let first = ap (λ s. get_or s 0 0) e in absurd (omega (arith, first))

not_other : (holder : Holder) → other_name holder ≡ records_name holder → ⊥
not_other Cycle e = let first = ap (λ s. get_or s 0 0) e in absurd (omega (arith, first))
not_other Change e = let first = ap (λ s. get_or s 0 0) e in absurd (omega (arith, first))

pub none_there : (types : Option TypeNames) → is_none types ≡ true → types ≡ None
none_there None none = refl
none_there (Some names) none = absurd cc

module _ (holder : Holder) (start now from behind : List Token) (found : FoundParts) (had : HaveFound holder start now found) where
  pub version_found : (version : Value) → now ≡ key (codes "version") ∷ from → converted of_json (value part_depth from) ≡ Some (view version, behind) → HaveFound holder start behind (record found { version = Some version })
  version_found version is reads = record {
    passed = had.passed ++ (codes "version", view version) ∷ [];
    ahead = one_ahead part_depth start now from behind had.passed (codes "version", view version) had.ahead is reads;
    add = had.add;
    are = one_put had.passed (codes "version", view version) no_members ∙ (ap (put (codes "version") (view version)) had.are ∙ put_version holder (view version) had.add _ _ _);
    added = kept_add (records_name holder) start had.passed had.add found.types (codes "version", view version) (not_version holder) had.added;
  }

  pub tag_found : (tag : Value) → now ≡ key (codes "tag") ∷ from → converted of_json (value part_depth from) ≡ Some (view tag, behind) → HaveFound holder start behind (record found { tag = Some tag })
  tag_found tag is reads = record {
    passed = had.passed ++ (codes "tag", view tag) ∷ [];
    ahead = one_ahead part_depth start now from behind had.passed (codes "tag", view tag) had.ahead is reads;
    add = had.add;
    are = one_put had.passed (codes "tag", view tag) no_members ∙ (ap (put (codes "tag") (view tag)) had.are ∙ put_tag holder (view tag) had.add _ _ _);
    added = kept_add (records_name holder) start had.passed had.add found.types (codes "tag", view tag) (not_tag holder) had.added;
  }

  pub other_found : (other : Value) → now ≡ key (other_name holder) ∷ from → converted of_json (value part_depth from) ≡ Some (view other, behind) → HaveFound holder start behind (record found { other = Some other })
  other_found other is reads = record {
    passed = had.passed ++ (other_name holder, view other) ∷ [];
    ahead = one_ahead part_depth start now from behind had.passed (other_name holder, view other) had.ahead is reads;
    add = had.add;
    are = one_put had.passed (other_name holder, view other) no_members ∙ (ap (put (other_name holder) (view other)) had.are ∙ put_other holder (view other) had.add _ _ _);
    added = kept_add (records_name holder) start had.passed had.add found.types (other_name holder, view other) (not_other holder) had.added;
  }

  pub add_found : (inside : List Token) (names : TypeNames) → found.types ≡ None → now ≡ key (records_name holder) ∷ from → from ≡ begin_object ∷ inside → (types : List Typed) × AreListed inside types behind × AreNames names types
      → HaveFound holder start behind (record found { types = Some names })
  add_found inside names none is opened (types, listed, are_names) =
      let name = records_name holder in
      let below : 0 < part_depth = omega arith in
      let within : length inside ≤ length inside = omega arith in
      let json = object (with_types types no_members) in
      let none_before = subst (IsAdd name start had.passed had.add) none had.added in
      let other = option_map view found.other in
      let tag = option_map view found.tag in
      let version = option_map view found.version in
      let reads : converted of_json (value part_depth from) ≡ Some (json, behind) =
      ap (λ ts. converted of_json (value part_depth ts)) opened
      ∙ (ap (converted of_json) (value-begin_object part_depth inside below)
      ∙ (converted-object (members (value 124) (length inside) inside) ∙ ap (parse_map object) (listed_json types inside behind (length inside) no_members within listed))) in
      record {
        passed = had.passed ++ (name, json) ∷ [];
        ahead = one_ahead part_depth start now from behind had.passed (name, json) had.ahead is reads;
        add = Some json;
        are = one_put had.passed (name, json) no_members ∙ (ap (put name json) (had.are ∙ ap (λ add. parts_data holder add other tag version) none_before.0) ∙ put_add holder json other tag version);
        added = (
          types,
          refl,
          are_names,
          record {
            front = had.passed;
            inside = inside;
            behind = behind;
            ahead = subst (AreMembers part_depth start had.passed) (is ∙ ap (λ ts. key name ∷ ts) opened) had.ahead;
            none = none_before.1;
            listed = listed;
          },
        );
      }
