-- What the members of a cycle say of its snapshot, and where a value is no such object.
use Rattle.std.proofs.Common.{◌≡◌, ◌<◌, ℕ, List, [], ◌∷◌, length, get_or, Bool, Option, Some, None, Result, Ok, Err, String, codes, refl, ap, sym, ◌∙◌, subst, arith}
use Rattle.std.specs.Prelude.{IsErrAnd}
use Rattle.std.specs.declared.alloc.Global.{Global}
use Rattle.serde_json.specs.Data.{Data, boolean, object, Members, no_members, member}
use Rattle.serde_json.specs.View.{members_view}
use Rattle.serde_json.specs.declared.value.Value.{Value}
use Rattle.record_stream.specs.CycleLine.{saying}
use Rattle.hol_orders.specs.declared.order.OrderFault.{OrderFault}
use Rattle.hol_orders.specs.declared.order.OrderFault.TheVariants.{BadOrder, Memory}
use Rattle.hol_orders.specs.Parts.{state_data, tag_and_version}
use Rattle.hol_orders.specs.Taken.{TellsNext, TellsSaid, TellsState}
use Rattle.hol_orders.proofs.Lists.{none_left}

-- the two names that can stand next are not the same
apart : (json tag : Data) (rest more : Members) → member (codes "snapshot") json rest ≡ member (codes "tag") tag more → ⊥
apart json tag rest more same =
    let names : codes "snapshot" ≡ codes "tag" = cc in
    let first = ap (λ name. get_or name 0 0) names in
    omega (arith, first)

pub said_once : (one other : Option Bool) (tag version tag' version' : Data) → saying one (tag_and_version tag version) ≡ saying other (tag_and_version tag' version')
    → (one ≡ other) × (tag ≡ tag') × (version ≡ version')
said_once None None tag version tag' version' same = (refl, cc, cc)
said_once None (Some b) tag version tag' version' same = absurd (apart (boolean b) tag (tag_and_version tag' version') (member (codes "version") version no_members) (sym same))
said_once (Some b) None tag version tag' version' same = absurd (apart (boolean b) tag' (tag_and_version tag version) (member (codes "version") version' no_members) same)
said_once (Some b) (Some c) tag version tag' version' same = (cc, cc, cc)

-- ---- the member that says so

three_left : (entries : List (String Global × Value)) (k l m : List ℕ) (x y z : Data) → members_view entries ≡ member k x (member l y (member m z no_members)) → length entries < 3 → ⊥
three_left [] k l m x y z e few = cc
three_left (a ∷ []) k l m x y z e few = cc
three_left (a ∷ b ∷ []) k l m x y z e few = cc
three_left (a ∷ b ∷ c ∷ rest) k l m x y z e few = omega (arith, few)

two_left : (entries : List (String Global × Value)) (k l : List ℕ) (x y : Data) → members_view entries ≡ member k x (member l y no_members) → length entries < 3
two_left [] k l x y e = cc
two_left (a ∷ []) k l x y e = cc
two_left (a ∷ b ∷ []) k l x y e = omega arith
two_left (a ∷ b ∷ c ∷ rest) k l x y e = absurd cc

-- fewer than three members say nothing
pub none_said : (entries : List (String Global × Value)) → length entries < 3 → TellsSaid (members_view entries) (members_view entries) (Ok None)
none_said entries few = (refl, read)
  where
    read : (snapshot : Option Bool) (tag version : Data) → members_view entries ≡ saying snapshot (tag_and_version tag version) → members_view entries ≡ tag_and_version tag version
    read None tag version same = same
    read (Some b) tag version same = absurd (three_left entries (codes "snapshot") (codes "tag") (codes "version") (boolean b) tag version same few)

-- three members or more of which the first is another one
pub no_said : (entries : List (String Global × Value)) (after : Members) (r : Result (Option Bool) OrderFault) (fault : OrderFault) → IsErrAnd r (λ e. e ≡ fault) → (length entries < 3 → ⊥)
    → TellsNext (codes "snapshot") (members_view entries) after (Err fault) → TellsSaid (members_view entries) after r
no_said entries after (Ok said) fault is many none = absurd is
no_said entries after (Err Memory) fault is many none =
    let told : TellsNext (codes "snapshot") (members_view entries) after (Err Memory) = subst (λ e. TellsNext (codes "snapshot") (members_view entries) after (Err e)) (sym is) none in
    absurd told
no_said entries after (Err BadOrder) fault is many none = says_none
  where
    told : TellsNext (codes "snapshot") (members_view entries) after (Err BadOrder)
    told = subst (λ e. TellsNext (codes "snapshot") (members_view entries) after (Err e)) (sym is) none

    says_none : (snapshot : Option Bool) (tag version : Data) → members_view entries ≡ saying snapshot (tag_and_version tag version) → ⊥
    says_none None tag version same = many (two_left entries (codes "tag") (codes "version") tag version same)
    says_none (Some b) tag version same = told (boolean b) (tag_and_version tag version) same

-- ---- an object that is none of a cycle

module _ (json add : Data) (m0 m1 m2 : Members) (there : json ≡ object m0) (one : m0 ≡ member (codes "add") add m1) where
  inside : (a : Data) (s : Option Bool) (t v : Data) → state_data a s t v ≡ json → m1 ≡ saying s (tag_and_version t v)
  inside a s t v same = let whole : object (member (codes "add") a (saying s (tag_and_version t v))) ≡ object (member (codes "add") add m1) = same ∙ there ∙ ap object one in cc

  pub no_state_said : (r : Result (Value × Option Bool × Value × Value) OrderFault) (fault : OrderFault) → IsErrAnd r (λ e. e ≡ fault) → TellsSaid m1 m2 (Err fault) → TellsState json r
  no_state_said (Ok found) fault is none = absurd is
  no_state_said (Err Memory) fault is none = let told : TellsSaid m1 m2 (Err Memory) = subst (λ e. TellsSaid m1 m2 (Err e)) (sym is) none in absurd told
  no_state_said (Err BadOrder) fault is none =
      let told : TellsSaid m1 m2 (Err BadOrder) = subst (λ e. TellsSaid m1 m2 (Err e)) (sym is) none in
      λ a s t v same. told s t v (inside a s t v same)

  module _ (said : Option Bool) (two : TellsSaid m1 m2 (Ok said)) where
    left : (a : Data) (s : Option Bool) (t v : Data) → state_data a s t v ≡ json → m2 ≡ tag_and_version t v
    left a s t v same = two.1 s t v (inside a s t v same)

    pub no_state_tag : (m3 : Members) (r : Result (Value × Option Bool × Value × Value) OrderFault) (fault : OrderFault) → IsErrAnd r (λ e. e ≡ fault)
        → TellsNext (codes "tag") m2 m3 (Err fault) → TellsState json r
    no_state_tag m3 (Ok found) fault is none = absurd is
    no_state_tag m3 (Err Memory) fault is none =
        let told : TellsNext (codes "tag") m2 m3 (Err Memory) = subst (λ e. TellsNext (codes "tag") m2 m3 (Err e)) (sym is) none in
        absurd told
    no_state_tag m3 (Err BadOrder) fault is none =
        let told : TellsNext (codes "tag") m2 m3 (Err BadOrder) = subst (λ e. TellsNext (codes "tag") m2 m3 (Err e)) (sym is) none in
        λ a s t v same. told t (member (codes "version") v no_members) (left a s t v same)

    module _ (m3 : Members) (tag : Data) (three : m2 ≡ member (codes "tag") tag m3) where
      behind : (a : Data) (s : Option Bool) (t v : Data) → state_data a s t v ≡ json → m3 ≡ member (codes "version") v no_members
      behind a s t v same = let both = sym three ∙ left a s t v same in cc

      pub no_state_version : (m4 : Members) (r : Result (Value × Option Bool × Value × Value) OrderFault) (fault : OrderFault) → IsErrAnd r (λ e. e ≡ fault)
          → TellsNext (codes "version") m3 m4 (Err fault) → TellsState json r
      no_state_version m4 (Ok found) fault is none = absurd is
      no_state_version m4 (Err Memory) fault is none =
          let told : TellsNext (codes "version") m3 m4 (Err Memory) = subst (λ e. TellsNext (codes "version") m3 m4 (Err e)) (sym is) none in
          absurd told
      no_state_version m4 (Err BadOrder) fault is none =
          let told : TellsNext (codes "version") m3 m4 (Err BadOrder) = subst (λ e. TellsNext (codes "version") m3 m4 (Err e)) (sym is) none in
          λ a s t v same. told v no_members (behind a s t v same)

      pub no_state_more : (left : List (String Global × Value)) (version : Data) → m3 ≡ member (codes "version") version (members_view left) → (length left ≡ 0 → ⊥)
          → (a : Data) (s : Option Bool) (t v : Data) → state_data a s t v ≡ json → ⊥
      no_state_more left version four more a s t v same =
          let both = sym four ∙ behind a s t v same in
          let rest : members_view left ≡ no_members = cc in
          more (none_left left rest)
