-- What is asked for is spelled in one way: of what is spelled alike, the same is asked for.
use Rattle.std.proofs.Common.{◌≡◌, ℤ, pos, negsuc, refl, ap, subst}
use Rattle.serde_json.specs.Data.{Data, number}
use Rattle.serde_json.specs.Find.{of_integer}
use Rattle.record_stream.specs.CycleLine.{saying}
use Rattle.json_values.specs.SchemaJson.{AreSchemas}
use Rattle.hol_orders.specs.declared.kind.Kind.{Kind}
use Rattle.hol_orders.specs.declared.order.Order.{Order}
use Rattle.hol_orders.specs.Kind.{IsAny, bound, change, shape, state, step, truth, walk}
use Rattle.hol_orders.specs.Order.{asked_of, asking, asks, content_of, kind_of}
use Rattle.hol_orders.specs.Parts.{tag_and_version, whole}
use Rattle.hol_orders.specs.Shapes.{ArePaths, IsArray}
use Rattle.hol_orders.specs.Spelling.{IsOneWay, Spelling, json, ordinal, pair_of, text, triple_of, version}
use Rattle.hol_orders.proofs.Saying.{said_once}
use Rattle.hol_orders.proofs.Walks.{one_list}

one_json : (Fits : Data → Type 0) → IsOneWay (json Fits)
one_json Fits one other same = same

one_text : IsOneWay text
one_text one other same = cc

one_version : IsOneWay version
one_version one other same = cc

one_ordinal : IsOneWay ordinal
one_ordinal one other same = cc

one_bound : IsOneWay bound
one_bound one other same = cc

one_pair : {A B : Type 0} (first : Spelling A) (second : Spelling B) → IsOneWay first → IsOneWay second → IsOneWay (pair_of first second)
one_pair first second one_first one_second one other same =
    let a : first.spelled one.0 ≡ first.spelled other.0 = cc in
    let b : second.spelled one.1 ≡ second.spelled other.1 = cc in
    λ i. (one_first one.0 other.0 a i, one_second one.1 other.1 b i)

one_triple : {A B C : Type 0} (first : Spelling A) (second : Spelling B) (third : Spelling C) → IsOneWay first → IsOneWay second → IsOneWay third →
    IsOneWay (triple_of first second third)
one_triple first second third one_first one_second one_third one other same =
    let a : first.spelled one.0 ≡ first.spelled other.0 = cc in
    let b : second.spelled one.1 ≡ second.spelled other.1 = cc in
    let c : third.spelled one.2 ≡ third.spelled other.2 = cc in
    λ i. (one_first one.0 other.0 a i, one_second one.1 other.1 b i, one_third one.2 other.2 c i)

one_integer : (y z : ℤ) → of_integer y ≡ of_integer z → y ≡ z
one_integer (pos m) (pos n) same = cc
one_integer (pos m) (negsuc n) same = cc
one_integer (negsuc m) (pos n) same = cc
one_integer (negsuc m) (negsuc n) same = cc

one_state : IsOneWay state
one_state one other same =
    let add : one.add ≡ other.add = cc in
    let left : saying one.snapshot (tag_and_version (number (of_integer one.tag)) (whole one.version)) ≡ saying other.snapshot (tag_and_version (number (of_integer other.tag)) (whole other.version)) = cc in
    let rest = said_once one.snapshot other.snapshot (number (of_integer one.tag)) (whole one.version) (number (of_integer other.tag)) (whole other.version) left in
    let tags = rest.1 in
    let versions = rest.2 in
    let tag : one.tag ≡ other.tag = one_integer one.tag other.tag cc in
    let version : one.version ≡ other.version = cc in
    λ i. record { version = version i; tag = tag i; add = add i; snapshot = rest.0 i }

one_change : IsOneWay change
one_change one other same =
    let put : one.put ≡ other.put = cc in
    let remove : one.remove ≡ other.remove = cc in
    let tag : one.tag ≡ other.tag = one_integer one.tag other.tag cc in
    let version : one.version ≡ other.version = cc in
    λ i. record { version = version i; tag = tag i; put = put i; remove = remove i }

one_step : IsOneWay step
one_step one other same = one_pair version version one_version one_version one other same

one_walk : IsOneWay walk
one_walk one other same = one_list one other cc

one_truth : IsOneWay truth
one_truth one other same = refl

one_content : (kind : Kind) → IsOneWay (shape kind).spelling
one_content Kind.Model = one_json AreSchemas
one_content Kind.Cycle = one_state
one_content Kind.Restore = one_version
one_content Kind.Load = one_version
one_content Kind.Step = one_step
one_content Kind.Index = one_pair text (json ArePaths) one_text (one_json ArePaths)
one_content Kind.Get = one_pair text (json IsArray) one_text (one_json IsArray)
one_content Kind.Find = one_triple text (json ArePaths) (json IsArray) one_text (one_json ArePaths) (one_json IsArray)
one_content Kind.Live = one_text
one_content Kind.Row = one_pair text ordinal one_text one_ordinal
one_content Kind.Has = one_triple text ordinal ordinal one_text one_ordinal one_ordinal
one_content Kind.At = one_triple text ordinal ordinal one_text one_ordinal one_ordinal
one_content Kind.Past = one_text
one_content Kind.Check = one_walk
one_content Kind.Stat = one_truth
one_content Kind.Grow = one_json AreSchemas
one_content Kind.Plan = one_version
one_content Kind.Goto = one_version
one_content Kind.Change = one_change
one_content Kind.WalkIndex = one_pair text text one_text one_text
one_content Kind.WalkFind = one_triple text text (json IsAny) one_text one_text (one_json IsAny)
one_content Kind.History = one_bound
one_content Kind.Was = one_triple version text ordinal one_version one_text one_ordinal
one_content Kind.WasGet = one_triple version text (json IsArray) one_version one_text (one_json IsArray)

-- orders of one kind that are spelled alike ask for the same
abbrev AreAlike : Kind → Kind → Type 0
AreAlike k j = (one : (shape k).Asked) (other : (shape j).Asked) → (shape k).spelling.spelled one ≡ (shape j).spelling.spelled other → asks k one ≡ asks j other

alike : (kind : Kind) → AreAlike kind kind
alike k one other same = ap (asks k) (one_content k one other same)

pub one_asking : (one other : Order) → kind_of one ≡ kind_of other → content_of one ≡ content_of other → asking one ≡ asking other
one_asking one other kinds contents = subst (AreAlike (kind_of one)) kinds (alike (kind_of one)) (asked_of one) (asked_of other) contents
