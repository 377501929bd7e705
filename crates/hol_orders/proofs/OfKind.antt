-- Where nothing is found that a kind of orders asks for, no order of the kind is.
use Rattle.std.proofs.Common.{◌≡◌, ◌↔◌, Bool, true, false, ℕ, Result, Ok, Err, refl, ap, sym, ◌∙◌, subst}
use Rattle.std.specs.Prelude.{IsErrAnd, IsTrue}
use Rattle.serde_json.specs.Data.{Data, boolean}
use Rattle.hol_orders.specs.declared.kind.Kind.{Kind}
use Rattle.hol_orders.specs.declared.order.Order.{Order}
use Rattle.hol_orders.specs.declared.order.Order.TheVariants.{Stat}
use Rattle.hol_orders.specs.declared.order.OrderFault.{OrderFault}
use Rattle.hol_orders.specs.declared.order.OrderFault.TheVariants.{BadOrder, Memory}
use Rattle.hol_orders.specs.Kind.{shape, step}
use Rattle.hol_orders.specs.Order.{FindsOrder}
use Rattle.hol_orders.specs.Parts.{pair, whole}
use Rattle.hol_orders.specs.Shapes.{IsTruth}
use Rattle.hol_orders.specs.Spelling.{Lacks, pair_of, version}

pub none_asked : (kind : Kind) (json : Data) (r : Result Order OrderFault) (fault : OrderFault) → IsErrAnd r (λ e. e ≡ fault) →
    Lacks (shape kind).spelling json fault → FindsOrder kind json r
none_asked which json (Ok order) fault is none = absurd is
none_asked which json (Err other) fault is none = subst (λ e. Lacks (shape which).spelling json e) (sym is) none

-- where two versions are missing, so is a step
pub no_step : (json : Data) (r : Result Order OrderFault) (fault : OrderFault) → IsErrAnd r (λ e. e ≡ fault) → Lacks (pair_of version version) json fault →
    FindsOrder Kind.Step json r
no_step json r fault is none = none_asked Kind.Step json r fault is (no_pair fault none)
  where
    no_pair : (e : OrderFault) → Lacks (pair_of version version) json e → Lacks step json e
    no_pair Memory none = tt
    no_pair BadOrder none = λ both fits same. none both (fits.0, fits.1) same

-- neither does `step` lead to where it leads from
pub no_still : (from to : ℕ) (json : Data) → from ≡ to → pair (whole from) (whole to) ≡ json → FindsOrder Kind.Step json (Err BadOrder)
no_still from to json same found = λ asked fits is.
    (let first : asked.0 ≡ from = cc in
    let second : asked.1 ≡ to = cc in
    fits.2 (first ∙ same ∙ sym second))

-- the order `stat` has the value `true`, and no other
truth_is : (json : Data) → IsTruth json → boolean true ≡ json
truth_is (boolean b) is = ap boolean (sym is)
truth_is _ is = absurd is

pub stat_found : (json : Data) (truth : Bool) → IsTrue truth ↔ IsTruth json → truth ≡ true → FindsOrder Kind.Stat json (Ok Stat)
stat_found json truth tells is = (tt, refl, truth_is json (tells.0 (subst IsTrue (sym is) refl)))

pub no_stat : (json : Data) (truth : Bool) → IsTrue truth ↔ IsTruth json → truth ≡ false → FindsOrder Kind.Stat json (Err BadOrder)
no_stat json truth tells is = λ asked fits same. (let yes = tells.1 (subst IsTruth same refl) in absurd cc)
