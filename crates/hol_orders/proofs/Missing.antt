-- Where a part of a thing is missing in JSON, the thing is.
use Rattle.std.proofs.Common.{◌≡◌, Result, Ok, Err, sym, subst}
use Rattle.std.specs.Prelude.{IsErrAnd}
use Rattle.serde_json.specs.Data.{Data}
use Rattle.hol_orders.specs.declared.order.OrderFault.{OrderFault}
use Rattle.hol_orders.specs.declared.order.OrderFault.TheVariants.{BadOrder, Memory}
use Rattle.hol_orders.specs.Spelling.{Finds, Lacks, Spelling}

-- an answer that is this fault tells what the fault tells
pub found_none : {U B : Type 0} (whole : Spelling B) (of : U → B) (json : Data) (r : Result U OrderFault) (fault : OrderFault) → IsErrAnd r (λ e. e ≡ fault) →
    Lacks whole json fault → Finds whole of json r
found_none whole of json (Ok thing) fault is none = absurd is
found_none whole of json (Err other) fault is none = subst (λ e. Lacks whole json e) (sym is) none

-- each thing that the whole spells has the part, and none is found in the part
lacks_whole : {A B : Type 0} (part : Spelling A) (whole : Spelling B) (inside json : Data) (fault : OrderFault) →
    ((thing : B) → whole.Fits thing → whole.spelled thing ≡ json → (a : A) × part.Fits a × (part.spelled a ≡ inside)) → Lacks part inside fault → Lacks whole json fault
lacks_whole part whole inside json Memory has none = tt
lacks_whole part whole inside json BadOrder has none = λ thing fits same. none (has thing fits same).0 (has thing fits same).1 (has thing fits same).2

pub no_whole : {A U B : Type 0} (part : Spelling A) (whole : Spelling B) (of : U → B) (inside json : Data)
    (r : Result U OrderFault) (fault : OrderFault) → IsErrAnd r (λ e. e ≡ fault) →
    ((thing : B) → whole.Fits thing → whole.spelled thing ≡ json → (a : A) × part.Fits a × (part.spelled a ≡ inside)) →
    Lacks part inside fault → Finds whole of json r
no_whole part whole of inside json r fault is has none = found_none whole of json r fault is (lacks_whole part whole inside json fault has none)
