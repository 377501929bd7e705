-- Pairs, triples and what a cycle and a change ask for: where a part is missing, so is the whole.
use Rattle.std.proofs.Common.{Bool, Option, ◌≡◌, [], ◌∷◌, Result, Ok, Err, refl, sym, subst}
use Rattle.std.specs.Prelude.{IsErrAnd}
use Rattle.serde_json.specs.Data.{Data, number}
use Rattle.serde_json.specs.Find.{of_integer}
use Rattle.hol_orders.specs.declared.order.NextState.{NextState}
use Rattle.hol_orders.specs.declared.order.OrderFault.{OrderFault}
use Rattle.hol_orders.specs.declared.order.OrderFault.TheVariants.{BadOrder, Memory}
use Rattle.hol_orders.specs.Kind.{state}
use Rattle.hol_orders.specs.Parts.{AskedState, asked_state, state_asked, state_data, triple, whole}
use Rattle.hol_orders.specs.Shapes.{AreRecords}
use Rattle.hol_orders.specs.Spelling.{Finds, Lacks, Spelling, json as json_of, pair_of, triple_of}
use Rattle.hol_orders.specs.Taken.{TellsItems, TellsState, TellsThree}
use Rattle.hol_orders.proofs.Missing.{no_whole}

-- where an array has not two items, it is no pair
pub no_pair : {T A B : Type 0} (first : Spelling A) (second : Spelling B) (asked : T → A × B) (json : Data) (r : Result T OrderFault) (fault : OrderFault) →
    IsErrAnd r (λ e. e ≡ fault) → TellsItems 2 json (Err fault) → Finds (pair_of first second) asked json r
no_pair first second asked json (Ok both) fault is none = absurd is
no_pair first second asked json (Err Memory) fault is none = tt
no_pair first second asked json (Err BadOrder) fault is none =
    let told = subst (λ e. TellsItems 2 json (Err e)) (sym is) none in
    λ both fits same. told (first.spelled both.0 ∷ second.spelled both.1 ∷ []) refl same

-- where an array has not three items, it is no triple
pub no_triple : {T A B C : Type 0} (first : Spelling A) (second : Spelling B) (third : Spelling C) (asked : T → A × B × C) (json : Data) (r : Result T OrderFault)
    (fault : OrderFault) → IsErrAnd r (λ e. e ≡ fault) → TellsThree triple json (Err fault) → Finds (triple_of first second third) asked json r
no_triple first second third asked json (Ok all) fault is none = absurd is
no_triple first second third asked json (Err Memory) fault is none = tt
no_triple first second third asked json (Err BadOrder) fault is none =
    let told = subst (λ e. TellsThree triple json (Err e)) (sym is) none in
    λ all fits same. told (first.spelled all.0) (second.spelled all.1) (third.spelled all.2) same

-- nor is it one where an item is none of those that are sought
same_parts : (a b c x y z json : Data) → triple a b c ≡ json → triple x y z ≡ json → (a ≡ x) × (b ≡ y) × (c ≡ z)
same_parts a b c x y z json e f = let same : triple a b c ≡ triple x y z = cc in (cc, cc, cc)

pub no_first : {T A B C : Type 0} (first : Spelling A) (second : Spelling B) (third : Spelling C) (asked : T → A × B × C) (json : Data) (r : Result T OrderFault)
    (fault : OrderFault) → IsErrAnd r (λ e. e ≡ fault) → (x y z : Data) → triple x y z ≡ json → Lacks first x fault → Finds (triple_of first second third) asked json r
no_first first second third asked json r fault is x y z there none =
    no_whole first (triple_of first second third) asked x json r fault is
    (λ all fits same. (all.0, fits.0, (same_parts (first.spelled all.0) (second.spelled all.1) (third.spelled all.2) x y z json same there).0)) none

pub no_second : {T A B C : Type 0} (first : Spelling A) (second : Spelling B) (third : Spelling C) (asked : T → A × B × C) (json : Data) (r : Result T OrderFault)
    (fault : OrderFault) → IsErrAnd r (λ e. e ≡ fault) → (x y z : Data) → triple x y z ≡ json → Lacks second y fault → Finds (triple_of first second third) asked json r
no_second first second third asked json r fault is x y z there none =
    no_whole second (triple_of first second third) asked y json r fault is
    (λ all fits same. (all.1, fits.1, (same_parts (first.spelled all.0) (second.spelled all.1) (third.spelled all.2) x y z json same there).1)) none

pub no_third : {T A B C : Type 0} (first : Spelling A) (second : Spelling B) (third : Spelling C) (asked : T → A × B × C) (json : Data) (r : Result T OrderFault)
    (fault : OrderFault) → IsErrAnd r (λ e. e ≡ fault) → (x y z : Data) → triple x y z ≡ json → Lacks third z fault → Finds (triple_of first second third) asked json r
no_third first second third asked json r fault is x y z there none =
    no_whole third (triple_of first second third) asked z json r fault is
    (λ all fits same. (all.2, fits.2, (same_parts (first.spelled all.0) (second.spelled all.1) (third.spelled all.2) x y z json same there).2)) none

-- what a cycle asks for has an object of arrays
pub no_records : (json add : Data) (said : Option Bool) (tag version : Data) (r : Result NextState OrderFault) (fault : OrderFault) → IsErrAnd r (λ e. e ≡ fault) →
    state_data add said tag version ≡ json → Lacks (json_of AreRecords) add fault → Finds state asked_state json r
no_records json add said tag version r fault is there none =
    no_whole (json_of AreRecords) state asked_state add json r fault is (λ next fits same. (next.add, fits.2, same_add next same)) none
  where
    same_add : (next : AskedState) → state_asked next ≡ json → next.add ≡ add
    same_add next same = cc

-- nor is anything asked for by an object of other members
pub no_state : (json : Data) (r : Result NextState OrderFault) (fault : OrderFault) → IsErrAnd r (λ e. e ≡ fault) → TellsState json (Err fault) → Finds state asked_state json r
no_state json (Ok next) fault is none = absurd is
no_state json (Err Memory) fault is none = tt
no_state json (Err BadOrder) fault is none =
    let told : TellsState json (Err BadOrder) = subst (λ e. TellsState json (Err e)) (sym is) none in
    λ asked fits same. told asked.add asked.snapshot (number (of_integer asked.tag)) (whole asked.version) same
