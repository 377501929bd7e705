-- The next one of the records that are ahead.
use Rattle.std.proofs.Common.{◌≡◌, ◌∙◌, zero, suc, ◌-◌, List, [], ◌∷◌, Option, Some, None, refl, sym, ap, subst, arith}
use Rattle.json.specs.Token.{Token}
use Rattle.json.specs.Json.{after_end_array, items, items_step, parse_map, value}
use Rattle.json.proofs.Found.{Some_inj}
use Rattle.serde_json.specs.Data.{Data, Items, item, no_items}
use Rattle.serde_json.specs.Read.{converted, of_items, of_json}
use Rattle.serde_json.specs.View.{items_of}
use Rattle.record_stream.specs.Records.{AreAhead, record_depth}
use Rattle.record_stream.proofs.Converted.{item_read, item_refused}

abbrev IsNone : {A : Type 0} → Option A → Type 0
IsNone None = Unit {0}
IsNone (Some a) = ⊥

pub none_or_some : {A : Type 0} (a : A) → None ≡ Some a → ⊥
none_or_some a e = subst IsNone e tt

-- items are those of a list
pub listed : (found : Items) → (records : List Data) × (items_of records ≡ found)
listed no_items = ([], refl)
listed (item d found) = let more = listed found in (d ∷ more.0, ap (item d) more.1)

none_listed : (records : List Data) → items_of records ≡ no_items → records ≡ []
none_listed [] e = refl
none_listed (d ∷ records) e = absurd cc

abbrev first_or : Data → Items → Data
first_or d no_items = d
first_or d (item first found) = first

abbrev others_of : Items → Items
others_of no_items = no_items
others_of (item first found) = found

one_listed : (records : List Data) (d : Data) (found : Items) → items_of records ≡ item d found → (others : List Data) × (records ≡ d ∷ others) × (items_of others ≡ found)
one_listed [] d found e = absurd cc
one_listed (first ∷ others) d found e = (others, ap (λ x. x ∷ others) (ap (first_or d) e), ap others_of e)

mapped : (d : Data) (o : Option (Items × List Token)) (found : Items) (rest : List Token) → parse_map (item d) o ≡ Some (found, rest) → (more : Items) × (found ≡ item d more) × (o ≡ Some (more, rest))
mapped d None found rest e = absurd cc
mapped d (Some (more, left)) found rest e =
    let same : (item d more, left) ≡ (found, rest) = Some_inj (item d more, left) (found, rest) e in
    (more, sym (ap (λ (p : Items × List Token). p.0) same), ap (λ (l : List Token). Some (more, l)) (ap (λ (p : Items × List Token). p.1) same))

pub ended : (old new : List Token) (records : List Data) (rest : List Token) → after_end_array old ≡ Some new → AreAhead old records rest → (records ≡ []) × (new ≡ rest)
unfolding items
ended old new records rest over (zero, e) = absurd cc
ended old new records rest over (suc n, e) =
    let p = value record_depth in
    let none : converted of_items (items p (suc n) old) ≡ Some (no_items, new) = ap (λ o. converted of_items (items_step p (items p n) old o)) over in
    let same : (no_items, new) ≡ (items_of records, rest) = Some_inj (no_items, new) (items_of records, rest) (sym none ∙ e) in
    (none_listed records (sym (ap (λ (q : Items × List Token). q.0) same)), ap (λ (q : Items × List Token). q.1) same)

pub stepped : (old new : List Token) (d : Data) (records : List Data) (rest : List Token) → after_end_array old ≡ None → converted of_json (value record_depth old) ≡ Some (d, new)
    → AreAhead old records rest → (others : List Data) × (records ≡ d ∷ others) × AreAhead new others rest
unfolding items
stepped old new d records rest going read (zero, e) = absurd cc
stepped old new d records rest going read (suc n, e) =
    let p = value record_depth in
    let turn = sym (item_read p (suc n) old new d (omega arith) going read) ∙ e in
    let found = mapped d (converted of_items (items p (suc n - 1) new)) (items_of records) rest turn in
    let one = one_listed records d found.0 found.1 in
    (one.0, one.1, (suc n - 1, found.2 ∙ ap (λ (ds : Items). Some (ds, rest)) (sym one.2)))

pub unread : (old : List Token) (records : List Data) (rest : List Token) → after_end_array old ≡ None → converted of_json (value record_depth old) ≡ None → AreAhead old records rest → ⊥
unread old records rest going bad (n, e) =
    none_or_some (items_of records, rest) (sym (item_refused (value record_depth) n old going bad) ∙ e)
