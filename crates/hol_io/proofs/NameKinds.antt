-- The texts of names by their kinds, which differ in the first byte.
use Rattle.std.proofs.Common.{◌≡◌, ◌≢◌, ◌↔◌, ℕ, ◌<◌, ◌≤◌, List, ◌++◌, get_or, Option, Some, None, codes, refl, ap, sym, ◌∙◌, subst, arith}
use Rattle.std.specs.Fmt.{decimal}
use Rattle.std.proofs.lemmas.Fmt.{decimal_injective}
use Rattle.std.proofs.lemmas.List.{append_cancel_left}
use Rattle.hol_io.specs.declared.name.BlobName.{BlobName}
use Rattle.hol_io.specs.declared.name.BlobName.TheVariants.{Snapshot, Delta, Reverse, Announced}
use Rattle.hol_io.specs.Name.{IsName, Names, TellsVersion, TellsStep, TellsName, text_of_step}
use Rattle.hol_io.proofs.Texts.{same_step}

-- Texts whose first bytes differ are not the same.
apart : (one other : List ℕ) → get_or one 0 0 ≢ get_or other 0 0 → one ≢ other
apart one other first same = first (ap (λ t. get_or t 0 0) same)

-- After `snapshot-` stands a version.
pub snapshot_found : (text rest : List ℕ) (version : ℕ) → text ≡ codes "snapshot-" ++ rest → TellsVersion rest (Some version) → Names text (Snapshot version)
snapshot_found text rest version is told = (told.0, ap (λ t. codes "snapshot-" ++ t) told.1 ∙ sym is)

pub no_snapshot : (text rest : List ℕ) → text ≡ codes "snapshot-" ++ rest → TellsVersion rest None → TellsName text None
no_snapshot text rest is none (Snapshot version) names = none version names.0 (append_cancel_left (codes "snapshot-") (decimal version) rest (names.1 ∙ is))
no_snapshot text rest is none (Delta from to) names = apart _ _ (omega arith) (names.1 ∙ is)
no_snapshot text rest is none (Reverse from to) names = apart _ _ (omega arith) (names.1 ∙ is)
no_snapshot text rest is none Announced names = apart _ _ (omega arith) (names.1 ∙ is)

-- After `delta-` stands a step to a later version.
pub delta_found : (text rest : List ℕ) (from to : ℕ) → text ≡ codes "delta-" ++ rest → TellsStep rest (Some (from, to)) → from < to → Names text (Delta from to)
delta_found text rest from to is told later = ((told.0, told.1, later), ap (λ t. codes "delta-" ++ t) told.2 ∙ sym is)

delta_only : (text rest : List ℕ) → text ≡ codes "delta-" ++ rest → ((from to : ℕ) → IsName (Delta from to) → text_of_step from to ≢ rest) → TellsName text None
delta_only text rest is none (Snapshot version) names = apart _ _ (omega arith) (names.1 ∙ is)
delta_only text rest is none (Delta from to) names = none from to names.0 (append_cancel_left (codes "delta-") (text_of_step from to) rest (names.1 ∙ is))
delta_only text rest is none (Reverse from to) names = apart _ _ (omega arith) (names.1 ∙ is)
delta_only text rest is none Announced names = apart _ _ (omega arith) (names.1 ∙ is)

pub no_delta : (text rest : List ℕ) → text ≡ codes "delta-" ++ rest → TellsStep rest None → TellsName text None
no_delta text rest is none = delta_only text rest is (λ from to name. none from to name.0 name.1)

pub delta_back : (text rest : List ℕ) (from to : ℕ) → text ≡ codes "delta-" ++ rest → TellsStep rest (Some (from, to)) → to ≤ from → TellsName text None
delta_back text rest from to is told back = delta_only text rest is (λ begin end name same.
    let one = same_step from to begin end told.0 told.1 name.0 name.1 (told.2 ∙ sym same) in omega (arith, name.2, one.0, one.1))

-- After `reversedelta-` stands a step to an earlier version.
pub reverse_found : (text rest : List ℕ) (from to : ℕ) → text ≡ codes "reversedelta-" ++ rest → TellsStep rest (Some (from, to)) → to < from → Names text (Reverse from to)
reverse_found text rest from to is told earlier = ((told.0, told.1, earlier), ap (λ t. codes "reversedelta-" ++ t) told.2 ∙ sym is)

reverse_only : (text rest : List ℕ) → text ≡ codes "reversedelta-" ++ rest → ((from to : ℕ) → IsName (Reverse from to) → text_of_step from to ≢ rest) → TellsName text None
reverse_only text rest is none (Snapshot version) names = apart _ _ (omega arith) (names.1 ∙ is)
reverse_only text rest is none (Delta from to) names = apart _ _ (omega arith) (names.1 ∙ is)
reverse_only text rest is none (Reverse from to) names = none from to names.0 (append_cancel_left (codes "reversedelta-") (text_of_step from to) rest (names.1 ∙ is))
reverse_only text rest is none Announced names = apart _ _ (omega arith) (names.1 ∙ is)

pub no_reverse : (text rest : List ℕ) → text ≡ codes "reversedelta-" ++ rest → TellsStep rest None → TellsName text None
no_reverse text rest is none = reverse_only text rest is (λ from to name. none from to name.0 name.1)

pub reverse_forth : (text rest : List ℕ) (from to : ℕ) → text ≡ codes "reversedelta-" ++ rest → TellsStep rest (Some (from, to)) → from ≤ to → TellsName text None
reverse_forth text rest from to is told forth = reverse_only text rest is (λ begin end name same.
    let one = same_step from to begin end told.0 told.1 name.0 name.1 (told.2 ∙ sym same) in omega (arith, name.2, one.0, one.1))

-- No other text is a name's.
pub no_kind : (text : List ℕ) → text ≢ codes "announced.version" → ((rest : List ℕ) → text ≢ codes "snapshot-" ++ rest) → ((rest : List ℕ) → text ≢ codes "delta-" ++ rest) → ((rest : List ℕ) → text ≢ codes "reversedelta-" ++ rest) → TellsName text None
no_kind text a s d r (Snapshot version) names = s (decimal version) (sym names.1)
no_kind text a s d r (Delta from to) names = d (text_of_step from to) (sym names.1)
no_kind text a s d r (Reverse from to) names = r (text_of_step from to) (sym names.1)
no_kind text a s d r Announced names = a (sym names.1)

-- Names with one text are one name.
pub same_name : (text : List ℕ) (one other : BlobName) → Names text one → Names text other → one ≡ other
same_name text (Snapshot v) (Snapshot w) a b = ap Snapshot (decimal_injective v w (omega (arith, a.0.1)) (omega (arith, b.0.1)) (append_cancel_left (codes "snapshot-") (decimal v) (decimal w) (a.1 ∙ sym b.1)))
same_name text (Snapshot v) (Delta x y) a b = absurd (apart _ _ (omega arith) (a.1 ∙ sym b.1))
same_name text (Snapshot v) (Reverse x y) a b = absurd (apart _ _ (omega arith) (a.1 ∙ sym b.1))
same_name text (Snapshot v) Announced a b = absurd (apart _ _ (omega arith) (a.1 ∙ sym b.1))
same_name text (Delta u v) (Snapshot w) a b = absurd (apart _ _ (omega arith) (a.1 ∙ sym b.1))
same_name text (Delta u v) (Delta x y) a b =
    let one = same_step u v x y a.0.0 a.0.1 b.0.0 b.0.1 (append_cancel_left (codes "delta-") (text_of_step u v) (text_of_step x y) (a.1 ∙ sym b.1)) in
    λ i. Delta (one.0 i) (one.1 i)
same_name text (Delta u v) (Reverse x y) a b = absurd (apart _ _ (omega arith) (a.1 ∙ sym b.1))
same_name text (Delta u v) Announced a b = absurd (apart _ _ (omega arith) (a.1 ∙ sym b.1))
same_name text (Reverse u v) (Snapshot w) a b = absurd (apart _ _ (omega arith) (a.1 ∙ sym b.1))
same_name text (Reverse u v) (Delta x y) a b = absurd (apart _ _ (omega arith) (a.1 ∙ sym b.1))
same_name text (Reverse u v) (Reverse x y) a b =
    let one = same_step u v x y a.0.0 a.0.1 b.0.0 b.0.1 (append_cancel_left (codes "reversedelta-") (text_of_step u v) (text_of_step x y) (a.1 ∙ sym b.1)) in
    λ i. Reverse (one.0 i) (one.1 i)
same_name text (Reverse u v) Announced a b = absurd (apart _ _ (omega arith) (a.1 ∙ sym b.1))
same_name text Announced (Snapshot w) a b = absurd (apart _ _ (omega arith) (a.1 ∙ sym b.1))
same_name text Announced (Delta x y) a b = absurd (apart _ _ (omega arith) (a.1 ∙ sym b.1))
same_name text Announced (Reverse x y) a b = absurd (apart _ _ (omega arith) (a.1 ∙ sym b.1))
same_name text Announced Announced a b = refl

-- The answer is the name that the text is of, and there is none only where it is of none.
pub named : (text : List ℕ) (read : Option BlobName) → TellsName text read → (name : BlobName) → (read ≡ Some name) ↔ Names text name
named text None told name = (λ e. absurd cc, λ names. absurd (told name names))
named text (Some found) told name = (λ e. let same : found ≡ name = cc in subst (Names text) same told, λ names. ap Some (same_name text found name told names))

pub unnamed : (text : List ℕ) (read : Option BlobName) → TellsName text read → (read ≡ None) ↔ ((name : BlobName) → ¬ Names text name)
unnamed text None told = (λ e. told, λ none. refl)
unnamed text (Some found) told = (λ e. absurd cc, λ none. absurd (none found told))

pub ruleset kinds = (snapshot_found, no_snapshot, delta_found, no_delta, delta_back, reverse_found, no_reverse, reverse_forth, no_kind)
