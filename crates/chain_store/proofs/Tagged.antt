-- Names are looked through for a tag: one that has it is found, and none is where none has it.
use Rattle.std.proofs.Common.{◌≡◌, ℕ, ◌<◌, ◌≤◌, ◌↔◌, List, length, get_or, take, Bool, true, false, Option, None, Some, IfSome, IsTrue, subst, refl}
use Rattle.std.specs.Prelude.{All, Any}
use Rattle.std.proofs.lemmas.List.{take_all}
use Rattle.std.proofs.lemmas.List.Elements.{All-get_or}
use Rattle.hol_io.specs.declared.name.BlobName.{BlobName}
use Rattle.hol_io.specs.Store.{Store}
use Rattle.chain_store.specs.Tags.{IsTagged}

found_in : (store : Store) (bits : ℕ) (listed : List BlobName) (flag : Bool) (i : ℕ) (name : BlobName) → (IsTrue flag ↔ IsTagged store bits name) → flag ≡ true
    → i < length listed → get_or listed i name ≡ name → IsTrue true ↔ Any (IsTagged store bits) listed
found_in store bits listed flag i name tells is inside same = (λ _. (i, name, inside, same, tells.0 is), λ _. refl)

pub tagged_found : (now held : Option Store) (bits : ℕ) (listed : List BlobName) (flag : Bool) (i : ℕ) (name : BlobName) → now ≡ held
    → IfSome now (λ store. IsTrue flag ↔ IsTagged store bits name) → flag ≡ true → i < length listed → get_or listed i name ≡ name
    → IfSome held (λ store. IsTrue true ↔ Any (IsTagged store bits) listed)
tagged_found now None bits listed flag i name kept tells is inside same = tt
tagged_found now (Some store) bits listed flag i name kept tells is inside same =
    found_in store bits listed flag i name (subst (λ n. IfSome n (λ s. IsTrue flag ↔ IsTagged s bits name)) kept tells) is inside same

none_in : (store : Store) (bits : ℕ) (listed : List BlobName) → All (λ name. ¬ IsTagged store bits name) listed → IsTrue false ↔ Any (IsTagged store bits) listed
none_in store bits listed none = (
  λ f. absurd cc,
  λ (k, name, inside, same, tagged).
      absurd (subst (λ other. ¬ IsTagged store bits other) same (All-get_or (λ other. ¬ IsTagged store bits other) listed k name inside none) tagged),
)

pub none_tagged : (held : Option Store) (bits : ℕ) (listed : List BlobName) (i : ℕ) → length listed ≤ i
    → IfSome held (λ store. All (λ name. ¬ IsTagged store bits name) (take i listed)) → IfSome held (λ store. IsTrue false ↔ Any (IsTagged store bits) listed)
none_tagged None bits listed i past none = tt
none_tagged (Some store) bits listed i past none = none_in store bits listed (subst (All (λ name. ¬ IsTagged store bits name)) (take_all i listed past) none)
