-- A store of bytes is one behind each line that puts bytes.
use Rattle.std.proofs.Common.{ℕ, List, [], ◌∷◌, take, Bool, true, false, cond, Option, Some, IfSome, inl, inr, sym, subst}
use Rattle.std.specs.Prelude.{All}
use Rattle.std.specs.Ordering.{is_eq}
use Rattle.std.specs.FinMap.{get, get-insert, insert}
use Rattle.std.proofs.lemmas.List.Elements.{All-head, All-tail, All-take}
use Rattle.hol_io.specs.declared.name.BlobName.{BlobName}
use Rattle.hol_io.specs.Name.{name_cmp}
use Rattle.hol_io.specs.Store.{HoldsBytes, Store}
use Rattle.hol_io.proofs.NameOrder.{name_cmp_total}
use Rattle.blob_grammar.specs.Decided.{AreBytes}
use Rattle.state_blobs.specs.Puts.{Put, put_all}
use Rattle.hol_answers.specs.declared.reply.Reply.{Reply}
use Rattle.hollow_machine.specs.Script.{LineStep}
use Rattle.hollow_machine.specs.State.{Machine}
use Rattle.hollow_machine.proofs.LinePuts.{line_puts}
use Rattle.answer_laws.specs.Scripts.{PutsBytes}

with_one : (b : Bool) (bytes : List ℕ) (o : Option (List ℕ)) → AreBytes bytes → IfSome o AreBytes → IfSome (cond b (Some bytes) o) AreBytes
with_one true bytes o one others = one
with_one false bytes o one others = others

put_bytes : (store : Store) (name : BlobName) (bytes : List ℕ) → AreBytes bytes → HoldsBytes store → HoldsBytes (insert store name bytes)
put_bytes store name bytes one others other =
    subst (λ (content : Option (List ℕ)). IfSome content AreBytes) (sym (get-insert name_cmp_total store name bytes other)) (with_one (is_eq (name_cmp other name)) bytes (get store other) one (others other))

pub all_bytes : (puts : List Put) (store : Store) → All (λ (put : Put). AreBytes put.1) puts → HoldsBytes store → HoldsBytes (put_all store puts)
all_bytes [] store are bytes = bytes
all_bytes (put ∷ puts) store are bytes =
    all_bytes puts (insert store put.0 put.1) (All-tail (λ (p : Put). AreBytes p.1) put puts are) (put_bytes store put.0 put.1 (All-head (λ (p : Put). AreBytes p.1) put puts are) bytes)

pub line_bytes : (machine next : Machine) (line : List ℕ) (answer : Reply) → HoldsBytes machine.store → PutsBytes line machine → LineStep machine line answer next → HoldsBytes next.store
line_bytes machine next line answer bytes put step =
    elim (line_puts machine next line answer step) [
      | inl same ↦ subst HoldsBytes (sym same) bytes
      | inr (puts, are, first, all) ↦
          subst HoldsBytes (sym first.put) (all_bytes (take first.count puts) machine.store (All-take (λ (p : Put). AreBytes p.1) first.count puts (put puts are)) bytes)
    ]
