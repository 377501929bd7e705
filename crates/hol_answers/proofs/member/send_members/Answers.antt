use Rattle.std.proofs.Common.{◌≡◌, ◌+◌, [], ◌∷◌, drop, sym, ap, ◌∙◌, subst, arith, refl}
use Rattle.std.proofs.lemmas.List.{drop_more, drop_all}
use Rattle.hol_answers.specs.Content.{content_data, members_before}
use Rattle.hol_answers.specs.Sent.{SendsMembersPlain}
use Rattle.hol_answers.proofs.Sent.{member_sent}
use Rattle.hol_answers.proofs.member.send_members.Goals as goal

pub loop-member-preserved : goal.loop-member-preserved
loop-member-preserved g c = λ rest end others.
    let l = c.loop-member in
    let members = c.args.members.now in
    let m = c.member-item.result in
    let later = drop (l.member-index + 1) members in
    let here : drop l.member-index members ≡ m ∷ later =
    drop_more members l.member-index m (omega arith) ∙ ap (λ y. y ∷ later) (sym c.member-item.is) in
    let old = g.S.Serializer.written l.out in
    let named = g.S.Serializer.written c.key.new.self in
    let mid = g.S.Serializer.written c.send.new.out in
    let one = member_sent m.0.now (content_data m.1) (members_before later rest) old named mid end c.in_ok-key.ensures (c.in_ok-send.ensures (content_data m.1) refl) others in
    l.invariant rest end (subst (λ ms. SendsMembersPlain (members_before ms rest) old end) (sym here) one)

pub returns : goal.returns
returns g c = λ rest end others.
    let l = c.loop-member in
    let none : drop l.member-index c.args.members.now ≡ [] = drop_all l.member-index c.args.members.now (omega arith) in
    l.invariant rest end (subst (λ ms. SendsMembersPlain (members_before ms rest) (g.S.Serializer.written l.out) end) (sym none) others)
