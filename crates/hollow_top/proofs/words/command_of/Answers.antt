use Rattle.std.proofs.Common.{sym, subst, codes, string_bytes, arith}
use Rattle.hollow_top.specs.Words.{TellsCommand}
use Rattle.hollow_top.proofs.Orders.{is_text, runs, one, two, four}
use Rattle.hollow_top.proofs.words.command_of.Goals as goal

pub returns-in-len1 : goal.returns-in-len1
returns-in-len1 c =
    let order = is_text (string_bytes c.order-item.result) _ (codes "run") _ c.as_str.ensures.value c.eq.ensures c.if-eq.true in
    runs _ (one string_bytes c.args.words.now c.order-item.result _ (omega arith) (omega arith) c.order-item.is order)

pub returns-in-len2 : goal.returns-in-len2
returns-in-len2 c =
    let order = is_text (string_bytes c.order-item-then-words-lt3.result) _ (codes "head") _ c.as_str-then-words-lt3.ensures.value c.eq-then-words-lt3.ensures c.if-eq-2.true in
    let words = two string_bytes c.args.words.now c.order-item-then-words-lt3.result c.name-item.result _ _ (omega arith) (omega arith) c.order-item-then-words-lt3.is c.name-item.is order (sym c.as_str-in-len2.ensures.value) in
    subst (λ ws. TellsCommand ws c.head_of.result) (sym words) c.head_of.ensures

pub returns-in-len2-2 : goal.returns-in-len2-2
returns-in-len2-2 c =
    let order = is_text (string_bytes c.order-item-then-words-lt3-2.result) _ (codes "show") _ c.as_str-then-words-lt3-2.ensures.value c.eq-then-words-lt3-2.ensures c.if-eq-3.true in
    let words = two string_bytes c.args.words.now c.order-item-then-words-lt3-2.result c.name-item-then-words-lt3.result _ _ (omega arith) (omega arith) c.order-item-then-words-lt3-2.is c.name-item-then-words-lt3.is order (sym c.as_str-in-len2-2.ensures.value) in
    subst (λ ws. TellsCommand ws c.show_of.result) (sym words) c.show_of.ensures

pub returns-in-len4 : goal.returns-in-len4
returns-in-len4 c =
    let order = is_text (string_bytes c.order-item-then-words-lt5.result) _ (codes "make") _ c.as_str-then-words-lt5.ensures.value c.eq-then-words-lt5.ensures c.if-eq-4.true in
    let words = four string_bytes c.args.words.now c.order-item-then-words-lt5.result c.seed-item.result c.rows-item.result c.cycles-item.result _ _ _ _ (omega arith) (omega arith) c.order-item-then-words-lt5.is c.seed-item.is c.rows-item.is c.cycles-item.is
    order (sym c.as_str-in-len4.ensures.value) (sym c.as_str-in-len4-2.ensures.value) (sym c.as_str-in-len4-3.ensures.value) in
    subst (λ ws. TellsCommand ws c.make_of.result) (sym words) c.make_of.ensures
