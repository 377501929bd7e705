use Rattle.std.proofs.Common.{ap, sym, ◌∙◌, is_some}
use Rattle.std.specs.Option.{option_copied}
use Rattle.ordinal_map.specs.KeptRows.{row_under}
use Rattle.ordinal_map.proofs.Keeping.{agree_seen, seen_holds, seen_taken}
use Rattle.ordinal_map.proofs.map.OrdinalMap.row.Goals as goal

pub unreachable-requires : goal.unreachable-requires
unreachable-requires c =
    let live = seen_taken c.self.inside.rows.items c.self.inside.chains c.self.inside.previous c.self.inside.current c.self.inside.filled c.self.invariant c.args.self.now c.self.view_is c.args.ordinal c.requires in
    let none = ap (λ row. is_some (option_copied row)) c.in-None.is in
    let same = ap is_some (c.row_at.ensures ∙ ap (λ rows. row_under rows c.args.ordinal) c.as_slice.ensures.value) in
    let e = sym live ∙ sym same ∙ none in
    absurd cc

pub returns : goal.returns
returns c = record {
  row = seen_holds c.self.inside.rows.items c.self.inside.chains c.self.inside.previous c.self.inside.current c.self.inside.filled c.self.invariant c.args.self.now c.self.view_is c.in-Some.row.now c.args.ordinal
      (sym (ap (λ rows. row_under rows c.args.ordinal) c.as_slice.ensures.value) ∙ sym c.row_at.ensures ∙ ap option_copied c.in-Some.is);
  agree = agree_seen c.self.inside.rows.items c.self.inside.chains c.self.inside.previous c.self.inside.current c.self.inside.filled c.args.self.now c.self.invariant c.self.view_is;
}
