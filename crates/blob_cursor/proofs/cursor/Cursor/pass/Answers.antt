use Rattle.blob_cursor.proofs.Ahead.{place_passed}
use Rattle.blob_cursor.proofs.cursor.Cursor.pass.Goals as goal

pub returns-clause-moved : goal.returns-clause-moved
returns-clause-moved c =
    let i = c.self.inside in
    place_passed i.buffer.items i.begin i.end c.args.count i.size i.at i.name c.args.self.now c.self.view_is c.requires
