use Rattle.ordinal_map.proofs.Restoring.{is_equal, is_refused, is_restored}
use Rattle.ordinal_map.proofs.map.OrdinalMap.restore_row.Goals as goal

pub returns : goal.returns
returns c =
    let agree = c.restore_hashed.ensures.agree in
    let tells = c.restore_hashed.ensures.tells in
    record {
      tells = tells;
      restored = is_restored c.args.self.now c.args.ordinal c.args.row c.restore_hashed.new.self c.restore_hashed.result tells;
      equal = is_equal c.args.self.now c.args.ordinal c.args.row c.restore_hashed.new.self c.restore_hashed.result agree tells;
      refused = is_refused c.args.self.now c.args.ordinal c.args.row c.restore_hashed.new.self c.restore_hashed.result tells;
      agree = agree;
    }
