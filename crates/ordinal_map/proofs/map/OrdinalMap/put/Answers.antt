use Rattle.ordinal_map.proofs.Keeping.{expected_at, seen_holds, taken_by}
use Rattle.ordinal_map.proofs.Puts.{found, too_many, agree_tells}
use Rattle.ordinal_map.proofs.map.OrdinalMap.put.Goals as goal

pub enter-requires : goal.enter-requires
enter-requires c =
    let stand = expected_at c.as_slice.result.now c.self.inside.rows.items c.args.row c.find_expected.result c.in-Some.ordinal c.as_slice.ensures.value c.find_expected.ensures c.in-Some.is in
    let holds = seen_holds c.self.inside.rows.items c.self.inside.chains c.self.inside.previous c.self.inside.current c.self.inside.filled c.self.invariant c.args.self.now c.self.view_is c.args.row c.in-Some.ordinal stand in
    taken_by c.args.self.now.previous c.args.self.now.current c.args.row c.in-Some.ordinal holds

pub returns-in-Some : goal.returns-in-Some
returns-in-Some c =
    let stand = expected_at c.as_slice.result.now c.self.inside.rows.items c.args.row c.find_expected.result c.in-Some.ordinal c.as_slice.ensures.value c.find_expected.ensures c.in-Some.is in
    let holds = seen_holds c.self.inside.rows.items c.self.inside.chains c.self.inside.previous c.self.inside.current c.self.inside.filled c.self.invariant c.args.self.now c.self.view_is c.args.row c.in-Some.ordinal stand in
    let agree = c.enter.ensures.agree in
    let tells = c.enter.ensures.tells c.args.row holds in
    record {
      tells = tells;
      found = found c.args.self.now c.args.row c.enter.new.self c.enter.result agree tells;
      too_many = too_many c.args.self.now c.args.row c.enter.new.self c.enter.result agree tells;
      agree = agree_tells c.args.self.now c.args.row c.enter.new.self c.enter.result agree tells;
    }

pub returns : goal.returns
returns c =
    let agree = c.put_hashed.ensures.agree in
    let tells = c.put_hashed.ensures.tells in
    record {
      tells = tells;
      found = found c.args.self.now c.args.row c.put_hashed.new.self c.put_hashed.result agree tells;
      too_many = too_many c.args.self.now c.args.row c.put_hashed.new.self c.put_hashed.result agree tells;
      agree = agree_tells c.args.self.now c.args.row c.put_hashed.new.self c.put_hashed.result agree tells;
    }
