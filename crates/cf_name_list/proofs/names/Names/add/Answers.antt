use Rattle.std.proofs.Common.{rules, ◌<◌, ◌^◌, length, arith}
use Rattle.cf_name_list.specs.Names.{last_first}
use Rattle.cf_name_list.proofs.CountLaws.{count-le, length-last_first}
use Rattle.cf_name_list.proofs.names.Names.add.Goals as goal

pub raise-requires : goal.raise-requires
raise-requires c =
    let names = c.self.inside.list.items in
    let few : length names < 2 ^ 63 = search rules in
    omega (arith, few, c.self.invariant c.args.name, count-le (last_first names) c.args.name.now, length-last_first names)
