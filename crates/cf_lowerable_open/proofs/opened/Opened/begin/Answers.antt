use Rattle.std.proofs.lemmas.Result.{on_ok_weaker}
use Rattle.cf_lowerable_open.proofs.Telling.{begun_told}
use Rattle.cf_lowerable_open.proofs.opened.Opened.begin.Goals as goal

pub returns-in-Some : goal.returns-in-Some
returns-in-Some c =
    on_ok_weaker c.tell.result (begun_told c.args.self.now c.args.register c.in-Some.register c.args.counts c.tell.new.places c.truncate.new.self.items c.in-Some.is c.truncate.ensures.items)
    c.tell.ensures
