use Rattle.std.proofs.Common.{[], subst}
use Rattle.cf_core.specs.Access.{fill_zeros}
use Rattle.cf_core_place.specs.Routes.{row_place}
use Rattle.cf_core.specs.Places.{Place}
use Rattle.cf_core_objects.specs.Answer.{Told}
use Rattle.cf_core_objects.specs.Store.{state_of}
use Rattle.cf_core_run.specs.Going.{putting_bytes}
use Rattle.cf_core_run.proofs.Laws.{value-err, value-ok}
use Rattle.cf_core_run.proofs.state.Machine.write.Goals as goal

pub returns-in-Err-clause-comes : goal.returns-in-Err-clause-comes
returns-in-Err-clause-comes c = λ p. value-err p c.args.self.now (λ u. tt) c.fill_zeros.result c.in-Err.stop (λ T. fill_zeros [] (row_place c.args.row)) (λ T u. putting_bytes T p c.args.kind (row_place c.args.row) c.args.bytes.now)
    (λ T. state_of T c.args.self.now.entered c.fill_zeros.new.objects) c.in-Err.is (λ T w. subst (λ (q : Place). Told (λ u. tt) c.fill_zeros.result (state_of T c.args.self.now.entered c.fill_zeros.new.objects) w (fill_zeros [] q (state_of T c.args.self.now.entered c.args.self.now.objects) w)) c.place.ensures (c.fill_zeros.ensures T c.args.self.now.entered w))

pub returns-in-Ok-clause-comes : goal.returns-in-Ok-clause-comes
returns-in-Ok-clause-comes c = λ p. value-ok p c.args.self.now c.args.self.now.entered c.fill_zeros.new.objects (λ u. tt) c.fill_zeros.result tt (λ T. fill_zeros [] (row_place c.args.row)) (λ T u. putting_bytes T p c.args.kind (row_place c.args.row) c.args.bytes.now)
    c.put_bytes.result c.put_bytes.new.self c.in-Ok.is (λ T w. subst (λ (q : Place). Told (λ u. tt) c.fill_zeros.result (state_of T c.args.self.now.entered c.fill_zeros.new.objects) w (fill_zeros [] q (state_of T c.args.self.now.entered c.args.self.now.objects) w)) c.place.ensures (c.fill_zeros.ensures T c.args.self.now.entered w)) (c.put_bytes.ensures.comes p)
