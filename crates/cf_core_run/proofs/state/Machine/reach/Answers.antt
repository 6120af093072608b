use Rattle.std.proofs.Common.{◌∷◌, [], List, ℕ, Some, Err, ap, sym}
use Rattle.cf_core.specs.Calls.{root}
use Rattle.cf_core.specs.Objects.{settled}
use Rattle.cf_core.specs.Run.{◌>>=◌, ◌>>◌, changed}
use Rattle.cf_run_tree.specs.Tree.{core_of}
use Rattle.cf_core_objects.specs.Store.{state_of}
use Rattle.cf_core_run.specs.Going.{valued, full, setting, reaching}
use Rattle.cf_core_run.proofs.Laws.{value-as, value-err, value-ok}
use Rattle.cf_core_run.proofs.state.Machine.reach.Goals as goal

pub returns-in-Err-clause-comes : goal.returns-in-Err-clause-comes
returns-in-Err-clause-comes c = λ p. value-as p c.args.self.now (λ T. reaching T p c.args.self.now.fuel c.args.x.now c.args.number c.args.rest.now)
    (λ T. changed (λ s. record s { reached = c.as_slice.result.now ∷ s.reached }) >>= (λ u. full T p c.args.self.now.fuel (settled [] (root c.args.number) (valued T p c.args.self.now.fuel (core_of T p c.args.x.now.start) (Some (root c.args.number)))) >> setting T p c.args.self.now.fuel c.args.rest.now)) (Err c.in-Err.stop) c.args.self.now
    (value-err p c.args.self.now (λ u. tt) c.reach.result c.in-Err.stop (λ T. changed (λ s. record s { reached = c.as_slice.result.now ∷ s.reached })) (λ T u. full T p c.args.self.now.fuel (settled [] (root c.args.number) (valued T p c.args.self.now.fuel (core_of T p c.args.x.now.start) (Some (root c.args.number)))) >> setting T p c.args.self.now.fuel c.args.rest.now)
    (λ T. state_of T c.args.self.now.entered c.reach.new.objects) c.in-Err.is (λ T w. c.reach.ensures T c.args.self.now.entered w))
    (λ T s w. ap (λ (n : List ℕ). (changed (λ s. record s { reached = n ∷ s.reached }) >> (full T p c.args.self.now.fuel (settled [] (root c.args.number) (valued T p c.args.self.now.fuel (core_of T p c.args.x.now.start) (Some (root c.args.number)))) >> setting T p c.args.self.now.fuel c.args.rest.now)) s w) (sym c.as_slice.ensures))

pub returns-in-Ok-clause-comes : goal.returns-in-Ok-clause-comes
returns-in-Ok-clause-comes c = λ p. value-as p c.args.self.now (λ T. reaching T p c.args.self.now.fuel c.args.x.now c.args.number c.args.rest.now)
    (λ T. changed (λ s. record s { reached = c.as_slice.result.now ∷ s.reached }) >>= (λ u. full T p c.args.self.now.fuel (settled [] (root c.args.number) (valued T p c.args.self.now.fuel (core_of T p c.args.x.now.start) (Some (root c.args.number)))) >> setting T p c.args.self.now.fuel c.args.rest.now)) c.open_static.result c.open_static.new.self
    (value-ok p c.args.self.now c.args.self.now.entered c.reach.new.objects (λ u. tt) c.reach.result tt (λ T. changed (λ s. record s { reached = c.as_slice.result.now ∷ s.reached })) (λ T u. full T p c.args.self.now.fuel (settled [] (root c.args.number) (valued T p c.args.self.now.fuel (core_of T p c.args.x.now.start) (Some (root c.args.number)))) >> setting T p c.args.self.now.fuel c.args.rest.now)
    c.open_static.result c.open_static.new.self c.in-Ok.is (λ T w. c.reach.ensures T c.args.self.now.entered w)
    (c.open_static.ensures.comes p))
    (λ T s w. ap (λ (n : List ℕ). (changed (λ s. record s { reached = n ∷ s.reached }) >> (full T p c.args.self.now.fuel (settled [] (root c.args.number) (valued T p c.args.self.now.fuel (core_of T p c.args.x.now.start) (Some (root c.args.number)))) >> setting T p c.args.self.now.fuel c.args.rest.now)) s w) (sym c.as_slice.ensures))
