use Rattle.std.proofs.Common.{◌≡◌, ◌∙◌, ◌≤◌, ◌-◌, ◌+◌, ℕ, List, [], ◌∷◌, ◌++◌, length, map, take, option_map, Option, Some, None, Result, Ok, Err, pos, ℤ, rules, arith, ap, sym, refl, subst}
use Rattle.cc_whole_memory.specs.declared.value.Value.{Value}
use Rattle.cc_whole_step.proofs.CallLaws.{store-acts, store-missing}
use Rattle.cc_whole_step.specs.Comes.{EndsAs}
use Rattle.cc_whole_step.specs.Running.{storing}
use Rattle.cf_base.specs.Event.{Undefined}
use Rattle.std.proofs.lemmas.Result.{err_from_is_err_and}
use Rattle.cc_whole_step.proofs.moment.Moment.store_value.Goals as goal

pub returns-in-None : goal.returns-in-None
returns-in-None c =
    subst (λ (x : Option Value). EndsAs (storing (Some c.args.at) x) (Undefined 11) c.args.self.now) (sym c.in-None.is) (store-missing c.args.self.now c.args.at)

pub returns-in_err-store_at-in-Some : goal.returns-in_err-store_at-in-Some
returns-in_err-store_at-in-Some c =
    let p = err_from_is_err_and c.from_residual.result c.from_residual.ensures.1 in
    rw (p.1, p.2, c.in-Some.is) (store-acts c.args.self.now c.args.at c.in-Some.v _ c.in_err-store_at-in-Some.ensures.err)
