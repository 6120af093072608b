use Rattle.std.proofs.Common.{◌≡◌, ◌∙◌, ◌≤◌, ◌-◌, ◌+◌, ℕ, List, [], ◌∷◌, ◌++◌, length, map, take, option_map, Option, Some, None, Result, Ok, Err, pos, ℤ, rules, arith, ap, sym, refl, subst}
use Rattle.cc_whole_step.proofs.Marks.{locals-last, parameters-last}
use Rattle.cc_whole_step.specs.Frames.{layer, over}
use Rattle.cc_whole_step.specs.declared.mark.Mark.{Mark}
use Rattle.cc_whole_step.proofs.frames.look_on.Goals as goal

pub returns-in-Some : goal.returns-in-Some
returns-in-Some c file scope =
    ap (λ (m : Mark). layer file m scope c.args.name.now) c.in-Locals.is
    ∙ locals-last c.in-Locals.locals.now c.in-Locals.first scope c.args.name.now
    ∙ ap (λ o. over o (scope c.args.name.now)) (sym c.local_named.ensures ∙ c.in-Some.is)

pub returns-in-None : goal.returns-in-None
returns-in-None c file scope =
    ap (λ (m : Mark). layer file m scope c.args.name.now) c.in-Locals.is
    ∙ locals-last c.in-Locals.locals.now c.in-Locals.first scope c.args.name.now
    ∙ ap (λ o. over o (scope c.args.name.now)) (sym c.local_named.ensures ∙ c.in-None.is)

pub returns-in-Some-parameter_named : goal.returns-in-Some-parameter_named
returns-in-Some-parameter_named c file scope =
    ap (λ (m : Mark). layer file m scope c.args.name.now) c.in-Parameters.is
    ∙ parameters-last c.in-Parameters.parameters.now c.in-Parameters.first file c.args.name.now
    ∙ ap (λ o. over o (file c.args.name.now)) (sym c.parameter_named.ensures ∙ c.in-Some-parameter_named.is)

pub returns-in-None-parameter_named : goal.returns-in-None-parameter_named
returns-in-None-parameter_named c file scope =
    ap (λ (m : Mark). layer file m scope c.args.name.now) c.in-Parameters.is
    ∙ parameters-last c.in-Parameters.parameters.now c.in-Parameters.first file c.args.name.now
    ∙ ap (λ o. over o (file c.args.name.now)) (sym c.parameter_named.ensures ∙ c.in-None-parameter_named.is)
