use Rattle.std.proofs.Common.{◌≡◌, ◌∙◌, ◌≤◌, ◌-◌, ◌+◌, ℕ, List, [], ◌∷◌, ◌++◌, length, map, take, option_map, Option, Some, None, Result, Ok, Err, pos, ℤ, rules, arith, ap, sym, refl, subst}
use Rattle.cc_whole_mean.specs.Flow.{born_locals}
use Rattle.cc_whole_memory.specs.Store.{memory_of}
use Rattle.cc_whole_start.specs.First.{first_of}
use Rattle.cc_whole_step.proofs.StepLaws.{opens}
use Rattle.cc_whole_step.proofs.moment.Moment.open.Goals as goal

pub returns : goal.returns
returns c =
    opens c.args.self.now c.born_locals.new.store c.push.new.self c.args.body.now c.as_slice-2.result c.as_slice-3.result c.in_ok-first-2.first
    c.as_slice-2.ensures c.as_slice-3.ensures
    (c.in_ok-first.ensures.born ∙ ap (λ l. born_locals l (memory_of c.args.self.now.store)) (c.as_slice.ensures ∙ sym c.as_slice-2.ensures))
    (c.in_ok-first-2.ensures ∙ c.in_ok-first.ensures.first ∙ ap (λ l. first_of (length l) (memory_of c.args.self.now.store)) (c.as_slice.ensures ∙ sym c.as_slice-2.ensures))
    c.in_ok-push.ensures.items
