use Rattle.std.proofs.Common.{◌≡◌, drop, find, bytes_eq}
use Rattle.cf_run_tree.specs.declared.program.RunFn.{RunFn}
use Rattle.cf_core_run.proofs.calls.function_named.Given as goal

abbrev pub invariant-loop-f : goal.invariant-loop-f
invariant-loop-f l = find (λ (f : RunFn). bytes_eq f.name l.name) (drop l.f-index l.f-items) ≡ find (λ (f : RunFn). bytes_eq f.name l.name) l.program.functions
