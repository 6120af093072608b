use Rattle.std.proofs.Common.{◌≡◌, length, drop}
use Rattle.cf_elab_env.specs.Holds.{Grows}
use Rattle.cf_elab_call.specs.Shut as shut
use Rattle.cf_elab_call.proofs.passing.arguments.Given as goal

abbrev pub invariant-loop-value : goal.invariant-loop-value
invariant-loop-value l = record {
  made :
      shut.arguments l.at l.fn.params l.fn.values l.fn.env
      ≡ shut.arguments_behind l.at (drop (length l.yielded) l.fn.params) (drop (length l.yielded) l.fn.values) l.arguments l.env;
  count : length l.arguments ≡ length l.yielded;
  grows : Grows l.fn.env.types l.env.types;
}
