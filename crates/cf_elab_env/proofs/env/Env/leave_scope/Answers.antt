use Rattle.std.proofs.Common.{sym, ap, ◌∙◌}
use Rattle.cf_elab_env.specs.SeenEnv.{env_seen}
use Rattle.cf_elab_env.specs.Shut as shut
use Rattle.cf_elab_env.proofs.Scoped.{closed_is, emptied_is}
use Rattle.cf_elab_env.proofs.env.Env.leave_scope.Goals as goal

pub returns-then-is_file_scope-clause-made : goal.returns-then-is_file_scope-clause-made
returns-then-is_file_scope-clause-made c =
    ap shut.leave_scope (sym c.self.view_is)
    ∙ emptied_is (env_seen c.self.inside) c.new.result (c.is_file_scope.ensures.0 c.if-is_file_scope.true) c.new.ensures.outer c.new.ensures.inner

pub returns-else-is_file_scope-clause-made : goal.returns-else-is_file_scope-clause-made
returns-else-is_file_scope-clause-made c = ap shut.leave_scope (sym c.self.view_is) ∙ closed_is (env_seen c.self.inside) c.leave.new.self c.leave.ensures
