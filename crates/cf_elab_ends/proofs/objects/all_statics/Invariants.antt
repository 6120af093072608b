use Rattle.std.proofs.Common.{◌≡◌, drop}
use Rattle.std.specs.List.{list_all}
use Rattle.cf_core.specs.declared.unit.CoreStatic.{CoreStatic}
use Rattle.cf_elab_valid_files.specs.File.Ends.{can_be_made}
use Rattle.cf_elab_ends.proofs.objects.all_statics.Given as goal

abbrev pub invariant-loop-x : goal.invariant-loop-x
invariant-loop-x l =
    list_all (λ (x : CoreStatic). can_be_made l.env.types x.ty) (drop l.x-index l.statics) ≡ list_all (λ (x : CoreStatic). can_be_made l.env.types x.ty) l.statics
