use Rattle.std.proofs.Common.{◌≡◌, ◌+◌, ◌*◌, take}
use Rattle.cf_elab_objects.specs.Links.Shut as shut
use Rattle.cf_elab_objects.specs.Links.Text.{added}
use Rattle.cf_elab_objects.proofs.links.codes.+codes.Given as goal

abbrev pub decreases-add_code : goal.decreases-add_code
decreases-add_code l = 2 * l.ty + 1

abbrev pub decreases-add_parameters : goal.decreases-add_parameters
decreases-add_parameters l = 2 * l.ty

abbrev pub invariant-add_parameters-loop-param : goal.invariant-add_parameters-loop-param
invariant-add_parameters-loop-param l = l.text ≡ added (shut.type_codes l.env (take l.param-index l.param-items)) l.initial.text
