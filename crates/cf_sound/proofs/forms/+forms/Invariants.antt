use Rattle.std.proofs.Common.{◌≡◌, drop, map}
use Rattle.cf_core.specs.FromTypes.{type_of}
use Rattle.cf_core.specs.FromUnit.{tables_of}
use Rattle.cf_core_nodes.specs.Views.{viewed}
use Rattle.cf_core_sound.specs.Forms.{other, last_form}
use Rattle.cf_sound.specs.Forms.{form_of}
use Rattle.cf_sound.proofs.forms.+forms.Given as goal

abbrev pub invariant-last_told-loop-e : goal.invariant-last_told-loop-e
invariant-last_told-loop-e l =
    last_form (map (type_of (tables_of l.unit)) l.frame) (form_of (tables_of l.unit) l.told) (viewed (tables_of l.unit) (drop l.e-index l.initial.es))
    ≡ last_form (map (type_of (tables_of l.unit)) l.frame) other (viewed (tables_of l.unit) l.initial.es)
