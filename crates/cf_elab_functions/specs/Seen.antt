-- How a declaration says its function, as the definitions of elaboration see it. Without default arguments its parameters don't matter, and are left out.
use Rattle.std.specs.Prelude.{◌≡◌, ℕ, List, [], None}
use Rattle.cf_classes.specs.LinkName as link
use Rattle.cf_elab.specs.Functions as functions
use Rattle.cf_elab.specs.Shape.{Parameter}
use Rattle.cf_elab_functions.specs.declared.says.Called.{Called}
use Rattle.cf_elab_functions.specs.declared.says.Called.TheVariants as called
use Rattle.cf_elab_functions.specs.declared.says.Says.{Says}

abbrev pub called_seen : List ℕ → Called → link.Called
called_seen name called.Main = link.Main
called_seen name called.Plain = link.Plain name

abbrev pub says_seen : Says → functions.Says
says_seen d = record {
  name = d.name;
  called = called_seen d.name d.called;
  at = d.at;
  type = d.ty;
  parameters = [];
  is_static = d.is_static;
  is_inline = d.is_inline;
  defines = d.defines;
  is_initialised = d.is_initialised;
}

-- a parameter without a default argument
abbrev pub NoDefault : Parameter → Type 0
NoDefault p = p.default ≡ None
