-- What the code holds, as the definitions of elaboration see it.
use Rattle.std.specs.Prelude.{ℕ, List}
use Rattle.std.specs.Borrow.{Bor}
use Rattle.cf_elab.specs.Objects as objects
use Rattle.cf_elab_objects.specs.declared.objects.says.Says.{Says}

abbrev pub says_seen : Says → objects.Says
says_seen d = record { name = d.name; at = d.at; type = d.ty; is_static = d.is_static; is_extern = d.is_extern; defines = d.defines; is_initialised = d.is_initialised }

abbrev pub name_seen : Bor (List ℕ) → List ℕ
name_seen name = name.now
