-- What elaboration of a file answers: the core that the definitions give, the same rule at the same place, or the same limit. Want of memory is free.
use Rattle.std.specs.Prelude.{◌≡◌, Result, Ok, Err}
use Rattle.cf_unit.specs.declared.file.Unit.{Unit as FileTree}
use Rattle.cf_elab.specs.Answer.{Made}
use Rattle.cf_elab.specs.Env.{Env}
use Rattle.cf_elab.specs.File.{First, Core, Broken, Limit, core_unit}
use Rattle.cf_elab_env.specs.declared.stop.Stop.{Stop}
use Rattle.cf_elab_env.specs.declared.stop.Stop.TheVariants as stop
use Rattle.cf_elab_unit.specs.Unit.Shut as shut

-- the core of what is known at the end
abbrev pub IsFirst : First → Result Env Stop → Type 0
IsFirst first (Ok end) = first ≡ Core (core_unit end)
IsFirst first (Err (stop.Broken b)) = first ≡ Broken b.rule b.at
IsFirst first (Err (stop.Passed l)) = first ≡ Limit l.bound l.most
IsFirst first (Err stop.Memory) = Unit {0}

-- how a file ends: all of its forms are built, and its items in turn make this end
pub record EndsAs (u : FileTree) (end : Env) : Type 0 where
  pub built : shut.AreBuilt u.items
  pub made : shut.in_turn u ≡ Made tt end
