-- What a function gives that loads a part.
use Rattle.std.specs.Prelude.{◌≡◌, Result, Ok, Err}
use Rattle.cf_core_node.specs.declared.fault.NotLoaded.{NotLoaded}
use Rattle.cf_core_node.specs.declared.fault.NotLoaded.TheVariants as fault
use Rattle.cf_core_node.specs.Formed.{Formed}

-- the part, or the place of what has no form; want of memory says nothing
abbrev pub Gives : {A : Type 0} → Formed A → Result A NotLoaded → Type 0
Gives part (Ok a) = part ≡ Ok a
Gives part (Err (fault.NotBuilt at)) = part ≡ Err at
Gives part (Err fault.Memory) = Unit {0}
