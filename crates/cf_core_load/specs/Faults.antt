-- Faults of loading by those of its parts.
use Rattle.cf_core_node.specs.declared.fault.NotLoaded.{NotLoaded}
use Rattle.cf_core_node.specs.declared.fault.NotLoaded.TheVariants as part
use Rattle.cf_core_load.specs.declared.fault.LoadFault.{LoadFault}
use Rattle.cf_core_load.specs.declared.fault.LoadFault.TheVariants as fault

abbrev pub without_class : NotLoaded → LoadFault
without_class (part.NotBuilt at) = fault.NotBuilt at
without_class part.Memory = fault.Memory
