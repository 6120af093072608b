-- What is known of a file, as its nodes are asked by it.
use Rattle.cf_core.specs.FromUnit.{Unit, tables_of}
use Rattle.cf_sound.specs.Named.{AreFunctions, AreObjects}
use Rattle.cf_sound.specs.Tabled.{AreProper}
use Rattle.cf_sound.specs.declared.nodes.Known.{Known}

pub record Serves (unit : Unit) (known : Known) : Type 0 where
  pub types : AreProper (tables_of unit) known.proper
  pub objects : AreObjects unit known.objects
  pub functions : AreFunctions unit known.functions
