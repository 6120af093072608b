-- How the bodies of functions are read, as the grammar has it.
use Rattle.cf_parse_decl.specs.declared.known.Bodies.{Bodies}
use Rattle.cf_parse_decl.specs.declared.known.Bodies.TheVariants as held
use Rattle.cf_unit.specs.Rule.{at_once, left_out, late}
use Rattle.cf_unit.specs.Rule.{Bodies as Ways}

abbrev pub seen : Bodies → Ways
seen held.AtOnce = at_once
seen held.LeftOut = left_out
seen (held.Late names) = late names
