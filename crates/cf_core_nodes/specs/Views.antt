-- The nodes of a file's core as plain data.
use Rattle.std.specs.Prelude.{List, map, drop}
use Rattle.std.specs.Borrow.{Bor}
use Rattle.cf_core.specs.declared.node.Core.{Core as Node}
use Rattle.cf_core.specs.declared.node.PartStart.{PartStart, fold-PartStart}
use Rattle.cf_core.specs.Core.{Core, Cores, Parts}
use Rattle.cf_core.specs.FromTypes.{Tables}
use Rattle.cf_core.specs.FromClasses.{signature_of}
use Rattle.cf_core.specs.Nodes.{nodes}
use Rattle.cf_core.specs.View.{core_of, core_step, listed, Started, in_order, started_step}

-- a node of a file
abbrev pub view : Tables → Node → Core
view tables = core_of tables (signature_of tables)

-- nodes in order
abbrev pub viewed : Tables → List Node → Cores
viewed tables es = listed (map (view tables) es)

-- the parts of a constructor
abbrev pub started : Tables → PartStart → Started
started tables = fold-PartStart Core Started (core_step tables (signature_of tables)) (started_step tables (signature_of tables))

abbrev pub in_parts : Tables → List PartStart → Parts
in_parts tables ps = in_order (map (started tables) ps)

-- nodes that stand in memory
abbrev pub shown : Tables → List (Bor Node) → List Core
shown tables es = map (λ e. view tables e.now) es

-- a node's parts with all that is in them
abbrev pub inside : Core → List Core
inside e = drop 1 (nodes e)
