-- The virtual functions that a plain function uses without dispatch (10.2, 12.4).
use Rattle.std.specs.Prelude.{List, [], ◌∷◌, ◌++◌, filter, if◌then◌else◌}
use Rattle.std.specs.List.{flat_map}
use Rattle.cf_core.specs.Types.{Name}
use Rattle.cf_core.specs.Classes.{Class}
use Rattle.cf_core.specs.Calls.{has_virtual_destructor}
use Rattle.cf_core.specs.Named.{destructors, used_by_role, is_virtual_name}
use Rattle.std.specs.Prelude.{true, false}
use Rattle.cf_plain.specs.Plain.{Action, call, build, finish, delete, Plain, Plains, PlainParts, act, set, branch, loop, switch, parts, nothing, more, no_parts, part, PlainFunction}

abbrev mutual
  -- the actions of a statement
  pub actions : Plain → List Action
  actions (act a) = a ∷ []
  actions (set r a) = a ∷ []
  actions (branch r ss ts) = all_actions ss ++ all_actions ts
  actions (loop ss ts) = all_actions ss ++ all_actions ts
  actions (switch r ss) = all_actions ss
  actions (parts ps) = part_actions ps
  actions s = []

  pub all_actions : Plains → List Action
  all_actions nothing = []
  all_actions (more s ss) = actions s ++ all_actions ss

  pub part_actions : PlainParts → List Action
  part_actions no_parts = []
  part_actions (part w ss rest) = all_actions ss ++ part_actions rest

-- a function that an action calls by name, and the destructor of what it ends or deletes
abbrev pub used_by : List Class → Action → List Name
used_by classes (call f t object is into) = f ∷ []
used_by classes (build f t r is) = f ∷ []
used_by classes (finish t i) = destructors classes t
used_by classes (delete false t r) = if has_virtual_destructor classes t then [] else destructors classes t
used_by classes (delete true t r) = destructors classes t
used_by classes a = []

abbrev pub Named : List Class → PlainFunction → List Name
Named classes f = filter (is_virtual_name classes) (flat_map (used_by classes) (all_actions f.body) ++ used_by_role classes f.role)
