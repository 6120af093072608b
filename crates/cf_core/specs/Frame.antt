-- The frame bound of a function, in bytes: no less than what its C parameters and locals take at any place.
use Rattle.std.specs.Prelude.{ℕ, ◌+◌, ◌*◌, ◌/◌, max, Option, Some, None, Bool, true, false, List, [], ◌∷◌, ◌++◌, map, sum, length, filter, is_some, not, if◌then◌else◌, bytes_eq}
use Rattle.std.specs.List.{flat_map}
use Rattle.cf_core.specs.declared.operators.LoopForm.TheVariants as form
use Rattle.cf_core.specs.Types.{Name, SourceType, class, array, const, parameters, result, is_class}
use Rattle.cf_core.specs.Classes.{Class, Special, class_named, copy_in, assignment_in}
use Rattle.cf_core.specs.Core.{Core, Cores, MaybeCore, Parts, none, more, absent, given, no_parts, part, Function, Static, temporary, call, virtual_call, pointer_call, build, copy, assign, each, list, blank, full, declare, once, branch, loop, switch, give, parts}
use Rattle.cf_core.specs.Calls.{takes_object}
use Rattle.cf_core.specs.Size.{size}
use Rattle.cf_core.specs.Nodes.{nodes}

abbrev pub up_to_eight : ℕ → ℕ
up_to_eight n = (n + 7) / 8 * 8

abbrev pub bytes_of : List Class → SourceType → ℕ
bytes_of classes t = up_to_eight (size classes t)

-- the class objects among parameters
abbrev pub class_bytes : List Class → List SourceType → List ℕ
class_bytes classes [] = []
class_bytes classes (t ∷ ts) = (if is_class t then bytes_of classes t ∷ [] else []) ++ class_bytes classes ts

abbrev pub types_of_special : Option Special → List SourceType
types_of_special None = []
types_of_special (Some f) = parameters f.type

-- the parameters of the copy constructor that copies an object of this type, or each element of an array
abbrev pub copied_by : List Class → SourceType → List SourceType
copied_by classes (class c) = types_of_special (copy_in (class_named classes c))
copied_by classes (array t n) = copied_by classes t
copied_by classes (const t) = copied_by classes t
copied_by classes t = []

-- What the assignment that assigns it gives, where that is an object, and its parameter; where that is an object, the parameters of its copy
-- constructor too.
abbrev pub assigned_by : List Class → SourceType → List SourceType
assigned_by classes (class c) = made_in (assignment_in (class_named classes c))
  where
    made_in : Option Special → List SourceType
    made_in None = []
    made_in (Some f) = result f.type ∷ parameters f.type ++ (if takes_object f then copied_by classes (class c) else [])
assigned_by classes (array t n) = assigned_by classes t
assigned_by classes (const t) = assigned_by classes t
assigned_by classes t = []

-- the class objects that a node makes as temporaries and by-value parameters
abbrev pub made_by : List Class → Core → List ℕ
made_by classes (temporary t e) = class_bytes classes (t ∷ [])
made_by classes (call n t object args) = class_bytes classes (parameters t)
made_by classes (virtual_call f t e args) = class_bytes classes (parameters t)
made_by classes (pointer_call object e t args) = class_bytes classes (parameters t)
made_by classes (build n t args) = class_bytes classes (parameters t)
made_by classes (copy t e es) = class_bytes classes (copied_by classes t)
made_by classes (assign t a b es) = class_bytes classes (assigned_by classes t)
made_by classes e = []

-- the cost of a full expression: 32 for each node, and the class objects that it makes
abbrev pub expression_cost : List Class → Core → ℕ
expression_cost classes blank = 0
expression_cost classes e = 32 * length (nodes e) + sum (flat_map (made_by classes) (nodes e))

abbrev pub maybe_cost : List Class → MaybeCore → ℕ
maybe_cost classes absent = 0
maybe_cost classes (given e) = expression_cost classes e

abbrev mutual
  -- the greatest cost of an initialiser's full expressions: each element of a list or an array is one by itself
  pub initialiser_cost : Core → List Class → ℕ
  initialiser_cost (each e) classes = initialiser_cost e classes
  initialiser_cost (list es rest) classes = max (initialiser_costs es classes) (initialiser_cost rest classes)
  initialiser_cost e classes = expression_cost classes e

  pub initialiser_costs : Cores → List Class → ℕ
  initialiser_costs none classes = 0
  initialiser_costs (more e es) classes = max (initialiser_cost e classes) (initialiser_costs es classes)

-- the full expressions of one node of a statement
abbrev pub node_cost : List Class → Core → ℕ
node_cost classes (full e) = expression_cost classes e
node_cost classes (declare i t e) = initialiser_cost e classes
node_cost classes (once n e) = initialiser_cost e classes
node_cost classes (branch c a b) = expression_cost classes c
node_cost classes (loop f c e s) = max (maybe_cost classes c) (maybe_cost classes e)
node_cost classes (switch e es) = expression_cost classes e
node_cost classes (give absent) = 0
node_cost classes (give (given e)) = initialiser_cost e classes
node_cost classes (parts ps s) = parts_cost ps
  where
    parts_cost : Parts → ℕ
    parts_cost no_parts = 0
    parts_cost (part w e rest) = max (initialiser_cost e classes) (parts_cost rest)
node_cost classes e = 0

abbrev pub greatest : List ℕ → ℕ
greatest [] = 0
greatest (n ∷ ns) = max n (greatest ns)

-- 8 for each `for`, `do` and `switch`
abbrev pub loop_bytes : Core → ℕ
loop_bytes (loop form.For c e s) = 8
loop_bytes (loop form.Do c e s) = 8
loop_bytes (switch e es) = 8
loop_bytes e = 0

abbrev pub slot : List Class → SourceType → ℕ
slot classes t = 24 + bytes_of classes t

-- the costliest initialiser of static objects
abbrev pub starts_cost : List Class → List Static → ℕ
starts_cost classes statics = greatest (map (λ (x : Static). initialiser_cost x.start classes) statics)

-- A static object's initialiser belongs to the function whose local it is, or to the file's initialising function.
abbrev pub is_owned_by : Name → Option Name → Bool
is_owned_by name None = false
is_owned_by name (Some f) = bytes_eq f name

-- 64, what parameters and locals take with 24 more each, 8 for each of those statements, and the costliest full expression
abbrev pub frame_bound : List Class → List Static → Function → ℕ
frame_bound classes statics f =
    64
    + sum (map (slot classes) (parameters f.type ++ f.locals))
    + sum (map loop_bytes (nodes f.body))
    + max (greatest (map (node_cost classes) (nodes f.body))) (starts_cost classes (filter (λ (x : Static). is_owned_by f.name x.owner) statics))

-- that of a file's initialising function, over the initialisers of its static objects that are no locals
abbrev pub initialiser_bound : List Class → List Static → ℕ
initialiser_bound classes statics = 64 + starts_cost classes (filter (λ (x : Static). not (is_some x.owner)) statics)
