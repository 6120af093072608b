-- Statements: the ends of objects on each way out of a scope, loops with their conditions inside, and what a label passes.
use Rattle.std.specs.Prelude.{ℕ, suc, ◌+◌, length, if◌then◌else◌, Bool, true, false, ◌||◌, List, [], ◌∷◌, ◌++◌, Option, Some, None, reverse, find, bytes_eq}
use Rattle.cf_core.specs.declared.operators.LoopForm.TheVariants as form
use Rattle.cf_core.specs.Types.{Name, SourceType, void, is_class}
use Rattle.cf_core.specs.Classes.{Class}
use Rattle.cf_core.specs.Core as core
use Rattle.cf_core.specs.Core.{Core, Cores, MaybeCore, Parts, Static, none, absent, given, no_parts, part}
use Rattle.cf_core.specs.Places.{part_type}
use Rattle.cf_core.specs.Valid.{has_label}
use Rattle.cf_plain.specs.Plain.{Register, Plain, Plains, PlainParts, act, set, branch, loop, switch, case_label, default_label, leave, continue, give, parts, nothing, more}
use Rattle.cf_plain.specs.Plain as plain
use Rattle.cf_sequence.specs.Made.{Local, width, width_maybe, added, declared, declared_all}
use Rattle.cf_core.specs.Nodes.{nodes_parts}
use Rattle.cf_sequence.specs.Expressions.{destination, settled, used, finished, whole, value}

-- What a statement stands in: the classes and static objects of its program, its function's result and class, and the locals of the scopes that are
-- open: of the innermost, and those beyond it that `break`, `continue` and `return` leave, the newest first.
pub record Inside : Type 0 where
  pub classes : List Class
  pub statics : List Static
  pub result : SourceType
  pub class : SourceType
  pub here : List Local
  pub breaks : List Local
  pub continues : List Local
  pub returns : List Local

abbrev pub declares : List Local → Inside → Inside
declares xs f = record f { here = xs ++ f.here }

-- a scope is open
abbrev pub opened : Inside → Inside
opened f = record f { here = []; breaks = f.here ++ f.breaks; continues = f.here ++ f.continues; returns = f.here ++ f.returns }

abbrev pub in_loop : Inside → Inside
in_loop f = record f { here = []; breaks = []; continues = []; returns = f.here ++ f.returns }

abbrev pub in_switch : Inside → Inside
in_switch f = record f { here = []; breaks = []; continues = f.here ++ f.continues; returns = f.here ++ f.returns }

abbrev pub type_of_static : List Static → Name → SourceType
type_of_static statics name = found (find (λ (x : Static). bytes_eq x.name name) statics)
  where
    found : Option Static → SourceType
    found None = void
    found (Some x) = x.type

-- a condition: 1 or 0 in the register behind those of its locals
abbrev pub condition : List Class → Core → ℕ → (Register → Plains) → Plains
condition classes c k rest =
    whole c 0 k (λ x n rest. value classes x c None n k (more (set n (plain.truth n)) rest)) rest

-- a loop is left where its condition doesn't hold
abbrev pub held : List Class → MaybeCore → ℕ → Plains → Plains
held classes absent k rest = rest
held classes (given c) k rest = condition classes c k (λ n. more (branch n nothing (more leave nothing)) rest)

abbrev pub stepped : List Class → MaybeCore → ℕ → Plains
stepped classes absent k = nothing
stepped classes (given e) k = whole e 0 k (λ x n rest. value classes x e None n k rest) (λ n. nothing)

-- an initialiser of the place in register n, as a full expression of its own, in which its value is stored
abbrev pub started : List Class → SourceType → Core → Register → ℕ → Plains → Plains
started classes t e n k rest = whole e (suc n) k (λ x m rest. value classes x e (destination n t) m k (settled e n m rest)) (λ m. rest)

-- whether an initialiser is a reference's (8.4.3)
abbrev pub binds : Core → Bool
binds (core.bind h e) = true
binds e = false

-- Control has reached a static object, and its place comes into register 0; the name of a reference stands for the place that it is bound to.
abbrev pub reached : Bool → SourceType → Name → Plains → Plains
reached true t name rest = more (set 0 (plain.reach name)) rest
reached false t name rest = more (act (plain.reach name)) (more (set 0 (plain.static_object name t)) rest)

-- A static object is reached, and then initialised (6.7).
abbrev pub initialised : List Class → SourceType → Name → Core → ℕ → Plains → Plains
initialised classes t name e k rest = reached (binds e) t name (started classes t e 0 k (more (act (plain.finish_static name)) rest))

-- the returned value, and what ends before the function does
abbrev pub returned : Inside → Core → ℕ → Plains → Plains
returned f e k rest =
    if is_class f.result
    then more (set 0 plain.result) (started f.classes f.result e 0 k (finished (f.here ++ f.returns) (more (give None) rest)))
    else whole e 0 k (λ x n rest. value f.classes x e None n k (used n rest)) (λ n. finished (f.here ++ f.returns) (more (give (Some n)) rest))

abbrev pub made : List Local → Plains → Plains
made [] rest = rest
made (x ∷ xs) rest = more (act (plain.declare x.number x.type)) (made xs rest)

-- What the labels of a switch pass: where one passes a local, a switch before it declares the locals that stand before each label, in order (6.7).
abbrev pub passing : List Local → Cores → Plains
passing before none = nothing
passing before (core.more (core.case_label z) rest) = more (case_label z) (made (reverse before) (more leave (passing before rest)))
passing before (core.more core.default_label rest) = more default_label (made (reverse before) (more leave (passing before rest)))
passing before (core.more s rest) = passing (declared s ++ before) rest

-- whether there is such a label
abbrev pub passes_local : Cores → Bool
passes_local none = false
passes_local (core.more s rest) = elim (declared s) [ [] ↦ passes_local rest | x ∷ xs ↦ has_label rest || passes_local rest ]

abbrev pub passed : Register → Cores → Plains → Plains
passed n es rest = if passes_local es then more (switch n (passing [] es)) rest else rest

abbrev pub part_built : Inside → core.Part → Core → ℕ → Plains
part_built f w e k = more (set 0 (plain.built_part w)) (started f.classes (part_type f.classes f.class w) e 0 k nothing)

abbrev pub parts_built : Inside → Parts → ℕ → PlainParts
parts_built f no_parts k = plain.no_parts
parts_built f (part w e rest) k = plain.part w (part_built f w e k) (parts_built f rest (k + width e))

-- Each turn begins with the condition; the step is done before a further one.
abbrev pub looping : List Class → MaybeCore → MaybeCore → ℕ → Plains → Plains → Plains
looping classes c e k body rest = more (loop (held classes c k body) (stepped classes e (k + width_maybe c))) rest

abbrev mutual
  -- A statement, and then the rest; the locals that it adds are numbered from k. What an arm of an `if` declares by itself ends with the scope around it, so that behind
  -- the `if` the locals of both arms count as declared there; those that have no object are finished for nothing.
  pub statement : Inside → Core → ℕ → Plains → Plains
  statement f (core.full e) k rest = whole e 0 k (λ x n rest. value f.classes x e None n k rest) (λ n. rest)
  statement f (core.block es) k rest = statements (opened f) es k (finished (declared_all es) rest)
  statement f (core.sequence es) k rest = statements f es k rest
  statement f (core.declare i t e) k rest = more (set 0 (plain.declare i t)) (started f.classes t e 0 k rest)
  statement f (core.once name e) k rest =
      more (set 0 (plain.is_reached name))
      (more (branch 0 nothing (initialised f.classes (type_of_static f.statics name) name e k nothing)) rest)
  statement f (core.branch c a b) k rest =
      condition f.classes c k (λ n.
      more (branch n (statement f a (k + width c) nothing) (statement_or f b (k + width c + width a) nothing)) rest)
  statement f (core.loop form.While c e s) k rest =
      looping f.classes c e k (statement (in_loop f) s (k + width_maybe c + width_maybe e) (finished (declared s) nothing)) rest
  statement f (core.loop form.For c e s) k rest =
      looping f.classes c e k (statement (in_loop f) s (k + width_maybe c + width_maybe e) (finished (declared s) nothing)) rest
  statement f (core.loop form.Do c e s) k rest =
      more (loop (statement (in_loop f) s (k + width_maybe c + width_maybe e) (finished (declared s) nothing)) (held f.classes c k nothing)) rest
  statement f (core.switch e es) k rest =
      whole e 0 k (λ x n rest. value f.classes x e None n k (used n rest))
      (λ n. passed n es (more (switch n (statements (in_switch f) es (k + width e) (finished (declared_all es) nothing))) rest))
  statement f (core.case_label z) k rest = more (case_label z) rest
  statement f core.default_label k rest = more default_label rest
  statement f core.leave k rest = finished (f.here ++ f.breaks) (more leave rest)
  statement f core.continue k rest = finished (f.here ++ f.continues) (more continue rest)
  statement f (core.give absent) k rest = finished (f.here ++ f.returns) (more (give None) rest)
  statement f (core.give (given e)) k rest = returned f e k rest
  statement f (core.parts ps s) k rest = more (parts (parts_built f ps k)) (statement f s (k + length (added (nodes_parts ps))) rest)
  statement f e k rest = rest

  pub statement_or : Inside → MaybeCore → ℕ → Plains → Plains
  statement_or f absent k rest = rest
  statement_or f (given s) k rest = statement f s k rest

  pub statements : Inside → Cores → ℕ → Plains → Plains
  statements f none k rest = rest
  statements f (core.more s es) k rest = statement f s k (statements (declares (declared s) f) es (k + width s) rest)
