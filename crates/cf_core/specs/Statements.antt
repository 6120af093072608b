-- The meaning of statements and of constructors' initialisers (6, 12.6.2).
use Rattle.std.specs.Prelude.{ℕ, Bool, true, false, ◌&&◌, ◌||◌, not, ◌∷◌, ℤ, int_le, Some, None, bytes_eq}
use Rattle.std.specs.List.{list_any}
use Rattle.cf_core.specs.declared.operators.LoopForm.{LoopForm}
use Rattle.cf_core.specs.declared.operators.LoopForm.TheVariants as form
use Rattle.cf_core.specs.Types.{Name, SourceType}
use Rattle.cf_core.specs.Subobjects.{virtual}
use Rattle.cf_core.specs.Core.{Core, Cores, MaybeCore, Parts, Part, within, none, more, absent, given, no_parts, part, blank, full, block, sequence, declare, once, branch, loop, switch, case_label, default_label, leave, continue, give, parts}
use Rattle.cf_core.specs.Store.{Value, Nothing, Built}
use Rattle.cf_core.specs.Run.{Act, ◌>>=◌, ◌>>◌, gives, malformed, state, changed, done, tick, some_or, valid, when, frame_changed, lists_in_scope}
use Rattle.cf_core.specs.Access.{place_type, using, number_of}
use Rattle.cf_core.specs.Building.{part_place, has_part, is_whole}
use Rattle.cf_core.specs.Calls.{Program, Flow, Falls, Breaks, Continues, Returns, turn, Again, root, full_expression, in_scope, finish_static}
use Rattle.cf_core.specs.Scalars.{truth_of}
use Rattle.cf_core.specs.Objects.{static_type, static_place, new_local, settled}
use Rattle.cf_core.specs.Expressions.{value}

-- whether there is such a label (6.4.2)
abbrev pub has_case : ℤ → Cores → Bool
has_case z none = false
has_case z (more (case_label y) rest) = (int_le y z && int_le z y) || has_case z rest
has_case z (more e rest) = has_case z rest

abbrev pub has_default : Cores → Bool
has_default none = false
has_default (more default_label rest) = true
has_default (more e rest) = has_default rest

-- A label declares the locals of a switch's own block that it passes, in order: those without an initialiser (6.7).
abbrev mutual
  pub passes : Core → Act (Unit {0})
  passes (declare i t blank) = new_local i t >>= (λ o. frame_changed (lists_in_scope o))
  passes (declare i t e) = malformed
  passes (sequence es) = passes_all es
  passes e = done

  pub passes_all : Cores → Act (Unit {0})
  passes_all none = done
  passes_all (more e es) = passes e >> passes_all es

-- a statement is followed by the next where it falls through
abbrev pub falling : Act Flow → Flow → Act Flow
falling next Falls = next
falling next flow = gives flow

-- after a loop's body: the turn goes on, or the loop is left (6.6)
abbrev pub turning : Act Flow → Flow → Act Flow
turning next Falls = next
turning next Continues = next
turning next Breaks = gives Falls
turning next (Returns v) = gives (Returns v)

-- whether a turn begins with the condition; in `do` it ends with it (6.5)
abbrev pub tests_first : LoopForm → Bool
tests_first form.While = true
tests_first form.Do = false
tests_first form.For = true

-- a switch is left by `break`
abbrev pub leaving : Flow → Act Flow
leaving Breaks = gives Falls
leaving flow = gives flow

module _ (again : Again) (P : Program) where
  -- a condition; one that is left out holds (6.5.3)
  abbrev pub holds : MaybeCore → Act Bool
  holds absent = gives true
  holds (given e) = full_expression again P (value again P e None >>= truth_of)

  -- the returned value, or the object of class type that is built for it (6.6.3)
  abbrev pub result_of : Core → Act Value
  result_of e = do
    s ← state
    elim s.frame.result [
      | None ↦ full_expression again P (using (value again P e None))
      | Some p ↦ full_expression again P (settled P.classes p (value again P e (Some p))) >> gives Built
    ]

  abbrev pub builds_part : Part → Core → Act (Unit {0})
  builds_part w e = do
    s ← state
    object ← some_or s.frame.this malformed
    valid (has_part P.classes (place_type P.classes s object) w)
    let p = part_place w object
    full_expression again P (settled P.classes p (value again P e (Some p)))

  abbrev pub is_virtual_part : Part → Bool
  is_virtual_part (within (virtual c)) = true
  is_virtual_part w = false

  -- the step of a `for`, before the next turn (6.5.3)
  abbrev pub step_and : MaybeCore → Act Flow → Act Flow
  step_and absent next = next
  step_and (given e) next = full_expression again P (value again P e None) >> next

  -- Bases and data members by their initialisers, in order; virtual bases in a whole object alone (12.6.2).
  abbrev pub builds : Bool → Parts → Act (Unit {0})
  builds whole no_parts = done
  builds whole (part w e rest) = when (is_virtual_part w && not whole) done (builds_part w e) >> builds whole rest

  abbrev pub builds_parts : Parts → Act (Unit {0})
  builds_parts ps = do
    s ← state
    object ← some_or s.frame.this malformed
    builds (is_whole object) ps

  -- A local is declared: its object is there before its initialiser, and is destroyed with its scope (6.7).
  abbrev pub declares : ℕ → SourceType → Core → Act (Unit {0})
  declares i t e = do
    o ← new_local i t
    full_expression again P (settled P.classes (root o) (value again P e (Some (root o))))
    frame_changed (lists_in_scope o)

  -- A static object is initialised once; control counts as having reached it before its initialiser starts (6.7).
  abbrev pub initialises : Name → Core → Act (Unit {0})
  initialises name e = do
    p ← static_place P name
    changed (λ s. record s { reached = name ∷ s.reached })
    full_expression again P (settled P.classes p (value again P e (Some p)))
    finish_static P (static_type P name) p.object

  abbrev mutual
    -- what a statement does
    pub does : Core → Act Flow
    does (full e) = full_expression again P (value again P e None) >> gives Falls
    does (block es) = in_scope again P (does_all es)
    does (sequence es) = does_all es
    does (declare i t e) = declares i t e >> gives Falls
    does (once name e) = do
      s ← state
      when (list_any (bytes_eq name) s.reached) done (initialises name e)
      gives Falls
    does (branch c a b) = do
      t ← holds (given c)
      when t (does a) (does_maybe b)
    does (loop f c e s) = do
      tick
      when (tests_first f)
          (holds c >>= (λ t. when t (in_scope again P (does s) >>= turning (step_and e (again (turn (loop f c e s))))) (gives Falls)))
          (in_scope again P (does s) >>= turning (holds c >>= (λ t. when t (again (turn (loop f c e s))) (gives Falls))))
    does (switch e es) = do
      z ← full_expression again P (using (value again P e None)) >>= number_of
      in_scope again P (when (has_case z es) (from_case z es) (when (has_default es) (from_default es) (gives Falls))) >>= leaving
    does (case_label z) = gives Falls
    does default_label = gives Falls
    does leave = gives Breaks
    does continue = gives Continues
    does (give absent) = gives (Returns Nothing)
    does (give (given e)) = result_of e >>= (λ v. gives (Returns v))
    does (parts ps s) = builds_parts ps >> does s
    does e = malformed

    pub does_maybe : MaybeCore → Act Flow
    does_maybe absent = gives Falls
    does_maybe (given s) = does s

    pub does_all : Cores → Act Flow
    does_all none = gives Falls
    does_all (more s rest) = does s >>= falling (does_all rest)

    -- the statements behind a label, once it has passed those before it
    pub from_case : ℤ → Cores → Act Flow
    from_case z none = gives Falls
    from_case z (more (case_label y) rest) = when (int_le y z && int_le z y) (does_all rest) (from_case z rest)
    from_case z (more s rest) = passes s >> from_case z rest

    pub from_default : Cores → Act Flow
    from_default none = gives Falls
    from_default (more default_label rest) = does_all rest
    from_default (more s rest) = passes s >> from_default rest
