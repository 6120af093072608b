-- What stands around statements in a function: loops and switches, each with what is so at its point. The C of `break` and of `continue` goes by it.
use Rattle.std.specs.Prelude.{ℕ, suc, List, [], ◌∷◌, Option, Some, None}
use Rattle.cc_whole.specs.Plain as c
use Rattle.cc_whole.specs.Plain.{Statement}
use Rattle.cf_lower_control.specs.LowerStatements.{Inside, flag_set}

pub data Around (Point : Type 0) : Type 0 where
  function : Around Point
  turns : Point → Around Point → Around Point  -- the body of a loop without a step
  stepped : Point → Around Point → Around Point  -- the body of a loop with a step: in C a switch stands around it, and a flag tells of `break`
  step : Point → Around Point → Around Point  -- the step of a loop
  cases : Point → Around Point → Around Point  -- a switch: a flag tells of `continue`

-- how many flags are in use
abbrev pub depth_of : {Point : Type 0} → Around Point → ℕ
depth_of function = 0
depth_of (turns p around) = depth_of around
depth_of (stepped p around) = suc (depth_of around)
depth_of (step p around) = depth_of around
depth_of (cases p around) = suc (depth_of around)

-- where `break` leads to, and where `continue` does (6.6.1, 6.6.2)
abbrev pub left_to : {Point : Type 0} → Around Point → Option Point
left_to function = None
left_to (turns p around) = Some p
left_to (stepped p around) = Some p
left_to (step p around) = Some p
left_to (cases p around) = Some p

abbrev pub gone_on_to : {Point : Type 0} → Around Point → Option Point
gone_on_to function = None
gone_on_to (turns p around) = Some p
gone_on_to (stepped p around) = Some p
gone_on_to (step p around) = None
gone_on_to (cases p around) = gone_on_to around

-- the C of each
abbrev pub leaving_of : {Point : Type 0} → Around Point → List Statement
leaving_of function = []
leaving_of (turns p around) = c.leave ∷ []
leaving_of (stepped p around) = flag_set (depth_of around) 1 ∷ c.leave ∷ []
leaving_of (step p around) = c.leave ∷ []
leaving_of (cases p around) = c.leave ∷ []

abbrev pub going_on_of : {Point : Type 0} → Around Point → List Statement
going_on_of function = []
going_on_of (turns p around) = c.next ∷ []
going_on_of (stepped p around) = c.leave ∷ []
going_on_of (step p around) = c.next ∷ []
going_on_of (cases p around) = flag_set (depth_of around) 1 ∷ c.leave ∷ []

-- what lowering is told of a function, here
abbrev pub inside_at : {Point : Type 0} → Inside → Around Point → Inside
inside_at x around = record x { depth = depth_of around; leaving = leaving_of around; going_on = going_on_of around }
