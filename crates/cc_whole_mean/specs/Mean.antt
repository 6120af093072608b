-- What statements do.
use Rattle.std.specs.Prelude.{ℕ, zero, suc, Bool, true, false, ◌==◌, if◌then◌else◌, List, length, Option, Some, None, Result, Ok, Err}
use Rattle.cf_base.specs.Integers.{bits_of}
use Rattle.cf_base.specs.Event.{Enter, Undefined, Ticks}
use Rattle.cf_base.specs.World.{World, Ran, Went, Stops, and_then, spend, deeper, show}
use Rattle.cc_whole.specs.declared.types.CConstant.{CConstant}
use Rattle.cc_whole.specs.declared.types.CConstant.TheVariants as constant
use Rattle.cc_whole.specs.declared.types.CSignature.{CSignature}
use Rattle.cc_whole.specs.Known.{is_helper, is_main}
use Rattle.cc_whole.specs.Plain.{Place, Expression, Callee as Called_by, by_name, by_pointer, Statement, assign, call, block, leave, next, choose, loop, select, give, Statements, done, followed, SwitchItems, closed, labelled, otherwise, stated, Body, body, Function}
use Rattle.cc_whole_memory.specs.declared.value.Value.{Value}
use Rattle.cc_whole_memory.specs.declared.value.Value.TheVariants as value
use Rattle.cc_whole_memory.specs.Blocks.{Memory, on_ok}
use Rattle.cc_whole_mean.specs.declared.named.Target.{Target}
use Rattle.cc_whole_mean.specs.Scope.{Scope, bind_locals, bind_parameters}
use Rattle.cc_whole_mean.specs.Values.{ill_typed, is_true, value_of, values_of, target_of, stored, assigned, integer_of}
use Rattle.cc_whole_mean.specs.Flow.{State, in_memory, Flow, Falls, Breaks, Continues, Returns, Exits, tried, falling, turning, switching, ending, born_locals, born_arguments, Called, Back, Gone, called_back}
use Rattle.cc_whole_mean.specs.Callee.{Callee, own, built_in, wrong_type, callee_named, callee_numbered, has_type}
use Rattle.cc_whole_mean.specs.Library.{wrong, does_library}

-- the use of a result that was not returned
abbrev pub not_returned : ℕ
not_returned = 11

-- the functions, and the names of the file
pub record Program : Type 0 where
  pub functions : List Function
  pub names : Scope

-- How a statement runs at one tick less: whether in a helper, the statement, its names, the levels of depth left.
abbrev pub Again : Type 0
Again = Bool → Statement → Scope → ℕ → State → World → Ran Flow

-- a function's parameters live while its body runs
abbrev pub run_function : (Statement → Scope → ℕ → State → World → Ran Flow) → Scope → Function → List Value → ℕ → State → World → Ran Called
run_function run names f vs depth s w =
    and_then (run (block f.body) (bind_parameters f.prototype.parameters s.memory.next names) depth (in_memory s (born_arguments vs s.memory)) w)
    (λ flow w. Went (called_back (ending (length vs) s.memory.next flow)) w)

-- a helper is called only from a function that is none
abbrev pub enter_helper : Bool → Again → Scope → Function → List Value → ℕ → State → World → Ran Called
enter_helper true helps names f vs depth s w = wrong w
enter_helper false helps names f vs depth s w = run_function (helps true) names f vs depth s w

-- one tick, then one level of depth, then the event
abbrev pub enter_function : Again → Scope → Function → List Value → ℕ → State → World → Ran Called
enter_function again names f vs depth s w =
    spend w (λ w. deeper depth w (λ depth. run_function (again false) names f vs depth s (show (Enter f.prototype.name) w)))

abbrev pub enter : Again → Again → Scope → Bool → Function → List Value → ℕ → State → World → Ran Called
enter again helps names inside f vs depth s w =
    if is_helper f.prototype.name then enter_helper inside helps names f vs depth s w else enter_function again names f vs depth s w

-- `main` is not called, and the arguments are as many as the parameters
abbrev pub called_own : Again → Again → Scope → Bool → Function → List Value → ℕ → State → World → Ran Called
called_own again helps names inside f vs depth s w =
    if is_main f.prototype.name then wrong w
    else (if length f.prototype.parameters == length vs then enter again helps names inside f vs depth s w else wrong w)

abbrev pub called : Again → Again → Program → Bool → Callee → List Value → ℕ → State → World → Ran Called
called again helps p inside (own f) vs depth s w = called_own again helps p.names inside f vs depth s w
called again helps p inside (built_in l) vs depth s w = does_library l inside vs s w

-- What is called: a name as it stands, or the value of the called expression and the type that it is called with.
pub data Chosen : Type 0 where
  name : List ℕ → Chosen
  pointer : CSignature → ℕ → Chosen

abbrev pub function_number : Value → Result ℕ ℕ
function_number (value.Function f) = Ok f
function_number (value.Number k z) = Err ill_typed
function_number (value.Address p) = Err ill_typed

-- a helper calls by name only
abbrev pub pointed_function : Bool → CSignature → Result Value ℕ → Result Chosen ℕ
pointed_function true signature v = Err wrong_type
pointed_function false signature v = on_ok v (λ v. on_ok (function_number v) (λ f. Ok (pointer signature f)))

abbrev pub chosen : Bool → Called_by → Scope → Memory → Result Chosen ℕ
chosen inside (by_name f) scope m = Ok (name f)
chosen inside (by_pointer signature e) scope m = pointed_function inside signature (value_of e scope m)

abbrev pub if_type : CSignature → Callee → Result Callee ℕ
if_type signature c = if has_type signature.result signature.parameters c then Ok c else Err wrong_type

-- null and a function of another type are acts once the arguments are evaluated
abbrev pub callee_of : List Function → Chosen → Result Callee ℕ
callee_of fs (name f) = callee_named fs f
callee_of fs (pointer signature f) = on_ok (callee_numbered fs f) (λ c. if_type signature c)

abbrev pub targeted : Option Place → Scope → Memory → Result (Option Target) ℕ
targeted None scope m = Ok None
targeted (Some place) scope m = on_ok (target_of place scope m) (λ at. Ok (Some at))

abbrev pub used : Option Value → Result Value ℕ
used None = Err not_returned
used (Some v) = Ok v

-- a call's result is stored, or dropped
abbrev pub store_result : Option Target → Option Value → State → World → Ran Flow
store_result None v s w = Went (Falls s) w
store_result (Some at) v s w = tried (on_ok (used v) (λ v. stored at v s.memory)) w (λ m. Went (Falls (in_memory s m)) w)

abbrev pub go_back : Option Target → Called → World → Ran Flow
go_back at (Back v s) w = store_result at v s w
go_back at (Gone z s) w = Went (Exits z s) w

-- The place is evaluated first, then what is called, then the arguments in order; then null or a wrong type is an act.
abbrev pub call_to : (Callee → List Value → State → World → Ran Called) → List Function → Bool → Option Place → Called_by → List Expression → Scope → State → World → Ran Flow
call_to go fs inside place f es scope s w =
    tried (targeted place scope s.memory) w (λ at.
    tried (chosen inside f scope s.memory) w (λ f.
    tried (values_of es scope s.memory) w (λ vs.
    tried (callee_of fs f) w (λ c. and_then (go c vs s w) (λ r w. go_back at r w)))))

abbrev pub given : Option Expression → Scope → Memory → Result (Option Value) ℕ
given None scope m = Ok None
given (Some e) scope m = on_ok (value_of e scope m) (λ v. Ok (Some v))

abbrev pub constant_bits : CConstant → ℕ
constant_bits (constant.Signed z) = bits_of 32 z
constant_bits (constant.Unsigned n) = n

-- whether a `switch` has a label of this value, modulo 2 ^ 32
abbrev pub has_label : ℕ → SwitchItems → Bool
has_label bits closed = false
has_label bits (labelled c rest) = if constant_bits c == bits then true else has_label bits rest
has_label bits (otherwise rest) = has_label bits rest
has_label bits (stated st rest) = has_label bits rest

-- the label that a `switch` goes to: one of this value, or `default`
abbrev pub wanted : ℕ → SwitchItems → Option ℕ
wanted bits items = if has_label bits items then Some bits else None

abbrev pub is_wanted : Option ℕ → CConstant → Bool
is_wanted None c = false
is_wanted (Some bits) c = constant_bits c == bits

abbrev mutual
  pub does : Again → Again → Program → Bool → Statement → Scope → ℕ → State → World → Ran Flow
  does again helps p inside (assign place e) scope depth s w =
      tried (assigned place e scope s.memory) w (λ m. Went (Falls (in_memory s m)) w)
  does again helps p inside (call place f es) scope depth s w =
      call_to (λ c vs s w. called again helps p inside c vs depth s w) p.functions inside place f es scope s w
  does again helps p inside (block b) scope depth s w = does_body again helps p inside b scope depth s w
  does again helps p inside leave scope depth s w = Went (Breaks s) w
  does again helps p inside next scope depth s w = Went (Continues s) w
  does again helps p inside (choose e b other) scope depth s w =
      tried (integer_of e scope s.memory) w (λ z.
      if is_true z then does_body again helps p inside b scope depth s w else does_body again helps p inside other scope depth s w)
  does again helps p inside (loop b) scope depth s w =
      spend w (λ w. and_then (does_body again helps p inside b scope depth s w) (turning (λ s w. again inside (loop b) scope depth s w)))
  does again helps p inside (select e items) scope depth s w =
      tried (integer_of e scope s.memory) w (λ z.
      and_then (does_from again helps p inside (wanted (bits_of 32 z) items) items scope depth s w) (λ flow w. Went (switching flow) w))
  does again helps p inside (give e) scope depth s w = tried (given e scope s.memory) w (λ v. Went (Returns v s) w)

  -- a body's locals live while its statements run
  pub does_body : Again → Again → Program → Bool → Body → Scope → ℕ → State → World → Ran Flow
  does_body again helps p inside (body locals all) scope depth s w =
      and_then (does_all again helps p inside all (bind_locals locals s.memory.next scope) depth (in_memory s (born_locals locals s.memory)) w)
      (λ flow w. Went (ending (length locals) s.memory.next flow) w)

  pub does_all : Again → Again → Program → Bool → Statements → Scope → ℕ → State → World → Ran Flow
  does_all again helps p inside done scope depth s w = Went (Falls s) w
  does_all again helps p inside (followed st rest) scope depth s w =
      and_then (does again helps p inside st scope depth s w) (falling (λ s w. does_all again helps p inside rest scope depth s w))

  -- what stands behind the label that is wanted
  pub does_from : Again → Again → Program → Bool → Option ℕ → SwitchItems → Scope → ℕ → State → World → Ran Flow
  does_from again helps p inside label closed scope depth s w = Went (Falls s) w
  does_from again helps p inside label (labelled c rest) scope depth s w =
      if is_wanted label c then does_items again helps p inside rest scope depth s w else does_from again helps p inside label rest scope depth s w
  does_from again helps p inside None (otherwise rest) scope depth s w = does_items again helps p inside rest scope depth s w
  does_from again helps p inside (Some bits) (otherwise rest) scope depth s w = does_from again helps p inside (Some bits) rest scope depth s w
  does_from again helps p inside label (stated st rest) scope depth s w = does_from again helps p inside label rest scope depth s w

  -- statements fall through labels
  pub does_items : Again → Again → Program → Bool → SwitchItems → Scope → ℕ → State → World → Ran Flow
  does_items again helps p inside closed scope depth s w = Went (Falls s) w
  does_items again helps p inside (labelled c rest) scope depth s w = does_items again helps p inside rest scope depth s w
  does_items again helps p inside (otherwise rest) scope depth s w = does_items again helps p inside rest scope depth s w
  does_items again helps p inside (stated st rest) scope depth s w =
      and_then (does again helps p inside st scope depth s w) (falling (λ s w. does_items again helps p inside rest scope depth s w))

-- no helper runs in a helper
abbrev pub refused : Again
refused inside st scope depth s w = Stops (Undefined wrong_type) w.trace

-- how the body of a helper that is called here runs
abbrev pub helps_in : Again → Program → Bool → Again
helps_in again p true inside st scope depth s w = refused inside st scope depth s w
helps_in again p false inside st scope depth s w = does again refused p true st scope depth s w

-- A statement at n ticks. What stands behind a spent tick runs at n - 1.
abbrev pub runs : Program → ℕ → Again
runs p zero inside st scope depth s w = Stops Ticks w.trace
runs p (suc n) inside st scope depth s w = does (runs p n) (helps_in (runs p n) p inside) p inside st scope depth s w
