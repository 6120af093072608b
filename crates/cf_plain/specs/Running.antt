-- What plain statements and functions do.
use Rattle.std.specs.Prelude.{ℕ, zero, suc, Bool, true, false, ◌&&◌, ◌||◌, not, List, ℤ, pos, int_le, Option, Some, None, find, bytes_eq}
use Rattle.cf_base.specs.Event.{Ticks}
use Rattle.cf_base.specs.World.{Stops}
use Rattle.cf_core.specs.Types.{Name, is_class, result as result_type}
use Rattle.cf_core.specs.Core.{Function, Part, within, blank}
use Rattle.cf_core.specs.Store.{Value, Nothing}
use Rattle.cf_core.specs.Run.{Act, ◌>>=◌, ◌>>◌, gives, malformed, state, tick, some_or, when}
use Rattle.cf_core.specs.Access.{number_of}
use Rattle.cf_core.specs.Building.{is_whole}
use Rattle.cf_core.specs.Calls as core
use Rattle.cf_core.specs.Calls.{Program}
use Rattle.cf_core.specs.Subobjects.{virtual}
use Rattle.cf_core.specs.Program.{begins, ends, unbuilds, ended_well}
use Rattle.cf_plain.specs.Plain.{Register, Plain, Plains, PlainParts, PlainFunction, act, set, branch, loop, switch, case_label, default_label, leave, continue, give, parts, nothing, more, no_parts, part}
use Rattle.cf_plain.specs.Acts.{Registers, no_registers, used_in, acts}

-- how a statement ends, and what the registers hold then
pub data Flow : Type 0 where
  Falls : Registers → Flow
  Breaks : Registers → Flow
  Continues : Registers → Flow
  Returns : Value → Flow

-- what runs with one tick less: a function's body, with the objects of its parameters, or the next turn of a loop
pub data Task : Type 0 where
  entered : Function → List ℕ → Task
  turn : Plains → Plains → Registers → Task

abbrev pub Again : Type 0
Again = Task → Act Flow

-- Functions that the core's meaning enters, as destructors, run as plain ones.

abbrev pub core_flow : Flow → core.Flow
core_flow (Falls g) = core.Falls
core_flow (Breaks g) = core.Breaks
core_flow (Continues g) = core.Continues
core_flow (Returns v) = core.Returns v

abbrev pub calls : Again → core.Again
calls again (core.body f args) = again (entered f args) >>= (λ flow. gives (core_flow flow))
calls again (core.turn s) = malformed

abbrev pub keep : Registers → Register → Value → Registers
keep g r v q = elim (same r q) [ true ↦ Some v | false ↦ g q ]
  where
    same : ℕ → ℕ → Bool
    same zero zero = true
    same (suc i) (suc j) = same i j
    same i j = false

-- a statement is followed by the next where it falls through
abbrev pub falling : (Registers → Act Flow) → Flow → Act Flow
falling next (Falls g) = next g
falling next (Breaks g) = gives (Breaks g)
falling next (Continues g) = gives (Continues g)
falling next (Returns v) = gives (Returns v)

-- after a loop's body, and after what is done before a further turn (6.6)
abbrev pub turning : (Registers → Act Flow) → Flow → Act Flow
turning next (Falls g) = next g
turning next (Continues g) = next g
turning next (Breaks g) = gives (Falls g)
turning next (Returns v) = gives (Returns v)

-- a switch is left by `break`
abbrev pub leaving : Flow → Act Flow
leaving (Breaks g) = gives (Falls g)
leaving (Falls g) = gives (Falls g)
leaving (Continues g) = gives (Continues g)
leaving (Returns v) = gives (Returns v)

abbrev pub has_case : ℤ → Plains → Bool
has_case z nothing = false
has_case z (more (case_label y) rest) = (int_le y z && int_le z y) || has_case z rest
has_case z (more s rest) = has_case z rest

abbrev pub is_true : Value → Act Bool
is_true v = number_of v >>= (λ z. gives (not (int_le z (pos 0) && int_le (pos 0) z)))

abbrev pub is_virtual_part : Part → Bool
is_virtual_part (within (virtual c)) = true
is_virtual_part w = false

module _ (again : Again) (P : Program) where
  abbrev mutual
    pub does : Plain → Registers → Act Flow
    does (act a) g = acts (calls again) P g a >> gives (Falls g)
    does (set r a) g = acts (calls again) P g a >>= (λ v. gives (Falls (keep g r v)))
    does (branch r a b) g = used_in g r >>= is_true >>= (λ t. when t (all a g) (all b g))
    does (loop s e) g = do
      tick
      flow ← all s g
      turning (λ h. all e h >>= turning (λ k. again (turn s e k))) flow
    does (switch r es) g = do
      z ← used_in g r >>= number_of
      flow ← when (has_case z es) (from_case z es g) (from_default es g)
      leaving flow
    does (case_label z) g = gives (Falls g)
    does default_label g = gives (Falls g)
    does leave g = gives (Breaks g)
    does continue g = gives (Continues g)
    does (give None) g = gives (Returns Nothing)
    does (give (Some r)) g = used_in g r >>= (λ v. gives (Returns v))
    does (parts ps) g = do
      s ← state
      object ← some_or s.frame.this malformed
      builds (is_whole object) ps g

    pub all : Plains → Registers → Act Flow
    all nothing g = gives (Falls g)
    all (more s rest) g = does s g >>= falling (λ h. all rest h)

    -- virtual bases in a whole object alone
    pub builds : Bool → PlainParts → Registers → Act Flow
    builds whole no_parts g = gives (Falls g)
    builds whole (part w s rest) g =
        when (is_virtual_part w && not whole) (gives (Falls g)) (all s g) >>= falling (λ h. builds whole rest h)

    -- the statements behind a label
    pub from_case : ℤ → Plains → Registers → Act Flow
    from_case z nothing g = gives (Falls g)
    from_case z (more (case_label y) rest) g = when (int_le y z && int_le z y) (all rest g) (from_case z rest g)
    from_case z (more s rest) g = from_case z rest g

    pub from_default : Plains → Registers → Act Flow
    from_default nothing g = gives (Falls g)
    from_default (more default_label rest) g = all rest g
    from_default (more s rest) g = from_default rest g

-- Functions.

abbrev pub plain_named : List PlainFunction → Name → Option PlainFunction
plain_named fs name = find (λ (f : PlainFunction). bytes_eq f.name name) fs

-- a function as the core's meaning sees it: by its name, kind and types
abbrev pub header : PlainFunction → Function
header f = record {
  name = f.name;
  role = f.role;
  type = f.type;
  locals = f.locals;
  body = blank;
  is_shared = f.is_shared;
  is_local = f.is_local;
}

-- A body runs, and has destroyed its locals and parameters where it ends; then a destructor's object is taken apart.
abbrev pub run_body : Again → Program → PlainFunction → Act Flow
run_body again P f = do
  before ← state
  begins P.classes f.role before.frame.this
  flow ← all again P f.body no_registers
  ended_well (is_class (result_type f.type)) (core_flow flow)
  unbuilds (calls again) P f.role before.frame.this
  ends P.classes f.role before.frame.this before
  gives flow

abbrev pub run_found : Again → Program → Option PlainFunction → Act Flow
run_found again P None = malformed
run_found again P (Some f) = run_body again P f

abbrev pub perform : Again → Program → List PlainFunction → Task → Act Flow
perform again P fs (entered f args) = run_found again P (plain_named fs f.name)
perform again P fs (turn s e g) = does again P (loop s e) g

-- each task begins behind a tick of its own
abbrev pub runs : Program → List PlainFunction → ℕ → Again
runs P fs zero task s w = Stops Ticks w.trace
runs P fs (suc n) task s w = perform (runs P fs n) P fs task s w
