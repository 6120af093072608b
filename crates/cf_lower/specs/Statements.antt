-- The C statements of plain statements.
use Rattle.std.specs.Prelude.{ℕ, zero, suc, ◌+◌, ◌*◌, List, [], ◌∷◌, ◌++◌, map, pos, Option, Some, None}
use Rattle.cf_base.specs.declared.kind.Kind.{Kind}
use Rattle.cf_base.specs.declared.kind.Kind.TheVariants.{Char, Int}
use Rattle.cf_base.specs.declared.arith.Arith.TheVariants as op
use Rattle.cf_base.specs.Integers.{convert as converted_to}
use Rattle.cf_core.specs.Types.{Name, SourceType, array, const, parameters, result as result_type}
use Rattle.cf_core.specs.Classes.{Class}
use Rattle.cf_core.specs.Objects.{character_kind}
use Rattle.cf_core.specs.Size.{size}
use Rattle.cf_lower_layout.specs.Sorts.{Sort, number, address, code, sort_of}
use Rattle.cf_plain.specs.Plain as plain
use Rattle.cf_plain.specs.Plain.{Register, Action, Plain, Plains, act, set, branch, loop, switch, case_label, default_label, leave, continue, give, parts, nothing, more}
use Rattle.cc_whole.specs.declared.types.CType.{CType}
use Rattle.cc_whole.specs.declared.types.CConstant.TheVariants as constants
use Rattle.cc_whole.specs.declared.types.CSignature.{CSignature}
use Rattle.cc_whole.specs.Plain as c
use Rattle.cc_whole.specs.Plain.{Expression, Statement, SwitchItems, Body, named, pointed, constant, load, binary, Callee, by_name, by_pointer, body, in_order}
use Rattle.cf_lower.specs.Kept.{Kept, holds, argument, Keeping, local_kept, Locals, kept_by, after, untouched}
use Rattle.cf_lower.specs.Written.{if_scalar, c_type, int_constant, result_of, local_name, register_name, flag_name, result_name}
use Rattle.cf_lower.specs.Expressions as value
use Rattle.cf_lower.specs.Expressions.{zero as nought, constant_of, in_register, integer_in, address_in, value_in, as_value, as_stored}

-- what a statement stands in: its function, how many flags are in use around it, and the C of leaving and of going on with the loop or switch around it
pub record Inside : Type 0 where
  pub classes : List Class
  pub function : Name
  pub result : SourceType
  pub locals : Locals
  pub depth : ℕ
  pub leaving : List Statement
  pub going_on : List Statement

abbrev pub block : List Statement → Body
block ss = body [] (in_order ss)

abbrev pub set_register : Sort → Register → Expression → Statement
set_register s r e = c.assign (named (register_name s r)) e

-- ---- objects

-- a value is stored in the scalar at an address
abbrev pub put : Sort → Expression → Expression → Statement
put s p e = c.assign (pointed (c_type s) p) (as_stored s e)

-- to the scalar whose place is in the first register, by the value in the second
abbrev pub stored : Option Sort → Register → Expression → List Statement
stored s r e = if_scalar s [] (λ s. put s (address_in r) e ∷ [])

abbrev pub stored_in : Kept → Register → Expression → List Statement
stored_in (holds (address t)) r e = stored (sort_of t) r e
stored_in x r e = []

-- the object of a parameter of a call is the C local that is passed
abbrev pub first_in : Kept → Register → Expression → List Statement
first_in (argument i t) r e = if_scalar (sort_of t) [] (λ s. c.assign (named (local_name i)) (as_stored s e) ∷ [])
first_in x r e = stored_in x r e

abbrev pub behind : Expression → ℕ → Expression
behind p n = binary op.Add p (constant (int_constant n))

-- statements for each number below a count, from a number on
abbrev pub for_each : ℕ → ℕ → (ℕ → List Statement) → List Statement
for_each i zero f = []
for_each i (suc n) f = f i ++ for_each (suc i) n f

-- every scalar of an object of this type so many bytes behind an address is 0 or null
abbrev pub zeros : List Class → SourceType → Expression → ℕ → List Statement
zeros classes (array t n) p at = for_each 0 n (λ i. zeros classes t p (at + i * size classes t))
zeros classes (const t) p at = zeros classes t p at
zeros classes t p at = if_scalar (sort_of t) [] (λ s. put s (behind p at) nought ∷ [])

abbrev pub zeros_in : List Class → Kept → Register → List Statement
zeros_in classes (holds (address t)) r = zeros classes t (address_in r) 0
zeros_in classes x r = []

-- the bytes of a literal from an address on, as characters of this kind
abbrev pub put_bytes : Kind → Expression → ℕ → List ℕ → List Statement
put_bytes k p i [] = []
put_bytes k p i (b ∷ rest) = put (number k) (behind p i) (constant_of (converted_to k (pos b))) ∷ put_bytes k p (suc i) rest

-- the kind of the characters of the array whose place is in a register
abbrev pub kind_in : Kept → Kind
kind_in (holds (address t)) = character_kind t
kind_in x = Char

-- the bytes of a literal, and 0 behind (8.4.2)
abbrev pub bytes_in : List Class → Kept → Register → List ℕ → List Statement
bytes_in classes x r bytes = zeros_in classes x r ++ put_bytes (kind_in x) (address_in r) 0 bytes

-- ---- calls

abbrev pub passed : List ℕ → List Expression
passed is = map (λ i. load (named (local_name i))) is

abbrev pub c_types : List SourceType → List CType
c_types [] = []
c_types (t ∷ ts) = if_scalar (sort_of t) (c_types ts) (λ s. c_type s ∷ c_types ts)

abbrev pub signature : SourceType → CSignature
signature t = record { result = result_of (result_type t); parameters = c_types (parameters t) }

-- A call, whose result goes through a C local of its type to the register.
abbrev pub called : Callee → SourceType → List ℕ → Option Register → List Statement
called f t is None = c.call None f (passed is) ∷ []
called f t is (Some r) =
    if_scalar (sort_of (result_type t)) (c.call None f (passed is) ∷ []) (λ s.
    c.call (Some (named (result_name (c_type s)))) f (passed is) ∷ set_register s r (as_value s (load (named (result_name (c_type s))))) ∷ [])

abbrev pub through : Register → SourceType → Callee
through r t = by_pointer (signature t) (in_register (code t) r)

-- ---- statements

module _ (x : Inside) where
  -- what is done by an action whose value isn't kept
  abbrev pub done : Keeping → Action → List Statement
  done g (plain.store r q) = stored_in (g r) r (value_in g q)
  done g (plain.first r q) = first_in (g r) r (value_in g q)
  done g (plain.zeros r) = zeros_in x.classes (g r) r
  done g (plain.bytes r bytes) = bytes_in x.classes (g r) r bytes
  done g (plain.call name t object is into) = called (by_name name) t is None
  done g (plain.pointer_call object r t is into) = called (through r t) t is None
  done g a = []

  -- what is kept goes to the C local of its register
  abbrev pub put_in : Option Sort → Register → Expression → List Statement
  put_in None r e = []
  put_in (Some s) r e = set_register s r e ∷ []

  abbrev pub kept : Keeping → Register → Action → List Statement
  kept g r (plain.call name t object is into) = called (by_name name) t is (Some r)
  kept g r (plain.pointer_call object q t is into) = called (through q t) t is (Some r)
  kept g r a = put_in (local_kept (kept_by x.locals g a)) r (value.value x.classes x.function x.locals g a)

-- what a function gives that ends without a value: nothing can use it
abbrev pub no_value : SourceType → List Statement
no_value t = if_scalar (sort_of t) (c.give None ∷ []) (λ s. c.give (Some (as_stored s nought)) ∷ [])

abbrev pub given : SourceType → Expression → List Statement
given t e = if_scalar (sort_of t) (c.give None ∷ []) (λ s. c.give (Some (as_stored s e)) ∷ [])

-- the flag of a loop or switch
abbrev pub flag_set : ℕ → ℕ → Statement
flag_set d n = c.assign (named (flag_name d)) (constant (int_constant n))

abbrev pub if_flag : ℕ → List Statement → Statement
if_flag d ss = c.choose (load (named (flag_name d))) (block ss) (block [])

-- In a loop whose turns end in a step, `continue` goes to the step: it leaves a `switch` around the body, and `break` sets the flag before.
abbrev pub in_stepped : Inside → Inside
in_stepped x = record x { depth = suc x.depth; leaving = flag_set x.depth 1 ∷ c.leave ∷ []; going_on = c.leave ∷ [] }

abbrev pub in_loop : Inside → Inside
in_loop x = record x { leaving = c.leave ∷ []; going_on = c.next ∷ [] }

-- In a switch, `continue` leaves it with the flag set.
abbrev pub in_switch : Inside → Inside
in_switch x = record x { depth = suc x.depth; leaving = c.leave ∷ []; going_on = flag_set x.depth 1 ∷ c.leave ∷ [] }

abbrev pub stated_all : List Statement → SwitchItems → SwitchItems
stated_all [] items = items
stated_all (s ∷ ss) items = c.stated s (stated_all ss items)

abbrev mutual
  pub lowered : Plain → Inside → Keeping → List Statement
  lowered (act a) x g = done x g a
  lowered (set r a) x g = kept x g r a
  lowered (branch r ss ts) x g = c.choose (integer_in r) (block (all_lowered ss x g)) (block (all_lowered ts x g)) ∷ []
  lowered (loop ss nothing) x g = c.loop (block (all_lowered ss (in_loop x) (untouched x.locals g ss))) ∷ []
  lowered (loop ss ts) x g =
      let h = untouched x.locals (untouched x.locals g ss) ts in
      c.loop (block
      (flag_set x.depth 0
      ∷ c.select nought (c.otherwise (stated_all (all_lowered ss (in_stepped x) h) c.closed))
      ∷ if_flag x.depth (c.leave ∷ [])
      ∷ all_lowered ts (in_loop x) h)) ∷ []
  lowered (switch r ss) x g =
      flag_set x.depth 0
      ∷ c.select (integer_in r) (items ss (in_switch x) (untouched x.locals g ss) (untouched x.locals g ss))
      ∷ if_flag x.depth x.going_on ∷ []
  lowered (case_label z) x g = []
  lowered default_label x g = []
  lowered leave x g = x.leaving
  lowered continue x g = x.going_on
  lowered (give None) x g = no_value x.result
  lowered (give (Some r)) x g = given x.result (value_in g r)
  lowered (parts ps) x g = []

  pub all_lowered : Plains → Inside → Keeping → List Statement
  all_lowered nothing x g = []
  all_lowered (more s ss) x g = lowered s x g ++ all_lowered ss x (after x.locals s g)

  -- the labels and statements of a switch; at a label the registers hold what they hold at each
  pub items : Plains → Inside → Keeping → Keeping → SwitchItems
  items nothing x g h = c.closed
  items (more (case_label z) ss) x g h = c.labelled (constants.Signed (converted_to Int z)) (items ss x g g)
  items (more default_label ss) x g h = c.otherwise (items ss x g g)
  items (more s ss) x g h = stated_all (lowered s x h) (items ss x g (after x.locals s h))
