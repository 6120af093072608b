-- Constant initialisers: what their statements store is known beforehand, so each store stands by itself, and no C local is used (8.4).
use Rattle.std.specs.Prelude.{ℕ, zero, ◌+◌, ◌*◌, ◌-◌, nat_eq, Bool, true, false, not, if◌then◌else◌, List, [], ◌∷◌, ◌++◌, length, ℤ, pos, negsuc, neg_ℤ, Option, Some, None, Result, Ok, Err}
use Rattle.cf_base.specs.declared.kind.Kind.TheVariants.{Char, Int}
use Rattle.cf_base.specs.declared.arith.Arith.TheVariants as arith
use Rattle.cf_base.specs.Integers.{int_op, convert as converted}
use Rattle.cf_core.specs.declared.operators.PointerOperator.{PointerOperator}
use Rattle.cf_core.specs.declared.operators.PointerOperator.TheVariants as pointer
use Rattle.cf_core.specs.declared.operators.UnaryOperator.TheVariants as sign
use Rattle.cf_core.specs.Types.{Name, SourceType, integer, array, plain, element}
use Rattle.cf_core.specs.Classes.{Class}
use Rattle.cf_core.specs.Objects.{character_kind}
use Rattle.cf_core.specs.Size.{size}
use Rattle.cf_lower_layout.specs.Sorts.{Sort, number, address, code, sort_of}
use Rattle.cf_plain.specs.Plain as plain
use Rattle.cf_plain.specs.Plain.{Register, Action, Plain, Plains, act, set, branch, nothing, more}
use Rattle.cc_whole.specs.declared.types.CConstant.TheVariants as constants
use Rattle.cc_whole.specs.Plain.{Expression, Statement, named, constant, load, address as address_of, binary}
use Rattle.cf_lower.specs.Written.{if_scalar, literal_name}
use Rattle.cf_lower.specs.Expressions.{zero as nought}
use Rattle.cf_lower.specs.Statements.{put, put_bytes}

-- what a register holds: a number, null, so many bytes behind the start of an object a place of this type, a function
pub data Known : Type 0 where
  unknown : Known
  a_number : ℤ → Known
  null : Known
  at : Name → ℕ → SourceType → Known
  a_function : Name → Known

abbrev pub nothing_known : Register → Known
nothing_known r = unknown

abbrev pub know : (Register → Known) → Register → Known → Register → Known
know g r x q = if nat_eq q r then x else g q

abbrev pub computed : Result ℤ ℕ → Known
computed (Ok z) = a_number z
computed (Err e) = unknown

-- whether it is neither 0 nor null, where that is known (4.1, 5.3)
abbrev pub holds_truth : Known → Option Bool
holds_truth unknown = None
holds_truth (a_number (pos zero)) = Some false
holds_truth (a_number z) = Some true
holds_truth null = Some false
holds_truth (at n o t) = Some true
holds_truth (a_function name) = Some true

abbrev pub truth_known : Option Bool → Known
truth_known None = unknown
truth_known (Some true) = a_number (pos 1)
truth_known (Some false) = a_number (pos 0)

abbrev pub inverted : Option Bool → Option Bool
inverted None = None
inverted (Some b) = Some (not b)

-- a number of bytes further, or before
abbrev pub further : Name → SourceType → ℕ → ℕ → ℤ → Known
further n t at_byte bytes (pos k) = at n (at_byte + k * bytes) t
further n t at_byte bytes (negsuc k) = at n (at_byte - (k + 1) * bytes) t

abbrev pub decayed : Known → Known
decayed (at n o t) = at n o (element (plain t))
decayed x = x

-- so many bytes behind the start of an object; the number as an int has it, since a place beyond what an int counts is none of the object's (5.7)
abbrev pub at_byte : Name → ℕ → Expression
at_byte n o = binary arith.Add (address_of n) (constant (constants.Signed (converted Int (pos o))))

module _ (classes : List Class) where
  abbrev pub moved : Known → ℤ → Known
  moved (at n o t) z = further n t o (size classes t) z
  moved x z = unknown

  abbrev pub sum : Known → Known → Known
  sum (a_number z) y = moved y z
  sum x (a_number z) = moved x z
  sum x y = unknown

  abbrev pub pointer_known : PointerOperator → Known → Known → Known
  pointer_known pointer.Add x y = sum x y
  pointer_known pointer.Subtract x (a_number z) = moved x (neg_ℤ z)
  pointer_known o x y = unknown

  abbrev pub converted_known : Option Sort → Known → Known
  converted_known (Some (number k)) (a_number z) = a_number (converted k z)
  converted_known (Some (address t)) (a_number z) = null
  converted_known (Some (code t)) (a_number z) = null
  converted_known (Some (address t)) (at n o u) = at n o t
  converted_known s x = x

  abbrev pub known_by : Name → (Register → Known) → Action → Known
  known_by f g (plain.number z) = a_number z
  known_by f g (plain.text j bytes) = at (literal_name f j) 0 (array (integer Char) (length bytes))
  known_by f g (plain.static_object name t) = at name 0 t
  known_by f g (plain.function name t) = a_function name
  known_by f g (plain.dereference r) = g r
  known_by f g (plain.decay r) = decayed (g r)
  known_by f g (plain.index r q) = sum (g r) (g q)
  known_by f g (plain.convert t r) = converted_known (sort_of t) (g r)
  known_by f g (plain.from_void t r) = converted_known (Some (address t)) (g r)
  known_by f g (plain.operate op k r q) = of_numbers (g r) (g q)
    where
      of_numbers : Known → Known → Known
      of_numbers (a_number x) (a_number y) = computed (int_op op k x y)
      of_numbers x y = unknown
  known_by f g (plain.unary sign.Negate k r) = of_number (g r)
    where
      of_number : Known → Known
      of_number (a_number x) = computed (int_op arith.Subtract k (pos 0) x)
      of_number x = unknown
  known_by f g (plain.unary sign.Complement k r) = of_number (g r)
    where
      of_number : Known → Known
      of_number (a_number x) = computed (int_op arith.Xor k x (converted k (negsuc 0)))
      of_number x = unknown
  known_by f g (plain.truth r) = truth_known (holds_truth (g r))
  known_by f g (plain.logical_not r) = truth_known (inverted (holds_truth (g r)))
  known_by f g (plain.pointer_operate op r q) = pointer_known op (g r) (g q)
  known_by f g a = unknown

  -- a known value, for a store
  abbrev pub written : Known → Expression
  written (a_number z) = constant (constants.Signed (converted Int z))
  written (at n o t) = at_byte n o
  written (a_function name) = load (named name)
  written x = nought

  abbrev pub stored : Known → Known → List Statement
  stored (at n o t) v = if_scalar (sort_of t) [] (λ s. put s (at_byte n o) (written v) ∷ [])
  stored x v = []

  abbrev pub stored_bytes : Known → List ℕ → List Statement
  stored_bytes (at n o t) bytes = put_bytes (character_kind t) (at_byte n o) 0 bytes
  stored_bytes x bytes = []

  -- Static storage is 0 before, so zeros need no store.
  abbrev pub constant_done : (Register → Known) → Action → List Statement
  constant_done g (plain.first r q) = stored (g r) (g q)
  constant_done g (plain.bytes r bytes) = stored_bytes (g r) bytes
  constant_done g a = []

  abbrev mutual
    -- what registers hold behind a statement; behind a branch what they hold behind the one that is taken (5.14 to 5.16)
    pub known_after : Plain → Name → (Register → Known) → Register → Known
    known_after (set r a) f g = know g r (known_by f g a)
    known_after (branch r ss ts) f g =
        elim (holds_truth (g r)) [ None ↦ nothing_known | Some b ↦ elim b [ true ↦ all_known_after ss f g | false ↦ all_known_after ts f g ] ]
    known_after s f g = g

    pub all_known_after : Plains → Name → (Register → Known) → Register → Known
    all_known_after nothing f g = g
    all_known_after (more s ss) f g = all_known_after ss f (known_after s f g)

  abbrev mutual
    -- the stores of a statement
    pub constant_stores : Plain → Name → (Register → Known) → List Statement
    constant_stores (act a) f g = constant_done g a
    constant_stores (branch r ss ts) f g =
        elim (holds_truth (g r)) [ None ↦ [] | Some b ↦ elim b [ true ↦ constant_code ss f g | false ↦ constant_code ts f g ] ]
    constant_stores s f g = []

    -- the stores of an initialiser whose literals are those of this function
    pub constant_code : Plains → Name → (Register → Known) → List Statement
    constant_code nothing f g = []
    constant_code (more s ss) f g = constant_stores s f g ++ constant_code ss f (known_after s f g)
