-- What is known of a register, in the code's types.
use Rattle.std.specs.Prelude.{ℕ, zero, ◌+◌, ◌*◌, ◌-◌, Bool, true, false, List, [], ℤ, pos, negsuc, Option, Some, None, slice_get}
use Rattle.std.specs.Result.{result_ok}
use Rattle.cf_base.specs.declared.arith.Arith.{Arith}
use Rattle.cf_base.specs.declared.arith.Arith.TheVariants as arith
use Rattle.cf_base.specs.declared.kind.Kind.{Kind}
use Rattle.cf_base.specs.declared.kind.Kind.TheVariants.{Char}
use Rattle.cf_base.specs.Integers.{int_op, convert}
use Rattle.cf_core.specs.declared.operators.UnaryOperator.{UnaryOperator}
use Rattle.cf_core.specs.declared.operators.UnaryOperator.TheVariants as sign
use Rattle.cf_core.specs.Types.{Name, SourceType, void, integer, array}
use Rattle.cf_core.specs.FromTypes.{Tables, type_of}
use Rattle.cf_plain.specs.Plain.{Register}
use Rattle.cf_lower.specs.Constants.{Known, unknown, a_number, null, at, a_function}
use Rattle.cf_lower_types.specs.Bare.{bare}
use Rattle.cf_lower_constants.specs.declared.known.Target.{Target}
use Rattle.cf_lower_constants.specs.declared.known.Target.TheVariants as target
use Rattle.cf_lower_constants.specs.declared.known.Fact.{Fact}
use Rattle.cf_lower_constants.specs.declared.known.Fact.TheVariants as fact
use Rattle.cf_lower_constants.specs.declared.known.Known.{Known as CodeKnown}
use Rattle.cf_lower_constants.specs.declared.registers.Knowns.{Knowns}

abbrev pub target_in : Tables → Target → SourceType
target_in tables (target.Exactly t) = type_of tables t
target_in tables (target.Bare t) = bare tables t
target_in tables target.Void = void
target_in tables target.Character = integer Char
target_in tables (target.Characters n) = array (integer Char) n

-- of what has this type and name
abbrev pub fact_in : Tables → Fact → Target → Name → Known
fact_in tables fact.Nothing t n = unknown
fact_in tables (fact.Number z) t n = a_number z
fact_in tables fact.Null t n = null
fact_in tables (fact.Place o) t n = at n o (target_in tables t)
fact_in tables fact.Function t n = a_function n

abbrev pub known_in : Tables → CodeKnown → Known
known_in tables k = fact_in tables k.fact k.target k.name

-- of what has no name
abbrev pub nameless : Fact → CodeKnown
nameless f = record { fact = f; target = target.Void; name = [] }

-- what is known of a register; nothing behind the last
abbrev pub known_or : Option CodeKnown → CodeKnown
known_or None = nameless fact.Nothing
known_or (Some k) = k

abbrev pub known_at : List CodeKnown → ℕ → CodeKnown
known_at ks r = known_or (slice_get ks r)

-- of all registers
abbrev pub knowing : Tables → Knowns → Register → Known
knowing tables ks r = known_in tables (known_at ks.known.items r)

-- ---- numbers

-- a number, if it is known to be one
abbrev pub fact_number : Fact → Option ℤ
fact_number (fact.Number z) = Some z
fact_number f = None

abbrev pub number_fact : Option ℤ → Fact
number_fact None = fact.Nothing
number_fact (Some z) = fact.Number z

-- what an operator gives at two numbers, if both are known (5.6 to 5.13)
abbrev pub operated_on : Arith → Kind → Option ℤ → Option ℤ → Option ℤ
operated_on op k None b = None
operated_on op k (Some a) None = None
operated_on op k (Some a) (Some b) = result_ok (int_op op k a b)

-- and at one (5.3)
abbrev pub changed_to : UnaryOperator → Kind → Option ℤ → Option ℤ
changed_to sign.Negate k None = None
changed_to sign.Negate k (Some a) = result_ok (int_op arith.Subtract k (pos 0) a)
changed_to sign.Complement k None = None
changed_to sign.Complement k (Some a) = result_ok (int_op arith.Xor k a (convert k (negsuc 0)))

-- so many elements of so many bytes behind a byte, or before it
abbrev pub reached : ℕ → ℕ → ℤ → ℕ
reached o bytes (pos k) = o + k * bytes
reached o bytes (negsuc k) = o - (k + 1) * bytes

-- ---- truths

abbrev pub fact_truth : Fact → Option Bool
fact_truth fact.Nothing = None
fact_truth (fact.Number (pos zero)) = Some false
fact_truth (fact.Number z) = Some true
fact_truth fact.Null = Some false
fact_truth (fact.Place o) = Some true
fact_truth fact.Function = Some true

abbrev pub truth_fact : Option Bool → Fact
truth_fact None = fact.Nothing
truth_fact (Some true) = fact.Number (pos 1)
truth_fact (Some false) = fact.Number (pos 0)
