-- What operators and conversions give (4, 5).
use Rattle.std.specs.Prelude.{zero, suc, Bool, true, false, List, ◌++◌, pos, negsuc, ◌&&◌, ◌||◌}
use Rattle.cf_base.specs.declared.kind.Kind.{Kind}
use Rattle.cf_base.specs.declared.kind.Kind.TheVariants.{Int}
use Rattle.cf_base.specs.declared.arith.Arith.{Arith}
use Rattle.cf_base.specs.declared.arith.Arith.TheVariants as arith
use Rattle.cf_base.specs.Integers.{fits, int_op, convert as converted}
use Rattle.cf_types.specs.Operators.{is_shift}
use Rattle.cf_core.specs.declared.operators.UnaryOperator.{UnaryOperator}
use Rattle.cf_core.specs.declared.operators.UnaryOperator.TheVariants as sign
use Rattle.cf_core.specs.Types.{SourceType, void, integer, enumeration, pointer, data_member, function_member, const, is_array}
use Rattle.cf_core.specs.Classes.{Class}
use Rattle.cf_core.specs.Subobjects.{Path}
use Rattle.cf_core.specs.Core.{item, Change, arithmetic, moved}
use Rattle.cf_core.specs.Places.{Place, inner, along}
use Rattle.cf_core.specs.Store.{Value, Nothing, Missing, Built, Number, Null, At, Code, DataMember, FunctionMember}
use Rattle.cf_core.specs.Run.{Act, ◌>>=◌, ◌>>◌, gives, malformed, undefined, state, valid, ok_or_act, null_used, no_result}
use Rattle.cf_core.specs.Access.{used, number_of, place_type, name_part, name_subobject, name_field, has_path}
use Rattle.cf_core.specs.Pointers.{moved_value}

-- whether a value counts as true: a number that isn't 0, a pointer that isn't null
abbrev pub truth_of : Value → Act Bool
truth_of Nothing = malformed
truth_of Missing = undefined no_result
truth_of Built = malformed
truth_of (Number (pos zero)) = gives false
truth_of (Number z) = gives true
truth_of Null = gives false
truth_of v = gives true

-- a pointer stays what it is, and 0 is a null pointer (4.6, 4.8)
abbrev pub as_pointer : Value → Act Value
as_pointer (Number (pos zero)) = gives Null
as_pointer (Number z) = malformed
as_pointer v = gives v

-- a conversion to this type (4): an integer modulo its width, 0 to a null pointer, anything to void
abbrev pub converted_value : SourceType → Value → Act Value
converted_value void Built = malformed
converted_value void v = gives Nothing
converted_value (integer k) v = used v >>= number_of >>= (λ z. gives (Number (converted k z)))
converted_value (enumeration e) v = used v >>= number_of >>= (λ z. gives (Number (converted Int z)))
converted_value (const t) v = converted_value t v
converted_value (pointer t) v = used v >>= as_pointer
converted_value (data_member c t) v = used v >>= as_pointer
converted_value (function_member c t) v = used v >>= as_pointer
converted_value t v = malformed

-- both operands are values of the type, but for the count of a shift, which is of any type (5.8)
abbrev pub operated : Arith → Kind → Value → Value → Act Value
operated op k (Number x) (Number y) = do
  valid (fits k x && (is_shift op || fits k y))
  z ← ok_or_act (int_op op k x y)
  gives (Number z)
operated op k v w = malformed

-- `-` takes from 0, `~` turns every bit (5.3)
abbrev pub signed : UnaryOperator → Kind → Value → Act Value
signed sign.Negate k v = operated arith.Subtract k (Number (pos 0)) v
signed sign.Complement k v = operated arith.Xor k v (Number (converted k (negsuc 0)))

abbrev pub minus : Value → Value
minus (Number (pos zero)) = Number (pos zero)
minus (Number (pos (suc n))) = Number (negsuc n)
minus (Number (negsuc n)) = Number (pos (suc n))
minus v = v

abbrev pub moved_by : List Class → Value → Value → Act Value
moved_by classes v (Number z) = moved_value classes v z
moved_by classes v w = malformed

-- the new value of a scalar that is changed in place by a right operand (5.17)
abbrev pub changed_value : List Class → Change → Value → Value → Act Value
changed_value classes (arithmetic op k to) (Number x) y =
    operated op k (Number (converted k x)) y >>= number_of >>= (λ z. gives (Number (converted to z)))
changed_value classes (arithmetic op k to) v y = malformed
changed_value classes (moved false) v y = moved_by classes v y
changed_value classes (moved true) v y = moved_by classes v (minus y)

-- a pointer and an integer, in either order (5.2.1)
abbrev pub indexed : List Class → Value → Value → Act Value
indexed classes (Number z) w = moved_value classes w z
indexed classes v w = moved_by classes v w

-- the first element of an array; a function stays itself (4.6)
abbrev pub decayed : List Class → Value → Act Value
decayed classes (At p) = do
  s ← state
  valid (is_array (place_type classes s p))
  name_part classes p
  gives (At (inner (item 0) p))
decayed classes (Code f) = gives (Code f)
decayed classes v = malformed

-- what a pointer points to (5.3)
abbrev pub pointed_to : Value → Act Value
pointed_to (At p) = gives (At p)
pointed_to (Code f) = gives (Code f)
pointed_to Null = undefined null_used
pointed_to v = malformed

-- a pointer to a member of the base at this path as one of the derived class (4.8)
abbrev pub to_derived : Path → Value → Act Value
to_derived path Null = gives Null
to_derived path (DataMember r i) = gives (DataMember (path ++ r) i)
to_derived path (FunctionMember r t) = gives (FunctionMember (path ++ r) t)
to_derived path v = malformed

-- the data member of a place that a pointer names (5.5)
abbrev pub through_pointer : List Class → Place → Value → Act Value
through_pointer classes p Null = undefined null_used
through_pointer classes p (DataMember r i) = do
  s ← state
  valid (has_path classes s p r)
  name_subobject classes p
  q ← name_field classes i (record p { route = along r p.route })
  gives (At q)
through_pointer classes p v = malformed
