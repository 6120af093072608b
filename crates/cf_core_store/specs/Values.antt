-- What is done with a value once it is there.
use Rattle.std.specs.Prelude.{Bool, if◌then◌else◌, [], pos, not, Option, None, Some}
use Rattle.cf_core.specs.FromTypes.{Tables}
use Rattle.cf_core.specs.Places.{Place}
use Rattle.cf_core.specs.Store.{Value, Nothing, Missing, Built, Number, Null, At, Code, DataMember, FunctionMember}
use Rattle.cf_core.specs.Run.{Act, ◌>>=◌, ◌>>◌, gives, malformed}
use Rattle.cf_core.specs.Access.{used, place_of, read_place, write_place}
use Rattle.cf_core.specs.Pointers.{truth_value, pointer_op, equal_values}
use Rattle.cf_core.specs.Scalars.{truth_of, converted_value, operated, signed, changed_value, indexed, decayed, pointed_to, as_pointer}
use Rattle.cf_run_tree.specs.declared.node.Change.{Change}
use Rattle.cf_run_tree.specs.declared.node.Unary.{Unary}
use Rattle.cf_run_tree.specs.declared.node.Unary.TheVariants as one
use Rattle.cf_run_tree.specs.declared.node.Binary.{Binary}
use Rattle.cf_run_tree.specs.declared.node.Binary.TheVariants as two
use Rattle.cf_run_tree.specs.Tree.{shape_type, change_of}
use Rattle.cf_core_store.specs.declared.results.Applied.{Applied}
use Rattle.cf_core_store.specs.declared.results.Applied.TheVariants as applied
use Rattle.cf_core_objects.specs.Store.{value_of}

abbrev pub stepped_at : Bool → Change → Place → Act Value
stepped_at is_postfix o p = do
  x ← read_place [] p
  z ← changed_value [] (change_of o) x (Number (pos 1))
  write_place [] p z
  gives (if is_postfix then x else At p)

abbrev pub changed_at : Change → Place → Value → Act Value
changed_at o p y = do
  x ← read_place [] p
  z ← changed_value [] (change_of o) x y
  write_place [] p z
  gives (At p)

abbrev pub put_at : Place → Value → Act Value
put_at p y = write_place [] p y >> gives (At p)

abbrev pub equal_number : Value → Value → Act Value
equal_number x y = equal_values [] x y >>= (λ b. gives (truth_value b))

abbrev pub unequal_number : Value → Value → Act Value
unequal_number x y = equal_values [] x y >>= (λ b. gives (truth_value (not b)))

-- an act at the place that a value is
abbrev pub at_place : (Place → Act Value) → Value → Act Value
at_place go (At p) = go p
at_place go Nothing = malformed
at_place go Missing = malformed
at_place go Built = malformed
at_place go (Number z) = malformed
at_place go Null = malformed
at_place go (Code f) = malformed
at_place go (DataMember path i) = malformed
at_place go (FunctionMember path t) = malformed

-- a value that is stored, or by which a place is changed
abbrev pub stored : Option Change → Value → Value → Act Value
stored None x y = at_place (λ p. put_at p y) x
stored (Some o) x y = at_place (λ p. changed_at o p y) x

-- the place that a used value is
abbrev pub placed_value : Value → Act Place
placed_value v = used v >>= place_of

abbrev pub kept_place : Value → Act Value
kept_place v = placed_value v >>= (λ p. gives (At p))

-- a used value as a pointer
abbrev pub pointer_value : Value → Act Value
pointer_value v = used v >>= as_pointer

abbrev pub changed_by : Change → Value → Value → Act Value
changed_by o x y = changed_value [] (change_of o) x y

abbrev pub negated : Value → Act Value
negated v = truth_of v >>= (λ b. gives (truth_value (not b)))

abbrev pub counted : Value → Act Value
counted v = truth_of v >>= (λ b. gives (truth_value b))

-- what is made of the value of one operand that is used, and of its place
abbrev pub by_used : Unary → Value → Act Value
by_used one.Read v = gives v
by_used one.Address v = gives v
by_used one.Dereference v = pointed_to v
by_used one.Decay v = decayed [] v
by_used (one.Convert s) v = gives v
by_used (one.Sign op k) v = signed op k v
by_used one.Not v = gives v
by_used (one.Increment is_postfix o) v = gives v

abbrev pub by_place : Unary → Place → Act Value
by_place one.Read p = read_place [] p
by_place one.Address p = read_place [] p
by_place one.Dereference p = read_place [] p
by_place one.Decay p = read_place [] p
by_place (one.Convert s) p = read_place [] p
by_place (one.Sign op k) p = read_place [] p
by_place one.Not p = read_place [] p
by_place (one.Increment is_postfix o) p = stepped_at is_postfix o p

abbrev pub of_used : Unary → Value → Act Value
of_used op v = used v >>= by_used op

abbrev pub of_place : Unary → Value → Act Value
of_place op v = placed_value v >>= by_place op

-- what is made of the value of one operand
abbrev pub of_one : Tables → Unary → Value → Act Value
of_one T one.Read v = of_place one.Read v
of_one T one.Address v = of_used one.Address v
of_one T one.Dereference v = of_used one.Dereference v
of_one T one.Decay v = of_used one.Decay v
of_one T (one.Convert s) v = converted_value (shape_type T s) v
of_one T (one.Sign op k) v = of_used (one.Sign op k) v
of_one T one.Not v = negated v
of_one T (one.Increment is_postfix o) v = of_place (one.Increment is_postfix o) v

-- what is kept of the left operand while the right one is evaluated
abbrev pub ready : Binary → Value → Act Value
ready (two.Operate op k) v = used v
ready two.Store v = kept_place v
ready (two.Update o) v = kept_place v
ready two.Index v = used v
ready (two.Point op) v = used v

-- what is made of both, the right one used
abbrev pub of_both : Binary → Value → Value → Act Value
of_both (two.Operate op k) x y = operated op k x y
of_both two.Store x y = at_place (λ p. put_at p y) x
of_both (two.Update o) x y = at_place (λ p. changed_at o p y) x
of_both two.Index x y = indexed [] x y
of_both (two.Point op) x y = pointer_op [] op x y

abbrev pub of_two : Binary → Value → Value → Act Value
of_two op x v = used v >>= of_both op x

abbrev pub of_value : Tables → Applied → Value → Act Value
of_value T (applied.One op) v = of_one T op.now v
of_value T (applied.Two op x) v = of_two op (value_of x) v
of_value T applied.Truth v = counted v
of_value T applied.Used v = used v
