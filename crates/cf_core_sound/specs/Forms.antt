-- What a node is by its form alone: a place, a pointer, or neither. Where its typing tells of a simple node that it is a place or a pointer, it is that.
use Rattle.std.specs.Prelude.{Bool, true, false, List, length, Option, Some, None, slice_get}
use Rattle.cf_base.specs.declared.kind.Kind.TheVariants.{Char}
use Rattle.cf_core.specs.declared.operators.PointerOperator.{PointerOperator}
use Rattle.cf_core.specs.declared.operators.PointerOperator.TheVariants as ptr
use Rattle.cf_core.specs.Types.{SourceType, integer, pointer, reference, array, const, plain, element, result}
use Rattle.cf_core.specs.Core as core
use Rattle.cf_core.specs.Core.{Core, Cores}

-- a place of this type, or a pointer to one
pub data Form : Type 0 where
  other : Form
  place : SourceType → Form
  pointer_to : SourceType → Form

-- what a pointer points to; a function's place is a pointer to it too (4.6)
abbrev pub points : Form → Option SourceType
points other = None
points (place t) = Some t
points (pointer_to t) = Some t

abbrev pub place_if : Option SourceType → Form
place_if None = other
place_if (Some t) = place t

abbrev pub pointer_if : Option SourceType → Form
pointer_if None = other
pointer_if (Some t) = pointer_to t

-- a name: a reference is another name for a place (8.4.3)
abbrev pub named : Option SourceType → Form
named None = other
named (Some (reference t)) = place t
named (Some t) = place t

-- a value of this type
abbrev pub valued : SourceType → Form
valued (pointer t) = pointer_to t
valued t = other

-- what a call gives
abbrev pub given_back : SourceType → Form
given_back (reference t) = place t
given_back (const t) = given_back t
given_back t = valued t

-- the value of a place
abbrev pub loaded : Form → Form
loaded (place t) = valued (plain t)
loaded x = other

abbrev pub addressed : Form → Form
addressed (place t) = pointer_to t
addressed x = other

-- a pointer to the first element of an array, or to a function
abbrev pub decayed : Form → Form
decayed (place t) = pointer_to (element (plain t))
decayed x = other

-- the first of two that is a place or a pointer
abbrev pub or_that : Form → Form → Form
or_that other y = y
or_that x y = x

-- a pointer that is moved; no other operator on pointers gives one
abbrev pub moved_by : PointerOperator → Form → Form → Form
moved_by ptr.Add x y = pointer_if (points (or_that x y))
moved_by ptr.Subtract x y = pointer_if (points x)
moved_by op x y = other

abbrev pub stepped_form : Bool → Form → Form
stepped_form true x = loaded x
stepped_form false x = x

module _ (locals : List SourceType) where
  abbrev mutual
    pub form : Core → Form
    form (core.text j bytes) = place (array (integer Char) (length bytes))
    form (core.local i) = named (slice_get locals i)
    form (core.static_object n t) = named (Some t)
    form (core.function n t) = place t
    form (core.read e) = loaded (form e)
    form (core.address e) = addressed (form e)
    form (core.dereference e) = place_if (points (form e))
    form (core.decay e) = decayed (form e)
    form (core.index a b) = place_if (points (or_that (form a) (form b)))
    form (core.pointer_operate op a b) = moved_by op (form a) (form b)
    form (core.convert t e) = valued (plain t)
    form (core.from_void t e) = pointer_to t
    form (core.conditional c a b) = or_that (form a) (form b)
    form (core.comma es) = last_form other es
    form (core.store a b) = form a
    form (core.update a change b) = form a
    form (core.step is_postfix change e) = stepped_form is_postfix (form e)
    form (core.temporary t e) = place t
    form (core.call n t object es) = given_back (result t)
    form (core.pointer_call object e t es) = given_back (result t)
    form e = other

    -- that of the last, or this where there is none
    pub last_form : Form → Cores → Form
    last_form x core.none = x
    last_form x (core.more e es) = last_form (form e) es
