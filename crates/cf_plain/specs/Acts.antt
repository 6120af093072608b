-- What an action does and gives, in the words of the core's meaning.
use Rattle.std.specs.Prelude.{ℕ, true, false, not, nat_le, length, List, [], ◌∷◌, Option, Some, None, bytes_eq}
use Rattle.std.specs.List.{list_any}
use Rattle.cf_core.specs.Types.{SourceType, is_array, array}
use Rattle.cf_core.specs.Core.{item}
use Rattle.cf_core.specs.Places.{Place, inner}
use Rattle.cf_core.specs.Store.{Value, Nothing, Number, At, Code, DataMember, FunctionMember}
use Rattle.cf_core.specs.Run.{Act, ◌>>=◌, ◌>>◌, gives, malformed, state, changed, some_or, valid, object_changed, gone}
use Rattle.cf_core.specs.Access.{place_type, place_has, used, place_of, name_field, read_place, write_place, followed, copy_first, copy_over, fill_zeros}
use Rattle.cf_core.specs.Pointers.{truth_value, pointer_op, from_void_value, down_value}
use Rattle.cf_core.specs.Building.{dispatch, up_value, part_place, has_part}
use Rattle.cf_core.specs.Calls.{Program, Again, root, run_named, name_function, finish_static as to_be_destroyed, destroy, delete_value}
use Rattle.cf_core.specs.Scalars.{truth_of, converted_value, operated, signed, changed_value, indexed, decayed, pointed_to, to_derived, through_pointer}
use Rattle.cf_core.specs.Objects.{local_place, static_type, static_place, same_type, literal_object, new_local, settle, character_kind, write_bytes, element_count, begin_list as list_begins, end_list as list_ends, count_of, new_storage, run_pointer}
use Rattle.cf_plain.specs.Plain.{Register, Action, number, text, this, result, local, static_object, function, member, built_part, read, dereference, decay, index, convert, up, down, from_void, to_member, data_pointer, function_pointer, through, operate, unary, truth, logical_not, pointer_operate, changed as new_value, store, declare, first, zeros, bytes, begin_list, end_list, carry, carry_over, finish, new, new_array, delete, is_reached, reach, finish_static, call, virtual_call, pointer_call, build}

-- what the registers hold
abbrev pub Registers : Type 0
Registers = Register → Option Value

abbrev pub no_registers : Registers
no_registers r = None

abbrev pub held : Registers → Register → Act Value
held g r = some_or (g r) malformed

abbrev pub used_in : Registers → Register → Act Value
used_in g r = held g r >>= used

abbrev pub place_in : Registers → Register → Act Place
place_in g r = used_in g r >>= place_of

abbrev pub maybe_place : Registers → Option Register → Act (Option Place)
maybe_place g None = gives None
maybe_place g (Some r) = place_in g r >>= (λ p. gives (Some p))

-- the object of a local
abbrev pub object_of : ℕ → Act ℕ
object_of i = state >>= (λ s. some_or (s.frame.locals i) malformed)

abbrev pub objects_of : List ℕ → Act (List ℕ)
objects_of [] = gives []
objects_of (i ∷ is) = do
  o ← object_of i
  os ← objects_of is
  gives (o ∷ os)

-- a step that gives nothing
abbrev pub doing : {A : Type 0} → Act A → Act Value
doing act = act >>= (λ _. gives Nothing)

-- The object of a local ends, if the local has one.
abbrev pub end_local : Again → Program → SourceType → Option ℕ → Act Value
end_local again P t None = gives Nothing
end_local again P t (Some o) = destroy again P t (root o) >> doing (object_changed o gone)

module _ (again : Again) (P : Program) (g : Registers) where
  abbrev pub acts : Action → Act Value
  acts (number z) = gives (Number z)
  acts (text j b) = literal_object j b >>= (λ o. gives (At (root o)))
  acts this = state >>= (λ s. some_or s.frame.this malformed) >>= (λ p. gives (At p))
  acts result = state >>= (λ s. some_or s.frame.result malformed) >>= (λ p. gives (At p))
  acts (local i) = local_place i >>= followed P.classes
  acts (static_object name t) = same_type P name t >> static_place P name >>= followed P.classes
  acts (function name t) = name_function P name t >> gives (Code name)
  acts (member r i) = place_in g r >>= name_field P.classes i >>= followed P.classes
  acts (built_part w) = do
    s ← state
    object ← some_or s.frame.this malformed
    valid (has_part P.classes (place_type P.classes s object) w)
    gives (At (part_place w object))
  acts (read r) = place_in g r >>= read_place P.classes
  acts (dereference r) = used_in g r >>= pointed_to
  acts (decay r) = used_in g r >>= decayed P.classes
  acts (index r q) = do
    x ← used_in g r
    y ← used_in g q
    indexed P.classes x y
  acts (convert t r) = held g r >>= converted_value t
  acts (up path r) = used_in g r >>= up_value P.classes path
  acts (down c path r) = used_in g r >>= down_value P.classes c path
  acts (from_void t r) = used_in g r >>= from_void_value P.classes t
  acts (to_member path r) = used_in g r >>= to_derived path
  acts (data_pointer i) = gives (DataMember [] i)
  acts (function_pointer t) = gives (FunctionMember [] t)
  acts (through r q) = do
    p ← place_in g r
    x ← used_in g q
    through_pointer P.classes p x
  acts (operate op k r q) = do
    x ← used_in g r
    y ← used_in g q
    operated op k x y
  acts (unary op k r) = used_in g r >>= signed op k
  acts (truth r) = held g r >>= truth_of >>= (λ b. gives (truth_value b))
  acts (logical_not r) = held g r >>= truth_of >>= (λ b. gives (truth_value (not b)))
  acts (pointer_operate op r q) = do
    x ← used_in g r
    y ← used_in g q
    pointer_op P.classes op x y
  acts (new_value change r q) = do
    x ← used_in g r
    y ← used_in g q
    changed_value P.classes change x y
  acts (store r q) = do
    p ← place_in g r
    x ← used_in g q
    doing (write_place P.classes p x)
  acts (declare i t) = new_local i t >>= (λ o. gives (At (root o)))
  acts (first r q) = do
    p ← place_in g r
    x ← held g q
    doing (settle P.classes p x)
  acts (zeros r) = place_in g r >>= (λ p. doing (fill_zeros P.classes p))
  acts (bytes r b) = do
    p ← place_in g r
    s ← state
    let t = place_type P.classes s p
    valid (is_array t)
    valid (nat_le (length b) (element_count P.classes t))
    fill_zeros P.classes p
    doing (write_bytes (character_kind t) p 0 b)
  acts (begin_list r) = place_in g r >>= (λ p. doing (list_begins p))
  acts (end_list r) = place_in g r >>= (λ p. doing (list_ends p))
  acts (carry t r q) = do
    to ← place_in g r
    from ← place_in g q
    place_has P.classes t to
    place_has P.classes t from
    doing (copy_first P.classes from to)
  acts (carry_over t r q) = do
    to ← place_in g r
    from ← place_in g q
    place_has P.classes t to
    place_has P.classes t from
    doing (copy_over P.classes from to)
  acts (finish t i) = state >>= (λ s. end_local again P t (s.frame.locals i))
  acts (new t) = new_storage P false t (λ o. gives (At (root o)))
  acts (new_array t r) = do
    n ← used_in g r >>= count_of
    new_storage P true (array t n) (λ o. gives (At (inner (item 0) (root o))))
  acts (delete many t r) = used_in g r >>= delete_value again P many t
  acts (is_reached name) = state >>= (λ s. gives (truth_value (list_any (bytes_eq name) s.reached)))
  acts (reach name) = do
    p ← static_place P name
    changed (λ s. record s { reached = name ∷ s.reached })
    gives (At p)
  acts (finish_static name) = do
    p ← static_place P name
    to_be_destroyed P (static_type P name) p.object
    gives (At p)
  acts (call name t object args into) = do
    name_function P name t
    p ← maybe_place g object
    os ← objects_of args
    at ← maybe_place g into
    run_named again P name os p at
  acts (virtual_call signature t object args into) = do
    p ← place_in g object
    os ← objects_of args
    at ← maybe_place g into
    f ← dispatch P.classes p signature
    run_named again P f.name os (Some f.this) at
  acts (pointer_call object r t args into) = do
    p ← maybe_place g object
    f ← used_in g r
    os ← objects_of args
    at ← maybe_place g into
    run_pointer again P p f os at
  acts (build name t r args) = do
    p ← place_in g r
    os ← objects_of args
    doing (run_named again P name os (Some p) None)
