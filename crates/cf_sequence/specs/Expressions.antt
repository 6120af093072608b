-- Expressions and initialisers as plain statements. The value of an expression comes into a register: the registers below it stay, those above are
-- free. An operator is its left operand in a register, its right one in the next, and then the action. Of classes these are not there yet: copies and
-- assignments by functions, the elements of `new[]` and of an array that one initialiser builds, and temporaries that static references bind.
use Rattle.std.specs.Prelude.{ℕ, zero, suc, ◌+◌, ◌-◌, length, Bool, true, false, ◌&&◌, if◌then◌else◌, List, [], ◌∷◌, pos, Option, Some, None, reverse, slice_get}
use Rattle.cf_core.specs.Types.{SourceType, parameters, result, is_class, plain as unqualified, element, is_array}
use Rattle.cf_core.specs.Classes.{Class, fields_of, type_in}
use Rattle.cf_core.specs.Core as core
use Rattle.cf_core.specs.Core.{Core, Cores, MaybeCore, no_temporary, local_temporary, static_temporary, none, absent, given}
use Rattle.cf_core.specs.Places.{bound, class_of}
use Rattle.cf_core.specs.Objects.{count, costs_tick}
use Rattle.cf_plain.specs.Plain.{Register, Action, Plain, Plains, act, set, branch, loop, leave, nothing, more}
use Rattle.cf_plain.specs.Plain as plain
use Rattle.cf_sequence.specs.Made.{Local, Temporary, temporaries, width, width_maybe, width_all, numbers}

-- The locals that a full expression makes are numbered from the first; the register behind `base` of as many as a local stands behind that is its flag.
pub record Full : Type 0 where
  pub first : ℕ
  pub base : Register

abbrev pub flag : Full → ℕ → Register
flag x i = x.base + (i - x.first)

-- the place of an object of this type, in a register
pub record Destination : Type 0 where
  pub register : Register
  pub type : SourceType

-- A value that is used is looked at where it is used: one that a function ended without is an undefined act there (6.6.3).
abbrev pub used : Register → Plains → Plains
used n rest = more (act (plain.truth n)) rest

-- Locals end, in this order.
abbrev pub finished : List Local → Plains → Plains
finished [] rest = rest
finished (x ∷ xs) rest = more (act (plain.finish x.type x.number)) (finished xs rest)

-- A temporary in a branch has a flag, which tells whether it is there: 0 first, and 1 where it is made (12.2).
abbrev pub flags : Full → List Temporary → Plains → Plains
flags full [] rest = rest
flags full (x ∷ xs) rest =
    elim x.in_branch [ true ↦ more (set (flag full x.local.number) (plain.number (pos 0))) (flags full xs rest) | false ↦ flags full xs rest ]

abbrev pub ended : Full → List Temporary → Plains → Plains
ended full [] rest = rest
ended full (x ∷ xs) rest =
    elim x.in_branch [
      | true ↦ more (branch (flag full x.local.number) (finished (x.local ∷ []) nothing) nothing) (ended full xs rest)
      | false ↦ finished (x.local ∷ []) (ended full xs rest)
    ]

-- whether an initialiser builds its object, and gives no value to put there
abbrev pub builds : Core → Bool
builds core.blank = true
builds core.zeros = true
builds (core.string bytes) = true
builds (core.build name t args) = true
builds (core.copy t e args) = true
builds (core.each e) = true
builds (core.list es rest) = true
builds (core.call name t object args) = is_class (result t)
builds (core.virtual_call signature t e args) = is_class (result t)
builds (core.pointer_call object e t args) = is_class (result t)
builds e = false

-- The value of an initialiser in register n is the first one of the place in register p.
abbrev pub settled : Core → Register → Register → Plains → Plains
settled e p n rest = if builds e then rest else more (act (plain.first p n)) rest

abbrev pub destination : Register → SourceType → Option Destination
destination n t = Some (record { register = n; type = t })

-- the place for a result of class type
abbrev pub result_register : SourceType → Option Destination → Option Register
result_register t None = None
result_register t (Some d) = if is_class (result t) then Some d.register else None

abbrev pub object_register : MaybeCore → Register → Option Register
object_register absent n = None
object_register (given e) n = Some n

-- the register behind the object of a call
abbrev pub behind : MaybeCore → Register → Register
behind absent n = n
behind (given e) n = suc n

-- the part of this number in a list's object: an element of an array, or a data member
abbrev pub part_in : Register → Register → SourceType → ℕ → Plains → Plains
part_in n p t i rest =
    if is_array t
    then more (set n (plain.decay p)) (more (set (suc n) (plain.number (pos i))) (more (set n (plain.index n (suc n))) rest))
    else more (set n (plain.member p i)) rest

-- an element that a function builds is a turn of its own, which spends a tick
abbrev pub in_turn : Bool → (Plains → Plains) → Plains → Plains
in_turn true code rest = more (loop (code (more leave nothing)) nothing) rest
in_turn false code rest = code rest

abbrev pub repeated : ℕ → ℕ → (ℕ → Plains → Plains) → Plains → Plains
repeated i zero code rest = rest
repeated i (suc n) code rest = code i (repeated (suc i) n code rest)

-- A full expression from register n on: its flags, its code with the register for its value, the ends of its temporaries, the newest first, and then
-- what follows with that register.
abbrev pub whole : Core → Register → ℕ → (Full → Register → Plains → Plains) → (Register → Plains) → Plains
whole e n k code rest =
    let x : Full = record { first = k; base = n } in
    let made = temporaries false e k in
    flags x made (code x (n + width e) (ended x (reverse made) (rest (n + width e))))

module _ (classes : List Class) where
  abbrev pub part_type : SourceType → ℕ → SourceType
  part_type t i = if is_array t then element (unqualified t) else type_in (slice_get (fields_of classes (class_of t)) i)

  abbrev pub parts_count : SourceType → ℕ
  parts_count t = if is_array t then bound t else length (fields_of classes (class_of t))

  -- an object of class type that a list builds
  abbrev pub begun : Destination → Plains → Plains
  begun d rest = if is_class d.type then more (act (plain.begin_list d.register)) rest else rest

  abbrev pub built : Destination → Plains → Plains
  built d rest = if is_class d.type then more (act (plain.end_list d.register)) rest else rest

  abbrev mutual
    -- The value of an expression comes into register n, or what it builds stands at its destination; its locals are numbered from k. The register with a
    -- temporary's object is used for its first value alone, as that of an argument is; another one has its place.
    pub value : Full → Core → Option Destination → Register → ℕ → Plains → Plains
    value x (core.number z) into n k rest = more (set n (plain.number z)) rest
    value x (core.text j bytes) into n k rest = more (set n (plain.text j bytes)) rest
    value x core.this into n k rest = more (set n plain.this) rest
    value x (core.local i) into n k rest = more (set n (plain.local i)) rest
    value x (core.static_object name t) into n k rest = more (set n (plain.static_object name t)) rest
    value x (core.function name t) into n k rest = more (set n (plain.function name t)) rest
    value x (core.member e i) into n k rest = value x e None n k (more (set n (plain.member n i)) rest)
    value x (core.read e) into n k rest = value x e None n k (more (set n (plain.read n)) rest)
    value x (core.address e) into n k rest = value x e None n k (used n rest)
    value x (core.dereference e) into n k rest = value x e None n k (more (set n (plain.dereference n)) rest)
    value x (core.decay e) into n k rest = value x e None n k (more (set n (plain.decay n)) rest)
    value x (core.index a b) into n k rest =
        value x a None n k (used n (value x b None (suc n) (k + width a) (more (set n (plain.index n (suc n))) rest)))
    value x (core.convert t e) into n k rest = value x e None n k (more (set n (plain.convert t n)) rest)
    value x (core.up path e) into n k rest = value x e None n k (more (set n (plain.up path n)) rest)
    value x (core.down c path e) into n k rest = value x e None n k (more (set n (plain.down c path n)) rest)
    value x (core.from_void t e) into n k rest = value x e None n k (more (set n (plain.from_void t n)) rest)
    value x (core.to_member path e) into n k rest = value x e None n k (more (set n (plain.to_member path n)) rest)
    value x (core.data_pointer i) into n k rest = more (set n (plain.data_pointer i)) rest
    value x (core.function_pointer t) into n k rest = more (set n (plain.function_pointer t)) rest
    value x (core.through a b) into n k rest =
        value x a None n k (used n (value x b None (suc n) (k + width a) (more (set n (plain.through n (suc n))) rest)))
    value x (core.operate op t a b) into n k rest =
        value x a None n k (used n (value x b None (suc n) (k + width a) (more (set n (plain.operate op t n (suc n))) rest)))
    value x (core.unary op t e) into n k rest = value x e None n k (more (set n (plain.unary op t n)) rest)
    value x (core.logical_not e) into n k rest = value x e None n k (more (set n (plain.logical_not n)) rest)
    value x (core.logical_and a b) into n k rest =
        value x a None n k (more (set n (plain.truth n))
        (more (branch n (value x b None n (k + width a) (more (set n (plain.truth n)) nothing)) nothing) rest))
    value x (core.logical_or a b) into n k rest =
        value x a None n k (more (set n (plain.truth n))
        (more (branch n nothing (value x b None n (k + width a) (more (set n (plain.truth n)) nothing))) rest))
    value x (core.pointer_operate op a b) into n k rest =
        value x a None n k (used n (value x b None (suc n) (k + width a) (more (set n (plain.pointer_operate op n (suc n))) rest)))
    value x (core.conditional c a b) into n k rest =
        value x c None n k (more (set n (plain.truth n))
        (more (branch n (value x a None n (k + width c) nothing) (value x b None n (k + width c + width a) nothing)) rest))
    value x (core.comma es) into n k rest = values x es n k rest
    value x (core.store a b) into n k rest =
        value x a None n k (used n (value x b None (suc n) (k + width a) (more (act (plain.store n (suc n))) rest)))
    value x (core.update a change b) into n k rest =
        value x a None n k (used n
        (value x b None (suc n) (k + width a) (used (suc n)
        (more (set (suc (suc n)) (plain.read n))
        (more (set (suc n) (plain.changed change (suc (suc n)) (suc n)))
        (more (act (plain.store n (suc n))) rest))))))
    value x (core.step false change e) into n k rest =
        value x e None n k
        (more (set (suc n) (plain.read n))
        (more (set (suc (suc n)) (plain.number (pos 1)))
        (more (set (suc n) (plain.changed change (suc n) (suc (suc n))))
        (more (act (plain.store n (suc n))) rest))))
    value x (core.step true change e) into n k rest =
        value x e None (suc n) k
        (more (set n (plain.read (suc n)))
        (more (set (suc (suc n)) (plain.number (pos 1)))
        (more (set (suc (suc n)) (plain.changed change n (suc (suc n))))
        (more (act (plain.store (suc n) (suc (suc n)))) rest))))
    value x (core.assign t a b args) into n k rest =
        value x a None n k (used n (value x b None (suc n) (k + width a) (more (act (plain.carry_over t n (suc n))) rest)))
    value x (core.temporary t e) into n k rest =
        more (set (suc n) (plain.declare k t)) (more (set n (plain.local k))
        (value x e (destination (suc n) t) (suc (suc n)) (suc k) (settled e (suc n) (suc (suc n)) (more (set (flag x k) (plain.number (pos 1))) rest))))
    value x (core.call name t object args) into n k rest =
        more (act (plain.function name t))
        (object_value x object n (k + length (parameters t))
        (arguments x (parameters t) args (behind object n) k (k + length (parameters t) + width_maybe object)
        (more (set n (plain.call name t (object_register object n) (numbers k (parameters t)) (result_register t into))) rest)))
    value x (core.virtual_call signature t e args) into n k rest =
        value x e None n (k + length (parameters t)) (used n
        (arguments x (parameters t) args (suc n) k (k + length (parameters t) + width e)
        (more (set n (plain.virtual_call signature t n (numbers k (parameters t)) (result_register t into))) rest)))
    value x (core.pointer_call object e t args) into n k rest =
        object_value x object n (k + length (parameters t))
        (value x e None (behind object n) (k + length (parameters t) + width_maybe object) (used (behind object n)
        (arguments x (parameters t) args (suc (behind object n)) k (k + length (parameters t) + width_maybe object + width e)
        (more (set n (plain.pointer_call (object_register object n) (behind object n) t (numbers k (parameters t)) (result_register t into))) rest))))
    value x (core.new t e) into n k rest =
        more (set n (plain.new t)) (more (set (suc n) (plain.truth n))
        (more (branch (suc n) (value x e (destination n t) (suc n) k (settled e n (suc n) nothing)) nothing) rest))
    value x (core.new_array t m e) into n k rest = value x m None n k (more (set n (plain.new_array t n)) rest)
    value x (core.delete t e) into n k rest = value x e None n k (more (set n (plain.delete false t n)) rest)
    value x (core.delete_array t e) into n k rest = value x e None n k (more (set n (plain.delete true t n)) rest)
    value x (core.build name t args) (Some d) n k rest =
        arguments x (parameters t) args n k (k + length (parameters t)) (more (act (plain.build name t d.register (numbers k (parameters t)))) rest)
    value x (core.copy t e args) (Some d) n k rest = value x e None n k (more (act (plain.carry t d.register n)) rest)
    value x (core.list es last) (Some d) n k rest =
        let u = part_type d.type 0 in
        begun d
        (elements x es d 0 n k
        (repeated (count es) (parts_count d.type - count es) (λ i rest.
        in_turn (is_array d.type && costs_tick last classes u) (λ rest. part_in n d.register d.type i
        (whole last (suc n) (k + width_all es) (λ y m rest. value y last (destination n (part_type d.type i)) m (k + width_all es) (settled last n m rest))
        (λ m. rest))) rest)
        (built d rest)))
    value x (core.string bytes) (Some d) n k rest = more (act (plain.bytes d.register bytes)) rest
    value x core.zeros (Some d) n k rest = more (act (plain.zeros d.register)) rest
    value x (core.bind no_temporary e) into n k rest = value x e None n k rest
    value x (core.bind (local_temporary i t) e) into n k rest =
        more (set (suc n) (plain.declare i t)) (more (set n (plain.local i))
        (value x e (destination (suc n) t) (suc (suc n)) k (settled e (suc n) (suc (suc n)) rest)))
    value x (core.bind (static_temporary name) e) into n k rest =
        value x e None (suc n) k (more (set n (plain.finish_static name)) (settled e n (suc n) rest))
    value x e into n k rest = rest

    -- each element of a list by itself (8.4.1)
    pub elements : Full → Cores → Destination → ℕ → Register → ℕ → Plains → Plains
    elements x none d i n k rest = rest
    elements x (core.more e es) d i n k rest =
        in_turn (is_array d.type && costs_tick e classes (part_type d.type i)) (λ rest. part_in n d.register d.type i
        (whole e (suc n) k (λ y m rest. value y e (destination n (part_type d.type i)) m k (settled e n m rest)) (λ m. rest)))
        (elements x es d (suc i) n (k + width e) rest)

    -- an expression's parts in order; the last one's value stays (5.18)
    pub values : Full → Cores → Register → ℕ → Plains → Plains
    values x none n k rest = rest
    values x (core.more e es) n k rest = value x e None n k (values x es n (k + width e) rest)

    pub object_value : Full → MaybeCore → Register → ℕ → Plains → Plains
    object_value x absent n k rest = rest
    object_value x (given e) n k rest = value x e None n k (used n rest)

    -- Each parameter's object is there before its argument is evaluated (5.2.2); they are the locals from i.
    pub arguments : Full → List SourceType → Cores → Register → ℕ → ℕ → Plains → Plains
    arguments x (t ∷ ts) (core.more e es) n i k rest =
        more (set n (plain.declare i t))
        (value x e (destination n t) (suc n) k (settled e n (suc n) (arguments x ts es n (suc i) (k + width e) rest)))
    arguments x ts es n i k rest = rest
