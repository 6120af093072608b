-- How a link name is taken apart into the entity that it stands for.
use Rattle.std.specs.Prelude.{ℕ, zero, suc, ◌+◌, ◌-◌, ◌*◌, Bool, true, false, ◌==◌, ◌&&◌, not, nat_eq, nat_le, if◌then◌else◌, List, [], ◌∷◌, length, take, drop, Option, None, Some, codes}
use Rattle.std.specs.Cmp.Lexicographic.{pointwise}
use Rattle.std.specs.List.{starts_with}
use Rattle.std.specs.Option.{option_map}
use Rattle.cf_base.specs.declared.kind.Kind.TheVariants as kind
use Rattle.cf_tokens.specs.Class.{is_digit}
use Rattle.cf_classes.specs.LinkName.{Code, Void, Integer, Named, Pointer, Reference, Const, Array, Function, Member, Codes, none, more, Called, Main, Variable, Plain, Operator, Constructor, Destructor, Conversion, Entity, link_name, operator_codes}
use Rattle.cf_classes.specs.Entity.{is_well_formed, Decodes}

-- a value that is read at the front, and what stands behind it
abbrev pub Read : Type 0 → Type 0
Read A = Option (A × List ℕ)

abbrev pub then_read : {A B : Type 0} → Read A → (A → List ℕ → Read B) → Read B
then_read None go = None
then_read (Some r) go = go r.0 r.1

-- these bytes at the front are passed over
abbrev pub behind : {A : Type 0} → List ℕ → List ℕ → (List ℕ → Read A) → Read A
behind mark text go = if starts_with nat_eq text mark then go (drop (length mark) text) else None

abbrev pub number_from : ℕ → List ℕ → ℕ × List ℕ
number_from n [] = (n, [])
number_from n (b ∷ bs) = if is_digit b then number_from (n * 10 + (b - 48)) bs else (n, b ∷ bs)

abbrev pub number : List ℕ → Read ℕ
number [] = None
number (b ∷ bs) = if is_digit b then Some (number_from 0 (b ∷ bs)) else None

abbrev pub counted : List ℕ → Read (List ℕ)
counted text = then_read (number text) (λ n rest. if nat_le n (length rest) then Some (take n rest, drop n rest) else None)

abbrev pub counted_names : ℕ → List ℕ → Read (List (List ℕ))
counted_names zero text = Some ([], text)
counted_names (suc n) text = then_read (counted text) (λ name rest. then_read (counted_names n rest) (λ names rest. Some (name ∷ names, rest)))

-- the names that lead to a class
abbrev pub scope : List ℕ → Read (List (List ℕ))
scope [] = None
scope (b ∷ bs) =
    if b == 81 then then_read (number bs) (λ n rest. behind (codes "_") rest (counted_names n))
    else then_read (counted (b ∷ bs)) (λ name rest. Some (name ∷ [], rest))

abbrev pub map_read : {A B : Type 0} → (A → B) → Read A → Read B
map_read f r = then_read r (λ a rest. Some (f a, rest))

abbrev unsigned : List ℕ → Read Code
unsigned [] = None
unsigned (b ∷ bs) =
    if b == 99 then Some (Integer kind.UChar, bs) else if b == 115 then Some (Integer kind.UShort, bs) else if b == 105 then Some (Integer kind.UInt, bs)
    else if b == 108 then Some (Integer kind.ULong, bs) else None

-- one type, and types up to a `_`; each type takes a byte, so as many steps as bytes are enough
abbrev mutual
  pub type_at : ℕ → List ℕ → Read Code
  type_at zero text = None
  type_at (suc n) [] = None
  type_at (suc n) (b ∷ bs) =
      if b == 118 then Some (Void, bs) else if b == 99 then Some (Integer kind.Char, bs) else if b == 115 then Some (Integer kind.Short, bs)
      else if b == 105 then Some (Integer kind.Int, bs) else if b == 108 then Some (Integer kind.Long, bs) else if b == 85 then unsigned bs
      else if b == 83 then behind (codes "c") bs (λ rest. Some (Integer kind.SChar, rest))
      else if b == 80 then map_read Pointer (type_at n bs) else if b == 82 then map_read Reference (type_at n bs)
      else if b == 67 then (if starts_with nat_eq bs (codes "F") then function_at n true (drop 1 bs) else map_read Const (type_at n bs))
      else if b == 65 then then_read (number bs) (λ count rest. behind (codes "_") rest (λ rest. map_read (Array count) (type_at n rest)))
      else if b == 70 then function_at n false bs
      else if b == 77 then then_read (scope bs) (λ names rest. map_read (Member names) (type_at n rest))
      else map_read Named (scope (b ∷ bs))

  pub function_at : ℕ → Bool → List ℕ → Read Code
  function_at zero is_const text = None
  function_at (suc n) is_const text = then_read (types_at n text) (λ params rest. behind (codes "_") rest (λ rest. map_read (Function is_const params) (type_at n rest)))

  -- the types at the front, up to what is none
  pub types_at : ℕ → List ℕ → Read Codes
  types_at zero text = None
  types_at (suc n) [] = Some (none, [])
  types_at (suc n) (b ∷ bs) =
      if b == 95 then Some (none, b ∷ bs) else then_read (type_at n (b ∷ bs)) (λ t rest. map_read (more t) (types_at n rest))

abbrev pub whole : {A : Type 0} → Read A → Option A
whole None = None
whole (Some (a, [])) = Some a
whole (Some (a, b ∷ bs)) = None

abbrev pub entity : List (List ℕ) → Called → Bool → Bool → Codes → Entity
entity names what is_const is_static params = record { scope = names; what = what; params = params; is_const = is_const; is_static = is_static }

-- a function's parameters, `v` for none
abbrev pub parameters_at : ℕ → List ℕ → Option Codes
parameters_at n text = if pointwise nat_eq text (codes "v") then Some none else whole (types_at n text)

-- behind a function's class: C or S, F and the parameters
abbrev pub behind_flag : ℕ → List (List ℕ) → Called → Bool → Bool → List ℕ → Option Entity
behind_flag n names what is_const is_static text =
    if starts_with nat_eq text (codes "F") then option_map (entity names what is_const is_static) (parameters_at n (drop 1 text)) else None

abbrev pub function_behind : ℕ → List (List ℕ) → Called → List ℕ → Option Entity
function_behind n names what [] = None
function_behind n names what (b ∷ bs) =
    if b == 67 then behind_flag n names what true false bs
    else if b == 83 then behind_flag n names what false true bs
    else behind_flag n names what false false (b ∷ bs)

-- behind the `__` that ends a name: a class and nothing, or a class or none and a function
abbrev pub in_scope : ℕ → (List (List ℕ) → Option Entity) → Called → Read (List (List ℕ)) → List ℕ → Option Entity
in_scope n object what None text = function_behind n [] what text
in_scope n object what (Some (names, [])) text = object names
in_scope n object what (Some (names, b ∷ bs)) text = function_behind n names what (b ∷ bs)

abbrev pub special : ℕ → Called → List ℕ → Option Entity
special n what text = in_scope n (λ names. None) what (scope text) text

abbrev pub static_member : List ℕ → List (List ℕ) → Option Entity
static_member name names = Some (entity names (Variable name) false true none)

abbrev pub global : List ℕ → Entity
global name = entity [] (Variable name) false false none

abbrev pub named : ℕ → List ℕ → List ℕ → Option Entity
named n name text = if pointwise nat_eq text (codes "g") then Some (global name) else in_scope n (static_member name) (Plain name) (scope text) text

-- whether `__` stands here, and no third `_`
abbrev pub is_mark : List ℕ → Bool
is_mark text = starts_with nat_eq text (codes "__") && not (starts_with nat_eq (drop 2 text) (codes "_"))

abbrev pub with_front : ℕ → Option (List ℕ × List ℕ) → Option (List ℕ × List ℕ)
with_front b None = None
with_front b (Some r) = Some (b ∷ r.0, r.1)

-- what stands before the first such mark, and behind it
abbrev pub cut : List ℕ → Option (List ℕ × List ℕ)
cut [] = None
cut (b ∷ bs) = if is_mark (b ∷ bs) then Some ([], drop 1 bs) else with_front b (cut bs)

abbrev operator_from : ℕ → List (List ℕ) → List ℕ → Option Called
operator_from i [] name = None
operator_from i (code ∷ rest) name = if pointwise nat_eq name code then Some (Operator i) else operator_from (i + 1) rest name

abbrev pub called : List ℕ → Option Called
called name =
    if pointwise nat_eq name (codes "ct") then Some Constructor
    else if pointwise nat_eq name (codes "dt") then Some Destructor
    else operator_from 0 operator_codes name

abbrev pub special_called : ℕ → Option Called → List ℕ → Option Entity
special_called n None text = None
special_called n (Some what) text = special n what text

abbrev pub prefixed_cut : ℕ → List ℕ → Option (List ℕ × List ℕ) → Option Entity
prefixed_cut n text None = if pointwise nat_eq text (codes "main") then Some (entity [] Main false false none) else None
prefixed_cut n text (Some r) = special_called n (called r.0) r.1

abbrev pub conversion : ℕ → Read Code → Option Entity
conversion n None = None
conversion n (Some r) = if starts_with nat_eq r.1 (codes "__") then special n (Conversion r.0) (drop 2 r.1) else None

-- behind a `__` at the front
abbrev pub prefixed : ℕ → List ℕ → Option Entity
prefixed n text = if starts_with nat_eq text (codes "op") then conversion n (type_at n (drop 2 text)) else prefixed_cut n text (cut text)

abbrev pub entity_cut : ℕ → List ℕ → Option (List ℕ × List ℕ) → Option Entity
entity_cut n text None = Some (global text)
entity_cut n text (Some ([], rest)) = prefixed n rest
entity_cut n text (Some (b ∷ bs, rest)) = named n (b ∷ bs) rest

-- the entity of a link name, with this many steps
abbrev pub entity_at : ℕ → List ℕ → Option Entity
entity_at n text = entity_cut n text (cut text)

abbrev pub checked : List ℕ → Option Entity → Option Entity
checked text None = None
checked text (Some e) = if is_well_formed e && pointwise nat_eq (link_name e) text then Some e else None

-- the entity of a link name, if it is one
abbrev pub decode : List ℕ → Option Entity
decode text = checked text (entity_at (length text * 3 + 1) text)

-- this is the entity that has the name, if there is one
abbrev pub IsDecoding : Type 0
IsDecoding = (name : List ℕ) → Decodes name (decode name)
