-- The place of the first construct of a core that is not built so far.
use Rattle.std.specs.Prelude.{ℕ, ◌+◌, Bool, true, false, ◌&&◌, ◌||◌, not, ◌==◌, nat_le, nat_lt, nat_eq, if◌then◌else◌, List, [], ◌∷◌, length, codes, bytes_eq, suc, Option, Some, None, find}
use Rattle.std.specs.List.{starts_with, list_all}
use Rattle.std.specs.Char.{is_ascii_digit}
use Rattle.std.specs.Option.{option_or}
use Rattle.cf_core.specs.declared.node.Core.{Core as Node, fold-Core}
use Rattle.cf_core.specs.declared.node.Core.TheOpen.{Core-F}
use Rattle.cf_core.specs.declared.node.Core.TheFolds.{map-Core}
use Rattle.cf_core.specs.declared.node.PartStart.{PartStart-F}
use Rattle.cf_core.specs.declared.node.Holder.{Holder}
use Rattle.cf_core.specs.declared.node.Holder.TheVariants as holder
use Rattle.cf_core.specs.declared.unit.CoreFn.{CoreFn}
use Rattle.cf_core.specs.declared.unit.CoreStatic.{CoreStatic}
use Rattle.cf_core.specs.declared.unit.Role.{Role}
use Rattle.cf_core.specs.declared.unit.Role.TheVariants as role
use Rattle.cf_core.specs.Types.{SourceType, void, array, takes, gives, result, is_class, plain, element}
use Rattle.cf_core.specs.Places.{is_reference}
use Rattle.cf_core.specs.FromTypes.{Tables, type_of}
use Rattle.cf_core.specs.FromUnit.{Unit as CoreUnit, tables_of}
use Rattle.cf_core.specs.NodePlace.{place, place_step}

-- The temporary that a reference's initialiser makes: the local that it is, and its value (8.4.3).
pub record Temporary : Type 0 where
  pub number : ℕ
  pub value : Option ℕ

-- What is known of a node. A place is that of the first construct in it that is not built.
pub record Test : Type 0 where
  pub value : Option ℕ  -- as an expression
  pub statement : ℕ → Option ℕ  -- as a statement, where the locals below this number are those of the open scopes
  pub next : ℕ → ℕ  -- the number behind that of each local that it declares in the scope at hand
  pub is_blank : Bool
  pub is_filling : Bool  -- whether it fills its object by itself, as an initialiser
  pub temporary : Option Temporary  -- as an initialiser
  pub list : Option (SourceType → Option ℕ)  -- as a list that initialises an object of this type, if it is one
  pub declares : Bool  -- whether it declares locals in the scope at hand, also in an arm of an `if`
  pub arms : Bool  -- whether it has an `if` in the scope at hand of which an arm declares
  pub unfit : ℕ → Option ℕ  -- as a statement of a function of so many locals: that of the first `if` whose arms declare others, or of a switch that passes such an `if`
  pub is_label : Bool

-- an expression statement
abbrev pub start : Test → Option ℕ
start e = if e.is_blank then None else e.value

-- the initialiser of a local
abbrev pub initial : Test → Option ℕ
initial e = if e.is_filling then None else start e

-- that of the local of this number, which is declared at this place
abbrev pub by_temporary : Option Temporary → ℕ → ℕ → Option ℕ → Option ℕ
by_temporary None at i other = other
by_temporary (Some x) at i other = if nat_lt i x.number then x.value else Some at

-- Lists (8.4.1).

abbrev pub is_array_itself : SourceType → Bool
is_array_itself (array t n) = true
is_array_itself t = false

-- an array, which may be const
abbrev pub is_row : SourceType → Bool
is_row t = is_array_itself (plain t)

abbrev pub by_list : Option (SourceType → Option ℕ) → SourceType → Option ℕ → Option ℕ
by_list None t other = other
by_list (Some f) t other = f t

-- the initialiser of an object of this type
abbrev pub element_start : SourceType → Test → Option ℕ
element_start t e = by_list e.list t (initial e)

abbrev pub each_element : SourceType → List Test → Option ℕ
each_element t [] = None
each_element t (e ∷ es) = option_or (element_start t e) (each_element t es)

-- what fills the elements that a list at this place leaves out
abbrev pub filler : ℕ → Test → Option ℕ
filler at e = if e.is_filling then None else Some at

abbrev pub in_list : ℕ → List Test → Test → SourceType → Option ℕ
in_list at es rest t = if is_row t then option_or (each_element (element (plain t)) es) (filler at rest) else Some at

abbrev pub list_step : Core-F Test Test → Option (SourceType → Option ℕ)
list_step (Core-F.List at es rest) = Some (in_list at es rest)
list_step x = None

abbrev pub local : ℕ → ℕ → SourceType → Test → Option ℕ
local at i t e = by_temporary e.temporary at i (element_start t e)

-- the number behind those of that local and its temporary
abbrev pub behind_both : Option Temporary → ℕ → ℕ
behind_both None i = suc i
behind_both (Some x) i = suc x.number

abbrev pub behind : ℕ → Test → ℕ
behind i e = behind_both e.temporary i

abbrev pub given : Option Test → Option ℕ
given None = None
given (Some e) = e.value

abbrev pub each_value : List Test → Option ℕ
each_value [] = None
each_value (e ∷ es) = option_or e.value (each_value es)

-- one expression at least
unfoldable pub some_values : ℕ → List Test → Option ℕ
some_values at [] = Some at
some_values at (e ∷ es) = each_value (e ∷ es)

abbrev pub each_statement : ℕ → List Test → Option ℕ
each_statement m [] = None
each_statement m (s ∷ ss) = option_or (s.statement m) (each_statement (s.next m) ss)

abbrev pub statement_or : ℕ → Option Test → Option ℕ
statement_or m None = None
statement_or m (Some s) = s.statement m

-- a label of a switch, or a statement
abbrev pub case : ℕ → Test → Option ℕ
case m s = if s.is_label then None else s.statement m

abbrev pub each_case : ℕ → List Test → Option ℕ
each_case m [] = None
each_case m (s ∷ ss) = option_or (case m s) (each_case (s.next m) ss)

abbrev pub next_of_all : ℕ → List Test → ℕ
next_of_all m [] = m
next_of_all m (s ∷ ss) = next_of_all (s.next m) ss

abbrev pub bound : ℕ → Holder → Option ℕ → Option ℕ
bound at holder.NoTemporary e = e
bound at h e = Some at

-- a call of a function whose result is no class, of these parts
abbrev pub called : ℕ → Bool → Option Test → List Test → Option ℕ
called at is_plain None es = if is_plain then each_value es else Some at
called at is_plain (Some object) es = Some at

-- a function type: its parameters, and then its result
abbrev pub is_function_type : SourceType → Bool
is_function_type (takes p t) = is_function_type t
is_function_type (gives t c) = true
is_function_type t = false

abbrev pub place_in : Core-F Test Test → ℕ
place_in x = place_step (map-Core _ _ _ _ (λ (t : Test). 0) (λ (t : Test). tt) x)

abbrev pub next_or : ℕ → Option Test → ℕ
next_or m None = m
next_or m (Some s) = s.next m

abbrev pub next_step : Core-F Test Test → ℕ → ℕ
next_step (Core-F.Declare at i t e) m = behind i e
next_step (Core-F.Sequence at ss) m = next_of_all m ss
next_step (Core-F.If at c a b) m = next_or (a.next m) b
next_step x m = m

abbrev pub blank_step : Core-F Test Test → Bool
blank_step (Core-F.Blank at) = true
blank_step x = false

-- zeros, or the characters of a literal (8.4.1, 8.4.2)
abbrev pub filling_step : Core-F Test Test → Bool
filling_step (Core-F.Zeros at) = true
filling_step (Core-F.Characters at bytes) = true
filling_step x = false

abbrev pub any_declares : List Test → Bool
any_declares [] = false
any_declares (s ∷ ss) = s.declares || any_declares ss

abbrev pub or_declares : Option Test → Bool
or_declares None = false
or_declares (Some s) = s.declares

abbrev pub declares_step : Core-F Test Test → Bool
declares_step (Core-F.Declare at i t e) = true
declares_step (Core-F.Sequence at ss) = any_declares ss
declares_step (Core-F.If at c a b) = a.declares || or_declares b
declares_step x = false

-- What is declared as the statement of an `if` by itself is there in its arm alone, and ends with the scope around it (6.5.3).

abbrev pub any_arms : List Test → Bool
any_arms [] = false
any_arms (s ∷ ss) = s.arms || any_arms ss

abbrev pub arms_step : Core-F Test Test → Bool
arms_step (Core-F.Sequence at ss) = any_arms ss
arms_step (Core-F.If at c a b) = a.declares || or_declares b
arms_step x = false

-- of the statements of the switch at this place, before which there is such an `if` or not: no label stands behind one
abbrev pub passed : ℕ → Bool → List Test → Option ℕ
passed at b [] = None
passed at b (s ∷ ss) = if b && s.is_label then Some at else passed at (b || s.arms) ss

abbrev pub each_unfit : ℕ → List Test → Option ℕ
each_unfit n [] = None
each_unfit n (s ∷ ss) = option_or (s.unfit n) (each_unfit n ss)

abbrev pub or_unfit : ℕ → Option Test → Option ℕ
or_unfit n None = None
or_unfit n (Some s) = s.unfit n

-- The locals that arms declare are among so many of the function, also where the arm is not taken.
abbrev pub unfit_step : Core-F Test Test → ℕ → Option ℕ
unfit_step (Core-F.Block at ss) n = each_unfit n ss
unfit_step (Core-F.Sequence at ss) n = each_unfit n ss
unfit_step (Core-F.If at c a b) n = if nat_le (next_or (a.next 0) b) n then option_or (a.unfit n) (or_unfit n b) else Some at
unfit_step (Core-F.Loop at how c e s) n = s.unfit n
unfit_step (Core-F.Switch at e ss) n = option_or (passed at false ss) (each_unfit n ss)
unfit_step x n = None

abbrev pub label_step : Core-F Test Test → Bool
label_step (Core-F.Case at z) = true
label_step (Core-F.Default at) = true
label_step x = false

module _ (tables : Tables) where
  -- a function type whose result is no class
  abbrev pub is_called : ℕ → Bool
  is_called t = not (is_class (result (type_of tables t))) && is_function_type (type_of tables t)

  -- the value of a temporary of this type, which is no reference
  abbrev pub kept : ℕ → ℕ → Option ℕ → Option ℕ
  kept at t e = if is_reference (type_of tables t) then Some at else e

  abbrev pub value_step : Core-F Test Test → Option ℕ
  value_step (Core-F.Number at z) = None
  value_step (Core-F.Text at j bytes) = None
  value_step (Core-F.Local at i) = None
  value_step (Core-F.Static at n t) = None
  value_step (Core-F.Function at n t) = None
  value_step (Core-F.Read at e) = e.value
  value_step (Core-F.Address at e) = e.value
  value_step (Core-F.Dereference at e) = e.value
  value_step (Core-F.Decay at e) = e.value
  value_step (Core-F.Index at a b) = option_or a.value b.value
  value_step (Core-F.Convert at t e) = e.value
  value_step (Core-F.FromVoid at t e) = e.value
  value_step (Core-F.Operate at op k a b) = option_or a.value b.value
  value_step (Core-F.Unary at op k e) = e.value
  value_step (Core-F.Not at e) = e.value
  value_step (Core-F.And at a b) = option_or a.value b.value
  value_step (Core-F.Or at a b) = option_or a.value b.value
  value_step (Core-F.PointerOperate at op a b) = option_or a.value b.value
  value_step (Core-F.Conditional at c a b) = option_or c.value (option_or a.value b.value)
  value_step (Core-F.Comma at es) = some_values at es
  value_step (Core-F.Store at a b) = option_or a.value b.value
  value_step (Core-F.Update at a c b) = option_or a.value b.value
  value_step (Core-F.Increment at is_postfix c e) = e.value
  value_step (Core-F.Temporary at t e) = kept at t e.value
  value_step (Core-F.Call at f t object es) = called at (is_called t) object es
  value_step (Core-F.PointerCall at object e t es) = called at (is_called t) object (e ∷ es)
  value_step (Core-F.Bind at h e) = bound at h e.value
  value_step x = Some (place_in x)

  abbrev pub statement_step : Core-F Test Test → ℕ → Option ℕ
  statement_step (Core-F.Full at e) m = start e
  statement_step (Core-F.Block at ss) m = each_statement m ss
  statement_step (Core-F.Sequence at ss) m = each_statement m ss
  statement_step (Core-F.Declare at i t e) m = if nat_le m i then local at i (type_of tables t) e else Some at
  statement_step (Core-F.If at c a b) m = option_or c.value (option_or (a.statement m) (statement_or (a.next m) b))
  statement_step (Core-F.Loop at how c e s) m = option_or (given c) (option_or (given e) (s.statement m))
  statement_step (Core-F.Switch at e ss) m = option_or e.value (each_case m ss)
  statement_step (Core-F.Break at) m = None
  statement_step (Core-F.Continue at) m = None
  statement_step (Core-F.Return at e) m = given e
  statement_step x m = Some (place_in x)

  abbrev pub held_as : ℕ → Holder → Option ℕ → Option Temporary
  held_as at (holder.LocalTemporary j t) e = Some (record { number = j; value = kept at t e })
  held_as at h e = None

  abbrev pub temporary_step : Core-F Test Test → Option Temporary
  temporary_step (Core-F.Bind at h e) = held_as at h e.value
  temporary_step x = None

  abbrev pub test_step : Core-F Test Test → Test
  test_step x = record {
    value = value_step x;
    statement = statement_step x;
    next = next_step x;
    is_blank = blank_step x;
    is_filling = filling_step x;
    temporary = temporary_step x;
    list = list_step x;
    declares = declares_step x;
    arms = arms_step x;
    unfit = unfit_step x;
    is_label = label_step x;
  }

  abbrev pub part_step : PartStart-F Test Test → Test
  part_step x = x.start

  abbrev pub test : Node → Test
  test = fold-Core Test Test test_step part_step

-- A function of numbers and pointers; `main` takes nothing.
abbrev pub is_plain : Role → Bool
is_plain role.Plain = true
is_plain r = false

abbrev pub takes_nothing : CoreFn → Bool
takes_nothing f = length f.params == 0

abbrev pub is_usual : Tables → CoreFn → Bool
is_usual tables f =
    is_plain f.role && ((not (bytes_eq f.name (codes "__main")) || takes_nothing f) && not (is_class (type_of tables f.result)))

abbrev pub in_body : Tables → CoreFn → Option ℕ
in_body tables f = option_or ((test tables f.body).statement (length f.params)) ((test tables f.body).unfit (length f.params + length f.locals))

abbrev pub in_function : Tables → CoreFn → Option ℕ
in_function tables f = if is_usual tables f then in_body tables f else Some (place f.body)

abbrev pub in_functions : Tables → List CoreFn → Option ℕ
in_functions tables [] = None
in_functions tables (f ∷ fs) = option_or (in_function tables f) (in_functions tables fs)

-- What is known of a node as what sets a static object before any function is entered (8.4).
pub record Constant : Type 0 where
  pub value : Bool  -- as an expression
  pub is_filling : Bool  -- whether it fills its object by itself
  pub list : Option (SourceType → Bool)  -- as a list that sets an object of this type, if it is one
  pub is_bound : Bool  -- as what binds a static reference

abbrev pub constant_value : Core-F Constant Constant → Bool
constant_value (Core-F.Number at z) = true
constant_value (Core-F.Text at j bytes) = true
constant_value (Core-F.Static at n t) = true
constant_value (Core-F.Function at n t) = true
constant_value (Core-F.Address at e) = e.value
constant_value (Core-F.Dereference at e) = e.value
constant_value (Core-F.Decay at e) = e.value
constant_value (Core-F.Index at a b) = a.value && b.value
constant_value (Core-F.Convert at t e) = e.value
constant_value (Core-F.Operate at op k a b) = a.value && b.value
constant_value (Core-F.Unary at op k e) = e.value
constant_value (Core-F.Not at e) = e.value
constant_value (Core-F.And at a b) = a.value && b.value
constant_value (Core-F.Or at a b) = a.value && b.value
constant_value (Core-F.PointerOperate at op a b) = a.value && b.value
constant_value (Core-F.Conditional at c a b) = c.value && (a.value && b.value)
constant_value x = false

abbrev pub constant_filling : Core-F Constant Constant → Bool
constant_filling (Core-F.Zeros at) = true
constant_filling (Core-F.Characters at bytes) = true
constant_filling x = false

abbrev pub set_by_list : Option (SourceType → Bool) → SourceType → Bool → Bool
set_by_list None t other = other
set_by_list (Some f) t other = f t

-- whether it sets an object of this type: by zeros, the characters of a literal, a constant or a list of these (8.4.1)
abbrev pub sets : SourceType → Constant → Bool
sets t e = set_by_list e.list t (e.is_filling || e.value)

abbrev pub each_sets : SourceType → List Constant → Bool
each_sets t [] = true
each_sets t (e ∷ es) = sets t e && each_sets t es

abbrev pub constant_list : Core-F Constant Constant → Option (SourceType → Bool)
constant_list (Core-F.List at es rest) = Some (λ t. is_row t && (each_sets (element (plain t)) es && rest.is_filling))
constant_list x = None

-- a place, or a static object of its own (8.4.3)
abbrev pub by_holder : Holder → Bool → Bool
by_holder (holder.LocalTemporary i t) constant = false
by_holder h constant = constant

abbrev pub constant_bound : Core-F Constant Constant → Bool
constant_bound (Core-F.Bind at h e) = by_holder h e.value
constant_bound x = false

abbrev pub constant_step : Core-F Constant Constant → Constant
constant_step x =
    record { value = constant_value x; is_filling = constant_filling x; list = constant_list x; is_bound = constant_bound x }

abbrev pub constant_part : PartStart-F Constant Constant → Constant
constant_part x = x.start

abbrev pub constant : Node → Constant
constant = fold-Core Constant Constant constant_step constant_part

-- a number: decimal digits, one at least
abbrev pub is_numeral : List ℕ → Bool
is_numeral bytes = not (length bytes == 0) && list_all is_ascii_digit bytes

-- whether a name is `__u` and a number
abbrev pub is_mark : List ℕ → Bool
is_mark (a ∷ b ∷ c ∷ rest) = starts_with nat_eq (a ∷ b ∷ c ∷ rest) (codes "__u") && is_numeral rest
is_mark bytes = false

-- whether a name ends so: joining puts that behind a name that is local to its file, and no link name of a file has it
abbrev pub has_mark : List ℕ → Bool
has_mark [] = false
has_mark (b ∷ rest) = is_mark (b ∷ rest) || has_mark rest

-- whether it sets a static object of this type
abbrev pub sets_object : SourceType → Constant → Bool
sets_object t e = e.is_bound || (not (is_reference t) && sets t e)

-- the type of a name among the objects of a file
abbrev pub type_named : Tables → List CoreStatic → List ℕ → SourceType
type_named tables xs name = found (find (λ (x : CoreStatic). bytes_eq x.name name) xs)
  where
    found : Option CoreStatic → SourceType
    found None = void
    found (Some x) = type_of tables x.ty

-- A static object with a constant initialiser, among the objects of its file.
abbrev pub is_usual_object : Tables → List CoreStatic → CoreStatic → Bool
is_usual_object tables all x =
    x.is_constant && (((test tables x.start).is_blank || sets_object (type_named tables all x.name) (constant x.start)) && not (has_mark x.name))

abbrev pub in_static : Tables → List CoreStatic → CoreStatic → Option ℕ
in_static tables all x = if is_usual_object tables all x then None else Some (place x.start)

abbrev pub in_statics : Tables → List CoreStatic → List CoreStatic → Option ℕ
in_statics tables all [] = None
in_statics tables all (x ∷ xs) = option_or (in_static tables all x) (in_statics tables all xs)

-- A file has no class. Where a class is defined, the place is the begin of the file.
abbrev pub in_file : CoreUnit → Option ℕ
in_file unit =
    if length unit.classes.defined == 0 then option_or (in_statics (tables_of unit) unit.statics unit.statics) (in_functions (tables_of unit) unit.functions) else Some 0
