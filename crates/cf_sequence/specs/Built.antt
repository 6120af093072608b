-- The cores that are built so far: functions over numbers and pointers, with locals, references, temporaries, literals,
-- calls and all statements, lists that are the initialisers of arrays, and static objects with constant initialisers; no class.
use Rattle.std.specs.Prelude.{ℕ, suc, ◌+◌, Bool, true, false, ◌&&◌, ◌||◌, not, nat_le, nat_lt, nat_eq, List, [], ◌∷◌, length, bytes_eq, codes}
use Rattle.std.specs.Char.{is_ascii_digit}
use Rattle.std.specs.List.{list_all, starts_with}
use Rattle.cf_core.specs.Types.{Name, SourceType, array, const, takes, gives, result, is_class, parameters, plain, element}
use Rattle.cf_core.specs.Core as core
use Rattle.cf_core.specs.Core.{Core, Cores, MaybeCore, no_temporary, local_temporary, static_temporary, none, absent, given, Role, plain_function, Function, Static, CoreFile}
use Rattle.cf_core.specs.Calls.{Program, Setting}
use Rattle.cf_core.specs.Places.{is_reference}
use Rattle.cf_core.specs.Joined.{is_nothing}
use Rattle.cf_core.specs.Valid.{is_label, has_label}
use Rattle.cf_sequence.specs.Made.{declared}
use Rattle.cf_sequence.specs.Statements.{type_of_static}

-- a function type: its parameters, and then its result
abbrev pub is_chain : SourceType → Bool
is_chain (takes p t) = is_chain t
is_chain (gives t c) = true
is_chain t = false

abbrev mutual
  pub is_value : Core → Bool
  is_value (core.number z) = true
  is_value (core.local i) = true
  is_value (core.text j bytes) = true
  is_value (core.static_object name t) = true
  is_value (core.function name t) = true
  is_value (core.read e) = is_value e
  is_value (core.address e) = is_value e
  is_value (core.dereference e) = is_value e
  is_value (core.decay e) = is_value e
  is_value (core.from_void t e) = is_value e
  is_value (core.index a b) = is_value a && is_value b
  is_value (core.pointer_operate op a b) = is_value a && is_value b
  is_value (core.convert t e) = is_value e
  is_value (core.operate op k a b) = is_value a && is_value b
  is_value (core.unary op k e) = is_value e
  is_value (core.logical_not e) = is_value e
  is_value (core.logical_and a b) = is_value a && is_value b
  is_value (core.logical_or a b) = is_value a && is_value b
  is_value (core.conditional c a b) = is_value c && (is_value a && is_value b)
  is_value (core.comma es) = are_values es
  is_value (core.store a b) = is_value a && is_value b
  is_value (core.update a c b) = is_value a && is_value b
  is_value (core.step is_postfix c e) = is_value e
  is_value (core.temporary t e) = not (is_reference t) && is_value e
  is_value (core.bind no_temporary e) = is_value e
  is_value (core.call name t absent args) = not (is_class (result t)) && (is_chain t && are_arguments args)
  is_value (core.pointer_call absent e t args) = not (is_class (result t)) && (is_chain t && (is_value e && are_arguments args))
  is_value e = false

  -- an expression's parts: one at least
  pub are_values : Cores → Bool
  are_values none = false
  are_values (core.more e none) = is_value e
  are_values (core.more e (core.more f es)) = is_value e && are_values (core.more f es)

  pub are_arguments : Cores → Bool
  are_arguments none = true
  are_arguments (core.more e es) = is_value e && are_arguments es

abbrev pub is_condition : MaybeCore → Bool
is_condition absent = true
is_condition (given e) = is_value e

-- an expression statement: nothing, or a value
abbrev pub is_start : Core → Bool
is_start e = is_nothing e || is_value e

-- what fills its object by itself: zeros, or the characters of a literal (8.4.1, 8.4.2)
abbrev pub is_filling : Core → Bool
is_filling core.zeros = true
is_filling (core.string bytes) = true
is_filling e = false

-- the initialiser of a local: one that fills its object, nothing, or a value
abbrev pub is_initial : Core → Bool
is_initial e = is_filling e || is_start e

-- an array, which may be const
abbrev pub is_row : SourceType → Bool
is_row (array t n) = true
is_row (const (array t n)) = true
is_row t = false

-- The list that is the initialiser of an array: each element has a list of its own, or is begun as a local is; those that are left out are filled (8.4.1).
abbrev mutual
  pub is_list : SourceType → Core → Bool
  is_list t (core.list es rest) = is_row t && (are_elements (element (plain t)) es && is_filling rest)
  is_list t e = false

  pub are_elements : SourceType → Cores → Bool
  are_elements t none = true
  are_elements t (core.more e es) = (is_initial e || is_list t e) && are_elements t es

abbrev pub is_element : SourceType → Core → Bool
is_element t e = is_initial e || is_list t e

-- the temporary of a reference that is the local i: a local behind it holds it, and a value makes it (8.4.3, 12.2)
abbrev pub is_held : ℕ → Core → Bool
is_held i (core.bind (local_temporary j t) e) = nat_lt i j && (not (is_reference t) && is_value e)
is_held i e = false

-- the number behind those of a declaration's locals
abbrev pub behind_declared : ℕ → Core → ℕ
behind_declared i (core.bind (local_temporary j t) e) = suc j
behind_declared i e = suc i

-- The number behind that of each local that a statement declares in the scope at hand.
abbrev mutual
  pub next_local : ℕ → Core → ℕ
  next_local m (core.declare i t e) = behind_declared i e
  next_local m (core.sequence es) = next_locals m es
  next_local m (core.branch c a b) = next_local_or (next_local m a) b
  next_local m s = m

  pub next_local_or : ℕ → MaybeCore → ℕ
  next_local_or m absent = m
  next_local_or m (given s) = next_local m s

  pub next_locals : ℕ → Cores → ℕ
  next_locals m none = m
  next_locals m (core.more s rest) = next_locals (next_local m s) rest

abbrev pub is_none : {A : Type 0} → List A → Bool
is_none [] = true
is_none (x ∷ xs) = false

-- whether a statement declares locals of the scope at hand in an arm of an `if` (6.4.1)
abbrev mutual
  pub arms_declare : Core → Bool
  arms_declare (core.sequence es) = any_arms_declare es
  arms_declare (core.branch c a b) = not (is_none (declared (core.branch c a b)))
  arms_declare s = false

  pub any_arms_declare : Cores → Bool
  any_arms_declare none = false
  any_arms_declare (core.more s rest) = arms_declare s || any_arms_declare rest

-- A statement where the locals below m are those of the open scopes: each that it declares comes behind them.
abbrev mutual
  pub is_statement : ℕ → Core → Bool
  is_statement m (core.full e) = is_start e
  is_statement m (core.block es) = are_statements m es
  is_statement m (core.sequence es) = are_statements m es
  is_statement m (core.declare i t e) = nat_le m i && (is_element t e || is_held i e)
  is_statement m (core.branch c a b) = is_value c && (is_statement m a && is_statement_or (next_local m a) b)
  is_statement m (core.loop _ c e s) = is_condition c && (is_condition e && is_statement m s)
  is_statement m (core.switch e es) = is_value e && are_cases m es
  is_statement m core.leave = true
  is_statement m core.continue = true
  is_statement m (core.give absent) = true
  is_statement m (core.give (given e)) = is_value e
  is_statement m s = false

  pub is_statement_or : ℕ → MaybeCore → Bool
  is_statement_or m absent = true
  is_statement_or m (given s) = is_statement m s

  -- the labels of a switch and its statements
  pub are_cases : ℕ → Cores → Bool
  are_cases m none = true
  are_cases m (core.more s rest) = (is_label s || is_statement m s) && are_cases (next_local m s) rest

  pub are_statements : ℕ → Cores → Bool
  are_statements m none = true
  are_statements m (core.more s rest) = is_statement m s && are_statements (next_local m s) rest

-- What is declared as the statement of an `if` by itself is there in its arm alone, and ends with the scope around it (6.5.3). Such locals are among so many of the
-- function, also where the arm is not taken; and in a switch's own block no label stands behind, which would pass them.
abbrev mutual
  pub arms_fit : ℕ → Core → Bool
  arms_fit n (core.block es) = all_arms_fit n es
  arms_fit n (core.sequence es) = all_arms_fit n es
  arms_fit n (core.branch c a b) = nat_le (next_local 0 (core.branch c a b)) n && (arms_fit n a && or_arms_fit n b)
  arms_fit n (core.loop _ c e s) = arms_fit n s
  arms_fit n (core.switch e es) = none_passed es && all_arms_fit n es
  arms_fit n s = true

  pub or_arms_fit : ℕ → MaybeCore → Bool
  or_arms_fit n absent = true
  or_arms_fit n (given s) = arms_fit n s

  pub all_arms_fit : ℕ → Cores → Bool
  all_arms_fit n none = true
  all_arms_fit n (core.more s es) = arms_fit n s && all_arms_fit n es

  pub none_passed : Cores → Bool
  none_passed none = true
  none_passed (core.more s es) = not (arms_declare s && has_label es) && none_passed es

-- what is known before any function is entered: a number, or the place or the address of an object or a function (8.4)
abbrev pub is_constant_value : Core → Bool
is_constant_value (core.number z) = true
is_constant_value (core.text j bytes) = true
is_constant_value (core.static_object name t) = true
is_constant_value (core.function name t) = true
is_constant_value (core.address e) = is_constant_value e
is_constant_value (core.dereference e) = is_constant_value e
is_constant_value (core.decay e) = is_constant_value e
is_constant_value (core.index a b) = is_constant_value a && is_constant_value b
is_constant_value (core.pointer_operate op a b) = is_constant_value a && is_constant_value b
is_constant_value (core.convert t e) = is_constant_value e
is_constant_value (core.operate op k a b) = is_constant_value a && is_constant_value b
is_constant_value (core.unary op k e) = is_constant_value e
is_constant_value (core.logical_not e) = is_constant_value e
is_constant_value (core.logical_and a b) = is_constant_value a && is_constant_value b
is_constant_value (core.logical_or a b) = is_constant_value a && is_constant_value b
is_constant_value (core.conditional c a b) = is_constant_value c && (is_constant_value a && is_constant_value b)
is_constant_value e = false

-- what sets a static object before any function is entered
abbrev pub is_constant_initial : Core → Bool
is_constant_initial e = is_filling e || is_constant_value e

-- The list that sets a static array of this type: each element is constant, or has a list of its own (8.4.1).
abbrev mutual
  pub is_constant_list : SourceType → Core → Bool
  is_constant_list t (core.list es rest) = is_row t && (are_constant_elements (element (plain t)) es && is_filling rest)
  is_constant_list t e = false

  pub are_constant_elements : SourceType → Cores → Bool
  are_constant_elements t none = true
  are_constant_elements t (core.more e es) = (is_constant_initial e || is_constant_list t e) && are_constant_elements t es

abbrev pub is_constant_element : SourceType → Core → Bool
is_constant_element t e = is_constant_initial e || is_constant_list t e

-- what binds a static reference: the place of something static, or a static object of its own that a constant begins (8.4.3)
abbrev pub is_bound : Core → Bool
is_bound (core.bind no_temporary e) = is_constant_value e
is_bound (core.bind (static_temporary name) e) = is_constant_value e
is_bound e = false

-- what sets a static object of this type
abbrev pub is_constant_set : SourceType → Core → Bool
is_constant_set t e = is_bound e || (not (is_reference t) && is_constant_element t e)

abbrev pub is_constant_start : SourceType → Core → Bool
is_constant_start t e = is_nothing e || is_constant_set t e

-- A function over numbers and pointers.
abbrev pub is_plain_role : Role → Bool
is_plain_role plain_function = true
is_plain_role role = false

abbrev pub is_body : Function → Bool
is_body f = not (is_class (result f.type)) && (is_statement (length (parameters f.type)) f.body && arms_fit (length (parameters f.type) + length f.locals) f.body)

-- `main` takes nothing
abbrev pub is_built_function : Function → Bool
is_built_function f =
    is_plain_role f.role && (is_chain f.type && ((not (bytes_eq f.name (codes "__main")) || is_none (parameters f.type)) && is_body f))

-- A static object with a constant initialiser. Its name has a type among these objects.
abbrev pub is_built_static : List Static → Static → Bool
is_built_static statics x = x.is_constant && is_constant_start (type_of_static statics x.name) x.start

-- what sets such an object, in a program
abbrev pub is_built_setting : List Static → Setting → Bool
is_built_setting statics x = is_constant_set (type_of_static statics x.object) x.start

-- A program of such functions and objects.
abbrev pub is_plainly_built : Program → Bool
is_plainly_built P =
    is_none P.classes
    && (list_all (is_built_setting P.statics) P.constants && (is_none P.initialisers && list_all is_built_function P.functions))

-- a number: decimal digits, one at least
abbrev pub is_numeral : Name → Bool
is_numeral n = not (is_none n) && list_all is_ascii_digit n

-- whether a name is `__u` and a number
abbrev pub is_mark : Name → Bool
is_mark (a ∷ b ∷ c ∷ rest) = starts_with nat_eq (a ∷ b ∷ c ∷ rest) (codes "__u") && is_numeral rest
is_mark n = false

-- whether a name ends so: joining puts that behind a name that is local to its file, and no link name of a file has it
abbrev pub has_mark : Name → Bool
has_mark [] = false
has_mark (b ∷ rest) = is_mark (b ∷ rest) || has_mark rest

-- Files of such functions and objects, where no object has a name that joining may make.
abbrev pub is_built_file : CoreFile → Bool
is_built_file file =
    is_none file.classes
    && (list_all (λ (x : Static). is_built_static file.statics x && not (has_mark x.name)) file.statics && list_all is_built_function file.functions)
