-- Declarations of functions that are no members (3.3, 3.4, 8.2.5, 8.2.6, 8.3, 13.1).
use Rattle.std.specs.Prelude.{ℕ, zero, suc, ◌+◌, ◌-◌, Bool, true, false, not, ◌==◌, ◌&&◌, ◌||◌, nat_eq, if◌then◌else◌, List, [], ◌∷◌, ◌++◌, length, codes, Option, None, Some, slice_get, is_some, bytes_eq}
use Rattle.std.specs.Cmp.Lexicographic.{pointwise}
use Rattle.std.specs.List.{list_any}
use Rattle.std.specs.Option.{option_or}
use Rattle.cf_types.specs.declared.ty.Fun.{Fun}
use Rattle.cf_types.specs.Table.{Table}
use Rattle.cf_classes.specs.LinkName.{Code, Codes, none, Function as FunctionCode, code_of, Called, Main, link_name, Operator, Conversion}
use Rattle.cf_classes.specs.TypeTree.{params_of}
use Rattle.cf_elab.specs.Env.{Env, Name, Entity, functions, FunctionEntry, Default}
use Rattle.cf_elab.specs.Arguments.{fun_at, result_of}
use Rattle.cf_elab.specs.UserFit.{initial}
use Rattle.cf_elab.specs.Operand.{Sort, sort_of, is_class, reference_sort}
use Rattle.cf_elab.specs.Answer.{Elab, ◌>>=◌, ◌>>◌, gives, breaks, need, none_at, known, changed}
use Rattle.cf_elab.specs.Names.{declared_here, declare, redeclare, replaced}
use Rattle.cf_elab.specs.Initial.{no_keeper}
use Rattle.cf_elab.specs.Complete.{complete, name_within}
use Rattle.cf_elab.specs.Shape.{Given, Parameter}

-- ---- link names

abbrev pub parameter_codes : Code → Codes
parameter_codes (FunctionCode is_const ps r) = ps
parameter_codes other = none

-- what a function is called in its link name; `main` of the file is another
abbrev pub function_link : Env → Called → ℕ → Name
function_link env what t = link_name (record { scope = []; what = what; params = parameter_codes (code_of env.types env.classes t); is_const = false; is_static = false })

abbrev pub is_library : Name → Bool
is_library link = bytes_eq link (codes "putchar") || bytes_eq link (codes "getchar") || bytes_eq link (codes "exit")

-- ---- how a declaration says its function

pub record Says : Type 0 where
  pub name : Name
  pub called : Called
  pub at : ℕ
  pub type : ℕ
  pub parameters : List Parameter
  pub is_static : Bool
  pub is_inline : Bool
  pub defines : Bool
  pub is_initialised : Bool  -- whether an initialiser stands behind it, which it may not have (8.4, 12.6.2)

abbrev pub says_internal : Says → Bool
says_internal d = d.is_static || d.is_inline

abbrev pub is_called_main : Called → Bool
is_called_main Main = true
is_called_main other = false

-- `int main()`, neither static nor inline (3.4)
abbrev pub main_form : Table → ℕ → Says → Bool
main_form types int_type d = main_fun int_type d (fun_at types d.type)
  where
    main_fun : ℕ → Says → Option Fun → Bool
    main_fun int_type d None = false
    main_fun int_type d (Some f) = (f.result == int_type) && (length f.params == 0) && not (says_internal d)

-- ---- the functions of the file with this name and these parameters

abbrev pub same_params : Table → List ℕ → ℕ → Bool
same_params types ps t = pointwise nat_eq ps (params_of (fun_at types t))

abbrev entry_from : Table → Name → List ℕ → ℕ → List FunctionEntry → Option ℕ
entry_from types name ps n [] = None
entry_from types name ps n (f ∷ fs) = if bytes_eq f.name name && same_params types ps f.type then Some n else entry_from types name ps (n + 1) fs

abbrev pub entry_of : Env → Says → Option ℕ
entry_of env d = entry_from env.types d.name (params_of (fun_at env.types d.type)) 0 env.entries

-- ---- default arguments

abbrev pub repeat_none : {A : Type 0} → ℕ → List (Option A)
repeat_none zero = []
repeat_none (suc n) = None ∷ repeat_none n

abbrev pub some_each : {A : Type 0} → List A → List (Option A)
some_each [] = []
some_each (x ∷ xs) = Some x ∷ some_each xs

-- one for each parameter, of the declarations before
abbrev pub earlier_defaults : ℕ → List Default → List (Option Default)
earlier_defaults count ds = repeat_none (count - length ds) ++ some_each ds

-- one twice, or one with a parameter behind it that has none: the place of the first at fault, K27
abbrev pub is_followed : List Parameter → List (Option Default) → Bool
is_followed [] ds = false
is_followed (p ∷ ps) [] = false
is_followed (p ∷ ps) (d ∷ ds) = not (is_some p.default || is_some d) || is_followed ps ds

abbrev pub default_fault : List Parameter → List (Option Default) → Option ℕ
default_fault [] ds = None
default_fault (p ∷ ps) [] = None
default_fault (p ∷ ps) (d ∷ ds) = option_or (fault_of p.default d) (default_fault ps ds)
  where
    fault_of : Option Given → Option Default → Option ℕ
    fault_of None d = None
    fault_of (Some g) d = if is_some d || is_followed ps ds then Some g.at else None

abbrev pub default_of : ℕ → Given → Elab Default
default_of t g = do
  s ← initial no_keeper g.at t g.value
  gives (record { start = s.node; literals = g.literals })

abbrev pub new_defaults : List ℕ → List Parameter → List (Option Default) → Elab (List Default)
new_defaults [] ps ds = gives []
new_defaults (t ∷ ts) [] ds = gives []
new_defaults (t ∷ ts) (p ∷ ps) [] = gives []
new_defaults (t ∷ ts) (p ∷ ps) (d ∷ ds) = do
  xs ← one_default p.default d
  rest ← new_defaults ts ps ds
  gives (xs ++ rest)
  where
    one_default : Option Given → Option Default → Elab (List Default)
    one_default (Some g) d = default_of t g >>= (λ x. gives (x ∷ []))
    one_default None (Some d) = gives (d ∷ [])
    one_default None None = gives []

-- K27, then Fit at the `=`
abbrev pub defaults_of : Says → List Default → Elab (List Default)
defaults_of d before = do
  env ← known
  let ts = params_of (fun_at env.types d.type) in
      none_at (default_fault d.parameters (earlier_defaults (length ts) before)) 27
      >> new_defaults ts d.parameters (earlier_defaults (length ts) before)

-- ---- the checks in order: the form of `main` K11; same parameters and another result K8; linkage K9; default arguments K27; a parameter's class K30
-- at a definition; a second body K8

abbrev pub parameters_complete : Env → Says → Bool
parameters_complete env d = not d.defines || all_complete env (params_of (fun_at env.types d.type))
  where
    all_complete : Env → List ℕ → Bool
    all_complete env [] = true
    all_complete env (t ∷ ts) = complete env t && all_complete env ts

abbrev pub set_entry : ℕ → FunctionEntry → Elab (Unit {0})
set_entry n f = changed (λ env. record env { entries = replaced n f env.entries })

abbrev pub known_entry : Says → ℕ → FunctionEntry → Elab ℕ
known_entry d n f = do
  env ← known
  need (result_of (fun_at env.types f.type) == result_of (fun_at env.types d.type)) 8 d.at
  need (not (says_internal d) || f.is_internal) 9 d.at
  ds ← defaults_of d f.defaults
  need (parameters_complete env d) 30 d.at
  need (not d.defines || not (f.is_defined || is_library f.link)) 8 d.at
  set_entry n (record f { defaults = ds; is_defined = f.is_defined || d.defines })
  gives n

-- what has an initialiser is refused behind it (8.4), and gets no link name: so what the initialiser breaks comes before the limit on names
abbrev pub said_link : Env → Says → Name
said_link env d = if d.is_initialised then [] else function_link env d.called d.type

abbrev pub entry : Env → Says → List Default → FunctionEntry
entry env d ds = record {
  name = d.name;
  link = said_link env d;
  type = d.type;
  defaults = ds;
  at = d.at;
  is_defined = d.defines;
  is_internal = says_internal d;
}

-- while definitions in other files are not built, the file itself defines what it declares; what its initialiser breaks comes first
abbrev pub need_definition : Env → Says → Elab (Unit {0})
need_definition env d = need (env.extent.elsewhere || d.defines || d.is_initialised || list_any (bytes_eq d.name) env.defines) 48 d.at

-- a second function of one name with other parameters, where that is built (13.1)
abbrev pub need_single : Env → Says → Elab (Unit {0})
need_single env d = need (env.extent.overloads || not (list_any (λ (f : FunctionEntry). bytes_eq f.name d.name) env.entries)) 48 d.at

abbrev pub new_entry : Says → Elab ℕ
new_entry d = do
  ds ← defaults_of d []
  env ← known
  need (parameters_complete env d) 30 d.at
  need_single env d
  need_definition env d
  name_within (said_link env d)
  changed (λ e. record e { entries = e.entries ++ entry env d ds ∷ [] })
  gives (length env.entries)

abbrev pub entry_or_new : Says → Option ℕ → Elab ℕ
entry_or_new d None = new_entry d
entry_or_new d (Some n) = do
  env ← known
  by_entry (slice_get env.entries n)
  where
    by_entry : Option FunctionEntry → Elab ℕ
    by_entry None = new_entry d
    by_entry (Some f) = known_entry d n f

-- the functions that the innermost scope has by the name: one more, unless it is among them
abbrev pub joins : ℕ → List ℕ → List ℕ
joins n fs = if list_any (nat_eq n) fs then fs else fs ++ n ∷ []

abbrev pub entity_joined : Says → ℕ → Option ℕ → Elab (Unit {0})
entity_joined d n None = declare d.name (functions (n ∷ []))
entity_joined d n (Some e) = do
  env ← known
  join_set (slice_get env.entities e)
  where
    join_set : Option Entity → Elab (Unit {0})
    join_set (Some (functions fs)) = redeclare e (functions (joins n fs))
    join_set other = breaks 8 d.at

abbrev pub is_function_set : Env → Option ℕ → Bool
is_function_set env None = true
is_function_set env (Some e) = set_entity (slice_get env.entities e)
  where
    set_entity : Option Entity → Bool
    set_entity (Some (functions fs)) = true
    set_entity other = false

-- an operator of the file has one operand or two, of which one is a class object; `=`, `()`, `[]` and `->` are members alone (13.4)
abbrev pub is_unary : ℕ → Bool
is_unary n = list_any (nat_eq n) (0 ∷ 3 ∷ 4 ∷ 13 ∷ 18 ∷ 19 ∷ 20 ∷ 21 ∷ [])

abbrev pub is_binary : ℕ → Bool
is_binary n = not (list_any (nat_eq n) (18 ∷ 19 ∷ 20 ∷ 21 ∷ 22 ∷ 23 ∷ 25 ∷ 26 ∷ []))

abbrev pub is_step : ℕ → Bool
is_step n = (n == 20) || (n == 21)

abbrev pub referred_sort : Table → Sort → Sort
referred_sort types (reference_sort t) = sort_of types t
referred_sort types s = s

abbrev pub is_class_operand : Table → ℕ → Bool
is_class_operand types t = is_class (referred_sort types (sort_of types t))

abbrev pub operand_form : Table → ℕ → ℕ → List ℕ → Bool
operand_form types int_type n [] = false
operand_form types int_type n (t ∷ []) = is_unary n && is_class_operand types t
operand_form types int_type n (t ∷ u ∷ []) =
    (is_binary n && (is_class_operand types t || is_class_operand types u)) || (is_step n && is_class_operand types t && (u == int_type))
operand_form types int_type n (t ∷ u ∷ v ∷ rest) = false

abbrev pub operator_form : Table → ℕ → Says → Bool
operator_form types int_type d = form_of d.called
  where
    form_of : Called → Bool
    form_of (Operator n) = operand_form types int_type n (params_of (fun_at types d.type))
    form_of (Conversion c) = false
    form_of other = true

-- the number of the function that is declared
abbrev pub declare_function : ℕ → Says → Elab ℕ
declare_function int_type d = do
  env ← known
  need (not (is_called_main d.called) || main_form env.types int_type d) 11 d.at
  need (operator_form env.types int_type d) 47 d.at
  need (is_function_set env (declared_here env d.name)) 8 d.at
  n ← entry_or_new d (entry_of env d)
  entity_joined d n (declared_here env d.name)
  gives n
