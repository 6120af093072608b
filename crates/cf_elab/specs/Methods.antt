-- Declarations of member functions in their class (9.3, 10.2, 12.1, 12.3, 12.4, 13.1, 13.4).
use Rattle.std.specs.Prelude.{ℕ, ◌+◌, Bool, true, false, not, ◌==◌, ◌&&◌, ◌||◌, nat_eq, if◌then◌else◌, List, [], ◌∷◌, ◌++◌, length, codes, Option, None, Some, slice_get, is_some, bytes_eq}
use Rattle.std.specs.Cmp.Lexicographic.{pointwise}
use Rattle.std.specs.List.{list_any}
use Rattle.std.specs.Option.{option_map_or}
use Rattle.cf_syntax.specs.declared.name.Last.{Last}
use Rattle.cf_syntax.specs.declared.name.Last.TheVariants as last
use Rattle.cf_classes.specs.declared.class.MemberDef.{MemberDef}
use Rattle.cf_classes.specs.declared.class.MemberRef.{MemberRef}
use Rattle.cf_classes.specs.declared.class.What.{What}
use Rattle.cf_classes.specs.declared.class.What.TheVariants as what
use Rattle.cf_classes.specs.LinkName.{code, code_of}
use Rattle.cf_classes.specs.Signature.{member_params, is_const_member, inherited_virtuals, overrides}
use Rattle.cf_classes.specs.TypeTree.{params_of, is_const_fun}
use Rattle.cf_elab.specs.Env.{Env, Name, Default}
use Rattle.cf_elab.specs.Arguments.{fun_at, result_of}
use Rattle.cf_elab.specs.Answer.{Elab, ◌>>=◌, ◌>>◌, gives, done, need, none_at, known, changed}
use Rattle.cf_elab.specs.Made.{int}
use Rattle.cf_elab.specs.Operand.{Sort, sort_of, class_sort}
use Rattle.cf_elab.specs.ClassScope.{members_so_far, open_class, access_now, add_member}
use Rattle.cf_elab.specs.Members.{class_defs}
use Rattle.cf_elab.specs.Functions.{default_fault, earlier_defaults, new_defaults}
use Rattle.cf_elab.specs.Names.{key}
use Rattle.cf_elab.specs.Shape.{Parameter}
use Rattle.cf_elab.specs.Specifiers.{Gathered, any_basic, is_static}

-- ---- what a declarator's name makes of a function

pub data MethodKind : Type 0 where
  ordinary : MethodKind
  constructs : MethodKind
  destroys : Name → MethodKind  -- and the name behind `~`
  converts : MethodKind
  operates : ℕ → MethodKind

abbrev pub label_name : Env → ℕ → Name
label_name env c = option_map_or (λ l. l.name) (slice_get env.classes.labels c) []

-- the name of the class whose members are declared
abbrev pub own_name : Env → Name
own_name env = option_map_or (λ c. label_name env c) (open_class env) []

abbrev pub method_kind : Env → Last → MethodKind
method_kind env (last.Ident name) = if bytes_eq name (own_name env) then constructs else ordinary
method_kind env (last.Destructor name) = destroys name
method_kind env (last.Operator n) = operates n
method_kind env (last.Conversion specifiers pointers) = converts

abbrev pub has_type : Gathered → Bool
has_type g = is_some g.named || any_basic g.basics

-- how a member function is declared
pub record Says : Type 0 where
  pub kind : MethodKind
  pub last : Last
  pub at : ℕ
  pub type : ℕ
  pub parameters : List Parameter
  pub gathered : Gathered
  pub pure_at : Option ℕ  -- the place of `= 0`
  pub is_inline : Bool  -- whether its body stands in the class

-- ---- forms (12.1, 12.3, 12.4, 13.4)

abbrev pub is_const_type : Env → ℕ → Bool
is_const_type env t = is_const_fun (fun_at env.types t)

abbrev pub params_now : Env → ℕ → List ℕ
params_now env t = params_of (fun_at env.types t)

-- a parameter of the class itself, with default arguments behind it
abbrev pub copies_itself : Env → List ℕ → List Parameter → Bool
copies_itself env [] ps = false
copies_itself env (t ∷ ts) ps = is_own (sort_of env.types t) (open_class env) && all_given ps
  where
    is_own : Sort → Option ℕ → Bool
    is_own (class_sort c) (Some d) = c == d
    is_own s c = false

    rest_given : List Parameter → Bool
    rest_given [] = true
    rest_given (p ∷ rest) = is_some p.default && rest_given rest

    all_given : List Parameter → Bool
    all_given [] = true
    all_given (p ∷ rest) = rest_given rest

abbrev pub constructor_form : Env → Says → Bool
constructor_form env d =
    not (has_type d.gathered) && not (is_static d.gathered) && not (is_some d.gathered.virtual_at) && not (is_const_type env d.type)
    && not (copies_itself env (params_now env d.type) d.parameters)

abbrev pub is_empty : {A : Type 0} → List A → Bool
is_empty [] = true
is_empty (x ∷ xs) = false

abbrev pub destructor_form : Env → Name → Says → Bool
destructor_form env name d =
    bytes_eq name (own_name env) && not (has_type d.gathered) && not (is_static d.gathered) && not (is_const_type env d.type)
    && is_empty (params_now env d.type)

abbrev pub conversion_form : Env → Says → Bool
conversion_form env d = not (has_type d.gathered) && is_empty (params_now env d.type)

-- operators with one operand, with two, and those that are members alone, by their numbers
abbrev pub is_unary : ℕ → Bool
is_unary n = list_any (nat_eq n) (0 ∷ 3 ∷ 4 ∷ 13 ∷ 18 ∷ 19 ∷ 20 ∷ 21 ∷ 23 ∷ [])

abbrev pub is_binary : ℕ → Bool
is_binary n = not (list_any (nat_eq n) (18 ∷ 19 ∷ 20 ∷ 21 ∷ 23 ∷ 25 ∷ []))

-- a second operand that is an int makes ++ and -- those behind the operand
abbrev pub is_step : ℕ → Bool
is_step n = (n == 20) || (n == 21)

abbrev pub operand_count : ℕ → ℕ → ℕ → List ℕ → Bool
operand_count n int_type count ts =
    (is_unary n && (count == 1)) || (is_binary n && (count == 2)) || (is_step n && pointwise nat_eq ts (int_type ∷ [])) || (n == 25)

-- a nonstatic member has its object as the first operand
abbrev pub operator_form : Env → ℕ → ℕ → Says → Bool
operator_form env int_type n d =
    not (is_static d.gathered) && operand_count n int_type (length (params_now env d.type) + 1) (params_now env d.type)

-- ---- names and signatures

-- a conversion function's name has the code of its result, by the function's type
abbrev pub conversion_name : Env → ℕ → Name
conversion_name env t = codes "__op" ++ code (code_of env.types env.classes (result_of (fun_at env.types t)))

abbrev pub method_name : Env → Says → Name
method_name env d = named d.kind
  where
    named : MethodKind → Name
    named ordinary = key d.last
    named constructs = codes "__ct"
    named (destroys name) = codes "__dt"
    named converts = conversion_name env d.type
    named (operates n) = key d.last

abbrev pub method_what : MethodKind → What
method_what ordinary = what.Function
method_what constructs = what.Constructor
method_what (destroys name) = what.Destructor
method_what converts = what.Convert
method_what (operates n) = what.Function

abbrev pub is_function_what : What → Bool
is_function_what what.Function = true
is_function_what what.Constructor = true
is_function_what what.Destructor = true
is_function_what what.Convert = true
is_function_what other = false

abbrev pub same_bool : Bool → Bool → Bool
same_bool true b = b
same_bool false b = not b

-- another member of the name that is no function
abbrev pub clashes : Env → Name → Bool
clashes env name = list_any (λ (m : MemberDef). bytes_eq m.name name && not (is_function_what m.what)) (members_so_far env)

-- one of the name with the same parameters and constness
abbrev pub same_again : Env → Name → ℕ → Bool
same_again env name t =
    list_any (λ (m : MemberDef). bytes_eq m.name name && pointwise nat_eq (member_params env.types m) (params_now env t) && same_bool (is_const_member env.types m) (is_const_type env t)) (members_so_far env)

-- ---- the checks in order: K8, K45, then the form by its kind, and pure but not virtual K24

abbrev pub need_form : ℕ → Env → Says → Elab (Unit {0})
need_form int_type env d = by_kind d.kind
  where
    by_kind : MethodKind → Elab (Unit {0})
    by_kind ordinary = done
    by_kind constructs = need (constructor_form env d) 40 d.at
    by_kind (destroys name) = need (destructor_form env name d) 42 d.at
    by_kind converts = need (conversion_form env d) 41 d.at
    by_kind (operates n) = need (operator_form env int_type n d) 47 d.at

abbrev pub method_member : Env → Says → List Default → MemberDef
method_member env d ds = record {
  name = method_name env d;
  what = method_what d.kind;
  ty = d.type;
  access = access_now env;
  is_static = is_static d.gathered;
  is_virtual = is_some d.gathered.virtual_at;
  is_pure = is_some d.pure_at;
  is_inline = d.is_inline;
  defaults = length ds;
  at = d.at;
}

-- whether it is a virtual function of a base again, which needs no `virtual` (10.2)
abbrev pub overrides_base : Env → MemberDef → Bool
overrides_base env m = overrides env.types (option_map_or (inherited_virtuals env.types (class_defs env)) (open_class env) []) m

abbrev pub pure_fault : Env → Says → Option ℕ
pure_fault env d = if is_some d.gathered.virtual_at || overrides_base env (method_member env d []) then None else d.pure_at

abbrev pub set_defaults : MemberRef → List Default → Elab (Unit {0})
set_defaults m [] = done
set_defaults m (d ∷ ds) = changed (λ env. record env { member_defaults = env.member_defaults ++ (m, d ∷ ds) ∷ [] })

abbrev pub method_defaults : Env → Says → Elab (List Default)
method_defaults env d =
    let ts = params_now env d.type in
    none_at (default_fault d.parameters (earlier_defaults (length ts) [])) 27 >> new_defaults ts d.parameters (earlier_defaults (length ts) [])

abbrev pub member_number : Env → ℕ → MemberRef
member_number env i = record { class = option_map_or (λ c. c) (open_class env) 0; index = i }

-- the place of the new member in its class
abbrev pub declare_method : Says → Elab MemberRef
declare_method d = do
  i ← int
  env ← known
  need (not (clashes env (method_name env d))) 8 d.at
  need (not (same_again env (method_name env d) d.type)) 45 d.at
  need_form i env d
  none_at (pure_fault env d) 24
  ds ← method_defaults env d
  now ← known
  n ← add_member (method_member now d ds)
  set_defaults (member_number now n) ds
  gives (member_number now n)
