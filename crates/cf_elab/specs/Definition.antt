-- Functions with a body, of a file and of a class (8.3, 9.3).
use Rattle.std.specs.Prelude.{ℕ, ◌+◌, Bool, true, false, not, ◌==◌, ◌&&◌, ◌||◌, nat_eq, if◌then◌else◌, List, [], ◌∷◌, ◌++◌, length, drop, map, codes, Option, None, Some, slice_get, is_some, bytes_eq}
use Rattle.std.specs.Cmp.Lexicographic.{pointwise}
use Rattle.std.specs.List.{list_any}
use Rattle.std.specs.Option.{option_map_or}
use Rattle.cf_syntax.specs.declared.name.Last.{Last}
use Rattle.cf_syntax.specs.declared.name.Last.TheVariants as last
use Rattle.cf_syntax.specs.declared.name.Name.{Name as WrittenName}
use Rattle.cf_classes.specs.declared.class.MemberDef.{MemberDef}
use Rattle.cf_classes.specs.declared.class.MemberRef.{MemberRef}
use Rattle.cf_classes.specs.ClassTable.{definition, members_of}
use Rattle.cf_classes.specs.Lookup.{places_from}
use Rattle.cf_classes.specs.Signature.{member_params, is_const_member}
use Rattle.cf_core.specs.declared.node.Core.{Core as Node}
use Rattle.cf_core.specs.declared.node.Core.TheVariants as node
use Rattle.cf_core.specs.declared.unit.CoreFn.{CoreFn}
use Rattle.cf_core.specs.declared.unit.Role.TheVariants as role
use Rattle.cf_elab.specs.Env.{Env, Name, Hand, BodyKind, plain_body, main_body, local_home, FunctionEntry}
use Rattle.cf_elab.specs.Access.{Asker, outside, inside}
use Rattle.cf_elab.specs.MethodNode.{member_at, method_link}
use Rattle.cf_elab.specs.Arguments.{fun_at, result_of}
use Rattle.cf_elab.specs.ClassScope.{in_class_scope}
use Rattle.cf_elab.specs.Answer.{Elab, ◌>>=◌, ◌>>◌, gives, done, breaks, need, none_at, known, changed, hand_changed, all}
use Rattle.cf_elab.specs.Made.{int, void}
use Rattle.cf_elab.specs.Operand.{defs}
use Rattle.cf_elab.specs.Names.{scoped, is_main, key}
use Rattle.cf_elab.specs.Complete.{types_within}
use Rattle.cf_elab.specs.Paths.{class_of_names}
use Rattle.cf_elab.specs.Specifiers.{Gathered, base_type, is_typedef, is_static, storage_at, earlier}
use Rattle.cf_elab.specs.Shape.{Parameter, Shape, inner, function_of, Position, nowhere, Shaped, whole, unbounded, typed, bounds_constant}
use Rattle.cf_elab.specs.Declarator.{type_from}
use Rattle.cf_elab.specs.Expression.{pointed_shape}
use Rattle.cf_elab.specs.Objects.{declare_in_block, block_object}
use Rattle.cf_elab.specs.Functions.{declare_function}
use Rattle.cf_elab.specs.Declaration.{need_plain_name, conflict, declares_function, unqualified, no_definition, function_says}
use Rattle.cf_elab.specs.Methods.{conversion_name, has_type, MethodKind, ordinary, constructs, destroys, converts, operates, Says, method_kind, declare_method, params_now, is_const_type, same_bool, label_name}
use Rattle.cf_elab.specs.ClassDefinition.{method_conflict}
use Rattle.cf_elab.specs.Bodies.{WrittenInit, body_kind, role_of, body_by_what}
use Rattle.cf_elab.specs.Statement.{Made, nodes_of}

-- ---- bodies

-- each parameter is an object of the outermost block; a name twice is K8 at the second
abbrev pub declare_parameters : ℕ → List Parameter → Elab (Unit {0})
declare_parameters i [] = done
declare_parameters i (p ∷ ps) = declare_parameter i p p.name >> declare_parameters (i + 1) ps
  where
    named : ℕ → Parameter → ℕ → Last → Elab (Unit {0})
    named i p at (last.Ident name) = declare_in_block name at (block_object p.type (local_home i) at)
    named i p at other = breaks 26 at

    declare_parameter : ℕ → Parameter → Option WrittenName → Elab (Unit {0})
    declare_parameter i p None = done
    declare_parameter i p (Some n) = named i p n.last_at n.last

abbrev pub own_types : List Parameter → List ℕ
own_types ps = map (λ (p : Parameter). p.type) ps

abbrev pub body_hand : Name → BodyKind → Asker → ℕ → List Parameter → Hand
body_hand link kind asker result ps = record {
  link = link;
  kind = kind;
  asker = asker;
  result = result;
  locals = own_types ps;
  literals = 0;
  statics = 0;
  breaks = false;
  continues = false;
}

abbrev pub body_of : ℕ → List (Elab Made) → Elab Node
body_of at ss = all ss >>= (λ ms. gives (node.Block at (nodes_of ms)))

-- with a hand of its own: what the body is, and the types of its locals
abbrev pub with_hand : Hand → List Parameter → Elab Node → Elab (Node × List ℕ)
with_hand h ps run = do
  before ← known
  hand_changed (λ _. h)
  n ← scoped (declare_parameters 0 ps >> run)
  behind ← known
  hand_changed (λ _. before.hand)
  gives (n, drop (length ps) behind.hand.locals)

abbrev pub core_function : FunctionEntry → ℕ → List Parameter → Node × List ℕ → CoreFn
core_function f result ps body = record {
  name = f.link;
  role = role.Plain;
  result = result;
  params = own_types ps;
  locals = body.1;
  body = body.0;
  is_shared = false;
  is_local = f.is_internal;
}

abbrev pub define_function : List Parameter → Elab Node → Option FunctionEntry → Elab (Unit {0})
define_function ps run None = done
define_function ps run (Some f) = do
  env ← known
  let result = result_of (fun_at env.types f.type) in define_with result env
  where
    define_with : ℕ → Env → Elab (Unit {0})
    define_with result env = do
      body ← with_hand (body_hand f.link (if is_main f.link then main_body else plain_body) (outside f.name f.type) result ps) ps run
      changed (λ e. record e { functions = e.functions ++ core_function f result ps body ∷ [] })

-- as any declaration in a file; and a `typedef` has no body
abbrev pub definition_conflict : Bool → ℕ → Gathered → Option ℕ
definition_conflict is_function at g = earlier (conflict true is_function at g) (if is_typedef g then storage_at g else None)

-- it names no function: K26
abbrev pub parameters_or : ℕ → Option (List Parameter) → Elab (List Parameter)
parameters_or at None = breaks 26 at
parameters_or at (Some ps) = gives ps

abbrev pub no_initialisers : List WrittenInit → Elab (Unit {0})
no_initialisers [] = done
no_initialisers (i ∷ is) = breaks 43 i.path.at

abbrev pub type_of_shaped : Shaped → Elab ℕ
type_of_shaped (whole t) = gives t
type_of_shaped (unbounded t) = gives t

abbrev pub are_some : List WrittenInit → Bool
are_some [] = false
are_some (i ∷ is) = true

-- before the body no type that was made since there were so many is larger than the limit on sizes
abbrev pub named_definition : ℕ → Gathered → ℕ → Shape → List WrittenInit → Elab Node → WrittenName → Elab (Unit {0})
named_definition count g at s inits run n = do
  base ← base_type g
  env ← known
  none_at (definition_conflict (declares_function env base s) at g) 24
  unqualified n
  no_definition g s
  x ← typed nowhere s base
  t ← type_of_shaped x
  ps ← parameters_or n.last_at (function_of s)
  bounds_constant s
  need_plain_name n.last n.last_at
  i ← int
  k ← declare_function i (function_says g n t s true (are_some inits))
  no_initialisers inits
  types_within count
  now ← known
  define_function ps run (slice_get now.entries k)

-- ---- member functions

abbrev pub core_method : Name → MemberRef → MemberDef → ℕ → List Parameter → Node × List ℕ → CoreFn
core_method link m d result ps body = record {
  name = link;
  role = role_of m d;
  result = result;
  params = own_types ps;
  locals = body.1;
  body = body.0;
  is_shared = d.is_inline;
  is_local = false;
}

abbrev pub method_with : Name → MemberRef → MemberDef → ℕ → Env → List Parameter → List WrittenInit → Elab Node → Elab (Unit {0})
method_with link m d result env ps inits run = do
  body ← with_hand (body_hand link (body_kind env m d) (inside m) result ps) ps (body_by_what d.at m d.what inits run)
  changed (λ e. record e { functions = e.functions ++ core_method link m d result ps body ∷ [] })

abbrev pub define_member : MemberRef → List Parameter → List WrittenInit → Elab Node → Option MemberDef → Elab (Unit {0})
define_member m ps inits run None = done
define_member m ps inits run (Some d) = known >>= (λ env. method_with (method_link env m d) m d (result_of (fun_at env.types d.ty)) env ps inits run)

abbrev pub define_method : MemberRef → List Parameter → List WrittenInit → Elab Node → Elab (Unit {0})
define_method m ps inits run = known >>= (λ env. define_member m ps inits run (member_at env m))

-- what the specifiers' type is, by the kind of function: a constructor and a destructor have none, and a conversion has that of its name
abbrev pub method_base : Gathered → MethodKind → Last → Elab ℕ
method_base g constructs l = void
method_base g (destroys name) l = void
method_base g converts (last.Conversion specifiers pointers) = type_from specifiers (pointed_shape pointers inner)
method_base g k l = base_type g

abbrev pub method_position : Gathered → Position
method_position g = record { unbounded = false; const_function = not (is_static g) }

abbrev pub says_method : Env → Gathered → WrittenName → ℕ → Shape → Option ℕ → Bool → Says
says_method env g n t s pure inline = record {
  kind = method_kind env n.last;
  last = n.last;
  at = n.last_at;
  type = t;
  parameters = option_map_or (λ ps. ps) (function_of s) [];
  gathered = g;
  pure_at = pure;
  is_inline = inline;
}

-- K24; K26; and the checks of its declaration
abbrev pub member_method : Gathered → Shape → Option ℕ → Bool → WrittenName → Elab MemberRef
member_method g s pure inline n = do
  env ← known
  none_at (method_conflict g) 24
  unqualified n
  no_definition g s
  base ← method_base g (method_kind env n.last) n.last
  x ← typed (method_position g) s base
  t ← type_of_shaped x
  bounds_constant s
  declare_method (says_method env g n t s pure inline)

-- ---- a function that a class declares, defined outside of it

abbrev pub same_params : Env → ℕ → MemberDef → Bool
same_params env t m =
    pointwise nat_eq (member_params env.types m) (params_now env t) && same_bool (is_const_member env.types m) (is_const_type env t)

-- the name as a member of the class: its constructor where the name is the class's own, and a conversion by its type
abbrev pub member_key : Env → ℕ → Last → ℕ → Name
member_key env c (last.Ident name) t = if bytes_eq name (label_name env c) then codes "__ct" else name
member_key env c (last.Conversion specifiers pointers) t = conversion_name env t
member_key env c other t = key other

abbrev pub is_defining : Env → Name → ℕ → MemberDef → Bool
is_defining env name t m = bytes_eq m.name name && same_params env t m

abbrev pub method_at : Env → ℕ → Name → ℕ → List ℕ
method_at env c name t = places_from (is_defining env name t) 0 (members_of (defs env) c)

abbrev pub is_function_defined : Env → Name → Bool
is_function_defined env link = list_any (λ (f : CoreFn). bytes_eq f.name link) env.functions

-- no such member K16; another result K8; a second body K8
abbrev pub define_declared : ℕ → ℕ → ℕ → ℕ → List Parameter → List WrittenInit → Elab Node → MemberRef → Option MemberDef → Elab (Unit {0})
define_declared count at c t ps inits run m None = breaks 16 at
define_declared count at c t ps inits run m (Some d) = do
  env ← known
  need (result_of (fun_at env.types d.ty) == result_of (fun_at env.types t)) 8 at
  need (not (d.is_inline || is_function_defined env (method_link env m d))) 8 at
  types_within count
  define_member m ps inits run (Some d)

abbrev pub first_member : ℕ → ℕ → ℕ → ℕ → List Parameter → List WrittenInit → Elab Node → List ℕ → Elab (Unit {0})
first_member count at c t ps inits run [] = breaks 16 at
first_member count at c t ps inits run (i ∷ is) =
    known >>= (λ env. define_declared count at c t ps inits run (record { class = c; index = i }) (member_at env (record { class = c; index = i })))

abbrev pub outside_kind : Env → ℕ → Last → MethodKind
outside_kind env c (last.Ident name) = if bytes_eq name (label_name env c) then constructs else ordinary
outside_kind env c (last.Destructor name) = destroys name
outside_kind env c (last.Operator n) = operates n
outside_kind env c (last.Conversion specifiers pointers) = converts

-- the forms of constructors K40, destructors K42 and conversions K41 (12.1, 12.3, 12.4)
abbrev pub need_outside_form : Env → Gathered → ℕ → ℕ → MethodKind → Elab (Unit {0})
need_outside_form env g at c constructs = need (not (has_type g)) 40 at
need_outside_form env g at c (destroys name) = need (bytes_eq name (label_name env c) && not (has_type g)) 42 at
need_outside_form env g at c converts = need (not (has_type g)) 41 at
need_outside_form env g at c other = done

abbrev pub any_const : Position
any_const = record { unbounded = false; const_function = true }

abbrev pub member_definition : ℕ → Gathered → ℕ → Shape → List WrittenInit → Elab Node → WrittenName → ℕ → Elab (Unit {0})
member_definition count g at s inits run n c = do
  env ← known
  none_at (definition_conflict (is_some (function_of s)) at g) 24
  no_definition g s
  base ← method_base g (outside_kind env c n.last) n.last
  x ← typed any_const s base
  t ← type_of_shaped x
  ps ← parameters_or n.last_at (function_of s)
  bounds_constant s
  now ← known
  need (is_some (definition (defs now) c)) 30 n.last_at
  need_outside_form now g n.last_at c (outside_kind now c n.last)
  first_member count n.last_at c t ps inits run (method_at now c (member_key now c n.last t) t)

abbrev pub qualified_definition : ℕ → Gathered → ℕ → Elab Shape → List WrittenInit → Elab Node → WrittenName → Name → List Name → Elab (Unit {0})
qualified_definition count g at shape inits run n q qs = do
  c ← class_of_names n.at n.from_file q qs
  s ← in_class_scope c shape
  member_definition count g at s inits run n c

abbrev pub definition_of_name : ℕ → Gathered → ℕ → Elab Shape → List WrittenInit → Elab Node → WrittenName → List Name → Elab (Unit {0})
definition_of_name count g at shape inits run n [] = shape >>= (λ s. named_definition count g at s inits run n)
definition_of_name count g at shape inits run n (q ∷ qs) = qualified_definition count g at shape inits run n q qs

abbrev pub with_written_name : ℕ → Gathered → ℕ → Elab Shape → List WrittenInit → Elab Node → Option WrittenName → Elab (Unit {0})
with_written_name count g at shape inits run None = shape >>= (λ s. breaks 26 at)
with_written_name count g at shape inits run (Some n) = definition_of_name count g at shape inits run n n.scopes
