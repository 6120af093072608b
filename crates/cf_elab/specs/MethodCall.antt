-- Member access and calls of member functions (5.2.2, 5.2.4, 9.3, 10.2).
use Rattle.std.specs.Prelude.{ℕ, ◌+◌, ◌-◌, Bool, true, false, not, ◌==◌, ◌||◌, nat_le, if◌then◌else◌, List, [], ◌∷◌, length, map, Option, None, Some, slice_get, is_some}
use Rattle.std.specs.Option.{option_map_or}
use Rattle.cf_types.specs.declared.ty.Ty.TheVariants as ty
use Rattle.cf_types.specs.Table.{Table}
use Rattle.cf_convert.specs.Constness.{bare}
use Rattle.cf_convert.specs.Converts.{base_path}
use Rattle.cf_convert.specs.declared.conv.Val.{Val}
use Rattle.cf_syntax.specs.declared.name.Last.{Last}
use Rattle.cf_syntax.specs.declared.name.Last.TheVariants as last
use Rattle.cf_syntax.specs.declared.name.Name.{Name as WrittenName}
use Rattle.cf_classes.specs.declared.path.Step.{Step}
use Rattle.cf_classes.specs.declared.class.MemberDef.{MemberDef}
use Rattle.cf_classes.specs.declared.class.MemberRef.{MemberRef}
use Rattle.cf_classes.specs.Lookup.{Look, One, Nothing, found}
use Rattle.cf_classes.specs.Signature.{member_params, is_const_member}
use Rattle.cf_core.specs.declared.node.Core.{Core as Node}
use Rattle.cf_core.specs.declared.node.Core.TheVariants as node
use Rattle.cf_elab.specs.Env.{Env, Name}
use Rattle.cf_elab.specs.Arguments.{fun_at, result_of}
use Rattle.cf_elab.specs.UserFit.{arguments}
use Rattle.cf_elab.specs.MethodNode.{defaults_in, member_at, method_link, object_place, on_object}
use Rattle.cf_elab.specs.Answer.{Elab, ◌>>=◌, ◌>>◌, gives, done, breaks, need, known}
use Rattle.cf_elab.specs.Made.{intern, const_if, reference_to}
use Rattle.cf_elab.specs.Operand.{Value, val, Operand, Methods, Part, evaluated, place_of, plain, defs, Sort, sort_of, object_pointer}
use Rattle.cf_elab.specs.Best.{Candidate, Choice, Chosen, NoMatch, Tie, best}
use Rattle.cf_elab.specs.Call.{called}
use Rattle.cf_elab.specs.Complete.{complete}
use Rattle.cf_elab.specs.Members.{class_defs, need_use, need_own_base, need_base, base_at, class_number, member_operand}
use Rattle.cf_elab.specs.Names.{key}
use Rattle.cf_elab.specs.Paths.{class_of_names}

-- ---- the object of a member access

-- behind `->` stands what a pointer points to
abbrev pub pointed_object : ℕ → Value → Sort → Elab Value
pointed_object at p (object_pointer t) = gives (place_of at (node.Dereference at p.node) t p.is_fixed)
pointed_object at p s = breaks 18 at

abbrev pub arrow_object : ℕ → Value → Elab Value
arrow_object at v = do
  p ← plain v
  env ← known
  pointed_object at p (sort_of env.types p.type)

-- no class K18; K30
abbrev pub class_object : ℕ → Value → Option ℕ → Elab ℕ
class_object at v None = breaks 18 at
class_object at v (Some c) = do
  env ← known
  need (complete env v.type) 30 at
  gives c

-- ---- the member that is named

abbrev pub is_destructor_name : Last → Bool
is_destructor_name (last.Destructor name) = true
is_destructor_name other = false

abbrev pub is_nothing : Look → Bool
is_nothing Nothing = true
is_nothing other = false

-- K16; K34; access
abbrev pub member_operand_of : WrittenName → Value → ℕ → List Step → Bool → Look → Elab Operand
member_operand_of n v naming prefix qualified look = do
  need (not (is_nothing look)) 16 n.last_at
  member_operand n.last_at naming look (Some (record { object = v; prefix = prefix })) qualified

-- each class has a destructor: a declared one's access, and then K48
abbrev pub explicit_destructor : ℕ → ℕ → Value → Look → Elab Operand
explicit_destructor at naming v (One p (m ∷ ms)) = do
  env ← known
  if m.class == naming then need_use at m naming (class_number (sort_of env.types v.type)) else done
  breaks 48 at
explicit_destructor at naming v look = breaks 48 at

abbrev pub named_member : WrittenName → Value → ℕ → List Step → Bool → Elab Operand
named_member n v naming prefix qualified = do
  env ← known
  let look = found (class_defs env) naming (key n.last) in
      if is_destructor_name n.last then explicit_destructor n.last_at naming v look else member_operand_of n v naming prefix qualified look

-- a class that qualifies the name is the object's own or a base of it, K14
abbrev pub prefix_of : Env → ℕ → ℕ → List Step
prefix_of env c d = if c == d then [] else option_map_or (λ p. p) (base_path (class_defs env) c d) []

abbrev pub member_of_scopes : WrittenName → List Name → Value → ℕ → Elab Operand
member_of_scopes n [] v c = named_member n v c [] false
member_of_scopes n (q ∷ qs) v c = do
  d ← class_of_names n.at n.from_file q qs
  need_base n.last_at c d
  env ← known
  named_member n v d (prefix_of env c d) true

abbrev pub access_on : ℕ → Value → WrittenName → Elab Operand
access_on at v n = do
  env ← known
  c ← class_object at v (class_number (sort_of env.types v.type))
  member_of_scopes n n.scopes (object_place v) c

-- e.x
abbrev pub dot_row : ℕ → Part → WrittenName → Elab Operand
dot_row at a n = evaluated a >>= (λ v. access_on at v n)

-- p->x
abbrev pub arrow_row : ℕ → Part → WrittenName → Elab Operand
arrow_row at a n = evaluated a >>= arrow_object at >>= (λ v. access_on at v n)

-- ---- candidates: the object is an argument of its own, which a nonstatic function takes as a reference

-- the type of the object that a member function takes; a static one takes any
abbrev pub object_type : MemberRef → ℕ → Option MemberDef → Elab ℕ
object_type m t None = reference_to t
object_type m t (Some d) = do
  env ← known
  c ← intern (ty.Class m.class)
  u ← const_if (is_const_member env.types d) c
  reference_to (if d.is_static then t else u)

abbrev pub method_candidate : ℕ → MemberRef → Elab Candidate
method_candidate t m = do
  env ← known
  u ← object_type m t (member_at env m)
  gives (of_member env.types u (member_at env m))
  where
    of_member : Table → ℕ → Option MemberDef → Candidate
    of_member types u None = record { params = u ∷ []; least = 1 }
    of_member types u (Some d) = record { params = u ∷ member_params types d; least = length (member_params types d) - d.defaults + 1 }

abbrev pub method_candidates : ℕ → List MemberRef → Elab (List Candidate)
method_candidates t [] = gives []
method_candidates t (m ∷ ms) = do
  c ← method_candidate t m
  cs ← method_candidates t ms
  gives (c ∷ cs)

abbrev pub object_val : ℕ → Val
object_val t = record { ty = t; lvalue = true; zero = false }

abbrev pub fits_count : Candidate → ℕ → Bool
fits_count c n = elim (nat_le c.least n) [ true ↦ nat_le n (length c.params) | false ↦ false ]

abbrev pub counted : ℕ → List Candidate → ℕ → Elab (Unit {0})
counted at (c ∷ []) n = need (fits_count c n) 15 at
counted at cs n = done

abbrev pub is_no_match : Choice → Bool
is_no_match NoMatch = true
is_no_match other = false

-- no match or a tie is K46; but K31 where something matches on an object that isn't const (9.3.1)
abbrev pub chosen_method : ℕ → Choice → Choice → Elab ℕ
chosen_method at (Chosen i) other = gives i
chosen_method at Tie other = breaks 46 at
chosen_method at NoMatch other = breaks (if is_no_match other then 46 else 31) at

-- the type of the object: that of the class where there is none
abbrev pub type_of_object : Methods → Elab ℕ
type_of_object m = elim m.object [ None ↦ intern (ty.Class m.naming) | Some v ↦ gives v.type ]

-- among these candidates, on an object of the type
abbrev pub pick_on : ℕ → ℕ → List Candidate → List Value → Elab ℕ
pick_on at t cs vs = do
  counted at cs (length vs + 1)
  env ← known
  chosen_method at (best env.types (defs env) cs (object_val t ∷ map val vs)) (best env.types (defs env) cs (object_val (bare env.types t) ∷ map val vs))

abbrev pub pick_method : ℕ → Methods → List Value → Elab ℕ
pick_method at m vs = do
  t ← type_of_object m
  cs ← method_candidates t m.found
  pick_on at t cs vs

-- ---- the call

abbrev pub with_object : ℕ → Methods → MemberRef → MemberDef → List Node → Option Value → Elab Node
with_object at ms m d args None = breaks 32 at
with_object at ms m d args (Some v) = do
  env ← known
  need_own_base at ms.naming (class_number (sort_of env.types v.type))
  b ← base_at at ms.path v
  env ← known
  gives (on_object at ms.is_qualified env m d b.node args)

abbrev pub method_node : ℕ → Methods → MemberRef → MemberDef → List Node → Elab Node
method_node at ms m d args =
    if d.is_static then (known >>= (λ env. gives (node.Call at (method_link env m d) d.ty None args))) else with_object at ms m d args ms.object

abbrev pub via_of : Env → Option Value → Option ℕ
via_of env None = None
via_of env (Some v) = class_number (sort_of env.types v.type)

-- access of the one that is chosen; without an object K32
abbrev pub need_object : ℕ → Methods → MemberDef → Elab (Unit {0})
need_object at ms d = need (d.is_static || is_some ms.object) 32 at

abbrev pub call_member : ℕ → Methods → List Value → MemberRef → Option MemberDef → Elab Value
call_member at ms vs m None = breaks 46 at
call_member at ms vs m (Some d) = do
  env ← known
  need_use at m ms.naming (via_of env ms.object)
  need_object at ms d
  args ← arguments at (member_params env.types d) (defaults_in env m) vs
  n ← method_node at ms m d args
  called at (result_of (fun_at env.types d.ty)) n

abbrev pub chosen_member : ℕ → Methods → List Value → Option MemberRef → Elab Value
chosen_member at ms vs None = breaks 46 at
chosen_member at ms vs (Some m) = known >>= (λ env. call_member at ms vs m (member_at env m))

-- Pick, its access, and the object
abbrev pub call_methods : ℕ → Methods → List Value → Elab Value
call_methods at ms vs = do
  i ← pick_method at ms vs
  chosen_member at ms vs (slice_get ms.found i)
