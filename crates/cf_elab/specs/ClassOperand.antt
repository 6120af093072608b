-- Class objects as operands: operator functions, and conversion to an arithmetic or pointer type (12.3.2, 13.4).
use Rattle.std.specs.Prelude.{ℕ, ◌-◌, Bool, true, false, ◌&&◌, nat_lt, if◌then◌else◌, List, [], ◌∷◌, ◌++◌, length, map, codes, Option, None, Some, slice_get, not, ◌||◌, filter}
use Rattle.std.specs.List.{list_any, flat_map}
use Rattle.std.specs.Option.{option_map_or}
use Rattle.cf_types.specs.declared.ty.Ty.{Ty}
use Rattle.cf_types.specs.declared.ty.Ty.TheVariants as ty
use Rattle.cf_convert.specs.Constness.{type_at, is_const}
use Rattle.cf_convert.specs.declared.conv.Val.{Val}
use Rattle.cf_classes.specs.declared.path.Step.{Step}
use Rattle.cf_classes.specs.declared.class.MemberDef.{MemberDef}
use Rattle.cf_classes.specs.declared.class.MemberRef.{MemberRef}
use Rattle.cf_classes.specs.declared.class.What.{What}
use Rattle.cf_classes.specs.declared.class.What.TheVariants as what
use Rattle.cf_classes.specs.ClassTable.{members_of}
use Rattle.cf_classes.specs.LinkName.{operator_codes, item}
use Rattle.cf_classes.specs.Lookup.{Look, One, Nothing, Many, found, places_from}
use Rattle.cf_classes.specs.Subobject.{paths, class_at, same_path}
use Rattle.cf_elab.specs.Env.{Env, Name, Entity, functions}
use Rattle.cf_classes.specs.Signature.{is_const_member}
use Rattle.cf_elab.specs.Answer.{Elab, ◌>>=◌, ◌>>◌, gives, breaks, known}
use Rattle.cf_elab.specs.Operand.{Value, val, Methods, defs, sort_of, is_testable}
use Rattle.cf_elab.specs.Arguments.{fun_at, result_of}
use Rattle.cf_elab.specs.Best.{Candidate, Choice, Chosen, NoMatch, Tie, choice_of, matching}
use Rattle.cf_elab.specs.Call.{candidate, call_entry, entries_of}
use Rattle.cf_elab.specs.Fit as standard
use Rattle.cf_elab.specs.Members.{class_defs, need_use, class_number}
use Rattle.cf_elab.specs.MethodCall.{method_candidates, chosen_member}
use Rattle.cf_elab.specs.MethodNode.{member_at, object_place}
use Rattle.cf_elab.specs.Names.{entity_named}
use Rattle.cf_elab.specs.UserFit.{by_member}

-- ---- the one conversion function to an arithmetic or pointer type

abbrev pub referred : Ty → ℕ → ℕ
referred (ty.Ref u) t = u
referred other t = t

abbrev pub gives_scalar : Env → MemberDef → Bool
gives_scalar env m = is_conversion m.what && is_testable (sort_of env.types (referred (type_at env.types (result_of (fun_at env.types m.ty))) (result_of (fun_at env.types m.ty))))
  where
    is_conversion : What → Bool
    is_conversion what.Convert = true
    is_conversion other = false

-- a function that lookup finds at its own path: one of a derived class hides it (10.1.1)
abbrev pub is_found_at : Env → ℕ → List Step → MemberRef → Bool
is_found_at env c p m = option_map_or (λ (d : MemberDef). found_here (found (class_defs env) c d.name)) (member_at env m) false
  where
    found_here : Look → Bool
    found_here (One q ms) = same_path p q
    found_here other = false

abbrev pub scalar_members : Env → ℕ → ℕ → List MemberRef
scalar_members env c b = map (λ i. record { class = b; index = i }) (places_from (gives_scalar env) 0 (members_of (class_defs env) b))

abbrev pub kept_at : Env → ℕ → List Step → List MemberRef → List MemberRef
kept_at env c p [] = []
kept_at env c p (m ∷ ms) = if is_found_at env c p m then m ∷ kept_at env c p ms else kept_at env c p ms

abbrev pub scalar_functions : Env → ℕ → List MemberRef
scalar_functions env c = flat_map (λ p. kept_at env c p (scalar_members env c (class_at (class_defs env) c p))) (paths (class_defs env) c)

-- several are K41, and without one the rule is broken
abbrev pub by_scalar_function : ℕ → ℕ → Value → ℕ → List MemberRef → Elab Value
by_scalar_function rule at v c [] = breaks rule at
by_scalar_function rule at v c (m ∷ []) = do
  need_use at m c (Some c)
  env ← known
  by_member at v m (member_at env m)
by_scalar_function rule at v c (m ∷ n ∷ rest) = breaks 41 at

-- a function that is not const does not serve a const object (9.3.1)
abbrev pub serves : Env → Value → MemberRef → Bool
serves env v m = not (is_const env.types v.type) || option_map_or (is_const_member env.types) (member_at env m) false

abbrev pub scalar_of_class : ℕ → ℕ → Value → Option ℕ → Elab Value
scalar_of_class rule at v None = gives v
scalar_of_class rule at v (Some c) = known >>= (λ env. by_scalar_function rule at v c (filter (serves env v) (scalar_functions env c)))

-- the operand itself, or what its class's conversion function gives
abbrev pub scalar : ℕ → ℕ → Value → Elab Value
scalar rule at v = known >>= (λ env. scalar_of_class rule at v (class_number (sort_of env.types v.type)))

-- Truth: a value of an arithmetic or pointer type (6.4.1)
abbrev pub truth : ℕ → ℕ → Value → Elab Value
truth rule at v = scalar rule at v >>= standard.truth rule at

-- ---- operator functions: those of the first operand's class and those of the file, together (13.4)

abbrev pub operator_key : ℕ → Name
operator_key n = codes "__" ++ item operator_codes n

abbrev pub is_object : Env → Value → Bool
is_object env v = elim (class_number (sort_of env.types v.type)) [ None ↦ false | Some c ↦ true ]

-- the member functions that are found in the class, with the path to them
pub record Found : Type 0 where
  pub path : List Step
  pub members : List MemberRef

abbrev pub nothing_found : Found
nothing_found = record { path = []; members = [] }

abbrev pub member_found : ℕ → Look → Elab Found
member_found at (One p ms) = gives (record { path = p; members = ms })
member_found at Nothing = gives nothing_found
member_found at Many = breaks 34 at

abbrev pub operator_members : ℕ → Name → Option ℕ → Elab Found
operator_members at name None = gives nothing_found
operator_members at name (Some c) = known >>= (λ env. member_found at (found (class_defs env) c name))

abbrev pub functions_in : Option Entity → List ℕ
functions_in (Some (functions fs)) = fs
functions_in other = []

abbrev pub object_methods : ℕ → Value → Option ℕ → Found → Methods
object_methods at v c f = record { at = at; naming = option_map_or (λ n. n) c 0; path = f.path; found = f.members; object = Some (object_place v); is_qualified = false; alone = None }

-- a member function is called on any object; for a function of the file the first operand is an argument as any other
abbrev pub class_val : Value → Val
class_val v = record (val v) { lvalue = true }

abbrev pub choice_among : Env → List Candidate → List Candidate → Value → List Value → Choice
choice_among env members files x vs =
    choice_of env.types (defs env) (matching env.types (defs env) (class_val x ∷ map val vs) 0 members ++ matching env.types (defs env) (val x ∷ map val vs) (length members) files)

-- a choice among the members, which come first, and then the functions of the file; where none matches, something else is done
abbrev pub by_choice : ℕ → Value → List Value → Option ℕ → Found → List ℕ → Elab Value → Choice → Elab Value
by_choice at x vs c f fs otherwise Tie = breaks 46 at
by_choice at x vs c f fs otherwise NoMatch = otherwise
by_choice at x vs c f fs otherwise (Chosen i) =
    if nat_lt i (length f.members) then chosen_member at (object_methods at x c f) vs (slice_get f.members i)
    else (known >>= (λ env. call_entry at (x ∷ vs) (slice_get (entries_of env fs) (i - length f.members))))

abbrev pub among : ℕ → Name → Value → List Value → Bool → Elab Value → Elab Value
among at name x vs with_file otherwise = do
  env ← known
  let c = class_number (sort_of env.types x.type) in
      operator_members at name c >>= (λ f. method_candidates x.type f.members >>= (λ cs. chosen_among c f cs))
  where
    files : Env → List ℕ
    files env = if with_file then functions_in (entity_named env true name) else []

    chosen_among : Option ℕ → Found → List Candidate → Elab Value
    chosen_among c f cs = known >>= (λ env. by_choice at x vs c f (files env) otherwise (choice_among env cs (map (candidate env.types) (entries_of env (files env))) x vs))

abbrev pub any_object : Env → List Value → Bool
any_object env vs = list_any (is_object env) vs

-- an operator, by its number, on operands of which one is a class object: else, and where no function matches, something else is done
abbrev pub by_operator : ℕ → ℕ → Value → List Value → Bool → Elab Value → Elab Value
by_operator at n x vs with_file otherwise =
    known >>= (λ env. if any_object env (x ∷ vs) then among at (operator_key n) x vs with_file otherwise else otherwise)
