-- The rows of declarators are their steps, with the parts of the initialiser between them.
use Rattle.std.proofs.Common.{◌≡◌, ℕ, Bool, true, false, not, ◌&&◌, ◌||◌, if◌then◌else◌, List, [], Option, None, Some, is_some, refl, sym, ap, ◌∙◌}
use Rattle.std.specs.Option.{option_map}
use Rattle.cf_syntax.specs.declared.name.Name.{Name as WrittenName}
use Rattle.cf_elab.specs.Answer.{Answer, Elab, Made, Refused, Passed, onward, need, ◌>>◌, gives, none_at}
use Rattle.cf_elab.specs.Built.{of_name}
use Rattle.cf_elab.specs.Complete.{complete, type_within}
use Rattle.cf_elab.specs.Declaration as declaration
use Rattle.cf_elab.specs.Declaration.{Initial, initial_place, declares_function}
use Rattle.cf_elab.specs.Env.{Env, Name, Object}
use Rattle.cf_elab.specs.Made.{int}
use Rattle.cf_elab.specs.Names.{is_file_scope}
use Rattle.cf_elab.specs.Objects as elaborated
use Rattle.cf_elab.specs.Objects.{Says, Written, Reached}
use Rattle.cf_elab.specs.Operand.{sort_of, is_void}
use Rattle.cf_elab.specs.Shape.{Shape, typed, bounds_constant}
use Rattle.cf_elab.specs.Specifiers.{Gathered, base_type, is_static, is_extern}
use Rattle.cf_elab_declare.specs.Declares.Begun.{only_declared, of_file, static_local, local}
use Rattle.cf_elab_declare.specs.Declares.Headed.{Headed}
use Rattle.cf_elab_declare.specs.Declares.Shut as shut
use Rattle.cf_elab_declare.proofs.DeclaresLaws.NameLaws.{unqualified_is}
use Rattle.cf_elab_declare.specs.Defines.Shut as define
use Rattle.cf_elab_declare.proofs.DefinesLaws.Rows.{define_in_file_is, define_local_is, define_in_function_is}
use Rattle.cf_elab_functions.specs.Shut as functions
use Rattle.cf_elab_objects.specs.Objects.Shut as objects

twice : {A B C : Type 0} (a : Answer A) (f : A → Elab B) (g : B → Elab C) → onward (onward a f) g ≡ onward a (λ x env. onward (f x env) g)
twice (Made x env) f g = refl
twice (Refused rule at) f g = refl
twice (Passed b most) f g = refl

-- ---- a declarator is its head, and then what it is

module _ (g : Gathered) (at : ℕ) (w : Option Initial) (s : Shape) (n : WrittenName) (built : of_name n ≡ None) where
  abbrev behind_head : Headed → Elab (List Reached)
  behind_head h = declaration.by_shape h.in_file g n s w h.shaped

  module _ (base : ℕ) (known : Env) where
    abbrev file : Bool
    file = is_file_scope known.scopes

    abbrev last_steps : Env → Answer Headed
    last_steps e = onward (typed (shut.position g (is_some w)) s base e) (λ t e. onward (bounds_constant s e) (λ _ e. Made (record { in_file = file; shaped = t }) e))

    last_is : (e : Env) → onward (last_steps e) behind_head
        ≡ onward (typed (shut.position g (is_some w)) s base e) (λ t e. onward (bounds_constant s e) (λ _ e. declaration.by_shape file g n s w t e))
    last_is e =
        twice (typed (shut.position g (is_some w)) s base e) _ _
        ∙ (λ j. onward (typed (shut.position g (is_some w)) s base e) (λ t e. twice (bounds_constant s e) (λ _ e. let h : Headed = record { in_file = file; shaped = t } in Made h e) behind_head j))

    abbrev conflict_here : Elab (Unit {0})
    conflict_here = none_at (declaration.conflict file (declares_function known base s) at g) 24

    abbrev all_steps : Env → Answer Headed
    all_steps e = onward (conflict_here e) (λ _ e. onward (declaration.no_definition g s e) (λ _. last_steps))

    all_are : (e : Env) → onward (all_steps e) behind_head
        ≡ onward (conflict_here e) (λ _ e. onward (declaration.unqualified n e) (λ _ e. onward (declaration.no_definition g s e) (λ _ e.
        onward (typed (shut.position g (is_some w)) s base e) (λ t e. onward (bounds_constant s e) (λ _ e. declaration.by_shape file g n s w t e)))))
    all_are e =
        twice (conflict_here e) _ _
        ∙ (λ j. onward (conflict_here e) (λ _ e. (twice {B = Headed} (declaration.no_definition g s e) (λ _. last_steps) behind_head
        ∙ (λ j. onward (declaration.no_definition g s e) (λ _ e. last_is e j))
        ∙ (λ j. onward (sym (unqualified_is n e built) j) (λ _ e. onward (declaration.no_definition g s e) (λ _ e.
        onward (typed (shut.position g (is_some w)) s base e) (λ t e. onward (bounds_constant s e) (λ _ e. declaration.by_shape file g n s w t e)))))) j))

  pub named_is : (env : Env) → declaration.named_declarator g at w s n env ≡ onward (shut.head g at s (is_some w) env) behind_head
  unfolding shut.head shut.no_conflict shut.no_definition
  named_is env =
      (λ j. onward (base_type g env) (λ base e. sym (all_are base e e) j))
      ∙ sym (twice (base_type g env) (λ base e. all_steps base e e) behind_head)

-- ---- an initialiser that may not stand

pub same_place : (w : Option Initial) (env : Env) → declaration.no_initialiser w env ≡ objects.no_initialiser (option_map initial_place w) env
unfolding objects.no_initialiser
same_place None env = refl
same_place (Some i) env = refl

-- ---- functions

module _ (g : Gathered) (n : WrittenName) (t : ℕ) (s : Shape) (w : Option Initial) where
  abbrev refused : Env → Answer (Unit {0})
  refused env = onward (declaration.parts_of w env) (λ _ env. objects.no_initialiser (option_map initial_place w) env)

  abbrev declared : ℕ → Elab ℕ
  declared i = functions.declare_function i (declaration.function_says g n t s false (is_some w))

  by_declared : (a : Answer ℕ)
      → onward a (λ _ env. onward (declaration.parts_of w env) (λ _ env. declaration.no_initialiser w env)) ≡ onward (onward a (λ _ env. Made (tt {0}) env)) (λ _ env. refused env)
  by_declared (Made k env) = λ j. onward (declaration.parts_of w env) (λ _ env. same_place w env j)
  by_declared (Refused rule at) = refl
  by_declared (Passed b most) = refl

  by_int : (a : Answer ℕ)
      → onward a (λ i env. onward (declared i env) (λ _ env. onward (declaration.parts_of w env) (λ _ env. declaration.no_initialiser w env)))
      ≡ onward (onward a (λ i env. onward (declared i env) (λ _ env. Made (tt {0}) env))) (λ _ env. refused env)
  by_int (Made i env) = by_declared (declared i env)
  by_int (Refused rule at) = refl
  by_int (Passed b most) = refl

  by_name : (a : Answer (Unit {0}))
      → onward a (λ _ env. onward (int env) (λ i env. onward (declared i env) (λ _ env. onward (declaration.parts_of w env) (λ _ env. declaration.no_initialiser w env))))
      ≡ onward (onward a (λ _ env. onward (int env) (λ i env. onward (declared i env) (λ _ env. Made (tt {0}) env)))) (λ _ env. refused env)
  by_name (Made u env) = by_int (int env)
  by_name (Refused rule at) = refl
  by_name (Passed b most) = refl

  pub function_is : (env : Env)
      → declaration.function_row g n t s w env
      ≡ onward (shut.function_declared g n t s (is_some w) env) (λ _ env. onward (declaration.parts_of w env) (λ _ env. objects.no_initialiser (option_map initial_place w) env))
  unfolding shut.function_declared functions.declare_function
  function_is env = by_name (declaration.need_plain_name n.last n.last_at env)

-- ---- objects

-- an object before its initialiser, its initialiser, and the object behind it
abbrev pub nodes : Bool → Says → Option ℕ → Elab (Option Written) → Elab (List Reached)
nodes in_file d at parts env = onward (shut.begin in_file d env) (λ b env. onward (parts env) (λ w env. shut.finish b d at w env))

-- whether a declaration defines the object
abbrev pub defines : Bool → Gathered → Bool → Bool
defines in_file g given = not (is_extern g) || (in_file && given)

module _ (name : Name) (at t : ℕ) (parts : Elab (Option Written)) where
  abbrev says : Bool → Bool → Bool → Bool → Says
  says static extern defining given = record { name = name; at = at; type = t; is_static = static; is_extern = extern; defines = defining; is_initialised = given }

  abbrev as_file : Bool → Bool → Option Initial → Elab (List Reached)
  as_file static extern w =
      if extern && not (is_some w) then declaration.only_declared (says static extern false (is_some w))
      else (elaborated.define_in_file (says static extern true (is_some w)) parts >> gives [])

  -- one that is defined in the file
  defined_in_file : (d : Says) (w : Option ℕ) (env : Env)
      → onward (elaborated.define_in_file d parts env) (λ _ e. let none : List Reached = [] in Made none e)
      ≡ onward (onward (onward (elaborated.declare_linked d env) (λ x e. Made x.is_internal e)) (λ i e. Made (of_file i) e)) (λ b e. onward (parts e) (λ x e. shut.finish b d w x e))
  unfolding shut.finish
  defined_in_file d w env = ap (λ a. onward a (λ _ e. Made [] e)) (define_in_file_is d parts env) ∙ by (elaborated.declare_linked d env)
    where
      ending : Bool → Option Written → Env → Answer (Unit {0})
      ending i x e = define.file_defined d i x e

      by : (a : Answer Object)
          → onward (onward a (λ x e. onward (parts e) (ending x.is_internal))) (λ _ e. let none : List Reached = [] in Made none e)
          ≡ onward (onward (onward a (λ x e. Made x.is_internal e)) (λ i e. Made (of_file i) e)) (λ b e. onward (parts e) (λ x e. shut.finish b d w x e))
      by (Made x e) = twice (parts e) (ending x.is_internal) (λ _ e. let none : List Reached = [] in Made none e)
      by (Refused rule place) = refl
      by (Passed b most) = refl

  -- one that is declared alone
  abbrev alone : (d : Says) → Option Initial → Answer Object → Answer (List Reached)
  alone d w a =
      onward (onward (onward a (λ x e. Made x.is_internal e)) (λ _ e. Made only_declared e)) (λ b e. onward (parts e) (λ x e. shut.finish b d (option_map initial_place w) x e))

  declared_in_file : (d : Says) → ((e : Env) → parts e ≡ Made None e) → (a : Answer Object) → onward a (λ _ e. let none : List Reached = [] in Made none e) ≡ alone d None a
  unfolding shut.finish objects.no_initialiser
  declared_in_file d empty (Made x e) = sym (ap (λ a. onward a (λ x e. shut.finish only_declared d None x e)) (empty e))
  declared_in_file d empty (Refused rule place) = refl
  declared_in_file d empty (Passed b most) = refl

  file_is : (static extern : Bool) (w : Option Initial) (env : Env) → (w ≡ None → (e : Env) → parts e ≡ Made None e)
      → as_file static extern w env ≡ nodes true (says static extern (not extern || (true && is_some w)) (is_some w)) (option_map initial_place w) parts env
  unfolding shut.begin objects.declare_linked
  file_is static false None env empty = defined_in_file (says static false true false) None env
  file_is static false (Some i) env empty = defined_in_file (says static false true true) (Some (initial_place i)) env
  file_is static true (Some i) env empty = defined_in_file (says static true true true) (Some (initial_place i)) env
  file_is static true None env empty = declared_in_file (says static true false false) (empty refl) (elaborated.declare_linked (says static true false false) env)

  abbrev as_block : Bool → Bool → Option Initial → Elab (List Reached)
  as_block static extern w =
      if extern then (declaration.only_declared (says static extern false (is_some w)) >> parts >> declaration.no_initialiser w >> gives [])
      else (if static then elaborated.define_in_function at name t parts else elaborated.define_local at name t parts)

  declared_in_block : (d : Says) (w : Option Initial) (a : Answer Object)
      → onward (onward (onward (onward a (λ _ e. let none : List Reached = [] in Made none e)) (λ _. parts)) (λ _. declaration.no_initialiser w)) (λ _ e. let none : List Reached = [] in Made none e)
      ≡ alone d w a
  unfolding shut.finish
  declared_in_block d w (Made x e) =
      ap (λ (run : Elab (Unit {0})). onward (onward (parts e) (λ _. run)) (λ _ e. let none : List Reached = [] in Made none e)) (λ j e. same_place w e j)
      ∙ twice (parts e) (λ _. objects.no_initialiser (option_map initial_place w)) (λ _ e. Made [] e)
  declared_in_block d w (Refused rule place) = refl
  declared_in_block d w (Passed b most) = refl

  block_is : (static extern : Bool) (w : Option Initial) (env : Env)
      → as_block static extern w env ≡ nodes false (says static extern (not extern || (false && is_some w)) (is_some w)) (option_map initial_place w) parts env
  unfolding shut.begin shut.begin_in_block objects.declare_linked shut.finish
  block_is static true w env = declared_in_block (says static true false (is_some w)) w (elaborated.declare_linked (says static true false (is_some w)) env)
  block_is true false w env =
      define_in_function_is at name t parts env ∙ sym (twice (define.begin_static_local at name t env) (λ n e. Made (static_local n) e) _)
  block_is false false w env = define_local_is at name t parts env ∙ sym (twice (define.begin_local at name t env) (λ i e. Made (local i) e) _)

  module _ (in_file : Bool) (g : Gathered) (w : Option Initial) (empty : w ≡ None → (e : Env) → parts e ≡ Made None e) where
    abbrev row_says : Says
    row_says = declaration.object_says g name at t (defines in_file g (is_some w)) (is_some w)

    nodes_are : (file : Bool) (env : Env)
        → (if file then declaration.file_object g name at t parts w else declaration.block_object g name at t parts w) env
        ≡ nodes file (declaration.object_says g name at t (defines file g (is_some w)) (is_some w)) (option_map initial_place w) parts env
    nodes_are true env = file_is (is_static g) (is_extern g) w env empty
    nodes_are false env = block_is (is_static g) (is_extern g) w env

    pub object_is : (env : Env)
        → declaration.object_row in_file g name at t parts w env
        ≡ onward (shut.check_object at t env) (λ _ env. onward (nodes in_file row_says (option_map initial_place w) parts env) (λ xs env. onward (type_within t env) (λ _ env. Made xs env)))
    unfolding shut.check_object
    object_is env =
        (λ j. onward (need (not (is_void (sort_of env.types t))) 26 at env) (λ _ e. onward (need (complete env t) 30 at e) (λ _ e.
        onward (nodes_are in_file e j) (λ xs e. onward (type_within t e) (λ _ e. Made xs e)))))
        ∙ sym (twice (need (not (is_void (sort_of env.types t))) 26 at env) (λ _ e. need (complete env t) 30 at e) _)
