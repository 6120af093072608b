-- Declarators of a declaration, in a function or outside of functions (3, 6.7, 7.1, 8).
use Rattle.std.proofs.Common.{◌≡◌, ℕ, Bool, true, false, not, ◌&&◌, ◌||◌, if◌then◌else◌, is_some, nat_le, List, [], ◌∷◌, ◌++◌, length, Option, Some, None, slice_get, refl, sym, ap, subst, ◌∙◌}
use Rattle.std.specs.Option.{option_map, option_map_or}
use Rattle.cf_base.specs.declared.kind.Kind.TheVariants as kind
use Rattle.cf_types.specs.declared.ty.Ty.TheVariants as ty
use Rattle.cf_syntax.specs.declared.name.Last.{Last}
use Rattle.cf_syntax.specs.declared.name.Last.TheVariants as last
use Rattle.cf_syntax.specs.declared.name.Name.{Name as WrittenName}
use Rattle.cf_base.specs.declared.limit.Bound.TheVariants as bound_of
use Rattle.cf_core.specs.Types.{is_void as void_tree}
use Rattle.cf_elab.specs.Answer.{Answer, Made, Elab, onward, need, none_at, gives, done}
use Rattle.cf_elab.specs.Built as built
use Rattle.cf_elab.specs.Complete.{complete, within, most_bytes, bytes_of, type_within, types_within}
use Rattle.cf_elab.specs.Declaration as row
use Rattle.cf_elab.specs.Declaration.{Initial, initial_place, parts_of, Declares, conflict, declares_function, function_says, object_says, parameters_of, position_of, same_alias}
use Rattle.cf_elab.specs.Declarator.{Declared}
use Rattle.cf_elab.specs.Env.{Env, Name, alias}
use Rattle.cf_elab.specs.Functions.{declare_function}
use Rattle.cf_elab.specs.Made.{int}
use Rattle.cf_elab.specs.Names.{declared_here, is_file_scope}
use Rattle.cf_elab.specs.Objects.{Reached, Written}
use Rattle.cf_elab.specs.Operand.{Sort, sort_of, is_void, is_function}
use Rattle.cf_elab.specs.Shape.{Parameter, Shape, function_of, Shaped, whole, unbounded, typed, bounds_constant}
use Rattle.cf_elab.specs.Specifiers.{Gathered, base_type, is_typedef, is_extern}
use Rattle.cf_elab_valid.specs.Answers.{Fine, FineAs}
use Rattle.cf_elab_valid.specs.Scene.{Scene, IsScene, tree, Steps, Within, Inside, Classless, Holds}
use Rattle.cf_elab_valid.proofs.Early.{early-sort-is}
use Rattle.cf_elab_valid.proofs.FitRows.{Still, needed, still-fine}
use Rattle.cf_elab_valid.proofs.Making.{IsType, of_kind-fine}
use Rattle.cf_elab_valid.proofs.Named.{IsThere, NamedFits, base-fine}
use Rattle.cf_elab_valid.proofs.Options.{none_some, some_is}
use Rattle.cf_elab_valid.proofs.Shapes.{NoDefaults, IsPlainShape, ShapeThere, shape-later, ShapedThere, typed-fine, bounds_still, IsShape, none_still}
use Rattle.cf_elab_valid.proofs.Statements.{no_void}
use Rattle.cf_elab_valid.proofs.Ways.{as-then, fine-as, inside-later, made-fine, onward-fine, steps-none, within-before, When}
use Rattle.cf_elab_valid_objects.specs.Starts.{NoVoidElements, MaybeFits}
use Rattle.cf_elab_valid_files.specs.Statics.Fixed.{AreParts}
use Rattle.cf_elab_valid_files.proofs.StaticsLaws.Arrays.{IsBound, bound-fine}
use Rattle.cf_elab_valid_files.proofs.StaticsLaws.Names.{Any}
use Rattle.cf_elab_valid_files.proofs.DeclarationsLaws.Declarators.{function-plain}
use Rattle.cf_elab_valid_files.proofs.DeclarationsLaws.Entering.{named-fine, still-alone}
use Rattle.cf_elab_valid_files.proofs.DeclarationsLaws.Functions.{IsFun, fun-later, function-there, declared-fine}
use Rattle.cf_elab_valid_files.proofs.DeclarationsLaws.Words.{within-still}

-- a function has no initialiser, and no name of a type
initial-still : (w : Option Initial) (e : Env) → Still e (row.no_initialiser w e)
initial-still w e = none_still (option_map_or (λ i. Some (initial_place i)) w None) 28 e

module _ (s : Scene) (scene : IsScene s) where
  -- ---- an initialiser that may not stand, behind its parts

  refused-fine : (w : Option Initial) (e : Env) → AreParts s e (parts_of w) → Classless e → When s e (Holds s e) → Fine s Any e (onward (parts_of w e) (λ _. row.no_initialiser w))
  refused-fine w e given c h =
      onward-fine s (Any {A = Option Written}) (Any {A = Unit {0}}) e (parts_of w e) (λ _. row.no_initialiser w)
      (fine-as s (λ y f. MaybeFits s f y) Any e (parts_of w e) (λ y f p. tt) (given.initial.fine e (steps-none e) c h))
      (λ y e1 g1 c1 h1 any. still-alone s e1 (row.no_initialiser w e1) (initial-still w e1) c1 h1)

  -- ---- names of types

  typedef-fine : (name : Name) (at t : ℕ) (w : Option Initial) (e : Env) → ((b : Env) → AreParts s b (parts_of w)) → Classless e → When s e (Holds s e) → When s e (Inside e t) → Fine s Any e (row.typedef_row name at t w e)
  typedef-fine name at t w e given c h i =
      onward-fine s Any Any e (row.aliased name at t (declared_here e name) e) (λ _ f. onward (parts_of w f) (λ _. row.no_initialiser w)) (by (declared_here e name))
      (λ u e1 g1 c1 h1 any. refused-fine w e1 (given e1) c1 h1)
    where
      by : (o : Option ℕ) → Fine s Any e (row.aliased name at t o e)
      by None = named-fine s Any tt name (alias t) e (λ k is. absurd cc) c h i i (λ w. tt)
      by (Some k) = same (same_alias e t (slice_get e.entities k))
        where
          same : (b : Bool) → Fine s Any e (need b 8 at e)
          same true = made-fine s Any e tt c h (λ w. tt)
          same false = tt

  -- ---- functions

  parameters-plain : (x : Shape) → IsPlainShape x → NoDefaults (parameters_of x)
  parameters-plain x p = by (function_of x) refl
    where
      by : (o : Option (List Parameter)) → function_of x ≡ o → NoDefaults (option_map_or (λ ps. ps) o [])
      by None is = tt
      by (Some ps) is = function-plain x ps is p

  plain-still : (l : Last) (at : ℕ) (e : Env) → Still e (row.need_plain_name l at e)
  plain-still (last.Conversion specifiers pointers) at e = tt
  plain-still (last.Destructor name) at e = tt
  plain-still (last.Ident name) at e = refl
  plain-still (last.Operator n) at e = refl

  function-fine : (g : Gathered) (n : WrittenName) (t : ℕ) (x : Shape) (w : Option Initial) (e : Env) → IsPlainShape x → ((b : Env) → AreParts s b (parts_of w)) → Classless e → When s e (Holds s e) → When s e (Inside e t) → When s e (is_function (sort_of e.types t) ≡ true)
      → Fine s Any e (row.function_row g n t x w e)
  function-fine g n t x w e plain given c h i f =
      still-fine s Any e (row.need_plain_name n.last n.last_at e) _ (plain-still n.last n.last_at e)
      (onward-fine s (IsType (ty.Int kind.Int)) Any e (int e) _ (of_kind-fine s kind.Int e c h)
      (λ k e1 g1 c1 h1 is. onward-fine s Any Any e1 (declare_function k (function_says g n t x false (is_some w)) e1) (λ _ f. onward (parts_of w f) (λ _. row.no_initialiser w))
      (declared-fine s scene (function_says g n t x false (is_some w)) k e1 (parameters-plain x plain) c1 h1 (λ v. let early = within-before e e1 s g1 v in fun-later e e1 t g1 (function-there s scene e t early (i early) (f early))))
      (λ u e2 g2 c2 h2 any. refused-fine w e2 (given e2) c2 h2)))

-- ---- declarators, in a function or outside of functions

-- a declarator of a declaration
pub record IsDeclarator (s : Scene) (scene : IsScene s) (d : Declares) : Type 0 where
  pub shape : IsShape s scene d.declared.shape
  pub name : (n : WrittenName) → d.declared.name ≡ Some n → n.scopes ≡ []
  pub parts : (b : Env) → AreParts s b (parts_of d.initial)

abbrev pub AreDeclarators : (s : Scene) → IsScene s → List Declares → Type 0
AreDeclarators s scene [] = Unit {0}
AreDeclarators s scene (d ∷ ds) = IsDeclarator s scene d × AreDeclarators s scene ds

-- what declares an object
abbrev pub objects_of : Bool → Gathered → Name → ℕ → ℕ → Elab (Option Written) → Option Initial → Elab (List Reached)
objects_of in_file g name at t parts w = if in_file then row.file_object g name at t parts w else row.block_object g name at t parts w

pub named-fits-later : (g : Gathered) (a b : Env) → Steps a b → NamedFits g a → NamedFits g b
named-fits-later g a b step f t is = inside-later a b t step (f t is)

-- an identifier, and the environment stays
plain-name : {B : Type 0} (s : Scene) (Q : B → Env → Type 0) (n : WrittenName) (e : Env) (go : Name → Env → Answer B) → ((name : Name) → Fine s Q e (go name e)) → Fine s Q e (onward (row.plain_name n n.last e) go)
plain-name {B} s Q n e go next = by n.last
  where
    by : (l : Last) → Fine s Q e (onward (row.plain_name n l e) go)
    by (last.Ident name) = next name
    by (last.Destructor name) = tt
    by (last.Operator o) = tt
    by (last.Conversion specifiers pointers) = tt

module _ (s : Scene) (scene : IsScene s) (arrays : NoVoidElements s.tables) (in_file : Bool) (Here : Env → Type 0) (Result : List Reached → Type 0) (later : (a b : Env) → Steps a b → Here a → Here b) (placed : (e : Env) → Here e → is_file_scope e.scopes ≡ in_file) (nothing : Result []) (joined : (xs ys : List Reached) → Result xs → Result ys → Result (xs ++ ys)) (objects : (g : Gathered) (name : Name) (at t : ℕ) (parts : Elab (Option Written)) (w : Option Initial) (e : Env) → Here e → AreParts s e parts → Classless e → When s e (Holds s e) → When s e (Inside e t) → When s e (void_tree (tree s t) ≡ false) → Fine s (λ rs f. Result rs) e (objects_of in_file g name at t parts w e)) where
  abbrev pub Reaches : List Reached → Env → Type 0
  Reaches rs f = Result rs

  -- a row that reaches nothing
  reaches-none : {A : Type 0} (e : Env) (r : Answer A) → Fine s Any e r → Fine s Reaches e (onward r (λ _. gives []))
  reaches-none e r f = onward-fine s Any Reaches e r (λ _. gives []) f (λ a e1 g c1 h1 any. made-fine s Reaches e1 [] c1 h1 (λ w. nothing))

  -- ---- objects

  module _ (g : Gathered) (name : Name) (at t : ℕ) (parts : Elab (Option Written)) (w : Option Initial) (e : Env) (here : Here e) (given : AreParts s e parts) (c : Classless e) (h : When s e (Holds s e)) (i : When s e (Inside e t)) where
    ended-fine : When s e (void_tree (tree s t) ≡ false) → Fine s Reaches e (onward (objects_of in_file g name at t parts w e) (λ nodes k. onward (type_within t k) (λ _. gives nodes)))
    ended-fine n =
        onward-fine s Reaches Reaches e (objects_of in_file g name at t parts w e) _ (objects g name at t parts w e here given c h i n)
        (λ nodes e1 g1 c1 h1 r. still-fine s Reaches e1 (type_within t e1) (λ k. Made nodes k) (size-still e1 (nat_le (bytes_of e1 t) most_bytes)) (made-fine s Reaches e1 nodes c1 h1 r))
      where
        size-still : (f : Env) (b : Bool) → Still f (within b bound_of.Size most_bytes f)
        size-still f true = refl
        size-still f false = tt

    object-fine : Fine s Reaches e (row.object_row in_file g name at t parts w e)
    object-fine = by (is_void (sort_of e.types t)) refl
      where
        by : (b : Bool) → is_void (sort_of e.types t) ≡ b
            → Fine s Reaches e (onward (need (not b) 26 at e) (λ _ f. onward (need (complete e t) 30 at f) (λ _ k. onward (objects_of in_file g name at t parts w k) (λ nodes m. onward (type_within t m) (λ _. gives nodes)))))
        by true is = tt
        by false is =
            still-fine s Reaches e (need (complete e t) 30 at e) _ (needed e (complete e t) 30 at)
            (ended-fine (λ v. no_void s scene 0 false (sort_of e.types t) t (early-sort-is s.tables scene.table e.types v.types scene.no_class scene.none_to_reference t (i v)) is))

  -- ---- by what is declared

  module _ (g : Gathered) (n : WrittenName) (x : Shape) (w : Option Initial) (plain : IsPlainShape x) (given : (b : Env) → AreParts s b (parts_of w)) (e : Env) (here : Here e) (c : Classless e) (h : When s e (Holds s e)) where
    kind-fine : (t : ℕ) → When s e (Inside e t) → Fine s Reaches e (row.by_kind in_file g n x w t e)
    kind-fine t i = by (is_typedef g) (is_function (sort_of e.types t)) refl
      where
        kind_of : Bool → Bool → Elab (List Reached)
        kind_of true f = λ k. onward (onward (row.plain_name n n.last k) (λ name. row.typedef_row name n.last_at t w)) (λ _. gives [])
        kind_of false true = λ k. onward (row.function_row g n t x w k) (λ _. gives [])
        kind_of false false = λ k. onward (row.plain_name n n.last k) (λ name. row.object_row in_file g name n.last_at t (parts_of w) w)

        by : (a b : Bool) → is_function (sort_of e.types t) ≡ b → Fine s Reaches e (kind_of a b e)
        by true b is = reaches-none e (onward (row.plain_name n n.last e) (λ name. row.typedef_row name n.last_at t w)) (plain-name s Any n e (λ name. row.typedef_row name n.last_at t w) (λ name. typedef-fine s scene name n.last_at t w e given c h i))
        by false true is = reaches-none e (row.function_row g n t x w e) (function-fine s scene g n t x w e plain given c h i (λ v. is))
        by false false is = plain-name s Reaches n e _ (λ name. object-fine g name n.last_at t (parts_of w) w e here (given e) c h i)

    shaped-fine : (t : Shaped) → When s e (ShapedThere s scene t e) → Fine s Reaches e (row.by_shape in_file g n x w t e)
    shaped-fine (whole t) i = kind-fine t i
    shaped-fine (unbounded u) i =
        plain-name s Reaches n e _ (λ name. onward-fine s (IsBound s n.last_at u) Reaches e (row.bound_given n.last_at u w e) _ (bound-fine s n.last_at u w e c h)
        (λ t e1 g1 c1 h1 it. object-fine g name n.last_at t (parts_of w) w e1 (later e e1 g1 here) (given e1) c1 h1 it))

  module _ (g : Gathered) (at : ℕ) (w : Option Initial) (x : Shape) (n : WrittenName) (plain : IsPlainShape x) (given : (b : Env) → AreParts s b (parts_of w)) where
    abbrev behind : ℕ → Env → Answer (List Reached)
    behind base e =
        onward (none_at (conflict (is_file_scope e.scopes) (declares_function e base x) at g) 24 e)
        (λ _ f. onward (row.unqualified n f)
        (λ _ f. onward (row.no_definition g x f)
        (λ _ f. onward (typed (position_of g w) x base f)
        (λ t f. onward (bounds_constant x f)
        (λ _. row.by_shape (is_file_scope e.scopes) g n x w t)))))

    behind-fine : (base : ℕ) (e : Env) → Here e → Classless e → When s e (Holds s e) → When s e (ShapeThere x e) → When s e (Inside e base) → Fine s Reaches e (behind base e)
    behind-fine base e here c h f i =
        still-fine s Reaches e (none_at (conflict (is_file_scope e.scopes) (declares_function e base x) at g) 24 e) _ (none_still (conflict (is_file_scope e.scopes) (declares_function e base x) at g) 24 e)
        (still-fine s Reaches e (row.unqualified n e) _ (needed e _ 48 n.at)
        (still-fine s Reaches e (row.no_definition g x e) _ (none_still _ 26 e)
        (onward-fine s (ShapedThere s scene) Reaches e (typed (position_of g w) x base e) _ (typed-fine s scene (position_of g w) x base e plain c h f i)
        (λ t e1 g1 c1 h1 it. still-fine s Reaches e1 (bounds_constant x e1) (row.by_shape (is_file_scope e.scopes) g n x w t) (bounds_still s scene x e1)
        (subst (λ b. Fine s Reaches e1 (row.by_shape b g n x w t e1)) (sym (placed e here)) (shaped-fine g n x w plain given e1 (later e e1 g1 here) c1 h1 t it))))))

    named-declarator : (e : Env) → Here e → Classless e → When s e (Holds s e) → When s e (ShapeThere x e) → When s e (NamedFits g e) → Fine s Reaches e (row.named_declarator g at w x n e)
    named-declarator e here c h f m =
        onward-fine s IsThere Reaches e (base_type g e) behind (base-fine s scene g e c h m)
        (λ base e1 g1 c1 h1 ib. behind-fine base e1 (later e e1 g1 here) c1 h1 (λ v. shape-later e e1 x g1 (f (within-before e e1 s g1 v))) ib)

  -- ---- the declarators

  declarator-fine : (g : Gathered) (d : Declares) (e : Env) → IsDeclarator s scene d → Here e → Classless e → When s e (Holds s e) → When s e (NamedFits g e) → Fine s Reaches e (row.declarator_row g d e)
  declarator-fine g d e k here c h m = by d.declared.name refl
    where
      by : (o : Option WrittenName) → d.declared.name ≡ o → Fine s Reaches e (row.with_name g d.at d.initial d.declared.shape o e)
      by None is = as-then s IsPlainShape ShapeThere Reaches e (d.declared.shape e) _ (k.shape.fine e c h) (λ x e1 plain g1 c1 h1 f. tt)
      by (Some n) is =
          subst (λ l. Fine s Reaches e (row.declarator_of_name g d.at d.initial d.declared.shape n l e)) (sym (k.name n is))
          (as-then s IsPlainShape ShapeThere Reaches e (d.declared.shape e) (λ x. row.named_declarator g d.at d.initial x n) (k.shape.fine e c h)
          (λ x e1 plain g1 c1 h1 f. named-declarator g d.at d.initial x n plain k.parts e1 (later e e1 g1 here) c1 h1 f (λ v. named-fits-later g e e1 g1 (m (within-before e e1 s g1 v)))))

  -- and no type is larger than the limit
  limited-fine : (g : Gathered) (d : Declares) (e : Env) → IsDeclarator s scene d → Here e → Classless e → When s e (Holds s e) → When s e (NamedFits g e) → Fine s Reaches e (row.limited_declarator g d e)
  limited-fine g d e k here c h m =
      onward-fine s Reaches Reaches e (row.declarator_row g d e) _ (declarator-fine g d e k here c h m)
      (λ xs e1 g1 c1 h1 r. still-fine s Reaches e1 (types_within (length e.types.types) e1) (gives xs) (within-still s scene (length e.types.types) e1) (made-fine s Reaches e1 xs c1 h1 r))

  declarators-fine : (g : Gathered) (ds : List Declares) (e : Env) → AreDeclarators s scene ds → Here e → Classless e → When s e (Holds s e) → When s e (NamedFits g e) → Fine s Reaches e (row.declarators_row g ds e)
  declarators-fine g [] e k here c h m = made-fine s Reaches e [] c h (λ w. nothing)
  declarators-fine g (d ∷ ds) e k here c h m =
      onward-fine s Reaches Reaches e (row.limited_declarator g d e) _ (limited-fine g d e k.0 here c h m)
      (λ xs e1 g1 c1 h1 r. onward-fine s Reaches Reaches e1 (row.declarators_row g ds e1) (λ ys. gives (xs ++ ys))
      (declarators-fine g ds e1 k.1 (later e e1 g1 here) c1 h1 (λ v. named-fits-later g e e1 g1 (m (within-before e e1 s g1 v))))
      (λ ys e2 g2 c2 h2 q. made-fine s Reaches e2 (xs ++ ys) c2 h2 (λ w. joined xs ys (r (within-before e1 e2 s g2 w)) (q w))))

  pub declared-rows : (at : ℕ) (g : Gathered) (ds : List Declares) (e : Env) → AreDeclarators s scene ds → Here e → Classless e → When s e (Holds s e) → When s e (NamedFits g e) → Fine s Reaches e (row.declaration_row at g ds e)
  declared-rows at g [] e k here c h m =
      reaches-none e (row.only_specifiers at g e) (still-alone s e (row.only_specifiers at g e) (none_still (conflict (is_file_scope e.scopes) false at g) 24 e) c h)
  declared-rows at g (d ∷ ds) e k here c h m = declarators-fine g (d ∷ ds) e k here c h m
