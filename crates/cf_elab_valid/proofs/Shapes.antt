-- Declarators, and the types that they make (8.1, 8.2).
use Rattle.std.proofs.Common.{◌≡◌, ℕ, ◌<◌, Bool, true, false, not, ◌&&◌, ◌||◌, if◌then◌else◌, List, [], ◌∷◌, ◌++◌, length, is_some, Option, Some, None, refl, sym, ap, subst, ◌∙◌, arith, length-append}
use Rattle.std.proofs.lemmas.Option.{slice_get_within}
use Rattle.cf_types.specs.declared.ty.Fun.{Fun}
use Rattle.cf_types.specs.declared.ty.Ty.{Ty}
use Rattle.cf_types.specs.declared.ty.Ty.TheVariants as ty
use Rattle.cf_convert.specs.Constness.{type_at}
use Rattle.cf_syntax.specs.declared.name.Name.{Name as WrittenName}
use Rattle.cf_syntax.specs.declared.specifier.Pointer.{Pointer}
use Rattle.cf_syntax.specs.declared.specifier.Pointer.TheVariants as pointer
use Rattle.cf_syntax.specs.declared.specifier.TypeSpecifier.{TypeSpecifier}
use Rattle.cf_elab.specs.Answer.{Answer, Made, Refused, Passed, Elab, onward, need, none_at, gives, each, maybe}
use Rattle.cf_elab.specs.Built as built
use Rattle.cf_elab.specs.Declarator.{pointed, is_nothing, named_at, no_void, object_parameter, only_parameter, parameters, as_object, only_whole, type_from, words_of}
use Rattle.cf_elab.specs.Env.{Env, object}
use Rattle.cf_elab.specs.Made.{entered_fun, place_in, same_fun, intern, intern_fun, pointer_to, reference_to, array_of, const_if, parameter_step, function_type}
use Rattle.cf_elab.specs.Operand.{Value, Part, evaluated, Sort, integral, enumeral, object_pointer, void_pointer, function_pointer, data_pointer, method_pointer, class_sort, array_sort, function_sort, void_sort, reference_sort, sort_of, is_array, is_function, is_void, is_reference}
use Rattle.cf_elab.specs.Shape.{Parameter, Shape, inner, pointing, referring, to_member, taking, holding, is_inner, Position, nowhere, Shaped, whole, unbounded, fine_bound, count_of, parameter_type, typed, bounds_constant}
use Rattle.cf_elab.specs.Specifiers.{Gathered, gathered, base_type, is_stored, parameter_conflict, type_conflict}
use Rattle.cf_elab_env.proofs.Growth.{here}
use Rattle.cf_elab_env.proofs.Sorts.{below_at}
use Rattle.cf_elab_valid.specs.Answers.{Fine, FineAs, IsPart}
use Rattle.cf_elab_valid.specs.Scene.{Scene, IsScene, Within, Steps, Inside, PartInside, Classless, Holds}
use Rattle.cf_elab_valid.proofs.Arithmetic.{IsOperand}
use Rattle.cf_elab_valid.proofs.ConstOf.{IsAlike, const_if-fine}
use Rattle.cf_elab_valid.proofs.FitRows.{Still, needed, still-fine, still-onward}
use Rattle.cf_elab_valid.proofs.Making.{IsType, place-sound, intern-fine, pointer_to-fine}
use Rattle.cf_elab_valid.proofs.Named.{IsThere, WordsFit, words-later, words-fine, NamedFits, gathered_named, base-fine}
use Rattle.cf_elab_valid.proofs.Options.{never_none}
use Rattle.cf_elab_valid.proofs.Parts.{evaluated-fine}
use Rattle.cf_elab_valid.proofs.Ways.{same-hand, begins-get, begins-last, begins-same, homes-same, entity-later, named-later, entry-later, fine-as, as-made, as-onward, as-behind, inside-later, made-fine, onward-fine, steps-through, within-before, When}

pub still-as : {A B : Type 0} (s : Scene) (T : B → Type 0) (R : B → Env → Type 0) (e : Env) (r : Answer A) (go : Env → Answer B) → Still e r → FineAs s T R e (go e) → FineAs s T R e (onward r (λ _. go))
still-as s T R e (Made a b) go h f = subst (λ x. FineAs s T R e (go x)) (sym h) f
still-as s T R e (Refused rule at) go h f = tt
still-as s T R e (Passed bound most) go h f = tt

pub none_still : (o : Option ℕ) (rule : ℕ) (e : Env) → Still e (none_at o rule e)
none_still None rule e = refl
none_still (Some at) rule e = tt

pub as-fine : {A : Type 0} (s : Scene) (P : A → Env → Type 0) (e : Env) (r : Answer A) → FineAs s (λ _. Unit {0}) P e r → Fine s P e r
as-fine s P e (Made a b) f = f.0
as-fine s P e (Refused rule at) f = tt
as-fine s P e (Passed bound most) f = tt

-- ---- parameters and declarators without classes and default arguments

abbrev pub NoDefaults : List Parameter → Type 0
NoDefaults [] = Unit {0}
NoDefaults (p ∷ ps) = (p.default ≡ None) × NoDefaults ps

abbrev pub ParametersThere : List Parameter → Env → Type 0
ParametersThere [] e = Unit {0}
ParametersThere (p ∷ ps) e = Inside e p.type × ParametersThere ps e

abbrev pub IsPlainShape : Shape → Type 0
IsPlainShape inner = Unit {0}
IsPlainShape (pointing at c s) = IsPlainShape s
IsPlainShape (referring at s) = IsPlainShape s
IsPlainShape (to_member at c k s) = ⊥
IsPlainShape (taking at ps c s) = NoDefaults ps × IsPlainShape s
IsPlainShape (holding at b s) = IsPlainShape s

abbrev pub ShapeThere : Shape → Env → Type 0
ShapeThere inner e = Unit {0}
ShapeThere (pointing at c s) e = ShapeThere s e
ShapeThere (referring at s) e = ShapeThere s e
ShapeThere (to_member at c k s) e = ShapeThere s e
ShapeThere (taking at ps c s) e = ParametersThere ps e × ShapeThere s e
ShapeThere (holding at b s) e = ShapeThere s e

pub parameters-later : (a b : Env) (ps : List Parameter) → Steps a b → ParametersThere ps a → ParametersThere ps b
parameters-later a b [] g f = tt
parameters-later a b (p ∷ ps) g f = (inside-later a b p.type g f.0, parameters-later a b ps g f.1)

pub shape-later : (a b : Env) (x : Shape) → Steps a b → ShapeThere x a → ShapeThere x b
shape-later a b inner g f = tt
shape-later a b (pointing at c x) g f = shape-later a b x g f
shape-later a b (referring at x) g f = shape-later a b x g f
shape-later a b (to_member at c k x) g f = shape-later a b x g f
shape-later a b (taking at ps c x) g f = (parameters-later a b ps g f.0, shape-later a b x g f.1)
shape-later a b (holding at n x) g f = shape-later a b x g f

-- ---- function types

abbrev pub FunThere : ℕ → Env → Type 0
FunThere f e = f < length e.types.funs

module _ (s : Scene) where
  pub intern_fun-fine : (g : Fun) (e : Env) → Classless e → When s e (Holds s e) → Fine s FunThere e (intern_fun g e)
  intern_fun-fine g e c h = by (place_in (same_fun g) 0 e.types.funs) refl
    where
      by : (o : Option ℕ) → place_in (same_fun g) 0 e.types.funs ≡ o → Fine s FunThere e (Made (entered_fun e.types g o).0 (record e { types = (entered_fun e.types g o).1 }))
      by (Some n) found =
          let r = place-sound (same_fun g) 0 e.types.funs n found in
          let inside : r.index < length e.types.funs = slice_get_within e.types.funs r.index r.item r.here in
          made-fine s FunThere e n c h (λ w. let place = r.place in omega arith)
      by None found =
          let next : Env = record e { types = record e.types { funs = e.types.funs ++ g ∷ [] } } in
          let step : Steps e next = record { types = begins-same e.types.types; funs = begins-last e.types.funs g; enums = begins-same e.classes.enums; locals = begins-same e.hand.locals; statics = begins-same e.statics; functions = begins-same e.functions; homes = homes-same e.entities; hand = same-hand e.hand; outer = refl } in record {
            steps = step;
            classless = record { none = c.none; none_open = c.none_open; no_body = c.no_body; no_type = c.no_type; no_name = c.no_name; no_defaults = c.no_defaults };
            holds = λ w. let k = h (within-before e next s step w) in record {
              parts = λ t v at. part_later v (k.parts t v at);
              no_outer = k.no_outer;
              entities = λ n x o at. entity-later s e next x step (k.entities n x o at);
              named_types = λ n x at. named-later e next x step (k.named_types n x at);
              entries = λ n f at. entry-later s e next f step (k.entries n f at);
              open_there = k.open_there;
              outside = λ n x at home. entity-later s e next (object x) step (k.outside n x at home);
              statics = k.statics;
              functions = k.functions;
              result = k.result;
            };
            made = λ w. omega (arith, length-append e.types.funs (g ∷ []));
          }
        where
          part_later : (v : Ty) → PartInside e v → PartInside (record e { types = record e.types { funs = e.types.funs ++ g ∷ [] } }) v
          part_later (ty.Fun f) k = omega (arith, length-append e.types.funs (g ∷ []))
          part_later (ty.Enum n) k = k
          part_later ty.Void k = k
          part_later (ty.Int n) k = k
          part_later (ty.Class n) k = k
          part_later (ty.Ptr n) k = k
          part_later (ty.Ref n) k = k
          part_later (ty.Array n m) k = k
          part_later (ty.MemData n m) k = k
          part_later (ty.MemFun n m) k = k
          part_later (ty.Const n) k = k

  pub function_type-fine : (r : ℕ) (ps : List ℕ) (b : Bool) (e : Env) → Classless e → When s e (Holds s e) → Fine s IsThere e (function_type r ps b e)
  function_type-fine r ps b e c h =
      onward-fine s FunThere IsThere e (intern_fun (record { result = r; params = ps; is_const = b }) e) (λ f. intern (ty.Fun f)) (intern_fun-fine (record { result = r; params = ps; is_const = b }) e c h)
      (λ f e1 g c1 h1 there. fine-as s (IsType (ty.Fun f)) IsThere e1 (intern (ty.Fun f) e1) (λ t k is. is.inside) (intern-fine s (ty.Fun f) e1 refl there c1 h1))

  pub there-fine : (v : Ty) (e : Env) → Fine s (IsType v) e (intern v e) → Fine s IsThere e (intern v e)
  there-fine v e f = fine-as s (IsType v) IsThere e (intern v e) (λ t k is. is.inside) f

module _ (s : Scene) (scene : IsScene s) where
  -- ---- the types of parameters in the type of their function

  parameter_type-fine : (t : ℕ) (e : Env) → Classless e → When s e (Holds s e) → When s e (Inside e t) → Fine s IsThere e (parameter_type t e)
  parameter_type-fine t e c h i = by (type_at e.types t) refl
    where
      part : (w : Within e s) (u : ℕ) → type_at e.types t ≡ ty.Const u → Inside e u
      part w u is =
          let i_now = i w in
          let at = begins-get e.types.types s.tables.types.types t (ty.Const u) w.types (here e.types t i_now ∙ ap Some is) in
          let below : u < t = below_at s.tables.types t (ty.Const u) scene.table at in
          omega arith

      by : (v : Ty) → type_at e.types t ≡ v → Fine s IsThere e (parameter_step t v e)
      by (ty.Array u n) is = there-fine s (ty.Ptr u) e (pointer_to-fine s u e c h)
      by (ty.Fun f) is = there-fine s (ty.Ptr t) e (pointer_to-fine s t e c h)
      by (ty.Const u) is = made-fine s IsThere e u c h (λ w. part w u is)
      by ty.Void is = made-fine s IsThere e t c h i
      by (ty.Int k) is = made-fine s IsThere e t c h i
      by (ty.Enum k) is = made-fine s IsThere e t c h i
      by (ty.Class k) is = made-fine s IsThere e t c h i
      by (ty.Ptr k) is = made-fine s IsThere e t c h i
      by (ty.Ref k) is = made-fine s IsThere e t c h i
      by (ty.MemData k n) is = made-fine s IsThere e t c h i
      by (ty.MemFun k n) is = made-fine s IsThere e t c h i

  abbrev pub Any : List ℕ → Env → Type 0
  Any ts e = Unit {0}

  pub parameter_types-fine : (ps : List Parameter) (e : Env) → Classless e → When s e (Holds s e) → When s e (ParametersThere ps e) → Fine s Any e (each (λ (p : Parameter). parameter_type p.type) ps e)
  parameter_types-fine [] e c h f = made-fine s Any e [] c h (λ w. tt)
  parameter_types-fine (p ∷ ps) e c h f =
      onward-fine s IsThere Any e (parameter_type p.type e) _ (parameter_type-fine p.type e c h (λ w. (f w).0))
      (λ t e1 g c1 h1 it. onward-fine s Any Any e1 (each (λ (q : Parameter). parameter_type q.type) ps e1) (λ ts. gives (t ∷ ts))
      (parameter_types-fine ps e1 c1 h1 (λ w. parameters-later e e1 ps g (f (within-before e e1 s g w)).1)) (λ ts e2 g2 c2 h2 a. made-fine s Any e2 (t ∷ ts) c2 h2 (λ w. tt)))

  -- ---- the type of a declarator

  abbrev pub ShapedThere : Shaped → Env → Type 0
  ShapedThere (whole t) e = Inside e t
  ShapedThere (unbounded t) e = Inside e t

  pub typed-fine : (position : Position) (x : Shape) (t : ℕ) (e : Env) → IsPlainShape x → Classless e → When s e (Holds s e) → When s e (ShapeThere x e) → When s e (Inside e t) → Fine s ShapedThere e (typed position x t e)
  typed-fine position inner t e plain c h f i = made-fine s ShapedThere e (whole t) c h i
  typed-fine position (pointing at b x) t e plain c h f i =
      still-fine s ShapedThere e (need (not (is_reference (sort_of e.types t))) 26 at e) _ (needed e (not (is_reference (sort_of e.types t))) 26 at)
      (onward-fine s IsThere ShapedThere e (pointer_to t e) _ (there-fine s (ty.Ptr t) e (pointer_to-fine s t e c h))
      (λ p e1 g1 c1 h1 ip. onward-fine s IsThere ShapedThere e1 (const_if b p e1) (λ q. typed position x q) (fine-as s (IsAlike s p) IsThere e1 (const_if b p e1) (λ u k q. q.inside) (const_if-fine s scene b p e1 c1 h1 ip))
      (λ q e2 g2 c2 h2 iq. typed-fine position x q e2 plain c2 h2 (λ w. shape-later e e2 x (steps-through e e1 e2 g1 g2) (f (within-before e e2 s (steps-through e e1 e2 g1 g2) w))) iq)))
  typed-fine position (referring at x) t e plain c h f i =
      still-fine s ShapedThere e (need (not (is_reference (sort_of e.types t) || is_void (sort_of e.types t))) 26 at e) _ (needed e (not (is_reference (sort_of e.types t) || is_void (sort_of e.types t))) 26 at)
      (onward-fine s IsThere ShapedThere e (reference_to t e) (λ r. typed position x r) (there-fine s (ty.Ref t) e (intern-fine s (ty.Ref t) e refl (λ w. tt) c h))
      (λ r e1 g1 c1 h1 ir. typed-fine position x r e1 plain c1 h1 (λ w. shape-later e e1 x g1 (f (within-before e e1 s g1 w))) ir))
  typed-fine position (to_member at k b x) t e plain c h f i = absurd plain
  typed-fine position (taking at ps b x) t e plain c h f i =
      still-fine s ShapedThere e (need (not (is_array (sort_of e.types t) || is_function (sort_of e.types t))) 26 at e) _ (needed e (not (is_array (sort_of e.types t) || is_function (sort_of e.types t))) 26 at)
      (still-fine s ShapedThere e (need (not b || (is_inner x && position.const_function)) 26 at e) _ (needed e (not b || (is_inner x && position.const_function)) 26 at)
      (onward-fine s Any ShapedThere e (each (λ (p : Parameter). parameter_type p.type) ps e) _ (parameter_types-fine ps e c h (λ w. (f w).0))
      (λ qs e1 g1 c1 h1 a. onward-fine s IsThere ShapedThere e1 (function_type t qs b e1) (λ u. typed position x u) (function_type-fine s t qs b e1 c1 h1)
      (λ u e2 g2 c2 h2 iu. typed-fine position x u e2 plain.1 c2 h2 (λ w. shape-later e e2 x (steps-through e e1 e2 g1 g2) (f (within-before e e2 s (steps-through e e1 e2 g1 g2) w)).1) iu))))
  typed-fine position (holding at (Some b) x) t e plain c h f i =
      still-fine s ShapedThere e (need (not (is_reference (sort_of e.types t) || is_void (sort_of e.types t) || is_function (sort_of e.types t))) 26 at e) _
      (needed e (not (is_reference (sort_of e.types t) || is_void (sort_of e.types t) || is_function (sort_of e.types t))) 26 at)
      (still-fine s ShapedThere e (need (fine_bound b.number) 26 at e) _ (needed e (fine_bound b.number) 26 at)
      (onward-fine s IsThere ShapedThere e (array_of t (count_of b.number) e) (λ u. typed position x u) (there-fine s (ty.Array t (count_of b.number)) e (intern-fine s (ty.Array t (count_of b.number)) e refl (λ w. tt) c h))
      (λ u e1 g1 c1 h1 iu. typed-fine position x u e1 plain c1 h1 (λ w. shape-later e e1 x g1 (f (within-before e e1 s g1 w))) iu)))
  typed-fine position (holding at None x) t e plain c h f i =
      still-fine s ShapedThere e (need (not (is_reference (sort_of e.types t) || is_void (sort_of e.types t) || is_function (sort_of e.types t))) 26 at e) _
      (needed e (not (is_reference (sort_of e.types t) || is_void (sort_of e.types t) || is_function (sort_of e.types t))) 26 at)
      (still-fine s ShapedThere e (need (is_inner x && position.unbounded) 26 at e) _ (needed e (is_inner x && position.unbounded) 26 at) (made-fine s ShapedThere e (unbounded t) c h i))

  pub bounds_still : (x : Shape) (e : Env) → Still e (bounds_constant x e)
  bounds_still inner e = refl
  bounds_still (pointing at b x) e = bounds_still x e
  bounds_still (referring at x) e = bounds_still x e
  bounds_still (to_member at k b x) e = bounds_still x e
  bounds_still (taking at ps b x) e = bounds_still x e
  bounds_still (holding at None x) e = bounds_still x e
  bounds_still (holding at (Some b) x) e = still-onward e (bounds_constant x e) (λ _. need (is_some b.number) 19 at) (bounds_still x e) (λ _. needed e (is_some b.number) 19 at)

  -- ---- a declarator and its specifiers, fine wherever it is elaborated

  pub record IsShape (run : Elab Shape) : Type 0 where
    pub fine : (e : Env) → Classless e → When s e (Holds s e) → FineAs s IsPlainShape ShapeThere e (run e)

  -- behind the type of a declarator
  pub typed_then : {B : Type 0} (T : B → Type 0) (R : B → Env → Type 0) (position : Position) (x : Shape) (g : Gathered) (go : Shaped → Env → Answer B) (e : Env)
      → IsPlainShape x → Classless e → When s e (Holds s e) → When s e (ShapeThere x e) → When s e (NamedFits g e)
      → ((t : Shaped) (e1 : Env) → Classless e1 → When s e1 (Holds s e1) → When s e1 (ShapedThere t e1) → FineAs s T R e1 (go t e1))
      → FineAs s T R e (onward (base_type g e) (λ base k. onward (typed position x base k) (λ t m. onward (bounds_constant x m) (λ _. go t))))
  typed_then T R position x g go e plain c h f n next =
      as-behind s IsThere T R e (base_type g e) _ (base-fine s scene g e c h n)
      (λ base e1 g1 c1 h1 ib. as-behind s ShapedThere T R e1 (typed position x base e1) _ (typed-fine position x base e1 plain c1 h1 (λ w. shape-later e e1 x g1 (f (within-before e e1 s g1 w))) ib)
      (λ t e2 g2 c2 h2 it. still-as s T R e2 (bounds_constant x e2) (go t) (bounds_still x e2) (next t e2 c2 h2 it)))

-- ---- parameters

pub record IsParameter (s : Scene) (run : Elab Parameter) : Type 0 where
  pub fine : (e : Env) → Classless e → When s e (Holds s e) → FineAs s (λ q. q.default ≡ None) (λ q f. Inside f q.type) e (run e)

abbrev pub AreParameters : Scene → List (Elab Parameter) → Type 0
AreParameters s [] = Unit {0}
AreParameters s (p ∷ ps) = IsParameter s p × AreParameters s ps

-- a type in brackets
pub record IsTypeId (s : Scene) (run : Elab ℕ) : Type 0 where
  pub fine : (e : Env) → Classless e → When s e (Holds s e) → Fine s IsThere e (run e)

module _ (s : Scene) where
  abbrev no_default : Parameter → Type 0
  no_default p = p.default ≡ None

  abbrev is_there : Parameter → Env → Type 0
  is_there p e = Inside e p.type

  object-fine : (run : Elab Parameter) (e : Env) → IsParameter s run → Classless e → When s e (Holds s e) → FineAs s no_default is_there e (object_parameter run e)
  object-fine run e k c h =
      as-onward s no_default is_there no_default is_there e (run e) (λ p f. onward (no_void p f) (λ _. gives p)) (k.fine e c h)
      (λ p e1 d g c1 h1 i. still-as s no_default is_there e1 (no_void p e1) (gives p) (needed e1 (not (is_void (sort_of e1.types p.type))) 26 (named_at p)) (as-made s no_default is_there e1 p d c1 h1 i))

  objects-fine : (ps : List (Elab Parameter)) (e : Env) → AreParameters s ps → Classless e → When s e (Holds s e) → FineAs s NoDefaults ParametersThere e (each object_parameter ps e)
  objects-fine [] e a c h = as-made s NoDefaults ParametersThere e [] tt c h (λ w. tt)
  objects-fine (p ∷ ps) e a c h =
      as-onward s no_default is_there NoDefaults ParametersThere e (object_parameter p e) (λ q f. onward (each object_parameter ps f) (λ qs. gives (q ∷ qs))) (object-fine p e a.0 c h)
      (λ q e1 d g c1 h1 i. as-onward s NoDefaults ParametersThere NoDefaults ParametersThere e1 (each object_parameter ps e1) (λ qs. gives (q ∷ qs)) (objects-fine ps e1 a.1 c1 h1)
      (λ qs e2 ds g2 c2 h2 is. as-made s NoDefaults ParametersThere e2 (q ∷ qs) (d, ds) c2 h2 (λ w. (inside-later e1 e2 q.type g2 (i (within-before e1 e2 s g2 w)), is w))))

  alone-fine : (p : Parameter) (e : Env) → p.default ≡ None → Classless e → When s e (Holds s e) → When s e (Inside e p.type) → FineAs s NoDefaults ParametersThere e (only_parameter p e)
  alone-fine p e d c h i = by (is_nothing e p)
    where
      by : (b : Bool) → FineAs s NoDefaults ParametersThere e (let run : Elab (List Parameter) = if b then gives [] else (λ f. onward (no_void p f) (λ _. gives (p ∷ []))) in run e)
      by true = as-made s NoDefaults ParametersThere e [] tt c h (λ w. tt)
      by false =
          still-as s NoDefaults ParametersThere e (no_void p e) (gives (p ∷ [])) (needed e (not (is_void (sort_of e.types p.type))) 26 (named_at p))
          (as-made s NoDefaults ParametersThere e (p ∷ []) (d, tt) c h (λ w. (i w, tt)))

  parameters-fine : (ps : List (Elab Parameter)) (e : Env) → AreParameters s ps → Classless e → When s e (Holds s e) → FineAs s NoDefaults ParametersThere e (parameters ps e)
  parameters-fine [] e a c h = objects-fine [] e a c h
  parameters-fine (p ∷ q ∷ ps) e a c h = objects-fine (p ∷ q ∷ ps) e a c h
  parameters-fine (p ∷ []) e a c h = as-onward s no_default is_there NoDefaults ParametersThere e (p e) only_parameter (a.0.fine e c h) (λ q e1 d g c1 h1 i. alone-fine q e1 d c1 h1 i)

-- ---- declarators

module _ (s : Scene) (scene : IsScene s) where
  pub inner-shape : IsShape s scene (gives inner)
  inner-shape = record { fine = λ e c h. as-made s IsPlainShape ShapeThere e inner tt c h (λ w. tt) }

  pub pointed-shape : (p : Pointer) (d : Elab Shape) → built.of_pointer p ≡ None → IsShape s scene d → IsShape s scene (λ e. onward (d e) (pointed p))
  pointed-shape p d b k = record {
    fine = λ e c h. as-onward s IsPlainShape ShapeThere IsPlainShape ShapeThere e (d e) (pointed p) (k.fine e c h) (λ x e1 plain g c1 h1 f. by p b x e1 plain c1 h1 f);
  }
    where
      by : (p : Pointer) → built.of_pointer p ≡ None → (x : Shape) (e1 : Env) → IsPlainShape x → Classless e1 → When s e1 (Holds s e1) → When s e1 (ShapeThere x e1) → FineAs s IsPlainShape ShapeThere e1 (pointed p x e1)
      by (pointer.To at q) b x e1 plain c1 h1 f = as-made s IsPlainShape ShapeThere e1 (pointing at q x) plain c1 h1 f
      by (pointer.Reference at) b x e1 plain c1 h1 f = as-made s IsPlainShape ShapeThere e1 (referring at x) plain c1 h1 f
      by (pointer.ToMember at path q) b x e1 plain c1 h1 f = never_none at b

  pub function-shape : (at : ℕ) (d : Elab Shape) (ps : List (Elab Parameter)) (b : Bool) → IsShape s scene d → AreParameters s ps
      → IsShape s scene (λ e. onward (d e) (λ x f. onward (parameters ps f) (λ qs. gives (taking at qs b x))))
  function-shape at d ps b k parts = record {
    fine = λ e c h. as-onward s IsPlainShape ShapeThere IsPlainShape ShapeThere e (d e) _ (k.fine e c h)
        (λ x e1 plain g c1 h1 f. as-onward s NoDefaults ParametersThere IsPlainShape ShapeThere e1 (parameters ps e1) (λ qs. gives (taking at qs b x)) (parameters-fine s ps e1 parts c1 h1)
        (λ qs e2 ds g2 c2 h2 is. as-made s IsPlainShape ShapeThere e2 (taking at qs b x) (ds, plain) c2 h2 (λ w. (is w, shape-later e1 e2 x g2 (f (within-before e1 e2 s g2 w))))));
  }

  pub array-shape : (at : ℕ) (d : Elab Shape) (bound : Option Part) → IsShape s scene d → ((p : Part) → bound ≡ Some p → IsPart s p)
      → IsShape s scene (λ e. onward (d e) (λ x f. onward (maybe evaluated bound f) (λ b. gives (holding at b x))))
  array-shape at d bound k part = record { fine = λ e c h. as-onward s IsPlainShape ShapeThere IsPlainShape ShapeThere e (d e) _ (k.fine e c h) (λ x e1 plain g c1 h1 f. by bound part x e1 plain c1 h1 f) }
    where
      by : (o : Option Part) → ((p : Part) → o ≡ Some p → IsPart s p) → (x : Shape) (e1 : Env) → IsPlainShape x → Classless e1 → When s e1 (Holds s e1) → When s e1 (ShapeThere x e1)
          → FineAs s IsPlainShape ShapeThere e1 (onward (maybe evaluated o e1) (λ b. gives (holding at b x)))
      by None part x e1 plain c1 h1 f = as-made s IsPlainShape ShapeThere e1 (holding at None x) plain c1 h1 f
      by (Some p) part x e1 plain c1 h1 f =
          as-behind s Bound IsPlainShape ShapeThere e1 (onward (evaluated p e1) (λ y. gives (Some y))) (λ b. gives (holding at b x))
          (onward-fine s (IsOperand s) Bound e1 (evaluated p e1) (λ y. gives (Some y)) (evaluated-fine s scene p e1 (part p refl) c1 h1) (λ y e2 g c2 h2 fy. made-fine s Bound e2 (Some y) c2 h2 (λ w. tt)))
          (λ b e2 g2 c2 h2 u. as-made s IsPlainShape ShapeThere e2 (holding at b x) plain c2 h2 (λ w. shape-later e1 e2 x g2 (f (within-before e1 e2 s g2 w))))
        where
          Bound : Option Value → Env → Type 0
          Bound v e = Unit {0}

  -- ---- parameters and types in brackets

  abbrev array_pointer : ℕ → Sort → Elab ℕ
  array_pointer t (array_sort u n) = pointer_to u
  array_pointer t other = gives t

  as_object-fine : (x : Shaped) (e : Env) → Classless e → When s e (Holds s e) → When s e (ShapedThere s scene x e) → Fine s IsThere e (as_object x e)
  as_object-fine (unbounded t) e c h i = there-fine s (ty.Ptr t) e (pointer_to-fine s t e c h)
  as_object-fine (whole t) e c h i = by (sort_of e.types t)
    where
      pointer : (u : ℕ) → Fine s IsThere e (pointer_to u e)
      pointer u = there-fine s (ty.Ptr u) e (pointer_to-fine s u e c h)

      itself : Fine s IsThere e (Made t e)
      itself = made-fine s IsThere e t c h i

      by : (k : Sort) → Fine s IsThere e ((elim (is_function k) as (λ _. Elab ℕ) [ true ↦ pointer_to t | false ↦ array_pointer t k ]) e)
      by (array_sort u n) = pointer u
      by (function_sort f) = pointer t
      by (integral k) = itself
      by (enumeral k) = itself
      by (object_pointer u) = itself
      by void_pointer = itself
      by (function_pointer u) = itself
      by (data_pointer k u) = itself
      by (method_pointer k u) = itself
      by (class_sort k) = itself
      by void_sort = itself
      by (reference_sort u) = itself

  module _ (specifiers : List TypeSpecifier) (d : Elab Shape) (words_built : built.of_specifiers specifiers ≡ None) (k : IsShape s scene d) where
    -- the words and the declarator first
    described : {B : Type 0} (T : B → Type 0) (R : B → Env → Type 0) (conflict : Gathered → Option ℕ) (position : Position) (go : Gathered → Shape → Shaped → Env → Answer B) (e : Env) → Classless e → When s e (Holds s e)
        → ((g : Gathered) (x : Shape) (t : Shaped) (e1 : Env) → Classless e1 → When s e1 (Holds s e1) → When s e1 (ShapedThere s scene t e1) → FineAs s T R e1 (go g x t e1))
        → FineAs s T R e (onward (words_of specifiers e) (λ ws f. onward (d f) (λ x g. onward (none_at (conflict (gathered ws)) 24 g)
        (λ _ j. onward (base_type (gathered ws) j) (λ base l. onward (typed position x base l) (λ t m. onward (bounds_constant x m) (λ _. go (gathered ws) x t)))))))
    described T R conflict position go e c h next =
        as-behind s WordsFit T R e (words_of specifiers e) _ (words-fine s specifiers e words_built c h)
        (λ ws e1 g1 c1 h1 fw. as-onward s IsPlainShape ShapeThere T R e1 (d e1) _ (k.fine e1 c1 h1)
        (λ x e2 plain g2 c2 h2 f. still-as s T R e2 (none_at (conflict (gathered ws)) 24 e2)
        (λ j. onward (base_type (gathered ws) j) (λ base l. onward (typed position x base l) (λ t m. onward (bounds_constant x m) (λ _. go (gathered ws) x t)))) (none_still (conflict (gathered ws)) 24 e2)
        (typed_then s scene T R position x (gathered ws) (go (gathered ws) x) e2 plain c2 h2 f (λ w. gathered_named ws e2 (words-later e1 e2 ws g2 (fw (within-before e1 e2 s g2 w)))) (λ t e3 c3 h3 it. next (gathered ws) x t e3 c3 h3 it))))

    pub parameter-fine : (at : ℕ) (name : Option WrittenName) → IsParameter s (λ e. onward (words_of specifiers e) (λ ws f. onward (d f) (λ x g. onward (none_at (parameter_conflict (gathered ws)) 24 g)
        (λ _ j. onward (base_type (gathered ws) j) (λ base l. onward (typed (record { unbounded = true; const_function = false }) x base l) (λ t m. onward (bounds_constant x m)
        (λ _ n. onward (as_object t n) (λ u o. Made (record { at = at; name = name; type = u; default = None; is_stored = is_stored (gathered ws) }) o))))))))
    parameter-fine at name = record {
      fine = λ e c h. described (λ q. q.default ≡ None) (λ q f. Inside f q.type) parameter_conflict (record { unbounded = true; const_function = false })
          (λ k x t n. onward (as_object t n) (λ u o. Made (parameter_of k u) o)) e c h
          (λ k x t e1 c1 h1 it. as-behind s IsThere (λ q. q.default ≡ None) (λ q f. Inside f q.type) e1 (as_object t e1) (λ u o. Made (parameter_of k u) o) (as_object-fine t e1 c1 h1 it)
          (λ u e2 g c2 h2 iu. as-made s (λ q. q.default ≡ None) (λ q f. Inside f q.type) e2 (parameter_of k u) refl c2 h2 iu));
    }
      where
        parameter_of : Gathered → ℕ → Parameter
        parameter_of k u = record { at = at; name = name; type = u; default = None; is_stored = is_stored k }

    only-fine : (t : Shaped) (e : Env) → Classless e → When s e (Holds s e) → When s e (ShapedThere s scene t e) → FineAs s (λ _. Unit {0}) IsThere e (only_whole t e)
    only-fine (whole t) e c h i = as-made s (λ _. Unit {0}) IsThere e t tt c h i
    only-fine (unbounded t) e c h i = as-made s (λ _. Unit {0}) IsThere e t tt c h i

    pub type-fine : IsTypeId s (type_from specifiers d)
    type-fine = record {
      fine = λ e c h. as-fine s IsThere e (type_from specifiers d e) (described (λ _. Unit {0}) IsThere type_conflict nowhere (λ k x t. only_whole t) e c h (λ k x t e1 c1 h1 it. only-fine t e1 c1 h1 it));
    }
