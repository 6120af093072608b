-- Declarators, parameters and types in brackets (8.1, 8.2).
use Rattle.std.proofs.Common.{◌≡◌, ℕ, Bool, true, false, not, ◌&&◌, ◌||◌, if◌then◌else◌, List, [], ◌∷◌, is_some, Option, Some, None, refl}
use Rattle.cf_types.specs.declared.ty.Ty.{Ty}
use Rattle.cf_types.specs.declared.ty.Ty.TheVariants as ty
use Rattle.cf_convert.specs.Constness.{type_at}
use Rattle.cf_syntax.specs.declared.name.Name.{Name as WrittenName}
use Rattle.cf_syntax.specs.declared.specifier.Pointer.{Pointer}
use Rattle.cf_syntax.specs.declared.specifier.Pointer.TheVariants as pointer
use Rattle.cf_syntax.specs.declared.specifier.TypeSpecifier.{TypeSpecifier}
use Rattle.cf_elab.specs.Answer.{Answer, Made, Refused, Passed, Elab, onward, need, none_at, gives, each, maybe}
use Rattle.cf_elab.specs.Built as built
use Rattle.cf_elab.specs.Declarator.{pointed, is_nothing, named_at, no_void, object_parameter, only_parameter, parameters, as_object, only_whole, type_from, words_of}
use Rattle.cf_elab.specs.Env.{Env}
use Rattle.cf_elab.specs.Made.{pointer_to, reference_to, array_of, const_if, parameter_step, function_type}
use Rattle.cf_elab.specs.Operand.{Part, evaluated, Sort, integral, enumeral, object_pointer, void_pointer, function_pointer, data_pointer, method_pointer, class_sort, array_sort, function_sort, void_sort, reference_sort, sort_of, is_array, is_function, is_void, is_reference}
use Rattle.cf_elab.specs.Shape.{Parameter, Shape, inner, pointing, referring, to_member, taking, holding, is_inner, Position, nowhere, Shaped, whole, unbounded, fine_bound, count_of, parameter_type, typed, bounds_constant}
use Rattle.cf_elab.specs.Specifiers.{Gathered, gathered, base_type, is_stored, parameter_conflict, type_conflict}
use Rattle.cf_elab_valid.specs.Scene.{Classless}
use Rattle.cf_elab_valid.proofs.FitRows.{Still, needed, still-onward}
use Rattle.cf_elab_valid.proofs.Options.{never_none}
use Rattle.cf_elab_valid.proofs.Shapes.{none_still}
use Rattle.cf_elab_valid_objects.specs.Quiet.{Quiet, QuietIn, IsQuietPart}
use Rattle.cf_elab_valid_objects.proofs.Consts.{const_if-quiet}
use Rattle.cf_elab_valid_objects.proofs.Conversions.{evaluated-quiet}
use Rattle.cf_elab_valid_objects.proofs.Names.{words-quiet, base-quiet}
use Rattle.cf_elab_valid_objects.proofs.Steps.{quiet-none, quiet-through, quiet-classless, quiet-before, quiet-onward, still-quiet, need-quiet, if-quiet, each-quiet, intern-quiet, pointer_to-quiet, function_type-quiet}

-- no pointer to a member of a class
abbrev pub IsPlain : Shape → Type 0
IsPlain inner = Unit {0}
IsPlain (pointing at c x) = IsPlain x
IsPlain (referring at x) = IsPlain x
IsPlain (to_member at c k x) = ⊥
IsPlain (taking at ps c x) = IsPlain x
IsPlain (holding at b x) = IsPlain x

abbrev pub QuietShape : Env → Answer Shape → Type 0
QuietShape e (Made x f) = Quiet e f × IsPlain x
QuietShape e (Refused rule at) = Unit {0}
QuietShape e (Passed bound most) = Unit {0}

pub record IsQuietShape (run : Elab Shape) : Type 0 where
  pub fine : (e : Env) → Classless e → QuietShape e (run e)

shape-then : {B : Type 0} (e : Env) (r : Answer Shape) (go : Shape → Env → Answer B) → Classless e → QuietShape e r → ((x : Shape) (f : Env) → IsPlain x → Classless f → QuietIn f (go x f)) → QuietIn e (onward r go)
shape-then e (Made x f) go c q next = quiet-before e f (go x f) q.0 (next x f q.1 (quiet-classless e f c q.0))
shape-then e (Refused rule at) go c q next = tt
shape-then e (Passed bound most) go c q next = tt

shape-onward : (e : Env) (r : Answer Shape) (go : Shape → Env → Answer Shape) → Classless e → QuietShape e r → ((x : Shape) (f : Env) → IsPlain x → Classless f → QuietShape f (go x f)) → QuietShape e (onward r go)
shape-onward e (Made x f) go c q next = further (go x f) (next x f q.1 (quiet-classless e f c q.0))
  where
    further : (r : Answer Shape) → QuietShape f r → QuietShape e r
    further (Made y g) k = (quiet-through e f g q.0 k.0, k.1)
    further (Refused rule at) k = tt
    further (Passed bound most) k = tt
shape-onward e (Refused rule at) go c q next = tt
shape-onward e (Passed bound most) go c q next = tt

-- a shape of something else
shape-made : {A : Type 0} (e : Env) (r : Answer A) (make : A → Shape) → QuietIn e r → ((a : A) → IsPlain (make a)) → QuietShape e (onward r (λ a f. Made (make a) f))
shape-made e (Made a f) make q p = (q, p a)
shape-made e (Refused rule at) make q p = tt
shape-made e (Passed bound most) make q p = tt

-- ---- the type of a declarator

parameter_type-quiet : (t : ℕ) (e : Env) → Classless e → QuietIn e (parameter_type t e)
parameter_type-quiet t e c = by (type_at e.types t)
  where
    by : (x : Ty) → QuietIn e (parameter_step t x e)
    by (ty.Array u n) = pointer_to-quiet u e c
    by (ty.Fun f) = pointer_to-quiet t e c
    by (ty.Const u) = quiet-none e c
    by ty.Void = quiet-none e c
    by (ty.Int k) = quiet-none e c
    by (ty.Enum k) = quiet-none e c
    by (ty.Class k) = quiet-none e c
    by (ty.Ptr k) = quiet-none e c
    by (ty.Ref k) = quiet-none e c
    by (ty.MemData k n) = quiet-none e c
    by (ty.MemFun k n) = quiet-none e c

pub typed-quiet : (position : Position) (x : Shape) (t : ℕ) (e : Env) → IsPlain x → Classless e → QuietIn e (typed position x t e)
typed-quiet position inner t e p c = quiet-none e c
typed-quiet position (pointing at b x) t e p c =
    need-quiet e (not (is_reference (sort_of e.types t))) 26 at _
    (quiet-onward e (pointer_to t e) (λ u f. onward (const_if b u f) (λ q. typed position x q)) c (pointer_to-quiet t e c) (λ u f cf. quiet-onward f (const_if b u f) (λ q. typed position x q) cf (const_if-quiet b u f cf) (λ q g cg. typed-quiet position x q g p cg)))
typed-quiet position (referring at x) t e p c =
    need-quiet e (not (is_reference (sort_of e.types t) || is_void (sort_of e.types t))) 26 at _
    (quiet-onward e (reference_to t e) (λ r. typed position x r) c (intern-quiet (ty.Ref t) e refl c) (λ r f cf. typed-quiet position x r f p cf))
typed-quiet position (to_member at k b x) t e p c = absurd p
typed-quiet position (taking at ps b x) t e p c =
    need-quiet e (not (is_array (sort_of e.types t) || is_function (sort_of e.types t))) 26 at _
    (need-quiet e (not b || (is_inner x && position.const_function)) 26 at _
    (quiet-onward e (each (λ (q : Parameter). parameter_type q.type) ps e) _ c (each-quiet (λ (q : Parameter). parameter_type q.type) (λ q f cf. parameter_type-quiet q.type f cf) ps e c)
    (λ qs f cf. quiet-onward f (function_type t qs b f) (λ u. typed position x u) cf (function_type-quiet t qs b f cf) (λ u g cg. typed-quiet position x u g p cg))))
typed-quiet position (holding at (Some b) x) t e p c =
    need-quiet e (not (is_reference (sort_of e.types t) || is_void (sort_of e.types t) || is_function (sort_of e.types t))) 26 at _
    (need-quiet e (fine_bound b.number) 26 at _
    (quiet-onward e (array_of t (count_of b.number) e) (λ u. typed position x u) c (intern-quiet (ty.Array t (count_of b.number)) e refl c) (λ u f cf. typed-quiet position x u f p cf)))
typed-quiet position (holding at None x) t e p c =
    need-quiet e (not (is_reference (sort_of e.types t) || is_void (sort_of e.types t) || is_function (sort_of e.types t))) 26 at _ (need-quiet e (is_inner x && position.unbounded) 26 at _ (quiet-none e c))

pub bounds-still : (x : Shape) (e : Env) → Still e (bounds_constant x e)
bounds-still inner e = refl
bounds-still (pointing at b x) e = bounds-still x e
bounds-still (referring at x) e = bounds-still x e
bounds-still (to_member at k b x) e = bounds-still x e
bounds-still (taking at ps b x) e = bounds-still x e
bounds-still (holding at None x) e = bounds-still x e
bounds-still (holding at (Some b) x) e = still-onward e (bounds_constant x e) (λ _. need (is_some b.number) 19 at) (bounds-still x e) (λ _. needed e (is_some b.number) 19 at)

-- ---- declarators

pub inner-quiet : IsQuietShape (gives inner)
inner-quiet = record { fine = λ e c. (quiet-none e c, tt) }

pub pointed-quiet : (p : Pointer) (d : Elab Shape) → built.of_pointer p ≡ None → IsQuietShape d → IsQuietShape (λ e. onward (d e) (pointed p))
pointed-quiet p d b k = record { fine = λ e c. shape-onward e (d e) (pointed p) c (k.fine e c) (λ x f plain cf. by p b x f plain cf) }
  where
    by : (p : Pointer) → built.of_pointer p ≡ None → (x : Shape) (f : Env) → IsPlain x → Classless f → QuietShape f (pointed p x f)
    by (pointer.To at q) b x f plain cf = (quiet-none f cf, plain)
    by (pointer.Reference at) b x f plain cf = (quiet-none f cf, plain)
    by (pointer.ToMember at path q) b x f plain cf = never_none at b

-- a parameter, and several
pub record IsQuiet {A : Type 0} (run : Elab A) : Type 0 where
  pub fine : (e : Env) → Classless e → QuietIn e (run e)

abbrev pub AreQuiet : List (Elab Parameter) → Type 0
AreQuiet [] = Unit {0}
AreQuiet (p ∷ ps) = IsQuiet p × AreQuiet ps

object-quiet : (p : Elab Parameter) (e : Env) → IsQuiet p → Classless e → QuietIn e (object_parameter p e)
object-quiet p e k c = quiet-onward e (p e) _ c (k.fine e c) (λ q f cf. need-quiet f (not (is_void (sort_of f.types q.type))) 26 (named_at q) _ (quiet-none f cf))

objects-quiet : (ps : List (Elab Parameter)) (e : Env) → AreQuiet ps → Classless e → QuietIn e (each object_parameter ps e)
objects-quiet [] e k c = quiet-none e c
objects-quiet (p ∷ ps) e k c =
    quiet-onward e (object_parameter p e) _ c (object-quiet p e k.0 c)
    (λ q f cf. quiet-onward f (each object_parameter ps f) (λ qs. gives (q ∷ qs)) cf (objects-quiet ps f k.1 cf) (λ qs g cg. quiet-none g cg))

alone-quiet : (p : Parameter) (e : Env) → Classless e → QuietIn e (only_parameter p e)
alone-quiet p e c =
    if-quiet e (is_nothing e p) (gives []) (λ f. onward (no_void p f) (λ _. gives (p ∷ []))) (quiet-none e c) (need-quiet e (not (is_void (sort_of e.types p.type))) 26 (named_at p) _ (quiet-none e c))

parameters-quiet : (ps : List (Elab Parameter)) (e : Env) → AreQuiet ps → Classless e → QuietIn e (parameters ps e)
parameters-quiet [] e k c = objects-quiet [] e k c
parameters-quiet (p ∷ q ∷ ps) e k c = objects-quiet (p ∷ q ∷ ps) e k c
parameters-quiet (p ∷ []) e k c = quiet-onward e (p e) only_parameter c (k.0.fine e c) (λ q f cf. alone-quiet q f cf)

pub function-quiet : (at : ℕ) (d : Elab Shape) (ps : List (Elab Parameter)) (b : Bool) → IsQuietShape d → AreQuiet ps
    → IsQuietShape (λ e. onward (d e) (λ x f. onward (parameters ps f) (λ qs. gives (taking at qs b x))))
function-quiet at d ps b k parts = record {
  fine = λ e c. shape-onward e (d e) _ c (k.fine e c)
      (λ x f plain cf. shape-made f (parameters ps f) (λ qs. taking at qs b x) (parameters-quiet ps f parts cf) (λ qs. plain));
}

pub array-quiet : (at : ℕ) (d : Elab Shape) (bound : Option Part) → IsQuietShape d → ((p : Part) → bound ≡ Some p → IsQuietPart p)
    → IsQuietShape (λ e. onward (d e) (λ x f. onward (maybe evaluated bound f) (λ b. gives (holding at b x))))
array-quiet at d bound k part = record { fine = λ e c. shape-onward e (d e) _ c (k.fine e c) (λ x f plain cf. shape-made f (maybe evaluated bound f) (λ b. holding at b x) (by bound part f cf) (λ b. plain)) }
  where
    by : (o : Option Part) → ((p : Part) → o ≡ Some p → IsQuietPart p) → (f : Env) → Classless f → QuietIn f (maybe evaluated o f)
    by None part f cf = quiet-none f cf
    by (Some p) part f cf = quiet-onward f (evaluated p f) (λ y. gives (Some y)) cf (evaluated-quiet p f (part p refl) cf) (λ y g cg. quiet-none g cg)

-- ---- parameters and types in brackets

abbrev array_pointer : ℕ → Sort → Elab ℕ
array_pointer t (array_sort u n) = pointer_to u
array_pointer t other = gives t

as_object-quiet : (x : Shaped) (e : Env) → Classless e → QuietIn e (as_object x e)
as_object-quiet (unbounded t) e c = pointer_to-quiet t e c
as_object-quiet (whole t) e c = by (sort_of e.types t)
  where
    by : (k : Sort) → QuietIn e ((elim (is_function k) as (λ _. Elab ℕ) [ true ↦ pointer_to t | false ↦ array_pointer t k ]) e)
    by (array_sort u n) = pointer_to-quiet u e c
    by (function_sort f) = pointer_to-quiet t e c
    by (integral k) = quiet-none e c
    by (enumeral k) = quiet-none e c
    by (object_pointer u) = quiet-none e c
    by void_pointer = quiet-none e c
    by (function_pointer u) = quiet-none e c
    by (data_pointer k u) = quiet-none e c
    by (method_pointer k u) = quiet-none e c
    by (class_sort k) = quiet-none e c
    by void_sort = quiet-none e c
    by (reference_sort u) = quiet-none e c

module _ (specifiers : List TypeSpecifier) (d : Elab Shape) (words_built : built.of_specifiers specifiers ≡ None) (k : IsQuietShape d) where
  -- the words and the declarator first
  described : {B : Type 0} (conflict : Gathered → Option ℕ) (position : Position) (go : Gathered → Shape → Shaped → Env → Answer B) (e : Env) → Classless e
      → ((k : Gathered) (x : Shape) (t : Shaped) (f : Env) → Classless f → QuietIn f (go k x t f))
      → QuietIn e (onward (words_of specifiers e) (λ ws f. onward (d f) (λ x g. onward (none_at (conflict (gathered ws)) 24 g)
      (λ _ j. onward (base_type (gathered ws) j) (λ base l. onward (typed position x base l) (λ t m. onward (bounds_constant x m) (λ _. go (gathered ws) x t)))))))
  described conflict position go e c next =
      quiet-onward e (words_of specifiers e) _ c (words-quiet specifiers e words_built c)
      (λ ws f cf. shape-then f (d f) _ cf (k.fine f cf)
      (λ x g plain cg. still-quiet g (none_at (conflict (gathered ws)) 24 g) (λ j. onward (base_type (gathered ws) j) (λ base l. onward (typed position x base l) (λ t m. onward (bounds_constant x m) (λ _. go (gathered ws) x t)))) (none_still (conflict (gathered ws)) 24 g)
      (quiet-onward g (base_type (gathered ws) g) _ cg (base-quiet (gathered ws) g cg)
      (λ base h ch. quiet-onward h (typed position x base h) _ ch (typed-quiet position x base h plain ch)
      (λ t i ci. still-quiet i (bounds_constant x i) (go (gathered ws) x t) (bounds-still x i) (next (gathered ws) x t i ci))))))

  pub parameter-quiet : (at : ℕ) (name : Option WrittenName) → IsQuiet (λ e. onward (words_of specifiers e) (λ ws f. onward (d f) (λ x g. onward (none_at (parameter_conflict (gathered ws)) 24 g)
      (λ _ j. onward (base_type (gathered ws) j) (λ base l. onward (typed (record { unbounded = true; const_function = false }) x base l) (λ t m. onward (bounds_constant x m)
      (λ _ n. onward (as_object t n) (λ u o. let q : Parameter = record { at = at; name = name; type = u; default = None; is_stored = is_stored (gathered ws) } in Made q o))))))))
  parameter-quiet at name = record {
    fine = λ e c. described parameter_conflict (record { unbounded = true; const_function = false })
        (λ k x t n. onward (as_object t n) (λ u o. let q : Parameter = record { at = at; name = name; type = u; default = None; is_stored = is_stored k } in Made q o)) e c
        (λ k x t f cf. quiet-onward f (as_object t f) _ cf (as_object-quiet t f cf) (λ u g cg. quiet-none g cg));
  }

  only-quiet : (t : Shaped) (e : Env) → Classless e → QuietIn e (only_whole t e)
  only-quiet (whole t) e c = quiet-none e c
  only-quiet (unbounded t) e c = quiet-none e c

  pub type-quiet : IsQuiet (type_from specifiers d)
  type-quiet = record { fine = λ e c. described type_conflict nowhere (λ k x t. only_whole t) e c (λ k x t f cf. only-quiet t f cf) }
