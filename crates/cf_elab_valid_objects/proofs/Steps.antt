-- Answers that leave everything but types and literals: one after the other, and the types that they make.
use Rattle.std.proofs.Common.{◌≡◌, ℕ, Bool, true, false, List, [], ◌∷◌, ◌++◌, Option, Some, None, All, IsTrue, slice_get, if◌then◌else◌, refl, sym, ap, subst, ◌∙◌, arith}
use Rattle.std.proofs.lemmas.List.Elements.{All-append, All-cons}
use Rattle.cf_base.specs.declared.kind.Kind.{Kind}
use Rattle.cf_types.specs.declared.ty.Fun.{Fun}
use Rattle.cf_types.specs.declared.ty.Ty.{Ty}
use Rattle.cf_types.specs.declared.ty.Ty.TheVariants as ty
use Rattle.cf_elab.specs.Answer.{Answer, Made, Refused, Passed, Elab, onward, need, each, all}
use Rattle.cf_elab.specs.Env.{Env}
use Rattle.cf_elab.specs.Made.{same_ty, same_fun, place_in, entered_type, entered_fun, intern, intern_fun, of_kind, pointer_to, function_type}
use Rattle.cf_elab.specs.Members.{class_of_body}
use Rattle.cf_elab.specs.Operand.{Operand, Value, value}
use Rattle.cf_elab_env.specs.Holds.{without_class}
use Rattle.cf_elab_valid.specs.Scene.{Classless, IsShown}
use Rattle.cf_elab_valid.proofs.FitRows.{Still}
use Rattle.cf_elab_valid_objects.specs.Quiet.{Quiet, QuietIn, QuietOperand}

-- ---- one after the other

pub quiet-none : (e : Env) → Classless e → Quiet e e
quiet-none e c = record { same = refl; no_type = c.no_type }

pub quiet-through : (a b c : Env) → Quiet a b → Quiet b c → Quiet a c
quiet-through a b c p q = record { same = q.same ∙ ap (λ (x : Env). let y : Env = record x { types = c.types; hand = record x.hand { literals = c.hand.literals } } in y) p.same; no_type = q.no_type }

pub quiet-classless : (a b : Env) → Classless a → Quiet a b → Classless b
quiet-classless a b c q = record {
  none = ap (λ (x : Env). x.classes.defined) q.same ∙ c.none;
  none_open = ap (λ (x : Env). x.open_classes) q.same ∙ c.none_open;
  no_body = ap (λ (x : Env). class_of_body x.hand.kind) q.same ∙ c.no_body;
  no_type = q.no_type;
  no_name = λ n k at. c.no_name n k (ap (λ (x : Env). slice_get x.entities n) (sym q.same) ∙ at);
  no_defaults = λ n f at. c.no_defaults n f (ap (λ (x : Env). slice_get x.entries n) (sym q.same) ∙ at);
}

pub quiet-before : {A : Type 0} (e f : Env) (r : Answer A) → Quiet e f → QuietIn f r → QuietIn e r
quiet-before e f (Made a g) p q = quiet-through e f g p q
quiet-before e f (Refused rule at) p q = tt
quiet-before e f (Passed bound most) p q = tt

pub quiet-onward : {A B : Type 0} (e : Env) (r : Answer A) (go : A → Env → Answer B) → Classless e → QuietIn e r → ((a : A) (f : Env) → Classless f → QuietIn f (go a f)) → QuietIn e (onward r go)
quiet-onward e (Made a f) go c q next = quiet-before e f (go a f) q (next a f (quiet-classless e f c q))
quiet-onward e (Refused rule at) go c q next = tt
quiet-onward e (Passed bound most) go c q next = tt

-- behind a check
pub still-quiet : {A B : Type 0} (e : Env) (r : Answer A) (go : Env → Answer B) → Still e r → QuietIn e (go e) → QuietIn e (onward r (λ _. go))
still-quiet e (Made a f) go h q = subst (λ x. QuietIn e (go x)) (sym h) q
still-quiet e (Refused rule at) go h q = tt
still-quiet e (Passed bound most) go h q = tt

pub need-quiet : {B : Type 0} (e : Env) (b : Bool) (rule at : ℕ) (go : Env → Answer B) → QuietIn e (go e) → QuietIn e (onward (need b rule at e) (λ _. go))
need-quiet e true rule at go q = q
need-quiet e false rule at go q = tt

pub if-quiet : {A : Type 0} (e : Env) (b : Bool) (x y : Elab A) → QuietIn e (x e) → QuietIn e (y e) → QuietIn e (let run : Elab A = if b then x else y in run e)
if-quiet e true x y p q = p
if-quiet e false x y p q = q

pub each-quiet : {A B : Type 0} (f : A → Elab B) → ((a : A) (e : Env) → Classless e → QuietIn e (f a e)) → (xs : List A) (e : Env) → Classless e → QuietIn e (each f xs e)
each-quiet f k [] e c = quiet-none e c
each-quiet f k (x ∷ xs) e c =
    quiet-onward e (f x e) (λ y. λ g. onward (each f xs g) (λ ys h. Made (y ∷ ys) h)) c (k x e c)
    (λ y g cg. quiet-onward g (each f xs g) (λ ys h. Made (y ∷ ys) h) cg (each-quiet f k xs g cg) (λ ys h ch. quiet-none h ch))

-- ---- operands

pub shown-before : (e f : Env) (r : Answer Operand) → Quiet e f → QuietOperand f r → QuietOperand e r
shown-before e f (Made o g) p q = (quiet-through e f g p q.0, q.1)
shown-before e f (Refused rule at) p q = tt
shown-before e f (Passed bound most) p q = tt

-- to an operand from anything, and from an operand
pub shown-onward : {A : Type 0} (e : Env) (r : Answer A) (go : A → Env → Answer Operand) → Classless e → QuietIn e r → ((a : A) (f : Env) → Classless f → QuietOperand f (go a f)) → QuietOperand e (onward r go)
shown-onward e (Made a f) go c q next = shown-before e f (go a f) q (next a f (quiet-classless e f c q))
shown-onward e (Refused rule at) go c q next = tt
shown-onward e (Passed bound most) go c q next = tt

pub shown-then : (e : Env) (r : Answer Operand) (go : Operand → Env → Answer Operand) → Classless e → QuietOperand e r → ((o : Operand) (f : Env) → IsShown o → Classless f → QuietOperand f (go o f)) → QuietOperand e (onward r go)
shown-then e (Made o f) go c q next = shown-before e f (go o f) q.0 (next o f q.1 (quiet-classless e f c q.0))
shown-then e (Refused rule at) go c q next = tt
shown-then e (Passed bound most) go c q next = tt

pub shown-behind : {B : Type 0} (e : Env) (r : Answer Operand) (go : Operand → Env → Answer B) → Classless e → QuietOperand e r → ((o : Operand) (f : Env) → IsShown o → Classless f → QuietIn f (go o f)) → QuietIn e (onward r go)
shown-behind e (Made o f) go c q next = quiet-before e f (go o f) q.0 (next o f q.1 (quiet-classless e f c q.0))
shown-behind e (Refused rule at) go c q next = tt
shown-behind e (Passed bound most) go c q next = tt

pub one-quiet : (e : Env) (r : Answer Value) → QuietIn e r → QuietOperand e (onward r (λ v g. Made (value v) g))
one-quiet e (Made v f) q = (q, tt)
one-quiet e (Refused rule at) q = tt
one-quiet e (Passed bound most) q = tt

-- ---- types

more_plain : (types : List Ty) (t : Ty) → All (λ v. IsTrue (without_class v)) types → IsTrue (without_class t) → All (λ v. IsTrue (without_class v)) (types ++ t ∷ [])
more_plain types t all h = All-append (λ v. IsTrue (without_class v)) types (t ∷ []) all (All-cons (λ v. IsTrue (without_class v)) t [] h (λ i d w. absurd (omega arith)))

pub intern-quiet : (t : Ty) (e : Env) → IsTrue (without_class t) → Classless e → QuietIn e (intern t e)
intern-quiet t e plain c = by (place_in (same_ty t) 0 e.types.types)
  where
    by : (o : Option ℕ) → QuietIn e (Made (entered_type e.types t o).0 (record e { types = (entered_type e.types t o).1 }))
    by (Some n) = quiet-none e c
    by None = record { same = refl; no_type = more_plain e.types.types t c.no_type plain }

pub intern_fun-quiet : (g : Fun) (e : Env) → Classless e → QuietIn e (intern_fun g e)
intern_fun-quiet g e c = by (place_in (same_fun g) 0 e.types.funs)
  where
    by : (o : Option ℕ) → QuietIn e (Made (entered_fun e.types g o).0 (record e { types = (entered_fun e.types g o).1 }))
    by (Some n) = quiet-none e c
    by None = record { same = refl; no_type = c.no_type }

pub of_kind-quiet : (k : Kind) (e : Env) → Classless e → QuietIn e (of_kind k e)
of_kind-quiet k e c = intern-quiet (ty.Int k) e refl c

pub pointer_to-quiet : (t : ℕ) (e : Env) → Classless e → QuietIn e (pointer_to t e)
pointer_to-quiet t e c = intern-quiet (ty.Ptr t) e refl c

pub function_type-quiet : (r : ℕ) (ps : List ℕ) (b : Bool) (e : Env) → Classless e → QuietIn e (function_type r ps b e)
function_type-quiet r ps b e c =
    quiet-onward e (intern_fun (record { result = r; params = ps; is_const = b }) e) (λ f. intern (ty.Fun f)) c (intern_fun-quiet (record { result = r; params = ps; is_const = b }) e c) (λ f g cg. intern-quiet (ty.Fun f) g refl cg)

-- the type with a place in its function at hand, counted
pub counted-quiet : (n : ℕ) (e : Env) → Classless e → Quiet e (record e { hand = record e.hand { literals = n } })
counted-quiet n e c = record { same = refl; no_type = c.no_type }
