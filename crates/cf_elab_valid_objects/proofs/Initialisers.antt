-- Initialisers leave the names, where what keeps a temporary does (8.4).
use Rattle.std.proofs.Common.{◌≡◌, ℕ, Bool, true, false, not, ◌&&◌, ◌||◌, is_some, if◌then◌else◌, List, [], ◌∷◌, reverse, Option, Some, None, IsTrue, slice_get, refl, sym, ap, subst, ◌∙◌, true≢false}
use Rattle.cf_types.specs.declared.ty.Ty.{Ty}
use Rattle.cf_types.specs.declared.ty.Ty.TheVariants as ty
use Rattle.cf_convert.specs.Constness.{type_at, bare, is_const}
use Rattle.cf_convert.specs.Converts.{binds}
use Rattle.cf_convert.specs.declared.conv.ConvStep.{ConvStep}
use Rattle.cf_core.specs.declared.node.Core.{Core as Node}
use Rattle.cf_core.specs.declared.node.Core.TheVariants as node
use Rattle.cf_classes.specs.TypeTree.{of_types, class_in}
use Rattle.cf_elab.specs.Answer.{Answer, Made, Refused, Passed, Elab, onward, need, gives}
use Rattle.cf_elab.specs.Construct.{default_step}
use Rattle.cf_elab.specs.Env.{Env}
use Rattle.cf_elab.specs.Expression.{literal}
use Rattle.cf_elab.specs.Fit.{converted}
use Rattle.cf_elab.specs.Initial as initial_row
use Rattle.cf_elab.specs.Initial.{Keeper, fixed_start, start_of}
use Rattle.cf_elab.specs.Lists.{Tree, leaf, text, branch, Plan, Plans, by_value, by_list, by_text, wrong, no_plans, plans, by_tree, carried_out, all_carried_out, start_by, planner}
use Rattle.cf_elab.specs.Members.{class_of_body}
use Rattle.cf_elab.specs.Objects as row
use Rattle.cf_elab.specs.Objects.{Written, equals, bracketed, is_array_ty}
use Rattle.cf_elab.specs.Operand.{Value, val, defs, value_of}
use Rattle.cf_elab.specs.UserFit as user
use Rattle.cf_elab_env.specs.Holds.{without_class}
use Rattle.cf_elab_valid.specs.Scene.{Classless}
use Rattle.cf_elab_valid.proofs.FitRows.{classless-type}
use Rattle.cf_elab_valid.proofs.Unary.{classless-number}
use Rattle.cf_elab_valid_objects.proofs.Written.{no-class-in}
use Rattle.cf_elab_valid_objects.specs.Quiet.{Quiet, QuietIn, LeavesNames, LeavesIn}
use Rattle.cf_elab_valid_objects.proofs.Conversions.{converted-quiet, fit-quiet, value_of-quiet}
use Rattle.cf_elab_valid_objects.proofs.Expressions.{literal-quiet}
use Rattle.cf_elab_valid_objects.proofs.Steps.{shown-behind}

-- ---- one after the other

quiet-leaves : (a b : Env) → Quiet a b → LeavesNames a b
quiet-leaves a b q =
    let hand = ap (λ (x : Env). x.hand) q.same in
    let statics = ap (λ (x : Env). x.statics) q.same in record {
      same = q.same ∙ (λ i. record a { types = b.types; hand = sym hand i; statics = sym statics i });
      kind = ap (λ (x : Env). x.hand.kind) q.same;
      no_type = q.no_type;
    }

pub leaves-quiet : {A : Type 0} (e : Env) (r : Answer A) → QuietIn e r → LeavesIn e r
leaves-quiet e (Made a f) q = quiet-leaves e f q
leaves-quiet e (Refused rule at) q = tt
leaves-quiet e (Passed bound most) q = tt

pub leaves-none : (e : Env) → Classless e → LeavesNames e e
leaves-none e c = record { same = refl; kind = refl; no_type = c.no_type }

pub leaves-through : (a b c : Env) → LeavesNames a b → LeavesNames b c → LeavesNames a c
leaves-through a b c p q = record {
  same = q.same ∙ ap (λ (x : Env). let y : Env = record x { types = c.types; hand = c.hand; statics = c.statics } in y) p.same;
  kind = q.kind ∙ p.kind;
  no_type = q.no_type;
}

pub leaves-classless : (a b : Env) → Classless a → LeavesNames a b → Classless b
leaves-classless a b c q = record {
  none = ap (λ (x : Env). x.classes.defined) q.same ∙ c.none;
  none_open = ap (λ (x : Env). x.open_classes) q.same ∙ c.none_open;
  no_body = ap class_of_body q.kind ∙ c.no_body;
  no_type = q.no_type;
  no_name = λ n k at. c.no_name n k (ap (λ (x : Env). slice_get x.entities n) (sym q.same) ∙ at);
  no_defaults = λ n f at. c.no_defaults n f (ap (λ (x : Env). slice_get x.entries n) (sym q.same) ∙ at);
}

pub leaves-onward : {A B : Type 0} (e : Env) (r : Answer A) (go : A → Env → Answer B) → Classless e → LeavesIn e r → ((a : A) (f : Env) → Classless f → LeavesIn f (go a f)) → LeavesIn e (onward r go)
leaves-onward {A} {B} e (Made a f) go c q next = further (go a f) (next a f (leaves-classless e f c q))
  where
    further : (r : Answer B) → LeavesIn f r → LeavesIn e r
    further (Made b g) k = leaves-through e f g q k
    further (Refused rule at) k = tt
    further (Passed bound most) k = tt
leaves-onward e (Refused rule at) go c q next = tt
leaves-onward e (Passed bound most) go c q next = tt

need-leaves : {B : Type 0} (e : Env) (b : Bool) (rule at : ℕ) (go : Env → Answer B) → LeavesIn e (go e) → LeavesIn e (onward (need b rule at e) (λ _. go))
need-leaves e true rule at go q = q
need-leaves e false rule at go q = tt

module _ (keeper : ℕ → Elab Keeper) (keeps : (u : ℕ) (e : Env) → Classless e → LeavesIn e (keeper u e)) where
  -- ---- by a value

  fitted-leaves : {A : Type 0} (at t : ℕ) (v : Value) (make : Value → A) (e : Env) → Classless e → LeavesIn e (onward (user.fit at v t e) (λ x f. Made (make x) f))
  fitted-leaves at t v make e c = leaves-onward e (user.fit at v t e) (λ x f. Made (make x) f) c (leaves-quiet e (user.fit at v t e) (fit-quiet at t v e c)) (λ x f cf. leaves-none f cf)

  bound-leaves : (at u : ℕ) (v : Value) (e : Env) → Classless e → LeavesIn e (initial_row.bound user.fit keeper at u v e)
  bound-leaves at u v e c = by (binds e.types (defs e) (val v) u)
    where
      by : (o : Option (List ConvStep)) → LeavesIn e (initial_row.bound_or user.fit keeper at u v o e)
      by (Some ss) = leaves-onward e (converted at u ss v e) _ c (leaves-quiet e (converted at u ss v e) (converted-quiet at u ss v e c)) (λ x f cf. leaves-none f cf)
      by None =
          need-leaves e (is_const e.types u) 29 at _
          (leaves-onward e (user.fit at v u e) _ c (leaves-quiet e (user.fit at v u e) (fit-quiet at u v e c))
          (λ x f cf. leaves-onward f (keeper u f) _ cf (keeps u f cf) (λ k g cg. leaves-none g cg)))

  pub value-leaves : (at t : ℕ) (v : Value) (e : Env) → Classless e → LeavesIn e (user.initial keeper at t v e)
  value-leaves at t v e c = by (type_at e.types (bare e.types t)) (classless-type e.types c.no_type (bare e.types t))
    where
      scalar : LeavesIn e (onward (user.fit at v (bare e.types t) e) (λ x f. Made (start_of x) f))
      scalar = fitted-leaves at (bare e.types t) v start_of e c

      by : (x : Ty) → IsTrue (without_class x) → LeavesIn e (initial_row.taken user.fit keeper at (bare e.types t) v x e)
      by (ty.Ref u) p = bound-leaves at u v e c
      by (ty.Class k) p = absurd (true≢false (sym p))
      by ty.Void p = scalar
      by (ty.Int k) p = scalar
      by (ty.Enum k) p = scalar
      by (ty.Ptr k) p = scalar
      by (ty.Array k n) p = scalar
      by (ty.Fun k) p = scalar
      by (ty.MemData k n) p = scalar
      by (ty.MemFun k n) p = scalar
      by (ty.Const k) p = scalar

  -- ---- by a list

  tree-leaves : (at t : ℕ) (x : Tree) (e : Env) → Classless e → LeavesIn e (by_tree keeper at t x e)
  tree-leaves at t (leaf p v) e c = value-leaves at t v e c
  tree-leaves at t (text p n bytes) e c =
      leaves-onward e (onward (literal n bytes e) value_of) (user.initial keeper at t) c
      (leaves-quiet e (onward (literal n bytes e) value_of) (shown-behind e (literal n bytes e) value_of c (literal-quiet n bytes e c) (λ o f shown cf. value_of-quiet o f shown cf)))
      (λ v f cf. value-leaves at t v f cf)
  tree-leaves at t (branch p ts) e c = tt

  mutual
    carried-leaves : (p : Plan) (e : Env) → Classless e → LeavesIn e (carried_out keeper p e)
    carried-leaves (by_value at t x) e c = tree-leaves at t x e c
    carried-leaves (by_list at ps) e c = leaves-onward e (all_carried_out keeper ps e) _ c (all-leaves ps e c) (λ r f cf. leaves-none f cf)
    carried-leaves (by_text at bytes) e c = leaves-none e c
    carried-leaves (wrong rule at) e c = tt

    all-leaves : (ps : Plans) (e : Env) → Classless e → LeavesIn e (all_carried_out keeper ps e)
    all-leaves no_plans e c = leaves-none e c
    all-leaves (plans p ps) e c =
        leaves-onward e (carried_out keeper p e) _ c (carried-leaves p e c) (λ x f cf. leaves-onward f (all_carried_out keeper ps f) _ cf (all-leaves ps f cf) (λ r g cg. leaves-none g cg))

  start-leaves : (at t : ℕ) (x : Tree) (e : Env) → Classless e → LeavesIn e (start_by keeper at t x e)
  start-leaves at t x e c = carried-leaves ((planner e.types t).by_one at x) e c

  -- ---- as it is written

  other-leaves : (t : ℕ) (w : Written) (e : Env) → Classless e → LeavesIn e (row.other_initialised keeper t w e)
  other-leaves t (equals at x) e c = start-leaves at t x e c
  other-leaves t (bracketed at []) e c = need-leaves e (not (is_array_ty (type_at e.types t))) 28 at _ tt
  other-leaves t (bracketed at (x ∷ y ∷ ys)) e c = need-leaves e (not (is_array_ty (type_at e.types t))) 28 at _ tt
  other-leaves t (bracketed at (x ∷ [])) e c = need-leaves e (not (is_array_ty (type_at e.types t))) 28 at _ (start-leaves at t x e c)

  default-leaves : (at t : ℕ) (e : Env) → Classless e → LeavesIn e (row.default_object at t e)
  default-leaves at t e c =
      subst (λ (o : Option ℕ). let run : Elab Node = if is_some o then of_types (gives (node.Blank at)) (default_step at) (reverse e.types.types) t else gives (node.Blank at) in
      LeavesIn e (onward (run e) (λ n f. Made (fixed_start n (row.is_plain_class f (class_in f.types t))) f))) (sym (no-class-in e c t)) (leaves-none e c)

  pub written-leaves : (at t : ℕ) (w : Option Written) (e : Env) → Classless e → LeavesIn e (row.start_or_none keeper at t w e)
  written-leaves at t (Some w) e c = subst (λ o. LeavesIn e (row.by_class keeper t w o e)) (sym (classless-number e c t)) (other-leaves t w e c)
  written-leaves at t None e c = need-leaves e (is_some (class_in e.types t) || not (row.needs_initialiser e t)) 28 at (row.default_object at t) (default-leaves at t e c)
