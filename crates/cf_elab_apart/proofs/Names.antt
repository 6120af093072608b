-- Names, constants and literals, and the value of an operand (3.7, 5.1, 2.5.4).
use Rattle.std.proofs.Common.{◌≡◌, ℕ, ◌+◌, true, false, not, if◌then◌else◌, List, [], ◌∷◌, ◌++◌, length, ℤ, pos, Option, Some, None, slice_get, refl, sym, subst, true≢false}
use Rattle.cf_base.specs.declared.kind.Kind.{Kind}
use Rattle.cf_base.specs.declared.kind.Kind.TheVariants as kind
use Rattle.cf_types.specs.declared.ty.Ty.{Ty}
use Rattle.cf_types.specs.declared.ty.Ty.TheVariants as ty
use Rattle.cf_convert.specs.Constness.{type_at}
use Rattle.cf_lookup.specs.Scope.{found}
use Rattle.cf_core.specs.declared.node.Core.TheVariants as node
use Rattle.cf_elab.specs.Answer.{Answer, Made, Refused, Passed, Elab, onward, need}
use Rattle.cf_elab.specs.Env.{Env, Name, Object, Home, local_home, static_home, Entity, object, functions, alias, class_name, enum_name, enumerator, FunctionEntry}
use Rattle.cf_elab.specs.Expression as expression
use Rattle.cf_elab.specs.Made.{of_kind, array_of}
use Rattle.cf_elab.specs.Names.{home_node, object_value, enumerator_value, some_main, operand_of, entity_of}
use Rattle.cf_elab.specs.Operand.{Value, Operand, value, functions as named_functions, methods, field_name, bound_method, result_step, constant, place_of, function_value, one_function, value_of}
use Rattle.cf_elab.specs.Paths.{found_alone, operand_found}
use Rattle.cf_elab_env.proofs.Finding.{found-alone}
use Rattle.cf_elab_valid.specs.Answers.{Fine, FineOperand}
use Rattle.cf_elab_valid.specs.Scene.{Scene, IsScene, Steps, Classless, Holds, OperandFits, IsShown}
use Rattle.cf_elab_valid.proofs.Arithmetic.{IsOperand}
use Rattle.cf_elab_valid.proofs.Names.{value_of-fine}
use Rattle.cf_elab_valid.proofs.Ways.{When}
use Rattle.cf_elab_apart.specs.Apart.{Apart, OperandApart}
use Rattle.cf_elab_apart.proofs.Alike.{alike-Number, alike-Text, alike-Static, alike-Function}
use Rattle.cf_elab_apart.proofs.Answers.{Known, known-onward, Tells, tells-known, fine-both, fine-tells}
use Rattle.cf_elab_apart.proofs.Fit.{Both}
use Rattle.cf_elab_apart.proofs.Settled.{bare-apart, alike-apart}

-- one value, as an operand
pub one-tells : (s : Scene) (run : Elab Value) (e : Env) → Tells s (Apart s) (run e) → Tells s (OperandApart s) (expression.one run e)
one-tells s run e k = by (run e) k
  where
    by : (r : Answer Value) → Tells s (Apart s) r → Tells s (OperandApart s) (onward r (λ v g. Made (value v) g))
    by (Made v f) k = k
    by (Refused rule at) k = tt
    by (Passed bound most) k = tt

-- an operand, and what it leads to
pub operand-behind : {B : Type 0} (s : Scene) (K : B → Type 0) (e : Env) (r : Answer Operand) (go : Operand → Env → Answer B) → FineOperand s e r → Tells s (OperandApart s) r
    → ((o : Operand) (e1 : Env) → IsShown o → Steps e e1 → Classless e1 → When s e1 (Holds s e1) → When s e1 (OperandFits s o e1) → When s e1 (OperandApart s o) → Tells s K (go o e1)) → Tells s K (onward r go)
operand-behind s K e (Made o e1) go f k next = next o e1 f.1 f.0.steps f.0.classless f.0.holds f.0.made k
operand-behind s K e (Refused rule at) go f k next = tt
operand-behind s K e (Passed bound most) go f k next = tt

module _ (s : Scene) where
  constant-apart : (at : ℕ) (z : ℤ) (t : ℕ) → Apart s (constant at z t)
  constant-apart at z t = alike-apart s (constant at z t) (alike-Number s at z)

  -- ---- objects

  -- a static object is fixed; the number of an object is that of a place
  object-apart : (e : Env) (at : ℕ) (x : Object) → Apart s (object_value e at x)
  object-apart e at x = by (type_at e.types x.type)
    where
      own : (h : Home) → Apart s (record (home_node at x.type h) { number = x.number })
      own (local_home i) = record { fixed = λ q. absurd (true≢false (sym q)); number = λ l z. absurd (true≢false l) }
      own (static_home name) = record { fixed = λ q. alike-Static s at name x.type; number = λ l z. absurd (true≢false l) }

      by : (y : Ty) → Apart s (let r = result_step at (home_node at x.type x.home).node x.type y in if r.is_lvalue then r else record (home_node at x.type x.home) { number = x.number })
      by (ty.Ref u) = bare-apart s (place_of at (home_node at x.type x.home).node u false) refl refl
      by ty.Void = own x.home
      by (ty.Int k) = own x.home
      by (ty.Enum k) = own x.home
      by (ty.Class k) = own x.home
      by (ty.Ptr k) = own x.home
      by (ty.Array k m) = own x.home
      by (ty.Fun k) = own x.home
      by (ty.MemData k m) = own x.home
      by (ty.MemFun k m) = own x.home
      by (ty.Const k) = own x.home

  enumerator-apart : (at t : ℕ) (z : Option ℤ) → Apart s (enumerator_value at t z)
  enumerator-apart at t (Some z) = constant-apart at z t
  enumerator-apart at t None = alike-apart s (enumerator_value at t None) (alike-Number s at (pos 0))

  operand_of-known : (at : ℕ) (o : Option Entity) (e : Env) → Known (OperandApart s) (operand_of at o e)
  operand_of-known at None e = tt
  operand_of-known at (Some (object x)) e = object-apart e at x
  operand_of-known at (Some (functions fs)) e = known-onward (OperandApart s) (need (not (some_main e fs)) 11 at e) _ (λ _ f. tt)
  operand_of-known at (Some (alias t)) e = tt
  operand_of-known at (Some (class_name k)) e = tt
  operand_of-known at (Some (enum_name n)) e = tt
  operand_of-known at (Some (enumerator t z)) e = enumerator-apart at t z

  -- an identifier by itself
  pub name-tells : (at : ℕ) (name : Name) (e : Env) → Classless e → Tells s (OperandApart s) (operand_found at (found_alone e false name) e)
  name-tells at name e c =
      subst (λ f. Tells s (OperandApart s) (operand_found at f e)) (sym (found-alone e name c.none_open c.no_body))
      (tells-known s (OperandApart s) (operand_of at (entity_of e (found name e.scopes)) e) (operand_of-known at (entity_of e (found name e.scopes)) e))

  -- ---- constants and literals

  pub integer-tells : (at : ℕ) (z : ℤ) (k : Kind) (e : Env) → Tells s (OperandApart s) (expression.integer at z k e)
  integer-tells at z k e = tells-known s (OperandApart s) (expression.integer at z k e) (known-onward (OperandApart s) (of_kind k e) (λ t f. Made (value (constant at z t)) f) (λ t f. constant-apart at z t))

  pub literal-tells : (at : ℕ) (bytes : List ℕ) (e : Env) → Tells s (OperandApart s) (expression.literal at bytes e)
  literal-tells at bytes e =
      tells-known s (OperandApart s) (expression.literal at bytes e)
      (known-onward (OperandApart s) (of_kind kind.Char begun) (λ ch f. onward (array_of ch (length bytes + 1) f) (λ t g. Made (value (place t)) g))
      (λ ch f. known-onward (OperandApart s) (array_of ch (length bytes + 1) f) (λ t g. Made (value (place t)) g) (λ t g. alike-apart s (place t) (alike-Text s at e.hand.literals (bytes ++ 0 ∷ [])))))
    where
      begun : Env
      begun = record e { hand = record e.hand { literals = e.hand.literals + 1 } }

      place : ℕ → Value
      place t = place_of at (node.Text at e.hand.literals (bytes ++ 0 ∷ [])) t true

  -- ---- the value of an operand

  one_function-known : (at : ℕ) (o : Option FunctionEntry) (e : Env) → Known (Apart s) (one_function at o e)
  one_function-known at None e = tt
  one_function-known at (Some f) e = alike-apart s (function_value at f) (alike-Function s at f.link f.type)

  pub value_of-tells : (o : Operand) (e : Env) → IsShown o → When s e (OperandApart s o) → Tells s (Apart s) (value_of o e)
  value_of-tells (value v) e shown k = k
  value_of-tells (named_functions at []) e shown k = tt
  value_of-tells (named_functions at (n ∷ [])) e shown k = tells-known s (Apart s) (value_of (named_functions at (n ∷ [])) e) (one_function-known at (slice_get e.entries n) e)
  value_of-tells (named_functions at (n ∷ m ∷ rest)) e shown k = tt
  value_of-tells (methods m) e shown k = absurd shown
  value_of-tells (field_name a b d m) e shown k = absurd shown
  value_of-tells (bound_method a b d) e shown k = absurd shown

  pub value_of-both : (scene : IsScene s) (o : Operand) (e : Env) → IsShown o → Classless e → When s e (Holds s e) → When s e (OperandFits s o e) → When s e (OperandApart s o) → Fine s (Both s) e (value_of o e)
  value_of-both scene o e shown c h f k =
      fine-both s (IsOperand s) (λ x g. Apart s x) e (value_of o e) (value_of-fine s scene o e shown c h f)
      (fine-tells s (IsOperand s) (Apart s) e (value_of o e) (value_of-fine s scene o e shown c h f) (value_of-tells o e shown k))
