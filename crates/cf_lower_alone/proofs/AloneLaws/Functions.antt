-- The C of a function by its names in the program is the C of the function by its names there.
use Rattle.std.proofs.Common.{◌≡◌, ◌+◌, Bool, true, false, cond, List, [], ◌++◌, length, slice_get, map, refl, ap, sym, subst, ◌∙◌, arith}
use Rattle.std.specs.Prelude.{Some, bytes_eq}
use Rattle.cf_core.specs.Types.{Name, SourceType, parameters, result as result_type}
use Rattle.cf_plain.specs.Plain as plain
use Rattle.cf_plain.specs.Plain.{Register, Action, PlainFunction, PlainStatic}
use Rattle.cf_plain.specs.Joined.{renamed_all}
use Rattle.cf_plain.specs.Named.{all_actions}
use Rattle.cc_whole.specs.declared.types.CType.{CType}
use Rattle.cc_whole.specs.declared.types.CVariableType.TheVariants as variable
use Rattle.cc_whole.specs.declared.statement.CLocal.{CLocal}
use Rattle.cc_whole.specs.declared.unit.CParameter.{CParameter}
use Rattle.cc_whole.specs.Types.{local_type}
use Rattle.cc_whole.specs.Known.{object, is_in}
use Rattle.cc_whole.specs.Plain.{Function, Statement, body, in_order}
use Rattle.cc_whole.specs.Uses.{local_names, parameter_names}
use Rattle.cc_whole_link.specs.Rename.{Renaming, hiding}
use Rattle.cc_whole_closed.proofs.Plains.{body_with}
use Rattle.cf_lower.specs.Kept.{Locals, nothing_kept}
use Rattle.cf_lower.specs.Written.{local_name, register_name, flag_name, result_name, literal_name}
use Rattle.cf_lower.specs.Functions.{lowered_parameters, locals_of, inside, lowered_function, results, flags, registers, own_locals, scalar, each_once, all_bound, all_nesting}
use Rattle.cf_lower.specs.Statements.{Inside, all_lowered, no_value}
use Rattle.cf_lower_program.specs.Lowerable.{Lowerable}
use Rattle.cc_whole_sections.specs.Sections.{In}
use Rattle.cf_lower_valid.proofs.Inner.{every-mapped}
use Rattle.cf_lower_valid.proofs.Own.{parameter-entries}
use Rattle.cf_lower_valid.proofs.Once.{any-none}
use Rattle.cf_lower_valid.proofs.Scopes.{is_outer, entry-apart, local-names}
use Rattle.cf_lower_valid.proofs.Tests.{file_of, function-told}
use Rattle.cf_lower_calls.specs.Entered.Linked.{linked_function}
use Rattle.cf_lower_alone.proofs.AloneLaws.Items.{function_with}
use Rattle.cf_lower_alone.proofs.AloneLaws.After.{all-bound-same, all-nesting-same, results-same, arguments-same}
use Rattle.cf_lower_alone.proofs.AloneLaws.Values.{KeepsOwn, Goes}
use Rattle.cf_lower_alone.proofs.AloneLaws.Statements.{all_with, in-order-with, append-with, none-stay, all-lowered-with}
use Rattle.cf_lower_alone.proofs.AloneLaws.Names.{in_C, in_plain, IsPlain, foreign-plain, plain-goes, literal-goes, NamesPlain, action-names, keeps-own}
use Rattle.cf_lower_alone.proofs.AloneLaws.Statics.{function-foreign-name}

-- the C locals behind the parameters
abbrev pub c_locals : PlainFunction → List CLocal
c_locals f =
    own_locals [] (length (parameters f.type)) f.locals ++ registers (all_bound f.body) ++ flags (all_nesting f.body) ++ results (all_actions f.body)

-- ---- under names that hide others

module _ (names : List Name) (r : Renaming) where
  hides-same : (name : Name) → r name ≡ name → hiding names r name ≡ name
  hides-same name e = go (is_in names name)
    where
      go : (b : Bool) → cond b name (r name) ≡ name
      go true = refl
      go false = e

  hides-not : (name : Name) → is_in names name ≡ false → hiding names r name ≡ r name
  hides-not name e = ap (λ b. cond b name (r name)) e

  keeps-hidden : KeepsOwn r → KeepsOwn (hiding names r)
  keeps-hidden own = record {
    local = λ i. hides-same (local_name i) (own.local i);
    register = λ s i. hides-same (register_name s i) (own.register s i);
    flag = λ d. hides-same (flag_name d) (own.flag d);
    result = λ t. hides-same (result_name t) (own.result t);
  }

module _ (fs : List PlainFunction) (xs : List PlainStatic) (low : Lowerable (file_of fs xs)) (f : PlainFunction) (h : In f fs) where
  abbrev r : Renaming
  r = in_C fs xs low

  abbrev q : Name → Name
  q = in_plain fs xs low

  -- the function by its name in the program
  abbrev pub there : PlainFunction
  there = record f { name = q f.name; body = renamed_all q f.body }

  -- ---- C locals hide no name of another kind

  pub outer-local : (y : Name) → is_outer y ≡ false → is_in (local_names (c_locals f)) y ≡ false
  outer-local y e =
      let t = function-told fs xs low f h in
      any-none (λ other. bytes_eq other y) (local_names (c_locals f))
      (every-mapped (λ other. bytes_eq other y ≡ false) (λ (x : CLocal). x.name) (c_locals f)
      (λ x k. entry-apart (parameters f.type ++ f.locals) (record { name = x.name; meant = object (local_type x.ty) }) y
      (local-names (parameters f.type) f.locals (all_bound f.body) (all_nesting f.body) (all_actions f.body) t.few t.registers t.flags x k) e))

  pub outer-parameter : (y : Name) → is_outer y ≡ false → is_in (parameter_names (lowered_parameters 0 (parameters f.type))) y ≡ false
  outer-parameter y e =
      let t = function-told fs xs low f h in
      let ps : List SourceType = parameters f.type in
      any-none (λ other. bytes_eq other y) (parameter_names (lowered_parameters 0 ps))
      (every-mapped (λ other. bytes_eq other y ≡ false) (λ (p : CParameter). p.name) (lowered_parameters 0 ps)
      (λ p k. entry-apart ps (record { name = p.name; meant = object (variable.Scalar p.ty) }) y
      (parameter-entries ps 0 ps (λ k t e. subst (λ i. slice_get ps i ≡ Some t) (let z : k ≡ 0 + k = omega arith in z) e) (let few = t.few in omega (arith, few)) p k) e))

  abbrev inner : Renaming
  inner = hiding (local_names (c_locals f)) (hiding (parameter_names (lowered_parameters 0 (parameters f.type))) r)

  inner-outer : (y : Name) → is_outer y ≡ false → inner y ≡ r y
  inner-outer y e =
      hides-not (local_names (c_locals f)) (hiding (parameter_names (lowered_parameters 0 (parameters f.type))) r) y (outer-local y e)
      ∙ hides-not (parameter_names (lowered_parameters 0 (parameters f.type))) r y (outer-parameter y e)

  inner-own : KeepsOwn inner
  inner-own =
      keeps-hidden (local_names (c_locals f)) (hiding (parameter_names (lowered_parameters 0 (parameters f.type))) r)
      (keeps-hidden (parameter_names (lowered_parameters 0 (parameters f.type))) r (keeps-own fs xs low))

  -- what its actions name
  inner-plain : (n : Name) → IsPlain n → inner n ≡ q n
  inner-plain n p = inner-outer n p.outer ∙ plain-goes fs xs low n p

  inner-goes : (a : Action) → NamesPlain fs xs low a → In a (all_actions f.body) → Goes inner q f.name (q f.name) a
  inner-goes (plain.text j b) p m = inner-outer (literal_name f.name j) refl ∙ literal-goes fs xs low f j b h m
  inner-goes (plain.static_object n t) p m = inner-plain n p
  inner-goes (plain.function n t) p m = inner-plain n p
  inner-goes (plain.call n t on is into) p m = inner-plain n p
  inner-goes a p m = tt

  -- ---- the same in both

  pub locals-same : c_locals there ≡ c_locals f
  locals-same =
      let own : List CLocal = own_locals [] (length (parameters f.type)) f.locals in
      ap (λ n. own ++ registers n ++ flags (all_nesting there.body) ++ results (all_actions there.body)) (all-bound-same q f.body)
      ∙ ap (λ n. own ++ registers (all_bound f.body) ++ flags n ++ results (all_actions there.body)) (all-nesting-same q f.body)
      ∙ ap (λ l. own ++ registers (all_bound f.body) ++ flags (all_nesting f.body) ++ map (λ (t : CType). scalar t (result_name t)) (each_once l)) (results-same q f.body)

  pub same-locals : locals_of there ≡ locals_of f
  same-locals = ap (λ l. record { types = parameters f.type ++ f.locals; arguments = l }) (arguments-same q f.body)

  abbrev inside_with : Locals → Inside
  inside_with l = record { classes = []; function = q f.name; result = result_type f.type; locals = l; depth = 0; leaving = []; going_on = [] }

  abbrev statements : List Statement
  statements = all_lowered f.body (inside [] f) nothing_kept ++ no_value (result_type f.type)

  abbrev statements_there : List Statement
  statements_there = all_lowered there.body (inside [] there) nothing_kept ++ no_value (result_type f.type)

  statements-there : all_with inner inner-own statements ≡ statements_there
  statements-there =
      append-with inner inner-own (all_lowered f.body (inside [] f) nothing_kept) (no_value (result_type f.type)) (all_lowered there.body (inside [] there) nothing_kept)
      (no_value (result_type f.type))
      (all-lowered-with inner inner-own q (q f.name) f.body (inside [] f) nothing_kept (record { leaving = refl; going_on = refl })
      (λ a m. inner-goes a (action-names fs xs low f a h m) m)
      ∙ ap (λ l. all_lowered there.body (inside_with l) nothing_kept) (sym same-locals))
      (none-stay inner inner-own (result_type f.type))

  pub body-there : body_with (lowered_function [] f).body (hiding (parameter_names (lowered_parameters 0 (parameters f.type))) r) ≡ (lowered_function [] there).body
  body-there =
      ap (body (c_locals f)) (in-order-with inner inner-own statements ∙ ap in_order statements-there) ∙ ap (λ l. body l (in_order statements_there)) (sym locals-same)

  pub function-there : function_with (lowered_function [] f) r ≡ linked_function [] there
  function-there =
      let g : Function = lowered_function [] f in
      ap (λ n. record {
        is_shared = f.is_shared;
        prototype = record { is_static = false; result = g.prototype.result; name = n; parameters = lowered_parameters 0 (parameters f.type) };
        body = body_with g.body (hiding (parameter_names (lowered_parameters 0 (parameters f.type))) r);
      }) (plain-goes fs xs low f.name (foreign-plain f.name (function-foreign-name fs xs low f h)))
      ∙ ap (λ b. record {
        is_shared = f.is_shared;
        prototype = record { is_static = false; result = g.prototype.result; name = q f.name; parameters = lowered_parameters 0 (parameters f.type) };
        body = b;
      }) body-there
