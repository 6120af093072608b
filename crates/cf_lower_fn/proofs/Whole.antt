-- What the statements of a whole function stand in.
use Rattle.std.proofs.Common.{◌≡◌, ℕ, Bool, false, List, [], ◌∷◌, ◌++◌, length, map, refl, sym, ap, ◌∙◌}
use Rattle.std.proofs.lemmas.List.{length-map, map-append}
use Rattle.std.specs.Borrow.{Bor}
use Rattle.std.specs.List.{flat_map}
use Rattle.cc_whole.specs.declared.statement.CBody.{roll-CBody}
use Rattle.cc_whole.specs.declared.statement.CLocal.{CLocal}
use Rattle.cc_whole.specs.declared.statement.CStatement.{CStatement}
use Rattle.cc_whole.specs.declared.statement.CStatement.TheFolds.{fold-roll-CBody}
use Rattle.cc_whole.specs.declared.unit.CPrototype.{CPrototype}
use Rattle.cc_whole.specs.Plain.{Body, Function, Statement, SwitchItem, body_step, statement_step, switch_step, function_of as function_of_code}
use Rattle.cf_core.specs.FromTypes.{Tables, type_of, taking}
use Rattle.cf_core.specs.Types.{Name, SourceType, gives, parameters, result}
use Rattle.cf_lower.specs.Functions.{all_bound, all_nesting, arguments_at, flags, inside as whole, lowered_function, own_locals, prototype, registers, results}
use Rattle.cf_lower.specs.Kept.{nothing_kept}
use Rattle.cf_lower.specs.Statements.{Inside, all_lowered, no_value}
use Rattle.cf_lower_held.specs.declared.registers.Registers.{Registers}
use Rattle.cf_lower_held.specs.declared.scene.Scene.{Scene}
use Rattle.cf_lower_held.specs.Scenes.{holding, statements_in}
use Rattle.cf_lower_stmt.specs.Steps.{inside, written}
use Rattle.cf_lower_stmt.proofs.Walks.{nothing_held}
use Rattle.cf_lower_types.proofs.FunctionLaws.{parameters_taking, result_taking}
use Rattle.cf_lower_types.specs.Bare.{classes_of}
use Rattle.cf_plain.specs.Named.{all_actions}
use Rattle.cf_plain.specs.View.{function_of}
use Rattle.cf_plain.specs.declared.action.Action.{Action as CodeAction}
use Rattle.cf_plain.specs.declared.statement.Plain.{Plain as CodePlain}
use Rattle.cf_plain.specs.declared.unit.PlainFn.{PlainFn}
use Rattle.cf_plain.specs.Plain.{Action}
use Rattle.cf_lower_fn.specs.Parts.{function_with, nowhere}
use Rattle.cf_lower_fn.specs.Walks.{statements_at, told}

-- the first actions of a list
pub told_first : (tables : Tables) (none all : List (Bor CodeAction)) (rest : List Action) → none ≡ [] → told tables all ≡ told tables none ++ rest → told tables all ≡ rest
told_first tables none all rest empty e = e ∙ ap (λ l. told tables l ++ rest) empty

-- statements in no loop and no switch, with what a function gives that flows off its end
pub code_is : (x : Scene) (ss : List CodePlain) (rs : Registers) (a b c : List CStatement) → rs.held.items ≡ [] → a ≡ []
    → written b ≡ written a ++ all_lowered (statements_in x ss) (inside x nowhere) (holding x rs)
    → written c ≡ written b ++ no_value (type_of x.tables.now x.result)
    → written c ≡ all_lowered (statements_in x ss) (inside x nowhere) nothing_kept ++ no_value (type_of x.tables.now x.result)
code_is x ss rs a b c held none p q =
    q ∙ ap (λ (l : List Statement). l ++ no_value (type_of x.tables.now x.result))
    (p ∙ ap (λ (l : List CStatement). written l ++ all_lowered (statements_in x ss) (inside x nowhere) (holding x rs)) none
    ∙ ap (all_lowered (statements_in x ss) (inside x nowhere)) (nothing_held x rs held))

abbrev body_with : Bool → CPrototype → Body → Function
body_with is_shared p b = record { is_shared = is_shared; prototype = p; body = b }

-- the plain data of a C function of these parts
pub made_is : (is_shared : Bool) (p : CPrototype) (ls : List CLocal) (ss : List CStatement)
    → function_of_code (record { is_shared = is_shared; prototype = p; body = roll-CBody (record { locals = ls; statements = ss }) }) ≡ function_with is_shared p ls (written ss)
made_is is_shared p ls ss =
    ap (λ (b : Body). body_with is_shared p b) (fold-roll-CBody Statement SwitchItem Body statement_step switch_step body_step (record { locals = ls; statements = ss }))

module _ (tables : Tables) (f : PlainFn) where
  -- a function that stands in nothing
  abbrev bare_inside : SourceType → List SourceType → List ℕ → Inside
  bare_inside t ts is = record {
    classes = classes_of tables;
    function = f.name;
    result = t;
    locals = record { types = ts; arguments = is };
    depth = 0;
    leaving = [];
    going_on = [];
  }

  made_inside : (types arguments : List ℕ) → types ≡ f.params ++ f.locals → arguments ≡ flat_map arguments_at (all_actions (statements_at tables f.body))
      → bare_inside (type_of tables f.result) (map (type_of tables) types) arguments ≡ whole (classes_of tables) (function_of tables f)
  made_inside types arguments types_are arguments_are =
      let ps = map (type_of tables) f.params in
      ap (λ is. bare_inside (type_of tables f.result) (map (type_of tables) types) is) arguments_are
      ∙ ap (λ ts. bare_inside (type_of tables f.result) ts (flat_map arguments_at (all_actions (statements_at tables f.body))))
      (ap (map (type_of tables)) types_are ∙ map-append (type_of tables) f.params f.locals
      ∙ ap (λ l. l ++ map (type_of tables) f.locals) (sym (parameters_taking ps (type_of tables f.result) false)))
      ∙ ap (λ t. bare_inside t (parameters (taking ps (gives (type_of tables f.result) false)) ++ map (type_of tables) f.locals)
      (flat_map arguments_at (all_actions (statements_at tables f.body)))) (sym (result_taking ps (type_of tables f.result) false))

  -- its C locals, with so many parameters
  abbrev locals_with : ℕ → List Action → List CLocal
  locals_with n all =
      own_locals (classes_of tables) n (map (type_of tables) f.locals) ++ registers (all_bound (statements_at tables f.body)) ++ flags (all_nesting (statements_at tables f.body))
      ++ results all

  abbrev code_of : Tables → Name → ℕ → List ℕ → List ℕ → List Statement
  code_of ts n r types arguments =
      all_lowered (statements_at ts f.body)
      (record {
        classes = classes_of ts;
        function = n;
        result = type_of ts r;
        locals = record { types = map (type_of ts) types; arguments = arguments };
        depth = 0;
        leaving = [];
        going_on = [];
      })
      nothing_kept
      ++ no_value (type_of ts r)

  -- what is written where these statements stand
  pub lowered_scene : (x : Scene) (ss : List Statement) → x.tables.now ≡ tables → x.function.now ≡ f.name → x.result ≡ f.result → x.types ≡ f.params ++ f.locals
      → x.arguments ≡ flat_map arguments_at (all_actions (statements_at tables f.body))
      → ss ≡ all_lowered (statements_in x f.body) (inside x nowhere) nothing_kept ++ no_value (type_of x.tables.now x.result)
      → ss ≡ all_lowered (statements_at tables f.body) (whole (classes_of tables) (function_of tables f)) nothing_kept ++ no_value (type_of tables f.result)
  lowered_scene x ss at named given types arguments is =
      is ∙ ap (λ (t : Tables). code_of t x.function.now x.result x.types x.arguments) at ∙ ap (λ (n : Name). code_of tables n x.result x.types x.arguments) named
      ∙ ap (λ (r : ℕ). code_of tables f.name r x.types x.arguments) given
      ∙ ap (λ (i : Inside). all_lowered (statements_at tables f.body) i nothing_kept ++ no_value (type_of tables f.result)) (made_inside x.types x.arguments types arguments)

  -- a function by its parts
  pub lowered_whole : (p : CPrototype) (ls : List CLocal) (ss : List Statement) (all : List Action) → p ≡ prototype (function_of tables f)
      → ls
      ≡ own_locals (classes_of tables) (length f.params) (map (type_of tables) f.locals) ++ registers (all_bound (statements_at tables f.body))
      ++ flags (all_nesting (statements_at tables f.body)) ++ results all
      → all ≡ all_actions (statements_at tables f.body)
      → ss ≡ all_lowered (statements_at tables f.body) (whole (classes_of tables) (function_of tables f)) nothing_kept ++ no_value (type_of tables f.result)
      → function_with f.is_shared p ls ss ≡ lowered_function (classes_of tables) (function_of tables f)
  lowered_whole p ls ss all heads locals does statements =
      let ps = map (type_of tables) f.params in
      let t = taking ps (gives (type_of tables f.result) false) in
      let head = prototype (function_of tables f) in
      let lowered = all_lowered (statements_at tables f.body) (whole (classes_of tables) (function_of tables f)) nothing_kept in
      let count : length f.params ≡ length (parameters t) = sym (length-map f.params (type_of tables)) ∙ ap length (sym (parameters_taking ps (type_of tables f.result) false)) in
      ap (λ (q : CPrototype). function_with f.is_shared q ls ss) heads
      ∙ ap (λ (l : List CLocal). function_with f.is_shared head l ss)
      (locals ∙ ap (λ (l : List Action). locals_with (length f.params) l) does ∙ ap (λ (n : ℕ). locals_with n (all_actions (statements_at tables f.body))) count)
      ∙ ap (λ (l : List Statement). function_with f.is_shared head (locals_with (length (parameters t)) (all_actions (statements_at tables f.body))) l)
      (statements ∙ ap (λ (u : SourceType). lowered ++ no_value u) (sym (result_taking ps (type_of tables f.result) false)))
