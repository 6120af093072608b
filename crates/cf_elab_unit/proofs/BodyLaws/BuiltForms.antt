-- The forms of statements that are built are made of parts that are built.
use Rattle.std.proofs.Common.{◌≡◌, ℕ, zero, suc, ◌<◌, List, [], ◌∷◌, map, length, get_or, Option, None, Some, sym, ap, ◌∙◌, arith}
use Rattle.std.specs.Option.{option_map}
use Rattle.cf_syntax.specs.declared.expression.Expr.{Expr}
use Rattle.cf_unit.specs.declared.class.ClassDef.{ClassDef, fold-ClassDef}
use Rattle.cf_unit.specs.declared.class.FunctionDef.{FunctionDef}
use Rattle.cf_unit.specs.declared.class.Member.{Member, fold-Member}
use Rattle.cf_unit.specs.declared.class.Member.TheOpen.{Stmt-F}
use Rattle.cf_unit.specs.declared.class.Member.TheFolds.{fold-roll-Stmt, map-Stmt}
use Rattle.cf_unit.specs.declared.declaration.Declaration.{Declaration}
use Rattle.cf_unit.specs.declared.specifier.Specifier.{Specifier}
use Rattle.cf_unit.specs.declared.statement.Stmt.{Stmt, roll-Stmt}
use Rattle.cf_unit.specs.declared.statement.Stmt.TheVariants as form
use Rattle.cf_elab.specs.Built as built
use Rattle.cf_elab.specs.Built.{Place, first, first_of, maybe, maybe_expression, member_step, specifier_step, statement_step, class_step, function_step, declaration_step}
use Rattle.cf_elab_built.specs.Built.Parts.{specifier, function, declaration}
use Rattle.cf_elab_built.specs.Built.Parts.{statement as place}
use Rattle.cf_elab_declaration.specs.Declarations.Shut as declarations
use Rattle.cf_elab_declaration.specs.Enums.ExprShut as expression_built
use Rattle.cf_elab_declaration.proofs.EnumsLaws.ExprBuiltForms.{left, right}
use Rattle.cf_elab_unit.specs.Body.Shut.{IsBuilt, AreBuilt, MaybeBuilt, HasBuilt}

abbrev of_member : Member → Place
of_member = fold-Member Place Place Place Place Place Place member_step specifier_step statement_step class_step function_step declaration_step

abbrev of_class : ClassDef → Place
of_class = fold-ClassDef Place Place Place Place Place Place member_step specifier_step statement_step class_step function_step declaration_step

seen : (x : Stmt-F Member Specifier Stmt ClassDef FunctionDef Declaration)
    → place (roll-Stmt x)
    ≡ statement_step (map-Stmt Member Specifier Stmt ClassDef FunctionDef Declaration Place Place Place Place Place Place of_member specifier place of_class function declaration x)
seen x = fold-roll-Stmt Place Place Place Place Place Place member_step specifier_step statement_step class_step function_step declaration_step x

pub declaration_inside : (d : Declaration) → IsBuilt (form.Declaration d) → declarations.IsBuilt d
unfolding IsBuilt declarations.IsBuilt roll-Stmt denote.Hole.Carrier.roll
declaration_inside d h = sym (seen (Stmt-F.Stmt::Declaration d)) ∙ h

module _ (at : ℕ) where
  pub block_inside : (ss : List Stmt) → IsBuilt (form.Block at ss) → AreBuilt ss
  unfolding IsBuilt AreBuilt roll-Stmt denote.Hole.Carrier.roll
  block_inside ss h = sym (seen (Stmt-F.Block at ss)) ∙ h

  pub expression_inside : (x : Expr) → IsBuilt (form.Expression at x) → expression_built.IsBuilt x
  unfolding IsBuilt expression_built.IsBuilt roll-Stmt denote.Hole.Carrier.roll
  expression_inside x h = sym (seen (Stmt-F.Expression at x)) ∙ h

  pub case_inside : (x : Expr) → IsBuilt (form.Case at x) → expression_built.IsBuilt x
  unfolding IsBuilt expression_built.IsBuilt roll-Stmt denote.Hole.Carrier.roll
  case_inside x h = sym (seen (Stmt-F.Case at x)) ∙ h

  pub return_inside : (x : Option Expr) → IsBuilt (form.Return at x) → HasBuilt x
  unfolding IsBuilt HasBuilt roll-Stmt denote.Hole.Carrier.roll
  return_inside x h = sym (seen (Stmt-F.Return at x)) ∙ h

  module _ (x : Expr) (s : Stmt) where
    while_both : IsBuilt (form.While at x s) → first (built.expression x) (place s) ≡ None
    unfolding IsBuilt roll-Stmt denote.Hole.Carrier.roll
    while_both h = sym (seen (Stmt-F.While at x s)) ∙ h

    pub while_condition : IsBuilt (form.While at x s) → expression_built.IsBuilt x
    unfolding expression_built.IsBuilt
    while_condition h = left (built.expression x) (place s) (while_both h)

    pub while_body : IsBuilt (form.While at x s) → IsBuilt s
    unfolding IsBuilt
    while_body h = right (built.expression x) (place s) (while_both h)

    do_both : IsBuilt (form.Do at s x) → first (place s) (built.expression x) ≡ None
    unfolding IsBuilt roll-Stmt denote.Hole.Carrier.roll
    do_both h = sym (seen (Stmt-F.Do at s x)) ∙ h

    pub do_body : IsBuilt (form.Do at s x) → IsBuilt s
    unfolding IsBuilt
    do_body h = left (place s) (built.expression x) (do_both h)

    pub do_condition : IsBuilt (form.Do at s x) → expression_built.IsBuilt x
    unfolding expression_built.IsBuilt
    do_condition h = right (place s) (built.expression x) (do_both h)

  module _ (x : Expr) (ss : List Stmt) where
    switch_both : IsBuilt (form.Switch at x ss) → first (built.expression x) (first_of (map place ss)) ≡ None
    unfolding IsBuilt roll-Stmt denote.Hole.Carrier.roll
    switch_both h = sym (seen (Stmt-F.Switch at x ss)) ∙ h

    pub switch_operand : IsBuilt (form.Switch at x ss) → expression_built.IsBuilt x
    unfolding expression_built.IsBuilt
    switch_operand h = left (built.expression x) (first_of (map place ss)) (switch_both h)

    pub switch_inside : IsBuilt (form.Switch at x ss) → AreBuilt ss
    unfolding AreBuilt
    switch_inside h = right (built.expression x) (first_of (map place ss)) (switch_both h)

  module _ (x : Expr) (a : Stmt) where
    abbrev both_ways : Option Stmt → Place
    both_ways b = first (place a) (maybe (option_map place b))

    if_all : (b : Option Stmt) → IsBuilt (form.If at x a b) → first (built.expression x) (both_ways b) ≡ None
    unfolding IsBuilt roll-Stmt denote.Hole.Carrier.roll
    if_all None h = sym (seen (Stmt-F.If at x a None)) ∙ h
    if_all (Some b) h = sym (seen (Stmt-F.If at x a (Some b))) ∙ h

    pub if_condition : (b : Option Stmt) → IsBuilt (form.If at x a b) → expression_built.IsBuilt x
    unfolding expression_built.IsBuilt
    if_condition b h = left (built.expression x) (both_ways b) (if_all b h)

    pub if_yes : (b : Option Stmt) → IsBuilt (form.If at x a b) → IsBuilt a
    unfolding IsBuilt
    if_yes b h = left (place a) (maybe (option_map place b)) (right (built.expression x) (both_ways b) (if_all b h))

    pub if_no : (b : Option Stmt) → IsBuilt (form.If at x a b) → MaybeBuilt b
    unfolding MaybeBuilt
    if_no b h = right (place a) (maybe (option_map place b)) (right (built.expression x) (both_ways b) (if_all b h))

  module _ (start : Stmt) (x step : Option Expr) (s : Stmt) (h : IsBuilt (form.For at start x step s)) where
    abbrev behind_condition : Place
    behind_condition = first (maybe_expression step) (place s)

    abbrev behind_start : Place
    behind_start = first (maybe_expression x) behind_condition

    for_all : first (place start) behind_start ≡ None
    unfolding IsBuilt roll-Stmt denote.Hole.Carrier.roll
    for_all = sym (seen (Stmt-F.For at start x step s)) ∙ h

    rest : behind_condition ≡ None
    rest = right (maybe_expression x) behind_condition (right (place start) behind_start for_all)

    pub for_first : IsBuilt start
    unfolding IsBuilt
    for_first = left (place start) behind_start for_all

    pub for_condition : HasBuilt x
    unfolding HasBuilt
    for_condition = left (maybe_expression x) behind_condition (right (place start) behind_start for_all)

    pub for_step : HasBuilt step
    unfolding HasBuilt
    for_step = left (maybe_expression step) (place s) rest

    pub for_body : IsBuilt s
    unfolding IsBuilt
    for_body = right (maybe_expression step) (place s) rest

-- ---- several, or one that may be left out

pub one_built : (ss : List Stmt) (i : ℕ) (s : Stmt) → AreBuilt ss → i < length ss → s ≡ get_or ss i s → IsBuilt s
unfolding AreBuilt IsBuilt
one_built [] i s h lt is = absurd (omega arith)
one_built (x ∷ ss) zero s h lt is = ap place is ∙ left (place x) (first_of (map place ss)) h
one_built (x ∷ ss) (suc i) s h lt is = one_built ss i s (right (place x) (first_of (map place ss)) h) (omega arith) is

pub there_built : (s : Stmt) → MaybeBuilt (Some s) → IsBuilt s
unfolding MaybeBuilt IsBuilt
there_built s h = h

pub given_built : (x : Expr) → HasBuilt (Some x) → expression_built.IsBuilt x
unfolding HasBuilt expression_built.IsBuilt
given_built x h = h
