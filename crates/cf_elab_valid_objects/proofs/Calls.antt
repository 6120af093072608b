-- Calls, and several parts in order (5.2.2, 5.2.3, 5.18).
use Rattle.std.proofs.Common.{◌≡◌, ℕ, ◌&&◌, length, List, [], ◌∷◌, map, Option, Some, None, slice_get, refl, sym, subst}
use Rattle.cf_classes.specs.TypeTree.{params_of}
use Rattle.cf_elab.specs.Answer.{Answer, Made, Refused, Passed, Elab, onward, all, each}
use Rattle.cf_elab.specs.Arguments.{fun_at, result_of}
use Rattle.cf_elab.specs.Best.{Candidate, Choice, Chosen, NoMatch, Tie, best}
use Rattle.cf_elab.specs.Call as row
use Rattle.cf_elab.specs.Call.{candidate, entries_of}
use Rattle.cf_elab.specs.Choice.{conditional, sequence}
use Rattle.cf_elab.specs.ClassOperators as operators
use Rattle.cf_elab.specs.Complete.{complete}
use Rattle.cf_elab.specs.Env.{Env, FunctionEntry}
use Rattle.cf_elab.specs.Expression as expression
use Rattle.cf_elab.specs.Expression.{values}
use Rattle.cf_core.specs.declared.node.Core.{Core as Node}
use Rattle.cf_core.specs.declared.node.Core.TheVariants as node
use Rattle.cf_elab.specs.Members.{class_number}
use Rattle.cf_elab.specs.Operand.{Value, Operand, value, functions, methods, field_name, bound_method, Part, Sort, function_pointer, sort_of, plain, val, defs, value_of, evaluated, both}
use Rattle.cf_elab.specs.UserFit.{arguments}
use Rattle.cf_elab_valid.specs.Scene.{Classless, IsShown}
use Rattle.cf_elab_valid.proofs.FitRows.{Still, needed}
use Rattle.cf_elab_valid.proofs.Operands.{no-object}
use Rattle.cf_elab_valid_objects.specs.Quiet.{Quiet, QuietIn, QuietOperand, IsQuietPart, AreQuietParts}
use Rattle.cf_elab_valid_objects.proofs.Casts.{from_type-quiet}
use Rattle.cf_elab_valid_objects.proofs.Conversions.{plain-quiet, value_of-quiet, evaluated-quiet, arguments-quiet}
use Rattle.cf_elab_valid_objects.proofs.Operators.{sequence-quiet, conditional-quiet}
use Rattle.cf_elab_valid_objects.proofs.Steps.{quiet-none, quiet-through, quiet-classless, quiet-onward, still-quiet, need-quiet, shown-onward, shown-then, shown-behind, one-quiet}

-- ---- calls

called-quiet : (at r : ℕ) (n : Node) (e : Env) → Classless e → QuietIn e (row.called at r n e)
called-quiet at r n e c = need-quiet e (complete e r) 30 at _ (quiet-none e c)

counted-still : (at : ℕ) (cs : List Candidate) (vs : List Value) (e : Env) → Still e (row.counted at cs vs e)
counted-still at [] vs e = refl
counted-still at (x ∷ []) vs e = needed e (row.fits_count x vs) 15 at
counted-still at (x ∷ y ∷ ys) vs e = refl

chosen-quiet : (at : ℕ) (o : Choice) (e : Env) → Classless e → QuietIn e (row.chosen at o e)
chosen-quiet at (Chosen i) e c = quiet-none e c
chosen-quiet at NoMatch e c = tt
chosen-quiet at Tie e c = tt

pick-quiet : (at : ℕ) (cs : List Candidate) (vs : List Value) (e : Env) → Classless e → QuietIn e (row.pick at cs vs e)
pick-quiet at cs vs e c = still-quiet e (row.counted at cs vs e) _ (counted-still at cs vs e) (chosen-quiet at (best e.types (defs e) cs (map val vs)) e c)

entry-quiet : (at : ℕ) (vs : List Value) (o : Option FunctionEntry) (e : Env) → Classless e → QuietIn e (row.call_entry at vs o e)
entry-quiet at vs None e c = tt
entry-quiet at vs (Some f) e c =
    quiet-onward e (arguments at (params_of (fun_at e.types f.type)) f.defaults vs e) _ c (arguments-quiet at (params_of (fun_at e.types f.type)) f.defaults vs e c) (λ ns g cg. called-quiet at (result_of (fun_at e.types f.type)) (node.Call at f.link f.type None ns) g cg)

functions-quiet : (at : ℕ) (fs : List ℕ) (vs : List Value) (e : Env) → Classless e → QuietIn e (row.call_functions at fs vs e)
functions-quiet at fs vs e c =
    quiet-onward e (row.pick at (map (candidate e.types) (entries_of e fs)) vs e) _ c (pick-quiet at (map (candidate e.types) (entries_of e fs)) vs e c) (λ i f cf. entry-quiet at vs (slice_get (entries_of e fs) i) f cf)

pointer-quiet : (at : ℕ) (p : Value) (t : ℕ) (vs : List Value) (e : Env) → Classless e → QuietIn e (row.call_pointer at p t vs e)
pointer-quiet at p t vs e c =
    let ps = params_of (fun_at e.types t) in
    let only : Candidate = record { params = ps; least = length ps } in
    quiet-onward e (row.pick at (only ∷ []) vs e) _ c (pick-quiet at (only ∷ []) vs e c)
    (λ i f cf. quiet-onward f (arguments at ps [] vs f) _ cf (arguments-quiet at ps [] vs f cf) (λ ns g cg. called-quiet at (result_of (fun_at e.types t)) (node.PointerCall at None p.node t ns) g cg))

call_sort-quiet : (at : ℕ) (p : Value) (k : Sort) (vs : List Value) (e : Env) → Classless e → QuietIn e (row.call_sort at p k vs e)
call_sort-quiet at p (function_pointer t) vs e c = pointer-quiet at p t vs e c
call_sort-quiet at p k vs e c = tt

call_value-quiet : (at : ℕ) (v : Value) (vs : List Value) (e : Env) → Classless e → QuietIn e (row.call_value at v vs e)
call_value-quiet at v vs e c = quiet-onward e (plain v e) _ c (plain-quiet v e c) (λ p f cf. call_sort-quiet at p (sort_of f.types p.type) vs f cf)

operand-quiet : (at : ℕ) (o : Operand) (vs : List Value) (e : Env) → IsShown o → Classless e → QuietIn e (expression.call_operand at o vs e)
operand-quiet at (functions n fs) vs e shown c = functions-quiet at fs vs e c
operand-quiet at (value v) vs e shown c = subst (λ b. QuietIn e (operators.call_object at v vs b e)) (sym (no-object e c v)) (call_value-quiet at v vs e c)
operand-quiet at (methods m) vs e shown c = absurd shown
operand-quiet at (field_name n k p m) vs e shown c = absurd shown
operand-quiet at (bound_method o p k) vs e shown c = absurd shown

-- ---- parts in order

abbrev AreShown : List Operand → Type 0
AreShown [] = Unit {0}
AreShown (o ∷ os) = IsShown o × AreShown os

abbrev QuietOperands : Env → Answer (List Operand) → Type 0
QuietOperands e (Made os f) = Quiet e f × AreShown os
QuietOperands e (Refused rule at) = Unit {0}
QuietOperands e (Passed bound most) = Unit {0}

all-then : (e : Env) (first : Answer Operand) (go : Operand → Env → Answer (List Operand)) → Classless e → QuietOperand e first → ((o : Operand) (f : Env) → IsShown o → Classless f → QuietOperands f (go o f)) → QuietOperands e (onward first go)
all-then e (Made o f) go c q next = further (go o f) (next o f q.1 (quiet-classless e f c q.0))
  where
    further : (r : Answer (List Operand)) → QuietOperands f r → QuietOperands e r
    further (Made os g) k = (quiet-through e f g q.0 k.0, k.1)
    further (Refused rule at) k = tt
    further (Passed bound most) k = tt
all-then e (Refused rule at) go c q next = tt
all-then e (Passed bound most) go c q next = tt

all-behind : (o : Operand) (e : Env) (rest : Answer (List Operand)) → IsShown o → QuietOperands e rest → QuietOperands e (onward rest (λ os f. Made (o ∷ os) f))
all-behind o e (Made os f) shown q = (q.0, (shown, q.1))
all-behind o e (Refused rule at) shown q = tt
all-behind o e (Passed bound most) shown q = tt

all-quiet : (ps : List Part) (e : Env) → AreQuietParts ps → Classless e → QuietOperands e (all (map (λ (p : Part). p.run) ps) e)
all-quiet [] e k c = (quiet-none e c, tt)
all-quiet (p ∷ ps) e k c =
    all-then e (p.run e) (λ o f. onward (all (map (λ (q : Part). q.run) ps) f) (λ os g. Made (o ∷ os) g)) c (k.0.run e c)
    (λ o f shown cf. all-behind o f (all (map (λ (q : Part). q.run) ps) f) shown (all-quiet ps f k.1 cf))

each-of-quiet : (os : List Operand) (e : Env) → AreShown os → Classless e → QuietIn e (each value_of os e)
each-of-quiet [] e shown c = quiet-none e c
each-of-quiet (o ∷ os) e shown c =
    quiet-onward e (value_of o e) _ c (value_of-quiet o e shown.0 c) (λ v f cf. quiet-onward f (each value_of os f) (λ vs g. Made (v ∷ vs) g) cf (each-of-quiet os f shown.1 cf) (λ vs g cg. quiet-none g cg))

pub values-quiet : (ps : List Part) (e : Env) → AreQuietParts ps → Classless e → QuietIn e (values ps e)
values-quiet ps e k c = by (all (map (λ (p : Part). p.run) ps) e) (all-quiet ps e k c)
  where
    by : (r : Answer (List Operand)) → QuietOperands e r → QuietIn e (onward r (each value_of))
    by (Made os f) q = further (each value_of os f) (each-of-quiet os f q.1 (quiet-classless e f c q.0))
      where
        further : (r : Answer (List Value)) → QuietIn f r → QuietIn e r
        further (Made vs g) k = quiet-through e f g q.0 k
        further (Refused rule at) k = tt
        further (Passed bound most) k = tt
    by (Refused rule at) q = tt
    by (Passed bound most) q = tt

pub both-quiet : (a b : Part) (e : Env) → IsQuietPart a → IsQuietPart b → Classless e → QuietIn e (both a b e)
both-quiet a b e ka kb c =
    shown-behind e (a.run e) _ c (ka.run e c)
    (λ o f so cf. shown-behind f (b.run f) _ cf (kb.run f cf)
    (λ p g sp cg. quiet-onward g (value_of o g) _ cg (value_of-quiet o g so cg)
    (λ x h ch. quiet-onward h (value_of p h) _ ch (value_of-quiet p h sp ch) (λ y i ci. quiet-none i ci))))

-- ---- the rows

pub call-quiet : (at : ℕ) (f : Part) (args : List Part) (e : Env) → IsQuietPart f → AreQuietParts args → Classless e → QuietOperand e (expression.call at f args e)
call-quiet at f args e kf ka c =
    shown-then e (f.run e) _ c (kf.run e c)
    (λ o g so cg. shown-onward g (values args g) (λ vs. expression.one (expression.call_operand (expression.call_place at f.last_name) o vs)) cg (values-quiet args g ka cg)
    (λ vs h ch. one-quiet h (expression.call_operand (expression.call_place at f.last_name) o vs h) (operand-quiet (expression.call_place at f.last_name) o vs h so ch)))

pub built-quiet : (at : ℕ) (type : Elab ℕ) (args : List Part) (e : Env) → ((e : Env) → Classless e → QuietIn e (type e)) → AreQuietParts args → Classless e → QuietOperand e (expression.built at type args e)
built-quiet at type args e kt ka c =
    shown-onward e (type e) _ c (kt e c)
    (λ t f cf. shown-onward f (values args f) (λ vs. expression.one (λ env. expression.from_type at t vs (class_number (sort_of env.types t)) env)) cf (values-quiet args f ka cf)
    (λ vs g cg. one-quiet g (expression.from_type at t vs (class_number (sort_of g.types t)) g) (from_type-quiet at t vs g cg)))

pub conditional_row-quiet : (at : ℕ) (d a b : Part) (e : Env) → IsQuietPart d → IsQuietPart a → IsQuietPart b → Classless e → QuietOperand e (expression.conditional_row at d a b e)
conditional_row-quiet at d a b e kd ka kb c =
    shown-then e (d.run e) _ c (kd.run e c)
    (λ o e1 so c1. shown-then e1 (a.run e1) _ c1 (ka.run e1 c1)
    (λ p e2 sp c2. shown-then e2 (b.run e2) _ c2 (kb.run e2 c2)
    (λ q e3 sq c3. shown-onward e3 (value_of o e3) _ c3 (value_of-quiet o e3 so c3)
    (λ x e4 c4. shown-onward e4 (value_of p e4) _ c4 (value_of-quiet p e4 sp c4)
    (λ y e5 c5. shown-onward e5 (value_of q e5) _ c5 (value_of-quiet q e5 sq c5)
    (λ z e6 c6. one-quiet e6 (conditional at x y z e6) (conditional-quiet at x y z e6 c6)))))))

pub comma-quiet : (at : ℕ) (ps : List Part) (e : Env) → AreQuietParts ps → Classless e → QuietOperand e (expression.one (λ f. onward (values ps f) (sequence at)) e)
comma-quiet at ps e k c = one-quiet e (onward (values ps e) (sequence at)) (quiet-onward e (values ps e) (sequence at) c (values-quiet ps e k c) (λ vs f cf. sequence-quiet at vs f cf))

pub with_one-quiet : (a : Part) (go : Value → Elab Value) (e : Env) → IsQuietPart a → ((x : Value) (f : Env) → Classless f → QuietIn f (go x f)) → Classless e → QuietOperand e (expression.with_one a go e)
with_one-quiet a go e k next c = one-quiet e (onward (evaluated a e) go) (quiet-onward e (evaluated a e) go c (evaluated-quiet a e k c) next)

pub with_two-quiet : (a b : Part) (go : Value → Value → Elab Value) (e : Env) → IsQuietPart a → IsQuietPart b → ((x y : Value) (f : Env) → Classless f → QuietIn f (go x y f)) → Classless e → QuietOperand e (expression.with_two a b go e)
with_two-quiet a b go e ka kb next c = one-quiet e (onward (both a b e) (λ xy. go xy.0 xy.1)) (quiet-onward e (both a b e) (λ xy. go xy.0 xy.1) c (both-quiet a b e ka kb c) (λ xy f cf. next xy.0 xy.1 f cf))
