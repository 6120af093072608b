-- Statements: the plain statements of a valid one are valid, and the locals that it adds have complete types.
use Rattle.std.proofs.Common.{◌≡◌, ℕ, ◌+◌, Bool, true, false, ◌&&◌, ◌||◌, not, nat_le, if◌then◌else◌, List, [], ◌++◌, length, refl, sym, ap, ◌∙◌, subst}
use Rattle.std.specs.Prelude.{ℤ, int_le, Some, None, slice_get}
use Rattle.std.specs.List.{list_all}
use Rattle.cf_base.proofs.Tests.{both, all_of}
use Rattle.cf_core.specs.declared.operators.LoopForm.{LoopForm}
use Rattle.cf_core.specs.declared.operators.LoopForm.TheVariants as form
use Rattle.cf_core.specs.Types.{SourceType, is_class}
use Rattle.cf_core.specs.Core as core
use Rattle.cf_core.specs.Core.{Core, Cores, MaybeCore, local_temporary, none, absent, given}
use Rattle.cf_core.specs.Joined.{is_nothing}
use Rattle.cf_core.specs.Nodes.{nodes, nodes_all, nodes_maybe}
use Rattle.cf_core.specs.Typing.{Scope, Typing, is_integer, is_expression, same_type}
use Rattle.cf_core.specs.Typing as typed
use Rattle.cf_core.specs.Typed.{typing}
use Rattle.cf_core.specs.Valid as valid
use Rattle.cf_core.specs.Valid.{Body, is_complete, fits, all_fit, fits_maybe, labelled_fit, condition_fits, expression_fits, passes_none}
use Rattle.cf_core.specs.Statements as labels
use Rattle.cf_plain.specs.Plain.{Register, Plains, act, set, branch, loop, switch, leave, continue, give, nothing, more}
use Rattle.cf_plain.specs.Plain as plain
use Rattle.cf_plain.specs.Running.{has_case}
use Rattle.cf_plain.specs.Valid as checks
use Rattle.cf_plain.specs.Valid.{is_of}
use Rattle.cf_sequence.specs.Built.{is_value, is_condition, is_held, is_statement, is_statement_or, are_cases, are_statements, next_local}
use Rattle.cf_sequence.specs.Made.{Local, added, width, width_maybe, declared, declared_maybe, declared_all, held_by}
use Rattle.cf_sequence.specs.Expressions.{value, whole, finished, used}
use Rattle.cf_sequence.specs.Statements.{Inside, declares, opened, in_loop, in_switch, held, stepped, started, passed, looping, statement, statement_or, statements}
use Rattle.cf_sequence.proofs.Calling.{never}
use Rattle.cf_sequence.proofs.Fulls.{nothing-is}
use Rattle.cf_sequence_valid.proofs.Fine.{Fine, fine-none, fine-then, fine-by, fine-set, fine-branch, fine-loop, fine-switch, fine-leave, fine-continue, fine-give, fine-used, fine-finished}
use Rattle.cf_sequence_valid.proofs.Passing.{fine-passed}
use Rattle.cf_sequence_valid.proofs.Initials.{fine-whole, complete-start}
use Rattle.cf_sequence_valid.proofs.Lists.{local-there, starts-well}
use Rattle.cf_sequence.specs.Built.{is_element}
use Rattle.cf_sequence_valid.proofs.Serves.{Serves, as_start, either-true, integers-serve, conditions-serve, expressions-serve}
use Rattle.cf_sequence_valid.proofs.Stands.{Stand, stand-left, stand-right, stand-third, are_there, there-two}
use Rattle.cf_sequence_valid.proofs.Values.{Kept, Good, good-value, complete-two}

-- what stands in a function with these locals
pub record Stays (locals : List SourceType) (f : Inside) : Type 0 where
  pub plain_result : is_class f.result ≡ false
  pub here : are_there locals f.here ≡ true
  pub breaks : are_there locals f.breaks ≡ true
  pub continues : are_there locals f.continues ≡ true
  pub returns : are_there locals f.returns ≡ true

module _ (body : Body) (locals : List SourceType) (keeps : Kept body.scope locals) where
  abbrev scope : Scope
  scope = body.scope

  abbrev are_complete : List SourceType → Bool
  are_complete ts = list_all (is_complete body.scope.classes) ts

  stays-opened : (f : Inside) → Stays locals f → Stays locals (opened f)
  stays-opened f st = record {
    plain_result = st.plain_result;
    here = refl;
    breaks = there-two locals f.here f.breaks st.here st.breaks;
    continues = there-two locals f.here f.continues st.here st.continues;
    returns = there-two locals f.here f.returns st.here st.returns;
  }

  stays-loop : (f : Inside) → Stays locals f → Stays locals (in_loop f)
  stays-loop f st = record {
    plain_result = st.plain_result;
    here = refl;
    breaks = refl;
    continues = refl;
    returns = there-two locals f.here f.returns st.here st.returns;
  }

  stays-switch : (f : Inside) → Stays locals f → Stays locals (in_switch f)
  stays-switch f st = record {
    plain_result = st.plain_result;
    here = refl;
    breaks = refl;
    continues = there-two locals f.here f.continues st.here st.continues;
    returns = there-two locals f.here f.returns st.here st.returns;
  }

  stays-declared : (xs : List Local) (f : Inside) → are_there locals xs ≡ true → Stays locals f → Stays locals (declares xs f)
  stays-declared xs f there st = record {
    plain_result = st.plain_result;
    here = there-two locals xs f.here there st.here;
    breaks = st.breaks;
    continues = st.continues;
    returns = st.returns;
  }

  -- an expression statement
  full-serves : (b c : Bool) (e : Core) → is_value e ≡ true → fits body b c (core.full e) ≡ true → Serves (typing scope e)
  full-serves b c core.blank ok is = never ok
  full-serves b c e ok is = expressions-serve (typing scope e) is

  condition-complete : (q : MaybeCore) → is_condition q ≡ true → condition_fits body q ≡ true → are_complete (added (nodes_maybe q)) ≡ true
  condition-complete absent ok is = refl
  condition-complete (given q) ok is = Good.complete (good-value [] scope locals keeps q ok (conditions-serve (typing scope q) is))

  step-complete : (q : MaybeCore) → is_condition q ≡ true → expression_fits body q ≡ true → are_complete (added (nodes_maybe q)) ≡ true
  step-complete absent ok is = refl
  step-complete (given q) ok is = Good.complete (good-value [] scope locals keeps q ok (expressions-serve (typing scope q) is))

  truth-fine : {b c : Bool} (n : Register) → Fine locals b c (λ rest. more (set n (plain.truth n)) rest)
  truth-fine n = fine-set locals n (plain.truth n) refl

  -- a loop's condition
  fine-held : (f : Inside) (q : MaybeCore) → is_condition q ≡ true → condition_fits body q ≡ true → (k : ℕ) → Stand locals k (added (nodes_maybe q)) → (b : Bool)
      → Fine locals true b (held f.classes q k)
  fine-held f absent ok is k st b = fine-none locals
  fine-held f (given q) ok is k st b =
      fine-whole body locals keeps f q ok (conditions-serve (typing scope q) is) 0 k st (λ m rest. more (set m (plain.truth m)) rest) (λ m rest. more (branch m nothing (more leave nothing)) rest)
      truth-fine (λ m. fine-branch locals m nothing (more leave nothing) refl refl) None

  -- what is done before a further turn
  fit-stepped : (f : Inside) (q : MaybeCore) → is_condition q ≡ true → expression_fits body q ≡ true → (k : ℕ) → Stand locals k (added (nodes_maybe q))
      → checks.all_fit locals true false (stepped f.classes q k) ≡ true
  fit-stepped f absent ok is k st = refl
  fit-stepped f (given q) ok is k st =
      Fine.fit (fine-whole body locals keeps f q ok (expressions-serve (typing scope q) is) 0 k st (λ m rest. rest) (λ m rest. rest) (λ m. fine-none locals) (λ m. fine-none locals) None) nothing refl

  -- Statements.

  pub record Works (b c : Bool) (s : Core) : Type 0 where
    pub complete : are_complete (added (nodes s)) ≡ true
    pub there : are_there locals (declared s) ≡ true
    pub code : (f : Inside) → Stays locals f → (k : ℕ) → Stand locals k (added (nodes s)) → Fine locals b c (statement f s k)

  pub record AllWork (b c : Bool) (es : Cores) : Type 0 where
    pub complete : are_complete (added (nodes_all es)) ≡ true
    pub there : are_there locals (declared_all es) ≡ true
    pub code : (f : Inside) → Stays locals f → (k : ℕ) → Stand locals k (added (nodes_all es)) → Fine locals b c (statements f es k)

  -- plain statements without a label
  pub record Unlabelled (rest : Plains) : Type 0 where
    pub cases : (z : ℤ) → has_case z rest ≡ false
    pub default : checks.has_default locals rest ≡ false
    pub differ : checks.labels_differ locals rest ≡ true

  -- the statements and labels of a switch
  pub record CasesWork (c : Bool) (es : Cores) : Type 0 where
    pub complete : are_complete (added (nodes_all es)) ≡ true
    pub there : are_there locals (declared_all es) ≡ true
    pub fit : (f : Inside) → Stays locals f → (k : ℕ) → Stand locals k (added (nodes_all es)) → (rest : Plains) → checks.labelled_fit locals c rest ≡ true
        → checks.labelled_fit locals c (statements f es k rest) ≡ true
    pub cases : (f : Inside) → Stays locals f → (k : ℕ) → Stand locals k (added (nodes_all es)) → (z : ℤ) (rest : Plains) → has_case z rest ≡ false
        → has_case z (statements f es k rest) ≡ labels.has_case z es
    pub default : (f : Inside) → Stays locals f → (k : ℕ) → Stand locals k (added (nodes_all es)) → (rest : Plains) → checks.has_default locals rest ≡ false
        → checks.has_default locals (statements f es k rest) ≡ labels.has_default es
    pub differ : (f : Inside) → Stays locals f → (k : ℕ) → Stand locals k (added (nodes_all es)) → (rest : Plains) → Unlabelled rest → valid.labels_differ es ≡ true
        → checks.labels_differ locals (statements f es k rest) ≡ true

  width-maybe : (q : MaybeCore) → length (added (nodes_maybe q)) ≡ width_maybe q
  width-maybe absent = refl
  width-maybe (given e) = refl

  -- a statement of a switch, and those behind it
  case-more : {c : Bool} (s : Core) (es : Cores) → Works true c s → CasesWork c es → ((z : ℤ) → labels.has_case z (core.more s es) ≡ labels.has_case z es)
      → labels.has_default (core.more s es) ≡ labels.has_default es → valid.labels_differ (core.more s es) ≡ valid.labels_differ es → CasesWork c (core.more s es)
  case-more {c} s es w others no_case no_default differs =
      let further : (f : Inside) → Stays locals f → Stays locals (declares (declared s) f) = λ f st. stays-declared (declared s) f w.there st in
      let first : (k : ℕ) → Stand locals k (added (nodes s ++ nodes_all es)) → Stand locals k (added (nodes s)) = λ k l. stand-left locals k (nodes s) (nodes_all es) l in
      let second : (k : ℕ) → Stand locals k (added (nodes s ++ nodes_all es)) → Stand locals (k + width s) (added (nodes_all es)) = λ k l. stand-right locals k (nodes s) (nodes_all es) l in
      record {
        complete = complete-two [] scope locals keeps (nodes s) (nodes_all es) w.complete others.complete;
        there = there-two locals (declared_all es) (declared s) others.there w.there;
        fit = λ f st k l rest ok. Fine.labelled (w.code f st k (first k l)) _ refl (others.fit (declares (declared s) f) (further f st) (k + width s) (second k l) rest ok);
        cases = λ f st k l z rest ok.
            Fine.cases (w.code f st k (first k l)) z _ ∙ others.cases (declares (declared s) f) (further f st) (k + width s) (second k l) z rest ok ∙ sym (no_case z);
        default = λ f st k l rest ok.
            Fine.default (w.code f st k (first k l)) _ ∙ others.default (declares (declared s) f) (further f st) (k + width s) (second k l) rest ok ∙ sym no_default;
        differ = λ f st k l rest free ok.
            Fine.differ (w.code f st k (first k l)) _ ∙ others.differ (declares (declared s) f) (further f st) (k + width s) (second k l) rest free (sym differs ∙ ok);
      }

  case-label : {c : Bool} (y : ℤ) (es : Cores) → CasesWork c es → CasesWork c (core.more (core.case_label y) es)
  case-label y es others =
      let second : (k : ℕ) → Stand locals k (added (nodes_all es)) → Stand locals (k + 0) (added (nodes_all es)) = λ k l. stand-right locals k [] (nodes_all es) l in
      record {
        complete = others.complete;
        there = there-two locals (declared_all es) [] others.there refl;
        fit = λ f st k l rest ok. others.fit f st (k + 0) (second k l) rest ok;
        cases = λ f st k l z rest ok. ap (λ b. (int_le y z && int_le z y) || b) (others.cases f st (k + 0) (second k l) z rest ok);
        default = λ f st k l rest ok. others.default f st (k + 0) (second k l) rest ok;
        differ = λ f st k l rest free ok.
            let parts = both (not (labels.has_case y es)) (valid.labels_differ es) ok in
            all_of (not (has_case y (statements f es (k + 0) rest))) (checks.labels_differ locals (statements f es (k + 0) rest))
            (ap not (others.cases f st (k + 0) (second k l) y rest (free.cases y)) ∙ parts.0) (others.differ f st (k + 0) (second k l) rest free parts.1);
      }

  the-default : {c : Bool} (es : Cores) → CasesWork c es → CasesWork c (core.more core.default_label es)
  the-default es others =
      let second : (k : ℕ) → Stand locals k (added (nodes_all es)) → Stand locals (k + 0) (added (nodes_all es)) = λ k l. stand-right locals k [] (nodes_all es) l in
      record {
        complete = others.complete;
        there = there-two locals (declared_all es) [] others.there refl;
        fit = λ f st k l rest ok. others.fit f st (k + 0) (second k l) rest ok;
        cases = λ f st k l z rest ok. others.cases f st (k + 0) (second k l) z rest ok;
        default = λ f st k l rest ok. refl;
        differ = λ f st k l rest free ok.
            let parts = both (not (labels.has_default es)) (valid.labels_differ es) ok in
            all_of (not (checks.has_default locals (statements f es (k + 0) rest))) (checks.labels_differ locals (statements f es (k + 0) rest))
            (ap not (others.default f st (k + 0) (second k l) rest free.default) ∙ parts.0) (others.differ f st (k + 0) (second k l) rest free parts.1);
      }

  -- the value of a switch, and then its statements
  selection-fine : {b c : Bool} (f : Inside) (m : ℕ) (e : Core) (es : Cores) → Stays locals f → is_value e ≡ true → are_cases m es ≡ true → Serves (typing scope e)
      → valid.labels_differ es ≡ true → CasesWork c es → (k : ℕ) → Stand locals k (added (nodes e ++ nodes_all es)) → Fine locals b c (statement f (core.switch e es) k)
  selection-fine {b} {c} f m e es st is are s differs work k l =
      let row = stand-right locals k (nodes e) (nodes_all es) l in
      let ends : Plains = finished (declared_all es) nothing in
      let code : Plains = statements (in_switch f) es (k + width e) ends in
      let end_fine : Fine locals true c (finished (declared_all es)) = fine-finished locals (declared_all es) work.there in
      let free : Unlabelled ends = record { cases = λ z. Fine.cases end_fine z nothing; default = Fine.default end_fine nothing; differ = Fine.differ end_fine nothing } in
      let differ : checks.labels_differ locals code ≡ true = work.differ (in_switch f) (stays-switch f st) (k + width e) row ends free differs in
      let fit : checks.labelled_fit locals c code ≡ true =
      work.fit (in_switch f) (stays-switch f st) (k + width e) row ends (Fine.labelled end_fine nothing refl refl) in
      fine-whole body locals keeps f e is s 0 k (stand-left locals k (nodes e) (nodes_all es) l) (λ n rest. used n rest) (λ n rest. passed n es (more (switch n code) rest))
      (λ n. fine-used locals n)
      (λ n.
      fine-then locals (passed n es) (λ rest. more (switch n code) rest) (fine-passed locals n es m are work.there differs) (fine-switch locals n code differ fit)) None

  returned-fine : {b c : Bool} (f : Inside) (e : Core) → Stays locals f → is_value e ≡ true → Serves (typing scope e) → (k : ℕ) → Stand locals k (added (nodes e))
      → Fine locals b c (statement f (core.give (given e)) k)
  returned-fine f e st is s k l =
      let all_there = there-two locals f.here f.returns st.here st.returns in
      let by_value : Plains → Plains = λ rest.
      whole e 0 k (λ x n rest. value f.classes x e None n k (used n rest)) (λ n. finished (f.here ++ f.returns) (more (give (Some n)) rest)) in
      let in_place : Plains → Plains = λ rest.
      more (set 0 plain.result) (started f.classes f.result e 0 k (finished (f.here ++ f.returns) (more (give None) rest))) in
      fine-by locals (statement f (core.give (given e)) k) by_value (λ rest. ap (λ t. if t then in_place rest else by_value rest) st.plain_result)
      (fine-whole body locals keeps f e is s 0 k l (λ n rest. used n rest) (λ n rest. finished (f.here ++ f.returns) (more (give (Some n)) rest)) (λ n. fine-used locals n)
      (λ n. fine-then locals (finished (f.here ++ f.returns)) (λ rest. more (give (Some n)) rest) (fine-finished locals (f.here ++ f.returns) all_there) (fine-give locals (Some n))) None)

  pub record MaybeWorks (b c : Bool) (o : MaybeCore) : Type 0 where
    pub complete : are_complete (added (nodes_maybe o)) ≡ true
    pub there : are_there locals (declared_maybe o) ≡ true
    pub code : (f : Inside) → Stays locals f → (k : ℕ) → Stand locals k (added (nodes_maybe o)) → Fine locals b c (statement_or f o k)

  loop-fine : {b c : Bool} (how : LoopForm) (f : Inside) (q e : MaybeCore) (s : Core) → Stays locals f → is_condition q ≡ true → is_condition e ≡ true → condition_fits body q ≡ true
      → expression_fits body e ≡ true → are_there locals (declared s) ≡ true
      → ((f : Inside) → Stays locals f → (k : ℕ) → Stand locals k (added (nodes s)) → Fine locals true true (statement f s k)) → (k : ℕ)
      → Stand locals k (added (nodes_maybe q ++ nodes_maybe e ++ nodes s)) → Fine locals b c (statement f (core.loop how q e s) k)
  loop-fine how f q e s st test next tested nexted there turned k l =
      let begin = stand-left locals k (nodes_maybe q ++ nodes_maybe e) (nodes s) l in
      let first = stand-left locals k (nodes_maybe q) (nodes_maybe e) begin in
      let second : Stand locals (k + width_maybe q) (added (nodes_maybe e)) =
      subst (λ n. Stand locals (k + n) (added (nodes_maybe e))) (width-maybe q) (stand-right locals k (nodes_maybe q) (nodes_maybe e) begin) in
      let third : Stand locals (k + width_maybe q + width_maybe e) (added (nodes s)) =
      subst (λ n. Stand locals (k + width_maybe q + n) (added (nodes s))) (width-maybe e)
      (subst (λ n. Stand locals (k + n + length (added (nodes_maybe e))) (added (nodes s))) (width-maybe q) (stand-third locals k (nodes_maybe q) (nodes_maybe e) (nodes s) l)) in
      let code : Plains = statement (in_loop f) s (k + width_maybe q + width_maybe e) (finished (declared s) nothing) in
      let inner : checks.all_fit locals true true code ≡ true =
      Fine.fit (turned (in_loop f) (stays-loop f st) (k + width_maybe q + width_maybe e) third) (finished (declared s) nothing)
      (Fine.fit (fine-finished locals {b = true} {c = true} (declared s) there) nothing refl) in
      by how
      (fine-loop locals (held f.classes q k code) (stepped f.classes e (k + width_maybe q)) (Fine.fit (fine-held f q test tested k first true) code inner) (fit-stepped f e next nexted (k + width_maybe q) second))
      (fine-loop locals code (held f.classes q k nothing) inner (Fine.fit (fine-held f q test tested k first false) nothing refl))
    where
      by : {b c : Bool} (how : LoopForm) → Fine locals b c (looping f.classes q e k (statement (in_loop f) s (k + width_maybe q + width_maybe e) (finished (declared s) nothing)))
          → Fine locals b c (λ rest. more (loop (statement (in_loop f) s (k + width_maybe q + width_maybe e) (finished (declared s) nothing)) (held f.classes q k nothing)) rest)
          → Fine locals b c (statement f (core.loop how q e s) k)
      by form.While p q = p
      by form.For p q = p
      by form.Do p q = q

  mutual
    pub works : (s : Core) (m : ℕ) (b c : Bool) → is_statement m s ≡ true → fits body b c s ≡ true → Works b c s
    works (core.full e) m b c ok is =
        record {
          complete = complete-start body locals keeps e ok (λ v. full-serves b c e v is);
          there = refl;
          code = λ f st k l.
              either-true (is_nothing e) (is_value e) ok
              (λ blank. fine-by locals (statement f (core.full e) k) (λ rest. rest) (λ rest. ap (λ e. statement f (core.full e) k rest) (nothing-is e blank)) (fine-none locals))
              (λ v. fine-whole body locals keeps f e v (full-serves b c e v is) 0 k l (λ m rest. rest) (λ m rest. rest) (λ m. fine-none locals) (λ m. fine-none locals) None);
        }
    works (core.block es) m b c ok is =
        let all = work-all es m b c ok is in
        record {
          complete = all.complete;
          there = refl;
          code = λ f st k l.
              fine-then locals (statements (opened f) es k) (finished (declared_all es)) (all.code (opened f) (stays-opened f st) k l) (fine-finished locals (declared_all es) all.there);
        }
    works (core.sequence es) m b c ok is =
        let all = work-all es m b c ok is in record { complete = all.complete; there = all.there; code = all.code }
    works (core.declare i t e) m b c ok is =
        let start = (both (nat_le m i) (is_element t e || is_held i e) ok).1 in
        let parts = both (nat_le body.parameters i && same_type (slice_get scope.locals i) t && is_complete scope.classes t) ((typing scope e).start t) is in
        let typed = both (nat_le body.parameters i && same_type (slice_get scope.locals i) t) (is_complete scope.classes t) parts.0 in
        let there = local-there body locals keeps i t (both (nat_le body.parameters i) (same_type (slice_get scope.locals i) t) typed.0).1 in
        let good = starts-well body locals keeps i t e start parts.1 in
        record {
          complete = good.complete;
          there = all_of (is_of (slice_get locals i) t) (are_there locals (held_by e)) there good.there;
          code = λ f st k l.
              fine-then locals (λ rest. more (set 0 (plain.declare i t)) rest) (started f.classes t e 0 k) (fine-set locals 0 (plain.declare i t) there) (good.code b c f k l);
        }
    works (core.branch q a o) m b c ok is =
        let forms = both (is_value q) (is_statement m a && is_statement_or (next_local m a) o) ok in
        let arms = both (is_statement m a) (is_statement_or (next_local m a) o) forms.1 in
        let parts = both (typed.is_condition (typing scope q) && fits body b c a) (fits_maybe body b c o) is in
        let tested = both (typed.is_condition (typing scope q)) (fits body b c a) parts.0 in
        let s = conditions-serve (typing scope q) tested.0 in
        let yes = works a m b c arms.0 tested.1 in
        let no = work-or o (next_local m a) b c arms.1 parts.1 in
        record {
          complete =
              complete-two [] scope locals keeps (nodes q ++ nodes a) (nodes_maybe o)
              (complete-two [] scope locals keeps (nodes q) (nodes a) (Good.complete (good-value [] scope locals keeps q forms.0 s)) yes.complete) no.complete;
          there = there-two locals (declared_maybe o) (declared a) no.there yes.there;
          code = λ f st k l.
              let begin = stand-left locals k (nodes q ++ nodes a) (nodes_maybe o) l in
              let left = statement f a (k + width q) nothing in
              let right = statement_or f o (k + width q + width a) nothing in
              fine-whole body locals keeps f q forms.0 s 0 k (stand-left locals k (nodes q) (nodes a) begin) (λ n rest. more (set n (plain.truth n)) rest) (λ n rest. more (branch n left right) rest) truth-fine
              (λ n.
              fine-branch locals n left right
              (Fine.fit (yes.code f st (k + width q) (stand-right locals k (nodes q) (nodes a) begin)) nothing refl)
              (Fine.fit (no.code f st (k + width q + width a) (stand-third locals k (nodes q) (nodes a) (nodes_maybe o) l)) nothing refl)) None;
        }
    works (core.loop how q e s) m b c ok is =
        let forms = both (is_condition q) (is_condition e && is_statement m s) ok in
        let inner = both (is_condition e) (is_statement m s) forms.1 in
        let parts = both (condition_fits body q && expression_fits body e) (fits body true true s) is in
        let tests = both (condition_fits body q) (expression_fits body e) parts.0 in
        let turned = works s m true true inner.1 parts.1 in
        record {
          complete =
              complete-two [] scope locals keeps (nodes_maybe q ++ nodes_maybe e) (nodes s)
              (complete-two [] scope locals keeps (nodes_maybe q) (nodes_maybe e) (condition-complete q forms.0 tests.0) (step-complete e inner.0 tests.1)) turned.complete;
          there = refl;
          code = λ f st k l. loop-fine how f q e s st forms.0 inner.0 tests.0 tests.1 turned.there turned.code k l;
        }
    works (core.switch e es) m b c ok is =
        let forms = both (is_value e) (are_cases m es) ok in
        let parts = both (is_integer (typing scope e) && valid.labels_differ es && passes_none es) (labelled_fit body true c es) is in
        let tests = both (is_integer (typing scope e) && valid.labels_differ es) (passes_none es) parts.0 in
        let tested = both (is_integer (typing scope e)) (valid.labels_differ es) tests.0 in
        let s = integers-serve (typing scope e) tested.0 in
        let row = work-cases es m c forms.1 parts.1 in
        record {
          complete = complete-two [] scope locals keeps (nodes e) (nodes_all es) (Good.complete (good-value [] scope locals keeps e forms.0 s)) row.complete;
          there = refl;
          code = λ f st k l. selection-fine f m e es st forms.0 forms.1 s tested.1 row k l;
        }
    works core.leave m b c ok is =
        record {
          complete = refl;
          there = refl;
          code = λ f st k l.
              fine-then locals (finished (f.here ++ f.breaks)) (λ rest. more leave rest) (fine-finished locals (f.here ++ f.breaks) (there-two locals f.here f.breaks st.here st.breaks)) (fine-leave locals is);
        }
    works core.continue m b c ok is =
        record {
          complete = refl;
          there = refl;
          code = λ f st k l.
              fine-then locals (finished (f.here ++ f.continues)) (λ rest. more continue rest) (fine-finished locals (f.here ++ f.continues) (there-two locals f.here f.continues st.here st.continues)) (fine-continue locals is);
        }
    works (core.give absent) m b c ok is =
        record {
          complete = refl;
          there = refl;
          code = λ f st k l.
              fine-then locals (finished (f.here ++ f.returns)) (λ rest. more (give None) rest) (fine-finished locals (f.here ++ f.returns) (there-two locals f.here f.returns st.here st.returns)) (fine-give locals None);
        }
    works (core.give (given e)) m b c ok is =
        let s = as_start body.result is in
        record {
          complete = Good.complete (good-value [] scope locals keeps e ok s);
          there = refl;
          code = λ f st k l. returned-fine f e st ok s k l;
        }
    works s m b c ok is = never ok

    work-or : (o : MaybeCore) (m : ℕ) (b c : Bool) → is_statement_or m o ≡ true → fits_maybe body b c o ≡ true → MaybeWorks b c o
    work-or absent m b c ok is = record { complete = refl; there = refl; code = λ f st k l. fine-none locals }
    work-or (given s) m b c ok is =
        let one = works s m b c ok is in
        record { complete = one.complete; there = one.there; code = one.code }

    work-all : (es : Cores) (m : ℕ) (b c : Bool) → are_statements m es ≡ true → all_fit body b c es ≡ true → AllWork b c es
    work-all none m b c ok is = record { complete = refl; there = refl; code = λ f st k l. fine-none locals }
    work-all (core.more s es) m b c ok is =
        let forms = both (is_statement m s) (are_statements (next_local m s) es) ok in
        let parts = both (fits body b c s) (all_fit body b c es) is in
        let one = works s m b c forms.0 parts.0 in
        let others = work-all es (next_local m s) b c forms.1 parts.1 in
        record {
          complete = complete-two [] scope locals keeps (nodes s) (nodes_all es) one.complete others.complete;
          there = there-two locals (declared_all es) (declared s) others.there one.there;
          code = λ f st k l.
              fine-then locals (statement f s k) (statements (declares (declared s) f) es (k + width s)) (one.code f st k (stand-left locals k (nodes s) (nodes_all es) l))
              (others.code (declares (declared s) f) (stays-declared (declared s) f one.there st) (k + width s) (stand-right locals k (nodes s) (nodes_all es) l));
        }

    work-cases : (es : Cores) (m : ℕ) (c : Bool) → are_cases m es ≡ true → labelled_fit body true c es ≡ true → CasesWork c es
    work-cases none m c ok is = record {
      complete = refl;
      there = refl;
      fit = λ f st k l rest ok. ok;
      cases = λ f st k l z rest ok. ok;
      default = λ f st k l rest ok. ok;
      differ = λ f st k l rest free ok. free.differ;
    }
    work-cases (core.more (core.case_label y) es) m c ok is = case-label y es (work-cases es m c ok is)
    work-cases (core.more core.default_label es) m c ok is = the-default es (work-cases es m c ok is)
    work-cases (core.more s es) m c ok is =
        let forms = both (is_statement m s) (are_cases (next_local m s) es) ok in
        let parts = both (fits body true c s) (labelled_fit body true c es) is in
        case-more s es (works s m true c forms.0 parts.0) (work-cases es (next_local m s) c forms.1 parts.1) (λ z. refl) refl refl
