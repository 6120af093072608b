-- Switches: the operand, and the labels by the first one at fault.
use Rattle.std.proofs.Common.{◌≡◌, ℕ, Bool, true, false, not, is_some, ◌&&◌, ◌||◌, if◌then◌else◌, List, [], ◌∷◌, ◌++◌, Option, None, Some, refl, ap, sym, ◌∙◌, true≢false}
use Rattle.std.specs.List.{list_any}
use Rattle.cf_base.specs.declared.kind.Kind.{Kind}
use Rattle.cf_core.specs.declared.node.Core.{Core as Node}
use Rattle.cf_core.specs.declared.node.Core.TheVariants as node
use Rattle.cf_elab.specs.Answer.{Answer, Made as Elaborated, Refused, onward, need, none_at}
use Rattle.cf_elab.specs.ClassOperand.{scalar_of_class}
use Rattle.cf_elab.specs.Env.{Env}
use Rattle.cf_elab.specs.Members.{class_number}
use Rattle.cf_elab.specs.Fit as standard
use Rattle.cf_elab.specs.Operand.{Value, Sort, class_sort, is_class, plain, sort_of}
use Rattle.cf_elab_arith.proofs.ChoiceLaws.ClassFree.{no_class}
use Rattle.cf_elab.specs.Statement as row
use Rattle.cf_elab.specs.Statement.{Label, no_label, case_label, default_label, Made, same_label, is_label}
use Rattle.cf_elab_env.specs.Holds.{IsEnv, IsType}
use Rattle.cf_elab_env.proofs.Growth.{grown_laws}
use Rattle.cf_elab_fit.specs.Shut as fit
use Rattle.cf_elab_arith.specs.Arith.Sorts.{kind_at}
use Rattle.cf_elab_statement.proofs.Onward.{onward-assoc, onward-same}
use Rattle.cf_elab_statement.specs.Labels as spec
use Rattle.cf_elab_statement.specs.Shut as shut

-- ---- each check is by the first label at fault

constant_is : (ms : List Made) (env : Env) → row.labels_constant ms env ≡ none_at (spec.unknown_label ms) 19 env
constant_is [] env = refl
constant_is (m ∷ ms) env = by m.label (constant_is ms env)
  where
    by_number : (b : Bool) → row.labels_constant ms env ≡ none_at (spec.unknown_label ms) 19 env
        → onward (need b 19 m.at env) (λ _. row.labels_constant ms) ≡ none_at (if not b then Some m.at else spec.unknown_label ms) 19 env
    by_number true rest = rest
    by_number false rest = refl

    by : (l : Label) → row.labels_constant ms env ≡ none_at (spec.unknown_label ms) 19 env
        → row.labels_constant (record m { label = l } ∷ ms) env ≡ none_at (if spec.is_unknown l then Some m.at else spec.unknown_label ms) 19 env
    by no_label rest = rest
    by default_label rest = rest
    by (case_label v) rest = by_number (is_some v.number) rest

differ_step : (k : Kind) (before : List Label) (m : Made) (ms : List Made) (seen : List Made) (b c : Bool) (env : Env) → b ≡ c
    → row.labels_differ k (m.label ∷ before) ms env ≡ none_at (spec.repeated_behind k (seen ++ m ∷ []) ms) 20 env
    → onward (need (not b) 20 m.at env) (λ _. row.labels_differ k (m.label ∷ before) ms) ≡ none_at (if c then Some m.at else spec.repeated_behind k (seen ++ m ∷ []) ms) 20 env
differ_step k before m ms seen true true env e rest = refl
differ_step k before m ms seen true false env e rest = cc
differ_step k before m ms seen false true env e rest = cc
differ_step k before m ms seen false false env e rest = rest

any_last : {A : Type 0} (p : A → Bool) (xs : List A) (x : A) → list_any p (xs ++ x ∷ []) ≡ p x || list_any p xs
any_last p [] x = refl
any_last p (y ∷ ys) x = ap (λ b. p y || b) (any_last p ys x) ∙ swap (p y) (p x) (list_any p ys)
  where
    swap : (a b c : Bool) → a || (b || c) ≡ b || (a || c)
    swap true true c = refl
    swap true false c = refl
    swap false b c = refl

differ_is : (k : Kind) (before : List Label) (seen ms : List Made) (env : Env)
    → ((l : Label) → list_any (same_label k l) before ≡ list_any (λ (m : Made). same_label k l m.label) seen)
    → row.labels_differ k before ms env ≡ none_at (spec.repeated_behind k seen ms) 20 env
differ_is k before seen [] env same = refl
differ_is k before seen (m ∷ ms) env same =
    differ_step k before m ms seen (list_any (same_label k m.label) before) (list_any (spec.same_labels k m) seen) env (same m.label)
    (differ_is k (m.label ∷ before) (seen ++ m ∷ []) ms env
    (λ l. ap (λ b. same_label k l m.label || b) (same l) ∙ sym (any_last (λ (n : Made). same_label k l n.label) seen m)))

pass_is : (passed : Bool) (ms : List Made) (env : Env) → row.labels_pass_none passed ms env ≡ none_at (spec.passing_behind passed ms) 23 env
pass_is passed [] env = refl
pass_is passed (m ∷ ms) env = by (passed && is_label m.label) (pass_is (passed || m.initialises) ms env)
  where
    by : (b : Bool) → row.labels_pass_none (passed || m.initialises) ms env ≡ none_at (spec.passing_behind (passed || m.initialises) ms) 23 env
        → onward (need (not b) 23 m.at env) (λ _. row.labels_pass_none (passed || m.initialises) ms)
        ≡ none_at (if b then Some m.at else spec.passing_behind (passed || m.initialises) ms) 23 env
    by true rest = refl
    by false rest = rest

module _ (k : Kind) (ms : List Made) (env : Env) where
  pass_behind : (o : Option ℕ) → onward (none_at o 20 env) (λ _. row.labels_pass_none false ms) ≡ onward (none_at o 20 env) (λ _ env. none_at (spec.passing_label ms) 23 env)
  pass_behind None = pass_is false ms env
  pass_behind (Some at) = refl

  differ_behind : (o : Option ℕ) → onward (none_at o 19 env) (λ _ env. onward (row.labels_differ k [] ms env) (λ _. row.labels_pass_none false ms))
      ≡ onward (none_at o 19 env) (λ _ env. onward (none_at (spec.repeated_label k ms) 20 env) (λ _ env. none_at (spec.passing_label ms) 23 env))
  differ_behind None = ap (λ a. onward a (λ _. row.labels_pass_none false ms)) (differ_is k [] [] ms env (λ l. refl)) ∙ pass_behind (spec.repeated_label k ms)
  differ_behind (Some at) = refl

  pub check_is : shut.check_labels k ms env
      ≡ onward (shut.fault 19 (spec.unknown_label ms) env) (λ _ env. onward (shut.fault 20 (spec.repeated_label k ms) env) (λ _ env. shut.fault 23 (spec.passing_label ms) env))
  unfolding shut.check_labels shut.fault
  check_is =
      ap (λ a. onward a (λ _ env. onward (row.labels_differ k [] ms env) (λ _. row.labels_pass_none false ms))) (constant_is ms env)
      ∙ differ_behind (spec.unknown_label ms)

pub no_fault : (rule : ℕ) (o : Option ℕ) (env : Env) → o ≡ None → shut.fault rule o env ≡ Elaborated tt env
unfolding shut.fault
no_fault rule o env is = ap (λ o. none_at o rule env) is

pub some_fault : (rule at : ℕ) (o : Option ℕ) (env : Env) → o ≡ Some at → shut.fault rule o env ≡ Refused rule at
unfolding shut.fault
some_fault rule at o env is = ap (λ o. none_at o rule env) is

-- ---- nodes of labels

pub label_itself : (k : Kind) (m : Made) (n : Node) → spec.own_node k m ≡ Some n → n ≡ row.label_node k m.at m.node m.label
label_itself k m n is = by m.label is
  where
    by : (l : Label) → spec.own_node k (record m { label = l }) ≡ Some n → n ≡ row.label_node k m.at m.node l
    by no_label is = cc
    by (case_label v) is = cc
    by default_label is = cc

pub no_label_node : (k : Kind) (m : Made) → spec.own_node k m ≡ None → m.node ≡ row.label_node k m.at m.node m.label
no_label_node k m is = by m.label is
  where
    by : (l : Label) → spec.own_node k (record m { label = l }) ≡ None → m.node ≡ row.label_node k m.at m.node l
    by no_label is = refl
    by (case_label v) is = cc
    by default_label is = cc

-- ---- the operand

module _ (at : ℕ) (k : Kind) (w : Value) (ms : List Made) where
  abbrev switched_on : Value → Env → Answer Made
  switched_on x env = Elaborated (row.made at (node.Switch at x.node (row.labelled k ms))) env

  checked : (x : Value) (env : Env)
      → onward (row.labels_constant ms env) (λ _ env. onward (row.labels_differ k [] ms env) (λ _ env. onward (row.labels_pass_none false ms env) (λ _ env. switched_on x env)))
      ≡ onward (shut.check_labels k ms env) (λ _ env. switched_on x env)
  unfolding shut.check_labels
  checked x env =
      sym
      (onward-assoc (row.labels_constant ms env) (λ _ env. onward (row.labels_differ k [] ms env) (λ _. row.labels_pass_none false ms)) (λ _ env. switched_on x env)
      ∙ onward-same (row.labels_constant ms env) (λ _ env. onward (onward (row.labels_differ k [] ms env) (λ _. row.labels_pass_none false ms)) (λ _ env. switched_on x env))
      (λ _ env. onward (row.labels_differ k [] ms env) (λ _ env. onward (row.labels_pass_none false ms env) (λ _ env. switched_on x env)))
      (λ _ env. onward-assoc (row.labels_differ k [] ms env) (λ _. row.labels_pass_none false ms) (λ _ env. switched_on x env)))

  pub on_is : (env : Env) → shut.switch_on at k w ms env
      ≡ onward (fit.to_kind k w env) (λ x env. onward (shut.check_labels k ms env) (λ _ env. Elaborated (row.made at (node.Switch at x.node (row.labelled k ms))) env))
  unfolding shut.switch_on fit.to_kind
  on_is env =
      onward-same (standard.to_kind k w env)
      (λ x env. onward (row.labels_constant ms env) (λ _ env. onward (row.labels_differ k [] ms env) (λ _ env. onward (row.labels_pass_none false ms env) (λ _ env. switched_on x env))))
      (λ x env. onward (shut.check_labels k ms env) (λ _ env. switched_on x env)) checked

module _ (at : ℕ) (w : Value) (ms : List Made) (env : Env) where
  pub plain_kind : (k : Kind) → kind_at env.types w.type ≡ Some k → shut.switch_plain at w ms env ≡ shut.switch_on at k w ms env
  unfolding shut.switch_plain kind_at
  plain_kind k is = ap (λ o. onward (row.switched at w o env) (λ k. shut.switch_on at k w ms)) is

  pub no_kind : kind_at env.types w.type ≡ None → shut.switch_plain at w ms env ≡ Refused 13 at
  unfolding shut.switch_plain kind_at
  no_kind is = ap (λ o. onward (row.switched at w o env) (λ k. shut.switch_on at k w ms)) is

no_number : (s : Sort) → is_class s ≡ false → class_number s ≡ None
no_number (class_sort c) h = absurd (true≢false h)
no_number s h = refl

-- no operand is a class object
pub switch_is : (at : ℕ) (v : Value) (ms : List Made) (env : Env) → IsEnv env → IsType env.types v.type
    → shut.switch_behind at v ms env ≡ onward (fit.plain v env) (λ w env. shut.switch_plain at w ms env)
unfolding shut.switch_behind fit.plain
switch_is at v ms env e typed =
    ap (λ c. onward (scalar_of_class 13 at v c env) (λ u env. onward (plain u env) (λ w env. shut.switch_plain at w ms env)))
    (no_number (sort_of env.types v.type) (no_class env.types v.type e.table e.no_class_type typed))

pub ruleset switch_laws = (switch_is, grown_laws)

pub ruleset check_laws = (check_is)

pub ruleset fault_laws = (no_fault, some_fault)

pub ruleset node_laws = (label_itself, no_label_node)

pub ruleset kind_laws = (on_is, grown_laws)

pub ruleset plain_laws = (plain_kind, no_kind, grown_laws)
