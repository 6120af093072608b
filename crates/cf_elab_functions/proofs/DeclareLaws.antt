-- A declaration of a function, check by check.
use Rattle.std.proofs.Common.{◌≡◌, ℕ, Bool, true, false, not, ◌||◌, List, Option, None, Some, refl, ap, ◌∙◌}
use Rattle.cf_types.specs.Table.{Table}
use Rattle.cf_elab.specs.Answer.{Answer, Made, onward, need}
use Rattle.cf_elab.specs.Env.{Env}
use Rattle.cf_elab.specs.Functions as functions
use Rattle.cf_elab.specs.Functions.{Says, operator_form, is_called_main, main_form, is_function_set}
use Rattle.cf_elab.specs.Names.{declared_here}
use Rattle.cf_elab_functions.specs.declared.says.Called.{Called}
use Rattle.cf_elab_functions.specs.declared.says.Called.TheVariants as called
use Rattle.cf_elab_functions.specs.declared.says.Says.{Says as Said}
use Rattle.cf_elab_functions.specs.Seen.{called_seen, says_seen}
use Rattle.cf_elab_functions.specs.Shut as shut

pub old_entry : (d : Says) (o : Option ℕ) (n : ℕ) (env : Env) → o ≡ Some n → shut.entry_or_new d o env ≡ shut.known_at d n env
unfolding shut.entry_or_new shut.known_at
old_entry d o n env is = ap (λ o. shut.entry_or_new d o env) is

pub no_entry : (d : Says) (o : Option ℕ) (env : Env) → o ≡ None → shut.entry_or_new d o env ≡ shut.new_entry d env
unfolding shut.entry_or_new shut.new_entry
no_entry d o env is = ap (λ o. shut.entry_or_new d o env) is

-- no operator
no_operator : (types : Table) (int_type : ℕ) (d : Says) (name : List ℕ) (k : Called) → d.called ≡ called_seen name k → operator_form types int_type d ≡ true
no_operator types int_type d name k is = ap (λ c. operator_form types int_type (record d { called = c })) is ∙ by k
  where
    by : (k : Called) → operator_form types int_type (record d { called = called_seen name k }) ≡ true
    by called.Main = refl
    by called.Plain = refl

module _ (int_type : ℕ) (s : Said) (env : Env) where
  abbrev d : Says
  d = says_seen s

  abbrev here : Option ℕ
  here = declared_here env s.name

  pub declare_is : shut.declare_function int_type (says_seen s) env
      ≡ onward (shut.need_main int_type (says_seen s) env) (λ _ e. onward (shut.need_set (declared_here env s.name) s.at e) (λ _ f.
      onward (shut.entry_or_new (says_seen s) (shut.entry_of env (says_seen s)) f) (λ n g. onward (shut.entity_joined (says_seen s) n (declared_here env s.name) g) (λ _ h. Made n h))))
  unfolding shut.declare_function shut.need_main shut.need_set shut.entry_or_new shut.entry_of shut.entity_joined
  declare_is = by (not (is_called_main d.called) || main_form env.types int_type d)
    where
      rest : Env → Answer ℕ
      rest f = onward (need (is_function_set env here) 8 s.at f) (λ _ f. onward (functions.entry_or_new d (functions.entry_of env d) f) (λ n g. onward (functions.entity_joined d n here g) (λ _ h. Made n h)))

      by : (b : Bool) → onward (need b 11 s.at env) (λ _ e. onward (need (operator_form env.types int_type d) 47 s.at e) (λ _ f. rest f))
          ≡ onward (need b 11 s.at env) (λ _ e. onward (need (is_function_set e here) 8 s.at e) (λ _ f.
          onward (functions.entry_or_new d (functions.entry_of env d) f) (λ n g. onward (functions.entity_joined d n here g) (λ _ h. Made n h))))
      by true = ap (λ o. onward (need o 47 s.at env) (λ _ f. rest f)) (no_operator env.types int_type d s.name s.called refl)
      by false = refl

pub ruleset entry_laws = (old_entry, no_entry)

pub ruleset declare_laws = (declare_is)
