-- An enumeration by its steps.
use Rattle.std.proofs.Common.{◌≡◌, ℕ, List, Option, None, Some, is_some, pos, refl, sym, ap, ◌∙◌}
use Rattle.cf_unit.specs.declared.enumeration.EnumDef.{EnumDef}
use Rattle.cf_unit.specs.declared.enumeration.Enumerator.{Enumerator}
use Rattle.cf_elab.specs.Answer.{Answer, Elab, Made, Refused, Passed, onward}
use Rattle.cf_elab.specs.Enumeration.{Counted, label_name, own_names}
use Rattle.cf_elab.specs.Env.{Env, Name}
use Rattle.cf_elab_env.specs.Shut as made
use Rattle.cf_elab_env.proofs.Growth.{grown_laws}
use Rattle.cf_elab_enumeration.specs.Shut as row
use Rattle.cf_elab_declaration.specs.Enums.Shut as shut

twice : {A B C : Type 0} (a : Answer A) (f : A → Elab B) (g : B → Elab C) → onward (onward a f) g ≡ onward a (λ x env. onward (f x env) g)
twice (Made x env) f g = refl
twice (Refused rule at) f g = refl
twice (Passed b most) f g = refl

-- ---- parts

pub own_scope_is : (t : ℕ) (es : List Enumerator) (env : Env)
    → shut.in_own_scope t es env ≡ onward (made.enter_scope env) (λ _ env. onward (shut.counted t (Some (pos 0)) es env) (λ cs env. onward (made.leave_scope env) (λ _ env. Made cs env)))
unfolding shut.in_own_scope made.enter_scope made.leave_scope
own_scope_is t es env = refl

pub ruleset own_scope_laws = (own_scope_is, grown_laws)

pub scope_is : (e t : ℕ) (name : Option (ℕ × Name)) (es : List Enumerator) (env : Env)
    → shut.in_scope e t name es env
    ≡ onward (made.enter_scope env) (λ _ env. onward (row.name_known e name env) (λ _ env. onward (shut.in_own_scope t es env) (λ cs env. onward (made.leave_scope env) (λ _ env. Made cs env))))
unfolding shut.in_scope made.enter_scope made.leave_scope
scope_is e t name es env =
    ap (λ a. onward (made.enter_scope env) a) (λ j u next. twice (row.name_known e name next) (λ _. shut.in_own_scope t es) (λ cs env. onward (made.leave_scope env) (λ _ env. Made cs env)) j)

pub ruleset scope_laws = (scope_is, grown_laws)

pub not_named : (e : ℕ) (env : Env) → row.name_known e None env ≡ Made tt env
unfolding row.name_known
not_named e env = refl

pub ruleset known_laws = (not_named)

pub declared_is : (e t : ℕ) (name : Option (ℕ × Name)) (cs : List Counted) (env : Env)
    → shut.declared e t name cs env ≡ onward (row.name_declared e t name env) (λ _ env. row.declare_all t cs env)
unfolding shut.declared
declared_is e t name cs env = refl

pub ruleset declare_laws = (declared_is)

pub no_name : (e t : ℕ) (env : Env) → row.name_declared e t None env ≡ Made tt env
unfolding row.name_declared
no_name e t env = refl

pub ruleset name_laws = (no_name)

-- ---- one after the other

module _ {B : Type 0} (g : Elab B) where
  two : (a b : Elab (Unit {0})) (env : Env) → onward (onward (a env) (λ _. b)) (λ _. g) ≡ onward (a env) (λ _ e. onward (b e) (λ _. g))
  two a b env = twice (a env) (λ _. b) (λ _. g)

  three : (a b c : Elab (Unit {0})) (env : Env)
      → onward (onward (a env) (λ _ e. onward (b e) (λ _. c))) (λ _. g) ≡ onward (a env) (λ _ e. onward (b e) (λ _ e. onward (c e) (λ _. g)))
  three a b c env = twice (a env) (λ _ e. onward (b e) (λ _. c)) (λ _. g) ∙ (λ j. onward (a env) (λ _ e. two b c e j))

  four : (a b c d : Elab (Unit {0})) (env : Env)
      → onward (onward (a env) (λ _ e. onward (b e) (λ _ e. onward (c e) (λ _. d)))) (λ _. g)
      ≡ onward (a env) (λ _ e. onward (b e) (λ _ e. onward (c e) (λ _ e. onward (d e) (λ _. g))))
  four a b c d env = twice (a env) (λ _ e. onward (b e) (λ _ e. onward (c e) (λ _. d))) (λ _. g) ∙ (λ j. onward (a env) (λ _ e. three b c d e j))

  five : (a b c d f : Elab (Unit {0})) (env : Env)
      → onward (onward (a env) (λ _ e. onward (b e) (λ _ e. onward (c e) (λ _ e. onward (d e) (λ _. f))))) (λ _. g)
      ≡ onward (a env) (λ _ e. onward (b e) (λ _ e. onward (c e) (λ _ e. onward (d e) (λ _ e. onward (f e) (λ _. g)))))
  five a b c d f env =
      twice (a env) (λ _ e. onward (b e) (λ _ e. onward (c e) (λ _ e. onward (d e) (λ _. f)))) (λ _. g) ∙ (λ j. onward (a env) (λ _ e. four b c d f e j))

-- ---- the whole row

module _ (alias : Option Name) (d : EnumDef) (env : Env) where
  abbrev behind : ℕ → ℕ → List Counted → Elab ℕ
  behind e t cs env = onward (shut.checked d.at d.name cs env) (λ _ env. onward (shut.declared e t d.name cs env) (λ _ env. Made t env))

  module _ (e t : ℕ) (cs : List Counted) where
    abbrev checks : Elab ℕ → Elab ℕ
    checks g env =
        onward (row.need_place (is_some d.name) d.at env) (λ _ env. onward (row.name_checked d.name env) (λ _ env. onward (row.all_new (own_names d.name) cs env) (λ _ env.
        onward (row.all_constant cs env) (λ _ env. onward (row.all_ints cs env) (λ _. g)))))

    abbrev ending : Elab ℕ
    ending env = onward (row.name_declared e t d.name env) (λ _ env. onward (row.declare_all t cs env) (λ _ env. Made t env))

    flat : (env : Env) → behind e t cs env ≡ checks ending env
    unfolding shut.checked shut.declared
    flat env =
        let g : Elab ℕ = λ env. onward (onward (row.name_declared e t d.name env) (λ _. row.declare_all t cs)) (λ _ env. Made t env) in
        five g (row.need_place (is_some d.name) d.at) (row.name_checked d.name) (row.all_new (own_names d.name) cs) (row.all_constant cs) (row.all_ints cs) env
        ∙ (λ j. checks (λ env. two (λ env. Made t env) (row.name_declared e t d.name) (row.declare_all t cs) env j) env)

  behind_scope : (e t : ℕ) (a : Answer (List Counted)) → onward a (λ cs env. checks e t cs (ending e t cs) env) ≡ onward a (λ cs env. behind e t cs env)
  behind_scope e t (Made cs env) = sym (flat e t cs env)
  behind_scope e t (Refused rule at) = refl
  behind_scope e t (Passed b most) = refl

  behind_new : (a : Answer (ℕ × ℕ))
      → onward a (λ n env. onward (shut.in_scope n.0 n.1 d.name d.enumerators env) (λ cs env. checks n.0 n.1 cs (ending n.0 n.1 cs) env))
      ≡ onward a (λ n env. onward (shut.in_scope n.0 n.1 d.name d.enumerators env) (λ cs env. behind n.0 n.1 cs env))
  behind_new (Made n env) = behind_scope n.0 n.1 (shut.in_scope n.0 n.1 d.name d.enumerators env)
  behind_new (Refused rule at) = refl
  behind_new (Passed b most) = refl

  pub enumeration_is : shut.enumeration alias d env
      ≡ onward (shut.new_type (label_name d.name alias) env) (λ n env. onward (shut.in_scope n.0 n.1 d.name d.enumerators env) (λ cs env. behind n.0 n.1 cs env))
  unfolding shut.enumeration shut.new_type shut.in_scope shut.in_own_scope shut.counted row.name_known row.need_place row.name_checked row.all_new row.all_constant row.all_ints row.name_declared row.declare_all
  enumeration_is = behind_new (shut.new_type (label_name d.name alias) env)

pub ruleset enumeration_laws = (enumeration_is, grown_laws)
