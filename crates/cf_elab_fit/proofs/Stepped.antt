-- The steps of a conversion, one after the other.
use Rattle.std.proofs.Common.{◌≡◌, ℕ, true, List, [], ◌∷◌, length, refl, sym, ap, ◌∙◌, true≢false, arith}
use Rattle.std.specs.List.{list_all}
use Rattle.cf_base.specs.declared.kind.Kind.{Kind}
use Rattle.cf_convert.specs.declared.conv.ConvStep.{ConvStep}
use Rattle.cf_convert.specs.declared.conv.ConvStep.TheVariants.{Read, Decay, AddConst, Promote, Integer, Null, ToVoid, ToBase, ToMember}
use Rattle.cf_core.specs.declared.node.Core.TheVariants as node
use Rattle.cf_elab.specs.Answer.{Answer, Made, onward, for_each}
use Rattle.cf_elab.specs.Env.{Env}
use Rattle.cf_elab.specs.Fit as standard
use Rattle.cf_elab.specs.Operand.{Value, read_value, sort_of}
use Rattle.cf_elab_env.specs.Seen.{sort_seen}
use Rattle.cf_elab_env.specs.declared.sort.Sort.{Sort}
use Rattle.cf_elab_env.specs.declared.sort.Sort.TheVariants as sort
use Rattle.cf_elab_fit.specs.Shut as shut
use Rattle.cf_elab_fit.specs.Steps.{kind_promoted, stays_in_class}

module _ (t : ℕ) (s : ConvStep) (v x : Value) (env : Env) where
  as_stepped : (z : ConvStep) (r : Answer Value) → s ≡ z → standard.stepped t z v env ≡ r → shut.stepped t s v env ≡ r
  unfolding shut.stepped
  as_stepped z r is h = ap (λ s. standard.stepped t s v env) is ∙ h

  same_made : (y : Value) → x ≡ y → Made y env ≡ Made x env
  same_made y e = ap (λ y. Made y env) (sym e)

  pub read_step : s ≡ Read → x ≡ read_value env.types v → shut.stepped t s v env ≡ Made x env
  read_step is e = as_stepped Read (Made x env) is (same_made (read_value env.types v) e)

  pub decay_step : (r : Answer Value) → s ≡ Decay → shut.plain v env ≡ r → shut.stepped t s v env ≡ r
  unfolding shut.plain
  decay_step r is h = as_stepped Decay r is h

  pub const_step : s ≡ AddConst → shut.stepped t s v env ≡ Made v env
  const_step is = as_stepped AddConst (Made v env) is refl

  pub promote_step : (found : Sort) (k : Kind) → s ≡ Promote → sort_seen found ≡ sort_of env.types t → k ≡ kind_promoted found → x ≡ standard.to_integer t k v
      → shut.stepped t s v env ≡ Made x env
  promote_step found k is e kind made =
      as_stepped Promote (Made x env) is (by found e ∙ ap (λ k. Made (standard.to_integer t k v) env) (sym kind) ∙ same_made (standard.to_integer t k v) made)
    where
      by : (found : Sort) → sort_seen found ≡ sort_of env.types t → standard.stepped t Promote v env ≡ Made (standard.to_integer t (kind_promoted found) v) env
      by (sort.Integral k) e = rw (← e) refl
      by (sort.Enumeral n) e = rw (← e) refl
      by (sort.ObjectPointer u) e = rw (← e) refl
      by sort.VoidPointer e = rw (← e) refl
      by (sort.FunctionPointer u) e = rw (← e) refl
      by (sort.Array u n) e = rw (← e) refl
      by (sort.Function f) e = rw (← e) refl
      by sort.Void e = rw (← e) refl
      by (sort.Reference u) e = rw (← e) refl

  pub integer_step : (k : Kind) → s ≡ Integer k → x ≡ standard.to_integer t k v → shut.stepped t s v env ≡ Made x env
  integer_step k is e = as_stepped (Integer k) (Made x env) is (same_made (standard.to_integer t k v) e)

  pub null_step : s ≡ Null → x ≡ standard.null_of t v → shut.stepped t s v env ≡ Made x env
  null_step is e = as_stepped Null (Made x env) is (same_made (standard.null_of t v) e)

  pub void_step : s ≡ ToVoid → x ≡ standard.wrapped (λ at n. node.Convert at t n) v → shut.stepped t s v env ≡ Made x env
  void_step is e = as_stepped ToVoid (Made x env) is (same_made (standard.wrapped (λ at n. node.Convert at t n) v) e)

pub ruleset step_laws = (read_step, decay_step, const_step, promote_step, integer_step, null_step, void_step)

-- ---- all of them

pub no_more_steps : (t : ℕ) (ss : List ConvStep) (v x : Value) (env : Env) → length ss ≡ 0 → x ≡ record v { type = t } → shut.all_steps t ss v env ≡ Made x env
unfolding shut.all_steps
no_more_steps t [] v x env is e = ap (λ x. Made x env) (sym e)
no_more_steps t (s ∷ ss) v x env is e = absurd (omega arith)

pub one_more_step : (t : ℕ) (ss rest : List ConvStep) (s : ConvStep) (v x : Value) (env next : Env) (r : Answer Value) → ss ≡ s ∷ rest → shut.stepped t s v env ≡ Made x next
    → shut.all_steps t rest x next ≡ r → shut.all_steps t ss v env ≡ r
unfolding shut.all_steps shut.stepped
one_more_step t ss rest s v x env next r is first others =
    ap (λ ss. standard.all_steps t ss v env) is ∙ ap (λ a. onward a (standard.all_steps t rest)) first ∙ others

pub ruleset all_laws = (no_more_steps, one_more_step)

-- ---- no step to a base has to be looked at

checked : (at t : ℕ) (v : Value) (ss : List ConvStep) (env : Env) → list_all stays_in_class ss ≡ true → for_each (standard.step_checked at t v) ss env ≡ Made tt env
checked at t v [] env h = refl
checked at t v (Read ∷ ss) env h = checked at t v ss env h
checked at t v (Decay ∷ ss) env h = checked at t v ss env h
checked at t v (AddConst ∷ ss) env h = checked at t v ss env h
checked at t v (Promote ∷ ss) env h = checked at t v ss env h
checked at t v (Integer k ∷ ss) env h = checked at t v ss env h
checked at t v (Null ∷ ss) env h = checked at t v ss env h
checked at t v (ToVoid ∷ ss) env h = checked at t v ss env h
checked at t v (ToBase p ∷ ss) env h = absurd (true≢false (sym h))
checked at t v (ToMember p ∷ ss) env h = absurd (true≢false (sym h))

pub converted_by : (at t : ℕ) (v : Value) (ss : List ConvStep) (env : Env) (r : Answer Value) → list_all stays_in_class ss ≡ true → shut.all_steps t ss v env ≡ r
    → shut.converted at t ss v env ≡ r
unfolding shut.converted shut.all_steps
converted_by at t v ss env r stays h = ap (λ a. onward a (λ u. standard.all_steps t ss v)) (checked at t v ss env stays) ∙ h
