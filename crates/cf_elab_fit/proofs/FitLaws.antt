-- Fit by the steps that are found, and what is known of the numbers of what it gives.
use Rattle.std.proofs.Common.{◌≡◌, ℕ, false, List, [], Option, None, Some, ℤ, IsTrue, refl, sym, ap, subst, ◌∙◌}
use Rattle.cf_base.specs.declared.kind.Kind.{Kind}
use Rattle.cf_base.specs.Integers.{fits, convert}
use Rattle.cf_types.specs.Table.{Table, IsTable}
use Rattle.std.specs.Prelude.{reverse}
use Rattle.cf_convert.specs.declared.conv.ConvStep.{ConvStep}
use Rattle.cf_convert.specs.Constness.{bare}
use Rattle.cf_convert.specs.Converts.{steps}
use Rattle.cf_convert.specs.UserConversion.{Nothing, by_user}
use Rattle.cf_elab.specs.Answer.{Answer, Refused, onward}
use Rattle.cf_elab.specs.Env.{Env}
use Rattle.cf_elab.specs.Fit as standard
use Rattle.cf_elab.specs.UserFit as user
use Rattle.cf_elab.specs.Operand.{Value, Sort, sort_of, integral, val, defs}
use Rattle.cf_elab_env.specs.Holds.{Known, IsType, FitsIn, Grows, fits_sort}
use Rattle.cf_elab_env.specs.Seen.{sort_seen}
use Rattle.cf_elab_env.specs.declared.sort.Sort.{Sort as FoundSort}
use Rattle.cf_elab_env.specs.declared.sort.Sort.TheVariants as sort
use Rattle.cf_elab_env.specs.Shut as made
use Rattle.cf_elab_env.proofs.Bare.{sort_bare}
use Rattle.cf_elab_env.proofs.Growth.{bare-known}
use Rattle.cf_elab_numbers.specs.Numbers.{NumberOf}
use Rattle.cf_elab_numbers.proofs.Fits.{convert-fits}
use Rattle.cf_elab_fit.specs.Shut as shut
use Rattle.cf_elab_fit.specs.Steps.{FitsAs, is_number, misfit_rule}
use Rattle.cf_elab_fit.proofs.NoUser.{no_user_function}

-- ---- numbers

pub fits_same : (k : Kind) (z w : ℤ) → w ≡ convert k z → w ≡ z → IsTrue (fits k z)
fits_same k z w e same = subst (λ n. IsTrue (fits k n)) (sym e ∙ same) (convert-fits k z)

as_known : (types : Table) (t : ℕ) (s : Sort) (z : Option ℤ) → s ≡ sort_of types t → FitsAs s z → FitsIn types t z
as_known types t s None e h = tt
as_known types t s (Some z) e h = subst (λ s. IsTrue (fits_sort s z)) e h

pub known_by_sort : (types : Table) (v : Value) (to : ℕ) (s : FoundSort) → v.type ≡ to → IsType types to → sort_seen s ≡ sort_of types to → FitsAs (sort_seen s) v.number
    → Known types v
known_by_sort types v to s is typed e h = record {
  typed = subst (IsType types) (sym is) typed;
  number = subst (λ t. FitsIn types t v.number) (sym is) (as_known types to (sort_seen s) v.number e h);
}

number_of : (types : Table) (t : ℕ) (k : Kind) (z : Option ℤ) → sort_of types t ≡ integral k → FitsIn types t z → NumberOf k z
number_of types t k None e h = tt
number_of types t k (Some z) e h = subst (λ s. IsTrue (fits_sort s z)) e h

-- the value of an integer type that was made before
pub kind_number : (a b : Table) (v : Value) (t : ℕ) (k : Kind) → IsTable a → Grows a b → IsType a t → sort_of a t ≡ integral k → v.type ≡ bare a t → Known b v → NumberOf k v.number
kind_number a b v t k table g typed sort is known =
    let inside = bare-known a t table typed in
    let same : sort_of b v.type ≡ integral k = ap (sort_of b) is ∙ g.sorts (bare a t) inside ∙ sort_bare a table t typed ∙ sort in
    number_of b v.type k v.number same known.number

-- ---- the rule of a misfit

no_number : (a b : FoundSort) → is_number a ≡ false → misfit_rule a b ≡ 13
no_number a (sort.Enumeral e) h = rw h refl
no_number a (sort.Integral k) h = refl
no_number a (sort.ObjectPointer u) h = refl
no_number a sort.VoidPointer h = refl
no_number a (sort.FunctionPointer u) h = refl
no_number a (sort.Array u n) h = refl
no_number a (sort.Function f) h = refl
no_number a sort.Void h = refl
no_number a (sort.Reference u) h = refl

misfit_is : (types : Table) (v : Value) (t : ℕ) (a b : FoundSort) → sort_seen a ≡ sort_of types v.type → sort_seen b ≡ sort_of types t → standard.misfit types v t ≡ misfit_rule a b
misfit_is types v t (sort.Integral k) (sort.Integral l) p q = rw (← p, ← q) refl
misfit_is types v t (sort.Integral k) (sort.Enumeral d) p q = rw (← p, ← q) refl
misfit_is types v t (sort.Integral k) (sort.ObjectPointer w) p q = rw (← p, ← q) refl
misfit_is types v t (sort.Integral k) sort.VoidPointer p q = rw (← p, ← q) refl
misfit_is types v t (sort.Integral k) (sort.FunctionPointer w) p q = rw (← p, ← q) refl
misfit_is types v t (sort.Integral k) (sort.Array w m) p q = rw (← p, ← q) refl
misfit_is types v t (sort.Integral k) (sort.Function g) p q = rw (← p, ← q) refl
misfit_is types v t (sort.Integral k) sort.Void p q = rw (← p, ← q) refl
misfit_is types v t (sort.Integral k) (sort.Reference w) p q = rw (← p, ← q) refl
misfit_is types v t (sort.Enumeral e) (sort.Integral l) p q = rw (← p, ← q) refl
misfit_is types v t (sort.Enumeral e) (sort.Enumeral d) p q = rw (← p, ← q) refl
misfit_is types v t (sort.Enumeral e) (sort.ObjectPointer w) p q = rw (← p, ← q) refl
misfit_is types v t (sort.Enumeral e) sort.VoidPointer p q = rw (← p, ← q) refl
misfit_is types v t (sort.Enumeral e) (sort.FunctionPointer w) p q = rw (← p, ← q) refl
misfit_is types v t (sort.Enumeral e) (sort.Array w m) p q = rw (← p, ← q) refl
misfit_is types v t (sort.Enumeral e) (sort.Function g) p q = rw (← p, ← q) refl
misfit_is types v t (sort.Enumeral e) sort.Void p q = rw (← p, ← q) refl
misfit_is types v t (sort.Enumeral e) (sort.Reference w) p q = rw (← p, ← q) refl
misfit_is types v t (sort.ObjectPointer u) b p q = rw (← p) (sym (no_number (sort.ObjectPointer u) b refl))
misfit_is types v t sort.VoidPointer b p q = rw (← p) (sym (no_number sort.VoidPointer b refl))
misfit_is types v t (sort.FunctionPointer u) b p q = rw (← p) (sym (no_number (sort.FunctionPointer u) b refl))
misfit_is types v t (sort.Array u n) b p q = rw (← p) (sym (no_number (sort.Array u n) b refl))
misfit_is types v t (sort.Function f) b p q = rw (← p) (sym (no_number (sort.Function f) b refl))
misfit_is types v t sort.Void b p q = rw (← p) (sym (no_number sort.Void b refl))
misfit_is types v t (sort.Reference u) b p q = rw (← p) (sym (no_number (sort.Reference u) b refl))

-- ---- the rows

module _ (at : ℕ) (v : Value) (t : ℕ) (env : Env) where
  pub fit_made : (ss : List ConvStep) (r : Answer Value) → Some ss ≡ steps env.types (defs env) (val v) (bare env.types t) → shut.converted at (bare env.types t) ss v env ≡ r
      → shut.fit at v t env ≡ r
  unfolding shut.fit shut.converted
  fit_made ss r found h = ap (λ o. standard.fitted standard.no_user at v (bare env.types t) o env) (sym found) ∙ h

  pub user_fit_made : (ss : List ConvStep) (r : Answer Value) → Some ss ≡ steps env.types (defs env) (val v) (bare env.types t) → shut.converted at (bare env.types t) ss v env ≡ r
      → shut.user_fit at v t env ≡ r
  unfolding shut.user_fit shut.converted
  user_fit_made ss r found h = ap (λ o. standard.fitted user.user_value at v (bare env.types t) o env) (sym found) ∙ h

  module _ (a b : FoundSort) (from : sort_seen a ≡ sort_of env.types v.type) (to : sort_seen b ≡ sort_of env.types (bare env.types t))
      (none : None ≡ steps env.types (defs env) (val v) (bare env.types t)) where
    refused : standard.no_user at v (bare env.types t) env ≡ Refused (misfit_rule a b) at
    refused = ap (λ rule. Refused rule at) (misfit_is env.types v (bare env.types t) a b from to)

    pub fit_refused : shut.fit at v t env ≡ Refused (misfit_rule a b) at
    unfolding shut.fit
    fit_refused = ap (λ o. standard.fitted standard.no_user at v (bare env.types t) o env) (sym none) ∙ refused

    pub user_fit_refused : env.classes.defined ≡ [] → shut.user_fit at v t env ≡ Refused (misfit_rule a b) at
    unfolding shut.user_fit
    user_fit_refused no_class =
        let no_defs : defs env ≡ [] = ap reverse no_class in
        let nothing : by_user env.types (defs env) (val v) (bare env.types t) ≡ Nothing =
        ap (λ d. by_user env.types d (val v) (bare env.types t)) no_defs ∙ no_user_function env.types (val v) (bare env.types t) in
        ap (λ o. standard.fitted user.user_value at v (bare env.types t) o env) (sym none) ∙ ap (λ u. user.by_function at v (bare env.types t) u env) nothing ∙ refused

pub to_kind_is : (k : Kind) (v : Value) (env : Env) → shut.to_kind k v env ≡ onward (made.of_kind k env) (λ t env. shut.fit 0 v t env)
unfolding shut.to_kind shut.fit made.of_kind
to_kind_is k v env = refl

pub ruleset fit_laws = (fit_made, user_fit_made, fit_refused, user_fit_refused)
