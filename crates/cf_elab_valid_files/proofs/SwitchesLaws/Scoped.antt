-- What is elaborated in a scope of its own (3.2).
use Rattle.std.proofs.Common.{◌≡◌, ℕ, [], ◌∷◌, ◌++◌, refl, sym, ap, subst, ◌∙◌}
use Rattle.cf_lookup.specs.Scope.{OpenScopes}
use Rattle.cf_elab.specs.Answer.{Answer, Made, Refused, Passed, Elab, onward}
use Rattle.cf_elab.specs.Env.{Env}
use Rattle.cf_elab.specs.Names.{without_last, scoped}
use Rattle.cf_elab_valid.specs.Answers.{Good, Fine}
use Rattle.cf_elab_valid.specs.Scene.{Scene, Within, IsNumberedIn, IsOpen, Classless, Holds}
use Rattle.cf_elab_valid.proofs.Moved.{moved-holds, moved-classless}
use Rattle.cf_elab_valid.proofs.Scopes.{empty-numbered, left-numbered, left-scopes}
use Rattle.cf_elab_valid.proofs.Ways.{When}

abbrev pub entered : Env → Env
entered e = record e { scopes = record { outer = e.scopes.outer ++ e.scopes.inner ∷ []; inner = [] } }

abbrev pub left : Env → Env
left e = record e { scopes = without_last e.scopes.outer }

module _ (s : Scene) where
  entered-within : (e : Env) → Within (entered e) s → Within e s
  entered-within e w = record { types = w.types; funs = w.funs; enums = w.enums; locals = w.locals; statics = w.statics; functions = w.functions }

  left-within : (f : Env) → Within (left f) s → Within f s
  left-within f w = record { types = w.types; funs = w.funs; enums = w.enums; locals = w.locals; statics = w.statics; functions = w.functions }

  pub entered-classless : (e : Env) → Classless e → Classless (entered e)
  entered-classless e c = moved-classless s e.hand (entered e).scopes e refl c

  pub entered-holds : (e : Env) → When s e (Holds s e) → When s (entered e) (Holds s (entered e))
  entered-holds e h w = moved-holds s e.hand (entered e).scopes e refl (λ j q. empty-numbered j (e.scopes.outer ++ e.scopes.inner ∷ []) q) (h (entered-within e w))

  -- the scope is left as it was entered
  pub scope-left : {A : Type 0} (P : A → Env → Type 0) (e f : Env) (a : A) → ((f : Env) → P a f → P a (left f)) → Good s P (entered e) a f → Good s P e a (left f)
  scope-left P e f a keeps g = record {
    steps = record { types = g.steps.types; funs = g.steps.funs; enums = g.steps.enums; locals = g.steps.locals; statics = g.steps.statics; functions = g.steps.functions; homes = g.steps.homes; hand = g.steps.hand; outer = ap (λ (o : OpenScopes). o.outer) back };
    classless = moved-classless s f.hand (without_last f.scopes.outer) f refl g.classless;
    holds = λ w. moved-holds s f.hand (without_last f.scopes.outer) f refl opened (g.holds (left-within f w));
    made = λ w. keeps f (g.made (left-within f w));
  }
    where
      before : OpenScopes
      before = record { outer = e.scopes.outer; inner = e.scopes.inner }

      back : without_last f.scopes.outer ≡ before
      back = ap without_last g.steps.outer ∙ left-scopes e.scopes.outer e.scopes.inner

      opened : (i : ℕ) → IsOpen i (without_last f.scopes.outer) → IsOpen i f.scopes
      opened i q = left-numbered i f.scopes.outer (f.scopes.inner ∷ []) (subst (IsNumberedIn i) (sym g.steps.outer) (subst (IsOpen i) back q))

  pub scoped-fine : {A : Type 0} (P : A → Env → Type 0) (run : Elab A) (e : Env) → ((a : A) (f : Env) → P a f → P a (left f)) → Fine s P (entered e) (run (entered e)) → Fine s P e (scoped run e)
  scoped-fine {A} P run e keeps g = by (run (entered e)) g
    where
      by : (r : Answer A) → Fine s P (entered e) r → Fine s P e (onward r (λ a f. Made a (left f)))
      by (Made a f) g = scope-left P e f a (keeps a) g
      by (Refused rule at) g = tt
      by (Passed bound most) g = tt
