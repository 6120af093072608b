-- const of a type (7.1.6).
use Rattle.std.proofs.Common.{◌≡◌, ℕ, ◌==◌, Bool, true, false, List, [], ◌∷◌, length, All, IsTrue, reverse, refl, subst, sym, true≢false, arith}
use Rattle.std.proofs.lemmas.List.{reverse-append}
use Rattle.std.proofs.lemmas.List.Elements.{All-append, All-cons, All-head, All-tail}
use Rattle.cf_types.specs.declared.ty.Ty.{Ty}
use Rattle.cf_types.specs.declared.ty.Ty.TheVariants as ty
use Rattle.cf_classes.specs.TypeTree.{of_types}
use Rattle.cf_elab.specs.Answer.{Elab, onward, gives}
use Rattle.cf_elab.specs.Env.{Env}
use Rattle.cf_elab.specs.Made.{intern, const_step, const_if}
use Rattle.cf_elab_env.specs.Holds.{without_class}
use Rattle.cf_elab_valid.specs.Scene.{Classless}
use Rattle.cf_elab_valid_objects.specs.Quiet.{QuietIn}
use Rattle.cf_elab_valid_objects.proofs.Steps.{quiet-none, quiet-onward, intern-quiet}

abbrev pub Plain : Ty → Type 0
Plain v = IsTrue (without_class v)

-- the same list from its end
pub all-reversed : (xs : List Ty) → All Plain xs → All Plain (reverse xs)
all-reversed [] all = all
all-reversed (x ∷ xs) all =
    subst (All Plain) (sym (reverse-append (x ∷ []) xs))
    (All-append Plain (reverse xs) (x ∷ []) (all-reversed xs (All-tail Plain x xs all)) (All-cons Plain x [] (All-head Plain x xs all) (λ i d w. absurd (omega arith))))

step-quiet : (rec : ℕ → Elab ℕ) (v : Ty) (e : Env) → Plain v → Classless e → ((u : ℕ) → QuietIn e (rec u e)) → QuietIn e (const_step rec v e)
step-quiet rec v e p c each = by v p
  where
    const : (x : Ty) → Plain x → QuietIn e (onward (intern x e) (λ u. intern (ty.Const u)))
    const x p = quiet-onward e (intern x e) (λ u. intern (ty.Const u)) c (intern-quiet x e p c) (λ u f cf. intern-quiet (ty.Const u) f refl cf)

    by : (x : Ty) → Plain x → QuietIn e (const_step rec x e)
    by (ty.Array u n) p = quiet-onward e (rec u e) _ c (each u) (λ x f cf. intern-quiet (ty.Array x n) f refl cf)
    by (ty.Ref u) p = intern-quiet (ty.Ref u) e p c
    by (ty.Fun f) p = intern-quiet (ty.Fun f) e p c
    by (ty.Const u) p = intern-quiet (ty.Const u) e p c
    by (ty.Class k) p = absurd (true≢false (sym p))
    by (ty.MemData k n) p = absurd (true≢false (sym p))
    by (ty.MemFun k n) p = absurd (true≢false (sym p))
    by ty.Void p = const ty.Void p
    by (ty.Int k) p = const (ty.Int k) p
    by (ty.Enum k) p = const (ty.Enum k) p
    by (ty.Ptr k) p = const (ty.Ptr k) p

of_types-quiet : (t0 : ℕ) (xs : List Ty) (e : Env) → All Plain xs → Classless e → (t : ℕ) → QuietIn e (of_types (gives t0) const_step xs t e)
of_types-quiet t0 [] e all c t = quiet-none e c
of_types-quiet t0 (x ∷ xs) e all c t = by (λ u. of_types-quiet t0 xs e (All-tail Plain x xs all) c u) (t == length xs)
  where
    by : ((u : ℕ) → QuietIn e (of_types (gives t0) const_step xs u e)) → (b : Bool) → QuietIn e ((elim b as (λ _. Elab ℕ) [ true ↦ const_step (of_types (gives t0) const_step xs) x | false ↦ of_types (gives t0) const_step xs t ]) e)
    by rest true = step-quiet (of_types (gives t0) const_step xs) x e (All-head Plain x xs all) c rest
    by rest false = rest t

pub const_if-quiet : (b : Bool) (t : ℕ) (e : Env) → Classless e → QuietIn e (const_if b t e)
const_if-quiet true t e c = of_types-quiet t (reverse e.types.types) e (all-reversed e.types.types c.no_type) c t
const_if-quiet false t e c = quiet-none e c
