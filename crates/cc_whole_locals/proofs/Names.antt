-- Which block a name stands for.
use Rattle.std.proofs.Common.{◌≡◌, ℕ, zero, suc, ◌+◌, Bool, true, false, ◌&&◌, ◌||◌, not, if◌then◌else◌, List, [], ◌∷◌, bytes_eq, refl, sym, ◌∙◌, ap, subst, arith}
use Rattle.std.specs.Prelude.{Option, Some, None, slice_get}
use Rattle.cf_base.proofs.Tests.{both, bytes_same}
use Rattle.cc_whole.specs.declared.statement.CLocal.{CLocal}
use Rattle.cc_whole.specs.declared.unit.CParameter.{CParameter}
use Rattle.cc_whole_mean.specs.declared.named.Named.{Named}
use Rattle.cc_whole_mean.specs.declared.named.Named.TheVariants.{Variable as variable}
use Rattle.cc_whole_mean.specs.declared.named.Shape.TheVariants.{Single as single}
use Rattle.cc_whole_mean.specs.Scope.{Scope, bind, bind_locals, bind_parameters}
use Rattle.cc_whole_mean.specs.Types.{scalar_of, local_shape}
use Rattle.cc_whole_locals.specs.Names.{is_local, is_parameter, locals_differ, parameters_differ}

either : (a b : Bool) → (a || b) ≡ false → (a ≡ false) × (b ≡ false)
either true b h = absurd (let k = h in cc)
either false b h = (refl, h)

is-false : (b : Bool) → not b ≡ true → b ≡ false
is-false true h = absurd (let k = h in cc)
is-false false h = refl

-- ---- locals

pub other-local : (xs : List CLocal) (b : ℕ) (scope : Scope) (name : List ℕ) → is_local name xs ≡ false → bind_locals xs b scope name ≡ scope name
other-local [] b scope name h = refl
other-local (x ∷ xs) b scope name h =
    let two = either (bytes_eq name x.name) (is_local name xs) h in
    other-local xs (suc b) (bind x.name (variable b (local_shape x.ty)) scope) name two.1
    ∙ ap (λ (t : Bool). if t then Some (variable b (local_shape x.ty)) else scope name) two.0

some-local : {x y : CLocal} → Some x ≡ Some y → x ≡ y
some-local e = cc

pub bound-local : (xs : List CLocal) (b : ℕ) (scope : Scope) → locals_differ xs ≡ true → (i : ℕ) (x : CLocal) → slice_get xs i ≡ Some x
    → bind_locals xs b scope x.name ≡ Some (variable (b + i) (local_shape x.ty))
bound-local [] b scope h i x e = absurd (let k = e in cc)
bound-local (y ∷ ys) b scope h zero x e =
    subst (λ (z : CLocal). bind_locals (y ∷ ys) b scope z.name ≡ Some (variable (b + 0) (local_shape z.ty))) (some-local e) first
  where
    first : bind_locals (y ∷ ys) b scope y.name ≡ Some (variable (b + 0) (local_shape y.ty))
    first =
        other-local ys (suc b) (bind y.name (variable b (local_shape y.ty)) scope) y.name (is-false (is_local y.name ys) (both (not (is_local y.name ys)) (locals_differ ys) h).0)
        ∙ ap (λ (t : Bool). if t then Some (variable b (local_shape y.ty)) else scope y.name) (bytes_same y.name y.name refl)
        ∙ ap (λ (n : ℕ). Some (variable n (local_shape y.ty))) (let n : b ≡ b + 0 = omega arith in n)
bound-local (y ∷ ys) b scope h (suc i) x e =
    bound-local ys (suc b) (bind y.name (variable b (local_shape y.ty)) scope) (both (not (is_local y.name ys)) (locals_differ ys) h).1 i x e
    ∙ ap (λ (n : ℕ). Some (variable n (local_shape x.ty))) (let n : suc b + i ≡ b + suc i = omega arith in n)

-- ---- parameters

pub other-parameter : (xs : List CParameter) (b : ℕ) (scope : Scope) (name : List ℕ) → is_parameter name xs ≡ false → bind_parameters xs b scope name ≡ scope name
other-parameter [] b scope name h = refl
other-parameter (x ∷ xs) b scope name h =
    let two = either (bytes_eq name x.name) (is_parameter name xs) h in
    other-parameter xs (suc b) (bind x.name (variable b (single (scalar_of x.ty))) scope) name two.1
    ∙ ap (λ (t : Bool). if t then Some (variable b (single (scalar_of x.ty))) else scope name) two.0

some-parameter : {x y : CParameter} → Some x ≡ Some y → x ≡ y
some-parameter e = cc

pub bound-parameter : (xs : List CParameter) (b : ℕ) (scope : Scope) → parameters_differ xs ≡ true → (i : ℕ) (x : CParameter) → slice_get xs i ≡ Some x
    → bind_parameters xs b scope x.name ≡ Some (variable (b + i) (single (scalar_of x.ty)))
bound-parameter [] b scope h i x e = absurd (let k = e in cc)
bound-parameter (y ∷ ys) b scope h zero x e =
    subst (λ (z : CParameter). bind_parameters (y ∷ ys) b scope z.name ≡ Some (variable (b + 0) (single (scalar_of z.ty)))) (some-parameter e) first
  where
    first : bind_parameters (y ∷ ys) b scope y.name ≡ Some (variable (b + 0) (single (scalar_of y.ty)))
    first =
        other-parameter ys (suc b) (bind y.name (variable b (single (scalar_of y.ty))) scope) y.name (is-false (is_parameter y.name ys) (both (not (is_parameter y.name ys)) (parameters_differ ys) h).0)
        ∙ ap (λ (t : Bool). if t then Some (variable b (single (scalar_of y.ty))) else scope y.name) (bytes_same y.name y.name refl)
        ∙ ap (λ (n : ℕ). Some (variable n (single (scalar_of y.ty)))) (let n : b ≡ b + 0 = omega arith in n)
bound-parameter (y ∷ ys) b scope h (suc i) x e =
    bound-parameter ys (suc b) (bind y.name (variable b (single (scalar_of y.ty))) scope) (both (not (is_parameter y.name ys)) (parameters_differ ys) h).1 i x e
    ∙ ap (λ (n : ℕ). Some (variable n (single (scalar_of x.ty)))) (let n : suc b + i ≡ b + suc i = omega arith in n)
