-- Names on the stack of marks.
use Rattle.std.proofs.Common.{◌≡◌, ℕ, suc, ◌+◌, ◌-◌, ◌<◌, ◌≤◌, Bool, true, false, List, [], ◌∷◌, ◌++◌, length, take, drop, get_or, Option, Some, None, bytes_eq, refl, ap, sym, ◌∙◌, arith, cond}
use Rattle.std.proofs.Math.Seq.{take-suc, drop-cons}
use Rattle.cc_whole.specs.declared.statement.CLocal.{CLocal}
use Rattle.cc_whole.specs.declared.unit.CParameter.{CParameter}
use Rattle.cc_whole_mean.specs.declared.named.Named.{Named}
use Rattle.cc_whole_mean.specs.declared.named.Named.TheVariants.{Variable as variable}
use Rattle.cc_whole_mean.specs.declared.named.Shape.{Shape}
use Rattle.cc_whole_mean.specs.declared.named.Shape.TheVariants.{Single as single}
use Rattle.cc_whole_mean.specs.Types.{scalar_of, local_shape}
use Rattle.cc_whole_mean.specs.Scope.{Scope, bind, bind_locals, bind_parameters}
use Rattle.cc_whole_step.specs.declared.mark.Mark.{Mark}
use Rattle.cc_whole_step.specs.Frames.{last_of, last_local, last_parameter, over, layer, scope_over}

pub scope_over-push : (file scope : Scope) (ms : List Mark) (m : Mark) → scope_over file scope (ms ++ m ∷ []) ≡ layer file m (scope_over file scope ms)
scope_over-push file scope [] m = refl
scope_over-push file scope (x ∷ ms) m = scope_over-push file (layer file x scope) ms m

either : (t : Bool) (m : Named) (found below : Option Named) → cond t (Some m) (over found below) ≡ over (cond t (Some m) found) below
either true m found below = refl
either false m found below = refl

-- names bound to blocks in order are found at their last place

locals-found : (xs : List CLocal) (b : ℕ) (scope : Scope) (found below : Option Named) (name : List ℕ) → scope name ≡ over found below
    → bind_locals xs b scope name ≡ over (last_local found b xs name) below
locals-found [] b scope found below name e = e
locals-found (x ∷ xs) b scope found below name e =
    locals-found xs (suc b) (bind x.name (variable b (local_shape x.ty)) scope) (cond (bytes_eq name x.name) (Some (variable b (local_shape x.ty))) found) below name
    (ap (cond (bytes_eq name x.name) (Some (variable b (local_shape x.ty)))) e ∙ either (bytes_eq name x.name) (variable b (local_shape x.ty)) found below)

pub locals-last : (xs : List CLocal) (b : ℕ) (scope : Scope) (name : List ℕ) → bind_locals xs b scope name ≡ over (last_local None b xs name) (scope name)
locals-last xs b scope name = locals-found xs b scope None (scope name) name refl

parameters-found : (xs : List CParameter) (b : ℕ) (scope : Scope) (found below : Option Named) (name : List ℕ) → scope name ≡ over found below
    → bind_parameters xs b scope name ≡ over (last_parameter found b xs name) below
parameters-found [] b scope found below name e = e
parameters-found (x ∷ xs) b scope found below name e =
    parameters-found xs (suc b) (bind x.name (variable b (single (scalar_of x.ty))) scope)
    (cond (bytes_eq name x.name) (Some (variable b (single (scalar_of x.ty)))) found) below name
    (ap (cond (bytes_eq name x.name) (Some (variable b (single (scalar_of x.ty))))) e ∙ either (bytes_eq name x.name) (variable b (single (scalar_of x.ty))) found below)

pub parameters-last : (xs : List CParameter) (b : ℕ) (scope : Scope) (name : List ℕ)
    → bind_parameters xs b scope name ≡ over (last_parameter None b xs name) (scope name)
parameters-last xs b scope name = parameters-found xs b scope None (scope name) name refl

-- one more name of a list
pub last_of-step : {A : Type 0} (f : A → List ℕ) (shape : A → Shape) (xs : List A) (b i : ℕ) (x : A) (found now : Option Named) (name : List ℕ)
    → i < length xs → x ≡ get_or xs i x → now ≡ cond (bytes_eq name (f x)) (Some (variable (b + i) (shape x))) found
    → last_of f shape found (b + i) (drop i xs) name ≡ last_of f shape now (b + (i + 1)) (drop (i + 1) xs) name
last_of-step f shape xs b i x found now name within is e =
    ap (λ l. last_of f shape found (b + i) l name) (drop-cons xs i x within)
    ∙ ap (λ y. last_of f shape (cond (bytes_eq name (f y)) (Some (variable (b + i) (shape y))) found) (suc (b + i)) (drop (suc i) xs) name) (sym is)
    ∙ ap (λ o. last_of f shape o (suc (b + i)) (drop (suc i) xs) name) (sym e)
    ∙ ap (λ k. last_of f shape now k (drop (suc i) xs) name) (let h : suc (b + i) ≡ b + (i + 1) = omega arith in h)
    ∙ ap (λ k. last_of f shape now (b + (i + 1)) (drop k xs) name) (let h : suc i ≡ i + 1 = omega arith in h)

-- the names above the mark that stands below a place
pub below_mark : (file : Scope) (ms : List Mark) (above : ℕ) (m : Mark) (name : List ℕ) → 0 < above → above ≤ length ms → m ≡ get_or ms (above - 1) m
    → scope_over file file (take above ms) name ≡ layer file m (scope_over file file (take (above - 1) ms)) name
below_mark file ms above m name some within is =
    ap (λ k. scope_over file file (take k ms) name) (let h : above ≡ suc (above - 1) = omega arith in h)
    ∙ ap (λ l. scope_over file file l name) (take-suc ms (above - 1) m (omega arith))
    ∙ ap (λ (s : Scope). s name) (scope_over-push file file (take (above - 1) ms) (get_or ms (above - 1) m))
    ∙ ap (λ y. layer file y (scope_over file file (take (above - 1) ms)) name) (sym is)
