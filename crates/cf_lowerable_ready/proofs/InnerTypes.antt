-- Types by what stands outermost in them.
use Rattle.std.proofs.Common.{◌≡◌, ℕ, zero, suc, ◌<◌, Bool, List, [], ◌∷◌, length, map, Option, Some, None, slice_get, refl, sym, ap, ◌∙◌, arith}
use Rattle.cf_types.specs.declared.ty.Fun.{Fun}
use Rattle.cf_types.specs.declared.ty.Ty.{Ty}
use Rattle.cf_types.specs.declared.ty.Ty.TheVariants as ty
use Rattle.cf_types.specs.Table.{Names}
use Rattle.cf_core.specs.Types.{SourceType, gives}
use Rattle.cf_core.specs.FromTypes.{Tables, type_of, type_step, taking, fun_type}
use Rattle.cf_lower_types.specs.Forms.{under_const, form_in}
use Rattle.cf_lowerable_ready.specs.Types.{stripped, outer_type, OfFunction, IsKnown}

same : {A : Type 0} (a b : A) → Some a ≡ Some b → a ≡ b
same a b e = cc

-- ---- functions

function_told : (ps : List SourceType) (t : SourceType) (c : Bool) → OfFunction (taking ps (gives t c))
function_told [] t c = record { decays = refl; converts = λ x. refl }
function_told (p ∷ ps) t c = record { decays = refl; converts = λ x. refl }

module _ (tables : Tables) where
  there : (f : ℕ) (o : Option Fun) → slice_get tables.types.funs f ≡ o → f < length tables.types.funs → OfFunction (fun_type (type_of tables) o)
  there f (Some g) e lt = function_told (map (type_of tables) g.params) (type_of tables g.result) g.is_const
  there f None e lt = absurd (missing tables.types.funs f e lt)
    where
      missing : (fs : List Fun) (f : ℕ) → slice_get fs f ≡ None → f < length fs → ⊥
      missing [] f e lt = omega (arith, lt)
      missing (g ∷ gs) zero e lt = cc
      missing (g ∷ gs) (suc f) e lt = missing gs f e (omega (arith, lt))

  module _ (t : ℕ) where
    pub function_there : (v : Ty) → Names tables.types.funs t (length tables.types.funs) v → IsKnown tables (form_in v)
    function_there (ty.Fun f) names = there f (slice_get tables.types.funs f) refl (names.fun_known 0 f (omega arith))
    function_there ty.Void names = tt
    function_there (ty.Int k) names = tt
    function_there (ty.Enum n) names = tt
    function_there (ty.Class c) names = tt
    function_there (ty.Ptr u) names = tt
    function_there (ty.Ref u) names = tt
    function_there (ty.Array u n) names = tt
    function_there (ty.MemData c u) names = tt
    function_there (ty.MemFun c f) names = tt
    function_there (ty.Const u) names = tt

    -- ---- const

    inside_const : (v : Ty) (u : ℕ) → under_const v ≡ Some u → stripped (type_step tables (type_of tables) v) ≡ stripped (type_of tables u)
    inside_const (ty.Const w) u e = ap (λ n. stripped (type_of tables n)) (same w u e)
    inside_const v u e = cc

    pub inside : (v : Ty) (u : ℕ) → type_of tables t ≡ type_step tables (type_of tables) v → under_const v ≡ Some u → stripped (type_of tables t) ≡ stripped (type_of tables u)
    inside v u e k = ap stripped e ∙ inside_const v u k

    -- ---- other types

    function_stays : (ps : List SourceType) (r : SourceType) (c : Bool) → taking ps (gives r c) ≡ stripped (taking ps (gives r c))
    function_stays [] r c = refl
    function_stays (p ∷ ps) r c = refl

    function_type_stays : (o : Option Fun) → fun_type (type_of tables) o ≡ stripped (fun_type (type_of tables) o)
    function_type_stays None = refl
    function_type_stays (Some g) = function_stays (map (type_of tables) g.params) (type_of tables g.result) g.is_const

    stays : (v : Ty) → under_const v ≡ None → type_step tables (type_of tables) v ≡ stripped (type_step tables (type_of tables) v)
    stays ty.Void k = refl
    stays (ty.Int l) k = refl
    stays (ty.Enum n) k = refl
    stays (ty.Class c) k = refl
    stays (ty.Ptr u) k = refl
    stays (ty.Ref u) k = refl
    stays (ty.Array u n) k = refl
    stays (ty.Fun f) k = function_type_stays (slice_get tables.types.funs f)
    stays (ty.MemData c u) k = refl
    stays (ty.MemFun c f) k = refl
    stays (ty.Const u) k = cc

    pub itself : (v : Ty) → type_of tables t ≡ type_step tables (type_of tables) v → under_const v ≡ None → type_of tables t ≡ stripped (type_of tables t)
    itself v e k = e ∙ stays v k ∙ sym (ap stripped e)

    formed : (v : Ty) → under_const v ≡ None → type_step tables (type_of tables) v ≡ outer_type tables (form_in v)
    formed ty.Void k = refl
    formed (ty.Int l) k = refl
    formed (ty.Enum n) k = refl
    formed (ty.Class c) k = refl
    formed (ty.Ptr u) k = refl
    formed (ty.Ref u) k = refl
    formed (ty.Array u n) k = refl
    formed (ty.Fun f) k = refl
    formed (ty.MemData c u) k = refl
    formed (ty.MemFun c f) k = refl
    formed (ty.Const u) k = cc

    pub its_form : (v : Ty) → type_of tables t ≡ type_step tables (type_of tables) v → under_const v ≡ None → type_of tables t ≡ outer_type tables (form_in v)
    its_form v e k = e ∙ formed v k
