-- The parts of function types.
use Rattle.std.proofs.Common.{◌≡◌, ℕ, ◌<◌, List, [], ◌∷◌, length, map, Some, None, slice_get, Bool, true, refl, sym, ap, subst, ◌∙◌, arith}
use Rattle.cf_types.specs.declared.ty.Fun.{Fun}
use Rattle.cf_types.specs.declared.ty.Ty.{Ty}
use Rattle.cf_types.specs.declared.ty.Ty.TheVariants as ty
use Rattle.cf_types.specs.Table.{Names}
use Rattle.cf_core.specs.Types.{SourceType, gives, parameters, result}
use Rattle.cf_core.specs.FromTypes.{Tables, type_of, type_step, taking, fun_type}
use Rattle.cf_lower_layout.specs.Sorts.{sort_to}
use Rattle.cf_lower_types.specs.Bare.{is_code, IsFunction, IsNoFunction}
use Rattle.cf_lower_types.specs.Forms.{function_in}

pub parameters_taking : (ps : List SourceType) (t : SourceType) (c : Bool) → parameters (taking ps (gives t c)) ≡ ps
parameters_taking [] t c = refl
parameters_taking (p ∷ ps) t c = ap (λ l. p ∷ l) (parameters_taking ps t c)

pub result_taking : (ps : List SourceType) (t : SourceType) (c : Bool) → result (taking ps (gives t c)) ≡ t
result_taking [] t c = refl
result_taking (p ∷ ps) t c = result_taking ps t c

code_taking : (ps : List SourceType) (t : SourceType) (c : Bool) → is_code (sort_to (taking ps (gives t c))) ≡ true
code_taking [] t c = refl
code_taking (p ∷ ps) t c = refl

same : (a b : ℕ) → Some a ≡ Some b → a ≡ b
same a b e = cc

module _ (tables : Tables) (t : ℕ) where
  pub function_within : (v : Ty) (f : ℕ) → Names tables.types.funs t (length tables.types.funs) v → function_in v ≡ Some f → f < length tables.types.funs
  function_within (ty.Fun g) f names k = let p : g ≡ f = same g f k in let q = names.fun_known 0 g (omega arith) in omega (arith, p, q)
  function_within v f names k = cc

  pub is_function : (v : Ty) (f : ℕ) (g : Fun) → type_of tables t ≡ type_step tables (type_of tables) v → function_in v ≡ Some f → slice_get tables.types.funs f ≡ Some g
      → IsFunction tables t (Some g)
  is_function (ty.Fun h) f g e k found = e ∙ ap (λ n. fun_type (type_of tables) (slice_get tables.types.funs n)) (same h f k) ∙ ap (fun_type (type_of tables)) found
  is_function v f g e k found = cc

  pub is_none : (v : Ty) → type_of tables t ≡ type_step tables (type_of tables) v → function_in v ≡ None → IsNoFunction (type_of tables t)
  is_none v e k = subst IsNoFunction (sym e) (by v k)
    where
      by : (v : Ty) → function_in v ≡ None → IsNoFunction (type_step tables (type_of tables) v)
      by ty.Void k = record { code = refl; parameters = refl; result = refl }
      by (ty.Int l) k = record { code = refl; parameters = refl; result = refl }
      by (ty.Enum n) k = record { code = refl; parameters = refl; result = refl }
      by (ty.Class c) k = record { code = refl; parameters = refl; result = refl }
      by (ty.Ptr u) k = record { code = refl; parameters = refl; result = refl }
      by (ty.Ref u) k = record { code = refl; parameters = refl; result = refl }
      by (ty.Array u n) k = record { code = refl; parameters = refl; result = refl }
      by (ty.Fun f) k = cc
      by (ty.MemData c u) k = record { code = refl; parameters = refl; result = refl }
      by (ty.MemFun c f) k = record { code = refl; parameters = refl; result = refl }
      by (ty.Const u) k = record { code = refl; parameters = refl; result = refl }

  pub parameters_at : (g : Fun) → IsFunction tables t (Some g) → map (type_of tables) g.params ≡ parameters (type_of tables t)
  parameters_at g at = sym (ap parameters at ∙ parameters_taking (map (type_of tables) g.params) (type_of tables g.result) g.is_const)

  pub result_at : (g : Fun) → IsFunction tables t (Some g) → result (type_of tables t) ≡ type_of tables g.result
  result_at g at = ap result at ∙ result_taking (map (type_of tables) g.params) (type_of tables g.result) g.is_const

  pub code_at : (g : Fun) → IsFunction tables t (Some g) → is_code (sort_to (type_of tables t)) ≡ true
  code_at g at = ap (λ w. is_code (sort_to w)) at ∙ code_taking (map (type_of tables) g.params) (type_of tables g.result) g.is_const
