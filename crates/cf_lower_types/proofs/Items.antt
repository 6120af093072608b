-- The items of arrays, with their const.
use Rattle.std.proofs.Common.{◌≡◌, ℕ, List, [], ◌∷◌, map, Option, Some, None, slice_get, refl, sym, ap, ◌∙◌}
use Rattle.cf_types.specs.declared.ty.Fun.{Fun}
use Rattle.cf_types.specs.declared.ty.Ty.{Ty}
use Rattle.cf_types.specs.declared.ty.Ty.TheVariants as ty
use Rattle.cf_core.specs.Types.{SourceType, gives, plain, element}
use Rattle.cf_core.specs.FromTypes.{Tables, type_of, type_step, fun_type, taking}
use Rattle.cf_lower_types.specs.Forms.{under_const, item_in}

same : (a b : ℕ) → Some a ≡ Some b → a ≡ b
same a b e = cc

module _ (rec : ℕ → SourceType) where
  fun_plain : (o : Option Fun) → plain (fun_type rec o) ≡ fun_type rec o
  fun_plain None = refl
  fun_plain (Some f) = by f.params
    where
      by : (ps : List ℕ) → plain (taking (map rec ps) (gives (rec f.result) f.is_const)) ≡ taking (map rec ps) (gives (rec f.result) f.is_const)
      by [] = refl
      by (p ∷ ps) = refl

  fun_element : (o : Option Fun) → element (fun_type rec o) ≡ fun_type rec o
  fun_element None = refl
  fun_element (Some f) = by f.params
    where
      by : (ps : List ℕ) → element (taking (map rec ps) (gives (rec f.result) f.is_const)) ≡ taking (map rec ps) (gives (rec f.result) f.is_const)
      by [] = refl
      by (p ∷ ps) = refl

module _ (tables : Tables) (t : ℕ) (v : Ty) (e : type_of tables t ≡ type_step tables (type_of tables) v) where
  pub plain_const : (u : ℕ) → under_const v ≡ Some u → type_of tables u ≡ plain (type_of tables t)
  plain_const u k = by v k ∙ sym (ap plain e)
    where
      by : (v : Ty) → under_const v ≡ Some u → type_of tables u ≡ plain (type_step tables (type_of tables) v)
      by (ty.Const w) k = sym (ap (type_of tables) (same w u k))
      by v k = cc

  pub plain_itself : under_const v ≡ None → type_of tables t ≡ plain (type_of tables t)
  plain_itself k = e ∙ sym (by v k) ∙ sym (ap plain e)
    where
      by : (v : Ty) → under_const v ≡ None → plain (type_step tables (type_of tables) v) ≡ type_step tables (type_of tables) v
      by ty.Void k = refl
      by (ty.Int l) k = refl
      by (ty.Enum n) k = refl
      by (ty.Class c) k = refl
      by (ty.Ptr u) k = refl
      by (ty.Ref u) k = refl
      by (ty.Array u n) k = refl
      by (ty.Fun f) k = fun_plain (type_of tables) (slice_get tables.types.funs f)
      by (ty.MemData c u) k = refl
      by (ty.MemFun c f) k = refl
      by (ty.Const u) k = cc

  -- of what has no const of its own
  module _ (s : SourceType) (bare : type_of tables t ≡ s) where
    pub item_some : (u : ℕ) → item_in v ≡ Some u → type_of tables u ≡ element s
    item_some u k = by v k ∙ sym (ap element e) ∙ ap element bare
      where
        by : (v : Ty) → item_in v ≡ Some u → type_of tables u ≡ element (type_step tables (type_of tables) v)
        by (ty.Array w n) k = sym (ap (type_of tables) (same w u k))
        by v k = cc

    pub item_none : item_in v ≡ None → type_of tables t ≡ element s
    item_none k = e ∙ sym (by v k) ∙ sym (ap element e) ∙ ap element bare
      where
        by : (v : Ty) → item_in v ≡ None → element (type_step tables (type_of tables) v) ≡ type_step tables (type_of tables) v
        by ty.Void k = refl
        by (ty.Int l) k = refl
        by (ty.Enum n) k = refl
        by (ty.Class c) k = refl
        by (ty.Ptr u) k = refl
        by (ty.Ref u) k = refl
        by (ty.Array u n) k = cc
        by (ty.Fun f) k = fun_element (type_of tables) (slice_get tables.types.funs f)
        by (ty.MemData c u) k = refl
        by (ty.MemFun c f) k = refl
        by (ty.Const u) k = refl
