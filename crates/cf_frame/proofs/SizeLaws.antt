-- Sizes of types, where no class is there.
use Rattle.std.proofs.Common.{◌≡◌, ℕ, ◌*◌, ◌<◌, Bool, List, [], ◌∷◌, map, Option, Some, None, slice_get, refl, sym, ap, ◌∙◌}
use Rattle.std.proofs.Math.Nat.{one-mul}
use Rattle.cf_types.specs.declared.ty.Ty.{Ty}
use Rattle.cf_types.specs.declared.ty.Ty.TheVariants as ty
use Rattle.cf_types.specs.declared.ty.Fun.{Fun}
use Rattle.cf_types.specs.Table.{NamesBelow}
use Rattle.cf_classes.specs.Layout.{repeated_in}
use Rattle.cf_classes.proofs.Trees.{of_type-at}
use Rattle.cf_core.specs.Types.{SourceType, void, gives}
use Rattle.cf_core.specs.FromTypes.{Tables, type_of, type_step, taking, fun_type}
use Rattle.cf_core.specs.Size.{size}
use Rattle.cf_frame.specs.Bound.{single_bytes}

taking-size : (ps : List SourceType) (t : SourceType) (c : Bool) → size [] (taking ps (gives t c)) ≡ 1
taking-size [] t c = refl
taking-size (p ∷ ps) t c = refl

same_pair : (a b : ℕ × ℕ) → Some a ≡ Some b → a ≡ b
same_pair a b e = cc

module _ (tables : Tables) (t : ℕ) where
  fun-size : (rec : ℕ → SourceType) (f : Option Fun) → size [] (fun_type rec f) ≡ 1
  fun-size rec None = refl
  fun-size rec (Some f) = taking-size (map rec f.params) (rec f.result) f.is_const

  at : (ty : Ty) → slice_get tables.types.types t ≡ Some ty
      → (rec : ℕ → SourceType) × ((u : ℕ) → u < t → rec u ≡ type_of tables u) × (type_of tables t ≡ type_step tables rec ty)
  at ty h = of_type-at void (type_step tables) tables.types t ty h

  pub single-at : (ty : Ty) → slice_get tables.types.types t ≡ Some ty → repeated_in ty ≡ None → size [] (type_of tables t) ≡ single_bytes ty
  single-at ty.Void h none = ap (size []) (at ty.Void h).2
  single-at (ty.Int k) h none = ap (size []) (at (ty.Int k) h).2
  single-at (ty.Enum e) h none = ap (size []) (at (ty.Enum e) h).2
  single-at (ty.Class c) h none = ap (size []) (at (ty.Class c) h).2
  single-at (ty.Ptr u) h none = ap (size []) (at (ty.Ptr u) h).2
  single-at (ty.Ref u) h none = ap (size []) (at (ty.Ref u) h).2
  single-at (ty.Array u n) h none = cc
  single-at (ty.Fun f) h none = ap (size []) (at (ty.Fun f) h).2 ∙ fun-size (at (ty.Fun f) h).0 (slice_get tables.types.funs f)
  single-at (ty.MemData c u) h none = ap (size []) (at (ty.MemData c u) h).2
  single-at (ty.MemFun c f) h none = ap (size []) (at (ty.MemFun c f) h).2
  single-at (ty.Const u) h none = cc

  pub repeated-at : (ty : Ty) (u n : ℕ) → slice_get tables.types.types t ≡ Some ty → NamesBelow t ty → repeated_in ty ≡ Some (u, n)
      → size [] (type_of tables t) ≡ n * size [] (type_of tables u)
  repeated-at (ty.Array v m) u n h below some =
      let p : v ≡ u = ap (λ (x : ℕ × ℕ). x.0) (same_pair (v, m) (u, n) some) in
      let q : m ≡ n = ap (λ (x : ℕ × ℕ). x.1) (same_pair (v, m) (u, n) some) in
      let r = at (ty.Array v m) h in
      ap (size []) r.2 ∙ ap (λ w. m * size [] w) (r.1 v below) ∙ ap (λ w. m * size [] (type_of tables w)) p ∙ ap (λ w. w * size [] (type_of tables u)) q
  repeated-at (ty.Const v) u n h below some =
      let p : v ≡ u = ap (λ (x : ℕ × ℕ). x.0) (same_pair (v, 1) (u, n) some) in
      let q : 1 ≡ n = ap (λ (x : ℕ × ℕ). x.1) (same_pair (v, 1) (u, n) some) in
      let r = at (ty.Const v) h in
      ap (size []) r.2 ∙ ap (size []) (r.1 v below) ∙ ap (λ w. size [] (type_of tables w)) p ∙ sym (one-mul (size [] (type_of tables u)))
      ∙ ap (λ w. w * size [] (type_of tables u)) q
  repeated-at other u n h below some = cc
