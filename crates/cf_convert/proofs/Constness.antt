-- Const of types by what they name.
use Rattle.std.proofs.Common.{◌≡◌, ℕ, ◌==◌, Bool, true, false, Some, slice_get, refl, ap, ◌∙◌}
use Rattle.std.proofs.lemmas.Bool.{eqb-true}
use Rattle.cf_types.specs.declared.ty.Ty.{Ty}
use Rattle.cf_types.specs.declared.ty.Ty.TheVariants as ty
use Rattle.cf_types.specs.Table.{Table, NamesBelow}
use Rattle.cf_classes.proofs.Trees.{of_type-at}
use Rattle.cf_convert.specs.Constness.{const_step, is_const, alike_step, is_alike, bare, type_at, alike_array}

abbrev never : ℕ → ℕ → Bool
never own u = false

module _ (types : Table) (t : ℕ) where
  pub const-at : (v : Ty) → slice_get types.types t ≡ Some v → NamesBelow t v → is_const types t ≡ const_step (is_const types) v
  const-at ty.Void h below = (of_type-at false const_step types t ty.Void h).2
  const-at (ty.Int k) h below = (of_type-at false const_step types t (ty.Int k) h).2
  const-at (ty.Enum e) h below = (of_type-at false const_step types t (ty.Enum e) h).2
  const-at (ty.Class c) h below = (of_type-at false const_step types t (ty.Class c) h).2
  const-at (ty.Ptr u) h below = (of_type-at false const_step types t (ty.Ptr u) h).2
  const-at (ty.Ref u) h below = (of_type-at false const_step types t (ty.Ref u) h).2
  const-at (ty.Array u n) h below = let r = of_type-at false const_step types t (ty.Array u n) h in r.2 ∙ r.1 u below
  const-at (ty.Fun f) h below = (of_type-at false const_step types t (ty.Fun f) h).2
  const-at (ty.MemData c u) h below = (of_type-at false const_step types t (ty.MemData c u) h).2
  const-at (ty.MemFun c f) h below = (of_type-at false const_step types t (ty.MemFun c f) h).2
  const-at (ty.Const u) h below = (of_type-at false const_step types t (ty.Const u) h).2

  pub alike-at : (v : Ty) → slice_get types.types t ≡ Some v → NamesBelow t v → (u : ℕ) → is_alike types t u ≡ alike_step types (λ s own w. is_alike types s w) v t u
  alike-at ty.Void h below u = let r = of_type-at never (alike_step types) types t ty.Void h in ap (λ (f : ℕ → ℕ → Bool). f t u) r.2
  alike-at (ty.Int k) h below u = let r = of_type-at never (alike_step types) types t (ty.Int k) h in ap (λ (f : ℕ → ℕ → Bool). f t u) r.2
  alike-at (ty.Enum e) h below u = let r = of_type-at never (alike_step types) types t (ty.Enum e) h in ap (λ (f : ℕ → ℕ → Bool). f t u) r.2
  alike-at (ty.Class c) h below u = let r = of_type-at never (alike_step types) types t (ty.Class c) h in ap (λ (f : ℕ → ℕ → Bool). f t u) r.2
  alike-at (ty.Ptr s) h below u = let r = of_type-at never (alike_step types) types t (ty.Ptr s) h in ap (λ (f : ℕ → ℕ → Bool). f t u) r.2
  alike-at (ty.Ref s) h below u = let r = of_type-at never (alike_step types) types t (ty.Ref s) h in ap (λ (f : ℕ → ℕ → Bool). f t u) r.2
  alike-at (ty.Fun f) h below u = let r = of_type-at never (alike_step types) types t (ty.Fun f) h in ap (λ (g : ℕ → ℕ → Bool). g t u) r.2
  alike-at (ty.MemData c s) h below u = let r = of_type-at never (alike_step types) types t (ty.MemData c s) h in ap (λ (f : ℕ → ℕ → Bool). f t u) r.2
  alike-at (ty.MemFun c f) h below u = let r = of_type-at never (alike_step types) types t (ty.MemFun c f) h in ap (λ (g : ℕ → ℕ → Bool). g t u) r.2
  alike-at (ty.Array s n) h below u =
      let r = of_type-at never (alike_step types) types t (ty.Array s n) h in
      ap (λ (f : ℕ → ℕ → Bool). f t u) r.2 ∙ ap (λ (f : ℕ → ℕ → Bool). alike_array (f s) n (type_at types (bare types u))) (r.1 s below)
  alike-at (ty.Const s) h below u =
      let r = of_type-at never (alike_step types) types t (ty.Const s) h in
      ap (λ (f : ℕ → ℕ → Bool). f t u) r.2 ∙ ap (λ (f : ℕ → ℕ → Bool). f s u) (r.1 s below)

-- of a type that is neither const nor an array
pub const_of_others : (rec : ℕ → Bool) (v : Ty) → ((u : ℕ) → v ≡ ty.Const u → ⊥) → ((u n : ℕ) → v ≡ ty.Array u n → ⊥) → const_step rec v ≡ false
const_of_others rec (ty.Const u) c a = absurd (c u refl)
const_of_others rec (ty.Array u n) c a = absurd (a u n refl)
const_of_others rec ty.Void c a = refl
const_of_others rec (ty.Int k) c a = refl
const_of_others rec (ty.Enum e) c a = refl
const_of_others rec (ty.Class d) c a = refl
const_of_others rec (ty.Ptr t) c a = refl
const_of_others rec (ty.Ref t) c a = refl
const_of_others rec (ty.Fun f) c a = refl
const_of_others rec (ty.MemData d t) c a = refl
const_of_others rec (ty.MemFun d f) c a = refl

pub alike_of_others : (types : Table) (rec : ℕ → ℕ → ℕ → Bool) (v : Ty) (t u : ℕ) → ((s : ℕ) → v ≡ ty.Const s → ⊥) → ((s n : ℕ) → v ≡ ty.Array s n → ⊥)
    → alike_step types rec v t u ≡ (t == bare types u)
alike_of_others types rec (ty.Const s) t u c a = absurd (c s refl)
alike_of_others types rec (ty.Array s n) t u c a = absurd (a s n refl)
alike_of_others types rec ty.Void t u c a = refl
alike_of_others types rec (ty.Int k) t u c a = refl
alike_of_others types rec (ty.Enum e) t u c a = refl
alike_of_others types rec (ty.Class d) t u c a = refl
alike_of_others types rec (ty.Ptr s) t u c a = refl
alike_of_others types rec (ty.Ref s) t u c a = refl
alike_of_others types rec (ty.Fun f) t u c a = refl
alike_of_others types rec (ty.MemData d s) t u c a = refl
alike_of_others types rec (ty.MemFun d f) t u c a = refl

-- an array is not like what is no array
pub alike_no_array : (rec : ℕ → Bool) (n : ℕ) (v : Ty) → ((s m : ℕ) → v ≡ ty.Array s m → ⊥) → alike_array rec n v ≡ false
alike_no_array rec n (ty.Const s) a = refl
alike_no_array rec n (ty.Array s m) a = absurd (a s m refl)
alike_no_array rec n ty.Void a = refl
alike_no_array rec n (ty.Int k) a = refl
alike_no_array rec n (ty.Enum e) a = refl
alike_no_array rec n (ty.Class d) a = refl
alike_no_array rec n (ty.Ptr s) a = refl
alike_no_array rec n (ty.Ref s) a = refl
alike_no_array rec n (ty.Fun f) a = refl
alike_no_array rec n (ty.MemData d s) a = refl
alike_no_array rec n (ty.MemFun d f) a = refl

pub differ : (n m : ℕ) → (n ≡ m → ⊥) → (n == m) ≡ false
differ n m unequal = by (n == m) refl
  where
    by : (b : Bool) → (n == m) ≡ b → b ≡ false
    by true e = absurd (unequal (eqb-true n m e))
    by false e = refl
