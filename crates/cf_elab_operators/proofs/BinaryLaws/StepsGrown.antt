-- The steps of a conversion stay the same as the table of types grows.
use Rattle.std.proofs.Common.{◌≡◌, ℕ, zero, suc, ◌+◌, ◌<◌, ◌==◌, ◌&&◌, Bool, if◌then◌else◌, List, [], ◌∷◌, ◌++◌, length, Option, None, Some, refl, sym, ap, ◌∙◌, arith}
use Rattle.std.specs.Option.{option_map, option_or}
use Rattle.cf_types.specs.declared.ty.Ty.{Ty}
use Rattle.cf_types.specs.declared.ty.Ty.TheVariants as ty
use Rattle.cf_types.specs.Table.{Table, IsTable, NamesBelow}
use Rattle.cf_classes.specs.declared.class.ClassDef.{ClassDef}
use Rattle.cf_convert.specs.Constness.{type_at, bare, is_const, is_alike, alike_step, alike_array}
use Rattle.cf_convert.specs.Converts as converts
use Rattle.cf_convert.specs.declared.conv.ConvStep.{ConvStep}
use Rattle.cf_convert.specs.declared.conv.ConvStep.TheVariants.{Null}
use Rattle.cf_convert.specs.declared.conv.Val.{Val}
use Rattle.cf_convert.proofs.Constness.{alike-at}
use Rattle.cf_convert.proofs.Known.{names_more}
use Rattle.cf_elab_env.specs.Holds.{Grows, IsType}
use Rattle.cf_elab_env.proofs.Growth.{here, bare-known, type-known, type_at-grows, bare-grows, is_const-grows}
use Rattle.cf_elab_env.proofs.Sorts.{below_at}

module _ (old new : Table) (g : Grows old new) (table : IsTable old) where
  same-type : (t : ℕ) → IsType old t → type_at new t ≡ type_at old t
  same-type t h = type_at-grows old new g.more_types g.types t h

  same-bare : (t : ℕ) → IsType old t → bare new t ≡ bare old t
  same-bare t h = bare-grows old new g.more_types g.types t h

  same-inside : (t : ℕ) → IsType old t → type_at new (bare new t) ≡ type_at old (bare old t)
  same-inside t h = ap (type_at new) (same-bare t h) ∙ same-type (bare old t) (bare-known old t table h)

  same-const : (t : ℕ) → IsType old t → is_const new t ≡ is_const old t
  same-const t h = is_const-grows old new g.more_types g.types table t h

  -- what a type of the table names
  names : (t : ℕ) → IsType old t → NamesBelow t (type_at old t)
  names t h = below_at old t (type_at old t) table (here old t h)

  bare-names : (t : ℕ) → IsType old t → NamesBelow (length old.types) (type_at old (bare old t))
  bare-names t h =
      let b = bare old t in
      let inside = bare-known old t table h in
      names_more b (length old.types) (type_at old b) (names b inside) (omega arith)

  -- ---- types that are the same but for const

  abbrev alike_before : ℕ → Type 0
  alike_before n = (t u : ℕ) → t < n → IsType old t → IsType old u → is_alike new t u ≡ is_alike old t u

  same-array : (s n : ℕ) (v : Ty) → alike_before (s + 1) → IsType old s → NamesBelow (length old.types) v
      → alike_array (is_alike new s) n v ≡ alike_array (is_alike old s) n v
  same-array s n (ty.Array r m) before known below = ap (λ b. n == m && b) (before s r (omega arith) known below)
  same-array s n other before known below = refl

  same-step : (t : ℕ) (v : Ty) (u : ℕ) → alike_before t → IsType old t → NamesBelow t v → IsType old u
      → alike_step new (λ s own w. is_alike new s w) v t u ≡ alike_step old (λ s own w. is_alike old s w) v t u
  same-step t (ty.Const s) u before known below right = before s u below (omega (arith, known, below)) right
  same-step t (ty.Array s n) u before known below right =
      ap (alike_array (is_alike new s) n) (same-inside u right)
      ∙ same-array s n (type_at old (bare old u)) (λ a b less. before a b (omega (arith, less, below))) (omega (arith, known, below)) (bare-names u right)
  same-step t other u before known below right = ap (λ b. t == b) (same-bare u right)

  same-alike-below : (n : ℕ) → alike_before n
  same-alike-below zero t u less known right = absurd (omega (arith, less))
  same-alike-below (suc n) t u less known right =
      let v = type_at old t in
      let at_new = here new t (type-known old new g.more_types g.types t known) ∙ ap Some (same-type t known) in
      alike-at new t v at_new (names t known) u
      ∙ same-step t v u (λ a b l. same-alike-below n a b (omega (arith, l, less))) known (names t known) right
      ∙ sym (alike-at old t v (here old t known) (names t known) u)

  same-alike : (t u : ℕ) → IsType old t → IsType old u → is_alike new t u ≡ is_alike old t u
  same-alike t u known right = same-alike-below (t + 1) t u (omega arith) known right

  -- ---- values of types

  module _ (defs : List (ℕ × ClassDef)) where
    abbrev Steps : Type 0
    Steps = Option (List ConvStep)

    abbrev leads : Bool → Ty → Ty → Steps
    leads alike a b = if alike then Some [] else converts.pointed defs a b

    same-to_pointer : (t u : ℕ) → IsType old t → IsType old u → converts.to_pointer new defs t u ≡ converts.to_pointer old defs t u
    same-to_pointer t u a b =
        ap (λ c. converts.with_const c (is_const new u) (converts.pointee new defs t u)) (same-const t a)
        ∙ ap (λ c. converts.with_const (is_const old t) c (converts.pointee new defs t u)) (same-const u b)
        ∙ ap (λ c. converts.with_const (is_const old t) (is_const old u) (leads c (type_at new (bare new t)) (type_at new (bare new u)))) (same-alike t u a b)
        ∙ ap (λ v. converts.with_const (is_const old t) (is_const old u) (leads (is_alike old t u) v (type_at new (bare new u)))) (same-inside t a)
        ∙ ap (λ w. converts.with_const (is_const old t) (is_const old u) (leads (is_alike old t u) (type_at old (bare old t)) w)) (same-inside u b)

    abbrev AreKnown : Ty → Type 0
    AreKnown v = NamesBelow (length old.types) v

    same-values : (v w : Ty) → AreKnown v → AreKnown w → converts.value_steps new defs v w ≡ converts.value_steps old defs v w
    same-values (ty.Ptr t) (ty.Ptr u) a b = same-to_pointer t u a b
    same-values (ty.MemData c t) (ty.MemData d u) a b = rw (same-const t a, same-const u b, same-alike t u a b) refl
    same-values v w a b = refl

    decayed-known : (t : ℕ) (v : Ty) → IsType old t → AreKnown v → AreKnown (converts.decayed t v)
    decayed-known t (ty.Array u n) h k = k
    decayed-known t (ty.Fun f) h k = h
    decayed-known t ty.Void h k = k
    decayed-known t (ty.Int i) h k = k
    decayed-known t (ty.Enum e) h k = k
    decayed-known t (ty.Class c) h k = k
    decayed-known t (ty.Ptr u) h k = k
    decayed-known t (ty.Ref u) h k = k
    decayed-known t (ty.MemData c u) h k = k
    decayed-known t (ty.MemFun c f) h k = k
    decayed-known t (ty.Const u) h k = k

    module _ (v : Val) (from-known : IsType old v.ty) where
      abbrev shape : Table → ℕ → Ty → Ty → Steps
      shape types t from target =
          option_map (λ s. converts.first_step v.lvalue from ++ s)
          (if v.zero && converts.takes_null target then Some (Null ∷ []) else converts.value_steps types defs (converts.decayed t from) target)

      same-to_value : (u : ℕ) → IsType old u → converts.to_value new defs v u ≡ converts.to_value old defs v u
      same-to_value u h =
          let t = bare old v.ty in
          let from = type_at old t in
          let target = type_at old u in
          ap (λ t. shape new t (type_at new t) (type_at new u)) (same-bare v.ty from-known)
          ∙ ap (λ f. shape new t f (type_at new u)) (same-type t (bare-known old v.ty table from-known))
          ∙ ap (λ w. shape new t from w) (same-type u h)
          ∙ ap (λ s. option_map (λ s. converts.first_step v.lvalue from ++ s) (if v.zero && converts.takes_null target then Some (Null ∷ []) else s))
          (same-values (converts.decayed t from) target (decayed-known t from (bare-known old v.ty table from-known) (bare-names v.ty from-known))
          (names_more u (length old.types) target (names u h) (omega (arith, h))))

      same-referred : (u : ℕ) → IsType old u → converts.referred new defs v.ty u ≡ converts.referred old defs v.ty u
      same-referred u h = rw (same-alike v.ty u from-known h, same-inside v.ty from-known, same-inside u h) refl

      same-binds : (u : ℕ) → IsType old u → converts.binds new defs v u ≡ converts.binds old defs v u
      same-binds u h =
          ap (λ c. if v.lvalue then converts.with_const c (is_const new u) (converts.referred new defs v.ty u) else None) (same-const v.ty from-known)
          ∙ ap (λ c. if v.lvalue then converts.with_const (is_const old v.ty) c (converts.referred new defs v.ty u) else None) (same-const u h)
          ∙ ap (λ r. if v.lvalue then converts.with_const (is_const old v.ty) (is_const old u) r else None) (same-referred u h)

      same-to_reference : (u : ℕ) → IsType old u → converts.to_reference new defs v u ≡ converts.to_reference old defs v u
      same-to_reference u h =
          let made : Table → ℕ → Steps = λ types b. option_map converts.through_temporary (converts.to_value types defs v b) in
          ap (λ s. option_or s (if is_const new u then made new (bare new u) else None)) (same-binds u h)
          ∙ ap (λ c. option_or (converts.binds old defs v u) (if c then made new (bare new u) else None)) (same-const u h)
          ∙ ap (λ b. option_or (converts.binds old defs v u) (if is_const old u then made new b else None)) (same-bare u h)
          ∙ ap (λ s. option_or (converts.binds old defs v u) (if is_const old u then option_map converts.through_temporary s else None))
          (same-to_value (bare old u) (bare-known old u table h))

      pub steps-grown : (to : ℕ) → IsType old to → converts.steps new defs v to ≡ converts.steps old defs v to
      steps-grown to h = by (type_at old to) refl (names to h)
        where
          bare-value : converts.to_value new defs v (bare new to) ≡ converts.to_value old defs v (bare old to)
          bare-value = ap (converts.to_value new defs v) (same-bare to h) ∙ same-to_value (bare old to) (bare-known old to table h)

          by : (w : Ty) → type_at old to ≡ w → NamesBelow to w → converts.steps new defs v to ≡ converts.steps old defs v to
          by (ty.Ref u) e below = rw (same-type to h ∙ e, e) (same-to_reference u (omega (arith, h, below)))
          by other e below = rw (same-type to h ∙ e, e) bare-value
