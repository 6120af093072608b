-- The steps of the conversion of an lvalue to a reference: where it binds the place itself they do no more than add const, and else they begin with
-- a read or a decay.
use Rattle.std.proofs.Common.{◌≡◌, ℕ, Bool, true, false, if◌then◌else◌, List, [], ◌∷◌, ◌++◌, Option, None, Some, refl, true≢false, sym}
use Rattle.std.specs.List.{list_all}
use Rattle.std.specs.Option.{option_map}
use Rattle.cf_types.specs.declared.ty.Ty.{Ty}
use Rattle.cf_types.specs.declared.ty.Ty.TheVariants as ty
use Rattle.cf_types.specs.Table.{Table}
use Rattle.cf_convert.specs.Constness.{type_at, bare, is_const, is_alike}
use Rattle.cf_convert.specs.Converts.{binds, referred, to_value, through_temporary, first_step, with_const, is_add_const}
use Rattle.cf_convert.specs.declared.conv.Val.{Val}
use Rattle.cf_convert.specs.declared.conv.ConvStep.{ConvStep}
use Rattle.cf_convert.specs.declared.conv.ConvStep.TheVariants.{Read, Decay, AddConst, Promote, Integer, Null, ToVoid, ToBase, ToMember}
use Rattle.cf_elab_initial.specs.Initials.Direct.{add_const_alone}

-- an lvalue of a type
abbrev pub lvalue_of : ℕ → Bool → Val
lvalue_of t z = record { ty = t; lvalue = true; zero = z }

-- ---- of a temporary

read_first : (b : Bool) (s : List ConvStep) → list_all is_add_const (if b then Read ∷ s else (Read ∷ s) ++ AddConst ∷ []) ≡ false
read_first true s = refl
read_first false s = refl

decay_first : (b : Bool) (s : List ConvStep) → list_all is_add_const (if b then Decay ∷ s else (Decay ∷ s) ++ AddConst ∷ []) ≡ false
decay_first true s = refl
decay_first false s = refl

begins : (from : Ty) (s : List ConvStep) → list_all is_add_const (through_temporary (first_step true from ++ s)) ≡ false
begins (ty.Array t n) s = decay_first _ s
begins (ty.Fun f) s = decay_first _ s
begins ty.Void s = read_first _ s
begins (ty.Int k) s = read_first _ s
begins (ty.Enum e) s = read_first _ s
begins (ty.Class c) s = read_first _ s
begins (ty.Ptr t) s = read_first _ s
begins (ty.Ref t) s = read_first _ s
begins (ty.MemData c t) s = read_first _ s
begins (ty.MemFun c f) s = read_first _ s
begins (ty.Const t) s = read_first _ s

by_value : (from : Ty) (o : Option (List ConvStep)) → add_const_alone (option_map through_temporary (option_map (λ s. first_step true from ++ s) o)) ≡ false
by_value from None = refl
by_value from (Some s) = begins from s

pub temporary_steps : (types : Table) (t : ℕ) (z : Bool) (u : ℕ)
    → add_const_alone (if is_const types u then option_map through_temporary (to_value types [] (lvalue_of t z) (bare types u)) else None) ≡ false
temporary_steps types t z u = by (is_const types u)
  where
    by : (b : Bool) → add_const_alone (if b then option_map through_temporary (to_value types [] (lvalue_of t z) (bare types u)) else None) ≡ false
    by true = by_value (type_at types (bare types t)) _
    by false = refl

-- ---- of the place itself

abbrev pub no_more : Option (List ConvStep) → Bool
no_more None = true
no_more (Some ss) = list_all is_add_const ss

added : (ss : List ConvStep) → list_all is_add_const ss ≡ true → list_all is_add_const (ss ++ AddConst ∷ []) ≡ true
added [] h = refl
added (AddConst ∷ ss) h = added ss h
added (Read ∷ ss) h = absurd (true≢false (sym h))
added (Decay ∷ ss) h = absurd (true≢false (sym h))
added (Promote ∷ ss) h = absurd (true≢false (sym h))
added (Integer k ∷ ss) h = absurd (true≢false (sym h))
added (Null ∷ ss) h = absurd (true≢false (sym h))
added (ToVoid ∷ ss) h = absurd (true≢false (sym h))
added (ToBase p ∷ ss) h = absurd (true≢false (sym h))
added (ToMember p ∷ ss) h = absurd (true≢false (sym h))

with_const_alone : (a b : Bool) (o : Option (List ConvStep)) → no_more o ≡ true → no_more (with_const a b o) ≡ true
with_const_alone true false o h = refl
with_const_alone true true o h = h
with_const_alone false false o h = h
with_const_alone false true None h = refl
with_const_alone false true (Some ss) h = added ss h

either : (b : Bool) → no_more (if b then Some [] else None) ≡ true
either true = refl
either false = refl

module _ (types : Table) (t u : ℕ) where
  abbrev Alone : Type 0
  Alone = no_more (referred types [] t u) ≡ true

  of_class : (c : ℕ) → type_at types (bare types t) ≡ ty.Class c → (b : Ty) → type_at types (bare types u) ≡ b → Alone
  of_class c e (ty.Class d) f = rw (e, f) (either (is_alike types t u))
  of_class c e ty.Void f = rw (e, f) (either (is_alike types t u))
  of_class c e (ty.Int k) f = rw (e, f) (either (is_alike types t u))
  of_class c e (ty.Enum x) f = rw (e, f) (either (is_alike types t u))
  of_class c e (ty.Ptr x) f = rw (e, f) (either (is_alike types t u))
  of_class c e (ty.Ref x) f = rw (e, f) (either (is_alike types t u))
  of_class c e (ty.Array x n) f = rw (e, f) (either (is_alike types t u))
  of_class c e (ty.Fun x) f = rw (e, f) (either (is_alike types t u))
  of_class c e (ty.MemData m x) f = rw (e, f) (either (is_alike types t u))
  of_class c e (ty.MemFun m x) f = rw (e, f) (either (is_alike types t u))
  of_class c e (ty.Const x) f = rw (e, f) (either (is_alike types t u))

  referred_alone : (a : Ty) → type_at types (bare types t) ≡ a → Alone
  referred_alone (ty.Class c) e = of_class c e (type_at types (bare types u)) refl
  referred_alone ty.Void e = rw e (either (is_alike types t u))
  referred_alone (ty.Int k) e = rw e (either (is_alike types t u))
  referred_alone (ty.Enum x) e = rw e (either (is_alike types t u))
  referred_alone (ty.Ptr x) e = rw e (either (is_alike types t u))
  referred_alone (ty.Ref x) e = rw e (either (is_alike types t u))
  referred_alone (ty.Array x n) e = rw e (either (is_alike types t u))
  referred_alone (ty.Fun x) e = rw e (either (is_alike types t u))
  referred_alone (ty.MemData c x) e = rw e (either (is_alike types t u))
  referred_alone (ty.MemFun c x) e = rw e (either (is_alike types t u))
  referred_alone (ty.Const x) e = rw e (either (is_alike types t u))

pub place_steps : (types : Table) (t : ℕ) (z : Bool) (u : ℕ) → no_more (binds types [] (lvalue_of t z) u) ≡ true
place_steps types t z u = with_const_alone (is_const types t) (is_const types u) (referred types [] t u) (referred_alone types t u (type_at types (bare types t)) refl)
