-- `==` on types tells them apart.
use Rattle.std.proofs.Common.{◌≡◌, Bool, true, false, ◌&&◌, refl, sym, ap, true≢false}
use Rattle.std.proofs.lemmas.Bool.{eqb-true}
use Rattle.std.specs.Cmp.Lexicographic.{same_text}
use mathlib.Core.Bool.{beq}
use denote.Enum.Bare.{same_true}
use Rattle.cf_base.specs.contracts.kind.Kind.{the_type}
use Rattle.cf_types.specs.declared.ty.Ty.{Ty}
use Rattle.cf_types.specs.declared.ty.Ty.TheVariants as ty
use Rattle.cf_types.specs.contracts.ty.TyPartialEq.TheImpl.{ghosts}
use Rattle.cf_types.specs.contracts.ty.FunPartialEq.TheImpl.{ghosts as funs}
use Rattle.cf_types.specs.declared.ty.Fun.{Fun}

-- where both tests hold
both : (x y : Bool) → (x && y) ≡ true → (x ≡ true) × (y ≡ true)
both true y h = (refl, h)
both false y h = absurd (true≢false (sym h))

pub same_type : (a b : Ty) → ghosts.eq a b ≡ true → a ≡ b
same_type ty.Void ty.Void h = refl
same_type (ty.Int k) (ty.Int l) h = ap ty.Int (same_true the_type tt k l h)
same_type (ty.Enum m) (ty.Enum n) h = ap ty.Enum (eqb-true m n h)
same_type (ty.Class c) (ty.Class d) h = ap ty.Class (eqb-true c d h)
same_type (ty.Ptr t) (ty.Ptr u) h = ap ty.Ptr (eqb-true t u h)
same_type (ty.Ref t) (ty.Ref u) h = ap ty.Ref (eqb-true t u h)
same_type (ty.Array t m) (ty.Array u n) h =
    let e = both _ _ h in let p = eqb-true t u e.0 in let q = eqb-true m n e.1 in cc
same_type (ty.Fun f) (ty.Fun g) h = ap ty.Fun (eqb-true f g h)
same_type (ty.MemData c t) (ty.MemData d u) h =
    let e = both _ _ h in let p = eqb-true c d e.0 in let q = eqb-true t u e.1 in cc
same_type (ty.MemFun c f) (ty.MemFun d g) h =
    let e = both _ _ h in let p = eqb-true c d e.0 in let q = eqb-true f g e.1 in cc
same_type (ty.Const t) (ty.Const u) h = ap ty.Const (eqb-true t u h)
same_type a b h = absurd (true≢false (sym h))

same_bool : (x y : Bool) → beq x y ≡ true → x ≡ y
same_bool true true h = refl
same_bool true false h = sym h
same_bool false true h = h
same_bool false false h = refl

pub same_fun : (a b : Fun) → funs.eq a b ≡ true → a ≡ b
same_fun a b h =
    let e = both _ _ h in
    let f = both _ _ e.1 in
    let p = eqb-true a.result b.result e.0 in
    let q = same_text a.params b.params (sym f.0) in
    let r = same_bool a.is_const b.is_const f.1 in
    λ i. record { result = p i; params = q i; is_const = r i }
