-- The steps of an implicit conversion, where there is no class: which there are, and what they lead to (4, 13.2).
use Rattle.std.proofs.Common.{◌≡◌, ℕ, ◌<◌, ◌==◌, Bool, true, false, ◌&&◌, length, if◌then◌else◌, List, [], ◌∷◌, ◌++◌, Option, Some, None, IsTrue, refl, sym, ap, subst, ◌∙◌, true≢false}
use Rattle.std.proofs.lemmas.Bool.{eqb-true}
use denote.Enum.Bare.{same_true}
use Rattle.cf_base.specs.declared.kind.Kind.{Kind}
use Rattle.cf_base.specs.declared.kind.Kind.TheVariants as kind
use Rattle.cf_base.specs.contracts.kind.Kind.{the_type}
use Rattle.cf_base.specs.contracts.kind.KindPartialEq.TheImpl.{ghosts}
use Rattle.cf_base.specs.Promotion.{promoted}
use Rattle.cf_classes.specs.declared.class.ClassDef.{ClassDef}
use Rattle.cf_classes.specs.LinkName.{scope_code, enum_names}
use Rattle.cf_types.specs.declared.ty.Ty.{Ty}
use Rattle.cf_types.specs.declared.ty.Ty.TheVariants as ty
use Rattle.cf_types.specs.Table.{Table, IsTable}
use Rattle.cf_convert.specs.Constness.{type_at, bare, is_const, is_alike}
use Rattle.cf_convert.specs.Converts.{to_integer, enum_to_integer, pointed, with_const, pointee, to_pointer, value_steps, takes_null}
use Rattle.cf_convert.specs.declared.conv.ConvStep.{ConvStep}
use Rattle.cf_convert.specs.declared.conv.ConvStep.TheVariants.{AddConst, Promote, Integer, Null, ToVoid}
use Rattle.cf_core.specs.FromTypes.{Tables, type_of, type_step}
use Rattle.cf_core.specs.Types.{SourceType, integer, enumeration, pointer, is_void}
use Rattle.cf_core.specs.Typing.{is_integral}
use Rattle.cf_core_typed.specs.Same.{Same}
use Rattle.cf_core_typed.proofs.Same.{void-plain}
use Rattle.cf_elab_env.specs.Holds.{without_class}
use Rattle.cf_elab_valid.specs.Conversion.{Leads, BothIntegral, IsPointer, is_single, Way}
use Rattle.cf_elab_valid.specs.Scene.{Begins}
use Rattle.cf_elab_valid.proofs.Alike.{alike-same}
use Rattle.cf_elab_valid.proofs.Early.{early-form}
use Rattle.cf_elab_valid.proofs.Options.{none_some, some_is}

no_class : {A : Type 0} → IsTrue false → A
no_class h = absurd (true≢false (sym h))

-- the steps are these, and none for const
alone : (P : List ConvStep → Type 0) (core ss : List ConvStep) → core ≡ ss → is_single core ≡ true → P core → Way P ss
alone P core ss e o p = record { core = core; const = false; is = sym e; single = o; right = p }

chosen_steps : (P : List ConvStep → Type 0) (b : Bool) (x y ss : List ConvStep) → (if b then x else y) ≡ ss → is_single x ≡ true → is_single y ≡ true → (b ≡ true → P x) → (b ≡ false → P y) → Way P ss
chosen_steps P true x y ss e m n p q = alone P x ss e m (p refl)
chosen_steps P false x y ss e m n p q = alone P y ss e n (q refl)

-- const is added or not
const_steps : (P : List ConvStep → Type 0) (a b : Bool) (o : Option (List ConvStep)) (ss : List ConvStep) → with_const a b o ≡ Some ss
    → ((core : List ConvStep) → o ≡ Some core → is_single core ≡ true) → ((core : List ConvStep) → o ≡ Some core → P core) → Way P ss
const_steps P true false o ss e n p = absurd (none_some ss e)
const_steps P true true o ss e n p = alone P ss ss refl (n ss e) (p ss e)
const_steps P false false o ss e n p = alone P ss ss refl (n ss e) (p ss e)
const_steps P false true None ss e n p = absurd (none_some ss e)
const_steps P false true (Some core) ss e n p = record { core = core; const = true; is = sym (some_is (core ++ AddConst ∷ []) ss e); single = n core refl; right = p core refl }

void_single : (ss : List ConvStep) → Some (ToVoid ∷ []) ≡ Some ss → is_single ss ≡ true
void_single ss e = subst (λ l. is_single l ≡ true) (some_is (ToVoid ∷ []) ss e) refl

pointed_single : (ds : List (ℕ × ClassDef)) (x y : Ty) (ss : List ConvStep) → pointed ds x y ≡ Some ss → IsTrue (without_class x) → is_single ss ≡ true
pointed_single ds (ty.Fun u) y ss e c = absurd (none_some ss e)
pointed_single ds ty.Void ty.Void ss e c = void_single ss e
pointed_single ds (ty.Int k) ty.Void ss e c = void_single ss e
pointed_single ds (ty.Enum k) ty.Void ss e c = void_single ss e
pointed_single ds (ty.Ptr k) ty.Void ss e c = void_single ss e
pointed_single ds (ty.Ref k) ty.Void ss e c = void_single ss e
pointed_single ds (ty.Array k n) ty.Void ss e c = void_single ss e
pointed_single ds (ty.Const k) ty.Void ss e c = void_single ss e
pointed_single ds (ty.Class k) y ss e c = no_class c
pointed_single ds (ty.MemData k n) y ss e c = no_class c
pointed_single ds (ty.MemFun k n) y ss e c = no_class c
pointed_single ds x y ss e c = absurd (none_some ss e)

-- ---- what is said at the end of the way

module _ (W : Type 0) (T : Tables) (a b : SourceType) where
  abbrev Says : List ConvStep → Type 0
  Says ss = W → Leads a b ss

  -- an integer to an integer
  integers : (k l : Kind) (ss : List ConvStep) → Some (to_integer k l) ≡ Some ss → (W → Same a (integer k)) → (W → Same b (integer l)) → Way Says ss
  integers k l ss e f g = by (ghosts.eq k l) refl (ghosts.eq (promoted k) l) (some_is (to_integer k l) ss e)
    where
      both : W → BothIntegral a b
      both w = record { from = ap is_integral (f w); to = ap is_integral (g w) }

      by : (c : Bool) → ghosts.eq k l ≡ c → (d : Bool) → (if c then [] else (if d then Promote ∷ [] else Integer l ∷ [])) ≡ ss → Way Says ss
      by true same d is = alone Says [] ss is refl (λ w. f w ∙ ap (λ n. integer n) (same_true the_type tt k l same) ∙ sym (g w))
      by false same true is = alone Says (Promote ∷ []) ss is refl (λ w. both w)
      by false same false is = alone Says (Integer l ∷ []) ss is refl (λ w. record { from = ap is_integral (f w); to = g w })

  enum_integer : (l : Kind) (n : List ℕ) (ss : List ConvStep) → Some (enum_to_integer l) ≡ Some ss → (W → Same a (enumeration n)) → (W → Same b (integer l)) → Way Says ss
  enum_integer l n ss e f g = chosen_steps Says (ghosts.eq kind.Int l) (Promote ∷ []) (Integer l ∷ []) ss (some_is (enum_to_integer l) ss e) refl refl (λ _ w. record { from = ap is_integral (f w); to = ap is_integral (g w) }) (λ _ w. record { from = ap is_integral (f w); to = g w })

  enums : (m n : ℕ) (name : ℕ → List ℕ) (ss : List ConvStep) → (if m == n then Some [] else None) ≡ Some ss → (W → Same a (enumeration (name m))) → (W → Same b (enumeration (name n))) → Way Says ss
  enums m n name ss e f g = by (m == n) refl e
    where
      by : (c : Bool) → (m == n) ≡ c → (if c then Some [] else None) ≡ Some ss → Way Says ss
      by true same is = alone Says [] ss (some_is [] ss is) refl (λ w. f w ∙ ap (λ i. enumeration (name i)) (eqb-true m n same) ∙ sym (g w))
      by false same is = absurd (none_some ss is)

  -- what pointers lead to
  into_void : (p q : SourceType) (ss : List ConvStep) → Some (ToVoid ∷ []) ≡ Some ss → (W → Same a (pointer p)) → (W → Same b (pointer q)) → (W → is_void q ≡ true) → W → Leads a b ss
  into_void p q ss e f g v w = subst (λ l. Leads a b l) (some_is (ToVoid ∷ []) ss e) (record { from = p; is_from = f w; to = q; is_to = g w; to_void = v w })

  pointed_steps : (p q : SourceType) (ds : List (ℕ × ClassDef)) (x y : Ty) (ss : List ConvStep) → pointed ds x y ≡ Some ss → IsTrue (without_class x)
      → (W → Same a (pointer p)) → (W → Same b (pointer q)) → (y ≡ ty.Void → W → is_void q ≡ true) → W → Leads a b ss
  pointed_steps p q ds (ty.Fun u) y ss e c f g v w = absurd (none_some ss e)
  pointed_steps p q ds ty.Void ty.Void ss e c f g v w = into_void p q ss e f g (v refl) w
  pointed_steps p q ds (ty.Int k) ty.Void ss e c f g v w = into_void p q ss e f g (v refl) w
  pointed_steps p q ds (ty.Enum k) ty.Void ss e c f g v w = into_void p q ss e f g (v refl) w
  pointed_steps p q ds (ty.Ptr k) ty.Void ss e c f g v w = into_void p q ss e f g (v refl) w
  pointed_steps p q ds (ty.Ref k) ty.Void ss e c f g v w = into_void p q ss e f g (v refl) w
  pointed_steps p q ds (ty.Array k n) ty.Void ss e c f g v w = into_void p q ss e f g (v refl) w
  pointed_steps p q ds (ty.Const k) ty.Void ss e c f g v w = into_void p q ss e f g (v refl) w
  pointed_steps p q ds (ty.Class k) y ss e c f g v w = no_class c
  pointed_steps p q ds (ty.MemData k n) y ss e c f g v w = no_class c
  pointed_steps p q ds (ty.MemFun k n) y ss e c f g v w = no_class c
  pointed_steps p q ds x y ss e c f g v w = absurd (none_some ss e)

-- ---- from one type of a table to another

module _ (T : Tables) (well : IsTable T.types) (types : Table) (ds : List (ℕ × ClassDef)) (W : Type 0) (begins : W → Begins types.types T.types.types) (plain : (t : ℕ) → IsTrue (without_class (type_at types t))) where
  abbrev tree : ℕ → SourceType
  tree t = type_of T t

  abbrev Known : ℕ → Type 0
  Known t = t < length types.types

  module _ (a b : SourceType) where
    -- a pointer to one type to a pointer to another
    pointers : (p q : ℕ) (ss : List ConvStep) → to_pointer types ds p q ≡ Some ss → (W → Known p) → (W → Known q) → (W → Same a (pointer (tree p))) → (W → Same b (pointer (tree q)))
        → Way (λ l. W → Leads a b l) ss
    pointers p q ss e k l f g =
        const_steps (λ l. W → Leads a b l) (is_const types p) (is_const types q) (pointee types ds p q) ss e (λ core is. one (is_alike types p q) core is) (λ core is w. by (is_alike types p q) refl core is w)
      where
        one : (c : Bool) (core : List ConvStep) → (if c then Some [] else pointed ds (type_at types (bare types p)) (type_at types (bare types q))) ≡ Some core → is_single core ≡ true
        one true core is = subst (λ l. is_single l ≡ true) (some_is [] core is) refl
        one false core is = pointed_single ds (type_at types (bare types p)) (type_at types (bare types q)) core is (plain (bare types p))

        void_there : W → type_at types (bare types q) ≡ ty.Void → is_void (tree q) ≡ true
        void_there w is = sym (void-plain (tree q)) ∙ ap is_void (early-form T well types (begins w) q (l w) ty.Void is)

        by : (c : Bool) → is_alike types p q ≡ c → (core : List ConvStep)
            → (if c then Some [] else pointed ds (type_at types (bare types p)) (type_at types (bare types q))) ≡ Some core → W → Leads a b core
        by true same core is w =
            subst (λ l. Leads a b l) (some_is [] core is) (f w ∙ ap pointer (alike-same T well types (begins w) p q (k w) (l w) same) ∙ sym (g w))
        by false same core is w =
            pointed_steps W T a b (tree p) (tree q) ds (type_at types (bare types p)) (type_at types (bare types q)) core is (plain (bare types p)) f g (λ v w. void_there w v) w

    -- where the two trees are those of these forms
    abbrev Formed : SourceType → Ty → Type 0
    Formed t v = Same t (type_step T tree v)

    pub value-way : (from to : Ty) (ss : List ConvStep) → value_steps types ds from to ≡ Some ss → IsTrue (without_class from)
        → (W → Formed a from) → (W → Formed b to) → ((p : ℕ) → from ≡ ty.Ptr p → W → Known p) → ((q : ℕ) → to ≡ ty.Ptr q → W → Known q) → Way (λ l. W → Leads a b l) ss
    value-way (ty.Int k) (ty.Int l) ss e c f g kp kq = integers W T a b k l ss e f g
    value-way (ty.Enum n) (ty.Int l) ss e c f g kp kq = enum_integer W T a b l _ ss e f g
    value-way (ty.Enum m) (ty.Enum n) ss e c f g kp kq = enums W T a b m n (λ i. enum_name i) ss e f g
      where
        enum_name : ℕ → List ℕ
        enum_name i = scope_code (enum_names T.classes i)
    value-way (ty.Ptr p) (ty.Ptr q) ss e c f g kp kq = pointers p q ss e (kp p refl) (kq q refl) f g
    value-way (ty.Class k) to ss e c f g kp kq = no_class c
    value-way (ty.MemData k n) to ss e c f g kp kq = no_class c
    value-way (ty.MemFun k n) to ss e c f g kp kq = no_class c
    value-way from to ss e c f g kp kq = absurd (none_some ss e)

    -- the constant 0 may be a null pointer
    pub null-way : (zero : Bool) (from to : Ty) (ss : List ConvStep) → (if zero && takes_null to then Some (Null ∷ []) else value_steps types ds from to) ≡ Some ss
        → IsTrue (without_class from) → IsTrue (without_class to) → (W → Formed a from) → (W → Formed b to) → ((p : ℕ) → from ≡ ty.Ptr p → W → Known p) → ((q : ℕ) → to ≡ ty.Ptr q → W → Known q)
        → Way (λ l. W → Leads a b l) ss
    null-way zero from to ss e c d f g kp kq = by (zero && takes_null to) refl e
      where
        pointer_there : (v : Ty) → takes_null v ≡ true → IsTrue (without_class v) → (W → Formed b v) → W → IsPointer b
        pointer_there (ty.Ptr q) h n g w = record { pointee = tree q; same = g w }
        pointer_there (ty.MemData k n) h p g w = no_class p
        pointer_there (ty.MemFun k n) h p g w = no_class p
        pointer_there v h n g w = absurd (true≢false (sym h))

        takes : (x y : Bool) → (x && y) ≡ true → y ≡ true
        takes true y h = h
        takes false y h = absurd (true≢false (sym h))

        by : (x : Bool) → (zero && takes_null to) ≡ x → (if x then Some (Null ∷ []) else value_steps types ds from to) ≡ Some ss → Way (λ l. W → Leads a b l) ss
        by true h is = alone (λ l. W → Leads a b l) (Null ∷ []) ss (some_is (Null ∷ []) ss is) refl (λ w. pointer_there to (takes zero (takes_null to) h) d g w)
        by false h is = value-way from to ss is c f g kp kq
