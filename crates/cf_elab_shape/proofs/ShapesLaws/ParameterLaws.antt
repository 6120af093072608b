-- The types of parameters in the type of their function.
use Rattle.std.proofs.Common.{◌≡◌, ℕ, true, false, List, [], ◌∷◌, ◌++◌, length, get_or, Some, slice_get, IsTrue, refl, sym, ap, subst, ◌∙◌, true≢false, append_assoc, arith}
use Rattle.std.proofs.lemmas.List.{append-nil}
use Rattle.std.proofs.lemmas.List.Elements.{All-head, All-tail, All-push}
use Rattle.cf_types.specs.declared.ty.Ty.{Ty}
use Rattle.cf_types.specs.declared.ty.Ty.TheVariants as ty
use Rattle.cf_types.specs.Table.{Table, passes, passing, is_parameter, takes_const}
use Rattle.cf_convert.specs.Constness.{type_at, bare}
use Rattle.cf_elab.specs.Answer.{Answer, Made, Refused, Passed, onward}
use Rattle.cf_elab.specs.Env.{Env}
use Rattle.cf_elab.specs.Made.{parameter_step}
use Rattle.cf_elab.specs.Operand.{ty_sort, sort_of, is_void}
use Rattle.cf_elab.specs.Shape.{Parameter}
use Rattle.cf_elab_env.specs.Holds.{Grows, IsEnv, IsType}
use Rattle.cf_elab_env.specs.Shut as made
use Rattle.cf_elab_env.proofs.Growth.{grown_laws, type_grown, here, bare-known, bare_const, All-into}
use Rattle.cf_types.proofs.Places.{get-front}
use Rattle.cf_elab_shape.specs.Shapes.Holds.{IsParameter, AreObjects, AreTaken}
use Rattle.cf_elab_shape.specs.Shapes.Shut as shut

-- ---- what stays true as the table grows

pub parameter_grown : (a b : Table) (p : Parameter) → Grows a b → IsParameter a p → IsParameter b p
parameter_grown a b p g k = record { typed = type_grown a b p.type g k.typed; object = ap is_void (g.sorts p.type k.typed) ∙ k.object; no_default = k.no_default }

pub objects_grown : (a b : Table) (ps : List Parameter) → Grows a b → AreObjects a ps → AreObjects b ps
objects_grown a b ps g all = All-into (IsParameter a) (IsParameter b) ps (λ p. parameter_grown a b p g) all

fine_grown : (a b : Table) (t : ℕ) → Grows a b → IsType a t → IsTrue (passes is_parameter a.types t) → IsTrue (passes is_parameter b.types t)
fine_grown a b t g known fine = ap (passing is_parameter) (ap (λ l. slice_get l t) g.types ∙ get-front a.types g.more_types t known) ∙ fine

pub taken_none : (types : Table) → AreTaken types []
taken_none types = record { typed = λ k d h. absurd (omega arith); fine = λ k d h. absurd (omega arith) }

pub taken_grown : (a b : Table) (ts : List ℕ) → Grows a b → AreTaken a ts → AreTaken b ts
taken_grown a b ts g k = record {
  typed = All-into (IsType a) (IsType b) ts (λ t. type_grown a b t g) k.typed;
  fine = λ i d h. fine_grown a b (get_or ts i d) g (k.typed i d h) (k.fine i d h);
}

pub taken_more : (types : Table) (ts : List ℕ) (t : ℕ) → AreTaken types ts → IsType types t → IsTrue (passes is_parameter types.types t) → AreTaken types (ts ++ t ∷ [])
taken_more types ts t k known fine = record {
  typed = All-push (λ t. IsType types t) ts t k.typed known;
  fine = All-push (λ t. IsTrue (passes is_parameter types.types t)) ts t k.fine fine;
}

-- ---- one parameter

module _ (env : Env) (t : ℕ) (e : IsEnv env) (known : IsType env.types t) (object : is_void (sort_of env.types t) ≡ false) where
  found : (v : Ty) → type_at env.types t ≡ v → slice_get env.types.types t ≡ Some v
  found v is = here env.types t known ∙ ap Some is

  pub array_parameter : (u n : ℕ) (r : Answer ℕ) → ty.Array u n ≡ type_at env.types t → made.pointer_to u env ≡ r → shut.parameter_type t env ≡ r
  unfolding shut.parameter_type made.pointer_to
  array_parameter u n r is h = ap (λ v. parameter_step t v env) (sym is) ∙ h

  pub function_parameter : (f : ℕ) (r : Answer ℕ) → ty.Fun f ≡ type_at env.types t → made.pointer_to t env ≡ r → shut.parameter_type t env ≡ r
  unfolding shut.parameter_type made.pointer_to
  function_parameter f r is h = ap (λ v. parameter_step t v env) (sym is) ∙ h

  pub const_parameter : (u : ℕ) → type_at env.types t ≡ ty.Const u → shut.parameter_type t env ≡ Made u env
  unfolding shut.parameter_type
  const_parameter u is = ap (λ v. parameter_step t v env) is

  pub other_parameter : ((u n : ℕ) → type_at env.types t ≡ ty.Array u n → ⊥) → ((f : ℕ) → type_at env.types t ≡ ty.Fun f → ⊥) → ((u : ℕ) → type_at env.types t ≡ ty.Const u → ⊥)
      → shut.parameter_type t env ≡ Made t env
  unfolding shut.parameter_type
  other_parameter a f c = by (type_at env.types t) a f c
    where
      by : (v : Ty) → ((u n : ℕ) → v ≡ ty.Array u n → ⊥) → ((f : ℕ) → v ≡ ty.Fun f → ⊥) → ((u : ℕ) → v ≡ ty.Const u → ⊥) → parameter_step t v env ≡ Made t env
      by (ty.Array u n) a f c = absurd (a u n refl)
      by (ty.Fun g) a f c = absurd (f g refl)
      by (ty.Const u) a f c = absurd (c u refl)
      by other a f c = refl

  -- under const there is no const, no array and no function
  pub const_known : (u : ℕ) → type_at env.types t ≡ ty.Const u → IsType env.types u
  const_known u is = let b : IsType env.types (bare env.types t) = bare-known env.types t e.table known in subst (IsType env.types) (bare_const env.types t u is) b

  no_void : (u : ℕ) → bare env.types t ≡ u → type_at env.types u ≡ ty.Void → ⊥
  no_void u is v = true≢false (sym (ap (λ w. is_void (ty_sort env.types w)) (ap (type_at env.types) is ∙ v)) ∙ object)

  pub const_fine : (u : ℕ) → type_at env.types t ≡ ty.Const u → IsTrue (passes is_parameter env.types.types u)
  const_fine u is =
      ap (passing is_parameter) (here env.types u (const_known u is))
      ∙ by (type_at env.types u) (no_void u (bare_const env.types t u is)) (sym (ap (passing takes_const) (here env.types u (const_known u is))) ∙ e.table.normal t (ty.Const u) (found (ty.Const u) is))
    where
      by : (v : Ty) → (v ≡ ty.Void → ⊥) → takes_const v ≡ true → is_parameter v ≡ true
      by ty.Void never h = absurd (never refl)
      by (ty.Array w n) never h = h
      by (ty.Fun f) never h = h
      by (ty.Const w) never h = h
      by other never h = refl

  pub other_fine : ((u n : ℕ) → type_at env.types t ≡ ty.Array u n → ⊥) → ((f : ℕ) → type_at env.types t ≡ ty.Fun f → ⊥) → ((u : ℕ) → type_at env.types t ≡ ty.Const u → ⊥)
      → IsTrue (passes is_parameter env.types.types t)
  other_fine a f c = ap (passing is_parameter) (here env.types t known) ∙ by (type_at env.types t) refl
    where
      plain : (v : Ty) → type_at env.types t ≡ v → ((u : ℕ) → v ≡ ty.Const u → ⊥) → bare env.types t ≡ t
      plain (ty.Const u) is never = absurd (never u refl)
      plain other is never = rw is refl

      by : (v : Ty) → type_at env.types t ≡ v → is_parameter v ≡ true
      by ty.Void is = absurd (no_void t (plain ty.Void is (λ u h. cc)) is)
      by (ty.Array u n) is = absurd (a u n is)
      by (ty.Fun g) is = absurd (f g is)
      by (ty.Const u) is = absurd (c u is)
      by other is = refl

pub pointer_fine : (types : Table) (t u : ℕ) → slice_get types.types t ≡ Some (ty.Ptr u) → IsTrue (passes is_parameter types.types t)
pointer_fine types t u h = ap (passing is_parameter) h

-- ---- all parameters

pub empty : {A : Type 0} (xs : List A) → length xs ≡ 0 → xs ≡ []
empty [] h = refl
empty (x ∷ xs) h = absurd (omega arith)

pub none_more : (env : Env) (ps : List Parameter) (done : List ℕ) → length ps ≡ 0 → onward (shut.parameter_types ps env) (λ ts e. Made (done ++ ts) e) ≡ Made done env
unfolding shut.parameter_types
none_more env ps done none = let is : ps ≡ [] = empty ps none in ap (λ ps. onward (shut.parameter_types ps env) (λ ts e. Made (done ++ ts) e)) is ∙ ap (λ l. Made l env) (append-nil done)

pub one_more : (env mid new : Env) (ps rest : List Parameter) (p : Parameter) (done made result : List ℕ) (t : ℕ) → ps ≡ p ∷ rest → shut.parameter_type p.type env ≡ Made t mid
    → made ≡ done ++ t ∷ [] → onward (shut.parameter_types rest mid) (λ ts e. Made (made ++ ts) e) ≡ Made result new
    → onward (shut.parameter_types ps env) (λ ts e. Made (done ++ ts) e) ≡ Made result new
unfolding shut.parameter_types shut.parameter_type
one_more env mid new ps rest p done made result t is first push h =
    ap (λ ps. onward (shut.parameter_types ps env) (λ ts e. Made (done ++ ts) e)) is
    ∙ ap (λ a. onward (onward a (λ y e. onward (shut.parameter_types rest e) (λ ys f. Made (y ∷ ys) f))) (λ ts e. Made (done ++ ts) e)) first
    ∙ by (shut.parameter_types rest mid)
    ∙ ap (λ l. onward (shut.parameter_types rest mid) (λ ts e. Made (l ++ ts) e)) (sym push) ∙ h
  where
    by : (a : Answer (List ℕ)) → onward (onward a (λ ys f. Made (t ∷ ys) f)) (λ ts e. Made (done ++ ts) e) ≡ onward a (λ ts e. Made ((done ++ t ∷ []) ++ ts) e)
    by (Made ys e) = ap (λ l. Made l e) (sym (append_assoc done (t ∷ []) ys))
    by (Refused r at) = refl
    by (Passed b m) = refl

pub types_from : (env new : Env) (ps : List Parameter) (none ts : List ℕ) → none ≡ [] → onward (shut.parameter_types ps env) (λ ts e. Made (none ++ ts) e) ≡ Made ts new
    → shut.parameter_types ps env ≡ Made ts new
types_from env new ps none ts is h = by (shut.parameter_types ps env) (ap (λ l. onward (shut.parameter_types ps env) (λ ts e. Made (l ++ ts) e)) (sym is) ∙ h)
  where
    by : (a : Answer (List ℕ)) → onward a (λ ts e. Made ([] ++ ts) e) ≡ Made ts new → a ≡ Made ts new
    by (Made ys e) h = h
    by (Refused r at) h = cc
    by (Passed b m) h = cc

pub first_object : (types : Table) (p : Parameter) (ps rest : List Parameter) → ps ≡ p ∷ rest → AreObjects types ps → IsParameter types p
first_object types p ps rest is all = let P : List Parameter → Type 0 = AreObjects types in All-head (λ p. IsParameter types p) p rest (subst P is all)

pub rest_objects : (types : Table) (p : Parameter) (ps rest : List Parameter) → ps ≡ p ∷ rest → AreObjects types ps → AreObjects types rest
rest_objects types p ps rest is all = let P : List Parameter → Type 0 = AreObjects types in All-tail (λ p. IsParameter types p) p rest (subst P is all)

pub ruleset type_laws = (array_parameter, function_parameter, const_parameter, other_parameter, const_known, const_fine, other_fine, pointer_fine, grown_laws)

pub ruleset more_laws = (none_more, one_more, first_object, rest_objects, objects_grown, taken_grown, taken_more, grown_laws)

pub ruleset types_laws = (types_from, taken_none)
