-- A reference binds a place itself, or else a temporary.
use Rattle.std.proofs.Common.{◌≡◌, ℕ, Bool, true, false, ◌&&◌, List, [], ◌∷◌, Option, None, Some, refl, sym, ap, ◌∙◌, true≢false}
use Rattle.std.specs.List.{list_all}
use Rattle.std.specs.Option.{option_map, option_or}
use Rattle.std.specs.Prelude.{reverse, if◌then◌else◌}
use Rattle.cf_types.specs.declared.ty.Ty.TheVariants as ty
use Rattle.cf_classes.specs.declared.class.ClassDef.{ClassDef}
use Rattle.cf_convert.specs.Constness.{type_at, bare, is_const}
use Rattle.cf_convert.specs.Converts.{steps, binds, to_value, through_temporary, is_add_const}
use Rattle.cf_convert.specs.declared.conv.Val.{Val}
use Rattle.cf_convert.specs.declared.conv.ConvStep.{ConvStep}
use Rattle.cf_convert.specs.declared.conv.ConvStep.TheVariants.{Read, Decay, AddConst, Promote, Integer, Null, ToVoid, ToBase, ToMember}
use Rattle.cf_elab.specs.Answer.{Answer, Elab, Made, Refused, onward, need, for_each}
use Rattle.cf_elab.specs.Env.{Env}
use Rattle.cf_elab.specs.Fit as standard
use Rattle.cf_elab.specs.Initial as initials
use Rattle.cf_elab.specs.Initial.{Start, Keeper}
use Rattle.cf_elab.specs.Operand.{Value, defs, is_zero}
use Rattle.cf_elab.specs.UserFit as user
use Rattle.cf_elab_env.specs.Holds.{IsEnv}
use Rattle.cf_elab_fit.specs.Shut as fit
use Rattle.cf_elab_initial.specs.Initials.Direct.{add_const_alone, binds_by, bound_place}
use Rattle.cf_elab_initial.specs.Initials.Shut as shut
use Rattle.cf_elab_initial.proofs.InitialsLaws.Direct.{no_more, temporary_steps, place_steps}

-- ---- adding const makes nothing of a place

module _ (at u : ℕ) (v : Value) (env : Env) where
  checked : (ss : List ConvStep) → list_all is_add_const ss ≡ true → for_each (standard.step_checked at u v) ss env ≡ Made tt env
  checked [] h = refl
  checked (AddConst ∷ ss) h = checked ss h
  checked (Read ∷ ss) h = absurd (true≢false (sym h))
  checked (Decay ∷ ss) h = absurd (true≢false (sym h))
  checked (Promote ∷ ss) h = absurd (true≢false (sym h))
  checked (Integer k ∷ ss) h = absurd (true≢false (sym h))
  checked (Null ∷ ss) h = absurd (true≢false (sym h))
  checked (ToVoid ∷ ss) h = absurd (true≢false (sym h))
  checked (ToBase p ∷ ss) h = absurd (true≢false (sym h))
  checked (ToMember p ∷ ss) h = absurd (true≢false (sym h))

  stepped : (ss : List ConvStep) → list_all is_add_const ss ≡ true → standard.all_steps u ss v env ≡ Made (record v { type = u }) env
  stepped [] h = refl
  stepped (AddConst ∷ ss) h = stepped ss h
  stepped (Read ∷ ss) h = absurd (true≢false (sym h))
  stepped (Decay ∷ ss) h = absurd (true≢false (sym h))
  stepped (Promote ∷ ss) h = absurd (true≢false (sym h))
  stepped (Integer k ∷ ss) h = absurd (true≢false (sym h))
  stepped (Null ∷ ss) h = absurd (true≢false (sym h))
  stepped (ToVoid ∷ ss) h = absurd (true≢false (sym h))
  stepped (ToBase p ∷ ss) h = absurd (true≢false (sym h))
  stepped (ToMember p ∷ ss) h = absurd (true≢false (sym h))

  place_converted : (ss : List ConvStep) → list_all is_add_const ss ≡ true → standard.converted at u ss v env ≡ Made (record v { type = u }) env
  place_converted ss h = ap (λ a. onward a (λ _. standard.all_steps u ss v)) (checked ss h) ∙ stepped ss h

-- ---- by the steps to the reference

module _ (keeper : ℕ → Elab Keeper) (at u reference : ℕ) (v : Value) (env : Env) (refers : type_at env.types reference ≡ ty.Ref u) (e : IsEnv env) where
  -- the value, as an lvalue or not
  abbrev as_val : Bool → Val
  as_val l = record { ty = v.type; lvalue = l; zero = is_zero v.number }

  abbrev reached : List (ℕ × ClassDef) → Bool → Bool
  reached ds l = l && add_const_alone (steps env.types ds (as_val l) reference)

  abbrev by_binding : Option (List ConvStep) → Answer Start
  by_binding o = initials.bound_or user.fit keeper at u v o env

  abbrev taken : List (ℕ × ClassDef) → Bool → Answer Start
  taken ds l = by_binding (binds env.types ds (as_val l) u)

  no_defs : defs env ≡ []
  no_defs = ap reverse e.no_class

  abbrev by_value : Option (List ConvStep)
  by_value = if is_const env.types u then option_map through_temporary (to_value env.types [] (as_val true) (bare env.types u)) else None

  -- the place itself, or else a temporary
  two_ways : steps env.types [] (as_val true) reference ≡ option_or (binds env.types [] (as_val true) u) by_value
  two_ways = rw refers refl

  itself : (b : Option (List ConvStep)) → no_more b ≡ true → add_const_alone (option_or b by_value) ≡ true → by_binding b ≡ Made (bound_place at v) env
  itself None fine h = absurd (true≢false (sym h ∙ temporary_steps env.types v.type (is_zero v.number) u))
  itself (Some ss) fine h =
      ap (λ a. onward a (λ x. λ env. Made (bound_place at (record x { type = v.type })) env)) (place_converted at u v env ss fine)

  other : (b : Option (List ConvStep)) → no_more b ≡ true → add_const_alone (option_or b by_value) ≡ false → by_binding b ≡ by_binding None
  other None fine h = refl
  other (Some ss) fine h = absurd (true≢false (sym fine ∙ h))

  direct : (l : Bool) → reached [] l ≡ true → taken [] l ≡ Made (bound_place at v) env
  direct true h = itself (binds env.types [] (as_val true) u) (place_steps env.types v.type (is_zero v.number) u) (ap add_const_alone (sym two_ways) ∙ h)
  direct false h = absurd (true≢false (sym h))

  temporary : (l : Bool) → reached [] l ≡ false → taken [] l ≡ by_binding None
  temporary true h = other (binds env.types [] (as_val true) u) (place_steps env.types v.type (is_zero v.number) u) (ap add_const_alone (sym two_ways) ∙ h)
  temporary false h = refl

  opened : binds_by env v reference ≡ reached [] v.is_lvalue
  unfolding binds_by
  opened = ap (λ ds. reached ds v.is_lvalue) no_defs

  pub bound_directly : (s : Start) → binds_by env v reference ≡ true → s ≡ bound_place at v → shut.bound keeper at u v env ≡ Made s env
  unfolding shut.bound
  bound_directly s h is = ap (λ ds. taken ds v.is_lvalue) no_defs ∙ direct v.is_lvalue (sym opened ∙ h) ∙ ap (λ s. Made s env) (sym is)

  pub bound_by_temporary : binds_by env v reference ≡ false → shut.bound keeper at u v env ≡ shut.by_temporary keeper at u v env
  unfolding shut.bound shut.by_temporary
  bound_by_temporary h = ap (λ ds. taken ds v.is_lvalue) no_defs ∙ temporary v.is_lvalue (sym opened ∙ h)

-- ---- a temporary

module _ (keeper : ℕ → Elab Keeper) (at u : ℕ) (v : Value) (env : Env) where
  abbrev by_const : Bool → Answer Start
  by_const b = onward (need b 29 at env) (λ _ env. onward (user.fit at v u env) (λ x env. onward (keeper u env) (λ k env. Made (initials.keeps at u k x) env)))

  pub to_const : is_const env.types u ≡ true → shut.by_temporary keeper at u v env ≡ onward (fit.user_fit at v u env) (shut.held keeper at u)
  unfolding shut.by_temporary fit.user_fit shut.held
  to_const h = ap by_const h

  pub not_to_const : is_const env.types u ≡ false → shut.by_temporary keeper at u v env ≡ Refused 29 at
  unfolding shut.by_temporary
  not_to_const h = ap by_const h

pub ruleset bound_laws = (bound_directly, bound_by_temporary)

pub ruleset temporary_laws = (to_const, not_to_const)
