-- What a type is, by what stands in the table: each property by the forms that it depends on.
use Rattle.std.proofs.Common.{◌≡◌, ◌∙◌, ℕ, zero, suc, ◌<◌, ◌≤◌, ◌^◌, Bool, true, false, ◌&&◌, ◌||◌, List, [], ◌∷◌, map, length, drop, get_or, Option, Some, None, slice_get, All, ap, refl, sym, subst, arith, drop-cons, drop_of_length-le}
use Rattle.std.specs.Prelude.{is_some, nat_le}
use Rattle.std.specs.List.{list_all}
use Rattle.cf_base.specs.declared.kind.Kind.{Kind}
use Rattle.cf_types.specs.declared.ty.Ty.{Ty}
use Rattle.cf_types.specs.declared.ty.Ty.TheVariants as ty
use Rattle.cf_types.specs.declared.ty.Fun.{Fun}
use Rattle.cf_types.specs.Table.{Names, parts_of_fun}
use Rattle.cf_core.specs.Types.{SourceType, gives, is_void, parameters, result}
use Rattle.cf_core.specs.Places.{is_reference, is_const}
use Rattle.cf_core.specs.FromTypes.{Tables, type_of, type_step, taking, fun_type}
use Rattle.cf_lower_kept.specs.Ready.{is_code, names_well}
use Rattle.cf_lower_layout.specs.Layout.{has_bytes, const_once}
use Rattle.cf_lower_layout.specs.Sorts.{sort_of}
use Rattle.cf_lower_program.specs.Types.{is_laid, is_lowered}
use Rattle.cf_sequence_lowered.specs.Types.{is_of_function}
use Rattle.cf_lowerable_core.specs.Looks.{signature_looks}

-- ---- the forms of functions

module _ (r : SourceType) (b : Bool) where
  code-taking : (ps : List SourceType) → is_code (taking ps (gives r b)) ≡ true
  code-taking [] = refl
  code-taking (p ∷ ps) = refl

  void-taking : (ps : List SourceType) → is_void (taking ps (gives r b)) ≡ false
  void-taking [] = refl
  void-taking (p ∷ ps) = refl

  reference-taking : (ps : List SourceType) → is_reference (taking ps (gives r b)) ≡ false
  reference-taking [] = refl
  reference-taking (p ∷ ps) = refl

  const-taking : (ps : List SourceType) → is_const (taking ps (gives r b)) ≡ false
  const-taking [] = refl
  const-taking (p ∷ ps) = refl

  well-taking : (ps : List SourceType) → names_well (taking ps (gives r b)) ≡ true
  well-taking [] = refl
  well-taking (p ∷ ps) = refl

  scalar-taking : (ps : List SourceType) → is_some (sort_of (taking ps (gives r b))) ≡ false
  scalar-taking [] = refl
  scalar-taking (p ∷ ps) = refl

  bytes-taking : (ps : List SourceType) → has_bytes (taking ps (gives r b)) ≡ true
  bytes-taking [] = refl
  bytes-taking (p ∷ ps) = refl

  once-taking : (ps : List SourceType) → const_once (taking ps (gives r b)) ≡ true
  once-taking [] = refl
  once-taking (p ∷ ps) = refl

  lowered-taking : (ps : List SourceType) → is_lowered (taking ps (gives r b)) ≡ (list_all is_lowered ps && is_lowered r)
  lowered-taking [] = refl
  lowered-taking (p ∷ ps) = ap (λ c. is_lowered p && c) (lowered-taking ps) ∙ both-ways (is_lowered p) (list_all is_lowered ps) (is_lowered r)
    where
      both-ways : (x y z : Bool) → (x && (y && z)) ≡ ((x && y) && z)
      both-ways true y z = refl
      both-ways false y z = refl

  pub parameters-taking : (ps : List SourceType) → parameters (taking ps (gives r b)) ≡ ps
  parameters-taking [] = refl
  parameters-taking (p ∷ ps) = ap (λ l. p ∷ l) (parameters-taking ps)

  result-taking : (ps : List SourceType) → result (taking ps (gives r b)) ≡ r
  result-taking [] = refl
  result-taking (p ∷ ps) = result-taking ps

  pub by_signature : (ps : List SourceType) → signature_looks ps r ≡ is_of_function (taking ps (gives r b))
  by_signature ps =
      let t = taking ps (gives r b) in
      sym
      (ap (λ c. c && (((nat_le (length (parameters t)) (2 ^ 64) && list_all (λ p. is_some (sort_of p)) (parameters t)) && (is_void (result t) || is_some (sort_of (result t)))) && list_all is_laid (parameters t)))
      (lowered-taking ps)
      ∙ ap (λ (l : List SourceType). (list_all is_lowered ps && is_lowered r) && (((nat_le (length l) (2 ^ 64) && list_all (λ p. is_some (sort_of p)) l) && (is_void (result t) || is_some (sort_of (result t)))) && list_all is_laid l))
      (parameters-taking ps)
      ∙ ap (λ (u : SourceType). (list_all is_lowered ps && is_lowered r) && (((nat_le (length ps) (2 ^ 64) && list_all (λ p. is_some (sort_of p)) ps) && (is_void u || is_some (sort_of u))) && list_all is_laid ps))
      (result-taking ps))

and-true : (b : Bool) → b ≡ (b && true)
and-true true = refl
and-true false = refl

-- a function type that is there
module _ (rec : ℕ → SourceType) where
  code-there : (funs : List Fun) (f : ℕ) → f < length funs → is_code (fun_type rec (slice_get funs f)) ≡ true
  code-there [] f lt = absurd (omega (arith, lt))
  code-there (g ∷ gs) zero lt = code-taking (rec g.result) g.is_const (map rec g.params)
  code-there (g ∷ gs) (suc f) lt = code-there gs f (omega (arith, lt))

  void-there : (funs : List Fun) (f : ℕ) → f < length funs → is_void (fun_type rec (slice_get funs f)) ≡ false
  void-there [] f lt = absurd (omega (arith, lt))
  void-there (g ∷ gs) zero lt = void-taking (rec g.result) g.is_const (map rec g.params)
  void-there (g ∷ gs) (suc f) lt = void-there gs f (omega (arith, lt))

  reference-fun : (o : Option Fun) → is_reference (fun_type rec o) ≡ false
  reference-fun None = refl
  reference-fun (Some f) = reference-taking (rec f.result) f.is_const (map rec f.params)

  const-fun : (o : Option Fun) → is_const (fun_type rec o) ≡ false
  const-fun None = refl
  const-fun (Some f) = const-taking (rec f.result) f.is_const (map rec f.params)

  well-fun : (o : Option Fun) → names_well (fun_type rec o) ≡ true
  well-fun None = refl
  well-fun (Some f) = well-taking (rec f.result) f.is_const (map rec f.params)

  scalar-fun : (o : Option Fun) → is_some (sort_of (fun_type rec o)) ≡ false
  scalar-fun None = refl
  scalar-fun (Some f) = scalar-taking (rec f.result) f.is_const (map rec f.params)

  bytes-fun : (o : Option Fun) → has_bytes (fun_type rec o) ≡ true
  bytes-fun None = refl
  bytes-fun (Some f) = bytes-taking (rec f.result) f.is_const (map rec f.params)

  once-fun : (o : Option Fun) → const_once (fun_type rec o) ≡ true
  once-fun None = refl
  once-fun (Some f) = once-taking (rec f.result) f.is_const (map rec f.params)

-- ---- entries

module _ (tables : Tables) where
  abbrev entered : Ty → SourceType
  entered = type_step tables (type_of tables)

  -- the type of an entry has a property as its form has it
  pub by_form : {A : Type 0} (p : SourceType → A) (t : ℕ) (v w : Ty) → type_of tables t ≡ type_step tables (type_of tables) v → v ≡ w
      → p (type_step tables (type_of tables) w) ≡ p (type_of tables t)
  by_form p t v w value is = sym (ap p (value ∙ ap (type_step tables (type_of tables)) is))

  pub code_by_fun : (t f : ℕ) (v : Ty) → type_of tables t ≡ type_step tables (type_of tables) v → Names tables.types.funs t (length tables.types.funs) v → v ≡ ty.Fun f
      → true ≡ is_code (type_of tables t)
  code_by_fun t f v value names is =
      let known : Names tables.types.funs t (length tables.types.funs) (ty.Fun f) = subst (Names tables.types.funs t (length tables.types.funs)) is names in
      sym (code-there (type_of tables) tables.types.funs f (known.fun_known 0 f (omega arith))) ∙ by_form is_code t v (ty.Fun f) value is

  pub void_by_fun : (t f : ℕ) (v : Ty) → type_of tables t ≡ type_step tables (type_of tables) v → Names tables.types.funs t (length tables.types.funs) v → v ≡ ty.Fun f
      → false ≡ is_void (type_of tables t)
  void_by_fun t f v value names is =
      let known : Names tables.types.funs t (length tables.types.funs) (ty.Fun f) = subst (Names tables.types.funs t (length tables.types.funs)) is names in
      sym (void-there (type_of tables) tables.types.funs f (known.fun_known 0 f (omega arith))) ∙ by_form is_void t v (ty.Fun f) value is

  -- ---- entries of the other forms

  pub no_code : (v : Ty) → ((f : ℕ) → v ≡ ty.Fun f → ⊥) → ((u : ℕ) → v ≡ ty.Const u → ⊥) → false ≡ is_code (type_step tables (type_of tables) v)
  no_code (ty.Fun f) no_fun no_const = absurd (no_fun f refl)
  no_code (ty.Const u) no_fun no_const = absurd (no_const u refl)
  no_code v no_fun no_const = refl

  pub no_void : (v : Ty) → (v ≡ ty.Void → ⊥) → ((f : ℕ) → v ≡ ty.Fun f → ⊥) → ((u : ℕ) → v ≡ ty.Const u → ⊥) → false ≡ is_void (type_step tables (type_of tables) v)
  no_void ty.Void none no_fun no_const = absurd (none refl)
  no_void (ty.Fun f) none no_fun no_const = absurd (no_fun f refl)
  no_void (ty.Const u) none no_fun no_const = absurd (no_const u refl)
  no_void v none no_fun no_const = refl

  pub no_reference : (v : Ty) → ((u : ℕ) → v ≡ ty.Ref u → ⊥) → ((u : ℕ) → v ≡ ty.Const u → ⊥) → false ≡ is_reference (type_step tables (type_of tables) v)
  no_reference (ty.Ref u) no_ref no_const = absurd (no_ref u refl)
  no_reference (ty.Const u) no_ref no_const = absurd (no_const u refl)
  no_reference (ty.Fun f) no_ref no_const = sym (reference-fun (type_of tables) (slice_get tables.types.funs f))
  no_reference v no_ref no_const = refl

  pub no_const : (v : Ty) → ((u : ℕ) → v ≡ ty.Const u → ⊥) → false ≡ is_const (type_step tables (type_of tables) v)
  no_const (ty.Const u) none = absurd (none u refl)
  no_const (ty.Fun f) none = sym (const-fun (type_of tables) (slice_get tables.types.funs f))
  no_const v none = refl

  pub well_by_others : (v : Ty) → ((u : ℕ) → v ≡ ty.Const u → ⊥) → true ≡ names_well (type_step tables (type_of tables) v)
  well_by_others (ty.Const u) none = absurd (none u refl)
  well_by_others (ty.Fun f) none = sym (well-fun (type_of tables) (slice_get tables.types.funs f))
  well_by_others v none = refl

  pub no_scalar : (v : Ty) → ((k : Kind) → v ≡ ty.Int k → ⊥) → ((e : ℕ) → v ≡ ty.Enum e → ⊥) → ((u : ℕ) → v ≡ ty.Ptr u → ⊥) → ((u : ℕ) → v ≡ ty.Ref u → ⊥)
      → ((u : ℕ) → v ≡ ty.Const u → ⊥) → false ≡ is_some (sort_of (type_step tables (type_of tables) v))
  no_scalar (ty.Int k) no_int no_enum no_ptr no_ref no_const = absurd (no_int k refl)
  no_scalar (ty.Enum e) no_int no_enum no_ptr no_ref no_const = absurd (no_enum e refl)
  no_scalar (ty.Ptr u) no_int no_enum no_ptr no_ref no_const = absurd (no_ptr u refl)
  no_scalar (ty.Ref u) no_int no_enum no_ptr no_ref no_const = absurd (no_ref u refl)
  no_scalar (ty.Const u) no_int no_enum no_ptr no_ref no_const = absurd (no_const u refl)
  no_scalar (ty.Fun f) no_int no_enum no_ptr no_ref no_const = sym (scalar-fun (type_of tables) (slice_get tables.types.funs f))
  no_scalar v no_int no_enum no_ptr no_ref no_const = refl

  pub bytes_by_others : (v : Ty) → ((c : ℕ) → v ≡ ty.Class c → ⊥) → ((u n : ℕ) → v ≡ ty.Array u n → ⊥) → ((u : ℕ) → v ≡ ty.Const u → ⊥)
      → true ≡ has_bytes (type_step tables (type_of tables) v)
  bytes_by_others (ty.Class c) no_class no_array no_const = absurd (no_class c refl)
  bytes_by_others (ty.Array u n) no_class no_array no_const = absurd (no_array u n refl)
  bytes_by_others (ty.Const u) no_class no_array no_const = absurd (no_const u refl)
  bytes_by_others (ty.Fun f) no_class no_array no_const = sym (bytes-fun (type_of tables) (slice_get tables.types.funs f))
  bytes_by_others v no_class no_array no_const = refl

  pub once_by_others : (v : Ty) → ((u n : ℕ) → v ≡ ty.Array u n → ⊥) → ((u : ℕ) → v ≡ ty.Const u → ⊥) → true ≡ const_once (type_step tables (type_of tables) v)
  once_by_others (ty.Array u n) no_array no_const = absurd (no_array u n refl)
  once_by_others (ty.Const u) no_array no_const = absurd (no_const u refl)
  once_by_others (ty.Fun f) no_array no_const = sym (once-fun (type_of tables) (slice_get tables.types.funs f))
  once_by_others v no_array no_const = refl

  pub lowered_by_others : (v : Ty) → ((u : ℕ) → v ≡ ty.Ptr u → ⊥) → ((u : ℕ) → v ≡ ty.Ref u → ⊥) → ((u n : ℕ) → v ≡ ty.Array u n → ⊥) → ((f : ℕ) → v ≡ ty.Fun f → ⊥)
      → ((c u : ℕ) → v ≡ ty.MemData c u → ⊥) → ((c f : ℕ) → v ≡ ty.MemFun c f → ⊥) → ((u : ℕ) → v ≡ ty.Const u → ⊥) → true ≡ is_lowered (type_step tables (type_of tables) v)
  lowered_by_others (ty.Ptr u) p r a f d m c = absurd (p u refl)
  lowered_by_others (ty.Ref u) p r a f d m c = absurd (r u refl)
  lowered_by_others (ty.Array u n) p r a f d m c = absurd (a u n refl)
  lowered_by_others (ty.Fun g) p r a f d m c = absurd (f g refl)
  lowered_by_others (ty.MemData k u) p r a f d m c = absurd (d k u refl)
  lowered_by_others (ty.MemFun k g) p r a f d m c = absurd (m k g refl)
  lowered_by_others (ty.Const u) p r a f d m c = absurd (c u refl)
  lowered_by_others v p r a f d m c = refl

  pub no_parameters : (v : Ty) → ((f : ℕ) → v ≡ ty.Fun f → ⊥) → [] ≡ parameters (type_step tables (type_of tables) v)
  no_parameters (ty.Fun f) none = absurd (none f refl)
  no_parameters v none = refl

  pub no_function : (v : Ty) → ((f : ℕ) → v ≡ ty.Fun f → ⊥) → is_lowered (type_step tables (type_of tables) v) ≡ is_of_function (type_step tables (type_of tables) v)
  no_function (ty.Fun f) none = absurd (none f refl)
  no_function v none = and-true (is_lowered (type_step tables (type_of tables) v))

  -- ---- functions that were found

  module _ (t f : ℕ) (v : Ty) (g : Fun) (value : type_of tables t ≡ type_step tables (type_of tables) v) (is : v ≡ ty.Fun f) (there : slice_get tables.types.funs f ≡ Some g) where
    pub is_taking : type_of tables t ≡ taking (map (type_of tables) g.params) (gives (type_of tables g.result) g.is_const)
    is_taking = value ∙ ap (type_step tables (type_of tables)) is ∙ ap (fun_type (type_of tables)) there

    pub lowered_by_fun : is_lowered (type_of tables t) ≡ (list_all is_lowered (map (type_of tables) g.params) && is_lowered (type_of tables g.result))
    lowered_by_fun = ap is_lowered is_taking ∙ lowered-taking (type_of tables g.result) g.is_const (map (type_of tables) g.params)

    pub parameters_by_fun : map (type_of tables) g.params ≡ parameters (type_of tables t)
    parameters_by_fun = sym (ap parameters is_taking ∙ parameters-taking (type_of tables g.result) g.is_const (map (type_of tables) g.params))

    pub function_by_fun : signature_looks (map (type_of tables) g.params) (type_of tables g.result) ≡ is_of_function (type_of tables t)
    function_by_fun = by_signature (type_of tables g.result) g.is_const (map (type_of tables) g.params) ∙ sym (ap is_of_function is_taking)

    -- a parameter that is not lowered, and all of them
    pub one_unlowered : (i p : ℕ) → i < length g.params → p ≡ get_or g.params i p → is_lowered (type_of tables p) ≡ false
        → list_all is_lowered (map (type_of tables) (drop i g.params)) ≡ list_all is_lowered (map (type_of tables) g.params) → false ≡ is_lowered (type_of tables t)
    one_unlowered i p within at unlowered so_far =
        let here : list_all is_lowered (map (type_of tables) (drop i g.params)) ≡ false =
        ap (λ (l : List ℕ). list_all is_lowered (map (type_of tables) l)) (drop-cons g.params i p within ∙ ap (λ d. d ∷ drop (suc i) g.params) (sym at))
        ∙ ap (λ b. b && list_all is_lowered (map (type_of tables) (drop (suc i) g.params))) unlowered in
        sym (lowered_by_fun ∙ ap (λ b. b && is_lowered (type_of tables g.result)) (sym so_far ∙ here))

    pub all_lowered : (i : ℕ) (b : Bool) → length g.params ≤ i
        → list_all is_lowered (map (type_of tables) (drop i g.params)) ≡ list_all is_lowered (map (type_of tables) g.params)
        → b ≡ is_lowered (type_of tables g.result) → b ≡ is_lowered (type_of tables t)
    all_lowered i b past so_far e =
        e ∙ ap (λ c. c && is_lowered (type_of tables g.result))
        (ap (λ (l : List ℕ). list_all is_lowered (map (type_of tables) l)) (sym (drop_of_length-le g.params past)) ∙ so_far)
        ∙ sym lowered_by_fun

    pub result_before : Names tables.types.funs t (length tables.types.funs) v → g.result < t
    result_before names =
        let known : Names tables.types.funs t (length tables.types.funs) (ty.Fun f) = subst (Names tables.types.funs t (length tables.types.funs)) is names in
        let all : All (λ p. p < t) (parts_of_fun (Some g)) = subst (λ (o : Option Fun). All (λ p. p < t) (parts_of_fun o)) there known.parts_known in
        all 0 0 (omega arith)

    pub parameter_before : Names tables.types.funs t (length tables.types.funs) v → (i p : ℕ) → i < length g.params → p ≡ get_or g.params i p → p < t
    parameter_before names i p within at =
        let known : Names tables.types.funs t (length tables.types.funs) (ty.Fun f) = subst (Names tables.types.funs t (length tables.types.funs)) is names in
        let all : All (λ p. p < t) (parts_of_fun (Some g)) = subst (λ (o : Option Fun). All (λ p. p < t) (parts_of_fun o)) there known.parts_known in
        subst (λ n. n < t) (sym at) (all (suc i) p (omega (arith, within)))
