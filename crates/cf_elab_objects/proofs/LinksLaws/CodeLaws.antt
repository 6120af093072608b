-- The codes of types as text, by what each type is made of.
use Rattle.std.proofs.Common.{◌≡◌, ℕ, ◌+◌, ◌<◌, false, if◌then◌else◌, List, [], ◌∷◌, ◌++◌, length, map, take, get_or, Option, None, Some, slice_get, is_some, All, IsTrue, refl, sym, ap, ◌∙◌, arith, true≢false, append_assoc}
use Rattle.std.proofs.lemmas.List.Elements.{All-head, All-tail}
use Rattle.std.proofs.lemmas.List.{take_more, flat_map_more}
use Rattle.std.specs.Prelude.{codes}
use Rattle.std.proofs.lemmas.Option.{slice_get-get_or}
use Rattle.std.specs.List.{flat_map}
use Rattle.cf_base.specs.declared.kind.Kind.{Kind}
use Rattle.cf_types.specs.declared.ty.Ty.{Ty}
use Rattle.cf_types.specs.declared.ty.Ty.TheVariants as ty
use Rattle.cf_types.specs.declared.ty.Fun.{Fun}
use Rattle.cf_types.specs.Table.{Table, AreParameters, passes, passing, is_parameter}
use Rattle.cf_convert.specs.Constness.{type_at}
use Rattle.cf_classes.specs.ClassTable.{ClassTable}
use Rattle.cf_classes.specs.LinkName.{Code, Void, Integer, Named, Pointer, Reference, Const, Array, Function, Member, code, code_all, code_of, kind_code, class_names, enum_names, as_parameter, listed, parameters}
use Rattle.cf_elab.specs.Functions.{parameter_codes}
use Rattle.cf_classes.proofs.Trees.{of_type-at}
use Rattle.cf_elab.specs.Env.{Env}
use Rattle.cf_elab_env.specs.Holds.{IsEnv, IsType, without_class}
use Rattle.cf_elab_env.proofs.Growth.{here}
use Rattle.cf_elab_env.proofs.Sorts.{below_at, no_class_at, fun_known}
use Rattle.cf_elab_objects.specs.Links.Shut as shut
use Rattle.cf_elab_objects.specs.Links.Text.{added}
use Rattle.cf_elab_objects.proofs.LinksLaws.ParamLaws.{params_are, no_params, params_before, result_before}
use Rattle.cf_elab_objects.proofs.LinksLaws.TextLaws.{two, long_text, add_nothing}

-- as the definition of codes has them
abbrev fun_code : (ℕ → Code) → Option Fun → Code
fun_code rec None = Void
fun_code rec (Some f) = Function f.is_const (listed (map (λ p. as_parameter (rec p)) f.params)) (rec f.result)

abbrev code_step : Table → ClassTable → (ℕ → Code) → Ty → Code
code_step types classes rec ty.Void = Void
code_step types classes rec (ty.Int k) = Integer k
code_step types classes rec (ty.Enum e) = Named (enum_names classes e)
code_step types classes rec (ty.Class c) = Named (class_names classes c)
code_step types classes rec (ty.Ptr t) = Pointer (rec t)
code_step types classes rec (ty.Ref t) = Reference (rec t)
code_step types classes rec (ty.Array t n) = Array n (rec t)
code_step types classes rec (ty.Fun f) = fun_code rec (slice_get types.funs f)
code_step types classes rec (ty.MemData c t) = Member (class_names classes c) (rec t)
code_step types classes rec (ty.MemFun c f) = Member (class_names classes c) (fun_code rec (slice_get types.funs f))
code_step types classes rec (ty.Const t) = Const (rec t)

abbrev text_of : Env → List ℕ → List ℕ
text_of env [] = codes "v"
text_of env (p ∷ ps) = shut.type_codes env (p ∷ ps)

module _ (env : Env) (e : IsEnv env) where
  abbrev its : ℕ → Code
  its t = code_of env.types env.classes t

  -- the code of a type from those of the types before it
  step : (t : ℕ) (v : Ty) → slice_get env.types.types t ≡ Some v → (rec : ℕ → Code) × ((u : ℕ) → u < t → rec u ≡ its u) × (its t ≡ code_step env.types env.classes rec v)
  step t v h = of_type-at Void (code_step env.types env.classes) env.types t v h

  module _ (t : ℕ) (known : IsType env.types t) where
    found : (v : Ty) → type_at env.types t ≡ v → slice_get env.types.types t ≡ Some v
    found v is = here env.types t known ∙ ap Some is

    pub void_code : type_at env.types t ≡ ty.Void → shut.type_code env t ≡ codes "v"
    unfolding shut.type_code
    void_code is = ap code (step t ty.Void (found ty.Void is)).2

    pub int_code : (k : Kind) → type_at env.types t ≡ ty.Int k → shut.type_code env t ≡ kind_code k
    unfolding shut.type_code
    int_code k is = ap code (step t (ty.Int k) (found (ty.Int k) is)).2

    pub enum_code : (n : ℕ) → type_at env.types t ≡ ty.Enum n → shut.type_code env t ≡ shut.enum_code env n
    unfolding shut.type_code shut.enum_code
    enum_code n is = ap code (step t (ty.Enum n) (found (ty.Enum n) is)).2

    pub pointer_code : (u : ℕ) → type_at env.types t ≡ ty.Ptr u → shut.type_code env t ≡ codes "P" ++ shut.type_code env u
    unfolding shut.type_code
    pointer_code u is =
        let h = found (ty.Ptr u) is in
        let r = step t (ty.Ptr u) h in
        ap code r.2 ∙ ap (λ c. codes "P" ++ code c) (r.1 u (below_at env.types t (ty.Ptr u) e.table h))

    pub reference_code : (u : ℕ) → type_at env.types t ≡ ty.Ref u → shut.type_code env t ≡ codes "R" ++ shut.type_code env u
    unfolding shut.type_code
    reference_code u is =
        let h = found (ty.Ref u) is in
        let r = step t (ty.Ref u) h in
        ap code r.2 ∙ ap (λ c. codes "R" ++ code c) (r.1 u (below_at env.types t (ty.Ref u) e.table h))

    pub const_code : (u : ℕ) → type_at env.types t ≡ ty.Const u → shut.type_code env t ≡ codes "C" ++ shut.type_code env u
    unfolding shut.type_code
    const_code u is =
        let h = found (ty.Const u) is in
        let r = step t (ty.Const u) h in
        ap code r.2 ∙ ap (λ c. codes "C" ++ code c) (r.1 u (below_at env.types t (ty.Const u) e.table h))

    pub array_code : (u n : ℕ) → type_at env.types t ≡ ty.Array u n → shut.type_code env t ≡ shut.bound_code n ++ shut.type_code env u
    unfolding shut.type_code shut.bound_code
    array_code u n is =
        let h = found (ty.Array u n) is in
        let r = step t (ty.Array u n) h in
        ap code r.2 ∙ ap (λ c. code (Array n c)) (r.1 u (below_at env.types t (ty.Array u n) e.table h)) ∙ simp append_assoc

    -- a parameter's type is no const, no array, no function and not void, so its code is that of the type
    as_it_is : (v : Ty) → IsTrue (passes is_parameter env.types.types t) → slice_get env.types.types t ≡ Some v → code (as_parameter (its t)) ≡ code (its t)
    as_it_is ty.Void fine h = absurd (true≢false (sym fine ∙ ap (passing is_parameter) h))
    as_it_is (ty.Array u n) fine h = absurd (true≢false (sym fine ∙ ap (passing is_parameter) h))
    as_it_is (ty.Fun f) fine h = absurd (true≢false (sym fine ∙ ap (passing is_parameter) h))
    as_it_is (ty.Const u) fine h = absurd (true≢false (sym fine ∙ ap (passing is_parameter) h))
    as_it_is (ty.Int k) fine h = let r = step t (ty.Int k) h in ap (λ c. code (as_parameter c)) r.2 ∙ sym (ap code r.2)
    as_it_is (ty.Enum n) fine h = let r = step t (ty.Enum n) h in ap (λ c. code (as_parameter c)) r.2 ∙ sym (ap code r.2)
    as_it_is (ty.Class c) fine h = let r = step t (ty.Class c) h in ap (λ c. code (as_parameter c)) r.2 ∙ sym (ap code r.2)
    as_it_is (ty.Ptr u) fine h = let r = step t (ty.Ptr u) h in ap (λ c. code (as_parameter c)) r.2 ∙ sym (ap code r.2)
    as_it_is (ty.Ref u) fine h = let r = step t (ty.Ref u) h in ap (λ c. code (as_parameter c)) r.2 ∙ sym (ap code r.2)
    as_it_is (ty.MemData c u) fine h = let r = step t (ty.MemData c u) h in ap (λ c. code (as_parameter c)) r.2 ∙ sym (ap code r.2)
    as_it_is (ty.MemFun c f) fine h = let r = step t (ty.MemFun c f) h in ap (λ c. code (as_parameter c)) r.2 ∙ sym (ap code r.2)

  -- ---- function types

  codes_are : (t : ℕ) (rec : ℕ → Code) (ps : List ℕ) → IsType env.types t → ((u : ℕ) → u < t → rec u ≡ its u) → All (λ p. p < t) ps → AreParameters env.types.types ps
      → code_all (listed (map (λ p. as_parameter (rec p)) ps)) ≡ shut.type_codes env ps
  unfolding shut.type_codes shut.type_code
  codes_are t rec [] known same before fine = refl
  codes_are t rec (p ∷ ps) known same before fine =
      let below : p < t = All-head (λ p. p < t) p ps before in
      let here_known : IsType env.types p = omega arith in
      let one : IsTrue (passes is_parameter env.types.types p) = All-head (λ p. IsTrue (passes is_parameter env.types.types p)) p ps fine in
      ap (λ c. code (as_parameter c) ++ code_all (listed (map (λ p. as_parameter (rec p)) ps))) (same p below)
      ∙ ap (λ l. l ++ code_all (listed (map (λ p. as_parameter (rec p)) ps))) (as_it_is p here_known (type_at env.types p) one (here env.types p here_known))
      ∙ ap (λ l. code (its p) ++ l) (codes_are t rec ps known same (All-tail (λ p. p < t) p ps before) (All-tail (λ p. IsTrue (passes is_parameter env.types.types p)) p ps fine))

  module _ (t f : ℕ) (fun : Fun) (known : IsType env.types t) (is : type_at env.types t ≡ ty.Fun f) (has : slice_get env.types.funs f ≡ Some fun) where
    fun_step : (rec : ℕ → Code) × ((u : ℕ) → u < t → rec u ≡ its u) × (its t ≡ fun_code rec (Some fun))
    fun_step =
        let r = step t (ty.Fun f) (found t known (ty.Fun f) is) in
        (r.0, r.1, r.2 ∙ ap (fun_code r.0) has)

    params_text : shut.params_at env.types t ≡ fun.params
    params_text = sym (params_are env t e known f fun fun.params is has refl)

    its_params : (rec : ℕ → Code) → ((u : ℕ) → u < t → rec u ≡ its u) → code_all (listed (map (λ p. as_parameter (rec p)) fun.params)) ≡ shut.type_codes env fun.params
    its_params rec same =
        codes_are t rec fun.params known same (params_before env t e known f fun fun.params is has refl) (e.table.parameters f fun has)

    pub function_code : shut.type_code env t
        ≡ (if fun.is_const then codes "CF" else codes "F") ++ shut.type_codes env (shut.params_at env.types t) ++ codes "_" ++ shut.type_code env fun.result
    unfolding shut.type_code
    function_code =
        let r = fun_step in
        let head : List ℕ = if fun.is_const then codes "CF" else codes "F" in
        ap code r.2
        ∙ ap (λ l. head ++ l ++ codes "_" ++ code (r.0 fun.result)) (its_params r.0 r.1 ∙ ap (shut.type_codes env) (sym params_text))
        ∙ ap (λ c. head ++ shut.type_codes env (shut.params_at env.types t) ++ codes "_" ++ code c) (r.1 fun.result (result_before env t e known f fun is has))

    its_signature : shut.parameter_code env t ≡ text_of env (shut.params_at env.types t)
    unfolding shut.parameter_code
    its_signature =
        let r = fun_step in
        ap (λ c. parameters (parameter_codes c)) r.2 ∙ by r.0 fun.params (its_params r.0 r.1) ∙ ap (text_of env) (sym params_text)
      where
        by : (rec : ℕ → Code) (ps : List ℕ) → code_all (listed (map (λ p. as_parameter (rec p)) ps)) ≡ shut.type_codes env ps → parameters (listed (map (λ p. as_parameter (rec p)) ps)) ≡ text_of env ps
        by rec [] h = refl
        by rec (p ∷ ps) h = h

  module _ (t : ℕ) (known : IsType env.types t) where
    other_signature : (v : Ty) → ((f : ℕ) → v ≡ ty.Fun f → ⊥) → slice_get env.types.types t ≡ Some v → shut.parameter_code env t ≡ codes "v"
    unfolding shut.parameter_code
    other_signature (ty.Fun f) other h = absurd (other f refl)
    other_signature ty.Void other h = ap (λ c. parameters (parameter_codes c)) (step t ty.Void h).2
    other_signature (ty.Int k) other h = ap (λ c. parameters (parameter_codes c)) (step t (ty.Int k) h).2
    other_signature (ty.Enum n) other h = ap (λ c. parameters (parameter_codes c)) (step t (ty.Enum n) h).2
    other_signature (ty.Class c) other h = ap (λ c. parameters (parameter_codes c)) (step t (ty.Class c) h).2
    other_signature (ty.Ptr u) other h = ap (λ c. parameters (parameter_codes c)) (step t (ty.Ptr u) h).2
    other_signature (ty.Ref u) other h = ap (λ c. parameters (parameter_codes c)) (step t (ty.Ref u) h).2
    other_signature (ty.Array u n) other h = ap (λ c. parameters (parameter_codes c)) (step t (ty.Array u n) h).2
    other_signature (ty.MemData c u) other h = ap (λ c. parameters (parameter_codes c)) (step t (ty.MemData c u) h).2
    other_signature (ty.MemFun c f) other h = ap (λ c. parameters (parameter_codes c)) (step t (ty.MemFun c f) h).2
    other_signature (ty.Const u) other h = ap (λ c. parameters (parameter_codes c)) (step t (ty.Const u) h).2

    signature : shut.parameter_code env t ≡ text_of env (shut.params_at env.types t)
    signature = by (type_at env.types t) refl
      where
        none_at : ((f : ℕ) → type_at env.types t ≡ ty.Fun f → ⊥) → shut.parameter_code env t ≡ text_of env (shut.params_at env.types t)
        none_at other = other_signature (type_at env.types t) other (here env.types t known) ∙ ap (text_of env) (no_params env t e known [] other refl)

        fun_at : (f : ℕ) → type_at env.types t ≡ ty.Fun f → (o : Option Fun) → slice_get env.types.funs f ≡ o → shut.parameter_code env t ≡ text_of env (shut.params_at env.types t)
        fun_at f is (Some fun) has = its_signature t f fun known is has
        fun_at f is None has =
            absurd (true≢false (sym (ap is_some (sym has ∙ slice_get-get_or env.types.funs f no_fun (fun_known env.types t (ty.Fun f) f e.table (found t known (ty.Fun f) is) refl)))))
          where
            no_fun : Fun
            no_fun = record { result = 0; params = []; is_const = false }

        by : (v : Ty) → type_at env.types t ≡ v → shut.parameter_code env t ≡ text_of env (shut.params_at env.types t)
        by (ty.Fun f) is = fun_at f is (slice_get env.types.funs f) refl
        by other is = none_at (λ f h. cc)

    pub no_signature : (o n : Option (List ℕ)) (ps : List ℕ) → ps ≡ shut.params_at env.types t → ps ≡ [] → n ≡ added (codes "v") o → n ≡ added (shut.parameter_code env t) o
    no_signature o n ps is empty h = h ∙ ap (λ l. added l o) (sym (signature ∙ ap (text_of env) (sym is ∙ empty)))

    pub some_signature : (o n : Option (List ℕ)) (ps : List ℕ) → ps ≡ shut.params_at env.types t → (ps ≡ [] → ⊥) → n ≡ added (shut.type_codes env (shut.params_at env.types t)) o
        → n ≡ added (shut.parameter_code env t) o
    some_signature o n ps is some h = h ∙ ap (λ l. added l o) (sym (signature ∙ by (shut.params_at env.types t) (λ empty. some (is ∙ empty))))
      where
        by : (ps : List ℕ) → (ps ≡ [] → ⊥) → text_of env ps ≡ shut.type_codes env ps
        by [] some = absurd (some refl)
        by (p ∷ ps) some = refl

    -- ---- the texts that the arms write

    module _ (o m n : Option (List ℕ)) where
      pub adds_void : type_at env.types t ≡ ty.Void → n ≡ added (codes "v") o → n ≡ added (shut.type_code env t) o
      adds_void is h = h ∙ ap (λ l. added l o) (sym (void_code t known is))

      pub adds_int : (k : Kind) → type_at env.types t ≡ ty.Int k → n ≡ added (kind_code k) o → n ≡ added (shut.type_code env t) o
      adds_int k is h = h ∙ ap (λ l. added l o) (sym (int_code t known k is))

      pub adds_enum : (k : ℕ) → type_at env.types t ≡ ty.Enum k → n ≡ added (shut.enum_code env k) o → n ≡ added (shut.type_code env t) o
      adds_enum k is h = h ∙ ap (λ l. added l o) (sym (enum_code t known k is))

      pub adds_pointer : (u : ℕ) → type_at env.types t ≡ ty.Ptr u → m ≡ added (codes "P") o → n ≡ added (shut.type_code env u) m → n ≡ added (shut.type_code env t) o
      adds_pointer u is p q = two (codes "P") (shut.type_code env u) (shut.type_code env t) o m n p q (pointer_code t known u is)

      pub adds_reference : (u : ℕ) → type_at env.types t ≡ ty.Ref u → m ≡ added (codes "R") o → n ≡ added (shut.type_code env u) m → n ≡ added (shut.type_code env t) o
      adds_reference u is p q = two (codes "R") (shut.type_code env u) (shut.type_code env t) o m n p q (reference_code t known u is)

      pub adds_const : (u : ℕ) → type_at env.types t ≡ ty.Const u → m ≡ added (codes "C") o → n ≡ added (shut.type_code env u) m → n ≡ added (shut.type_code env t) o
      adds_const u is p q = two (codes "C") (shut.type_code env u) (shut.type_code env t) o m n p q (const_code t known u is)

      pub adds_array : (u k : ℕ) → type_at env.types t ≡ ty.Array u k → m ≡ added (shut.bound_code k) o → n ≡ added (shut.type_code env u) m → n ≡ added (shut.type_code env t) o
      adds_array u k is p q = two (shut.bound_code k) (shut.type_code env u) (shut.type_code env t) o m n p q (array_code t known u k is)

      adds_none : IsTrue (without_class (type_at env.types t)) → without_class (type_at env.types t) ≡ false → n ≡ added (shut.type_code env t) o
      adds_none no_class has = absurd (true≢false (sym no_class ∙ has))

      free : IsTrue (without_class (type_at env.types t))
      free = no_class_at env.types t (type_at env.types t) e.no_class_type (here env.types t known)

      pub adds_class : (c : ℕ) → type_at env.types t ≡ ty.Class c → n ≡ added (shut.type_code env t) o
      adds_class c is = adds_none free (ap without_class is)

      pub adds_member : (c u : ℕ) → type_at env.types t ≡ ty.MemData c u → n ≡ added (shut.type_code env t) o
      adds_member c u is = adds_none free (ap without_class is)

      pub adds_method : (c f : ℕ) → type_at env.types t ≡ ty.MemFun c f → n ≡ added (shut.type_code env t) o
      adds_method c f is = adds_none free (ap without_class is)

    pub adds_function : (o m n q r : Option (List ℕ)) (f : ℕ) (fun : Fun) (head : List ℕ) → type_at env.types t ≡ ty.Fun f → slice_get env.types.funs f ≡ Some fun
        → head ≡ (if fun.is_const then codes "CF" else codes "F") → m ≡ added head o → n ≡ added (shut.type_codes env (shut.params_at env.types t)) m
        → q ≡ added (codes "_") n → r ≡ added (shut.type_code env fun.result) q → r ≡ added (shut.type_code env t) o
    adds_function o m n q r f fun head is has e₁ a b c d =
        let front : List ℕ = head ++ shut.type_codes env (shut.params_at env.types t) in
        two (front ++ codes "_") (shut.type_code env fun.result) (shut.type_code env t) o q r
        (two front (codes "_") (front ++ codes "_") o n q (two head (shut.type_codes env (shut.params_at env.types t)) front o m n a b refl) c refl) d
        (function_code t f fun known is has ∙ ap (λ h. h ++ shut.type_codes env (shut.params_at env.types t) ++ codes "_" ++ shut.type_code env fun.result) (sym e₁))

-- ---- one more parameter

pub none_yet : (env : Env) (o : Option (List ℕ)) → o ≡ added (shut.type_codes env []) o
unfolding shut.type_codes
none_yet env o = add_nothing o

pub one_more : (env : Env) (ps : List ℕ) (i : ℕ) (o m n : Option (List ℕ)) → i < length ps → m ≡ added (shut.type_codes env (take i ps)) o
    → n ≡ added (shut.type_code env (get_or ps i 0)) m → n ≡ added (shut.type_codes env (take (i + 1) ps)) o
unfolding shut.type_codes
one_more env ps i o m n h p q =
    let p' : ℕ = get_or ps i 0 in
    let more : flat_map (shut.type_code env) (take (i + 1) ps) ≡ flat_map (shut.type_code env) (take i ps) ++ shut.type_code env p' =
    ap (flat_map (shut.type_code env)) (take_more ps i 0 h) ∙ sym (flat_map_more (shut.type_code env) [] (take i ps) p') in
    two (flat_map (shut.type_code env) (take i ps)) (shut.type_code env p') (flat_map (shut.type_code env) (take (i + 1) ps)) o m n p q more

pub parameter_type : (ps : List ℕ) (t i count : ℕ) → All (λ p. p < t) ps → i < length ps → t < count → get_or ps i 0 < count
parameter_type ps t i count all h below = let k : get_or ps i 0 < t = all i 0 h in omega arith

pub ruleset code_laws = (long_text, adds_void, adds_int, adds_enum, adds_pointer, adds_reference, adds_const, adds_array, adds_class, adds_member, adds_method, adds_function)

pub ruleset parameter_laws = (add_nothing, one_more, parameter_type)

pub ruleset signature_laws = (no_signature, some_signature)
