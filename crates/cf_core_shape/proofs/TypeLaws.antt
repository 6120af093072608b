-- What has a form in the trees is the type that the form stands for.
use Rattle.std.proofs.Common.{◌≡◌, ◌∙◌, ℕ, zero, suc, ◌<◌, ◌≤◌, ◌==◌, Bool, true, false, List, [], ◌∷◌, length, map, reverse, Option, Some, None, slice_get, All, refl, ap, sym, subst, arith}
use Rattle.std.specs.Option.{option_map, option_and_then}
use Rattle.std.proofs.lemmas.List.{length-reverse}
use Rattle.std.proofs.lemmas.Bool.{eqb-true}
use Rattle.std.specs.Prelude.{if◌then◌else◌}
use Rattle.cf_types.specs.declared.ty.Ty.{Ty}
use Rattle.cf_types.specs.declared.ty.Ty.TheVariants as ty
use Rattle.cf_types.specs.declared.ty.Fun.{Fun}
use Rattle.cf_types.specs.Table.{Table, Names, parts, parts_of_fun}
use Rattle.cf_classes.specs.TypeTree.{of_types, fun_of}
use Rattle.cf_classes.proofs.Trees.{of_type-at}
use Rattle.cf_core.specs.Types.{SourceType, void, gives, pointer, reference, array, const}
use Rattle.cf_core.specs.FromTypes.{Tables, type_of, type_step, taking, fun_type}
use Rattle.cf_run_tree.specs.declared.shape.Form.{Form}
use Rattle.cf_run_tree.specs.declared.shape.Form.TheVariants as form
use Rattle.cf_run_tree.specs.declared.shape.Shape.{Shape}
use Rattle.cf_run_tree.specs.declared.shape.Bounds.{Bounds}
use Rattle.cf_run_tree.specs.declared.shape.Bounds.TheVariants as bounds
use Rattle.cf_run_tree.specs.declared.shape.ObjectType.{ObjectType}
use Rattle.cf_run_tree.specs.declared.program.Signature.{Signature}
use Rattle.cf_run_tree.specs.Tree.{list_of, arrays, form_type, shape_type, object_type, signature_type}
use Rattle.cf_core_shape.specs.Shapes.{form_of, shaped, shape_in, shape_of, bounded, row_in, object_in, object_type_of, joined, each, signature, function_signature, signature_of}

same : {A : Type 0} (a b : A) → Some a ≡ Some b → a ≡ b
same a b e = cc

-- each type names types before it alone
abbrev pub IsOrdered : Table → Type 0
IsOrdered types = (i : ℕ) (v : Ty) → slice_get types.types i ≡ Some v → Names types.funs i (length types.funs) v

module _ (tables : Tables) (ordered : IsOrdered tables.types) where
  at : (t : ℕ) (v : Ty) → slice_get tables.types.types t ≡ Some v
      → (rec : ℕ → SourceType) × ((u : ℕ) → u < t → rec u ≡ type_of tables u) × (type_of tables t ≡ type_step tables rec v)
  at t v h = of_type-at void (type_step tables) tables.types t v h

  -- the one type that a type names stands before it
  below : (t u : ℕ) (v : Ty) → slice_get tables.types.types t ≡ Some v → parts tables.types.funs v ≡ u ∷ [] → u < t
  below t u v h e =
      let all : All (λ p. p < t) (u ∷ []) = subst (λ l. All (λ p. p < t) l) e (ordered t v h).parts_known in
      all 0 u (omega arith)

  form-type : (t : ℕ) (v : Ty) (f : Form) → slice_get tables.types.types t ≡ Some v → form_of v ≡ Some f → type_of tables t ≡ form_type tables f
  form-type t ty.Void f h e = (at t ty.Void h).2 ∙ ap (form_type tables) (same form.Void f e)
  form-type t (ty.Int k) f h e = (at t (ty.Int k) h).2 ∙ ap (form_type tables) (same (form.Integer k) f e)
  form-type t (ty.Enum n) f h e = (at t (ty.Enum n) h).2 ∙ ap (form_type tables) (same (form.Enumeration n) f e)
  form-type t (ty.Ptr u) f h e =
      let r = at t (ty.Ptr u) h in r.2 ∙ ap pointer (r.1 u (below t u (ty.Ptr u) h refl)) ∙ ap (form_type tables) (same (form.Pointer u) f e)
  form-type t (ty.Ref u) f h e =
      let r = at t (ty.Ref u) h in r.2 ∙ ap reference (r.1 u (below t u (ty.Ref u) h refl)) ∙ ap (form_type tables) (same (form.Reference u) f e)
  form-type t (ty.Class c) f h e = cc
  form-type t (ty.Array u n) f h e = cc
  form-type t (ty.Fun k) f h e = cc
  form-type t (ty.MemData c u) f h e = cc
  form-type t (ty.MemFun c k) f h e = cc
  form-type t (ty.Const u) f h e = cc

  plain-shape : (t : ℕ) (v : Ty) → slice_get tables.types.types t ≡ Some v → (o : Option Form) → form_of v ≡ o → (s : Shape) → option_map (shaped false) o ≡ Some s
      → type_of tables t ≡ shape_type tables s
  plain-shape t v h None k s e = cc
  plain-shape t v h (Some f) k s e = form-type t v f h k ∙ ap (shape_type tables) (same (shaped false f) s e)

  const-form : (t u : ℕ) (v : Ty) → slice_get tables.types.types t ≡ Some (ty.Const u) → slice_get tables.types.types u ≡ Some v → (o : Option Form) → form_of v ≡ o
      → (s : Shape) → option_map (shaped true) o ≡ Some s → type_of tables t ≡ shape_type tables s
  const-form t u v h k None l s e = cc
  const-form t u v h k (Some f) l s e =
      let r = at t (ty.Const u) h in
      r.2 ∙ ap const (r.1 u (below t u (ty.Const u) h refl)) ∙ ap const (form-type u v f k l) ∙ ap (shape_type tables) (same (shaped true f) s e)

  const-shape : (t u : ℕ) → slice_get tables.types.types t ≡ Some (ty.Const u) → (o : Option Ty) → slice_get tables.types.types u ≡ o
      → (s : Shape) → option_map (shaped true) (option_and_then form_of o) ≡ Some s → type_of tables t ≡ shape_type tables s
  const-shape t u h None k s e = cc
  const-shape t u h (Some v) k s e = const-form t u v h k (form_of v) refl s e

  shape-in : (t : ℕ) (v : Ty) → slice_get tables.types.types t ≡ Some v → (s : Shape) → shape_in tables.types.types v ≡ Some s → type_of tables t ≡ shape_type tables s
  shape-in t (ty.Const u) h s e = const-shape t u h (slice_get tables.types.types u) refl s e
  shape-in t ty.Void h s e = plain-shape t ty.Void h _ refl s e
  shape-in t (ty.Int k) h s e = plain-shape t (ty.Int k) h _ refl s e
  shape-in t (ty.Enum n) h s e = plain-shape t (ty.Enum n) h _ refl s e
  shape-in t (ty.Class c) h s e = plain-shape t (ty.Class c) h _ refl s e
  shape-in t (ty.Ptr u) h s e = plain-shape t (ty.Ptr u) h _ refl s e
  shape-in t (ty.Ref u) h s e = plain-shape t (ty.Ref u) h _ refl s e
  shape-in t (ty.Array u n) h s e = plain-shape t (ty.Array u n) h _ refl s e
  shape-in t (ty.Fun k) h s e = plain-shape t (ty.Fun k) h _ refl s e
  shape-in t (ty.MemData c u) h s e = plain-shape t (ty.MemData c u) h _ refl s e
  shape-in t (ty.MemFun c k) h s e = plain-shape t (ty.MemFun c k) h _ refl s e

  shape-found : (t : ℕ) (o : Option Ty) → slice_get tables.types.types t ≡ o → (s : Shape) → option_and_then (shape_in tables.types.types) o ≡ Some s
      → type_of tables t ≡ shape_type tables s
  shape-found t None h s e = cc
  shape-found t (Some v) h s e = shape-in t v h s e

  pub shape-type : (t : ℕ) (s : Shape) → shape_of tables.types.types t ≡ Some s → type_of tables t ≡ shape_type tables s
  shape-type t s e = shape-found t (slice_get tables.types.types t) refl s e

  -- objects

  bounded-type : (t : ℕ) (p : Option Shape) → shape_of tables.types.types t ≡ p → (b : Bounds) (o : ObjectType) → option_map (bounded b) p ≡ Some o
      → arrays (list_of b) (type_of tables t) ≡ object_type tables o
  bounded-type t None h b o e = cc
  bounded-type t (Some s) h b o e = ap (arrays (list_of b)) (shape-type t s h) ∙ ap (object_type tables) (same (bounded b s) o e)

  -- an array is one of its elements' type
  array-type : (t u n : ℕ) → slice_get tables.types.types t ≡ Some (ty.Array u n) → type_of tables t ≡ array (type_of tables u) n
  array-type t u n h = let r = at t (ty.Array u n) h in r.2 ∙ ap (λ w. array w n) (r.1 u (below t u (ty.Array u n) h refl))

  row-type : (t : ℕ) (v : Ty) → slice_get tables.types.types t ≡ Some v → (n : ℕ) (o : ObjectType) → row_in tables.types.types n t v ≡ Some o
      → array (type_of tables t) n ≡ object_type tables o
  row-type t (ty.Array u m) h n o e = ap (λ w. array w n) (array-type t u m h) ∙ bounded-type u _ refl (bounds.Two n m) o e
  row-type t ty.Void h n o e = bounded-type t _ refl (bounds.One n) o e
  row-type t (ty.Int k) h n o e = bounded-type t _ refl (bounds.One n) o e
  row-type t (ty.Enum k) h n o e = bounded-type t _ refl (bounds.One n) o e
  row-type t (ty.Class c) h n o e = bounded-type t _ refl (bounds.One n) o e
  row-type t (ty.Ptr u) h n o e = bounded-type t _ refl (bounds.One n) o e
  row-type t (ty.Ref u) h n o e = bounded-type t _ refl (bounds.One n) o e
  row-type t (ty.Fun k) h n o e = bounded-type t _ refl (bounds.One n) o e
  row-type t (ty.MemData c u) h n o e = bounded-type t _ refl (bounds.One n) o e
  row-type t (ty.MemFun c k) h n o e = bounded-type t _ refl (bounds.One n) o e
  row-type t (ty.Const u) h n o e = bounded-type t _ refl (bounds.One n) o e

  rows-type : (t : ℕ) (p : Option Ty) → slice_get tables.types.types t ≡ p → (n : ℕ) (o : ObjectType) → option_and_then (row_in tables.types.types n t) p ≡ Some o
      → array (type_of tables t) n ≡ object_type tables o
  rows-type t None h n o e = cc
  rows-type t (Some v) h n o e = row-type t v h n o e

  object-in : (t : ℕ) (v : Ty) → slice_get tables.types.types t ≡ Some v → (o : ObjectType) → object_in tables.types.types t v ≡ Some o → type_of tables t ≡ object_type tables o
  object-in t (ty.Array u n) h o e = array-type t u n h ∙ rows-type u _ refl n o e
  object-in t ty.Void h o e = bounded-type t _ refl bounds.None o e
  object-in t (ty.Int k) h o e = bounded-type t _ refl bounds.None o e
  object-in t (ty.Enum k) h o e = bounded-type t _ refl bounds.None o e
  object-in t (ty.Class c) h o e = bounded-type t _ refl bounds.None o e
  object-in t (ty.Ptr u) h o e = bounded-type t _ refl bounds.None o e
  object-in t (ty.Ref u) h o e = bounded-type t _ refl bounds.None o e
  object-in t (ty.Fun k) h o e = bounded-type t _ refl bounds.None o e
  object-in t (ty.MemData c u) h o e = bounded-type t _ refl bounds.None o e
  object-in t (ty.MemFun c k) h o e = bounded-type t _ refl bounds.None o e
  object-in t (ty.Const u) h o e = bounded-type t _ refl bounds.None o e

  object-found : (t : ℕ) (p : Option Ty) → slice_get tables.types.types t ≡ p → (o : ObjectType) → option_and_then (object_in tables.types.types t) p ≡ Some o
      → type_of tables t ≡ object_type tables o
  object-found t None h o e = cc
  object-found t (Some v) h o e = object-in t v h o e

  pub object-type : (t : ℕ) (o : ObjectType) → object_type_of tables.types t ≡ Some o → type_of tables t ≡ object_type tables o
  object-type t o e = object-found t (slice_get tables.types.types t) refl o e

  -- functions

  each-shape : (ps : List ℕ) (ss : List Shape) → each (shape_of tables.types.types) ps ≡ Some ss → map (type_of tables) ps ≡ map (shape_type tables) ss
  each-shape [] ss e = ap (map (shape_type tables)) (same [] ss e)
  each-shape (p ∷ ps) ss e = by (each-shape ps) (shape_of tables.types.types p) refl (each (shape_of tables.types.types) ps) refl e
    where
      by : ((rest : List Shape) → each (shape_of tables.types.types) ps ≡ Some rest → map (type_of tables) ps ≡ map (shape_type tables) rest)
          → (o : Option Shape) → shape_of tables.types.types p ≡ o → (q : Option (List Shape)) → each (shape_of tables.types.types) ps ≡ q
          → joined (λ y ys. y ∷ ys) o q ≡ Some ss → map (type_of tables) (p ∷ ps) ≡ map (shape_type tables) ss
      by behind None h q k e = cc
      by behind (Some s) h None k e = cc
      by behind (Some s) h (Some rest) k e =
          ap (λ t. t ∷ map (type_of tables) ps) (shape-type p s h) ∙ ap (λ l. shape_type tables s ∷ l) (behind rest k) ∙ ap (map (shape_type tables)) (same (s ∷ rest) ss e)

  pub signature-type : (ps : List ℕ) (t : ℕ) (f : Signature) → signature tables.types ps t ≡ Some f
      → taking (map (type_of tables) ps) (gives (type_of tables t) false) ≡ signature_type tables f
  signature-type ps t f e = by (each (shape_of tables.types.types) ps) refl (shape_of tables.types.types t) refl e
    where
      by : (o : Option (List Shape)) → each (shape_of tables.types.types) ps ≡ o → (q : Option Shape) → shape_of tables.types.types t ≡ q
          → joined (λ ps r. record { params = ps; result = r }) o q ≡ Some f → taking (map (type_of tables) ps) (gives (type_of tables t) false) ≡ signature_type tables f
      by None h q k e = cc
      by (Some ss) h None k e = cc
      by (Some ss) h (Some s) k e =
          ap (λ l. taking l (gives (type_of tables t) false)) (each-shape ps ss h) ∙ ap (λ r. taking (map (shape_type tables) ss) (gives r false)) (shape-type t s k)
          ∙ ap (signature_type tables) (same (record { params = ss; result = s }) f e)

  same-below : (rec : ℕ → SourceType) (t : ℕ) → ((u : ℕ) → u < t → rec u ≡ type_of tables u) → (ps : List ℕ) → All (λ p. p < t) ps → map rec ps ≡ map (type_of tables) ps
  same-below rec t same [] all = refl
  same-below rec t same (p ∷ ps) all =
      ap (λ u. u ∷ map rec ps) (same p (all 0 p (omega arith))) ∙ ap (λ l. type_of tables p ∷ l) (same-below rec t same ps (λ k d lt. all (suc k) d (omega arith)))

  function-found : (t k : ℕ) → slice_get tables.types.types t ≡ Some (ty.Fun k) → (o : Option Fun) → slice_get tables.types.funs k ≡ o → (f : Signature)
      → function_signature tables.types o ≡ Some f → type_of tables t ≡ signature_type tables f
  function-found t k h None found f e = cc
  function-found t k h (Some fun) found f e = by fun.is_const refl e
    where
      r : (rec : ℕ → SourceType) × ((u : ℕ) → u < t → rec u ≡ type_of tables u) × (type_of tables t ≡ type_step tables rec (ty.Fun k))
      r = at t (ty.Fun k) h

      parts_before : All (λ p. p < t) (fun.result ∷ fun.params)
      parts_before = subst (λ o. All (λ p. p < t) (parts_of_fun o)) found (ordered t (ty.Fun k) h).parts_known

      by : (b : Bool) → fun.is_const ≡ b → (if b then None else signature tables.types fun.params fun.result) ≡ Some f → type_of tables t ≡ signature_type tables f
      by true c e = cc
      by false c e =
          r.2 ∙ ap (fun_type r.0) found ∙ ap (λ b. taking (map r.0 fun.params) (gives (r.0 fun.result) b)) c
          ∙ ap (λ l. taking l (gives (r.0 fun.result) false)) (same-below r.0 t r.1 fun.params (λ k d lt. parts_before (suc k) d (omega arith)))
          ∙ ap (λ w. taking (map (type_of tables) fun.params) (gives w false)) (r.1 fun.result (parts_before 0 fun.result (omega arith)))
          ∙ signature-type fun.params fun.result f e

  function-in : (t : ℕ) (v : Ty) → slice_get tables.types.types t ≡ Some v → (f : Signature) → function_signature tables.types (fun_of tables.types (Some v)) ≡ Some f
      → type_of tables t ≡ signature_type tables f
  function-in t (ty.Fun k) h f e = function-found t k h (slice_get tables.types.funs k) refl f e
  function-in t ty.Void h f e = cc
  function-in t (ty.Int k) h f e = cc
  function-in t (ty.Enum n) h f e = cc
  function-in t (ty.Class c) h f e = cc
  function-in t (ty.Ptr u) h f e = cc
  function-in t (ty.Ref u) h f e = cc
  function-in t (ty.Array u n) h f e = cc
  function-in t (ty.MemData c u) h f e = cc
  function-in t (ty.MemFun c k) h f e = cc
  function-in t (ty.Const u) h f e = cc

  function-any : (t : ℕ) (o : Option Ty) → slice_get tables.types.types t ≡ o → (f : Signature) → function_signature tables.types (fun_of tables.types o) ≡ Some f
      → type_of tables t ≡ signature_type tables f
  function-any t None h f e = cc
  function-any t (Some v) h f e = function-in t v h f e

  pub function-type : (t : ℕ) (f : Signature) → signature_of tables.types t ≡ Some f → type_of tables t ≡ signature_type tables f
  function-type t f e = function-any t (slice_get tables.types.types t) refl f e
