-- What names and scalars of types give, by the entries and forms of the types.
use Rattle.std.proofs.Common.{◌≡◌, ℕ, Bool, true, false, not, List, [], ◌∷◌, map, Option, Some, None, slice_get, refl, sym, ap, ◌∙◌}
use Rattle.std.proofs.Common.{◌&&◌}
use Rattle.cf_base.specs.declared.kind.Kind.{Kind}
use Rattle.cf_types.specs.declared.ty.Fun.{Fun}
use Rattle.cf_types.specs.declared.ty.Ty.{Ty}
use Rattle.cf_types.specs.declared.ty.Ty.TheVariants as ty
use Rattle.cf_core.specs.Types.{SourceType, void, gives, const, without_const, is_void, result as result_type}
use Rattle.cf_core.specs.FromTypes.{Tables, type_of, type_step, taking, fun_type}
use Rattle.cf_core.specs.Places.{is_reference}
use Rattle.cf_lower.specs.Kept.{within as lower_within}
use Rattle.cf_lower_kept.specs.Ready.{names_well, has_objects, is_code, is_object}
use Rattle.cf_lower_types.specs.declared.form.Form.{Form}
use Rattle.cf_lower_types.specs.declared.form.Form.TheVariants as form
use Rattle.cf_lower_types.specs.Bare.{IsNoFunction}
use Rattle.cf_lower_types.specs.Forms.{under_const, target_in, function_in}
use Rattle.cf_lower_types.proofs.FunctionLaws.{is_function, is_none, result_at}
use Rattle.cf_plain_kept.specs.Kept.{Kept, an_integer, a_place, a_member, named, kept_of, decayed, converted, suits, of_kind, value_of}
use Rattle.cf_lowerable_types.specs.declared.kinds.Kinds.{Kinds}
use Rattle.cf_lowerable_types.specs.Kinds.{has_kind}
use Rattle.cf_lowerable_types.proofs.Layers.{without_void}
use Rattle.cf_lowerable_ready.specs.declared.content.Place.TheVariants as place
use Rattle.cf_lowerable_ready.specs.declared.content.Content.TheVariants as content
use Rattle.cf_lowerable_ready.specs.Contents.{known, valued}
use Rattle.cf_lowerable_ready.specs.Types.{stripped, outer_type, OfFunction, IsKnown}

same : {A : Type 0} (a b : A) → Some a ≡ Some b → a ≡ b
same a b e = cc

-- ---- const of its own does not matter

kept_stripped : (t : SourceType) → kept_of t ≡ kept_of (stripped t)
kept_stripped (const t) = kept_stripped t
kept_stripped t = refl

decayed_stripped : (t : SourceType) → decayed t ≡ decayed (stripped t)
decayed_stripped (const t) = decayed_stripped t
decayed_stripped t = refl

objects_stripped : (t : SourceType) → has_objects t ≡ has_objects (stripped t)
objects_stripped (const t) = objects_stripped t
objects_stripped t = refl

pub suits_stripped : (t : SourceType) (x : Kept) → suits t x ≡ suits (stripped t) x
suits_stripped (const t) x = suits_stripped t x
suits_stripped t x = refl

pub converted_stripped : (t : SourceType) (x : Option Kept) → converted t x ≡ converted (stripped t) x
converted_stripped (const t) x = converted_stripped t x
converted_stripped t x = refl

-- a type, without the const of its own, by its form
module _ (t s o : SourceType) (bare : s ≡ stripped t) (is : s ≡ o) where
  pub held_by : (k : Option Kept) → k ≡ kept_of o → k ≡ kept_of t
  held_by k e = e ∙ ap kept_of (sym is ∙ bare) ∙ sym (kept_stripped t)

  pub decayed_by : (k : Option Kept) → k ≡ decayed o → k ≡ decayed t
  decayed_by k e = e ∙ ap decayed (sym is ∙ bare) ∙ sym (decayed_stripped t)

  pub objects_by : (b : Bool) → b ≡ has_objects o → b ≡ has_objects t
  objects_by b e = e ∙ ap has_objects (sym is ∙ bare) ∙ sym (objects_stripped t)

  pub suits_by : (x : Kept) → suits o x ≡ suits t x
  suits_by x = ap (λ u. suits u x) (sym is ∙ bare) ∙ sym (suits_stripped t x)

  pub converted_by : (x : Option Kept) → converted o x ≡ converted t x
  converted_by x = ap (λ u. converted u x) (sym is ∙ bare) ∙ sym (converted_stripped t x)

-- ---- integers

pub kind_known : (tables : Tables) (ks : Kinds) (k : Kind) → has_kind ks ≡ lower_within k → known tables (content.Number ks) ≡ Some (of_kind k)
kind_known tables ks k e = ap (λ f. Some (an_integer f)) e

-- ---- by an entry of the table

module _ (tables : Tables) where
  function_named : (o : Option Fun) → Some (a_place (fun_type (type_of tables) o)) ≡ named (Some (fun_type (type_of tables) o))
  function_named None = refl
  function_named (Some g) = by (map (type_of tables) g.params)
    where
      by : (ps : List SourceType) → Some (a_place (taking ps (gives (type_of tables g.result) g.is_const))) ≡ named (Some (taking ps (gives (type_of tables g.result) g.is_const)))
      by [] = refl
      by (p ∷ ps) = refl

  other_named : (v : Ty) → target_in v ≡ None → Some (a_place (type_step tables (type_of tables) v)) ≡ named (Some (type_step tables (type_of tables) v))
  other_named ty.Void k = refl
  other_named (ty.Int l) k = refl
  other_named (ty.Enum n) k = refl
  other_named (ty.Class c) k = refl
  other_named (ty.Ptr u) k = refl
  other_named (ty.Ref u) k = cc
  other_named (ty.Array u n) k = refl
  other_named (ty.Fun f) k = function_named (slice_get tables.types.funs f)
  other_named (ty.MemData c u) k = refl
  other_named (ty.MemFun c f) k = refl
  other_named (ty.Const u) k = refl

  reference_named : (v : Ty) (u : ℕ) → target_in v ≡ Some u → Some (a_place (type_of tables u)) ≡ named (Some (type_step tables (type_of tables) v))
  reference_named (ty.Ref w) u k = ap (λ n. Some (a_place (type_of tables n))) (sym (same w u k))
  reference_named v u k = cc

  function_well : (o : Option Fun) → true ≡ names_well (fun_type (type_of tables) o)
  function_well None = refl
  function_well (Some g) = by (map (type_of tables) g.params)
    where
      by : (ps : List SourceType) → true ≡ names_well (taking ps (gives (type_of tables g.result) g.is_const))
      by [] = refl
      by (p ∷ ps) = refl

  other_well : (v : Ty) → under_const v ≡ None → true ≡ names_well (type_step tables (type_of tables) v)
  other_well ty.Void k = refl
  other_well (ty.Int l) k = refl
  other_well (ty.Enum n) k = refl
  other_well (ty.Class c) k = refl
  other_well (ty.Ptr u) k = refl
  other_well (ty.Ref u) k = refl
  other_well (ty.Array u n) k = refl
  other_well (ty.Fun f) k = function_well (slice_get tables.types.funs f)
  other_well (ty.MemData c u) k = refl
  other_well (ty.MemFun c f) k = refl
  other_well (ty.Const u) k = cc

  const_well : (v : Ty) (u : ℕ) → under_const v ≡ Some u → not (is_reference (type_of tables u)) ≡ names_well (type_step tables (type_of tables) v)
  const_well (ty.Const w) u k = ap (λ n. not (is_reference (type_of tables n))) (sym (same w u k))
  const_well v u k = cc

  module _ (t : ℕ) (v : Ty) (is : type_of tables t ≡ type_step tables (type_of tables) v) where
    pub named_reference : (o : Option ℕ) (u : ℕ) → o ≡ target_in v → o ≡ Some u → known tables (content.Place (place.Of u)) ≡ named (Some (type_of tables t))
    named_reference o u at some = reference_named v u (sym at ∙ some) ∙ sym (ap (λ w. named (Some w)) is)

    pub named_other : (o : Option ℕ) → o ≡ target_in v → o ≡ None → known tables (content.Place (place.Of t)) ≡ named (Some (type_of tables t))
    named_other o at none = ap (λ w. Some (a_place w)) is ∙ other_named v (sym at ∙ none) ∙ sym (ap (λ w. named (Some w)) is)

    pub well_const : (o : Option ℕ) (u : ℕ) (b : Bool) → o ≡ under_const v → o ≡ Some u → b ≡ is_reference (type_of tables u) → not b ≡ names_well (type_of tables t)
    well_const o u b at some e = ap not e ∙ const_well v u (sym at ∙ some) ∙ sym (ap names_well is)

    pub well_other : (o : Option ℕ) → o ≡ under_const v → o ≡ None → true ≡ names_well (type_of tables t)
    well_other o at none = other_well v (sym at ∙ none) ∙ sym (ap names_well is)

    -- ---- what calls give

    pub function_gives : (o : Option ℕ) (f : ℕ) (g : Fun) (k : Option Kept) → o ≡ function_in v → o ≡ Some f → slice_get tables.types.funs f ≡ Some g
        → k ≡ Some (value_of (type_of tables g.result)) → k ≡ Some (value_of (result_type (type_of tables t)))
    function_gives o f g k at some found e =
        e ∙ ap (λ w. Some (value_of w)) (sym (result_at tables t g (is_function tables t v f g is (sym at ∙ some) found)))

    pub other_gives : (o : Option ℕ) → o ≡ function_in v → o ≡ None → known tables content.NoValue ≡ Some (value_of (result_type (type_of tables t)))
    other_gives o at none = ap (λ w. Some (value_of w)) (sym (no_function (is_none tables t v is (sym at ∙ none))))
      where
        no_function : IsNoFunction (type_of tables t) → result_type (type_of tables t) ≡ void
        no_function n = n.result

  -- ---- by a form

  function_kept : (o : Option Fun) → kept_of (fun_type (type_of tables) o) ≡ None
  function_kept None = refl
  function_kept (Some g) = by (map (type_of tables) g.params)
    where
      by : (ps : List SourceType) → kept_of (taking ps (gives (type_of tables g.result) g.is_const)) ≡ None
      by [] = refl
      by (p ∷ ps) = refl

  pub function_holds_none : (x : Form) (f : ℕ) → x ≡ form.Function f → known tables content.Unset ≡ kept_of (outer_type tables x)
  function_holds_none x f e = sym (ap (λ y. kept_of (outer_type tables y)) e ∙ function_kept (slice_get tables.types.funs f))

  pub data_member_held : (x : Form) (t c u : ℕ) → x ≡ form.DataMember c u → type_of tables t ≡ outer_type tables x → known tables (content.Member t) ≡ kept_of (outer_type tables x)
  data_member_held x t c u e is =
      ap (λ w. Some (a_member w)) (is ∙ ap (outer_type tables) e) ∙ sym (ap (λ y. kept_of (outer_type tables y)) e)

  pub function_member_held : (x : Form) (t c f : ℕ) → x ≡ form.FunctionMember c f → type_of tables t ≡ outer_type tables x → known tables (content.Member t) ≡ kept_of (outer_type tables x)
  function_member_held x t c f e is =
      ap (λ w. Some (a_member w)) (is ∙ ap (outer_type tables) e) ∙ sym (ap (λ y. kept_of (outer_type tables y)) e)

  function_known : (x : Form) (f : ℕ) → x ≡ form.Function f → IsKnown tables x → OfFunction (outer_type tables x)
  function_known (form.Function g) f e known = known
  function_known x f e known = cc

  pub function_decays : (x : Form) (t f : ℕ) → x ≡ form.Function f → type_of tables t ≡ outer_type tables x → IsKnown tables x
      → known tables (content.Place (place.Of t)) ≡ decayed (outer_type tables x)
  function_decays x t f e is told = ap (λ w. Some (a_place w)) is ∙ sym ((function_known x f e told).decays)

  pub function_converts : (x : Form) (f : ℕ) (k : Option Kept) → x ≡ form.Function f → IsKnown tables x → known tables content.Unset ≡ converted (outer_type tables x) k
  function_converts x f k e told = sym ((function_known x f e told).converts k)

  function_objects : (o : Option Fun) → true ≡ has_objects (fun_type (type_of tables) o)
  function_objects None = refl
  function_objects (Some g) = by (map (type_of tables) g.params)
    where
      by : (ps : List SourceType) → true ≡ has_objects (taking ps (gives (type_of tables g.result) g.is_const))
      by [] = refl
      by (p ∷ ps) = refl

  pub function_has_objects : (x : Form) (f : ℕ) → x ≡ form.Function f → true ≡ has_objects (outer_type tables x)
  function_has_objects x f e = function_objects (slice_get tables.types.funs f) ∙ sym (ap (λ y. has_objects (outer_type tables y)) e)

-- ---- values of results

pub value_is : (t : SourceType) → valued (kept_of t) ≡ value_of t
value_is (const t) = value_is t
value_is t = refl

pub value_given : (t : SourceType) (k : Option Kept) → k ≡ kept_of t → Some (valued k) ≡ Some (value_of t)
value_given t k e = ap (λ j. Some (valued j)) e ∙ ap Some (value_is t)

-- ---- objects

pub void_at : (t u : SourceType) (b : Bool) → b ≡ is_void u → u ≡ without_const t → b ≡ is_void t
void_at t u b e bare = e ∙ ap is_void bare ∙ without_void t

pub object_not : (t : SourceType) (b : Bool) → b ≡ not (is_code t) → b ≡ false → false ≡ is_object t
object_not t b e not_so = ap (λ c. c && not (is_void t)) (sym not_so ∙ e)

pub object_so : (t : SourceType) (b c : Bool) → b ≡ not (is_code t) → b ≡ true → c ≡ is_void t → not c ≡ is_object t
object_so t b c e sure nothing = ap not nothing ∙ ap (λ d. d && not (is_void t)) (sym sure ∙ e)
