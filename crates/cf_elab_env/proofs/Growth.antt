-- What holds of types, values and environments stays true as the table of types grows.
use Rattle.std.proofs.Common.{◌≡◌, ℕ, zero, suc, ◌+◌, ◌<◌, Bool, List, [], ◌∷◌, ◌++◌, length, Option, None, Some, slice_get, get_or, unwrap_or, All, IsTrue, ℤ, refl, sym, ap, subst, ◌∙◌, arith, length-append, append_assoc}
use Rattle.std.proofs.lemmas.List.{append-nil}
use Rattle.std.proofs.lemmas.Option.{slice_get-get_or}
use Rattle.cf_base.specs.declared.kind.Kind.{Kind}
use Rattle.cf_types.specs.declared.ty.Ty.{Ty}
use Rattle.cf_types.specs.declared.ty.Ty.TheVariants as ty
use Rattle.cf_types.specs.declared.ty.Fun.{Fun}
use Rattle.cf_types.specs.Table.{Table, IsTable, NamesBelow}
use Rattle.cf_types.proofs.Places.{get-front}
use Rattle.cf_convert.specs.Constness.{type_at, bare, is_const, const_step}
use Rattle.cf_convert.proofs.Constness.{const-at}
use Rattle.cf_convert.proofs.Known.{names_more}
use Rattle.cf_elab.specs.Env.{Env, Entity, Object, FunctionEntry, object, functions, alias, class_name, enum_name, enumerator}
use Rattle.cf_elab.specs.Operand.{Value, Sort, sort_of, ty_sort, pointer_sort}
use Rattle.cf_elab_env.specs.Holds.{Grows, HasNoClass, EnumGiven, IsType, Known, FitsIn, fits_sort, IsObject, IsEntry, IsFunctionSort, IsEntity, IsHand, IsEnv}
use Rattle.cf_elab_env.proofs.Sorts.{below_at}

-- ---- the type without its const

pub bare_const : (types : Table) (t u : ℕ) → type_at types t ≡ ty.Const u → bare types t ≡ u
bare_const types t u e = rw e refl

-- the type at a place of the table
pub here : (types : Table) (t : ℕ) → t < length types.types → slice_get types.types t ≡ Some (type_at types t)
here types t h =
    let found = slice_get-get_or types.types t ty.Void h in
    found ∙ ap Some (ap (λ o. unwrap_or o ty.Void) (sym found))

pub bare-known : (types : Table) (t : ℕ) → IsTable types → t < length types.types → bare types t < length types.types
bare-known types t table known = by (type_at types t) refl (below_at types t (type_at types t) table (here types t known))
  where
    by : (v : Ty) → type_at types t ≡ v → NamesBelow t v → bare types t < length types.types
    by (ty.Const u) e below = rw (bare_const types t u e) (omega arith)
    by ty.Void e below = rw e known
    by (ty.Int k) e below = rw e known
    by (ty.Enum n) e below = rw e known
    by (ty.Class c) e below = rw e known
    by (ty.Ptr u) e below = rw e known
    by (ty.Ref u) e below = rw e known
    by (ty.Array u n) e below = rw e known
    by (ty.Fun f) e below = rw e known
    by (ty.MemData c u) e below = rw e known
    by (ty.MemFun c f) e below = rw e known

-- const of a type is made of const of those before it
const_step-same : (f g : ℕ → Bool) (t : ℕ) (v : Ty) → NamesBelow t v → ((u : ℕ) → u < t → f u ≡ g u) → const_step f v ≡ const_step g v
const_step-same f g t (ty.Array u n) below same = same u below
const_step-same f g t ty.Void below same = refl
const_step-same f g t (ty.Int k) below same = refl
const_step-same f g t (ty.Enum n) below same = refl
const_step-same f g t (ty.Class c) below same = refl
const_step-same f g t (ty.Ptr u) below same = refl
const_step-same f g t (ty.Ref u) below same = refl
const_step-same f g t (ty.Fun h) below same = refl
const_step-same f g t (ty.MemData c u) below same = refl
const_step-same f g t (ty.MemFun c h) below same = refl
const_step-same f g t (ty.Const u) below same = refl

-- the types of a table are the first of a longer one, in the same order
module _ (old new : Table) (more_types : List Ty) (g_types : new.types ≡ old.types ++ more_types) where
  pub type-known : (t : ℕ) → t < length old.types → t < length new.types
  type-known t h = omega (arith, ap length g_types, length-append old.types more_types)

  pub type_at-grows : (t : ℕ) → t < length old.types → type_at new t ≡ type_at old t
  type_at-grows t h = ap (λ l. unwrap_or (slice_get l t) ty.Void) g_types ∙ ap (λ o. unwrap_or o ty.Void) (get-front old.types more_types t h)

  pub bare-grows : (t : ℕ) → t < length old.types → bare new t ≡ bare old t
  bare-grows t h = rw (type_at-grows t h) refl

  module _ (table : IsTable old) where
    bare-type_at-grows : (t : ℕ) → t < length old.types → type_at new (bare new t) ≡ type_at old (bare old t)
    bare-type_at-grows t h = ap (type_at new) (bare-grows t h) ∙ type_at-grows (bare old t) (bare-known old t table h)

    ty_sort-grows : (v : Ty) → NamesBelow (length old.types) v → ty_sort new v ≡ ty_sort old v
    ty_sort-grows (ty.Ptr u) below = ap (pointer_sort u) (bare-type_at-grows u below)
    ty_sort-grows ty.Void below = refl
    ty_sort-grows (ty.Int k) below = refl
    ty_sort-grows (ty.Enum n) below = refl
    ty_sort-grows (ty.Class c) below = refl
    ty_sort-grows (ty.Ref u) below = refl
    ty_sort-grows (ty.Array u n) below = refl
    ty_sort-grows (ty.Fun f) below = refl
    ty_sort-grows (ty.MemData c u) below = refl
    ty_sort-grows (ty.MemFun c f) below = refl
    ty_sort-grows (ty.Const u) below = refl

    pub sort_of-grows : (t : ℕ) → t < length old.types → sort_of new t ≡ sort_of old t
    sort_of-grows t h =
        let b = bare old t in
        let inside = bare-known old t table h in
        let v = type_at old b in
        ap (ty_sort new) (bare-type_at-grows t h)
        ∙ ty_sort-grows v (names_more b (length old.types) v (below_at old b v table (here old b inside)) (omega arith))

    is_const-below : (n t : ℕ) → t < n → t < length old.types → is_const new t ≡ is_const old t
    is_const-below zero t before h = absurd (omega arith)
    is_const-below (suc n) t before h =
        let v = type_at old t in
        let at_old = here old t h in
        let at_new = here new t (type-known t h) ∙ ap Some (type_at-grows t h) in
        let below = below_at old t v table at_old in
        const-at new t v at_new below ∙ const_step-same (is_const new) (is_const old) t v below (λ u k. is_const-below n u (omega arith) (omega arith)) ∙ sym (const-at old t v at_old below)

    pub is_const-grows : (t : ℕ) → t < length old.types → is_const new t ≡ is_const old t
    is_const-grows t h = is_const-below (t + 1) t (omega arith) h

-- a longer table is one that has grown
pub grown : (old new : Table) (more_types : List Ty) (more_funs : List Fun) → IsTable old → new.types ≡ old.types ++ more_types → new.funs ≡ old.funs ++ more_funs → Grows old new
grown old new more_types more_funs table types funs =
    record { more_types = more_types; more_funs = more_funs; types = types; funs = funs; sorts = sort_of-grows old new more_types types table }

pub grows-refl : (t : Table) → Grows t t
grows-refl t = record { more_types = []; more_funs = []; types = sym (append-nil t.types); funs = sym (append-nil t.funs); sorts = λ n h. refl }

pub type_grown : (a b : Table) (t : ℕ) → Grows a b → IsType a t → IsType b t
type_grown a b t g h = type-known a b g.more_types g.types t h

pub grows_through : (a b c : Table) → Grows a b → Grows b c → Grows a c
grows_through a b c g h = record {
  more_types = g.more_types ++ h.more_types;
  more_funs = g.more_funs ++ h.more_funs;
  types = h.types ∙ ap (λ l. l ++ h.more_types) g.types ∙ append_assoc a.types g.more_types h.more_types;
  funs = h.funs ∙ ap (λ l. l ++ h.more_funs) g.funs ∙ append_assoc a.funs g.more_funs h.more_funs;
  sorts = λ t k. h.sorts t (type_grown a b t g k) ∙ g.sorts t k;
}

-- ---- values

fits_grown : (a b : Table) (t : ℕ) (z : Option ℤ) → Grows a b → IsType a t → FitsIn a t z → FitsIn b t z
fits_grown a b t None g h fits = tt
fits_grown a b t (Some z) g h fits = let P : Sort → Type 0 = λ s. IsTrue (fits_sort s z) in subst P (sym (g.sorts t h)) fits

pub known_grown : (a b : Table) (v : Value) → Grows a b → Known a v → Known b v
known_grown a b v g k = record { typed = type_grown a b v.type g k.typed; number = fits_grown a b v.type v.number g k.typed k.number }

-- at another place of the text
pub known_at : (types : Table) (v : Value) (at : ℕ) → Known types v → Known types (record v { at = at })
known_at types v at k = record { typed = k.typed; number = k.number }

pub ruleset grown_laws = (type_grown, known_grown, grows_through, grows-refl)

-- ---- names

module _ (a b : Table) (g : Grows a b) where
  object_grown : (x : Object) → IsObject a x → IsObject b x
  object_grown x k = record { typed = type_grown a b x.type g k.typed; number = fits_grown a b x.type x.number g k.typed k.number }

  entity_grown : (count : ℕ) (e : Entity) → IsEntity a count e → IsEntity b count e
  entity_grown count (object x) k = object_grown x k
  entity_grown count (functions fs) k = k
  entity_grown count (alias t) k = type_grown a b t g k
  entity_grown count (class_name c) k = k
  entity_grown count (enum_name e) k = k
  entity_grown count (enumerator t z) k = (type_grown a b t g k.0, fits_grown a b t z g k.0 k.1)

  entry_grown : (f : FunctionEntry) → IsEntry a f → IsEntry b f
  entry_grown f k = record { typed = type_grown a b f.type g k.typed; no_defaults = k.no_defaults; function = subst IsFunctionSort (sym (g.sorts f.type k.typed)) k.function }

-- what holds of all items holds of them in another way
pub All-into : {A : Type 0} (P Q : A → Type 0) (xs : List A) → ((x : A) → P x → Q x) → All P xs → All Q xs
All-into P Q xs f all = λ k d w. f (get_or xs k d) (all k d w)

-- an environment stays one with a longer table
pub env_grown : (env : Env) (new : Table) → IsEnv env → IsTable new → HasNoClass new → All (EnumGiven (length env.classes.enums)) new.types → Grows env.types new
    → IsEnv (record env { types = new })
env_grown env new e table no_class enums g = record {
  no_class = e.no_class;
  no_open_class = e.no_open_class;
  table = table;
  no_class_type = no_class;
  enums = enums;
  no_outer = e.no_outer;
  entities = All-into (IsEntity env.types (length env.entries)) (IsEntity new (length env.entries)) env.entities (entity_grown env.types new g (length env.entries)) e.entities;
  entries = All-into (IsEntry env.types) (IsEntry new) env.entries (entry_grown env.types new g) e.entries;
  outer = e.outer;
  inner = e.inner;
  linked = e.linked;
  hand = record {
    no_class = e.hand.no_class;
    result = type_grown env.types new env.hand.result g e.hand.result;
    locals = All-into (IsType env.types) (IsType new) env.hand.locals (λ t. type_grown env.types new t g) e.hand.locals;
  };
}
