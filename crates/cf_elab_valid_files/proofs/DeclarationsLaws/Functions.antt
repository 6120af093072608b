-- Declarations of functions, without classes and default arguments (3.3, 8.3).
use Rattle.std.proofs.Common.{◌≡◌, inl, inr, ℕ, zero, suc, ◌-◌, ◌<◌, Bool, true, false, not, ◌==◌, ◌&&◌, ◌||◌, is_some, nat_le, List, [], ◌∷◌, ◌++◌, length, Option, Some, None, slice_get, bytes_eq, IsTrue, refl, sym, ap, subst, ◌∙◌, true≢false, arith}
use Rattle.std.specs.List.{list_any}
use Rattle.cf_base.specs.declared.limit.Bound.TheVariants as bound_of
use Rattle.cf_types.specs.declared.ty.Ty.{Ty}
use Rattle.cf_types.specs.declared.ty.Ty.TheVariants as ty
use Rattle.cf_types.specs.Table.{passes, takes_const}
use Rattle.cf_types.proofs.Places.{get-snoc}
use Rattle.cf_classes.specs.TypeTree.{params_of}
use Rattle.cf_convert.specs.Constness.{type_at, bare}
use Rattle.cf_elab.specs.Answer.{Answer, Made, Elab, ◌>>◌, onward, need, none_at, gives, breaks}
use Rattle.cf_elab.specs.Arguments.{fun_at, result_of}
use Rattle.cf_elab.specs.Complete.{within, most_name}
use Rattle.cf_elab.specs.Env.{Env, Name, Entity, object, functions, alias, class_name, enum_name, enumerator, Default, FunctionEntry}
use Rattle.cf_elab.specs.Functions as row
use Rattle.cf_elab.specs.Functions.{Says, said_link, repeat_none, some_each, earlier_defaults, default_fault, new_defaults, says_internal, parameters_complete, is_library, entry, joins, entry_of, is_called_main, main_form, operator_form, is_function_set}
use Rattle.cf_elab.specs.Names.{declared_here, redeclare, replaced}
use Rattle.cf_elab.specs.Operand.{Sort, sort_of, ty_sort, pointer_sort, is_function}
use Rattle.cf_elab.specs.Shape.{Parameter}
use Rattle.cf_elab_env.proofs.Growth.{here, bare_const}
use Rattle.cf_elab_env.proofs.Sorts.{below_at}
use Rattle.cf_elab_valid.specs.Answers.{Fine}
use Rattle.cf_elab_valid.specs.Scene.{Scene, IsScene, Steps, Within, Inside, EntryFits, Classless, Holds}
use Rattle.cf_elab_valid.proofs.FitRows.{Still, needed, still-fine}
use Rattle.cf_elab_valid.proofs.Making.{IsType}
use Rattle.cf_elab_valid.proofs.Shapes.{NoDefaults, none_still}
use Rattle.cf_elab_valid.proofs.Ways.{begins-get, begins-same, homes-same, same-hand, entity-later, named-later, entry-later, fine-as, fine-before, made-fine, onward-fine, within-before, When}
use Rattle.cf_elab_valid_objects.proofs.Growing.{part-later}
use Rattle.cf_elab_valid_objects.proofs.Naming.{replaced-get}
use Rattle.cf_elab_valid_files.proofs.StaticsLaws.Names.{Any, redeclared-fine}
use Rattle.cf_elab_valid_files.proofs.DeclarationsLaws.Entering.{named-fine}

-- ---- a function type

-- the number has a function type
pub record IsFun (e : Env) (t : ℕ) : Type 0 where
  pub fun : ℕ
  pub here : slice_get e.types.types t ≡ Some (ty.Fun fun)

pub fun-later : (a b : Env) (t : ℕ) → Steps a b → IsFun a t → IsFun b t
fun-later a b t g f = record { fun = f.fun; here = begins-get a.types.types b.types.types t (ty.Fun f.fun) g.types f.here }

pointer_no_function : (t : ℕ) (v : Ty) → is_function (pointer_sort t v) ≡ false
pointer_no_function t ty.Void = refl
pointer_no_function t (ty.Int k) = refl
pointer_no_function t (ty.Enum k) = refl
pointer_no_function t (ty.Class k) = refl
pointer_no_function t (ty.Ptr k) = refl
pointer_no_function t (ty.Ref k) = refl
pointer_no_function t (ty.Array k n) = refl
pointer_no_function t (ty.Fun k) = refl
pointer_no_function t (ty.MemData k n) = refl
pointer_no_function t (ty.MemFun k n) = refl
pointer_no_function t (ty.Const k) = refl

module _ (s : Scene) (scene : IsScene s) where
  -- a type whose sort is a function's is one itself: const stands on none
  pub function-there : (e : Env) (t : ℕ) → Within e s → Inside e t → is_function (sort_of e.types t) ≡ true → IsFun e t
  function-there e t w i f = by (type_at e.types t) refl (here e.types t i)
    where
      itself : (v : Ty) → bare e.types t ≡ t → type_at e.types t ≡ v → is_function (ty_sort e.types v) ≡ true
      itself v plain is = sym (ap is_function (ap (λ b. ty_sort e.types (type_at e.types b)) plain ∙ ap (ty_sort e.types) is)) ∙ f

      under : (u : ℕ) → slice_get e.types.types t ≡ Some (ty.Const u) → (v : Ty) → slice_get e.types.types u ≡ Some v → is_function (ty_sort e.types v) ≡ true → ⊥
      under u at (ty.Fun g) there h =
          let const_end = begins-get e.types.types s.tables.types.types t (ty.Const u) w.types at in
          let fun_end = begins-get e.types.types s.tables.types.types u (ty.Fun g) w.types there in
          let normal : passes takes_const s.tables.types.types u ≡ true = scene.table.normal t (ty.Const u) const_end in
          true≢false (sym normal ∙ told fun_end)
        where
          told : slice_get s.tables.types.types u ≡ Some (ty.Fun g) → passes takes_const s.tables.types.types u ≡ false
          told q = rw q refl
      under u at (ty.Ptr p) there h = true≢false (sym h ∙ pointer_no_function p (type_at e.types (bare e.types p)))
      under u at ty.Void there h = true≢false (sym h)
      under u at (ty.Int k) there h = true≢false (sym h)
      under u at (ty.Enum k) there h = true≢false (sym h)
      under u at (ty.Class k) there h = true≢false (sym h)
      under u at (ty.Ref k) there h = true≢false (sym h)
      under u at (ty.Array k n) there h = true≢false (sym h)
      under u at (ty.MemData k n) there h = true≢false (sym h)
      under u at (ty.MemFun k n) there h = true≢false (sym h)
      under u at (ty.Const k) there h = true≢false (sym h)

      below : (u : ℕ) → slice_get e.types.types t ≡ Some (ty.Const u) → u < length e.types.types
      below u at =
          let less : u < t = below_at s.tables.types t (ty.Const u) scene.table (begins-get e.types.types s.tables.types.types t (ty.Const u) w.types at) in
          omega (arith, less, i)

      by : (v : Ty) → type_at e.types t ≡ v → slice_get e.types.types t ≡ Some (type_at e.types t) → IsFun e t
      by (ty.Fun g) is at = record { fun = g; here = at ∙ ap Some is }
      by (ty.Const u) is at =
          let const_here = at ∙ ap Some is in
          absurd (under u const_here (type_at e.types u) (here e.types u (below u const_here)) (sym (ap is_function (ap (λ b. ty_sort e.types (type_at e.types b)) (bare_const e.types t u is))) ∙ f))
      by (ty.Ptr p) is at = absurd (true≢false (sym (itself (ty.Ptr p) (rw is refl) is) ∙ pointer_no_function p (type_at e.types (bare e.types p))))
      by ty.Void is at = absurd (true≢false (sym (itself ty.Void (rw is refl) is)))
      by (ty.Int k) is at = absurd (true≢false (sym (itself (ty.Int k) (rw is refl) is)))
      by (ty.Enum k) is at = absurd (true≢false (sym (itself (ty.Enum k) (rw is refl) is)))
      by (ty.Class k) is at = absurd (true≢false (sym (itself (ty.Class k) (rw is refl) is)))
      by (ty.Ref k) is at = absurd (true≢false (sym (itself (ty.Ref k) (rw is refl) is)))
      by (ty.Array k n) is at = absurd (true≢false (sym (itself (ty.Array k n) (rw is refl) is)))
      by (ty.MemData k n) is at = absurd (true≢false (sym (itself (ty.MemData k n) (rw is refl) is)))
      by (ty.MemFun k n) is at = absurd (true≢false (sym (itself (ty.MemFun k n) (rw is refl) is)))

-- ---- no default arguments

no_more : (ts : List ℕ) (ps : List Parameter) (k : ℕ) (e : Env) → NoDefaults ps → new_defaults ts ps (repeat_none k ++ []) e ≡ Made [] e
no_more [] ps k e d = refl
no_more (t ∷ ts) [] k e d = refl
no_more (t ∷ ts) (p ∷ ps) zero e d = refl
no_more (t ∷ ts) (p ∷ ps) (suc k) e d = rw d.0 (ap (λ r. onward r (λ (xs : List Default). gives xs)) (no_more ts ps k e d.1))

-- ---- entries

module _ (s : Scene) where
  -- with other entries that fit
  pub entries-fine : {A : Type 0} (P : A → Env → Type 0) (a : A) (l : List FunctionEntry) (e : Env) → ((n : ℕ) (f : FunctionEntry) → slice_get l n ≡ Some f → f.defaults ≡ [])
      → When s e ((n : ℕ) (f : FunctionEntry) → slice_get l n ≡ Some f → EntryFits s e f) → Classless e → When s e (Holds s e) → When s e (P a (record e { entries = l })) → Fine s P e (Made a (record e { entries = l }))
  entries-fine P a l e none fit c h p =
      let next : Env = record e { entries = l } in
      let g : Steps e next = record {
        types = begins-same e.types.types;
        funs = begins-same e.types.funs;
        enums = begins-same e.classes.enums;
        locals = begins-same e.hand.locals;
        statics = begins-same e.statics;
        functions = begins-same e.functions;
        homes = homes-same e.entities;
        hand = same-hand e.hand;
        outer = refl;
      } in record {
        steps = g;
        classless = record { none = c.none; none_open = c.none_open; no_body = c.no_body; no_type = c.no_type; no_name = c.no_name; no_defaults = none };
        holds = λ w. let early = within-before e next s g w in let k = h early in record {
          parts = λ t v at. part-later e next v g (k.parts t v at);
          no_outer = k.no_outer;
          entities = λ n x o at. entity-later s e next x g (k.entities n x o at);
          named_types = λ n x at. named-later e next x g (k.named_types n x at);
          entries = λ n f at. entry-later s e next f g (fit early n f at);
          open_there = k.open_there;
          outside = λ n x at home. entity-later s e next (object x) g (k.outside n x at home);
          statics = k.statics;
          functions = k.functions;
          result = k.result;
        };
        made = λ w. p (within-before e next s g w);
      }

module _ (s : Scene) (scene : IsScene s) (d : Says) where
  -- ---- an entry

  abbrev added : FunctionEntry → Env → Env
  added f e = record e { entries = e.entries ++ f ∷ [] }

  abbrev set : ℕ → FunctionEntry → Env → Env
  set n f e = record e { entries = replaced n f e.entries }

  defaults-still : (before : List Default) (e : Env) → before ≡ [] → NoDefaults d.parameters → {B : Type 0} (Q : B → Env → Type 0) (go : List Default → Env → Answer B) → Fine s Q e (go [] e) → Fine s Q e (onward (row.defaults_of d before e) go)
  defaults-still before e none n {B} Q go f =
      subst (λ b. Fine s Q e (onward (row.defaults_of d b e) go)) (sym none) (by (default_fault d.parameters (earlier_defaults (length ts) [])))
    where
      ts : List ℕ
      ts = params_of (fun_at e.types d.type)

      by : (o : Option ℕ) → Fine s Q e (onward (onward (none_at o 27 e) (λ _. new_defaults ts d.parameters (earlier_defaults (length ts) []))) go)
      by (Some at) = tt
      by None = subst (λ r. Fine s Q e (onward r go)) (sym (no_more ts d.parameters (length ts - 0) e n)) f

  module _ (e : Env) (no_defaults : NoDefaults d.parameters) (c : Classless e) (h : When s e (Holds s e)) (is : When s e (IsFun e d.type)) where
    new-entry : Fine s Any e (row.new_entry d e)
    new-entry = defaults-still [] e refl no_defaults Any _ (by (parameters_complete e d) (e.extent.overloads || not (list_any (λ (f : FunctionEntry). bytes_eq f.name d.name) e.entries)) (e.extent.elsewhere || d.defines || d.is_initialised || list_any (bytes_eq d.name) e.defines) (nat_le (length (said_link e d)) most_name))
      where
        fit : When s e ((n : ℕ) (f : FunctionEntry) → slice_get (e.entries ++ entry e d [] ∷ []) n ≡ Some f → EntryFits s e f)
        fit w n f at = elim (get-snoc e.entries (entry e d []) n f at) [ inl a ↦ (h w).entries n f a | inr b ↦ subst (EntryFits s e) b.1 (record { fun = (is w).fun; here = (is w).here }) ]

        none : (n : ℕ) (f : FunctionEntry) → slice_get (e.entries ++ entry e d [] ∷ []) n ≡ Some f → f.defaults ≡ []
        none n f at = elim (get-snoc e.entries (entry e d []) n f at) [ inl a ↦ c.no_defaults n f a | inr b ↦ subst (λ (x : FunctionEntry). x.defaults ≡ []) b.1 refl ]

        by : (a o b k : Bool) → Fine s Any e (onward (need a 30 d.at e) (λ _ f. onward (need o 48 d.at f) (λ _ i. onward (need b 48 d.at i)
            (λ _ g. onward (within k bound_of.Names most_name g) (λ _ m. Made (length e.entries) (added (entry e d []) m))))))
        by false o b k = tt
        by true false b k = tt
        by true true false k = tt
        by true true true false = tt
        by true true true true = entries-fine s Any (length e.entries) (e.entries ++ entry e d [] ∷ []) e none fit c h (λ w. tt)

    known-entry : (n : ℕ) (f : FunctionEntry) → slice_get e.entries n ≡ Some f → Fine s Any e (row.known_entry d n f e)
    known-entry n f there =
        still-fine s Any e (need (result_of (fun_at e.types f.type) == result_of (fun_at e.types d.type)) 8 d.at e) _ (needed e (result_of (fun_at e.types f.type) == result_of (fun_at e.types d.type)) 8 d.at)
        (still-fine s Any e (need (not (says_internal d) || f.is_internal) 9 d.at e) _ (needed e (not (says_internal d) || f.is_internal) 9 d.at)
        (defaults-still f.defaults e (c.no_defaults n f there) no_defaults Any _
        (still-fine s Any e (need (parameters_complete e d) 30 d.at e) _ (needed e (parameters_complete e d) 30 d.at)
        (still-fine s Any e (need (not d.defines || not (f.is_defined || is_library f.link)) 8 d.at e) _ (needed e (not d.defines || not (f.is_defined || is_library f.link)) 8 d.at)
        (entries-fine s Any n (replaced n again e.entries) e none fit c h (λ w. tt))))))
      where
        again : FunctionEntry
        again = record f { defaults = []; is_defined = f.is_defined || d.defines }

        none : (m : ℕ) (g : FunctionEntry) → slice_get (replaced n again e.entries) m ≡ Some g → g.defaults ≡ []
        none m g at = elim (replaced-get n m again g e.entries at) [ inl a ↦ c.no_defaults m g a | inr b ↦ subst (λ (x : FunctionEntry). x.defaults ≡ []) b.1 refl ]

        fit : When s e ((m : ℕ) (g : FunctionEntry) → slice_get (replaced n again e.entries) m ≡ Some g → EntryFits s e g)
        fit w m g at = elim (replaced-get n m again g e.entries at) [ inl a ↦ (h w).entries m g a | inr b ↦ subst (EntryFits s e) b.1 (let k = (h w).entries n f there in record { fun = k.fun; here = k.here }) ]

    entry-fine : (o : Option ℕ) → Fine s Any e (row.entry_or_new d o e)
    entry-fine None = new-entry
    entry-fine (Some n) = by (slice_get e.entries n) refl
      where
        by : (o : Option FunctionEntry) → slice_get e.entries n ≡ o → Fine s Any e ((elim o as (λ _. Elab ℕ) [ None ↦ row.new_entry d | Some f ↦ row.known_entry d n f ]) e)
        by None there = new-entry
        by (Some f) there = known-entry n f there

  -- ---- the name

  joined-fine : (n : ℕ) (o : Option ℕ) (e : Env) → Classless e → When s e (Holds s e) → Fine s Any e (row.entity_joined d n o e)
  joined-fine n None e c h = named-fine s Any tt d.name (functions (n ∷ [])) e (λ k is. absurd cc) c h (λ w. tt) (λ w. tt) (λ w. tt)
  joined-fine n (Some k) e c h = by (slice_get e.entities k) refl
    where
      join_set : Option Entity → Elab (Unit {0})
      join_set (Some (functions fs)) = redeclare k (functions (joins n fs))
      join_set other = breaks 8 d.at

      by : (o : Option Entity) → slice_get e.entities k ≡ o → Fine s Any e (join_set o e)
      by None there = tt
      by (Some (object x)) there = tt
      by (Some (alias t)) there = tt
      by (Some (class_name t)) there = tt
      by (Some (enum_name t)) there = tt
      by (Some (enumerator t z)) there = tt
      by (Some (functions fs)) there = redeclared-fine s Any k (functions fs) (functions (joins n fs)) e there refl (λ m is. absurd cc) c h (λ w. tt) (λ w. tt) (λ w. tt)

  pub declared-fine : (int_type : ℕ) (e : Env) → NoDefaults d.parameters → Classless e → When s e (Holds s e) → When s e (IsFun e d.type) → Fine s Any e (row.declare_function int_type d e)
  declared-fine int_type e n c h is =
      still-fine s Any e (need (not (is_called_main d.called) || main_form e.types int_type d) 11 d.at e) _ (needed e (not (is_called_main d.called) || main_form e.types int_type d) 11 d.at)
      (still-fine s Any e (need (operator_form e.types int_type d) 47 d.at e) _ (needed e (operator_form e.types int_type d) 47 d.at)
      (still-fine s Any e (need (is_function_set e (declared_here e d.name)) 8 d.at e) _ (needed e (is_function_set e (declared_here e d.name)) 8 d.at)
      (onward-fine s Any Any e (row.entry_or_new d (entry_of e d) e) _ (entry-fine e n c h is (entry_of e d))
      (λ k e1 g1 c1 h1 any. onward-fine s Any Any e1 (row.entity_joined d k (declared_here e d.name) e1) (λ _. gives k) (joined-fine k (declared_here e d.name) e1 c1 h1)
      (λ u e2 g2 c2 h2 any2. made-fine s Any e2 k c2 h2 (λ w. tt))))))
