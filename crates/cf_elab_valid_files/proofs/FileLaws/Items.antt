-- From the first environment of a file to its end: the library functions, and the items in turn (3.4, 17).
use Rattle.std.proofs.Common.{◌≡◌, inl, inr, ℕ, Bool, true, false, not, ◌||◌, is_some, List, [], ◌∷◌, ◌++◌, length, map, codes, Option, Some, None, slice_get, refl, sym, ap, subst, ◌∙◌}
use Rattle.std.specs.Option.{option_map_or}
use Rattle.cf_base.specs.declared.kind.Kind.TheVariants as kind
use Rattle.cf_types.specs.declared.ty.Ty.TheVariants as ty
use Rattle.cf_types.proofs.Places.{get-snoc}
use Rattle.cf_unit.specs.declared.declaration.Declaration.{Declaration}
use Rattle.cf_unit.specs.declared.file.Item.{Item}
use Rattle.cf_unit.specs.declared.file.Item.TheVariants as item
use Rattle.cf_core_typed.proofs.Same.{and-left, and-right}
use Rattle.cf_elab.specs.Answer.{Answer, Made, Elab, onward, for_each, done}
use Rattle.cf_elab.specs.Built as built
use Rattle.cf_elab.specs.Env.{Env, Name, Extent, functions, FunctionEntry}
use Rattle.cf_elab.specs.File as row
use Rattle.cf_elab.specs.File.{first_env, library_entry, item_row, in_turn}
use Rattle.cf_elab.specs.Made.{int, void, function_type}
use Rattle.cf_elab.specs.Names.{declare}
use Rattle.cf_elab.specs.Objects.{Reached}
use Rattle.cf_elab.specs.Trees.{declaration}
use Rattle.cf_elab_valid.specs.Answers.{Fine}
use Rattle.cf_elab_valid.specs.Constants.{all_of}
use Rattle.cf_elab_valid.specs.Scene.{Scene, Steps, EntryFits, Classless, Holds}
use Rattle.cf_elab_valid.specs.Statements.{is_outermost}
use Rattle.cf_elab_valid.proofs.Beginning.{first-classless, first-holds}
use Rattle.cf_elab_valid.proofs.FitRows.{needed, still-fine}
use Rattle.cf_elab_valid.proofs.Making.{IsType, intern-fine, of_kind-fine}
use Rattle.cf_elab_valid.proofs.Named.{first-none}
use Rattle.cf_elab_valid.proofs.Options.{never_none}
use Rattle.cf_elab_valid.proofs.Ways.{made-fine, onward-fine, When}
use Rattle.cf_elab_valid_files.proofs.StaticsLaws.Names.{Any}
use Rattle.cf_elab_valid_files.proofs.DeclarationsLaws.Entering.{named-fine, still-alone}
use Rattle.cf_elab_valid_files.proofs.DeclarationsLaws.Functions.{IsFun, entries-fine}
use Rattle.cf_elab_valid_files.specs.Bodies.Laws.{IsEnd, ConstantsAreApart}
use Rattle.cf_elab_valid_files.proofs.BodiesLaws.Bodies.{declaration-tree-law}
use Rattle.cf_elab_valid_files.specs.Functions.Laws.{IsFileEnd}
use Rattle.cf_elab_valid_files.proofs.FunctionsLaws.Definitions.{function-law}
use Rattle.cf_elab_valid_files.proofs.FunctionsLaws.Shaped.{made-function}
use Rattle.cf_elab_valid_files.specs.File.Laws.{item_fits}

module _ (s : Scene) (end : IsFileEnd s) where
  -- ---- the library

  abbrev listed : Name → ℕ → Env → Answer (Unit {0})
  listed name t f = Made (tt {0}) (record f { entries = f.entries ++ library_entry name t ∷ [] })

  listed-fine : (name : Name) (t : ℕ) (e : Env) → Classless e → When s e (Holds s e) → When s e (IsFun e t) → Fine s (Any {A = Unit {0}}) e (listed name t e)
  listed-fine name t e c h fun =
      entries-fine s (Any {A = Unit {0}}) tt (e.entries ++ library_entry name t ∷ []) e
      (λ n f at. elim (get-snoc e.entries (library_entry name t) n f at) [ inl a ↦ c.no_defaults n f a | inr b ↦ subst (λ (x : FunctionEntry). x.defaults ≡ []) b.1 refl ])
      (λ w n f at. elim (get-snoc e.entries (library_entry name t) n f at) [ inl a ↦ (h w).entries n f a | inr b ↦ subst (EntryFits s e) b.1 (record { fun = (fun w).fun; here = (fun w).here }) ]) c h (λ w. tt)

  library-fine : (name : Name) (result : ℕ) (params : List ℕ) (e : Env) → Classless e → When s e (Holds s e) → Fine s (Any {A = Unit {0}}) e (row.library name result params e)
  library-fine name result params e c h =
      onward-fine s (λ t f. IsFun f t) (Any {A = Unit {0}}) e (function_type result params false e) (λ t f. onward (listed name t f) (λ _. declare name (functions (length f.entries ∷ [])))) (made-function s end.scene result params false e c h)
      (λ t e1 g1 c1 h1 fun. onward-fine s (Any {A = Unit {0}}) (Any {A = Unit {0}}) e1 (listed name t e1) (λ _. declare name (functions (length e1.entries ∷ []))) (listed-fine name t e1 c1 h1 fun)
      (λ u e2 g2 c2 h2 any. named-fine s (Any {A = Unit {0}}) tt name (functions (length e1.entries ∷ [])) e2 (λ k is. absurd cc) c2 h2 (λ w. tt) (λ w. tt) (λ w. tt)))

  -- behind the two types
  abbrev exit_row : ℕ → ℕ → Env → Answer (Unit {0})
  exit_row i v f = row.library (codes "exit") v (i ∷ []) f

  abbrev rest : ℕ → ℕ → Env → Answer (Unit {0})
  rest i v f = onward (row.library (codes "putchar") i (i ∷ []) f) (λ _ g. onward (row.library (codes "getchar") i [] g) (λ _. exit_row i v))

  rest-fine : (i v : ℕ) (e : Env) → Classless e → When s e (Holds s e) → Fine s (Any {A = Unit {0}}) e (rest i v e)
  rest-fine i v e c h =
      onward-fine s (Any {A = Unit {0}}) (Any {A = Unit {0}}) e (row.library (codes "putchar") i (i ∷ []) e) (λ _ g. onward (row.library (codes "getchar") i [] g) (λ _. exit_row i v)) (library-fine (codes "putchar") i (i ∷ []) e c h)
      (λ u e1 g1 c1 h1 a1. onward-fine s (Any {A = Unit {0}}) (Any {A = Unit {0}}) e1 (row.library (codes "getchar") i [] e1) (λ _. exit_row i v) (library-fine (codes "getchar") i [] e1 c1 h1)
      (λ u2 e2 g2 c2 h2 a2. library-fine (codes "exit") v (i ∷ []) e2 c2 h2))

  pub beginning-fine : (e : Env) → Classless e → When s e (Holds s e) → Fine s (Any {A = Unit {0}}) e (row.beginning e)
  beginning-fine e c h =
      onward-fine s (IsType (ty.Int kind.Int)) (Any {A = Unit {0}}) e (int e) (λ i f. onward (void f) (λ v. rest i v)) (of_kind-fine s kind.Int e c h)
      (λ i e1 g1 c1 h1 is. onward-fine s (IsType ty.Void) (Any {A = Unit {0}}) e1 (void e1) (λ v. rest i v) (intern-fine s ty.Void e1 refl (λ w. tt) c1 h1) (λ v e2 g2 c2 h2 is2. rest-fine i v e2 c2 h2))

  -- ---- the items

  no_local : (i t : ℕ) → slice_get s.locals i ≡ Some t → ⊥
  no_local i t at = by (subst (λ l. slice_get l i ≡ Some t) end.outside at)
    where
      by : slice_get [] i ≡ Some t → ⊥
      by q = absurd cc

  abbrev is_end : IsEnd s
  is_end = record { scene = end.scene; arrays = end.arrays; frame = λ i t at. absurd (no_local i t at) }

  pub outermost-later : (a b : Env) → Steps a b → is_outermost a.scopes.outer ≡ true → is_outermost b.scopes.outer ≡ true
  outermost-later a b g o = ap is_outermost g.outer ∙ o

  pub item-fine : ConstantsAreApart → (x : Item) → built.of_item x ≡ None → item_fits x ≡ true → (e : Env) → is_outermost e.scopes.outer ≡ true → Classless e → When s e (Holds s e) → Fine s Any e (item_row x e)
  item-fine apart (item.Function f) b fits e o c h = function-law apart f b fits s end e o c h
  item-fine apart (item.Declaration d) b fits e o c h =
      onward-fine s (Any {A = List Reached}) (Any {A = Unit {0}}) e ((declaration d).run e) (λ _. done) ((declaration-tree-law apart d b fits).outside s is_end end.outside e o c h) (λ rs e1 g1 c1 h1 any. made-fine s Any e1 tt c1 h1 (λ w. tt))
  item-fine apart (item.Linkage l) b fits e o c h = never_none l.at b

  items-fine : ConstantsAreApart → (xs : List Item) → built.first_of (map built.of_item xs) ≡ None → all_of (map item_fits xs) ≡ true → (e : Env) → is_outermost e.scopes.outer ≡ true → Classless e → When s e (Holds s e)
      → Fine s Any e (for_each (λ (i : Elab (Unit {0})). i) (map item_row xs) e)
  items-fine apart [] b fits e o c h = made-fine s Any e tt c h (λ w. tt)
  items-fine apart (x ∷ xs) b fits e o c h =
      let split = first-none (built.of_item x) (built.first_of (map built.of_item xs)) b in
      onward-fine s (Any {A = Unit {0}}) (Any {A = Unit {0}}) e (item_row x e) (λ _. for_each (λ (i : Elab (Unit {0})). i) (map item_row xs)) (item-fine apart x split.0 (and-left (item_fits x) (all_of (map item_fits xs)) fits) e o c h)
      (λ u e1 g c1 h1 any. items-fine apart xs split.1 (and-right (item_fits x) (all_of (map item_fits xs)) fits) e1 (outermost-later e e1 g o) c1 h1)

  -- ---- the whole

  pub turn-fine : ConstantsAreApart → (xs : List Item) → built.first_of (map built.of_item xs) ≡ None → all_of (map item_fits xs) ≡ true → s.result ≡ 0 → (extent : Extent) (names : List Name) → Fine s Any (first_env extent names) (in_turn (map item_row xs) (first_env extent names))
  turn-fine apart xs b fits zero_result extent names =
      let e = first_env extent names in
      onward-fine s (Any {A = Unit {0}}) (Any {A = Unit {0}}) e (onward (row.beginning e) (λ _. for_each (λ (i : Elab (Unit {0})). i) (map item_row xs))) (λ _. row.all_defined)
      (onward-fine s (Any {A = Unit {0}}) (Any {A = Unit {0}}) e (row.beginning e) (λ _. for_each (λ (i : Elab (Unit {0})). i) (map item_row xs)) (beginning-fine e (first-classless extent names) (λ w. first-holds s zero_result extent names))
      (λ u e1 g1 c1 h1 any. items-fine apart xs b fits e1 (outermost-later e e1 g1 refl) c1 h1))
      (λ u e2 g2 c2 h2 any. still-alone s e2 (row.all_defined e2) (needed e2 _ 48 _) c2 h2)
