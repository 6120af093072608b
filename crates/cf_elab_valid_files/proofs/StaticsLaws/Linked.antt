-- What is declared with linkage: the same as an object that is declared, else a new one (3.3).
use Rattle.std.proofs.Common.{◌≡◌, ℕ, Bool, true, false, not, ◌==◌, ◌&&◌, ◌||◌, is_some, nat_le, List, [], ◌∷◌, ◌++◌, length, Option, Some, None, slice_get, bytes_eq, refl, sym, ap, subst, ◌∙◌}
use Rattle.std.proofs.lemmas.Bool.{eqb-true}
use Rattle.std.specs.List.{list_any}
use Rattle.cf_base.specs.declared.limit.Bound.TheVariants as bound_of
use Rattle.cf_types.proofs.Places.{get-last}
use Rattle.cf_lookup.specs.Scope.{OpenScopes, in_scope}
use Rattle.cf_core.specs.Types.{is_void}
use Rattle.cf_core_typed.proofs.Same.{and-left, and-right}
use Rattle.cf_elab.specs.Answer.{Answer, Made, Elab, onward, need, gives}
use Rattle.cf_elab.specs.Complete.{within, most_name}
use Rattle.cf_elab.specs.Env.{Env, Name, Entity, Object, object, functions, alias, class_name, enum_name, enumerator}
use Rattle.cf_elab.specs.Names.{declared_here, declare, redeclare}
use Rattle.cf_elab.specs.Objects as row
use Rattle.cf_elab.specs.Objects.{Says, is_static_home, new_object, again, conflicts_linkage, variable_link}
use Rattle.cf_elab_valid.specs.Answers.{Fine}
use Rattle.cf_elab_valid.specs.Scene.{Scene, IsScene, tree, Steps, Within, Inside, EntityFits, Classless, Holds}
use Rattle.cf_elab_valid.proofs.Options.{some_is, never_none}
use Rattle.cf_elab_valid.proofs.Ways.{begins-same, homes-same, fine-as, fine-before, inside-later, made-fine, onward-fine, within-before, When}
use Rattle.cf_elab_valid_objects.proofs.Growing.{holds-unchanged}
use Rattle.cf_elab_valid_objects.proofs.Naming.{found-last, named, named-steps, named-classless, named-holds, renamed}
use Rattle.cf_elab_valid_files.specs.Statics.Linked.{StandsFor}
use Rattle.cf_elab_valid_files.proofs.StaticsLaws.Names.{object_is, replaced-here, bound, bound-steps, bound-classless, bound-holds, redeclared-fine}

none_there : (o : Option ℕ) → o ≡ None → is_some o ≡ false
none_there o h = ap is_some h

-- ---- the list of what has linkage

abbrev pub listed : List (Name × ℕ) → Env → Env
listed l e = record e { linked = l }

listed-steps : (l : List (Name × ℕ)) (e : Env) → Steps e (listed l e)
listed-steps l e = record {
  types = begins-same e.types.types;
  funs = begins-same e.types.funs;
  enums = begins-same e.classes.enums;
  locals = begins-same e.hand.locals;
  statics = begins-same e.statics;
  functions = begins-same e.functions;
  homes = homes-same e.entities;
  hand = record { link = refl; kind = refl; result = refl; breaks = refl; continues = refl };
  outer = refl;
}

-- with another list, what is made is as before
listed-fine : {A : Type 0} (s : Scene) (P : A → Env → Type 0) (l : List (Name × ℕ)) (a : A) (e : Env) → Classless e → When s e (Holds s e) → When s e (P a (listed l e)) → Fine s P e (Made a (listed l e))
listed-fine s P l a e c h p = record {
  steps = listed-steps l e;
  classless = record { none = c.none; none_open = c.none_open; no_body = c.no_body; no_type = c.no_type; no_name = c.no_name; no_defaults = c.no_defaults };
  holds = λ w. let held = h (within-before e (listed l e) s (listed-steps l e) w) in
      holds-unchanged s e (listed l e) (listed-steps l e) (record { types = refl; enums = refl; entities = refl; entries = refl; scopes = refl; functions = refl }) held.statics held;
  made = λ w. p (within-before e (listed l e) s (listed-steps l e) w);
}

no_class_object : (x : Object) (k : ℕ) → object x ≡ class_name k → ⊥
no_class_object x k is = absurd cc

module _ (s : Scene) (scene : IsScene s) (d : Says) where
  abbrev Stands : Object → Env → Type 0
  Stands x f = StandsFor d.name d.type f

  -- ---- a new object

  module _ (e : Env) (fresh : declared_here e d.name ≡ None) (c : Classless e) (h : When s e (Holds s e)) (i : When s e (Inside e d.type)) (n : When s e (is_void (tree s d.type) ≡ false)) where
    abbrev x : Object
    x = new_object e d

    abbrev told : Env
    told = named d.name (object x) e

    abbrev more : List (Name × ℕ)
    more = e.linked ++ (d.name, length e.entities) ∷ []

    told-holds : When s told (Holds s told)
    told-holds w = let early = within-before e told s (named-steps d.name (object x) e) w in named-holds s d.name (object x) e (i early, tt, n early, tt) tt (h early)

    told-stands : StandsFor d.name d.type (listed more told)
    told-stands j y found there =
        let is : length e.entities ≡ j = some_is (length e.entities) j (sym (found-last d.name (length e.entities) e.scopes.inner (none_there (declared_here e d.name) fresh)) ∙ found) in
        let same : x ≡ y = object_is x y (some_is (object x) (object y) (sym (get-last e.entities (object x)) ∙ ap (λ k. slice_get (e.entities ++ object x ∷ []) k) is ∙ there)) in
        ap (λ (o : Object). o.type) (sym same)

    first-fine : Fine s Stands e (row.first_declared d e)
    first-fine = by (e.extent.elsewhere || d.defines || d.is_initialised || list_any (bytes_eq d.name) e.defines) (nat_le (length (variable_link d.name)) most_name)
      where
        by : (b k : Bool) → Fine s Stands e (onward (need b 48 d.at e) (λ _ f. onward (within k bound_of.Names most_name f) (λ _ g. onward (declare d.name (object x) g)
            (λ _ q. Made x (listed (q.linked ++ (d.name, length e.entities) ∷ []) q)))))
        by false k = tt
        by true false = tt
        by true true =
            fine-before s Stands e told (Made x (listed more told)) (named-steps d.name (object x) e)
            (listed-fine s Stands more x told (named-classless d.name (object x) e (no_class_object x) c) told-holds (λ w. told-stands))

  -- ---- an object that is there

  -- the entity of this number is the object, which is of the type
  record IsEntity (k : ℕ) (e : Env) (x : Object) (f : Env) : Type 0 where
    pub here : slice_get f.entities k ≡ Some (object x)
    pub type : x.type ≡ d.type
    pub fits : EntityFits s f (object x)
    pub scopes : f.scopes ≡ e.scopes

  module _ (e : Env) (c : Classless e) (h : When s e (Holds s e)) where
    redeclared-object : (k : ℕ) (x : Object) → slice_get e.entities k ≡ Some (object x) → Fine s (IsEntity k e) e (row.redeclared d k x e)
    redeclared-object k x there = by (is_static_home x.home && (x.type == d.type) && not (x.is_defined && d.defines)) refl (not (conflicts_linkage d x))
      where
        fits : is_static_home x.home ≡ true → When s e (EntityFits s e (object (again d x)))
        fits home w = let f = (h w).outside k x there home in (f.0, f.1, f.2, f.3)

        by : (b : Bool) → (is_static_home x.home && (x.type == d.type) && not (x.is_defined && d.defines)) ≡ b → (m : Bool)
            → Fine s (IsEntity k e) e (onward (need b 8 d.at e) (λ _ f. onward (need m 9 d.at f) (λ _ g. onward (redeclare k (object (again d x)) g) (λ _. gives (again d x)))))
        by false is m = tt
        by true is false = tt
        by true is true =
            let told = and-left (is_static_home x.home && (x.type == d.type)) (not (x.is_defined && d.defines)) is in
            let home = and-left (is_static_home x.home) (x.type == d.type) told in
            let type = eqb-true x.type d.type (and-right (is_static_home x.home) (x.type == d.type) told) in
            onward-fine s (λ u f. IsEntity k e (again d x) f) (IsEntity k e) e (redeclare k (object (again d x)) e) (λ _. gives (again d x))
            (redeclared-fine s (λ u f. IsEntity k e (again d x) f) k (object x) (object (again d x)) e there refl (no_class_object (again d x)) c h (fits home) (λ w. tt)
            (λ w. let f = fits home w in record { here = replaced-here k (object (again d x)) (object x) e.entities there; type = type; fits = (f.0, f.1, f.2, f.3); scopes = refl }))
            (λ u f g c1 h1 p. made-fine s (IsEntity k e) f (again d x) c1 h1 p)

    entity-fine : (k : ℕ) (o : Option Entity) → slice_get e.entities k ≡ o → Fine s (IsEntity k e) e (row.with_entity d k o e)
    entity-fine k (Some (object x)) there = redeclared-object k x there
    entity-fine k (Some (functions fs)) there = tt
    entity-fine k (Some (alias t)) there = tt
    entity-fine k (Some (class_name t)) there = tt
    entity-fine k (Some (enum_name t)) there = tt
    entity-fine k (Some (enumerator t z)) there = tt
    entity-fine k None there = tt

    -- by its name
    here-fine : (k : ℕ) → declared_here e d.name ≡ Some k → Fine s Stands e (row.with_entity d k (slice_get e.entities k) e)
    here-fine k is = fine-as s (IsEntity k e) Stands e (row.with_entity d k (slice_get e.entities k) e) stands (entity-fine k (slice_get e.entities k) refl)
      where
        stands : (x : Object) (f : Env) → IsEntity k e x f → StandsFor d.name d.type f
        stands x f p j y found there =
            let same : k ≡ j = some_is k j (sym is ∙ ap (λ (o : OpenScopes). in_scope d.name o.inner) (sym p.scopes) ∙ found) in
            let eq : x ≡ y = object_is x y (some_is (object x) (object y) (sym p.here ∙ ap (λ i. slice_get f.entities i) same ∙ there)) in
            ap (λ (o : Object). o.type) (sym eq) ∙ p.type

    -- from a block or an earlier scope
    elsewhere-fine : (k : ℕ) → declared_here e d.name ≡ None → Fine s Stands e (row.from_elsewhere d (Some k) e)
    elsewhere-fine k fresh =
        onward-fine s (IsEntity k e) Stands e (row.with_entity d k (slice_get e.entities k) e) (λ x f. Made x (bound d.name k f)) (entity-fine k (slice_get e.entities k) refl)
        (λ x f g c1 h1 p. record {
          steps = bound-steps d.name k f;
          classless = bound-classless d.name k f c1;
          holds = λ w. let early = within-before f (bound d.name k f) s (bound-steps d.name k f) w in bound-holds s d.name k (object x) f (p early).here (p early).fits (h1 early);
          made = λ w. stands x f (p (within-before f (bound d.name k f) s (bound-steps d.name k f) w));
        })
      where
        stands : (x : Object) (f : Env) → IsEntity k e x f → StandsFor d.name d.type (bound d.name k f)
        stands x f p j y found there =
            let none : is_some (declared_here f d.name) ≡ false = none_there (declared_here f d.name) (ap (λ (o : OpenScopes). in_scope d.name o.inner) p.scopes ∙ fresh) in
            let same : k ≡ j = some_is k j (sym (found-last d.name k f.scopes.inner none) ∙ found) in
            let eq : x ≡ y = object_is x y (some_is (object x) (object y) (sym p.here ∙ ap (λ i. slice_get f.entities i) same ∙ there)) in
            ap (λ (o : Object). o.type) (sym eq) ∙ p.type

  -- ---- the row

  pub linked-fine : (e : Env) → Classless e → When s e (Holds s e) → When s e (Inside e d.type) → When s e (is_void (tree s d.type) ≡ false) → Fine s (λ x f. StandsFor d.name d.type f) e (row.declare_linked d e)
  linked-fine e c h i n = by (declared_here e d.name) refl
    where
      by : (o : Option ℕ) → declared_here e d.name ≡ o → Fine s Stands e (row.linked_object d o e)
      by (Some k) is = here-fine e c h k is
      by None is = again-or-new (in_scope d.name e.linked)
        where
          again-or-new : (o : Option ℕ) → Fine s Stands e (row.from_elsewhere d o e)
          again-or-new None = first-fine e is c h i n
          again-or-new (Some k) = elsewhere-fine e c h k is
