-- Names that stand for what was declared before, and numbers that are known of objects (3.3, 5.19).
use Rattle.std.proofs.Common.{◌≡◌, inl, inr, ℕ, zero, suc, ◌<◌, List, [], ◌∷◌, ◌++◌, length, ℤ, Option, Some, None, slice_get, refl, sym, ap, subst, ◌∙◌}
use Rattle.std.proofs.lemmas.Option.{slice_get_within}
use Rattle.cf_elab.specs.Answer.{Made, Elab, done}
use Rattle.cf_elab.specs.Env.{Env, Name, Entity, Object, object, functions, alias, class_name, enum_name, enumerator}
use Rattle.cf_elab.specs.Names.{declared_here, replaced}
use Rattle.cf_elab.specs.Objects.{number_known, set_entity, with_number}
use Rattle.cf_elab_valid.specs.Answers.{Fine}
use Rattle.cf_elab_valid.specs.Scene.{Scene, tree, in_frame, Steps, Within, IsNumbered, IsNumberedIn, IsOpen, EntityFits, TypeFits, HoldsKnown, Classless, Holds}
use Rattle.cf_elab_valid.proofs.Options.{some_is}
use Rattle.cf_elab_valid.proofs.Scopes.{scope-numbered}
use Rattle.cf_elab_valid.proofs.Ways.{begins-same, homes-same, entity-later, named-later, entry-later, made-fine, within-before, When}
use Rattle.cf_elab_valid_objects.proofs.Growing.{part-later}
use Rattle.cf_elab_valid_objects.proofs.Naming.{open-last, renamed, StandsAs, renamed-steps, renamed-classless, renamed-holds}

-- what is there was an object
pub object_is : (x y : Object) → object x ≡ object y → x ≡ y
object_is x y h = cc

pub replaced-here : {A : Type 0} (j : ℕ) (x y : A) (xs : List A) → slice_get xs j ≡ Some y → slice_get (replaced j x xs) j ≡ Some x
replaced-here zero x y [] h = absurd cc
replaced-here (suc j) x y [] h = absurd cc
replaced-here zero x y (z ∷ zs) h = refl
replaced-here (suc j) x y (z ∷ zs) h = replaced-here j x y zs h

-- what the innermost scope has is open
inner-open : (j : ℕ) (outer : List (List (Name × ℕ))) (inner : List (Name × ℕ)) → IsNumbered j inner → IsNumberedIn j (outer ++ inner ∷ [])
inner-open j [] inner h = inl h
inner-open j (x ∷ xs) inner h = inr (inner-open j xs inner h)

pub here-open : (e : Env) (name : Name) (j : ℕ) → declared_here e name ≡ Some j → IsOpen j e.scopes
here-open e name j h = inner-open j e.scopes.outer e.scopes.inner (scope-numbered name e.scopes.inner j h)

-- ---- one more name for an entity

abbrev pub bound : Name → ℕ → Env → Env
bound name k e = record e { scopes = record e.scopes { inner = e.scopes.inner ++ (name, k) ∷ [] } }

pub bound-steps : (name : Name) (k : ℕ) (e : Env) → Steps e (bound name k e)
bound-steps name k e = record {
  types = begins-same e.types.types;
  funs = begins-same e.types.funs;
  enums = begins-same e.classes.enums;
  locals = begins-same e.hand.locals;
  statics = begins-same e.statics;
  functions = begins-same e.functions;
  homes = homes-same e.entities;
  hand = record { link = refl; kind = refl; result = refl; breaks = refl; continues = refl };
  outer = refl;
}

pub bound-classless : (name : Name) (k : ℕ) (e : Env) → Classless e → Classless (bound name k e)
bound-classless name k e c = record { none = c.none; none_open = c.none_open; no_body = c.no_body; no_type = c.no_type; no_name = c.no_name; no_defaults = c.no_defaults }

pub bound-holds : (s : Scene) (name : Name) (k : ℕ) (x : Entity) (e : Env) → slice_get e.entities k ≡ Some x → EntityFits s e x → Holds s e → Holds s (bound name k e)
bound-holds s name k x e at fit h =
    let f = bound name k e in
    let g = bound-steps name k e in record {
      parts = λ t v there. part-later e f v g (h.parts t v there);
      no_outer = h.no_outer;
      entities = λ n y o there. entity-later s e f y g (elim (open-last n k name e.scopes.outer e.scopes.inner o) [
        | inl before ↦ h.entities n y before there
        | inr last ↦ subst (EntityFits s e) (some_is x y (sym at ∙ ap (λ i. slice_get e.entities i) last ∙ there)) fit
      ]);
      named_types = λ n y there. named-later e f y g (h.named_types n y there);
      entries = λ n y there. entry-later s e f y g (h.entries n y there);
      open_there = λ n o. elim (open-last n k name e.scopes.outer e.scopes.inner o) [
        | inl before ↦ h.open_there n before
        | inr last ↦ subst (λ i. i < length e.entities) last (slice_get_within e.entities k x at)
      ];
      outside = λ n y there home. entity-later s e f (object y) g (h.outside n y there home);
      statics = h.statics;
      functions = h.functions;
      result = h.result;
    }

-- ---- an entity that stands for something else

-- nothing more is said
abbrev pub Any : {A : Type 0} → A → Env → Type 0
Any a e = Unit {0}

module _ (s : Scene) where
  pub stands-as : (j : ℕ) (x y : Entity) (e : Env) → slice_get e.entities j ≡ Some x → in_frame y ≡ in_frame x → StandsAs j y e
  stands-as j x y e there same z at = same ∙ ap in_frame (some_is x z (sym there ∙ at))

  pub redeclared-fine : (P : Unit {0} → Env → Type 0) (j : ℕ) (x y : Entity) (e : Env) → slice_get e.entities j ≡ Some x → in_frame y ≡ in_frame x → ((k : ℕ) → y ≡ class_name k → ⊥) → Classless e → When s e (Holds s e)
      → When s e (EntityFits s e y) → When s e (TypeFits e y) → When s e (P tt (renamed j y e)) → Fine s P e (Made tt (renamed j y e))
  redeclared-fine P j x y e there same plain c h fit type p =
      let stands = stands-as j x y e there same in
      let g = renamed-steps j y e stands in record {
        steps = g;
        classless = renamed-classless j y e plain c;
        holds = λ w. let early = within-before e (renamed j y e) s g w in renamed-holds s j y e stands (fit early) (type early) (h early);
        made = λ w. p (within-before e (renamed j y e) s g w);
      }

  -- ---- numbers

  -- what is known of the name's number is one of its type
  abbrev pub NumberFits : Name → Option ℤ → Env → Type 0
  NumberFits name z e = (j : ℕ) (y : Object) → declared_here e name ≡ Some j → slice_get e.entities j ≡ Some (object y) → HoldsKnown z (tree s y.type)

  abbrev by_number : Option ℤ → Option ℕ → Env → Elab (Unit {0})
  by_number z None f = done
  by_number z (Some j) f = set_entity j (with_number z (slice_get f.entities j))

  pub number_known-fine : (name : Name) (z : Option ℤ) (e : Env) → Classless e → When s e (Holds s e) → When s e (NumberFits name z e) → Fine s Any e (number_known name z e)
  number_known-fine name z e c h n = by (declared_here e name) refl
    where
      by : (o : Option ℕ) → declared_here e name ≡ o → Fine s Any e (by_number z o e e)
      by None is = made-fine s Any e tt c h (λ w. tt)
      by (Some j) is = at (slice_get e.entities j) refl
        where
          opened : IsOpen j e.scopes
          opened = here-open e name j is

          again : (x : Entity) → slice_get e.entities j ≡ Some x → Fine s Any e (Made (tt {0}) (renamed j x e))
          again x there =
              redeclared-fine Any j x x e there refl (λ k q. c.no_name j k (there ∙ ap Some q)) c h (λ w. (h w).entities j x opened there) (λ w. (h w).named_types j x there) (λ w. tt)

          at : (o : Option Entity) → slice_get e.entities j ≡ o → Fine s Any e (set_entity j (with_number z o) e)
          at None there = made-fine s Any e tt c h (λ w. tt)
          at (Some (object y)) there =
              redeclared-fine Any j (object y) (object (record y { number = z })) e there refl (λ k q. absurd cc) c h
              (λ w. let f = (h w).entities j (object y) opened there in (f.0, f.1, f.2, n w j y is there)) (λ w. tt) (λ w. tt)
          at (Some (functions fs)) there = again (functions fs) there
          at (Some (alias t)) there = again (alias t) there
          at (Some (class_name k)) there = again (class_name k) there
          at (Some (enum_name k)) there = again (enum_name k) there
          at (Some (enumerator t k)) there = again (enumerator t k) there
