-- Types by their names, and by the words of a declaration (3.2, 7.1).
use Rattle.std.proofs.Common.{◌≡◌, ℕ, zero, suc, Bool, true, false, nat_le, is_some, if◌then◌else◌, List, [], ◌∷◌, length, map, Option, Some, None, slice_get, refl, sym, ap, subst, ◌∙◌}
use Rattle.std.specs.Option.{option_or}
use Rattle.cf_types.specs.declared.ty.Ty.TheVariants as ty
use Rattle.cf_lookup.specs.Scope.{found, found_in}
use Rattle.cf_syntax.specs.declared.name.Path.{Path}
use Rattle.cf_syntax.specs.declared.specifier.ClassKey.{ClassKey}
use Rattle.cf_syntax.specs.declared.specifier.ClassKey.TheVariants as key
use Rattle.cf_syntax.specs.declared.specifier.Storage.{Storage}
use Rattle.cf_syntax.specs.declared.specifier.Storage.TheVariants as storage
use Rattle.cf_syntax.specs.declared.specifier.TypeSpecifier.{TypeSpecifier}
use Rattle.cf_syntax.specs.declared.specifier.TypeSpecifier.TheVariants as specifier
use Rattle.cf_elab.specs.Answer.{Elab, onward, need, gives, each}
use Rattle.cf_elab.specs.Built as built
use Rattle.cf_elab.specs.Declarator.{word_of, words_of, of_key}
use Rattle.cf_elab.specs.Env.{Env, Name, Entity, object, functions, alias, class_name, enum_name, enumerator}
use Rattle.cf_elab.specs.Made.{intern, of_kind, const_if}
use Rattle.cf_elab.specs.Members.{class_of_body, classes_around, outwards, innermost}
use Rattle.cf_elab.specs.Names.{entity_of, type_of_entity}
use Rattle.cf_elab.specs.Operand.{sort_of}
use Rattle.cf_elab.specs.Paths.{Found, entity, types_in, block_scopes, around_or_type_of_file, type_around, type_found, type_at, type_at_path, keyed_type, type_behind_key}
use Rattle.cf_elab.specs.Specifiers.{Word, stored_as, const_word, basic_word, type_word, defined_word, Gathered, nothing_gathered, conflicts, with_storage, with_type, with_basic, gathers, gathered_from, gathered, basic_kind, base_type}
use Rattle.cf_elab_env.proofs.Finding.{found-alone}
use Rattle.cf_elab_valid.specs.Answers.{Fine}
use Rattle.cf_elab_valid.specs.Scene.{Scene, IsScene, Steps, Inside, TypeFits, Classless, Holds}
use Rattle.cf_elab_valid.proofs.ConstOf.{IsAlike, const_if-fine}
use Rattle.cf_elab_valid.proofs.Making.{IsType, intern-fine, of_kind-fine}
use Rattle.cf_elab_valid.proofs.Options.{never_none}
use Rattle.cf_elab_valid.proofs.Ways.{fine-as, inside-later, made-fine, onward-fine, within-before, When}

-- a type that is there
abbrev pub IsThere : ℕ → Env → Type 0
IsThere t e = Inside e t

-- ---- names

-- the first of several places is none where each is none
pub first-none : (a b : Option ℕ) → built.first a b ≡ None → (a ≡ None) × (b ≡ None)
first-none None b h = (refl, h)
first-none (Some a) None h = never_none a h
first-none (Some a) (Some b) h = by (nat_le a b) h
  where
    by : (c : Bool) → (if c then Some a else Some b) ≡ None → (Some a ≡ None) × (Some b ≡ None)
    by true h = never_none a h
    by false h = never_none b h

no_class_around : (e : Env) → Classless e → classes_around e ≡ []
no_class_around e c =
    ap (λ o. outwards e.classes (length e.classes.labels) (innermost o (class_of_body e.hand.kind))) c.none_open
    ∙ ap (λ k. outwards e.classes (length e.classes.labels) k) c.no_body ∙ none (length e.classes.labels)
  where
    none : (n : ℕ) → outwards e.classes n None ≡ []
    none zero = refl
    none (suc n) = refl

module _ (s : Scene) where
  type_of_entity-fine : (at : ℕ) (o : Option Entity) (e : Env) → Classless e → When s e (Holds s e) → ((k : ℕ) → o ≡ Some (class_name k) → ⊥) → When s e ((x : Entity) → o ≡ Some x → TypeFits e x)
      → Fine s IsThere e (type_of_entity at o e)
  type_of_entity-fine at None e c h no_class f = tt
  type_of_entity-fine at (Some (object x)) e c h no_class f = tt
  type_of_entity-fine at (Some (functions fs)) e c h no_class f = tt
  type_of_entity-fine at (Some (alias t)) e c h no_class f = made-fine s IsThere e t c h (λ w. f w (alias t) refl)
  type_of_entity-fine at (Some (class_name k)) e c h no_class f = absurd (no_class k refl)
  type_of_entity-fine at (Some (enum_name n)) e c h no_class f =
      fine-as s (IsType (ty.Enum n)) IsThere e (intern (ty.Enum n) e) (λ u b is. is.inside) (intern-fine s (ty.Enum n) e refl (λ w. f w (enum_name n) refl) c h)
  type_of_entity-fine at (Some (enumerator t z)) e c h no_class f = tt

  -- by the number of what is found
  number-fine : (at : ℕ) (o : Option ℕ) (e : Env) → Classless e → When s e (Holds s e) → Fine s IsThere e (type_found at (entity (entity_of e o)) e)
  number-fine at None e c h = tt
  number-fine at (Some n) e c h = type_of_entity-fine at (slice_get e.entities n) e c h (λ k is. c.no_name n k is) (λ w x is. (h w).named_types n x is)

  pub path-fine : (path : Path) (e : Env) → built.of_path path ≡ None → Classless e → When s e (Holds s e) → Fine s IsThere e (type_at_path path e)
  path-fine path e b c h = by path.from_file path.names b
    where
      by : (file : Bool) (names : List Name) → (if built.is_qualified file (built.behind_first names) then Some path.at else None) ≡ None → Fine s IsThere e (type_at path.at file names e)
      by file [] q = tt
      by true (n ∷ ns) q = never_none path.at q
      by false (n ∷ m ∷ rest) q = never_none path.at q
      by false (n ∷ []) q =
          subst (λ f. Fine s IsThere e (type_found path.at f e)) (sym (found-alone e n c.none_open c.no_body)) (number-fine path.at (found n e.scopes) e c h)

  keyed-fine : (path : Path) (e : Env) → built.of_path path ≡ None → Classless e → When s e (Holds s e) → Fine s IsThere e (keyed_type path e)
  keyed-fine path e b c h = by path.names b
    where
      keyed : List Name → Elab ℕ
      keyed (n ∷ []) = λ env. type_found path.at (type_behind_key env path.from_file n) env
      keyed names = type_at_path path

      found_key : (n : Name) (o : Option ℕ) → Fine s IsThere e (type_found path.at (elim o as (λ _. Found) [ None ↦ around_or_type_of_file e n (type_around e n (classes_around e)) | Some x ↦ entity (entity_of e (Some x)) ]) e)
      found_key n (Some x) = number-fine path.at (Some x) e c h
      found_key n None =
          subst (λ l. Fine s IsThere e (type_found path.at (around_or_type_of_file e n (type_around e n l)) e)) (sym (no_class_around e c)) (number-fine path.at _ e c h)

      by_file : (n : Name) (file : Bool) → (if built.is_qualified file (built.behind_first (n ∷ [])) then Some path.at else None) ≡ None → Fine s IsThere e (type_found path.at (type_behind_key e file n) e)
      by_file n true q = never_none path.at q
      by_file n false q = found_key n (found_in n (map (types_in e) (block_scopes e.scopes)))

      by : (names : List Name) → (if built.is_qualified path.from_file (built.behind_first names) then Some path.at else None) ≡ None → Fine s IsThere e (keyed names e)
      by [] q = path-fine path e b c h
      by (n ∷ m ∷ rest) q = path-fine path e b c h
      by (n ∷ []) q = by_file n path.from_file q

-- ---- words

abbrev pub WordFits : Word → Env → Type 0
WordFits (type_word at t) e = Inside e t
WordFits (defined_word at t) e = Inside e t
WordFits other e = Unit {0}

abbrev pub WordsFit : List Word → Env → Type 0
WordsFit [] e = Unit {0}
WordsFit (w ∷ ws) e = WordFits w e × WordsFit ws e

pub word-later : (a b : Env) (x : Word) → Steps a b → WordFits x a → WordFits x b
word-later a b (type_word at t) g f = inside-later a b t g f
word-later a b (defined_word at t) g f = inside-later a b t g f
word-later a b (stored_as at x) g f = tt
word-later a b (const_word at) g f = tt
word-later a b (basic_word at x) g f = tt

pub words-later : (a b : Env) (ws : List Word) → Steps a b → WordsFit ws a → WordsFit ws b
words-later a b [] g f = tt
words-later a b (x ∷ xs) g f = (word-later a b x g f.0, words-later a b xs g f.1)

module _ (s : Scene) where
  pub word-fine : (x : TypeSpecifier) (e : Env) → built.of_specifier x ≡ None → Classless e → When s e (Holds s e) → Fine s WordFits e (word_of x e)
  word-fine (specifier.Storage at x) e b c h = made-fine s WordFits e (stored_as at x) c h (λ w. tt)
  word-fine (specifier.Const at) e b c h = made-fine s WordFits e (const_word at) c h (λ w. tt)
  word-fine (specifier.Basic at x) e b c h = made-fine s WordFits e (basic_word at x) c h (λ w. tt)
  word-fine (specifier.Named path) e b c h =
      onward-fine s IsThere WordFits e (type_at_path path e) (λ t. gives (type_word path.at t)) (path-fine s path e b c h) (λ t e1 g c1 h1 it. made-fine s WordFits e1 (type_word path.at t) c1 h1 it)
  word-fine (specifier.Elaborated at k path) e b c h =
      onward-fine s IsThere WordFits e (keyed_type path e) _ (keyed-fine s path e (unqualified k b) c h) (λ t e1 g c1 h1 it. by t e1 c1 h1 it (of_key k (sort_of e1.types t)))
    where
      unqualified : (k : ClassKey) → built.of_key at k path ≡ None → built.of_path path ≡ None
      unqualified key.Enum q = q
      unqualified k q = never_none at q

      by : (t : ℕ) (e1 : Env) → Classless e1 → When s e1 (Holds s e1) → When s e1 (IsThere t e1) → (m : Bool)
          → Fine s WordFits e1 (onward (onward (need m 10 path.at e1) (λ _. gives t)) (λ u. gives (type_word at u)))
      by t e1 c1 h1 it false = tt
      by t e1 c1 h1 it true = made-fine s WordFits e1 (type_word at t) c1 h1 it

  pub words-fine : (xs : List TypeSpecifier) (e : Env) → built.of_specifiers xs ≡ None → Classless e → When s e (Holds s e) → Fine s WordsFit e (words_of xs e)
  words-fine [] e b c h = made-fine s WordsFit e [] c h (λ w. tt)
  words-fine (x ∷ xs) e b c h =
      onward-fine s WordFits WordsFit e (word_of x e) _ (word-fine x e (first-none (built.of_specifier x) (built.of_specifiers xs) b).0 c h)
      (λ y e1 g c1 h1 fy. onward-fine s WordsFit WordsFit e1 (each word_of xs e1) (λ ys. gives (y ∷ ys)) (words-fine xs e1 (first-none (built.of_specifier x) (built.of_specifiers xs) b).1 c1 h1)
      (λ ys e2 g2 c2 h2 fys. made-fine s WordsFit e2 (y ∷ ys) c2 h2 (λ w. (word-later e1 e2 y g2 (fy (within-before e1 e2 s g2 w)), fys w))))

-- ---- the specifiers together

abbrev pub NamedFits : Gathered → Env → Type 0
NamedFits g e = (t : ℕ) → g.named ≡ Some t → Inside e t

conflict_named : (b : Bool) (at : ℕ) (g : Gathered) → (conflicts b at g).named ≡ g.named
conflict_named true at g = refl
conflict_named false at g = refl

storage_named : (at : ℕ) (x : Storage) (g : Gathered) → (with_storage at x g).named ≡ g.named
storage_named at storage.Inline g = refl
storage_named at storage.Virtual g = refl
storage_named at storage.Friend g = refl
storage_named at x g = conflict_named (is_some g.storage) at (record g { storage = option_or g.storage (Some (at, x)) })

type_named : (at t : ℕ) (g : Gathered) (e : Env) → NamedFits g e → Inside e t → NamedFits (with_type at t g) e
type_named at t g e n i u is = by g.named refl (sym (conflict_named _ at (record g { named = option_or g.named (Some t) })) ∙ is)
  where
    by : (o : Option ℕ) → g.named ≡ o → option_or o (Some t) ≡ Some u → Inside e u
    by None told same = let eq : t ≡ u = cc in subst (Inside e) eq i
    by (Some v) told same = n u (told ∙ same)

word_named : (g : Gathered) (x : Word) (e : Env) → NamedFits g e → WordFits x e → NamedFits (gathers g x) e
word_named g (stored_as at x) e n f t is = n t (sym (storage_named at x (record g { is_empty = false })) ∙ is)
word_named g (const_word at) e n f t is = n t is
word_named g (basic_word at x) e n f t is = n t (sym (conflict_named _ at (record g { basics = with_basic x g.basics; is_empty = false })) ∙ is)
word_named g (type_word at u) e n f t is = type_named at u (record g { is_empty = false }) e n f t is
word_named g (defined_word at u) e n f t is = type_named at u (record g { is_empty = false }) e n f t is

all_named : (g : Gathered) (xs : List Word) (e : Env) → NamedFits g e → WordsFit xs e → NamedFits (gathered_from g xs) e
all_named g [] e n f = n
all_named g (x ∷ xs) e n f = all_named (gathers g x) xs e (word_named g x e n f.0) f.1

pub gathered_named : (xs : List Word) (e : Env) → WordsFit xs e → NamedFits (gathered xs) e
gathered_named xs e f = all_named nothing_gathered xs e (λ t is. never_none t (sym is)) f

module _ (s : Scene) (scene : IsScene s) where
  pub base-fine : (g : Gathered) (e : Env) → Classless e → When s e (Holds s e) → When s e (NamedFits g e) → Fine s IsThere e (base_type g e)
  base-fine g e c h n = by g.named refl
    where
      constant : (run : Elab ℕ) → Fine s IsThere e (run e) → Fine s IsThere e (onward (run e) (const_if g.is_const))
      constant run f =
          onward-fine s IsThere IsThere e (run e) (const_if g.is_const) f
          (λ t e1 k c1 h1 it. fine-as s (IsAlike s t) IsThere e1 (const_if g.is_const t e1) (λ u b q. q.inside) (const_if-fine s scene g.is_const t e1 c1 h1 it))

      basic : (b : Bool) → Fine s IsThere e (let run : Elab ℕ = if b then intern ty.Void else of_kind (basic_kind g.basics) in run e)
      basic true = fine-as s (IsType ty.Void) IsThere e (intern ty.Void e) (λ u b is. is.inside) (intern-fine s ty.Void e refl (λ w. tt) c h)
      basic false = fine-as s (IsType (ty.Int (basic_kind g.basics))) IsThere e (of_kind (basic_kind g.basics) e) (λ u b is. is.inside) (of_kind-fine s (basic_kind g.basics) e c h)

      by : (o : Option ℕ) → g.named ≡ o → Fine s IsThere e (onward ((elim o as (λ _. Elab ℕ) [ None ↦ (if g.basics.voids then intern ty.Void else of_kind (basic_kind g.basics)) | Some t ↦ gives t ]) e) (const_if g.is_const))
      by None is = constant (if g.basics.voids then intern ty.Void else of_kind (basic_kind g.basics)) (basic g.basics.voids)
      by (Some t) is = constant (gives t) (made-fine s IsThere e t c h (λ w. n w t is))
