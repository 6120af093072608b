-- Names, types by their names, and the words of a declaration (3.2, 5.1, 7.1).
use Rattle.std.proofs.Common.{◌≡◌, ℕ, zero, suc, Bool, true, false, not, if◌then◌else◌, List, [], ◌∷◌, length, map, Option, Some, None, slice_get, refl, sym, ap, subst, ◌∙◌}
use Rattle.cf_types.specs.declared.ty.Ty.TheVariants as ty
use Rattle.cf_lookup.specs.Scope.{found, found_in}
use Rattle.cf_syntax.specs.declared.name.Last.{Last}
use Rattle.cf_syntax.specs.declared.name.Last.TheVariants as last
use Rattle.cf_syntax.specs.declared.name.Name.{Name as WrittenName}
use Rattle.cf_syntax.specs.declared.name.Path.{Path}
use Rattle.cf_syntax.specs.declared.specifier.ClassKey.{ClassKey}
use Rattle.cf_syntax.specs.declared.specifier.ClassKey.TheVariants as key_form
use Rattle.cf_syntax.specs.declared.specifier.TypeSpecifier.{TypeSpecifier}
use Rattle.cf_syntax.specs.declared.specifier.TypeSpecifier.TheVariants as specifier
use Rattle.cf_elab.specs.Answer.{Elab, Made, onward, need, gives, each}
use Rattle.cf_elab.specs.Built as built
use Rattle.cf_elab.specs.Declarator.{word_of, words_of, of_key}
use Rattle.cf_elab.specs.Env.{Env, Name, Entity, object, functions, alias, class_name, enum_name, enumerator}
use Rattle.cf_elab.specs.Made.{intern, of_kind, const_if}
use Rattle.cf_elab.specs.Members.{class_of_body, classes_around, outwards, innermost}
use Rattle.cf_elab.specs.Names.{entity_of, type_of_entity, operand_of, some_main, key}
use Rattle.cf_elab.specs.Operand.{Operand, functions as named_functions, sort_of}
use Rattle.cf_elab.specs.Paths.{Found, entity, types_in, block_scopes, around_or_type_of_file, type_around, type_found, type_at, type_at_path, keyed_type, type_behind_key, found_alone, operand_found, named, name_of_scopes, named_in_class, in_class_alone}
use Rattle.cf_elab.specs.Specifiers.{type_word, Gathered, basic_kind, base_type}
use Rattle.cf_elab_env.proofs.Finding.{found-alone}
use Rattle.cf_elab_valid.specs.Scene.{Classless}
use Rattle.cf_elab_valid.proofs.Named.{first-none}
use Rattle.cf_elab_valid.proofs.Options.{never_none}
use Rattle.cf_elab_valid_objects.specs.Quiet.{QuietIn, QuietOperand}
use Rattle.cf_elab_valid_objects.proofs.Consts.{const_if-quiet}
use Rattle.cf_elab_valid_objects.proofs.Steps.{quiet-none, quiet-onward, intern-quiet, of_kind-quiet}

-- ---- values

operand_of-quiet : (at : ℕ) (o : Option Entity) (e : Env) → Classless e → QuietOperand e (operand_of at o e)
operand_of-quiet at None e c = tt
operand_of-quiet at (Some (object x)) e c = (quiet-none e c, tt)
operand_of-quiet at (Some (functions fs)) e c = by (some_main e fs)
  where
    by : (m : Bool) → QuietOperand e (onward (need (not m) 11 at e) (λ _ g. Made (named_functions at fs) g))
    by true = tt
    by false = (quiet-none e c, tt)
operand_of-quiet at (Some (alias t)) e c = tt
operand_of-quiet at (Some (class_name k)) e c = tt
operand_of-quiet at (Some (enum_name n)) e c = tt
operand_of-quiet at (Some (enumerator t z)) e c = (quiet-none e c, tt)

name-quiet : (at : ℕ) (name : Name) (e : Env) → Classless e → QuietOperand e (operand_found at (found_alone e false name) e)
name-quiet at name e c =
    subst (λ f. QuietOperand e (operand_found at f e)) (sym (found-alone e name c.none_open c.no_body)) (operand_of-quiet at (entity_of e (found name e.scopes)) e c)

pub identifier-quiet : (n : WrittenName) (e : Env) → built.of_name n ≡ None → Classless e → QuietOperand e (named n e)
identifier-quiet n e b c = by n.from_file n.scopes n.last b
  where
    by : (file : Bool) (scopes : List Name) (l : Last) → (if built.is_qualified file scopes then Some n.at else built.of_last n.at l) ≡ None
        → QuietOperand e ((elim scopes as (λ _. Elab Operand) [ [] ↦ (λ env. operand_found n.last_at (found_alone env file (key l)) env) | q ∷ qs ↦ name_of_scopes n (q ∷ qs) ]) e)
    by true scopes l q = never_none n.at q
    by false (x ∷ xs) l q = never_none n.at q
    by false [] (last.Ident name) q = name-quiet n.last_at name e c
    by false [] (last.Destructor name) q = never_none n.at q
    by false [] (last.Operator o) q = never_none n.at q
    by false [] (last.Conversion specifiers pointers) q = never_none n.at q

pub alone-name : (n : WrittenName) → built.of_name n ≡ None → named_in_class n ≡ None
alone-name n b = by n.from_file n.scopes b
  where
    by : (file : Bool) (scopes : List Name) → (if built.is_qualified file scopes then Some n.at else built.of_last n.at n.last) ≡ None
        → (elim scopes as (λ _. Option (Elab Operand)) [ [] ↦ None | q ∷ qs ↦ Some (in_class_alone n q qs) ]) ≡ None
    by file [] q = refl
    by true (x ∷ xs) q = never_none n.at q
    by false (x ∷ xs) q = never_none n.at q

-- ---- types

no_class_around : (e : Env) → Classless e → classes_around e ≡ []
no_class_around e c =
    ap (λ o. outwards e.classes (length e.classes.labels) (innermost o (class_of_body e.hand.kind))) c.none_open
    ∙ ap (λ k. outwards e.classes (length e.classes.labels) k) c.no_body ∙ none (length e.classes.labels)
  where
    none : (n : ℕ) → outwards e.classes n None ≡ []
    none zero = refl
    none (suc n) = refl

type_of_entity-quiet : (at : ℕ) (o : Option Entity) (e : Env) → Classless e → ((k : ℕ) → o ≡ Some (class_name k) → ⊥) → QuietIn e (type_of_entity at o e)
type_of_entity-quiet at None e c n = tt
type_of_entity-quiet at (Some (object x)) e c n = tt
type_of_entity-quiet at (Some (functions fs)) e c n = tt
type_of_entity-quiet at (Some (alias t)) e c n = quiet-none e c
type_of_entity-quiet at (Some (class_name k)) e c n = absurd (n k refl)
type_of_entity-quiet at (Some (enum_name m)) e c n = intern-quiet (ty.Enum m) e refl c
type_of_entity-quiet at (Some (enumerator t z)) e c n = tt

number-quiet : (at : ℕ) (o : Option ℕ) (e : Env) → Classless e → QuietIn e (type_found at (entity (entity_of e o)) e)
number-quiet at None e c = tt
number-quiet at (Some n) e c = type_of_entity-quiet at (slice_get e.entities n) e c (λ k is. c.no_name n k is)

pub path-quiet : (path : Path) (e : Env) → built.of_path path ≡ None → Classless e → QuietIn e (type_at_path path e)
path-quiet path e b c = by path.from_file path.names b
  where
    by : (file : Bool) (names : List Name) → (if built.is_qualified file (built.behind_first names) then Some path.at else None) ≡ None → QuietIn e (type_at path.at file names e)
    by file [] q = tt
    by true (n ∷ ns) q = never_none path.at q
    by false (n ∷ m ∷ rest) q = never_none path.at q
    by false (n ∷ []) q = subst (λ f. QuietIn e (type_found path.at f e)) (sym (found-alone e n c.none_open c.no_body)) (number-quiet path.at (found n e.scopes) e c)

keyed-quiet : (path : Path) (e : Env) → built.of_path path ≡ None → Classless e → QuietIn e (keyed_type path e)
keyed-quiet path e b c = by path.names b
  where
    keyed : List Name → Elab ℕ
    keyed (n ∷ []) = λ env. type_found path.at (type_behind_key env path.from_file n) env
    keyed names = type_at_path path

    found_key : (n : Name) (o : Option ℕ) → QuietIn e (type_found path.at (elim o as (λ _. Found) [ None ↦ around_or_type_of_file e n (type_around e n (classes_around e)) | Some x ↦ entity (entity_of e (Some x)) ]) e)
    found_key n (Some x) = number-quiet path.at (Some x) e c
    found_key n None = subst (λ l. QuietIn e (type_found path.at (around_or_type_of_file e n (type_around e n l)) e)) (sym (no_class_around e c)) (number-quiet path.at _ e c)

    by_file : (n : Name) (file : Bool) → (if built.is_qualified file (built.behind_first (n ∷ [])) then Some path.at else None) ≡ None → QuietIn e (type_found path.at (type_behind_key e file n) e)
    by_file n true q = never_none path.at q
    by_file n false q = found_key n (found_in n (map (types_in e) (block_scopes e.scopes)))

    by : (names : List Name) → (if built.is_qualified path.from_file (built.behind_first names) then Some path.at else None) ≡ None → QuietIn e (keyed names e)
    by [] q = path-quiet path e b c
    by (n ∷ m ∷ rest) q = path-quiet path e b c
    by (n ∷ []) q = by_file n path.from_file q

-- ---- words

word-quiet : (x : TypeSpecifier) (e : Env) → built.of_specifier x ≡ None → Classless e → QuietIn e (word_of x e)
word-quiet (specifier.Storage at x) e b c = quiet-none e c
word-quiet (specifier.Const at) e b c = quiet-none e c
word-quiet (specifier.Basic at x) e b c = quiet-none e c
word-quiet (specifier.Named path) e b c = quiet-onward e (type_at_path path e) _ c (path-quiet path e b c) (λ t f cf. quiet-none f cf)
word-quiet (specifier.Elaborated at k path) e b c =
    quiet-onward e (keyed_type path e) _ c (keyed-quiet path e (unqualified k b) c) (λ t f cf. by t f cf (of_key k (sort_of f.types t)))
  where
    unqualified : (k : ClassKey) → built.of_key at k path ≡ None → built.of_path path ≡ None
    unqualified key_form.Enum q = q
    unqualified k q = never_none at q

    by : (t : ℕ) (f : Env) → Classless f → (m : Bool) → QuietIn f (onward (onward (need m 10 path.at f) (λ _. gives t)) (λ u. gives (type_word at u)))
    by t f cf false = tt
    by t f cf true = quiet-none f cf

pub words-quiet : (xs : List TypeSpecifier) (e : Env) → built.of_specifiers xs ≡ None → Classless e → QuietIn e (words_of xs e)
words-quiet [] e b c = quiet-none e c
words-quiet (x ∷ xs) e b c =
    let split = first-none (built.of_specifier x) (built.of_specifiers xs) b in
    quiet-onward e (word_of x e) _ c (word-quiet x e split.0 c) (λ y f cf. quiet-onward f (each word_of xs f) (λ ys. gives (y ∷ ys)) cf (words-quiet xs f split.1 cf) (λ ys g cg. quiet-none g cg))

pub base-quiet : (g : Gathered) (e : Env) → Classless e → QuietIn e (base_type g e)
base-quiet g e c = by g.named
  where
    constant : (run : Elab ℕ) → QuietIn e (run e) → QuietIn e (onward (run e) (const_if g.is_const))
    constant run q = quiet-onward e (run e) (const_if g.is_const) c q (λ t f cf. const_if-quiet g.is_const t f cf)

    basic : (b : Bool) → QuietIn e (let run : Elab ℕ = if b then intern ty.Void else of_kind (basic_kind g.basics) in run e)
    basic true = intern-quiet ty.Void e refl c
    basic false = of_kind-quiet (basic_kind g.basics) e c

    by : (o : Option ℕ) → QuietIn e (onward ((elim o as (λ _. Elab ℕ) [ None ↦ (if g.basics.voids then intern ty.Void else of_kind (basic_kind g.basics)) | Some t ↦ gives t ]) e) (const_if g.is_const))
    by None = constant (if g.basics.voids then intern ty.Void else of_kind (basic_kind g.basics)) (basic g.basics.voids)
    by (Some t) = constant (gives t) (quiet-none e c)
