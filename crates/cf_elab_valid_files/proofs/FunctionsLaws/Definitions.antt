-- Functions with a body by their trees (8.3).
use Rattle.std.proofs.Common.{◌≡◌, ℕ, zero, ◌+◌, ◌<◌, Bool, true, false, not, ◌&&◌, is_some, List, [], ◌∷◌, ◌++◌, length, map, Option, Some, None, slice_get, refl, sym, ap, subst, ◌∙◌, arith, length-append}
use Rattle.std.specs.Option.{option_map_or}
use Rattle.std.proofs.lemmas.Option.{slice_get_within}
use Rattle.cf_base.specs.declared.kind.Kind.TheVariants as kind
use Rattle.cf_types.specs.declared.ty.Ty.{Ty}
use Rattle.cf_types.specs.declared.ty.Ty.TheVariants as ty
use Rattle.cf_syntax.specs.declared.name.Last.{Last}
use Rattle.cf_syntax.specs.declared.name.Last.TheVariants as last
use Rattle.cf_syntax.specs.declared.name.Name.{Name as WrittenName}
use Rattle.cf_unit.specs.declared.class.FunctionDef.{FunctionDef, out-FunctionDef}
use Rattle.cf_unit.specs.declared.class.Member.TheFolds.{fold_out-FunctionDef}
use Rattle.cf_unit.specs.declared.specifier.Specifier.{Specifier}
use Rattle.cf_unit.specs.declared.statement.Stmt.{Stmt}
use Rattle.cf_core_typed.proofs.Same.{and-left, and-right}
use Rattle.cf_elab.specs.Answer.{Answer, Made, Refused, Passed, Elab, onward, need, none_at}
use Rattle.cf_elab.specs.Built as built
use Rattle.cf_elab.specs.Built.{Place}
use Rattle.cf_elab.specs.Bodies.{WrittenInit}
use Rattle.cf_elab.specs.Declaration.{parameters_of, declares_function, function_says}
use Rattle.cf_elab.specs.Declaration as declaration_row
use Rattle.cf_elab.specs.Declarator.{Declared}
use Rattle.cf_elab.specs.Definition as row
use Rattle.cf_elab.specs.Complete.{types_within}
use Rattle.cf_elab.specs.Definition.{body_of, definition_conflict, are_some}
use Rattle.cf_elab.specs.Env.{Env, FunctionEntry}
use Rattle.cf_elab.specs.Expression.{declared}
use Rattle.cf_elab.specs.Functions.{declare_function}
use Rattle.cf_elab.specs.Made.{int, same_ty, place_in, entered_type, intern}
use Rattle.cf_elab.specs.Shape.{Parameter, Shape, function_of, nowhere, Shaped, whole, unbounded, typed, bounds_constant}
use Rattle.cf_elab.specs.Specifiers.{Gathered, gathered, base_type}
use Rattle.cf_elab.specs.Statement.{Made as MadeOf}
use Rattle.cf_elab.specs.Trees as tree
use Rattle.cf_elab.specs.Trees.{MemberRow, SpecifierRow, ClassRow, FunctionRow, DeclarationRow, init_of}
use Rattle.cf_elab_valid.specs.Answers.{Fine}
use Rattle.cf_elab_valid.specs.Constants.{all_of, declarator_fits}
use Rattle.cf_elab_valid.specs.Scene.{Scene, IsScene, Steps, Within, Inside, Classless, Holds}
use Rattle.cf_elab_valid.specs.Statements.{is_outermost, AreStatements}
use Rattle.cf_elab_valid.proofs.Expressions.{declarator-shape}
use Rattle.cf_elab_valid.proofs.FitRows.{Still, needed, still-fine}
use Rattle.cf_elab_valid.proofs.Making.{IsType, place-sound, of_kind-fine}
use Rattle.cf_elab_valid.proofs.Named.{IsThere, WordsFit, NamedFits, gathered_named, base-fine, first-none}
use Rattle.cf_elab_valid.proofs.Options.{some_is}
use Rattle.cf_elab_valid.proofs.Shapes.{NoDefaults, ParametersThere, IsPlainShape, ShapeThere, shape-later, ShapedThere, typed-fine, bounds_still, IsShape, none_still}
use Rattle.cf_elab_valid.proofs.Ways.{as-then, begins-longer, fine-before, made-fine, onward-fine, steps-through, within-before, When}
use Rattle.cf_elab_valid_files.proofs.StaticsLaws.Names.{Any}
use Rattle.cf_elab_valid_files.proofs.DeclarationsLaws.Declarators.{name-built, no-scopes, function-plain, function-params}
use Rattle.cf_elab_valid_files.proofs.DeclarationsLaws.Entering.{still-alone}
use Rattle.cf_elab_valid_files.proofs.DeclarationsLaws.Functions.{IsFun, fun-later, declared-fine}
use Rattle.cf_elab_valid_files.proofs.DeclarationsLaws.Rows.{named-fits-later}
use Rattle.cf_elab_valid_files.proofs.DeclarationsLaws.Words.{AreSpecifiers, words-then, within-still}
use Rattle.cf_elab_valid_files.specs.Bodies.Laws.{statement_place, IsEnd, ConstantsAreApart}
use Rattle.cf_elab_valid_files.specs.Bodies.Trees as well
use Rattle.cf_elab_valid_files.specs.Bodies.Trees.{Told, is_whole, statement_told, specifier_fits, function_fits}
use Rattle.cf_elab_valid_files.proofs.BodiesLaws.Bodies.{specifier, specifier_place, whole-told, statement-law, specifier-of}
use Rattle.cf_elab_valid_files.specs.Functions.Laws.{function_place, IsFileEnd}
use Rattle.cf_elab_valid_files.proofs.FunctionsLaws.Hands.{defined-fine}
use Rattle.cf_elab_valid_files.proofs.FunctionsLaws.Shaped.{FunShaped, function-shaped}

-- ---- a type that was made is there

abbrev IsSome : Answer ℕ → Type 0
IsSome (Made t f) = zero < length f.types.types
IsSome (Refused rule at) = Unit {0}
IsSome (Passed bound most) = Unit {0}

intern-some : (t : Ty) (e : Env) → IsSome (intern t e)
intern-some t e = by (place_in (same_ty t) 0 e.types.types) refl
  where
    by : (o : Option ℕ) → place_in (same_ty t) 0 e.types.types ≡ o → IsSome (Made (entered_type e.types t o).0 (record e { types = (entered_type e.types t o).1 }))
    by (Some n) found = let r = place-sound (same_ty t) 0 e.types.types n found in let inside = slice_get_within e.types.types r.index r.item r.here in omega (arith, inside)
    by None found = omega (arith, length-append e.types.types (t ∷ []))

-- ---- checks

inits-still : (is : List WrittenInit) (e : Env) → Still e (row.no_initialisers is e)
inits-still [] e = refl
inits-still (i ∷ is) e = tt

plain-still : (l : Last) (at : ℕ) (e : Env) → Still e (declaration_row.need_plain_name l at e)
plain-still (last.Conversion specifiers pointers) at e = tt
plain-still (last.Destructor name) at e = tt
plain-still (last.Ident name) at e = refl
plain-still (last.Operator n) at e = refl

module _ (s : Scene) (end : IsFileEnd s) (body_at : ℕ) (ss : List (Elab MadeOf)) (statements : (z : Scene) → IsEnd z → (n : ℕ) (m : Bool) → AreStatements z n m ss) where
  -- ---- by the number of the function

  entry-fine : (ps : List Parameter) (k : ℕ) (e : Env) → zero < length e.types.types → Classless e → When s e (Holds s e) → When s e (ParametersThere ps e) → Fine s Any e (row.define_function ps (body_of body_at ss) (slice_get e.entries k) e)
  entry-fine ps k e some c h f = by (slice_get e.entries k) refl
    where
      by : (o : Option FunctionEntry) → slice_get e.entries k ≡ o → Fine s Any e (row.define_function ps (body_of body_at ss) o e)
      by None there = made-fine s Any e tt c h (λ w. tt)
      by (Some x) there = defined-fine s end e x body_at ss ps statements some c h k there f

  -- ---- by the type of its declarator

  module _ (count : ℕ) (g : Gathered) (at : ℕ) (x : Shape) (inits : List WrittenInit) (n : WrittenName) (plain : IsPlainShape x) where
    abbrev declares : List Parameter → ℕ → Env → Answer (Unit {0})
    declares ps t e =
        onward (bounds_constant x e)
        (λ _ f. onward (declaration_row.need_plain_name n.last n.last_at f)
        (λ _ f. onward (int f)
        (λ i f. onward (declare_function i (function_says g n t x true (are_some inits)) f)
        (λ k f. onward (row.no_initialisers inits f)
        (λ _ f. onward (types_within count f)
        (λ _ f. row.define_function ps (body_of body_at ss) (slice_get f.entries k) f))))))

    parameters-plain : NoDefaults (parameters_of x)
    parameters-plain = by (function_of x) refl
      where
        by : (o : Option (List Parameter)) → function_of x ≡ o → NoDefaults (option_map_or (λ ps. ps) o [])
        by None is = tt
        by (Some ps) is = function-plain x ps is plain

    declares-fine : (ps : List Parameter) (t : ℕ) (e : Env) → function_of x ≡ Some ps → Classless e → When s e (Holds s e) → When s e (ShapeThere x e) → When s e (IsFun e t) → Fine s Any e (declares ps t e)
    declares-fine ps t e is c h f fun =
        still-fine s Any e (bounds_constant x e) _ (bounds_still s end.scene x e)
        (still-fine s Any e (declaration_row.need_plain_name n.last n.last_at e) _ (plain-still n.last n.last_at e) (typed-int (int e) (of_kind-fine s kind.Int e c h) (intern-some (ty.Int kind.Int) e)))
      where
        typed-int : (r : Answer ℕ) → Fine s (IsType (ty.Int kind.Int)) e r → IsSome r → Fine s Any e (onward r (λ i f. onward (declare_function i (function_says g n t x true (are_some inits)) f)
            (λ k f. onward (row.no_initialisers inits f)
            (λ _ f. onward (types_within count f)
            (λ _ f. row.define_function ps (body_of body_at ss) (slice_get f.entries k) f)))))
        typed-int (Made i e1) q some =
            fine-before s Any e e1 _ q.steps
            (onward-fine s Any Any e1 (declare_function i (function_says g n t x true (are_some inits)) e1) _
            (declared-fine s end.scene (function_says g n t x true (are_some inits)) i e1 parameters-plain q.classless q.holds (λ w. fun-later e e1 t q.steps (fun (within-before e e1 s q.steps w))))
            (λ k e2 g2 c2 h2 any. still-fine s Any e2 (row.no_initialisers inits e2) _ (inits-still inits e2)
            (still-fine s Any e2 (types_within count e2) _ (within-still s end.scene count e2)
            (entry-fine ps k e2 (let longer = begins-longer e1.types.types e2.types.types g2.types in omega (arith, some, longer)) c2 h2
            (λ w. let step = steps-through e e1 e2 q.steps g2 in function-params x ps e2 is (shape-later e e2 x step (f (within-before e e2 s step w))))))))
        typed-int (Refused rule place) q some = tt
        typed-int (Passed bound most) q some = tt

    abbrev shaped : Option (List Parameter) → Shaped → Env → Answer (Unit {0})
    shaped o y e = onward (row.type_of_shaped y e) (λ t f. onward (row.parameters_or n.last_at o f) (λ ps. declares ps t))

    typed-behind : (base : ℕ) (e : Env) → Classless e → When s e (Holds s e) → When s e (ShapeThere x e) → When s e (Inside e base) → Fine s Any e (onward (typed nowhere x base e) (shaped (function_of x)))
    typed-behind base e c h f i = by (function_of x) refl
      where
        by : (o : Option (List Parameter)) → function_of x ≡ o → Fine s Any e (onward (typed nowhere x base e) (shaped o))
        by None is = onward-fine s (ShapedThere s end.scene) Any e (typed nowhere x base e) (shaped None) (typed-fine s end.scene nowhere x base e plain c h f i) (λ y e1 g1 c1 h1 p. refused y e1)
          where
            refused : (y : Shaped) (e1 : Env) → Fine s Any e1 (shaped None y e1)
            refused (whole t) e1 = tt
            refused (unbounded t) e1 = tt
        by (Some ps) is =
            onward-fine s FunShaped Any e (typed nowhere x base e) (shaped (Some ps)) (function-shaped s end.scene nowhere x ps base e is plain c h f i)
            (λ y e1 g1 c1 h1 p. given y e1 c1 h1 (λ w. shape-later e e1 x g1 (f (within-before e e1 s g1 w))) p)
          where
            given : (y : Shaped) (e1 : Env) → Classless e1 → When s e1 (Holds s e1) → When s e1 (ShapeThere x e1) → When s e1 (FunShaped y e1) → Fine s Any e1 (shaped (Some ps) y e1)
            given (whole t) e1 c1 h1 f1 p = declares-fine ps t e1 is c1 h1 f1 p
            given (unbounded t) e1 c1 h1 f1 p = declares-fine ps t e1 is c1 h1 f1 (λ w. absurd (p w))

    named-definition : (e : Env) → Classless e → When s e (Holds s e) → When s e (ShapeThere x e) → When s e (NamedFits g e) → Fine s Any e (row.named_definition count g at x inits (body_of body_at ss) n e)
    named-definition e c h f m =
        onward-fine s IsThere Any e (base_type g e) _ (base-fine s end.scene g e c h m)
        (λ base e1 g1 c1 h1 ib. still-fine s Any e1 (none_at (definition_conflict (declares_function e1 base x) at g) 24 e1) _ (none_still (definition_conflict (declares_function e1 base x) at g) 24 e1)
        (still-fine s Any e1 (declaration_row.unqualified n e1) _ (needed e1 _ 48 n.at)
        (still-fine s Any e1 (declaration_row.no_definition g x e1) _ (none_still _ 26 e1) (typed-behind base e1 c1 h1 (λ w. shape-later e e1 x g1 (f (within-before e e1 s g1 w))) ib))))

  -- ---- by its name

  written-fine : (count : ℕ) (g : Gathered) (at : ℕ) (d : Declared) (inits : List WrittenInit) (e : Env) → IsShape s end.scene d.shape → ((n : WrittenName) → d.name ≡ Some n → n.scopes ≡ []) → Classless e → When s e (Holds s e) → When s e (NamedFits g e)
      → Fine s Any e (row.with_written_name count g at d.shape inits (body_of body_at ss) d.name e)
  written-fine count g at d inits e shape plain_name c h m = by d.name refl
    where
      by : (o : Option WrittenName) → d.name ≡ o → Fine s Any e (row.with_written_name count g at d.shape inits (body_of body_at ss) o e)
      by None is = as-then s IsPlainShape ShapeThere Any e (d.shape e) _ (shape.fine e c h) (λ x e1 plain g1 c1 h1 f. tt)
      by (Some n) is =
          subst (λ l. Fine s Any e (row.definition_of_name count g at d.shape inits (body_of body_at ss) n l e)) (sym (plain_name n is))
          (as-then s IsPlainShape ShapeThere Any e (d.shape e) (λ x. row.named_definition count g at x inits (body_of body_at ss) n) (shape.fine e c h)
          (λ x e1 plain g1 c1 h1 f. named-definition count g at x inits n plain e1 c1 h1 f (λ v. named-fits-later g e e1 g1 (m (within-before e e1 s g1 v)))))

  row-fine : (xs : List SpecifierRow) (at : ℕ) (d : Declared) (inits : List WrittenInit) (e : Env) → AreSpecifiers s xs → IsShape s end.scene d.shape → ((n : WrittenName) → d.name ≡ Some n → n.scopes ≡ []) → Classless e → When s e (Holds s e)
      → Fine s Any e (tree.definition_row xs at d inits (body_of body_at ss) e)
  row-fine xs at d inits e k shape plain_name c h =
      words-then s end.scene Any None xs e _ k c h
      (λ ws later e1 g1 c1 h1 f. onward-fine s Any Any e1 (row.with_written_name (length e.types.types) (gathered ws) at d.shape inits (body_of body_at ss) d.name e1) _
      (written-fine (length e.types.types) (gathered ws) at d inits e1 shape plain_name c1 h1 (λ v. gathered_named ws e1 (f v)))
      (λ u e2 g2 c2 h2 any. still-alone s e2 _ (within-still s end.scene (length e.types.types) e2) c2 h2))

-- ---- by its tree

specifiers-of : (apart : ConstantsAreApart) (s : Scene) → IsScene s → (xs : List Specifier) → built.first_of (map specifier_place xs) ≡ None → all_of (map specifier_fits xs) ≡ true → AreSpecifiers s (map specifier xs)
specifiers-of apart s scene [] b f = tt
specifiers-of apart s scene (x ∷ xs) b f =
    let split = first-none (specifier_place x) (built.first_of (map specifier_place xs)) b in (
      specifier-of apart x split.0 (and-left (specifier_fits x) (all_of (map specifier_fits xs)) f) s scene,
      specifiers-of apart s scene xs split.1 (and-right (specifier_fits x) (all_of (map specifier_fits xs)) f),
    )

statements-of : (apart : ConstantsAreApart) (xs : List Stmt) → built.first_of (map statement_place xs) ≡ None → all_of (map is_whole (map statement_told xs)) ≡ true → (z : Scene) → IsEnd z → (n : ℕ) (m : Bool) → AreStatements z n m (map tree.statement xs)
statements-of apart [] b f z end n m = tt
statements-of apart (x ∷ xs) b f z end n m =
    let rest = all_of (map is_whole (map statement_told xs)) in
    let split = first-none (statement_place x) (built.first_of (map statement_place xs)) b in
    let t = whole-told (statement_told x) (and-left (is_whole (statement_told x)) rest f) in (
      (statement-law apart x split.0 t.0).whole t.1 z end n m,
      statements-of apart xs split.1 (and-right (is_whole (statement_told x)) rest f) z end n m,
    )

pub function-law : ConstantsAreApart → (f : FunctionDef) → function_place f ≡ None → function_fits f ≡ true → (s : Scene) → IsFileEnd s → (e : Env) → is_outermost e.scopes.outer ≡ true → Classless e → When s e (Holds s e)
    → Fine s (λ u g. Unit {0}) e ((tree.definition f).in_file e)
function-law apart f b fits s end e o c h =
    let x = out-FunctionDef f in
    let words = built.first_of (map specifier_place x.specifiers) in
    let body = built.first_of (map statement_place x.body) in
    let inits = built.first_of (map built.of_member_init x.initialisers) in
    let split = first-none words (built.first (built.declarator x.declarator) (built.first inits body))
    (sym (fold_out-FunctionDef Place Place Place Place Place Place built.member_step built.specifier_step built.statement_step built.class_step built.function_step built.declaration_step f) ∙ b) in
    let behind = first-none (built.declarator x.declarator) (built.first inits body) split.1 in
    let last = first-none inits body behind.1 in
    let words_fit = all_of (map specifier_fits x.specifiers) in
    let body_fit = all_of (map is_whole (map statement_told x.body)) in
    let told : (words_fit && (declarator_fits x.declarator && body_fit)) ≡ true =
    sym (fold_out-FunctionDef Bool Bool Told Bool Bool Bool well.member_step well.specifier_step well.statement_step well.class_step well.function_step well.declaration_step f) ∙ fits in
    let tail = and-right words_fit (declarator_fits x.declarator && body_fit) told in
    subst (λ (r : FunctionRow). Fine s Any e (r.in_file e))
    (sym (fold_out-FunctionDef MemberRow SpecifierRow (Elab MadeOf) ClassRow FunctionRow DeclarationRow tree.member_step tree.specifier_step tree.statement_step tree.class_step tree.definition_step tree.declaration_step f))
    (row-fine s end x.body_at (map tree.statement x.body) (statements-of apart x.body last.1 (and-right (declarator_fits x.declarator) body_fit tail)) (map specifier x.specifiers) x.declarator_at (declared x.declarator) (map init_of x.initialisers) e
    (specifiers-of apart s end.scene x.specifiers split.0 (and-left words_fit (declarator_fits x.declarator && body_fit) told))
    (declarator-shape s end.scene x.declarator behind.0 (and-left (declarator_fits x.declarator) body_fit tail)) (λ n is. no-scopes n (name-built x.declarator behind.0 n is)) c h)
