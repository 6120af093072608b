-- Statements and declarations by their trees: an induction over the layers (6, 7).
use Rattle.std.proofs.Common.{◌≡◌, ℕ, Bool, true, false, not, ◌&&◌, List, [], ◌∷◌, map, Option, Some, None, refl, sym, ap, subst, ◌∙◌, true≢false}
use Rattle.std.specs.Option.{option_map}
use Rattle.cf_syntax.specs.declared.expression.Expr.{Expr}
use Rattle.cf_unit.specs.declared.class.ClassDef.{ClassDef, ClassDef-F, fold-ClassDef, roll-ClassDef, map-ClassDef}
use Rattle.cf_unit.specs.declared.class.FunctionDef.{FunctionDef, FunctionDef-F, fold-FunctionDef, roll-FunctionDef, map-FunctionDef}
use Rattle.cf_unit.specs.declared.class.Member.{Member, fold-Member, roll-Member}
use Rattle.cf_unit.specs.declared.class.Member.TheFolds.{fold-roll-Specifier, fold-roll-Stmt, fold-roll-ClassDef, fold-roll-Declaration, map-Member, map-Specifier, map-Stmt}
use Rattle.cf_unit.specs.declared.class.Member.TheOpen.{Member-F, Specifier-F, Stmt-F}
use Rattle.cf_unit.specs.declared.declaration.Declaration.{Declaration, Declaration-F, fold-Declaration, roll-Declaration, map-Declaration, ind-Declaration}
use Rattle.cf_unit.specs.declared.declaration.InitDeclarator.{InitDeclarator}
use Rattle.cf_unit.specs.declared.enumeration.EnumDef.{EnumDef}
use Rattle.cf_unit.specs.declared.enumeration.Enumerator.{Enumerator}
use Rattle.cf_unit.specs.declared.specifier.Specifier.{Specifier, fold-Specifier, roll-Specifier, ind-Specifier}
use Rattle.cf_unit.specs.declared.statement.Stmt.{Stmt, fold-Stmt, roll-Stmt, ind-Stmt}
use Rattle.cf_core_typed.proofs.Same.{and-left, and-right}
use Rattle.cf_elab.specs.Answer.{Elab, onward, gives}
use Rattle.cf_elab.specs.Built as built
use Rattle.cf_elab.specs.Built.{Place}
use Rattle.cf_elab.specs.Declaration.{Declares, declares}
use Rattle.cf_elab.specs.Enumeration.{Item, item_of}
use Rattle.cf_elab.specs.Env.{Env}
use Rattle.cf_elab.specs.Expression.{elaborated, declared}
use Rattle.cf_elab.specs.Objects.{Reached}
use Rattle.cf_elab.specs.Operand.{Part}
use Rattle.cf_elab.specs.Statement as row
use Rattle.cf_elab.specs.Statement.{Made, declaration_made}
use Rattle.cf_elab.specs.Trees as tree
use Rattle.cf_elab.specs.Trees.{MemberRow, SpecifierRow, ClassRow, FunctionRow, DeclarationRow}
use Rattle.cf_elab_valid.specs.Answers.{Fine, IsPart}
use Rattle.cf_elab_valid.specs.Constants.{all_of, constants_fit, declarator_fits}
use Rattle.cf_elab_valid.specs.Scene.{Scene, IsScene, Within, Classless, Holds}
use Rattle.cf_elab_valid.specs.Statements.{is_outermost, Inner, IsStatement, AreStatements}
use Rattle.cf_elab_valid.proofs.Blocks.{block-statement}
use Rattle.cf_elab_valid.proofs.Expressions.{expression-whole, declarator-shape}
use Rattle.cf_elab_valid.proofs.Named.{first-none}
use Rattle.cf_elab_valid.proofs.Options.{none_some, some_is, never_none}
use Rattle.cf_elab_valid.proofs.Statements.{Statement, inner-later, expression-statement, empty-statement, if-statement, while-statement, do-statement, for-statement, break-statement, continue-statement, return-statement}
use Rattle.cf_elab_valid.proofs.Ways.{made-fine, onward-fine, When}
use Rattle.cf_elab_valid_files.specs.Switches.Entries.{IsEntry, AreEntries}
use Rattle.cf_elab_valid_files.proofs.SwitchesLaws.Braces.{statement-entry, case-entry, default-entry}
use Rattle.cf_elab_valid_files.proofs.SwitchesLaws.Switches.{switch-statement}
use Rattle.cf_elab_valid_objects.specs.Declared.{AllReached}
use Rattle.cf_elab_valid_objects.specs.Starts.{NoVoidElements}
use Rattle.cf_elab_valid_objects.proofs.Statements.{declaration-statement}
use Rattle.cf_elab_valid_files.specs.Declarations.Items.{AreItems}
use Rattle.cf_elab_valid_files.proofs.DeclarationsLaws.Declarators.{name-built, no-scopes}
use Rattle.cf_elab_valid_files.proofs.DeclarationsLaws.Places.{Outside, outside-later, file-rows, block-rows}
use Rattle.cf_elab_valid_files.proofs.DeclarationsLaws.Rows.{IsDeclarator, AreDeclarators}
use Rattle.cf_elab_valid_files.proofs.DeclarationsLaws.Words.{IsSpecifier, AreSpecifiers, plain-specifier, enumeration-specifier, declaration-fine}
use Rattle.cf_elab_valid_files.specs.Bodies.Laws.{statement_place, declaration_place, IsEnd, ConstantsAreApart, StatementLaw, DeclarationLaw}
use Rattle.cf_elab_valid_files.specs.Bodies.Trees as well
use Rattle.cf_elab_valid_files.specs.Bodies.Trees.{Told, is_whole, maybe_fits, maybe_whole, initialiser_fits, init_declarator_fits, value_fits, enumerator_fits, statement_told, specifier_fits, declaration_fits, function_fits}
use Rattle.cf_elab_valid_files.proofs.BodiesLaws.Initial.{parts-fit}

-- ---- what trees are

abbrev member : Member → MemberRow
member = fold-Member MemberRow SpecifierRow (Elab Made) ClassRow FunctionRow DeclarationRow tree.member_step tree.specifier_step tree.statement_step tree.class_step tree.definition_step tree.declaration_step

abbrev pub specifier : Specifier → SpecifierRow
specifier = fold-Specifier MemberRow SpecifierRow (Elab Made) ClassRow FunctionRow DeclarationRow tree.member_step tree.specifier_step tree.statement_step tree.class_step tree.definition_step tree.declaration_step

abbrev of_class : ClassDef → ClassRow
of_class = fold-ClassDef MemberRow SpecifierRow (Elab Made) ClassRow FunctionRow DeclarationRow tree.member_step tree.specifier_step tree.statement_step tree.class_step tree.definition_step tree.declaration_step

abbrev member_place : Member → Place
member_place = fold-Member Place Place Place Place Place Place built.member_step built.specifier_step built.statement_step built.class_step built.function_step built.declaration_step

abbrev pub specifier_place : Specifier → Place
specifier_place = fold-Specifier Place Place Place Place Place Place built.member_step built.specifier_step built.statement_step built.class_step built.function_step built.declaration_step

abbrev class_place : ClassDef → Place
class_place = fold-ClassDef Place Place Place Place Place Place built.member_step built.specifier_step built.statement_step built.class_step built.function_step built.declaration_step

abbrev pub function_place : FunctionDef → Place
function_place = fold-FunctionDef Place Place Place Place Place Place built.member_step built.specifier_step built.statement_step built.class_step built.function_step built.declaration_step

abbrev member_fits : Member → Bool
member_fits = fold-Member Bool Bool Told Bool Bool Bool well.member_step well.specifier_step well.statement_step well.class_step well.function_step well.declaration_step

abbrev class_fits : ClassDef → Bool
class_fits = fold-ClassDef Bool Bool Told Bool Bool Bool well.member_step well.specifier_step well.statement_step well.class_step well.function_step well.declaration_step

-- a statement that is whole is as texts have it, and no label
pub whole-told : (t : Told) → is_whole t ≡ true → (t.well ≡ true) × (t.is_label ≡ false)
whole-told t h = (and-left t.well (not t.is_label) h, by t.is_label (and-right t.well (not t.is_label) h))
  where
    by : (b : Bool) → not b ≡ true → b ≡ false
    by true q = absurd (true≢false (sym q))
    by false q = refl

-- ---- the laws, of what is elaborated

record LawOf (run : Elab Made) (is_label : Bool) : Type 0 where
  pub entry : (s : Scene) → IsEnd s → (n : ℕ) (m : Bool) → IsEntry s n m run
  pub whole : is_label ≡ false → (s : Scene) → IsEnd s → (n : ℕ) (m : Bool) → IsStatement s n m run

-- a statement that is no label
whole-law : (run : Elab Made) → ((s : Scene) → IsEnd s → (n : ℕ) (m : Bool) → IsStatement s n m run) → LawOf run false
whole-law run k = record { entry = λ s end n m. statement-entry s end.scene n m run (k s end n m); whole = λ _. k }

record DeclaresOf (d : DeclarationRow) : Type 0 where
  pub inside : (s : Scene) → IsEnd s → (n : ℕ) (m : Bool) (e : Env) → Inner s n m e → Classless e → When s e (Holds s e) → Fine s (λ rs f. AllReached s n m rs) e (d.run e)
  pub outside : (s : Scene) → IsEnd s → s.locals ≡ [] → (e : Env) → is_outermost e.scopes.outer ≡ true → Classless e → When s e (Holds s e) → Fine s (λ rs f. Unit {0}) e (d.run e)

-- ---- the induction

module _ (apart : ConstantsAreApart) where
  abbrev P-member : Member → Type 0
  P-member x = Unit {0}

  abbrev P-spec : Specifier → Type 0
  P-spec x = specifier_place x ≡ None → specifier_fits x ≡ true → (s : Scene) → IsScene s → IsSpecifier s (specifier x)

  abbrev P-stmt : Stmt → Type 0
  P-stmt x = statement_place x ≡ None → (statement_told x).well ≡ true → LawOf (tree.statement x) (statement_told x).is_label

  abbrev P-class : ClassDef → Type 0
  P-class x = class_place x ≡ None → ⊥

  abbrev P-func : FunctionDef → Type 0
  P-func x = Unit {0}

  abbrev P-decl : Declaration → Type 0
  P-decl x = declaration_place x ≡ None → declaration_fits x ≡ true → DeclaresOf (tree.declaration x)

  abbrev Members : Type 0
  Members = (x : Member) × P-member x

  abbrev Specs : Type 0
  Specs = (x : Specifier) × P-spec x

  abbrev Stmts : Type 0
  Stmts = (x : Stmt) × P-stmt x

  abbrev Classes : Type 0
  Classes = (x : ClassDef) × P-class x

  abbrev Funcs : Type 0
  Funcs = (x : FunctionDef) × P-func x

  abbrev Decls : Type 0
  Decls = (x : Declaration) × P-decl x

  -- the trees of a layer alone
  abbrev spec_of : Specifier-F Members Specs Stmts Classes Funcs Decls → Specifier-F Member Specifier Stmt ClassDef FunctionDef Declaration
  spec_of y = map-Specifier Members Specs Stmts Classes Funcs Decls Member Specifier Stmt ClassDef FunctionDef Declaration (λ (x : Members). x.0) (λ (x : Specs). x.0) (λ (x : Stmts). x.0) (λ (x : Classes). x.0) (λ (x : Funcs). x.0) (λ (x : Decls). x.0) y

  abbrev stmt_of : Stmt-F Members Specs Stmts Classes Funcs Decls → Stmt-F Member Specifier Stmt ClassDef FunctionDef Declaration
  stmt_of y = map-Stmt Members Specs Stmts Classes Funcs Decls Member Specifier Stmt ClassDef FunctionDef Declaration (λ (x : Members). x.0) (λ (x : Specs). x.0) (λ (x : Stmts). x.0) (λ (x : Classes). x.0) (λ (x : Funcs). x.0) (λ (x : Decls). x.0) y

  abbrev class_of : ClassDef-F Members Specs Stmts Classes Funcs Decls → ClassDef-F Member Specifier Stmt ClassDef FunctionDef Declaration
  class_of y = map-ClassDef Members Specs Stmts Classes Funcs Decls Member Specifier Stmt ClassDef FunctionDef Declaration (λ (x : Members). x.0) (λ (x : Specs). x.0) (λ (x : Stmts). x.0) (λ (x : Classes). x.0) (λ (x : Funcs). x.0) (λ (x : Decls). x.0) y

  abbrev decl_of : Declaration-F Members Specs Stmts Classes Funcs Decls → Declaration-F Member Specifier Stmt ClassDef FunctionDef Declaration
  decl_of y = map-Declaration Members Specs Stmts Classes Funcs Decls Member Specifier Stmt ClassDef FunctionDef Declaration (λ (x : Members). x.0) (λ (x : Specs). x.0) (λ (x : Stmts). x.0) (λ (x : Classes). x.0) (λ (x : Funcs). x.0) (λ (x : Decls). x.0) y

  -- ---- expressions

  part-of : (s : Scene) → IsScene s → (x : Expr) → built.expression x ≡ None → constants_fit x ≡ true → IsPart s (elaborated x)
  part-of s scene x b f = (expression-whole s scene x b f).part

  maybe-part : (s : Scene) → IsScene s → (x : Option Expr) → built.maybe_expression x ≡ None → maybe_fits x ≡ true → (p : Part) → option_map elaborated x ≡ Some p → IsPart s p
  maybe-part s scene None b f p is = absurd (none_some p is)
  maybe-part s scene (Some x) b f p is = subst (IsPart s) (some_is (elaborated x) p is) (part-of s scene x b f)

  -- ---- specifiers

  items-of : (s : Scene) → IsScene s → (xs : List Enumerator) → built.first_of (map built.of_enumerator xs) ≡ None → all_of (map enumerator_fits xs) ≡ true → AreItems s (map item_of xs)
  items-of s scene [] b f = tt
  items-of s scene (x ∷ xs) b f =
      let split = first-none (built.of_enumerator x) (built.first_of (map built.of_enumerator xs)) b in (
        by x.value split.0 (and-left (enumerator_fits x) (all_of (map enumerator_fits xs)) f),
        items-of s scene xs split.1 (and-right (enumerator_fits x) (all_of (map enumerator_fits xs)) f),
      )
    where
      by : (o : Option (ℕ × Expr)) → built.of_value o ≡ None → value_fits o ≡ true → (p : Part) → option_map (λ (y : ℕ × Expr). elaborated y.1) o ≡ Some p → IsPart s p
      by None q k p is = absurd (none_some p is)
      by (Some y) q k p is = subst (IsPart s) (some_is (elaborated y.1) p is) (part-of s scene y.1 q k)

  spec-layer : (y : Specifier-F Members Specs Stmts Classes Funcs Decls)
      → built.specifier_step (map-Specifier Member Specifier Stmt ClassDef FunctionDef Declaration Place Place Place Place Place Place member_place specifier_place statement_place class_place function_place declaration_place (spec_of y)) ≡ None
      → well.specifier_step (map-Specifier Member Specifier Stmt ClassDef FunctionDef Declaration Bool Bool Told Bool Bool Bool member_fits specifier_fits statement_told class_fits function_fits declaration_fits (spec_of y)) ≡ true
      → (s : Scene) → IsScene s
      → IsSpecifier s (tree.specifier_step (map-Specifier Member Specifier Stmt ClassDef FunctionDef Declaration MemberRow SpecifierRow (Elab Made) ClassRow FunctionRow DeclarationRow member specifier tree.statement of_class tree.definition tree.declaration (spec_of y)))
  spec-layer (Specifier-F.Plain x) b f s scene = plain-specifier s scene x b
  spec-layer (Specifier-F.Class x) b f s scene = absurd (x.1 b)
  spec-layer (Specifier-F.Enumeration d) b f s scene = enumeration-specifier s scene d (items-of s scene d.enumerators b f)

  spec-step : (x : Specifier-F Member Specifier Stmt ClassDef FunctionDef Declaration) (y : Specifier-F Members Specs Stmts Classes Funcs Decls) → spec_of y ≡ x → P-spec (roll-Specifier x)
  spec-step x y is = subst (λ z. P-spec (roll-Specifier z)) is (λ b f s scene.
      subst (IsSpecifier s) (sym (fold-roll-Specifier MemberRow SpecifierRow (Elab Made) ClassRow FunctionRow DeclarationRow tree.member_step tree.specifier_step tree.statement_step tree.class_step tree.definition_step tree.declaration_step (spec_of y)))
      (spec-layer y (sym (fold-roll-Specifier Place Place Place Place Place Place built.member_step built.specifier_step built.statement_step built.class_step built.function_step built.declaration_step (spec_of y)) ∙ b)
      (sym (fold-roll-Specifier Bool Bool Told Bool Bool Bool well.member_step well.specifier_step well.statement_step well.class_step well.function_step well.declaration_step (spec_of y)) ∙ f) s scene))

  specs-of : (s : Scene) → IsScene s → (xs : List Specs) → built.first_of (map specifier_place (map (λ (x : Specs). x.0) xs)) ≡ None → all_of (map specifier_fits (map (λ (x : Specs). x.0) xs)) ≡ true
      → AreSpecifiers s (map specifier (map (λ (x : Specs). x.0) xs))
  specs-of s scene [] b f = tt
  specs-of s scene (x ∷ xs) b f =
      let split = first-none (specifier_place x.0) (built.first_of (map specifier_place (map (λ (y : Specs). y.0) xs))) b in (
        x.1 split.0 (and-left (specifier_fits x.0) (all_of (map specifier_fits (map (λ (y : Specs). y.0) xs))) f) s scene,
        specs-of s scene xs split.1 (and-right (specifier_fits x.0) (all_of (map specifier_fits (map (λ (y : Specs). y.0) xs))) f),
      )

  -- no class is defined
  class-step : (x : ClassDef-F Member Specifier Stmt ClassDef FunctionDef Declaration) (y : ClassDef-F Members Specs Stmts Classes Funcs Decls) → class_of y ≡ x → P-class (roll-ClassDef x)
  class-step x y is = subst (λ z. P-class (roll-ClassDef z)) is (λ b.
      never_none y.at (sym (fold-roll-ClassDef Place Place Place Place Place Place built.member_step built.specifier_step built.statement_step built.class_step built.function_step built.declaration_step (class_of y)) ∙ b))

  -- ---- declarations

  declarators-of : (s : Scene) (scene : IsScene s) → NoVoidElements s.tables → (xs : List InitDeclarator) → built.first_of (map built.of_declarator xs) ≡ None → all_of (map init_declarator_fits xs) ≡ true → AreDeclarators s scene (map declares xs)
  declarators-of s scene arrays [] b f = tt
  declarators-of s scene arrays (x ∷ xs) b f =
      let split = first-none (built.of_declarator x) (built.first_of (map built.of_declarator xs)) b in
      let own = first-none (built.declarator x.declarator) (built.of_initialiser x.initialiser) split.0 in
      let fits = and-left (init_declarator_fits x) (all_of (map init_declarator_fits xs)) f in (
        record {
          shape = declarator-shape s scene x.declarator own.0 (and-left (declarator_fits x.declarator) (initialiser_fits x.initialiser) fits);
          name = λ n is. no-scopes n (name-built x.declarator own.0 n is);
          parts = parts-fit s scene apart arrays x.initialiser own.1 (and-right (declarator_fits x.declarator) (initialiser_fits x.initialiser) fits);
        },
        declarators-of s scene arrays xs split.1 (and-right (init_declarator_fits x) (all_of (map init_declarator_fits xs)) f),
      )

  declared-law : (at : ℕ) (xs : List SpecifierRow) (ds : List InitDeclarator) → ((s : Scene) → IsScene s → AreSpecifiers s xs) → built.first_of (map built.of_declarator ds) ≡ None → all_of (map init_declarator_fits ds) ≡ true
      → DeclaresOf (record { at = at; run = tree.declaration_of at xs (map declares ds) })
  declared-law at xs ds k b f = record {
    inside = λ s end n m e i c h. declaration-fine s end.scene (λ rs. AllReached s n m rs) at xs (map declares ds) e (k s end.scene) c h
        (λ g e1 step c1 h1 named. block-rows s end.scene end.arrays end.frame n m at g (map declares ds) e1 (declarators-of s end.scene end.arrays ds b f) (inner-later s n m e e1 step i) c1 h1 named);
    outside = λ s end none e o c h. declaration-fine s end.scene (λ rs. Unit {0}) at xs (map declares ds) e (k s end.scene) c h
        (λ g e1 step c1 h1 named. file-rows s end.scene end.arrays none at g (map declares ds) e1 (declarators-of s end.scene end.arrays ds b f) (outside-later e e1 step (record { outermost = o })) c1 h1 named);
  }

  decl-layer : (y : Declaration-F Members Specs Stmts Classes Funcs Decls)
      → built.declaration_step (map-Declaration Member Specifier Stmt ClassDef FunctionDef Declaration Place Place Place Place Place Place member_place specifier_place statement_place class_place function_place declaration_place (decl_of y)) ≡ None
      → well.declaration_step (map-Declaration Member Specifier Stmt ClassDef FunctionDef Declaration Bool Bool Told Bool Bool Bool member_fits specifier_fits statement_told class_fits function_fits declaration_fits (decl_of y)) ≡ true
      → DeclaresOf (tree.declaration_step (map-Declaration Member Specifier Stmt ClassDef FunctionDef Declaration MemberRow SpecifierRow (Elab Made) ClassRow FunctionRow DeclarationRow member specifier tree.statement of_class tree.definition tree.declaration (decl_of y)))
  decl-layer y b f =
      let specifiers = map (λ (x : Specs). x.0) y.specifiers in
      let split = first-none (built.first_of (map specifier_place specifiers)) (built.first_of (map built.of_declarator y.declarators)) b in
      declared-law y.at (map specifier specifiers) y.declarators (λ s scene. specs-of s scene y.specifiers split.0 (and-left (all_of (map specifier_fits specifiers)) (all_of (map init_declarator_fits y.declarators)) f)) split.1
      (and-right (all_of (map specifier_fits specifiers)) (all_of (map init_declarator_fits y.declarators)) f)

  decl-step : (x : Declaration-F Member Specifier Stmt ClassDef FunctionDef Declaration) (y : Declaration-F Members Specs Stmts Classes Funcs Decls) → decl_of y ≡ x → P-decl (roll-Declaration x)
  decl-step x y is = subst (λ z. P-decl (roll-Declaration z)) is (λ b f.
      subst DeclaresOf (sym (fold-roll-Declaration MemberRow SpecifierRow (Elab Made) ClassRow FunctionRow DeclarationRow tree.member_step tree.specifier_step tree.statement_step tree.class_step tree.definition_step tree.declaration_step (decl_of y)))
      (decl-layer y (sym (fold-roll-Declaration Place Place Place Place Place Place built.member_step built.specifier_step built.statement_step built.class_step built.function_step built.declaration_step (decl_of y)) ∙ b)
      (sym (fold-roll-Declaration Bool Bool Told Bool Bool Bool well.member_step well.specifier_step well.statement_step well.class_step well.function_step well.declaration_step (decl_of y)) ∙ f)))

  -- ---- statements

  one-of : (x : Stmts) → statement_place x.0 ≡ None → is_whole (statement_told x.0) ≡ true → (s : Scene) → IsEnd s → (n : ℕ) (m : Bool) → IsStatement s n m (tree.statement x.0)
  one-of x b f = let t = whole-told (statement_told x.0) f in (x.1 b t.0).whole t.1

  all-of : (xs : List Stmts) → built.first_of (map statement_place (map (λ (x : Stmts). x.0) xs)) ≡ None → all_of (map is_whole (map statement_told (map (λ (x : Stmts). x.0) xs))) ≡ true
      → (s : Scene) → IsEnd s → (n : ℕ) (m : Bool) → AreStatements s n m (map tree.statement (map (λ (x : Stmts). x.0) xs))
  all-of [] b f s end n m = tt
  all-of (x ∷ xs) b f s end n m =
      let rest = map statement_told (map (λ (y : Stmts). y.0) xs) in
      let split = first-none (statement_place x.0) (built.first_of (map statement_place (map (λ (y : Stmts). y.0) xs))) b in (
        one-of x split.0 (and-left (is_whole (statement_told x.0)) (all_of (map is_whole rest)) f) s end n m,
        all-of xs split.1 (and-right (is_whole (statement_told x.0)) (all_of (map is_whole rest)) f) s end n m,
      )

  entries-of : (xs : List Stmts) → built.first_of (map statement_place (map (λ (x : Stmts). x.0) xs)) ≡ None → all_of (map (λ (t : Told). t.well) (map statement_told (map (λ (x : Stmts). x.0) xs))) ≡ true
      → (s : Scene) → IsEnd s → (n : ℕ) (m : Bool) → AreEntries s n m (map tree.statement (map (λ (x : Stmts). x.0) xs))
  entries-of [] b f s end n m = tt
  entries-of (x ∷ xs) b f s end n m =
      let rest = map (λ (t : Told). t.well) (map statement_told (map (λ (y : Stmts). y.0) xs)) in
      let split = first-none (statement_place x.0) (built.first_of (map statement_place (map (λ (y : Stmts). y.0) xs))) b in (
        (x.1 split.0 (and-left (statement_told x.0).well (all_of rest) f)).entry s end n m,
        entries-of xs split.1 (and-right (statement_told x.0).well (all_of rest) f) s end n m,
      )

  -- a declaration as a statement
  declaration-law : (d : DeclarationRow) → DeclaresOf d → LawOf (λ e. onward (d.run e) (λ rs. gives (declaration_made d.at rs))) false
  declaration-law d k = whole-law (λ e. onward (d.run e) (λ rs. gives (declaration_made d.at rs))) (λ s end n m. record {
    fine = λ e i c h. onward-fine s (λ rs f. AllReached s n m rs) (Statement s end.scene n m e) e (d.run e) (λ rs. gives (declaration_made d.at rs)) (k.inside s end n m e i c h)
        (λ rs e1 g c1 h1 r. made-fine s (Statement s end.scene n m e) e1 (declaration_made d.at rs) c1 h1 (λ w. declaration-statement s n m d.at rs e.hand.breaks e.hand.continues e1 (r w)));
  })

  abbrev place_of : Stmt-F Member Specifier Stmt ClassDef FunctionDef Declaration → Place
  place_of x = built.statement_step (map-Stmt Member Specifier Stmt ClassDef FunctionDef Declaration Place Place Place Place Place Place member_place specifier_place statement_place class_place function_place declaration_place x)

  abbrev told_of : Stmt-F Member Specifier Stmt ClassDef FunctionDef Declaration → Told
  told_of x = well.statement_step (map-Stmt Member Specifier Stmt ClassDef FunctionDef Declaration Bool Bool Told Bool Bool Bool member_fits specifier_fits statement_told class_fits function_fits declaration_fits x)

  abbrev elab_of : Stmt-F Member Specifier Stmt ClassDef FunctionDef Declaration → Elab Made
  elab_of x = tree.statement_step (map-Stmt Member Specifier Stmt ClassDef FunctionDef Declaration MemberRow SpecifierRow (Elab Made) ClassRow FunctionRow DeclarationRow member specifier tree.statement of_class tree.definition tree.declaration x)

  stmt-layer : (y : Stmt-F Members Specs Stmts Classes Funcs Decls) → place_of (stmt_of y) ≡ None → (told_of (stmt_of y)).well ≡ true → LawOf (elab_of (stmt_of y)) (told_of (stmt_of y)).is_label
  stmt-layer (Stmt-F.Stmt::Declaration d) b f = declaration-law (tree.declaration d.0) (d.1 b f)
  stmt-layer (Stmt-F.Block at xs) b f = whole-law (elab_of (stmt_of (Stmt-F.Block at xs))) (λ s end n m. block-statement s end.scene n m at (map tree.statement (map (λ (x : Stmts). x.0) xs)) (all-of xs b f s end n m))
  stmt-layer (Stmt-F.Empty at) b f = whole-law (row.empty_row at) (λ s end n m. empty-statement s end.scene n m at)
  stmt-layer (Stmt-F.Expression at x) b f = whole-law (row.expression_row at (elaborated x)) (λ s end n m. expression-statement s end.scene n m at (elaborated x) (part-of s end.scene x b f))
  stmt-layer (Stmt-F.If at x a None) b f =
      let split = first-none (built.expression x) (built.first (statement_place a.0) None) b in
      let own = first-none (statement_place a.0) None split.1 in
      let fits = and-right (constants_fit x) (is_whole (statement_told a.0) && true) f in
      whole-law (row.if_row at (elaborated x) (tree.statement a.0) None)
      (λ s end n m. if-statement s end.scene n m at (elaborated x) (tree.statement a.0) None (part-of s end.scene x split.0 (and-left (constants_fit x) (is_whole (statement_told a.0) && true) f))
      (one-of a own.0 (and-left (is_whole (statement_told a.0)) true fits) s end n m) (λ run is. absurd (none_some run is)))
  stmt-layer (Stmt-F.If at x a (Some o)) b f =
      let split = first-none (built.expression x) (built.first (statement_place a.0) (statement_place o.0)) b in
      let own = first-none (statement_place a.0) (statement_place o.0) split.1 in
      let both = is_whole (statement_told a.0) && is_whole (statement_told o.0) in
      let fits = and-right (constants_fit x) both f in
      whole-law (row.if_row at (elaborated x) (tree.statement a.0) (Some (tree.statement o.0)))
      (λ s end n m. if-statement s end.scene n m at (elaborated x) (tree.statement a.0) (Some (tree.statement o.0)) (part-of s end.scene x split.0 (and-left (constants_fit x) both f))
      (one-of a own.0 (and-left (is_whole (statement_told a.0)) (is_whole (statement_told o.0)) fits) s end n m)
      (λ run is. subst (IsStatement s n m) (some_is (tree.statement o.0) run is) (one-of o own.1 (and-right (is_whole (statement_told a.0)) (is_whole (statement_told o.0)) fits) s end n m)))
  stmt-layer (Stmt-F.While at x a) b f =
      let split = first-none (built.expression x) (statement_place a.0) b in
      whole-law (row.while_row at (elaborated x) (tree.statement a.0))
      (λ s end n m. while-statement s end.scene n m at (elaborated x) (tree.statement a.0) (part-of s end.scene x split.0 (and-left (constants_fit x) (is_whole (statement_told a.0)) f))
      (one-of a split.1 (and-right (constants_fit x) (is_whole (statement_told a.0)) f) s end n m))
  stmt-layer (Stmt-F.Do at a x) b f =
      let split = first-none (statement_place a.0) (built.expression x) b in
      whole-law (row.do_row at (tree.statement a.0) (elaborated x))
      (λ s end n m. do-statement s end.scene n m at (tree.statement a.0) (elaborated x) (one-of a split.0 (and-left (is_whole (statement_told a.0)) (constants_fit x) f) s end n m)
      (part-of s end.scene x split.1 (and-right (is_whole (statement_told a.0)) (constants_fit x) f)))
  stmt-layer (Stmt-F.For at first x step a) b f =
      let split = first-none (statement_place first.0) (built.first (built.maybe_expression x) (built.first (built.maybe_expression step) (statement_place a.0))) b in
      let behind = first-none (built.maybe_expression x) (built.first (built.maybe_expression step) (statement_place a.0)) split.1 in
      let last = first-none (built.maybe_expression step) (statement_place a.0) behind.1 in
      let f1 = and-right (is_whole (statement_told first.0)) (maybe_fits x && (maybe_fits step && is_whole (statement_told a.0))) f in
      let f2 = and-right (maybe_fits x) (maybe_fits step && is_whole (statement_told a.0)) f1 in
      whole-law (row.for_row at (tree.statement first.0) (option_map elaborated x) (option_map elaborated step) (tree.statement a.0))
      (λ s end n m. for-statement s end.scene n m at (tree.statement first.0) (option_map elaborated x) (option_map elaborated step) (tree.statement a.0)
      (one-of first split.0 (and-left (is_whole (statement_told first.0)) (maybe_fits x && (maybe_fits step && is_whole (statement_told a.0))) f) s end n m)
      (maybe-part s end.scene x behind.0 (and-left (maybe_fits x) (maybe_fits step && is_whole (statement_told a.0)) f1))
      (maybe-part s end.scene step last.0 (and-left (maybe_fits step) (is_whole (statement_told a.0)) f2))
      (one-of a last.1 (and-right (maybe_fits step) (is_whole (statement_told a.0)) f2) s end n m))
  stmt-layer (Stmt-F.Switch at x xs) b f =
      let split = first-none (built.expression x) (built.first_of (map statement_place (map (λ (y : Stmts). y.0) xs))) b in
      let rest = all_of (map (λ (t : Told). t.well) (map statement_told (map (λ (y : Stmts). y.0) xs))) in
      whole-law (row.switch_row at (elaborated x) (map tree.statement (map (λ (y : Stmts). y.0) xs)))
      (λ s end n m. switch-statement s end.scene n m at (elaborated x) (map tree.statement (map (λ (y : Stmts). y.0) xs)) (part-of s end.scene x split.0 (and-left (constants_fit x) rest f))
      (entries-of xs split.1 (and-right (constants_fit x) rest f) s end n m))
  stmt-layer (Stmt-F.Case at x) b f = record { entry = λ s end n m. case-entry s end.scene n m at (elaborated x) (part-of s end.scene x b f); whole = λ is. absurd (true≢false is) }
  stmt-layer (Stmt-F.Default at) b f = record { entry = λ s end n m. default-entry s end.scene n m at; whole = λ is. absurd (true≢false is) }
  stmt-layer (Stmt-F.Break at) b f = whole-law (row.break_row at) (λ s end n m. break-statement s end.scene n m at)
  stmt-layer (Stmt-F.Continue at) b f = whole-law (row.continue_row at) (λ s end n m. continue-statement s end.scene n m at)
  stmt-layer (Stmt-F.Return at x) b f = whole-law (row.return_row at (option_map elaborated x)) (λ s end n m. return-statement s end.scene n m at (option_map elaborated x) (maybe-part s end.scene x b f))

  stmt-step : (x : Stmt-F Member Specifier Stmt ClassDef FunctionDef Declaration) (y : Stmt-F Members Specs Stmts Classes Funcs Decls) → stmt_of y ≡ x → P-stmt (roll-Stmt x)
  stmt-step x y is = subst (λ z. P-stmt (roll-Stmt z)) is (λ b f.
      let told = fold-roll-Stmt Bool Bool Told Bool Bool Bool well.member_step well.specifier_step well.statement_step well.class_step well.function_step well.declaration_step (stmt_of y) in
      subst (λ (run : Elab Made). LawOf run (statement_told (roll-Stmt (stmt_of y))).is_label)
      (sym (fold-roll-Stmt MemberRow SpecifierRow (Elab Made) ClassRow FunctionRow DeclarationRow tree.member_step tree.specifier_step tree.statement_step tree.class_step tree.definition_step tree.declaration_step (stmt_of y)))
      (subst (λ (t : Told). LawOf (elab_of (stmt_of y)) t.is_label) (sym told)
      (stmt-layer y (sym (fold-roll-Stmt Place Place Place Place Place Place built.member_step built.specifier_step built.statement_step built.class_step built.function_step built.declaration_step (stmt_of y)) ∙ b)
      (ap (λ (t : Told). t.well) (sym told) ∙ f))))

  -- ---- the whole

  statement-of : (x : Stmt) → P-stmt x
  statement-of = ind-Stmt P-member P-spec P-stmt P-class P-func P-decl (λ x y is. tt) spec-step stmt-step class-step (λ x y is. tt) decl-step

  declaration-of : (x : Declaration) → P-decl x
  declaration-of = ind-Declaration P-member P-spec P-stmt P-class P-func P-decl (λ x y is. tt) spec-step stmt-step class-step (λ x y is. tt) decl-step

  pub specifier-of : (x : Specifier) → P-spec x
  specifier-of = ind-Specifier P-member P-spec P-stmt P-class P-func P-decl (λ x y is. tt) spec-step stmt-step class-step (λ x y is. tt) decl-step

  pub statement-law : (x : Stmt) → statement_place x ≡ None → (statement_told x).well ≡ true → StatementLaw x
  statement-law x b f = let k = statement-of x b f in record { entry = k.entry; whole = k.whole }

  pub declaration-tree-law : (x : Declaration) → declaration_place x ≡ None → declaration_fits x ≡ true → DeclarationLaw x
  declaration-tree-law x b f = let k = declaration-of x b f in record { inside = k.inside; outside = k.outside }
