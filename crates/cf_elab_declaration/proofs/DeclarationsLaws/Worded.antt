-- Specifiers that are built leave nothing for later, so they are their words.
use Rattle.std.proofs.Common.{◌≡◌, ℕ, List, [], ◌∷◌, map, Option, None, refl, sym, ap, ◌∙◌}
use Rattle.cf_unit.specs.declared.class.ClassDef.{ClassDef}
use Rattle.cf_unit.specs.declared.class.FunctionDef.{FunctionDef}
use Rattle.cf_unit.specs.declared.class.Member.{Member}
use Rattle.cf_unit.specs.declared.class.Member.TheFolds.{fold_out-Specifier}
use Rattle.cf_unit.specs.declared.class.Member.TheOpen.{Specifier-F}
use Rattle.cf_unit.specs.declared.declaration.Declaration.{Declaration}
use Rattle.cf_unit.specs.declared.specifier.Specifier.{Specifier, out-Specifier}
use Rattle.cf_unit.specs.declared.statement.Stmt.{Stmt}
use Rattle.cf_elab.specs.Answer.{Answer, Elab, Made as Done, Refused, Passed, onward, done, all, for_each}
use Rattle.cf_elab.specs.Built as built
use Rattle.cf_elab.specs.Built.{Place, first_of}
use Rattle.cf_elab.specs.Enumeration.{enumeration}
use Rattle.cf_elab.specs.Env.{Env, Name}
use Rattle.cf_elab.specs.Specifiers.{Word, defined_word}
use Rattle.cf_elab.specs.Statement.{Made}
use Rattle.cf_elab.specs.Trees as tree
use Rattle.cf_elab.specs.Trees.{MemberRow, SpecifierRow, Specified, Worded, ClassRow, FunctionRow, DeclarationRow, only, in_turn, member_step, specifier_step, statement_step, class_step, definition_step, declaration_step}
use Rattle.cf_elab_built.specs.Built.Parts as place
use Rattle.cf_elab_declaration.proofs.EnumsLaws.ExprBuiltForms.{left, right}
use Rattle.cf_elab_declaration.specs.Declarations.Shut as shut
use Rattle.cf_elab_declaration.proofs.DeclarationsLaws.BuiltParts.{place_in, no_class_in}
use Rattle.cf_elab_declaration.proofs.DeclarationsLaws.SpecifierRows.{row_of}

-- ---- one

module _ (alias : Option Name) (env : Env) where
  -- it is its word alone
  abbrev IsWord : Answer Specified → Type 0
  IsWord a = a ≡ onward (onward a (λ x env. Done x.word env)) (λ w env. Done (only w) env)

  by_plain : (a : Answer Word) → IsWord (onward a (λ w env. Done (only w) env))
  by_plain (Done w env) = refl
  by_plain (Refused rule at) = refl
  by_plain (Passed bound most) = refl

  by_definition : (at : ℕ) (a : Answer ℕ)
      → IsWord (onward (onward a (λ t env. let pair : ℕ × Elab (Unit {0}) = (t, done) in Done pair env)) (λ t env. let s : Specified = record { word = defined_word at t.0; later = t.1 } in Done s env))
  by_definition at (Done t env) = refl
  by_definition at (Refused rule place) = refl
  by_definition at (Passed bound most) = refl

  by_form : (x : Specifier-F Member Specifier Stmt ClassDef FunctionDef Declaration) → place_in x ≡ None → IsWord ((row_of x).run alias env)
  by_form (Specifier-F.Plain s) h = by_plain (tree.word_in_declaration s env)
  by_form (Specifier-F.Class c) h = absurd (no_class_in c h)
  by_form (Specifier-F.Enumeration d) h = by_definition d.at (enumeration alias d env)

  is_word : (s : Specifier) → place.specifier s ≡ None → (shut.specifier s).run alias env ≡ onward (shut.word alias s env) (λ w env. Done (only w) env)
  unfolding shut.word
  is_word s h =
      let row = fold_out-Specifier MemberRow SpecifierRow (Elab Made) ClassRow FunctionRow DeclarationRow member_step specifier_step statement_step class_step definition_step declaration_step s in
      let at = fold_out-Specifier Place Place Place Place Place Place built.member_step built.specifier_step built.statement_step built.class_step built.function_step built.declaration_step s in
      let one = by_form (out-Specifier s) (sym at ∙ h) in
      ap (λ (r : SpecifierRow). r.run alias env) row ∙ one ∙ sym (ap (λ (r : SpecifierRow). onward (onward (r.run alias env) (λ x env. Done x.word env)) (λ w env. Done (only w) env)) row)

-- ---- several

abbrev runs : Option Name → List Specifier → List (Elab Specified)
runs alias ss = map (λ (r : SpecifierRow). r.run alias) (map shut.specifier ss)

all_words : (alias : Option Name) (ss : List Specifier) (env : Env) → first_of (map place.specifier ss) ≡ None
    → all (runs alias ss) env ≡ onward (shut.words alias ss env) (λ ws env. Done (map only ws) env)
unfolding shut.words
all_words alias [] env h = refl
all_words alias (s ∷ ss) env h =
    ap (λ a. onward a (λ y env. onward (all (runs alias ss) env) (λ ys env. Done (y ∷ ys) env))) (is_word alias env s (left (place.specifier s) (first_of (map place.specifier ss)) h))
    ∙ by (λ env. all_words alias ss env (right (place.specifier s) (first_of (map place.specifier ss)) h)) (shut.word alias s env)
  where
    rest : (w : Word) (a : Answer (List Word)) → onward (onward a (λ ws env. Done (map only ws) env)) (λ ys env. Done (only w ∷ ys) env)
        ≡ onward (onward a (λ ws env. Done (w ∷ ws) env)) (λ ws env. Done (map only ws) env)
    rest w (Done ws env) = refl
    rest w (Refused rule at) = refl
    rest w (Passed bound most) = refl

    by : ((env : Env) → all (runs alias ss) env ≡ onward (shut.words alias ss env) (λ ws env. Done (map only ws) env)) → (a : Answer Word)
        → onward (onward a (λ w env. Done (only w) env)) (λ y env. onward (all (runs alias ss) env) (λ ys env. Done (y ∷ ys) env))
        ≡ onward (onward a (λ w env. onward (all (map (shut.word alias) ss) env) (λ ws env. Done (w ∷ ws) env))) (λ ws env. Done (map only ws) env)
    by later (Done w env) = ap (λ a. onward a (λ ys env. Done (only w ∷ ys) env)) (later env) ∙ rest w (shut.words alias ss env)
    by later (Refused rule at) = refl
    by later (Passed bound most) = refl

nothing_later : (ws : List Word) (env : Env) → for_each (λ (x : Specified). x.later) (map only ws) env ≡ Done tt env
nothing_later [] env = refl
nothing_later (w ∷ ws) env = nothing_later ws env

same_words : (ws : List Word) → map (λ (x : Specified). x.word) (map only ws) ≡ ws
same_words [] = refl
same_words (w ∷ ws) = ap (λ l. w ∷ l) (same_words ws)

-- what comes behind their names and what they leave for later comes behind the words
module _ {A : Type 0} (alias : Option Name) (ss : List Specifier) (go : List Word → Elab A) where
  abbrev behind_words : Worded → Elab A
  behind_words ws env = onward (ws.later env) (λ _ env. go ws.list env)

  at_once : (ws : List Word) (env : Env) → behind_words (in_turn (map only ws)) env ≡ go ws env
  at_once ws env =
      ap (λ a. onward a (λ _ env. go (map (λ (x : Specified). x.word) (map only ws)) env)) (nothing_later ws env) ∙ ap (λ l. go l env) (same_words ws)

  by_words : (a : Answer (List Word)) → onward (onward (onward a (λ ws env. Done (map only ws) env)) (λ xs env. Done (in_turn xs) env)) behind_words ≡ onward a go
  by_words (Done ws env) = at_once ws env
  by_words (Refused rule at) = refl
  by_words (Passed bound most) = refl

  pub words_then : (env : Env) → shut.SpecifiersAreBuilt ss → onward (tree.words alias (map shut.specifier ss) env) behind_words ≡ onward (shut.words alias ss env) go
  unfolding shut.SpecifiersAreBuilt
  words_then env h = ap (λ a. onward (onward a (λ xs env. Done (in_turn xs) env)) behind_words) (all_words alias ss env h) ∙ by_words (shut.words alias ss env)
