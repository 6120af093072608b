-- A declaration is its specifiers, and then its declarators.
use Rattle.std.proofs.Common.{◌≡◌, ℕ, List, map, length, sym, ap, ◌∙◌}
use Rattle.cf_unit.specs.declared.class.Member.TheFolds.{fold_out-Declaration}
use Rattle.cf_unit.specs.declared.declaration.Declaration.{Declaration, out-Declaration}
use Rattle.cf_unit.specs.declared.declaration.InitDeclarator.{InitDeclarator}
use Rattle.cf_unit.specs.declared.specifier.Specifier.{Specifier}
use Rattle.cf_elab.specs.Answer.{Elab, Made as Done, onward}
use Rattle.cf_elab.specs.Declaration.{declares}
use Rattle.cf_elab.specs.Env.{Env}
use Rattle.cf_elab.specs.Objects.{Reached}
use Rattle.cf_elab.specs.Specifiers.{Word, gathered}
use Rattle.cf_elab.specs.Statement.{Made}
use Rattle.cf_elab.specs.Trees as tree
use Rattle.cf_elab.specs.Trees.{MemberRow, SpecifierRow, ClassRow, FunctionRow, DeclarationRow, member_step, specifier_step, statement_step, class_step, definition_step, declaration_step}
use Rattle.cf_elab_env.proofs.Growth.{grown_laws}
use Rattle.cf_elab_limits.specs.Shut as limits
use Rattle.cf_elab_declaration.specs.Declarations.Shut as shut
use Rattle.cf_elab_declaration.proofs.DeclarationsLaws.Worded.{words_then}

pub declaration_is : (d : Declaration) (env : Env)
    → shut.declaration d env ≡ shut.of_parts (out-Declaration d).at (out-Declaration d).specifiers (out-Declaration d).declarators env
unfolding shut.declaration shut.of_parts
declaration_is d env =
    ap (λ (r : DeclarationRow). r.run env)
    (fold_out-Declaration MemberRow SpecifierRow (Elab Made) ClassRow FunctionRow DeclarationRow member_step specifier_step statement_step class_step definition_step declaration_step d)

module _ (at : ℕ) (ss : List Specifier) (ds : List InitDeclarator) (env : Env) where
  -- behind the words, where the table had so many types before
  abbrev behind_words : ℕ → List Word → Elab (List Reached)
  behind_words n ws e = onward (shut.behind_specifiers at (gathered ws) ds e) (λ rs e. onward (limits.types_within n e) (λ _ e. Done rs e))

  pub parts_are : (n : ℕ) → n ≡ length env.types.types → shut.SpecifiersAreBuilt ss
      → shut.of_parts at ss ds env
      ≡ onward (shut.words (shut.alias ss ds) ss env) (λ ws e. onward (shut.behind_specifiers at (gathered ws) ds e) (λ rs e. onward (limits.types_within n e) (λ _ e. Done rs e)))
  unfolding shut.of_parts shut.alias shut.behind_specifiers limits.types_within
  parts_are n is built =
      words_then (tree.alias_of (map shut.specifier ss) (map declares ds)) ss (behind_words (length env.types.types)) env built
      ∙ ap (λ n. onward (shut.words (tree.alias_of (map shut.specifier ss) (map declares ds)) ss env) (behind_words n)) (sym is)

pub ruleset part_laws = (parts_are, grown_laws)
