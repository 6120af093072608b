-- What a file is: its core, or why it is refused.
use Rattle.std.specs.Prelude.{◌≡◌, ℕ, List, Option, Some, None, Result, Ok, Err}
use Rattle.cf_base.specs.declared.limit.Bound.TheVariants as bound
use Rattle.cf_base.specs.declared.limit.Limit.{Limit}
use Rattle.cf_base.specs.declared.rule.Broken.{Broken}
use Rattle.cf_tokens.specs.Lex.{Lex}
use Rattle.cf_tokens.specs.declared.fault.LexFault.TheVariants as lexical
use Rattle.cf_tokens.specs.declared.token.Token.{Token}
use Rattle.cf_unit.specs.declared.file.Unit.{Unit as FileTree}
use Rattle.cf_unit.specs.Answers.{IsUnit}
use Rattle.cf_unit.specs.Answers as grammar
use Rattle.cf_unit.specs.Nesting.{nesting_limit}
use Rattle.cf_core.specs.FromUnit.{Unit as CoreUnit}
use Rattle.cf_elab.specs.Built.{first_of_file}
use Rattle.cf_elab.specs.File as elaboration
use Rattle.cf_elab_finished.specs.Finished.{Ended}

-- why a file has no core: the rule that it breaks, with the place, or the limit that it passes
pub data Refusal : Type 0 where
  breaks : Broken → Refusal
  passes : Limit → Refusal

-- The bytes are tokens of the language (2.1), which spell a tree (17).
pub record HasTree (bytes : List ℕ) (tree : FileTree) : Type 0 where
  pub listed : List Token
  pub lexical : Lex bytes (Ok listed)
  pub spelled : IsUnit listed (grammar.accepted tree)

-- open brackets and tokens since the last reset
abbrev pub nesting : Limit
nesting = record { bound = bound.Nesting; most = nesting_limit }

-- tokens that are not in the grammar, at this place (17)
abbrev pub misspelled : ℕ → Broken
misspelled at = record { rule = 6; at = at }

-- a form that is not built, at the file's begin, since no look tells where it stands
abbrev pub not_built : Broken
not_built = record { rule = 48; at = 0 }

-- The lexical form comes first: its first broken rule, or a limit that is passed. Then comes the limit of nesting, and then the grammar. Then comes the first rule that the
-- tree's parts break in their turn, or the limit that they pass. A tree that breaks none has a core where the looks at its end find that well formed.
pub data First (bytes : List ℕ) : Result CoreUnit Refusal → Type 0 where
  breaks_form : (first : Broken) → Lex bytes (Err (lexical.Broken first)) → First bytes (Err (breaks first))
  passes_limit : (limit : Limit) → Lex bytes (Err (lexical.Limit limit)) → First bytes (Err (passes limit))
  is_nested : (listed : List Token) → Lex bytes (Ok listed) → IsUnit listed grammar.too_deep → First bytes (Err (passes nesting))
  is_misspelled : (listed : List Token) (at : ℕ) → Lex bytes (Ok listed) → IsUnit listed (grammar.refused at) → First bytes (Err (breaks (misspelled at)))
  breaks_rule : (tree : FileTree) (b : Broken) → HasTree bytes tree → first_of_file tree ≡ elaboration.Broken b.rule b.at → First bytes (Err (breaks b))
  passes_in_turn : (tree : FileTree) (l : Limit) → HasTree bytes tree → first_of_file tree ≡ elaboration.Limit l.bound l.most → First bytes (Err (passes l))
  is_not_built : (tree : FileTree) → HasTree bytes tree → Ended tree None → First bytes (Err (breaks not_built))
  accepted : (tree : FileTree) (core : CoreUnit) → HasTree bytes tree → Ended tree (Some core) → First bytes (Ok core)
