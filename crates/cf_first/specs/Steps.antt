-- What the steps from the bytes of a file to its core give.
use Rattle.std.specs.Prelude.{◌≡◌, ◌⊎◌, ℕ, List, Some, None, Result, Ok, Err}
use Rattle.cf_base.specs.declared.limit.Limit.{Limit}
use Rattle.cf_base.specs.declared.rule.Broken.{Broken}
use Rattle.cf_tokens.specs.Lex.{Lex}
use Rattle.cf_tokens.specs.declared.fault.LexFault.TheVariants as lexical
use Rattle.cf_tokens.specs.declared.token.Token.{Token}
use Rattle.cf_unit.specs.declared.file.Unit.{Unit as FileTree}
use Rattle.cf_unit.specs.Answers.{IsUnit}
use Rattle.cf_unit.specs.Answers as grammar
use Rattle.cf_core.specs.FromUnit.{Unit as CoreUnit}
use Rattle.cf_elab.specs.Built.{first_of_file}
use Rattle.cf_elab.specs.File as elaboration
use Rattle.cf_elab_finished.specs.Finished.{Ended}
use Rattle.cf_first.specs.declared.fault.Fault.{Fault}
use Rattle.cf_first.specs.declared.fault.Fault.TheVariants as fault
use Rattle.cf_first.specs.First.{nesting, misspelled, not_built}

-- why the bytes have no tokens of the language; want of memory says nothing
abbrev pub IsUncut : List ℕ → Fault → Type 0
IsUncut bytes (fault.Broken first) = Lex bytes (Err (lexical.Broken first))
IsUncut bytes (fault.Limit limit) = Lex bytes (Err (lexical.Limit limit))
IsUncut bytes fault.Memory = Unit {0}

-- the tokens are refused at a place
pub record Misspelled (ts : List Token) (b : Broken) : Type 0 where
  pub broken : b ≡ misspelled b.at
  pub refused : IsUnit ts (grammar.refused b.at)

-- the tokens are nested too deep
pub record TooDeep (ts : List Token) (limit : Limit) : Type 0 where
  pub passed : limit ≡ nesting
  pub nested : IsUnit ts grammar.too_deep

-- the tree of the tokens, or why there is none
abbrev pub IsTree : List Token → Result FileTree Fault → Type 0
IsTree ts (Ok tree) = IsUnit ts (grammar.accepted tree)
IsTree ts (Err (fault.Broken b)) = Misspelled ts b
IsTree ts (Err (fault.Limit limit)) = TooDeep ts limit
IsTree ts (Err fault.Memory) = Unit {0}

-- a tree that breaks no rule, whose end a look does not find well formed
pub record HasNoCore (tree : FileTree) (b : Broken) : Type 0 where
  pub broken : b ≡ not_built
  pub ended : Ended tree None

-- the core of a tree, or why there is none
abbrev pub HasCore : FileTree → Result CoreUnit Fault → Type 0
HasCore tree (Ok core) = Ended tree (Some core)
HasCore tree (Err (fault.Broken b)) = (first_of_file tree ≡ elaboration.Broken b.rule b.at) ⊎ HasNoCore tree b
HasCore tree (Err (fault.Limit l)) = first_of_file tree ≡ elaboration.Limit l.bound l.most
HasCore tree (Err fault.Memory) = Unit {0}
