-- How far a call of the knot is from its end.
use Rattle.std.specs.Prelude.{ℕ}
use Rattle.cf_parse_decl.specs.declared.grammar.Wanted.{Wanted}
use Rattle.cf_parse_decl.specs.declared.grammar.Wanted.TheVariants as wanted

-- a declaration is read at its own depth, and asks for classes there
abbrev pub rank : Wanted → ℕ
rank wanted.Statement = 0
rank wanted.Class = 0
rank wanted.Declaration = 2
