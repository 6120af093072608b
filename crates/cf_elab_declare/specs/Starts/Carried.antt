-- What carrying out a plan makes.
use Rattle.std.specs.Prelude.{ℕ, true, ◌&&◌, List, [], ◌∷◌, ◌++◌, ℤ, Option, None}
use Rattle.cf_core.specs.declared.node.Core.TheVariants as node
use Rattle.cf_elab.specs.Answer.{Answer, Made, onward}
use Rattle.cf_elab.specs.Initial.{Start, fixed_start}
use Rattle.cf_elab.specs.Lists as lists
use Rattle.cf_elab_declare.specs.declared.starts.starts.Starts.{Starts}

abbrev pub starts_seen : Starts → lists.Starts
starts_seen s = record { nodes = s.nodes; are_constant = s.are_constant }

abbrev pub no_starts : lists.Starts
no_starts = record { nodes = []; are_constant = true }

abbrev pub one_more : lists.Starts → Start → lists.Starts
one_more s x = record { nodes = s.nodes ++ x.node ∷ []; are_constant = s.are_constant && x.is_constant }

-- behind those that are made
abbrev pub ahead : lists.Starts → Answer lists.Starts → Answer lists.Starts
ahead s a = onward a (λ rest env. Made (record { nodes = s.nodes ++ rest.nodes; are_constant = s.are_constant && rest.are_constant }) env)

abbrev pub list_start : ℕ → lists.Starts → Start
list_start at s = fixed_start (node.List at s.nodes (node.Zeros at)) s.are_constant

abbrev pub characters : ℕ → List ℕ → Start
characters at bytes = fixed_start (node.Characters at bytes) true

abbrev pub no_number : Option ℤ
no_number = None
