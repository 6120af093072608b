-- Every node of a core, each before its parts.
use Rattle.std.specs.Prelude.{List, [], ◌∷◌, ◌++◌}
use Rattle.cf_core.specs.Core.{Core, Cores, MaybeCore, Parts, none, more, absent, given, no_parts, part, number, text, this, local, static_object, function, member, read, address, dereference, decay, index, convert, up, down, from_void, to_member, data_pointer, function_pointer, through, operate, unary, logical_not, logical_and, logical_or, pointer_operate, conditional, comma, store, update, step, assign, temporary, call, virtual_call, pointer_call, new, new_array, delete, delete_array, build, copy, each, list, string, bind, zeros, blank, full, block, sequence, declare, once, branch, loop, switch, case_label, default_label, leave, continue, give, parts}

abbrev mutual
  pub nodes : Core → List Core
  nodes (number z) = number z ∷ []
  nodes (text j bytes) = text j bytes ∷ []
  nodes this = this ∷ []
  nodes (local i) = local i ∷ []
  nodes (static_object n t) = static_object n t ∷ []
  nodes (function n t) = function n t ∷ []
  nodes (member e i) = member e i ∷ nodes e
  nodes (read e) = read e ∷ nodes e
  nodes (address e) = address e ∷ nodes e
  nodes (dereference e) = dereference e ∷ nodes e
  nodes (decay e) = decay e ∷ nodes e
  nodes (index a b) = index a b ∷ nodes a ++ nodes b
  nodes (convert t e) = convert t e ∷ nodes e
  nodes (up path e) = up path e ∷ nodes e
  nodes (down c path e) = down c path e ∷ nodes e
  nodes (from_void t e) = from_void t e ∷ nodes e
  nodes (to_member path e) = to_member path e ∷ nodes e
  nodes (data_pointer i) = data_pointer i ∷ []
  nodes (function_pointer t) = function_pointer t ∷ []
  nodes (through a b) = through a b ∷ nodes a ++ nodes b
  nodes (operate op k a b) = operate op k a b ∷ nodes a ++ nodes b
  nodes (unary op k e) = unary op k e ∷ nodes e
  nodes (logical_not e) = logical_not e ∷ nodes e
  nodes (logical_and a b) = logical_and a b ∷ nodes a ++ nodes b
  nodes (logical_or a b) = logical_or a b ∷ nodes a ++ nodes b
  nodes (pointer_operate op a b) = pointer_operate op a b ∷ nodes a ++ nodes b
  nodes (conditional c a b) = conditional c a b ∷ nodes c ++ nodes a ++ nodes b
  nodes (comma es) = comma es ∷ nodes_all es
  nodes (store a b) = store a b ∷ nodes a ++ nodes b
  nodes (update a change b) = update a change b ∷ nodes a ++ nodes b
  nodes (step is_postfix change e) = step is_postfix change e ∷ nodes e
  nodes (assign t a b es) = assign t a b es ∷ nodes a ++ nodes b ++ nodes_all es
  nodes (temporary t e) = temporary t e ∷ nodes e
  nodes (call n t object es) = call n t object es ∷ nodes_maybe object ++ nodes_all es
  nodes (virtual_call f t e es) = virtual_call f t e es ∷ nodes e ++ nodes_all es
  nodes (pointer_call object e t es) = pointer_call object e t es ∷ nodes_maybe object ++ nodes e ++ nodes_all es
  nodes (new t e) = new t e ∷ nodes e
  nodes (new_array t a b) = new_array t a b ∷ nodes a ++ nodes b
  nodes (delete t e) = delete t e ∷ nodes e
  nodes (delete_array t e) = delete_array t e ∷ nodes e
  nodes (build n t es) = build n t es ∷ nodes_all es
  nodes (copy t e es) = copy t e es ∷ nodes e ++ nodes_all es
  nodes (each e) = each e ∷ nodes e
  nodes (list es rest) = list es rest ∷ nodes_all es ++ nodes rest
  nodes (string bytes) = string bytes ∷ []
  nodes (bind h e) = bind h e ∷ nodes e
  nodes zeros = zeros ∷ []
  nodes blank = blank ∷ []
  nodes (full e) = full e ∷ nodes e
  nodes (block es) = block es ∷ nodes_all es
  nodes (sequence es) = sequence es ∷ nodes_all es
  nodes (declare i t e) = declare i t e ∷ nodes e
  nodes (once n e) = once n e ∷ nodes e
  nodes (branch c a b) = branch c a b ∷ nodes c ++ nodes a ++ nodes_maybe b
  nodes (loop f c e s) = loop f c e s ∷ nodes_maybe c ++ nodes_maybe e ++ nodes s
  nodes (switch e es) = switch e es ∷ nodes e ++ nodes_all es
  nodes (case_label z) = case_label z ∷ []
  nodes default_label = default_label ∷ []
  nodes leave = leave ∷ []
  nodes continue = continue ∷ []
  nodes (give e) = give e ∷ nodes_maybe e
  nodes (parts ps s) = parts ps s ∷ nodes_parts ps ++ nodes s

  pub nodes_all : Cores → List Core
  nodes_all none = []
  nodes_all (more e es) = nodes e ++ nodes_all es

  pub nodes_maybe : MaybeCore → List Core
  nodes_maybe absent = []
  nodes_maybe (given e) = nodes e

  pub nodes_parts : Parts → List Core
  nodes_parts no_parts = []
  nodes_parts (part w e rest) = nodes e ++ nodes_parts rest
