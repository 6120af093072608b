-- What a node of a core needs beyond the locals of its function: the locals that sequencing adds, and the temporaries of a full expression.
use Rattle.std.specs.Prelude.{ℕ, suc, ◌+◌, length, Bool, true, List, [], ◌∷◌, ◌++◌}
use Rattle.std.specs.List.{flat_map}
use Rattle.cf_core.specs.Types.{SourceType, parameters}
use Rattle.cf_core.specs.Core.{Core, Cores, MaybeCore, local_temporary, none, more, absent, given, member, read, address, dereference, decay, index, convert, up, down, from_void, to_member, through, operate, unary, logical_not, logical_and, logical_or, pointer_operate, conditional, comma, store, update, step, assign, temporary, call, virtual_call, pointer_call, new, new_array, delete, delete_array, build, copy, bind, declare, sequence, branch}
use Rattle.cf_core.specs.Nodes.{nodes}

-- A local of a function, by its number and with its type.
pub record Local : Type 0 where
  pub number : ℕ
  pub type : SourceType

-- The objects that a node makes by itself: those of the parameters of what it calls, in order, or a temporary (5.2.2, 12.2).
abbrev pub makes : Core → List SourceType
makes (call name t object args) = parameters t
makes (virtual_call signature t e args) = parameters t
makes (pointer_call object e t args) = parameters t
makes (build name t args) = parameters t
makes (temporary t e) = t ∷ []
makes e = []

-- The locals that are added for a node, in order: its own before those of its parts.
abbrev pub added : List Core → List SourceType
added es = flat_map makes es

-- how many these are
abbrev pub width : Core → ℕ
width e = length (added (nodes e))

abbrev pub width_maybe : MaybeCore → ℕ
width_maybe absent = 0
width_maybe (given e) = width e

abbrev pub width_all : Cores → ℕ
width_all none = 0
width_all (more e es) = width e + width_all es

-- locals of these types, numbered from the first
abbrev pub numbered : ℕ → List SourceType → List Local
numbered k [] = []
numbered k (t ∷ ts) = record { number = k; type = t } ∷ numbered (suc k) ts

abbrev pub numbers : ℕ → List SourceType → List ℕ
numbers k [] = []
numbers k (t ∷ ts) = k ∷ numbers (suc k) ts

-- A temporary of a full expression, and whether it is made in a branch of `&&`, `||` or `?:`: then it may not be there (12.2).
pub record Temporary : Type 0 where
  pub local : Local
  pub in_branch : Bool

-- The temporaries of an expression, in the order in which they are there; its locals are numbered from k. A temporary is there once its own
-- initialiser is done.
abbrev mutual
  pub temporaries : Bool → Core → ℕ → List Temporary
  temporaries b (temporary t e) k = temporaries b e (suc k) ++ record { local = record { number = k; type = t }; in_branch = b } ∷ []
  temporaries b (member e i) k = temporaries b e k
  temporaries b (read e) k = temporaries b e k
  temporaries b (address e) k = temporaries b e k
  temporaries b (dereference e) k = temporaries b e k
  temporaries b (decay e) k = temporaries b e k
  temporaries b (index e f) k = temporaries b e k ++ temporaries b f (k + width e)
  temporaries b (convert t e) k = temporaries b e k
  temporaries b (up path e) k = temporaries b e k
  temporaries b (down c path e) k = temporaries b e k
  temporaries b (from_void t e) k = temporaries b e k
  temporaries b (to_member path e) k = temporaries b e k
  temporaries b (through e f) k = temporaries b e k ++ temporaries b f (k + width e)
  temporaries b (operate op t e f) k = temporaries b e k ++ temporaries b f (k + width e)
  temporaries b (unary op t e) k = temporaries b e k
  temporaries b (logical_not e) k = temporaries b e k
  temporaries b (logical_and e f) k = temporaries b e k ++ temporaries true f (k + width e)
  temporaries b (logical_or e f) k = temporaries b e k ++ temporaries true f (k + width e)
  temporaries b (pointer_operate op e f) k = temporaries b e k ++ temporaries b f (k + width e)
  temporaries b (conditional c e f) k =
      temporaries b c k ++ temporaries true e (k + width c) ++ temporaries true f (k + width c + width e)
  temporaries b (comma es) k = temporaries_all b es k
  temporaries b (store e f) k = temporaries b e k ++ temporaries b f (k + width e)
  temporaries b (update e change f) k = temporaries b e k ++ temporaries b f (k + width e)
  temporaries b (step is_postfix change e) k = temporaries b e k
  temporaries b (assign t e f args) k = temporaries b e k ++ temporaries b f (k + width e)
  temporaries b (call name t object args) k =
      temporaries_maybe b object (k + length (parameters t)) ++ temporaries_all b args (k + length (parameters t) + width_maybe object)
  temporaries b (virtual_call signature t e args) k =
      temporaries b e (k + length (parameters t)) ++ temporaries_all b args (k + length (parameters t) + width e)
  temporaries b (pointer_call object e t args) k =
      temporaries_maybe b object (k + length (parameters t))
      ++ temporaries b e (k + length (parameters t) + width_maybe object)
      ++ temporaries_all b args (k + length (parameters t) + width_maybe object + width e)
  temporaries b (new t e) k = temporaries true e k
  temporaries b (new_array t n e) k = temporaries b n k
  temporaries b (delete t e) k = temporaries b e k
  temporaries b (delete_array t e) k = temporaries b e k
  temporaries b (build name t args) k = temporaries_all b args (k + length (parameters t))
  temporaries b (copy t e args) k = temporaries b e k
  temporaries b (bind h e) k = temporaries b e k
  temporaries b e k = []

  pub temporaries_all : Bool → Cores → ℕ → List Temporary
  temporaries_all b none k = []
  temporaries_all b (more e es) k = temporaries b e k ++ temporaries_all b es (k + width e)

  pub temporaries_maybe : Bool → MaybeCore → ℕ → List Temporary
  temporaries_maybe b absent k = []
  temporaries_maybe b (given e) k = temporaries b e k

-- The locals that a statement declares in the scope at hand, the newest first: a reference's temporary is there before the reference (6.7, 8.4.3).
abbrev pub held_by : Core → List Local
held_by (bind (local_temporary i t) e) = record { number = i; type = t } ∷ []
held_by e = []

abbrev mutual
  pub declared : Core → List Local
  declared (declare i t e) = record { number = i; type = t } ∷ held_by e
  declared (sequence es) = declared_all es
  declared (branch c a b) = declared_maybe b ++ declared a
  declared s = []

  pub declared_maybe : MaybeCore → List Local
  declared_maybe absent = []
  declared_maybe (given s) = declared s

  pub declared_all : Cores → List Local
  declared_all none = []
  declared_all (more s rest) = declared_all rest ++ declared s
