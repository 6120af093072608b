-- The steps of the rows that define objects, each under a name of its own that does not unfold: those before the parts of the initialiser are
-- elaborated, and those behind. `Rattle.cf_elab_declare.proofs.DefinesLaws.Rows` says that the rows are these steps.
use Rattle.std.specs.Prelude.{ℕ, ◌+◌, Bool, true, if◌then◌else◌, List, Option, None, Some, is_some}
use Rattle.cf_core.specs.declared.node.Core.TheVariants as node
use Rattle.cf_elab.specs.Answer.{Elab, ◌>>=◌, ◌>>◌, gives, known, hand_changed}
use Rattle.cf_elab.specs.Complete.{name_within}
use Rattle.cf_elab.specs.Env.{Name, local_home, static_home}
use Rattle.cf_elab.specs.Initial.{Start}
use Rattle.cf_elab.specs.Lists.{Tree, count_in}
use Rattle.cf_elab.specs.Made.{array_of}
use Rattle.cf_elab.specs.Objects as objects
use Rattle.cf_elab.specs.Objects.{Says, Written, Reached, variable_link, block_object}
use Rattle.cf_elab_declare.specs.Defines.Reached.{StaticNames, names_at, local_reached}

-- ---- an object of the file, behind its declaration

unfoldable pub file_added : Says → Bool → Start → Elab (Unit {0})
file_added d internal s = objects.define_static (objects.static_of (variable_link d.name) d.type s.node None s.is_constant internal)

unfoldable pub file_defined : Says → Bool → Option Written → Elab (Unit {0})
file_defined d internal w = do
  s ← objects.started (objects.static_keeper (variable_link d.name) None d.at) d.name d.at d.type w
  objects.need_constant d.at w s
  file_added d internal s

-- ---- an automatic object

unfoldable pub begin_local : ℕ → Name → ℕ → Elab ℕ
begin_local at name t = do
  i ← objects.new_local t
  objects.declare_in_block name at (block_object t (local_home i) at)
  gives i

unfoldable pub local_defined : ℕ → Name → ℕ → ℕ → Option Written → Elab Reached
local_defined at name t i w = do
  s ← objects.started objects.local_keeper name at t w
  gives (local_reached at t i (is_some w) s)

-- ---- a static object of a block

unfoldable pub begin_static : ℕ → Name → ℕ → Name → Elab (Unit {0})
begin_static at name t link = do
  hand_changed (λ h. record h { statics = h.statics + 1 })
  objects.declare_in_block name at (block_object t (static_home link) at)

unfoldable pub begin_static_local : ℕ → Name → ℕ → Elab StaticNames
begin_static_local at name t = do
  env ← known
  begin_static at name t (names_at env name).link
  gives (names_at env name)

unfoldable pub added : ℕ → ℕ → StaticNames → Start → Elab (List Reached)
added at t n s = do
  objects.define_static (objects.static_of n.link t (if s.is_constant then s.node else node.Blank at) (Some n.owner) s.is_constant true)
  gives (objects.reached at n.link s)

unfoldable pub static_defined : ℕ → Name → ℕ → StaticNames → Option Written → Elab (List Reached)
static_defined at name t n w = do
  s ← objects.started (objects.static_keeper n.link (Some n.owner) at) name at t w
  objects.need_constant at w s
  name_within n.link
  added at t n s

-- ---- an array whose initialiser gives the bound, by its outline

unfoldable pub array_given : ℕ → Tree → Elab ℕ
array_given u o = known >>= (λ env. array_of u (count_in env.types u o))
