-- Files: `First`, the core of a file, or the first rule that it breaks and where (3.4, 7.4, 17).
use Rattle.std.specs.Prelude.{ℕ, Bool, true, false, not, ◌&&◌, ◌||◌, if◌then◌else◌, List, [], ◌∷◌, ◌++◌, length, map, codes, Option, None, Some, slice_get, is_some, bytes_eq}
use Rattle.std.specs.List.{list_all}
use Rattle.std.specs.Option.{option_map_or, option_or}
use Rattle.cf_base.specs.declared.limit.Bound.{Bound}
use Rattle.cf_types.specs.Table.{Table}
use Rattle.cf_syntax.specs.declared.name.Last.{Last}
use Rattle.cf_syntax.specs.declared.name.Last.TheVariants as last
use Rattle.cf_syntax.specs.declared.name.Name.{Name as WrittenName}
use Rattle.cf_unit.specs.declared.declaration.Declaration.{Declaration}
use Rattle.cf_unit.specs.declared.declaration.InitDeclarator.{InitDeclarator}
use Rattle.cf_unit.specs.declared.file.Item.{Item}
use Rattle.cf_unit.specs.declared.file.Item.TheVariants as item
use Rattle.cf_unit.specs.declared.file.Linkage.{Linkage}
use Rattle.cf_unit.specs.declared.file.Unit.{Unit as FileTree}
use Rattle.cf_core.specs.FromUnit.{Unit as CoreUnit}
use Rattle.cf_elab.specs.Env.{Env, Name, Hand, file_level, Extent, Entity, object, functions, FunctionEntry}
use Rattle.cf_elab.specs.Access.{outside}
use Rattle.cf_elab.specs.Answer.{Answer, Made, Refused, Passed, Elab, ◌>>=◌, ◌>>◌, done, need, known, changed, for_each}
use Rattle.cf_elab.specs.Made.{int, void, function_type}
use Rattle.cf_elab.specs.Names.{declare, entity_named}
use Rattle.cf_elab.specs.Functions.{is_library}
use Rattle.cf_elab.specs.Specifiers.{earlier}
use Rattle.cf_elab.specs.Expression.{declared}
use Rattle.cf_elab.specs.Trees.{declaration, definition}
use Rattle.cf_elab.specs.Scan.{defined_names}

-- ---- the beginning: the three library functions are declared in every file

abbrev pub no_table : Table
no_table = record { types = []; funs = [] }

abbrev pub file_hand : Hand
file_hand = record {
  link = codes "__sti";
  kind = file_level;
  asker = outside [] 0;
  result = 0;
  locals = [];
  literals = 0;
  statics = 0;
  breaks = false;
  continues = false;
}

abbrev pub first_env : Extent → List Name → Env
first_env extent defines = record {
  extent = extent;
  defines = defines;
  types = no_table;
  classes = record { labels = []; enums = []; defined = [] };
  open_classes = [];
  scopes = record { outer = []; inner = [] };
  entities = [];
  linked = [];
  entries = [];
  member_defaults = [];
  hand = file_hand;
  functions = [];
  statics = [];
}

abbrev pub library_entry : Name → ℕ → FunctionEntry
library_entry name t = record {
  name = name;
  link = name;
  type = t;
  defaults = [];
  at = 0;
  is_defined = false;
  is_internal = false;
}

abbrev pub library : Name → ℕ → List ℕ → Elab (Unit {0})
library name result params = do
  t ← function_type result params false
  env ← known
  changed (λ e. record e { entries = e.entries ++ library_entry name t ∷ [] })
  declare name (functions (length env.entries ∷ []))

abbrev pub beginning : Elab (Unit {0})
beginning = do
  i ← int
  v ← void
  library (codes "putchar") i (i ∷ [])
  library (codes "getchar") i []
  library (codes "exit") v (i ∷ [])

-- ---- linkage specifications: of the three library functions, with "C"; any other is K48 (7.4)

abbrev pub entry_is_library : Option FunctionEntry → Bool
entry_is_library None = false
entry_is_library (Some f) = is_library f.link

abbrev pub names_library : Env → Option Entity → Bool
names_library env (Some (functions fs)) = list_all (λ f. entry_is_library (slice_get env.entries f)) fs
names_library env other = false

abbrev pub declares_library : Env → Option WrittenName → Bool
declares_library env None = false
declares_library env (Some n) = by_last n.last
  where
    by_last : Last → Bool
    by_last (last.Ident name) = names_library env (entity_named env true name)
    by_last other = false

abbrev pub all_library : Env → Declaration → Bool
all_library env d = some d.declarators && list_all (λ (i : InitDeclarator). declares_library env (declared i.declarator).name) d.declarators
  where
    some : List InitDeclarator → Bool
    some [] = false
    some (i ∷ rest) = true

abbrev pub linkage : Linkage → Elab (Unit {0})
linkage l = do
  for_each (λ (d : Declaration). (declaration d).run >> done) l.declarations
  env ← known
  need (bytes_eq l.language.1 (codes "C") && list_all (all_library env) l.declarations) 48 l.at

-- ---- items in order

abbrev pub item_row : Item → Elab (Unit {0})
item_row (item.Function f) = (definition f).in_file
item_row (item.Declaration d) = (declaration d).run >> done
item_row (item.Linkage l) = linkage l

-- while definitions in other files are not built, each declared function and object is defined here
abbrev pub first_undefined : List FunctionEntry → Option ℕ
first_undefined [] = None
first_undefined (f ∷ fs) = if f.is_defined || is_library f.link then first_undefined fs else Some f.at

-- an object that is only declared
abbrev pub undefined_object : Entity → Option ℕ
undefined_object (object x) = if x.is_defined then None else Some x.at
undefined_object other = None

abbrev pub first_object : List Entity → Option ℕ
first_object [] = None
first_object (x ∷ xs) = option_or (undefined_object x) (first_object xs)

abbrev pub undefined_at : Env → Option ℕ
undefined_at env = earlier (first_undefined env.entries) (first_object env.entities)

abbrev pub all_defined : Elab (Unit {0})
all_defined = do
  env ← known
  need (env.extent.elsewhere || not (is_some (undefined_at env))) 48 (option_map_or (λ at. at) (undefined_at env) 0)

abbrev pub in_turn : List (Elab (Unit {0})) → Elab (Unit {0})
in_turn items = beginning >> for_each (λ (i : Elab (Unit {0})). i) items >> all_defined

abbrev pub core_unit : Env → CoreUnit
core_unit env = record { types = env.types; classes = env.classes; functions = env.functions; statics = env.statics }

-- the core of a file, the first broken rule and its place, or a limit
pub data First : Type 0 where
  Core : CoreUnit → First
  Broken : ℕ → ℕ → First
  Limit : Bound → ℕ → First

abbrev pub answer : Answer (Unit {0}) → First
answer (Made u env) = Core (core_unit env)
answer (Refused rule at) = Broken rule at
answer (Passed bound most) = Limit bound most

-- of items, with these forms built, where the items define these names
abbrev pub core_of_items : Extent → List Name → List (Elab (Unit {0})) → First
core_of_items extent defines items = answer (in_turn items (first_env extent defines))

abbrev pub elaboration : Extent → FileTree → First
elaboration extent u = core_of_items extent (defined_names u) (map item_row u.items)
