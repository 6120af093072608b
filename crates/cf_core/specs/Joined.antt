-- The files of a program joined by link names.
use Rattle.std.specs.Prelude.{ℕ, suc, Bool, true, false, ◌&&◌, not, if◌then◌else◌, List, [], ◌∷◌, ◌++◌, None, Some, codes, decimal, map, filter, bytes_eq, Option, option_map, is_some}
use Rattle.std.specs.List.{list_any}
use Rattle.cf_core.specs.Types.{Name, void, gives}
use Rattle.cf_core.specs.Classes.{Class}
use Rattle.cf_core.specs.Core.{Core, Cores, MaybeCore, Parts, Target, direct, dispatched, Holder, no_temporary, local_temporary, static_temporary, none, more, absent, given, no_parts, part, plain_function, Function, Static, CoreFile, number, text, this, local, static_object, function, member, read, address, dereference, decay, index, convert, up, down, from_void, to_member, data_pointer, function_pointer, through, operate, unary, logical_not, logical_and, logical_or, pointer_operate, conditional, comma, store, update, step, assign, temporary, call, virtual_call, pointer_call, new, new_array, delete, delete_array, build, copy, each, list, string, bind, zeros, blank, full, block, sequence, declare, once, branch, loop, switch, case_label, default_label, leave, continue, give, parts}
use Rattle.cf_core.specs.Calls.{Setting, Program}

-- The names of functions and objects are replaced.

abbrev pub renamed_target : (Name → Name) → Target → Target
renamed_target r (direct f) = direct (r f)
renamed_target r (dispatched f) = dispatched f

abbrev pub renamed_holder : (Name → Name) → Holder → Holder
renamed_holder r no_temporary = no_temporary
renamed_holder r (local_temporary i t) = local_temporary i t
renamed_holder r (static_temporary n) = static_temporary (r n)

module _ (r : Name → Name) where
  abbrev mutual
    pub renamed : Core → Core
    renamed (number z) = number z
    renamed (text j bytes) = text j bytes
    renamed this = this
    renamed (local i) = local i
    renamed (static_object n t) = static_object (r n) t
    renamed (function n t) = function (r n) t
    renamed (member e i) = member (renamed e) i
    renamed (read e) = read (renamed e)
    renamed (address e) = address (renamed e)
    renamed (dereference e) = dereference (renamed e)
    renamed (decay e) = decay (renamed e)
    renamed (index a b) = index (renamed a) (renamed b)
    renamed (convert t e) = convert t (renamed e)
    renamed (up path e) = up path (renamed e)
    renamed (down c path e) = down c path (renamed e)
    renamed (from_void t e) = from_void t (renamed e)
    renamed (to_member path e) = to_member path (renamed e)
    renamed (data_pointer i) = data_pointer i
    renamed (function_pointer t) = function_pointer (renamed_target r t)
    renamed (through a b) = through (renamed a) (renamed b)
    renamed (operate op k a b) = operate op k (renamed a) (renamed b)
    renamed (unary op k e) = unary op k (renamed e)
    renamed (logical_not e) = logical_not (renamed e)
    renamed (logical_and a b) = logical_and (renamed a) (renamed b)
    renamed (logical_or a b) = logical_or (renamed a) (renamed b)
    renamed (pointer_operate op a b) = pointer_operate op (renamed a) (renamed b)
    renamed (conditional c a b) = conditional (renamed c) (renamed a) (renamed b)
    renamed (comma es) = comma (renamed_all es)
    renamed (store a b) = store (renamed a) (renamed b)
    renamed (update a change b) = update (renamed a) change (renamed b)
    renamed (step is_postfix change e) = step is_postfix change (renamed e)
    renamed (assign t a b es) = assign t (renamed a) (renamed b) (renamed_all es)
    renamed (temporary t e) = temporary t (renamed e)
    renamed (call n t object es) = call (r n) t (renamed_maybe object) (renamed_all es)
    renamed (virtual_call f t e es) = virtual_call f t (renamed e) (renamed_all es)
    renamed (pointer_call object e t es) = pointer_call (renamed_maybe object) (renamed e) t (renamed_all es)
    renamed (new t e) = new t (renamed e)
    renamed (new_array t a b) = new_array t (renamed a) (renamed b)
    renamed (delete t e) = delete t (renamed e)
    renamed (delete_array t e) = delete_array t (renamed e)
    renamed (build n t es) = build (r n) t (renamed_all es)
    renamed (copy t e es) = copy t (renamed e) (renamed_all es)
    renamed (each e) = each (renamed e)
    renamed (list es rest) = list (renamed_all es) (renamed rest)
    renamed (string bytes) = string bytes
    renamed (bind h e) = bind (renamed_holder r h) (renamed e)
    renamed zeros = zeros
    renamed blank = blank
    renamed (full e) = full (renamed e)
    renamed (block es) = block (renamed_all es)
    renamed (sequence es) = sequence (renamed_all es)
    renamed (declare i t e) = declare i t (renamed e)
    renamed (once n e) = once (r n) (renamed e)
    renamed (branch c a b) = branch (renamed c) (renamed a) (renamed_maybe b)
    renamed (loop f c e s) = loop f (renamed_maybe c) (renamed_maybe e) (renamed s)
    renamed (switch e es) = switch (renamed e) (renamed_all es)
    renamed (case_label z) = case_label z
    renamed default_label = default_label
    renamed leave = leave
    renamed continue = continue
    renamed (give e) = give (renamed_maybe e)
    renamed (parts ps s) = parts (renamed_parts ps) (renamed s)

    pub renamed_all : Cores → Cores
    renamed_all none = none
    renamed_all (more e es) = more (renamed e) (renamed_all es)

    pub renamed_maybe : MaybeCore → MaybeCore
    renamed_maybe absent = absent
    renamed_maybe (given e) = given (renamed e)

    pub renamed_parts : Parts → Parts
    renamed_parts no_parts = no_parts
    renamed_parts (part w e rest) = part w (renamed e) (renamed_parts rest)

-- What is local to a file goes by its link name with `__u` and the file's number, from 1 (3.3).

abbrev pub local_names : CoreFile → List Name
local_names file =
    map (λ (f : Function). f.name) (filter (λ (f : Function). f.is_local) file.functions)
    ++ map (λ (x : Static). x.name) (filter (λ (x : Static). x.is_local) file.statics)

abbrev pub in_file : ℕ → Name → Name
in_file k name = name ++ codes "__u" ++ decimal k

abbrev pub name_in : ℕ → List Name → Name → Name
name_in k names name = if list_any (bytes_eq name) names then in_file k name else name

abbrev pub function_in_file : (Name → Name) → Function → Function
function_in_file r f = record f { name = r f.name; body = renamed r f.body }

abbrev pub static_in_file : (Name → Name) → Static → Static
static_in_file r x = record x { name = r x.name; start = renamed r x.start; owner = option_map r x.owner }

-- a file with the names of its local things replaced
abbrev pub own_names : ℕ → CoreFile → CoreFile
own_names k file =
    let r = name_in k (local_names file) in
    record file { functions = map (function_in_file r) file.functions; statics = map (static_in_file r) file.statics }

-- Shared things stand once, as in their first file.

abbrev pub new_functions : List Function → List Function → List Function
new_functions found [] = []
new_functions found (f ∷ rest) =
    (if list_any (λ (g : Function). bytes_eq g.name f.name) found then [] else f ∷ []) ++ new_functions found rest

abbrev pub new_statics : List Static → List Static → List Static
new_statics found [] = []
new_statics found (x ∷ rest) =
    (if list_any (λ (y : Static). bytes_eq y.name x.name) found then [] else x ∷ []) ++ new_statics found rest

abbrev pub new_classes : List Class → List Class → List Class
new_classes found [] = []
new_classes found (c ∷ rest) =
    (if list_any (λ (d : Class). bytes_eq d.code c.code) found then [] else c ∷ []) ++ new_classes found rest

-- Initialisers.

abbrev pub is_nothing : Core → Bool
is_nothing blank = true
is_nothing e = false

abbrev pub setting : List Static → Cores
setting [] = none
setting (x ∷ rest) = more (once x.name x.start) (setting rest)

abbrev pub file_initialiser : Name → List Static → List Function
file_initialiser name [] = []
file_initialiser name (x ∷ rest) = record {
  name = name;
  role = plain_function;
  type = gives void false;
  locals = [];
  body = block (setting (x ∷ rest));
  is_shared = false;
  is_local = false;
} ∷ []

-- A constant initialiser takes effect in its function, or in the file's initialising function where the object is no local.
abbrev pub owner_or : Name → Option Name → Name
owner_or name None = name
owner_or name (Some f) = f

abbrev pub sets_constant : Static → Bool
sets_constant x = x.is_constant && not (is_nothing x.start)

-- A local's own initialiser stands in its function, unless it is constant (6.7).
abbrev pub needs_initialiser : Static → Bool
needs_initialiser x = not x.is_constant && not (is_some x.owner)

abbrev pub constant_setting : Name → Static → Setting
constant_setting name x = record { function = owner_or name x.owner; object = x.name; start = x.start }

-- the program so far, and a further file with its number
abbrev pub with_file : Program → ℕ → CoreFile → Program
with_file P k file =
    let statics = new_statics P.statics file.statics in
    let name = in_file k (codes "__sti") in
    record {
      classes = P.classes ++ new_classes P.classes file.classes;
      functions = P.functions ++ new_functions P.functions file.functions;
      statics = P.statics ++ statics;
      constants = P.constants ++ map (constant_setting name) (filter sets_constant statics);
      initialisers = P.initialisers ++ file_initialiser name (filter needs_initialiser statics);
    }

abbrev pub with_files : Program → ℕ → List CoreFile → Program
with_files P k [] = P
with_files P k (file ∷ rest) = with_files (with_file P k (own_names k file)) (suc k) rest

-- the program of these files, in the order of the command line
abbrev pub program_of : List CoreFile → Program
program_of files = with_files (record { classes = []; functions = []; statics = []; constants = []; initialisers = [] }) 1 files
