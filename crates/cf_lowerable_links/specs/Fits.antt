-- Whether names are lowered, by the first item of each name.
use Rattle.std.specs.Prelude.{ℕ, nat_lt, Bool, ◌&&◌, List, map}
use Rattle.std.specs.List.{list_all}
use Rattle.cc_whole_tokens.specs.Token.{is_name}
use Rattle.cc_whole.specs.declared.unit.CParameter.{CParameter}
use Rattle.cc_whole.specs.Known.{Named, lookup}
use Rattle.cc_whole.specs.Plain.{Item, declares, declares_variable, defines, defines_variable, name_of}
use Rattle.cc_whole.specs.Spellable.{spellable_prototype, spellable_start}
use Rattle.cc_whole.specs.Valid.{agrees, named_by}
use Rattle.cf_plain.specs.Plain.{PlainFunction, PlainStatic, PlainFile}
use Rattle.cf_lower.specs.Functions.{named_in}
use Rattle.cf_lower_program.specs.Names.{has_own_type, is_well_named, may_be_function, may_be_object}

-- the first item of its name has its type
abbrev pub has_one_type : List Named → Item → Bool
has_one_type known i = agrees (lookup known (name_of i)) (named_by i).meant

abbrev pub are_names : List CParameter → Bool
are_names ps = list_all (λ (p : CParameter). is_name p.name) ps

abbrev pub are_bytes : List ℕ → Bool
are_bytes bytes = list_all (λ b. nat_lt b 256) bytes

-- an item but for its body has a text
abbrev pub is_spelled : Item → Bool
is_spelled (declares p) = spellable_prototype p
is_spelled (declares_variable t name) = is_name name
is_spelled (defines f) = spellable_prototype f.prototype
is_spelled (defines_variable v) = is_name v.name && spellable_start v.initialiser

-- what is asked of an item, where names mean this
abbrev pub fits : List Named → Item → Bool
fits known i = has_own_type i && (has_one_type known i && is_spelled i)

-- and of one that an action names
abbrev pub named_fits : List Named → Item → Bool
named_fits known i = is_well_named i && fits known i

-- and of a file, where these are the items of its C
abbrev pub names_fit : List Item → PlainFile → Bool
names_fit items file =
    list_all (λ (f : PlainFunction). may_be_function f.name) file.functions
    && (list_all (λ (x : PlainStatic). may_be_object x.name) file.statics && (list_all (fits (map named_by items)) items && list_all (named_fits (map named_by items)) (named_in file)))
