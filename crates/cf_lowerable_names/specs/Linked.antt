-- Whether names are lowered, in the code's lists.
use Rattle.std.specs.Prelude.{Bool, ◌&&◌, List, map}
use Rattle.std.specs.List.{list_all}
use Rattle.cc_whole.specs.Known.{Named}
use Rattle.cc_whole.specs.Plain.{Item}
use Rattle.cc_whole.specs.Valid.{named_by as its_meaning}
use Rattle.cf_core.specs.FromTypes.{Tables}
use Rattle.cf_plain.specs.declared.unit.PlainFn.{PlainFn}
use Rattle.cf_plain.specs.declared.unit.PlainStatic.{PlainStatic}
use Rattle.cf_lower_program.specs.Names.{may_be_function, may_be_object}
use Rattle.cf_lowerable_links.specs.Fits.{fits, named_fits}
use Rattle.cf_lowerable_names.specs.Given.{named_by}

-- what is named, where names mean this
abbrev pub all_named : List Named → List Item → Bool
all_named known named = list_all (named_fits known) named

-- by functions
abbrev pub bodies_fit : List Named → Tables → List PlainFn → Bool
bodies_fit known tables fs = list_all (λ (f : PlainFn). all_named known (named_by tables f.body)) fs

-- by initialisers
abbrev pub starts_fit : List Named → Tables → List PlainStatic → Bool
starts_fit known tables xs = list_all (λ (x : PlainStatic). all_named known (named_by tables x.start)) xs

-- what has a name
abbrev pub functions_named : List PlainFn → Bool
functions_named fs = list_all (λ (f : PlainFn). may_be_function f.name) fs

abbrev pub statics_named : List PlainStatic → Bool
statics_named xs = list_all (λ (x : PlainStatic). may_be_object x.name) xs

-- items, and what is named, where names mean this
abbrev pub items_fit : List Named → List Item → Tables → List PlainFn → List PlainStatic → Bool
items_fit known items tables fs xs = list_all (fits known) items && (bodies_fit known tables fs && starts_fit known tables xs)

-- all, where these are the items of the file's C
abbrev pub parts_fit : List Item → Tables → List PlainFn → List PlainStatic → Bool
parts_fit items tables fs xs = functions_named fs && (statics_named xs && items_fit (map its_meaning items) items tables fs xs)
