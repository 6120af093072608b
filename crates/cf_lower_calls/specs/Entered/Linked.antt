-- The C of a function in a linked program, in which nothing is static any more: a name that is local to its file has its own name there (3.3).
use Rattle.std.specs.Prelude.{false, List}
use Rattle.cf_core.specs.Classes.{Class}
use Rattle.cf_plain.specs.Plain.{PlainFunction}
use Rattle.cc_whole.specs.declared.unit.CPrototype.{CPrototype}
use Rattle.cc_whole.specs.Plain.{Function}
use Rattle.cf_lower.specs.Functions.{prototype, lowered_function}

abbrev pub shown_prototype : CPrototype → CPrototype
shown_prototype p = record p { is_static = false }

abbrev pub linked_function : List Class → PlainFunction → Function
linked_function classes f = record {
  is_shared = f.is_shared;
  prototype = shown_prototype (prototype f);
  body = (lowered_function classes f).body;
}
