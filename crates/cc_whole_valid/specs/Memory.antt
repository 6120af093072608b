-- Names in scope and what is known, as they stand in memory.
use Rattle.std.specs.Prelude.{ℕ, List, Option, map, option_map, reverse}
use Rattle.cc_whole.specs.declared.types.CSignature.{CSignature}
use Rattle.cc_whole.specs.Types.{signature_of}
use Rattle.cc_whole.specs.Known.{Meant, function, object, Named}
use Rattle.cc_whole.specs.Known as spec
use Rattle.cc_whole_valid.specs.declared.scope.Entity.{Entity}
use Rattle.cc_whole_valid.specs.declared.scope.Entity.TheVariants as entity
use Rattle.cc_whole_valid.specs.declared.scope.Entry.{Entry}
use Rattle.cc_whole_valid.specs.declared.signature.Signature.{Signature}
use Rattle.cc_whole_valid.specs.declared.signature.Signature.TheVariants as written
use Rattle.cc_whole_valid.specs.declared.around.Around.{Around}

abbrev pub meant_of : Entity → Meant
meant_of (entity.Function p) = function p.now
meant_of (entity.Object t) = object t

abbrev pub meant : Option Entity → Option Meant
meant = option_map meant_of

abbrev pub named_of : Entry → Named
named_of e = record { name = e.name.now; meant = meant_of e.entity }

-- the last one stands first
abbrev pub last_first : List Entry → List Named
last_first entries = reverse (map named_of entries)

abbrev pub names_of : List Named → List (List ℕ)
names_of names = map (λ (n : Named). n.name) names

abbrev pub type_at : Signature → CSignature
type_at (written.Declared p) = signature_of p.now
type_at (written.Written s) = s.now
type_at (written.Of result types) = record { result = result; parameters = types.now }

abbrev pub signature_at : Option Signature → Option CSignature
signature_at = option_map type_at

-- what is known, by the names in scope and what is around
abbrev pub known : List Named → Around → spec.Known
known names around = record {
  names = names;
  in_helper = around.in_helper;
  result = around.result;
  in_loop = around.in_loop;
  may_break = around.may_break;
}
