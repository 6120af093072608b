use Rattle.std.proofs.Common.{length, sym}
use Rattle.std.proofs.lemmas.List.{length-map}
use Rattle.cc_whole_placed.specs.Seen.{placed_of}
use Rattle.cc_whole_linker.specs.Rules.{seen}
use Rattle.cc_whole_linker.proofs.LastLaws.{placed-before}
use Rattle.cc_whole_linker.proofs.earlier.Earlier.of.Goals as goal

pub invariant_of-result : goal.invariant_of-result
invariant_of-result c =
    placed-before (seen c.args.before.now) (placed_of c.args.placed.now) c.args.places.now c.name_of.result.now (length c.args.before.now) c.place_at-last.result
    c.requires c.name_of.ensures (sym (length-map c.args.before.now placed_of)) c.place_at-last.ensures
