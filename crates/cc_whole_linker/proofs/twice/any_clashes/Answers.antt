use Rattle.std.proofs.Common.{◌∙◌, sym}
use Rattle.cc_whole_placed.specs.Seen.{placed_of}
use Rattle.cc_whole_linker.specs.Rules.{seen}
use Rattle.cc_whole_linker.proofs.EarlierLaws.{no-clash}
use Rattle.cc_whole_linker.proofs.twice.any_clashes.Goals as goal

pub returns-then-not-may_clash : goal.returns-then-not-may_clash
returns-then-not-may_clash c = sym (no-clash (placed_of c.args.placed.now) (seen c.args.before.now) (sym c.may_clash.ensures ∙ c.if-not-may_clash.true))
