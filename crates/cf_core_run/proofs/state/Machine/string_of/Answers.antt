use Rattle.std.proofs.Common.{◌∙◌, Some, sym}
use Rattle.cf_core.specs.Core.{string}
use Rattle.cf_core_place.specs.Routes.{row_place}
use Rattle.cf_core_objects.specs.declared.answer.Stop.TheVariants as stop
use Rattle.cf_core_objects.specs.Store.{state_of}
use Rattle.cf_core_run.specs.Going.{valued, writing}
use Rattle.cf_core_run.proofs.Laws.{value-stopped}
use Rattle.cf_core_run.proofs.TemporaryLaws.{value-at}
use Rattle.cf_core_run.proofs.ListLaws.{string-goes, string-many}
use Rattle.cf_core_run.proofs.state.Machine.string_of.Goals as goal

pub returns-then-fits-clause-comes : goal.returns-then-fits-clause-comes
returns-then-fits-clause-comes c = λ p. value-at p c.args.self.now (λ T. valued T p c.args.self.now.fuel (string c.args.bytes.now) (Some (row_place c.args.array.row))) (λ T. writing T p c.character_kind-kind.result (row_place c.args.array.row) c.args.bytes.now) c.write.result c.write.new.self (c.write.ensures.comes p)
    (λ T w. string-goes T p c.args.self.now.fuel (row_place c.args.array.row) (state_of T c.args.self.now.entered c.args.self.now.objects) w c.args.bytes.now c.args.array.count c.character_kind-kind.result (c.requires T) (sym c.fits.ensures ∙ c.if-fits.true) (c.character_kind-kind.ensures T c.args.self.now.entered))

pub returns-else-fits-clause-comes : goal.returns-else-fits-clause-comes
returns-else-fits-clause-comes c = λ p. value-stopped p c.args.self.now (λ T. valued T p c.args.self.now.fuel (string c.args.bytes.now) (Some (row_place c.args.array.row))) stop.Malformed
    (λ T w. string-many T p c.args.self.now.fuel (row_place c.args.array.row) (state_of T c.args.self.now.entered c.args.self.now.objects) w c.args.bytes.now c.args.array.count (c.requires T) (sym c.fits.ensures ∙ c.if-fits.false))
