use Rattle.cf_core_run.proofs.NearLaws.{whole-list}
use Rattle.cf_core_run.specs.Nearer.{weight}
use Rattle.std.proofs.Common.{◌≡◌, ◌∙◌, ◌-◌, Some, ap, sym, reverse, length, arith, rules, ◌+◌, ◌^◌, ◌<◌}
use Rattle.std.specs.Prelude.{nat_le, true, false}
use Rattle.cf_core.specs.Core.{list}
use Rattle.cf_run_tree.specs.Tree.{core_of}
use Rattle.cf_core_place.specs.Routes.{row_place}
use Rattle.cf_core_objects.specs.declared.answer.Stop.TheVariants as stop
use Rattle.cf_core_objects.specs.Store.{state_of}
use Rattle.cf_core_run.specs.Going.{valued, cores, elements_from, on_value, finish, world_of}
use Rattle.cf_core_run.proofs.Laws.{value-stopped}
use Rattle.cf_core_run.proofs.ListLaws.{list-goes, list-many}
use Rattle.cf_core_run.proofs.state.Machine.begin_elements.Goals as goal

pub returns-then-fits-clause-comes : goal.returns-then-fits-clause-comes
returns-then-fits-clause-comes c = λ p. record {
  same = λ T o. ap (λ r. finish T p o (on_value T p (reverse c.args.self.now.stack.items) r))
      (list-goes T p c.args.self.now.fuel (row_place c.args.array.row) (state_of T c.args.self.now.entered c.args.self.now.objects) (world_of c.args.self.now.ticks o) c.args.all.now c.args.filler.now c.args.array.count (c.requires T)
      (let h : nat_le (length c.args.all.now) c.args.array.count ≡ true = sym c.fits.ensures ∙ c.if-fits.true in h)
      ∙ ap (λ n. elements_from T p c.args.self.now.fuel 0 (row_place c.args.array.row) n c.args.all.now c.args.filler.now (state_of T c.args.self.now.entered c.args.self.now.objects) (world_of c.args.self.now.ticks o))
      (let h : c.args.array.count ≡ c.args.array.count - 0 = omega arith in h));
}

pub returns-else-fits-clause-comes : goal.returns-else-fits-clause-comes
returns-else-fits-clause-comes c = λ p. value-stopped p c.args.self.now (λ T. valued T p c.args.self.now.fuel (list (cores T p c.args.all.now) (core_of T p c.args.filler.now)) (Some (row_place c.args.array.row))) stop.Malformed
    (λ T w. list-many T p c.args.self.now.fuel (row_place c.args.array.row) (state_of T c.args.self.now.entered c.args.self.now.objects) w c.args.all.now c.args.filler.now c.args.array.count (c.requires T)
    (let h : nat_le (length c.args.all.now) c.args.array.count ≡ false = sym c.fits.ensures ∙ c.if-fits.false in h))

pub returns-then-fits-clause-within : goal.returns-then-fits-clause-within
returns-then-fits-clause-within c = λ p. omega (arith, whole-list c.args.array.count (3 + weight c.args.filler.now) (let h : c.args.array.count < 2 ^ 32 = search rules in h))
