use Rattle.cf_core_run.proofs.NearLaws.{weights-first, one-less}
use Rattle.cf_core_run.specs.Nearer.{weight, weights}
use Rattle.std.proofs.Common.{◌≤◌, ◌<◌, ap, reverse, rules, arith, ◌∙◌, ◌+◌}
use Rattle.cf_core_objects.specs.Store.{state_of}
use Rattle.cf_core_run.specs.Going.{on_value, finish, world_of, listing, listing_with}
use Rattle.cf_core_run.proofs.Laws.{nil, value-as}
use Rattle.cf_core_run.proofs.ListLaws.{listed-all, fill-goes, first-goes}
use Rattle.cf_core_run.proofs.state.Machine.next_element.Goals as goal

pub returns-then-listing-clause-comes : goal.returns-then-listing-clause-comes
returns-then-listing-clause-comes c = λ p. record {
  same = λ T o. ap (λ r. finish T p o (on_value T p (reverse c.args.self.now.stack.items) r))
      (listed-all T p c.args.self.now.fuel c.args.listing (state_of T c.args.self.now.entered c.args.self.now.objects) (world_of c.args.self.now.ticks o) (let h : c.args.listing.count ≤ c.args.listing.index = search rules in h));
}

pub returns-in-None-clause-comes : goal.returns-in-None-clause-comes
returns-in-None-clause-comes c = λ p. value-as p c.args.self.now (λ T. listing T p c.args.self.now.fuel c.args.listing) (λ T. listing_with T p c.args.self.now.fuel c.args.listing c.get.result.now)
    c.initialise_element.result c.initialise_element.new.self (c.initialise_element.ensures.comes p)
    (λ T s w. fill-goes T p c.args.self.now.fuel c.args.listing c.get.result.now s w (nil c.args.listing.rest.now c.in-None.ensures.cases) (let h : c.args.listing.index < c.args.listing.count = search rules in h) c.get.ensures)

pub returns-in-Some-clause-comes : goal.returns-in-Some-clause-comes
returns-in-Some-clause-comes c = λ p. value-as p c.args.self.now (λ T. listing T p c.args.self.now.fuel c.args.listing) (λ T. listing_with T p c.args.self.now.fuel (record c.args.listing { rest = c.in-Some.rest }) c.in-Some.first.now)
    c.initialise_element-in-Some.result c.initialise_element-in-Some.new.self (c.initialise_element-in-Some.ensures.comes p)
    (λ T s w. first-goes T p c.args.self.now.fuel c.args.listing c.in-Some.rest c.in-Some.first.now s w c.in-Some.ensures.cases.0 (let h : c.args.listing.index < c.args.listing.count = search rules in h))

pub returns-in-None-clause-within : goal.returns-in-None-clause-within
returns-in-None-clause-within c = λ p. omega (arith, c.initialise_element.ensures.within p, one-less c.args.listing.count c.args.listing.index (3 + weight c.args.listing.filler.now) (let h : c.args.listing.index < c.args.listing.count = search rules in h), ap weight c.get.ensures)

pub returns-in-Some-clause-within : goal.returns-in-Some-clause-within
returns-in-Some-clause-within c = λ p. omega (arith, c.initialise_element-in-Some.ensures.within p, one-less c.args.listing.count c.args.listing.index (3 + weight c.args.listing.filler.now) (let h : c.args.listing.index < c.args.listing.count = search rules in h), ap weights c.in-Some.ensures.cases.0 ∙ weights-first c.in-Some.first.now c.in-Some.rest.now)
